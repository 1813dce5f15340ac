-- The loop's turns, and what it returns.
use Rattle.std.proofs.Common.{ℕ, List, Some, vec_items, sym, ap, ◌∙◌, arith}
use Rattle.text.proofs.Reading.{spells_read, nothing_read}
use Rattle.text.proofs.Turns.{held_start, held_digit, held_space, held_stray, held_end, held_short}
use Rattle.text.proofs.line.read_numbers.Goals as goal
use Rattle.text.proofs.line.read_numbers.Goals.{in-32+in_ok-push-in-32, in-48-to-57, in_default-via-in-32+else-digits-gt0, in_default-via-in_default+then-b-lt48, in_default-via-in-48-to-57+else-digits-lt-MOST_DIGITS, in_default-via-in_default+else-b-lt48+else-b-lt58}

pub loop-b-init : goal.loop-b-init
loop-b-init c = held_start _ _ c.new-numbers.ensures.items

pub loop-b-preserved : goal.loop-b-preserved
loop-b-preserved c =
    let l = c.loop-b in
    let m = c.match-b in
    elim m.branch [
      | in-32+in_ok-push-in-32 w ↦
          held_space _ _ _ _ _ l.invariant c.loop-b-test.true (vec_items m.numbers) m.value m.digits
          w.in-32.is w.if-digits-gt0.true (ap vec_items w.numbers-is ∙ w.in_ok-push-in-32.ensures.items) w.value-is w.digits-is
      | in-48-to-57 w ↦
          held_digit _ _ _ _ _ l.invariant c.loop-b-test.true (vec_items m.numbers) m.value m.digits w.from.result
          (omega arith, omega arith) w.if-digits-lt-MOST_DIGITS.true (ap vec_items w.numbers-is) w.value-is (omega (arith, w.from.ensures)) w.digits-is
    ]

pub returns-in_default : goal.returns-in_default
returns-in_default c =
    let stray = held_stray _ _ _ _ _ c.loop-b.invariant c.loop-b-test.true in
    nothing_read _
    (elim c.in_default.branch [
      | in_default-via-in-32+else-digits-gt0 w ↦ stray (λ h few. omega arith) (λ h some. omega arith)
      | in_default-via-in_default+then-b-lt48 w ↦ stray (λ h few. omega arith) (λ h some. omega arith)
      | in_default-via-in-48-to-57+else-digits-lt-MOST_DIGITS w ↦ stray (λ h few. omega arith) (λ h some. omega arith)
      | in_default-via-in_default+else-b-lt48+else-b-lt58 w ↦ stray (λ h few. omega arith) (λ h some. omega arith)
    ])

pub returns-then-digits-eq0 : goal.returns-then-digits-eq0
returns-then-digits-eq0 c = nothing_read _ (held_short _ _ _ _ _ c.loop-b.invariant c.loop-b-test.false c.if-digits-eq0.true)

pub returns : goal.returns
returns c =
    spells_read _ _
    (held_end _ _ _ _ _ c.loop-b.invariant c.loop-b-test.false (omega arith) ∙ ap (λ (l : List ℕ). Some l) (sym c.in_ok-push.ensures.items))
