-- What is known of a call of solve that is not refused.
use Rattle.std.proofs.Common.{◌≡◌, ℕ, ◌<◌, ◌≤◌, true, List, length, ℤ, pos, negsuc, ◌+ℤ◌, ◌≤ℤ◌, Some, None, sym, subst, arith}
use Rattle.std.proofs.lemmas.Bool.Decides.{nat_tests}
use Rattle.std.proofs.lemmas.Int.{ints}
use Rattle.field.specs.Meaning.{Meaning, Laws}
use Rattle.field.specs.Symbols.{all_below, Within}
use Rattle.field.proofs.Symbols.{within_from}
use Rattle.solver.specs.Answer.{refusal_of}

-- a call that solve takes
pub record Accepted (q : ℕ) (g : List ℕ) (n : ℕ) (r : ℤ) (x y : ℕ) : Type 0 where
  pub long : length g ≡ n
  pub symbols : all_below q g ≡ true
  pub left_room : n < x
  pub right_room : n < y
  pub some : 0 < n
  pub few : n ≤ 512
  pub low : negsuc 510 ≤ℤ r
  pub high : r ≤ℤ pos 511

pub accepted : (q : ℕ) (g : List ℕ) (n : ℕ) (r : ℤ) (x y : ℕ) → refusal_of q g n r x y ≡ None → Accepted q g n r x y
accepted q g n r x y e = record {
  long = grind (arith, nat_tests);
  symbols = grind (arith, nat_tests);
  left_room = grind (arith, nat_tests);
  right_room = grind (arith, nat_tests);
  some = grind (arith, nat_tests);
  few = grind (arith, nat_tests);
  low = grind (arith, nat_tests, ints);
  high = grind (arith, nat_tests, ints);
}

-- for callers: such a call is not refused
pub accepts : (q : ℕ) (g : List ℕ) (n : ℕ) (r : ℤ) (x y : ℕ) → Accepted q g n r x y → refusal_of q g n r x y ≡ None
accepts q g n r x y a = grind (arith, nat_tests, ints, a)

-- A call with Q symbols, where Q is the field's q, and with the order r, which went through its bits as r'.
module _ (f : Meaning) (w : Laws f) (Q : ℕ) (same : f.q ≡ Q) (g : List ℕ) (n : ℕ) (r r' : ℤ) (back : r' ≡ r) (x y : ℕ) where
  pub symbols_in : Accepted Q g n r' x y → Within f.q g
  symbols_in a = within_from f.q g (omega (arith, w.q_low)) (subst (λ t. all_below t g ≡ true) (sym same) a.symbols)

  pub not_refused : None ≡ refusal_of Q g n r' x y → refusal_of f.q g n r x y ≡ None
  not_refused e = subst (λ t. refusal_of t g n r x y ≡ None) (sym same) (subst (λ t. refusal_of Q g n t x y ≡ None) back (sym e))

  pub refused_by : (k : ℕ) → Some k ≡ refusal_of Q g n r' x y → refusal_of f.q g n r x y ≡ Some k
  refused_by k e = subst (λ t. refusal_of t g n r x y ≡ Some k) (sym same) (subst (λ t. refusal_of Q g n t x y ≡ Some k) back (sym e))

  -- what holds of the count of g and of every order that l - m is, holds of n and r
  pub at_n : (S : ℕ → ℤ → Type 0) (l m : ℕ) → pos l ≡ r' +ℤ pos m → ((t : ℤ) → pos l ≡ t +ℤ pos m → S (length g) t) → Accepted Q g n r' x y → S n r
  at_n S l m is h a = subst (λ k. S k r) a.long (h r (subst (λ t. pos l ≡ t +ℤ pos m) back is))
