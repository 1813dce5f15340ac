use Rattle.std.proofs.Common.{rules, ◌≡◌, ℕ, true, false, length, is_ok, sym, ◌∙◌, subst, arith}
use Rattle.field.specs.Symbols.{Within, all_below}
use Rattle.field.proofs.Symbols.{within_from}
use Rattle.code.specs.Shape.{shape}
use Rattle.code.specs.Words.{Word}
use Rattle.corrector.specs.SearchSteps.{Found, Repaired}
use Rattle.corrector.proofs.Deciding.{clean, all_zero, syndromes_in, modifies, untried, tested, failed}
use Rattle.corrector.proofs.received.Received.find_with.Goals as goal

pub write_syndromes-requires : goal.write_syndromes-requires
write_syndromes-requires g c =
    let self = c.args.self.now in
    let field = self.over.field.now in
    let size : (g.F.Field.means field).q ≡ g.row.Q = g.met.F.Fixed.size field in
    let inside : Within g.row.Q self.word.now = within_from g.row.Q self.word.now (omega (arith, size, (g.met.F.Field.lawful field).q_low)) self.symbols in
    (omega arith, (c.requires.syndromes, inside))

pub returns-then-is_below : goal.returns-then-is_below
returns-then-is_below g c =
    let self = c.args.self.now in
    let field = self.over.field.now in
    let f = g.F.Field.means field in
    let l = g.met.F.Field.lawful field in
    let size : f.q ≡ g.row.Q = g.met.F.Fixed.size field in
    let turn : f.m ≡ g.row.M = g.met.F.Fixed.turn field in
    let sh = shape self.over.code in
    let w = self.word.now in
    let erased = self.erased.now in
    let S = c.write_syndromes.new.syndromes in
    let zero : all_below 1 S ≡ true = sym c.is_below.ensures ∙ c.if-is_below.true in
    let long : length S ≡ sh.checks = c.write_syndromes.auto.syndromes ∙ c.requires.syndromes in
    subst (Found f sh erased w true) (sym c.copy_from_slice.ensures.after)
    (clean f l sh erased w (omega (arith, turn, self.over.fits)) (subst (λ (q : ℕ). Word q sh.n w) (sym size) (record { long = self.long; symbols = self.symbols }))
    (omega (arith, c.erasures-s.ensures, c.checks.ensures, c.if-s-checks.false)) (all_zero f l sh erased w w S long c.write_syndromes.ensures zero))

pub modify-requires-clause-symbols : goal.modify-requires-clause-symbols
modify-requires-clause-symbols g c =
    let self = c.args.self.now in
    let field = self.over.field.now in
    let f = g.F.Field.means field in
    let l = g.met.F.Field.lawful field in
    let size : f.q ≡ g.row.Q = g.met.F.Fixed.size field in
    let w = self.word.now in
    let S = c.write_syndromes.new.syndromes in
    let w_in : Within f.q w = within_from f.q w (omega (arith, l.q_low)) (subst (λ (q : ℕ). all_below q w ≡ true) (sym size) self.symbols) in
    subst (λ (q : ℕ). Within q S) size (syndromes_in f l (shape self.over.code) self.erased.now w S w_in (c.write_syndromes.auto.syndromes ∙ c.requires.syndromes) c.write_syndromes.ensures)

pub repair-requires : goal.repair-requires
repair-requires g c =
    let self = c.args.self.now in
    let field = self.over.field.now in
    let f = g.F.Field.means field in
    let l = g.met.F.Field.lawful field in
    let size : f.q ≡ g.row.Q = g.met.F.Fixed.size field in
    let code = self.over.code in
    let w = self.word.now in
    let w_in : Within f.q w = within_from f.q w (omega (arith, l.q_low)) (subst (λ (q : ℕ). all_below q w ≡ true) (sym size) self.symbols) in
    let row = modifies f l (shape code) self.erased.now w c.write_syndromes.new.syndromes c.modify.new.row w_in (c.write_syndromes.auto.syndromes ∙ c.requires.syndromes) self.wide c.write_syndromes.ensures c.modify.ensures in
    (omega arith, (c.erasures-s.ensures, (omega (arith, c.checks.ensures, c.if-s-checks.false, code.few), (row, c.requires.room))))

pub returns-in_err-repair : goal.returns-in_err-repair
returns-in_err-repair g c =
    let self = c.args.self.now in
    let field = self.over.field.now in
    let f = g.F.Field.means field in
    let sh = shape self.over.code in
    let u = c.repair.new.out in
    let refused : is_ok c.repair.result ≡ false = search rules in
    let failed : is_ok c.from_residual.result ≡ false = search rules in
    subst (λ done. Found f sh self.erased.now self.word.now done u) (sym failed)
    (untried f (g.met.F.Field.lawful field) sh self.erased.now self.word.now u (subst (λ done. Repaired f sh self.erased.now self.word.now done u) refused c.repair.ensures))

pub returns-then-not-is_below : goal.returns-then-not-is_below
returns-then-not-is_below g c =
    let self = c.args.self.now in
    let field = self.over.field.now in
    let f = g.F.Field.means field in
    let sh = shape self.over.code in
    let u = c.repair.new.out in
    let S = c.write_syndromes-2.new.syndromes in
    let accepted : is_ok c.repair.result ≡ true = search rules in
    let other : all_below 1 S ≡ false = sym c.is_below-2.ensures ∙ c.if-not-is_below.true in
    failed f (g.met.F.Field.lawful field) sh self.erased.now self.word.now u (subst (λ done. Repaired f sh self.erased.now self.word.now done u) accepted c.repair.ensures)
    S (c.write_syndromes-2.auto.syndromes ∙ c.modify.auto.row ∙ c.write_syndromes.auto.syndromes ∙ c.requires.syndromes) c.write_syndromes-2.ensures other

pub returns : goal.returns
returns g c =
    let self = c.args.self.now in
    let field = self.over.field.now in
    let f = g.F.Field.means field in
    let sh = shape self.over.code in
    let u = c.repair.new.out in
    let S = c.write_syndromes-2.new.syndromes in
    let accepted : is_ok c.repair.result ≡ true = search rules in
    let zero : all_below 1 S ≡ true = sym c.is_below-2.ensures ∙ c.if-not-is_below.false in
    tested f (g.met.F.Field.lawful field) sh self.erased.now self.word.now u (subst (λ done. Repaired f sh self.erased.now self.word.now done u) accepted c.repair.ensures)
    S (c.write_syndromes-2.auto.syndromes ∙ c.modify.auto.row ∙ c.write_syndromes.auto.syndromes ∙ c.requires.syndromes) c.write_syndromes-2.ensures zero
