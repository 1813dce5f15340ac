use Rattle.std.proofs.Common.{◌≡◌, ℕ, ◌+◌, ◌-◌, ◌<◌, length, replicate, take, sym, refl, ap, ◌∙◌, subst, ap₂, add-zero, add-suc, add-one, arith, get_or-set_other}
use Rattle.field.specs.Meaning.{pow}
use Rattle.field.proofs.Powers as P
use Rattle.field.proofs.Parts.{cut}
use Rattle.code.specs.Shape.{shape}
use Rattle.encoder.proofs.Turns.{zeros_at, take_in, turned_part}
use Rattle.encoder.proofs.Generating.{generates_none, generates_more}
use Rattle.encoder.proofs.generator.Goals as goal

pub loop-j-init : goal.loop-j-init
loop-j-init g c =
    let field = c.args.over.now.field.now in
    let f = g.F.Field.means field in
    let b = (shape c.args.over.now.code).first in (
      generates_none f (g.met.F.Field.lawful field) b _ refl (λ i h. get_or-set_other (replicate 513 0) 0 i 1 0 (omega arith) ∙ zeros_at 513 i),
      ◌∙◌ {A = ℕ} c.power-root.ensures (ap (pow f f.a) (c.first_root.ensures ∙ sym (add-zero b))),
    )

pub multiply-requires : goal.multiply-requires
multiply-requires g c =
    let field = c.args.over.now.field.now in
    let f = g.F.Field.means field in
    let l = g.met.F.Field.lawful field in
    let n = c.loop-j.j + 2 - 0 in
    let root : c.loop-j.root < f.q = subst (λ n. n < f.q) (sym c.loop-j.invariant.1) (P.pow_in f l f.a _ l.a_high) in
    record {
      some = omega (arith, cut n c.loop-j.g (omega (arith, c.opposite.array_long)));
      factor = subst (λ n. n < f.q) (sym (c.opposite.ensures.within root)) (l.opp_in _ root);
      symbols = take_in f l n c.loop-j.g c.loop-j.invariant.0.within;
    }

pub loop-j-preserved : goal.loop-j-preserved
loop-j-preserved g c =
    let field = c.args.over.now.field.now in
    let f = g.F.Field.means field in
    let l = g.met.F.Field.lawful field in
    let b = (shape c.args.over.now.code).first in
    let j = c.loop-j.j in
    let old = c.loop-j.g in
    let n = j + 2 - 0 in
    let is = c.loop-j.invariant.1 in
    let short : length (take n old) ≡ n = cut n old (omega (arith, c.opposite.array_long)) in
    let root : c.loop-j.root < f.q = subst (λ n. n < f.q) (sym is) (P.pow_in f l f.a (b + j) l.a_high) in
    let a_is : c.power-a.result ≡ f.a = ◌∙◌ {A = ℕ} c.power-a.ensures (l.prod_one f.a l.a_high) in
    let a_in : c.power-a.result < f.q = subst (λ n. n < f.q) (sym a_is) l.a_high in (
      rw add-one (generates_more f l b j c.opposite.result old _ c.loop-j.invariant.0
          (c.opposite.ensures.within root ∙ ap f.opp is)
          (turned_part f c.opposite.result j n old c.multiply.new.g (omega arith) (omega arith) c.multiply.auto.g short c.multiply.ensures)),
      ◌∙◌ {A = ℕ} (c.product-root.ensures.within a_in root) (ap₂ f.prod a_is is ∙ ap (pow f f.a) (sym (add-suc b j) ∙ ap (λ n. b + n) (sym (add-one j)))),
    )
