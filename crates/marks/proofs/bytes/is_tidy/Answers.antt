use Rattle.std.proofs.Common.{◌≡◌, ◌*◌, ◌/◌, ◌%◌, ◌^◌, ltb, get_or, sym, ap, ◌∙◌, arith, eq-eqb, ne_eqb}
use Rattle.std.proofs.lemmas.Nat.{one_shl, mod_below}
use Rattle.marks.proofs.Tidying.{tidy_part, tidy_whole, tidy_long, clean_part, clean_whole}
use Rattle.marks.proofs.bytes.is_tidy.Goals as goal

pub returns-else-map-bytes_for-clause-value : goal.returns-else-map-bytes_for-clause-value
returns-else-map-bytes_for-clause-value c =
    ne_eqb _ _ c.if-map-bytes_for.false ∙ sym (tidy_long c.args.n c.args.map.now (λ e. c.if-map-bytes_for.false (e ∙ sym c.bytes_for.ensures)))

pub returns-then-n-eq0 : goal.returns-then-n-eq0
returns-then-n-eq0 c =
    let long = c.if-map-bytes_for.true ∙ c.bytes_for.ensures in
    record { value = eq-eqb _ _ c.if-n-eq0.true ∙ sym (tidy_whole c.args.n _ long c.if-n-eq0.true); clean = λ _. clean_whole c.args.n _ long c.if-n-eq0.true }

pub returns-else-n-eq0 : goal.returns-else-n-eq0
returns-else-n-eq0 c =
    let n = c.args.n in
    let long = c.if-map-bytes_for.true ∙ c.bytes_for.ensures in
    let shifted : 1 * 2 ^ (n % 8) % 256 ≡ 2 ^ (n % 8) = one_shl (n % 8) 8 (mod_below n 8 (omega arith)) in
    let low : ltb (get_or c.args.map.now (n / 8) 0) (1 * 2 ^ (n % 8) % 256) ≡ ltb (get_or c.args.map.now (n / 8) 0) (2 ^ (n % 8)) = ap (ltb (get_or c.args.map.now (n / 8) 0)) shifted in
    record {
      value = low ∙ sym (tidy_part n c.args.map.now long c.if-n-eq0.false (omega (arith, c.type_inv.map (n / 8))));
      clean = λ e. clean_part n c.args.map.now long (sym low ∙ e);
    }
