use Rattle.std.proofs.Common.{length, sym, refl, arith, to_z-of_z}
use Rattle.std.proofs.lemmas.Result.{err_from_is_err_and}
use Rattle.solver.specs.Answer.{Solved}
use Rattle.solver.proofs.Refusing.{accepted, symbols_in, not_refused, refused_by, at_n}
use Rattle.solver.proofs.SolePair.{only_one}
use Rattle.solver.proofs.TermOrder.{every_pair_leads}
use Rattle.solver.proofs.solve.Goals as goal

pub returns-in_err-check : goal.returns-in_err-check
returns-in_err-check g c =
    let field = c.args.field.now in
    let f = g.F.Field.means field in
    let w = g.met.F.Field.lawful field in
    let p = err_from_is_err_and c.from_residual.result c.from_residual.ensures.1 in
    record {
      answer = rw (p.1, p.2) (refused_by f w g.row.Q (g.met.F.Fixed.size field) c.args.g.now c.args.n c.args.r _ (to_z-of_z c.ranges.r) (length c.args.left.now) (length c.args.right.now) _ c.in_err-check.ensures, refl, refl);
      only = only_one f w;
      leads = every_pair_leads;
    }

pub invariant_of-congruence : goal.invariant_of-congruence
invariant_of-congruence g c =
    let field = c.args.field.now in
    let f = g.F.Field.means field in
    let w = g.met.F.Field.lawful field in
    let x = length c.args.left.now in
    let y = length c.args.right.now in
    let ok = accepted g.row.Q c.args.g.now c.args.n _ x y (sym c.in_ok-check.ensures) in
    record { few = omega (arith, ok.long, ok.few); row = symbols_in f w g.row.Q (g.met.F.Fixed.size field) c.args.g.now c.args.n c.args.r _ (to_z-of_z c.ranges.r) x y ok }

pub returns : goal.returns
returns g c =
    let field = c.args.field.now in
    let f = g.F.Field.means field in
    let w = g.met.F.Field.lawful field in
    let x = length c.args.left.now in
    let y = length c.args.right.now in
    let same = g.met.F.Fixed.size field in
    let back = to_z-of_z c.ranges.r in
    record {
      answer = (
        not_refused f w g.row.Q same c.args.g.now c.args.n c.args.r _ back x y c.in_ok-check.ensures,
        at_n f w g.row.Q same c.args.g.now c.args.n c.args.r _ back x y
            (λ n r. Solved f c.args.g.now n r c.args.left.now c.args.right.now c.least_pair.new.left c.least_pair.new.right c.least_pair.result)
            c.new.result.plus c.new.result.minus c.new.ensures c.least_pair.ensures (accepted g.row.Q c.args.g.now c.args.n _ x y (sym c.in_ok-check.ensures)),
      );
      only = only_one f w;
      leads = every_pair_leads;
    }
