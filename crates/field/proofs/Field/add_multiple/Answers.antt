use Rattle.std.proofs.Common.{◌≡◌, get_or, ◌∙◌, rules}
use Rattle.field.proofs.Field.add_multiple.Goals as goal

pub returns : goal.returns
returns g c =
    let f = g.Self.Field.means c.args.self.now in
    let l = g.met.Self.Field.lawful c.args.self.now in
    record {
      done = λ i hf ht hc hx hz.
          let x = get_or c.args.from.now i 0 in
          let z = get_or c.args.to.now i 0 in
          let h = c.update.ensures.done i hf ht in
          let e : get_or c.update.new.row i 0 ≡ f.sum (f.prod c.args.c x) z = search rules in
          e ∙ l.sum_comm (f.prod c.args.c x) z (l.prod_in c.args.c x hc hx) hz;
      rest = c.update.ensures.rest;
    }
