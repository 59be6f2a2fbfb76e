use Rattle.std.proofs.Common.{◌≡◌, subst}
use Rattle.std.specs.Prelude.{OnOk}
use Rattle.effect_model.proofs.Ranging.{both_listed}
use Rattle.effect_model.proofs.right_list.EntriesListing.list.Goals as goal

pub returns : goal.returns
returns c = subst (λ rs. OnOk c.list_literals-2.result (c.list_literals-2.new.out ≡ rs))
    (both_listed c.args.self.now.of c.args.self.now.clause.now c.args.args.now c.args.out.now c.list_literals.new.out c.as_slice-premise.result.now c.as_slice-conclusion.result.now c.as_slice-premise.ensures.value c.as_slice-conclusion.ensures.value c.in_ok-list_literals.ensures)
    c.list_literals-2.ensures
