use Rattle.std.proofs.Common.{ap, ◌∙◌}
use Rattle.spec_model.specs.declared.right.Amount.{Amount}
use Rattle.spec_model.specs.declared.right.Held.{Held}
use Rattle.spec_model.specs.declared.right.Lacking.{Lacking}
use Rattle.replica_core.proofs.Needed.{told_lacking}
use Rattle.replica_core.proofs.replica.Replica.lacking.Goals as goal

pub returns : goal.returns
returns c =
    let need = c.args.need.now in
    ap (λ (a : Amount). let l : Lacking = record { need = record { right = need.right; amount = a }; held = c.held-held.result } in l) c.in_ok-amount.ensures ∙ ap (λ (h : Held). let l : Lacking = record { need = need; held = h } in l) c.held-held.ensures
    ∙ told_lacking c.tables_tell.ensures c.args.setup.now c.args.self.now need c.requires.own
