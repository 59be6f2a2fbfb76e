use Rattle.std.proofs.Common.{ap, ◌∙◌}
use Rattle.std.specs.Option.{unwrap_or}
use Rattle.causal_delivery.proofs.Admitting.{index_or}
use Rattle.message_drafts.proofs.front.count_in.Goals as goal

pub returns : goal.returns
returns c = c.unwrap_or.ensures ∙ ap (λ o. unwrap_or o 0) c.get.ensures ∙ index_or c.args.cut.now c.args.origin
