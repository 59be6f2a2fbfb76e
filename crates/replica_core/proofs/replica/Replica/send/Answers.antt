use Rattle.std.proofs.Common.{ℕ, List, [], take, drop, ap, ◌∙◌}
use Rattle.std.specs.Prelude.{slice_index, slice_index_or}
use Rattle.spec_model.specs.declared.log.LogItem.{LogItem}
use Rattle.replica_core.proofs.Sending.{sent_fits}
use Rattle.replica_core.proofs.replica.Replica.send.Goals as goal

pub returns-clause-fits : goal.returns-clause-fits
returns-clause-fits c =
    let r = c.args.self.now in
    let seen : ℕ = slice_index (slice_index_or r.told c.args.to []) r.me in
    sent_fits c.args.setup.now r c.args.to c.args.number c.args.stamp c.cut.result c.in_ok-items.items c.in_ok-wants.wants c.requires.own c.requires.other c.cut.ensures
    (c.in_ok-items.ensures ∙ ap (λ k. take 16 (drop k c.log.result.now)) c.known_by.ensures ∙ ap (λ (log : List LogItem). take 16 (drop seen log)) c.log.ensures) c.in_ok-wants.ensures
