use Rattle.std.proofs.Common.{◌++◌, ◌∷◌, [], length, sym, ap, ◌∙◌}
use Rattle.std.specs.Prelude.{slice_set}
use Rattle.spec_model.specs.declared.log.LogItem.{LogItem}
use Rattle.run_model.specs.Logs.{log_at}
use Rattle.replica_core.specs.Replicas.{known_to}
use Rattle.replica_core.proofs.Logged.{item_placed}
use Rattle.replica_core.proofs.replica.Replica.append.Goals as goal

pub apply-requires-clause-fits : goal.apply-requires-clause-fits
apply-requires-clause-fits c = item_placed c.args.spec.now c.args.self.now c.requires.next.0 c.args.item.now c.requires.store c.requires.place c.requires.next.1 c.requires.room

pub apply-requires-clause-next : goal.apply-requires-clause-next
apply-requires-clause-next c = ap (λ (i : LogItem). i.index) c.requires.next.1 ∙ sym (ap (λ (i : LogItem). length (log_at (known_to c.args.self.now) i.origin)) c.requires.next.1)

pub returns-clause-logs : goal.returns-clause-logs
returns-clause-logs c =
    let known = known_to c.args.self.now in
    c.apply.ensures.applied ∙ ap (λ (i : LogItem). slice_set known i.origin (log_at known i.origin ++ c.args.item.now ∷ [])) c.requires.next.1
