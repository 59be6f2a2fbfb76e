use Rattle.std.proofs.Common.{ap, ◌∙◌}
use Rattle.run_model.specs.Levels.{is_met}
use Rattle.run_model.specs.Wants.{need_of}
use Rattle.rights_table.specs.Tables.{holding_in}
use Rattle.replica_core.proofs.Needed.{tells}
use Rattle.replica_core.proofs.replica.Replica.is_met.Goals as goal

pub returns : goal.returns
returns c =
    let setup = c.args.setup.now in
    let r = c.args.self.now in
    c.is_met.ensures ∙ ap (is_met setup.replicas (holding_in setup r.table)) c.need_of.ensures ∙ (tells c.tables_tell.ensures setup r c.requires.own).met (need_of c.args.want.now)
