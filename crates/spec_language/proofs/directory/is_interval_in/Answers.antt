use Rattle.std.proofs.Common.{sym, ap, ◌∙◌}
use Rattle.spec_language.proofs.Directories.{interval_known, found_interval}
use Rattle.spec_language.proofs.directory.is_interval_in.Goals as goal

pub returns-in-Some : goal.returns-in-Some
returns-in-Some c = ap interval_known (sym c.in-Some.is ∙ c.find.ensures) ∙ found_interval c.args.vars.now c.args.name.now

pub returns-in-None : goal.returns-in-None
returns-in-None c = ap interval_known (sym c.in-None.is ∙ c.find.ensures) ∙ found_interval c.args.vars.now c.args.name.now
