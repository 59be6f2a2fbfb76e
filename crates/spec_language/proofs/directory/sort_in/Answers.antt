use Rattle.std.proofs.Common.{sym, ap, ◌∙◌}
use Rattle.spec_language.proofs.Directories.{sort_known, found_sort}
use Rattle.spec_language.proofs.directory.sort_in.Goals as goal

pub returns-in-Some : goal.returns-in-Some
returns-in-Some c = ap sort_known (sym c.in-Some.is ∙ c.find.ensures) ∙ found_sort c.args.vars.now c.args.name.now

pub returns-in-None : goal.returns-in-None
returns-in-None c = ap sort_known (sym c.in-None.is ∙ c.find.ensures) ∙ found_sort c.args.vars.now c.args.name.now
