use Rattle.std.proofs.Common.{ap, ◌∙◌}
use Rattle.std.specs.Prelude.{is_some}
use Rattle.spec_language.specs.Draft.{is_var}
use Rattle.spec_language.proofs.Directories.{found_var}
use Rattle.spec_language.proofs.directory.is_in.Goals as goal

pub returns : goal.returns
unfolding is_var
returns c = c.is_some.ensures ∙ ap is_some c.find.ensures ∙ found_var c.args.vars.now c.args.name.now
