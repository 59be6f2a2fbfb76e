use Rattle.std.proofs.Common.{◌≡◌, drop}
use Rattle.std.specs.List.{list_all}
use Rattle.spec_language.specs.Draft as drafts
use Rattle.spec_language.proofs.directory.are_in.Given as goal

abbrev pub invariant-loop-x : goal.invariant-loop-x
invariant-loop-x l = list_all (drafts.is_var l.vars) (drop l.x-index l.names) ≡ list_all (drafts.is_var l.vars) l.names
