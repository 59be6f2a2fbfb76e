use Rattle.std.proofs.Common.{◌≡◌, drop}
use Rattle.spec_language.specs.Draft as drafts
use Rattle.spec_language.proofs.places.sort_of_var.Given as goal

abbrev pub invariant-loop-x : goal.invariant-loop-x
invariant-loop-x l = drafts.sort_of_var (drop l.x-index l.vars) l.name ≡ drafts.sort_of_var l.vars l.name
