use Rattle.std.proofs.Common.{◌≡◌, ◌++◌, drop, length}
use Rattle.spec_language.specs.Draft as drafts
use Rattle.spec_language.proofs.draft.var_sorts.Given as goal

abbrev pub invariant-loop-x : goal.invariant-loop-x
invariant-loop-x l = (l.places ++ drafts.var_sorts (drop l.x-index l.vars) ≡ drafts.var_sorts l.vars) × (length l.places ≡ l.x-index)
