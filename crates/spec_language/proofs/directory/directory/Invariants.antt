use Rattle.std.proofs.Common.{length}
use Rattle.spec_language.proofs.Directories.{LeadsBehind}
use Rattle.spec_language.proofs.directory.directory.Given as goal

abbrev pub invariant-going : goal.invariant-going
invariant-going l = LeadsBehind l.by_name l.vars l.front

abbrev pub decreases-going : goal.decreases-going
decreases-going l = length l.front
