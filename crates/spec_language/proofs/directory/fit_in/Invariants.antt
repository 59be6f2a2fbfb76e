use Rattle.std.proofs.Common.{◌≡◌, length}
use Rattle.spec_language.specs.Draft as drafts
use Rattle.spec_language.proofs.directory.fit_in.Given as goal

abbrev pub invariant-fitting : goal.invariant-fitting
invariant-fitting l = drafts.fit_all (drafts.is_plain l.vars) l.xs l.ss ≡ drafts.fit_all (drafts.is_plain l.vars) l.names l.sorts

abbrev pub decreases-fitting : goal.decreases-fitting
decreases-fitting l = length l.xs
