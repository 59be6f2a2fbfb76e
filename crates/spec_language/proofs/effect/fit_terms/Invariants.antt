use Rattle.std.proofs.Common.{◌≡◌, length}
use Rattle.spec_language.specs.Draft as drafts
use Rattle.spec_language.proofs.effect.fit_terms.Given as goal

abbrev pub invariant-fitting : goal.invariant-fitting
invariant-fitting l = drafts.fit_all (drafts.term_fits l.params) l.xs l.ss ≡ drafts.fit_all (drafts.term_fits l.params) l.terms l.sorts

abbrev pub decreases-fitting : goal.decreases-fitting
decreases-fitting l = length l.xs
