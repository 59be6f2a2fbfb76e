-- Judging the cases of two operations, one after the other.
use Rattle.std.specs.Prelude.{◌≡◌, ◌⊎◌, ◌≤◌, true, false, List, [], ◌∷◌, ◌++◌, map, filter, length, None}
use Rattle.std.specs.List.{AllByRecursion, find}
use Rattle.certificate_check.specs.Checks.{target_refuted}
use Rattle.ground_clauses.specs.Conflicting.{IsTouchedCase}
use Rattle.ground_clauses.specs.declared.case.Case.{Case}
use Rattle.ground_clauses.specs.declared.clauses.Derivation.{Derivation}
use Rattle.reservation_plan.specs.Conflicts.{is_conflicting}
use Rattle.reservation_plan.specs.Ends.{ModelAt, ends}
use Rattle.reservation_plan.specs.declared.judging.Finding.{Finding}
use Rattle.reservation_plan.specs.declared.judging.Finding.TheVariants.{Conflicts, Harmless}
use Rattle.reservation_plan.specs.declared.judging.Judged.{Judged}
use Rattle.reservation_plan.specs.declared.judging.Judgements.{Judgements}
use Rattle.spec_model.specs.declared.spec.Spec.{Spec}

-- a right derivation for a clause, of fewer steps than a number of 32 bits counts
pub record IsRefuted (spec : Spec) (k : Case) (d : Derivation) : Type 0 where
  pub right : target_refuted spec k k.target d.steps ≡ true
  pub short : length d.steps ≤ 4294967294

abbrev pub IsFinding : Spec → Case → Finding → Type 0
IsFinding spec k (Conflicts m) = (is_conflicting spec k ≡ true) × ModelAt spec k k.target m
IsFinding spec k (Harmless d) = (is_conflicting spec k ≡ false) × IsRefuted spec k d

-- it is conflicting, or its derivation refutes it
pub record IsJudged (spec : Spec) (j : Judged) : Type 0 where
  pub known : (is_conflicting spec j.case ≡ true) ⊎ (target_refuted spec j.case j.case.target j.derivation.steps ≡ true)
  pub short : length j.derivation.steps ≤ 4294967294

abbrev pub case_of : Judged → Case
case_of j = j.case

-- what was found of these cases, none of which ends the analysis
pub record Judges (spec : Spec) (ks : List Case) (j : Judgements) : Type 0 where
  pub cases : map case_of j.judged ≡ ks
  pub sound : AllByRecursion (IsJudged spec) j.judged
  pub conflicts : j.conflicts ≡ filter (is_conflicting spec) ks
  pub goes : find (ends spec) ks ≡ None

-- of all cases those that are left are still to be judged
pub record Comes (spec : Spec) (all left : List Case) (j : Judgements) : Type 0 where
  pub seen : List Case
  pub whole : seen ++ left ≡ all
  pub judges : Judges spec seen j
  pub touched : AllByRecursion (IsTouchedCase spec) left

-- nothing was judged
abbrev pub JudgesNone : Judgements → Type 0
JudgesNone j = (spec : Spec) → Judges spec [] j

-- one case more
abbrev pub JudgesMore : Spec → Case → Judgements → Judgements → Type 0
JudgesMore spec k old new = (ks : List Case) → Judges spec ks old → Judges spec (ks ++ k ∷ []) new

abbrev pub judged_as : Case → Derivation → Judged
judged_as k d = record { case = k; derivation = d }

abbrev pub no_steps : Derivation
no_steps = record { steps = [] }

pub record AddsConflict (k : Case) (old new : Judgements) : Type 0 where
  pub judged : new.judged ≡ old.judged ++ judged_as k no_steps ∷ []
  pub conflicts : new.conflicts ≡ old.conflicts ++ k ∷ []

pub record AddsHarmless (k : Case) (d : Derivation) (old new : Judgements) : Type 0 where
  pub judged : new.judged ≡ old.judged ++ judged_as k d ∷ []
  pub conflicts : new.conflicts ≡ old.conflicts
