-- A plan and its certificate, as pairs of operations are added.
use Rattle.std.specs.Prelude.{◌≡◌, ℕ, true, if◌then◌else◌, List, [], ◌∷◌, ◌++◌, length, map, flat_map, None, ◌<◌, ◌≤◌}
use Rattle.std.specs.List.{All, list_any, find, AllByRecursion, AllZip}
use Rattle.certificate_check.specs.Checks.{FewSteps, line_fits}
use Rattle.certificate_check.specs.Separation.{lock_fits, part_fits}
use Rattle.certificate_check.specs.declared.certificate.CertLine.{CertLine}
use Rattle.certificate_check.specs.declared.certificate.CertLine.TheVariants.{Refuted, SepLock, SepPart}
use Rattle.ground_clauses.specs.Cases.{CaseKnown, pair_cases}
use Rattle.ground_clauses.specs.declared.case.Case.{Case}
use Rattle.reservation_plan.specs.Derived.{derived_plan, locks_at, params_of, parts_at}
use Rattle.reservation_plan.specs.Ends.{ends}
use Rattle.reservation_plan.specs.Judging.{IsJudged, case_of}
use Rattle.reservation_plan.specs.declared.drafting.Draft.{Draft}
use Rattle.reservation_plan.specs.declared.drafting.Place.{Place}
use Rattle.reservation_plan.specs.declared.judging.Judged.{Judged}
use Rattle.reservation_plan.specs.declared.reserving.Conflict.{Conflict}
use Rattle.reservation_plan.specs.declared.reserving.Reservation.{Reservation}
use Rattle.reservation_plan.specs.declared.reserving.Reservation.TheVariants.{Lock, Nothing, Part}
use Rattle.spec_model.specs.declared.plan.LockKind.{LockKind}
use Rattle.spec_model.specs.declared.plan.Pair.{Pair}
use Rattle.spec_model.specs.declared.spec.Spec.{Spec}

-- declared operations of few parameters, and cases of declared operations and targets
pub record IsConflict (c : Conflict) : Type 0 where
  pub known_a : c.a < length c.spec.now.ops
  pub known_b : c.b < length c.spec.now.ops
  pub few_a : length (params_of c.spec.now c.a) ≤ 4
  pub few_b : length (params_of c.spec.now c.b) ≤ 4
  pub cases : All (CaseKnown c.spec.now) c.cases.now

abbrev pub locks_in : Reservation → List LockKind
locks_in Nothing = []
locks_in (Lock l) = l ∷ []
locks_in (Part l) = []

abbrev pub parts_in : Reservation → List LockKind
parts_in Nothing = []
parts_in (Lock l) = []
parts_in (Part l) = l ∷ []

-- the line of a case, by the reservation of its own pair and the place that this has in the plan
abbrev pub line_by : Spec → List LockKind → List LockKind → ℕ → ℕ → Judged → CertLine
line_by spec locks parts lock part j =
    if list_any (lock_fits spec j.case) locks then SepLock lock
    else if list_any (part_fits spec j.case) parts then SepPart part
    else Refuted j.derivation

abbrev pub line_at : Place → Judged → CertLine
line_at x j = line_by x.spec.now (locks_in x.reservation.now) (parts_in x.reservation.now) x.lock x.part j

abbrev pub IsKnown : Spec → Judged → Type 0
IsKnown spec j = CaseKnown spec j.case

-- a reservation is added to the others of its kind
pub record Keeps (r : Reservation) (old new : Draft) : Type 0 where
  pub locks : new.locks ≡ old.locks ++ locks_in r
  pub parts : new.parts ≡ old.parts ++ parts_in r
  pub lines : new.lines ≡ old.lines

-- what a pair adds
pub record AddsPair (spec : Spec) (p : Pair) (old new : Draft) : Type 0 where
  pub judged : List Judged
  pub cases : map case_of judged ≡ pair_cases spec p.a p.b
  pub sound : AllByRecursion (IsJudged spec) judged
  pub goes : find (ends spec) (pair_cases spec p.a p.b) ≡ None
  pub locks : new.locks ≡ old.locks ++ locks_at spec p
  pub parts : new.parts ≡ old.parts ++ parts_at spec p
  pub lines : new.lines ≡ old.lines ++ map (line_by spec (locks_at spec p) (parts_at spec p) (length old.locks) (length old.parts)) judged

abbrev pub cases_at : Spec → Pair → List Case
cases_at spec p = pair_cases spec p.a p.b

-- the draft after these pairs
pub record Drafts (spec : Spec) (pairs : List Pair) (d : Draft) : Type 0 where
  pub goes : find (ends spec) (flat_map (cases_at spec) pairs) ≡ None
  pub locks : d.locks ≡ flat_map (locks_at spec) pairs
  pub parts : d.parts ≡ flat_map (parts_at spec) pairs
  pub lines : AllZip (λ k l. line_fits spec (derived_plan spec) k l ≡ true) (flat_map (cases_at spec) pairs) d.lines
  pub short : AllByRecursion FewSteps d.lines
