-- What each line adds to a plan and a certificate that are read.
use Rattle.std.specs.Prelude.{ℕ, ◌-◌, Bool, true, false, not, ◌&&◌, if◌then◌else◌, eqb, nat_lt, [], ◌∷◌, ◌++◌, length, Option, Some, None}
use Rattle.certificate_check.specs.Fitting.{has_pair, kind_fits, kind_named, shares_points}
use Rattle.certificate_check.specs.declared.certificate.CertLine.{CertLine}
use Rattle.certificate_check.specs.declared.certificate.CertLine.TheVariants.{Refuted, SepLock, SepPart}
use Rattle.certificate_check.specs.declared.draft.Draft.{Draft}
use Rattle.certificate_check.specs.declared.draft.Stage.{Stage}
use Rattle.certificate_check.specs.declared.draft.Stage.TheVariants as stages
use Rattle.certificate_lines.specs.declared.line.KindLine.{KindLine}
use Rattle.certificate_lines.specs.declared.line.TextLine.{TextLine}
use Rattle.certificate_lines.specs.declared.line.TextLine.TheVariants as lines
use Rattle.ground_clauses.specs.declared.clauses.Step.{Step}
use Rattle.line_text.specs.Reads.{◌>>=◌}
use Rattle.spec_model.specs.declared.plan.LockKind.{LockKind}
use Rattle.spec_model.specs.declared.spec.Spec.{Spec}

-- ---- where a text is

abbrev pub is_start : Stage → Bool
is_start stages.Start = true
is_start stages.Plan = false
is_start stages.Certificate = false
is_start stages.End = false

abbrev pub is_plan : Stage → Bool
is_plan stages.Start = false
is_plan stages.Plan = true
is_plan stages.Certificate = false
is_plan stages.End = false

abbrev pub is_certificate : Stage → Bool
is_certificate stages.Start = false
is_certificate stages.Plan = false
is_certificate stages.Certificate = true
is_certificate stages.End = false

abbrev pub is_end : Stage → Bool
is_end stages.Start = false
is_end stages.Plan = false
is_end stages.Certificate = false
is_end stages.End = true

-- a case or the end may follow
abbrev pub is_between : Draft → Bool
is_between d = is_certificate d.stage && eqb d.missing 0

-- the case with this number may follow
abbrev pub is_next : Draft → ℕ → Bool
is_next d case = is_between d && eqb case (length d.lines)

-- ---- lines

abbrev pub fresh : Draft
fresh = record { stage = stages.Start; locks = []; parts = []; lines = []; steps = []; missing = 0 }

abbrev pub passes : Bool → Option (Unit {0})
passes true = Some tt
passes false = None

-- the reservation of a line, where it fits and is the only one of its operations
unfoldable pub kind_of : Spec → Draft → KindLine → Option LockKind
kind_of spec d k = do
  e ← passes (kind_fits spec (kind_named spec k) && not (has_pair d.locks (kind_named spec k)) && not (has_pair d.parts (kind_named spec k)))
  Some (kind_named spec k)

-- plan: the first line
unfoldable pub take_plan : Draft → Option Draft
take_plan d = do
  e ← passes (is_start d.stage)
  Some (record d { stage = stages.Plan })

-- lock K OP OP I=J: locks are numbered from 0, and no partition stands before them
unfoldable pub take_lock : Spec → Draft → KindLine → Option Draft
take_lock spec d k = do
  e ← passes (is_plan d.stage && eqb (length d.parts) 0)
  f ← passes (eqb k.number (length d.locks))
  l ← kind_of spec d k
  Some (record d { locks = d.locks ++ l ∷ [] })

-- part K OP OP I=J: partitions are numbered from 0, and their operations have an interval of one sort
unfoldable pub take_part : Spec → Draft → KindLine → Option Draft
take_part spec d k = do
  e ← passes (is_plan d.stage)
  f ← passes (eqb k.number (length d.parts))
  l ← kind_of spec d k
  g ← passes (shares_points spec l)
  Some (record d { parts = d.parts ++ l ∷ [] })

-- certificate: behind the plan
unfoldable pub take_certificate : Draft → Option Draft
take_certificate d = do
  e ← passes (is_plan d.stage)
  Some (record d { stage = stages.Certificate })

-- case C sep lock K, case C sep part K: cases are numbered from 0
unfoldable pub take_line : Draft → ℕ → CertLine → Option Draft
take_line d case line = do
  e ← passes (is_next d case)
  Some (record d { lines = d.lines ++ line ∷ [] })

-- a derivation that lacks no step is a line
abbrev pub closed : Draft → Draft
closed d = if eqb d.missing 0 then record d { lines = d.lines ++ Refuted (record { steps = d.steps }) ∷ []; steps = [] } else d

-- case C refuted COUNT: COUNT steps follow
unfoldable pub take_refuted : Draft → ℕ → ℕ → Option Draft
take_refuted d case count = do
  e ← passes (is_next d case)
  Some (closed (record d { missing = count }))

-- step LIT LIT ; HINT HINT: of a derivation that lacks steps
unfoldable pub take_step : Draft → Step → Option Draft
take_step d s = do
  e ← passes (is_certificate d.stage && nat_lt 0 d.missing)
  Some (closed (record d { steps = d.steps ++ s ∷ []; missing = d.missing - 1 }))

-- end: behind the last case
unfoldable pub take_end : Draft → Option Draft
take_end d = do
  e ← passes (is_between d)
  Some (record d { stage = stages.End })

-- what a line adds
abbrev pub step : Spec → Draft → TextLine → Option Draft
step spec d lines.Plan = take_plan d
step spec d (lines.Lock k) = take_lock spec d k
step spec d (lines.Part k) = take_part spec d k
step spec d lines.Certificate = take_certificate d
step spec d (lines.SepLock case lock) = take_line d case (SepLock lock)
step spec d (lines.SepPart case part) = take_line d case (SepPart part)
step spec d (lines.Refuted case count) = take_refuted d case count
step spec d (lines.Step s) = take_step d s
step spec d lines.End = take_end d
