-- Which lines are a plan and a certificate, and which line is refused first.
use Rattle.std.specs.Prelude.{ℕ, suc, if◌then◌else◌, List, [], ◌∷◌, Option, Some, None, Result, Ok, Err}
use Rattle.certificate_check.specs.Draft.{fresh, is_end, step}
use Rattle.certificate_check.specs.declared.draft.Draft.{Draft}
use Rattle.certificate_check.specs.declared.reading.Read.{Read}
use Rattle.certificate_check.specs.declared.reading.Read.TheVariants.{Parts, Refused}
use Rattle.certificate_lines.specs.Forms.{line_of}
use Rattle.line_text.specs.Reads.{◌>>=◌}
use Rattle.spec_model.specs.Fits.{marked_from}
use Rattle.spec_model.specs.declared.spec.Spec.{Spec}

-- what a line adds, where it is taken
unfoldable pub taken : Spec → Draft → List ℕ → Option Draft
taken spec d line = line_of line >>= step spec d

-- what follows a line that was taken
abbrev pub go_on : ℕ → Option Draft → (Draft → Result Draft ℕ) → Result Draft ℕ
go_on n None next = Err n
go_on n (Some d) next = next d

-- line after line is taken, counted from n; it has to end behind `end`
abbrev pub read_from : Spec → ℕ → Draft → List (List ℕ) → Result Draft ℕ
read_from spec n d [] = if is_end d.stage then Ok d else Err n
read_from spec n d (line ∷ lines) = go_on n (taken spec d line) (λ e. read_from spec (suc n) e lines)

-- the plan and certificate of a draft; masks keep the marked clauses
abbrev pub parts_of : Spec → Draft → Read
parts_of spec d = Parts (record { locks = d.locks; masks = marked_from 0 spec.clauses; parts = d.parts }) (record { lines = d.lines })

abbrev pub outcome : Spec → Result Draft ℕ → Read
outcome spec (Ok d) = parts_of spec d
outcome spec (Err n) = Refused n

-- the plan and certificate that these lines are, or the first line that is refused
abbrev pub read_of : Spec → List (List ℕ) → Read
read_of spec lines = outcome spec (read_from spec 1 fresh lines)
