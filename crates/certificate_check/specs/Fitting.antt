-- Whether a lock or a partition that is read fits the operations of a specification.
use Rattle.std.specs.Prelude.{ℕ, zero, suc, Bool, true, false, not, ◌&&◌, ◌||◌, if◌then◌else◌, eqb, nat_le, nat_lt, List, [], ◌∷◌, length, get_or, Option, Some, None}
use Rattle.std.specs.List.{list_all, list_any}
use Rattle.std.specs.Str.{bytes_eq}
use Rattle.certificate_lines.specs.declared.line.KindLine.{KindLine}
use Rattle.spec_model.specs.Truths.{no_var, op_at, sort_of}
use Rattle.spec_model.specs.declared.clause.Var.{Var}
use Rattle.spec_model.specs.declared.operation.Op.{Op}
use Rattle.spec_model.specs.declared.plan.LockKind.{LockKind}
use Rattle.spec_model.specs.declared.plan.Pair.{Pair}
use Rattle.spec_model.specs.declared.spec.Spec.{Spec}

-- the place of the first operation with this name; behind the last, where there is none
abbrev pub op_named : List Op → List ℕ → ℕ
op_named [] w = zero
op_named (o ∷ ops) w = if bytes_eq o.name w then zero else suc (op_named ops w)

-- the reservation of a line, by the places of its operations
abbrev pub kind_named : Spec → KindLine → LockKind
kind_named spec k = record { a = op_named spec.ops k.first; b = op_named spec.ops k.second; key = k.key }

abbrev pub is_interval : List Var → ℕ → Bool
is_interval params i = (get_or params i no_var).interval

-- plain places of one sort
abbrev pub pair_fits : List Var → List Var → Pair → Bool
pair_fits pa pb k = nat_lt k.a (length pa) && nat_lt k.b (length pb) && not (is_interval pa k.a) && not (is_interval pb k.b) && eqb (sort_of pa k.a) (sort_of pb k.b)

abbrev pub key_fits : List Var → List Var → List Pair → Bool
key_fits pa pb key = list_all (pair_fits pa pb) key

-- the places of the first operation rise from n on
abbrev pub rises : ℕ → List Pair → Bool
rises n [] = true
rises n (k ∷ key) = nat_le n k.a && rises (suc k.a) key

abbrev pub same_places : List Pair → Bool
same_places key = list_all (λ k. eqb k.a k.b) key

-- operations in order of declaration, and a key of plain places of one sort that rise; one operation meets itself at equal places
unfoldable pub kind_fits : Spec → LockKind → Bool
kind_fits spec l =
    nat_le l.a l.b && nat_lt l.b (length spec.ops) && key_fits (op_at spec l.a).params (op_at spec l.b).params l.key && rises 0 l.key
    && (not (eqb l.a l.b) || same_places l.key)

-- the sort of the interval parameter
abbrev pub interval_sort : List Var → Option ℕ
interval_sort [] = None
interval_sort (p ∷ params) = if p.interval then Some p.sort else interval_sort params

abbrev pub are_one : Option ℕ → Option ℕ → Bool
are_one (Some s) (Some t) = eqb s t
are_one (Some s) None = false
are_one None t = false

-- both operations have an interval parameter, of one sort
unfoldable pub shares_points : Spec → LockKind → Bool
shares_points spec l = are_one (interval_sort (op_at spec l.a).params) (interval_sort (op_at spec l.b).params)

-- one of them is of the same pair of operations
abbrev pub has_pair : List LockKind → LockKind → Bool
has_pair kinds l = list_any (λ m. eqb m.a l.a && eqb m.b l.b) kinds
