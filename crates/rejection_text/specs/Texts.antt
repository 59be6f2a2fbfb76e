-- The text of a rejected pair of operations: its case, and the atoms of the query in the four states.
use Rattle.std.specs.Prelude.{ℕ, zero, suc, Bool, if◌then◌else◌, List, [], ◌∷◌, ◌++◌, codes, decimal, drop, get_or, take, Some, None, Option}
use Rattle.std.specs.List.{flat_map}
use Rattle.ground_clauses.specs.Bits.{has_bit}
use Rattle.ground_clauses.specs.Cases.{classes_in, count_a, count_b, target_classes, upto_from}
use Rattle.ground_clauses.specs.States.{query_states}
use Rattle.ground_clauses.specs.declared.case.Case.{Case}
use Rattle.ground_clauses.specs.declared.case.Target.{Target}
use Rattle.ground_clauses.specs.declared.case.Target.TheVariants.{Clause as of_clause, Locked as of_pred}
use Rattle.ground_clauses.specs.declared.states.AtomStates.{AtomStates}
use Rattle.spec_model.specs.Truths.{op_at, pred_at}
use Rattle.spec_model.specs.declared.clause.Var.{Var}
use Rattle.spec_model.specs.declared.spec.Spec.{Spec}

-- a comma before each part of a list but the first
abbrev pub comma : ℕ → List ℕ
comma zero = []
comma (suc at) = codes ","

-- numbers parted by commas, counted from a place
abbrev pub numbers_from : ℕ → List ℕ → List ℕ
numbers_from at [] = []
numbers_from at (n ∷ ns) = comma at ++ decimal n ++ numbers_from (suc at) ns

abbrev pub bit_text : ℕ → ℕ → List ℕ
bit_text mask c = if has_bit mask c then codes "1" else codes "0"

-- an interval: `b`, and a bit for each class of its sort, class 0 first
abbrev pub interval_text : ℕ → ℕ → List ℕ
interval_text count mask = codes "b" ++ flat_map (bit_text mask) (upto_from 0 count)

-- a plain parameter's class, the first of those left, or the bits of an interval
abbrev pub param_text : (ℕ → ℕ) → ℕ → Var → List ℕ → List ℕ
param_text count mask p cs = if p.interval then interval_text (count p.sort) mask else decimal (get_or cs 0 0)

-- the classes that are left behind a parameter
abbrev pub behind : Var → List ℕ → List ℕ
behind p cs = if p.interval then cs else drop 1 cs

-- parameters parted by commas, counted from a place
abbrev pub params_from : (ℕ → ℕ) → ℕ → ℕ → List Var → List ℕ → List ℕ
params_from count mask at [] cs = []
params_from count mask at (p ∷ params) cs = comma at ++ param_text count mask p cs ++ params_from count mask (suc at) params (behind p cs)

-- a hyphen says that there are none
abbrev pub numbers_text : List ℕ → List ℕ
numbers_text [] = codes "-"
numbers_text (n ∷ ns) = numbers_from 0 (n ∷ ns)

abbrev pub params_text : (ℕ → ℕ) → ℕ → List Var → List ℕ → List ℕ
params_text count mask [] cs = codes "-"
params_text count mask (p ∷ params) cs = params_from count mask 0 (p ∷ params) cs

abbrev pub first_text : Spec → Case → List ℕ
first_text spec k = params_text (classes_in spec k) k.bits_a (op_at spec k.a).params (take (count_a spec k) k.classes)

abbrev pub second_text : Spec → Case → List ℕ
second_text spec k = params_text (classes_in spec k) k.bits_b (op_at spec k.b).params (take (count_b spec k) (drop (count_a spec k) k.classes))

abbrev pub target_text : Spec → Target → List ℕ
target_text spec (of_clause t) = codes "clause " ++ decimal t
target_text spec (of_pred p) = codes "locked " ++ (pred_at spec p).name

-- the line of the two operations, in the order of declaration
abbrev pub pair_line : Spec → Case → List ℕ
pair_line spec k = codes "rejected free " ++ (op_at spec k.a).name ++ codes " " ++ (op_at spec k.b).name ++ 10 ∷ []

-- the line of the target, and the classes of both operations' parameters and of its own variables
abbrev pub case_line : Spec → Case → List ℕ
case_line spec k = codes "case " ++ target_text spec k.target ++ codes " first " ++ first_text spec k ++ codes " second " ++ second_text spec k ++ codes " vars " ++ numbers_text (target_classes spec k) ++ 10 ∷ []

abbrev pub truth_text : Bool → List ℕ
truth_text b = if b then codes " 1" else codes " 0"

-- an atom with its truths without both operations, with the first, with the second, and with both
abbrev pub atom_line : Spec → AtomStates → List ℕ
atom_line spec s = codes "atom " ++ (pred_at spec s.atom.pred).name ++ codes "(" ++ numbers_from 0 s.atom.args ++ codes ")"
    ++ truth_text s.start ++ truth_text s.first ++ truth_text s.second ++ truth_text s.both ++ 10 ∷ []

-- a line for each atom of the query, by its first appearance
abbrev pub atom_lines : Spec → Case → Option (List Bool) → List ℕ
atom_lines spec k None = []
atom_lines spec k (Some model) = flat_map (atom_line spec) (query_states spec k model)

abbrev pub rejection_text : Spec → Case → Option (List Bool) → List ℕ
rejection_text spec k model = pair_line spec k ++ case_line spec k ++ atom_lines spec k model
