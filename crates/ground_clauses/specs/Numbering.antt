-- The case of two instances and an assignment: classes are numbered by first appearance.
use Rattle.std.specs.Prelude.{ℕ, ◌+◌, ltb, Bool, if◌then◌else◌, eqb, List, [], ◌∷◌, ◌++◌, get_or, map}
use Rattle.std.specs.List.{list_any}
use Rattle.ground_clauses.specs.Cases.{case_at, class_count, target_sorts, upto_from}
use Rattle.ground_clauses.specs.Query.{index_of}
use Rattle.ground_clauses.specs.declared.case.Case.{Case}
use Rattle.ground_clauses.specs.declared.case.Target.{Target}
use Rattle.ind_base.specs.declared.span.Span.{Span}
use Rattle.spec_model.specs.Truths.{op_at, size_of, span_has}
use Rattle.spec_model.specs.declared.clause.Var.{Var}
use Rattle.spec_model.specs.declared.instance.Inst.{Inst}
use Rattle.spec_model.specs.declared.spec.Spec.{Spec}

-- an element of a sort
pub record Element : Type 0 where
  pub sort : ℕ
  pub value : ℕ

abbrev pub element : ℕ → ℕ → Element
element s x = record { sort = s; value = x }

abbrev pub plain_elements : List Var → List Span → List Element
plain_elements [] args = []
plain_elements (p ∷ params) [] = []
plain_elements (p ∷ params) (a ∷ args) = if p.interval then plain_elements params args else element p.sort a.lo ∷ plain_elements params args

abbrev pub assigned : List ℕ → List ℕ → List Element
assigned [] xs = []
assigned (s ∷ sorts) [] = []
assigned (s ∷ sorts) (x ∷ xs) = element s x ∷ assigned sorts xs

-- the elements of two instances and an assignment of the target's variables
abbrev pub pattern_of : Spec → Target → Inst → Inst → List ℕ → List Element
pattern_of spec t e o xs = plain_elements (op_at spec e.op).params e.args ++ (plain_elements (op_at spec o.op).params o.args ++ assigned (target_sorts spec t) xs)

abbrev pub with_new : ℕ → List ℕ → List ℕ
with_new x xs = if list_any (eqb x) xs then xs else xs ++ x ∷ []

abbrev pub noted : (ℕ → List ℕ) → Element → ℕ → List ℕ
noted seen e s = if eqb e.sort s then with_new e.value (seen s) else seen s

-- the different elements of each sort, by first appearance
abbrev pub seen_after : (ℕ → List ℕ) → List Element → ℕ → List ℕ
seen_after seen [] = seen
seen_after seen (e ∷ es) = seen_after (noted seen e) es

abbrev pub none_seen : ℕ → List ℕ
none_seen s = []

abbrev pub class_in : (ℕ → List ℕ) → Element → ℕ
class_in seen e = index_of (eqb e.value) (seen e.sort)

abbrev pub classes_of : List Element → List ℕ
classes_of es = map (class_in (seen_after none_seen es)) es

abbrev pub count_in : List Element → ℕ → ℕ
count_in es z = class_count (map (λ e. e.sort) es) (classes_of es) z

-- an element for each class; past the classes in use, something past the sort
abbrev pub naming : (ℕ → ℕ) → (ℕ → ℕ) → (ℕ → List ℕ) → ℕ → ℕ → ℕ
naming size count seen s c = if ltb c (count s) then get_or (seen s) c 0 else size s + c

abbrev pub naming_of : Spec → List Element → ℕ → ℕ → ℕ
naming_of spec es = naming (size_of spec) (count_in es) (seen_after none_seen es)

-- the classes whose names lie in the interval
abbrev pub interval_bits : (ℕ → ℕ → ℕ) → (ℕ → ℕ) → List Var → List Span → List Bool
interval_bits n count [] args = []
interval_bits n count (p ∷ params) [] = []
interval_bits n count (p ∷ params) (a ∷ args) = if p.interval then map (λ c. span_has a (n p.sort c)) (upto_from 0 (count p.sort)) else interval_bits n count params args

abbrev pub case_of : Spec → Target → Inst → Inst → List ℕ → Case
case_of spec t e o xs = let es = pattern_of spec t e o xs in
    case_at e.op o.op t (classes_of es) (interval_bits (naming_of spec es) (count_in es) (op_at spec e.op).params e.args) (interval_bits (naming_of spec es) (count_in es) (op_at spec o.op).params o.args)
