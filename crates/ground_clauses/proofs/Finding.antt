-- Instances of a clause, found one class after the other.
use Rattle.std.proofs.Common.{◌≡◌, ℕ, zero, suc, ◌+◌, ◌<◌, ◌≤◌, Bool, cond, List, [], ◌∷◌, ◌++◌, map, length, get_or, drop, refl, sym, ap, append_assoc, append-nil, ◌∙◌, arith}
use Rattle.std.specs.List.{flat_map, filter, AllByRecursion}
use Rattle.std.proofs.lemmas.List.{map-append}
use Rattle.std.proofs.lemmas.List.Elements.{filter-append}
use Rattle.std.proofs.lemmas.Grind.{flat_map-append}
use Rattle.ground_clauses.proofs.Lists.{each_weaker}
use Rattle.ground_clauses.proofs.Seen.{few}
use Rattle.ground_clauses.specs.Cases.{assignments, case_hypotheses, class_count, classes_in, over, pattern_sorts, sorts_of, target_of, upto_from}
use Rattle.ground_clauses.specs.Instances.{clause_instances, found_from, meets}
use Rattle.ground_clauses.specs.Query.{Hypothesis, instance_atoms}
use Rattle.ground_clauses.specs.declared.case.Case.{Case}
use Rattle.ground_clauses.specs.declared.instances.Search.{Search}
use Rattle.spec_model.specs.Fits.{ClauseFits, IsWellFormed}
use Rattle.spec_model.specs.Truths.{var_sorts}
use Rattle.spec_model.specs.declared.clause.Clause.{Clause}
use Rattle.spec_model.specs.declared.clause.Var.{Var}
use Rattle.spec_model.specs.declared.spec.Spec.{Spec}

-- those whose next class is below i
abbrev pub found_upto : Search → Clause → List ℕ → List Var → ℕ → List Hypothesis
found_upto s clause front rest i = flat_map (λ c. found_from s clause (front ++ c ∷ []) rest) (upto_from 0 i)

pub found_end : (s : Search) (clause : Clause) (front : List ℕ) (vars : List Var) → length vars < 1
    → found_from s clause front vars ≡ cond (meets s.target.now (over clause front)) (over clause front ∷ []) []
found_end s clause front [] few = ap (λ cs. cond (meets s.target.now (over clause cs)) (over clause cs ∷ []) []) (append-nil front)
found_end s clause front (v ∷ vars) few = absurd (omega arith)

pub upto_more : (k i : ℕ) → upto_from k (suc i) ≡ upto_from k i ++ (k + i) ∷ []
upto_more k zero = ap (λ n. n ∷ []) (let z : k ≡ k + 0 = omega arith in z)
upto_more k (suc i) = ap (λ xs. k ∷ xs) (upto_more (suc k) i ∙ ap (λ n. upto_from (suc k) i ++ n ∷ []) (let z : suc k + i ≡ k + suc i = omega arith in z))

pub found_more : (s : Search) (clause : Clause) (front : List ℕ) (rest : List Var) (i : ℕ)
    → found_upto s clause front rest (i + 1) ≡ found_upto s clause front rest i ++ found_from s clause (front ++ i ∷ []) rest
found_more s clause front rest i =
    ap (λ n. found_upto s clause front rest n) (let z : i + 1 ≡ suc i = omega arith in z)
    ∙ ap (flat_map (λ c. found_from s clause (front ++ c ∷ []) rest)) (upto_more 0 i ∙ ap (λ n. upto_from 0 i ++ n ∷ []) (let z : 0 + i ≡ i = omega arith in z))
    ∙ flat_map-append (λ c. found_from s clause (front ++ c ∷ []) rest) (upto_from 0 i) (i ∷ [])
    ∙ ap (λ xs. found_upto s clause front rest i ++ xs) (append-nil (found_from s clause (front ++ i ∷ []) rest))

-- a class that comes next stands behind those in front
next_class : (front : List ℕ) (c : ℕ) (rest : List (List ℕ)) → map (λ cs. front ++ cs) (map (λ cs. c ∷ cs) rest) ≡ map (λ cs. (front ++ c ∷ []) ++ cs) rest
next_class front c [] = refl
next_class front c (cs ∷ rest) =
    ap (λ x. x ∷ map (λ cs. front ++ cs) (map (λ cs. c ∷ cs) rest)) (sym (append_assoc front (c ∷ []) cs))
    ∙ ap (λ xs. ((front ++ c ∷ []) ++ cs) ∷ xs) (next_class front c rest)

each_class : (keep : Hypothesis → Bool) (make : List ℕ → Hypothesis) (front : List ℕ) (rest : List (List ℕ)) (us : List ℕ)
    → filter keep (map make (map (λ cs. front ++ cs) (flat_map (λ c. map (λ cs. c ∷ cs) rest) us))) ≡ flat_map (λ c. filter keep (map make (map (λ cs. (front ++ c ∷ []) ++ cs) rest))) us
each_class keep make front rest [] = refl
each_class keep make front rest (u ∷ us) =
    ap (λ xs. filter keep (map make xs)) (map-append (λ cs. front ++ cs) (map (λ cs. u ∷ cs) rest) (flat_map (λ c. map (λ cs. c ∷ cs) rest) us))
    ∙ ap (filter keep) (map-append make (map (λ cs. front ++ cs) (map (λ cs. u ∷ cs) rest)) (map (λ cs. front ++ cs) (flat_map (λ c. map (λ cs. c ∷ cs) rest) us)))
    ∙ filter-append keep (map make (map (λ cs. front ++ cs) (map (λ cs. u ∷ cs) rest))) (map make (map (λ cs. front ++ cs) (flat_map (λ c. map (λ cs. c ∷ cs) rest) us)))
    ∙ ap (λ xs. filter keep (map make xs) ++ filter keep (map make (map (λ cs. front ++ cs) (flat_map (λ c. map (λ cs. c ∷ cs) rest) us)))) (next_class front u rest)
    ∙ ap (λ xs. filter keep (map make (map (λ cs. (front ++ u ∷ []) ++ cs) rest)) ++ xs) (each_class keep make front rest us)

pub found_each : (s : Search) (clause : Clause) (front : List ℕ) (vars : List Var) (d : Var) → 0 < length vars
    → found_from s clause front vars ≡ found_upto s clause front (drop 1 vars) (class_count s.sorts.now s.classes.now (get_or vars 0 d).sort)
found_each s clause front [] d some = absurd (omega arith)
found_each s clause front (v ∷ vars) d some =
    each_class (meets s.target.now) (over clause) front (assignments (class_count s.sorts.now s.classes.now) (sorts_of vars)) (upto_from 0 (class_count s.sorts.now s.classes.now v.sort))

-- ---- all instances of a clause

map_empty : (xs : List (List ℕ)) → map (λ cs. [] ++ cs) xs ≡ xs
map_empty [] = refl
map_empty (x ∷ xs) = ap (λ ys. x ∷ ys) (map_empty xs)

pub found_clause : (s : Search) (c : Clause) → found_from s c [] c.vars ≡ clause_instances s c
found_clause s c = ap (λ xs. filter (meets s.target.now) (map (over c) xs)) (map_empty (assignments (class_count s.sorts.now s.classes.now) (var_sorts c)))

-- ---- the clauses of a specification

pub few_at : (clauses : List Clause) (i : ℕ) (d : Clause) → AllByRecursion (λ c. length c.vars ≤ 4) clauses → i < length clauses → length (get_or clauses i d).vars ≤ 4
few_at [] i d h lt = absurd (omega arith)
few_at (c ∷ clauses) zero d h lt = h.0
few_at (c ∷ clauses) (suc i) d h lt = few_at clauses i d h.1 (omega arith)

pub few_vars : (spec : Spec) → IsWellFormed spec → AllByRecursion (λ c. length c.vars ≤ 4) spec.clauses
few_vars spec wf = each_weaker (ClauseFits spec) (λ c. length c.vars ≤ 4) spec.clauses (λ c h. h.few_vars) wf.clauses

pub found_all : (spec : Spec) (k : Case) (t : ℕ) (s : Search) → s.sorts.now ≡ pattern_sorts spec k.a k.b k.target → s.classes.now ≡ k.classes → s.target.now ≡ instance_atoms (target_of spec k t)
    → flat_map (clause_instances s) spec.clauses ≡ case_hypotheses spec k t
found_all spec k t s sorts classes target =
    ap (λ ss. flat_map (λ c. filter (meets s.target.now) (map (over c) (assignments (class_count ss s.classes.now) (var_sorts c)))) spec.clauses) sorts
    ∙ ap (λ cs. flat_map (λ c. filter (meets s.target.now) (map (over c) (assignments (class_count (pattern_sorts spec k.a k.b k.target) cs) (var_sorts c)))) spec.clauses) classes
    ∙ ap (λ as_are. flat_map (λ c. filter (meets as_are) (map (over c) (assignments (classes_in spec k) (var_sorts c)))) spec.clauses) target
