-- How long a query can be.
use Rattle.std.proofs.Common.{◌≡◌, ℕ, zero, suc, ◌+◌, ◌*◌, ◌^◌, ◌<◌, ◌≤◌, Bool, true, false, cond, List, [], ◌∷◌, ◌++◌, map, length, refl, ap, length-append, ◌∙◌, arith}
use Rattle.std.specs.List.{list_any, AllByRecursion, flat_map, filter}
use Rattle.std.proofs.lemmas.List.{length-map}
use Rattle.std.proofs.Math.Nat.{mul-suc, mul-le-mul_left, one-le-pow, pow-suc}
use Rattle.ground_clauses.proofs.Hypotheses.{IsInstance, among_each, each_hypothesis}
use Rattle.ground_clauses.proofs.Lists.{each_weaker}
use Rattle.ground_clauses.proofs.Shapes.{count_rises}
use Rattle.ground_clauses.specs.Cases.{assignments, case_hypotheses, case_sets, case_variables, class_count, classes_in, clause_hypotheses, hypotheses, is_relevant, over, pattern_sorts, target_of, upto_from}
use Rattle.ground_clauses.specs.Listing.{CaseFits}
use Rattle.ground_clauses.specs.Query.{Hypothesis, Sets, atom_variables, atoms_of, dedup_after, entry_at, entry_variables, instance_atoms, literal_atoms, same_atom, same_moment, variable}
use Rattle.ground_clauses.specs.declared.case.Case.{Case}
use Rattle.ground_clauses.specs.declared.state_lit.Variable.{Variable}
use Rattle.spec_model.specs.Fits.{ClauseFits, IsWellFormed}
use Rattle.spec_model.specs.Truths.{literals, signed, var_sorts}
use Rattle.spec_model.specs.declared.clause.Clause.{Clause}
use Rattle.spec_model.specs.declared.clause.Literal.{Literal}
use Rattle.spec_model.specs.declared.clause.Literal.TheVariants.{Atom, Equal}
use Rattle.spec_model.specs.declared.instance.Atom.{Atom as ClassAtom}
use Rattle.spec_model.specs.declared.spec.Spec.{Spec}
use Rattle.spec_model.specs.declared.state.Entry.{Entry}
use Rattle.spec_model.specs.declared.state.Entry.TheVariants.{Always, Same}
use Rattle.spec_model.specs.declared.state.Moment.{Moment}
use Rattle.spec_model.specs.declared.state.Moment.TheVariants.{Both, First, Second, Start}

-- each piece of at most n
length_flat : {X Y : Type 0} (f : X → List Y) (n : ℕ) (xs : List X) → AllByRecursion (λ x. length (f x) ≤ n) xs → length (flat_map f xs) ≤ n * length xs
length_flat f n [] h = omega arith
length_flat f n (x ∷ xs) h =
    let rest : length (flat_map f xs) ≤ n * length xs = length_flat f n xs h.1 in
    let here : length (f x) ≤ n = h.0 in
    let both : length (f x ++ flat_map f xs) ≡ length (f x) + length (flat_map f xs) = length-append (f x) (flat_map f xs) in
    let times : n * suc (length xs) ≡ n * length xs + n = mul-suc n (length xs) in
    omega arith

fewer_filtered : {X : Type 0} (p : X → Bool) (xs : List X) → length (filter p xs) ≤ length xs
fewer_filtered p [] = omega arith
fewer_filtered p (x ∷ xs) = by_test (p x) (fewer_filtered p xs)
  where
    by_test : (b : Bool) → length (filter p xs) ≤ length xs → length (cond b (x ∷ filter p xs) (filter p xs)) ≤ suc (length xs)
    by_test true h = omega arith
    by_test false h = omega arith

fewer_once : {X : Type 0} (eq : X → X → Bool) (seen xs : List X) → length (dedup_after eq seen xs) ≤ length xs
fewer_once eq seen [] = omega arith
fewer_once eq seen (x ∷ xs) = by_test (list_any (eq x) seen) (fewer_once eq seen xs) (fewer_once eq (seen ++ x ∷ []) xs)
  where
    by_test : (b : Bool) → length (dedup_after eq seen xs) ≤ length xs → length (dedup_after eq (seen ++ x ∷ []) xs) ≤ length xs
        → length (cond b (dedup_after eq seen xs) (x ∷ dedup_after eq (seen ++ x ∷ []) xs)) ≤ suc (length xs)
    by_test true h k = omega arith
    by_test false h k = omega arith

each_always : {X : Type 0} (P : X → Type 0) (xs : List X) → ((x : X) → P x) → AllByRecursion P xs
each_always P [] f = tt
each_always P (x ∷ xs) f = (f x, each_always P xs f)

length_upto : (j k : ℕ) → length (upto_from j k) ≡ k
length_upto j zero = refl
length_upto j (suc k) = ap suc (length_upto (suc j) k)

-- so many lists of classes, with at most twelve classes in each sort
few_assignments : (count : ℕ → ℕ) (n : ℕ) (sorts : List ℕ) → ((z : ℕ) → count z ≤ 12) → length sorts ≤ n → length (assignments count sorts) ≤ 12 ^ n
few_assignments count n [] h le = one-le-pow n 12 (omega arith)
few_assignments count zero (s ∷ sorts) h le = absurd (omega arith)
few_assignments count (suc n) (s ∷ sorts) h le =
    let rest : length (assignments count sorts) ≤ 12 ^ n = few_assignments count n sorts h (omega arith) in
    let flat : length (assignments count (s ∷ sorts)) ≤ 12 ^ n * length (upto_from 0 (count s)) =
    length_flat (λ c. map (λ cs. c ∷ cs) (assignments count sorts)) (12 ^ n) (upto_from 0 (count s))
    (each_always (λ c. length (map (λ cs. c ∷ cs) (assignments count sorts)) ≤ 12 ^ n) (upto_from 0 (count s))
    (λ c. let same_length : length (map (λ cs. c ∷ cs) (assignments count sorts)) ≡ length (assignments count sorts) = length-map (assignments count sorts) (λ cs. c ∷ cs) in omega arith)) in
    let many : length (upto_from 0 (count s)) ≡ count s = length_upto 0 (count s) in
    let few : count s ≤ 12 = h s in
    let grown_by : 12 ^ n * length (upto_from 0 (count s)) ≤ 12 ^ n * 12 = mul-le-mul_left (12 ^ n) (omega arith) in
    let whole : 12 ^ suc n ≡ 12 ^ n * 12 = pow-suc 12 n in
    omega arith

-- ---- hypotheses

few_of_clause : (count : ℕ → ℕ) (t : Hypothesis) (c : Clause) → ((z : ℕ) → count z ≤ 12) → length c.vars ≤ 4 → length (clause_hypotheses count t c) ≤ 20736
few_of_clause count t c h le =
    let filtered : length (clause_hypotheses count t c) ≤ length (map (over c) (assignments count (var_sorts c))) = fewer_filtered (is_relevant t) (map (over c) (assignments count (var_sorts c))) in
    let mapped : length (map (over c) (assignments count (var_sorts c))) ≡ length (assignments count (var_sorts c)) = length-map (assignments count (var_sorts c)) (over c) in
    let sorts : length (var_sorts c) ≡ length c.vars = length-map c.vars (λ v. v.sort) in
    let few : length (assignments count (var_sorts c)) ≤ 12 ^ 4 = few_assignments count 4 (var_sorts c) h (omega arith) in
    omega arith

few_hypotheses : (spec : Spec) (count : ℕ → ℕ) (t : Hypothesis) → IsWellFormed spec → ((z : ℕ) → count z ≤ 12) → length (hypotheses spec count t) ≤ 1327104
few_hypotheses spec count t wf h =
    let flat : length (hypotheses spec count t) ≤ 20736 * length spec.clauses =
    length_flat (clause_hypotheses count t) 20736 spec.clauses
    (each_weaker (ClauseFits spec) (λ c. length (clause_hypotheses count t c) ≤ 20736) spec.clauses (λ c fit. few_of_clause count t c h fit.few_vars) wf.clauses) in
    let few : length spec.clauses ≤ 64 = wf.few_clauses in
    omega arith

-- ---- atoms

few_literal_atoms : (cs : List ℕ) (l : Literal) → length (literal_atoms cs l) ≤ 1
few_literal_atoms cs (Atom p vars) = omega arith
few_literal_atoms cs (Equal l r) = omega arith

few_instance_atoms : (spec : Spec) (c : Clause) (cs : List ℕ) → ClauseFits spec c → length (instance_atoms (over c cs)) ≤ 8
few_instance_atoms spec c cs fit =
    let flat : length (instance_atoms (over c cs)) ≤ 1 * length (literals c) =
    length_flat (λ l. literal_atoms cs l.literal) 1 (literals c) (each_always (λ l. length (literal_atoms cs l.literal) ≤ 1) (literals c) (λ l. few_literal_atoms cs l.literal)) in
    let all : length (literals c) ≡ length (map (signed false) c.premise) + length (map (signed true) c.conclusion) = length-append (map (signed false) c.premise) (map (signed true) c.conclusion) in
    let first_part : length (map (signed false) c.premise) ≡ length c.premise = length-map c.premise (signed false) in
    let last_part : length (map (signed true) c.conclusion) ≡ length c.conclusion = length-map c.conclusion (signed true) in
    let few : length c.premise + length c.conclusion ≤ 8 = fit.few_literals in
    omega arith

few_atoms : (spec : Spec) (count : ℕ → ℕ) (t : Hypothesis) → IsWellFormed spec → ((z : ℕ) → count z ≤ 12) → length (atoms_of (hypotheses spec count t)) ≤ 10616832
few_atoms spec count t wf h =
    let once : length (atoms_of (hypotheses spec count t)) ≤ length (flat_map instance_atoms (hypotheses spec count t)) = fewer_once same_atom [] (flat_map instance_atoms (hypotheses spec count t)) in
    let flat : length (flat_map instance_atoms (hypotheses spec count t)) ≤ 8 * length (hypotheses spec count t) =
    length_flat instance_atoms 8 (hypotheses spec count t)
    (each_weaker (IsInstance spec count) (λ g. length (instance_atoms g) ≤ 8) (hypotheses spec count t)
    (λ g is. few_instance_atoms spec g.clause g.classes (among_each (ClauseFits spec) g.clause spec.clauses wf.clauses is.clause_is)) (each_hypothesis spec count t)) in
    let few : length (hypotheses spec count t) ≤ 1327104 = few_hypotheses spec count t wf h in
    omega arith

-- ---- variables

few_entry : (a : ClassAtom) (m : Moment) (e : Entry) → length (entry_variables a m e) ≤ 1
few_entry a m Always = omega arith
few_entry a m (Same k) = by_test (same_moment m k)
  where
    by_test : (b : Bool) → length (cond b (variable a m ∷ []) []) ≤ 1
    by_test true = omega arith
    by_test false = omega arith

few_own : (spec : Spec) (sets : Sets) (a : ClassAtom) → length (atom_variables spec sets a) ≤ 4
few_own spec sets a =
    let flat : length (atom_variables spec sets a) ≤ 1 * 4 =
    length_flat (λ m. entry_variables a m (entry_at spec sets a m)) 1 (Start ∷ First ∷ Second ∷ Both ∷ [])
    (each_always (λ m. length (entry_variables a m (entry_at spec sets a m)) ≤ 1) (Start ∷ First ∷ Second ∷ Both ∷ []) (λ m. few_entry a m (entry_at spec sets a m))) in
    omega arith

-- the variables of a query are few enough to be numbered
pub few_variables : (spec : Spec) (k : Case) (t : ℕ) → IsWellFormed spec → CaseFits spec k → length (case_variables spec k t) ≤ 42467328
few_variables spec k t wf fits =
    let small : (z : ℕ) → classes_in spec k z ≤ 12 =
    λ z. let rises : class_count (pattern_sorts spec k.a k.b k.target) k.classes z ≤ 0 + length k.classes = count_rises (pattern_sorts spec k.a k.b k.target) k.classes 0 z fits.rises in
    let few : length k.classes ≤ 12 = fits.few in omega arith in
    let atoms : length (atoms_of (case_hypotheses spec k t)) ≤ 10616832 = few_atoms spec (classes_in spec k) (target_of spec k t) wf small in
    let flat : length (case_variables spec k t) ≤ 4 * length (atoms_of (case_hypotheses spec k t)) =
    length_flat (atom_variables spec (case_sets spec k)) 4 (atoms_of (case_hypotheses spec k t))
    (each_always (λ a. length (atom_variables spec (case_sets spec k) a) ≤ 4) (atoms_of (case_hypotheses spec k t)) (λ a. few_own spec (case_sets spec k) a)) in
    omega arith

pub few_made : (spec : Spec) (k : Case) (t : ℕ) (atoms : List ClassAtom) (own : List Variable) → IsWellFormed spec → CaseFits spec k
    → atoms ≡ atoms_of (case_hypotheses spec k t) → own ≡ flat_map (atom_variables spec (case_sets spec k)) atoms → length own < 2 ^ 32
few_made spec k t atoms own wf fits atoms_are own_are =
    let all : length own ≡ length (case_variables spec k t) = ap length (own_are ∙ ap (flat_map (atom_variables spec (case_sets spec k))) atoms_are) in
    let few : length (case_variables spec k t) ≤ 42467328 = few_variables spec k t wf fits in
    omega arith
