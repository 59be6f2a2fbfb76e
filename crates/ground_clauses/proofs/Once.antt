-- Atoms that are listed once.
use Rattle.std.proofs.Common.{◌≡◌, ℕ, zero, suc, ◌+◌, ◌<◌, ◌≤◌, Bool, true, false, cond, List, [], ◌∷◌, ◌++◌, map, length, get_or, drop, refl, sym, ap, append_assoc, append-nil, ◌∙◌, arith}
use Rattle.std.specs.Prelude.{Some, slice_get}
use Rattle.std.specs.List.{list_any, flat_map}
use Rattle.std.proofs.lemmas.Map.Keys.{any_passes_from_place}
use Rattle.ground_clauses.proofs.Building.{atoms_step, instance_atoms_parts}
use Rattle.ground_clauses.proofs.Reaches.{at_place}
use Rattle.ground_clauses.specs.Cases.{over}
use Rattle.ground_clauses.specs.Instances.{atoms_at, instance_of, with_all, with_one}
use Rattle.ground_clauses.specs.Query.{atoms_of, dedup_after, instance_atoms, literal_atoms, same_atom}
use Rattle.ground_clauses.specs.declared.instances.Instance.{Instance}
use Rattle.spec_model.specs.declared.clause.Clause.{Clause}
use Rattle.spec_model.specs.declared.clause.Literal.{Literal}
use Rattle.spec_model.specs.declared.instance.Atom.{Atom as ClassAtom}

pub found_at : (a other : ClassAtom) (atoms : List ClassAtom) (i : ℕ) → slice_get atoms i ≡ Some other → same_atom a other ≡ true → list_any (same_atom a) atoms ≡ true
found_at a other atoms i is same = any_passes_from_place (same_atom a) atoms i other is same

pub there_already : (a : ClassAtom) (once : List ClassAtom) → list_any (same_atom a) once ≡ true → once ≡ with_one once a
there_already a once h = sym (ap (λ b. cond b once (once ++ a ∷ [])) h)

with_append : (once xs ys : List ClassAtom) → with_all once (xs ++ ys) ≡ with_all (with_all once xs) ys
with_append once [] ys = refl
with_append once (x ∷ xs) ys = with_append (with_one once x) xs ys

pub literals_step : (once : List ClassAtom) (cs : List ℕ) (ls : List Literal) (i : ℕ) (d : Literal) → i < length ls
    → with_all once (atoms_at cs (drop i ls)) ≡ with_all (with_all once (literal_atoms cs (get_or ls i d))) (atoms_at cs (drop (i + 1) ls))
literals_step once cs ls i d lt =
    ap (with_all once) (atoms_step cs ls i d lt) ∙ with_append once (literal_atoms cs (get_or ls i d)) (atoms_at cs (drop (i + 1) ls))

instance_parts : (once : List ClassAtom) (c : Clause) (cs : List ℕ) → with_all (with_all once (atoms_at cs c.premise)) (atoms_at cs c.conclusion) ≡ with_all once (instance_atoms (over c cs))
instance_parts once c cs = sym (with_append once (atoms_at cs c.premise) (atoms_at cs c.conclusion)) ∙ ap (with_all once) (instance_atoms_parts c cs [])

pub instance_added : (i : Instance) (once one two : List ClassAtom) (classes : List ℕ) (premise conclusion : List Literal) → classes ≡ i.classes → premise ≡ i.clause.now.premise → conclusion ≡ i.clause.now.conclusion
    → one ≡ with_all once (atoms_at classes premise) → two ≡ with_all one (atoms_at classes conclusion) → two ≡ with_all once (instance_atoms (instance_of i))
instance_added i once one two classes premise conclusion at first_are last_are first last =
    last ∙ ap (λ xs. with_all xs (atoms_at classes conclusion)) first
    ∙ ap (λ cs. with_all (with_all once (atoms_at cs premise)) (atoms_at cs conclusion)) at
    ∙ ap (λ ls. with_all (with_all once (atoms_at i.classes ls)) (atoms_at i.classes conclusion)) first_are
    ∙ ap (λ ls. with_all (with_all once (atoms_at i.classes i.clause.now.premise)) (atoms_at i.classes ls)) last_are
    ∙ instance_parts once i.clause.now i.classes

pub instances_step : (once : List ClassAtom) (is : List Instance) (i : ℕ) (d : Instance) → i < length is
    → with_all once (flat_map instance_atoms (map instance_of (drop i is))) ≡ with_all (with_all once (instance_atoms (instance_of (get_or is i d)))) (flat_map instance_atoms (map instance_of (drop (i + 1) is)))
instances_step once is i d lt =
    at_place (λ ys. with_all once (flat_map instance_atoms (map instance_of ys)) ≡ with_all (with_all once (instance_atoms (instance_of (get_or is i d)))) (flat_map instance_atoms (map instance_of (drop (i + 1) is)))) is i d lt
    (with_append once (instance_atoms (instance_of (get_or is i d))) (flat_map instance_atoms (map instance_of (drop (i + 1) is))))

with_dedup : (once xs : List ClassAtom) → with_all once xs ≡ once ++ dedup_after same_atom once xs
with_dedup once [] = sym (append-nil once)
with_dedup once (x ∷ xs) = by_test (list_any (same_atom x) once) (with_dedup once xs) (with_dedup (once ++ x ∷ []) xs)
  where
    by_test : (b : Bool) → with_all once xs ≡ once ++ dedup_after same_atom once xs → with_all (once ++ x ∷ []) xs ≡ (once ++ x ∷ []) ++ dedup_after same_atom (once ++ x ∷ []) xs
        → with_all (cond b once (once ++ x ∷ [])) xs ≡ once ++ cond b (dedup_after same_atom once xs) (x ∷ dedup_after same_atom (once ++ x ∷ []) xs)
    by_test true old new = old
    by_test false old new = new ∙ append_assoc once (x ∷ []) (dedup_after same_atom (once ++ x ∷ []) xs)

past_end : {X : Type 0} (xs : List X) (i : ℕ) → length xs ≤ i → drop i xs ≡ []
past_end [] zero le = refl
past_end [] (suc i) le = refl
past_end (x ∷ xs) zero le = absurd (omega arith)
past_end (x ∷ xs) (suc i) le = past_end xs i (omega arith)

pub all_once : (is : List Instance) (i : ℕ) (once : List ClassAtom) → length is ≤ i
    → with_all once (flat_map instance_atoms (map instance_of (drop i is))) ≡ with_all [] (flat_map instance_atoms (map instance_of is)) → once ≡ atoms_of (map instance_of is)
all_once is i once le h =
    sym (ap (λ ys. with_all once (flat_map instance_atoms (map instance_of ys))) (past_end is i le)) ∙ h ∙ with_dedup [] (flat_map instance_atoms (map instance_of is))
