-- Queries built one piece at a time.
use Rattle.std.proofs.Common.{◌≡◌, ℕ, suc, ◌+◌, ◌<◌, Bool, true, false, ◌||◌, ◌&&◌, not, cond, List, [], ◌∷◌, ◌++◌, map, length, get_or, drop, refl, sym, ap, append_assoc, append-nil, ◌∙◌}
use Rattle.std.specs.List.{list_any, flat_map}
use Rattle.std.proofs.lemmas.List.{map-append}
use Rattle.std.proofs.lemmas.Grind.{flat_map-append}
use Rattle.ground_clauses.proofs.Parts.{any_append, any_flat, or_none}
use Rattle.ground_clauses.proofs.Reaches.{at_place}
use Rattle.ground_clauses.specs.Cases.{case_sets, equalities_true, over}
use Rattle.ground_clauses.specs.Instances.{atoms_at, is_shared, meets}
use Rattle.ground_clauses.specs.Literals.{clause_forms, signed_forms}
use Rattle.ground_clauses.specs.Query.{Sets, atom_of, clause_of, dedup, entry_variables, form_lits, forms, has_both_signs, index_of, instance_atoms, is_certain, literal_atoms, literal_form, same_atom, same_lit, signed_form, winner}
use Rattle.ground_clauses.specs.Rows.{touched_variables, touches_at}
use Rattle.ground_clauses.specs.declared.state_lit.Form.{Form}
use Rattle.ground_clauses.specs.declared.state_lit.StateLit.{StateLit}
use Rattle.ground_clauses.specs.declared.state_lit.Variable.{Variable}
use Rattle.ground_clauses.specs.declared.queries.Asked.{Asked}
use Rattle.ground_clauses.specs.declared.table.Touches.{Touches}
use Rattle.spec_model.specs.Stable.{entry, touch_of}
use Rattle.spec_model.specs.Truths.{literals, signed, values}
use Rattle.spec_model.specs.declared.clause.Clause.{Clause}
use Rattle.spec_model.specs.declared.clause.Literal.{Literal}
use Rattle.spec_model.specs.declared.clause.Literal.TheVariants.{Atom, Equal}
use Rattle.spec_model.specs.declared.instance.Atom.{Atom as ClassAtom}
use Rattle.spec_model.specs.declared.spec.Spec.{Spec}
use Rattle.spec_model.specs.declared.state.Moment.{Moment}
use Rattle.spec_model.specs.declared.state.Moment.TheVariants.{Both, First, Second, Start}
use Rattle.spec_model.specs.declared.state.Touch.{Touch}
use Rattle.std.specs.Prelude.{Option}

pub forms_step : (q : Asked) (m : Moment) (cs : List ℕ) (sign : Bool) (ls : List Literal) (i : ℕ) (d : Literal) → i < length ls
    → signed_forms q m cs sign (drop i ls) ≡ literal_form q.spec.now (case_sets q.spec.now q.case.now) m cs sign (get_or ls i d) ∷ signed_forms q m cs sign (drop (i + 1) ls)
forms_step q m cs sign ls i d lt =
    at_place (λ xs. signed_forms q m cs sign xs ≡ literal_form q.spec.now (case_sets q.spec.now q.case.now) m cs sign (get_or ls i d) ∷ signed_forms q m cs sign (drop (i + 1) ls)) ls i d lt refl

signed_map : (q : Asked) (m : Moment) (cs : List ℕ) (sign : Bool) (ls : List Literal) → map (signed_form q.spec.now (case_sets q.spec.now q.case.now) m cs) (map (signed sign) ls) ≡ signed_forms q m cs sign ls
signed_map q m cs sign [] = refl
signed_map q m cs sign (l ∷ ls) = ap (λ xs. literal_form q.spec.now (case_sets q.spec.now q.case.now) m cs sign l ∷ xs) (signed_map q m cs sign ls)

pub forms_parts : (q : Asked) (m : Moment) (cs : List ℕ) (c : Clause) → forms q.spec.now (case_sets q.spec.now q.case.now) m cs c ≡ signed_forms q m cs false c.premise ++ signed_forms q m cs true c.conclusion
forms_parts q m cs c =
    map-append (signed_form q.spec.now (case_sets q.spec.now q.case.now) m cs) (map (signed false) c.premise) (map (signed true) c.conclusion)
    ∙ ap (λ xs. xs ++ map (signed_form q.spec.now (case_sets q.spec.now q.case.now) m cs) (map (signed true) c.conclusion)) (signed_map q m cs false c.premise)
    ∙ ap (λ xs. signed_forms q m cs false c.premise ++ xs) (signed_map q m cs true c.conclusion)

certain_parts : (q : Asked) (m : Moment) (cs : List ℕ) (c : Clause) → list_any is_certain (clause_forms q m cs c) ≡ (list_any is_certain (signed_forms q m cs false c.premise) || list_any is_certain (signed_forms q m cs true c.conclusion))
certain_parts q m cs c = ap (list_any is_certain) (forms_parts q m cs c) ∙ any_append is_certain (signed_forms q m cs false c.premise) (signed_forms q m cs true c.conclusion)

pub certain_premise : (q : Asked) (m : Moment) (cs : List ℕ) (c : Clause) → list_any is_certain (signed_forms q m cs false c.premise) ≡ true → list_any is_certain (clause_forms q m cs c) ≡ true
certain_premise q m cs c h = certain_parts q m cs c ∙ ap (λ b. b || list_any is_certain (signed_forms q m cs true c.conclusion)) h

pub certain_conclusion : (q : Asked) (m : Moment) (cs : List ℕ) (c : Clause) → list_any is_certain (signed_forms q m cs false c.premise) ≡ false
    → list_any is_certain (clause_forms q m cs c) ≡ list_any is_certain (signed_forms q m cs true c.conclusion)
certain_conclusion q m cs c h = certain_parts q m cs c ∙ ap (λ b. b || list_any is_certain (signed_forms q m cs true c.conclusion)) h

pub lits_both : (q : Asked) (m : Moment) (cs : List ℕ) (c : Clause) (xs : List StateLit)
    → xs ++ flat_map form_lits (clause_forms q m cs c) ≡ (xs ++ flat_map form_lits (signed_forms q m cs false c.premise)) ++ flat_map form_lits (signed_forms q m cs true c.conclusion)
lits_both q m cs c xs =
    ap (λ ys. xs ++ ys) (ap (flat_map form_lits) (forms_parts q m cs c) ∙ flat_map-append form_lits (signed_forms q m cs false c.premise) (signed_forms q m cs true c.conclusion))
    ∙ sym (append_assoc xs (flat_map form_lits (signed_forms q m cs false c.premise)) (flat_map form_lits (signed_forms q m cs true c.conclusion)))

pub certain_clause : (fs : List Form) → list_any is_certain fs ≡ true → clause_of fs ≡ []
certain_clause fs h = ap (λ b. cond (b || has_both_signs (flat_map form_lits fs)) [] (dedup same_lit (flat_map form_lits fs) ∷ [])) h

pub open_clause : (fs : List Form) (xs : List StateLit) → list_any is_certain fs ≡ false → xs ≡ flat_map form_lits fs → clause_of fs ≡ cond (has_both_signs xs) [] (dedup same_lit xs ∷ [])
open_clause fs xs h is =
    ap (λ b. cond (b || has_both_signs (flat_map form_lits fs)) [] (dedup same_lit (flat_map form_lits fs) ∷ [])) h
    ∙ ap (λ ys. cond (has_both_signs ys) [] (dedup same_lit ys ∷ [])) (sym is)

-- ---- atoms

pub atoms_step : (cs : List ℕ) (ls : List Literal) (i : ℕ) (d : Literal) → i < length ls → atoms_at cs (drop i ls) ≡ literal_atoms cs (get_or ls i d) ++ atoms_at cs (drop (i + 1) ls)
atoms_step cs ls i d lt = at_place (λ xs. atoms_at cs xs ≡ literal_atoms cs (get_or ls i d) ++ atoms_at cs (drop (i + 1) ls)) ls i d lt refl

signed_atoms : (cs : List ℕ) (sign : Bool) (ls : List Literal) → flat_map (λ l. literal_atoms cs l.literal) (map (signed sign) ls) ≡ atoms_at cs ls
signed_atoms cs sign [] = refl
signed_atoms cs sign (l ∷ ls) = ap (λ xs. literal_atoms cs l ++ xs) (signed_atoms cs sign ls)

pub instance_atoms_parts : (c : Clause) (cs : List ℕ) (xs : List ClassAtom) → (xs ++ atoms_at cs c.premise) ++ atoms_at cs c.conclusion ≡ xs ++ instance_atoms (over c cs)
instance_atoms_parts c cs xs =
    append_assoc xs (atoms_at cs c.premise) (atoms_at cs c.conclusion)
    ∙ ap (λ ys. xs ++ ys) (sym (flat_map-append (λ l. literal_atoms cs l.literal) (map (signed false) c.premise) (map (signed true) c.conclusion)
    ∙ ap (λ ys. ys ++ flat_map (λ l. literal_atoms cs l.literal) (map (signed true) c.conclusion)) (signed_atoms cs false c.premise)
    ∙ ap (λ ys. atoms_at cs c.premise ++ ys) (signed_atoms cs true c.conclusion)))

-- ---- the target's atoms

shared_atoms : (atoms : List ClassAtom) (cs : List ℕ) (l : Literal) → list_any (λ a. list_any (same_atom a) atoms) (literal_atoms cs l) ≡ is_shared atoms cs l
shared_atoms atoms cs (Atom p vars) = or_none (list_any (same_atom (atom_of p (values cs vars))) atoms)
shared_atoms atoms cs (Equal l r) = refl

shared_literals : (atoms : List ClassAtom) (cs : List ℕ) (sign : Bool) (ls : List Literal) → list_any (λ l. list_any (λ a. list_any (same_atom a) atoms) (literal_atoms cs l.literal)) (map (signed sign) ls) ≡ list_any (is_shared atoms cs) ls
shared_literals atoms cs sign [] = refl
shared_literals atoms cs sign (l ∷ ls) =
    ap (λ b. b || list_any (λ l. list_any (λ a. list_any (same_atom a) atoms) (literal_atoms cs l.literal)) (map (signed sign) ls)) (shared_atoms atoms cs l)
    ∙ ap (λ b. is_shared atoms cs l || b) (shared_literals atoms cs sign ls)

pub meets_parts : (atoms : List ClassAtom) (c : Clause) (cs : List ℕ)
    → meets atoms (over c cs) ≡ ((list_any (is_shared atoms cs) c.premise || list_any (is_shared atoms cs) c.conclusion) && not (equalities_true (over c cs)))
meets_parts atoms c cs =
    ap (λ b. b && not (equalities_true (over c cs)))
    (any_flat (λ a. list_any (same_atom a) atoms) (λ l. literal_atoms cs l.literal) (literals c)
    ∙ any_append (λ l. list_any (λ a. list_any (same_atom a) atoms) (literal_atoms cs l.literal)) (map (signed false) c.premise) (map (signed true) c.conclusion)
    ∙ ap (λ b. b || list_any (λ l. list_any (λ a. list_any (same_atom a) atoms) (literal_atoms cs l.literal)) (map (signed true) c.conclusion)) (shared_literals atoms cs false c.premise)
    ∙ ap (λ b. list_any (is_shared atoms cs) c.premise || b) (shared_literals atoms cs true c.conclusion))

and_turned : (b c : Bool) → (b && c) ≡ (c && b)
and_turned true true = refl
and_turned true false = refl
and_turned false true = refl
and_turned false false = refl

pub meets_apart : (atoms : List ClassAtom) (c : Clause) (cs : List ℕ) → meets atoms (over c cs) ≡ (not (equalities_true (over c cs)) && (list_any (is_shared atoms cs) c.premise || list_any (is_shared atoms cs) c.conclusion))
meets_apart atoms c cs = meets_parts atoms c cs ∙ and_turned (list_any (is_shared atoms cs) c.premise || list_any (is_shared atoms cs) c.conclusion) (not (equalities_true (over c cs)))

-- ---- variables

pub four_variables : (a : ClassAtom) (t : Touches) (xs : List Variable)
    → (((xs ++ entry_variables a Start (entry t.first t.second Start)) ++ entry_variables a First (entry t.first t.second First)) ++ entry_variables a Second (entry t.first t.second Second)) ++ entry_variables a Both (entry t.first t.second Both)
    ≡ xs ++ touched_variables a t
four_variables a t xs =
    let s = entry_variables a Start (entry t.first t.second Start) in
    let f = entry_variables a First (entry t.first t.second First) in
    let o = entry_variables a Second (entry t.first t.second Second) in
    let b = entry_variables a Both (entry t.first t.second Both) in
    append_assoc ((xs ++ s) ++ f) o b ∙ append_assoc (xs ++ s) f (o ++ b) ∙ append_assoc xs s (f ++ (o ++ b)) ∙ ap (λ ys. xs ++ (s ++ (f ++ (o ++ ys)))) (sym (append-nil b))

-- what is found of an atom by the two operations of a case
pub own_touches : (spec : Spec) (sets : Sets) (a : ClassAtom) (t : Touches) (one other : ℕ → List ℕ → Option Bool) → one ≡ sets.one → other ≡ sets.other
    → t.first ≡ touch_of (winner spec a) (one a.pred a.args) → t.second ≡ touch_of (winner spec a) (other a.pred a.args) → t ≡ touches_at spec sets a
own_touches spec sets a t one other first second is_first is_second =
    ap (λ (x : Touch). let r : Touches = record { first = x; second = t.second } in r) (is_first ∙ ap (λ (f : ℕ → List ℕ → Option Bool). touch_of (winner spec a) (f a.pred a.args)) first)
    ∙ ap (λ (y : Touch). let r : Touches = record { first = touch_of (winner spec a) (sets.one a.pred a.args); second = y } in r) (is_second ∙ ap (λ (f : ℕ → List ℕ → Option Bool). touch_of (winner spec a) (f a.pred a.args)) second)

pub flat_step : {X Y : Type 0} (f : X → List Y) (xs : List X) (i : ℕ) (d : X) → i < length xs → flat_map f (drop i xs) ≡ f (get_or xs i d) ++ flat_map f (drop (i + 1) xs)
flat_step f xs i d lt = at_place (λ ys. flat_map f ys ≡ f (get_or xs i d) ++ flat_map f (drop (i + 1) xs)) xs i d lt refl

pub map_step : {X Y : Type 0} (f : X → Y) (xs : List X) (i : ℕ) (d : X) → i < length xs → map f (drop i xs) ≡ f (get_or xs i d) ∷ map f (drop (i + 1) xs)
map_step f xs i d lt = at_place (λ ys. map f ys ≡ f (get_or xs i d) ∷ map f (drop (i + 1) xs)) xs i d lt refl

pub index_step : {X : Type 0} (test : X → Bool) (xs : List X) (i : ℕ) (d : X) → i < length xs → index_of test (drop i xs) ≡ cond (test (get_or xs i d)) 0 (suc (index_of test (drop (i + 1) xs)))
index_step test xs i d lt = at_place (λ ys. index_of test ys ≡ cond (test (get_or xs i d)) 0 (suc (index_of test (drop (i + 1) xs)))) xs i d lt refl

-- one more of a list that is made from another, element by element
pub more_mapped : {X Y : Type 0} (f : X → Y) (xs : List X) (i : ℕ) (d : X) (old new : List Y) (y : Y) (whole : List Y) → i < length xs → new ≡ old ++ y ∷ [] → y ≡ f (get_or xs i d)
    → old ++ map f (drop i xs) ≡ whole → new ++ map f (drop (i + 1) xs) ≡ whole
more_mapped f xs i d old new y whole lt is at h =
    ap (λ ys. ys ++ map f (drop (i + 1) xs)) is ∙ append_assoc old (y ∷ []) (map f (drop (i + 1) xs)) ∙ ap (λ z. old ++ z ∷ map f (drop (i + 1) xs)) at
    ∙ ap (λ zs. old ++ zs) (sym (map_step f xs i d lt)) ∙ h

pub more_flat : {X Y : Type 0} (f : X → List Y) (xs : List X) (i : ℕ) (d : X) (old new ys whole : List Y) → i < length xs → new ≡ old ++ ys → ys ≡ f (get_or xs i d)
    → old ++ flat_map f (drop i xs) ≡ whole → new ++ flat_map f (drop (i + 1) xs) ≡ whole
more_flat f xs i d old new ys whole lt is at h =
    ap (λ zs. zs ++ flat_map f (drop (i + 1) xs)) is ∙ append_assoc old ys (flat_map f (drop (i + 1) xs)) ∙ ap (λ zs. old ++ (zs ++ flat_map f (drop (i + 1) xs))) at
    ∙ ap (λ zs. old ++ zs) (sym (flat_step f xs i d lt)) ∙ h
