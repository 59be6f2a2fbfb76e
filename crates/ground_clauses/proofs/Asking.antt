-- Pieces of a query put together.
use Rattle.std.proofs.Common.{◌≡◌, ℕ, ◌+◌, ◌<◌, Bool, true, false, cond, List, [], ◌∷◌, ◌++◌, map, length, get_or, drop, refl, sym, ap, append_assoc, ◌∙◌}
use Rattle.std.specs.List.{flat_map, filter}
use Rattle.std.proofs.lemmas.List.{map-append}
use Rattle.std.proofs.lemmas.Grind.{flat_map-append}
use Rattle.std.proofs.lemmas.List.Elements.{filter-append}
use Rattle.std.proofs.lemmas.List.Folds.{flat_map-map}
use Rattle.ground_clauses.proofs.Building.{flat_step}
use Rattle.ground_clauses.specs.Asking.{denial_clauses, form_clauses, instance_clauses, literal_denial, numbered_all, pieces, rise_clauses, row_clauses, sets_in}
use Rattle.ground_clauses.specs.Cases.{case_hypotheses, case_sets, case_variables, over, query_of, target_of}
use Rattle.ground_clauses.specs.Instances.{instance_of}
use Rattle.ground_clauses.specs.Query.{Hypothesis, atom_clauses, atom_variables, atoms_of, clause_of, denial, denials, forms, hypothesis_clauses, is_atom, literal_form, literal_is_atom, numbered, query_clauses, rise_clause, signed_form}
use Rattle.ground_clauses.specs.declared.case.Case.{Case}
use Rattle.ground_clauses.specs.declared.clauses.Lit.{Lit}
use Rattle.ground_clauses.specs.declared.instances.Instance.{Instance}
use Rattle.ground_clauses.specs.declared.queries.Asked.{Asked}
use Rattle.ground_clauses.specs.declared.state_lit.StateLit.{StateLit}
use Rattle.ground_clauses.specs.declared.state_lit.Variable.{Variable}
use Rattle.spec_model.specs.declared.spec.Spec.{Spec}
use Rattle.spec_model.specs.Stable.{rise, rises}
use Rattle.spec_model.specs.Truths.{signed}
use Rattle.spec_model.specs.declared.clause.Clause.{Clause}
use Rattle.spec_model.specs.declared.clause.Literal.{Literal}
use Rattle.spec_model.specs.declared.instance.Atom.{Atom as ClassAtom}
use Rattle.spec_model.specs.declared.state.Moment.TheVariants.{Both, First, Second, Start}
use Rattle.spec_model.specs.declared.state.Touch.TheVariants.{Loses}

numbered_append : (q : Asked) (xs ys : List (List StateLit)) → numbered_all q (xs ++ ys) ≡ numbered_all q xs ++ numbered_all q ys
numbered_append q xs ys = map-append (map (numbered q.variables.now)) xs ys

pub three_forms : (q : Asked) (i : Instance) (xs : List (List Lit))
    → ((xs ++ form_clauses q Start i) ++ form_clauses q First i) ++ form_clauses q Second i ≡ xs ++ instance_clauses q i
three_forms q i xs =
    let s = clause_of (forms q.spec.now (sets_in q) Start i.classes i.clause.now) in
    let f = clause_of (forms q.spec.now (sets_in q) First i.classes i.clause.now) in
    let o = clause_of (forms q.spec.now (sets_in q) Second i.classes i.clause.now) in
    append_assoc (xs ++ numbered_all q s) (numbered_all q f) (numbered_all q o)
    ∙ append_assoc xs (numbered_all q s) (numbered_all q f ++ numbered_all q o)
    ∙ ap (λ ys. xs ++ (numbered_all q s ++ ys)) (sym (numbered_append q f o))
    ∙ ap (λ ys. xs ++ ys) (sym (numbered_append q s (f ++ o)))

pub four_rises : (q : Asked) (a : ClassAtom) (xs : List (List Lit))
    → (((xs ++ map (numbered q.variables.now) (rise_clause a (rise First Start)) ∷ []) ++ map (numbered q.variables.now) (rise_clause a (rise Second Start)) ∷ [])
    ++ map (numbered q.variables.now) (rise_clause a (rise Both First)) ∷ []) ++ map (numbered q.variables.now) (rise_clause a (rise Both Second)) ∷ []
    ≡ xs ++ rise_clauses q a (rises Loses Loses)
four_rises q a xs =
    let b = map (numbered q.variables.now) (rise_clause a (rise First Start)) ∷ [] in
    let c = map (numbered q.variables.now) (rise_clause a (rise Second Start)) ∷ [] in
    let d = map (numbered q.variables.now) (rise_clause a (rise Both First)) ∷ [] in
    let e = map (numbered q.variables.now) (rise_clause a (rise Both Second)) ∷ [] in
    append_assoc ((xs ++ b) ++ c) d e ∙ append_assoc (xs ++ b) c (d ++ e) ∙ append_assoc xs b (c ++ (d ++ e))

pub instances_step : (q : Asked) (is : List Instance) (i : ℕ) (d : Instance) → i < length is
    → flat_map (instance_clauses q) (drop i is) ≡ instance_clauses q (get_or is i d) ++ flat_map (instance_clauses q) (drop (i + 1) is)
instances_step q is i d lt = flat_step (instance_clauses q) is i d lt

-- ---- the whole

each_numbered : {X : Type 0} (q : Asked) (f : X → List (List StateLit)) (xs : List X) → flat_map (λ x. numbered_all q (f x)) xs ≡ numbered_all q (flat_map f xs)
each_numbered q f [] = refl
each_numbered q f (x ∷ xs) = ap (λ ys. numbered_all q (f x) ++ ys) (each_numbered q f xs) ∙ sym (numbered_append q (f x) (flat_map f xs))

instances_numbered : (q : Asked) (is : List Instance) → flat_map (instance_clauses q) is ≡ numbered_all q (flat_map (hypothesis_clauses q.spec.now (sets_in q)) (map instance_of is))
instances_numbered q is = each_numbered q (λ i. hypothesis_clauses q.spec.now (sets_in q) (instance_of i)) is ∙ ap (numbered_all q) (sym (flat_map-map (hypothesis_clauses q.spec.now (sets_in q)) instance_of is))

signed_denials : (q : Asked) (cs : List ℕ) (sign : Bool) (ls : List Literal)
    → flat_map denial (map (signed_form q.spec.now (sets_in q) Both cs) (filter is_atom (map (signed sign) ls))) ≡ flat_map (literal_denial q cs sign) ls
signed_denials q cs sign [] = refl
signed_denials q cs sign (l ∷ ls) = by_kind (literal_is_atom l) (signed_denials q cs sign ls)
  where
    by_kind : (b : Bool) → flat_map denial (map (signed_form q.spec.now (sets_in q) Both cs) (filter is_atom (map (signed sign) ls))) ≡ flat_map (literal_denial q cs sign) ls
        → flat_map denial (map (signed_form q.spec.now (sets_in q) Both cs) (cond b (signed sign l ∷ filter is_atom (map (signed sign) ls)) (filter is_atom (map (signed sign) ls))))
        ≡ cond b (denial (literal_form q.spec.now (sets_in q) Both cs sign l)) [] ++ flat_map (literal_denial q cs sign) ls
    by_kind true h = ap (λ xs. denial (literal_form q.spec.now (sets_in q) Both cs sign l) ++ xs) h
    by_kind false h = h

denials_parts : (q : Asked) (t : Hypothesis) → denials q.spec.now (sets_in q) t ≡ flat_map (literal_denial q t.classes false) t.clause.premise ++ flat_map (literal_denial q t.classes true) t.clause.conclusion
denials_parts q t =
    let form = signed_form q.spec.now (sets_in q) Both t.classes in
    let ps = filter is_atom (map (signed false) t.clause.premise) in
    let cs = filter is_atom (map (signed true) t.clause.conclusion) in
    ap (λ ls. flat_map denial (map form ls)) (filter-append is_atom (map (signed false) t.clause.premise) (map (signed true) t.clause.conclusion))
    ∙ ap (flat_map denial) (map-append form ps cs)
    ∙ flat_map-append denial (map form ps) (map form cs)
    ∙ ap (λ xs. xs ++ flat_map denial (map form cs)) (signed_denials q t.classes false t.clause.premise)
    ∙ ap (λ xs. flat_map (literal_denial q t.classes false) t.clause.premise ++ xs) (signed_denials q t.classes true t.clause.conclusion)

denials_numbered : (q : Asked) (t : Hypothesis) → flat_map (denial_clauses q t.classes false) t.clause.premise ++ flat_map (denial_clauses q t.classes true) t.clause.conclusion ≡ numbered_all q (denials q.spec.now (sets_in q) t)
denials_numbered q t =
    ap (λ xs. xs ++ flat_map (denial_clauses q t.classes true) t.clause.conclusion) (each_numbered q (literal_denial q t.classes false) t.clause.premise)
    ∙ ap (λ xs. numbered_all q (flat_map (literal_denial q t.classes false) t.clause.premise) ++ xs) (each_numbered q (literal_denial q t.classes true) t.clause.conclusion)
    ∙ sym (numbered_append q (flat_map (literal_denial q t.classes false) t.clause.premise) (flat_map (literal_denial q t.classes true) t.clause.conclusion))
    ∙ ap (numbered_all q) (sym (denials_parts q t))

pub pieces_are : (q : Asked) (is : List Instance) (atoms : List ClassAtom) (t : Hypothesis) → atoms ≡ atoms_of (map instance_of is)
    → pieces q is atoms t ≡ numbered_all q (query_clauses q.spec.now (sets_in q) t (map instance_of is))
pieces_are q is atoms t atoms_are =
    let hs = flat_map (hypothesis_clauses q.spec.now (sets_in q)) (map instance_of is) in
    let rows = flat_map (atom_clauses q.spec.now (sets_in q)) (atoms_of (map instance_of is)) in
    let A = flat_map (instance_clauses q) is in
    let B = flat_map (row_clauses q) atoms in
    let C = flat_map (denial_clauses q t.classes false) t.clause.premise in
    let D = flat_map (denial_clauses q t.classes true) t.clause.conclusion in
    append_assoc (A ++ B) C D ∙ append_assoc A B (C ++ D)
    ∙ ap (λ xs. xs ++ (B ++ (C ++ D))) (instances_numbered q is)
    ∙ ap (λ xs. numbered_all q hs ++ (xs ++ (C ++ D))) (each_numbered q (atom_clauses q.spec.now (sets_in q)) atoms ∙ ap (λ as_are. numbered_all q (flat_map (atom_clauses q.spec.now (sets_in q)) as_are)) atoms_are)
    ∙ ap (λ xs. numbered_all q hs ++ (numbered_all q rows ++ xs)) (denials_numbered q t)
    ∙ ap (λ xs. numbered_all q hs ++ xs) (sym (numbered_append q rows (denials q.spec.now (sets_in q) t)))
    ∙ sym (numbered_append q hs (rows ++ denials q.spec.now (sets_in q) t))

-- what was made piece by piece are the query's clauses
pub made_clauses : (q : Asked) (is : List Instance) (atoms : List ClassAtom) (h : Hypothesis) (t : ℕ)
    → map instance_of is ≡ case_hypotheses q.spec.now q.case.now t → atoms ≡ atoms_of (case_hypotheses q.spec.now q.case.now t)
    → q.variables.now ≡ flat_map (atom_variables q.spec.now (sets_in q)) atoms → h ≡ target_of q.spec.now q.case.now t
    → pieces q is atoms h ≡ query_of q.spec.now q.case.now t
made_clauses q is atoms h t found once own aims =
    let vs_are : q.variables.now ≡ case_variables q.spec.now q.case.now t = own ∙ ap (flat_map (atom_variables q.spec.now (sets_in q))) once in
    pieces_are q is atoms h (once ∙ ap atoms_of (sym found))
    ∙ ap (λ vs. map (map (numbered vs)) (query_clauses q.spec.now (sets_in q) h (map instance_of is))) vs_are
    ∙ ap (λ g. map (map (numbered (case_variables q.spec.now q.case.now t))) (query_clauses q.spec.now (sets_in q) g (map instance_of is))) aims
    ∙ ap (λ hs. map (map (numbered (case_variables q.spec.now q.case.now t))) (query_clauses q.spec.now (sets_in q) (target_of q.spec.now q.case.now t) hs)) found

pub made_pieces : (q : Asked) (is found : List Instance) (listed atoms : List ClassAtom) (c : Clause) (cs : List ℕ) (start one two last : List (List Lit)) → is ≡ found → listed ≡ atoms → start ≡ []
    → one ≡ start ++ flat_map (instance_clauses q) is → two ≡ one ++ flat_map (row_clauses q) listed
    → last ≡ (two ++ flat_map (denial_clauses q cs false) c.premise) ++ flat_map (denial_clauses q cs true) c.conclusion → last ≡ pieces q found atoms (over c cs)
made_pieces q is found listed atoms c cs start one two last found_are atoms_are none first second third =
    let end : List (List Lit) → List (List Lit) = λ xs. (xs ++ flat_map (denial_clauses q cs false) c.premise) ++ flat_map (denial_clauses q cs true) c.conclusion in
    third ∙ ap end (second ∙ ap (λ xs. xs ++ flat_map (row_clauses q) listed) (first ∙ ap (λ xs. xs ++ flat_map (instance_clauses q) is) none))
    ∙ ap (λ ys. end ((([] ++ flat_map (instance_clauses q) ys)) ++ flat_map (row_clauses q) listed)) found_are
    ∙ ap (λ ys. end ((([] ++ flat_map (instance_clauses q) found)) ++ flat_map (row_clauses q) ys)) atoms_are

pub made_vars : (spec : Spec) (k : Case) (t : ℕ) (atoms : List ClassAtom) (vs : List Variable) → atoms ≡ atoms_of (case_hypotheses spec k t) → vs ≡ flat_map (atom_variables spec (case_sets spec k)) atoms
    → length vs ≡ length (case_variables spec k t)
made_vars spec k t atoms vs once own = ap length (own ∙ ap (flat_map (atom_variables spec (case_sets spec k))) once)
