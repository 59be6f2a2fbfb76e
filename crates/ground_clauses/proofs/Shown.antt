-- The states of a model of a query.
use Rattle.std.proofs.Common.{◌≡◌, inl, inr, ℕ, Bool, true, false, ◌&&◌, ◌||◌, cond, not, List, [], ◌∷◌, ◌++◌, get_or, map, length, refl, sym, ap, ◌∙◌}
use Rattle.std.specs.List.{list_any, AllByRecursion, filter, flat_map}
use Rattle.std.proofs.lemmas.Bool.{and_parts, cases_Bool, true≢false}
use mathlib.Core.Bool.{beq}
use Rattle.ground_clauses.proofs.Forms.{ClauseTrue, IsOwn, RiseOwn, TellsAtom, TellsLiteral, entry_own, forms_say, literal_says, rises_own}
use Rattle.ground_clauses.proofs.Lists.{any_map, each_append_left, each_append_right, each_both, each_weaker, flat_map_each, none_each}
use Rattle.ground_clauses.proofs.Numbers.{beq_not, same_lit-true}
use Rattle.ground_clauses.proofs.TrueForms.{any_weaker, map_each, filter_each, each_none, any_atom, index_none, Opposes, Respects, form_back, denial_back}
use Rattle.ground_clauses.proofs.Parts.{any_flat}
use Rattle.ground_clauses.specs.Cases.{case_hypotheses, case_sets, case_variables, equalities_true, equality_holds, equality_true, query_of, target_classes, target_of, touches}
use Rattle.ground_clauses.specs.Derivations.{Solves, lit_true}
use Rattle.ground_clauses.specs.Laws.{IsQuadrupleOf, before_both}
use Rattle.ground_clauses.specs.Query.{Hypothesis, Sets, atom_clauses, atom_of, atom_variables, atoms_of, clause_of, denial, denials, entry_at, entry_variables, forms, hypothesis_clauses, index_of, is_atom, literal_form, literal_is_atom, numbered, query_clauses, rise_clause, rises_at, same_atom, same_moment, same_variable, signed_form, variable, variables_of, winner}
use Rattle.ground_clauses.specs.States.{ModelShows, entry_truth, states_by, truth_in_state}
use Rattle.ground_clauses.specs.declared.case.Case.{Case}
use Rattle.ground_clauses.specs.declared.state_lit.Form.{Form}
use Rattle.ground_clauses.specs.declared.state_lit.StateLit.{StateLit}
use Rattle.ground_clauses.specs.declared.state_lit.Variable.{Variable}
use Rattle.spec_model.specs.Stable.{Reads, touch_of}
use Rattle.spec_model.specs.Truths.{Signed, clause_in, instance_true, literal_true, literals, signed_true}
use Rattle.spec_model.specs.declared.clause.Literal.{Literal}
use Rattle.spec_model.specs.declared.clause.Literal.TheVariants.{Atom, Equal}
use Rattle.spec_model.specs.declared.instance.Atom.{Atom as ClassAtom}
use Rattle.spec_model.specs.declared.spec.Spec.{Spec}
use Rattle.spec_model.specs.declared.state.Entry.{Entry}
use Rattle.spec_model.specs.declared.state.Entry.TheVariants.{Always, Same}
use Rattle.spec_model.specs.declared.state.Moment.{Moment}
use Rattle.spec_model.specs.declared.state.Moment.TheVariants.{Both, First, Second, Start}
use Rattle.spec_model.specs.declared.state.Rise.{Rise}

-- ---- the states of a model

abbrev value_in : List Bool → ℕ → Bool
value_in model n = get_or model n false

abbrev lit_by : List Variable → List Bool → StateLit → Bool
lit_by vars model x = lit_true (value_in model) (numbered vars x)

abbrev number_value : List Variable → List Bool → ClassAtom → Moment → Bool
number_value vars model a m = value_in model (index_of (same_variable (variable a m)) vars)

opposed : (vars : List Variable) (model : List Bool) → Opposes (lit_by vars model)
opposed vars model x = beq_not (value_in model (index_of (same_variable x.var) vars)) x.yes

respected : (vars : List Variable) (model : List Bool) → Respects (lit_by vars model)
respected vars model x y is = ap (lit_by vars model) (same_lit-true x y is)

own_truth : (spec : Spec) (k : Case) (vars : List Variable) (model : List Bool) (a : ClassAtom) (m : Moment) → entry_at spec (case_sets spec k) a m ≡ Same m
    → truth_in_state spec k vars model a m ≡ beq (number_value vars model a m) (winner spec a)
own_truth spec k vars model a m own = ap (entry_truth spec vars model a) own

reads_at : (spec : Spec) (k : Case) (vars : List Variable) (model : List Bool) (a : ClassAtom) (m : Moment) (e : Entry) → entry_at spec (case_sets spec k) a m ≡ e
    → IsOwn (touch_of (winner spec a) ((case_sets spec k).one a.pred a.args)) (touch_of (winner spec a) ((case_sets spec k).other a.pred a.args)) e
    → Reads (winner spec a) (λ n. truth_in_state spec k vars model a n) m e
reads_at spec k vars model a m (Same j) is own = ap (entry_truth spec vars model a) is ∙ sym (ap (entry_truth spec vars model a) own)
reads_at spec k vars model a m Always is own = ap (entry_truth spec vars model a) is

beq_twice : (x w : Bool) → beq (beq x w) w ≡ x
beq_twice true true = refl
beq_twice true false = refl
beq_twice false true = refl
beq_twice false false = refl

tells : (spec : Spec) (k : Case) (t : ℕ) (model : List Bool) (a : ClassAtom) → TellsAtom spec (case_sets spec k) (states_by spec k t model) (lit_by (case_variables spec k t) model) a
tells spec k t model a m b own =
    ap (λ x. beq x b) (sym (ap (λ y. beq y (winner spec a)) (own_truth spec k (case_variables spec k t) model a m own) ∙ beq_twice (number_value (case_variables spec k t) model a m) (winner spec a)))

literal_tells : (spec : Spec) (k : Case) (t : ℕ) (model : List Bool) (cs : List ℕ) (l : Literal) → TellsLiteral spec (case_sets spec k) (states_by spec k t model) (lit_by (case_variables spec k t) model) cs l
literal_tells spec k t model cs (Atom p vars) = tells spec k t model (atom_of p (map (λ v. get_or cs v 0) vars))
literal_tells spec k t model cs (Equal l r) = tt

all_tell : (spec : Spec) (k : Case) (t : ℕ) (model : List Bool) (cs : List ℕ) (ls : List Signed)
    → AllByRecursion (λ l. TellsLiteral spec (case_sets spec k) (states_by spec k t model) (lit_by (case_variables spec k t) model) cs l.literal) ls
all_tell spec k t model cs [] = tt
all_tell spec k t model cs (l ∷ ls) = (literal_tells spec k t model cs l.literal, all_tell spec k t model cs ls)

-- ---- rises

rise_back : (x y w : Bool) → (beq x false || (beq y true || false)) ≡ true → beq x w ≡ w → beq y w ≡ w
rise_back true true true h is = refl
rise_back true true false h is = refl
rise_back true false w h is = absurd (true≢false (sym h))
rise_back false y true h is = absurd (true≢false (sym is))
rise_back false y false h is = absurd (true≢false is)

listed_variable : (spec : Spec) (sets : Sets) (a b : ClassAtom) (m : Moment) → list_any (same_variable (variable a m)) (atom_variables spec sets b) ≡ true → same_atom a b ≡ true
listed_variable spec sets a b m h =
    elim (cases_Bool (same_atom a b)) [
      | inl is ↦ is
      | inr other ↦ absurd (true≢false (sym (sym (any_flat (same_variable (variable a m)) (λ n. entry_variables b n (entry_at spec sets b n)) (Start ∷ First ∷ Second ∷ Both ∷ [])) ∙ h)
          ∙ each_none (λ n. list_any (same_variable (variable a m)) (entry_variables b n (entry_at spec sets b n))) (Start ∷ First ∷ Second ∷ Both ∷ [])
          (none Start (entry_at spec sets b Start) other, (none First (entry_at spec sets b First) other, (none Second (entry_at spec sets b Second) other, (none Both (entry_at spec sets b Both) other, tt))))))
    ]
  where
    none : (n : Moment) (e : Entry) → same_atom a b ≡ false → list_any (same_variable (variable a m)) (entry_variables b n e) ≡ false
    none n Always other = refl
    none n (Same j) other = by_test (same_moment n j)
      where
        by_test : (s : Bool) → list_any (same_variable (variable a m)) (cond s (variable b n ∷ []) []) ≡ false
        by_test true = ap (λ x. (x && same_moment m n) || false) other
        by_test false = refl

-- of an atom that isn't in the query all variables have one value
no_number : (spec : Spec) (sets : Sets) (hs : List Hypothesis) (model : List Bool) (a : ClassAtom) (m : Moment) → list_any (same_atom a) (atoms_of hs) ≡ false
    → number_value (variables_of spec sets hs) model a m ≡ value_in model (length (variables_of spec sets hs))
no_number spec sets hs model a m unlisted =
    ap (value_in model) (index_none (same_variable (variable a m)) (variables_of spec sets hs) (elim (cases_Bool (list_any (same_variable (variable a m)) (variables_of spec sets hs))) [
      | inr is ↦ is
      | inl found ↦ absurd (true≢false
          (sym (any_weaker (λ b. list_any (same_variable (variable a m)) (atom_variables spec sets b)) (same_atom a) (atoms_of hs) (λ b h. listed_variable spec sets a b m h)
          (sym (any_flat (same_variable (variable a m)) (atom_variables spec sets) (atoms_of hs)) ∙ found)) ∙ unlisted))
    ]))

abbrev Rises : Spec → Case → ℕ → List Bool → ClassAtom → Type 0
Rises spec k t model a =
    AllByRecursion (λ r. truth_in_state spec k (case_variables spec k t) model a r.from ≡ winner spec a → truth_in_state spec k (case_variables spec k t) model a r.to ≡ winner spec a)
    (rises_at spec (case_sets spec k) a)

abbrev OwnRise : Spec → Case → ClassAtom → Rise → Type 0
OwnRise spec k a r = RiseOwn (touch_of (winner spec a) ((case_sets spec k).one a.pred a.args)) (touch_of (winner spec a) ((case_sets spec k).other a.pred a.args)) r

all_own : (spec : Spec) (k : Case) (a : ClassAtom) → AllByRecursion (OwnRise spec k a) (rises_at spec (case_sets spec k) a)
all_own spec k a = rises_own (touch_of (winner spec a) ((case_sets spec k).one a.pred a.args)) (touch_of (winner spec a) ((case_sets spec k).other a.pred a.args))

rises_listed : (spec : Spec) (k : Case) (t : ℕ) (model : List Bool) (a : ClassAtom) → AllByRecursion (ClauseTrue (lit_by (case_variables spec k t) model)) (atom_clauses spec (case_sets spec k) a) → Rises spec k t model a
rises_listed spec k t model a h =
    each_weaker (λ r. ClauseTrue (lit_by (case_variables spec k t) model) (rise_clause a r) × OwnRise spec k a r)
    (λ r. truth_in_state spec k (case_variables spec k t) model a r.from ≡ winner spec a → truth_in_state spec k (case_variables spec k t) model a r.to ≡ winner spec a) (rises_at spec (case_sets spec k) a)
    (λ r g is. own_truth spec k (case_variables spec k t) model a r.to g.1.1
    ∙ rise_back (number_value (case_variables spec k t) model a r.from) (number_value (case_variables spec k t) model a r.to) (winner spec a) g.0
    (sym (own_truth spec k (case_variables spec k t) model a r.from g.1.0) ∙ is))
    (each_both (λ r. ClauseTrue (lit_by (case_variables spec k t) model) (rise_clause a r)) (OwnRise spec k a) (rises_at spec (case_sets spec k) a)
    (map_each (ClauseTrue (lit_by (case_variables spec k t) model)) (rise_clause a) (rises_at spec (case_sets spec k) a) h) (all_own spec k a))

rises_unlisted : (spec : Spec) (k : Case) (t : ℕ) (model : List Bool) (a : ClassAtom) → list_any (same_atom a) (atoms_of (case_hypotheses spec k t)) ≡ false → Rises spec k t model a
rises_unlisted spec k t model a unlisted =
    each_weaker (OwnRise spec k a)
    (λ r. truth_in_state spec k (case_variables spec k t) model a r.from ≡ winner spec a → truth_in_state spec k (case_variables spec k t) model a r.to ≡ winner spec a) (rises_at spec (case_sets spec k) a)
    (λ r own is. own_truth spec k (case_variables spec k t) model a r.to own.1
    ∙ ap (λ x. beq x (winner spec a)) (no_number spec (case_sets spec k) (case_hypotheses spec k t) model a r.to unlisted ∙ sym (no_number spec (case_sets spec k) (case_hypotheses spec k t) model a r.from unlisted))
    ∙ sym (own_truth spec k (case_variables spec k t) model a r.from own.0) ∙ is)
    (all_own spec k a)

-- ---- the parts of the query

abbrev AllTrue : Spec → Case → ℕ → List Bool → List (List StateLit) → Type 0
AllTrue spec k t model clauses = AllByRecursion (ClauseTrue (lit_by (case_variables spec k t) model)) clauses

query_true : (spec : Spec) (k : Case) (t : ℕ) (model : List Bool) → Solves (value_in model) (query_of spec k t)
    → AllTrue spec k t model (query_clauses spec (case_sets spec k) (target_of spec k t) (case_hypotheses spec k t))
query_true spec k t model h =
    each_weaker (λ c. list_any (lit_true (value_in model)) (map (numbered (case_variables spec k t)) c) ≡ true) (ClauseTrue (lit_by (case_variables spec k t) model))
    (query_clauses spec (case_sets spec k) (target_of spec k t) (case_hypotheses spec k t))
    (λ c is. sym (any_map (lit_true (value_in model)) (numbered (case_variables spec k t)) c) ∙ is)
    (map_each (λ c. list_any (lit_true (value_in model)) c ≡ true) (map (numbered (case_variables spec k t))) (query_clauses spec (case_sets spec k) (target_of spec k t) (case_hypotheses spec k t)) h)

rows_permitted : (spec : Spec) (k : Case) (t : ℕ) (model : List Bool) → AllTrue spec k t model (flat_map (atom_clauses spec (case_sets spec k)) (atoms_of (case_hypotheses spec k t)))
    → IsQuadrupleOf spec (case_sets spec k).one (case_sets spec k).other (states_by spec k t model)
rows_permitted spec k t model h p xs = record {
  entries = λ m. reads_at spec k (case_variables spec k t) model (atom_of p xs) m (entry_at spec (case_sets spec k) (atom_of p xs) m) refl
      (entry_own (touch_of (winner spec (atom_of p xs)) ((case_sets spec k).one p xs)) (touch_of (winner spec (atom_of p xs)) ((case_sets spec k).other p xs)) m);
  rising = elim (cases_Bool (list_any (same_atom (atom_of p xs)) (atoms_of (case_hypotheses spec k t)))) [
    | inl listed ↦ rises_listed spec k t model (atom_of p xs)
        (any_atom (λ a. AllTrue spec k t model (atom_clauses spec (case_sets spec k) a)) (atom_of p xs) (atoms_of (case_hypotheses spec k t))
        (flat_map_each (ClauseTrue (lit_by (case_variables spec k t) model)) (atom_clauses spec (case_sets spec k)) (atoms_of (case_hypotheses spec k t)) h) listed)
    | inr unlisted ↦ rises_unlisted spec k t model (atom_of p xs) unlisted
  ];
}

state_holds : (spec : Spec) (k : Case) (t : ℕ) (model : List Bool) (h : Hypothesis) (m : Moment) → IsQuadrupleOf spec (case_sets spec k).one (case_sets spec k).other (states_by spec k t model)
    → AllTrue spec k t model (clause_of (forms spec (case_sets spec k) m h.classes h.clause)) → instance_true (states_by spec k t model m) h.classes h.clause ≡ true
state_holds spec k t model h m row true_here =
    sym (forms_say spec (case_sets spec k) (states_by spec k t model) (lit_by (case_variables spec k t) model) m h.classes (literals h.clause) row (all_tell spec k t model h.classes (literals h.clause)))
    ∙ form_back (lit_by (case_variables spec k t) model) (forms spec (case_sets spec k) m h.classes h.clause) (opposed (case_variables spec k t) model) (respected (case_variables spec k t) model) true_here

hypothesis_before : (spec : Spec) (k : Case) (t : ℕ) (model : List Bool) (h : Hypothesis) → IsQuadrupleOf spec (case_sets spec k).one (case_sets spec k).other (states_by spec k t model)
    → AllTrue spec k t model (hypothesis_clauses spec (case_sets spec k) h) → (m : Moment) → before_both m ≡ true → instance_true (states_by spec k t model m) h.classes h.clause ≡ true
hypothesis_before spec k t model h row all m before =
    let at : Moment → List (List StateLit) = λ n. clause_of (forms spec (case_sets spec k) n h.classes h.clause) in
    let g = lit_by (case_variables spec k t) model in
    let later = each_append_right (ClauseTrue g) (at Start) (at First ++ at Second) all in
    by_moment m before (each_append_left (ClauseTrue g) (at Start) (at First ++ at Second) all) (each_append_left (ClauseTrue g) (at First) (at Second) later) (each_append_right (ClauseTrue g) (at First) (at Second) later)
  where
    by_moment : (m : Moment) → before_both m ≡ true → AllTrue spec k t model (clause_of (forms spec (case_sets spec k) Start h.classes h.clause))
        → AllTrue spec k t model (clause_of (forms spec (case_sets spec k) First h.classes h.clause)) → AllTrue spec k t model (clause_of (forms spec (case_sets spec k) Second h.classes h.clause))
        → instance_true (states_by spec k t model m) h.classes h.clause ≡ true
    by_moment Start before s f o = state_holds spec k t model h Start row s
    by_moment First before s f o = state_holds spec k t model h First row f
    by_moment Second before s f o = state_holds spec k t model h Second row o
    by_moment Both before s f o = absurd (true≢false (sym before))

literal_broken : (spec : Spec) (k : Case) (t : ℕ) (model : List Bool) (l : Signed) → IsQuadrupleOf spec (case_sets spec k).one (case_sets spec k).other (states_by spec k t model)
    → (is_atom l ≡ true → AllTrue spec k t model (denial (signed_form spec (case_sets spec k) Both (target_classes spec k) l))) → equality_true (target_classes spec k) l ≡ false
    → signed_true (states_by spec k t model Both) (target_classes spec k) l ≡ false
literal_broken spec k t model l row denied unequal = by_literal l.literal denied unequal
  where
    by_literal : (x : Literal) → (literal_is_atom x ≡ true → AllTrue spec k t model (denial (literal_form spec (case_sets spec k) Both (target_classes spec k) l.sign x)))
        → equality_holds (target_classes spec k) l.sign x ≡ false → literal_true (states_by spec k t model Both) (target_classes spec k) l.sign x ≡ false
    by_literal (Atom p vars) denied unequal =
        sym (literal_says spec (case_sets spec k) (states_by spec k t model) (lit_by (case_variables spec k t) model) Both (target_classes spec k) l.sign (Atom p vars) row (literal_tells spec k t model (target_classes spec k) (Atom p vars)))
        ∙ denial_back (lit_by (case_variables spec k t) model) (literal_form spec (case_sets spec k) Both (target_classes spec k) l.sign (Atom p vars)) (opposed (case_variables spec k t) model) (denied refl)
    by_literal (Equal a b) denied unequal = unequal

target_broken : (spec : Spec) (k : Case) (t : ℕ) (model : List Bool) → IsQuadrupleOf spec (case_sets spec k).one (case_sets spec k).other (states_by spec k t model)
    → AllTrue spec k t model (denials spec (case_sets spec k) (target_of spec k t)) → equalities_true (target_of spec k t) ≡ false
    → instance_true (states_by spec k t model Both) (target_classes spec k) (clause_in spec t) ≡ false
target_broken spec k t model row all unequal =
    let ls : List Signed = literals (clause_in spec t) in
    let form : Signed → Form = signed_form spec (case_sets spec k) Both (target_classes spec k) in
    let g = lit_by (case_variables spec k t) model in
    each_none (signed_true (states_by spec k t model Both) (target_classes spec k)) ls
    (each_weaker (λ l. (is_atom l ≡ true → AllByRecursion (ClauseTrue g) (denial (form l))) × (equality_true (target_classes spec k) l ≡ false)) (λ l. signed_true (states_by spec k t model Both) (target_classes spec k) l ≡ false) ls
    (λ l h. literal_broken spec k t model l row h.0 h.1)
    (each_both (λ l. is_atom l ≡ true → AllByRecursion (ClauseTrue g) (denial (form l))) (λ l. equality_true (target_classes spec k) l ≡ false) ls
    (filter_each (λ l. AllByRecursion (ClauseTrue g) (denial (form l))) is_atom ls
    (map_each (λ f. AllByRecursion (ClauseTrue g) (denial f)) form (filter is_atom ls)
    (flat_map_each (ClauseTrue g) denial (map form (filter is_atom ls)) all)))
    (none_each (equality_true (target_classes spec k)) ls unequal)))

not_true : (b : Bool) → not b ≡ true → b ≡ false
not_true true h = sym h
not_true false h = refl

pub model_shows : ModelShows
model_shows spec k t model touched solves =
    let sets : Sets = case_sets spec k in
    let hs : List Hypothesis = case_hypotheses spec k t in
    let g = lit_by (case_variables spec k t) model in
    let all = query_true spec k t model solves in
    let first = each_append_left (ClauseTrue g) (flat_map (hypothesis_clauses spec sets) hs) (flat_map (atom_clauses spec sets) (atoms_of hs) ++ denials spec sets (target_of spec k t)) all in
    let behind = each_append_right (ClauseTrue g) (flat_map (hypothesis_clauses spec sets) hs) (flat_map (atom_clauses spec sets) (atoms_of hs) ++ denials spec sets (target_of spec k t)) all in
    let row = rows_permitted spec k t model (each_append_left (ClauseTrue g) (flat_map (atom_clauses spec sets) (atoms_of hs)) (denials spec sets (target_of spec k t)) behind) in
    let parts = and_parts (touches sets.one (target_of spec k t) && touches sets.other (target_of spec k t)) (not (equalities_true (target_of spec k t))) touched in
    record {
      permitted = row;
      before =
          each_weaker (λ h. AllByRecursion (ClauseTrue g) (hypothesis_clauses spec sets h)) (λ h. (m : Moment) → before_both m ≡ true → instance_true (states_by spec k t model m) h.classes h.clause ≡ true) hs
          (λ h is. hypothesis_before spec k t model h row is) (flat_map_each (ClauseTrue g) (hypothesis_clauses spec sets) hs first);
      broken = target_broken spec k t model row (each_append_right (ClauseTrue g) (flat_map (atom_clauses spec sets) (atoms_of hs)) (denials spec sets (target_of spec k t)) behind) (not_true (equalities_true (target_of spec k t)) parts.1);
    }
