-- The literals of a touched case's query are of its own variables.
use Rattle.std.proofs.Common.{◌≡◌, inl, inr, ℕ, zero, suc, ◌<◌, ◌≤◌, max, Bool, true, false, ◌&&◌, ◌||◌, cond, not, eqb, List, [], ◌∷◌, ◌++◌, map, length, get_or, drop, refl, sym, subst, arith}
use Rattle.std.specs.List.{list_any, AllByRecursion, filter, flat_map}
use Rattle.std.proofs.lemmas.Bool.{and_parts, eq-eqb, true≢false}
use Rattle.ground_clauses.proofs.Forms.{IsOwn, RiseOwn, entry_own, rises_own}
use Rattle.ground_clauses.proofs.Hypotheses.{Among, among_each, target_among}
use Rattle.ground_clauses.proofs.Lists.{each_append, each_dedup, each_filter, each_flat_map, each_itself, each_map, each_weaker, flat_map_each}
use Rattle.ground_clauses.proofs.Numbers.{Listed, atoms_listed, own_listed, same_atom_itself}
use Rattle.ground_clauses.proofs.Seen.{index_below}
use Rattle.ground_clauses.specs.Cases.{TargetKnown, case_hypotheses, case_sets, class_count, classes_in, equalities_true, is_touched, is_touched_case, pattern_sorts, plain_sorts, target_classes, target_cnf, target_of, target_sorts, touched_by, touches, cnf_of}
use Rattle.ground_clauses.specs.Derivations.{SpeaksOf}
use Rattle.ground_clauses.specs.Listing.{CaseFits}
use Rattle.ground_clauses.specs.Query.{Hypothesis, Sets, atom_clauses, atom_form, atom_of, atoms_of, clause_of, dedup, denial, denials, entry_at, form_lits, forms, has_both_signs, hypothesis_clauses, instance_atoms, is_atom, is_certain, literal_atoms, literal_form, numbered, query_clauses, rise_clause, rises_at, same_atom, same_lit, same_variable, signed_form, variables_of, winner}
use Rattle.ground_clauses.specs.declared.case.Case.{Case}
use Rattle.ground_clauses.specs.declared.case.Target.{Target}
use Rattle.ground_clauses.specs.declared.case.Target.TheVariants.{Clause as of_clause, Locked as of_pred}
use Rattle.ground_clauses.specs.declared.state_lit.Form.{Form}
use Rattle.ground_clauses.specs.declared.state_lit.Form.TheVariants.{Constant, Open}
use Rattle.ground_clauses.specs.declared.state_lit.StateLit.{StateLit}
use Rattle.ground_clauses.specs.declared.state_lit.Variable.{Variable}
use Rattle.spec_model.specs.Stable.{touch_of}
use Rattle.spec_model.specs.Truths.{Within, clause_in, literals, op_at, values, var_sorts}
use Rattle.spec_model.specs.declared.clause.Literal.{Literal}
use Rattle.spec_model.specs.declared.clause.Literal.TheVariants.{Atom, Equal}
use Rattle.spec_model.specs.declared.instance.Atom.{Atom as ClassAtom}
use Rattle.spec_model.specs.declared.spec.Spec.{Spec}
use Rattle.spec_model.specs.declared.state.Entry.{Entry}
use Rattle.spec_model.specs.declared.state.Entry.TheVariants.{Always, Same}
use Rattle.spec_model.specs.declared.state.Moment.{Moment}
use Rattle.spec_model.specs.declared.state.Moment.TheVariants.{Both, First, Second, Start}

abbrev Own : List Variable → StateLit → Type 0
Own vars x = list_any (same_variable x.var) vars ≡ true

abbrev FormOwn : List Variable → Form → Type 0
FormOwn vars (Constant b) = Unit {0}
FormOwn vars (Open x) = Own vars x

abbrev ClauseOwn : List Variable → List StateLit → Type 0
ClauseOwn vars c = AllByRecursion (Own vars) c

-- ---- clauses of forms

lits_own : (vars : List Variable) (fs : List Form) → AllByRecursion (FormOwn vars) fs → AllByRecursion (Own vars) (flat_map form_lits fs)
lits_own vars [] h = tt
lits_own vars (Constant b ∷ fs) h = lits_own vars fs h.1
lits_own vars (Open x ∷ fs) h = (h.0, lits_own vars fs h.1)

clause_own : (vars : List Variable) (fs : List Form) → AllByRecursion (FormOwn vars) fs → AllByRecursion (ClauseOwn vars) (clause_of fs)
clause_own vars fs h = by_test (list_any is_certain fs || has_both_signs (flat_map form_lits fs))
  where
    by_test : (b : Bool) → AllByRecursion (ClauseOwn vars) (cond b [] (dedup same_lit (flat_map form_lits fs) ∷ []))
    by_test true = tt
    by_test false = (each_dedup (Own vars) same_lit (flat_map form_lits fs) (lits_own vars fs h), tt)

form_own : (spec : Spec) (sets : Sets) (hs : List Hypothesis) (a : ClassAtom) (sign : Bool) (e : Entry) → Listed hs a
    → IsOwn (touch_of (winner spec a) (sets.one a.pred a.args)) (touch_of (winner spec a) (sets.other a.pred a.args)) e → FormOwn (variables_of spec sets hs) (atom_form spec sign a e)
form_own spec sets hs a sign (Same k) listed own = own_listed spec sets (atoms_of hs) a k listed own
form_own spec sets hs a sign Always listed own = tt

literal_own : (spec : Spec) (sets : Sets) (hs : List Hypothesis) (m : Moment) (cs : List ℕ) (sign : Bool) (l : Literal) → AllByRecursion (Listed hs) (literal_atoms cs l)
    → FormOwn (variables_of spec sets hs) (literal_form spec sets m cs sign l)
literal_own spec sets hs m cs sign (Atom p vars) h =
    let a : ClassAtom = atom_of p (values cs vars) in
    form_own spec sets hs (atom_of p (values cs vars)) sign (entry_at spec sets (atom_of p (values cs vars)) m) h.0
    (entry_own (touch_of (winner spec a) (sets.one a.pred a.args)) (touch_of (winner spec a) (sets.other a.pred a.args)) m)
literal_own spec sets hs m cs sign (Equal l r) h = tt

literals_own : (spec : Spec) (sets : Sets) (hs : List Hypothesis) (m : Moment) (h : Hypothesis) → AllByRecursion (Listed hs) (instance_atoms h)
    → AllByRecursion (λ l. FormOwn (variables_of spec sets hs) (signed_form spec sets m h.classes l)) (literals h.clause)
literals_own spec sets hs m h listed =
    each_weaker (λ l. AllByRecursion (Listed hs) (literal_atoms h.classes l.literal)) (λ l. FormOwn (variables_of spec sets hs) (signed_form spec sets m h.classes l)) (literals h.clause)
    (λ l k. literal_own spec sets hs m h.classes l.sign l.literal k)
    (flat_map_each (Listed hs) (λ l. literal_atoms h.classes l.literal) (literals h.clause) listed)

state_own : (spec : Spec) (sets : Sets) (hs : List Hypothesis) (m : Moment) (h : Hypothesis) → AllByRecursion (Listed hs) (instance_atoms h)
    → AllByRecursion (ClauseOwn (variables_of spec sets hs)) (clause_of (forms spec sets m h.classes h.clause))
state_own spec sets hs m h listed =
    clause_own (variables_of spec sets hs) (forms spec sets m h.classes h.clause)
    (each_map (FormOwn (variables_of spec sets hs)) (signed_form spec sets m h.classes) (literals h.clause) (literals_own spec sets hs m h listed))

-- ---- the three parts of a query

hypothesis_own : (spec : Spec) (sets : Sets) (hs : List Hypothesis) (h : Hypothesis) → AllByRecursion (Listed hs) (instance_atoms h)
    → AllByRecursion (ClauseOwn (variables_of spec sets hs)) (hypothesis_clauses spec sets h)
hypothesis_own spec sets hs h listed =
    each_append (ClauseOwn (variables_of spec sets hs)) (clause_of (forms spec sets Start h.classes h.clause)) (clause_of (forms spec sets First h.classes h.clause) ++ clause_of (forms spec sets Second h.classes h.clause))
    (state_own spec sets hs Start h listed)
    (each_append (ClauseOwn (variables_of spec sets hs)) (clause_of (forms spec sets First h.classes h.clause)) (clause_of (forms spec sets Second h.classes h.clause))
    (state_own spec sets hs First h listed) (state_own spec sets hs Second h listed))

row_own : (spec : Spec) (sets : Sets) (hs : List Hypothesis) (a : ClassAtom) → Listed hs a → AllByRecursion (ClauseOwn (variables_of spec sets hs)) (atom_clauses spec sets a)
row_own spec sets hs a listed =
    each_map (ClauseOwn (variables_of spec sets hs)) (rise_clause a) (rises_at spec sets a)
    (each_weaker (RiseOwn (touch_of (winner spec a) (sets.one a.pred a.args)) (touch_of (winner spec a) (sets.other a.pred a.args))) (λ r. ClauseOwn (variables_of spec sets hs) (rise_clause a r)) (rises_at spec sets a)
    (λ r own. (own_listed spec sets (atoms_of hs) a r.from listed own.0, (own_listed spec sets (atoms_of hs) a r.to listed own.1, tt)))
    (rises_own (touch_of (winner spec a) (sets.one a.pred a.args)) (touch_of (winner spec a) (sets.other a.pred a.args))))

denial_own : (vars : List Variable) (f : Form) → FormOwn vars f → AllByRecursion (ClauseOwn vars) (denial f)
denial_own vars (Constant true) h = (tt, tt)
denial_own vars (Constant false) h = tt
denial_own vars (Open x) h = ((h, tt), tt)

denials_own : (spec : Spec) (sets : Sets) (hs : List Hypothesis) (t : Hypothesis) → AllByRecursion (Listed hs) (instance_atoms t) → AllByRecursion (ClauseOwn (variables_of spec sets hs)) (denials spec sets t)
denials_own spec sets hs t listed =
    each_flat_map (ClauseOwn (variables_of spec sets hs)) denial (map (signed_form spec sets Both t.classes) (filter is_atom (literals t.clause)))
    (each_map (λ f. AllByRecursion (ClauseOwn (variables_of spec sets hs)) (denial f)) (signed_form spec sets Both t.classes) (filter is_atom (literals t.clause))
    (each_filter (λ l. AllByRecursion (ClauseOwn (variables_of spec sets hs)) (denial (signed_form spec sets Both t.classes l))) is_atom (literals t.clause)
    (each_weaker (λ l. FormOwn (variables_of spec sets hs) (signed_form spec sets Both t.classes l)) (λ l. AllByRecursion (ClauseOwn (variables_of spec sets hs)) (denial (signed_form spec sets Both t.classes l))) (literals t.clause)
    (λ l own. denial_own (variables_of spec sets hs) (signed_form spec sets Both t.classes l) own)
    (literals_own spec sets hs Both t listed))))

query_own : (spec : Spec) (sets : Sets) (t : Hypothesis) (hs : List Hypothesis) → AllByRecursion (Listed hs) (instance_atoms t)
    → AllByRecursion (ClauseOwn (variables_of spec sets hs)) (query_clauses spec sets t hs)
query_own spec sets t hs listed =
    each_append (ClauseOwn (variables_of spec sets hs)) (flat_map (hypothesis_clauses spec sets) hs) (flat_map (atom_clauses spec sets) (atoms_of hs) ++ denials spec sets t)
    (each_flat_map (ClauseOwn (variables_of spec sets hs)) (hypothesis_clauses spec sets) hs
    (each_weaker (λ h. AllByRecursion (Listed hs) (instance_atoms h)) (λ h. AllByRecursion (ClauseOwn (variables_of spec sets hs)) (hypothesis_clauses spec sets h)) hs
    (λ h k. hypothesis_own spec sets hs h k) (atoms_listed hs)))
    (each_append (ClauseOwn (variables_of spec sets hs)) (flat_map (atom_clauses spec sets) (atoms_of hs)) (denials spec sets t)
    (each_flat_map (ClauseOwn (variables_of spec sets hs)) (atom_clauses spec sets) (atoms_of hs)
    (each_weaker (Listed hs) (λ a. AllByRecursion (ClauseOwn (variables_of spec sets hs)) (atom_clauses spec sets a)) (atoms_of hs) (λ a k. row_own spec sets hs a k) (each_itself same_atom (atoms_of hs) same_atom_itself)))
    (denials_own spec sets hs t listed))

numbered_own : (vars : List Variable) (clauses : List (List StateLit)) → AllByRecursion (ClauseOwn vars) clauses → SpeaksOf (length vars) (map (map (numbered vars)) clauses)
numbered_own vars clauses h =
    each_map (λ c. AllByRecursion (λ x. x.var < length vars) c) (map (numbered vars)) clauses
    (each_weaker (ClauseOwn vars) (λ c. AllByRecursion (λ x. x.var < length vars) (map (numbered vars) c)) clauses
    (λ c k. each_map (λ x. x.var < length vars) (numbered vars) c
    (each_weaker (Own vars) (λ x. (numbered vars x).var < length vars) c (λ x own. index_below (same_variable x.var) vars own) k)) h)

-- ---- the target is among the hypotheses

-- classes are fewer than those counted
counted : (count : ℕ → ℕ) (sorts cs : List ℕ) → length cs ≡ length sorts → ((z : ℕ) → class_count sorts cs z ≤ count z) → Within count sorts cs
counted count [] [] e h = tt
counted count [] (c ∷ cs) e h = absurd (omega (arith, e))
counted count (s ∷ sorts) [] e h = absurd (omega (arith, e))
counted count (s ∷ sorts) (c ∷ cs) e h =
    let here : max (suc c) (class_count sorts cs s) ≤ count s = subst (λ b. cond b (max (suc c) (class_count sorts cs s)) (class_count sorts cs s) ≤ count s) (eq-eqb s s refl) (h s) in
    (omega arith, counted count sorts cs (omega (arith, e)) (λ z. behind z (eqb s z) (h z)))
  where
    behind : (z : ℕ) (b : Bool) → cond b (max (suc c) (class_count sorts cs z)) (class_count sorts cs z) ≤ count z → class_count sorts cs z ≤ count z
    behind z true g = omega (arith, g)
    behind z false g = g

within_behind : (count : ℕ → ℕ) (xs ys cs : List ℕ) → Within count (xs ++ ys) cs → Within count ys (drop (length xs) cs)
within_behind count [] ys [] h = h
within_behind count [] ys (c ∷ cs) h = h
within_behind count (x ∷ xs) ys [] h = absurd h
within_behind count (x ∷ xs) ys (c ∷ cs) h = within_behind count xs ys cs h.1

target_within : (spec : Spec) (k : Case) → CaseFits spec k → Within (classes_in spec k) (target_sorts spec k.target) (target_classes spec k)
target_within spec k fits =
    within_behind (classes_in spec k) (plain_sorts (op_at spec k.b).params) (target_sorts spec k.target) (drop (length (plain_sorts (op_at spec k.a).params)) k.classes)
    (within_behind (classes_in spec k) (plain_sorts (op_at spec k.a).params) (plain_sorts (op_at spec k.b).params ++ target_sorts spec k.target) k.classes
    (counted (classes_in spec k) (pattern_sorts spec k.a k.b k.target) k.classes fits.whole (λ z. omega arith)))

among_get : {X : Type 0} (xs : List X) (i : ℕ) (d : X) → i < length xs → Among (get_or xs i d) xs
among_get [] i d lt = absurd (omega (arith, lt))
among_get (x ∷ xs) zero d lt = inl refl
among_get (x ∷ xs) (suc i) d lt = inr (among_get xs i d (omega (arith, lt)))

not_true : (b : Bool) → not b ≡ true → b ≡ false
not_true true h = absurd (true≢false (sym h))
not_true false h = refl

clause_speaks : (spec : Spec) (k : Case) (t : ℕ) → CaseFits spec k → t < length spec.clauses → Within (classes_in spec k) (var_sorts (clause_in spec t)) (target_classes spec k) → is_touched spec k t ≡ true
    → SpeaksOf (target_cnf spec k (of_clause t)).vars (target_cnf spec k (of_clause t)).clauses
clause_speaks spec k t fits known within touched =
    let parts = and_parts (touches (case_sets spec k).one (target_of spec k t) && touches (case_sets spec k).other (target_of spec k t)) (not (equalities_true (target_of spec k t))) touched in
    let both = and_parts (touches (case_sets spec k).one (target_of spec k t)) (touches (case_sets spec k).other (target_of spec k t)) parts.0 in
    let is : Among (target_of spec k t) (case_hypotheses spec k t) =
    target_among spec (classes_in spec k) (target_of spec k t) (case_sets spec k).one (among_get spec.clauses t _ known) within both.0 (not_true (equalities_true (target_of spec k t)) parts.1) in
    numbered_own (variables_of spec (case_sets spec k) (case_hypotheses spec k t)) (query_clauses spec (case_sets spec k) (target_of spec k t) (case_hypotheses spec k t))
    (query_own spec (case_sets spec k) (target_of spec k t) (case_hypotheses spec k t)
    (among_each (λ h. AllByRecursion (Listed (case_hypotheses spec k t)) (instance_atoms h)) (target_of spec k t) (case_hypotheses spec k t) (atoms_listed (case_hypotheses spec k t)) is))

pub query_speaks : (spec : Spec) (k : Case) → CaseFits spec k → is_touched_case spec k ≡ true → SpeaksOf (cnf_of spec k).vars (cnf_of spec k).clauses
query_speaks spec k fits touched = by_target k.target fits.known.known_target (target_within spec k fits) touched
  where
    by_target : (t : Target) → TargetKnown spec t → Within (classes_in spec k) (target_sorts spec t) (target_classes spec k) → touched_by spec k t ≡ true → SpeaksOf (target_cnf spec k t).vars (target_cnf spec k t).clauses
    by_target (of_clause t) known within is = clause_speaks spec k t fits known within is
    by_target (of_pred p) known within is = tt
