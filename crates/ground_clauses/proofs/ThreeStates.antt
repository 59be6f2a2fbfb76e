-- Clauses by the numbers of their variables alone.
use Rattle.std.proofs.Common.{◌≡◌, inl, inr, ℕ, suc, ◌+◌, ◌<◌, ltb, Bool, true, false, ◌||◌, ◌&&◌, cond, eqb, List, [], ◌∷◌, ◌++◌, map, length, get_or, take, drop, refl, sym, ap, subst, append_assoc, append-nil, ◌∙◌, arith}
use Rattle.std.specs.List.{list_any, flat_map, AllByRecursion}
use mathlib.Core.Bool.{beq}
use Rattle.std.proofs.lemmas.Bool.{and_parts, cases_Bool, eq-eqb, eqb-true, ltb-true, true≢false}
use Rattle.std.proofs.lemmas.Grind.{flat_map-append}
use Rattle.std.proofs.lemmas.List.{map-append, take_more}
use Rattle.ground_clauses.proofs.Building.{forms_parts}
use Rattle.ground_clauses.proofs.Lists.{each_append}
use Rattle.ground_clauses.proofs.Looking.{atom_formed}
use Rattle.ground_clauses.proofs.Numbers.{same_variable-true, same_variable_itself}
use Rattle.ground_clauses.proofs.Parts.{any_append}
use Rattle.ground_clauses.proofs.Reaches.{at_place}
use Rattle.ground_clauses.specs.Asking.{form_clauses}
use Rattle.ground_clauses.specs.Literals.{signed_forms}
use Rattle.ground_clauses.specs.Query.{atom_of, clause_of, dedup, dedup_after, form_lits, has_both_signs, index_of, is_certain, numbered, opposite, same_lit, same_variable}
use Rattle.ground_clauses.specs.Rows.{HasNumber, IsRow, form_of, row_form}
use Rattle.ground_clauses.specs.ThreeStates.{AllCertain, Grows, GrowsBy, HasForms, IsCertain, IsOwn, both_numbers, denied_number, number_lit, read_clauses, same_number}
use Rattle.ground_clauses.specs.declared.clauses.Lit.{Lit}
use Rattle.ground_clauses.specs.declared.instances.Instance.{Instance}
use Rattle.ground_clauses.specs.declared.queries.Asked.{Asked}
use Rattle.ground_clauses.specs.declared.rows.Row.{Row}
use Rattle.ground_clauses.specs.declared.rows.Seen.TheVariants.{Always as SeenAlways, Same as SeenSame}
use Rattle.ground_clauses.specs.declared.state_lit.Form.{Form}
use Rattle.ground_clauses.specs.declared.state_lit.Form.TheVariants.{Constant}
use Rattle.ground_clauses.specs.declared.state_lit.StateLit.{StateLit}
use Rattle.ground_clauses.specs.declared.state_lit.Variable.{Variable}
use Rattle.ground_clauses.specs.declared.three_states.OneState.{OneState}
use Rattle.ground_clauses.specs.declared.three_states.ThreeStates.{ThreeStates as Three}
use Rattle.spec_model.specs.Truths.{values}
use Rattle.spec_model.specs.declared.clause.Literal.{Literal}
use Rattle.spec_model.specs.declared.clause.Literal.TheVariants.{Atom, Equal}
use Rattle.spec_model.specs.declared.state.Moment.{Moment}
use Rattle.spec_model.specs.declared.state.Moment.TheVariants.{First, Second, Start}

pub signs_step : (lits : List Lit) (d : Lit) → 0 < length lits → both_numbers lits ≡ (list_any (same_number (denied_number (get_or lits 0 d))) (drop 1 lits) || both_numbers (drop 1 lits))
signs_step [] d lt = absurd (omega arith)
signs_step (x ∷ xs) d lt = refl

pub dedup_step : (once lits : List Lit) (i : ℕ) (d : Lit) → i < length lits
    → dedup_after same_number once (drop i lits) ≡ cond (list_any (same_number (get_or lits i d)) once) (dedup_after same_number once (drop (i + 1) lits)) (get_or lits i d ∷ dedup_after same_number (once ++ get_or lits i d ∷ []) (drop (i + 1) lits))
dedup_step once lits i d lt =
    at_place (λ xs. dedup_after same_number once xs ≡ cond (list_any (same_number (get_or lits i d)) once) (dedup_after same_number once (drop (i + 1) lits)) (get_or lits i d ∷ dedup_after same_number (once ++ get_or lits i d ∷ []) (drop (i + 1) lits)))
    lits i d lt refl

-- ---- equal numbers are equal variables

-- what stands at the place of the first element that passes, passes
index_passes : (test : Variable → Bool) (vs : List Variable) (d : Variable) → index_of test vs < length vs → test (get_or vs (index_of test vs) d) ≡ true
index_passes test [] d lt = absurd (omega arith)
index_passes test (v ∷ vs) d lt = elim (cases_Bool (test v)) [
  | inl here ↦ subst (λ b. test (get_or (v ∷ vs) (cond b 0 (suc (index_of test vs))) d) ≡ true) (sym here) here
  | inr other ↦ subst (λ b. test (get_or (v ∷ vs) (cond b 0 (suc (index_of test vs))) d) ≡ true) (sym other)
      (index_passes test vs d (let k : suc (index_of test vs) < suc (length vs) = subst (λ b. cond b 0 (suc (index_of test vs)) < suc (length vs)) other lt in omega arith))
]

same_place : (vs : List Variable) (x y : Variable) → index_of (same_variable x) vs < length vs → index_of (same_variable y) vs < length vs
    → index_of (same_variable x) vs ≡ index_of (same_variable y) vs → x ≡ y
same_place vs x y one other same =
    same_variable-true x (get_or vs (index_of (same_variable x) vs) x) (index_passes (same_variable x) vs x one)
    ∙ ap (λ n. get_or vs n x) same
    ∙ sym (same_variable-true y (get_or vs (index_of (same_variable y) vs) x) (index_passes (same_variable y) vs x other))

number_same : (vs : List Variable) (x y : StateLit) → IsOwn vs x → IsOwn vs y → eqb (index_of (same_variable x.var) vs) (index_of (same_variable y.var) vs) ≡ same_variable x.var y.var
number_same vs x y one other = elim (cases_Bool (eqb (index_of (same_variable x.var) vs) (index_of (same_variable y.var) vs))) [
  | inl is ↦ is ∙ sym (ap (λ v. same_variable v y.var) (same_place vs x.var y.var one other (eqb-true (index_of (same_variable x.var) vs) (index_of (same_variable y.var) vs) is)) ∙ same_variable_itself y.var)
  | inr isnt ↦ elim (cases_Bool (same_variable x.var y.var)) [
    | inl same ↦ absurd (true≢false (sym (eq-eqb (index_of (same_variable x.var) vs) (index_of (same_variable y.var) vs) (ap (λ v. index_of (same_variable v) vs) (same_variable-true x.var y.var same))) ∙ isnt))
    | inr different ↦ isnt ∙ sym different
  ]
]

own_same : (vs : List Variable) (x y : StateLit) → IsOwn vs x → IsOwn vs y → same_number (numbered vs x) (numbered vs y) ≡ same_lit x y
own_same vs x y one other = ap (λ b. b && beq x.yes y.yes) (number_same vs x y one other)

own_any : (vs : List Variable) (x : StateLit) (xs : List StateLit) → IsOwn vs x → AllByRecursion (IsOwn vs) xs → list_any (same_number (numbered vs x)) (map (numbered vs) xs) ≡ list_any (same_lit x) xs
own_any vs x [] one h = refl
own_any vs x (y ∷ ys) one h =
    ap (λ b. b || list_any (same_number (numbered vs x)) (map (numbered vs) ys)) (own_same vs x y one h.0) ∙ ap (λ b. same_lit x y || b) (own_any vs x ys one h.1)

own_signs : (vs : List Variable) (xs : List StateLit) → AllByRecursion (IsOwn vs) xs → both_numbers (map (numbered vs) xs) ≡ has_both_signs xs
own_signs vs [] h = refl
own_signs vs (x ∷ xs) h =
    ap (λ b. b || both_numbers (map (numbered vs) xs)) (own_any vs (opposite x) xs h.0 h.1) ∙ ap (λ b. list_any (same_lit (opposite x)) xs || b) (own_signs vs xs h.1)

own_dedup : (vs : List Variable) (seen xs : List StateLit) → AllByRecursion (IsOwn vs) seen → AllByRecursion (IsOwn vs) xs
    → dedup_after same_number (map (numbered vs) seen) (map (numbered vs) xs) ≡ map (numbered vs) (dedup_after same_lit seen xs)
own_dedup vs seen [] old h = refl
own_dedup vs seen (x ∷ xs) old h =
    ap (λ b. cond b (dedup_after same_number (map (numbered vs) seen) (map (numbered vs) xs)) (numbered vs x ∷ dedup_after same_number (map (numbered vs) seen ++ numbered vs x ∷ []) (map (numbered vs) xs))) (own_any vs x seen h.0 old)
    ∙ by_test (list_any (same_lit x) seen) (own_dedup vs seen xs old h.1)
    (ap (λ ys. dedup_after same_number ys (map (numbered vs) xs)) (sym (map-append (numbered vs) seen (x ∷ [])))
    ∙ own_dedup vs (seen ++ x ∷ []) xs (each_append (IsOwn vs) seen (x ∷ []) old (h.0, tt)) h.1)
  where
    by_test : (b : Bool) → dedup_after same_number (map (numbered vs) seen) (map (numbered vs) xs) ≡ map (numbered vs) (dedup_after same_lit seen xs)
        → dedup_after same_number (map (numbered vs) seen ++ numbered vs x ∷ []) (map (numbered vs) xs) ≡ map (numbered vs) (dedup_after same_lit (seen ++ x ∷ []) xs)
        → cond b (dedup_after same_number (map (numbered vs) seen) (map (numbered vs) xs)) (numbered vs x ∷ dedup_after same_number (map (numbered vs) seen ++ numbered vs x ∷ []) (map (numbered vs) xs))
        ≡ map (numbered vs) (cond b (dedup_after same_lit seen xs) (x ∷ dedup_after same_lit (seen ++ x ∷ []) xs))
    by_test true one other = one
    by_test false one other = ap (λ ys. numbered vs x ∷ ys) other

-- ---- forms that are added

or_assoc : (x y z : Bool) → ((x || y) || z) ≡ (x || (y || z))
or_assoc true y z = refl
or_assoc false y z = refl

or_none : (x : Bool) → (x || false) ≡ x
or_none true = refl
or_none false = refl

none_grown : (vs : List Variable) (s : OneState) → Grows vs s s []
none_grown vs s = record { certain = sym (or_none s.certain); lits = sym (append-nil s.lits); own = λ h. (h, tt) }

both_grown : (vs : List Variable) (a b c : OneState) (fs gs : List Form) → Grows vs a b fs → Grows vs b c gs → Grows vs a c (fs ++ gs)
both_grown vs a b c fs gs one other = record {
  certain = other.certain ∙ ap (λ t. t || list_any is_certain gs) one.certain ∙ or_assoc a.certain (list_any is_certain fs) (list_any is_certain gs) ∙ ap (λ t. a.certain || t) (sym (any_append is_certain fs gs));
  lits = other.lits ∙ ap (λ xs. xs ++ map (numbered vs) (flat_map form_lits gs)) one.lits
      ∙ append_assoc a.lits (map (numbered vs) (flat_map form_lits fs)) (map (numbered vs) (flat_map form_lits gs))
      ∙ ap (λ xs. a.lits ++ xs) (sym (ap (map (numbered vs)) (flat_map-append form_lits fs gs) ∙ map-append (numbered vs) (flat_map form_lits fs) (flat_map form_lits gs)));
  own = λ h. let last = other.own h in let first = one.own last.0 in
      (first.0, subst (AllByRecursion (IsOwn vs)) (sym (flat_map-append form_lits fs gs)) (each_append (IsOwn vs) (flat_map form_lits fs) (flat_map form_lits gs) first.1 last.1));
}

pub certain_grown : (vs : List Variable) (old new : OneState) (truth : Bool) → IsCertain old new truth → Grows vs old new (Constant truth ∷ [])
certain_grown vs old new truth is = record {
  certain = is.certain ∙ ap (λ t. old.certain || t) (sym (or_none truth));
  lits = is.lits ∙ sym (append-nil old.lits);
  own = λ h. (sym is.own ∙ h, tt);
}

pub grown_certain : (vs : List Variable) (r : Row) (sign : Bool) (old new : OneState) → new.certain ≡ (old.certain || beq r.wins sign) → new.own ≡ old.own → new.lits ≡ old.lits
    → Grows vs old new (form_of (row_form r sign SeenAlways) ∷ [])
grown_certain vs r sign old new certain own lits = certain_grown vs old new (beq r.wins sign) (record { certain = certain; own = own; lits = lits })

pub grown_open : (vs : List Variable) (r : Row) (sign : Bool) (m : Moment) (n count : ℕ) (old new : OneState) → HasNumber vs r.atom (SeenSame m n) → count ≡ length vs
    → new.certain ≡ old.certain → new.own ≡ (old.own && ltb n count) → new.lits ≡ old.lits ++ number_lit n (beq r.wins sign) ∷ []
    → Grows vs old new (form_of (row_form r sign (SeenSame m n)) ∷ [])
grown_open vs r sign m n count old new is all certain own lits = record {
  certain = certain ∙ sym (or_none old.certain);
  lits = lits ∙ ap (λ k. old.lits ++ number_lit k (beq r.wins sign) ∷ []) is;
  own = λ h. let parts = and_parts old.own (ltb n count) (sym own ∙ h) in (parts.0, (subst (λ k. k < length vs) is (subst (λ k. n < k) all (ltb-true n count parts.1)), tt));
}

-- ---- literals that are added

pub grown_row : (q : Asked) (r : Row) (old new : Three) (cs : List ℕ) (sign : Bool) (p : ℕ) (vars : List ℕ) → IsRow q r → r.atom ≡ atom_of p (values cs vars)
    → Grows q.variables.now old.start new.start (form_of (row_form r sign r.start) ∷ []) → Grows q.variables.now old.first new.first (form_of (row_form r sign r.first) ∷ [])
    → Grows q.variables.now old.second new.second (form_of (row_form r sign r.second) ∷ []) → GrowsBy q old new cs sign (Atom p vars ∷ [])
grown_row q r old new cs sign p vars is same start first second = record {
  start = subst (λ f. Grows q.variables.now old.start new.start (f ∷ [])) (atom_formed q r (atom_of p (values cs vars)) sign Start is same) start;
  first = subst (λ f. Grows q.variables.now old.first new.first (f ∷ [])) (atom_formed q r (atom_of p (values cs vars)) sign First is same) first;
  second = subst (λ f. Grows q.variables.now old.second new.second (f ∷ [])) (atom_formed q r (atom_of p (values cs vars)) sign Second is same) second;
}

pub grown_equal : (q : Asked) (old new : Three) (cs : List ℕ) (sign : Bool) (l r : ℕ) → AllCertain old new (beq (eqb (get_or cs l 0) (get_or cs r 0)) sign) → GrowsBy q old new cs sign (Equal l r ∷ [])
grown_equal q old new cs sign l r is =
    let truth = beq (eqb (get_or cs l 0) (get_or cs r 0)) sign in
    record {
      start = certain_grown q.variables.now old.start new.start truth is.start;
      first = certain_grown q.variables.now old.first new.first truth is.first;
      second = certain_grown q.variables.now old.second new.second truth is.second;
    }

pub no_literals : (q : Asked) (t : Three) (cs : List ℕ) (sign : Bool) → GrowsBy q t t cs sign []
no_literals q t cs sign = record { start = none_grown q.variables.now t.start; first = none_grown q.variables.now t.first; second = none_grown q.variables.now t.second }

forms_append : (q : Asked) (m : Moment) (cs : List ℕ) (sign : Bool) (ls ks : List Literal) → signed_forms q m cs sign ls ++ signed_forms q m cs sign ks ≡ signed_forms q m cs sign (ls ++ ks)
forms_append q m cs sign [] ks = refl
forms_append q m cs sign (l ∷ ls) ks = ap (λ fs. signed_forms q m cs sign (l ∷ []) ++ fs) (forms_append q m cs sign ls ks)

more_literals : (q : Asked) (a b c : Three) (cs : List ℕ) (sign : Bool) (ls ks : List Literal) → GrowsBy q a b cs sign ls → GrowsBy q b c cs sign ks → GrowsBy q a c cs sign (ls ++ ks)
more_literals q a b c cs sign ls ks one other = record {
  start = subst (Grows q.variables.now a.start c.start) (forms_append q Start cs sign ls ks) (both_grown q.variables.now a.start b.start c.start (signed_forms q Start cs sign ls) (signed_forms q Start cs sign ks) one.start other.start);
  first = subst (Grows q.variables.now a.first c.first) (forms_append q First cs sign ls ks) (both_grown q.variables.now a.first b.first c.first (signed_forms q First cs sign ls) (signed_forms q First cs sign ks) one.first other.first);
  second = subst (Grows q.variables.now a.second c.second) (forms_append q Second cs sign ls ks) (both_grown q.variables.now a.second b.second c.second (signed_forms q Second cs sign ls) (signed_forms q Second cs sign ks) one.second other.second);
}

pub next_literal : (q : Asked) (a b c : Three) (cs : List ℕ) (sign : Bool) (ls : List Literal) (i : ℕ) (l : Literal) → i < length ls → l ≡ get_or ls i l → GrowsBy q a b cs sign (take i ls) → GrowsBy q b c cs sign (l ∷ [])
    → GrowsBy q a c cs sign (take (i + 1) ls)
next_literal q a b c cs sign ls i l lt is one other =
    subst (GrowsBy q a c cs sign) (ap (λ k. take i ls ++ k ∷ []) is ∙ sym (take_more ls i l lt)) (more_literals q a b c cs sign (take i ls) (l ∷ []) one other)

-- ---- a hypothesis that was read

read_form : (vs : List Variable) (old new : OneState) (fs : List Form) → old.certain ≡ false → old.lits ≡ [] → Grows vs old new fs → new.own ≡ true → read_clauses new ≡ map (map (numbered vs)) (clause_of fs)
read_form vs old new fs certain lits grown own =
    let xs = flat_map form_lits fs in
    let is_certain_there : new.certain ≡ list_any is_certain fs = grown.certain ∙ ap (λ b. b || list_any is_certain fs) certain in
    let lits_are : new.lits ≡ map (numbered vs) xs = grown.lits ∙ ap (λ ls. ls ++ map (numbered vs) xs) lits in
    let all_own = (grown.own own).1 in
    ap (λ ls. cond (new.certain || both_numbers ls) [] (dedup same_number ls ∷ [])) lits_are
    ∙ ap (λ b. cond (b || both_numbers (map (numbered vs) xs)) [] (dedup same_number (map (numbered vs) xs) ∷ [])) is_certain_there
    ∙ ap (λ b. cond (list_any is_certain fs || b) [] (dedup same_number (map (numbered vs) xs) ∷ [])) (own_signs vs xs all_own)
    ∙ ap (λ ls. cond (list_any is_certain fs || has_both_signs xs) [] (ls ∷ [])) (own_dedup vs [] xs tt all_own)
    ∙ by_test (list_any is_certain fs || has_both_signs xs)
  where
    by_test : (b : Bool) → cond b [] (map (numbered vs) (dedup same_lit (flat_map form_lits fs)) ∷ []) ≡ map (map (numbered vs)) (cond b [] (dedup same_lit (flat_map form_lits fs) ∷ []))
    by_test true = refl
    by_test false = refl

state_read : (q : Asked) (m : Moment) (i : Instance) (a b c : OneState) → a.certain ≡ false → a.lits ≡ [] → Grows q.variables.now a b (signed_forms q m i.classes false i.clause.now.premise)
    → Grows q.variables.now b c (signed_forms q m i.classes true i.clause.now.conclusion) → c.own ≡ true → read_clauses c ≡ form_clauses q m i
state_read q m i a b c certain lits one other own =
    read_form q.variables.now a c (signed_forms q m i.classes false i.clause.now.premise ++ signed_forms q m i.classes true i.clause.now.conclusion) certain lits
    (both_grown q.variables.now a b c (signed_forms q m i.classes false i.clause.now.premise) (signed_forms q m i.classes true i.clause.now.conclusion) one other) own
    ∙ ap (λ fs. map (map (numbered q.variables.now)) (clause_of fs)) (sym (forms_parts q m i.classes i.clause.now))

-- the same classes and literals under other names
pub literals_read : (q : Asked) (a b : Three) (cs ds : List ℕ) (sign : Bool) (ls ks : List Literal) → cs ≡ ds → ls ≡ ks → GrowsBy q a b cs sign ls → GrowsBy q a b ds sign ks
literals_read q a b cs ds sign ls ks classes same grown = subst (λ xs. GrowsBy q a b xs sign ks) classes (subst (GrowsBy q a b cs sign) same grown)

pub all_read : (q : Asked) (i : Instance) (a b c : Three) → a.start.certain ≡ false → a.start.lits ≡ [] → a.first.certain ≡ false → a.first.lits ≡ [] → a.second.certain ≡ false → a.second.lits ≡ []
    → GrowsBy q a b i.classes false i.clause.now.premise → GrowsBy q b c i.classes true i.clause.now.conclusion → (c.start.own && (c.first.own && c.second.own)) ≡ true → HasForms q c i
all_read q i a b c start start_lits first first_lits second second_lits one other own =
    let parts = and_parts c.start.own (c.first.own && c.second.own) own in
    let rest = and_parts c.first.own c.second.own parts.1 in
    record {
      start = state_read q Start i a.start b.start c.start start start_lits one.start other.start parts.0;
      first = state_read q First i a.first b.first c.first first first_lits one.first other.first rest.0;
      second = state_read q Second i a.second b.second c.second second second_lits one.second other.second rest.1;
    }

pub three_read : (q : Asked) (t : Three) (i : Instance) (xs ys : List (List Lit)) → HasForms q t i → ys ≡ ((xs ++ read_clauses t.start) ++ read_clauses t.first) ++ read_clauses t.second
    → ys ≡ ((xs ++ form_clauses q Start i) ++ form_clauses q First i) ++ form_clauses q Second i
three_read q t i xs ys has are =
    are ∙ ap (λ cs. ((xs ++ cs) ++ read_clauses t.first) ++ read_clauses t.second) has.start
    ∙ ap (λ cs. ((xs ++ form_clauses q Start i) ++ cs) ++ read_clauses t.second) has.first
    ∙ ap (λ cs. ((xs ++ form_clauses q Start i) ++ form_clauses q First i) ++ cs) has.second
