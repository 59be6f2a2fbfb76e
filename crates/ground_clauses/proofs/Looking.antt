-- Clauses over variables whose numbers are known.
use Rattle.std.proofs.Common.{◌≡◌, inl, inr, ℕ, ◌+◌, ◌<◌, Bool, true, false, ◌||◌, ◌&&◌, cond, eqb, List, [], ◌∷◌, ◌++◌, map, length, get_or, drop, refl, sym, ap, subst, append-nil, ◌∙◌, arith}
use Rattle.std.specs.List.{list_any, flat_map, AllByRecursion}
use Rattle.std.proofs.lemmas.Bool.{cases_Bool, eq-eqb}
use Rattle.std.proofs.lemmas.List.{map-append}
use Rattle.ground_clauses.proofs.Building.{certain_clause as certain_empty, open_clause as open_made}
use Rattle.ground_clauses.proofs.Lists.{each_append, each_dedup}
use Rattle.ground_clauses.proofs.Numbers.{same_lit-true, same_moment-true}
use Rattle.ground_clauses.proofs.Reaches.{at_place}
use Rattle.ground_clauses.specs.Asking.{denial_clauses, form_clauses, numbered_all, sets_in}
use Rattle.ground_clauses.specs.Literals.{clause_forms}
use Rattle.ground_clauses.specs.Query.{atom_form, clause_of, denial, dedup, dedup_after, entry_at, form_lits, has_both_signs, index_of, is_certain, literal_form, literal_is_atom, numbered, opposite, rise_clause, same_lit, same_moment, same_variable, state_lit, variable}
use Rattle.ground_clauses.specs.Rows.{HasNumber, IsNumbered, IsNumberedForm, IsRow, IsSeen, denied, entry_seen, form_of, known_both_signs, lit_in, lit_of, made_clause, row_form, same_known, seen_at}
use Rattle.ground_clauses.specs.declared.clauses.Lit.{Lit}
use Rattle.ground_clauses.specs.declared.instances.Instance.{Instance}
use Rattle.ground_clauses.specs.declared.literals.KnownLit.{KnownLit}
use Rattle.ground_clauses.specs.declared.queries.Asked.{Asked}
use Rattle.ground_clauses.specs.declared.rows.Row.{Row}
use Rattle.ground_clauses.specs.declared.rows.Seen.{Seen}
use Rattle.ground_clauses.specs.declared.rows.Seen.TheVariants.{Always as SeenAlways, Same as SeenSame}
use Rattle.ground_clauses.specs.declared.state_lit.Form.{Form}
use Rattle.ground_clauses.specs.declared.state_lit.Variable.{Variable}
use Rattle.spec_model.specs.Stable.{rise}
use Rattle.spec_model.specs.declared.clause.Literal.{Literal}
use Rattle.spec_model.specs.declared.instance.Atom.{Atom as ClassAtom}
use Rattle.spec_model.specs.declared.state.Moment.{Moment}
use Rattle.spec_model.specs.declared.state.Moment.TheVariants.{Both, First, Second, Start}

-- ---- the row of an atom

seen_in_row : (q : Asked) (r : Row) (m : Moment) → IsRow q r → IsSeen q r.atom m (seen_at r m)
seen_in_row q r Start is = is.start
seen_in_row q r First is = is.first
seen_in_row q r Second is = is.second
seen_in_row q r Both is = is.both

row_formed : (q : Asked) (r : Row) (sign : Bool) (s : Seen) → IsRow q r → form_of (row_form r sign s) ≡ atom_form q.spec.now sign r.atom (entry_seen s)
row_formed q r sign SeenAlways is = ap (λ w. form_of (row_form (record r { wins = w }) sign SeenAlways)) is.wins
row_formed q r sign (SeenSame m n) is = ap (λ w. form_of (row_form (record r { wins = w }) sign (SeenSame m n))) is.wins

pub atom_formed : (q : Asked) (r : Row) (a : ClassAtom) (sign : Bool) (m : Moment) → IsRow q r → r.atom ≡ a
    → form_of (row_form r sign (seen_at r m)) ≡ atom_form q.spec.now sign a (entry_at q.spec.now (sets_in q) a m)
atom_formed q r a sign m is same =
    row_formed q r sign (seen_at r m) is ∙ ap (atom_form q.spec.now sign r.atom) (seen_in_row q r m is).entry ∙ ap (λ b. atom_form q.spec.now sign b (entry_at q.spec.now (sets_in q) b m)) same

seen_numbered : (vs : List Variable) (r : Row) (sign : Bool) (s : Seen) → HasNumber vs r.atom s → IsNumberedForm vs (row_form r sign s)
seen_numbered vs r sign SeenAlways h = tt
seen_numbered vs r sign (SeenSame m n) h = h

pub atom_numbered : (q : Asked) (r : Row) (sign : Bool) (m : Moment) → IsRow q r → IsNumberedForm q.variables.now (row_form r sign (seen_at r m))
atom_numbered q r sign m is = seen_numbered q.variables.now r sign (seen_at r m) (seen_in_row q r m is).number

-- the number that is seen is that of the atom's own variable
pub own_number : (q : Asked) (r : Row) (m k : Moment) (n : ℕ) → IsRow q r → seen_at r m ≡ SeenSame k n → same_moment m k ≡ true → n ≡ index_of (same_variable (variable r.atom m)) q.variables.now
own_number q r m k n is seen same =
    let h : HasNumber q.variables.now r.atom (SeenSame k n) = subst (HasNumber q.variables.now r.atom) seen (seen_in_row q r m is).number in
    h ∙ ap (λ o. index_of (same_variable (variable r.atom o)) q.variables.now) (sym (same_moment-true m k same))

-- ---- literals

and_none : (b : Bool) → (b && false) ≡ false
and_none true = refl
and_none false = refl

known_same : (vs : List Variable) (x y : KnownLit) → IsNumbered vs x → IsNumbered vs y → same_known x y ≡ same_lit x.lit y.lit
known_same vs x y one other = elim (cases_Bool (same_lit x.lit y.lit)) [
  | inl same ↦ ap (λ b. b && same_lit x.lit y.lit) (eq-eqb x.number y.number (one ∙ ap (λ l. index_of (same_variable l.var) vs) (same_lit-true x.lit y.lit same) ∙ sym other))
  | inr different ↦ ap (λ b. eqb x.number y.number && b) different ∙ and_none (eqb x.number y.number) ∙ sym different
]

known_any : (vs : List Variable) (x : KnownLit) (ks : List KnownLit) → IsNumbered vs x → AllByRecursion (IsNumbered vs) ks → list_any (same_known x) ks ≡ list_any (same_lit x.lit) (map lit_in ks)
known_any vs x [] one h = refl
known_any vs x (k ∷ ks) one h = ap (λ b. b || list_any (same_known x) ks) (known_same vs x k one h.0) ∙ ap (λ b. same_lit x.lit k.lit || b) (known_any vs x ks one h.1)

known_signs : (vs : List Variable) (ks : List KnownLit) → AllByRecursion (IsNumbered vs) ks → known_both_signs ks ≡ has_both_signs (map lit_in ks)
known_signs vs [] h = refl
known_signs vs (k ∷ ks) h =
    ap (λ b. b || known_both_signs ks) (known_any vs (denied k) ks h.0 h.1) ∙ ap (λ b. list_any (same_lit (opposite k.lit)) (map lit_in ks) || b) (known_signs vs ks h.1)

known_dedup : (vs : List Variable) (seen ks : List KnownLit) → AllByRecursion (IsNumbered vs) seen → AllByRecursion (IsNumbered vs) ks
    → map lit_in (dedup_after same_known seen ks) ≡ dedup_after same_lit (map lit_in seen) (map lit_in ks)
known_dedup vs seen [] old h = refl
known_dedup vs seen (k ∷ ks) old h =
    by_test (list_any (same_known k) seen) (known_dedup vs seen ks old h.1)
    (known_dedup vs (seen ++ k ∷ []) ks (each_append (IsNumbered vs) seen (k ∷ []) old (h.0, tt)) h.1 ∙ ap (λ xs. dedup_after same_lit xs (map lit_in ks)) (map-append lit_in seen (k ∷ [])))
    ∙ ap (λ b. cond b (dedup_after same_lit (map lit_in seen) (map lit_in ks)) (k.lit ∷ dedup_after same_lit (map lit_in seen ++ k.lit ∷ []) (map lit_in ks))) (known_any vs k seen h.0 old)
  where
    by_test : (b : Bool) → map lit_in (dedup_after same_known seen ks) ≡ dedup_after same_lit (map lit_in seen) (map lit_in ks)
        → map lit_in (dedup_after same_known (seen ++ k ∷ []) ks) ≡ dedup_after same_lit (map lit_in seen ++ k.lit ∷ []) (map lit_in ks)
        → map lit_in (cond b (dedup_after same_known seen ks) (k ∷ dedup_after same_known (seen ++ k ∷ []) ks))
        ≡ cond b (dedup_after same_lit (map lit_in seen) (map lit_in ks)) (k.lit ∷ dedup_after same_lit (map lit_in seen ++ k.lit ∷ []) (map lit_in ks))
    by_test true one other = one
    by_test false one other = ap (λ xs. k.lit ∷ xs) other

pub signs_step : (lits : List KnownLit) (d : KnownLit) → 0 < length lits → known_both_signs lits ≡ (list_any (same_known (denied (get_or lits 0 d))) (drop 1 lits) || known_both_signs (drop 1 lits))
signs_step [] d lt = absurd (omega arith)
signs_step (x ∷ xs) d lt = refl

pub dedup_step : (once lits : List KnownLit) (i : ℕ) (d : KnownLit) → i < length lits
    → dedup_after same_known once (drop i lits) ≡ cond (list_any (same_known (get_or lits i d)) once) (dedup_after same_known once (drop (i + 1) lits)) (get_or lits i d ∷ dedup_after same_known (once ++ get_or lits i d ∷ []) (drop (i + 1) lits))
dedup_step once lits i d lt =
    at_place (λ xs. dedup_after same_known once xs ≡ cond (list_any (same_known (get_or lits i d)) once) (dedup_after same_known once (drop (i + 1) lits)) (get_or lits i d ∷ dedup_after same_known (once ++ get_or lits i d ∷ []) (drop (i + 1) lits)))
    lits i d lt refl

-- ---- clauses

pub certain_clause : (once : List KnownLit) (fs : List Form) → list_any is_certain fs ≡ true → made_clause false once ≡ clause_of fs
certain_clause once fs h = sym (certain_empty fs h)

pub signs_clause : (vs : List Variable) (ks once : List KnownLit) (fs : List Form) → AllByRecursion (IsNumbered vs) ks → list_any is_certain fs ≡ false → map lit_in ks ≡ flat_map form_lits fs
    → known_both_signs ks ≡ true → made_clause false once ≡ clause_of fs
signs_clause vs ks once fs numbers certain lits signs =
    sym (open_made fs (map lit_in ks) certain lits ∙ ap (λ b. cond b [] (dedup same_lit (map lit_in ks) ∷ [])) (sym (known_signs vs ks numbers) ∙ signs))

pub open_clause : (vs : List Variable) (ks once : List KnownLit) (fs : List Form) → AllByRecursion (IsNumbered vs) ks → list_any is_certain fs ≡ false → map lit_in ks ≡ flat_map form_lits fs
    → known_both_signs ks ≡ false → once ≡ dedup same_known ks → made_clause true once ≡ clause_of fs
open_clause vs ks once fs numbers certain lits signs is =
    ap (λ xs. map lit_in xs ∷ []) is ∙ ap (λ xs. xs ∷ []) (known_dedup vs [] ks tt numbers)
    ∙ sym (open_made fs (map lit_in ks) certain lits ∙ ap (λ b. cond b [] (dedup same_lit (map lit_in ks) ∷ [])) (sym (known_signs vs ks numbers) ∙ signs))

pub once_numbered : (vs : List Variable) (ks once : List KnownLit) → AllByRecursion (IsNumbered vs) ks → once ≡ dedup same_known ks → AllByRecursion (IsNumbered vs) once
once_numbered vs ks once h is = subst (AllByRecursion (IsNumbered vs)) (sym is) (each_dedup (IsNumbered vs) same_known ks h)

lits_numbered : (vs : List Variable) (ks : List KnownLit) → AllByRecursion (IsNumbered vs) ks → map lit_of ks ≡ map (numbered vs) (map lit_in ks)
lits_numbered vs [] h = refl
lits_numbered vs (k ∷ ks) h = ap (λ (n : ℕ). let l : Lit = record { var = n; yes = k.lit.yes } in l ∷ map lit_of ks) h.0 ∙ ap (λ xs. numbered vs k.lit ∷ xs) (lits_numbered vs ks h.1)

pub made_clauses : (q : Asked) (m : Moment) (i : Instance) (made : Bool) (once lits : List KnownLit) (classes : List ℕ) (old : List (List Lit)) → made ≡ true → lits ≡ once → classes ≡ i.classes
    → made_clause made once ≡ clause_of (clause_forms q m classes i.clause.now) → (made ≡ true → AllByRecursion (IsNumbered q.variables.now) once) → old ++ map lit_of lits ∷ [] ≡ old ++ form_clauses q m i
made_clauses q m i made once lits classes old is_made whole at is numbers =
    ap (λ xs. old ++ map lit_of xs ∷ []) whole
    ∙ ap (λ xs. old ++ xs)
    (ap (λ c. c ∷ []) (lits_numbered q.variables.now once (numbers is_made))
    ∙ ap (numbered_all q) (ap (λ b. made_clause b once) (sym is_made) ∙ is ∙ ap (λ cs. clause_of (clause_forms q m cs i.clause.now)) at))

pub no_clauses : (q : Asked) (m : Moment) (i : Instance) (once : List KnownLit) (old : List (List Lit)) → made_clause false once ≡ clause_of (clause_forms q m i.classes i.clause.now) → old ≡ old ++ form_clauses q m i
no_clauses q m i once old is = sym (append-nil old) ∙ ap (λ xs. old ++ xs) (ap (numbered_all q) is)

pub rise_numbered : (vs : List Variable) (a : ClassAtom) (x y : KnownLit) (from to : Moment) → x.lit ≡ state_lit (variable a from) false → y.lit ≡ state_lit (variable a to) true → IsNumbered vs x → IsNumbered vs y
    → map lit_of (x ∷ y ∷ []) ≡ map (numbered vs) (rise_clause a (rise from to))
rise_numbered vs a x y from to one other numbered_one numbered_other =
    lits_numbered vs (x ∷ y ∷ []) (numbered_one, (numbered_other, tt))
    ∙ ap (λ l. numbered vs l ∷ numbered vs y.lit ∷ []) one ∙ ap (λ l. numbered vs (state_lit (variable a from) false) ∷ numbered vs l ∷ []) other

pub denial_made : (q : Asked) (cs : List ℕ) (sign : Bool) (l : Literal) (f : Form) → literal_is_atom l ≡ true → f ≡ literal_form q.spec.now (sets_in q) Both cs sign l → denial_clauses q cs sign l ≡ numbered_all q (denial f)
denial_made q cs sign l f atom is =
    ap (λ b. numbered_all q (cond b (denial (literal_form q.spec.now (sets_in q) Both cs sign l)) [])) atom ∙ ap (λ g. numbered_all q (denial g)) (sym is)

pub denial_open : (vs : List Variable) (k : KnownLit) → IsNumbered vs k → map lit_of (denied k ∷ []) ≡ map (numbered vs) (opposite k.lit ∷ [])
denial_open vs k h = lits_numbered vs (denied k ∷ []) (h, tt)
