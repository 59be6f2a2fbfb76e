-- What is found: a model, which no other comes before.
use Rattle.std.proofs.Common.{◌≡◌, ◌≢◌, ℕ, zero, suc, ◌<◌, Bool, true, false, cond, not, List, [], ◌∷◌, ◌++◌, length, map, refl, sym, ap, subst, ◌∙◌, inl, inr}
use Rattle.std.specs.Prelude.{slice_get, Some, None, Option, IfNone}
use Rattle.std.specs.List.{list_any, AllByRecursion}
use mathlib.Core.Bool.{beq}
use Rattle.std.proofs.lemmas.Bool.{and_from, and_parts, cases_Bool, cases_eq, cases_order, or_cases, or_left, or_right, true≢false}
use Rattle.std.proofs.lemmas.List.{get_or-set_other, get_or-set_same, length-map}
use Rattle.ground_clauses.proofs.Derives.{step_true}
use Rattle.ground_clauses.proofs.Lists.{each_append, each_both, each_weaker}
use Rattle.ground_clauses.specs.Derivations.{Solves, SpeaksOf, ends_empty, is_nil, is_right, lit_true, steps_right}
use Rattle.ground_clauses.specs.declared.clauses.Cnf.{Cnf}
use Rattle.ground_clauses.specs.declared.clauses.Lit.{Lit}
use Rattle.ground_clauses.specs.declared.clauses.Step.{Step}
use Rattle.clause_solver.proofs.Marks.{blank_open}
use Rattle.clause_solver.proofs.Steps.{is_yes-cases, value_not_open}
use Rattle.clause_solver.specs.Assigning.{is_truth, is_yes, left, lit_false, value_at, value_of, with_lit}
use Rattle.clause_solver.specs.Learned.{IsSearch, rows_of}
use Rattle.clause_solver.specs.Models.{IsAtMost, IsLeastModel, IsModel, truth_in}
use Rattle.clause_solver.specs.Search.{IsConflict, KnownBelow}
use Rattle.clause_solver.specs.Trails.{Follow, IsCause, IsTrail, blank, values_after}
use Rattle.clause_solver.specs.declared.assignment.Cause.{Cause}
use Rattle.clause_solver.specs.declared.assignment.Cause.TheVariants.{Choice, Row}
use Rattle.clause_solver.specs.declared.assignment.Entry.{Entry}
use Rattle.clause_solver.specs.declared.assignment.Trail.{Trail}
use Rattle.clause_solver.specs.declared.assignment.Value.{Value}
use Rattle.clause_solver.specs.declared.assignment.Value.TheVariants.{Open, No, Yes}
use Rattle.clause_solver.specs.declared.solving.Search.{Search}

-- ---- rows

pub get_more : {X : Type 0} (xs ys : List X) (r : ℕ) (x : X) → slice_get xs r ≡ Some x → slice_get (xs ++ ys) r ≡ Some x
get_more [] ys r x h = cc
get_more (y ∷ xs) ys zero x h = h
get_more (y ∷ xs) ys (suc r) x h = get_more xs ys r x h

rows_front : (clauses : List (List Lit)) (steps : List Step) (r : ℕ) (c : List Lit) → slice_get clauses r ≡ Some c → slice_get (rows_of clauses steps) r ≡ Some c
rows_front clauses [] r c h = h
rows_front clauses (s ∷ steps) r c h = rows_front (clauses ++ s.lits ∷ []) steps r c (get_more clauses (s.lits ∷ []) r c h)

pub rows_push : (clauses : List (List Lit)) (steps : List Step) (s : Step) → rows_of clauses (steps ++ s ∷ []) ≡ rows_of clauses steps ++ s.lits ∷ []
rows_push clauses [] s = refl
rows_push clauses (t ∷ steps) s = rows_push (clauses ++ t.lits ∷ []) steps s

pub right_push : (clauses : List (List Lit)) (steps : List Step) (s : Step) → steps_right clauses steps ≡ true → is_right (rows_of clauses steps) s ≡ true → steps_right clauses (steps ++ s ∷ []) ≡ true
right_push clauses [] s h right = and_from (is_right clauses s) true right refl
right_push clauses (t ∷ steps) s h right =
    let k = and_parts (is_right clauses t) (steps_right (clauses ++ t.lits ∷ []) steps) h in
    and_from (is_right clauses t) (steps_right (clauses ++ t.lits ∷ []) (steps ++ s ∷ [])) k.0 (right_push (clauses ++ t.lits ∷ []) steps s k.1 right)

pub ends_push : (steps : List Step) (s : Step) → ends_empty (steps ++ s ∷ []) ≡ is_nil s.lits
ends_push [] s = refl
ends_push (t ∷ []) s = refl
ends_push (t ∷ (u ∷ steps)) s = ends_push (u ∷ steps) s

-- what makes the clauses true makes every row true
solves_rows : (v : ℕ → Bool) (clauses : List (List Lit)) (steps : List Step) → Solves v clauses → steps_right clauses steps ≡ true → Solves v (rows_of clauses steps)
solves_rows v clauses [] s h = s
solves_rows v clauses (t ∷ steps) s h =
    let k = and_parts (is_right clauses t) (steps_right (clauses ++ t.lits ∷ []) steps) h in
    solves_rows v (clauses ++ t.lits ∷ []) steps (each_append (λ c. list_any (lit_true v) c ≡ true) clauses (t.lits ∷ []) s (step_true v clauses t s k.0, tt)) k.1

solves_at : (v : ℕ → Bool) (rows : List (List Lit)) (r : ℕ) (c : List Lit) → Solves v rows → slice_get rows r ≡ Some c → list_any (lit_true v) c ≡ true
solves_at v [] r c s is = cc
solves_at v (d ∷ rows) zero c s is = let e : d ≡ c = cc in subst (λ x. list_any (lit_true v) x ≡ true) e s.0
solves_at v (d ∷ rows) (suc r) c s is = solves_at v rows r c s.1 is

-- ---- the values are a model

truth_value : (values : List Value) (v : ℕ) → truth_in (map is_yes values) v ≡ is_yes (value_at values v)
truth_value [] v = refl
truth_value (x ∷ values) zero = refl
truth_value (x ∷ values) (suc v) = truth_value values v

known_truth : (v : Value) (b : Bool) → v ≢ Open → is_truth v (not b) ≡ false → beq (is_yes v) b ≡ true
known_truth Open b h k = absurd (h refl)
known_truth No true h k = absurd (true≢false k)
known_truth No false h k = refl
known_truth Yes true h k = refl
known_truth Yes false h k = absurd (true≢false k)

clause_true : (n : ℕ) (values : List Value) (c : List Lit) → KnownBelow n values → AllByRecursion (λ (x : Lit). x.var < n) c → (left values c ≡ [] → ⊥) → list_any (lit_true (truth_in (map is_yes values))) c ≡ true
clause_true n values [] known within some = absurd (some refl)
clause_true n values (x ∷ c) known within some = elim (cases_Bool (lit_false values x)) [
  | inl gone ↦ or_right (lit_true (truth_in (map is_yes values)) x) (list_any (lit_true (truth_in (map is_yes values))) c)
      (clause_true n values c known within.1 (λ none. some (subst (λ b. cond (not b) (x ∷ left values c) (left values c) ≡ []) (sym gone) none)))
  | inr stays ↦ or_left (lit_true (truth_in (map is_yes values)) x) (list_any (lit_true (truth_in (map is_yes values))) c)
      (ap (λ b. beq b x.yes) (truth_value values x.var) ∙ known_truth (value_at values x.var) x.yes (known x.var within.0) stays)
]

each_at : {X : Type 0} (P : X → Type 0) (xs : List X) → ((r : ℕ) (x : X) → slice_get xs r ≡ Some x → P x) → AllByRecursion P xs
each_at P [] f = tt
each_at P (x ∷ xs) f = (f 0 x refl, each_at P xs (λ r y h. f (suc r) y h))

values_model : (cnf : Cnf) (steps : List Step) (values : List Value) → length values ≡ cnf.vars → SpeaksOf cnf.vars cnf.clauses → KnownBelow (length values) values
    → ((r : ℕ) → IsConflict (rows_of cnf.clauses steps) values r → ⊥) → IsModel cnf (map is_yes values)
values_model cnf steps values size speaks known none = record {
  size = length-map values is_yes ∙ size;
  solves = each_weaker
      (λ c. AllByRecursion (λ (x : Lit). x.var < cnf.vars) c × (left values c ≡ [] → ⊥))
      (λ c. list_any (lit_true (truth_in (map is_yes values))) c ≡ true) cnf.clauses
      (λ c h. clause_true cnf.vars values c (subst (λ n. KnownBelow n values) size known) h.0 h.1)
      (each_both (λ c. AllByRecursion (λ (x : Lit). x.var < cnf.vars) c) (λ c. left values c ≡ [] → ⊥) cnf.clauses speaks
      (each_at (λ c. left values c ≡ [] → ⊥) cnf.clauses (λ r c get is. none r (c, rows_front cnf.clauses steps r c get, is))));
}

-- ---- no model comes before

abbrev pub Agrees : (ℕ → Bool) → List Value → Type 0
Agrees w values = (u : ℕ) → (value_at values u ≡ Yes → w u ≡ true) × (value_at values u ≡ No → w u ≡ false)

agrees_false : (w : ℕ → Bool) (values : List Value) (x : Lit) → Agrees w values → lit_false values x ≡ true → lit_true w x ≡ false
agrees_false w values x agree h = by_value (value_at values x.var) x.yes refl h
  where
    by_value : (v : Value) (b : Bool) → value_at values x.var ≡ v → is_truth v (not b) ≡ true → beq (w x.var) b ≡ false
    by_value Open b e k = absurd (true≢false (sym k))
    by_value No true e k = ap (λ t. beq t true) ((agree x.var).1 e)
    by_value No false e k = absurd (true≢false (sym k))
    by_value Yes true e k = absurd (true≢false (sym k))
    by_value Yes false e k = ap (λ t. beq t false) ((agree x.var).0 e)

-- a true clause has a true literal that is left
left_true : (w : ℕ → Bool) (values : List Value) (c : List Lit) → Agrees w values → list_any (lit_true w) c ≡ true → list_any (lit_true w) (left values c) ≡ true
left_true w values [] agree h = h
left_true w values (x ∷ c) agree h = elim (cases_Bool (lit_false values x)) [
  | inl gone ↦ subst (λ b. list_any (lit_true w) (cond (not b) (x ∷ left values c) (left values c)) ≡ true) (sym gone)
      (elim (or_cases (lit_true w x) (list_any (lit_true w) c) h) [
        | inl here ↦ absurd (true≢false (sym here ∙ agrees_false w values x agree gone))
        | inr there ↦ left_true w values c agree there
      ])
  | inr stays ↦ subst (λ b. list_any (lit_true w) (cond (not b) (x ∷ left values c) (left values c)) ≡ true) (sym stays)
      (elim (or_cases (lit_true w x) (list_any (lit_true w) c) h) [
        | inl here ↦ or_left (lit_true w x) (list_any (lit_true w) (left values c)) here
        | inr there ↦ or_right (lit_true w x) (list_any (lit_true w) (left values c)) (left_true w values c agree there)
      ])
]

truth_same : (a b : Bool) → beq a b ≡ true → a ≡ b
truth_same true true h = refl
truth_same false false h = refl
truth_same true false h = absurd (true≢false (sym h))
truth_same false true h = absurd (true≢false (sym h))

one_true : (w : ℕ → Bool) (x : Lit) → list_any (lit_true w) (x ∷ []) ≡ true → w x.var ≡ x.yes
one_true w x h = elim (or_cases (lit_true w x) false h) [
  | inl here ↦ truth_same (w x.var) x.yes here
  | inr none ↦ absurd (true≢false (sym none))
]

value_yes : (b : Bool) → value_of b ≡ Yes → b ≡ true
value_yes true h = refl
value_yes false h = cc

value_no : (b : Bool) → value_of b ≡ No → b ≡ false
value_no true h = cc
value_no false h = refl

yes_of : (b : Bool) → is_yes (value_of b) ≡ b
yes_of true = refl
yes_of false = refl

agrees_more : (w : ℕ → Bool) (values : List Value) (l : Lit) → l.var < length values → Agrees w values → w l.var ≡ l.yes → Agrees w (with_lit values l)
agrees_more w values l lt agree is u = elim (cases_eq u l.var) [
  | inl same ↦
      let here : value_at (with_lit values l) u ≡ value_of l.yes = ap (value_at (with_lit values l)) same ∙ get_or-set_same values l.var (value_of l.yes) Open lt in (
        λ h. ap w same ∙ is ∙ value_yes l.yes (sym here ∙ h),
        λ h. ap w same ∙ is ∙ value_no l.yes (sym here ∙ h),
      )
  | inr other ↦
      let there : value_at (with_lit values l) u ≡ value_at values u = get_or-set_other values l.var u (value_of l.yes) Open other in
      (λ h. (agree u).0 (sym there ∙ h), λ h. (agree u).1 (sym there ∙ h))
]

-- a value stays
after_stays : (rows : List (List Lit)) (values : List Value) (es : List Entry) (u : ℕ) → Follow rows values es → value_at values u ≢ Open → value_at (values_after values es) u ≡ value_at values u
after_stays rows values [] u f h = refl
after_stays rows values (e ∷ es) u f h =
    let there : value_at (with_lit values e.lit) u ≡ value_at values u = get_or-set_other values e.lit.var u (value_of e.lit.yes) Open (λ same. h (ap (value_at values) same ∙ f.0.free)) in
    after_stays rows (with_lit values e.lit) es u f.1 (λ o. h (sym there ∙ o)) ∙ there

after_here : (rows : List (List Lit)) (values : List Value) (e : Entry) (es : List Entry) → Follow rows values (e ∷ es) → value_at (values_after values (e ∷ es)) e.lit.var ≡ value_of e.lit.yes
after_here rows values e es f =
    let here : value_at (with_lit values e.lit) e.lit.var ≡ value_of e.lit.yes = get_or-set_same values e.lit.var (value_of e.lit.yes) Open f.0.known in
    after_stays rows (with_lit values e.lit) es e.lit.var f.1 (λ o. value_not_open e.lit.yes (sym here ∙ o)) ∙ here

-- a model that agrees with the values up to a variable agrees with each literal that was made true before it
entry_true : (rows : List (List Lit)) (w : ℕ → Bool) (values : List Value) (l : Lit) (final : Value) (v : ℕ) (why : Cause) → IsCause rows values l why → Solves w rows → Agrees w values
    → value_at values v ≡ Open → final ≡ value_of l.yes → (l.var < v → is_yes final ≡ w l.var) → (l.var ≡ v → final ≡ Yes) → w l.var ≡ l.yes
entry_true rows w values l final v Choice why solves agree free is below here = elim (cases_order l.var v) [
  | inl same ↦ absurd (let h : Yes ≡ No = sym (here same) ∙ is ∙ ap value_of why.0 in cc)
  | inr other ↦ elim other [
    | inl lt ↦ sym (below lt) ∙ ap is_yes is ∙ yes_of l.yes
    | inr gt ↦ absurd (why.1 v gt free)
  ]
]
entry_true rows w values l final v (Row r) why solves agree free is below here =
    one_true w l (subst (λ xs. list_any (lit_true w) xs ≡ true) why.2 (left_true w values why.0 agree (solves_at w rows r why.0 solves why.1)))

least_from : (rows : List (List Lit)) (w : ℕ → Bool) (values : List Value) (es : List Entry) (v : ℕ) → Follow rows values es → Solves w rows → Agrees w values → value_at values v ≡ Open
    → ((u : ℕ) → u < v → is_yes (value_at (values_after values es) u) ≡ w u) → value_at (values_after values es) v ≡ Yes → w v ≡ true
least_from rows w values [] v f solves agree free below is = absurd (let h : Open ≡ Yes = sym free ∙ is in cc)
least_from rows w values (e ∷ es) v f solves agree free below is =
    let final : value_at (values_after values (e ∷ es)) e.lit.var ≡ value_of e.lit.yes = after_here rows values e es f in
    let true' : w e.lit.var ≡ e.lit.yes =
    entry_true rows w values e.lit (value_at (values_after values (e ∷ es)) e.lit.var) v e.cause f.0.cause solves agree free final (below e.lit.var)
    (λ same. ap (value_at (values_after values (e ∷ es))) same ∙ is) in
    elim (cases_eq v e.lit.var) [
      | inl same ↦ ap w same ∙ true' ∙ value_yes e.lit.yes (sym final ∙ ap (value_at (values_after values (e ∷ es))) (sym same) ∙ is)
      | inr other ↦ least_from rows w (with_lit values e.lit) es v f.1 solves (agrees_more w values e.lit f.0.known agree true')
          (get_or-set_other values e.lit.var v (value_of e.lit.yes) Open other ∙ free) below is
    ]

agrees_blank : (w : ℕ → Bool) (n : ℕ) → Agrees w (blank n)
agrees_blank w n u = (
  λ h. absurd (let k : Open ≡ Yes = sym (blank_open n u) ∙ h in cc),
  λ h. absurd (let k : Open ≡ No = sym (blank_open n u) ∙ h in cc),
)

values_least : (rows : List (List Lit)) (t : Trail) (w : List Bool) → IsTrail rows t → Solves (truth_in w) rows → IsAtMost (map is_yes t.values) w
values_least rows t w is solves v same here =
    least_from rows (truth_in w) (blank (length t.values)) t.entries v is.follow solves (agrees_blank (truth_in w) (length t.values)) (blank_open (length t.values) v)
    (λ u lt. ap (λ vs. is_yes (value_at vs u)) (sym is.values) ∙ sym (truth_value t.values u) ∙ same u lt)
    (ap (λ vs. value_at vs v) (sym is.values) ∙ is_yes-cases (value_at t.values v) (sym (truth_value t.values v) ∙ here))

pub least_found : (cnf : Cnf) (s : Search) → IsSearch cnf s → SpeaksOf cnf.vars cnf.clauses → KnownBelow (length s.trail.values) s.trail.values
    → ((r : ℕ) → IsConflict s.rows s.trail.values r → ⊥) → IsLeastModel cnf (map is_yes s.trail.values)
least_found cnf s is speaks known none = record {
  model = values_model cnf s.steps s.trail.values is.size speaks known (λ r h. none r (subst (λ rows. IsConflict rows s.trail.values r) (sym is.rows) h));
  least = λ w m. values_least s.rows s.trail w is.trail (subst (Solves (truth_in w)) (sym is.rows) (solves_rows (truth_in w) cnf.clauses s.steps m.solves is.right));
}

-- ---- a row more

cause_more : (rows : List (List Lit)) (c : List Lit) (values : List Value) (l : Lit) (why : Cause) → IsCause rows values l why → IsCause (rows ++ c ∷ []) values l why
cause_more rows c values l Choice why = why
cause_more rows c values l (Row r) why = (why.0, get_more rows (c ∷ []) r why.0 why.1, why.2)

follow_more : (rows : List (List Lit)) (c : List Lit) (values : List Value) (es : List Entry) → Follow rows values es → Follow (rows ++ c ∷ []) values es
follow_more rows c values [] f = tt
follow_more rows c values (e ∷ es) f = (
  record { known = f.0.known; free = f.0.free; cause = cause_more rows c values e.lit e.cause f.0.cause },
  follow_more rows c (with_lit values e.lit) es f.1,
)

pub trail_more : (rows : List (List Lit)) (c : List Lit) (t : Trail) → IsTrail rows t → IsTrail (rows ++ c ∷ []) t
trail_more rows c t is = record { few = is.few; values = is.values; follow = follow_more rows c (blank (length t.values)) t.entries is.follow }

-- one step more
pub learned : (cnf : Cnf) (s new : Search) (step : Step) → is_right s.rows step ≡ true → new.rows ≡ s.rows ++ step.lits ∷ [] → new.steps ≡ s.steps ++ step ∷ []
    → length new.trail.values ≡ length s.trail.values → ((rows : List (List Lit)) → IsTrail rows s.trail → IsTrail rows new.trail) → IsSearch cnf s → IsSearch cnf new
learned cnf s new step right rows steps size trail is = record {
  size = size ∙ is.size;
  rows = rows ∙ ap (λ cs. cs ++ step.lits ∷ []) is.rows ∙ sym (rows_push cnf.clauses s.steps step) ∙ ap (rows_of cnf.clauses) (sym steps);
  right = ap (steps_right cnf.clauses) steps ∙ right_push cnf.clauses s.steps step is.right (subst (λ cs. is_right cs step ≡ true) is.rows right);
  trail = subst (λ cs. IsTrail cs new.trail) (sym rows) (trail_more s.rows step.lits new.trail (trail s.rows is.trail));
}

pub ended_empty : (steps old : List Step) (step : Step) → steps ≡ old ++ step ∷ [] → step.lits ≡ [] → ends_empty steps ≡ true
ended_empty steps old step is none = ap ends_empty is ∙ ends_push old step ∙ ap is_nil none

pub none_weaker : {X : Type 0} {P Q R : Type 0} (o : Option X) → IfNone o P → IfNone o Q → (P → Q → R) → IfNone o R
none_weaker None p q f = f p q
none_weaker (Some x) p q f = tt
