-- Going back over the trail: a literal that has no part, one that is kept, one that its row stands in for.
use Rattle.std.proofs.Common.{◌≡◌, ◌≢◌, ℕ, ◌+◌, ◌<◌, Bool, true, false, not, List, [], ◌∷◌, ◌++◌, length, get_or, reverse, take, drop, refl, sym, lit<, ap, subst, ◌∙◌, inl, inr, arith}
use Rattle.std.specs.Prelude.{slice_get, Some}
use Rattle.std.specs.List.{AllByRecursion}
use Rattle.std.proofs.lemmas.Bool.{and_from, cases_Bool, false_from_ne_true, not_from_false, true≢false}
use Rattle.std.proofs.lemmas.List.{drop_more, length-reverse, length-set, length_push, reverse-append, take-append-drop, take_all, take_more}
use Rattle.std.proofs.lemmas.Option.{get_or_from_slice_get}
use Rattle.ground_clauses.proofs.Lists.{any_append_left, each_append, each_weaker}
use Rattle.ground_clauses.specs.Derivations.{ends_false, hint_goes, is_nil, is_right, makes_true, opposite_num, propagates, repeats, same_num, undecided}
use Rattle.ground_clauses.specs.declared.clauses.Lit.{Lit}
use Rattle.clause_solver.proofs.Marks.{among_each, among_last, among_push, blank_open, each_among, false_before, false_known, false_later, false_within, filter_same, left_among, opposite_false, repeats_push, same_parts}
use Rattle.clause_solver.proofs.Steps.{follow-next, open_before, values_after-push}
use Rattle.clause_solver.specs.Assigning.{left, lit_false, value_at, value_of, with_lit}
use Rattle.clause_solver.specs.Refuting.{Covers, IsMarked, IsRefuting, among, values_before}
use Rattle.clause_solver.specs.Trails.{Follow, IsCause, IsEntry, IsTrail, blank, values_after}
use Rattle.clause_solver.specs.declared.assignment.Cause.TheVariants.{Row}
use Rattle.clause_solver.specs.declared.assignment.Entry.{Entry}
use Rattle.clause_solver.specs.declared.assignment.Trail.{Trail}
use Rattle.clause_solver.specs.declared.assignment.Value.{Value}
use Rattle.clause_solver.specs.declared.assignment.Value.TheVariants.{Open}
use Rattle.clause_solver.specs.declared.learning.Analysis.{Analysis}

-- a literal that isn't marked
covers_skip : (vs : List Value) (l : Lit) (marks : List Bool) (kept falses : List Lit) → l.var < length vs → value_at vs l.var ≡ Open → get_or marks l.var false ≡ false
    → Covers vs marks kept falses → Covers (with_lit vs l) marks kept falses
covers_skip vs l marks kept falses lt free bare cov = record {
  marked = λ x h m. elim (false_before vs l x lt h) [
    | inl before ↦ cov.marked x before m
    | inr here ↦ absurd (true≢false (sym m ∙ ap (λ n. get_or marks n false) (same_parts x (opposite_num l) here).0 ∙ bare))
  ];
  all = cov.all;
  only = λ x h. elim (cov.only x h) [
    | inl is ↦ inl (false_later vs l x free is)
    | inr is ↦ inr is
  ];
}

-- a literal whose denial is kept
covers_keep : (vs : List Value) (l : Lit) (marks : List Bool) (kept falses : List Lit) → l.var < length vs → value_at vs l.var ≡ Open
    → Covers vs marks (kept ++ opposite_num l ∷ []) falses → Covers (with_lit vs l) marks kept falses
covers_keep vs l marks kept falses lt free cov = record {
  marked = λ x h m. elim (false_before vs l x lt h) [
    | inl before ↦ cov.marked x before m
    | inr here ↦ cov.all x (among_last kept (opposite_num l) x here)
  ];
  all = λ x h. cov.all x (any_append_left (same_num x) kept (opposite_num l ∷ []) h);
  only = λ x h. elim (cov.only x h) [
    | inl is ↦ inl (false_later vs l x free is)
    | inr is ↦ elim (among_push kept (opposite_num l) x is) [
      | inl old ↦ inr old
      | inr new ↦ inl (opposite_false vs l x lt new)
    ]
  ];
}

-- a literal that was forced is false once its row's other literals are
covers_more : (vs : List Value) (l : Lit) (c : List Lit) (old new : List Bool) (kept falses : List Lit) → l.var < length vs → value_at vs l.var ≡ Open → IsMarked old new c
    → Covers vs new kept falses → Covers (with_lit vs l) old kept (falses ++ opposite_num l ∷ [])
covers_more vs l c old new kept falses lt free marks cov = record {
  marked = λ x h m. elim (false_before vs l x lt h) [
    | inl before ↦ any_append_left (same_num x) falses (opposite_num l ∷ []) (cov.marked x before (marks.kept x.var m))
    | inr here ↦ among_last falses (opposite_num l) x here
  ];
  all = λ x h. any_append_left (same_num x) falses (opposite_num l ∷ []) (cov.all x h);
  only = λ x h. elim (among_push falses (opposite_num l) x h) [
    | inl old' ↦ elim (cov.only x old') [
      | inl is ↦ inl (false_later vs l x free is)
      | inr is ↦ inr is
    ]
    | inr new' ↦ inl (opposite_false vs l x lt new')
  ];
}

-- the false literals don't speak of the variable
not_covered : (vs : List Value) (l : Lit) (marks : List Bool) (kept falses : List Lit) → l.var < length vs → value_at vs l.var ≡ Open
    → AllByRecursion (λ (x : Lit). value_at (with_lit vs l) x.var ≡ Open) kept → Covers vs marks kept falses → (x : Lit) → among falses x ≡ true → x.var ≢ l.var
not_covered vs l marks kept falses lt free opens cov x h same = elim (cov.only x h) [
  | inl is ↦ false_known vs x is (ap (value_at vs) same ∙ free)
  | inr is ↦ (open_before vs l x.var lt (among_each (λ v. value_at (with_lit vs l) v ≡ Open) kept x opens is)).1 same
]

-- what the false literals leave of the row is what the values leave
leaves_same : (vs : List Value) (l : Lit) (c : List Lit) (old new : List Bool) (kept falses : List Lit) → l.var < length vs → value_at vs l.var ≡ Open → length new ≡ length vs
    → left vs c ≡ l ∷ [] → AllByRecursion (λ (x : Lit). value_at (with_lit vs l) x.var ≡ Open) kept → IsMarked old new c → Covers vs new kept falses → undecided falses c ≡ l ∷ []
leaves_same vs l c old new kept falses lt free size unit opens marks cov =
    filter_same (λ x. not (among falses x)) (λ x. not (lit_false vs x)) c (each_among (λ x. not (among falses x) ≡ not (lit_false vs x)) c one) ∙ unit
  where
    only_one : (x : Lit) → among c x ≡ true → lit_false vs x ≡ false → x.var ≡ l.var
    only_one x h no' = elim (among_push [] l x (subst (λ ys. among ys x ≡ true) unit (left_among vs c x h no'))) [
      | inl none ↦ absurd (true≢false (sym none))
      | inr is ↦ (same_parts x l is).0
    ]

    one : (x : Lit) → among c x ≡ true → not (among falses x) ≡ not (lit_false vs x)
    one x h = elim (cases_Bool (lit_false vs x)) [
      | inl is ↦ ap not (cov.marked x is (marks.more x h (subst (λ n. x.var < n) (sym size) (false_within vs x is))) ∙ sym is)
      | inr no' ↦ ap not (false_from_ne_true (among falses x) (λ in'. not_covered vs l new kept falses lt free opens cov x in' (only_one x h no')) ∙ sym no')
    ]

hint_first : (rows : List (List Lit)) (r : ℕ) (hints : List ℕ) (falses : List Lit) → 0 < length hints → propagates rows (r ∷ hints) falses ≡ hint_goes (propagates rows hints) falses (slice_get rows r)
hint_first rows r [] falses lt = absurd (omega arith)
hint_first rows r (h ∷ hints) falses lt = refl

-- the row's hint in front of those of the rest
leads_more : (rows : List (List Lit)) (r : ℕ) (hints : List ℕ) (vs : List Value) (l : Lit) (c : List Lit) (old new : List Bool) (kept falses : List Lit) → 0 < length hints
    → slice_get rows r ≡ Some c → l.var < length vs → value_at vs l.var ≡ Open → length new ≡ length vs
    → left vs c ≡ l ∷ [] → AllByRecursion (λ (x : Lit). value_at (with_lit vs l) x.var ≡ Open) kept → IsMarked old new c
    → ((more : List Lit) → Covers (with_lit vs l) old kept more → propagates rows hints more ≡ true)
    → Covers vs new kept falses → propagates rows (r ∷ hints) falses ≡ true
leads_more rows r hints vs l c old new kept falses some get lt free size unit opens marks leads cov =
    hint_first rows r hints falses some
    ∙ ap (hint_goes (propagates rows hints) falses) get
    ∙ ap (makes_true (propagates rows hints) falses) (leaves_same vs l c old new kept falses lt free size unit opens marks cov)
    ∙ and_from (not (among falses (opposite_num l))) (propagates rows hints (falses ++ opposite_num l ∷ []))
    (not_from_false (among falses (opposite_num l)) (false_from_ne_true (among falses (opposite_num l)) (λ in'. not_covered vs l new kept falses lt free opens cov (opposite_num l) in' refl)))
    (leads (falses ++ opposite_num l ∷ []) (covers_more vs l c old new kept falses lt free marks cov))

-- the conflict alone
pub leads_conflict : (rows : List (List Lit)) (r : ℕ) (vs : List Value) (c : List Lit) (old new : List Bool) (falses : List Lit) → slice_get rows r ≡ Some c → length new ≡ length vs
    → left vs c ≡ [] → IsMarked old new c → Covers vs new [] falses → propagates rows (r ∷ []) falses ≡ true
leads_conflict rows r vs c old new falses get size none marks cov =
    ap (ends_false falses) get
    ∙ ap is_nil (filter_same (λ x. not (among falses x)) (λ x. not (lit_false vs x)) c (each_among (λ x. not (among falses x) ≡ not (lit_false vs x)) c one) ∙ none)
  where
    one : (x : Lit) → among c x ≡ true → not (among falses x) ≡ not (lit_false vs x)
    one x h = elim (cases_Bool (lit_false vs x)) [
      | inl is ↦ ap not (cov.marked x is (marks.more x h (subst (λ n. x.var < n) (sym size) (false_within vs x is))) ∙ sym is)
      | inr no' ↦ absurd (true≢false (sym (subst (λ ys. among ys x ≡ true) none (left_among vs c x h no'))))
    ]

-- where no variable has a value, the kept literals are all
covers_blank : (n : ℕ) (marks : List Bool) (kept : List Lit) → Covers (blank n) marks kept kept
covers_blank n marks kept = record {
  marked = λ x h m. absurd (false_known (blank n) x h (blank_open n x.var));
  all = λ x h. h;
  only = λ x h. inr h;
}

opens_before : (vs : List Value) (l : Lit) (kept : List Lit) → l.var < length vs → AllByRecursion (λ (x : Lit). value_at (with_lit vs l) x.var ≡ Open) kept → AllByRecursion (λ (x : Lit). value_at vs x.var ≡ Open) kept
opens_before vs l kept lt opens = each_weaker (λ (x : Lit). value_at (with_lit vs l) x.var ≡ Open) (λ (x : Lit). value_at vs x.var ≡ Open) kept (λ x e. (open_before vs l x.var lt e).0) opens

-- ---- one step back

pub begun : (rows : List (List Lit)) (r : ℕ) (vs : List Value) (c : List Lit) (old : List Bool) (a : Analysis) → slice_get rows r ≡ Some c → left vs c ≡ [] → length old ≡ length vs
    → IsMarked old a.marks c → a.lits ≡ [] → a.hints ≡ r ∷ [] → IsRefuting rows vs a
begun rows r vs c old a get none size marks lits hints = record {
  size = marks.size ∙ size;
  free = subst (AllByRecursion (λ (x : Lit). value_at vs x.var ≡ Open)) (sym lits) tt;
  apart = ap repeats lits;
  some = subst (λ (hs : List ℕ). 0 < length hs) (sym hints) (lit< tt);
  leads = λ falses cov. ap (λ hs. propagates rows (reverse hs) falses) hints
      ∙ leads_conflict rows r vs c old a.marks falses get (marks.size ∙ size) none marks (subst (λ kept. Covers vs a.marks kept falses) lits cov);
}

pub skipped : (rows : List (List Lit)) (vs : List Value) (e : Entry) (a : Analysis) → IsEntry rows vs e → get_or a.marks e.lit.var false ≡ false
    → IsRefuting rows (with_lit vs e.lit) a → IsRefuting rows vs a
skipped rows vs e a is bare was = record {
  size = was.size ∙ length-set vs e.lit.var (value_of e.lit.yes);
  free = opens_before vs e.lit a.lits is.known was.free;
  apart = was.apart;
  some = was.some;
  leads = λ falses cov. was.leads falses (covers_skip vs e.lit a.marks a.lits falses is.known is.free bare cov);
}

pub kept_more : (rows : List (List Lit)) (vs : List Value) (e : Entry) (a : Analysis) → IsEntry rows vs e
    → IsRefuting rows (with_lit vs e.lit) a → IsRefuting rows vs (record a { lits = a.lits ++ opposite_num e.lit ∷ [] })
kept_more rows vs e a is was = record {
  size = was.size ∙ length-set vs e.lit.var (value_of e.lit.yes);
  free = each_append (λ (x : Lit). value_at vs x.var ≡ Open) a.lits (opposite_num e.lit ∷ []) (opens_before vs e.lit a.lits is.known was.free) (is.free, tt);
  apart = repeats_push a.lits (opposite_num e.lit) was.apart
      (each_weaker (λ (x : Lit). value_at (with_lit vs e.lit) x.var ≡ Open) (λ (x : Lit). x.var ≢ e.lit.var) a.lits (λ x o. (open_before vs e.lit x.var is.known o).1) was.free);
  some = was.some;
  leads = λ falses cov. was.leads falses (covers_keep vs e.lit a.marks a.lits falses is.known is.free cov);
}

pub expanded : (rows : List (List Lit)) (vs : List Value) (l : Lit) (r : ℕ) (a new : Analysis) → l.var < length vs → value_at vs l.var ≡ Open → IsCause rows vs l (Row r)
    → new.lits ≡ a.lits → new.hints ≡ a.hints ++ r ∷ [] → ((c : List Lit) → slice_get rows r ≡ Some c → IsMarked a.marks new.marks c)
    → IsRefuting rows (with_lit vs l) a → IsRefuting rows vs new
expanded rows vs l r a new lt free why lits hints marks was =
    let m : IsMarked a.marks new.marks why.0 = marks why.0 why.1 in
    let size : length new.marks ≡ length vs = m.size ∙ was.size ∙ length-set vs l.var (value_of l.yes) in
    record {
      size = size;
      free = subst (AllByRecursion (λ (x : Lit). value_at vs x.var ≡ Open)) (sym lits) (opens_before vs l a.lits lt was.free);
      apart = ap repeats lits ∙ was.apart;
      some = subst (λ (hs : List ℕ). 0 < length hs) (sym hints) (subst (λ n. 0 < n) (sym (length_push a.hints r)) (omega (arith, was.some)));
      leads = λ falses cov.
          ap (λ hs. propagates rows (reverse hs) falses) hints
          ∙ ap (λ hs. propagates rows hs falses) (reverse-append a.hints (r ∷ []))
          ∙ leads_more rows r (reverse a.hints) vs l why.0 a.marks new.marks a.lits falses (subst (λ n. 0 < n) (sym (length-reverse a.hints)) was.some)
          why.1 lt free size why.2 was.free m was.leads (subst (λ kept. Covers vs new.marks kept falses) lits cov);
    }

-- the step that is learned is right
pub step_right : (rows : List (List Lit)) (n : ℕ) (a : Analysis) → IsRefuting rows (blank n) a → is_right rows (record { lits = a.lits; hints = reverse a.hints }) ≡ true
step_right rows n a was =
    and_from (not (repeats a.lits)) (propagates rows (reverse a.hints) a.lits) (not_from_false (repeats a.lits) was.apart) (was.leads a.lits (covers_blank n a.marks a.lits))

-- ---- places of the trail

pub entry_at : (rows : List (List Lit)) (t : Trail) (at : ℕ) (d : Entry) → IsTrail rows t → at < length t.entries → IsEntry rows (values_before t at) (get_or t.entries at d)
entry_at rows t at d is lt =
    follow-next rows (blank (length t.values)) (take at t.entries) (get_or t.entries at d) (drop (at + 1) t.entries)
    (subst (Follow rows (blank (length t.values))) (sym (take-append-drop at t.entries) ∙ ap (λ es. take at t.entries ++ es) (drop_more t.entries at d lt)) is.follow)

pub before_more : (t : Trail) (at : ℕ) (d : Entry) → at < length t.entries → values_before t (at + 1) ≡ with_lit (values_before t at) (get_or t.entries at d).lit
before_more t at d lt = ap (values_after (blank (length t.values))) (take_more t.entries at d lt) ∙ values_after-push (blank (length t.values)) (take at t.entries) (get_or t.entries at d)

pub before_all : (rows : List (List Lit)) (t : Trail) → IsTrail rows t → values_before t (length t.entries) ≡ t.values
before_all rows t is = ap (values_after (blank (length t.values))) (take_all (length t.entries) t.entries (omega arith)) ∙ sym is.values

pub entry_here : (rows : List (List Lit)) (t : Trail) (at : ℕ) (e : Entry) → IsTrail rows t → at < length t.entries → slice_get t.entries at ≡ Some e → IsEntry rows (values_before t at) e
entry_here rows t at e is lt get = subst (IsEntry rows (values_before t at)) (get_or_from_slice_get t.entries at e e get) (entry_at rows t at e is lt)

pub refuting_here : (rows : List (List Lit)) (t : Trail) (at : ℕ) (e : Entry) (a : Analysis) → at < length t.entries → slice_get t.entries at ≡ Some e
    → IsRefuting rows (values_before t (at + 1)) a → IsRefuting rows (with_lit (values_before t at) e.lit) a
refuting_here rows t at e a lt get was =
    subst (λ vs. IsRefuting rows vs a) (before_more t at e lt ∙ ap (λ (d : Entry). with_lit (values_before t at) d.lit) (get_or_from_slice_get t.entries at e e get)) was
