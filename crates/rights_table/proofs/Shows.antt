-- What a table shows is what its replica shows.
use Rattle.std.proofs.Common.{◌≡◌, ℕ, ◌<◌, ◌≤◌, Bool, true, false, cond, filter, List, [], ◌∷◌, ◌++◌, inl, inr, refl, sym, ap, ◌∙◌, arith}
use Rattle.std.specs.Prelude.{Option, None, Some, nat_le, nat_lt, Result, Ok, Err, IfOk, ◌||◌, IfSome}
use Rattle.std.specs.List.{flat_map}
use Rattle.std.specs.Option.{option_map_or, option_to_list}
use Rattle.std.specs.Str.{bytes_eq as same_numbers}
use Rattle.std.proofs.Math.Path.{fun_ext}
use Rattle.std.proofs.lemmas.Bool.{and_parts, cases_Bool, cond-true, cond-false, leb-true}
use Rattle.std.proofs.lemmas.List.Concat.{flat_map-cons}
use Rattle.std.proofs.lemmas.Slice.Eq.{bytes_eq-Decides}
use Rattle.ind_base.specs.declared.span.Span.{Span}
use Rattle.ind_base.specs.declared.refusal.NoMemory.{NoMemory}
use Rattle.spec_model.specs.declared.plan.Setup.{Setup}
use Rattle.spec_model.specs.declared.right.Right.{Right}
use Rattle.spec_model.specs.declared.right.Right.TheVariants as right
use Rattle.spec_model.specs.declared.log.LogItem.{LogItem}
use Rattle.spec_model.specs.Truths.{no_span, span_has}
use Rattle.spec_model.specs.Universe.{below}
use Rattle.run_model.specs.Finals.{points_shown, shown}
use Rattle.run_model.specs.Logs.{Logs}
use Rattle.run_model.specs.Points.{first_point, holds_point, points_all, runs_of, starts_with}
use Rattle.run_model.specs.declared.history.Hold.{Hold}
use Rattle.run_model.specs.declared.history.Hold.TheVariants as hold
use Rattle.partition_locks.specs.Held.{AreApart, HeldPoints, holds, lies_in, lies_within}
use Rattle.partition_locks.proofs.Clips.{same_below}
use Rattle.partition_locks.proofs.Queries.{maximal_runs}
use Rattle.rights_table.specs.declared.holding.Holding.{Holding}
use Rattle.rights_table.specs.declared.holding.Holding.TheVariants as holding
use Rattle.rights_table.specs.declared.table.Table.{Table}
use Rattle.rights_table.specs.Holdings.{is_of, point_of}
use Rattle.rights_table.specs.Showing.{held_shown, shown_in}
use Rattle.rights_table.specs.Tables.{entered, has_point, point_in}
use Rattle.rights_table.specs.Whole.{HasAll}
use Rattle.rights_table.proofs.Telling.{point_entered, table_tells}

-- ---- points that are those of the start

-- the one run, or none
either_false : (b : Bool) → (b || false) ≡ b
either_false true = refl
either_false false = refl

one_has : (run : Option Span) (x : ℕ) → lies_in (option_to_list run) x ≡ lies_within run x
one_has None x = refl
one_has (Some run) x = either_false (span_has run x)

one_apart : (run : Option Span) → IfSome run (λ r. r.lo ≤ r.hi) → AreApart 0 (option_to_list run)
one_apart None some = tt
one_apart (Some run) some = (omega arith, some, tt)

one_below : (all : ℕ) (run : Option Span) → IfSome run (λ r. r.hi < all) → (x : ℕ) → lies_in (option_to_list run) x ≡ true → x < all
one_below all None low x lies = absurd cc
one_below all (Some run) low x lies = let p = and_parts (nat_le run.lo x) (nat_le x run.hi) (sym (either_false (span_has run x)) ∙ lies) in let le = leb-true x run.hi p.1 in omega (arith, le, low)

-- it is the runs of its points
pub one_runs : (all : ℕ) (run : Option Span) (P : ℕ → Bool) → IfSome run (λ r. r.lo ≤ r.hi) → IfSome run (λ r. r.hi < all) → ((x : ℕ) → lies_within run x ≡ P x) → option_to_list run ≡ runs_of (filter P (below all))
one_runs all run P some low same =
    maximal_runs all (option_to_list run) (one_apart run some) (one_below all run low)
    ∙ ap (λ (T : ℕ → Bool). runs_of (filter T (below all))) (fun_ext (λ x. one_has run x ∙ same x))

-- the same runs have the same points
pub same_points : (all : ℕ) (P Q : ℕ → Bool) (runs : List Span) (run : Option Span) → ((x : ℕ) → x < all → lies_in runs x ≡ P x) → ((x : ℕ) → lies_within run x ≡ Q x) → runs ≡ option_to_list run → filter P (below all) ≡ filter Q (below all)
same_points all P Q runs run these those same =
    same_below P Q all (λ x lt. sym (these x lt) ∙ ap (λ (rs : List Span). lies_in rs x) same ∙ one_has run x ∙ those x)

-- equal points aren't shown
pub none_shown : (r : Right) (first have : List ℕ) → have ≡ first → [] ≡ points_shown r first have
none_shown r first have same = sym (cond-true (same_numbers have first) [] (hold.Points r (runs_of have) ∷ []) ((bytes_eq-Decides have first).1 same))

-- others are, by their runs
pub runs_shown : (r : Right) (first have : List ℕ) (runs : List Span) → (have ≡ first → ⊥) → runs ≡ runs_of have → hold.Points r runs ∷ [] ≡ points_shown r first have
runs_shown r first have runs other is =
    elim (cases_Bool (same_numbers have first)) [
      | inl same ↦ absurd (other ((bytes_eq-Decides have first).0 same))
      | inr apart ↦ ap (λ (rs : List Span). hold.Points r rs ∷ []) is ∙ sym (cond-false (same_numbers have first) [] (hold.Points r (runs_of have) ∷ []) apart)
    ]

-- ---- the points of a table

once : (b : Bool) → nat_lt 0 (cond b 1 0) ≡ b
once true = refl
once false = refl

-- those that are entered
pub entered_shown : (setup : Setup) (t : Table) (r : Right) (part : ℕ) (key : List ℕ) (h : HeldPoints) (made : Result (Option Hold) NoMemory) → r ≡ right.Part part key → entered t r ≡ Some (holding.Points h)
    → IfOk made (λ found. option_to_list found ≡ points_shown r (filter (starts_with (points_all setup part) setup.replicas t.me) (below (points_all setup part))) (filter (holds h) (below (points_all setup part))))
    → IfOk made (λ found. option_to_list found ≡ shown_in setup t r)
entered_shown setup t r part key h (Err e) is at shows = tt
entered_shown setup t r part key h (Ok found) is at shows =
    let q : Right = right.Part part key in
    let all : ℕ = points_all setup part in
    let first : List ℕ = filter (starts_with all setup.replicas t.me) (below all) in
    let same : holds h ≡ has_point setup t q = fun_ext (λ x. sym (ap (nat_lt 0) (point_entered setup t q (holding.Points h) x (ap (entered t) (sym is) ∙ at)) ∙ once (holds h x))) in
    shows
    ∙ ap (λ (P : ℕ → Bool). points_shown r first (filter P (below all))) same
    ∙ ap (λ (p : Right). points_shown p first (filter (has_point setup t q) (below all))) is
    ∙ ap (shown_in setup t) (sym is)

-- those of the start
pub untouched_shown : (setup : Setup) (t : Table) (r : Right) (part : ℕ) (key : List ℕ) → r ≡ right.Part part key → entered t r ≡ None → [] ≡ shown_in setup t r
untouched_shown setup t r part key is none =
    let q : Right = right.Part part key in
    let all : ℕ = points_all setup part in
    let first : ℕ → Bool = starts_with all setup.replicas t.me in
    let told : (x : ℕ) → point_in setup t q x ≡ cond (first x) 1 0 = λ x. ap (λ (o : Option Holding). option_map_or (λ (h : Holding). point_of h x) o (first_point setup t.me q x)) (ap (entered t) (sym is) ∙ none) in
    let same : has_point setup t q ≡ first = fun_ext (λ x. ap (nat_lt 0) (told x) ∙ once (first x)) in
    none_shown q (filter first (below all)) (filter (has_point setup t q) (below all)) (ap (λ (P : ℕ → Bool). filter P (below all)) same)
    ∙ ap (shown_in setup t) (sym is)

-- ---- all rights

-- what is shown of a right is what is shown of what is held of it
right_shown : (setup : Setup) (logs : Logs) (me : ℕ) (own : List LogItem) (t : Table) (r : Right) → HasAll setup logs me own t → shown_in setup t r ≡ shown setup logs me own r
right_shown setup logs me own t (right.Low c) all = ap (held_shown (right.Low c)) (table_tells setup logs me own (λ q. true) t (right.Low c) no_span all.table refl)
right_shown setup logs me own t (right.High c) all = ap (held_shown (right.High c)) (table_tells setup logs me own (λ q. true) t (right.High c) no_span all.table refl)
right_shown setup logs me own t (right.Lock l key) all = ap (held_shown (right.Lock l key)) (table_tells setup logs me own (λ q. true) t (right.Lock l key) no_span all.table refl)
right_shown setup logs me own t (right.Entry c args i) all = ap (held_shown (right.Entry c args i)) (table_tells setup logs me own (λ q. true) t (right.Entry c args i) no_span all.table refl)
right_shown setup logs me own t (right.Part p key) all =
    let r : Right = right.Part p key in
    let n : ℕ = points_all setup p in
    let same : has_point setup t r ≡ holds_point setup logs me own r = fun_ext (λ x. ap (nat_lt 0) (all.table.points r refl x)) in
    ap (λ i. points_shown r (filter (starts_with n setup.replicas i) (below n)) (filter (has_point setup t r) (below n))) all.table.of.me
    ∙ ap (λ (P : ℕ → Bool). points_shown r (filter (starts_with n setup.replicas me) (below n)) (filter P (below n))) same

pub shows_all : (setup : Setup) (logs : Logs) (me : ℕ) (own : List LogItem) (t : Table) (rights : List Right) → HasAll setup logs me own t → flat_map (shown_in setup t) rights ≡ flat_map (shown setup logs me own) rights
shows_all setup logs me own t [] all = refl
shows_all setup logs me own t (r ∷ rights) all =
    flat_map-cons (shown_in setup t) r rights
    ∙ ap (λ (hs : List Hold). hs ++ flat_map (shown_in setup t) rights) (right_shown setup logs me own t r all)
    ∙ ap (λ (hs : List Hold). shown setup logs me own r ++ hs) (shows_all setup logs me own t rights all)
    ∙ sym (flat_map-cons (shown setup logs me own) r rights)

-- of a partition points are held alone
pub only_points : (all : ℕ) (r : Right) (part : ℕ) (key : List ℕ) (h : Holding) → r ≡ right.Part part key → is_of all r h ≡ true → ((k : HeldPoints) → h ≡ holding.Points k → ⊥) → ⊥
only_points all r part key h is kind never = by h (ap (λ (q : Right). is_of all q h) (sym is) ∙ kind) never
  where
    by : (g : Holding) → is_of all (right.Part part key) g ≡ true → ((k : HeldPoints) → g ≡ holding.Points k → ⊥) → ⊥
    by (holding.Count e) k none = absurd cc
    by (holding.Shares s) k none = absurd cc
    by (holding.Points p) k none = none p refl
