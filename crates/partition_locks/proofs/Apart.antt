-- Runs that are apart: where a point lies.
use Rattle.std.proofs.Common.{◌≡◌, ℕ, zero, suc, ◌+◌, ◌<◌, ◌≤◌, Bool, true, false, List, [], ◌∷◌, take, drop, length, get_or, refl, ap, ◌∙◌, subst, sym, arith}
use Rattle.std.specs.Prelude.{◌||◌, nat_le as leb}
use Rattle.std.specs.List.{AllByRecursion}
use Rattle.std.proofs.lemmas.List.{drop_more, drop_all}
use Rattle.std.proofs.lemmas.Bool.{and_from, and_left, and_right, and_parts, or_left, or_from, le-leb, lt-leb, leb-true}
use Rattle.ind_base.specs.declared.span.Span.{Span}
use Rattle.spec_model.specs.Truths.{span_has}
use Rattle.partition_locks.specs.Held.{AreApart, lies_in}
use Rattle.partition_locks.specs.Edits.{IsPlace, ReachesTo}

-- ---- one span

pub has : (run : Span) (y : ℕ) → run.lo ≤ y → y ≤ run.hi → span_has run y ≡ true
has run y low high = and_from (leb run.lo y) (leb y run.hi) (le-leb run.lo y low) (le-leb y run.hi high)

pub lacks_below : (run : Span) (y : ℕ) → y < run.lo → span_has run y ≡ false
lacks_below run y lt = and_left (leb run.lo y) (leb y run.hi) (lt-leb run.lo y lt)

pub lacks_above : (run : Span) (y : ℕ) → run.hi < y → span_has run y ≡ false
lacks_above run y lt = and_right (leb run.lo y) (leb y run.hi) (lt-leb y run.hi lt)

pub has_parts : (run : Span) (y : ℕ) → span_has run y ≡ true → (run.lo ≤ y) × (y ≤ run.hi)
has_parts run y h = let p = and_parts (leb run.lo y) (leb y run.hi) h in (leb-true run.lo y p.0, leb-true y run.hi p.1)

-- ---- all runs

pub apart_from : (a b : ℕ) (runs : List Span) → a ≤ b → AreApart b runs → AreApart a runs
apart_from a b [] le h = tt
apart_from a b (run ∷ runs) le h = (omega (arith, le, h.0), h.1, h.2)

-- no point lies before the first
pub none_below : (from : ℕ) (runs : List Span) (y : ℕ) → AreApart from runs → y < from → lies_in runs y ≡ false
none_below from [] y h lt = refl
none_below from (run ∷ runs) y h lt =
    or_from (span_has run y) (lies_in runs y) (lacks_below run y (omega (arith, lt, h.0))) (none_below (run.hi + 2) runs y h.2 (omega (arith, lt, h.0, h.1)))

-- from a point on only the runs count that don't end before it
pub from_place : (k x : ℕ) (runs : List Span) (y : ℕ) → AllByRecursion (λ (run : Span). run.hi < x) (take k runs) → x ≤ y → lies_in runs y ≡ lies_in (drop k runs) y
from_place zero x runs y h le = refl
from_place (suc k) x [] y h le = refl
from_place (suc k) x (run ∷ runs) y h le = ap (λ (b : Bool). b || lies_in runs y) (lacks_above run y (omega (arith, h.0, le))) ∙ from_place k x runs y h.1 le

pub drop_apart : (k from : ℕ) (runs : List Span) → AreApart from runs → AreApart from (drop k runs)
drop_apart zero from runs h = h
drop_apart (suc k) from [] h = tt
drop_apart (suc k) from (run ∷ runs) h = drop_apart k from runs (apart_from from (run.hi + 2) runs (omega (arith, h.0, h.1)) h.2)

-- the run at a place, and those behind it
pub drop_run : (k : ℕ) (runs : List Span) (run : Span) → k < length runs → run ≡ get_or runs k run → drop k runs ≡ run ∷ drop (k + 1) runs
drop_run k runs run lt is = drop_more runs k run lt ∙ ap (λ (r : Span). r ∷ drop (k + 1) runs) (sym is)

-- ---- at a place

-- from x on no point passes before the run, each in it, and the one behind it doesn't
pub record Around (P : ℕ → Bool) (x : ℕ) (run : Span) : Type 0 where
  pub reach : x ≤ run.hi
  pub some : run.lo ≤ run.hi
  pub gap : (y : ℕ) → x ≤ y → y < run.lo → P y ≡ false
  pub here : (y : ℕ) → x ≤ y → run.lo ≤ y → y ≤ run.hi → P y ≡ true
  pub behind : P (run.hi + 1) ≡ false

pub around_first : (x from : ℕ) (run : Span) (more : List Span) → AreApart from (run ∷ more) → x ≤ run.hi → Around (lies_in (run ∷ more)) x run
around_first x from run more h le = record {
  reach = le;
  some = h.1;
  gap = λ y low lt. none_below run.lo (run ∷ more) y (omega arith, h.1, h.2) lt;
  here = λ y at low high. or_left (span_has run y) (lies_in more y) (has run y low high);
  behind = or_from (span_has run (run.hi + 1)) (lies_in more (run.hi + 1)) (lacks_above run (run.hi + 1) (omega arith)) (none_below (run.hi + 2) more (run.hi + 1) h.2 (omega arith));
}

around_same : (P Q : ℕ → Bool) (x : ℕ) (run : Span) → ((y : ℕ) → x ≤ y → P y ≡ Q y) → Around Q x run → Around P x run
around_same P Q x run same h = record {
  reach = h.reach;
  some = h.some;
  gap = λ y low lt. same y low ∙ h.gap y low lt;
  here = λ y at low high. same y at ∙ h.here y at low high;
  behind = same (run.hi + 1) (omega (arith, h.reach)) ∙ h.behind;
}

pub around_at : (runs : List Span) (x k : ℕ) (run : Span) → AreApart 0 runs → IsPlace runs x k → k < length runs → run ≡ get_or runs k run → Around (lies_in runs) x run
around_at runs x k run h place lt is =
    let more : List Span = drop (k + 1) runs in
    let there : drop k runs ≡ run ∷ more = drop_run k runs run lt is in
    let apart : AreApart 0 (run ∷ more) = subst (AreApart 0) there (drop_apart k 0 runs h) in
    let le : x ≤ run.hi = subst (ReachesTo x) there place.reaches in
    around_same (lies_in runs) (lies_in (run ∷ more)) x run (λ y low. from_place k x runs y place.before low ∙ ap (λ (rs : List Span). lies_in rs y) there) (around_first x 0 run more apart le)

-- behind the last run
pub past_all : (runs : List Span) (x k : ℕ) → IsPlace runs x k → length runs ≤ k → (y : ℕ) → x ≤ y → lies_in runs y ≡ false
past_all runs x k place le y low = from_place k x runs y place.before low ∙ ap (λ (rs : List Span). lies_in rs y) (drop_all k runs le)
