-- The running sums of each cell are those of the items that were applied, and one more item keeps that.
use Rattle.std.proofs.Common.{◌≡◌, ℕ, zero, suc, ◌+◌, ◌*◌, ◌<◌, ◌≤◌, ◌^◌, ◌-◌, min, List, [], ◌∷◌, length, replicate, refl, sym, ap, subst, ◌∙◌, arith, add-mul}
use Rattle.std.specs.Prelude.{slice_get, sum_by, Some}
use Rattle.std.specs.List.{AllByRecursion}
use Rattle.std.proofs.lemmas.List.{length-replicate}
use Rattle.std.proofs.lemmas.List.Sums.{sum_by-append, sum_by-cons}
use Rattle.std.proofs.Common.{length-append}
use Rattle.spec_model.specs.declared.spec.Spec.{Spec}
use Rattle.spec_model.specs.declared.instance.Cell.{Cell}
use Rattle.spec_model.specs.declared.log.Body.{Body}
use Rattle.spec_model.specs.declared.log.Body.TheVariants as body
use Rattle.spec_model.specs.declared.log.LogItem.{LogItem}
use Rattle.spec_model.specs.Fits.{IsWellFormed}
use Rattle.spec_model.specs.Universe.{cells}
use Rattle.effect_model.specs.Places.{CellFits, cell_index}
use Rattle.effect_model.specs.Visits.{done_all}
use Rattle.effect_model.proofs.Blocked.{cell_there}
use Rattle.effect_model.proofs.Sums.{changes_small}
use Rattle.effect_model.proofs.Whole.{among, cells_all}
use Rattle.run_model.specs.Logs.{Logs}
use Rattle.run_model.specs.States.{body_lowers, body_raises, lowered_by, raised_by}
use Rattle.causal_store.specs.Folds.{all_items}
use Rattle.causal_store.specs.Keeping.{AreSums, KeepsSums, counted, more, no_sums, sum_by_item, sums_after}
use Rattle.causal_store.specs.declared.sums.Sums.{Sums}
use Rattle.causal_store.proofs.Kept.{done_at, done_long, of_mapped, with_one_more}
use Rattle.causal_store.proofs.Tagged.{same_of, with_item_in}

-- one more change, as far as it is counted
one_counted : (sum kept n m limit : ℕ) → kept ≡ min sum limit → m ≡ sum + n → min (kept + n) limit ≡ min m limit
one_counted sum kept n m limit is all = omega (arith, is, all)

more_counted : (sum kept n m : ℕ) → kept ≡ counted sum → m ≡ sum + (n + 0) → more kept n ≡ counted m
more_counted sum kept zero m is all = is ∙ ap counted (omega (arith, all))
more_counted sum kept (suc n) m is all = one_counted sum kept (suc n) m (2 ^ 64 - 1) is (omega (arith, all))

sums_more : (spec : Spec) (cell : Cell) (logs : Logs) (x : LogItem) (s : Sums) → x.origin < length logs → AreSums spec cell (all_items logs) s → AreSums spec cell (with_item_in logs x) (sums_after (body_raises spec cell x.body) (body_lowers spec cell x.body) s)
sums_more spec cell logs x s lt a =
    let up = with_one_more (λ a b. a + b) (raised_by spec cell) (λ a b. sum_by-append (λ (i : LogItem). body_raises spec cell i.body) a b) (λ a b c. omega arith) (λ a b c. omega arith) logs x.origin x lt in
    let down = with_one_more (λ a b. a + b) (lowered_by spec cell) (λ a b. sum_by-append (λ (i : LogItem). body_lowers spec cell i.body) a b) (λ a b c. omega arith) (λ a b c. omega arith) logs x.origin x lt in
    let one_up = sum_by-cons (λ (i : LogItem). body_raises spec cell i.body) x [] in
    let one_down = sum_by-cons (λ (i : LogItem). body_lowers spec cell i.body) x [] in
    record {
      raised = more_counted (raised_by spec cell (all_items logs)) s.raised (body_raises spec cell x.body) (raised_by spec cell (with_item_in logs x)) a.raised (up ∙ ap (λ n. raised_by spec cell (all_items logs) + n) one_up);
      lowered = more_counted (lowered_by spec cell (all_items logs)) s.lowered (body_lowers spec cell x.body) (lowered_by spec cell (with_item_in logs x)) a.lowered (down ∙ ap (λ n. lowered_by spec cell (all_items logs) + n) one_down);
    }

pub cell_place_is : (spec : Spec) (i : ℕ) (cell : Cell) → slice_get (cells spec) i ≡ Some cell → cell_index spec cell ≡ i
cell_place_is spec i cell is =
    let fits : CellFits spec cell = ((cells_all spec cell).those_that_fit).0 (among (cells spec) i cell is) in
    (cells_all spec cell).once (cell_index spec cell) i (cell_there spec cell (cell_index spec cell) fits refl) is

pub sums_keep : (spec : Spec) (logs : Logs) (x : LogItem) (sums new : List Sums) → x.origin < length logs → new ≡ done_all (sum_by_item spec (λ cell. body_raises spec cell x.body) (λ cell. body_lowers spec cell x.body)) (cells spec) sums
    → KeepsSums spec (all_items logs) sums → KeepsSums spec (with_item_in logs x) new
sums_keep spec logs x sums new lt is k =
    let place : Cell → ℕ = λ cell. cell_index spec cell in
    let change : Cell → Sums → Sums = λ cell. sums_after (body_raises spec cell x.body) (body_lowers spec cell x.body) in
    record {
      whole = ap length is ∙ done_long place change (cells spec) sums ∙ k.whole;
      each = λ i cell s at there.
          let got = of_mapped (change cell) (slice_get sums i) s (sym (done_at place change (cells spec) sums i cell (λ j b is. cell_place_is spec j b is) at) ∙ sym (ap (λ (l : List Sums). slice_get l i) is) ∙ there) in
          subst (AreSums spec cell (with_item_in logs x)) got.2 (sums_more spec cell logs x got.0 lt (k.each i cell got.0 at got.1));
    }

-- no item yet
pub sums_none : (spec : Spec) (count : ℕ) (items : List LogItem) (sums : List Sums) → items ≡ [] → count ≡ length (cells spec) → sums ≡ replicate count no_sums → KeepsSums spec items sums
sums_none spec count items sums none long is = record {
  whole = ap length is ∙ length-replicate count no_sums ∙ long;
  each = λ i cell s at there.
      subst (AreSums spec cell items) (same_of count no_sums s i (sym (ap (λ (l : List Sums). slice_get l i) is) ∙ there))
      (subst (λ (l : List LogItem). AreSums spec cell l no_sums) (sym none) (record { raised = refl; lowered = refl }));
}

-- ---- how great the sums are

one_times : (n b : ℕ) → suc n * b ≡ b + n * b
one_times n b =
    let e : suc n ≡ n + 1 = omega arith in
    ap (λ m. m * b) e ∙ add-mul n 1 b ∙ omega arith

sum_small : (f : LogItem → ℕ) (b : ℕ) → ((x : LogItem) → f x ≤ b) → (items : List LogItem) → sum_by f items ≤ length items * b
sum_small f b small [] = omega arith
sum_small f b small (x ∷ items) =
    let rest = sum_small f b small items in
    let here = small x in
    let is = sum_by-cons f x items in
    let times = one_times (length items) b in
    omega (arith, rest, here, is, times)

all_long : (n : ℕ) (logs : Logs) → AllByRecursion (λ log. length log ≤ n) logs → length (all_items logs) ≤ length logs * n
all_long n [] all = omega arith
all_long n (log ∷ logs) all =
    let rest = all_long n logs all.1 in
    let is = length-append log (all_items logs) in
    let times = one_times (length logs) n in
    omega (arith, rest, all.0, is, times)

raises_small : (spec : Spec) (cell : Cell) (b : Body) → IsWellFormed spec → body_raises spec cell b ≤ 16000000000
raises_small spec cell (body.Act inst) well = let small = changes_small spec inst cell well in omega (arith, small.0)
raises_small spec cell (body.Out to right piece) well = omega arith
raises_small spec cell (body.Accept origin index) well = omega arith

lowers_small : (spec : Spec) (cell : Cell) (b : Body) → IsWellFormed spec → body_lowers spec cell b ≤ 16000000000
lowers_small spec cell (body.Act inst) well = let small = changes_small spec inst cell well in omega (arith, small.1)
lowers_small spec cell (body.Out to right piece) well = omega arith
lowers_small spec cell (body.Accept origin index) well = omega arith

few_small : (sum many logs : ℕ) → sum ≤ many * 16000000000 → many ≤ logs * 4194304 → logs ≤ 16 → sum ≤ 1073741824000000000
few_small sum many logs a b c = omega (arith, a, b, c)

pub raised_small : (spec : Spec) (cell : Cell) (logs : Logs) → IsWellFormed spec → length logs ≤ 16 → AllByRecursion (λ log. length log ≤ 4194304) logs → raised_by spec cell (all_items logs) ≤ 1073741824000000000
raised_small spec cell logs well few short = few_small (raised_by spec cell (all_items logs)) (length (all_items logs)) (length logs) (sum_small (λ (i : LogItem). body_raises spec cell i.body) 16000000000 (λ x. raises_small spec cell x.body well) (all_items logs)) (all_long 4194304 logs short) few

pub lowered_small : (spec : Spec) (cell : Cell) (logs : Logs) → IsWellFormed spec → length logs ≤ 16 → AllByRecursion (λ log. length log ≤ 4194304) logs → lowered_by spec cell (all_items logs) ≤ 1073741824000000000
lowered_small spec cell logs well few short = few_small (lowered_by spec cell (all_items logs)) (length (all_items logs)) (length logs) (sum_small (λ (i : LogItem). body_lowers spec cell i.body) 16000000000 (λ x. lowers_small spec cell x.body well) (all_items logs)) (all_long 4194304 logs short) few

-- a sum that is small is counted whole
pub counted_whole : (kept sum : ℕ) → kept ≡ counted sum → sum ≤ 1073741824000000000 → kept ≡ sum
counted_whole kept sum is small = is ∙ whole sum (2 ^ 64 - 1) (omega (arith, small))
  where
    whole : (a b : ℕ) → a ≤ b → min a b ≡ a
    whole a b le = omega (arith, le)
