-- A store's logs as one list of items.
use mathlib.Core.Bool.{beq}
use Rattle.std.proofs.Common.{◌≡◌, inl, inr, ℕ, zero, suc, ℤ, pos, ◌+ℤ◌, ◌-ℤ◌, ◌<◌, ◌≤◌, max, Bool, true, false, cond, not, ◌&&◌, ◌||◌, List, [], ◌∷◌, ◌++◌, length, map, get_or, set, replicate, refl, sym, ap, ◌∙◌, arith}
use Rattle.std.specs.Prelude.{slice_get, slice_index, nat_lt, Option, Some, None}
use Rattle.std.specs.Option.{option_map_or}
use Rattle.std.specs.List.{AllByRecursion, list_any}
use Rattle.std.proofs.Math.Path.{fun_ext}
use Rattle.std.proofs.lemmas.List.{take_all}
use Rattle.std.proofs.lemmas.Bool.{lt-ltb, le-ltb, cases_lt, cond-true, cond-false}
use Rattle.spec_model.specs.declared.spec.Spec.{Spec}
use Rattle.spec_model.specs.declared.spec.Num.{Num}
use Rattle.spec_model.specs.declared.instance.Cell.{Cell}
use Rattle.spec_model.specs.declared.log.LogItem.{LogItem}
use Rattle.spec_model.specs.declared.spec.Pred.{Pred}
use Rattle.spec_model.specs.Truths.{no_num, no_pred, pred_at, rule_wins, wins}
use Rattle.spec_model.specs.Universe.{first_value}
use Rattle.spec_model.specs.Fits.{NumFits}
use Rattle.std.proofs.lemmas.Option.{slice_get-get_or}
use Rattle.run_model.specs.Logs.{Logs, items_in, log_at}
use Rattle.run_model.specs.States.{is_before, is_setter, is_unfollowed, lowered_by, prevails, raised_by, truth_of, value_of}
use Rattle.run_model.proofs.Lists.{each_at}
use Rattle.causal_store.specs.Folds.{all_items, is_setter_past, known_by}

-- behind a list is the default
none_or : {X : Type 0} (xs : List X) (i : ℕ) (d : X) → slice_get xs i ≡ None → get_or xs i d ≡ d
none_or [] i d is = refl
none_or (x ∷ xs) zero d is = absurd cc
none_or (x ∷ xs) (suc i) d is = none_or xs i d is

-- a cut of all items has all of them
pub items_all : (logs : Logs) → items_in (map (λ log. length log) logs) logs ≡ all_items logs
items_all [] = refl
items_all (log ∷ logs) =
    ap (λ (xs : List LogItem). xs ++ items_in (map (λ (l : List LogItem). length l) logs) logs) (take_all (length log) log (omega arith)) ∙ ap (λ (xs : List LogItem). log ++ xs) (items_all logs)

-- ---- pasts

-- a number below the greater of two is below one of them
pub lt_max : (k a b : ℕ) → nat_lt k (max a b) ≡ (nat_lt k a || nat_lt k b)
lt_max k a b =
    elim (cases_lt k a) [
      | inl lt ↦ lt-ltb k (max a b) (omega arith) ∙ sym (ap (λ t. t || nat_lt k b) (lt-ltb k a lt))
      | inr le ↦
          elim (cases_lt k b) [
            | inl lt ↦ lt-ltb k (max a b) (omega arith) ∙ sym (ap (λ t. t || nat_lt k b) (le-ltb k a le) ∙ lt-ltb k b lt)
            | inr less ↦ le-ltb k (max a b) (omega arith) ∙ sym (ap (λ t. t || nat_lt k b) (le-ltb k a le) ∙ le-ltb k b less)
          ]
    ]

-- an item lies in the past of some setter exactly where it lies in the greatest
pub followed : (spec : Spec) (p : ℕ) (xs : List ℕ) (v : Bool) (x : LogItem) (items : List LogItem) → list_any (λ y. is_setter spec p xs v y && is_before x y) items ≡ nat_lt x.index (known_by spec p xs v items x.origin)
followed spec p xs v x [] = sym (le-ltb x.index 0 (omega arith))
followed spec p xs v x (y ∷ items) = by_test (is_setter spec p xs v y) (followed spec p xs v x items)
  where
    by_test : (b : Bool) → list_any (λ y. is_setter spec p xs v y && is_before x y) items ≡ nat_lt x.index (known_by spec p xs v items x.origin)
        → ((b && is_before x y) || list_any (λ y. is_setter spec p xs v y && is_before x y) items) ≡ nat_lt x.index (cond b (max (slice_index y.deps x.origin) (known_by spec p xs v items x.origin)) (known_by spec p xs v items x.origin))
    by_test true is = ap (λ t. is_before x y || t) is ∙ sym (lt_max x.index (slice_index y.deps x.origin) (known_by spec p xs v items x.origin))
    by_test false is = is

-- the setters that none follows are those that the greatest past doesn't have
pub unfollowed : (spec : Spec) (p : ℕ) (xs : List ℕ) (v : Bool) (items : List LogItem) (past : List ℕ) → ((i : ℕ) → slice_index past i ≡ known_by spec p xs (not v) items i)
    → list_any (is_setter_past spec p xs v past) items ≡ list_any (is_unfollowed spec p xs v items) items
unfollowed spec p xs v items past is =
    ap (λ (t : LogItem → Bool). list_any t items) (fun_ext (λ x.
    ap (λ n. is_setter spec p xs v x && not (nat_lt x.index n)) (is x.origin) ∙ ap (λ b. is_setter spec p xs v x && not b) (sym (followed spec p xs (not v) x items))))

-- the truth of an atom, by whether its winning value prevails
pub truth_then : (spec : Spec) (p : ℕ) (xs : List ℕ) (items all : List LogItem) (w b : Bool) → items ≡ all → w ≡ wins spec p → b ≡ prevails spec p xs w all → b ≡ true → w ≡ truth_of spec items p xs
truth_then spec p xs items all w b same winning prevailing is =
    winning ∙ sym (cond-true (prevails spec p xs (wins spec p) items) (wins spec p) (not (wins spec p)) (ap (λ v. prevails spec p xs v items) (sym winning) ∙ ap (prevails spec p xs w) same ∙ sym prevailing ∙ is))

pub truth_else : (spec : Spec) (p : ℕ) (xs : List ℕ) (items all : List LogItem) (w b : Bool) → items ≡ all → w ≡ wins spec p → b ≡ prevails spec p xs w all → b ≡ false → not w ≡ truth_of spec items p xs
truth_else spec p xs items all w b same winning prevailing isnt =
    ap not winning ∙ sym (cond-false (prevails spec p xs (wins spec p) items) (wins spec p) (not (wins spec p)) (ap (λ v. prevails spec p xs v items) (sym winning) ∙ ap (prevails spec p xs w) same ∙ sym prevailing ∙ isnt))

-- of a predicate that isn't declared setting wins, and the first value is false
pub no_first : (spec : Spec) (p : ℕ) (v : Bool) → slice_get spec.preds p ≡ None → not v ≡ beq (pred_at spec p).first v
no_first spec p v none = by_value v ∙ sym (ap (λ (q : Pred). beq q.first v) (none_or spec.preds p no_pred none))
  where
    by_value : (v : Bool) → not v ≡ beq false v
    by_value true = refl
    by_value false = refl

pub no_rule : (spec : Spec) (p : ℕ) → slice_get spec.preds p ≡ None → true ≡ wins spec p
no_rule spec p none = sym (ap (λ (q : Pred). rule_wins q.rule) (none_or spec.preds p no_pred none))

-- the pasts of two lists
pub known_append : (spec : Spec) (p : ℕ) (xs : List ℕ) (v : Bool) (items others : List LogItem) (o : ℕ) → known_by spec p xs v (items ++ others) o ≡ max (known_by spec p xs v items o) (known_by spec p xs v others o)
known_append spec p xs v [] others o = omega arith
known_append spec p xs v (y ∷ items) others o = by_test (is_setter spec p xs v y) (known_append spec p xs v items others o)
  where
    by_test : (b : Bool) → known_by spec p xs v (items ++ others) o ≡ max (known_by spec p xs v items o) (known_by spec p xs v others o)
        → cond b (max (slice_index y.deps o) (known_by spec p xs v (items ++ others) o)) (known_by spec p xs v (items ++ others) o)
        ≡ max (cond b (max (slice_index y.deps o) (known_by spec p xs v items o)) (known_by spec p xs v items o)) (known_by spec p xs v others o)
    by_test true is = omega (arith, is)
    by_test false is = is

-- ---- what a store is made of

-- nothing of so many logs
pub no_counts : (n : ℕ) → replicate n 0 ≡ map (λ (log : List LogItem). length log) (replicate n [])
no_counts zero = refl
no_counts (suc n) = ap (λ (xs : List ℕ). 0 ∷ xs) (no_counts n)

pub no_items_fit : (P : LogItem → Type 0) (n : ℕ) → AllByRecursion (AllByRecursion P) (replicate n [])
no_items_fit P zero = tt
no_items_fit P (suc n) = (tt, no_items_fit P n)

-- of all where one is set
pub each_set : {X : Type 0} (P : X → Type 0) (xs : List X) (i : ℕ) (x : X) → AllByRecursion P xs → P x → AllByRecursion P (set xs i x)
each_set P [] i x all here = tt
each_set P (y ∷ xs) zero x all here = (here, all.1)
each_set P (y ∷ xs) (suc i) x all here = (all.0, each_set P xs i x all.1 here)

-- of the one at a place, or of nothing
pub each_log : (P : LogItem → Type 0) (logs : Logs) (i : ℕ) → AllByRecursion (AllByRecursion P) logs → AllByRecursion P (log_at logs i)
each_log P [] i all = tt
each_log P (log ∷ logs) zero all = all.0
each_log P (log ∷ logs) (suc i) all = each_log P logs i all.1

-- ---- values

-- the value by the sums of all items
pub value_is : (spec : Spec) (cell : Cell) (items all : List LogItem) (raised lowered : ℕ) (value : ℤ) → items ≡ all → raised ≡ raised_by spec cell all → lowered ≡ lowered_by spec cell all
    → value ≡ ((first_value spec cell +ℤ pos raised) -ℤ pos lowered) → value ≡ value_of spec items cell
value_is spec cell items all raised lowered value same up down is =
    is ∙ ap (λ n. (first_value spec cell +ℤ pos n) -ℤ pos lowered) up ∙ ap (λ n. (first_value spec cell +ℤ pos (raised_by spec cell all)) -ℤ pos n) down
    ∙ ap (λ (xs : List LogItem). value_of spec xs cell) (sym same)

-- the first value of a declared number is small
pub first_small : (spec : Spec) (cell : Cell) → AllByRecursion (NumFits spec) spec.nums → cell.num < length spec.nums → (n : ℕ) × (first_value spec cell ≡ pos n) × (n ≤ 1000000000000)
first_small spec cell fits lt =
    let at : slice_get spec.nums cell.num ≡ Some (get_or spec.nums cell.num no_num) = slice_get-get_or spec.nums cell.num no_num lt in
    let f = each_at (NumFits spec) spec.nums cell.num (get_or spec.nums cell.num no_num) fits at in
    (f.init, ap (λ (o : Option Num). option_map_or (λ (m : Num). m.init) o (pos 0)) at ∙ f.init_is, f.init_small)
