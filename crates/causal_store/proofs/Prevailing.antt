-- The live tags of an atom give its truth.
use mathlib.Core.Bool.{beq}
use Rattle.std.proofs.Common.{◌≡◌, ◌≢◌, inl, inr, ℕ, zero, suc, ◌+◌, ◌<◌, ◌≤◌, max, Bool, true, false, cond, not, ◌&&◌, ◌||◌, List, [], ◌∷◌, length, refl, sym, ap, ◌∙◌, arith, eq-eqb, ne_eqb}
use Rattle.std.specs.Prelude.{slice_index, nat_lt, ◌==◌}
use Rattle.std.specs.List.{AllByRecursion, list_any}
use Rattle.std.proofs.lemmas.Bool.{lt-ltb, le-ltb, cases_eq, cases_lt}
use Rattle.spec_model.specs.declared.spec.Spec.{Spec}
use Rattle.spec_model.specs.declared.instance.Atom.{Atom}
use Rattle.spec_model.specs.declared.log.LogItem.{LogItem}
use Rattle.spec_model.specs.Truths.{pred_at, wins}
use Rattle.run_model.specs.States.{is_setter, is_unfollowed, prevails}
use Rattle.causal_store.specs.Folds.{is_setter_past}
use Rattle.causal_store.specs.Keeping.{AreTags, last_by, some_above}
use Rattle.causal_store.specs.declared.tags.Tags.{Tags}
use Rattle.causal_store.proofs.Stored.{lt_max, unfollowed}
use Rattle.causal_store.proofs.Tagged.{or_false}

abbrev any_from : ℕ → ℕ → (ℕ → Bool) → Bool
any_from k zero f = false
any_from k (suc n) f = f k || any_from (suc k) n f

any_same : (k n : ℕ) (f g : ℕ → Bool) → ((i : ℕ) → f i ≡ g i) → any_from k n f ≡ any_from k n g
any_same k zero f g same = refl
any_same k (suc n) f g same = ap (λ b. b || any_from (suc k) n f) (same k) ∙ ap (λ b. g k || b) (any_same (suc k) n f g same)

any_none : (k n : ℕ) (f : ℕ → Bool) → ((i : ℕ) → f i ≡ false) → any_from k n f ≡ false
any_none k zero f none = refl
any_none k (suc n) f none = ap (λ b. b || any_from (suc k) n f) (none k) ∙ any_none (suc k) n f none

or_four : (a b c d : Bool) → ((a || b) || (c || d)) ≡ ((a || c) || (b || d))
or_four true b c d = refl
or_four false true true d = refl
or_four false true false d = refl
or_four false false c d = refl

any_or : (k n : ℕ) (f g : ℕ → Bool) → any_from k n (λ i. f i || g i) ≡ (any_from k n f || any_from k n g)
any_or k zero f g = refl
any_or k (suc n) f g = ap (λ b. (f k || g k) || b) (any_or (suc k) n f g) ∙ or_four (f k) (g k) (any_from (suc k) n f) (any_from (suc k) n g)

any_miss : (k n o : ℕ) (c : ℕ → Bool) → o < k → any_from k n (λ i. o == i && c i) ≡ false
any_miss k zero o c lt = refl
any_miss k (suc n) o c lt = ap (λ b. (b && c k) || any_from (suc k) n (λ i. o == i && c i)) (ne_eqb o k (λ same. absurd (omega (arith, lt, same)))) ∙ any_miss (suc k) n o c (omega (arith, lt))

any_hit : (k n o : ℕ) (c : ℕ → Bool) → k ≤ o → o < k + n → any_from k n (λ i. o == i && c i) ≡ c o
any_hit k zero o c le lt = absurd (omega (arith, le, lt))
any_hit k (suc n) o c le lt =
    elim (cases_eq o k) [
      | inl same ↦
          let first : ((o == k && c k) || any_from (suc k) n (λ i. o == i && c i)) ≡ (c k || any_from (suc k) n (λ i. o == i && c i)) = ap (λ b. (b && c k) || any_from (suc k) n (λ i. o == i && c i)) (eq-eqb o k same) in
          first ∙ ap (λ b. c k || b) (any_miss (suc k) n o c (omega (arith, same))) ∙ or_false (c k) ∙ ap c (sym same)
      | inr differs ↦
          ap (λ b. (b && c k) || any_from (suc k) n (λ i. o == i && c i)) (ne_eqb o k differs) ∙ any_hit (suc k) n o c (above k o le differs) (omega (arith, lt))
    ]
  where
    above : (a b : ℕ) → a ≤ b → b ≢ a → suc a ≤ b
    above a b le ne = elim (cases_lt a b) [ inl lt ↦ omega (arith, lt) | inr ge ↦ absurd (ne (omega (arith, ge, le))) ]

any_shift : (k n : ℕ) (f : ℕ → Bool) → any_from (suc k) n f ≡ any_from k n (λ i. f (suc i))
any_shift k zero f = refl
any_shift k (suc n) f = ap (λ b. f (suc k) || b) (any_shift (suc k) n f)

above_is : (ls ps : List ℕ) → length ls ≡ length ps → some_above ls ps ≡ any_from 0 (length ls) (λ i. nat_lt (slice_index ps i) (slice_index ls i))
above_is [] [] long = refl
above_is [] (p ∷ ps) long = absurd (omega (arith, long))
above_is (l ∷ ls) [] long = absurd (omega (arith, long))
above_is (l ∷ ls) (p ∷ ps) long =
    ap (λ b. nat_lt p l || b) (above_is ls ps (omega (arith, long)) ∙ sym (any_shift 0 (length ls) (λ i. nat_lt (slice_index (p ∷ ps) i) (slice_index (l ∷ ls) i))))

lt_suc : (a k : ℕ) → nat_lt a (k + 1) ≡ not (nat_lt k a)
lt_suc a k =
    elim (cases_lt k a) [
      | inl lt ↦ le-ltb a (k + 1) (omega (arith, lt)) ∙ sym (ap not (lt-ltb k a lt))
      | inr le ↦ lt-ltb a (k + 1) (omega (arith, le)) ∙ sym (ap not (le-ltb k a le))
    ]

-- a last setter lies past a cut exactly where some setter does
last_past : (spec : Spec) (p : ℕ) (xs : List ℕ) (v : Bool) (cut : List ℕ) (n : ℕ) (items : List LogItem) → AllByRecursion (λ y. y.origin < n) items
    → any_from 0 n (λ i. nat_lt (slice_index cut i) (last_by spec p xs v items i)) ≡ list_any (is_setter_past spec p xs v cut) items
last_past spec p xs v cut n [] all = any_none 0 n (λ i. nat_lt (slice_index cut i) 0) (λ i. le-ltb (slice_index cut i) 0 (omega arith))
last_past spec p xs v cut n (y ∷ items) all =
    let s = is_setter spec p xs v y in
    let c : ℕ → Bool = λ i. nat_lt (slice_index cut i) (y.index + 1) in
    let rest : ℕ → Bool = λ i. nat_lt (slice_index cut i) (last_by spec p xs v items i) in
    any_same 0 n _ (λ i. ((s && y.origin == i) && c i) || rest i) (λ i. by_test i (s && y.origin == i))
    ∙ any_or 0 n (λ i. (s && y.origin == i) && c i) rest
    ∙ ap (λ b. any_from 0 n (λ i. (s && y.origin == i) && c i) || b) (last_past spec p xs v cut n items all.1)
    ∙ ap (λ b. b || list_any (is_setter_past spec p xs v cut) items) (by_setter s c ∙ ap (λ b. s && b) (lt_suc (slice_index cut y.origin) y.index))
  where
    by_test : (i : ℕ) (b : Bool) → nat_lt (slice_index cut i) (cond b (max (y.index + 1) (last_by spec p xs v items i)) (last_by spec p xs v items i)) ≡ ((b && nat_lt (slice_index cut i) (y.index + 1)) || nat_lt (slice_index cut i) (last_by spec p xs v items i))
    by_test i true = lt_max (slice_index cut i) (y.index + 1) (last_by spec p xs v items i)
    by_test i false = refl

    by_setter : (s : Bool) (c : ℕ → Bool) → any_from 0 n (λ i. (s && y.origin == i) && c i) ≡ (s && c y.origin)
    by_setter true c = any_hit 0 n y.origin c (omega arith) (omega (arith, all.0))
    by_setter false c = any_none 0 n (λ i. false) (λ i. refl)

-- live tags are left, or the first value stands, exactly where the winning value prevails
pub live_prevails : (spec : Spec) (n : ℕ) (atom : Atom) (items : List LogItem) (t : Tags) → AllByRecursion (λ y. y.origin < n) items → AreTags spec n atom items t
    → ((beq (pred_at spec atom.pred).first (wins spec atom.pred) && not t.followed) || some_above t.last t.past) ≡ prevails spec atom.pred atom.args (wins spec atom.pred) items
live_prevails spec n atom items t origins a =
    let p = atom.pred in
    let xs = atom.args in
    let w = wins spec p in
    let long : length t.last ≡ length t.past = a.last_long ∙ sym a.past_long in
    let live : some_above t.last t.past ≡ list_any (is_unfollowed spec p xs w items) items =
    above_is t.last t.past long
    ∙ ap (λ m. any_from 0 m (λ i. nat_lt (slice_index t.past i) (slice_index t.last i))) a.last_long
    ∙ any_same 0 n (λ i. nat_lt (slice_index t.past i) (slice_index t.last i)) (λ i. nat_lt (slice_index t.past i) (last_by spec p xs w items i)) (λ i. ap (nat_lt (slice_index t.past i)) (a.last i))
    ∙ last_past spec p xs w t.past n items origins
    ∙ unfollowed spec p xs w items t.past a.past in
    ap (λ b. (beq (pred_at spec p).first w && not b) || some_above t.last t.past) a.followed ∙ ap (λ b. (beq (pred_at spec p).first w && not (list_any (is_setter spec p xs (not w)) items)) || b) live
