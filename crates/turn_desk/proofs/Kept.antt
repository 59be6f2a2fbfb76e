-- What stays of the rule where one view changes.
use Rattle.std.proofs.Common.{◌≡◌, ◌≢◌, ◌⊎◌, ◌<◌, ◌≤◌, ◌+◌, ◌^◌, ℕ, zero, suc, true, false, true≢false, List, [], ◌∷◌, length, set, sym, ap, ◌∙◌, arith, subst, ⊎_elim, inl, inr, Some, Option}
use Rattle.std.proofs.lemmas.Bool.Decides.{nat_tests}
use Rattle.std.specs.Prelude.{sum_by}
use mathlib.Core.Option.{some, none, some-injective, some-ne-none}
use mathlib.Core.Option as maybe
use lib.ListN.{get_elem?}
use Rattle.atomic_table.proofs.Lists.{at_set, set_else}
use Rattle.atomic_table.specs.Table.{State}
use Rattle.turn_desk.specs.declared.line.Entry.{Entry}
use Rattle.turn_desk.specs.declared.pass.Key.{Key}
use Rattle.turn_desk.specs.declared.pass.View.{View}
use Rattle.turn_desk.specs.declared.turn.Turn.{Ghosts}
use Rattle.turn_desk.specs.Rule.{IsKept, IsHome, IsOut, Fits, once_below}
use Rattle.turn_desk.specs.Views.{waiting, turns_of, claims, one_if, one_of}
use Rattle.turn_desk.proofs.Totals.{sum_by_set, sum_by_le, one_of_all, two_of_all}

-- a member stands at a place below the length
pub within : {X : Type 0} (l : List X) (i : ℕ) (a : X) → get_elem? l i ≡ some a → i < length l
within [] i a e = absurd (some-ne-none a (sym e))
within (x ∷ xs) zero a e = omega arith
within (x ∷ xs) (suc i) a e = let h = within xs i a e in omega arith

at_most_once : (p n : ℕ) → once_below p n ≤ 1
at_most_once p n = grind (arith, nat_tests)

self_is : (n : ℕ) → one_if n (Some n) ≡ 1
self_is n = grind (arith, nat_tests)

module _ {V A B O : Type 0} where
  -- the table with another view at this seat
  abbrev pub with_view : State (Option V) (View A B O) → List ℕ → List (maybe.Option (Option V)) → ℕ → View A B O → State (Option V) (View A B O)
  with_view s words homes id w = record { words = words; homes = homes; views = set s.views id w }

  -- what the first value opened with
  abbrev pub first_of : Ghosts V A B O → Key V → O
  first_of g key = g.opening key.first.value

  abbrev pub Kept : Ghosts V A B O → Key V → State (Option V) (View A B O) → Type 0
  Kept g key s = IsKept g.history g.opening g.room key s

  -- the value is at home, or in the hand of a pass
  abbrev pub IsPlaced : Ghosts V A B O → O → List (Entry A B) → State (Option V) (View A B O) → Type 0
  IsPlaced g first line s = IsHome g.history g.opening first line s ⊎ IsOut s

module _ {A B O : Type 0} where
  -- all views fit, the changed one and the others
  pub each_fits : (first : O) (line : List (Entry A B)) (views : List (View A B O)) (id : ℕ) (w : View A B O)
      → ((j : ℕ) (u : View A B O) → get_elem? views j ≡ some u → Fits first line u) → Fits first line w
      → (j : ℕ) (u : View A B O) → get_elem? (set views id w) j ≡ some u → Fits first line u
  each_fits first line views id w each fits j u at = ⊎_elim
      (λ (x : (j ≡ id) × (w ≡ u)). subst (Fits first line) x.1 fits)
      (λ (x : (j ≢ id) × (get_elem? views j ≡ some u)). each j u x.1) (at_set views id j w u at)

  -- of one seat there is one view
  one_view : (views : List (View A B O)) (i j : ℕ) (v u : View A B O) → get_elem? views i ≡ some v → get_elem? views j ≡ some u
      → j ≡ i → v ≡ u
  one_view views i j v u here there same =
      some-injective v u (sym here ∙ ap (λ k. get_elem? views k) (sym same) ∙ there)

  -- a pass that is served and one that isn't are two
  pub two_seats : (views : List (View A B O)) (i j : ℕ) (v u : View A B O) → get_elem? views i ≡ some v → get_elem? views j ≡ some u
      → v.serves ≡ false → u.serves ≡ true → j ≢ i
  two_seats views i j v u here there still serves same =
      let is : v ≡ u = one_view views i j v u here there same in
      true≢false (sym serves ∙ ap (λ (z : View A B O). z.serves) (sym is) ∙ still)

module _ {V A B O : Type 0} (g : Ghosts V A B O) where
  -- who serves still does, where a view changes that doesn't
  pub value_stays : (first : O) (line : List (Entry A B)) (s : State (Option V) (View A B O)) (words : List ℕ) (id : ℕ) (v w : View A B O)
      → get_elem? s.views id ≡ some v → v.serves ≡ false → w.serves ≡ false
      → IsPlaced g first line s → IsPlaced g first line (with_view s words s.homes id w)
  value_stays first line s words id v w at idle still value = ⊎_elim
      (λ (x : IsHome g.history g.opening first line s). inl (
        x.0,
        x.1,
        x.2,
        x.3,
        λ j u there. ⊎_elim
            (λ (y : (j ≡ id) × (w ≡ u)). ap (λ (z : View A B O). z.serves) (sym y.1) ∙ still)
            (λ (y : (j ≢ id) × (get_elem? s.views j ≡ some u)). x.4 j u y.1) (at_set s.views id j w u there),
      ))
      (λ (x : IsOut s).
      let apart = two_seats s.views id x.1.0 v x.1.1 at x.1.2 idle x.1.3 in
      inr (x.0, (x.1.0, x.1.1, set_else s.views id x.1.0 w apart ∙ x.1.2, x.1.3))) value

  module _ (key : Key V) (s : State (Option V) (View A B O)) (h : Kept g key s) where
    -- tickets that were drawn are few
    pub few : (length h.line + sum_by waiting s.views < 2 ^ 32)
        × (length h.line + sum_by waiting s.views ≤ g.room (first_of g key))
    few =
        let all = sum_by_le turns_of (λ (v : View A B O). v.parts) s.views (λ i v at. (h.each i v at).room) in
        (omega (arith, h.turns, h.parts, h.small.0, all), omega (arith, h.turns, h.parts, h.small.1, all))

    -- no two passes have one ticket
    pub alone : (i j : ℕ) (v u : View A B O) (t : ℕ) → get_elem? s.views i ≡ some v → get_elem? s.views j ≡ some u
        → v.ticket ≡ Some t → u.ticket ≡ Some t → ¬ (i ≢ j)
    alone i j v u t at there mine theirs apart =
        let two = two_of_all (claims t) s.views i j v u apart at there in
        let a = ap (one_if t) mine in let b = ap (one_if t) theirs in
        let most = at_most_once t (length h.line + sum_by waiting s.views) in
        absurd (omega (arith, two, a, b, self_is t, h.once t, most))

    -- a place is the pass's own at most once
    pub own_once : (id : ℕ) (v : View A B O) (p : ℕ) → get_elem? s.views id ≡ some v → claims p v ≤ 1
    own_once id v p at =
        let most = at_most_once p (length h.line + sum_by waiting s.views) in
        omega (arith, one_of_all (claims p) s.views id v at, h.once p, most)

    -- a view changes, and neither its parts nor its turns nor its ticket
    pub reseated : (homes : List (maybe.Option (Option V))) (id : ℕ) (v w : View A B O) → get_elem? s.views id ≡ some v
        → w.parts ≡ v.parts → w.ticket ≡ v.ticket → turns_of w ≡ turns_of v → ((p : ℕ) → claims p w ≡ claims p v)
        → Fits (first_of g key) h.line w → IsPlaced g (first_of g key) h.line (with_view s s.words homes id w)
        → Kept g key (with_view s s.words homes id w)
    reseated homes id v w at parts ticket turns same fits value =
        let one : waiting w ≡ waiting v = ap one_of ticket in
        let now : sum_by waiting (set s.views id w) ≡ sum_by waiting s.views = omega (arith, sum_by_set waiting s.views id v w at, one) in
        record {
          line = h.line;
          words = h.words ∙ ap (λ (k : ℕ). length h.line ∷ (length h.line + k) ∷ []) (sym now);
          parts = omega (arith, sum_by_set (λ (u : View A B O). u.parts) s.views id v w at, h.parts, parts);
          small = h.small;
          turns = omega (arith, sum_by_set turns_of s.views id v w at, h.turns, turns, now);
          once = λ p.
              let as_before : sum_by (claims p) (set s.views id w) ≡ sum_by (claims p) s.views =
              omega (arith, sum_by_set (claims p) s.views id v w at, same p) in
              as_before ∙ h.once p ∙ ap (λ (k : ℕ). once_below p (length h.line + k)) (sym now);
          each = each_fits (first_of g key) h.line s.views id w h.each fits;
          value = value;
        }
