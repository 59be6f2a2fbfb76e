-- A pass gives some of its parts to a new one.
use Rattle.std.proofs.Common.{◌≡◌, ◌<◌, ◌≤◌, ◌+◌, ℕ, true≢false, List, [], ◌∷◌, ◌++◌, length, set, sym, refl, ap, ◌∙◌, arith, subst, ⊎_elim, inl, inr, Option}
use Rattle.std.proofs.lemmas.List.Sums.{sum_by_push}
use Rattle.std.specs.Prelude.{sum_by}
use mathlib.Core.List.{IsPrefix}
use mathlib.Core.Option.{some}
use lib.ListN.{get_elem?}
use Rattle.atomic_table.proofs.Lists.{at_snoc, at_longer}
use Rattle.atomic_table.specs.Table.{State, Splits}
use Rattle.turn_desk.specs.declared.line.Entry.{Entry}
use Rattle.turn_desk.specs.declared.line.Noted.{Noted}
use Rattle.turn_desk.specs.declared.pass.Key.{Key}
use Rattle.turn_desk.specs.declared.pass.View.{View}
use Rattle.turn_desk.specs.declared.turn.Turn.{Ghosts}
use Rattle.turn_desk.specs.Line.{entries, own}
use Rattle.turn_desk.specs.Rule.{IsHome, IsOut, Fits, once_below}
use Rattle.turn_desk.specs.Views.{IsIdle, waiting, turns_of, claims, taken, remaining, cut, one_of}
use Rattle.turn_desk.proofs.Options.{none_is_no}
use Rattle.turn_desk.proofs.Kept.{Kept, IsPlaced, first_of, each_fits, value_stays, with_view}
use Rattle.turn_desk.proofs.Notes.{entries_others, own_others, owns_others}
use Rattle.turn_desk.proofs.Totals.{sum_by_set}

module _ {V A B O : Type 0} (g : Ghosts V A B O) (key : Key V) where
  pub splitting : (id n : ℕ) (v : View A B O) → IsIdle v → 0 < n → n < v.parts → taken v + n ≤ v.parts
      → Splits (Kept g key) id v (remaining n v) (cut n v)
  splitting id n v idle some_cut some_left spare s h at =
      let first = first_of g key in
      let left : View A B O = remaining n v in
      let right : View A B O = cut n v in
      let mid : List (View A B O) = set s.views id left in
      let vs : List (View A B O) = mid ++ right ∷ [] in
      let old = h.each id v at in
      let no_turns : length (own right.notes) ≡ 0 = ap length (own_others (entries v.notes)) in
      let now : sum_by waiting vs ≡ sum_by waiting s.views =
      omega (arith, sum_by_set waiting s.views id v left at, sum_by_push waiting mid right) in
      let left_fits : Fits first h.line left = record {
        opens = λ _. old.opens (omega arith);
        seen = old.seen;
        beside = old.beside;
        waits = old.waits;
        served_now = old.served_now;
        room = let w : waiting v ≡ 0 = ap one_of idle.1 in omega (arith, spare, w);
      } in
      let right_fits : Fits first h.line right = record {
        opens = λ _. old.opens (omega arith);
        seen = subst (λ (es : List (Entry A B)). IsPrefix es h.line) (sym (entries_others (entries v.notes))) old.seen;
        beside = (h.line, refl);
        waits = λ t is. absurd (none_is_no t is);
        served_now = λ yes. absurd (true≢false (sym yes));
        room = omega (arith, no_turns);
      } in
      let after : State (Option V) (View A B O) = record { words = s.words; homes = s.homes; views = vs } in
      let placed : IsPlaced g first h.line after = ⊎_elim
      (λ (x : IsHome g.history g.opening first h.line (with_view s s.words s.homes id left)).
      let none_serves = λ (j : ℕ) (u : View A B O) (there : get_elem? vs j ≡ some u). ⊎_elim (λ y. x.4 j u y)
      (λ (same : right ≡ u). ap (λ (z : View A B O). z.serves) (sym same)) (at_snoc mid right u j there) in
      let r : IsPlaced g first h.line after = inl (x.0, x.1, x.2, x.3, none_serves) in r)
      (λ (x : IsOut (with_view s s.words s.homes id left)).
      let r : IsPlaced g first h.line after = inr (x.0, (x.1.0, x.1.1, at_longer mid (right ∷ []) x.1.0 x.1.1 x.1.2, x.1.3)) in r)
      (value_stays g first h.line s s.words id v left at idle.2 idle.2 h.value) in
      record {
        line = h.line;
        words = h.words ∙ ap (λ (k : ℕ). length h.line ∷ (length h.line + k) ∷ []) (sym now);
        parts = omega (
          arith,
          sum_by_set (λ (u : View A B O). u.parts) s.views id v left at,
          sum_by_push (λ (u : View A B O). u.parts) mid right,
          h.parts,
        );
        small = h.small;
        turns = omega (arith, sum_by_set turns_of s.views id v left at, sum_by_push turns_of mid right, h.turns, no_turns, now);
        once = λ p.
            let as_before : sum_by (claims p) vs ≡ sum_by (claims p) s.views =
            omega (arith, sum_by_set (claims p) s.views id v left at, sum_by_push (claims p) mid right, owns_others p (entries v.notes)) in
            as_before ∙ h.once p ∙ ap (λ (k : ℕ). once_below p (length h.line + k)) (sym now);
        each = λ j u there. ⊎_elim
            (λ x. each_fits first h.line s.views id left h.each left_fits j u x)
            (λ (same : right ≡ u). subst (Fits first h.line) same right_fits) (at_snoc mid right u j there);
        value = placed;
      }

module _ {A B O : Type 0} (n : ℕ) (v : View A B O) where
  -- between two turns nothing lies beside the notes
  pub no_beside : IsIdle v → length (own v.notes) + n ≤ v.parts → taken v + n ≤ v.parts
  no_beside idle le = omega (arith, le, ap (λ (ns : List (Noted A B)). length (own ns)) idle.0)

  pub parts_left : (w : View A B O) → n < v.parts → w ≡ remaining n v → w.parts + n ≡ v.parts
  parts_left w below is = let e = ap (λ (z : View A B O). z.parts) is in omega (arith, below, e)

  pub parts_given : (w : View A B O) → w ≡ cut n v → w.parts ≡ n
  parts_given w is = ap (λ (z : View A B O). z.parts) is

  pub cut_fresh : (w : View A B O) → w ≡ cut n v → (entries w.notes ≡ entries v.notes) × (own w.notes ≡ [])
  cut_fresh w is = (
    ap (λ (z : View A B O). entries z.notes) is ∙ entries_others (entries v.notes),
    ap (λ (z : View A B O). own z.notes) is ∙ own_others (entries v.notes),
  )
