-- A pass draws a ticket.
use Rattle.std.proofs.Common.{◌≡◌, ◌<◌, ◌+◌, ◌%◌, ◌^◌, ◌==◌, ℕ, true≢false, List, [], ◌∷◌, length, set, sym, refl, ap, ◌∙◌, arith, subst, if◌then◌else◌, mod-eq_of_lt, Option}
use Rattle.std.specs.Prelude.{slice_index, slice_set, sum_by}
use Rattle.std.proofs.lemmas.Bool.Decides.{nat_tests}
use Rattle.atomic_table.specs.Table.{State, Allows, Step, keeps}
use Rattle.turn_desk.specs.declared.pass.Key.{Key}
use Rattle.turn_desk.specs.declared.pass.View.{View}
use Rattle.turn_desk.specs.declared.turn.Turn.{Ghosts}
use Rattle.turn_desk.specs.Rule.{Fits, once_below}
use Rattle.turn_desk.specs.Steps.{draws, drawn}
use Rattle.turn_desk.specs.Views.{IsIdle, waiting, turns_of, claims, taken, one_of, one_if}
use Rattle.turn_desk.proofs.Options.{same_some}
use Rattle.turn_desk.proofs.Totals.{sum_by_set}
use Rattle.turn_desk.proofs.Kept.{Kept, first_of, few, each_fits, value_stays, with_view}

one_more : (p n : ℕ) → once_below p (n + 1) ≡ once_below p n + (if p == n then 1 else 0)
one_more p n = grind (arith, nat_tests)

module _ {V A B O : Type 0} (g : Ghosts V A B O) (key : Key V) where
  pub drawing : (slots id : ℕ) (st : Step (Option V)) (v : View A B O) (c : List (ℕ × Option V)) → IsIdle v → taken v < v.parts
      → Allows (Kept g key) slots id (v, c) 1 (λ n. (n + 1) % 2 ^ 64) (draws st (v, c))
  drawing slots id st v c idle spare s h _ at _ =
      let n = length h.line + sum_by waiting s.views in
      let found : slice_index s.words 1 ≡ n = ap (λ ws. slice_index ws 1) h.words in
      let next : (n + 1) % 2 ^ 64 ≡ n + 1 = mod-eq_of_lt (let f = (few g key s h).0 in omega (arith, f)) in
      let w : View A B O = drawn v n in
      let vs : List (View A B O) = set s.views id w in
      let was : waiting v ≡ 0 = ap one_of idle.1 in
      let more : sum_by waiting vs ≡ sum_by waiting s.views + 1 = omega (arith, sum_by_set waiting s.views id v w at, was) in
      let after : ℕ → View A B O → State (Option V) (View A B O) = λ (k : ℕ) (u : View A B O). with_view s (slice_set s.words 1 ((k + 1) % 2 ^ 64)) s.homes id u in
      let P : ℕ → Type 0 = λ (k : ℕ). (u : View A B O) × Kept g key (after k u) × draws st (v, c) k (u, c) in
      let old = h.each id v at in
      let fits : Fits (first_of g key) h.line w = record {
        opens = old.opens;
        seen = old.seen;
        beside = old.beside;
        waits = λ t is. let k : n ≡ t = same_some n t is in omega arith;
        served_now = λ yes. absurd (true≢false (sym yes ∙ idle.2));
        room = omega (arith, spare);
      } in
      let kept : Kept g key (after n w) = record {
        line = h.line;
        words = ap (λ ws. slice_set ws 1 ((n + 1) % 2 ^ 64)) h.words
            ∙ ap (λ (k : ℕ). length h.line ∷ k ∷ []) (next ∙ omega (arith, more));
        parts = omega (arith, sum_by_set (λ (u : View A B O). u.parts) s.views id v w at, h.parts);
        small = h.small;
        turns = omega (arith, sum_by_set turns_of s.views id v w at, h.turns, more, was);
        once = λ p.
            let none : one_if p v.ticket ≡ 0 = ap (one_if p) idle.1 in
            let e : length h.line + sum_by waiting vs ≡ n + 1 = omega (arith, more) in
            rw e (omega (arith, sum_by_set (claims p) s.views id v w at, h.once p, none, one_more p n));
        each = each_fits (first_of g key) h.line s.views id w h.each fits;
        value = value_stays g (first_of g key) h.line s (slice_set s.words 1 ((n + 1) % 2 ^ 64)) id v w at idle.2 idle.2 h.value;
      } in
      let all : P (slice_index s.words 1) = subst P (sym found) (w, kept, refl) in
      (all.0, keeps, tt, all.1, all.2)
