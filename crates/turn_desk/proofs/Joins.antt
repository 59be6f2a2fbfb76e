-- A pass takes another one in, and then looks at the line with both passes' turns.
use Rattle.std.proofs.Common.{◌≡◌, ◌≤◌, ◌+◌, ℕ, false, true≢false, List, [], ◌∷◌, length, set, sym, refl, ap, ◌∙◌, arith, subst, Some, None, Option}
use Rattle.std.proofs.lemmas.List.{append-nil}
use Rattle.std.specs.Prelude.{slice_index, slice_set, sum_by}
use mathlib.Core.List.{IsPrefix}
use Rattle.atomic_table.proofs.Lists.{set_else}
use Rattle.atomic_table.specs.Table.{State, Me, Act, Allows, Joins, Step, Valid, stepped, carried_after, keeps}
use Rattle.turn_desk.specs.declared.line.Noted.{Noted}
use Rattle.turn_desk.specs.declared.pass.Key.{Key}
use Rattle.turn_desk.specs.declared.pass.View.{View}
use Rattle.turn_desk.specs.declared.turn.Turn.{Ghosts}
use Rattle.turn_desk.specs.Line.{entries, own, owns_at, Merges}
use Rattle.turn_desk.specs.Rule.{Fits, once_below}
use Rattle.turn_desk.specs.Steps.{PutsTogether, puts_together}
use Rattle.turn_desk.specs.Views.{IsIdle, waiting, turns_of, claims, taking_in, spent, one_of, one_if}
use Rattle.turn_desk.proofs.Options.{none_is_no}
use Rattle.turn_desk.proofs.Kept.{Kept, first_of, each_fits, value_stays, with_view, own_once, reseated}
use Rattle.turn_desk.proofs.Totals.{sum_by_set}
use Rattle.turn_desk.proofs.United.{united, entries_united, owns_united, merges_united, merges_length}

module _ {V A B O : Type 0} (g : Ghosts V A B O) (key : Key V) where
  pub joining : (id : ℕ) (v : View A B O) (other : ℕ) (w : View A B O) → IsIdle v → IsIdle w → v.opening ≡ Some (first_of g key)
      → Joins (Kept g key) id v other w (taking_in v w) spent
  joining id v other w idle still opened s h at apart there =
      let first = first_of g key in
      let both : View A B O = taking_in v w in
      let mid : List (View A B O) = set s.views id both in
      let vs : List (View A B O) = set mid other spent in
      let old = h.each id v at in
      let theirs = h.each other w (sym (set_else s.views id other both apart) ∙ there) in
      let no_ticket : (waiting v ≡ 0) × (waiting w ≡ 0) = (ap one_of idle.1, ap one_of still.1) in
      let v_alone : length (own v.beside) ≡ 0 = ap (λ (ns : List (Noted A B)). length (own ns)) idle.0 in
      let w_alone : length (own w.beside) ≡ 0 = ap (λ (ns : List (Noted A B)). length (own ns)) still.0 in
      let sums : (f : View A B O → ℕ) → f both + f spent ≡ f v + f w → sum_by f vs ≡ sum_by f s.views =
      λ f e. omega (arith, sum_by_set f s.views id v both at, sum_by_set f mid other w spent there, e) in
      let now : sum_by waiting vs ≡ sum_by waiting s.views = sums waiting (omega (arith, no_ticket.0, no_ticket.1)) in
      let both_fit : Fits first h.line both = record {
        opens = λ _. opened;
        seen = old.seen;
        beside = theirs.seen;
        waits = λ t is. absurd (none_is_no t (sym idle.1 ∙ is));
        served_now = λ yes. absurd (true≢false (sym yes ∙ idle.2));
        room = omega (arith, old.room, theirs.room, no_ticket.0, no_ticket.1, v_alone, w_alone);
      } in
      let spent_fits : Fits first h.line (spent {A = A} {B = B} {O = O}) = record {
        opens = λ some_parts. absurd (omega (arith, some_parts));
        seen = (h.line, refl);
        beside = (h.line, refl);
        waits = λ t is. absurd (none_is_no t is);
        served_now = λ yes. absurd (true≢false (sym yes));
        room = omega arith;
      } in
      let between : State (Option V) (View A B O) = with_view s s.words s.homes id both in
      record {
        line = h.line;
        words = h.words ∙ ap (λ (k : ℕ). length h.line ∷ (length h.line + k) ∷ []) (sym now);
        parts = sums (λ (u : View A B O). u.parts) (omega arith) ∙ h.parts;
        small = h.small;
        turns = omega (arith, sums turns_of (omega (arith, no_ticket.0, no_ticket.1, v_alone, w_alone)), h.turns, now);
        once = λ p.
            let a : owns_at p v.beside ≡ 0 = ap (owns_at p) idle.0 in
            let b : owns_at p w.beside ≡ 0 = ap (owns_at p) still.0 in
            let c : one_if p v.ticket ≡ 0 = ap (one_if p) idle.1 in
            let d : one_if p w.ticket ≡ 0 = ap (one_if p) still.1 in
            sums (claims p) (omega (arith, a, b, c, d)) ∙ h.once p ∙ ap (λ (k : ℕ). once_below p (length h.line + k)) (sym now);
        each = each_fits first h.line mid other spent (each_fits first h.line s.views id both h.each both_fit) spent_fits;
        value = value_stays g first h.line between s.words other w spent there still.2 refl
            (value_stays g first h.line s s.words id v both at idle.2 idle.2 h.value);
      }

  gathering : (slots id : ℕ) (st : Step (Option V)) (v : View A B O) (c : List (ℕ × Option V)) → v.ticket ≡ None → v.serves ≡ false
      → Allows (Kept g key) slots id (v, c) 0 (λ n. n) (puts_together st (v, c))
  gathering slots id st v c no_ticket still s h _ at _ =
      let first = first_of g key in
      let n = length h.line in
      let old = h.each id v at in
      let notes : List (Noted A B) = united h.line v.notes v.beside in
      let w : View A B O = record v { notes = notes; beside = [] } in
      let apart : (p : ℕ) → owns_at p v.notes + owns_at p v.beside ≤ 1 = λ p. omega (arith, own_once g key s h id v p at) in
      let turns : Merges (own v.notes) (own v.beside) (own notes) = merges_united h.line v.notes v.beside old.seen old.beside apart in
      let places = λ (p : ℕ). owns_united p h.line v.notes v.beside old.seen old.beside apart in
      let whole : entries notes ≡ h.line = entries_united h.line v.notes v.beside in
      let same_turns : turns_of w ≡ turns_of v = omega (arith, merges_length (own v.notes) (own v.beside) (own notes) turns) in
      let fits : Fits first h.line w = record {
        opens = old.opens;
        seen = ([], append-nil (entries notes) ∙ whole);
        beside = (h.line, refl);
        waits = old.waits;
        served_now = λ yes. absurd (true≢false (sym yes ∙ still));
        room = omega (arith, old.room, same_turns);
      } in
      let kept : Kept g key (with_view s s.words s.homes id w) =
      reseated g key s h s.homes id v w at refl refl same_turns (λ p. omega (arith, places p)) fits
      (value_stays g first h.line s s.words id v w at still still h.value) in
      let found : slice_index s.words 0 ≡ n = ap (λ ws. slice_index ws 0) h.words in
      let same_words : s.words ≡ slice_set s.words 0 n = h.words ∙ sym (ap (λ ws. slice_set ws 0 n) h.words) in
      let P : ℕ → Type 0 = λ (k : ℕ).
      (u : View A B O) × (a : Act (Option V)) × Valid s.homes c a × Kept g key (stepped s 0 k id c u a)
      × puts_together st (v, c) k (u, carried_after c a) in
      let seen : (u : List (Noted A B)) → IsPrefix (entries u) h.line → IsPrefix (entries u) (entries notes) =
      λ u is. subst (IsPrefix (entries u)) (sym whole) is in
      let puts : PutsTogether v w = record {
        notes = notes;
        after = refl;
        seen = (seen v.notes old.seen, seen v.beside old.beside);
        places = places;
        turns = turns;
      } in
      let result : P n = (
        w,
        keeps,
        tt,
        subst (λ (ws : List ℕ). Kept g key (with_view s ws s.homes id w)) same_words kept,
        (puts, refl),
      ) in
      subst P (sym found) result

  -- the same, just after the join
  pub gathering_from : (slots id : ℕ) (st : Step (Option V)) (m : Me (Option V) (View A B O)) (v w : View A B O) (c : List (ℕ × Option V))
      → m ≡ (taking_in v w, c) → IsIdle v
      → Allows (Kept g key) slots id m 0 (λ n. n) (puts_together st m)
  gathering_from slots id st m v w c is idle =
      subst (λ (k : Me (Option V) (View A B O)). Allows (Kept g key) slots id k 0 (λ n. n) (puts_together st k))
      (sym is) (gathering slots id st (taking_in v w) c idle.1 idle.2)
