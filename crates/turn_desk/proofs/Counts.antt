-- A pass counts its turn, and the value is home again.
use Rattle.std.proofs.Common.{◌≡◌, ◌≢◌, ◌≤◌, ◌+◌, ◌%◌, ◌^◌, ℕ, Bool, true, false, true≢false, List, [], ◌∷◌, ◌++◌, length, set, sym, refl, ap, ◌∙◌, arith, subst, ⊎_elim, inl, Some, Option, mod-eq_of_lt, append_assoc, length-append}
use Rattle.std.proofs.lemmas.List.{append-nil}
use Rattle.std.specs.Prelude.{slice_index, slice_set, sum_by}
use mathlib.Core.Option.{some}
use mathlib.Core.List.{IsPrefix}
use lib.ListN.{get_elem?}
use Rattle.atomic_table.proofs.Lists.{at_set}
use Rattle.atomic_table.specs.Table.{State, Act, Allows, Step, Valid, stepped, carried_after, gives}
use Rattle.turn_desk.specs.declared.line.Entry.{Entry}
use Rattle.turn_desk.specs.declared.pass.Key.{Key}
use Rattle.turn_desk.specs.declared.pass.View.{View}
use Rattle.turn_desk.specs.declared.turn.Turn.{Ghosts}
use Rattle.turn_desk.specs.Line.{entries, noted, served}
use Rattle.turn_desk.specs.Rule.{IsHome, IsOut, Fits, once_below}
use Rattle.turn_desk.specs.Steps.{IsReady, counts, ended}
use Rattle.turn_desk.specs.Views.{waiting, turns_of, claims, one_of, one_if}
use Rattle.turn_desk.proofs.Options.{none_is_no, same_some}
use Rattle.turn_desk.proofs.Kept.{Kept, first_of, few, alone, with_view}
use Rattle.turn_desk.proofs.Notes.{entries_append, entries_length, own_count, owns_last}
use Rattle.turn_desk.proofs.Totals.{sum_by_set}

not_true : (b : Bool) → (b ≡ true → ⊥) → b ≡ false
not_true true other = absurd (other refl)
not_true false other = refl

longer : {X : Type 0} (xs ys : List X) (e : X) → IsPrefix xs ys → IsPrefix xs (ys ++ e ∷ [])
longer xs ys e p = (p.0 ++ e ∷ [], sym (append_assoc xs p.0 (e ∷ [])) ∙ ap (λ (zs : List _). zs ++ e ∷ []) p.1)

module _ {V A B O : Type 0} (g : Ghosts V A B O) (key : Key V) (s : State (Option V) (View A B O)) (h : Kept g key s)
    (id : ℕ) (v : View A B O) (at : get_elem? s.views id ≡ some v) (now : v.serves ≡ true) (e : Entry A B) where
  mine : (v.ticket ≡ Some (length h.line)) × (entries v.notes ≡ h.line)
  mine = (h.each id v at).served_now now

  one : waiting v ≡ 1
  one = ap one_of mine.0

  -- another pass isn't served, and its ticket comes later
  others_wait : (j : ℕ) (u : View A B O) → j ≢ id → get_elem? s.views j ≡ some u
      → (u.serves ≡ false) × ((t : ℕ) → u.ticket ≡ Some t → length h.line + 1 ≤ t)
  others_wait j u apart there =
      let never : (u.ticket ≡ Some (length h.line)) → ⊥ =
      λ theirs. alone g key s h j id u v (length h.line) there at theirs mine.0 apart in (
        not_true u.serves (λ yes. never ((h.each j u there).served_now yes).0),
        λ t is.
            let le = (h.each j u there).waits t is in
            let ne : (length h.line ≡ t) → ⊥ = λ same. never (is ∙ ap (λ (k : ℕ). let r : Option ℕ = Some k in r) (sym same)) in
            omega (arith, le, ne),
      )

  long : length (h.line ++ e ∷ []) ≡ length h.line + 1
  long = length-append h.line (e ∷ [])

  others_fit : (j : ℕ) (u : View A B O) → j ≢ id → get_elem? s.views j ≡ some u → Fits (first_of g key) (h.line ++ e ∷ []) u
  others_fit j u apart there =
      let old = h.each j u there in
      let wait = others_wait j u apart there in
      record {
        opens = old.opens;
        seen = longer (entries u.notes) h.line e old.seen;
        beside = longer (entries u.beside) h.line e old.beside;
        waits = λ t is. let le = wait.1 t is in omega (arith, le, long);
        served_now = λ yes. absurd (true≢false (sym yes ∙ wait.0));
        room = old.room;
      }

  whole : entries (ended v e).notes ≡ h.line ++ e ∷ []
  whole = entries_append v.notes (noted true e ∷ []) ∙ ap (λ (es : List (Entry A B)). es ++ e ∷ []) mine.1

  same_turns : turns_of (ended v e) ≡ turns_of v
  same_turns = omega (arith, own_count v.notes e, one)

  fits : Fits (first_of g key) (h.line ++ e ∷ []) (ended v e)
  fits =
      let old = h.each id v at in
      record {
        opens = old.opens;
        seen = ([], append-nil (entries (ended v e).notes) ∙ whole);
        beside = longer (entries v.beside) h.line e old.beside;
        waits = λ t is. absurd (none_is_no t is);
        served_now = λ yes. absurd (true≢false (sym yes));
        room = omega (arith, old.room, same_turns);
      }

  same_claims : (p : ℕ) → claims p (ended v e) ≡ claims p v
  same_claims p =
      let k : length v.notes ≡ length h.line = sym (entries_length v.notes) ∙ ap length mine.1 in
      let a : one_if p (Some (length v.notes)) ≡ one_if p v.ticket =
      ap (λ (n : ℕ). one_if p (Some n)) k ∙ ap (one_if p) (sym mine.0) in
      omega (arith, owns_last p v.notes e, a)

  out : IsOut s
  out = ⊎_elim
      (λ (x : IsHome g.history g.opening (first_of g key) h.line s). absurd (true≢false (sym now ∙ x.4 id v at)))
      (λ x. x) h.value

  abbrev pub after : ℕ → V → State (Option V) (View A B O)
  after k x = with_view s (slice_set s.words 0 k) (slice_set s.homes 0 (some (Some x))) id (ended v e)

  back : (x : V) (k : ℕ) → g.history x ≡ served (entries v.notes ++ e ∷ []) → v.opening ≡ Some (g.opening x)
      → IsHome g.history g.opening (first_of g key) (h.line ++ e ∷ []) (after k x)
  back x k stands opened =
      let old = h.each id v at in (
        x,
        ap (λ hs. slice_set hs 0 (some (Some x))) out.0,
        stands ∙ ap (λ (es : List (Entry A B)). served (es ++ e ∷ [])) mine.1,
        same_some (g.opening x) (first_of g key) (sym opened ∙ old.opens (omega (arith, old.room, one))),
        λ j u there. ⊎_elim
            (λ (y : (j ≡ id) × (ended v e ≡ u)). ap (λ (z : View A B O). z.serves) (sym y.1))
            (λ (y : (j ≢ id) × (get_elem? s.views j ≡ some u)). (others_wait j u y.0 y.1).0) (at_set s.views id j (ended v e) u there),
      )

  counted_turn : (x : V) → g.history x ≡ served (entries v.notes ++ e ∷ []) → v.opening ≡ Some (g.opening x)
      → Kept g key (after ((length h.line + 1) % 2 ^ 64) x)
  counted_turn x stands opened =
      let n = length h.line in
      let vs : List (View A B O) = set s.views id (ended v e) in
      let fewer : sum_by waiting vs + 1 ≡ sum_by waiting s.views = omega (arith, sum_by_set waiting s.views id v (ended v e) at, one) in
      let next : (n + 1) % 2 ^ 64 ≡ n + 1 = mod-eq_of_lt (let f = (few g key s h).0 in omega (arith, f, fewer)) in
      let drawn : length (h.line ++ e ∷ []) + sum_by waiting vs ≡ n + sum_by waiting s.views = omega (arith, long, fewer) in
      record {
        line = h.line ++ e ∷ [];
        words = ap (λ ws. slice_set ws 0 ((n + 1) % 2 ^ 64)) h.words
            ∙ ap (λ (k : ℕ). k ∷ (n + sum_by waiting s.views) ∷ []) (next ∙ sym long)
            ∙ ap (λ (k : ℕ). length (h.line ++ e ∷ []) ∷ k ∷ []) (sym drawn);
        parts = omega (arith, sum_by_set (λ (u : View A B O). u.parts) s.views id v (ended v e) at, h.parts);
        small = h.small;
        turns = omega (arith, sum_by_set turns_of s.views id v (ended v e) at, h.turns, same_turns, drawn);
        once = λ p.
            let same : sum_by (claims p) vs ≡ sum_by (claims p) s.views =
            omega (arith, sum_by_set (claims p) s.views id v (ended v e) at, same_claims p) in
            same ∙ h.once p ∙ ap (once_below p) (sym drawn);
        each = λ j u there. ⊎_elim
            (λ (y : (j ≡ id) × (ended v e ≡ u)). subst (Fits (first_of g key) (h.line ++ e ∷ [])) y.1 fits)
            (λ (y : (j ≢ id) × (get_elem? s.views j ≡ some u)). others_fit j u y.0 y.1) (at_set s.views id j (ended v e) u there);
        value = inl (back x ((n + 1) % 2 ^ 64) stands opened);
      }

module _ {V A B O : Type 0} (g : Ghosts V A B O) (key : Key V) where
  counting : (slots id : ℕ) (st : Step (Option V)) (v : View A B O) (x : V) (e : Entry A B) → v.serves ≡ true
      → g.history x ≡ served (entries v.notes ++ e ∷ []) → v.opening ≡ Some (g.opening x)
      → Allows (Kept g key) slots id (v, (0, Some x) ∷ []) 0 (λ n. (n + 1) % 2 ^ 64) (counts g.history st (v, (0, Some x) ∷ []))
  counting slots id st v x e now stands opened s h _ at _ =
      let found : slice_index s.words 0 ≡ length h.line = ap (λ ws. slice_index ws 0) h.words in
      let c : List (ℕ × Option V) = (0, Some x) ∷ [] in
      let P : ℕ → Type 0 = λ (k : ℕ).
      (w : View A B O) × (a : Act (Option V)) × Valid s.homes c a × Kept g key (stepped s 0 ((k + 1) % 2 ^ 64) id c w a)
      × counts g.history st (v, c) k (w, carried_after c a) in
      let kept = counted_turn g key s h id v at now e x stands opened in
      let result : P (length h.line) = (ended v e, gives, tt, kept, (x, e, refl, stands, refl)) in
      subst P (sym found) result

  -- the same, where the hand is known to have the value
  pub counting_from : (slots id : ℕ) (st : Step (Option V)) (v : View A B O) (c : List (ℕ × Option V)) → v.serves ≡ true
      → IsReady g.history g.opening (v, c)
      → Allows (Kept g key) slots id (v, c) 0 (λ n. (n + 1) % 2 ^ 64) (counts g.history st (v, c))
  counting_from slots id st v c now ready =
      let turn = ready.2.turn in
      subst (λ (k : List (ℕ × Option V)). Allows (Kept g key) slots id (v, k) 0 (λ n. (n + 1) % 2 ^ 64) (counts g.history st (v, k)))
      (sym ready.1) (counting slots id st v ready.0 turn.0 now turn.1 ready.2.opened)
