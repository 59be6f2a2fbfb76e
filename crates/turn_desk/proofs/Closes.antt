-- A pass with all parts closes the desk.
use Rattle.std.proofs.Common.{◌≡◌, ◌≢◌, ◌<◌, ◌≤◌, ◌+◌, ℕ, List, [], ◌∷◌, length, sym, refl, ap, ◌∙◌, arith, subst, ⊎_elim, Some, None, Option}
use Rattle.std.proofs.lemmas.Bool.Decides.{nat_tests}
use Rattle.std.specs.Prelude.{sum_by}
use mathlib.Core.Option.{some, some-injective}
use mathlib.Core.List.{IsPrefix}
use mathlib.Core.Logic.{dite}
use native.Mathlib.Decide.{dec_le}
use lib.ListN.{get_elem?}
use Rattle.atomic_table.specs.Table.{State, Final, Seen}
use Rattle.turn_desk.specs.declared.pass.Key.{Key}
use Rattle.turn_desk.specs.declared.pass.Pass.{Pass}
use Rattle.turn_desk.specs.declared.pass.View.{View}
use Rattle.turn_desk.specs.declared.turn.Turn.{Ghosts}
use Rattle.turn_desk.specs.Line.{entries, own, owns_at, served}
use Rattle.turn_desk.specs.Passes.{known, parts_of}
use Rattle.turn_desk.specs.Rule.{IsHome, IsOut, once_below}
use Rattle.turn_desk.specs.Views.{IsIdle, waiting, turns_of, claims, one_of, one_if}
use Rattle.turn_desk.proofs.Kept.{Kept, first_of}
use Rattle.turn_desk.proofs.Notes.{entries_length, owns_beyond, owns_none, all_own}
use Rattle.turn_desk.proofs.Options.{same_some, none_is_no}
use Rattle.turn_desk.proofs.Totals.{only_one, one_of_all, two_of_all}

below_once : (p n : ℕ) → p < n → once_below p n ≡ 1
below_once p n below = grind (arith, nat_tests)

no_claim : (p : ℕ) (t : Option ℕ) → one_of t ≡ 0 → one_if p t ≡ 0
no_claim p None e = refl
no_claim p (Some t) e = absurd (omega (arith, e))

-- a beginning as long as the whole is the whole
prefix_whole : {X : Type 0} (xs ys : List X) → IsPrefix xs ys → length ys ≤ length xs → xs ≡ ys
prefix_whole [] [] p le = refl
prefix_whole [] (y ∷ ys) p le = absurd (omega arith)
prefix_whole (x ∷ xs) [] p le = absurd (cc (p.1))
prefix_whole (x ∷ xs) (y ∷ ys) p le =
    let rest = prefix_whole xs ys (p.0, cc (p.1)) (omega arith) in cc (p.1, rest)

module _ {V A B O : Type 0} (g : Ghosts V A B O) (key : Key V) (s : State (Option V) (View A B O)) (h : Kept g key s)
    (id : ℕ) (v : View A B O) (at : get_elem? s.views id ≡ some v) (idle : IsIdle v) (all : v.parts ≡ key.parts) where
  -- every other pass is spent: it has no part, so no turn and no ticket
  no_turns : (j : ℕ) (u : View A B O) → j ≢ id → get_elem? s.views j ≡ some u → turns_of u ≡ 0
  no_turns j u apart there =
      let two = two_of_all (λ (z : View A B O). z.parts) s.views j id u v apart there at in
      omega (arith, two, h.parts, all, (h.each j u there).room)

  no_claims : (p j : ℕ) (u : View A B O) → j ≢ id → get_elem? s.views j ≡ some u → claims p u ≡ 0
  no_claims p j u apart there =
      let e = no_turns j u apart there in
      let notes = owns_none p u.notes (omega (arith, e)) in
      let beside = owns_none p u.beside (omega (arith, e)) in
      omega (arith, notes, beside, no_claim p u.ticket (omega (arith, e)))

  nobody_waits : sum_by waiting s.views ≡ 0
  nobody_waits =
      only_one waiting s.views id v at (λ j u apart there. let e = no_turns j u apart there in omega (arith, e)) ∙ ap one_of idle.1

  owned : (p : ℕ) → owns_at p v.notes ≡ once_below p (length h.line)
  owned p =
      let a : owns_at p v.beside ≡ 0 = ap (owns_at p) idle.0 in
      let b : one_if p v.ticket ≡ 0 = ap (one_if p) idle.1 in
      let c : once_below p (length h.line + sum_by waiting s.views) ≡ once_below p (length h.line) =
      ap (once_below p) (omega (arith, nobody_waits)) in
      omega (arith, only_one (claims p) s.views id v at (no_claims p), h.once p, a, b, c)

  longest : length h.line ≤ length v.notes
  longest = dite (dec_le (length h.line) (length v.notes)) (λ le. le)
      (λ (more : ¬ (length h.line ≤ length v.notes)).
      let n = length v.notes in
      let below : n < length h.line = omega (arith, more) in
      absurd (omega (arith, owned n, owns_beyond n v.notes (omega arith), below_once n (length h.line) below)))

  -- the pass has seen the whole line
  whole : entries v.notes ≡ h.line
  whole = prefix_whole (entries v.notes) h.line (h.each id v at).seen (omega (arith, entries_length v.notes, longest))

  -- and each turn of the line is its own
  all_turns : own v.notes ≡ entries v.notes
  all_turns = all_own v.notes (λ p below.
      owned p ∙ below_once p (length h.line) (omega (arith, below, entries_length v.notes, ap length whole)))

  at_home : IsHome g.history g.opening (first_of g key) h.line s
  at_home = ⊎_elim (λ x. x)
      (λ (x : IsOut s).
      let mine = (h.each x.1.0 x.1.1 x.1.2).served_now x.1.3 in
      absurd (omega (arith, one_of_all waiting s.views x.1.0 x.1.1 x.1.2, nobody_waits, ap one_of mine.0))) h.value

module _ {V A B O : Type 0} (g : Ghosts V A B O) (key : Key V) where
  -- the value stands for the whole line, and each turn of it is the pass's own
  pub record IsClosed (v : View A B O) (x : V) : Type 0 where
    pub history : g.history x ≡ served (own v.notes)
    pub whole : own v.notes ≡ entries v.notes
    pub opening : g.opening x ≡ first_of g key

  module _ (pass : Pass V A B O g) (all : parts_of pass ≡ key.parts) (ws : List ℕ) (xs : List (Option V))
      (last : Final (Seen (Kept g key) pass.hand.id (known pass)) ws xs) {slot : Option V} (taken : get_elem? xs 0 ≡ some slot) where
    closed : (x : V) × (slot ≡ Some x) × IsClosed (known pass) x
    closed =
        let s = last.0 in let h = last.1.0 in let at = last.1.1 in let id = pass.hand.id in let v = known pass in
        let home = at_home g key s h id v at pass.idle all in
        let turns = all_turns g key s h id v at pass.idle all in
        let line = whole g key s h id v at pass.idle all in
        let there = last.4 0 (Some home.0) (ap (λ hs. get_elem? hs 0) home.1) in (
          home.0,
          some-injective slot (Some home.0) (sym taken ∙ there),
          record { history = home.2 ∙ ap served (sym (turns ∙ line)); whole = turns; opening = home.3 },
        )

    -- what was taken out of the slot
    pub closing : (x : V) → slot ≡ Some x → IsClosed (known pass) x
    closing x is = subst (IsClosed (known pass)) (same_some closed.0 x (sym closed.1 ∙ is)) closed.2

    pub never_empty : slot ≡ None → ⊥
    never_empty is = none_is_no closed.0 (sym is ∙ closed.1)
