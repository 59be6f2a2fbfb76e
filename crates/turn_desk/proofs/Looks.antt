-- A pass looks at the line, and takes the value where its ticket is served.
use Rattle.std.proofs.Common.{◌≡◌, ◌<◌, ℕ, false, true≢false, List, [], ◌∷◌, ◌++◌, length, sym, refl, ap, ◌∙◌, arith, subst, ⊎_elim, inr, Some, Option}
use Rattle.std.proofs.lemmas.List.{append-nil}
use Rattle.std.specs.Prelude.{slice_index, slice_set}
use mathlib.Core.Option.{some, none}
use mathlib.Core.Option as maybe
use mathlib.Core.Logic.{dite}
use native.Mathlib.Decide.{ℕ_discrete}
use lib.ListN.{get_elem?}
use Rattle.atomic_table.proofs.Lists.{set_here}
use Rattle.atomic_table.specs.Table.{State, Act, Allows, Step, Valid, stepped, carried_after, keeps, takes}
use Rattle.turn_desk.specs.declared.line.Entry.{Entry}
use Rattle.turn_desk.specs.declared.pass.Key.{Key}
use Rattle.turn_desk.specs.declared.pass.View.{View}
use Rattle.turn_desk.specs.declared.turn.Turn.{Ghosts}
use Rattle.turn_desk.specs.Line.{entries, others, served}
use Rattle.turn_desk.specs.Rule.{IsHome, IsOut, Fits}
use Rattle.turn_desk.specs.Steps.{looks, serving, MayServe}
use Rattle.turn_desk.specs.Views.{waiting, turns_of, claims, one_of}
use Rattle.turn_desk.proofs.Options.{same_some}
use Rattle.turn_desk.proofs.Kept.{Kept, IsPlaced, first_of, few, alone, two_seats, reseated, value_stays, with_view, within}
use Rattle.turn_desk.proofs.Notes.{entries_more, own_more, owns_more, served_most}
use Rattle.turn_desk.proofs.Totals.{one_of_all}

-- the view that has seen more of the line
abbrev pub further : {A B O : Type 0} → View A B O → List (Entry A B) → View A B O
further v rest = record v { notes = v.notes ++ others rest }

module _ {V A B O : Type 0} (g : Ghosts V A B O) (key : Key V) (s : State (Option V) (View A B O)) (h : Kept g key s)
    (id : ℕ) (v : View A B O) (at : get_elem? s.views id ≡ some v) (t : ℕ) (ticket : v.ticket ≡ Some t) (still : v.serves ≡ false)
    (rest : List (Entry A B)) (goes : entries v.notes ++ rest ≡ h.line) where
  whole : entries (further v rest).notes ≡ h.line
  whole = entries_more v.notes rest ∙ goes

  same_turns : turns_of (further v rest) ≡ turns_of v
  same_turns = let e = ap length (own_more v.notes rest) in omega (arith, e)

  same_claims : (p : ℕ) → claims p (further v rest) ≡ claims p v
  same_claims p = let e = owns_more p v.notes rest in omega (arith, e)

  has_parts : (0 < v.parts) × (waiting v ≡ 1)
  has_parts =
      let one : waiting v ≡ 1 = ap one_of ticket in
      (omega (arith, (h.each id v at).room, one), one)

  -- where the pass is served, the value is at home
  home_now : v.ticket ≡ Some (length h.line) → IsHome g.history g.opening (first_of g key) h.line s
  home_now mine = ⊎_elim (λ x. x)
      (λ (x : IsOut s).
      let theirs = ((h.each x.1.0 x.1.1 x.1.2).served_now x.1.3).0 in
      let apart = two_seats s.views id x.1.0 v x.1.1 at x.1.2 still x.1.3 in
      absurd (alone g key s h id x.1.0 v x.1.1 (length h.line) at x.1.2 mine theirs (λ same. apart (sym same)))) h.value

  may_serve : (x : V) → g.history x ≡ served h.line → g.opening x ≡ first_of g key → MayServe g.history g.opening g.room x (further v rest)
  may_serve x stands opened =
      let fits = (few g key s h).1 in
      let waits = one_of_all waiting s.views id v at in
      record {
        stands = stands ∙ ap served (sym whole);
        opened = (h.each id v at).opens has_parts.0 ∙ ap (λ (o : O). let r : Option O = Some o in r) (sym opened);
        spare = omega (arith, ap length stands, served_most h.line, fits, waits, has_parts.1, ap g.room opened);
      }

  -- the ticket is not served
  keeps_waiting : Kept g key (with_view s s.words s.homes id (further v rest))
  keeps_waiting =
      let old = h.each id v at in
      let fits : Fits (first_of g key) h.line (further v rest) = record {
        opens = old.opens;
        seen = ([], append-nil (entries (further v rest).notes) ∙ whole);
        beside = old.beside;
        waits = old.waits;
        served_now = λ yes. absurd (true≢false (sym yes ∙ still));
        room = omega (arith, old.room, same_turns);
      } in
      reseated g key s h s.homes id v (further v rest) at refl refl same_turns same_claims fits
      (value_stays g (first_of g key) h.line s s.words id v (further v rest) at still still h.value)

  -- the ticket is served
  takes_value : v.ticket ≡ Some (length h.line) → (homes : List (maybe.Option (Option V))) → homes ≡ none ∷ []
      → Kept g key (with_view s s.words homes id (serving (further v rest)))
  takes_value mine homes out =
      let old = h.each id v at in
      let w : View A B O = serving (further v rest) in
      let fits : Fits (first_of g key) h.line w = record {
        opens = old.opens;
        seen = ([], append-nil (entries w.notes) ∙ whole);
        beside = old.beside;
        waits = old.waits;
        served_now = λ yes. (mine, whole);
        room = omega (arith, old.room, same_turns);
      } in
      let placed : IsPlaced g (first_of g key) h.line (with_view s s.words homes id w) =
      inr (out, (id, w, set_here s.views id w (within s.views id v at), refl)) in
      reseated g key s h homes id v w at refl refl same_turns same_claims fits placed

module _ {V A B O : Type 0} (g : Ghosts V A B O) (key : Key V) where
  pub looking : (slots id : ℕ) (st : Step (Option V)) (v : View A B O) (t : ℕ) → v.ticket ≡ Some t → v.serves ≡ false
      → Allows (Kept g key) slots id (v, []) 0 (λ n. n) (looks g.history g.opening g.room st (v, []))
  looking slots id st v t ticket still s h _ at _ =
      let n = length h.line in
      let seen = (h.each id v at).seen in
      let w : View A B O = further v seen.0 in
      let found : slice_index s.words 0 ≡ n = ap (λ ws. slice_index ws 0) h.words in
      let same_words : s.words ≡ slice_set s.words 0 n = h.words ∙ sym (ap (λ ws. slice_set ws 0 n) h.words) in
      let P : ℕ → Type 0 = λ (k : ℕ).
      (u : View A B O) × (a : Act (Option V)) × Valid s.homes [] a × Kept g key (stepped s 0 k id [] u a)
      × looks g.history g.opening g.room st (v, []) k (u, carried_after [] a) in
      let result : P n = dite (ℕ_discrete t n)
      (λ same.
      let mine : v.ticket ≡ Some n = ticket ∙ ap (λ (k : ℕ). let r : Option ℕ = Some k in r) same in
      let home = home_now g key s h id v at t ticket still seen.0 seen.1 mine in
      let homes = slice_set s.homes 0 none in
      let kept = takes_value g key s h id v at t ticket still seen.0 seen.1 mine homes (ap (λ hs. slice_set hs 0 none) home.1) in
      let may = may_serve g key s h id v at t ticket still seen.0 seen.1 home.0 home.2 home.3 in (
        serving w,
        takes 0 (Some home.0),
        ap (λ hs. get_elem? hs 0) home.1,
        subst (λ (ws : List ℕ). Kept g key (with_view s ws homes id (serving w))) same_words kept,
        ((λ _. (w, home.0, (seen.0, refl), refl, may)), (λ no_turn. absurd (no_turn mine))),
      ))
      (λ other.
      let kept = keeps_waiting g key s h id v at t ticket still seen.0 seen.1 in (
        w,
        keeps,
        tt,
        subst (λ (ws : List ℕ). Kept g key (with_view s ws s.homes id w)) same_words kept,
        ((λ turn. absurd (other (same_some t n (sym ticket ∙ turn)))), (λ _. ((seen.0, refl), refl))),
      )) in
      subst P (sym found) result

  -- the same, where the hand is known by an equation
  pub looking_from : (slots id : ℕ) (st : Step (Option V)) (v : View A B O) (c : List (ℕ × Option V)) (t : ℕ)
      → c ≡ [] → v.ticket ≡ Some t → v.serves ≡ false
      → Allows (Kept g key) slots id (v, c) 0 (λ n. n) (looks g.history g.opening g.room st (v, c))
  looking_from slots id st v c t empty ticket still =
      subst (λ (k : List (ℕ × Option V)). Allows (Kept g key) slots id (v, k) 0 (λ n. n) (looks g.history g.opening g.room st (v, k)))
      (sym empty) (looking slots id st v t ticket still)
