-- What a turn leaves, from the ticket to the count.
use Rattle.std.proofs.Common.{◌≡◌, ℕ, true, false, List, [], ◌∷◌, ◌++◌, sym, refl, ap, ◌∙◌, Some, Option, Result, Ok, Err, IfOk, OnErr, append_assoc}
use Rattle.std.proofs.lemmas.List.{append-nil, map-append}
use Rattle.turn_desk.specs.declared.line.Entry.{Entry}
use Rattle.turn_desk.specs.declared.line.Entry.TheVariants.{Served, Blank}
use Rattle.turn_desk.specs.declared.line.Noted.{Noted}
use Rattle.turn_desk.specs.declared.pass.View.{View}
use Rattle.turn_desk.specs.declared.turn.Turn.{Ghosts}
use Rattle.turn_desk.specs.Line.{entries, own, others, noted, served, entry_of, AddsTurn}
use Rattle.turn_desk.specs.Steps.{At, ended, SeesMore, Takes, IsTaken, IsTurned, IsCounted, Ends, serving}
use Rattle.turn_desk.proofs.Notes.{own_more, own_last}
use Rattle.turn_desk.proofs.Options.{same_some}

module _ {A B : Type 0} where
  -- the history shows which turn came last
  last_same : (es : List (Entry A B)) (e f : Entry A B) → served (es ++ e ∷ []) ≡ served (es ++ f ∷ []) → e ≡ f
  last_same [] (Served a b) (Served c d) p =
      let first : (a, b) ≡ (c, d) = cc (p) in
      ap (λ (z : A × B). let r : Entry A B = Served z.0 z.1 in r) first
  last_same [] (Served a b) Blank p = absurd (cc (p))
  last_same [] Blank (Served c d) p = absurd (cc (p))
  last_same [] Blank Blank p = refl
  last_same (Served a b ∷ es) e f p = last_same es e f (cc (p))
  last_same (Blank ∷ es) e f p = last_same es e f p

  served_last : (es : List (Entry A B)) (a : A) (b : B) → served (es ++ Served a b ∷ []) ≡ served es ++ (a, b) ∷ []
  served_last [] a b = refl
  served_last (Served c d ∷ es) a b = ap (λ (zs : List (A × B)). (c, d) ∷ zs) (served_last es a b)
  served_last (Blank ∷ es) a b = served_last es a b

  served_blank : (es : List (Entry A B)) → served (es ++ Blank ∷ []) ≡ served es
  served_blank [] = refl
  served_blank (Served c d ∷ es) = ap (λ (zs : List (A × B)). (c, d) ∷ zs) (served_blank es)
  served_blank (Blank ∷ es) = served_blank es

  -- the history after a turn is that of the line with it
  after_turn : {E : Type 0} (es : List (Entry A B)) (xs ys : List (A × B)) (ask : A) (r : Result B E) → xs ≡ served es
      → IfOk r (λ b. ys ≡ xs ++ (ask, b) ∷ []) → OnErr r (ys ≡ xs) → ys ≡ served (es ++ entry_of ask r ∷ [])
  after_turn es xs ys ask (Ok b) was ok err =
      ok ∙ ap (λ (zs : List (A × B)). zs ++ (ask, b) ∷ []) was ∙ sym (served_last es ask b)
  after_turn es xs ys ask (Err e) was ok err = err ∙ was ∙ sym (served_blank es)

  -- its own turns are one more
  pub adds_own : (old : List (Noted A B)) (e : Entry A B) (new : List (Noted A B)) → AddsTurn old e new → own new ≡ own old ++ e ∷ []
  adds_own old e new adds =
      ap own adds.1 ∙ own_last (old ++ others adds.0) e ∙ ap (λ (es : List (Entry A B)). es ++ e ∷ []) (own_more old adds.0)

module _ {A B O : Type 0} where
  pub sees_on : (u v w : View A B O) → SeesMore u v → SeesMore v w → SeesMore u w
  sees_on u v w p q =
      let noted_by : List (Noted A B) → View A B O = λ (ns : List (Noted A B)). record u { notes = ns } in
      let joined : (u.notes ++ others p.0) ++ others q.0 ≡ u.notes ++ others (p.0 ++ q.0) =
      append_assoc u.notes (others p.0) (others q.0)
      ∙ ap (λ (ns : List (Noted A B)). u.notes ++ ns) (sym (map-append (noted false) p.0 q.0)) in (
        p.0 ++ q.0,
        q.1 ∙ ap (λ (z : View A B O). let r : View A B O = record z { notes = z.notes ++ others q.0 } in r) p.1 ∙ ap noted_by joined,
      )

  -- the pass has the same ticket, and still waits
  pub still_waits : (v w : View A B O) (t : ℕ) → SeesMore v w → (v.ticket ≡ Some t) × (v.serves ≡ false)
      → (w.ticket ≡ Some t) × (w.serves ≡ false)
  still_waits v w t sees waits =
      (ap (λ (z : View A B O). z.ticket) sees.1 ∙ waits.0, ap (λ (z : View A B O). z.serves) sees.1 ∙ waits.1)

  pub sees_nothing : (v : View A B O) → SeesMore v v
  sees_nothing v = ([], ap (λ (ns : List (Noted A B)). let r : View A B O = record v { notes = ns } in r) (sym (append-nil v.notes)))

module _ {V A B O : Type 0} (g : Ghosts V A B O) where
  pub takes_on : (u : View A B O) (m m' : At V A B O) (c : List (ℕ × Option V)) → SeesMore u m.0
      → Takes g.history g.opening g.room m m' → Takes g.history g.opening g.room (u, c) m'
  takes_on u m m' c sees takes = (takes.0, takes.1, sees_on u m.0 takes.0 sees takes.2, takes.3, takes.4)

  -- the value that was counted is the one that was put home
  pub ends_with : (m home m' : At V A B O) (y : V) → home ≡ (m.0, (0, Some y) ∷ []) → IsCounted g.history home m' → Ends g.history m.0 y m'
  ends_with m home m' y put counted =
      let held : ◌≡◌ {A = List (ℕ × Option V)} ((0, Some counted.0) ∷ []) ((0, Some y) ∷ []) =
      sym counted.2 ∙ ap (λ (z : At V A B O). z.1) put in
      let pair : ◌≡◌ {A = ℕ × Option V} (0, Some counted.0) (0, Some y) = cc (held) in
      let is : counted.0 ≡ y = same_some counted.0 y (ap (λ (z : ℕ × Option V). z.1) pair) in
      let view : home.0 ≡ m.0 = ap (λ (z : At V A B O). z.0) put in (
        counted.1,
        sym (ap g.history is) ∙ counted.3 ∙ ap (λ (z : View A B O). served (entries z.notes ++ counted.1 ∷ [])) view,
        counted.4 ∙ ap (λ (z : View A B O). let r : At V A B O = (ended z counted.1, []) in r) view,
      )

  -- x is the value that was taken, and y what the ask left of it
  module _ {E : Type 0} (v : View A B O) (x : V) (m : At V A B O) (taken : IsTaken g.history g.opening g.room v x m) (y : V) (ask : A)
      (r : Result B E) (same : g.opening y ≡ g.opening x) (ok : IfOk r (λ b. g.history y ≡ g.history x ++ (ask, b) ∷ []))
      (err : OnErr r (g.history y ≡ g.history x)) where
    in_hand : m.0 ≡ serving taken.1
    in_hand = ap (λ (z : At V A B O). z.0) taken.3

    stands : g.history y ≡ served (entries m.0.notes ++ entry_of ask r ∷ [])
    stands =
        let was = taken.4.stands ∙ ap (λ (z : View A B O). served (entries z.notes)) (sym in_hand) in
        after_turn (entries m.0.notes) (g.history x) (g.history y) ask r was ok err

    pub is_turned : IsTurned g.history g.opening m.0 y
    is_turned = record {
      opened = ap (λ (z : View A B O). z.opening) in_hand ∙ taken.4.opened ∙ ap (λ (o : O). let s : Option O = Some o in s) (sym same);
      turn = (entry_of ask r, stands);
    }

    pub adds_turn : (m' : At V A B O) → Ends g.history m.0 y m' → AddsTurn v.notes (entry_of ask r) m'.0.notes
    adds_turn m' ends =
        let this_turn = last_same (entries m.0.notes) ends.0 (entry_of ask r) (sym ends.1 ∙ stands) in
        let add : List (Noted A B) → List (Noted A B) = λ (ns : List (Noted A B)). ns ++ noted true (entry_of ask r) ∷ [] in
        let noted_there : m.0.notes ≡ v.notes ++ others taken.2.0 =
        ap (λ (z : View A B O). z.notes) in_hand ∙ ap (λ (z : View A B O). z.notes) taken.2.1 in (
          taken.2.0,
          ap (λ (z : At V A B O). z.0.notes) ends.2
              ∙ ap (λ (k : Entry A B). m.0.notes ++ noted true k ∷ []) this_turn ∙ ap add noted_there,
        )
