-- What replicas by themselves send.
use Rattle.std.proofs.Common.{◌≡◌, inl, inr, ℕ, ◌≤◌, eqb, List, [], ◌∷◌, ◌++◌, length, map, sym, ap, subst, ◌∙◌, arith}
use Rattle.std.specs.Prelude.{slice_get, Some, None, if◌then◌else◌}
use Rattle.std.specs.List.{AllByRecursion}
use Rattle.std.proofs.lemmas.Bool.{eq-eqb, ne_eqb}
use Rattle.std.proofs.lemmas.Bool.Decides.{eqb_tells}
use Rattle.std.proofs.lemmas.List.{append-nil, append_assoc}
use Rattle.std.proofs.lemmas.List.Elements.{filter-append}
use Rattle.std.proofs.lemmas.Option.{same_Some}
use Rattle.spec_model.specs.declared.plan.Setup.{Setup}
use Rattle.run_model.specs.declared.message.Message.{Message}
use Rattle.run_model.specs.declared.step.Ask.{Ask}
use Rattle.run_model.specs.declared.step.Ask.TheVariants as asks
use Rattle.run_model.specs.Locals.{Local}
use Rattle.run_model.specs.Worlds.{Sending, sent_to}
use Rattle.run_model.proofs.Lists.{each_append, get_push}
use Rattle.local_runs.specs.Handed.{Handed, HandRuns, HandSteps, IsNext, Puts, sending_of}

-- ---- stamps

none_put : (P : Sending → Type 0) (put : List Sending) → put ≡ [] → AllByRecursion P put
none_put P put is = subst (AllByRecursion P) (sym is) tt

-- what a step puts has its stamp
put_stamps : (me : ℕ) (ask : Ask) (stamp : ℕ) (before put : List Sending) → Puts me ask stamp before put → AllByRecursion (λ x. stamp ≤ x.stamp) put
put_stamps me (asks.Do inst) stamp before put is = none_put (λ x. stamp ≤ x.stamp) put is
put_stamps me (asks.Send to None) stamp before put is = none_put (λ x. stamp ≤ x.stamp) put is
put_stamps me (asks.Send to (Some number)) stamp before put is =
    let message : Message = is.0 in
    let next : IsNext me to number stamp before message = is.1 in
    subst (AllByRecursion (λ (x : Sending). stamp ≤ x.stamp)) (sym is.2) (omega (arith, next.stamped), tt)
put_stamps me (asks.Take from number) stamp before put is = none_put (λ x. stamp ≤ x.stamp) put is
put_stamps me asks.Crash stamp before put is = none_put (λ x. stamp ≤ x.stamp) put is
put_stamps me asks.Recover stamp before put is = none_put (λ x. stamp ≤ x.stamp) put is

later : (a b : ℕ) (xs : List Sending) → a ≤ b → AllByRecursion (λ x. b ≤ x.stamp) xs → AllByRecursion (λ x. a ≤ x.stamp) xs
later a b [] le all = tt
later a b (x ∷ xs) le all = (omega (arith, le, all.0), later a b xs le all.1)

-- what is sent in steps of this stamp or later ones stands behind what was sent, with such stamps
pub sends_later : (setup : Setup) (me stamp : ℕ) (old new : Local) (steps : List Handed) → AllByRecursion (λ f. stamp ≤ f.stamp) (map (λ s. s.entry) steps) → HandRuns setup me old steps new
    → (more : List Sending) × (new.standing.sendings ≡ old.standing.sendings ++ more) × AllByRecursion (λ x. stamp ≤ x.stamp) more
sends_later setup me stamp old new [] late runs = ([], ap (λ (l : Local). l.standing.sendings) runs ∙ sym (append-nil old.standing.sendings), tt)
sends_later setup me stamp old new (s ∷ steps) late runs =
    let middle : Local = runs.0 in
    let step : HandSteps setup me s.hand old s.entry middle = runs.1 in
    let rest = sends_later setup me stamp middle new steps late.1 runs.2 in (
      step.put ++ rest.0,
      rest.1 ∙ ap (λ (xs : List Sending). xs ++ rest.0) step.sendings ∙ append_assoc old.standing.sendings step.put rest.0,
      each_append (λ (x : Sending). stamp ≤ x.stamp) step.put rest.0 (later stamp s.entry.stamp step.put late.0 (put_stamps me s.entry.ask s.entry.stamp old.standing.sendings step.put step.puts)) rest.2,
    )

-- ---- numbers

-- a message has the number of its place among those to the same replica
abbrev pub AreNumbered : List Sending → Type 0
AreNumbered sendings = (to k : ℕ) (s : Sending) (m : Message) → slice_get (sent_to to sendings) k ≡ Some s → s.message ≡ Some m → m.number ≡ k

numbered_none : (before put : List Sending) → put ≡ [] → AreNumbered before → AreNumbered (before ++ put)
numbered_none before put is h = subst AreNumbered (sym (ap (λ (xs : List Sending). before ++ xs) is ∙ append-nil before)) h

numbered_one : (me to number stamp : ℕ) (before : List Sending) (message : Message) → IsNext me to number stamp before message → AreNumbered before → AreNumbered (before ++ sending_of message ∷ [])
numbered_one me to number stamp before message next h t k s m at is =
    let x : Sending = sending_of message in
    let parted : sent_to t (before ++ x ∷ []) ≡ sent_to t before ++ (if eqb x.to t then x ∷ [] else []) = filter-append (λ (q : Sending). eqb q.to t) before (x ∷ []) in
    elim (eqb_tells message.to t) [
      | inl same ↦
          let whole : sent_to t (before ++ x ∷ []) ≡ sent_to t before ++ x ∷ [] = parted ∙ ap (λ b. sent_to t before ++ (if b then x ∷ [] else [])) (eq-eqb message.to t same.1) in
          elim (get_push (sent_to t before) x k s (ap (λ (l : List Sending). slice_get l k) (sym whole) ∙ at)) [
            | inl old ↦ h t k s m old is
            | inr last ↦
                let it : message ≡ m = same_Some message m (ap (λ (q : Sending). q.message) last.1 ∙ is) in
                let at_to : to ≡ t = sym next.receiver ∙ same.1 in
                ap (λ (q : Message). q.number) (sym it) ∙ next.numbered ∙ next.counted ∙ ap (λ i. length (sent_to i before)) at_to ∙ sym last.0
          ]
      | inr other ↦
          let whole : sent_to t (before ++ x ∷ []) ≡ sent_to t before = parted ∙ ap (λ b. sent_to t before ++ (if b then x ∷ [] else [])) (ne_eqb message.to t other.1) ∙ append-nil (sent_to t before) in
          h t k s m (ap (λ (l : List Sending). slice_get l k) (sym whole) ∙ at) is
    ]

numbered_more : (me : ℕ) (ask : Ask) (stamp : ℕ) (before put : List Sending) → Puts me ask stamp before put → AreNumbered before → AreNumbered (before ++ put)
numbered_more me (asks.Do inst) stamp before put is h = numbered_none before put is h
numbered_more me (asks.Send to None) stamp before put is h = numbered_none before put is h
numbered_more me (asks.Send to (Some number)) stamp before put is h =
    subst (λ (xs : List Sending). AreNumbered (before ++ xs)) (sym is.2) (numbered_one me to number stamp before is.0 is.1 h)
numbered_more me (asks.Take from number) stamp before put is h = numbered_none before put is h
numbered_more me asks.Crash stamp before put is h = numbered_none before put is h
numbered_more me asks.Recover stamp before put is h = numbered_none before put is h

-- so it is in every run of a replica by itself
pub sends_numbered : (setup : Setup) (me : ℕ) (old new : Local) (steps : List Handed) → AreNumbered old.standing.sendings → HandRuns setup me old steps new → AreNumbered new.standing.sendings
sends_numbered setup me old new [] h runs = subst AreNumbered (sym (ap (λ (l : Local). l.standing.sendings) runs)) h
sends_numbered setup me old new (s ∷ steps) h runs =
    let middle : Local = runs.0 in
    let step : HandSteps setup me s.hand old s.entry middle = runs.1 in
    let next : AreNumbered middle.standing.sendings = subst AreNumbered (sym step.sendings) (numbered_more me s.entry.ask s.entry.stamp old.standing.sendings step.put step.puts h) in
    sends_numbered setup me middle new steps next runs.2
