-- The entries of a replica by itself count its messages.
use Rattle.std.proofs.Common.{◌≡◌, ℕ, ◌+◌, eqb, Bool, true, false, List, [], ◌∷◌, length, filter, map, refl, ap, ◌∙◌, arith}
use Rattle.std.specs.Prelude.{Option, Some, None, if◌then◌else◌}
use Rattle.std.proofs.lemmas.List.{length-append, length-map}
use Rattle.std.proofs.lemmas.List.Elements.{filter-append}
use Rattle.std.proofs.lemmas.List.Concat.{flat_map-cons}
use Rattle.spec_model.specs.declared.plan.Setup.{Setup}
use Rattle.run_model.specs.declared.message.Message.{Message}
use Rattle.run_model.specs.declared.step.Ask.{Ask}
use Rattle.run_model.specs.declared.step.Ask.TheVariants as asks
use Rattle.run_model.specs.declared.step.StepEntry.{StepEntry}
use Rattle.run_model.specs.Locals.{Local, first_local}
use Rattle.run_model.specs.Worlds.{Running, Up, Down, Sending, sent_to}
use Rattle.local_runs.specs.Alone.{gots_in, is_got, is_put, puts_in}
use Rattle.local_runs.specs.Handed.{Handed, HandRuns, HandSteps, IsInHand, Puts, hand_from, sending_of, taken_from}
use Rattle.local_runs.specs.Laws.{AloneIsCounted}

-- one where this is so
abbrev one_if : Bool → ℕ
one_if true = 1
one_if false = 0

-- the first of a filtered list counts where it is kept
counted : {X : Type 0} (keeps : X → Bool) (x : X) (xs : List X) → length (filter keeps (x ∷ xs)) ≡ one_if (keeps x) + length (filter keeps xs)
counted keeps x xs = by_case (keeps x)
  where
    by_case : (b : Bool) → length (if b then x ∷ filter keeps xs else filter keeps xs) ≡ one_if b + length (filter keeps xs)
    by_case true = omega arith
    by_case false = omega arith

-- ---- messages that were put

none_put : (to : ℕ) (put : List Sending) → put ≡ [] → length (sent_to to put) ≡ 0
none_put to put is = ap (λ (xs : List Sending). length (sent_to to xs)) is

put_one : (me to : ℕ) (ask : Ask) (stamp : ℕ) (before put : List Sending) → Puts me ask stamp before put → length (sent_to to put) ≡ one_if (is_put to ask)
put_one me to (asks.Do inst) stamp before put is = none_put to put is
put_one me to (asks.Send peer None) stamp before put is = none_put to put is
put_one me to (asks.Send peer (Some number)) stamp before put is =
    ap (λ (xs : List Sending). length (sent_to to xs)) is.2 ∙ counted (λ (s : Sending). eqb s.to to) (sending_of is.0) [] ∙ zero_behind (one_if (eqb is.0.to to)) ∙ ap (λ i. one_if (eqb i to)) is.1.receiver
  where
    zero_behind : (n : ℕ) → n + 0 ≡ n
    zero_behind n = omega arith
put_one me to (asks.Take from number) stamp before put is = none_put to put is
put_one me to asks.Crash stamp before put is = none_put to put is
put_one me to asks.Recover stamp before put is = none_put to put is

sent_count : (setup : Setup) (me to : ℕ) (old new : Local) (steps : List Handed) → HandRuns setup me old steps new → length (sent_to to new.standing.sendings) ≡ length (sent_to to old.standing.sendings) + puts_in to (map (λ s. s.entry) steps)
sent_count setup me to old new [] runs = let same : length (sent_to to new.standing.sendings) ≡ length (sent_to to old.standing.sendings) = ap (λ (l : Local). length (sent_to to l.standing.sendings)) runs in omega (arith, same)
sent_count setup me to old new (s ∷ steps) runs =
    let middle : Local = runs.0 in
    let step : HandSteps setup me s.hand old s.entry middle = runs.1 in
    let rest = sent_count setup me to middle new steps runs.2 in
    let here : length (sent_to to middle.standing.sendings) ≡ length (sent_to to old.standing.sendings) + length (sent_to to step.put) =
    ap (λ (xs : List Sending). length (sent_to to xs)) step.sendings ∙ ap length (filter-append (λ (q : Sending). eqb q.to to) old.standing.sendings step.put) ∙ length-append (sent_to to old.standing.sendings) (sent_to to step.put) in
    let one = put_one me to s.entry.ask s.entry.stamp old.standing.sendings step.put step.puts in
    let split = counted (λ (e : StepEntry). is_put to e.ask) s.entry (map (λ s. s.entry) steps) in
    omega (arith, rest, here, one, split)

-- ---- messages that were got

hand_none : (from : ℕ) (hand : Option Message) → hand ≡ None → length (hand_from from hand) ≡ 0
hand_none from hand is = ap (λ (h : Option Message). length (hand_from from h)) is

hand_one : (from : ℕ) (ask : Ask) (running : Running) (hand : Option Message) → IsInHand ask running hand → length (hand_from from hand) ≡ one_if (is_got from ask)
hand_one from (asks.Do inst) running hand is = hand_none from hand is
hand_one from (asks.Send to number) running hand is = hand_none from hand is
hand_one from (asks.Take peer None) running hand is = hand_none from hand is
hand_one from (asks.Take peer (Some number)) (Down pending) hand is = absurd is
hand_one from (asks.Take peer (Some number)) Up hand is =
    ap (λ (h : Option Message). length (hand_from from h)) is.1 ∙ by_case (eqb is.0.from from) ∙ ap (λ i. one_if (eqb i from)) is.2
  where
    by_case : (b : Bool) → length (if b then is.0 ∷ [] else []) ≡ one_if b
    by_case true = refl
    by_case false = refl
hand_one from asks.Crash running hand is = hand_none from hand is
hand_one from asks.Recover running hand is = hand_none from hand is

taken_count : (setup : Setup) (me from : ℕ) (old new : Local) (steps : List Handed) → HandRuns setup me old steps new → length (taken_from from steps) ≡ gots_in from (map (λ s. s.entry) steps)
taken_count setup me from old new [] runs = refl
taken_count setup me from old new (s ∷ steps) runs =
    let step : HandSteps setup me s.hand old s.entry runs.0 = runs.1 in
    let rest = taken_count setup me from runs.0 new steps runs.2 in
    let parts : length (taken_from from (s ∷ steps)) ≡ length (hand_from from s.hand) + length (taken_from from steps) =
    ap length (flat_map-cons (λ (q : Handed). hand_from from q.hand) s steps) ∙ length-append (hand_from from s.hand) (taken_from from steps) in
    let one = hand_one from s.entry.ask old.standing.running s.hand step.in_hand in
    let split = counted (λ (e : StepEntry). is_got from e.ask) s.entry (map (λ s. s.entry) steps) in
    omega (arith, rest, parts, one, split)

pub alone_counted : AloneIsCounted
alone_counted setup me up taken put entries last h = (
  λ to.
      let count = sent_count setup me to (first_local setup.replicas up) last h.steps h.runs in
      let sent : length (sent_to to last.standing.sendings) ≡ length (put to) = ap length (h.sent to) ∙ length-map (put to) sending_of in
      let are : puts_in to (map (λ s. s.entry) h.steps) ≡ puts_in to entries = ap (puts_in to) h.are in
      omega (arith, count, sent, are),
  λ from.
      let count = taken_count setup me from (first_local setup.replicas up) last h.steps h.runs in
      let took : length (taken_from from h.steps) ≡ length (taken from) = ap length (h.took from) in
      let are : gots_in from (map (λ s. s.entry) h.steps) ≡ gots_in from entries = ap (gots_in from) h.are in
      omega (arith, count, took, are),
)
