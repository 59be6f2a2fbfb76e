-- The numbers of the messages that a replica by itself put and got.
use Rattle.std.proofs.Common.{◌≡◌, ℕ, zero, suc, eqb, Bool, true, false, List, [], ◌∷◌, ◌++◌, map, refl, sym, ap, ◌∙◌}
use Rattle.std.specs.Prelude.{slice_get, Option, Some, None, if◌then◌else◌}
use Rattle.std.proofs.lemmas.List.{map-append}
use Rattle.std.proofs.lemmas.List.Concat.{flat_map-cons}
use Rattle.spec_model.specs.declared.plan.Setup.{Setup}
use Rattle.run_model.specs.declared.message.Message.{Message}
use Rattle.run_model.specs.declared.step.Ask.{Ask}
use Rattle.run_model.specs.declared.step.Ask.TheVariants as asks
use Rattle.run_model.specs.declared.step.StepEntry.{StepEntry}
use Rattle.run_model.specs.Locals.{Local, first_local}
use Rattle.run_model.specs.Worlds.{Running, Up, Down, Sending}
use Rattle.local_runs.specs.Alone.{number_got, numbers_got}
use Rattle.local_runs.specs.Handed.{HandRuns, HandSteps, Handed, IsInHand, hand_from, sending_of, taken_from}
use Rattle.local_runs.specs.Laws.{AloneIsNumbered}
use Rattle.local_runs.proofs.Sendings.{AreNumbered, sends_numbered}

abbrev numbers_of : List Message → List ℕ
numbers_of messages = map (λ (m : Message). m.number) messages

none_got : (from : ℕ) (hand : Option Message) → hand ≡ None → [] ≡ numbers_of (hand_from from hand)
none_got from hand is = sym (ap (λ (h : Option Message). numbers_of (hand_from from h)) is)

-- the number that an ask has is that of the message in hand
hand_number : (from : ℕ) (ask : Ask) (running : Running) (hand : Option Message) → IsInHand ask running hand → number_got from ask ≡ numbers_of (hand_from from hand)
hand_number from (asks.Do inst) running hand is = none_got from hand is
hand_number from (asks.Send to number) running hand is = none_got from hand is
hand_number from (asks.Take peer None) running hand is = none_got from hand is
hand_number from (asks.Take peer (Some number)) (Down pending) hand is = absurd is
hand_number from (asks.Take peer (Some number)) Up hand is =
    sym (ap (λ (h : Option Message). numbers_of (hand_from from h)) is.1
    ∙ by_case (eqb is.0.from from)
    ∙ ap (λ i. if eqb i from then is.0.number ∷ [] else []) is.2
    ∙ ap (λ (k : ℕ). if eqb peer from then k ∷ [] else []) is.3)
  where
    by_case : (b : Bool) → numbers_of (if b then is.0 ∷ [] else []) ≡ (if b then is.0.number ∷ [] else [])
    by_case true = refl
    by_case false = refl
hand_number from asks.Crash running hand is = none_got from hand is
hand_number from asks.Recover running hand is = none_got from hand is

numbers_taken : (setup : Setup) (me from : ℕ) (old new : Local) (steps : List Handed) → HandRuns setup me old steps new → numbers_got from (map (λ (s : Handed). s.entry) steps) ≡ numbers_of (taken_from from steps)
numbers_taken setup me from old new [] runs = refl
numbers_taken setup me from old new (s ∷ steps) runs =
    let step : HandSteps setup me s.hand old s.entry runs.0 = runs.1 in
    let es : List StepEntry = map (λ (q : Handed). q.entry) steps in
    flat_map-cons (λ (e : StepEntry). number_got from e.ask) s.entry es
    ∙ ap (λ (ks : List ℕ). ks ++ numbers_got from es) (hand_number from s.entry.ask old.standing.running s.hand step.in_hand)
    ∙ ap (λ (ks : List ℕ). numbers_of (hand_from from s.hand) ++ ks) (numbers_taken setup me from runs.0 new steps runs.2)
    ∙ sym (map-append (λ (m : Message). m.number) (hand_from from s.hand) (taken_from from steps))
    ∙ sym (ap numbers_of (flat_map-cons (λ (q : Handed). hand_from from q.hand) s steps))

get_map : {X Y : Type 0} (f : X → Y) (xs : List X) (k : ℕ) (x : X) → slice_get xs k ≡ Some x → slice_get (map f xs) k ≡ Some (f x)
get_map f [] k x is = absurd cc
get_map f (y ∷ xs) zero x is = let same : y ≡ x = cc in ap (λ z. Some (f z)) same
get_map f (y ∷ xs) (suc k) x is = get_map f xs k x is

nothing_numbered : AreNumbered []
nothing_numbered to k s m at is = absurd cc

pub alone_numbered : AloneIsNumbered
alone_numbered setup me up taken put entries last h = (
  λ to k m at.
      sends_numbered setup me (first_local setup.replicas up) last h.steps nothing_numbered h.runs to k (sending_of m) m (ap (λ (l : List Sending). slice_get l k) (h.sent to) ∙ get_map sending_of (put to) k m at) refl,
  λ from. sym (ap (numbers_got from) h.are) ∙ numbers_taken setup me from (first_local setup.replicas up) last h.steps h.runs ∙ ap numbers_of (h.took from),
)
