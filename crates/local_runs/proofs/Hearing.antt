-- What is in hand is what was sent.
use Rattle.std.proofs.Common.{◌≡◌, ℕ, List, [], refl, sym, ap, subst, ◌∙◌}
use Rattle.std.specs.Prelude.{slice_get, slice_index_or, Option, Some, None}
use Rattle.spec_model.specs.declared.plan.Setup.{Setup}
use Rattle.run_model.specs.declared.message.Message.{Message}
use Rattle.run_model.specs.declared.step.Ask.{Ask}
use Rattle.run_model.specs.declared.step.Ask.TheVariants as asks
use Rattle.run_model.specs.Fitting.{DoFits}
use Rattle.run_model.specs.Steps.{Hears}
use Rattle.run_model.specs.Worlds.{Running, Up, Down, Sending, sent_to}
use Rattle.local_runs.specs.Handed.{AskFits, IsInHand, IsPeer, heard_of, sending_of}

-- this message stands on these links, where its number says
abbrev pub IsSent : List (List Sending) → ℕ → Message → Type 0
IsSent links me m = slice_get (sent_to me (slice_index_or links m.from [])) m.number ≡ Some (sending_of m)

no_message : (hand : Option Message) (m : Message) → hand ≡ None → hand ≡ Some m → ⊥
no_message hand m none some = cc

-- a message in hand is from another replica
pub from_peer : (setup : Setup) (me : ℕ) (ask : Ask) (running : Running) (hand : Option Message) (m : Message) → AskFits setup me ask → IsInHand ask running hand → hand ≡ Some m → IsPeer setup me m.from
from_peer setup me (asks.Do inst) running hand m fits in_hand is = absurd (no_message hand m in_hand is)
from_peer setup me (asks.Send to number) running hand m fits in_hand is = absurd (no_message hand m in_hand is)
from_peer setup me (asks.Take from None) running hand m fits in_hand is = absurd (no_message hand m in_hand is)
from_peer setup me (asks.Take from (Some number)) (Down pending) hand m fits in_hand is = absurd in_hand
from_peer setup me (asks.Take from (Some number)) Up hand m fits in_hand is =
    let same : in_hand.0 ≡ m = some_same in_hand.0 m (sym in_hand.1 ∙ is) in
    subst (IsPeer setup me) (sym in_hand.2 ∙ ap (λ (x : Message). x.from) same) fits
  where
    some_same : (a b : Message) → Some a ≡ Some b → a ≡ b
    some_same a b eq = cc
from_peer setup me asks.Crash running hand m fits in_hand is = absurd (no_message hand m in_hand is)
from_peer setup me asks.Recover running hand m fits in_hand is = absurd (no_message hand m in_hand is)

-- only a replica that is up has one
pub up_with_one : (ask : Ask) (running : Running) (hand : Option Message) (m : Message) → IsInHand ask running hand → hand ≡ Some m → running ≡ Up
up_with_one (asks.Do inst) running hand m in_hand is = absurd (no_message hand m in_hand is)
up_with_one (asks.Send to number) running hand m in_hand is = absurd (no_message hand m in_hand is)
up_with_one (asks.Take from None) running hand m in_hand is = absurd (no_message hand m in_hand is)
up_with_one (asks.Take from (Some number)) (Down pending) hand m in_hand is = absurd in_hand
up_with_one (asks.Take from (Some number)) Up hand m in_hand is = refl
up_with_one asks.Crash running hand m in_hand is = absurd (no_message hand m in_hand is)
up_with_one asks.Recover running hand m in_hand is = absurd (no_message hand m in_hand is)

-- what is in hand is heard, where it was sent
pub hand_is_heard : (links : List (List Sending)) (me : ℕ) (ask : Ask) (running : Running) (hand : Option Message) → IsInHand ask running hand → ((m : Message) → hand ≡ Some m → IsSent links me m) → Hears links me ask running (heard_of hand)
hand_is_heard links me (asks.Do inst) running hand in_hand sent = ap heard_of in_hand
hand_is_heard links me (asks.Send to number) running hand in_hand sent = ap heard_of in_hand
hand_is_heard links me (asks.Take from None) running hand in_hand sent = ap heard_of in_hand
hand_is_heard links me (asks.Take from (Some number)) (Down pending) hand in_hand sent = absurd in_hand
hand_is_heard links me (asks.Take from (Some number)) Up hand in_hand sent =
    let m : Message = in_hand.0 in (
      sending_of m,
      subst (λ k. slice_get (sent_to me (slice_index_or links from [])) k ≡ Some (sending_of m)) in_hand.3
          (subst (λ i. slice_get (sent_to me (slice_index_or links i [])) m.number ≡ Some (sending_of m)) in_hand.2 (sent m in_hand.1)),
      ap heard_of in_hand.1,
    )
hand_is_heard links me asks.Crash running hand in_hand sent = ap heard_of in_hand
hand_is_heard links me asks.Recover running hand in_hand sent = ap heard_of in_hand

-- an instance that is asked for fits
pub do_fits : (setup : Setup) (me : ℕ) (ask : Ask) → AskFits setup me ask → DoFits setup.spec ask
do_fits setup me (asks.Do inst) fits = fits
do_fits setup me (asks.Send to number) fits = tt
do_fits setup me (asks.Take from number) fits = tt
do_fits setup me asks.Crash fits = tt
do_fits setup me asks.Recover fits = tt
