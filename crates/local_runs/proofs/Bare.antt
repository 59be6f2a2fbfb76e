-- A replica that is down puts no message, and gets none.
use Rattle.std.proofs.Common.{◌≡◌, inl, inr, ℕ, List, [], ◌∷◌, ◌++◌, refl, sym, ap, subst, ◌∙◌}
use Rattle.std.specs.Prelude.{Option, Some, None}
use Rattle.spec_model.specs.declared.plan.Setup.{Setup}
use Rattle.spec_model.specs.declared.log.LogItem.{LogItem}
use Rattle.run_model.specs.declared.message.Message.{Message}
use Rattle.run_model.specs.declared.step.Ask.{Ask}
use Rattle.run_model.specs.declared.step.Ask.TheVariants as asks
use Rattle.run_model.specs.declared.step.Outcome.{Outcome}
use Rattle.run_model.specs.declared.step.Outcome.TheVariants as outcomes
use Rattle.run_model.specs.declared.step.StepEntry.{StepEntry}
use Rattle.run_model.specs.Locals.{Local, LocalSteps}
use Rattle.run_model.specs.Logs.{Logs, with_all}
use Rattle.run_model.specs.Steps.{Answers, Ends}
use Rattle.run_model.specs.Worlds.{Running, Up, Down, Sending, Standing}
use Rattle.local_runs.specs.Alone.{IsBare, IsBareWhereDown}
use Rattle.local_runs.specs.Handed.{HandSteps, IsInHand, Puts, heard_of, sending_of}

-- a step that would not answer that it is down doesn't
ends_up : (n : ℕ) (admitted : List LogItem) (would : Outcome) (old draft : Standing) (applied : List LogItem) (outcome : Outcome) (new : Standing) → Ends n admitted would old draft applied outcome new → (would ≡ outcomes.Down → ⊥) → outcome ≡ outcomes.Down → ⊥
ends_up n admitted would old draft applied outcome new (inl kept) never down = never (sym kept.1 ∙ down)
ends_up n admitted would old draft applied outcome new (inr broken) never down = differ (sym broken.3 ∙ down)
  where
    differ : outcomes.DiskBroken ≡ outcomes.Down → ⊥
    differ is = cc

last_same : {X : Type 0} (xs : List X) (a b : X) → xs ++ a ∷ [] ≡ xs ++ b ∷ [] → a ≡ b
last_same [] a b is = cc
last_same (x ∷ xs) a b is = last_same xs a b (rest is)
  where
    rest : x ∷ (xs ++ a ∷ []) ≡ x ∷ (xs ++ b ∷ []) → xs ++ a ∷ [] ≡ xs ++ b ∷ []
    rest same = cc

-- a send that puts a message is of a replica that is up
no_send_down : (setup : Setup) (logs : Logs) (me to number stamp : ℕ) (running : Running) (admitted applied : List LogItem) (old after : Standing) (put : List Sending) (outcome : Outcome)
    → Answers setup logs me running None admitted applied stamp (asks.Send to (Some number)) old outcome after → Puts me (asks.Send to (Some number)) stamp old.sendings put → after.sendings ≡ old.sendings ++ put → outcome ≡ outcomes.Down → ⊥
no_send_down setup logs me to number stamp Up admitted applied old after put outcome answers puts sends down =
    ends_up setup.replicas admitted answers.would old answers.draft applied outcome after answers.ends (λ is. differ (sym answers.drafts.1.outcome_is ∙ is)) down
  where
    differ : {a b c : ℕ} → outcomes.Sent a b c ≡ outcomes.Down → ⊥
    differ is = cc
no_send_down setup logs me to number stamp (Down pending) admitted applied old after put outcome answers puts sends down =
    let none = answers.1.1 in
    let both : old.sendings ++ record { to = to; stamp = stamp; message = None } ∷ [] ≡ old.sendings ++ sending_of puts.0 ∷ [] =
    sym (ap (λ (p : Standing). p.sendings) none.becomes) ∙ sends ∙ ap (λ (xs : List Sending). old.sendings ++ xs) puts.2 in
    differ puts.0 (ap (λ (s : Sending). s.message) (last_same old.sendings (record { to = to; stamp = stamp; message = None }) (sending_of puts.0) both))
  where
    differ : (m : Message) → None ≡ Some m → ⊥
    differ m is = cc

-- a take that gets a message is of a replica that is up
no_take_down : (setup : Setup) (logs : Logs) (me from number stamp : ℕ) (running : Running) (hand : Option Message) (admitted applied : List LogItem) (old after : Standing) (outcome : Outcome)
    → IsInHand (asks.Take from (Some number)) running hand → Answers setup logs me running (heard_of hand) admitted applied stamp (asks.Take from (Some number)) old outcome after → outcome ≡ outcomes.Down → ⊥
no_take_down setup logs me from number stamp (Down pending) hand admitted applied old after outcome in_hand answers down = absurd in_hand
no_take_down setup logs me from number stamp Up hand admitted applied old after outcome in_hand answers down =
    let taken = subst (λ (h : Option Message). Answers setup logs me Up (heard_of h) admitted applied stamp (asks.Take from (Some number)) old outcome after) in_hand.1 answers in
    ends_up setup.replicas admitted taken.would old taken.draft applied outcome after taken.ends (λ is. differ (sym taken.drafts.outcome_is ∙ is)) down
  where
    differ : {a b c d : ℕ} → outcomes.Took a b c d ≡ outcomes.Down → ⊥
    differ is = cc

-- it answers so to an ask, with this in hand
abbrev AnswersTo : Setup → Logs → ℕ → List LogItem → List LogItem → Standing → StepEntry → Standing → Option Message → Ask → Type 0
AnswersTo setup logs me admitted applied old e after hand ask = Answers setup logs me old.running (heard_of hand) admitted applied e.stamp ask old e.outcome after

pub bare_step : (setup : Setup) (me : ℕ) (hand : Option Message) (old : Local) (e : StepEntry) (new : Local) → HandSteps setup me hand old e new → LocalSteps setup me (heard_of hand) old e new → IsBareWhereDown e
bare_step setup me hand old e new step local down = by_ask e.ask refl
  where
    sends : local.steps.after.sendings ≡ old.standing.sendings ++ step.put
    sends = sym (ap (λ (p : Standing). p.sendings) local.steps.becomes) ∙ step.sendings

    by_ask : (ask : Ask) → e.ask ≡ ask → IsBare ask
    by_ask (asks.Do inst) is = tt
    by_ask (asks.Send to None) is = tt
    by_ask (asks.Send to (Some number)) is =
        let none : hand ≡ None = subst (λ a. IsInHand a old.standing.running hand) is step.in_hand in
        no_send_down setup _ me to number e.stamp old.standing.running local.admitted local.applied old.standing local.steps.after step.put e.outcome
        (subst (λ h. AnswersTo setup (with_all local.admitted old.known) me local.admitted local.applied old.standing e local.steps.after h (asks.Send to (Some number))) none
        (subst (AnswersTo setup (with_all local.admitted old.known) me local.admitted local.applied old.standing e local.steps.after hand) is local.steps.answers)) (subst (λ a. Puts me a e.stamp old.standing.sendings step.put) is step.puts) sends down
    by_ask (asks.Take from None) is = tt
    by_ask (asks.Take from (Some number)) is =
        no_take_down setup _ me from number e.stamp old.standing.running hand local.admitted local.applied old.standing local.steps.after e.outcome
        (subst (λ a. IsInHand a old.standing.running hand) is step.in_hand) (subst (AnswersTo setup (with_all local.admitted old.known) me local.admitted local.applied old.standing e local.steps.after hand) is local.steps.answers) down
    by_ask asks.Crash is = tt
    by_ask asks.Recover is = tt
