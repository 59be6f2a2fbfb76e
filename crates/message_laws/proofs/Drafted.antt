-- What a replica that is up logged, wants and sent, and what is pending of it, fits after each answer.
use Rattle.std.proofs.Common.{◌≡◌, inl, inr, ℕ, ◌+◌, ◌<◌, ◌^◌, List, length, sym, subst, ◌∙◌, refl, arith}
use Rattle.std.specs.Prelude.{Some, None, Option}
use Rattle.std.specs.List.{AllByRecursion}
use Rattle.spec_model.specs.declared.plan.Setup.{Setup}
use Rattle.spec_model.specs.declared.log.LogItem.{LogItem}
use Rattle.spec_model.specs.Breaks.{broken_by}
use Rattle.spec_model.specs.Needs.{needs}
use Rattle.run_model.specs.declared.batch.Batch.{Batch}
use Rattle.run_model.specs.declared.message.Message.{Message}
use Rattle.run_model.specs.declared.step.Ask.{Ask}
use Rattle.run_model.specs.declared.step.Ask.TheVariants as asks
use Rattle.run_model.specs.declared.step.Outcome.{Outcome}
use Rattle.run_model.specs.Fitting.{DoFits, SetupFits}
use Rattle.run_model.specs.Levels.{first_lacking}
use Rattle.run_model.specs.Logs.{Logs, cut_after}
use Rattle.run_model.specs.Steps.{AnswersUp, Drafts, TakesSent}
use Rattle.run_model.specs.Worlds.{Down, Running, Sending, Standing, Up, forgotten, holding, items_between, own_of, truths_seen}
use Rattle.run_model.proofs.Answers.{drafts_grown, drafts_running}
use Rattle.run_model.proofs.Batched.{batch_items, can_grow}
use Rattle.run_model.proofs.Changed.{IsWell}
use Rattle.run_model.proofs.Taken.{IsTaken, taken_later}
use Rattle.message_laws.specs.Laws.{NeedsFit}
use Rattle.message_laws.proofs.Answered.{SendingFits, StandsFit, requested_fits, sends_fit, takes_fit}
use Rattle.message_laws.proofs.Lists.{each_parts}
use Rattle.message_laws.proofs.Logged.{ItemNames, LogNames}

-- ---- what is kept

-- the items of its own in a batch that is pending fit, but for the size of pieces
abbrev pub WaitsFit : Setup → ℕ → Running → Type 0
WaitsFit setup me Up = Unit {0}
WaitsFit setup me (Down None) = Unit {0}
WaitsFit setup me (Down (Some batch)) = AllByRecursion (ItemNames setup) (own_of me batch.items)

-- and so does what it logged, wants and sent
pub record IsFit (setup : Setup) (me : ℕ) (p : Standing) : Type 0 where
  pub stands : StandsFit setup p
  pub waits : WaitsFit setup me p.running

-- also where what was wanted and told is lost
pub forgotten_fits : (setup : Setup) (running : Running) (p : Standing) → StandsFit setup p → StandsFit setup (forgotten setup.replicas running p)
forgotten_fits setup running p h = record { log = h.log; wants = tt; few = omega arith; sent = h.sent }

-- ---- a replica that is up

-- how a replica stands before a step, what it has in hand, and what it admits of that
pub record IsBefore (setup : Setup) (logs : Logs) (me : ℕ) (heard : Option Sending) (admitted : List LogItem) (ask : Ask) (old : Standing) : Type 0 where
  pub well : SetupFits setup
  pub place : me < setup.replicas
  pub asked : DoFits setup.spec ask
  pub stands : IsWell setup.replicas logs me old
  pub fits : IsFit setup me old
  pub room : length old.log + 24 < 2 ^ 32
  pub tried : IsTaken logs me old.cut admitted
  pub sent : (s : Sending) → heard ≡ Some s → SendingFits setup s

-- what it logged
own_names : (setup : Setup) (logs : Logs) (me : ℕ) (heard : Option Sending) (admitted : List LogItem) (ask : Ask) (old : Standing) → IsBefore setup logs me heard admitted ask old → LogNames setup me old
own_names setup logs me heard admitted ask old h = record { place = h.place; wide = h.stands.wide; log = h.fits.stands.log }

-- a draft fits
drafts_fit : NeedsFit → (setup : Setup) (logs : Logs) (me stamp : ℕ) (old : Standing) (outcome : Outcome) (new : Standing) (heard : Option Sending) (admitted : List LogItem) (ask : Ask) → IsBefore setup logs me heard admitted ask old
    → Drafts setup logs me heard admitted stamp ask old outcome new → StandsFit setup new
drafts_fit need setup logs me stamp old outcome new None admitted (asks.Do inst) h drafts =
    requested_fits need setup logs me inst (broken_by setup.spec (truths_seen setup logs old) inst) (first_lacking setup.replicas (holding setup logs me old) (needs setup (truths_seen setup logs old) inst)) old outcome new h.well h.asked
    (own_names setup logs me None admitted (asks.Do inst) old h) h.fits.stands (omega (arith, h.room)) refl drafts.1
drafts_fit need setup logs me stamp old outcome new None admitted (asks.Send to (Some number)) h drafts =
    sends_fit setup logs me to number stamp old outcome new (own_names setup logs me None admitted (asks.Send to (Some number)) old h) h.stands.stands.own h.fits.stands drafts.1
drafts_fit need setup logs me stamp old outcome new None admitted (asks.Send to None) h drafts = absurd drafts
drafts_fit need setup logs me stamp old outcome new None admitted (asks.Take from (Some number)) h drafts = absurd drafts
drafts_fit need setup logs me stamp old outcome new None admitted (asks.Take from None) h drafts = subst (StandsFit setup) (sym drafts.2) h.fits.stands
drafts_fit need setup logs me stamp old outcome new None admitted asks.Crash h drafts = subst (StandsFit setup) (sym drafts.2) (forgotten_fits setup (Down None) old h.fits.stands)
drafts_fit need setup logs me stamp old outcome new None admitted asks.Recover h drafts = subst (StandsFit setup) (sym drafts.2) h.fits.stands
drafts_fit need setup logs me stamp old outcome new (Some s) admitted (asks.Do inst) h drafts = absurd drafts
drafts_fit need setup logs me stamp old outcome new (Some s) admitted (asks.Send to number) h drafts = absurd drafts
drafts_fit need setup logs me stamp old outcome new (Some s) admitted (asks.Take from (Some number)) h drafts = sent_or_not s.message refl drafts
  where
    long : length (cut_after old.cut admitted) ≡ length old.cut
    long = (taken_later logs me old.cut admitted h.tried h.stands.within).0.long

    sent_or_not : (m : Option Message) → s.message ≡ m → TakesSent setup logs me m admitted old outcome new → StandsFit setup new
    sent_or_not None is takes = subst (StandsFit setup) (sym takes.2) h.fits.stands
    sent_or_not (Some message) is takes =
        takes_fit setup logs me s.to message admitted old outcome new (own_names setup logs me (Some s) admitted (asks.Take from (Some number)) old h) long (h.sent s refl message is) h.fits.stands h.room takes
drafts_fit need setup logs me stamp old outcome new (Some s) admitted (asks.Take from None) h drafts = absurd drafts
drafts_fit need setup logs me stamp old outcome new (Some s) admitted asks.Crash h drafts = absurd drafts
drafts_fit need setup logs me stamp old outcome new (Some s) admitted asks.Recover h drafts = absurd drafts

-- the batch of a draft that fits
batch_fits : (setup : Setup) (logs : Logs) (me stamp : ℕ) (heard : Option Sending) (admitted : List LogItem) (ask : Ask) (old : Standing) (would : Outcome) (draft : Standing) (batch : Batch) → IsBefore setup logs me heard admitted ask old
    → Drafts setup logs me heard admitted stamp ask old would draft → batch.items ≡ items_between admitted old draft → AllByRecursion (ItemNames setup) draft.log → AllByRecursion (ItemNames setup) (own_of me batch.items)
batch_fits setup logs me stamp heard admitted ask old would draft batch h drafts is fits =
    let stands = h.stands.stands in
    let later = (taken_later logs me old.cut admitted h.tried h.stands.within).0 in
    let grown = drafts_grown setup logs me stamp old would draft heard admitted ask stands later drafts in
    let whole = can_grow logs me old.log old.cut batch.items stands h.stands.within (record { items = admitted; taken = h.tried; draft = draft; grown = grown; is = is }) in
    (each_parts (ItemNames setup) old.log (own_of me batch.items) (subst (AllByRecursion (ItemNames setup)) (sym whole.log_is) fits)).1

-- after each answer, whether its batch is kept or pending
pub up_fits : NeedsFit → (setup : Setup) (logs : Logs) (me stamp : ℕ) (heard : Option Sending) (admitted applied : List LogItem) (ask : Ask) (old : Standing) (outcome : Outcome) (new : Standing) → IsBefore setup logs me heard admitted ask old → old.running ≡ Up
    → AnswersUp setup logs me heard admitted applied stamp ask old outcome new → IsFit setup me new
up_fits need setup logs me stamp heard admitted applied ask old outcome new h runs answers =
    let draft : Standing = answers.draft in
    let fits : StandsFit setup draft = drafts_fit need setup logs me stamp old answers.would draft heard admitted ask h answers.drafts in
    elim answers.ends [
      | inl whole ↦
          let nothing : WaitsFit setup me draft.running = elim (drafts_running setup logs me stamp old answers.would draft heard admitted ask answers.drafts) [
            | inl same ↦ subst (WaitsFit setup me) (sym (same ∙ runs)) tt
            | inr down ↦ subst (WaitsFit setup me) (sym down) tt
          ] in
          subst (IsFit setup me) (sym whole.2) (record { stands = fits; waits = nothing })
      | inr broken ↦
          let batch : Batch = broken.0 in
          let waits = batch_fits setup logs me stamp heard admitted ask old answers.would draft batch h answers.drafts (batch_items (items_between admitted old draft) batch broken.1) fits.log in
          subst (IsFit setup me) (sym broken.4) (record { stands = forgotten_fits setup (Down (Some batch)) old h.fits.stands; waits = waits })
    ]
