-- What a replica logged, wants and sent, and what is pending of it, fits after each answer, whether it is up or down.
use Rattle.std.proofs.Common.{◌≡◌, inl, inr, ℕ, List, [], ◌∷◌, sym, subst, arith}
use Rattle.std.specs.Prelude.{Some, None, Option}
use Rattle.spec_model.specs.declared.plan.Setup.{Setup}
use Rattle.spec_model.specs.declared.log.LogItem.{LogItem}
use Rattle.run_model.specs.declared.batch.Batch.{Batch}
use Rattle.run_model.specs.declared.step.Ask.{Ask}
use Rattle.run_model.specs.declared.step.Ask.TheVariants as asks
use Rattle.run_model.specs.declared.step.Outcome.{Outcome}
use Rattle.run_model.specs.Logs.{Logs}
use Rattle.run_model.specs.Steps.{Answers, AnswersDown, Finds}
use Rattle.run_model.specs.Worlds.{Down, Running, Sending, Standing, Up, own_of}
use Rattle.run_model.proofs.Lists.{each_append}
use Rattle.message_laws.specs.Laws.{NeedsFit}
use Rattle.message_laws.proofs.Answered.{SendingFits, StandsFit}
use Rattle.message_laws.proofs.Drafted.{IsBefore, IsFit, WaitsFit, forgotten_fits, up_fits}
use Rattle.message_laws.proofs.Logged.{ItemNames}

-- a recovery, which may keep what is pending
finds_fit : (setup : Setup) (me : ℕ) (pending : Option Batch) (applied : List LogItem) (old : Standing) (outcome : Outcome) (new : Standing) → StandsFit setup old → WaitsFit setup me (Down pending) → Finds setup.replicas me pending applied old outcome new → IsFit setup me new
finds_fit setup me None applied old outcome new h waits finds = subst (IsFit setup me) (sym finds.2) (record { stands = forgotten_fits setup Up old h; waits = tt })
finds_fit setup me (Some batch) applied old outcome new h waits finds =
    elim finds [
      | inl kept ↦ subst (IsFit setup me) (sym kept.2) (record {
        stands = record { log = each_append (ItemNames setup) old.log (own_of me batch.items) h.log waits; wants = tt; few = omega arith; sent = h.sent };
        waits = tt;
      })
      | inr lost ↦ subst (IsFit setup me) (sym lost.2) (record { stands = forgotten_fits setup Up old h; waits = tt })
    ]

-- after each answer
down_fits : (setup : Setup) (me : ℕ) (pending : Option Batch) (applied : List LogItem) (stamp : ℕ) (ask : Ask) (old : Standing) (outcome : Outcome) (new : Standing) → IsFit setup me old → old.running ≡ Down pending
    → AnswersDown setup.replicas me pending applied stamp ask old outcome new → IsFit setup me new
down_fits setup me pending applied stamp (asks.Do inst) old outcome new h runs rests = subst (IsFit setup me) (sym rests.2) h
down_fits setup me pending applied stamp (asks.Send to (Some number)) old outcome new h runs sends =
    let sent : Sending = record { to = to; stamp = stamp; message = None } in
    let none : SendingFits setup sent = λ message wrong. absurd cc in
    subst (IsFit setup me) (sym sends.1.becomes) (record {
      stands = record { log = h.stands.log; wants = h.stands.wants; few = h.stands.few; sent = each_append (SendingFits setup) old.sendings (sent ∷ []) h.stands.sent (none, tt) };
      waits = h.waits;
    })
down_fits setup me pending applied stamp (asks.Send to None) old outcome new h runs rests = subst (IsFit setup me) (sym rests.2) h
down_fits setup me pending applied stamp (asks.Take from number) old outcome new h runs rests = subst (IsFit setup me) (sym rests.2) h
down_fits setup me pending applied stamp asks.Crash old outcome new h runs rests = subst (IsFit setup me) (sym rests.2) h
down_fits setup me pending applied stamp asks.Recover old outcome new h runs recovers =
    elim recovers [
      | inl finds ↦ finds_fit setup me pending applied old outcome new h.stands (subst (WaitsFit setup me) runs h.waits) finds
      | inr failed ↦ subst (IsFit setup me) (sym failed.2) h
    ]

-- ---- each replica

pub answers_fit : NeedsFit → (setup : Setup) (logs : Logs) (me : ℕ) (running : Running) (stamp : ℕ) (heard : Option Sending) (admitted applied : List LogItem) (ask : Ask) (old : Standing) (outcome : Outcome) (new : Standing) → IsBefore setup logs me heard admitted ask old
    → old.running ≡ running → Answers setup logs me running heard admitted applied stamp ask old outcome new → IsFit setup me new
answers_fit need setup logs me Up stamp heard admitted applied ask old outcome new h runs answers = up_fits need setup logs me stamp heard admitted applied ask old outcome new h runs answers
answers_fit need setup logs me (Down pending) stamp heard admitted applied ask old outcome new h runs answers = down_fits setup me pending applied stamp ask old outcome new h.fits runs answers.1
