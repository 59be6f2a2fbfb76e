-- What is pending can still be kept as logs grow.
use Rattle.std.proofs.Common.{ℕ, Bool, true, false, List, [], ◌∷◌, length, subst}
use Rattle.std.specs.Prelude.{Some, None}
use Rattle.spec_model.specs.declared.plan.Setup.{Setup}
use Rattle.spec_model.specs.declared.log.Body.{Body}
use Rattle.spec_model.specs.declared.log.LogItem.{LogItem}
use Rattle.run_model.specs.declared.step.StepEntry.{StepEntry}
use Rattle.run_model.specs.Logs.{Logs, cut_after}
use Rattle.run_model.specs.Worlds.{Standing, World, Running, Up, Down, logs_of, logged, first_standing, first_running, first_world}
use Rattle.run_model.specs.Runs.{WorldSteps}
use Rattle.run_model.proofs.Lists.{each_append}
use Rattle.run_model.proofs.WorldLogs.{Extends}
use Rattle.run_model.proofs.Taken.{taken_grown}
use Rattle.run_model.proofs.Changed.{IsKept}
use Rattle.run_model.proofs.Beginning.{first_of}
use Rattle.run_model.proofs.Logging.{IsGiven, MayLog}
use Rattle.run_model.proofs.Pending.{MayLogAll, bare, IsWaiting, HasWaiting}
use Rattle.run_model.proofs.Stepped.{step_waiting, step_extends, each_after}
use Rattle.run_model.proofs.Accepted.{AreGiven, HasAccepts, given_later, accepted_after}
use Rattle.run_model.proofs.Allowed.{all_alike, one_later}

-- what may be logged may still be
may_later : (setup : Setup) (a b : Logs) (me : ℕ) (log : List LogItem) (cut : List ℕ) (what : Body) → Extends a b → AreGiven a me log → MayLog setup a me log cut what → MayLog setup b me log cut what
may_later setup a b me log cut what h given may = record {
  stands = may.stands;
  own_given = given_later a b me cut what h may.own_given;
  fresh = may.fresh;
  allowed = one_later setup a b me log cut what h may.own_given (all_alike a b me log h given) may.allowed;
}

-- and so of several items, one after the other
may_all_later : (setup : Setup) (a b : Logs) (me : ℕ) (p : Standing) (bodies : List Body) → Extends a b → AreGiven a me p.log → MayLogAll setup a me p bodies → MayLogAll setup b me p bodies
may_all_later setup a b me p [] h given all = tt
may_all_later setup a b me p (what ∷ bodies) h given all =
    let more : AreGiven a me (logged me what p).log =
    each_append (λ (i : LogItem). IsGiven a me i.deps i.body) p.log (record { origin = me; index = length p.log; deps = p.cut; body = what } ∷ []) given (all.0.own_given, tt) in
    (may_later setup a b me p.log p.cut what h given all.0, may_all_later setup a b me (logged me what p) bodies h more all.1)

-- what is pending can still be kept
waiting_later : (setup : Setup) (a b : Logs) (me : ℕ) (log : List LogItem) (cut : List ℕ) (running : Running) → Extends a b → AreGiven a me log → IsWaiting setup a me log cut running → IsWaiting setup b me log cut running
waiting_later setup a b me log cut Up h given waits = tt
waiting_later setup a b me log cut (Down None) h given waits = tt
waiting_later setup a b me log cut (Down (Some batch)) h given waits =
    let can = waits.can in
    let led = waits.led in
    record {
      can = record { items = can.items; taken = taken_grown a b me cut can.items h can.taken; draft = can.draft; grown = can.grown; is = can.is };
      led = record { bodies = led.bodies; may = may_all_later setup a b me (bare log (cut_after cut can.items)) led.bodies h given led.may; log_is = led.log_is; cut_is = led.cut_is };
    }

-- a step keeps it
pub step_waits : (setup : Setup) (n : ℕ) (w : World) (e : StepEntry) (new : World) → IsKept n w → HasWaiting setup w → HasAccepts w → WorldSteps setup w e new → HasWaiting setup new
step_waits setup n w e new kept waits accepts s =
    let logs : Logs = logs_of w in
    let longer = step_extends setup n w e new kept s in
    record {
      each = each_after setup w e new s (λ i p. IsWaiting setup (logs_of new) i p.log p.cut p.running)
          (waiting_later setup logs (logs_of new) e.replica s.after.log s.after.cut s.after.running longer (accepted_after setup n w e new kept waits accepts s).0 (step_waiting setup n w e new kept waits s))
          (λ i p was. waiting_later setup logs (logs_of new) i p.log p.cut p.running longer (accepts.each i p was).0 (waits.each i p was));
    }

-- at first nothing is pending
first_waiting : (setup : Setup) (logs : Logs) (me : ℕ) (log : List LogItem) (cut : List ℕ) (up : Bool) → IsWaiting setup logs me log cut (first_running up)
first_waiting setup logs me log cut true = tt
first_waiting setup logs me log cut false = tt

pub waits_first : (setup : Setup) (n : ℕ) (ups : List Bool) → HasWaiting setup (first_world n ups)
waits_first setup n ups = record {
  each = λ i p is.
      let f = first_of n ups i p is in
      subst (λ (q : Standing). IsWaiting setup (logs_of (first_world n ups)) i q.log q.cut q.running) f.1 (first_waiting setup (logs_of (first_world n ups)) i (first_standing n f.0).log (first_standing n f.0).cut f.0);
}
