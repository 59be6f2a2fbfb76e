-- The first state of a course, and how long its logs get.
use Rattle.std.proofs.Common.{◌≡◌, ℕ, zero, suc, ◌<◌, ◌≤◌, List, [], ◌∷◌, length, map, refl, sym, ap, subst, ◌∙◌, arith}
use Rattle.std.specs.Prelude.{Bool, true, false, None, Some}
use Rattle.spec_model.specs.declared.plan.Setup.{Setup}
use Rattle.spec_model.specs.declared.log.LogItem.{LogItem}
use Rattle.run_model.specs.declared.batch.Batch.{Batch}
use Rattle.run_model.specs.declared.step.StepEntry.{StepEntry}
use Rattle.run_model.specs.Fitting.{SetupFits}
use Rattle.run_model.specs.Locals.{Local}
use Rattle.run_model.specs.Logs.{Logs, log_at}
use Rattle.run_model.specs.Worlds.{Down, Standing, first_standing, no_cut, no_told}
use Rattle.run_model.proofs.Joined.{no_logs_at}
use Rattle.causal_store.specs.Stores.{IsShort}
use Rattle.replica_core.specs.Recovered.{HasCommitted, no_logs}
use Rattle.replica_core.specs.Replicas.{IsReplica, known_to}
use Rattle.replica_core.specs.declared.replica.Replica.{Replica}
use Rattle.replica_core.proofs.Growing.{logs_long}
use Rattle.replica_core.proofs.Replayed.{logs_short, none_long}
use Rattle.replica_course.specs.Courses.{IsCourse, IsFirst, IsState}
use Rattle.replica_course.specs.Parts.{IsBegun}
use Rattle.replica_course.specs.declared.course.Course.{Course}
use Rattle.replica_course.specs.declared.course.State.{State}
use Rattle.replica_course.specs.declared.course.State.TheVariants as states
use Rattle.replica_course.proofs.Seen.{committed_up}
use Rattle.replica_course.proofs.Upright.{local_seen}

-- ---- before the first step

abbrev first : ℕ → Bool → State → Course
first me up state = record { me = me; stamp = 0; first_up = up; entries = []; kept = []; state = state }

first_own : (setup : Setup) (me : ℕ) (up : Bool) (state : State) → SetupFits setup → me < setup.replicas → setup.replicas ≤ 8 → IsState setup me [] state → IsCourse setup me (first me up state)
first_own setup me up state fits within few here = record { me_is = refl; within = within; few = few; fits = fits; committed = tt; few_kept = omega arith; state = here }

counts_none : (n : ℕ) → map (λ (log : List LogItem). length log) (no_logs n) ≡ no_cut n
counts_none zero = refl
counts_none (suc n) = ap (λ (l : List ℕ). 0 ∷ l) (counts_none n)

begun : (setup : Setup) (me : ℕ) (up : Bool) (state : State) → SetupFits setup → me < setup.replicas → setup.replicas ≤ 8 → IsBegun setup me up state → IsFirst setup me up (first me up state)
begun setup me true (states.Up r) fits within few h =
    let committed : HasCommitted setup [] r = record { own = subst (λ i. IsReplica setup i r) (sym h.0.me_is) h.0; decided = tt; knows = h.2 } in
    let both : Standing → Logs → Local = λ p known. record { standing = p; known = known } in
    record {
      own = first_own setup me true (states.Up r) fits within few (h.0.me_is, committed);
      first_up = refl;
      stands = local_seen setup [] (first me true (states.Up r)) r refl h.0.me_is committed ∙ ap (λ (p : Standing). both p (known_to r)) h.1 ∙ ap (both (first_standing setup.replicas true)) h.2;
      entries = refl;
    }
begun setup me true (states.Down pending) fits within few h = absurd h
begun setup me false (states.Up r) fits within few h = absurd h
begun setup me false (states.Down None) fits within few h =
    let n : ℕ = setup.replicas in
    let at : List LogItem → List ℕ → Local = λ log cut. record {
      standing = record { log = log; cut = cut; stamp = 0; wants = []; told = no_told n; sendings = []; running = Down None; kept = [] };
      known = no_logs n;
    } in
    record {
      own = first_own setup me false (states.Down None) fits within few tt;
      first_up = refl;
      stands = ap (λ (l : List LogItem). at l (map (λ (log : List LogItem). length log) (no_logs n))) (no_logs_at n me) ∙ ap (at []) (counts_none n);
      entries = refl;
    }
begun setup me false (states.Down (Some batch)) fits within few h = absurd h

pub begun_with : (setup : Setup) (me : ℕ) (up : Bool) (state : State) (entries : List StepEntry) (kept : List Batch) → SetupFits setup → me < setup.replicas → setup.replicas ≤ 8 → IsBegun setup me up state → entries ≡ [] → kept ≡ []
    → IsFirst setup me up (record { me = me; stamp = 0; first_up = up; entries = entries; kept = kept; state = state })
begun_with setup me up state entries kept fits within few h no_entries no_kept =
    let at : List StepEntry → List Batch → Course = λ e k. record { me = me; stamp = 0; first_up = up; entries = e; kept = k; state = state } in
    subst (λ (e : List StepEntry). IsFirst setup me up (at e kept)) (sym no_entries) (subst (λ (k : List Batch). IsFirst setup me up (at [] k)) (sym no_kept) (begun setup me up state fits within few h))

-- ---- at the end

pub short_up : (setup : Setup) (c : Course) (r : Replica) → IsCourse setup c.me c → c.state ≡ states.Up r → length c.entries ≤ 100000 → IsShort r.store
short_up setup c r own up few = logs_short 4194304 (known_to r) (λ j.
    let all = logs_long setup c.me (no_logs setup.replicas) c.kept j own.committed in
    let none = none_long setup.replicas j in
    omega (arith, all, none, own.few_kept, few, ap (λ (l : Logs). length (log_at l j)) (committed_up setup c.me c r own up).1.knows))
