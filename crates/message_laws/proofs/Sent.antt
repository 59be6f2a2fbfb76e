-- In a run all that was sent fits, but for the size of pieces.
use Rattle.std.proofs.Common.{◌≡◌, ℕ, ◌≤◌, true, false, Bool, List, [], ◌∷◌, length, refl, sym, ap, subst, ◌∙◌, arith, length-append}
use Rattle.std.specs.Prelude.{slice_get, slice_index_or, Some, None, ◌==◌}
use Rattle.std.proofs.lemmas.Option.{slice_get_within}
use Rattle.spec_model.specs.declared.plan.Setup.{Setup}
use Rattle.run_model.specs.declared.message.Message.{Message}
use Rattle.run_model.specs.declared.step.Ask.{Ask}
use Rattle.run_model.specs.declared.step.Ask.TheVariants as asks
use Rattle.run_model.specs.declared.step.StepEntry.{StepEntry}
use Rattle.run_model.specs.Fitting.{AsksFit, DoFits, SetupFits}
use Rattle.run_model.specs.Logs.{Logs, log_at}
use Rattle.run_model.specs.Runs.{Runs, WorldSteps}
use Rattle.run_model.specs.Steps.{Hears, links_of}
use Rattle.run_model.specs.Worlds.{Down, Running, Sending, Standing, Up, World, first_running, first_world, logs_of, sent_to}
use Rattle.run_model.proofs.Beginning.{first_of, kept_first}
use Rattle.run_model.proofs.Changed.{IsKept}
use Rattle.run_model.proofs.Kept.{heard_from}
use Rattle.run_model.proofs.Lists.{each_at, each_filter}
use Rattle.run_model.proofs.Stepped.{each_after, step_extends, step_kept, step_took}
use Rattle.run_model.proofs.WorldLogs.{links_there, logs_there}
use Rattle.message_laws.specs.Laws.{NeedsFit}
use Rattle.message_laws.proofs.Answered.{IsSentWell, SendingFits}
use Rattle.message_laws.proofs.Drafted.{IsBefore, IsFit, WaitsFit}
use Rattle.message_laws.proofs.Stopped.{answers_fit}

-- what each replica of the world logged, wants and sent fits, and what is pending of it
abbrev pub AreFit : Setup → World → Type 0
AreFit setup w = (me : ℕ) (p : Standing) → slice_get w me ≡ Some p → IsFit setup me p

-- no log of the world has more than 2 ^ 22 items
abbrev pub AreShort : World → Type 0
AreShort w = (j : ℕ) → length (log_at (logs_of w) j) ≤ 4194304

-- ---- what is in hand

-- the step that a number names sent what fits
heard_fits : (setup : Setup) (w : World) (from number me : ℕ) (s : Sending) → IsKept setup.replicas w → AreFit setup w → slice_get (sent_to me (slice_index_or (links_of w) from [])) number ≡ Some s → SendingFits setup s × (s.to ≡ me)
heard_fits setup w from number me s kept fit is =
    let f = heard_from setup.replicas w from number me s kept is in
    let sendings : List Sending = f.0.sendings in
    let there : slice_get (sent_to me sendings) number ≡ Some s = ap (λ (l : List Sending). slice_get (sent_to me l) number) (sym (links_there w from f.0 f.1)) ∙ is in
    let each = each_at (λ (x : Sending). SendingFits setup x × ((x.to == me) ≡ true)) (sent_to me sendings) number s (each_filter (SendingFits setup) (λ (x : Sending). x.to == me) sendings (fit from f.0 f.1).stands.sent) there in
    (each.0, f.3)

-- a replica that has something in hand is up, and its number names it
pub hears_named : (links : List (List Sending)) (me from number : ℕ) (running : Running) (s : Sending) → Hears links me (asks.Take from (Some number)) running (Some s) → slice_get (sent_to me (slice_index_or links from [])) number ≡ Some s
hears_named links me from number Up s hears = hears.1 ∙ sym hears.2
hears_named links me from number (Down pending) s hears = absurd cc

-- so what a step has in hand fits
hears_fit : (setup : Setup) (w : World) (me : ℕ) (ask : Ask) (running : Running) (s : Sending) → IsKept setup.replicas w → AreFit setup w → Hears (links_of w) me ask running (Some s) → SendingFits setup s
hears_fit setup w me (asks.Do inst) running s kept fit hears = absurd cc
hears_fit setup w me (asks.Send to number) running s kept fit hears = absurd cc
hears_fit setup w me (asks.Take from (Some number)) running s kept fit hears = (heard_fits setup w from number me s kept fit (hears_named (links_of w) me from number running s hears)).0
hears_fit setup w me (asks.Take from None) running s kept fit hears = absurd cc
hears_fit setup w me asks.Crash running s kept fit hears = absurd cc
hears_fit setup w me asks.Recover running s kept fit hears = absurd cc

-- ---- a step

-- after it what the replica logged, wants and sent fits
after_fits : NeedsFit → (setup : Setup) (w : World) (e : StepEntry) (new : World) → SetupFits setup → IsKept setup.replicas w → AreFit setup w → DoFits setup.spec e.ask → AreShort w → (s : WorldSteps setup w e new) → IsFit setup e.replica s.after
after_fits need setup w e new well kept fit asked short s =
    let me : ℕ = e.replica in
    let old : Standing = s.before in
    let logs : Logs = logs_of w in
    let before : IsBefore setup logs me s.heard s.admitted e.ask old = record {
      well = well;
      place = omega (arith, slice_get_within w me old s.was, kept.whole);
      asked = asked;
      stands = kept.each me old s.was;
      fits = fit me old s.was;
      room = omega (arith, short me, ap length (logs_there w me old s.was));
      tried = (step_took setup setup.replicas w e new kept s).tried;
      sent = λ x is. hears_fit setup w me e.ask old.running x kept fit (subst (Hears (links_of w) me e.ask old.running) is s.hears);
    } in
    let answer = answers_fit need setup logs me old.running e.stamp s.heard s.admitted s.applied e.ask old e.outcome s.steps.after before refl s.steps.answers in
    subst (IsFit setup me) (sym s.steps.becomes) (record {
      stands = record { log = answer.stands.log; wants = answer.stands.wants; few = answer.stands.few; sent = answer.stands.sent };
      waits = answer.waits;
    })

-- and so of all replicas
step_fits : NeedsFit → (setup : Setup) (w : World) (e : StepEntry) (new : World) → SetupFits setup → IsKept setup.replicas w → AreFit setup w → DoFits setup.spec e.ask → AreShort w → WorldSteps setup w e new → AreFit setup new
step_fits need setup w e new well kept fit asked short s = each_after setup w e new s (IsFit setup) (after_fits need setup w e new well kept fit asked short s) fit

-- ---- a run

-- logs grow along a run
runs_longer : (setup : Setup) (w : World) (es : List StepEntry) (new : World) → IsKept setup.replicas w → Runs setup w es new → (j : ℕ) → length (log_at (logs_of w) j) ≤ length (log_at (logs_of new) j)
runs_longer setup w [] new kept runs j = omega (arith, ap (λ (v : World). length (log_at (logs_of v) j)) runs)
runs_longer setup w (e ∷ es) new kept runs j =
    let middle : World = runs.0 in
    let one = step_extends setup setup.replicas w e middle kept runs.1 in
    let rest = runs_longer setup middle es new (step_kept setup setup.replicas w e middle kept runs.1) runs.2 j in
    omega (arith, rest, ap length (one.is j), length-append (log_at (logs_of w) j) (one.more j))

-- so all fits at the end if it does at the start
runs_fit : NeedsFit → (setup : Setup) (w : World) (es : List StepEntry) (new : World) → SetupFits setup → AsksFit setup.spec es → AreShort new → IsKept setup.replicas w → AreFit setup w → Runs setup w es new → IsKept setup.replicas new × AreFit setup new
runs_fit need setup w [] new well asked short kept fit runs = subst (λ (v : World). IsKept setup.replicas v × AreFit setup v) (sym runs) (kept, fit)
runs_fit need setup w (e ∷ es) new well asked short kept fit runs =
    let middle : World = runs.0 in
    let shorter : AreShort w = λ j. omega (arith, short j, runs_longer setup w (e ∷ es) new kept runs j) in
    runs_fit need setup middle es new well asked.1 short (step_kept setup setup.replicas w e middle kept runs.1) (step_fits need setup w e middle well kept fit asked.0 shorter runs.1) runs.2

-- at the start nothing is there
first_waits : (setup : Setup) (me : ℕ) (up : Bool) → WaitsFit setup me (first_running up)
first_waits setup me true = tt
first_waits setup me false = tt

first_fits : (setup : Setup) (ups : List Bool) → AreFit setup (first_world setup.replicas ups)
first_fits setup ups me p is =
    let f = first_of setup.replicas ups me p is in
    subst (IsFit setup me) f.1 (record { stands = record { log = tt; wants = tt; few = omega arith; sent = tt }; waits = first_waits setup me f.0 })

-- what each replica logged fits so, and what was sent
pub all_fit : NeedsFit → (setup : Setup) (ups : List Bool) (entries : List StepEntry) (world : World) → SetupFits setup → length ups ≡ setup.replicas → AsksFit setup.spec entries → AreShort world → Runs setup (first_world setup.replicas ups) entries world
    → IsKept setup.replicas world × AreFit setup world
all_fit need setup ups entries world well all asked short runs = runs_fit need setup (first_world setup.replicas ups) entries world well asked short (kept_first setup.replicas ups all) (first_fits setup ups) runs

pub sent_well : (setup : Setup) (world : World) (me from number : ℕ) (sent : Sending) (message : Message) → IsKept setup.replicas world → AreFit setup world
    → slice_get (sent_to me (slice_index_or (links_of world) from [])) number ≡ Some sent → sent.message ≡ Some message → IsSentWell setup me message
sent_well setup world me from number sent message kept fit named is =
    let f = heard_fits setup world from number me sent kept fit named in
    subst (λ i. IsSentWell setup i message) f.1 (f.0 message is)
