-- Every schedule can be run: in its own order, and then the entries are put in theirs.
use Rattle.std.proofs.Common.{◌≡◌, inl, inr, ℕ, ◌<◌, Bool, cond, List, [], ◌∷◌, ◌++◌, length, refl, sym, ap, ◌∙◌, arith, eq-eqb, ne_eqb}
use Rattle.std.specs.Prelude.{slice_get, slice_set, Some, None, Option, filter, map, ◌==◌}
use Rattle.std.specs.List.{AllByRecursion}
use Rattle.std.proofs.lemmas.Bool.{cases_eq}
use Rattle.spec_model.specs.declared.spec.Spec.{Spec}
use Rattle.spec_model.specs.declared.plan.Setup.{Setup}
use Rattle.spec_model.specs.declared.log.LogItem.{LogItem}
use Rattle.run_model.specs.declared.step.Ask.{Ask}
use Rattle.run_model.specs.declared.step.Ask.TheVariants as asks
use Rattle.run_model.specs.declared.step.Order.{Order}
use Rattle.run_model.specs.declared.step.StepEntry.{StepEntry}
use Rattle.run_model.specs.Worlds.{Running, Up, Down, Standing, Sending, World, logs_of, sent_to, first_world, batch_of, items_between}
use Rattle.run_model.specs.Steps.{Hears, links_of, next_stamp}
use Rattle.run_model.specs.Runs.{WorldSteps, Runs, entries_at, asks_in, asks_of}
use Rattle.run_model.proofs.WorldLogs.{links_there}
use Rattle.run_model.proofs.Projected.{runs_in_order}
use Rattle.scenario_text.specs.Numbered.{IsAskNumbered, IsNumbered, AreNumbered, sends_of}
use Rattle.scenario_text.specs.WellFormed.{StepFits, OrderFits}
use Rattle.run_laws.specs.EverySchedule.{EveryScheduleRuns}
use Rattle.run_laws.proofs.Ordered.{asks_first, asks_other}
use Rattle.run_laws.proofs.Sent.{HasSent, sent_first, sent_next, get_some, named_some}
use Rattle.run_laws.proofs.Sorted.{sorted_some}
use Rattle.run_laws.proofs.Answered.{IsAnswered, does_some, sends_some, takes_sent_some, stops_some, stays_some, rests_some, sends_none_some, finds_some}

-- ---- one order

-- what the order asks is answered, with what it hears in hand
record IsHeard (setup : Setup) (w : World) (me : ℕ) (ask : Ask) (running : Running) (old : Standing) : Type 0 where
  heard : Option Sending
  hears : Hears (links_of w) me ask running heard
  answered : (stamp : ℕ) → IsAnswered setup (logs_of w) me running heard stamp ask old

-- the number of a send is that of those before it
send_counted : (n : ℕ) (before : List Order) (w : World) (me to number : ℕ) (old : Standing) → HasSent n before w → slice_get w me ≡ Some old → number ≡ sends_of me to before → number ≡ length (sent_to to old.sendings)
send_counted n before w me to number old h was numbered = numbered ∙ sym (h.counted me to) ∙ ap (λ (l : List Sending). length (sent_to to l)) (links_there w me old was)

-- what may be asked is answered
heard_some : (setup : Setup) (spec : Spec) (n : ℕ) (before : List Order) (w : World) (me : ℕ) (ask : Ask) (running : Running) (old : Standing) → HasSent n before w → slice_get w me ≡ Some old
    → StepFits spec n me ask → IsAskNumbered before me ask → IsHeard setup w me ask running old
heard_some setup spec n before w me (asks.Do inst) Up old h was fits numbered = record { heard = None; hears = refl; answered = λ stamp. does_some setup (logs_of w) me stamp inst old }
heard_some setup spec n before w me (asks.Do inst) (Down pending) old h was fits numbered =
    record { heard = None; hears = refl; answered = λ stamp. rests_some setup (logs_of w) me pending stamp (asks.Do inst) old (λ a o p r. r) (λ to. refl) }
heard_some setup spec n before w me (asks.Send to None) running old h was fits numbered = absurd numbered
heard_some setup spec n before w me (asks.Send to (Some number)) Up old h was fits numbered =
    record { heard = None; hears = refl; answered = λ stamp. sends_some setup (logs_of w) me stamp to number old (λ same. fits.other same) (send_counted n before w me to number old h was numbered) }
heard_some setup spec n before w me (asks.Send to (Some number)) (Down pending) old h was fits numbered =
    record { heard = None; hears = refl; answered = λ stamp. sends_none_some setup (logs_of w) me pending stamp to number old (λ same. fits.other same) (send_counted n before w me to number old h was numbered) }
heard_some setup spec n before w me (asks.Take from None) running old h was fits numbered = absurd numbered
heard_some setup spec n before w me (asks.Take from (Some number)) Up old h was fits numbered =
    let s = named_some n before w me from number h numbered in
    record { heard = Some s.0; hears = (s.0, s.1, refl); answered = λ stamp. takes_sent_some setup (logs_of w) me stamp from number s.0 old }
heard_some setup spec n before w me (asks.Take from (Some number)) (Down pending) old h was fits numbered =
    record { heard = None; hears = refl; answered = λ stamp. rests_some setup (logs_of w) me pending stamp (asks.Take from (Some number)) old (λ a o p r. r) (λ to. refl) }
heard_some setup spec n before w me asks.Crash Up old h was fits numbered = record { heard = None; hears = refl; answered = λ stamp. stops_some setup (logs_of w) me stamp old }
heard_some setup spec n before w me asks.Crash (Down pending) old h was fits numbered =
    record { heard = None; hears = refl; answered = λ stamp. rests_some setup (logs_of w) me pending stamp asks.Crash old (λ a o p r. r) (λ to. refl) }
heard_some setup spec n before w me asks.Recover Up old h was fits numbered = record { heard = None; hears = refl; answered = λ stamp. stays_some setup (logs_of w) me stamp old }
heard_some setup spec n before w me asks.Recover (Down pending) old h was fits numbered = record { heard = None; hears = refl; answered = λ stamp. finds_some setup (logs_of w) me pending stamp old }

-- a step of the world that the order asks
record IsStepped (setup : Setup) (before : List Order) (order : Order) (w : World) : Type 0 where
  entry : StepEntry
  next : World
  steps : WorldSteps setup w entry next
  replica : entry.replica ≡ order.replica
  ask : entry.ask ≡ order.ask
  sent : HasSent setup.replicas (before ++ order ∷ []) next

-- how a replica stands after a step that leaves it so, with its stamp and what it keeps
abbrev stepped : ℕ → List LogItem → Standing → Standing → Standing
stepped stamp applied old after = record after { stamp = stamp; kept = old.kept ++ batch_of (items_between applied old after) }

-- the replica's step once it is answered
world_step : (setup : Setup) (w : World) (order : Order) (p : Standing) (heard : Option Sending) → slice_get w order.replica ≡ Some p → Hears (links_of w) order.replica order.ask p.running heard
    → (a : IsAnswered setup (logs_of w) order.replica p.running heard (next_stamp p.stamp heard) order.ask p)
    → WorldSteps setup w (record { stamp = next_stamp p.stamp heard; replica = order.replica; ask = order.ask; outcome = a.outcome })
    (slice_set w order.replica (stepped (next_stamp p.stamp heard) a.applied p a.after))
world_step setup w order p heard was hears a = record {
  before = p;
  after = stepped (next_stamp p.stamp heard) a.applied p a.after;
  heard = heard;
  admitted = a.admitted;
  applied = a.applied;
  was = was;
  hears = hears;
  steps = record { replica = refl; stamp = refl; after = a.after; answers = a.answers; becomes = refl };
  becomes = refl;
}

-- the order is carried out
step_some : (setup : Setup) (spec : Spec) (before : List Order) (order : Order) (w : World) → HasSent setup.replicas before w → OrderFits spec setup.replicas order → IsNumbered before order
    → IsStepped setup before order w
step_some setup spec before order w h fits numbered =
    let p = get_some w order.replica (omega (arith, fits.within, h.long)) in
    let heard = heard_some setup spec setup.replicas before w order.replica order.ask p.0.running p.0 h p.1 fits.step numbered in
    let stamp : ℕ = next_stamp p.0.stamp heard.heard in
    let a = heard.answered stamp in
    let after : Standing = stepped stamp a.applied p.0 a.after in
    record {
      entry = record { stamp = stamp; replica = order.replica; ask = order.ask; outcome = a.outcome };
      next = slice_set w order.replica after;
      steps = world_step setup w order p.0 heard.heard p.1 heard.hears a;
      replica = refl;
      ask = refl;
      sent = sent_next setup.replicas before order w p.0 after a.more h p.1 a.is a.counted;
    }

-- ---- all orders

-- a run, not yet in order, that asks each replica its orders
record IsRun (setup : Setup) (w : World) (orders : List Order) : Type 0 where
  entries : List StepEntry
  end : World
  runs : Runs setup w entries end
  asked : (me : ℕ) → asks_in (entries_at me entries) ≡ asks_of me orders
  within : AllByRecursion (λ e. e.replica < setup.replicas) entries

-- what is asked of each replica with one order more
asked_next : (e : StepEntry) (es : List StepEntry) (order : Order) (orders : List Order) → e.replica ≡ order.replica → e.ask ≡ order.ask → ((me : ℕ) → asks_in (entries_at me es) ≡ asks_of me orders)
    → (me : ℕ) → asks_in (entries_at me (e ∷ es)) ≡ asks_of me (order ∷ orders)
asked_next e es order orders replica ask rest me =
    let left : List Order = filter (λ (o : Order). o.replica == me) orders in
    elim (cases_eq order.replica me) [
      | inl same ↦
          asks_first me e es (replica ∙ same) ∙ ap (λ (a : Ask). a ∷ asks_in (entries_at me es)) ask ∙ ap (λ (l : List Ask). order.ask ∷ l) (rest me)
          ∙ sym (ap (λ (b : Bool). map (λ (o : Order). o.ask) (cond b (order ∷ left) left)) (eq-eqb order.replica me same))
      | inr other ↦
          asks_other me e es (λ same. other (sym replica ∙ same)) ∙ rest me
          ∙ sym (ap (λ (b : Bool). map (λ (o : Order). o.ask) (cond b (order ∷ left) left)) (ne_eqb order.replica me other))
    ]

-- the orders are carried out one after the other
run_some : (setup : Setup) (spec : Spec) (before orders : List Order) (w : World) → HasSent setup.replicas before w → AllByRecursion (OrderFits spec setup.replicas) orders → AreNumbered before orders
    → IsRun setup w orders
run_some setup spec before [] w h fit numbered = record { entries = []; end = w; runs = refl; asked = λ me. refl; within = tt }
run_some setup spec before (order ∷ orders) w h fit numbered =
    let s = step_some setup spec before order w h fit.0 numbered.0 in
    let rest = run_some setup spec (before ++ order ∷ []) orders s.next s.sent fit.1 numbered.1 in
    record {
      entries = s.entry ∷ rest.entries;
      end = rest.end;
      runs = (s.next, s.steps, rest.runs);
      asked = asked_next s.entry rest.entries order orders s.replica s.ask rest.asked;
      within = (omega (arith, fit.0.within, s.replica), rest.within);
    }

-- the run of a schedule, in order
pub every_schedule_runs : EveryScheduleRuns
every_schedule_runs setup schedule ups all fits =
    let n : ℕ = setup.replicas in
    let first : World = first_world n ups in
    let run = run_some setup setup.spec [] schedule first (sent_first n ups all) fits.orders_fit fits.numbered in
    let s = sorted_some (λ (e : StepEntry). e.replica < n) setup first run.entries run.end run.runs run.within in (
      s.sorted,
      run.end,
      record {
        all = all;
        runs = runs_in_order setup ups run.entries s.sorted run.end all run.runs s.order s.each s.same;
        in_order = s.order;
        asked = λ me. ap asks_in (s.same me) ∙ run.asked me;
      },
    )
