-- What the entries of a run ask for fits, where the lines do.
use Rattle.std.proofs.Common.{◌≡◌, ℕ, Bool, true, false, cond, List, [], ◌∷◌, filter, map, refl, sym, subst, eq-eqb}
use Rattle.std.specs.Prelude.{◌==◌}
use Rattle.std.specs.List.{AllByRecursion}
use Rattle.std.proofs.lemmas.Bool.{cond_both}
use Rattle.spec_model.specs.declared.plan.Setup.{Setup}
use Rattle.spec_model.specs.declared.spec.Spec.{Spec}
use Rattle.run_model.specs.declared.step.Ask.{Ask}
use Rattle.run_model.specs.declared.step.Ask.TheVariants as asks
use Rattle.run_model.specs.declared.step.Order.{Order}
use Rattle.run_model.specs.declared.step.StepEntry.{StepEntry}
use Rattle.run_model.specs.Runs.{asks_in, asks_of, entries_at}
use Rattle.run_model.specs.Fitting.{AsksFit, DoFits}
use Rattle.scenario_text.specs.WellFormed.{OrderFits, StepFits}

-- the operation that a line asks for
line_fits : (spec : Spec) (replicas me : ℕ) (ask : Ask) → StepFits spec replicas me ask → DoFits spec ask
line_fits spec replicas me (asks.Do inst) fits = fits
line_fits spec replicas me (asks.Send to number) fits = tt
line_fits spec replicas me (asks.Take from number) fits = tt
line_fits spec replicas me asks.Crash fits = tt
line_fits spec replicas me asks.Recover fits = tt

-- what is asked of one replica
lines_fit : (spec : Spec) (replicas me : ℕ) (done : List Order) → AllByRecursion (OrderFits spec replicas) done → AllByRecursion (DoFits spec) (asks_of me done)
lines_fit spec replicas me [] fit = tt
lines_fit spec replicas me (o ∷ done) fit =
    let rest : List Order = filter (λ (p : Order). p.replica == me) done in
    cond_both (o.replica == me) (o ∷ rest) rest (λ orders. AllByRecursion (DoFits spec) (map (λ (p : Order). p.ask) orders))
    (λ mine. (line_fits spec replicas o.replica o.ask fit.0.step, lines_fit spec replicas me done fit.1)) (λ other. lines_fit spec replicas me done fit.1)

-- what holds of the asks of each replica holds of all
all_asked : (P : Ask → Type 0) (entries : List StepEntry) → ((me : ℕ) → AllByRecursion P (asks_in (entries_at me entries))) → AllByRecursion (λ entry. P entry.ask) entries
all_asked P [] each = tt
all_asked P (e ∷ entries) each = (first (e.replica == e.replica) (eq-eqb e.replica e.replica refl) (each e.replica), all_asked P entries (λ me. behind me (e.replica == me) (each me)))
  where
    first : (b : Bool) → b ≡ true → AllByRecursion P (asks_in (cond b (e ∷ entries_at e.replica entries) (entries_at e.replica entries))) → P e.ask
    first true is all = all.0
    first false is all = absurd cc

    behind : (me : ℕ) (b : Bool) → AllByRecursion P (asks_in (cond b (e ∷ entries_at me entries) (entries_at me entries))) → AllByRecursion P (asks_in (entries_at me entries))
    behind me true all = all.1
    behind me false all = all

-- so what entries ask for fits, where each replica's ask for what these lines do
pub asked_fit : (setup : Setup) (done : List Order) (entries : List StepEntry) → AllByRecursion (OrderFits setup.spec setup.replicas) done → ((me : ℕ) → asks_in (entries_at me entries) ≡ asks_of me done) → AsksFit setup.spec entries
asked_fit setup done entries lines asked =
    all_asked (DoFits setup.spec) entries (λ me. subst (AllByRecursion (DoFits setup.spec)) (sym (asked me)) (lines_fit setup.spec setup.replicas me done lines))
