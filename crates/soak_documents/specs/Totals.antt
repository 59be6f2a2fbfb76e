-- Totals over the steps of a run.
use Rattle.std.specs.Prelude.{ℕ, ◌+◌, ◌≤◌, List, sum_by}
use Rattle.run_model.specs.declared.step.Outcome.{Outcome}
use Rattle.run_model.specs.declared.step.Outcome.TheVariants as outcomes
use Rattle.run_model.specs.declared.step.StepEntry.{StepEntry}
use Rattle.soak_documents.specs.declared.totals.Totals.{Totals}

abbrev pub none : Totals
none = record { done = 0; short = 0; breaks = 0; down = 0; applied = 0; accepted = 0; gave = 0 }

-- the totals of two parts together
abbrev pub plus : Totals → Totals → Totals
plus a b = record { done = a.done + b.done; short = a.short + b.short; breaks = a.breaks + b.breaks; down = a.down + b.down; applied = a.applied + b.applied; accepted = a.accepted + b.accepted; gave = a.gave + b.gave }

-- a step counts where an operation took effect, was short of a right or would break a clause, and where the replica was down; of a take count the items applied, the pieces accepted and the wants answered
abbrev pub of_outcome : Outcome → Totals
of_outcome (outcomes.Done index) = record none { done = 1 }
of_outcome (outcomes.Short lacking) = record none { short = 1 }
of_outcome (outcomes.Breaks broken) = record none { breaks = 1 }
of_outcome outcomes.Down = record none { down = 1 }
of_outcome (outcomes.Took number applied accepted gave) = record none { applied = applied; accepted = accepted; gave = gave }
of_outcome outcome = none

-- a measure of outcomes, summed over all steps
unfoldable pub total : (Outcome → ℕ) → List StepEntry → ℕ
total measure entries = sum_by (λ e. measure e.outcome) entries

-- the totals of some steps
abbrev pub of_entries : List StepEntry → Totals
of_entries entries = record {
  done = total (λ o. (of_outcome o).done) entries;
  short = total (λ o. (of_outcome o).short) entries;
  breaks = total (λ o. (of_outcome o).breaks) entries;
  down = total (λ o. (of_outcome o).down) entries;
  applied = total (λ o. (of_outcome o).applied) entries;
  accepted = total (λ o. (of_outcome o).accepted) entries;
  gave = total (λ o. (of_outcome o).gave) entries;
}

-- none of the totals is more than this
pub record AreAtMost (most : ℕ) (t : Totals) : Type 0 where
  pub done : t.done ≤ most
  pub short : t.short ≤ most
  pub breaks : t.breaks ≤ most
  pub down : t.down ≤ most
  pub applied : t.applied ≤ most
  pub accepted : t.accepted ≤ most
  pub gave : t.gave ≤ most
