-- The summary of a run of a generated document.
use Rattle.std.specs.Prelude.{ℕ, List, [], ◌∷◌, ◌++◌, codes, decimal}
use Rattle.run_model.specs.declared.step.StepEntry.{StepEntry}
use Rattle.soak_documents.specs.declared.totals.Totals.{Totals}
use Rattle.soak_documents.specs.Totals.{of_entries}

-- a word and a number
abbrev pub number_line : List ℕ → ℕ → List ℕ
number_line word n = word ++ codes " " ++ decimal n ++ 10 ∷ []

-- a line for each total
abbrev pub totals_text : Totals → List ℕ
totals_text t =
    number_line (codes "done") t.done
    ++ number_line (codes "short") t.short
    ++ number_line (codes "breaks") t.breaks
    ++ number_line (codes "down") t.down
    ++ number_line (codes "applied") t.applied
    ++ number_line (codes "accepted") t.accepted
    ++ number_line (codes "gave") t.gave

-- the seed, the number of steps, and the totals of all steps
abbrev pub soak_text : ℕ → List StepEntry → List ℕ
soak_text seed entries = number_line (codes "soak") seed ++ number_line (codes "steps") 20000 ++ totals_text (of_entries entries)
