-- A table lacks what its replica lacks.
use Rattle.std.proofs.Common.{◌≡◌, ℕ, true, cond, List, [], ◌∷◌, refl, ap, ◌∙◌}
use Rattle.std.specs.Prelude.{Option, Some, ◌||◌}
use Rattle.std.specs.List.{list_any}
use Rattle.spec_model.specs.declared.plan.Setup.{Setup}
use Rattle.spec_model.specs.declared.right.Need.{Need}
use Rattle.spec_model.specs.declared.right.Held.{Held}
use Rattle.spec_model.specs.declared.right.Lacking.{Lacking}
use Rattle.spec_model.specs.declared.log.LogItem.{LogItem}
use Rattle.run_model.specs.Logs.{Logs}
use Rattle.run_model.specs.Holding.{held_of, span_in}
use Rattle.run_model.specs.Levels.{permits, is_permitted, is_met, first_lacking, choices}
use Rattle.rights_table.specs.declared.table.Table.{Table}
use Rattle.rights_table.specs.Lacks.{lacking_of, Tells}
use Rattle.rights_table.specs.Tables.{IsTable, holding_in}
use Rattle.rights_table.proofs.Telling.{table_tells}

module _ (all : ℕ) (f g : Need → Held) (same : (need : Need) → f need ≡ g need) where
  permitted_same : (need : Need) → is_permitted all f need ≡ is_permitted all g need
  permitted_same need = ap (λ h. permits all h need.amount) (same need)

  any_same : (choices : List Need) → list_any (is_permitted all f) choices ≡ list_any (is_permitted all g) choices
  any_same [] = refl
  any_same (need ∷ choices) =
      ap (λ b. b || list_any (is_permitted all f) choices) (permitted_same need)
      ∙ ap (λ b. is_permitted all g need || b) (any_same choices)

  pub met_same : (need : Need) → is_met all f need ≡ is_met all g need
  met_same need = any_same (choices need)

  pub lacking_same : (needs : List Need) → first_lacking all f needs ≡ first_lacking all g needs
  lacking_same [] = refl
  lacking_same (need ∷ needs) =
      ap (λ b. cond b (first_lacking all f needs) (Some (lacking_of f need))) (met_same need)
      ∙ ap (λ (o : Option Lacking). cond (is_met all g need) o (Some (lacking_of f need))) (lacking_same needs)
      ∙ ap (λ h. cond (is_met all g need) (first_lacking all g needs) (Some (let l : Lacking = record { need = need; held = h } in l))) (same need)

pub table_tells_all : (setup : Setup) (logs : Logs) (me : ℕ) (own : List LogItem) (t : Table) → IsTable setup logs me own (λ r. true) t → Tells setup logs me own t
table_tells_all setup logs me own t is =
    let same : (need : Need) → holding_in setup t need ≡ held_of setup logs me own need = λ need. table_tells setup logs me own (λ r. true) t need.right (span_in need.amount) is refl in
    record {
      held = same;
      met = met_same setup.replicas (holding_in setup t) (held_of setup logs me own) same;
      lacking = lacking_same setup.replicas (holding_in setup t) (held_of setup logs me own) same;
    }
