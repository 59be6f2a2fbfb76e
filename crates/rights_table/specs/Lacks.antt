-- Needs that aren't met, and that a table tells what is held.
use Rattle.std.specs.Prelude.{◌≡◌, true, ℕ, List}
use Rattle.spec_model.specs.declared.plan.Setup.{Setup}
use Rattle.spec_model.specs.declared.right.Need.{Need}
use Rattle.spec_model.specs.declared.right.Held.{Held}
use Rattle.spec_model.specs.declared.right.Lacking.{Lacking}
use Rattle.spec_model.specs.declared.log.LogItem.{LogItem}
use Rattle.run_model.specs.Logs.{Logs}
use Rattle.run_model.specs.Holding.{held_of}
use Rattle.run_model.specs.Levels.{first_lacking, is_met}
use Rattle.rights_table.specs.declared.table.Table.{Table}
use Rattle.rights_table.specs.Tables.{IsTable, holding_in}

-- a need with what is held of it
abbrev pub lacking_of : (Need → Held) → Need → Lacking
lacking_of holding need = record { need = need; held = holding need }

-- a table of all rights: what it tells of a need is what is held, it meets the needs that are met, and the first that isn't is the same
pub record Tells (setup : Setup) (logs : Logs) (me : ℕ) (own : List LogItem) (t : Table) : Type 0 where
  pub held : (need : Need) → holding_in setup t need ≡ held_of setup logs me own need
  pub met : (need : Need) → is_met setup.replicas (holding_in setup t) need ≡ is_met setup.replicas (held_of setup logs me own) need
  pub lacking : (needs : List Need) → first_lacking setup.replicas (holding_in setup t) needs ≡ first_lacking setup.replicas (held_of setup logs me own) needs

abbrev pub TablesTell : Type 0
TablesTell = (setup : Setup) (logs : Logs) (me : ℕ) (own : List LogItem) (t : Table) → IsTable setup logs me own (λ r. true) t → Tells setup logs me own t
