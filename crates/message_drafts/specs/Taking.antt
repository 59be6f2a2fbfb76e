-- What a replica takes of a message.
use Rattle.std.specs.Prelude.{◌≡◌, ℕ, ◌+◌, ◌≤◌, List, ◌++◌, length}
use Rattle.spec_model.specs.declared.plan.Setup.{Setup}
use Rattle.spec_model.specs.declared.log.LogItem.{LogItem}
use Rattle.run_model.specs.declared.message.Message.{Message}
use Rattle.run_model.specs.declared.step.Outcome.TheVariants as outcomes
use Rattle.run_model.specs.Worlds.{Standing}
use Rattle.run_model.specs.Steps.{Takes}
use Rattle.rights_table.specs.declared.table.Table.{Table}
use Rattle.rights_table.specs.Whole.{HasAll}
use Rattle.message_laws.specs.Heeded.{Heeds, with_items}
use Rattle.message_laws.specs.Views.{IsView, View, own_items, standing_in}
use Rattle.message_drafts.specs.declared.taken.Taken.{Taken}

-- replica me decides by this view, of which it has the cut and a table of what it holds, and it may log 24 items more of its own
pub record Sees (setup : Setup) (v : View) (me : ℕ) (cut : List ℕ) (t : Table) : Type 0 where
  pub me_is : v.me ≡ me
  pub cut_is : v.cut ≡ cut
  pub view : IsView setup v
  pub all : HasAll setup v.known v.me (own_items v) t
  pub room : length (own_items v) + 24 ≤ 4194304

-- what it decides on a message, whatever it wants and was told: the items that are applied of it, and then what the own log has more once it was taken, so many of each kind
pub record IsTaken (setup : Setup) (message : Message) (v : View) (taken : Taken) : Type 0 where
  pub applied : List LogItem
  pub own : List LogItem
  pub after : Standing
  pub takes : Takes setup (with_items message.from applied v.known) v.me message applied (standing_in v) (outcomes.Took message.number taken.applied taken.accepted taken.gave) after
  pub longer : after.log ≡ own_items v ++ own
  pub batch : taken.batch.items ≡ applied ++ own

-- what it decides on a message that may be any: what it does on what it heeds of it
pub record TakesHeeded (setup : Setup) (v : View) (message : Message) (taken : Taken) : Type 0 where
  pub heeded : Message
  pub heeds : Heeds setup v message heeded
  pub takes : IsTaken setup heeded v taken
