-- Rights that lines, items and needs touch, and room for them.
use Rattle.std.specs.Prelude.{◌≡◌, true, false, ℕ, Bool, ◌==◌, ◌&&◌, is_some}
use Rattle.std.specs.List.{list_any}
use Rattle.spec_model.specs.declared.plan.Setup.{Setup}
use Rattle.spec_model.specs.declared.spec.Spec.{Spec}
use Rattle.spec_model.specs.declared.instance.Cell.{Cell}
use Rattle.spec_model.specs.declared.right.Right.{Right}
use Rattle.spec_model.specs.declared.right.Right.TheVariants as right
use Rattle.spec_model.specs.declared.right.Need.{Need}
use Rattle.spec_model.specs.declared.log.Body.{Body}
use Rattle.spec_model.specs.declared.log.Body.TheVariants as body
use Rattle.spec_model.specs.declared.log.LogItem.{LogItem}
use Rattle.spec_model.specs.Changes.{effect_lines, same_cell}
use Rattle.spec_model.specs.Universe.{lower_bound, upper_bound}
use Rattle.run_model.specs.Levels.{at_literal, choices}
use Rattle.run_model.specs.Rights.{is_shared, same_right}
use Rattle.rights_table.specs.declared.table.Table.{Table}
use Rattle.rights_table.specs.Cells.{line_moves}
use Rattle.rights_table.specs.Tables.{IsEntered, KeepsEntries, TellTheSame}

-- what is touched has an entry where there was the memory, and all that is told stays
pub record MakesRoom (setup : Setup) (enough : Bool) (touched : Right → Bool) (old new : Table) : Type 0 where
  pub same : TellTheSame setup old new
  pub kept : KeepsEntries old new
  pub entered : enough ≡ true → (r : Right) → touched r ≡ true → IsEntered new r

-- the rights to lower and raise a cell, where it has that bound
abbrev pub cell_touches : Spec → Cell → Right → Bool
cell_touches spec cell (right.Low c) = is_some (lower_bound spec c) && same_cell cell c
cell_touches spec cell (right.High c) = is_some (upper_bound spec c) && same_cell cell c
cell_touches spec cell _ = false

-- what an item touches: an act of the own log what its lines change, an Out what it gives
abbrev pub body_touches : Spec → Bool → Body → Right → Bool
body_touches spec mine (body.Act inst) r = mine && list_any (line_moves spec inst r) (effect_lines spec inst)
body_touches spec mine (body.Out to given piece) r = same_right given r
body_touches spec mine (body.Accept from at) r = false

abbrev pub item_touches : Spec → ℕ → Right → LogItem → Bool
item_touches spec me r item = body_touches spec (item.origin == me) item.body r

-- a right that is held in shares
abbrev pub shared_touches : Right → Right → Bool
shared_touches of r = is_shared of && same_right of r

-- the entry of another literal of a right's instance
abbrev pub literal_touches : Right → Right → ℕ → Bool
literal_touches of r n = shared_touches (at_literal of n) r

-- a need touches the rights of its choices that are held in shares: an act changes the modes of these alone
abbrev pub need_touches : Right → Need → Bool
need_touches r need = list_any (λ choice. shared_touches choice.right r) (choices need)
