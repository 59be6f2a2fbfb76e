-- A table of all rights, and what is done to it by the next item of the own log.
use Rattle.std.specs.Prelude.{◌≡◌, true, ℕ, ◌+◌, ◌*◌, ◌<◌, ◌≤◌, ◌^◌, List, length, Option, Some, Contains}
use Rattle.std.specs.List.{AllByRecursion}
use Rattle.spec_model.specs.declared.plan.Setup.{Setup}
use Rattle.spec_model.specs.declared.right.Right.{Right}
use Rattle.spec_model.specs.declared.right.Need.{Need}
use Rattle.spec_model.specs.declared.right.Piece.{Piece}
use Rattle.spec_model.specs.declared.instance.Inst.{Inst}
use Rattle.spec_model.specs.declared.log.Body.{Body}
use Rattle.spec_model.specs.declared.log.Body.TheVariants as body
use Rattle.spec_model.specs.declared.log.LogItem.{LogItem}
use Rattle.spec_model.specs.Changes.{effect_lines}
use Rattle.run_model.specs.Logs.{Logs, IsIn, item_at}
use Rattle.run_model.specs.Rights.{is_shared, held_count}
use Rattle.run_model.specs.Levels.{choices}
use Rattle.run_model.specs.Holding.{held_right, needs_in}
use Rattle.run_model.specs.Allowed.{IsAllowed, span_given}
use Rattle.run_model.specs.Passing.{can_accept}
use Rattle.run_model.specs.Fitting.{BodyFits, NeedFits, PieceFits, RightFits}
use Rattle.rights_table.specs.declared.table.Table.{Table}
use Rattle.rights_table.specs.Cells.{AreCellsEntered}
use Rattle.rights_table.specs.Tables.{IsEntered, IsTable}

-- a number of 64 bits counts what is held while the own log has at most 2 ^ 22 items, and of shares at most all are held
pub record AreFew (setup : Setup) (logs : Logs) (me : ℕ) (own : List LogItem) : Type 0 where
  pub counts : (r : Right) → held_count setup logs me own r ≤ 2 ^ 62 + length own * 2 ^ 34
  pub shares : (r : Right) → is_shared r ≡ true → held_count setup logs me own r ≤ setup.replicas

-- the table has what replica me holds of all rights after these items of its own log
pub record HasAll (setup : Setup) (logs : Logs) (me : ℕ) (own : List LogItem) (t : Table) : Type 0 where
  pub table : IsTable setup logs me own (λ r. true) t
  pub few : AreFew setup logs me own

-- ---- room

-- entries for the rights that a need may be met by
abbrev pub AreNeedsEntered : List Need → Table → Type 0
AreNeedsEntered needs t = (need choice : Need) → Contains needs need → Contains (choices need) choice → is_shared choice.right ≡ true → IsEntered t choice.right

-- entries for what items of logs touch, where an act of the own log has these needs: the rights that are given, the cells that an own act changes, and what is needed
pub record HasEntriesFor (setup : Setup) (items : List LogItem) (needs : List Need) (t : Table) : Type 0 where
  pub outs : (item : LogItem) (to : ℕ) (r : Right) (piece : Piece) → Contains items item → item.body ≡ body.Out to r piece → IsEntered t r
  pub acts : (item : LogItem) (inst : Inst) → Contains items item → item.origin ≡ t.me → item.body ≡ body.Act inst → AreCellsEntered setup.spec inst (effect_lines setup.spec inst) t
  pub needed : AreNeedsEntered needs t

-- entries for one body, and for the piece that it accepts
abbrev pub HasEntryFor : Setup → Body → Option Body → List Need → Table → Type 0
HasEntryFor setup (body.Act inst) of needs t = AreCellsEntered setup.spec inst (effect_lines setup.spec inst) t × AreNeedsEntered needs t
HasEntryFor setup (body.Out to r piece) of needs t = IsEntered t r
HasEntryFor setup (body.Accept from at) of needs t = (to : ℕ) (r : Right) (piece : Piece) → of ≡ Some (body.Out to r piece) → IsEntered t r

-- ---- the next item

-- an Accept takes a piece that is given by this body, and joins what is held
pub record Takes (setup : Setup) (logs : Logs) (me : ℕ) (own : List LogItem) (of : Option Body) (from at : ℕ) : Type 0 where
  pub out : LogItem
  pub to : ℕ
  pub right : Right
  pub piece : Piece
  pub there : item_at logs from at ≡ Some out
  pub of_is : of ≡ Some out.body
  pub gives : out.body ≡ body.Out to right piece
  pub right_fits : RightFits setup right
  pub piece_fits : PieceFits setup right piece
  pub joins : can_accept setup.replicas (held_right setup logs me own right (span_given piece)) piece ≡ true

-- what goes with the body: with an act its needs, with an Accept what it takes
abbrev pub GoesWith : Setup → Logs → ℕ → List LogItem → List ℕ → Option Body → List Need → Body → Type 0
GoesWith setup logs me own deps of needs (body.Act inst) = (needs ≡ needs_in setup logs deps inst) × AllByRecursion (NeedFits setup) needs
GoesWith setup logs me own deps of needs (body.Out to r piece) = Unit {0}
GoesWith setup logs me own deps of needs (body.Accept from at) = Takes setup logs me own of from at

-- the item may be the next one of the own log
pub record MayOwn (setup : Setup) (logs : Logs) (me : ℕ) (own : List LogItem) (x : LogItem) (of : Option Body) (needs : List Need) : Type 0 where
  pub fits : BodyFits setup x.body
  pub allowed : IsAllowed setup logs me own x.deps x.body
  pub with : GoesWith setup logs me own x.deps of needs x.body
  pub few : length own < 4194304

-- ---- logs that grow

-- what an item speaks of is the same in both: the items in its past, and the one that it accepts
pub record SpeaksOfTheSame (logs more : Logs) (item : LogItem) : Type 0 where
  pub past : (j k : ℕ) → IsIn item.deps j k → item_at more j k ≡ item_at logs j k
  pub accepted : (from at : ℕ) → item.body ≡ body.Accept from at → item_at more from at ≡ item_at logs from at

-- what a table has stays where the logs grow by what its own log doesn't speak of
abbrev pub TablesLearn : Type 0
TablesLearn = (setup : Setup) (logs more : Logs) (me : ℕ) (own : List LogItem) (t : Table) → length more ≡ length logs → AllByRecursion (SpeaksOfTheSame logs more) own
    → HasAll setup logs me own t → HasAll setup more me own t
