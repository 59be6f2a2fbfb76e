-- What a replica may log next, and apply next of another log.
use Rattle.std.specs.Prelude.{◌≡◌, ◌≢◌, true, ℕ, ◌<◌, List, [], ◌∷◌, length, slice_set, Option, Some, None, ◌==◌, if◌then◌else◌}
use Rattle.std.specs.List.{AllByRecursion}
use Rattle.std.specs.Option.{option_map}
use Rattle.spec_model.specs.declared.plan.Setup.{Setup}
use Rattle.spec_model.specs.declared.instance.Inst.{Inst}
use Rattle.spec_model.specs.declared.right.Right.{Right}
use Rattle.spec_model.specs.declared.right.Need.{Need}
use Rattle.spec_model.specs.declared.right.Piece.{Piece}
use Rattle.spec_model.specs.declared.log.Body.{Body}
use Rattle.spec_model.specs.declared.log.Body.TheVariants as body
use Rattle.spec_model.specs.declared.log.LogItem.{LogItem}
use Rattle.run_model.specs.Allowed.{IsAllowed, span_given}
use Rattle.run_model.specs.Fitting.{AreInRow, BodyFits, ItemFits}
use Rattle.run_model.specs.Holding.{held_right, needs_in}
use Rattle.run_model.specs.Logs.{Logs, item_at, log_at}
use Rattle.run_model.specs.Passing.{can_accept}
use Rattle.run_model.specs.Worlds.{Standing, logged}
use Rattle.rights_table.specs.declared.table.Table.{Table}
use Rattle.rights_table.specs.Tables.{KeepsEntries}
use Rattle.rights_table.specs.Whole.{HasEntryFor}
use Rattle.replica_core.specs.Replicas.{known_to}
use Rattle.replica_core.specs.declared.replica.Replica.{Replica}

-- ---- items of its own

-- the body of an item, if there is one
abbrev pub body_of : Option LogItem → Option Body
body_of found = option_map (λ item. item.body) found

-- the body of the item that a body accepts
abbrev pub taken_by : Logs → Body → Option Body
taken_by logs (body.Act inst) = None
taken_by logs (body.Out to r piece) = None
taken_by logs (body.Accept from at) = body_of (item_at logs from at)

-- another replica gave this item to replica me, and it joins what that holds
pub record Joins (setup : Setup) (logs : Logs) (me : ℕ) (own : List LogItem) (from at : ℕ) : Type 0 where
  pub other : from ≢ me
  pub out : LogItem
  pub right : Right
  pub piece : Piece
  pub there : item_at logs from at ≡ Some out
  pub gives : out.body ≡ body.Out me right piece
  pub joins : can_accept setup.replicas (held_right setup logs me own right (span_given piece)) piece ≡ true

-- an act has these needs, and what is accepted joins
abbrev pub GoesAlong : Setup → Logs → ℕ → List Need → Standing → Body → Type 0
GoesAlong setup logs me needs p (body.Act inst) = needs ≡ needs_in setup logs p.cut inst
GoesAlong setup logs me needs p (body.Out to r piece) = Unit {0}
GoesAlong setup logs me needs p (body.Accept from at) = Joins setup logs me p.log from at

-- an item that replica me may log next: it has all that was seen in its past, and is allowed
pub record IsNext (setup : Setup) (logs : Logs) (me : ℕ) (needs : List Need) (p : Standing) (item : LogItem) : Type 0 where
  pub is : item ≡ record { origin = me; index = length p.log; deps = p.cut; body = item.body }
  pub fits : BodyFits setup item.body
  pub allowed : IsAllowed setup logs me p.log p.cut item.body
  pub along : GoesAlong setup logs me needs p item.body

-- or several, one after the other
abbrev pub AreNext : Setup → Logs → ℕ → List Need → Standing → List LogItem → Type 0
AreNext setup logs me needs p [] = Unit {0}
AreNext setup logs me needs p (item ∷ items) = IsNext setup (slice_set logs me p.log) me needs p item × AreNext setup logs me needs (logged me item.body p) items

-- the table has entries for what these items touch
abbrev pub AreEntered : Setup → Logs → List Need → Table → List LogItem → Type 0
AreEntered setup logs needs t items = AllByRecursion (λ item. HasEntryFor setup item.body (taken_by logs item.body) needs t) items

-- it has logged more, for which it had entries, and keeps the needs of an act
pub record HasPut (old new : Replica) : Type 0 where
  pub needs : new.needs ≡ old.needs
  pub kept : KeepsEntries old.table new.table

-- what is done, if the body is an act
abbrev pub done_by : Body → Option Inst
done_by (body.Act inst) = Some inst
done_by (body.Out to r piece) = None
done_by (body.Accept from at) = None

-- if these are one item of replica me, and that is an act
abbrev pub act_among : ℕ → List LogItem → Option Inst
act_among me [] = None
act_among me (item ∷ []) = if item.origin == me then done_by item.body else None
act_among me (x ∷ y ∷ items) = None

-- ---- items of others

-- these are the next items of the log of another replica
pub record AreOthers (setup : Setup) (r : Replica) (from : ℕ) (items : List LogItem) : Type 0 where
  pub place : from < setup.replicas
  pub others : AllByRecursion (λ item. item.origin ≢ r.me) items
  pub row : AreInRow from (length (log_at (known_to r) from)) items
  pub fits : AllByRecursion (ItemFits setup) items
