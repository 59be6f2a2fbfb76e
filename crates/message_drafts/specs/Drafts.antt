-- What a replica would hold and log, while it decides on a message.
use Rattle.std.specs.Prelude.{◌≡◌, ℕ, ◌+◌, ◌<◌, ◌≤◌, Bool, true, false, List, [], ◌∷◌, ◌++◌, length, take, slice_get, slice_index, Some}
use Rattle.spec_model.specs.declared.plan.Setup.{Setup}
use Rattle.spec_model.specs.declared.right.Piece.{Piece}
use Rattle.spec_model.specs.declared.right.Want.{Want}
use Rattle.spec_model.specs.declared.log.Body.{Body}
use Rattle.spec_model.specs.declared.log.LogItem.{LogItem}
use Rattle.run_model.specs.Fitting.{AreInRow}
use Rattle.run_model.specs.Holding.{held_of}
use Rattle.run_model.specs.Logs.{log_at}
use Rattle.run_model.specs.Steps.{accepts_of, answered}
use Rattle.run_model.specs.Wants.{need_of, piece_for}
use Rattle.run_model.specs.Worlds.{Standing, logged_all}
use Rattle.run_model.specs.declared.message.Message.{Message}
use Rattle.rights_table.specs.declared.overlay.Overlay.{Overlay}
use Rattle.rights_table.specs.Overlays.{IsOverlay}
use Rattle.message_laws.specs.Heeded.{AreFitting, JoinsAfter, with_items}
use Rattle.message_laws.specs.Views.{View, own_items}
use Rattle.message_drafts.specs.declared.draft.Draft.{Draft}
use Rattle.message_drafts.specs.declared.deciding.Decided.{Decided}
use Rattle.message_drafts.specs.declared.taken.Taken.{Taken}

-- the overlay has what the replica holds once it has logged these bodies, by all logs that have these items of a sender, whatever comes behind them
abbrev pub Holds : Setup → View → ℕ → List LogItem → List Body → Overlay → Type 0
Holds setup v from before bodies o =
    (rest : List LogItem) (p : Standing) → p.log ≡ own_items v → IsOverlay setup (with_items from (before ++ rest) v.known) v.me (logged_all v.me bodies p).log o

abbrev pub IsDraft : Setup → View → ℕ → List LogItem → Draft → Type 0
IsDraft setup v from before d = Holds setup v from before d.bodies d.held

-- ---- accepting

-- all that these items give to the replica was accepted, and no more drafted
pub record HasAccepted (setup : Setup) (v : View) (from : ℕ) (before : List LogItem) (d : Draft) : Type 0 where
  pub draft : IsDraft setup v from before d
  pub bodies : d.bodies ≡ accepts_of v.me before

-- the item is the next of the sender behind these
pub record IsNext (v : View) (from : ℕ) (before : List LogItem) (item : LogItem) : Type 0 where
  pub place : from < length v.known
  pub origin : item.origin ≡ from
  pub index_is : item.index ≡ length (log_at v.known from) + length before

-- whether what the item gives can be accepted behind these; then it was
abbrev pub Joins : Setup → View → ℕ → List LogItem → LogItem → Bool → Draft → Type 0
Joins setup v from before item true d = JoinsAfter setup v from before item.body × HasAccepted setup v from (before ++ item ∷ []) d
Joins setup v from before item false d = (JoinsAfter setup v from before item.body → ⊥) × HasAccepted setup v from before d

-- replica me, which has drafted nothing, may be given these next items of the sender
pub record MayJoin (setup : Setup) (v : View) (me from : ℕ) (items : List LogItem) (d : Draft) : Type 0 where
  pub me_is : v.me ≡ me
  pub place : from < length v.known
  pub row : AreInRow from (length (log_at v.known from)) items
  pub none : HasAccepted setup v from [] d

-- so many of these can be accepted
pub record CanJoin (setup : Setup) (v : View) (from : ℕ) (items : List LogItem) (count : ℕ) : Type 0 where
  pub within : count ≤ length items
  pub each : (k : ℕ) (item : LogItem) → k < count → slice_get items k ≡ Some item → JoinsAfter setup v from (take k items) item.body

-- they were, and the next one can't be
pub record HasJoined (setup : Setup) (v : View) (from : ℕ) (items : List LogItem) (count : ℕ) (d : Draft) : Type 0 where
  pub accepted : HasAccepted setup v from (take count items) d
  pub can : CanJoin setup v from items count
  pub stuck : (item : LogItem) → slice_get items count ≡ Some item → JoinsAfter setup v from (take count items) item.body → ⊥

-- ---- answering

-- the piece is what is given of what would be held to one who wants it
abbrev pub IsWanted : Setup → View → ℕ → List LogItem → Want → Draft → Piece → Type 0
IsWanted setup v from before want d piece =
    (p : Standing) → p.log ≡ own_items v → piece_for (held_of setup (with_items from before v.known) v.me (logged_all v.me d.bodies p).log (need_of want)) want.ask ≡ Some piece

-- these wants were answered
pub record HasAnswered (setup : Setup) (v : View) (from : ℕ) (before : List LogItem) (to : ℕ) (wants : List Want) (old new : Draft) : Type 0 where
  pub draft : IsDraft setup v from before new
  pub stands : (p : Standing) → p.log ≡ own_items v → logged_all v.me new.bodies p ≡ answered setup (with_items from before v.known) v.me to wants (logged_all v.me old.bodies p)
  pub few : length new.bodies ≤ length old.bodies + length wants
  pub least : length old.bodies ≤ length new.bodies

-- ---- the whole take

-- of these items that are ready so many are applied, and these bodies are logged, the first of which accept what was given
pub record IsDecided (setup : Setup) (v : View) (message : Message) (ready : List LogItem) (d : Decided) : Type 0 where
  pub can : CanJoin setup v message.from ready d.applied
  pub stuck : (item : LogItem) → slice_get ready d.applied ≡ Some item → JoinsAfter setup v message.from (take d.applied ready) item.body → ⊥
  pub wants : List Want
  pub fitting : AreFitting setup (take 8 message.wants) wants
  pub accepted : d.accepted ≡ length (accepts_of v.me (take d.applied ready))
  pub stands : (p : Standing) → p.log ≡ own_items v
      → logged_all v.me d.bodies p ≡ answered setup (with_items message.from (take d.applied ready) v.known) v.me message.from wants (logged_all v.me (accepts_of v.me (take d.applied ready)) p)

-- these items are applied, and then what these bodies say is logged by replica me, which has seen so much by then
pub record IsBatched (me : ℕ) (cut : List ℕ) (applied : List LogItem) (d : Decided) (taken : Taken) : Type 0 where
  pub own : List LogItem
  pub batch : taken.batch.items ≡ applied ++ own
  pub logs : (p : Standing) → p.cut ≡ cut → length p.log ≡ slice_index cut me → (logged_all me d.bodies p).log ≡ p.log ++ own
  pub applied_is : taken.applied ≡ length applied
  pub accepted_is : taken.accepted ≡ d.accepted
  pub gave_is : taken.gave + d.accepted ≡ length d.bodies
