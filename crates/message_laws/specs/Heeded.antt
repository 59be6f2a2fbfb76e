-- What a replica heeds of a message that may be any: in a run that is all of it. A cell's value has no guard: no act changes it by more than 16 * 10 ^ 9, so it stays below 2 ^ 62 while no log has more than 2 ^ 22 items.
use Rattle.std.specs.Prelude.{◌≡◌, ◌≢◌, ◌⊎◌, ℕ, ◌<◌, List, [], ◌∷◌, ◌++◌, length, take, slice_get, slice_index, slice_set, Some, false, true, nat_lt}
use Rattle.std.specs.List.{AllByRecursion}
use Rattle.ind_base.specs.declared.span.Span.{Span}
use Rattle.spec_model.specs.declared.plan.Setup.{Setup}
use Rattle.spec_model.specs.declared.right.Held.{Held}
use Rattle.spec_model.specs.declared.right.Right.{Right}
use Rattle.spec_model.specs.declared.right.Want.{Want}
use Rattle.spec_model.specs.declared.log.Body.{Body}
use Rattle.spec_model.specs.declared.log.Body.TheVariants as body
use Rattle.spec_model.specs.declared.log.LogItem.{LogItem}
use Rattle.run_model.specs.declared.message.Message.{Message}
use Rattle.run_model.specs.Logs.{Logs, cut_after, log_at}
use Rattle.run_model.specs.Holding.{held_right}
use Rattle.run_model.specs.Allowed.{span_given}
use Rattle.run_model.specs.Passing.{can_accept}
use Rattle.run_model.specs.Fitting.{AreInRow, ItemFits, WantFits}
use Rattle.run_model.specs.Steps.{AreReady, accepts_of, unseen}
use Rattle.run_model.specs.Worlds.{Standing, logged_all, no_cut}
use Rattle.message_laws.specs.Views.{View, standing_in}

-- ---- what is applied

-- the logs that are known once these items of another log are applied
abbrev pub with_items : ℕ → List LogItem → Logs → Logs
with_items from applied known = slice_set known from (log_at known from ++ applied)

-- how a replica stands once it has applied these items and accepted what they give to it
abbrev pub standing_after : View → List LogItem → Standing
standing_after v applied = logged_all v.me (accepts_of v.me applied) (record (standing_in v) { cut = cut_after v.cut applied })

-- what it holds of a right then
abbrev pub held_after : Setup → View → ℕ → List LogItem → Right → Span → Held
held_after setup v from applied r span = held_right setup (with_items from applied v.known) v.me (standing_after v applied).log r span

-- what a body gives to the replica joins what it holds once it has applied these items
abbrev pub JoinsAfter : Setup → View → ℕ → List LogItem → Body → Type 0
JoinsAfter setup v from applied (body.Out to r piece) = to ≡ v.me → can_accept setup.replicas (held_after setup v from applied r (span_given piece)) piece ≡ true
JoinsAfter setup v from applied (body.Act inst) = Unit {0}
JoinsAfter setup v from applied (body.Accept origin index) = Unit {0}

-- where the item wasn't seen, and can be applied behind those of these that weren't seen, it can be accepted
abbrev pub CanAccept : Setup → View → ℕ → List LogItem → LogItem → Type 0
CanAccept setup v from before item =
    let applied = unseen v.cut before in
    nat_lt item.index (slice_index v.cut item.origin) ≡ false → AreReady v.cut (applied ++ item ∷ []) → JoinsAfter setup v from applied item.body

-- ---- what is heeded

-- the message is from another replica of the setup to replica me, and tells a count of each replica's items
pub record IsAddressed (setup : Setup) (me : ℕ) (message : Message) : Type 0 where
  pub sender : message.from < setup.replicas
  pub other : message.from ≢ me
  pub receiver : message.to ≡ me
  pub cut : length message.cut ≡ setup.replicas

-- items of this sender, seen or not, that a replica may apply: in a row in its log, each of which fits the setup and can be accepted
pub record MayApply (setup : Setup) (v : View) (from : ℕ) (items : List LogItem) : Type 0 where
  pub first : ℕ
  pub row : AreInRow from first items
  pub fits : AllByRecursion (ItemFits setup) items
  pub accepted : (k : ℕ) (item : LogItem) → slice_get items k ≡ Some item → CanAccept setup v from (take k items) item

-- of these items the longest front that it may apply
pub record AreHeeded (setup : Setup) (v : View) (from : ℕ) (items heeded : List LogItem) : Type 0 where
  pub rest : List LogItem
  pub front : items ≡ heeded ++ rest
  pub may : MayApply setup v from heeded
  pub longest : (item : LogItem) (behind : List LogItem) → rest ≡ item ∷ behind → MayApply setup v from (heeded ++ item ∷ []) → ⊥

-- of these wants those that fit, in their order
abbrev pub AreFitting : Setup → List Want → List Want → Type 0
AreFitting setup [] fitting = fitting ≡ []
AreFitting setup (want ∷ wants) fitting =
    (WantFits setup want × (rest : List Want) × (fitting ≡ want ∷ rest) × AreFitting setup wants rest)
    ⊎ ((WantFits setup want → ⊥) × AreFitting setup wants fitting)

-- of a message that is addressed at most the first 16 items and the first 8 wants
pub record IsPartOf (setup : Setup) (v : View) (message heeded : Message) : Type 0 where
  pub items : AreHeeded setup v message.from (take 16 message.items) heeded.items
  pub wants : AreFitting setup (take 8 message.wants) heeded.wants
  pub all_else : heeded ≡ record message { items = heeded.items; wants = heeded.wants }

-- a message that tells, brings and wants nothing
abbrev pub silent : ℕ → Message → Message
silent replicas message = record message { cut = no_cut replicas; items = []; wants = [] }

-- what a replica heeds of a message, written as a message: of one that isn't addressed to it nothing
abbrev pub Heeds : Setup → View → Message → Message → Type 0
Heeds setup v message heeded =
    (IsAddressed setup v.me message × IsPartOf setup v message heeded)
    ⊎ ((IsAddressed setup v.me message → ⊥) × (heeded ≡ silent setup.replicas message))

-- a replica heeds the message whole, and nothing else of it
abbrev pub IsHeededWhole : Setup → View → Message → Type 0
IsHeededWhole setup v message = Heeds setup v message message × ((heeded : Message) → Heeds setup v message heeded → heeded ≡ message)
