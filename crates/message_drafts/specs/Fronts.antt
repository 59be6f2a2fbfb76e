-- The items of a message that are looked at: those in front that fit, and which of them are ready.
use Rattle.std.specs.Prelude.{◌≡◌, ℕ, List, [], ◌∷◌, ◌++◌, slice_index}
use Rattle.std.specs.List.{AllByRecursion}
use Rattle.spec_model.specs.declared.plan.Setup.{Setup}
use Rattle.spec_model.specs.declared.log.LogItem.{LogItem}
use Rattle.run_model.specs.Fitting.{AreInRow, ItemFits}
use Rattle.run_model.specs.Steps.{AreAdmitted}

-- this item of the sender's log, with just the items of that log before it in its past
pub record IsItem (from index : ℕ) (item : LogItem) : Type 0 where
  pub origin : item.origin ≡ from
  pub index_is : item.index ≡ index
  pub past : slice_index item.deps from ≡ index

-- the index of the first of these items
abbrev pub first_at : List LogItem → ℕ
first_at [] = 0
first_at (item ∷ items) = item.index

-- the item fits, and is this one of the sender's log
pub record MayFollow (setup : Setup) (from index : ℕ) (item : LogItem) : Type 0 where
  pub fits : ItemFits setup item
  pub is : IsItem from index item

-- of these items the longest front of items that fit and stand in a row in the sender's log
pub record IsFront (setup : Setup) (from : ℕ) (items front : List LogItem) : Type 0 where
  pub rest : List LogItem
  pub whole : items ≡ front ++ rest
  pub first : ℕ
  pub row : AreInRow from first front
  pub fits : AllByRecursion (ItemFits setup) front
  pub longest : (item : LogItem) (behind : List LogItem) (at : ℕ) → rest ≡ item ∷ behind → AreInRow from at (front ++ item ∷ []) → ItemFits setup item → ⊥

-- what may be applied of that front, if all can be accepted
pub record AreReadyOf (setup : Setup) (cut : List ℕ) (from : ℕ) (items ready : List LogItem) : Type 0 where
  pub front : List LogItem
  pub is_front : IsFront setup from items front
  pub admitted : AreAdmitted cut front ready
