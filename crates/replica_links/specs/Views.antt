-- What a pass of a link knows: how each step changes it, and what it tells of what the link holds.
use Rattle.std.specs.Prelude.{◌≡◌, ◌+◌, ◌≤◌, true, false, List, [], ◌∷◌, ◌++◌, length}
use mathlib.Core.List.{IsPrefix}
use Rattle.replica_links.specs.declared.pass.View.{View}

module _ {M : Type 0} where
  -- the first pass has both ends
  abbrev pub newcomer : View M
  newcomer = record { puts = true; gets = true; put = []; taken = []; idle = 0 }

  -- a pass with no end, which knows nothing
  abbrev pub nobody : View M
  nobody = record { puts = false; gets = false; put = []; taken = []; idle = 0 }

  abbrev pub IsPutter : View M → Type 0
  IsPutter v = (v.puts ≡ true) × (v.gets ≡ false)

  abbrev pub IsGetter : View M → Type 0
  IsGetter v = (v.puts ≡ false) × (v.gets ≡ true)

  -- the end where messages are put
  abbrev pub putter : View M → View M
  putter v = record v { gets = false }

  -- the end where messages are taken
  abbrev pub getter : View M → View M
  getter v = record v { puts = false }

  -- a pass with no end, which knows the same
  abbrev pub witness : View M → View M
  witness v = record v { puts = false; gets = false }

  -- the end where messages are put takes the other one in
  abbrev pub with_both : View M → View M → View M
  with_both v w = record v { gets = true; taken = w.taken }

  abbrev pub hearing_put : View M → View M → View M
  hearing_put v w = record v { put = w.put }

  abbrev pub hearing_taken : View M → View M → View M
  hearing_taken v w = record v { taken = w.taken }

  abbrev pub once_more_idle : View M → View M
  once_more_idle v = record v { idle = v.idle + 1 }

  -- the message was put behind all others
  abbrev pub putting : View M → M → View M → Type 0
  putting v x w = w ≡ record v { put = v.put ++ x ∷ [] }

  -- the message was taken after all others
  abbrev pub taking : View M → M → View M → Type 0
  taking v x w = w ≡ record v { taken = v.taken ++ x ∷ [] }

  -- the same, and it was put at that place
  abbrev pub taking_left : View M → M → View M → Type 0
  taking_left v x w = taking v x w × IsPrefix w.taken w.put

  -- what the link holds was put, and so was all that was taken before
  abbrev pub HoldsAtMost : View M → List M → Type 0
  HoldsAtMost v items = length v.taken + length items ≤ length v.put

  -- what was put and not taken is held
  abbrev pub HoldsTheRest : View M → List M → Type 0
  HoldsTheRest v items = IsPrefix v.put (v.taken ++ items)

  -- what was put is what was taken, followed by what is held
  abbrev pub HoldsJustTheRest : View M → List M → Type 0
  HoldsJustTheRest v items = v.put ≡ v.taken ++ items

  -- what was taken is a beginning of what was put
  abbrev pub TookWhatWasPut : View M → List M → Type 0
  TookWhatWasPut v items = IsPrefix v.taken v.put
