-- The rooms of the links between replicas.
use Rattle.std.specs.Prelude.{ℕ, zero, suc, List, [], ◌∷◌, ◌++◌, ◌==◌, if◌then◌else◌}
use Rattle.run_model.specs.declared.step.Ask.{Ask}
use Rattle.client_asks.specs.Asking.{courier_asks, sends_in}

-- how many messages the link to a replica has room for, from the one whose courier is asked this: all that are sent there, and at least one
abbrev pub room_for : List Ask → ℕ → ℕ
room_for asks to = if sends_in to asks == 0 then 1 else sends_in to asks

-- the rooms of its links to the first replicas
abbrev pub first_rooms : List Ask → ℕ → List ℕ
first_rooms asks zero = []
first_rooms asks (suc to) = first_rooms asks to ++ room_for asks to ∷ []

-- the rooms of the links from the first replicas, each to all replicas
abbrev pub first_rows : ℕ → ℕ → ℕ → List ℕ
first_rows replicas turns zero = []
first_rows replicas turns (suc from) = first_rows replicas turns from ++ first_rooms (courier_asks replicas from turns) replicas

-- the rooms of all links, row by row
abbrev pub all_rooms : ℕ → ℕ → List ℕ
all_rooms replicas turns = first_rows replicas turns replicas
