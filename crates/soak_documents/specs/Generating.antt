-- The document that follows a seed.
use Rattle.std.specs.Prelude.{ℕ, zero, suc, ◌+◌, ◌*◌, ◌/◌, ◌%◌, ◌^◌, List, [], ◌∷◌, ◌++◌, Some, if◌then◌else◌, ◌==◌, nat_le, nat_lt}
use Rattle.run_model.specs.declared.step.Ask.{Ask}
use Rattle.run_model.specs.declared.step.Ask.TheVariants as asks
use Rattle.run_model.specs.declared.step.Order.{Order}
use Rattle.scenario_text.specs.declared.document.Document.{Document}
use Rattle.scenario_text.specs.declared.document.Work.TheVariants as works
use Rattle.scenario_text.specs.Numbered.{sends_of}
use Rattle.soak_documents.specs.Stock.{stock_spec}

-- ---- draws

-- the state behind a draw
unfoldable pub next_state : ℕ → ℕ
next_state x = (x * 6364136223846793005 + 1442695040888963407) % 2 ^ 64

-- what is drawn, by the state behind the draw
unfoldable pub drawn : ℕ → ℕ
drawn x = x / 2 ^ 33

-- ---- a line that is drawn

-- the other replica with this number, in ascending order
abbrev pub peer_of : ℕ → ℕ → ℕ
peer_of replica number = if nat_lt number replica then number else number + 1

-- a request for one item
abbrev pub request : ℕ → ℕ → ℕ → Order
request replica op i = record { replica = replica; ask = asks.Do (record { op = op; args = record { lo = i; hi = i } ∷ [] }) }

-- the next send to the peer
abbrev pub send : List Order → ℕ → ℕ → Order
send before replica peer = record { replica = replica; ask = asks.Send peer (Some (sends_of replica peer before)) }

-- a take of one of so many sends of the peer, which a draw chooses; where there is none, a send
abbrev pub take_of : List Order → ℕ → ℕ → ℕ → ℕ → Order
take_of before replica peer draw sends = if sends == 0 then send before replica peer else record { replica = replica; ask = asks.Take peer (Some (draw % sends)) }

-- of ten lines five buy, one refills, two send and two take
abbrev pub line_of_kind : List Order → ℕ → ℕ → ℕ → ℕ → Order
line_of_kind before kind replica d3 d4 =
    if nat_le kind 4 then request replica 0 (d3 % 8)
    else if kind == 5 then request replica 1 (d3 % 8)
    else if nat_le kind 7 then send before replica (peer_of replica (d3 % 3))
    else take_of before replica (peer_of replica (d3 % 3)) d4 (sends_of (peer_of replica (d3 % 3)) replica before)

-- the line that four draws choose, behind these lines
unfoldable pub chosen : List Order → ℕ → ℕ → ℕ → ℕ → Order
chosen before d1 d2 d3 d4 = line_of_kind before (d1 % 10) (d2 % 4) d3 d4

-- ---- the schedule

-- a line, and the state behind it
pub record Turn : Type 0 where
  pub order : Order
  pub state : ℕ

-- the replica whose turn it is to crash and recover
abbrev pub crashing : ℕ → ℕ
crashing number = number / 500 % 4

-- four draws, and the line that they choose
abbrev pub drawn_turn : List Order → ℕ → Turn
drawn_turn before x =
    let a = next_state x in
    let b = next_state a in
    let c = next_state b in
    let d = next_state c in
    record { order = chosen before (drawn a) (drawn b) (drawn c) (drawn d); state = d }

-- the line with this number behind these lines, from a state: the last two of 500 are a crash and a recovery
unfoldable pub turn : List Order → ℕ → ℕ → Turn
turn before number x =
    if number % 500 == 498 then record { order = record { replica = crashing number; ask = asks.Crash }; state = x }
    else if number % 500 == 499 then record { order = record { replica = crashing number; ask = asks.Recover }; state = x }
    else drawn_turn before x

-- so many lines from a number on, behind these lines, from a state
unfoldable pub lines_from : ℕ → List Order → ℕ → ℕ → List Order
lines_from zero before number x = []
lines_from (suc count) before number x =
    (turn before number x).order ∷ lines_from count (before ++ (turn before number x).order ∷ []) (number + 1) (turn before number x).state

-- ---- the document

-- the whole schedule
unfoldable pub schedule_of : ℕ → List Order
schedule_of seed = lines_from 20000 [] 0 seed

-- the document of a seed
abbrev pub generated : ℕ → Document
generated seed = record { spec = stock_spec; replicas = 4; stops = []; work = works.Schedule (schedule_of seed) }
