-- The source and the sink in memory, as a caller knows them.
use Rattle.std.specs.Prelude.{ℕ, ◌-◌, List, Bool, drop, length, ◌==◌, ◌&&◌, ◌||◌, nat_lt}
use Rattle.ind_io.specs.Calls.{is_listed}
use Rattle.ind_io.specs.declared.memory.MemSource.{MemSource}
use Rattle.ind_io.specs.declared.memory.MemSink.{MemSink}

-- the bytes that are still to come
abbrev pub source_left : MemSource → List ℕ
source_left s = drop s.at s.bytes

-- how often it has failed
abbrev pub source_faults : MemSource → ℕ
source_faults s = s.faults

-- how many calls it has answered: the number of the next one
abbrev pub source_calls : MemSource → ℕ
source_calls s = s.calls

-- the most bytes that come at once
abbrev pub source_piece : MemSource → ℕ
source_piece s = s.piece

-- the numbers of the calls that fail
abbrev pub source_fails : MemSource → List ℕ
source_fails s = s.fails

-- the bytes that were written
abbrev pub sink_held : MemSink → List ℕ
sink_held s = s.bytes.items

-- how many more bytes there is room for
abbrev pub sink_room : MemSink → ℕ
sink_room s = s.room - length s.bytes.items

-- how often it has failed
abbrev pub sink_faults : MemSink → ℕ
sink_faults s = s.faults

-- how many calls it has answered: the number of the next one
abbrev pub sink_calls : MemSink → ℕ
sink_calls s = s.calls

-- the most bytes that go at once
abbrev pub sink_piece : MemSink → ℕ
sink_piece s = s.piece

-- the numbers of the calls that fail
abbrev pub sink_fails : MemSink → List ℕ
sink_fails s = s.fails

-- the next write of this piece fails: its number is listed, or there is no room for any of it
abbrev pub write_fails : MemSink → List ℕ → Bool
write_fails s piece = is_listed s.fails s.calls || (nat_lt 0 (length piece) && sink_room s == 0)
