-- The source and the sink over std's reader and writer, as a caller knows them.
use Rattle.std.specs.Prelude.{ℕ}
use Rattle.ind_io.specs.declared.standard.StdSource.{StdSource}
use Rattle.ind_io.specs.declared.standard.StdSink.{StdSink}

-- the reader that the bytes come from
abbrev pub source_reader : {R : Type 0} → StdSource R → R
source_reader s = s.reader

-- how often it has failed
abbrev pub source_faults : {R : Type 0} → StdSource R → ℕ
source_faults s = s.faults

-- how many calls it has answered
abbrev pub source_calls : {R : Type 0} → StdSource R → ℕ
source_calls s = s.calls

-- the writer that the bytes go to
abbrev pub sink_writer : {W : Type 0} → StdSink W → W
sink_writer s = s.writer

-- how often it has failed
abbrev pub sink_faults : {W : Type 0} → StdSink W → ℕ
sink_faults s = s.faults

-- how many calls it has answered
abbrev pub sink_calls : {W : Type 0} → StdSink W → ℕ
sink_calls s = s.calls
