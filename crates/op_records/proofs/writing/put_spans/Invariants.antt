use Rattle.std.proofs.Common.{◌≡◌, ◌++◌, drop}
use Rattle.std.specs.List.{flat_map}
use Rattle.op_records.specs.Spelling.{span_text, spans_text}
use Rattle.op_records.proofs.writing.put_spans.Given as goal

abbrev pub invariant-loop-at : goal.invariant-loop-at
invariant-loop-at l = l.out ++ flat_map span_text (drop l.at l.spans) ≡ l.fn.out ++ spans_text l.spans
