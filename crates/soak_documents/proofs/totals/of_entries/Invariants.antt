use Rattle.std.proofs.Common.{◌≡◌, ◌*◌, take}
use Rattle.soak_documents.specs.Totals.{of_entries, AreAtMost}
use Rattle.soak_documents.proofs.totals.of_entries.Given as goal

abbrev pub invariant-loop-entry : goal.invariant-loop-entry
invariant-loop-entry l = (l.sum ≡ of_entries (take l.entry-index l.entries)) × AreAtMost (4294967295 * l.entry-index) l.sum
