use Rattle.std.specs.Prelude.{true, take}
use Rattle.std.specs.List.{list_any}
use Rattle.rights_table.specs.Touched.{MakesRoom, literal_touches}
use Rattle.rights_table.proofs.table.Table.ready_literals.Given as goal

-- room for the entries of the literals so far
abbrev pub invariant-loop-literal : goal.invariant-loop-literal
invariant-loop-literal l = MakesRoom l.setup true (λ r. list_any (literal_touches l.right r) (take l.literal-index l.literals)) l.fn.self l.self
