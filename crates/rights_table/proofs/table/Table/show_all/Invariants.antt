use Rattle.std.specs.Prelude.{◌≡◌, ◌++◌, drop}
use Rattle.std.specs.List.{flat_map}
use Rattle.rights_table.specs.Showing.{shown_in}
use Rattle.rights_table.proofs.table.Table.show_all.Given as goal

-- what is left is shown yet
abbrev pub invariant-loop-right : goal.invariant-loop-right
invariant-loop-right l = l.out ++ flat_map (shown_in l.setup l.self) (drop l.right-index l.rights) ≡ l.fn.out ++ flat_map (shown_in l.setup l.self) l.rights
