use Rattle.std.specs.Prelude.{◌≡◌, drop, map}
use Rattle.std.specs.List.{list_any}
use Rattle.run_model.specs.Levels.{is_permitted, forbid_at}
use Rattle.rights_table.specs.Tables.{holding_in}
use Rattle.rights_table.proofs.table.Table.meets_any.Given as goal

-- none of those so far
abbrev pub invariant-loop-literal : goal.invariant-loop-literal
invariant-loop-literal l =
    list_any (is_permitted l.setup.replicas (holding_in l.setup l.self)) (map (forbid_at l.right) (drop l.literal-index l.literals))
    ≡ list_any (is_permitted l.setup.replicas (holding_in l.setup l.self)) (map (forbid_at l.right) l.literals)
