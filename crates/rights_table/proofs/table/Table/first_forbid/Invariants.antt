use Rattle.std.specs.Prelude.{◌≡◌, drop, map}
use Rattle.std.specs.List.{find}
use Rattle.run_model.specs.Levels.{is_permitted, forbid_at}
use Rattle.rights_table.specs.Acting.{shares_in}
use Rattle.rights_table.proofs.table.Table.first_forbid.Given as goal

-- none of those so far
abbrev pub invariant-loop-literal : goal.invariant-loop-literal
invariant-loop-literal l =
    find (is_permitted l.setup.replicas (shares_in l.setup l.self)) (map (forbid_at l.right) (drop l.literal-index l.literals))
    ≡ find (is_permitted l.setup.replicas (shares_in l.setup l.self)) (map (forbid_at l.right) l.literals)
