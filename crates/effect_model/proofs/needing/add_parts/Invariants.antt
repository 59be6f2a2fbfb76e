use Rattle.std.proofs.Common.{◌≡◌, ◌++◌, drop}
use Rattle.spec_model.specs.Needs.{key_needs, part_need}
use Rattle.effect_model.proofs.needing.add_parts.Given as goal

abbrev pub invariant-loop-at : goal.invariant-loop-at
invariant-loop-at l = l.out ++ key_needs (part_need l.spec l.inst) l.inst l.at (drop l.at l.parts) ≡ l.fn.out ++ key_needs (part_need l.spec l.inst) l.inst 0 l.parts
