use Rattle.std.proofs.Common.{◌≡◌, ◌++◌, replicate}
use Rattle.effect_model.proofs.state.fill_values.Given as goal

abbrev pub invariant-filling : goal.invariant-filling
invariant-filling l = l.out ≡ l.fn.out ++ replicate l._done l.value
