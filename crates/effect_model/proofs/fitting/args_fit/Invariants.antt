use Rattle.std.proofs.Common.{◌≡◌, ◌≤◌, drop, length}
use Rattle.effect_model.specs.Fitting.{args_fit}
use Rattle.effect_model.proofs.fitting.args_fit.Given as goal

abbrev pub invariant-loop-at : goal.invariant-loop-at
invariant-loop-at l = (args_fit l.spec (drop l.at l.params) (drop l.at l.inst.args) ≡ args_fit l.spec l.params l.inst.args) × (l.at ≤ length l.inst.args)
