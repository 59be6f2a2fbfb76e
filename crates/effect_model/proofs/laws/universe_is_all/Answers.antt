use Rattle.effect_model.proofs.Whole.{atoms_all, cells_all}
use Rattle.effect_model.proofs.laws.universe_is_all.Goals as goal

pub returns : goal.returns
returns c = λ spec. (atoms_all spec, cells_all spec)
