use Rattle.std.proofs.Common.{◌∙◌, sym}
use Rattle.effect_model.proofs.Ranging.{no_atom}
use Rattle.effect_model.proofs.rights.is_entry.Goals as goal

pub returns-in-None : goal.returns-in-None
returns-in-None c = (λ wrong. absurd cc, λ entry. sym (no_atom c.args.spec.now c.args.clause c.args.literal c.in-None.ensures.value) ∙ entry.atom)
