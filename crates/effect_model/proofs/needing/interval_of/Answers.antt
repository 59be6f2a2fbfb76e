use Rattle.std.proofs.Common.{sym, ap, ◌∙◌, get_or, ℕ}
use Rattle.spec_model.specs.Separated.{interval_place}
use Rattle.spec_model.specs.Truths.{no_span}
use Rattle.effect_model.proofs.Acts.{none_there}
use Rattle.effect_model.proofs.needing.interval_of.Goals as goal

pub returns-in-None : goal.returns-in-None
returns-in-None c =
    let args = c.args.inst.now.args in
    sym (none_there args c.interval_place-place.result no_span (sym c.in-None.ensures)) ∙ ap (λ (i : ℕ). get_or args i no_span) (c.interval_place-place.ensures ∙ ap interval_place c.params_of.ensures)
