use Rattle.std.proofs.Common.{◌-◌, eqb, get_or, length, sym, ap, ◌∙◌, arith}
use Rattle.certificate_check.proofs.Hints.{ends_last, nil_length}
use Rattle.certificate_check.proofs.steps.ends_empty.Goals as goal

pub returns-in_default : goal.returns-in_default
returns-in_default c =
    ap (λ n. eqb n 0) c.len.ensures.value ∙ sym (nil_length (get_or c.args.steps.now (length c.args.steps.now - 1) c.index-steps-count.result).lits)
    ∙ sym (ends_last c.args.steps.now c.index-steps-count.result (omega (arith, c.in_default)))
