use Rattle.std.proofs.Common.{◌∙◌, ap, ◌++◌}
use Rattle.ground_clauses.specs.Cases.{plain_sorts}
use Rattle.ground_clauses.proofs.Reaches.{few_more}
use Rattle.ground_clauses.proofs.pattern.add_op.Goals as goal

pub returns-clause-few : goal.returns-clause-few
returns-clause-few c =
    few_more c.args.spec.now c.args.op c.args.sorts.now c.add_plain.new.sorts c.requires.well_formed
    (c.add_plain.ensures ∙ ap (λ ps. c.args.sorts.now ++ plain_sorts ps) (c.as_slice.ensures.value ∙ ap (λ o. o.params) c.op_at.ensures))
