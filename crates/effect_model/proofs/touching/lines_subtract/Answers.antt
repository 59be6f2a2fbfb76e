use Rattle.std.proofs.Common.{◌≡◌, arith, get_or, ap}
use Rattle.std.proofs.lemmas.List.Sums.{sum_by_more_le, sum_by-take-le}
use Rattle.spec_model.specs.Changes.{line_subtracts}
use Rattle.effect_model.proofs.Sums.{subtracts_small}
use Rattle.effect_model.proofs.touching.lines_subtract.Goals as goal

pub overflow_add-all : goal.overflow_add-all
overflow_add-all c =
    let f = line_subtracts c.args.inst.now c.args.cell.now in
    let next : f c.line-item.result ≡ f (get_or c.args.lines.now c.loop-line.line-index c.line-item.result) = ap f c.line-item.is in
    rw (c.loop-line.invariant, c.line_subtracts-all.ensures)
    (omega (arith, next, sum_by_more_le f c.args.lines.now c.loop-line.line-index c.line-item.result c.loop-line-test.true, subtracts_small c.args.inst.now c.args.cell.now c.args.lines.now c.requires))

pub returns-clause-small : goal.returns-clause-small
returns-clause-small c =
    rw c.loop-line.invariant (omega (arith, sum_by-take-le (line_subtracts c.args.inst.now c.args.cell.now) c.args.lines.now c.loop-line.line-index, subtracts_small c.args.inst.now c.args.cell.now c.args.lines.now c.requires))
