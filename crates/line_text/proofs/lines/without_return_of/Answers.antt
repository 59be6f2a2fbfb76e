use Rattle.std.proofs.Common.{◌≡◌, suc, ◌-◌, length, sym, ◌∙◌, arith}
use Rattle.std.proofs.lemmas.Bool.{eqb-false}
use Rattle.line_text.proofs.LineCuts.{without_return-cut, without_return-keep}
use Rattle.line_text.proofs.lines.without_return_of.Goals as goal

pub returns-then-line-last-eq13 : goal.returns-then-line-last-eq13
returns-then-line-last-eq13 c =
    let ne = eqb-false _ _ (sym c.is_empty.ensures ∙ c.if-is_empty.false) in
    let len : length c.args.line.now ≡ suc (length c.args.line.now - 1) = omega arith in
    c.split_at.ensures.front ∙ sym (without_return-cut (length c.args.line.now - 1) c.args.line.now len c.if-line-last-eq13.true)

pub returns-else-line-last-eq13 : goal.returns-else-line-last-eq13
returns-else-line-last-eq13 c =
    let ne = eqb-false _ _ (sym c.is_empty.ensures ∙ c.if-is_empty.false) in
    let len : length c.args.line.now ≡ suc (length c.args.line.now - 1) = omega arith in
    sym (without_return-keep (length c.args.line.now - 1) c.args.line.now len c.if-line-last-eq13.false)
