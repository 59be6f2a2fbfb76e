use Rattle.std.proofs.Common.{◌≡◌, suc, ◌-◌, length, sym, ◌∙◌, arith}
use Rattle.std.proofs.lemmas.Bool.{eqb-false}
use Rattle.spec_lines.proofs.LiteralTurns.{mask_cut_at, mask_keep_at}
use Rattle.spec_lines.proofs.clause_form.mask_at_end.Goals as goal

pub returns-then-is_mask-clause-mask : goal.returns-then-is_mask-clause-mask
returns-then-is_mask-clause-mask c =
    let some = eqb-false _ _ (sym c.is_empty.ensures ∙ c.if-is_empty.false) in
    let len : length c.args.tokens.now ≡ suc (length c.args.tokens.now - 1) = omega arith in
    sym (mask_cut_at (length c.args.tokens.now - 1) c.args.tokens.now c.index-tokens-last.result len c.index-tokens-last.is (sym c.is_mask.ensures ∙ c.if-is_mask.true)).0

pub returns-then-is_mask-clause-rest : goal.returns-then-is_mask-clause-rest
returns-then-is_mask-clause-rest c =
    let some = eqb-false _ _ (sym c.is_empty.ensures ∙ c.if-is_empty.false) in
    let len : length c.args.tokens.now ≡ suc (length c.args.tokens.now - 1) = omega arith in
    c.split_at.ensures.front ∙ sym (mask_cut_at (length c.args.tokens.now - 1) c.args.tokens.now c.index-tokens-last.result len c.index-tokens-last.is (sym c.is_mask.ensures ∙ c.if-is_mask.true)).1

pub returns-else-is_mask-clause-mask : goal.returns-else-is_mask-clause-mask
returns-else-is_mask-clause-mask c =
    let some = eqb-false _ _ (sym c.is_empty.ensures ∙ c.if-is_empty.false) in
    let len : length c.args.tokens.now ≡ suc (length c.args.tokens.now - 1) = omega arith in
    sym (mask_keep_at (length c.args.tokens.now - 1) c.args.tokens.now c.index-tokens-last.result len c.index-tokens-last.is (sym c.is_mask.ensures ∙ c.if-is_mask.false)).0

pub returns-else-is_mask-clause-rest : goal.returns-else-is_mask-clause-rest
returns-else-is_mask-clause-rest c =
    let some = eqb-false _ _ (sym c.is_empty.ensures ∙ c.if-is_empty.false) in
    let len : length c.args.tokens.now ≡ suc (length c.args.tokens.now - 1) = omega arith in
    sym (mask_keep_at (length c.args.tokens.now - 1) c.args.tokens.now c.index-tokens-last.result len c.index-tokens-last.is (sym c.is_mask.ensures ∙ c.if-is_mask.false)).1
