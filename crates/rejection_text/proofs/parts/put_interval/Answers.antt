use Rattle.std.proofs.Common.{◌++◌, ◌+◌, ◌-◌, ap, append_assoc, arith, sym, ◌∙◌}
use Rattle.std.specs.List.{flat_map}
use Rattle.ground_clauses.specs.Cases.{upto_from}
use Rattle.rejection_text.specs.Texts.{bit_text}
use Rattle.rejection_text.proofs.Pieces.{next_bit}
use Rattle.rejection_text.proofs.parts.put_interval.Goals as goal

pub loop-class-preserved : goal.loop-class-preserved
loop-class-preserved c =
    let rest = flat_map (bit_text c.args.bits) (upto_from (c.loop-class.class + 1) (c.args.count - (c.loop-class.class + 1))) in
    ap (λ xs. xs ++ rest) c.in_ok-put_bit.ensures
    ∙ append_assoc c.loop-class.out (bit_text c.args.bits c.loop-class.class) rest
    ∙ ap (λ xs. c.loop-class.out ++ xs) (sym (next_bit (bit_text c.args.bits) c.loop-class.class c.args.count (omega (arith, c.loop-class-test.true))))
    ∙ c.loop-class.invariant
