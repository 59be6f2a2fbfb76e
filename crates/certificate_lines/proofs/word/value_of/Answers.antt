use Rattle.std.proofs.Common.{◌+◌, ◌*◌, inl, inr, sym, ap, ◌∙◌}
use Rattle.certificate_lines.proofs.Digits.{all_digits, grows_past, none_read, one_read, stops_here}
use Rattle.certificate_lines.proofs.word.value_of.Goals as goal

pub loop-digit-init : goal.loop-digit-init
loop-digit-init c = none_read c.args.word.now

pub returns-then-not-is_ascii_digit : goal.returns-then-not-is_ascii_digit
returns-then-not-is_ascii_digit c = elim c.then-not-is_ascii_digit.either [
  | inl other ↦ stops_here c.args.word.now c.loop-digit.digit-index c.loop-digit.value 0 c.loop-digit-test.true c.loop-digit.invariant (sym c.is_ascii_digit.ensures.value ∙ other)
  | inr large ↦ grows_past c.args.word.now c.loop-digit.digit-index c.loop-digit.value c.loop-digit.invariant large.1
]

pub loop-digit-preserved : goal.loop-digit-preserved
loop-digit-preserved c =
    one_read c.args.word.now c.loop-digit.digit-index c.loop-digit.value 0 _ c.loop-digit-test.true c.loop-digit.invariant (sym c.if-not-is_ascii_digit.ensures.value)
    c.if-value-gt4294967295.false (ap (λ n. 10 * c.loop-digit.value + n) c.from.ensures)

pub returns : goal.returns
returns c = all_digits c.args.word.now c.loop-digit.digit-index c.loop-digit.value c.loop-digit-test.false c.loop-digit.invariant
