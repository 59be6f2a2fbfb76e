use Rattle.std.proofs.Common.{◌≡◌, drop}
use Rattle.line_text.specs.Tokens.{all_within, is_stop}
use Rattle.line_text.proofs.limits.are_small.Given as goal

abbrev pub invariant-loop-place : goal.invariant-loop-place
invariant-loop-place l = all_within (is_stop l.tokens) l.place (drop l.place l.tokens) ≡ all_within (is_stop l.tokens) 0 l.tokens
