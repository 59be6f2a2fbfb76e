use Rattle.std.specs.Prelude.{◌≡◌, ◌≤◌, ◌<◌, ◌++◌, ◌∷◌, [], ℕ, take, false}
use Rattle.std.specs.List.{list_any}
use Rattle.effect_model.specs.Touching.{line_may_set}
use Rattle.effect_model.proofs.next.next_set.Given as goal

-- no line so far touches anything before the next element
abbrev pub invariant-loop-line : goal.invariant-loop-line
invariant-loop-line l = record {
  later : l.from ≤ l.next;
  untouched : (x : ℕ) → l.from ≤ x → x < l.next → list_any (line_may_set l.inst l.pred (l.front ++ x ∷ [])) (take l.line-index l.lines) ≡ false;
}
