use Rattle.std.specs.Prelude.{◌≡◌, ◌≤◌, ◌<◌, ◌++◌, ◌∷◌, [], ℕ, take, false}
use Rattle.std.specs.List.{list_any}
use Rattle.effect_model.specs.Pruning.{line_may}
use Rattle.effect_model.proofs.pruning.Seeking.lines_next.Given as goal

-- none so far may, before the next element
abbrev pub invariant-loop-line : goal.invariant-loop-line
invariant-loop-line l = record {
  later : l.from ≤ l.next;
  untouched : (x : ℕ) → l.from ≤ x → x < l.next → list_any (line_may l.self.inst.now (l.self.front.now ++ x ∷ []) l.self.sign l.pred l.vars) (take l.line-index l.self.lines.now) ≡ false;
}
