use Rattle.std.specs.Prelude.{◌≡◌, ◌≤◌, ◌<◌, ◌++◌, ◌∷◌, [], ℕ, take, false}
use Rattle.std.specs.List.{list_any}
use Rattle.effect_model.specs.Pruning.{literal_may}
use Rattle.effect_model.proofs.pruning.Seeking.literals_next.Given as goal

-- none so far may, before the next element
abbrev pub invariant-loop-literal : goal.invariant-loop-literal
invariant-loop-literal l = record {
  later : l.from ≤ l.next;
  untouched : (x : ℕ) → l.from ≤ x → x < l.next → list_any (literal_may l.self.inst.now l.self.lines.now (l.self.front.now ++ x ∷ []) l.self.sign) (take l.literal-index l.literals) ≡ false;
}
