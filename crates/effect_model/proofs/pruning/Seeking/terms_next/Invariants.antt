use Rattle.std.proofs.Common.{◌≡◌, ◌≤◌, ◌<◌, ◌++◌, ◌∷◌, [], ℕ, drop, false}
use Rattle.spec_model.specs.Truths.{inst_has}
use Rattle.effect_model.specs.Pruning.{terms_may}
use Rattle.effect_model.proofs.pruning.Seeking.terms_next.Given as goal

-- no element before the next one will do, and where the terms that are left fail all do
abbrev pub invariant-loop-term : goal.invariant-loop-term
invariant-loop-term l = record {
  later : l.from ≤ l.next;
  untouched : (x : ℕ) → l.from ≤ x → x < l.next → terms_may (inst_has l.self.inst.now) (l.self.front.now ++ x ∷ []) l.terms l.vars ≡ false;
  rest : (x : ℕ) → terms_may (inst_has l.self.inst.now) (l.self.front.now ++ x ∷ []) (drop l.term-index l.terms) l.left ≡ false → terms_may (inst_has l.self.inst.now) (l.self.front.now ++ x ∷ []) l.terms l.vars ≡ false;
}
