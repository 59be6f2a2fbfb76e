-- The truths of a state, with the effect of an instance laid over them.
use Rattle.std.specs.Prelude.{ℕ, ◌<◌, Bool, List, length, Option}
use Rattle.spec_model.specs.declared.clause.Clause.{Clause}
use Rattle.spec_model.specs.declared.clause.Literal.{Literal}
use Rattle.spec_model.specs.declared.instance.Atom.{Atom}
use Rattle.spec_model.specs.Breaks.{laid_over, literal_set, breaks_at, broken_at}
use Rattle.spec_model.specs.Truths.{Truths}
use Rattle.effect_model.specs.declared.truth.Laid.{Laid}
use Rattle.effect_model.specs.Places.{KnowsAll}

-- the operation is declared, and every atom may be asked for
pub record IsLaid {S : Type 0} (knows : S → Atom → Type 0) (laid : Laid S) : Type 0 where
  pub known : laid.inst.now.op < length laid.spec.now.ops
  pub all : KnowsAll (knows laid.state.now) laid.spec.now

-- the truths once the effect is laid over
abbrev pub truths_after : {S : Type 0} → (S → Truths) → Laid S → Truths
truths_after truths laid = laid_over laid.spec.now laid.inst.now (truths laid.state.now)

-- the effect sets the literal's atom
abbrev pub sets : {S : Type 0} → Laid S → List ℕ → Literal → Bool
sets laid xs l = literal_set laid.spec.now laid.inst.now xs l

-- the effect makes the clause false at these elements
abbrev pub falsifies : {S : Type 0} → (S → Truths) → Laid S → Clause → List ℕ → Bool
falsifies truths laid c xs = breaks_at laid.spec.now laid.inst.now (truths laid.state.now) c xs

-- the first elements at which it makes the clause false
abbrev pub first_broken : {S : Type 0} → (S → Truths) → Laid S → Clause → Option (List ℕ)
first_broken truths laid c = broken_at laid.spec.now laid.inst.now (truths laid.state.now) c
