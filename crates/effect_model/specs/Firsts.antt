-- First truths, atom by atom.
use Rattle.std.specs.Prelude.{Bool}
use Rattle.spec_model.specs.declared.instance.Atom.{Atom}
use Rattle.spec_model.specs.declared.spec.Spec.{Spec}
use Rattle.spec_model.specs.Universe.{first_truths}

abbrev pub atom_first : Spec → Atom → Bool
atom_first spec atom = first_truths spec atom.pred atom.args
