-- The names of a specification's operations tell them apart.
use Rattle.std.specs.Prelude.{◌≡◌, ◌<◌, ℕ, true, List, length, Ok}
use Rattle.std.specs.List.{AllByRecursion}
use Rattle.line_text.specs.Spelling.{all_word}
use Rattle.spec_language.specs.Names.{place_in}
use Rattle.spec_language.specs.Reading.{spec_of}
use Rattle.spec_model.specs.Truths.{op_at}
use Rattle.spec_model.specs.declared.spec.Spec.{Spec}

-- each name is of letters, digits and `_`, and is that of no earlier operation
pub record HasOpNames (spec : Spec) : Type 0 where
  pub words : AllByRecursion (λ o. all_word o.name ≡ true) spec.ops
  pub apart : (i : ℕ) → i < length spec.ops → place_in (λ o. o.name) spec.ops (op_at spec i).name ≡ i

-- so it is in every specification that is read
abbrev pub OpsAreNamed : Type 0
OpsAreNamed = (texts : List (List ℕ)) (spec : Spec) → spec_of texts ≡ Ok spec → HasOpNames spec
