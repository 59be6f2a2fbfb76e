-- Whether an effect may make a literal of a clause false where its first variables have some elements.
use Rattle.std.specs.Prelude.{ℕ, Bool, true, false, not, ◌&&◌, ◌||◌, ◌==◌, List, [], ◌∷◌, ◌++◌, map, nat_lt, slice_get}
use Rattle.std.specs.List.{list_all, list_any, AllByRecursion}
use Rattle.std.specs.Option.{option_map_or}
use Rattle.spec_model.specs.declared.clause.Clause.{Clause}
use Rattle.spec_model.specs.declared.clause.Literal.{Literal}
use Rattle.spec_model.specs.declared.clause.Literal.TheVariants.{Atom, Equal}
use Rattle.spec_model.specs.declared.instance.Inst.{Inst}
use Rattle.spec_model.specs.declared.operation.Line.{Line}
use Rattle.spec_model.specs.declared.operation.Line.TheVariants.{Set, Clear, Add, Sub}
use Rattle.spec_model.specs.declared.operation.Term.{Term}
use Rattle.spec_model.specs.declared.spec.Spec.{Spec}
use Rattle.spec_model.specs.Truths.{Within, term_has, inst_has, values}
use Rattle.spec_model.specs.Universe.{tuples}
use Rattle.effect_model.specs.Places.{AtomFits}

-- the term has the variable's element, if that is given
unfoldable pub term_may : (ℕ → ℕ → Bool) → List ℕ → Term → ℕ → Bool
term_may has front t v = option_map_or (term_has has t) (slice_get front v) true

abbrev pub terms_may : (ℕ → ℕ → Bool) → List ℕ → List Term → List ℕ → Bool
terms_may has front [] [] = true
terms_may has front [] (v ∷ vars) = false
terms_may has front (t ∷ terms) [] = false
terms_may has front (t ∷ terms) (v ∷ vars) = term_may has front t v && terms_may has front terms vars

-- the line may make a literal of this sign false, over the predicate at these variables
abbrev pub line_may : Inst → List ℕ → Bool → ℕ → List ℕ → Line → Bool
line_may inst front sign p vars (Set q terms) = not sign && (p == q && terms_may (inst_has inst) front terms vars)
line_may inst front sign p vars (Clear q terms) = sign && (p == q && terms_may (inst_has inst) front terms vars)
line_may inst front sign p vars (Add n params amount) = false
line_may inst front sign p vars (Sub n params amount) = false

abbrev pub literal_may : Inst → List Line → List ℕ → Bool → Literal → Bool
literal_may inst lines front sign (Atom p vars) = list_any (line_may inst front sign p vars) lines
literal_may inst lines front sign (Equal l r) = false

abbrev pub clause_may : Inst → List Line → List ℕ → Clause → Bool
clause_may inst lines front c = list_any (literal_may inst lines front false) c.premise || list_any (literal_may inst lines front true) c.conclusion

-- all these variables are among the first ones, of which there are so many
abbrev pub are_given : ℕ → List ℕ → Bool
are_given count vars = list_all (λ v. nat_lt v count) vars

-- so are those of a literal that is an atom
abbrev pub literal_given : ℕ → Literal → Bool
literal_given count (Atom p vars) = are_given count vars
literal_given count (Equal l r) = false

-- a literal's atom at these elements is one of the universe
abbrev pub LiteralStands : Spec → List ℕ → Literal → Type 0
LiteralStands spec xs (Atom p vars) = AtomFits spec (record { pred = p; args = values xs vars })
LiteralStands spec xs (Equal l r) = Unit {0}

-- and that of each literal of a clause
pub record ClauseStands (spec : Spec) (xs : List ℕ) (c : Clause) : Type 0 where
  pub premise : AllByRecursion (LiteralStands spec xs) c.premise
  pub conclusion : AllByRecursion (LiteralStands spec xs) c.conclusion

-- all tuples below these sizes, behind these elements
abbrev pub tuples_behind : List ℕ → List ℕ → List (List ℕ)
tuples_behind front sizes = map (λ xs. front ++ xs) (tuples sizes)

-- so it is at all elements of these sizes behind the first ones
abbrev pub StandsBehind : Spec → Clause → List ℕ → List ℕ → Type 0
StandsBehind spec c front sizes = (xs : List ℕ) → Within (λ s. s) sizes xs → ClauseStands spec (front ++ xs) c
