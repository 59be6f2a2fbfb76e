-- What is wanted of the needs on the literals of marked clauses.
use Rattle.std.specs.Prelude.{ℕ, ◌+◌, ◌≤◌, not, ◌||◌, if◌then◌else◌, List, [], ◌++◌, map, length}
use Rattle.std.specs.List.{flat_map, AllByRecursion}
use Rattle.spec_model.specs.declared.clause.Clause.{Clause}
use Rattle.spec_model.specs.declared.instance.Atom.{Atom}
use Rattle.spec_model.specs.declared.instance.Inst.{Inst}
use Rattle.spec_model.specs.declared.plan.LockKind.{LockKind}
use Rattle.spec_model.specs.declared.plan.Plan.{Plan}
use Rattle.spec_model.specs.declared.right.Need.{Need}
use Rattle.spec_model.specs.declared.spec.Spec.{Spec}
use Rattle.spec_model.specs.Breaks.{laid_over}
use Rattle.spec_model.specs.Masks.{allow_need, falsified_places, falsifies, instances_of, is_given, true_places, witness_need}
use Rattle.spec_model.specs.Needs.{escrow_needs, key_needs, lock_need, part_need}
use Rattle.spec_model.specs.Truths.{Truths, clause_in}
use Rattle.effect_model.specs.declared.masking.Wanted.{Wanted}
use Rattle.effect_model.specs.declared.truth.Laid.{Laid}
use Rattle.effect_model.specs.Laying.{IsLaid}
use Rattle.effect_model.specs.Pruning.{ClauseStands}

-- at most 4096 reservations, each with a key of at most four places
pub record AreFew (kinds : List LockKind) : Type 0 where
  pub few : length kinds ≤ 4096
  pub short : AllByRecursion (λ l. length l.key ≤ 4) kinds

-- at most eight literals
abbrev pub IsShort : Clause → Type 0
IsShort c = length c.premise + length c.conclusion ≤ 8

-- the needs of a clause at these elements may be listed
pub record MayMask {S : Type 0} (knows : S → Atom → Type 0) (laid : Laid S) (c : Clause) (xs : List ℕ) : Type 0 where
  pub ready : IsLaid knows laid
  pub stands : ClauseStands laid.spec.now xs c
  pub short : IsShort c

-- allow on the literals that the effect makes false, and the witness, each where it is wanted
abbrev pub wanted_parts : Wanted → Spec → Inst → Truths → ℕ → Clause → List ℕ → List Need
wanted_parts wanted spec inst s i c xs =
    (if wanted.allows then map (allow_need i xs) (falsified_places spec inst xs c) else []) ++ (if wanted.witness then witness_need i xs (true_places (laid_over spec inst s) xs c) else [])

-- what is wanted of what an instance of a marked clause needs
abbrev pub wanted_needs : Wanted → Spec → Inst → Truths → ℕ → Clause → List ℕ → List Need
wanted_needs wanted spec inst s i c xs = if is_given xs c || not (falsifies spec inst xs c) then [] else wanted_parts wanted spec inst s i c xs

-- of all instances of a clause
abbrev pub wanted_of : Wanted → Spec → Inst → Truths → ℕ → List Need
wanted_of wanted spec inst s i = flat_map (wanted_needs wanted spec inst s i (clause_in spec i)) (instances_of spec i)

-- of masks
abbrev pub wanted_of_masks : Wanted → Spec → Inst → Truths → List ℕ → List Need
wanted_of_masks wanted spec inst s masks = flat_map (wanted_of wanted spec inst s) masks

-- all that an instance needs, but of masks only what is wanted
abbrev pub needs_wanted : Wanted → Plan → Spec → Inst → Truths → List Need
needs_wanted wanted plan spec inst s =
    escrow_needs spec inst ++ (key_needs (lock_need inst) inst 0 plan.locks ++ (wanted_of_masks wanted spec inst s plan.masks ++ key_needs (part_need spec inst) inst 0 plan.parts))
