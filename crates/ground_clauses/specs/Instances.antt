-- Instances of clauses at classes, as they are looked for.
use Rattle.std.specs.Prelude.{ℕ, Bool, true, false, ◌&&◌, ◌||◌, not, if◌then◌else◌, eqb, ltb, get_or, length, List, [], ◌∷◌, ◌++◌, map, filter}
use Rattle.std.specs.List.{list_any, flat_map}
use Rattle.ground_clauses.specs.Cases.{assignments, class_count, equalities_true, over, sorts_of}
use Rattle.ground_clauses.specs.Query.{Hypothesis, atom_of, instance_atoms, literal_atoms, same_atom}
use Rattle.ground_clauses.specs.declared.instances.Instance.{Instance}
use Rattle.ground_clauses.specs.declared.instances.Search.{Search}
use Rattle.spec_model.specs.Truths.{values, var_sorts}
use Rattle.spec_model.specs.declared.clause.Clause.{Clause}
use Rattle.spec_model.specs.declared.clause.Literal.{Literal}
use Rattle.spec_model.specs.declared.clause.Literal.TheVariants.{Atom, Equal}
use Rattle.spec_model.specs.declared.clause.Var.{Var}
use Rattle.spec_model.specs.declared.instance.Atom.{Atom as ClassAtom}

abbrev pub instance_of : Instance → Hypothesis
instance_of i = over i.clause.now i.classes

-- the atoms of literals at classes
abbrev pub atoms_at : List ℕ → List Literal → List ClassAtom
atoms_at cs ls = flat_map (literal_atoms cs) ls

-- an atom at classes that is one of these
abbrev pub is_shared : List ClassAtom → List ℕ → Literal → Bool
is_shared atoms cs (Atom p vars) = list_any (same_atom (atom_of p (values cs vars))) atoms
is_shared atoms cs (Equal l r) = false

-- a variable that can have this class, where the first classes are these
abbrev pub can_be : List ℕ → ℕ → ℕ → Bool
can_be front v x = not (ltb v (length front)) || eqb (get_or front v 0) x

abbrev pub can_agree : List ℕ → List ℕ → List ℕ → Bool
can_agree front [] [] = true
can_agree front [] (x ∷ xs) = false
can_agree front (v ∷ vs) [] = false
can_agree front (v ∷ vs) (x ∷ xs) = can_be front v x && can_agree front vs xs

abbrev pub can_be_atom : ℕ → List ℕ → List ℕ → ClassAtom → Bool
can_be_atom p front vars a = eqb p a.pred && can_agree front vars a.args

-- a literal that can be one of these atoms, where the first classes are these
abbrev pub can_share : List ClassAtom → List ℕ → Literal → Bool
can_share atoms front (Atom p vars) = list_any (can_be_atom p front vars) atoms
can_share atoms front (Equal l r) = false

-- one of these atoms is the clause's, and its equalities don't make it true
abbrev pub meets : List ClassAtom → Hypothesis → Bool
meets atoms h = list_any (λ a. list_any (same_atom a) atoms) (instance_atoms h) && not (equalities_true h)

-- the instances of a clause that meet the target, with these classes in front
abbrev pub found_from : Search → Clause → List ℕ → List Var → List Hypothesis
found_from s c front vars =
    filter (meets s.target.now) (map (over c) (map (λ cs. front ++ cs) (assignments (class_count s.sorts.now s.classes.now) (sorts_of vars))))

-- the instances of a clause that meet the target
abbrev pub clause_instances : Search → Clause → List Hypothesis
clause_instances s c = filter (meets s.target.now) (map (over c) (assignments (class_count s.sorts.now s.classes.now) (var_sorts c)))

-- an atom behind others, unless it is one of them
abbrev pub with_one : List ClassAtom → ClassAtom → List ClassAtom
with_one once a = if list_any (same_atom a) once then once else once ++ a ∷ []

-- these atoms behind others, each once
abbrev pub with_all : List ClassAtom → List ClassAtom → List ClassAtom
with_all once [] = once
with_all once (a ∷ atoms) = with_all (with_one once a) atoms
