-- Pieces of a query, over numbered variables.
use Rattle.std.specs.Prelude.{ℕ, ◌<◌, ◌^◌, Bool, true, false, if◌then◌else◌, List, [], ◌++◌, length, map, flat_map}
use Rattle.ground_clauses.specs.Cases.{CaseKnown, case_sets}
use Rattle.ground_clauses.specs.Instances.{instance_of}
use Rattle.ground_clauses.specs.Query.{Hypothesis, Sets, atom_clauses, clause_of, denial, forms, hypothesis_clauses, literal_form, literal_is_atom, numbered, rise_clause}
use Rattle.ground_clauses.specs.declared.clauses.Lit.{Lit}
use Rattle.ground_clauses.specs.declared.instances.Instance.{Instance}
use Rattle.ground_clauses.specs.declared.queries.Asked.{Asked}
use Rattle.ground_clauses.specs.declared.state_lit.StateLit.{StateLit}
use Rattle.spec_model.specs.declared.clause.Literal.{Literal}
use Rattle.spec_model.specs.declared.instance.Atom.{Atom as ClassAtom}
use Rattle.spec_model.specs.declared.state.Moment.{Moment}
use Rattle.spec_model.specs.declared.state.Moment.TheVariants.{Both}
use Rattle.spec_model.specs.declared.state.Rise.{Rise}

pub record CanAsk (q : Asked) : Type 0 where
  pub known : CaseKnown q.spec.now q.case.now
  pub few : length q.variables.now < 2 ^ 32

abbrev pub sets_in : Asked → Sets
sets_in q = case_sets q.spec.now q.case.now

-- clauses over numbered variables
abbrev pub numbered_all : Asked → List (List StateLit) → List (List Lit)
numbered_all q cs = map (map (numbered q.variables.now)) cs

abbrev pub form_clauses : Asked → Moment → Instance → List (List Lit)
form_clauses q m i = numbered_all q (clause_of (forms q.spec.now (sets_in q) m i.classes i.clause.now))

abbrev pub instance_clauses : Asked → Instance → List (List Lit)
instance_clauses q i = numbered_all q (hypothesis_clauses q.spec.now (sets_in q) (instance_of i))

abbrev pub rise_clauses : Asked → ClassAtom → List Rise → List (List Lit)
rise_clauses q a rs = numbered_all q (map (rise_clause a) rs)

abbrev pub row_clauses : Asked → ClassAtom → List (List Lit)
row_clauses q a = numbered_all q (atom_clauses q.spec.now (sets_in q) a)

abbrev pub literal_denial : Asked → List ℕ → Bool → Literal → List (List StateLit)
literal_denial q cs sign l = if literal_is_atom l then denial (literal_form q.spec.now (sets_in q) Both cs sign l) else []

abbrev pub denial_clauses : Asked → List ℕ → Bool → Literal → List (List Lit)
denial_clauses q cs sign l = numbered_all q (literal_denial q cs sign l)

-- the clauses of a query, piece by piece
abbrev pub pieces : Asked → List Instance → List ClassAtom → Hypothesis → List (List Lit)
pieces q is atoms t = (((([] ++ flat_map (instance_clauses q) is) ++ flat_map (row_clauses q) atoms) ++ flat_map (denial_clauses q t.classes false) t.clause.premise) ++ flat_map (denial_clauses q t.classes true) t.clause.conclusion)
