-- The truths of a query's atoms in the four states, by a model.
use Rattle.std.specs.Prelude.{◌≡◌, ℕ, Bool, true, false, List, [], get_or, map}
use Rattle.std.specs.List.{AllByRecursion}
use mathlib.Core.Bool.{beq}
use Rattle.ground_clauses.specs.Cases.{case_hypotheses, case_sets, case_variables, is_touched, query_of, target_classes}
use Rattle.ground_clauses.specs.Derivations.{Solves}
use Rattle.ground_clauses.specs.Laws.{IsQuadrupleOf, before_both}
use Rattle.ground_clauses.specs.Query.{atom_of, atoms_of, entry_at, index_of, same_variable, variable, winner}
use Rattle.ground_clauses.specs.declared.case.Case.{Case}
use Rattle.ground_clauses.specs.declared.case.Target.{Target}
use Rattle.ground_clauses.specs.declared.case.Target.TheVariants.{Clause as of_clause, Locked as of_pred}
use Rattle.ground_clauses.specs.declared.state_lit.Variable.{Variable}
use Rattle.ground_clauses.specs.declared.states.AtomStates.{AtomStates}
use Rattle.spec_model.specs.Truths.{Truths, clause_in, instance_true}
use Rattle.spec_model.specs.declared.instance.Atom.{Atom as ClassAtom}
use Rattle.spec_model.specs.declared.spec.Spec.{Spec}
use Rattle.spec_model.specs.declared.state.Entry.{Entry}
use Rattle.spec_model.specs.declared.state.Entry.TheVariants.{Always, Same}
use Rattle.spec_model.specs.declared.state.Moment.{Moment}
use Rattle.spec_model.specs.declared.state.Moment.TheVariants.{Both, First, Second, Start}

-- the winning value, or as the variable of a state says whether the atom has it
abbrev pub entry_truth : Spec → List Variable → List Bool → ClassAtom → Entry → Bool
entry_truth spec variables model a Always = winner spec a
entry_truth spec variables model a (Same m) = beq (get_or model (index_of (same_variable (variable a m)) variables) false) (winner spec a)

-- the atom's truth in a state, by the table
abbrev pub truth_in_state : Spec → Case → List Variable → List Bool → ClassAtom → Moment → Bool
truth_in_state spec k variables model a m = entry_truth spec variables model a (entry_at spec (case_sets spec k) a m)

-- the atom's truths in the four states
abbrev pub states_of : Spec → Case → List Variable → List Bool → ClassAtom → AtomStates
states_of spec k variables model a = record {
  atom = a;
  start = truth_in_state spec k variables model a Start;
  first = truth_in_state spec k variables model a First;
  second = truth_in_state spec k variables model a Second;
  both = truth_in_state spec k variables model a Both;
}

abbrev pub target_states : Spec → Case → List Bool → Target → List AtomStates
target_states spec k model (of_clause t) = map (states_of spec k (case_variables spec k t) model) (atoms_of (case_hypotheses spec k t))
target_states spec k model (of_pred p) = []

-- each atom of the query, in their order, with its truths in the four states of the model
abbrev pub query_states : Spec → Case → List Bool → List AtomStates
query_states spec k model = target_states spec k model k.target

-- ---- what the states show

-- the truths of all atoms in the four states of a model
abbrev pub states_by : Spec → Case → ℕ → List Bool → Moment → Truths
states_by spec k t model m p xs = truth_in_state spec k (case_variables spec k t) model (atom_of p xs) m

-- four states that the table permits, in which the hypotheses are true before both, and the target is false with both
pub record IsShown (spec : Spec) (k : Case) (t : ℕ) (q : Moment → Truths) : Type 0 where
  pub permitted : IsQuadrupleOf spec (case_sets spec k).one (case_sets spec k).other q
  pub before : AllByRecursion (λ h. (m : Moment) → before_both m ≡ true → instance_true (q m) h.classes h.clause ≡ true) (case_hypotheses spec k t)
  pub broken : instance_true (q Both) (target_classes spec k) (clause_in spec t) ≡ false

-- The states of a model show how the two operations make the target false.
abbrev pub ModelShows : Type 0
ModelShows = (spec : Spec) (k : Case) (t : ℕ) (model : List Bool)
    → is_touched spec k t ≡ true
    → Solves (λ v. get_or model v false) (query_of spec k t)
    → IsShown spec k t (states_by spec k t model)
