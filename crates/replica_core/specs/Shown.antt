-- What a replica shows of itself.
use Rattle.std.specs.Prelude.{Bool}
use Rattle.spec_model.specs.declared.spec.Spec.{Spec}
use Rattle.spec_model.specs.declared.instance.Atom.{Atom}
use Rattle.spec_model.specs.declared.instance.Cell.{Cell}
use Rattle.run_model.specs.declared.history.CellValue.{CellValue}
use Rattle.run_model.specs.Logs.{items_in}
use Rattle.run_model.specs.States.{truth_of, value_of}
use Rattle.causal_store.specs.Stores.{cut_in}
use Rattle.replica_core.specs.Replicas.{known_to}
use Rattle.replica_core.specs.declared.replica.Replica.{Replica}

-- the atom is true in the state of all that it has applied
abbrev pub is_true_now : Spec → Replica → Atom → Bool
is_true_now spec r atom = truth_of spec (items_in (cut_in r.store) (known_to r)) atom.pred atom.args

-- what the cell is worth in that state
abbrev pub value_now : Spec → Replica → Cell → CellValue
value_now spec r cell = record { cell = cell; value = value_of spec (items_in (cut_in r.store) (known_to r)) cell }
