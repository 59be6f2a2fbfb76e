use Rattle.std.proofs.Common.{sym, ◌∙◌}
use Rattle.ground_clauses.proofs.Apart.{atom_same}
use Rattle.ground_clauses.specs.Query.{atom_of}
use Rattle.spec_model.specs.Truths.{values}
use Rattle.ground_clauses.proofs.three_states.listed_row.Goals as goal

pub returns-then-is_at-clause-atom : goal.returns-then-is_at-clause-atom
returns-then-is_at-clause-atom c =
    atom_same (atom_of c.args.pred (values c.args.classes.now c.args.vars.now)) c.in_ok-row.row.now (sym c.is_at.ensures ∙ c.if-is_at.true)
