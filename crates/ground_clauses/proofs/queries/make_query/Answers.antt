use Rattle.std.proofs.Common.{ℕ, List, ap, map, ◌∙◌}
use Rattle.spec_model.specs.Truths.{clause_in}
use Rattle.spec_model.specs.declared.clause.Clause.{Clause}
use Rattle.ground_clauses.specs.Cases.{over}
use Rattle.ground_clauses.specs.Rows.{row_atom}
use Rattle.ground_clauses.proofs.Asking.{made_clauses, made_pieces}
use Rattle.ground_clauses.proofs.queries.make_query.Goals as goal

pub returns : goal.returns
returns c =
    let q = c.args.looking.now.asked in
    let found = c.args.subject.now.found in
    let atoms = c.args.subject.now.atoms in
    made_pieces q c.as_slice.result.now found (map row_atom c.args.looking.now.rows.now) atoms c.clause_at-target.result.now c.target_classes-classes.result.now c.clear.new.self.cnf.clauses c.add_hypotheses.new.draft.cnf.clauses
    c.add_rows.new.draft.cnf.clauses c.add_target.new.draft.cnf.clauses c.as_slice.ensures.value c.requires.rows c.in_ok-clear.ensures c.in_ok-add_hypotheses.ensures c.in_ok-add_rows.ensures c.in_ok-add_target.ensures
    ∙ made_clauses q found atoms (over c.clause_at-target.result.now c.target_classes-classes.result.now) c.args.place c.requires.found c.requires.once c.requires.own
    (ap (λ (of : Clause). over of c.target_classes-classes.result.now) c.clause_at-target.ensures
    ∙ ap (λ (cs : List ℕ). over (clause_in q.spec.now c.args.place) cs) c.target_classes-classes.ensures)
