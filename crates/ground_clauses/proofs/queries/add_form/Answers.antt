use Rattle.std.proofs.Common.{◌∙◌}
use Rattle.ground_clauses.proofs.Looking.{made_clauses}
use Rattle.ground_clauses.proofs.queries.add_form.Goals as goal

pub returns-in_ok-push : goal.returns-in_ok-push
returns-in_ok-push c =
    c.in_ok-push.ensures
    ∙ made_clauses c.args.looking.now.asked c.args.moment c.args.instance.now c.in_ok-make_clause.field-0 c.make_clause.new.room.once c.as_slice.result.now c.as_slice-classes.result.now c.args.draft.now.cnf.clauses
    c.if-branch.true c.as_slice.ensures.value c.as_slice-classes.ensures.value c.in_ok-make_clause.ensures.value c.in_ok-make_clause.ensures.numbered
