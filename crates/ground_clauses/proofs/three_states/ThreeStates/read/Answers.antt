use Rattle.std.proofs.Common.{true, false, sym, ◌∙◌}
use Rattle.ground_clauses.proofs.ThreeStates.{all_read, literals_read}
use Rattle.ground_clauses.proofs.three_states.ThreeStates.read.Goals as goal

pub returns : goal.returns
returns c = λ own.
    let q = c.args.looking.now.asked in
    let i = c.args.instance.now in
    let cs = c.as_slice-classes.result.now in
    all_read q i c.clear.new.self c.add_literals.new.self c.add_literals-2.new.self c.clear.ensures.start c.clear.ensures.start_lits c.clear.ensures.first c.clear.ensures.first_lits c.clear.ensures.second c.clear.ensures.second_lits
    (literals_read q c.clear.new.self c.add_literals.new.self cs i.classes false c.as_slice.result.now i.clause.now.premise c.as_slice-classes.ensures.value c.as_slice.ensures.value (c.in_ok-add_literals.ensures c.if-not-branch.false))
    (literals_read q c.add_literals.new.self c.add_literals-2.new.self cs i.classes true c.as_slice-2.result.now i.clause.now.conclusion c.as_slice-classes.ensures.value c.as_slice-2.ensures.value (c.in_ok-add_literals-2.ensures c.if-not-branch-2.false))
    (sym c.is_own.ensures ∙ own)
