use Rattle.std.proofs.Common.{Some, length, sym, ap, ◌∙◌}
use Rattle.std.proofs.lemmas.Bool.{ltb-true}
use Rattle.std.proofs.lemmas.Option.{slice_get-get_or}
use Rattle.ground_clauses.proofs.Apart.{atom_same, row_there}
use Rattle.ground_clauses.proofs.Looking.{atom_formed}
use Rattle.ground_clauses.specs.Query.{atom_of, same_atom}
use Rattle.ground_clauses.specs.Rows.{form_of}
use Rattle.spec_model.specs.Truths.{values}
use Rattle.spec_model.specs.declared.instance.Atom.{Atom as ClassAtom}
use Rattle.ground_clauses.proofs.literals.atom_form.Goals as goal

pub returns-in-Some-clause-form : goal.returns-in-Some-clause-form
returns-in-Some-clause-form c =
    let a : ClassAtom = atom_of c.args.pred (values c.args.classes.now c.args.vars.now) in
    ap form_of c.row_form.ensures
    ∙ atom_formed c.args.looking.now.asked c.in-Some.row.now a c.args.sign c.args.moment
    (row_there c.args.looking.now.asked c.args.looking.now.rows.now c.hint_at-near.result c.in-Some.row.now c.requires.rows
    (slice_get-get_or c.args.looking.now.rows.now c.hint_at-near.result c.in-Some.row.now (ltb-true c.hint_at-near.result (length c.args.looking.now.rows.now) (sym c.in-Some.ensures.lookup.0)) ∙ ap Some (sym c.in-Some.ensures.lookup.1)))
    (atom_same a c.in-Some.row.now (ap (λ vs. same_atom (atom_of c.args.pred (values c.args.classes.now vs)) c.in-Some.row.now.atom) (sym c.as_slice-places.ensures.value) ∙ sym c.is_at.ensures ∙ c.if-is_at.true))
