use Rattle.std.proofs.Common.{true, false, ◌++◌, map, sym, ap, ◌∙◌}
use Rattle.std.specs.List.{list_any, flat_map}
use Rattle.ground_clauses.specs.Literals.{signed_forms}
use Rattle.ground_clauses.specs.Query.{form_lits, is_certain}
use Rattle.ground_clauses.specs.Rows.{lit_in}
use Rattle.ground_clauses.proofs.Building.{certain_premise, certain_conclusion, lits_both}
use Rattle.ground_clauses.proofs.literals.add_clause_forms.Goals as goal

pub returns-then-premise-clause-certain : goal.returns-then-premise-clause-certain
returns-then-premise-clause-certain c =
    sym (certain_premise c.args.looking.now.asked c.args.moment c.args.classes.now c.args.clause.now
    (ap (λ ls. list_any is_certain (signed_forms c.args.looking.now.asked c.args.moment c.args.classes.now false ls)) (sym c.as_slice.ensures.value) ∙ sym c.in_ok-premise.ensures.certain ∙ c.if-premise.true))

pub returns-clause-certain : goal.returns-clause-certain
returns-clause-certain c =
    c.in_ok-conclusion.ensures.certain
    ∙ ap (λ ls. list_any is_certain (signed_forms c.args.looking.now.asked c.args.moment c.args.classes.now true ls)) c.as_slice-2.ensures.value
    ∙ sym (certain_conclusion c.args.looking.now.asked c.args.moment c.args.classes.now c.args.clause.now
    (ap (λ ls. list_any is_certain (signed_forms c.args.looking.now.asked c.args.moment c.args.classes.now false ls)) (sym c.as_slice.ensures.value) ∙ sym c.in_ok-premise.ensures.certain ∙ c.if-premise.false))

pub returns-clause-lits : goal.returns-clause-lits
returns-clause-lits c = λ isnt_certain.
    c.in_ok-conclusion.ensures.lits isnt_certain
    ∙ ap (λ xs. xs ++ flat_map form_lits (signed_forms c.args.looking.now.asked c.args.moment c.args.classes.now true c.as_slice-2.result.now)) (c.in_ok-premise.ensures.lits c.if-premise.false)
    ∙ ap (λ ls. (map lit_in c.args.out.now ++ flat_map form_lits (signed_forms c.args.looking.now.asked c.args.moment c.args.classes.now false c.as_slice.result.now)) ++ flat_map form_lits (signed_forms c.args.looking.now.asked c.args.moment c.args.classes.now true ls)) c.as_slice-2.ensures.value
    ∙ ap (λ ls. (map lit_in c.args.out.now ++ flat_map form_lits (signed_forms c.args.looking.now.asked c.args.moment c.args.classes.now false ls)) ++ flat_map form_lits (signed_forms c.args.looking.now.asked c.args.moment c.args.classes.now true c.args.clause.now.conclusion)) c.as_slice.ensures.value
    ∙ sym (lits_both c.args.looking.now.asked c.args.moment c.args.classes.now c.args.clause.now (map lit_in c.args.out.now))
