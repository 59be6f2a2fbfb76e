use Rattle.std.proofs.Common.{◌||◌, ◌++◌, [], ◌∷◌, map, sym, ap, append_assoc, ◌∙◌}
use Rattle.std.specs.List.{list_any}
use Rattle.ground_clauses.specs.Instances.{can_share, instance_of, found_from}
use Rattle.ground_clauses.proofs.Finding.{found_upto, found_more}
use Rattle.ground_clauses.proofs.Pruning.{none_found}
use Rattle.ground_clauses.proofs.instances.+add_instances.Goals as goal

pub loop-class-preserved : goal.loop-class-preserved
loop-class-preserved t c =
    let before = map instance_of c.args.found.now in
    let old = found_upto c.args.search.now c.args.clause.now c.args.front c.split_at.result.1.now c.loop-class.class in
    c.in_ok-add_instances.ensures
    ∙ ap (λ xs. xs ++ found_from c.args.search.now c.args.clause.now c.push-in-loop-class.new.self c.split_at.result.1.now) c.loop-class.invariant
    ∙ ap (λ front. (before ++ old) ++ found_from c.args.search.now c.args.clause.now front c.split_at.result.1.now) c.push-in-loop-class.ensures
    ∙ append_assoc before old (found_from c.args.search.now c.args.clause.now (c.args.front ++ c.loop-class.class ∷ []) c.split_at.result.1.now)
    ∙ ap (λ xs. before ++ xs) (sym (found_more c.args.search.now c.args.clause.now c.args.front c.split_at.result.1.now c.loop-class.class))

pub returns-then-not-may_meet : goal.returns-then-not-may_meet
returns-then-not-may_meet t c =
    let target = c.args.search.now.target.now in
    none_found c.args.search.now c.args.clause.now c.args.front c.args.vars.now (map instance_of c.args.found.now)
    (ap (λ cs. list_any (can_share target cs) c.args.clause.now.premise || list_any (can_share target cs) c.args.clause.now.conclusion) (sym c.as_slice-2.ensures.value)
    ∙ sym c.may_meet.ensures ∙ c.if-not-may_meet.true)
