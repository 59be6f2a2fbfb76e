use Rattle.std.proofs.Common.{◌≡◌, ◌++◌, subst}
use Rattle.std.specs.Prelude.{OnOk}
use Rattle.effect_model.proofs.Ranging.{entries_walked, few_literals, no_entries}
use Rattle.effect_model.proofs.right_list.list_entries.Goals as goal

pub walk-requires-clause-fits : goal.walk-requires-clause-fits
walk-requires-clause-fits c = λ behind within. few_literals c.args.spec.now c.args.of c.in-Some.clause.now c.in-Some.ensures.value c.requires

pub returns-in-Some : goal.returns-in-Some
returns-in-Some c = subst (λ rs. OnOk c.walk.result (c.walk.new.out ≡ c.args.out.now ++ rs))
    (entries_walked c.args.spec.now c.args.of c.in-Some.clause.now c.as_slice.result.now c.var_sizes-sizes.result c.as_slice-in-Some.result.now c.new.result c.in-Some.ensures.value c.as_slice.ensures.value c.var_sizes-sizes.ensures c.as_slice-in-Some.ensures.value c.new.ensures)
    c.walk.ensures

pub returns-in-None : goal.returns-in-None
returns-in-None c = no_entries c.args.spec.now c.args.of c.args.out.now c.in-None.ensures.value
