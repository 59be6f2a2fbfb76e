use Rattle.std.proofs.Common.{◌≡◌, false, sym, subst, ◌∙◌}
use Rattle.std.specs.Option.{option_map_or}
use Rattle.std.specs.List.{find}
use Rattle.spec_model.specs.declared.right.Amount.{Amount}
use Rattle.run_model.specs.Levels.{is_permitted, choices_of, is_at}
use Rattle.rights_table.specs.Acting.{shares_in}
use Rattle.rights_table.proofs.ActedOn.{other_level}
use Rattle.rights_table.proofs.table.Table.acted_on.Goals as goal

pub returns-else-same_level-2-clause-it : goal.returns-else-same_level-2-clause-it
returns-else-same_level-2-clause-it c = λ q.
    let P = is_permitted c.args.setup.now.replicas (shares_in c.args.setup.now c.args.self.now) in
    let r = c.args.need.now.right in
    subst (λ (a : Amount). false ≡ option_map_or (is_at q c.args.level) (find P (choices_of r a)) false) (sym c.in-AnyForbid.is)
    (other_level P r q c.args.level c.in-AnyForbid.literals (sym c.same_level-in-AnyForbid.ensures ∙ c.if-same_level-2.false))
