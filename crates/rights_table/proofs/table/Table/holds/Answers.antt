use Rattle.std.proofs.Common.{◌≡◌, List, ◌++◌, ap, ◌∙◌}
use Rattle.std.specs.List.{flat_map}
use Rattle.spec_model.specs.declared.right.Right.{Right}
use Rattle.spec_model.specs.AllRights.{rights_of}
use Rattle.run_model.specs.declared.history.Hold.{Hold}
use Rattle.rights_table.specs.Showing.{shown_in}
use Rattle.rights_table.proofs.Shows.{shows_all}
use Rattle.rights_table.proofs.table.Table.holds.Goals as goal

pub returns : goal.returns
returns c = λ logs me own all.
    let setup = c.args.setup.now in
    let t = c.args.self.now in
    let is : c.as_slice.result.now ≡ rights_of setup = c.as_slice.ensures.value ∙ c.in_ok-rights.ensures in
    c.in_ok-show_all.ensures
    ∙ ap (λ (before : List Hold). before ++ flat_map (shown_in setup t) c.as_slice.result.now) c.new-out.ensures
    ∙ ap (λ (rights : List Right). flat_map (shown_in setup t) rights) is
    ∙ shows_all setup logs me own t (rights_of setup) all
