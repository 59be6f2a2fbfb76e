use Rattle.std.proofs.Common.{◌<◌, ◌+◌, Bool, List, length, take, sym, ap, ◌∙◌, arith}
use Rattle.std.specs.Prelude.{◌||◌}
use Rattle.std.specs.List.{list_any}
use Rattle.spec_model.specs.declared.plan.Setup.{Setup}
use Rattle.spec_model.specs.declared.right.Need.{Need}
use Rattle.spec_model.specs.declared.right.Right.{Right}
use Rattle.run_model.specs.Levels.{acts_at, acts_on}
use Rattle.rights_table.specs.declared.table.Table.{Table}
use Rattle.rights_table.specs.Acting.{shares_in, IsOnShares}
use Rattle.rights_table.proofs.Levels.{any_at, any_more, acts_on_still, acts_both, rest_of}
use Rattle.rights_table.proofs.table.Table.act_at_level.Goals as goal

pub act_on-requires-clause-entered : goal.act_on-requires-clause-entered
act_on-requires-clause-entered c = λ q h.
    let setup : Setup = c.args.setup.now in
    let needs : List Need = c.args.needs.now in
    let k = c.loop-need.need-index in
    let old : Table = c.args.self.now in
    let mid : Table = c.loop-need.self in
    let l = c.args.level in
    let need : Need = c.need-item.result in
    let acts : Right → Bool = λ r. acts_at setup.replicas (shares_in setup old) (take k needs) r l in
    let lt : k < length needs = omega (arith, c.loop-need-test.true) in
    c.loop-need.invariant.acts.kept q
    (c.requires.entered q (any_at (acts_on setup.replicas (shares_in setup old) q l) needs k need lt c.need-item.is (sym (acts_on_still setup l l acts old mid need q c.loop-need.invariant.acts) ∙ h)))

pub loop-need-preserved : goal.loop-need-preserved
loop-need-preserved c =
    let setup : Setup = c.args.setup.now in
    let needs : List Need = c.args.needs.now in
    let k = c.loop-need.need-index in
    let old : Table = c.args.self.now in
    let mid : Table = c.loop-need.self in
    let new : Table = c.act_on.new.self in
    let l = c.args.level in
    let need : Need = c.need-item.result in
    let first : Right → Bool = λ r. acts_at setup.replicas (shares_in setup old) (take k needs) r l in
    let next : Right → Bool = λ r. acts_on setup.replicas (shares_in setup mid) r l need in
    let both : Right → Bool = λ r. acts_at setup.replicas (shares_in setup old) (take (k + 1) needs) r l in
    let lt : k < length needs = omega (arith, c.loop-need-test.true) in
    record {
      acts = acts_both setup l first next both old mid new c.loop-need.invariant.acts c.act_on.ensures
          (λ q. any_more (acts_on setup.replicas (shares_in setup old) q l) needs k need lt c.need-item.is
          ∙ ap (λ b. list_any (acts_on setup.replicas (shares_in setup old) q l) (take k needs) || b) (sym (acts_on_still setup l l first old mid need q c.loop-need.invariant.acts)));
      shared = rest_of (λ (n : Need). IsOnShares n.right n.amount) needs k lt c.loop-need.invariant.shared;
    }
