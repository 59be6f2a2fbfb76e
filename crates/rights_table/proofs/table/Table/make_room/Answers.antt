use Rattle.std.proofs.Common.{◌≡◌, true, sym, subst, ◌∙◌}
use Rattle.std.specs.Prelude.{is_ok}
use Rattle.rights_table.specs.Holdings.{is_of}
use Rattle.rights_table.specs.Tables.{entered}
use Rattle.rights_table.proofs.Entries.{there_is, there_is_none}
use Rattle.rights_table.proofs.Rooms.{enters_same, enters_kept, enters_ok}
use Rattle.rights_table.proofs.table.Table.make_room.Goals as goal

pub returns-then-has-clause-entered : goal.returns-then-has-clause-entered
returns-then-has-clause-entered c = there_is (entered c.args.self.now c.args.right.now) (sym c.has.ensures ∙ c.if-has.true)

pub enter-requires-clause-none : goal.enter-requires-clause-none
enter-requires-clause-none c = there_is_none (entered c.args.self.now c.args.right.now) (sym c.has.ensures ∙ c.if-has.false)

pub enter-requires-clause-kind : goal.enter-requires-clause-kind
enter-requires-clause-kind c = subst (λ n. is_of n c.args.right.now c.in_ok-holding.holding ≡ true) (sym c.requires.replicas) c.in_ok-holding.ensures.kind

pub returns-clause-same : goal.returns-clause-same
returns-clause-same c = enters_same c.args.setup.now (is_ok c.enter.result) c.args.right.now c.in_ok-holding.holding c.args.self.now c.enter.new.self c.enter.ensures c.in_ok-holding.ensures

pub returns-clause-entered : goal.returns-clause-entered
returns-clause-entered c = enters_ok c.enter.result c.args.right.now c.in_ok-holding.holding c.args.self.now c.enter.new.self c.enter.ensures

pub returns-clause-kept : goal.returns-clause-kept
returns-clause-kept c = enters_kept (is_ok c.enter.result) c.args.right.now c.in_ok-holding.holding c.args.self.now c.enter.new.self c.enter.ensures
