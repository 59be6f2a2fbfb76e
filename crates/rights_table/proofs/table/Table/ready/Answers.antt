use Rattle.rights_table.proofs.Making.{all_same, ready_all, same_both}
use Rattle.rights_table.proofs.table.Table.ready.Goals as goal

pub returns-clause-ready : goal.returns-clause-ready
returns-clause-ready c =
    ready_all c.args.setup.now c.args.items.now c.args.needs.now c.args.self.now c.ready_items.new.self c.ready_needs.new.self c.ready_needs.result c.in_ok-ready_items.ensures c.ready_needs.ensures

pub returns-in_err-ready_items-clause-all : goal.returns-in_err-ready_items-clause-all
returns-in_err-ready_items-clause-all c logs me own has =
    all_same c.args.setup.now logs me own c.args.self.now c.ready_items.new.self c.in_err-ready_items.ensures.same has

pub returns-clause-same : goal.returns-clause-same
returns-clause-same c =
    same_both c.args.setup.now c.args.self.now c.ready_items.new.self c.ready_needs.new.self c.in_ok-ready_items.ensures.same c.ready_needs.ensures.same

pub returns-clause-all : goal.returns-clause-all
returns-clause-all c logs me own has =
    all_same c.args.setup.now logs me own c.args.self.now c.ready_needs.new.self (same_both c.args.setup.now c.args.self.now c.ready_items.new.self c.ready_needs.new.self c.in_ok-ready_items.ensures.same c.ready_needs.ensures.same) has
