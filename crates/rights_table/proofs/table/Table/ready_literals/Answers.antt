use Rattle.std.proofs.Common.{ℕ, ◌<◌, List, length, get_or, take, arith}
use Rattle.std.specs.List.{list_any}
use Rattle.spec_model.specs.declared.right.Right.{Right}
use Rattle.rights_table.specs.Touched.{literal_touches}
use Rattle.rights_table.proofs.Making.{room_more, room_stops, any_default}
use Rattle.rights_table.proofs.table.Table.ready_literals.Goals as goal

pub loop-literal-preserved : goal.loop-literal-preserved
loop-literal-preserved c =
    let literals : List ℕ = c.args.literals.now in
    let k = c.loop-literal.literal-index in
    let lt : k < length literals = omega (arith, c.loop-literal-test.true) in
    room_more c.args.setup.now (λ (r : Right) (n : ℕ). literal_touches c.args.right.now r n) literals k (get_or literals k 0) c.args.self.now c.loop-literal.self c.ready_literal.new.self lt (any_default literals k 0 (get_or literals k 0) lt) c.loop-literal.invariant c.in_ok-ready_literal.ensures

pub returns-in_err-ready_literal : goal.returns-in_err-ready_literal
returns-in_err-ready_literal c =
    let all : List ℕ = c.args.literals.now in
    room_stops c.args.setup.now (λ (r : Right). list_any (λ (x : ℕ). literal_touches c.args.right.now r x) (take c.loop-literal.literal-index all)) (λ (r : Right). (λ (x : ℕ). literal_touches c.args.right.now r x) (get_or all c.loop-literal.literal-index 0)) (λ (r : Right). list_any (λ (x : ℕ). literal_touches c.args.right.now r x) all)
    c.args.self.now c.loop-literal.self c.ready_literal.new.self c.from_residual.result c.from_residual.ensures.0 c.loop-literal.invariant c.in_err-ready_literal.ensures
