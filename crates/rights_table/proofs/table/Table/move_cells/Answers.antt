use Rattle.std.proofs.Common.{◌≡◌, true, List, ap, subst, ◌∙◌, arith}
use Rattle.std.specs.Prelude.{sum_by}
use Rattle.std.specs.List.{list_any}
use Rattle.spec_model.specs.declared.operation.Line.{Line}
use Rattle.rights_table.specs.Cells.{line_gains, line_loses, line_moves}
use Rattle.rights_table.proofs.Sums.{nets}
use Rattle.rights_table.proofs.table.Table.move_cells.Goals as goal

pub gain_lines-requires-clause-entered : goal.gain_lines-requires-clause-entered
gain_lines-requires-clause-entered c = λ q h. c.requires.entered q (subst (λ (ls : List Line). list_any (line_moves c.args.setup.now.spec c.args.inst.now q) ls ≡ true) c.lines_of-lines.ensures h)

pub gain_lines-requires-clause-small : goal.gain_lines-requires-clause-small
gain_lines-requires-clause-small c = λ q. let small = c.requires.small q in let all = ap (sum_by (line_gains c.args.setup.now.spec c.args.inst.now q)) c.lines_of-lines.ensures in omega (arith, small, all)

pub lose_lines-requires-clause-entered : goal.lose_lines-requires-clause-entered
lose_lines-requires-clause-entered c = λ q h. c.gain_lines.ensures.kept q (c.requires.entered q (subst (λ (ls : List Line). list_any (line_moves c.args.setup.now.spec c.args.inst.now q) ls ≡ true) c.lines_of-lines.ensures h))

pub lose_lines-requires-clause-held : goal.lose_lines-requires-clause-held
lose_lines-requires-clause-held c = λ q.
    let spec = c.args.setup.now.spec in
    let inst = c.args.inst.now in
    let net = nets spec inst q in
    let gains = ap (sum_by (line_gains spec inst q)) c.lines_of-lines.ensures in
    let loses = ap (sum_by (line_loses spec inst q)) c.lines_of-lines.ensures in
    let held = c.requires.held q in
    let now = c.gain_lines.ensures.counts q in
    omega (arith, net.spent, gains, loses, held, now)

pub returns : goal.returns
returns c =
    let spec = c.args.setup.now.spec in
    let inst = c.args.inst.now in
    record {
      me = c.lose_lines.ensures.me ∙ c.gain_lines.ensures.me;
      replicas = c.lose_lines.ensures.replicas ∙ c.gain_lines.ensures.replicas;
      counts = λ q.
          let net = nets spec inst q in
          let gains = ap (sum_by (line_gains spec inst q)) c.lines_of-lines.ensures in
          let loses = ap (sum_by (line_loses spec inst q)) c.lines_of-lines.ensures in
          let first = c.gain_lines.ensures.counts q in
          let then = c.lose_lines.ensures.counts q in
          let held = c.requires.held q in
          omega (arith, net.spent, net.created, gains, loses, first, then, held);
      modes = λ q. c.lose_lines.ensures.modes q ∙ c.gain_lines.ensures.modes q;
      points = λ q x. c.lose_lines.ensures.points q x ∙ c.gain_lines.ensures.points q x;
      kept = λ q has. c.lose_lines.ensures.kept q (c.gain_lines.ensures.kept q has);
    }
