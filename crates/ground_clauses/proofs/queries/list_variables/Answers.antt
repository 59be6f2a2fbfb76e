use Rattle.std.proofs.Common.{◌≡◌, List, map, ap, ◌∙◌}
use Rattle.std.specs.List.{flat_map}
use Rattle.ground_clauses.specs.Cases.{case_sets}
use Rattle.ground_clauses.specs.Fronts.{acts}
use Rattle.ground_clauses.specs.Query.{Sets, atom_variables}
use Rattle.ground_clauses.specs.Rows.{touched_variables, touches_at}
use Rattle.ground_clauses.specs.declared.state_lit.Variable.{Variable}
use Rattle.ground_clauses.specs.declared.table.Touches.{Touches}
use Rattle.spec_model.specs.declared.instance.Atom.{Atom as ClassAtom}
use Rattle.ground_clauses.proofs.Building.{more_flat, more_mapped, own_touches}
use Rattle.ground_clauses.proofs.queries.list_variables.Goals as goal

pub loop-atom-preserved : goal.loop-atom-preserved
loop-atom-preserved c =
    let sets : Sets = case_sets c.args.spec.now c.args.case.now in
    let touched : ClassAtom → Touches = touches_at c.args.spec.now sets in
    let own : ClassAtom → List Variable = atom_variables c.args.spec.now sets in
    let found : c.touches_by-touched.result ≡ touched c.atom-item.result =
    own_touches c.args.spec.now sets c.atom-item.result c.touches_by-touched.result (acts c.parts_of-parts.result.first) (acts c.parts_of-parts.result.second)
    c.parts_of-parts.ensures.first c.parts_of-parts.ensures.second c.touches_by-touched.ensures.first c.touches_by-touched.ensures.second in
    record {
      touches = more_mapped touched c.args.atoms.now c.loop-atom.atom-index c.atom-item.result c.loop-atom.touches c.push.new.self c.touches_by-touched.result (map touched c.args.atoms.now) c.loop-atom-test.true
          c.in_ok-push.ensures.ok (found ∙ ap touched c.atom-item.is) c.loop-atom.invariant.touches;
      variables = more_flat own c.args.atoms.now c.loop-atom.atom-index c.atom-item.result c.loop-atom.variables c.add_variables.new.variables (touched_variables c.atom-item.result c.touches_by-touched.result)
          (flat_map own c.args.atoms.now) c.loop-atom-test.true
          c.in_ok-add_variables.ensures (ap (touched_variables c.atom-item.result) found ∙ ap own c.atom-item.is) c.loop-atom.invariant.variables;
    }
