use Rattle.std.proofs.Common.{◌≡◌, ◌++◌, map, drop}
use Rattle.std.specs.List.{list_any, flat_map, AllByRecursion}
use Rattle.ground_clauses.specs.Literals.{signed_forms}
use Rattle.ground_clauses.specs.Query.{form_lits, is_certain}
use Rattle.ground_clauses.specs.Rows.{IsNumbered, lit_in}
use Rattle.ground_clauses.proofs.literals.add_forms.Given as goal

abbrev pub invariant-loop-literal : goal.invariant-loop-literal
invariant-loop-literal l = record {
  certain : list_any is_certain (signed_forms l.looking.asked l.moment l.classes l.sign (drop l.literal-index l.literals)) ≡ list_any is_certain (signed_forms l.looking.asked l.moment l.classes l.sign l.literals);
  lits : map lit_in l.out ++ flat_map form_lits (signed_forms l.looking.asked l.moment l.classes l.sign (drop l.literal-index l.literals)) ≡ map lit_in l.fn.out ++ flat_map form_lits (signed_forms l.looking.asked l.moment l.classes l.sign l.literals);
  numbered : AllByRecursion (IsNumbered l.looking.asked.variables.now) l.out;
}
