use Rattle.std.proofs.Common.{◌≡◌, ◌++◌, drop}
use Rattle.std.specs.List.{flat_map}
use Rattle.rejection_text.specs.Texts.{atom_line}
use Rattle.rejection_text.proofs.lines.put_atoms.Given as goal

abbrev pub invariant-loop-atom : goal.invariant-loop-atom
invariant-loop-atom l = l.out ++ flat_map (atom_line l.spec) (drop l.atom-index l.atoms) ≡ l.fn.out ++ flat_map (atom_line l.spec) l.atoms
