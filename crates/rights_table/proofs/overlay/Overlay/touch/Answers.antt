use Rattle.std.proofs.Common.{refl}
use Rattle.rights_table.specs.declared.overlay.Overlay.{Overlay}
use Rattle.rights_table.proofs.Touched.{touched_more}
use Rattle.rights_table.proofs.overlay.Overlay.touch.Goals as goal

pub returns-clause-same : goal.returns-clause-same
returns-clause-same c = λ logs me own is.
    let now : Overlay = record { touched = c.take_over.new.self; under = c.args.self.now.under } in
    touched_more c.args.setup.now logs me own c.args.self.now now refl c.take_over.ensures.over is
