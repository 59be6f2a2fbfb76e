use Rattle.std.proofs.Common.{sym}
use Rattle.effect_model.proofs.Terms.{none_has}
use Rattle.effect_model.proofs.next.arg_next.Goals as goal

pub returns-in-None-clause-untouched : goal.returns-in-None-clause-untouched
returns-in-None-clause-untouched c = λ x le lt. sym (none_has c.args.inst.now.args c.args.place x c.in-None.ensures)
