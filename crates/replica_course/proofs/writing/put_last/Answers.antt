use Rattle.std.proofs.Common.{◌∙◌}
use Rattle.replica_course.proofs.Lasts.{last_set}
use Rattle.replica_course.proofs.writing.put_last.Goals as goal

pub returns : goal.returns
returns g c = λ front last is. c.set.ensures ∙ last_set c.args.list.now front last c.args.item c.len-at.result c.len-at.ensures.value is
