-- What a table shows of rights.
use Rattle.std.specs.Prelude.{List, [], filter}
use Rattle.spec_model.specs.declared.plan.Setup.{Setup}
use Rattle.spec_model.specs.declared.right.Right.{Right}
use Rattle.spec_model.specs.declared.right.Held.{Held}
use Rattle.spec_model.specs.declared.right.Held.TheVariants as held
use Rattle.spec_model.specs.Truths.{no_span}
use Rattle.spec_model.specs.declared.right.Right.TheVariants as right
use Rattle.spec_model.specs.Universe.{below}
use Rattle.run_model.specs.Points.{points_all, starts_with}
use Rattle.run_model.specs.Finals.{count_shown, points_shown, shares_shown}
use Rattle.run_model.specs.declared.history.Hold.{Hold}
use Rattle.rights_table.specs.declared.table.Table.{Table}
use Rattle.rights_table.specs.Tables.{has_point, held_in}

-- what is shown of a right of which this is held; points are shown by themselves
abbrev pub held_shown : Right → Held → List Hold
held_shown r (held.Count have) = count_shown r have
held_shown r (held.Shares have m) = shares_shown r have m
held_shown r (held.Points missing run) = []

-- what the table shows of a right
abbrev pub shown_in : Setup → Table → Right → List Hold
shown_in setup t (right.Low cell) = held_shown (right.Low cell) (held_in setup t (right.Low cell) no_span)
shown_in setup t (right.High cell) = held_shown (right.High cell) (held_in setup t (right.High cell) no_span)
shown_in setup t (right.Lock lock key) = held_shown (right.Lock lock key) (held_in setup t (right.Lock lock key) no_span)
shown_in setup t (right.Entry clause args literal) = held_shown (right.Entry clause args literal) (held_in setup t (right.Entry clause args literal) no_span)
shown_in setup t (right.Part part key) =
    let all = points_all setup part in
    points_shown (right.Part part key) (filter (starts_with all setup.replicas t.me) (below all)) (filter (has_point setup t (right.Part part key)) (below all))
