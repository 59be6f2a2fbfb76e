use Rattle.client_runs.proofs.Joined.{histories, served_run}
use Rattle.client_runs.proofs.laws.served_is_legal.Goals as goal

pub returns : goal.returns
returns c = λ setup work courses taken put settled few h. (
  histories setup work courses taken put h c.alone_is_in_order.ensures,
  λ entries merged. served_run setup work courses taken put h c.alone_is_counted.ensures c.alone_is_numbered.ensures c.closed_is_one_run.ensures c.runs_are_sound.ensures c.finals_agree.ensures settled few entries merged,
)
