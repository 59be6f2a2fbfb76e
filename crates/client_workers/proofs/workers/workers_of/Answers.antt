use Rattle.std.proofs.Common.{◌<◌, List, All, sym, ap, ◌∙◌, subst}
use Rattle.run_model.specs.declared.step.Ask.{Ask}
use Rattle.desk_workers.specs.declared.worker.Worker.{Worker}
use Rattle.desk_workers.specs.Workers.{lists_at}
use Rattle.client_workers.specs.Workers.{MayAsk}
use Rattle.client_workers.proofs.Shares.{both_added, workers_may, workers_placed, workers_share}
use Rattle.client_workers.proofs.workers.workers_of.Goals as goal

pub returns-clause-turns : goal.returns-clause-turns
returns-clause-turns c =
    let all = both_added c.args.replicas c.args.turns c.args.homes.now c.args.asked.now _ _ _ c.new-workers.ensures c.in_ok-add_clients.ensures c.in_ok-add_couriers.ensures in
    λ me lt. ap (λ (workers : List (Worker Ask)). lists_at me workers) all ∙ workers_share c.args.replicas c.args.turns me c.args.homes.now c.args.asked.now lt

pub returns-clause-desks : goal.returns-clause-desks
returns-clause-desks c =
    let all = both_added c.args.replicas c.args.turns c.args.homes.now c.args.asked.now _ _ _ c.new-workers.ensures c.in_ok-add_clients.ensures c.in_ok-add_couriers.ensures in
    subst (All (λ (w : Worker Ask). w.desk < c.args.replicas)) (sym all) (workers_placed c.args.replicas c.args.turns c.args.homes.now c.args.asked.now c.requires.homes)

pub returns-clause-fit : goal.returns-clause-fit
returns-clause-fit c =
    let all = both_added c.args.replicas c.args.turns c.args.homes.now c.args.asked.now _ _ _ c.new-workers.ensures c.in_ok-add_clients.ensures c.in_ok-add_couriers.ensures in
    λ setup are fit. subst (All (λ (w : Worker Ask). All (MayAsk setup w.desk) w.asks)) (sym all) (workers_may setup c.args.replicas c.args.turns c.args.homes.now c.args.asked.now are fit)
