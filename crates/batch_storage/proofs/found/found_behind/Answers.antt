use Rattle.std.proofs.Common.{List, subst}
use Rattle.run_model.specs.declared.batch.Batch.{Batch}
use Rattle.batch_storage.specs.Found.{IsFound}
use Rattle.batch_storage.proofs.Begun.{all_found}
use Rattle.batch_storage.proofs.found.found_behind.Goals as goal

pub returns : goal.returns
returns c =
    let others : List Batch = c.args.others.now in
    let pending = c.args.pending.now in
    all_found c.args.same others c.args.kept.now pending c.found_in.result
    (subst (λ (l : List Batch). IsFound others l pending c.found_in.result) c.split_at.ensures.back c.found_in.ensures)
