use Rattle.std.proofs.Common.{ap, sym, subst, ◌∙◌, ◌≡◌, ℕ, length, map, [], List, replicate, arith}
use Rattle.std.specs.Global.{Vec}
use Rattle.std.specs.List.{AllByRecursion}
use Rattle.std.proofs.lemmas.List.{length-replicate}
use Rattle.spec_model.specs.declared.log.LogItem.{LogItem}
use Rattle.run_model.specs.Fitting.{IsPlaced}
use Rattle.causal_store.proofs.Agreed.{applied_none}
use Rattle.causal_store.proofs.Stepped.{none_of}
use Rattle.causal_store.proofs.Summed.{sums_none}
use Rattle.causal_store.proofs.Tagged.{keeps_none}
use Rattle.causal_store.proofs.Stored.{no_counts, no_items_fit}
use Rattle.causal_store.proofs.store.Store.begin.Goals as goal

-- the logs are as many as there are replicas, and empty
logs_are : (n i : ℕ) (logs : List (Vec LogItem)) → map (λ l. l.items) logs ≡ replicate i [] → i ≡ n → map (λ l. l.items) logs ≡ replicate n []
logs_are n i logs is all = is ∙ ap (λ k. replicate k []) all

pub returns-clause-own : goal.returns-clause-own
returns-clause-own c =
    let spec = c.args.spec.now in
    let n : ℕ = c.args.replicas in
    let all : c.loop-i._i ≡ n = omega (arith, c.loop-i-test.false, c.loop-i.auto._i-end) in
    let logs = logs_are n c.loop-i._i c.loop-i.logs.items c.loop-i.invariant.0 all in
    record {
      whole = ap length logs ∙ length-replicate n [];
      few = omega (arith, c.requires.few);
      counts = c.loop-i.invariant.1 ∙ ap (λ k. replicate k 0) all ∙ no_counts n ∙ sym (ap (map (λ (log : List LogItem). length log)) logs);
      fits = subst (AllByRecursion (AllByRecursion (IsPlaced n))) (sym logs) (no_items_fit (IsPlaced n) n);
      formed = c.requires.well_formed;
      tags = keeps_none spec n c.atom_count.result _ _ (none_of n _ logs) c.atom_count.ensures.count c.in_ok-tags.ensures;
      sums = sums_none spec c.cell_count.result _ _ (none_of n _ logs) c.cell_count.ensures.count c.in_ok-sums.ensures;
    }

pub returns-clause-applied : goal.returns-clause-applied
returns-clause-applied c =
    let n : ℕ = c.args.replicas in
    let all : c.loop-i._i ≡ n = omega (arith, c.loop-i-test.false, c.loop-i.auto._i-end) in
    applied_none c.args.spec.now n _ (returns-clause-own c) (logs_are n c.loop-i._i c.loop-i.logs.items c.loop-i.invariant.0 all)
