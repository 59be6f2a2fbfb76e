use Rattle.std.proofs.Common.{◌≡◌, take, drop}
use Rattle.std.proofs.lemmas.Result.{IfOk-weaker}
use Rattle.causal_delivery.proofs.Admitting.{window_is}
use Rattle.causal_delivery.proofs.window.next_items.Goals as goal

pub returns : goal.returns
returns c = IfOk-weaker c.from_slice.result (λ items. items ≡ c.split_at-2.result.0.now) (λ items. items ≡ take 16 (drop c.args.known c.args.own.now)) (λ items is.
    window_is c.args.known c.args.own.now c.split_at.result.1.now c.split_at-2.result.0.now items c.min-start.result c.min.result
    c.min-start.ensures c.split_at.ensures.back c.min.ensures c.split_at-2.ensures.front is) c.from_slice.ensures
