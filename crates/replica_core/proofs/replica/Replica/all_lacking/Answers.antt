use Rattle.std.proofs.Common.{◌≡◌, ◌<◌, List, ◌++◌, ◌∷◌, [], length, get_or, map, take, sym, ap, ◌∙◌, arith}
use Rattle.spec_model.specs.declared.right.Want.{Want}
use Rattle.run_model.specs.Wants.{want_less}
use Rattle.replica_core.specs.Replicas.{holds_of}
use Rattle.replica_core.proofs.Lists.{map_take_more}
use Rattle.replica_core.proofs.replica.Replica.all_lacking.Goals as goal

pub loop-want-preserved : goal.loop-want-preserved
loop-want-preserved c =
    let wants : List Want = c.args.self.now.wants in
    let k = c.loop-want.want-index in
    let f = want_less (holds_of c.args.setup.now c.args.self.now) in
    let lt : k < length wants = omega (arith, c.loop-want-test.true, ap length c.list-wants.ensures.value) in
    let is : c.want-item.result ≡ get_or wants k c.want-item.result = c.want-item.is ∙ ap (λ (l : List Want). get_or l k c.want-item.result) c.list-wants.ensures.value in
    c.in_ok-push.ensures.ok ∙ ap (λ (l : List Want). l ++ c.still_lacking.result ∷ []) c.loop-want.invariant ∙ ap (λ w. map f (take k wants) ++ w ∷ []) c.still_lacking.ensures ∙ sym (map_take_more f wants k c.want-item.result lt is)
