use Rattle.std.proofs.Common.{◌≡◌, ◌<◌, ◌++◌, List, cond, length, get_or, map, drop, take, arith, ap, ◌∙◌}
use Rattle.std.specs.Prelude.{slice_set}
use Rattle.spec_model.specs.declared.right.Want.{Want}
use Rattle.run_model.specs.Wants.{is_on}
use Rattle.rights_transfer.proofs.Mapped.{mapped_next}
use Rattle.rights_transfer.proofs.wants.Wants.replace.Goals as goal

pub loop-k-preserved : goal.loop-k-preserved
loop-k-preserved c =
    let old : List Want = c.args.self.now in
    let want : Want = c.args.want.now in
    let k = c.loop-k.k in
    let w : Want = c.index.result.now in
    let f : Want → Want = λ v. cond (is_on want.right v) want v in
    let lt : k < length old = omega (arith, c.loop-k-test.true, ap length c.list-k-end.ensures.value) in
    let there : w ≡ get_or (map f (take k old) ++ drop k old) k w = c.index.ensures ∙ ap (λ (l : List Want). get_or l k w) c.loop-k.invariant.0 in (
      ap (λ (l : List Want). slice_set l k c.instead_of.result) c.loop-k.invariant.0
          ∙ ap (λ (v : Want). slice_set (map f (take k old) ++ drop k old) k v) c.instead_of.ensures
          ∙ mapped_next f old k w lt there,
      omega (arith, lt),
    )
