use Rattle.std.proofs.Common.{◌++◌, ◌∷◌, [], ◌<◌, ℕ, List, length, take, max, sym, ap, ◌∙◌, arith}
use Rattle.std.specs.Prelude.{slice_index}
use Rattle.run_model.specs.Worlds.{joined}
use Rattle.replica_core.proofs.Changes.{joined_more, joined_short, take_short}
use Rattle.replica_core.proofs.taking.joined.Goals as goal

pub push-requires : goal.push-requires
push-requires c =
    let short = joined_short (take c.loop-at.at c.args.a.now) (take c.loop-at.at c.args.b.now) in
    let front = take_short c.loop-at.at c.args.a.now in
    omega (arith, ap length c.loop-at.invariant, short, front, c.loop-at-test.true, c.as_slice-count-items.ensures.fits)

pub loop-at-preserved : goal.loop-at-preserved
loop-at-preserved c =
    let k = c.loop-at.at in
    let a = c.args.a.now in
    let b = c.args.b.now in
    let la : k < length a = omega (arith, c.loop-at-test.true, ap length c.as_slice-count-items.ensures.value) in
    let lb : k < length b = omega (arith, la, c.requires) in
    c.push.ensures ∙ ap (λ (l : List ℕ). l ++ c.max.result ∷ []) c.loop-at.invariant
    ∙ ap (λ n. joined (take k a) (take k b) ++ n ∷ []) (c.max.ensures ∙ ap (λ (l : List ℕ). max (slice_index l k) (slice_index c.as_slice.result.now k)) c.as_slice-count-items.ensures.value ∙ ap (λ (l : List ℕ). max (slice_index a k) (slice_index l k)) c.as_slice.ensures.value)
    ∙ sym (joined_more a b k la lb)
