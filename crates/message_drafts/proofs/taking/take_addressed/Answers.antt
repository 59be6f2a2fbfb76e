use Rattle.run_model.specs.Logs.{cut_after}
use Rattle.std.proofs.Common.{◌≡◌, ℕ, List, length, take, sym, ap, subst, ◌∙◌, arith}
use Rattle.std.specs.Prelude.{All, slice_index}
use Rattle.std.proofs.lemmas.Result.{IfOk-weaker}
use Rattle.effect_model.proofs.Sizes.{all_at}
use Rattle.spec_model.specs.declared.log.LogItem.{LogItem}
use Rattle.run_model.specs.Fitting.{IsPlaced}
use Rattle.message_drafts.proofs.Decisions.{batched_as, own_count, ready_placed, takes_heeded}
use Rattle.message_drafts.proofs.taking.take_addressed.Goals as goal

pub seen_after-seen-requires-clause-fits : goal.seen_after-seen-requires-clause-fits
seen_after-seen-requires-clause-fits c =
    let setup = c.args.setup.now in
    let message = c.args.message.now in
    let ready : List LogItem = c.ready_items-ready.result.now in
    let n = c.in_ok-decided.decided.applied in
    let placed = ready_placed setup c.args.cut.now message.from n (take 16 message.items) ready c.ready_items-ready.ensures.ready in
    subst (All (IsPlaced setup.replicas)) (sym c.split_at.ensures.front) (λ k d lt. all_at (IsPlaced setup.replicas) (take n ready) k d placed lt)

pub batched-requires-clause-place : goal.batched-requires-clause-place
batched-requires-clause-place c =
    let message = c.args.message.now in
    let ready : List LogItem = c.ready_items-ready.result.now in
    let cut : List ℕ = c.args.cut.now in
    let n = c.in_ok-decided.decided.applied in
    let sees = c.requires.sees.1 in
    let own = own_count c.args.setup.now c.requires.sees.0 c.args.me message.from n cut c.args.table.now (take 16 message.items) ready sees c.requires.addressed.sender c.requires.addressed.other c.ready_items-ready.ensures.ready in
    let seen : c.seen_after-seen.result ≡ cut_after cut (take n ready) = c.seen_after-seen.ensures ∙ ap (cut_after cut) c.split_at.ensures.front in
    omega (arith, own.1, ap length seen, sees.view.within, sees.me_is)

pub batched-requires-clause-room : goal.batched-requires-clause-room
batched-requires-clause-room c =
    let message = c.args.message.now in
    let ready : List LogItem = c.ready_items-ready.result.now in
    let cut : List ℕ = c.args.cut.now in
    let n = c.in_ok-decided.decided.applied in
    let sees = c.requires.sees.1 in
    let own = own_count c.args.setup.now c.requires.sees.0 c.args.me message.from n cut c.args.table.now (take 16 message.items) ready sees c.requires.addressed.sender c.requires.addressed.other c.ready_items-ready.ensures.ready in
    let seen : c.seen_after-seen.result ≡ cut_after cut (take n ready) = c.seen_after-seen.ensures ∙ ap (cut_after cut) c.split_at.ensures.front in
    omega (arith, own.0, ap (λ (l : List ℕ). slice_index l c.args.me) seen, sees.room, c.in_ok-decided.ensures.few)

pub returns : goal.returns
returns c =
    let setup = c.args.setup.now in
    let message = c.args.message.now in
    let ready : List LogItem = c.ready_items-ready.result.now in
    let cut : List ℕ = c.args.cut.now in
    let d = c.in_ok-decided.decided in
    let applied : List LogItem = take d.applied ready in
    let front : c.split_at.result.0.now ≡ applied = c.split_at.ensures.front in
    let seen : c.seen_after-seen.result ≡ cut_after cut applied = c.seen_after-seen.ensures ∙ ap (cut_after cut) front in
    IfOk-weaker c.batched.result _ _
    (λ taken batch v sees.
    takes_heeded setup v c.args.me cut c.args.table.now message ready d taken sees c.requires.addressed c.ready_items-ready.ensures.ready (c.in_ok-decided.ensures.decided v sees)
    (batched_as c.args.me c.seen_after-seen.result (cut_after cut applied) c.split_at.result.0.now applied d taken seen front batch))
    c.batched.ensures
