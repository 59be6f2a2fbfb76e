use Rattle.std.proofs.Common.{◌≡◌, ◌++◌, List, length, ap, sym, subst, ◌∙◌, arith, drop, take}
use Rattle.spec_model.specs.declared.log.LogItem.{LogItem}
use Rattle.run_model.specs.Logs.{with_all}
use Rattle.replica_core.specs.Replicas.{known_to}
use Rattle.replica_core.specs.Decisions.{IsReadyFor}
use Rattle.replica_core.proofs.Committed.{accepted_within, joined_back}
use Rattle.replica_core.proofs.replica.Replica.commit_heeded.Goals as goal

pub split_at-requires-2 : goal.split_at-requires-2
split_at-requires-2 c =
    let taken = c.args.taken.now in
    let behind : c.split_at.result.1.now ≡ drop taken.applied taken.batch.items = c.split_at.ensures.back ∙ ap (drop taken.applied) c.as_slice.ensures.value in
    omega (arith, ap length behind, accepted_within c.args.setup.now c.requires.decided.0 c.args.self.now taken c.requires.own c.requires.decided.3 c.requires.decided.4)

pub do_all-requires-clause-splits : goal.do_all-requires-clause-splits
do_all-requires-clause-splits c =
    let taken = c.args.taken.now in
    let behind : c.split_at.result.1.now ≡ drop taken.applied taken.batch.items = c.split_at.ensures.back ∙ ap (drop taken.applied) c.as_slice.ensures.value in (
      c.requires.decided.0,
      taken,
      c.requires.decided.1,
      c.requires.decided.2,
      record {
        own = c.requires.own;
        heeded = c.requires.decided.3;
        decided = c.requires.decided.4;
        front_is = c.split_at.ensures.front ∙ ap (take taken.applied) c.as_slice.ensures.value;
        accepts_are = c.split_at-2.ensures.front ∙ ap (take taken.accepted) behind;
        outs_are = c.split_at-2.ensures.back ∙ ap (drop taken.accepted) behind;
      },
    )

pub do_all-requires-clause-ready : goal.do_all-requires-clause-ready
do_all-requires-clause-ready c =
    let taken = c.args.taken.now in
    let own : List LogItem = c.split_at.result.1.now in
    let parts : own ≡ c.split_at-2.result.0.now ++ c.split_at-2.result.1.now = joined_back taken.accepted own c.split_at-2.result.0.now c.split_at-2.result.1.now c.split_at-2.ensures.front c.split_at-2.ensures.back in
    let all : c.as_slice.result.now ≡ c.split_at.result.0.now ++ own = joined_back taken.applied c.as_slice.result.now c.split_at.result.0.now own c.split_at.ensures.front c.split_at.ensures.back in
    subst (IsReadyFor c.args.setup.now c.args.self.now) (sym c.as_slice.ensures.value ∙ all ∙ ap (λ (l : List LogItem). c.split_at.result.0.now ++ l) parts) c.requires.ready

pub returns-clause-known : goal.returns-clause-known
returns-clause-known c =
    let taken = c.args.taken.now in
    let own : List LogItem = c.split_at.result.1.now in
    let front : List LogItem = c.split_at.result.0.now in
    let parts : own ≡ c.split_at-2.result.0.now ++ c.split_at-2.result.1.now = joined_back taken.accepted own c.split_at-2.result.0.now c.split_at-2.result.1.now c.split_at-2.ensures.front c.split_at-2.ensures.back in
    let all : taken.batch.items ≡ front ++ own = sym c.as_slice.ensures.value ∙ joined_back taken.applied c.as_slice.result.now front own c.split_at.ensures.front c.split_at.ensures.back in
    c.do_all.ensures.known ∙ ap (λ (l : List LogItem). with_all l (known_to c.args.self.now)) (sym (all ∙ ap (λ (l : List LogItem). front ++ l) parts))

pub returns-clause-taken : goal.returns-clause-taken
returns-clause-taken c =
    let taken = c.args.taken.now in
    let behind : c.split_at.result.1.now ≡ drop taken.applied taken.batch.items = c.split_at.ensures.back ∙ ap (drop taken.applied) c.as_slice.ensures.value in
    λ message from cut fits decided.
    c.do_all.ensures.taken message taken from cut (record {
      own = c.requires.own;
      heeded = fits;
      decided = decided;
      front_is = c.split_at.ensures.front ∙ ap (take taken.applied) c.as_slice.ensures.value;
      accepts_are = c.split_at-2.ensures.front ∙ ap (take taken.accepted) behind;
      outs_are = c.split_at-2.ensures.back ∙ ap (drop taken.accepted) behind;
    })
