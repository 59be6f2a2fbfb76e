use Rattle.std.proofs.Common.{◌≡◌, ℕ, List, sym, subst}
use Rattle.std.specs.Prelude.{codes}
use Rattle.scenario_lines.specs.declared.argument.NamedArg.{NamedArg}
use Rattle.scenario_lines.specs.InPlace.{IsRequestRead}
use Rattle.scenario_text.specs.Draft.{take_do}
use Rattle.scenario_text.proofs.InPlaces.{do_answered, failed}
use Rattle.scenario_text.proofs.in_place.take_do.Goals as goal

-- the same request with its arguments as a slice
as_slice : (n : ℕ) (op bytes : List ℕ) (xs ys : List NamedArg) → ys ≡ xs → IsRequestRead n op xs bytes → IsRequestRead n op ys bytes
as_slice n op bytes xs ys e h = subst (λ (zs : List NamedArg). IsRequestRead n op zs bytes) (sym e) h

pub returns-in-Ok : goal.returns-in-Ok
returns-in-Ok c =
    do_answered c.args.draft.now c.in-Some.replica c.in-Some.op.now c.as_slice.result.now c.args.bytes.now _
    (as_slice c.in-Some.replica c.in-Some.op.now c.args.bytes.now c.request_in_place.new.args c.as_slice.result.now c.as_slice.ensures.value (rw c.in-Some.is at c.in_ok-replica.ensures)) c.in-Ok.ensures

pub returns-in-Err : goal.returns-in-Err
returns-in-Err c =
    failed c.in-Err.error c.args.draft.now _ (codes "do") c.args.bytes.now (take_do c.args.draft.now c.in-Some.replica c.in-Some.op.now c.as_slice.result.now) c.in-Err.ensures
    (λ answer is. do_answered c.args.draft.now c.in-Some.replica c.in-Some.op.now c.as_slice.result.now c.args.bytes.now answer
    (as_slice c.in-Some.replica c.in-Some.op.now c.args.bytes.now c.request_in_place.new.args c.as_slice.result.now c.as_slice.ensures.value (rw c.in-Some.is at c.in_ok-replica.ensures)) is)
