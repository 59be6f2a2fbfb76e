use Rattle.std.proofs.Common.{◌≡◌, ℕ, ◌-◌, ◌+◌, get_or, length, List, Some, subst, rules}
use Rattle.std.specs.Prelude.{take}
use Rattle.op_records.specs.Reading.{many_at, number_at}
use Rattle.op_records.proofs.Loop.{with_front, goes_on, take_step}
use Rattle.op_records.proofs.cursor.Cursor.has_counts.Goals as goal

pub loop-count-preserved : goal.loop-count-preserved
loop-count-preserved c =
    let counts : List ℕ = c.args.counts.now in
    let k = c.loop-count.count-index in
    let x : ℕ = c.in-Some.read in
    let after = c.word.new.self in
    let total = many_at (number_at 4) (length counts) c.args.self.now in
    let read : number_at 4 c.loop-count.self ≡ Some (x, after) = search rules in
    let there : x ≡ get_or counts k x = search rules in
    subst (λ (front : List ℕ). with_front front (many_at (number_at 4) (length counts - (k + 1)) after) ≡ total) (take_step counts k x c.loop-count-test.true there)
    (goes_on (number_at 4) (take k counts) (length counts) k c.loop-count.self x after total c.loop-count-test.true read c.loop-count.invariant)
