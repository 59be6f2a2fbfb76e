use Rattle.std.proofs.Common.{◌≡◌, ◌<◌, ◌^◌, Option, take, drop, length, ◌∙◌, subst, arith, rules}
use Rattle.std.specs.Prelude.{MatchOption}
use Rattle.std.specs.Int.{w32, from_be_bytes}
use Rattle.run_model.specs.declared.batch.Batch.{Batch}
use Rattle.rights_journal.specs.Batches.{IsSpelled, text_of}
use Rattle.rights_journal.proofs.Frames.{found_by_length}
use Rattle.rights_journal.proofs.Texts.{short}
use Rattle.rights_journal.proofs.reading.frame_of.Goals as goal

pub returns-in-None : goal.returns-in-None
returns-in-None c = λ b gate more fine is.
    let bytes = c.args.bytes.now in
    let count = c.from_be_bytes-count.result in
    let body = c.split_at-2.result.0.now in
    let counted : count ≡ from_be_bytes w32 (take 4 bytes) = search rules in
    let body_is : body ≡ take count (drop 4 bytes) = search rules in
    let none = subst (λ (r : Option Batch). MatchOption r ((b : Batch) → IsSpelled c.args.replicas b → body ≡ text_of c.args.replicas b → ⊥)
    (λ b. IsSpelled c.args.replicas b × (body ≡ text_of c.args.replicas b))) c.in-None.is c.in_ok-decode_batch.ensures in
    let small : length (text_of c.args.replicas b) < 2 ^ 32 = omega (arith, short c.args.replicas b fine) in
    none b fine (body_is ∙ found_by_length (text_of c.args.replicas b) more bytes gate count small is counted)
