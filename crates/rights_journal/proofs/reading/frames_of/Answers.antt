use Rattle.std.proofs.Common.{◌≡◌, ◌<◌, ◌++◌, ◌∷◌, [], List, length, sym, ap, subst, ◌∙◌, ℕ, rules}
use Rattle.std.specs.List.{AllByRecursion}
use Rattle.run_model.specs.declared.batch.Batch.{Batch}
use Rattle.rights_journal.specs.Batches.{IsSpelled, text_of}
use Rattle.rights_journal.specs.Image.{opened, sized}
use Rattle.rights_journal.specs.Reading.{known_and}
use Rattle.rights_journal.proofs.Frames.{known_push, all_known_push}
use Rattle.rights_journal.proofs.reading.frames_of.Goals as goal

pub frames-preserved : goal.frames-preserved
frames-preserved c =
    let n = c.args.replicas in
    let same = c.known_frames-front.result.0 in
    let known : List Batch = c.args.known.now in
    let so_far : List Batch = c.frames.batches in
    let b : Batch = c.in-Some.batch in
    let next : List ℕ = c.in-Some.next.now in
    let here : IsSpelled n b = search rules in
    let rest : c.frames.rest.now ≡ 1 ∷ (sized (text_of n b) ++ next) = search rules in
    let some : 0 < length next = search rules in
    let pushed : c.push.new.self ≡ so_far ++ b ∷ [] = search rules in
    let bytes : c.args.bytes.now ≡ opened n (known_and same known (so_far ++ b ∷ [])) ++ next =
    c.frames.invariant.0 ∙ ap (λ (l : List ℕ). opened n (known_and same known so_far) ++ l) rest ∙ known_push n same known so_far b next in
    subst (λ (l : List Batch). (c.args.bytes.now ≡ opened n (known_and same known l) ++ next) × (0 < length next) × AllByRecursion (IsSpelled n) (known_and same known l)) (sym pushed)
    (bytes, some, all_known_push n same known so_far b c.frames.invariant.2 here)
