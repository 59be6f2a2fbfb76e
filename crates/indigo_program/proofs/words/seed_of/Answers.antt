use Rattle.std.proofs.Common.{List, ℕ, sym, subst, ◌∙◌, arith}
use Rattle.std.specs.Prelude.{IfNone, IfSome, string_bytes}
use Rattle.indigo_program.specs.Headline.{AsksSoak}
use Rattle.indigo_program.proofs.Answered.{two_words}
use Rattle.indigo_program.proofs.words.seed_of.Goals as goal

pub returns-in-len2-clause-none : goal.returns-in-len2-clause-none
returns-in-len2-clause-none c =
    let two = two_words string_bytes c.args.words.now c.word-item.result c.digits-item.result c.as_str.result.now c.as_bytes.result.now (omega (arith, c.in-len2.len_at_least)) c.in-len2.len_below c.word-item.is c.digits-item.is c.as_str.ensures.value (c.as_bytes.ensures.value ∙ c.as_str-in-len2.ensures.value) in
    subst (λ (ws : List (List ℕ)). IfNone c.seed_in.result ((seed : ℕ) → AsksSoak ws seed → ⊥)) (sym two) c.seed_in.ensures.none

pub returns-in-len2-clause-some : goal.returns-in-len2-clause-some
returns-in-len2-clause-some c =
    let two = two_words string_bytes c.args.words.now c.word-item.result c.digits-item.result c.as_str.result.now c.as_bytes.result.now (omega (arith, c.in-len2.len_at_least)) c.in-len2.len_below c.word-item.is c.digits-item.is c.as_str.ensures.value (c.as_bytes.ensures.value ∙ c.as_str-in-len2.ensures.value) in
    subst (λ (ws : List (List ℕ)). IfSome c.seed_in.result (λ seed. AsksSoak ws seed)) (sym two) c.seed_in.ensures.some
