use Rattle.std.proofs.Common.{◌≡◌, ℕ, ◌<◌, zero, suc, List, get_or, true, false, inl, inr, arith, refl, sym, ◌∙◌}
use Rattle.line_text.specs.Tokens.{is_word_byte}
use Rattle.line_text.proofs.Pieces.{run_at}
use Rattle.line_text.proofs.token.run_len.Goals as goal

-- where the first byte is of a word, a byte that isn't stands behind it
behind : (n : ℕ) (bytes : List ℕ) → is_word_byte (get_or bytes 0 0) ≡ true → is_word_byte (get_or bytes n 0) ≡ false → 0 < n
behind zero bytes first other = absurd cc
behind (suc n) bytes first other = omega arith

pub returns-then-not-is_word_byte-clause-within : goal.returns-then-not-is_word_byte-clause-within
returns-then-not-is_word_byte-clause-within c =
    (behind _ c.args.bytes.now c.requires.word (sym c.is_word_byte.ensures ∙ c.if-not-is_word_byte.true), omega arith)

pub returns-then-not-is_word_byte-clause-run : goal.returns-then-not-is_word_byte-clause-run
returns-then-not-is_word_byte-clause-run c =
    let other = sym c.is_word_byte.ensures ∙ c.if-not-is_word_byte.true in
    run_at c.loop-len.len c.args.bytes.now (behind _ c.args.bytes.now c.requires.word other) (omega arith) c.loop-len.invariant (inr other)

pub returns-clause-run : goal.returns-clause-run
returns-clause-run c = run_at _ c.args.bytes.now c.requires.some (omega arith) (λ k lt. c.loop-len.invariant k (omega arith)) (inl refl)
