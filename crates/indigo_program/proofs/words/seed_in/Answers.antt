use Rattle.std.proofs.Common.{sym, ◌∙◌}
use Rattle.std.proofs.lemmas.Bool.{false≢true}
use Rattle.indigo_program.proofs.Answered.{seed_none, seed_other, seed_some}
use Rattle.indigo_program.proofs.words.seed_in.Goals as goal

pub returns-then-is_word-clause-none : goal.returns-then-is_word-clause-none
returns-then-is_word-clause-none c = seed_none _ _ c.read_num.result c.read_num.ensures.none

pub returns-then-is_word-clause-some : goal.returns-then-is_word-clause-some
returns-then-is_word-clause-some c = seed_some _ _ c.read_num.result (c.is_word.ensures.0 c.if-is_word.true) c.read_num.ensures.value c.read_num.ensures.some

pub returns-else-is_word-clause-none : goal.returns-else-is_word-clause-none
returns-else-is_word-clause-none c = seed_other _ _ (λ is. false≢true (sym c.if-is_word.false ∙ c.is_word.ensures.1 is))
