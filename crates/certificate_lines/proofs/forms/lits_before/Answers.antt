use Rattle.std.proofs.Common.{sym}
use Rattle.certificate_lines.proofs.Each.{lits_begin, lits_end, lits_none, lits_stop, lits_turn, word_shorter}
use Rattle.certificate_lines.proofs.forms.lits_before.Goals as goal

pub reading-init : goal.reading-init
reading-init c = lits_begin c.new-found.result _ c.new-found.ensures

pub returns-then-same : goal.returns-then-same
returns-then-same c = lits_end c.reading.found _ _ c.in-Some.word.now _ c.in-Some.ensures c.if-same.ensures c.reading.invariant

pub reading-smaller : goal.reading-smaller
reading-smaller c = word_shorter _ _ _ c.in-Some.ensures

pub reading-preserved : goal.reading-preserved
reading-preserved c = lits_turn c.reading.found c.push.new.self _ _ c.in-Some.word.now c.in-Some-read.lit _ c.in-Some.ensures c.if-same.ensures (sym c.in-Some-read.ensures) c.in_ok-push-in-Some-read.ensures.ok c.reading.invariant

pub returns-in-None : goal.returns-in-None
returns-in-None c = lits_stop c.reading.found _ _ c.in-Some.word.now _ c.in-Some.ensures c.if-same.ensures (sym c.in-None.ensures) c.reading.invariant

pub returns : goal.returns
returns c = lits_none c.reading.found _ _ c.in_default.ensures c.reading.invariant
