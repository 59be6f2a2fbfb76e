use Rattle.std.proofs.Common.{sym}
use Rattle.certificate_lines.proofs.Each.{each_begins, each_ends, each_stops, each_turn, word_shorter}
use Rattle.certificate_lines.proofs.forms.each.Goals as goal

pub reading-init : goal.reading-init
reading-init g c = each_begins c.new-found.result _ c.new-found.ensures

pub reading-smaller : goal.reading-smaller
reading-smaller g c = word_shorter _ _ _ c.in-Some.ensures

pub reading-preserved : goal.reading-preserved
reading-preserved g c = each_turn g.W.Word.reads c.reading.found c.push.new.self _ _ c.in-Some.word.now c.in-Some-read.x _ c.in-Some.ensures (sym c.in-Some-read.ensures) c.in_ok-push-in-Some-read.ensures.ok c.reading.invariant

pub returns-in-None : goal.returns-in-None
returns-in-None g c = each_stops g.W.Word.reads c.reading.found _ _ c.in-Some.word.now _ c.in-Some.ensures (sym c.in-None.ensures) c.reading.invariant

pub returns : goal.returns
returns g c = each_ends g.W.Word.reads c.reading.found _ _ c.in_default.ensures c.reading.invariant
