use Rattle.std.proofs.Common.{◌≡◌, length, sym, ap, ◌∙◌}
use Rattle.ind_base.specs.Spans.{length-paired}
use Rattle.ind_base.proofs.span.Spans.len.Goals as goal

pub returns-clause-value : goal.returns-clause-value
returns-clause-value c =
    let s = c.self.inside in
    c.len.ensures.value ∙ sym (length-paired s.lows s.highs c.self.invariant.0) ∙ ap length c.self.view_is
