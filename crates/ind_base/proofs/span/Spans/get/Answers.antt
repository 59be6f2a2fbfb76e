use Rattle.std.proofs.Common.{◌≡◌, sym, ap, ◌∙◌}
use Rattle.std.specs.Prelude.{slice_get}
use Rattle.ind_base.specs.Spans.{slice_get-paired}
use Rattle.ind_base.proofs.span.Spans.get.Goals as goal

pub returns : goal.returns
returns c =
    let s = c.self.inside in
    rw (c.between.ensures, c.get.ensures, c.get-2.ensures) (sym (slice_get-paired s.lows s.highs c.args.at c.self.invariant.0) ∙ ap (λ ps. slice_get ps c.args.at) c.self.view_is)
