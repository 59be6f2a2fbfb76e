use Rattle.std.proofs.Common.{◌≡◌, ◌++◌, ◌∷◌, [], ap, ◌∙◌}
use Rattle.ind_base.specs.Spans.{paired-push}
use Rattle.ind_base.proofs.span.Spans.push.Goals as goal

pub returns : goal.returns
returns c =
    let s = c.self.inside in
    rw (c.push.ensures, c.push-2.ensures) (paired-push s.lows s.highs c.args.span.lo c.args.span.hi c.self.invariant.0 ∙ ap (λ ps. ps ++ c.args.span ∷ []) c.self.view_is)
