use Rattle.std.proofs.Common.{◌∙◌, ◌++◌, ◌∷◌, [], List, ℕ, ap, sym, append_assoc}
use Rattle.effect_model.specs.Masking.{wanted_needs}
use Rattle.effect_model.proofs.Masked.{nothing_wanted}
use Rattle.effect_model.proofs.masking.MaskingListing.next.Goals as goal

pub returns-clause-untouched : goal.returns-clause-untouched
returns-clause-untouched g c = λ x le lt behind.
    let s = c.args.self.now in
    let spec = s.laid.now.spec.now in
    let inst = s.laid.now.inst.now in
    let truths = g.T.Truth.truths s.laid.now.state.now in
    ap (λ (ys : List ℕ). wanted_needs s.wanted spec inst truths s.at s.clause.now ys) (sym (append_assoc c.args.front.now (x ∷ []) behind))
    ∙ nothing_wanted s.wanted spec inst truths s.at s.clause.now (c.args.front.now ++ x ∷ []) behind c.lines_of-lines.result.now c.lines_of-lines.ensures (c.next_broken.ensures.untouched x le lt)
