use Rattle.std.proofs.Common.{◌∙◌, ◌++◌, ◌∷◌, [], List, ℕ, ap, sym, append_assoc}
use Rattle.effect_model.specs.Turns.{cell_needs}
use Rattle.effect_model.proofs.Untouched.{nothing_needed}
use Rattle.effect_model.proofs.escrow.NeedingListing.next.Goals as goal

pub returns-clause-untouched : goal.returns-clause-untouched
returns-clause-untouched c = λ x le lt behind.
    let s = c.args.self.now in
    ap (λ (ys : List ℕ). cell_needs s.inst.now s.lines.now s.low s.high (record { num = s.num; args = ys })) (sym (append_assoc c.args.front.now (x ∷ []) behind))
    ∙ nothing_needed s.inst.now s.num (c.args.front.now ++ x ∷ []) behind s.lines.now s.low s.high (c.next_changed.ensures.untouched x le lt)
