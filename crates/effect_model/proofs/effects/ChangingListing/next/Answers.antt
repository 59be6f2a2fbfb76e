use Rattle.std.proofs.Common.{◌∙◌, ◌++◌, ◌∷◌, [], List, ℕ, ap, sym, append_assoc}
use Rattle.effect_model.specs.Turns.{cells_changed_by}
use Rattle.effect_model.proofs.Untouched.{nothing_changed}
use Rattle.effect_model.proofs.effects.ChangingListing.next.Goals as goal

pub returns-clause-untouched : goal.returns-clause-untouched
returns-clause-untouched c = λ x le lt behind.
    let s = c.args.self.now in
    ap (λ (ys : List ℕ). cells_changed_by s.inst.now s.lines.now s.num ys) (sym (append_assoc c.args.front.now (x ∷ []) behind))
    ∙ nothing_changed s.inst.now s.num (c.args.front.now ++ x ∷ []) behind s.lines.now (c.next_changed.ensures.untouched x le lt)
