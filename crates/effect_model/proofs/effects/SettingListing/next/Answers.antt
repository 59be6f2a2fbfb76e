use Rattle.std.proofs.Common.{◌∙◌, ◌++◌, ◌∷◌, [], List, ℕ, ap, sym, append_assoc}
use Rattle.effect_model.specs.Turns.{atoms_set_by}
use Rattle.effect_model.proofs.Untouched.{nothing_set}
use Rattle.effect_model.proofs.effects.SettingListing.next.Goals as goal

pub returns-clause-untouched : goal.returns-clause-untouched
returns-clause-untouched c = λ x le lt behind.
    let s = c.args.self.now in
    ap (λ (ys : List ℕ). atoms_set_by s.inst.now s.lines.now s.pred ys) (sym (append_assoc c.args.front.now (x ∷ []) behind))
    ∙ nothing_set s.inst.now s.pred (c.args.front.now ++ x ∷ []) behind s.lines.now (c.next_set.ensures.untouched x le lt)
