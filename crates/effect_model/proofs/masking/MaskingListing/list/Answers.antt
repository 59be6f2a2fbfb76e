use Rattle.std.proofs.Common.{◌≡◌, ◌++◌, ◌∙◌, ap, sym, subst, OnOk, List, false, length}
use Rattle.std.proofs.lemmas.List.{append-nil}
use Rattle.spec_model.specs.declared.right.Need.{Need}
use Rattle.spec_model.specs.Masks.{is_falsified, is_given}
use Rattle.spec_model.specs.Truths.{literals}
use Rattle.effect_model.proofs.Masked.{places_none, places_some, unneeded, wanted_are}
use Rattle.effect_model.proofs.masking.MaskingListing.list.Goals as goal

pub returns-then-len-eq0 : goal.returns-then-len-eq0
returns-then-len-eq0 g c =
    let laid = c.args.self.now.laid.now in
    let xs = c.args.args.now in
    let clause = c.args.self.now.clause.now in
    let none = ap length (sym (rw c.as_slice-2.ensures.value at c.falsified_places-falsified.ensures)) ∙ sym c.len.ensures.value ∙ c.if-len-eq0.true in
    let unset = places_none (is_falsified laid.spec.now laid.inst.now xs) 0 (literals clause) none in
    sym (append-nil c.args.out.now) ∙ ap (λ (ns : List Need). c.args.out.now ++ ns) (sym (unneeded c.args.self.now.wanted laid.spec.now laid.inst.now (g.T.Truth.truths laid.state.now) c.args.self.now.at clause xs unset))

pub returns : goal.returns
returns g c =
    let laid = c.args.self.now.laid.now in
    let xs = c.args.args.now in
    let clause = c.args.self.now.clause.now in
    let falsified = rw c.as_slice-2.ensures.value at c.falsified_places-falsified.ensures in
    let some = places_some (is_falsified laid.spec.now laid.inst.now xs) 0 (literals clause) (λ e. c.if-len-eq0.false (c.len.ensures.value ∙ ap length falsified ∙ e)) in
    let open_is : is_given xs clause ≡ false = sym (rw c.as_slice.ensures.value at c.is_given.ensures) ∙ c.if-is_given.false in
    subst (λ (ns : List Need). OnOk c.list_parts.result (c.list_parts.new.out ≡ c.args.out.now ++ ns)) (sym (wanted_are c.args.self.now.wanted laid.spec.now laid.inst.now (g.T.Truth.truths laid.state.now) c.args.self.now.at clause xs open_is some)) c.list_parts.ensures
