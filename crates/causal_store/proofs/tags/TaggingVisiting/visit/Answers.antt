use Rattle.std.proofs.Common.{◌<◌, ◌∙◌, ap, sym, arith, length, Bool}
use mathlib.Core.Bool.{beq}
use Rattle.causal_store.specs.Keeping.{tags_after}
use Rattle.causal_store.proofs.Kept.{got_at}
use Rattle.causal_store.proofs.TouchedAtoms.{can_still, sets_by, tagged, untagged}
use Rattle.causal_store.proofs.tags.TaggingVisiting.visit.Goals as goal

pub returns-in-Some-clause-done : goal.returns-in-Some-clause-done
returns-in-Some-clause-done c =
    let s = c.args.self.now in
    let place = c.atom_place-place.result in
    let t = c.index-as_slice-place.result in
    let within : place < length c.args.kept.now = omega (arith, c.atom_place-place.ensures.within, c.requires.fits.2.whole) in
    tagged s.spec.now s.inst.now s.item.now s.pred c.args.args.now c.args.kept.now c.set.new.self place c.in-Some.truth t c.after-after.result (sym c.inst_sets.ensures ∙ c.in-Some.is) c.atom_place-place.ensures.place
    (got_at c.args.kept.now c.as_slice.result.now place t _ within c.as_slice.ensures.value c.index-as_slice-place.is)
    (c.after-after.ensures ∙ ap (λ (w : Bool). tags_after s.item.now (beq c.in-Some.truth w) t) c.winning_value-winning.ensures) c.set.ensures

pub returns-in-Some-clause-fits : goal.returns-in-Some-clause-fits
returns-in-Some-clause-fits c =
    let s = c.args.self.now in
    (c.requires.fits.0, c.requires.fits.1, can_still s.spec.now s.item.now (sets_by s.spec.now s.inst.now) (record { pred = s.pred; args = c.args.args.now }) c.args.kept.now c.set.new.self (returns-in-Some-clause-done c) c.requires.fits.2)

pub returns-in-None-clause-done : goal.returns-in-None-clause-done
returns-in-None-clause-done c =
    let s = c.args.self.now in
    sym (untagged s.spec.now s.inst.now s.item.now s.pred c.args.args.now c.args.kept.now (sym c.inst_sets.ensures ∙ c.in-None.is))
