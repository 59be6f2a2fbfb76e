use Rattle.std.proofs.Common.{◌≡◌, ◌∙◌, ap}
use Rattle.std.proofs.lemmas.Option.{slice_get_within}
use Rattle.spec_model.specs.Universe.{atoms}
use Rattle.effect_model.specs.Blocks.{pred_blocks}
use Rattle.effect_model.proofs.Blocked.{atom_block, atom_placed, atom_there}
use Rattle.effect_model.proofs.map.Places.atom_place.Goals as goal

pub block_place-requires : goal.block_place-requires
block_place-requires c =
    let all : c.as_slice.result.now ≡ pred_blocks c.args.self.now = c.as_slice.ensures.value ∙ c.self.invariant.0 ∙ ap pred_blocks c.self.view_is in
    rw (all, c.as_slice-2.ensures.value) (record { fits = atom_block c.args.self.now c.args.atom.now c.requires.well_formed c.requires.fits })

pub returns-clause-value : goal.returns-clause-value
returns-clause-value c =
    let all : c.as_slice.result.now ≡ pred_blocks c.args.self.now = c.as_slice.ensures.value ∙ c.self.invariant.0 ∙ ap pred_blocks c.self.view_is in
    atom_placed c.args.self.now c.args.atom.now c.block_place.result c.requires.well_formed c.requires.fits (rw (all, c.as_slice-2.ensures.value) at c.block_place.ensures)

pub returns-clause-place : goal.returns-clause-place
returns-clause-place c = atom_there c.args.self.now c.args.atom.now c.block_place.result c.requires.fits (returns-clause-value c)

pub returns-clause-within : goal.returns-clause-within
returns-clause-within c = slice_get_within (atoms c.args.self.now) c.block_place.result c.args.atom.now (atom_there c.args.self.now c.args.atom.now c.block_place.result c.requires.fits (returns-clause-value c))
