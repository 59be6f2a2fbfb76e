use Rattle.std.proofs.Common.{◌≡◌, ◌∙◌, ap, List, ℕ, arith, take}
use Rattle.std.specs.List.{sum_by}
use Rattle.spec_model.specs.Universe.{sizes_of, tuple_count}
use Rattle.effect_model.specs.Tuples.{count_over, rank}
use Rattle.effect_model.proofs.Sizes.{below_sizes}
use Rattle.effect_model.proofs.Declarations.{first_behind, part_small, stands_there}
use Rattle.effect_model.proofs.layout.place_of.Goals as goal

pub place_over-requires-clause-within : goal.place_over-requires-clause-within
place_over-requires-clause-within g c =
    let one_is = first_behind c.args.declared.now _ c.args.tuple.now.of _ c.requires.fits.one c.requires.fits.one_is c.split_at.ensures.back c.index-rest-0.is in
    let sorts : c.sorts.result.now ≡ g.D.Declared.sorts_of c.requires.fits.one = c.sorts.ensures ∙ ap g.D.Declared.sorts_of one_is in
    rw (sorts, c.as_slice.ensures.value) (below_sizes c.args.spec.now (g.D.Declared.sorts_of c.requires.fits.one) c.args.tuple.now.args c.requires.fits.within)

pub place_over-requires-clause-small : goal.place_over-requires-clause-small
place_over-requires-clause-small g c =
    let one_is = first_behind c.args.declared.now _ c.args.tuple.now.of _ c.requires.fits.one c.requires.fits.one_is c.split_at.ensures.back c.index-rest-0.is in
    let sorts : c.sorts.result.now ≡ g.D.Declared.sorts_of c.requires.fits.one = c.sorts.ensures ∙ ap g.D.Declared.sorts_of one_is in
    let part = part_small (count_over c.args.spec.now g.D.Declared.sorts_of) c.args.declared.now c.args.tuple.now.of c.requires.fits.one c.requires.fits.one_is in
    rw sorts (omega (arith, part, c.requires.small))

pub overflow_add-result : goal.overflow_add-result
overflow_add-result g c =
    let count = count_over c.args.spec.now g.D.Declared.sorts_of in
    let one_is = first_behind c.args.declared.now _ c.args.tuple.now.of _ c.requires.fits.one c.requires.fits.one_is c.split_at.ensures.back c.index-rest-0.is in
    let sorts : c.sorts.result.now ≡ g.D.Declared.sorts_of c.requires.fits.one = c.sorts.ensures ∙ ap g.D.Declared.sorts_of one_is in
    let before : c.count_all.result ≡ sum_by count (take c.args.tuple.now.of c.args.declared.now) = c.count_all.ensures ∙ ap (sum_by count) c.split_at.ensures.front in
    let part = part_small count c.args.declared.now c.args.tuple.now.of c.requires.fits.one c.requires.fits.one_is in
    omega (arith, before, part, c.place_over.ensures.within, ap (λ (ss : List ℕ). tuple_count (sizes_of c.args.spec.now ss)) sorts, c.requires.small)

pub returns : goal.returns
returns g c =
    let spec = c.args.spec.now in
    let one = c.requires.fits.one in
    let t = c.args.tuple.now in
    let sorts_of = g.D.Declared.sorts_of in
    let count = count_over spec sorts_of in
    let one_is = first_behind c.args.declared.now _ t.of _ one c.requires.fits.one_is c.split_at.ensures.back c.index-rest-0.is in
    let sorts : c.sorts.result.now ≡ sorts_of one = c.sorts.ensures ∙ ap sorts_of one_is in
    let before : c.count_all.result ≡ sum_by count (take t.of c.args.declared.now) = c.count_all.ensures ∙ ap (sum_by count) c.split_at.ensures.front in
    let place : c.place_over.result ≡ rank (sizes_of spec (sorts_of one)) t.args = c.place_over.ensures.value ∙ ap (λ (ss : List ℕ). rank (sizes_of spec ss) c.as_slice.result.now) sorts ∙ ap (rank (sizes_of spec (sorts_of one))) c.as_slice.ensures.value in
    rw (before, place) (stands_there spec sorts_of 0 c.args.declared.now t.of t.of one t.args c.requires.fits.one_is c.requires.fits.within (omega arith))
