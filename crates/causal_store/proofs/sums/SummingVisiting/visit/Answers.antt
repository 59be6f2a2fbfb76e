use Rattle.std.proofs.Common.{◌<◌, arith, length, get_or, refl}
use Rattle.causal_store.specs.Keeping.{no_sums}
use Rattle.causal_store.proofs.Kept.{got_at}
use Rattle.causal_store.proofs.TouchedCells.{summed}
use Rattle.causal_store.proofs.sums.SummingVisiting.visit.Goals as goal

pub returns-clause-done : goal.returns-clause-done
returns-clause-done c =
    let s = c.args.self.now in
    let place = c.cell_place-place.result in
    let before = get_or c.as_slice.result.now place no_sums in
    let within : place < length c.args.kept.now = omega (arith, c.cell_place-place.ensures.within, c.requires.fits.1) in
    summed s.spec.now s.inst.now (record { num = s.num; args = c.args.args.now }) c.args.kept.now c.set.new.self place c.net_change-net.result.0 c.net_change-net.result.1 before c.after-after.result c.cell_place-place.ensures.place
    (got_at c.args.kept.now c.as_slice.result.now place before no_sums within c.as_slice.ensures.value refl) c.net_change-net.ensures.rise c.net_change-net.ensures.fall c.after-after.ensures c.set.ensures
