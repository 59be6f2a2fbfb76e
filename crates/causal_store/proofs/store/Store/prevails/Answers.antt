use Rattle.std.proofs.Common.{◌<◌, ◌∙◌, ◌&&◌, not, ap, arith, length}
use Rattle.causal_store.specs.Stores.{logs_in}
use Rattle.causal_store.proofs.Kept.{got_at}
use Rattle.causal_store.proofs.Stepped.{prevails_is, tags_long}
use Rattle.causal_store.proofs.store.Store.prevails.Goals as goal

pub is_live-live-requires : goal.is_live-live-requires
is_live-live-requires c =
    let s = c.args.self.now in
    let t = c.index-as_slice-place.result in
    let within : c.atom_place-place.result < length s.tags = omega (arith, c.atom_place-place.ensures.within, c.requires.own.tags.whole) in
    tags_long c.args.spec.now (length (logs_in s)) s c.args.atom.now c.atom_place-place.result t c.requires.own c.atom_place-place.ensures.place (got_at s.tags c.as_slice.result.now c.atom_place-place.result t _ within c.as_slice.ensures.value c.index-as_slice-place.is)

pub returns : goal.returns
returns c =
    let s = c.args.self.now in
    let t = c.index-as_slice-place.result in
    let within : c.atom_place-place.result < length s.tags = omega (arith, c.atom_place-place.ensures.within, c.requires.own.tags.whole) in
    c.stands.ensures
    ∙ prevails_is c.args.spec.now (length (logs_in s)) s c.args.atom.now c.atom_place-place.result t c.args.winning (c.is_first-first.result && not t.followed) c.is_live-live.result c.requires.own c.atom_place-place.ensures.place
    (got_at s.tags c.as_slice.result.now c.atom_place-place.result t _ within c.as_slice.ensures.value c.index-as_slice-place.is) c.requires.wins (ap (λ b. b && not t.followed) c.is_first-first.ensures) c.is_live-live.ensures
