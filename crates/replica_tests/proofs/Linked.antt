-- A replica begins over unused links.
use Rattle.std.proofs.Common.{◌≡◌, ◌≢◌, ℕ, ◌<◌, [], sym, subst, arith}
use Rattle.spec_model.specs.declared.plan.Setup.{Setup}
use Rattle.local_runs.specs.Handed.{IsPeer}
use Rattle.replica_wires.specs.declared.passes.Passes.{Passes}
use Rattle.replica_wires.specs.declared.web.Web.{Web}
use Rattle.replica_wires.specs.declared.wires.Place.{Place}
use Rattle.replica_wires.specs.declared.wires.Wires.{Wires}
use Rattle.replica_wires.specs.Ends.{passes_of, place_of}
use Rattle.replica_wires.specs.Passing.{AreUnused, got_from, put_for}
use Rattle.replica_wires.specs.Webs.{replicas_of}

-- the links lead to all other replicas
pub reaches_peers : (setup : Setup) (web : Web) (me peer : ℕ) (place : Place) → place ≡ record { me = me; web = web } → setup.replicas ≡ 2 → replicas_of web ≡ 2 → IsPeer setup me peer
    → (peer < replicas_of place.web) × (peer ≢ place.me)
reaches_peers setup web me peer place is two both peers = subst (λ (p : Place). (peer < replicas_of p.web) × (peer ≢ p.me)) (sym is) (omega (arith, peers.0, two, both), peers.1)

-- nothing has passed on ends that were made of unused passes
pub quiet_ends : {R : Type 0} (wires : Wires R) (passes : Passes) (peer : ℕ) → passes_of wires ≡ passes → AreUnused passes
    → (put_for (place_of wires).me (passes_of wires) peer ≡ []) × (got_from (place_of wires).me (passes_of wires) peer ≡ [])
quiet_ends wires passes peer are unused = let own : AreUnused (passes_of wires) = subst AreUnused (sym are) unused in (own.put (place_of wires).me peer, own.got (place_of wires).me peer)
