-- Two replicas over their links.
use Rattle.std.specs.Prelude.{◌≢◌, ℕ, ◌<◌, List}
use Rattle.spec_model.specs.declared.plan.Setup.{Setup}
use Rattle.run_model.specs.declared.batch.Batch.{Batch}
use Rattle.run_model.specs.Worlds.{Running}
use Rattle.replica_node.specs.Nodes.{IsNode}
use Rattle.replica_node.specs.declared.node.Node.{Node}
use Rattle.replica_wires.specs.declared.wires.Place.{Place}
use Rattle.replica_wires.specs.declared.wires.Wires.{Wires}
use Rattle.replica_wires.specs.Ends.{passes_of, place_of}
use Rattle.replica_wires.specs.Passing.{got_from, put_for}
use Rattle.replica_wires.specs.Webs.{replicas_of, room_on}

-- replica me over a storage and over its ends of links
abbrev pub IsWired : {S D R : Type 0} → (S → ℕ → List Batch → Running → Type 0) → Setup → ℕ → Node S (Wires R) D Place → Type 0
IsWired keeps setup me n =
    IsNode keeps place_of (λ place. place.me) (λ place peer. (peer < replicas_of place.web) × (peer ≢ place.me)) (λ place peer. room_on place.web place.me peer)
    (λ wires. put_for (place_of wires).me (passes_of wires)) (λ wires. got_from (place_of wires).me (passes_of wires)) setup me n
