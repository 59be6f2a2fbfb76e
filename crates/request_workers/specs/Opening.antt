-- The replicas at their desks: before their first turns, and when all turns are over.
use Rattle.std.specs.Prelude.{◌≡◌, ◌≢◌, ℕ, ◌<◌, List, [], length, slice_get, Some}
use Rattle.ind_disk.specs.Bay.{TellsAll}
use Rattle.ind_disk.specs.Disk.{Standing}
use Rattle.spec_model.specs.declared.plan.Setup.{Setup}
use Rattle.run_model.specs.declared.batch.Batch.{Batch}
use Rattle.run_model.specs.Worlds.{Running}
use Rattle.batch_storage.specs.Shown.{Shown}
use Rattle.replica_course.specs.Courses.{HasStops}
use Rattle.replica_node.specs.declared.node.Node.{Node}
use Rattle.replica_node.specs.declared.still.Still.{Still}
use Rattle.replica_node.specs.Serving.{HasServed, Serving}
use Rattle.replica_wires.specs.declared.passes.Passes.{Passes}
use Rattle.replica_wires.specs.declared.web.Web.{Web}
use Rattle.replica_wires.specs.declared.wires.Place.{Place}
use Rattle.replica_wires.specs.declared.wires.Wires.{Wires}
use Rattle.replica_wires.specs.Ends.{passes_of, place_of}
use Rattle.replica_wires.specs.Passing.{ArePassesOf, got_from, idle_in, put_for}
use Rattle.replica_wires.specs.Webs.{replicas_of, room_on}

-- a replica over a storage and over its ends of links
abbrev pub Wired : Type 0 → Type 0 → Type 0 → Type 0
Wired S D R = Node S (Wires R) D Place

module _ {S D R : Type 0} where
  -- what it did since its first turn
  abbrev pub HasServedWired : (S → ℕ → List Batch → Running → Type 0) → (S → Shown) → Setup → Wired S D R → Wired S D R → Type 0
  HasServedWired keeps shows setup first now =
      HasServed keeps shows place_of (λ place. place.me) (λ place peer. (peer < replicas_of place.web) × (peer ≢ place.me)) (λ place peer. room_on place.web place.me peer)
      (λ wires. put_for (place_of wires).me (passes_of wires)) (λ wires. got_from (place_of wires).me (passes_of wires)) (λ wires. idle_in (passes_of wires)) setup first now

  -- replica me over this disk and over its ends of these links, before its first turn
  pub record IsOpened (standing : D → Standing) (shows : S → Shown) (setup : Setup) (web : Web) (me : ℕ) (disk : D) (v : Serving (Wired S D R)) : Type 0 where
    pub setup_is : v.setup ≡ setup
    pub first : v.first ≡ v.node
    pub me_is : v.node.still.course.me ≡ me
    pub none : v.node.still.course.entries ≡ []
    pub placed : place_of v.node.ends ≡ record { me = me; web = web }
    pub stops : (given : ℕ) → TellsAll given (standing disk) → HasStops given (shows v.node.still.storage) v.node.still.course

  -- so is each, over the disk at its place
  pub record AreOpened (standing : D → Standing) (shows : S → Shown) (setup : Setup) (web : Web) (disks : List D) (values : List (Serving (Wired S D R))) : Type 0 where
    pub whole : length values ≡ length disks
    pub each : (me : ℕ) (d : D) (v : Serving (Wired S D R)) → slice_get disks me ≡ Some d → slice_get values me ≡ Some v → IsOpened standing shows setup web me d v

  -- a replica that served its turns, without its ends, and its passes
  pub record IsParted (keeps : S → ℕ → List Batch → Running → Type 0) (shows : S → Shown) (v : Serving (Wired S D R)) (still : Still S D) (passes : Passes) : Type 0 where
    pub served : HasServedWired keeps shows v.setup v.first v.node
    pub still_is : still ≡ v.node.still
    pub passes_are : passes ≡ passes_of v.node.ends
    pub own : ArePassesOf (place_of v.node.ends).web (place_of v.node.ends).me passes

  -- so is each
  pub record AreParted (keeps : S → ℕ → List Batch → Running → Type 0) (shows : S → Shown) (values : List (Serving (Wired S D R))) (stills : List (Still S D)) (passes : List Passes) : Type 0 where
    pub whole : length stills ≡ length values
    pub passes_whole : length passes ≡ length values
    pub each : (me : ℕ) (v : Serving (Wired S D R)) (s : Still S D) (p : Passes) → slice_get values me ≡ Some v → slice_get stills me ≡ Some s → slice_get passes me ≡ Some p → IsParted keeps shows v s p
