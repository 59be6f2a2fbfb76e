-- What replicas put on the links between them.
use Rattle.std.specs.Prelude.{◌≡◌, ℕ, ◌+◌, ◌*◌, ◌<◌, ◌≤◌, List, [], length, map, slice_get, slice_index_or, Some}
use Rattle.spec_model.specs.declared.plan.Setup.{Setup}
use Rattle.run_model.specs.declared.step.Order.{Order}
use Rattle.run_model.specs.Steps.{links_of}
use Rattle.run_model.specs.Worlds.{Sending, World, sent_to}
use Rattle.scenario_text.specs.Numbered.{sends_of}
use Rattle.replica_course.specs.Steps.{heard_of}
use Rattle.replica_course.specs.declared.heard.Heard.{Heard}
use Rattle.replica_course.specs.declared.heard.Heard.TheVariants as heard

-- the place of the link from one replica to another, of at most 16
abbrev pub link_place : ℕ → ℕ → ℕ
link_place from to = from * 16 + to

-- what was put on that link, in order: a message, or the stamp of a step that sent none
abbrev pub put_on : List (List Heard) → ℕ → ℕ → List Heard
put_on links from to = slice_index_or links (link_place from to) []

-- the steps of replica me that sent
abbrev pub sendings_at : World → ℕ → List Sending
sendings_at world me = slice_index_or (links_of world) me []

-- what is on a link is from this replica, of one of the first so many steps, and has its number there
abbrev pub IsPut : ℕ → ℕ → ℕ → Heard → Type 0
IsPut steps from k heard.Nothing = ⊥
IsPut steps from k (heard.Unsent stamp) = stamp ≤ steps
IsPut steps from k (heard.Message message) = (message.stamp ≤ steps) × (message.from ≡ from) × (message.number ≡ k)

-- the links hold what the replicas sent, in order and in just the number that was asked
pub record AreLinks (setup : Setup) (done : List Order) (world : World) (links : List (List Heard)) : Type 0 where
  pub whole : length links ≡ 256
  pub sent : (from to : ℕ) → from < setup.replicas → to < setup.replicas → map (λ s. Some s) (sent_to to (sendings_at world from)) ≡ map (heard_of to) (put_on links from to)
  pub counted : (from to : ℕ) → from < setup.replicas → to < setup.replicas → length (put_on links from to) ≡ sends_of from to done
  pub each : (from to k : ℕ) (h : Heard) → from < setup.replicas → to < setup.replicas → slice_get (put_on links from to) k ≡ Some h → IsPut (length done) from k h
