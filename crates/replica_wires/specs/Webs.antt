-- Links between all replicas.
use Rattle.std.specs.Prelude.{◌≡◌, ℕ, ◌+◌, ◌*◌, ◌<◌, List, slice_get, slice_index, Some}
use Rattle.std.specs.Option.{option_map_or}
use Rattle.replica_links.specs.declared.link.Link.{Link}
use Rattle.replica_links.specs.Passes.{room_of}
use Rattle.replica_wires.specs.declared.letter.Letter.{Letter}
use Rattle.replica_wires.specs.declared.web.Web.{Web}

-- how many replicas there are
abbrev pub replicas_of : Web → ℕ
replicas_of web = web.replicas

-- the link from one replica to another
abbrev pub HasLink : Web → ℕ → ℕ → Link Letter → Type 0
HasLink web from to link = slice_get web.links.items (from * web.replicas + to) ≡ Some link

-- how many messages there is room for on it
abbrev pub room_on : Web → ℕ → ℕ → ℕ
room_on web from to = option_map_or (λ link. room_of link) (slice_get web.links.items (from * web.replicas + to)) 0

-- the links have these rooms, row by row
abbrev pub HasRooms : List ℕ → Web → Type 0
HasRooms rooms web = (from to : ℕ) → from < replicas_of web → to < replicas_of web → room_on web from to ≡ slice_index rooms (from * replicas_of web + to)
