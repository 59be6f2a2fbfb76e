-- Links and passes that are made, link by link.
use Rattle.std.specs.Prelude.{◌≡◌, ◌≢◌, ℕ, ◌+◌, ◌*◌, ◌<◌, ◌≤◌, List, [], ◌∷◌, ◌++◌, length, slice_get, slice_index, Some}
use Rattle.std.specs.Option.{option_map_or}
use Rattle.replica_links.specs.declared.link.Link.{Link}
use Rattle.replica_links.specs.declared.pass.PutPass.{PutPass}
use Rattle.replica_links.specs.declared.pass.GetPass.{GetPass}
use Rattle.replica_links.specs.Passes.{IsPutOf, IsGetOf, put_of, taken_of, idle_of, room_of}
use Rattle.replica_wires.specs.declared.letter.Letter.{Letter}
use Rattle.replica_wires.specs.declared.passes.Passes.{Passes}
use Rattle.replica_wires.specs.declared.begun.Begun.{Begun}

-- the passes with which a replica puts
abbrev pub puts_at : List Passes → ℕ → List (PutPass Letter)
puts_at all me = option_map_or (λ passes. passes.puts.items) (slice_get all me) []

-- those with which it gets
abbrev pub gets_at : List Passes → ℕ → List (GetPass Letter)
gets_at all me = option_map_or (λ passes. passes.gets.items) (slice_get all me) []

-- so many replicas, none of which has passes
pub record AreEmpty (replicas : ℕ) (all : List Passes) : Type 0 where
  pub whole : length all ≡ replicas
  pub puts : (me : ℕ) → puts_at all me ≡ []
  pub gets : (me : ℕ) → gets_at all me ≡ []

-- a pass of that link, with which nothing was put
pub record PutsFirst (links : List (Link Letter)) (at : ℕ) (pass : PutPass Letter) : Type 0 where
  pub link : Link Letter
  pub there : slice_get links at ≡ Some link
  pub own : IsPutOf link pass
  pub fresh : put_of pass ≡ []

-- a pass of that link, with which nothing was got
pub record GetsFirst (links : List (Link Letter)) (at : ℕ) (pass : GetPass Letter) : Type 0 where
  pub link : Link Letter
  pub there : slice_get links at ≡ Some link
  pub own : IsGetOf link pass
  pub fresh : taken_of pass ≡ []
  pub idle : idle_of pass ≡ 0

-- one link more, with its passes at its ends
pub record AddsLink (from to room : ℕ) (old new : Begun) : Type 0 where
  pub link : Link Letter
  pub put : PutPass Letter
  pub get : GetPass Letter
  pub links : new.links.items ≡ old.links.items ++ link ∷ []
  pub room_is : room_of link ≡ room
  pub put_own : IsPutOf link put
  pub get_own : IsGetOf link get
  pub put_fresh : put_of put ≡ []
  pub get_fresh : taken_of get ≡ []
  pub idle : idle_of get ≡ 0
  pub whole : length new.all.items ≡ length old.all.items
  pub puts : puts_at new.all.items from ≡ puts_at old.all.items from ++ put ∷ []
  pub other_puts : (a : ℕ) → a ≢ from → puts_at new.all.items a ≡ puts_at old.all.items a
  pub gets : gets_at new.all.items to ≡ gets_at old.all.items to ++ get ∷ []
  pub other_gets : (a : ℕ) → a ≢ to → gets_at new.all.items a ≡ gets_at old.all.items a

-- the links before that one were made, row by row
pub record IsBegun (rooms : List ℕ) (replicas from to : ℕ) (begun : Begun) : Type 0 where
  pub count : length begun.links.items ≡ from * replicas + to
  pub has_rooms : (k : ℕ) (link : Link Letter) → slice_get begun.links.items k ≡ Some link → room_of link ≡ slice_index rooms k
  pub whole : length begun.all.items ≡ replicas
  pub rows : (a : ℕ) → a < from → length (puts_at begun.all.items a) ≡ replicas
  pub row : length (puts_at begun.all.items from) ≡ to
  pub later : (a : ℕ) → from < a → length (puts_at begun.all.items a) ≡ 0
  pub reached : (a : ℕ) → a < to → length (gets_at begun.all.items a) ≡ from + 1
  pub unreached : (a : ℕ) → a < replicas → to ≤ a → length (gets_at begun.all.items a) ≡ from
  pub put : (a k : ℕ) (pass : PutPass Letter) → slice_get (puts_at begun.all.items a) k ≡ Some pass → PutsFirst begun.links.items (a * replicas + k) pass
  pub get : (a k : ℕ) (pass : GetPass Letter) → slice_get (gets_at begun.all.items a) k ≡ Some pass → GetsFirst begun.links.items (k * replicas + a) pass
