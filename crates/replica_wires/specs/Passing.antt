-- The passes of replicas, and what passed with them.
use Rattle.std.specs.Prelude.{◌≡◌, ℕ, ◌<◌, List, [], ◌++◌, length, slice_get, Option, Some}
use Rattle.std.specs.Option.{option_map_or}
use Rattle.std.specs.List.{AllByRecursion, sum_by}
use Rattle.run_model.specs.declared.message.Message.{Message}
use Rattle.replica_links.specs.declared.link.Link.{Link}
use Rattle.replica_links.specs.declared.pass.PutPass.{PutPass}
use Rattle.replica_links.specs.declared.pass.GetPass.{GetPass}
use Rattle.replica_links.specs.Passes.{IsPutOf, IsGetOf, put_of, taken_of, idle_of}
use Rattle.replica_wires.specs.declared.letter.Letter.{Letter}
use Rattle.replica_wires.specs.declared.passes.Passes.{Passes}
use Rattle.replica_wires.specs.declared.web.Web.{Web}
use Rattle.replica_wires.specs.Letters.{all_addressed}
use Rattle.replica_wires.specs.Webs.{HasLink, replicas_of}

-- the pass with which messages are put for that replica
abbrev pub put_pass : Passes → ℕ → Option (PutPass Letter)
put_pass passes to = slice_get passes.puts.items to

-- the pass with which messages of that replica are got
abbrev pub get_pass : Passes → ℕ → Option (GetPass Letter)
get_pass passes from = slice_get passes.gets.items from

-- what replica me put for another one
abbrev pub put_for : ℕ → Passes → ℕ → List Message
put_for me passes to = option_map_or (λ pass. all_addressed me to (put_of pass)) (put_pass passes to) []

-- what replica me got from another one
abbrev pub got_from : ℕ → Passes → ℕ → List Message
got_from me passes from = option_map_or (λ pass. all_addressed from me (taken_of pass)) (get_pass passes from) []

-- how many gets found nothing
abbrev pub idle_in : Passes → ℕ
idle_in passes = sum_by (λ pass. idle_of pass) passes.gets.items

-- they are those of replica me: it puts on each link from it, and gets from each link to it
pub record ArePassesOf (web : Web) (me : ℕ) (passes : Passes) : Type 0 where
  pub place : me < replicas_of web
  pub puts_whole : length passes.puts.items ≡ replicas_of web
  pub gets_whole : length passes.gets.items ≡ replicas_of web
  pub puts : (to : ℕ) (pass : PutPass Letter) (link : Link Letter) → put_pass passes to ≡ Some pass → HasLink web me to link → IsPutOf link pass
  pub gets : (from : ℕ) (pass : GetPass Letter) (link : Link Letter) → get_pass passes from ≡ Some pass → HasLink web from me link → IsGetOf link pass

-- nothing was put or got with them, and no get found nothing
pub record AreUnused (passes : Passes) : Type 0 where
  pub put : (me to : ℕ) → put_for me passes to ≡ []
  pub got : (me from : ℕ) → got_from me passes from ≡ []
  pub idle : idle_in passes ≡ 0

-- each replica has its passes
pub record HaveTheirs (web : Web) (all : List Passes) : Type 0 where
  pub whole : length all ≡ replicas_of web
  pub each : (me : ℕ) (passes : Passes) → slice_get all me ≡ Some passes → ArePassesOf web me passes

-- of each of these replicas, in order, what is left for replica me: what was put for it is what it got, followed by that
pub record AreLeft (all : List Passes) (me : ℕ) (lists : List (List Message)) : Type 0 where
  pub passed : (from : ℕ) (left : List Message) (theirs mine : Passes) → slice_get lists from ≡ Some left → slice_get all from ≡ Some theirs → slice_get all me ≡ Some mine
      → put_for from theirs me ≡ got_from me mine from ++ left
  pub senders : (from : ℕ) (left : List Message) → slice_get lists from ≡ Some left → AllByRecursion (λ message. message.from ≡ from) left

-- what is left for each replica
pub record AreSettled (web : Web) (all : List Passes) (left : List (List (List Message))) : Type 0 where
  pub whole : length left ≡ replicas_of web
  pub each_whole : (me : ℕ) (lists : List (List Message)) → slice_get left me ≡ Some lists → length lists ≡ replicas_of web
  pub each : (me : ℕ) (lists : List (List Message)) → slice_get left me ≡ Some lists → AreLeft all me lists
