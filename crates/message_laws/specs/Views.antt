-- What a replica decides by.
use Rattle.std.specs.Prelude.{◌≡◌, ◌≢◌, ◌<◌, ℕ, List, [], length, map, slice_index}
use Rattle.std.specs.List.{AllByRecursion}
use Rattle.spec_model.specs.declared.plan.Setup.{Setup}
use Rattle.spec_model.specs.declared.log.Body.{Body}
use Rattle.spec_model.specs.declared.log.Body.TheVariants as body
use Rattle.spec_model.specs.declared.log.LogItem.{LogItem}
use Rattle.run_model.specs.Logs.{Logs, LiesWithin, log_at}
use Rattle.run_model.specs.Worlds.{Standing, Up}
use Rattle.run_model.specs.Locals.{Local}
use Rattle.run_model.specs.Fitting.{AreInRow, ItemFits}

-- which replica it is, the logs that it knows, and how many items of each it has seen
pub record View : Type 0 where
  pub me : ℕ
  pub known : Logs
  pub cut : List ℕ

-- replica me that knows these logs, and has seen all of them
abbrev pub seeing : ℕ → Logs → View
seeing me logs = record { me = me; known = logs; cut = map (λ log. length log) logs }

-- its own log
abbrev pub own_items : View → List LogItem
own_items v = log_at v.known v.me

-- an item with this body, the next of its own log, with all that it has seen in its past
abbrev pub item_of : View → Body → LogItem
item_of v b = record { origin = v.me; index = length (own_items v); deps = v.cut; body = b }

-- how it stands, had it wanted, been told and sent nothing
abbrev pub standing_in : View → Standing
standing_in v = record { log = own_items v; cut = v.cut; stamp = 0; wants = []; told = []; sendings = []; running = Up; kept = [] }

-- what replica me of a run decides by
abbrev pub view_in : ℕ → Local → View
view_in me l = record { me = me; known = l.known; cut = l.standing.cut }

-- what the body accepts is an item of another log that is known
abbrev pub IsKnown : Logs → ℕ → Body → Type 0
IsKnown known me (body.Act inst) = Unit {0}
IsKnown known me (body.Out to r piece) = Unit {0}
IsKnown known me (body.Accept from at) = (from ≢ me) × (at < length (log_at known from))

-- a replica of the setup that knows logs of items that fit, has seen all that it knows, and whose own log stands in a row, of items whose pasts it has seen
pub record IsView (setup : Setup) (v : View) : Type 0 where
  pub within : v.me < setup.replicas
  pub whole : length v.known ≡ setup.replicas
  pub cut : length v.cut ≡ setup.replicas
  pub counts : (j : ℕ) → slice_index v.cut j ≡ length (log_at v.known j)
  pub fits : AllByRecursion (AllByRecursion (ItemFits setup)) v.known
  pub own : AreInRow v.me 0 (own_items v)
  pub accepted : AllByRecursion (λ item. IsKnown v.known v.me item.body) (own_items v)
  pub pasts : AllByRecursion (λ item. LiesWithin item.deps v.cut) (own_items v)
