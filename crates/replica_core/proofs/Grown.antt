-- Logs that grow: what items rest on that were known before stays as it is.
use Rattle.std.proofs.Common.{◌≡◌, ℕ, zero, suc, ◌<◌, ◌≤◌, List, [], ◌∷◌, ◌++◌, length, set, take, refl, sym, ap, subst, ◌∙◌, arith, length-set, length-append}
use Rattle.std.specs.Prelude.{slice_get, slice_index}
use Rattle.std.specs.List.{AllByRecursion}
use Rattle.std.proofs.lemmas.List.{append-nil, take-append-le}
use Rattle.ind_base.specs.declared.span.Span.{Span}
use Rattle.spec_model.specs.declared.plan.Setup.{Setup}
use Rattle.spec_model.specs.declared.right.Right.{Right}
use Rattle.spec_model.specs.declared.log.Body.{Body}
use Rattle.spec_model.specs.declared.log.Body.TheVariants as body
use Rattle.spec_model.specs.declared.log.LogItem.{LogItem}
use Rattle.run_model.specs.Holding.{held_right}
use Rattle.run_model.specs.Logs.{LiesWithin, Logs, item_at, log_at}
use Rattle.run_model.proofs.Alike.{Alike, AllAlike, right_alike}
use Rattle.run_model.proofs.Known.{items_fronts}
use Rattle.run_model.proofs.Lists.{each_weaker}
use Rattle.rights_table.specs.declared.table.Table.{Table}
use Rattle.rights_table.specs.Whole.{HasAll, SpeaksOfTheSame, TablesLearn}
use Rattle.message_laws.specs.Heeded.{with_items}
use Rattle.message_laws.specs.Views.{IsKnown, IsView, View, own_items}

-- each log of the one is the front of that of the other
pub record GrowsTo (a b : Logs) : Type 0 where
  pub long : length b ≡ length a
  pub more : ℕ → List LogItem
  pub logs : (j : ℕ) → log_at b j ≡ log_at a j ++ more j

-- items at the end of one log
pub set_more : (logs : Logs) (i : ℕ) (items : List LogItem) (j : ℕ) → (more : List LogItem) × (log_at (set logs i (log_at logs i ++ items)) j ≡ log_at logs j ++ more)
set_more [] i items j = ([], refl)
set_more (x ∷ logs) zero items zero = (items, refl)
set_more (x ∷ logs) zero items (suc j) = ([], sym (append-nil (log_at logs j)))
set_more (x ∷ logs) (suc i) items zero = ([], sym (append-nil x))
set_more (x ∷ logs) (suc i) items (suc j) = set_more logs i items j

pub grows_with : (from : ℕ) (items : List LogItem) (known : Logs) → GrowsTo known (with_items from items known)
grows_with from items known = record {
  long = length-set known from (log_at known from ++ items);
  more = λ j. (set_more known from items j).0;
  logs = λ j. (set_more known from items j).1;
}

-- logs that grow are no shorter
pub grows_long : (a b : Logs) (j : ℕ) → GrowsTo a b → length (log_at a j) ≤ length (log_at b j)
grows_long a b j h = omega (arith, ap length (h.logs j), length-append (log_at a j) (h.more j))

-- an item that was known
pub grows_item : (a b : Logs) (j k : ℕ) → GrowsTo a b → k < length (log_at a j) → item_at a j k ≡ item_at b j k
grows_item a b j k h lt = front (log_at a j) (h.more j) k lt ∙ ap (λ (l : List LogItem). slice_get l k) (sym (h.logs j))
  where
    front : (xs ys : List LogItem) (k : ℕ) → k < length xs → slice_get xs k ≡ slice_get (xs ++ ys) k
    front [] ys k lt = absurd (omega (arith, lt))
    front (x ∷ xs) ys zero lt = refl
    front (x ∷ xs) ys (suc k) lt = front xs ys k (omega (arith, lt))

-- ---- what is held

-- what the holding after a body rests on is known: the past of an act, and what is accepted
abbrev pub RestsOn : Logs → List ℕ → Body → Type 0
RestsOn logs deps (body.Act inst) = (i : ℕ) → slice_index deps i ≤ length (log_at logs i)
RestsOn logs deps (body.Out to r given) = Unit {0}
RestsOn logs deps (body.Accept from at) = at < length (log_at logs from)

abbrev pub AllRest : Logs → List LogItem → Type 0
AllRest logs items = AllByRecursion (λ item. RestsOn logs item.deps item.body) items

rests_alike : (a b : Logs) (deps : List ℕ) (what : Body) → GrowsTo a b → RestsOn a deps what → Alike a b deps what
rests_alike a b deps (body.Act inst) h rests = items_fronts deps b a (λ j. sym (take-append-le (slice_index deps j) (log_at a j) (h.more j) (rests j)) ∙ ap (take (slice_index deps j)) (sym (h.logs j)))
rests_alike a b deps (body.Out to r given) h rests = tt
rests_alike a b deps (body.Accept from at) h rests = grows_item a b from at h rests

pub all_alike : (a b : Logs) (items : List LogItem) → GrowsTo a b → AllRest a items → AllAlike a b items
all_alike a b items h rest = each_weaker (λ (i : LogItem). RestsOn a i.deps i.body) (λ (i : LogItem). Alike a b i.deps i.body) (λ i r. rests_alike a b i.deps i.body h r) items rest

-- so it is held alike
pub held_grown : (setup : Setup) (a b : Logs) (me : ℕ) (own : List LogItem) (r : Right) (span : Span) → GrowsTo a b → AllRest a own → held_right setup a me own r span ≡ held_right setup b me own r span
held_grown setup a b me own r span h rest = right_alike setup a b me own r span (all_alike a b own h rest)

rests_more : (a b : Logs) (deps : List ℕ) (what : Body) → GrowsTo a b → RestsOn a deps what → RestsOn b deps what
rests_more a b deps (body.Act inst) h rests = λ i. let more = grows_long a b i h in let was = rests i in omega (arith, more, was)
rests_more a b deps (body.Out to r given) h rests = tt
rests_more a b deps (body.Accept from at) h rests = let more = grows_long a b from h in omega (arith, more, rests)

pub all_rest_more : (a b : Logs) (items : List LogItem) → GrowsTo a b → AllRest a items → AllRest b items
all_rest_more a b items h rest = each_weaker (λ (i : LogItem). RestsOn a i.deps i.body) (λ (i : LogItem). RestsOn b i.deps i.body) (λ i r. rests_more a b i.deps i.body h r) items rest

-- ---- what was seen

-- the past of an item, and what it accepts of others, is known
pub record IsSeen (logs : Logs) (me : ℕ) (item : LogItem) : Type 0 where
  pub past : (i : ℕ) → slice_index item.deps i ≤ length (log_at logs i)
  pub known : IsKnown logs me item.body

pub seen_rests : (logs : Logs) (me : ℕ) (item : LogItem) → IsSeen logs me item → RestsOn logs item.deps item.body
seen_rests logs me item h = of_body item.body h.known
  where
    of_body : (b : Body) → IsKnown logs me b → RestsOn logs item.deps b
    of_body (body.Act inst) known = h.past
    of_body (body.Out to r given) known = tt
    of_body (body.Accept from at) known = known.1

pub all_seen_rest : (logs : Logs) (me : ℕ) (items : List LogItem) → AllByRecursion (IsSeen logs me) items → AllRest logs items
all_seen_rest logs me items all = each_weaker (IsSeen logs me) (λ (i : LogItem). RestsOn logs i.deps i.body) (seen_rests logs me) items all

pub known_more : (me : ℕ) (a b : Logs) (what : Body) → GrowsTo a b → IsKnown a me what → IsKnown b me what
known_more me a b (body.Act inst) h known = tt
known_more me a b (body.Out to r piece) h known = tt
known_more me a b (body.Accept from at) h known = (known.0, (let more = grows_long a b from h in omega (arith, more, known.1)))

seen_speaks : (a b : Logs) (me : ℕ) (item : LogItem) → GrowsTo a b → IsSeen a me item → SpeaksOfTheSame a b item
seen_speaks a b me item h seen = record {
  past = λ j k lies. let within = seen.past j in sym (grows_item a b j k h (omega (arith, within, lies)));
  accepted = λ from at is. let known : IsKnown a me (body.Accept from at) = subst (IsKnown a me) is seen.known in sym (grows_item a b from at h known.1);
}

-- a table of what was known is one of what is known
pub all_learned : TablesLearn → (setup : Setup) (a b : Logs) (me : ℕ) (own : List LogItem) (t : Table) → GrowsTo a b → AllByRecursion (IsSeen a me) own → HasAll setup a me own t → HasAll setup b me own t
all_learned learn setup a b me own t h seen all = learn setup a b me own t h.long (each_weaker (IsSeen a me) (SpeaksOfTheSame a b) (λ i s. seen_speaks a b me i h s) own seen) all

-- all of its own log was seen
pub own_seen : (setup : Setup) (v : View) → IsView setup v → AllByRecursion (IsSeen v.known v.me) (own_items v)
own_seen setup v h = both (own_items v) h.accepted h.pasts
  where
    both : (items : List LogItem) → AllByRecursion (λ item. IsKnown v.known v.me item.body) items → AllByRecursion (λ item. LiesWithin item.deps v.cut) items → AllByRecursion (IsSeen v.known v.me) items
    both [] known pasts = tt
    both (x ∷ items) known pasts = (record { past = λ i. let past = pasts.0 i in let count = h.counts i in omega (arith, past, count); known = known.0 }, both items known.1 pasts.1)
