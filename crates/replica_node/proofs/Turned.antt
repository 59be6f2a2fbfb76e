-- A node that has served one turn more.
use Rattle.std.proofs.Common.{◌≡◌, ◌⊎◌, inl, inr, ℕ, ◌+◌, ◌-◌, ◌^◌, ◌<◌, ◌≤◌, Bool, true, false, List, [], ◌∷◌, ◌++◌, length, filter, map, min, refl, sym, ap, subst, ◌∙◌, arith}
use Rattle.std.specs.Prelude.{IfOk, OnErr, Result, Ok, Err, if◌then◌else◌}
use Rattle.std.proofs.lemmas.List.{length-append, length-map, map-append}
use Rattle.std.proofs.lemmas.List.Elements.{filter-append}
use Rattle.ind_disk.specs.Disk.{Rises}
use Rattle.spec_model.specs.declared.plan.Setup.{Setup}
use Rattle.run_model.specs.declared.batch.Batch.{Batch}
use Rattle.run_model.specs.declared.message.Message.{Message}
use Rattle.run_model.specs.declared.step.Ask.{Ask}
use Rattle.run_model.specs.declared.step.StepEntry.{StepEntry}
use Rattle.run_model.specs.Worlds.{Running}
use Rattle.batch_storage.specs.Shown.{Costs, Shown}
use Rattle.replica_course.specs.Courses.{HasStops}
use Rattle.replica_course.specs.declared.course.Course.{Course}
use Rattle.replica_course.proofs.Spent.{stops_more, stops_same}
use Rattle.replica_node.specs.Nodes.{IsNode}
use Rattle.replica_node.specs.Serving.{HasServed, turns_of}
use Rattle.replica_node.specs.Steps.{Answers, BreaksDisk, CountsNone, FindsNone, IsOf, finds_none, idles_in, plain}
use Rattle.replica_node.specs.declared.node.Node.{Node}

-- ---- what is counted

-- the stops that are left after a step
pub stops_if : {E : Type 0} (given : ℕ) (old new : Shown) (ask : Ask) (c after : Course) (result : Result StepEntry E) → Costs old new (BreaksDisk result) → Answers ask c after result → HasStops given old c → HasStops given new after
stops_if given old new ask c after (Ok e) costs answers h = stops_more given old new c after e costs answers.1.entries answers.0.first_up h
stops_if given old new ask c after (Err x) costs answers h = stops_same ⊥ given old new c after costs answers.1 answers.0.first_up h

true_or_false : (b : Bool) → (b ≡ true) ⊎ (b ≡ false)
true_or_false true = inl refl
true_or_false false = inr refl

idles_more : (es : List StepEntry) (e : StepEntry) → idles_in (es ++ e ∷ []) ≡ idles_in es + length (if finds_none e.ask e.outcome then e ∷ [] else [])
idles_more es e =
    ap length (filter-append (λ (f : StepEntry). finds_none f.ask f.outcome) es (e ∷ []))
    ∙ length-append (filter (λ (f : StepEntry). finds_none f.ask f.outcome) es) (if finds_none e.ask e.outcome then e ∷ [] else [])

-- a get that found none for each take that found no message
pub idles_if : {E : Type 0} (first old new : ℕ) (ask : Ask) (c after : Course) (result : Result StepEntry E) → CountsNone (FindsNone result) old new → Answers ask c after result → min (first + idles_in c.entries) (2 ^ 64 - 1) ≤ old → min (first + idles_in after.entries) (2 ^ 64 - 1) ≤ new
idles_if first old new ask c after (Ok e) counts answers h =
    let more : idles_in after.entries ≡ idles_in c.entries + length (if finds_none e.ask e.outcome then e ∷ [] else []) = ap idles_in answers.1.entries ∙ idles_more c.entries e in
    elim (true_or_false (finds_none e.ask e.outcome)) [
      | inl none ↦ let rises : Rises old new = counts.rises none in let one : length (if finds_none e.ask e.outcome then e ∷ [] else []) ≡ 1 = ap (λ b. length (if b then e ∷ [] else [])) none in omega (arith, more, one, rises, counts.no_less, h)
      | inr some ↦ let zero : length (if finds_none e.ask e.outcome then e ∷ [] else []) ≡ 0 = ap (λ b. length (if b then e ∷ [] else [])) some in omega (arith, more, zero, counts.no_less, h)
    ]
idles_if first old new ask c after (Err x) counts answers h = omega (arith, ap idles_in answers.1, counts.no_less, h)

pub is_of : {E : Type 0} (ask : Ask) (c after : Course) (result : Result StepEntry E) → Answers ask c after result → IsOf c after
is_of ask c after (Ok e) answers = answers.0
is_of ask c after (Err x) answers = answers.0

-- ---- what was served

pub served_more : {E : Type 0} (ask : Ask) (c after : Course) (result : Result StepEntry E) → Answers ask c after result → IfOk result (λ entry. turns_of after.entries ≡ turns_of c.entries ++ (ask, entry) ∷ [])
served_more ask c after (Ok e) answers =
    ap turns_of answers.1.entries
    ∙ map-append (λ (f : StepEntry). (plain f.ask, f)) c.entries (e ∷ [])
    ∙ ap (λ (a : Ask). turns_of c.entries ++ (a, e) ∷ []) answers.1.asked
served_more ask c after (Err x) answers = tt

pub served_same : {E : Type 0} (ask : Ask) (c after : Course) (result : Result StepEntry E) → Answers ask c after result → OnErr result (turns_of after.entries ≡ turns_of c.entries)
served_same ask c after (Ok e) answers = tt
served_same ask c after (Err x) answers = ap turns_of answers.1

pub turns_few : (es : List StepEntry) → length (turns_of es) < 100000 → length es < 100000
turns_few es few = omega (arith, few, length-map {B = Ask × StepEntry} es (λ f. (plain f.ask, f)))

-- ---- the node

module _ {S E D M : Type 0} (keeps : S → ℕ → List Batch → Running → Type 0) (shows : S → Shown) (mark : E → M) (owner : M → ℕ) (reaches : M → ℕ → Type 0) (room : M → ℕ → ℕ) (puts gots : E → ℕ → List Message) (idles : E → ℕ) (setup : Setup) where
  -- it has served nothing yet
  pub not_served : (n : Node S E D M) → IsNode keeps mark owner reaches room puts gots setup n.still.course.me n → n.still.course.entries ≡ [] → HasServed keeps shows mark owner reaches room puts gots idles setup n n
  not_served n own first = record {
    own = own;
    same = record { me = refl; first_up = refl };
    marked = refl;
    stops = λ given h. h;
    found_none = omega (arith, ap idles_in first);
  }

  -- it is the replica that it was
  pub own_now : (first now : Node S E D M) → HasServed keeps shows mark owner reaches room puts gots idles setup first now → IsNode keeps mark owner reaches room puts gots setup now.still.course.me now
  own_now first now h = subst (λ i. IsNode keeps mark owner reaches room puts gots setup i now) (sym h.same.me) h.own

  pub turned : {X : Type 0} (first old new : Node S E D M) (ask : Ask) (result : Result StepEntry X) → HasServed keeps shows mark owner reaches room puts gots idles setup first old → IsNode keeps mark owner reaches room puts gots setup old.still.course.me new
      → Answers ask old.still.course new.still.course result → mark new.ends ≡ mark old.ends → Costs (shows old.still.storage) (shows new.still.storage) (BreaksDisk result) → CountsNone (FindsNone result) (idles old.ends) (idles new.ends)
      → HasServed keeps shows mark owner reaches room puts gots idles setup first new
  turned first old new ask result h own answers marked costs counts =
      let of = is_of ask old.still.course new.still.course result answers in
      record {
        own = subst (λ i. IsNode keeps mark owner reaches room puts gots setup i new) h.same.me own;
        same = record { me = of.me ∙ h.same.me; first_up = of.first_up ∙ h.same.first_up };
        marked = marked ∙ h.marked;
        stops = λ given was. stops_if given (shows old.still.storage) (shows new.still.storage) ask old.still.course new.still.course result costs answers (h.stops given was);
        found_none = idles_if (idles first.ends) (idles old.ends) (idles new.ends) ask old.still.course new.still.course result counts answers h.found_none;
      }
