-- How many items can be accepted, one after the other.
use Rattle.std.proofs.Common.{◌≡◌, inl, inr, ℕ, ◌+◌, ◌<◌, ◌≤◌, Bool, true, false, List, [], ◌∷◌, ◌++◌, length, get_or, take, sym, ap, subst, ◌∙◌, arith, length-take}
use Rattle.std.specs.Prelude.{slice_get, Some}
use Rattle.std.proofs.lemmas.Bool.{cases_lt}
use Rattle.std.proofs.lemmas.Option.{same_Some, slice_get-get_or, slice_get_within}
use Rattle.spec_model.specs.declared.plan.Setup.{Setup}
use Rattle.spec_model.specs.declared.instance.Inst.{Inst}
use Rattle.spec_model.specs.declared.log.Body.{Body}
use Rattle.spec_model.specs.declared.log.Body.TheVariants as body
use Rattle.spec_model.specs.declared.log.LogItem.{LogItem}
use Rattle.run_model.proofs.Own.{own_at}
use Rattle.message_laws.specs.Heeded.{JoinsAfter}
use Rattle.message_laws.specs.Views.{View}
use Rattle.message_drafts.specs.Drafts.{CanJoin, HasAccepted, HasJoined, IsNext, Joins, MayJoin}
use Rattle.message_drafts.specs.declared.draft.Draft.{Draft}
use Rattle.message_drafts.proofs.Places.{take_more}

-- ---- one item

-- the next of those that may be given
pub next_of : (setup : Setup) (v : View) (me from k : ℕ) (items : List LogItem) (item : LogItem) (d : Draft) → MayJoin setup v me from items d → k < length items → item ≡ get_or items k item → IsNext v from (take k items) item
next_of setup v me from k items item d may lt is =
    let there : slice_get items k ≡ Some item = slice_get-get_or items k item lt ∙ ap (λ x. Some x) (sym is) in
    let place = own_at from _ items k item may.row there in
    record { place = may.place; origin = place.0; index_is = omega (arith, place.1, length-take k items, lt) }

-- it can be accepted or not
abbrev pub CanBe : Setup → View → ℕ → List LogItem → LogItem → Draft → Type 0
CanBe setup v from before item d = JoinsAfter setup v from before item.body × HasAccepted setup v from (before ++ item ∷ []) d

pub joins_yes : (setup : Setup) (v : View) (from : ℕ) (before : List LogItem) (item : LogItem) (d : Draft) (b : Bool) → b ≡ true → Joins setup v from before item b d → CanBe setup v from before item d
joins_yes setup v from before item d b is h = subst (λ (t : Bool). Joins setup v from before item t d) is h

pub joins_never : (setup : Setup) (v : View) (from : ℕ) (before : List LogItem) (item : LogItem) (d : Draft) (b : Bool) → b ≡ false → Joins setup v from before item b d → (JoinsAfter setup v from before item.body → ⊥) × HasAccepted setup v from before d
joins_never setup v from before item d b is h = subst (λ (t : Bool). Joins setup v from before item t d) is h

-- an act, or an Accept, gives nothing
pub joins_act : (setup : Setup) (v : View) (from : ℕ) (before : List LogItem) (inst : Inst) (b : Body) → b ≡ body.Act inst → JoinsAfter setup v from before b
joins_act setup v from before inst b is = let nothing : JoinsAfter setup v from before (body.Act inst) = tt in subst (JoinsAfter setup v from before) (sym is) nothing

pub joins_accept : (setup : Setup) (v : View) (from : ℕ) (before : List LogItem) (origin at : ℕ) (b : Body) → b ≡ body.Accept origin at → JoinsAfter setup v from before b
joins_accept setup v from before origin at b is = let nothing : JoinsAfter setup v from before (body.Accept origin at) = tt in subst (JoinsAfter setup v from before) (sym is) nothing

-- ---- several

-- so many were accepted
abbrev pub HasSome : Setup → View → ℕ → List LogItem → ℕ → Draft → Type 0
HasSome setup v from items k d = CanJoin setup v from items k × HasAccepted setup v from (take k items) d

-- one more
pub some_more : (setup : Setup) (v : View) (from k : ℕ) (items : List LogItem) (item : LogItem) (old new : Draft) → k < length items → item ≡ get_or items k item → HasSome setup v from items k old → CanBe setup v from (take k items) item new
    → HasSome setup v from items (k + 1) new
some_more setup v from k items item old new lt is h one =
    let there : slice_get items k ≡ Some item = slice_get-get_or items k item lt ∙ ap (λ x. Some x) (sym is) in (
      record {
        within = omega (arith, lt);
        each = λ j x less at. elim (cases_lt j k) [
          | inl before ↦ h.0.each j x before at
          | inr behind ↦
              let same : j ≡ k = omega (arith, less, behind) in
              let it : item ≡ x = same_Some item x (sym there ∙ ap (slice_get items) (sym same) ∙ at) in
              subst (λ n. JoinsAfter setup v from (take n items) x.body) (sym same) (subst (λ (i : LogItem). JoinsAfter setup v from (take k items) i.body) it one.0)
        ];
      },
      subst (λ (l : List LogItem). HasAccepted setup v from l new) (sym (take_more items k item lt is)) one.1,
    )

-- the next can't be
pub some_stop : (setup : Setup) (v : View) (from k : ℕ) (items : List LogItem) (item : LogItem) (old new : Draft) → k < length items → item ≡ get_or items k item → HasSome setup v from items k old → (JoinsAfter setup v from (take k items) item.body → ⊥) → HasAccepted setup v from (take k items) new
    → HasJoined setup v from items k new
some_stop setup v from k items item old new lt is h never accepted =
    let there : slice_get items k ≡ Some item = slice_get-get_or items k item lt ∙ ap (λ x. Some x) (sym is) in
    record {
      accepted = accepted;
      can = h.0;
      stuck = λ x at joins. never (subst (λ (i : LogItem). JoinsAfter setup v from (take k items) i.body) (sym (same_Some item x (sym there ∙ at))) joins);
    }

-- all were
pub some_all : (setup : Setup) (v : View) (from k n : ℕ) (items : List LogItem) (d : Draft) → length items ≤ k → n ≡ length items → HasSome setup v from items k d → HasJoined setup v from items n d
some_all setup v from k n items d le is h =
    let same : k ≡ n = omega (arith, le, is, h.0.within) in
    record {
      accepted = subst (λ m. HasAccepted setup v from (take m items) d) same h.1;
      can = subst (CanJoin setup v from items) same h.0;
      stuck = λ x at joins. let within = slice_get_within items n x at in absurd (omega (arith, within, is));
    }
