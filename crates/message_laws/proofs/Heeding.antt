-- A message that fits, and of which all that wasn't seen can be accepted, is heeded whole.
use Rattle.std.proofs.Common.{◌≡◌, inl, inr, ℕ, List, [], ◌∷◌, ◌++◌, take, refl, sym, ap, subst, ◌∙◌, arith}
use Rattle.std.specs.Prelude.{slice_get, Some}
use Rattle.std.specs.List.{AllByRecursion}
use Rattle.std.proofs.lemmas.Option.{slice_get_within}
use Rattle.std.proofs.lemmas.List.{append-nil, append_assoc, take_all}
use Rattle.spec_model.specs.declared.plan.Setup.{Setup}
use Rattle.spec_model.specs.declared.right.Want.{Want}
use Rattle.spec_model.specs.declared.log.LogItem.{LogItem}
use Rattle.run_model.specs.declared.message.Message.{Message}
use Rattle.run_model.specs.Fitting.{AreInRow, ItemFits, MessageFits, WantFits}
use Rattle.run_model.proofs.Lists.{get_front}
use Rattle.run_model.proofs.Own.{own_front}
use Rattle.message_laws.specs.Heeded.{AreFitting, CanAccept, Heeds, MayApply}
use Rattle.message_laws.specs.Views.{View}
use Rattle.message_laws.proofs.Lists.{each_parts, take_front}

-- ---- wants

-- where all fit all are kept
all_fitting : (setup : Setup) (wants fitting : List Want) → AllByRecursion (WantFits setup) wants → AreFitting setup wants fitting → fitting ≡ wants
all_fitting setup [] fitting all none = none
all_fitting setup (want ∷ wants) fitting all (inl (fits, rest, is, behind)) = is ∙ ap (λ (l : List Want). want ∷ l) (all_fitting setup wants rest all.1 behind)
all_fitting setup (want ∷ wants) fitting all (inr (misfit, behind)) = absurd (misfit all.0)

-- and they are
fits_all : (setup : Setup) (wants : List Want) → AllByRecursion (WantFits setup) wants → AreFitting setup wants wants
fits_all setup [] all = refl
fits_all setup (want ∷ wants) all = inl (all.0, wants, refl, fits_all setup wants all.1)

-- a message of which all that wasn't seen can be accepted is itself heeded
pub heeds_itself : (setup : Setup) (v : View) (message : Message) → MessageFits setup v.me message → ((k : ℕ) (item : LogItem) → slice_get message.items k ≡ Some item → CanAccept setup v message.from (take k message.items) item)
    → Heeds setup v message message
heeds_itself setup v message fits can = inl (
  record { sender = fits.sender; other = fits.other; receiver = fits.receiver; cut = fits.cut },
  record {
    items = record {
      rest = [];
      front = take_all 16 message.items fits.few_items ∙ sym (append-nil message.items);
      may = record { first = fits.first; row = fits.row; fits = fits.items; accepted = can };
      longest = λ item behind none may. absurd cc;
    };
    wants = subst (λ (l : List Want). AreFitting setup l message.wants) (sym (take_all 8 message.wants fits.few_wants)) (fits_all setup message.wants fits.wants);
    all_else = refl;
  },
)

-- and nothing else of it
pub heeded_whole : (setup : Setup) (v : View) (message heeded : Message) → MessageFits setup v.me message → ((k : ℕ) (item : LogItem) → slice_get message.items k ≡ Some item → CanAccept setup v message.from (take k message.items) item)
    → Heeds setup v message heeded → heeded ≡ message
heeded_whole setup v message heeded fits can (inr (astray, is)) = absurd (astray (record { sender = fits.sender; other = fits.other; receiver = fits.receiver; cut = fits.cut }))
heeded_whole setup v message heeded fits can (inl (addressed, part)) =
    let all : take 16 message.items ≡ message.items = take_all 16 message.items fits.few_items in
    let front : message.items ≡ heeded.items ++ part.items.rest = sym all ∙ part.items.front in
    let items : heeded.items ≡ message.items = none_behind heeded.items part.items.rest message.items front fits.items fits.row can part.items.longest in
    let eight : take 8 message.wants ≡ message.wants = take_all 8 message.wants fits.few_wants in
    let wants : heeded.wants ≡ message.wants = all_fitting setup message.wants heeded.wants fits.wants (subst (λ (l : List Want). AreFitting setup l heeded.wants) eight part.wants) in
    part.all_else ∙ ap (λ (l : List LogItem). let m : Message = record message { items = l; wants = heeded.wants } in m) items ∙ ap (λ (l : List Want). let m : Message = record message { wants = l } in m) wants
  where
    none_behind : (front rest items : List LogItem) → items ≡ front ++ rest → AllByRecursion (ItemFits setup) items → AreInRow message.from fits.first items → ((k : ℕ) (item : LogItem) → slice_get items k ≡ Some item → CanAccept setup v message.from (take k items) item)
        → ((item : LogItem) (behind : List LogItem) → rest ≡ item ∷ behind → MayApply setup v message.from (front ++ item ∷ []) → ⊥) → front ≡ items
    none_behind front [] items is all row can longest = sym (is ∙ append-nil front)
    none_behind front (x ∷ rest) items is all row can longest =
        let more : items ≡ (front ++ x ∷ []) ++ rest = is ∙ sym (append_assoc front (x ∷ []) rest) in
        absurd (longest x rest refl (record {
          first = fits.first;
          row = own_front message.from fits.first (front ++ x ∷ []) rest (subst (AreInRow message.from fits.first) more row);
          fits = (each_parts (ItemFits setup) (front ++ x ∷ []) rest (subst (AllByRecursion (ItemFits setup)) more all)).0;
          accepted = λ k item there.
              let within = slice_get_within (front ++ x ∷ []) k item there in
              let same : take k items ≡ take k (front ++ x ∷ []) = ap (take k) more ∙ take_front (front ++ x ∷ []) rest k (omega (arith, within)) in
              subst (λ (l : List LogItem). CanAccept setup v message.from l item) same (can k item (ap (λ (l : List LogItem). slice_get l k) more ∙ get_front (front ++ x ∷ []) rest k item there));
        }))
