-- What is heeded of a message: one that fits, or nothing.
use Rattle.std.proofs.Common.{◌≡◌, ◌⊎◌, inl, inr, ℕ, zero, suc, ◌≤◌, List, [], ◌∷◌, ◌++◌, length, max, replicate, take, refl, sym, ap, subst, ◌∙◌, arith, length-append, length-take}
use Rattle.std.specs.Prelude.{slice_index_or, slice_set}
use Rattle.std.specs.List.{AllByRecursion}
use Rattle.spec_model.specs.declared.plan.Setup.{Setup}
use Rattle.spec_model.specs.declared.right.Want.{Want}
use Rattle.spec_model.specs.declared.log.LogItem.{LogItem}
use Rattle.run_model.specs.declared.message.Message.{Message}
use Rattle.run_model.specs.declared.step.Outcome.{Outcome}
use Rattle.run_model.specs.declared.step.Outcome.TheVariants as outcomes
use Rattle.run_model.specs.Logs.{Logs}
use Rattle.run_model.specs.Wants.{still_wanted}
use Rattle.run_model.specs.Worlds.{Standing, joined, no_cut}
use Rattle.run_model.specs.Steps.{accepts_of, dropped, received}
use Rattle.run_model.specs.Fitting.{MessageFits, WantFits}
use Rattle.message_laws.specs.Heeded.{AreFitting, Heeds, IsAddressed, IsPartOf, MayApply, silent}
use Rattle.message_laws.specs.Views.{View, own_items, standing_in}
use Rattle.message_drafts.specs.Taking.{IsTaken, TakesHeeded}
use Rattle.message_drafts.specs.declared.taken.Taken.{Taken}
use Rattle.replica_core.specs.Decisions.{IsHeeded}
use Rattle.replica_core.specs.Replicas.{HasTaken, IsReplica, holds_of, known_to, standing_of, view_of}
use Rattle.replica_core.specs.declared.replica.Replica.{Replica}
use Rattle.replica_core.proofs.Doing.{dropped_own}
use Rattle.replica_core.proofs.Items.{set_back}

-- a cut of nothing tells nothing new
joined_nothing : (xs : List ℕ) (n : ℕ) → length xs ≡ n → joined xs (replicate n 0) ≡ xs
joined_nothing [] n long = refl
joined_nothing (x ∷ xs) zero long = absurd (omega (arith, long))
joined_nothing (x ∷ xs) (suc n) long =
    let same : max x 0 ≡ x = omega arith in
    ap (λ m. m ∷ joined xs (replicate n 0)) same ∙ ap (λ (l : List ℕ). x ∷ l) (joined_nothing xs n (omega (arith, long)))

told_nothing : (n : ℕ) (told : List (List ℕ)) (from : ℕ) → AllByRecursion (λ cut. length cut ≡ n) told → slice_set told from (joined (slice_index_or told from []) (no_cut n)) ≡ told
told_nothing n [] from all = refl
told_nothing n (cut ∷ told) zero all = ap (λ (c : List ℕ). c ∷ told) (joined_nothing cut n all.0)
told_nothing n (cut ∷ told) (suc from) all = ap (λ (l : List (List ℕ)). cut ∷ l) (told_nothing n told from all.1)

-- it was taken once the wants that are met are dropped
took_nothing : (setup : Setup) (message : Message) (r new : Replica) → IsReplica setup r.me r → new ≡ record r { wants = still_wanted setup.replicas (holds_of setup r) r.wants }
    → HasTaken setup (silent setup.replicas message) r (outcomes.Took message.number 0 0 0) new
took_nothing setup message r new own is =
    let me : ℕ = r.me in
    let known : Logs = known_to r in
    let quiet : Message = silent setup.replicas message in
    let left : Replica = record r { wants = still_wanted setup.replicas (holds_of setup r) r.wants } in
    subst (HasTaken setup quiet r (outcomes.Took message.number 0 0 0)) (sym is) (record {
      own = dropped_own setup r left own refl;
      applied = [];
      takes = λ stamp sendings kept.
          let p : Standing = standing_of stamp sendings kept r in
          let told : received me quiet [] p ≡ p = ap (λ (t : List (List ℕ)). let q : Standing = record p { told = t } in q) (told_nothing setup.replicas r.told message.from own.told_each) in
          record {
            gave = 0;
            before_answers = standing_of stamp sendings kept left;
            admitted = record { rest = []; prefix = refl; ready = tt; longest = tt };
            before_is = sym (ap (dropped setup known me) told);
            becomes = refl;
            gave_is = omega arith;
            outcome_is = refl;
          };
      knows = sym (set_back known me);
      grown = omega arith;
    })

none_of : (xs ys : List LogItem) → [] ≡ xs ++ ys → xs ≡ []
none_of [] ys is = refl
none_of (x ∷ xs) ys is = absurd cc

no_items : (xs : List LogItem) → length xs ≡ 0 → xs ≡ []
no_items [] long = refl
no_items (x ∷ xs) long = absurd (omega (arith, long))

-- nothing is in the batch of such a message
pub nothing_taken : (setup : Setup) (message : Message) (v : View) (taken : Taken) → IsTaken setup (silent setup.replicas message) v taken → (taken.batch.items ≡ []) × (outcomes.Took message.number 0 0 0 ≡ outcomes.Took message.number taken.applied taken.accepted taken.gave)
nothing_taken setup message v taken decided =
    let t = decided.takes in
    let nil : decided.applied ≡ [] = none_of decided.applied t.admitted.rest t.admitted.prefix in
    let accepts : accepts_of v.me decided.applied ≡ [] = ap (accepts_of v.me) nil in
    let before : t.before_answers.log ≡ own_items v = ap (λ (p : Standing). p.log) t.before_is ∙ ap (λ (l : List LogItem). (received v.me (silent setup.replicas message) l (standing_in v)).log) nil in
    let after : decided.after.log ≡ t.before_answers.log = ap (λ (p : Standing). p.log) t.becomes in
    let gave : t.gave ≡ 0 = omega (arith, ap length after, t.gave_is) in
    let own : decided.own ≡ [] = no_items decided.own (omega (arith, ap length decided.longer, ap length after, ap length before, length-append (own_items v) decided.own)) in (
      decided.batch ∙ ap (λ (l : List LogItem). l ++ decided.own) nil ∙ own,
      sym (t.outcome_is ∙ ap (λ (l : List LogItem). outcomes.Took message.number (length l) (length (accepts_of v.me l)) t.gave) nil ∙ ap (outcomes.Took message.number 0 0) gave),
    )

-- and that is what was done
pub nothing_done : (setup : Setup) (message : Message) (r new : Replica) (taken : Taken) → IsReplica setup r.me r → new ≡ record r { wants = still_wanted setup.replicas (holds_of setup r) r.wants } → IsTaken setup (silent setup.replicas message) (view_of r) taken
    → HasTaken setup (silent setup.replicas message) r (outcomes.Took message.number taken.applied taken.accepted taken.gave) new
nothing_done setup message r new taken own is decided = subst (λ (o : Outcome). HasTaken setup (silent setup.replicas message) r o new) (nothing_taken setup message (view_of r) taken decided).1 (took_nothing setup message r new own is)

-- ---- what is decided on a message that may be any

-- wants of which those that fit are kept
fitting_fit : (setup : Setup) (wants fitting : List Want) → AreFitting setup wants fitting → AllByRecursion (WantFits setup) fitting × (length fitting ≤ length wants)
fitting_fit setup [] fitting none = (subst (AllByRecursion (WantFits setup)) (sym none) tt, omega (arith, ap length none))
fitting_fit setup (want ∷ wants) fitting (inl (fits, rest, is, behind)) =
    let more = fitting_fit setup wants rest behind in
    (subst (AllByRecursion (WantFits setup)) (sym is) (fits, more.0), omega (arith, ap length is, more.1))
fitting_fit setup (want ∷ wants) fitting (inr (misfit, behind)) = let more = fitting_fit setup wants fitting behind in (more.0, omega (arith, more.1))

-- what is heeded of a message that is addressed fits
heeded_fits : (setup : Setup) (v : View) (message heeded : Message) → IsAddressed setup v.me message → IsPartOf setup v message heeded → MessageFits setup v.me heeded
heeded_fits setup v message heeded addressed part =
    let wants = fitting_fit setup (take 8 message.wants) heeded.wants part.wants in
    let items : List LogItem = heeded.items in
    subst (MessageFits setup v.me) (sym part.all_else) (record {
      sender = addressed.sender;
      other = addressed.other;
      receiver = addressed.receiver;
      cut = addressed.cut;
      items = part.items.may.fits;
      first = part.items.may.first;
      row = part.items.may.row;
      few_items = omega (arith, ap length part.items.front, length-append items part.items.rest, length-take 16 message.items);
      wants = wants.0;
      few_wants = omega (arith, wants.1, length-take 8 message.wants);
    })

-- and its items may be applied
heeded_may : (setup : Setup) (v : View) (message heeded : Message) → IsPartOf setup v message heeded → MayApply setup v heeded.from heeded.items
heeded_may setup v message heeded part = subst (λ (m : Message). MayApply setup v m.from m.items) (sym part.all_else) part.items.may

is_heeded : (setup : Setup) (r : Replica) (message heeded : Message) → IsAddressed setup r.me message → IsPartOf setup (view_of r) message heeded → IsHeeded setup r heeded
is_heeded setup r message heeded addressed part = record { fits = heeded_fits setup (view_of r) message heeded addressed part; may = heeded_may setup (view_of r) message heeded part }

-- what is decided on is a message that fits, or nothing
pub taken_or_nothing : (setup : Setup) (v : View) (message : Message) (taken : Taken) → TakesHeeded setup v message taken
    → ((heeded : Message) × MessageFits setup v.me heeded × MayApply setup v heeded.from heeded.items × IsTaken setup heeded v taken) ⊎ (taken.batch.items ≡ [])
taken_or_nothing setup v message taken takes = either takes.heeds takes.takes
  where
    either : Heeds setup v message takes.heeded → IsTaken setup takes.heeded v taken → ((heeded : Message) × MessageFits setup v.me heeded × MayApply setup v heeded.from heeded.items × IsTaken setup heeded v taken) ⊎ (taken.batch.items ≡ [])
    either (inl (addressed, part)) decided = inl (takes.heeded, heeded_fits setup v message takes.heeded addressed part, heeded_may setup v message takes.heeded part, decided)
    either (inr (astray, is)) decided = inr (nothing_taken setup message v taken (subst (λ (m : Message). IsTaken setup m v taken) is decided)).0

-- so for a replica
pub heeded_or_nothing : (setup : Setup) (r : Replica) (message : Message) (taken : Taken) → TakesHeeded setup (view_of r) message taken → ((heeded : Message) × IsHeeded setup r heeded × IsTaken setup heeded (view_of r) taken) ⊎ (taken.batch.items ≡ [])
heeded_or_nothing setup r message taken takes = elim (taken_or_nothing setup (view_of r) message taken takes) [
  | inl (heeded, fits, may, decided) ↦ inl (heeded, record { fits = fits; may = may }, decided)
  | inr none ↦ inr none
]

-- what is heeded of a message that is addressed, and of one that isn't
pub heeded_part : (setup : Setup) (r : Replica) (message heeded : Message) → IsAddressed setup r.me message → Heeds setup (view_of r) message heeded → (heeded.from ≡ message.from) × (heeded.cut ≡ message.cut) × (heeded.number ≡ message.number) × IsHeeded setup r heeded
heeded_part setup r message heeded addressed (inl (here, part)) =
    (ap (λ (m : Message). m.from) part.all_else, ap (λ (m : Message). m.cut) part.all_else, ap (λ (m : Message). m.number) part.all_else, is_heeded setup r message heeded here part)
heeded_part setup r message heeded addressed (inr (astray, is)) = absurd (astray addressed)

pub heeded_nothing : (setup : Setup) (r : Replica) (message heeded : Message) → (IsAddressed setup r.me message → ⊥) → Heeds setup (view_of r) message heeded → heeded ≡ silent setup.replicas message
heeded_nothing setup r message heeded astray (inl (addressed, part)) = absurd (astray addressed)
heeded_nothing setup r message heeded astray (inr (never, is)) = is
