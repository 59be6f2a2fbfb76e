-- What was decided on a message, part by part.
use Rattle.std.proofs.Common.{◌≡◌, ℕ, ◌+◌, ◌≤◌, List, [], ◌∷◌, ◌++◌, length, take, drop, refl, sym, ap, subst, ◌∙◌, arith, length-append, length-take}
use Rattle.std.proofs.lemmas.List.{append_assoc, append_cancel_left, take-append-drop}
use Rattle.spec_model.specs.declared.plan.Setup.{Setup}
use Rattle.spec_model.specs.declared.right.Need.{Need}
use Rattle.spec_model.specs.declared.right.Want.{Want}
use Rattle.spec_model.specs.declared.log.Body.{Body}
use Rattle.spec_model.specs.declared.log.LogItem.{LogItem}
use Rattle.run_model.specs.declared.message.Message.{Message}
use Rattle.run_model.specs.declared.step.Outcome.TheVariants as outcomes
use Rattle.run_model.specs.Logs.{Logs}
use Rattle.run_model.specs.Worlds.{Standing, holding, logged, logged_all}
use Rattle.run_model.specs.Steps.{AreAdmitted, accepts_of, answered, dropped, given, received}
use Rattle.run_model.specs.Wants.{need_of, piece_for}
use Rattle.causal_store.specs.Stores.{cut_in}
use Rattle.message_laws.specs.Heeded.{with_items}
use Rattle.message_laws.proofs.Logged.{accepts_few, answered_gives, gives_few, gives_for}
use Rattle.message_drafts.specs.declared.taken.Taken.{Taken}
use Rattle.message_drafts.specs.Taking.{IsTaken}
use Rattle.replica_core.specs.Decisions.{IsHeeded, Splits}
use Rattle.replica_core.specs.Next.{AreNext}
use Rattle.replica_core.specs.Replicas.{IsReplica, known_to, own_log, standing_of, view_of}
use Rattle.replica_core.specs.declared.replica.Replica.{Replica}
use Rattle.replica_core.proofs.Applied.{Admitted, accepts_begin, accepts_next, all_applied, part_of, start_of}
use Rattle.replica_core.proofs.Items.{items_for, items_long, logged_items}
use Rattle.replica_core.proofs.Lists.{back_of, front_of}
use Rattle.replica_core.proofs.Next.{next_like}
use Rattle.replica_core.proofs.Passing.{Goes, gives_next}

-- how it stands before it answers
abbrev pub before_of : Setup → Message → Replica → List LogItem → Standing
before_of setup message r applied = dropped setup (with_items message.from applied (known_to r)) r.me (received r.me message applied (standing_of 0 [] [] r))

-- the same but for what is wanted, was told and was sent
abbrev plain : Standing → Standing
plain p = record p { stamp = 0; wants = []; told = []; sendings = [] }

-- by which a replica logs and answers the same
logged_plain : (me : ℕ) (bodies : List Body) (p : Standing) → logged_all me bodies (plain p) ≡ plain (logged_all me bodies p)
logged_plain me [] p = refl
logged_plain me (b ∷ bodies) p = logged_plain me bodies (logged me b p)

answered_plain : (setup : Setup) (logs : Logs) (me to : ℕ) (wants : List Want) (p : Standing) → answered setup logs me to wants (plain p) ≡ plain (answered setup logs me to wants p)
answered_plain setup logs me to [] p = refl
answered_plain setup logs me to (w ∷ wants) p =
    let bodies : List Body = given (piece_for (holding setup logs me p (need_of w)) w.ask) to w.right in
    ap (answered setup logs me to wants) (logged_plain me bodies p) ∙ answered_plain setup logs me to wants (logged_all me bodies p)

-- the parts by their meaning
pub record Parts (setup : Setup) (message : Message) (r : Replica) (taken : Taken) (front accepts outs : List LogItem) : Type 0 where
  pub admitted : AreAdmitted (cut_in r.store) message.items front
  pub applied_is : taken.applied ≡ length front
  pub accepted_is : taken.accepted ≡ length (accepts_of r.me front)
  pub gave_is : taken.gave ≡ length outs
  pub accepts_are : accepts ≡ items_for r.me (accepts_of r.me front) (start_of message r front)
  pub outs_end : (answered setup (with_items message.from front (known_to r)) r.me message.from message.wants (before_of setup message r front)).log ≡ (before_of setup message r front).log ++ outs

pub parts_of : (setup : Setup) (message : Message) (r : Replica) (taken : Taken) (front accepts outs : List LogItem) → Splits setup message r taken front accepts outs → Parts setup message r taken front accepts outs
parts_of setup message r taken front accepts outs h =
    let me : ℕ = r.me in
    let t = h.decided in
    let applied : List LogItem = t.applied in
    let logs : Logs = with_items message.from applied (known_to r) in
    let before : Standing = before_of setup message r applied in
    let bodies : List Body = accepts_of me applied in
    let a : List LogItem = items_for me bodies (start_of message r applied) in
    let after : Standing = answered setup logs me message.from message.wants before in
    let before_is : t.takes.before_answers ≡ plain before = t.takes.before_is ∙ ap (dropped setup logs me) (logged_plain me bodies (start_of message r applied)) in
    let after_is : t.after ≡ plain after = t.takes.becomes ∙ ap (answered setup logs me message.from message.wants) before_is ∙ answered_plain setup logs me message.from message.wants before in
    let before_log : before.log ≡ own_log r ++ a = logged_items me bodies (start_of message r applied) in
    let counts = same_took message.number taken.applied taken.accepted taken.gave message.number (length applied) (length bodies) t.takes.gave t.takes.outcome_is in
    let outs_log : after.log ≡ before.log ++ drop (length a) t.own = ends setup logs me message before (own_log r) a t.own before_log (sym (ap (λ (p : Standing). p.log) after_is) ∙ t.longer) in
    let own_is : t.own ≡ a ++ drop (length a) t.own =
    append_cancel_left (own_log r) t.own (a ++ drop (length a) t.own) (sym t.longer ∙ ap (λ (p : Standing). p.log) after_is ∙ outs_log ∙ ap (λ (l : List LogItem). l ++ drop (length a) t.own) before_log ∙ append_assoc (own_log r) a (drop (length a) t.own)) in
    let many : length a ≡ length bodies = items_long me bodies (start_of message r applied) in
    let front_same : front ≡ applied = h.front_is ∙ ap (take taken.applied) t.batch ∙ front_of applied t.own taken.applied counts.0 in
    let behind : drop taken.applied taken.batch.items ≡ t.own = ap (drop taken.applied) t.batch ∙ back_of applied t.own taken.applied counts.0 in
    let accepts_same : accepts ≡ a = h.accepts_are ∙ ap (take taken.accepted) (behind ∙ own_is) ∙ front_of a (drop (length a) t.own) taken.accepted (counts.1 ∙ sym many) in
    let outs_same : outs ≡ drop (length a) t.own = h.outs_are ∙ ap (drop taken.accepted) (behind ∙ own_is) ∙ back_of a (drop (length a) t.own) taken.accepted (counts.1 ∙ sym many) in
    let gave : length after.log ≡ length before.log + t.takes.gave = sym (ap (λ (p : Standing). length p.log) after_is) ∙ t.takes.gave_is ∙ ap (λ (p : Standing). length p.log + t.takes.gave) before_is in
    let done : Parts setup message r taken applied a (drop (length a) t.own) = record {
      admitted = t.takes.admitted;
      applied_is = counts.0;
      accepted_is = counts.1;
      gave_is = omega (arith, counts.2, gave, ap length outs_log, length-append before.log (drop (length a) t.own));
      accepts_are = refl;
      outs_end = outs_log;
    } in
    subst (λ (l : List LogItem). Parts setup message r taken l accepts outs) (sym front_same) (subst (λ (l : List LogItem). Parts setup message r taken applied l outs) (sym accepts_same) (subst (Parts setup message r taken applied a) (sym outs_same) done))
  where
    same_took : (m a b g n x y z : ℕ) → outcomes.Took m a b g ≡ outcomes.Took n x y z → (a ≡ x) × (b ≡ y) × (g ≡ z)
    same_took m a b g n x y z same = (cc, cc, cc)

    ends : (setup : Setup) (logs : Logs) (me : ℕ) (message : Message) (before : Standing) (log a own : List LogItem) → before.log ≡ log ++ a → (answered setup logs me message.from message.wants before).log ≡ log ++ own
        → (answered setup logs me message.from message.wants before).log ≡ before.log ++ drop (length a) own
    ends setup logs me message before log a own is longer =
        let more : List LogItem = items_for me (gives_for setup logs me message.from message.wants before) before in
        let there : (answered setup logs me message.from message.wants before).log ≡ before.log ++ more = ap (λ (p : Standing). p.log) (answered_gives setup logs me message.from message.wants before) ∙ logged_items me (gives_for setup logs me message.from message.wants before) before in
        let own_is : own ≡ a ++ more = append_cancel_left log own (a ++ more) (sym longer ∙ there ∙ ap (λ (l : List LogItem). l ++ more) is ∙ append_assoc log a more) in
        there ∙ ap (λ (l : List LogItem). before.log ++ l) (sym (ap (drop (length a)) own_is ∙ back_of a more (length a) refl))

pub joined_back : (n : ℕ) (xs ys zs : List LogItem) → ys ≡ take n xs → zs ≡ drop n xs → xs ≡ ys ++ zs
joined_back n xs ys zs a b = sym (ap (λ (l : List LogItem). l ++ zs) a ∙ ap (λ (l : List LogItem). take n xs ++ l) b ∙ take-append-drop n xs)

-- ---- what is logged

-- what is given to each want in turn
abbrev pub gives_of : Setup → Message → Replica → List LogItem → List Body
gives_of setup message r front = gives_for setup (with_items message.from front (known_to r)) r.me message.from message.wants (before_of setup message r front)

-- the items that are admitted, then their Accepts and then the Outs, each of which is next
pub record Plans (setup : Setup) (message : Message) (r : Replica) (taken : Taken) (front accepts outs : List LogItem) : Type 0 where
  pub admits : Admitted setup message r front
  pub applied_is : taken.applied ≡ length front
  pub accepted_is : taken.accepted ≡ length (accepts_of r.me front)
  pub gave_is : taken.gave ≡ length outs
  pub accepts_are : accepts ≡ items_for r.me (accepts_of r.me front) (start_of message r front)
  pub outs_are : outs ≡ items_for r.me (gives_of setup message r front) (before_of setup message r front)
  pub accept : (needs : List Need) → AreNext setup (with_items message.from front (known_to r)) r.me needs (start_of message r front) accepts
  pub goes : Goes setup (with_items message.from front (known_to r)) r.me (logged_all r.me (accepts_of r.me front) (start_of message r front))
  pub give : (needs : List Need) → AreNext setup (with_items message.from front (known_to r)) r.me needs (logged_all r.me (accepts_of r.me front) (start_of message r front)) outs
  pub few_accepts : length accepts ≤ 16
  pub few_outs : length outs ≤ 8

pub plans_of : (setup : Setup) (message : Message) (r : Replica) (taken : Taken) (front accepts outs : List LogItem) → Splits setup message r taken front accepts outs → Plans setup message r taken front accepts outs
plans_of setup message r taken front accepts outs h =
    let me : ℕ = r.me in
    let logs : Logs = with_items message.from front (known_to r) in
    let start : Standing = start_of message r front in
    let bodies : List Body = accepts_of me front in
    let mid : Standing = logged_all me bodies start in
    let before : Standing = before_of setup message r front in
    let gives : List Body = gives_of setup message r front in
    let parts = parts_of setup message r taken front accepts outs h in
    let admits : Admitted setup message r front = record { own = h.own; heeded = h.heeded; admitted = parts.admitted } in
    let accept = λ (needs : List Need). accepts_next setup message r needs front [] front start (accepts_begin setup message r front admits) refl (all_applied setup message r front admits) in
    let goes = (accept []).1 in
    let outs_are : outs ≡ items_for me gives before =
    append_cancel_left before.log outs (items_for me gives before) (sym parts.outs_end ∙ ap (λ (p : Standing). p.log) (answered_gives setup logs me message.from message.wants before) ∙ logged_items me gives before) in
    let there : Goes setup logs me before = record { more = goes.more; log = goes.log; rest = goes.rest; few = goes.few } in
    let short = accepts_few me front in
    let given_short = gives_few setup logs me message.from message.wants before in
    let part = part_of setup message r front admits in
    record {
      admits = admits;
      applied_is = parts.applied_is;
      accepted_is = parts.accepted_is;
      gave_is = parts.gave_is;
      accepts_are = parts.accepts_are;
      outs_are = outs_are;
      accept = λ needs. subst (AreNext setup logs me needs start) (sym parts.accepts_are) (accept needs).0;
      goes = goes;
      give = λ needs. subst (AreNext setup logs me needs mid) (sym outs_are) (next_like setup logs me needs before mid (items_for me gives before) refl refl (gives_next setup logs me message.from needs message.wants before h.heeded.fits.sender h.heeded.fits.wants there));
      few_accepts = omega (arith, ap length parts.accepts_are, items_long me bodies start, short, part.few);
      few_outs = omega (arith, ap length outs_are, items_long me gives before, given_short, h.heeded.fits.few_wants);
    }

-- the batch of a take, cut where its own items begin
pub taken_plans : (setup : Setup) (message : Message) (r : Replica) (taken : Taken) → IsReplica setup r.me r → IsHeeded setup r message → IsTaken setup message (view_of r) taken
    → Plans setup message r taken (take taken.applied taken.batch.items) (take taken.accepted (drop taken.applied taken.batch.items)) (drop taken.accepted (drop taken.applied taken.batch.items))
taken_plans setup message r taken own heeded decided =
    let items : List LogItem = taken.batch.items in
    let behind : List LogItem = drop taken.applied items in
    plans_of setup message r taken (take taken.applied items) (take taken.accepted behind) (drop taken.accepted behind) (record { own = own; heeded = heeded; decided = decided; front_is = refl; accepts_are = refl; outs_are = refl })

-- it has as many items of its own
pub accepted_within : (setup : Setup) (message : Message) (r : Replica) (taken : Taken) → IsReplica setup r.me r → IsHeeded setup r message → IsTaken setup message (view_of r) taken → taken.accepted ≤ length (drop taken.applied taken.batch.items)
accepted_within setup message r taken own heeded decided =
    let plans = taken_plans setup message r taken own heeded decided in
    omega (arith, plans.accepted_is, ap length plans.accepts_are, items_long r.me (accepts_of r.me (take taken.applied taken.batch.items)) (start_of message r (take taken.applied taken.batch.items)), length-take taken.accepted (drop taken.applied taken.batch.items))
