-- What a replica would take of a message, however it stands, by what it decided on it.
use Rattle.std.proofs.Common.{◌≡◌, ℕ, List, [], ◌∷◌, ◌++◌, length, drop, refl, sym, ap, subst, ◌∙◌, arith}
use Rattle.spec_model.specs.declared.plan.Setup.{Setup}
use Rattle.spec_model.specs.declared.right.Want.{Want}
use Rattle.spec_model.specs.declared.log.Body.{Body}
use Rattle.spec_model.specs.declared.log.LogItem.{LogItem}
use Rattle.run_model.specs.declared.message.Message.{Message}
use Rattle.run_model.specs.declared.step.Outcome.{Outcome}
use Rattle.run_model.specs.declared.step.Outcome.TheVariants as outcomes
use Rattle.run_model.specs.Fitting.{AreInRow, MessageFits}
use Rattle.run_model.specs.Logs.{Logs, cut_after, log_at, with_all, with_item}
use Rattle.run_model.specs.Steps.{AreAdmitted, AreReady, IsStuck, Takes, accepts_of, answered, dropped, given, received}
use Rattle.run_model.specs.Wants.{need_of, piece_for}
use Rattle.run_model.specs.Worlds.{Standing, Up, holding, items_between, logged, logged_all}
use Rattle.run_model.proofs.Known.{with_row}
use Rattle.message_laws.specs.Heeded.{with_items}
use Rattle.message_laws.specs.Views.{IsView, View, own_items, standing_in}
use Rattle.message_drafts.specs.Taking.{IsTaken}
use Rattle.message_drafts.specs.declared.taken.Taken.{Taken}
use Rattle.replica_core.proofs.Growing.{applied_row, started}
use Rattle.replica_core.proofs.Lists.{back_of}

-- by its log and cut alone
abbrev bare : Standing → Standing
bare p = record { log = p.log; cut = p.cut; stamp = 0; wants = []; told = []; sendings = []; running = Up; kept = [] }

-- it logs and answers the same
logged_bare : (me : ℕ) (bodies : List Body) (p : Standing) → logged_all me bodies (bare p) ≡ bare (logged_all me bodies p)
logged_bare me [] p = refl
logged_bare me (b ∷ bodies) p = logged_bare me bodies (logged me b p)

answered_bare : (setup : Setup) (logs : Logs) (me to : ℕ) (wants : List Want) (p : Standing) → answered setup logs me to wants (bare p) ≡ bare (answered setup logs me to wants p)
answered_bare setup logs me to [] p = refl
answered_bare setup logs me to (w ∷ wants) p =
    let bodies : List Body = given (piece_for (holding setup logs me p (need_of w)) w.ask) to w.right in
    ap (answered setup logs me to wants) (logged_bare me bodies p) ∙ answered_bare setup logs me to wants (logged_all me bodies p)

-- once it has received
received_bare : (me : ℕ) (message : Message) (applied : List LogItem) (p q : Standing) → p.log ≡ q.log → p.cut ≡ q.cut → bare (received me message applied p) ≡ bare (received me message applied q)
received_bare me message applied p q log cut =
    let from : List LogItem → List ℕ → Standing = λ l c. logged_all me (accepts_of me applied) (bare (record p { log = l; cut = cut_after c applied })) in
    sym (logged_bare me (accepts_of me applied) (started message applied p)) ∙ ap (λ (l : List LogItem). from l p.cut) log ∙ ap (from q.log) cut
    ∙ logged_bare me (accepts_of me applied) (started message applied q)

-- the take of a replica that stands so, which leads to the batch that was decided on
pub record IsDraft (setup : Setup) (v : View) (message : Message) (taken : Taken) (p : Standing) : Type 0 where
  pub applied : List LogItem
  pub draft : Standing
  pub takes : Takes setup (with_all applied v.known) v.me message applied p (outcomes.Took message.number taken.applied taken.accepted taken.gave) draft
  pub batch : items_between applied p draft ≡ taken.batch.items

pub drafted : (setup : Setup) (v : View) (message : Message) (taken : Taken) (p : Standing) → IsView setup v → MessageFits setup v.me message → IsTaken setup message v taken → p.log ≡ own_items v → p.cut ≡ v.cut → IsDraft setup v message taken p
drafted setup v message taken p view fits h log cut =
    let me : ℕ = v.me in
    let from : ℕ = message.from in
    let t = h.takes in
    let applied : List LogItem = h.applied in
    let logs : Logs = with_items from applied v.known in
    let before : Standing = dropped setup logs me (received me message applied p) in
    let draft : Standing = answered setup logs me from message.wants before in
    let row : AreInRow from (length (log_at v.known from)) applied = subst (λ n. AreInRow from n applied) (view.counts from) (applied_row message v.cut applied fits.first fits.row t.admitted) in
    let all : logs ≡ with_all applied v.known = sym (with_row from (length (log_at v.known from)) applied v.known row (omega (arith, fits.sender, view.whole))) in
    let began : bare before ≡ bare t.before_answers = received_bare me message applied p (standing_in v) log cut ∙ sym (ap bare t.before_is) in
    let ended : bare draft ≡ bare h.after =
    sym (answered_bare setup logs me from message.wants before) ∙ ap (answered setup logs me from message.wants) began ∙ answered_bare setup logs me from message.wants t.before_answers ∙ sym (ap bare t.becomes) in
    let longer : draft.log ≡ p.log ++ h.own = ap (λ (q : Standing). q.log) ended ∙ h.longer ∙ ap (λ (l : List LogItem). l ++ h.own) (sym log) in
    record {
      applied = applied;
      draft = draft;
      takes = subst (λ (l : Logs). Takes setup l me message applied p (outcomes.Took message.number taken.applied taken.accepted taken.gave) draft) all (record {
        gave = t.gave;
        before_answers = before;
        admitted = subst (λ (c : List ℕ). AreAdmitted c message.items applied) (sym cut) t.admitted;
        before_is = refl;
        becomes = refl;
        gave_is = omega (arith, t.gave_is, ap (λ (q : Standing). length q.log) began, ap (λ (q : Standing). length q.log) ended);
        outcome_is = t.outcome_is;
      });
      batch = ap (λ (l : List LogItem). applied ++ drop (length p.log) l) longer ∙ ap (λ (l : List LogItem). applied ++ l) (back_of p.log h.own (length p.log) refl) ∙ sym h.batch;
    }

-- ---- the take that was done

-- just one front of the items is admitted
same_admitted : (cut : List ℕ) (a b r s : List LogItem) → a ++ r ≡ b ++ s → AreReady cut a → AreReady cut b → IsStuck (cut_after cut a) r → IsStuck (cut_after cut b) s → a ≡ b
same_admitted cut [] [] r s same ready there stuck end = refl
same_admitted cut [] (y ∷ b) r s same ready there stuck end = absurd (subst (IsStuck cut) same stuck there.0)
same_admitted cut (x ∷ a) [] r s same ready there stuck end = absurd (subst (IsStuck cut) (sym same) end ready.0)
same_admitted cut (x ∷ a) (y ∷ b) r s same ready there stuck end =
    let first : x ≡ y = cc in
    let behind : a ++ r ≡ b ++ s = cc in
    let more : List ℕ = with_item cut x in
    let back : with_item cut y ≡ more = ap (with_item cut) (sym first) in
    ap (λ (i : LogItem). i ∷ a) first ∙ ap (λ (l : List LogItem). y ∷ l) (same_admitted more a b r s behind ready.1 (subst (λ (c : List ℕ). AreReady c b) back there.1) stuck (subst (λ (c : List ℕ). IsStuck (cut_after c b) s) back end))

-- so a take of this message leads from there to the batch that was decided on
pub taken_between : (setup : Setup) (v : View) (message : Message) (taken : Taken) (p : Standing) (applied : List LogItem) (outcome : Outcome) (new : Standing) → IsView setup v → MessageFits setup v.me message → IsTaken setup message v taken → p.log ≡ own_items v → p.cut ≡ v.cut
    → Takes setup (with_all applied v.known) v.me message applied p outcome new → items_between applied p new ≡ taken.batch.items
taken_between setup v message taken p applied outcome new view fits h log cut takes =
    let d = drafted setup v message taken p view fits h log cut in
    let me : ℕ = v.me in
    let a = takes.admitted in
    let b = d.takes.admitted in
    let same : applied ≡ d.applied = same_admitted p.cut applied d.applied a.rest b.rest (sym a.prefix ∙ b.prefix) a.ready b.ready a.longest b.longest in
    let end : List LogItem → Standing = λ l. let logs : Logs = with_all l v.known in answered setup logs me message.from message.wants (dropped setup logs me (received me message l p)) in
    let is : new ≡ d.draft =
    takes.becomes ∙ ap (answered setup (with_all applied v.known) me message.from message.wants) takes.before_is ∙ ap end same ∙ sym (d.takes.becomes ∙ ap (answered setup (with_all d.applied v.known) me message.from message.wants) d.takes.before_is) in
    ap (λ (l : List LogItem). l ++ drop (length p.log) new.log) same ∙ ap (λ (q : Standing). d.applied ++ drop (length p.log) q.log) is ∙ d.batch
