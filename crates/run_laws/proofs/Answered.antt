-- What is asked can be answered.
use Rattle.std.proofs.Common.{◌≡◌, ◌≢◌, inl, ℕ, ◌+◌, Bool, true, false, cond, List, [], ◌∷◌, ◌++◌, length, refl, sym, ap, subst, ◌∙◌, arith}
use Rattle.std.specs.Prelude.{slice_index_or, slice_set, Some, None, Option, ◌==◌}
use Rattle.std.proofs.lemmas.List.{append-nil, length-append}
use Rattle.spec_model.specs.declared.plan.Setup.{Setup}
use Rattle.spec_model.specs.declared.clause.Broken.{Broken}
use Rattle.spec_model.specs.declared.instance.Inst.{Inst}
use Rattle.spec_model.specs.declared.right.Want.{Want}
use Rattle.spec_model.specs.declared.right.Lacking.{Lacking}
use Rattle.spec_model.specs.declared.log.Body.{Body}
use Rattle.spec_model.specs.declared.log.Body.TheVariants as body
use Rattle.spec_model.specs.declared.log.LogItem.{LogItem}
use Rattle.spec_model.specs.Breaks.{broken_by}
use Rattle.spec_model.specs.Needs.{needs}
use Rattle.run_model.specs.declared.batch.Batch.{Batch}
use Rattle.run_model.specs.declared.message.Message.{Message}
use Rattle.run_model.specs.declared.step.Ask.{Ask}
use Rattle.run_model.specs.declared.step.Ask.TheVariants as asks
use Rattle.run_model.specs.declared.step.Outcome.{Outcome}
use Rattle.run_model.specs.declared.step.Outcome.TheVariants as outcomes
use Rattle.run_model.specs.Logs.{Logs, cut_after}
use Rattle.run_model.specs.Levels.{first_lacking}
use Rattle.run_model.specs.Wants.{need_of, noted, piece_for, want_of}
use Rattle.run_model.specs.Worlds.{Standing, Sending, Running, Up, Down, others_of, with_batch, stopped, restarted, logged, logged_all, holding, joined, sent_to, truths_seen}
use Rattle.run_model.specs.Steps.{Requested, Takes, TakesSent, Drafts, Rests, AnswersDown, Answers, accepts_of, given, answered, dropped, received, message_of}
use Rattle.scenario_text.specs.Numbered.{sends_to}
use Rattle.run_laws.proofs.Admitted.{admitted_some}

-- ---- answers

-- a log grows
logged_more : (me : ℕ) (bodies : List Body) (p : Standing) → length (logged_all me bodies p).log ≡ length p.log + length bodies
logged_more me [] p = omega arith
logged_more me (b ∷ bodies) p =
    let rest = logged_more me bodies (logged me b p) in
    let one = length-append p.log (record { origin = me; index = length p.log; deps = p.cut; body = b } ∷ []) in
    omega (arith, rest, one)

-- also as wants are answered
answered_more : (setup : Setup) (logs : Logs) (me to : ℕ) (wants : List Want) (p : Standing) → (gave : ℕ) × (length (answered setup logs me to wants p).log ≡ length p.log + gave)
answered_more setup logs me to [] p = (0, omega arith)
answered_more setup logs me to (want ∷ wants) p =
    let bodies : List Body = given (piece_for (holding setup logs me p (need_of want)) want.ask) to want.right in
    let rest = answered_more setup logs me to wants (logged_all me bodies p) in
    (length bodies + rest.0, omega (arith, rest.1, logged_more me bodies p))

-- to log items sends nothing
logged_sendings : (me : ℕ) (bodies : List Body) (p : Standing) → (logged_all me bodies p).sendings ≡ p.sendings
logged_sendings me [] p = refl
logged_sendings me (b ∷ bodies) p = logged_sendings me bodies (logged me b p)

-- nor do answers to wants
answered_sendings : (setup : Setup) (logs : Logs) (me to : ℕ) (wants : List Want) (p : Standing) → (answered setup logs me to wants p).sendings ≡ p.sendings
answered_sendings setup logs me to [] p = refl
answered_sendings setup logs me to (want ∷ wants) p =
    let bodies : List Body = given (piece_for (holding setup logs me p (need_of want)) want.ask) to want.right in
    answered_sendings setup logs me to wants (logged_all me bodies p) ∙ logged_sendings me bodies p

-- a message can be taken, which sends nothing
takes_some : (setup : Setup) (logs : Logs) (me : ℕ) (message : Message) (old : Standing)
    → (applied : List LogItem) × (outcome : Outcome) × (new : Standing) × Takes setup logs me message applied old outcome new × (new.sendings ≡ old.sendings)
takes_some setup logs me message old =
    let a = admitted_some old.cut message.items in
    let first : Standing = record old { told = slice_set old.told message.from (joined (slice_index_or old.told message.from []) message.cut); cut = cut_after old.cut a.0 } in
    let before : Standing = dropped setup logs me (received me message a.0 old) in
    let gave = answered_more setup logs me message.from message.wants before in (
      a.0,
      outcomes.Took message.number (length a.0) (length (accepts_of me a.0)) gave.0,
      answered setup logs me message.from message.wants before,
      record { gave = gave.0; before_answers = before; admitted = a.1; before_is = refl; becomes = refl; gave_is = gave.1; outcome_is = refl },
      answered_sendings setup logs me message.from message.wants before ∙ logged_sendings me (accepts_of me a.0) first,
    )

-- an instance can be requested, which sends nothing
requested_some : (me : ℕ) (inst : Inst) (broken : Option Broken) (lacking : Option Lacking) (old : Standing) → (outcome : Outcome) × (new : Standing) × Requested me inst broken lacking old outcome new × (new.sendings ≡ old.sendings)
requested_some me inst (Some broken) lacking old = (outcomes.Breaks broken, old, (refl, refl), refl)
requested_some me inst None None old = (outcomes.Done (length old.log), logged me (body.Act inst) old, (refl, refl), refl)
requested_some me inst None (Some lacking) old = (outcomes.Short lacking, record old { wants = noted old.wants (want_of lacking.need) }, (refl, refl), refl)

-- ---- any ask

-- an answer, and the steps that sent, as they are then counted
pub record IsAnswered (setup : Setup) (logs : Logs) (me : ℕ) (running : Running) (heard : Option Sending) (stamp : ℕ) (ask : Ask) (old : Standing) : Type 0 where
  pub admitted : List LogItem
  pub applied : List LogItem
  pub outcome : Outcome
  pub after : Standing
  pub answers : Answers setup logs me running heard admitted applied stamp ask old outcome after
  pub more : List Sending
  pub is : after.sendings ≡ old.sendings ++ more
  pub counted : (to : ℕ) → length (sent_to to more) ≡ cond (sends_to to ask) 1 0

-- what a replica that is up drafts is kept
drafts_some : (setup : Setup) (logs : Logs) (me : ℕ) (heard : Option Sending) (stamp : ℕ) (ask : Ask) (old : Standing) (admitted : List LogItem) (outcome : Outcome) (draft : Standing) (more : List Sending)
    → Drafts setup logs me heard admitted stamp ask old outcome draft → draft.sendings ≡ old.sendings ++ more → ((to : ℕ) → length (sent_to to more) ≡ cond (sends_to to ask) 1 0) → IsAnswered setup logs me Up heard stamp ask old
drafts_some setup logs me heard stamp ask old admitted outcome draft more drafts is counted = record {
  admitted = admitted;
  applied = admitted;
  outcome = outcome;
  after = draft;
  answers = record { would = outcome; draft = draft; drafts = drafts; ends = inl (refl, refl, refl) };
  more = more;
  is = is;
  counted = counted;
}

-- a request is answered
pub does_some : (setup : Setup) (logs : Logs) (me stamp : ℕ) (inst : Inst) (old : Standing) → IsAnswered setup logs me Up None stamp (asks.Do inst) old
does_some setup logs me stamp inst old =
    let r = requested_some me inst (broken_by setup.spec (truths_seen setup logs old) inst) (first_lacking setup.replicas (holding setup logs me old) (needs setup (truths_seen setup logs old) inst)) old in
    drafts_some setup logs me None stamp (asks.Do inst) old [] r.0 r.1 [] (refl, r.2) (r.3 ∙ sym (append-nil old.sendings)) (λ to. refl)

-- a list of one, or none
one_if : (b : Bool) (s : Sending) → length (cond b (s ∷ []) []) ≡ cond b 1 0
one_if true s = refl
one_if false s = refl

-- a send
pub sends_some : (setup : Setup) (logs : Logs) (me stamp to number : ℕ) (old : Standing) → to ≢ me → number ≡ length (sent_to to old.sendings) → IsAnswered setup logs me Up None stamp (asks.Send to (Some number)) old
sends_some setup logs me stamp to number old ne is =
    let message : Message = message_of setup logs me to number stamp old in
    let s : Sending = record { to = to; stamp = stamp; message = Some message } in
    drafts_some setup logs me None stamp (asks.Send to (Some number)) old [] (outcomes.Sent number (length message.items) (length message.wants)) (record old { sendings = old.sendings ++ s ∷ [] }) (s ∷ [])
    (refl, record { other = ne; counted = is; outcome_is = refl; becomes = refl }) refl (λ peer. one_if (to == peer) s)

-- a take of a step that sent, or sent nothing
pub takes_sent_some : (setup : Setup) (logs : Logs) (me stamp from number : ℕ) (s : Sending) (old : Standing) → IsAnswered setup logs me Up (Some s) stamp (asks.Take from (Some number)) old
takes_sent_some setup logs me stamp from number s old = either s s.message refl
  where
    either : (s : Sending) (m : Option Message) → s.message ≡ m → IsAnswered setup logs me Up (Some s) stamp (asks.Take from (Some number)) old
    either s None is =
        drafts_some setup logs me (Some s) stamp (asks.Take from (Some number)) old [] outcomes.Unsent old [] (subst (λ (m : Option Message). TakesSent setup logs me m [] old outcomes.Unsent old) (sym is) (refl, refl, refl))
        (sym (append-nil old.sendings)) (λ to. refl)
    either s (Some message) is =
        let r = takes_some setup logs me message old in
        drafts_some setup logs me (Some s) stamp (asks.Take from (Some number)) old r.0 r.1 r.2 [] (subst (λ (m : Option Message). TakesSent setup logs me m r.0 old r.1 r.2) (sym is) r.3) (r.4 ∙ sym (append-nil old.sendings)) (λ to. refl)

-- a crash, and a recovery of what is up
pub stops_some : (setup : Setup) (logs : Logs) (me stamp : ℕ) (old : Standing) → IsAnswered setup logs me Up None stamp asks.Crash old
stops_some setup logs me stamp old =
    drafts_some setup logs me None stamp asks.Crash old [] outcomes.Stopped (stopped setup.replicas None old) [] (refl, refl, refl) (sym (append-nil old.sendings)) (λ to. refl)

pub stays_some : (setup : Setup) (logs : Logs) (me stamp : ℕ) (old : Standing) → IsAnswered setup logs me Up None stamp asks.Recover old
stays_some setup logs me stamp old = drafts_some setup logs me None stamp asks.Recover old [] outcomes.Up old [] (refl, refl, refl) (sym (append-nil old.sendings)) (λ to. refl)

-- a replica that is down does nothing
pub rests_some : (setup : Setup) (logs : Logs) (me : ℕ) (pending : Option Batch) (stamp : ℕ) (ask : Ask) (old : Standing) → ((applied : List LogItem) (o : Outcome) (p : Standing) → Rests applied old o p → AnswersDown setup.replicas me pending applied stamp ask old o p)
    → ((to : ℕ) → sends_to to ask ≡ false) → IsAnswered setup logs me (Down pending) None stamp ask old
rests_some setup logs me pending stamp ask old rests quiet = record {
  admitted = [];
  applied = [];
  outcome = outcomes.Down;
  after = old;
  answers = (refl, rests [] outcomes.Down old (refl, refl, refl));
  more = [];
  is = sym (append-nil old.sendings);
  counted = λ to. sym (ap (λ b. cond b 1 0) (quiet to));
}

-- but its sends count
pub sends_none_some : (setup : Setup) (logs : Logs) (me : ℕ) (pending : Option Batch) (stamp to number : ℕ) (old : Standing) → to ≢ me → number ≡ length (sent_to to old.sendings) → IsAnswered setup logs me (Down pending) None stamp (asks.Send to (Some number)) old
sends_none_some setup logs me pending stamp to number old ne is =
    let s : Sending = record { to = to; stamp = stamp; message = None } in
    record {
      admitted = [];
      applied = [];
      outcome = outcomes.Down;
      after = record old { sendings = old.sendings ++ s ∷ [] };
      answers = (refl, (refl, record { other = ne; counted = is; outcome_is = refl; becomes = refl }));
      more = s ∷ [];
      is = refl;
      counted = λ peer. one_if (to == peer) s;
    }

-- and it can come up again, with what was pending
pub finds_some : (setup : Setup) (logs : Logs) (me : ℕ) (pending : Option Batch) (stamp : ℕ) (old : Standing) → IsAnswered setup logs me (Down pending) None stamp asks.Recover old
finds_some setup logs me None stamp old =
    record { admitted = []; applied = []; outcome = outcomes.Same; after = restarted setup.replicas old; answers = (refl, inl (refl, refl, refl)); more = []; is = sym (append-nil old.sendings); counted = λ to. refl }
finds_some setup logs me (Some batch) stamp old = record {
  admitted = [];
  applied = others_of me batch.items;
  outcome = outcomes.Kept;
  after = restarted setup.replicas (with_batch me batch.items old);
  answers = (refl, inl (inl (refl, refl, refl)));
  more = [];
  is = sym (append-nil old.sendings);
  counted = λ to. refl;
}
