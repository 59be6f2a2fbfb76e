-- A step is settled by the world before it and by what is asked.
use Rattle.std.proofs.Common.{◌≡◌, inl, inr, ℕ, List, [], ◌∷◌, ◌++◌, length, get_or, drop, refl, sym, ap, subst, ◌∙◌, arith}
use Rattle.std.specs.Prelude.{slice_get, slice_set, Some, None, Option}
use Rattle.std.proofs.lemmas.Option.{same_Some}
use Rattle.spec_model.specs.declared.plan.Setup.{Setup}
use Rattle.spec_model.specs.declared.clause.Broken.{Broken}
use Rattle.spec_model.specs.declared.instance.Inst.{Inst}
use Rattle.spec_model.specs.declared.right.Lacking.{Lacking}
use Rattle.spec_model.specs.declared.log.LogItem.{LogItem}
use Rattle.spec_model.specs.Breaks.{broken_by}
use Rattle.spec_model.specs.Needs.{needs}
use Rattle.run_model.specs.declared.batch.Batch.{Batch}
use Rattle.run_model.specs.declared.message.Message.{Message}
use Rattle.run_model.specs.declared.step.Ask.{Ask}
use Rattle.run_model.specs.declared.step.Ask.TheVariants as asks
use Rattle.run_model.specs.declared.step.Outcome.{Outcome}
use Rattle.run_model.specs.declared.step.Outcome.TheVariants as outcomes
use Rattle.run_model.specs.declared.step.StepEntry.{StepEntry}
use Rattle.run_model.specs.Logs.{Logs, with_item, cut_after}
use Rattle.run_model.specs.Levels.{first_lacking}
use Rattle.run_model.specs.Worlds.{Standing, Sending, World, Running, Up, Down, logs_of, holding, truths_seen, batch_of, items_between, stopped}
use Rattle.run_model.specs.Steps.{Requested, Takes, TakesSent, Drafts, Finds, AnswersUp, AnswersDown, Answers, Steps, AreReady, IsStuck, AreAdmitted, accepts_of, answered, Hears, links_of}
use Rattle.run_model.specs.Runs.{WorldSteps}
use Rattle.run_laws.specs.OneRun.{Fine, Failed, Found, Missed, said}

-- lists that are the same begin with the same
pub same_first : {X : Type 0} (x y : X) (xs ys : List X) → x ∷ xs ≡ y ∷ ys → x ≡ y
same_first x y xs ys is = ap (λ l. get_or l 0 x) is

-- and go on with the same
pub same_rest : {X : Type 0} (x y : X) (xs ys : List X) → x ∷ xs ≡ y ∷ ys → xs ≡ ys
same_rest x y xs ys is = ap (drop 1) is

-- ---- what is applied

-- the longest prefix of items that are ready is one
longest_one : (cut : List ℕ) (a b r s : List LogItem) → a ++ r ≡ b ++ s → AreReady cut a → AreReady cut b → IsStuck (cut_after cut a) r → IsStuck (cut_after cut b) s → a ≡ b
longest_one cut [] [] r s is ready also stuck too = refl
longest_one cut [] (y ∷ b) r s is ready also stuck too =
    let stopped : IsStuck cut (y ∷ (b ++ s)) = subst (IsStuck cut) is stuck in absurd (stopped also.0)
longest_one cut (x ∷ a) [] r s is ready also stuck too =
    let stopped : IsStuck cut (x ∷ (a ++ r)) = subst (IsStuck cut) (sym is) too in absurd (stopped ready.0)
longest_one cut (x ∷ a) (y ∷ b) r s is ready also stuck too =
    let first : x ≡ y = same_first x y (a ++ r) (b ++ s) is in
    let next : a ++ r ≡ b ++ s = same_rest x y (a ++ r) (b ++ s) is in
    let same : a ≡ b = longest_one (with_item cut x) a b r s next ready.1 (subst (λ (z : LogItem). AreReady (with_item cut z) b) (sym first) also.1)
    stuck (subst (λ (z : LogItem). IsStuck (cut_after (with_item cut z) b) s) (sym first) too) in
    ap (λ (z : LogItem). z ∷ a) first ∙ ap (λ (l : List LogItem). y ∷ l) same

-- what is applied is settled by the cut and the items
admitted_one : (cut : List ℕ) (items a b : List LogItem) → AreAdmitted cut items a → AreAdmitted cut items b → a ≡ b
admitted_one cut items a b h k = longest_one cut a b h.rest k.rest (sym h.prefix ∙ k.prefix) h.ready k.ready h.longest k.longest

-- ---- what is answered

-- two drafts are one, and tell nothing of a disk
record AreOne (a b : List LogItem) (o p : Outcome) (x y : Standing) : Type 0 where
  items : a ≡ b
  outcomes_are : o ≡ p
  standings : x ≡ y
  fine : said o ≡ Fine

-- a request is settled
requested_one : (me : ℕ) (inst : Inst) (broken : Option Broken) (lacking : Option Lacking) (old : Standing) (o p : Outcome) (x y : Standing) → Requested me inst broken lacking old o x → Requested me inst broken lacking old p y → (o ≡ p) × (x ≡ y)
requested_one me inst (Some broken) lacking old o p x y h k = (h.0 ∙ sym k.0, h.1 ∙ sym k.1)
requested_one me inst None None old o p x y h k = (h.0 ∙ sym k.0, h.1 ∙ sym k.1)
requested_one me inst None (Some lacking) old o p x y h k = (h.0 ∙ sym k.0, h.1 ∙ sym k.1)

-- a take is settled
takes_one : (setup : Setup) (logs : Logs) (me : ℕ) (message : Message) (a b : List LogItem) (old : Standing) (o p : Outcome) (x y : Standing)
    → Takes setup logs me message a old o x → Takes setup logs me message b old p y → (o ≡ p) × (x ≡ y)
takes_one setup logs me message a b old o p x y first k =
    let h : Takes setup logs me message b old o x = subst (λ (l : List LogItem). Takes setup logs me message l old o x) (admitted_one old.cut message.items a b first.admitted k.admitted) first in
    let before : h.before_answers ≡ k.before_answers = h.before_is ∙ sym k.before_is in
    let after : x ≡ y = h.becomes ∙ ap (answered setup logs me message.from message.wants) before ∙ sym k.becomes in
    let gave : h.gave ≡ k.gave = omega (arith, h.gave_is, k.gave_is, ap (λ (q : Standing). length q.log) before, ap (λ (q : Standing). length q.log) after) in
    (h.outcome_is ∙ ap (λ n. outcomes.Took message.number (length b) (length (accepts_of me b)) n) gave ∙ sym k.outcome_is, after)

-- also of a step that sent
takes_sent_one : (setup : Setup) (logs : Logs) (me : ℕ) (sent : Option Message) (a b : List LogItem) (old : Standing) (o p : Outcome) (x y : Standing)
    → TakesSent setup logs me sent a old o x → TakesSent setup logs me sent b old p y → AreOne a b o p x y
takes_sent_one setup logs me None a b old o p x y h k = record { items = h.0 ∙ sym k.0; outcomes_are = h.1 ∙ sym k.1; standings = h.2 ∙ sym k.2; fine = ap said h.1 }
takes_sent_one setup logs me (Some message) a b old o p x y h k =
    let one = takes_one setup logs me message a b old o p x y h k in
    record { items = admitted_one old.cut message.items a b h.admitted k.admitted; outcomes_are = one.0; standings = one.1; fine = ap said h.outcome_is }

-- a request tells nothing of a disk
requested_fine : (me : ℕ) (inst : Inst) (broken : Option Broken) (lacking : Option Lacking) (old : Standing) (o : Outcome) (x : Standing) → Requested me inst broken lacking old o x → said o ≡ Fine
requested_fine me inst (Some broken) lacking old o x h = ap said h.0
requested_fine me inst None None old o x h = ap said h.0
requested_fine me inst None (Some lacking) old o x h = ap said h.0

-- a draft is settled by what is asked and what is in hand
drafts_one : (setup : Setup) (logs : Logs) (me : ℕ) (heard : Option Sending) (a b : List LogItem) (stamp : ℕ) (ask : Ask) (old : Standing) (o p : Outcome) (x y : Standing)
    → Drafts setup logs me heard a stamp ask old o x → Drafts setup logs me heard b stamp ask old p y → AreOne a b o p x y
drafts_one setup logs me None a b stamp (asks.Do inst) old o p x y h k =
    let broken = broken_by setup.spec (truths_seen setup logs old) inst in
    let lacking = first_lacking setup.replicas (holding setup logs me old) (needs setup (truths_seen setup logs old) inst) in
    let one = requested_one me inst broken lacking old o p x y h.1 k.1 in
    record { items = h.0 ∙ sym k.0; outcomes_are = one.0; standings = one.1; fine = requested_fine me inst broken lacking old o x h.1 }
drafts_one setup logs me None a b stamp (asks.Send to (Some number)) old o p x y h k =
    record { items = h.0 ∙ sym k.0; outcomes_are = h.1.outcome_is ∙ sym k.1.outcome_is; standings = h.1.becomes ∙ sym k.1.becomes; fine = ap said h.1.outcome_is }
drafts_one setup logs me None a b stamp (asks.Send to None) old o p x y h k = absurd h
drafts_one setup logs me None a b stamp (asks.Take from (Some number)) old o p x y h k = absurd h
drafts_one setup logs me None a b stamp (asks.Take from None) old o p x y h k = record { items = h.0 ∙ sym k.0; outcomes_are = h.1 ∙ sym k.1; standings = h.2 ∙ sym k.2; fine = ap said h.1 }
drafts_one setup logs me None a b stamp asks.Crash old o p x y h k = record { items = h.0 ∙ sym k.0; outcomes_are = h.1 ∙ sym k.1; standings = h.2 ∙ sym k.2; fine = ap said h.1 }
drafts_one setup logs me None a b stamp asks.Recover old o p x y h k = record { items = h.0 ∙ sym k.0; outcomes_are = h.1 ∙ sym k.1; standings = h.2 ∙ sym k.2; fine = ap said h.1 }
drafts_one setup logs me (Some s) a b stamp (asks.Do inst) old o p x y h k = absurd h
drafts_one setup logs me (Some s) a b stamp (asks.Send to number) old o p x y h k = absurd h
drafts_one setup logs me (Some s) a b stamp (asks.Take from (Some number)) old o p x y h k = takes_sent_one setup logs me s.message a b old o p x y h k
drafts_one setup logs me (Some s) a b stamp (asks.Take from None) old o p x y h k = absurd h
drafts_one setup logs me (Some s) a b stamp asks.Crash old o p x y h k = absurd h
drafts_one setup logs me (Some s) a b stamp asks.Recover old o p x y h k = absurd h

-- what is fine didn't fail
not_failed : (o p : Outcome) → said o ≡ Fine → p ≡ outcomes.DiskBroken → said o ≡ said p → ⊥
not_failed o p fine is same = let no : Fine ≡ Failed = sym fine ∙ same ∙ ap said is in absurd cc

-- two answers are one, and apply the same
record AreAlike (c d : List LogItem) (o p : Outcome) (x y : Standing) : Type 0 where
  items : c ≡ d
  outcomes_are : o ≡ p
  standings : x ≡ y

-- so where both are the same as a third
like : (c d : List LogItem) (o p : Outcome) (x y : Standing) {l : List LogItem} {q : Outcome} {z : Standing} → c ≡ l → d ≡ l → o ≡ q → p ≡ q → x ≡ z → y ≡ z → AreAlike c d o p x y
like c d o p x y c_is d_is o_is p_is x_is y_is = record { items = c_is ∙ sym d_is; outcomes_are = o_is ∙ sym p_is; standings = x_is ∙ sym y_is }

-- an answer of a replica that is up is settled by that and by its disk
up_one : (setup : Setup) (logs : Logs) (me : ℕ) (heard : Option Sending) (a b c d : List LogItem) (stamp : ℕ) (ask : Ask) (old : Standing) (o p : Outcome) (x y : Standing) → said o ≡ said p
    → AnswersUp setup logs me heard a c stamp ask old o x → AnswersUp setup logs me heard b d stamp ask old p y → AreAlike c d o p x y
up_one setup logs me heard a b c d stamp ask old o p x y same h k =
    let one = drafts_one setup logs me heard a b stamp ask old h.would k.would h.draft k.draft h.drafts k.drafts in
    elim h.ends [
      | inl whole ↦ elim k.ends [
        | inl too ↦ record { items = whole.0 ∙ one.items ∙ sym too.0; outcomes_are = whole.1 ∙ one.outcomes_are ∙ sym too.1; standings = whole.2 ∙ one.standings ∙ sym too.2 }
        | inr broken ↦ absurd (not_failed o p (ap said whole.1 ∙ one.fine) broken.3 same)
      ]
      | inr broken ↦ elim k.ends [
        | inl whole ↦ absurd (not_failed p o (ap said (whole.1 ∙ sym one.outcomes_are) ∙ one.fine) broken.3 (sym same))
        | inr too ↦
            let between : items_between a old h.draft ≡ items_between b old k.draft = ap (λ (l : List LogItem). items_between l old h.draft) one.items ∙ ap (items_between b old) one.standings in
            let batch : broken.0 ≡ too.0 = same_first broken.0 too.0 [] [] (sym broken.1 ∙ ap batch_of between ∙ too.1) in
            record { items = broken.2 ∙ sym too.2; outcomes_are = broken.3 ∙ sym too.3; standings = broken.4 ∙ ap (λ (l : Batch). stopped setup.replicas (Some l) old) batch ∙ sym too.4 }
      ]
    ]

-- a recovery is settled by its disk
finds_one : (replicas me : ℕ) (pending : Option Batch) (c d : List LogItem) (old : Standing) (o p : Outcome) (x y : Standing) → said o ≡ said p → Finds replicas me pending c old o x → Finds replicas me pending d old p y → AreAlike c d o p x y
finds_one replicas me None c d old o p x y same h k = like c d o p x y h.0 k.0 h.1 k.1 h.2 k.2
finds_one replicas me (Some batch) c d old o p x y same h k =
    elim h [
      | inl kept ↦ elim k [
        | inl too ↦ like c d o p x y kept.0 too.0 kept.1 too.1 kept.2 too.2
        | inr lost ↦ let no : Found ≡ Missed = sym (ap said kept.1) ∙ same ∙ ap said lost.1 in absurd cc
      ]
      | inr lost ↦ elim k [
        | inl kept ↦ let no : Missed ≡ Found = sym (ap said lost.1) ∙ same ∙ ap said kept.1 in absurd cc
        | inr too ↦ like c d o p x y lost.0 too.0 lost.1 too.1 lost.2 too.2
      ]
    ]

-- one that found anything didn't fail
finds_some : (replicas me : ℕ) (pending : Option Batch) (c : List LogItem) (old : Standing) (o p : Outcome) (x : Standing) → Finds replicas me pending c old o x → p ≡ outcomes.DiskBroken → said o ≡ said p → ⊥
finds_some replicas me None c old o p x h is same = not_failed o p (ap said h.1) is same
finds_some replicas me (Some batch) c old o p x h is same =
    elim h [
      | inl kept ↦ let no : Found ≡ Failed = sym (ap said kept.1) ∙ same ∙ ap said is in absurd cc
      | inr lost ↦ let no : Missed ≡ Failed = sym (ap said lost.1) ∙ same ∙ ap said is in absurd cc
    ]

-- and so is any answer of a replica that is down
down_one : (replicas me : ℕ) (pending : Option Batch) (c d : List LogItem) (stamp : ℕ) (ask : Ask) (old : Standing) (o p : Outcome) (x y : Standing) → said o ≡ said p
    → AnswersDown replicas me pending c stamp ask old o x → AnswersDown replicas me pending d stamp ask old p y → AreAlike c d o p x y
down_one replicas me pending c d stamp (asks.Do inst) old o p x y same h k = like c d o p x y h.0 k.0 h.1 k.1 h.2 k.2
down_one replicas me pending c d stamp (asks.Send to (Some number)) old o p x y same h k = like c d o p x y h.0 k.0 h.1.outcome_is k.1.outcome_is h.1.becomes k.1.becomes
down_one replicas me pending c d stamp (asks.Send to None) old o p x y same h k = like c d o p x y h.0 k.0 h.1 k.1 h.2 k.2
down_one replicas me pending c d stamp (asks.Take from number) old o p x y same h k = like c d o p x y h.0 k.0 h.1 k.1 h.2 k.2
down_one replicas me pending c d stamp asks.Crash old o p x y same h k = like c d o p x y h.0 k.0 h.1 k.1 h.2 k.2
down_one replicas me pending c d stamp asks.Recover old o p x y same h k =
    elim h [
      | inl found ↦ elim k [
        | inl too ↦ finds_one replicas me pending c d old o p x y same found too
        | inr failed ↦ absurd (finds_some replicas me pending c old o p x found failed.1 same)
      ]
      | inr failed ↦ elim k [
        | inl found ↦ absurd (finds_some replicas me pending d old p o y found failed.1 (sym same))
        | inr too ↦ like c d o p x y failed.0 too.0 failed.1 too.1 failed.2 too.2
      ]
    ]

-- any answer
answers_one : (setup : Setup) (logs : Logs) (me : ℕ) (running : Running) (heard : Option Sending) (a b c d : List LogItem) (stamp : ℕ) (ask : Ask) (old : Standing) (o p : Outcome) (x y : Standing) → said o ≡ said p
    → Answers setup logs me running heard a c stamp ask old o x → Answers setup logs me running heard b d stamp ask old p y → AreAlike c d o p x y
answers_one setup logs me Up heard a b c d stamp ask old o p x y same h k = up_one setup logs me heard a b c d stamp ask old o p x y same h k
answers_one setup logs me (Down pending) heard a b c d stamp ask old o p x y same h k = down_one setup.replicas me pending c d stamp ask old o p x y same h.1 k.1

-- ---- one step

-- what is in hand is settled by what is asked, and by whether the replica is up
pub hears_one : (links : List (List Sending)) (me : ℕ) (ask : Ask) (running : Running) (x y : Option Sending) → Hears links me ask running x → Hears links me ask running y → x ≡ y
hears_one links me (asks.Do inst) running x y h k = h ∙ sym k
hears_one links me (asks.Send to number) running x y h k = h ∙ sym k
hears_one links me (asks.Take from (Some number)) Up x y h k = h.2 ∙ sym h.1 ∙ k.1 ∙ sym k.2
hears_one links me (asks.Take from (Some number)) (Down pending) x y h k = h ∙ sym k
hears_one links me (asks.Take from None) running x y h k = h ∙ sym k
hears_one links me asks.Crash running x y h k = h ∙ sym k
hears_one links me asks.Recover running x y h k = h ∙ sym k

-- entries that are the same in each field
same_entries : (e f : StepEntry) → e.stamp ≡ f.stamp → e.replica ≡ f.replica → e.ask ≡ f.ask → e.outcome ≡ f.outcome → e ≡ f
same_entries e f stamp replica ask outcome =
    ap (λ (n : ℕ). let g : StepEntry = record { stamp = n; replica = e.replica; ask = e.ask; outcome = e.outcome } in g) stamp
    ∙ ap (λ (n : ℕ). let g : StepEntry = record { stamp = f.stamp; replica = n; ask = e.ask; outcome = e.outcome } in g) replica
    ∙ ap (λ (a : Ask). let g : StepEntry = record { stamp = f.stamp; replica = f.replica; ask = a; outcome = e.outcome } in g) ask
    ∙ ap (λ (o : Outcome). let g : StepEntry = record { stamp = f.stamp; replica = f.replica; ask = f.ask; outcome = o } in g) outcome

-- a replica's step is settled by how it stands, what is asked, what is in hand, and its disk
steps_one : (setup : Setup) (logs : Logs) (me : ℕ) (heard : Option Sending) (a b c d : List LogItem) (old : Standing) (e f : StepEntry) (x y : Standing) → e.ask ≡ f.ask → said e.outcome ≡ said f.outcome
    → Steps setup logs me heard a c old e x → Steps setup logs me heard b d old f y → (e ≡ f) × (x ≡ y)
steps_one setup logs me heard a b c d old e f x y ask disk h k =
    let stamp : e.stamp ≡ f.stamp = h.stamp ∙ sym k.stamp in
    let other : Answers setup logs me old.running heard b d e.stamp e.ask old f.outcome k.after =
    subst (λ (n : ℕ). Answers setup logs me old.running heard b d n e.ask old f.outcome k.after) (sym stamp) (subst (λ (q : Ask). Answers setup logs me old.running heard b d f.stamp q old f.outcome k.after) (sym ask) k.answers) in
    let one = answers_one setup logs me old.running heard a b c d e.stamp e.ask old e.outcome f.outcome h.after k.after disk h.answers other in
    let with_kept : ℕ → List LogItem → Standing → Standing = λ n items p. record p { stamp = n; kept = old.kept ++ batch_of (items_between items old p) } in (
      same_entries e f stamp (h.replica ∙ sym k.replica) ask one.outcomes_are,
      h.becomes ∙ ap (with_kept e.stamp c) one.standings ∙ ap (λ (items : List LogItem). with_kept e.stamp items k.after) one.items ∙ ap (λ (n : ℕ). with_kept n d k.after) stamp ∙ sym k.becomes,
    )

-- a world's step is settled by which replica is asked what, and its disk
pub world_steps_one : (setup : Setup) (w : World) (e f : StepEntry) (x y : World) → e.replica ≡ f.replica → e.ask ≡ f.ask → said e.outcome ≡ said f.outcome → WorldSteps setup w e x → WorldSteps setup w f y → (e ≡ f) × (x ≡ y)
world_steps_one setup w e f x y place ask disk s t =
    let before : s.before ≡ t.before = same_Some s.before t.before (sym s.was ∙ ap (slice_get w) place ∙ t.was) in
    let hears : Hears (links_of w) e.replica e.ask s.before.running t.heard =
    subst (λ (p : Standing). Hears (links_of w) e.replica e.ask p.running t.heard) (sym before)
    (subst (λ (n : ℕ). Hears (links_of w) n e.ask t.before.running t.heard) (sym place) (subst (λ (q : Ask). Hears (links_of w) f.replica q t.before.running t.heard) (sym ask) t.hears)) in
    let heard : s.heard ≡ t.heard = hears_one (links_of w) e.replica e.ask s.before.running s.heard t.heard s.hears hears in
    let steps : Steps setup (logs_of w) e.replica s.heard t.admitted t.applied s.before f t.after =
    subst (λ (p : Standing). Steps setup (logs_of w) e.replica s.heard t.admitted t.applied p f t.after) (sym before)
    (subst (λ (o : Option Sending). Steps setup (logs_of w) e.replica o t.admitted t.applied t.before f t.after) (sym heard)
    (subst (λ (n : ℕ). Steps setup (logs_of w) n t.heard t.admitted t.applied t.before f t.after) (sym place) t.steps)) in
    let one = steps_one setup (logs_of w) e.replica s.heard s.admitted t.admitted s.applied t.applied s.before e f s.after t.after ask disk s.steps steps in
    (one.0, s.becomes ∙ ap (slice_set w e.replica) one.1 ∙ ap (λ (n : ℕ). slice_set w n t.after) place ∙ sym t.becomes)
