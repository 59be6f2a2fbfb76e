-- What a replica logs, wants and sends fits, answer by answer, but for the size of pieces.
use Rattle.std.proofs.Common.{◌≡◌, ◌≢◌, ℕ, ◌+◌, ◌<◌, ◌≤◌, ◌^◌, true, List, [], ◌∷◌, length, take, drop, refl, sym, ap, subst, ◌∙◌, arith, length-append, length-take}
use Rattle.std.specs.Prelude.{slice_index, slice_index_or, slice_set, not, nat_lt, Some, None, Option}
use Rattle.std.specs.List.{AllByRecursion}
use Rattle.std.proofs.lemmas.List.{length-map, take-append-drop}
use Rattle.std.proofs.lemmas.Option.{same_Some}
use Rattle.spec_model.specs.declared.plan.Setup.{Setup}
use Rattle.spec_model.specs.declared.clause.Broken.{Broken}
use Rattle.spec_model.specs.declared.instance.Inst.{Inst}
use Rattle.spec_model.specs.declared.right.Lacking.{Lacking}
use Rattle.spec_model.specs.declared.right.Want.{Want}
use Rattle.spec_model.specs.declared.log.Body.{Body}
use Rattle.spec_model.specs.declared.log.Body.TheVariants as body
use Rattle.spec_model.specs.declared.log.LogItem.{LogItem}
use Rattle.spec_model.specs.Fits.{InstFits}
use Rattle.spec_model.specs.Needs.{needs}
use Rattle.run_model.specs.declared.message.Message.{Message}
use Rattle.run_model.specs.declared.step.Outcome.{Outcome}
use Rattle.run_model.specs.Fitting.{AreInRow, IsPlaced, NeedFits, SetupFits, WantFits}
use Rattle.run_model.specs.Logs.{Logs, cut_after}
use Rattle.run_model.specs.Levels.{first_lacking}
use Rattle.run_model.specs.Steps.{AreAdmitted, Requested, Sends, Takes, accepts_of, answered, dropped, message_of}
use Rattle.run_model.specs.Wants.{want_less, want_of}
use Rattle.run_model.specs.Worlds.{Sending, Standing, holding, joined, logged_all, truths_seen}
use Rattle.run_model.proofs.Lists.{each_append, each_filter, each_take, each_weaker}
use Rattle.run_model.proofs.Own.{own_drop, own_front}
use Rattle.message_laws.specs.Laws.{NeedsFit}
use Rattle.message_laws.proofs.Lists.{each_dropped, each_parts, filter_short}
use Rattle.message_laws.proofs.Logged.{ItemNames, LogNames, accepts_few, accepts_name, all_logged_names, answered_gives, gives_few, gives_for, gives_name, logged_keeps, logged_length, logged_names}
use Rattle.message_laws.proofs.Wanted.{lacking_fits, noted_few, noted_fit, still_few, still_fit, want_fits, wants_less_fit}

-- ---- what is kept

-- a message that fits replica me, but for what its items do
pub record IsSentWell (setup : Setup) (me : ℕ) (message : Message) : Type 0 where
  pub sender : message.from < setup.replicas
  pub other : message.from ≢ me
  pub receiver : message.to ≡ me
  pub cut : length message.cut ≡ setup.replicas
  pub placed : AllByRecursion (IsPlaced setup.replicas) message.items
  pub first : ℕ
  pub row : AreInRow message.from first message.items
  pub few_items : length message.items ≤ 16
  pub wants : AllByRecursion (WantFits setup) message.wants
  pub few_wants : length message.wants ≤ 8

-- what a step sent fits so the replica that it was sent to
abbrev pub SendingFits : Setup → Sending → Type 0
SendingFits setup s = (message : Message) → s.message ≡ Some message → IsSentWell setup s.to message

-- what a replica logged, wants and sent fits so
pub record StandsFit (setup : Setup) (p : Standing) : Type 0 where
  pub log : AllByRecursion (ItemNames setup) p.log
  pub wants : AllByRecursion (WantFits setup) p.wants
  pub few : length p.wants ≤ 8
  pub sent : AllByRecursion (SendingFits setup) p.sendings

-- ---- requests

-- the want that a request leaves fits
short_fits : NeedsFit → (setup : Setup) (logs : Logs) (me : ℕ) (inst : Inst) (p : Standing) (l : Lacking) → SetupFits setup → InstFits setup.spec inst → first_lacking setup.replicas (holding setup logs me p) (needs setup (truths_seen setup logs p) inst) ≡ Some l → WantFits setup (want_of l.need)
short_fits need setup logs me inst p l fits known is =
    want_fits setup l.need (lacking_fits (NeedFits setup) setup.replicas (holding setup logs me p) (needs setup (truths_seen setup logs p) inst) l (need setup (truths_seen setup logs p) inst fits known) is)

-- after a request
pub requested_fits : NeedsFit → (setup : Setup) (logs : Logs) (me : ℕ) (inst : Inst) (broken : Option Broken) (lacking : Option Lacking) (old : Standing) (outcome : Outcome) (new : Standing) → SetupFits setup → InstFits setup.spec inst
    → LogNames setup me old → StandsFit setup old → length old.log + 1 < 2 ^ 32 → first_lacking setup.replicas (holding setup logs me old) (needs setup (truths_seen setup logs old) inst) ≡ lacking → Requested me inst broken lacking old outcome new → StandsFit setup new
requested_fits need setup logs me inst (Some broken) lacking old outcome new well fits own h room is done = subst (StandsFit setup) (sym done.1) h
requested_fits need setup logs me inst None None old outcome new well fits own h room is done =
    subst (StandsFit setup) (sym done.1) (record { log = (logged_names setup me (body.Act inst) old fits room own).log; wants = h.wants; few = h.few; sent = h.sent })
requested_fits need setup logs me inst None (Some l) old outcome new well fits own h room is done =
    let want : Want = want_of l.need in
    subst (StandsFit setup) (sym done.1) (record {
      log = h.log;
      wants = noted_fit (WantFits setup) old.wants want h.wants (short_fits need setup logs me inst old l well fits is);
      few = noted_few old.wants want h.few;
      sent = h.sent;
    })

-- ---- sends

-- the message to another
message_fits : (setup : Setup) (logs : Logs) (me to number stamp : ℕ) (p : Standing) → LogNames setup me p → AreInRow me 0 p.log → StandsFit setup p → to ≢ me → IsSentWell setup to (message_of setup logs me to number stamp p)
message_fits setup logs me to number stamp p own row h other =
    let seen : ℕ = slice_index (slice_index_or p.told to []) me in
    let rest : List LogItem = drop seen p.log in
    record {
      sender = own.place;
      other = λ same. other (sym same);
      receiver = refl;
      cut = own.wide;
      placed = each_take (IsPlaced setup.replicas) 16 rest (each_dropped (IsPlaced setup.replicas) seen p.log (each_weaker (ItemNames setup) (IsPlaced setup.replicas) (λ x names. names.placed) p.log h.log));
      first = seen;
      row = own_front me seen (take 16 rest) (drop 16 rest) (subst (AreInRow me seen) (sym (take-append-drop 16 rest)) (own_drop me 0 seen p.log seen (omega arith) row));
      few_items = omega (arith, length-take 16 rest);
      wants = wants_less_fit setup (holding setup logs me p) p.wants h.wants;
      few_wants = omega (arith, length-map p.wants (want_less (holding setup logs me p)), h.few);
    }

-- after a send
pub sends_fit : (setup : Setup) (logs : Logs) (me to number stamp : ℕ) (old : Standing) (outcome : Outcome) (new : Standing) → LogNames setup me old → AreInRow me 0 old.log → StandsFit setup old → Sends setup logs me to number stamp old outcome new → StandsFit setup new
sends_fit setup logs me to number stamp old outcome new own row h sends =
    let message : Message = message_of setup logs me to number stamp old in
    let sent : Sending = record { to = to; stamp = stamp; message = Some message } in
    let fits : SendingFits setup sent = λ other is. subst (IsSentWell setup to) (same_Some message other is) (message_fits setup logs me to number stamp old own row h sends.other) in
    subst (StandsFit setup) (sym sends.becomes) (record { log = h.log; wants = h.wants; few = h.few; sent = each_append (SendingFits setup) old.sendings (sent ∷ []) h.sent (fits, tt) })

-- ---- takes

-- what is applied of a message is placed as that is
applied_placed : (P : LogItem → Type 0) (cut : List ℕ) (items applied : List LogItem) → AreAdmitted cut items applied → AllByRecursion P items → AllByRecursion P applied
applied_placed P cut items applied h fit =
    let test = λ (item : LogItem). not (nat_lt item.index (slice_index cut item.origin)) in
    let new = each_weaker (λ (item : LogItem). P item × (test item ≡ true)) P (λ item both. both.0) _ (each_filter P test items fit) in
    (each_parts P applied h.rest (subst (AllByRecursion P) h.prefix new)).0

-- and is no more than there is
applied_few : (cut : List ℕ) (items applied : List LogItem) → AreAdmitted cut items applied → length applied ≤ length items
applied_few cut items applied h =
    let new = filter_short (λ (item : LogItem). not (nat_lt item.index (slice_index cut item.origin))) items in
    omega (arith, new, ap length h.prefix, length-append applied h.rest)

-- after a take
pub takes_fit : (setup : Setup) (logs : Logs) (me to : ℕ) (message : Message) (applied : List LogItem) (old : Standing) (outcome : Outcome) (new : Standing) → LogNames setup me old → length (cut_after old.cut applied) ≡ length old.cut
    → IsSentWell setup to message → StandsFit setup old → length old.log + 24 < 2 ^ 32 → Takes setup logs me message applied old outcome new → StandsFit setup new
takes_fit setup logs me to message applied old outcome new own long fits h room takes =
    let start : Standing = record old { told = slice_set old.told message.from (joined (slice_index_or old.told message.from []) message.cut); cut = cut_after old.cut applied } in
    let accepts : List Body = accepts_of me applied in
    let first : Standing = logged_all me accepts start in
    let middle : Standing = dropped setup logs me first in
    let gives : List Body = gives_for setup logs me message.from message.wants middle in
    let last : Standing = logged_all me gives middle in
    let is : new ≡ last = takes.becomes ∙ ap (answered setup logs me message.from message.wants) takes.before_is ∙ answered_gives setup logs me message.from message.wants middle in
    let first_few : length accepts ≤ 16 = omega (arith, accepts_few me applied, applied_few old.cut message.items applied takes.admitted, fits.few_items) in
    let last_few : length gives ≤ 8 = omega (arith, gives_few setup logs me message.from message.wants middle, fits.few_wants) in
    let placed = applied_placed (IsPlaced setup.replicas) old.cut message.items applied takes.admitted fits.placed in
    let one : LogNames setup me first = all_logged_names setup me accepts start (accepts_name setup me applied placed) (omega (arith, room, first_few)) (record { place = own.place; wide = long ∙ own.wide; log = own.log }) in
    let two : LogNames setup me last = all_logged_names setup me gives middle (gives_name setup logs me message.from message.wants middle fits.sender fits.wants) (omega (arith, room, first_few, last_few, logged_length me accepts start))
    (record { place = one.place; wide = one.wide; log = one.log }) in
    let before = logged_keeps me accepts start in
    let after = logged_keeps me gives middle in
    let holds = holding setup logs me first in
    let wants : last.wants ≡ middle.wants = after.0 in
    subst (StandsFit setup) (sym is) (record {
      log = two.log;
      wants = subst (AllByRecursion (WantFits setup)) (sym wants) (still_fit setup setup.replicas holds first.wants (subst (AllByRecursion (WantFits setup)) (sym before.0) h.wants));
      few = omega (arith, ap length wants, still_few setup.replicas holds first.wants, ap length before.0, h.few);
      sent = subst (AllByRecursion (SendingFits setup)) (sym (after.2 ∙ before.2)) h.sent;
    })
