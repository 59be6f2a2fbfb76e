-- In a run a replica heeds whole what was sent to it.
use Rattle.std.proofs.Common.{◌≡◌, ℕ, ◌+◌, List, ◌++◌, length, take, sym, ap, subst, ◌∙◌, arith}
use Rattle.std.specs.Prelude.{slice_get, Some}
use Rattle.std.specs.List.{AllByRecursion}
use Rattle.std.proofs.lemmas.Option.{slice_get_within}
use Rattle.std.proofs.lemmas.List.{length-map}
use Rattle.spec_model.specs.declared.plan.Setup.{Setup}
use Rattle.spec_model.specs.declared.log.LogItem.{LogItem}
use Rattle.run_model.specs.Fitting.{AreInRow, ItemFits, MessageFits}
use Rattle.run_model.specs.Locals.{Local, StandsIn}
use Rattle.run_model.specs.Logs.{Logs, item_at, log_at}
use Rattle.run_model.specs.Steps.{links_of}
use Rattle.run_model.specs.Worlds.{Standing, World, logs_of}
use Rattle.run_model.proofs.Answers.{IsPart, IsSentTo}
use Rattle.run_model.proofs.Changed.{IsKept}
use Rattle.run_model.proofs.Kept.{heard_from}
use Rattle.run_model.proofs.Lists.{each_at, get_behind, get_front}
use Rattle.run_model.proofs.Own.{own_at}
use Rattle.run_model.proofs.Premises.{AreHeld}
use Rattle.run_model.proofs.Sound.{Keeps, keeps_held, run_keeps}
use Rattle.run_model.proofs.WorldLogs.{logs_there}
use Rattle.message_laws.specs.Heeded.{CanAccept}
use Rattle.message_laws.specs.Laws.{MessagesAreHeeded, NeedsFit}
use Rattle.message_laws.specs.Views.{view_in}
use Rattle.message_laws.proofs.Answered.{IsSentWell}
use Rattle.message_laws.proofs.Bearing.{accepts_part}
use Rattle.message_laws.proofs.Given.{IsHere}
use Rattle.message_laws.proofs.Heeding.{heeded_whole, heeds_itself}
use Rattle.message_laws.proofs.Lists.{each_place}
use Rattle.message_laws.proofs.Onway.{IsSender}
use Rattle.message_laws.proofs.Pieces.{item_fits}
use Rattle.message_laws.proofs.Limits.{AreSmall}
use Rattle.message_laws.proofs.Sent.{AreFit, all_fit, hears_named, sent_well}

-- a replica that stands in the world of a run
is_here : (setup : Setup) (world : World) (me : ℕ) (l : Local) → AreSmall setup (logs_of world) → AreHeld setup (logs_of world) → Keeps setup world → StandsIn world me l → IsHere setup (logs_of world) me l.standing l.known
is_here setup world me l small held keeps stands =
    let p : Standing = l.standing in
    let logs : Logs = logs_of world in
    let well = keeps.kept.each me p stands.is in
    let own = logs_there world me p stands.is in
    record {
      small = small;
      held = held;
      stands = well.stands;
      seen = record { are = held.named; own = held.own; consistent = keeps.cuts.cuts me p stands.is; mine = well.stands.whole ∙ sym (ap length own) };
      own = own;
      among = omega (arith, length-map world (λ (q : Standing). q.log), slice_get_within world me p stands.is);
      knows = stands.knows;
      long = stands.long;
    }

-- an item of a part stands behind its front
part_at : (log items : List LogItem) → (is : IsPart log items) → (k : ℕ) (x : LogItem) → slice_get items k ≡ Some x → slice_get log (length is.front + k) ≡ Some x
part_at log items is k x there = ap (λ (l : List LogItem). slice_get l (length is.front + k)) is.is ∙ get_behind is.front (items ++ is.behind) k ∙ get_front items is.behind k x there

-- a part of a log of such a world fits
part_fits : (setup : Setup) (world : World) (from : ℕ) (q : Standing) (items : List LogItem) → AreSmall setup (logs_of world) → AreHeld setup (logs_of world) → AreFit setup world → slice_get world from ≡ Some q → IsPart q.log items
    → AllByRecursion (ItemFits setup) items
part_fits setup world from q items small held fit at is = each_place (ItemFits setup) items (λ k x there.
    let place : ℕ = length is.front + k in
    let here : slice_get q.log place ≡ Some x = part_at q.log items is k x there in
    let among : item_at (logs_of world) from place ≡ Some x = ap (λ (l : List LogItem). slice_get l place) (logs_there world from q at) ∙ here in
    item_fits setup (logs_of world) from place x small held among (each_at _ q.log place x (fit from q at).stands.log here))

-- a message is heeded whole, where what is needed fits
pub messages_heeded : NeedsFit → MessagesAreHeeded
messages_heeded need setup ups entries world me l from number sent message settled few all asked runs stands short hears is =
    let logs : Logs = logs_of world in
    let p : Standing = l.standing in
    let keeps = run_keeps setup ups entries world all runs in
    let kept : IsKept setup.replicas world = keeps.kept in
    let held : AreHeld setup logs = keeps_held setup world settled.fits.some keeps in
    let small : AreSmall setup logs = record { well = settled.fits.spec; few = few; short = short } in
    let fit = all_fit need setup ups entries world settled.fits all asked short runs in
    let named = hears_named (links_of world) me from number p.running sent hears in
    let well : IsSentWell setup me message = sent_well setup world me from number sent message kept fit.1 named is in
    let f = heard_from setup.replicas world from number me sent kept named in
    let q : Standing = f.0 in
    let what : IsSentTo from q.log sent.to (Some message) = subst (λ m. IsSentTo from q.log sent.to m) is f.2 in
    let log : log_at logs from ≡ q.log = logs_there world from q f.1 in
    let part : IsPart (log_at logs from) message.items = subst (λ (items : List LogItem). IsPart items message.items) (sym log) what.1 in
    let here = is_here setup world me l small held keeps stands in
    let sender : IsSender logs me from p.cut = record {
      other = λ same. what.0 (f.3 ∙ same);
      place = omega (arith, slice_get_within world from q f.1, kept.whole, (kept.each me p stands.is).wide);
      fits = (kept.each me p stands.is).within from;
      row = subst (λ (items : List LogItem). AreInRow from 0 items) (sym log) (kept.each from q f.1).stands.own;
    } in
    let items = part_fits setup world from q message.items small held fit.1 f.1 what.1 in
    let fits : MessageFits setup me message = record {
      sender = well.sender;
      other = well.other;
      receiver = well.receiver;
      cut = well.cut;
      items = items;
      first = well.first;
      row = well.row;
      few_items = well.few_items;
      wants = well.wants;
      few_wants = well.few_wants;
    } in
    let can = λ (k : ℕ) (item : LogItem) (at : slice_get message.items k ≡ Some item).
    let named = held.named.named from (length part.front + k) item (part_at (log_at logs from) message.items part k item at) in
    let sender_is : from ≡ message.from = sym named.0 ∙ (own_at message.from well.first message.items k item well.row at).0 in
    subst (λ i. CanAccept setup (view_in me l) i (take k message.items) item) sender_is (accepts_part setup logs me from p l.known message.items here sender part items k item at) in
    (heeds_itself setup (view_in me l) message fits can, λ heeded heeds. heeded_whole setup (view_in me l) message heeded fits can heeds)
