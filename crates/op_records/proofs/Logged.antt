-- The items that are small, and those that the replicas of a run log, have a spelling.
use Rattle.std.proofs.Common.{◌≡◌, ℕ, ◌<◌, ◌≤◌, ◌^◌, length, sym, ap, ◌∙◌, arith}
use Rattle.std.specs.Prelude.{slice_index, Some}
use Rattle.std.proofs.lemmas.Option.{get_or_from_slice_get, slice_get-get_or}
use Rattle.spec_model.specs.declared.plan.Setup.{Setup}
use Rattle.spec_model.specs.declared.log.Body.{Body}
use Rattle.spec_model.specs.declared.log.Body.TheVariants as body
use Rattle.spec_model.specs.declared.log.LogItem.{LogItem}
use Rattle.spec_model.specs.Truths.{op_at}
use Rattle.run_model.specs.Fitting.{BodyFits, ItemFits, SetupFits}
use Rattle.run_model.specs.Logs.{AreLogs, Logs, item_at, log_at}
use Rattle.run_model.specs.Worlds.{logs_of}
use Rattle.run_model.proofs.Accepted.{item_owner}
use Rattle.run_model.proofs.Lists.{each_at, each_weaker}
use Rattle.run_model.proofs.Sound.{keeps_held, run_keeps}
use Rattle.run_model.proofs.Premises.{AreHeld}
use Rattle.message_laws.proofs.Lists.{each_place}
use Rattle.message_laws.proofs.Limits.{AreSmall}
use Rattle.message_laws.proofs.NeedsFit.{needs_fit}
use Rattle.message_laws.proofs.Pieces.{item_fits}
use Rattle.message_laws.proofs.Sent.{all_fit}
use Rattle.op_records.specs.Logged.{FitIsSpelled, IsSmall, LoggedIsSpelled}
use Rattle.op_records.specs.Spelling.{IsBody, IsItem}
use Rattle.op_records.proofs.Rightful.{piece_spelled, right_spelled}
use Rattle.op_records.proofs.Small.{args_small, params_few}

body_spelled : (setup : Setup) (b : Body) → SetupFits setup → setup.replicas ≤ 8 → BodyFits setup b → IsBody setup.replicas b
body_spelled setup (body.Act inst) fits few h =
    let spec = setup.spec in
    let args = args_small spec (op_at spec inst.op).params inst.args fits.spec h.args_fit in
    (omega (arith, h.known, fits.spec.few_ops), record { few = omega (arith, args.0, params_few spec spec.ops inst.op fits.spec.ops); each = args.1 })
body_spelled setup (body.Out to r given) fits few h =
    let of = piece_spelled setup r given fits.spec few h.2 in
    (h.0, right_spelled setup r fits h.1, of.0, of.1)
body_spelled setup (body.Accept from index) fits few h = (h.0, omega (arith, h.1))

-- an item that is small has a spelling
item_spelled : (setup : Setup) (item : LogItem) → SetupFits setup → setup.replicas ≤ 8 → IsSmall setup item → IsItem setup.replicas item
item_spelled setup item fits few h =
    let placed = h.fits.placed in
    record {
      origin = placed.origin;
      index = omega (arith, placed.small);
      past = placed.past;
      small = h.past;
      own = slice_get-get_or item.deps item.origin 0 (omega (arith, placed.origin, placed.past)) ∙ ap (λ n. Some n) h.before;
      body = body_spelled setup item.body fits few h.fits.body;
    }

-- and so has each batch of them
pub fit_spelled : FitIsSpelled
fit_spelled setup items fits few some upto small = record {
  some = some;
  few = upto;
  some_replicas = omega (arith, fits.some);
  few_replicas = few;
  each = each_weaker (IsSmall setup) (IsItem setup.replicas) (λ item h. item_spelled setup item fits few h) items small;
}

-- an item of short logs that fits is small
logged_small : (setup : Setup) (logs : Logs) (i k : ℕ) (item : LogItem) → ((j : ℕ) → length (log_at logs j) ≤ 4194304) → AreLogs logs → item_at logs i k ≡ Some item → ItemFits setup item → IsSmall setup item
logged_small setup logs i k item short are is fits =
    let named = are.named i k item is in
    let past = are.past i k item is in
    record {
      fits = fits;
      past = each_place (λ n. n < 2 ^ 32) item.deps (λ j n at.
          let count : slice_index item.deps j ≡ n = get_or_from_slice_get item.deps j n 0 at in
          omega (arith, count, past.within j, short j));
      before = ap (slice_index item.deps) named.0 ∙ are.before i k item is ∙ sym named.1;
    }

-- so a batch of items that a run logged has a spelling
pub logged_spelled : LoggedIsSpelled
logged_spelled setup ups entries world items fits few all asked runs short some upto there =
    let logs : Logs = logs_of world in
    let held : AreHeld setup logs = keeps_held setup world fits.some (run_keeps setup ups entries world all runs) in
    let small : AreSmall setup logs = record { well = fits.spec; few = omega (arith, few); short = short } in
    let fit = all_fit needs_fit setup ups entries world fits all asked short runs in
    fit_spelled setup items fits few some upto (each_weaker _ (IsSmall setup) (λ item at.
    let o = item_owner world at.0 at.1 item at.2 in
    let names = each_at _ o.0.log at.1 item (fit.1 at.0 o.0 o.1).stands.log o.2 in
    logged_small setup logs at.0 at.1 item short held.named at.2 (item_fits setup logs at.0 at.1 item small held at.2 names)) items there)
