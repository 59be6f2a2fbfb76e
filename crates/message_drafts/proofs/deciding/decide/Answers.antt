use Rattle.std.proofs.Common.{◌≡◌, ℕ, List, length, take, refl, sym, ap, subst, ◌∙◌, arith, length-take}
use Rattle.std.specs.Prelude.{All}
use Rattle.effect_model.proofs.Sizes.{all_at}
use Rattle.spec_model.specs.declared.log.LogItem.{LogItem}
use Rattle.spec_model.specs.declared.right.Want.{Want}
use Rattle.run_model.specs.Fitting.{ItemFits, WantFits}
use Rattle.message_laws.specs.Heeded.{AreFitting}
use Rattle.message_drafts.specs.Drafts.{HasAnswered}
use Rattle.message_drafts.specs.declared.deciding.Decided.{Decided}
use Rattle.message_drafts.proofs.Decisions.{accepted_few, is_decided, may_join}
use Rattle.message_drafts.proofs.Heeding.{ready_fits}
use Rattle.message_drafts.proofs.Looking.{fitting_fit}
use Rattle.message_drafts.proofs.deciding.decide.Goals as goal

pub join_all-requires-clause-fits : goal.join_all-requires-clause-fits
join_all-requires-clause-fits c =
    let setup = c.args.setup.now in
    let items : List LogItem = take 16 c.args.message.now.items in
    λ k d lt. all_at (ItemFits setup) c.args.ready.now k d (ready_fits setup c.args.cut.now c.args.message.now.from items c.args.ready.now c.requires.ready) lt

pub join_all-requires-clause-may : goal.join_all-requires-clause-may
join_all-requires-clause-may c =
    let from = c.args.message.now.from in
    let cut : List ℕ = c.args.cut.now in
    let v = c.requires.sees.0 in
    let sees = c.requires.sees.1 in
    (v, from, may_join c.args.setup.now v c.args.me from cut c.args.table.now (take 16 c.args.message.now.items) c.args.ready.now c.begin-draft.result sees c.requires.addressed.sender c.requires.ready (c.begin-draft.ensures v c.args.me from cut sees))

pub overflow_cast-accepted : goal.overflow_cast-accepted
overflow_cast-accepted c =
    let setup = c.args.setup.now in
    let from = c.args.message.now.from in
    let cut : List ℕ = c.args.cut.now in
    let v = c.requires.sees.0 in
    let sees = c.requires.sees.1 in
    let may = may_join setup v c.args.me from cut c.args.table.now (take 16 c.args.message.now.items) c.args.ready.now c.begin-draft.result sees c.requires.addressed.sender c.requires.ready (c.begin-draft.ensures v c.args.me from cut sees) in
    let joined = c.in_ok-applied.ensures.joined v from may in
    let few = accepted_few setup v from c.in_ok-applied.field-0 c.args.ready.now c.join_all.new.self joined.accepted in
    omega (arith, few, c.requires.few, c.len-accepted.ensures.value)

pub answer_all-requires-clause-fits : goal.answer_all-requires-clause-fits
answer_all-requires-clause-fits c =
    let setup = c.args.setup.now in
    let wants : List Want = c.in_ok-wants.wants in
    let fit = fitting_fit setup c.first_of.result.now wants c.in_ok-wants.ensures in
    subst (All (WantFits setup)) (sym c.as_slice-2.ensures.value) (λ k w lt. all_at (WantFits setup) wants k w fit.0 lt)

pub answer_all-requires-clause-draft : goal.answer_all-requires-clause-draft
answer_all-requires-clause-draft c =
    let setup = c.args.setup.now in
    let from = c.args.message.now.from in
    let cut : List ℕ = c.args.cut.now in
    let v = c.requires.sees.0 in
    let sees = c.requires.sees.1 in
    let may = may_join setup v c.args.me from cut c.args.table.now (take 16 c.args.message.now.items) c.args.ready.now c.begin-draft.result sees c.requires.addressed.sender c.requires.ready (c.begin-draft.ensures v c.args.me from cut sees) in
    let joined = c.in_ok-applied.ensures.joined v from may in
    (v, from, take c.in_ok-applied.field-0 c.args.ready.now, joined.accepted.draft)

pub returns-clause-few : goal.returns-clause-few
returns-clause-few c =
    let setup = c.args.setup.now in
    let from = c.args.message.now.from in
    let cut : List ℕ = c.args.cut.now in
    let v = c.requires.sees.0 in
    let sees = c.requires.sees.1 in
    let may = may_join setup v c.args.me from cut c.args.table.now (take 16 c.args.message.now.items) c.args.ready.now c.begin-draft.result sees c.requires.addressed.sender c.requires.ready (c.begin-draft.ensures v c.args.me from cut sees) in
    let joined = c.in_ok-applied.ensures.joined v from may in
    let few = accepted_few setup v from c.in_ok-applied.field-0 c.args.ready.now c.join_all.new.self joined.accepted in
    let answers = c.in_ok-answer_all.ensures v from (take c.in_ok-applied.field-0 c.args.ready.now) joined.accepted.draft in
    let wants : List Want = c.in_ok-wants.wants in
    let fit = fitting_fit setup c.first_of.result.now wants c.in_ok-wants.ensures in
    let least = answers.few in
    omega (arith, few, c.requires.few, least, fit.1, ap length c.as_slice-2.ensures.value, ap length c.first_of.ensures, length-take 8 c.as_slice.result.now)

pub returns-clause-part : goal.returns-clause-part
returns-clause-part c =
    let setup = c.args.setup.now in
    let from = c.args.message.now.from in
    let cut : List ℕ = c.args.cut.now in
    let v = c.requires.sees.0 in
    let sees = c.requires.sees.1 in
    let may = may_join setup v c.args.me from cut c.args.table.now (take 16 c.args.message.now.items) c.args.ready.now c.begin-draft.result sees c.requires.addressed.sender c.requires.ready (c.begin-draft.ensures v c.args.me from cut sees) in
    let joined = c.in_ok-applied.ensures.joined v from may in
    let answers = c.in_ok-answer_all.ensures v from (take c.in_ok-applied.field-0 c.args.ready.now) joined.accepted.draft in
    let least = answers.least in
    omega (arith, least, c.len-accepted.ensures.value)

pub returns-clause-decided : goal.returns-clause-decided
returns-clause-decided c =
    let setup = c.args.setup.now in
    let message = c.args.message.now in
    let from = message.from in
    let cut : List ℕ = c.args.cut.now in
    let ready : List LogItem = c.args.ready.now in
    let wants : List Want = c.in_ok-wants.wants in
    let mid = c.join_all.new.self in
    let last = c.answer_all.new.self in
    let d : Decided = record { applied = c.in_ok-applied.field-0; accepted = c.len-accepted.result; bodies = last.bodies } in
    let eight : c.first_of.result.now ≡ take 8 message.wants = c.first_of.ensures ∙ ap (take 8) c.as_slice.ensures.value in
    λ v sees.
    let may = may_join setup v c.args.me from cut c.args.table.now (take 16 message.items) ready c.begin-draft.result sees c.requires.addressed.sender c.requires.ready (c.begin-draft.ensures v c.args.me from cut sees) in
    let joined = c.in_ok-applied.ensures.joined v from may in
    let answers = c.in_ok-answer_all.ensures v from (take c.in_ok-applied.field-0 ready) joined.accepted.draft in
    is_decided setup v message ready wants mid last d joined (subst (λ (l : List Want). AreFitting setup l wants) eight c.in_ok-wants.ensures)
    (subst (λ (l : List Want). HasAnswered setup v from (take c.in_ok-applied.field-0 ready) from l mid last) c.as_slice-2.ensures.value answers) c.len-accepted.ensures.value refl
