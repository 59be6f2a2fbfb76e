use Rattle.std.proofs.Common.{ℕ, IfOk, rules, [], ◌≡◌, length, sym, ◌∙◌, ap, subst, arith, slice_get, Some, All}
use Rattle.turn_desk.specs.Passes.{opening_of}
use Rattle.desk_workers.specs.Places.{Each, HasRoom, FreshAt, FitsAt, IsThere, busy, asks_to, lists_to, tasks_of}
use Rattle.desk_workers.specs.Standing.{Stands}
use Rattle.desk_workers.specs.Interleaving.{Interleaves, asks_of}
use Rattle.desk_workers.specs.Workers.{asks_at, lists_at}
use Rattle.desk_workers.proofs.Eachs.{there_is, written_back}
use Rattle.desk_workers.proofs.Serving.{after_run, fits_at, ended, if_both, if_ok, stands_first, whole_again}
use Rattle.desk_workers.proofs.Tasks.{busy_asks}
use Rattle.std.proofs.lemmas.Option.{slice_get_within, slice_get-get_or}
use Rattle.desk_workers.proofs.serve.serve_all.Given.{Over}
use Rattle.desk_workers.proofs.serve.serve_all.Goals.{After-close_all}
use Rattle.desk_workers.proofs.serve.serve_all.Goals as goal

pub open_all-requires-clause-room : goal.open_all-requires-clause-room
open_all-requires-clause-room g c = subst (λ ws. HasRoom g.V.Turn.room g.V.Turn.opening ws c.args.values) (sym c.as_slice.ensures.value) c.requires.room

pub assign-requires-clause-fit : goal.assign-requires-clause-fit
assign-requires-clause-fit g c =
    let made = c.in_ok-desks.ensures in
    subst (λ ds. All (λ w. FitsAt g.V.Turn.fits g.V.Turn.opening ds w.desk w.asks) c.args.workers) (sym c.as_slice-2.ensures.value)
    (fits_at g.V.Turn.fits g.V.Turn.opening c.args.values c.in_ok-desks.desks.items c.args.workers made.len.0 made.opened c.requires.fit)

pub assign-requires-clause-few : goal.assign-requires-clause-few
assign-requires-clause-few g c = λ at within.
    let value = there_is c.args.values at (omega (arith, within, ap length c.as_slice-2.ensures.value, c.in_ok-desks.ensures.len)) in
    (c.requires.room at value.0 value.1).2

pub assign-requires-clause-fresh : goal.assign-requires-clause-fresh
assign-requires-clause-fresh g c = λ at x y x_is y_is.
    let fresh = subst (λ ws. Each (λ at desk slot. FreshAt (asks_at at ws) 0 desk slot) c.in_ok-desks.desks.items c.in_ok-desks.slots.items) c.as_slice.ensures.value c.in_ok-desks.ensures.fresh in
    fresh at x y (subst (λ l. slice_get l at ≡ Some x) c.as_slice-2.ensures.value x_is) (subst (λ l. slice_get l at ≡ Some y) c.as_mut_slice.ensures.value y_is)

pub gather-requires-clause-back : goal.gather-requires-clause-back
gather-requires-clause-back g c =
    let same = c.as_slice-2.ensures.value ∙ sym c.as_slice-4.ensures.value in
    let placed = subst (λ ds. All (λ job. slice_get ds job.place ≡ Some job.desk.now) c.in_ok-jobs.jobs) same c.in_ok-jobs.ensures.places in
    (after_run g.V.Turn.is_answer g.V.Turn.opening c.as_slice-4.result.now (λ job. job.place) (λ job. job.asks) (λ job. job.desk.now) c.in_ok-jobs.jobs c.in_ok-back.back c.in_ok-back.ensures.len c.in_ok-back.ensures.each placed).0

pub gather-requires-clause-stand : goal.gather-requires-clause-stand
gather-requires-clause-stand g c = λ at x y x_is y_is.
    let is_answer = g.V.Turn.is_answer in let opening = g.V.Turn.opening in
    let same = c.as_slice-2.ensures.value ∙ sym c.as_slice-4.ensures.value in
    let placed = subst (λ ds. All (λ job. slice_get ds job.place ≡ Some job.desk.now) c.in_ok-jobs.jobs) same c.in_ok-jobs.ensures.places in
    let after = after_run is_answer opening c.as_slice-4.result.now (λ job. job.place) (λ job. job.asks) (λ job. job.desk.now) c.in_ok-jobs.jobs c.in_ok-back.back c.in_ok-back.ensures.len c.in_ok-back.ensures.each placed in
    let there : All IsThere c.in_ok-back.back = subst (λ l. All IsThere l) c.as_slice-3.ensures.value (c.are_there.ensures (search rules)) in
    let tasks : tasks_of c.in_ok-back.back ≡ busy c.args.workers = after.1 there ∙ c.in_ok-jobs.ensures.tasks in
    let slots = written_back c.assign.new.slots c.in_ok-desks.slots.items c.in_ok-desks.slots.len (search rules) (c.in_ok-jobs.ensures.len ∙ ap length c.as_mut_slice.ensures.value) in
    let desk_is = subst (λ l. slice_get l at ≡ Some x) (sym same) x_is in
    let slot_is = subst (λ l. slice_get l at ≡ Some y) (c.as_mut_slice-2.ensures.value ∙ slots) y_is in
    let stands = stands_first is_answer opening x y (asks_at at c.args.workers) (asks_at at c.args.workers) (c.in_ok-jobs.ensures.given at x y desk_is slot_is) in
    subst (λ ts. Stands is_answer opening x (asks_to at ts) [] y.pass) (sym tasks) (subst (λ n. Stands is_answer opening x n [] y.pass) (sym (busy_asks at c.args.workers)) stands)

pub close_all-requires-clause-whole : goal.close_all-requires-clause-whole
close_all-requires-clause-whole g c = λ at x y x_is y_is.
    let is_answer = g.V.Turn.is_answer in let opening = g.V.Turn.opening in
    let given_len = c.in_ok-jobs.ensures.len ∙ ap length c.as_mut_slice.ensures.value in
    let mid = written_back c.assign.new.slots c.in_ok-desks.slots.items c.in_ok-desks.slots.len (search rules) given_len in
    let now_is = c.as_mut_slice-2.ensures.value in
    let back_len = c.in_ok-gather.ensures.len ∙ ap length now_is in
    let last = written_back c.gather.new.slots _ c.in_ok-desks.slots.len (sym (ap length mid ∙ given_len ∙ sym (search rules))) back_len in
    let stands = c.in_ok-gather.ensures.stand at x y (subst (λ l. slice_get l at ≡ Some x) (sym c.as_slice-4.ensures.value) x_is) (subst (λ l. slice_get l at ≡ Some y) last y_is) in
    let in_desks = slice_get_within c.in_ok-desks.desks.items at x x_is in
    let slot = there_is c.assign.new.slots at (omega (arith, in_desks, given_len, c.in_ok-desks.ensures.len)) in
    let given = c.in_ok-jobs.ensures.given at x slot.0 (subst (λ l. slice_get l at ≡ Some x) (sym c.as_slice-2.ensures.value) x_is) slot.1 in
    whole_again is_answer opening x _ y.pass given.3 stands

-- what comes back of each value
each_end : (g : Over) (c : After-close_all g)
    → IfOk c.close_all.result (λ after. (at : ℕ) (value : _) → slice_get after at ≡ Some value
    → (desk : _) × (slice_get c.in_ok-desks.desks.items at ≡ Some desk) × (g.V.Turn.opening value ≡ opening_of g.V.Turn.opening desk)
    × Interleaves (lists_at at c.args.workers) (asks_of (g.V.Turn.history value)) × All (λ turn. g.V.Turn.is_answer (g.V.Turn.opening value) turn.1) (g.V.Turn.history value))
each_end g c =
    let is_answer = g.V.Turn.is_answer in let opening = g.V.Turn.opening in
    let same = c.as_slice-2.ensures.value ∙ sym c.as_slice-4.ensures.value in
    let placed = subst (λ ds. All (λ job. slice_get ds job.place ≡ Some job.desk.now) c.in_ok-jobs.jobs) same c.in_ok-jobs.ensures.places in
    let run = after_run is_answer opening c.as_slice-4.result.now (λ job. job.place) (λ job. job.asks) (λ job. job.desk.now) c.in_ok-jobs.jobs c.in_ok-back.back c.in_ok-back.ensures.len c.in_ok-back.ensures.each placed in
    let tasks : tasks_of c.in_ok-back.back ≡ busy c.args.workers = run.1 c.in_ok-gather.ensures.there ∙ c.in_ok-jobs.ensures.tasks in
    let given_len = c.in_ok-jobs.ensures.len ∙ ap length c.as_mut_slice.ensures.value in
    let mid = written_back c.assign.new.slots c.in_ok-desks.slots.items c.in_ok-desks.slots.len (search rules) given_len in
    let back_len = c.in_ok-gather.ensures.len ∙ ap length c.as_mut_slice-2.ensures.value in
    let last = written_back c.gather.new.slots _ c.in_ok-desks.slots.len (sym (ap length mid ∙ given_len ∙ sym (search rules))) back_len in
    let stand = subst (λ ds. Each (λ at desk slot. Stands is_answer opening desk 0 (lists_to at (tasks_of c.in_ok-back.back)) slot.pass) ds c.gather.new.slots) c.as_slice-4.ensures.value c.in_ok-gather.ensures.stand in
    let stand' = subst (λ l. Each (λ at desk slot. Stands is_answer opening desk 0 (lists_to at (tasks_of c.in_ok-back.back)) slot.pass) c.in_ok-desks.desks.items l) (sym last) stand in
    let lens = ap length last ∙ (back_len ∙ (ap length mid ∙ (given_len ∙ (c.in_ok-desks.ensures.len.1 ∙ sym c.in_ok-desks.ensures.len.0)))) in
    if_both c.close_all.result c.close_all.ensures.len c.close_all.ensures.values
    (λ after len values.
    let end = ended is_answer g.V.Turn.history opening c.args.workers (tasks_of c.in_ok-back.back) c.in_ok-desks.desks.items _ after tasks len lens stand' (close_all-requires-clause-whole g c.before) values in
    end)

pub returns-clause-order : goal.returns-clause-order
returns-clause-order g c =
    if_ok c.close_all.result (each_end g (goal.at.returns-clause-order g c).After-close_all) (λ after end at value value_is. (end at value value_is).3)

pub returns-clause-opening : goal.returns-clause-opening
returns-clause-opening g c =
    if_ok c.close_all.result (each_end g (goal.at.returns-clause-opening g c).After-close_all)
    (λ after end at before value before_is value_is. let e = end at value value_is in e.2 ∙ c.in_ok-desks.ensures.opened at before e.0 before_is e.1)

pub returns-clause-answers : goal.returns-clause-answers
returns-clause-answers g c =
    if_ok c.close_all.result (each_end g (goal.at.returns-clause-answers g c).After-close_all) (λ after end k d within. (end k _ (slice_get-get_or after k d within)).4)
