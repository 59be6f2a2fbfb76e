use Rattle.std.proofs.Common.{filter, ℕ, ◌<◌, ◌≡◌, Bool, sym, ap, subst, ◌∙◌}
use Rattle.std.specs.Option.{option_to_list}
use Rattle.spec_model.specs.Universe.{below}
use Rattle.run_model.specs.Points.{points_all, runs_of, starts_with}
use Rattle.partition_locks.specs.Held.{holds}
use Rattle.rights_table.proofs.Shows.{none_shown, one_runs, runs_shown, same_points}
use Rattle.rights_table.proofs.Touched.{clash}
use Rattle.rights_table.proofs.showing.show_points.Goals as goal

pub returns-then-are_run : goal.returns-then-are_run
returns-then-are_run c =
    let setup = c.args.setup.now in
    let n : ℕ = points_all setup c.args.part in
    let P : ℕ → Bool = holds c.args.points.now in
    let Q : ℕ → Bool = starts_with n setup.replicas c.args.me in
    let same : c.in_ok-runs.runs ≡ option_to_list c.first_run.result = sym c.as_slice.ensures.value ∙ c.are_run.ensures.0 c.if-are_run.true in
    none_shown c.args.right.now (filter Q (below n)) (filter P (below n))
    (same_points n P Q c.in_ok-runs.runs c.first_run.result (λ x lt. c.in_ok-runs.ensures.points x (subst (λ k. x < k) (sym c.points_all.ensures) lt)) c.first_run.ensures.points same)

pub returns : goal.returns
returns c =
    let setup = c.args.setup.now in
    let n : ℕ = points_all setup c.args.part in
    let P : ℕ → Bool = holds c.args.points.now in
    let Q : ℕ → Bool = starts_with n setup.replicas c.args.me in
    let is : c.in_ok-runs.runs ≡ runs_of (filter P (below n)) = c.in_ok-runs.ensures.runs ∙ ap (λ k. runs_of (filter P (below k))) c.points_all.ensures in
    runs_shown c.args.right.now (filter Q (below n)) (filter P (below n)) c.in_ok-runs.runs
    (λ same.
    let one : c.in_ok-runs.runs ≡ option_to_list c.first_run.result = is ∙ ap runs_of same ∙ sym (one_runs n c.first_run.result Q c.first_run.ensures.some c.first_run.ensures.within c.first_run.ensures.points) in
    clash c.are_run.result (c.are_run.ensures.1 (c.as_slice.ensures.value ∙ one)) c.if-are_run.false)
    is
