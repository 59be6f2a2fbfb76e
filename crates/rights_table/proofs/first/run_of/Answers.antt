use Rattle.std.proofs.Common.{◌≡◌, ◌+◌, ◌-◌, ◌*◌, ◌/◌, ℕ, sym, ap, ◌∙◌, arith}
use Rattle.std.specs.Prelude.{nat_le, nat_lt, ◌&&◌}
use Rattle.run_model.specs.Points.{run_start}
use Rattle.run_model.specs.Rights.{even_share}
use Rattle.rights_table.proofs.Started.{run_has, start_is}
use Rattle.rights_table.proofs.first.run_of.Goals as goal

pub returns-else-count-eq0-clause-points : goal.returns-else-count-eq0-clause-points
returns-else-count-eq0-clause-points c = λ x.
    let all = c.args.all in
    let n = c.args.replicas in
    let me = c.args.me in
    let lo : ℕ = me * (all / n) + c.min.result in
    let count : ℕ = c.share_of-count.result in
    let start : lo ≡ run_start all n me = ap (λ k. me * (all / n) + k) c.min.ensures ∙ sym (start_is all n me) in
    let share : count ≡ even_share all n me = c.share_of-count.ensures in
    run_has lo count (lo + (count - 1)) x (omega (arith, c.if-count-eq0.false))
    ∙ ap (λ k. nat_le k x && nat_lt x (k + count)) start
    ∙ ap (λ k. nat_le (run_start all n me) x && nat_lt x (run_start all n me + k)) share
