use Rattle.std.proofs.Common.{◌≡◌, ◌≤◌, ℕ, List, length, sym, ◌∙◌, subst, rules}
use Rattle.std.specs.Prelude.{Bool, IsTrue}
use Rattle.rights_journal.specs.Image.{StandsFor, IsForeign}
use Rattle.rights_journal.proofs.Moments.{joined, weaker}
use Rattle.rights_journal.proofs.Fresh.{on_ok}
use Rattle.rights_journal.proofs.Starts.{if_err, starts_not}
use Rattle.rights_journal.proofs.starting.prepare.Goals as goal

pub returns-clause-refused : goal.returns-clause-refused
returns-clause-refused g c =
    let slice : c.as_slice.result.now ≡ c.in-Ok.bytes = search rules in
    if_err c.interpret.result (λ e refused. starts_not e (λ at foreign tells.
    subst (IsForeign c.args.replicas at) (slice ∙ c.in-Ok.ensures.bytes tells) foreign) refused) c.interpret.ensures.refused

pub returns-clause-any_moment : goal.returns-clause-any_moment
returns-clause-any_moment g c = λ tells batches stands.
    let slice : c.as_slice.result.now ≡ c.in-Ok.bytes = search rules in
    let old = (g.D.Disk.standing c.args.disk.now).bytes in
    let P = StandsFor c.args.replicas batches in
    let is : c.as_slice.result.now ≡ old = slice ∙ c.in-Ok.ensures.bytes tells in
    let mid_tells = subst (λ (b : Bool). IsTrue b) (sym c.load.ensures.run.tells) tells in
    joined g.D.Disk.moment g.D.Disk.left_since c.args.disk.now c.load.new.disk c.interpret.new.disk P
    (weaker g.D.Disk.moment g.D.Disk.left_since c.args.disk.now c.load.new.disk (λ b. b ≡ old) P (λ b same. subst P (sym same) stands) c.load.ensures.any_moment)
    (c.interpret.ensures.any_moment mid_tells batches (subst P (sym is) stands))

pub returns-clause-short : goal.returns-clause-short
returns-clause-short g c = λ tells longest room long.
    let slice : c.as_slice.result.now ≡ c.in-Ok.bytes = search rules in
    let old = (g.D.Disk.standing c.args.disk.now).bytes in
    let is : c.as_slice.result.now ≡ old = slice ∙ c.in-Ok.ensures.bytes tells in
    let mid_tells = subst (λ (b : Bool). IsTrue b) (sym c.load.ensures.run.tells) tells in
    joined g.D.Disk.moment g.D.Disk.left_since c.args.disk.now c.load.new.disk c.interpret.new.disk (λ b. length b ≤ longest)
    (weaker g.D.Disk.moment g.D.Disk.left_since c.args.disk.now c.load.new.disk (λ b. b ≡ old) (λ b. length b ≤ longest) (λ b same. subst (λ (l : List ℕ). length l ≤ longest) (sym same) long) c.load.ensures.any_moment)
    (c.interpret.ensures.short mid_tells longest room (subst (λ (l : List ℕ). length l ≤ longest) (sym is) long))

pub returns-clause-end : goal.returns-clause-end
returns-clause-end g c =
    let slice : c.as_slice.result.now ≡ c.in-Ok.bytes = search rules in
    on_ok c.interpret.result (λ short tells longest room long.
    let mid_tells = subst (λ (b : Bool). IsTrue b) (sym c.load.ensures.run.tells) tells in
    short mid_tells longest room (subst (λ (l : List ℕ). length l ≤ longest) (sym (slice ∙ c.in-Ok.ensures.bytes tells)) long)) c.interpret.ensures.end

pub returns-clause-memory : goal.returns-clause-memory
returns-clause-memory g c = λ wants tells batches stands.
    let slice : c.as_slice.result.now ≡ c.in-Ok.bytes = search rules in
    let P = StandsFor c.args.replicas batches in
    let mid_tells = subst (λ (b : Bool). IsTrue b) (sym c.load.ensures.run.tells) tells in
    c.interpret.ensures.memory wants mid_tells batches (subst P (sym (slice ∙ c.in-Ok.ensures.bytes tells)) stands)
