use Rattle.std.proofs.Common.{inl, inr, ◌≤◌, ℕ, List, length, refl, sym, ap, subst, arith, rules}
use Rattle.std.specs.Prelude.{IsErrOf}
use Rattle.rights_journal.specs.Image.{StandsFor, IsUnfinished}
use Rattle.rights_journal.specs.Reading.{IsRead, known_and}
use Rattle.rights_journal.specs.declared.starting.StartWhy.TheVariants as whys
use Rattle.rights_journal.proofs.Moments.{stays}
use Rattle.rights_journal.proofs.Fresh.{unfinished_fresh}
use Rattle.rights_journal.proofs.Starts.{fresh_stands, new_read, afresh_moments, afresh_short, if_ok, always_ok}
use Rattle.rights_journal.proofs.starting.interpret.Goals as goal

pub returns-in_err-begin_afresh-clause-any_moment : goal.returns-in_err-begin_afresh-clause-any_moment
returns-in_err-begin_afresh-clause-any_moment g c = λ tells batches stands.
    let un : IsUnfinished c.args.bytes.now = c.if-is_unfinished.ensures.yes refl in
    afresh_moments c.args.replicas g.D.Disk.moment g.D.Disk.left_since c.args.disk.now c.begin_afresh.new.disk batches c.args.bytes.now un stands
    (c.begin_afresh.ensures.any_moment tells)

pub returns-in_err-begin_afresh-clause-short : goal.returns-in_err-begin_afresh-clause-short
returns-in_err-begin_afresh-clause-short g c = λ tells longest room long.
    afresh_short c.args.replicas g.D.Disk.moment g.D.Disk.left_since c.args.disk.now c.begin_afresh.new.disk longest room (c.begin_afresh.ensures.any_moment tells)

pub returns-in_err-begin_afresh-clause-memory : goal.returns-in_err-begin_afresh-clause-memory
returns-in_err-begin_afresh-clause-memory g c = λ wants tells batches stands.
    let un : IsUnfinished c.args.bytes.now = c.if-is_unfinished.ensures.yes refl in
    let wanted : IsErrOf c.begin_afresh.result whys.Memory = search rules in
    let new = (g.D.Disk.standing c.begin_afresh.new.disk).bytes in
    fresh_stands c.args.replicas batches c.args.bytes.now new un stands (unfinished_fresh new (c.begin_afresh.ensures.memory wanted tells))

pub returns-then-is_unfinished-clause-batches : goal.returns-then-is_unfinished-clause-batches
returns-then-is_unfinished-clause-batches g c = inl (c.if-is_unfinished.ensures.yes refl, c.new.ensures)

pub returns-then-is_unfinished-clause-read : goal.returns-then-is_unfinished-clause-read
returns-then-is_unfinished-clause-read g c = λ tells.
    new_read c.args.replicas c.new.result (g.D.Disk.standing c.begin_afresh.new.disk).bytes c.new.ensures (c.in_ok-begin_afresh.ensures.opened tells)

pub returns-then-is_unfinished-clause-any_moment : goal.returns-then-is_unfinished-clause-any_moment
returns-then-is_unfinished-clause-any_moment g c = λ tells batches stands.
    let un : IsUnfinished c.args.bytes.now = c.if-is_unfinished.ensures.yes refl in
    afresh_moments c.args.replicas g.D.Disk.moment g.D.Disk.left_since c.args.disk.now c.begin_afresh.new.disk batches c.args.bytes.now un stands
    (c.begin_afresh.ensures.any_moment tells)

pub returns-then-is_unfinished-clause-short : goal.returns-then-is_unfinished-clause-short
returns-then-is_unfinished-clause-short g c = λ tells longest room long.
    afresh_short c.args.replicas g.D.Disk.moment g.D.Disk.left_since c.args.disk.now c.begin_afresh.new.disk longest room (c.begin_afresh.ensures.any_moment tells)

pub returns-clause-batches : goal.returns-clause-batches
returns-clause-batches g c = if_ok c.read_image.result (λ f read. inr read.0) c.read_image.ensures.read

pub returns-clause-read : goal.returns-clause-read
returns-clause-read g c = if_ok c.read_image.result
    (λ f read tells. subst (λ (b : List ℕ). IsRead c.args.replicas (known_and f.same c.args.known.now f.batches) f.gate b) (sym (c.requires.same tells)) read) c.read_image.ensures.read

pub returns-clause-any_moment : goal.returns-clause-any_moment
returns-clause-any_moment g c = λ tells batches stands.
    let s = g.D.Disk.standing c.args.disk.now in
    let P = StandsFor c.args.replicas batches in
    stays g.D.Disk.moment g.D.Disk.left_since c.args.disk.now s.bytes (g.D.Disk.may_leave c.args.disk.now) P
    (λ b left. g.met.D.Disk.only_now c.args.disk.now b left) c.requires.settled (subst P (sym (c.requires.same tells)) stands)

pub returns-clause-short : goal.returns-clause-short
returns-clause-short g c = λ tells longest room long.
    let s = g.D.Disk.standing c.args.disk.now in
    stays g.D.Disk.moment g.D.Disk.left_since c.args.disk.now s.bytes (g.D.Disk.may_leave c.args.disk.now) (λ b. length b ≤ longest)
    (λ b left. g.met.D.Disk.only_now c.args.disk.now b left) c.requires.settled (subst (λ (b : List ℕ). length b ≤ longest) (sym (c.requires.same tells)) long)

pub returns-clause-memory : goal.returns-clause-memory
returns-clause-memory g c = λ wants tells batches stands.
    subst (StandsFor c.args.replicas batches) (sym (c.requires.same tells)) stands

pub returns-then-is_unfinished-clause-end : goal.returns-then-is_unfinished-clause-end
returns-then-is_unfinished-clause-end g c = λ tells longest room long. omega (arith, room, ap (λ (l : List ℕ). length l) (c.in_ok-begin_afresh.ensures.opened tells))

pub returns-clause-end : goal.returns-clause-end
returns-clause-end g c = always_ok c.read_image.result (λ tells longest room long. subst (λ (b : List ℕ). length b ≤ longest) (sym (c.requires.same tells)) long)
