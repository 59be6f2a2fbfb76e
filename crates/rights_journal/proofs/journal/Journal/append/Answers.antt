use Rattle.std.proofs.Common.{◌≡◌, inl, ◌+◌, ℕ, [], ◌∷◌, ◌++◌, length, max, sym, subst, arith, rules}
use Rattle.std.specs.Prelude.{Bool, IsTrue}
use Rattle.rights_journal.specs.Reading.{IsRead}
use Rattle.rights_journal.specs.Image.{IsWithin}
use Rattle.rights_journal.specs.Appending.{framed, IsBeforeOrAfter}
use Rattle.rights_journal.proofs.Moments.{stays}
use Rattle.rights_journal.proofs.Stored.{stored_moments, stored_within, ends_within, stored_added, stored_read, not_true}
use Rattle.rights_journal.proofs.journal.Journal.append.Goals as goal

pub returns-in_default-clause-any_moment : goal.returns-in_default-clause-any_moment
returns-in_default-clause-any_moment g c = λ tells batches fin.
    let s = c.args.self.now in
    stays g.D.Disk.moment g.D.Disk.left_since s.disk (g.D.Disk.standing s.disk).bytes (g.D.Disk.may_leave s.disk)
    (IsBeforeOrAfter s.replicas batches c.args.batch.now) (λ b left. g.met.D.Disk.only_now s.disk b left) c.requires.kept.settled (inl fin)

pub returns-in_default-clause-kept : goal.returns-in_default-clause-kept
returns-in_default-clause-kept g c = λ live. c.requires.kept

pub returns-then-size-gt-LIMIT-clause-any_moment : goal.returns-then-size-gt-LIMIT-clause-any_moment
returns-then-size-gt-LIMIT-clause-any_moment g c = λ tells batches fin.
    let s = c.args.self.now in
    stays g.D.Disk.moment g.D.Disk.left_since s.disk (g.D.Disk.standing s.disk).bytes (g.D.Disk.may_leave s.disk)
    (IsBeforeOrAfter s.replicas batches c.args.batch.now) (λ b left. g.met.D.Disk.only_now s.disk b left) c.requires.kept.settled (inl fin)

pub returns-then-size-gt-LIMIT-clause-kept : goal.returns-then-size-gt-LIMIT-clause-kept
returns-then-size-gt-LIMIT-clause-kept g c = λ live. c.requires.kept

pub returns-in-Ok-store-clause-any_moment : goal.returns-in-Ok-store-clause-any_moment
returns-in-Ok-store-clause-any_moment g c = λ tells batches fin.
    let s = c.args.self.now in
    let frame = c.as_slice.result.now in
    let is : frame ≡ framed s.replicas c.args.batch.now = search rules in
    let found = c.requires.kept.finished tells in
    stored_moments s.replicas c.args.batch.now c.requires.spelled s.gate
    frame (g.D.Disk.standing s.disk).bytes is g.D.Disk.moment g.D.Disk.left_since s.disk c.store.new.disk (max (g.D.Disk.standing s.disk).size (s.gate + 1 + length frame)) batches found.0 fin found.1
    (λ front rest closed at_gate bytes_are. c.store.ensures.any_moment tells front rest closed at_gate bytes_are)

pub returns-in-Err-Memory-clause-any_moment : goal.returns-in-Err-Memory-clause-any_moment
returns-in-Err-Memory-clause-any_moment g c = λ tells batches fin.
    let s = c.args.self.now in
    let frame = c.as_slice.result.now in
    let is : frame ≡ framed s.replicas c.args.batch.now = search rules in
    let found = c.requires.kept.finished tells in
    stored_moments s.replicas c.args.batch.now c.requires.spelled s.gate
    frame (g.D.Disk.standing s.disk).bytes is g.D.Disk.moment g.D.Disk.left_since s.disk c.store.new.disk (max (g.D.Disk.standing s.disk).size (s.gate + 1 + length frame)) batches found.0 fin found.1
    (λ front rest closed at_gate bytes_are. c.store.ensures.any_moment tells front rest closed at_gate bytes_are)

pub returns-clause-any_moment : goal.returns-clause-any_moment
returns-clause-any_moment g c = λ tells batches fin.
    let s = c.args.self.now in
    let frame = c.as_slice.result.now in
    let is : frame ≡ framed s.replicas c.args.batch.now = search rules in
    let found = c.requires.kept.finished tells in
    stored_moments s.replicas c.args.batch.now c.requires.spelled s.gate
    frame (g.D.Disk.standing s.disk).bytes is g.D.Disk.moment g.D.Disk.left_since s.disk c.store.new.disk (max (g.D.Disk.standing s.disk).size (s.gate + 1 + length frame)) batches found.0 fin found.1
    (λ front rest closed at_gate bytes_are. c.store.ensures.any_moment tells front rest closed at_gate bytes_are)

pub returns-in-Ok-store-clause-added : goal.returns-in-Ok-store-clause-added
returns-in-Ok-store-clause-added g c = λ tells batches fin.
    let s = c.args.self.now in
    let frame = c.as_slice.result.now in
    let is : frame ≡ framed s.replicas c.args.batch.now = search rules in
    let found = c.requires.kept.finished tells in
    stored_added s.replicas c.args.batch.now c.requires.spelled s.gate
    frame (g.D.Disk.standing s.disk).bytes is (g.D.Disk.standing c.store.new.disk).bytes batches found.0 fin found.1
    (λ front rest closed at_gate bytes_are. c.in-Ok-store.ensures.written tells front rest closed at_gate bytes_are)

pub returns-in-Ok-store-clause-kept : goal.returns-in-Ok-store-clause-kept
returns-in-Ok-store-clause-kept g c = λ live.
    let s = c.args.self.now in
    let frame = c.as_slice.result.now in
    let is : frame ≡ framed s.replicas c.args.batch.now = search rules in
    let counts : c.len-in-Ok-store.result ≡ length frame = search rules in
    let run = c.in-Ok-store.ensures.run in
    record {
      inside = omega (arith, counts, c.in-Ok-store.ensures.size);
      settled = c.in-Ok-store.ensures.durable;
      finished = λ new_tells.
          let tells = subst (λ (b : Bool). IsTrue b) run.tells new_tells in
          let found = c.requires.kept.finished tells in (
            found.0 ++ c.args.batch.now ∷ [],
            subst (λ (n : ℕ). IsRead s.replicas (found.0 ++ c.args.batch.now ∷ []) (s.gate + n) (g.D.Disk.standing c.store.new.disk).bytes) (sym counts)
                (stored_read s.replicas c.args.batch.now c.requires.spelled s.gate
                frame (g.D.Disk.standing s.disk).bytes is (g.D.Disk.standing c.store.new.disk).bytes found.0 found.1
                (λ front rest closed at_gate bytes_are. c.in-Ok-store.ensures.written tells front rest closed at_gate bytes_are)),
          );
      awake = λ new_stops.
          let stops = subst (λ (b : Bool). IsTrue b) run.tells_stops new_stops in
          not_true (g.D.Disk.standing c.store.new.disk).is_stopped (λ stopped. cc (run.stopped stops (c.requires.kept.awake stops) stopped));
    }

pub returns-in_default-clause-within : goal.returns-in_default-clause-within
returns-in_default-clause-within g c = λ tells batches fin within.
    let s = c.args.self.now in
    stays g.D.Disk.moment g.D.Disk.left_since s.disk (g.D.Disk.standing s.disk).bytes (g.D.Disk.may_leave s.disk)
    (IsWithin (length batches)) (λ b left. g.met.D.Disk.only_now s.disk b left) c.requires.kept.settled within

pub returns-then-size-gt-LIMIT-clause-within : goal.returns-then-size-gt-LIMIT-clause-within
returns-then-size-gt-LIMIT-clause-within g c = λ tells batches fin within.
    let s = c.args.self.now in
    stays g.D.Disk.moment g.D.Disk.left_since s.disk (g.D.Disk.standing s.disk).bytes (g.D.Disk.may_leave s.disk)
    (IsWithin (length batches)) (λ b left. g.met.D.Disk.only_now s.disk b left) c.requires.kept.settled within

pub returns-in-Ok-store-clause-within : goal.returns-in-Ok-store-clause-within
returns-in-Ok-store-clause-within g c = λ tells batches fin within.
    let s = c.args.self.now in
    let frame = c.as_slice.result.now in
    let is : frame ≡ framed s.replicas c.args.batch.now = search rules in
    let found = c.requires.kept.finished tells in
    stored_within s.replicas c.args.batch.now c.requires.spelled s.gate
    frame (g.D.Disk.standing s.disk).bytes is g.D.Disk.moment g.D.Disk.left_since s.disk c.store.new.disk (g.D.Disk.standing s.disk).size batches found.0 fin found.1
    (sym (g.met.D.Disk.sized s.disk tells)) within
    (λ front rest closed at_gate bytes_are. c.store.ensures.any_moment tells front rest closed at_gate bytes_are)

pub returns-in-Err-Memory-clause-within : goal.returns-in-Err-Memory-clause-within
returns-in-Err-Memory-clause-within g c = λ tells batches fin within.
    let s = c.args.self.now in
    let frame = c.as_slice.result.now in
    let is : frame ≡ framed s.replicas c.args.batch.now = search rules in
    let found = c.requires.kept.finished tells in
    stored_within s.replicas c.args.batch.now c.requires.spelled s.gate
    frame (g.D.Disk.standing s.disk).bytes is g.D.Disk.moment g.D.Disk.left_since s.disk c.store.new.disk (g.D.Disk.standing s.disk).size batches found.0 fin found.1
    (sym (g.met.D.Disk.sized s.disk tells)) within
    (λ front rest closed at_gate bytes_are. c.store.ensures.any_moment tells front rest closed at_gate bytes_are)

pub returns-clause-within : goal.returns-clause-within
returns-clause-within g c = λ tells batches fin within.
    let s = c.args.self.now in
    let frame = c.as_slice.result.now in
    let is : frame ≡ framed s.replicas c.args.batch.now = search rules in
    let found = c.requires.kept.finished tells in
    stored_within s.replicas c.args.batch.now c.requires.spelled s.gate
    frame (g.D.Disk.standing s.disk).bytes is g.D.Disk.moment g.D.Disk.left_since s.disk c.store.new.disk (g.D.Disk.standing s.disk).size batches found.0 fin found.1
    (sym (g.met.D.Disk.sized s.disk tells)) within
    (λ front rest closed at_gate bytes_are. c.store.ensures.any_moment tells front rest closed at_gate bytes_are)

pub returns-in-Ok-store-clause-end : goal.returns-in-Ok-store-clause-end
returns-in-Ok-store-clause-end g c = λ tells batches fin within.
    let s = c.args.self.now in
    let frame = c.as_slice.result.now in
    let is : frame ≡ framed s.replicas c.args.batch.now = search rules in
    let found = c.requires.kept.finished tells in
    let new = g.D.Disk.standing c.store.new.disk in
    let new_tells = subst (λ (b : Bool). IsTrue b) (sym c.in-Ok-store.ensures.run.tells) tells in
    ends_within s.replicas c.args.batch.now c.requires.spelled s.gate
    frame (g.D.Disk.standing s.disk).bytes is batches found.0 fin found.1 (g.D.Disk.standing s.disk).size new.size new.bytes (sym (g.met.D.Disk.sized s.disk tells)) within
    c.in-Ok-store.ensures.size (g.met.D.Disk.sized c.store.new.disk new_tells)
