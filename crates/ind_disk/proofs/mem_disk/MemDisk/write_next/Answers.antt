use Rattle.std.proofs.Common.{◌≡◌, ◌∷◌, length, ◌∙◌, ap, rules, List, ℕ}
use Rattle.ind_disk.specs.Calls.{Wrote}
use Rattle.ind_disk.specs.Stops.{stopped_bytes}
use Rattle.ind_disk.proofs.Reaching.{length-stopped_bytes}
use Rattle.ind_disk.proofs.Recorded.{follows_write, next_time}
use Rattle.ind_disk.proofs.mem_disk.MemDisk.write_next.Goals as goal

pub returns-clause-crash : goal.returns-clause-crash
returns-clause-crash c =
    let bytes = c.in-Ok.piece.items in
    let is : c.finish.new.self.tape.calls ≡ Wrote c.args.at bytes ∷ c.args.self.now.tape.calls = search rules in
    let bytes_are : bytes ≡ stopped_bytes c.stop_at-stop.result c.args.from.now = search rules in
    follows_write c.args.at (length c.args.from.now) bytes c.args.self.now.tape.calls c.finish.new.self.tape.calls is
    (ap (λ (l : List ℕ). length l) bytes_are ∙ length-stopped_bytes c.stop_at-stop.result c.args.from.now) c.requires.place

pub returns-clause-time : goal.returns-clause-time
returns-clause-time c =
    let bytes = c.in-Ok.piece.items in
    let is : c.finish.new.self.tape.calls ≡ Wrote c.args.at bytes ∷ c.args.self.now.tape.calls = search rules in
    next_time (Wrote c.args.at bytes) c.args.self.now.tape.calls c.finish.new.self.tape.calls is
