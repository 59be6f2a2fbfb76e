use Rattle.std.specs.Prelude.{take, drop}
use Rattle.run_model.specs.Levels.{acts_at}
use Rattle.rights_table.specs.Acting.{ActsBy, AreOnShares, shares_in}
use Rattle.rights_table.proofs.table.Table.act_at_level.Given as goal

-- what the needs so far do
abbrev pub invariant-loop-need : goal.invariant-loop-need
invariant-loop-need l = record {
  acts : ActsBy l.setup l.level (λ q. acts_at l.setup.replicas (shares_in l.setup l.fn.self) (take l.need-index l.needs) q l.level) l.fn.self l.self;
  shared : AreOnShares (drop l.need-index l.needs);
}
