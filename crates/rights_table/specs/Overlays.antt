-- What would be held: the rights that were touched, over a table that stays.
use Rattle.std.specs.Prelude.{not, is_some, ℕ, List}
use Rattle.spec_model.specs.declared.plan.Setup.{Setup}
use Rattle.spec_model.specs.declared.right.Right.{Right}
use Rattle.spec_model.specs.declared.log.LogItem.{LogItem}
use Rattle.run_model.specs.Logs.{Logs}
use Rattle.rights_table.specs.declared.overlay.Overlay.{Overlay}
use Rattle.rights_table.specs.Tables.{IsEntered, IsTable, entered}
use Rattle.rights_table.specs.Whole.{AreFew}

abbrev pub IsTouched : Overlay → Right → Type 0
IsTouched o r = IsEntered o.touched r

-- the touched rights are told by the one table and all others by the other, which is what replica me would hold after these items of its own log
pub record IsOverlay (setup : Setup) (logs : Logs) (me : ℕ) (own : List LogItem) (o : Overlay) : Type 0 where
  pub touched : IsTable setup logs me own (λ r. is_some (entered o.touched r)) o.touched
  pub rest : IsTable setup logs me own (λ r. not (is_some (entered o.touched r))) o.under.now
  pub few : AreFew setup logs me own
