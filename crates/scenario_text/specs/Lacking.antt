-- What a document lacks where no line of it holds a word of a group.
use Rattle.std.specs.Prelude.{◌≡◌, List, []}
use Rattle.run_model.specs.declared.step.Order.{Order}
use Rattle.scenario_text.specs.declared.document.Work.{Work}
use Rattle.scenario_text.specs.declared.document.Work.TheVariants as works
use Rattle.scenario_text.specs.declared.document.Document.{Document}
use Rattle.scenario_text.specs.declared.group.Group.{Group}
use Rattle.scenario_text.specs.declared.group.Group.TheVariants.{Schedule, Clients}

-- the work is no schedule, or an empty one
abbrev pub HasNoOrder : Work → Type 0
HasNoOrder (works.Schedule orders) = orders ≡ []
HasNoOrder (works.Clients turns homes asked) = Unit {0}

-- the work is a schedule
abbrev pub IsSchedule : Work → Type 0
IsSchedule work = (orders : List Order) × (work ≡ works.Schedule orders)

-- what holds of a document in which no line holds a word of the group
abbrev pub IsLacking : Group → Document → Type 0
IsLacking Schedule d = HasNoOrder d.work
IsLacking Clients d = IsSchedule d.work
