-- One replica's ends of links.
use Rattle.replica_wires.specs.declared.passes.Passes.{Passes}
use Rattle.replica_wires.specs.declared.wires.Place.{Place}
use Rattle.replica_wires.specs.declared.wires.Wires.{Wires}

module _ {R : Type 0} where
  -- whose they are
  abbrev pub place_of : Wires R → Place
  place_of wires = record { me = wires.me; web = wires.web.now }

  -- its passes
  abbrev pub passes_of : Wires R → Passes
  passes_of wires = wires.passes
