-- The stamps of a replica by itself rise.
use Rattle.std.proofs.Common.{◌≡◌, inl, ℕ, ◌<◌, List, [], ◌∷◌, map, subst, arith}
use Rattle.std.specs.Prelude.{Option, Some, None}
use Rattle.std.specs.List.{AllByRecursion}
use Rattle.spec_model.specs.declared.plan.Setup.{Setup}
use Rattle.run_model.specs.declared.step.StepEntry.{StepEntry}
use Rattle.run_model.specs.Locals.{Local, first_local}
use Rattle.run_model.specs.Runs.{InOrder, PrecedesFirst}
use Rattle.run_model.specs.Steps.{next_stamp}
use Rattle.run_model.specs.Worlds.{Sending}
use Rattle.local_runs.specs.Handed.{Handed, HandRuns, HandSteps, heard_of}
use Rattle.local_runs.specs.Laws.{AloneIsInOrder}

later_stamp : (last : ℕ) (heard : Option Sending) → last < next_stamp last heard
later_stamp last None = omega arith
later_stamp last (Some sending) = omega arith

-- the stamp of a step is greater than that before it
pub rises : (setup : Setup) (me : ℕ) (old new : Local) (s : Handed) → HandSteps setup me s.hand old s.entry new → old.standing.stamp < s.entry.stamp
rises setup me old new s step = let h = later_stamp old.standing.stamp (heard_of s.hand) in omega (arith, h, step.stamp)

first_follows : (setup : Setup) (me : ℕ) (e : StepEntry) (old new : Local) (steps : List Handed) → old.standing.stamp ≡ e.stamp → HandRuns setup me old steps new → PrecedesFirst e (map (λ s. s.entry) steps)
first_follows setup me e old new [] is runs = tt
first_follows setup me e old new (s ∷ steps) is runs = let lt = rises setup me old runs.0 s runs.1 in inl (omega (arith, lt, is))

in_order : (setup : Setup) (me : ℕ) (old new : Local) (steps : List Handed) → HandRuns setup me old steps new → InOrder (map (λ s. s.entry) steps) × AllByRecursion (λ e. e.replica ≡ me) (map (λ s. s.entry) steps)
in_order setup me old new [] runs = (tt, tt)
in_order setup me old new (s ∷ steps) runs =
    let middle : Local = runs.0 in
    let step : HandSteps setup me s.hand old s.entry middle = runs.1 in
    let rest = in_order setup me middle new steps runs.2 in
    ((first_follows setup me s.entry middle new steps step.stamp_kept runs.2, rest.0), (step.replica, rest.1))

pub alone_in_order : AloneIsInOrder
alone_in_order setup me up taken put entries last h =
    subst (λ (es : List StepEntry). InOrder es × AllByRecursion (λ (e : StepEntry). e.replica ≡ me) es) h.are (in_order setup me (first_local setup.replicas up) last h.steps h.runs)
