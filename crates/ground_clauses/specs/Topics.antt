-- Hypotheses by what they go by.
use Rattle.std.specs.Prelude.{◌≡◌, ℕ, Bool, true, false, ◌&&◌, eqb, bytes_eq, get_or, List, map}
use Rattle.ground_clauses.specs.Cases.{hypotheses, over}
use Rattle.ground_clauses.specs.Instances.{instance_of}
use Rattle.ground_clauses.specs.Query.{Hypothesis, atoms_of}
use Rattle.ground_clauses.specs.declared.instances.Instance.{Instance}
use Rattle.ground_clauses.specs.declared.memory.Remembered.{Remembered}
use Rattle.ground_clauses.specs.declared.memory.Topic.{Topic}
use Rattle.spec_model.specs.Truths.{clause_in}
use Rattle.spec_model.specs.declared.instance.Atom.{Atom as ClassAtom}
use Rattle.spec_model.specs.declared.spec.Spec.{Spec}

-- the hypotheses of a query about the clause at a place, at these classes, where the sorts have so many
abbrev pub hypotheses_on : Spec → ℕ → List ℕ → List ℕ → List Hypothesis
hypotheses_on spec place classes counts = hypotheses spec (λ z. get_or counts z 0) (over (clause_in spec place) classes)

-- these are the hypotheses, and those their atoms
abbrev pub AreThose : List Hypothesis → List Instance → List ClassAtom → Type 0
AreThose hs found atoms = (map instance_of found ≡ hs) × (atoms ≡ atoms_of hs)

abbrev pub AreOf : Spec → Topic → List Instance → List ClassAtom → Type 0
AreOf spec t found atoms = AreThose (hypotheses_on spec t.place t.classes.now t.counts.now) found atoms

abbrev pub IsRight : Spec → Remembered → Type 0
IsRight spec r = r.filled ≡ true → AreThose (hypotheses_on spec r.place r.classes r.counts) r.found r.atoms

abbrev pub IsEmpty : Remembered → Type 0
IsEmpty r = r.filled ≡ false

-- what is remembered is on this topic
abbrev pub is_on : Topic → Remembered → Bool
is_on t r = r.filled && (eqb r.place t.place && (bytes_eq r.classes t.classes.now && bytes_eq r.counts t.counts.now))
