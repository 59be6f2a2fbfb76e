-- A node before its first step.
use Rattle.std.proofs.Common.{◌≡◌, ℕ, zero, suc, ◌<◌, ◌≤◌, Bool, List, [], ◌∷◌, length, map, replicate, refl, sym, ap, subst, ◌∙◌, arith}
use Rattle.std.specs.Prelude.{slice_get, slice_index_or, Some}
use Rattle.std.proofs.lemmas.List.{get_or-replicate, length-replicate}
use Rattle.std.proofs.lemmas.Option.{same_Some, slice_get-get_or, slice_get_within}
use Rattle.spec_model.specs.declared.plan.Setup.{Setup}
use Rattle.run_model.specs.declared.batch.Batch.{Batch}
use Rattle.run_model.specs.declared.message.Message.{Message}
use Rattle.run_model.specs.Locals.{Local, first_local}
use Rattle.run_model.specs.Worlds.{Running, first_running}
use Rattle.local_runs.specs.Alone.{RunsAlone}
use Rattle.local_runs.specs.Handed.{IsPeer, sending_of}
use Rattle.replica_course.specs.Courses.{IsFirst, local_of, running_of}
use Rattle.replica_course.specs.declared.course.Course.{Course}
use Rattle.replica_course.specs.declared.heard.Heard.{Heard}
use Rattle.replica_course.specs.declared.heard.Heard.TheVariants as heard
use Rattle.replica_node.specs.Nodes.{IsHandFrom, IsNode, IsStill, as_list, in_hand, message_in}
use Rattle.replica_node.specs.declared.node.Node.{Node}
use Rattle.replica_node.proofs.Noded.{KeepsRoom}

nothing_at : (n from : ℕ) → slice_index_or (replicate n heard.Nothing) from heard.Nothing ≡ heard.Nothing
nothing_at zero from = refl
nothing_at (suc n) zero = refl
nothing_at (suc n) (suc from) = nothing_at n from

-- nothing is in hand
free_at : (n : ℕ) (hands : List Heard) → hands ≡ replicate n heard.Nothing → (from : ℕ) → in_hand hands from ≡ []
free_at n hands is from = ap (λ (x : Heard). as_list (message_in x)) (ap (λ (hs : List Heard). slice_index_or hs from heard.Nothing) is ∙ nothing_at n from)

from_free : (n : ℕ) (hands : List Heard) → hands ≡ replicate n heard.Nothing → (k : ℕ) (x : Heard) → slice_get hands k ≡ Some x → IsHandFrom k x
from_free n hands is k x there =
    let lt = slice_get_within hands k x there in
    let same : heard.Nothing ≡ x = same_Some heard.Nothing x (ap Some (sym (ap (λ (hs : List Heard). slice_index_or hs k heard.Nothing) is ∙ nothing_at n k)) ∙ sym (slice_get-get_or hands k heard.Nothing lt) ∙ there) in
    subst (IsHandFrom k) same tt

zero_at : (n to : ℕ) (counts : List ℕ) → counts ≡ replicate n 0 → to < n → slice_get counts to ≡ Some 0
zero_at n to counts is lt =
    let long = length-replicate {A = ℕ} n 0 in
    ap (λ (cs : List ℕ). slice_get cs to) is ∙ slice_get-get_or (replicate n 0) to 0 (omega (arith, lt, long)) ∙ ap Some (get_or-replicate n to 0 0 lt)

empty : {X : Type 0} (xs : List X) → length xs ≤ 0 → xs ≡ []
empty [] le = refl
empty (x ∷ xs) le = absurd (omega (arith, le))

-- its storage keeps nothing
pub first_kept : {S : Type 0} (keeps : S → ℕ → List Batch → Running → Type 0) (setup : Setup) (me : ℕ) (up : Bool) (s : S) (c : Course) → IsFirst setup me up c → keeps s setup.replicas [] (first_running up) → keeps s setup.replicas c.kept (running_of c)
first_kept keeps setup me up s c first kept =
    let few = first.own.few_kept in
    let long = ap length first.entries in
    let none : c.kept ≡ [] = empty c.kept (omega (arith, few, long)) in
    let running : running_of c ≡ first_running up = ap (λ (l : Local). l.standing.running) first.stands in
    subst (keeps s setup.replicas c.kept) (sym running) (subst (λ (ks : List Batch). keeps s setup.replicas ks (first_running up)) (sym none) kept)

-- nothing passed and no step was taken
pub begun : {S E D M : Type 0} (keeps : S → ℕ → List Batch → Running → Type 0) (mark : E → M) (owner : M → ℕ) (reaches : M → ℕ → Type 0) (room : M → ℕ → ℕ) (puts gots : E → ℕ → List Message) (setup : Setup) (me : ℕ) (up : Bool) (n : Node S E D M) → IsFirst setup me up n.still.course
    → keeps n.still.storage setup.replicas n.still.course.kept (running_of n.still.course) → n.still.hands ≡ replicate setup.replicas heard.Nothing → n.counts ≡ replicate setup.replicas 0 → owner (mark n.ends) ≡ me → ((peer : ℕ) → IsPeer setup me peer → reaches (mark n.ends) peer)
    → ((peer : ℕ) → (puts n.ends peer ≡ []) × (gots n.ends peer ≡ [])) → IsNode keeps mark owner reaches room puts gots setup me n
begun keeps mark owner reaches room puts gots setup me up n first kept hands counts owned peers quiet =
    let none : ℕ → List Message = λ from. [] in
    let alone : RunsAlone setup me n.still.course.first_up none (puts n.ends) n.still.course.entries (local_of setup.replicas [] n.still.course) = record {
      steps = [];
      are = sym first.entries;
      runs = first.stands ∙ ap (first_local setup.replicas) (sym first.first_up);
      took = λ from. refl;
      sent = λ to. ap (map sending_of) (sym (quiet to).0);
    } in
    record {
      taken = none;
      still = record {
        own = first.own;
        kept = kept;
        sendings = [];
        alone = alone;
        hands = ap length hands ∙ length-replicate setup.replicas heard.Nothing;
        from = from_free setup.replicas n.still.hands hands;
      };
      got = λ from. (quiet from).1 ∙ sym (free_at setup.replicas n.still.hands hands from);
      counted = λ to peer. zero_at setup.replicas to n.counts counts peer.0 ∙ ap (λ (ms : List Message). Some (length ms)) (sym (quiet to).0);
      asked = λ to. let none_put = ap length (quiet to).0 in omega (arith, none_put);
      full = subst (KeepsRoom (room (mark n.ends))) (sym first.entries) tt;
      owned = owned;
      peers = peers;
    }
