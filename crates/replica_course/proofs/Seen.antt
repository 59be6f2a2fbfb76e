-- A replica that is up, by the batches that it kept.
use Rattle.std.proofs.Common.{◌≡◌, ◌≢◌, ℕ, ◌<◌, ◌≤◌, List, [], length, refl, sym, ap, subst, ◌∙◌, arith}
use Rattle.spec_model.specs.declared.plan.Setup.{Setup}
use Rattle.spec_model.specs.declared.instance.Inst.{Inst}
use Rattle.spec_model.specs.declared.log.LogItem.{LogItem}
use Rattle.run_model.specs.declared.batch.Batch.{Batch}
use Rattle.run_model.specs.Logs.{Logs, log_at}
use Rattle.run_model.specs.Worlds.{Up}
use Rattle.op_records.specs.Spelling.{IsBatch}
use Rattle.message_laws.specs.Views.{View, seeing}
use Rattle.replica_core.specs.Decisions.{Decides, IsDecided, IsReadyFor}
use Rattle.replica_core.specs.declared.decision.Decision.TheVariants as decision
use Rattle.replica_core.specs.Recovered.{HasCommitted, logs_after}
use Rattle.replica_core.specs.Replicas.{HasRoom, known_to, own_log, view_of}
use Rattle.replica_core.specs.declared.replica.Replica.{Replica}
use Rattle.replica_core.proofs.Growing.{decided_grow}
use Rattle.replica_course.specs.Courses.{IsCourse, IsState}
use Rattle.replica_course.specs.Courses as courses
use Rattle.replica_course.specs.Parts.{CanAct, IsReadied}
use Rattle.replica_course.specs.declared.course.Course.{Course}
use Rattle.replica_course.specs.declared.course.State.{State}
use Rattle.replica_course.specs.declared.course.State.TheVariants as states
use Rattle.replica_course.proofs.Spelled.{decided_is_spelled}

-- it is that replica
pub up_is : (s : State) (a b : Replica) → s ≡ states.Up a → s ≡ states.Up b → a ≡ b
up_is s a b here there = cc

-- it has committed just the batches that were kept
pub committed_up : (setup : Setup) (me : ℕ) (c : Course) (r : Replica) → IsCourse setup me c → c.state ≡ states.Up r → (r.me ≡ me) × HasCommitted setup c.kept r
committed_up setup me c r own up = subst (IsState setup me c.kept) up own.state

-- it decides by what they tell
pub view_seen : (setup : Setup) (kept : List Batch) (r : Replica) → HasCommitted setup kept r → view_of r ≡ seeing r.me (logs_after setup.replicas kept)
view_seen setup kept r h =
    let counted : view_of r ≡ seeing r.me (known_to r) = ap (λ (cut : List ℕ). let v : View = record { me = r.me; known = known_to r; cut = cut } in v) h.own.store.counts in
    counted ∙ ap (seeing r.me) h.knows

pub view_up : (setup : Setup) (me : ℕ) (c : Course) (r : Replica) → IsCourse setup me c → c.state ≡ states.Up r → view_of r ≡ courses.view_of setup.replicas c
view_up setup me c r own up =
    let here = committed_up setup me c r own up in
    view_seen setup c.kept r here.1 ∙ ap (λ i. seeing i (logs_after setup.replicas c.kept)) (here.0 ∙ sym own.me_is)

-- it may log 24 items more
pub room_up : (setup : Setup) (me n : ℕ) (c : Course) (r : Replica) → IsCourse setup me c → c.state ≡ states.Up r → length c.entries < 100000 → n ≤ 24 → HasRoom n r
room_up setup me n c r own up few small =
    let here = committed_up setup me c r own up in
    let long = decided_grow.own setup me c.kept own.committed in
    let same : own_log r ≡ log_at (logs_after setup.replicas c.kept) me = ap (λ (l : Logs). log_at l r.me) here.1.knows ∙ ap (log_at (logs_after setup.replicas c.kept)) here.0 in
    omega (arith, ap length same, long, own.few_kept, few, small)

pub readied : (setup : Setup) (items : List LogItem) (c : Course) (r : Replica) → c.state ≡ states.Up r → IsReadyFor setup r items → IsReadied setup items c
readied setup items c r up ready = record { r = r; up = up; ready = ready }

-- what it decided it did decide
pub act_decided : (setup : Setup) (inst : Inst) (batch : Batch) (c : Course) (r : Replica) → c.state ≡ states.Up r → CanAct setup inst batch c → Decides setup inst (view_of r) (decision.Act batch)
act_decided setup inst batch c r up can = subst (λ (x : Replica). Decides setup inst (view_of x) (decision.Act batch)) (up_is c.state can.r r can.up up) can.decided

pub up_of : (state : State) → courses.running_in state ≡ Up → (r : Replica) × (state ≡ states.Up r)
up_of (states.Up r) up = (r, refl)
up_of (states.Down pending) up = absurd cc

-- what it decided on has a spelling
pub course_spelled : (setup : Setup) (c : Course) (batch : Batch) → IsCourse setup c.me c → courses.running_of c ≡ Up → IsDecided setup (courses.view_of setup.replicas c) batch → batch.items ≢ [] → length c.entries < 100000 → IsBatch setup.replicas batch.items
course_spelled setup c batch own up decided some few =
    let r = up_of c.state up in
    decided_is_spelled setup c.kept r.0 batch own.few (omega (arith, own.few_kept, few)) (committed_up setup c.me c r.0 own r.1).1 (subst (λ (v : View). IsDecided setup v batch) (sym (view_up setup c.me c r.0 own r.1)) decided) some
