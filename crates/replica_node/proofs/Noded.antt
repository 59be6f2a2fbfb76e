-- A node after a call of its replica, or of its ends.
use Rattle.std.proofs.Common.{◌≡◌, ◌≢◌, inl, inr, ℕ, ◌+◌, ◌<◌, ◌≤◌, Bool, true, false, List, [], ◌∷◌, ◌++◌, length, filter, map, refl, sym, ap, subst, ◌∙◌, arith, length-set, eq-eqb, ne_eqb}
use Rattle.std.specs.Prelude.{slice_get, slice_index_or, slice_set, IfOk, Option, Some, None, Result, Ok, Err, if◌then◌else◌}
use Rattle.std.specs.List.{AllByRecursion}
use Rattle.std.proofs.lemmas.Bool.{cases_eq}
use Rattle.std.proofs.lemmas.List.{append-nil, append_assoc, get_or-set_same, get_or-set_other, length-append}
use Rattle.std.proofs.lemmas.List.Elements.{filter-append}
use Rattle.spec_model.specs.declared.plan.Setup.{Setup}
use Rattle.run_model.specs.declared.batch.Batch.{Batch}
use Rattle.run_model.specs.declared.message.Message.{Message}
use Rattle.run_model.specs.declared.step.Ask.{Ask}
use Rattle.run_model.specs.declared.step.Ask.TheVariants as asks
use Rattle.run_model.specs.declared.step.StepEntry.{StepEntry}
use Rattle.run_model.specs.Locals.{Local}
use Rattle.run_model.specs.Worlds.{Running, Sending, sent_to}
use Rattle.run_model.proofs.Lists.{each_append, each_weaker}
use Rattle.local_runs.specs.Alone.{RunsAlone}
use Rattle.local_runs.specs.Handed.{IsPeer, IsRefused, sending_of}
use Rattle.replica_course.specs.Courses.{IsAsBefore, IsCourse, local_of, running_of}
use Rattle.replica_course.specs.declared.course.Course.{Course}
use Rattle.replica_course.specs.declared.heard.Heard.{Heard}
use Rattle.replica_course.specs.declared.heard.Heard.TheVariants as heard
use Rattle.replica_node.specs.Ends.{AddsOne, AreSame}
use Rattle.replica_node.specs.Nodes.{IsHandFrom, IsNode, IsStill, StaysStill, as_list, asks_send, in_hand, message_in, sends_to}
use Rattle.replica_node.specs.Steps.{Answers}
use Rattle.replica_node.specs.declared.node.Node.{Node}
use Rattle.replica_node.specs.declared.still.Still.{Still}
use Rattle.replica_node.proofs.Grown.{from_set, still_same}
use Rattle.replica_node.proofs.Taking.{take_unrefused}

-- ---- sends

sends_add : (to : ℕ) (es : List StepEntry) (e : StepEntry) → sends_to to (es ++ e ∷ []) ≡ sends_to to es + length (if asks_send to e.ask then e ∷ [] else [])
sends_add to es e =
    ap length (filter-append (λ (f : StepEntry). asks_send to f.ask) es (e ∷ []))
    ∙ length-append (filter (λ (f : StepEntry). asks_send to f.ask) es) (if asks_send to e.ask then e ∷ [] else [])

pub sends_more : (to : ℕ) (es : List StepEntry) (e : StepEntry) → sends_to to es ≤ sends_to to (es ++ e ∷ [])
sends_more to es e = omega (arith, sends_add to es e)

pub sends_one_more : (to : ℕ) (es : List StepEntry) (e : StepEntry) → asks_send to e.ask ≡ true → sends_to to (es ++ e ∷ []) ≡ sends_to to es + 1
sends_one_more to es e is = sends_add to es e ∙ ap (λ b. sends_to to es + length (if b then e ∷ [] else [])) is

-- where a send found no room, more were asked for
abbrev pub KeepsRoom : (ℕ → ℕ) → List StepEntry → Type 0
KeepsRoom room es = AllByRecursion (λ e. (to : ℕ) → IsRefused to e → room to < sends_to to es) es

-- so it is with one entry more
pub room_more : (room : ℕ → ℕ) (es : List StepEntry) (e : StepEntry) → KeepsRoom room es → ((to : ℕ) → IsRefused to e → room to < sends_to to (es ++ e ∷ [])) → KeepsRoom room (es ++ e ∷ [])
room_more room es e h last =
    let all : List StepEntry = es ++ e ∷ [] in
    each_append (λ (f : StepEntry). (to : ℕ) → IsRefused to f → room to < sends_to to all) es (e ∷ [])
    (each_weaker (λ (f : StepEntry). (to : ℕ) → IsRefused to f → room to < sends_to to es) (λ (f : StepEntry). (to : ℕ) → IsRefused to f → room to < sends_to to all) (λ f was to is. let lt = was to is in omega (arith, lt, sends_more to es e)) es h) (last, tt)

-- what a step of the replica leaves of its sends
pub record SendsGrow (room : ℕ → ℕ) (old new : List StepEntry) : Type 0 where
  pub no_less : (to : ℕ) → sends_to to old ≤ sends_to to new
  pub room_kept : KeepsRoom room new

pub sends_grow : (room : ℕ → ℕ) (old new : List StepEntry) (e : StepEntry) → new ≡ old ++ e ∷ [] → KeepsRoom room old → ((to : ℕ) → IsRefused to e → ⊥) → SendsGrow room old new
sends_grow room old new e is h unrefused = subst (SendsGrow room old) (sym is) (record { no_less = λ to. sends_more to old e; room_kept = room_more room old e h (λ to refused. absurd (unrefused to refused)) })

pub sends_same : (room : ℕ → ℕ) (old new : List StepEntry) → new ≡ old → KeepsRoom room old → SendsGrow room old new
sends_same room old new is h = subst (SendsGrow room old) (sym is) (record { no_less = λ to. omega arith; room_kept = h })

pub grows_if : {E : Type 0} (room : ℕ → ℕ) (ask : Ask) (old new : Course) (result : Result StepEntry E) → KeepsRoom room old.entries → Answers ask old new result → IfOk result (λ entry. (to : ℕ) → IsRefused to entry → ⊥) → SendsGrow room old.entries new.entries
grows_if room ask old new (Ok e) h answers unrefused = sends_grow room old.entries new.entries e answers.1.entries h unrefused
grows_if room ask old new (Err e) h answers unrefused = sends_same room old.entries new.entries answers.1 h

-- ---- calls of the replica

-- the same lists of what was put
pub still_puts : {S D : Type 0} (keeps : S → ℕ → List Batch → Running → Type 0) (setup : Setup) (me : ℕ) (taken put more : ℕ → List Message) (s : Still S D) → ((to : ℕ) → more to ≡ put to) → IsStill keeps setup me taken put s → IsStill keeps setup me taken more s
still_puts keeps setup me taken put more s same is = record {
  own = is.own;
  kept = is.kept;
  sendings = is.sendings;
  alone = record { steps = is.alone.steps; are = is.alone.are; runs = is.alone.runs; took = is.alone.took; sent = λ to. is.alone.sent to ∙ ap (map sending_of) (sym (same to)) };
  hands = is.hands;
  from = is.from;
}

module _ {S E D M : Type 0} (keeps : S → ℕ → List Batch → Running → Type 0) (mark : E → M) (owner : M → ℕ) (reaches : M → ℕ → Type 0) (room : M → ℕ → ℕ) (puts gots : E → ℕ → List Message) (setup : Setup) where
  -- the replica took a step that puts nothing
  pub node_stays : (old : Node S E D M) (still : Still S D) → IsNode keeps mark owner reaches room puts gots setup old.still.course.me old → StaysStill keeps setup old.still.course.me old.still still
      → SendsGrow (room (mark old.ends)) old.still.course.entries still.course.entries → IsNode keeps mark owner reaches room puts gots setup old.still.course.me (record old { still = still })
  node_stays old still is stays grows =
      let after = stays is.taken (puts old.ends) is.still in
      record {
        taken = after.0;
        still = after.1;
        got = λ from. is.got from ∙ sym (after.2 from);
        counted = is.counted;
        asked = λ to. let le = is.asked to in let more = grows.no_less to in omega (arith, le, more);
        full = grows.room_kept;
        owned = is.owned;
        peers = is.peers;
      }

  -- ---- gets

  -- no message came
  pub fetched_none : (old : Node S E D M) (ends : E) → IsNode keeps mark owner reaches room puts gots setup old.still.course.me old → mark ends ≡ mark old.ends → AreSame (puts old.ends) (puts ends) → AreSame (gots old.ends) (gots ends)
      → IsNode keeps mark owner reaches room puts gots setup old.still.course.me (record old { ends = ends })
  fetched_none old ends is same put got = record {
    taken = is.taken;
    still = still_puts keeps setup old.still.course.me is.taken (puts old.ends) (puts ends) old.still put is.still;
    got = λ from. got from ∙ is.got from;
    counted = λ to peer. is.counted to peer ∙ ap (λ (ms : List Message). Some (length ms)) (sym (put to));
    asked = λ to. let le = is.asked to in let eq = ap length (put to) in omega (arith, le, eq);
    full = subst (λ m. KeepsRoom (room m) old.still.course.entries) (sym same) is.full;
    owned = ap owner same ∙ is.owned;
    peers = λ to peer. subst (λ m. reaches m to) (sym same) (is.peers to peer);
  }

  -- a message came for a hand that was free
  pub fetched_some : (old : Node S E D M) (ends : E) (from : ℕ) (m : Message) → IsNode keeps mark owner reaches room puts gots setup old.still.course.me old → IsPeer setup old.still.course.me from → slice_index_or old.still.hands from heard.Nothing ≡ heard.Nothing
      → mark ends ≡ mark old.ends → AreSame (puts old.ends) (puts ends) → m.from ≡ from → AddsOne from m (gots old.ends) (gots ends)
      → IsNode keeps mark owner reaches room puts gots setup old.still.course.me (record old { ends = ends; still = record old.still { hands = slice_set old.still.hands from (heard.Message m) } })
  fetched_some old ends from m is peer free same put named got =
      let hands : List Heard = slice_set old.still.hands from (heard.Message m) in
      let lt : from < length old.still.hands = let at = peer.0 in omega (arith, at, is.still.hands) in
      let still : Still S D = record old.still { hands = hands } in
      let held : IsStill keeps setup old.still.course.me is.taken (puts old.ends) still = record {
        own = is.still.own;
        kept = is.still.kept;
        sendings = is.still.sendings;
        alone = is.still.alone;
        hands = length-set old.still.hands from (heard.Message m) ∙ is.still.hands;
        from = from_set old.still.hands from (heard.Message m) is.still.from lt named;
      } in
      record {
        taken = is.taken;
        still = still_puts keeps setup old.still.course.me is.taken (puts old.ends) (puts ends) still put held;
        got = λ j. got j ∙ elim (cases_eq j from) [
          | inl here ↦
              ap (λ b. if b then gots old.ends j ++ m ∷ [] else gots old.ends j) (eq-eqb j from here)
              ∙ ap (λ (ms : List Message). ms ++ m ∷ []) (is.got j)
              ∙ ap (λ (ms : List Message). (is.taken j ++ ms) ++ m ∷ []) (ap (in_hand old.still.hands) here ∙ ap (λ (x : Heard). as_list (message_in x)) free)
              ∙ ap (λ (ms : List Message). ms ++ m ∷ []) (append-nil (is.taken j))
              ∙ ap (λ (ms : List Message). is.taken j ++ ms) (sym (ap (in_hand hands) here ∙ ap (λ (x : Heard). as_list (message_in x)) (get_or-set_same old.still.hands from (heard.Message m) heard.Nothing lt)))
          | inr other ↦
              ap (λ b. if b then gots old.ends j ++ m ∷ [] else gots old.ends j) (ne_eqb j from other)
              ∙ is.got j
              ∙ ap (λ (ms : List Message). is.taken j ++ ms) (sym (ap (λ (x : Heard). as_list (message_in x)) (get_or-set_other old.still.hands from j (heard.Message m) heard.Nothing other)))
        ];
        counted = λ to at. is.counted to at ∙ ap (λ (ms : List Message). Some (length ms)) (sym (put to));
        asked = λ to. let le = is.asked to in let eq = ap length (put to) in omega (arith, le, eq);
        full = subst (λ x. KeepsRoom (room x) old.still.course.entries) (sym same) is.full;
        owned = ap owner same ∙ is.owned;
        peers = λ to at. subst (λ x. reaches x to) (sym same) (is.peers to at);
      }

  pub fetched_held : (old : Node S E D M) (still : Still S D) (ends : E) (from : ℕ) (m : Message) → IsNode keeps mark owner reaches room puts gots setup old.still.course.me old → IsPeer setup old.still.course.me from → slice_index_or old.still.hands from heard.Nothing ≡ heard.Nothing
      → mark ends ≡ mark old.ends → AreSame (puts old.ends) (puts ends) → m.from ≡ from → AddsOne from m (gots old.ends) (gots ends) → still ≡ record old.still { hands = slice_set old.still.hands from (heard.Message m) }
      → IsNode keeps mark owner reaches room puts gots setup old.still.course.me (record old { ends = ends; still = still })
  fetched_held old still ends from m is peer free same put named got holds =
      subst (λ (s : Still S D). IsNode keeps mark owner reaches room puts gots setup old.still.course.me (record old { ends = ends; still = s })) (sym holds) (fetched_some old ends from m is peer free same put named got)

  -- what was fetched was taken
  pub node_took : {X : Type 0} (old mid : Node S E D M) (still : Still S D) (from : ℕ) (number : Option ℕ) (result : Result StepEntry X) → IsNode keeps mark owner reaches room puts gots setup old.still.course.me mid → mid.still.course ≡ old.still.course
      → StaysStill keeps setup mid.still.course.me mid.still still → Answers (asks.Take from None) mid.still.course still.course result → IfOk result (λ entry. entry.ask ≡ asks.Take from number)
      → IsNode keeps mark owner reaches room puts gots setup old.still.course.me (record mid { still = still })
  node_took old mid still from number result is same stays answers asked =
      let me_is : mid.still.course.me ≡ old.still.course.me = ap (λ (c : Course). c.me) same in
      let grows : SendsGrow (room (mark mid.ends)) mid.still.course.entries still.course.entries =
      grows_if (room (mark mid.ends)) (asks.Take from None) mid.still.course still.course result is.full answers (take_unrefused from number result asked) in
      subst (λ i. IsNode keeps mark owner reaches room puts gots setup i (record mid { still = still })) me_is (node_stays mid still (subst (λ i. IsNode keeps mark owner reaches room puts gots setup i mid) (sym me_is) is) stays grows)

  -- no step was taken
  pub node_rests : (old : Node S E D M) (still : Still S D) → IsNode keeps mark owner reaches room puts gots setup old.still.course.me old → IsCourse setup old.still.course.me still.course → keeps still.storage setup.replicas still.course.kept (running_of still.course)
      → IsAsBefore old.still.course still.course → still.hands ≡ old.still.hands → IsNode keeps mark owner reaches room puts gots setup old.still.course.me (record old { still = still })
  node_rests old still is own kept same hands =
      node_stays old still is (λ taken put was. (taken, still_same keeps setup old.still still taken put was own kept same hands, λ from. ap (λ hs. taken from ++ in_hand hs from) hands))
      (sends_same (room (mark old.ends)) old.still.course.entries still.course.entries same.entries is.full)
