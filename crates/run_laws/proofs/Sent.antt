-- The steps that sent, as a schedule counts them.
use Rattle.std.proofs.Common.{◌≡◌, ◌≢◌, inl, inr, ℕ, zero, suc, ◌+◌, ◌<◌, Bool, true, false, cond, List, [], ◌∷◌, ◌++◌, length, refl, sym, ap, subst, ◌∙◌, arith, length-set, eq-eqb, ne_eqb}
use Rattle.std.specs.Prelude.{slice_get, slice_index_or, slice_set, Some, filter, ◌==◌, ◌&&◌}
use Rattle.std.proofs.lemmas.Option.{slice_get_within}
use Rattle.std.proofs.lemmas.List.{length-append, length-map}
use Rattle.std.proofs.lemmas.List.Elements.{filter-append}
use Rattle.std.proofs.lemmas.Bool.{cases_eq}
use Rattle.run_model.specs.declared.step.Order.{Order}
use Rattle.run_model.specs.Worlds.{Standing, Sending, World, sent_to, first_standing, first_world}
use Rattle.run_model.specs.Steps.{links_of}
use Rattle.run_model.proofs.Lists.{get_set_same}
use Rattle.run_model.proofs.WorldLogs.{links_there}
use Rattle.scenario_text.specs.Numbered.{sends_to, is_send, sends_of}

-- behind these orders just their sends count as sent
pub record HasSent (replicas : ℕ) (before : List Order) (w : World) : Type 0 where
  pub long : length w ≡ replicas
  pub counted : (from to : ℕ) → length (sent_to to (slice_index_or (links_of w) from [])) ≡ sends_of from to before

-- the first world has no links
no_links : (n : ℕ) (ups : List Bool) (from : ℕ) → slice_index_or (links_of (first_world n ups)) from [] ≡ []
no_links n [] from = refl
no_links n (up ∷ ups) zero = refl
no_links n (up ∷ ups) (suc from) = no_links n ups from

-- at the start nothing was sent
pub sent_first : (n : ℕ) (ups : List Bool) → length ups ≡ n → HasSent n [] (first_world n ups)
sent_first n ups all = record {
  long = length-map ups (first_standing n) ∙ all;
  counted = λ from to. ap (λ (l : List Sending). length (sent_to to l)) (no_links n ups from);
}

-- one more order of this replica
sends_here : (me to : ℕ) (order : Order) → order.replica ≡ me → sends_of me to (order ∷ []) ≡ cond (sends_to to order.ask) 1 0
sends_here me to order is =
    let mine : (order.replica == me) ≡ true = eq-eqb order.replica me is in
    ap (λ (b : Bool). length (cond (b && sends_to to order.ask) (order ∷ []) [])) mine ∙ one (sends_to to order.ask)
  where
    one : (b : Bool) → length (cond b (order ∷ []) []) ≡ cond b 1 0
    one true = refl
    one false = refl

-- or of another
sends_there : (from to : ℕ) (order : Order) → order.replica ≢ from → sends_of from to (order ∷ []) ≡ 0
sends_there from to order ne = ap (λ (b : Bool). length (cond (b && sends_to to order.ask) (order ∷ []) [])) (ne_eqb order.replica from ne)

-- the sends of orders and one more
sends_more : (from to : ℕ) (before : List Order) (order : Order) → sends_of from to (before ++ order ∷ []) ≡ sends_of from to before + sends_of from to (order ∷ [])
sends_more from to before order = ap length (filter-append (is_send from to) before (order ∷ [])) ∙ length-append (filter (is_send from to) before) (filter (is_send from to) (order ∷ []))

-- the links of the others stay
links_other : (w : World) (i j : ℕ) (x : Standing) → j ≢ i → slice_index_or (links_of (slice_set w i x)) j [] ≡ slice_index_or (links_of w) j []
links_other [] i j x ne = refl
links_other (p ∷ w) zero zero x ne = absurd (ne refl)
links_other (p ∷ w) zero (suc j) x ne = refl
links_other (p ∷ w) (suc i) zero x ne = refl
links_other (p ∷ w) (suc i) (suc j) x ne = links_other w i j x (λ same. ne (ap suc same))

-- one more order is answered
pub sent_next : (n : ℕ) (before : List Order) (order : Order) (w : World) (old new : Standing) (more : List Sending) → HasSent n before w → slice_get w order.replica ≡ Some old → new.sendings ≡ old.sendings ++ more
    → ((to : ℕ) → length (sent_to to more) ≡ cond (sends_to to order.ask) 1 0) → HasSent n (before ++ order ∷ []) (slice_set w order.replica new)
sent_next n before order w old new more h was is counted =
    let me : ℕ = order.replica in
    let next : World = slice_set w me new in
    let here : slice_index_or (links_of next) me [] ≡ slice_index_or (links_of w) me [] ++ more =
    links_there next me new (get_set_same w me new (slice_get_within w me old was)) ∙ is ∙ ap (λ (l : List Sending). l ++ more) (sym (links_there w me old was)) in
    record {
      long = length-set w me new ∙ h.long;
      counted = λ from to. elim (cases_eq from me) [
        | inl same ↦ subst (λ k. length (sent_to to (slice_index_or (links_of next) k [])) ≡ sends_of k to (before ++ order ∷ [])) (sym same)
            (counted_here to (slice_index_or (links_of w) me []) (slice_index_or (links_of next) me []) here (h.counted me to))
        | inr other ↦
            omega (arith, ap (λ (l : List Sending). length (sent_to to l)) (links_other w me from new other), h.counted from to, sends_more from to before order, sends_there from to order (λ same. other (sym same)))
      ];
    }
  where
    counted_here : (to : ℕ) (was now : List Sending) → now ≡ was ++ more → length (sent_to to was) ≡ sends_of order.replica to before → length (sent_to to now) ≡ sends_of order.replica to (before ++ order ∷ [])
    counted_here to was now grown so_far =
        let parted = filter-append (λ (s : Sending). s.to == to) was more in
        let size = length-append (sent_to to was) (sent_to to more) in
        ap (λ (l : List Sending). length (sent_to to l)) grown ∙ ap length parted ∙ size
        ∙ omega (arith, so_far, counted to, sends_here order.replica to order refl, sends_more order.replica to before order)

-- ---- what a number names

-- a place within a list has an element
pub get_some : {X : Type 0} (xs : List X) (k : ℕ) → k < length xs → (x : X) × (slice_get xs k ≡ Some x)
get_some [] k lt = absurd (omega (arith, lt))
get_some (x ∷ xs) zero lt = (x, refl)
get_some (x ∷ xs) (suc k) lt = get_some xs k (omega (arith, lt))

-- the step that sent, which a number names, is there
pub named_some : (n : ℕ) (before : List Order) (w : World) (me from number : ℕ) → HasSent n before w → number < sends_of from me before
    → (s : Sending) × (slice_get (sent_to me (slice_index_or (links_of w) from [])) number ≡ Some s)
named_some n before w me from number h lt =
    let link : List Sending = slice_index_or (links_of w) from [] in
    get_some (sent_to me link) number (omega (arith, lt, h.counted from me))
