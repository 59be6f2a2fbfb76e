-- The links as replicas take their orders.
use Rattle.std.proofs.Common.{◌≡◌, ◌≢◌, inl, inr, ℕ, zero, suc, ◌+◌, ◌<◌, ◌≤◌, Bool, true, false, eqb, List, [], ◌∷◌, ◌++◌, length, refl, sym, ap, subst, ◌∙◌, arith, length-set}
use Rattle.std.specs.Prelude.{slice_get, slice_set, slice_index_or, Some, None, Option, map, filter, if◌then◌else◌, ◌&&◌}
use Rattle.std.proofs.lemmas.Bool.{eq-eqb, ne_eqb}
use Rattle.std.proofs.lemmas.Bool.Decides.{eqb_tells}
use Rattle.std.proofs.lemmas.List.{map-append, append-nil, length-append, length-map, get_or-set_same, get_or-set_other}
use Rattle.std.proofs.lemmas.List.Elements.{filter-append}
use Rattle.spec_model.specs.declared.plan.Setup.{Setup}
use Rattle.run_model.specs.declared.message.Message.{Message}
use Rattle.run_model.specs.declared.step.Ask.{Ask}
use Rattle.run_model.specs.declared.step.Ask.TheVariants as asks
use Rattle.run_model.specs.declared.step.Order.{Order}
use Rattle.run_model.specs.Worlds.{Sending, Standing, World, sent_to}
use Rattle.run_model.specs.Steps.{links_of}
use Rattle.run_model.proofs.Lists.{get_push}
use Rattle.scenario_text.specs.Numbered.{is_send, sends_of, sends_to}
use Rattle.scenario_text.specs.WellFormed.{StepFits}
use Rattle.replica_course.specs.Steps.{SentFits, heard_of, sent_by}
use Rattle.replica_course.specs.declared.heard.Heard.{Heard}
use Rattle.replica_course.specs.declared.heard.Heard.TheVariants as heard
use Rattle.replica_world.specs.Links.{AreLinks, IsPut, link_place, put_on, sendings_at}
use Rattle.replica_world.specs.Stepping.{links_after, put_by}

-- ---- what the replicas sent, in a world in which one stands anew

links_set : (w : World) (me : ℕ) (p : Standing) → links_of (slice_set w me p) ≡ slice_set (links_of w) me p.sendings
links_set [] me p = refl
links_set (q ∷ w) zero p = refl
links_set (q ∷ w) (suc me) p = ap (λ (ls : List (List Sending)). q.sendings ∷ ls) (links_set w me p)

sendings_same : (w : World) (me : ℕ) (p : Standing) → me < length w → sendings_at (slice_set w me p) me ≡ p.sendings
sendings_same w me p lt = ap (λ (ls : List (List Sending)). slice_index_or ls me []) (links_set w me p) ∙ get_or-set_same (links_of w) me p.sendings [] (omega (arith, lt, length-map w (λ (q : Standing). q.sendings)))

sendings_other : (w : World) (me : ℕ) (p : Standing) (j : ℕ) → j ≢ me → sendings_at (slice_set w me p) j ≡ sendings_at w j
sendings_other w me p j ne = ap (λ (ls : List (List Sending)). slice_index_or ls j []) (links_set w me p) ∙ get_or-set_other (links_of w) me j p.sendings [] ne

-- ---- a step that puts nothing on a link

put_later : (steps more from k : ℕ) (h : Heard) → steps ≤ more → IsPut steps from k h → IsPut more from k h
put_later steps more from k heard.Nothing le put = put
put_later steps more from k (heard.Unsent stamp) le put = omega (arith, put, le)
put_later steps more from k (heard.Message message) le put = (omega (arith, put.0, le), put.1, put.2)

-- it is no send
abbrev IsSilent : Ask → Type 0
IsSilent ask = (to : ℕ) → sends_to to ask ≡ false

no_send : (from to : ℕ) (o : Order) → IsSilent o.ask → is_send from to o ≡ false
no_send from to o silent = ap (λ b. eqb o.replica from && b) (silent to) ∙ and_false (eqb o.replica from)
  where
    and_false : (b : Bool) → (b && false) ≡ false
    and_false true = refl
    and_false false = refl

sends_more : (from to : ℕ) (done : List Order) (o : Order) → sends_of from to (done ++ o ∷ []) ≡ sends_of from to done + length (if is_send from to o then o ∷ [] else [])
sends_more from to done o = ap length (filter-append (is_send from to) done (o ∷ [])) ∙ length-append (filter (is_send from to) done) (if is_send from to o then o ∷ [] else [])

links_silent : (setup : Setup) (done : List Order) (o : Order) (w : World) (p : Standing) (links : List (List Heard)) → IsSilent o.ask → o.replica < length w → p.sendings ≡ sendings_at w o.replica ++ [] → AreLinks setup done w links
    → AreLinks setup (done ++ o ∷ []) (slice_set w o.replica p) links
links_silent setup done o w p links silent lt same h = record {
  whole = h.whole;
  sent = λ from to f t. ap (λ (l : List Sending). map (λ (s : Sending). Some s) (sent_to to l)) (as_before from) ∙ h.sent from to f t;
  counted = λ from to f t. omega (arith, h.counted from to f t, sends_more from to done o, ap (λ b. length (if b then o ∷ [] else [])) (no_send from to o silent));
  each = λ from to k m f t is. put_later (length done) (length (done ++ o ∷ [])) from k m (omega (arith, length-append done (o ∷ []))) (h.each from to k m f t is);
}
  where
    as_before : (from : ℕ) → sendings_at (slice_set w o.replica p) from ≡ sendings_at w from
    as_before from = elim (eqb_tells from o.replica) [
      | inl is ↦ ap (sendings_at (slice_set w o.replica p)) is.1 ∙ sendings_same w o.replica p lt ∙ same ∙ append-nil (sendings_at w o.replica) ∙ ap (sendings_at w) (sym is.1)
      | inr ne ↦ sendings_other w o.replica p from ne.1
    ]

-- ---- a step that puts something on a link

-- links from and to replicas below 16 have places of their own
places_differ : (a b c d : ℕ) → b < 16 → d < 16 → link_place a b ≡ link_place c d → (a ≡ c) × (b ≡ d)
places_differ a b c d lb ld is = (omega (arith, lb, ld, is), omega (arith, lb, ld, is))

put_same : (links : List (List Heard)) (from to : ℕ) (l : List Heard) → link_place from to < length links → put_on (slice_set links (link_place from to) l) from to ≡ l
put_same links from to l lt = get_or-set_same links (link_place from to) l [] lt

put_other : (links : List (List Heard)) (from to a b : ℕ) (l : List Heard) → link_place a b ≢ link_place from to → put_on (slice_set links (link_place from to) l) a b ≡ put_on links a b
put_other links from to a b l ne = get_or-set_other links (link_place from to) (link_place a b) l [] ne

sent_more : (to : ℕ) (sendings : List Sending) (s : Sending) → sent_to to (sendings ++ s ∷ []) ≡ sent_to to sendings ++ (if eqb s.to to then s ∷ [] else [])
sent_more to sendings s = filter-append (λ (q : Sending). eqb q.to to) sendings (s ∷ [])

-- what is put on a link by an order to send, with the step that sent it
record IsSent (setup : Setup) (done : List Order) (o : Order) (to number : ℕ) (w : World) (links : List (List Heard)) (p : Standing) (s : Sending) (h : Heard) : Type 0 where
  ask : o.ask ≡ asks.Send to (Some number)
  few : setup.replicas ≤ 8
  from_within : o.replica < setup.replicas
  to_within : to < setup.replicas
  world : o.replica < length w
  sendings : p.sendings ≡ sendings_at w o.replica ++ s ∷ []
  to_is : s.to ≡ to
  hears : heard_of to h ≡ Some s
  number_is : number ≡ length (put_on links o.replica to)
  put : IsPut (length done + 1) o.replica number h

-- the sends of this order on a link
sends_this : (o : Order) (to number from t : ℕ) → o.ask ≡ asks.Send to (Some number) → is_send from t o ≡ (eqb o.replica from && eqb to t)
sends_this o to number from t is = ap (λ a. eqb o.replica from && sends_to t a) is

-- one link in a world
record IsLink (setup : Setup) (done : List Order) (w : World) (links : List (List Heard)) (from to : ℕ) : Type 0 where
  sent : map (λ s. Some s) (sent_to to (sendings_at w from)) ≡ map (heard_of to) (put_on links from to)
  counted : length (put_on links from to) ≡ sends_of from to done
  each : (k : ℕ) (h : Heard) → slice_get (put_on links from to) k ≡ Some h → IsPut (length done) from k h

link_at : (setup : Setup) (done : List Order) (w : World) (links : List (List Heard)) (from to : ℕ) → AreLinks setup done w links → from < setup.replicas → to < setup.replicas → IsLink setup done w links from to
link_at setup done w links from to h lf lt = record { sent = h.sent from to lf lt; counted = h.counted from to lf lt; each = λ k m is. h.each from to k m lf lt is }

-- nothing is put on this link
link_quiet : (setup : Setup) (done : List Order) (o : Order) (w new : World) (links put : List (List Heard)) (a b : ℕ) → sent_to b (sendings_at new a) ≡ sent_to b (sendings_at w a) → put_on put a b ≡ put_on links a b → is_send a b o ≡ false
    → IsLink setup done w links a b → IsLink setup (done ++ o ∷ []) new put a b
link_quiet setup done o w new links put a b same kept none h = record {
  sent = ap (map (λ (s : Sending). Some s)) same ∙ h.sent ∙ ap (map (heard_of b)) (sym kept);
  counted = omega (arith, ap length kept, h.counted, sends_more a b done o, ap (λ c. length (if c then o ∷ [] else [])) none);
  each = λ k m is. put_later (length done) (length (done ++ o ∷ [])) a k m (omega (arith, length-append done (o ∷ []))) (h.each k m (ap (λ (l : List Heard). slice_get l k) (sym kept) ∙ is));
}

-- this is put on this link
link_put : (setup : Setup) (done : List Order) (o : Order) (w new : World) (links put : List (List Heard)) (a b : ℕ) (s : Sending) (m : Heard) → sent_to b (sendings_at new a) ≡ sent_to b (sendings_at w a) ++ s ∷ [] → put_on put a b ≡ put_on links a b ++ m ∷ []
    → heard_of b m ≡ Some s → is_send a b o ≡ true → IsPut (length done + 1) a (length (put_on links a b)) m → IsLink setup done w links a b → IsLink setup (done ++ o ∷ []) new put a b
link_put setup done o w new links put a b s m more kept hears one is_put h =
    let long : length (done ++ o ∷ []) ≡ length done + 1 = length-append done (o ∷ []) in
    let old : List Heard = put_on links a b in
    let last : length (old ++ m ∷ []) ≡ length old + 1 = length-append old (m ∷ []) in
    record {
      sent = ap (map (λ (q : Sending). Some q)) more
          ∙ map-append (λ (q : Sending). Some q) (sent_to b (sendings_at w a)) (s ∷ [])
          ∙ ap (λ (l : List (Option Sending)). l ++ Some s ∷ []) h.sent
          ∙ ap (λ (x : Option Sending). map (heard_of b) old ++ x ∷ []) (sym hears)
          ∙ sym (map-append (heard_of b) old (m ∷ []))
          ∙ ap (map (heard_of b)) (sym kept);
      counted = omega (arith, ap length kept, last, h.counted, sends_more a b done o, ap (λ c. length (if c then o ∷ [] else [])) one);
      each = λ k x is. elim (get_push old m k x (ap (λ (l : List Heard). slice_get l k) (sym kept) ∙ is)) [
        | inl before ↦ put_later (length done) (length (done ++ o ∷ [])) a k x (omega (arith, long)) (h.each k x before)
        | inr last ↦ put_later (length done + 1) (length (done ++ o ∷ [])) a k x (omega (arith, long)) (subst (λ i. IsPut (length done + 1) a i x) (sym last.0) (subst (IsPut (length done + 1) a (length old)) last.1 is_put))
      ];
    }

both : (b c : Bool) → b ≡ true → c ≡ true → (b && c) ≡ true
both b c x y = ap (λ d. d && c) x ∙ y

first_not : (b c : Bool) → b ≡ false → (b && c) ≡ false
first_not b c x = ap (λ d. d && c) x

second_not : (b c : Bool) → c ≡ false → (b && c) ≡ false
second_not true c x = x
second_not false c x = refl

links_sent : (setup : Setup) (done : List Order) (o : Order) (to number : ℕ) (w : World) (p : Standing) (s : Sending) (m : Heard) (links : List (List Heard)) → IsSent setup done o to number w links p s m → AreLinks setup done w links
    → AreLinks setup (done ++ o ∷ []) (slice_set w o.replica p) (slice_set links (link_place o.replica to) (put_on links o.replica to ++ m ∷ []))
links_sent setup done o to number w p s m links is h = record {
  whole = length-set links (link_place o.replica to) more ∙ h.whole;
  sent = λ a b la lb. (on_link a b la lb).sent;
  counted = λ a b la lb. (on_link a b la lb).counted;
  each = λ a b k x la lb there. (on_link a b la lb).each k x there;
}
  where
    more : List Heard
    more = put_on links o.replica to ++ m ∷ []

    new : World
    new = slice_set w o.replica p

    put : List (List Heard)
    put = slice_set links (link_place o.replica to) more

    here : sendings_at new o.replica ≡ sendings_at w o.replica ++ s ∷ []
    here = sendings_same w o.replica p is.world ∙ is.sendings

    sends : (a b : ℕ) → is_send a b o ≡ (eqb o.replica a && eqb to b)
    sends a b = sends_this o to number a b is.ask

    sent_here : (b : ℕ) → sent_to b (sendings_at new o.replica) ≡ sent_to b (sendings_at w o.replica) ++ (if eqb to b then s ∷ [] else [])
    sent_here b = ap (sent_to b) here ∙ sent_more b (sendings_at w o.replica) s ∙ ap (λ t. sent_to b (sendings_at w o.replica) ++ (if eqb t b then s ∷ [] else [])) is.to_is

    this : IsLink setup (done ++ o ∷ []) new put o.replica to
    this = link_put setup done o w new links put o.replica to s m
        (sent_here to ∙ ap (λ c. sent_to to (sendings_at w o.replica) ++ (if c then s ∷ [] else [])) (eq-eqb to to refl))
        (put_same links o.replica to more (omega (arith, h.whole, is.from_within, is.to_within, is.few)))
        is.hears
        (sends o.replica to ∙ both (eqb o.replica o.replica) (eqb to to) (eq-eqb o.replica o.replica refl) (eq-eqb to to refl))
        (subst (λ i. IsPut (length done + 1) o.replica i m) is.number_is is.put)
        (link_at setup done w links o.replica to h is.from_within is.to_within)

    apart : (a b : ℕ) → b < setup.replicas → ((a ≡ o.replica) × (b ≡ to) → ⊥) → put_on put a b ≡ put_on links a b
    apart a b lb ne = put_other links o.replica to a b more (λ same. ne (places_differ a b o.replica to (omega (arith, lb, is.few)) (omega (arith, is.to_within, is.few)) same))

    on_link : (a b : ℕ) → a < setup.replicas → b < setup.replicas → IsLink setup (done ++ o ∷ []) new put a b
    on_link a b la lb = elim (eqb_tells a o.replica) [
      | inl from ↦ elim (eqb_tells b to) [
        | inl at ↦ subst (λ i. IsLink setup (done ++ o ∷ []) new put i b) (sym from.1) (subst (IsLink setup (done ++ o ∷ []) new put o.replica) (sym at.1) this)
        | inr other ↦ link_quiet setup done o w new links put a b
            (ap (λ i. sent_to b (sendings_at new i)) from.1 ∙ sent_here b ∙ ap (λ c. sent_to b (sendings_at w o.replica) ++ (if c then s ∷ [] else [])) (ne_eqb to b (λ same. other.1 (sym same)))
            ∙ append-nil (sent_to b (sendings_at w o.replica)) ∙ ap (λ i. sent_to b (sendings_at w i)) (sym from.1))
            (apart a b lb (λ both. other.1 both.1))
            (sends a b ∙ second_not (eqb o.replica a) (eqb to b) (ne_eqb to b (λ same. other.1 (sym same))))
            (link_at setup done w links a b h la lb)
      ]
      | inr other ↦ link_quiet setup done o w new links put a b
          (ap (sent_to b) (sendings_other w o.replica p a other.1))
          (apart a b lb (λ both. other.1 both.0))
          (sends a b ∙ first_not (eqb o.replica a) (eqb to b) (ne_eqb o.replica a (λ same. other.1 (sym same))))
          (link_at setup done w links a b h la lb)
    ]

-- ---- each step

-- what a step leaves for the links, at one of few replicas
pub record IsLeft (setup : Setup) (done : List Order) (o : Order) (w : World) (links : List (List Heard)) (p : Standing) (stamp : ℕ) (sent : Option Message) : Type 0 where
  pub few : setup.replicas ≤ 8
  pub within : o.replica < setup.replicas
  pub world : o.replica < length w
  pub peer : StepFits setup.spec setup.replicas o.replica o.ask
  pub counted : (to number : ℕ) → o.ask ≡ asks.Send to (Some number) → to < setup.replicas → number ≡ length (put_on links o.replica to)
  pub stamp_early : stamp ≤ length done + 1
  pub sent_fits : SentFits setup o.replica o.ask stamp sent
  pub sendings : p.sendings ≡ sendings_at w o.replica ++ sent_by o.ask stamp sent

-- a step that sent puts what stands for it on its link
put_fits : (setup : Setup) (me to number steps stamp : ℕ) (sent : Option Message) → stamp ≤ steps → SentFits setup me (asks.Send to (Some number)) stamp sent → IsPut steps me number (put_by stamp sent)
put_fits setup me to number steps stamp None le fits = le
put_fits setup me to number steps stamp (Some m) le fits =
    let same : number ≡ m.number = some_same number m.number fits.1.1 in
    (omega (arith, le, fits.3), fits.1.0, sym same)
  where
    some_same : (a b : ℕ) → Some a ≡ Some b → a ≡ b
    some_same a b is = cc

put_hears : (setup : Setup) (me to number stamp : ℕ) (sent : Option Message) → SentFits setup me (asks.Send to (Some number)) stamp sent → heard_of to (put_by stamp sent) ≡ Some (record { to = to; stamp = stamp; message = sent })
put_hears setup me to number stamp None fits = refl
put_hears setup me to number stamp (Some m) fits =
    ap (λ i. let s : Sending = record { to = i; stamp = m.stamp; message = Some m } in Some s) fits.2
    ∙ ap (λ i. let s : Sending = record { to = to; stamp = i; message = Some m } in Some s) fits.3

pub links_more : (setup : Setup) (done : List Order) (o : Order) (w : World) (p : Standing) (links : List (List Heard)) (stamp : ℕ) (sent : Option Message) → IsLeft setup done o w links p stamp sent → AreLinks setup done w links
    → AreLinks setup (done ++ o ∷ []) (slice_set w o.replica p) (links_after links o.replica o.ask stamp sent)
links_more setup done o w p links stamp sent left h = by_ask o.ask refl
  where
    silent : (ask : Ask) → o.ask ≡ ask → IsSilent ask → links_after links o.replica ask stamp sent ≡ links → sent_by ask stamp sent ≡ []
        → AreLinks setup (done ++ o ∷ []) (slice_set w o.replica p) (links_after links o.replica o.ask stamp sent)
    silent ask is quiet same none =
        subst (AreLinks setup (done ++ o ∷ []) (slice_set w o.replica p)) (sym (ap (λ (a : Ask). links_after links o.replica a stamp sent) is ∙ same))
        (links_silent setup done o w p links (subst IsSilent (sym is) quiet) left.world (left.sendings ∙ ap (λ (a : Ask). sendings_at w o.replica ++ sent_by a stamp sent) is ∙ ap (λ (l : List Sending). sendings_at w o.replica ++ l) none) h)

    sends : (to number : ℕ) → o.ask ≡ asks.Send to (Some number) → AreLinks setup (done ++ o ∷ []) (slice_set w o.replica p) (links_after links o.replica o.ask stamp sent)
    sends to number is =
        let peer : StepFits setup.spec setup.replicas o.replica (asks.Send to (Some number)) = subst (StepFits setup.spec setup.replicas o.replica) is left.peer in
        let fits : SentFits setup o.replica (asks.Send to (Some number)) stamp sent = subst (λ (a : Ask). SentFits setup o.replica a stamp sent) is left.sent_fits in
        let s : Sending = record { to = to; stamp = stamp; message = sent } in
        subst (AreLinks setup (done ++ o ∷ []) (slice_set w o.replica p)) (sym (ap (λ (a : Ask). links_after links o.replica a stamp sent) is))
        (links_sent setup done o to number w p s (put_by stamp sent) links (record {
          ask = is;
          few = left.few;
          from_within = left.within;
          to_within = peer.within;
          world = left.world;
          sendings = left.sendings ∙ ap (λ (a : Ask). sendings_at w o.replica ++ sent_by a stamp sent) is;
          to_is = refl;
          hears = put_hears setup o.replica to number stamp sent fits;
          number_is = left.counted to number is peer.within;
          put = put_fits setup o.replica to number (length done + 1) stamp sent left.stamp_early fits;
        }) h)

    never : (n : ℕ) → None ≡ Some n → ⊥
    never n is = cc

    by_ask : (ask : Ask) → o.ask ≡ ask → AreLinks setup (done ++ o ∷ []) (slice_set w o.replica p) (links_after links o.replica o.ask stamp sent)
    by_ask (asks.Do inst) is = silent (asks.Do inst) is (λ to. refl) refl refl
    by_ask (asks.Send to (Some number)) is = sends to number is
    by_ask (asks.Send to None) is =
        let peer : StepFits setup.spec setup.replicas o.replica (asks.Send to None) = subst (StepFits setup.spec setup.replicas o.replica) is left.peer in
        absurd (never peer.given peer.is_given)
    by_ask (asks.Take from number) is = silent (asks.Take from number) is (λ to. refl) refl refl
    by_ask asks.Crash is = silent asks.Crash is (λ to. refl) refl refl
    by_ask asks.Recover is = silent asks.Recover is (λ to. refl) refl refl
