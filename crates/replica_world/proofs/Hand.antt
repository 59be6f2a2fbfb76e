-- What is at hand for a step.
use Rattle.std.proofs.Common.{◌≡◌, ℕ, zero, suc, ◌+◌, ◌<◌, ◌≤◌, List, [], ◌∷◌, length, map, refl, sym, ap, subst, ◌∙◌, arith}
use Rattle.std.specs.Prelude.{slice_get, Some, None, Option}
use Rattle.std.proofs.lemmas.List.{length-map}
use Rattle.spec_model.specs.declared.plan.Setup.{Setup}
use Rattle.spec_model.specs.declared.spec.Spec.{Spec}
use Rattle.run_model.specs.declared.step.Ask.{Ask}
use Rattle.run_model.specs.declared.step.Ask.TheVariants as asks
use Rattle.run_model.specs.declared.step.Order.{Order}
use Rattle.run_model.specs.Steps.{Hears, links_of, next_stamp}
use Rattle.run_model.specs.Worlds.{Running, Up, Down, Sending, World, sent_to}
use Rattle.scenario_text.specs.Numbered.{IsAskNumbered, sends_of}
use Rattle.scenario_text.specs.WellFormed.{StepFits}
use Rattle.replica_course.specs.Steps.{AskFits, HasInHand, IsCounted, heard_of}
use Rattle.replica_course.specs.declared.heard.Heard.{Heard}
use Rattle.replica_course.specs.declared.heard.Heard.TheVariants as heard
use Rattle.replica_world.specs.Links.{AreLinks, IsPut, put_on, sendings_at}
use Rattle.replica_world.specs.Stepping.{IsAtHand, IsOnLink, SendsWithin}

pub get_map : {X Y : Type 0} (f : X → Y) (xs : List X) (k : ℕ) (x : X) → slice_get xs k ≡ Some x → slice_get (map f xs) k ≡ Some (f x)
get_map f [] k x is = absurd cc
get_map f (y ∷ xs) zero x is = let same : y ≡ x = cc in ap (λ z. Some (f z)) same
get_map f (y ∷ xs) (suc k) x is = get_map f xs k x is

get_mapped : {X Y : Type 0} (f : X → Y) (xs : List X) (k : ℕ) (y : Y) → slice_get (map f xs) k ≡ Some y → (x : X) × (slice_get xs k ≡ Some x) × (f x ≡ y)
get_mapped f [] k y is = absurd cc
get_mapped f (x ∷ xs) zero y is = (x, refl, cc)
get_mapped f (x ∷ xs) (suc k) y is = get_mapped f xs k y is

-- ---- what a line allows

-- it fits its replica
pub ask_fits : (setup : Setup) (me : ℕ) (running : Running) (ask : Ask) → StepFits setup.spec setup.replicas me ask → AskFits setup me running ask
ask_fits setup me running (asks.Do inst) fits = fits
ask_fits setup me Up (asks.Send to number) fits = ((fits.within, fits.other), λ none. never fits.given (sym none ∙ fits.is_given))
  where
    never : (n : ℕ) → None ≡ Some n → ⊥
    never n is = cc
ask_fits setup me (Down pending) (asks.Send to number) fits = (fits.within, fits.other)
ask_fits setup me running (asks.Take from number) fits = (fits.within, fits.other)
ask_fits setup me running asks.Crash fits = tt
ask_fits setup me running asks.Recover fits = tt

pub sends_within : (spec : Spec) (replicas me : ℕ) (ask : Ask) → replicas ≤ 8 → StepFits spec replicas me ask → SendsWithin ask
sends_within spec replicas me (asks.Do inst) few fits = tt
sends_within spec replicas me (asks.Send to number) few fits = omega (arith, few, fits.within)
sends_within spec replicas me (asks.Take from number) few fits = tt
sends_within spec replicas me asks.Crash few fits = tt
sends_within spec replicas me asks.Recover few fits = tt

-- what a take names is there
pub on_link : (setup : Setup) (done : List Order) (w : World) (links : List (List Heard)) (me : ℕ) (ask : Ask) → AreLinks setup done w links → setup.replicas ≤ 8 → me < setup.replicas → StepFits setup.spec setup.replicas me ask → IsAskNumbered done me ask
    → IsOnLink links me ask
on_link setup done w links me (asks.Do inst) h few lt fits numbered = tt
on_link setup done w links me (asks.Send to number) h few lt fits numbered = tt
on_link setup done w links me (asks.Take from None) h few lt fits numbered = absurd numbered
on_link setup done w links me (asks.Take from (Some number)) h few lt fits numbered = (omega (arith, few, fits.within), number, refl, omega (arith, numbered, h.counted from me fits.within lt))
on_link setup done w links me asks.Crash h few lt fits numbered = tt
on_link setup done w links me asks.Recover h few lt fits numbered = tt

-- so many were sent as were put
long_sent : (setup : Setup) (done : List Order) (w : World) (links : List (List Heard)) (me to : ℕ) → AreLinks setup done w links → me < setup.replicas → to < setup.replicas → length (put_on links me to) ≡ length (sent_to to (sendings_at w me))
long_sent setup done w links me to h lm lt =
    sym (length-map (put_on links me to) (heard_of to)) ∙ sym (ap length (h.sent me to lm lt)) ∙ length-map (sent_to to (sendings_at w me)) (λ (s : Sending). Some s)

-- a send has the number of those on its link
pub send_counted : (setup : Setup) (done : List Order) (w : World) (links : List (List Heard)) (me : ℕ) (ask : Ask) → AreLinks setup done w links → me < setup.replicas → IsAskNumbered done me ask → (to number : ℕ) → ask ≡ asks.Send to (Some number) → to < setup.replicas
    → number ≡ length (put_on links me to)
send_counted setup done w links me ask h lm numbered to number is lt =
    let next : number ≡ sends_of me to done = subst (IsAskNumbered done me) is numbered in
    next ∙ sym (h.counted me to lm lt)

-- and of those like it before
pub is_counted : (setup : Setup) (done : List Order) (w : World) (links : List (List Heard)) (me : ℕ) (ask : Ask) → AreLinks setup done w links → me < setup.replicas → StepFits setup.spec setup.replicas me ask → IsAskNumbered done me ask → IsCounted ask (sendings_at w me)
is_counted setup done w links me (asks.Do inst) h lm fits numbered = tt
is_counted setup done w links me (asks.Send to None) h lm fits numbered = tt
is_counted setup done w links me (asks.Send to (Some number)) h lm fits numbered = numbered ∙ sym (h.counted me to lm fits.within) ∙ long_sent setup done w links me to h lm fits.within
is_counted setup done w links me (asks.Take from number) h lm fits numbered = tt
is_counted setup done w links me asks.Crash h lm fits numbered = tt
is_counted setup done w links me asks.Recover h lm fits numbered = tt

-- ---- what is at hand

-- nothing is at hand for a replica that is down
pub down_has_nothing : (links : List (List Heard)) (me : ℕ) (ask : Ask) (running : Running) (h : Heard) → (running ≡ Up → ⊥) → h ≡ heard.Nothing → IsAtHand links me ask running h
down_has_nothing links me (asks.Do inst) running h down is = is
down_has_nothing links me (asks.Send to number) running h down is = is
down_has_nothing links me (asks.Take from None) running h down is = is
down_has_nothing links me (asks.Take from (Some number)) Up h down is = absurd (down refl)
down_has_nothing links me (asks.Take from (Some number)) (Down pending) h down is = is
down_has_nothing links me asks.Crash running h down is = is
down_has_nothing links me asks.Recover running h down is = is

-- what is put has a number
named : (steps from number : ℕ) (h : Heard) → IsPut steps from number h → HasInHand (asks.Take from (Some number)) Up h
named steps from number heard.Nothing put = absurd put
named steps from number (heard.Unsent stamp) put = λ none. never none
  where
    never : Some number ≡ None → ⊥
    never is = cc
named steps from number (heard.Message message) put = (put.1, ap (λ k. Some k) (sym put.2))

-- a step has in hand what it may have
pub has_in_hand : (setup : Setup) (done : List Order) (w : World) (links : List (List Heard)) (me : ℕ) (ask : Ask) (running : Running) (h : Heard) → AreLinks setup done w links → me < setup.replicas → StepFits setup.spec setup.replicas me ask → IsAtHand links me ask running h
    → HasInHand ask running h
has_in_hand setup done w links me (asks.Do inst) running h are lm fits at = at
has_in_hand setup done w links me (asks.Send to number) running h are lm fits at = at
has_in_hand setup done w links me (asks.Take from None) Up h are lm fits at = subst (HasInHand (asks.Take from None) Up) (sym at) refl
has_in_hand setup done w links me (asks.Take from None) (Down pending) h are lm fits at = at
has_in_hand setup done w links me (asks.Take from (Some number)) Up h are lm fits at = named (length done) from number h (are.each from me number h fits.within lm at)
has_in_hand setup done w links me (asks.Take from (Some number)) (Down pending) h are lm fits at = at
has_in_hand setup done w links me asks.Crash running h are lm fits at = at
has_in_hand setup done w links me asks.Recover running h are lm fits at = at

-- it hears what was sent
hears_put : (setup : Setup) (done : List Order) (w : World) (links : List (List Heard)) (from me number : ℕ) (h : Heard) → AreLinks setup done w links → from < setup.replicas → me < setup.replicas → slice_get (put_on links from me) number ≡ Some h
    → Hears (links_of w) me (asks.Take from (Some number)) Up (heard_of me h)
hears_put setup done w links from me number h are lf lm at =
    let there : slice_get (map (λ (s : Sending). Some s) (sent_to me (sendings_at w from))) number ≡ Some (heard_of me h) =
    ap (λ (l : List (Option Sending)). slice_get l number) (are.sent from me lf lm) ∙ get_map (heard_of me) (put_on links from me) number h at in
    let found = get_mapped (λ (s : Sending). Some s) (sent_to me (sendings_at w from)) number (heard_of me h) there in
    (found.0, found.1, sym found.2)

pub hears : (setup : Setup) (done : List Order) (w : World) (links : List (List Heard)) (me : ℕ) (ask : Ask) (running : Running) (h : Heard) → AreLinks setup done w links → me < setup.replicas → StepFits setup.spec setup.replicas me ask → IsAtHand links me ask running h
    → Hears (links_of w) me ask running (heard_of me h)
hears setup done w links me (asks.Do inst) running h are lm fits at = ap (heard_of me) at
hears setup done w links me (asks.Send to number) running h are lm fits at = ap (heard_of me) at
hears setup done w links me (asks.Take from None) running h are lm fits at = ap (heard_of me) at
hears setup done w links me (asks.Take from (Some number)) Up h are lm fits at = hears_put setup done w links from me number h are fits.within lm at
hears setup done w links me (asks.Take from (Some number)) (Down pending) h are lm fits at = ap (heard_of me) at
hears setup done w links me asks.Crash running h are lm fits at = ap (heard_of me) at
hears setup done w links me asks.Recover running h are lm fits at = ap (heard_of me) at

-- what is heard is a step of a line before this
heard_early : (steps last from k me : ℕ) (h : Heard) → IsPut steps from k h → last ≤ steps → next_stamp last (heard_of me h) ≤ steps + 1
heard_early steps last from k me heard.Nothing put le = absurd put
heard_early steps last from k me (heard.Unsent stamp) put le = omega (arith, put, le)
heard_early steps last from k me (heard.Message message) put le = omega (arith, put.0, le)

none_early : (steps last me : ℕ) (h : Heard) → h ≡ heard.Nothing → last ≤ steps → next_stamp last (heard_of me h) ≤ steps + 1
none_early steps last me h is le = subst (λ (x : Heard). next_stamp last (heard_of me x) ≤ steps + 1) (sym is) (omega (arith, le))

pub hand_early : (setup : Setup) (done : List Order) (w : World) (links : List (List Heard)) (me last : ℕ) (ask : Ask) (running : Running) (h : Heard) → AreLinks setup done w links → me < setup.replicas → StepFits setup.spec setup.replicas me ask → IsAtHand links me ask running h → last ≤ length done
    → next_stamp last (heard_of me h) ≤ length done + 1
hand_early setup done w links me last (asks.Do inst) running h are lm fits at le = none_early (length done) last me h at le
hand_early setup done w links me last (asks.Send to number) running h are lm fits at le = none_early (length done) last me h at le
hand_early setup done w links me last (asks.Take from None) running h are lm fits at le = none_early (length done) last me h at le
hand_early setup done w links me last (asks.Take from (Some number)) Up h are lm fits at le = heard_early (length done) last from number me h (are.each from me number h fits.within lm at) le
hand_early setup done w links me last (asks.Take from (Some number)) (Down pending) h are lm fits at le = none_early (length done) last me h at le
hand_early setup done w links me last asks.Crash running h are lm fits at le = none_early (length done) last me h at le
hand_early setup done w links me last asks.Recover running h are lm fits at le = none_early (length done) last me h at le

-- only a take hears something
pub heard_by_take : (ls : List (List Sending)) (me : ℕ) (ask : Ask) (running : Running) (s : Sending) → Hears ls me ask running (Some s) → (from : ℕ) × (number : ℕ) × Hears ls me (asks.Take from (Some number)) running (Some s)
heard_by_take ls me (asks.Do inst) running s h = absurd (never s h)
  where
    never : (s : Sending) → Some s ≡ None → ⊥
    never s is = cc
heard_by_take ls me (asks.Send to number) running s h = absurd cc
heard_by_take ls me (asks.Take from None) running s h = absurd cc
heard_by_take ls me (asks.Take from (Some number)) Up s h = (from, number, h)
heard_by_take ls me (asks.Take from (Some number)) (Down pending) s h = absurd cc
heard_by_take ls me asks.Crash running s h = absurd cc
heard_by_take ls me asks.Recover running s h = absurd cc
