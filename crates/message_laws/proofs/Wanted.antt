-- What a replica wants fits.
use Rattle.std.proofs.Common.{◌≡◌, ℕ, ◌-◌, ◌≤◌, Bool, true, false, cond, List, [], ◌∷◌, ◌++◌, length, map, filter, subst, arith}
use Rattle.std.specs.Prelude.{Some, not}
use Rattle.std.specs.List.{AllByRecursion, list_any}
use Rattle.std.proofs.lemmas.Bool.{cond_both}
use Rattle.std.proofs.lemmas.List.{length_push, length-map}
use Rattle.spec_model.specs.declared.plan.Setup.{Setup}
use Rattle.spec_model.specs.declared.right.Right.{Right}
use Rattle.spec_model.specs.declared.right.Amount.{Amount}
use Rattle.spec_model.specs.declared.right.Amount.TheVariants as amount
use Rattle.spec_model.specs.declared.right.Need.{Need}
use Rattle.spec_model.specs.declared.right.Held.{Held}
use Rattle.spec_model.specs.declared.right.Held.TheVariants as held
use Rattle.spec_model.specs.declared.right.Want.{Want}
use Rattle.spec_model.specs.declared.right.WantAsk.{WantAsk}
use Rattle.spec_model.specs.declared.right.WantAsk.TheVariants as asked
use Rattle.spec_model.specs.declared.right.Lacking.{Lacking}
use Rattle.run_model.specs.Fitting.{AmountFits, AskFits, NeedFits, WantFits}
use Rattle.run_model.specs.Levels.{first_lacking, is_met}
use Rattle.run_model.specs.Wants.{ask_less, ask_of, behind, is_on, need_of, noted, replaced, still_wanted, want_less, want_of}
use Rattle.run_model.proofs.Lists.{each_append, each_filter, each_weaker}
use Rattle.message_laws.proofs.Lists.{each_dropped, filter_short, length_dropped}

-- ---- what is lacking

-- the need that is lacking is one of them
pub lacking_fits : (P : Need → Type 0) (n : ℕ) (h : Need → Held) (needs : List Need) (l : Lacking) → AllByRecursion P needs → first_lacking n h needs ≡ Some l → P l.need
lacking_fits P n h [] l all is = absurd cc
lacking_fits P n h (need ∷ needs) l all is = by_test (is_met n h need) (λ later. lacking_fits P n h needs l all.1 later) is
  where
    need_is : Some (record { need = need; held = h need }) ≡ Some l → need ≡ l.need
    need_is same = cc

    by_test : (b : Bool) → (first_lacking n h needs ≡ Some l → P l.need) → cond b (first_lacking n h needs) (Some (record { need = need; held = h need })) ≡ Some l → P l.need
    by_test true later same = later same
    by_test false later same = subst P (need_is same) all.0

-- what is asked for where an amount that fits is lacking
ask_fits : (setup : Setup) (r : Right) (a : Amount) → AmountFits setup r a → AskFits setup r (ask_of a)
ask_fits setup r (amount.Count n) fits = fits
ask_fits setup r (amount.Level l) fits = fits
ask_fits setup r (amount.Points span) fits = fits
ask_fits setup r (amount.AnyForbid literals) fits = fits.0

pub want_fits : (setup : Setup) (need : Need) → NeedFits setup need → WantFits setup (want_of need)
want_fits setup need h = record { of = h.of; much = ask_fits setup need.right need.amount h.much }

-- ---- what is noted

replaced_fit : (P : Want → Type 0) (wants : List Want) (want : Want) → AllByRecursion P wants → P want → AllByRecursion P (replaced wants want)
replaced_fit P [] want all h = tt
replaced_fit P (w ∷ wants) want all h = (cond_both (is_on want.right w) want w P (λ same. h) (λ other. all.0), replaced_fit P wants want all.1 h)

pub noted_fit : (P : Want → Type 0) (wants : List Want) (want : Want) → AllByRecursion P wants → P want → AllByRecursion P (noted wants want)
noted_fit P wants want all h = cond_both (list_any (is_on want.right) wants) (replaced wants want) (behind wants want) (AllByRecursion P)
    (λ old. replaced_fit P wants want all h) (λ new. each_dropped P (length wants - 7) (wants ++ want ∷ []) (each_append P wants (want ∷ []) all (h, tt)))

pub noted_few : (wants : List Want) (want : Want) → length wants ≤ 8 → length (noted wants want) ≤ 8
noted_few wants want few = cond_both (list_any (is_on want.right) wants) (replaced wants want) (behind wants want) (λ (l : List Want). length l ≤ 8)
    (λ old. let same = length-map wants (λ (w : Want). cond (is_on want.right w) want w) in omega (arith, same, few))
    (λ new. let long = length_dropped (length wants - 7) (wants ++ want ∷ []) in let one = length_push wants want in omega (arith, long, one, few))

-- ---- what is still wanted

-- the wants that aren't met fit as all did
pub still_fit : (setup : Setup) (n : ℕ) (holds : Need → Held) (wants : List Want) → AllByRecursion (WantFits setup) wants → AllByRecursion (WantFits setup) (still_wanted n holds wants)
still_fit setup n holds wants all =
    let test : Want → Bool = λ want. not (is_met n holds (need_of want)) in
    each_weaker (λ (w : Want). WantFits setup w × (test w ≡ true)) (WantFits setup) (λ w h. h.0) (filter test wants) (each_filter (WantFits setup) test wants all)

-- and are no more
pub still_few : (n : ℕ) (holds : Need → Held) (wants : List Want) → length (still_wanted n holds wants) ≤ length wants
still_few n holds wants = filter_short (λ (w : Want). not (is_met n holds (need_of w))) wants

-- what is still asked for is no more than was asked for
ask_less_fits : (setup : Setup) (r : Right) (have : Held) (ask : WantAsk) → AskFits setup r ask → AskFits setup r (ask_less have ask)
ask_less_fits setup r (held.Count n) (asked.Count m) fits = (fits.0, omega (arith, fits.1))
ask_less_fits setup r (held.Count n) (asked.Level l) fits = fits
ask_less_fits setup r (held.Count n) (asked.Points span) fits = fits
ask_less_fits setup r (held.Shares n m) ask fits = fits
ask_less_fits setup r (held.Points missing run) ask fits = fits

pub wants_less_fit : (setup : Setup) (holds : Need → Held) (wants : List Want) → AllByRecursion (WantFits setup) wants → AllByRecursion (WantFits setup) (map (want_less holds) wants)
wants_less_fit setup holds [] all = tt
wants_less_fit setup holds (want ∷ wants) all = (record { of = all.0.of; much = ask_less_fits setup want.right (holds (need_of want)) want.ask all.0.much }, wants_less_fit setup holds wants all.1)
