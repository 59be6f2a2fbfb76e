-- Room behind what is on a link.
use Rattle.std.proofs.Common.{◌≡◌, ℕ, ◌+◌, ◌-◌, ◌<◌, List, [], ◌∷◌, ◌++◌, length, get_or, refl, sym, ap, ◌∙◌, arith, length-set}
use Rattle.std.specs.Prelude.{slice_set, MatchOption, None, Some, Option}
use Rattle.std.proofs.lemmas.List.{get_or-set_same, length-append, set-get_or, set-set}
use Rattle.std.proofs.Math.Seq.{set-append_seam}
use Rattle.run_model.specs.declared.step.Ask.{Ask}
use Rattle.run_model.specs.declared.step.Ask.TheVariants as asks
use Rattle.run_model.specs.Worlds.{Running, Up, Down}
use Rattle.replica_course.specs.declared.heard.Heard.{Heard}
use Rattle.replica_course.specs.declared.heard.Heard.TheVariants as heard
use Rattle.replica_world.specs.Links.{link_place, put_on}
use Rattle.replica_world.specs.Stepping.{IsAtHand, IsOnLink, with_put, with_room}

-- a link that is as it was
pub stays : (links : List (List Heard)) (at : ℕ) (l none : List Heard) → l ≡ get_or links at none → slice_set links at l ≡ links
stays links at l none is = ap (slice_set links at) is ∙ set-get_or links at none

pub room_whole : (before links : List (List Heard)) (from to : ℕ) (h : Heard) → length before ≡ 256 → links ≡ with_put before from to h → length links ≡ 256
room_whole before links from to h whole is = ap length is ∙ length-set before (link_place from to) (put_on before from to ++ h ∷ []) ∙ whole

-- what is on the link that has room
pub on_it : (before links : List (List Heard)) (from to : ℕ) (h : Heard) (none : List Heard) → from < 16 → to < 16 → length before ≡ 256 → links ≡ with_put before from to h → get_or links (link_place from to) none ≡ put_on before from to ++ h ∷ []
on_it before links from to h none from_within to_within whole is =
    ap (λ ls. get_or ls (link_place from to) none) is ∙ get_or-set_same before (link_place from to) (put_on before from to ++ h ∷ []) none (omega (arith, from_within, to_within, whole))

-- the link as it was found
link_is : (before links : List (List Heard)) (from to at : ℕ) (h : Heard) (link : List Heard) → from < 16 → to < 16 → length before ≡ 256 → links ≡ with_put before from to h → at ≡ link_place from to → link ≡ get_or links at link → link ≡ put_on before from to ++ h ∷ []
link_is before links from to at h link from_within to_within whole is at_is found = found ∙ ap (λ i. get_or links i link) at_is ∙ on_it before links from to h link from_within to_within whole is

-- room that is filled
pub filled : (before links : List (List Heard)) (from to at : ℕ) (old new : Heard) (link put : List Heard) (last : ℕ) → from < 16 → to < 16 → length before ≡ 256 → links ≡ with_put before from to old → at ≡ link_place from to → link ≡ get_or links at link
    → last ≡ length link - 1 → put ≡ slice_set link last new → slice_set links at put ≡ with_put before from to new
filled before links from to at old new link put last from_within to_within whole is at_is found last_is set =
    let as_found : link ≡ put_on before from to ++ old ∷ [] = link_is before links from to at old link from_within to_within whole is at_is found in
    let long : last ≡ length (put_on before from to) = omega (arith, last_is, ap length as_found, length-append (put_on before from to) (old ∷ [])) in
    let now : put ≡ put_on before from to ++ new ∷ [] = set ∙ ap (λ l. slice_set l last new) as_found ∙ ap (λ n. slice_set (put_on before from to ++ old ∷ []) n new) long ∙ set-append_seam (put_on before from to) old [] new in
    ap (λ i. slice_set links i put) at_is ∙ ap (slice_set links (link_place from to)) now ∙ ap (λ ls. slice_set ls (link_place from to) (put_on before from to ++ new ∷ [])) is
    ∙ set-set before (link_place from to) (put_on before from to ++ old ∷ []) (put_on before from to ++ new ∷ [])

-- lists that end with one element each
front_same : (xs ys : List Heard) (x y : Heard) → xs ++ x ∷ [] ≡ ys ++ y ∷ [] → xs ≡ ys
front_same xs ys x y is = by_length xs ys is
  where
    longer : (zs : List Heard) (z : Heard) → length (zs ++ z ∷ []) ≡ length zs + 1
    longer zs z = length-append zs (z ∷ [])

    by_length : (one other : List Heard) → one ++ x ∷ [] ≡ other ++ y ∷ [] → one ≡ other
    by_length [] [] same = refl
    by_length [] (b ∷ other) same = absurd (omega (arith, ap length same, longer (b ∷ other) y))
    by_length (a ∷ one) [] same = absurd (omega (arith, ap length same, longer (a ∷ one) x))
    by_length (a ∷ one) (b ∷ other) same =
        let heads : a ≡ b = cc in
        let tails : one ++ x ∷ [] ≡ other ++ y ∷ [] = cc in
        ap (λ h. h ∷ one) heads ∙ ap (λ l. b ∷ l) (by_length one other tails)

-- room that is taken off
pub emptied : (before links : List (List Heard)) (from to at : ℕ) (h : Heard) (link rest : List Heard) (popped : Option Heard) → from < 16 → to < 16 → length before ≡ 256 → links ≡ with_put before from to h → at ≡ link_place from to → link ≡ get_or links at link
    → MatchOption popped ((link ≡ []) × (rest ≡ [])) (λ last. link ≡ rest ++ last ∷ []) → slice_set links at rest ≡ before
emptied before links from to at h link rest None from_within to_within whole is at_is found split =
    let as_found : link ≡ put_on before from to ++ h ∷ [] = link_is before links from to at h link from_within to_within whole is at_is found in
    absurd (omega (arith, ap length split.0, ap length as_found, length-append (put_on before from to) (h ∷ [])))
emptied before links from to at h link rest (Some last) from_within to_within whole is at_is found split =
    let as_found : link ≡ put_on before from to ++ h ∷ [] = link_is before links from to at h link from_within to_within whole is at_is found in
    let same : rest ≡ put_on before from to = front_same rest (put_on before from to) last h (sym split ∙ as_found) in
    ap (λ i. slice_set links i rest) at_is ∙ ap (slice_set links (link_place from to)) same ∙ ap (λ ls. slice_set ls (link_place from to) (put_on before from to)) is
    ∙ set-set before (link_place from to) (put_on before from to ++ h ∷ []) (put_on before from to) ∙ set-get_or before (link_place from to) []

-- ---- what a step looks at isn't room

pub room_at_hand : (links : List (List Heard)) (me : ℕ) (ask : Ask) (running : Running) (h : Heard) → IsAtHand (with_room links me ask) me ask running h → IsAtHand links me ask running h
room_at_hand links me (asks.Do inst) running h at = at
room_at_hand links me (asks.Send to number) running h at = at
room_at_hand links me (asks.Take from None) running h at = at
room_at_hand links me (asks.Take from (Some number)) Up h at = at
room_at_hand links me (asks.Take from (Some number)) (Down pending) h at = at
room_at_hand links me asks.Crash running h at = at
room_at_hand links me asks.Recover running h at = at

pub room_on_link : (links : List (List Heard)) (me : ℕ) (ask : Ask) → IsOnLink links me ask → IsOnLink (with_room links me ask) me ask
room_on_link links me (asks.Do inst) on = on
room_on_link links me (asks.Send to number) on = on
room_on_link links me (asks.Take from number) on = on
room_on_link links me asks.Crash on = on
room_on_link links me asks.Recover on = on

pub room_in_all : (before links : List (List Heard)) (me : ℕ) (ask : Ask) → length before ≡ 256 → links ≡ with_room before me ask → length links ≡ 256
room_in_all before links me (asks.Do inst) whole is = ap length is ∙ whole
room_in_all before links me (asks.Send to number) whole is = room_whole before links me to heard.Nothing whole is
room_in_all before links me (asks.Take from number) whole is = ap length is ∙ whole
room_in_all before links me asks.Crash whole is = ap length is ∙ whole
room_in_all before links me asks.Recover whole is = ap length is ∙ whole
