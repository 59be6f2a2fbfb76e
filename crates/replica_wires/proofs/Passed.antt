-- What passed on links, after one call more.
use Rattle.std.proofs.Common.{◌≡◌, ℕ, ◌+◌, ◌<◌, ◌≤◌, List, [], ◌∷◌, ◌++◌, length, get_or, set, slice_get, ◌==◌, if◌then◌else◌, Some, refl, sym, ap, ◌∙◌, arith}
use Rattle.std.specs.Option.{option_map_or}
use Rattle.std.proofs.lemmas.List.{length-map, map-append}
use Rattle.std.proofs.lemmas.Option.{slice_get_read}
use Rattle.run_model.specs.declared.message.Message.{Message}
use Rattle.replica_links.specs.declared.link.Link.{Link}
use Rattle.replica_links.specs.declared.pass.PutPass.{PutPass}
use Rattle.replica_links.specs.declared.pass.GetPass.{GetPass}
use Rattle.replica_links.specs.Passes.{put_of, taken_of, known_taken, room_of}
use Rattle.replica_wires.specs.declared.letter.Letter.{Letter}
use Rattle.replica_wires.specs.declared.web.Web.{Web}
use Rattle.replica_wires.specs.Letters.{addressed, all_addressed, letter_in}
use Rattle.replica_wires.specs.Webs.{HasLink, room_on}
use Rattle.replica_wires.proofs.Rows.{listed, one_changed, none_more}

-- the messages that were put, by link
abbrev pub put_list : ℕ → ℕ → PutPass Letter → List Message
put_list me to pass = all_addressed me to (put_of pass)

abbrev pub got_list : ℕ → ℕ → GetPass Letter → List Message
got_list me from pass = all_addressed from me (taken_of pass)

one_addressed : (from to : ℕ) (letters : List Letter) (letter : Letter) → all_addressed from to (letters ++ letter ∷ []) ≡ all_addressed from to letters ++ addressed from to letter ∷ []
one_addressed from to letters letter = map-append (addressed from to) letters (letter ∷ [])

pub puts_one : (me : ℕ) (xs : List (PutPass Letter)) (m : Message) (old new : PutPass Letter) → m.from ≡ me → m.to < length xs → old ≡ get_or xs m.to old
    → put_of new ≡ put_of old ++ letter_in m ∷ []
    → (j : ℕ) → listed (put_list me) (set xs m.to new) j ≡ if j == m.to then listed (put_list me) xs j ++ m ∷ [] else listed (put_list me) xs j
puts_one me xs m old new sender within at is =
    one_changed (put_list me) xs m.to old new (λ l. l ++ m ∷ []) within at
    (ap (all_addressed me m.to) is ∙ one_addressed me m.to (put_of old) (letter_in m) ∙ ap (λ (n : ℕ). put_list me m.to old ++ addressed n m.to (letter_in m) ∷ []) (sym sender))

pub puts_none : (me to : ℕ) (xs : List (PutPass Letter)) (old new : PutPass Letter) → to < length xs → old ≡ get_or xs to old → put_of new ≡ put_of old
    → (j : ℕ) → listed (put_list me) (set xs to new) j ≡ listed (put_list me) xs j
puts_none me to xs old new within at is = none_more (put_list me) xs to old new within at (ap (all_addressed me to) is)

pub gets_one : (me from : ℕ) (xs : List (GetPass Letter)) (letter : Letter) (m : Message) (old new : GetPass Letter) → m ≡ addressed from me letter → from < length xs → old ≡ get_or xs from old
    → taken_of new ≡ taken_of old ++ letter ∷ []
    → (j : ℕ) → listed (got_list me) (set xs from new) j ≡ if j == from then listed (got_list me) xs j ++ m ∷ [] else listed (got_list me) xs j
gets_one me from xs letter m old new is_it within at is =
    one_changed (got_list me) xs from old new (λ l. l ++ m ∷ []) within at
    (ap (all_addressed from me) is ∙ one_addressed from me (taken_of old) letter ∙ ap (λ (n : Message). got_list me from old ++ n ∷ []) (sym is_it))

pub gets_none : (me from : ℕ) (xs : List (GetPass Letter)) (old new : GetPass Letter) → from < length xs → old ≡ get_or xs from old → taken_of new ≡ taken_of old
    → (j : ℕ) → listed (got_list me) (set xs from new) j ≡ listed (got_list me) xs j
gets_none me from xs old new within at is = none_more (got_list me) xs from old new within at (ap (all_addressed from me) is)

-- a link that was full has as many messages put as there is room for
pub is_full : (web : Web) (me to : ℕ) (link : Link Letter) (xs : List (PutPass Letter)) (old : PutPass Letter) → HasLink web me to link → to < length xs → old ≡ get_or xs to old
    → length (known_taken old) + room_of link ≤ length (put_of old) → room_on web me to ≤ length (listed (put_list me) xs to)
is_full web me to link xs old has within at full =
    let room : room_on web me to ≡ room_of link = ap (λ o. option_map_or (λ (l : Link Letter). room_of l) o 0) has in
    let there : slice_get xs to ≡ Some old = slice_get_read xs (length xs) to old refl within at in
    let put : listed (put_list me) xs to ≡ put_list me to old = ap (λ o. option_map_or (put_list me to) o []) there in
    omega (arith, room, ap length put, length-map (put_of old) (addressed me to), full)
