-- Names behind a place of a line, and the set that holds them.
use Rattle.std.proofs.Common.{◌≡◌, ℕ, Bool, true, false, cond, not, ◌&&◌, ◌||◌, List, [], ◌∷◌, ◌++◌, length, Bor, refl, sym, ap, ◌∙◌, Ordering, arith}
use Rattle.std.specs.BTreeSet.{BTreeSet, contains, Updates}
use Rattle.std.specs.Cmp.Lexicographic.{slice_cmp}
use Rattle.std.specs.Ordering.{is_eq, nat_cmp}
use Rattle.std.specs.Str.{bytes_eq}
use Rattle.std.proofs.lemmas.List.{append-nil, append_assoc}
use Rattle.std.proofs.lemmas.Map.Text.{is_eq-slice_cmp}
use Rattle.spec_language.specs.Names.{are_free, is_known, is_reserved}

abbrev pub by_bytes : Bor (List ℕ) → Bor (List ℕ) → Ordering
by_bytes x y = slice_cmp nat_cmp x.now y.now

-- behind the first ones no name is reserved or stands twice, and the set holds those names
pub record HoldsBehind {X : Type 0} (name : X → List ℕ) (set : BTreeSet (Bor (List ℕ))) (items first : List X) : Type 0 where
  pub behind : List X
  pub parts : items ≡ first ++ behind
  pub free : are_free name behind ≡ true
  pub held : (q : Bor (List ℕ)) → contains by_bytes set q ≡ is_known name behind q.now

lost : (a b r : Bool) → r ≡ false → (a && b && r) ≡ false
lost true true r e = e
lost true false r e = refl
lost false b r e = refl

or_of : (a b : Bool) → cond a true b ≡ (a || b)
or_of true b = refl
or_of false b = refl

taken_first : (a b r : Bool) → (a || b) ≡ true → (not a && not b && r) ≡ false
taken_first true b r e = refl
taken_first false true r e = refl
taken_first false false r e = absurd cc

pub or_last : (a : Bool) → (a || true) ≡ true
or_last true = refl
or_last false = refl

module _ {X : Type 0} (name : X → List ℕ) where
  pub holds_none : (set : BTreeSet (Bor (List ℕ))) (items : List X) → set.keys ≡ [] → HoldsBehind name set items items
  holds_none set items e = record { behind = []; parts = sym (append-nil items); free = refl; held = λ q. rw e refl }

  free_behind : (first behind : List X) → are_free name behind ≡ false → are_free name (first ++ behind) ≡ false
  free_behind [] behind e = e
  free_behind (x ∷ xs) behind e = lost (not (is_reserved (name x))) (not (is_known name (xs ++ behind) (name x))) _ (free_behind xs behind e)

  -- a name that is neither reserved nor held joins the set
  pub holds_more : (set more : BTreeSet (Bor (List ℕ))) (items first others : List X) (x : X) (key : Bor (List ℕ)) → HoldsBehind name set items first → first ≡ others ++ x ∷ []
      → key.now ≡ name x → is_reserved key.now ≡ false → contains by_bytes set key ≡ false → Updates by_bytes set more key true → HoldsBehind name more items others
  holds_more set more items first others x key h split named plain new up =
      record {
        behind = x ∷ h.behind;
        parts = h.parts ∙ rw split (append_assoc others (x ∷ []) h.behind);
        free = rw (sym named, plain, sym (h.held key) ∙ new) h.free;
        held = λ q. up.0 q ∙ or_of (is_eq (by_bytes key q)) (contains by_bytes set q)
            ∙ ap (λ t. t || contains by_bytes set q) (is_eq-slice_cmp key.now q.now ∙ ap (λ w. bytes_eq w q.now) named)
            ∙ ap (λ t. bytes_eq (name x) q.now || t) (h.held q);
      }

  -- where one is reserved or held, not all are free
  pub not_free : (set : BTreeSet (Bor (List ℕ))) (items first others : List X) (x : X) (key : Bor (List ℕ)) → HoldsBehind name set items first → first ≡ others ++ x ∷ []
      → key.now ≡ name x → (is_reserved key.now || contains by_bytes set key) ≡ true → are_free name items ≡ false
  not_free set items first others x key h split named taken =
      let first_taken : (is_reserved (name x) || is_known name h.behind (name x)) ≡ true
      = ap (λ w. is_reserved w || is_known name h.behind w) (sym named) ∙ ap (λ t. is_reserved key.now || t) (sym (h.held key)) ∙ taken in
      let whole : items ≡ others ++ x ∷ h.behind = h.parts ∙ rw split (append_assoc others (x ∷ []) h.behind) in
      ap (are_free name) whole ∙ free_behind others (x ∷ h.behind) (taken_first _ _ (are_free name h.behind) first_taken)

  -- and where none of them is, all are
  pub all_free : (set : BTreeSet (Bor (List ℕ))) (items first : List X) → HoldsBehind name set items first → length first ≡ 0 → are_free name items ≡ true
  all_free set items [] h none = ap (are_free name) h.parts ∙ h.free
  all_free set items (x ∷ xs) h none = absurd (omega arith)
