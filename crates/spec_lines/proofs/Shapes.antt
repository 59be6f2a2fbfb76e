-- The tokens of each line of a specification, and how they are written.
use Rattle.std.proofs.Common.{◌≡◌, ℕ, Bool, true, false, List, [], ◌∷◌, ◌++◌, refl, sym, ap, ◌∙◌, append_assoc, append-nil}
use Rattle.std.specs.Prelude.{Option, Some, None, codes, decimal}
use Rattle.line_text.specs.declared.token.Token.{Token}
use Rattle.line_text.specs.declared.token.Token.TheVariants.{Word, Number, Mark, Arrow}
use Rattle.line_text.specs.Spelling.{Part, One, Gap, spell, tokens_in_parts, begins_apart, is_apart}
use Rattle.line_text.specs.Writing.{listing_text}
use Rattle.line_text.proofs.Inverse.{flag_tokens, listing_tokens}
use Rattle.line_text.proofs.Listing.{spell_append, tokens_append, apart_append, listing_parts, listing_spelt, listing_read, listing_apart}
use Rattle.spec_model.specs.declared.spec.Rule.{Rule}
use Rattle.spec_lines.specs.declared.item.NamedVar.{NamedVar}
use Rattle.spec_lines.specs.declared.item.NamedParam.{NamedParam}
use Rattle.spec_lines.specs.declared.item.NamedTerm.{NamedTerm}
use Rattle.spec_lines.specs.declared.item.NamedTerm.TheVariants as terms
use Rattle.spec_lines.specs.declared.line.NamedLiteral.{NamedLiteral}
use Rattle.spec_lines.specs.declared.line.NamedLiteral.TheVariants as literals
use Rattle.spec_lines.specs.declared.line.SpecLine.{SpecLine}
use Rattle.spec_lines.specs.declared.line.SpecLine.TheVariants as lines
use Rattle.spec_lines.specs.Texts as texts

-- ---- tokens

abbrev pub name_tokens : List ℕ → List Token
name_tokens w = Word w ∷ []

abbrev pub var_tokens : NamedVar → List Token
var_tokens v = Word v.name ∷ Mark 58 ∷ Word v.sort ∷ []

abbrev pub param_tokens : NamedParam → List Token
param_tokens p = Word p.name ∷ Mark 58 ∷ Word p.sort ∷ flag_tokens p.interval (codes "interval")

abbrev pub term_tokens : NamedTerm → List Token
term_tokens (terms.Param w) = Word w ∷ []
term_tokens terms.Every = Mark 42 ∷ []

abbrev pub literal_tokens : NamedLiteral → List Token
literal_tokens (literals.Atom pred vars) = Word pred ∷ listing_tokens name_tokens vars
literal_tokens (literals.Equal left right) = Word left ∷ Mark 61 ∷ Word right ∷ []

abbrev pub more_tokens : List ℕ → List NamedLiteral → List Token
more_tokens word [] = []
more_tokens word (x ∷ xs) = Word word ∷ (literal_tokens x ++ more_tokens word xs)

abbrev pub literals_tokens : List ℕ → List NamedLiteral → List Token
literals_tokens word [] = []
literals_tokens word (x ∷ xs) = literal_tokens x ++ more_tokens word xs

abbrev pub bound_tokens : List ℕ → Option ℕ → List Token
bound_tokens word None = []
bound_tokens word (Some n) = Word word ∷ Number n ∷ []

abbrev pub touch_word : Bool → List ℕ
touch_word true = codes "set"
touch_word false = codes "clear"

abbrev pub change_word : Bool → List ℕ
change_word true = codes "add"
change_word false = codes "sub"

-- the tokens of a line
abbrev pub tokens_of_line : SpecLine → List Token
tokens_of_line (lines.Sort name size) = Word (codes "sort") ∷ Word name ∷ Number size ∷ []
tokens_of_line (lines.Pred name sorts rule first) = Word (codes "pred") ∷ Word name ∷ (listing_tokens name_tokens sorts ++ (Word (texts.rule_text rule) ∷ flag_tokens first (codes "true")))
tokens_of_line (lines.Num name sorts init min max) = Word (codes "num") ∷ Word name ∷ (listing_tokens name_tokens sorts ++ (Word (codes "init") ∷ Number init ∷ (bound_tokens (codes "min") min ++ bound_tokens (codes "max") max)))
tokens_of_line (lines.Clause vars premise conclusion mask) = Word (codes "clause") ∷ (listing_tokens var_tokens vars ++ (literals_tokens (codes "and") premise ++ (Arrow ∷ (literals_tokens (codes "or") conclusion ++ flag_tokens mask (codes "mask")))))
tokens_of_line (lines.Op name params) = Word (codes "op") ∷ Word name ∷ listing_tokens param_tokens params
tokens_of_line (lines.Touch truth pred ts) = Word (touch_word truth) ∷ Word pred ∷ listing_tokens term_tokens ts
tokens_of_line (lines.Change raises amount num params) = Word (change_word raises) ∷ Number amount ∷ Word num ∷ listing_tokens name_tokens params
tokens_of_line (lines.Free first second) = Word (codes "free") ∷ Word first ∷ Word second ∷ []

-- ---- the same with the spaces between them

abbrev flag_parts : Bool → List ℕ → List Part
flag_parts true w = Gap ∷ One (Word w) ∷ []
flag_parts false w = []

abbrev name_parts : List ℕ → List Part
name_parts w = One (Word w) ∷ []

abbrev var_parts : NamedVar → List Part
var_parts v = One (Word v.name) ∷ One (Mark 58) ∷ One (Word v.sort) ∷ []

abbrev param_parts : NamedParam → List Part
param_parts p = One (Word p.name) ∷ One (Mark 58) ∷ One (Word p.sort) ∷ flag_parts p.interval (codes "interval")

abbrev term_parts : NamedTerm → List Part
term_parts (terms.Param w) = One (Word w) ∷ []
term_parts terms.Every = One (Mark 42) ∷ []

abbrev literal_parts : NamedLiteral → List Part
literal_parts (literals.Atom pred vars) = One (Word pred) ∷ listing_parts name_parts vars
literal_parts (literals.Equal left right) = One (Word left) ∷ Gap ∷ One (Mark 61) ∷ Gap ∷ One (Word right) ∷ []

abbrev more_parts : List ℕ → List NamedLiteral → List Part
more_parts word [] = []
more_parts word (x ∷ xs) = Gap ∷ One (Word word) ∷ Gap ∷ (literal_parts x ++ more_parts word xs)

abbrev literals_parts : List ℕ → List NamedLiteral → List Part
literals_parts word [] = []
literals_parts word (x ∷ xs) = Gap ∷ (literal_parts x ++ more_parts word xs)

abbrev bound_parts : List ℕ → Option ℕ → List Part
bound_parts word None = []
bound_parts word (Some n) = Gap ∷ One (Word word) ∷ Gap ∷ One (Number n) ∷ []

-- the parts of a line
abbrev pub parts_of_line : SpecLine → List Part
parts_of_line (lines.Sort name size) = One (Word (codes "sort")) ∷ Gap ∷ One (Word name) ∷ Gap ∷ One (Number size) ∷ []
parts_of_line (lines.Pred name sorts rule first) = One (Word (codes "pred")) ∷ Gap ∷ One (Word name) ∷ (listing_parts name_parts sorts ++ (Gap ∷ One (Word (texts.rule_text rule)) ∷ flag_parts first (codes "true")))
parts_of_line (lines.Num name sorts init min max) = One (Word (codes "num")) ∷ Gap ∷ One (Word name) ∷ (listing_parts name_parts sorts ++ (Gap ∷ One (Word (codes "init")) ∷ Gap ∷ One (Number init) ∷ (bound_parts (codes "min") min ++ bound_parts (codes "max") max)))
parts_of_line (lines.Clause vars premise conclusion mask) = One (Word (codes "clause")) ∷ Gap ∷ (listing_parts var_parts vars ++ (literals_parts (codes "and") premise ++ (Gap ∷ One Arrow ∷ (literals_parts (codes "or") conclusion ++ flag_parts mask (codes "mask")))))
parts_of_line (lines.Op name params) = One (Word (codes "op")) ∷ Gap ∷ One (Word name) ∷ listing_parts param_parts params
parts_of_line (lines.Touch truth pred ts) = One (Word (touch_word truth)) ∷ Gap ∷ One (Word pred) ∷ listing_parts term_parts ts
parts_of_line (lines.Change raises amount num params) = One (Word (change_word raises)) ∷ Gap ∷ One (Number amount) ∷ Gap ∷ One (Word num) ∷ listing_parts name_parts params
parts_of_line (lines.Free first second) = One (Word (codes "free")) ∷ Gap ∷ One (Word first) ∷ Gap ∷ One (Word second) ∷ []

-- ---- the tokens among the parts

flag_same : (b : Bool) (w : List ℕ) → tokens_in_parts (flag_parts b w) ≡ flag_tokens b w
flag_same true w = refl
flag_same false w = refl

param_same : (p : NamedParam) → tokens_in_parts (param_parts p) ≡ param_tokens p
param_same p = ap (λ (ts : List Token). Word p.name ∷ Mark 58 ∷ Word p.sort ∷ ts) (flag_same p.interval (codes "interval"))

term_same : (t : NamedTerm) → tokens_in_parts (term_parts t) ≡ term_tokens t
term_same (terms.Param w) = refl
term_same terms.Every = refl

names_same : (names : List (List ℕ)) → tokens_in_parts (listing_parts name_parts names) ≡ listing_tokens name_tokens names
names_same names = listing_read name_parts name_tokens (λ w. refl) names

literal_same : (x : NamedLiteral) → tokens_in_parts (literal_parts x) ≡ literal_tokens x
literal_same (literals.Atom pred vars) = ap (λ (ts : List Token). Word pred ∷ ts) (names_same vars)
literal_same (literals.Equal left right) = refl

-- what stands behind is the same, and what stands before it
joined : (ps qs : List Part) (ts us : List Token) → tokens_in_parts ps ≡ ts → tokens_in_parts qs ≡ us → tokens_in_parts (ps ++ qs) ≡ ts ++ us
joined ps qs ts us e f = tokens_append ps qs ∙ rw (e, f) refl

more_same : (word : List ℕ) (xs : List NamedLiteral) → tokens_in_parts (more_parts word xs) ≡ more_tokens word xs
more_same word [] = refl
more_same word (x ∷ xs) = ap (λ (ts : List Token). Word word ∷ ts) (joined (literal_parts x) (more_parts word xs) (literal_tokens x) (more_tokens word xs) (literal_same x) (more_same word xs))

literals_same : (word : List ℕ) (xs : List NamedLiteral) → tokens_in_parts (literals_parts word xs) ≡ literals_tokens word xs
literals_same word [] = refl
literals_same word (x ∷ xs) = joined (literal_parts x) (more_parts word xs) (literal_tokens x) (more_tokens word xs) (literal_same x) (more_same word xs)

bound_same : (word : List ℕ) (o : Option ℕ) → tokens_in_parts (bound_parts word o) ≡ bound_tokens word o
bound_same word None = refl
bound_same word (Some n) = refl

pub line_same : (line : SpecLine) → tokens_in_parts (parts_of_line line) ≡ tokens_of_line line
line_same (lines.Sort name size) = refl
line_same (lines.Pred name sorts rule first) =
    ap (λ (ts : List Token). Word (codes "pred") ∷ Word name ∷ ts) (joined (listing_parts name_parts sorts) (Gap ∷ One (Word (texts.rule_text rule)) ∷ flag_parts first (codes "true")) _ _ (names_same sorts) (ap (λ (ts : List Token). Word (texts.rule_text rule) ∷ ts) (flag_same first (codes "true"))))
line_same (lines.Num name sorts init min max) =
    ap (λ (ts : List Token). Word (codes "num") ∷ Word name ∷ ts) (joined (listing_parts name_parts sorts) (Gap ∷ One (Word (codes "init")) ∷ Gap ∷ One (Number init) ∷ (bound_parts (codes "min") min ++ bound_parts (codes "max") max)) _ _ (names_same sorts)
    (ap (λ (ts : List Token). Word (codes "init") ∷ Number init ∷ ts) (joined (bound_parts (codes "min") min) (bound_parts (codes "max") max) _ _ (bound_same (codes "min") min) (bound_same (codes "max") max))))
line_same (lines.Clause vars premise conclusion mask) =
    ap (λ (ts : List Token). Word (codes "clause") ∷ ts) (joined (listing_parts var_parts vars) (literals_parts (codes "and") premise ++ (Gap ∷ One Arrow ∷ (literals_parts (codes "or") conclusion ++ flag_parts mask (codes "mask")))) _ _ (listing_read var_parts var_tokens (λ v. refl) vars)
    (joined (literals_parts (codes "and") premise) (Gap ∷ One Arrow ∷ (literals_parts (codes "or") conclusion ++ flag_parts mask (codes "mask"))) _ _ (literals_same (codes "and") premise)
    (ap (λ (ts : List Token). Arrow ∷ ts) (joined (literals_parts (codes "or") conclusion) (flag_parts mask (codes "mask")) _ _ (literals_same (codes "or") conclusion) (flag_same mask (codes "mask"))))))
line_same (lines.Op name params) = ap (λ (ts : List Token). Word (codes "op") ∷ Word name ∷ ts) (listing_read param_parts param_tokens param_same params)
line_same (lines.Touch truth pred ts) = ap (λ (us : List Token). Word (touch_word truth) ∷ Word pred ∷ us) (listing_read term_parts term_tokens term_same ts)
line_same (lines.Change raises amount num params) = ap (λ (ts : List Token). Word (change_word raises) ∷ Number amount ∷ Word num ∷ ts) (names_same params)
line_same (lines.Free first second) = refl

-- ---- words stand apart

flag_begins : (b : Bool) (w : List ℕ) → begins_apart (flag_parts b w) ≡ true
flag_begins true w = refl
flag_begins false w = refl

flag_apart : (b : Bool) (w : List ℕ) → is_apart (flag_parts b w) ≡ true
flag_apart true w = refl
flag_apart false w = refl

param_apart : (p : NamedParam) → is_apart (param_parts p) ≡ true
param_apart p = rw (flag_begins p.interval (codes "interval")) (flag_apart p.interval (codes "interval"))

term_apart : (t : NamedTerm) → is_apart (term_parts t) ≡ true
term_apart (terms.Param w) = refl
term_apart terms.Every = refl

list_begins : {A : Type 0} → (part : A → List Part) (xs : List A) → begins_apart (listing_parts part xs) ≡ true
list_begins part [] = refl
list_begins part (x ∷ xs) = refl

-- a word before a list
word_list : {A : Type 0} → (part : A → List Part) → ((x : A) → is_apart (part x) ≡ true) → (w : List ℕ) (xs : List A) → is_apart (One (Word w) ∷ listing_parts part xs) ≡ true
word_list part apart w xs = rw (list_begins part xs) (listing_apart part apart xs)

list_then_begins : {A : Type 0} → (part : A → List Part) (xs : List A) (qs : List Part) → begins_apart (listing_parts part xs ++ qs) ≡ true
list_then_begins part [] qs = refl
list_then_begins part (x ∷ xs) qs = refl

-- a word before a list and what follows it
word_list_then : {A : Type 0} → (part : A → List Part) → ((x : A) → is_apart (part x) ≡ true) → (w : List ℕ) (xs : List A) (qs : List Part) → begins_apart qs ≡ true → is_apart qs ≡ true → is_apart (One (Word w) ∷ (listing_parts part xs ++ qs)) ≡ true
word_list_then part apart w xs qs begins follows = rw (list_then_begins part xs qs) (apart_append (listing_parts part xs) qs (listing_apart part apart xs) begins follows)

name_apart : (w : List ℕ) → is_apart (name_parts w) ≡ true
name_apart w = refl

literal_apart : (x : NamedLiteral) → is_apart (literal_parts x) ≡ true
literal_apart (literals.Atom pred vars) = word_list name_parts name_apart pred vars
literal_apart (literals.Equal left right) = refl

more_begins : (word : List ℕ) (xs : List NamedLiteral) → begins_apart (more_parts word xs) ≡ true
more_begins word [] = refl
more_begins word (x ∷ xs) = refl

more_apart : (word : List ℕ) (xs : List NamedLiteral) → is_apart (more_parts word xs) ≡ true
more_apart word [] = refl
more_apart word (x ∷ xs) = apart_append (literal_parts x) (more_parts word xs) (literal_apart x) (more_begins word xs) (more_apart word xs)

literals_begin : (word : List ℕ) (xs : List NamedLiteral) (qs : List Part) → begins_apart qs ≡ true → begins_apart (literals_parts word xs ++ qs) ≡ true
literals_begin word [] qs e = e
literals_begin word (x ∷ xs) qs e = refl

literals_apart : (word : List ℕ) (xs : List NamedLiteral) → is_apart (literals_parts word xs) ≡ true
literals_apart word [] = refl
literals_apart word (x ∷ xs) = apart_append (literal_parts x) (more_parts word xs) (literal_apart x) (more_begins word xs) (more_apart word xs)

bound_begins : (word : List ℕ) (o : Option ℕ) (qs : List Part) → begins_apart qs ≡ true → begins_apart (bound_parts word o ++ qs) ≡ true
bound_begins word None qs e = e
bound_begins word (Some n) qs e = refl

bound_apart : (word : List ℕ) (o : Option ℕ) (qs : List Part) → begins_apart qs ≡ true → is_apart qs ≡ true → is_apart (bound_parts word o ++ qs) ≡ true
bound_apart word None qs e f = f
bound_apart word (Some n) qs e f = rw (e) f

bound_alone : (word : List ℕ) (o : Option ℕ) → (begins_apart (bound_parts word o) ≡ true) × (is_apart (bound_parts word o) ≡ true)
bound_alone word None = (refl, refl)
bound_alone word (Some n) = (refl, refl)

pub line_apart : (line : SpecLine) → is_apart (parts_of_line line) ≡ true
line_apart (lines.Sort name size) = refl
line_apart (lines.Pred name sorts rule first) = word_list_then name_parts name_apart name sorts (Gap ∷ One (Word (texts.rule_text rule)) ∷ flag_parts first (codes "true")) refl (rw (flag_begins first (codes "true")) (flag_apart first (codes "true")))
line_apart (lines.Num name sorts init min max) =
    let high = bound_alone (codes "max") max in
    word_list_then name_parts name_apart name sorts (Gap ∷ One (Word (codes "init")) ∷ Gap ∷ One (Number init) ∷ (bound_parts (codes "min") min ++ bound_parts (codes "max") max)) refl
    (rw (bound_begins (codes "min") min (bound_parts (codes "max") max) high.0) (bound_apart (codes "min") min (bound_parts (codes "max") max) high.0 high.1))
line_apart (lines.Clause vars premise conclusion mask) =
    let end = literals_apart (codes "or") conclusion in
    let behind = apart_append (literals_parts (codes "or") conclusion) (flag_parts mask (codes "mask")) end (flag_begins mask (codes "mask")) (flag_apart mask (codes "mask")) in
    apart_append (listing_parts var_parts vars) (literals_parts (codes "and") premise ++ (Gap ∷ One Arrow ∷ (literals_parts (codes "or") conclusion ++ flag_parts mask (codes "mask")))) (listing_apart var_parts (λ v. refl) vars) (literals_begin (codes "and") premise _ refl)
    (apart_append (literals_parts (codes "and") premise) (Gap ∷ One Arrow ∷ (literals_parts (codes "or") conclusion ++ flag_parts mask (codes "mask"))) (literals_apart (codes "and") premise) refl behind)
line_apart (lines.Op name params) = word_list param_parts param_apart name params
line_apart (lines.Touch truth pred ts) = word_list term_parts term_apart pred ts
line_apart (lines.Change raises amount num params) = word_list name_parts name_apart num params
line_apart (lines.Free first second) = refl

-- ---- the parts are the canonical text

names_spelt : (names : List (List ℕ)) → spell (listing_parts name_parts names) ≡ texts.names_text names
names_spelt names = listing_spelt name_parts (λ w. w) (λ w. append-nil w) names

flag_spelt : (b : Bool) (w : List ℕ) → spell (flag_parts b w) ≡ texts.flag_text b (32 ∷ w)
flag_spelt true w = ap (λ (bs : List ℕ). 32 ∷ bs) (append-nil w)
flag_spelt false w = refl

var_spelt : (v : NamedVar) → spell (var_parts v) ≡ texts.var_text v
var_spelt v = ap (λ (bs : List ℕ). v.name ++ (58 ∷ bs)) (append-nil v.sort)

param_spelt : (p : NamedParam) → spell (param_parts p) ≡ texts.param_text p
param_spelt p = ap (λ (bs : List ℕ). p.name ++ (58 ∷ (p.sort ++ bs))) (flag_spelt p.interval (codes "interval"))

term_spelt : (t : NamedTerm) → spell (term_parts t) ≡ texts.term_text t
term_spelt (terms.Param w) = append-nil w
term_spelt terms.Every = refl

literal_spelt : (x : NamedLiteral) → spell (literal_parts x) ≡ texts.literal_text x
literal_spelt (literals.Atom pred vars) = ap (λ (bs : List ℕ). pred ++ bs) (names_spelt vars)
literal_spelt (literals.Equal left right) = ap (λ (bs : List ℕ). left ++ (32 ∷ 61 ∷ 32 ∷ bs)) (append-nil right)

-- the text of what stands behind, and of what stands before it
written : (ps qs : List Part) (front back : List ℕ) → spell ps ≡ front → spell qs ≡ back → spell (ps ++ qs) ≡ front ++ back
written ps qs front back e f = spell_append ps qs ∙ rw (e, f) refl

more_spelt : (word : List ℕ) (xs : List NamedLiteral) → spell (more_parts word xs) ≡ texts.more_text (32 ∷ (word ++ 32 ∷ [])) xs
more_spelt word [] = refl
more_spelt word (x ∷ xs) =
    let rest = written (literal_parts x) (more_parts word xs) (texts.literal_text x) (texts.more_text (32 ∷ (word ++ 32 ∷ [])) xs) (literal_spelt x) (more_spelt word xs) in
    ap (λ (bs : List ℕ). 32 ∷ (word ++ (32 ∷ bs))) rest ∙ ap (λ (bs : List ℕ). 32 ∷ bs) (sym (append_assoc word (32 ∷ []) (texts.literal_text x ++ texts.more_text (32 ∷ (word ++ 32 ∷ [])) xs)))

literals_spelt : (word : List ℕ) (xs : List NamedLiteral) → spell (literals_parts word xs) ≡ texts.literals_text (32 ∷ (word ++ 32 ∷ [])) xs
literals_spelt word [] = refl
literals_spelt word (x ∷ xs) = ap (λ (bs : List ℕ). 32 ∷ bs) (written (literal_parts x) (more_parts word xs) (texts.literal_text x) (texts.more_text (32 ∷ (word ++ 32 ∷ [])) xs) (literal_spelt x) (more_spelt word xs))

bound_spelt : (word : List ℕ) (o : Option ℕ) → spell (bound_parts word o) ≡ texts.bound_text (32 ∷ (word ++ 32 ∷ [])) o
bound_spelt word None = refl
bound_spelt word (Some n) =
    ap (λ (bs : List ℕ). 32 ∷ (word ++ (32 ∷ bs))) (append-nil (decimal n)) ∙ ap (λ (bs : List ℕ). 32 ∷ bs) (sym (append_assoc word (32 ∷ []) (decimal n)))

touch_spelt : (truth : Bool) (pred : List ℕ) (ts : List NamedTerm) → touch_word truth ++ (32 ∷ (pred ++ listing_text texts.term_text ts)) ≡ texts.touch_text truth pred ts
touch_spelt true pred ts = refl
touch_spelt false pred ts = refl

change_spelt : (raises : Bool) (amount : ℕ) (num : List ℕ) (params : List (List ℕ)) → change_word raises ++ (32 ∷ (decimal amount ++ (32 ∷ (num ++ texts.names_text params)))) ≡ texts.change_text raises amount num params
change_spelt true amount num params = refl
change_spelt false amount num params = refl

pub line_spelt : (line : SpecLine) → spell (parts_of_line line) ≡ texts.line_text line
unfolding texts.line_text
line_spelt (lines.Sort name size) = ap (λ (bs : List ℕ). codes "sort " ++ (name ++ (32 ∷ bs))) (append-nil (decimal size))
line_spelt (lines.Pred name sorts rule first) =
    ap (λ (bs : List ℕ). codes "pred " ++ (name ++ bs)) (written (listing_parts name_parts sorts) (Gap ∷ One (Word (texts.rule_text rule)) ∷ flag_parts first (codes "true")) _ _ (names_spelt sorts) (ap (λ (bs : List ℕ). 32 ∷ (texts.rule_text rule ++ bs)) (flag_spelt first (codes "true"))))
line_spelt (lines.Num name sorts init min max) =
    ap (λ (bs : List ℕ). codes "num " ++ (name ++ bs)) (written (listing_parts name_parts sorts) (Gap ∷ One (Word (codes "init")) ∷ Gap ∷ One (Number init) ∷ (bound_parts (codes "min") min ++ bound_parts (codes "max") max)) _ _ (names_spelt sorts)
    (ap (λ (bs : List ℕ). codes " init " ++ (decimal init ++ bs)) (written (bound_parts (codes "min") min) (bound_parts (codes "max") max) _ _ (bound_spelt (codes "min") min) (bound_spelt (codes "max") max))))
line_spelt (lines.Clause vars premise conclusion mask) =
    ap (λ (bs : List ℕ). codes "clause " ++ bs) (written (listing_parts var_parts vars) (literals_parts (codes "and") premise ++ (Gap ∷ One Arrow ∷ (literals_parts (codes "or") conclusion ++ flag_parts mask (codes "mask")))) _ _ (listing_spelt var_parts texts.var_text var_spelt vars)
    (written (literals_parts (codes "and") premise) (Gap ∷ One Arrow ∷ (literals_parts (codes "or") conclusion ++ flag_parts mask (codes "mask"))) _ _ (literals_spelt (codes "and") premise)
    (ap (λ (bs : List ℕ). codes " =>" ++ bs) (written (literals_parts (codes "or") conclusion) (flag_parts mask (codes "mask")) _ _ (literals_spelt (codes "or") conclusion) (flag_spelt mask (codes "mask"))))))
line_spelt (lines.Op name params) = ap (λ (bs : List ℕ). codes "op " ++ (name ++ bs)) (listing_spelt param_parts texts.param_text param_spelt params)
line_spelt (lines.Touch truth pred ts) = ap (λ (bs : List ℕ). touch_word truth ++ (32 ∷ (pred ++ bs))) (listing_spelt term_parts texts.term_text term_spelt ts) ∙ touch_spelt truth pred ts
line_spelt (lines.Change raises amount num params) = ap (λ (bs : List ℕ). change_word raises ++ (32 ∷ (decimal amount ++ (32 ∷ (num ++ bs))))) (names_spelt params) ∙ change_spelt raises amount num params
line_spelt (lines.Free first second) = ap (λ (bs : List ℕ). codes "free " ++ (first ++ (32 ∷ bs))) (append-nil second)
