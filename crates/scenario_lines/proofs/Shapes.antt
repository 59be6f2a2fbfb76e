-- The tokens of each line of a run, and how they are written.
use Rattle.std.proofs.Common.{◌≡◌, ℕ, true, List, [], ◌∷◌, ◌++◌, refl, ap, ◌∙◌, append_assoc, append-nil}
use Rattle.std.specs.Prelude.{codes, decimal}
use Rattle.line_text.specs.declared.token.Token.{Token}
use Rattle.line_text.specs.declared.token.Token.TheVariants.{Word, Number, Mark}
use Rattle.line_text.specs.Spelling.{Part, One, Gap, spell, tokens_in_parts, begins_apart, is_apart}
use Rattle.line_text.proofs.Inverse.{listing_tokens}
use Rattle.line_text.proofs.Listing.{listing_parts, listing_spelt, listing_read, listing_apart}
pub use Rattle.scenario_lines.specs.InPlace.{arg_tokens}
use Rattle.scenario_lines.specs.declared.argument.NamedArg.{NamedArg}
use Rattle.scenario_lines.specs.declared.argument.NamedArg.TheVariants as args
use Rattle.scenario_lines.specs.declared.line.RunLine.{RunLine}
use Rattle.scenario_lines.specs.declared.line.RunLine.TheVariants as lines
use Rattle.scenario_lines.specs.Texts as texts

-- ---- tokens

-- the tokens of a line
abbrev pub tokens_of_line : RunLine → List Token
tokens_of_line (lines.Replicas n) = Word (codes "replicas") ∷ Number n ∷ []
tokens_of_line (lines.Stop replica call keep fill) = Word (codes "stop") ∷ Number replica ∷ Number call ∷ Number keep ∷ Number fill ∷ []
tokens_of_line (lines.Do replica op xs) = Word (codes "do") ∷ Number replica ∷ Word op ∷ listing_tokens arg_tokens xs
tokens_of_line (lines.Send replica peer) = Word (codes "send") ∷ Number replica ∷ Number peer ∷ []
tokens_of_line (lines.Take replica peer number) = Word (codes "take") ∷ Number replica ∷ Number peer ∷ Number number ∷ []
tokens_of_line (lines.Crash replica) = Word (codes "crash") ∷ Number replica ∷ []
tokens_of_line (lines.Recover replica) = Word (codes "recover") ∷ Number replica ∷ []
tokens_of_line (lines.Turns turns) = Word (codes "turns") ∷ Number turns ∷ []
tokens_of_line (lines.Client client home) = Word (codes "client") ∷ Number client ∷ Word (codes "at") ∷ Number home ∷ []
tokens_of_line (lines.AskDo client op xs) = Word (codes "ask") ∷ Number client ∷ Word op ∷ listing_tokens arg_tokens xs
tokens_of_line (lines.AskCrash client) = Word (codes "ask") ∷ Number client ∷ Word (codes "crash") ∷ []
tokens_of_line (lines.AskRecover client) = Word (codes "ask") ∷ Number client ∷ Word (codes "recover") ∷ []

-- ---- the same with the spaces between them

abbrev arg_parts : NamedArg → List Part
arg_parts (args.One n) = One (Number n) ∷ []
arg_parts (args.Span lo hi) = One (Number lo) ∷ One (Mark 45) ∷ One (Number hi) ∷ []

-- the parts of a line
abbrev pub parts_of_line : RunLine → List Part
parts_of_line (lines.Replicas n) = One (Word (codes "replicas")) ∷ Gap ∷ One (Number n) ∷ []
parts_of_line (lines.Stop replica call keep fill) = One (Word (codes "stop")) ∷ Gap ∷ One (Number replica) ∷ Gap ∷ One (Number call) ∷ Gap ∷ One (Number keep) ∷ Gap ∷ One (Number fill) ∷ []
parts_of_line (lines.Do replica op xs) = One (Word (codes "do")) ∷ Gap ∷ One (Number replica) ∷ Gap ∷ One (Word op) ∷ listing_parts arg_parts xs
parts_of_line (lines.Send replica peer) = One (Word (codes "send")) ∷ Gap ∷ One (Number replica) ∷ Gap ∷ One (Number peer) ∷ []
parts_of_line (lines.Take replica peer number) = One (Word (codes "take")) ∷ Gap ∷ One (Number replica) ∷ Gap ∷ One (Number peer) ∷ Gap ∷ One (Number number) ∷ []
parts_of_line (lines.Crash replica) = One (Word (codes "crash")) ∷ Gap ∷ One (Number replica) ∷ []
parts_of_line (lines.Recover replica) = One (Word (codes "recover")) ∷ Gap ∷ One (Number replica) ∷ []
parts_of_line (lines.Turns turns) = One (Word (codes "turns")) ∷ Gap ∷ One (Number turns) ∷ []
parts_of_line (lines.Client client home) = One (Word (codes "client")) ∷ Gap ∷ One (Number client) ∷ Gap ∷ One (Word (codes "at")) ∷ Gap ∷ One (Number home) ∷ []
parts_of_line (lines.AskDo client op xs) = One (Word (codes "ask")) ∷ Gap ∷ One (Number client) ∷ Gap ∷ One (Word op) ∷ listing_parts arg_parts xs
parts_of_line (lines.AskCrash client) = One (Word (codes "ask")) ∷ Gap ∷ One (Number client) ∷ Gap ∷ One (Word (codes "crash")) ∷ []
parts_of_line (lines.AskRecover client) = One (Word (codes "ask")) ∷ Gap ∷ One (Number client) ∷ Gap ∷ One (Word (codes "recover")) ∷ []

-- ---- the tokens among the parts

arg_same : (x : NamedArg) → tokens_in_parts (arg_parts x) ≡ arg_tokens x
arg_same (args.One n) = refl
arg_same (args.Span lo hi) = refl

pub line_same : (line : RunLine) → tokens_in_parts (parts_of_line line) ≡ tokens_of_line line
line_same (lines.Replicas n) = refl
line_same (lines.Stop replica call keep fill) = refl
line_same (lines.Do replica op xs) = ap (λ (ts : List Token). Word (codes "do") ∷ Number replica ∷ Word op ∷ ts) (listing_read arg_parts arg_tokens arg_same xs)
line_same (lines.Send replica peer) = refl
line_same (lines.Take replica peer number) = refl
line_same (lines.Crash replica) = refl
line_same (lines.Recover replica) = refl
line_same (lines.Turns turns) = refl
line_same (lines.Client client home) = refl
line_same (lines.AskDo client op xs) = ap (λ (ts : List Token). Word (codes "ask") ∷ Number client ∷ Word op ∷ ts) (listing_read arg_parts arg_tokens arg_same xs)
line_same (lines.AskCrash client) = refl
line_same (lines.AskRecover client) = refl

-- ---- words and numbers stand apart

arg_apart : (x : NamedArg) → is_apart (arg_parts x) ≡ true
arg_apart (args.One n) = refl
arg_apart (args.Span lo hi) = refl

args_begin : (xs : List NamedArg) → begins_apart (listing_parts arg_parts xs) ≡ true
args_begin [] = refl
args_begin (x ∷ xs) = refl

args_apart : (op : List ℕ) (xs : List NamedArg) → is_apart (One (Word op) ∷ listing_parts arg_parts xs) ≡ true
args_apart op xs = rw (args_begin xs) (listing_apart arg_parts arg_apart xs)

pub line_apart : (line : RunLine) → is_apart (parts_of_line line) ≡ true
line_apart (lines.Replicas n) = refl
line_apart (lines.Stop replica call keep fill) = refl
line_apart (lines.Do replica op xs) = args_apart op xs
line_apart (lines.Send replica peer) = refl
line_apart (lines.Take replica peer number) = refl
line_apart (lines.Crash replica) = refl
line_apart (lines.Recover replica) = refl
line_apart (lines.Turns turns) = refl
line_apart (lines.Client client home) = refl
line_apart (lines.AskDo client op xs) = args_apart op xs
line_apart (lines.AskCrash client) = refl
line_apart (lines.AskRecover client) = refl

-- ---- the parts are the canonical text

arg_spelt : (x : NamedArg) → spell (arg_parts x) ≡ texts.arg_text x
arg_spelt (args.One n) = append-nil (decimal n)
arg_spelt (args.Span lo hi) = ap (λ (bs : List ℕ). decimal lo ++ (45 ∷ bs)) (append-nil (decimal hi))

-- a number behind a space at the end, and what stands before it
last_number : (n m : ℕ) → decimal n ++ (32 ∷ (decimal m ++ [])) ≡ decimal n ++ (32 ∷ decimal m)
last_number n m = ap (λ (bs : List ℕ). decimal n ++ (32 ∷ bs)) (append-nil (decimal m))

request_spelt : (n : ℕ) (op : List ℕ) (xs : List NamedArg) (front : List ℕ) → front ++ (decimal n ++ (32 ∷ (op ++ spell (listing_parts arg_parts xs)))) ≡ texts.request_text front n op xs
request_spelt n op xs front =
    let listed = listing_spelt arg_parts texts.arg_text arg_spelt xs in
    ap (λ (bs : List ℕ). front ++ (decimal n ++ (32 ∷ (op ++ bs)))) listed ∙ simp append_assoc

pub line_spelt : (line : RunLine) → spell (parts_of_line line) ≡ texts.line_text line
unfolding texts.line_text
line_spelt (lines.Replicas n) = simp (append_assoc, append-nil)
line_spelt (lines.Stop replica call keep fill) = simp (append_assoc, append-nil)
line_spelt (lines.Do replica op xs) = request_spelt replica op xs (codes "do ")
line_spelt (lines.Send replica peer) = simp (append_assoc, append-nil)
line_spelt (lines.Take replica peer number) = simp (append_assoc, append-nil)
line_spelt (lines.Crash replica) = simp (append_assoc, append-nil)
line_spelt (lines.Recover replica) = simp (append_assoc, append-nil)
line_spelt (lines.Turns turns) = simp (append_assoc, append-nil)
line_spelt (lines.Client client home) = simp (append_assoc, append-nil)
line_spelt (lines.AskDo client op xs) = request_spelt client op xs (codes "ask ")
line_spelt (lines.AskCrash client) = simp (append_assoc, append-nil)
line_spelt (lines.AskRecover client) = simp (append_assoc, append-nil)
