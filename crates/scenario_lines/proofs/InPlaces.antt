-- Lines of a schedule that are read where they stand.
use Rattle.std.proofs.Common.{◌≡◌, ℕ, ◌≤◌, Bool, true, false, cond, List, [], ◌∷◌, ◌++◌, append_assoc, refl, sym, ap, ◌∙◌}
use Rattle.std.specs.Prelude.{Option, Some, None}
use Rattle.std.proofs.lemmas.Bool.{le-leb}
use Rattle.std.proofs.lemmas.List.{append-nil}
use Rattle.std.proofs.lemmas.List.Folds.{list_all-append}
use Rattle.line_text.specs.declared.token.Token.{Token}
use Rattle.line_text.specs.declared.token.Token.TheVariants.{Word, Number, Mark}
use Rattle.line_text.specs.Forms.{is_mark, number_at, word_at, after_mark, ended, groups, items, list_at}
use Rattle.line_text.specs.Next.{IsNext}
use Rattle.line_text.specs.Tokens.{tokens_of, before, is_within}
use Rattle.line_text.proofs.Groups.{Groups, front_group, put, with_token, with_front, items-next, items-last}
use Rattle.scenario_lines.specs.declared.argument.NamedArg.{NamedArg}
use Rattle.scenario_lines.specs.declared.argument.NamedArg.TheVariants as args
use Rattle.scenario_lines.specs.declared.line.RunLine.TheVariants as lines
use Rattle.scenario_lines.specs.Arguments.{arg_item, arg_behind, span_behind}
use Rattle.scenario_lines.specs.Forms.{number_alone, do_form, send_form, take_form, ask_behind, ask_form}
use Rattle.scenario_lines.specs.InPlace.{are_modest, ahead, arg_tokens, IsArgNext, IsItemsRead, IsListRead, IsRead, IsRequestRead}

number_modest : (n : ℕ) (ts : List Token) → n ≤ 1000000000000 → are_modest ts ≡ true → are_modest (Number n ∷ ts) ≡ true
number_modest n ts small modest = rw (le-leb n 1000000000000 small, modest) refl

ahead_twice : (front more : List Token) (read : Option (List Token)) → ahead front (ahead more read) ≡ ahead (front ++ more) read
ahead_twice front more None = refl
ahead_twice front more (Some ts) = ap (λ (us : List Token). Some us) (sym (append_assoc front more ts))

both_modest : (xs ys : List Token) → are_modest xs ≡ true → are_modest ys ≡ true → are_modest (xs ++ ys) ≡ true
both_modest xs ys m n = list_all-append (is_within 1000000000000) xs ys ∙ rw (m, n) refl

-- ---- one argument

pub one_next : (n : ℕ) (bytes behind : List ℕ) → IsNext (Number n) bytes behind → n ≤ 1000000000000 → IsArgNext (args.One n) bytes behind
one_next n bytes behind next small = record { tokens = Number n ∷ []; read = next; modest = number_modest n [] small refl; named = refl }

pub span_next : (lo hi : ℕ) (bytes rest middle behind : List ℕ) → IsNext (Number lo) bytes rest → lo ≤ 1000000000000 → IsNext (Mark 45) rest middle → IsNext (Number hi) middle behind → hi ≤ 1000000000000
    → IsArgNext (args.Span lo hi) bytes behind
span_next lo hi bytes rest middle behind first low dash second high =
    record {
      tokens = Number lo ∷ Mark 45 ∷ Number hi ∷ [];
      read = first ∙ ap (before (Some (Number lo))) (dash ∙ ap (before (Some (Mark 45))) second) ∙ joined (tokens_of behind);
      modest = number_modest lo (Mark 45 ∷ Number hi ∷ []) low (number_modest hi [] high refl);
      named = refl;
    }
  where
    joined : (read : Option (List Token)) → before (Some (Number lo)) (before (Some (Mark 45)) (before (Some (Number hi)) read)) ≡ ahead (Number lo ∷ Mark 45 ∷ Number hi ∷ []) read
    joined None = refl
    joined (Some ts) = refl

arg_is : (x : NamedArg) → arg_item (arg_tokens x) ≡ Some x
unfolding arg_item arg_behind span_behind number_at after_mark ended
arg_is (args.One n) = refl
arg_is (args.Span lo hi) = refl

one_token : (t : Token) (r : Groups) → with_token t (put [] r) ≡ put (t ∷ []) r
one_token t None = refl
one_token t (Some g) = refl

three_tokens : (t u v : Token) (r : Groups) → with_token t (with_token u (with_token v (put [] r))) ≡ put (t ∷ u ∷ v ∷ []) r
three_tokens t u v None = refl
three_tokens t u v (Some g) = refl

cut_more : (x : NamedArg) (ts : List Token) → groups (arg_tokens x ++ Mark 44 ∷ ts) ≡ front_group false (arg_tokens x) ts
unfolding groups
cut_more (args.One n) ts = one_token (Number n) (groups ts)
cut_more (args.Span lo hi) ts = three_tokens (Number lo) (Mark 45) (Number hi) (groups ts)

cut_last : (x : NamedArg) (ts : List Token) → groups (arg_tokens x ++ Mark 41 ∷ ts) ≡ front_group true (arg_tokens x) ts
unfolding groups
cut_last (args.One n) ts = refl
cut_last (args.Span lo hi) ts = refl

items_more : (x : NamedArg) (xs : List NamedArg) (ts : List Token) → with_front xs (items arg_item (arg_tokens x ++ Mark 44 ∷ ts)) ≡ with_front (xs ++ x ∷ []) (items arg_item ts)
items_more x xs ts = items-next arg_item x xs (arg_tokens x ++ Mark 44 ∷ ts) (arg_tokens x) ts (cut_more x ts) (arg_is x)

items_closed : (x : NamedArg) (xs : List NamedArg) (ts : List Token) → with_front xs (items arg_item (arg_tokens x ++ Mark 41 ∷ ts)) ≡ Some (xs ++ x ∷ [], ts)
items_closed x xs ts = items-last arg_item x xs (arg_tokens x ++ Mark 41 ∷ ts) (arg_tokens x) ts (cut_last x ts) (arg_is x)

-- ---- arguments, one after the other

-- arguments with the commas behind them were read, and the rest is still to be read
pub record AreReadSoFar (xs : List NamedArg) (bytes rest : List ℕ) : Type 0 where
  pub tokens : List Token
  pub read : tokens_of bytes ≡ ahead tokens (tokens_of rest)
  pub modest : are_modest tokens ≡ true
  pub turned : (ts : List Token) → items arg_item (tokens ++ ts) ≡ with_front xs (items arg_item ts)

none_ahead : (read : Option (List Token)) → read ≡ ahead [] read
none_ahead None = refl
none_ahead (Some ts) = refl

none_before : (r : Option (List NamedArg × List Token)) → r ≡ with_front [] r
none_before None = refl
none_before (Some x) = refl

pub read_none : (bytes : List ℕ) → AreReadSoFar [] bytes bytes
read_none bytes = record { tokens = []; read = none_ahead (tokens_of bytes); modest = refl; turned = λ ts. none_before (items arg_item ts) }

-- an argument and a mark behind what was read
abbrev longer : List Token → List Token → Token → List Token
longer front more mark = front ++ (more ++ mark ∷ [])

longer_read : (front more : List Token) (mark : Token) (bytes rest middle behind : List ℕ) → tokens_of bytes ≡ ahead front (tokens_of rest) → tokens_of rest ≡ ahead more (tokens_of middle) → IsNext mark middle behind
    → tokens_of bytes ≡ ahead (longer front more mark) (tokens_of behind)
longer_read front more mark bytes rest middle behind first second third =
    first ∙ ap (ahead front) (second ∙ ap (ahead more) third ∙ ahead_twice more (mark ∷ []) (tokens_of behind)) ∙ ahead_twice front (more ++ mark ∷ []) (tokens_of behind)

longer_tokens : (front more : List Token) (mark : Token) (ts : List Token) → longer front more mark ++ ts ≡ front ++ (more ++ mark ∷ ts)
longer_tokens front more mark ts = append_assoc front (more ++ mark ∷ []) ts ∙ ap (λ (us : List Token). front ++ us) (append_assoc more (mark ∷ []) ts)

pub read_more : (x : NamedArg) (xs : List NamedArg) (bytes rest middle behind : List ℕ) → AreReadSoFar xs bytes rest → IsArgNext x rest middle → IsNext (Mark 44) middle behind → AreReadSoFar (xs ++ x ∷ []) bytes behind
read_more x xs bytes rest middle behind h a comma =
    record {
      tokens = longer h.tokens a.tokens (Mark 44);
      read = longer_read h.tokens a.tokens (Mark 44) bytes rest middle behind h.read a.read comma;
      modest = both_modest h.tokens (a.tokens ++ Mark 44 ∷ []) h.modest (both_modest a.tokens (Mark 44 ∷ []) a.modest refl);
      turned = λ ts. ap (items arg_item) (longer_tokens h.tokens a.tokens (Mark 44) ts) ∙ h.turned (a.tokens ++ Mark 44 ∷ ts)
          ∙ ap (λ (us : List Token). with_front xs (items arg_item (us ++ Mark 44 ∷ ts))) a.named ∙ items_more x xs ts;
    }

pub read_last : (x : NamedArg) (xs : List NamedArg) (bytes rest middle behind : List ℕ) → AreReadSoFar xs bytes rest → IsArgNext x rest middle → IsNext (Mark 41) middle behind → IsItemsRead (xs ++ x ∷ []) bytes behind
read_last x xs bytes rest middle behind h a closed =
    record {
      tokens = longer h.tokens a.tokens (Mark 41);
      read = longer_read h.tokens a.tokens (Mark 41) bytes rest middle behind h.read a.read closed;
      modest = both_modest h.tokens (a.tokens ++ Mark 41 ∷ []) h.modest (both_modest a.tokens (Mark 41 ∷ []) a.modest refl);
      formed = λ ts. ap (items arg_item) (longer_tokens h.tokens a.tokens (Mark 41) ts) ∙ h.turned (a.tokens ++ Mark 41 ∷ ts)
          ∙ ap (λ (us : List Token). with_front xs (items arg_item (us ++ Mark 41 ∷ ts))) a.named ∙ items_closed x xs ts;
    }

-- ---- a list in brackets

abbrev Reading : Type 0
Reading = Option (List NamedArg × List Token)

abbrev unread : Reading
unread = None

none_there : (r : List NamedArg × List Token) → unread ≡ Some r → ⊥
none_there r e = absurd cc

nothing_there : (r : List NamedArg × List Token) → items arg_item [] ≡ Some r → ⊥
unfolding groups
nothing_there r e = absurd cc

closed_none : (u : Token) (us : List Token) → is_mark 41 u ≡ true → items arg_item (u ∷ us) ≡ None
unfolding groups arg_item number_at
closed_none u us is = rw is refl

bracketed : (us : List Token) (r : List NamedArg × List Token) → items arg_item us ≡ Some r → list_at arg_item (Mark 40 ∷ us) ≡ Some r
bracketed [] r e = absurd (nothing_there r e)
bracketed (u ∷ us) r e = either (is_mark 41 u) refl
  where
    either : (t : Bool) → is_mark 41 u ≡ t → cond t (Some ([], us)) (items arg_item (u ∷ us)) ≡ Some r
    either true is = absurd (none_there r (sym (closed_none u us is) ∙ e))
    either false is = e

pub list_empty : (bytes rest behind : List ℕ) → IsNext (Mark 40) bytes rest → IsNext (Mark 41) rest behind → IsListRead [] bytes behind
list_empty bytes rest behind first second =
    record { tokens = Mark 40 ∷ Mark 41 ∷ []; read = first ∙ ap (before (Some (Mark 40))) second ∙ ahead_twice (Mark 40 ∷ []) (Mark 41 ∷ []) (tokens_of behind); modest = refl; formed = λ ts. refl }

pub list_some : (xs : List NamedArg) (bytes rest behind : List ℕ) → IsNext (Mark 40) bytes rest → IsItemsRead xs rest behind → IsListRead xs bytes behind
list_some xs bytes rest behind first h =
    record {
      tokens = Mark 40 ∷ h.tokens;
      read = first ∙ ap (before (Some (Mark 40))) h.read ∙ ahead_twice (Mark 40 ∷ []) h.tokens (tokens_of behind);
      modest = h.modest;
      formed = λ ts. bracketed (h.tokens ++ ts) (xs, ts) (h.formed ts);
    }

-- ---- lines

behind_listed : (client : ℕ) (op : List ℕ) (ts : List Token) (xs : List NamedArg) → list_at arg_item ts ≡ Some (xs, []) → ask_behind client op ts ≡ Some (lines.AskDo client op xs)
unfolding ask_behind ended
behind_listed client op [] xs e = absurd (none_there (xs, []) e)
behind_listed client op (t ∷ ts) xs e = rw e refl

do_formed : (n : ℕ) (op : List ℕ) (ts : List Token) (xs : List NamedArg) → list_at arg_item ts ≡ Some (xs, []) → do_form (Number n ∷ Word op ∷ ts) ≡ Some (lines.Do n op xs)
unfolding do_form number_at word_at ended
do_formed n op ts xs e = rw e refl

ask_formed : (n : ℕ) (op : List ℕ) (ts : List Token) (xs : List NamedArg) → list_at arg_item ts ≡ Some (xs, []) → ask_form (Number n ∷ Word op ∷ ts) ≡ Some (lines.AskDo n op xs)
unfolding ask_form number_at word_at
ask_formed n op ts xs e = behind_listed n op ts xs e

pub request_read : (n : ℕ) (op : List ℕ) (xs : List NamedArg) (bytes rest middle behind : List ℕ) → IsNext (Number n) bytes rest → n ≤ 1000000000000 → IsNext (Word op) rest middle → IsListRead xs middle behind
    → tokens_of behind ≡ Some [] → IsRequestRead n op xs bytes
request_read n op xs bytes rest middle behind first small second h none =
    let listed : list_at arg_item h.tokens ≡ Some (xs, []) = ap (list_at arg_item) (sym (append-nil h.tokens)) ∙ h.formed [] in
    let read : tokens_of bytes ≡ Some (Number n ∷ Word op ∷ h.tokens)
    = first ∙ ap (before (Some (Number n))) (second ∙ ap (before (Some (Word op))) (h.read ∙ ap (ahead h.tokens) none)) ∙ ap (λ (us : List Token). Some (Number n ∷ Word op ∷ us)) (append-nil h.tokens) in
    let modest = number_modest n (Word op ∷ h.tokens) small h.modest in (
      record { tokens = Number n ∷ Word op ∷ h.tokens; read = read; modest = modest; formed = do_formed n op h.tokens xs listed },
      record { tokens = Number n ∷ Word op ∷ h.tokens; read = read; modest = modest; formed = ask_formed n op h.tokens xs listed },
    )

pub number_read : (n : ℕ) (bytes behind : List ℕ) → IsNext (Number n) bytes behind → n ≤ 1000000000000 → tokens_of behind ≡ Some [] → IsRead number_alone n bytes
unfolding number_alone number_at ended
number_read n bytes behind first small none =
    record { tokens = Number n ∷ []; read = first ∙ ap (before (Some (Number n))) none; modest = number_modest n [] small refl; formed = refl }

pub send_read : (replica peer : ℕ) (bytes rest behind : List ℕ) → IsNext (Number replica) bytes rest → replica ≤ 1000000000000 → IsNext (Number peer) rest behind → peer ≤ 1000000000000
    → tokens_of behind ≡ Some [] → IsRead send_form (lines.Send replica peer) bytes
unfolding send_form number_at ended
send_read replica peer bytes rest behind first small second least none =
    record {
      tokens = Number replica ∷ Number peer ∷ [];
      read = first ∙ ap (before (Some (Number replica))) (second ∙ ap (before (Some (Number peer))) none);
      modest = number_modest replica (Number peer ∷ []) small (number_modest peer [] least refl);
      formed = refl;
    }

pub take_read : (replica peer number : ℕ) (bytes rest middle behind : List ℕ) → IsNext (Number replica) bytes rest → replica ≤ 1000000000000 → IsNext (Number peer) rest middle → peer ≤ 1000000000000
    → IsNext (Number number) middle behind → number ≤ 1000000000000 → tokens_of behind ≡ Some [] → IsRead take_form (lines.Take replica peer number) bytes
unfolding take_form number_at ended
take_read replica peer number bytes rest middle behind first small second least third few none =
    record {
      tokens = Number replica ∷ Number peer ∷ Number number ∷ [];
      read = first ∙ ap (before (Some (Number replica))) (second ∙ ap (before (Some (Number peer))) (third ∙ ap (before (Some (Number number))) none));
      modest = number_modest replica (Number peer ∷ Number number ∷ []) small (number_modest peer (Number number ∷ []) least (number_modest number [] few refl));
      formed = refl;
    }
