-- The own log, and all logs, once the items of a batch are applied and logged.
use Rattle.std.proofs.Common.{◌≡◌, inl, inr, ℕ, ◌<◌, List, [], ◌∷◌, ◌++◌, length, refl, sym, ap, subst, ◌∙◌, arith, cond, length-set}
use Rattle.std.specs.Prelude.{slice_set}
use Rattle.std.specs.List.{AllByRecursion}
use Rattle.std.proofs.lemmas.Bool.Decides.{eqb_tells}
use Rattle.std.proofs.lemmas.List.{append-nil, append_assoc, get_or-set_other, get_or-set_same}
use Rattle.spec_model.specs.declared.log.LogItem.{LogItem}
use Rattle.run_model.specs.Logs.{Logs, log_at, with_all}
use Rattle.run_model.specs.Worlds.{others_of, own_of}
use Rattle.run_model.proofs.Batched.{row_others}
use Rattle.message_laws.specs.Views.{View}
use Rattle.replica_core.specs.Laws.{GrowsBy}
use Rattle.replica_core.proofs.Items.{with_all_append, with_all_of}

-- the own log has the own items more
pub log_grown : (me : ℕ) (items : List LogItem) (logs : Logs) → me < length logs → log_at (with_all items logs) me ≡ log_at logs me ++ own_of me items
log_grown me [] logs lt = sym (append-nil (log_at logs me))
log_grown me (x ∷ items) logs lt =
    let log : List LogItem = log_at logs x.origin ++ x ∷ [] in
    let next : Logs = slice_set logs x.origin log in
    let rest = log_grown me items next (omega (arith, lt, length-set logs x.origin log)) in
    elim (eqb_tells x.origin me) [
      | inl mine ↦
          let here : log_at next me ≡ log_at logs me ++ x ∷ [] = ap (λ i. log_at (slice_set logs i (log_at logs i ++ x ∷ [])) me) mine.1 ∙ get_or-set_same logs me (log_at logs me ++ x ∷ []) [] lt in
          rest ∙ ap (λ (l : List LogItem). l ++ own_of me items) here ∙ append_assoc (log_at logs me) (x ∷ []) (own_of me items) ∙ ap (λ b. log_at logs me ++ cond b (x ∷ own_of me items) (own_of me items)) (sym mine.0)
      | inr theirs ↦
          rest ∙ ap (λ (l : List LogItem). l ++ own_of me items) (get_or-set_other logs x.origin me log [] (λ same. theirs.1 (sym same))) ∙ ap (λ b. log_at logs me ++ cond b (x ∷ own_of me items) (own_of me items)) (sym theirs.0)
    ]

own_mine : (me : ℕ) (items : List LogItem) → AllByRecursion (λ i. i.origin ≡ me) (own_of me items)
own_mine me [] = tt
own_mine me (x ∷ items) =
    let P : List LogItem → Type 0 = AllByRecursion (λ (i : LogItem). i.origin ≡ me) in
    elim (eqb_tells x.origin me) [
      | inl mine ↦ subst (λ b. P (cond b (x ∷ own_of me items) (own_of me items))) (sym mine.0) (mine.1, own_mine me items)
      | inr theirs ↦ subst (λ b. P (cond b (x ∷ own_of me items) (own_of me items))) (sym theirs.0) (own_mine me items)
    ]

all_long : (items : List LogItem) (logs : Logs) → length (with_all items logs) ≡ length logs
all_long [] logs = refl
all_long (x ∷ items) logs = let log : List LogItem = log_at logs x.origin ++ x ∷ [] in all_long items (slice_set logs x.origin log) ∙ length-set logs x.origin log

-- and all others have the items of others
pub logs_grown : (v : View) (items : List LogItem) → v.me < length v.known → GrowsBy v items → with_all items v.known ≡ slice_set (with_all (others_of v.me items) v.known) v.me (log_at v.known v.me ++ own_of v.me items)
logs_grown v items lt grows =
    let me : ℕ = v.me in
    let others : List LogItem = others_of me items in
    let own : List LogItem = own_of me items in
    let mid : Logs = with_all others v.known in
    let none : own_of me others ≡ [] = (row_others me grows.from (length (log_at v.known grows.from)) others (λ same. grows.other (sym same)) grows.row).0 in
    let stays : log_at mid me ≡ log_at v.known me = log_grown me others v.known lt ∙ ap (λ (l : List LogItem). log_at v.known me ++ l) none ∙ append-nil (log_at v.known me) in
    ap (λ (l : List LogItem). with_all l v.known) grows.parted ∙ with_all_append others own v.known ∙ with_all_of me own mid (own_mine me items) (omega (arith, lt, all_long others v.known)) ∙ ap (λ (l : List LogItem). slice_set mid me (l ++ own)) stays
