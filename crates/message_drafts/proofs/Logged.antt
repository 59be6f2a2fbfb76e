-- The items that are logged one after the other.
use Rattle.std.proofs.Common.{◌≡◌, ℕ, ◌+◌, ◌<◌, List, [], ◌∷◌, ◌++◌, length, get_or, take, sym, ap, ◌∙◌, arith, length-append, length-set}
use Rattle.std.specs.Prelude.{slice_index, slice_set}
use Rattle.std.proofs.lemmas.List.{append_assoc, get_or-set_same, length_push}
use Rattle.spec_model.specs.declared.log.Body.{Body}
use Rattle.spec_model.specs.declared.log.LogItem.{LogItem}
use Rattle.run_model.specs.Worlds.{Standing, logged, logged_all}
use Rattle.message_drafts.proofs.Drafting.{logged_append}
use Rattle.message_drafts.proofs.Places.{take_more}

-- a replica with these items more, and this cut
abbrev pub longer_by : Standing → List LogItem → List ℕ → Standing
longer_by p items cut = record p { log = p.log ++ items; cut = cut }

-- one more
pub logged_more : (me k index : ℕ) (bodies : List Body) (b : Body) (p : Standing) (items : List LogItem) (seen : List ℕ) → k < length bodies → b ≡ get_or bodies k b → logged_all me (take k bodies) p ≡ longer_by p items seen → index ≡ length p.log + length items
    → logged_all me (take (k + 1) bodies) p ≡ longer_by p (items ++ record { origin = me; index = index; deps = seen; body = b } ∷ []) (slice_set seen me (index + 1))
logged_more me k index bodies b p items seen lt is so at =
    let long : length (p.log ++ items) ≡ index = omega (arith, at, length-append p.log items) in
    ap (λ (bs : List Body). logged_all me bs p) (take_more bodies k b lt is) ∙ logged_append me (take k bodies) (b ∷ []) p ∙ ap (logged me b) so
    ∙ ap (λ n. let q : Standing = record p { log = (p.log ++ items) ++ record { origin = me; index = n; deps = seen; body = b } ∷ []; cut = slice_set seen me (n + 1) } in q) long
    ∙ ap (λ (l : List LogItem). let q : Standing = record p { log = l; cut = slice_set seen me (index + 1) } in q) (append_assoc p.log items (record { origin = me; index = index; deps = seen; body = b } ∷ []))

-- how many bodies were logged, and what was logged and seen by then
pub record AreLogged (me : ℕ) (cut : List ℕ) (bodies : List Body) (k : ℕ) (items : List LogItem) (seen : List ℕ) : Type 0 where
  pub stands : (p : Standing) → p.cut ≡ cut → length p.log ≡ slice_index cut me → logged_all me (take k bodies) p ≡ longer_by p items seen
  pub counts : slice_index seen me ≡ slice_index cut me + k
  pub many : length items ≡ k
  pub whole : length seen ≡ length cut

pub one_logged : (me k index : ℕ) (cut : List ℕ) (bodies : List Body) (b : Body) (items new : List LogItem) (seen after : List ℕ) → me < length cut → k < length bodies → b ≡ get_or bodies k b → index ≡ slice_index seen me → AreLogged me cut bodies k items seen
    → new ≡ items ++ record { origin = me; index = index; deps = seen; body = b } ∷ [] → after ≡ slice_set seen me (index + 1) → AreLogged me cut bodies (k + 1) new after
one_logged me k index cut bodies b items new seen after place lt is at h longer set_is = record {
  stands = λ p cut_is long. logged_more me k index bodies b p items seen lt is (h.stands p cut_is long) (omega (arith, at, h.counts, h.many, long)) ∙ ap (λ (l : List LogItem). longer_by p l (slice_set seen me (index + 1))) (sym longer) ∙ ap (longer_by p new) (sym set_is);
  counts = ap (λ (c : List ℕ). slice_index c me) set_is ∙ get_or-set_same seen me (index + 1) 0 (omega (arith, place, h.whole)) ∙ omega (arith, at, h.counts);
  many = omega (arith, ap length longer, length_push items (record { origin = me; index = index; deps = seen; body = b }), h.many);
  whole = ap length set_is ∙ length-set seen me (index + 1) ∙ h.whole;
}
