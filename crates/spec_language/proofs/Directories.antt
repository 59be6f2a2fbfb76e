-- The variables of a clause by their names.
use Rattle.std.proofs.Common.{◌≡◌, ℕ, Bool, true, false, cond, ◌||◌, List, [], ◌∷◌, ◌++◌, length, Bor, refl, sym, ap, ◌∙◌, arith}
use Rattle.std.specs.Prelude.{Option, Some, None, is_some}
use Rattle.std.specs.BTreeMap.{BTreeMap, get, Updates}
use Rattle.std.specs.Str.{bytes_eq}
use Rattle.std.proofs.lemmas.List.{append-nil, append_assoc}
use Rattle.std.proofs.lemmas.Map.Text.{is_eq-slice_cmp}
use Rattle.spec_model.specs.declared.clause.Var.{Var}
use Rattle.spec_language.specs.declared.directory.Known.{Known}
use Rattle.spec_language.specs.Names.{is_known}
use Rattle.spec_language.specs.Draft.{sort_of_var, is_interval}
use Rattle.spec_language.specs.Directory.{found, by_bytes, IsDirectory}

-- the map leads to the variables behind the first ones
pub record LeadsBehind (m : BTreeMap (Bor (List ℕ)) Known) (vars first : List Var) : Type 0 where
  pub behind : List Var
  pub parts : vars ≡ first ++ behind
  pub leads : IsDirectory m behind

pub leads_none : (m : BTreeMap (Bor (List ℕ)) Known) (vars : List Var) → m.entries ≡ [] → LeadsBehind m vars vars
leads_none m vars e = record { behind = []; parts = sym (append-nil vars); leads = λ q. rw e refl }

-- one more, which hides what stands behind it with the same name
pub leads_more : (m more : BTreeMap (Bor (List ℕ)) Known) (vars first others : List Var) (v : Var) (key : Bor (List ℕ)) → LeadsBehind m vars first → first ≡ others ++ v ∷ []
    → key.now ≡ v.name → Updates by_bytes m more key (Some (record { sort = v.sort; interval = v.interval })) → LeadsBehind more vars others
leads_more m more vars first others v key h split named up =
    record {
      behind = v ∷ h.behind;
      parts = h.parts ∙ rw split (append_assoc others (v ∷ []) h.behind);
      leads = λ q. up.0 q ∙ ap (λ t. cond t (Some (record { sort = v.sort; interval = v.interval })) (get by_bytes m q)) (is_eq-slice_cmp key.now q.now ∙ ap (λ w. bytes_eq w q.now) named)
          ∙ ap (λ r. cond (bytes_eq v.name q.now) (Some (record { sort = v.sort; interval = v.interval })) r) (h.leads q);
    }

pub leads_all : (m : BTreeMap (Bor (List ℕ)) Known) (vars first : List Var) → LeadsBehind m vars first → length first ≡ 0 → IsDirectory m vars
leads_all m vars [] h none = rw (h.parts) h.leads
leads_all m vars (v ∷ vs) h none = absurd (omega arith)

-- what is found of a name, and what the definitions say of it

pub found_var : (vars : List Var) (w : List ℕ) → is_some (found vars w) ≡ is_known (λ x. x.name) vars w
found_var [] w = refl
found_var (v ∷ vs) w = either (bytes_eq v.name w) (found_var vs w)
  where
    either : (t : Bool) → is_some (found vs w) ≡ is_known (λ x. x.name) vs w → is_some (cond t (Some (record { sort = v.sort; interval = v.interval })) (found vs w)) ≡ (t || is_known (λ x. x.name) vs w)
    either true e = refl
    either false e = e

abbrev pub sort_known : Option Known → ℕ
sort_known None = 0
sort_known (Some k) = k.sort

abbrev pub interval_known : Option Known → Bool
interval_known None = false
interval_known (Some k) = k.interval

pub found_sort : (vars : List Var) (w : List ℕ) → sort_known (found vars w) ≡ sort_of_var vars w
found_sort [] w = refl
found_sort (v ∷ vs) w = either (bytes_eq v.name w) (found_sort vs w)
  where
    either : (t : Bool) → sort_known (found vs w) ≡ sort_of_var vs w → sort_known (cond t (Some (record { sort = v.sort; interval = v.interval })) (found vs w)) ≡ cond t v.sort (sort_of_var vs w)
    either true e = refl
    either false e = e

pub found_interval : (vars : List Var) (w : List ℕ) → interval_known (found vars w) ≡ is_interval vars w
found_interval [] w = refl
found_interval (v ∷ vs) w = either (bytes_eq v.name w) (found_interval vs w)
  where
    either : (t : Bool) → interval_known (found vs w) ≡ is_interval vs w → interval_known (cond t (Some (record { sort = v.sort; interval = v.interval })) (found vs w)) ≡ cond t v.interval (is_interval vs w)
    either true e = refl
    either false e = e
