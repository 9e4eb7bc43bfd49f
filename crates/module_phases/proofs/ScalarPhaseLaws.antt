-- One module after another.
use Rattle.std.proofs.Common.{◌≡◌, ℕ, ◌+◌, ◌<◌, ◌≤◌, List, [], ◌∷◌, ◌++◌, length, drop, get_or, drop-cons, drop_of_length-le, add-one, append_assoc, append-nil, map, reverse, Option, Some, None, sym, ap, ap₂, ◌∙◌}
use Rattle.std.proofs.lemmas.List.{map-append, reverse-append}
use Rattle.std.proofs.lemmas.List.Elements.{All-push, All-pop}
use Rattle.std.specs.Prelude.{option_to_list}
use Rattle.f77_ast.specs.declared.variable.Unit.{Unit as BlockUnit}
use Rattle.f77_meaning.specs.Modules.{Known}
use Rattle.preconditions.specs.call_translation.Sites.{HoldingSite}
use Rattle.preconditions.specs.transformers.Given.{Callees}
use Rattle.module_phases.specs.ScalarPhases.{Found, Analysis, module_of, no_callees, with_callee, maybe_found, found_in, list_sites, caller_of, sites_of, analysis_of, analyses_from}
use Rattle.fx_lists.proofs.Lists.{at_place}
use Rattle.fx_lists.proofs.Numbers.{same_function}

pub ruleset one_more = (map-append, All-push, append_assoc, append-nil)

-- ---- what statements do

-- before any module
pub found-none : (untracked : List BlockUnit) (ks : List Known) (cs : Callees) (xs : List (List ℕ)) → ((x : List ℕ) → cs x ≡ None) → found_in untracked ks cs xs ≡ found_in untracked ks no_callees xs
found-none untracked ks cs xs h = ap (λ (c : Callees). found_in untracked ks c xs) (same_function cs no_callees h)

-- after one name more
pub found-more : (untracked : List BlockUnit) (ks : List Known) (cs new : Callees) (out next : List Found) (xs : List (List ℕ)) (i : ℕ) (x : List ℕ) → i < length xs → x ≡ get_or xs i x →
    next ≡ out ++ option_to_list (maybe_found untracked cs (module_of ks x)) → ((y : List ℕ) → new y ≡ with_callee (maybe_found untracked cs (module_of ks x)) cs y) →
    next ++ found_in untracked ks new (drop (i + 1) xs) ≡ out ++ found_in untracked ks cs (drop i xs)
found-more untracked ks cs new out next xs i x l g e h =
    let f : Option Found = maybe_found untracked cs (module_of ks x) in
    let rest : Callees → List Found = λ c. found_in untracked ks c (drop (i + 1) xs) in
    ap₂ (λ (ys : List Found) (c : Callees). ys ++ rest c) e (same_function new (with_callee f cs) h)
    ∙ append_assoc out (option_to_list f) (rest (with_callee f cs))
    ∙ sym (ap (λ (ys : List (List ℕ)). out ++ found_in untracked ks cs ys) (at_place xs i x l g))

-- ---- what holds

sites_of-more : (untracked : List BlockUnit) (as' : List Analysis) (a : Analysis) (x : List ℕ) → sites_of untracked (as' ++ a ∷ []) x ≡ sites_of untracked as' x ++ list_sites a.found.known.read.body (caller_of untracked a) x
sites_of-more untracked [] a x = append-nil (list_sites a.found.known.read.body (caller_of untracked a) x)
sites_of-more untracked (b ∷ as') a x =
    let first = list_sites b.found.known.read.body (caller_of untracked b) x in
    ap (λ s. first ++ s) (sites_of-more untracked as' a x) ∙ sym (append_assoc first (sites_of untracked as' x) (list_sites a.found.known.read.body (caller_of untracked a) x))

-- where this is known of the CALLs in what was looked at
module _ (untracked : List BlockUnit) (done next : List Analysis) (f : Found) (at : List ℕ → List HoldingSite) (known : (x : List ℕ) → at x ≡ sites_of untracked done x) (one : next ≡ done ++ analysis_of untracked (at f.known.read.name) f ∷ []) where
  pub analyses-more : (fs : List Found) → analyses_from untracked next fs ≡ analyses_from untracked done (f ∷ fs)
  analyses-more fs = ap (λ (d : List Analysis). analyses_from untracked d fs) (one ∙ ap (λ (cs : List HoldingSite). done ++ analysis_of untracked cs f ∷ []) (known f.known.read.name))

  pub sites-more : (new : List ℕ → List HoldingSite) → (let a = analysis_of untracked (at f.known.read.name) f in (x : List ℕ) → new x ≡ at x ++ list_sites a.found.known.read.body (caller_of untracked a) x) → (x : List ℕ) → new x ≡ sites_of untracked next x
  sites-more new h x =
      let a : Analysis = analysis_of untracked (at f.known.read.name) f in
      h x ∙ ap (λ s. s ++ list_sites a.found.known.read.body (caller_of untracked a) x) (known x) ∙ sym (ap (λ (d : List Analysis). sites_of untracked d x) one ∙ sites_of-more untracked done a x)

-- the last one is taken
pub popped : {A B : Type 0} (f : A → B) (xs ys : List A) (x : A) → xs ≡ ys ++ x ∷ [] → reverse (map f xs) ≡ f x ∷ reverse (map f ys)
popped {A} f xs ys x e = ap (λ (zs : List A). reverse (map f zs)) e ∙ ap reverse (map-append f ys (x ∷ [])) ∙ reverse-append (map f ys) (f x ∷ [])

pub ruleset found_steps = (found-none, found-more, append-nil)

pub ruleset analysis_steps = (popped, All-pop, append-nil)
