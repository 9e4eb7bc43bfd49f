-- One module after another.
use Rattle.std.proofs.Common.{◌≡◌, ℕ, List, [], ◌∷◌, ◌++◌, append_assoc, append-nil, sym, ap, ◌∙◌}
use Rattle.std.proofs.lemmas.List.{map-append}
use Rattle.std.proofs.lemmas.List.Elements.{All-push, All-pop}
use Rattle.f77_ast.specs.declared.variable.Unit.{Unit as BlockUnit}
use Rattle.call_graph.specs.declared.graph.Graph.{Graph}
use Rattle.preconditions.specs.call_translation.Sites.{SiteTree}
use Rattle.module_phases.proofs.ScalarPhaseLaws.{popped}
use Rattle.module_phases.specs.InPhases.{ModuleIns}
use Rattle.module_phases.specs.declared.out_site.OutSite.{OutSite}
use Rattle.module_phases.specs.OutPhases.{ModuleOuts, with_outs, list_sites, body_of, caller_of, name_of, sites_of, outs_from}

pub ruleset one_more = (map-append, All-push, append_assoc, append-nil)

sites_of-more : (untracked : List BlockUnit) (fs : List ModuleOuts) (f : ModuleOuts) (x : List ℕ) → sites_of untracked (fs ++ f ∷ []) x ≡ sites_of untracked fs x ++ list_sites (body_of f) (caller_of untracked f) x
sites_of-more untracked [] f x = append-nil (list_sites (body_of f) (caller_of untracked f) x)
sites_of-more untracked (a ∷ fs) f x =
    let first = list_sites (body_of a) (caller_of untracked a) x in
    ap (λ s. first ++ s) (sites_of-more untracked fs f x) ∙ sym (append_assoc first (sites_of untracked fs x) (list_sites (body_of f) (caller_of untracked f) x))

-- where this is known of the CALLs in what was looked at
module _ (g : Graph) (done next : List ModuleOuts) (f : ModuleIns) (at : List ℕ → List (SiteTree OutSite)) (known : (x : List ℕ) → at x ≡ sites_of g.untracked done x) (one : next ≡ done ++ with_outs g (at (name_of f)) f ∷ []) where
  pub outs-more : (fs : List ModuleIns) → outs_from g next fs ≡ outs_from g done (f ∷ fs)
  outs-more fs = ap (λ (d : List ModuleOuts). outs_from g d fs) (one ∙ ap (λ (cs : List (SiteTree OutSite)). done ++ with_outs g cs f ∷ []) (known (name_of f)))

  pub sites-more : (new : List ℕ → List (SiteTree OutSite)) → (let a = with_outs g (at (name_of f)) f in (x : List ℕ) → new x ≡ at x ++ list_sites (body_of a) (caller_of g.untracked a) x) → (x : List ℕ) → new x ≡ sites_of g.untracked next x
  sites-more new h x =
      let a : ModuleOuts = with_outs g (at (name_of f)) f in
      h x ∙ ap (λ s. s ++ list_sites (body_of a) (caller_of g.untracked a) x) (known x) ∙ sym (ap (λ (d : List ModuleOuts). sites_of g.untracked d x) one ∙ sites_of-more g.untracked done a x)

pub ruleset module_steps = (popped, All-pop, append-nil)
