-- One called module, or one calling module, after another.
use Rattle.std.proofs.Common.{◌≡◌, ℕ, List, [], ◌∷◌, ◌++◌, map, Option, sym, ap, subst, ◌∙◌, append_assoc, append-nil}
use Rattle.f77_ast.specs.declared.variable.Unit.{Unit as BlockUnit}
use Rattle.f77_ast.specs.Summaries.{SummaryTree}
use Rattle.preconditions.specs.call_translation.Sites.{HoldingSite, SiteTree}
use Rattle.module_phases.specs.ScalarPhases.{list_sites}
use Rattle.module_phases.specs.declared.out_site.OutSite.{OutSite}
use Rattle.module_phases.specs.OutPhases.{list_sites as list_out_sites}
use Rattle.module_phases.specs.declared.callees.Callee as callee
use Rattle.module_phases.specs.declared.callers.CallerHolds as holds
use Rattle.module_phases.specs.declared.callers.CallerOuts as outs
use Rattle.module_phases.specs.Callees.{callee_tree, with_callee, callee_at}
use Rattle.module_phases.specs.Callers.{holds_tree, outs_tree, holds_caller, outs_caller, sites_of, out_sites_of}
use Rattle.fx_lists.proofs.Numbers.{same_function}

-- one called module more
pub callee-step : {T : Type 0} (old new : List ℕ → Option (SummaryTree T)) (rest more : List (callee.Callee T)) (c : callee.Callee T) → rest ≡ c ∷ more → ((x : List ℕ) → new x ≡ with_callee (callee_tree c) old x) →
    (x : List ℕ) → callee_at (new x) (map callee_tree more) x ≡ callee_at (old x) (map callee_tree rest) x
callee-step {T} old new rest more c e h x =
    ap (λ (s : Option (SummaryTree T)). callee_at s (map callee_tree more) x) (h x)
    ∙ sym (ap (λ (cs : List (callee.Callee T)). callee_at (old x) (map callee_tree cs) x) e)

-- one calling module more
pub sites-step : (u : List BlockUnit) (old new : List ℕ → List HoldingSite) (rest more : List holds.CallerHolds) (c : holds.CallerHolds) → rest ≡ c ∷ more →
    ((x : List ℕ) → new x ≡ old x ++ list_sites (holds_tree c).known.read.body (holds_caller u (holds_tree c)) x) →
    (x : List ℕ) → new x ++ sites_of u (map holds_tree more) x ≡ old x ++ sites_of u (map holds_tree rest) x
sites-step u old new rest more c e h x =
    let own = list_sites (holds_tree c).known.read.body (holds_caller u (holds_tree c)) x in
    ap (λ (s : List HoldingSite). s ++ sites_of u (map holds_tree more) x) (h x)
    ∙ (append_assoc (old x) own (sites_of u (map holds_tree more) x) ∙ sym (ap (λ (cs : List holds.CallerHolds). old x ++ sites_of u (map holds_tree cs) x) e))

pub out_sites-step : (u : List BlockUnit) (old new : List ℕ → List (SiteTree OutSite)) (rest more : List outs.CallerOuts) (c : outs.CallerOuts) → rest ≡ c ∷ more →
    ((x : List ℕ) → new x ≡ old x ++ list_out_sites (outs_tree c).known.read.body (outs_caller u (outs_tree c)) x) →
    (x : List ℕ) → new x ++ out_sites_of u (map outs_tree more) x ≡ old x ++ out_sites_of u (map outs_tree rest) x
out_sites-step u old new rest more c e h x =
    let own = list_out_sites (outs_tree c).known.read.body (outs_caller u (outs_tree c)) x in
    ap (λ (s : List (SiteTree OutSite)). s ++ out_sites_of u (map outs_tree more) x) (h x)
    ∙ (append_assoc (old x) own (out_sites_of u (map outs_tree more) x) ∙ sym (ap (λ (cs : List outs.CallerOuts). old x ++ out_sites_of u (map outs_tree cs) x) e))

pub ruleset same_callees = (same_function)

pub ruleset scopes = (append-nil)
