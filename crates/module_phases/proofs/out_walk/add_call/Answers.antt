use Rattle.std.proofs.Common.{◌≡◌, ℕ, List, ◌++◌, ◌∷◌, [], subst}
use Rattle.std.specs.Prelude.{IfOk, if◌then◌else◌, bytes_eq}
use Rattle.f77_ast.specs.PlainStmt.{what_tree}
use Rattle.preconditions.specs.call_translation.Sites.{SiteTree, caller_tree, actuals_in}
use Rattle.module_phases.specs.declared.out_site.OutSite.{OutSite}
use Rattle.module_phases.specs.OutViews.{caller_in, SitesFit}
use Rattle.module_phases.proofs.out_walk.add_call.Goals as goal
use Rattle.preconditions.specs.call_translation.NamedSites.{sites_for}
use Rattle.std.proofs.lemmas.Result.{IfOk-weaker}
use Rattle.in_out_regions.specs.region_sets.Sets.{SetFits}
use Rattle.preconditions.proofs.CallTranslation.NamedSiteLaws.{all_added}

pub returns-clause-added : goal.returns-clause-added
returns-clause-added c =
    let k = caller_in c.args.caller.now in
    let at : OutSite → SiteTree OutSite = λ v. record { caller = caller_tree c.args.caller.now.scope.now.value; actuals = actuals_in (what_tree c.args.call.now.what); value = v } in
    let known : OutSite = record { changed = k.changed; out = k.outs c.args.call.now.id } in
    let same : c.in_ok-value.value ≡ known = λ t. record { changed = c.in_ok-value.ensures.changed t; out = c.in_ok-value.ensures.out t } in
    subst (λ (v : OutSite). IfOk c.add.result (λ _. (x : List ℕ) → sites_for c.add.new.self x ≡ sites_for c.args.sites.now x ++ (if bytes_eq c.args.callee.now x then at v ∷ [] else []))) same c.add.ensures

pub returns-clause-fits : goal.returns-clause-fits
returns-clause-fits c =
    let s : SiteTree OutSite = record { caller = caller_tree c.args.caller.now.scope.now.value; actuals = actuals_in (what_tree c.args.call.now.what); value = c.in_ok-value.value } in
    IfOk-weaker c.add.result (λ u. (x : List ℕ) → sites_for c.add.new.self x ≡ sites_for c.args.sites.now x ++ (if bytes_eq c.args.callee.now x then s ∷ [] else [])) (λ u. SitesFit c.add.new.self)
    (λ u n. all_added (λ (t : SiteTree OutSite). SetFits t.value.out) (sites_for c.args.sites.now) (sites_for c.add.new.self) c.args.callee.now s n c.requires.sites c.in_ok-value.ensures.fits)
    c.add.ensures
