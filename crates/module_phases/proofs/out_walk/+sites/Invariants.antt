use Rattle.std.proofs.Common.{◌≡◌, ℕ, List, ◌++◌, drop}
use Rattle.f77_ast.specs.PlainStmt.{stmt_trees, arm_trees}
use Rattle.module_phases.specs.OutPhases.{list_sites, arms_sites}
use Rattle.module_phases.specs.OutViews.{SitesFit, caller_in}
use Rattle.module_phases.proofs.out_walk.+sites.Given as goal
use Rattle.preconditions.specs.call_translation.NamedSites.{sites_for}

abbrev pub invariant-add_list-loop-s : goal.invariant-add_list-loop-s
invariant-add_list-loop-s l = record {
  added : (x : List ℕ) → sites_for l.sites x ++ list_sites (stmt_trees (drop l.s-index l.s-items)) (caller_in l.caller) x ≡ sites_for l.fn.sites x ++ list_sites (stmt_trees l.s-items) (caller_in l.caller) x;
  fits : SitesFit l.sites;
}

abbrev pub invariant-add_arms-loop-arm : goal.invariant-add_arms-loop-arm
invariant-add_arms-loop-arm l = record {
  added : (x : List ℕ) → sites_for l.sites x ++ arms_sites (arm_trees (drop l.arm-index l.arm-items)) (caller_in l.caller) x ≡ sites_for l.fn.sites x ++ arms_sites (arm_trees l.arm-items) (caller_in l.caller) x;
  fits : SitesFit l.sites;
}
