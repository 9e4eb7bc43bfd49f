-- OUT of the modules of a program, callers before callees: what may be read after a module is what may be read after its CALLs, at all of them.
use Rattle.std.specs.Prelude.{ℕ, List, [], ◌∷◌, ◌++◌, reverse, bytes_eq, if◌then◌else◌}
use Rattle.f77_ast.specs.Trees.{ExprTrees, StmtTree, WhatTree, ArmTree, ArmTrees, ElseTree, LoopTree, StmtTrees}
use Rattle.f77_ast.specs.Trees as tree
use Rattle.f77_ast.specs.declared.variable.Unit.{Unit as BlockUnit}
use Rattle.f77_ast.specs.Symbols.{SymbolTree}
use Rattle.f77_ast.specs.declared.results.Results.{Results}
use Rattle.call_graph.specs.declared.graph.Graph.{Graph}
use Rattle.f77_meaning.specs.Modules.{Known}
use Rattle.preconditions.specs.call_translation.Scopes.{ScopeTree}
use Rattle.preconditions.specs.call_translation.Sites.{SiteTree}
use Rattle.module_phases.specs.ScalarPhases.{scope_of}
use Rattle.in_out_regions.specs.region_sets.declared.region.Region.{Region}
use Rattle.in_out_regions.specs.call_equations.Sides.{SidesTree, entry_cells, changed_cells}
use Rattle.in_out_regions.specs.array_regions.Calls.{scope_with}
use Rattle.module_phases.specs.InPhases.{ModuleIns}
use Rattle.in_out_regions.specs.region_translation.Units.{size_in}
use Rattle.in_out_regions.specs.region_translation.Callee.{to_callee}
use Rattle.out_regions.specs.Used.{all_out}
use Rattle.out_regions.specs.Modules.{outs_with}
use Rattle.module_phases.specs.declared.out_site.OutSite.{OutSite}
use Rattle.in_out_regions.specs.region_sets.Lists.{set_at}

-- a module with its analyses, its READ, WRITE and IN, and its OUT regions
pub record ModuleOuts : Type 0 where
  pub known : ModuleIns
  pub outs : Results (List Region)

-- ---- the CALLs of a module

-- a caller: its scope, its cells that some statement changes, and OUT at its statements
pub record Caller : Type 0 where
  pub scope : ScopeTree
  pub changed : List ℕ
  pub outs : ℕ → List Region

-- a CALL with these actuals, by the number of the statement
abbrev pub call_site : Caller → ExprTrees → ℕ → SiteTree OutSite
call_site c es n = record { caller = c.scope; actuals = es; value = record { changed = c.changed; out = c.outs n } }

abbrev mutual
  -- the CALLs of the module of a name in a statement, in the order of the text
  pub stmt_sites : StmtTree → Caller → List ℕ → List (SiteTree OutSite)
  stmt_sites (tree.stmt n label w) c x = what_sites w n c x

  pub what_sites : WhatTree → ℕ → Caller → List ℕ → List (SiteTree OutSite)
  what_sites (tree.assign a b) n c x = []
  what_sites (tree.block_if arms other) n c x = arms_sites arms c x ++ else_sites other c x
  what_sites (tree.logical_if e s) n c x = stmt_sites s c x
  what_sites (tree.do_loop l) n c x = loop_sites l c x
  what_sites (tree.call y es) n c x = if bytes_eq y x then call_site c es n ∷ [] else []
  what_sites (tree.goto l) n c x = []
  what_sites tree.continue n c x = []
  what_sites tree.return n c x = []
  what_sites (tree.stop text) n c x = []
  what_sites (tree.print es) n c x = []
  what_sites (tree.read es) n c x = []

  pub list_sites : StmtTrees → Caller → List ℕ → List (SiteTree OutSite)
  list_sites tree.no_stmts c x = []
  list_sites (tree.more_stmts s rest) c x = stmt_sites s c x ++ list_sites rest c x

  pub arms_sites : ArmTrees → Caller → List ℕ → List (SiteTree OutSite)
  arms_sites tree.no_arms c x = []
  arms_sites (tree.more_arms a rest) c x = arm_sites a c x ++ arms_sites rest c x

  pub arm_sites : ArmTree → Caller → List ℕ → List (SiteTree OutSite)
  arm_sites (tree.arm test body) c x = list_sites body c x

  pub else_sites : ElseTree → Caller → List ℕ → List (SiteTree OutSite)
  else_sites tree.no_else c x = []
  else_sites (tree.otherwise body) c x = list_sites body c x

  pub loop_sites : LoopTree → Caller → List ℕ → List (SiteTree OutSite)
  loop_sites (tree.loop index first last step body) c x = list_sites body c x

-- ---- what CALLs hand down to the module of a name, in whose scope it is entered; `size` has the units of the blocks of the program

abbrev pub sides_at : ScopeTree → List ℕ → SiteTree OutSite → SidesTree
sides_at callee x s = record { caller = s.caller; changed = s.value.changed; name = x; actuals = s.actuals; callee = callee }

-- of regions of the caller, one after another
abbrev pub handed_each : (List ℕ → ℕ) → SidesTree → List Region → List Region
handed_each size c [] = []
handed_each size c (r ∷ rs) = all_out (to_callee size c r) ++ handed_each size c rs

abbrev pub handed_by : (List ℕ → ℕ) → ScopeTree → List ℕ → SiteTree OutSite → List Region
handed_by size callee x s = handed_each size (sides_at callee x s) s.value.out

abbrev pub handed_down : (List ℕ → ℕ) → ScopeTree → List ℕ → List (SiteTree OutSite) → List Region
handed_down size callee x [] = []
handed_down size callee x (s ∷ ss) = handed_by size callee x s ++ handed_down size callee x ss

-- to the module with a name and these symbols
abbrev pub used_at : Graph → List ℕ → List SymbolTree → List (SiteTree OutSite) → List Region
used_at g x ss cs = handed_down (size_in g.blocks) (scope_with ss (entry_cells g.untracked ss)) x cs

-- after the end of a main program nothing is read
abbrev pub used_after : Graph → Known → List (SiteTree OutSite) → List Region
used_after g k cs = if k.read.main then [] else used_at g k.read.name k.symbols cs

-- ---- modules

abbrev pub outs_found : Graph → List (SiteTree OutSite) → ModuleIns → Results (List Region)
outs_found g cs f =
    let a = f.known.analysis.found in
    outs_with a.known.read.body (scope_of g.untracked a.known) a.own.at f.known.regions.at f.ins.at (used_after g a.known cs)

abbrev pub with_these : ModuleIns → Results (List Region) → ModuleOuts
with_these f r = record { known = f; outs = r }

abbrev pub with_outs : Graph → List (SiteTree OutSite) → ModuleIns → ModuleOuts
with_outs g cs f = with_these f (outs_found g cs f)

abbrev pub caller_of : List BlockUnit → ModuleOuts → Caller
caller_of untracked f =
    let a = f.known.known.analysis.found in
    record { scope = scope_of untracked a.known; changed = changed_cells a.own.at; outs = set_at f.outs.at }

abbrev pub body_of : ModuleOuts → StmtTrees
body_of f = f.known.known.analysis.found.known.read.body

-- the CALLs of a module in those that were looked at, in their order
abbrev pub sites_of : List BlockUnit → List ModuleOuts → List ℕ → List (SiteTree OutSite)
sites_of untracked [] x = []
sites_of untracked (f ∷ fs) x = list_sites (body_of f) (caller_of untracked f) x ++ sites_of untracked fs x

abbrev pub name_of : ModuleIns → List ℕ
name_of f = f.known.analysis.found.known.read.name

-- modules one after another, each after all that may call it
abbrev pub outs_from : Graph → List ModuleOuts → List ModuleIns → List ModuleOuts
outs_from g done [] = done
outs_from g done (f ∷ fs) = outs_from g (done ++ with_outs g (sites_of g.untracked done (name_of f)) f ∷ []) fs

-- of the modules of a program, from their IN regions, in which callees come before callers; in the opposite order
abbrev pub all_outs : Graph → List ModuleIns → List ModuleOuts
all_outs g fs = outs_from g [] (reverse fs)
