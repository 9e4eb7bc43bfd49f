-- The analyses of tracked cells over the modules of a program: first what statements do, callees before callers; then what holds where statements begin, callers
-- before callees.
use Rattle.std.specs.Prelude.{ℕ, List, [], ◌∷◌, ◌++◌, map, reverse, Option, Some, None, slice_get, bytes_eq, option_to_list, if◌then◌else◌}
use Rattle.affine_systems.specs.declared.row.System.{System}
use Rattle.f77_ast.specs.Trees.{ExprTrees, StmtTree, WhatTree, ArmTree, ArmTrees, ElseTree, LoopTree, StmtTrees}
use Rattle.f77_ast.specs.Trees as tree
use Rattle.f77_ast.specs.declared.variable.Unit.{Unit as BlockUnit}
use Rattle.f77_ast.specs.Symbols.{number_from, value_in}
use Rattle.f77_ast.specs.declared.results.Results.{Results}
use Rattle.tracked_cells.specs.Tracked.{tracked_of}
use Rattle.call_graph.specs.declared.graph.Graph.{Graph}
use Rattle.affine_forms.specs.Scalars.{cell_in}
use Rattle.preconditions.specs.transformer_algebra.declared.transformer.Transformer.{Transformer}
use Rattle.preconditions.specs.call_translation.Scopes.{ScopeTree}
use Rattle.preconditions.specs.call_translation.Sites.{HoldingSite}
use Rattle.preconditions.specs.transformers.Lists.{value_at, transformer_at}
use Rattle.preconditions.specs.transformers.Given.{Callees}
use Rattle.preconditions.specs.transformers.Modules.{transformers_of}
use Rattle.preconditions.specs.Entry.{entry_of}
use Rattle.preconditions.specs.Modules.{preconditions_of}
use Rattle.f77_meaning.specs.Modules.{Known, symbol_names}

-- ---- modules

abbrev pub scope_of : List BlockUnit → Known → ScopeTree
scope_of untracked k = record {
  symbols = k.symbols;
  tracked = tracked_of k.read k.symbols untracked;
  names = symbol_names k.symbols;
  scalars = record { value = value_in k.symbols; cell = cell_in (symbol_names k.symbols) (tracked_of k.read k.symbols untracked) };
}

abbrev pub module_names : List Known → List (List ℕ)
module_names ks = map (λ k. k.read.name) ks

-- the place of the first module of a name in the text, from 0
abbrev pub place_of : List Known → List ℕ → Option ℕ
place_of ks x = number_from 0 (module_names ks) x

abbrev pub module_at : List Known → Option ℕ → Option Known
module_at ks None = None
module_at ks (Some i) = slice_get ks i

abbrev pub module_of : List Known → List ℕ → Option Known
module_of ks x = module_at ks (place_of ks x)

-- ---- what statements do

-- a module, and what its statements do
pub record Found : Type 0 where
  pub known : Known
  pub own : Results Transformer

-- before any module was looked at
abbrev pub no_callees : Callees
no_callees x = None

-- with one more, if any
abbrev pub with_callee : Option Found → Callees → Callees
with_callee None cs x = cs x
with_callee (Some f) cs x = if bytes_eq f.known.read.name x then Some (record { symbols = f.known.symbols; value = f.own.summary }) else cs x

abbrev pub found_of : List BlockUnit → Callees → Known → Found
found_of untracked cs k = record { known = k; own = transformers_of k.read.body (scope_of untracked k) cs }

abbrev pub maybe_found : List BlockUnit → Callees → Option Known → Option Found
maybe_found untracked cs None = None
maybe_found untracked cs (Some k) = Some (found_of untracked cs k)

-- modules in this order of their names, each with the summaries of those before it; a name without a module is passed over
abbrev pub found_in : List BlockUnit → List Known → Callees → List (List ℕ) → List Found
found_in untracked ks cs [] = []
found_in untracked ks cs (x ∷ xs) =
    let f = maybe_found untracked cs (module_of ks x) in option_to_list f ++ found_in untracked ks (with_callee f cs) xs

-- ---- the CALLs that name a module

-- a caller: its scope, and what holds where its statements begin
pub record Caller : Type 0 where
  pub scope : ScopeTree
  pub holds : ℕ → Option System

-- a CALL without a result counts for nothing
abbrev pub site : ScopeTree → ExprTrees → Option System → List HoldingSite
site m es None = []
site m es (Some p) = record { caller = m; actuals = es; value = p } ∷ []

abbrev mutual
  pub stmt_sites : StmtTree → Caller → List ℕ → List HoldingSite
  stmt_sites (tree.stmt n label w) c x = what_sites w n c x

  pub what_sites : WhatTree → ℕ → Caller → List ℕ → List HoldingSite
  what_sites (tree.assign a b) n c x = []
  what_sites (tree.block_if arms other) n c x = arms_sites arms c x ++ else_sites other c x
  what_sites (tree.logical_if e s) n c x = stmt_sites s c x
  what_sites (tree.do_loop l) n c x = loop_sites l c x
  what_sites (tree.call y es) n c x = if bytes_eq y x then site c.scope es (c.holds n) else []
  what_sites (tree.goto l) n c x = []
  what_sites tree.continue n c x = []
  what_sites tree.return n c x = []
  what_sites (tree.stop text) n c x = []
  what_sites (tree.print es) n c x = []
  what_sites (tree.read es) n c x = []

  pub list_sites : StmtTrees → Caller → List ℕ → List HoldingSite
  list_sites tree.no_stmts c x = []
  list_sites (tree.more_stmts s rest) c x = stmt_sites s c x ++ list_sites rest c x

  pub arms_sites : ArmTrees → Caller → List ℕ → List HoldingSite
  arms_sites tree.no_arms c x = []
  arms_sites (tree.more_arms a rest) c x = arm_sites a c x ++ arms_sites rest c x

  pub arm_sites : ArmTree → Caller → List ℕ → List HoldingSite
  arm_sites (tree.arm test body) c x = list_sites body c x

  pub else_sites : ElseTree → Caller → List ℕ → List HoldingSite
  else_sites tree.no_else c x = []
  else_sites (tree.otherwise body) c x = list_sites body c x

  pub loop_sites : LoopTree → Caller → List ℕ → List HoldingSite
  loop_sites (tree.loop index first last step body) c x = list_sites body c x

-- ---- what holds

-- what the analyses say of a module
pub record Analysis : Type 0 where
  pub found : Found
  pub holds : Results System

abbrev pub caller_of : List BlockUnit → Analysis → Caller
caller_of untracked a = record { scope = scope_of untracked a.found.known; holds = value_at a.holds.at }

-- the CALLs of a module in those that were looked at, in their order
abbrev pub sites_of : List BlockUnit → List Analysis → List ℕ → List HoldingSite
sites_of untracked [] x = []
sites_of untracked (a ∷ as') x = list_sites a.found.known.read.body (caller_of untracked a) x ++ sites_of untracked as' x

abbrev pub analysis_of : List BlockUnit → List HoldingSite → Found → Analysis
analysis_of untracked cs f = record {
  found = f;
  holds = preconditions_of f.known.read.body (scope_of untracked f.known) (transformer_at f.own.at) (entry_of f.known.read.main (scope_of untracked f.known) cs);
}

-- modules one after another, each behind all that may call it
abbrev pub analyses_from : List BlockUnit → List Analysis → List Found → List Analysis
analyses_from untracked done [] = done
analyses_from untracked done (f ∷ fs) = analyses_from untracked (done ++ analysis_of untracked (sites_of untracked done f.known.read.name) f ∷ []) fs

-- of the modules of a program: in the order of its graph, where each stands behind those that it calls, what they do; in the opposite order what holds
abbrev pub analyses : List Known → Graph → List Analysis
analyses ks g = analyses_from g.untracked [] (reverse (found_in g.untracked ks no_callees g.order))
