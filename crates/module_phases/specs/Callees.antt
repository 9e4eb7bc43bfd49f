-- What a module sees of the modules that it calls.
use Rattle.std.specs.Prelude.{ℕ, List, [], ◌∷◌, map, Option, Some, None, bytes_eq, if◌then◌else◌}
use Rattle.affine_systems.specs.Given.{Fits}
use Rattle.f77_ast.specs.Symbols.{SymbolTree, symbol_tree}
use Rattle.f77_ast.specs.Summaries.{SummaryTree}
use Rattle.preconditions.specs.transformer_algebra.declared.transformer.Transformer.{Transformer}
use Rattle.in_out_regions.specs.region_sets.declared.region.Region.{Region}
use Rattle.in_out_regions.specs.region_sets.Sets.{SetFits}
use Rattle.module_phases.specs.declared.callees.Callee as code

-- a called module: its name, its symbols, and what a result says of it to its callers
pub record Callee (T : Type 0) : Type 0 where
  pub name : List ℕ
  pub symbols : List SymbolTree
  pub summary : T

abbrev pub callee_tree : {T : Type 0} → code.Callee T → Callee T
callee_tree c = record { name = c.name.now; symbols = map symbol_tree c.symbols.now; summary = c.summary.now }

abbrev pub summary_of : {T : Type 0} → Callee T → SummaryTree T
summary_of c = record { symbols = c.symbols; value = c.summary }

-- one module more, in place of one of its name
abbrev pub with_callee : {T : Type 0} → Callee T → (List ℕ → Option (SummaryTree T)) → List ℕ → Option (SummaryTree T)
with_callee c found x = if bytes_eq c.name x then Some (summary_of c) else found x

-- the last of a name counts; `found` where there is none
abbrev pub callee_at : {T : Type 0} → Option (SummaryTree T) → List (Callee T) → List ℕ → Option (SummaryTree T)
callee_at found [] x = found
callee_at found (c ∷ cs) x = callee_at (with_callee c (λ y. found) x) cs x

-- the summary of the module of a name
abbrev pub callees_of : {T : Type 0} → List (Callee T) → List ℕ → Option (SummaryTree T)
callees_of cs x = callee_at None cs x

-- their systems are such as calls take
abbrev pub AllFit : List (code.Callee Transformer) → Type 0
AllFit [] = Unit {0}
AllFit (c ∷ cs) = Fits c.summary.now.system × AllFit cs

abbrev pub AllSetsFit : List (code.Callee (List Region)) → Type 0
AllSetsFit [] = Unit {0}
AllSetsFit (c ∷ cs) = SetFits c.summary.now × AllSetsFit cs
