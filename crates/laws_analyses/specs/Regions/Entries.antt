-- What tables give for the regions of entries.
use Rattle.std.specs.Prelude.{◌≡◌, ℕ, ◌+◌, ◌<◌, Bool, true, false, ◌&&◌, nat_eq, List, [], ◌∷◌, ◌++◌, Option, Some, None}
use Rattle.std.specs.List.{list_any}
use Rattle.f77_ast.specs.Trees.{ExprTree}
use Rattle.f77_ast.specs.Trees as tree
use Rattle.f77_ast.specs.Calls.{BoundTree, Dummy}
use Rattle.f77_ast.specs.Symbols.{SymbolTree}
use Rattle.f77_ast.specs.Shared.{symbol_at}
use Rattle.call_graph.specs.declared.graph.Graph.{Graph}
use Rattle.f77_meaning.specs.Modules.{Known, all_lost}
use Rattle.f77_meaning.specs.Linked.{numbering}
use Rattle.preconditions.specs.transformer_algebra.Laws.{In}
use Rattle.preconditions.specs.call_translation.Scopes.{ScopeTree}
use Rattle.in_out_regions.specs.region_sets.declared.region.Region.{Region}
use Rattle.in_out_regions.specs.array_regions.Reads.{reads, maybe_reads}
use Rattle.in_out_regions.specs.array_regions.Entry.{symbols_reads}
use Rattle.laws_analyses.specs.Calls.Parts.{Part, NoDummy}
use Rattle.call_graph.specs.Visible.{is_local}

-- ---- bounds

-- scalars alone are named (ANSI X3.9-1978 §5.1.1.1)
abbrev pub is_bare : (List ℕ → Bool) → ExprTree → Bool
is_bare scalar (tree.int n) = true
is_bare scalar (tree.log b) = true
is_bare scalar (tree.name x) = scalar x
is_bare scalar (tree.element x es) = false
is_bare scalar (tree.paren e) = is_bare scalar e
is_bare scalar (tree.unary o e) = is_bare scalar e
is_bare scalar (tree.binary o a b) = is_bare scalar a && is_bare scalar b
is_bare scalar (tree.chars x) = true

abbrev pub maybe_bare : (List ℕ → Bool) → Option ExprTree → Bool
maybe_bare scalar None = true
maybe_bare scalar (Some e) = is_bare scalar e

abbrev pub are_bare : (List ℕ → Bool) → List BoundTree → Bool
are_bare scalar [] = true
are_bare scalar (b ∷ bs) = is_bare scalar b.low && (maybe_bare scalar b.high && are_bare scalar bs)

abbrev pub all_bare : (List ℕ → Bool) → List Dummy → Bool
all_bare scalar [] = true
all_bare scalar (d ∷ ds) = are_bare scalar d.bounds && all_bare scalar ds

-- what the bounds of dummies read
abbrev pub bounds_reads : List BoundTree → ScopeTree → List Region
bounds_reads [] m = []
bounds_reads (b ∷ bs) m = reads b.low m ++ (maybe_reads b.high m ++ bounds_reads bs m)

abbrev pub dummies_reads : List Dummy → ScopeTree → List Region
dummies_reads [] m = []
dummies_reads (d ∷ ds) m = bounds_reads d.bounds m ++ dummies_reads ds m

-- ---- units of locals

-- one of a module with this name that is lost at its end
pub record IsLost (ks : List Known) (g : Graph) (m : List ℕ) (u : ℕ) : Type 0 where
  pub known : Known
  pub is_one : In known ks
  pub named : known.read.name ≡ m
  pub lost : list_any (λ v. nat_eq v u) (all_lost (numbering ks g) known.read.name known.symbols known.symbols) ≡ true

-- ---- a module that is entered

pub record Enters (ks : List Known) (g : Graph) (k : Part) : Type 0 where
  pub bare : all_bare k.scalar k.routine.dummies ≡ true
  -- the bounds of other arrays are constant
  pub reads : symbols_reads k.scope.symbols k.scope ≡ dummies_reads k.routine.dummies k.scope
  -- a local is no dummy; where it is not saved, its units are lost
  pub local : (n : ℕ) (s : SymbolTree) → symbol_at k.scope.symbols n ≡ Some s → is_local s.place ≡ true → NoDummy k.routine.dummies n
  pub lost : (n : ℕ) (s : SymbolTree) (j : ℕ) → symbol_at k.scope.symbols n ≡ Some s → is_local s.place ≡ true → s.saved ≡ false → j < (k.routine.fixed n).extent → IsLost ks g k.routine.name ((k.routine.fixed n).first + j)
