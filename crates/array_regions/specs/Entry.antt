-- What a module reads where it is entered, and what its callers see of what it accesses.
use Rattle.std.specs.Prelude.{ℕ, suc, Bool, true, ◌&&◌, if◌then◌else◌, List, [], ◌∷◌, ◌++◌, map}
use Rattle.affine_systems.specs.declared.row.System.{System}
use Rattle.f77_ast.specs.Symbols.{BoundTree, SymbolTree}
use Rattle.transformers.specs.transformer_algebra.Transformers.{without}
use Rattle.transformers.specs.call_translation.Scopes.{ScopeTree}
use Rattle.region_translation.specs.region_sets.declared.region.Region.{Region}
use Rattle.region_translation.specs.region_sets.Regions.{remade}
use Rattle.region_translation.specs.region_sets.Naming.{has_none, named_cells}
use Rattle.region_translation.specs.region_sets.Sets.{unite_all}
use Rattle.array_regions.specs.Reads.{reads, maybe_reads}
use Rattle.call_graph.specs.Visible.{is_visible_to_callers, is_local}

-- ---- the bounds of arrays (ANSI X3.9-1978 §5.1)

abbrev pub bounds_reads : List BoundTree → ScopeTree → List Region
bounds_reads [] m = []
bounds_reads (b ∷ bs) m = reads b.low m ++ (maybe_reads b.high m ++ bounds_reads bs m)

abbrev pub symbols_reads : List SymbolTree → ScopeTree → List Region
symbols_reads [] m = []
symbols_reads (s ∷ ss) m = bounds_reads s.bounds m ++ symbols_reads ss m

-- ---- what callers see

-- the first of the symbols has the number after k
abbrev pub locals_from : ℕ → List SymbolTree → List ℕ
locals_from k [] = []
locals_from k (s ∷ ss) = if is_local s.place then suc k ∷ locals_from (suc k) ss else locals_from (suc k) ss

abbrev pub locals : List SymbolTree → List ℕ
locals ss = locals_from 0 ss

abbrev pub names_none : List ℕ → List System → Bool
names_none cs [] = true
names_none cs (s ∷ ss) = has_none (named_cells cs s) && names_none cs ss

-- whatever numbers these cells have; not exact where one is named
abbrev pub for_callers : List ℕ → Region → Region
for_callers cs r = remade r (r.exact && names_none cs r.pieces) (map (without cs) r.pieces)

abbrev pub seen : List SymbolTree → List ℕ → List Region → List Region
seen ss cs [] = []
seen ss cs (r ∷ rs) = if is_visible_to_callers ss r.variable then for_callers cs r ∷ seen ss cs rs else seen ss cs rs

-- of a module whose body has this set
abbrev pub summary_of : ScopeTree → List Region → List Region
summary_of m rs = unite_all (seen m.symbols (locals m.symbols) (unite_all (symbols_reads m.symbols m ++ rs)))
