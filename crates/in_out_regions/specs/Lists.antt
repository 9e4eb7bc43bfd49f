-- IN of a list, from IN, READ and WRITE of its statements.
use Rattle.std.specs.Prelude.{ℕ, Bool, not, ◌&&◌, if◌then◌else◌, List, [], ◌∷◌, ◌++◌, map, Option, Some, None, option_to_list}
use Rattle.f77_ast.specs.Trees.{StmtTrees}
use Rattle.f77_ast.specs.Symbols.{SymbolTree}
use Rattle.array_regions.specs.transformer_algebra.declared.transformer.Transformer.{Transformer}
use Rattle.array_regions.specs.transformers.Jumps.{unstructured}
use Rattle.array_regions.specs.transformers.Lists.{list_at}
use Rattle.array_regions.specs.region_sets.declared.region.Region.{Region}
use Rattle.array_regions.specs.region_sets.Regions.{remade}
use Rattle.array_regions.specs.region_sets.Subtract.{subtract}
use Rattle.array_regions.specs.region_sets.Sets.{unite_all}
use Rattle.array_regions.specs.region_sets.Lists.{all_composed, in_any_order, numbers}
use Rattle.in_out_regions.specs.Writes.{write_of, is_overlapped}

-- ---- one statement, and what follows it

abbrev pub less_write : Option Region → Region → Option Region
less_write None r = Some r
less_write (Some w) r = subtract r w

-- what is left of regions where a statement with these WRITE regions comes first
abbrev pub all_unwritten : List Region → List Region → List Region
all_unwritten ws [] = []
all_unwritten ws (r ∷ rs) = option_to_list (less_write (write_of r.variable ws) r) ++ all_unwritten ws rs

-- not exact where a variable is written that shares units with its own
abbrev pub unless_overlapped : List SymbolTree → List Region → Region → Region
unless_overlapped ss ws r = remade r (r.exact && not (is_overlapped ss ws r.variable)) r.pieces

abbrev pub all_unless_overlapped : List SymbolTree → List Region → List Region → List Region
all_unless_overlapped ss ws rs = map (unless_overlapped ss ws) rs

-- a statement with IN regions `is`, WRITE regions `ws` and this transformer, before what has the IN regions `rest`
abbrev pub before_rest : List SymbolTree → List Region → List Region → Transformer → List Region → List Region
before_rest ss is ws t rest = all_unless_overlapped ss ws (unite_all (is ++ all_unwritten ws (unite_all (all_composed t rest))))

-- ---- lists: t has the transformer of the statement of each number, f its READ and WRITE, g its IN

-- statements one after another
abbrev pub ins_in_order : List SymbolTree → (ℕ → Transformer) → (ℕ → List Region) → (ℕ → List Region) → List ℕ → List Region
ins_in_order ss t f g [] = []
ins_in_order ss t f g (n ∷ ns) = before_rest ss (g n) (f n) (t n) (ins_in_order ss t f g ns)

-- where a GO TO leads into the list, or a RETURN leaves the body early, each statement may come first, and nothing is certain; `whole` says that the
-- list is the body of the module
abbrev pub list_in : List SymbolTree → (ℕ → Transformer) → (ℕ → List Region) → (ℕ → List Region) → Bool → StmtTrees → List Region
list_in ss t f g whole body = if unstructured whole body then in_any_order (list_at t whole body).cells g (numbers body) else ins_in_order ss t f g (numbers body)
