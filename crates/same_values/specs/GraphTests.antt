-- Whether two graphs, and the lines of two modules, are the same, field by field.
use Rattle.std.specs.Prelude.{ℕ, Bool, ◌&&◌, nat_eq, bytes_eq}
use Rattle.std.specs.Cmp.Lexicographic.{pointwise}
use Rattle.f77_ast.specs.declared.variable.Unit.{Unit}
use Rattle.call_graph.specs.declared.graph.Edge.{Edge}
use Rattle.call_graph.specs.declared.graph.Block.{Block}
use Rattle.call_graph.specs.declared.graph.Graph.{Graph}
use Rattle.f77_ast.specs.declared.places.Part.{Part}
use Rattle.f77_ast.specs.declared.places.Part.TheVariants as part
use Rattle.f77_ast.specs.declared.places.Spot.{Spot}
use Rattle.f77_ast.specs.declared.places.Places.{Places}

abbrev pub edge_test : Edge → Edge → Bool
edge_test a b = bytes_eq a.caller b.caller && (nat_eq a.at b.at && bytes_eq a.callee b.callee)

abbrev pub block_test : Block → Block → Bool
block_test a b = bytes_eq a.name b.name && nat_eq a.size b.size

abbrev pub unit_test : Unit → Unit → Bool
unit_test a b = bytes_eq a.block b.block && nat_eq a.offset b.offset

abbrev pub graph_test : Graph → Graph → Bool
graph_test a b = pointwise bytes_eq a.order b.order && (pointwise edge_test a.edges b.edges && (pointwise block_test a.blocks b.blocks && pointwise unit_test a.untracked b.untracked))

-- the number of the form, and the numbers that it has
abbrev pub part_code : Part → ℕ × ℕ × ℕ
part_code part.Title = (0, 0, 0)
part_code (part.Decl n) = (1, n, 0)
part_code (part.Stmt n) = (2, n, 0)
part_code (part.ElseIf n k) = (3, n, k)
part_code (part.Else n) = (4, n, 0)
part_code (part.Close n) = (5, n, 0)
part_code part.End = (6, 0, 0)

abbrev pub code_test : ℕ × ℕ × ℕ → ℕ × ℕ × ℕ → Bool
code_test a b = nat_eq a.0 b.0 && nat_eq a.1 b.1 && nat_eq a.2 b.2

abbrev pub spot_test : Spot → Spot → Bool
spot_test a b = code_test (part_code a.part) (part_code b.part) && nat_eq a.first b.first && pointwise bytes_eq a.comments b.comments

abbrev pub places_test : Places → Places → Bool
places_test a b = pointwise spot_test a.spots b.spots && pointwise bytes_eq a.closing b.closing
