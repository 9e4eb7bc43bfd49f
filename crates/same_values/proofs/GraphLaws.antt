-- What the tests of graphs and lines decide.
use Rattle.std.proofs.Common.{◌≡◌, ◌<◌, ℕ, suc, true, ◌&&◌, List, [], ◌∷◌, get_or, length, refl, sym, ap, ◌∙◌, subst, arith}
use Rattle.std.specs.Prelude.{nat_eq, bytes_eq}
use Rattle.std.specs.Cmp.Lexicographic.{pointwise, pointwise_decides, bytes_decides}
use Rattle.std.proofs.lemmas.Bool.{eqb-true, eq-eqb, ne_eqb, and_parts, and_from}
use Rattle.f77_ast.specs.declared.variable.Unit.{Unit}
use Rattle.call_graph.specs.declared.graph.Edge.{Edge}
use Rattle.call_graph.specs.declared.graph.Block.{Block}
use Rattle.call_graph.specs.declared.graph.Graph.{Graph}
use Rattle.f77_ast.specs.declared.places.Part.{Part}
use Rattle.f77_ast.specs.declared.places.Part.TheVariants as part
use Rattle.f77_ast.specs.declared.places.Spot.{Spot}
use Rattle.f77_ast.specs.declared.places.Places.{Places}
use Rattle.same_values.specs.GraphTests.{edge_test, block_test, unit_test, graph_test, part_code, code_test, spot_test, places_test}
use Rattle.fx_lists.proofs.Numbers.{same_number}
use Rattle.fx_lists.proofs.Texts.{same_name}

edge-true : (a b : Edge) → edge_test a b ≡ true → a ≡ b
edge-true a b e =
    let p0 = and_parts (bytes_eq a.caller b.caller) (nat_eq a.at b.at && (bytes_eq a.callee b.callee)) e in
    let p1 = and_parts (nat_eq a.at b.at) (bytes_eq a.callee b.callee) p0.1 in
    let mk : List ℕ → ℕ → List ℕ → Edge = λ x0 x1 x2. record { caller = x0; at = x1; callee = x2 } in
    ap (λ x. mk x a.at a.callee) ((bytes_decides a.caller b.caller).0 p0.0)
    ∙ ap (λ x. mk b.caller x a.callee) (eqb-true a.at b.at p1.0)
    ∙ ap (λ x. mk b.caller b.at x) ((bytes_decides a.callee b.callee).0 p1.1)

edge_self : (a : Edge) → edge_test a a ≡ true
edge_self a = and_from (bytes_eq a.caller a.caller) (nat_eq a.at a.at && (bytes_eq a.callee a.callee)) (same_name a.caller) (and_from (nat_eq a.at a.at) (bytes_eq a.callee a.callee) (same_number a.at) (same_name a.callee))

pub edge_decides : (a b : Edge) → (edge_test a b ≡ true → a ≡ b) × (a ≡ b → edge_test a b ≡ true)
edge_decides a b = (edge-true a b, λ e. subst (λ c. edge_test a c ≡ true) e (edge_self a))

block-true : (a b : Block) → block_test a b ≡ true → a ≡ b
block-true a b e =
    let p0 = and_parts (bytes_eq a.name b.name) (nat_eq a.size b.size) e in
    let mk : List ℕ → ℕ → Block = λ x0 x1. record { name = x0; size = x1 } in
    ap (λ x. mk x a.size) ((bytes_decides a.name b.name).0 p0.0)
    ∙ ap (λ x. mk b.name x) (eqb-true a.size b.size p0.1)

block_self : (a : Block) → block_test a a ≡ true
block_self a = and_from (bytes_eq a.name a.name) (nat_eq a.size a.size) (same_name a.name) (same_number a.size)

pub block_decides : (a b : Block) → (block_test a b ≡ true → a ≡ b) × (a ≡ b → block_test a b ≡ true)
block_decides a b = (block-true a b, λ e. subst (λ c. block_test a c ≡ true) e (block_self a))

unit-true : (a b : Unit) → unit_test a b ≡ true → a ≡ b
unit-true a b e =
    let p0 = and_parts (bytes_eq a.block b.block) (nat_eq a.offset b.offset) e in
    let mk : List ℕ → ℕ → Unit = λ x0 x1. record { block = x0; offset = x1 } in
    ap (λ x. mk x a.offset) ((bytes_decides a.block b.block).0 p0.0)
    ∙ ap (λ x. mk b.block x) (eqb-true a.offset b.offset p0.1)

unit_self : (a : Unit) → unit_test a a ≡ true
unit_self a = and_from (bytes_eq a.block a.block) (nat_eq a.offset a.offset) (same_name a.block) (same_number a.offset)

pub unit_decides : (a b : Unit) → (unit_test a b ≡ true → a ≡ b) × (a ≡ b → unit_test a b ≡ true)
unit_decides a b = (unit-true a b, λ e. subst (λ c. unit_test a c ≡ true) e (unit_self a))

graph-true : (a b : Graph) → graph_test a b ≡ true → a ≡ b
graph-true a b e =
    let p0 = and_parts (pointwise bytes_eq a.order b.order) (pointwise edge_test a.edges b.edges && (pointwise block_test a.blocks b.blocks && (pointwise unit_test a.untracked b.untracked))) e in
    let p1 = and_parts (pointwise edge_test a.edges b.edges) (pointwise block_test a.blocks b.blocks && (pointwise unit_test a.untracked b.untracked)) p0.1 in
    let p2 = and_parts (pointwise block_test a.blocks b.blocks) (pointwise unit_test a.untracked b.untracked) p1.1 in
    let mk : List (List ℕ) → List Edge → List Block → List Unit → Graph = λ x0 x1 x2 x3. record { order = x0; edges = x1; blocks = x2; untracked = x3 } in
    ap (λ x. mk x a.edges a.blocks a.untracked) ((pointwise_decides {E = bytes_eq} bytes_decides a.order b.order).0 p0.0)
    ∙ ap (λ x. mk b.order x a.blocks a.untracked) ((pointwise_decides {E = edge_test} edge_decides a.edges b.edges).0 p1.0)
    ∙ ap (λ x. mk b.order b.edges x a.untracked) ((pointwise_decides {E = block_test} block_decides a.blocks b.blocks).0 p2.0)
    ∙ ap (λ x. mk b.order b.edges b.blocks x) ((pointwise_decides {E = unit_test} unit_decides a.untracked b.untracked).0 p2.1)

graph_self : (a : Graph) → graph_test a a ≡ true
graph_self a = and_from (pointwise bytes_eq a.order a.order) (pointwise edge_test a.edges a.edges && (pointwise block_test a.blocks a.blocks && (pointwise unit_test a.untracked a.untracked))) ((pointwise_decides {E = bytes_eq} bytes_decides a.order a.order).1 refl) (and_from (pointwise edge_test a.edges a.edges) (pointwise block_test a.blocks a.blocks && (pointwise unit_test a.untracked a.untracked)) ((pointwise_decides {E = edge_test} edge_decides a.edges a.edges).1 refl) (and_from (pointwise block_test a.blocks a.blocks) (pointwise unit_test a.untracked a.untracked) ((pointwise_decides {E = block_test} block_decides a.blocks a.blocks).1 refl) ((pointwise_decides {E = unit_test} unit_decides a.untracked a.untracked).1 refl)))

pub graph_decides : (a b : Graph) → (graph_test a b ≡ true → a ≡ b) × (a ≡ b → graph_test a b ≡ true)
graph_decides a b = (graph-true a b, λ e. subst (λ c. graph_test a c ≡ true) e (graph_self a))

-- ---- lines

abbrev part_at : ℕ × ℕ × ℕ → Part
part_at (c, n, k) = get_or (part.Title ∷ part.Decl n ∷ part.Stmt n ∷ part.ElseIf n k ∷ part.Else n ∷ part.Close n ∷ part.End ∷ []) c part.Title

part_at-code : (p : Part) → part_at (part_code p) ≡ p
part_at-code part.Title = refl
part_at-code (part.Decl n) = refl
part_at-code (part.Stmt n) = refl
part_at-code (part.ElseIf n k) = refl
part_at-code (part.Else n) = refl
part_at-code (part.Close n) = refl
part_at-code part.End = refl

code-true : (a b : ℕ × ℕ × ℕ) → code_test a b ≡ true → a ≡ b
code-true a b e =
    let p2 = and_parts (nat_eq a.0 b.0 && nat_eq a.1 b.1) (nat_eq a.2 b.2) e in
    let p1 = and_parts (nat_eq a.0 b.0) (nat_eq a.1 b.1) p2.0 in
    let mk : ℕ → ℕ → ℕ → ℕ × ℕ × ℕ = λ x y z. (x, y, z) in
    ap (λ x. mk x a.1 a.2) (eqb-true a.0 b.0 p1.0)
    ∙ ap (λ x. mk b.0 x a.2) (eqb-true a.1 b.1 p1.1)
    ∙ ap (λ x. mk b.0 b.1 x) (eqb-true a.2 b.2 p2.1)

code_self : (a : ℕ × ℕ × ℕ) → code_test a a ≡ true
code_self a = and_from (nat_eq a.0 a.0 && nat_eq a.1 a.1) (nat_eq a.2 a.2) (and_from (nat_eq a.0 a.0) (nat_eq a.1 a.1) (same_number a.0) (same_number a.1)) (same_number a.2)

part-true : (a b : Part) → code_test (part_code a) (part_code b) ≡ true → a ≡ b
part-true a b e = sym (part_at-code a) ∙ ap part_at (code-true (part_code a) (part_code b) e) ∙ part_at-code b

spot-true : (a b : Spot) → spot_test a b ≡ true → a ≡ b
spot-true a b e =
    let p2 = and_parts (code_test (part_code a.part) (part_code b.part) && nat_eq a.first b.first) (pointwise bytes_eq a.comments b.comments) e in
    let p1 = and_parts (code_test (part_code a.part) (part_code b.part)) (nat_eq a.first b.first) p2.0 in
    let mk : Part → ℕ → List (List ℕ) → Spot = λ x0 x1 x2. record { part = x0; first = x1; comments = x2 } in
    ap (λ x. mk x a.first a.comments) (part-true a.part b.part p1.0)
    ∙ ap (λ x. mk b.part x a.comments) (eqb-true a.first b.first p1.1)
    ∙ ap (λ x. mk b.part b.first x) ((pointwise_decides {E = bytes_eq} bytes_decides a.comments b.comments).0 p2.1)

spot_self : (a : Spot) → spot_test a a ≡ true
spot_self a = and_from (code_test (part_code a.part) (part_code a.part) && nat_eq a.first a.first) (pointwise bytes_eq a.comments a.comments) (and_from (code_test (part_code a.part) (part_code a.part)) (nat_eq a.first a.first) (code_self (part_code a.part)) (same_number a.first)) ((pointwise_decides {E = bytes_eq} bytes_decides a.comments a.comments).1 refl)

pub spot_decides : (a b : Spot) → (spot_test a b ≡ true → a ≡ b) × (a ≡ b → spot_test a b ≡ true)
spot_decides a b = (spot-true a b, λ e. subst (λ c. spot_test a c ≡ true) e (spot_self a))

places-true : (a b : Places) → places_test a b ≡ true → a ≡ b
places-true a b e =
    let p1 = and_parts (pointwise spot_test a.spots b.spots) (pointwise bytes_eq a.closing b.closing) e in
    let mk : List Spot → List (List ℕ) → Places = λ x0 x1. record { spots = x0; closing = x1 } in
    ap (λ x. mk x a.closing) ((pointwise_decides {E = spot_test} spot_decides a.spots b.spots).0 p1.0)
    ∙ ap (λ x. mk b.spots x) ((pointwise_decides {E = bytes_eq} bytes_decides a.closing b.closing).0 p1.1)

places_self : (a : Places) → places_test a a ≡ true
places_self a = and_from (pointwise spot_test a.spots a.spots) (pointwise bytes_eq a.closing a.closing) ((pointwise_decides {E = spot_test} spot_decides a.spots a.spots).1 refl) ((pointwise_decides {E = bytes_eq} bytes_decides a.closing a.closing).1 refl)

pub places_decides : (a b : Places) → (places_test a b ≡ true → a ≡ b) × (a ≡ b → places_test a b ≡ true)
places_decides a b = (places-true a b, λ e. subst (λ c. places_test a c ≡ true) e (places_self a))

-- ---- for the code

pub spots_end : (xs ys : List Spot) → length xs < 1 → pointwise spot_test xs ys ≡ nat_eq (length ys) 0
spots_end [] [] h = refl
spots_end [] (y ∷ ys) h = sym (ne_eqb (suc (length ys)) 0 (λ e. omega (arith, e)))
spots_end (x ∷ xs) ys h = absurd (omega (arith, h))
