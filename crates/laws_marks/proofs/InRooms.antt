-- The blocks of a program end within the room that an area has.
use Rattle.std.proofs.Common.{◌≡◌, ℕ, zero, suc, ◌+◌, ◌≤◌, max, Bool, true, false, List, [], ◌∷◌, map, refl, sym, ap, subst, arith}
use Rattle.std.specs.Prelude.{bytes_eq}
use Rattle.std.proofs.lemmas.Slice.Eq.{bytes_eq-Decides}
use Rattle.f77_ast.specs.declared.symbol.Place.{Place}
use Rattle.f77_ast.specs.declared.symbol.Place.TheVariants as place
use Rattle.f77_ast.specs.Symbols.{SymbolTree}
use Rattle.f77_ast.specs.Units.{units_in}
use Rattle.call_graph.specs.declared.graph.Graph.{Graph}
use Rattle.call_graph.specs.declared.graph.Block.{Block}
use Rattle.call_graph.specs.Blocks.{known_size, block_put, block_grown, place_grown, symbols_grown, tables_grown}
use Rattle.f77_meaning.specs.Modules.{Known}
use Rattle.f77_meaning.specs.Claims.{size_in}
use Rattle.f77_meaning.specs.Laws.{HasBlocks}
use Rattle.f77_meaning.specs.Linked.{offset_in, room_of, room_for}
use Rattle.laws_programs.proofs.Effects.Sizes.{put_size, put_other_size, known_is}

-- no block is longer
module _ (room : ℕ) where
  abbrev Fit : List Block → Type 0
  Fit bs = (y : List ℕ) → size_in bs y ≤ room

  put_fits : (x : List ℕ) (n : ℕ) (bs : List Block) → n ≤ room → Fit bs → Fit (block_put x n bs)
  put_fits x n bs h f y = go (bytes_eq x y) refl
    where
      go : (b : Bool) → bytes_eq x y ≡ b → size_in (block_put x n bs) y ≤ room
      go true e = (let same : x ≡ y = (bytes_eq-Decides x y).0 e in let q = put_size x n bs in subst (λ z. size_in (block_put x n bs) z ≤ room) same (omega (arith, q, h)))
      go false e = (let q = put_other_size x y n bs e in let k = f y in omega (arith, q, k))

  grown_fits : (x : List ℕ) (n : ℕ) (bs : List Block) → n ≤ room → Fit bs → Fit (block_grown x n bs)
  grown_fits x n bs h f = (let q = known_is x bs in let k = f x in put_fits x (max (known_size x bs) n) bs (omega (arith, q, k, h)) f)

  place_fits : (p : Place) (n : ℕ) (bs : List Block) → offset_in p + n ≤ room → Fit bs → Fit (place_grown p n bs)
  place_fits (place.Local g o) n bs h f = f
  place_fits (place.Dummy m) n bs h f = f
  place_fits (place.Block x o) n bs h f = grown_fits x (o + n) bs h f
  place_fits (place.Constant m) n bs h f = f

  symbols_fit : (ss rest : List SymbolTree) (bs : List Block) → room_of ss rest ≤ room → Fit bs → Fit (symbols_grown ss rest bs)
  symbols_fit ss [] bs h f = f
  symbols_fit ss (s ∷ rest) bs h f = symbols_fit ss rest (place_grown s.place (units_in ss s) bs) (omega (arith, h)) (place_fits s.place (units_in ss s) bs (omega (arith, h)) f)

  tables_fit : (ks : List Known) (bs : List Block) → room_for ks ≤ room → Fit bs → Fit (tables_grown (map (λ k. k.symbols) ks) bs)
  tables_fit [] bs h f = f
  tables_fit (k ∷ ks) bs h f = tables_fit ks (symbols_grown k.symbols k.symbols bs) (omega (arith, h)) (symbols_fit k.symbols k.symbols bs (omega (arith, h)) f)

pub blocks_fit : (ks : List Known) (g : Graph) → HasBlocks ks g → (b : List ℕ) → size_in g.blocks b ≤ room_for ks
blocks_fit ks g has b = subst (λ bs. size_in bs b ≤ room_for ks) (sym has) (tables_fit (room_for ks) ks [] (omega arith) (λ y. omega arith) b)
