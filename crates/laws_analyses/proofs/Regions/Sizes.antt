-- The variables of a block end within the size that linking gives it.
use Rattle.std.proofs.Common.{◌≡◌, ℕ, zero, suc, ◌+◌, ◌-◌, ◌≤◌, max, Bool, true, false, List, [], ◌∷◌, map, Some, refl, sym, ap, ◌∙◌, subst, arith}
use Rattle.std.specs.Prelude.{if◌then◌else◌, bytes_eq, slice_get}
use Rattle.std.specs.declared.cmp.Ordering.{Ordering}
use Rattle.std.specs.declared.cmp.Ordering.TheVariants.{Less, Equal, Greater}
use Rattle.std.specs.Ordering.{match_ordering, is_eq}
use Rattle.std.proofs.lemmas.Map.Text.{is_eq-slice_cmp}
use Rattle.std.proofs.lemmas.Slice.Eq.{bytes_eq-Decides}
use Rattle.f77_ast.specs.declared.symbol.Place.{Place}
use Rattle.f77_ast.specs.declared.symbol.Place.TheVariants as place
use Rattle.f77_ast.specs.Symbols.{SymbolTree}
use Rattle.f77_ast.specs.Shared.{symbol_at}
use Rattle.f77_ast.specs.Units.{units_in}
use Rattle.call_graph.specs.declared.graph.Graph.{Graph}
use Rattle.call_graph.specs.declared.graph.Block.{Block}
use Rattle.call_graph.specs.Blocks.{name_cmp, block, known_size, block_put, block_grown, place_grown, symbols_grown, tables_grown}
use Rattle.f77_meaning.specs.Modules.{Known}
use Rattle.f77_meaning.specs.Claims.{size_in}
use Rattle.f77_meaning.specs.Laws.{HasBlocks}
use Rattle.laws_programs.proofs.Effects.Sizes.{same_name, symmetric, put_size, put_other_size, known_is, grown_itself, grown_more, place_more, symbols_more, tables_more, symbol_reach, table_reach}
use Rattle.f77_ast.proofs.StorageLaws.{from_number as numbered_place}

-- ---- one block

-- ---- all symbols

pub blocks_reach : (ks : List Known) (g : Graph) → HasBlocks ks g → (i : ℕ) (l : Known) (n : ℕ) (s : SymbolTree) (b : List ℕ) (o : ℕ) → slice_get ks i ≡ Some l → symbol_at l.symbols n ≡ Some s → s.place ≡ place.Block b o → o + units_in l.symbols s ≤ size_in g.blocks b
blocks_reach ks g has i l n s b o is e d =
    let sized = table_reach ks [] i l (n - 1) s b o is (numbered_place l.symbols n s e) d in
    subst (λ bs. o + units_in l.symbols s ≤ size_in bs b) (sym has) sized
