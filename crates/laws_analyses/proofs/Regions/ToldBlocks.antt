-- The names of blocks have no `:`.
use Rattle.std.proofs.Common.{◌≡◌, ℕ, zero, suc, ◌+◌, ◌-◌, Bool, true, false, List, [], ◌∷◌, ◌++◌, Option, Some, None, Ok, refl, sym, ap, ◌∙◌, subst}
use Rattle.std.specs.Prelude.{if◌then◌else◌, slice_get, unwrap_or}
use Rattle.f77_ast.specs.DeclTrees.{EntityTree, CommonTree, DeclTree, ModuleTree, ParsedTree}
use Rattle.f77_ast.specs.DeclTrees as decl
use Rattle.f77_ast.specs.declared.places.Part.TheVariants as parts
use Rattle.f77_ast.specs.declared.constant.Constant.{Constant}
use Rattle.f77_statements.specs.Phrases.{end_module}
use Rattle.f77_ast.specs.declared.symbol.Place.TheVariants as place
use Rattle.f77_ast.specs.Symbols.{SymbolTree}
use Rattle.f77_ast.specs.Shared.{symbol_at}
use Rattle.f77_names.specs.Entries.{EntryTree}
use Rattle.f77_names.specs.Tables.{NameTable}
use Rattle.laws_programs.specs.storage_data.Units.{place_of, units_of}
use Rattle.laws_programs.specs.storage_data.declared.offset_node.Home.{Home}
use Rattle.laws_programs.specs.storage_data.declared.offset_node.Home.TheVariants.{Block, Own}
use Rattle.laws_programs.specs.storage_data.declared.offset_node.OffsetNode.{OffsetNode}
use Rattle.storage_layout.specs.declared.blocks.Laid.{Laid}
use Rattle.storage_layout.specs.Blocks.{block_number, with_block, sits_in_block, put_at, put_there, member_put, members_put, part_put, parts_put, decl_put, decls_put}
use Rattle.storage_layout.specs.Symbols.{alone, laid, symbols_of}
use Rattle.storage_layout.specs.Table.{Layout, home_place, place_in, unless_dummy, unless_value, symbol_of, symbols_from}
use Rattle.laws_programs.specs.roundtrip_programs.Statements.Formed.{Each}
use Rattle.laws_programs.specs.roundtrip_programs.Statements.Declared.{IsBlock, IsCommon, IsDecl}
use Rattle.f77_parser.specs.Elaborated.{meant_in}
use Rattle.laws_programs.specs.roundtrip_programs.ModuleTexts.Folded.{folded}
use Rattle.laws_programs.specs.roundtrip_programs.ModuleTexts.Cards.{card, title_cards, decl_cards, cards_in, statements_of}
use Rattle.laws_programs.proofs.SymbolTables.Answers.{answered_by, names_in, layout_in}
use Rattle.laws_analyses.proofs.Calls.TableLaws.{numbered_at}
use Rattle.laws_analyses.specs.Regions.Settings.{has_colon}
use Rattle.laws_analyses.proofs.Regions.ToldNames.{IsTold, name_told}
use Rattle.laws_programs.proofs.RoundtripPrograms.Statements.DeclBack.{each_of as filled_each}
use Rattle.laws_programs.proofs.RoundtripPrograms.Body.{AreCards, left_of, right_of}

abbrev AllTold : List (List ℕ) → Type 0
AllTold [] = Unit {0}
AllTold (x ∷ xs) = IsTold x × AllTold xs

told_more : (xs : List (List ℕ)) (y : List ℕ) → AllTold xs → IsTold y → AllTold (xs ++ y ∷ [])
told_more [] y h t = (t, tt)
told_more (x ∷ xs) y h t = (h.0, told_more xs y h.1 t)

told_at : (xs : List (List ℕ)) (n : ℕ) → AllTold xs → IsTold (unwrap_or (slice_get xs n) [])
told_at [] n h = refl
told_at (x ∷ xs) zero h = h.0
told_at (x ∷ xs) (suc n) h = told_at xs n h.1

block_told : (x : List ℕ) → IsBlock x → IsTold x
block_told [] b = refl
block_told (c ∷ cs) b = name_told (c ∷ cs) b

-- ---- COMMON statements

with_told : (x : List ℕ) (o : Option ℕ) (l : Laid) → IsTold x → AllTold l.names → AllTold (with_block x o l).names
with_told x None l t h = told_more l.names x h t
with_told x (Some n) l t h = h

at_names : (units spot n : ℕ) (o : Option ℕ) (l : Laid) → (put_at units spot n o l).names ≡ l.names
at_names units spot n None l = refl
at_names units spot n (Some size) l = refl

there_names : (units spot : ℕ) (o : Option ℕ) (l : Laid) → (put_there units spot o l).names ≡ l.names
there_names units spot None l = refl
there_names units spot (Some n) l = at_names units spot n (slice_get l.sizes n) l

member_names : (t : NameTable) (block : List ℕ) (e : EntityTree) (o : Option ℕ) (l : Laid) → (member_put t block e o l).names ≡ l.names
member_names t block e None l = refl
member_names t block e (Some spot) l = go (sits_in_block (slice_get l.offset_nodes spot))
  where
    go : (b : Bool) → (let r : Laid = if b then l else put_there (units_of t e.name) spot (block_number l.names block) l in r.names) ≡ l.names
    go true = refl
    go false = there_names (units_of t e.name) spot (block_number l.names block) l

members_names : (t : NameTable) (block : List ℕ) (es : List EntityTree) (l : Laid) → (members_put t block es l).names ≡ l.names
members_names t block [] l = refl
members_names t block (e ∷ es) l = members_names t block es (member_put t block e (place_of t e.name) l) ∙ member_names t block e (place_of t e.name) l

parts_told : (t : NameTable) (cs : List CommonTree) (l : Laid) → Each IsCommon cs → AllTold l.names → AllTold (parts_put t cs l).names
parts_told t [] l k h = h
parts_told t (c ∷ cs) l k h =
    let first = with_block c.block (block_number l.names c.block) l in
    parts_told t cs (part_put t c l) k.others
    (subst AllTold (sym (members_names t c.block c.members first)) (with_told c.block (block_number l.names c.block) l (block_told c.block k.first.block) h))

decl_told : (t : NameTable) (d : DeclTree) (l : Laid) → IsDecl d → AllTold l.names → AllTold (decl_put t d l).names
decl_told t (decl.common cs) l k h = parts_told t cs l (filled_each IsCommon cs k) h
decl_told t (decl.implicit ps) l k h = h
decl_told t (decl.integer es) l k h = h
decl_told t (decl.logical es) l k h = h
decl_told t (decl.dimension es) l k h = h
decl_told t (decl.parameter ss) l k h = h
decl_told t (decl.equivalence gs) l k h = h
decl_told t (decl.save is) l k h = h
decl_told t (decl.initial gs) l k h = h

decls_told : (t : NameTable) (ds : List DeclTree) (n : ℕ) (l : Laid) → AreCards (decl_cards n ds) → AllTold l.names → AllTold (decls_put t ds l).names
decls_told t [] n l k h = h
decls_told t (d ∷ ds) n l k h = decls_told t ds (n + 1) (decl_put t d l) k.others (decl_told t d l k.first h)

laid_told : (t : NameTable) (m : ModuleTree) → AreCards (statements_of m) → AllTold (laid t m.decls).names
unfolding statements_of laid
laid_told t m k =
    let body = cards_in (meant_in m).is_while (folded m).body in
    let all = left_of (title_cards m ++ decl_cards 0 m.decls ++ body) (card parts.End None end_module ∷ []) k in
    let heads = left_of (title_cards m ++ decl_cards 0 m.decls) body all in
    decls_told t m.decls 0 (alone t) (right_of (title_cards m) (decl_cards 0 m.decls) heads) tt

-- ---- symbols

block_of : (x y : List ℕ) (m n : ℕ) → place.Block x m ≡ place.Block y n → x ≡ y
block_of x y m n e = cc

place_told : (l : Layout) (v : Option Constant) (d : Option ℕ) (o : Option OffsetNode) (y : List ℕ) (f : ℕ) → AllTold l.names → unless_value v (unless_dummy d (place_in l o)) ≡ place.Block y f → IsTold y
place_told l (Some c) d o y f h e = cc
place_told l None (Some n) o y f h e = cc
place_told l None None None y f h e = cc
place_told l None None (Some s) y f h e = go s.home e
  where
    go : (q : Home) → home_place l s.offset q ≡ place.Block y f → IsTold y
    go (Block b) r = subst IsTold (block_of _ y _ f r) (told_at l.names b h)
    go (Own n) r = cc

symbols_told : (l : Layout) (n : ℕ) (es : List EntryTree) → AllTold l.names → (i : ℕ) (s : SymbolTree) (y : List ℕ) (f : ℕ) → slice_get (symbols_from l n es) i ≡ Some s → s.place ≡ place.Block y f → IsTold y
symbols_told l n [] h i s y f e p = cc
symbols_told l n (d ∷ es) h zero s y f e p =
    let same : symbol_of l n d ≡ s = cc in
    place_told l d.value d.dummy (slice_get l.offset_nodes n) y f h (ap (λ (z : SymbolTree). z.place) same ∙ p)
symbols_told l n (d ∷ es) h (suc i) s y f e p = symbols_told l (n + 1) es h i s y f e p

pub blocks_told : (p : ParsedTree) (ss : List SymbolTree) → AreCards (statements_of p.module_read) → symbols_of p ≡ Ok ss → (n : ℕ) (s : SymbolTree) (y : List ℕ) (f : ℕ) → symbol_at ss n ≡ Some s → s.place ≡ place.Block y f → has_colon y ≡ false
blocks_told p ss k done n s y f e q =
    let a = answered_by p ss done in
    symbols_told (layout_in p) 0 (names_in p).entries (laid_told (names_in p) p.module_read k) (n - 1) s y f (subst (λ (z : List SymbolTree). slice_get z (n - 1) ≡ Some s) a.table (numbered_at ss n s e).0) q
