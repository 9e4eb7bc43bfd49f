-- DATA gives values to units of locals alone, and to none past their ends.
use Rattle.std.proofs.Common.{◌≡◌, ℕ, zero, suc, ◌+◌, ◌-◌, ◌<◌, ◌≤◌, Bool, true, false, ℤ, List, [], ◌∷◌, Option, Some, None, Ok, refl, sym, ap, ◌∙◌, subst, arith}
use Rattle.std.specs.Prelude.{is_some, ◌||◌, ◌-ℤ◌, slice_get}
use Rattle.std.proofs.lemmas.Bool.{or_parts}
use Rattle.f77_ast.specs.DeclTrees.{ParsedTree}
use Rattle.f77_ast.specs.Places.{Dim, as_count, total_size}
use Rattle.f77_ast.specs.declared.constant.Constant.{Constant}
use Rattle.f77_ast.specs.declared.symbol.Place.{Place}
use Rattle.f77_ast.specs.declared.symbol.Place.TheVariants as place
use Rattle.f77_ast.specs.declared.symbol.InitialRun.{InitialRun}
use Rattle.f77_ast.specs.Symbols.{SymbolTree}
use Rattle.f77_ast.specs.Units.{units_in}
use Rattle.f77_ast.specs.Shared.{symbol_at}
use Rattle.f77_names.specs.declared.kinds.Kind.{Kind}
use Rattle.f77_names.specs.Entries.{EntryTree, find}
use Rattle.f77_checks.specs.Dimensions.{dims_in}
use Rattle.storage_data.specs.declared.offset_node.Home.{Home}
use Rattle.storage_data.specs.declared.offset_node.Home.TheVariants.{Block, Own}
use Rattle.storage_data.specs.declared.offset_node.OffsetNode.{OffsetNode}
use Rattle.storage_data.specs.OffsetNodes.{is_block, lowest}
use Rattle.storage_data.specs.declared.deals.Piece.{Piece}
use Rattle.storage_data.specs.Initials.{is_barred, is_associated}
use Rattle.storage_layout.specs.Symbols.{symbols_of}
use Rattle.storage_layout.specs.Table.{Layout, group_in, home_place, place_in, unless_dummy, unless_value, symbol_of}
use Rattle.f77_meaning.specs.Areas.{group}
use Rattle.f77_meaning.specs.Laws.{area_of}
use Rattle.laws_programs.proofs.SymbolTables.Answers.{Answered, names_in, shared_in, filled_in, layout_in, answered_by}
use Rattle.laws_programs.proofs.SymbolTables.EntryLaws.{EntryOf, entry_of}
use Rattle.laws_programs.specs.Storage.Initial.{LiesInside}
use Rattle.laws_programs.specs.Storage.DataLaws.{ConstantsFit, DataStaysInLocals}
use Rattle.laws_programs.proofs.Storage.RunLaws.{Within, RunFits, PieceFits, runs_fit}
use Rattle.laws_programs.proofs.Storage.PieceLaws.{PieceOf, pieces_fit}
use Rattle.laws_programs.proofs.Storage.ParameterLaws.{Right, no_value, a_value, names_right}
use Rattle.laws_programs.proofs.Storage.UnitLaws.{units_are}
use Rattle.fx_lists.proofs.Options.{not_found as none_dummy}
use Rattle.f77_ast.proofs.StorageLaws.{from_number as numbered_place}
use Rattle.fx_lists.proofs.Every.{Every, every_at}

-- ---- where a name with DATA lies

record IsLocal (q : Place) : Type 0 where
  storage : ℕ
  offset : ℕ
  is : q ≡ place.Local storage offset

home_local : (l : Layout) (o : ℤ) (h : Home) → is_block h ≡ false → IsLocal (home_place l o h)
home_local l o (Block b) e = cc
home_local l o (Own n) e = record { storage = group_in l n; offset = as_count (o -ℤ lowest l.offset_nodes (Own n)); is = refl }

offset_node_local : (l : Layout) (s : Option OffsetNode) → is_associated s ≡ false → IsLocal (place_in l s)
offset_node_local l None e = record { storage = 0; offset = 0; is = refl }
offset_node_local l (Some s) e = home_local l s.offset s.home e

local_entry : (ks : List Kind) (l : Layout) (e : EntryTree) (s : Option OffsetNode) → Right ks e → is_barred e s ≡ false → IsLocal (unless_value e.value (unless_dummy e.dummy (place_in l s)))
local_entry ks l e s right free = by_value right
  where
    first : (is_some e.dummy ≡ false) × ((is_some e.common || (e.parameter || is_associated s)) ≡ false)
    first = or_parts (is_some e.dummy) (is_some e.common || (e.parameter || is_associated s)) free

    last : (e.parameter ≡ false) × (is_associated s ≡ false)
    last = or_parts e.parameter (is_associated s) (or_parts (is_some e.common) (e.parameter || is_associated s) first.1).1

    by_value : Right ks e → IsLocal (unless_value e.value (unless_dummy e.dummy (place_in l s)))
    by_value (no_value q) =
        let lies = offset_node_local l s last.1 in
        subst IsLocal (ap (λ d. unless_value None (unless_dummy d (place_in l s))) (sym (none_dummy e.dummy first.0)) ∙ ap (λ v. unless_value v (unless_dummy e.dummy (place_in l s))) (sym q)) lies
    by_value (a_value c q p o) = let z : true ≡ false = sym p ∙ last.0 in cc

-- ---- runs of a name

module _ (p : ParsedTree) (ss : List SymbolTree) (a : Answered p ss) (fit : ConstantsFit ss) (n : ℕ) (e : EntryTree) (is : slice_get (names_in p).entries n ≡ Some e) where
  -- the entry of a piece of this name is this one
  piece_entry : (q : Piece) (r : PieceOf (names_in p) (shared_in p).group.offset_nodes q) → q.place ≡ n → r.entry ≡ e
  piece_entry q r h = let z : Some r.entry ≡ Some e = sym r.is_entry ∙ ap (slice_get (names_in p).entries) h ∙ is in cc

  abbrev Free : Type 0
  Free = (is_barred e (slice_get (shared_in p).group.offset_nodes n) ≡ false) × Right (names_in p).kinds e

  piece_fits : (ds : List Dim) → dims_in (names_in p) e ≡ Some ds → (q : Piece) → PieceOf (names_in p) (shared_in p).group.offset_nodes q → PieceFits n (total_size ds) Free q
  piece_fits ds k q r h =
      let same = piece_entry q r h in
      let dims : r.dims ≡ ds = (let z : Some r.dims ≡ Some ds = sym r.known ∙ ap (dims_in (names_in p)) same ∙ k in cc) in
      (subst (λ z. Within (total_size z) q.offset q.count) dims r.fits, (ap (λ z. is_barred z (slice_get (shared_in p).group.offset_nodes n)) (sym same) ∙ ap (λ z. is_barred r.entry (slice_get (shared_in p).group.offset_nodes z)) (sym h) ∙ r.free, subst (Right (names_in p).kinds) same ((names_right p).right r.name r.entry r.is_named)))

  all_fit : (ds : List Dim) → dims_in (names_in p) e ≡ Some ds → (qs : List Piece) → Every (PieceOf (names_in p) (shared_in p).group.offset_nodes) qs → Every (PieceFits n (total_size ds) Free) qs
  all_fit ds k [] h = tt
  all_fit ds k (q ∷ qs) h = (piece_fits ds k q h.0, all_fit ds k qs h.1)

  -- where the dimensions are not known there are none
  no_piece : dims_in (names_in p) e ≡ None → (q : Piece) → PieceOf (names_in p) (shared_in p).group.offset_nodes q → PieceFits n 0 ⊥ q
  no_piece k q r h = let z : Some r.dims ≡ None = sym r.known ∙ ap (dims_in (names_in p)) (piece_entry q r h) ∙ k in cc

  none_fit : dims_in (names_in p) e ≡ None → (qs : List Piece) → Every (PieceOf (names_in p) (shared_in p).group.offset_nodes) qs → Every (PieceFits n 0 ⊥) qs
  none_fit k [] h = tt
  none_fit k (q ∷ qs) h = (no_piece k q h.0, none_fit k qs h.1)

  pub lies : (j : ℕ) (r : InitialRun) → slice_get (symbol_of (layout_in p) n e).initial j ≡ Some r → LiesInside p ss (symbol_of (layout_in p) n e) r
  lies j r h = go (dims_in (names_in p) e) refl
    where
      go : (o : Option (List Dim)) → dims_in (names_in p) e ≡ o → LiesInside p ss (symbol_of (layout_in p) n e) r
      go None k = absurd (every_at (RunFits 0 ⊥) (symbol_of (layout_in p) n e).initial j r (runs_fit n 0 ⊥ e.initial (filled_in p).pieces (none_fit k (filled_in p).pieces (pieces_fit p))) h).1
      go (Some ds) k =
          let run = every_at (RunFits (total_size ds) Free) (symbol_of (layout_in p) n e).initial j r (runs_fit n (total_size ds) Free e.initial (filled_in p).pieces (all_fit ds k (filled_in p).pieces (pieces_fit p))) h in
          let at = local_entry (names_in p).kinds (layout_in p) e (slice_get (shared_in p).group.offset_nodes n) run.1.1 run.1.0 in
          let units = units_are p ss a fit n e ds k in
          let last = run.0.within in
          record { storage = at.storage; is_local = ap (area_of p.module_read.name) at.is; within = omega (arith, last, units); some = run.0.some }

-- ---- a table

pub data_stays_in_locals : DataStaysInLocals
data_stays_in_locals ps sss laid fits i p ss m n s e j r h =
    let a = answered_by p ss (laid i p ss m) in
    let at : slice_get ss (n - 1) ≡ Some s = numbered_place ss n s e in
    let entry = entry_of (layout_in p) 0 (names_in p).entries (n - 1) s (subst (λ z. slice_get z (n - 1) ≡ Some s) a.table at) in
    let place : n - 1 ≡ entry.place = omega (arith, entry.is_place) in
    let is : slice_get (names_in p).entries entry.place ≡ Some entry.entry = ap (slice_get (names_in p).entries) (sym place) ∙ entry.is_entry in
    subst (λ z. LiesInside p ss z r) (sym entry.symbol) (lies p ss a (fits i p ss m) entry.place entry.entry is j r (ap (λ z. slice_get z.initial j) (sym entry.symbol) ∙ h))
