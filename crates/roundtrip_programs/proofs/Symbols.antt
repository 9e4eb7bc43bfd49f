-- The symbols of a layout are the same, whatever the lines of its names.
use Rattle.std.proofs.Common.{◌≡◌, ℕ, ◌+◌, Bool, false, List, [], ◌∷◌, ℤ, ◌-ℤ◌, Option, Some, None, refl, ap, ◌∙◌}
use Rattle.std.specs.Prelude.{if◌then◌else◌, ◌||◌, slice_get, is_some, unwrap_or}
use Rattle.f77_ast.specs.Places.{as_count}
use Rattle.f77_ast.specs.declared.symbol.Place.{Place}
use Rattle.f77_ast.specs.declared.symbol.Place.TheVariants as place
use Rattle.f77_ast.specs.Symbols.{BoundTree, SymbolTree}
use Rattle.f77_names.specs.Entries.{ShapeTree, EntryTree}
use Rattle.f77_names.specs.Tables.{entry_kind}
use Rattle.storage_data.specs.declared.offset_node.Home.{Home}
use Rattle.storage_data.specs.declared.offset_node.Home.TheVariants.{Block, Own}
use Rattle.storage_data.specs.declared.offset_node.OffsetNode.{OffsetNode}
use Rattle.storage_data.specs.OffsetNodes.{lowest}
use Rattle.storage_data.specs.Runs.{initial_of}
use Rattle.storage_layout.specs.Groups.{groups_from, with_entry, index_from, keeps, some_keeps}
use Rattle.storage_layout.specs.Table.{Layout, group_in, home_place, place_in, unless_dummy, unless_value, entry_place, is_kept, is_kept_at, is_saved, scalar_of, bounds_in, symbol_of, symbols_from, symbols_in}
use Rattle.roundtrip_programs.proofs.Bare.{bare, bares, bare_shape, bare_table}

abbrev pub bare_layout : Layout → Layout
bare_layout l = record { table = bare_table l.table; offset_nodes = l.offset_nodes; names = l.names; pieces = l.pieces; save_all = l.save_all }

groups_bare : (n : ℕ) (es : List EntryTree) (ss : List OffsetNode) (gs : List ℕ) → groups_from n es ss gs ≡ groups_from n (bares es) ss gs
groups_bare n [] ss gs = refl
groups_bare n (e ∷ es) ss gs = groups_bare (n + 1) es ss (with_entry e (slice_get ss n) gs)

group_bare : (l : Layout) (n : ℕ) → group_in l n ≡ group_in (bare_layout l) n
group_bare l n = ap (λ (gs : List ℕ). unwrap_or (index_from 1 gs n) 0) (groups_bare 0 l.table.entries l.offset_nodes [])

home_bare : (l : Layout) (offset : ℤ) (h : Home) → home_place l offset h ≡ home_place (bare_layout l) offset h
home_bare l offset (Block b) = refl
home_bare l offset (Own n) = ap (λ g. place.Local g (as_count (offset -ℤ lowest l.offset_nodes (Own n)))) (group_bare l n)

place_in_bare : (l : Layout) (s : Option OffsetNode) → place_in l s ≡ place_in (bare_layout l) s
place_in_bare l None = refl
place_in_bare l (Some s) = home_bare l s.offset s.home

entry_place_bare : (l : Layout) (e : EntryTree) (s : Option OffsetNode) → entry_place l e s ≡ entry_place (bare_layout l) (bare e) s
entry_place_bare l e s = ap (λ p. unless_value e.value (unless_dummy e.dummy p)) (place_in_bare l s)

keeps_bare : (h n : ℕ) (es : List EntryTree) (ss : List OffsetNode) → some_keeps h n es ss ≡ some_keeps h n (bares es) ss
keeps_bare h n [] ss = refl
keeps_bare h n (e ∷ es) ss = ap (λ b. keeps h e (slice_get ss n) || b) (keeps_bare h (n + 1) es ss)

kept_bare : (l : Layout) (h : Home) → is_kept l h ≡ is_kept (bare_layout l) h
kept_bare l (Block b) = refl
kept_bare l (Own n) = ap (λ b. l.save_all || b) (keeps_bare n 0 l.table.entries l.offset_nodes)

kept_at_bare : (l : Layout) (s : Option OffsetNode) → is_kept_at l s ≡ is_kept_at (bare_layout l) s
kept_at_bare l None = refl
kept_at_bare l (Some s) = kept_bare l s.home

saved_bare : (l : Layout) (e : EntryTree) (s : Option OffsetNode) → is_saved l e s ≡ is_saved (bare_layout l) (bare e) s
saved_bare l e s = ap (λ b. if is_some e.value || is_some e.dummy then false else b) (kept_at_bare l s)

bounds_bare : (s : Option ShapeTree) → bounds_in s ≡ bounds_in (bare_shape s)
bounds_bare None = refl
bounds_bare (Some s) = refl

abbrev with_parts : Layout → ℕ → EntryTree → List BoundTree → Place → Bool → SymbolTree
with_parts l n e bounds place saved = record {
  name = e.name;
  scalar = scalar_of (entry_kind l.table.kinds e);
  bounds = bounds;
  place = place;
  saved = saved;
  initial = initial_of e.initial n l.pieces;
}

symbol_bare : (l : Layout) (n : ℕ) (e : EntryTree) → symbol_of l n e ≡ symbol_of (bare_layout l) n (bare e)
unfolding entry_kind
symbol_bare l n e =
    let s = slice_get l.offset_nodes n in
    ap (λ (bs : List BoundTree). with_parts l n e bs (entry_place l e s) (is_saved l e s)) (bounds_bare e.shape)
    ∙ ap (λ p. with_parts l n e (bounds_in (bare_shape e.shape)) p (is_saved l e s)) (entry_place_bare l e s)
    ∙ ap (λ b. with_parts l n e (bounds_in (bare_shape e.shape)) (entry_place (bare_layout l) (bare e) s) b) (saved_bare l e s)

symbols_from_bare : (l : Layout) (n : ℕ) (es : List EntryTree) → symbols_from l n es ≡ symbols_from (bare_layout l) n (bares es)
symbols_from_bare l n [] = refl
symbols_from_bare l n (e ∷ es) =
    ap (λ s. s ∷ symbols_from l (n + 1) es) (symbol_bare l n e)
    ∙ ap (λ (ss : List SymbolTree). symbol_of (bare_layout l) n (bare e) ∷ ss) (symbols_from_bare l (n + 1) es)

pub symbols_bare : (l : Layout) → symbols_in l ≡ symbols_in (bare_layout l)
symbols_bare l = symbols_from_bare l 0 l.table.entries
