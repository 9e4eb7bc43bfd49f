-- What EQUIVALENCE leaves of COMMON: a variable that lies in a block stays where it is.
use Rattle.std.proofs.Common.{◌≡◌, ℕ, ◌+◌, Bool, true, false, pos, List, [], ◌∷◌, Option, Some, None}
use Rattle.std.specs.Prelude.{slice_get, if◌then◌else◌}
use Rattle.f77_ast.specs.Trees.{ExprTree}
use Rattle.f77_ast.specs.DeclTrees.{DeclTree}
use Rattle.f77_ast.specs.DeclTrees as decl
use Rattle.fx_lists.specs.declared.refusal.Refusal.{Refusal}
use Rattle.f77_names.specs.declared.lines.Sited.TheVariants.{Decl}
use Rattle.f77_names.specs.Lines.{LineTable, line_or}
use Rattle.f77_names.specs.Entries.{find}
use Rattle.f77_names.specs.Tables.{NameTable}
use Rattle.storage_data.specs.declared.offset_node.OffsetNode.{OffsetNode}
use Rattle.storage_data.specs.OffsetNodes.{is_block}
use Rattle.storage_data.proofs.BlockLaws.{blocks_stay}
use Rattle.storage_data.specs.Units.{place_of}
use Rattle.storage_data.specs.Items.{item_name, item_position}
use Rattle.storage_layout.specs.declared.equivalences.Anchor.{Anchor}
use Rattle.storage_layout.specs.declared.equivalences.Grouping.{Grouping}
use Rattle.storage_layout.specs.declared.equivalences.Shared.{Shared}
use Rattle.storage_layout.specs.Equivalences.{may_join, clashes, unit_joined, at_place, named_joined, items_joined, begun, group_shared, groups_shared, decl_shared, decls_shared}
use Rattle.storage_layout.specs.Symbols.{unshared, shared}

-- what lies in a block in some offset nodes lies there in others
abbrev pub BlocksRemain : List OffsetNode → List OffsetNode → Type 0
BlocksRemain ss ts = (k : ℕ) (s : OffsetNode) → slice_get ss k ≡ Some s → is_block s.home ≡ true → slice_get ts k ≡ Some s

unit_stays : (a : Option Anchor) (p u : ℕ) (g : Grouping) → BlocksRemain g.offset_nodes (unit_joined a p u g).offset_nodes
unit_stays None p u g k s e b = e
unit_stays (Some a) p u g k s e b = blocks_stay g.offset_nodes a.place (pos a.unit) p (pos u) k s e b

at_stays : (o u : Option ℕ) (g : Grouping) → BlocksRemain g.offset_nodes (at_place o u g).offset_nodes
at_stays None u g k s e b = e
at_stays (Some p) None g k s e b = e
at_stays (Some p) (Some u) g k s e b = unit_stays g.anchor p u g k s e b

named_stays : (t : NameTable) (o : Option (List ℕ)) (u : Option ℕ) (g : Grouping) → BlocksRemain g.offset_nodes (named_joined t o u g).offset_nodes
named_stays t None u g k s e b = e
named_stays t (Some x) u g k s e b = go (may_join (find x t.entries))
  where
    go : (c : Bool) → slice_get (let r : Grouping = if c then at_place (place_of t x) u g else clashes g in r.offset_nodes) k ≡ Some s
    go true = at_stays (place_of t x) u g k s e b
    go false = e

items_stay : (t : NameTable) (is : List ExprTree) (g : Grouping) → BlocksRemain g.offset_nodes (items_joined t is g).offset_nodes
items_stay t [] g k s e b = e
items_stay t (i ∷ is) g k s e b = items_stay t is (named_joined t (item_name i) (item_position t i) g) k s (named_stays t (item_name i) (item_position t i) g k s e b) b

groups_stay : (t : NameTable) (gs : List (List ExprTree)) (line : ℕ) (h : Shared) → BlocksRemain h.group.offset_nodes (groups_shared t gs line h).group.offset_nodes
groups_stay t [] line h k s e b = e
groups_stay t (g ∷ gs) line h k s e b = groups_stay t gs line (group_shared t g line h) k s (items_stay t g (begun h.group) k s e b) b

decl_stays : (t : NameTable) (d : DeclTree) (line : ℕ) (h : Shared) → BlocksRemain h.group.offset_nodes (decl_shared t d line h).group.offset_nodes
decl_stays t (decl.equivalence gs) line h k s e b = groups_stay t gs line h k s e b
decl_stays t (decl.implicit ps) line h k s e b = e
decl_stays t (decl.integer es) line h k s e b = e
decl_stays t (decl.logical es) line h k s e b = e
decl_stays t (decl.dimension es) line h k s e b = e
decl_stays t (decl.parameter ss) line h k s e b = e
decl_stays t (decl.common cs) line h k s e b = e
decl_stays t (decl.save is) line h k s e b = e
decl_stays t (decl.initial gs) line h k s e b = e

decls_stay : (t : NameTable) (at : LineTable) (ds : List DeclTree) (n : ℕ) (h : Shared) → BlocksRemain h.group.offset_nodes (decls_shared t at ds n h).group.offset_nodes
decls_stay t at [] n h k s e b = e
decls_stay t at (d ∷ ds) n h k s e b =
    let line = line_or at (Decl n) 0 in
    decls_stay t at ds (n + 1) (decl_shared t d line h) k s (decl_stays t d line h k s e b) b

pub shared_stays : (t : NameTable) (at : LineTable) (ds : List DeclTree) (ss : List OffsetNode) (found : Option Refusal) → BlocksRemain ss (shared t at ds ss found).group.offset_nodes
unfolding shared
shared_stays t at ds ss found k s e b = decls_stay t at ds 0 (unshared ss found) k s e b
