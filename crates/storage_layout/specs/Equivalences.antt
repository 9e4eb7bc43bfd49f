-- EQUIVALENCE: the items of a group share a unit (ANSI X3.9-1978 §8.2). Groups join in the order of the text; an item that
-- contradicts those before it does not join.
use Rattle.std.specs.Prelude.{ℕ, ◌+◌, Bool, true, false, not, ◌&&◌, ◌||◌, pos, List, [], ◌∷◌, slice_get, Option, Some, None, is_some, if◌then◌else◌}
use Rattle.std.specs.List.{list_any}
use Rattle.f77_ast.specs.Trees.{ExprTree}
use Rattle.f77_ast.specs.DeclTrees.{DeclTree}
use Rattle.f77_ast.specs.DeclTrees as decl
use Rattle.fx_lists.specs.declared.code.Code.TheVariants.{EquivalenceClash, EquivalenceExtendsBack}
use Rattle.f77_names.specs.declared.lines.Sited.TheVariants.{Decl}
use Rattle.fx_lists.specs.Refusals.{refuse_if}
use Rattle.f77_names.specs.Lines.{LineTable, line_or}
use Rattle.f77_names.specs.Entries.{EntryTree, find, of_entry}
use Rattle.f77_names.specs.Tables.{NameTable}
use Rattle.storage_data.specs.declared.offset_node.OffsetNode.{OffsetNode}
use Rattle.storage_data.specs.OffsetNodes.{Joined, joined, is_block, begins_before}
use Rattle.storage_layout.specs.declared.equivalences.Anchor.{Anchor}
use Rattle.storage_layout.specs.declared.equivalences.Grouping.{Grouping}
use Rattle.storage_layout.specs.declared.equivalences.Shared.{Shared}
use Rattle.storage_data.specs.Units.{place_of}
use Rattle.storage_data.specs.Items.{item_name, item_position, check_items}

-- dummies and PARAMETER names have no units to share
abbrev pub may_join : Option EntryTree → Bool
may_join e = of_entry false (λ x. not (is_some x.dummy || x.parameter)) e

abbrev pub clashes : Grouping → Grouping
clashes g = record g { clash = true }

abbrev pub after_join : Joined → Grouping → Grouping
after_join j g = record { offset_nodes = j.offset_nodes; anchor = g.anchor; clash = g.clash || j.clash }

abbrev pub unit_joined : Option Anchor → ℕ → ℕ → Grouping → Grouping
unit_joined None place unit g = record g { anchor = Some (record { place = place; unit = unit }) }
unit_joined (Some a) place unit g = after_join (joined g.offset_nodes a.place (pos a.unit) place (pos unit)) g

abbrev pub at_place : Option ℕ → Option ℕ → Grouping → Grouping
at_place None unit g = clashes g
at_place (Some place) None g = clashes g
at_place (Some place) (Some unit) g = unit_joined g.anchor place unit g

abbrev pub named_joined : NameTable → Option (List ℕ) → Option ℕ → Grouping → Grouping
named_joined t None unit g = clashes g
named_joined t (Some x) unit g = if may_join (find x t.entries) then at_place (place_of t x) unit g else clashes g

abbrev pub items_joined : NameTable → List ExprTree → Grouping → Grouping
items_joined t [] g = g
items_joined t (i ∷ is) g = items_joined t is (named_joined t (item_name i) (item_position t i) g)

-- ---- refusals

-- the variable's group is a block's, and begins before the block
abbrev pub extends_back : List OffsetNode → Option OffsetNode → Bool
extends_back ss None = false
extends_back ss (Some s) = is_block s.home && begins_before ss s.home

abbrev pub place_extends : List OffsetNode → Option ℕ → Bool
place_extends ss None = false
place_extends ss (Some n) = extends_back ss (slice_get ss n)

abbrev pub name_extends : NameTable → List OffsetNode → Option (List ℕ) → Bool
name_extends t ss None = false
name_extends t ss (Some x) = place_extends ss (place_of t x)

abbrev pub items_extend : NameTable → List OffsetNode → List ExprTree → Bool
items_extend t ss is = list_any (λ i. name_extends t ss (item_name i)) is

-- no item yet
abbrev pub begun : Grouping → Grouping
begun g = record { offset_nodes = g.offset_nodes; anchor = None; clash = false }

-- the second refusal is the first of those that come after all others
abbrev pub after_items : NameTable → List ExprTree → ℕ → Grouping → Shared → Shared
after_items t is line g s = record {
  group = g;
  found = check_items t is line s.found;
  late = refuse_if (items_extend t g.offset_nodes is) line EquivalenceExtendsBack (refuse_if g.clash line EquivalenceClash s.late);
}

abbrev pub group_shared : NameTable → List ExprTree → ℕ → Shared → Shared
group_shared t is line s = after_items t is line (items_joined t is (begun s.group)) s

abbrev pub groups_shared : NameTable → List (List ExprTree) → ℕ → Shared → Shared
groups_shared t [] line s = s
groups_shared t (g ∷ gs) line s = groups_shared t gs line (group_shared t g line s)

abbrev pub decl_shared : NameTable → DeclTree → ℕ → Shared → Shared
decl_shared t (decl.equivalence gs) line s = groups_shared t gs line s
decl_shared t (decl.implicit ps) line s = s
decl_shared t (decl.integer es) line s = s
decl_shared t (decl.logical es) line s = s
decl_shared t (decl.dimension es) line s = s
decl_shared t (decl.parameter ss) line s = s
decl_shared t (decl.common cs) line s = s
decl_shared t (decl.save is) line s = s
decl_shared t (decl.initial gs) line s = s

abbrev pub decls_shared : NameTable → LineTable → List DeclTree → ℕ → Shared → Shared
decls_shared t at [] n s = s
decls_shared t at (d ∷ ds) n s = decls_shared t at ds (n + 1) (decl_shared t d (line_or at (Decl n) 0) s)
