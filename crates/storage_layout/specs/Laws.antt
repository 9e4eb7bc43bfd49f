-- What the offset nodes of names keep of COMMON and EQUIVALENCE.
use Rattle.std.specs.Prelude.{◌≡◌, ℕ, ◌+◌, true, pos, slice_get, List, [], ◌∷◌, Option, Some, None}
use Rattle.std.specs.List.{AllByRecursion}
use Rattle.f77_ast.specs.Trees.{ExprTree}
use Rattle.f77_ast.specs.DeclTrees.{DeclTree}
use Rattle.fx_lists.specs.declared.refusal.Refusal.{Refusal}
use Rattle.f77_names.specs.Lines.{LineTable}
use Rattle.f77_names.specs.Entries.{find}
use Rattle.f77_names.specs.Tables.{NameTable}
use Rattle.storage_data.specs.declared.offset_node.Home.TheVariants.{Block}
use Rattle.storage_data.specs.declared.offset_node.OffsetNode.{OffsetNode}
use Rattle.storage_data.specs.GroupLaws.{Coincide}
use Rattle.storage_data.specs.Units.{place_of, units_of}
use Rattle.storage_data.specs.Items.{item_name, item_position}
use Rattle.storage_layout.specs.declared.equivalences.Anchor.{Anchor}
use Rattle.storage_layout.specs.declared.blocks.Laid.{Laid}
use Rattle.storage_layout.specs.Statements.{Has, members, common_names, equivalences}
use Rattle.storage_layout.specs.Blocks.{block_number}
use Rattle.storage_layout.specs.Equivalences.{may_join}
use Rattle.storage_layout.specs.Symbols.{laid, shared}

-- ---- COMMON

-- names with places, none of which is there twice
abbrev pub AreDistinct : NameTable → List (List ℕ) → Type 0
AreDistinct t [] = Unit {0}
AreDistinct t (x ∷ xs) = (k : ℕ) × (place_of t x ≡ Some k) × (Has xs x → ⊥) × AreDistinct t xs

-- the first of these variables begins at a unit of a block, each other one where the one before it ends, and the last ends at another unit
abbrev pub InARow : NameTable → List OffsetNode → ℕ → ℕ → List (List ℕ) → ℕ → Type 0
InARow t ss n from [] to = from ≡ to
InARow t ss n from (x ∷ xs) to = (k : ℕ) × (place_of t x ≡ Some k) × (slice_get ss k ≡ Some (record { home = Block n; offset = pos from })) × InARow t ss n (from + units_of t x) xs to

-- a block without members has no number; with members these lie in a row from its unit 0 on, and it has as many units as the row
pub data HasRow (t : NameTable) (b : List ℕ) (l : Laid) (xs : List (List ℕ)) : Type 0 where
  no_block : block_number l.names b ≡ None → xs ≡ [] → HasRow t b l xs
  a_row : (n size : ℕ) → block_number l.names b ≡ Some n → slice_get l.sizes n ≡ Some size → InARow t l.offset_nodes n 0 xs size → HasRow t b l xs

-- the members of each block lie in a row in the order of the text (ANSI X3.9-1978 §8.3.2)
abbrev pub MembersLieInARow : Type 0
MembersLieInARow = (t : NameTable) (ds : List DeclTree) → AreDistinct t (common_names ds) → (b : List ℕ) → HasRow t b (laid t ds) (members b ds)

-- ---- EQUIVALENCE

-- an item of EQUIVALENCE: a variable by its place among the names, and the number of the unit there that it stands for
pub record ItemUnit (t : NameTable) (i : ExprTree) : Type 0 where
  pub name : List ℕ
  pub is_name : item_name i ≡ Some name
  pub may : may_join (find name t.entries) ≡ true
  pub place : ℕ
  pub is_place : place_of t name ≡ Some place
  pub unit : ℕ
  pub is_unit : item_position t i ≡ Some unit

-- each of these items stands for this unit
abbrev pub AllAt : NameTable → List OffsetNode → Anchor → List ExprTree → Type 0
AllAt t ss a [] = Unit {0}
AllAt t ss a (i ∷ is) = (r : ItemUnit t i) × Coincide ss a.place (pos a.unit) r.place (pos r.unit) × AllAt t ss a is

-- the items of a group stand for one unit
abbrev pub GroupCoincides : NameTable → List OffsetNode → List ExprTree → Type 0
GroupCoincides t ss is = (a : Anchor) × AllAt t ss a is

-- the items of each EQUIVALENCE stand for one unit, where none is refused (§8.2.2)
abbrev pub EquivalencesCoincide : Type 0
EquivalencesCoincide = (t : NameTable) (at : LineTable) (ds : List DeclTree) (found : Option Refusal) → (shared t at ds (laid t ds).offset_nodes found).late ≡ None →
    AllByRecursion (GroupCoincides t (shared t at ds (laid t ds).offset_nodes found).group.offset_nodes) (equivalences ds)
