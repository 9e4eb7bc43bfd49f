-- COMMON blocks: the variables of a block lie one behind the other (ANSI X3.9-1978 §8.3.2).
use Rattle.std.specs.Prelude.{ℕ, ◌+◌, Bool, true, pos, List, [], ◌∷◌, ◌++◌, slice_get, slice_set, Option, Some, None, if◌then◌else◌}
use Rattle.f77_ast.specs.DeclTrees.{EntityTree, CommonTree, DeclTree}
use Rattle.f77_ast.specs.DeclTrees as decl
use Rattle.f77_ast.specs.Symbols.{number_from}
use Rattle.f77_names.specs.Tables.{NameTable}
use Rattle.storage_data.specs.declared.offset_node.Home.TheVariants.{Block}
use Rattle.storage_data.specs.declared.offset_node.OffsetNode.{OffsetNode}
use Rattle.storage_data.specs.OffsetNodes.{is_block}
use Rattle.storage_data.specs.Units.{place_of, units_of}
use Rattle.storage_layout.specs.declared.blocks.Laid.{Laid}

abbrev pub block_number : List (List ℕ) → List ℕ → Option ℕ
block_number names x = number_from 0 names x

-- the blocks in order of first appearance
abbrev pub with_block : List ℕ → Option ℕ → Laid → Laid
with_block x None l = record { offset_nodes = l.offset_nodes; names = l.names ++ x ∷ []; sizes = l.sizes ++ 0 ∷ [] }
with_block x (Some n) l = l

abbrev pub sits_in_block : Option OffsetNode → Bool
sits_in_block None = true
sits_in_block (Some s) = is_block s.home

-- so many units behind those that a block has
abbrev pub put_at : ℕ → ℕ → ℕ → Option ℕ → Laid → Laid
put_at units place n None l = l
put_at units place n (Some size) l = record {
  offset_nodes = slice_set l.offset_nodes place (record { home = Block n; offset = pos size });
  names = l.names;
  sizes = slice_set l.sizes n (size + units);
}

abbrev pub put_there : ℕ → ℕ → Option ℕ → Laid → Laid
put_there units place None l = l
put_there units place (Some n) l = put_at units place n (slice_get l.sizes n) l

-- a name that is in a block stays there: that it is named twice is refused elsewhere
abbrev pub member_put : NameTable → List ℕ → EntityTree → Option ℕ → Laid → Laid
member_put t block e None l = l
member_put t block e (Some place) l =
    if sits_in_block (slice_get l.offset_nodes place) then l
    else put_there (units_of t e.name) place (block_number l.names block) l

abbrev pub members_put : NameTable → List ℕ → List EntityTree → Laid → Laid
members_put t block [] l = l
members_put t block (e ∷ es) l = members_put t block es (member_put t block e (place_of t e.name) l)

abbrev pub part_put : NameTable → CommonTree → Laid → Laid
part_put t c l = members_put t c.block c.members (with_block c.block (block_number l.names c.block) l)

abbrev pub parts_put : NameTable → List CommonTree → Laid → Laid
parts_put t [] l = l
parts_put t (c ∷ cs) l = parts_put t cs (part_put t c l)

abbrev pub decl_put : NameTable → DeclTree → Laid → Laid
decl_put t (decl.common cs) l = parts_put t cs l
decl_put t (decl.implicit ps) l = l
decl_put t (decl.integer es) l = l
decl_put t (decl.logical es) l = l
decl_put t (decl.dimension es) l = l
decl_put t (decl.parameter ss) l = l
decl_put t (decl.equivalence gs) l = l
decl_put t (decl.save is) l = l
decl_put t (decl.initial gs) l = l

abbrev pub decls_put : NameTable → List DeclTree → Laid → Laid
decls_put t [] l = l
decls_put t (d ∷ ds) l = decls_put t ds (decl_put t d l)
