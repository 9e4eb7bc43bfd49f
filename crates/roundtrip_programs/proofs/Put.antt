-- COMMON puts the same variables at the same places, whatever the lines.
use Rattle.std.proofs.Common.{◌≡◌, ℕ, List, [], ◌∷◌, Option, Some, None, refl, ap, ◌∙◌}
use Rattle.std.specs.Prelude.{if◌then◌else◌, slice_get}
use Rattle.f77_ast.specs.DeclTrees.{EntityTree, CommonTree, DeclTree}
use Rattle.f77_ast.specs.DeclTrees as decl
use Rattle.f77_names.specs.Tables.{NameTable}
use Rattle.storage_data.specs.Units.{place_of}
use Rattle.storage_layout.specs.declared.blocks.Laid.{Laid}
use Rattle.storage_layout.specs.Blocks.{block_number, with_block, sits_in_block, put_there, member_put, members_put, part_put, parts_put, decl_put, decls_put}
use Rattle.roundtrip_programs.proofs.Bare.{bare_table}
use Rattle.roundtrip_programs.proofs.Items.{place_bare, units_bare}

member_at : (t : NameTable) (block : List ℕ) (e : EntityTree) (p : Option ℕ) (l : Laid) → member_put t block e p l ≡ member_put (bare_table t) block e p l
member_at t block e None l = refl
member_at t block e (Some place) l =
    ap (λ (n : ℕ). if sits_in_block (slice_get l.offset_nodes place) then l else put_there n place (block_number l.names block) l) (units_bare t e.name)

member_bare : (t : NameTable) (block : List ℕ) (e : EntityTree) (l : Laid) → member_put t block e (place_of t e.name) l ≡ member_put (bare_table t) block e (place_of (bare_table t) e.name) l
member_bare t block e l = member_at t block e (place_of t e.name) l ∙ ap (λ p. member_put (bare_table t) block e p l) (place_bare t e.name)

members_bare : (t : NameTable) (block : List ℕ) (es : List EntityTree) (l : Laid) → members_put t block es l ≡ members_put (bare_table t) block es l
members_bare t block [] l = refl
members_bare t block (e ∷ es) l = members_bare t block es (member_put t block e (place_of t e.name) l) ∙ ap (members_put (bare_table t) block es) (member_bare t block e l)

parts_bare : (t : NameTable) (cs : List CommonTree) (l : Laid) → parts_put t cs l ≡ parts_put (bare_table t) cs l
parts_bare t [] l = refl
parts_bare t (c ∷ cs) l =
    parts_bare t cs (part_put t c l)
    ∙ ap (parts_put (bare_table t) cs) (members_bare t c.block c.members (with_block c.block (block_number l.names c.block) l))

decl_bare : (t : NameTable) (d : DeclTree) (l : Laid) → decl_put t d l ≡ decl_put (bare_table t) d l
decl_bare t (decl.common cs) l = parts_bare t cs l
decl_bare t (decl.implicit ps) l = refl
decl_bare t (decl.integer es) l = refl
decl_bare t (decl.logical es) l = refl
decl_bare t (decl.dimension es) l = refl
decl_bare t (decl.parameter ss) l = refl
decl_bare t (decl.equivalence gs) l = refl
decl_bare t (decl.save is) l = refl
decl_bare t (decl.initial gs) l = refl

pub decls_bare : (t : NameTable) (ds : List DeclTree) (l : Laid) → decls_put t ds l ≡ decls_put (bare_table t) ds l
decls_bare t [] l = refl
decls_bare t (d ∷ ds) l = decls_bare t ds (decl_put t d l) ∙ ap (decls_put (bare_table t) ds) (decl_bare t d l)
