-- The table of symbols of a module, or its first refusal.
use Rattle.std.specs.Prelude.{ℕ, false, List, [], length, Option, Some, None, Result, Ok, Err}
use Rattle.std.specs.List.{list_any}
use Rattle.f77_ast.specs.DeclTrees.{DeclTree, ModuleTree, ParsedTree}
use Rattle.f77_ast.specs.Symbols.{SymbolTree}
use Rattle.fx_lists.specs.declared.refusal.Refusal.{Refusal}
use Rattle.f77_names.specs.Lines.{LineTable, lines_of}
use Rattle.f77_names.specs.Tables.{NameTable, table_of, check_names}
use Rattle.f77_checks.specs.Parameters.{Valued, decls_valued}
use Rattle.f77_checks.specs.Dimensions.{check_shapes}
use Rattle.f77_checks.specs.Statements.{check_stmts}
use Rattle.storage_data.specs.declared.offset_node.OffsetNode.{OffsetNode}
use Rattle.storage_data.specs.OffsetNodes.{alone_from}
use Rattle.storage_layout.specs.declared.blocks.Laid.{Laid}
use Rattle.storage_layout.specs.declared.equivalences.Shared.{Shared}
use Rattle.storage_data.specs.declared.initials.Filled.{Filled}
use Rattle.storage_layout.specs.Blocks.{decls_put}
use Rattle.storage_layout.specs.Equivalences.{decls_shared}
use Rattle.storage_data.specs.Initials.{decls_filled, unfilled}
use Rattle.storage_layout.specs.Table.{Layout, is_save_all, symbols_in}

-- ---- the storage of the names: each alone, then COMMON, then EQUIVALENCE, then DATA

abbrev pub alone : NameTable → Laid
alone t = record { offset_nodes = alone_from 0 (length t.entries); names = []; sizes = [] }

unfoldable pub laid : NameTable → List DeclTree → Laid
laid t ds = decls_put t ds (alone t)

abbrev pub unshared : List OffsetNode → Option Refusal → Shared
unshared ss found = record { group = record { offset_nodes = ss; anchor = None; clash = false }; found = found; late = None }

unfoldable pub shared : NameTable → LineTable → List DeclTree → List OffsetNode → Option Refusal → Shared
shared t at ds ss found = decls_shared t at ds 0 (unshared ss found)

unfoldable pub filled : NameTable → List OffsetNode → LineTable → List DeclTree → Option Refusal → Filled
filled t ss at ds found = decls_filled t ss at ds 0 (unfilled found)

-- ---- the answer

-- the first refusal, unless there is none but of EQUIVALENCE
abbrev pub answer : Option Refusal → Option Refusal → Layout → Result (List SymbolTree) Refusal
answer (Some r) late l = Err r
answer None (Some r) l = Err r
answer None None l = Ok (symbols_in l)

abbrev pub layout_for : NameTable → List DeclTree → List OffsetNode → List (List ℕ) → Filled → Layout
layout_for t ds ss names f = record { table = t; offset_nodes = ss; names = names; pieces = f.pieces; save_all = list_any is_save_all ds }

unfoldable pub symbols_or_refusal : NameTable → List DeclTree → List (List ℕ) → List OffsetNode → Option Refusal → Filled → Result (List SymbolTree) Refusal
symbols_or_refusal t ds names ss late f = answer f.found late (layout_for t ds ss names f)

unfoldable pub after_shared : NameTable → LineTable → List DeclTree → List (List ℕ) → Shared → Result (List SymbolTree) Refusal
after_shared t at ds names s = symbols_or_refusal t ds names s.group.offset_nodes s.late (filled t s.group.offset_nodes at ds s.found)

unfoldable pub lay_shared_and_data : NameTable → LineTable → List DeclTree → Option Refusal → Laid → Result (List SymbolTree) Refusal
lay_shared_and_data t at ds found l = after_shared t at ds l.names (shared t at ds l.offset_nodes found)

unfoldable pub lay_out : NameTable → LineTable → List DeclTree → Option Refusal → Result (List SymbolTree) Refusal
lay_out t at ds found = lay_shared_and_data t at ds found (laid t ds)

-- names, then PARAMETER values, the bounds of arrays, and executable statements
unfoldable pub valued : LineTable → ModuleTree → Valued
valued at m = decls_valued at m.decls 0 (record { table = table_of at m; found = check_names at m })

unfoldable pub checked : LineTable → ModuleTree → Valued → Option Refusal
checked at m v = check_stmts v.table at m.body 0 (check_shapes v.table v.table.entries v.found)

unfoldable pub check_and_lay_out : LineTable → ModuleTree → Valued → Result (List SymbolTree) Refusal
check_and_lay_out at m v = lay_out v.table at m.decls (checked at m v)

unfoldable pub symbols_at : LineTable → ModuleTree → Result (List SymbolTree) Refusal
symbols_at at m = check_and_lay_out at m (valued at m)

-- of a module that was read, the table or the line and the cause of its first refusal
unfoldable pub symbols_of : ParsedTree → Result (List SymbolTree) Refusal
symbols_of p = symbols_at (lines_of p.places.spots) p.module_read
