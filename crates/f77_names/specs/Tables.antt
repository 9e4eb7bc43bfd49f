-- The names of a module: what is said of them, and their types.
use Rattle.std.specs.Prelude.{ℕ, List, [], ◌∷◌, Option, Some, None, Bool, true, false, ◌||◌, is_some}
use Rattle.f77_ast.specs.DeclTrees.{ModuleTree}
use Rattle.fx_lists.specs.declared.code.Code.TheVariants.{RealName, CommonTwice}
use Rattle.fx_lists.specs.declared.refusal.Refusal.{Refusal}
use Rattle.f77_names.specs.declared.functions.Function.{Function}
use Rattle.f77_names.specs.declared.kinds.Kind.{Kind}
use Rattle.f77_names.specs.declared.kinds.Kind.TheVariants.{Int, Log, Real}
use Rattle.f77_names.specs.declared.lines.Sited.TheVariants.{Title}
use Rattle.fx_lists.specs.Refusals.{refuse_if}
use Rattle.f77_names.specs.Lines.{LineTable, line_or}
use Rattle.f77_names.specs.Kinds.{kinds_of, kind_of_name, kind_or}
use Rattle.f77_names.specs.Functions.{arrays_named}
use Rattle.f77_names.specs.Entries.{EntryTree, find, of_entry}
use Rattle.f77_names.specs.Appearing.{stmts_seen}
use Rattle.f77_names.specs.Declaring.{Told, dummies_told, form_told, decls_told}

-- the names, the types of the letters A to Z, and the functions whose names are those of arrays
pub record NameTable : Type 0 where
  pub entries : List EntryTree
  pub kinds : List Kind
  pub arrays : List Function

-- ---- types

unfoldable pub entry_kind : List Kind → EntryTree → Kind
entry_kind ks e = kind_or (kind_of_name ks e.name) e.scalar

-- a declared type, or that of the first letter
unfoldable pub kind_in : NameTable → List ℕ → Kind
kind_in t x = of_entry (kind_of_name t.kinds x) (entry_kind t.kinds) (find x t.entries)

abbrev pub is_real : Kind → Bool
is_real Int = false
is_real Log = false
is_real Real = true

-- ---- the table of a module

abbrev pub no_names : Told
no_names = record { entries = []; found = None }

-- the dummies, and the type of a function
abbrev pub title_told : LineTable → ModuleTree → Told
title_told at m = form_told m.function m.name (line_or at Title 0) (dummies_told m.dummies 1 (line_or at Title 0) no_names)

-- the title comes first, then specifications, then executable statements
abbrev pub told_of : List Function → LineTable → ModuleTree → Told
told_of fs at m =
    let t = decls_told fs at m.decls 0 (title_told at m) in
    record t { entries = stmts_seen fs at m.body 0 t.entries }

-- a name that is REAL is refused where it is first; a dummy or PARAMETER in COMMON at the COMMON statement
abbrev pub in_common_too : EntryTree → Option ℕ → Option Refusal → Option Refusal
in_common_too e None found = found
in_common_too e (Some line) found = refuse_if (is_some e.dummy || e.parameter) line CommonTwice found

abbrev pub check_entry : List Kind → EntryTree → Option Refusal → Option Refusal
check_entry ks e found = in_common_too e e.common (refuse_if (is_real (entry_kind ks e)) e.line RealName found)

abbrev pub check_entries : List Kind → List EntryTree → Option Refusal → Option Refusal
check_entries ks [] found = found
check_entries ks (e ∷ es) found = check_entries ks es (check_entry ks e found)

abbrev pub table_of : LineTable → ModuleTree → NameTable
table_of at m = record {
  entries = (told_of (arrays_named m.decls) at m).entries;
  kinds = kinds_of m.decls;
  arrays = arrays_named m.decls;
}

-- the first refusal of what the names are
abbrev pub check_names : LineTable → ModuleTree → Option Refusal
check_names at m =
    let t = told_of (arrays_named m.decls) at m in
    check_entries (kinds_of m.decls) t.entries t.found
