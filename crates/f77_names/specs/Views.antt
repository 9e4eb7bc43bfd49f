-- The tables of the code, as definitions see them.
use Rattle.std.specs.Prelude.{ℕ, Bool, ◌&&◌, nat_eq, map, Option}
use Rattle.std.specs.HashMap.{get}
use Rattle.f77_names.specs.declared.lines.Sited.{Sited}
use Rattle.f77_names.specs.declared.lines.Sited.TheVariants.{Title, Decl, Statement, ElseIf}
use Rattle.f77_names.specs.declared.lines.LineTable.{LineTable}
use Rattle.f77_names.specs.declared.declare.Told.{Told}
use Rattle.f77_names.specs.declared.table.NameTable.{NameTable}
use Rattle.f77_names.specs.Entries.{entry_tree}
use Rattle.f77_names.specs.Declaring as declaring
use Rattle.f77_names.specs.Tables as tables

abbrev pub same_pair : ℕ × ℕ → ℕ × ℕ → Bool
same_pair p q = nat_eq p.0 q.0 && nat_eq p.1 q.1

-- the line that a table has for what stands there
unfoldable pub line_in : LineTable → Sited → Option ℕ
line_in t Title = t.title
line_in t (Decl n) = get nat_eq t.decls n
line_in t (Statement n) = get nat_eq t.statements n
line_in t (ElseIf n k) = get same_pair t.else_ifs (n, k)

abbrev pub told_tree : Told → declaring.Told
told_tree t = record { entries = map entry_tree t.names; found = t.found }

abbrev pub table_tree : NameTable → tables.NameTable
table_tree t = record { entries = map entry_tree t.names; kinds = t.kinds; arrays = t.arrays }
