-- Lines that are added before the parts of a module.
use Rattle.std.specs.Prelude.{ℕ, List, [], ◌∷◌, ◌++◌, nat_eq, codes, if◌then◌else◌}
use Rattle.f77_ast.specs.declared.places.Part.{Part}
use Rattle.f77_ast.specs.declared.places.Part.TheVariants.{Stmt}
use Rattle.f77_printer.specs.declared.added.Added.{Added}
use Rattle.f77_printer.specs.PageText.{is_part}

-- the part that a line is added before: the statement with its number, and for 0 the first part of the module
abbrev pub part_of : Part → Added → Part
part_of first a = if nat_eq a.before 0 then first else Stmt a.before

-- what is added before a part: its lines, in the order of the list
abbrev pub added_text : Part → List Added → Part → List ℕ
added_text first [] part = []
added_text first (a ∷ others) part =
    if is_part part (part_of first a) then a.line ++ codes "\n" ++ added_text first others part else added_text first others part
