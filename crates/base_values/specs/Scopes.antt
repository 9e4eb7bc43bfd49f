-- What values in code stand for.
use Rattle.f77_ast.specs.Index.{names_of}
use Rattle.base_values.specs.declared.names.Names.{Names}
use Rattle.base_values.specs.Modules.{ModuleNames}

abbrev pub names_tree : Names → ModuleNames
names_tree n = record { names = names_of n.symbols.now; statements = n.numbers.now.statements; loops = n.numbers.now.loops }
