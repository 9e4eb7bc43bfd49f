-- The plain tree of a specification statement and of a module.
use Rattle.std.specs.Prelude.{map}
use Rattle.f77_ast.specs.declared.decl.Extent.{Extent}
use Rattle.f77_ast.specs.declared.decl.Entity.{Entity}
use Rattle.f77_ast.specs.declared.decl.Setting.{Setting}
use Rattle.f77_ast.specs.declared.decl.CommonPart.{CommonPart}
use Rattle.f77_ast.specs.declared.decl.DataValue.{DataValue}
use Rattle.f77_ast.specs.declared.decl.DataGroup.{DataGroup}
use Rattle.f77_ast.specs.declared.decl.Decl.{Decl}
use Rattle.f77_ast.specs.declared.decl.Decl.TheVariants.{Implicit, Integer, Logical, Dimension, Parameter, Common, Equivalence, Save, Data}
use Rattle.f77_ast.specs.declared.module.Module.{Module}
use Rattle.f77_ast.specs.declared.places.Parsed.{Parsed}
use Rattle.f77_ast.specs.DeclTrees.{ExtentTree, EntityTree, SettingTree, CommonTree, DataValueTree, DataTree, DeclTree, ParsedTree, implicit, integer, logical, dimension, parameter, common, equivalence, save, initial, ModuleTree}
use Rattle.f77_ast.specs.Plain.{expr_tree}
use Rattle.f77_ast.specs.PlainStmt.{maybe_tree, stmt_trees}

-- a dimension as it is written
abbrev pub extent_tree : Extent → ExtentTree
extent_tree x = record { low = maybe_tree x.low; high = maybe_tree x.high }

-- a name with its bounds
abbrev pub entity_tree : Entity → EntityTree
entity_tree e = record { name = e.name; bounds = map extent_tree e.bounds }

-- a name of PARAMETER and its value
abbrev pub setting_tree : Setting → SettingTree
setting_tree s = record { name = s.name; value = expr_tree s.value }

-- a block and what stands in it
abbrev pub common_tree : CommonPart → CommonTree
common_tree c = record { block = c.block; members = map entity_tree c.members }

-- a value of DATA with its repeat count
abbrev pub data_value_tree : DataValue → DataValueTree
data_value_tree v = record { repeat = v.repeat; value = expr_tree v.value }

-- the names and the values of DATA
abbrev pub data_tree : DataGroup → DataTree
data_tree g = record { targets = map expr_tree g.targets; values = map data_value_tree g.values }

-- a specification statement without pointers
abbrev pub decl_tree : Decl → DeclTree
decl_tree (Implicit parts) = implicit parts
decl_tree (Integer es) = integer (map entity_tree es)
decl_tree (Logical es) = logical (map entity_tree es)
decl_tree (Dimension es) = dimension (map entity_tree es)
decl_tree (Parameter ss) = parameter (map setting_tree ss)
decl_tree (Common cs) = common (map common_tree cs)
decl_tree (Equivalence gs) = equivalence (map (map expr_tree) gs)
decl_tree (Save is) = save is
decl_tree (Data gs) = initial (map data_tree gs)

-- a main program or a subroutine without pointers
abbrev pub module_tree : Module → ModuleTree
module_tree m = record {
  name = m.name;
  main = m.main;
  titled = m.titled;
  dummies = m.dummies;
  decls = map decl_tree m.decls;
  body = stmt_trees m.body;
  function = m.function;
  references = m.references;
  whiles = m.whiles;
}

-- a module that was read, without pointers
abbrev pub parsed_tree : Parsed → ParsedTree
parsed_tree p = record { module_read = module_tree p.module; places = p.places }
