-- When a base is in the grammar.
use Rattle.std.specs.Prelude.{◌≡◌, true, List, [], Some}
use Rattle.base_json.specs.Distinct.{are_new}
use Rattle.base_values.specs.Modules.{ModuleNames}
use Rattle.base_values.specs.Naming.{Each, AreBytes}
use Rattle.base_values.specs.Fits.{StoredFits}
use Rattle.base_text.specs.declared.base.BaseModule.{BaseModule}
use Rattle.base_text.specs.declared.base.StoredResult.{StoredResult}
use Rattle.base_text.specs.declared.base.Base.{Base}
use Rattle.base_text.specs.Modules.{KnownNames, module_names_in, names_each, known, names_at}
use Rattle.base_text.specs.Order.{are_in_order}

abbrev pub HasBytes : BaseModule → Type 0
HasBytes m = AreBytes m.name × AreBytes m.text

-- a result of one of the modules, which it fits
pub record ResultFits (k : KnownNames) (r : StoredResult) : Type 0 where
  pub names : ModuleNames
  pub of_module : names_at k r.name ≡ Some names
  pub fits : StoredFits names r.value

-- the texts are modules of their names, none twice; results fit their modules, and come by modules and then by kinds
pub record IsBase (b : Base) : Type 0 where
  pub bytes : Each HasBytes b.modules
  pub found : List ModuleNames
  pub are_modules : names_each b.modules ≡ Some found
  pub once : are_new [] (module_names_in b.modules) ≡ true
  pub fit : Each (ResultFits (known b.modules found)) b.results
  pub ordered : are_in_order (module_names_in b.modules) b.results ≡ true
