-- What is written of a base nests less deep than JSON may.
use Rattle.std.proofs.Common.{◌≤◌, List, arith}
use Rattle.serde_json.specs.Data.{depth}
use Rattle.base_values.proofs.DepthLaws.{IsWithin, list_within, written_is_flat}
use Rattle.base_text.specs.declared.base.BaseModule.{BaseModule}
use Rattle.base_text.specs.declared.base.StoredResult.{StoredResult}
use Rattle.base_text.specs.Modules.{KnownNames}
use Rattle.base_text.specs.Written.{names_for, known_or_none, module_data, result_data, data_with}

module_within : (m : BaseModule) → IsWithin 1 (module_data m)
module_within m = omega arith

result_within : (k : KnownNames) (r : StoredResult) → IsWithin 13 (result_data k r)
result_within k r = omega (arith, written_is_flat (names_for k r.name).names r.value)

pub base_within : (ms : List BaseModule) (rs : List StoredResult) → depth (data_with ms rs) ≤ 127
base_within ms rs =
    omega (arith, list_within module_data 1 module_within ms, list_within (result_data (known_or_none ms)) 13 (result_within (known_or_none ms)) rs)
