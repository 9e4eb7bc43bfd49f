-- The names of the numbers of codes.
use Rattle.std.specs.Prelude.{ℕ, List, [], Option, Some, None}
use Rattle.fx_lists.specs.declared.code.Code.{Code}
use Rattle.fx_lists.specs.Refusals.{name_of, code_numbered}

-- the name of a code, or nothing
abbrev pub name_or_nothing : Option Code → List ℕ
name_or_nothing None = []
name_or_nothing (Some code) = name_of code

abbrev pub code_name : ℕ → List ℕ
code_name code = name_or_nothing (code_numbered code)
