-- The values of PARAMETER names (ANSI X3.9-1978 §8.6): each may use those before it.
use Rattle.std.specs.Prelude.{ℕ, ◌+◌, true, ◌||◌, List, [], ◌∷◌, Option, if◌then◌else◌}
use Rattle.f77_ast.specs.DeclTrees.{SettingTree, DeclTree}
use Rattle.f77_ast.specs.DeclTrees as decl
use Rattle.f77_ast.specs.declared.constant.Constant.{Constant}
use Rattle.f77_ast.specs.declared.constant.Constant.TheVariants as constant
use Rattle.f77_ast.specs.declared.constant.ConstantValue.{ConstantValue}
use Rattle.f77_ast.specs.declared.constant.ConstantValue.TheVariants.{Is, Faults, Varies}
use Rattle.f77_ast.specs.Constants.{const_value}
use Rattle.fx_lists.specs.declared.code.Code.TheVariants.{BadParameter, NotAnArray}
use Rattle.fx_lists.specs.declared.refusal.Refusal.{Refusal}
use Rattle.f77_names.specs.declared.kinds.Kind.{Kind}
use Rattle.f77_names.specs.declared.kinds.Kind.TheVariants.{Int, Log, Real}
use Rattle.f77_names.specs.declared.lines.Sited.TheVariants.{Decl}
use Rattle.fx_lists.specs.Refusals.{refuse_if}
use Rattle.f77_names.specs.Lines.{LineTable, line_or}
use Rattle.f77_names.specs.Entries.{changed, with_value, has_dummy, has_shape, has_value, value_among}
use Rattle.f77_names.specs.Tables.{NameTable, kind_in}
use Rattle.f77_checks.specs.Expressions.{check_expr}

-- the names with the values so far, and the first refusal
pub record Valued : Type 0 where
  pub table : NameTable
  pub found : Option Refusal

abbrev pub is_bad_parameter : ℕ → Valued → Valued
is_bad_parameter line v = record v { found = refuse_if true line BadParameter v.found }

abbrev pub given_value : List ℕ → Constant → Valued → Valued
given_value x c v = record v { table = record v.table { entries = changed x (with_value c) v.table.entries } }

-- a value of another type is refused; of a REAL name nothing more is said
abbrev pub given_typed : Kind → List ℕ → Constant → ℕ → Valued → Valued
given_typed Int x (constant.Int n) line v = given_value x (constant.Int n) v
given_typed Int x (constant.Log b) line v = is_bad_parameter line v
given_typed Log x (constant.Int n) line v = is_bad_parameter line v
given_typed Log x (constant.Log b) line v = given_value x (constant.Log b) v
given_typed Real x c line v = v

abbrev pub given_const_value : List ℕ → ConstantValue → ℕ → Valued → Valued
given_const_value x Varies line v = is_bad_parameter line v
given_const_value x Faults line v = is_bad_parameter line v
given_const_value x (Is c) line v = given_typed (kind_in v.table x) x c line v

-- an array is refused, and a dummy or a second value
abbrev pub setting_valued : SettingTree → ℕ → Valued → Valued
setting_valued s line v =
    let w = record v { found = refuse_if (has_shape s.name v.table.entries) line NotAnArray v.found } in
    if has_dummy s.name v.table.entries || has_value s.name v.table.entries then is_bad_parameter line w
    else given_const_value s.name (const_value (value_among v.table.entries) s.value) line (record w { found = check_expr w.table s.value line w.found })

abbrev pub settings_valued : List SettingTree → ℕ → Valued → Valued
settings_valued [] line v = v
settings_valued (s ∷ ss) line v = settings_valued ss line (setting_valued s line v)

abbrev pub decl_valued : DeclTree → ℕ → Valued → Valued
decl_valued (decl.parameter ss) line v = settings_valued ss line v
decl_valued (decl.implicit ps) line v = v
decl_valued (decl.integer es) line v = v
decl_valued (decl.logical es) line v = v
decl_valued (decl.dimension es) line v = v
decl_valued (decl.common cs) line v = v
decl_valued (decl.equivalence gs) line v = v
decl_valued (decl.save is) line v = v
decl_valued (decl.initial gs) line v = v

-- the statements of which the first has this number, from 0
abbrev pub decls_valued : LineTable → List DeclTree → ℕ → Valued → Valued
decls_valued at [] n v = v
decls_valued at (d ∷ ds) n v = decls_valued at ds (n + 1) (decl_valued d (line_or at (Decl n) 0) v)
