-- Whether two specification statements, and two modules, are the same, part by part.
use Rattle.std.specs.Prelude.{ℕ, Bool, true, false, ◌&&◌, nat_eq, bytes_eq, List, Option, Some, None}
use Rattle.std.specs.Cmp.Lexicographic.{pointwise}
use Rattle.f77_ast.specs.declared.decl.Letters.{Letters}
use Rattle.f77_ast.specs.declared.decl.ImplicitPart.{ImplicitPart}
use Rattle.f77_ast.specs.declared.decl.SaveItem.{SaveItem}
use Rattle.f77_ast.specs.declared.decl.SaveItem.TheVariants.{Name, Block}
use Rattle.f77_ast.specs.declared.module.FunctionForm.{FunctionForm}
use Rattle.f77_ast.specs.declared.module.FunctionForm.TheVariants.{Plain, Integer, Logical}
use Rattle.f77_ast.specs.Trees.{ExprTree}
use Rattle.f77_ast.specs.DeclTrees.{ExtentTree, EntityTree, SettingTree, CommonTree, DataValueTree, DataTree, DeclTree, implicit, integer, logical, dimension, parameter, common, equivalence, save, initial, ModuleTree}
use Rattle.same_values.specs.Tests.{same_bool, expr_test, test_some}
use Rattle.same_values.specs.SymbolTests.{maybe_test, scalar_number}
use Rattle.same_values.specs.StmtTests.{number_test, stmts_test}

abbrev pub letters_test : Letters → Letters → Bool
letters_test a b = nat_eq a.first b.first && nat_eq a.last b.last

abbrev pub implicit_test : ImplicitPart → ImplicitPart → Bool
implicit_test a b = nat_eq (scalar_number a.scalar) (scalar_number b.scalar) && pointwise letters_test a.ranges b.ranges

abbrev pub implicits_test : Option (List ImplicitPart) → Option (List ImplicitPart) → Bool
implicits_test None None = true
implicits_test None (Some qs) = false
implicits_test (Some ps) None = false
implicits_test (Some ps) (Some qs) = pointwise implicit_test ps qs

abbrev pub extent_test : ExtentTree → ExtentTree → Bool
extent_test a b = maybe_test a.low b.low && maybe_test a.high b.high

abbrev pub entity_test : EntityTree → EntityTree → Bool
entity_test a b = bytes_eq a.name b.name && pointwise extent_test a.bounds b.bounds

abbrev pub setting_test : SettingTree → SettingTree → Bool
setting_test a b = bytes_eq a.name b.name && expr_test a.value b.value

abbrev pub common_test : CommonTree → CommonTree → Bool
common_test a b = bytes_eq a.block b.block && pointwise entity_test a.members b.members

abbrev pub item_test : SaveItem → SaveItem → Bool
item_test (Name x) (Name y) = bytes_eq x y
item_test (Name x) (Block y) = false
item_test (Block x) (Name y) = false
item_test (Block x) (Block y) = bytes_eq x y

abbrev pub value_test : DataValueTree → DataValueTree → Bool
value_test a b = number_test a.repeat b.repeat && expr_test a.value b.value

abbrev pub data_test : DataTree → DataTree → Bool
data_test a b = pointwise expr_test a.targets b.targets && pointwise value_test a.values b.values

-- ---- what a specification statement of one form has

abbrev pub implicit_in : DeclTree → Option (Option (List ImplicitPart))
implicit_in (implicit x) = Some x
implicit_in (integer x) = None
implicit_in (logical x) = None
implicit_in (dimension x) = None
implicit_in (parameter x) = None
implicit_in (common x) = None
implicit_in (equivalence x) = None
implicit_in (save x) = None
implicit_in (initial x) = None

abbrev pub integer_in : DeclTree → Option (List EntityTree)
integer_in (implicit x) = None
integer_in (integer x) = Some x
integer_in (logical x) = None
integer_in (dimension x) = None
integer_in (parameter x) = None
integer_in (common x) = None
integer_in (equivalence x) = None
integer_in (save x) = None
integer_in (initial x) = None

abbrev pub logical_in : DeclTree → Option (List EntityTree)
logical_in (implicit x) = None
logical_in (integer x) = None
logical_in (logical x) = Some x
logical_in (dimension x) = None
logical_in (parameter x) = None
logical_in (common x) = None
logical_in (equivalence x) = None
logical_in (save x) = None
logical_in (initial x) = None

abbrev pub dimension_in : DeclTree → Option (List EntityTree)
dimension_in (implicit x) = None
dimension_in (integer x) = None
dimension_in (logical x) = None
dimension_in (dimension x) = Some x
dimension_in (parameter x) = None
dimension_in (common x) = None
dimension_in (equivalence x) = None
dimension_in (save x) = None
dimension_in (initial x) = None

abbrev pub parameter_in : DeclTree → Option (List SettingTree)
parameter_in (implicit x) = None
parameter_in (integer x) = None
parameter_in (logical x) = None
parameter_in (dimension x) = None
parameter_in (parameter x) = Some x
parameter_in (common x) = None
parameter_in (equivalence x) = None
parameter_in (save x) = None
parameter_in (initial x) = None

abbrev pub common_in : DeclTree → Option (List CommonTree)
common_in (implicit x) = None
common_in (integer x) = None
common_in (logical x) = None
common_in (dimension x) = None
common_in (parameter x) = None
common_in (common x) = Some x
common_in (equivalence x) = None
common_in (save x) = None
common_in (initial x) = None

abbrev pub equivalence_in : DeclTree → Option (List (List ExprTree))
equivalence_in (implicit x) = None
equivalence_in (integer x) = None
equivalence_in (logical x) = None
equivalence_in (dimension x) = None
equivalence_in (parameter x) = None
equivalence_in (common x) = None
equivalence_in (equivalence x) = Some x
equivalence_in (save x) = None
equivalence_in (initial x) = None

abbrev pub save_in : DeclTree → Option (List SaveItem)
save_in (implicit x) = None
save_in (integer x) = None
save_in (logical x) = None
save_in (dimension x) = None
save_in (parameter x) = None
save_in (common x) = None
save_in (equivalence x) = None
save_in (save x) = Some x
save_in (initial x) = None

abbrev pub initial_in : DeclTree → Option (List DataTree)
initial_in (implicit x) = None
initial_in (integer x) = None
initial_in (logical x) = None
initial_in (dimension x) = None
initial_in (parameter x) = None
initial_in (common x) = None
initial_in (equivalence x) = None
initial_in (save x) = None
initial_in (initial x) = Some x

abbrev pub decl_test : DeclTree → DeclTree → Bool
decl_test (implicit x) d = test_some (λ y. implicits_test x y) (implicit_in d)
decl_test (integer x) d = test_some (λ y. pointwise entity_test x y) (integer_in d)
decl_test (logical x) d = test_some (λ y. pointwise entity_test x y) (logical_in d)
decl_test (dimension x) d = test_some (λ y. pointwise entity_test x y) (dimension_in d)
decl_test (parameter x) d = test_some (λ y. pointwise setting_test x y) (parameter_in d)
decl_test (common x) d = test_some (λ y. pointwise common_test x y) (common_in d)
decl_test (equivalence x) d = test_some (λ y. pointwise (pointwise expr_test) x y) (equivalence_in d)
decl_test (save x) d = test_some (λ y. pointwise item_test x y) (save_in d)
decl_test (initial x) d = test_some (λ y. pointwise data_test x y) (initial_in d)

-- each form has another number
abbrev pub form_number : FunctionForm → ℕ
form_number Plain = 0
form_number Integer = 1
form_number Logical = 2

abbrev pub function_test : Option FunctionForm → Option FunctionForm → Bool
function_test None None = true
function_test None (Some g) = false
function_test (Some f) None = false
function_test (Some f) (Some g) = nat_eq (form_number f) (form_number g)

abbrev pub heading_test : ModuleTree → ModuleTree → Bool
heading_test a b = bytes_eq a.name b.name && same_bool a.main b.main && same_bool a.titled b.titled && pointwise bytes_eq a.dummies b.dummies && function_test a.function b.function

abbrev pub module_test : ModuleTree → ModuleTree → Bool
module_test a b = heading_test a b && pointwise decl_test a.decls b.decls && stmts_test a.body b.body && pointwise nat_eq a.references b.references && pointwise nat_eq a.whiles b.whiles
