-- What the tests of specification statements and of modules decide.
use Rattle.std.proofs.Common.{◌≡◌, ℕ, Bool, true, ◌&&◌, List, [], ◌∷◌, map, Option, Some, None, refl, ap, ◌∙◌, subst}
use Rattle.std.specs.Prelude.{nat_eq, bytes_eq}
use Rattle.std.specs.Cmp.Lexicographic.{pointwise, pointwise_decides, bytes_decides}
use Rattle.std.proofs.lemmas.Bool.{eqb-true, eq-eqb, and_parts, and_from}
use Rattle.f77_ast.specs.declared.decl.Scalar.{Scalar}
use Rattle.f77_ast.specs.declared.decl.Scalar.TheVariants as scalar
use Rattle.f77_ast.specs.declared.decl.Letters.{Letters}
use Rattle.f77_ast.specs.declared.decl.ImplicitPart.{ImplicitPart}
use Rattle.f77_ast.specs.declared.decl.SaveItem.{SaveItem}
use Rattle.f77_ast.specs.declared.decl.SaveItem.TheVariants.{Name, Block}
use Rattle.f77_ast.specs.declared.module.FunctionForm.{FunctionForm}
use Rattle.f77_ast.specs.declared.module.FunctionForm.TheVariants as form
use Rattle.f77_ast.specs.Trees.{ExprTree}
use Rattle.f77_ast.specs.DeclTrees.{ExtentTree, EntityTree, SettingTree, CommonTree, DataValueTree, DataTree, DeclTree, implicit, integer, logical, dimension, parameter, common, equivalence, save, initial, ModuleTree}
use Rattle.same_values.specs.Tests.{same_bool, expr_test}
use Rattle.same_values.specs.SymbolTests.{maybe_test, scalar_number}
use Rattle.same_values.specs.StmtTests.{number_test, stmts_test}
use Rattle.same_values.specs.DeclTests.{letters_test, implicit_test, implicits_test, extent_test, entity_test, setting_test, common_test, item_test, value_test, data_test, decl_test, form_number, function_test, heading_test, module_test}
use Rattle.same_values.proofs.TestLaws.{same_bool-true, same_bool_self, expr_decides}
use Rattle.same_values.proofs.StmtLaws.{number-true, number_self, maybe-true, maybe_self, stmts_decide}

-- elements that are compared by a part of them
pub pointwise-map : {A B : Type 0} (f : A → B) (E : B → B → Bool) (xs ys : List A) → pointwise (λ a b. E (f a) (f b)) xs ys ≡ pointwise E (map f xs) (map f ys)
pointwise-map f E [] [] = refl
pointwise-map f E [] (y ∷ ys) = refl
pointwise-map f E (x ∷ xs) [] = refl
pointwise-map f E (x ∷ xs) (y ∷ ys) = ap (λ b. E (f x) (f y) && b) (pointwise-map f E xs ys)

-- lists of such elements
pub pointwise-maps : {A B : Type 0} (f : A → B) (E : B → B → Bool) (xs ys : List (List A)) → pointwise (pointwise (λ a b. E (f a) (f b))) xs ys ≡ pointwise (pointwise E) (map (map f) xs) (map (map f) ys)
pointwise-maps f E [] [] = refl
pointwise-maps f E [] (y ∷ ys) = refl
pointwise-maps f E (x ∷ xs) [] = refl
pointwise-maps f E (x ∷ xs) (y ∷ ys) = ap (λ b. b && pointwise (pointwise (λ a b. E (f a) (f b))) xs ys) (pointwise-map f E x y) ∙ ap (λ b. pointwise E (map f x) (map f y) && b) (pointwise-maps f E xs ys)

pub scalar-true : (a b : Scalar) → nat_eq (scalar_number a) (scalar_number b) ≡ true → a ≡ b
scalar-true scalar.Int scalar.Int e = refl
scalar-true scalar.Int scalar.Log e = cc
scalar-true scalar.Log scalar.Int e = cc
scalar-true scalar.Log scalar.Log e = refl

letters-true : (a b : Letters) → letters_test a b ≡ true → a ≡ b
letters-true a b e =
    let h1 = and_parts (nat_eq a.first b.first) (nat_eq a.last b.last) e in
    let mk : ℕ → ℕ → Letters = λ x0 x1. record { first = x0; last = x1 } in
    ap (λ x. mk x a.last) (eqb-true a.first b.first h1.0)
    ∙ ap (λ x. mk b.first x) (eqb-true a.last b.last h1.1)

letters_self : (a : Letters) → letters_test a a ≡ true
letters_self a = and_from (nat_eq a.first a.first) (nat_eq a.last a.last) (eq-eqb a.first a.first refl) (eq-eqb a.last a.last refl)

pub letters_decides : (a b : Letters) → (letters_test a b ≡ true → a ≡ b) × (a ≡ b → letters_test a b ≡ true)
letters_decides a b = (letters-true a b, λ e. subst (λ c. letters_test a c ≡ true) e (letters_self a))

implicit-true : (a b : ImplicitPart) → implicit_test a b ≡ true → a ≡ b
implicit-true a b e =
    let h1 = and_parts (nat_eq (scalar_number a.scalar) (scalar_number b.scalar)) (pointwise letters_test a.ranges b.ranges) e in
    let mk : Scalar → List Letters → ImplicitPart = λ x0 x1. record { scalar = x0; ranges = x1 } in
    ap (λ x. mk x a.ranges) (scalar-true a.scalar b.scalar h1.0)
    ∙ ap (λ x. mk b.scalar x) ((pointwise_decides {E = letters_test} letters_decides a.ranges b.ranges).0 h1.1)

implicit_self : (a : ImplicitPart) → implicit_test a a ≡ true
implicit_self a = and_from (nat_eq (scalar_number a.scalar) (scalar_number a.scalar)) (pointwise letters_test a.ranges a.ranges) (eq-eqb (scalar_number a.scalar) (scalar_number a.scalar) refl) ((pointwise_decides {E = letters_test} letters_decides a.ranges a.ranges).1 refl)

pub implicit_decides : (a b : ImplicitPart) → (implicit_test a b ≡ true → a ≡ b) × (a ≡ b → implicit_test a b ≡ true)
implicit_decides a b = (implicit-true a b, λ e. subst (λ c. implicit_test a c ≡ true) e (implicit_self a))

implicits-true : (a b : Option (List ImplicitPart)) → implicits_test a b ≡ true → a ≡ b
implicits-true None None e = refl
implicits-true None (Some qs) e = cc
implicits-true (Some ps) None e = cc
implicits-true (Some ps) (Some qs) e = ap Some ((pointwise_decides {E = implicit_test} implicit_decides ps qs).0 e)

implicits_self : (a : Option (List ImplicitPart)) → implicits_test a a ≡ true
implicits_self None = refl
implicits_self (Some ps) = (pointwise_decides {E = implicit_test} implicit_decides ps ps).1 refl

extent-true : (a b : ExtentTree) → extent_test a b ≡ true → a ≡ b
extent-true a b e =
    let h1 = and_parts (maybe_test a.low b.low) (maybe_test a.high b.high) e in
    let mk : Option ExprTree → Option ExprTree → ExtentTree = λ x0 x1. record { low = x0; high = x1 } in
    ap (λ x. mk x a.high) (maybe-true a.low b.low h1.0)
    ∙ ap (λ x. mk b.low x) (maybe-true a.high b.high h1.1)

extent_self : (a : ExtentTree) → extent_test a a ≡ true
extent_self a = and_from (maybe_test a.low a.low) (maybe_test a.high a.high) (maybe_self a.low) (maybe_self a.high)

pub extent_decides : (a b : ExtentTree) → (extent_test a b ≡ true → a ≡ b) × (a ≡ b → extent_test a b ≡ true)
extent_decides a b = (extent-true a b, λ e. subst (λ c. extent_test a c ≡ true) e (extent_self a))

entity-true : (a b : EntityTree) → entity_test a b ≡ true → a ≡ b
entity-true a b e =
    let h1 = and_parts (bytes_eq a.name b.name) (pointwise extent_test a.bounds b.bounds) e in
    let mk : List ℕ → List ExtentTree → EntityTree = λ x0 x1. record { name = x0; bounds = x1 } in
    ap (λ x. mk x a.bounds) ((bytes_decides a.name b.name).0 h1.0)
    ∙ ap (λ x. mk b.name x) ((pointwise_decides {E = extent_test} extent_decides a.bounds b.bounds).0 h1.1)

entity_self : (a : EntityTree) → entity_test a a ≡ true
entity_self a = and_from (bytes_eq a.name a.name) (pointwise extent_test a.bounds a.bounds) ((bytes_decides a.name a.name).1 refl) ((pointwise_decides {E = extent_test} extent_decides a.bounds a.bounds).1 refl)

pub entity_decides : (a b : EntityTree) → (entity_test a b ≡ true → a ≡ b) × (a ≡ b → entity_test a b ≡ true)
entity_decides a b = (entity-true a b, λ e. subst (λ c. entity_test a c ≡ true) e (entity_self a))

setting-true : (a b : SettingTree) → setting_test a b ≡ true → a ≡ b
setting-true a b e =
    let h1 = and_parts (bytes_eq a.name b.name) (expr_test a.value b.value) e in
    let mk : List ℕ → ExprTree → SettingTree = λ x0 x1. record { name = x0; value = x1 } in
    ap (λ x. mk x a.value) ((bytes_decides a.name b.name).0 h1.0)
    ∙ ap (λ x. mk b.name x) ((expr_decides a.value b.value).0 h1.1)

setting_self : (a : SettingTree) → setting_test a a ≡ true
setting_self a = and_from (bytes_eq a.name a.name) (expr_test a.value a.value) ((bytes_decides a.name a.name).1 refl) ((expr_decides a.value a.value).1 refl)

pub setting_decides : (a b : SettingTree) → (setting_test a b ≡ true → a ≡ b) × (a ≡ b → setting_test a b ≡ true)
setting_decides a b = (setting-true a b, λ e. subst (λ c. setting_test a c ≡ true) e (setting_self a))

common-true : (a b : CommonTree) → common_test a b ≡ true → a ≡ b
common-true a b e =
    let h1 = and_parts (bytes_eq a.block b.block) (pointwise entity_test a.members b.members) e in
    let mk : List ℕ → List EntityTree → CommonTree = λ x0 x1. record { block = x0; members = x1 } in
    ap (λ x. mk x a.members) ((bytes_decides a.block b.block).0 h1.0)
    ∙ ap (λ x. mk b.block x) ((pointwise_decides {E = entity_test} entity_decides a.members b.members).0 h1.1)

common_self : (a : CommonTree) → common_test a a ≡ true
common_self a = and_from (bytes_eq a.block a.block) (pointwise entity_test a.members a.members) ((bytes_decides a.block a.block).1 refl) ((pointwise_decides {E = entity_test} entity_decides a.members a.members).1 refl)

pub common_decides : (a b : CommonTree) → (common_test a b ≡ true → a ≡ b) × (a ≡ b → common_test a b ≡ true)
common_decides a b = (common-true a b, λ e. subst (λ c. common_test a c ≡ true) e (common_self a))

item-true : (a b : SaveItem) → item_test a b ≡ true → a ≡ b
item-true (Name x) (Name y) e = ap Name ((bytes_decides x y).0 e)
item-true (Name x) (Block y) e = cc
item-true (Block x) (Name y) e = cc
item-true (Block x) (Block y) e = ap Block ((bytes_decides x y).0 e)

item_self : (a : SaveItem) → item_test a a ≡ true
item_self (Name x) = (bytes_decides x x).1 refl
item_self (Block x) = (bytes_decides x x).1 refl

pub item_decides : (a b : SaveItem) → (item_test a b ≡ true → a ≡ b) × (a ≡ b → item_test a b ≡ true)
item_decides a b = (item-true a b, λ e. subst (λ c. item_test a c ≡ true) e (item_self a))

value-true : (a b : DataValueTree) → value_test a b ≡ true → a ≡ b
value-true a b e =
    let h1 = and_parts (number_test a.repeat b.repeat) (expr_test a.value b.value) e in
    let mk : Option ℕ → ExprTree → DataValueTree = λ x0 x1. record { repeat = x0; value = x1 } in
    ap (λ x. mk x a.value) (number-true a.repeat b.repeat h1.0)
    ∙ ap (λ x. mk b.repeat x) ((expr_decides a.value b.value).0 h1.1)

value_self : (a : DataValueTree) → value_test a a ≡ true
value_self a = and_from (number_test a.repeat a.repeat) (expr_test a.value a.value) (number_self a.repeat) ((expr_decides a.value a.value).1 refl)

pub value_decides : (a b : DataValueTree) → (value_test a b ≡ true → a ≡ b) × (a ≡ b → value_test a b ≡ true)
value_decides a b = (value-true a b, λ e. subst (λ c. value_test a c ≡ true) e (value_self a))

group-true : (a b : DataTree) → data_test a b ≡ true → a ≡ b
group-true a b e =
    let h1 = and_parts (pointwise expr_test a.targets b.targets) (pointwise value_test a.values b.values) e in
    let mk : List ExprTree → List DataValueTree → DataTree = λ x0 x1. record { targets = x0; values = x1 } in
    ap (λ x. mk x a.values) ((pointwise_decides {E = expr_test} expr_decides a.targets b.targets).0 h1.0)
    ∙ ap (λ x. mk b.targets x) ((pointwise_decides {E = value_test} value_decides a.values b.values).0 h1.1)

group_self : (a : DataTree) → data_test a a ≡ true
group_self a = and_from (pointwise expr_test a.targets a.targets) (pointwise value_test a.values a.values) ((pointwise_decides {E = expr_test} expr_decides a.targets a.targets).1 refl) ((pointwise_decides {E = value_test} value_decides a.values a.values).1 refl)

pub group_decides : (a b : DataTree) → (data_test a b ≡ true → a ≡ b) × (a ≡ b → data_test a b ≡ true)
group_decides a b = (group-true a b, λ e. subst (λ c. data_test a c ≡ true) e (group_self a))

exprs_decide : (a b : List ExprTree) → (pointwise expr_test a b ≡ true → a ≡ b) × (a ≡ b → pointwise expr_test a b ≡ true)
exprs_decide a b = pointwise_decides {E = expr_test} expr_decides a b

decl-true : (a b : DeclTree) → decl_test a b ≡ true → a ≡ b
decl-true (implicit x) (implicit y) e = ap implicit (implicits-true x y e)
decl-true (implicit x) (integer y) e = cc
decl-true (implicit x) (logical y) e = cc
decl-true (implicit x) (dimension y) e = cc
decl-true (implicit x) (parameter y) e = cc
decl-true (implicit x) (common y) e = cc
decl-true (implicit x) (equivalence y) e = cc
decl-true (implicit x) (save y) e = cc
decl-true (implicit x) (initial y) e = cc
decl-true (integer x) (implicit y) e = cc
decl-true (integer x) (integer y) e = ap integer ((pointwise_decides {E = entity_test} entity_decides x y).0 e)
decl-true (integer x) (logical y) e = cc
decl-true (integer x) (dimension y) e = cc
decl-true (integer x) (parameter y) e = cc
decl-true (integer x) (common y) e = cc
decl-true (integer x) (equivalence y) e = cc
decl-true (integer x) (save y) e = cc
decl-true (integer x) (initial y) e = cc
decl-true (logical x) (implicit y) e = cc
decl-true (logical x) (integer y) e = cc
decl-true (logical x) (logical y) e = ap logical ((pointwise_decides {E = entity_test} entity_decides x y).0 e)
decl-true (logical x) (dimension y) e = cc
decl-true (logical x) (parameter y) e = cc
decl-true (logical x) (common y) e = cc
decl-true (logical x) (equivalence y) e = cc
decl-true (logical x) (save y) e = cc
decl-true (logical x) (initial y) e = cc
decl-true (dimension x) (implicit y) e = cc
decl-true (dimension x) (integer y) e = cc
decl-true (dimension x) (logical y) e = cc
decl-true (dimension x) (dimension y) e = ap dimension ((pointwise_decides {E = entity_test} entity_decides x y).0 e)
decl-true (dimension x) (parameter y) e = cc
decl-true (dimension x) (common y) e = cc
decl-true (dimension x) (equivalence y) e = cc
decl-true (dimension x) (save y) e = cc
decl-true (dimension x) (initial y) e = cc
decl-true (parameter x) (implicit y) e = cc
decl-true (parameter x) (integer y) e = cc
decl-true (parameter x) (logical y) e = cc
decl-true (parameter x) (dimension y) e = cc
decl-true (parameter x) (parameter y) e = ap parameter ((pointwise_decides {E = setting_test} setting_decides x y).0 e)
decl-true (parameter x) (common y) e = cc
decl-true (parameter x) (equivalence y) e = cc
decl-true (parameter x) (save y) e = cc
decl-true (parameter x) (initial y) e = cc
decl-true (common x) (implicit y) e = cc
decl-true (common x) (integer y) e = cc
decl-true (common x) (logical y) e = cc
decl-true (common x) (dimension y) e = cc
decl-true (common x) (parameter y) e = cc
decl-true (common x) (common y) e = ap common ((pointwise_decides {E = common_test} common_decides x y).0 e)
decl-true (common x) (equivalence y) e = cc
decl-true (common x) (save y) e = cc
decl-true (common x) (initial y) e = cc
decl-true (equivalence x) (implicit y) e = cc
decl-true (equivalence x) (integer y) e = cc
decl-true (equivalence x) (logical y) e = cc
decl-true (equivalence x) (dimension y) e = cc
decl-true (equivalence x) (parameter y) e = cc
decl-true (equivalence x) (common y) e = cc
decl-true (equivalence x) (equivalence y) e = ap equivalence ((pointwise_decides {E = pointwise expr_test} exprs_decide x y).0 e)
decl-true (equivalence x) (save y) e = cc
decl-true (equivalence x) (initial y) e = cc
decl-true (save x) (implicit y) e = cc
decl-true (save x) (integer y) e = cc
decl-true (save x) (logical y) e = cc
decl-true (save x) (dimension y) e = cc
decl-true (save x) (parameter y) e = cc
decl-true (save x) (common y) e = cc
decl-true (save x) (equivalence y) e = cc
decl-true (save x) (save y) e = ap save ((pointwise_decides {E = item_test} item_decides x y).0 e)
decl-true (save x) (initial y) e = cc
decl-true (initial x) (implicit y) e = cc
decl-true (initial x) (integer y) e = cc
decl-true (initial x) (logical y) e = cc
decl-true (initial x) (dimension y) e = cc
decl-true (initial x) (parameter y) e = cc
decl-true (initial x) (common y) e = cc
decl-true (initial x) (equivalence y) e = cc
decl-true (initial x) (save y) e = cc
decl-true (initial x) (initial y) e = ap initial ((pointwise_decides {E = data_test} group_decides x y).0 e)

decl_self : (a : DeclTree) → decl_test a a ≡ true
decl_self (implicit x) = implicits_self x
decl_self (integer x) = (pointwise_decides {E = entity_test} entity_decides x x).1 refl
decl_self (logical x) = (pointwise_decides {E = entity_test} entity_decides x x).1 refl
decl_self (dimension x) = (pointwise_decides {E = entity_test} entity_decides x x).1 refl
decl_self (parameter x) = (pointwise_decides {E = setting_test} setting_decides x x).1 refl
decl_self (common x) = (pointwise_decides {E = common_test} common_decides x x).1 refl
decl_self (equivalence x) = (pointwise_decides {E = pointwise expr_test} exprs_decide x x).1 refl
decl_self (save x) = (pointwise_decides {E = item_test} item_decides x x).1 refl
decl_self (initial x) = (pointwise_decides {E = data_test} group_decides x x).1 refl

pub decl_decides : (a b : DeclTree) → (decl_test a b ≡ true → a ≡ b) × (a ≡ b → decl_test a b ≡ true)
decl_decides a b = (decl-true a b, λ e. subst (λ c. decl_test a c ≡ true) e (decl_self a))

form-true : (a b : FunctionForm) → nat_eq (form_number a) (form_number b) ≡ true → a ≡ b
form-true form.Plain form.Plain e = refl
form-true form.Plain form.Integer e = cc
form-true form.Plain form.Logical e = cc
form-true form.Integer form.Plain e = cc
form-true form.Integer form.Integer e = refl
form-true form.Integer form.Logical e = cc
form-true form.Logical form.Plain e = cc
form-true form.Logical form.Integer e = cc
form-true form.Logical form.Logical e = refl

function-true : (a b : Option FunctionForm) → function_test a b ≡ true → a ≡ b
function-true None None e = refl
function-true None (Some g) e = cc
function-true (Some f) None e = cc
function-true (Some f) (Some g) e = ap Some (form-true f g e)

function_self : (a : Option FunctionForm) → function_test a a ≡ true
function_self None = refl
function_self (Some f) = eq-eqb (form_number f) (form_number f) refl

-- ---- modules

numbers_decide : (a b : List ℕ) → (pointwise nat_eq a b ≡ true → a ≡ b) × (a ≡ b → pointwise nat_eq a b ≡ true)
numbers_decide a b = pointwise_decides {E = nat_eq} (λ m n. (eqb-true m n, eq-eqb m n)) a b

record SameHeading (a b : ModuleTree) : Type 0 where
  pub name : a.name ≡ b.name
  pub main : a.main ≡ b.main
  pub titled : a.titled ≡ b.titled
  pub dummies : a.dummies ≡ b.dummies
  pub function : a.function ≡ b.function

heading-true : (a b : ModuleTree) → heading_test a b ≡ true → SameHeading a b
heading-true a b e =
    let h4 = and_parts (bytes_eq a.name b.name && same_bool a.main b.main && same_bool a.titled b.titled && pointwise bytes_eq a.dummies b.dummies) (function_test a.function b.function) e in
    let h3 = and_parts (bytes_eq a.name b.name && same_bool a.main b.main && same_bool a.titled b.titled) (pointwise bytes_eq a.dummies b.dummies) h4.0 in
    let h2 = and_parts (bytes_eq a.name b.name && same_bool a.main b.main) (same_bool a.titled b.titled) h3.0 in
    let h1 = and_parts (bytes_eq a.name b.name) (same_bool a.main b.main) h2.0 in
    record {
      name = (bytes_decides a.name b.name).0 h1.0;
      main = same_bool-true a.main b.main h1.1;
      titled = same_bool-true a.titled b.titled h2.1;
      dummies = (pointwise_decides {E = bytes_eq} bytes_decides a.dummies b.dummies).0 h3.1;
      function = function-true a.function b.function h4.1;
    }

heading_self : (a : ModuleTree) → heading_test a a ≡ true
heading_self a =
    and_from (bytes_eq a.name a.name && same_bool a.main a.main && same_bool a.titled a.titled && pointwise bytes_eq a.dummies a.dummies) (function_test a.function a.function)
    (and_from (bytes_eq a.name a.name && same_bool a.main a.main && same_bool a.titled a.titled) (pointwise bytes_eq a.dummies a.dummies)
    (and_from (bytes_eq a.name a.name && same_bool a.main a.main) (same_bool a.titled a.titled)
    (and_from (bytes_eq a.name a.name) (same_bool a.main a.main) ((bytes_decides a.name a.name).1 refl) (same_bool_self a.main))
    (same_bool_self a.titled))
    ((pointwise_decides {E = bytes_eq} bytes_decides a.dummies a.dummies).1 refl))
    (function_self a.function)

module-true : (a b : ModuleTree) → module_test a b ≡ true → a ≡ b
module-true a b e =
    let h4 = and_parts (heading_test a b && pointwise decl_test a.decls b.decls && stmts_test a.body b.body && pointwise nat_eq a.references b.references) (pointwise nat_eq a.whiles b.whiles) e in
    let h3 = and_parts (heading_test a b && pointwise decl_test a.decls b.decls && stmts_test a.body b.body) (pointwise nat_eq a.references b.references) h4.0 in
    let h2 = and_parts (heading_test a b && pointwise decl_test a.decls b.decls) (stmts_test a.body b.body) h3.0 in
    let h1 = and_parts (heading_test a b) (pointwise decl_test a.decls b.decls) h2.0 in
    let h = heading-true a b h1.0 in
    let d = (pointwise_decides {E = decl_test} decl_decides a.decls b.decls).0 h1.1 in
    let s = (stmts_decide a.body b.body).0 h2.1 in
    let r = (numbers_decide a.references b.references).0 h3.1 in
    let w = (numbers_decide a.whiles b.whiles).0 h4.1 in
    λ i. record { name = h.name i; main = h.main i; titled = h.titled i; dummies = h.dummies i; decls = d i; body = s i; function = h.function i; references = r i; whiles = w i }

module_self : (a : ModuleTree) → module_test a a ≡ true
module_self a =
    and_from (heading_test a a && pointwise decl_test a.decls a.decls && stmts_test a.body a.body && pointwise nat_eq a.references a.references) (pointwise nat_eq a.whiles a.whiles)
    (and_from (heading_test a a && pointwise decl_test a.decls a.decls && stmts_test a.body a.body) (pointwise nat_eq a.references a.references)
    (and_from (heading_test a a && pointwise decl_test a.decls a.decls) (stmts_test a.body a.body)
    (and_from (heading_test a a) (pointwise decl_test a.decls a.decls) (heading_self a) ((pointwise_decides {E = decl_test} decl_decides a.decls a.decls).1 refl))
    ((stmts_decide a.body a.body).1 refl))
    ((numbers_decide a.references a.references).1 refl))
    ((numbers_decide a.whiles a.whiles).1 refl)

pub module_decides : (a b : ModuleTree) → (module_test a b ≡ true → a ≡ b) × (a ≡ b → module_test a b ≡ true)
module_decides a b = (module-true a b, λ e. subst (λ c. module_test a c ≡ true) e (module_self a))
