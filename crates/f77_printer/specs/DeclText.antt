-- The text of a specification statement, from column 7 on (ANSI X3.9-1978 §8, §9).
use Rattle.std.specs.Prelude.{ℕ, List, [], ◌∷◌, ◌++◌, Option, Some, None, Bool, true, false, nat_eq, codes, decimal, if◌then◌else◌}
use Rattle.f77_ast.specs.declared.decl.Scalar.{Scalar}
use Rattle.f77_ast.specs.declared.decl.Scalar.TheVariants.{Int, Log}
use Rattle.f77_ast.specs.declared.decl.Letters.{Letters}
use Rattle.f77_ast.specs.declared.decl.ImplicitPart.{ImplicitPart}
use Rattle.f77_ast.specs.declared.decl.SaveItem.{SaveItem}
use Rattle.f77_ast.specs.declared.decl.SaveItem.TheVariants.{Name, Block}
use Rattle.f77_ast.specs.Trees.{ExprTree}
use Rattle.f77_ast.specs.DeclTrees.{ExtentTree, EntityTree, SettingTree, CommonTree, DataValueTree, DataTree, DeclTree, implicit, integer, logical, dimension, parameter, common, equivalence, save, initial}
use Rattle.f77_printer.specs.ExprText.{expr_text}

-- each behind a comma
abbrev pub others_by : {A : Type 0} → (A → List ℕ) → List A → List ℕ
others_by text [] = []
others_by text (x ∷ xs) = codes "," ++ text x ++ others_by text xs

-- joined by commas
abbrev pub joined_by : {A : Type 0} → (A → List ℕ) → List A → List ℕ
joined_by text [] = []
joined_by text (x ∷ xs) = text x ++ others_by text xs

-- `*` where there is no upper bound
abbrev pub high_text : Option ExprTree → List ℕ
high_text None = codes "*"
high_text (Some e) = expr_text e

abbrev pub low_text : Option ExprTree → List ℕ
low_text None = []
low_text (Some e) = expr_text e ++ codes ":"

abbrev pub extent_text : ExtentTree → List ℕ
extent_text x = low_text x.low ++ high_text x.high

abbrev pub bounds_text : List ExtentTree → List ℕ
bounds_text [] = []
bounds_text (x ∷ xs) = codes "(" ++ joined_by extent_text (x ∷ xs) ++ codes ")"

abbrev pub entity_text : EntityTree → List ℕ
entity_text e = e.name ++ bounds_text e.bounds

-- one letter alone stands twice in the range
abbrev pub letters_text : Letters → List ℕ
letters_text l = if nat_eq l.first l.last then l.first ∷ [] else l.first ∷ 45 ∷ l.last ∷ []

abbrev pub scalar_text : Scalar → List ℕ
scalar_text Int = codes "INTEGER"
scalar_text Log = codes "LOGICAL"

abbrev pub part_text : ImplicitPart → List ℕ
part_text p = scalar_text p.scalar ++ codes "(" ++ joined_by letters_text p.ranges ++ codes ")"

abbrev pub implicit_text : Option (List ImplicitPart) → List ℕ
implicit_text None = codes "IMPLICIT NONE"
implicit_text (Some parts) = codes "IMPLICIT " ++ joined_by part_text parts

abbrev pub setting_text : SettingTree → List ℕ
setting_text s = s.name ++ codes "=" ++ expr_text s.value

abbrev pub settings_text : List SettingTree → List ℕ
settings_text ss = codes "(" ++ joined_by setting_text ss ++ codes ")"

-- a block between slashes; the blank one, where it stands first, without
abbrev pub block_text : Bool → List ℕ → List ℕ
block_text is_first [] = if is_first then [] else codes "// "
block_text is_first (c ∷ cs) = codes "/" ++ (c ∷ cs) ++ codes "/ "

abbrev pub common_text : Bool → CommonTree → List ℕ
common_text is_first c = block_text is_first c.block ++ joined_by entity_text c.members

abbrev pub other_commons_text : List CommonTree → List ℕ
other_commons_text [] = []
other_commons_text (c ∷ cs) = codes " " ++ common_text false c ++ other_commons_text cs

abbrev pub commons_text : List CommonTree → List ℕ
commons_text [] = []
commons_text (c ∷ cs) = common_text true c ++ other_commons_text cs

abbrev pub group_text : List ExprTree → List ℕ
group_text es = codes "(" ++ joined_by expr_text es ++ codes ")"

abbrev pub save_item_text : SaveItem → List ℕ
save_item_text (Name n) = n
save_item_text (Block b) = codes "/" ++ b ++ codes "/"

-- a SAVE alone has no items
abbrev pub save_text : List SaveItem → List ℕ
save_text [] = codes "SAVE"
save_text (i ∷ is) = codes "SAVE " ++ joined_by save_item_text (i ∷ is)

abbrev pub repeat_text : Option ℕ → List ℕ
repeat_text None = []
repeat_text (Some n) = decimal n ++ codes "*"

abbrev pub data_value_text : DataValueTree → List ℕ
data_value_text v = repeat_text v.repeat ++ expr_text v.value

abbrev pub data_group_text : DataTree → List ℕ
data_group_text g = joined_by expr_text g.targets ++ codes " /" ++ joined_by data_value_text g.values ++ codes "/"

abbrev pub other_groups_text : List DataTree → List ℕ
other_groups_text [] = []
other_groups_text (g ∷ gs) = codes " " ++ data_group_text g ++ other_groups_text gs

abbrev pub data_text : List DataTree → List ℕ
data_text [] = []
data_text (g ∷ gs) = data_group_text g ++ other_groups_text gs

abbrev pub decl_text : DeclTree → List ℕ
decl_text (implicit parts) = implicit_text parts
decl_text (integer es) = codes "INTEGER " ++ joined_by entity_text es
decl_text (logical es) = codes "LOGICAL " ++ joined_by entity_text es
decl_text (dimension es) = codes "DIMENSION " ++ joined_by entity_text es
decl_text (parameter ss) = codes "PARAMETER " ++ settings_text ss
decl_text (common cs) = codes "COMMON " ++ commons_text cs
decl_text (equivalence gs) = codes "EQUIVALENCE " ++ joined_by group_text gs
decl_text (save is) = save_text is
decl_text (initial gs) = codes "DATA " ++ data_text gs
