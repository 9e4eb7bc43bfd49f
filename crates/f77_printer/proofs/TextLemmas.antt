-- Appending the parts of a text.
use Rattle.std.proofs.Common.{◌≡◌, ℕ, zero, suc, ◌<◌, ◌≤◌, ◌-◌, ◌+◌, List, [], ◌∷◌, ◌++◌, length, map, drop, get_or, add-one, sym, ◌∙◌, replicate, Bool, true, false, if◌then◌else◌, refl, ap, arith, append_assoc, append-nil}
use Rattle.std.specs.Prelude.{codes}
use Rattle.f77_ast.specs.declared.expr.Expr.{Expr}
use Rattle.f77_ast.specs.declared.decl.Extent.{Extent}
use Rattle.f77_ast.specs.declared.decl.Entity.{Entity}
use Rattle.f77_ast.specs.declared.decl.Setting.{Setting}
use Rattle.f77_ast.specs.declared.decl.CommonPart.{CommonPart}
use Rattle.f77_ast.specs.declared.decl.DataValue.{DataValue}
use Rattle.f77_ast.specs.declared.decl.DataGroup.{DataGroup}
use Rattle.f77_ast.specs.declared.decl.SaveItem.{SaveItem}
use Rattle.f77_ast.specs.declared.stmt.Arm.{Arm, out-Arm}
use Rattle.f77_ast.specs.Plain.{expr_tree, expr_trees}
use Rattle.f77_ast.specs.PlainStmt.{arm_trees}
use Rattle.f77_ast.specs.PlainDecl.{extent_tree, entity_tree, setting_tree, common_tree, data_value_tree, data_tree}
use Rattle.f77_ast.proofs.PlainlyStmt.{what_cases, arm_tree-out}
use Rattle.f77_printer.specs.ExprText.{exprs_text, expr_text}
use Rattle.f77_printer.specs.DeclText.{others_by, joined_by, bounds_text, extent_text, block_text, entity_text, setting_text, group_text, data_value_text, common_text, commons_text, other_commons_text, data_text, data_group_text, other_groups_text, save_text, save_item_text}
use Rattle.f77_printer.specs.StatementText.{actuals_text, first_test_text}
use Rattle.fx_lists.proofs.Lists.{at_place as next_part}

pub ruleset char_steps = (append_assoc, append-nil)

pub fill-next : (n : ℕ) → n < 6 → replicate {A = ℕ} (6 - n) 32 ≡ 32 ∷ replicate (6 - (n + 1)) 32
fill-next n h = let e : 6 - n ≡ suc (6 - (n + 1)) = omega arith in ap (λ k. replicate {A = ℕ} k 32) e

pub fill-done : (n : ℕ) → 6 ≤ n → replicate {A = ℕ} (6 - n) 32 ≡ []
fill-done n h = let e : 6 - n ≡ 0 = omega arith in ap (λ k. replicate {A = ℕ} k 32) e

pub ruleset fill_steps = (append_assoc, append-nil, fill-next, fill-done)

pub actuals-some : (es : List Expr) → (es ≡ [] → ⊥) → actuals_text (expr_trees es) ≡ 40 ∷ (exprs_text (expr_trees es) ++ 41 ∷ [])
actuals-some [] h = absurd (h refl)
actuals-some (e ∷ es) h = append_assoc (40 ∷ []) (exprs_text (expr_trees (e ∷ es))) (41 ∷ [])

pub ruleset actual_steps = (actuals-some, append_assoc, append-nil)

pub first-none : (arms : List Arm) → length arms < 1 → first_test_text (arm_trees arms) ≡ []
first-none [] h = refl
first-none (a ∷ arms) h = absurd (omega arith)

first-cons : (a : Arm) (arms : List Arm) → first_test_text (arm_trees (a ∷ arms)) ≡ expr_text (expr_tree (out-Arm a).test)
first-cons a arms = rw (arm_tree-out a)

pub first-some : (arms : List Arm) (a : Arm) → 0 < length arms → a ≡ get_or arms 0 a → first_test_text (arm_trees arms) ≡ expr_text (expr_tree (out-Arm a).test)
first-some [] a h e = absurd (omega arith)
first-some (b ∷ arms) a h e = ap (λ (x : Arm). first_test_text (arm_trees (x ∷ arms))) (sym e) ∙ first-cons a arms

pub ruleset what_steps = (what_cases, append_assoc, append-nil)

-- ---- parts of specification statements

others_by-map : {A B : Type 0} (f : A → B) (text : B → List ℕ) (xs : List A) → others_by text (map f xs) ≡ others_by (λ x. text (f x)) xs
others_by-map f text [] = refl
others_by-map f text (x ∷ xs) = ap (λ t. (codes "," ++ text (f x)) ++ t) (others_by-map f text xs)

pub joined_by-map : {A B : Type 0} (f : A → B) (text : B → List ℕ) (xs : List A) → joined_by text (map f xs) ≡ joined_by (λ x. text (f x)) xs
joined_by-map f text [] = refl
joined_by-map f text (x ∷ xs) = ap (λ t. text (f x) ++ t) (others_by-map f text xs)

pub others_by-drop : {A : Type 0} (text : A → List ℕ) (xs : List A) (i : ℕ) (x : A) → i < length xs → x ≡ get_or xs i x
    → others_by text (drop i xs) ≡ (codes "," ++ text x) ++ others_by text (drop (i + 1) xs)
others_by-drop text xs i x h e = ap (others_by text) (next_part xs i x h e)

pub joined_by-drop : {A : Type 0} (text : A → List ℕ) (xs : List A) (i : ℕ) (x : A) → i < length xs → x ≡ get_or xs i x
    → joined_by text (drop i xs) ≡ text x ++ others_by text (drop (i + 1) xs)
joined_by-drop text xs i x h e = ap (joined_by text) (next_part xs i x h e)

pub ruleset joined_steps = (others_by-drop, joined_by-drop, append_assoc, append-nil)

pub bounds-some : (xs : List Extent) → (xs ≡ [] → ⊥) → bounds_text (map extent_tree xs) ≡ 40 ∷ (joined_by (λ x. extent_text (extent_tree x)) xs ++ 41 ∷ [])
bounds-some [] h = absurd (h refl)
bounds-some (x ∷ xs) h = append_assoc (40 ∷ []) _ (41 ∷ []) ∙ ap (λ t. 40 ∷ (t ++ 41 ∷ [])) (joined_by-map extent_tree extent_text (x ∷ xs))

pub ruleset bound_steps = (bounds-some, append_assoc, append-nil)

pub block_text-some : (b : List ℕ) (is_first : Bool) → (b ≡ [] → ⊥) → block_text is_first b ≡ 47 ∷ (b ++ codes "/ ")
block_text-some [] is_first h = absurd (h refl)
block_text-some (c ∷ cs) is_first h = refl

pub block_text-none : (b : List ℕ) (is_first : Bool) → b ≡ [] → block_text is_first b ≡ (if is_first then [] else codes "// ")
block_text-none b is_first h = ap (block_text is_first) h

pub ruleset block_steps = (block_text-some, block_text-none, append_assoc, append-nil)

pub entities-joined : (es : List Entity) → joined_by entity_text (map entity_tree es) ≡ joined_by (λ e. entity_text (entity_tree e)) es
entities-joined es = joined_by-map entity_tree entity_text es

pub settings-joined : (ss : List Setting) → joined_by setting_text (map setting_tree ss) ≡ joined_by (λ s. setting_text (setting_tree s)) ss
settings-joined ss = joined_by-map setting_tree setting_text ss

pub groups-joined : (gs : List (List Expr)) → joined_by group_text (map (map expr_tree) gs) ≡ joined_by (λ es. group_text (map expr_tree es)) gs
groups-joined gs = joined_by-map (map expr_tree) group_text gs

pub exprs-joined : (es : List Expr) → joined_by expr_text (map expr_tree es) ≡ joined_by (λ e. expr_text (expr_tree e)) es
exprs-joined es = joined_by-map expr_tree expr_text es

pub values-joined : (vs : List DataValue) → joined_by data_value_text (map data_value_tree vs) ≡ joined_by (λ v. data_value_text (data_value_tree v)) vs
values-joined vs = joined_by-map data_value_tree data_value_text vs

pub ruleset entity_steps = (entities-joined, append_assoc, append-nil)

pub ruleset group_steps = (exprs-joined, append_assoc, append-nil)

pub ruleset data_steps = (exprs-joined, values-joined, append_assoc, append-nil)

pub commons_text-drop : (cs : List CommonPart) (i : ℕ) (c : CommonPart) → i < length cs → c ≡ get_or cs i c
    → commons_text (map common_tree (drop i cs)) ≡ common_text true (common_tree c) ++ other_commons_text (map common_tree (drop (i + 1) cs))
commons_text-drop cs i c h e = ap (λ xs. commons_text (map common_tree xs)) (next_part cs i c h e)

pub other_commons_text-drop : (cs : List CommonPart) (i : ℕ) (c : CommonPart) → i < length cs → c ≡ get_or cs i c
    → other_commons_text (map common_tree (drop i cs)) ≡ (codes " " ++ common_text false (common_tree c)) ++ other_commons_text (map common_tree (drop (i + 1) cs))
other_commons_text-drop cs i c h e = ap (λ xs. other_commons_text (map common_tree xs)) (next_part cs i c h e)

pub ruleset common_steps = (commons_text-drop, other_commons_text-drop, append_assoc, append-nil)

pub data_text-drop : (gs : List DataGroup) (i : ℕ) (g : DataGroup) → i < length gs → g ≡ get_or gs i g
    → data_text (map data_tree (drop i gs)) ≡ data_group_text (data_tree g) ++ other_groups_text (map data_tree (drop (i + 1) gs))
data_text-drop gs i g h e = ap (λ xs. data_text (map data_tree xs)) (next_part gs i g h e)

pub other_groups_text-drop : (gs : List DataGroup) (i : ℕ) (g : DataGroup) → i < length gs → g ≡ get_or gs i g
    → other_groups_text (map data_tree (drop i gs)) ≡ (codes " " ++ data_group_text (data_tree g)) ++ other_groups_text (map data_tree (drop (i + 1) gs))
other_groups_text-drop gs i g h e = ap (λ xs. other_groups_text (map data_tree xs)) (next_part gs i g h e)

pub ruleset data_groups_steps = (data_text-drop, other_groups_text-drop, append_assoc, append-nil)

pub save_text-some : (is : List SaveItem) → (is ≡ [] → ⊥) → save_text is ≡ codes "SAVE" ++ (codes " " ++ joined_by save_item_text is)
save_text-some [] h = absurd (h refl)
save_text-some (i ∷ is) h = refl

pub ruleset save_steps = (save_text-some, append_assoc, append-nil)

pub ruleset setting_steps = (settings-joined, append_assoc, append-nil)

pub ruleset decl_steps = (entities-joined, append_assoc, append-nil)
