-- Variables as analyses name them: their order, and lists of them in order.
use Rattle.std.specs.Prelude.{ℕ, Bool, List, [], ◌∷◌, ◌++◌, codes}
use Rattle.std.specs.declared.cmp.Ordering.{Ordering}
use Rattle.std.specs.declared.cmp.Ordering.TheVariants.{Less, Greater}
use Rattle.std.specs.Ordering.{nat_cmp, match_ordering, is_eq}
use Rattle.std.specs.Cmp.Lexicographic.{slice_cmp}
use Rattle.f77_ast.specs.declared.variable.Variable.{Variable}
use Rattle.f77_ast.specs.declared.variable.Variable.TheVariants.{Own, Block, Saved}

-- what is written of a block, `/B/`, and of a saved local of another module, `S:X`
abbrev pub variable_text : Variable → List ℕ
variable_text (Own n) = []
variable_text (Block b) = 47 ∷ (b ++ 47 ∷ [])
variable_text (Saved s x) = s ++ 58 ∷ x

-- byte by byte
abbrev pub text_cmp : List ℕ → List ℕ → Ordering
text_cmp x y = slice_cmp nat_cmp x y

-- own symbols by their numbers, then blocks and saved locals of other modules by what is written of them
abbrev pub variable_cmp : Variable → Variable → Ordering
variable_cmp (Own m) (Own n) = nat_cmp m n
variable_cmp (Own m) (Block c) = Less
variable_cmp (Own m) (Saved t y) = Less
variable_cmp (Block b) (Own n) = Greater
variable_cmp (Block b) (Block c) = text_cmp (variable_text (Block b)) (variable_text (Block c))
variable_cmp (Block b) (Saved t y) = text_cmp (variable_text (Block b)) (variable_text (Saved t y))
variable_cmp (Saved s x) (Own n) = Greater
variable_cmp (Saved s x) (Block c) = text_cmp (variable_text (Saved s x)) (variable_text (Block c))
variable_cmp (Saved s x) (Saved t y) = text_cmp (variable_text (Saved s x)) (variable_text (Saved t y))

-- their order does not tell them apart
abbrev pub same_variable : Variable → Variable → Bool
same_variable v w = is_eq (variable_cmp v w)

-- a variable and those that others make of a list, in order: before the first of the list that comes after it, or in place of its
-- equal
abbrev pub merged : Variable → (List Variable → List Variable) → List Variable → List Variable
merged v others [] = v ∷ others []
merged v others (w ∷ ws) = match_ordering (variable_cmp v w) (v ∷ others (w ∷ ws)) (v ∷ others ws) (w ∷ merged v others ws)

-- the variables of two lists in order, in one list in order, each once
abbrev pub union : List Variable → List Variable → List Variable
union [] ws = ws
union (v ∷ vs) ws = merged v (union vs) ws
