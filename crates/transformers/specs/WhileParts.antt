-- The labelled block IF of a DO WHILE, as the code has it.
use Rattle.std.specs.Prelude.{◌≡◌, ℕ, false, List, [], ◌∷◌, None}
use Rattle.f77_ast.specs.declared.stmt.Stmt.{Stmt}
use Rattle.f77_ast.specs.declared.stmt.What.TheVariants.{If}
use Rattle.f77_ast.specs.declared.results.At.{At}
use Rattle.f77_ast.specs.Trees.{ArmTree}
use Rattle.f77_ast.specs.Trees as tree
use Rattle.f77_ast.specs.PlainStmt.{arm_tree}
use Rattle.call_translation.specs.transformer_algebra.declared.transformer.Transformer.{Transformer}
use Rattle.call_translation.specs.Scopes.{ScopeTree}
use Rattle.transformers.specs.declared.whiles.While.{While}
use Rattle.transformers.specs.Given.{Callees}
use Rattle.transformers.specs.Lists.{list_of}
use Rattle.transformers.specs.Whiles.{WhileTree}
use Rattle.transformers.specs.Statement.{if_does, each_transformer, at, at_list}

abbrev pub arm_while : ArmTree → WhileTree
arm_while (tree.arm test body) = record { test = test; body = body }

abbrev pub while_tree : While → WhileTree
while_tree w = arm_while (arm_tree w.arm.now)

-- it is this statement, so its arm is less deep
abbrev pub IsStatement : While → Stmt → Type 0
IsStatement w s = (s.id ≡ w.id) × (s.what ≡ If (w.arm.now ∷ []) None)

-- it is the only statement of this list
abbrev pub IsOnly : While → List Stmt → Type 0
IsOnly w ss = (s : Stmt) × (ss ≡ s ∷ []) × IsStatement w s

-- what it does, from the transformers of its statements
abbrev pub labelled_does : ScopeTree → WhileTree → List Transformer → Transformer
labelled_does m w ts = if_does m w.test (list_of false w.body ts)

-- at the labelled block IF with a number, and at its parts
abbrev pub at_while : ℕ → ArmTree → ScopeTree → Callees → List (At Transformer)
at_while n (tree.arm test body) m cs = at n (labelled_does m (record { test = test; body = body }) (each_transformer body m cs false)) ∷ at_list body m cs false
