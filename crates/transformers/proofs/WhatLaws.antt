-- What a form of a statement does, from what its parts do.
use Rattle.std.proofs.Common.{◌≡◌, Bool, false, List, [], ◌∷◌, ◌++◌, ap, sym, ◌∙◌}
use Rattle.affine_systems.specs.declared.row.System.{System}
use Rattle.affine_systems.specs.Calls.{meet}
use Rattle.f77_ast.specs.declared.stmt.Loop.{Loop, out-Loop}
use Rattle.f77_ast.specs.Trees.{ExprTree, StmtTree, ArmTree, ArmTrees, ElseTree, LoopTree, StmtTrees}
use Rattle.f77_ast.specs.Trees as tree
use Rattle.f77_ast.specs.PlainStmt.{stmt_trees, loop_tree}
use Rattle.f77_ast.proofs.PlainlyStmt.{loop_tree-out}
use Rattle.affine_forms.specs.declared.conditions.Condition.{Condition}
use Rattle.affine_forms.specs.Conditions.{no_rows, condition_of}
use Rattle.call_translation.specs.transformer_algebra.declared.transformer.Transformer.{Transformer}
use Rattle.call_translation.specs.transformer_algebra.declared.loop_parts.LoopParts.{LoopParts}
use Rattle.call_translation.specs.transformer_algebra.Transformers.{identity_transformer, one_of}
use Rattle.call_translation.specs.transformer_algebra.Loops.{iteration, loop_transformer}
use Rattle.call_translation.specs.Scopes.{ScopeTree}
use Rattle.transformers.specs.Given.{Callees}
use Rattle.transformers.specs.Loops.{loop_parts}
use Rattle.transformers.specs.Statement.{where_holds, if_does, choice, parts_do, without_arms, what_transformer, arm_transformers, else_transformer, body_transformer, list_transformer}

-- ---- an IF

pub if_does-made : (m : ScopeTree) (e : ExprTree) (t u done passed : Transformer) (k : Condition) (b y n : System) → k ≡ condition_of m.scalars e → b ≡ no_rows → y ≡ meet b k.yes → n ≡ meet b k.no → u ≡ identity_transformer → done ≡ where_holds y t → passed ≡ where_holds n u → one_of (done ∷ passed ∷ []) ≡ if_does m e t
if_does-made m e t u done passed k b y n ek eb ey en eu ed ep =
    let ys : y ≡ meet no_rows (condition_of m.scalars e).yes = ey ∙ ap (λ (z : System). meet z k.yes) eb ∙ ap (λ (z : Condition). meet no_rows z.yes) ek in
    let ns : n ≡ meet no_rows (condition_of m.scalars e).no = en ∙ ap (λ (z : System). meet z k.no) eb ∙ ap (λ (z : Condition). meet no_rows z.no) ek in
    let d : done ≡ where_holds (meet no_rows (condition_of m.scalars e).yes) t = ed ∙ ap (λ (z : System). where_holds z t) ys in
    let p : passed ≡ where_holds (meet no_rows (condition_of m.scalars e).no) identity_transformer = ep ∙ ap (λ (z : Transformer). where_holds n z) eu ∙ ap (λ (z : System). where_holds z identity_transformer) ns in
    ap (λ (z : Transformer). one_of (z ∷ passed ∷ [])) d ∙ ap (λ (z : Transformer). one_of (where_holds (meet no_rows (condition_of m.scalars e).yes) t ∷ z ∷ [])) p

pub choice-made : (ts all : List Transformer) (b : System) (t made : Transformer) → made ≡ where_holds b t → all ≡ ts ++ made ∷ [] → one_of all ≡ choice ts b t
choice-made ts all b t made e f = ap one_of f ∙ ap (λ (z : Transformer). one_of (ts ++ z ∷ [])) e

pub block_if-made : (arms : ArmTrees) (other : ElseTree) (m : ScopeTree) (cs : Callees) (last : Bool) (ts : List Transformer) (b : System) (t : Transformer) → ts ≡ arm_transformers arms m cs no_rows → b ≡ without_arms arms m no_rows → t ≡ else_transformer other m cs → choice ts b t ≡ what_transformer (tree.block_if arms other) m cs last
block_if-made arms other m cs last ts b t e f g =
    ap (λ (z : List Transformer). choice z b t) e ∙ ap (λ (z : System). choice (arm_transformers arms m cs no_rows) z t) f
    ∙ ap (λ (z : Transformer). choice (arm_transformers arms m cs no_rows) (without_arms arms m no_rows) z) g

-- ---- a DO

pub parts-made : (l : LoopParts) (once : Transformer) → once ≡ iteration l → loop_transformer l once ≡ parts_do l
parts-made l once e = ap (λ (z : Transformer). loop_transformer l z) e

pub body-made : (l : Loop) (m : ScopeTree) (cs : Callees) → list_transformer (stmt_trees (out-Loop l).body) m cs false ≡ body_transformer (loop_tree l) m cs
body-made l m cs = sym (ap (λ (y : LoopTree). body_transformer y m cs) (loop_tree-out l))

pub loop-made : (l : Loop) (m : ScopeTree) (cs : Callees) (t : Transformer) (parts : LoopParts) → t ≡ list_transformer (stmt_trees (out-Loop l).body) m cs false → parts ≡ loop_parts m (loop_tree l) t → parts_do parts ≡ parts_do (loop_parts m (loop_tree l) (body_transformer (loop_tree l) m cs))
loop-made l m cs t parts e f = ap parts_do (f ∙ ap (λ (z : Transformer). loop_parts m (loop_tree l) z) (e ∙ body-made l m cs))
