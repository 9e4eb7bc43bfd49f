-- The numbers of statements as a walk: the same numbers.
use Rattle.std.proofs.Common.{◌≡◌, ℕ, List, [], ◌∷◌, ◌++◌, refl, ap, ap₂}
use Rattle.f77_ast.specs.Trees.{StmtTree, ArmTrees, ElseTree, StmtTrees}
use Rattle.f77_ast.specs.Trees as tree
use Rattle.f77_ast.specs.Shapes.{IsLeaf, Walk, walk_stmt, walk_arms, walk_else, walk_list}
use Rattle.f77_ast.specs.StatementNumbers.{stmt_numbers, arms_numbers, else_numbers, list_numbers}
use Rattle.f77_ast.proofs.WalkLaws.{Induction, every_list}

abbrev numbers : Walk (List ℕ)
numbers = record {
  of_leaf = λ n label w. n ∷ [];
  of_inner = λ n label test ns. n ∷ ns;
  of_body = λ n label l ns. n ∷ ns;
  of_arms = λ n label ns ms. n ∷ (ns ++ ms);
  of_arm = λ test ns ms. ns ++ ms;
  of_no_arms = [];
  of_else = λ ns. ns;
  of_no_else = [];
  of_more = λ ns ms. ns ++ ms;
  of_end = [];
}

abbrev S : StmtTree → Type 0
S s = walk_stmt numbers s ≡ stmt_numbers s

abbrev A : ArmTrees → Type 0
A arms = walk_arms numbers arms ≡ arms_numbers arms

abbrev E : ElseTree → Type 0
E other = walk_else numbers other ≡ else_numbers other

abbrev L : StmtTrees → Type 0
L list = walk_list numbers list ≡ list_numbers list

leaf_same : (n : ℕ) (label : _) (w : _) → IsLeaf w → S (tree.stmt n label w)
leaf_same n label (tree.assign a b) h = refl
leaf_same n label (tree.block_if arms other) h = cc
leaf_same n label (tree.logical_if test s) h = cc
leaf_same n label (tree.do_loop l) h = cc
leaf_same n label (tree.call x es) h = refl
leaf_same n label (tree.goto l) h = refl
leaf_same n label tree.continue h = refl
leaf_same n label tree.return h = refl
leaf_same n label (tree.stop text) h = refl
leaf_same n label (tree.print es) h = refl
leaf_same n label (tree.read es) h = refl

steps : Induction S A E L
steps = record {
  leaf = leaf_same;
  inner = λ n label test s h. ap (λ ns. n ∷ ns) h;
  body = λ n label index first last step list h. ap (λ ns. n ∷ ns) h;
  arms = λ n label arms other h k. ap₂ (λ ns ms. n ∷ (ns ++ ms)) h k;
  no_arm = refl;
  more_arms = λ test list rest h k. ap₂ (λ ns ms. ns ++ ms) h k;
  no_else = refl;
  below_else = λ list h. h;
  no_statement = refl;
  more_statements = λ s rest h k. ap₂ (λ ns ms. ns ++ ms) h k;
}

walked_numbers : (list : StmtTrees) → walk_list numbers list ≡ list_numbers list
walked_numbers list = every_list S A E L steps list
