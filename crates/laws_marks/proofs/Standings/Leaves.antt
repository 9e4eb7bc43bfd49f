-- Names that stand in no expression of some, as what holds of each name there.
use Rattle.std.proofs.Common.{◌≡◌, ℕ, List, Option, Some, None, false, bytes_eq}
use Rattle.std.proofs.lemmas.Bool.{or_parts}
use Rattle.f77_ast.specs.Trees.{ExprTree, ExprTrees}
use Rattle.f77_ast.specs.Trees as tree
use Rattle.loop_marker.specs.Names.{has_name, have_name, step_has_name}
use Rattle.laws_interleavings.specs.Plans.Touched.{AnyNumber, Leaves, AllLeaves, OptionLeaves}

abbrev pub Differs : List ℕ → List ℕ → Type 0
Differs x y = bytes_eq x y ≡ false

module _ (x : List ℕ) where
  mutual
    pub differs : (e : ExprTree) → has_name x e ≡ false → Leaves (Differs x) AnyNumber e
    differs (tree.int n) h = tt
    differs (tree.log b) h = tt
    differs (tree.name y) h = h
    differs (tree.element y es) h = (let z = or_parts (bytes_eq x y) (have_name x es) h in (z.0, all_differ es z.1))
    differs (tree.paren e) h = differs e h
    differs (tree.unary o e) h = differs e h
    differs (tree.binary o a b) h = (let z = or_parts (has_name x a) (has_name x b) h in (differs a z.0, differs b z.1))
    differs (tree.chars t) h = tt

    pub all_differ : (es : ExprTrees) → have_name x es ≡ false → AllLeaves (Differs x) AnyNumber es
    all_differ tree.no_exprs h = tt
    all_differ (tree.more_exprs e es) h = (let z = or_parts (has_name x e) (have_name x es) h in (differs e z.0, all_differ es z.1))

  pub step_differs : (o : Option ExprTree) → step_has_name x o ≡ false → OptionLeaves (Differs x) AnyNumber o
  step_differs None h = tt
  step_differs (Some e) h = differs e h

-- what follows from several claims on a name
module _ (I : Type 0) (Q : I → List ℕ → Type 0) (C : List ℕ → Type 0) (more : (y : List ℕ) → ((i : I) → Q i y) → C y) where
  mutual
    pub leaves_of : (e : ExprTree) → ((i : I) → Leaves (Q i) AnyNumber e) → Leaves C AnyNumber e
    leaves_of (tree.int n) h = tt
    leaves_of (tree.log b) h = tt
    leaves_of (tree.name y) h = more y h
    leaves_of (tree.element y es) h = (more y (λ i. (h i).0), all_leaves_of es (λ i. (h i).1))
    leaves_of (tree.paren e) h = leaves_of e h
    leaves_of (tree.unary o e) h = leaves_of e h
    leaves_of (tree.binary o a b) h = (leaves_of a (λ i. (h i).0), leaves_of b (λ i. (h i).1))
    leaves_of (tree.chars t) h = tt

    pub all_leaves_of : (es : ExprTrees) → ((i : I) → AllLeaves (Q i) AnyNumber es) → AllLeaves C AnyNumber es
    all_leaves_of tree.no_exprs h = tt
    all_leaves_of (tree.more_exprs e es) h = (leaves_of e (λ i. (h i).0), all_leaves_of es (λ i. (h i).1))

  pub option_leaves_of : (o : Option ExprTree) → ((i : I) → OptionLeaves (Q i) AnyNumber o) → OptionLeaves C AnyNumber o
  option_leaves_of None h = tt
  option_leaves_of (Some e) h = leaves_of e h
