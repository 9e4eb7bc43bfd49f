-- The names that stand in an EQUIVALENCE of a module.
use Rattle.std.specs.Prelude.{ℕ, List, [], ◌∷◌, ◌++◌}
use Rattle.f77_ast.specs.Trees.{ExprTree}
use Rattle.f77_ast.specs.Trees as tree
use Rattle.f77_ast.specs.DeclTrees.{DeclTree, ModuleTree}
use Rattle.f77_ast.specs.DeclTrees as decl

-- a name, or an element of the array with this name
abbrev pub item_name : ExprTree → List (List ℕ)
item_name (tree.int n) = []
item_name (tree.log b) = []
item_name (tree.name x) = x ∷ []
item_name (tree.element x es) = x ∷ []
item_name (tree.paren e) = []
item_name (tree.unary o e) = []
item_name (tree.binary o a b) = []
item_name (tree.chars x) = []

abbrev pub item_names : List ExprTree → List (List ℕ)
item_names [] = []
item_names (e ∷ es) = item_name e ++ item_names es

abbrev pub group_names : List (List ExprTree) → List (List ℕ)
group_names [] = []
group_names (g ∷ gs) = item_names g ++ group_names gs

abbrev pub decl_names : DeclTree → List (List ℕ)
decl_names (decl.implicit parts) = []
decl_names (decl.integer es) = []
decl_names (decl.logical es) = []
decl_names (decl.dimension es) = []
decl_names (decl.parameter ss) = []
decl_names (decl.common cs) = []
decl_names (decl.equivalence gs) = group_names gs
decl_names (decl.save is) = []
decl_names (decl.initial gs) = []

abbrev pub decls_names : List DeclTree → List (List ℕ)
decls_names [] = []
decls_names (d ∷ ds) = decl_names d ++ decls_names ds

-- the names that stand in an EQUIVALENCE of a module
abbrev pub equivalenced_names : ModuleTree → List (List ℕ)
equivalenced_names m = decls_names m.decls
