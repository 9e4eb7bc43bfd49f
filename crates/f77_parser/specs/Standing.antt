-- The names that stand in a module, other than in type statements or as the name of a function whose value is assigned.
use Rattle.std.specs.Prelude.{ℕ, List, [], ◌∷◌, ◌++◌, Option, Some, None, if◌then◌else◌}
use Rattle.f77_ast.specs.declared.decl.SaveItem.{SaveItem}
use Rattle.f77_ast.specs.declared.decl.SaveItem.TheVariants as saved
use Rattle.f77_ast.specs.Trees.{ExprTree, ExprTrees, WhatTree}
use Rattle.f77_ast.specs.Trees as tree
use Rattle.f77_ast.specs.DeclTrees.{ExtentTree, EntityTree, SettingTree, CommonTree, DataTree, DeclTree}
use Rattle.f77_ast.specs.DeclTrees as decl
use Rattle.f77_ast.specs.Plain.{exprs_of}
use Rattle.f77_statements.specs.Phrases.{DoTree, PhraseTree, program, subroutine, function, specification, simple, logical_if, block_if, else_if, else_part, end_if, do_head, while_head, end_do, end_module}
use Rattle.f77_parser.specs.Functions.{is_external}
use Rattle.f77_parser.specs.Statements.{StatementTree}

-- ---- expressions

abbrev mutual
  pub expr_names : ExprTree → List (List ℕ)
  expr_names (tree.int n) = []
  expr_names (tree.log b) = []
  expr_names (tree.name x) = x ∷ []
  expr_names (tree.element x es) = x ∷ exprs_names es
  expr_names (tree.paren e) = expr_names e
  expr_names (tree.unary op e) = expr_names e
  expr_names (tree.binary op a b) = expr_names a ++ expr_names b
  expr_names (tree.chars c) = []

  pub exprs_names : ExprTrees → List (List ℕ)
  exprs_names tree.no_exprs = []
  exprs_names (tree.more_exprs e es) = expr_names e ++ exprs_names es

abbrev pub maybe_names : Option ExprTree → List (List ℕ)
maybe_names None = []
maybe_names (Some e) = expr_names e

-- ---- specification statements

abbrev pub extent_names : List ExtentTree → List (List ℕ)
extent_names [] = []
extent_names (b ∷ bs) = (maybe_names b.low ++ maybe_names b.high) ++ extent_names bs

-- of a type statement the names that it types are left out
abbrev pub typed_names : List EntityTree → List (List ℕ)
typed_names [] = []
typed_names (e ∷ es) = extent_names e.bounds ++ typed_names es

abbrev pub array_names : List EntityTree → List (List ℕ)
array_names [] = []
array_names (e ∷ es) = (e.name ∷ extent_names e.bounds) ++ array_names es

abbrev pub setting_names : List SettingTree → List (List ℕ)
setting_names [] = []
setting_names (s ∷ ss) = (s.name ∷ expr_names s.value) ++ setting_names ss

-- those of blocks too
abbrev pub block_names : List CommonTree → List (List ℕ)
block_names [] = []
block_names (c ∷ cs) = (c.block ∷ array_names c.members) ++ block_names cs

abbrev pub group_names : List (List ExprTree) → List (List ℕ)
group_names [] = []
group_names (g ∷ gs) = exprs_names (exprs_of g) ++ group_names gs

abbrev pub item_name : SaveItem → List ℕ
item_name (saved.Name x) = x
item_name (saved.Block x) = x

abbrev pub item_names : List SaveItem → List (List ℕ)
item_names [] = []
item_names (i ∷ is) = item_name i ∷ item_names is

abbrev pub target_names : List DataTree → List (List ℕ)
target_names [] = []
target_names (g ∷ gs) = exprs_names (exprs_of g.targets) ++ target_names gs

abbrev pub decl_names : DeclTree → List (List ℕ)
decl_names (decl.implicit ps) = []
decl_names (decl.integer es) = typed_names es
decl_names (decl.logical es) = typed_names es
decl_names (decl.dimension es) = array_names es
decl_names (decl.parameter ss) = setting_names ss
decl_names (decl.common cs) = block_names cs
decl_names (decl.equivalence gs) = group_names gs
decl_names (decl.save is) = item_names is
decl_names (decl.initial gs) = target_names gs

-- ---- executable statements, where these names have bounds

-- of what is assigned, the name of a function whose value it is is left out
abbrev pub value_names : List (List ℕ) → ExprTree → List (List ℕ)
value_names bounded (tree.int n) = []
value_names bounded (tree.log b) = []
value_names bounded (tree.name x) = x ∷ []
value_names bounded (tree.element x es) = if is_external bounded x then exprs_names es else x ∷ exprs_names es
value_names bounded (tree.paren e) = expr_names e
value_names bounded (tree.unary op e) = expr_names e
value_names bounded (tree.binary op a b) = expr_names a ++ expr_names b
value_names bounded (tree.chars c) = []

-- a statement that opens no block
abbrev pub what_names : List (List ℕ) → WhatTree → List (List ℕ)
what_names bounded (tree.assign v e) = expr_names v ++ value_names bounded e
what_names bounded (tree.block_if arms other) = []
what_names bounded (tree.logical_if e s) = []
what_names bounded (tree.do_loop l) = []
what_names bounded (tree.call x es) = x ∷ exprs_names es
what_names bounded (tree.goto l) = []
what_names bounded tree.continue = []
what_names bounded tree.return = []
what_names bounded (tree.stop text) = []
what_names bounded (tree.print es) = exprs_names es
what_names bounded (tree.read es) = exprs_names es

abbrev pub do_names : DoTree → List (List ℕ)
do_names d = d.index ∷ (expr_names d.first ++ (expr_names d.last ++ maybe_names d.step))

-- a heading counts only where it is first
abbrev pub phrase_names : List (List ℕ) → PhraseTree → List (List ℕ)
phrase_names bounded (program n) = []
phrase_names bounded (subroutine n ds) = []
phrase_names bounded (function form n ds) = []
phrase_names bounded (specification d) = decl_names d
phrase_names bounded (simple w) = what_names bounded w
phrase_names bounded (logical_if e w) = expr_names e ++ what_names bounded w
phrase_names bounded (block_if e) = expr_names e
phrase_names bounded (else_if e) = expr_names e
phrase_names bounded else_part = []
phrase_names bounded end_if = []
phrase_names bounded (do_head d) = do_names d
phrase_names bounded (while_head l e) = expr_names e
phrase_names bounded end_do = []
phrase_names bounded end_module = []

abbrev pub statement_names : List (List ℕ) → List StatementTree → List (List ℕ)
statement_names bounded [] = []
statement_names bounded (s ∷ ss) = phrase_names bounded s.phrase ++ statement_names bounded ss

-- ---- modules

-- the name and the dummy arguments of a module
abbrev pub heading_names : PhraseTree → List (List ℕ)
heading_names (program n) = n ∷ []
heading_names (subroutine n ds) = n ∷ ds
heading_names (function form n ds) = n ∷ ds
heading_names (specification d) = []
heading_names (simple w) = []
heading_names (logical_if e w) = []
heading_names (block_if e) = []
heading_names (else_if e) = []
heading_names else_part = []
heading_names end_if = []
heading_names (do_head d) = []
heading_names (while_head l e) = []
heading_names end_do = []
heading_names end_module = []

abbrev pub title_names : List StatementTree → List (List ℕ)
title_names [] = []
title_names (s ∷ ss) = heading_names s.phrase

-- the statements of a module
abbrev pub standing : List (List ℕ) → List StatementTree → List (List ℕ)
standing bounded ss = title_names ss ++ statement_names bounded ss
