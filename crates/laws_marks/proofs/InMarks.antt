-- What holds of names, stays where one more is seen and where more is said of one but that it is a PARAMETER, and stays where that is said of a name that a
-- PARAMETER statement sets, stays whatever the statements of a module say (ANSI X3.9-1978 §8.6).
use Rattle.std.proofs.Common.{◌≡◌, ◌⊎◌, inl, inr, ℕ, suc, List, [], ◌∷◌, Option, Some, None, refl}
use Rattle.f77_ast.specs.declared.decl.Scalar.{Scalar}
use Rattle.f77_ast.specs.declared.decl.Scalar.TheVariants.{Int, Log}
use Rattle.f77_ast.specs.declared.decl.SaveItem.{SaveItem}
use Rattle.f77_ast.specs.declared.decl.SaveItem.TheVariants as item
use Rattle.f77_ast.specs.declared.module.FunctionForm.{FunctionForm}
use Rattle.f77_ast.specs.declared.module.FunctionForm.TheVariants.{Plain, Integer, Logical}
use Rattle.f77_ast.specs.Trees.{ExprTree, ExprTrees, StmtTree, WhatTree, ArmTree, ArmTrees, ElseTree, LoopTree, StmtTrees}
use Rattle.f77_ast.specs.Trees as tree
use Rattle.f77_ast.specs.Hidden.{form_of_if}
use Rattle.f77_ast.specs.DeclTrees.{ExtentTree, EntityTree, SettingTree, CommonTree, DataTree, DeclTree}
use Rattle.f77_ast.specs.DeclTrees as decl
use Rattle.std.specs.Prelude.{map}
use Rattle.f77_names.specs.declared.functions.Function.{Function}
use Rattle.f77_names.specs.declared.lines.Sited.TheVariants.{Decl, Statement, ElseIf}
use Rattle.f77_names.specs.Lines.{LineTable, line_or}
use Rattle.f77_names.specs.Functions.{function_of}
use Rattle.f77_names.specs.Entries.{EntryTree, seen, changed, as_parameter}
use Rattle.f77_names.specs.Appearing.{unless_function, name_seen, expr_seen, exprs_seen, maybe_seen, head_of, head_seen, stmt_seen, what_seen, arm_seen, arms_seen, else_seen, loop_seen, stmts_seen}
use Rattle.f77_names.specs.Declaring.{Told, bound_of, form_told, typed, shaped, in_common, extent_seen, extents_seen, entity_seen, typed_entity, typed_entities, shaped_entities, members_told, blocks_told, setting_told, settings_told, mention_told, item_told, items_told, groups_told, targets_told, save_told, saves_told, decl_told, decls_told}
use Rattle.laws_programs.proofs.SymbolTables.KeptNames.{Said, with_said, Typed, Shaped, Shared, Parameter, Saved, Initial, Nothing}

-- anything but that it is a PARAMETER, or that it has bounds
abbrev pub IsMild : Said → Type 0
IsMild (Typed s) = Unit {0}
IsMild (Shaped line b bs) = ⊥
IsMild (Shared line) = Unit {0}
IsMild Parameter = ⊥
IsMild Saved = Unit {0}
IsMild Initial = Unit {0}
IsMild Nothing = Unit {0}

-- a PARAMETER statement sets a name
abbrev pub IsSet : List SettingTree → List ℕ → Type 0
IsSet [] x = ⊥
IsSet (s ∷ ss) x = (s.name ≡ x) ⊎ IsSet ss x

abbrev pub Sets : DeclTree → List ℕ → Type 0
Sets (decl.parameter ss) x = IsSet ss x
Sets (decl.implicit ps) x = ⊥
Sets (decl.integer es) x = ⊥
Sets (decl.logical es) x = ⊥
Sets (decl.dimension es) x = ⊥
Sets (decl.common cs) x = ⊥
Sets (decl.equivalence gs) x = ⊥
Sets (decl.save is) x = ⊥
Sets (decl.initial gs) x = ⊥

abbrev pub SomeSets : List DeclTree → List ℕ → Type 0
SomeSets [] x = ⊥
SomeSets (d ∷ ds) x = Sets d x ⊎ SomeSets ds x

-- an entity has these bounds
abbrev pub HasShape : List EntityTree → List ExtentTree → Type 0
HasShape [] bs = ⊥
HasShape (e ∷ es) bs = (e.bounds ≡ bs) ⊎ HasShape es bs

abbrev pub HasMember : List CommonTree → List ExtentTree → Type 0
HasMember [] bs = ⊥
HasMember (c ∷ cs) bs = HasShape c.members bs ⊎ HasMember cs bs

-- a statement gives a name these bounds
abbrev pub Shapes : DeclTree → List ExtentTree → Type 0
Shapes (decl.parameter ss) bs = ⊥
Shapes (decl.implicit ps) bs = ⊥
Shapes (decl.integer es) bs = HasShape es bs
Shapes (decl.logical es) bs = HasShape es bs
Shapes (decl.dimension es) bs = HasShape es bs
Shapes (decl.common cs) bs = HasMember cs bs
Shapes (decl.equivalence gs) bs = ⊥
Shapes (decl.save is) bs = ⊥
Shapes (decl.initial gs) bs = ⊥

abbrev pub SomeShapes : List DeclTree → List ExtentTree → Type 0
SomeShapes [] bs = ⊥
SomeShapes (d ∷ ds) bs = Shapes d bs ⊎ SomeShapes ds bs

module _ (P : List EntryTree → Type 0) (more : (x : List ℕ) (line : ℕ) (es : List EntryTree) → P es → P (seen x line es)) (said : (x : List ℕ) (w : Said) → IsMild w → (es : List EntryTree) → P es → P (changed x (with_said w) es)) (S : List ℕ → Type 0) (marked : (x : List ℕ) → S x → (es : List EntryTree) → P es → P (changed x as_parameter es))
    (B : List ExtentTree → Type 0) (bounded : (x : List ℕ) (line : ℕ) (b : ExtentTree) (bs : List ExtentTree) → B (b ∷ bs) → (es : List EntryTree) → P es → P (changed x (with_said (Shaped line (bound_of b) (map bound_of bs))) es)) (fs : List Function) where
  -- ---- names that appear

  unless_keeps : (f : Option Function) (x : List ℕ) (line : ℕ) (es : List EntryTree) → P es → P (unless_function f x line es)
  unless_keeps None x line es d = more x line es d
  unless_keeps (Some f) x line es d = d

  name_keeps : (x : List ℕ) (line : ℕ) (es : List EntryTree) → P es → P (name_seen fs x line es)
  name_keeps x line es d = unless_keeps (function_of fs x) x line es d

  mutual
    pub expr_keeps : (e : ExprTree) (line : ℕ) (es : List EntryTree) → P es → P (expr_seen fs e line es)
    expr_keeps (tree.int n) line es d = d
    expr_keeps (tree.log b) line es d = d
    expr_keeps (tree.name x) line es d = name_keeps x line es d
    expr_keeps (tree.element x rest) line es d = exprs_keep rest line (name_seen fs x line es) (name_keeps x line es d)
    expr_keeps (tree.paren e) line es d = expr_keeps e line es d
    expr_keeps (tree.unary o e) line es d = expr_keeps e line es d
    expr_keeps (tree.binary o a b) line es d = expr_keeps b line (expr_seen fs a line es) (expr_keeps a line es d)
    expr_keeps (tree.chars x) line es d = d

    pub exprs_keep : (xs : ExprTrees) (line : ℕ) (es : List EntryTree) → P es → P (exprs_seen fs xs line es)
    exprs_keep tree.no_exprs line es d = d
    exprs_keep (tree.more_exprs a rest) line es d = exprs_keep rest line (expr_seen fs a line es) (expr_keeps a line es d)

  maybe_keeps : (e : Option ExprTree) (line : ℕ) (es : List EntryTree) → P es → P (maybe_seen fs e line es)
  maybe_keeps None line es d = d
  maybe_keeps (Some e) line es d = expr_keeps e line es d

  head_keeps : (o : Option (ExprTree × List ℕ)) (line : ℕ) (es : List EntryTree) → P es → P (head_seen fs o line es)
  head_keeps None line es d = d
  head_keeps (Some p) line es d = name_keeps p.1 line (expr_seen fs p.0 line es) (expr_keeps p.0 line es d)

  module _ (at : LineTable) where
    mutual
      stmt_keeps : (s : StmtTree) (line : ℕ) (es : List EntryTree) → P es → P (stmt_seen fs at s line es)
      stmt_keeps (tree.stmt id label w) line es d = what_keeps w id (line_or at (Statement id) line) es d

      what_keeps : (w : WhatTree) (id line : ℕ) (es : List EntryTree) → P es → P (what_seen fs at w id line es)
      what_keeps (tree.assign a b) id line es d = expr_keeps b line (expr_seen fs a line es) (expr_keeps a line es d)
      what_keeps (tree.block_if arms other) id line es d =
          let ds = head_seen fs (head_of (form_of_if arms other)) line es in
          else_keeps other line (arms_seen fs at arms id 0 line ds) (arms_keep arms id 0 line ds (head_keeps (head_of (form_of_if arms other)) line es d))
      what_keeps (tree.logical_if e s) id line es d = stmt_keeps s line (expr_seen fs e line es) (expr_keeps e line es d)
      what_keeps (tree.do_loop l) id line es d = loop_keeps l line es d
      what_keeps (tree.call x rest) id line es d = exprs_keep rest line es d
      what_keeps (tree.goto l) id line es d = d
      what_keeps tree.continue id line es d = d
      what_keeps tree.return id line es d = d
      what_keeps (tree.stop text) id line es d = d
      what_keeps (tree.print rest) id line es d = exprs_keep rest line es d
      what_keeps (tree.read rest) id line es d = exprs_keep rest line es d

      arm_keeps : (a : ArmTree) (line : ℕ) (es : List EntryTree) → P es → P (arm_seen fs at a line es)
      arm_keeps (tree.arm test body) line es d = stmts_keep body line (expr_seen fs test line es) (expr_keeps test line es d)

      arms_keep : (as' : ArmTrees) (id n line : ℕ) (es : List EntryTree) → P es → P (arms_seen fs at as' id n line es)
      arms_keep tree.no_arms id n line es d = d
      arms_keep (tree.more_arms a rest) id n line es d =
          arms_keep rest id (suc n) line (arm_seen fs at a (line_or at (ElseIf id n) line) es) (arm_keeps a (line_or at (ElseIf id n) line) es d)

      else_keeps : (x : ElseTree) (line : ℕ) (es : List EntryTree) → P es → P (else_seen fs at x line es)
      else_keeps tree.no_else line es d = d
      else_keeps (tree.otherwise ss) line es d = stmts_keep ss line es d

      loop_keeps : (l : LoopTree) (line : ℕ) (es : List EntryTree) → P es → P (loop_seen fs at l line es)
      loop_keeps (tree.loop index first last step body) line es d =
          let a = name_seen fs index line es in
          let b = expr_seen fs first line a in
          let c = expr_seen fs last line b in
          stmts_keep body line (maybe_seen fs step line c) (maybe_keeps step line c (expr_keeps last line b (expr_keeps first line a (name_keeps index line es d))))

      pub stmts_keep : (ss : StmtTrees) (line : ℕ) (es : List EntryTree) → P es → P (stmts_seen fs at ss line es)
      stmts_keep tree.no_stmts line es d = d
      stmts_keep (tree.more_stmts s ss) line es d = stmts_keep ss line (stmt_seen fs at s line es) (stmt_keeps s line es d)

  -- ---- specification statements

  -- the type of a function
  pub form_keeps : (o : Option FunctionForm) (x : List ℕ) (line : ℕ) (t : Told) → P t.entries → P (form_told o x line t).entries
  form_keeps None x line t d = d
  form_keeps (Some Plain) x line t d = d
  form_keeps (Some Integer) x line t d = said x (Typed Int) tt t.entries d
  form_keeps (Some Logical) x line t d = said x (Typed Log) tt t.entries d

  extents_keep : (xs : List ExtentTree) (line : ℕ) (es : List EntryTree) → P es → P (extents_seen fs xs line es)
  extents_keep [] line es d = d
  extents_keep (x ∷ xs) line es d = extents_keep xs line (extent_seen fs x line es) (maybe_keeps x.high line (maybe_seen fs x.low line es) (maybe_keeps x.low line es d))

  entity_keeps : (e : EntityTree) (line : ℕ) (t : Told) → P t.entries → P (entity_seen fs e line t).entries
  entity_keeps e line t d = extents_keep e.bounds line (seen e.name line t.entries) (more e.name line t.entries d)

  shaped_keeps : (x : List ℕ) (bs : List ExtentTree) → B bs → (line : ℕ) (t : Told) → P t.entries → P (shaped x bs line t).entries
  shaped_keeps x [] q line t d = d
  shaped_keeps x (b ∷ bs) q line t d = bounded x line b bs q t.entries d

  typed_keeps : (s : Scalar) (e : EntityTree) → B e.bounds → (line : ℕ) (t : Told) → P t.entries → P (typed_entity fs s e line t).entries
  typed_keeps s e q line t d =
      let u = entity_seen fs e line t in
      shaped_keeps e.name e.bounds q line (typed e.name s line u) (said e.name (Typed s) tt u.entries (entity_keeps e line t d))

  typed_all_keep : (s : Scalar) (xs : List EntityTree) → ((bs : List ExtentTree) → HasShape xs bs → B bs) → (line : ℕ) (t : Told) → P t.entries → P (typed_entities fs s xs line t).entries
  typed_all_keep s [] q line t d = d
  typed_all_keep s (e ∷ xs) q line t d = typed_all_keep s xs (λ bs i. q bs (inr i)) line (typed_entity fs s e line t) (typed_keeps s e (q e.bounds (inl refl)) line t d)

  shaped_all_keep : (xs : List EntityTree) → ((bs : List ExtentTree) → HasShape xs bs → B bs) → (line : ℕ) (t : Told) → P t.entries → P (shaped_entities fs xs line t).entries
  shaped_all_keep [] q line t d = d
  shaped_all_keep (e ∷ xs) q line t d =
      shaped_all_keep xs (λ bs i. q bs (inr i)) line (shaped e.name e.bounds line (entity_seen fs e line t)) (shaped_keeps e.name e.bounds (q e.bounds (inl refl)) line (entity_seen fs e line t) (entity_keeps e line t d))

  members_keep : (xs : List EntityTree) → ((bs : List ExtentTree) → HasShape xs bs → B bs) → (line : ℕ) (t : Told) → P t.entries → P (members_told fs xs line t).entries
  members_keep [] q line t d = d
  members_keep (e ∷ xs) q line t d =
      let u = shaped e.name e.bounds line (entity_seen fs e line t) in
      members_keep xs (λ bs i. q bs (inr i)) line (in_common e.name line u)
      (said e.name (Shared line) tt u.entries (shaped_keeps e.name e.bounds (q e.bounds (inl refl)) line (entity_seen fs e line t) (entity_keeps e line t d)))

  blocks_keep : (cs : List CommonTree) → ((bs : List ExtentTree) → HasMember cs bs → B bs) → (line : ℕ) (t : Told) → P t.entries → P (blocks_told fs cs line t).entries
  blocks_keep [] q line t d = d
  blocks_keep (c ∷ cs) q line t d = blocks_keep cs (λ bs i. q bs (inr i)) line (members_told fs c.members line t) (members_keep c.members (λ bs i. q bs (inl i)) line t d)

  settings_keep : (ss : List SettingTree) → ((x : List ℕ) → IsSet ss x → S x) → (line : ℕ) (t : Told) → P t.entries → P (settings_told fs ss line t).entries
  settings_keep [] f line t d = d
  settings_keep (s ∷ ss) f line t d =
      settings_keep ss (λ x i. f x (inr i)) line (setting_told fs s line t) (expr_keeps s.value line (changed s.name as_parameter (seen s.name line t.entries)) (marked s.name (f s.name (inl refl)) (seen s.name line t.entries) (more s.name line t.entries d)))

  mention_keeps : (w : Said) → IsMild w → (x : List ℕ) (line : ℕ) (t : Told) → P t.entries → P (mention_told (with_said w) x line t).entries
  mention_keeps w q x line t d = said x w q (seen x line t.entries) (more x line t.entries d)

  item_keeps : (w : Said) → IsMild w → (e : ExprTree) (line : ℕ) (t : Told) → P t.entries → P (item_told fs (with_said w) e line t).entries
  item_keeps w q (tree.name x) line t d = mention_keeps w q x line t d
  item_keeps w q (tree.element x rest) line t d = exprs_keep rest line (mention_told (with_said w) x line t).entries (mention_keeps w q x line t d)
  item_keeps w q (tree.int n) line t d = d
  item_keeps w q (tree.log b) line t d = d
  item_keeps w q (tree.paren e) line t d = d
  item_keeps w q (tree.unary o e) line t d = d
  item_keeps w q (tree.binary o a b) line t d = d
  item_keeps w q (tree.chars x) line t d = d

  items_keep : (w : Said) → IsMild w → (is : List ExprTree) (line : ℕ) (t : Told) → P t.entries → P (items_told fs (with_said w) is line t).entries
  items_keep w q [] line t d = d
  items_keep w q (i ∷ is) line t d = items_keep w q is line (item_told fs (with_said w) i line t) (item_keeps w q i line t d)

  groups_keep : (gs : List (List ExprTree)) (line : ℕ) (t : Told) → P t.entries → P (groups_told fs gs line t).entries
  groups_keep [] line t d = d
  groups_keep (g ∷ gs) line t d = groups_keep gs line (items_told fs (with_said Nothing) g line t) (items_keep Nothing tt g line t d)

  targets_keep : (gs : List DataTree) (line : ℕ) (t : Told) → P t.entries → P (targets_told fs gs line t).entries
  targets_keep [] line t d = d
  targets_keep (g ∷ gs) line t d = targets_keep gs line (items_told fs (with_said Initial) g.targets line t) (items_keep Initial tt g.targets line t d)

  save_keeps : (i : SaveItem) (line : ℕ) (t : Told) → P t.entries → P (save_told i line t).entries
  save_keeps (item.Name x) line t d = said x Saved tt (seen x line t.entries) (more x line t.entries d)
  save_keeps (item.Block b) line t d = d

  saves_keep : (is : List SaveItem) (line : ℕ) (t : Told) → P t.entries → P (saves_told is line t).entries
  saves_keep [] line t d = d
  saves_keep (i ∷ is) line t d = saves_keep is line (save_told i line t) (save_keeps i line t d)

  decl_keeps : (d : DeclTree) → ((x : List ℕ) → Sets d x → S x) → ((bs : List ExtentTree) → Shapes d bs → B bs) → (line : ℕ) (t : Told) → P t.entries → P (decl_told fs d line t).entries
  decl_keeps (decl.implicit ps) f q line t d = d
  decl_keeps (decl.integer es) f q line t d = typed_all_keep Int es q line t d
  decl_keeps (decl.logical es) f q line t d = typed_all_keep Log es q line t d
  decl_keeps (decl.dimension es) f q line t d = shaped_all_keep es q line t d
  decl_keeps (decl.parameter ss) f q line t d = settings_keep ss f line t d
  decl_keeps (decl.common cs) f q line t d = blocks_keep cs q line t d
  decl_keeps (decl.equivalence gs) f q line t d = groups_keep gs line t d
  decl_keeps (decl.save is) f q line t d = saves_keep is line t d
  decl_keeps (decl.initial gs) f q line t d = targets_keep gs line t d

  pub decls_keep : (at : LineTable) (xs : List DeclTree) → ((x : List ℕ) → SomeSets xs x → S x) → ((bs : List ExtentTree) → SomeShapes xs bs → B bs) → (n : ℕ) (t : Told) → P t.entries → P (decls_told fs at xs n t).entries
  decls_keep at [] f q n t d = d
  decls_keep at (x ∷ xs) f q n t d =
      decls_keep at xs (λ y i. f y (inr i)) (λ bs i. q bs (inr i)) (suc n) (decl_told fs x (line_or at (Decl n) 0) t) (decl_keeps x (λ y i. f y (inl i)) (λ bs i. q bs (inl i)) (line_or at (Decl n) 0) t d)
