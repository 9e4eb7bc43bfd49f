-- The cells that transformers list are tracked.
use Rattle.std.proofs.Common.{◌≡◌, ℕ, List, [], ◌∷◌, ◌++◌, ◌||◌, ◌&&◌, Option, Some, None, Bool, true, false, refl, sym, ap, ◌∙◌, subst, arith, nat_eq, true≢false, ⊎_elim}
use Rattle.std.specs.Prelude.{if◌then◌else◌}
use Rattle.affine_systems.specs.declared.row.System.{System}
use Rattle.affine_systems.specs.Calls.{meet}
use Rattle.f77_ast.specs.Trees.{ExprTree, ExprTrees, StmtTree, WhatTree, ArmTree, ArmTrees, ElseTree, LoopTree, StmtTrees}
use Rattle.f77_ast.specs.Trees as tree
use Rattle.f77_ast.specs.Places.{Names}
use Rattle.affine_forms.specs.declared.affine.Affine.{Affine}
use Rattle.affine_forms.specs.Scalars.{is_cell}
use Rattle.affine_forms.specs.Forms.{affine_of}
use Rattle.affine_forms.specs.Conditions.{no_rows, condition_of}
use Rattle.preconditions.specs.transformer_algebra.declared.transformer.Transformer.{Transformer}
use Rattle.preconditions.specs.transformer_algebra.declared.loop_parts.LoopParts.{LoopParts}
use Rattle.preconditions.specs.transformer_algebra.Cells.{has, joined_cells}
use Rattle.preconditions.specs.transformer_algebra.Transformers.{test, identity_transformer, followed, cells_from, all_cells, one_of}
use Rattle.preconditions.specs.transformer_algebra.Loops.{own_cells, iteration, loop_transformer}
use Rattle.preconditions.specs.transformer_algebra.Claims.{Scene, Tracks}
use Rattle.preconditions.proofs.TransformerAlgebra.CellLaws.{joined_in}
use Rattle.preconditions.specs.call_translation.Scopes.{ScopeTree}
use Rattle.preconditions.specs.call_translation.Actuals.{named_cell, one_cell}
use Rattle.preconditions.specs.call_translation.Summary.{call_transformer}
use Rattle.preconditions.specs.transformers.Simple.{becomes, named_cells}
use Rattle.preconditions.specs.transformers.Jumps.{is_end, unstructured}
use Rattle.preconditions.specs.transformers.Lists.{followed_by, in_order, in_any_order, list_of}
use Rattle.preconditions.specs.transformers.Loops.{loop_parts}
use Rattle.preconditions.specs.transformers.Whiles.{WhileTree, while_in, all_before_last, while_body, while_iteration, while_or}
use Rattle.preconditions.specs.transformers.Statement.{parts_do, where_holds, if_does, choice, without_arm, without_arms, stmt_transformer, what_transformer, each_transformer, arm_transformers, arm_transformer, inner_transformers, inner_of_stmt, inner_of_what, inner_of_arms, inner_of_arm, arm_list_transformer, else_transformer, body_transformer}
use Rattle.preconditions.specs.transformers.Given.{Callees}
use Rattle.laws_analyses.specs.Statements.Activation.{NamesFit}
use Rattle.fx_lists.proofs.Numbers.{same_is as nat_same}

module _ (e : Scene) where
  abbrev T : List ℕ → Type 0
  T cs = Tracks e cs

  none : T []
  none c h = absurd (true≢false (sym h))

  one : (d : ℕ) → e.tracked d ≡ true → T (d ∷ [])
  one d t c h = go (nat_eq d c) refl h
    where
      go : (b : Bool) → nat_eq d c ≡ b → (b || false) ≡ true → e.tracked c ≡ true
      go true q k = subst (λ y. e.tracked y ≡ true) (nat_same d c q) t
      go false q k = absurd (true≢false (sym k))

  in_rest : (a : ℕ) (cs : List ℕ) (x : ℕ) → has cs x ≡ true → has (a ∷ cs) x ≡ true
  in_rest a cs x r = go (nat_eq a x)
    where
      go : (b : Bool) → (b || has cs x) ≡ true
      go true = refl
      go false = r

  appended : (cs ds : List ℕ) → T cs → T ds → T (cs ++ ds)
  appended [] ds f g c h = g c h
  appended (a ∷ cs) ds f g c h = go (nat_eq a c) refl h (λ k. appended cs ds (λ x r. f x (in_rest a cs x r)) g c k)
    where
      go : (b : Bool) → nat_eq a c ≡ b → (b || has (cs ++ ds) c) ≡ true → (has (cs ++ ds) c ≡ true → e.tracked c ≡ true) → e.tracked c ≡ true
      go true q k ih = f c (ap (λ b. b || has cs c) q)
      go false q k ih = ih k

  joined : (cs ds : List ℕ) → T cs → T ds → T (joined_cells cs ds)
  joined cs ds f g c h = ⊎_elim (λ k. f c k) (λ k. g c k) (joined_in cs ds c h)

  -- all transformers of a list are such
  abbrev pub AllTrack : List Transformer → Type 0
  AllTrack [] = Unit {0}
  AllTrack (t ∷ ts) = T t.cells × AllTrack ts

  from_tracks : (cs : List ℕ) (ts : List Transformer) → T cs → AllTrack ts → T (cells_from cs ts)
  from_tracks cs [] f g = f
  from_tracks cs (t ∷ ts) f g = from_tracks (joined_cells cs t.cells) ts (joined cs t.cells f g.0) g.1

  pub all_track : (ts : List Transformer) → AllTrack ts → T (all_cells ts)
  all_track ts g = from_tracks [] ts none g

  one_of_tracks : (ts : List Transformer) → AllTrack ts → T (one_of ts).cells
  one_of_tracks [] g = none
  one_of_tracks (t ∷ ts) g = all_track (t ∷ ts) g

  followed_tracks : (t : Transformer) (ts : List Transformer) → T t.cells → AllTrack ts → T (followed_by t ts).cells
  followed_tracks t [] f g = f
  followed_tracks t (a ∷ ts) f g = followed_tracks (followed t a) ts (joined t.cells a.cells f g.0) g.1

  in_order_tracks : (ts : List Transformer) → AllTrack ts → T (in_order ts).cells
  in_order_tracks [] g = none
  in_order_tracks (t ∷ ts) g = followed_tracks t ts g.0 g.1

  pub list_of_tracks : (whole : Bool) (body : StmtTrees) (ts : List Transformer) → AllTrack ts → T (list_of whole body ts).cells
  list_of_tracks whole body ts g = go (unstructured whole body)
    where
      go : (b : Bool) → T (if b then in_any_order ts else in_order ts).cells
      go true = all_track ts g
      go false = in_order_tracks ts g

  own_tracks : (l : LoopParts) → e.tracked l.index ≡ l.tracked → T (own_cells l)
  own_tracks l q = go l.tracked refl
    where
      go : (b : Bool) → l.tracked ≡ b → T (if b then l.index ∷ [] else [])
      go true r = one l.index (q ∙ r)
      go false r = none

  -- the turn of a DO
  pub turn_tracks : (l : LoopParts) → e.tracked l.index ≡ l.tracked → T l.body.cells → T (iteration l).cells
  turn_tracks l q f = joined l.body.cells (own_cells l) f (own_tracks l q)

  test_tracks : (p : System) (t : Transformer) → T t.cells → T (followed (test p) t).cells
  test_tracks p t f = joined [] t.cells none f

  before_last_tracks : (ts : List Transformer) → AllTrack ts → AllTrack (all_before_last ts)
  before_last_tracks [] g = tt
  before_last_tracks (t ∷ []) g = tt
  before_last_tracks (t ∷ u ∷ ts) g = (g.0, before_last_tracks (u ∷ ts) g.1)

  -- one iteration of a DO WHILE, and all of it
  pub while_tracks : (m : ScopeTree) (w : WhileTree) (ts : List Transformer) → AllTrack ts → T (while_iteration m w ts).cells
  while_tracks m w ts g = test_tracks (condition_of m.scalars w.test).yes (while_body w.body ts) (go (unstructured false w.body))
    where
      go : (b : Bool) → T (if b then in_any_order ts else in_order (all_before_last ts)).cells
      go true = all_track ts g
      go false = in_order_tracks (all_before_last ts) (before_last_tracks ts g)

  while_or_tracks : (o : Option WhileTree) (m : ScopeTree) (ts : List Transformer) (t : Transformer) → AllTrack ts → T t.cells → T (while_or o m ts t).cells
  while_or_tracks None m ts t g f = f
  while_or_tracks (Some w) m ts t g f = joined (while_iteration m w ts).cells [] (while_tracks m w ts g) none

module _ (e : Scene) (w : Names) (m : ScopeTree) (nf : NamesFit w m) (is : (c : ℕ) → is_cell m.tracked c ≡ true → e.tracked c ≡ true) (back : (c : ℕ) → e.tracked c ≡ is_cell m.tracked c) (cs : Callees) (calls : (x : List ℕ) (es : ExprTrees) → Tracks e (call_transformer m (cs x) es).cells) where
  named_tracked : (a : ExprTree) (d : ℕ) → named_cell m.scalars a ≡ Some d → e.tracked d ≡ true
  named_tracked (tree.int n) d q = absurd (grind arith)
  named_tracked (tree.log b) d q = absurd (grind arith)
  named_tracked (tree.name x) d q = is d (nf.agrees.cells x d q).1
  named_tracked (tree.element x es) d q = absurd (grind arith)
  named_tracked (tree.paren f) d q = absurd (grind arith)
  named_tracked (tree.unary o f) d q = absurd (grind arith)
  named_tracked (tree.binary o f g) d q = absurd (grind arith)
  named_tracked (tree.chars x) d q = absurd (grind arith)

  becomes_tracks : (a : ExprTree) (f : Option Affine) → Tracks e (becomes (named_cell m.scalars a) f).cells
  becomes_tracks a f = go (named_cell m.scalars a) refl
    where
      go : (o : Option ℕ) → named_cell m.scalars a ≡ o → Tracks e (becomes o f).cells
      go None q = none e
      go (Some d) q = one e d (named_tracked a d q)

  one_cell_tracks : (a : ExprTree) → Tracks e (one_cell (named_cell m.scalars a))
  one_cell_tracks a = go (named_cell m.scalars a) refl
    where
      go : (o : Option ℕ) → named_cell m.scalars a ≡ o → Tracks e (one_cell o)
      go None q = none e
      go (Some d) q = one e d (named_tracked a d q)

  named_tracks : (es : ExprTrees) → Tracks e (named_cells m.scalars es)
  named_tracks tree.no_exprs = none e
  named_tracks (tree.more_exprs a es) = appended e (one_cell (named_cell m.scalars a)) (named_cells m.scalars es) (one_cell_tracks a) (named_tracks es)

  loop_tracks : (l : LoopTree) (t : Transformer) → Tracks e t.cells → Tracks e (parts_do (loop_parts m l t)).cells
  loop_tracks (tree.loop index first last step body) t f = let l = loop_parts m (tree.loop index first last step body) t in turn_tracks e l (back l.index) f

  last_tracks : (last : Bool) → Tracks e (what_transformer tree.return m cs last).cells
  last_tracks true = none e
  last_tracks false = none e

  mutual
    pub stmt_tracks : (s : StmtTree) (last : Bool) → Tracks e (stmt_transformer s m cs last).cells
    stmt_tracks (tree.stmt n label v) last = what_tracks v last

    pub what_tracks : (v : WhatTree) (last : Bool) → Tracks e (what_transformer v m cs last).cells
    what_tracks (tree.assign a b) last = becomes_tracks a (affine_of m.scalars b)
    what_tracks (tree.block_if arms other) last = one_of_tracks e (arm_transformers arms m cs no_rows ++ where_holds (without_arms arms m no_rows) (else_transformer other m cs) ∷ []) (arms_track arms (else_transformer other m cs) (else_tracks other) no_rows)
    what_tracks (tree.logical_if f s) last =
        one_of_tracks e (where_holds (meet no_rows (condition_of m.scalars f).yes) (stmt_transformer s m cs false) ∷ where_holds (meet no_rows (condition_of m.scalars f).no) identity_transformer ∷ []) (test_tracks e (meet no_rows (condition_of m.scalars f).yes) (stmt_transformer s m cs false) (stmt_tracks s false), (test_tracks e (meet no_rows (condition_of m.scalars f).no) identity_transformer (none e), tt))
    what_tracks (tree.do_loop l) last = loop_tracks l (body_transformer l m cs) (body_tracks l)
    what_tracks (tree.call x es) last = calls x es
    what_tracks (tree.goto l) last = none e
    what_tracks tree.continue last = none e
    what_tracks tree.return last = last_tracks last
    what_tracks (tree.stop text) last = none e
    what_tracks (tree.print es) last = none e
    what_tracks (tree.read es) last = joined e (named_cells m.scalars es) [] (named_tracks es) (none e)

    pub each_tracks : (ss : StmtTrees) (whole : Bool) → AllTrack e (each_transformer ss m cs whole)
    each_tracks tree.no_stmts whole = tt
    each_tracks (tree.more_stmts s rest) whole = (stmt_tracks s (whole && is_end rest), each_tracks rest whole)

    pub arms_track : (arms : ArmTrees) (t : Transformer) → Tracks e t.cells → (before : System) → AllTrack e (arm_transformers arms m cs before ++ where_holds (without_arms arms m before) t ∷ [])
    arms_track tree.no_arms t f before = (test_tracks e before t f, tt)
    arms_track (tree.more_arms a rest) t f before = (arm_tracks a before, arms_track rest t f (without_arm a m before))

    arm_tracks : (a : ArmTree) (before : System) → Tracks e (arm_transformer a m cs before).cells
    arm_tracks (tree.arm f body) before =
        test_tracks e (meet before (condition_of m.scalars f).yes) (arm_list_transformer body m cs)
        (while_or_tracks e (while_in body) m (inner_transformers body m cs) (list_of false body (each_transformer body m cs false)) (inner_track body)
        (list_of_tracks e false body (each_transformer body m cs false) (each_tracks body false)))

    -- those of the labelled block IF of a DO WHILE
    pub inner_track : (ss : StmtTrees) → AllTrack e (inner_transformers ss m cs)
    inner_track tree.no_stmts = tt
    inner_track (tree.more_stmts s rest) = inner_stmt s

    inner_stmt : (s : StmtTree) → AllTrack e (inner_of_stmt s m cs)
    inner_stmt (tree.stmt n label v) = inner_what v

    inner_what : (v : WhatTree) → AllTrack e (inner_of_what v m cs)
    inner_what (tree.assign a b) = tt
    inner_what (tree.block_if arms other) = inner_arms arms
    inner_what (tree.logical_if f s) = tt
    inner_what (tree.do_loop l) = tt
    inner_what (tree.call x es) = tt
    inner_what (tree.goto l) = tt
    inner_what tree.continue = tt
    inner_what tree.return = tt
    inner_what (tree.stop text) = tt
    inner_what (tree.print es) = tt
    inner_what (tree.read es) = tt

    inner_arms : (arms : ArmTrees) → AllTrack e (inner_of_arms arms m cs)
    inner_arms tree.no_arms = tt
    inner_arms (tree.more_arms a rest) = inner_arm a

    inner_arm : (a : ArmTree) → AllTrack e (inner_of_arm a m cs)
    inner_arm (tree.arm f body) = each_tracks body false

    pub else_tracks : (other : ElseTree) → Tracks e (else_transformer other m cs).cells
    else_tracks tree.no_else = none e
    else_tracks (tree.otherwise body) = list_of_tracks e false body (each_transformer body m cs false) (each_tracks body false)

    pub body_tracks : (l : LoopTree) → Tracks e (body_transformer l m cs).cells
    body_tracks (tree.loop index first last step body) = list_of_tracks e false body (each_transformer body m cs false) (each_tracks body false)
