-- Transformers of statements and of modules have systems that calls take, whatever those of callees are.
use Rattle.std.proofs.Common.{ℕ, Bool, true, false, ◌&&◌, List, [], ◌∷◌, ◌++◌, Option, Some, None}
use Rattle.affine_systems.specs.declared.row.System.{System}
use Rattle.affine_systems.specs.Given.{Fits}
use Rattle.affine_systems.specs.Calls.{meet}
use Rattle.affine_systems.proofs.Basics.{if_cases}
use Rattle.hull_projection.proofs.ProjectLaws.{project_fits}
use Rattle.f77_ast.specs.Trees.{StmtTree, WhatTree, ArmTree, ArmTrees, ElseTree, LoopTree, StmtTrees}
use Rattle.f77_ast.specs.Trees as tree
use Rattle.f77_ast.specs.declared.results.At.{At}
use Rattle.affine_forms.specs.declared.affine.Affine.{Affine}
use Rattle.affine_forms.specs.Forms.{affine_of}
use Rattle.affine_forms.specs.Conditions.{no_rows, condition_of}
use Rattle.preconditions.specs.transformer_algebra.declared.transformer.Transformer.{Transformer}
use Rattle.preconditions.specs.transformer_algebra.Transformers.{test, identity_transformer, nowhere, followed}
use Rattle.preconditions.specs.transformer_algebra.Loops.{iteration}
use Rattle.preconditions.specs.call_translation.Scopes.{ScopeTree}
use Rattle.preconditions.specs.call_translation.Actuals.{named_cell}
use Rattle.preconditions.specs.transformers.Given.{Callees}
use Rattle.preconditions.specs.transformers.Jumps.{unstructured, is_end}
use Rattle.preconditions.specs.transformers.Lists.{followed_by, in_order, in_any_order, list_of}
use Rattle.preconditions.specs.transformers.Loops.{loop_parts}
use Rattle.preconditions.specs.transformers.Simple.{becomes}
use Rattle.preconditions.specs.transformers.Whiles.{while_in, while_or}
use Rattle.preconditions.specs.transformers.Statement.{where_holds, without_arm, without_arms, stmt_transformer, what_transformer, each_transformer, arm_transformers, inner_transformers, else_transformer, body_transformer, list_transformer, at_stmt, at_parts, at_list, at_arms, at_arm, at_else, at_loop}
use Rattle.preconditions.specs.transformers.Modules.{hidden_vars, summary_of}
use Rattle.base_values.specs.Naming.{Each}
use Rattle.laws_stored.proofs.RulesFit.{none_fit, infeasible_fit, exit_fits, followed_fits, AreFit, one_of_fits, loop_fits, called_fits}
use Rattle.laws_stored.proofs.Access.{OwnFits as AllFit}
use Rattle.laws_stored.proofs.Lists.{each-append}

-- ---- lists

followed_all : (a : Transformer) (ts : List Transformer) → Fits a.system → Fits (followed_by a ts).system
followed_all a [] h = h
followed_all a (t ∷ ts) h = followed_all (followed a t) ts (followed_fits a t)

order_fits : (ts : List Transformer) → AreFit ts → Fits (in_order ts).system
order_fits [] h = none_fit
order_fits (t ∷ ts) h = followed_all t ts h.0

pub list_fits : (whole : Bool) (body : StmtTrees) (ts : List Transformer) → AreFit ts → Fits (list_of whole body ts).system
list_fits whole body ts h = if_cases (λ (t : Transformer). Fits t.system) (unstructured whole body) (in_any_order ts) (in_order ts) (λ e. none_fit) (λ e. order_fits ts h)

-- ---- statements

fit-append : (ts us : List Transformer) → AreFit ts → AreFit us → AreFit (ts ++ us)
fit-append [] us h k = k
fit-append (t ∷ ts) us h k = (h.0, fit-append ts us h.1 k)

becomes_of : (o : Option ℕ) (f : Option Affine) → Fits (becomes o f).system
becomes_of None f = none_fit
becomes_of (Some c) f = exit_fits c f

module _ (m : ScopeTree) (cs : Callees) where
  arms_are : (xs : ArmTrees) (before : System) → AreFit (arm_transformers xs m cs before)
  arms_are tree.no_arms before = tt
  arms_are (tree.more_arms (tree.arm e body) rest) before =
      let t = while_or (while_in body) m (inner_transformers body m cs) (list_of false body (each_transformer body m cs false)) in
      (followed_fits (test (meet before (condition_of m.scalars e).yes)) t, arms_are rest (without_arm (tree.arm e body) m before))

  pub what_fits : (w : WhatTree) (last : Bool) → Fits (what_transformer w m cs last).system
  what_fits (tree.assign x e) last = becomes_of (named_cell m.scalars x) (affine_of m.scalars e)
  what_fits (tree.block_if arms other) last =
      let ts = arm_transformers arms m cs no_rows in
      let end = where_holds (without_arms arms m no_rows) (else_transformer other m cs) in
      one_of_fits (ts ++ end ∷ []) (fit-append ts (end ∷ []) (arms_are arms no_rows) (followed_fits (test (without_arms arms m no_rows)) (else_transformer other m cs), tt))
  what_fits (tree.logical_if e s) last =
      let yes = meet no_rows (condition_of m.scalars e).yes in
      let no = meet no_rows (condition_of m.scalars e).no in
      let t = stmt_transformer s m cs false in
      one_of_fits (where_holds yes t ∷ where_holds no identity_transformer ∷ []) (followed_fits (test yes) t, (followed_fits (test no) identity_transformer, tt))
  what_fits (tree.do_loop l) last = let parts = loop_parts m l (body_transformer l m cs) in loop_fits parts (iteration parts)
  what_fits (tree.call x es) last = called_fits m (cs x) es
  what_fits (tree.goto l) last = infeasible_fit
  what_fits tree.continue last = none_fit
  what_fits tree.return last = if_cases (λ (t : Transformer). Fits t.system) last identity_transformer nowhere (λ e. none_fit) (λ e. infeasible_fit)
  what_fits (tree.stop text) last = infeasible_fit
  what_fits (tree.print es) last = none_fit
  what_fits (tree.read es) last = none_fit

  each_fits : (ss : StmtTrees) (whole : Bool) → AreFit (each_transformer ss m cs whole)
  each_fits tree.no_stmts whole = tt
  each_fits (tree.more_stmts (tree.stmt n label w) rest) whole = (what_fits w (whole && is_end rest), each_fits rest whole)

  pub summary_fits : (body : StmtTrees) → Fits (summary_of m.symbols (list_transformer body m cs true)).system
  summary_fits body =
      let t = list_transformer body m cs true in
      project_fits t.system (hidden_vars m.symbols t.system) (list_fits true body (each_transformer body m cs true) (each_fits body true))

-- ---- at each statement

module _ (m : ScopeTree) (cs : Callees) where
  abbrev F : At Transformer → Type 0
  F a = Fits a.value.system

  mutual
    at_stmt_fits : (s : StmtTree) (last : Bool) → AllFit (at_stmt s m cs last)
    at_stmt_fits (tree.stmt n label w) last = (what_fits m cs w last, at_parts_fit w)

    at_parts_fit : (w : WhatTree) → AllFit (at_parts w m cs)
    at_parts_fit (tree.assign x e) = tt
    at_parts_fit (tree.block_if arms other) = each-append F (at_arms arms m cs) (at_else other m cs) (at_arms_fit arms) (at_else_fits other)
    at_parts_fit (tree.logical_if e s) = at_stmt_fits s false
    at_parts_fit (tree.do_loop l) = at_loop_fits l
    at_parts_fit (tree.call x es) = tt
    at_parts_fit (tree.goto l) = tt
    at_parts_fit tree.continue = tt
    at_parts_fit tree.return = tt
    at_parts_fit (tree.stop text) = tt
    at_parts_fit (tree.print es) = tt
    at_parts_fit (tree.read es) = tt

    pub at_list_fits : (ss : StmtTrees) (whole : Bool) → AllFit (at_list ss m cs whole)
    at_list_fits tree.no_stmts whole = tt
    at_list_fits (tree.more_stmts s rest) whole = each-append F (at_stmt s m cs (whole && is_end rest)) (at_list rest m cs whole) (at_stmt_fits s (whole && is_end rest)) (at_list_fits rest whole)

    at_arms_fit : (xs : ArmTrees) → AllFit (at_arms xs m cs)
    at_arms_fit tree.no_arms = tt
    at_arms_fit (tree.more_arms x rest) = each-append F (at_arm x m cs) (at_arms rest m cs) (at_arm_fits x) (at_arms_fit rest)

    at_arm_fits : (x : ArmTree) → AllFit (at_arm x m cs)
    at_arm_fits (tree.arm test body) = at_list_fits body false

    at_else_fits : (x : ElseTree) → AllFit (at_else x m cs)
    at_else_fits tree.no_else = tt
    at_else_fits (tree.otherwise body) = at_list_fits body false

    at_loop_fits : (l : LoopTree) → AllFit (at_loop l m cs)
    at_loop_fits (tree.loop index first last step body) = at_list_fits body false
