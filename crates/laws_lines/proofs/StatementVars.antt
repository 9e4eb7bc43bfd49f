-- The variables of what statements do: transformers over the tracked cells of the module.
use Rattle.std.proofs.Common.{◌≡◌, ⊎_elim, ℕ, Bool, true, false, ◌&&◌, List, [], ◌∷◌, ◌++◌, Option, Some, None, refl}
use Rattle.affine_systems.specs.declared.row.System.{System}
use Rattle.affine_systems.specs.Calls.{meet}
use Rattle.affine_systems.proofs.Basics.{if_cases}
use Rattle.f77_ast.specs.Trees.{ExprTree, ExprTrees, StmtTree, WhatTree, ArmTree, ArmTrees, ElseTree, LoopTree, StmtTrees}
use Rattle.f77_ast.specs.Trees as tree
use Rattle.f77_ast.specs.declared.results.At.{At}
use Rattle.affine_forms.specs.declared.affine.Affine.{Affine}
use Rattle.affine_forms.specs.Scalars.{is_cell}
use Rattle.affine_forms.specs.Forms.{affine_of}
use Rattle.affine_forms.specs.Conditions.{no_rows, condition_of}
use Rattle.preconditions.specs.transformer_algebra.declared.transformer.Transformer.{Transformer}
use Rattle.preconditions.specs.transformer_algebra.Cells.{has}
use Rattle.preconditions.specs.transformer_algebra.Transformers.{test, identity_transformer, nowhere, followed, iterate}
use Rattle.preconditions.specs.call_translation.Scopes.{ScopeTree}
use Rattle.preconditions.specs.call_translation.Actuals.{named_cell, one_cell}
use Rattle.preconditions.specs.transformers.Given.{Callees}
use Rattle.preconditions.specs.transformers.Jumps.{unstructured, is_end}
use Rattle.preconditions.specs.transformers.Lists.{followed_by, in_order, in_any_order, list_of}
use Rattle.preconditions.specs.transformers.Loops.{number_in, loop_parts}
use Rattle.preconditions.specs.transformers.Simple.{becomes, named_cells}
use Rattle.preconditions.specs.transformers.Whiles.{WhileTree, while_in, all_before_last, while_body, while_iteration, while_or}
use Rattle.preconditions.specs.transformers.Statement.{where_holds, if_does, choice, without_arm, without_arms, stmt_transformer, what_transformer, each_transformer, arm_transformers, arm_transformer, inner_transformers, inner_of_stmt, inner_of_what, inner_of_arms, inner_of_arm, else_transformer, body_transformer, list_transformer, at_stmt, at_parts, at_list, at_arms, at_arm, at_else, at_loop}
use Rattle.laws_lines.specs.Variables.{IsCellOf}
use Rattle.laws_lines.specs.Halves.{IsHalfOf}
use Rattle.laws_lines.proofs.SystemVars.{IsNeat, meet_neat}
use Rattle.laws_lines.proofs.FormVars.{FormOf, affine_over, condition_over, none_neat}
use Rattle.laws_lines.proofs.RuleVars.{IsDone, AreDone, none_has, test_done, unchanging_done, nowhere_done, forgotten_done, assign_done, followed_done, one_of_done, iterate_done, cells_ok}
use Rattle.laws_lines.proofs.LoopVars.{IsLoopOf, loop_done}
use Rattle.laws_lines.proofs.CallVars.{Allows, named_cell_ok, one_cell_ok, SummaryOf, call_done}
use Rattle.preconditions.proofs.TransformerAlgebra.HasLaws.{has_either}

-- each of some results at statements
abbrev pub AllAt : {T : Type 0} → (T → Type 0) → List (At T) → Type 0
AllAt P [] = Unit {0}
AllAt P (a ∷ as') = P a.value × AllAt P as'

pub all_at-append : {T : Type 0} (P : T → Type 0) (xs ys : List (At T)) → AllAt P xs → AllAt P ys → AllAt P (xs ++ ys)
all_at-append P [] ys h k = k
all_at-append P (x ∷ xs) ys h k = (h.0, all_at-append P xs ys h.1 k)

pub done-append : (ok : ℕ → Type 0) (ts us : List Transformer) → AreDone ok ts → AreDone ok us → AreDone ok (ts ++ us)
done-append ok [] us h k = k
done-append ok (t ∷ ts) us h k = (h.0, done-append ok ts us h.1 k)

-- ---- lists

followed_all : (ok : ℕ → Type 0) (a : Transformer) (ts : List Transformer) → IsDone ok a → AreDone ok ts → IsDone ok (followed_by a ts)
followed_all ok a [] d h = d
followed_all ok a (t ∷ ts) d h = followed_all ok (followed a t) ts (followed_done ok a t d h.0) h.1

order_done : (ok : ℕ → Type 0) (ts : List Transformer) → AreDone ok ts → IsDone ok (in_order ts)
order_done ok [] h = unchanging_done ok
order_done ok (t ∷ ts) h = followed_all ok t ts h.0 h.1

any_done : (ok : ℕ → Type 0) (ts : List Transformer) → AreDone ok ts → IsDone ok (in_any_order ts)
any_done ok ts h = record { cells = cells_ok ok ts h; system = none_neat (IsHalfOf ok (in_any_order ts).cells) }

pub list_done : (ok : ℕ → Type 0) (whole : Bool) (body : StmtTrees) (ts : List Transformer) → AreDone ok ts → IsDone ok (list_of whole body ts)
list_done ok whole body ts h = if_cases (IsDone ok) (unstructured whole body) (in_any_order ts) (in_order ts) (λ e. any_done ok ts h) (λ e. order_done ok ts h)

before_last_done : (ok : ℕ → Type 0) (ts : List Transformer) → AreDone ok ts → AreDone ok (all_before_last ts)
before_last_done ok [] h = tt
before_last_done ok (t ∷ []) h = tt
before_last_done ok (t ∷ u ∷ ts) h = (h.0, before_last_done ok (u ∷ ts) h.1)

-- ---- statements

-- a module's flags give such cells too
pub record Scope (ok : ℕ → Type 0) (m : ScopeTree) : Type 0 where
  pub allows : Allows ok m
  pub flags : (c : ℕ) → is_cell m.tracked c ≡ true → ok c

module _ (ok : ℕ → Type 0) (m : ScopeTree) (a : Scope ok m) where
  form : (e : ExprTree) → FormOf (IsCellOf ok) (affine_of m.scalars e)
  form e = affine_over (IsCellOf ok) m.scalars a.allows.names e

  pub yes_neat : (e : ExprTree) → IsNeat (IsCellOf ok) (condition_of m.scalars e).yes
  yes_neat e = (condition_over (IsCellOf ok) m.scalars a.allows.names e).0

  pub no_neat : (e : ExprTree) → IsNeat (IsCellOf ok) (condition_of m.scalars e).no
  no_neat e = (condition_over (IsCellOf ok) m.scalars a.allows.names e).1

  becomes_of : (o : Option ℕ) (f : Option Affine) → ((c : ℕ) → o ≡ Some c → ok c) → FormOf (IsCellOf ok) f → IsDone ok (becomes o f)
  becomes_of None f g h = unchanging_done ok
  becomes_of (Some c) f g h = assign_done ok c f (g c refl) h

  read_ok : (es : ExprTrees) (c : ℕ) → has (named_cells m.scalars es) c ≡ true → ok c
  read_ok tree.no_exprs c h = none_has ok c h
  read_ok (tree.more_exprs e es) c h =
      ⊎_elim (λ i. one_cell_ok ok (named_cell m.scalars e) (λ d k. named_cell_ok ok m a.allows e d k) c i) (λ i. read_ok es c i)
      (has_either (one_cell (named_cell m.scalars e)) (named_cells m.scalars es) c h)

  where_done : (s : System) (t : Transformer) → IsNeat (IsCellOf ok) s → IsDone ok t → IsDone ok (where_holds s t)
  where_done s t h d = followed_done ok (test s) t (test_done ok s h) d

  if_done : (e : ExprTree) (t : Transformer) → IsDone ok t → IsDone ok (if_does m e t)
  if_done e t d =
      let yes = meet no_rows (condition_of m.scalars e).yes in
      let no = meet no_rows (condition_of m.scalars e).no in
      one_of_done ok (where_holds yes t ∷ where_holds no identity_transformer ∷ []) (
        where_done yes t (meet_neat (IsCellOf ok) no_rows (condition_of m.scalars e).yes (none_neat (IsCellOf ok)) (yes_neat e)) d,
        (where_done no identity_transformer (meet_neat (IsCellOf ok) no_rows (condition_of m.scalars e).no (none_neat (IsCellOf ok)) (no_neat e)) (unchanging_done ok), tt),
      )

  -- an iteration of a DO WHILE, from what its statements and its GO TO do
  pub while_iteration_done : (w : WhileTree) (ts : List Transformer) → AreDone ok ts → IsDone ok (while_iteration m w ts)
  while_iteration_done w ts h =
      followed_done ok (test (condition_of m.scalars w.test).yes) (while_body w.body ts) (test_done ok (condition_of m.scalars w.test).yes (yes_neat w.test))
      (if_cases (IsDone ok) (unstructured false w.body) (in_any_order ts) (in_order (all_before_last ts)) (λ e. any_done ok ts h) (λ e. order_done ok (all_before_last ts) (before_last_done ok ts h)))

  while_done : (o : Option WhileTree) (ts : List Transformer) (t : Transformer) → AreDone ok ts → IsDone ok t → IsDone ok (while_or o m ts t)
  while_done None ts t h d = d
  while_done (Some w) ts t h d =
      followed_done ok (iterate (while_iteration m w ts)) (test (condition_of m.scalars w.test).no) (iterate_done ok (while_iteration m w ts) (while_iteration_done w ts h))
      (test_done ok (condition_of m.scalars w.test).no (no_neat w.test))

  choice_done : (ts : List Transformer) (before : System) (t : Transformer) → AreDone ok ts → IsNeat (IsCellOf ok) before → IsDone ok t → IsDone ok (choice ts before t)
  choice_done ts before t h b d = one_of_done ok (ts ++ where_holds before t ∷ []) (done-append ok ts (where_holds before t ∷ []) h (where_done before t b d, tt))

  arm_neat : (x : ArmTree) (before : System) → IsNeat (IsCellOf ok) before → IsNeat (IsCellOf ok) (without_arm x m before)
  arm_neat (tree.arm e body) before b = meet_neat (IsCellOf ok) before (condition_of m.scalars e).no b (no_neat e)

  arms_neat : (xs : ArmTrees) (before : System) → IsNeat (IsCellOf ok) before → IsNeat (IsCellOf ok) (without_arms xs m before)
  arms_neat tree.no_arms before b = b
  arms_neat (tree.more_arms x rest) before b = arms_neat rest (without_arm x m before) (arm_neat x before b)

  pub parts_of_loop : (l : LoopTree) (t : Transformer) → IsDone ok t → IsLoopOf ok (loop_parts m l t)
  parts_of_loop (tree.loop index first last step body) t d = record { index = λ e. a.flags (number_in m index) e; first = form first; last = form last; body = d }

  module _ (cs : Callees) (fit : (x : List ℕ) → SummaryOf (cs x)) where
    mutual
      pub stmt_done : (s : StmtTree) (last : Bool) → IsDone ok (stmt_transformer s m cs last)
      stmt_done (tree.stmt n label w) last = what_done w last

      pub what_done : (w : WhatTree) (last : Bool) → IsDone ok (what_transformer w m cs last)
      what_done (tree.assign x e) last = becomes_of (named_cell m.scalars x) (affine_of m.scalars e) (λ c k. named_cell_ok ok m a.allows x c k) (form e)
      what_done (tree.block_if arms other) last =
          choice_done (arm_transformers arms m cs no_rows) (without_arms arms m no_rows) (else_transformer other m cs) (arms_done arms no_rows (none_neat (IsCellOf ok)))
          (arms_neat arms no_rows (none_neat (IsCellOf ok))) (else_done other)
      what_done (tree.logical_if e s) last = if_done e (stmt_transformer s m cs false) (stmt_done s false)
      what_done (tree.do_loop l) last = loop_done ok (loop_parts m l (body_transformer l m cs)) (parts_of_loop l (body_transformer l m cs) (body_done l))
      what_done (tree.call x es) last = call_done ok m a.allows (cs x) es (fit x)
      what_done (tree.goto l) last = nowhere_done ok
      what_done tree.continue last = unchanging_done ok
      what_done tree.return last = if_cases (IsDone ok) last identity_transformer nowhere (λ e. unchanging_done ok) (λ e. nowhere_done ok)
      what_done (tree.stop text) last = nowhere_done ok
      what_done (tree.print es) last = unchanging_done ok
      what_done (tree.read es) last = forgotten_done ok (named_cells m.scalars es) (read_ok es)

      pub each_done : (ss : StmtTrees) (whole : Bool) → AreDone ok (each_transformer ss m cs whole)
      each_done tree.no_stmts whole = tt
      each_done (tree.more_stmts s rest) whole = (stmt_done s (whole && is_end rest), each_done rest whole)

      arms_done : (xs : ArmTrees) (before : System) → IsNeat (IsCellOf ok) before → AreDone ok (arm_transformers xs m cs before)
      arms_done tree.no_arms before b = tt
      arms_done (tree.more_arms x rest) before b = (arm_done x before b, arms_done rest (without_arm x m before) (arm_neat x before b))

      arm_done : (x : ArmTree) (before : System) → IsNeat (IsCellOf ok) before → IsDone ok (arm_transformer x m cs before)
      arm_done (tree.arm e body) before b =
          let ts = inner_transformers body m cs in
          let t = list_of false body (each_transformer body m cs false) in
          where_done (meet before (condition_of m.scalars e).yes) (while_or (while_in body) m ts t) (meet_neat (IsCellOf ok) before (condition_of m.scalars e).yes b (yes_neat e))
          (while_done (while_in body) ts t (inner_done body) (list_done ok false body (each_transformer body m cs false) (each_done body false)))

      inner_done : (ss : StmtTrees) → AreDone ok (inner_transformers ss m cs)
      inner_done tree.no_stmts = tt
      inner_done (tree.more_stmts s rest) = inner_stmt s

      inner_stmt : (s : StmtTree) → AreDone ok (inner_of_stmt s m cs)
      inner_stmt (tree.stmt n label w) = inner_what w

      inner_what : (w : WhatTree) → AreDone ok (inner_of_what w m cs)
      inner_what (tree.assign x e) = tt
      inner_what (tree.block_if arms other) = inner_arms arms
      inner_what (tree.logical_if e s) = tt
      inner_what (tree.do_loop l) = tt
      inner_what (tree.call x es) = tt
      inner_what (tree.goto l) = tt
      inner_what tree.continue = tt
      inner_what tree.return = tt
      inner_what (tree.stop text) = tt
      inner_what (tree.print es) = tt
      inner_what (tree.read es) = tt

      inner_arms : (xs : ArmTrees) → AreDone ok (inner_of_arms xs m cs)
      inner_arms tree.no_arms = tt
      inner_arms (tree.more_arms x rest) = inner_arm x

      inner_arm : (x : ArmTree) → AreDone ok (inner_of_arm x m cs)
      inner_arm (tree.arm e body) = each_done body false

      else_done : (x : ElseTree) → IsDone ok (else_transformer x m cs)
      else_done tree.no_else = unchanging_done ok
      else_done (tree.otherwise body) = list_done ok false body (each_transformer body m cs false) (each_done body false)

      body_done : (l : LoopTree) → IsDone ok (body_transformer l m cs)
      body_done (tree.loop index first last step body) = list_done ok false body (each_transformer body m cs false) (each_done body false)

    pub body_list_done : (body : StmtTrees) (whole : Bool) → IsDone ok (list_transformer body m cs whole)
    body_list_done body whole = list_done ok whole body (each_transformer body m cs whole) (each_done body whole)

    mutual
      at_stmt_done : (s : StmtTree) (last : Bool) → AllAt (IsDone ok) (at_stmt s m cs last)
      at_stmt_done (tree.stmt n label w) last = (what_done w last, at_parts_done w)

      at_parts_done : (w : WhatTree) → AllAt (IsDone ok) (at_parts w m cs)
      at_parts_done (tree.assign x e) = tt
      at_parts_done (tree.block_if arms other) = all_at-append (IsDone ok) (at_arms arms m cs) (at_else other m cs) (at_arms_done arms) (at_else_done other)
      at_parts_done (tree.logical_if e s) = at_stmt_done s false
      at_parts_done (tree.do_loop l) = at_loop_done l
      at_parts_done (tree.call x es) = tt
      at_parts_done (tree.goto l) = tt
      at_parts_done tree.continue = tt
      at_parts_done tree.return = tt
      at_parts_done (tree.stop text) = tt
      at_parts_done (tree.print es) = tt
      at_parts_done (tree.read es) = tt

      pub at_list_done : (ss : StmtTrees) (whole : Bool) → AllAt (IsDone ok) (at_list ss m cs whole)
      at_list_done tree.no_stmts whole = tt
      at_list_done (tree.more_stmts s rest) whole =
          all_at-append (IsDone ok) (at_stmt s m cs (whole && is_end rest)) (at_list rest m cs whole) (at_stmt_done s (whole && is_end rest)) (at_list_done rest whole)

      at_arms_done : (xs : ArmTrees) → AllAt (IsDone ok) (at_arms xs m cs)
      at_arms_done tree.no_arms = tt
      at_arms_done (tree.more_arms x rest) = all_at-append (IsDone ok) (at_arm x m cs) (at_arms rest m cs) (at_arm_done x) (at_arms_done rest)

      at_arm_done : (x : ArmTree) → AllAt (IsDone ok) (at_arm x m cs)
      at_arm_done (tree.arm test body) = at_list_done body false

      at_else_done : (x : ElseTree) → AllAt (IsDone ok) (at_else x m cs)
      at_else_done tree.no_else = tt
      at_else_done (tree.otherwise body) = at_list_done body false

      at_loop_done : (l : LoopTree) → AllAt (IsDone ok) (at_loop l m cs)
      at_loop_done (tree.loop index first last step body) = at_list_done body false
