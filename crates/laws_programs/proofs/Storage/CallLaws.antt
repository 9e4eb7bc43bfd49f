-- CALLs of modules that link.
use Rattle.std.proofs.Common.{◌≡◌, ℕ, zero, suc, ◌-◌, Bool, true, false, List, [], ◌∷◌, ◌++◌, length, Option, Some, None, Ok, ◌⊎◌, inl, inr, refl, sym, ap, ◌∙◌, subst}
use Rattle.std.specs.Prelude.{slice_get, is_none}
use Rattle.std.proofs.lemmas.Bool.{and_from}
use Rattle.f77_ast.specs.Trees.{ExprTree, ExprTrees, StmtTree, WhatTree, ArmTree, ArmTrees, ElseTree, LoopTree, StmtTrees}
use Rattle.f77_ast.specs.Trees as tree
use Rattle.f77_ast.specs.DeclTrees.{ParsedTree}
use Rattle.f77_ast.specs.Symbols.{SymbolTree, number_from}
use Rattle.tracked_cells.specs.Equivalences.{equivalenced_names}
use Rattle.tracked_cells.specs.Standing.{is_int_scalar, is_plain}
use Rattle.tracked_cells.specs.Tracked.{is_alone}
use Rattle.call_graph.specs.declared.calls.Called.{Called}
use Rattle.call_graph.specs.declared.graph.Graph.{Graph}
use Rattle.call_graph.specs.Actuals.{actuals_of}
use Rattle.call_graph.specs.Calls.{with_list, with_stmt, with_what, with_arms, with_arm, with_else, with_loop, calls_of}
use Rattle.f77_meaning.specs.Laws.{FitsCall}
use Rattle.f77_meaning.proofs.LinkedLaws.{linked_calls_fit}
use Rattle.laws_programs.proofs.SymbolTables.DummyLaws.{dummies_come_first}
use Rattle.laws_programs.proofs.SymbolTables.EquivalenceLaws.{dummies_stand_alone}
use Rattle.laws_programs.specs.Storage.Programs.{IsLinked, IsModule, IsCell}
use Rattle.laws_programs.specs.Storage.Calls.{AreLaidOut, CallFits, EachCall, CallsOf, CallsIn, ArmCalls, OneArm, ElseCalls, LoopCalls, CallsFit, DummiesAreTracked}
use Rattle.laws_programs.specs.Storage.Below.{HasCall, CallsAreListed}
use Rattle.laws_programs.proofs.Storage.ActualLaws.{args_from}
use Rattle.f77_ast.proofs.StorageLaws.{from_number as numbered_place}

-- ---- what stands among the CALLs of a module

abbrev the_call : ℕ → List ℕ → ExprTrees → List SymbolTree → Called
the_call n x es ss = record { at = n; callee = x; actuals = actuals_of es ss }

-- a list that has what another has
abbrev Holds : List Called → Called → Type 0
Holds cs c = (i : ℕ) × (slice_get cs i ≡ Some c)

in_front : (cs ds : List Called) (c : Called) → Holds cs c → Holds (cs ++ ds) c
in_front [] ds c (i, e) = cc
in_front (b ∷ cs) ds c (zero, e) = (zero, e)
in_front (b ∷ cs) ds c (suc i, e) = let r = in_front cs ds c (i, e) in (suc r.0, r.1)

at_end : (cs : List Called) (c : Called) → Holds (cs ++ c ∷ []) c
at_end [] c = (zero, refl)
at_end (b ∷ cs) c = let r = at_end cs c in (suc r.0, r.1)

module _ (ss : List SymbolTree) where
  -- CALLs so far stay
  mutual
    list_keeps : (t : StmtTrees) (cs : List Called) (c : Called) → Holds cs c → Holds (with_list t ss cs) c
    list_keeps tree.no_stmts cs c h = h
    list_keeps (tree.more_stmts s rest) cs c h = list_keeps rest (with_stmt s ss cs) c (stmt_keeps s cs c h)

    stmt_keeps : (t : StmtTree) (cs : List Called) (c : Called) → Holds cs c → Holds (with_stmt t ss cs) c
    stmt_keeps (tree.stmt n label w) cs c h = what_keeps w n cs c h

    what_keeps : (w : WhatTree) (n : ℕ) (cs : List Called) (c : Called) → Holds cs c → Holds (with_what w n ss cs) c
    what_keeps (tree.assign a b) n cs c h = h
    what_keeps (tree.block_if arms other) n cs c h = else_keeps other (with_arms arms ss cs) c (arms_keep arms cs c h)
    what_keeps (tree.logical_if e s) n cs c h = stmt_keeps s cs c h
    what_keeps (tree.do_loop l) n cs c h = loop_keeps l cs c h
    what_keeps (tree.call x es) n cs c h = in_front cs (the_call n x es ss ∷ []) c h
    what_keeps (tree.goto l) n cs c h = h
    what_keeps tree.continue n cs c h = h
    what_keeps tree.return n cs c h = h
    what_keeps (tree.stop text) n cs c h = h
    what_keeps (tree.print es) n cs c h = h
    what_keeps (tree.read es) n cs c h = h

    arms_keep : (as' : ArmTrees) (cs : List Called) (c : Called) → Holds cs c → Holds (with_arms as' ss cs) c
    arms_keep tree.no_arms cs c h = h
    arms_keep (tree.more_arms a rest) cs c h = arms_keep rest (with_arm a ss cs) c (arm_keeps a cs c h)

    arm_keeps : (a : ArmTree) (cs : List Called) (c : Called) → Holds cs c → Holds (with_arm a ss cs) c
    arm_keeps (tree.arm test body) cs c h = list_keeps body cs c h

    else_keeps : (x : ElseTree) (cs : List Called) (c : Called) → Holds cs c → Holds (with_else x ss cs) c
    else_keeps tree.no_else cs c h = h
    else_keeps (tree.otherwise body) cs c h = list_keeps body cs c h

    loop_keeps : (l : LoopTree) (cs : List Called) (c : Called) → Holds cs c → Holds (with_loop l ss cs) c
    loop_keeps (tree.loop index first last step body) cs c h = list_keeps body cs c h

  -- what holds of all CALLs of a list holds of each in it
  module _ (C : ℕ → List ℕ → ExprTrees → Type 0) where
    mutual
      pub list_calls : (t : StmtTrees) (cs : List Called) → ((n : ℕ) (x : List ℕ) (es : ExprTrees) → Holds (with_list t ss cs) (the_call n x es ss) → C n x es) → EachCall C t
      list_calls tree.no_stmts cs all = tt
      list_calls (tree.more_stmts s rest) cs all = (stmt_calls s cs (λ n x es h. all n x es (list_keeps rest (with_stmt s ss cs) (the_call n x es ss) h)), list_calls rest (with_stmt s ss cs) all)

      stmt_calls : (t : StmtTree) (cs : List Called) → ((n : ℕ) (x : List ℕ) (es : ExprTrees) → Holds (with_stmt t ss cs) (the_call n x es ss) → C n x es) → CallsOf C t
      stmt_calls (tree.stmt n label w) cs all = what_calls w n cs all

      what_calls : (w : WhatTree) (n : ℕ) (cs : List Called) → ((m : ℕ) (x : List ℕ) (es : ExprTrees) → Holds (with_what w n ss cs) (the_call m x es ss) → C m x es) → CallsIn C n w
      what_calls (tree.assign a b) n cs all = tt
      what_calls (tree.block_if arms other) n cs all = (arms_calls arms cs (λ m x es h. all m x es (else_keeps other (with_arms arms ss cs) (the_call m x es ss) h)), else_calls other (with_arms arms ss cs) all)
      what_calls (tree.logical_if e s) n cs all = stmt_calls s cs all
      what_calls (tree.do_loop l) n cs all = loop_calls l cs all
      what_calls (tree.call x es) n cs all = all n x es (at_end cs (the_call n x es ss))
      what_calls (tree.goto l) n cs all = tt
      what_calls tree.continue n cs all = tt
      what_calls tree.return n cs all = tt
      what_calls (tree.stop text) n cs all = tt
      what_calls (tree.print es) n cs all = tt
      what_calls (tree.read es) n cs all = tt

      arms_calls : (as' : ArmTrees) (cs : List Called) → ((n : ℕ) (x : List ℕ) (es : ExprTrees) → Holds (with_arms as' ss cs) (the_call n x es ss) → C n x es) → ArmCalls C as'
      arms_calls tree.no_arms cs all = tt
      arms_calls (tree.more_arms a rest) cs all = (arm_calls a cs (λ n x es h. all n x es (arms_keep rest (with_arm a ss cs) (the_call n x es ss) h)), arms_calls rest (with_arm a ss cs) all)

      arm_calls : (a : ArmTree) (cs : List Called) → ((n : ℕ) (x : List ℕ) (es : ExprTrees) → Holds (with_arm a ss cs) (the_call n x es ss) → C n x es) → OneArm C a
      arm_calls (tree.arm test body) cs all = list_calls body cs all

      else_calls : (y : ElseTree) (cs : List Called) → ((n : ℕ) (x : List ℕ) (es : ExprTrees) → Holds (with_else y ss cs) (the_call n x es ss) → C n x es) → ElseCalls C y
      else_calls tree.no_else cs all = tt
      else_calls (tree.otherwise body) cs all = list_calls body cs all

      loop_calls : (l : LoopTree) (cs : List Called) → ((n : ℕ) (x : List ℕ) (es : ExprTrees) → Holds (with_loop l ss cs) (the_call n x es ss) → C n x es) → LoopCalls C l
      loop_calls (tree.loop index first last step body) cs all = list_calls body cs all

-- ---- CALLs that link

pub calls_are_listed : CallsAreListed
calls_are_listed p ss = list_calls ss (λ n x es. HasCall p ss x) p.module_read.body [] (λ n x es h. record { at = h.0; call = the_call n x es ss; is_call = h.1; is_named = refl })

pub calls_fit : CallsFit
calls_fit ps sss g l laid i p ss m = list_calls ss (λ n x es. CallFits ps sss ss x es) p.module_read.body [] fit
  where
    fit : (n : ℕ) (x : List ℕ) (es : ExprTrees) → Holds (calls_of p ss) (the_call n x es ss) → CallFits ps sss ss x es
    fit n x es (j, e) =
        let f = linked_calls_fit ps sss g l.links i p ss m.parsed m.table j (the_call n x es ss) e in
        let is : IsModule ps sss f.at f.callee f.table = record { parsed = f.is_module; table = f.has_table } in
        record {
          at = f.at;
          callee = f.callee;
          table = f.table;
          is_module = is;
          is_named = f.is_named;
          is_subroutine = f.is_subroutine;
          args = args_from ss es 1 (length f.callee.module_read.dummies) f.table (dummies_come_first f.callee f.table (laid f.at f.callee f.table is)) f.count f.types;
        }

pub dummies_are_tracked : DummiesAreTracked
dummies_are_tracked g p ss laid n k s e d int =
    let names = equivalenced_names p.module_read in
    let none = dummies_stand_alone p ss laid (n - 1) k s (numbered_place ss n s e) d in
    let plain = and_from (is_int_scalar s) (is_none (number_from 0 names s.name)) int (ap is_none none) in
    record { is_symbol = e; tracked = and_from (is_plain names s) (is_alone names ss g.untracked s.place) plain (ap (is_alone names ss g.untracked) d) }
