-- The units of an iteration's own that belong to CALLs are of modules and CALLs that are not active.
use Rattle.std.proofs.Common.{◌≡◌, ◌⊎◌, inl, inr, ⊎_elim, ℕ, zero, suc, ◌||◌, List, [], ◌∷◌, Bool, true, false, Option, refl, sym, nat_eq, true≢false, bytes_eq}
use Rattle.std.specs.Prelude.{if◌then◌else◌}
use Rattle.std.specs.List.{list_any}
use Rattle.std.proofs.lemmas.Bool.{eqb-true}
use Rattle.f77_ast.specs.Trees.{ExprTrees, StmtTree, WhatTree, ArmTree, ArmTrees, ElseTree, LoopTree, StmtTrees}
use Rattle.f77_ast.specs.Trees as tree
use Rattle.f77_ast.specs.Shapes.{walk_stmt, walk_what, walk_body, walk_arms, walk_arm, walk_else, walk_list}
use Rattle.f77_ast.specs.Programs.{Routine, meanings}
use Rattle.laws_interleavings.specs.MarkedStatements.{MarkedScope, MarkedMeaning, one_of, count, own_walk, own_in}
use Rattle.laws_interleavings.specs.MarkedPrograms.{Directives, marked_scope, marked_called, marked_meanings}
use Rattle.laws_marks.specs.Inactive.{IsOfExpression, IsOfModule, IsOfSome}
use Rattle.laws_marks.specs.OwnLaws.{OwnUnitsAreInactive}
use Rattle.fx_lists.proofs.Booleans.{or_cases as one_or_other}

one_in : (f : ℕ → ℕ) (n u : ℕ) → one_of f n u ≡ true → (k : ℕ) × (f k ≡ u)
one_in f zero u h = absurd (true≢false (sym h))
one_in f (suc n) u h = ⊎_elim (λ a. one_in f n u a) (λ b. (n, eqb-true (f n) u b)) (one_or_other (one_of f n u) (nat_eq (f n) u) h)

module _ (turns : ℕ) (marks : Directives) (u : ℕ) where
  abbrev scope_of : Routine → List Routine → MarkedScope
  scope_of r rs = marked_scope r turns marks (meanings rs turns) (marked_meanings rs turns marks)

  module _ (r : Routine) (rs : List Routine) (below : (x : List ℕ) → (marked_meanings rs turns marks x).own u ≡ true → IsOfSome rs u) where
    abbrev Such : Type 0
    Such = IsOfExpression r u ⊎ IsOfSome rs u

    in_call : (n : ℕ) (x : List ℕ) (es : ExprTrees) → (one_of (r.own_unit n) (count es) u || (marked_meanings rs turns marks x).own u) ≡ true → Such
    in_call n x es h =
        ⊎_elim (λ a. (let k = one_in (r.own_unit n) (count es) u a in inl (record { call = n; place = k.0; is_unit = k.1 }))) (λ b. inr (below x b))
        (one_or_other (one_of (r.own_unit n) (count es) u) ((marked_meanings rs turns marks x).own u) h)

    mutual
      in_stmt : (s : StmtTree) → walk_stmt (own_walk (scope_of r rs) u) s ≡ true → Such
      in_stmt (tree.stmt n label w) h = in_what w n label h

      in_what : (w : WhatTree) (n : ℕ) (label : Option ℕ) → walk_what (own_walk (scope_of r rs) u) n label w ≡ true → Such
      in_what (tree.assign a b) n label h = absurd (true≢false (sym h))
      in_what (tree.block_if arms other) n label h = ⊎_elim (in_arms arms) (in_else other) (one_or_other (walk_arms (own_walk (scope_of r rs) u) arms) (walk_else (own_walk (scope_of r rs) u) other) h)
      in_what (tree.logical_if test s) n label h = in_stmt s h
      in_what (tree.do_loop l) n label h = in_loop l h
      in_what (tree.call x es) n label h = in_call n x es h
      in_what (tree.goto l) n label h = absurd (true≢false (sym h))
      in_what tree.continue n label h = absurd (true≢false (sym h))
      in_what tree.return n label h = absurd (true≢false (sym h))
      in_what (tree.stop text) n label h = absurd (true≢false (sym h))
      in_what (tree.print es) n label h = absurd (true≢false (sym h))
      in_what (tree.read es) n label h = absurd (true≢false (sym h))

      in_loop : (l : LoopTree) → walk_body (own_walk (scope_of r rs) u) l ≡ true → Such
      in_loop (tree.loop index first last step body) h = in_list body h

      in_arms : (arms : ArmTrees) → walk_arms (own_walk (scope_of r rs) u) arms ≡ true → Such
      in_arms tree.no_arms h = absurd (true≢false (sym h))
      in_arms (tree.more_arms a rest) h = in_arm a (walk_arms (own_walk (scope_of r rs) u) rest) (in_arms rest) h

      in_arm : (a : ArmTree) (rest : Bool) → (rest ≡ true → Such) → walk_arm (own_walk (scope_of r rs) u) a rest ≡ true → Such
      in_arm (tree.arm test body) rest later h = ⊎_elim (in_list body) later (one_or_other (walk_list (own_walk (scope_of r rs) u) body) rest h)

      in_else : (o : ElseTree) → walk_else (own_walk (scope_of r rs) u) o ≡ true → Such
      in_else tree.no_else h = absurd (true≢false (sym h))
      in_else (tree.otherwise body) h = in_list body h

      in_list : (ss : StmtTrees) → walk_list (own_walk (scope_of r rs) u) ss ≡ true → Such
      in_list tree.no_stmts h = absurd (true≢false (sym h))
      in_list (tree.more_stmts s ss) h = ⊎_elim (in_stmt s) (in_list ss) (one_or_other (walk_stmt (own_walk (scope_of r rs) u) s) (walk_list (own_walk (scope_of r rs) u) ss) h)

  below_some : (rs : List Routine) (x : List ℕ) → (marked_meanings rs turns marks x).own u ≡ true → IsOfSome rs u
  below_some [] x h = absurd (true≢false (sym h))
  below_some (r ∷ rs) x h = go (bytes_eq x r.name) h (below_some rs)
    where
      go : (b : Bool) → (let m : MarkedMeaning = if b then marked_called r (scope_of r rs) else marked_meanings rs turns marks x in m.own u) ≡ true → ((y : List ℕ) → (marked_meanings rs turns marks y).own u ≡ true → IsOfSome rs u) → IsOfModule r u ⊎ IsOfSome rs u
      go true e ih =
          ⊎_elim (λ a. inl (inl a)) (λ a. ⊎_elim (λ b. inl (inr b)) (λ b. inr b) (in_list r rs ih r.body a))
          (one_or_other (list_any (λ v. nat_eq v u) r.locals) (own_in (scope_of r rs) r.body u) e)
      go false e ih = inr (ih x e)

pub own_units_are_inactive : OwnUnitsAreInactive
own_units_are_inactive r rs turns marks body u h = in_list turns marks u r rs (below_some turns marks u rs) body h
