-- What a mark says of a DO that is parallel.
use Rattle.std.proofs.Common.{◌≡◌, ℕ, Bool, true, false, List, [], ◌∷◌, Option, Some, None, refl, sym, ◌∙◌, subst, true≢false, nat_eq, suc, zero, ◌-◌}
use Rattle.std.specs.Prelude.{if◌then◌else◌, slice_get}
use Rattle.std.proofs.lemmas.Bool.{or_parts, eqb-true}
use Rattle.f77_ast.specs.Trees.{StmtTree, WhatTree, ArmTrees, ElseTree, LoopTree, StmtTrees}
use Rattle.f77_ast.specs.Trees as tree
use Rattle.f77_ast.specs.Shapes.{walk_stmt, walk_what, walk_body, walk_arms, walk_else, walk_list}
use Rattle.f77_ast.specs.declared.variable.Variable.{Variable as Named}
use Rattle.f77_ast.specs.Shared.{numbered}
use Rattle.f77_ast.specs.declared.results.At.{At}
use Rattle.preconditions.specs.transformer_algebra.Laws.{In, here, there}
use Rattle.preconditions.specs.transformers.Lists.{first_at, or_first, value_at}
use Rattle.preconditions.specs.transformers.Statement.{at}
use Rattle.f77_ast.specs.declared.marks.Kinds.{Kinds}
use Rattle.f77_ast.specs.declared.marks.Mark.{Mark}
use Rattle.f77_ast.specs.declared.marks.Private.{Private}
use Rattle.f77_ast.specs.declared.marks.Private.TheVariants.{Yes, Name, Carried, Live}
use Rattle.in_out_regions.specs.region_sets.declared.region.Region.{Region}
use Rattle.loop_marker.specs.declared.verdict.Verdict.TheVariants.{Copied}
use Rattle.loop_marker.specs.Marks.{unless_named, by_kinds, the_marks}
use Rattle.loop_marker.specs.Variables.{is_of_some}
use Rattle.f77_ast.specs.Variables.{same_variable}
use Rattle.call_graph.specs.CallsIn.{Each}
use Rattle.laws_analyses.proofs.Statements.Placing.{each_parts}
use Rattle.laws_marks.proofs.ConflictWhats.{stmt_whats, part_whats, list_whats, arms_whats, else_whats, loop_whats}
use Rattle.f77_ast.proofs.SameLaws.{same_itself}
use Rattle.call_graph.proofs.EachLaws.{each_joined}

-- ---- verdicts

pub copied_yes : (ks : List Kinds) (p : Private) → by_kinds ks p ≡ Copied → p ≡ Yes
copied_yes [] p e = cc
copied_yes (k ∷ ks) Yes e = refl
copied_yes (k ∷ ks) Name e = cc
copied_yes (k ∷ ks) Carried e = cc
copied_yes (k ∷ ks) Live e = cc

pub unnamed_yes : (named : Bool) (p : Private) → unless_named named p ≡ Yes → p ≡ Yes
unnamed_yes named Yes e = refl
unnamed_yes named Name e = cc
unnamed_yes named Carried e = cc
unnamed_yes named Live e = cc

-- ---- regions

-- a variable of which no region is
pub none_of_it : (v : Named) (rs : List Region) → is_of_some v rs ≡ false → (r : Region) → In r rs → r.variable ≡ v → ⊥
none_of_it v [] e r i same = elim i [ ]
none_of_it v (q ∷ rs) e r here same = true≢false (sym (subst (λ w. same_variable v w ≡ true) (sym same) (same_itself v)) ∙ (or_parts (same_variable v q.variable) (is_of_some v rs) e).0)
none_of_it v (q ∷ rs) e r (there i) same = none_of_it v rs (or_parts (same_variable v q.variable) (is_of_some v rs) e).1 r i same

-- ---- the marks of a module

module _ (f : ℕ → Option ℕ → LoopTree → Mark) (P : At WhatTree → Type 0) (Q : At Mark → Type 0) (one : (n : ℕ) (label : Option ℕ) (l : LoopTree) → P (at n (tree.do_loop l)) → Q (record { id = n; value = f n label l })) where
  mutual
    stmt_marks : (s : StmtTree) → Each P (stmt_whats s) → Each Q (walk_stmt (the_marks f) s)
    stmt_marks (tree.stmt n label w) h = what_marks n label w h.0 h.1

    what_marks : (n : ℕ) (label : Option ℕ) (w : WhatTree) → P (at n w) → Each P (part_whats w) → Each Q (walk_what (the_marks f) n label w)
    what_marks n label (tree.assign a b) p h = tt
    what_marks n label (tree.block_if arms other) p h = (let q = each_parts P (arms_whats arms) (else_whats other) h in each_joined Q (walk_arms (the_marks f) arms) (walk_else (the_marks f) other) (arms_marks arms q.0) (else_marks other q.1))
    what_marks n label (tree.logical_if test s) p h = stmt_marks s h
    what_marks n label (tree.do_loop l) p h = (one n label l p, body_marks l h)
    what_marks n label (tree.call x es) p h = tt
    what_marks n label (tree.goto l) p h = tt
    what_marks n label tree.continue p h = tt
    what_marks n label tree.return p h = tt
    what_marks n label (tree.stop text) p h = tt
    what_marks n label (tree.print es) p h = tt
    what_marks n label (tree.read es) p h = tt

    body_marks : (l : LoopTree) → Each P (loop_whats l) → Each Q (walk_body (the_marks f) l)
    body_marks (tree.loop index first last step body) h = list_marks body h

    arms_marks : (arms : ArmTrees) → Each P (arms_whats arms) → Each Q (walk_arms (the_marks f) arms)
    arms_marks tree.no_arms h = tt
    arms_marks (tree.more_arms (tree.arm test body) rest) h = (let q = each_parts P (list_whats body) (arms_whats rest) h in each_joined Q (walk_list (the_marks f) body) (walk_arms (the_marks f) rest) (list_marks body q.0) (arms_marks rest q.1))

    else_marks : (other : ElseTree) → Each P (else_whats other) → Each Q (walk_else (the_marks f) other)
    else_marks tree.no_else h = tt
    else_marks (tree.otherwise body) h = list_marks body h

    pub list_marks : (ss : StmtTrees) → Each P (list_whats ss) → Each Q (walk_list (the_marks f) ss)
    list_marks tree.no_stmts h = tt
    list_marks (tree.more_stmts s rest) h = (let q = each_parts P (stmt_whats s) (list_whats rest) h in each_joined Q (walk_stmt (the_marks f) s) (walk_list (the_marks f) rest) (stmt_marks s q.0) (list_marks rest q.1))

-- ---- results by numbers

pub record FoundAt {T : Type 0} (Q : At T → Type 0) (n : ℕ) (v : T) : Type 0 where
  pub item : At T
  pub is_so : Q item
  pub number : item.id ≡ n
  pub value : item.value ≡ v

module _ {T : Type 0} (Q : At T → Type 0) (n : ℕ) (v : T) where
  this_one : (a : At T) → Q a → nat_eq a.id n ≡ true → a.value ≡ v → FoundAt Q n v
  this_one a q e same = record { item = a; is_so = q; number = eqb-true a.id n e; value = same }

  first_found : (xs : List (At T)) → Each Q xs → first_at n xs ≡ Some v → FoundAt Q n v
  first_found [] h e = cc
  first_found (x ∷ xs) h e = go (nat_eq x.id n) refl e (first_found xs h.1)
    where
      go : (b : Bool) → nat_eq x.id n ≡ b → (if b then Some x.value else first_at n xs) ≡ Some v → (first_at n xs ≡ Some v → FoundAt Q n v) → FoundAt Q n v
      go true w q ih = (let same : x.value ≡ v = cc in this_one x h.0 w same)
      go false w q ih = ih q

  got : (xs : List (At T)) (i : ℕ) (a : At T) → Each Q xs → slice_get xs i ≡ Some a → Q a
  got [] i a h e = cc
  got (x ∷ xs) zero a h e = (let same : x ≡ a = cc in subst Q same h.0)
  got (x ∷ xs) (suc i) a h e = got xs i a h.1 e

  numbered_found : (xs : List (At T)) (a : At T) → Each Q xs → numbered xs n ≡ Some a → Q a
  numbered_found xs a h e = go (nat_eq n 0) e
    where
      go : (b : Bool) → (if b then None else slice_get xs (n - 1)) ≡ Some a → Q a
      go true q = cc
      go false q = got xs (n - 1) a h q

  pub found_at : (xs : List (At T)) → Each Q xs → value_at xs n ≡ Some v → FoundAt Q n v
  found_at xs h e = go (numbered xs n) refl e
    where
      there' : (a : At T) → numbered xs n ≡ Some a → (b : Bool) → nat_eq a.id n ≡ b → (if b then Some a.value else first_at n xs) ≡ Some v → FoundAt Q n v
      there' a q true w k = (let same : a.value ≡ v = cc in this_one a (numbered_found xs a h q) w same)
      there' a q false w k = first_found xs h k

      go : (o : Option (At T)) → numbered xs n ≡ o → or_first o n xs ≡ Some v → FoundAt Q n v
      go None q k = first_found xs h k
      go (Some a) q k = there' a q (nat_eq a.id n) refl k
