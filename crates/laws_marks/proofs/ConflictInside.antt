-- IN of the body of a DO, looked up among the results of its module.
use Rattle.std.proofs.Common.{◌≡◌, ℕ, List, [], ◌∷◌, ◌++◌, Option, Bool, true, false, refl, sym, ap, ◌∙◌}
use Rattle.std.specs.Prelude.{if◌then◌else◌}
use Rattle.f77_ast.specs.Trees.{StmtTree, WhatTree, ArmTree, ArmTrees, ElseTree, LoopTree, StmtTrees}
use Rattle.f77_ast.specs.Trees as tree
use Rattle.f77_ast.specs.StatementNumbers.{list_numbers}
use Rattle.f77_ast.specs.Executions.{Claim}
use Rattle.f77_ast.specs.Store.{Store}
use Rattle.f77_ast.specs.Writes.{Locks}
use Rattle.f77_ast.specs.declared.results.At.{At}
use Rattle.f77_ast.specs.Symbols.{SymbolTree}
use Rattle.preconditions.specs.transformer_algebra.declared.transformer.Transformer.{Transformer}
use Rattle.preconditions.specs.transformer_algebra.Laws.{In, here, there}
use Rattle.preconditions.specs.transformers.Jumps.{unstructured}
use Rattle.preconditions.specs.transformers.Lists.{list_at}
use Rattle.preconditions.specs.transformers.Statement as transformers
use Rattle.in_out_regions.specs.region_sets.declared.region.Region.{Region}
use Rattle.in_out_regions.specs.region_sets.Sets.{unite_all}
use Rattle.in_out_regions.specs.region_sets.Lists.{all_inexact, all_forgetting, all_accesses, in_any_order, numbers, set_at}
use Rattle.in_out_regions.specs.array_regions.Calls.{Called}
use Rattle.in_out_regions.specs.Known.{KnownTree}
use Rattle.in_out_regions.specs.Lists.{before_rest, ins_in_order, list_in}
use Rattle.in_out_regions.specs.Statement.{what_in, at_stmt, at_parts, at_list, at_arms, at_arm, at_else, at_loop}
use Rattle.call_graph.specs.CallsIn.{Each}
use Rattle.laws_analyses.proofs.Regions.Standing.{Distinct}
use Rattle.laws_marks.specs.InFrames.{Frame}
use Rattle.laws_marks.specs.InKnowns.{known_in}
use Rattle.laws_marks.proofs.InStanding.{in_found}
use Rattle.laws_marks.proofs.ConflictWhats.{stmt_whats, part_whats, list_whats, arms_whats, arm_whats, else_whats, loop_whats}
use Rattle.preconditions.proofs.TransformerAlgebra.Members.{in_left, in_right}
use Rattle.call_graph.proofs.EachLaws.{each_joined as each_join}

-- ---- the results of the body of a DO are among those of the module

module _ (t : KnownTree) (all : List (At (List Region))) where
  abbrev pub HasBody : WhatTree → Type 0
  HasBody (tree.assign a b) = Unit {0}
  HasBody (tree.block_if arms other) = Unit {0}
  HasBody (tree.logical_if e s) = Unit {0}
  HasBody (tree.do_loop l) = (a : At (List Region)) → In a (at_loop l t) → In a all
  HasBody (tree.call x es) = Unit {0}
  HasBody (tree.goto l) = Unit {0}
  HasBody tree.continue = Unit {0}
  HasBody tree.return = Unit {0}
  HasBody (tree.stop text) = Unit {0}
  HasBody (tree.print es) = Unit {0}
  HasBody (tree.read es) = Unit {0}

  abbrev pub BodyAt : At WhatTree → Type 0
  BodyAt a = HasBody a.value

  abbrev Among : List (At (List Region)) → Type 0
  Among xs = (a : At (List Region)) → In a xs → In a all

  left : (xs ys : List (At (List Region))) → Among (xs ++ ys) → Among xs
  left xs ys f a i = f a (in_left a xs ys i)

  right : (xs ys : List (At (List Region))) → Among (xs ++ ys) → Among ys
  right xs ys f a i = f a (in_right a xs ys i)

  own_body : (w : WhatTree) → Among (at_parts w t) → HasBody w
  own_body (tree.assign a b) f = tt
  own_body (tree.block_if arms other) f = tt
  own_body (tree.logical_if e s) f = tt
  own_body (tree.do_loop l) f = f
  own_body (tree.call x es) f = tt
  own_body (tree.goto l) f = tt
  own_body tree.continue f = tt
  own_body tree.return f = tt
  own_body (tree.stop text) f = tt
  own_body (tree.print es) f = tt
  own_body (tree.read es) f = tt

  mutual
    stmt_bodies : (s : StmtTree) → Among (at_stmt s t) → Each BodyAt (stmt_whats s)
    stmt_bodies (tree.stmt n label w) f = (own_body w (λ a i. f a (there i)), part_bodies w (λ a i. f a (there i)))

    part_bodies : (w : WhatTree) → Among (at_parts w t) → Each BodyAt (part_whats w)
    part_bodies (tree.assign a b) f = tt
    part_bodies (tree.block_if arms other) f = each_join BodyAt (arms_whats arms) (else_whats other) (arms_bodies arms (left (at_arms arms t) (at_else other t) f)) (else_bodies other (right (at_arms arms t) (at_else other t) f))
    part_bodies (tree.logical_if e s) f = stmt_bodies s f
    part_bodies (tree.do_loop l) f = loop_body l f
    part_bodies (tree.call x es) f = tt
    part_bodies (tree.goto l) f = tt
    part_bodies tree.continue f = tt
    part_bodies tree.return f = tt
    part_bodies (tree.stop text) f = tt
    part_bodies (tree.print es) f = tt
    part_bodies (tree.read es) f = tt

    loop_body : (l : LoopTree) → Among (at_loop l t) → Each BodyAt (loop_whats l)
    loop_body (tree.loop index first last step body) f = list_bodies body f

    arms_bodies : (arms : ArmTrees) → Among (at_arms arms t) → Each BodyAt (arms_whats arms)
    arms_bodies tree.no_arms f = tt
    arms_bodies (tree.more_arms (tree.arm e body) rest) f = each_join BodyAt (list_whats body) (arms_whats rest) (list_bodies body (left (at_list body t) (at_arms rest t) f)) (arms_bodies rest (right (at_list body t) (at_arms rest t) f))

    else_bodies : (other : ElseTree) → Among (at_else other t) → Each BodyAt (else_whats other)
    else_bodies tree.no_else f = tt
    else_bodies (tree.otherwise body) f = list_bodies body f

    pub list_bodies : (ss : StmtTrees) → Among (at_list ss t) → Each BodyAt (list_whats ss)
    list_bodies tree.no_stmts f = tt
    list_bodies (tree.more_stmts s rest) f = each_join BodyAt (stmt_whats s) (list_whats rest) (stmt_bodies s (left (at_stmt s t) (at_list rest t) f)) (list_bodies rest (right (at_stmt s t) (at_list rest t) f))

-- ---- a list with the same sets

module _ (ss : List SymbolTree) (t : ℕ → Transformer) (f g h : ℕ → List Region) where
  order_same : (ns : List ℕ) → ((n : ℕ) → In n ns → g n ≡ h n) → ins_in_order ss t f g ns ≡ ins_in_order ss t f h ns
  order_same [] e = refl
  order_same (n ∷ ns) e = ap (λ rs. before_rest ss rs (f n) (t n) (ins_in_order ss t f g ns)) (e n here) ∙ ap (λ rs. before_rest ss (h n) (f n) (t n) rs) (order_same ns (λ m i. e m (there i)))

  all_same : (ns : List ℕ) → ((n : ℕ) → In n ns → g n ≡ h n) → all_accesses g ns ≡ all_accesses h ns
  all_same [] e = refl
  all_same (n ∷ ns) e = ap (λ rs. rs ++ all_accesses g ns) (e n here) ∙ ap (λ rs. h n ++ rs) (all_same ns (λ m i. e m (there i)))

  list_same : (whole : Bool) (body : StmtTrees) → ((n : ℕ) → In n (numbers body) → g n ≡ h n) → list_in ss t f g whole body ≡ list_in ss t f h whole body
  list_same whole body e =
      ap (λ rs. if unstructured whole body then all_inexact (unite_all (all_forgetting (list_at t whole body).cells rs)) else ins_in_order ss t f g (numbers body)) (all_same (numbers body) e)
      ∙ ap (λ rs. if unstructured whole body then in_any_order (list_at t whole body).cells h (numbers body) else rs) (order_same (numbers body) e)

-- ---- the body of a DO

module _ (C0 D0 : Claim) (k : Frame) (Fits : Locks → (ℕ → Bool) → Type 0) (I : Store → Type 0) (acc : List (At (List Region))) (called : Called) (all : StmtTrees) (distinct : Distinct (list_numbers all)) where
  abbrev T : KnownTree
  T = known_in k acc called

  each_same : (body : StmtTrees) → Distinct (list_numbers body) → ((a : At (List Region)) → In a (at_list body (known_in k acc called)) → In a (at_list all (known_in k acc called))) → (ss : StmtTrees) → ((a : At (List Region)) → In a (at_list ss (known_in k acc called)) → In a (at_list body (known_in k acc called))) → (n : ℕ) → In n (numbers ss) → set_at (at_list all (known_in k acc called)) n ≡ set_at (at_list body (known_in k acc called)) n
  each_same body d f tree.no_stmts g n i = elim i [ ]
  each_same body d f (tree.more_stmts (tree.stmt j label w) rest) g n i = one n i (λ l y. each_same body d f rest (λ a z. g a (in_right a (at_stmt (tree.stmt j label w) (known_in k acc called)) (at_list rest (known_in k acc called)) z)) l y)
    where
      one : (l : ℕ) → In l (j ∷ numbers rest) → ((n : ℕ) → In n (numbers rest) → set_at (at_list all (known_in k acc called)) n ≡ set_at (at_list body (known_in k acc called)) n) → set_at (at_list all (known_in k acc called)) l ≡ set_at (at_list body (known_in k acc called)) l
      one l here ih =
          in_found C0 D0 k Fits I acc called all distinct j w (f (transformers.at j (what_in j w (known_in k acc called))) (g (transformers.at j (what_in j w (known_in k acc called))) here))
          ∙ sym (in_found C0 D0 k Fits I acc called body d j w (g (transformers.at j (what_in j w (known_in k acc called))) here))
      one l (there y) ih = ih l y

  -- IN of it is that by the results of the module
  pub ins_same : (body : StmtTrees) → Distinct (list_numbers body) → ((a : At (List Region)) → In a (at_list body (known_in k acc called)) → In a (at_list all (known_in k acc called))) → (f : ℕ → List Region) → list_in k.m.symbols k.does f (set_at (at_list all (known_in k acc called))) false body ≡ list_in k.m.symbols k.does f (set_at (at_list body (known_in k acc called))) false body
  ins_same body d h f = list_same k.m.symbols k.does f (set_at (at_list all (known_in k acc called))) (set_at (at_list body (known_in k acc called))) false body (λ n i. each_same body d h body (λ a z. z) n i)
