-- Sets of regions that are looked up by the numbers of statements.
use Rattle.std.proofs.Common.{◌≡◌, ℕ, ◌-◌, List, [], ◌∷◌, ◌++◌, Option, Some, None, Bool, true, false, refl, sym, ap, ◌∙◌, subst, nat_eq}
use Rattle.std.specs.Prelude.{if◌then◌else◌, slice_get}
use Rattle.f77_ast.specs.Trees.{StmtTree, WhatTree, ArmTree, ArmTrees, ElseTree, LoopTree, StmtTrees}
use Rattle.f77_ast.specs.Trees as tree
use Rattle.f77_ast.specs.StatementNumbers.{stmt_numbers, part_numbers, list_numbers, arms_numbers, arm_numbers, else_numbers, loop_numbers}
use Rattle.f77_ast.specs.Shared.{numbered}
use Rattle.f77_ast.specs.declared.results.At.{At}
use Rattle.preconditions.specs.transformer_algebra.Laws.{In, here, there}
use Rattle.preconditions.specs.call_translation.Scopes.{ScopeTree}
use Rattle.preconditions.specs.transformers.Lists.{first_at, or_first, value_at}
use Rattle.in_out_regions.specs.region_sets.declared.region.Region.{Region}
use Rattle.in_out_regions.specs.region_sets.Lists.{is_access, accesses, or_none, accesses_at}
use Rattle.in_out_regions.specs.array_regions.Loops.{Found}
use Rattle.in_out_regions.specs.array_regions.Calls.{Called}
use Rattle.in_out_regions.specs.array_regions.Statement.{at_stmt, at_parts, at_list, at_arms, at_arm, at_else, at_loop}
use Rattle.call_graph.specs.CallsIn.{Each}
use Rattle.laws_analyses.proofs.Statements.NumberLaws.{ids}
use Rattle.laws_analyses.proofs.Regions.Standing.{Distinct, each_first}
use Rattle.fx_lists.proofs.Numbers.{same_is as nat_same}
use Rattle.call_graph.proofs.EachLaws.{each_place}

-- ---- numbers of statements

pub ids_parts : {T : Type 0} (xs ys : List (At T)) (ms ns : List ℕ) → ids xs ≡ ms → ids ys ≡ ns → ids (xs ++ ys) ≡ ms ++ ns
ids_parts [] ys ms ns e f = subst (λ m. ids ys ≡ m ++ ns) e f
ids_parts (x ∷ xs) ys ms ns e f = subst (λ m. (x.id ∷ ids (xs ++ ys)) ≡ m ++ ns) e (ap (λ l. x.id ∷ l) (ids_parts xs ys (ids xs) ns refl f))

module _ (m : ScopeTree) (t : Found) (c : Called) where
  mutual
    r_stmt : (s : StmtTree) → ids (at_stmt s m t c) ≡ stmt_numbers s
    r_stmt (tree.stmt n label w) = ap (λ l. n ∷ l) (r_parts w)

    r_parts : (w : WhatTree) → ids (at_parts w m t c) ≡ part_numbers w
    r_parts (tree.assign a b) = refl
    r_parts (tree.block_if arms other) = ids_parts (at_arms arms m t c) (at_else other m t c) (arms_numbers arms) (else_numbers other) (r_arms arms) (r_else other)
    r_parts (tree.logical_if e s) = r_stmt s
    r_parts (tree.do_loop l) = r_loop l
    r_parts (tree.call x es) = refl
    r_parts (tree.goto l) = refl
    r_parts tree.continue = refl
    r_parts tree.return = refl
    r_parts (tree.stop text) = refl
    r_parts (tree.print es) = refl
    r_parts (tree.read es) = refl

    pub r_list : (ss : StmtTrees) → ids (at_list ss m t c) ≡ list_numbers ss
    r_list tree.no_stmts = refl
    r_list (tree.more_stmts s rest) = ids_parts (at_stmt s m t c) (at_list rest m t c) (stmt_numbers s) (list_numbers rest) (r_stmt s) (r_list rest)

    r_arms : (arms : ArmTrees) → ids (at_arms arms m t c) ≡ arms_numbers arms
    r_arms tree.no_arms = refl
    r_arms (tree.more_arms a rest) = ids_parts (at_arm a m t c) (at_arms rest m t c) (arm_numbers a) (arms_numbers rest) (r_arm a) (r_arms rest)

    r_arm : (a : ArmTree) → ids (at_arm a m t c) ≡ arm_numbers a
    r_arm (tree.arm e body) = r_list body

    r_else : (other : ElseTree) → ids (at_else other m t c) ≡ else_numbers other
    r_else tree.no_else = refl
    r_else (tree.otherwise body) = r_list body

    r_loop : (l : LoopTree) → ids (at_loop l m t c) ≡ loop_numbers l
    r_loop (tree.loop index first last step body) = r_list body

-- ---- what is found

pub each_in : {T : Type 0} (P : T → Type 0) (xs : List T) (a : T) → Each P xs → In a xs → P a
each_in P [] a h i = elim i [ ]
each_in P (x ∷ xs) a h here = h.0
each_in P (x ∷ xs) a h (there i) = each_in P xs a h.1 i

module _ {T : Type 0} (as' : List (At T)) (d : Distinct (ids as')) where
  firsts : Each (λ (a : At T). first_at a.id as' ≡ Some a.value) as'
  firsts = each_first as' as' (λ n h. refl) d

  -- of distinct numbers, what is looked up by the number of a result is that result
  pub value_found : (a : At T) → In a as' → value_at as' a.id ≡ Some a.value
  value_found a i = go (numbered as' a.id) refl
    where
      first : first_at a.id as' ≡ Some a.value
      first = each_in (λ (b : At T). first_at b.id as' ≡ Some b.value) as' a firsts i

      same : (b : At T) → numbered as' a.id ≡ Some b → first_at b.id as' ≡ Some b.value
      same b e = placed (nat_eq a.id 0) e
        where
          placed : (c : Bool) → (if c then None else slice_get as' (a.id - 1)) ≡ Some b → first_at b.id as' ≡ Some b.value
          placed true q = cc
          placed false q = each_place (λ (b : At T). first_at b.id as' ≡ Some b.value) as' (a.id - 1) b firsts q

      go : (o : Option (At T)) → numbered as' a.id ≡ o → or_first o a.id as' ≡ Some a.value
      go None e = first
      go (Some b) e = one (nat_eq b.id a.id) refl
        where
          one : (c : Bool) → nat_eq b.id a.id ≡ c → (if c then Some b.value else first_at a.id as') ≡ Some a.value
          one false q = first
          one true q = sym (same b e) ∙ (ap (λ n. first_at n as') (nat_same b.id a.id q) ∙ first)

-- ---- of these, accesses alone

pub in_accesses : (rs : List Region) (r : Region) → In r (accesses rs) → In r rs
in_accesses [] r i = elim i [ ]
in_accesses (q ∷ rs) r i = go (is_access q.kind) i (λ j. in_accesses rs r j)
  where
    more : {a b : List Region} (q r : Region) → In r (q ∷ a) → (In r a → In r b) → In r (q ∷ b)
    more q r here ih = here
    more q r (there j) ih = there (ih j)

    go : (b : Bool) → In r (if b then q ∷ accesses rs else accesses rs) → (In r (accesses rs) → In r rs) → In r (q ∷ rs)
    go true j ih = more q r j ih
    go false j ih = there (ih j)

pub to_accesses : (rs : List Region) (r : Region) → is_access r.kind ≡ true → In r rs → In r (accesses rs)
to_accesses [] r e i = elim i [ ]
to_accesses (q ∷ rs) r e here = subst (λ b. In q (if b then q ∷ accesses rs else accesses rs)) (sym e) here
to_accesses (q ∷ rs) r e (there i) = go (is_access q.kind) (to_accesses rs r e i)
  where
    go : (b : Bool) → In r (accesses rs) → In r (if b then q ∷ accesses rs else accesses rs)
    go true ih = there ih
    go false ih = ih

pub accesses_found : (as' : List (At (List Region))) → Distinct (ids as') → (n : ℕ) (set : List Region) → In (record { id = n; value = set }) as' → accesses_at as' n ≡ accesses set
accesses_found as' d n set i = ap (λ o. accesses (or_none o)) (value_found as' d (record { id = n; value = set }) i)
