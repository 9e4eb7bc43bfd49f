-- Block IFs whose statements are not hidden, and what a statement of the text belongs to.
use Rattle.std.proofs.Common.{◌≡◌, ◌≤◌, ◌+◌, ℕ, Bool, true, false, length, refl, sym, ap, ◌∙◌, arith}
use Rattle.std.specs.Prelude.{Option, Some, None, nat_eq, if◌then◌else◌, slice_get}
use Rattle.std.proofs.lemmas.Bool.Decides.{nat_tests}
use Rattle.std.proofs.lemmas.Option.{slice_get_within}
use Rattle.f77_ast.specs.Trees.{StmtTree, WhatTree, ArmTrees, ElseTree, StmtTrees}
use Rattle.f77_ast.specs.Trees as tree
use Rattle.f77_ast.specs.Shapes.{IsLeaf, walk_stmt, walk_arms, walk_else, walk_list}
use Rattle.f77_ast.specs.StatementNumbers.{list_numbers}
use Rattle.f77_ast.specs.Hidden.{is_hidden, block, reference, do_while, without_last, form_of_one, form_of_three, form_of_body, carried_by, or_carrier, the_carrier, carrier_in}
use Rattle.f77_ast.proofs.WalkLaws.{Induction, every_list, leaf_walk}
use Rattle.fx_lists.proofs.Numbers.{same_is}

-- ---- block IFs of the text

one_visible : (n : ℕ) (label : Option ℕ) (w : WhatTree) → is_hidden n ≡ false → form_of_one (tree.stmt n label w) ≡ block
one_visible n (Some l) (tree.block_if (tree.more_arms (tree.arm test body) tree.no_arms) tree.no_else) v = ap (λ b. if b then do_while l test body else block) v
one_visible n label w v = refl

three_visible : (n : ℕ) (label : Option ℕ) (w : WhatTree) (t u : StmtTree) → is_hidden n ≡ false → form_of_three (tree.stmt n label w) t u ≡ block
three_visible n None (tree.assign (tree.name f) zero) (tree.stmt m None (tree.call g es)) (tree.stmt k None (tree.assign left (tree.name h))) v =
    ap (λ b. if b then reference left f (without_last es) else block) v
three_visible n label w t u v = refl

-- its first statement is not hidden
pub visible_body : (n : ℕ) (label : Option ℕ) (w : WhatTree) (rest : StmtTrees) → is_hidden n ≡ false → form_of_body (tree.more_stmts (tree.stmt n label w) rest) ≡ block
visible_body n label w tree.no_stmts v = one_visible n label w v
visible_body n label w (tree.more_stmts t (tree.more_stmts u tree.no_stmts)) v = three_visible n label w t u v
visible_body n label w rest v = refl

-- statements that are numbered as reading gives them, of which a module of the text has at most 4096, are not hidden
pub numbered_visible : (body : StmtTrees) → ((i n : ℕ) → slice_get (list_numbers body) i ≡ Some n → n ≡ i + 1) → length (list_numbers body) ≤ 4096 → (i n : ℕ) → slice_get (list_numbers body) i ≡ Some n → is_hidden n ≡ false
numbered_visible body numbered few i n at =
    let next = numbered i n at in
    let within = slice_get_within (list_numbers body) i n at in
    let least : n ≤ 4096 = omega (arith, next, within, few) in
    grind (arith, nat_tests)

-- ---- a statement that is not hidden belongs to itself

module _ (k : ℕ) (visible : is_hidden k ≡ false) where
  abbrev IsItself : Option ℕ → Type 0
  IsItself o = (c : ℕ) → o ≡ Some c → c ≡ k

  none : IsItself None
  none c e = cc

  found : (n : ℕ) (o : Option ℕ) → IsItself o → IsItself (if nat_eq n k then Some n else o)
  found n o h = go (nat_eq n k) refl
    where
      go : (b : Bool) → nat_eq n k ≡ b → IsItself (if b then Some n else o)
      go true e c f = let t : n ≡ k = same_is n k e in cc
      go false e c f = h c f

  chosen : (b : Bool) (n j : ℕ) → b ≡ false → j ≡ k → IsItself (Some (if b then n else j))
  chosen true n j f e c g = cc
  chosen false n j f e c g = cc

  carried : (n : ℕ) (o : Option ℕ) → IsItself o → IsItself (carried_by n o)
  carried n None h = none
  carried n (Some j) h = chosen (is_hidden j) n j (ap (λ i. is_hidden i) (h j refl) ∙ visible) (h j refl)

  either : (o p : Option ℕ) → IsItself o → IsItself p → IsItself (or_carrier o p)
  either None p h g = g
  either (Some j) p h g = h

  abbrev S : StmtTree → Type 0
  S s = IsItself (walk_stmt (the_carrier k) s)

  abbrev A : ArmTrees → Type 0
  A arms = IsItself (walk_arms (the_carrier k) arms)

  abbrev E : ElseTree → Type 0
  E other = IsItself (walk_else (the_carrier k) other)

  abbrev L : StmtTrees → Type 0
  L list = IsItself (walk_list (the_carrier k) list)

  leaf_itself : (n : ℕ) (label : Option ℕ) (w : WhatTree) → IsLeaf w → S (tree.stmt n label w)
  leaf_itself n label w leaf c e = found n None none c (sym (leaf_walk (the_carrier k) n label w leaf) ∙ e)

  steps : Induction S A E L
  steps = record {
    leaf = leaf_itself;
    inner = λ n label test s h. found n (carried_by n (walk_stmt (the_carrier k) s)) (carried n (walk_stmt (the_carrier k) s) h);
    body = λ n label index first last step list h. found n (carried_by n (walk_list (the_carrier k) list)) (carried n (walk_list (the_carrier k) list) h);
    arms = λ n label arms other h g.
        let o = or_carrier (walk_arms (the_carrier k) arms) (walk_else (the_carrier k) other) in
        found n (carried_by n o) (carried n o (either (walk_arms (the_carrier k) arms) (walk_else (the_carrier k) other) h g));
    no_arm = none;
    more_arms = λ test list rest h g. either (walk_list (the_carrier k) list) (walk_arms (the_carrier k) rest) h g;
    no_else = none;
    below_else = λ list h. h;
    no_statement = none;
    more_statements = λ s rest h g. either (walk_stmt (the_carrier k) s) (walk_list (the_carrier k) rest) h g;
  }

  pub carries_itself : (list : StmtTrees) (c : ℕ) → carrier_in k list ≡ Some c → c ≡ k
  carries_itself list = every_list S A E L steps list
