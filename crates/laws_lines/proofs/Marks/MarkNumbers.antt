-- The marks of a module are of its DO statements, in the order of the text, and their numbers go up. A statement that stands for another (f77_ast, specs/Hidden) has the DO statements of that one.
use Rattle.std.proofs.Common.{◌≡◌, ℕ, ◌+◌, ◌<◌, ◌≤◌, Bool, true, false, List, [], ◌∷◌, ◌++◌, map, Option, None, arith, refl, sym, ap, ap₂, ◌∙◌, subst, append-nil}
use Rattle.std.specs.Prelude.{if◌then◌else◌}
use Rattle.std.proofs.lemmas.List.{map-append}
use Rattle.f77_ast.specs.Trees.{ExprTree, StmtTree, WhatTree, ArmTrees, ElseTree, LoopTree, StmtTrees}
use Rattle.f77_ast.specs.Trees as tree
use Rattle.f77_ast.specs.DeclTrees.{ModuleTree}
use Rattle.f77_ast.specs.Shapes.{Walk, IsLeaf, walk_stmt, walk_what, walk_body, walk_arms, walk_else, walk_list}
use Rattle.f77_ast.specs.declared.results.At.{At}
use Rattle.f77_ast.specs.declared.marks.Mark.{Mark}
use Rattle.f77_parser.specs.Elaborated.{Meant, meant_in, value_block, assigned, while_label, and_then_last, while_block, hidden_to, hidden_arms, hidden_in, elaborated_stmt, elaborated_what, elaborated_while, elaborated_arms, elaborated_else, elaborated_in, elaborated}
use Rattle.loop_marker.specs.Marks.{the_marks}
use Rattle.laws_programs.specs.roundtrip_programs.ModuleTexts.Folded.{folded, OnePart, WhilesFitArms, WhilesFitElse, WhilesFit, WhileFits, WhileFitsBy}
use Rattle.laws_programs.specs.roundtrip_programs.ModuleTexts.Numbered.{last_of, last_by, last_body, last_in, last_arms, last_else, IsNumbered, NumberedBelow, NumberedArms, NumberedElse, AreNumbered, IsWell}
use Rattle.laws_lines.specs.Marks.Marked.{the_loops, loops_in}

-- ---- what a walk finds in DO statements

-- what is made of a statement in a logical IF, and of a DO
abbrev pub found_loops : {A : Type 0} → (List A → List A) → (ℕ → Option ℕ → LoopTree → A) → Walk (List A)
found_loops inside made = record {
  of_leaf = λ n label w. [];
  of_inner = λ n label test s. inside s;
  of_body = λ n label l body. made n label l ∷ body;
  of_arms = λ n label arms other. arms ++ other;
  of_arm = λ test body rest. body ++ rest;
  of_no_arms = [];
  of_else = λ body. body;
  of_no_else = [];
  of_more = λ s rest. s ++ rest;
  of_end = [];
}

-- in the statements of the text and in those that stand for them: in a logical IF there is no DO
module _ {A : Type 0} (inside : List A → List A) (made : ℕ → Option ℕ → LoopTree → A) (number : A → ℕ) (none : inside [] ≡ []) (same : (n : ℕ) (label : Option ℕ) (l : LoopTree) → number (made n label l) ≡ n) (m : Meant) where
  abbrev W : Walk (List A)
  W = found_loops inside made

  abbrev numbers : List A → List ℕ
  numbers xs = map number xs

  both : (xs ys : List A) (ms ns : List ℕ) → numbers xs ≡ ms → numbers ys ≡ ns → numbers (xs ++ ys) ≡ ms ++ ns
  both xs ys ms ns h k = map-append number xs ys ∙ ap₂ (λ (x y : List ℕ). x ++ y) h k

  -- an assignment has none, and neither has the block IF that stands for it
  assigned-none : (h id : ℕ) (label : Option ℕ) (v e : ExprTree) → walk_what W id label (assigned m h v e) ≡ []
  assigned-none h id label v (tree.element f es) = go (m.is_function f)
    where
      go : (c : Bool) → walk_what W id label (if c then value_block m h v f es else tree.assign v (tree.element f es)) ≡ []
      go true = refl
      go false = refl
  assigned-none h id label v (tree.int n) = refl
  assigned-none h id label v (tree.log b) = refl
  assigned-none h id label v (tree.name x) = refl
  assigned-none h id label v (tree.paren e) = refl
  assigned-none h id label v (tree.unary op e) = refl
  assigned-none h id label v (tree.binary op a b) = refl
  assigned-none h id label v (tree.chars c) = refl

  leaf-none : (h id : ℕ) (label : Option ℕ) (w : WhatTree) → IsLeaf w → walk_what W id label (elaborated_what m h id w) ≡ []
  leaf-none h id label (tree.assign v e) l = assigned-none h id label v e
  leaf-none h id label (tree.block_if arms other) l = cc
  leaf-none h id label (tree.logical_if e s) l = cc
  leaf-none h id label (tree.do_loop l) e = cc
  leaf-none h id label (tree.call c es) l = refl
  leaf-none h id label (tree.goto t) l = refl
  leaf-none h id label tree.continue l = refl
  leaf-none h id label tree.return l = refl
  leaf-none h id label (tree.stop t) l = refl
  leaf-none h id label (tree.print es) l = refl
  leaf-none h id label (tree.read es) l = refl

  -- behind the statements of a DO WHILE there is a GO TO
  last-none : (list : StmtTrees) (g t : ℕ) → walk_list W (and_then_last list (tree.stmt g None (tree.goto t))) ≡ walk_list W list
  last-none tree.no_stmts g t = refl
  last-none (tree.more_stmts s rest) g t = ap (λ (x : List A). walk_stmt W s ++ x) (last-none rest g t)

  while-same : (id h k : ℕ) (label : Option ℕ) (test : ExprTree) (list : StmtTrees) → walk_what W id label (while_block id h k test list) ≡ walk_list W list
  while-same id h k label test list =
      let all = walk_list W (and_then_last list (tree.stmt (4097 + k) None (tree.goto (while_label id)))) in
      append-nil ((((all ++ []) ++ []) ++ []) ++ []) ∙ append-nil (((all ++ []) ++ []) ++ []) ∙ append-nil ((all ++ []) ++ []) ∙ append-nil (all ++ []) ∙ append-nil all
      ∙ last-none list (4097 + k) (while_label id)

  -- the parts being so
  block-found : (h id : ℕ) (label : Option ℕ) (arms : ArmTrees) (other : ElseTree) (c : Bool) → (c ≡ true → OnePart arms other)
      → ((j : ℕ) → numbers (walk_arms W (elaborated_arms m j arms)) ≡ walk_arms the_loops arms) → ((j : ℕ) → numbers (walk_else W (elaborated_else m j other)) ≡ walk_else the_loops other)
      → numbers (walk_what W id label (if c then elaborated_while m h id arms else tree.block_if (elaborated_arms m h arms) (elaborated_else m (hidden_arms m h arms) other)))
      ≡ walk_what the_loops id label (tree.block_if arms other)
  block-found h id label arms other false one f g =
      let k = hidden_arms m h arms in
      both (walk_arms W (elaborated_arms m h arms)) (walk_else W (elaborated_else m k other)) (walk_arms the_loops arms) (walk_else the_loops other) (f h) (g k)
  block-found h id label (tree.more_arms (tree.arm test body) tree.no_arms) tree.no_else true one f g =
      let list = elaborated_in m (1 + h) body in
      ap numbers (while-same id h (hidden_in m (1 + h) body) label test list ∙ sym (append-nil (walk_list W list))) ∙ f (1 + h) ∙ sym (append-nil (walk_list the_loops body ++ []))
  block-found h id label tree.no_arms other true one f g = absurd (one refl)
  block-found h id label (tree.more_arms (tree.arm test body) tree.no_arms) (tree.otherwise list) true one f g = absurd (one refl)
  block-found h id label (tree.more_arms (tree.arm test body) (tree.more_arms y ys)) other true one f g = absurd (one refl)

  mutual
    stmt-found : (h : ℕ) (s : StmtTree) → WhileFits m.is_while s → numbers (walk_stmt W (elaborated_stmt m h s)) ≡ walk_stmt the_loops s
    stmt-found h (tree.stmt id label w) f = what-found h id label w f

    what-found : (h id : ℕ) (label : Option ℕ) (w : WhatTree) → WhileFitsBy m.is_while (m.is_while id) w → numbers (walk_what W id label (elaborated_what m h id w)) ≡ walk_what the_loops id label w
    what-found h id label (tree.assign v e) f = ap numbers (assigned-none h id label v e)
    what-found h id label (tree.block_if arms other) f = block-found h id label arms other (m.is_while id) f.alone (λ j. arms-found j arms f.parts) (λ j. else-found j other f.last)
    what-found h id label (tree.logical_if e (tree.stmt inner own w)) f = ap (λ (x : List A). numbers (inside x)) (leaf-none h inner own w f) ∙ ap numbers none
    what-found h id label (tree.do_loop (tree.loop index first last step body)) f =
        ap₂ (λ (n : ℕ) (ns : List ℕ). n ∷ ns) (same id label (tree.loop index first last step (elaborated_in m h body))) (list-found h body f)
    what-found h id label (tree.call c es) f = refl
    what-found h id label (tree.goto t) f = refl
    what-found h id label tree.continue f = refl
    what-found h id label tree.return f = refl
    what-found h id label (tree.stop t) f = refl
    what-found h id label (tree.print es) f = refl
    what-found h id label (tree.read es) f = refl

    arms-found : (h : ℕ) (arms : ArmTrees) → WhilesFitArms m.is_while arms → numbers (walk_arms W (elaborated_arms m h arms)) ≡ walk_arms the_loops arms
    arms-found h tree.no_arms f = refl
    arms-found h (tree.more_arms (tree.arm test body) others) f =
        both (walk_list W (elaborated_in m h body)) (walk_arms W (elaborated_arms m (hidden_in m h body) others)) (walk_list the_loops body) (walk_arms the_loops others)
        (list-found h body f.below) (arms-found (hidden_in m h body) others f.parts)

    else-found : (h : ℕ) (other : ElseTree) → WhilesFitElse m.is_while other → numbers (walk_else W (elaborated_else m h other)) ≡ walk_else the_loops other
    else-found h tree.no_else f = refl
    else-found h (tree.otherwise body) f = list-found h body f

    list-found : (h : ℕ) (ss : StmtTrees) → WhilesFit m.is_while ss → numbers (walk_list W (elaborated_in m h ss)) ≡ walk_list the_loops ss
    list-found h tree.no_stmts f = refl
    list-found h (tree.more_stmts s others) f =
        both (walk_stmt W (elaborated_stmt m h s)) (walk_list W (elaborated_in m (hidden_to m h s) others)) (walk_stmt the_loops s) (walk_list the_loops others)
        (stmt-found h s f.first) (list-found (hidden_to m h s) others f.behind)

each_itself : (ns : List ℕ) → map (λ (n : ℕ). n) ns ≡ ns
each_itself [] = refl
each_itself (n ∷ ns) = ap (λ (x : List ℕ). n ∷ x) (each_itself ns)

-- the DO statements of a module are those of the module as it is written
pub loops_written : (m : ModuleTree) → IsWell m → loops_in m.body ≡ loops_in (folded m).body
unfolding folded elaborated
loops_written m w =
    ap (λ (x : ModuleTree). loops_in x.body) (sym w.same) ∙ sym (each_itself (loops_in (elaborated (folded m)).body))
    ∙ list-found (λ s. []) (λ n label l. n) (λ n. n) refl (λ n label l. refl) (meant_in m) 0 (folded m).body w.whiles

pub marks_numbers : (f : ℕ → Option ℕ → LoopTree → Mark) (m : ModuleTree) → IsWell m → map (λ (x : At Mark). x.id) (walk_list (the_marks f) m.body) ≡ loops_in m.body
unfolding folded elaborated
marks_numbers f m w =
    ap (λ (x : ModuleTree). map (λ (y : At Mark). y.id) (walk_list (the_marks f) x.body)) (sym w.same)
    ∙ list-found (λ s. s) (λ n label l. record { id = n; value = f n label l }) (λ (y : At Mark). y.id) refl (λ n label l. refl) (meant_in m) 0 (folded m).body w.whiles
    ∙ sym (loops_written m w)

-- ---- their numbers go up

-- behind the first number, up to the second
abbrev pub Rise : ℕ → ℕ → List ℕ → Type 0
Rise a b [] = a ≤ b
Rise a b (x ∷ xs) = (a < x) × Rise x b xs

lower : (a b c : ℕ) (xs : List ℕ) → a ≤ b → Rise b c xs → Rise a c xs
lower a b c [] l h = omega arith
lower a b c (x ∷ xs) l h = let k = h.0 in (omega (arith, l, k), h.1)

joined : (a b c : ℕ) (xs ys : List ℕ) → Rise a b xs → Rise b c ys → Rise a c (xs ++ ys)
joined a b c [] ys h k = lower a b c ys h k
joined a b c (x ∷ xs) ys h k = (h.0, joined x b c xs ys h.1 k)

mutual
  stmt_rises : (n : ℕ) (s : StmtTree) → IsNumbered n s → Rise n (last_of n s) (walk_stmt the_loops s)
  stmt_rises n (tree.stmt id label w) k = what_rises n id label w k.number k.below

  what_rises : (n id : ℕ) (label : Option ℕ) (w : WhatTree) → id ≡ n + 1 → NumberedBelow (n + 1) w → Rise n (last_by (n + 1) w) (walk_what the_loops id label w)
  what_rises n id label (tree.assign a b) e h = omega arith
  what_rises n id label (tree.block_if tree.no_arms other) e h = absurd h.parts
  what_rises n id label (tree.block_if (tree.more_arms (tree.arm test body) others) other) e h =
      let a = last_in (n + 1) body in
      let b = last_arms a others in
      let arms = joined (n + 1) a b (walk_list the_loops body) (walk_arms the_loops others) (list_rises (n + 1) body h.parts.below) (arms_rise a others h.parts.parts) in
      lower n (n + 1) (last_else b other) ((walk_list the_loops body ++ walk_arms the_loops others) ++ walk_else the_loops other) (omega arith)
      (joined (n + 1) b (last_else b other) (walk_list the_loops body ++ walk_arms the_loops others) (walk_else the_loops other) arms (else_rises b other h.last))
  what_rises n id label (tree.logical_if test s) e h = omega arith
  what_rises n id label (tree.do_loop l) e h = (omega (arith, e), subst (λ (i : ℕ). Rise i (last_body (n + 1) l) (walk_body the_loops l)) (sym e) (body_rises (n + 1) l h))
  what_rises n id label (tree.call x es) e h = omega arith
  what_rises n id label (tree.goto l) e h = omega arith
  what_rises n id label tree.continue e h = omega arith
  what_rises n id label tree.return e h = omega arith
  what_rises n id label (tree.stop text) e h = omega arith
  what_rises n id label (tree.print es) e h = omega arith
  what_rises n id label (tree.read es) e h = omega arith

  body_rises : (n : ℕ) (l : LoopTree) → NumberedBelow n (tree.do_loop l) → Rise n (last_body n l) (walk_body the_loops l)
  body_rises n (tree.loop index first last step body) h = list_rises n body h

  arms_rise : (n : ℕ) (arms : ArmTrees) → NumberedArms n arms → Rise n (last_arms n arms) (walk_arms the_loops arms)
  arms_rise n tree.no_arms h = omega arith
  arms_rise n (tree.more_arms (tree.arm test body) others) h =
      let a = last_in n body in
      joined n a (last_arms a others) (walk_list the_loops body) (walk_arms the_loops others) (list_rises n body h.below) (arms_rise a others h.parts)

  else_rises : (n : ℕ) (other : ElseTree) → NumberedElse n other → Rise n (last_else n other) (walk_else the_loops other)
  else_rises n tree.no_else h = omega arith
  else_rises n (tree.otherwise body) h = list_rises n body h

  list_rises : (n : ℕ) (ss : StmtTrees) → AreNumbered n ss → Rise n (last_in n ss) (walk_list the_loops ss)
  list_rises n tree.no_stmts h = omega arith
  list_rises n (tree.more_stmts s others) h =
      joined n (last_of n s) (last_in (last_of n s) others) (walk_stmt the_loops s) (walk_list the_loops others) (stmt_rises n s h.first) (list_rises (last_of n s) others h.behind)

pub loops_rise : (m : ModuleTree) → IsWell m → Rise 0 (last_in 0 (folded m).body) (loops_in m.body)
loops_rise m w = subst (Rise 0 (last_in 0 (folded m).body)) (sym (loops_written m w)) (list_rises 0 (folded m).body w.body)
