-- A module as it is written comes back from the module that stands for it.
use Rattle.std.proofs.Common.{◌≡◌, ℕ, ◌+◌, ◌≤◌, Bool, true, false, List, [], refl, sym, ap, ◌∙◌, subst, arith}
use Rattle.std.specs.Prelude.{Some, None, if◌then◌else◌}
use Rattle.std.proofs.lemmas.Bool.Decides.{nat_tests}
use Rattle.f77_ast.specs.Trees.{ExprTree, ExprTrees, StmtTree, stmt, WhatTree, assign, block_if, logical_if, do_loop, call, goto, continue, return, stop, print, read, ArmTree, arm, ArmTrees, no_arms, more_arms, ElseTree, no_else, otherwise, LoopTree, loop, StmtTrees, no_stmts, more_stmts}
use Rattle.f77_ast.specs.Trees as tree
use Rattle.f77_ast.specs.DeclTrees.{ModuleTree}
use Rattle.f77_ast.specs.Shapes.{IsLeaf}
use Rattle.f77_ast.specs.Hidden.{is_hidden, block, reference, do_while, all_but_last, without_last, form_of_body, form_of_if}
use Rattle.f77_ast.proofs.HiddenLaws.{visible_body}
use Rattle.f77_parser.specs.Elaborated.{Meant, and_last, one_arm, value_block, assigned, while_label, and_then_last, while_block, hidden_to, hidden_in, hidden_arms, elaborated_stmt, elaborated_what, elaborated_while, elaborated_arms, elaborated_else, elaborated_in, meant_in, elaborated}
use Rattle.roundtrip_programs.specs.ModuleTexts.Folded.{folded_by, folded_stmt, folded_what, folded_arms, folded_else, folded_in, inner_arms, IsSingle, WhileFitsBy, WhilesFitArms, WhilesFitElse, WhilesFit, folded}
use Rattle.roundtrip_programs.specs.ModuleTexts.Cards.{cards_in, while_numbers, written_cards, statements_of}
use Rattle.roundtrip_programs.proofs.ModuleTexts.Counting.{block-arms}
use Rattle.roundtrip_programs.specs.ModuleTexts.Numbered.{last_of, last_by, last_arms, last_else, last_in, NumberedBelow, NumberedArms, NumberedElse, AreNumbered, IsAsWritten, IsWell}

-- ---- numbers go up

mutual
  pub later-of : (n : ℕ) (s : StmtTree) → n + 1 ≤ last_of n s
  later-of n (stmt id label w) = later-by (n + 1) w

  pub later-by : (n : ℕ) (w : WhatTree) → n ≤ last_by n w
  later-by n (assign v e) = omega arith
  later-by n (block_if arms other) = let a = later-arms n arms in let b = later-else (last_arms n arms) other in omega (arith, a, b)
  later-by n (logical_if e s) = omega arith
  later-by n (do_loop (loop index first last step body)) = later-in n body
  later-by n (call c es) = omega arith
  later-by n (goto l) = omega arith
  later-by n continue = omega arith
  later-by n return = omega arith
  later-by n (stop t) = omega arith
  later-by n (print es) = omega arith
  later-by n (read es) = omega arith

  pub later-arms : (n : ℕ) (arms : ArmTrees) → n ≤ last_arms n arms
  later-arms n no_arms = omega arith
  later-arms n (more_arms (arm test body) others) = let a = later-in n body in let b = later-arms (last_in n body) others in omega (arith, a, b)

  pub later-else : (n : ℕ) (other : ElseTree) → n ≤ last_else n other
  later-else n no_else = omega arith
  later-else n (otherwise body) = later-in n body

  pub later-in : (n : ℕ) (body : StmtTrees) → n ≤ last_in n body
  later-in n no_stmts = omega arith
  later-in n (more_stmts s others) = let a = later-of n s in let b = later-in (last_of n s) others in omega (arith, a, b)

pub shown : (n id : ℕ) → id ≡ n + 1 → n + 1 ≤ 4096 → is_hidden id ≡ false
shown n id e h = grind (arith, nat_tests)

pub hidden : (h : ℕ) → is_hidden (4097 + h) ≡ true
hidden h = grind (arith, nat_tests)

-- ---- the value of a function

last-left : (es : ExprTrees) (d e : ExprTree) → all_but_last d (and_last es e) ≡ tree.more_exprs d es
last-left tree.no_exprs d e = refl
last-left (tree.more_exprs c es) d e = ap (λ x. tree.more_exprs d x) (last-left es c e)

pub without-and : (es : ExprTrees) (e : ExprTree) → without_last (and_last es e) ≡ es
without-and tree.no_exprs e = refl
without-and (tree.more_exprs c es) e = last-left es c e

value-folded : (m : Meant) (h : ℕ) (v : ExprTree) (f : List ℕ) (es : ExprTrees) → folded_what (value_block m h v f es) ≡ assign v (tree.element f es)
value-folded m h v f es =
    ap (λ c. folded_by (if c then reference v f (without_last (and_last es (tree.name f))) else block) (folded_arms arms) no_else (inner_arms arms)) (hidden h)
    ∙ ap (λ x. assign v (tree.element f x)) (without-and es (tree.name f))
  where
    arms : ArmTrees
    arms = more_arms (arm (tree.log true)
        (more_stmts (stmt (4097 + h) None (assign (tree.name f) (m.start f)))
        (more_stmts (stmt (4098 + h) None (call f (and_last es (tree.name f))))
        (more_stmts (stmt (4099 + h) None (assign v (tree.name f))) no_stmts)))) no_arms

assigned-folded : (m : Meant) (h : ℕ) (v e : ExprTree) → folded_what (assigned m h v e) ≡ assign v e
assigned-folded m h v (tree.element f es) = go (m.is_function f)
  where
    go : (c : Bool) → folded_what (if c then value_block m h v f es else assign v (tree.element f es)) ≡ assign v (tree.element f es)
    go true = value-folded m h v f es
    go false = refl
assigned-folded m h v e = refl

-- ---- block IFs

pub tested : (test : ExprTree) (body : StmtTrees) → form_of_body body ≡ block → form_of_if (more_arms (arm test body) no_arms) no_else ≡ block
tested (tree.log true) body e = e
tested test body e = refl

with-else : (test : ExprTree) (body list : StmtTrees) → form_of_if (more_arms (arm test body) no_arms) (otherwise list) ≡ block
with-else (tree.log true) body list = refl
with-else test body list = refl

more-parts : (test : ExprTree) (body : StmtTrees) (a : ArmTree) (others : ArmTrees) (other : ElseTree) → form_of_if (more_arms (arm test body) (more_arms a others)) other ≡ block
more-parts (tree.log true) body a others other = refl
more-parts test body a others other = refl

-- the first statement is one of the text
abbrev pub BeginsShown : StmtTrees → Type 0
BeginsShown no_stmts = Unit {0}
BeginsShown (more_stmts (stmt id label w) others) = is_hidden id ≡ false

abbrev pub FirstShown : ArmTrees → Type 0
FirstShown no_arms = Unit {0}
FirstShown (more_arms (arm test body) others) = BeginsShown body

pub body-block : (body : StmtTrees) → BeginsShown body → form_of_body body ≡ block
body-block no_stmts b = refl
body-block (more_stmts (stmt id label w) others) b = visible_body id label w others b

pub arms-block : (arms : ArmTrees) (other : ElseTree) → FirstShown arms → form_of_if arms other ≡ block
arms-block no_arms other b = refl
arms-block (more_arms (arm test body) no_arms) no_else b = tested test body (body-block body b)
arms-block (more_arms (arm test body) no_arms) (otherwise list) b = with-else test body list
arms-block (more_arms (arm test body) (more_arms a others)) other b = more-parts test body a others other

pub list-shown : (n : ℕ) (body : StmtTrees) → AreNumbered n body → last_in n body ≤ 4096 → BeginsShown body
list-shown n no_stmts a few = tt
list-shown n (more_stmts (stmt id label w) others) a few =
    let x = later-by (n + 1) w in let y = later-in (last_of n (stmt id label w)) others in shown n id a.first.number (omega (arith, x, y, few))

pub arms-shown : (n : ℕ) (arms : ArmTrees) → NumberedArms n arms → last_arms n arms ≤ 4096 → FirstShown arms
arms-shown n no_arms a few = tt
arms-shown n (more_arms (arm test body) others) a few = let x = later-arms (last_in n body) others in list-shown n body a.below (omega (arith, x, few))

pub elaborated-shown : (m : Meant) (h : ℕ) (body : StmtTrees) → BeginsShown body → BeginsShown (elaborated_in m h body)
elaborated-shown m h no_stmts b = tt
elaborated-shown m h (more_stmts (stmt id label w) others) b = b

pub elaborated-first : (m : Meant) (h : ℕ) (arms : ArmTrees) → FirstShown arms → FirstShown (elaborated_arms m h arms)
elaborated-first m h no_arms b = tt
elaborated-first m h (more_arms (arm test body) others) b = elaborated-shown m h body b

-- the statements of a DO WHILE, behind which the GO TO stands
pub kept-last : (list : StmtTrees) (g t : ℕ) → BeginsShown list → form_of_body (and_then_last list (stmt g None (goto t))) ≡ block
kept-last no_stmts g t b = refl
kept-last (more_stmts (stmt id label w) others) g t b = visible_body id label w (and_then_last others (stmt g None (goto t))) b

hidden-last : (list : StmtTrees) (h : ℕ) (w : WhatTree) → folded_in (and_then_last list (stmt (4097 + h) None w)) ≡ folded_in list
hidden-last no_stmts h w = ap (λ c. if c then no_stmts else more_stmts (stmt (4097 + h) None (folded_what w)) no_stmts) (hidden h)
hidden-last (more_stmts (stmt n label v) others) h w = ap (λ x. if is_hidden n then x else more_stmts (stmt n label (folded_what v)) x) (hidden-last others h w)

while-folded : (m : Meant) (n h k : ℕ) (test : ExprTree) (list body : StmtTrees) → form_of_body (and_then_last list (stmt (4097 + k) None (goto (while_label n)))) ≡ block
    → folded_in list ≡ body → folded_what (while_block n h k test list) ≡ one_arm test body
while-folded m n h k test list body form e =
    ap (λ c. folded_by (if c then do_while (while_label n) test all else block) (folded_arms outer) no_else (folded_what (one_arm test all))) (hidden h)
    ∙ ap (λ x. folded_by x (more_arms (arm test (folded_in all)) no_arms) no_else (inner_arms (more_arms (arm test all) no_arms))) (tested test all form)
    ∙ ap (one_arm test) (hidden-last list k (goto (while_label n)) ∙ e)
  where
    all : StmtTrees
    all = and_then_last list (stmt (4097 + k) None (goto (while_label n)))

    outer : ArmTrees
    outer = more_arms (arm (tree.log true) (more_stmts (stmt (4097 + h) (Some (while_label n)) (one_arm test all)) no_stmts)) no_arms

-- ---- all statements

module _ (m : Meant) where
  leaf-folded : (h n : ℕ) (w : WhatTree) → IsLeaf w → folded_what (elaborated_what m h n w) ≡ w
  leaf-folded h n (assign v e) l = assigned-folded m h v e
  leaf-folded h n (block_if arms other) l = cc
  leaf-folded h n (logical_if e s) l = cc
  leaf-folded h n (do_loop l) e = cc
  leaf-folded h n (call c es) l = refl
  leaf-folded h n (goto t) l = refl
  leaf-folded h n continue l = refl
  leaf-folded h n return l = refl
  leaf-folded h n (stop t) l = refl
  leaf-folded h n (print es) l = refl
  leaf-folded h n (read es) l = refl

  single-folded : (h : ℕ) (s : StmtTree) → IsSingle s → folded_stmt (elaborated_stmt m h s) ≡ s
  single-folded h (stmt n label w) l = ap (stmt n label) (leaf-folded h n w l)

  -- of the only part
  only-part : (test : ExprTree) (list body : StmtTrees) → more_arms (arm test list) no_arms ≡ more_arms (arm test body) no_arms → list ≡ body
  only-part test list body e = cc

  -- the parts being folded
  block-folded : (h n id : ℕ) (arms : ArmTrees) (other : ElseTree) (c : Bool) → NumberedBelow n (block_if arms other) → last_by n (block_if arms other) ≤ 4096 → WhileFitsBy m.is_while c (block_if arms other)
      → ((j : ℕ) → folded_arms (elaborated_arms m j arms) ≡ arms) → ((j : ℕ) → folded_else (elaborated_else m j other) ≡ other)
      → folded_what (if c then elaborated_while m h id arms else block_if (elaborated_arms m h arms) (elaborated_else m (hidden_arms m h arms) other)) ≡ block_if arms other
  block-folded h n id no_arms other c a few f p q = absurd a.parts
  block-folded h n id (more_arms (arm test body) others) other false a few f p q =
      let arms = more_arms (arm test body) others in
      let x = later-else (last_arms n arms) other in
      let k = hidden_arms m h arms in
      ap (λ y. folded_by y (folded_arms (elaborated_arms m h arms)) (folded_else (elaborated_else m k other)) (inner_arms (elaborated_arms m h arms)))
      (arms-block (elaborated_arms m h arms) (elaborated_else m k other) (elaborated-first m h arms (arms-shown n arms a.parts (omega (arith, x, few)))))
      ∙ ap (λ y. block_if y (folded_else (elaborated_else m k other))) (p h)
      ∙ ap (block_if arms) (q k)
  block-folded h n id (more_arms (arm test body) no_arms) no_else true a few f p q =
      let list = elaborated_in m (1 + h) body in
      let k = hidden_in m (1 + h) body in
      while-folded m id h k test list body (kept-last list (4097 + k) (while_label id) (elaborated-shown m (1 + h) body (list-shown n body a.parts.below few)))
      (only-part test (folded_in list) body (p (1 + h)))
  block-folded h n id (more_arms (arm test body) no_arms) (otherwise list) true a few f p q = absurd (f.alone refl)
  block-folded h n id (more_arms (arm test body) (more_arms y ys)) other true a few f p q = absurd (f.alone refl)

  mutual
    what-folded : (h n id : ℕ) (w : WhatTree) → NumberedBelow n w → last_by n w ≤ 4096 → WhileFitsBy m.is_while (m.is_while id) w → folded_what (elaborated_what m h id w) ≡ w
    what-folded h n id (assign v e) a few f = assigned-folded m h v e
    what-folded h n id (block_if arms other) a few f =
        let x = later-else (last_arms n arms) other in
        block-folded h n id arms other (m.is_while id) a few f
        (λ j. arms-folded j n arms (block-arms n arms a.parts) (omega (arith, x, few)) f.parts)
        (λ j. else-folded j (last_arms n arms) other a.last few f.last)
    what-folded h n id (logical_if e s) a few f = ap (logical_if e) (single-folded h s f)
    what-folded h n id (do_loop (loop index first last step body)) a few f = ap (λ x. do_loop (loop index first last step x)) (list_folded h n body a few f)
    what-folded h n id (call c es) a few f = refl
    what-folded h n id (goto t) a few f = refl
    what-folded h n id continue a few f = refl
    what-folded h n id return a few f = refl
    what-folded h n id (stop t) a few f = refl
    what-folded h n id (print es) a few f = refl
    what-folded h n id (read es) a few f = refl

    arms-folded : (h n : ℕ) (arms : ArmTrees) → NumberedArms n arms → last_arms n arms ≤ 4096 → WhilesFitArms m.is_while arms → folded_arms (elaborated_arms m h arms) ≡ arms
    arms-folded h n no_arms a few f = refl
    arms-folded h n (more_arms (arm test body) others) a few f =
        let x = later-arms (last_in n body) others in
        ap (λ y. more_arms (arm test y) (folded_arms (elaborated_arms m (hidden_in m h body) others))) (list_folded h n body a.below (omega (arith, x, few)) f.below)
        ∙ ap (more_arms (arm test body)) (arms-folded (hidden_in m h body) (last_in n body) others a.parts few f.parts)

    else-folded : (h n : ℕ) (other : ElseTree) → NumberedElse n other → last_else n other ≤ 4096 → WhilesFitElse m.is_while other → folded_else (elaborated_else m h other) ≡ other
    else-folded h n no_else a few f = refl
    else-folded h n (otherwise body) a few f = ap otherwise (list_folded h n body a few f)

    pub list_folded : (h n : ℕ) (body : StmtTrees) → AreNumbered n body → last_in n body ≤ 4096 → WhilesFit m.is_while body → folded_in (elaborated_in m h body) ≡ body
    list_folded h n no_stmts a few f = refl
    list_folded h n (more_stmts (stmt id label w) others) a few f =
        let x = later-by (n + 1) w in let y = later-in (last_of n (stmt id label w)) others in
        let rest = elaborated_in m (hidden_to m h (stmt id label w)) others in
        ap (λ c. if c then folded_in rest else more_stmts (stmt id label (folded_what (elaborated_what m h id w))) (folded_in rest)) (shown n id a.first.number (omega (arith, x, y, few)))
        ∙ ap (λ z. more_stmts (stmt id label z) (folded_in rest)) (what-folded h (n + 1) id w a.first.below (omega (arith, y, few)) f.first)
        ∙ ap (more_stmts (stmt id label w)) (list_folded (hidden_to m h (stmt id label w)) (last_of n (stmt id label w)) others a.behind few f.behind)

-- ---- modules

-- a module as it is written comes back
pub written_back : (w : ModuleTree) → IsAsWritten w → folded (elaborated w) ≡ w
unfolding folded elaborated
written_back w h =
    ap (λ x. record w { body = x; references = [] }) (list_folded (meant_in w) 0 0 w.body h.body h.few h.whiles)
    ∙ ap (λ x. record w { references = x }) (sym h.plain)

-- the module that stands for it is well
pub elaborated_well : (w : ModuleTree) → IsAsWritten w → IsWell (elaborated w)
unfolding elaborated
elaborated_well w h =
    let e = written_back w h in record {
      title = h.title;
      function = h.function;
      body = subst (λ (x : ModuleTree). AreNumbered 0 x.body) (sym e) h.body;
      few = subst (λ (x : ModuleTree). last_in 0 x.body ≤ 4096) (sym e) h.few;
      whiles = subst (λ (x : ModuleTree). WhilesFit (meant_in w).is_while x.body) (sym e) h.whiles;
      listed = subst (λ (x : ModuleTree). while_numbers (cards_in (meant_in w).is_while x.body) ≡ w.whiles) (sym e) h.listed;
      same = ap elaborated e;
    }

-- and the module as it is written is such
pub folded_written : (m : ModuleTree) → IsWell m → IsAsWritten (folded m)
unfolding folded
folded_written m h = record { title = h.title; function = h.function; body = h.body; few = h.few; whiles = h.whiles; listed = h.listed; plain = refl }

pub cards_written : (m : ModuleTree) → statements_of m ≡ written_cards (folded m)
unfolding folded statements_of written_cards
cards_written m = refl

pub cards_back : (w : ModuleTree) → IsAsWritten w → statements_of (elaborated w) ≡ written_cards w
cards_back w h = cards_written (elaborated w) ∙ ap written_cards (written_back w h)
