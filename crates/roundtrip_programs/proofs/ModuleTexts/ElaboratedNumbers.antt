-- The numbers of the statements of an elaborated module: those of the text go up by one, and so do those of hidden statements.
use Rattle.std.proofs.Common.{◌≡◌, ◌⊎◌, inl, inr, ⊎_elim, ℕ, zero, suc, ◌+◌, ◌<◌, ◌≤◌, Bool, true, false, List, [], ◌∷◌, ◌++◌, refl, sym, ap, ◌∙◌, subst, arith, append_assoc, append-nil}
use Rattle.std.specs.Prelude.{Some, None, if◌then◌else◌, slice_get}
use Rattle.f77_ast.specs.Trees.{ExprTree, ExprTrees, StmtTree, stmt, WhatTree, assign, block_if, logical_if, do_loop, call, goto, continue, return, stop, print, read, arm, ArmTrees, no_arms, more_arms, ElseTree, no_else, otherwise, LoopTree, loop, StmtTrees, no_stmts, more_stmts}
use Rattle.f77_ast.specs.Trees as tree
use Rattle.f77_ast.specs.Shapes.{IsLeaf}
use Rattle.f77_ast.specs.StatementNumbers.{stmt_numbers, part_numbers, list_numbers, arms_numbers, else_numbers, StandOnce, HasNumbers}
use Rattle.f77_parser.specs.Elaborated.{Meant, is_value, value_block, assigned, while_label, and_then_last, while_block, hidden_to, hidden_by, hidden_while, hidden_arms, hidden_else, hidden_in, elaborated_stmt, elaborated_what, elaborated_while, elaborated_arms, elaborated_else, elaborated_in, one_arm}
use Rattle.roundtrip_programs.specs.ModuleTexts.Folded.{OnePart, WhileFits, WhileFitsBy, WhilesFitArms, WhilesFitElse, WhilesFit}
use Rattle.roundtrip_programs.proofs.ModuleTexts.Counting.{block-arms}
use Rattle.roundtrip_programs.specs.ModuleTexts.Numbered.{last_of, last_by, last_arms, last_else, last_in, IsNumbered, NumberedBelow, NumberedBlock, NumberedArms, NumberedElse, AreNumbered}

-- ---- numbers in two rows

-- these are the numbers behind n up to m, and those of the hidden statements behind h up to k, each in its order
abbrev pub Rows : ℕ → ℕ → List ℕ → ℕ → ℕ → Type 0
Rows n h [] m k = (n ≡ m) × (h ≡ k)
Rows n h (x ∷ xs) m k = ((x ≡ n + 1) × Rows (n + 1) h xs m k) ⊎ ((x ≡ 4097 + h) × Rows n (h + 1) xs m k)

pub rows-joined : (n h i j m k : ℕ) (xs ys : List ℕ) → Rows n h xs i j → Rows i j ys m k → Rows n h (xs ++ ys) m k
rows-joined n h i j m k [] ys r q = subst (λ a. Rows a h ys m k) (sym r.0) (subst (λ b. Rows i b ys m k) (sym r.1) q)
rows-joined n h i j m k (x ∷ xs) ys (inl r) q = inl (r.0, rows-joined (n + 1) h i j m k xs ys r.1 q)
rows-joined n h i j m k (x ∷ xs) ys (inr r) q = inr (r.0, rows-joined n (h + 1) i j m k xs ys r.1 q)

rows-end : (n h m k : ℕ) (xs : List ℕ) → Rows n h xs m k → Rows n h (xs ++ []) m k
rows-end n h m k xs r = rows-joined n h m k m k xs [] r (refl, refl)

rows-one : (n h : ℕ) (x : ℕ) → x ≡ 4097 + h → Rows n h (x ∷ []) n (h + 1)
rows-one n h x e = inr (e, (refl, refl))

-- ---- the value of a function

value-rows : (m : Meant) (n h : ℕ) (v : ExprTree) (f : List ℕ) (es : ExprTrees) → Rows n h (part_numbers (value_block m h v f es)) n (3 + h)
value-rows m n h v f es = inr (refl, inr (omega arith, inr (omega arith, (refl, omega arith))))

assigned-rows : (m : Meant) (n h : ℕ) (v e : ExprTree) → Rows n h (part_numbers (assigned m h v e)) n (if is_value m e then 3 + h else h)
assigned-rows m n h v (tree.element f es) = go (m.is_function f)
  where
    go : (c : Bool) → Rows n h (part_numbers (if c then value_block m h v f es else assign v (tree.element f es))) n (if c then 3 + h else h)
    go true = value-rows m n h v f es
    go false = (refl, refl)
assigned-rows m n h v (tree.int i) = (refl, refl)
assigned-rows m n h v (tree.log b) = (refl, refl)
assigned-rows m n h v (tree.name x) = (refl, refl)
assigned-rows m n h v (tree.paren e) = (refl, refl)
assigned-rows m n h v (tree.unary o e) = (refl, refl)
assigned-rows m n h v (tree.binary o a b) = (refl, refl)
assigned-rows m n h v (tree.chars x) = (refl, refl)

-- ---- a DO WHILE

last-rows : (n h i j : ℕ) (list : StmtTrees) (g : ℕ) (w : WhatTree) → part_numbers w ≡ [] → g ≡ 4097 + j → Rows n h (list_numbers list) i j → Rows n h (list_numbers (and_then_last list (stmt g None w))) i (j + 1)
last-rows n h i j list g w p e r = subst (λ xs. Rows n h xs i (j + 1)) (sym (numbers list)) (rows-joined n h i j i (j + 1) (list_numbers list) (g ∷ []) r (rows-one i j g e))
  where
    numbers : (l : StmtTrees) → list_numbers (and_then_last l (stmt g None w)) ≡ list_numbers l ++ g ∷ []
    numbers no_stmts = ap (λ xs. (g ∷ xs) ++ []) p
    numbers (more_stmts s others) = ap (λ xs. stmt_numbers s ++ xs) (numbers others) ∙ sym (append_assoc (stmt_numbers s) (list_numbers others) (g ∷ []))

while-rows : (n h k i id : ℕ) (test : ExprTree) (list : StmtTrees) → Rows n (1 + h) (list_numbers list) i k → Rows n h (part_numbers (while_block id h k test list)) i (1 + k)
while-rows n h k i id test list r =
    let all = and_then_last list (stmt (4097 + k) None (goto (while_label id))) in
    let inside : Rows n (h + 1) (list_numbers all) i (1 + k) =
    subst (λ j. Rows n (h + 1) (list_numbers all) i j) (omega arith) (last-rows n (h + 1) i k list (4097 + k) (goto (while_label id)) refl refl (subst (λ j. Rows n j (list_numbers list) i k) (omega arith) r)) in
    let one = rows-end n (h + 1) i (1 + k) (list_numbers all ++ []) (rows-end n (h + 1) i (1 + k) (list_numbers all) inside) in
    let two : Rows n h (stmt_numbers (stmt (4097 + h) (Some (while_label id)) (one_arm test all))) i (1 + k) = inr (refl, one) in
    let xs = stmt_numbers (stmt (4097 + h) (Some (while_label id)) (one_arm test all)) in
    rows-end n h i (1 + k) ((xs ++ []) ++ []) (rows-end n h i (1 + k) (xs ++ []) (rows-end n h i (1 + k) xs two))

-- ---- all statements

module _ (m : Meant) where
  leaf-rows : (n h id : ℕ) (w : WhatTree) → IsLeaf w → Rows n h (part_numbers (elaborated_what m h id w)) n (hidden_by m h id w)
  leaf-rows n h id (assign v e) l = assigned-rows m n h v e
  leaf-rows n h id (block_if arms other) l = cc
  leaf-rows n h id (logical_if e s) l = cc
  leaf-rows n h id (do_loop l) e = cc
  leaf-rows n h id (call c es) l = (refl, refl)
  leaf-rows n h id (goto t) l = (refl, refl)
  leaf-rows n h id continue l = (refl, refl)
  leaf-rows n h id return l = (refl, refl)
  leaf-rows n h id (stop t) l = (refl, refl)
  leaf-rows n h id (print es) l = (refl, refl)
  leaf-rows n h id (read es) l = (refl, refl)

  -- the parts being so
  block-rows : (n h id : ℕ) (arms : ArmTrees) (other : ElseTree) (c : Bool) → NumberedBlock n arms → (c ≡ true → OnePart arms other)
      → ((j : ℕ) → Rows n j (arms_numbers (elaborated_arms m j arms)) (last_arms n arms) (hidden_arms m j arms))
      → ((j : ℕ) → Rows (last_arms n arms) j (else_numbers (elaborated_else m j other)) (last_else (last_arms n arms) other) (hidden_else m j other))
      → Rows n h (part_numbers (if c then elaborated_while m h id arms else block_if (elaborated_arms m h arms) (elaborated_else m (hidden_arms m h arms) other)))
      (last_else (last_arms n arms) other) (if c then hidden_while m h arms else hidden_else m (hidden_arms m h arms) other)
  block-rows n h id arms other false a one p q =
      rows-joined n h (last_arms n arms) (hidden_arms m h arms) (last_else (last_arms n arms) other) (hidden_else m (hidden_arms m h arms) other)
      (arms_numbers (elaborated_arms m h arms)) (else_numbers (elaborated_else m (hidden_arms m h arms) other)) (p h) (q (hidden_arms m h arms))
  block-rows n h id no_arms other true a one p q = absurd a
  block-rows n h id (more_arms (arm test body) no_arms) no_else true a one p q =
      while-rows n h (hidden_in m (1 + h) body) (last_in n body) id test (elaborated_in m (1 + h) body)
      (subst (λ xs. Rows n (1 + h) xs (last_in n body) (hidden_in m (1 + h) body)) (append-nil (list_numbers (elaborated_in m (1 + h) body))) (p (1 + h)))
  block-rows n h id (more_arms (arm test body) no_arms) (otherwise list) true a one p q = absurd (one refl)
  block-rows n h id (more_arms (arm test body) (more_arms y ys)) other true a one p q = absurd (one refl)

  mutual
    stmt-rows : (h n : ℕ) (s : StmtTree) → IsNumbered n s → WhileFits m.is_while s → Rows n h (stmt_numbers (elaborated_stmt m h s)) (last_of n s) (hidden_to m h s)
    stmt-rows h n (stmt id label w) a f = inl (a.number, what-rows h (n + 1) id w a.below f)

    what-rows : (h n id : ℕ) (w : WhatTree) → NumberedBelow n w → WhileFitsBy m.is_while (m.is_while id) w → Rows n h (part_numbers (elaborated_what m h id w)) (last_by n w) (hidden_by m h id w)
    what-rows h n id (assign v e) a f = assigned-rows m n h v e
    what-rows h n id (block_if arms other) a f =
        block-rows n h id arms other (m.is_while id) a.parts f.alone
        (λ j. arms-rows j n arms (block-arms n arms a.parts) f.parts) (λ j. else-rows j (last_arms n arms) other a.last f.last)
    what-rows h n id (logical_if e (stmt inner own w)) a f = inl (a.number, leaf-rows (n + 1) h inner w f)
    what-rows h n id (do_loop (loop index first last step body)) a f = list-rows h n body a f
    what-rows h n id (call c es) a f = (refl, refl)
    what-rows h n id (goto t) a f = (refl, refl)
    what-rows h n id continue a f = (refl, refl)
    what-rows h n id return a f = (refl, refl)
    what-rows h n id (stop t) a f = (refl, refl)
    what-rows h n id (print es) a f = (refl, refl)
    what-rows h n id (read es) a f = (refl, refl)

    arms-rows : (h n : ℕ) (arms : ArmTrees) → NumberedArms n arms → WhilesFitArms m.is_while arms → Rows n h (arms_numbers (elaborated_arms m h arms)) (last_arms n arms) (hidden_arms m h arms)
    arms-rows h n no_arms a f = (refl, refl)
    arms-rows h n (more_arms (arm test body) others) a f =
        rows-joined n h (last_in n body) (hidden_in m h body) (last_arms (last_in n body) others) (hidden_arms m (hidden_in m h body) others)
        (list_numbers (elaborated_in m h body)) (arms_numbers (elaborated_arms m (hidden_in m h body) others))
        (list-rows h n body a.below f.below) (arms-rows (hidden_in m h body) (last_in n body) others a.parts f.parts)

    else-rows : (h n : ℕ) (other : ElseTree) → NumberedElse n other → WhilesFitElse m.is_while other → Rows n h (else_numbers (elaborated_else m h other)) (last_else n other) (hidden_else m h other)
    else-rows h n no_else a f = (refl, refl)
    else-rows h n (otherwise body) a f = list-rows h n body a f

    pub list-rows : (h n : ℕ) (body : StmtTrees) → AreNumbered n body → WhilesFit m.is_while body → Rows n h (list_numbers (elaborated_in m h body)) (last_in n body) (hidden_in m h body)
    list-rows h n no_stmts a f = (refl, refl)
    list-rows h n (more_stmts s others) a f =
        rows-joined n h (last_of n s) (hidden_to m h s) (last_in (last_of n s) others) (hidden_in m (hidden_to m h s) others)
        (stmt_numbers (elaborated_stmt m h s)) (list_numbers (elaborated_in m (hidden_to m h s) others))
        (stmt-rows h n s a.first f.first) (list-rows (hidden_to m h s) (last_of n s) others a.behind f.behind)

-- ---- none stands twice

-- one of them is behind n and no more than m, or hidden and behind h
abbrev Within : ℕ → ℕ → ℕ → ℕ → Type 0
Within n h m x = ((n + 1 ≤ x) × (x ≤ m)) ⊎ (4097 + h ≤ x)

pub rows-up : (n h m k : ℕ) (xs : List ℕ) → Rows n h xs m k → n ≤ m
rows-up n h m k [] r = omega (arith, r.0)
rows-up n h m k (x ∷ xs) (inl r) = let q = rows-up (n + 1) h m k xs r.1 in omega (arith, q)
rows-up n h m k (x ∷ xs) (inr r) = rows-up n (h + 1) m k xs r.1

rows-within : (n h m k : ℕ) (xs : List ℕ) (i x : ℕ) → Rows n h xs m k → slice_get xs i ≡ Some x → Within n h m x
rows-within n h m k [] i x r e = cc
rows-within n h m k (y ∷ xs) zero x (inl r) e = let same : y ≡ x = cc in let up = rows-up (n + 1) h m k xs r.1 in let first = r.0 in inl (omega (arith, same, up, first), omega (arith, same, up, first))
rows-within n h m k (y ∷ xs) zero x (inr r) e = let same : y ≡ x = cc in let first = r.0 in inr (omega (arith, same, first))
rows-within n h m k (y ∷ xs) (suc i) x (inl r) e = ⊎_elim (λ q. inl (omega (arith, q.0), q.1)) (λ q. inr q) (rows-within (n + 1) h m k xs i x r.1 e)
rows-within n h m k (y ∷ xs) (suc i) x (inr r) e = ⊎_elim (λ q. inl q) (λ q. inr (omega (arith, q))) (rows-within n (h + 1) m k xs i x r.1 e)

none-again : (n h m k x : ℕ) (xs : List ℕ) (j : ℕ) → m ≤ 4096 → Rows n h (x ∷ xs) m k → slice_get xs j ≡ Some x → ⊥
none-again n h m k x xs j few (inl r) e =
    let up = rows-up (n + 1) h m k xs r.1 in let first = r.0 in
    ⊎_elim (λ q. (let z : n + 1 + 1 ≤ x = q.0 in omega (arith, z, first))) (λ q. omega (arith, q, first, few, up)) (rows-within (n + 1) h m k xs j x r.1 e)
none-again n h m k x xs j few (inr r) e =
    let first = r.0 in
    ⊎_elim (λ q. (let z : x ≤ m = q.1 in omega (arith, z, first, few))) (λ q. omega (arith, q, first)) (rows-within n (h + 1) m k xs j x r.1 e)

rest-rows : (P : Type 0) (n h m k x : ℕ) (xs : List ℕ) → Rows n h (x ∷ xs) m k → ((a b : ℕ) → Rows a b xs m k → P) → P
rest-rows P n h m k x xs (inl r) f = f (n + 1) h r.1
rest-rows P n h m k x xs (inr r) f = f n (h + 1) r.1

pub rows-once : (n h m k : ℕ) (xs : List ℕ) → m ≤ 4096 → Rows n h xs m k → StandOnce xs
rows-once n h m k [] few r i j x e f = cc
rows-once n h m k (y ∷ xs) few r zero zero x e f = refl
rows-once n h m k (y ∷ xs) few r zero (suc j) x e f = let same : y ≡ x = cc in absurd (none-again n h m k y xs j few r (f ∙ ap Some (sym same)))
rows-once n h m k (y ∷ xs) few r (suc i) zero x e f = let same : y ≡ x = cc in absurd (none-again n h m k y xs i few r (e ∙ ap Some (sym same)))
rows-once n h m k (y ∷ xs) few r (suc i) (suc j) x e f =
    ap suc (rest-rows (i ≡ j) n h m k y xs r (λ a b q. rows-once a b m k xs few q i j x e f))

pub rows-above : (n h m k : ℕ) (xs : List ℕ) → Rows n h xs m k → (i x : ℕ) → slice_get xs i ≡ Some x → 0 < x
rows-above n h m k xs r i x e = ⊎_elim (λ q. omega (arith, q.0)) (λ q. omega (arith, q)) (rows-within n h m k xs i x r e)

pub elaborated_numbers : (m : Meant) (body : StmtTrees) → AreNumbered 0 body → last_in 0 body ≤ 4096 → WhilesFit m.is_while body → HasNumbers (elaborated_in m 0 body)
elaborated_numbers m body a few f =
    let r = list-rows m 0 0 body a f in
    record {
      once = rows-once 0 0 (last_in 0 body) (hidden_in m 0 body) (list_numbers (elaborated_in m 0 body)) few r;
      above = rows-above 0 0 (last_in 0 body) (hidden_in m 0 body) (list_numbers (elaborated_in m 0 body)) r;
    }
