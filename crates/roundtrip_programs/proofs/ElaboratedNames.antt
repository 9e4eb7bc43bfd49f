-- The names of an elaborated module are those of the module as it is written, in the same order.
use Rattle.std.proofs.Common.{◌≡◌, ℕ, suc, ◌+◌, ◌≤◌, Bool, true, false, List, [], ◌∷◌, ◌++◌, refl, sym, ap, ◌∙◌, subst, arith}
use Rattle.std.specs.Prelude.{Option, Some, None, ◌||◌, is_some, bytes_eq, if◌then◌else◌}
use Rattle.fx_lists.proofs.Texts.{same_name}
use Rattle.f77_ast.specs.Trees.{ExprTree, ExprTrees, StmtTree, stmt, WhatTree, assign, block_if, logical_if, do_loop, call, goto, continue, return, stop, print, read, arm, ArmTrees, no_arms, more_arms, ElseTree, no_else, otherwise, LoopTree, loop, StmtTrees, no_stmts, more_stmts}
use Rattle.f77_ast.specs.Trees as tree
use Rattle.f77_ast.specs.DeclTrees.{ModuleTree}
use Rattle.f77_ast.specs.Shapes.{IsLeaf}
use Rattle.f77_ast.specs.Hidden.{IfForm, block, reference, do_while, without_last, form_of_if}
use Rattle.f77_names.specs.declared.functions.Function.{Function}
use Rattle.f77_names.specs.declared.kinds.Kind.{Kind}
use Rattle.f77_names.specs.declared.kinds.Kind.TheVariants as kind
use Rattle.f77_names.specs.Lines.{LineTable}
use Rattle.f77_names.specs.Functions.{function_of, arrays_named}
use Rattle.f77_names.specs.Entries.{EntryTree, fresh, find}
use Rattle.f77_names.specs.Appearing.{unless_function, name_seen, expr_seen, exprs_seen, maybe_seen, head_of, head_seen, stmt_seen, what_seen, arms_seen, else_seen, stmts_seen}
use Rattle.f77_names.specs.Declaring.{decls_told}
use Rattle.f77_names.specs.Kinds.{kinds_of, kind_of_name, kind_or}
use Rattle.f77_names.specs.Tables.{NameTable, title_told, table_of}
use Rattle.f77_parser.specs.Functions.{integer_names, logical_names, declared_type, zero_of}
use Rattle.f77_parser.specs.Elaborated.{Meant, meant_in, and_last, value_block, assigned, while_label, and_then_last, while_block, hidden_to, hidden_in, hidden_arms, elaborated_stmt, elaborated_what, elaborated_while, elaborated_arms, elaborated_else, elaborated_in, elaborated}
use Rattle.roundtrip_programs.specs.ModuleTexts.Folded.{IsSingle, WhileFitsBy, WhilesFitArms, WhilesFitElse, WhilesFit, folded}
use Rattle.roundtrip_programs.specs.ModuleTexts.Numbered.{last_of, last_by, last_arms, last_else, last_in, NumberedBelow, NumberedArms, NumberedElse, AreNumbered, IsWell}
use Rattle.roundtrip_programs.proofs.ModuleTexts.Counting.{block-arms}
use Rattle.roundtrip_programs.proofs.ModuleTexts.FoldedLaws.{later-by, later-arms, later-else, later-in, hidden, tested, arms-block, list-shown, arms-shown, elaborated-shown, elaborated-first, kept-last}
use Rattle.roundtrip_programs.proofs.Bare.{no_lines, bares}
use Rattle.roundtrip_programs.proofs.Named.{AreNamed}
use Rattle.roundtrip_programs.proofs.Told.{names_same}

module _ (fs : List Function) where
  -- ---- names that are there

  -- that of a function, or one that was met before
  abbrev Known : List ℕ → List EntryTree → Type 0
  Known x es = (is_some (function_of fs x) || is_some (find x es)) ≡ true

  -- nothing is lost
  abbrev Grows : List EntryTree → List EntryTree → Type 0
  Grows es ds = (x : List ℕ) → Known x es → Known x ds

  stays : (x : List ℕ) (line : ℕ) (es : List EntryTree) → Known x es → name_seen fs x line es ≡ es
  stays x line es = go (function_of fs x)
    where
      go : (o : Option Function) → (is_some o || is_some (find x es)) ≡ true → unless_function o x line es ≡ es
      go None k = ap (λ c. if c then es else es ++ fresh x line ∷ []) k
      go (Some f) k = refl

  found-still : (x : List ℕ) (es ds : List EntryTree) → is_some (find x es) ≡ true → is_some (find x (es ++ ds)) ≡ true
  unfolding find
  found-still x [] ds k = cc
  found-still x (e ∷ es) ds k = go (bytes_eq x e.name) k (found-still x es ds)
    where
      go : (c : Bool) → is_some (if c then Some e else find x es) ≡ true → (is_some (find x es) ≡ true → is_some (find x (es ++ ds)) ≡ true) → is_some (if c then Some e else find x (es ++ ds)) ≡ true
      go true k ih = refl
      go false k ih = ih k

  found-last : (x : List ℕ) (line : ℕ) (es : List EntryTree) → is_some (find x (es ++ fresh x line ∷ [])) ≡ true
  unfolding find
  found-last x line [] = ap (λ c. is_some (if c then Some (fresh x line) else None)) (same_name x)
  found-last x line (e ∷ es) = go (bytes_eq x e.name) (found-last x line es)
    where
      go : (c : Bool) → is_some (find x (es ++ fresh x line ∷ [])) ≡ true → is_some (if c then Some e else find x (es ++ fresh x line ∷ [])) ≡ true
      go true ih = refl
      go false ih = ih

  or-more : (a b c : Bool) → (b ≡ true → c ≡ true) → (a || b) ≡ true → (a || c) ≡ true
  or-more true b c f h = refl
  or-more false b c f h = f h

  name-grows : (y : List ℕ) (line : ℕ) (es : List EntryTree) → Grows es (name_seen fs y line es)
  name-grows y line es x k = go (function_of fs y)
    where
      one : (c : Bool) → Known x (if c then es else es ++ fresh y line ∷ [])
      one true = k
      one false = or-more (is_some (function_of fs x)) (is_some (find x es)) (is_some (find x (es ++ fresh y line ∷ []))) (found-still x es (fresh y line ∷ [])) k

      go : (o : Option Function) → Known x (unless_function o y line es)
      go None = one (is_some (find y es))
      go (Some f) = k

  name-known : (x : List ℕ) (line : ℕ) (es : List EntryTree) → Known x (name_seen fs x line es)
  name-known x line es = go (function_of fs x)
    where
      one : (c : Bool) → is_some (find x es) ≡ c → is_some (find x (if c then es else es ++ fresh x line ∷ [])) ≡ true
      one true e = e
      one false e = found-last x line es

      go : (o : Option Function) → (is_some o || is_some (find x (unless_function o x line es))) ≡ true
      go None = one (is_some (find x es)) refl
      go (Some f) = refl

  mutual
    expr-grows : (e : ExprTree) (line : ℕ) (es : List EntryTree) → Grows es (expr_seen fs e line es)
    expr-grows (tree.int n) line es x k = k
    expr-grows (tree.log b) line es x k = k
    expr-grows (tree.name y) line es x k = name-grows y line es x k
    expr-grows (tree.element y rest) line es x k = exprs-grow rest line (name_seen fs y line es) x (name-grows y line es x k)
    expr-grows (tree.paren e) line es x k = expr-grows e line es x k
    expr-grows (tree.unary o e) line es x k = expr-grows e line es x k
    expr-grows (tree.binary o a b) line es x k = expr-grows b line (expr_seen fs a line es) x (expr-grows a line es x k)
    expr-grows (tree.chars c) line es x k = k

    exprs-grow : (rest : ExprTrees) (line : ℕ) (es : List EntryTree) → Grows es (exprs_seen fs rest line es)
    exprs-grow tree.no_exprs line es x k = k
    exprs-grow (tree.more_exprs a rest) line es x k = exprs-grow rest line (expr_seen fs a line es) x (expr-grows a line es x k)

  -- all names of an expression are there
  abbrev mutual
    AllKnown : ExprTree → List EntryTree → Type 0
    AllKnown (tree.int n) es = Unit {0}
    AllKnown (tree.log b) es = Unit {0}
    AllKnown (tree.name x) es = Known x es
    AllKnown (tree.element x rest) es = Known x es × EachKnown rest es
    AllKnown (tree.paren e) es = AllKnown e es
    AllKnown (tree.unary o e) es = AllKnown e es
    AllKnown (tree.binary o a b) es = AllKnown a es × AllKnown b es
    AllKnown (tree.chars c) es = Unit {0}

    EachKnown : ExprTrees → List EntryTree → Type 0
    EachKnown tree.no_exprs es = Unit {0}
    EachKnown (tree.more_exprs a rest) es = AllKnown a es × EachKnown rest es

  mutual
    still-known : (e : ExprTree) (es ds : List EntryTree) → Grows es ds → AllKnown e es → AllKnown e ds
    still-known (tree.int n) es ds g k = tt
    still-known (tree.log b) es ds g k = tt
    still-known (tree.name x) es ds g k = g x k
    still-known (tree.element x rest) es ds g k = (g x k.0, still-each rest es ds g k.1)
    still-known (tree.paren e) es ds g k = still-known e es ds g k
    still-known (tree.unary o e) es ds g k = still-known e es ds g k
    still-known (tree.binary o a b) es ds g k = (still-known a es ds g k.0, still-known b es ds g k.1)
    still-known (tree.chars c) es ds g k = tt

    still-each : (rest : ExprTrees) (es ds : List EntryTree) → Grows es ds → EachKnown rest es → EachKnown rest ds
    still-each tree.no_exprs es ds g k = tt
    still-each (tree.more_exprs a rest) es ds g k = (still-known a es ds g k.0, still-each rest es ds g k.1)

  mutual
    now-known : (e : ExprTree) (line : ℕ) (es : List EntryTree) → AllKnown e (expr_seen fs e line es)
    now-known (tree.int n) line es = tt
    now-known (tree.log b) line es = tt
    now-known (tree.name x) line es = name-known x line es
    now-known (tree.element x rest) line es = let ds = name_seen fs x line es in (exprs-grow rest line ds x (name-known x line es), each-known rest line ds)
    now-known (tree.paren e) line es = now-known e line es
    now-known (tree.unary o e) line es = now-known e line es
    now-known (tree.binary o a b) line es =
        let ds = expr_seen fs a line es in (still-known a ds (expr_seen fs b line ds) (expr-grows b line ds) (now-known a line es), now-known b line ds)
    now-known (tree.chars c) line es = tt

    each-known : (rest : ExprTrees) (line : ℕ) (es : List EntryTree) → EachKnown rest (exprs_seen fs rest line es)
    each-known tree.no_exprs line es = tt
    each-known (tree.more_exprs a rest) line es =
        let ds = expr_seen fs a line es in (still-known a ds (exprs_seen fs rest line ds) (exprs-grow rest line ds) (now-known a line es), each-known rest line ds)

  mutual
    all-stay : (e : ExprTree) (line : ℕ) (es : List EntryTree) → AllKnown e es → expr_seen fs e line es ≡ es
    all-stay (tree.int n) line es k = refl
    all-stay (tree.log b) line es k = refl
    all-stay (tree.name x) line es k = stays x line es k
    all-stay (tree.element x rest) line es k = ap (λ ds. exprs_seen fs rest line ds) (stays x line es k.0) ∙ each-stay rest line es k.1
    all-stay (tree.paren e) line es k = all-stay e line es k
    all-stay (tree.unary o e) line es k = all-stay e line es k
    all-stay (tree.binary o a b) line es k = ap (λ ds. expr_seen fs b line ds) (all-stay a line es k.0) ∙ all-stay b line es k.1
    all-stay (tree.chars c) line es k = refl

    each-stay : (rest : ExprTrees) (line : ℕ) (es : List EntryTree) → EachKnown rest es → exprs_seen fs rest line es ≡ es
    each-stay tree.no_exprs line es k = refl
    each-stay (tree.more_exprs a rest) line es k = ap (λ ds. exprs_seen fs rest line ds) (all-stay a line es k.0) ∙ each-stay rest line es k.1

  -- ---- statements

  and-last : (rest : ExprTrees) (e : ExprTree) (line : ℕ) (es : List EntryTree) → exprs_seen fs (and_last rest e) line es ≡ expr_seen fs e line (exprs_seen fs rest line es)
  and-last tree.no_exprs e line es = refl
  and-last (tree.more_exprs a rest) e line es = and-last rest e line (expr_seen fs a line es)

  then-last : (list : StmtTrees) (g t : ℕ) (es : List EntryTree) → stmts_seen fs no_lines (and_then_last list (stmt g None (goto t))) 0 es ≡ stmts_seen fs no_lines list 0 es
  then-last no_stmts g t es = refl
  then-last (more_stmts s others) g t es = then-last others g t (stmt_seen fs no_lines s 0 es)

  -- that of a block IF which stands for itself
  pub no-head : (arms : ArmTrees) (other : ElseTree) (line : ℕ) (es : List EntryTree) → form_of_if arms other ≡ block → head_seen fs (head_of (form_of_if arms other)) line es ≡ es
  no-head arms other line es e = ap (λ (x : IfForm). head_seen fs (head_of x) line es) e

  module _ (m : Meant) (starts : (f : List ℕ) (es : List EntryTree) → expr_seen fs (m.start f) 0 es ≡ es) where
    value-seen : (h id : ℕ) (v : ExprTree) (f : List ℕ) (rest : ExprTrees) (es : List EntryTree) → what_seen fs no_lines (value_block m h v f rest) id 0 es ≡ what_seen fs no_lines (assign v (tree.element f rest)) id 0 es
    value-seen h id v f rest es =
        ap (λ c. three (head_seen fs (head_of (if c then reference v f (without_last (and_last rest (tree.name f))) else block)) 0 es)) (hidden h)
        ∙ ap (λ ds. second (expr_seen fs (m.start f) 0 ds)) (stays f 0 one (name-known f 0 (expr_seen fs v 0 es)))
        ∙ ap second (starts f one)
        ∙ ap third (and-last rest (tree.name f) 0 one ∙ stays f 0 all (exprs-grow rest 0 one f (name-known f 0 (expr_seen fs v 0 es))))
        ∙ ap (λ ds. name_seen fs f 0 ds) (all-stay v 0 all (still-known v one all (exprs-grow rest 0 one) (still-known v (expr_seen fs v 0 es) one (name-grows f 0 (expr_seen fs v 0 es)) (now-known v 0 es))))
        ∙ stays f 0 all (exprs-grow rest 0 one f (name-known f 0 (expr_seen fs v 0 es)))
      where
        one : List EntryTree
        one = name_seen fs f 0 (expr_seen fs v 0 es)

        all : List EntryTree
        all = exprs_seen fs rest 0 one

        third : List EntryTree → List EntryTree
        third ds = name_seen fs f 0 (expr_seen fs v 0 ds)

        second : List EntryTree → List EntryTree
        second ds = third (exprs_seen fs (and_last rest (tree.name f)) 0 ds)

        three : List EntryTree → List EntryTree
        three ds = second (expr_seen fs (m.start f) 0 (name_seen fs f 0 ds))

    assigned-seen : (h id : ℕ) (v e : ExprTree) (es : List EntryTree) → what_seen fs no_lines (assigned m h v e) id 0 es ≡ what_seen fs no_lines (assign v e) id 0 es
    assigned-seen h id v (tree.element f rest) es = go (m.is_function f)
      where
        go : (c : Bool) → what_seen fs no_lines (if c then value_block m h v f rest else assign v (tree.element f rest)) id 0 es ≡ what_seen fs no_lines (assign v (tree.element f rest)) id 0 es
        go true = value-seen h id v f rest es
        go false = refl
    assigned-seen h id v (tree.int i) es = refl
    assigned-seen h id v (tree.log b) es = refl
    assigned-seen h id v (tree.name x) es = refl
    assigned-seen h id v (tree.paren e) es = refl
    assigned-seen h id v (tree.unary o e) es = refl
    assigned-seen h id v (tree.binary o a b) es = refl
    assigned-seen h id v (tree.chars c) es = refl

    leaf-seen : (h id : ℕ) (w : WhatTree) (es : List EntryTree) → IsLeaf w → what_seen fs no_lines (elaborated_what m h id w) id 0 es ≡ what_seen fs no_lines w id 0 es
    leaf-seen h id (assign v e) es l = assigned-seen h id v e es
    leaf-seen h id (block_if arms other) es l = cc
    leaf-seen h id (logical_if e s) es l = cc
    leaf-seen h id (do_loop l) es e = cc
    leaf-seen h id (call c rest) es l = refl
    leaf-seen h id (goto t) es l = refl
    leaf-seen h id continue es l = refl
    leaf-seen h id return es l = refl
    leaf-seen h id (stop t) es l = refl
    leaf-seen h id (print rest) es l = refl
    leaf-seen h id (read rest) es l = refl

    single-seen : (h : ℕ) (s : StmtTree) (es : List EntryTree) → IsSingle s → stmt_seen fs no_lines (elaborated_stmt m h s) 0 es ≡ stmt_seen fs no_lines s 0 es
    single-seen h (stmt id label w) es l = leaf-seen h id w es l

    -- of a DO WHILE
    while-seen : (id h k : ℕ) (test : ExprTree) (list : StmtTrees) (es : List EntryTree) → form_of_if (more_arms (arm test (and_then_last list (stmt (4097 + k) None (goto (while_label id))))) no_arms) no_else ≡ block
        → what_seen fs no_lines (while_block id h k test list) id 0 es ≡ stmts_seen fs no_lines list 0 (expr_seen fs test 0 es)
    while-seen id h k test list es form =
        ap (λ c. inside (head_seen fs (head_of (if c then do_while (while_label id) test all else block)) 0 es)) (hidden h)
        ∙ ap (λ ds. stmts_seen fs no_lines all 0 (expr_seen fs test 0 ds)) (no-head (more_arms (arm test all) no_arms) no_else 0 es form)
        ∙ then-last list (4097 + k) (while_label id) (expr_seen fs test 0 es)
      where
        all : StmtTrees
        all = and_then_last list (stmt (4097 + k) None (goto (while_label id)))

        inside : List EntryTree → List EntryTree
        inside ds = stmts_seen fs no_lines all 0 (expr_seen fs test 0 (head_seen fs (head_of (form_of_if (more_arms (arm test all) no_arms) no_else)) 0 ds))

    -- the parts being so
    block-seen : (h n id : ℕ) (arms : ArmTrees) (other : ElseTree) (c : Bool) → NumberedBelow n (block_if arms other) → last_by n (block_if arms other) ≤ 4096 → WhileFitsBy m.is_while c (block_if arms other)
        → ((j k : ℕ) (es : List EntryTree) → arms_seen fs no_lines (elaborated_arms m j arms) id k 0 es ≡ arms_seen fs no_lines arms id k 0 es)
        → ((j : ℕ) (es : List EntryTree) → else_seen fs no_lines (elaborated_else m j other) 0 es ≡ else_seen fs no_lines other 0 es) → (es : List EntryTree)
        → what_seen fs no_lines (if c then elaborated_while m h id arms else block_if (elaborated_arms m h arms) (elaborated_else m (hidden_arms m h arms) other)) id 0 es
        ≡ what_seen fs no_lines (block_if arms other) id 0 es
    block-seen h n id no_arms other c a few f p q es = absurd a.parts
    block-seen h n id (more_arms (arm test body) others) other false a few f p q es =
        let arms = more_arms (arm test body) others in
        let k = hidden_arms m h arms in
        let x = later-else (last_arms n arms) other in
        let b = arms-shown n arms a.parts (omega (arith, x, few)) in
        ap (λ ds. else_seen fs no_lines (elaborated_else m k other) 0 (arms_seen fs no_lines (elaborated_arms m h arms) id 0 0 ds))
        (no-head (elaborated_arms m h arms) (elaborated_else m k other) 0 es (arms-block (elaborated_arms m h arms) (elaborated_else m k other) (elaborated-first m h arms b))
        ∙ sym (no-head arms other 0 es (arms-block arms other b)))
        ∙ ap (λ ds. else_seen fs no_lines (elaborated_else m k other) 0 ds) (p h 0 (head_seen fs (head_of (form_of_if arms other)) 0 es))
        ∙ q k (arms_seen fs no_lines arms id 0 0 (head_seen fs (head_of (form_of_if arms other)) 0 es))
    block-seen h n id (more_arms (arm test body) no_arms) no_else true a few f p q es =
        let arms = more_arms (arm test body) no_arms in
        let list = elaborated_in m (1 + h) body in
        let k = hidden_in m (1 + h) body in
        let b = list-shown n body a.parts.below few in
        while-seen id h k test list es (tested test (and_then_last list (stmt (4097 + k) None (goto (while_label id)))) (kept-last list (4097 + k) (while_label id) (elaborated-shown m (1 + h) body b)))
        ∙ p (1 + h) 0 es
        ∙ ap (λ ds. arms_seen fs no_lines arms id 0 0 ds) (sym (no-head arms no_else 0 es (arms-block arms no_else b)))
    block-seen h n id (more_arms (arm test body) no_arms) (otherwise list) true a few f p q es = absurd (f.alone refl)
    block-seen h n id (more_arms (arm test body) (more_arms y ys)) other true a few f p q es = absurd (f.alone refl)

    mutual
      what-seen : (h n id : ℕ) (w : WhatTree) → NumberedBelow n w → last_by n w ≤ 4096 → WhileFitsBy m.is_while (m.is_while id) w → (es : List EntryTree)
          → what_seen fs no_lines (elaborated_what m h id w) id 0 es ≡ what_seen fs no_lines w id 0 es
      what-seen h n id (assign v e) a few f es = assigned-seen h id v e es
      what-seen h n id (block_if arms other) a few f es =
          let x = later-else (last_arms n arms) other in
          block-seen h n id arms other (m.is_while id) a few f
          (λ j k ds. arms-seen j n id k arms (block-arms n arms a.parts) (omega (arith, x, few)) f.parts ds)
          (λ j ds. else-seen j (last_arms n arms) other a.last few f.last ds) es
      what-seen h n id (logical_if e s) a few f es = single-seen h s (expr_seen fs e 0 es) f
      what-seen h n id (do_loop (loop index first last step body)) a few f es = list-seen h n body a few f (maybe_seen fs step 0 (expr_seen fs last 0 (expr_seen fs first 0 (name_seen fs index 0 es))))
      what-seen h n id (call c rest) a few f es = refl
      what-seen h n id (goto t) a few f es = refl
      what-seen h n id continue a few f es = refl
      what-seen h n id return a few f es = refl
      what-seen h n id (stop t) a few f es = refl
      what-seen h n id (print rest) a few f es = refl
      what-seen h n id (read rest) a few f es = refl

      arms-seen : (h n id k : ℕ) (arms : ArmTrees) → NumberedArms n arms → last_arms n arms ≤ 4096 → WhilesFitArms m.is_while arms → (es : List EntryTree)
          → arms_seen fs no_lines (elaborated_arms m h arms) id k 0 es ≡ arms_seen fs no_lines arms id k 0 es
      arms-seen h n id k no_arms a few f es = refl
      arms-seen h n id k (more_arms (arm test body) others) a few f es =
          let x = later-arms (last_in n body) others in
          ap (λ ds. arms_seen fs no_lines (elaborated_arms m (hidden_in m h body) others) id (suc k) 0 ds) (list-seen h n body a.below (omega (arith, x, few)) f.below (expr_seen fs test 0 es))
          ∙ arms-seen (hidden_in m h body) (last_in n body) id (suc k) others a.parts few f.parts (stmts_seen fs no_lines body 0 (expr_seen fs test 0 es))

      else-seen : (h n : ℕ) (other : ElseTree) → NumberedElse n other → last_else n other ≤ 4096 → WhilesFitElse m.is_while other → (es : List EntryTree)
          → else_seen fs no_lines (elaborated_else m h other) 0 es ≡ else_seen fs no_lines other 0 es
      else-seen h n no_else a few f es = refl
      else-seen h n (otherwise body) a few f es = list-seen h n body a few f es

      pub list-seen : (h n : ℕ) (body : StmtTrees) → AreNumbered n body → last_in n body ≤ 4096 → WhilesFit m.is_while body → (es : List EntryTree)
          → stmts_seen fs no_lines (elaborated_in m h body) 0 es ≡ stmts_seen fs no_lines body 0 es
      list-seen h n no_stmts a few f es = refl
      list-seen h n (more_stmts (stmt id label w) others) a few f es =
          let x = later-by (n + 1) w in let y = later-in (last_of n (stmt id label w)) others in
          let g = hidden_to m h (stmt id label w) in
          ap (λ ds. stmts_seen fs no_lines (elaborated_in m g others) 0 ds) (what-seen h (n + 1) id w a.first.below (omega (arith, y, few)) f.first es)
          ∙ list-seen g (last_of n (stmt id label w)) others a.behind few f.behind (stmt_seen fs no_lines (stmt id label w) 0 es)

-- with which a result begins there is no name
pub zero-seen : (fs : List Function) (k : Kind) (es : List EntryTree) → expr_seen fs (zero_of k) 0 es ≡ es
zero-seen fs kind.Int es = refl
zero-seen fs kind.Log es = refl
zero-seen fs kind.Real es = refl

pub start-seen : (fs : List Function) (w : ModuleTree) (f : List ℕ) (es : List EntryTree) → expr_seen fs ((meant_in w).start f) 0 es ≡ es
start-seen fs w f es = zero-seen fs (kind_or (kind_of_name (kinds_of w.decls) f) (declared_type (integer_names w.decls) (logical_names w.decls) f)) es

-- ---- tables

-- the names of a module do not depend on lines
named-bare : (P : List ℕ → Type 0) (es : List EntryTree) → AreNamed P (bares es) → AreNamed P es
named-bare P [] h = tt
named-bare P (e ∷ es) h = record { first = h.first; others = named-bare P es h.others }

pub named-at : (P : List ℕ → Type 0) (at : LineTable) (m : ModuleTree) → AreNamed P (table_of no_lines m).entries → AreNamed P (table_of at m).entries
named-at P at m h = named-bare P (table_of at m).entries (subst (λ (t : NameTable). AreNamed P t.entries) (sym (names_same at m)) h)

-- and they are those of the module as it is written
pub tables-written : (m : ModuleTree) → IsWell m → table_of no_lines m ≡ table_of no_lines (folded m)
unfolding folded elaborated
tables-written m w =
    let fs = arrays_named m.decls in
    let t = decls_told fs no_lines m.decls 0 (title_told no_lines m) in
    ap (λ es. record { entries = es; kinds = kinds_of m.decls; arrays = arrays_named m.decls })
    (ap (λ (x : ModuleTree). stmts_seen fs no_lines x.body 0 t.entries) (sym w.same)
    ∙ list-seen fs (meant_in (folded m)) (start-seen fs (folded m)) 0 0 (folded m).body w.body w.few w.whiles t.entries)
