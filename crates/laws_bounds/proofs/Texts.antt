-- The elements in the statements of a module that is read are written with allowed characters.
use Rattle.std.proofs.Common.{◌≡◌, ℕ, ◌+◌, Bool, true, false, List, [], ◌∷◌, ◌++◌, refl, sym, ◌∙◌, subst}
use Rattle.std.specs.Prelude.{Option, Some, None, codes, if◌then◌else◌}
use Rattle.std.specs.List.{list_all}
use Rattle.std.proofs.lemmas.Bool.{and_parts}
use Rattle.std.proofs.lemmas.List.Folds.{list_all-append}
use Rattle.fixed_form.specs.Characters.{is_allowed}
use Rattle.f77_ast.specs.declared.places.Part.TheVariants as parts
use Rattle.f77_ast.specs.Operators.{unary_word, binary_word}
use Rattle.f77_ast.specs.Trees.{ExprTree, ExprTrees, StmtTree, WhatTree, ArmTrees, ElseTree, StmtTrees}
use Rattle.f77_ast.specs.Trees as tree
use Rattle.f77_ast.specs.DeclTrees.{ParsedTree, ModuleTree}
use Rattle.f77_names.specs.declared.kinds.Kind.{Kind}
use Rattle.f77_names.specs.declared.kinds.Kind.TheVariants as kind
use Rattle.f77_names.specs.Kinds.{kinds_of, kind_of_name, kind_or}
use Rattle.f77_parser.specs.Functions.{integer_names, logical_names, declared_type, zero_of}
use Rattle.f77_parser.specs.Elaborated.{Meant, meant_in, and_last, value_block, assigned, while_label, and_then_last, hidden_to, hidden_arms, hidden_in, elaborated_stmt, elaborated_what, elaborated_while, elaborated_arms, elaborated_else, elaborated_in, elaborated}
use Rattle.f77_printer.specs.ExprText.{expr_text, exprs_text, items_text}
use Rattle.f77_printer.specs.StatementText.{what_text, actuals_text, step_text}
use Rattle.f77_statements.specs.Phrases.{end_do, end_module}
use Rattle.laws_programs.specs.SymbolTables.Shapes.{Shaped, AllShaped, ShapedActual, ShapedActuals, ShapedStep, ShapedStmt, ShapedWhat, ShapedArms, ShapedElse, ShapedList}
use Rattle.laws_programs.specs.roundtrip_programs.Statements.Formed.{Each}
use Rattle.laws_programs.specs.roundtrip_programs.Statements.Phrased.{IsWhat}
use Rattle.laws_programs.specs.roundtrip_programs.Statements.Written.{phrase_text}
use Rattle.laws_programs.specs.roundtrip_programs.ModuleTexts.Cards.{Card, card, if_head, if_end, cards_of, cards_by, part_cards, else_cards, cards_in, title_cards, decl_cards, statements_of}
use Rattle.laws_programs.specs.roundtrip_programs.ModuleTexts.Folded.{OnePart, WhileFits, WhileFitsBy, WhilesFitArms, WhilesFitElse, WhilesFit, folded}
use Rattle.laws_programs.specs.roundtrip_programs.ModuleTexts.Numbered.{last_of, last_arms, last_in, IsNumbered, NumberedBelow, NumberedArms, NumberedElse, AreNumbered}
use Rattle.laws_programs.proofs.RoundtripPrograms.Texts.Whole.{IsGood, IsSound}
use Rattle.laws_bounds.specs.Faults.{AnyName}

-- ---- texts

abbrev pub IsAllowed : List ℕ → Type 0
IsAllowed t = list_all is_allowed t ≡ true

both_allowed : (xs ys : List ℕ) → IsAllowed (xs ++ ys) → IsAllowed xs × IsAllowed ys
both_allowed xs ys h = and_parts (list_all is_allowed xs) (list_all is_allowed ys) (sym (list_all-append is_allowed xs ys) ∙ h)

first : (xs ys : List ℕ) → IsAllowed (xs ++ ys) → IsAllowed xs
first xs ys h = (both_allowed xs ys h).0

last : (xs ys : List ℕ) → IsAllowed (xs ++ ys) → IsAllowed ys
last xs ys h = (both_allowed xs ys h).1

-- ---- expressions

-- the text of the element of a name
abbrev pub IsTextual : List ℕ → ExprTrees → Type 0
IsTextual x es = IsAllowed (expr_text (tree.element x es))

mutual
  value_texts : (e : ExprTree) → IsAllowed (expr_text e) → Shaped AnyName IsTextual e
  value_texts (tree.int n) h = tt
  value_texts (tree.log b) h = tt
  value_texts (tree.name x) h = tt
  value_texts (tree.element x es) h = (h, values_texts es (last (x ++ codes "(") (exprs_text es) (first (x ++ codes "(" ++ exprs_text es) (codes ")") h)))
  value_texts (tree.paren e) h = value_texts e (last (codes "(") (expr_text e) (first (codes "(" ++ expr_text e) (codes ")") h))
  value_texts (tree.unary op e) h = value_texts e (last (unary_word op) (expr_text e) h)
  value_texts (tree.binary op a b) h =
      (value_texts a (first (expr_text a) (binary_word op) (first (expr_text a ++ binary_word op) (expr_text b) h)), value_texts b (last (expr_text a ++ binary_word op) (expr_text b) h))
  value_texts (tree.chars c) h = tt

  values_texts : (es : ExprTrees) → IsAllowed (exprs_text es) → AllShaped AnyName IsTextual es
  values_texts tree.no_exprs h = tt
  values_texts (tree.more_exprs e es) h = (value_texts e (first (expr_text e) (items_text es) h), items_texts es (last (expr_text e) (items_text es) h))

  items_texts : (es : ExprTrees) → IsAllowed (items_text es) → AllShaped AnyName IsTextual es
  items_texts tree.no_exprs h = tt
  items_texts (tree.more_exprs e es) h =
      (value_texts e (last (codes ",") (expr_text e) (first (codes "," ++ expr_text e) (items_text es) h)), items_texts es (last (codes "," ++ expr_text e) (items_text es) h))

actual_texts : (e : ExprTree) → Shaped AnyName IsTextual e → ShapedActual AnyName IsTextual e
actual_texts (tree.int n) h = tt
actual_texts (tree.log b) h = tt
actual_texts (tree.name x) h = tt
actual_texts (tree.element x es) h = h
actual_texts (tree.paren e) h = h
actual_texts (tree.unary op e) h = h
actual_texts (tree.binary op a b) h = h
actual_texts (tree.chars c) h = tt

actuals_texts : (es : ExprTrees) → AllShaped AnyName IsTextual es → ShapedActuals AnyName IsTextual es
actuals_texts tree.no_exprs h = tt
actuals_texts (tree.more_exprs e es) h = (actual_texts e h.0, actuals_texts es h.1)

-- and the result behind the actuals
and_last_texts : (es : ExprTrees) (x : List ℕ) → ShapedActuals AnyName IsTextual es → ShapedActuals AnyName IsTextual (and_last es (tree.name x))
and_last_texts tree.no_exprs x h = (tt, tt)
and_last_texts (tree.more_exprs e es) x h = (h.0, and_last_texts es x h.1)

call_texts : (es : ExprTrees) → IsAllowed (actuals_text es) → ShapedActuals AnyName IsTextual es
call_texts tree.no_exprs h = tt
call_texts (tree.more_exprs e es) h =
    let all = tree.more_exprs e es in
    actuals_texts all (values_texts all (last (codes "(") (exprs_text all) (first (codes "(" ++ exprs_text all) (codes ")") h)))

step_texts : (step : Option ExprTree) → IsAllowed (step_text step) → ShapedStep AnyName IsTextual step
step_texts None h = tt
step_texts (Some e) h = value_texts e (last (codes ",") (expr_text e) h)

test_texts : (while : Bool) (e : ExprTree) → IsAllowed (phrase_text (if_head while e)) → Shaped AnyName IsTextual e
test_texts true e h = value_texts e (last (codes "DO WHILE (") (expr_text e) (first (codes "DO WHILE (" ++ expr_text e) (codes ")") h))
test_texts false e h = value_texts e (last (codes "IF (") (expr_text e) (first (codes "IF (" ++ expr_text e) (codes ") THEN") h))

-- ---- statements

abbrev AllGood : List Card → Type 0
AllGood cs = Each IsGood cs

split : (xs ys : List Card) → AllGood (xs ++ ys) → AllGood xs × AllGood ys
split [] ys h = (tt, h)
split (x ∷ xs) ys h = let r = split xs ys h.others in (record { first = h.first; others = r.0 }, r.1)

module _ (m : Meant) (starts : (f : List ℕ) → Shaped AnyName IsTextual (m.start f)) where
  assigned_texts : (h : ℕ) (v e : ExprTree) → Shaped AnyName IsTextual v → Shaped AnyName IsTextual e → ShapedWhat AnyName IsTextual (assigned m h v e)
  assigned_texts h v (tree.element f es) k l = go (m.is_function f)
    where
      go : (c : Bool) → ShapedWhat AnyName IsTextual (if c then value_block m h v f es else tree.assign v (tree.element f es))
      go true = (((tt, ((tt, starts f), (and_last_texts es f (actuals_texts es l.1), ((k, tt), tt)))), tt), tt)
      go false = (k, l)
  assigned_texts h v (tree.int n) k l = (k, l)
  assigned_texts h v (tree.log b) k l = (k, l)
  assigned_texts h v (tree.name x) k l = (k, l)
  assigned_texts h v (tree.paren e) k l = (k, l)
  assigned_texts h v (tree.unary op e) k l = (k, l)
  assigned_texts h v (tree.binary op a b) k l = (k, l)
  assigned_texts h v (tree.chars c) k l = (k, l)

  plain_texts : (h id : ℕ) (w : WhatTree) → IsWhat w → IsAllowed (what_text w) → ShapedWhat AnyName IsTextual (elaborated_what m h id w)
  plain_texts h id (tree.assign a b) k l =
      assigned_texts h a b (value_texts a (first (expr_text a) (codes " = ") (first (expr_text a ++ codes " = ") (expr_text b) l))) (value_texts b (last (expr_text a ++ codes " = ") (expr_text b) l))
  plain_texts h id (tree.block_if arms other) k l = absurd k
  plain_texts h id (tree.logical_if e s) k l = absurd k
  plain_texts h id (tree.do_loop loop) k l = absurd k
  plain_texts h id (tree.call x es) k l = call_texts es (last (codes "CALL " ++ x) (actuals_text es) l)
  plain_texts h id (tree.goto t) k l = tt
  plain_texts h id tree.continue k l = tt
  plain_texts h id tree.return k l = tt
  plain_texts h id (tree.stop text) k l = tt
  plain_texts h id (tree.print es) k l = items_texts es (last (codes "PRINT *") (items_text es) l)
  plain_texts h id (tree.read es) k l = items_texts es (last (codes "READ *") (items_text es) l)

  last_texts : (list : StmtTrees) (g t : ℕ) → ShapedList AnyName IsTextual list → ShapedList AnyName IsTextual (and_then_last list (tree.stmt g None (tree.goto t)))
  last_texts tree.no_stmts g t k = (tt, tt)
  last_texts (tree.more_stmts s rest) g t k = (k.0, last_texts rest g t k.1)

  -- the parts being so
  block_texts : (h id : ℕ) (arms : ArmTrees) (other : ElseTree) (c : Bool) → (c ≡ true → OnePart arms other)
      → ((j : ℕ) → ShapedArms AnyName IsTextual (elaborated_arms m j arms)) → ((j : ℕ) → ShapedElse AnyName IsTextual (elaborated_else m j other))
      → ShapedWhat AnyName IsTextual (if c then elaborated_while m h id arms else tree.block_if (elaborated_arms m h arms) (elaborated_else m (hidden_arms m h arms) other))
  block_texts h id arms other false one f g = (f h, g (hidden_arms m h arms))
  block_texts h id (tree.more_arms (tree.arm test body) tree.no_arms) tree.no_else true one f g =
      let own = (f (1 + h)).0 in
      (((tt, ((((own.0, last_texts (elaborated_in m (1 + h) body) (4097 + hidden_in m (1 + h) body) (while_label id) own.1), tt), tt), tt)), tt), tt)
  block_texts h id tree.no_arms other true one f g = absurd (one refl)
  block_texts h id (tree.more_arms (tree.arm test body) tree.no_arms) (tree.otherwise list) true one f g = absurd (one refl)
  block_texts h id (tree.more_arms (tree.arm test body) (tree.more_arms y ys)) other true one f g = absurd (one refl)

  -- the statements that stand for others, by those that are written
  mutual
    list_texts : (h n : ℕ) (t : StmtTrees) → AreNumbered n t → WhilesFit m.is_while t → AllGood (cards_in m.is_while t) → ShapedList AnyName IsTextual (elaborated_in m h t)
    list_texts h n tree.no_stmts b a k = tt
    list_texts h n (tree.more_stmts s rest) b a k =
        let r = split (cards_of m.is_while s) (cards_in m.is_while rest) k in (stmt_texts h n s b.first a.first r.0, list_texts (hidden_to m h s) (last_of n s) rest b.behind a.behind r.1)

    stmt_texts : (h n : ℕ) (s : StmtTree) → IsNumbered n s → WhileFits m.is_while s → AllGood (cards_of m.is_while s) → ShapedStmt AnyName IsTextual (elaborated_stmt m h s)
    stmt_texts h n (tree.stmt id label w) b a k = what_texts h (n + 1) w id label b.below a k

    what_texts : (h n : ℕ) (w : WhatTree) (id : ℕ) (label : Option ℕ) → NumberedBelow n w → WhileFitsBy m.is_while (m.is_while id) w → AllGood (cards_by m.is_while id label w)
        → ShapedWhat AnyName IsTextual (elaborated_what m h id w)
    what_texts h n (tree.assign u e) id label b a k = plain_texts h id (tree.assign u e) k.first.own.phrase k.first.fits.allowed
    what_texts h n (tree.block_if tree.no_arms other) id label b a k = absurd b.parts
    what_texts h n (tree.block_if (tree.more_arms (tree.arm test body) others) other) id label b a k =
        let close = card (parts.Close id) None (if_end (m.is_while id)) ∷ [] in
        let end = else_cards m.is_while id other ++ close in
        let r = split (cards_in m.is_while body) (part_cards m.is_while id 1 others end) k.others in
        let behind = last_in n body in
        let own = test_texts (m.is_while id) test k.first.fits.allowed in
        let last = (arms_texts 0 behind others id 1 end b.parts.parts a.parts.parts r.1).1 in
        block_texts h id (tree.more_arms (tree.arm test body) others) other (m.is_while id) a.alone
        (λ j. ((own, list_texts j n body b.parts.below a.parts.below r.0), (arms_texts (hidden_in m j body) behind others id 1 end b.parts.parts a.parts.parts r.1).0))
        (λ j. else_texts j (last_arms behind others) other id b.last a.last (split (else_cards m.is_while id other) close last).0)
    what_texts h n (tree.logical_if e (tree.stmt inner own w)) id label b a k =
        let all = k.first.fits.allowed in
        let front = codes "IF (" ++ expr_text e in (
          value_texts e (last (codes "IF (") (expr_text e) (first front (codes ") ") (first (front ++ codes ") ") (what_text w) all))),
          plain_texts h inner w k.first.own.phrase.inner (last (front ++ codes ") ") (what_text w) all),
        )
    what_texts h n (tree.do_loop (tree.loop index from to step body)) id label b a k =
        let all = k.first.fits.allowed in
        let front = codes "DO " ++ index ++ codes " = " in
        let head = front ++ expr_text from ++ codes "," in
        let bounds = first (head ++ expr_text to) (step_text step) all in (
          tt,
          value_texts from (last front (expr_text from) (first (front ++ expr_text from) (codes ",") (first head (expr_text to) bounds))),
          value_texts to (last head (expr_text to) bounds),
          step_texts step (last (head ++ expr_text to) (step_text step) all),
          list_texts h n body b a (split (cards_in m.is_while body) (card (parts.Close id) None end_do ∷ []) k.others).0,
        )
    what_texts h n (tree.call x es) id label b a k = plain_texts h id (tree.call x es) k.first.own.phrase k.first.fits.allowed
    what_texts h n (tree.goto l) id label b a k = tt
    what_texts h n tree.continue id label b a k = tt
    what_texts h n tree.return id label b a k = tt
    what_texts h n (tree.stop text) id label b a k = tt
    what_texts h n (tree.print es) id label b a k = plain_texts h id (tree.print es) k.first.own.phrase k.first.fits.allowed
    what_texts h n (tree.read es) id label b a k = plain_texts h id (tree.read es) k.first.own.phrase k.first.fits.allowed

    arms_texts : (h n : ℕ) (arms : ArmTrees) (id place : ℕ) (end : List Card) → NumberedArms n arms → WhilesFitArms m.is_while arms → AllGood (part_cards m.is_while id place arms end)
        → ShapedArms AnyName IsTextual (elaborated_arms m h arms) × AllGood end
    arms_texts h n tree.no_arms id place end b a k = (tt, k)
    arms_texts h n (tree.more_arms (tree.arm test body) others) id place end b a k =
        let r = split (cards_in m.is_while body) (part_cards m.is_while id (place + 1) others end) k.others in
        let q = arms_texts (hidden_in m h body) (last_in n body) others id (place + 1) end b.parts a.parts r.1 in
        let own = value_texts test (last (codes "ELSE IF (") (expr_text test) (first (codes "ELSE IF (" ++ expr_text test) (codes ") THEN") k.first.fits.allowed)) in
        (((own, list_texts h n body b.below a.below r.0), q.0), q.1)

    else_texts : (h n : ℕ) (other : ElseTree) (id : ℕ) → NumberedElse n other → WhilesFitElse m.is_while other → AllGood (else_cards m.is_while id other) → ShapedElse AnyName IsTextual (elaborated_else m h other)
    else_texts h n tree.no_else id b a k = tt
    else_texts h n (tree.otherwise body) id b a k = list_texts h n body b a k.others

-- ---- modules

-- a result begins with 0 or .FALSE.
zero_texts : (k : Kind) → Shaped AnyName IsTextual (zero_of k)
zero_texts kind.Int = tt
zero_texts kind.Log = tt
zero_texts kind.Real = tt

start_texts : (m : ModuleTree) (f : List ℕ) → Shaped AnyName IsTextual ((meant_in m).start f)
start_texts m f = zero_texts (kind_or (kind_of_name (kinds_of m.decls) f) (declared_type (integer_names m.decls) (logical_names m.decls) f))

body_good : (m : ModuleTree) → AllGood (statements_of m) → AllGood (cards_in (meant_in m).is_while (folded m).body)
unfolding statements_of
body_good m h =
    let cards = cards_in (meant_in m).is_while (folded m).body in
    let all = (split (title_cards m ++ decl_cards 0 m.decls ++ cards) (card parts.End None end_module ∷ []) h).0 in
    (split (title_cards m ++ decl_cards 0 m.decls) cards all).1

pub body_texts : (p : ParsedTree) → IsSound p → ShapedList AnyName IsTextual p.module_read.body
unfolding elaborated folded
body_texts p s =
    let t = p.module_read in
    subst (λ (x : ModuleTree). ShapedList AnyName IsTextual x.body) s.well.same
    (list_texts (meant_in t) (start_texts t) 0 0 (folded t).body s.well.body s.well.whiles (body_good t s.cards))
