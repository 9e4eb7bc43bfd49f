-- Elements among the actuals of a CALL have subscripts, as the grammar gives them.
use Rattle.std.proofs.Common.{◌≡◌, ℕ, ◌+◌, Bool, true, false, List, [], ◌∷◌, ◌++◌, refl, sym, ap, subst}
use Rattle.std.specs.Prelude.{Option, None, ◌&&◌, if◌then◌else◌}
use Rattle.std.proofs.lemmas.Bool.{and_from, and_parts}
use Rattle.f77_ast.specs.declared.places.Part.TheVariants as parts
use Rattle.f77_ast.specs.Trees.{ExprTree, ExprTrees, StmtTree, WhatTree, ArmTrees, ElseTree, LoopTree, StmtTrees}
use Rattle.f77_ast.specs.Trees as tree
use Rattle.f77_ast.specs.DeclTrees.{ParsedTree, ModuleTree}
use Rattle.f77_statements.specs.Phrases.{end_do}
use Rattle.f77_parser.specs.Elaborated.{Meant, meant_in, and_last, value_block, assigned, while_label, and_then_last, while_block, hidden_to, hidden_arms, hidden_in, elaborated_stmt, elaborated_what, elaborated_while, elaborated_loop, elaborated_arms, elaborated_else, elaborated_in, elaborated}
use Rattle.laws_programs.specs.roundtrip_programs.Statements.Formed.{Rank, Formed, number, logical, constant, scalar, indexed, enclosed, operand, raised, factor, multiplied, term, signed, added, arithmetic, compared, asserted, denied, conjunct, both, disjunct, either, side, equated, none, more}
use Rattle.laws_programs.specs.roundtrip_programs.Statements.Formed as formed
use Rattle.laws_programs.specs.roundtrip_programs.Statements.Phrased.{IsRight, value, empty_call, IsWhat}
use Rattle.laws_programs.specs.roundtrip_programs.ModuleTexts.Cards.{Card, card, if_end, cards_of, cards_by, part_cards, else_cards, cards_in}
use Rattle.laws_programs.specs.roundtrip_programs.ModuleTexts.Folded.{OnePart, WhileFits, WhileFitsBy, WhilesFitArms, WhilesFitElse, WhilesFit, folded}
use Rattle.laws_programs.specs.roundtrip_programs.ModuleTexts.Numbered.{last_of, last_arms, last_in, IsNumbered, NumberedBelow, NumberedArms, NumberedElse, AreNumbered}
use Rattle.laws_programs.proofs.Sources.{IsBuilt}
use Rattle.laws_programs.proofs.Ordered.{AllFormed, split, body_formed}
use Rattle.laws_programs.specs.Storage.Calls.{EachCall, CallsOf, CallsIn, ArmCalls, ElseCalls, LoopCalls}
use Rattle.laws_analyses.specs.Calls.Sites.{has_subscript, have_subscripts}

formed_has : {r : Rank} {e : ExprTree} → Formed r e → has_subscript e ≡ true
formed_has (number n h) = refl
formed_has (logical b) = refl
formed_has (constant c) = refl
formed_has (scalar n h) = refl
formed_has (indexed n e es h f fs) = refl
formed_has (enclosed e f) = refl
formed_has (operand e f) = formed_has f
formed_has (raised a b f g) = refl
formed_has (factor e f) = formed_has f
formed_has (multiplied op a b h f g) = refl
formed_has (term e f) = formed_has f
formed_has (signed op e h f) = refl
formed_has (added op a b h f g) = refl
formed_has (arithmetic e f) = formed_has f
formed_has (compared op a b h f g) = refl
formed_has (asserted e f) = formed_has f
formed_has (denied e f) = refl
formed_has (conjunct e f) = formed_has f
formed_has (both a b f g) = refl
formed_has (disjunct e f) = formed_has f
formed_has (either a b f g) = refl
formed_has (side e f) = formed_has f
formed_has (equated op a b h f g) = refl

formed_have : {es : ExprTrees} → formed.AllFormed es → have_subscripts es ≡ true
formed_have none = refl
formed_have (more e es f fs) = and_from (has_subscript e) (have_subscripts es) (formed_has f) (formed_have fs)

abbrev pub HaveSubscripts : ℕ → List ℕ → ExprTrees → Type 0
HaveSubscripts n x es = have_subscripts es ≡ true

-- the subscripts of an element
abbrev inside_has : ExprTree → Bool
inside_has (tree.element x es) = have_subscripts es
inside_has _ = true

formed_inside : {r : Rank} {e : ExprTree} → Formed r e → inside_has e ≡ true
formed_inside (number n h) = refl
formed_inside (logical b) = refl
formed_inside (constant c) = refl
formed_inside (scalar n h) = refl
formed_inside (indexed n e es h f fs) = and_from (has_subscript e) (have_subscripts es) (formed_has f) (formed_have fs)
formed_inside (enclosed e f) = refl
formed_inside (operand e f) = formed_inside f
formed_inside (raised a b f g) = refl
formed_inside (factor e f) = formed_inside f
formed_inside (multiplied op a b h f g) = refl
formed_inside (term e f) = formed_inside f
formed_inside (signed op e h f) = refl
formed_inside (added op a b h f g) = refl
formed_inside (arithmetic e f) = formed_inside f
formed_inside (compared op a b h f g) = refl
formed_inside (asserted e f) = formed_inside f
formed_inside (denied e f) = refl
formed_inside (conjunct e f) = formed_inside f
formed_inside (both a b f g) = refl
formed_inside (disjunct e f) = formed_inside f
formed_inside (either a b f g) = refl
formed_inside (side e f) = formed_inside f
formed_inside (equated op a b h f g) = refl

right_inside : {e : ExprTree} → IsRight e → inside_has e ≡ true
right_inside (value e f) = formed_inside f
right_inside (empty_call n h) = refl

-- and those of the result behind the actuals
and_last_have : (es : ExprTrees) (x : List ℕ) → have_subscripts es ≡ true → have_subscripts (and_last es (tree.name x)) ≡ true
and_last_have tree.no_exprs x h = refl
and_last_have (tree.more_exprs e es) x h =
    let r = and_parts (has_subscript e) (have_subscripts es) h in
    and_from (has_subscript e) (have_subscripts (and_last es (tree.name x))) r.0 (and_last_have es x r.1)

module _ (m : Meant) where
  assigned_have : (h id : ℕ) (v e : ExprTree) → inside_has e ≡ true → CallsIn HaveSubscripts id (assigned m h v e)
  assigned_have h id v (tree.element f es) k = go (m.is_function f)
    where
      go : (c : Bool) → CallsIn HaveSubscripts id (if c then value_block m h v f es else tree.assign v (tree.element f es))
      go true = (((tt, (and_last_have es f k, (tt, tt))), tt), tt)
      go false = tt
  assigned_have h id v (tree.int n) k = tt
  assigned_have h id v (tree.log b) k = tt
  assigned_have h id v (tree.name x) k = tt
  assigned_have h id v (tree.paren e) k = tt
  assigned_have h id v (tree.unary op e) k = tt
  assigned_have h id v (tree.binary op a b) k = tt
  assigned_have h id v (tree.chars c) k = tt

  plain_have : (h id : ℕ) (w : WhatTree) → IsWhat w → CallsIn HaveSubscripts id (elaborated_what m h id w)
  plain_have h id (tree.assign a b) k = assigned_have h id a b (right_inside k.right)
  plain_have h id (tree.block_if arms other) k = absurd k
  plain_have h id (tree.logical_if e s) k = absurd k
  plain_have h id (tree.do_loop l) k = absurd k
  plain_have h id (tree.call x es) k = formed_have k.actuals
  plain_have h id (tree.goto l) k = tt
  plain_have h id tree.continue k = tt
  plain_have h id tree.return k = tt
  plain_have h id (tree.stop text) k = tt
  plain_have h id (tree.print es) k = tt
  plain_have h id (tree.read es) k = tt

  last_have : (list : StmtTrees) (g t : ℕ) → EachCall HaveSubscripts list → EachCall HaveSubscripts (and_then_last list (tree.stmt g None (tree.goto t)))
  last_have tree.no_stmts g t k = (tt, tt)
  last_have (tree.more_stmts s rest) g t k = (k.0, last_have rest g t k.1)

  -- the parts being so
  block_have : (h id : ℕ) (arms : ArmTrees) (other : ElseTree) (c : Bool) → (c ≡ true → OnePart arms other)
      → ((j : ℕ) → ArmCalls HaveSubscripts (elaborated_arms m j arms)) → ((j : ℕ) → ElseCalls HaveSubscripts (elaborated_else m j other))
      → CallsIn HaveSubscripts id (if c then elaborated_while m h id arms else tree.block_if (elaborated_arms m h arms) (elaborated_else m (hidden_arms m h arms) other))
  block_have h id arms other false one f g = (f h, g (hidden_arms m h arms))
  block_have h id (tree.more_arms (tree.arm test body) tree.no_arms) tree.no_else true one f g =
      (((((last_have (elaborated_in m (1 + h) body) (4097 + hidden_in m (1 + h) body) (while_label id) (f (1 + h)).0, tt), tt), tt), tt), tt)
  block_have h id tree.no_arms other true one f g = absurd (one refl)
  block_have h id (tree.more_arms (tree.arm test body) tree.no_arms) (tree.otherwise list) true one f g = absurd (one refl)
  block_have h id (tree.more_arms (tree.arm test body) (tree.more_arms y ys)) other true one f g = absurd (one refl)

  -- the statements that stand for others, by those that are written
  mutual
    list_have : (h n : ℕ) (t : StmtTrees) → AreNumbered n t → WhilesFit m.is_while t → AllFormed (cards_in m.is_while t) → EachCall HaveSubscripts (elaborated_in m h t)
    list_have h n tree.no_stmts b a k = tt
    list_have h n (tree.more_stmts s rest) b a k =
        let r = split (cards_of m.is_while s) (cards_in m.is_while rest) k in (stmt_have h n s b.first a.first r.0, list_have (hidden_to m h s) (last_of n s) rest b.behind a.behind r.1)

    stmt_have : (h n : ℕ) (s : StmtTree) → IsNumbered n s → WhileFits m.is_while s → AllFormed (cards_of m.is_while s) → CallsOf HaveSubscripts (elaborated_stmt m h s)
    stmt_have h n (tree.stmt id label w) b a k = what_have h (n + 1) w id label b.below a k

    what_have : (h n : ℕ) (w : WhatTree) (id : ℕ) (label : Option ℕ) → NumberedBelow n w → WhileFitsBy m.is_while (m.is_while id) w → AllFormed (cards_by m.is_while id label w)
        → CallsIn HaveSubscripts id (elaborated_what m h id w)
    what_have h n (tree.assign u e) id label b a k = plain_have h id (tree.assign u e) k.first.1
    what_have h n (tree.block_if tree.no_arms other) id label b a k = absurd b.parts
    what_have h n (tree.block_if (tree.more_arms (tree.arm test body) others) other) id label b a k =
        let close = card (parts.Close id) None (if_end (m.is_while id)) ∷ [] in
        let end = else_cards m.is_while id other ++ close in
        let r = split (cards_in m.is_while body) (part_cards m.is_while id 1 others end) k.others in
        let behind = last_in n body in
        let last = (arms_have 0 behind others id 1 end b.parts.parts a.parts.parts r.1).1 in
        block_have h id (tree.more_arms (tree.arm test body) others) other (m.is_while id) a.alone
        (λ j. (list_have j n body b.parts.below a.parts.below r.0, (arms_have (hidden_in m j body) behind others id 1 end b.parts.parts a.parts.parts r.1).0))
        (λ j. else_have j (last_arms behind others) other id b.last a.last (split (else_cards m.is_while id other) close last).0)
    what_have h n (tree.logical_if e (tree.stmt inner own w)) id label b a k = plain_have h inner w k.first.1.inner
    what_have h n (tree.do_loop (tree.loop index first last step body)) id label b a k =
        list_have h n body b a (split (cards_in m.is_while body) (card (parts.Close id) None end_do ∷ []) k.others).0
    what_have h n (tree.call x es) id label b a k = plain_have h id (tree.call x es) k.first.1
    what_have h n (tree.goto l) id label b a k = tt
    what_have h n tree.continue id label b a k = tt
    what_have h n tree.return id label b a k = tt
    what_have h n (tree.stop text) id label b a k = tt
    what_have h n (tree.print es) id label b a k = tt
    what_have h n (tree.read es) id label b a k = tt

    arms_have : (h n : ℕ) (arms : ArmTrees) (id place : ℕ) (end : List Card) → NumberedArms n arms → WhilesFitArms m.is_while arms → AllFormed (part_cards m.is_while id place arms end)
        → ArmCalls HaveSubscripts (elaborated_arms m h arms) × AllFormed end
    arms_have h n tree.no_arms id place end b a k = (tt, k)
    arms_have h n (tree.more_arms (tree.arm test body) others) id place end b a k =
        let r = split (cards_in m.is_while body) (part_cards m.is_while id (place + 1) others end) k.others in
        let q = arms_have (hidden_in m h body) (last_in n body) others id (place + 1) end b.parts a.parts r.1 in
        ((list_have h n body b.below a.below r.0, q.0), q.1)

    else_have : (h n : ℕ) (other : ElseTree) (id : ℕ) → NumberedElse n other → WhilesFitElse m.is_while other → AllFormed (else_cards m.is_while id other) → ElseCalls HaveSubscripts (elaborated_else m h other)
    else_have h n tree.no_else id b a k = tt
    else_have h n (tree.otherwise body) id b a k = list_have h n body b a k.others

-- so it is in each CALL of a module that is read
pub built_have : (p : ParsedTree) → IsBuilt p → EachCall HaveSubscripts p.module_read.body
unfolding elaborated folded
built_have p b =
    let t = p.module_read in
    subst (λ (x : ModuleTree). EachCall HaveSubscripts x.body) b.well.same (list_have (meant_in t) 0 0 (folded t).body b.well.body b.well.whiles (body_formed t b.formed))
