-- What stands on left sides, as items of READ and as indices of DO is a scalar, or an element with subscripts.
use Rattle.std.proofs.Common.{◌≡◌, ℕ, zero, suc, ◌+◌, Bool, true, false, not, List, [], ◌∷◌, ◌++◌, Option, Some, None, Ok, refl, sym, ap, ◌∙◌, subst, arith}
use Rattle.std.specs.Prelude.{◌&&◌, ◌||◌, bytes_eq, if◌then◌else◌, slice_get}
use Rattle.std.proofs.lemmas.Bool.{and_from, or_from, not_from_true}
use Rattle.f77_ast.specs.declared.places.Part.TheVariants as parts
use Rattle.f77_ast.specs.Trees.{ExprTree, ExprTrees, StmtTree, WhatTree, ArmTrees, ElseTree, LoopTree, StmtTrees}
use Rattle.f77_ast.specs.Trees as tree
use Rattle.f77_ast.specs.DeclTrees.{ModuleTree}
use Rattle.f77_ast.specs.Symbols.{SymbolTree, number_from}
use Rattle.f77_ast.specs.Shared.{symbol_at}
use Rattle.f77_statements.specs.Phrases.{end_do}
use Rattle.f77_parser.specs.Elaborated.{Meant, meant_in, and_last, value_block, assigned, while_label, and_then_last, while_block, hidden_to, hidden_arms, hidden_in, elaborated_stmt, elaborated_what, elaborated_while, elaborated_loop, elaborated_arms, elaborated_else, elaborated_in, one_arm, elaborated}
use Rattle.laws_programs.specs.roundtrip_programs.Statements.Formed.{IsVariable}
use Rattle.laws_programs.specs.roundtrip_programs.Statements.Phrased.{AllVariables, IsWhat}
use Rattle.laws_programs.specs.roundtrip_programs.ModuleTexts.Cards.{Card, card, if_end, cards_of, cards_by, part_cards, else_cards, cards_in, statements_of}
use Rattle.laws_programs.specs.roundtrip_programs.ModuleTexts.Folded.{OnePart, WhileFits, WhileFitsBy, WhilesFitArms, WhilesFitElse, WhilesFit, folded}
use Rattle.laws_programs.specs.roundtrip_programs.ModuleTexts.Numbered.{last_of, last_arms, last_in, IsNumbered, NumberedBelow, NumberedArms, NumberedElse, AreNumbered, IsWell}
use Rattle.tracked_cells.specs.Standing.{has_bounds}
use Rattle.laws_programs.specs.SymbolTables.Shapes.{symbol_named, bounds_of, StandsBare, StandsIndexed, Shaped, AllShaped, ShapedStmt, ShapedWhat, ShapedArms, ShapedElse, ShapedLoop, ShapedList}
use Rattle.f77_meaning.specs.Modules.{symbol_names}
use Rattle.preconditions.specs.transformers.Jumps.{stmt_has, parts_have, list_has, arms_have, else_has, loop_has}
use Rattle.laws_programs.proofs.Ordered.{AllFormed, split, body_formed}
use Rattle.laws_analyses.specs.Statements.Targets.{is_target, are_targets, has_index, has_targets, lacks_targets}
use Rattle.laws_analyses.specs.Statements.Laws.{is_scalar_symbol, scalar_at, is_scalar}
use Rattle.laws_analyses.proofs.Regions.Names.{Found, missing, at_place, found}
use Rattle.f77_ast.proofs.StorageLaws.{to_number as next_symbol}

-- ---- names of scalars

module _ (ss : List SymbolTree) where
  abbrev Bare : List ℕ → Type 0
  Bare = StandsBare ss

  abbrev Indexed : List ℕ → ExprTrees → Type 0
  Indexed = StandsIndexed ss

  abbrev such : WhatTree → Bool
  such = lacks_targets (is_scalar ss)

  bare_is : (x : List ℕ) → Bare x → is_scalar ss x ≡ true
  bare_is x h = go (found 1 ss x)
    where
      go : Found 1 ss x → is_scalar ss x ≡ true
      go (missing q) = ap (scalar_at ss) q
      go (at_place i k s same q e m named) =
          let number : k ≡ suc i = omega (arith, same) in
          let symbol : symbol_at ss k ≡ Some s = ap (symbol_at ss) number ∙ next_symbol ss i s e in
          let flat : s.bounds ≡ [] = ap bounds_of (sym m) ∙ h in
          ap (scalar_at ss) q ∙ ap is_scalar_symbol symbol ∙ ap (λ bs. not (has_bounds bs)) flat

  target_is : (e : ExprTree) → IsVariable e → Shaped Bare Indexed e → is_target (is_scalar ss) e ≡ true
  target_is (tree.int n) f h = absurd f
  target_is (tree.log b) f h = absurd f
  target_is (tree.name x) f h = bare_is x h
  target_is (tree.element x tree.no_exprs) f h = absurd f
  target_is (tree.element x (tree.more_exprs e es)) f h = refl
  target_is (tree.paren e) f h = absurd f
  target_is (tree.unary o e) f h = absurd f
  target_is (tree.binary o a b) f h = absurd f
  target_is (tree.chars x) f h = absurd f

  targets_are : (es : ExprTrees) → AllVariables es → AllShaped Bare Indexed es → are_targets (is_scalar ss) es ≡ true
  targets_are tree.no_exprs f h = refl
  targets_are (tree.more_exprs e es) f h = and_from (is_target (is_scalar ss) e) (are_targets (is_scalar ss) es) (target_is e f.first h.0) (targets_are es f.others h.1)

  -- a statement lacks nothing, nor does one that is a part of it
  lacks_none : (w : WhatTree) → has_targets (is_scalar ss) w ≡ true → parts_have such w ≡ false → (such w || parts_have such w) ≡ false
  lacks_none w h k = or_from (such w) (parts_have such w) (not_from_true (has_targets (is_scalar ss) w) h) k

  -- ---- the statements that stand for others, by those that are written

  module _ (m : Meant) where
    value_in : (h : ℕ) (v : ExprTree) (f : List ℕ) (es : ExprTrees) → IsVariable v → ShapedWhat Bare Indexed (value_block m h v f es) → (such (value_block m h v f es) || parts_have such (value_block m h v f es)) ≡ false
    value_in h v f es k s =
        let three = s.0.0.1 in
        let rest = or_from (parts_have such (tree.call f (and_last es (tree.name f))) || false) (stmt_has such (tree.stmt (4099 + h) None (tree.assign v (tree.name f))) || false) refl
        (ap (λ b. b || false) (lacks_none (tree.assign v (tree.name f)) (target_is v k three.1.1.0.0) refl)) in
        ap (λ b. (b || false) || false)
        (or_from (stmt_has such (tree.stmt (4097 + h) None (tree.assign (tree.name f) (m.start f)))) (stmt_has such (tree.stmt (4098 + h) None (tree.call f (and_last es (tree.name f)))) || (stmt_has such (tree.stmt (4099 + h) None (tree.assign v (tree.name f))) || false))
        (lacks_none (tree.assign (tree.name f) (m.start f)) (bare_is f three.0.0) refl) rest)

    assigned_in : (h : ℕ) (v e : ExprTree) → IsVariable v → ShapedWhat Bare Indexed (assigned m h v e) → (such (assigned m h v e) || parts_have such (assigned m h v e)) ≡ false
    assigned_in h v (tree.element f es) k s = go (m.is_function f) s
      where
        go : (c : Bool) → ShapedWhat Bare Indexed (if c then value_block m h v f es else tree.assign v (tree.element f es))
            → (such (if c then value_block m h v f es else tree.assign v (tree.element f es)) || parts_have such (if c then value_block m h v f es else tree.assign v (tree.element f es))) ≡ false
        go true z = value_in h v f es k z
        go false z = lacks_none (tree.assign v (tree.element f es)) (target_is v k z.0) refl
    assigned_in h v (tree.int n) k s = lacks_none (tree.assign v (tree.int n)) (target_is v k s.0) refl
    assigned_in h v (tree.log b) k s = lacks_none (tree.assign v (tree.log b)) (target_is v k s.0) refl
    assigned_in h v (tree.name x) k s = lacks_none (tree.assign v (tree.name x)) (target_is v k s.0) refl
    assigned_in h v (tree.paren e) k s = lacks_none (tree.assign v (tree.paren e)) (target_is v k s.0) refl
    assigned_in h v (tree.unary op e) k s = lacks_none (tree.assign v (tree.unary op e)) (target_is v k s.0) refl
    assigned_in h v (tree.binary op a b) k s = lacks_none (tree.assign v (tree.binary op a b)) (target_is v k s.0) refl
    assigned_in h v (tree.chars c) k s = lacks_none (tree.assign v (tree.chars c)) (target_is v k s.0) refl

    plain_in : (h id : ℕ) (w : WhatTree) → IsWhat w → ShapedWhat Bare Indexed (elaborated_what m h id w) → (such (elaborated_what m h id w) || parts_have such (elaborated_what m h id w)) ≡ false
    plain_in h id (tree.assign a b) f s = assigned_in h a b f.left s
    plain_in h id (tree.block_if arms other) f s = absurd f
    plain_in h id (tree.logical_if e t) f s = absurd f
    plain_in h id (tree.do_loop l) f s = absurd f
    plain_in h id (tree.call x es) f s = refl
    plain_in h id (tree.goto l) f s = refl
    plain_in h id tree.continue f s = refl
    plain_in h id tree.return f s = refl
    plain_in h id (tree.stop text) f s = refl
    plain_in h id (tree.print es) f s = refl
    plain_in h id (tree.read es) f s = lacks_none (tree.read es) (targets_are es f s) refl

    -- behind the statements of a DO WHILE there is a GO TO
    last_in_while : (list : StmtTrees) (g t : ℕ) → list_has such (and_then_last list (tree.stmt g None (tree.goto t))) ≡ list_has such list
    last_in_while tree.no_stmts g t = refl
    last_in_while (tree.more_stmts s rest) g t = ap (λ b. stmt_has such s || b) (last_in_while rest g t)

    last_shaped : (list : StmtTrees) (g t : ℕ) → ShapedList Bare Indexed (and_then_last list (tree.stmt g None (tree.goto t))) → ShapedList Bare Indexed list
    last_shaped tree.no_stmts g t s = tt
    last_shaped (tree.more_stmts x rest) g t s = (s.0, last_shaped rest g t s.1)

    -- the parts being so
    block_in : (h id : ℕ) (arms : ArmTrees) (other : ElseTree) (c : Bool) → (c ≡ true → OnePart arms other)
        → ((j : ℕ) → ShapedArms Bare Indexed (elaborated_arms m j arms) → arms_have such (elaborated_arms m j arms) ≡ false)
        → ((j : ℕ) → ShapedElse Bare Indexed (elaborated_else m j other) → else_has such (elaborated_else m j other) ≡ false)
        → ShapedWhat Bare Indexed (if c then elaborated_while m h id arms else tree.block_if (elaborated_arms m h arms) (elaborated_else m (hidden_arms m h arms) other))
        → (such (if c then elaborated_while m h id arms else tree.block_if (elaborated_arms m h arms) (elaborated_else m (hidden_arms m h arms) other))
        || parts_have such (if c then elaborated_while m h id arms else tree.block_if (elaborated_arms m h arms) (elaborated_else m (hidden_arms m h arms) other))) ≡ false
    block_in h id arms other false one f g s =
        or_from (arms_have such (elaborated_arms m h arms)) (else_has such (elaborated_else m (hidden_arms m h arms) other)) (f h s.0) (g (hidden_arms m h arms) s.1)
    block_in h id (tree.more_arms (tree.arm test body) tree.no_arms) tree.no_else true one f g s =
        let list = elaborated_in m (1 + h) body in
        let go = 4097 + hidden_in m (1 + h) body in
        let inner = s.0.0.1.0 in
        let shape = last_shaped list go (while_label id) inner.0.0.1 in
        ap (λ b. ((((b || false) || false) || false) || false) || false) (last_in_while list go (while_label id))
        ∙ ap (λ b. (((b || false) || false) || false) || false) (f (1 + h) ((inner.0.0.0, shape), tt))
    block_in h id tree.no_arms other true one f g s = absurd (one refl)
    block_in h id (tree.more_arms (tree.arm test body) tree.no_arms) (tree.otherwise list) true one f g s = absurd (one refl)
    block_in h id (tree.more_arms (tree.arm test body) (tree.more_arms y ys)) other true one f g s = absurd (one refl)

    arms_end : (id place : ℕ) (arms : ArmTrees) (end : List Card) → AllFormed (part_cards m.is_while id place arms end) → AllFormed end
    arms_end id place tree.no_arms end f = f
    arms_end id place (tree.more_arms (tree.arm test body) rest) end f =
        arms_end id (place + 1) rest end (split (cards_in m.is_while body) (part_cards m.is_while id (place + 1) rest end) f.others).1

    mutual
      list_in : (h n : ℕ) (t : StmtTrees) → AreNumbered n t → WhilesFit m.is_while t → AllFormed (cards_in m.is_while t) → ShapedList Bare Indexed (elaborated_in m h t) → list_has such (elaborated_in m h t) ≡ false
      list_in h n tree.no_stmts b a f s = refl
      list_in h n (tree.more_stmts x rest) b a f s =
          let r = split (cards_of m.is_while x) (cards_in m.is_while rest) f in
          or_from (stmt_has such (elaborated_stmt m h x)) (list_has such (elaborated_in m (hidden_to m h x) rest))
          (stmt_in h n x b.first a.first r.0 s.0) (list_in (hidden_to m h x) (last_of n x) rest b.behind a.behind r.1 s.1)

      stmt_in : (h n : ℕ) (x : StmtTree) → IsNumbered n x → WhileFits m.is_while x → AllFormed (cards_of m.is_while x) → ShapedStmt Bare Indexed (elaborated_stmt m h x) → stmt_has such (elaborated_stmt m h x) ≡ false
      stmt_in h n (tree.stmt id label w) b a f s = what_in h (n + 1) id label w b.below a f s

      what_in : (h n id : ℕ) (label : Option ℕ) (w : WhatTree) → NumberedBelow n w → WhileFitsBy m.is_while (m.is_while id) w → AllFormed (cards_by m.is_while id label w)
          → ShapedWhat Bare Indexed (elaborated_what m h id w) → (such (elaborated_what m h id w) || parts_have such (elaborated_what m h id w)) ≡ false
      what_in h n id label (tree.assign x y) b a f s = plain_in h id (tree.assign x y) f.first.1 s
      what_in h n id label (tree.block_if tree.no_arms other) b a f s = absurd b.parts
      what_in h n id label (tree.block_if (tree.more_arms (tree.arm test body) rest) other) b a f s =
          let close = card (parts.Close id) None (if_end (m.is_while id)) ∷ [] in
          let end = else_cards m.is_while id other ++ close in
          let r = split (cards_in m.is_while body) (part_cards m.is_while id 1 rest end) f.others in
          let behind = last_in n body in
          let last = arms_end id 1 rest end r.1 in
          block_in h id (tree.more_arms (tree.arm test body) rest) other (m.is_while id) a.alone
          (λ j z. or_from (list_has such (elaborated_in m j body)) (arms_have such (elaborated_arms m (hidden_in m j body) rest))
          (list_in j n body b.parts.below a.parts.below r.0 z.0.1) (arms_in (hidden_in m j body) behind id 1 rest end b.parts.parts a.parts.parts r.1 z.1))
          (λ j z. else_in j (last_arms behind rest) id other b.last a.last (split (else_cards m.is_while id other) close last).0 z) s
      what_in h n id label (tree.logical_if e (tree.stmt inner own w)) b a f s = plain_in h inner w f.first.1.inner s.1
      what_in h n id label (tree.do_loop (tree.loop index first last step body)) b a f s =
          or_from (not (is_scalar ss index)) (list_has such (elaborated_in m h body)) (not_from_true (is_scalar ss index) (bare_is index s.0))
          (list_in h n body b a (split (cards_in m.is_while body) (card (parts.Close id) None end_do ∷ []) f.others).0 s.4)
      what_in h n id label (tree.call x es) b a f s = refl
      what_in h n id label (tree.goto l) b a f s = refl
      what_in h n id label tree.continue b a f s = refl
      what_in h n id label tree.return b a f s = refl
      what_in h n id label (tree.stop text) b a f s = refl
      what_in h n id label (tree.print es) b a f s = refl
      what_in h n id label (tree.read es) b a f s = plain_in h id (tree.read es) f.first.1 s

      arms_in : (h n id place : ℕ) (arms : ArmTrees) (end : List Card) → NumberedArms n arms → WhilesFitArms m.is_while arms → AllFormed (part_cards m.is_while id place arms end)
          → ShapedArms Bare Indexed (elaborated_arms m h arms) → arms_have such (elaborated_arms m h arms) ≡ false
      arms_in h n id place tree.no_arms end b a f s = refl
      arms_in h n id place (tree.more_arms (tree.arm test body) rest) end b a f s =
          let r = split (cards_in m.is_while body) (part_cards m.is_while id (place + 1) rest end) f.others in
          or_from (list_has such (elaborated_in m h body)) (arms_have such (elaborated_arms m (hidden_in m h body) rest)) (list_in h n body b.below a.below r.0 s.0.1)
          (arms_in (hidden_in m h body) (last_in n body) id (place + 1) rest end b.parts a.parts r.1 s.1)

      else_in : (h n id : ℕ) (other : ElseTree) → NumberedElse n other → WhilesFitElse m.is_while other → AllFormed (else_cards m.is_while id other) → ShapedElse Bare Indexed (elaborated_else m h other)
          → else_has such (elaborated_else m h other) ≡ false
      else_in h n id tree.no_else b a f s = refl
      else_in h n id (tree.otherwise body) b a f s = list_in h n body b a f.others s

  pub body_lacks_none : (m : ModuleTree) → IsWell m → AllFormed (statements_of m) → ShapedList Bare Indexed m.body → list_has (lacks_targets (is_scalar ss)) m.body ≡ false
  unfolding elaborated folded
  body_lacks_none m w f s =
      let same = w.same in
      subst (λ (x : ModuleTree). list_has such x.body ≡ false) same
      (list_in (meant_in m) 0 0 (folded m).body w.body w.whiles (body_formed m f) (subst (λ (x : ModuleTree). ShapedList Bare Indexed x.body) (sym same) s))
