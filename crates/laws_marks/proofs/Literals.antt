-- The literals of statements that are read are numbers of 32 bits, also those of the statements that stand for them.
use Rattle.std.proofs.Common.{ℕ, ◌+◌, Bool, true, false, List, [], ◌∷◌, ◌++◌, Option, Some, None, refl, subst}
use Rattle.std.specs.Prelude.{if◌then◌else◌}
use Rattle.f77_ast.specs.declared.places.Part.TheVariants as parts
use Rattle.f77_ast.specs.Trees.{ExprTree, ExprTrees, StmtTree, WhatTree, ArmTrees, ElseTree, LoopTree, StmtTrees}
use Rattle.f77_ast.specs.Trees as tree
use Rattle.f77_ast.specs.DeclTrees.{ModuleTree}
use Rattle.f77_names.specs.declared.kinds.Kind.{Kind}
use Rattle.f77_names.specs.declared.kinds.Kind.TheVariants as kind
use Rattle.f77_statements.specs.Phrases.{end_do, end_module}
use Rattle.f77_names.specs.Kinds.{kinds_of, kind_of_name, kind_or}
use Rattle.f77_parser.specs.Functions.{integer_names, logical_names, declared_type, zero_of}
use Rattle.f77_parser.specs.Elaborated.{Meant, meant_in, and_last, value_block, assigned, hidden_to, hidden_arms, hidden_in, and_then_last, while_label, elaborated_stmt, elaborated_what, elaborated_while, elaborated_loop, elaborated_arms, elaborated_else, elaborated_in, elaborated}
use Rattle.laws_programs.specs.roundtrip_programs.Statements.Formed.{Rank, Formed, AllFormed, IsVariable, none, more, number, logical, constant as chars, scalar, indexed, enclosed, operand, raised, factor, multiplied, term, signed, added, arithmetic, compared, asserted, denied, conjunct, both, disjunct, either, side, equated, of_equivalence}
use Rattle.laws_programs.specs.roundtrip_programs.Statements.Declared.{MaybeExpression}
use Rattle.laws_programs.specs.roundtrip_programs.Statements.Phrased.{AllVariables, IsRight, value, empty_call, IsWhat, IsPhrase}
use Rattle.laws_programs.specs.roundtrip_programs.ModuleTexts.Cards.{Card, card, if_head, if_end, cards_of, cards_by, block_cards, part_cards, else_cards, cards_in, title_cards, decl_cards, statements_of}
use Rattle.laws_programs.specs.roundtrip_programs.ModuleTexts.Folded.{folded}
use Rattle.laws_programs.specs.roundtrip_programs.ModuleTexts.Numbered.{last_of, last_arms, last_in, IsNumbered, NumberedBelow, NumberedBody, NumberedBlock, NumberedArms, NumberedElse, AreNumbered, IsWell}
use Rattle.laws_programs.proofs.Ordered.{AllFormed as AllCards, split, body_formed}
use Rattle.laws_analyses.proofs.LiteralLaws.{formed_small}
use Rattle.laws_interleavings.specs.Plans.Touched.{InRange, AnyName, Leaves, AllLeaves, OptionLeaves, StatementLeaves, WhatLeaves, ArmsLeaves, ElseLeaves, LoopLeaves, ListLeaves}

-- ---- expressions

mutual
  pub formed_leaves : {r : Rank} {e : ExprTree} → Formed r e → Leaves AnyName InRange e
  formed_leaves (number n h) = formed_small (number n h)
  formed_leaves (logical b) = tt
  formed_leaves (chars c) = tt
  formed_leaves (scalar n h) = tt
  formed_leaves (indexed n e es h f fs) = (tt, (formed_leaves f, all_leaves fs))
  formed_leaves (enclosed e f) = formed_leaves f
  formed_leaves (operand e f) = formed_leaves f
  formed_leaves (raised a b f g) = (formed_leaves f, formed_leaves g)
  formed_leaves (factor e f) = formed_leaves f
  formed_leaves (multiplied op a b h f g) = (formed_leaves f, formed_leaves g)
  formed_leaves (term e f) = formed_leaves f
  formed_leaves (signed op e h f) = formed_leaves f
  formed_leaves (added op a b h f g) = (formed_leaves f, formed_leaves g)
  formed_leaves (arithmetic e f) = formed_leaves f
  formed_leaves (compared op a b h f g) = (formed_leaves f, formed_leaves g)
  formed_leaves (asserted e f) = formed_leaves f
  formed_leaves (denied e f) = formed_leaves f
  formed_leaves (conjunct e f) = formed_leaves f
  formed_leaves (both a b f g) = (formed_leaves f, formed_leaves g)
  formed_leaves (disjunct e f) = formed_leaves f
  formed_leaves (either a b f g) = (formed_leaves f, formed_leaves g)
  formed_leaves (side e f) = formed_leaves f
  formed_leaves (equated op a b h f g) = (formed_leaves f, formed_leaves g)

  all_leaves : {es : ExprTrees} → AllFormed es → AllLeaves AnyName InRange es
  all_leaves none = tt
  all_leaves (more e es f fs) = (formed_leaves f, all_leaves fs)

variable_leaves : (e : ExprTree) → IsVariable e → Leaves AnyName InRange e
variable_leaves (tree.name n) h = tt
variable_leaves (tree.element n (tree.more_exprs e es)) h = (tt, (formed_leaves h.first, all_leaves h.others))
variable_leaves (tree.element n tree.no_exprs) h = absurd h
variable_leaves (tree.int n) h = absurd h
variable_leaves (tree.log b) h = absurd h
variable_leaves (tree.paren e) h = absurd h
variable_leaves (tree.unary o e) h = absurd h
variable_leaves (tree.binary o a b) h = absurd h
variable_leaves (tree.chars c) h = absurd h

variables_leaves : (es : ExprTrees) → AllVariables es → AllLeaves AnyName InRange es
variables_leaves tree.no_exprs h = tt
variables_leaves (tree.more_exprs e es) h = (variable_leaves e h.first, variables_leaves es h.others)

right_leaves : {e : ExprTree} → IsRight e → Leaves AnyName InRange e
right_leaves (value e f) = formed_leaves f
right_leaves (empty_call n h) = (tt, tt)

pub maybe_leaves : (o : Option ExprTree) → MaybeExpression o → OptionLeaves AnyName InRange o
maybe_leaves None h = tt
maybe_leaves (Some e) h = formed_leaves h

-- ---- statements that stand for those that are written

and_last_leaves : (es : ExprTrees) (f : List ℕ) → AllLeaves AnyName InRange es → AllLeaves AnyName InRange (and_last es (tree.name f))
and_last_leaves tree.no_exprs f h = (tt, tt)
and_last_leaves (tree.more_exprs e es) f h = (h.0, and_last_leaves es f h.1)

and_then_leaves : (ss : StmtTrees) (s : StmtTree) → ListLeaves AnyName InRange ss → StatementLeaves AnyName InRange s → ListLeaves AnyName InRange (and_then_last ss s)
and_then_leaves tree.no_stmts s h k = (k, tt)
and_then_leaves (tree.more_stmts t ss) s h k = (h.0, and_then_leaves ss s h.1 k)

module _ (m : Meant) (start : (f : List ℕ) → Leaves AnyName InRange (m.start f)) where
  assigned_leaves : (h : ℕ) (v e : ExprTree) → Leaves AnyName InRange v → Leaves AnyName InRange e → WhatLeaves AnyName InRange (assigned m h v e)
  assigned_leaves h v (tree.int n) a b = (a, b)
  assigned_leaves h v (tree.log n) a b = (a, b)
  assigned_leaves h v (tree.name x) a b = (a, b)
  assigned_leaves h v (tree.element f es) a b = go (m.is_function f)
    where
      go : (c : Bool) → WhatLeaves AnyName InRange (if c then value_block m h v f es else tree.assign v (tree.element f es))
      go true = (((tt, ((tt, start f), (and_last_leaves es f b.1, ((a, tt), tt)))), tt), tt)
      go false = (a, b)
  assigned_leaves h v (tree.paren e) a b = (a, b)
  assigned_leaves h v (tree.unary o e) a b = (a, b)
  assigned_leaves h v (tree.binary o x y) a b = (a, b)
  assigned_leaves h v (tree.chars c) a b = (a, b)

  -- one that opens and closes no block
  single_leaves : (h n : ℕ) (w : WhatTree) → IsWhat w → WhatLeaves AnyName InRange (elaborated_what m h n w)
  single_leaves h n (tree.assign v e) i = assigned_leaves h v e (variable_leaves v i.left) (right_leaves i.right)
  single_leaves h n (tree.call x es) i = all_leaves i.actuals
  single_leaves h n (tree.goto l) i = tt
  single_leaves h n tree.continue i = tt
  single_leaves h n tree.return i = tt
  single_leaves h n (tree.stop text) i = tt
  single_leaves h n (tree.print es) i = all_leaves i
  single_leaves h n (tree.read es) i = variables_leaves es i
  single_leaves h n (tree.block_if arms other) i = absurd i
  single_leaves h n (tree.logical_if e s) i = absurd i
  single_leaves h n (tree.do_loop l) i = absurd i

  head_formed : (c : Bool) (e : ExprTree) → IsPhrase (if_head c e) → Formed of_equivalence e
  head_formed true e h = h
  head_formed false e h = h

  -- what is known of the parts of a block IF
  abbrev PartsLeaves : ℕ → ArmTrees → Type 0
  PartsLeaves h tree.no_arms = ⊥
  PartsLeaves h (tree.more_arms (tree.arm test body) others) = Leaves AnyName InRange test × ((k : ℕ) → ListLeaves AnyName InRange (elaborated_in m k body)) × ArmsLeaves AnyName InRange (elaborated_arms m (hidden_in m h body) others)

  -- it, or the DO WHILE that it stands for
  block_leaves : (h id : ℕ) (arms : ArmTrees) (other : ElseTree) → PartsLeaves h arms → ElseLeaves AnyName InRange (elaborated_else m (hidden_arms m h arms) other) → (w : Bool) →
      WhatLeaves AnyName InRange (if w then elaborated_while m h id arms else tree.block_if (elaborated_arms m h arms) (elaborated_else m (hidden_arms m h arms) other))
  block_leaves h id tree.no_arms other p e w = absurd p
  block_leaves h id (tree.more_arms (tree.arm test body) others) other p e true =
      (((tt, ((((p.0, and_then_leaves (elaborated_in m (1 + h) body) (tree.stmt (4097 + hidden_in m (1 + h) body) None (tree.goto (while_label id))) (p.1 (1 + h)) tt), tt), tt), tt)), tt), tt)
  block_leaves h id (tree.more_arms (tree.arm test body) others) other p e false = (((p.0, p.1 h), p.2), e)

  -- the statements behind n others, with h hidden ones before
  mutual
    list_leaves : (h n : ℕ) (ss : StmtTrees) → AreNumbered n ss → AllCards (cards_in m.is_while ss) → ListLeaves AnyName InRange (elaborated_in m h ss)
    list_leaves h n tree.no_stmts a c = tt
    list_leaves h n (tree.more_stmts s others) a c =
        let r = split (cards_of m.is_while s) (cards_in m.is_while others) c in
        (stmt_leaves h n s a.first r.0, list_leaves (hidden_to m h s) (last_of n s) others a.behind r.1)

    stmt_leaves : (h n : ℕ) (s : StmtTree) → IsNumbered n s → AllCards (cards_of m.is_while s) → StatementLeaves AnyName InRange (elaborated_stmt m h s)
    stmt_leaves h n (tree.stmt id label w) a c = below_leaves h (n + 1) id label w a.below c

    below_leaves : (h n id : ℕ) (label : Option ℕ) (w : WhatTree) → NumberedBelow n w → AllCards (cards_by m.is_while id label w) → WhatLeaves AnyName InRange (elaborated_what m h id w)
    below_leaves h n id label (tree.assign v e) a c = single_leaves h id (tree.assign v e) c.first.1
    below_leaves h n id label (tree.block_if arms other) a c =
        let last = card (parts.Close id) None (if_end (m.is_while id)) ∷ [] in
        let r = parts_leaves h n id label arms (else_cards m.is_while id other ++ last) a.parts c in
        block_leaves h id arms other r.0 (else_leaves (hidden_arms m h arms) (last_arms n arms) id other a.last (split (else_cards m.is_while id other) last r.1).0) (m.is_while id)
    below_leaves h n id label (tree.logical_if e (tree.stmt inner own w)) a c = (formed_leaves c.first.1.test, single_leaves h inner w c.first.1.inner)
    below_leaves h n id label (tree.do_loop l) a c = loop_leaves h n id label l a c
    below_leaves h n id label (tree.call x es) a c = single_leaves h id (tree.call x es) c.first.1
    below_leaves h n id label (tree.goto l) a c = tt
    below_leaves h n id label tree.continue a c = tt
    below_leaves h n id label tree.return a c = tt
    below_leaves h n id label (tree.stop text) a c = tt
    below_leaves h n id label (tree.print es) a c = single_leaves h id (tree.print es) c.first.1
    below_leaves h n id label (tree.read es) a c = single_leaves h id (tree.read es) c.first.1

    loop_leaves : (h n id : ℕ) (label : Option ℕ) (l : LoopTree) → NumberedBody n l → AllCards (cards_by m.is_while id label (tree.do_loop l)) → LoopLeaves AnyName InRange (elaborated_loop m h l)
    loop_leaves h n id label (tree.loop index first last step body) a c =
        let head = c.first.1 in
        (tt, formed_leaves head.first, formed_leaves head.last, maybe_leaves step head.step, list_leaves h n body a (split (cards_in m.is_while body) (card (parts.Close id) None end_do ∷ []) c.others).0)

    parts_leaves : (h n id : ℕ) (label : Option ℕ) (arms : ArmTrees) (end : List Card) → NumberedBlock n arms → AllCards (block_cards m.is_while id label arms end) → PartsLeaves h arms × AllCards end
    parts_leaves h n id label tree.no_arms end a c = absurd a
    parts_leaves h n id label (tree.more_arms (tree.arm test body) others) end a c =
        let r = split (cards_in m.is_while body) (part_cards m.is_while id 1 others end) c.others in
        let q = arms_leaves (hidden_in m h body) (last_in n body) id 1 others end a.parts r.1 in
        ((formed_leaves (head_formed (m.is_while id) test c.first.1), (λ k. list_leaves k n body a.below r.0), q.0), q.1)

    arms_leaves : (h n id place : ℕ) (arms : ArmTrees) (end : List Card) → NumberedArms n arms → AllCards (part_cards m.is_while id place arms end) → ArmsLeaves AnyName InRange (elaborated_arms m h arms) × AllCards end
    arms_leaves h n id place tree.no_arms end a c = (tt, c)
    arms_leaves h n id place (tree.more_arms (tree.arm test body) others) end a c =
        let r = split (cards_in m.is_while body) (part_cards m.is_while id (place + 1) others end) c.others in
        let q = arms_leaves (hidden_in m h body) (last_in n body) id (place + 1) others end a.parts r.1 in
        (((formed_leaves c.first.1, list_leaves h n body a.below r.0), q.0), q.1)

    else_leaves : (h n id : ℕ) (other : ElseTree) → NumberedElse n other → AllCards (else_cards m.is_while id other) → ElseLeaves AnyName InRange (elaborated_else m h other)
    else_leaves h n id tree.no_else a c = tt
    else_leaves h n id (tree.otherwise body) a c = list_leaves h n body a c.others

-- ---- modules

zero_leaves : (k : Kind) → Leaves AnyName InRange (zero_of k)
zero_leaves kind.Int = refl
zero_leaves kind.Log = tt
zero_leaves kind.Real = refl

module_start : (m : ModuleTree) (f : List ℕ) → Leaves AnyName InRange ((meant_in m).start f)
module_start m f = zero_leaves (kind_or (kind_of_name (kinds_of m.decls) f) (declared_type (integer_names m.decls) (logical_names m.decls) f))

pub decls_formed : (m : ModuleTree) → AllCards (statements_of m) → AllCards (decl_cards 0 m.decls)
unfolding statements_of
decls_formed m h =
    let body = cards_in (meant_in m).is_while (folded m).body in
    let all = (split (title_cards m ++ decl_cards 0 m.decls ++ body) (card parts.End None end_module ∷ []) h).0 in
    let front = (split (title_cards m ++ decl_cards 0 m.decls) body all).0 in
    (split (title_cards m) (decl_cards 0 m.decls) front).1

-- the statements of a module, from those that are written
pub body_literals : (m : ModuleTree) → IsWell m → AllCards (statements_of m) → ListLeaves AnyName InRange m.body
unfolding elaborated folded
body_literals m w h =
    subst (λ (z : ModuleTree). ListLeaves AnyName InRange z.body) w.same
    (list_leaves (meant_in (folded m)) (module_start (folded m)) 0 0 (folded m).body w.body (body_formed m h))
