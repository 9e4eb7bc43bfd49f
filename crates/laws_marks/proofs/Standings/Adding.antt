-- Assignments that accumulate, by the tables of a module, accumulate where it runs.
use Rattle.std.proofs.Common.{◌≡◌, ◌⊎◌, inl, inr, ⊎_elim, ℕ, suc, Bool, true, false, not, ◌&&◌, ◌||◌, List, [], ◌∷◌, Option, Some, None, refl, sym, ap, ap₂, ◌∙◌, subst, arith, nat_eq, bytes_eq, true≢false}
use Rattle.std.specs.Prelude.{if◌then◌else◌, codes, is_some}
use Rattle.std.specs.List.{IsDistinct}
use Rattle.std.proofs.lemmas.Bool.{and_parts, or_parts, not-true}
use Rattle.std.proofs.lemmas.Slice.Eq.{bytes_eq-Decides}
use Rattle.system_text.specs.SystemText.{name_at}
use Rattle.f77_ast.specs.declared.expr.BinaryOp.{BinaryOp}
use Rattle.f77_ast.specs.declared.expr.BinaryOp.TheVariants as op
use Rattle.f77_ast.specs.declared.decl.Scalar.{Scalar}
use Rattle.f77_ast.specs.declared.decl.Scalar.TheVariants as scalar
use Rattle.f77_ast.specs.Trees.{ExprTree, ExprTrees}
use Rattle.f77_ast.specs.Trees as tree
use Rattle.f77_ast.specs.Numbers.{intrinsic_named}
use Rattle.f77_ast.specs.Places.{Variable, Function, Places}
use Rattle.f77_ast.specs.Symbols.{SymbolTree, number_from}
use Rattle.f77_ast.specs.Shared.{symbol_at}
use Rattle.f77_ast.proofs.StorageLaws.{to_number}
use Rattle.tracked_cells.specs.Standing.{has_bounds}
use Rattle.call_graph.specs.Actuals.{is_array as has_array}
use Rattle.f77_meaning.specs.Modules.{tag_of as tag_of_scalar, is_function, meant_by, meant_at, meant_in, names, symbol_names}
use Rattle.loop_marker.specs.Names.{has_name}
use Rattle.preconditions.specs.transformer_algebra.Laws.{In, here, there}
use Rattle.result_lines.specs.declared.reduction.ReduceOp.{ReduceOp}
use Rattle.result_lines.specs.declared.reduction.ReduceOp.TheVariants.{Sum, Max, Min, And, Or}
use Rattle.result_lines.specs.declared.reduction.Part.{Part}
use Rattle.reductions.specs.Accumulations.{joining, is_op, joins, is_minus, is_name, is_chain, is_with, joined_by, called, of_arguments, symbol_of, is_array, by_function, by_right, suits, if_suits, accumulation}
use Rattle.reductions.specs.Standings.{in_assignment, if_named, if_accumulated}
use Rattle.laws_analyses.proofs.Regions.Names.{Found, missing, at_place, found}
use Rattle.laws_interleavings.specs.Reductions.{Accumulator, tag_of}
use Rattle.laws_interleavings.specs.Accumulated.{IsClear, Joins, IsChain, IsFunctionOf, Adds, First, Last, FirstOfTwo, LastOfTwo, IsPlain, AssignAdds}
use Rattle.laws_interleavings.specs.Plans.Touched.{AnyNumber, Leaves}
use Rattle.laws_marks.specs.Names.{op_meant}
use Rattle.laws_marks.specs.Standings.{OthersAreApart}
use Rattle.laws_marks.specs.Units.{IsPassing}
use Rattle.laws_marks.proofs.Written.{name_back, name_means}
use Rattle.laws_marks.proofs.Standings.Both.{Agrees, same_ops, not_named, is_accumulated}
use Rattle.laws_marks.proofs.Standings.Leaves.{Differs, differs, leaves_of}
use Rattle.laws_marks.proofs.Standings.Clear.{symbol_named, name_in, reductions_in, units_in, One, NotNamed, one_there, none_summed, one_summed, own_cell, clear_name}
use Rattle.fx_lists.proofs.Lists.{other_way as turned}
use Rattle.fx_lists.proofs.Options.{some_is, some_same}
use Rattle.fx_lists.proofs.Booleans.{or_cases}

-- ---- operators

none_some : {T : Type 0} {A : Type 0} (x : A) → None ≡ Some x → T
none_some x e = absurd (let z : None ≡ Some x = e in cc)

joins_so : (o : BinaryOp) (q : ReduceOp) → joining o ≡ Some q → Joins (op_meant q) o
joins_so op.Add q e = subst (λ q. Joins (op_meant q) op.Add) (some_is Sum q e) (inl refl)
joins_so op.Sub q e = subst (λ q. Joins (op_meant q) op.Sub) (some_is Sum q e) (inr refl)
joins_so op.Mul q e = none_some q e
joins_so op.Div q e = none_some q e
joins_so op.Pow q e = none_some q e
joins_so op.Eq q e = none_some q e
joins_so op.Ne q e = none_some q e
joins_so op.Lt q e = none_some q e
joins_so op.Le q e = none_some q e
joins_so op.Gt q e = none_some q e
joins_so op.Ge q e = none_some q e
joins_so op.And q e = subst (λ q. Joins (op_meant q) op.And) (some_is And q e) refl
joins_so op.Or q e = subst (λ q. Joins (op_meant q) op.Or) (some_is Or q e) refl
joins_so op.Eqv q e = none_some q e
joins_so op.Neqv q e = none_some q e

op_is : (p : ReduceOp) (o : Option ReduceOp) → is_op p o ≡ true → o ≡ Some p
op_is p None e = absurd (true≢false (sym e))
op_is p (Some q) e = ap Some (sym (same_ops p q e))

no_minus : (o : BinaryOp) → not (is_minus o) ≡ true → o ≡ op.Sub → ⊥
no_minus o h e = true≢false (sym h ∙ ap (λ o. not (is_minus o)) e)

-- the type of the variable
suits_tag : (p : ReduceOp) (t : Scalar) → suits p t ≡ true → tag_of_scalar t ≡ tag_of (op_meant p)
suits_tag Sum scalar.Int e = refl
suits_tag Sum scalar.Log e = absurd (true≢false (sym e))
suits_tag Max scalar.Int e = refl
suits_tag Max scalar.Log e = absurd (true≢false (sym e))
suits_tag Min scalar.Int e = refl
suits_tag Min scalar.Log e = absurd (true≢false (sym e))
suits_tag And scalar.Int e = absurd (true≢false (sym e))
suits_tag And scalar.Log e = refl
suits_tag Or scalar.Int e = absurd (true≢false (sym e))
suits_tag Or scalar.Log e = refl

if_suits_is : (o : Option ReduceOp) (t : Scalar) (q : ReduceOp) → if_suits o t ≡ Some q → (o ≡ Some q) × (suits q t ≡ true)
if_suits_is None t q e = none_some q e
if_suits_is (Some p) t q e = go (suits p t) refl e
  where
    go : (b : Bool) → suits p t ≡ b → (if b then Some p else None) ≡ Some q → (Some p ≡ Some q) × (suits q t ≡ true)
    go true h k = (k, ap (λ p. suits p t) (sym (some_is p q k)) ∙ h)
    go false h k = none_some q k

-- ---- names

just_name : (x : List ℕ) (e : ExprTree) → is_name x e ≡ true → e ≡ tree.name x
just_name x (tree.int n) h = absurd (true≢false (sym h))
just_name x (tree.log b) h = absurd (true≢false (sym h))
just_name x (tree.name y) h = ap tree.name (sym ((bytes_eq-Decides x y).0 h))
just_name x (tree.element y es) h = absurd (true≢false (sym h))
just_name x (tree.paren e) h = absurd (true≢false (sym h))
just_name x (tree.unary o e) h = absurd (true≢false (sym h))
just_name x (tree.binary o a b) h = absurd (true≢false (sym h))
just_name x (tree.chars t) h = absurd (true≢false (sym h))

-- MAX, MAX0, MIN and MIN0
module _ (f : List ℕ) (q : ReduceOp) where
  abbrev IsCalled : List ℕ → Type 0
  IsCalled z = called z ≡ Some q → IsFunctionOf (op_meant q) (intrinsic_named z) × (is_some (intrinsic_named z) ≡ true)

  called_max : (w : List ℕ) → called w ≡ Some Max → IsFunctionOf (op_meant Max) (intrinsic_named w) × (is_some (intrinsic_named w) ≡ true) → IsCalled w
  called_max w e h k = subst (λ q. IsFunctionOf (op_meant q) (intrinsic_named w) × (is_some (intrinsic_named w) ≡ true)) (some_is Max q (sym e ∙ k)) h

  called_min : (w : List ℕ) → called w ≡ Some Min → IsFunctionOf (op_meant Min) (intrinsic_named w) × (is_some (intrinsic_named w) ≡ true) → IsCalled w
  called_min w e h k = subst (λ q. IsFunctionOf (op_meant q) (intrinsic_named w) × (is_some (intrinsic_named w) ≡ true)) (some_is Min q (sym e ∙ k)) h

  as_word : (w : List ℕ) → bytes_eq f w ≡ true → IsCalled w → IsCalled f
  as_word w e h = subst IsCalled (sym ((bytes_eq-Decides f w).0 e)) h

  called_is : IsCalled f
  called_is = go (bytes_eq f (codes "MAX")) (bytes_eq f (codes "MAX0")) (bytes_eq f (codes "MIN")) (bytes_eq f (codes "MIN0")) refl refl refl refl
    where
      go : (a b c d : Bool) → bytes_eq f (codes "MAX") ≡ a → bytes_eq f (codes "MAX0") ≡ b → bytes_eq f (codes "MIN") ≡ c → bytes_eq f (codes "MIN0") ≡ d → IsCalled f
      go true b c d e1 e2 e3 e4 = as_word (codes "MAX") e1 (called_max (codes "MAX") refl (refl, refl))
      go false true c d e1 e2 e3 e4 = as_word (codes "MAX0") e2 (called_max (codes "MAX0") refl (refl, refl))
      go false false true d e1 e2 e3 e4 = as_word (codes "MIN") e3 (called_min (codes "MIN") refl (refl, refl))
      go false false false true e1 e2 e3 e4 = as_word (codes "MIN0") e4 (called_min (codes "MIN0") refl (refl, refl))
      go false false false false e1 e2 e3 e4 = λ k.
          none_some q (sym (ap₂ (λ (a b : Bool). if a then Some Max else if b then Some Min else None) (ap₂ (λ (a b : Bool). a || b) e1 e2) (ap₂ (λ (a b : Bool). a || b) e3 e4)) ∙ k)

-- the name of an intrinsic function, which no array has
function_stands : (ss : List SymbolTree) (f : List ℕ) → is_array ss f ≡ false → is_some (intrinsic_named f) ≡ true → names ss f ≡ Function
function_stands ss f a i = go (found 1 ss f)
  where
    go : Found 1 ss f → names ss f ≡ Function
    go (missing q) = ap (meant_in ss) q
    go (at_place j k s same q e m named) =
        let number : k ≡ suc j = omega (arith, same) in
        let symbol : symbol_at ss k ≡ Some s = ap (symbol_at ss) number ∙ to_number ss j s e in
        let flat : has_bounds s.bounds ≡ false = sym (ap (λ o. has_array (symbol_of ss o)) q ∙ ap has_array symbol) ∙ a in
        let is : is_function s ≡ true = ap₂ (λ (b c : Bool). not b && c) flat (ap (λ y. is_some (intrinsic_named y)) (sym named) ∙ i) in
        ap (meant_in ss) q ∙ (ap (meant_at k) symbol ∙ ap (λ b. if b then Function else meant_by s.scalar k s.place) is)

-- ---- one table

module _ (ss : List SymbolTree) (at : Places) (ps : List Part) (d : IsDistinct bytes_eq (symbol_names ss)) (locals : (p : Part) → In p ps → IsPassing ss p.cell) (apart : (p : Part) → In p ps → OthersAreApart ss at p.cell) where
  abbrev as' : List Accumulator
  as' = units_in ss at ps

  -- with names alone that are none of theirs
  pub clear : (e : ExprTree) → ((q : One ps) → Leaves (NotNamed ss q.part) AnyNumber e) → IsClear (units_in ss at ps) (names ss) at e
  clear e h = leaves_of (One ps) (λ q. NotNamed ss q.part) _ (clear_name ss at ps d locals apart) e h

  pub named_so : (q : One ps) → name_in ss q.part ≡ (locals q.part q.is_one).symbol.name
  named_so q = symbol_named ss q.part.cell (locals q.part q.is_one).symbol (locals q.part q.is_one).is_symbol

  pub unnamed : (q : Part) (e : ExprTree) → has_name (name_in ss q) e ≡ false → Leaves (NotNamed ss q) AnyNumber e
  unnamed q e h = leaves_of (Unit {0}) (λ u. Differs (name_in ss q)) (NotNamed ss q) (λ y f. inl (f tt)) e (λ u. differs (name_in ss q) e h)

  unmeant : (q : Part) (e : ExprTree) → names ss (name_in ss q) ≡ Function → Leaves (NotNamed ss q) AnyNumber e
  unmeant q e f = leaves_of ⊥ (λ i y. Unit {0}) (NotNamed ss q) (λ y g. inr f) e (λ i. absurd i)

  -- ---- right sides

  module _ (x : List ℕ) where
    -- each variable of another name does not stand there
    abbrev pub Rest : ExprTree → Type 0
    Rest e = (q : One ps) → (bytes_eq (name_in ss q.part) x ≡ true) ⊎ Leaves (NotNamed ss q.part) AnyNumber e

    abbrev C : ExprTree → Type 0
    C e = IsClear (units_in ss at ps) (names ss) at e

    operand : (e : ExprTree) → Rest e → has_name x e ≡ false → C e
    operand e r h = clear e (λ q. ⊎_elim (λ same. unnamed q.part e (ap (λ y. has_name y e) ((bytes_eq-Decides (name_in ss q.part) x).0 same) ∙ h)) (λ l. l) (r q))

    chain : (p : ReduceOp) (e : ExprTree) → Rest e → is_chain p x e ≡ true → IsChain (op_meant p) x C e
    chain p (tree.int n) r h = absurd (true≢false (sym h))
    chain p (tree.log b) r h = absurd (true≢false (sym h))
    chain p (tree.name y) r h = sym ((bytes_eq-Decides x y).0 h)
    chain p (tree.element y es) r h = absurd (true≢false (sym h))
    chain p (tree.paren e) r h = absurd (true≢false (sym h))
    chain p (tree.unary o e) r h = absurd (true≢false (sym h))
    chain p (tree.binary o a b) r h =
        let z = and_parts (joins p o) (is_chain p x a && not (has_name x b)) h in
        let y = and_parts (is_chain p x a) (not (has_name x b)) z.1 in
        (joins_so o p (op_is p (joining o) z.0), chain p a (λ q. ⊎_elim inl (λ l. inr l.0) (r q)) y.0, operand b (λ q. ⊎_elim inl (λ l. inr l.1) (r q)) (not-true (has_name x b) y.1))
    chain p (tree.chars t) r h = absurd (true≢false (sym h))

    by_operator_adds : (q : ReduceOp) (o : BinaryOp) (a b : ExprTree) → Rest (tree.binary o a b) → (m : Option ReduceOp) → joining o ≡ m → joined_by m x o a b ≡ Some q → Adds (op_meant q) x (names ss) C (tree.binary o a b)
    by_operator_adds q o a b r None e k = none_some q k
    by_operator_adds q o a b r (Some p) e k = go ((is_chain p x a && not (has_name x b)) || (not (is_minus o) && is_with x b a)) refl k
      where
        left : Rest a
        left i = ⊎_elim inl (λ l. inr l.0) (r i)

        right : Rest b
        right i = ⊎_elim inl (λ l. inr l.1) (r i)

        first : (is_chain p x a && not (has_name x b)) ≡ true → Adds (op_meant p) x (names ss) C (tree.binary o a b)
        first h = (let z = and_parts (is_chain p x a) (not (has_name x b)) h in First o a b (joins_so o p e) (chain p a left z.0) (operand b right (not-true (has_name x b) z.1)))

        last : (not (is_minus o) && is_with x b a) ≡ true → Adds (op_meant p) x (names ss) C (tree.binary o a b)
        last h =
            let z = and_parts (not (is_minus o)) (is_with x b a) h in
            let y = and_parts (is_name x b) (not (has_name x a)) z.1 in
            subst (λ b. Adds (op_meant p) x (names ss) C (tree.binary o a b)) (sym (just_name x b y.0)) (Last o a (joins_so o p e) (no_minus o z.0) (operand a left (not-true (has_name x a) y.1)))

        go : (c : Bool) → ((is_chain p x a && not (has_name x b)) || (not (is_minus o) && is_with x b a)) ≡ c → (if c then Some p else None) ≡ Some q → Adds (op_meant q) x (names ss) C (tree.binary o a b)
        go true h k = subst (λ q. Adds (op_meant q) x (names ss) C (tree.binary o a b)) (some_is p q k) (⊎_elim first last (or_cases (is_chain p x a && not (has_name x b)) (not (is_minus o) && is_with x b a) h))
        go false h k = none_some q k

    of_two : (q : ReduceOp) (f : List ℕ) (a b : ExprTree) → names ss f ≡ Function → IsFunctionOf (op_meant q) (intrinsic_named f) → Rest (tree.element f (tree.more_exprs a (tree.more_exprs b tree.no_exprs))) → (is_with x a b || is_with x b a) ≡ true →
        Adds (op_meant q) x (names ss) C (tree.element f (tree.more_exprs a (tree.more_exprs b tree.no_exprs)))
    of_two q f a b w fn r h = ⊎_elim first last (or_cases (is_with x a b) (is_with x b a) h)
      where
        first : is_with x a b ≡ true → Adds (op_meant q) x (names ss) C (tree.element f (tree.more_exprs a (tree.more_exprs b tree.no_exprs)))
        first h =
            let z = and_parts (is_name x a) (not (has_name x b)) h in
            subst (λ a. Adds (op_meant q) x (names ss) C (tree.element f (tree.more_exprs a (tree.more_exprs b tree.no_exprs)))) (sym (just_name x a z.0))
            (FirstOfTwo f b w fn (operand b (λ i. ⊎_elim inl (λ l. inr l.1.1.0) (r i)) (not-true (has_name x b) z.1)))

        last : is_with x b a ≡ true → Adds (op_meant q) x (names ss) C (tree.element f (tree.more_exprs a (tree.more_exprs b tree.no_exprs)))
        last h =
            let z = and_parts (is_name x b) (not (has_name x a)) h in
            subst (λ b. Adds (op_meant q) x (names ss) C (tree.element f (tree.more_exprs a (tree.more_exprs b tree.no_exprs)))) (sym (just_name x b z.0))
            (LastOfTwo f a w fn (operand a (λ i. ⊎_elim inl (λ l. inr l.1.0) (r i)) (not-true (has_name x a) z.1)))

    by_arguments : (q : ReduceOp) (f : List ℕ) (es : ExprTrees) → is_array ss f ≡ false → Rest (tree.element f es) → of_arguments x f es ≡ Some q → Adds (op_meant q) x (names ss) C (tree.element f es)
    by_arguments q f tree.no_exprs n r k = none_some q k
    by_arguments q f (tree.more_exprs a tree.no_exprs) n r k = none_some q k
    by_arguments q f (tree.more_exprs a (tree.more_exprs b tree.no_exprs)) n r k = go (is_with x a b || is_with x b a) refl k
      where
        go : (c : Bool) → (is_with x a b || is_with x b a) ≡ c → (if c then called f else None) ≡ Some q → Adds (op_meant q) x (names ss) C (tree.element f (tree.more_exprs a (tree.more_exprs b tree.no_exprs)))
        go true h k = (let z = called_is f q k in of_two q f a b (function_stands ss f n z.1) z.0 r h)
        go false h k = none_some q k
    by_arguments q f (tree.more_exprs a (tree.more_exprs b (tree.more_exprs c es))) n r k = none_some q k

    by_function_adds : (q : ReduceOp) (f : List ℕ) (es : ExprTrees) → Rest (tree.element f es) → by_function ss x f es ≡ Some q → Adds (op_meant q) x (names ss) C (tree.element f es)
    by_function_adds q f es r k = go (is_array ss f) refl k
      where
        go : (c : Bool) → is_array ss f ≡ c → (if c then None else of_arguments x f es) ≡ Some q → Adds (op_meant q) x (names ss) C (tree.element f es)
        go true h k = none_some q k
        go false h k = by_arguments q f es h r k

    pub right_adds : (q : ReduceOp) (e : ExprTree) → Rest e → by_right ss x e ≡ Some q → Adds (op_meant q) x (names ss) C e
    right_adds q (tree.int n) r k = none_some q k
    right_adds q (tree.log b) r k = none_some q k
    right_adds q (tree.name y) r k = none_some q k
    right_adds q (tree.element f es) r k = by_function_adds q f es r k
    right_adds q (tree.paren e) r k = none_some q k
    right_adds q (tree.unary o e) r k = none_some q k
    right_adds q (tree.binary o a b) r k = by_operator_adds q o a b r (joining o) refl k
    right_adds q (tree.chars t) r k = none_some q k

  -- ---- assignments

  module _ (left right : ExprTree) (agree : (q : One ps) → Agrees q.part.op (in_assignment ss (locals q.part q.is_one).symbol left right)) where
    -- a variable that is not the left side stands in neither side
    not_there : (q : One ps) → is_name (name_in ss q.part) left ≡ false → (has_name (name_in ss q.part) left ≡ false) × (has_name (name_in ss q.part) right ≡ false)
    not_there q h =
        let v = (locals q.part q.is_one).symbol in
        let off : is_name v.name left ≡ false = ap (λ y. is_name y left) (sym (named_so q)) ∙ h in
        let z = not_named q.part.op (has_name v.name left || has_name v.name right) (subst (λ b. Agrees q.part.op (if b then if_accumulated (accumulation ss v right) else if_named (has_name v.name left || has_name v.name right))) off (agree q)) in
        let y = or_parts (has_name v.name left) (has_name v.name right) z in
        (ap (λ y. has_name y left) (named_so q) ∙ y.0, ap (λ y. has_name y right) (named_so q) ∙ y.1)

    -- the left side is none of their names
    plain : (e : ExprTree) → ((q : Part) → In q ps → is_name (name_in ss q) e ≡ false) → IsPlain (reductions_in ss ps) e
    plain (tree.int n) h = tt
    plain (tree.log b) h = tt
    plain (tree.name x) h = none_summed ss at ps x (λ q i. turned (name_in ss q) x (h q i))
    plain (tree.element x es) h = tt
    plain (tree.paren e) h = tt
    plain (tree.unary o e) h = tt
    plain (tree.binary o a b) h = tt
    plain (tree.chars t) h = tt

    none_named : ((q : Part) → In q ps → is_name (name_in ss q) left ≡ false) → AssignAdds (reductions_in ss ps) (names ss) at left right
    none_named h = inl (clear left (λ q. unnamed q.part left (not_there q (h q.part q.is_one)).0), clear right (λ q. unnamed q.part right (not_there q (h q.part q.is_one)).1), plain left h)

    -- one is the left side
    module _ (p : One ps) (is : is_name (name_in ss p.part) left ≡ true) where
      s : SymbolTree
      s = (locals p.part p.is_one).symbol

      accumulates : (q : One ps) → is_name (name_in ss q.part) left ≡ true → accumulation ss (locals q.part q.is_one).symbol right ≡ Some q.part.op
      accumulates q h =
          let v = (locals q.part q.is_one).symbol in
          is_accumulated q.part.op (accumulation ss v right)
          (subst (λ b. Agrees q.part.op (if b then if_accumulated (accumulation ss v right) else if_named (has_name v.name left || has_name v.name right))) (ap (λ y. is_name y left) (sym (named_so q)) ∙ h) (agree q))

      -- another name is not the left side, and one of the same name is of the same symbol
      same_cells : (q : One ps) → name_in ss q.part ≡ name_in ss p.part → q.part.cell ≡ p.part.cell
      same_cells q e =
          let a = locals q.part q.is_one in
          let b = locals p.part p.is_one in
          some_same q.part.cell p.part.cell (sym (name_back ss q.part.cell a.symbol d a.is_symbol) ∙ (ap (number_from 1 (symbol_names ss)) e ∙ name_back ss p.part.cell b.symbol d b.is_symbol))

      same_ops_here : (q : One ps) → name_in ss q.part ≡ name_in ss p.part → q.part.op ≡ p.part.op
      same_ops_here q e =
          let a = locals q.part q.is_one in
          let b = locals p.part p.is_one in
          let one : a.symbol ≡ b.symbol = some_is a.symbol b.symbol (sym a.is_symbol ∙ (ap (symbol_at ss) (same_cells q e) ∙ b.is_symbol)) in
          some_is q.part.op p.part.op (sym (accumulates q (ap (λ y. is_name y left) e ∙ is)) ∙ (ap (λ v. accumulation ss v right) one ∙ accumulates p is))

      other_left : (q : One ps) → bytes_eq (name_in ss q.part) (name_in ss p.part) ≡ false → is_name (name_in ss q.part) left ≡ false
      other_left q h = ap (is_name (name_in ss q.part)) (just_name (name_in ss p.part) left is) ∙ h

      rest : Rest (name_in ss p.part) right
      rest q = go (bytes_eq (name_in ss q.part) (name_in ss p.part)) refl
        where
          go : (b : Bool) → bytes_eq (name_in ss q.part) (name_in ss p.part) ≡ b → (bytes_eq (name_in ss q.part) (name_in ss p.part) ≡ true) ⊎ Leaves (NotNamed ss q.part) AnyNumber right
          go true e = inl e
          go false e = inr (unnamed q.part right (not_there q (other_left q e)).1)

      -- no name stands for it
      faults : is_function (locals p.part p.is_one).symbol ≡ true → AssignAdds (reductions_in ss ps) (names ss) at left right
      faults f =
          subst (λ e. AssignAdds (reductions_in ss ps) (names ss) at e right) (sym (just_name (name_in ss p.part) left is))
          (inr (inr (clear right (λ q. ⊎_elim (λ e. unmeant q.part right (ap (names ss) ((bytes_eq-Decides (name_in ss q.part) (name_in ss p.part)).0 e) ∙ means)) (λ l. l) (rest q)), means)))
        where
          means : names ss (name_in ss p.part) ≡ Function
          means =
              let b = locals p.part p.is_one in
              ap (meant_in ss) (name_back ss p.part.cell b.symbol d b.is_symbol) ∙ (ap (meant_at p.part.cell) b.is_symbol ∙ ap (λ c. if c then Function else meant_by b.symbol.scalar p.part.cell b.symbol.place) f)

      -- the unit of another is another
      apart_units : (q : Part) → In q ps → (w : ℕ) → names ss (name_in ss q) ≡ Variable w → names ss (name_in ss p.part) ≡ Variable p.part.cell → (nat_eq (at p.part.cell).first (at w).first ≡ false) ⊎ (op_meant q.op ≡ op_meant p.part.op)
      apart_units q i w f stands = go (bytes_eq (name_in ss q) (name_in ss p.part)) refl
        where
          go : (b : Bool) → bytes_eq (name_in ss q) (name_in ss p.part) ≡ b → (nat_eq (at p.part.cell).first (at w).first ≡ false) ⊎ (op_meant q.op ≡ op_meant p.part.op)
          go true e = inr (ap op_meant (same_ops_here (record { part = q; is_one = i }) ((bytes_eq-Decides (name_in ss q) (name_in ss p.part)).0 e)))
          go false e =
              let own = own_cell ss at ps d locals apart q i w f in
              let other : p.part.cell ≡ q.cell → ⊥ = λ z. true≢false (sym ((bytes_eq-Decides (name_in ss q) (name_in ss p.part)).1 (ap (name_at (symbol_names ss)) (sym z))) ∙ e) in
              inl (subst (λ n. nat_eq (at p.part.cell).first (at n).first ≡ false) (sym own) (apart q i (name_in ss p.part) p.part.cell stands other).0)

      adds : (tags : (at p.part.cell).tag ≡ tag_of_scalar (locals p.part p.is_one).symbol.scalar) → is_function (locals p.part p.is_one).symbol ≡ false → AssignAdds (reductions_in ss ps) (names ss) at left right
      adds tags f =
          let b = locals p.part p.is_one in
          let stands : names ss (name_in ss p.part) ≡ Variable p.part.cell = name_means ss p.part.cell b d f in
          let z = if_suits_is (by_right ss b.symbol.name right) b.symbol.scalar p.part.op (accumulates p is) in
          inr (inl (record {
            name = name_in ss p.part;
            is = just_name (name_in ss p.part) left is;
            symbol = p.part.cell;
            stands = stands;
            op = op_meant p.part.op;
            one = one_there ss at ps (at p.part.cell).first (op_meant p.part.op) p.part p.part.cell p.is_one stands refl (λ q i w e. apart_units q i w e stands) refl;
            tag = tags ∙ suits_tag p.part.op b.symbol.scalar z.1;
            summed = one_summed ss at ps (name_in ss p.part) (op_meant p.part.op) p.part p.is_one ((bytes_eq-Decides (name_in ss p.part) (name_in ss p.part)).1 refl) refl summed_others;
            adds = right_adds (name_in ss p.part) p.part.op right rest (ap (λ y. by_right ss y right) (named_so p) ∙ z.0);
          }))
        where
          summed_others : (q : Part) → In q ps → (bytes_eq (name_in ss p.part) (name_in ss q) ≡ false) ⊎ (op_meant q.op ≡ op_meant p.part.op)
          summed_others q i = go (bytes_eq (name_in ss p.part) (name_in ss q)) refl
            where
              go : (b : Bool) → bytes_eq (name_in ss p.part) (name_in ss q) ≡ b → (bytes_eq (name_in ss p.part) (name_in ss q) ≡ false) ⊎ (op_meant q.op ≡ op_meant p.part.op)
              go true e = inr (ap op_meant (same_ops_here (record { part = q; is_one = i }) (sym ((bytes_eq-Decides (name_in ss p.part) (name_in ss q)).0 e))))
              go false e = inl e

    -- whether one is the left side
    record NamedOne : Type 0 where
      one : One ps
      is : is_name (name_in ss one.part) left ≡ true

    not_first : (q : Part) (qs : List Part) → is_name (name_in ss q) left ≡ false → ((r : Part) → In r qs → is_name (name_in ss r) left ≡ false) → (r : Part) → In r (q ∷ qs) → is_name (name_in ss r) left ≡ false
    not_first q qs e h r here = e
    not_first q qs e h r (there i) = h r i

    named_one : (qs : List Part) → ((q : Part) → In q qs → In q ps) → NamedOne ⊎ ((q : Part) → In q qs → is_name (name_in ss q) left ≡ false)
    named_one [] f = inr (λ q i. elim i [ ])
    named_one (q ∷ qs) f = go (is_name (name_in ss q) left) refl (named_one qs (λ r i. f r (there i)))
      where
        go : (b : Bool) → is_name (name_in ss q) left ≡ b → NamedOne ⊎ ((r : Part) → In r qs → is_name (name_in ss r) left ≡ false) → NamedOne ⊎ ((r : Part) → In r (q ∷ qs) → is_name (name_in ss r) left ≡ false)
        go true e k = inl (record { one = record { part = q; is_one = f q here }; is = e })
        go false e k = ⊎_elim inl (λ h. inr (not_first q qs e h)) k

    pub assign_adds : (tags : (p : Part) (i : In p ps) → (at p.cell).tag ≡ tag_of_scalar (locals p i).symbol.scalar) → AssignAdds (reductions_in ss ps) (names ss) at left right
    assign_adds tags = ⊎_elim of_one none_named (named_one ps (λ q i. i))
      where
        of_one : NamedOne → AssignAdds (reductions_in ss ps) (names ss) at left right
        of_one n = go (is_function (locals n.one.part n.one.is_one).symbol) refl
          where
            go : (b : Bool) → is_function (locals n.one.part n.one.is_one).symbol ≡ b → AssignAdds (reductions_in ss ps) (names ss) at left right
            go true f = faults n.one n.is f
            go false f = adds n.one n.is (tags n.one.part n.one.is_one) f
