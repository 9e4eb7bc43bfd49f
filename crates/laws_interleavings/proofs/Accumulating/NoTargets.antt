-- Assignments to the name of a function: what is read first is the same where sums wrap, and then the assignment is a fault.
use Rattle.std.proofs.Common.{◌≡◌, ℕ, List, Bool, true, false, ◌&&◌, ◌||◌, refl, sym, subst, ℤ, Option, Some, None}
use Rattle.std.specs.Prelude.{if◌then◌else◌}
use Rattle.f77_ast.specs.Trees.{ExprTree}
use Rattle.f77_ast.specs.Trees as tree
use Rattle.f77_ast.specs.Store.{Tag, Int, Content, content}
use Rattle.f77_ast.specs.Steps.{Steps, Done, Breaks, Look, Set, Hold, Forget, Show, Take, Arrive, ◌>>=◌}
use Rattle.f77_ast.specs.Numbers.{binary_tag, binary_number}
use Rattle.f77_ast.specs.Places.{Meant, Function, Names, Places}
use Rattle.f77_ast.specs.Values.{given, value, name_target}
use Rattle.f77_ast.specs.Writes.{Locks, write}
use Rattle.laws_interleavings.specs.Reductions.{Accumulator, operator_at}
use Rattle.laws_interleavings.specs.Rides.{Phase, Outside}
use Rattle.laws_interleavings.specs.Accumulating.{Reduction, has_name, adds, wrapped, is_summed, sum_value, right_value}
use Rattle.laws_interleavings.specs.Accumulated.{IsClear}
use Rattle.laws_interleavings.proofs.Accumulating.To.{RidesTo, rides_then, Same, Reads, match_none}
use Rattle.laws_interleavings.proofs.Accumulating.Reading.{reads_value}

-- in the end no accumulation is open
abbrev Closed : {A B : Type 0} → Phase → A → B → Type 0
Closed phase a b = phase ≡ Outside

module _ (as' : List Accumulator) where
  reads_close : {A : Type 0} (t : Steps A) → Reads as' t → RidesTo as' Closed Outside t t
  reads_close (Done a) r = refl
  reads_close (Breaks b) r = tt
  reads_close (Look u k) r = (refl, match_none as' (operator_at as' u) _ _ r.0 (λ c. reads_close (k c) (r.1 c)))
  reads_close (Set u c t) r = absurd r
  reads_close (Hold u c t) r = absurd r
  reads_close (Forget u t) r = absurd r
  reads_close (Show xs t) r = absurd r
  reads_close (Take k) r = absurd r
  reads_close (Arrive p t) r = absurd r

  given_closes : (t : Tag) (o : Option ℤ) (d : Content) → RidesTo as' Closed Outside (given t o) (Done d)
  given_closes t None d = tt
  given_closes t (Some n) d = refl

  module _ (w : Names) (at : Places) where
    sums_read : (x : List ℕ) (e : ExprTree) → IsClear as' w at e → RidesTo as' Closed Outside (value e w at) (sum_value x e w at)
    sums_read x (tree.int n) h = refl
    sums_read x (tree.log b) h = refl
    sums_read x (tree.name y) h = reads_close (value (tree.name y) w at) (reads_value as' w at (tree.name y) h)
    sums_read x (tree.element y es) h = reads_close (value (tree.element y es) w at) (reads_value as' w at (tree.element y es) h)
    sums_read x (tree.paren e) h = reads_close (value (tree.paren e) w at) (reads_value as' w at (tree.paren e) h)
    sums_read x (tree.unary o e) h = reads_close (value (tree.unary o e) w at) (reads_value as' w at (tree.unary o e) h)
    sums_read x (tree.binary o a b) h = go (adds o && (has_name x a || has_name x b)) (sums_read x a h.0) (sums_read x b h.1)
      where
        plain : Content → Steps Content
        plain c = value b w at >>= λ d. given (binary_tag o) (binary_number o c.number d.number)

        sum : Content → Steps Content
        sum c = sum_value x b w at >>= λ d. Done (content Int (wrapped o c.number d.number))

        last : (c d : Content) (ph : Phase) (e f : Content) → ph ≡ Outside → RidesTo as' Closed ph (given (binary_tag o) (binary_number o c.number e.number)) (Done (content Int (wrapped o d.number f.number)))
        last c d ph e f q = subst (λ ph. RidesTo as' Closed ph (given (binary_tag o) (binary_number o c.number e.number)) (Done (content Int (wrapped o d.number f.number)))) (sym q) (given_closes (binary_tag o) (binary_number o c.number e.number) (content Int (wrapped o d.number f.number)))

        next : RidesTo as' Closed Outside (value b w at) (sum_value x b w at) → (ph : Phase) (c d : Content) → ph ≡ Outside → RidesTo as' Closed ph (plain c) (sum d)
        next l ph c d q = subst (λ ph. RidesTo as' Closed ph (plain c) (sum d)) (sym q) (rides_then as' Closed Closed Outside (value b w at) (sum_value x b w at) _ _ l (last c d))

        go : (z : Bool) → RidesTo as' Closed Outside (value a w at) (sum_value x a w at) → RidesTo as' Closed Outside (value b w at) (sum_value x b w at) → RidesTo as' Closed Outside (value a w at >>= plain) (if z then (sum_value x a w at >>= sum) else value (tree.binary o a b) w at)
        go true k l = rides_then as' Closed Closed Outside (value a w at) (sum_value x a w at) plain sum k (next l)
        go false k l = reads_close (value (tree.binary o a b) w at) (reads_value as' w at (tree.binary o a b) h)
    sums_read x (tree.chars t) h = reads_close (value (tree.chars t) w at) (reads_value as' w at (tree.chars t) h)

    right_reads : (rs : List Reduction) (x : List ℕ) (e : ExprTree) → IsClear as' w at e → RidesTo as' Closed Outside (value e w at) (right_value rs (tree.name x) e w at)
    right_reads rs x e h = go (is_summed rs x)
      where
        go : (z : Bool) → RidesTo as' Closed Outside (value e w at) (if z then sum_value x e w at else value e w at)
        go true = sums_read x e h
        go false = reads_close (value e w at) (reads_value as' w at e h)

    pub no_target : (rs : List Reduction) (x : List ℕ) (e : ExprTree) (locked : Locks) → IsClear as' w at e → w x ≡ Function →
        RidesTo as' Same Outside (value e w at >>= λ c. name_target (w x) at >>= λ t. write locked t.unit (content t.tag c.number)) (right_value rs (tree.name x) e w at >>= λ c. name_target (w x) at >>= λ t. write locked t.unit (content t.tag c.number))
    no_target rs x e locked h f =
        subst (λ (m : Meant). RidesTo as' Same Outside (value e w at >>= λ c. name_target m at >>= λ t. write locked t.unit (content t.tag c.number)) (right_value rs (tree.name x) e w at >>= λ c. name_target m at >>= λ t. write locked t.unit (content t.tag c.number))) (sym f)
        (rides_then as' Closed Same Outside (value e w at) (right_value rs (tree.name x) e w at) _ _ (right_reads rs x e h) faults)
      where
        faults : (ph : Phase) (c d : Content) → ph ≡ Outside → RidesTo as' Same ph (name_target Function at >>= λ t. write locked t.unit (content t.tag c.number)) (name_target Function at >>= λ t. write locked t.unit (content t.tag d.number))
        faults ph c d q = subst (λ ph. RidesTo as' Same ph (name_target Function at >>= λ t. write locked t.unit (content t.tag c.number)) (name_target Function at >>= λ t. write locked t.unit (content t.tag d.number))) (sym q) tt
