-- Expressions that reach no reduction variable read units alone, and none of these variables.
use Rattle.std.proofs.Common.{◌≡◌, arith, ℕ, ◌+◌, List, ◌∷◌, Bool, true, false, refl, Option, Some, None, ℤ, nat_lt}
use Rattle.std.specs.Prelude.{if◌then◌else◌}
use Rattle.std.proofs.lemmas.Bool.Decides.{nat_tests}
use Rattle.f77_ast.specs.Trees.{ExprTree, ExprTrees}
use Rattle.f77_ast.specs.Trees as tree
use Rattle.f77_ast.specs.Store.{Tag, Int, same_tag, Content}
use Rattle.f77_ast.specs.Faults.{Unset}
use Rattle.f77_ast.specs.Steps.{Steps, ◌>>=◌}
use Rattle.f77_ast.specs.Steps as steps
use Rattle.f77_ast.specs.Numbers.{unary_tag, unary_number, binary_tag, binary_number, Intrinsic, intrinsic_named, intrinsic_number}
use Rattle.f77_ast.specs.Places.{Meant, Constant, Variable, Function, Names, Place, Places, position, within}
use Rattle.f77_ast.specs.Values.{fault, given, read_unit, unit_after, element_unit, name_value, intrinsic_value, element_value, value, values}
use Rattle.f77_ast.specs.Calls.{in_place}
use Rattle.laws_interleavings.specs.Reductions.{Accumulator}
use Rattle.laws_interleavings.specs.Accumulated.{IsFree, IsClearName, IsClear}
use Rattle.laws_interleavings.specs.Plans.Touched.{AnyNumber, Suits, AllLeaves, Reaches}
use Rattle.laws_interleavings.proofs.Accumulating.To.{Reads, reads_then}

in_extent : (p : Place) (k : ℕ) → nat_lt k p.extent ≡ true → in_place p (p.first + k) ≡ true
in_extent p k e = grind (arith, nat_tests)

module _ (as' : List Accumulator) where
  reads_given : (t : Tag) (o : Option ℤ) → Reads as' (given t o)
  reads_given t None = tt
  reads_given t (Some n) = tt

  reads_unit : (t : Tag) (u : ℕ) → IsFree as' u → Reads as' (read_unit t u)
  reads_unit t u h = (h, λ c. go (same_tag t c.tag) c)
    where
      go : (b : Bool) (c : Content) → Reads as' {A = Content} (if b then steps.Done c else fault Unset)
      go true c = tt
      go false c = tt

  -- each unit that it gives is free
  abbrev FreeUnits : Steps ℕ → Type 0
  FreeUnits (steps.Done u) = IsFree as' u
  FreeUnits (steps.Breaks b) = Unit {0}
  FreeUnits (steps.Look u k) = ⊥
  FreeUnits (steps.Set u c t) = ⊥
  FreeUnits (steps.Hold u c t) = ⊥
  FreeUnits (steps.Forget u t) = ⊥
  FreeUnits (steps.Show xs t) = ⊥
  FreeUnits (steps.Take k) = ⊥
  FreeUnits (steps.Arrive p t) = ⊥

  free_then : (t : Steps ℕ) (f : ℕ → Steps Content) → FreeUnits t → ((u : ℕ) → IsFree as' u → Reads as' (f u)) → Reads as' (t >>= f)
  free_then (steps.Done u) f h n = n u h
  free_then (steps.Breaks b) f h n = tt
  free_then (steps.Look u k) f h n = absurd h
  free_then (steps.Set u c t) f h n = absurd h
  free_then (steps.Hold u c t) f h n = absurd h
  free_then (steps.Forget u t) f h n = absurd h
  free_then (steps.Show xs t) f h n = absurd h
  free_then (steps.Take k) f h n = absurd h
  free_then (steps.Arrive p t) f h n = absurd h

  element_free : (p : Place) (ns : List ℤ) → Reaches (IsFree as') p → FreeUnits (element_unit p ns)
  element_free p ns r = go (position p.dims ns)
    where
      inside : (k : ℕ) (b : Bool) → nat_lt k p.extent ≡ b → FreeUnits (unit_after p.first (if b then Some k else None))
      inside k true h = r.1 (p.first + k) (in_extent p k h)
      inside k false h = tt

      go : (o : Option ℕ) → FreeUnits (unit_after p.first (within p o))
      go None = tt
      go (Some k) = inside k (nat_lt k p.extent) refl

  reads_name : (m : Meant) (at : Places) → Suits (IsFree as') AnyNumber at m → Reads as' (name_value m at)
  reads_name (Constant c) at h = tt
  reads_name (Variable v) at h = reads_unit (at v).tag (at v).first h.0
  reads_name Function at h = tt

  reads_intrinsic : (o : Option Intrinsic) (ns : List ℤ) → Reads as' (intrinsic_value o ns)
  reads_intrinsic None ns = tt
  reads_intrinsic (Some f) ns = reads_given Int (intrinsic_number f ns)

  reads_element : (m : Meant) (x : List ℕ) (at : Places) (ns : List ℤ) → Suits (IsFree as') AnyNumber at m → Reads as' (element_value m x at ns)
  reads_element (Constant c) x at ns h = tt
  reads_element (Variable v) x at ns h = free_then (element_unit (at v) ns) (read_unit (at v).tag) (element_free (at v) ns h) (λ u i. reads_unit (at v).tag u i)
  reads_element Function x at ns h = reads_intrinsic (intrinsic_named x) ns

  module _ (w : Names) (at : Places) where
    mutual
      pub reads_value : (e : ExprTree) → IsClear as' w at e → Reads as' (value e w at)
      reads_value (tree.int n) h = tt
      reads_value (tree.log b) h = tt
      reads_value (tree.name x) h = reads_name (w x) at h
      reads_value (tree.element x es) h = reads_then as' (values es w at) (element_value (w x) x at) (reads_values es h.1) (λ ns. reads_element (w x) x at ns h.0)
      reads_value (tree.paren e) h = reads_value e h
      reads_value (tree.unary o e) h = reads_then as' (value e w at) (λ c. given (unary_tag o) (unary_number o c.number)) (reads_value e h) (λ c. reads_given (unary_tag o) (unary_number o c.number))
      reads_value (tree.binary o a b) h =
          reads_then as' (value a w at) (λ c. value b w at >>= λ d. given (binary_tag o) (binary_number o c.number d.number)) (reads_value a h.0)
          (λ c. reads_then as' (value b w at) (λ d. given (binary_tag o) (binary_number o c.number d.number)) (reads_value b h.1) (λ d. reads_given (binary_tag o) (binary_number o c.number d.number)))
      reads_value (tree.chars x) h = tt

      pub reads_values : (es : ExprTrees) → AllLeaves (IsClearName as' w at) AnyNumber es → Reads as' (values es w at)
      reads_values tree.no_exprs h = tt
      reads_values (tree.more_exprs e es) h =
          reads_then as' (value e w at) (λ c. values es w at >>= λ ns. steps.Done (c.number ∷ ns)) (reads_value e h.0)
          (λ c. reads_then as' (values es w at) (λ ns. steps.Done (c.number ∷ ns)) (reads_values es h.1) (λ ns. tt))
