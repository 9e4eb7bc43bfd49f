-- What the actuals of a CALL offer, and what evaluating them does to the store (ANSI X3.9-1978 §15.9.3).
use Rattle.std.specs.Prelude.{◌≡◌, ℕ, ◌+◌, ◌≤◌, Bool, true, false, List, Some, None, slice_get}
use Rattle.f77_ast.specs.Trees.{ExprTree, ExprTrees}
use Rattle.f77_ast.specs.Store.{Content, Store}
use Rattle.f77_ast.specs.Places.{Variable, Names, Places, scalar_place}
use Rattle.f77_ast.specs.Calls.{Actual, passed_by_reference, in_place}
use Rattle.f77_ast.specs.declared.variable.Unit.{Unit as BlockUnit}
use Rattle.affine_forms.specs.Forms.{affine_of}
use Rattle.affine_forms.specs.Claims.{unit_in, numbers_of, Agrees}
use Rattle.preconditions.specs.transformer_algebra.Claims.{Scene, Means}
use Rattle.preconditions.specs.call_translation.Scopes.{ScopeTree}
use Rattle.preconditions.specs.call_translation.Actuals.{named_cell, actual_at}

-- an activation of a module: what its names stand for, its table, where its variables lie, which of them are tracked cells, the units of blocks as
-- of a scene, and the unit of the expression at each place of a CALL, from 0
pub record Activation : Type 0 where
  pub names : Names
  pub table : ScopeTree
  pub at : Places
  pub tracked : ℕ → Bool
  pub far : BlockUnit → Bool
  pub place : BlockUnit → ℕ
  pub own : ℕ → ℕ

abbrev pub scene : Activation → Scene
scene a = record { tracked = a.tracked; unit = unit_in a.at; far = a.far; place = a.place }

-- forms take names for what they stand for, and the units of expressions are apart from each other, from those of tracked cells and from far ones
pub record Fits (a : Activation) : Type 0 where
  pub agrees : Agrees a.names a.table.scalars a.tracked
  pub apart : (i j : ℕ) → a.own i ≡ a.own j → i ≡ j
  pub cells : (i c : ℕ) → a.tracked c ≡ true → a.own i ≡ unit_in a.at c → ⊥
  pub far : (i : ℕ) (u : BlockUnit) → a.far u ≡ true → a.own i ≡ a.place u → ⊥

-- what an expression at a place offers, where the actuals were evaluated from the store s to the store z
pub data Offers (a : Activation) (e : ExprTree) (n : ℕ) (s z : Store) (x : Actual) : Type 0 where
  -- its value, in a unit of its own
  value_of : (c : Content) → x ≡ record { place = scalar_place (a.own n) c.tag; own = true } → z (a.own n) ≡ c →
      Means (scene a) (affine_of a.table.scalars e) (numbers_of s) c.number → named_cell a.table.scalars e ≡ None → Offers a e n s z x
  -- the tracked cell that it names
  cell_of : (y : List ℕ) (v : ℕ) → a.names y ≡ Variable v → named_cell a.table.scalars e ≡ Some v → a.tracked v ≡ true → x ≡ passed_by_reference (a.at v) →
      Means (scene a) (affine_of a.table.scalars e) (numbers_of s) (numbers_of s (a.at v).first) → Offers a e n s z x
  -- units of another variable; it has no form
  part_of : (y : List ℕ) (v : ℕ) → a.names y ≡ Variable v → x.own ≡ false → ((u : ℕ) → in_place x.place u ≡ true → in_place (a.at v) u ≡ true) →
      affine_of a.table.scalars e ≡ None → named_cell a.table.scalars e ≡ None → Offers a e n s z x

-- actuals from the n-th place on were evaluated, and offer these: only units of expressions have changed
pub record AreOffered (a : Activation) (es : ExprTrees) (n : ℕ) (s z : Store) (xs : List Actual) : Type 0 where
  pub others : (u : ℕ) → ((i : ℕ) → n ≤ i → a.own i ≡ u → ⊥) → z u ≡ s u
  pub each : (i : ℕ) (e : ExprTree) → actual_at es i ≡ Some e → (x : Actual) × (slice_get xs i ≡ Some x) × Offers a e (n + i) s z x
