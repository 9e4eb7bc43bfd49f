-- What the rules keep: where the parts describe the ways between numbers, so does what is made of them.
use Rattle.std.specs.Prelude.{◌≡◌, ℕ, List, ◌∷◌, Some, true, ℤ, ◌+ℤ◌}
use Rattle.affine_systems.specs.declared.row.System.{System}
use Rattle.f77_ast.specs.declared.variable.Unit.{Unit as BlockUnit}
use Rattle.transformer_algebra.specs.declared.transformer.Transformer.{Transformer}
use Rattle.transformer_algebra.specs.declared.loop_parts.LoopParts.{LoopParts}
use Rattle.transformer_algebra.specs.Cells.{has}
use Rattle.transformer_algebra.specs.Transformers.{test, followed, apply, without, all_cells, one_of, iterate}
use Rattle.transformer_algebra.specs.Loops.{own_cells, goes_up, iteration, loop_transformer, at_iteration, after_loop}
use Rattle.transformer_algebra.specs.Claims.{Scene, HoldsAt, Kept, Does, Chain, Wrote, Tracks, Means, NotBeyond, Beyond}

-- one of a list
pub data In {A : Type 0} (a : A) : List A → Type 0 where
  here : {as' : List A} → In a (a ∷ as')
  there : {b : A} {as' : List A} → In a as' → In a (b ∷ as')

pub record RulesHold : Type 0 where
  -- one after the other
  pub then_does : (m : Scene) (a b : Transformer) (x y z : ℕ → ℤ) → Does m a x y → Does m b y z → Does m (followed a b) x z
  -- what holds after
  pub apply_holds : (m : Scene) (t : Transformer) (s : System) (x y : ℕ → ℤ) → HoldsAt m s x → Does m t x y → HoldsAt m (apply t s) y
  pub without_holds : (m : Scene) (cs : List ℕ) (us : List BlockUnit) (s : System) (x y : ℕ → ℤ) → HoldsAt m s x → Kept m cs us x y → HoldsAt m (without cs s) y
  -- nothing changes, where a system holds
  pub test_does : (m : Scene) (s : System) (x : ℕ → ℤ) → HoldsAt m s x → Does m (test s) x x
  -- one of some
  pub one_does : (m : Scene) (t : Transformer) (ts : List Transformer) (x y : ℕ → ℤ) → Tracks m (all_cells ts) → In t ts → Does m t x y → Does m (one_of ts) x y
  -- any number of iterations
  pub closed_does : (m : Scene) (t : Transformer) (x y : ℕ → ℤ) → Tracks m t.cells → Chain m t x y → Does m (iterate t) x y

-- a loop with a constant step s, begun with the numbers x, where its first and last expression have the values a and b; the index is then given its
-- first value, which makes the numbers x1. Its iteration changes tracked cells alone, and the index, where that is tracked
pub record Begun (m : Scene) (l : LoopParts) (t : Transformer) (s a b : ℤ) (x x1 : ℕ → ℤ) : Type 0 where
  pub step : l.step ≡ Some s
  pub index : m.tracked l.index ≡ l.tracked
  pub tracks : Tracks m t.cells
  pub changes : (c : ℕ) → has (own_cells l) c ≡ true → has t.cells c ≡ true
  pub first : Means m l.first x a
  pub last : Means m l.last x b
  pub wrote : Wrote m l.index a x x1

pub record LoopRulesHold : Type 0 where
  -- the body, and then the next value of the index
  pub turn_does : (m : Scene) (l : LoopParts) (t : Transformer) (s a b : ℤ) (x x1 : ℕ → ℤ) → Begun m l t s a b x x1 →
      (n : ℤ) (y w z : ℕ → ℤ) → Does m l.body y w → w (m.unit l.index) ≡ n → Wrote m l.index (n +ℤ s) w z → Does m (iteration l) y z
  -- no iteration
  pub zero_does : (m : Scene) (l : LoopParts) (t : Transformer) (s a b : ℤ) (x x1 : ℕ → ℤ) → Begun m l t s a b x x1 → Beyond (goes_up s) a b → Does m (loop_transformer l t) x x1
  -- iterations of which the last begins at y and ends at z
  pub some_does : (m : Scene) (l : LoopParts) (t : Transformer) (s a b : ℤ) (x x1 : ℕ → ℤ) → Begun m l t s a b x x1 → NotBeyond (goes_up s) a b →
      (y z : ℕ → ℤ) → Chain m t x1 y → NotBeyond (goes_up s) (y (m.unit l.index)) b → Does m t y z → Beyond (goes_up s) (z (m.unit l.index)) b → Does m (loop_transformer l t) x z
  -- at the beginning y of each iteration
  pub turn_holds : (m : Scene) (l : LoopParts) (t : Transformer) (s a b : ℤ) (x x1 : ℕ → ℤ) → Begun m l t s a b x x1 → (p : System) → HoldsAt m p x → NotBeyond (goes_up s) a b →
      (y : ℕ → ℤ) → Chain m t x1 y → NotBeyond (goes_up s) (y (m.unit l.index)) b → HoldsAt m (at_iteration l t p) y
  -- after no iteration
  pub zero_holds : (m : Scene) (l : LoopParts) (t : Transformer) (s a b : ℤ) (x x1 : ℕ → ℤ) → Begun m l t s a b x x1 → (p : System) → HoldsAt m p x → Beyond (goes_up s) a b →
      (q : System) → HoldsAt m (after_loop l t p q) x1
  -- after the last iteration, whose body ends at w with the index n
  pub some_holds : (m : Scene) (l : LoopParts) (t : Transformer) (s a b : ℤ) (x x1 : ℕ → ℤ) → Begun m l t s a b x x1 → (p : System) → HoldsAt m p x →
      (q : System) (n : ℤ) (w z : ℕ → ℤ) → HoldsAt m q w → w (m.unit l.index) ≡ n → Wrote m l.index (n +ℤ s) w z → Chain m t x1 z → Beyond (goes_up s) (z (m.unit l.index)) b → HoldsAt m (after_loop l t p q) z
