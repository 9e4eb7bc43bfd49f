-- What is known of the units of a module's names while it runs, and how its statements end.
use Rattle.std.specs.Prelude.{◌≡◌, ℕ, ◌+◌, ◌<◌, Bool, true, false, nat_eq, List, [], Some, is_some}
use Rattle.affine_systems.specs.declared.row.System.{System}
use Rattle.f77_ast.specs.Store.{Store}
use Rattle.f77_ast.specs.Places.{Names, Places, Variable}
use Rattle.f77_ast.specs.Writes.{Locks}
use Rattle.f77_ast.specs.Plans.{Flow, Normal, Jump, Returned, Stopped}
use Rattle.f77_ast.specs.declared.variable.Unit.{Unit as BlockUnit}
use Rattle.f77_ast.specs.Symbols.{number_from}
use Rattle.affine_forms.specs.Scalars.{is_cell}
use Rattle.affine_forms.specs.Claims.{unit_in, numbers_of, Agrees}
use Rattle.preconditions.specs.transformer_algebra.declared.transformer.Transformer.{Transformer}
use Rattle.preconditions.specs.transformer_algebra.Cells.{has}
use Rattle.preconditions.specs.transformer_algebra.Claims.{Scene, HoldsAt, Kept, Does}
use Rattle.preconditions.specs.call_translation.Scopes.{ScopeTree}

-- ---- names

-- what names stand for in runs is what they are taken for in forms
pub record NamesFit (w : Names) (m : ScopeTree) : Type 0 where
  pub agrees : Agrees w m.scalars (is_cell m.tracked)
  pub numbers : (x : List ℕ) (v : ℕ) → w x ≡ Variable v → number_from 1 m.names x ≡ Some v
  pub cells : (x : List ℕ) (v : ℕ) → w x ≡ Variable v → is_cell m.tracked v ≡ true → m.scalars.cell x ≡ Some v

-- ---- units

-- the cells of a module at these places; far: units of blocks that are tracked, and that no name and no dummy argument of it reaches
abbrev pub scene_at : ScopeTree → Places → (BlockUnit → Bool) → (BlockUnit → ℕ) → Scene
scene_at m at far place = record { tracked = is_cell m.tracked; unit = unit_in at; far = far; place = place }

abbrev pub is_locked : Locks → ℕ → Bool
is_locked locked u = is_some (locked u)

-- still: units whose numbers stay, as they are locked or as no name reaches them
pub record Fit (w : Names) (scalar : List ℕ → Bool) (at : Places) (e : Scene) (locked : Locks) (still : ℕ → Bool) : Type 0 where
  -- a unit of a tracked cell is none of another name, but where it is locked
  pub apart : (x : List ℕ) (v n c : ℕ) → w x ≡ Variable v → n < (at v).extent → e.tracked c ≡ true → nat_eq v c ≡ false → (at v).first + n ≡ e.unit c → is_locked locked (e.unit c) ≡ true
  pub stays : (x : List ℕ) (v n : ℕ) → w x ≡ Variable v → n < (at v).extent → still ((at v).first + n) ≡ true → is_locked locked ((at v).first + n) ≡ true
  pub near : (x : List ℕ) (v n : ℕ) → w x ≡ Variable v → n < (at v).extent → (u : BlockUnit) → e.far u ≡ true → e.place u ≡ (at v).first + n → ⊥
  pub solid : (x : List ℕ) (v : ℕ) → w x ≡ Variable v → scalar x ≡ true → 0 < (at v).extent
  pub flat : (x : List ℕ) (v : ℕ) → w x ≡ Variable v → e.tracked v ≡ true → (at v).dims ≡ []

abbrev pub Still : (ℕ → Bool) → Store → Store → Type 0
Still still s z = (u : ℕ) → still u ≡ true → numbers_of z u ≡ numbers_of s u

-- ---- ends

-- where control leaves: what the transformer does not list has kept its numbers
pub record Stayed (e : Scene) (t : Transformer) (still : ℕ → Bool) (s z : Store) : Type 0 where
  pub kept : Kept e t.cells t.foreign (numbers_of s) (numbers_of z)
  pub steady : Still still s z

-- a normal end, after which q holds
pub record Done (e : Scene) (t : Transformer) (q : System) (still : ℕ → Bool) (s z : Store) : Type 0 where
  pub does : Does e t (numbers_of s) (numbers_of z)
  pub after : HoldsAt e q (numbers_of z)
  pub steady : Still still s z

-- a jump to a label comes from a GO TO: whatever labels are asked for, that one among them
abbrev pub Jumps : (List ℕ → Bool) → ℕ → Type 0
Jumps goes l = (ls : List ℕ) → has ls l ≡ true → goes ls ≡ true

-- from the store s to an end with the store z; goes: whether it has a GO TO one of these labels; ret: whether it has a RETURN; own: whether a RETURN
-- counts as its normal end, as of the body of a module
abbrev pub Ended : Scene → Transformer → System → (List ℕ → Bool) → Bool → Bool → (ℕ → Bool) → Store → Flow → Store → Type 0
Ended e t q goes ret own still s Normal z = Done e t q still s z
Ended e t q goes ret own still s (Jump l) z = Jumps goes l × Stayed e t still s z
Ended e t q goes ret own still s Returned z = (ret ≡ true) × Stayed e t still s z × (own ≡ true → Done e t q still s z)
Ended e t q goes ret own still s Stopped z = Unit {0}
