-- Programs whose variables have types.
use Rattle.std.specs.Prelude.{◌≡◌, ℕ, false, nat_eq, List, [], ◌∷◌}
use Rattle.f77_ast.specs.Store.{Tag, Undefined, same_tag}
use Rattle.f77_ast.specs.Places.{Variable, Names, Places}
use Rattle.f77_ast.specs.Calls.{Dummy}
use Rattle.f77_ast.specs.Programs.{Routine}

abbrev pub HasTag : Tag → Type 0
HasTag t = same_tag t Undefined ≡ false

abbrev pub TagsStand : Names → Places → Type 0
TagsStand w at = (x : List ℕ) (v : ℕ) → w x ≡ Variable v → HasTag (at v).tag

abbrev pub DummiesTagged : List Dummy → Type 0
DummiesTagged [] = Unit {0}
DummiesTagged (d ∷ ds) = HasTag d.tag × DummiesTagged ds

-- a variable is none of these
abbrev pub IsNoDummy : List Dummy → ℕ → Type 0
IsNoDummy [] v = Unit {0}
IsNoDummy (d ∷ ds) v = (nat_eq v d.symbol ≡ false) × IsNoDummy ds v

-- those of a module; where its dummies lie each call says
pub record IsTagged (r : Routine) : Type 0 where
  pub dummies : DummiesTagged r.dummies
  pub fixed : (x : List ℕ) (v : ℕ) → r.names x ≡ Variable v → IsNoDummy r.dummies v → HasTag (r.fixed v).tag

abbrev pub AllTagged : List Routine → Type 0
AllTagged [] = Unit {0}
AllTagged (r ∷ rs) = IsTagged r × AllTagged rs
