-- The layouts that the COMMON and EQUIVALENCE statements of a module admit (ANSI X3.9-1978 §8.2, §8.3): a spot for each name. Nothing is joined or moved here.
use Rattle.std.specs.Prelude.{◌≡◌, ℕ, ◌+◌, ℤ, pos, ◌+ℤ◌, ◌≤ℤ◌, List, [], ◌∷◌, Some}
use Rattle.std.specs.List.{AllByRecursion}
use Rattle.f77_ast.specs.Trees.{ExprTree}
use Rattle.f77_ast.specs.DeclTrees.{DeclTree}
use Rattle.f77_names.specs.Tables.{NameTable}
use Rattle.storage_data.specs.Units.{place_of, units_of}
use Rattle.storage_layout.specs.Statements.{members, equivalences}
use Rattle.storage_layout.specs.Laws.{ItemUnit}

-- a COMMON block, or storage that is in none
pub data Area : Type 0 where
  block : (name : List ℕ) → Area
  local : (number : ℕ) → Area

-- where a variable begins: so many units behind the first of an area, or before it
pub record Spot : Type 0 where
  pub area : Area
  pub offset : ℤ

abbrev pub behind : Spot → ℤ → Spot
behind s n = record { area = s.area; offset = s.offset +ℤ n }

-- the first of these variables begins at this unit of the block, and each other one where the one before it ends (§8.3.2)
abbrev pub RunsFrom : NameTable → (List ℕ → Spot) → List ℕ → ℕ → List (List ℕ) → Type 0
RunsFrom t f b n [] = Unit {0}
RunsFrom t f b n (x ∷ xs) = (f x ≡ record { area = block b; offset = pos n }) × RunsFrom t f b (n + units_of t x) xs

-- the units that these items stand for are here
abbrev pub MeetAt : NameTable → (List ℕ → Spot) → Spot → List ExprTree → Type 0
MeetAt t f s [] = Unit {0}
MeetAt t f s (i ∷ is) = (r : ItemUnit t i) × (behind (f r.name) (pos r.unit) ≡ s) × MeetAt t f s is

-- the items of a group share a unit (§8.2.2)
abbrev pub GroupMeets : NameTable → (List ℕ → Spot) → List ExprTree → Type 0
GroupMeets t f is = (s : Spot) × MeetAt t f s is

-- what the statements ask; and no variable begins before the first unit of its block (§8.3)
pub record Satisfies (t : NameTable) (ds : List DeclTree) (f : List ℕ → Spot) : Type 0 where
  pub common : (b : List ℕ) → RunsFrom t f b 0 (members b ds)
  pub equivalence : AllByRecursion (GroupMeets t f) (equivalences ds)
  pub begins : (x : List ℕ) (k : ℕ) (b : List ℕ) → place_of t x ≡ Some k → (f x).area ≡ block b → pos 0 ≤ℤ (f x).offset
