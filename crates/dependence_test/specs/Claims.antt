-- What it means for the iterations of a DO that there is no conflict.
use Rattle.std.specs.Prelude.{◌≡◌, ◌⊎◌, ℕ, ◌<◌, Bool, true, false, List, Option, Some, None, ℤ}
use Rattle.affine_systems.specs.declared.row.Var.TheVariants.{Phi}
use Rattle.affine_systems.specs.declared.row.System.{System}
use Rattle.f77_ast.specs.Trees.{LoopTree}
use Rattle.f77_ast.specs.Symbols.{SymbolTree}
use Rattle.f77_ast.specs.declared.variable.Variable.{Variable}
use Rattle.f77_ast.specs.declared.results.At.{At}
use Rattle.preconditions.specs.transformer_algebra.declared.transformer.Transformer.{Transformer}
use Rattle.preconditions.specs.transformer_algebra.declared.loop_parts.LoopParts.{LoopParts}
use Rattle.preconditions.specs.transformer_algebra.Cells.{has}
use Rattle.preconditions.specs.transformer_algebra.Laws.{In}
use Rattle.preconditions.specs.transformer_algebra.Loops.{iteration}
use Rattle.preconditions.specs.transformer_algebra.Claims.{Scene, HoldsAt}
use Rattle.preconditions.specs.call_translation.Scopes.{ScopeTree}
use Rattle.f77_ast.specs.declared.marks.Kinds.{Kinds}
use Rattle.region_sets.specs.declared.range.Range.{Range}
use Rattle.region_sets.specs.declared.region.Access.{Access}
use Rattle.region_sets.specs.declared.region.Access.TheVariants.{Write}
use Rattle.region_sets.specs.declared.region.Region.{Region}
use Rattle.region_sets.specs.Naming.{in_rows}
use Rattle.region_sets.specs.Claims.{Places, AreByOrder, LiesIn, LiesInSet, Iteration}
use Rattle.dependence_test.specs.declared.body.LoopBody.{LoopBody}
use Rattle.dependence_test.specs.Body.{parts_of, body_of}
use Rattle.dependence_test.specs.declared.answer.Conflict.{Conflict}
use Rattle.dependence_test.specs.declared.answer.Conflict.TheVariants as answer
use Rattle.dependence_test.specs.Kinds.{first_access, second_access, related}
use Rattle.f77_ast.specs.Variables.{same_variable}

-- ---- iterations

-- the range of a DO with this body: an iteration changes no other cells, and the index is among them
pub record IsRange (b : LoopBody) (g : Range) : Type 0 where
  pub index : g.index ≡ b.index
  pub step : g.step ≡ b.step
  pub cells : (c : ℕ) → has b.cells c ≡ false → has g.turn.cells c ≡ false
  pub own : has b.cells b.index ≡ true

-- the range of a DO with these parts
abbrev pub range_with : LoopParts → Range
range_with l = record { index = l.index; first = l.first; last = l.last; step = l.step; turn = iteration l }

-- it is one of the DO's body
abbrev pub HasRange : Type 0
HasRange =
    (l : LoopTree) (m : ScopeTree) (t : ℕ → Transformer) (ps : List (At System)) (f : ℕ → List Region) → IsRange (body_of l m t ps f) (range_with (parts_of l m t))

-- an iteration after k others, of a DO that is begun at the numbers x and whose first and last expressions have the values first and last there; and
-- the units that it accesses, which its body's regions have
pub record Executed (m : Scene) (at : Places) (b : LoopBody) (g : Range) (x : ℕ → ℤ) (first last : ℤ) (k : ℕ) : Type 0 where
  pub number : ℤ
  pub begin : ℕ → ℤ
  pub iteration : Iteration m g x first last number k begin
  pub head : HoldsAt m b.head begin
  pub accesses : Access → ℕ → Bool
  pub contained : (a : Access) (u : ℕ) → accesses a u ≡ true → LiesInSet m at a b.regions begin u

-- ---- units

-- a unit lies in the WRITE region of a variable
pub record IsWritten (m : Scene) (at : Places) (rs : List Region) (v : Variable) (x : ℕ → ℤ) (u : ℕ) : Type 0 where
  pub region : Region
  pub is_one : In region rs
  pub kind : region.kind ≡ Write
  pub variable : same_variable region.variable v ≡ true
  pub lies : LiesIn m (at region.variable) region x u

-- elements of a variable that have the unit have the same subscripts, as far as its regions name them
abbrev pub HasOneElement : Places → List Region → ℕ → Type 0
HasOneElement at rs u =
    (r : Region) → In r rs → (phi psi : ℕ → ℤ) → at r.variable phi ≡ Some u → at r.variable psi ≡ Some u →
    (s : System) → In s r.pieces → (k : ℕ) → in_rows (Phi k) s.rows ≡ true → phi k ≡ psi k

-- variables that have the unit are one, or share it by COMMON or EQUIVALENCE
abbrev pub IsShared : List SymbolTree → Places → ℕ → Type 0
IsShared ss at u = (v w : Variable) (phi psi : ℕ → ℤ) → at v phi ≡ Some u → at w psi ≡ Some u → related ss v w ≡ true

-- ---- no conflict

-- no two iterations access a unit so, where it lies in the WRITE region of the variable at the beginning of one that so writes it
abbrev pub DoNotMeet : List SymbolTree → LoopBody → Variable → Kinds → Type 0
DoNotMeet ss b v ks =
    (m : Scene) (at : Places) → AreByOrder at → (g : Range) → IsRange b g →
    (x : ℕ → ℤ) (first last : ℤ) (j k : ℕ) → j < k → (p : Executed m at b g x first last j) (q : Executed m at b g x first last k) →
    (u : ℕ) → HasOneElement at b.regions u → IsShared ss at u →
    p.accesses (first_access ks) u ≡ true → q.accesses (second_access ks) u ≡ true →
    ((first_access ks ≡ Write) × IsWritten m at b.regions v p.begin u) ⊎ ((second_access ks ≡ Write) × IsWritten m at b.regions v q.begin u) → ⊥

-- of a DO, where it is there
abbrev pub DoNotMeetIn : List SymbolTree → Variable → Kinds → (LoopTree → LoopBody) → Option LoopTree → Type 0
DoNotMeetIn ss v ks body None = Unit {0}
DoNotMeetIn ss v ks body (Some l) = DoNotMeet ss (body l) v ks

abbrev pub IfNoConflict : Conflict → Type 0 → Type 0
IfNoConflict answer.None P = P
IfNoConflict (answer.Kept s) P = Unit {0}

abbrev pub IfKept : Conflict → (System → Type 0) → Type 0
IfKept answer.None P = Unit {0}
IfKept (answer.Kept s) P = P s
