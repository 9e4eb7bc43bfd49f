-- What the IN regions of a list say of executions, from what those of its statements say. A unit is first read in a list where it is first read in a
-- statement and was not written in those before it.
use Rattle.std.specs.Prelude.{◌≡◌, ℕ, Bool, true, false, List, [], ◌∷◌, MatchOption, ℤ}
use Rattle.affine_systems.specs.declared.row.Var.TheVariants.{Phi}
use Rattle.affine_systems.specs.Points.{Point}
use Rattle.f77_ast.specs.Trees.{StmtTrees}
use Rattle.f77_ast.specs.declared.variable.Variable.{Variable}
use Rattle.f77_ast.specs.Symbols.{SymbolTree}
use Rattle.array_regions.specs.transformer_algebra.declared.transformer.Transformer.{Transformer}
use Rattle.array_regions.specs.transformer_algebra.Claims.{Scene, AtStart, Does}
use Rattle.array_regions.specs.transformer_algebra.Laws.{In}
use Rattle.array_regions.specs.transformers.Jumps.{unstructured}
use Rattle.array_regions.specs.transformers.Lists.{list_at}
use Rattle.array_regions.specs.region_sets.declared.region.Access.{Access}
use Rattle.array_regions.specs.region_sets.declared.region.Access.TheVariants.{Write}
use Rattle.array_regions.specs.region_sets.declared.region.Region.{Region}
use Rattle.array_regions.specs.region_sets.Lists.{numbers}
use Rattle.hull_projection.specs.Unions.{HoldsSome}
use Rattle.array_regions.specs.region_sets.Claims.{Accessed, IsSharp, IsSharpSet, Places, AreByOrder, LiesInSet}
use Rattle.array_regions.specs.region_sets.Laws.{HasAnyStep, NoneExact}
use Rattle.in_out_regions.specs.Writes.{write_of, is_overlapped}

-- each element that an exact WRITE region describes is written
abbrev pub AreWritten : Scene → Places → List Region → (ℕ → ℤ) → (ℕ → Bool) → Type 0
AreWritten m at ws x written = (w : Region) → In w ws → w.kind ≡ Write → IsSharp m (at w.variable) w x written

-- a statement with these WRITE regions is executed and does not write the unit
pub record PassesBy (m : Scene) (at : Places) (t : Transformer) (ws : List Region) (u : ℕ) (x y : ℕ → ℤ) : Type 0 where
  pub does : Does m t x y
  pub written : ℕ → Bool
  pub writes : AreWritten m at ws x written
  pub spares : written u ≡ false

-- the statement with the number n is reached at the numbers z, from the first of a list at others, and the unit is not written on the way
pub data ReachedUnwritten (m : Scene) (at : Places) (t : ℕ → Transformer) (f : ℕ → List Region) (u n : ℕ) (z : ℕ → ℤ) : List ℕ → (ℕ → ℤ) → Type 0 where
  arrived : {ns : List ℕ} → ReachedUnwritten m at t f u n z (n ∷ ns) z
  past : {j : ℕ} {ns : List ℕ} {x y : ℕ → ℤ} → PassesBy m at (t j) (f j) u x y → ReachedUnwritten m at t f u n z ns y → ReachedUnwritten m at t f u n z (j ∷ ns) x

-- what lies in the IN regions of a statement that is reached so, lies in those of the list
abbrev pub HasFirstSteps : (ℕ → Transformer) → (ℕ → List Region) → (ℕ → List Region) → List ℕ → List Region → Type 0
HasFirstSteps t f g ns qs =
    (m : Scene) (at : Places) → AreByOrder at → (k : Access) (u n : ℕ) (x z : ℕ → ℤ) → ReachedUnwritten m at t f u n z ns x → LiesInSet m at k (g n) z u → LiesInSet m at k qs x u

-- ---- exact ones

-- an element of the variable is one that its WRITE region describes
abbrev pub IsDescribed : Variable → List Region → Point → Type 0
IsDescribed v ws p = MatchOption (write_of v ws) ⊥ (λ w. HoldsSome p w.pieces)

-- what is written of a variable lies in its WRITE region, where no variable is written that shares units with it
abbrev pub IsWithinWrites : List SymbolTree → Scene → Places → List Region → (ℕ → ℤ) → (ℕ → Bool) → Type 0
IsWithinWrites ss m at ws x written =
    (v : Variable) → is_overlapped ss ws v ≡ false → (p : Point) → AtStart m x p → Accessed (at v) written (λ k. p (Phi k)) → IsDescribed v ws p

-- first read in one or the other of two parts, one after the other: in the first, or in the second and not written in the first
pub record IsFirstOf (first written later all : ℕ → Bool) : Type 0 where
  pub at_once : (u : ℕ) → first u ≡ true → all u ≡ true
  pub after : (u : ℕ) → written u ≡ false → later u ≡ true → all u ≡ true

-- an execution of a statement, in which `first` are first read and `written` are written, as its sets certainly say
pub record Executed (ss : List SymbolTree) (m : Scene) (at : Places) (t : Transformer) (ws is : List Region) (x y : ℕ → ℤ) (first written : ℕ → Bool) : Type 0 where
  pub does : Does m t x y
  pub firsts : IsSharpSet m at is x (λ k. first)
  pub writes : IsWithinWrites ss m at ws x written

-- all statements of a list are executed so; `first` are first read in all of them
pub data AllExecuted (ss : List SymbolTree) (m : Scene) (at : Places) (t : ℕ → Transformer) (f g : ℕ → List Region) : List ℕ → (ℕ → ℤ) → (ℕ → Bool) → Type 0 where
  no_more : {x : ℕ → ℤ} {all : ℕ → Bool} → AllExecuted ss m at t f g [] x all
  before_more : {n : ℕ} {ns : List ℕ} {x y : ℕ → ℤ} {first written later all : ℕ → Bool} → Executed ss m at (t n) (f n) (g n) x y first written → IsFirstOf first written later all →
      AllExecuted ss m at t f g ns y later → AllExecuted ss m at t f g (n ∷ ns) x all

abbrev pub HasFirstStepsAlone : List SymbolTree → (ℕ → Transformer) → (ℕ → List Region) → (ℕ → List Region) → List ℕ → List Region → Type 0
HasFirstStepsAlone ss t f g ns qs =
    (m : Scene) (at : Places) → AreByOrder at → (x : ℕ → ℤ) (all : ℕ → Bool) → AllExecuted ss m at t f g ns x all → IsSharpSet m at qs x (λ k. all)

-- ---- of a list that is executed from the first statement to the last, and of one whose statements are executed in any order

pub record HasListIn (t : ℕ → Transformer) (f g : ℕ → List Region) (whole : Bool) (body : StmtTrees) (qs : List Region) : Type 0 where
  pub in_order : unstructured whole body ≡ false → HasFirstSteps t f g (numbers body) qs
  pub in_any_order : unstructured whole body ≡ true → HasAnyStep (list_at t whole body).cells g (numbers body) qs

pub record HasListInAlone (ss : List SymbolTree) (t : ℕ → Transformer) (f g : ℕ → List Region) (whole : Bool) (body : StmtTrees) (qs : List Region) : Type 0 where
  pub in_order : unstructured whole body ≡ false → HasFirstStepsAlone ss t f g (numbers body) qs
  pub in_any_order : unstructured whole body ≡ true → NoneExact qs
