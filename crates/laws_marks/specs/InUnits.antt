-- What is known of the units of a module's variables while it runs, and of the sets that its IN regions are made from.
use Rattle.std.specs.Prelude.{◌≡◌, ◌⊎◌, ℕ, ◌<◌, ◌≤◌, ℤ, Bool, true, false, List, Option, Some, None}
use Rattle.affine_systems.specs.declared.row.Var.TheVariants.{Phi}
use Rattle.affine_systems.specs.declared.row.System.{System}
use Rattle.f77_ast.specs.Trees.{ExprTree, StmtTrees}
use Rattle.f77_ast.specs.Places.{Variable}
use Rattle.f77_ast.specs.Calls.{in_place}
use Rattle.f77_ast.specs.Writes.{Locks}
use Rattle.f77_ast.specs.declared.variable.Variable.{Variable as Named}
use Rattle.f77_ast.specs.Shared.{overlap}
use Rattle.f77_ast.specs.declared.results.At.{At}
use Rattle.f77_meaning.specs.Areas.{is_own_unit}
use Rattle.f77_meaning.specs.Linked.{numbering}
use Rattle.preconditions.specs.transformer_algebra.Laws.{In}
use Rattle.in_out_regions.specs.region_sets.declared.region.Access.TheVariants.{Write}
use Rattle.in_out_regions.specs.region_sets.declared.region.Region.{Region}
use Rattle.in_out_regions.specs.region_sets.Naming.{in_rows}
use Rattle.in_out_regions.specs.region_sets.Lists.{accesses_at, list_regions, set_at}
use Rattle.in_out_regions.specs.array_regions.Reads.{reads, inner_reads}
use Rattle.in_out_regions.specs.Writes.{write_of}
use Rattle.in_out_regions.specs.Simple.{item_written}
use Rattle.laws_analyses.specs.Regions.Entries.{IsLost}
use Rattle.laws_marks.specs.InFrames.{Frame, elements_in, rank}

-- elements have units of their own: those of one variable, and those of variables of which the tables do not say that they overlap, but where a unit is
-- reached twice and locked; where it is not locked, it is none of an expression that is an actual; and it is none that is lost at the end of a module below
pub record UnitsFit (k : Frame) (locked : Locks) : Type 0 where
  pub once : (v : Named) (phi psi : ℕ → ℤ) (u : ℕ) → elements_in k v phi ≡ Some u → elements_in k v psi ≡ Some u → (i : ℕ) → 0 < i → i ≤ rank k.ks k.g k.m.symbols v → phi i ≡ psi i
  pub apart : (v w : Named) (phi psi : ℕ → ℤ) (u : ℕ) → elements_in k v phi ≡ Some u → elements_in k w psi ≡ Some u → locked u ≡ None → (v ≡ w) ⊎ (overlap k.m.symbols w v ≡ true)
  pub no_actual : (v : Named) (phi : ℕ → ℤ) (u : ℕ) → elements_in k v phi ≡ Some u → locked u ≡ None → is_own_unit (numbering k.ks k.g) u ≡ false
  -- whatever units a variable takes
  pub no_actuals : (x : List ℕ) (v : ℕ) → k.sc.names x ≡ Variable v → (u : ℕ) → in_place (k.at v) u ≡ true → locked u ≡ None → is_own_unit (numbering k.ks k.g) u ≡ false
  pub not_lost : (v : Named) (phi : ℕ → ℤ) (u : ℕ) → elements_in k v phi ≡ Some u → k.low u ≡ true → (m : List ℕ) → IsLost k.ks k.g m u → ⊥

-- the subscripts that a system names are those of the variable
abbrev pub IsNarrow : ℕ → System → Type 0
IsNarrow n s = (i : ℕ) → in_rows (Phi i) s.rows ≡ true → (0 < i) × (i ≤ n)

-- regions name such variables
abbrev pub AreOf : (Named → Bool) → List Region → Type 0
AreOf may_name rs = (r : Region) → In r rs → may_name r.variable ≡ true

-- of a variable there is one WRITE region at most, on the subscripts that it has
pub record SetFits (k : Frame) (ws : List Region) : Type 0 where
  pub named : AreOf k.may_name ws
  pub one : (w : Region) → In w ws → w.kind ≡ Write → write_of w.variable ws ≡ Some w
  pub narrow : (w : Region) → In w ws → w.kind ≡ Write → (s : System) → In s w.pieces → IsNarrow (rank k.ks k.g k.m.symbols w.variable) s

-- so are the sets that IN regions are made from: at each statement, of an item of a READ, and of the body of a DO; and what expressions read
pub record SetsFit (k : Frame) (acc : List (At (List Region))) : Type 0 where
  pub sets : (n : ℕ) → SetFits k (set_at acc n)
  pub items : (e : ExprTree) → SetFits k (item_written k.m e)
  pub bodies : (body : StmtTrees) → SetFits k (list_regions k.does (accesses_at acc) false body)
  pub exprs : (e : ExprTree) → AreOf k.may_name (reads e k.m)
  pub inner : (e : ExprTree) → AreOf k.may_name (inner_reads e k.m)
