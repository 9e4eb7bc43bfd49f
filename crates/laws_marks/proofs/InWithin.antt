-- What is written of a variable lies in its WRITE region.
use Rattle.std.proofs.Common.{◌≡◌, inl, inr, ⊎_elim, ℕ, ℤ, List, [], ◌∷◌, ◌&&◌, Some, None, true, false, refl, sym, ◌∙◌, subst, ap, true≢false}
use Rattle.std.specs.Prelude.{MatchOption}
use Rattle.std.proofs.lemmas.Bool.{or_left, or_right, or_from}
use Rattle.affine_systems.specs.declared.row.Var.{Var}
use Rattle.affine_systems.specs.declared.row.Var.TheVariants.{Cell, Exit, Phi, Aux}
use Rattle.affine_systems.specs.declared.row.System.{System}
use Rattle.affine_systems.specs.Points.{Point, HoldsAll}
use Rattle.f77_ast.specs.Store.{Store}
use Rattle.f77_ast.specs.Runs.{Event}
use Rattle.f77_ast.specs.Writes.{Locks}
use Rattle.f77_ast.specs.declared.variable.Variable.{Variable}
use Rattle.f77_ast.specs.Symbols.{SymbolTree}
use Rattle.f77_ast.specs.Shared.{overlap}
use Rattle.f77_meaning.specs.Areas.{is_own_unit}
use Rattle.f77_meaning.specs.Linked.{numbering}
use Rattle.f77_meaning.specs.Accesses.{is_written}
use Rattle.affine_forms.specs.Claims.{numbers_of}
use Rattle.preconditions.specs.transformer_algebra.Claims.{AtStart}
use Rattle.preconditions.specs.transformer_algebra.Laws.{In, here, there}
use Rattle.in_out_regions.specs.region_sets.declared.region.Access.TheVariants.{Write}
use Rattle.in_out_regions.specs.region_sets.declared.region.Region.{Region}
use Rattle.in_out_regions.specs.region_sets.Naming.{in_rows}
use Rattle.hull_projection.specs.Unions.{HoldsSome}
use Rattle.in_out_regions.specs.region_sets.Claims.{DescribedBy, LiesInSet}
use Rattle.in_out_regions.proofs.RegionSets.NameLaws.{rows_agree}
use Rattle.in_out_regions.specs.Kinds.{is_write}
use Rattle.in_out_regions.specs.Writes.{write_of, is_write_beside, is_overlapped}
use Rattle.in_out_regions.specs.ListClaims.{IsDescribed, IsWithinWrites}
use Rattle.laws_analyses.specs.Regions.Settings.{scene}
use Rattle.laws_analyses.specs.Regions.Shown.{is_lost, Holds}
use Rattle.laws_marks.specs.InFrames.{Frame, elements_in}
use Rattle.laws_marks.specs.InShown.{IsFree}
use Rattle.laws_marks.specs.InUnits.{UnitsFit, SetFits}
use Rattle.laws_marks.proofs.InFramed.{set_in}
use Rattle.laws_marks.proofs.InFirsts.{not_so, lost_known}
use Rattle.in_out_regions.proofs.RegionSets.TrimLaws.{holds_in as some_point}

-- a WRITE region of a variable that shares units with another
pub overlapped_by : (ss : List SymbolTree) (ws : List Region) (v : Variable) (w : Region) → In w ws → w.kind ≡ Write → overlap ss w.variable v ≡ true → is_overlapped ss ws v ≡ true
overlapped_by ss [] v w i k o = elim i [ ]
overlapped_by ss (u ∷ ws) v w here k o = or_left (is_write_beside ss v u) (is_overlapped ss ws v) (ap (λ b. b && overlap ss u.variable v) (ap is_write k) ∙ o)
overlapped_by ss (u ∷ ws) v w (there i) k o = or_right (is_write_beside ss v u) (is_overlapped ss ws v) (overlapped_by ss ws v w i k o)

-- with other subscripts
abbrev pub resubscripted : Point → (ℕ → ℤ) → Var → ℤ
resubscripted p phi (Cell c) = p (Cell c)
resubscripted p phi (Exit c) = p (Exit c)
resubscripted p phi (Phi i) = phi i
resubscripted p phi (Aux n) = p (Aux n)

module _ (k : Frame) (locked : Locks) (units : UnitsFit k locked) (ws : List Region) (fit : SetFits k ws) where
  -- a unit of an element that is not locked lies in the region of its variable alone
  pub described_here : (s : Store) (v : Variable) (p : Point) (u : ℕ) → is_overlapped k.m.symbols ws v ≡ false → AtStart (scene k.base) (numbers_of s) p → elements_in k v (λ i. p (Phi i)) ≡ Some u → locked u ≡ None → LiesInSet (scene k.base) (elements_in k) Write ws (numbers_of s) u → IsDescribed v ws p
  described_here s v p u o st e free l = ⊎_elim same (λ q. absurd (true≢false (sym (overlapped_by k.m.symbols ws v l.region l.is_one l.kind q) ∙ o))) (units.apart v l.region.variable (λ i. p (Phi i)) l.lies.phi u e l.lies.there free)
    where
      same : v ≡ l.region.variable → IsDescribed v ws p
      same q =
          subst (λ z. MatchOption z ⊥ (λ w. HoldsSome p w.pieces)) (sym (ap (λ z. write_of z ws) q ∙ fit.one l.region l.is_one l.kind))
          (some_point p d.piece l.region.pieces d.is_one (rows_agree d.piece.rows (resubscripted p l.lies.phi) p agree (d.holds (resubscripted p l.lies.phi) (λ c. refl) (λ i. refl))))
        where
          d : DescribedBy l.region.pieces (λ c. p (Cell c)) l.lies.phi
          d = l.lies.described (λ c. p (Cell c)) st

          here_too : elements_in k l.region.variable (λ i. p (Phi i)) ≡ Some u
          here_too = subst (λ (z : Variable). elements_in k z (λ i. p (Phi i)) ≡ Some u) q e

          agree : (z : Var) → in_rows z d.piece.rows ≡ true → resubscripted p l.lies.phi z ≡ p z
          agree (Cell c) n = refl
          agree (Exit c) n = refl
          agree (Phi i) n =
              let b = fit.narrow l.region l.is_one l.kind d.piece d.is_one i n in
              units.once l.region.variable l.lies.phi (λ j. p (Phi j)) u l.lies.there here_too i b.0 b.1
          agree (Aux c) n = refl

  pub within_writes : (s : Store) (es : List Event) → Holds k.base ws s es → IsFree k locked es → IsWithinWrites k.m.symbols (scene k.base) (elements_in k) ws (numbers_of s) (λ u. is_written u es)
  within_writes s es h f v o p st a =
      let free = f.unlocked a.unit a.is_so in
      let seen = or_from (is_own_unit (numbering k.ks k.g) a.unit) (is_lost k.ks k.g es a.unit) (units.no_actual v (λ i. p (Phi i)) a.unit a.there free) (not_so (is_lost k.ks k.g es a.unit) (λ l. (let o = lost_known k.ks k.g a.unit es l in units.not_lost v (λ i. p (Phi i)) a.unit a.there (f.lost a.unit l) o.0 o.1))) in
      described_here s v p a.unit o st a.there free (set_in k Write ws (numbers_of s) a.unit fit.named (h Write a.unit (record { is_so = a.is_so; seen = seen })))
