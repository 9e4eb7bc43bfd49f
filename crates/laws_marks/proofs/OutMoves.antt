-- Regions of what may be read later, as seen from elsewhere: no unit is lost.
use Rattle.std.proofs.Common.{◌≡◌, ℕ, ℤ, List, [], ◌∷◌, ◌++◌, ◌&&◌, map, Bool, refl, sym, ap, ◌∙◌}
use Rattle.affine_systems.specs.declared.row.Var.TheVariants.{Cell, Phi}
use Rattle.affine_systems.specs.declared.row.System.{System}
use Rattle.affine_systems.specs.Calls.{meet}
use Rattle.affine_systems.specs.Points.{Point, HoldsAll}
use Rattle.affine_systems.proofs.CallLaws.{meet_holds}
use Rattle.hull_projection.proofs.ProjectLaws.{project_keeps}
use Rattle.f77_ast.specs.declared.variable.Unit.{Unit as BlockUnit}
use Rattle.preconditions.specs.transformer_algebra.Renaming.{renamed_by}
use Rattle.preconditions.proofs.TransformerAlgebra.KeepLaws.{rename_all_holds}
use Rattle.preconditions.specs.transformer_algebra.declared.transformer.Transformer.{Transformer}
use Rattle.preconditions.specs.transformer_algebra.Halves.{to_cells, cell_vars}
use Rattle.preconditions.specs.transformer_algebra.Transformers.{without, apply}
use Rattle.preconditions.specs.transformer_algebra.Laws.{In, here, there}
use Rattle.preconditions.specs.transformer_algebra.Claims.{Scene, AtStart, AtEnd, Kept, Does}
use Rattle.preconditions.proofs.TransformerAlgebra.HalfLaws.{to_cells_exit, to_cells_cell, phi_stays}
use Rattle.preconditions.proofs.TransformerAlgebra.RuleLaws.{old_point, old_off, at_old}
use Rattle.in_out_regions.specs.region_sets.declared.region.Access.{Access}
use Rattle.in_out_regions.specs.region_sets.declared.region.Access.TheVariants.{Out}
use Rattle.in_out_regions.specs.region_sets.declared.region.Region.{Region}
use Rattle.in_out_regions.specs.region_sets.Regions.{remade}
use Rattle.in_out_regions.specs.region_sets.Trim.{trim}
use Rattle.in_out_regions.specs.region_sets.Compose.{compose}
use Rattle.in_out_regions.specs.region_sets.Sets.{with_pieces, all_trimmed}
use Rattle.in_out_regions.specs.region_sets.Lists.{all_composed, forgetting, all_forgetting, all_accesses}
use Rattle.in_out_regions.specs.region_sets.Claims.{AreNumbers, Describes, DescribedBy, LiesIn, LiesInSet, Places}
use Rattle.in_out_regions.proofs.RegionSets.DescribedLaws.{stored, at_start, none_by, moved, moved_cells, moved_are}
use Rattle.in_out_regions.proofs.RegionSets.StepLaws.{in_map, forgotten_by}
use Rattle.in_out_regions.proofs.RegionSets.PieceLaws.{compose_moves}
use Rattle.loop_marker.specs.out_regions.Used.{as_out, all_out}
use Rattle.loop_marker.specs.out_regions.Lists.{applied, all_applied}
use Rattle.in_out_regions.proofs.RegionSets.TrimLaws.{trim_by}
use Rattle.preconditions.proofs.TransformerAlgebra.Members.{in_left, in_right}

-- ---- regions

module _ (m : Scene) (at : Places) where
  -- a region of the same variable has the unit
  pub record HasAs (rs : List Region) (r : Region) (x : ℕ → ℤ) (u : ℕ) : Type 0 where
    pub region : Region
    pub is_one : In region rs
    pub kind : region.kind ≡ r.kind
    pub variable : region.variable ≡ r.variable
    pub lies : LiesIn m (at region.variable) region x u

  as_later : (q : Region) (rs : List Region) (r : Region) (x : ℕ → ℤ) (u : ℕ) → HasAs rs r x u → HasAs (q ∷ rs) r x u
  as_later q rs r x u h = record { region = h.region; is_one = there h.is_one; kind = h.kind; variable = h.variable; lies = h.lies }

  trimmed_has : (rs : List Region) (r : Region) (x : ℕ → ℤ) (u : ℕ) → In r rs → LiesIn m (at r.variable) r x u → HasAs (all_trimmed rs) r x u
  trimmed_has [] r x u i l = elim i [ ]
  trimmed_has (q ∷ rs) r x u here l = go (r.exact && (trim r.pieces).exact) (trim r.pieces).pieces (λ n a. trim_by r.pieces n l.phi (l.described n a))
    where
      go : (e : Bool) (ss : List System) → ((n : ℕ → ℤ) → AreNumbers m x n → DescribedBy ss n l.phi) → HasAs (with_pieces r e ss (λ o. o ∷ all_trimmed rs) (all_trimmed rs)) r x u
      go e [] d = none_by (stored m x) l.phi (d (stored m x) (λ c t. refl))
      go e (s ∷ ss) d = record { region = remade r e (s ∷ ss); is_one = here; kind = refl; variable = refl; lies = record { phi = l.phi; there = l.there; described = d } }
  trimmed_has (q ∷ rs) r x u (there i) l = go (q.exact && (trim q.pieces).exact) (trim q.pieces).pieces (trimmed_has rs r x u i l)
    where
      go : (e : Bool) (ss : List System) → HasAs (all_trimmed rs) r x u → HasAs (with_pieces q e ss (λ o. o ∷ all_trimmed rs) (all_trimmed rs)) r x u
      go e [] h = h
      go e (s ∷ ss) h = as_later (remade q e (s ∷ ss)) (all_trimmed rs) r x u h

  pub out_lies : (rs : List Region) (a : Access) (x : ℕ → ℤ) (u : ℕ) → LiesInSet m at a rs x u → LiesInSet m at Out (all_out rs) x u
  out_lies rs a x u l =
      let h = trimmed_has rs l.region x u l.is_one l.lies in
      record { region = as_out h.region; is_one = in_map as_out h.region (all_trimmed rs) h.is_one; kind = refl; lies = record { phi = h.lies.phi; there = h.lies.there; described = h.lies.described } }

  pub lies_left : (rs qs : List Region) (a : Access) (x : ℕ → ℤ) (u : ℕ) → LiesInSet m at a rs x u → LiesInSet m at a (rs ++ qs) x u
  lies_left rs qs a x u l = record { region = l.region; is_one = in_left l.region rs qs l.is_one; kind = l.kind; lies = l.lies }

  pub lies_right : (rs qs : List Region) (a : Access) (x : ℕ → ℤ) (u : ℕ) → LiesInSet m at a qs x u → LiesInSet m at a (rs ++ qs) x u
  lies_right rs qs a x u l = record { region = l.region; is_one = in_right l.region rs qs l.is_one; kind = l.kind; lies = l.lies }

  -- from after a statement to before it
  pub composed_lies : (t : Transformer) (rs : List Region) (a : Access) (x y : ℕ → ℤ) (u : ℕ) → Does m t x y → LiesInSet m at a rs y u → LiesInSet m at a (all_composed t rs) x u
  composed_lies t rs a x y u d l = record {
    region = compose l.region t;
    is_one = in_map (λ (q : Region). compose q t) l.region rs l.is_one;
    kind = l.kind;
    lies = compose_moves l.region t m (at l.region.variable) x y d u l.lies;
  }

  -- and the other way
  applied_describes : (t : Transformer) (s : System) (x y n phi : ℕ → ℤ) → Does m t x y → AreNumbers m y n → Describes s (moved m t.cells x n) phi → Describes (apply t s) n phi
  applied_describes t s x y n phi d a h p hc ph =
      let st : AtStart m y p = at_start m y n p a hc in
      let r : Point = λ v. p (renamed_by (to_cells t.cells) v) in
      let o = old_point m t.cells x r in
      let cell : (c : ℕ) → r (Cell c) ≡ p (Cell c) = λ c. ap p (to_cells_cell t.cells c) in
      let begins : AtStart m x o = at_old m t.cells t.foreign x y r d.kept (λ c k. cell c ∙ st c k) in
      let ends : AtEnd m t.cells y o = λ c k e. ap p (to_cells_exit t.cells c e) ∙ st c k in
      rename_all_holds (to_cells t.cells) (without t.cells (meet t.system s)) p
      (project_keeps (meet t.system s) (cell_vars t.cells) o r (λ w f. old_off m t.cells x r w f) (meet_holds o t.system s (d.relates o begins ends, h o (moved_cells m t.cells x n r (λ c. cell c ∙ hc c)) (λ i. ap p (phi_stays t.cells i) ∙ ph i))))

  pub applied_lies : (t : Transformer) (rs : List Region) (a : Access) (x y : ℕ → ℤ) (u : ℕ) → Does m t x y → LiesInSet m at a rs x u → LiesInSet m at a (all_applied t rs) y u
  applied_lies t rs a x y u d l = record {
    region = applied t l.region;
    is_one = in_map (applied t) l.region rs l.is_one;
    kind = l.kind;
    lies = record { phi = l.lies.phi; there = l.lies.there; described = λ n e. applied_by n e (l.lies.described (moved m t.cells x n) (moved_are m t.cells t.foreign y x n back e)) };
  }
    where
      back : Kept m t.cells t.foreign y x
      back = record { cells = λ c r e. sym (d.kept.cells c r e); foreign = λ v r e. sym (d.kept.foreign v r e) }

      applied_by : (n : ℕ → ℤ) → AreNumbers m y n → DescribedBy l.region.pieces (moved m t.cells x n) l.lies.phi → DescribedBy (map (apply t) l.region.pieces) n l.lies.phi
      applied_by n e w = record { piece = apply t w.piece; is_one = in_map (apply t) w.piece l.region.pieces w.is_one; holds = applied_describes t w.piece x y n l.lies.phi d e w.holds }

  -- where these cells may have changed
  pub forgotten_lies : (cs : List ℕ) (us : List BlockUnit) (rs : List Region) (a : Access) (x y : ℕ → ℤ) (u : ℕ) → Kept m cs us x y → LiesInSet m at a rs y u → LiesInSet m at a (all_forgetting cs rs) x u
  forgotten_lies cs us rs a x y u k l = record {
    region = forgetting cs l.region;
    is_one = in_map (forgetting cs) l.region rs l.is_one;
    kind = l.kind;
    lies = record { phi = l.lies.phi; there = l.lies.there; described = λ n e. forgotten_by m cs l.region.pieces y n l.lies.phi (l.lies.described (moved m cs y n) (moved_are m cs us x y n k e)) };
  }

  pub accesses_lie : (f : ℕ → List Region) (ns : List ℕ) (n : ℕ) (a : Access) (x : ℕ → ℤ) (u : ℕ) → In n ns → LiesInSet m at a (f n) x u → LiesInSet m at a (all_accesses f ns) x u
  accesses_lie f [] n a x u i l = elim i [ ]
  accesses_lie f (j ∷ ns) n a x u here l = lies_left (f n) (all_accesses f ns) a x u l
  accesses_lie f (j ∷ ns) n a x u (there i) l = lies_right (f j) (all_accesses f ns) a x u (accesses_lie f ns n a x u i l)
