-- The variables of OUT regions: of what is used of WRITE regions, of what later iterations read, and of the rest of a list.
use Rattle.std.proofs.Common.{◌≡◌, ◌⊎◌, inl, inr, ⊎_elim, ℕ, ◌≤◌, Bool, true, false, List, [], ◌∷◌, length, map, Option, Some, None, arith, refl, sym, subst}
use Rattle.std.specs.Prelude.{if◌then◌else◌, ℤ}
use Rattle.std.specs.List.{AllByRecursion}
use Rattle.affine_systems.specs.declared.row.Var.{Var}
use Rattle.affine_systems.specs.declared.row.Var.TheVariants.{Cell, Exit, Phi, Aux}
use Rattle.affine_systems.specs.declared.row.System.{System}
use Rattle.affine_systems.specs.Calls.{meet}
use Rattle.affine_systems.proofs.Basics.{if_cases}
use Rattle.hull_projection.specs.Laws.{IsOneOf}
use Rattle.hull_projection.specs.Project.{project}
use Rattle.preconditions.specs.transformer_algebra.Renaming.{naming, renamed_by, rename_all, push_rows}
use Rattle.f77_ast.specs.declared.variable.Variable.{Variable}
use Rattle.f77_ast.specs.Symbols.{SymbolTree}
use Rattle.affine_forms.specs.declared.affine.Affine.{Affine}
use Rattle.affine_forms.specs.Comparisons.{var_form}
use Rattle.preconditions.specs.transformer_algebra.declared.transformer.Transformer.{Transformer}
use Rattle.preconditions.specs.transformer_algebra.Cells.{has}
use Rattle.preconditions.specs.transformer_algebra.Halves.{to_cells}
use Rattle.preconditions.specs.transformer_algebra.Transformers.{without, apply}
use Rattle.preconditions.proofs.TransformerAlgebra.HalfLaws.{to_cells_cell, to_cells_exit, phi_stays}
use Rattle.in_out_regions.specs.region_sets.declared.range.Range.{Range}
use Rattle.in_out_regions.specs.region_sets.declared.region.Region.{Region}
use Rattle.in_out_regions.specs.region_sets.Trim.{trim}
use Rattle.in_out_regions.specs.region_sets.Sets.{all_trimmed}
use Rattle.in_out_regions.proofs.RegionSets.TrimLaws.{trim_few}
use Rattle.in_out_regions.specs.Kinds.{is_write}
use Rattle.in_out_regions.specs.Lists.{all_unwritten}
use Rattle.loop_marker.specs.out_regions.Used.{as_out, all_out, is_used_beside, joined, used_joined, used_in, each_met, unless_empty, met_with, used_of, if_write, used}
use Rattle.loop_marker.specs.out_regions.Lists.{writes, applied, all_applied, left_over}
use Rattle.loop_marker.specs.out_regions.Later.{later_rows_by, later_rows, is_steady, later_index, later_piece, later, all_later}
use Rattle.laws_lines.specs.Variables.{IsCellOf}
use Rattle.laws_lines.specs.Halves.{IsHalfOf}
use Rattle.laws_lines.proofs.SystemVars.{IsNeat, AreGiven, system_more, meet_neat, push_rows_neat, project_neat, rename_neat}
use Rattle.laws_lines.proofs.FormVars.{FormOf}
use Rattle.laws_lines.proofs.RuleVars.{IsDone, without_neat}
use Rattle.laws_lines.specs.Regions.Places.{IsPlaceOf}
use Rattle.laws_lines.proofs.Regions.PieceVars.{IsRangeOf}
use Rattle.laws_lines.proofs.Regions.RegionVars.{map_all, trim_neat, IsFine, AreFine, mapped_fine, unite_fine, all_trimmed_fine}
use Rattle.laws_lines.proofs.Ins.Differences.{MaybeFine}
use Rattle.laws_lines.proofs.Ins.InSets.{unwritten_fine}
use Rattle.laws_lines.proofs.Ins.Iterations.{within_given, beyond_given, form_s, renamed_s}
use Rattle.fx_lists.proofs.Lists.{each_append as both_all}
use Rattle.f77_ast.specs.Variables.{same_variable}

-- ---- what is used

module _ (N : Variable → Type 0) (ok : ℕ → Type 0) where
  abbrev P : Var → Type 0
  P = IsPlaceOf ok

  abbrev F : List Region → Type 0
  F rs = AreFine N ok rs

  pub out_fine : (rs : List Region) → F rs → F (all_out rs)
  out_fine rs h = map_all (IsFine N ok) as_out (λ r i. i) (all_trimmed rs) (all_trimmed_fine N ok rs h)

  joined_fine : (o : Option Region) (u : Region) → MaybeFine N ok o → IsFine N ok u → IsFine N ok (joined o u)
  joined_fine None u h k = k
  joined_fine (Some r) u h k = unite_fine N ok r (as_out u) h k

  in_fine : (v : Variable) (o : Option Region) (us : List Region) → MaybeFine N ok o → F us → MaybeFine N ok (used_joined v o us)
  in_fine v o [] h k = h
  in_fine v o (u ∷ us) h k =
      if_cases (MaybeFine N ok) (same_variable v u.variable) (used_joined v (Some (joined o u)) us) (used_joined v o us) (λ e. in_fine v (Some (joined o u)) us (joined_fine o u h k.0) k.1) (λ e. in_fine v o us h k.1)

  meets_neat : (s : System) (ts : List System) → IsNeat P s → AllByRecursion (IsNeat P) ts → AllByRecursion (IsNeat P) (map (λ t. meet s t) ts)
  meets_neat s [] h k = tt
  meets_neat s (t ∷ ts) h k = (meet_neat P s t h k.0, meets_neat s ts h k.1)

  each_neat : (ss ts : List System) → AllByRecursion (IsNeat P) ss → AllByRecursion (IsNeat P) ts → AllByRecursion (IsNeat P) (each_met ss ts)
  each_neat [] ts h k = tt
  each_neat (s ∷ ss) ts h k = both_all (IsNeat P) (map (λ t. meet s t) ts) (each_met ss ts) (meets_neat s ts h.0 k) (each_neat ss ts h.1 k)

  empty_fine : (w : Region) (ss : List System) → N w.variable → length ss ≤ 4 → AllByRecursion (IsNeat P) ss → F (unless_empty w ss)
  empty_fine w [] n l h = tt
  empty_fine w (s ∷ ss) n l h = ((n, ((omega arith, l), h)), tt)

  met_fine : (w : Region) (o : Option Region) → IsFine N ok w → MaybeFine N ok o → F (met_with w o)
  met_fine w None h k = tt
  met_fine w (Some u) h k =
      let met = each_met w.pieces u.pieces in
      empty_fine w (trim met).pieces h.0 (trim_few met) (trim_neat P met (each_neat w.pieces u.pieces h.1.1 k.1.1))

  used_of_fine : (ss : List SymbolTree) (us : List Region) (w : Region) → F us → IsFine N ok w → F (used_of ss us w)
  used_of_fine ss us w h k =
      if_cases F (is_used_beside ss us w.variable) (as_out w ∷ []) (met_with w (used_in w.variable us)) (λ e. (k, tt)) (λ e. met_fine w (used_in w.variable us) k (in_fine w.variable None us tt h))

  pub used_fine : (ss : List SymbolTree) (us ws : List Region) → F us → F ws → F (used ss us ws)
  used_fine ss us [] h k = tt
  used_fine ss us (w ∷ ws) h k =
      both_all (IsFine N ok) (if_write ss us w) (used ss us ws) (if_cases F (is_write w.kind) (used_of ss us w) [] (λ e. used_of_fine ss us w h k.0) (λ e. tt)) (used_fine ss us ws h k.1)

  pub writes_fine : (rs : List Region) → F rs → F (writes rs)
  writes_fine [] h = tt
  writes_fine (r ∷ rs) h = let others = writes_fine rs h.1 in if_cases F (is_write r.kind) (r ∷ writes rs) (writes rs) (λ e. (h.0, others)) (λ e. others)

  -- ---- a list that may be left

  pub left_over_fine : (leaving : Bool) (ws out : List Region) → F ws → F out → F (left_over leaving ws out)
  left_over_fine leaving ws out h k = if_cases F leaving out (all_unwritten (all_trimmed ws) out) (λ e. k) (λ e. unwritten_fine N ok (all_trimmed ws) out (all_trimmed_fine N ok ws h) k)

  -- ---- after a statement

  module _ (t : Transformer) (d : IsDone ok t) where
    -- a place before it, or a cell that it changes after it
    abbrev H : Var → Type 0
    H (Cell n) = ok n
    H (Exit n) = has t.cells n ≡ true
    H (Phi n) = P (Phi n)
    H (Aux n) = ⊥

    place_h : (v : Var) → P v → H v
    place_h (Cell n) h = h
    place_h (Exit n) h = absurd h
    place_h (Phi n) h = h
    place_h (Aux n) h = absurd h

    half_h : (v : Var) → IsHalfOf ok t.cells v → H v
    half_h (Cell n) h = h
    half_h (Exit n) h = h
    half_h (Phi n) h = absurd h
    half_h (Aux n) h = absurd h

    become : (v : Var) → H v → P (renamed_by (to_cells t.cells) v)
    become (Cell n) i = subst P (sym (to_cells_cell t.cells n)) i
    become (Exit n) i = subst P (sym (to_cells_exit t.cells n i)) (d.cells n i)
    become (Phi n) i = subst P (sym (phi_stays t.cells n)) i
    become (Aux n) i = absurd i

    after_neat : (s : System) → IsNeat P s → IsNeat P (apply t s)
    after_neat s h =
        let m = meet t.system s in
        rename_neat H P (to_cells t.cells) become (without t.cells m)
        (without_neat H t.cells m (meet_neat H t.system s (system_more (IsHalfOf ok t.cells) H half_h t.system d.system) (system_more P H place_h s h)))

    pub applied_fine : (rs : List Region) → F rs → F (all_applied t rs)
    applied_fine rs h = map_all (IsFine N ok) (applied t) (λ r i. mapped_fine N ok (apply t) after_neat r.exact r i) rs h

  -- ---- later iterations

  module _ (g : Range) (range : IsRangeOf ok g) (tracked : Bool) (index : tracked ≡ true → ok g.index) where
    -- such a place, or the index of a later iteration
    abbrev S : Var → Type 0
    S v = P v ⊎ IsOneOf v (Aux 2 ∷ [])

    from_given : (s : ℤ) (o : Option Affine) → ok g.index → FormOf (IsCellOf ok) o → AreGiven S (later_rows_by (Some s) g.index o)
    from_given s None i h = tt
    from_given s (Some l) i h = (
      beyond_given S s (var_form (Aux 2)) (var_form (Cell g.index)) (inr (inl refl), tt) (inl i, tt),
      (within_given S s (var_form (Aux 2)) l (inr (inl refl), tt) (form_s N ok g range tracked index l h), tt),
    )

    rows_given : AreGiven S (later_rows tracked g)
    rows_given = go tracked index g.step
      where
        go : (b : Bool) → (b ≡ true → ok g.index) → (s : Option ℤ) → AreGiven S (if b then later_rows_by s g.index g.last else [])
        go false i s = tt
        go true i None = tt
        go true i (Some s) = from_given s g.last (i refl) range.last

    index_neat : (s : System) → IsNeat P s → IsNeat P (later_index tracked g s)
    index_neat s h =
        let renamed = rename_all (naming (Cell g.index) (Aux 2) ∷ []) s in
        let within = push_rows renamed (later_rows tracked g) in
        system_more (λ w. S w × (IsOneOf w (Aux 2 ∷ []) → ⊥)) P (λ w p. ⊎_elim (λ j. j) (λ j. absurd (p.1 j)) p.0) (project within (Aux 2 ∷ [])).system
        (project_neat S within (Aux 2 ∷ []) (push_rows_neat S renamed (later_rows tracked g) (renamed_s N ok g range tracked index s h) rows_given))

    piece_neat : (s : System) → IsNeat P s → IsNeat P (later_piece tracked g s)
    piece_neat s h = if_cases (IsNeat P) (is_steady g s) (later_index tracked g s) (without g.turn.cells s) (λ e. index_neat s h) (λ e. without_neat P g.turn.cells s h)

    pub later_fine : (rs : List Region) → F rs → F (all_later tracked g rs)
    later_fine rs h = map_all (IsFine N ok) (later tracked g) (λ r i. mapped_fine N ok (later_piece tracked g) piece_neat false r i) rs h
