-- The rules of transformers never lose a pair of numbers before and after.
use Rattle.std.proofs.Common.{◌≡◌, ℕ, List, [], ◌∷◌, ◌||◌, Bool, true, false, refl, sym, ap, ◌∙◌, arith, ℤ, nat_eq, inl, inr}
use Rattle.std.specs.Prelude.{if◌then◌else◌}
use Rattle.std.proofs.lemmas.Int.{ints}
use Rattle.affine_systems.specs.declared.row.Var.{Var}
use Rattle.affine_systems.specs.declared.row.Var.TheVariants.{Cell, Exit, Phi, Aux}
use Rattle.affine_systems.specs.declared.row.System.{System}
use Rattle.affine_systems.specs.Points.{Point, Holds, HoldsAll}
use Rattle.affine_systems.specs.Calls.{meet}
use Rattle.affine_systems.proofs.CallLaws.{meet_holds}
use Rattle.hull_projection.specs.Hull.{hull}
use Rattle.hull_projection.specs.Laws.{IsOneOf}
use Rattle.hull_projection.proofs.HullLaws.{hull_holds}
use Rattle.hull_projection.proofs.ProjectLaws.{project_keeps}
use Rattle.f77_ast.specs.declared.variable.Unit.{Unit as BlockUnit}
use Rattle.transformer_algebra.specs.Renaming.{renamed_by, rename_all}
use Rattle.transformer_algebra.specs.Fresh.{fresh_over}
use Rattle.transformer_algebra.proofs.KeepLaws.{rename_all_holds, push_rows_holds}
use Rattle.affine_forms.specs.Comparisons.{var_form}
use Rattle.affine_forms.proofs.RowLaws.{same_holds}
use Rattle.transformer_algebra.specs.declared.transformer.Transformer.{Transformer}
use Rattle.transformer_algebra.specs.Cells.{has, joined_cells, others}
use Rattle.transformer_algebra.specs.Units.{joined_units}
use Rattle.transformer_algebra.specs.Halves.{first_names, second_names, middle, to_cells, cell_vars}
use Rattle.transformer_algebra.specs.Transformers.{test, followed_from, followed, without, apply, equal, equals, complete, cells_from, all_cells, units_from, all_units, hull_of_arms, one_of}
use Rattle.transformer_algebra.specs.Laws.{In, here, there}
use Rattle.transformer_algebra.specs.Claims.{Scene, AtStart, AtEnd, HoldsAt, IsIn, Kept, Does, Tracks}
use Rattle.transformer_algebra.proofs.CellLaws.{left_out, right_out, left_in, right_in, unit_left, unit_right}
use Rattle.transformer_algebra.proofs.HalfLaws.{mid, mid_off, mid_cell, mid_exit, Between, first_between, first_exit, first_cell, second_between, second_exit, second_once, second_never, to_cells_exit, to_cells_cell, in_cell_vars}
use Rattle.fx_lists.proofs.Booleans.{clash as clashes}
use Rattle.fx_lists.proofs.Numbers.{nat_eq_same}

module _ (m : Scene) where
  pub kept_then : (cs ds : List ℕ) (us vs : List BlockUnit) (x y z : ℕ → ℤ) → Kept m cs us x y → Kept m ds vs y z → Kept m (joined_cells cs ds) (joined_units us vs) x z
  kept_then cs ds us vs x y z a b = record {
    cells = λ c t e. b.cells c t (right_out cs ds c e) ∙ a.cells c t (left_out cs ds c e);
    foreign = λ u t f. b.foreign u t (λ h. f (unit_right us vs u h)) ∙ a.foreign u t (λ h. f (unit_left us vs u h));
  }

  module _ (a b : Transformer) (x y z : ℕ → ℤ) (da : Does m a x y) (db : Does m b y z) (n : ℕ) (p : Point) (st : AtStart m x p) (en : AtEnd m (joined_cells a.cells b.cells) z p) where
    abbrev q : Point
    q = mid (λ c. y (m.unit c)) b.cells n a.cells p

    -- a variable in between has the number in between
    between_at : (v : Var) (c : ℕ) → Between (λ d. y (m.unit d)) b.cells n a.cells p v c → q v ≡ y (m.unit c)
    between_at v c k = ap q k.is ∙ k.says

    -- of the first half
    left_start : AtStart m x (λ v. q (renamed_by (first_names n b.cells a.cells) v))
    left_start c t = ap q (first_cell (λ d. y (m.unit d)) b.cells n a.cells c) ∙ (mid_cell (λ d. y (m.unit d)) b.cells n a.cells p c ∙ st c t)

    left_end : AtEnd m a.cells y (λ v. q (renamed_by (first_names n b.cells a.cells) v))
    left_end c t h = go (has b.cells c) refl
      where
        go : (g : Bool) → has b.cells c ≡ g → q (renamed_by (first_names n b.cells a.cells) (Exit c)) ≡ y (m.unit c)
        go true e = between_at _ c (first_between (λ d. y (m.unit d)) b.cells n a.cells p c h e)
        go false e = ap q (first_exit (λ d. y (m.unit d)) b.cells n a.cells c e) ∙ (mid_exit (λ d. y (m.unit d)) b.cells n a.cells p c ∙ (en c t (left_in a.cells b.cells c h) ∙ db.kept.cells c t e))

    -- of the second half
    right_start : AtStart m y (λ v. q (renamed_by (second_names n b.cells a.cells) v))
    right_start c t = go (has a.cells c) refl (has b.cells c) refl
      where
        go : (g : Bool) → has a.cells c ≡ g → (h : Bool) → has b.cells c ≡ h → q (renamed_by (second_names n b.cells a.cells) (Cell c)) ≡ y (m.unit c)
        go false e h f = ap q (second_never (λ d. y (m.unit d)) b.cells n a.cells c e) ∙ (mid_cell (λ d. y (m.unit d)) b.cells n a.cells p c ∙ (st c t ∙ sym (da.kept.cells c t e)))
        go true e true f = between_at _ c (second_between (λ d. y (m.unit d)) b.cells n a.cells p c e f)
        go true e false f = ap q (second_once (λ d. y (m.unit d)) b.cells n a.cells c e f) ∙ (mid_exit (λ d. y (m.unit d)) b.cells n a.cells p c ∙ (en c t (left_in a.cells b.cells c e) ∙ db.kept.cells c t f))

    right_end : AtEnd m b.cells z (λ v. q (renamed_by (second_names n b.cells a.cells) v))
    right_end c t h = ap q (second_exit (λ d. y (m.unit d)) b.cells n a.cells c) ∙ (mid_exit (λ d. y (m.unit d)) b.cells n a.cells p c ∙ en c t (right_in a.cells b.cells c h))

    pub halves_hold : HoldsAll p (followed_from n a b).rows
    halves_hold =
        let one = rename_all (first_names n b.cells a.cells) a.system in
        let two = rename_all (second_names n b.cells a.cells) b.system in
        project_keeps (meet one two) (middle n b.cells a.cells) q p (λ w f. sym (mid_off (λ d. y (m.unit d)) b.cells n a.cells p w f))
        (meet_holds q one two (
          rename_all_holds (first_names n b.cells a.cells) a.system q (da.relates _ left_start left_end),
          rename_all_holds (second_names n b.cells a.cells) b.system q (db.relates _ right_start right_end),
        ))

  pub does_then : (a b : Transformer) (x y z : ℕ → ℤ) → Does m a x y → Does m b y z → Does m (followed a b) x z
  does_then a b x y z da db = record {
    relates = λ p st en. halves_hold a b x y z da db (fresh_over a.system b.system) p st en;
    kept = kept_then a.cells b.cells a.foreign b.foreign x y z da.kept db.kept;
  }

  -- the old numbers of cells that change, at a point with the new ones
  abbrev pub old_point : List ℕ → (ℕ → ℤ) → Point → Point
  old_point cs x p (Cell c) = if has cs c then x (m.unit c) else p (Cell c)
  old_point cs x p (Exit c) = p (Exit c)
  old_point cs x p (Phi c) = p (Phi c)
  old_point cs x p (Aux c) = p (Aux c)

  pub old_off : (cs : List ℕ) (x : ℕ → ℤ) (p : Point) (v : Var) → (IsOneOf v (cell_vars cs) → ⊥) → p v ≡ old_point cs x p v
  old_off cs x p (Cell c) f = go (has cs c) refl
    where
      go : (b : Bool) → has cs c ≡ b → p (Cell c) ≡ (if b then x (m.unit c) else p (Cell c))
      go true e = absurd (f (in_cell_vars cs c e))
      go false e = refl
  old_off cs x p (Exit c) f = refl
  old_off cs x p (Phi c) f = refl
  old_off cs x p (Aux c) f = refl

  pub at_old : (cs : List ℕ) (us : List BlockUnit) (x y : ℕ → ℤ) (p : Point) → Kept m cs us x y → AtStart m y p → AtStart m x (old_point cs x p)
  at_old cs us x y p k s c t = go (has cs c) refl
    where
      go : (b : Bool) → has cs c ≡ b → (if b then x (m.unit c) else p (Cell c)) ≡ x (m.unit c)
      go true e = refl
      go false e = s c t ∙ k.cells c t e

  pub holds_apply : (t : Transformer) (s : System) (x y : ℕ → ℤ) → HoldsAt m s x → Does m t x y → HoldsAt m (apply t s) y
  holds_apply t s x y h d p st =
      let r : Point = λ v. p (renamed_by (to_cells t.cells) v) in
      let o = old_point t.cells x r in
      let cell : (c : ℕ) → r (Cell c) ≡ p (Cell c) = λ c. ap p (to_cells_cell t.cells c) in
      let begins : AtStart m x o = at_old t.cells t.foreign x y r d.kept (λ c k. cell c ∙ st c k) in
      let ends : AtEnd m t.cells y o = λ c k e. ap p (to_cells_exit t.cells c e) ∙ st c k in
      rename_all_holds (to_cells t.cells) (without t.cells (meet t.system s)) p
      (project_keeps (meet t.system s) (cell_vars t.cells) o r (λ w f. old_off t.cells x r w f) (meet_holds o t.system s (d.relates o begins ends, h o begins)))

  -- what holds before, without the cells that were changed
  pub holds_without : (cs : List ℕ) (us : List BlockUnit) (s : System) (x y : ℕ → ℤ) → HoldsAt m s x → Kept m cs us x y → HoldsAt m (without cs s) y
  holds_without cs us s x y h k p st =
      let o = old_point cs x p in
      project_keeps s (cell_vars cs) o p (λ w f. old_off cs x p w f) (h o (at_old cs us x y p k st))

  pub does_test : (s : System) (x : ℕ → ℤ) → HoldsAt m s x → Does m (test s) x x
  does_test s x h = record { relates = λ p st e. h p st; kept = record { cells = λ c t e. refl; foreign = λ u t e. refl } }

  -- ---- a choice

  -- c' == c for cells that are tracked and did not change
  pub equals_hold : (cs ds : List ℕ) (x y : ℕ → ℤ) (p : Point) → Tracks m cs → AtStart m x p → ((c : ℕ) → has cs c ≡ true → p (Exit c) ≡ y (m.unit c)) → ((c : ℕ) → m.tracked c ≡ true → has ds c ≡ false → y (m.unit c) ≡ x (m.unit c)) → HoldsAll p (equals (others cs ds))
  equals_hold [] ds x y p tr st en k = tt
  equals_hold (a ∷ cs) ds x y p tr st en k = go (has ds a) refl (equals_hold cs ds x y p (λ c h. tr c (in_rest c h)) st (λ c h. en c (in_rest c h)) k)
    where
      in_rest : (c : ℕ) → has cs c ≡ true → has (a ∷ cs) c ≡ true
      in_rest c h = go2 (nat_eq a c)
        where
          go2 : (b : Bool) → (b || has cs c) ≡ true
          go2 true = refl
          go2 false = h

      a_in : has (a ∷ cs) a ≡ true
      a_in = ap (λ b. b || has cs a) (nat_eq_same a)

      row : y (m.unit a) ≡ x (m.unit a) → Holds p (equal a)
      row e = same_holds (var_form (Exit a)) (var_form (Cell a)) p (let q : p (Exit a) ≡ p (Cell a) = en a a_in ∙ (e ∙ sym (st a (tr a a_in))) in omega (arith, ints, q))

      go : (b : Bool) → has ds a ≡ b → HoldsAll p (equals (others cs ds)) → HoldsAll p (equals (if b then others cs ds else a ∷ others cs ds))
      go true e ih = ih
      go false e ih = (row (k a (tr a a_in) e), ih)

  pub completed_holds : (cs : List ℕ) (t : Transformer) (x y : ℕ → ℤ) (p : Point) → Tracks m cs → ((c : ℕ) → has t.cells c ≡ true → has cs c ≡ true) → Does m t x y → AtStart m x p → AtEnd m cs y p → HoldsAll p (complete cs t).rows
  completed_holds cs t x y p tr sub d st en =
      push_rows_holds t.system (equals (others cs t.cells)) p (d.relates p st (λ c r h. en c r (sub c h)))
      (equals_hold cs t.cells x y p tr st (λ c h. en c (tr c h) h) d.kept.cells)

  hulled_first : (cs : List ℕ) (s : System) (ts : List Transformer) (p : Point) → HoldsAll p s.rows → HoldsAll p (hull_of_arms cs s ts).rows
  hulled_first cs s [] p h = h
  hulled_first cs s (t ∷ ts) p h = hulled_first cs (hull s (complete cs t)) ts p (hull_holds s (complete cs t) p (inl h))

  hulled_among : (cs : List ℕ) (s : System) (t : Transformer) (ts : List Transformer) (p : Point) → In t ts → HoldsAll p (complete cs t).rows → HoldsAll p (hull_of_arms cs s ts).rows
  hulled_among cs s t [] p i h = elim i [ ]
  hulled_among cs s t (b ∷ ts) p here h = hulled_first cs (hull s (complete cs t)) ts p (hull_holds s (complete cs t) p (inr h))
  hulled_among cs s t (b ∷ ts) p (there i) h = hulled_among cs (hull s (complete cs b)) t ts p i h

  cells_more : (cs : List ℕ) (ts : List Transformer) (c : ℕ) → has cs c ≡ true → has (cells_from cs ts) c ≡ true
  cells_more cs [] c h = h
  cells_more cs (t ∷ ts) c h = cells_more (joined_cells cs t.cells) ts c (left_in cs t.cells c h)

  cells_in : (cs : List ℕ) (t : Transformer) (ts : List Transformer) (c : ℕ) → In t ts → has t.cells c ≡ true → has (cells_from cs ts) c ≡ true
  cells_in cs t [] c i h = elim i [ ]
  cells_in cs t (b ∷ ts) c here h = cells_more (joined_cells cs t.cells) ts c (right_in cs t.cells c h)
  cells_in cs t (b ∷ ts) c (there i) h = cells_in (joined_cells cs b.cells) t ts c i h

  units_more : (us : List BlockUnit) (ts : List Transformer) (u : BlockUnit) → IsIn u us → IsIn u (units_from us ts)
  units_more us [] u h = h
  units_more us (t ∷ ts) u h = units_more (joined_units us t.foreign) ts u (unit_left us t.foreign u h)

  units_in : (us : List BlockUnit) (t : Transformer) (ts : List Transformer) (u : BlockUnit) → In t ts → IsIn u t.foreign → IsIn u (units_from us ts)
  units_in us t [] u i h = elim i [ ]
  units_in us t (b ∷ ts) u here h = units_more (joined_units us t.foreign) ts u (unit_right us t.foreign u h)
  units_in us t (b ∷ ts) u (there i) h = units_in (joined_units us b.foreign) t ts u i h

  -- a cell that is not there
  out_of : (b : Bool) → (b ≡ true → ⊥) → b ≡ false
  out_of true f = absurd (f refl)
  out_of false f = refl

  pub kept_in : (t : Transformer) (ts : List Transformer) (x y : ℕ → ℤ) → In t ts → Kept m t.cells t.foreign x y → Kept m (all_cells ts) (all_units ts) x y
  kept_in t ts x y i k = record {
    cells = λ c r e. k.cells c r (out_of (has t.cells c) (λ h. clashes (has (all_cells ts) c) (cells_in [] t ts c i h) e));
    foreign = λ u r f. k.foreign u r (λ h. f (units_in [] t ts u i h));
  }

  one_holds : (cs : List ℕ) (t b : Transformer) (ts : List Transformer) (p : Point) → In t (b ∷ ts) → HoldsAll p (complete cs t).rows → HoldsAll p (hull_of_arms cs (complete cs b) ts).rows
  one_holds cs t b ts p here h = hulled_first cs (complete cs t) ts p h
  one_holds cs t b ts p (there i) h = hulled_among cs (complete cs b) t ts p i h

  -- the transformer of a choice describes what one of its parts describes
  pub does_one : (t : Transformer) (ts : List Transformer) (x y : ℕ → ℤ) → Tracks m (all_cells ts) → In t ts → Does m t x y → Does m (one_of ts) x y
  does_one t [] x y tr i d = elim i [ ]
  does_one t (b ∷ ts) x y tr i d = record {
    relates = λ p st en. one_holds (all_cells (b ∷ ts)) t b ts p i (completed_holds (all_cells (b ∷ ts)) t x y p tr (λ c h. cells_in [] t (b ∷ ts) c i h) d st en);
    kept = kept_in t (b ∷ ts) x y i d.kept;
  }
