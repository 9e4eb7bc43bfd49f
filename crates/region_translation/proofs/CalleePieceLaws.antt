-- A system that describes subscripts at the CALL is one that describes those of the callee's variable where the callee begins.
use Rattle.std.proofs.Common.{◌≡◌, ℕ, suc, ◌+◌, ◌-◌, ◌<◌, ◌≤◌, List, [], ◌∷◌, ◌++◌, ◌&&◌, Bool, true, false, refl, sym, ap, ◌∙◌, subst, arith, ℤ, nat_lt, Option, Some, None, ◌⊎◌, inl, inr}
use Rattle.std.specs.Prelude.{if◌then◌else◌, nat_le, not, slice_get, option_to_list}
use Rattle.std.proofs.lemmas.Bool.{and_parts}
use Rattle.std.proofs.lemmas.Bool.Decides.{nat_tests}
use Rattle.affine_systems.specs.declared.row.Var.{Var}
use Rattle.affine_systems.specs.declared.row.Var.TheVariants.{Cell, Exit, Phi, Aux}
use Rattle.affine_systems.specs.declared.row.Row.{Row}
use Rattle.affine_systems.specs.declared.row.System.{System}
use Rattle.affine_systems.specs.Terms.{has_no_terms}
use Rattle.affine_systems.specs.Points.{Point, Holds, HoldsAll}
use Rattle.affine_systems.proofs.CallLaws.{append_all}
use Rattle.f77_ast.specs.declared.symbol.Place.{Place}
use Rattle.f77_ast.specs.declared.symbol.Place.TheVariants.{Local, Dummy, Block, Constant}
use Rattle.f77_ast.specs.Symbols.{SymbolTree}
use Rattle.f77_ast.specs.Shared.{symbol_at, place_of}
use Rattle.tracked_cells.specs.Standing.{is_int_scalar}
use Rattle.hull_projection.specs.Laws.{IsOneOf, DiffersAt}
use Rattle.hull_projection.specs.Variables.{row_vars}
use Rattle.hull_projection.proofs.ProjectLaws.{project_keeps}
use Rattle.call_translation.specs.transformer_algebra.Renaming.{renamed_by, rename_all, push_rows}
use Rattle.call_translation.proofs.TransformerAlgebra.KeepLaws.{rename_all_holds, push_rows_holds}
use Rattle.affine_forms.specs.declared.affine.Affine.{Affine}
use Rattle.affine_forms.specs.Claims.{form_value}
use Rattle.affine_forms.specs.Comparisons.{var_form}
use Rattle.affine_forms.specs.Conditions.{no_rows}
use Rattle.call_translation.specs.Actuals.{actual_of, form_in}
use Rattle.call_translation.specs.transformer_algebra.Claims.{Scene, AtStart, Means}
use Rattle.region_sets.specs.Naming.{in_rows}
use Rattle.region_sets.specs.Claims.{HasSubscripts, Describes}
use Rattle.region_sets.proofs.DescribedLaws.{stored}
use Rattle.region_sets.proofs.NameLaws.{rows_agree}
use Rattle.call_equations.specs.Sides.{SidesTree}
use Rattle.call_equations.specs.Forms.{equation}
use Rattle.call_equations.specs.Cells.{form_at, form_of, cell_name, named, named_form}
use Rattle.region_translation.specs.Pieces.{standing, names_of, is_own, are_own}
use Rattle.region_translation.specs.Claims.{FormsMean}
use Rattle.region_translation.proofs.NamingLaws.{is_row_var, name_is, one_own, behind, back_again}
use Rattle.region_translation.proofs.FormLaws.{equation_is, named_value}
use Rattle.region_translation.specs.declared.links.CalleeLink.{CalleeLink}
use Rattle.region_translation.specs.Values.{with_cells, dummy_row, place_row, symbol_row, value_rows_from, value_rows, is_scalar_dummy, goes_away, going_away}
use Rattle.region_translation.specs.CalleePieces.{with_names, joined, without_caller, piece_in_callee}
use Rattle.region_translation.specs.CalleeClaims.{DummiesAreTracked, MatchesBoth, HasOuter}
use Rattle.fx_lists.proofs.Numbers.{plus-none as number_first}
use Rattle.fx_lists.proofs.Booleans.{clash as clashes}
use Rattle.fx_lists.proofs.Options.{some_is, none_some}
use Rattle.affine_forms.proofs.RowValues.{var_value}
use Rattle.f77_ast.proofs.StorageLaws.{to_number}

-- ---- variables that go away

in_going : (c : SidesTree) (v : Var) (vs : List Var) → goes_away c v ≡ true → IsOneOf v vs → IsOneOf v (going_away c vs)
in_going c v [] e i = i
in_going c v (w ∷ vs) e i = go (goes_away c w) refl i (λ j. in_going c v vs e j)
  where
    go : (b : Bool) → goes_away c w ≡ b → (v ≡ w) ⊎ IsOneOf v vs → (IsOneOf v vs → IsOneOf v (going_away c vs)) → IsOneOf v (if b then w ∷ going_away c vs else going_away c vs)
    go true k (inl s) ih = inl s
    go true k (inr j) ih = inr (ih j)
    go false k (inl s) ih = clashes (goes_away c v) e (ap (goes_away c) s ∙ k)
    go false k (inr j) ih = ih j

-- ---- forms that name a cell

cells_some : (o : Option Affine) (g : Affine) → with_cells o ≡ Some g → o ≡ Some g
cells_some None g e = none_some g e
cells_some (Some f) g e = go (has_no_terms f.terms) e
  where
    go : (b : Bool) → (if b then None else Some f) ≡ Some g → Some f ≡ Some g
    go true k = none_some g k
    go false k = k

-- ---- numbers of symbols

number_next : (n k : ℕ) → suc n + k ≡ n + suc k
number_next n k = omega arith

module _ (c : SidesTree) (q : ℕ) (m e : Scene) (x y : ℕ → ℤ) (forms : FormsMean c m e x y) where
  -- ---- what scalar dummies are

  dummy_holds : (n d : ℕ) (s : SymbolTree) → symbol_at c.callee.symbols n ≡ Some s → s.place ≡ Dummy d → (row : Row) → dummy_row c q n d ≡ Some row → (z : Point) → MatchesBoth m e q x y z → Holds z row
  dummy_holds n d s f g row k z j =
      let o = form_in c.caller (actual_of c.actuals d) in
      let w = equation_is (Some (var_form (Cell n))) (named_form q (with_cells o)) row k in
      let v = named_value q z (with_cells o) w.second w.is_second in
      let own : form_value z w.first ≡ z (Cell n) = sym (ap (form_value z) (some_is (var_form (Cell n)) w.first w.is_first)) ∙ var_value z (Cell n) in
      let place : form_of c n ≡ o = ap (form_at c) (ap place_of f ∙ ap (λ (p : Place). Some p) g) in
      let form : o ≡ Some v.own = cells_some o v.own v.is_own in
      let means : form_value (λ t. z (named q t)) v.own ≡ y (e.unit n) = subst (λ (a : Option Affine). Means m a x (y (e.unit n))) (place ∙ form) (forms n) (λ t. z (named q t)) (λ t i. j.outside t) in
      w.forward z (own ∙ (j.inside n ∙ (sym means ∙ sym v.same)))

  symbol_holds : (n : ℕ) (s : SymbolTree) → symbol_at c.callee.symbols n ≡ Some s → (z : Point) → MatchesBoth m e q x y z → HoldsAll z (option_to_list (symbol_row c q n s))
  symbol_holds n s f z j = go (is_int_scalar s)
    where
      by_row : (d : ℕ) → s.place ≡ Dummy d → (o : Option Row) → dummy_row c q n d ≡ o → HoldsAll z (option_to_list o)
      by_row d g None k = tt
      by_row d g (Some row) k = (dummy_holds n d s f g row k z j, tt)

      by_place : (p : Place) → s.place ≡ p → HoldsAll z (option_to_list (place_row c q n p))
      by_place (Local g o) k = tt
      by_place (Dummy d) k = by_row d k (dummy_row c q n d) refl
      by_place (Block b o) k = tt
      by_place (Constant v) k = tt

      go : (b : Bool) → HoldsAll z (option_to_list (if b then place_row c q n s.place else None))
      go true = by_place s.place refl
      go false = tt

  rows_hold : (n : ℕ) (ss : List SymbolTree) → ((k : ℕ) → slice_get c.callee.symbols (n + k) ≡ slice_get ss k) → (z : Point) → MatchesBoth m e q x y z → HoldsAll z (value_rows_from c q n ss)
  rows_hold n [] h z j = tt
  rows_hold n (s ∷ ss) h z j =
      let first : slice_get c.callee.symbols n ≡ Some s = sym (ap (slice_get c.callee.symbols) (number_first n)) ∙ h 0 in
      (append_all z (option_to_list (symbol_row c q (suc n) s)) (value_rows_from c q (suc n) ss)).0
      (symbol_holds (suc n) s (to_number c.callee.symbols n s first) z j, rows_hold (suc n) ss (λ k. ap (slice_get c.callee.symbols) (number_next n k) ∙ h (suc k)) z j)

  number_none : (k : ℕ) → 0 + k ≡ k
  number_none k = omega arith

  values_hold : (z : Point) → MatchesBoth m e q x y z → HoldsAll z (value_rows c q)
  values_hold z j = rows_hold 0 c.callee.symbols (λ k. ap (slice_get c.callee.symbols) (number_none k)) z j

  module _ (l : CalleeLink) (dummies : DummiesAreTracked c e) (phi psi : ℕ → ℤ) (flat : l.moved ≡ false → (k : ℕ) → psi k ≡ phi k) where
    -- ---- points

    -- with the numbers of both modules, and the subscripts of both variables
    abbrev both : Point → Var → ℤ
    both p (Cell n) = y (e.unit n)
    both p (Exit n) = p (Exit n)
    both p (Phi n) = psi n
    both p (Aux n) = if nat_lt q n then x (m.unit ((n - q) - 1)) else phi n

    -- at the CALL
    abbrev called : Point → Var → ℤ
    called p (Cell n) = x (m.unit n)
    called p (Exit n) = p (Exit n)
    called p (Phi n) = phi n
    called p (Aux n) = p (Aux n)

    at_cell : (p : Point) (n : ℕ) → both p (cell_name q n) ≡ x (m.unit n)
    at_cell p n = ap (λ (b : Bool). if b then x (m.unit (((suc q + n) - q) - 1)) else phi (suc q + n)) (behind q n) ∙ ap (λ k. x (m.unit k)) (back_again q n)

    matches : (p : Point) → MatchesBoth m e q x y (both p)
    matches p = record { inside = λ n. refl; outside = λ n. at_cell p n }

    at_most : (k : ℕ) → nat_le k q ≡ true → nat_lt q k ≡ false
    at_most k h = let g : k ≤ q = grind (arith, nat_tests) in grind (arith, nat_tests)

    outer_is : (p : Point) → HasOuter l q phi (both p)
    outer_is p k own = go l.moved refl own
      where
        go : (b : Bool) → l.moved ≡ b → is_own b q (Phi k) ≡ true → both p (standing b q (Phi k)) ≡ phi k
        go true f o = ap (λ (b : Bool). if b then x (m.unit ((k - q) - 1)) else phi k) (at_most k (and_parts (nat_lt 0 k) (nat_le k q) o).1)
        go false f o = flat f k

    -- on the variables that are its own, a system of the caller reads the names
    reads : (p : Point) (v : Var) → is_own l.moved q v ≡ true → called p v ≡ both p (standing l.moved q v)
    reads p (Cell n) o = sym (at_cell p n)
    reads p (Exit n) o = clashes false o refl
    reads p (Phi n) o = sym (outer_is p n o)
    reads p (Aux n) o = clashes false o refl

    names_hold : (s : System) → are_own l.moved q (row_vars s.rows) ≡ true → (p : Point) → HoldsAll (called p) s.rows → HoldsAll (both p) (with_names l.moved q s).rows
    names_hold s own p h =
        let vs = row_vars s.rows in
        let ns = names_of l.moved q vs in
        rename_all_holds ns s (both p)
        (rows_agree s.rows (called p) (λ v. both p (renamed_by ns v))
        (λ v i. let o = is_row_var v s.rows i in reads p v (one_own l.moved q vs v own o) ∙ ap (both p) (sym (name_is l.moved q vs v o)))
        h)

    joined_holds : (s : System) (p : Point) → HoldsAll (both p) s.rows → HoldsAll (both p) l.rows → HoldsAll (both p) (joined c q l.rows s).rows
    joined_holds s p h k = push_rows_holds (push_rows s l.rows) (value_rows c q) (both p) (push_rows_holds s l.rows (both p) h k) (values_hold (both p) (matches p))

    -- ---- what goes away

    abbrev kept_or : List Row → Point → Var → ℤ
    kept_or rs p v = if goes_away c v && in_rows v rs then both p v else p v

    stays_so : (p : Point) → ((n : ℕ) → e.tracked n ≡ true → p (Cell n) ≡ y (e.unit n)) → ((k : ℕ) → p (Phi k) ≡ psi k) → (v : Var) → goes_away c v ≡ false → both p v ≡ p v
    stays_so p st ph (Cell n) g = sym (st n (dummies n (is_it (is_scalar_dummy (symbol_at c.callee.symbols n)) g)))
      where
        is_it : (b : Bool) → not b ≡ false → b ≡ true
        is_it true f = refl
        is_it false f = clashes true refl f
    stays_so p st ph (Exit n) g = refl
    stays_so p st ph (Phi n) g = sym (ph n)
    stays_so p st ph (Aux n) g = clashes true refl g

    agrees : (rs : List Row) (p : Point) → ((n : ℕ) → e.tracked n ≡ true → p (Cell n) ≡ y (e.unit n)) → ((k : ℕ) → p (Phi k) ≡ psi k) → (v : Var) → in_rows v rs ≡ true → both p v ≡ kept_or rs p v
    agrees rs p st ph v i = go (goes_away c v) refl
      where
        go : (b : Bool) → goes_away c v ≡ b → both p v ≡ (if b && in_rows v rs then both p v else p v)
        go true g = sym (ap (λ (d : Bool). if d then both p v else p v) i)
        go false g = stays_so p st ph v g

    differs : (rs : List Row) (p : Point) → DiffersAt (going_away c (row_vars rs)) (kept_or rs p) p
    differs rs p v f = go (goes_away c v) (in_rows v rs) refl refl
      where
        go : (b d : Bool) → goes_away c v ≡ b → in_rows v rs ≡ d → p v ≡ (if b && d then both p v else p v)
        go true true g i = absurd (f (in_going c v (row_vars rs) g (is_row_var v rs i)))
        go true false g i = refl
        go false d g i = refl

    without_holds : (s : System) (p : Point) → ((n : ℕ) → e.tracked n ≡ true → p (Cell n) ≡ y (e.unit n)) → ((k : ℕ) → p (Phi k) ≡ psi k) → HoldsAll (both p) s.rows → HoldsAll p (without_caller c s).rows
    without_holds s p st ph h =
        project_keeps s (going_away c (row_vars s.rows)) (kept_or s.rows p) p (differs s.rows p) (rows_agree s.rows (both p) (kept_or s.rows p) (agrees s.rows p st ph) h)

    -- ---- the rule

    pub piece_describes :
        (s : System) → ((p : Point) → MatchesBoth m e q x y p → HasSubscripts psi p → HasOuter l q phi p → HoldsAll p l.rows) →
        Describes s (stored m x) phi → (p : Point) → AtStart e y p → HasSubscripts psi p → HoldsAll p (piece_in_callee c l.moved q l.rows s).rows
    piece_describes s rows d p st ph = go (are_own l.moved q (row_vars s.rows)) refl
      where
        go : (b : Bool) → are_own l.moved q (row_vars s.rows) ≡ b → HoldsAll p (if b then without_caller c (joined c q l.rows (with_names l.moved q s)) else no_rows).rows
        go false o = tt
        go true o =
            without_holds (joined c q l.rows (with_names l.moved q s)) p st ph
            (joined_holds (with_names l.moved q s) p
            (names_hold s o p (d (called p) (λ k. refl) (λ k. refl)))
            (rows (both p) (matches p) (λ k. refl) (outer_is p)))
