-- The variables of what holds where a module is entered: its own tracked cells.
use Rattle.std.proofs.Common.{◌≡◌, ◌⊎◌, inl, inr, ⊎_elim, ℕ, suc, Bool, true, false, List, [], ◌∷◌, Option, Some, None, pos, refl, subst}
use Rattle.std.specs.Prelude.{if◌then◌else◌, map, ◌-ℤ◌}
use Rattle.affine_systems.specs.declared.row.Var.{Var}
use Rattle.affine_systems.specs.declared.row.Var.TheVariants.{Cell, Exit, Phi, Aux}
use Rattle.affine_systems.specs.Terms.{var_eq}
use Rattle.affine_systems.specs.Rows.{renamed_row}
use Rattle.affine_systems.proofs.TermLaws.{var_eq-true, true-var_eq}
use Rattle.hull_projection.specs.Variables.{with_rows}
use Rattle.hull_projection.specs.Project.{project}
use Rattle.hull_projection.specs.Laws.{IsOneOf}
use Rattle.hull_projection.proofs.VarLaws.{rows_covered, rows_more, kept-rows}
use Rattle.preconditions.specs.transformer_algebra.declared.naming.Naming.{Naming}
use Rattle.preconditions.specs.transformer_algebra.Renaming.{naming, renamed_by, rename_all, push_rows}
use Rattle.preconditions.specs.transformer_algebra.Fresh.{above_rows}
use Rattle.f77_ast.specs.Trees.{ExprTree}
use Rattle.f77_ast.specs.declared.symbol.Place.{Place}
use Rattle.f77_ast.specs.declared.symbol.Place.TheVariants.{Local, Dummy, Block, Constant}
use Rattle.f77_ast.specs.declared.symbol.InitialRun.{InitialRun}
use Rattle.f77_ast.specs.Symbols.{SymbolTree}
use Rattle.f77_ast.specs.Shared.{place_at}
use Rattle.tracked_cells.specs.Standing.{is_int_scalar}
use Rattle.affine_forms.specs.declared.affine.Affine.{Affine}
use Rattle.affine_forms.specs.Scalars.{is_cell}
use Rattle.affine_forms.specs.Comparisons.{var_form}
use Rattle.preconditions.specs.call_translation.Scopes.{ScopeTree}
use Rattle.preconditions.specs.call_translation.Actuals.{actual_of, form_in}
use Rattle.preconditions.specs.call_translation.Variables.{auxiliary_of, auxiliaries_in}
use Rattle.preconditions.specs.call_translation.Sites.{HoldingSite}
use Rattle.preconditions.specs.call_translation.SiteEntry.{form_at, row_for, row_of, rows_from, same_unit, kept_cell, or_aux, in_callee, names_from, site_entry}
use Rattle.preconditions.specs.Entry.{begins_with, initial_row, initial_from, entry_of}
use Rattle.laws_lines.specs.Variables.{EachVar, IsCellOf}
use Rattle.laws_lines.proofs.RowVars.{each_more, Given}
use Rattle.laws_lines.proofs.SystemVars.{IsNeat, AreGiven, all-append, system_more, push_rows_neat, of_rows_neat, project_neat, rename_neat, renamed_given}
use Rattle.laws_lines.proofs.FormVars.{FormOf, affine_over, compared_given}
use Rattle.laws_lines.proofs.CallVars.{Allows, aux_front, rows_in, neat_in}
use Rattle.laws_lines.proofs.StatementVars.{Scope}
use Rattle.laws_lines.proofs.HoldVars.{AreNeat, some_neat}
use Rattle.fx_lists.proofs.Booleans.{clash}
use Rattle.elimination.proofs.ClosedLaws.{rows_weaker as all_more}
use Rattle.fx_lists.proofs.Every.{Anything}
use Rattle.in_out_regions.proofs.RegionTranslation.PieceLaws.{one_right}

-- INTEGER scalar dummies have such numbers, where the first of the symbols has the number n
abbrev pub DummiesFrom : (ℕ → Type 0) → ℕ → List SymbolTree → Type 0
DummiesFrom ok n [] = Unit {0}
DummiesFrom ok n (s ∷ ss) = ((d : ℕ) → is_int_scalar s ≡ true → s.place ≡ Dummy d → ok n) × DummiesFrom ok (suc n) ss

module _ (ok : ℕ → Type 0) (m : ScopeTree) (a : Allows ok m) (c : HoldingSite) where
  -- a cell of the caller, or a dummy of the callee
  abbrev Told : Var → Type 0
  Told (Cell x) = Unit {0}
  Told (Exit x) = ok x
  Told (Phi x) = ⊥
  Told (Aux x) = ⊥

  cell_told : (v : Var) → IsCellOf Anything v → Told v
  cell_told (Cell x) h = tt
  cell_told (Exit x) h = absurd h
  cell_told (Phi x) h = absurd h
  cell_told (Aux x) h = absurd h

  kept_ok : (p : Option Place) (y : ℕ) → same_unit m p ≡ Some y → ok y
  kept_ok None y e = cc
  kept_ok (Some (Local g o)) y e = cc
  kept_ok (Some (Dummy d)) y e = cc
  kept_ok (Some (Block b o)) y e = a.units b o y e
  kept_ok (Some (Constant k)) y e = cc

  stands : (n : ℕ) (q : Option ℕ) → ((y : ℕ) → q ≡ Some y → ok y) → IsCellOf ok (or_aux n q) ⊎ (or_aux n q ≡ Aux n)
  stands n None f = inr refl
  stands n (Some y) f = inl (f y refl)

  kept_stands : (n x : ℕ) → IsCellOf ok (or_aux n (kept_cell m c x)) ⊎ (or_aux n (kept_cell m c x) ≡ Aux n)
  kept_stands n x = go (is_cell c.caller.tracked x)
    where
      go : (b : Bool) → IsCellOf ok (or_aux n (if b then same_unit m (place_at c.caller.symbols x) else None)) ⊎ (or_aux n (if b then same_unit m (place_at c.caller.symbols x) else None) ≡ Aux n)
      go true = stands n (same_unit m (place_at c.caller.symbols x)) (kept_ok (place_at c.caller.symbols x))
      go false = inr refl

  in_callee_stands : (n : ℕ) (v : Var) → Told v → IsCellOf ok (in_callee m c n v) ⊎ (in_callee m c n v ≡ Aux n)
  in_callee_stands n (Cell x) h = kept_stands n x
  in_callee_stands n (Exit x) h = inl h
  in_callee_stands n (Phi x) h = absurd h
  in_callee_stands n (Aux x) h = absurd h

  abbrev Said : List Naming → Var → Type 0
  Said ns w = IsCellOf ok w ⊎ IsOneOf w (auxiliaries_in ns)

  said_more : (x : Naming) (ns : List Naming) (w : Var) → Said ns w → Said (x ∷ ns) w
  said_more x ns w s = ⊎_elim (λ i. inl i) (λ i. inr (one_right w (auxiliary_of x.to) (auxiliaries_in ns) i)) s

  names_said : (n : ℕ) (vs : List Var) (v : Var) → Told v → IsOneOf v vs → Said (names_from m c n vs) (renamed_by (names_from m c n vs) v)
  names_said n [] v h i = absurd i
  names_said n (u ∷ us) v h i = go (var_eq v u) refl (λ j. names_said (suc n) us v h j)
    where
      ns : List Naming
      ns = names_from m c (suc n) us

      new : Naming
      new = naming u (in_callee m c n u)

      here : var_eq v u ≡ true → Said (new ∷ ns) (in_callee m c n u)
      here e = ⊎_elim (λ j. inl j) (λ j. inr (aux_front n (in_callee m c n u) (auxiliaries_in ns) j)) (in_callee_stands n u (subst Told (var_eq-true v u e) h))

      rest : var_eq v u ≡ false → IsOneOf v us
      rest e = ⊎_elim (λ j. clash (var_eq v u) (true-var_eq v u j) e) (λ j. j) i

      go : (b : Bool) → var_eq v u ≡ b → (IsOneOf v us → Said ns (renamed_by ns v)) → Said (new ∷ ns) (if b then in_callee m c n u else renamed_by ns v)
      go true e ih = here e
      go false e ih = said_more new ns (renamed_by ns v) (ih (rest e))

  form_told : (p : Place) → FormOf (IsCellOf Anything) (form_at c p)
  form_told (Local g o) = tt
  form_told (Dummy d) = go (actual_of c.actuals d)
    where
      go : (o : Option ExprTree) → FormOf (IsCellOf Anything) (form_in c.caller o)
      go None = tt
      go (Some e) = affine_over (IsCellOf Anything) c.caller.scalars (λ x b k. tt) e
  form_told (Block b o) = tt
  form_told (Constant k) = tt

  row_told : (n : ℕ) → ok n → (f : Option Affine) → FormOf (IsCellOf Anything) f → AreGiven Told (row_for n f)
  row_told n k None h = tt
  row_told n k (Some f) h = (compared_given Told true (var_form (Exit n)) f (f.constant -ℤ pos 0) (k, tt) (each_more (IsCellOf Anything) Told cell_told f.terms h.1), tt)

  dummy_told : (n : ℕ) (s : SymbolTree) → ((d : ℕ) → is_int_scalar s ≡ true → s.place ≡ Dummy d → ok n) → AreGiven Told (row_of c n s)
  dummy_told n s f = scalar (is_int_scalar s) refl
    where
      at : is_int_scalar s ≡ true → (p : Place) → s.place ≡ p → AreGiven Told (row_for n (form_at c p))
      at q (Local g o) e = tt
      at q (Dummy d) e = row_told n (f d q e) (form_at c (Dummy d)) (form_told (Dummy d))
      at q (Block b o) e = tt
      at q (Constant k) e = tt

      scalar : (b : Bool) → is_int_scalar s ≡ b → AreGiven Told (row_for n (if b then form_at c s.place else None))
      scalar true q = at q s.place refl
      scalar false q = tt

  rows_told : (n : ℕ) (ss : List SymbolTree) → DummiesFrom ok n ss → AreGiven Told (rows_from c n ss)
  rows_told n [] d = tt
  rows_told n (s ∷ ss) d = all-append (Given Told) (row_of c n s) (rows_from c (suc n) ss) (dummy_told n s d.0) (rows_told (suc n) ss d.1)

  pub site_neat : DummiesFrom ok 1 m.symbols → IsNeat (IsCellOf Anything) c.value → IsNeat (IsCellOf ok) (site_entry m c)
  site_neat d h =
      let rs = rows_from c 1 m.symbols in
      let vs = with_rows (with_rows [] c.value.rows) rs in
      let n = above_rows 0 c.value.rows in
      let ns = names_from m c n vs in
      let S = Said ns in
      let T = λ (v : Var). Told v × IsOneOf v vs in
      let told = rows_told 1 m.symbols d in
      let first = rows_more (with_rows [] c.value.rows) vs c.value.rows (λ u k. kept-rows u (with_rows [] c.value.rows) rs k) (rows_covered [] c.value.rows) in
      let renamed = rename_neat T S ns (λ v i. names_said n vs v i.0 i.1) c.value (neat_in Told vs c.value (system_more (IsCellOf Anything) Told cell_told c.value h) first) in
      let over = all_more (Given Told) (λ r. EachVar Told r.terms) (λ r g. g.1) rs told in
      let rows = renamed_given T S (renamed_by ns) (λ v i. names_said n vs v i.0 i.1) rs (rows_in Told vs rs over (rows_covered (with_rows [] c.value.rows) rs)) in
      let pushed = push_rows (rename_all ns c.value) (map (renamed_row (renamed_by ns)) rs) in
      system_more (λ w. S w × (IsOneOf w (auxiliaries_in ns) → ⊥)) (IsCellOf ok) (λ v p. ⊎_elim (λ i. i) (λ i. absurd (p.1 i)) p.0) (project pushed (auxiliaries_in ns)).system
      (project_neat S pushed (auxiliaries_in ns) (push_rows_neat S (rename_all ns c.value) (map (renamed_row (renamed_by ns)) rs) renamed rows))

-- ---- entries

-- what holds at each of some CALLs
abbrev pub SitesOf : List HoldingSite → Type 0
SitesOf [] = Unit {0}
SitesOf (c ∷ cs) = IsNeat (IsCellOf Anything) c.value × SitesOf cs

entries_neat : (ok : ℕ → Type 0) (m : ScopeTree) → Allows ok m → DummiesFrom ok 1 m.symbols → (cs : List HoldingSite) → SitesOf cs → AreNeat ok (map (site_entry m) cs)
entries_neat ok m a d [] h = tt
entries_neat ok m a d (c ∷ cs) h = (site_neat ok m a c d h.0, entries_neat ok m a d cs h.1)

begins_given : (ok : ℕ → Type 0) (n : ℕ) (rs : List InitialRun) → ok n → AreGiven (IsCellOf ok) (begins_with n rs)
begins_given ok n [] k = tt
begins_given ok n (r ∷ rs) k = (((refl, tt, tt), (k, tt)), tt)

initial_given : (ok : ℕ → Type 0) (flags : List Bool) → ((c : ℕ) → is_cell flags c ≡ true → ok c) → (n : ℕ) (ss : List SymbolTree) → AreGiven (IsCellOf ok) (initial_from flags n ss)
initial_given ok flags f n [] = tt
initial_given ok flags f n (s ∷ ss) = all-append (Given (IsCellOf ok)) (initial_row n (is_cell flags n) s) (initial_from flags (suc n) ss) (go (is_cell flags n) (f n)) (initial_given ok flags f (suc n) ss)
  where
    go : (b : Bool) → (b ≡ true → ok n) → AreGiven (IsCellOf ok) (initial_row n b s)
    go true g = begins_given ok n s.initial (g refl)
    go false g = tt

pub entry_neat : (ok : ℕ → Type 0) (m : ScopeTree) → Scope ok m → DummiesFrom ok 1 m.symbols → (main : Bool) (cs : List HoldingSite) → SitesOf cs → IsNeat (IsCellOf ok) (entry_of main m cs)
entry_neat ok m a d true cs h = of_rows_neat (IsCellOf ok) (initial_from m.tracked 1 m.symbols) (initial_given ok m.tracked a.flags 1 m.symbols)
entry_neat ok m a d false cs h = some_neat ok (map (site_entry m) cs) (entries_neat ok m a.allows d cs h)
