-- The variables of what a CALL does in its caller, and of what it gives for the entry of its callee.
use Rattle.std.proofs.Common.{◌≡◌, ◌⊎◌, inl, inr, ⊎_elim, ℕ, suc, Bool, true, false, List, [], ◌∷◌, ◌++◌, Option, Some, None, pos, refl, sym, ap, ◌∙◌, subst}
use Rattle.std.specs.Prelude.{if◌then◌else◌, ◌-ℤ◌}
use Rattle.affine_systems.specs.declared.row.Var.{Var}
use Rattle.affine_systems.specs.declared.row.Var.TheVariants.{Cell, Exit, Phi, Aux}
use Rattle.affine_systems.specs.declared.row.Term.{Term}
use Rattle.affine_systems.specs.declared.row.Row.{Row}
use Rattle.affine_systems.specs.declared.row.System.{System}
use Rattle.affine_systems.specs.Terms.{var_eq}
use Rattle.affine_systems.specs.Rows.{AllRows}
use Rattle.affine_systems.proofs.TermLaws.{var_eq-true, true-var_eq}
use Rattle.hull_projection.specs.Variables.{with_vars}
use Rattle.hull_projection.specs.Project.{project}
use Rattle.hull_projection.specs.Laws.{IsOneOf}
use Rattle.hull_projection.proofs.VarLaws.{TermsIn, RowsIn, rows_covered}
use Rattle.preconditions.specs.transformer_algebra.declared.naming.Naming.{Naming}
use Rattle.preconditions.specs.transformer_algebra.Renaming.{naming, renamed_by, rename_all, push_rows}
use Rattle.preconditions.specs.transformer_algebra.Fresh.{above_rows}
use Rattle.f77_ast.specs.Trees.{ExprTree, ExprTrees}
use Rattle.f77_ast.specs.Trees as tree
use Rattle.f77_ast.specs.declared.symbol.Place.{Place}
use Rattle.f77_ast.specs.declared.symbol.Place.TheVariants.{Local, Dummy, Block, Constant}
use Rattle.f77_ast.specs.declared.variable.Unit.{Unit as BlockUnit}
use Rattle.f77_ast.specs.Shared.{place_at}
use Rattle.f77_ast.specs.Summaries.{SummaryTree}
use Rattle.affine_forms.specs.declared.affine.Affine.{Affine}
use Rattle.affine_forms.specs.Scalars.{Scalars}
use Rattle.affine_forms.specs.Comparisons.{var_form}
use Rattle.preconditions.specs.transformer_algebra.declared.transformer.Transformer.{Transformer}
use Rattle.preconditions.specs.transformer_algebra.Cells.{has, joined_cells}
use Rattle.preconditions.proofs.TransformerAlgebra.CellLaws.{right_in, joined_in}
use Rattle.preconditions.specs.call_translation.Scopes.{ScopeTree}
use Rattle.preconditions.specs.call_translation.Common.{tracked_at}
use Rattle.preconditions.specs.call_translation.Actuals.{named_cell, one_cell, actual_of, form_in, cell_named}
use Rattle.preconditions.specs.call_translation.Variables.{auxiliary_of, auxiliaries_in}
use Rattle.preconditions.specs.call_translation.Call.{CallTree, actual_cell, cell_at, block_cell_at, form_at, cell_or_aux, exit_or_aux, unless_among, exit_of, in_caller, cell_passed_by, names_from, form_row, row_of, rows_from}
use Rattle.preconditions.specs.call_translation.Summary.{exits, summary_vars, call_system, unit_cells, cells_of, call_transformer}
use Rattle.laws_lines.specs.Variables.{EachVar, IsCellOf}
use Rattle.laws_lines.specs.Halves.{IsHalfOf}
use Rattle.laws_lines.proofs.RowVars.{each_more, Given}
use Rattle.laws_lines.proofs.SystemVars.{IsNeat, AreGiven, all-append, system_more, push_rows_neat, project_neat, rename_neat}
use Rattle.laws_lines.proofs.FormVars.{NamesCells, FormOf, affine_over, compared_given}
use Rattle.laws_lines.proofs.RuleVars.{IsDone, none_has, only_has, cell_half, unchanging_done}
use Rattle.fx_lists.proofs.Booleans.{clash}
use Rattle.elimination.proofs.ClosedLaws.{rows_weaker as all_more}
use Rattle.fx_lists.proofs.Every.{Anything}
use Rattle.in_out_regions.proofs.RegionTranslation.PieceLaws.{one_right}
use Rattle.preconditions.proofs.TransformerAlgebra.HasLaws.{has_either}
use Rattle.preconditions.proofs.CallTranslation.CallerCells.{cells_of_has}

-- ---- the cells of a module

-- names, units of blocks and flags give such cells
pub record Allows (ok : ℕ → Type 0) (m : ScopeTree) : Type 0 where
  pub names : NamesCells (IsCellOf ok) m.scalars
  pub units : (b : List ℕ) (o c : ℕ) → tracked_at m b o ≡ Some c → ok c

named_ok : (ok : ℕ → Type 0) (k : Scalars) → NamesCells (IsCellOf ok) k → (e : ExprTree) (c : ℕ) → named_cell k e ≡ Some c → ok c
named_ok ok k n (tree.int i) c h = cc
named_ok ok k n (tree.log b) c h = cc
named_ok ok k n (tree.name x) c h = n x c h
named_ok ok k n (tree.element x es) c h = cc
named_ok ok k n (tree.paren e) c h = cc
named_ok ok k n (tree.unary o e) c h = cc
named_ok ok k n (tree.binary o a b) c h = cc
named_ok ok k n (tree.chars x) c h = cc

pub named_cell_ok : (ok : ℕ → Type 0) (m : ScopeTree) → Allows ok m → (e : ExprTree) (c : ℕ) → named_cell m.scalars e ≡ Some c → ok c
named_cell_ok ok m a e c h = named_ok ok m.scalars a.names e c h

actual_ok : (ok : ℕ → Type 0) (m : ScopeTree) → Allows ok m → (o : Option ExprTree) (c : ℕ) → cell_named m o ≡ Some c → ok c
actual_ok ok m a None c h = cc
actual_ok ok m a (Some e) c h = named_cell_ok ok m a e c h

cell_at_ok : (ok : ℕ → Type 0) (c : CallTree) → Allows ok c.caller → (p : Option Place) (x : ℕ) → cell_at c p ≡ Some x → ok x
cell_at_ok ok c a None x h = cc
cell_at_ok ok c a (Some (Local g o)) x h = cc
cell_at_ok ok c a (Some (Dummy m)) x h = actual_ok ok c.caller a (actual_of c.actuals m) x h
cell_at_ok ok c a (Some (Block b o)) x h = a.units b o x h
cell_at_ok ok c a (Some (Constant n)) x h = cc

pub one_cell_ok : (ok : ℕ → Type 0) (o : Option ℕ) → ((c : ℕ) → o ≡ Some c → ok c) → (c : ℕ) → has (one_cell o) c ≡ true → ok c
one_cell_ok ok None f c h = none_has ok c h
one_cell_ok ok (Some d) f c h = only_has ok d c (f d refl) h

units_ok : (ok : ℕ → Type 0) (c : CallTree) → Allows ok c.caller → (us : List BlockUnit) (x : ℕ) → has (unit_cells c us) x ≡ true → ok x
units_ok ok c a [] x h = none_has ok x h
units_ok ok c a (u ∷ us) x h =
    ⊎_elim (λ i. one_cell_ok ok (tracked_at c.caller u.block u.offset) (λ y e. a.units u.block u.offset y e) x i) (λ i. units_ok ok c a us x i)
    (has_either (one_cell (tracked_at c.caller u.block u.offset)) (unit_cells c us) x h)

cells_ok : (ok : ℕ → Type 0) (c : CallTree) → Allows ok c.caller → (ds : List ℕ) (x : ℕ) → has (cells_of c ds) x ≡ true → ok x
cells_ok ok c a [] x h = none_has ok x h
cells_ok ok c a (d ∷ ds) x h =
    ⊎_elim (λ i. one_cell_ok ok (cell_at c (place_at c.symbols d)) (λ y e. cell_at_ok ok c a (place_at c.symbols d) y e) x i) (λ i. cells_ok ok c a ds x i)
    (has_either (one_cell (cell_at c (place_at c.symbols d))) (cells_of c ds) x h)

-- ---- lists of variables

-- an auxiliary variable stands among those at whose head it is
pub aux_front : (n : ℕ) (x : Var) (rest : List Var) → x ≡ Aux n → IsOneOf x (auxiliary_of x ++ rest)
aux_front n x rest e = subst (λ (y : Var). IsOneOf y (auxiliary_of y ++ rest)) (sym e) (inl refl)

terms_in : (such : Var → Type 0) (xs : List Var) (ts : List Term) → EachVar such ts → TermsIn xs ts → EachVar (λ v. such v × IsOneOf v xs) ts
terms_in such xs [] h k = tt
terms_in such xs (t ∷ ts) h k = ((h.0, k.0), terms_in such xs ts h.1 k.1)

pub rows_in : (such : Var → Type 0) (xs : List Var) (rs : List Row) → AllRows (λ r. EachVar such r.terms) rs → RowsIn xs rs → AllRows (λ r. EachVar (λ v. such v × IsOneOf v xs) r.terms) rs
rows_in such xs [] h k = tt
rows_in such xs (r ∷ rs) h k = (terms_in such xs r.terms h.0 k.0, rows_in such xs rs h.1 k.1)

pub neat_in : (such : Var → Type 0) (xs : List Var) (s : System) → IsNeat such s → RowsIn xs s.rows → IsNeat (λ v. such v × IsOneOf v xs) s
neat_in such xs s h k = go s.rows h k
  where
    go : (rs : List Row) → IsNeat such (record { rows = rs; weak = s.weak }) → RowsIn xs rs → IsNeat (λ v. such v × IsOneOf v xs) (record { rows = rs; weak = s.weak })
    go [] i j = tt
    go (r ∷ rs) i j = ((i.0.0, terms_in such xs r.terms i.0.1 j.0), go rs i.1 j.1)

-- ---- what a CALL does

-- an exit of the callee is that of a cell that it changes
abbrev pub Left : List ℕ → Var → Type 0
Left cs v = IsHalfOf Anything cs v

module _ (ok : ℕ → Type 0) (c : CallTree) (a : Allows ok c.caller) (t : Transformer) (cs : List ℕ) (more : (x : ℕ) → has (cells_of c t.cells) x ≡ true → has cs x ≡ true) where
  -- what stands for a variable of the callee is one of the caller's, or auxiliary
  cell_stands : (n : ℕ) (p : Option Place) → IsHalfOf ok cs (cell_or_aux n (block_cell_at c p)) ⊎ (cell_or_aux n (block_cell_at c p) ≡ Aux n)
  cell_stands n None = inr refl
  cell_stands n (Some (Local g o)) = inr refl
  cell_stands n (Some (Dummy m)) = inr refl
  cell_stands n (Some (Block b o)) = go (tracked_at c.caller b o) refl
    where
      go : (q : Option ℕ) → tracked_at c.caller b o ≡ q → IsHalfOf ok cs (cell_or_aux n q) ⊎ (cell_or_aux n q ≡ Aux n)
      go None e = inr refl
      go (Some x) e = inl (a.units b o x e)
  cell_stands n (Some (Constant k)) = inr refl

  exit_stands : (n d : ℕ) (passed_by_reference : List ℕ) → has t.cells d ≡ true → IsHalfOf ok cs (exit_or_aux n (exit_of c passed_by_reference (place_at c.symbols d))) ⊎ (exit_or_aux n (exit_of c passed_by_reference (place_at c.symbols d)) ≡ Aux n)
  exit_stands n d passed_by_reference h = at (place_at c.symbols d) refl
    where
      changes : (x : ℕ) → cell_at c (place_at c.symbols d) ≡ Some x → has cs x ≡ true
      changes x e = more x (cells_of_has c t.cells d x h e)

      unless : (q : Option ℕ) → ((x : ℕ) → q ≡ Some x → has cs x ≡ true) → IsHalfOf ok cs (exit_or_aux n (unless_among passed_by_reference q)) ⊎ (exit_or_aux n (unless_among passed_by_reference q) ≡ Aux n)
      unless None f = inr refl
      unless (Some x) f = pick (has passed_by_reference x) (f x refl)
        where
          pick : (b : Bool) → has cs x ≡ true → IsHalfOf ok cs (exit_or_aux n (if b then None else Some x)) ⊎ (exit_or_aux n (if b then None else Some x) ≡ Aux n)
          pick true k = inr refl
          pick false k = inl k

      plain : (q : Option ℕ) → ((x : ℕ) → q ≡ Some x → has cs x ≡ true) → IsHalfOf ok cs (exit_or_aux n q) ⊎ (exit_or_aux n q ≡ Aux n)
      plain None f = inr refl
      plain (Some x) f = inl (f x refl)

      at : (p : Option Place) → place_at c.symbols d ≡ p → IsHalfOf ok cs (exit_or_aux n (exit_of c passed_by_reference p)) ⊎ (exit_or_aux n (exit_of c passed_by_reference p) ≡ Aux n)
      at None e = inr refl
      at (Some (Local g o)) e = inr refl
      at (Some (Dummy m)) e = unless (actual_cell c m) (λ x k. changes x (ap (cell_at c) e ∙ k))
      at (Some (Block b o)) e = plain (tracked_at c.caller b o) (λ x k. changes x (ap (cell_at c) e ∙ k))
      at (Some (Constant k)) e = inr refl

  in_caller_stands : (n : ℕ) (passed_by_reference : List ℕ) (v : Var) → Left t.cells v → IsHalfOf ok cs (in_caller c n passed_by_reference v) ⊎ (in_caller c n passed_by_reference v ≡ Aux n)
  in_caller_stands n passed_by_reference (Cell d) h = cell_stands n (place_at c.symbols d)
  in_caller_stands n passed_by_reference (Exit d) h = exit_stands n d passed_by_reference h
  in_caller_stands n passed_by_reference (Phi d) h = inr refl
  in_caller_stands n passed_by_reference (Aux d) h = inr refl

  -- a variable of the caller, or an auxiliary one of these namings
  abbrev Said : List Naming → Var → Type 0
  Said ns w = IsHalfOf ok cs w ⊎ IsOneOf w (auxiliaries_in ns)

  said_more : (m : Naming) (ns : List Naming) (w : Var) → Said ns w → Said (m ∷ ns) w
  said_more m ns w s = ⊎_elim (λ i. inl i) (λ i. inr (one_right w (auxiliary_of m.to) (auxiliaries_in ns) i)) s

  names_said : (n : ℕ) (passed_by_reference : List ℕ) (vs : List Var) (v : Var) → Left t.cells v → IsOneOf v vs → Said (names_from c n passed_by_reference vs) (renamed_by (names_from c n passed_by_reference vs) v)
  names_said n passed_by_reference [] v h m = absurd m
  names_said n passed_by_reference (u ∷ us) v h m = go (var_eq v u) refl (λ i. names_said (suc n) (passed_by_reference ++ cell_passed_by c u) us v h i)
    where
      ns : List Naming
      ns = names_from c (suc n) (passed_by_reference ++ cell_passed_by c u) us

      new : Naming
      new = naming u (in_caller c n passed_by_reference u)

      here : var_eq v u ≡ true → Said (new ∷ ns) (in_caller c n passed_by_reference u)
      here e =
          ⊎_elim (λ i. inl i) (λ i. inr (aux_front n (in_caller c n passed_by_reference u) (auxiliaries_in ns) i))
          (in_caller_stands n passed_by_reference u (subst (Left t.cells) (var_eq-true v u e) h))

      rest : var_eq v u ≡ false → IsOneOf v us
      rest e = ⊎_elim (λ i. clash (var_eq v u) (true-var_eq v u i) e) (λ i. i) m

      go : (b : Bool) → var_eq v u ≡ b → (IsOneOf v us → Said ns (renamed_by ns v)) → Said (new ∷ ns) (if b then in_caller c n passed_by_reference u else renamed_by ns v)
      go true e ih = here e
      go false e ih = said_more new ns (renamed_by ns v) (ih (rest e))

  form_said : (n : ℕ) (rest : List Var) (p : Option Place) → AreGiven (λ w. IsHalfOf ok cs w ⊎ IsOneOf w (auxiliary_of (cell_or_aux n (block_cell_at c p)) ++ rest)) (form_row (Aux n) (form_at c p))
  form_said n rest None = tt
  form_said n rest (Some (Local g o)) = tt
  form_said n rest (Some (Dummy m)) = go (form_in c.caller (actual_of c.actuals m)) (formed (actual_of c.actuals m))
    where
      formed : (o : Option ExprTree) → FormOf (IsCellOf ok) (form_in c.caller o)
      formed None = tt
      formed (Some e) = affine_over (IsCellOf ok) c.caller.scalars a.names e

      go : (f : Option Affine) → FormOf (IsCellOf ok) f → AreGiven (λ w. IsHalfOf ok cs w ⊎ IsOneOf w (Aux n ∷ rest)) (form_row (Aux n) f)
      go None h = tt
      go (Some f) h =
          let S = λ (w : Var). IsHalfOf ok cs w ⊎ IsOneOf w (Aux n ∷ rest) in
          (compared_given S true (var_form (Aux n)) f (f.constant -ℤ pos 0) (inr (inl refl), tt) (each_more (IsCellOf ok) S (λ v i. inl (cell_half ok cs v i)) f.terms h.1), tt)
  form_said n rest (Some (Block b o)) = tt
  form_said n rest (Some (Constant k)) = tt

  row_said : (n : ℕ) (passed_by_reference : List ℕ) (ns : List Naming) (v : Var) → AreGiven (Said (naming v (in_caller c n passed_by_reference v) ∷ ns)) (row_of c n v)
  row_said n passed_by_reference ns (Cell d) = form_said n (auxiliaries_in ns) (place_at c.symbols d)
  row_said n passed_by_reference ns (Exit d) = tt
  row_said n passed_by_reference ns (Phi d) = tt
  row_said n passed_by_reference ns (Aux d) = tt

  given_more : (such other : Var → Type 0) → ((v : Var) → such v → other v) → (rs : List Row) → AreGiven such rs → AreGiven other rs
  given_more such other f rs h = all_more (Given such) (Given other) (λ r g. (g.0, each_more such other f r.terms g.1)) rs h

  rows_said : (n : ℕ) (passed_by_reference : List ℕ) (vs : List Var) → AreGiven (Said (names_from c n passed_by_reference vs)) (rows_from c n vs)
  rows_said n passed_by_reference [] = tt
  rows_said n passed_by_reference (v ∷ vs) =
      let ns = names_from c (suc n) (passed_by_reference ++ cell_passed_by c v) vs in
      let new = naming v (in_caller c n passed_by_reference v) in
      all-append (Given (Said (new ∷ ns))) (row_of c n v) (rows_from c (suc n) vs) (row_said n passed_by_reference ns v)
      (given_more (Said ns) (Said (new ∷ ns)) (said_more new ns) (rows_from c (suc n) vs) (rows_said (suc n) (passed_by_reference ++ cell_passed_by c v) vs))

  pub call_neat : IsNeat (Left t.cells) t.system → IsNeat (IsHalfOf ok cs) (call_system c t)
  call_neat h =
      let n = above_rows 0 t.system.rows in
      let vs = summary_vars t in
      let ns = names_from c n [] vs in
      let S = Said ns in
      let L = λ (v : Var). Left t.cells v × IsOneOf v vs in
      let renamed = rename_neat L S ns (λ v i. names_said n [] vs v i.0 i.1) t.system (neat_in (Left t.cells) vs t.system h (rows_covered (with_vars [] (exits t.cells)) t.system.rows)) in
      let pushed = push_rows (rename_all ns t.system) (rows_from c n vs) in
      system_more (λ w. S w × (IsOneOf w (auxiliaries_in ns) → ⊥)) (IsHalfOf ok cs) (λ v p. ⊎_elim (λ i. i) (λ i. absurd (p.1 i)) p.0) (project pushed (auxiliaries_in ns)).system
      (project_neat S pushed (auxiliaries_in ns) (push_rows_neat S (rename_all ns t.system) (rows_from c n vs) renamed (rows_said n [] vs)))

-- a summary, where there is one
abbrev pub SummaryOf : Option (SummaryTree Transformer) → Type 0
SummaryOf None = Unit {0}
SummaryOf (Some s) = IsNeat (Left s.value.cells) s.value.system

pub call_done : (ok : ℕ → Type 0) (m : ScopeTree) → Allows ok m → (s : Option (SummaryTree Transformer)) (es : ExprTrees) → SummaryOf s → IsDone ok (call_transformer m s es)
call_done ok m a None es h = unchanging_done ok
call_done ok m a (Some s) es h =
    let c : CallTree = record { caller = m; actuals = es; symbols = s.symbols } in
    let us = unit_cells c s.value.foreign in
    let ds = cells_of c s.value.cells in
    record {
      cells = λ x e. ⊎_elim (λ i. units_ok ok c a s.value.foreign x i) (λ i. cells_ok ok c a s.value.cells x i) (joined_in us ds x e);
      system = call_neat ok c a s.value (joined_cells us ds) (λ x e. right_in us ds x e) h;
    }
