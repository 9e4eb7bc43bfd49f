-- The variables of a system of the callee in the terms of the caller: no name of a subscript or of a cell of the callee is left.
use Rattle.std.proofs.Common.{◌≡◌, ◌⊎◌, inl, ⊎_elim, ℕ, ◌-◌, ◌<◌, ◌≤◌, Bool, true, false, List, [], ◌∷◌, Option, Some, None, pos, arith, refl, sym, subst, ◌∙◌, nat_lt}
use Rattle.std.specs.Prelude.{if◌then◌else◌, ◌-ℤ◌}
use Rattle.std.proofs.lemmas.Bool.Decides.{nat_tests}
use Rattle.affine_systems.specs.declared.row.Var.{Var}
use Rattle.affine_systems.specs.declared.row.Var.TheVariants.{Cell, Exit, Phi, Aux}
use Rattle.affine_systems.specs.declared.row.Row.{Row}
use Rattle.affine_systems.specs.declared.row.System.{System}
use Rattle.affine_systems.specs.Points.{only}
use Rattle.affine_systems.specs.Normal.{Normal, Kept, Always, Never, TooBig, normal}
use Rattle.affine_systems.specs.Tidy.{tidy}
use Rattle.affine_systems.proofs.Basics.{if_cases}
use Rattle.affine_systems.proofs.LackLaws.{RowsNil, tidy_nil}
use Rattle.hull_projection.specs.declared.projection.Shadow.{Shadow}
use Rattle.hull_projection.specs.Laws.{IsOneOf}
use Rattle.hull_projection.specs.Project.{shadow, project}
use Rattle.hull_projection.specs.Variables.{row_vars}
use Rattle.hull_projection.proofs.VarLaws.{rows_covered}
use Rattle.preconditions.specs.transformer_algebra.Renaming.{rename_all}
use Rattle.f77_ast.specs.Trees.{ExprTree}
use Rattle.f77_ast.specs.declared.symbol.Place.{Place}
use Rattle.f77_ast.specs.declared.symbol.Place.TheVariants.{Local, Dummy, Block, Constant}
use Rattle.f77_ast.specs.Shared.{place_at}
use Rattle.affine_forms.specs.declared.affine.Affine.{Affine}
use Rattle.affine_forms.specs.Comparisons.{var_form, same_row}
use Rattle.affine_forms.specs.Conditions.{no_rows}
use Rattle.affine_forms.specs.Forms.{cell_form}
use Rattle.preconditions.specs.call_translation.Common.{tracked_at}
use Rattle.preconditions.specs.call_translation.Actuals.{actual_of, form_in}
use Rattle.in_out_regions.specs.region_sets.Naming.{in_rows}
use Rattle.in_out_regions.specs.call_equations.declared.link.Link.{Link}
use Rattle.in_out_regions.specs.call_equations.Sides.{SidesTree}
use Rattle.in_out_regions.specs.call_equations.Cells.{form_at, form_of}
use Rattle.in_out_regions.specs.region_translation.Pieces.{standing, names_of, are_own, linked, is_aux_row, if_aux_row, aux_row, cell_row, if_row, with_var, with_forms, if_formless, one_formless, formless, subscripts_from, subscripts, without_all, linked_piece, piece_in_caller}
use Rattle.in_out_regions.proofs.RegionTranslation.PutLaws.{aux_same, aux_nil, row_says}
use Rattle.in_out_regions.proofs.RegionTranslation.NamingLaws.{is_row_var, off_rows, name_is}
use Rattle.affine_systems.proofs.TermLaws.{true-var_eq}
use Rattle.laws_lines.specs.Variables.{IsCellOf}
use Rattle.laws_lines.proofs.RowVars.{each_more, Given}
use Rattle.laws_lines.proofs.SystemVars.{IsNeat, AreGiven, given_again, system_more, rows_without, tidy_neat, project_neat, push_rows_neat, rename_neat}
use Rattle.laws_lines.proofs.FormVars.{FormOf, affine_over, compared_given, none_neat}
use Rattle.laws_lines.proofs.CallVars.{Allows, neat_in}
use Rattle.laws_lines.specs.Regions.Places.{IsPlaceOf}
use Rattle.laws_lines.proofs.Regions.PutVars.{NormalGiven, normal_given, all_given}
use Rattle.in_out_regions.proofs.RegionTranslation.PieceLaws.{one_left, one_right, subscript_in}
use Rattle.fx_lists.proofs.Booleans.{clash as clashes}
use Rattle.fx_lists.proofs.Options.{some_is, none_some}
use Rattle.in_out_regions.specs.region_sets.Putting.{put_in_all}
use Rattle.in_out_regions.proofs.RegionSets.PutLaws.{all_gone}
use Rattle.fx_lists.proofs.Every.{Anything}
use Rattle.fx_lists.proofs.Numbers.{below_false}

-- a place of the caller, or the name of a subscript or of a cell of the callee
abbrev pub IsLinkedOf : (ℕ → Type 0) → Var → Type 0
IsLinkedOf ok (Cell n) = ok n
IsLinkedOf ok (Exit n) = ⊥
IsLinkedOf ok (Phi n) = (0 < n) × (n ≤ 7)
IsLinkedOf ok (Aux n) = 0 < n

pub cell_linked : (ok : ℕ → Type 0) (v : Var) → IsCellOf ok v → IsLinkedOf ok v
cell_linked ok (Cell n) h = h
cell_linked ok (Exit n) h = absurd h
cell_linked ok (Phi n) h = absurd h
cell_linked ok (Aux n) h = absurd h

pub place_linked : (ok : ℕ → Type 0) (v : Var) → IsPlaceOf ok v → IsLinkedOf ok v
place_linked ok (Cell n) h = h
place_linked ok (Exit n) h = absurd h
place_linked ok (Phi n) h = h
place_linked ok (Aux n) h = absurd h

-- ---- names

-- what stands for a variable of the callee
stands : (ok : ℕ → Type 0) (moved : Bool) (r : ℕ) (v : Var) → IsPlaceOf Anything v → IsLinkedOf ok (standing moved r v)
stands ok moved r (Cell n) h = omega arith
stands ok moved r (Exit n) h = absurd h
stands ok true r (Phi n) h = h.0
stands ok false r (Phi n) h = h
stands ok moved r (Aux n) h = absurd h

linked_neat : (ok : ℕ → Type 0) (l : Link) → AreGiven (IsLinkedOf ok) l.rows → (s : System) → IsNeat (IsPlaceOf Anything) s → IsNeat (IsLinkedOf ok) (linked l s)
linked_neat ok l g s h =
    let vs = row_vars s.rows in
    let ns = names_of l.moved l.rank vs in
    push_rows_neat (IsLinkedOf ok) (rename_all ns s) l.rows
    (rename_neat (λ v. IsPlaceOf Anything v × IsOneOf v vs) (IsLinkedOf ok) ns
    (λ v i. subst (IsLinkedOf ok) (sym (name_is l.moved l.rank vs v i.1)) (stands ok l.moved l.rank v i.0)) s (neat_in (IsPlaceOf Anything) vs s h (rows_covered [] s.rows)))
    g

-- ---- lists of variables

positive : (r n : ℕ) → nat_lt r n ≡ true → 0 < n
positive r n e = let g : r < n = grind (arith, nat_tests) in omega (arith, g)

aux_is : (j k : ℕ) → Aux j ≡ Aux k → j ≡ k
aux_is j k e = aux_same j k (true-var_eq (Aux j) (Aux k) e)

-- ---- the callee's cells

module _ (ok : ℕ → Type 0) (c : SidesTree) (a : Allows ok c.caller) where
  abbrev S : Var → Type 0
  S = IsLinkedOf ok

  actual_formed : (o : Option ExprTree) → FormOf (IsCellOf ok) (form_in c.caller o)
  actual_formed None = tt
  actual_formed (Some e) = affine_over (IsCellOf ok) c.caller.scalars a.names e

  formed_at : (p : Option Place) → FormOf (IsCellOf ok) (form_at c p)
  formed_at None = tt
  formed_at (Some (Local g o)) = tt
  formed_at (Some (Dummy d)) = actual_formed (actual_of c.actuals d)
  formed_at (Some (Block b o)) = go (tracked_at c.caller b o) refl
    where
      go : (q : Option ℕ) → tracked_at c.caller b o ≡ q → FormOf (IsCellOf ok) (cell_form q)
      go None e = tt
      go (Some x) e = ((refl, tt, tt), (a.units b o x e, tt))
  formed_at (Some (Constant k)) = tt

  formed : (k : ℕ) → FormOf (IsCellOf ok) (form_of c k)
  formed k = formed_at (place_at c.callee.symbols k)

  row_given : (n : ℕ) → 0 < n → (o : Option Affine) → FormOf (IsCellOf ok) o → (e : Row) → aux_row n o ≡ Some e → Given S e
  row_given n p None h e q = none_some e q
  row_given n p (Some f) h e q =
      go (normal false (same_row (var_form (Aux n)) f))
      (normal_given S (same_row (var_form (Aux n)) f) (compared_given S true (var_form (Aux n)) f (f.constant -ℤ pos 0) (p, tt) (each_more (IsCellOf ok) S (cell_linked ok) f.terms h.1))) q
    where
      one : (s : Row) → Given S s → (b : Bool) → (if b then Some s else None) ≡ Some e → Given S e
      one s g true k = subst (Given S) (some_is s e k) g
      one s g false k = none_some e k

      go : (w : Normal) → NormalGiven S w → if_aux_row n w ≡ Some e → Given S e
      go (Kept s) g k = one s g (is_aux_row n s) k
      go Always g k = none_some e k
      go Never g k = none_some e k
      go TooBig g k = none_some e k

  module _ (r : ℕ) where
    var_given : (v : Var) (s : System) → AreGiven S s.rows → AreGiven S (with_var c r v s).rows
    var_given (Cell n) s h = h
    var_given (Exit n) s h = h
    var_given (Phi n) s h = h
    var_given (Aux n) s h = go (nat_lt r n) refl (cell_row c r n) refl
      where
        go : (b : Bool) → nat_lt r n ≡ b → (o : Option Row) → cell_row c r n ≡ o → AreGiven S (if b then if_row n o s else s).rows
        go false b o f = h
        go true b None f = h
        go true b (Some w) f = all_given S (Aux n) w s.rows (row_given n (positive r n b) (form_of c ((n - r) - 1)) (formed ((n - r) - 1)) w f) h

    forms_given : (vs : List Var) (s : System) → AreGiven S s.rows → AreGiven S (with_forms c r vs s).rows
    forms_given [] s h = h
    forms_given (v ∷ vs) s h = forms_given vs (with_var c r v s) (var_given v s h)

    -- ---- names that are gone

    abbrev IsGone : List Var → System → Type 0
    IsGone vs b = (n : ℕ) (w : Row) → IsOneOf (Aux n) vs → nat_lt r n ≡ true → cell_row c r n ≡ Some w → RowsNil (only (Aux n)) b.rows

    record Step (v : Var) (s b : System) : Type 0 where
      off : (n : ℕ) → RowsNil (only (Aux n)) s.rows → RowsNil (only (Aux n)) b.rows
      gone : (n : ℕ) (w : Row) → v ≡ Aux n → nat_lt r n ≡ true → cell_row c r n ≡ Some w → RowsNil (only (Aux n)) b.rows

    same : (v : Var) (s : System) → ((n : ℕ) (w : Row) → v ≡ Aux n → nat_lt r n ≡ true → cell_row c r n ≡ Some w → ⊥) → Step v s s
    same v s f = record { off = λ n h. h; gone = λ n w q b k. absurd (f n w q b k) }

    step : (v : Var) (s : System) → Step v s (with_var c r v s)
    step (Cell k) s = same (Cell k) s (λ n w q b i. cc)
    step (Exit k) s = same (Exit k) s (λ n w q b i. cc)
    step (Phi k) s = same (Phi k) s (λ n w q b i. cc)
    step (Aux k) s = go (nat_lt r k) refl (cell_row c r k) refl
      where
        go : (b : Bool) → nat_lt r k ≡ b → (o : Option Row) → cell_row c r k ≡ o → Step (Aux k) s (if b then if_row k o s else s)
        go false b o f = same (Aux k) s (λ n w q t i. clashes (nat_lt r n) t (subst (λ j. nat_lt r j ≡ false) (aux_is k n q) b))
        go true b None f = same (Aux k) s (λ n w q t i. none_some w (sym f ∙ subst (λ j. cell_row c r j ≡ Some w) (sym (aux_is k n q)) i))
        go true b (Some w) f =
            let e = row_says k (form_of c ((k - r) - 1)) w f in
            record {
              off = λ n h. aux_nil k n w s.rows e h;
              gone = λ n z q t i. subst (λ j. RowsNil (only (Aux j)) (put_in_all (Aux k) w s.rows)) (aux_is k n q) (all_gone (Aux k) w s.rows e.unit);
            }

    all_off : (vs : List Var) (s : System) (n : ℕ) → RowsNil (only (Aux n)) s.rows → RowsNil (only (Aux n)) (with_forms c r vs s).rows
    all_off [] s n h = h
    all_off (v ∷ vs) s n h = all_off vs (with_var c r v s) n ((step v s).off n h)

    are_gone : (vs : List Var) (s : System) → IsGone vs (with_forms c r vs s)
    are_gone [] s n w i b k = absurd i
    are_gone (v ∷ vs) s n w i b k =
        ⊎_elim (λ q. all_off vs (with_var c r v s) n ((step v s).gone n w (sym q) b k)) (λ j. are_gone vs (with_var c r v s) n w j b k) i

    formless_has : (n : ℕ) (vs : List Var) → IsOneOf (Aux n) vs → nat_lt r n ≡ true → cell_row c r n ≡ None → IsOneOf (Aux n) (formless c r vs)
    formless_has n [] i b k = i
    formless_has n (v ∷ vs) i b k =
        ⊎_elim (λ q. one_left (Aux n) (one_formless c r v) (formless c r vs) (mine v q)) (λ j. one_right (Aux n) (one_formless c r v) (formless c r vs) (formless_has n vs j b k)) i
      where
        here : IsOneOf (Aux n) (one_formless c r (Aux n))
        here = subst (λ (g : Bool). IsOneOf (Aux n) (if g then if_formless n (cell_row c r n) else [])) (sym b) (subst (λ (o : Option Row). IsOneOf (Aux n) (if_formless n o)) (sym k) (inl refl))

        mine : (w : Var) → Aux n ≡ w → IsOneOf (Aux n) (one_formless c r w)
        mine w q = subst (λ (z : Var). IsOneOf (Aux n) (one_formless c r z)) q here

    -- a name that has a form, or is not there, is in no row
    nil_name : (s : System) (n : ℕ) → nat_lt r n ≡ true → (IsOneOf (Aux n) (formless c r (row_vars s.rows)) → ⊥) → RowsNil (only (Aux n)) (with_forms c r (row_vars s.rows) s).rows
    nil_name s n b f = go (in_rows (Aux n) s.rows) refl (cell_row c r n) refl
      where
        go : (g : Bool) → in_rows (Aux n) s.rows ≡ g → (o : Option Row) → cell_row c r n ≡ o → RowsNil (only (Aux n)) (with_forms c r (row_vars s.rows) s).rows
        go false q o k = all_off (row_vars s.rows) s n (off_rows (Aux n) s.rows q)
        go true q (Some w) k = are_gone (row_vars s.rows) s n w (is_row_var (Aux n) s.rows q) b k
        go true q None k = absurd (f (formless_has n (row_vars s.rows) (is_row_var (Aux n) s.rows q) b k))

  -- ---- what is left

  module _ (l : Link) (flat : l.moved ≡ false → l.rank ≡ 0) where
    abbrev none_of : System → List Var
    none_of s = formless c l.rank (row_vars s.rows)

    -- a name of a cell that is not projected away
    abbrev Bad : System → Var → Type 0
    Bad s w = (n : ℕ) × (w ≡ Aux n) × (nat_lt l.rank n ≡ true) × (IsOneOf (Aux n) (none_of s) → ⊥)

    abbrev T : System → Var → Type 0
    T s w = S w × (Bad s w → ⊥)

    tidied : (s : System) → IsNeat S s → IsNeat (T s) (tidy (with_forms c l.rank (row_vars s.rows) s))
    tidied s h =
        let b = with_forms c l.rank (row_vars s.rows) s in
        rows_without false S (Bad s) (tidy b).rows (tidy_neat S b (forms_given l.rank (row_vars s.rows) s (given_again S s h)))
        (λ w i. subst (λ (v : Var). RowsNil (only v) (tidy b).rows) (sym i.1) (tidy_nil (only (Aux i.0)) b (nil_name l.rank s i.0 i.2 i.3)))

    in_subscripts : (n : ℕ) → 0 < n → n ≤ l.rank → IsOneOf (Aux n) (subscripts l)
    in_subscripts n p h = go l.moved refl
      where
        go : (b : Bool) → l.moved ≡ b → IsOneOf (Aux n) (if b then subscripts_from 1 l.rank else [])
        go true e = subscript_in 1 l.rank n (omega (arith, p)) (omega (arith, h))
        go false e = let z = flat e in absurd (omega (arith, p, h, z))

    left : (s : System) (v : Var) → T s v → (IsOneOf v (none_of s) → ⊥) → (IsOneOf v (subscripts l) → ⊥) → IsPlaceOf ok v
    left s (Cell n) t f g = t.0
    left s (Exit n) t f g = absurd t.0
    left s (Phi n) t f g = t.0
    left s (Aux n) t f g = absurd (go (nat_lt l.rank n) refl)
      where
        go : (b : Bool) → nat_lt l.rank n ≡ b → ⊥
        go true e = t.1 (n, refl, e, f)
        go false e = g (in_subscripts n t.0 (below_false l.rank n e))

    linked_piece_neat : (s : System) → IsNeat S s → IsNeat (IsPlaceOf ok) (linked_piece c l s).system
    linked_piece_neat s h = go (none_of s) refl
      where
        t : System
        t = tidy (with_forms c l.rank (row_vars s.rows) s)

        go : (gs : List Var) → none_of s ≡ gs → IsNeat (IsPlaceOf ok) (without_all gs (subscripts l) t).system
        go [] e =
            system_more (λ w. T s w × (IsOneOf w (subscripts l) → ⊥)) (IsPlaceOf ok) (λ w p. left s w p.0 (λ i. subst (IsOneOf w) e i) p.1) (project t (subscripts l)).system (project_neat (T s) t (subscripts l) (tidied s h))
        go (v ∷ vs) e =
            let A : Var → Type 0 = λ w. T s w × (IsOneOf w (v ∷ vs) → ⊥) in
            let b = (project t (v ∷ vs)).system in
            system_more (λ w. A w × (IsOneOf w (subscripts l) → ⊥)) (IsPlaceOf ok) (λ w p. left s w p.0.0 (λ i. p.0.1 (subst (IsOneOf w) e i)) p.1) (project b (subscripts l)).system
            (project_neat A b (subscripts l) (project_neat (T s) t (v ∷ vs) (tidied s h)))

    pub piece_neat : AreGiven S l.rows → (s : System) → IsNeat (IsPlaceOf Anything) s → IsNeat (IsPlaceOf ok) (piece_in_caller c l s).system
    piece_neat g s h =
        if_cases (λ (x : Shadow). IsNeat (IsPlaceOf ok) x.system) (are_own l.moved l.rank (row_vars s.rows)) (linked_piece c l (linked l s)) (shadow no_rows false)
        (λ e. linked_piece_neat (linked l s) (linked_neat ok l g s h)) (λ e. none_neat (IsPlaceOf ok))
