-- The point between two transformers: what both change has there the numbers in between.
use Rattle.std.proofs.Common.{◌≡◌, ℕ, suc, ◌≤◌, List, [], ◌∷◌, ◌||◌, Bool, true, false, refl, sym, ap, ◌∙◌, subst, arith, ℤ, nat_eq, ◌⊎◌, inl, inr, ⊎_elim}
use Rattle.std.specs.Prelude.{if◌then◌else◌}
use Rattle.affine_systems.specs.declared.row.Var.{Var}
use Rattle.affine_systems.specs.declared.row.Var.TheVariants.{Cell, Exit, Phi, Aux}
use Rattle.affine_systems.specs.Terms.{var_eq}
use Rattle.affine_systems.specs.Points.{Point}
use Rattle.affine_systems.proofs.TermLaws.{var_eq-true, true-var_eq}
use Rattle.affine_systems.proofs.AscendLaws.{var_eq-sym}
use Rattle.hull_projection.specs.Laws.{IsOneOf}
use Rattle.hull_projection.proofs.LiftLaws.{aux_eq, aux_apart}
use Rattle.transformer_algebra.specs.declared.naming.Naming.{Naming}
use Rattle.transformer_algebra.specs.Renaming.{naming, renamed_by}
use Rattle.transformer_algebra.specs.Cells.{has}
use Rattle.transformer_algebra.specs.Halves.{first_names, second_names, middle, to_cells, cell_vars}
use Rattle.transformer_algebra.proofs.CellLaws.{or_right, cell_exit, exit_cell, exit_same, cell_same, tail_has}
use Rattle.fx_lists.proofs.Numbers.{same_is as nat_same, nat_eq_same}
use Rattle.fx_lists.proofs.Booleans.{clash as clashes}

-- an auxiliary variable
abbrev pub IsAux : Var → Type 0
IsAux (Cell c) = ⊥
IsAux (Exit c) = ⊥
IsAux (Phi c) = ⊥
IsAux (Aux c) = Unit {0}

-- no subscript is renamed
pub phi_stays : (cs : List ℕ) (n : ℕ) → renamed_by (to_cells cs) (Phi n) ≡ Phi n
phi_stays [] n = refl
phi_stays (c ∷ cs) n = go (var_eq (Phi n) (Exit c)) refl (phi_stays cs n)
  where
    go : (b : Bool) → var_eq (Phi n) (Exit c) ≡ b → renamed_by (to_cells cs) (Phi n) ≡ Phi n → (if b then Cell c else renamed_by (to_cells cs) (Phi n)) ≡ Phi n
    go true e ih = let q = var_eq-true (Phi n) (Exit c) e in absurd (cc)
    go false e ih = ih

same_cells : (ds : List ℕ) (c d : ℕ) → c ≡ d → has ds c ≡ has ds d
same_cells ds c d e = ap (has ds) e

module _ (u : ℕ → ℤ) (again : List ℕ) where
  -- the numbers in between, u of each cell
  abbrev pub mid : ℕ → List ℕ → Point → Point
  mid n [] p v = p v
  mid n (c ∷ cs) p v = if has again c then (if var_eq v (Aux n) then u c else mid (suc n) cs p v) else mid n cs p v

  pub mid_off : (n : ℕ) (cs : List ℕ) (p : Point) (v : Var) → (IsOneOf v (middle n again cs) → ⊥) → mid n cs p v ≡ p v
  mid_off n [] p v f = refl
  mid_off n (c ∷ cs) p v f = go (has again c) f (λ g. mid_off (suc n) cs p v g) (λ g. mid_off n cs p v g)
    where
      here : (b : Bool) → var_eq v (Aux n) ≡ b → (IsOneOf v (Aux n ∷ middle (suc n) again cs) → ⊥) → ((IsOneOf v (middle (suc n) again cs) → ⊥) → mid (suc n) cs p v ≡ p v) → (if b then u c else mid (suc n) cs p v) ≡ p v
      here true e g r = absurd (g (inl (var_eq-true v (Aux n) e)))
      here false e g r = r (λ h. g (inr h))

      go : (b : Bool) → (IsOneOf v (if b then Aux n ∷ middle (suc n) again cs else middle n again cs) → ⊥) → ((IsOneOf v (middle (suc n) again cs) → ⊥) → mid (suc n) cs p v ≡ p v) → ((IsOneOf v (middle n again cs) → ⊥) → mid n cs p v ≡ p v) → (if b then (if var_eq v (Aux n) then u c else mid (suc n) cs p v) else mid n cs p v) ≡ p v
      go true g r q = here (var_eq v (Aux n)) refl g r
      go false g r q = q g

  not_middle : (n : ℕ) (cs : List ℕ) (v : Var) → (IsAux v → ⊥) → IsOneOf v (middle n again cs) → ⊥
  not_middle n [] v f h = h
  not_middle n (c ∷ cs) v f h = go (has again c) h (λ r. not_middle (suc n) cs v f r) (λ r. not_middle n cs v f r)
    where
      go : (b : Bool) → IsOneOf v (if b then Aux n ∷ middle (suc n) again cs else middle n again cs) → (IsOneOf v (middle (suc n) again cs) → ⊥) → (IsOneOf v (middle n again cs) → ⊥) → ⊥
      go true k r q = ⊎_elim (λ e. f (subst IsAux (sym e) tt)) r k
      go false k r q = q k

  pub mid_cell : (n : ℕ) (cs : List ℕ) (p : Point) (c : ℕ) → mid n cs p (Cell c) ≡ p (Cell c)
  mid_cell n cs p c = mid_off n cs p (Cell c) (not_middle n cs (Cell c) (λ h. h))

  pub mid_exit : (n : ℕ) (cs : List ℕ) (p : Point) (c : ℕ) → mid n cs p (Exit c) ≡ p (Exit c)
  mid_exit n cs p c = mid_off n cs p (Exit c) (not_middle n cs (Exit c) (λ h. h))

  -- a variable of the first half that has become one in between, with the cell's number
  pub record Between (n : ℕ) (cs : List ℕ) (p : Point) (v : Var) (c : ℕ) : Type 0 where
    pub at : ℕ
    pub least : n ≤ at
    pub is : v ≡ Aux at
    pub says : mid n cs p (Aux at) ≡ u c

  -- one variable further
  further : (n : ℕ) (d : ℕ) (cs : List ℕ) (p : Point) (v : Var) (c : ℕ) → has again d ≡ true → Between (suc n) cs p v c → Between n (d ∷ cs) p v c
  further n d cs p v c e b = record { at = b.at; least = omega (arith, b.least); is = b.is; says = go (has again d) e (var_eq (Aux b.at) (Aux n)) (var_eq-sym (Aux n) (Aux b.at) (aux_apart n b.at (omega (arith, b.least)))) }
    where
      go : (g : Bool) → g ≡ true → (h : Bool) → h ≡ false → (if g then (if h then u d else mid (suc n) cs p (Aux b.at)) else mid n cs p (Aux b.at)) ≡ u c
      go true q true r = clashes true refl r
      go true q false r = b.says
      go false q h r = clashes false q refl

  passed : (n : ℕ) (d : ℕ) (cs : List ℕ) (p : Point) (v : Var) (c : ℕ) → has again d ≡ false → Between n cs p v c → Between n (d ∷ cs) p v c
  passed n d cs p v c e b = record { at = b.at; least = b.least; is = b.is; says = go (has again d) e }
    where
      go : (g : Bool) → g ≡ false → (if g then (if var_eq (Aux b.at) (Aux n) then u d else mid (suc n) cs p (Aux b.at)) else mid n cs p (Aux b.at)) ≡ u c
      go true q = clashes true refl q
      go false q = b.says

  found : (n : ℕ) (d : ℕ) (cs : List ℕ) (p : Point) (c : ℕ) → has again d ≡ true → d ≡ c → Between n (d ∷ cs) p (Aux n) c
  found n d cs p c e q = record { at = n; least = omega arith; is = refl; says = go (has again d) e (var_eq (Aux n) (Aux n)) (aux_eq n n refl) }
    where
      go : (g : Bool) → g ≡ true → (h : Bool) → h ≡ true → (if g then (if h then u d else mid (suc n) cs p (Aux n)) else mid n cs p (Aux n)) ≡ u c
      go true r true s = ap u q
      go true r false s = clashes false s refl
      go false r h s = clashes false r refl

  -- ---- the first half

  pub first_between : (n : ℕ) (cs : List ℕ) (p : Point) (c : ℕ) → has cs c ≡ true → has again c ≡ true → Between n cs p (renamed_by (first_names n again cs) (Exit c)) c
  first_between n [] p c h a = clashes false h refl
  first_between n (d ∷ cs) p c h a = go (has again d) refl (λ k. first_between (suc n) cs p c k a) (λ k. first_between n cs p c k a)
    where
      here : has again d ≡ true → (has cs c ≡ true → Between (suc n) cs p (renamed_by (first_names (suc n) again cs) (Exit c)) c) → (g : Bool) → var_eq (Exit c) (Exit d) ≡ g → Between n (d ∷ cs) p (if g then Aux n else renamed_by (first_names (suc n) again cs) (Exit c)) c
      here e r true k = found n d cs p c e (sym (exit_same c d k))
      here e r false k = further n d cs p (renamed_by (first_names (suc n) again cs) (Exit c)) c e (r (tail_has d c cs h (λ q. clashes (var_eq (Exit c) (Exit d)) (true-var_eq (Exit c) (Exit d) (ap (λ j. Exit j) (sym q))) k)))

      go : (b : Bool) → has again d ≡ b → (has cs c ≡ true → Between (suc n) cs p (renamed_by (first_names (suc n) again cs) (Exit c)) c) → (has cs c ≡ true → Between n cs p (renamed_by (first_names n again cs) (Exit c)) c) → Between n (d ∷ cs) p (renamed_by (if b then naming (Exit d) (Aux n) ∷ first_names (suc n) again cs else first_names n again cs) (Exit c)) c
      go true e r w = here e r (var_eq (Exit c) (Exit d)) refl
      go false e r w = passed n d cs p (renamed_by (first_names n again cs) (Exit c)) c e (w (tail_has d c cs h (λ q. clashes (has again d) (same_cells again d c q ∙ a) e)))

  pub first_exit : (n : ℕ) (cs : List ℕ) (c : ℕ) → has again c ≡ false → renamed_by (first_names n again cs) (Exit c) ≡ Exit c
  first_exit n [] c a = refl
  first_exit n (d ∷ cs) c a = go (has again d) refl (first_exit (suc n) cs c a) (first_exit n cs c a)
    where
      here : has again d ≡ true → renamed_by (first_names (suc n) again cs) (Exit c) ≡ Exit c → (g : Bool) → var_eq (Exit c) (Exit d) ≡ g → (if g then Aux n else renamed_by (first_names (suc n) again cs) (Exit c)) ≡ Exit c
      here e r true k = clashes (has again d) e (same_cells again d c (sym (exit_same c d k)) ∙ a)
      here e r false k = r

      go : (b : Bool) → has again d ≡ b → renamed_by (first_names (suc n) again cs) (Exit c) ≡ Exit c → renamed_by (first_names n again cs) (Exit c) ≡ Exit c → renamed_by (if b then naming (Exit d) (Aux n) ∷ first_names (suc n) again cs else first_names n again cs) (Exit c) ≡ Exit c
      go true e r w = here e r (var_eq (Exit c) (Exit d)) refl
      go false e r w = w

  pub first_cell : (n : ℕ) (cs : List ℕ) (c : ℕ) → renamed_by (first_names n again cs) (Cell c) ≡ Cell c
  first_cell n [] c = refl
  first_cell n (d ∷ cs) c = go (has again d) (first_cell (suc n) cs c) (first_cell n cs c)
    where
      here : renamed_by (first_names (suc n) again cs) (Cell c) ≡ Cell c → (g : Bool) → g ≡ false → (if g then Aux n else renamed_by (first_names (suc n) again cs) (Cell c)) ≡ Cell c
      here r true k = clashes true refl k
      here r false k = r

      go : (b : Bool) → renamed_by (first_names (suc n) again cs) (Cell c) ≡ Cell c → renamed_by (first_names n again cs) (Cell c) ≡ Cell c → renamed_by (if b then naming (Exit d) (Aux n) ∷ first_names (suc n) again cs else first_names n again cs) (Cell c) ≡ Cell c
      go true r w = here r (var_eq (Cell c) (Exit d)) (cell_exit c d)
      go false r w = w

  -- ---- the second half

  -- the names of the second half after one cell
  abbrev second_tail : Bool → ℕ → ℕ → List ℕ → List Naming
  second_tail b n d cs = if b then naming (Cell d) (Aux n) ∷ second_names (suc n) again cs else naming (Cell d) (Exit d) ∷ second_names n again cs

  pub second_between : (n : ℕ) (cs : List ℕ) (p : Point) (c : ℕ) → has cs c ≡ true → has again c ≡ true → Between n cs p (renamed_by (second_names n again cs) (Cell c)) c
  second_between n [] p c h a = clashes false h refl
  second_between n (d ∷ cs) p c h a = go (has again d) refl (λ k. second_between (suc n) cs p c k a) (λ k. second_between n cs p c k a)
    where
      other : (g : Bool) → var_eq (Cell c) (Cell d) ≡ false → d ≡ c → ⊥
      other g k q = clashes (var_eq (Cell c) (Cell d)) (true-var_eq (Cell c) (Cell d) (ap (λ j. Cell j) (sym q))) k

      here : has again d ≡ true → (has cs c ≡ true → Between (suc n) cs p (renamed_by (second_names (suc n) again cs) (Cell c)) c) → (g : Bool) → var_eq (Cell c) (Cell d) ≡ g → Between n (d ∷ cs) p (if g then Aux n else renamed_by (second_names (suc n) again cs) (Cell c)) c
      here e r true k = found n d cs p c e (sym (cell_same c d k))
      here e r false k = further n d cs p (renamed_by (second_names (suc n) again cs) (Cell c)) c e (r (tail_has d c cs h (other false k)))

      there : has again d ≡ false → (has cs c ≡ true → Between n cs p (renamed_by (second_names n again cs) (Cell c)) c) → (g : Bool) → var_eq (Cell c) (Cell d) ≡ g → Between n (d ∷ cs) p (if g then Exit d else renamed_by (second_names n again cs) (Cell c)) c
      there e r true k = clashes (has again d) (same_cells again d c (sym (cell_same c d k)) ∙ a) e
      there e r false k = passed n d cs p (renamed_by (second_names n again cs) (Cell c)) c e (r (tail_has d c cs h (other false k)))

      go : (b : Bool) → has again d ≡ b → (has cs c ≡ true → Between (suc n) cs p (renamed_by (second_names (suc n) again cs) (Cell c)) c) → (has cs c ≡ true → Between n cs p (renamed_by (second_names n again cs) (Cell c)) c) → Between n (d ∷ cs) p (renamed_by (second_tail b n d cs) (Cell c)) c
      go true e r w = here e r (var_eq (Cell c) (Cell d)) refl
      go false e r w = there e w (var_eq (Cell c) (Cell d)) refl

  pub second_exit : (n : ℕ) (cs : List ℕ) (c : ℕ) → renamed_by (second_names n again cs) (Exit c) ≡ Exit c
  second_exit n [] c = refl
  second_exit n (d ∷ cs) c = go (has again d) (second_exit (suc n) cs c) (second_exit n cs c)
    where
      skip : (v : Var) (m : ℕ) → renamed_by (second_names m again cs) (Exit c) ≡ Exit c → (g : Bool) → g ≡ false → (if g then v else renamed_by (second_names m again cs) (Exit c)) ≡ Exit c
      skip v m r true k = clashes true refl k
      skip v m r false k = r

      go : (b : Bool) → renamed_by (second_names (suc n) again cs) (Exit c) ≡ Exit c → renamed_by (second_names n again cs) (Exit c) ≡ Exit c → renamed_by (second_tail b n d cs) (Exit c) ≡ Exit c
      go true r w = skip (Aux n) (suc n) r (var_eq (Exit c) (Cell d)) (exit_cell c d)
      go false r w = skip (Exit d) n w (var_eq (Exit c) (Cell d)) (exit_cell c d)

  -- a cell that only the first changes is its exit
  pub second_once : (n : ℕ) (cs : List ℕ) (c : ℕ) → has cs c ≡ true → has again c ≡ false → renamed_by (second_names n again cs) (Cell c) ≡ Exit c
  second_once n [] c h a = clashes false h refl
  second_once n (d ∷ cs) c h a = go (has again d) refl (λ k. second_once (suc n) cs c k a) (λ k. second_once n cs c k a)
    where
      rest : var_eq (Cell c) (Cell d) ≡ false → has cs c ≡ true
      rest k = tail_has d c cs h (λ q. clashes (var_eq (Cell c) (Cell d)) (true-var_eq (Cell c) (Cell d) (ap (λ j. Cell j) (sym q))) k)

      here : has again d ≡ true → (has cs c ≡ true → renamed_by (second_names (suc n) again cs) (Cell c) ≡ Exit c) → (g : Bool) → var_eq (Cell c) (Cell d) ≡ g → (if g then Aux n else renamed_by (second_names (suc n) again cs) (Cell c)) ≡ Exit c
      here e r true k = clashes (has again d) e (same_cells again d c (sym (cell_same c d k)) ∙ a)
      here e r false k = r (rest k)

      there : (has cs c ≡ true → renamed_by (second_names n again cs) (Cell c) ≡ Exit c) → (g : Bool) → var_eq (Cell c) (Cell d) ≡ g → (if g then Exit d else renamed_by (second_names n again cs) (Cell c)) ≡ Exit c
      there r true k = ap (λ j. Exit j) (sym (cell_same c d k))
      there r false k = r (rest k)

      go : (b : Bool) → has again d ≡ b → (has cs c ≡ true → renamed_by (second_names (suc n) again cs) (Cell c) ≡ Exit c) → (has cs c ≡ true → renamed_by (second_names n again cs) (Cell c) ≡ Exit c) → renamed_by (second_tail b n d cs) (Cell c) ≡ Exit c
      go true e r w = here e r (var_eq (Cell c) (Cell d)) refl
      go false e r w = there w (var_eq (Cell c) (Cell d)) refl

  -- a cell that the first does not change stays
  pub second_never : (n : ℕ) (cs : List ℕ) (c : ℕ) → has cs c ≡ false → renamed_by (second_names n again cs) (Cell c) ≡ Cell c
  second_never n [] c h = refl
  second_never n (d ∷ cs) c h = go (has again d) (λ k. second_never (suc n) cs c k) (λ k. second_never n cs c k)
    where
      other : (g : Bool) → var_eq (Cell c) (Cell d) ≡ g → g ≡ false
      other true k = clashes (nat_eq d c || has cs c) (ap (λ b. b || has cs c) (subst (λ j. nat_eq d j ≡ true) (sym (cell_same c d k)) (nat_eq_same d))) h
      other false k = refl

      rest : has cs c ≡ false
      rest = or_right (nat_eq d c) (has cs c) h

      skip : (v : Var) (m : ℕ) → renamed_by (second_names m again cs) (Cell c) ≡ Cell c → (g : Bool) → g ≡ false → (if g then v else renamed_by (second_names m again cs) (Cell c)) ≡ Cell c
      skip v m r true k = clashes true refl k
      skip v m r false k = r

      go : (b : Bool) → (has cs c ≡ false → renamed_by (second_names (suc n) again cs) (Cell c) ≡ Cell c) → (has cs c ≡ false → renamed_by (second_names n again cs) (Cell c) ≡ Cell c) → renamed_by (second_tail b n d cs) (Cell c) ≡ Cell c
      go true r w = skip (Aux n) (suc n) (r rest) (var_eq (Cell c) (Cell d)) (other (var_eq (Cell c) (Cell d)) refl)
      go false r w = skip (Exit d) n (w rest) (var_eq (Cell c) (Cell d)) (other (var_eq (Cell c) (Cell d)) refl)

-- ---- exits that become cells

pub to_cells_exit : (cs : List ℕ) (c : ℕ) → has cs c ≡ true → renamed_by (to_cells cs) (Exit c) ≡ Cell c
to_cells_exit [] c h = clashes false h refl
to_cells_exit (d ∷ cs) c h = go (var_eq (Exit c) (Exit d)) refl (λ k. to_cells_exit cs c k)
  where
    go : (g : Bool) → var_eq (Exit c) (Exit d) ≡ g → (has cs c ≡ true → renamed_by (to_cells cs) (Exit c) ≡ Cell c) → (if g then Cell d else renamed_by (to_cells cs) (Exit c)) ≡ Cell c
    go true k r = ap (λ j. Cell j) (sym (exit_same c d k))
    go false k r = r (tail_has d c cs h (λ q. clashes (var_eq (Exit c) (Exit d)) (true-var_eq (Exit c) (Exit d) (ap (λ j. Exit j) (sym q))) k))

pub to_cells_cell : (cs : List ℕ) (c : ℕ) → renamed_by (to_cells cs) (Cell c) ≡ Cell c
to_cells_cell [] c = refl
to_cells_cell (d ∷ cs) c = go (var_eq (Cell c) (Exit d)) (cell_exit c d) (to_cells_cell cs c)
  where
    go : (g : Bool) → g ≡ false → renamed_by (to_cells cs) (Cell c) ≡ Cell c → (if g then Cell d else renamed_by (to_cells cs) (Cell c)) ≡ Cell c
    go true k r = clashes true refl k
    go false k r = r

pub in_cell_vars : (cs : List ℕ) (c : ℕ) → has cs c ≡ true → IsOneOf (Cell c) (cell_vars cs)
in_cell_vars [] c h = clashes false h refl
in_cell_vars (d ∷ cs) c h = go (nat_eq d c) refl h (λ k. in_cell_vars cs c k)
  where
    go : (b : Bool) → nat_eq d c ≡ b → (b || has cs c) ≡ true → (has cs c ≡ true → IsOneOf (Cell c) (cell_vars cs)) → (Cell c ≡ Cell d) ⊎ IsOneOf (Cell c) (cell_vars cs)
    go true e k r = inl (ap (λ j. Cell j) (sym (nat_same d c e)))
    go false e k r = inr (r k)
