-- A system that describes subscripts at an iteration is one at the DO; where it is exact, a point at the DO has an iteration.
use Rattle.std.proofs.Common.{◌≡◌, ℕ, zero, suc, List, [], ◌∷◌, ◌||◌, ◌&&◌, Bool, true, false, refl, sym, ap, ◌∙◌, subst, arith, ℤ, pos, negsuc, ◌+ℤ◌, ◌-ℤ◌, ◌*ℤ◌, ◌≤ℤ◌, nat_eq, nat_lt, unsigned_abs, Option, Some, None, inl, inr, ⊎_elim}
use Rattle.std.specs.Prelude.{if◌then◌else◌, is_some}
use Rattle.std.proofs.lemmas.Int.{ints}
use Rattle.std.proofs.lemmas.Bool.Decides.{nat_tests}
use Rattle.std.proofs.lemmas.Bool.{or_left, and_parts}
use Rattle.affine_systems.specs.declared.row.Var.{Var}
use Rattle.affine_systems.specs.declared.row.Var.TheVariants.{Cell, Exit, Phi, Aux}
use Rattle.affine_systems.specs.declared.row.System.{System}
use Rattle.affine_systems.specs.Terms.{var_eq}
use Rattle.affine_systems.specs.Points.{Point, Holds, HoldsAll}
use Rattle.affine_systems.specs.Calls.{meet}
use Rattle.affine_systems.proofs.Basics.{neg_mul}
use Rattle.affine_systems.proofs.TermLaws.{var_eq-true, true-var_eq}
use Rattle.affine_systems.proofs.ElimLaws.{value-combined}
use Rattle.affine_systems.proofs.CallLaws.{append_all, meet_holds}
use Rattle.hull_projection.specs.Laws.{IsOneOf}
use Rattle.hull_projection.specs.Hull.{at_least_0}
use Rattle.hull_projection.specs.Project.{project}
use Rattle.hull_projection.proofs.ProjectLaws.{project_keeps, project_extends}
use Rattle.transformers.specs.transformer_algebra.Renaming.{naming, renamed_by, rename_all, push_rows}
use Rattle.transformers.proofs.TransformerAlgebra.KeepLaws.{rename_all_holds, push_rows_holds, of_rows_holds}
use Rattle.affine_forms.specs.declared.affine.Affine.{Affine}
use Rattle.affine_forms.specs.Claims.{form_value}
use Rattle.affine_forms.specs.Comparisons.{var_form, at_most_row, same_row}
use Rattle.affine_forms.proofs.RowLaws.{at_most_holds, same_holds}
use Rattle.transformers.specs.transformer_algebra.Cells.{has, others}
use Rattle.transformers.specs.transformer_algebra.Transformers.{identity_transformer, assign, exit_system, iterate}
use Rattle.transformers.specs.transformer_algebra.Loops.{goes_up, within_row, if_counted}
use Rattle.transformers.specs.transformer_algebra.Claims.{Scene, AtStart, AtEnd, Does, Means, NotBeyond}
use Rattle.transformers.proofs.TransformerAlgebra.CellLaws.{right_in}
use Rattle.transformers.proofs.TransformerAlgebra.RuleLaws.{does_then}
use Rattle.transformers.proofs.TransformerAlgebra.TurnLaws.{kept_chain, does_closed}
use Rattle.region_sets.specs.declared.range.Range.{Range}
use Rattle.region_sets.specs.Naming.{in_rows, named_cells, to_exits, exit_vars}
use Rattle.region_sets.specs.Loops.{index_form, start_of, step_rows, first_rows, last_rows, counted_rows, range_rows, is_counted, first_assignment, iterations, iterations_at, at_index, loop_vars, composed_with, through_loop, loop_piece}
use Rattle.region_sets.specs.Claims.{HasSubscripts, AreNumbers, HasCells, Describes, InRange, Iteration, Begins}
use Rattle.region_sets.proofs.DescribedLaws.{arrival, at_start}
use Rattle.region_sets.proofs.NameLaws.{Agree, flip, rows_agree, has_named, named_has, has_others, others_has, exit_of_named, cell_of_other, stays_exit, stays_phi, stays_aux}
use Rattle.region_sets.proofs.BackLaws.{push_weak, project_weak, rename_all_back, push_rows_back}
use Rattle.region_sets.proofs.ComposeLaws.{ends_at, ends_off}
use Rattle.fx_lists.proofs.Numbers.{same_is as nat_same, nat_eq_same}
use Rattle.fx_lists.proofs.Booleans.{clash as clashes}
use Rattle.affine_forms.proofs.RowValues.{same_back}

-- ---- the index, by its name

index_is : (i c : ℕ) → nat_eq i c ≡ true → renamed_by (naming (Cell i) (Aux 0) ∷ []) (Cell c) ≡ Aux 0
index_is i c e = go (var_eq (Cell c) (Cell i)) (true-var_eq (Cell c) (Cell i) (ap (λ j. Cell j) (sym (nat_same i c e))))
  where
    go : (b : Bool) → b ≡ true → (if b then Aux 0 else Cell c) ≡ Aux 0
    go true k = refl
    go false k = clashes false k refl

other_is : (i c : ℕ) → nat_eq i c ≡ false → renamed_by (naming (Cell i) (Aux 0) ∷ []) (Cell c) ≡ Cell c
other_is i c e = go (var_eq (Cell c) (Cell i)) refl
  where
    cell_is : (j k : ℕ) → Cell j ≡ Cell k → j ≡ k
    cell_is j k q = cc

    go : (b : Bool) → var_eq (Cell c) (Cell i) ≡ b → (if b then Aux 0 else Cell c) ≡ Cell c
    go true k = clashes (nat_eq i c) (subst (λ (z : ℕ). nat_eq i z ≡ true) (cell_is i c (sym (var_eq-true (Cell c) (Cell i) k))) (nat_eq_same i)) e
    go false k = refl

-- what is not of a kind is no variable of it
no_cell : (v : Var) (i : ℕ) → (v ≡ Cell i → ⊥) → renamed_by (naming (Cell i) (Aux 0) ∷ []) v ≡ v
no_cell v i f = go (var_eq v (Cell i)) refl
  where
    go : (b : Bool) → var_eq v (Cell i) ≡ b → (if b then Aux 0 else v) ≡ v
    go true k = absurd (f (var_eq-true v (Cell i) k))
    go false k = refl

no_exit : (v : Var) (i : ℕ) → (v ≡ Exit i → ⊥) → renamed_by (naming (Exit i) (Aux 0) ∷ []) v ≡ v
no_exit v i f = go (var_eq v (Exit i)) refl
  where
    go : (b : Bool) → var_eq v (Exit i) ≡ b → (if b then Aux 0 else v) ≡ v
    go true k = absurd (f (var_eq-true v (Exit i) k))
    go false k = refl

end_is : (i c : ℕ) → nat_eq i c ≡ true → renamed_by (naming (Exit i) (Aux 0) ∷ []) (Exit c) ≡ Aux 0
end_is i c e = go (var_eq (Exit c) (Exit i)) (true-var_eq (Exit c) (Exit i) (ap (λ j. Exit j) (sym (nat_same i c e))))
  where
    go : (b : Bool) → b ≡ true → (if b then Aux 0 else Exit c) ≡ Aux 0
    go true k = refl
    go false k = clashes false k refl

exit_apart : (i c : ℕ) → nat_eq i c ≡ false → Exit c ≡ Exit i → ⊥
exit_apart i c e q = let k : i ≡ c = cc in clashes (nat_eq i c) (subst (λ (z : ℕ). nat_eq i z ≡ true) k (nat_eq_same i)) e

pub exit_no_cell : (c i : ℕ) → Exit c ≡ Cell i → ⊥
exit_no_cell c i q = cc

pub phi_no_cell : (c i : ℕ) → Phi c ≡ Cell i → ⊥
phi_no_cell c i q = cc

pub aux_no_cell : (c i : ℕ) → Aux c ≡ Cell i → ⊥
aux_no_cell c i q = cc

cell_no_exit : (c i : ℕ) → Cell c ≡ Exit i → ⊥
cell_no_exit c i q = cc

-- ---- rows

pub within_holds : (s : ℤ) (f g : Affine) (p : Point) → NotBeyond (goes_up s) (form_value p f) (form_value p g) → Holds p (within_row s f g)
within_holds s f g p h = go (goes_up s) h
  where
    go : (b : Bool) → NotBeyond b (form_value p f) (form_value p g) → Holds p (if b then at_most_row f g else at_most_row g f)
    go true k = at_most_holds f g p k
    go false k = at_most_holds g f p k

pub at_most_back : (f g : Affine) (p : Point) → Holds p (at_most_row f g) → form_value p f ≤ℤ form_value p g
at_most_back f g p h = let v = value-combined p (pos 1) f.terms (negsuc 0) g.terms in omega (arith, ints, v, h)

pub within_back : (s : ℤ) (f g : Affine) (p : Point) → Holds p (within_row s f g) → NotBeyond (goes_up s) (form_value p f) (form_value p g)
within_back s f g p h = go (goes_up s) h
  where
    go : (b : Bool) → Holds p (if b then at_most_row f g else at_most_row g f) → NotBeyond b (form_value p f) (form_value p g)
    go true k = at_most_back f g p k
    go false k = at_most_back g f p k

index_value : (p : Point) → form_value p index_form ≡ p (Aux 0)
index_value p = omega (arith, ints)

start_value : (s : ℤ) (p : Point) → form_value p (start_of s) ≡ p (Aux 0) -ℤ (s *ℤ p (Aux 1))
start_value s p = let k = neg_mul s (p (Aux 1)) in omega (arith, ints, k)

least : (k : ℕ) (p : Point) → p (Aux 1) ≡ pos k → Holds p (at_least_0 (Aux 1))
least k p e = omega (arith, ints, e)

least_back : (p : Point) → Holds p (at_least_0 (Aux 1)) → pos 0 ≤ℤ p (Aux 1)
least_back p h = omega (arith, ints, h)

-- ---- each number between is met in steps of 1 or -1

pub record Offset (a n : ℤ) : Type 0 where
  pub by : ℕ
  pub is_it : n ≡ a +ℤ pos by

pub offset : (a n : ℤ) → a ≤ℤ n → Offset a n
offset a n h = go (n -ℤ a) refl
  where
    go : (z : ℤ) → n -ℤ a ≡ z → Offset a n
    go (pos k) e = record { by = k; is_it = omega (arith, ints) }
    go (negsuc k) e = absurd (omega (arith, ints))

unit_place : (s a n : ℤ) → nat_lt 1 (unsigned_abs s) ≡ false → (s ≡ pos 0 → ⊥) → NotBeyond (goes_up s) a n → (k : ℕ) × (n ≡ a +ℤ (s *ℤ pos k))
unit_place (pos zero) a n e z h = absurd (z refl)
unit_place (pos (suc zero)) a n e z h = let k = offset a n h in (k.by, k.is_it ∙ ap (λ w. a +ℤ w) (same k.by))
  where
    same : (k : ℕ) → pos k ≡ pos 1 *ℤ pos k
    same k = omega (arith, ints)
unit_place (pos (suc (suc i))) a n e z h = absurd (grind (arith, nat_tests))
unit_place (negsuc zero) a n e z h = let k = offset n a h in (k.by, down k.by k.is_it)
  where
    down : (k : ℕ) → a ≡ n +ℤ pos k → n ≡ a +ℤ (negsuc 0 *ℤ pos k)
    down k h = omega (arith, ints)
unit_place (negsuc (suc i)) a n e z h = absurd (grind (arith, nat_tests))

-- ---- points at an iteration

-- its index, and the number of those before it
abbrev with_turn : ℤ → ℕ → Point → Var → ℤ
with_turn n k p (Cell c) = p (Cell c)
with_turn n k p (Exit c) = p (Exit c)
with_turn n k p (Phi c) = p (Phi c)
with_turn n k p (Aux zero) = n
with_turn n k p (Aux (suc zero)) = pos k
with_turn n k p (Aux (suc (suc j))) = p (Aux (suc (suc j)))

-- the numbers where it begins
abbrev pub in_turn : ℕ → ℤ → List ℕ → (ℕ → ℤ) → Point → Var → ℤ
in_turn i n cs y p (Cell c) = if nat_eq i c then n else if has cs c then y c else p (Cell c)
in_turn i n cs y p (Exit c) = p (Exit c)
in_turn i n cs y p (Phi k) = p (Phi k)
in_turn i n cs y p (Aux j) = p (Aux j)

-- the numbers of all cells there, from those at the DO
abbrev pub turn_numbers : Scene → Range → ℤ → (ℕ → ℤ) → (ℕ → ℤ) → ℕ → ℤ
turn_numbers m g n y o c = if nat_eq g.index c then n else if has g.turn.cells c then y (m.unit c) else o c

turn_off : (n : ℤ) (k : ℕ) (p : Point) (v : Var) → (IsOneOf v loop_vars → ⊥) → p v ≡ with_turn n k p v
turn_off n k p (Cell c) f = refl
turn_off n k p (Exit c) f = refl
turn_off n k p (Phi c) f = refl
turn_off n k p (Aux zero) f = absurd (f (inl refl))
turn_off n k p (Aux (suc zero)) f = absurd (f (inr (inl refl)))
turn_off n k p (Aux (suc (suc j))) f = refl

module _ (m : Scene) (g : Range) (x : ℕ → ℤ) (a b : ℤ) (bg : Begins m g x a b) where
  -- ---- the rows of the range

  step_holds : (s n : ℤ) (k : ℕ) (p : Point) (f : Affine) → form_value p f ≡ a → n ≡ a +ℤ (s *ℤ pos k) → p (Aux 0) ≡ n → p (Aux 1) ≡ pos k → HoldsAll p (step_rows s f)
  step_holds s n k p f e h h0 h1 = go (nat_lt 1 (unsigned_abs s))
    where
      starts : form_value p (start_of s) ≡ form_value p f
      starts =
          let v = start_value s p in
          let w : s *ℤ p (Aux 1) ≡ s *ℤ pos k = ap (λ z. s *ℤ z) h1 in
          omega (arith, ints, v, w, h, h0, e)

      go : (c : Bool) → HoldsAll p (if c then same_row (start_of s) f ∷ (at_least_0 (Aux 1) ∷ []) else [])
      go true = (same_holds (start_of s) f p starts, (least k p h1, tt))
      go false = tt

  first_holds : (s n : ℤ) (k : ℕ) (p : Point) (f : Option Affine) → Means m f x a → InRange a b s n k → AtStart m x p → p (Aux 0) ≡ n → p (Aux 1) ≡ pos k → HoldsAll p (first_rows s f)
  first_holds s n k p None e r st h0 h1 = tt
  first_holds s n k p (Some f) e r st h0 h1 = (
    within_holds s f index_form p (subst (λ z. NotBeyond (goes_up s) z (form_value p index_form)) (sym (e p st)) (subst (λ z. NotBeyond (goes_up s) a z) (sym (index_value p ∙ h0)) r.after_first)),
    step_holds s n k p f (e p st) r.place h0 h1,
  )

  last_holds : (s n : ℤ) (k : ℕ) (p : Point) (f : Option Affine) → Means m f x b → InRange a b s n k → AtStart m x p → p (Aux 0) ≡ n → HoldsAll p (last_rows s f)
  last_holds s n k p None e r st h0 = tt
  last_holds s n k p (Some f) e r st h0 =
      (within_holds s index_form f p (subst (λ z. NotBeyond (goes_up s) (form_value p index_form) z) (sym (e p st)) (subst (λ z. NotBeyond (goes_up s) z b) (sym (index_value p ∙ h0)) r.before_last)), tt)

  rows_hold : (n : ℤ) (k : ℕ) (p : Point) → ((s : ℤ) → g.step ≡ Some s → InRange a b s n k) → AtStart m x p → p (Aux 0) ≡ n → p (Aux 1) ≡ pos k → HoldsAll p (range_rows g)
  rows_hold n k p r st h0 h1 = go g.step r
    where
      go : (w : Option ℤ) → ((s : ℤ) → w ≡ Some s → InRange a b s n k) → HoldsAll p (counted_rows w g.first g.last)
      go None r = tt
      go (Some s) r = (append_all p (first_rows s g.first) (last_rows s g.last)).0 (first_holds s n k p g.first bg.first (r s refl) st h0 h1, last_holds s n k p g.last bg.last (r s refl) st h0)

  -- ---- from the DO to an iteration

  does_begun : (n : ℤ) (k : ℕ) (y : ℕ → ℤ) (it : Iteration m g x a b n k y) → Does m (first_assignment g) x it.begin
  does_begun n k y it = go (has g.turn.cells g.index) refl
    where
      no_rest : (c : ℕ) → (nat_eq g.index c || false) ≡ false → nat_eq g.index c ≡ false
      no_rest c e = off (nat_eq g.index c) e
        where
          off : (z : Bool) → (z || false) ≡ false → z ≡ false
          off true h = h
          off false h = refl

      exit_holds : (o : Option Affine) (p : Point) → Means m o x a → AtStart m x p → p (Exit g.index) ≡ a → HoldsAll p (exit_system g.index o).rows
      exit_holds None p e st h = tt
      exit_holds (Some f) p e st h =
          of_rows_holds (same_row (var_form (Exit g.index)) f ∷ []) p (same_holds (var_form (Exit g.index)) f p (let q = e p st in omega (arith, ints, q, h)), tt)

      means : (o : Option ℤ) → Means m (if_counted o g.first) x a
      means None = tt
      means (Some s) = bg.first

      go : (h : Bool) → has g.turn.cells g.index ≡ h → Does m (if h then assign g.index (if_counted g.step g.first) else identity_transformer) x it.begin
      go true h = record {
        relates = λ p st en. exit_holds (if_counted g.step g.first) p (means g.step) st (en g.index (bg.tracks g.index h) (or_left (nat_eq g.index g.index) false (nat_eq_same g.index)) ∙ it.wrote.there);
        kept = record { cells = λ c t e. it.wrote.cells c t (no_rest c e); foreign = λ u t e. it.wrote.foreign u t };
      }
      go false h = record {
        relates = λ p st en. tt;
        kept = record { cells = λ c t e. it.wrote.cells c t (off c t (nat_eq g.index c) refl); foreign = λ u t e. it.wrote.foreign u t };
      }
        where
          off : (c : ℕ) → m.tracked c ≡ true → (z : Bool) → nat_eq g.index c ≡ z → z ≡ false
          off c t true e = clashes (has g.turn.cells g.index) (bg.index (subst (λ (j : ℕ). m.tracked j ≡ true) (sym (nat_same g.index c e)) t)) h
          off c t false e = refl

  does_turns : (n : ℤ) (k : ℕ) (y : ℕ → ℤ) → Iteration m g x a b n k y → Does m (iterations g) x y
  does_turns n k y it = does_then m (first_assignment g) (iterate g.turn) x it.begin y (does_begun n k y it) (does_closed m g.turn it.begin y bg.tracks it.chain)

  abbrev yc : (ℕ → ℤ) → ℕ → ℤ
  yc y c = y (m.unit c)

  abbrev in_it : ℤ → (ℕ → ℤ) → Point → Var → ℤ
  in_it n y q = in_turn g.index n g.turn.cells (yc y) q

  starts_turn : (n : ℤ) (k : ℕ) (y : ℕ → ℤ) (p q : Point) → Iteration m g x a b n k y → AtStart m x p → ((c : ℕ) → q (Cell c) ≡ p (Cell c)) → AtStart m y (in_it n y q)
  starts_turn n k y p q it st e c h = go (nat_eq g.index c) refl (has g.turn.cells c) refl
    where
      go : (i : Bool) → nat_eq g.index c ≡ i → (j : Bool) → has g.turn.cells c ≡ j → (if i then n else if j then y (m.unit c) else q (Cell c)) ≡ y (m.unit c)
      go true d j f = sym (subst (λ (z : ℕ). y (m.unit z) ≡ n) (nat_same g.index c d) it.number)
      go false d true f = refl
      go false d false f = e c ∙ (st c h ∙ sym ((kept_chain m g.turn it.begin y it.chain).cells c h f ∙ it.wrote.cells c h d))

  turn_cells : (n : ℤ) (y o : ℕ → ℤ) (p : Point) → HasCells o p → HasCells (turn_numbers m g n y o) (in_it n y p)
  turn_cells n y o p h c = ap (λ (z : ℤ). if nat_eq g.index c then n else if has g.turn.cells c then y (m.unit c) else z) (h c)

  pub turn_are : (n : ℤ) (k : ℕ) (y o : ℕ → ℤ) → Iteration m g x a b n k y → AreNumbers m x o → AreNumbers m y (turn_numbers m g n y o)
  turn_are n k y o it e = starts_turn n k y (arrival o o) (arrival o o) it e (λ c. refl)

  module _ (s : System) where
    abbrev ns : List ℕ
    ns = named_cells (others g.turn.cells (g.index ∷ [])) s

    -- where no other changed cell is named
    plain : ns ≡ [] → (n : ℤ) (y : ℕ → ℤ) (q : Point) → q (Aux 0) ≡ n → Agree (λ v. in_rows v s.rows) (in_it n y q) (λ v. q (renamed_by (naming (Cell g.index) (Aux 0) ∷ []) v))
    plain e n y q h0 (Cell c) r = go (nat_eq g.index c) refl (has g.turn.cells c) refl
      where
        go : (i : Bool) → nat_eq g.index c ≡ i → (j : Bool) → has g.turn.cells c ≡ j → (if i then n else if j then yc y c else q (Cell c)) ≡ q (renamed_by (naming (Cell g.index) (Aux 0) ∷ []) (Cell c))
        go true d j f = sym (ap q (index_is g.index c d) ∙ h0)
        go false d true f = clashes (has ns c) (has_named (others g.turn.cells (g.index ∷ [])) s c (has_others g.index g.turn.cells c d f) r) (ap (λ (z : List ℕ). has z c) e)
        go false d false f = sym (ap q (other_is g.index c d))
    plain e n y q h0 (Exit c) r = sym (ap q (no_cell (Exit c) g.index (exit_no_cell c g.index)))
    plain e n y q h0 (Phi c) r = sym (ap q (no_cell (Phi c) g.index (phi_no_cell c g.index)))
    plain e n y q h0 (Aux c) r = sym (ap q (no_cell (Aux c) g.index (aux_no_cell c g.index)))

    abbrev ended : (ℕ → ℤ) → Point → Var → ℤ
    ended y p = ends_at (iterations g).cells (yc y) p

    -- what stands for a variable in the renamed system
    abbrev stands : Var → Var
    stands v = renamed_by (to_exits ns) (renamed_by (naming (Cell g.index) (Aux 0) ∷ []) v)

    -- where some are named
    moving : (n : ℤ) (y : ℕ → ℤ) (p : Point) → p (Aux 0) ≡ n → Agree (λ v. in_rows v s.rows) (in_it n y (ended y p)) (λ v. ended y p (stands v))
    moving n y p h0 (Cell c) r = go (nat_eq g.index c) refl (has g.turn.cells c) refl
      where
        stands_cell : nat_eq g.index c ≡ false → stands (Cell c) ≡ renamed_by (to_exits ns) (Cell c)
        stands_cell d = ap (renamed_by (to_exits ns)) (other_is g.index c d)

        two : (j : Bool) → has g.turn.cells c ≡ j → nat_eq g.index c ≡ false → (w : Bool) → has ns c ≡ w → (if j then yc y c else p (Cell c)) ≡ ended y p (stands (Cell c))
        two true f d true k = sym (ap (ended y p) (stands_cell d ∙ exit_of_named ns c k) ∙ ap (λ (z : Bool). if z then yc y c else p (Exit c)) (right_in (first_assignment g).cells g.turn.cells c f))
        two true f d false k = clashes (has ns c) (has_named (others g.turn.cells (g.index ∷ [])) s c (has_others g.index g.turn.cells c d f) r) k
        two false f d true k = clashes (has g.turn.cells c) (others_has g.index g.turn.cells c (named_has (others g.turn.cells (g.index ∷ [])) s c k)).0 f
        two false f d false k = sym (ap (ended y p) (stands_cell d ∙ cell_of_other ns c k))

        go : (i : Bool) → nat_eq g.index c ≡ i → (j : Bool) → has g.turn.cells c ≡ j → (if i then n else if j then yc y c else p (Cell c)) ≡ ended y p (stands (Cell c))
        go true d j f = sym (ap (ended y p) (ap (renamed_by (to_exits ns)) (index_is g.index c d) ∙ stays_aux ns 0) ∙ h0)
        go false d j f = two j f d (has ns c) refl
    moving n y p h0 (Exit c) r = sym (ap (ended y p) (ap (renamed_by (to_exits ns)) (no_cell (Exit c) g.index (exit_no_cell c g.index)) ∙ stays_exit ns c))
    moving n y p h0 (Phi c) r = sym (ap (ended y p) (ap (renamed_by (to_exits ns)) (no_cell (Phi c) g.index (phi_no_cell c g.index)) ∙ stays_phi ns c))
    moving n y p h0 (Aux c) r = sym (ap (ended y p) (ap (renamed_by (to_exits ns)) (no_cell (Aux c) g.index (aux_no_cell c g.index)) ∙ stays_aux ns c))

    pub piece_of_turn :
        (n : ℤ) (k : ℕ) (y : ℕ → ℤ) → Iteration m g x a b n k y → (o phi : ℕ → ℤ) → AreNumbers m x o → Describes s (turn_numbers m g n y o) phi →
        Describes (loop_piece g s).system o phi
    piece_of_turn n k y it o phi are l = go ns refl
      where
        at_turn : (p : Point) → HasCells o p → HasSubscripts phi p → HoldsAll (in_it n y p) s.rows
        at_turn p h ph = l (in_it n y p) (turn_cells n y o p h) ph

        go : (cs : List ℕ) → ns ≡ cs → Describes (through_loop cs g s).system o phi
        go [] e = λ p hc ph.
            let st : AtStart m x p = at_start m x o p are hc in
            let p1 = with_turn n k p in
            let here = rename_all_holds (naming (Cell g.index) (Aux 0) ∷ []) s p1 (rows_agree s.rows (in_it n y p1) (λ v. p1 (renamed_by (naming (Cell g.index) (Aux 0) ∷ []) v)) (plain e n y p1 refl) (at_turn p1 hc ph)) in
            project_keeps (push_rows (at_index g.index s) (range_rows g)) loop_vars p1 p (λ v f. turn_off n k p v f)
            (push_rows_holds (at_index g.index s) (range_rows g) p1 here (rows_hold n k p1 it.range st refl refl))
        go (c ∷ cs) e = λ p hc ph.
            let st : AtStart m x p = at_start m x o p are hc in
            let p1 = with_turn n k p in
            let p2 = ended y p1 in
            let at_p2 = at_turn p2 hc ph in
            let here = rename_all_holds (to_exits ns) (at_index g.index s) p2 (rename_all_holds (naming (Cell g.index) (Aux 0) ∷ []) s (λ v. p2 (renamed_by (to_exits ns) v)) (rows_agree s.rows (in_it n y p2) (λ v. p2 (stands v)) (moving n y p1 refl) at_p2)) in
            let turned = rename_all_holds (naming (Exit g.index) (Aux 0) ∷ []) (iterations g).system p2 ((does_turns n k y it).relates (λ v. p2 (renamed_by (naming (Exit g.index) (Aux 0) ∷ []) v)) (starts p st) (ends p)) in
            subst (λ (z : List ℕ). HoldsAll p (project (composed_with z g s) loop_vars).system.rows) e
            (project_keeps (composed_with ns g s) loop_vars p1 p (λ v f. turn_off n k p v f)
            (project_keeps (meet (push_rows (rename_all (to_exits ns) (at_index g.index s)) (range_rows g)) (iterations_at g)) (exit_vars (iterations g).cells) p2 p1 (λ v f. ends_off (iterations g).cells (yc y) p1 v f)
            (meet_holds p2 (push_rows (rename_all (to_exits ns) (at_index g.index s)) (range_rows g)) (iterations_at g) (push_rows_holds (rename_all (to_exits ns) (at_index g.index s)) (range_rows g) p2 here (rows_hold n k p2 it.range st refl refl), turned))))
          where
            starts : (p : Point) → AtStart m x p → AtStart m x (λ v. ended y (with_turn n k p) (renamed_by (naming (Exit g.index) (Aux 0) ∷ []) v))
            starts p st c h = ap (ended y (with_turn n k p)) (no_exit (Cell c) g.index (cell_no_exit c g.index)) ∙ st c h

            ends : (p : Point) → AtEnd m (iterations g).cells y (λ v. ended y (with_turn n k p) (renamed_by (naming (Exit g.index) (Aux 0) ∷ []) v))
            ends p c h f = one (nat_eq g.index c) refl
              where
                one : (i : Bool) → nat_eq g.index c ≡ i → ended y (with_turn n k p) (renamed_by (naming (Exit g.index) (Aux 0) ∷ []) (Exit c)) ≡ y (m.unit c)
                one true d = ap (ended y (with_turn n k p)) (end_is g.index c d) ∙ sym (subst (λ (z : ℕ). y (m.unit z) ≡ n) (nat_same g.index c d) it.number)
                one false d = ap (ended y (with_turn n k p)) (no_exit (Exit c) g.index (exit_apart g.index c d)) ∙ ap (λ (z : Bool). if z then yc y c else p (Exit c)) f

    -- an iteration for a point at the DO, and the point there
    pub record Begun (p : Point) (y : ℕ → ℤ) : Type 0 where
      pub point : Point
      pub starts : AtStart m y point
      pub same : (k : ℕ) → point (Phi k) ≡ p (Phi k)
      pub holds : HoldsAll point s.rows

    pub record Turned (p : Point) : Type 0 where
      pub step : ℤ
      pub is_step : g.step ≡ Some step
      pub number : ℤ
      pub count : ℕ
      pub range : InRange a b step number count
      pub begins : (y : ℕ → ℤ) → Iteration m g x a b number count y → Begun p y

    record Ranged (q : Point) : Type 0 where
      step : ℤ
      is_step : g.step ≡ Some step
      count : ℕ
      range : InRange a b step (q (Aux 0)) count

    count_of : (z : ℤ) → pos 0 ≤ℤ z → (k : ℕ) × (z ≡ pos k)
    count_of (pos k) h = (k, refl)
    count_of (negsuc k) h = absurd (omega (arith, ints))

    place_back : (st : ℤ) (f : Affine) (q : Point) → (st ≡ pos 0 → ⊥) → form_value q f ≡ a → NotBeyond (goes_up st) a (q (Aux 0)) → HoldsAll q (step_rows st f) → (k : ℕ) × (q (Aux 0) ≡ a +ℤ (st *ℤ pos k))
    place_back st f q z e n h = go (nat_lt 1 (unsigned_abs st)) refl h
      where
        go : (c : Bool) → nat_lt 1 (unsigned_abs st) ≡ c → HoldsAll q (if c then same_row (start_of st) f ∷ (at_least_0 (Aux 1) ∷ []) else []) → (k : ℕ) × (q (Aux 0) ≡ a +ℤ (st *ℤ pos k))
        go true c h =
            let k = count_of (q (Aux 1)) (least_back q h.1.0) in
            let v = same_back (start_of st) f q h.0 in
            let w = start_value st q in
            let u : st *ℤ q (Aux 1) ≡ st *ℤ pos k.0 = ap (λ z. st *ℤ z) k.1 in
            (k.0, omega (arith, ints, v, w, u, e))
        go false c h = unit_place st a (q (Aux 0)) c z n

    ranged : (q : Point) → ((st : ℤ) → g.step ≡ Some st → st ≡ pos 0 → ⊥) → AtStart m x q → is_counted g ≡ true → HoldsAll q (range_rows g) → Ranged q
    ranged q nz sq e h =
        let e2 = and_parts (is_some g.step) (is_some g.first && is_some g.last) e in
        let e3 = and_parts (is_some g.first) (is_some g.last) e2.1 in
        go g.step refl e2.0 g.first bg.first e3.0 g.last bg.last e3.1 h
      where
        go : (w : Option ℤ) → g.step ≡ w → is_some w ≡ true → (f : Option Affine) → Means m f x a → is_some f ≡ true → (l : Option Affine) → Means m l x b → is_some l ≡ true → HoldsAll q (counted_rows w f l) → Ranged q
        go None r i f mf fi l ml li h = clashes false i refl
        go (Some st) r i None mf fi l ml li h = clashes false fi refl
        go (Some st) r i (Some f) mf fi None ml li h = clashes false li refl
        go (Some st) r i (Some f) mf fi (Some l) ml li h =
            let h2 = (append_all q (first_rows st (Some f)) (last_rows st (Some l))).1 h in
            let first = within_back st f index_form q h2.0.0 in
            let last = within_back st index_form l q h2.1.0 in
            let after = subst (λ z. NotBeyond (goes_up st) a z) (index_value q) (subst (λ z. NotBeyond (goes_up st) z (form_value q index_form)) (mf q sq) first) in
            let before = subst (λ z. NotBeyond (goes_up st) z b) (index_value q) (subst (λ z. NotBeyond (goes_up st) (form_value q index_form) z) (ml q sq) last) in
            let k = place_back st f q (nz st r) (mf q sq) after h2.0.1 in
            record { step = st; is_step = r; count = k.0; range = record { after_first = after; before_last = before; place = k.1 } }

    no_var : (v : Var) → ((n : ℕ) → v ≡ Aux n → ⊥) → IsOneOf v loop_vars → ⊥
    no_var v f i = ⊎_elim (λ e. f 0 e) (λ r. ⊎_elim (λ e. f 1 e) (λ k. k) r) i

    pub piece_turned : (p : Point) → ((st : ℤ) → g.step ≡ Some st → st ≡ pos 0 → ⊥) → AtStart m x p → (loop_piece g s).exact ≡ true → (loop_piece g s).system.weak ≡ false → HoldsAll p (loop_piece g s).system.rows → Turned p
    piece_turned p nz st = go ns refl
      where
        cell_no_aux : (c n : ℕ) → Cell c ≡ Aux n → ⊥
        cell_no_aux c n q = cc

        phi_no_aux : (c n : ℕ) → Phi c ≡ Aux n → ⊥
        phi_no_aux c n q = cc

        go : (cs : List ℕ) → ns ≡ cs → (through_loop cs g s).exact ≡ true → (through_loop cs g s).system.weak ≡ false → HoldsAll p (through_loop cs g s).system.rows → Turned p
        go (c ∷ cs) e x1 w h = clashes false x1 refl
        go [] e x1 w h =
            let inner = push_rows (at_index g.index s) (range_rows g) in
            let x2 = and_parts (project inner loop_vars).exact (is_counted g) x1 in
            let back = project_extends inner loop_vars x2.0 p h in
            let q = back.0 in
            let off = back.1 in
            let strong = project_weak inner loop_vars w in
            let parts = push_rows_back (at_index g.index s) (range_rows g) q strong back.2 in
            let here = rename_all_back (naming (Cell g.index) (Aux 0) ∷ []) s q (push_weak (at_index g.index s) (range_rows g) strong) parts.0 in
            let sq : AtStart m x q = λ c t. off (Cell c) (no_var (Cell c) (cell_no_aux c)) ∙ st c t in
            let r = ranged q nz sq x2.1 parts.1 in
            record {
              step = r.step;
              is_step = r.is_step;
              number = q (Aux 0);
              count = r.count;
              range = r.range;
              begins = λ y it. record {
                point = in_it (q (Aux 0)) y q;
                starts = starts_turn (q (Aux 0)) r.count y q q it sq (λ c. refl);
                same = λ k. off (Phi k) (no_var (Phi k) (phi_no_aux k));
                holds = rows_agree s.rows (λ v. q (renamed_by (naming (Cell g.index) (Aux 0) ∷ []) v)) (in_it (q (Aux 0)) y q) (flip (λ v. in_rows v s.rows) (in_it (q (Aux 0)) y q) (λ v. q (renamed_by (naming (Cell g.index) (Aux 0) ∷ []) v)) (plain e (q (Aux 0)) y q refl)) here;
              };
            }
