-- A system that describes subscripts where the callee begins is one that describes those of the caller at the CALL; where it is exact, a point at the
-- CALL has one there.
use Rattle.std.proofs.Common.{◌≡◌, ℕ, zero, suc, ◌+◌, ◌-◌, ◌<◌, ◌≤◌, List, [], ◌∷◌, ◌++◌, ◌||◌, ◌&&◌, Bool, true, false, refl, sym, ap, ◌∙◌, subst, arith, ℤ, nat_lt, Option, Some, None, ◌⊎◌, inl, inr, ⊎_elim, true≢false}
use Rattle.std.specs.Prelude.{if◌then◌else◌, nat_le}
use Rattle.std.proofs.lemmas.Bool.{or_parts, and_parts}
use Rattle.std.proofs.lemmas.Bool.Decides.{nat_tests}
use Rattle.affine_systems.specs.declared.row.Var.{Var}
use Rattle.affine_systems.specs.declared.row.Var.TheVariants.{Cell, Exit, Phi, Aux}
use Rattle.affine_systems.specs.declared.row.Row.{Row}
use Rattle.affine_systems.specs.declared.row.System.{System}
use Rattle.affine_systems.specs.Terms.{var_eq}
use Rattle.affine_systems.specs.Points.{Point, value, HoldsAll, only}
use Rattle.affine_systems.specs.Tidy.{tidy}
use Rattle.affine_systems.proofs.TermLaws.{var_eq-true, true-var_eq}
use Rattle.affine_systems.proofs.TidyLaws.{tidy_holds, tidy_back}
use Rattle.affine_systems.proofs.LackLaws.{RowsNil}
use Rattle.hull_projection.specs.declared.projection.Shadow.{Shadow}
use Rattle.hull_projection.specs.Laws.{IsOneOf, DiffersAt}
use Rattle.hull_projection.specs.Project.{shadow, project}
use Rattle.hull_projection.specs.Variables.{row_vars}
use Rattle.hull_projection.proofs.ClosureLaws.{rows_elsewhere}
use Rattle.hull_projection.proofs.ProjectLaws.{project_keeps, project_extends}
use Rattle.call_translation.specs.transformer_algebra.declared.naming.Naming.{Naming}
use Rattle.call_translation.specs.transformer_algebra.Renaming.{renamed_by, rename_all}
use Rattle.call_translation.proofs.TransformerAlgebra.KeepLaws.{rename_all_holds, push_rows_holds}
use Rattle.affine_forms.specs.declared.affine.Affine.{Affine}
use Rattle.affine_forms.specs.Claims.{form_value}
use Rattle.affine_forms.specs.Conditions.{no_rows}
use Rattle.call_translation.specs.transformer_algebra.Claims.{Scene, AtStart, Means}
use Rattle.region_sets.specs.Naming.{in_rows}
use Rattle.region_sets.specs.Claims.{HasSubscripts, Describes}
use Rattle.region_sets.proofs.DescribedLaws.{stored}
use Rattle.region_sets.proofs.NameLaws.{rows_agree}
use Rattle.region_sets.proofs.BackLaws.{tidy_weak, push_weak, project_weak, rename_all_back, push_rows_back}
use Rattle.call_equations.specs.declared.link.Link.{Link}
use Rattle.call_equations.specs.Sides.{SidesTree}
use Rattle.call_equations.specs.Cells.{form_of, cell_name}
use Rattle.region_translation.specs.Pieces.{standing, names_of, is_own, are_own, linked, aux_row, cell_row, if_row, with_var, with_forms, if_formless, one_formless, formless, subscripts_from, subscripts, without_all, linked_piece, piece_in_caller}
use Rattle.region_translation.specs.Claims.{FormsMean, Matches, inner_of, HasInner}
use Rattle.region_translation.proofs.PutLaws.{aux_nil, row_says, row_means}
use Rattle.region_translation.proofs.NamingLaws.{is_row_var, off_rows, name_is, one_own, behind, back_again}
use Rattle.fx_lists.proofs.Booleans.{clash as clashes}
use Rattle.fx_lists.proofs.Options.{none_some}
use Rattle.region_sets.specs.Putting.{loses_row, put_row}
use Rattle.region_sets.proofs.PutLaws.{put_holds, put_back, all_gone}

-- ---- lists of variables

pub one_left : (v : Var) (vs ws : List Var) → IsOneOf v vs → IsOneOf v (vs ++ ws)
one_left v [] ws h = absurd h
one_left v (w ∷ vs) ws (inl e) = inl e
one_left v (w ∷ vs) ws (inr i) = inr (one_left v vs ws i)

pub one_right : (v : Var) (vs ws : List Var) → IsOneOf v ws → IsOneOf v (vs ++ ws)
one_right v [] ws h = h
one_right v (w ∷ vs) ws h = inr (one_right v vs ws h)

abbrev among : ℕ → List Var → Bool
among n [] = false
among n (v ∷ vs) = var_eq (Aux n) v || among n vs

not_among : (n : ℕ) (vs : List Var) → (IsOneOf (Aux n) vs → ⊥) → among n vs ≡ false
not_among n [] f = refl
not_among n (v ∷ vs) f = go (var_eq (Aux n) v) refl (not_among n vs (λ i. f (inr i)))
  where
    go : (b : Bool) → var_eq (Aux n) v ≡ b → among n vs ≡ false → (b || among n vs) ≡ false
    go true e ih = absurd (f (inl (var_eq-true (Aux n) v e)))
    go false e ih = ih

among_not : (n : ℕ) (vs : List Var) → among n vs ≡ false → IsOneOf (Aux n) vs → ⊥
among_not n [] e i = i
among_not n (v ∷ vs) e (inl k) = clashes (var_eq (Aux n) v) (true-var_eq (Aux n) v k) (or_parts (var_eq (Aux n) v) (among n vs) e).0
among_not n (v ∷ vs) e (inr i) = among_not n vs (or_parts (var_eq (Aux n) v) (among n vs) e).1 i

-- ---- the names of subscripts

pub subscript_in : (k r n : ℕ) → k ≤ n → n < k + r → IsOneOf (Aux n) (subscripts_from k r)
subscript_in k zero n h l = absurd (omega (arith, h, l))
subscript_in k (suc r) n h l = go (nat_lt k n) refl (λ a b. subscript_in (suc k) r n a b)
  where
    go : (b : Bool) → nat_lt k n ≡ b → (suc k ≤ n → n < suc k + r → IsOneOf (Aux n) (subscripts_from (suc k) r)) → (Aux n ≡ Aux k) ⊎ IsOneOf (Aux n) (subscripts_from (suc k) r)
    go true e ih = let g : k < n = grind (arith, nat_tests) in inr (ih (omega (arith, g)) (omega (arith, l)))
    go false e ih = let g : n ≤ k = grind (arith, nat_tests) in let q : n ≡ k = omega (arith, h, g) in inl (ap (λ j. Aux j) q)

no_cell : (k r n : ℕ) → IsOneOf (Cell n) (subscripts_from k r) → ⊥
no_cell k zero n h = h
no_cell k (suc r) n (inl e) = cc
no_cell k (suc r) n (inr i) = no_cell (suc k) r n i

no_phi : (k r n : ℕ) → IsOneOf (Phi n) (subscripts_from k r) → ⊥
no_phi k zero n h = h
no_phi k (suc r) n (inl e) = cc
no_phi k (suc r) n (inr i) = no_phi (suc k) r n i

abbrev is_subscript : Bool → ℕ → ℕ → Bool
is_subscript moved r n = moved && (nat_lt 0 n && nat_le n r)

is_one_subscript : (moved : Bool) (r n : ℕ) → is_subscript moved r n ≡ true → IsOneOf (Aux n) (if moved then subscripts_from 1 r else [])
is_one_subscript false r n e = clashes false e refl
is_one_subscript true r n e =
    let k = and_parts (nat_lt 0 n) (nat_le n r) e in
    let a : 0 < n = positive k.0 in
    let b : n ≤ r = at_most k.1 in
    subscript_in 1 r n (omega arith) (omega arith)
  where
    positive : nat_lt 0 n ≡ true → 0 < n
    positive h = grind (arith, nat_tests)

    at_most : nat_le n r ≡ true → n ≤ r
    at_most h = grind (arith, nat_tests)

-- a cell's name, a subscript's, or none of both
abbrev value_at : Bool → ℕ → ℕ → ℤ → ℤ → ℤ → ℤ
value_at moved r n c s o = if nat_lt r n then c else if is_subscript moved r n then s else o

sub_value : (r k : ℕ) (c s o : ℤ) → (nat_lt 0 k && nat_le k r) ≡ true → value_at true r k c s o ≡ s
sub_value r k c s o e = go (nat_lt r k) refl
  where
    not_behind : nat_le k r ≡ true → nat_lt r k ≡ true → ⊥
    not_behind a b = let g : k ≤ r = grind (arith, nat_tests) in let h : r < k = grind (arith, nat_tests) in omega (arith, g, h)

    go : (b : Bool) → nat_lt r k ≡ b → (if b then c else if true && (nat_lt 0 k && nat_le k r) then s else o) ≡ s
    go true q = absurd (not_behind (and_parts (nat_lt 0 k) (nat_le k r) e).1 q)
    go false q = ap (λ (b : Bool). if b then s else o) e

module _ (c : SidesTree) (l : Link) (m e : Scene) (x y : ℕ → ℤ) (forms : FormsMean c m e x y) where
  -- ---- points

  abbrev number_of : ℕ → ℤ
  number_of n = y (e.unit ((n - l.rank) - 1))

  -- where the callee begins, with these subscripts
  abbrev pub entered : (ℕ → ℤ) → Point → Var → ℤ
  entered phi p (Cell n) = y (e.unit n)
  entered phi p (Exit n) = p (Exit n)
  entered phi p (Phi n) = phi n
  entered phi p (Aux n) = p (Aux n)

  -- with the callee's numbers at the names of its cells and of its subscripts
  abbrev between : (ℕ → ℤ) → Point → Var → ℤ
  between phi p (Cell n) = p (Cell n)
  between phi p (Exit n) = p (Exit n)
  between phi p (Phi n) = p (Phi n)
  between phi p (Aux n) = value_at l.moved l.rank n (number_of n) (phi n) (p (Aux n))

  at_cell : (phi : ℕ → ℤ) (p : Point) (n : ℕ) → between phi p (cell_name l.rank n) ≡ y (e.unit n)
  at_cell phi p n =
      ap (λ (b : Bool). if b then number_of (suc l.rank + n) else if is_subscript l.moved l.rank (suc l.rank + n) then phi (suc l.rank + n) else p (Aux (suc l.rank + n))) (behind l.rank n)
      ∙ ap (λ k. y (e.unit k)) (back_again l.rank n)

  inner_is : (phi : ℕ → ℤ) (p : Point) → (l.moved ≡ false → (k : ℕ) → p (Phi k) ≡ phi k) → HasInner l phi (between phi p)
  inner_is phi p flat k own = go l.moved refl own
    where
      go : (b : Bool) → l.moved ≡ b → is_own b l.rank (Phi k) ≡ true → between phi p (if b then Aux k else Phi k) ≡ phi k
      go true q o = subst (λ (b : Bool). value_at b l.rank k (number_of k) (phi k) (p (Aux k)) ≡ phi k) (sym q) (sub_value l.rank k (number_of k) (phi k) (p (Aux k)) o)
      go false q o = flat q k

  -- on the variables that are its own, a system of the callee reads the names
  reads : (phi : ℕ → ℤ) (p : Point) → (l.moved ≡ false → (k : ℕ) → p (Phi k) ≡ phi k) → (v : Var) → is_own l.moved l.rank v ≡ true → entered phi p v ≡ between phi p (standing l.moved l.rank v)
  reads phi p flat (Cell n) o = sym (at_cell phi p n)
  reads phi p flat (Exit n) o = clashes false o refl
  reads phi p flat (Phi n) o = sym (inner_is phi p flat n o)
  reads phi p flat (Aux n) o = clashes false o refl

  matches : (phi : ℕ → ℤ) (p : Point) → AtStart m x p → Matches m e l.rank x y (between phi p)
  matches phi p st = record { outside = λ k t. st k t; inside = λ n. at_cell phi p n }

  linked_holds : (s : System) → are_own l.moved l.rank (row_vars s.rows) ≡ true → (phi : ℕ → ℤ) (p : Point) → (l.moved ≡ false → (k : ℕ) → p (Phi k) ≡ phi k) → HoldsAll (entered phi p) s.rows → HoldsAll (between phi p) l.rows → HoldsAll (between phi p) (linked l s).rows
  linked_holds s own phi p flat h k =
      let vs = row_vars s.rows in
      let ns = names_of l.moved l.rank vs in
      push_rows_holds (rename_all ns s) l.rows (between phi p)
      (rename_all_holds ns s (between phi p)
      (rows_agree s.rows (entered phi p) (λ v. between phi p (renamed_by ns v))
      (λ v i. let o = is_row_var v s.rows i in reads phi p flat v (one_own l.moved l.rank vs v own o) ∙ ap (between phi p) (sym (name_is l.moved l.rank vs v o)))
      h))
      k

  -- ---- forms put in

  -- the rows that say what names of cells are hold
  abbrev Formed : Point → Type 0
  Formed q = (n : ℕ) (w : Row) → nat_lt l.rank n ≡ true → cell_row c l.rank n ≡ Some w → value q w.terms ≡ w.bound

  formed : (q : Point) → AtStart m x q → ((n : ℕ) → nat_lt l.rank n ≡ true → q (Aux n) ≡ number_of n) → Formed q
  formed q st at n w b k = go (form_of c ((n - l.rank) - 1)) refl k
    where
      go : (o : Option Affine) → form_of c ((n - l.rank) - 1) ≡ o → aux_row n o ≡ Some w → value q w.terms ≡ w.bound
      go None f i = none_some w i
      go (Some f) g i =
          let v : form_value q f ≡ number_of n = subst (λ (o : Option Affine). Means m o x (number_of n)) g (forms ((n - l.rank) - 1)) q st in
          row_means n f w i q (at n b ∙ sym v)

  record Step (v : Var) (a b : System) : Type 0 where
    forward : (q : Point) → Formed q → HoldsAll q a.rows → HoldsAll q b.rows
    backward : b.weak ≡ false → (q : Point) → Formed q → HoldsAll q b.rows → HoldsAll q a.rows
    strong : b.weak ≡ false → a.weak ≡ false
    off : (n : ℕ) → RowsNil (only (Aux n)) a.rows → RowsNil (only (Aux n)) b.rows
    gone : (n : ℕ) (w : Row) → v ≡ Aux n → nat_lt l.rank n ≡ true → cell_row c l.rank n ≡ Some w → RowsNil (only (Aux n)) b.rows

  unchanged : (v : Var) (a : System) → ((n : ℕ) (w : Row) → v ≡ Aux n → nat_lt l.rank n ≡ true → cell_row c l.rank n ≡ Some w → ⊥) → Step v a a
  unchanged v a f = record { forward = λ q k h. h; backward = λ s q k h. h; strong = λ s. s; off = λ n h. h; gone = λ n w q b k. absurd (f n w q b k) }

  aux_is : (j k : ℕ) → Aux j ≡ Aux k → j ≡ k
  aux_is j k q = cc

  step : (v : Var) (a : System) → Step v a (with_var c l.rank v a)
  step (Cell k) a = unchanged (Cell k) a (λ n w q b i. cc)
  step (Exit k) a = unchanged (Exit k) a (λ n w q b i. cc)
  step (Phi k) a = unchanged (Phi k) a (λ n w q b i. cc)
  step (Aux k) a = go (nat_lt l.rank k) refl (cell_row c l.rank k) refl
    where
      go : (b : Bool) → nat_lt l.rank k ≡ b → (o : Option Row) → cell_row c l.rank k ≡ o → Step (Aux k) a (if b then if_row k o a else a)
      go false b o f = unchanged (Aux k) a (λ n w q t i. clashes (nat_lt l.rank n) t (subst (λ j. nat_lt l.rank j ≡ false) (aux_is k n q) b))
      go true b None f = unchanged (Aux k) a (λ n w q t i. none_some w (sym f ∙ subst (λ j. cell_row c l.rank j ≡ Some w) (sym (aux_is k n q)) i))
      go true b (Some w) f =
          let s = row_says k (form_of c ((k - l.rank) - 1)) w f in
          record {
            forward = λ q g h. put_holds q (Aux k) w a.rows (g k w b f) h;
            backward = λ i q g h. put_back q (Aux k) w a.rows (g k w b f) (or_parts a.weak (loses_row (Aux k) w a.rows) i).1 h;
            strong = λ i. (or_parts a.weak (loses_row (Aux k) w a.rows) i).0;
            off = λ n h. aux_nil k n w a.rows s h;
            gone = λ n z q t i. subst (λ j. RowsNil (only (Aux j)) (put_row (Aux k) w a).rows) (aux_is k n q) (all_gone (Aux k) w a.rows s.unit);
          }

  -- what putting in the forms of the names among some variables does to a system
  record Result (vs : List Var) (a b : System) : Type 0 where
    forward : (q : Point) → Formed q → HoldsAll q a.rows → HoldsAll q b.rows
    backward : b.weak ≡ false → (q : Point) → Formed q → HoldsAll q b.rows → HoldsAll q a.rows
    strong : b.weak ≡ false → a.weak ≡ false
    off : (n : ℕ) → RowsNil (only (Aux n)) a.rows → RowsNil (only (Aux n)) b.rows
    gone : (n : ℕ) (w : Row) → IsOneOf (Aux n) vs → nat_lt l.rank n ≡ true → cell_row c l.rank n ≡ Some w → RowsNil (only (Aux n)) b.rows

  result : (vs : List Var) (a : System) → Result vs a (with_forms c l.rank vs a)
  result [] a = record { forward = λ q k h. h; backward = λ s q k h. h; strong = λ s. s; off = λ n h. h; gone = λ n w i b k. absurd i }
  result (v ∷ vs) a =
      let s = step v a in
      let r = result vs (with_var c l.rank v a) in
      record {
        forward = λ q k h. r.forward q k (s.forward q k h);
        backward = λ w q k h. s.backward (r.strong w) q k (r.backward w q k h);
        strong = λ w. s.strong (r.strong w);
        off = λ n h. r.off n (s.off n h);
        gone = λ n w i b k. ⊎_elim (λ q. r.off n (s.gone n w (sym q) b k)) (λ j. r.gone n w j b k) i;
      }

  formless_has : (n : ℕ) (vs : List Var) → IsOneOf (Aux n) vs → nat_lt l.rank n ≡ true → cell_row c l.rank n ≡ None → IsOneOf (Aux n) (formless c l.rank vs)
  formless_has n [] i b k = i
  formless_has n (v ∷ vs) i b k = ⊎_elim (λ q. one_left (Aux n) (one_formless c l.rank v) (formless c l.rank vs) (mine v q)) (λ j. one_right (Aux n) (one_formless c l.rank v) (formless c l.rank vs) (formless_has n vs j b k)) i
    where
      here : IsOneOf (Aux n) (one_formless c l.rank (Aux n))
      here = subst (λ (g : Bool). IsOneOf (Aux n) (if g then if_formless n (cell_row c l.rank n) else [])) (sym b) (subst (λ (o : Option Row). IsOneOf (Aux n) (if_formless n o)) (sym k) (inl refl))

      mine : (w : Var) → Aux n ≡ w → IsOneOf (Aux n) (one_formless c l.rank w)
      mine w q = subst (λ (z : Var). IsOneOf (Aux n) (one_formless c l.rank z)) q here

  -- a name that has a form, or is not there, is in no row
  nil_name : (a : System) (n : ℕ) → nat_lt l.rank n ≡ true → (IsOneOf (Aux n) (formless c l.rank (row_vars a.rows)) → ⊥) → RowsNil (only (Aux n)) (with_forms c l.rank (row_vars a.rows) a).rows
  nil_name a n b f = go (in_rows (Aux n) a.rows) refl (cell_row c l.rank n) refl
    where
      r : Result (row_vars a.rows) a (with_forms c l.rank (row_vars a.rows) a)
      r = result (row_vars a.rows) a

      go : (g : Bool) → in_rows (Aux n) a.rows ≡ g → (o : Option Row) → cell_row c l.rank n ≡ o → RowsNil (only (Aux n)) (with_forms c l.rank (row_vars a.rows) a).rows
      go false q o k = r.off n (off_rows (Aux n) a.rows q)
      go true q (Some w) k = r.gone n w (is_row_var (Aux n) a.rows q) b k
      go true q None k = absurd (f (formless_has n (row_vars a.rows) (is_row_var (Aux n) a.rows q) b k))

  -- ---- to the CALL

  -- the callee's numbers at the names that have no form, and at the subscripts
  abbrev mid : List Var → (ℕ → ℤ) → Point → Var → ℤ
  mid gs phi p (Cell n) = p (Cell n)
  mid gs phi p (Exit n) = p (Exit n)
  mid gs phi p (Phi n) = p (Phi n)
  mid gs phi p (Aux n) = value_at l.moved l.rank n (if among n gs then number_of n else p (Aux n)) (phi n) (p (Aux n))

  -- at the subscripts alone
  abbrev half : (ℕ → ℤ) → Point → Var → ℤ
  half phi p (Cell n) = p (Cell n)
  half phi p (Exit n) = p (Exit n)
  half phi p (Phi n) = p (Phi n)
  half phi p (Aux n) = value_at l.moved l.rank n (p (Aux n)) (phi n) (p (Aux n))

  abbrev formless_in : System → List Var
  formless_in a = formless c l.rank (row_vars a.rows)

  abbrev else_value : (ℕ → ℤ) → Point → ℕ → ℤ
  else_value phi p n = if is_subscript l.moved l.rank n then phi n else p (Aux n)

  to_mid : (a : System) (phi : ℕ → ℤ) (p : Point) (v : Var) → (between phi p v ≡ mid (formless c l.rank (row_vars a.rows)) phi p v) ⊎ RowsNil (only v) (with_forms c l.rank (row_vars a.rows) a).rows
  to_mid a phi p (Cell n) = inl refl
  to_mid a phi p (Exit n) = inl refl
  to_mid a phi p (Phi n) = inl refl
  to_mid a phi p (Aux n) = go (nat_lt l.rank n) refl (among n (formless_in a)) refl
    where
      go : (b : Bool) → nat_lt l.rank n ≡ b → (g : Bool) → among n (formless_in a) ≡ g → ((if b then number_of n else else_value phi p n) ≡ (if b then (if g then number_of n else p (Aux n)) else else_value phi p n)) ⊎ RowsNil (only (Aux n)) (with_forms c l.rank (row_vars a.rows) a).rows
      go false b g k = inl refl
      go true b true k = inl refl
      go true b false k = inr (nil_name a n b (among_not n (formless_in a) k))

  mid_half : (gs : List Var) (phi : ℕ → ℤ) (p : Point) → DiffersAt gs (mid gs phi p) (half phi p)
  mid_half gs phi p (Cell n) f = refl
  mid_half gs phi p (Exit n) f = refl
  mid_half gs phi p (Phi n) f = refl
  mid_half gs phi p (Aux n) f = sym (ap (λ (g : Bool). value_at l.moved l.rank n (if g then number_of n else p (Aux n)) (phi n) (p (Aux n))) (not_among n gs f))

  half_off : (phi : ℕ → ℤ) (p : Point) → DiffersAt (subscripts l) (half phi p) p
  half_off phi p (Cell n) f = refl
  half_off phi p (Exit n) f = refl
  half_off phi p (Phi n) f = refl
  half_off phi p (Aux n) f = go (nat_lt l.rank n) (is_subscript l.moved l.rank n) refl
    where
      go : (b g : Bool) → is_subscript l.moved l.rank n ≡ g → p (Aux n) ≡ (if b then p (Aux n) else if g then phi n else p (Aux n))
      go true g k = refl
      go false true k = absurd (f (is_one_subscript l.moved l.rank n k))
      go false false k = refl

  linked_describes : (a : System) (phi : ℕ → ℤ) (p : Point) → AtStart m x p → HoldsAll (between phi p) a.rows → HoldsAll p (linked_piece c l a).system.rows
  linked_describes a phi p st h =
      let vs = row_vars a.rows in
      let b = with_forms c l.rank vs a in
      let f = formed (between phi p) (λ k t. st k t) (λ n q. ap (λ (g : Bool). if g then number_of n else if is_subscript l.moved l.rank n then phi n else p (Aux n)) q) in
      let there = (result vs a).forward (between phi p) f h in
      let moved = rows_elsewhere (between phi p) (mid (formless c l.rank vs) phi p) b.rows (to_mid a phi p) there in
      go (formless c l.rank vs) (tidy_holds (mid (formless c l.rank vs) phi p) b moved)
    where
      go : (gs : List Var) → HoldsAll (mid gs phi p) (tidy (with_forms c l.rank (row_vars a.rows) a)).rows → HoldsAll p (without_all gs (subscripts l) (tidy (with_forms c l.rank (row_vars a.rows) a))).system.rows
      go [] k = project_keeps (tidy (with_forms c l.rank (row_vars a.rows) a)) (subscripts l) (half phi p) p (half_off phi p) k
      go (g ∷ gs) k =
          let t = tidy (with_forms c l.rank (row_vars a.rows) a) in
          project_keeps (project t (g ∷ gs)).system (subscripts l) (half phi p) p (half_off phi p)
          (project_keeps t (g ∷ gs) (mid (g ∷ gs) phi p) (half phi p) (mid_half (g ∷ gs) phi p) k)

  pub piece_describes :
      (s : System) (phi psi : ℕ → ℤ) → (l.moved ≡ false → (k : ℕ) → psi k ≡ phi k) →
      ((q : Point) → Matches m e l.rank x y q → HasSubscripts psi q → HasInner l phi q → HoldsAll q l.rows) →
      Describes s (stored e y) phi → (p : Point) → AtStart m x p → HasSubscripts psi p → HoldsAll p (piece_in_caller c l s).system.rows
  piece_describes s phi psi flat rows d p st ph = go (are_own l.moved l.rank (row_vars s.rows)) refl
    where
      same : l.moved ≡ false → (k : ℕ) → p (Phi k) ≡ phi k
      same q k = ph k ∙ flat q k

      go : (b : Bool) → are_own l.moved l.rank (row_vars s.rows) ≡ b → HoldsAll p (if b then linked_piece c l (linked l s) else shadow no_rows false).system.rows
      go false o = tt
      go true o =
          linked_describes (linked l s) phi p st
          (linked_holds s o phi p same (d (entered phi p) (λ k. refl) (λ k. refl)) (rows (between phi p) (matches phi p st) (λ k. ph k) (inner_is phi p same)))

  -- ---- from the CALL

  -- a point of both for a point at the CALL
  pub record Source (s : System) (p : Point) : Type 0 where
    pub point : Point
    pub matches : Matches m e l.rank x y point
    pub same : (k : ℕ) → point (Phi k) ≡ p (Phi k)
    pub rows : HoldsAll point l.rows
    pub holds : HoldsAll (entered (inner_of l point) point) s.rows

  abbrev numbered : Point → Var → ℤ
  numbered q (Cell n) = q (Cell n)
  numbered q (Exit n) = q (Exit n)
  numbered q (Phi n) = q (Phi n)
  numbered q (Aux n) = if nat_lt l.rank n then number_of n else q (Aux n)

  numbered_cell : (q : Point) (n : ℕ) → numbered q (cell_name l.rank n) ≡ y (e.unit n)
  numbered_cell q n = ap (λ (b : Bool). if b then number_of (suc l.rank + n) else q (Aux (suc l.rank + n))) (behind l.rank n) ∙ ap (λ k. y (e.unit k)) (back_again l.rank n)

  not_cell : (n : ℕ) → IsOneOf (Cell n) (subscripts l) → ⊥
  not_cell n = go l.moved
    where
      go : (b : Bool) → IsOneOf (Cell n) (if b then subscripts_from 1 l.rank else []) → ⊥
      go true i = no_cell 1 l.rank n i
      go false i = i

  not_phi : (n : ℕ) → IsOneOf (Phi n) (subscripts l) → ⊥
  not_phi n = go l.moved
    where
      go : (b : Bool) → IsOneOf (Phi n) (if b then subscripts_from 1 l.rank else []) → ⊥
      go true i = no_phi 1 l.rank n i
      go false i = i

  own_reads : (q : Point) (v : Var) → is_own l.moved l.rank v ≡ true → numbered q (standing l.moved l.rank v) ≡ entered (inner_of l (numbered q)) (numbered q) v
  own_reads q (Cell n) o = numbered_cell q n
  own_reads q (Exit n) o = clashes false o refl
  own_reads q (Phi n) o = refl
  own_reads q (Aux n) o = clashes false o refl

  abbrev formed_of : System → System
  formed_of s = with_forms c l.rank (row_vars (linked l s).rows) (linked l s)

  abbrev names_in : System → List Naming
  names_in s = names_of l.moved l.rank (row_vars s.rows)

  linked_source : (s : System) (p : Point) → are_own l.moved l.rank (row_vars s.rows) ≡ true → AtStart m x p → (linked_piece c l (linked l s)).exact ≡ true → (linked_piece c l (linked l s)).system.weak ≡ false → HoldsAll p (linked_piece c l (linked l s)).system.rows → Source s p
  linked_source s p own st = go (formless c l.rank (row_vars (linked l s).rows)) refl
    where
      turn : (gs : List Var) → formless c l.rank (row_vars (linked l s).rows) ≡ gs → gs ≡ [] → (q : Point) (v : Var) → (q v ≡ numbered q v) ⊎ RowsNil (only v) (formed_of s).rows
      turn gs f z q (Cell n) = inl refl
      turn gs f z q (Exit n) = inl refl
      turn gs f z q (Phi n) = inl refl
      turn gs f z q (Aux n) = one (nat_lt l.rank n) refl
        where
          one : (g : Bool) → nat_lt l.rank n ≡ g → (q (Aux n) ≡ (if g then number_of n else q (Aux n))) ⊎ RowsNil (only (Aux n)) (formed_of s).rows
          one true k = inr (nil_name (linked l s) n k (λ i. subst (λ (vs : List Var). IsOneOf (Aux n) vs) (f ∙ z) i))
          one false k = inl refl

      go : (gs : List Var) → formless c l.rank (row_vars (linked l s).rows) ≡ gs → (without_all gs (subscripts l) (tidy (formed_of s))).exact ≡ true → (without_all gs (subscripts l) (tidy (formed_of s))).system.weak ≡ false → HoldsAll p (without_all gs (subscripts l) (tidy (formed_of s))).system.rows → Source s p
      go (g ∷ gs) f ex w h = absurd (true≢false (sym ex))
      go [] f ex w h =
          let k = project_extends (tidy (formed_of s)) (subscripts l) ex p h in
          let q = k.0 in
          let z = numbered q in
          let strong = tidy_weak (formed_of s) (project_weak (tidy (formed_of s)) (subscripts l) w) in
          let here = tidy_back q (formed_of s) (project_weak (tidy (formed_of s)) (subscripts l) w) k.2 in
          let moved = rows_elsewhere q z (formed_of s).rows (turn [] f refl q) here in
          let starts : AtStart m x z = λ d t. k.1 (Cell d) (not_cell d) ∙ st d t in
          let r = result (row_vars (linked l s).rows) (linked l s) in
          let back = r.backward strong z (formed z starts (λ n t. ap (λ (g : Bool). if g then number_of n else q (Aux n)) t)) moved in
          let parts = push_rows_back (rename_all (names_in s) s) l.rows z (r.strong strong) back in
          let named = rename_all_back (names_in s) s z (push_weak (rename_all (names_in s) s) l.rows (r.strong strong)) parts.0 in
          record {
            point = z;
            matches = record { outside = starts; inside = λ n. numbered_cell q n };
            same = λ n. k.1 (Phi n) (not_phi n);
            rows = parts.1;
            holds = rows_agree s.rows (λ v. z (renamed_by (names_in s) v)) (entered (inner_of l z) z)
                (λ v i. let o = is_row_var v s.rows i in ap z (name_is l.moved l.rank (row_vars s.rows) v o) ∙ own_reads q v (one_own l.moved l.rank (row_vars s.rows) v own o))
                named;
          }

  abbrev by_own : System → Bool → Shadow
  by_own s b = if b then linked_piece c l (linked l s) else shadow no_rows false

  pub piece_source : (s : System) (p : Point) → AtStart m x p → (piece_in_caller c l s).exact ≡ true → (piece_in_caller c l s).system.weak ≡ false → HoldsAll p (piece_in_caller c l s).system.rows → Source s p
  piece_source s p st = go (are_own l.moved l.rank (row_vars s.rows)) refl
    where
      go : (b : Bool) → are_own l.moved l.rank (row_vars s.rows) ≡ b → (by_own s b).exact ≡ true → (by_own s b).system.weak ≡ false → HoldsAll p (by_own s b).system.rows → Source s p
      go false o ex w h = absurd (true≢false (sym ex))
      go true o ex w h = linked_source s p o st ex w h
