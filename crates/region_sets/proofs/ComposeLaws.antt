-- A system that describes subscripts after a statement is one before it; where it is exact, a point before has one after.
use Rattle.std.proofs.Common.{◌≡◌, ℕ, List, [], ◌∷◌, ◌||◌, ◌&&◌, Bool, true, false, refl, sym, ap, ◌∙◌, subst, ℤ, nat_eq, Option, Some, None, ◌⊎◌, inl, inr, ⊎_elim, true≢false}
use Rattle.std.specs.Prelude.{if◌then◌else◌, not}
use Rattle.std.proofs.lemmas.Bool.{or_parts, or_left, or_right, and_parts, not-true}
use Rattle.affine_systems.specs.declared.row.Var.{Var}
use Rattle.affine_systems.specs.declared.row.Var.TheVariants.{Cell, Exit, Phi, Aux}
use Rattle.affine_systems.specs.declared.row.Term.{Term}
use Rattle.affine_systems.specs.declared.row.Row.{Row}
use Rattle.affine_systems.specs.declared.row.System.{System}
use Rattle.affine_systems.specs.Terms.{var_eq}
use Rattle.affine_systems.specs.Points.{Point, value, Holds, HoldsAll, only, factor_of}
use Rattle.affine_systems.specs.Tidy.{is_unit}
use Rattle.affine_systems.specs.Calls.{meet}
use Rattle.affine_systems.proofs.TermLaws.{var_eq-true}
use Rattle.affine_systems.proofs.TidyLaws.{tidy_holds, tidy_back, equally}
use Rattle.affine_systems.proofs.CallLaws.{meet_holds}
use Rattle.affine_systems.proofs.LackLaws.{Nil, RowsNil}
use Rattle.hull_projection.specs.declared.projection.Shadow.{Shadow}
use Rattle.hull_projection.specs.Laws.{IsOneOf}
use Rattle.hull_projection.specs.Project.{shadow}
use Rattle.hull_projection.proofs.ProjectLaws.{project_keeps}
use Rattle.transformers.specs.transformer_algebra.Renaming.{renamed_by, rename_all}
use Rattle.transformers.proofs.TransformerAlgebra.KeepLaws.{rename_all_holds}
use Rattle.transformers.specs.transformer_algebra.declared.transformer.Transformer.{Transformer}
use Rattle.transformers.specs.transformer_algebra.Cells.{has}
use Rattle.transformers.specs.transformer_algebra.Claims.{Scene, AtStart, Does}
use Rattle.transformers.proofs.TransformerAlgebra.CellLaws.{exit_same}
use Rattle.hull_projection.proofs.ClosureLaws.{rows_elsewhere}
use Rattle.region_sets.specs.Naming.{in_terms, in_rows, named_cells, to_exits, exit_vars}
use Rattle.region_sets.specs.Compose.{is_other_exit, has_other_exit, is_exit_row, exit_row, on_row, put_exits, composed_with, put_or_led, through_transformer, compose_piece}
use Rattle.region_sets.specs.Claims.{HasSubscripts, AreNumbers, HasCells, Describes}
use Rattle.region_sets.proofs.DescribedLaws.{at_start, moved, moved_cells}
use Rattle.region_sets.proofs.NameLaws.{Agree, flip, terms_agree, rows_agree, has_named, named_has, exit_of_named, cell_of_other, stays_exit, stays_phi, stays_aux}
use Rattle.region_sets.proofs.NilLaws.{off_terms}
use Rattle.region_sets.proofs.BackLaws.{tidy_weak, rename_all_back}
use Rattle.fx_lists.proofs.Options.{none_some, some_is}
use Rattle.fx_lists.proofs.Numbers.{same_is as nat_same, nat_eq_same}
use Rattle.fx_lists.proofs.Booleans.{clash as clashes}
use Rattle.region_sets.specs.Putting.{put_in_all, loses_row, put_row}
use Rattle.region_sets.proofs.PutLaws.{put_holds, put_back, all_gone, all_nil}

-- ---- one row put in

-- a row that says what the exit of a cell is
pub record Says (c : ℕ) (e : Row) : Type 0 where
  pub equal : e.equal ≡ true
  pub unit : is_unit (factor_of (Exit c) e.terms) ≡ true
  pub other : has_other_exit c e.terms ≡ false

pub says : (c : ℕ) (e : Row) → is_exit_row c e ≡ true → Says c e
says c e h =
    let a = and_parts e.equal (is_unit (factor_of (Exit c) e.terms) && not (has_other_exit c e.terms)) h in
    let b = and_parts (is_unit (factor_of (Exit c) e.terms)) (not (has_other_exit c e.terms)) a.1 in
    record { equal = a.0; unit = b.0; other = not-true (has_other_exit c e.terms) b.1 }

-- ---- which exits rows have

-- the only exit of such a row
pub other_exits : (c d : ℕ) (ts : List Term) → has_other_exit c ts ≡ false → in_terms (Exit d) ts ≡ true → c ≡ d
other_exits c d [] h k = clashes false k refl
other_exits c d (t ∷ ts) h k = go t.var h (var_eq (Exit d) t.var) refl k (λ l n. other_exits c d ts l n)
  where
    rest : (b : Bool) → (b || has_other_exit c ts) ≡ false → in_terms (Exit d) ts ≡ true → (has_other_exit c ts ≡ false → in_terms (Exit d) ts ≡ true → c ≡ d) → c ≡ d
    rest true l n f = clashes true refl l
    rest false l n f = f l n

    mine : (w : Var) → Exit d ≡ w → (is_other_exit c w || has_other_exit c ts) ≡ false → c ≡ d
    mine w e l = two (subst (λ v. (is_other_exit c v || has_other_exit c ts) ≡ false) (sym e) l)
      where
        off : (b : Bool) → (not b || has_other_exit c ts) ≡ false → b ≡ true
        off true x = refl
        off false x = clashes true refl x

        two : (not (var_eq (Exit c) (Exit d)) || has_other_exit c ts) ≡ false → c ≡ d
        two x = exit_same c d (off (var_eq (Exit c) (Exit d)) x)

    go : (w : Var) → (is_other_exit c w || has_other_exit c ts) ≡ false → (b : Bool) → var_eq (Exit d) w ≡ b → (b || in_terms (Exit d) ts) ≡ true → (has_other_exit c ts ≡ false → in_terms (Exit d) ts ≡ true → c ≡ d) → c ≡ d
    go w l true e n f = mine w (var_eq-true (Exit d) w e) l
    go w l false e n f = rest (is_other_exit c w) l n f

pub other_nil : (c d : ℕ) (e : Row) → Says c e → (c ≡ d → ⊥) → Nil (only (Exit d)) e
other_nil c d e s f = go (in_terms (Exit d) e.terms) refl
  where
    go : (b : Bool) → in_terms (Exit d) e.terms ≡ b → Nil (only (Exit d)) e
    go true k = absurd (f (other_exits c d e.terms s.other k))
    go false k = off_terms (Exit d) e.terms k

pub exit_nil : (c d : ℕ) (e : Row) (rs : List Row) → Says c e → RowsNil (only (Exit d)) rs → RowsNil (only (Exit d)) (put_in_all (Exit c) e rs)
exit_nil c d e rs s h = go (nat_eq c d) refl
  where
    go : (b : Bool) → nat_eq c d ≡ b → RowsNil (only (Exit d)) (put_in_all (Exit c) e rs)
    go true k = subst (λ (z : ℕ). RowsNil (only (Exit z)) (put_in_all (Exit c) e rs)) (nat_same c d k) (all_gone (Exit c) e rs s.unit)
    go false k = all_nil (only (Exit d)) (Exit c) e rs (other_nil c d e s (λ q. clashes (nat_eq c d) (subst (λ (z : ℕ). nat_eq c z ≡ true) q (nat_eq_same c)) k)) h

-- ---- points before and after

-- the numbers afterwards at some exits
abbrev pub ends_at : List ℕ → (ℕ → ℤ) → Point → Var → ℤ
ends_at cs y p (Cell c) = p (Cell c)
ends_at cs y p (Exit c) = if has cs c then y c else p (Exit c)
ends_at cs y p (Phi k) = p (Phi k)
ends_at cs y p (Aux n) = p (Aux n)

-- the cells have moved on
abbrev pub after_cells : List ℕ → (ℕ → ℤ) → Point → Var → ℤ
after_cells cs y p (Cell c) = if has cs c then y c else p (Cell c)
after_cells cs y p (Exit c) = p (Exit c)
after_cells cs y p (Phi k) = p (Phi k)
after_cells cs y p (Aux n) = p (Aux n)

pub in_exit_vars : (cs : List ℕ) (c : ℕ) → has cs c ≡ true → IsOneOf (Exit c) (exit_vars cs)
in_exit_vars [] c h = clashes false h refl
in_exit_vars (d ∷ cs) c h = go (nat_eq d c) refl h (λ k. in_exit_vars cs c k)
  where
    go : (b : Bool) → nat_eq d c ≡ b → (b || has cs c) ≡ true → (has cs c ≡ true → IsOneOf (Exit c) (exit_vars cs)) → (Exit c ≡ Exit d) ⊎ IsOneOf (Exit c) (exit_vars cs)
    go true e k r = inl (ap (λ j. Exit j) (sym (nat_same d c e)))
    go false e k r = inr (r k)

-- a point differs from it at the exits alone
pub ends_off : (cs : List ℕ) (y : ℕ → ℤ) (p : Point) (v : Var) → (IsOneOf v (exit_vars cs) → ⊥) → p v ≡ ends_at cs y p v
ends_off cs y p (Cell c) f = refl
ends_off cs y p (Exit c) f = go (has cs c) refl
  where
    go : (b : Bool) → has cs c ≡ b → p (Exit c) ≡ (if b then y c else p (Exit c))
    go true e = absurd (f (in_exit_vars cs c e))
    go false e = refl
ends_off cs y p (Phi c) f = refl
ends_off cs y p (Aux c) f = refl

module _ (m : Scene) (t : Transformer) (x y : ℕ → ℤ) (d : Does m t x y) (s : System) where
  abbrev ns : List ℕ
  ns = named_cells t.cells s

  abbrev yc : ℕ → ℤ
  yc c = y (m.unit c)

  abbrev at_named : Point → Point
  at_named p = ends_at ns yc p

  abbrev at_all : Point → Point
  at_all p = ends_at t.cells yc p

  starts_after : (p q : Point) → AtStart m x p → ((c : ℕ) → q (Cell c) ≡ p (Cell c)) → AtStart m y (after_cells t.cells yc q)
  starts_after p q st e c k = go (has t.cells c) refl
    where
      go : (b : Bool) → has t.cells c ≡ b → (if b then y (m.unit c) else q (Cell c)) ≡ y (m.unit c)
      go true h = refl
      go false h = e c ∙ (st c k ∙ sym (d.kept.cells c k h))

  -- on what the system names, moving the cells is renaming them to exits that have the numbers afterwards
  same_named : (p : Point) (all : List ℕ) → ((c : ℕ) → has ns c ≡ true → has all c ≡ true) → Agree (λ v. in_rows v s.rows) (after_cells t.cells yc (ends_at all yc p)) (λ v. ends_at all yc p (renamed_by (to_exits ns) v))
  same_named p all sub (Cell c) n = go (has t.cells c) refl (has ns c) refl
    where
      go : (b : Bool) → has t.cells c ≡ b → (l : Bool) → has ns c ≡ l → (if b then yc c else p (Cell c)) ≡ ends_at all yc p (renamed_by (to_exits ns) (Cell c))
      go true e true k = sym (ap (ends_at all yc p) (exit_of_named ns c k) ∙ ap (λ (h : Bool). if h then yc c else p (Exit c)) (sub c k))
      go true e false k = clashes (has ns c) (has_named t.cells s c e n) k
      go false e true k = clashes (has t.cells c) (named_has t.cells s c k) e
      go false e false k = sym (ap (ends_at all yc p) (cell_of_other ns c k))
  same_named p all sub (Exit c) n = sym (ap (ends_at all yc p) (stays_exit ns c))
  same_named p all sub (Phi c) n = sym (ap (ends_at all yc p) (stays_phi ns c))
  same_named p all sub (Aux c) n = sym (ap (ends_at all yc p) (stays_aux ns c))

  -- a row of the transformer that says what a named exit is holds with that exit alone moved on
  row_there : (e : Row) (c : ℕ) (p : Point) → has ns c ≡ true → Says c e → Holds (at_all p) e → value (at_named p) e.terms ≡ e.bound
  row_there e c p h w a =
      let v : value (at_all p) e.terms ≡ e.bound = (equally (at_all p) e w.equal).0 a in
      sym (terms_agree e.terms (at_all p) (at_named p) same) ∙ v
    where
      same : (v : Var) → in_terms v e.terms ≡ true → at_all p v ≡ at_named p v
      same (Cell b) n = refl
      same (Phi b) n = refl
      same (Aux b) n = refl
      same (Exit b) n =
          let q : c ≡ b = other_exits c b e.terms w.other n in
          subst (λ (z : ℕ). (if has t.cells z then yc z else p (Exit z)) ≡ (if has ns z then yc z else p (Exit z))) q
          (ap (λ (l : Bool). if l then yc c else p (Exit c)) (named_has t.cells s c h) ∙ sym (ap (λ (l : Bool). if l then yc c else p (Exit c)) h))

  record Found (c : ℕ) (e : Row) (es : List Row) : Type 0 where
    row_says : Says c e
    holds : (p : Point) → HoldsAll p es → Holds p e

  found : (c : ℕ) (es : List Row) (e : Row) → exit_row c es ≡ Some e → Found c e es
  found c [] e q = none_some e q
  found c (f ∷ es) e q = go (is_exit_row c f) refl q (found c es e)
    where
      go : (b : Bool) → is_exit_row c f ≡ b → (if b then Some f else exit_row c es) ≡ Some e → (exit_row c es ≡ Some e → Found c e es) → Found c e (f ∷ es)
      go true h k ih =
          let same = some_is f e k in
          record { row_says = subst (λ (g : Row). Says c g) same (says c f h); holds = λ p a. subst (λ (g : Row). Holds p g) same a.0 }
      go false h k ih = let w = ih k in record { row_says = w.row_says; holds = λ p a. w.holds p a.1 }

  -- what putting in the rows of some cells does to a system
  record Result (cs : List ℕ) (a b : System) : Type 0 where
    forward : (p : Point) → HoldsAll (at_all p) t.system.rows → HoldsAll (at_named p) a.rows → HoldsAll (at_named p) b.rows
    backward : b.weak ≡ false → (p : Point) → HoldsAll (at_all p) t.system.rows → HoldsAll (at_named p) b.rows → HoldsAll (at_named p) a.rows
    strong : b.weak ≡ false → a.weak ≡ false
    off : (c : ℕ) → RowsNil (only (Exit c)) a.rows → RowsNil (only (Exit c)) b.rows
    gone : (c : ℕ) → has cs c ≡ true → RowsNil (only (Exit c)) b.rows

  result : (cs : List ℕ) → ((c : ℕ) → has cs c ≡ true → has ns c ≡ true) → (a b : System) → put_exits cs t.system.rows a ≡ Some b → Result cs a b
  result [] sub a b q = subst (λ (z : System). Result [] a z) (some_is a b q) (record { forward = λ p h k. k; backward = λ w p h k. k; strong = λ w. w; off = λ c h. h; gone = λ c h. clashes false h refl })
  result (c ∷ cs) sub a b q = go (exit_row c t.system.rows) refl q (λ a2. result cs (λ z h. sub z (or_right (nat_eq c z) (has cs z) h)) a2 b)
    where
      go : (w : Option Row) → exit_row c t.system.rows ≡ w → on_row w (λ e. put_exits cs t.system.rows (put_row (Exit c) e a)) ≡ Some b → ((a2 : System) → put_exits cs t.system.rows a2 ≡ Some b → Result cs a2 b) → Result (c ∷ cs) a b
      go None f k ih = none_some b k
      go (Some e) f k ih =
          let w = found c t.system.rows e f in
          let r = ih (put_row (Exit c) e a) k in
          let mine = sub c (or_left (nat_eq c c) (has cs c) (nat_eq_same c)) in
          let is_there = λ (p : Point) (h : HoldsAll (at_all p) t.system.rows). row_there e c p mine w.row_says (w.holds (at_all p) h) in
          record {
            forward = λ p h z. r.forward p h (put_holds (at_named p) (Exit c) e a.rows (is_there p h) z);
            backward = λ l p h z. put_back (at_named p) (Exit c) e a.rows (is_there p h) (or_parts a.weak (loses_row (Exit c) e a.rows) (r.strong l)).1 (r.backward l p h z);
            strong = λ l. (or_parts a.weak (loses_row (Exit c) e a.rows) (r.strong l)).0;
            off = λ z h. r.off z (exit_nil c z e a.rows w.row_says h);
            gone = λ z h. one z (nat_eq c z) refl h (λ l. r.gone z l) (r.off c (all_gone (Exit c) e a.rows w.row_says.unit));
          }
        where
          one : (z : ℕ) (i : Bool) → nat_eq c z ≡ i → (i || has cs z) ≡ true → (has cs z ≡ true → RowsNil (only (Exit z)) b.rows) → RowsNil (only (Exit c)) b.rows → RowsNil (only (Exit z)) b.rows
          one z true k h f g = subst (λ (j : ℕ). RowsNil (only (Exit j)) b.rows) (nat_same c z k) g
          one z false k h f g = f h

  abbrev renamed : System
  renamed = rename_all (to_exits ns) s

  relates_all : (p : Point) → AtStart m x p → HoldsAll (at_all p) t.system.rows
  relates_all p st = d.relates (at_all p) (λ c k. st c k) (λ c k h. ap (λ (b : Bool). if b then y (m.unit c) else p (Exit c)) h)

  -- the system, at the numbers afterwards, is what is renamed, with them at the exits
  to_renamed : (p : Point) (all : List ℕ) → ((c : ℕ) → has ns c ≡ true → has all c ≡ true) → HoldsAll (after_cells t.cells yc (ends_at all yc p)) s.rows → HoldsAll (ends_at all yc p) renamed.rows
  to_renamed p all sub h = rename_all_holds (to_exits ns) s (ends_at all yc p) (rows_agree s.rows (after_cells t.cells yc (ends_at all yc p)) (λ v. ends_at all yc p (renamed_by (to_exits ns) v)) (same_named p all sub) h)

  -- no exit of a named cell is left: the point may as well be p
  off_named : (b : System) → Result ns renamed b → (p : Point) (v : Var) → (at_named p v ≡ p v) ⊎ RowsNil (only v) b.rows
  off_named b w p (Cell c) = inl refl
  off_named b w p (Exit c) = go (has ns c) refl
    where
      go : (l : Bool) → has ns c ≡ l → ((if l then yc c else p (Exit c)) ≡ p (Exit c)) ⊎ RowsNil (only (Exit c)) b.rows
      go true e = inr (w.gone c e)
      go false e = inl refl
  off_named b w p (Phi c) = inl refl
  off_named b w p (Aux c) = inl refl

  turn : (b : System) (p : Point) → ((v : Var) → (at_named p v ≡ p v) ⊎ RowsNil (only v) b.rows) → (v : Var) → (p v ≡ at_named p v) ⊎ RowsNil (only v) b.rows
  turn b p f v = ⊎_elim (λ e. inl (sym e)) (λ n. inr n) (f v)

  abbrev by_cells : List ℕ → Option System → Shadow
  by_cells [] w = shadow s true
  by_cells (c ∷ cs) w = put_or_led w (c ∷ cs) t s

  composed_is : (cs : List ℕ) → by_cells cs (put_exits cs t.system.rows (rename_all (to_exits cs) s)) ≡ through_transformer cs t s
  composed_is [] = refl
  composed_is (c ∷ cs) = refl

  -- no changed cell is named
  nothing_named : ns ≡ [] → (p : Point) → Agree (λ v. in_rows v s.rows) (after_cells t.cells yc p) p
  nothing_named e p (Cell c) n = one (has t.cells c) refl
    where
      one : (b : Bool) → has t.cells c ≡ b → (if b then yc c else p (Cell c)) ≡ p (Cell c)
      one true h = clashes (has ns c) (has_named t.cells s c h n) (ap (λ (z : List ℕ). has z c) e)
      one false h = refl
  nothing_named e p (Exit c) n = refl
  nothing_named e p (Phi c) n = refl
  nothing_named e p (Aux c) n = refl

  pub piece_describes : (n phi : ℕ → ℤ) → AreNumbers m x n → Describes s (moved m t.cells y n) phi → Describes (compose_piece t s).system n phi
  piece_describes n phi a l = subst (λ (z : Shadow). Describes z.system n phi) (composed_is ns) (go ns refl (put_exits ns t.system.rows renamed) refl)
    where
      after_holds : (p : Point) (all : List ℕ) → HasCells n p → HasSubscripts phi p → HoldsAll (after_cells t.cells yc (ends_at all yc p)) s.rows
      after_holds p all h ph = l (after_cells t.cells yc (ends_at all yc p)) (moved_cells m t.cells y n p h) ph

      go : (cs : List ℕ) → ns ≡ cs → (w : Option System) → put_exits ns t.system.rows renamed ≡ w → Describes (by_cells cs w).system n phi
      go [] e w q = λ p h ph. rows_agree s.rows (after_cells t.cells yc p) p (nothing_named e p) (l (after_cells t.cells yc p) (moved_cells m t.cells y n p h) ph)
      go (c ∷ cs) e (Some b) q = λ p h ph.
          let w = result ns (λ z g. g) renamed b q in
          let st : AtStart m x p = at_start m x n p a h in
          tidy_holds p b (rows_elsewhere (at_named p) p b.rows (off_named b w p) (w.forward p (relates_all p st) (to_renamed p ns (λ z g. g) (after_holds p ns h ph))))
      go (c ∷ cs) e None q = λ p h ph.
          let st : AtStart m x p = at_start m x n p a h in
          subst (λ (z : List ℕ). HoldsAll p (composed_with z t s).rows) e
          (project_keeps (meet renamed t.system) (exit_vars t.cells) (at_all p) p (λ v f. ends_off t.cells yc p v f)
          (meet_holds (at_all p) renamed t.system (to_renamed p t.cells (named_has t.cells s) (after_holds p t.cells h ph), relates_all p st)))

  -- a point after, for one before
  pub record After (p : Point) : Type 0 where
    pub point : Point
    pub starts : AtStart m y point
    pub same : (k : ℕ) → point (Phi k) ≡ p (Phi k)
    pub holds : HoldsAll point s.rows

  pub piece_back : (p : Point) → AtStart m x p → (compose_piece t s).exact ≡ true → (compose_piece t s).system.weak ≡ false → HoldsAll p (compose_piece t s).system.rows → After p
  piece_back p st = subst (λ (z : Shadow). z.exact ≡ true → z.system.weak ≡ false → HoldsAll p z.system.rows → After p) (composed_is ns) (go ns refl (put_exits ns t.system.rows renamed) refl)
    where
      go : (cs : List ℕ) → ns ≡ cs → (w : Option System) → put_exits ns t.system.rows renamed ≡ w → (by_cells cs w).exact ≡ true → (by_cells cs w).system.weak ≡ false → HoldsAll p (by_cells cs w).system.rows → After p
      go [] e w q = λ ex l h. record {
        point = after_cells t.cells yc p;
        starts = starts_after p p st (λ c. refl);
        same = λ k. refl;
        holds = rows_agree s.rows p (after_cells t.cells yc p) (flip (λ v. in_rows v s.rows) (after_cells t.cells yc p) p (nothing_named e p)) h;
      }
      go (c ∷ cs) e (Some b) q = λ ex l h.
          let w = result ns (λ z g. g) renamed b q in
          let strong = tidy_weak b l in
          let here = rows_elsewhere p (at_named p) b.rows (turn b p (off_named b w p)) (tidy_back p b l h) in
          let back = rename_all_back (to_exits ns) s (at_named p) (w.strong strong) (w.backward strong p (relates_all p st) here) in
          record {
            point = after_cells t.cells yc (at_named p);
            starts = starts_after p (at_named p) st (λ c. refl);
            same = λ k. refl;
            holds = rows_agree s.rows (λ v. at_named p (renamed_by (to_exits ns) v)) (after_cells t.cells yc (at_named p)) (flip (λ v. in_rows v s.rows) (after_cells t.cells yc (at_named p)) (λ v. at_named p (renamed_by (to_exits ns) v)) (same_named p ns (λ z g. g))) back;
          }
      go (c ∷ cs) e None q = λ ex l h. absurd (true≢false (sym ex))
