-- What the iterations of a DO before one have certainly written, and which elements of those there are.
use Rattle.std.proofs.Common.{◌≡◌, inl, inr, ⊎_elim, ℕ, zero, suc, ◌<◌, List, [], ◌∷◌, ◌++◌, map, ◌&&◌, Bool, true, false, refl, sym, ap, ◌∙◌, subst, ℤ, pos, ◌+ℤ◌, ◌*ℤ◌, nat_eq, Option, Some, None}
use Rattle.std.specs.Prelude.{if◌then◌else◌, not}
use Rattle.std.proofs.lemmas.Bool.{and_parts, or_parts, not-true}
use Rattle.affine_systems.specs.declared.row.Var.{Var}
use Rattle.affine_systems.specs.declared.row.Var.TheVariants.{Cell, Exit, Phi, Aux}
use Rattle.affine_systems.specs.declared.row.Row.{Row}
use Rattle.affine_systems.specs.declared.row.System.{System}
use Rattle.affine_systems.specs.Points.{Point, HoldsAll}
use Rattle.affine_systems.specs.Tidy.{is_unit}
use Rattle.affine_systems.proofs.CallLaws.{append_all}
use Rattle.hull_projection.specs.declared.projection.Shadow.{Shadow}
use Rattle.hull_projection.specs.Laws.{IsOneOf}
use Rattle.hull_projection.proofs.ProjectLaws.{project_keeps, project_extends}
use Rattle.preconditions.specs.transformer_algebra.Renaming.{naming, renamed_by, rename_all, push_rows}
use Rattle.preconditions.proofs.TransformerAlgebra.KeepLaws.{rename_all_holds, push_rows_holds}
use Rattle.affine_forms.specs.declared.affine.Affine.{Affine}
use Rattle.affine_forms.specs.Claims.{form_value}
use Rattle.affine_forms.specs.Comparisons.{var_form}
use Rattle.preconditions.specs.transformer_algebra.Cells.{has, others}
use Rattle.preconditions.specs.transformer_algebra.Loops.{goes_up, terms_stay, stays, within_row, beyond_row}
use Rattle.preconditions.specs.transformer_algebra.Claims.{Scene, AtStart, Means, NotBeyond}
use Rattle.preconditions.specs.transformer_algebra.Laws.{In, here, there}
use Rattle.in_out_regions.specs.region_sets.declared.range.Range.{Range}
use Rattle.in_out_regions.specs.region_sets.declared.region.Region.{Region}
use Rattle.in_out_regions.specs.region_sets.Regions.{remade, any_weak, all_exact, systems}
use Rattle.in_out_regions.specs.region_sets.Naming.{in_rows, named_cells, has_none}
use Rattle.hull_projection.specs.Unions.{HoldsSome}
use Rattle.in_out_regions.specs.region_sets.Claims.{AreNumbers, DescribedBy, Elements, Accessed, LiesIn, IsSharp, InRange, Iteration, Begins}
use Rattle.in_out_regions.proofs.RegionSets.DescribedLaws.{at_start}
use Rattle.in_out_regions.proofs.RegionSets.NameLaws.{Agree, flip, rows_agree, has_named, has_others}
use Rattle.in_out_regions.proofs.RegionSets.StepLaws.{in_map}
use Rattle.in_out_regions.proofs.RegionSets.BackLaws.{push_weak, project_weak, rename_all_back, push_rows_back}
use Rattle.in_out_regions.specs.array_regions.Entry.{names_none}
use Rattle.in_out_regions.specs.Loops.{after_first, before_last, index_rows_by, index_rows, in_range, is_one_step, meets_each, is_steady, earlier_rows_by, earlier_rows, earlier_piece, if_exact, earlier_of}
use Rattle.laws_marks.proofs.Indices.{Before, beyond_so, beyond_back, Place, unit_place, unit_before, index_is, other_is, no_cell, unchanged, form_stays}
use Rattle.in_out_regions.proofs.RegionSets.LoopLaws.{exit_no_cell, phi_no_cell, aux_no_cell, in_turn, within_holds as within_so, within_back}
use Rattle.fx_lists.proofs.Numbers.{same_is as nat_same}
use Rattle.fx_lists.proofs.Booleans.{clash as clashes}
use Rattle.in_out_regions.proofs.ArrayRegions.Exact.{var_value}

-- ---- points of an iteration before

-- the index of that iteration stands in Aux(2)
abbrev pub with_earlier : ℤ → Point → Var → ℤ
with_earlier n p (Cell c) = p (Cell c)
with_earlier n p (Exit c) = p (Exit c)
with_earlier n p (Phi c) = p (Phi c)
with_earlier n p (Aux zero) = p (Aux zero)
with_earlier n p (Aux (suc zero)) = p (Aux (suc zero))
with_earlier n p (Aux (suc (suc zero))) = n
with_earlier n p (Aux (suc (suc (suc j)))) = p (Aux (suc (suc (suc j))))

abbrev pub earlier_vars : List Var
earlier_vars = Aux 2 ∷ []

pub earlier_off : (n : ℤ) (p : Point) (v : Var) → (IsOneOf v earlier_vars → ⊥) → p v ≡ with_earlier n p v
earlier_off n p (Cell c) f = refl
earlier_off n p (Exit c) f = refl
earlier_off n p (Phi c) f = refl
earlier_off n p (Aux zero) f = refl
earlier_off n p (Aux (suc zero)) f = refl
earlier_off n p (Aux (suc (suc zero))) f = absurd (f (inl refl))
earlier_off n p (Aux (suc (suc (suc j)))) f = refl

cell_no_aux : (c n : ℕ) → Cell c ≡ Aux n → ⊥
cell_no_aux c n q = cc

phi_no_aux : (c n : ℕ) → Phi c ≡ Aux n → ⊥
phi_no_aux c n q = cc

not_one : (v : Var) → ((n : ℕ) → v ≡ Aux n → ⊥) → IsOneOf v earlier_vars → ⊥
not_one v f i = ⊎_elim (λ e. f 2 e) (λ r. r) i

none_is : (cs : List ℕ) → has_none cs ≡ true → cs ≡ []
none_is [] e = refl
none_is (c ∷ cs) e = cc

-- the piece that something was made of
record Made (f : System → Shadow) (p : Point) (ss : List System) : Type 0 where
  piece : System
  is_one : In piece ss
  exact : (f piece).exact ≡ true
  strong : (f piece).system.weak ≡ false
  holds : HoldsAll p (f piece).system.rows

made : (f : System → Shadow) (p : Point) (ss : List System) → all_exact (map f ss) ≡ true → any_weak (systems (map f ss)) ≡ false → HoldsSome p (systems (map f ss)) → Made f p ss
made f p [] e w h = absurd h
made f p (s ∷ ss) e w h =
    let b = and_parts (f s).exact (all_exact (map f ss)) e in
    let c = or_parts (f s).system.weak (any_weak (systems (map f ss))) w in
    ⊎_elim
    (λ k. record { piece = s; is_one = here; exact = b.0; strong = c.0; holds = k })
    (λ k. (let r = made f p ss b.1 c.1 k in record { piece = r.piece; is_one = there r.is_one; exact = r.exact; strong = r.strong; holds = r.holds }))
    h

each_none : (cs : List ℕ) (ss : List System) (s : System) → names_none cs ss ≡ true → In s ss → has_none (named_cells cs s) ≡ true
each_none cs [] s e i = elim i [ ]
each_none cs (u ∷ ss) s e here = (and_parts (has_none (named_cells cs u)) (names_none cs ss) e).0
each_none cs (u ∷ ss) s e (there i) = each_none cs ss s (and_parts (has_none (named_cells cs u)) (names_none cs ss) e).1 i

-- ---- what it takes

-- where earlier iterations are known, by a step s and a first value f
pub record Known (tracked : Bool) (g : Range) (w e : Region) : Type 0 where
  pub counts : tracked ≡ true
  pub step : ℤ
  pub is_step : g.step ≡ Some step
  pub unit : is_unit step ≡ true
  pub first : Affine
  pub is_first : g.first ≡ Some first
  pub stay : terms_stay g.turn.cells first.terms ≡ true
  pub exact : w.exact ≡ true
  pub steady : names_none (others g.turn.cells (g.index ∷ [])) w.pieces ≡ true
  pub exactly : all_exact (map (earlier_piece g) w.pieces) ≡ true
  pub is_made : e ≡ remade w true (systems (map (earlier_piece g) w.pieces))

pub known_of : (tracked : Bool) (g : Range) (w e : Region) → earlier_of tracked g w ≡ Some e → Known tracked g w e
known_of tracked g w e q = go (meets_each tracked g && is_steady g w) refl q
  where
    clash : {A : Type 0} → None ≡ Some e → A
    clash h = absurd (cc)

    step_of : (o : Option ℤ) → g.step ≡ o → is_one_step o ≡ true → (s : ℤ) × (g.step ≡ Some s) × (is_unit s ≡ true)
    step_of None r h = absurd (cc)
    step_of (Some s) r h = (s, r, h)

    first_of : (o : Option Affine) → g.first ≡ o → stays g.turn.cells o ≡ true → (f : Affine) × (g.first ≡ Some f) × (terms_stay g.turn.cells f.terms ≡ true)
    first_of None r h = absurd (cc)
    first_of (Some f) r h = (f, r, h)

    made_of : (b : Bool) → all_exact (map (earlier_piece g) w.pieces) ≡ b → (if b then Some (remade w true (systems (map (earlier_piece g) w.pieces))) else None) ≡ Some e → (all_exact (map (earlier_piece g) w.pieces) ≡ true) × (e ≡ remade w true (systems (map (earlier_piece g) w.pieces)))
    made_of true r h = let same : remade w true (systems (map (earlier_piece g) w.pieces)) ≡ e = cc in (r, sym same)
    made_of false r h = clash h

    go : (b : Bool) → (meets_each tracked g && is_steady g w) ≡ b → (if b then if_exact w (map (earlier_piece g) w.pieces) else None) ≡ Some e → Known tracked g w e
    go false r h = clash h
    go true r h =
        let a = and_parts (meets_each tracked g) (is_steady g w) r in
        let c = and_parts tracked (is_one_step g.step && stays g.turn.cells g.first) a.0 in
        let d = and_parts (is_one_step g.step) (stays g.turn.cells g.first) c.1 in
        let n = and_parts w.exact (names_none (others g.turn.cells (g.index ∷ [])) w.pieces) a.1 in
        let s = step_of g.step refl d.0 in
        let f = first_of g.first refl d.1 in
        let k = made_of (all_exact (map (earlier_piece g) w.pieces)) refl h in
        record { counts = c.0; step = s.0; is_step = s.1; unit = s.2; first = f.0; is_first = f.1; stay = f.2; exact = n.0; steady = n.1; exactly = k.0; is_made = k.1 }

module _ (m : Scene) (g : Range) (x : ℕ → ℤ) (a b : ℤ) (bg : Begins m g x a b) where
  abbrev cells_at : (ℕ → ℤ) → ℕ → ℤ
  cells_at y c = y (m.unit c)

  abbrev pub begun_at : ℤ → (ℕ → ℤ) → Point → Var → ℤ
  begun_at n y p = in_turn g.index n g.turn.cells (λ c. y (m.unit c)) p

  -- a point at one iteration, at another
  pub starts_at : (n : ℤ) (k : ℕ) (y : ℕ → ℤ) (r : ℤ) (i : ℕ) (z : ℕ → ℤ) (p : Point) → Iteration m g x a b n k y → Iteration m g x a b r i z → AtStart m y p → AtStart m z (begun_at r z p)
  starts_at n k y r i z p it jt st c t = go (nat_eq g.index c) refl (has g.turn.cells c) refl
    where
      go : (d : Bool) → nat_eq g.index c ≡ d → (h : Bool) → has g.turn.cells c ≡ h → (if d then r else if h then z (m.unit c) else p (Cell c)) ≡ z (m.unit c)
      go true e h f = sym (subst (λ (j : ℕ). z (m.unit j) ≡ r) (nat_same g.index c e) jt.number)
      go false e true f = refl
      go false e false f = st c t ∙ (unchanged m g x a b bg n k y it c t f ∙ sym (unchanged m g x a b bg r i z jt c t f))

  -- of a piece that names no changed cell but the index
  pub named_alike : (s : System) (r : ℤ) (z : ℕ → ℤ) (q : Point) → has_none (named_cells (others g.turn.cells (g.index ∷ [])) s) ≡ true → q (Aux 2) ≡ r → Agree (λ v. in_rows v s.rows) (begun_at r z q) (λ v. q (renamed_by (naming (Cell g.index) (Aux 2) ∷ []) v))
  named_alike s r z q e h (Cell c) i = go (nat_eq g.index c) refl (has g.turn.cells c) refl
    where
      ns : List ℕ
      ns = named_cells (others g.turn.cells (g.index ∷ [])) s

      go : (d : Bool) → nat_eq g.index c ≡ d → (t : Bool) → has g.turn.cells c ≡ t → (if d then r else if t then z (m.unit c) else q (Cell c)) ≡ q (renamed_by (naming (Cell g.index) (Aux 2) ∷ []) (Cell c))
      go true d t f = sym (ap q (index_is g.index c (Aux 2) d) ∙ h)
      go false d true f = clashes (has (named_cells (others g.turn.cells (g.index ∷ [])) s) c) (has_named (others g.turn.cells (g.index ∷ [])) s c (has_others g.index g.turn.cells c d f) i) (ap (λ (y : List ℕ). has y c) (none_is (named_cells (others g.turn.cells (g.index ∷ [])) s) e))
      go false d false f = sym (ap q (other_is g.index c (Aux 2) d))
  named_alike s r z q e h (Exit c) i = sym (ap q (no_cell (Exit c) g.index (Aux 2) (exit_no_cell c g.index)))
  named_alike s r z q e h (Phi c) i = sym (ap q (no_cell (Phi c) g.index (Aux 2) (phi_no_cell c g.index)))
  named_alike s r z q e h (Aux c) i = sym (ap q (no_cell (Aux c) g.index (Aux 2) (aux_no_cell c g.index)))

  -- ---- the rows of the index

  after_holds : (s : ℤ) (f : Option Affine) (n : ℤ) (k : ℕ) (y : ℕ → ℤ) (p : Point) → Means m f x a → Iteration m g x a b n k y → AtStart m y p → p (Cell g.index) ≡ n → NotBeyond (goes_up s) a n → HoldsAll p (after_first s g.turn.cells g.index f)
  after_holds s None n k y p e it st h l = tt
  after_holds s (Some f) n k y p e it st h l = go (terms_stay g.turn.cells f.terms) refl
    where
      go : (d : Bool) → terms_stay g.turn.cells f.terms ≡ d → HoldsAll p (if d then within_row s f (var_form (Cell g.index)) ∷ [] else [])
      go false q = tt
      go true q = (within_so s f (var_form (Cell g.index)) p (subst (λ z. NotBeyond (goes_up s) z (form_value p (var_form (Cell g.index)))) (sym (form_stays m g x a b bg f a q e n k y it p st)) (subst (λ z. NotBeyond (goes_up s) a z) (sym (var_value (Cell g.index) p ∙ h)) l)), tt)

  before_holds : (s : ℤ) (f : Option Affine) (n : ℤ) (k : ℕ) (y : ℕ → ℤ) (p : Point) → Means m f x b → Iteration m g x a b n k y → AtStart m y p → p (Cell g.index) ≡ n → NotBeyond (goes_up s) n b → HoldsAll p (before_last s g.turn.cells g.index f)
  before_holds s None n k y p e it st h l = tt
  before_holds s (Some f) n k y p e it st h l = go (terms_stay g.turn.cells f.terms) refl
    where
      go : (d : Bool) → terms_stay g.turn.cells f.terms ≡ d → HoldsAll p (if d then within_row s (var_form (Cell g.index)) f ∷ [] else [])
      go false q = tt
      go true q = (within_so s (var_form (Cell g.index)) f p (subst (λ z. NotBeyond (goes_up s) (form_value p (var_form (Cell g.index))) z) (sym (form_stays m g x a b bg f b q e n k y it p st)) (subst (λ z. NotBeyond (goes_up s) z b) (sym (var_value (Cell g.index) p ∙ h)) l)), tt)

  append_holds : (p : Point) (rs qs : List Row) → HoldsAll p rs → HoldsAll p qs → HoldsAll p (rs ++ qs)
  append_holds p rs qs h k = (append_all p rs qs).0 (h, k)

  rows_of_index : (tracked : Bool) → m.tracked g.index ≡ tracked → (n : ℤ) (k : ℕ) (y : ℕ → ℤ) (p : Point) → Iteration m g x a b n k y → AtStart m y p → HoldsAll p (index_rows tracked g)
  rows_of_index tracked q n k y p it st = go g.step it.range tracked q
    where
      go : (o : Option ℤ) → ((s : ℤ) → o ≡ Some s → InRange a b s n k) → (t : Bool) → m.tracked g.index ≡ t → HoldsAll p (index_rows_by o t g)
      go None r t e = tt
      go (Some s) r false e = tt
      go (Some s) r true e =
          let i = r s refl in
          let h : p (Cell g.index) ≡ n = st g.index e ∙ it.number in
          append_holds p (after_first s g.turn.cells g.index g.first) (before_last s g.turn.cells g.index g.last)
          (after_holds s g.first n k y p bg.first it st h i.after_first) (before_holds s g.last n k y p bg.last it st h i.before_last)

  -- a unit that lies in a region where an iteration begins lies in it within the range, too
  pub ranged_lies : (tracked : Bool) → m.tracked g.index ≡ tracked → (at : Elements) (r : Region) (n : ℤ) (k : ℕ) (y : ℕ → ℤ) (u : ℕ) → Iteration m g x a b n k y → LiesIn m at r y u → LiesIn m at (in_range tracked g r) y u
  ranged_lies tracked q at r n k y u it l = record { phi = l.phi; there = l.there; described = λ o e. ranged o e (l.described o e) }
    where
      ranged : (o : ℕ → ℤ) → AreNumbers m y o → DescribedBy r.pieces o l.phi → DescribedBy (map (λ s. push_rows s (index_rows tracked g)) r.pieces) o l.phi
      ranged o e d = record {
        piece = push_rows d.piece (index_rows tracked g);
        is_one = in_map (λ s. push_rows s (index_rows tracked g)) d.piece r.pieces d.is_one;
        holds = λ p c ph. push_rows_holds d.piece (index_rows tracked g) p (d.holds p c ph) (rows_of_index tracked q n k y p it (at_start m y o p e c));
      }

  ranged_back : (rs : List Row) (p : Point) (ss : List System) → any_weak (map (λ s. push_rows s rs) ss) ≡ false → HoldsSome p (map (λ s. push_rows s rs) ss) → HoldsSome p ss
  ranged_back rs p [] w h = absurd h
  ranged_back rs p (s ∷ ss) w h =
      let c = or_parts (push_rows s rs).weak (any_weak (map (λ s. push_rows s rs) ss)) w in
      ⊎_elim (λ k. inl (push_rows_back s rs p c.0 k).0) (λ k. inr (ranged_back rs p ss c.1 k)) h

  pub ranged_sharp : (tracked : Bool) (at : Elements) (r : Region) (y : ℕ → ℤ) (c : ℕ → Bool) → IsSharp m at r y c → IsSharp m at (in_range tracked g r) y c
  ranged_sharp tracked at r y c h e p st k =
      let q = and_parts r.exact (not (any_weak (map (λ s. push_rows s (index_rows tracked g)) r.pieces))) e in
      h q.0 p st (ranged_back (index_rows tracked g) p r.pieces (not-true (any_weak (map (λ s. push_rows s (index_rows tracked g)) r.pieces)) q.1) k)

  -- ---- earlier ones

  module _ (tracked : Bool) (is_tracked : m.tracked g.index ≡ tracked) (w e : Region) (known : Known tracked g w e) (n : ℤ) (k : ℕ) (y : ℕ → ℤ) (it : Iteration m g x a b n k y) where
    index_here : (p : Point) → AtStart m y p → p (Cell g.index) ≡ n
    index_here p st = st g.index (is_tracked ∙ known.counts) ∙ it.number

    abbrev s : ℤ
    s = known.step

    abbrev f : Affine
    f = known.first

    the_rows : earlier_rows g ≡ within_row s f (var_form (Aux 2)) ∷ (beyond_row s (var_form (Cell g.index)) (var_form (Aux 2)) ∷ [])
    the_rows = ap (λ o. earlier_rows_by o g.first g.index) known.is_step ∙ ap (λ o. earlier_rows_by (Some s) o g.index) known.is_first

    first_value : (p : Point) → AtStart m y p → form_value p f ≡ a
    first_value p st = form_stays m g x a b bg f a known.stay (subst (λ o. Means m o x a) known.is_first bg.first) n k y it p st

    -- an iteration before it, with the number r of the index
    pub record Earlier (i : ℕ) : Type 0 where
      pub number : ℤ
      pub is_it : number ≡ a +ℤ (s *ℤ pos i)
      pub store : ℕ → ℤ
      pub iteration : Iteration m g x a b number i store

    -- a point here, at an earlier iteration
    abbrev pub back_at : (i : ℕ) → Earlier i → Point → Var → ℤ
    back_at i j p = begun_at j.number j.store (with_earlier j.number p)

    pub back_starts : (i : ℕ) (j : Earlier i) (p : Point) → AtStart m y p → AtStart m j.store (back_at i j p)
    back_starts i j p st = starts_at n k y j.number i j.store (with_earlier j.number p) it j.iteration (λ c t. st c t)

    -- one that the WRITE region describes at an earlier iteration is one of the earlier region
    pub earlier_has : (i : ℕ) → i < k → (j : Earlier i) → (p : Point) → AtStart m y p → HoldsSome (back_at i j p) w.pieces → HoldsSome p e.pieces
    earlier_has i l j p st h = subst (λ (z : Region). HoldsSome p z.pieces) (sym known.is_made) (pieces w.pieces known.steady h)
      where
        rows : HoldsAll (with_earlier j.number p) (earlier_rows g)
        rows = subst (λ rs. HoldsAll (with_earlier j.number p) rs) (sym the_rows) (
          within_so s f (var_form (Aux 2)) (with_earlier j.number p) (subst (λ z. NotBeyond (goes_up s) z (form_value (with_earlier j.number p) (var_form (Aux 2)))) (sym (first_value (with_earlier j.number p) (λ c t. st c t))) (subst (λ z. NotBeyond (goes_up s) a z) (sym (var_value (Aux 2) (with_earlier j.number p))) (j.iteration.range s known.is_step).after_first)),
          (
            beyond_so s (var_form (Cell g.index)) (var_form (Aux 2)) (with_earlier j.number p) (subst (λ z. Before (goes_up s) z (form_value (with_earlier j.number p) (var_form (Cell g.index)))) (sym (var_value (Aux 2) (with_earlier j.number p))) (subst (λ z. Before (goes_up s) j.number z) (sym (var_value (Cell g.index) (with_earlier j.number p) ∙ index_here p st)) (unit_before s a j.number n i k known.unit l j.is_it (it.range s known.is_step).place))),
            tt,
          ),
        )

        one : (u : System) → has_none (named_cells (others g.turn.cells (g.index ∷ [])) u) ≡ true → HoldsAll (back_at i j p) u.rows → HoldsAll p (earlier_piece g u).system.rows
        one u nn hh =
            project_keeps (push_rows (rename_all (naming (Cell g.index) (Aux 2) ∷ []) u) (earlier_rows g)) earlier_vars (with_earlier j.number p) p (λ v o. earlier_off j.number p v o)
            (push_rows_holds (rename_all (naming (Cell g.index) (Aux 2) ∷ []) u) (earlier_rows g) (with_earlier j.number p)
            (rename_all_holds (naming (Cell g.index) (Aux 2) ∷ []) u (with_earlier j.number p)
            (rows_agree u.rows (back_at i j p) (λ v. with_earlier j.number p (renamed_by (naming (Cell g.index) (Aux 2) ∷ []) v)) (named_alike u j.number j.store (with_earlier j.number p) nn refl) hh))
            rows)

        pieces : (us : List System) → names_none (others g.turn.cells (g.index ∷ [])) us ≡ true → HoldsSome (back_at i j p) us → HoldsSome p (systems (map (earlier_piece g) us))
        pieces [] nn hh = absurd hh
        pieces (u ∷ us) nn hh =
            let c = and_parts (has_none (named_cells (others g.turn.cells (g.index ∷ [])) u)) (names_none (others g.turn.cells (g.index ∷ [])) us) nn in
            ⊎_elim (λ z. inl (one u c.0 z)) (λ z. inr (pieces us c.1 z)) hh

    -- what the WRITE region certainly says at each iteration before, the earlier region says here
    pub earlier_sharp : (at : Elements) (written : ℕ → Bool) → ((i : ℕ) → i < k → (j : Earlier i) × IsSharp m at w j.store written) → IsSharp m at e y written
    earlier_sharp at written past ex p st h = here_so (made (earlier_piece g) p w.pieces known.exactly strong (subst (λ (z : Region). HoldsSome p z.pieces) known.is_made h))
      where
        strong : any_weak (systems (map (earlier_piece g) w.pieces)) ≡ false
        strong = not-true (any_weak (systems (map (earlier_piece g) w.pieces))) (and_parts true (not (any_weak (systems (map (earlier_piece g) w.pieces)))) (ap (λ (z : Region). z.exact) (sym known.is_made) ∙ ex)).1

        here_so : Made (earlier_piece g) p w.pieces → Accessed at written (λ c. p (Phi c))
        here_so q = at_turn (past v.place v.earlier)
          where
            inner : System
            inner = push_rows (rename_all (naming (Cell g.index) (Aux 2) ∷ []) q.piece) (earlier_rows g)

            back : (z : Point) × ((v : Var) → (IsOneOf v earlier_vars → ⊥) → z v ≡ p v) × HoldsAll z (push_rows (rename_all (naming (Cell g.index) (Aux 2) ∷ []) q.piece) (earlier_rows g)).rows
            back = project_extends (push_rows (rename_all (naming (Cell g.index) (Aux 2) ∷ []) q.piece) (earlier_rows g)) earlier_vars q.exact p q.holds

            firm : (push_rows (rename_all (naming (Cell g.index) (Aux 2) ∷ []) q.piece) (earlier_rows g)).weak ≡ false
            firm = project_weak (push_rows (rename_all (naming (Cell g.index) (Aux 2) ∷ []) q.piece) (earlier_rows g)) earlier_vars q.strong

            z : Point
            z = back.0

            parts : HoldsAll back.0 (rename_all (naming (Cell g.index) (Aux 2) ∷ []) q.piece).rows × HoldsAll back.0 (earlier_rows g)
            parts = push_rows_back (rename_all (naming (Cell g.index) (Aux 2) ∷ []) q.piece) (earlier_rows g) back.0 firm back.2

            renamed : HoldsAll (λ v. back.0 (renamed_by (naming (Cell g.index) (Aux 2) ∷ []) v)) q.piece.rows
            renamed = rename_all_back (naming (Cell g.index) (Aux 2) ∷ []) q.piece back.0 (push_weak (rename_all (naming (Cell g.index) (Aux 2) ∷ []) q.piece) (earlier_rows g) firm) parts.0

            here_too : AtStart m y back.0
            here_too c t = back.1 (Cell c) (not_one (Cell c) (cell_no_aux c)) ∙ st c t

            rows : HoldsAll back.0 (within_row s f (var_form (Aux 2)) ∷ (beyond_row s (var_form (Cell g.index)) (var_form (Aux 2)) ∷ []))
            rows = subst (λ rs. HoldsAll back.0 rs) the_rows parts.1

            v : Place a s (back.0 (Aux 2)) k
            v =
                unit_place s a (back.0 (Aux 2)) n k known.unit
                (subst (λ u. NotBeyond (goes_up s) a u) (var_value (Aux 2) back.0) (subst (λ u. NotBeyond (goes_up s) u (form_value back.0 (var_form (Aux 2)))) (first_value back.0 here_too) (within_back s f (var_form (Aux 2)) back.0 rows.0)))
                (subst (λ u. Before (goes_up s) (back.0 (Aux 2)) u) (var_value (Cell g.index) back.0 ∙ index_here back.0 here_too) (subst (λ u. Before (goes_up s) u (form_value back.0 (var_form (Cell g.index)))) (var_value (Aux 2) back.0) (beyond_back s (var_form (Cell g.index)) (var_form (Aux 2)) back.0 rows.1.0)))
                (it.range s known.is_step).place

            at_turn : (j : Earlier v.place) × IsSharp m at w j.store written → Accessed at written (λ c. p (Phi c))
            at_turn j =
                subst (λ (phi : ℕ → ℤ). Accessed at written phi) (λ d c. back.1 (Phi c) (not_one (Phi c) (phi_no_aux c)) d)
                (j.1 known.exact (begun_at j.0.number j.0.store back.0) (starts_at n k y j.0.number v.place j.0.store back.0 it j.0.iteration here_too)
                (some_of (begun_at j.0.number j.0.store back.0) q.piece w.pieces q.is_one (rows_agree q.piece.rows (λ u. back.0 (renamed_by (naming (Cell g.index) (Aux 2) ∷ []) u)) (begun_at j.0.number j.0.store back.0) (flip (λ u. in_rows u q.piece.rows) (begun_at j.0.number j.0.store back.0) (λ u. back.0 (renamed_by (naming (Cell g.index) (Aux 2) ∷ []) u)) (named_alike q.piece j.0.number j.0.store back.0 (each_none (others g.turn.cells (g.index ∷ [])) w.pieces q.piece known.steady q.is_one) (v.is_it ∙ sym j.0.is_it))) renamed)))
              where
                some_of : (o : Point) (u : System) (us : List System) → In u us → HoldsAll o u.rows → HoldsSome o us
                some_of o u [] i hh = elim i [ ]
                some_of o u (t ∷ us) here hh = inl hh
                some_of o u (t ∷ us) (there i) hh = inr (some_of o u us i hh)
