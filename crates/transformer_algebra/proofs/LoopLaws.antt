-- The rules of DO never lose a pair of numbers before and after.
use Rattle.std.proofs.Common.{◌≡◌, ℕ, List, [], ◌∷◌, ◌++◌, Bool, true, false, not, ◌&&◌, ◌||◌, Option, Some, None, refl, sym, ap, ◌∙◌, subst, arith, ℤ, pos, ◌+ℤ◌, ◌*ℤ◌, nat_eq, ◌⊎◌, inl, inr, ⊎_elim}
use Rattle.std.specs.Prelude.{if◌then◌else◌}
use Rattle.std.proofs.lemmas.Int.{ints}
use Rattle.std.proofs.lemmas.Bool.{not-true}
use Rattle.affine_systems.specs.declared.row.Var.{Var}
use Rattle.affine_systems.specs.declared.row.Var.TheVariants.{Cell, Exit, Phi, Aux}
use Rattle.affine_systems.specs.declared.row.Term.{Term}
use Rattle.affine_systems.specs.declared.row.Row.{Row}
use Rattle.affine_systems.specs.declared.row.System.{System}
use Rattle.affine_systems.specs.Terms.{term, number}
use Rattle.affine_systems.specs.Points.{Point, value, Holds, HoldsAll}
use Rattle.affine_systems.proofs.CallLaws.{append_all}
use Rattle.hull_projection.specs.Hull.{hull}
use Rattle.hull_projection.proofs.HullLaws.{hull_holds}
use Rattle.hull_projection.proofs.CleanLaws.{clean_same}
use Rattle.f77_ast.specs.declared.variable.Unit.{Unit as BlockUnit}
use Rattle.transformer_algebra.specs.Renaming.{push_rows}
use Rattle.transformer_algebra.proofs.KeepLaws.{push_rows_holds, of_rows_holds}
use Rattle.affine_forms.specs.declared.affine.Affine.{Affine}
use Rattle.affine_forms.specs.Forms.{affine}
use Rattle.affine_forms.specs.Comparisons.{var_form, at_most_row, below_row, same_row}
use Rattle.affine_forms.specs.Conditions.{no_rows}
use Rattle.affine_forms.specs.Claims.{form_value}
use Rattle.affine_forms.proofs.RowLaws.{at_most_holds, below_holds, same_holds}
use Rattle.transformer_algebra.specs.declared.transformer.Transformer.{Transformer}
use Rattle.transformer_algebra.specs.declared.loop_parts.LoopParts.{LoopParts}
use Rattle.transformer_algebra.specs.Cells.{has, joined_cells, others}
use Rattle.transformer_algebra.specs.Transformers.{exit_system, followed, apply, equals, iterate}
use Rattle.transformer_algebra.specs.Loops.{own_cells, index_becomes, if_counted, stepped, start, next, goes_up, within_row, beyond_row, within_rows, beyond_rows, index_form, guard, unguard, inside, beyond_last, with_rows, iteration, zero_iterations, first_iterations, some_iterations, counted_by, loop_transformer, terms_stay, stays, if_stays, before_iterations, iteration_by, at_iteration, end_by, after_loop}
use Rattle.transformer_algebra.specs.Claims.{Scene, AtStart, AtEnd, HoldsAt, Kept, Does, Chain, Wrote, Tracks, Means, NotBeyond, Beyond}
use Rattle.transformer_algebra.proofs.CellLaws.{left_in, joined_in}
use Rattle.transformer_algebra.proofs.RuleLaws.{does_then, holds_apply, equals_hold, old_point, at_old}
use Rattle.transformer_algebra.proofs.TurnLaws.{kept_chain, does_closed}
use Rattle.fx_lists.proofs.Booleans.{same_left as and_left, same_right as and_right, clash as clashes}
use Rattle.fx_lists.proofs.Numbers.{same_is as nat_same, nat_eq_same}

-- ---- rows

-- a form, where there is one, has this value at the point
abbrev pub ValueAt : Point → Option Affine → ℤ → Type 0
ValueAt p None n = Unit {0}
ValueAt p (Some f) n = form_value p f ≡ n

within_holds : (s : ℤ) (f g : Affine) (p : Point) (u v : ℤ) → form_value p f ≡ u → form_value p g ≡ v → NotBeyond (goes_up s) u v → Holds p (within_row s f g)
within_holds s f g p u v e k h = go (goes_up s) h
  where
    go : (b : Bool) → NotBeyond b u v → Holds p (if b then at_most_row f g else at_most_row g f)
    go true i = at_most_holds f g p (omega (arith, ints, e, k, i))
    go false i = at_most_holds g f p (omega (arith, ints, e, k, i))

beyond_holds : (s : ℤ) (f g : Affine) (p : Point) (u v : ℤ) → form_value p f ≡ u → form_value p g ≡ v → Beyond (goes_up s) u v → Holds p (beyond_row s f g)
beyond_holds s f g p u v e k h = go (goes_up s) h
  where
    go : (b : Bool) → Beyond b u v → Holds p (if b then below_row g f else below_row f g)
    go true i = below_holds g f p (omega (arith, ints, e, k, i))
    go false i = below_holds f g p (omega (arith, ints, e, k, i))

within_rows_hold : (s : ℤ) (f g : Option Affine) (p : Point) (u v : ℤ) → ValueAt p f u → ValueAt p g v → NotBeyond (goes_up s) u v → HoldsAll p (within_rows (Some s) f g)
within_rows_hold s (Some f) (Some g) p u v e k h = (within_holds s f g p u v e k h, tt)
within_rows_hold s (Some f) None p u v e k h = tt
within_rows_hold s None g p u v e k h = tt

beyond_rows_hold : (s : ℤ) (f g : Option Affine) (p : Point) (u v : ℤ) → ValueAt p f u → ValueAt p g v → Beyond (goes_up s) u v → HoldsAll p (beyond_rows (Some s) f g)
beyond_rows_hold s (Some f) (Some g) p u v e k h = (beyond_holds s f g p u v e k h, tt)
beyond_rows_hold s (Some f) None p u v e k h = tt
beyond_rows_hold s None g p u v e k h = tt

means_at : (m : Scene) (f : Option Affine) (x : ℕ → ℤ) (n : ℤ) (p : Point) → Means m f x n → AtStart m x p → ValueAt p f n
means_at m None x n p h st = tt
means_at m (Some f) x n p h st = h p st

pub var_value : (v : Var) (p : Point) (n : ℤ) → p v ≡ n → form_value p (var_form v) ≡ n
var_value v p n e = omega (arith, ints, e)

index_at : (l : LoopParts) (v : Var) (p : Point) (n : ℤ) → (l.tracked ≡ true → p v ≡ n) → ValueAt p (index_form l v) n
index_at l v p n e = go l.tracked e
  where
    go : (b : Bool) → (b ≡ true → p v ≡ n) → ValueAt p (if b then Some (var_form v) else None) n
    go true f = var_value v p n (f refl)
    go false f = tt

exit_holds : (c : ℕ) (f : Option Affine) (p : Point) (n : ℤ) → p (Exit c) ≡ n → ValueAt p f n → HoldsAll p (exit_system c f).rows
exit_holds c None p n e h = tt
exit_holds c (Some f) p n e h = of_rows_holds (same_row (var_form (Exit c)) f ∷ []) p (same_holds (var_form (Exit c)) f p (var_value (Exit c) p n e ∙ sym h), tt)

becomes_holds : (l : LoopParts) (f : Option Affine) (p : Point) (n : ℤ) → (l.tracked ≡ true → (p (Exit l.index) ≡ n) × ValueAt p f n) → HoldsAll p (index_becomes l f).system.rows
becomes_holds l f p n h = go l.tracked h
  where
    go : (b : Bool) → (b ≡ true → (p (Exit l.index) ≡ n) × ValueAt p f n) → HoldsAll p (if b then exit_system l.index f else no_rows).rows
    go true g = exit_holds l.index f p n (g refl).0 (g refl).1
    go false g = tt

step_value : (i : ℕ) (s k : ℤ) (p : Point) → p (Cell i) ≡ k → form_value p (affine (term (Cell i) (pos 1) ∷ []) s) ≡ k +ℤ s
step_value i s k p e = omega (arith, ints, e)

-- ---- forms of which no cell changes

module _ (m : Scene) where
  var_old : (cs : List ℕ) (x : ℕ → ℤ) (p : Point) (v : Var) → has cs (number v) ≡ false → old_point m cs x p v ≡ p v
  var_old cs x p (Cell c) e = ap (λ b. if b then x (m.unit c) else p (Cell c)) e
  var_old cs x p (Exit c) e = refl
  var_old cs x p (Phi c) e = refl
  var_old cs x p (Aux c) e = refl

  terms_old : (cs : List ℕ) (x : ℕ → ℤ) (p : Point) (ts : List Term) → terms_stay cs ts ≡ true → value (old_point m cs x p) ts ≡ value p ts
  terms_old cs x p [] h = refl
  terms_old cs x p (t ∷ ts) h =
      let a = var_old cs x p t.var (not-true (has cs (number t.var)) (and_left _ _ h)) in
      let b = terms_old cs x p ts (and_right (not (has cs (number t.var))) _ h) in
      ap (λ z. (t.factor *ℤ z) +ℤ value (old_point m cs x p) ts) a ∙ ap (λ z. (t.factor *ℤ p t.var) +ℤ z) b

  means_stays : (cs : List ℕ) (us : List BlockUnit) (g : Option Affine) (x y : ℕ → ℤ) (b : ℤ) → stays cs g ≡ true → Means m g x b → Kept m cs us x y → Means m g y b
  means_stays cs us None x y b e h k = tt
  means_stays cs us (Some f) x y b e h k = λ p st. ap (λ z. z +ℤ f.constant) (sym (terms_old cs x p f.terms e)) ∙ h (old_point m cs x p) (at_old m cs us x y p k st)

  does_rows : (t : Transformer) (rs : List Row) (x y : ℕ → ℤ) → Does m t x y → ((p : Point) → AtStart m x p → AtEnd m t.cells y p → HoldsAll p rs) → Does m (with_rows t rs) x y
  does_rows t rs x y d h = record { relates = λ p st en. push_rows_holds t.system rs p (d.relates p st en) (h p st en); kept = d.kept }

  -- ---- the index

  own_in : (l : LoopParts) → l.tracked ≡ true → has (own_cells l) l.index ≡ true
  own_in l e = subst (λ b. has (if b then l.index ∷ [] else []) l.index ≡ true) (sym e) (ap (λ b. b || false) (nat_eq_same l.index))

  or_none : (b : Bool) → (b || false) ≡ false → b ≡ false
  or_none true h = h
  or_none false h = refl

  own_out : (l : LoopParts) (c : ℕ) → m.tracked l.index ≡ l.tracked → m.tracked c ≡ true → has (own_cells l) c ≡ false → nat_eq l.index c ≡ false
  own_out l c tr t h = go l.tracked refl h
    where
      go : (b : Bool) → l.tracked ≡ b → has (if b then l.index ∷ [] else []) c ≡ false → nat_eq l.index c ≡ false
      go true e k = or_none (nat_eq l.index c) k
      go false e k = here (nat_eq l.index c) refl
        where
          here : (n : Bool) → nat_eq l.index c ≡ n → n ≡ false
          here true q = clashes (m.tracked l.index) (ap m.tracked (nat_same l.index c q) ∙ t) (tr ∙ e)
          here false q = refl

  kept_wrote : (l : LoopParts) (n : ℤ) (x y : ℕ → ℤ) → m.tracked l.index ≡ l.tracked → Wrote m l.index n x y → Kept m (own_cells l) [] x y
  kept_wrote l n x y tr w = record { cells = λ c t h. w.cells c t (own_out l c tr t h); foreign = λ u r f. w.foreign u r }

  -- the index became the value of a form
  does_becomes : (l : LoopParts) (f : Option Affine) (n : ℤ) (x y : ℕ → ℤ) → m.tracked l.index ≡ l.tracked → Wrote m l.index n x y → ((p : Point) → AtStart m x p → l.tracked ≡ true → ValueAt p f n) → Does m (index_becomes l f) x y
  does_becomes l f n x y tr w h = record {
    relates = λ p st en. becomes_holds l f p n (λ e. (en l.index (tr ∙ e) (own_in l e) ∙ w.there, h p st e));
    kept = kept_wrote l n x y tr w;
  }

  -- a loop with a constant step, begun at x, where its expressions have these values; its iteration changes tracked cells alone, and the index
  module _ (l : LoopParts) (t : Transformer) (s a b : ℤ) (x x1 : ℕ → ℤ) (step : l.step ≡ Some s) (tr : m.tracked l.index ≡ l.tracked) (trs : Tracks m t.cells) (sub : (c : ℕ) → has (own_cells l) c ≡ true → has t.cells c ≡ true) (mf : Means m l.first x a) (ml : Means m l.last x b) (begun : Wrote m l.index a x x1) where
    pub does_start : Does m (start l) x x1
    does_start = does_becomes l (if_counted l.step l.first) a x x1 tr begun (λ p st e. subst (λ o. ValueAt p (if_counted o l.first) a) (sym step) (means_at m l.first x a p mf st))

    pub does_next : (n : ℤ) (w z : ℕ → ℤ) → w (m.unit l.index) ≡ n → Wrote m l.index (n +ℤ s) w z → Does m (next l) w z
    does_next n w z e wr = does_becomes l (stepped l.index l.step) (n +ℤ s) w z tr wr (λ p st q. subst (λ o. ValueAt p (stepped l.index o) (n +ℤ s)) (sym step) (step_value l.index s n p (st l.index (tr ∙ q) ∙ e)))

    pub does_turn : (n : ℤ) (y w z : ℕ → ℤ) → Does m l.body y w → w (m.unit l.index) ≡ n → Wrote m l.index (n +ℤ s) w z → Does m (iteration l) y z
    does_turn n y w z d e wr = does_then m l.body (next l) y w z d (does_next n w z e wr)

    own_gone : (c : ℕ) → has t.cells c ≡ false → has (own_cells l) c ≡ false
    own_gone c e = go (has (own_cells l) c) refl
      where
        go : (g : Bool) → has (own_cells l) c ≡ g → g ≡ false
        go true h = clashes (has t.cells c) (sub c h) e
        go false h = refl

    kept_start : Kept m t.cells t.foreign x x1
    kept_start = record { cells = λ c r e. does_start.kept.cells c r (own_gone c e); foreign = λ u r f. begun.foreign u r }

    kept_to : (y : ℕ → ℤ) → Chain m t x1 y → Kept m t.cells t.foreign x y
    kept_to y ch =
        let k = kept_chain m t x1 y ch in
        record { cells = λ c r e. k.cells c r e ∙ kept_start.cells c r e; foreign = λ u r f. k.foreign u r f ∙ kept_start.foreign u r f }

    -- ---- its rows

    guard_holds : (p : Point) → AtStart m x p → NotBeyond (goes_up s) a b → HoldsAll p (guard l)
    guard_holds p st h = subst (λ o. HoldsAll p (within_rows o l.first l.last)) (sym step) (within_rows_hold s l.first l.last p a b (means_at m l.first x a p mf st) (means_at m l.last x b p ml st) h)

    unguard_holds : (p : Point) → AtStart m x p → Beyond (goes_up s) a b → HoldsAll p (unguard l)
    unguard_holds p st h = subst (λ o. HoldsAll p (beyond_rows o l.first l.last)) (sym step) (beyond_rows_hold s l.first l.last p a b (means_at m l.first x a p mf st) (means_at m l.last x b p ml st) h)

    -- of a variable that is the number n; last has its value at p
    inside_holds : (v : Var) (n : ℤ) (p : Point) → (l.tracked ≡ true → p v ≡ n) → ValueAt p l.last b → NotBeyond (goes_up s) n b → HoldsAll p (inside l v)
    inside_holds v n p e k h = subst (λ o. HoldsAll p (within_rows o (index_form l v) l.last)) (sym step) (within_rows_hold s (index_form l v) l.last p n b (index_at l v p n e) k h)

    past_holds : (v : Var) (n : ℤ) (p : Point) → (l.tracked ≡ true → p v ≡ n) → ValueAt p l.last b → Beyond (goes_up s) n b → HoldsAll p (beyond_last l v)
    past_holds v n p e k h = subst (λ o. HoldsAll p (beyond_rows o (index_form l v) l.last)) (sym step) (beyond_rows_hold s (index_form l v) l.last p n b (index_at l v p n e) k h)

    counted : (p : Point) → HoldsAll p (hull (zero_iterations l t) (some_iterations l t).system).rows → HoldsAll p (loop_transformer l t).system.rows
    counted p h = subst (λ o. HoldsAll p (counted_by o l t).rows) (sym step) h

    -- ---- the transformer

    -- no iteration
    pub does_zero : Beyond (goes_up s) a b → Does m (loop_transformer l t) x x1
    does_zero h = record {
      relates = λ p st en. counted p (hull_holds (zero_iterations l t) (some_iterations l t).system p (inl
          (push_rows_holds (start l).system (unguard l ++ equals (others t.cells (start l).cells)) p (does_start.relates p st (λ c r e. en c r (sub c e)))
          ((append_all p (unguard l) (equals (others t.cells (start l).cells))).0 (
            unguard_holds p st h,
            equals_hold m t.cells (start l).cells x x1 p trs st (λ c e. en c (trs c e) e) does_start.kept.cells,
          )))));
      kept = kept_start;
    }

    -- at least one iteration: the last begins at y
    pub does_some : NotBeyond (goes_up s) a b → (y z : ℕ → ℤ) → Chain m t x1 y → NotBeyond (goes_up s) (y (m.unit l.index)) b → Does m t y z → Beyond (goes_up s) (z (m.unit l.index)) b → Does m (loop_transformer l t) x z
    does_some g y z ch n d e =
        let first = with_rows (start l) (guard l) in
        let d1 : Does m first x x1 = does_rows (start l) (guard l) x x1 does_start (λ p st en. guard_holds p st g) in
        let d2 : Does m (followed first (iterate t)) x y = does_then m first (iterate t) x x1 y d1 (does_closed m t x1 y trs ch) in
        let d3 : Does m (first_iterations l t) x y = does_rows (followed first (iterate t)) (inside l (Exit l.index)) x y d2 (λ p st en. inside_holds (Exit l.index) (y (m.unit l.index)) p (λ q. en l.index (tr ∙ q) (left_in first.cells t.cells l.index (own_in l q))) (means_at m l.last x b p ml st) n) in
        let d4 : Does m (followed (first_iterations l t) t) x z = does_then m (first_iterations l t) t x y z d3 d in
        let d5 : Does m (some_iterations l t) x z = does_rows (followed (first_iterations l t) t) (beyond_last l (Exit l.index)) x z d4 (λ p st en. past_holds (Exit l.index) (z (m.unit l.index)) p (λ q. en l.index (tr ∙ q) (left_in (first_iterations l t).cells t.cells l.index (left_in first.cells t.cells l.index (own_in l q)))) (means_at m l.last x b p ml st) e) in
        record {
          relates = λ p st en. counted p (hull_holds (zero_iterations l t) (some_iterations l t).system p (inr (d5.relates p st (λ c r h. en c r (all_in c h)))));
          kept = record { cells = λ c r h. d.kept.cells c r h ∙ (kept_to y ch).cells c r h; foreign = λ u r f. d.kept.foreign u r f ∙ (kept_to y ch).foreign u r f };
        }
      where
        all_in : (c : ℕ) → has (some_iterations l t).cells c ≡ true → has t.cells c ≡ true
        all_in c h = ⊎_elim (λ k. ⊎_elim (λ j. sub c j) (λ j. j) (joined_in (own_cells l) t.cells c k)) (λ k. k) (joined_in (joined_cells (own_cells l) t.cells) t.cells c h)

    -- ---- what holds

    module _ (P : System) (hp : HoldsAt m P x) where
      holds_begun : NotBeyond (goes_up s) a b → HoldsAt m (before_iterations l P) x1
      holds_begun g = holds_apply m (start l) (push_rows P (guard l)) x x1 (λ p st. push_rows_holds P (guard l) p (hp p st) (guard_holds p st g)) does_start

      if_stays_holds : (r : System) (rs : List Row) (y : ℕ → ℤ) (p : Point) → HoldsAll p r.rows → (stays t.cells l.last ≡ true → HoldsAll p rs) → HoldsAll p (if_stays l t r rs).rows
      if_stays_holds r rs y p h k = go (stays t.cells l.last) k
        where
          go : (g : Bool) → (g ≡ true → HoldsAll p rs) → HoldsAll p (if g then push_rows r rs else r).rows
          go true f = push_rows_holds r rs p h (f refl)
          go false f = h

      -- at the beginning of each iteration
      pub holds_turn : NotBeyond (goes_up s) a b → (y : ℕ → ℤ) → Chain m t x1 y → NotBeyond (goes_up s) (y (m.unit l.index)) b → HoldsAt m (at_iteration l t P) y
      holds_turn g y ch n p st =
          let reached = apply (iterate t) (before_iterations l P) in
          let at_y = holds_apply m (iterate t) (before_iterations l P) x1 y (holds_begun g) (does_closed m t x1 y trs ch) p st in
          let last = λ (e : stays t.cells l.last ≡ true). means_at m l.last y b p (means_stays t.cells t.foreign l.last x y b e ml (kept_to y ch)) st in
          subst (λ o. HoldsAll p (iteration_by o l t P).rows) (sym step)
          ((clean_same p (if_stays l t reached (inside l (Cell l.index)))).0
          (if_stays_holds reached (inside l (Cell l.index)) y p at_y (λ e. inside_holds (Cell l.index) (y (m.unit l.index)) p (λ q. st l.index (tr ∙ q)) (last e) n)))

      -- after no iteration
      pub holds_zero : Beyond (goes_up s) a b → (Q : System) → HoldsAt m (after_loop l t P Q) x1
      holds_zero h Q p st =
          let none = apply (start l) (push_rows P (unguard l)) in
          let some = if_stays l t (apply (next l) Q) (beyond_last l (Cell l.index)) in
          subst (λ o. HoldsAll p (end_by o l t P Q).rows) (sym step)
          (hull_holds none some p (inl (holds_apply m (start l) (push_rows P (unguard l)) x x1 (λ q sq. push_rows_holds P (unguard l) q (hp q sq) (unguard_holds q sq h)) does_start p st)))

      -- after the last iteration, whose body ends at w with the index n
      pub holds_some : (Q : System) (n : ℤ) (w z : ℕ → ℤ) → HoldsAt m Q w → w (m.unit l.index) ≡ n → Wrote m l.index (n +ℤ s) w z → Chain m t x1 z → Beyond (goes_up s) (z (m.unit l.index)) b → HoldsAt m (after_loop l t P Q) z
      holds_some Q n w z hq e wr ch h p st =
          let none = apply (start l) (push_rows P (unguard l)) in
          let done = apply (next l) Q in
          let at_z = holds_apply m (next l) Q w z hq (does_next n w z e wr) p st in
          let last = λ (k : stays t.cells l.last ≡ true). means_at m l.last z b p (means_stays t.cells t.foreign l.last x z b k ml (kept_to z ch)) st in
          subst (λ o. HoldsAll p (end_by o l t P Q).rows) (sym step)
          (hull_holds none (if_stays l t done (beyond_last l (Cell l.index))) p
          (inr (if_stays_holds done (beyond_last l (Cell l.index)) z p at_z (λ k. past_holds (Cell l.index) (z (m.unit l.index)) p (λ q. st l.index (tr ∙ q)) (last k) h))))
