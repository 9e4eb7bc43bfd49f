-- One variable in place of another, and what the calls keep, for their code.
use Rattle.std.proofs.Common.{◌≡◌, ◌↔◌, ◌<◌, ◌≤◌, ◌^◌, Bool, true, false, List, [], ◌∷◌, ◌++◌, map, length, ◌⊎◌, inl, inr, ⊎_elim, ℤ, pos, negsuc, ◌+ℤ◌, ◌-ℤ◌, ◌*ℤ◌, arith, ap, ap₂, refl, sym, subst, ◌∙◌, int_eq, unsigned_abs, Option, Some, None}
use Rattle.std.specs.Prelude.{if◌then◌else◌, IsNone}
use Rattle.std.proofs.lemmas.Int.{ints}
use Rattle.std.proofs.lemmas.Bool.Decides.{Decides-int_eq}
use Rattle.std.proofs.lemmas.Bool.{cases_Bool}
use Rattle.affine_systems.specs.declared.row.Var.{Var}
use Rattle.affine_systems.specs.declared.row.Term.{Term}
use Rattle.affine_systems.specs.declared.row.Row.{Row}
use Rattle.affine_systems.specs.declared.row.System.{System}
use Rattle.affine_systems.specs.Terms.{var_eq, var_lt, term, renamed_terms, IsBefore, Ascends}
use Rattle.affine_systems.specs.Rows.{system, false_row, AllRows, combined_terms, renamed_row}
use Rattle.affine_systems.specs.Points.{Point, value, Holds, HoldsAll, moved, only, factor_of}
use Rattle.affine_systems.specs.Normal.{Normal, Kept, Always, Never, TooBig, normal}
use Rattle.affine_systems.specs.Tidy.{row_limit, is_unit, by_row, tidy}
use Rattle.affine_systems.specs.Eliminate.{cancelling}
use Rattle.affine_systems.specs.Given.{IsGiven, IsNormalAs, IsNormal, AreNormal, AreSmall, IsSmallRow}
use Rattle.affine_systems.specs.Laws.{KeepsPoints, AddsNoPoint, KeepsCommonPoints, AddsNoCommonPoint, RenamesPoints, RenamesNoPointMore, SaysTheSame}
use Rattle.affine_systems.specs.Calls.{one_by, unless_too_big, substitute}
use Rattle.affine_systems.proofs.Basics.{mul_comm}
use Rattle.affine_systems.proofs.TermLaws.{var_eq-true, true-var_eq}
use Rattle.affine_systems.proofs.TidyLaws.{tidy_holds, tidy_back}
use Rattle.affine_systems.proofs.ExactLaws.{value-moved}
use Rattle.affine_systems.proofs.CallLaws.{HoldsIf, append_all, value-renamed, renamed_same, substitute_same}
use Rattle.affine_systems.proofs.AscendLaws.{var_lt-other, var_eq-sym, before_later, factor_of-nil, factor_of-there, factor_of-before, factor_of-first, factor_below, below_factors, ascends-renamed, ascends-combined}
use Rattle.affine_systems.proofs.FitLaws.{tidy_small, small_given, sum_below, factor-combined}
use Rattle.affine_systems.proofs.PivotSteps.{by_row-cancelling}
use Rattle.affine_systems.proofs.ReducedLaws.{kept-reduced}

-- ---- factors determine ascending terms

not_zero : (z : ℤ) → int_eq z (pos 0) ≡ false → z ≡ pos 0 → ⊥
not_zero z e h = false_true (sym e ∙ (Decides-int_eq z (pos 0)).1 h) where
  false_true : false ≡ true → ⊥
  false_true k = cc

-- the first variables of two lists with the same factors are the same
same_first : (t : Term) (ts : List Term) (u : Term) (us : List Term) → Ascends (t ∷ ts) → Ascends (u ∷ us) → ((v : Var) → factor_of v (t ∷ ts) ≡ factor_of v (u ∷ us)) → t.var ≡ u.var
same_first t ts u us a b h =
    ⊎_elim (λ e. var_eq-true t.var u.var e)
    (λ e. ⊎_elim
    (λ l. absurd (not_zero t.factor a.0 (sym (factor_of-first t.var t ts a (true-var_eq t.var t.var refl)) ∙ (h t.var ∙ factor_of-before t.var (u ∷ us) (l, before_later t.var u.var us l b.1)))))
    (λ l. let m = var_lt-other t.var u.var e l in
    absurd (not_zero u.factor b.0 (sym (factor_of-first u.var u us b (true-var_eq u.var u.var refl)) ∙ (sym (h u.var) ∙ factor_of-before u.var (t ∷ ts) (m, before_later u.var t.var ts m a.1)))))
    (cases_Bool (var_lt t.var u.var)))
    (cases_Bool (var_eq t.var u.var))

pub same_factors : (ts us : List Term) → Ascends ts → Ascends us → ((v : Var) → factor_of v ts ≡ factor_of v us) → ts ≡ us
same_factors [] [] a b h = refl
same_factors [] (u ∷ us) a b h = absurd (not_zero u.factor b.0 (sym (factor_of-first u.var u us b (true-var_eq u.var u.var refl)) ∙ (sym (h u.var) ∙ factor_of-nil u.var)))
same_factors (t ∷ ts) [] a b h = absurd (not_zero t.factor a.0 (sym (factor_of-first t.var t ts a (true-var_eq t.var t.var refl)) ∙ (h t.var ∙ factor_of-nil t.var)))
same_factors (t ∷ ts) (u ∷ us) a b h =
    let e = same_first t ts u us a b h in
    let f : t.factor ≡ u.factor = sym (factor_of-first t.var t ts a (true-var_eq t.var t.var refl)) ∙ (h t.var ∙ factor_of-first t.var u us b (true-var_eq t.var u.var e)) in
    λ i. term (e i) (f i) ∷ same_factors ts us a.2 b.2 (λ v. rest e v (cases_Bool (var_eq v t.var))) i
  where
    rest : t.var ≡ u.var → (v : Var) → (var_eq v t.var ≡ true) ⊎ (var_eq v t.var ≡ false) → factor_of v ts ≡ factor_of v us
    rest e v (inl k) =
        let x = var_eq-true v t.var k in
        factor_of-before v ts (subst (λ (w : Var). IsBefore w ts) (sym x) a.1) ∙ sym (factor_of-before v us (subst (λ (w : Var). IsBefore w us) (sym (x ∙ e)) b.1))
    rest e v (inr k) =
        sym (factor_of-there v t ts k) ∙ (h v ∙ factor_of-there v u us (subst (λ (w : Var). var_eq v w ≡ false) e k))

-- ---- renamed terms

value-agree : (p q : Point) (ts : List Term) → ((v : Var) → p v ≡ q v) → value p ts ≡ value q ts
value-agree p q [] h = refl
value-agree p q (t ∷ ts) h = ap₂ (λ x y. (t.factor *ℤ x) +ℤ y) (h t.var) (value-agree p q ts h)

read_moved : (p : Point) (from to v : Var) → p (one_by from to v) ≡ moved p from (p to) v
read_moved p from to v =
    ⊎_elim
    (λ e. let f = true-var_eq from v (sym (var_eq-true v from e)) in
    ap (λ b. p (if b then to else v)) e ∙ ap (λ b. if b then p to else p v) (sym f))
    (λ e. let f = var_eq-sym v from e in
    ap (λ b. p (if b then to else v)) e ∙ ap (λ b. if b then p to else p v) (sym f))
    (cases_Bool (var_eq v from))

factor-renamed : (from to v : Var) (ts : List Term) → factor_of v (renamed_terms (one_by from to) ts) ≡ factor_of v ts +ℤ (factor_of from ts *ℤ (only v to -ℤ only v from))
unfolding factor_of
factor-renamed from to v ts =
    value-renamed (only v) (one_by from to) ts
    ∙ (value-agree (λ w. only v (one_by from to w)) (moved (only v) from (only v to)) ts (read_moved (only v) from to)
    ∙ value-moved (only v) from (only v to) ts)

renamed_is : (from to : Var) (ts us : List Term) → Ascends us → ((v : Var) → factor_of v us ≡ factor_of v ts +ℤ (factor_of from ts *ℤ (only v to -ℤ only v from))) → us ≡ renamed_terms (one_by from to) ts
renamed_is from to ts us a h = same_factors us (renamed_terms (one_by from to) ts) a (ascends-renamed (one_by from to) ts) (λ v. h v ∙ sym (factor-renamed from to v ts))

times_zero : (x y : ℤ) → x ≡ pos 0 → x *ℤ y ≡ pos 0
times_zero x y e = let m : x *ℤ y ≡ pos 0 *ℤ y = ap (λ z. z *ℤ y) e in omega (arith, ints, m)

-- the variable does not occur
pub renamed-absent : (from to : Var) (ts us : List Term) (f : ℤ) → Ascends ts → f ≡ factor_of from ts → f ≡ pos 0 → us ≡ ts → us ≡ renamed_terms (one_by from to) ts
renamed-absent from to ts us f a e z h =
    h ∙ renamed_is from to ts ts a (λ v. let m = times_zero (factor_of from ts) (only v to -ℤ only v from) (sym e ∙ z) in omega (arith, ints, m))

-- by itself
pub renamed-same : (from to : Var) (ts us : List Term) → Ascends ts → var_eq from to ≡ true → us ≡ ts → us ≡ renamed_terms (one_by from to) ts
renamed-same from to ts us a e h =
    h ∙ renamed_is from to ts ts a (λ v. let x : only v to ≡ only v from = ap (only v) (sym (var_eq-true from to e)) in
    let d : (only v to -ℤ only v from) ≡ pos 0 = omega (arith, ints, x) in
    let m = mul_comm (factor_of from ts) (only v to -ℤ only v from) in
    let z = times_zero (only v to -ℤ only v from) (factor_of from ts) d in omega (arith, ints, m, z))

-- the two terms whose multiple moves the factor
abbrev pub one_more : Var → Term
one_more to = term to (pos 1)

abbrev pub one_less : Var → Term
one_less from = term from (negsuc 0)

swap_small : (t u : Term) → (int_eq t.factor (pos 0) ≡ false) → (int_eq u.factor (pos 0) ≡ false) → unsigned_abs t.factor < 2 ^ 62 → unsigned_abs u.factor < 2 ^ 62 → var_lt t.var u.var ≡ true → AreSmall (t ∷ u ∷ [])
swap_small t u a b c d l = ((a, (l, tt), (b, tt, tt)), (c, (d, tt)))

pub swap_small_to : (from to : Var) → var_lt to from ≡ true → AreSmall (one_more to ∷ one_less from ∷ [])
swap_small_to from to l = swap_small (one_more to) (one_less from) refl refl (omega arith) (omega arith) l

pub swap_small_from : (from to : Var) → var_lt to from ≡ false → var_eq from to ≡ false → AreSmall (one_less from ∷ one_more to ∷ [])
swap_small_from from to l e = swap_small (one_less from) (one_more to) refl refl (omega arith) (omega arith) (var_lt-other to from (var_eq-sym from to e) l)

factor-swap : (v : Var) (t u : Term) → factor_of v (t ∷ u ∷ []) ≡ (t.factor *ℤ only v t.var) +ℤ ((u.factor *ℤ only v u.var) +ℤ pos 0)
unfolding factor_of
factor-swap v t u = refl

pub renamed-before : (from to : Var) (ts us : List Term) (f : ℤ) → f ≡ factor_of from ts → us ≡ combined_terms (pos 1) ts f (one_more to ∷ one_less from ∷ []) → us ≡ renamed_terms (one_by from to) ts
renamed-before from to ts us f e h =
    let sw = one_more to ∷ one_less from ∷ [] in
    h ∙ renamed_is from to ts (combined_terms (pos 1) ts f sw) (ascends-combined (pos 1) ts f sw)
    (λ v. let s = factor-swap v (one_more to) (one_less from) in
    let d : factor_of v sw ≡ (only v to -ℤ only v from) = s ∙ omega (arith, ints) in
    factor-combined v (pos 1) ts f sw ∙ (ap₂ (λ x y. (pos 1 *ℤ factor_of v ts) +ℤ (x *ℤ y)) e d ∙ omega (arith, ints)))

pub renamed-after : (from to : Var) (ts us : List Term) (f : ℤ) → f ≡ factor_of from ts → us ≡ combined_terms (pos 1) ts f (one_less from ∷ one_more to ∷ []) → us ≡ renamed_terms (one_by from to) ts
renamed-after from to ts us f e h =
    let sw = one_less from ∷ one_more to ∷ [] in
    h ∙ renamed_is from to ts (combined_terms (pos 1) ts f sw) (ascends-combined (pos 1) ts f sw)
    (λ v. let s = factor-swap v (one_less from) (one_more to) in
    let d : factor_of v sw ≡ (only v to -ℤ only v from) = s ∙ omega (arith, ints) in
    factor-combined v (pos 1) ts f sw ∙ (ap₂ (λ x y. (pos 1 *ℤ factor_of v ts) +ℤ (x *ℤ y)) e d ∙ omega (arith, ints)))

pub ruleset renamed_steps = (renamed-absent, renamed-same, renamed-before, renamed-after, swap_small_to, swap_small_from)

-- ---- rows of a system that fits

small_normal : (q : Bool) (rs : List Row) → AllRows (IsNormalAs q) rs → AllRows IsSmallRow rs
small_normal q [] h = tt
small_normal q (r ∷ rs) h = (tidy_small q r (inl (h.0.0, kept-reduced q r r h.0.0 h.0.1)), small_normal q rs h.1)

pub fits_small : (rs : List Row) → (length rs ≤ row_limit) × AreNormal false rs → AllRows IsSmallRow rs
fits_small rs h = ⊎_elim (λ e. subst (λ (ss : List Row). AllRows IsSmallRow ss) (sym e) (tidy_small false false_row (inr refl), tt)) (λ k. small_normal false rs k) h.1

pub given_small : (rs : List Row) → AllRows IsSmallRow rs → AllRows IsGiven rs
given_small [] h = tt
given_small (r ∷ rs) h = (small_given r h.0, given_small rs h.1)

pub fits_given : (rs : List Row) → (length rs ≤ row_limit) × AreNormal false rs → AllRows IsGiven rs
fits_given rs h = given_small rs (fits_small rs h)

pub given_append : (rs ss : List Row) → AllRows IsGiven rs → AllRows IsGiven ss → AllRows IsGiven (rs ++ ss)
given_append [] ss h k = k
given_append (r ∷ rs) ss h k = (h.0, given_append rs ss h.1 k)

-- ---- what the calls keep

pub tidy_keeps : (s : System) (rs : List Row) (t : System) → rs ≡ s.rows → t ≡ tidy (system rs s.weak) → KeepsPoints s t
tidy_keeps s rs t e h p k =
    let x : t ≡ tidy s = h ∙ ap (λ ss. tidy (system ss s.weak)) e in
    subst (λ (u : System). HoldsAll p u.rows) (sym x) (tidy_holds p s k)

pub tidy_adds_none : (s : System) (rs : List Row) (t : System) → rs ≡ s.rows → t ≡ tidy (system rs s.weak) → AddsNoPoint s t
tidy_adds_none s rs t e h w p k =
    let x : t ≡ tidy s = h ∙ ap (λ ss. tidy (system ss s.weak)) e in
    tidy_back p s (ap (λ (u : System). u.weak) (sym x) ∙ w) (subst (λ (u : System). HoldsAll p u.rows) x k)

pub common_keeps : (rs ss rows : List Row) (w : Bool) (t : System) → rows ≡ rs ++ ss → t ≡ tidy (system rows w) → KeepsCommonPoints rs ss t
common_keeps rs ss rows w t e h p a b =
    let x : t ≡ tidy (system (rs ++ ss) w) = h ∙ ap (λ us. tidy (system us w)) e in
    subst (λ (u : System). HoldsAll p u.rows) (sym x) (tidy_holds p (system (rs ++ ss) w) ((append_all p rs ss).0 (a, b)))

pub common_adds_none : (rs ss rows : List Row) (w : Bool) (t : System) → rows ≡ rs ++ ss → t ≡ tidy (system rows w) → AddsNoCommonPoint rs ss t
common_adds_none rs ss rows w t e h f p k =
    let x : t ≡ tidy (system (rs ++ ss) w) = h ∙ ap (λ us. tidy (system us w)) e in
    (append_all p rs ss).1 (tidy_back p (system (rs ++ ss) w) (ap (λ (u : System). u.weak) (sym x) ∙ f) (subst (λ (u : System). HoldsAll p u.rows) x k))

pub rename_keeps : (s : System) (from to : Var) (rows : List Row) (t : System) → rows ≡ map (renamed_row (one_by from to)) s.rows → t ≡ tidy (system rows s.weak) → RenamesPoints from to s t
rename_keeps s from to rows t e h p k =
    let x : t ≡ tidy (system (map (renamed_row (one_by from to)) s.rows) s.weak) = h ∙ ap (λ us. tidy (system us s.weak)) e in
    subst (λ (u : System). HoldsAll p u.rows) (sym x) (tidy_holds p (system (map (renamed_row (one_by from to)) s.rows) s.weak) ((renamed_same p (one_by from to) s.rows).0 k))

pub rename_adds_none : (s : System) (from to : Var) (rows : List Row) (t : System) → rows ≡ map (renamed_row (one_by from to)) s.rows → t ≡ tidy (system rows s.weak) → RenamesNoPointMore from to s t
rename_adds_none s from to rows t e h w p k =
    let x : t ≡ tidy (system (map (renamed_row (one_by from to)) s.rows) s.weak) = h ∙ ap (λ us. tidy (system us s.weak)) e in
    (renamed_same p (one_by from to) s.rows).1 (tidy_back p (system (map (renamed_row (one_by from to)) s.rows) s.weak) (ap (λ (u : System). u.weak) (sym x) ∙ w) (subst (λ (u : System). HoldsAll p u.rows) x k))

-- ---- substitution

pub normal_small_row : (r : Row) → IsNormal r → IsSmallRow r
normal_small_row r h = tidy_small false r (inl (h.0, kept-reduced false r r h.0 h.1))

pub substitute_is : (r : Row) (v : Var) (e new : Row) (o : Option Row) → is_unit (factor_of v e.terms) ≡ true → new ≡ cancelling (factor_of v e.terms) r e (factor_of v r.terms) → o ≡ unless_too_big (normal false new) new → o ≡ substitute r v e
substitute_is r v e new o u h k =
    let x : new ≡ by_row r v e = h ∙ sym (by_row-cancelling r v e u) in
    k ∙ ap (λ s. unless_too_big (normal false s) s) x

none_too_big : (n : Normal) (r : Row) → IsNone (unless_too_big n r) ↔ (n ≡ TooBig)
none_too_big (Kept s) r = ((λ h. let e = h in cc), (λ e. cc))
none_too_big Always r = ((λ h. let e = h in cc), (λ e. cc))
none_too_big Never r = ((λ h. let e = h in cc), (λ e. cc))
none_too_big TooBig r = ((λ h. refl), (λ e. refl))

pub substitute_none : (r : Row) (v : Var) (e : Row) (o : Option Row) → o ≡ substitute r v e → IsNone o ↔ (normal false (by_row r v e) ≡ TooBig)
substitute_none r v e o h = subst (λ (p : Option Row). IsNone p ↔ (normal false (by_row r v e) ≡ TooBig)) (sym h) (none_too_big (normal false (by_row r v e)) (by_row r v e))

pub substitute_says : (r : Row) (v : Var) (e : Row) (o : Option Row) → o ≡ substitute r v e → SaysTheSame r e o
substitute_says r v e o h = subst (SaysTheSame r e) (sym h) (go (substitute r v e) (λ p k. substitute_same p r v e k)) where
  go : (o : Option Row) → ((p : Point) → value p e.terms ≡ e.bound → HoldsIf p (Holds p r) o) → SaysTheSame r e o
  go None f = tt
  go (Some s) f = f

-- ---- renamed rows are given rows

factor_renamed_below : (from to v : Var) (ts : List Term) → AreSmall ts → unsigned_abs (factor_of v (renamed_terms (one_by from to) ts)) < 2 ^ 126
factor_renamed_below from to v ts h =
    let a = factor_below (2 ^ 62) v ts (omega arith) h.0 h.1 in
    let b = factor_below (2 ^ 62) from ts (omega arith) h.0 h.1 in
    let d : unsigned_abs (only v to -ℤ only v from) < 2 ^ 62 = only_apart v from to in
    let s = sum_below (pos 1) (factor_of v ts) (factor_of from ts) (only v to -ℤ only v from) (omega arith) a b d in
    let e : (pos 1 *ℤ factor_of v ts) +ℤ (factor_of from ts *ℤ (only v to -ℤ only v from)) ≡ factor_of v ts +ℤ (factor_of from ts *ℤ (only v to -ℤ only v from)) = omega (arith, ints) in
    subst (λ (z : ℤ). unsigned_abs z < 2 ^ 126) (sym (factor-renamed from to v ts ∙ sym e)) s
  where
    only_apart : (v from to : Var) → unsigned_abs (only v to -ℤ only v from) < 2 ^ 62
    only_apart v from to = go (var_eq v to) (var_eq v from) where
      go : (a b : Bool) → unsigned_abs ((if a then pos 1 else pos 0) -ℤ (if b then pos 1 else pos 0)) < 2 ^ 62
      go true true = omega arith
      go true false = omega arith
      go false true = omega arith
      go false false = omega arith

pub renamed_given : (from to : Var) (rs : List Row) → AllRows IsSmallRow rs → AllRows IsGiven (map (renamed_row (one_by from to)) rs)
renamed_given from to [] h = tt
renamed_given from to (r ∷ rs) h =
    let a = ascends-renamed (one_by from to) r.terms in (
      (a, omega (arith, h.0.1), below_factors (2 ^ 126) (renamed_terms (one_by from to) r.terms) a (λ v. factor_renamed_below from to v r.terms (h.0.0, h.0.2))),
      renamed_given from to rs h.1,
    )
