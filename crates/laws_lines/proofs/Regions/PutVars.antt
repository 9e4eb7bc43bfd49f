-- The variables of a system in which exits of cells are replaced by what they are: no such exit is left.
use Rattle.std.proofs.Common.{◌≡◌, ◌⊎◌, inl, inr, ⊎_elim, ℕ, Bool, true, false, ◌||◌, List, [], ◌∷◌, Option, Some, None, refl, sym, ap, ◌∙◌, subst, nat_eq, pos, neg_ℤ, ◌*ℤ◌}
use Rattle.std.specs.Prelude.{if◌then◌else◌}
use Rattle.std.proofs.lemmas.Bool.{or_left, or_right}
use Rattle.affine_systems.specs.declared.row.Var.{Var}
use Rattle.affine_systems.specs.declared.row.Var.TheVariants.{Exit}
use Rattle.affine_systems.specs.declared.row.Term.{Term}
use Rattle.affine_systems.specs.declared.row.Row.{Row}
use Rattle.affine_systems.specs.declared.row.System.{System}
use Rattle.affine_systems.specs.Terms.{var_eq}
use Rattle.affine_systems.specs.Points.{only, factor_of}
use Rattle.affine_systems.specs.Normal.{Normal, Kept, Always, Never, TooBig, normal}
use Rattle.affine_systems.specs.Tidy.{by_row, tidy}
use Rattle.affine_systems.specs.Calls.{unless_too_big, substitute}
use Rattle.affine_systems.proofs.TermLaws.{true-var_eq}
use Rattle.affine_systems.proofs.AscendLaws.{ascends-combined}
use Rattle.affine_systems.proofs.LackLaws.{RowsNil, tidy_nil}
use Rattle.preconditions.specs.transformer_algebra.Cells.{has}
use Rattle.in_out_regions.specs.region_sets.Naming.{in_terms}
use Rattle.in_out_regions.specs.region_sets.Compose.{is_exit_row, exit_row, on_row, put_exits}
use Rattle.laws_lines.specs.Variables.{EachVar}
use Rattle.laws_lines.proofs.RowVars.{each-combined, Given, neat_given, over_lasts}
use Rattle.laws_lines.proofs.SystemVars.{IsNeat, AreGiven, system_more, tidy_neat, rows_without}
use Rattle.in_out_regions.proofs.RegionSets.ComposeLaws.{Says, says, other_exits, exit_nil}
use Rattle.fx_lists.proofs.Options.{none_some, some_is}
use Rattle.fx_lists.proofs.Numbers.{same_is as nat_same, nat_eq_same}
use Rattle.fx_lists.proofs.Booleans.{clash as clashes}
use Rattle.in_out_regions.specs.region_sets.Putting.{settled_by, normal_form, put_in, before_rows, put_in_all, put_row}
use Rattle.in_out_regions.proofs.RegionSets.PutLaws.{all_gone}

-- ---- which variables rows have

module _ (such : Var → Type 0) where
  abbrev pub GivenIf : Option Row → Type 0
  GivenIf None = Unit {0}
  GivenIf (Some r) = Given such r

  abbrev pub NormalGiven : Normal → Type 0
  NormalGiven (Kept s) = Given such s
  NormalGiven Always = Unit {0}
  NormalGiven Never = Unit {0}
  NormalGiven TooBig = Unit {0}

  pub normal_given : (r : Row) → Given such r → NormalGiven (normal false r)
  normal_given r g = go (normal false r) refl
    where
      go : (n : Normal) → normal false r ≡ n → NormalGiven n
      go (Kept s) e = neat_given false such s ((over_lasts such false).of_normal r s g e)
      go Always e = tt
      go Never e = tt
      go TooBig e = tt

  pub unless_given : (r : Row) (n : Normal) → Given such r → NormalGiven n → GivenIf (unless_too_big n r)
  unless_given r (Kept s) g k = k
  unless_given r Always g k = g
  unless_given r Never g k = g
  unless_given r TooBig g k = tt

  settled_given : (r : Row) (n : Normal) → Given such r → NormalGiven n → Given such (settled_by n r)
  settled_given r (Kept s) g k = k
  settled_given r Always g k = g
  settled_given r Never g k = (tt, tt)
  settled_given r TooBig g k = g

  pub form_given : (o : Option Row) → GivenIf o → GivenIf (normal_form o)
  form_given None g = tt
  form_given (Some r) g = settled_given r (normal false r) g (normal_given r g)

  pub by_row_given : (r : Row) (v : Var) (e : Row) → Given such r → Given such e → Given such (by_row r v e)
  by_row_given r v e g h =
      let c = neg_ℤ (factor_of v r.terms *ℤ factor_of v e.terms) in
      (ascends-combined (pos 1) r.terms c e.terms, each-combined such (pos 1) r.terms c e.terms g.1 h.1)

  put_given : (v : Var) (e r : Row) → Given such e → Given such r → GivenIf (put_in v e r)
  put_given v e r h g = go (in_terms v r.terms)
    where
      made : Given such (by_row r v e)
      made = by_row_given r v e g h

      go : (b : Bool) → GivenIf (if b then normal_form (substitute r v e) else Some r)
      go true = form_given (substitute r v e) (unless_given (by_row r v e) (normal false (by_row r v e)) made (normal_given (by_row r v e) made))
      go false = g

  pub before_given : (o : Option Row) (rs : List Row) → GivenIf o → AreGiven such rs → AreGiven such (before_rows o rs)
  before_given None rs h k = k
  before_given (Some r) rs h k = (h, k)

  pub all_given : (v : Var) (e : Row) (rs : List Row) → Given such e → AreGiven such rs → AreGiven such (put_in_all v e rs)
  all_given v e [] h k = tt
  all_given v e (r ∷ rs) h k = before_given (put_in v e r) (put_in_all v e rs) (put_given v e r h k.0) (all_given v e rs h k.1)

-- what is known of the variables that stand in terms
each_in : (such other : Var → Type 0) (ts : List Term) → EachVar such ts → ((v : Var) → in_terms v ts ≡ true → such v → other v) → EachVar other ts
each_in such other [] h f = tt
each_in such other (t ∷ ts) h f =
    (f t.var (or_left (var_eq t.var t.var) (in_terms t.var ts) (true-var_eq t.var t.var refl)) h.0, each_in such other ts h.1 (λ v k. f v (or_right (var_eq v t.var) (in_terms v ts) k)))

-- ---- the exits of some cells

-- such a variable, or the exit of one of the cells
abbrev pub OrExit : (Var → Type 0) → List ℕ → Var → Type 0
OrExit such cs v = such v ⊎ ((c : ℕ) × (has cs c ≡ true) × (v ≡ Exit c))

-- a row that says what an exit is has no other
exit_row_over : (such : Var → Type 0) (cs ds : List ℕ) (c : ℕ) (e : Row) → Says c e → has cs c ≡ true → Given (OrExit such ds) e → Given (OrExit such cs) e
exit_row_over such cs ds c e s k g = (g.0, each_in (OrExit such ds) (OrExit such cs) e.terms g.1 mine)
  where
    mine : (v : Var) → in_terms v e.terms ≡ true → OrExit such ds v → OrExit such cs v
    mine v i (inl h) = inl h
    mine v i (inr d) =
        let q : c ≡ d.0 = other_exits c d.0 e.terms s.other (subst (λ (w : Var). in_terms w e.terms ≡ true) d.2 i) in
        inr (c, k, d.2 ∙ ap (λ (n : ℕ). Exit n) (sym q))

record RowFound (such : Var → Type 0) (ds : List ℕ) (c : ℕ) (e : Row) : Type 0 where
  row_says : Says c e
  given : Given (OrExit such ds) e

row_found : (such : Var → Type 0) (ds : List ℕ) (c : ℕ) (es : List Row) (e : Row) → AreGiven (OrExit such ds) es → exit_row c es ≡ Some e → RowFound such ds c e
row_found such ds c [] e h q = none_some e q
row_found such ds c (f ∷ es) e h q = go (is_exit_row c f) refl q (λ k. row_found such ds c es e h.1 k)
  where
    go : (b : Bool) → is_exit_row c f ≡ b → (if b then Some f else exit_row c es) ≡ Some e → (exit_row c es ≡ Some e → RowFound such ds c e) → RowFound such ds c e
    go true i k ih = subst (λ (g : Row). RowFound such ds c g) (some_is f e k) (record { row_says = says c f i; given = h.0 })
    go false i k ih = ih k

-- what putting in the rows of some cells leaves
record Left (such : Var → Type 0) (all cs : List ℕ) (a b : System) : Type 0 where
  given : AreGiven (OrExit such all) b.rows
  off : (c : ℕ) → RowsNil (only (Exit c)) a.rows → RowsNil (only (Exit c)) b.rows
  gone : (c : ℕ) → has cs c ≡ true → RowsNil (only (Exit c)) b.rows

left : (such : Var → Type 0) (all ds : List ℕ) (es : List Row) → AreGiven (OrExit such ds) es → (cs : List ℕ) → ((c : ℕ) → has cs c ≡ true → has all c ≡ true) → (a b : System) → AreGiven (OrExit such all) a.rows → put_exits cs es a ≡ Some b → Left such all cs a b
left such all ds es h [] sub a b g q = subst (λ (z : System). Left such all [] a z) (some_is a b q) (record { given = g; off = λ c k. k; gone = λ c k. clashes false k refl })
left such all ds es h (c ∷ cs) sub a b g q = go (exit_row c es) refl q (λ a2 g2 k. left such all ds es h cs (λ z i. sub z (or_right (nat_eq c z) (has cs z) i)) a2 b g2 k)
  where
    one : (z : ℕ) (i : Bool) → nat_eq c z ≡ i → (i || has cs z) ≡ true → (has cs z ≡ true → RowsNil (only (Exit z)) b.rows) → RowsNil (only (Exit c)) b.rows → RowsNil (only (Exit z)) b.rows
    one z true k i f n = subst (λ (j : ℕ). RowsNil (only (Exit j)) b.rows) (nat_same c z k) n
    one z false k i f n = f i

    go : (w : Option Row) → exit_row c es ≡ w → on_row w (λ e. put_exits cs es (put_row (Exit c) e a)) ≡ Some b → ((a2 : System) → AreGiven (OrExit such all) a2.rows → put_exits cs es a2 ≡ Some b → Left such all cs a2 b) → Left such all (c ∷ cs) a b
    go None f k ih = none_some b k
    go (Some e) f k ih =
        let w = row_found such ds c es e h f in
        let mine = sub c (or_left (nat_eq c c) (has cs c) (nat_eq_same c)) in
        let r = ih (put_row (Exit c) e a) (all_given (OrExit such all) (Exit c) e a.rows (exit_row_over such all ds c e w.row_says mine w.given) g) k in
        record {
          given = r.given;
          off = λ z i. r.off z (exit_nil c z e a.rows w.row_says i);
          gone = λ z i. one z (nat_eq c z) refl i (λ l. r.gone z l) (r.off c (all_gone (Exit c) e a.rows w.row_says.unit));
        }

-- no exit is left
pub put_neat : (such : Var → Type 0) (cs ds : List ℕ) (es : List Row) (a b : System) → AreGiven (OrExit such ds) es → AreGiven (OrExit such cs) a.rows → put_exits cs es a ≡ Some b → IsNeat such (tidy b)
put_neat such cs ds es a b h g q =
    let r = left such cs ds es h cs (λ c k. k) a b g q in
    let bad : Var → Type 0 = λ w. (c : ℕ) × (has cs c ≡ true) × (w ≡ Exit c) in
    system_more (λ w. OrExit such cs w × (bad w → ⊥)) such (λ w p. ⊎_elim (λ i. i) (λ i. absurd (p.1 i)) p.0) (tidy b)
    (rows_without false (OrExit such cs) bad (tidy b).rows (tidy_neat (OrExit such cs) b r.given)
    (λ w i. subst (λ (v : Var). RowsNil (only v) (tidy b).rows) (sym i.2) (tidy_nil (only (Exit i.0)) b (r.gone i.0 i.1))))
