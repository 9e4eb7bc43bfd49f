-- What putting in what a row says of a variable does to the points of rows, and to the variables that they have.
use Rattle.std.proofs.Common.{◌≡◌, List, [], ◌∷◌, ◌||◌, Bool, true, false, refl, ◌↔◌, Option, Some, None}
use Rattle.std.specs.Prelude.{if◌then◌else◌}
use Rattle.affine_systems.specs.declared.row.Var.{Var}
use Rattle.affine_systems.specs.declared.row.Row.{Row}
use Rattle.affine_systems.specs.Points.{Point, value, Holds, HoldsAll, only, factor_of}
use Rattle.affine_systems.specs.Normal.{Normal, Kept, Always, Never, TooBig, normal}
use Rattle.affine_systems.specs.Tidy.{is_unit, by_row}
use Rattle.affine_systems.specs.Calls.{unless_too_big, substitute}
use Rattle.affine_systems.proofs.NormalLaws.{Agrees, normal_agrees}
use Rattle.affine_systems.proofs.TidyLaws.{not_false_row}
use Rattle.affine_systems.proofs.CallLaws.{HoldsIf, substitute_same}
use Rattle.affine_systems.proofs.LackLaws.{Nil, RowsNil, normal_nil, NormalNil}
use Rattle.region_sets.specs.Naming.{in_terms}
use Rattle.region_sets.specs.Putting.{settled_by, normal_form, put_in, before_rows, put_in_all, is_lost, loses_row}
use Rattle.region_sets.proofs.NilLaws.{by_row_nil, by_row_gone, off_terms}
use Rattle.fx_lists.proofs.Booleans.{clash as clashes}

pub settled_same : (q : Point) (P : Type 0) (o : Option Row) → HoldsIf q P o → HoldsIf q P (normal_form o)
settled_same q P None h = h
settled_same q P (Some r) h = go (normal false r) (normal_agrees q false r)
  where
    go : (n : Normal) → Agrees q (Holds q r) n → P ↔ Holds q (settled_by n r)
    go (Kept s) a = ((λ k. a.0 (h.0 k)), (λ k. h.1 (a.1 k)))
    go Always a = h
    go Never a = ((λ k. absurd (a (h.0 k))), (λ k. absurd (not_false_row q k)))
    go TooBig a = h

-- at a point of the equal row it says the same
put_same : (q : Point) (v : Var) (e r : Row) → value q e.terms ≡ e.bound → HoldsIf q (Holds q r) (put_in v e r)
put_same q v e r h = go (in_terms v r.terms)
  where
    go : (b : Bool) → HoldsIf q (Holds q r) (if b then normal_form (substitute r v e) else Some r)
    go true = settled_same q (Holds q r) (substitute r v e) (substitute_same q r v e h)
    go false = ((λ k. k), (λ k. k))

pub put_holds : (q : Point) (v : Var) (e : Row) (rs : List Row) → value q e.terms ≡ e.bound → HoldsAll q rs → HoldsAll q (put_in_all v e rs)
put_holds q v e [] h k = tt
put_holds q v e (r ∷ rs) h k = go (put_in v e r) (put_same q v e r h) (put_holds q v e rs h k.1)
  where
    go : (o : Option Row) → HoldsIf q (Holds q r) o → HoldsAll q (put_in_all v e rs) → HoldsAll q (before_rows o (put_in_all v e rs))
    go None s ih = ih
    go (Some p) s ih = (s.0 k.0, ih)

pub put_back : (q : Point) (v : Var) (e : Row) (rs : List Row) → value q e.terms ≡ e.bound → loses_row v e rs ≡ false → HoldsAll q (put_in_all v e rs) → HoldsAll q rs
put_back q v e [] h l k = tt
put_back q v e (r ∷ rs) h l k = go (put_in v e r) (put_same q v e r h) l k (λ m n. put_back q v e rs h m n)
  where
    go : (o : Option Row) → HoldsIf q (Holds q r) o → (is_lost o || loses_row v e rs) ≡ false → HoldsAll q (before_rows o (put_in_all v e rs)) → (loses_row v e rs ≡ false → HoldsAll q (put_in_all v e rs) → HoldsAll q rs) → Holds q r × HoldsAll q rs
    go None s l k ih = clashes true refl l
    go (Some p) s l k ih = (s.1 k.0, ih l k.1)

-- ---- which variables rows have

abbrev pub NilIf : Point → Option Row → Type 0
NilIf u None = Unit {0}
NilIf u (Some r) = Nil u r

pub too_big_nil : (u : Point) (r : Row) (n : Normal) → NormalNil u n → Nil u r → NilIf u (unless_too_big n r)
too_big_nil u r (Kept s) k h = k
too_big_nil u r Always k h = h
too_big_nil u r Never k h = h
too_big_nil u r TooBig k h = tt

pub settled_nil : (u : Point) (o : Option Row) → NilIf u o → NilIf u (normal_form o)
settled_nil u None h = h
settled_nil u (Some r) h = go (normal false r) (normal_nil u false r h)
  where
    go : (n : Normal) → NormalNil u n → Nil u (settled_by n r)
    go (Kept s) k = k
    go Always k = h
    go Never k = refl
    go TooBig k = h

pub substitute_nil : (u : Point) (r : Row) (v : Var) (e : Row) → Nil u (by_row r v e) → NilIf u (normal_form (substitute r v e))
substitute_nil u r v e h = settled_nil u (substitute r v e) (too_big_nil u (by_row r v e) (normal false (by_row r v e)) (normal_nil u false (by_row r v e) h) h)

-- the variable is gone
put_gone : (v : Var) (e r : Row) → is_unit (factor_of v e.terms) ≡ true → NilIf (only v) (put_in v e r)
put_gone v e r s = go (in_terms v r.terms) refl
  where
    go : (b : Bool) → in_terms v r.terms ≡ b → NilIf (only v) (if b then normal_form (substitute r v e) else Some r)
    go true k = substitute_nil (only v) r v e (by_row_gone r v e s)
    go false k = off_terms v r.terms k

put_nil : (u : Point) (v : Var) (e r : Row) → Nil u e → Nil u r → NilIf u (put_in v e r)
put_nil u v e r z h = go (in_terms v r.terms)
  where
    go : (b : Bool) → NilIf u (if b then normal_form (substitute r v e) else Some r)
    go true = substitute_nil u r v e (by_row_nil u r v e h z)
    go false = h

pub before_nil : (u : Point) (o : Option Row) (rs : List Row) → NilIf u o → RowsNil u rs → RowsNil u (before_rows o rs)
before_nil u None rs h k = k
before_nil u (Some r) rs h k = (h, k)

pub all_gone : (v : Var) (e : Row) (rs : List Row) → is_unit (factor_of v e.terms) ≡ true → RowsNil (only v) (put_in_all v e rs)
all_gone v e [] s = tt
all_gone v e (r ∷ rs) s = before_nil (only v) (put_in v e r) (put_in_all v e rs) (put_gone v e r s) (all_gone v e rs s)

pub all_nil : (u : Point) (v : Var) (e : Row) (rs : List Row) → Nil u e → RowsNil u rs → RowsNil u (put_in_all v e rs)
all_nil u v e [] z h = tt
all_nil u v e (r ∷ rs) z h = before_nil u (put_in v e r) (put_in_all v e rs) (put_nil u v e r z h.0) (all_nil u v e rs z h.1)
