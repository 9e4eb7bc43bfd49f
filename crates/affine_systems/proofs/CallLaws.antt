-- What the calls that end in a tidy keep.
use Rattle.std.proofs.Common.{◌≡◌, ◌↔◌, false, ◌||◌, List, [], ◌∷◌, ◌++◌, map, Option, Some, None, ℤ, neg_ℤ, ◌*ℤ◌, arith, refl, sym, subst, ◌∙◌}
use Rattle.std.proofs.lemmas.Int.{ints}
use Rattle.affine_systems.specs.declared.row.Var.{Var}
use Rattle.affine_systems.specs.declared.row.Term.{Term}
use Rattle.affine_systems.specs.declared.row.Row.{Row}
use Rattle.affine_systems.specs.declared.row.System.{System}
use Rattle.affine_systems.specs.Terms.{renamed_terms}
use Rattle.affine_systems.specs.Rows.{system, renamed_row}
use Rattle.affine_systems.specs.Points.{Point, value, Meets, Holds, HoldsAll, factor_of}
use Rattle.affine_systems.specs.Normal.{Normal, Kept, Always, Never, TooBig, normal}
use Rattle.affine_systems.specs.Tidy.{by_row}
use Rattle.affine_systems.specs.Calls.{push_row, meet, one_by, rename, unless_too_big, substitute}
use Rattle.affine_systems.proofs.TermLaws.{value-add_term}
use Rattle.affine_systems.proofs.NormalLaws.{Agrees, normal_agrees}
use Rattle.affine_systems.proofs.TidyLaws.{tidy_holds, tidy_back, shifted_same}

pub append_all : (p : Point) (rs ss : List Row) → (HoldsAll p rs × HoldsAll p ss) ↔ HoldsAll p (rs ++ ss)
append_all p [] ss = ((λ h. h.1), (λ h. (tt, h)))
append_all p (r ∷ rs) ss =
    let ih = append_all p rs ss in
    ((λ h. (h.0.0, ih.0 (h.0.1, h.1))), (λ h. let k = ih.1 h.1 in ((h.0, k.0), k.1)))

pub push_row_holds : (p : Point) (s : System) (r : Row) → HoldsAll p s.rows × Holds p r → HoldsAll p (push_row s r).rows
push_row_holds p s r h = tidy_holds p (system (s.rows ++ r ∷ []) s.weak) ((append_all p s.rows (r ∷ [])).0 (h.0, (h.1, tt)))

pub push_row_back : (p : Point) (s : System) (r : Row) → (push_row s r).weak ≡ false → HoldsAll p (push_row s r).rows → HoldsAll p s.rows × Holds p r
push_row_back p s r w h = let k = (append_all p s.rows (r ∷ [])).1 (tidy_back p (system (s.rows ++ r ∷ []) s.weak) w h) in (k.0, k.1.0)

pub meet_holds : (p : Point) (a b : System) → HoldsAll p a.rows × HoldsAll p b.rows → HoldsAll p (meet a b).rows
meet_holds p a b h = tidy_holds p (system (a.rows ++ b.rows) (a.weak || b.weak)) ((append_all p a.rows b.rows).0 h)

pub meet_back : (p : Point) (a b : System) → (meet a b).weak ≡ false → HoldsAll p (meet a b).rows → HoldsAll p a.rows × HoldsAll p b.rows
meet_back p a b w h = (append_all p a.rows b.rows).1 (tidy_back p (system (a.rows ++ b.rows) (a.weak || b.weak)) w h)

pub value-renamed : (p : Point) (f : Var → Var) (ts : List Term) → value p (renamed_terms f ts) ≡ value (λ v. p (f v)) ts
value-renamed p f [] = refl
value-renamed p f (t ∷ ts) = let ih = value-renamed p f ts in value-add_term p (f t.var) t.factor (renamed_terms f ts) ∙ omega (arith, ints, ih)

pub renamed_same : (p : Point) (f : Var → Var) (rs : List Row) → HoldsAll (λ v. p (f v)) rs ↔ HoldsAll p (map (renamed_row f) rs)
renamed_same p f [] = ((λ h. h), (λ h. h))
renamed_same p f (r ∷ rs) =
    let e = value-renamed p f r.terms in
    let ih = renamed_same p f rs in
    ((λ h. (subst (λ (x : ℤ). Meets r.equal x r.bound) (sym e) h.0, ih.0 h.1)), (λ h. (subst (λ (x : ℤ). Meets r.equal x r.bound) e h.0, ih.1 h.1)))

-- a point is in the renamed system where the point with the old name's number is in the system
pub rename_holds : (p : Point) (s : System) (from to : Var) → HoldsAll (λ v. p (one_by from to v)) s.rows → HoldsAll p (rename s from to).rows
rename_holds p s from to h = tidy_holds p (system (map (renamed_row (one_by from to)) s.rows) s.weak) ((renamed_same p (one_by from to) s.rows).0 h)

pub rename_back : (p : Point) (s : System) (from to : Var) → (rename s from to).weak ≡ false → HoldsAll p (rename s from to).rows → HoldsAll (λ v. p (one_by from to v)) s.rows
rename_back p s from to w h = (renamed_same p (one_by from to) s.rows).1 (tidy_back p (system (map (renamed_row (one_by from to)) s.rows) s.weak) w h)

abbrev pub HoldsIf : Point → Type 0 → Option Row → Type 0
HoldsIf p P None = Unit {0}
HoldsIf p P (Some r) = P ↔ Holds p r

-- at a point of the equal row, a row and the row with it substituted say the same
pub substitute_same : (p : Point) (r : Row) (v : Var) (e : Row) → value p e.terms ≡ e.bound → HoldsIf p (Holds p r) (substitute r v e)
substitute_same p r v e h =
    let s = shifted_same p r e (neg_ℤ (factor_of v r.terms *ℤ factor_of v e.terms)) h in
    go (normal false (by_row r v e)) (normal_agrees p false (by_row r v e)) s
  where
    go : (n : Normal) → Agrees p (Holds p (by_row r v e)) n → Holds p r ↔ Holds p (by_row r v e) → HoldsIf p (Holds p r) (unless_too_big n (by_row r v e))
    go (Kept k) a s = ((λ h. a.0 (s.0 h)), (λ h. s.1 (a.1 h)))
    go Always a s = s
    go Never a s = s
    go TooBig a s = tt
