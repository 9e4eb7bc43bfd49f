-- Cleaning keeps the points, and keeps rows as they are.
use Rattle.std.proofs.Common.{◌≡◌, ◌↔◌, ◌≤◌, Bool, false, not, List, [], ◌∷◌, ◌++◌, length, arith, inl, inr, ⊎_elim}
use Rattle.std.proofs.lemmas.Bool.{and_parts}
use Rattle.affine_systems.specs.declared.row.Row.{Row}
use Rattle.affine_systems.specs.declared.row.System.{System}
use Rattle.affine_systems.specs.Rows.{false_row, AllRows}
use Rattle.affine_systems.specs.Points.{Point, HoldsAll}
use Rattle.affine_systems.specs.Given.{AreNormal, IsNormalAs, Fits}
use Rattle.hull_projection.specs.Refute.{entails}
use Rattle.hull_projection.specs.Clean.{is_spare, cleaned_behind, clean_rows, clean}
use Rattle.affine_systems.proofs.Basics.{if_cases}
use Rattle.affine_systems.proofs.CallLaws.{append_all}
use Rattle.hull_projection.proofs.RefuteLaws.{entailed_holds}

regroup : (p : Point) (front : List Row) (r : Row) (rs : List Row) → HoldsAll p (front ++ r ∷ rs) ↔ HoldsAll p ((front ++ r ∷ []) ++ rs)
regroup p front r rs =
    let a = append_all p front (r ∷ rs) in
    let b = append_all p (front ++ r ∷ []) rs in
    let c = append_all p front (r ∷ []) in (
      (λ h. let k = a.1 h in b.0 (c.0 (k.0, (k.1.0, tt)), k.1.1)),
      (λ h. let k = b.1 h in let l = c.1 k.0 in a.0 (l.0, (l.1.0, k.1))),
    )

cleaned_behind_same : (p : Point) (front rs : List Row) → HoldsAll p (front ++ rs) ↔ HoldsAll p (front ++ cleaned_behind front rs)
cleaned_behind_same p front [] = ((λ h. h), (λ h. h))
cleaned_behind_same p front (r ∷ rs) =
    let after = cleaned_behind (front ++ r ∷ []) rs in
    let ih = cleaned_behind_same p (front ++ r ∷ []) rs in
    let g = regroup p front r rs in
    let k = regroup p front r after in
    let a = append_all p front (r ∷ after) in
    let b = append_all p front after in
    let there = λ (h : HoldsAll p (front ++ r ∷ rs)). k.1 (ih.0 (g.0 h)) in
    let back = λ (h : HoldsAll p (front ++ r ∷ after)). g.1 (ih.1 (k.0 h)) in
    if_cases (λ (ss : List Row). HoldsAll p (front ++ r ∷ rs) ↔ HoldsAll p (front ++ ss)) (is_spare (front ++ after) r) after (r ∷ after)
    (λ e. let t = and_parts (not r.equal) (entails (front ++ after) r) e in (
      (λ h. let l = a.1 (there h) in b.0 (l.0, l.1.1)),
      (λ h. let l = b.1 h in back (a.0 (l.0, (entailed_holds p (front ++ after) r t.1 h, l.1)))),
    ))
    (λ e. (there, back))

-- a point of the rows is one of the cleaned rows, and the other way round
pub clean_same : (p : Point) (s : System) → HoldsAll p s.rows ↔ HoldsAll p (clean s).rows
clean_same p s = cleaned_behind_same p [] s.rows

-- ---- what a cleaned system is

pub cleaned_all : (P : Row → Type 0) (front rs : List Row) → AllRows P rs → AllRows P (cleaned_behind front rs)
cleaned_all P front [] h = tt
cleaned_all P front (r ∷ rs) h =
    let after = cleaned_behind (front ++ r ∷ []) rs in
    let ih = cleaned_all P (front ++ r ∷ []) rs h.1 in
    if_cases (AllRows P) (is_spare (front ++ after) r) after (r ∷ after) (λ e. ih) (λ e. (h.0, ih))

cleaned_length : (front rs : List Row) → length (cleaned_behind front rs) ≤ length rs
cleaned_length front [] = omega arith
cleaned_length front (r ∷ rs) =
    let after = cleaned_behind (front ++ r ∷ []) rs in
    let ih = cleaned_length (front ++ r ∷ []) rs in
    if_cases (λ (ss : List Row). length ss ≤ length (r ∷ rs)) (is_spare (front ++ after) r) after (r ∷ after) (λ e. omega (arith, ih)) (λ e. omega (arith, ih))

cleaned_one : (q : Bool) (rs : List Row) → rs ≡ false_row ∷ [] → AreNormal q (clean_rows rs)
cleaned_one q [] e = cc
cleaned_one q (r ∷ []) e = if_cases (AreNormal q) (is_spare [] r) [] (r ∷ []) (λ b. inr tt) (λ b. inl e)
cleaned_one q (r ∷ (s ∷ ss)) e = cc

cleaned_normal : (q : Bool) (rs : List Row) → AreNormal q rs → AreNormal q (clean_rows rs)
cleaned_normal q rs h = ⊎_elim (λ e. cleaned_one q rs e) (λ k. inr (cleaned_all (IsNormalAs q) [] rs k)) h

pub clean_fits : (s : System) → Fits s → Fits (clean s)
clean_fits s h = let l = cleaned_length [] s.rows in let k = h.0 in (omega (arith, k, l), cleaned_normal false s.rows h.1)
