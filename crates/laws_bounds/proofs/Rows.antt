-- Rows that a system gives hold where it does, and what the forms of rows are at two points that agree on the variables that they name.
use Rattle.std.proofs.Common.{◌≡◌, ℕ, List, [], ◌∷◌, Option, Some, None, Bool, true, false, refl, sym, ap, ◌∙◌, true≢false, ℤ, pos, ◌+ℤ◌, ◌*ℤ◌, ◌≤ℤ◌}
use Rattle.std.specs.Prelude.{if◌then◌else◌, not}
use Rattle.std.proofs.lemmas.Bool.{and_parts, not-true}
use Rattle.affine_systems.specs.declared.row.Row.{Row}
use Rattle.affine_systems.specs.declared.row.Term.{Term}
use Rattle.affine_systems.specs.declared.row.Var.{Var}
use Rattle.affine_systems.specs.declared.row.Var.TheVariants.{Cell, Exit, Phi, Aux}
use Rattle.affine_systems.specs.Normal.{Normal, Kept, Always, Never, TooBig, normal}
use Rattle.affine_systems.specs.Points.{Point, value, Holds, HoldsAll}
use Rattle.affine_systems.proofs.NormalLaws.{Agrees, normal_agrees}
use Rattle.hull_projection.proofs.RefuteLaws.{refuted_none, entailed_holds}
use Rattle.affine_forms.specs.declared.affine.Affine.{Affine}
use Rattle.affine_forms.specs.Claims.{form_value}
use Rattle.affine_forms.specs.Comparisons.{at_most_row}
use Rattle.in_out_regions.proofs.RegionSets.LoopLaws.{at_most_back}
use Rattle.in_out_regions.specs.call_equations.Forms.{is_among, lack}
use Rattle.preconditions.specs.transformer_algebra.Cells.{has}
use Rattle.bound_check.specs.Safe.{gives_normal, gives, at_most}

-- ---- rows

gives_holds : (p : Point) (rs : List Row) (r : Row) → gives rs r ≡ true → HoldsAll p rs → Holds p r
gives_holds p rs r e h = go (normal false r) (normal_agrees p false r) e
  where
    go : (n : Normal) → Agrees p (Holds p r) n → gives_normal rs n ≡ true → Holds p r
    go (Kept q) a t = a.1 (entailed_holds p rs q t h)
    go Always a t = a
    go Never a t = absurd (refuted_none p rs t h)
    go TooBig a t = absurd (refuted_none p rs t h)

-- two forms of which the first is at most the second
pub record AtMost (p : Point) (f g : Option Affine) : Type 0 where
  pub first : Affine
  pub second : Affine
  pub is_first : f ≡ Some first
  pub is_second : g ≡ Some second
  pub less : form_value p first ≤ℤ form_value p second

pub at_most_holds : (p : Point) (rs : List Row) (f g : Option Affine) → at_most rs f g ≡ true → HoldsAll p rs → AtMost p f g
at_most_holds p rs None g e h = absurd (true≢false (sym e))
at_most_holds p rs (Some f) None e h = absurd (true≢false (sym e))
at_most_holds p rs (Some f) (Some g) e h = record { first = f; second = g; is_first = refl; is_second = refl; less = at_most_back f g p (gives_holds p rs (at_most_row f g) e h) }

-- ---- points

-- numbers x of cells, and nothing of other variables
abbrev pub point_of : (ℕ → ℤ) → Point
point_of x (Cell c) = x c
point_of x (Exit c) = pos 0
point_of x (Phi c) = pos 0
point_of x (Aux c) = pos 0

-- x and y: numbers of cells, which differ in these alone where they are tracked
module _ (tracked : ℕ → Bool) (cs : List ℕ) (x y : ℕ → ℤ) (same : (c : ℕ) → tracked c ≡ true → has cs c ≡ false → y c ≡ x c) where
  -- the numbers y of tracked cells
  abbrev mixed : Point
  mixed (Cell c) = if tracked c then y c else x c
  mixed (Exit c) = pos 0
  mixed (Phi c) = pos 0
  mixed (Aux c) = pos 0

  cell_same : (c : ℕ) → has cs c ≡ false → mixed (Cell c) ≡ x c
  cell_same c e = go (tracked c) refl
    where
      go : (b : Bool) → tracked c ≡ b → (if b then y c else x c) ≡ x c
      go true t = same c t e
      go false t = refl

  var_same : (v : Var) → is_among cs v ≡ false → mixed v ≡ point_of x v
  var_same (Cell c) e = cell_same c e
  var_same (Exit c) e = refl
  var_same (Phi c) e = refl
  var_same (Aux c) e = refl

  value_same : (ts : List Term) → lack cs ts ≡ true → value mixed ts ≡ value (point_of x) ts
  value_same [] h = refl
  value_same (t ∷ ts) h =
      let p = and_parts (not (is_among cs t.var)) (lack cs ts) h in
      let one = var_same t.var (not-true (is_among cs t.var) p.0) in
      let rest = value_same ts p.1 in
      λ i. (t.factor *ℤ one i) +ℤ rest i

  begins : (c : ℕ) → tracked c ≡ true → mixed (Cell c) ≡ y c
  begins c t = ap (λ b. if b then y c else x c) t

  -- a form that names none of them, and has a value wherever tracked cells have the numbers y, has it where cells have the numbers x
  pub form_moves : (f : Affine) (n : ℤ) → lack cs f.terms ≡ true → ((p : Point) → ((c : ℕ) → tracked c ≡ true → p (Cell c) ≡ y c) → form_value p f ≡ n) → form_value (point_of x) f ≡ n
  form_moves f n l h = sym (ap (λ z. z +ℤ f.constant) (value_same f.terms l)) ∙ h mixed begins
