-- One dimension before the others.
use Rattle.std.proofs.Common.{◌≡◌, ℕ, suc, ◌+◌, ◌-◌, ◌≤◌, List, [], ◌∷◌, map, length, take, drop, get_or, Option, refl, sym, ap, ap₂, ◌∙◌, arith, add-one}
use Rattle.affine_systems.specs.declared.row.Var.TheVariants.{Phi, Aux}
use Rattle.affine_systems.specs.declared.row.Row.{Row}
use Rattle.f77_ast.specs.declared.symbol.Bound.{Bound}
use Rattle.f77_ast.specs.Symbols.{bound_tree}
use Rattle.affine_forms.specs.declared.affine.Affine.{Affine}
use Rattle.call_equations.specs.Sides.{SidesTree}
use Rattle.call_equations.specs.Forms.{offset}
use Rattle.call_equations.specs.Cells.{named_form, actual_bound, dummy_bound}
use Rattle.call_equations.specs.Positions.{size_of, before_dimensions, whole_position, dummy_position, dimension_row, row_before, aligned_rows}
use Rattle.fx_lists.proofs.Lists.{take_all}

-- a list by its first element and the rest
pub first-rest : {A : Type 0} (xs : List A) (x d : A) → 1 ≤ length xs → x ≡ get_or xs 0 d → xs ≡ x ∷ take (length xs - 1) (drop 1 xs)
first-rest [] x d l e = absurd (omega (arith, l))
first-rest (y ∷ xs) x d l e =
    let n : length xs ≡ suc (length xs) - 1 = omega arith in
    sym (ap₂ (λ z zs. z ∷ zs) e (ap (λ k. take k xs) (sym n) ∙ take_all xs))

pub whole-more : (c : SidesTree) (k n : ℕ) (bs more : List Bound) (b : Bound) (rest o : Option Affine) → bs ≡ b ∷ more → n ≡ k + 1 → rest ≡ whole_position c n (map bound_tree more) →
    o ≡ before_dimensions (offset (Phi k) (actual_bound c (bound_tree b).low)) (size_of c.caller.scalars.value (bound_tree b)) (map bound_tree more) rest → o ≡ whole_position c k (map bound_tree bs)
whole-more c k n bs more b rest o e i r h =
    let first = before_dimensions (offset (Phi k) (actual_bound c (bound_tree b).low)) (size_of c.caller.scalars.value (bound_tree b)) (map bound_tree more) in
    h ∙ (ap first (r ∙ ap (λ j. whole_position c j (map bound_tree more)) (i ∙ add-one k)) ∙ ap (λ (xs : List Bound). whole_position c k (map bound_tree xs)) (sym e))

pub dummy-more : (c : SidesTree) (r k n : ℕ) (bs more : List Bound) (b : Bound) (rest o : Option Affine) → bs ≡ b ∷ more → n ≡ k + 1 → rest ≡ dummy_position c r n (map bound_tree more) →
    o ≡ before_dimensions (offset (Aux k) (named_form r (dummy_bound c (bound_tree b).low))) (size_of c.callee.scalars.value (bound_tree b)) (map bound_tree more) rest → o ≡ dummy_position c r k (map bound_tree bs)
dummy-more c r k n bs more b rest o e i g h =
    let first = before_dimensions (offset (Aux k) (named_form r (dummy_bound c (bound_tree b).low))) (size_of c.callee.scalars.value (bound_tree b)) (map bound_tree more) in
    h ∙ (ap first (g ∙ ap (λ j. dummy_position c r j (map bound_tree more)) (i ∙ add-one k)) ∙ ap (λ (xs : List Bound). dummy_position c r k (map bound_tree xs)) (sym e))

pub aligned-more : (c : SidesTree) (r k n : ℕ) (as' more ds later : List Bound) (a d : Bound) (row : Option Row) (rest o : Option (List Row)) → as' ≡ a ∷ more → ds ≡ d ∷ later → n ≡ k + 1 →
    row ≡ dimension_row c r k (bound_tree a) (bound_tree d) (map bound_tree more) → rest ≡ aligned_rows c r n (map bound_tree more) (map bound_tree later) → o ≡ row_before row rest → o ≡ aligned_rows c r k (map bound_tree as') (map bound_tree ds)
aligned-more c r k n as' more ds later a d row rest o e f i g h j =
    j ∙ ((λ t. row_before (g t) ((h ∙ ap (λ z. aligned_rows c r z (map bound_tree more) (map bound_tree later)) (i ∙ add-one k)) t))
    ∙ (λ t. aligned_rows c r k (map bound_tree (sym e t)) (map bound_tree (sym f t))))
