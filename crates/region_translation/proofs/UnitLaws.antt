-- Places of elements, one dimension before the others.
use Rattle.std.proofs.Common.{◌≡◌, ℕ, suc, ◌+◌, Bool, List, ◌∷◌, map, Option, sym, ap, ◌∙◌, add-one}
use Rattle.f77_ast.specs.declared.constant.Constant.{Constant}
use Rattle.f77_ast.specs.Constants.{const_value}
use Rattle.f77_ast.specs.declared.symbol.Bound.{Bound}
use Rattle.f77_ast.specs.Symbols.{bound_tree}
use Rattle.affine_forms.specs.declared.affine.Affine.{Affine}
use Rattle.call_equations.specs.Rows.{constant_form}
use Rattle.call_equations.specs.Forms.{offset}
use Rattle.call_equations.specs.Positions.{size_of, before_dimensions}
use Rattle.region_translation.specs.Units.{subscript, element_place}

pub place-more : (value : List ℕ → Option Constant) (of : Bool) (k n : ℕ) (bs more : List Bound) (b : Bound) (rest o : Option Affine) → bs ≡ b ∷ more → n ≡ k + 1 → rest ≡ element_place value of n (map bound_tree more) →
    o ≡ before_dimensions (offset (subscript of k) (constant_form (const_value value (bound_tree b).low))) (size_of value (bound_tree b)) (map bound_tree more) rest → o ≡ element_place value of k (map bound_tree bs)
place-more value of k n bs more b rest o e i r h =
    let first = before_dimensions (offset (subscript of k) (constant_form (const_value value (bound_tree b).low))) (size_of value (bound_tree b)) (map bound_tree more) in
    h ∙ (ap first (r ∙ ap (λ j. element_place value of j (map bound_tree more)) (i ∙ add-one k)) ∙ ap (λ (xs : List Bound). element_place value of k (map bound_tree xs)) (sym e))
