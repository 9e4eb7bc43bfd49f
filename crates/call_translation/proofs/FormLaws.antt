-- The form of an expression names cells alone, so that the row for a dummy has small numbers.
use Rattle.std.proofs.Common.{◌≡◌, ℕ, ◌<◌, ◌^◌, Bool, true, false, ◌&&◌, List, [], ◌∷◌, ◌++◌, Option, Some, None, ℤ, pos, negsuc, ◌+ℤ◌, ◌-ℤ◌, ◌*ℤ◌, unsigned_abs, arith, refl, sym, ap, ap₂, subst, ◌∙◌}
use Rattle.std.specs.Prelude.{if◌then◌else◌, IfSome}
use Rattle.std.proofs.lemmas.Int.{ints}
use Rattle.affine_systems.specs.declared.row.Var.{Var}
use Rattle.affine_systems.specs.declared.row.Var.TheVariants.{Cell, Exit}
use Rattle.affine_systems.specs.Terms.{var_eq, term, add_terms, has_no_terms}
use Rattle.affine_systems.specs.declared.row.Row.{Row}
use Rattle.affine_systems.specs.Rows.{AllRows, combined_terms}
use Rattle.affine_systems.specs.Normal.{is_small, are_small}
use Rattle.affine_systems.specs.Points.{factor_of}
use Rattle.affine_systems.specs.Given.{IsSmallRow}
use Rattle.affine_systems.proofs.TermLaws.{var_eq-true}
use Rattle.affine_systems.proofs.AscendLaws.{ascends-combined, factor_of-nil, factor_of-here, factor_of-there, factor_below, below_factors}
use Rattle.affine_systems.proofs.FitLaws.{factor-combined}
use Rattle.f77_ast.specs.declared.expr.UnaryOp.{UnaryOp}
use Rattle.f77_ast.specs.declared.expr.UnaryOp.TheVariants.{Plus, Minus, Not}
use Rattle.f77_ast.specs.declared.expr.BinaryOp.{BinaryOp}
use Rattle.f77_ast.specs.declared.expr.BinaryOp.TheVariants.{Add, Sub, Mul, Div, Pow, Eq, Ne, Lt, Le, Gt, Ge, And, Or, Eqv, Neqv}
use Rattle.f77_ast.specs.Trees.{ExprTree}
use Rattle.f77_ast.specs.Trees as tree
use Rattle.f77_ast.specs.declared.constant.Constant.TheVariants.{Int, Log}
use Rattle.f77_ast.specs.declared.constant.ConstantValue.{ConstantValue}
use Rattle.f77_ast.specs.declared.constant.ConstantValue.TheVariants.{Is, Faults, Varies}
use Rattle.f77_ast.specs.Constants.{const_value}
use Rattle.f77_ast.specs.declared.symbol.Place.{Place}
use Rattle.f77_ast.specs.declared.symbol.Place.TheVariants.{Local, Dummy, Block, Constant}
use Rattle.f77_ast.specs.Symbols.{SymbolTree}
use Rattle.affine_forms.specs.declared.affine.Affine.{Affine}
use Rattle.affine_forms.specs.Scalars.{Scalars}
use Rattle.affine_forms.specs.Forms.{affine, IsSmallForm, limited, plus, times, sum_of, product, product_of, unary_form, binary_form, cell_form, name_form, constant_or, affine_of}
use Rattle.affine_forms.specs.Comparisons.{var_form, difference, same_row}
use Rattle.tracked_cells.specs.Standing.{is_int_scalar}
use Rattle.call_translation.specs.Scopes.{ScopeTree}
use Rattle.call_translation.specs.Actuals.{actual_of, form_in}
use Rattle.call_translation.specs.Sites.{HoldingSite}
use Rattle.call_translation.specs.SiteEntry.{form_at, dummy_form}
use Rattle.transformer_algebra.proofs.CellLaws.{exit_cell}

abbrev pub NoExits : Affine → Type 0
NoExits f = (n : ℕ) → factor_of (Exit n) f.terms ≡ pos 0

limited_none : (f : Affine) → NoExits f → IfSome (limited f) NoExits
limited_none f h = go (is_small f.constant && are_small f.terms)
  where
    go : (b : Bool) → IfSome (if b then Some f else None) NoExits
    go true = h
    go false = tt

zeros : (p q x y : ℤ) → x ≡ pos 0 → y ≡ pos 0 → ((p *ℤ x) +ℤ (q *ℤ y)) ≡ pos 0
zeros p q x y a b = ap₂ (λ z w. (p *ℤ z) +ℤ (q *ℤ w)) a b ∙ omega (arith, ints)

plus_none : (f : Affine) (k : ℤ) (g : Affine) → NoExits f → NoExits g → IfSome (plus f k g) NoExits
plus_none f k g a b =
    limited_none (affine (combined_terms (pos 1) f.terms k g.terms) (f.constant +ℤ (k *ℤ g.constant)))
    (λ n. factor-combined (Exit n) (pos 1) f.terms k g.terms ∙ zeros (pos 1) k (factor_of (Exit n) f.terms) (factor_of (Exit n) g.terms) (a n) (b n))

times_none : (k : ℤ) (f : Affine) → NoExits f → IfSome (times k f) NoExits
times_none k f h =
    limited_none (affine (add_terms k f.terms []) (k *ℤ f.constant))
    (λ n. factor-combined (Exit n) k f.terms (pos 1) [] ∙ zeros k (pos 1) (factor_of (Exit n) f.terms) (factor_of (Exit n) []) (h n) (factor_of-nil (Exit n)))

sum_none : (f : Option Affine) (k : ℤ) (g : Option Affine) → IfSome f NoExits → IfSome g NoExits → IfSome (sum_of f k g) NoExits
sum_none (Some f) k (Some g) a b = plus_none f k g a b
sum_none (Some f) k None a b = tt
sum_none None k g a b = tt

product_none : (f g : Affine) → NoExits f → NoExits g → IfSome (product f g) NoExits
product_none f g a b = go (has_no_terms f.terms) (has_no_terms g.terms)
  where
    go : (p q : Bool) → IfSome (if p then times f.constant g else if q then times g.constant f else None) NoExits
    go true q = times_none f.constant g b
    go false true = times_none g.constant f a
    go false false = tt

products_none : (f g : Option Affine) → IfSome f NoExits → IfSome g NoExits → IfSome (product_of f g) NoExits
products_none (Some f) (Some g) a b = product_none f g a b
products_none (Some f) None a b = tt
products_none None g a b = tt

unary_none : (o : UnaryOp) (f : Option Affine) → IfSome f NoExits → IfSome (unary_form o f) NoExits
unary_none Plus f h = h
unary_none Minus (Some f) h = times_none (negsuc 0) f h
unary_none Minus None h = tt
unary_none Not f h = tt

binary_none : (o : BinaryOp) (f g : Option Affine) → IfSome f NoExits → IfSome g NoExits → IfSome (binary_form o f g) NoExits
binary_none Add f g a b = sum_none f (pos 1) g a b
binary_none Sub f g a b = sum_none f (negsuc 0) g a b
binary_none Mul f g a b = products_none f g a b
binary_none Div f g a b = tt
binary_none Pow f g a b = tt
binary_none Eq f g a b = tt
binary_none Ne f g a b = tt
binary_none Lt f g a b = tt
binary_none Le f g a b = tt
binary_none Gt f g a b = tt
binary_none Ge f g a b = tt
binary_none And f g a b = tt
binary_none Or f g a b = tt
binary_none Eqv f g a b = tt
binary_none Neqv f g a b = tt

constant_none : (w : ConstantValue) (f : Option Affine) → IfSome f NoExits → IfSome (constant_or w f) NoExits
constant_none (Is (Int n)) f h = limited_none (affine [] n) (λ m. factor_of-nil (Exit m))
constant_none (Is (Log b)) f h = h
constant_none Faults f h = h
constant_none Varies f h = h

cell_none : (c : Option ℕ) → IfSome (cell_form c) NoExits
cell_none None = tt
cell_none (Some c) = λ n. factor_of-there (Exit n) (term (Cell c) (pos 1)) [] (exit_cell n c) ∙ factor_of-nil (Exit n)

pub no_exits : (k : Scalars) (e : ExprTree) → IfSome (affine_of k e) NoExits
no_exits k (tree.int n) = constant_none (const_value k.value (tree.int n)) None tt
no_exits k (tree.log b) = constant_none (const_value k.value (tree.log b)) None tt
no_exits k (tree.name x) = constant_none (const_value k.value (tree.name x)) (name_form k x) (cell_none (k.cell x))
no_exits k (tree.element x es) = constant_none (const_value k.value (tree.element x es)) None tt
no_exits k (tree.paren e) = constant_none (const_value k.value (tree.paren e)) (affine_of k e) (no_exits k e)
no_exits k (tree.unary o e) = constant_none (const_value k.value (tree.unary o e)) (unary_form o (affine_of k e)) (unary_none o (affine_of k e) (no_exits k e))
no_exits k (tree.binary o a b) = constant_none (const_value k.value (tree.binary o a b)) (binary_form o (affine_of k a) (affine_of k b)) (binary_none o (affine_of k a) (affine_of k b) (no_exits k a) (no_exits k b))
no_exits k (tree.chars x) = constant_none (const_value k.value (tree.chars x)) None tt

form_none : (m : ScopeTree) (e : Option ExprTree) → IfSome (form_in m e) NoExits
form_none m None = tt
form_none m (Some e) = no_exits m.scalars e

place_none : (c : HoldingSite) (p : Place) → IfSome (form_at c p) NoExits
place_none c (Local g o) = tt
place_none c (Dummy d) = form_none c.caller (actual_of c.actuals d)
place_none c (Block b o) = tt
place_none c (Constant k) = tt

pub dummy_none : (c : HoldingSite) (s : SymbolTree) → IfSome (dummy_form c s) NoExits
dummy_none c s = go (is_int_scalar s)
  where
    go : (b : Bool) → IfSome (if b then form_at c s.place else None) NoExits
    go true = place_none c s.place
    go false = tt

-- ---- the row

exit_factor : (v : Var) (n : ℕ) (f : Affine) → IsSmallForm f → NoExits f → unsigned_abs (factor_of v (difference (var_form (Exit n)) f)) < 2 ^ 62
exit_factor v n f s h =
    subst (λ z. unsigned_abs z < 2 ^ 62) (sym (factor-combined v (pos 1) (term (Exit n) (pos 1) ∷ []) (negsuc 0) f.terms)) (go (var_eq v (Exit n)) refl)
  where
    go : (b : Bool) → var_eq v (Exit n) ≡ b → unsigned_abs ((pos 1 *ℤ factor_of v (term (Exit n) (pos 1) ∷ [])) +ℤ (negsuc 0 *ℤ factor_of v f.terms)) < 2 ^ 62
    go true e =
        let one : factor_of v (term (Exit n) (pos 1) ∷ []) ≡ pos 1 +ℤ factor_of v [] = factor_of-here v (term (Exit n) (pos 1)) [] e in
        let nil : factor_of v [] ≡ pos 0 = factor_of-nil v in
        let none : factor_of v f.terms ≡ pos 0 = ap (λ w. factor_of w f.terms) (var_eq-true v (Exit n) e) ∙ h n in
        omega (arith, ints, one, nil, none)
    go false e =
        let one : factor_of v (term (Exit n) (pos 1) ∷ []) ≡ factor_of v [] = factor_of-there v (term (Exit n) (pos 1)) [] e in
        let nil : factor_of v [] ≡ pos 0 = factor_of-nil v in
        let small : unsigned_abs (factor_of v f.terms) < 2 ^ 62 = factor_below (2 ^ 62) v f.terms (omega arith) s.0.0 s.0.1 in
        omega (arith, ints, one, nil, small)

pub dummy_small : (n : ℕ) (f : Affine) → IsSmallForm f → NoExits f → IsSmallRow (same_row (var_form (Exit n)) f)
dummy_small n f s h =
    let a = ascends-combined (pos 1) (term (Exit n) (pos 1) ∷ []) (negsuc 0) f.terms in
    let bound : unsigned_abs (f.constant -ℤ pos 0) < 2 ^ 62 = omega (arith, ints, s.1) in
    (a, bound, below_factors (2 ^ 62) (difference (var_form (Exit n)) f) a (λ v. exit_factor v n f s h))

-- a row for a dummy put behind others
pub dummy_pushed : (c : HoldingSite) (s : SymbolTree) (n : ℕ) (f e : Affine) (rs new : List Row) (r : Row) → Some f ≡ dummy_form c s → IsSmallForm f → e ≡ var_form (Exit n) → r ≡ same_row e f → AllRows IsSmallRow rs → new ≡ rs ++ r ∷ [] → AllRows IsSmallRow new
dummy_pushed c s n f e rs new r q h k p a o =
    let none : NoExits f = subst (λ (g : Option Affine). IfSome g NoExits) (sym q) (dummy_none c s) in
    let same : same_row (var_form (Exit n)) f ≡ r = sym (p ∙ ap (λ (g : Affine). same_row g f) k) in
    subst (AllRows IsSmallRow) (sym o) (behind rs (subst IsSmallRow same (dummy_small n f h none)) a)
  where
    behind : (ss : List Row) → IsSmallRow r → AllRows IsSmallRow ss → AllRows IsSmallRow (ss ++ r ∷ [])
    behind [] x b = (x, tt)
    behind (t ∷ ss) x b = (b.0, behind ss x b.1)

pub ruleset dummy_rows = (dummy_pushed)
