-- The dimensions of a variable that is not refused.
use Rattle.std.proofs.Common.{◌≡◌, Bool, false, ℤ, List, [], ◌∷◌, length, Option, Some, None, refl, sym, ap, ◌∙◌}
use Rattle.std.specs.Prelude.{if◌then◌else◌, nat_lt, ◌||◌, is_some}
use Rattle.std.proofs.lemmas.Bool.{or_parts}
use Rattle.f77_ast.specs.Trees.{ExprTree}
use Rattle.f77_ast.specs.Places.{Dim}
use Rattle.f77_ast.specs.declared.constant.Constant.TheVariants as constant
use Rattle.f77_ast.specs.declared.constant.ConstantValue.{ConstantValue}
use Rattle.f77_ast.specs.declared.constant.ConstantValue.TheVariants.{Is, Faults, Varies}
use Rattle.f77_ast.specs.Symbols.{BoundTree}
use Rattle.f77_names.specs.Entries.{ShapeTree, EntryTree}
use Rattle.f77_names.specs.Tables.{NameTable}
use Rattle.f77_checks.specs.Dimensions.{is_bad_const_value, const_value_in, is_bad_limit, is_below, is_bad_high, is_bad_bound, is_last, has_bad_bound, is_too_big, dim_to, dim_up_to, dim_of, with_dim, dims_of, is_bad_shape, entry_dims, dims_in}

-- ---- bounds that are not refused are constant

int_const_value : (t : NameTable) (e : ExprTree) (w : ConstantValue) → is_bad_const_value t false e w ≡ false → (n : ℤ) × (w ≡ Is (constant.Int n))
int_const_value t e (Is (constant.Int n)) h = (n, refl)
int_const_value t e (Is (constant.Log b)) h = cc
int_const_value t e Faults h = cc
int_const_value t e Varies h = cc

high_dim : (t : NameTable) (last : Bool) (low : ExprTree) (n : ℤ) (high : Option ExprTree) → is_bad_high t false last low high ≡ false → (d : Dim) × (dim_up_to t (Is (constant.Int n)) high ≡ Some d)
high_dim t last low n None h = cc
high_dim t last low n (Some e) h =
    let w = int_const_value t e (const_value_in t e) (or_parts (is_bad_limit t false e) (is_below (const_value_in t e) (const_value_in t low)) h).0 in
    (record { low = n; high = Some w.0 }, ap (dim_to n) w.1)

bound_dim : (t : NameTable) (last : Bool) (b : BoundTree) → is_bad_bound t false last b ≡ false → (d : Dim) × (dim_of t b ≡ Some d)
bound_dim t last b h =
    let parts = or_parts (is_bad_limit t false b.low) (is_bad_high t false last b.low b.high) h in
    let low = int_const_value t b.low (const_value_in t b.low) parts.0 in
    let d = high_dim t last b.low low.0 b.high parts.1 in
    (d.0, ap (λ w. dim_up_to t w b.high) low.1 ∙ d.1)

dims_known : (t : NameTable) (bs : List BoundTree) → has_bad_bound t false bs ≡ false → (ds : List Dim) × (dims_of t bs ≡ Some ds)
dims_known t [] h = ([], refl)
dims_known t (b ∷ bs) h =
    let parts = or_parts (is_bad_bound t false (is_last bs) b) (has_bad_bound t false bs) h in
    let first = bound_dim t (is_last bs) b parts.0 in
    let rest = dims_known t bs parts.1 in
    (first.0 ∷ rest.0, ap (λ o. with_dim o (dims_of t bs)) first.1 ∙ ap (with_dim (Some first.0)) rest.1)

-- what shapes a name may have
abbrev pub ShapeFits : NameTable → EntryTree → Type 0
ShapeFits t e = (s : ShapeTree) → e.shape ≡ Some s → is_bad_shape t (is_some e.dummy) s.bounds ≡ false

pub entry_known : (t : NameTable) (e : EntryTree) → e.dummy ≡ None → ShapeFits t e → (ds : List Dim) × (dims_in t e ≡ Some ds)
entry_known t e none fits = go e.shape refl
  where
    no_dummy : is_some e.dummy ≡ false
    no_dummy = ap is_some none

    go : (o : Option ShapeTree) → e.shape ≡ o → (ds : List Dim) × (entry_dims t (is_some e.dummy) o ≡ Some ds)
    go None q = ([], refl)
    go (Some s) q =
        let good = fits s q in
        let good_here : is_bad_shape t false s.bounds ≡ false = ap (λ b. is_bad_shape t b s.bounds) (sym no_dummy) ∙ good in
        let bounds = (or_parts (has_bad_bound t false s.bounds) (is_too_big (dims_of t s.bounds)) (or_parts (nat_lt 7 (length s.bounds)) (has_bad_bound t false s.bounds || is_too_big (dims_of t s.bounds)) good_here).1).0 in
        let ds = dims_known t s.bounds bounds in
        (ds.0, ap (λ b. if b then None else dims_of t s.bounds) good ∙ ds.1)
