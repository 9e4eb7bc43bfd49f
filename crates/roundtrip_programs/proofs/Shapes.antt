-- The dimensions of arrays are the same, whatever the lines.
use Rattle.std.proofs.Common.{◌≡◌, ℕ, Bool, false, List, [], ◌∷◌, length, Option, Some, None, refl, ap, ◌∙◌}
use Rattle.std.specs.Prelude.{if◌then◌else◌, not, ◌&&◌, ◌||◌, nat_lt, is_some, is_none}
use Rattle.f77_ast.specs.Trees.{ExprTree}
use Rattle.f77_ast.specs.Trees as tree
use Rattle.f77_ast.specs.declared.constant.Constant.TheVariants.{Int, Log}
use Rattle.f77_ast.specs.declared.constant.ConstantValue.{ConstantValue}
use Rattle.f77_ast.specs.declared.constant.ConstantValue.TheVariants.{Is, Faults, Varies}
use Rattle.f77_ast.specs.Constants.{turns_logical, gives_logical}
use Rattle.f77_ast.specs.Symbols.{BoundTree}
use Rattle.fx_lists.specs.declared.refusal.Refusal.{Refusal}
use Rattle.f77_names.specs.Entries.{ShapeTree, EntryTree}
use Rattle.f77_names.specs.Tables.{NameTable, entry_kind}
use Rattle.f77_checks.specs.Dimensions.{is_int_kind, may_adjust, is_adjustable, is_bad_const_value, const_value_in, is_bad_limit, is_below, is_bad_high, is_bad_bound, is_last, has_bad_bound, dim_from, dim_up_to, dim_of, with_dim, dims_of, is_too_big, is_bad_shape, entry_dims, dims_in, check_maybe, check_bounds, check_shape, check_shapes}
use Rattle.roundtrip_programs.proofs.Found.{SameFound, noted_same}
use Rattle.roundtrip_programs.proofs.Bare.{bare, bares, bare_shape, bare_table, asked, some_line}
use Rattle.roundtrip_programs.proofs.Sorts.{expr_same}
use Rattle.roundtrip_programs.proofs.Values.{const_value_bare}

-- ---- bounds

none_shape : (s : Option ShapeTree) → is_none s ≡ is_none (bare_shape s)
none_shape None = refl
none_shape (Some s) = refl

may_adjust_bare : (t : NameTable) (e : EntryTree) → may_adjust t e ≡ may_adjust (bare_table t) (bare e)
unfolding entry_kind
may_adjust_bare t e =
    ap (λ b. b && (is_int_kind (entry_kind t.kinds e) && (e.parameter || (is_some e.dummy || is_some e.common)))) (none_shape e.shape)
    ∙ ap (λ b. is_none (bare_shape e.shape) && (is_int_kind (entry_kind t.kinds e) && (e.parameter || (is_some e.dummy || b)))) (some_line e.common)

adjustable_bare : (t : NameTable) (e : ExprTree) → is_adjustable t e ≡ is_adjustable (bare_table t) e
adjustable_bare t (tree.int n) = refl
adjustable_bare t (tree.log b) = refl
adjustable_bare t (tree.name x) = asked false (may_adjust t) (may_adjust (bare_table t)) (may_adjust_bare t) x t.entries
adjustable_bare t (tree.element x es) = refl
adjustable_bare t (tree.paren e) = adjustable_bare t e
adjustable_bare t (tree.unary o e) = ap (λ b. not (turns_logical o) && b) (adjustable_bare t e)
adjustable_bare t (tree.binary o a b) =
    ap (λ c. not (gives_logical o) && (c && is_adjustable t b)) (adjustable_bare t a)
    ∙ ap (λ c. not (gives_logical o) && (is_adjustable (bare_table t) a && c)) (adjustable_bare t b)
adjustable_bare t (tree.chars x) = refl

bad_const_value_bare : (t : NameTable) (dummy : Bool) (e : ExprTree) (w : ConstantValue) → is_bad_const_value t dummy e w ≡ is_bad_const_value (bare_table t) dummy e w
bad_const_value_bare t dummy e (Is (Int n)) = refl
bad_const_value_bare t dummy e (Is (Log b)) = refl
bad_const_value_bare t dummy e Faults = refl
bad_const_value_bare t dummy e Varies = ap (λ b. not (dummy && b)) (adjustable_bare t e)

pub const_value_in_bare : (t : NameTable) (e : ExprTree) → const_value_in t e ≡ const_value_in (bare_table t) e
const_value_in_bare t e = const_value_bare t e

bad_limit_bare : (t : NameTable) (dummy : Bool) (e : ExprTree) → is_bad_limit t dummy e ≡ is_bad_limit (bare_table t) dummy e
bad_limit_bare t dummy e = bad_const_value_bare t dummy e (const_value_in t e) ∙ ap (is_bad_const_value (bare_table t) dummy e) (const_value_bare t e)

bad_high_bare : (t : NameTable) (dummy last : Bool) (low : ExprTree) (high : Option ExprTree) → is_bad_high t dummy last low high ≡ is_bad_high (bare_table t) dummy last low high
bad_high_bare t dummy last low None = refl
bad_high_bare t dummy last low (Some high) =
    ap (λ b. b || is_below (const_value_in t high) (const_value_in t low)) (bad_limit_bare t dummy high)
    ∙ ap (λ w. is_bad_limit (bare_table t) dummy high || is_below w (const_value_in t low)) (const_value_bare t high)
    ∙ ap (λ w. is_bad_limit (bare_table t) dummy high || is_below (const_value_in (bare_table t) high) w) (const_value_bare t low)

bad_bound_bare : (t : NameTable) (dummy last : Bool) (b : BoundTree) → is_bad_bound t dummy last b ≡ is_bad_bound (bare_table t) dummy last b
bad_bound_bare t dummy last b =
    ap (λ c. c || is_bad_high t dummy last b.low b.high) (bad_limit_bare t dummy b.low)
    ∙ ap (λ c. is_bad_limit (bare_table t) dummy b.low || c) (bad_high_bare t dummy last b.low b.high)

bad_bounds_bare : (t : NameTable) (dummy : Bool) (bs : List BoundTree) → has_bad_bound t dummy bs ≡ has_bad_bound (bare_table t) dummy bs
bad_bounds_bare t dummy [] = refl
bad_bounds_bare t dummy (b ∷ bs) =
    ap (λ c. c || has_bad_bound t dummy bs) (bad_bound_bare t dummy (is_last bs) b)
    ∙ ap (λ c. is_bad_bound (bare_table t) dummy (is_last bs) b || c) (bad_bounds_bare t dummy bs)

-- ---- constant bounds

dim_up_bare : (t : NameTable) (low : ConstantValue) (high : Option ExprTree) → dim_up_to t low high ≡ dim_up_to (bare_table t) low high
dim_up_bare t low None = refl
dim_up_bare t low (Some high) = ap (dim_from low) (const_value_bare t high)

dim_bare : (t : NameTable) (b : BoundTree) → dim_of t b ≡ dim_of (bare_table t) b
dim_bare t b = dim_up_bare t (const_value_in t b.low) b.high ∙ ap (λ w. dim_up_to (bare_table t) w b.high) (const_value_bare t b.low)

dims_of_bare : (t : NameTable) (bs : List BoundTree) → dims_of t bs ≡ dims_of (bare_table t) bs
dims_of_bare t [] = refl
dims_of_bare t (b ∷ bs) = ap (λ d. with_dim d (dims_of t bs)) (dim_bare t b) ∙ ap (with_dim (dim_of (bare_table t) b)) (dims_of_bare t bs)

bad_shape_bare : (t : NameTable) (dummy : Bool) (bs : List BoundTree) → is_bad_shape t dummy bs ≡ is_bad_shape (bare_table t) dummy bs
bad_shape_bare t dummy bs =
    ap (λ c. nat_lt 7 (length bs) || (c || is_too_big (dims_of t bs))) (bad_bounds_bare t dummy bs)
    ∙ ap (λ ds. nat_lt 7 (length bs) || (has_bad_bound (bare_table t) dummy bs || is_too_big ds)) (dims_of_bare t bs)

entry_dims_bare : (t : NameTable) (dummy : Bool) (s : Option ShapeTree) → entry_dims t dummy s ≡ entry_dims (bare_table t) dummy (bare_shape s)
entry_dims_bare t dummy None = refl
entry_dims_bare t dummy (Some s) =
    ap (λ c. if c then None else dims_of t s.bounds) (bad_shape_bare t dummy s.bounds)
    ∙ ap (λ ds. if is_bad_shape (bare_table t) dummy s.bounds then None else ds) (dims_of_bare t s.bounds)

pub dims_bare : (t : NameTable) (e : EntryTree) → dims_in t e ≡ dims_in (bare_table t) (bare e)
dims_bare t e = entry_dims_bare t (is_some e.dummy) e.shape

-- ---- refusals

maybe_same : (t : NameTable) (e : Option ExprTree) (l m : ℕ) {f g : Option Refusal} → SameFound f g → SameFound (check_maybe t e l f) (check_maybe (bare_table t) e m g)
maybe_same t None l m h = h
maybe_same t (Some e) l m h = expr_same t e l m h

bounds_same : (t : NameTable) (bs : List BoundTree) (l m : ℕ) {f g : Option Refusal} → SameFound f g → SameFound (check_bounds t bs l f) (check_bounds (bare_table t) bs m g)
bounds_same t [] l m h = h
bounds_same t (b ∷ bs) l m h = bounds_same t bs l m (maybe_same t b.high l m (expr_same t b.low l m h))

shape_same : (t : NameTable) (dummy : Bool) (s : Option ShapeTree) {f g : Option Refusal} → SameFound f g → SameFound (check_shape t dummy s f) (check_shape (bare_table t) dummy (bare_shape s) g)
shape_same t dummy None h = h
shape_same t dummy (Some s) h = noted_same _ _ _ _ _ _ (bad_shape_bare t dummy s.bounds) (bounds_same t s.bounds s.line 0 h)

pub shapes_same : (t : NameTable) (es : List EntryTree) {f g : Option Refusal} → SameFound f g → SameFound (check_shapes t es f) (check_shapes (bare_table t) (bares es) g)
shapes_same t [] h = h
shapes_same t (e ∷ es) h = shapes_same t es (shape_same t (is_some e.dummy) e.shape h)
