-- PARAMETER values are the same, whatever the lines.
use Rattle.std.proofs.Common.{◌≡◌, ℕ, ◌+◌, Bool, true, false, List, [], ◌∷◌, Option, refl, ap, ◌∙◌, subst}
use Rattle.std.specs.Prelude.{if◌then◌else◌, ◌||◌}
use Rattle.std.proofs.Math.Path.{fun_ext}
use Rattle.f77_ast.specs.Trees.{ExprTree}
use Rattle.f77_ast.specs.DeclTrees.{SettingTree, DeclTree}
use Rattle.f77_ast.specs.DeclTrees as decl
use Rattle.f77_ast.specs.declared.constant.Constant.{Constant}
use Rattle.f77_ast.specs.declared.constant.Constant.TheVariants as constant
use Rattle.f77_ast.specs.declared.constant.ConstantValue.{ConstantValue}
use Rattle.f77_ast.specs.declared.constant.ConstantValue.TheVariants.{Is, Faults, Varies}
use Rattle.f77_ast.specs.Constants.{const_value}
use Rattle.fx_lists.specs.declared.code.Code.TheVariants.{NotAnArray}
use Rattle.fx_lists.specs.declared.refusal.Refusal.{Refusal}
use Rattle.fx_lists.specs.Refusals.{refuse_if}
use Rattle.f77_names.specs.declared.kinds.Kind.{Kind}
use Rattle.f77_names.specs.declared.kinds.Kind.TheVariants.{Int, Log, Real}
use Rattle.f77_names.specs.declared.lines.Sited.TheVariants.{Decl}
use Rattle.f77_names.specs.Lines.{LineTable, line_or}
use Rattle.f77_names.specs.Entries.{EntryTree, has_dummy, has_shape, has_value, value_among, with_value}
use Rattle.f77_names.specs.Tables.{NameTable, kind_in}
use Rattle.f77_checks.specs.Expressions.{check_expr}
use Rattle.f77_checks.specs.Parameters.{Valued, is_bad_parameter, given_value, given_typed, given_const_value, setting_valued, settings_valued, decl_valued, decls_valued}
use Rattle.roundtrip_programs.proofs.Found.{SameFound, noted_same}
use Rattle.roundtrip_programs.proofs.Bare.{no_lines, bares, bare_table, Bare, dummy_bare, shape_bare, has_value_bare, value_bare, changed_same}
use Rattle.roundtrip_programs.proofs.Sorts.{kind_bare, expr_same}

-- the same values of the same names, but for lines
pub record SameValued (v w : Valued) : Type 0 where
  pub table : bare_table v.table ≡ w.table
  pub found : SameFound v.found w.found

abbrev with_found : NameTable → Option Refusal → Valued
with_found t g = record { table = t; found = g }

-- what holds of the names without lines holds of others that are the same
onward : (f g : Valued → Valued) → ((v : Valued) (r : Option Refusal) → SameFound v.found r → SameValued (f v) (g (with_found (bare_table v.table) r)))
    → {v w : Valued} → SameValued v w → SameValued (f v) (g w)
onward f g k {v} {w} h = subst (λ t. SameValued (f v) (g (with_found t w.found))) h.table (k v w.found h.found)

bad_same : {v w : Valued} (line : ℕ) → SameValued v w → SameValued (is_bad_parameter line v) (is_bad_parameter 0 w)
bad_same line h = record { table = h.table; found = noted_same _ _ _ _ _ _ refl h.found }

value_same : (x : List ℕ) (c : Constant) (v : Valued) (r : Option Refusal) → SameFound v.found r → SameValued (given_value x c v) (given_value x c (with_found (bare_table v.table) r))
value_same x c v r h =
    let same : Bare v.table.entries (bares v.table.entries) = record { is = refl } in
    record {
      table = ap (λ (es : List EntryTree). record { entries = es; kinds = v.table.kinds; arrays = v.table.arrays }) (changed_same x (with_value c) (with_value c) (λ e. refl) same).is;
      found = h;
    }

typed_same : (k : Kind) (x : List ℕ) (c : Constant) (line : ℕ) (v : Valued) (r : Option Refusal) → SameFound v.found r
    → SameValued (given_typed k x c line v) (given_typed k x c 0 (with_found (bare_table v.table) r))
typed_same Int x (constant.Int n) line v r h = value_same x (constant.Int n) v r h
typed_same Int x (constant.Log b) line v r h = bad_same line (record { table = refl; found = h })
typed_same Log x (constant.Int n) line v r h = bad_same line (record { table = refl; found = h })
typed_same Log x (constant.Log b) line v r h = value_same x (constant.Log b) v r h
typed_same Real x c line v r h = record { table = refl; found = h }

const_value_same : (x : List ℕ) (w : ConstantValue) (line : ℕ) (v : Valued) (r : Option Refusal) → SameFound v.found r
    → SameValued (given_const_value x w line v) (given_const_value x w 0 (with_found (bare_table v.table) r))
const_value_same x Varies line v r h = bad_same line (record { table = refl; found = h })
const_value_same x Faults line v r h = bad_same line (record { table = refl; found = h })
const_value_same x (Is c) line v r h =
    subst (λ k. SameValued (given_typed (kind_in v.table x) x c line v) (given_typed k x c 0 (with_found (bare_table v.table) r))) (kind_bare v.table x)
    (typed_same (kind_in v.table x) x c line v r h)

-- the value of an expression
pub const_value_bare : (t : NameTable) (e : ExprTree) → const_value (value_among t.entries) e ≡ const_value (value_among (bares t.entries)) e
const_value_bare t e = ap (λ f. const_value f e) (fun_ext (λ x. value_bare t.entries x))

abbrev with_setting : Bool → SettingTree → ConstantValue → ℕ → NameTable → Option Refusal → Valued
with_setting b s w line t f = if b then is_bad_parameter line (with_found t f) else given_const_value s.name w line (with_found t (check_expr t s.value line f))

setting_by : (b : Bool) (s : SettingTree) (w : ConstantValue) (line : ℕ) (t : NameTable) (f r : Option Refusal) → SameFound f r → SameValued (with_setting b s w line t f) (with_setting b s w 0 (bare_table t) r)
setting_by true s w line t f r h = bad_same line (record { table = refl; found = h })
setting_by false s w line t f r h = const_value_same s.name w line (with_found t (check_expr t s.value line f)) (check_expr (bare_table t) s.value 0 r) (expr_same t s.value line 0 h)

is_given : (x : List ℕ) (es : List EntryTree) → (has_dummy x es || has_value x es) ≡ (has_dummy x (bares es) || has_value x (bares es))
is_given x es = ap (λ b. b || has_value x es) (dummy_bare x es) ∙ ap (λ b. has_dummy x (bares es) || b) (has_value_bare x es)

setting_same : (s : SettingTree) (line : ℕ) (v : Valued) (r : Option Refusal) → SameFound v.found r → SameValued (setting_valued s line v) (setting_valued s 0 (with_found (bare_table v.table) r))
setting_same s line v r h =
    let es = v.table.entries in
    let b = has_dummy s.name es || has_value s.name es in
    let w = const_value (value_among es) s.value in
    let f = refuse_if (has_shape s.name es) line NotAnArray v.found in
    let q = refuse_if (has_shape s.name (bares es)) 0 NotAnArray r in
    let g : SameFound f q = noted_same _ _ _ _ _ _ (shape_bare s.name es) h in
    subst (λ z. SameValued (with_setting b s w line v.table f) (with_setting (has_dummy s.name (bares es) || has_value s.name (bares es)) s z 0 (bare_table v.table) q)) (const_value_bare v.table s.value)
    (subst (λ c. SameValued (with_setting b s w line v.table f) (with_setting c s w 0 (bare_table v.table) q)) (is_given s.name es) (setting_by b s w line v.table f q g))

settings_same : (ss : List SettingTree) (line : ℕ) {v w : Valued} → SameValued v w → SameValued (settings_valued ss line v) (settings_valued ss 0 w)
settings_same [] line h = h
settings_same (s ∷ ss) line h = settings_same ss line (onward (setting_valued s line) (setting_valued s 0) (setting_same s line) h)

decl_same : (d : DeclTree) (line : ℕ) {v w : Valued} → SameValued v w → SameValued (decl_valued d line v) (decl_valued d 0 w)
decl_same (decl.parameter ss) line h = settings_same ss line h
decl_same (decl.implicit ps) line h = h
decl_same (decl.integer es) line h = h
decl_same (decl.logical es) line h = h
decl_same (decl.dimension es) line h = h
decl_same (decl.common cs) line h = h
decl_same (decl.equivalence gs) line h = h
decl_same (decl.save is) line h = h
decl_same (decl.initial gs) line h = h

pub decls_same : (at : LineTable) (ds : List DeclTree) (n : ℕ) {v w : Valued} → SameValued v w → SameValued (decls_valued at ds n v) (decls_valued no_lines ds n w)
decls_same at [] n h = h
decls_same at (d ∷ ds) n h = decls_same at ds (n + 1) (decl_same d (line_or at (Decl n) 0) h)
