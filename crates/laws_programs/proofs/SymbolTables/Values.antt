-- The values of PARAMETER names: no dummy gets one, and a refusal stays.
use Rattle.std.proofs.Common.{◌≡◌, ℕ, ◌+◌, Bool, true, false, List, [], ◌∷◌, Option, Some, None, refl, sym, ap, ◌∙◌, subst}
use Rattle.std.specs.Prelude.{if◌then◌else◌, ◌||◌}
use Rattle.std.proofs.lemmas.Bool.{or_parts}
use Rattle.f77_ast.specs.DeclTrees.{SettingTree, DeclTree}
use Rattle.f77_ast.specs.DeclTrees as decl
use Rattle.f77_ast.specs.declared.constant.Constant.{Constant}
use Rattle.f77_ast.specs.declared.constant.Constant.TheVariants as constant
use Rattle.f77_ast.specs.declared.constant.ConstantValue.{ConstantValue}
use Rattle.f77_ast.specs.declared.constant.ConstantValue.TheVariants.{Is, Faults, Varies}
use Rattle.f77_ast.specs.Constants.{const_value}
use Rattle.fx_lists.specs.declared.code.Code.TheVariants.{BadParameter, NotAnArray}
use Rattle.f77_names.specs.declared.kinds.Kind.{Kind}
use Rattle.f77_names.specs.declared.kinds.Kind.TheVariants.{Int, Log, Real}
use Rattle.f77_names.specs.declared.lines.Sited.TheVariants.{Decl}
use Rattle.fx_lists.specs.Refusals.{refuse_if}
use Rattle.f77_names.specs.Lines.{LineTable, line_or}
use Rattle.f77_names.specs.Entries.{with_value, has_dummy, has_shape, has_value, value_among}
use Rattle.f77_names.specs.Tables.{kind_in}
use Rattle.f77_checks.specs.Expressions.{check_expr}
use Rattle.f77_checks.specs.Parameters.{Valued, is_bad_parameter, given_value, given_typed, given_const_value, setting_valued, settings_valued, decl_valued, decls_valued}
use Rattle.laws_programs.proofs.SymbolTables.StatementRefusals.{noted_back, expr_back}
use Rattle.laws_programs.proofs.SymbolTables.Marks.{Dummies, changed_other}

abbrev pub shape_noted : SettingTree → ℕ → Valued → Valued
shape_noted s line v = record v { found = refuse_if (has_shape s.name v.table.entries) line NotAnArray v.found }

abbrev pub judged : SettingTree → ℕ → Valued → Valued
judged s line v = let w = shape_noted s line v in record w { found = check_expr w.table s.value line w.found }

abbrev pub chosen : Bool → SettingTree → ℕ → Valued → Valued
chosen true s line v = is_bad_parameter line (shape_noted s line v)
chosen false s line v = given_const_value s.name (const_value (value_among v.table.entries) s.value) line (judged s line v)

choice : (b : Bool) (s : SettingTree) (line : ℕ) (v : Valued) → (if b then is_bad_parameter line (shape_noted s line v) else given_const_value s.name (const_value (value_among v.table.entries) s.value) line (judged s line v)) ≡ chosen b s line v
choice true s line v = refl
choice false s line v = refl

abbrev pub is_taken : SettingTree → Valued → Bool
is_taken s v = has_dummy s.name v.table.entries || has_value s.name v.table.entries

pub as_chosen : (s : SettingTree) (line : ℕ) (v : Valued) → setting_valued s line v ≡ chosen (is_taken s v) s line v
as_chosen s line v = choice (is_taken s v) s line v

-- ---- refusals

typed_back : (k : Kind) (x : List ℕ) (c : Constant) (line : ℕ) (v : Valued) → (given_typed k x c line v).found ≡ None → v.found ≡ None
typed_back Int x (constant.Int n) line v e = e
typed_back Int x (constant.Log b) line v e = noted_back true line BadParameter v.found e
typed_back Log x (constant.Int n) line v e = noted_back true line BadParameter v.found e
typed_back Log x (constant.Log b) line v e = e
typed_back Real x c line v e = e

pub const_value_back : (x : List ℕ) (w : ConstantValue) (line : ℕ) (v : Valued) → (given_const_value x w line v).found ≡ None → v.found ≡ None
const_value_back x Varies line v e = noted_back true line BadParameter v.found e
const_value_back x Faults line v e = noted_back true line BadParameter v.found e
const_value_back x (Is c) line v e = typed_back (kind_in v.table x) x c line v e

pub chosen_back : (b : Bool) (s : SettingTree) (line : ℕ) (v : Valued) → (chosen b s line v).found ≡ None → v.found ≡ None
chosen_back true s line v e = noted_back (has_shape s.name v.table.entries) line NotAnArray v.found (noted_back true line BadParameter (shape_noted s line v).found e)
chosen_back false s line v e =
    noted_back (has_shape s.name v.table.entries) line NotAnArray v.found
    (expr_back v.table s.value line (shape_noted s line v).found (const_value_back s.name (const_value (value_among v.table.entries) s.value) line (judged s line v) e))

pub setting_back : (s : SettingTree) (line : ℕ) (v : Valued) → (setting_valued s line v).found ≡ None → v.found ≡ None
setting_back s line v e = chosen_back (is_taken s v) s line v (ap (λ z. z.found) (sym (as_chosen s line v)) ∙ e)

pub settings_back : (ss : List SettingTree) (line : ℕ) (v : Valued) → (settings_valued ss line v).found ≡ None → v.found ≡ None
settings_back [] line v e = e
settings_back (s ∷ ss) line v e = setting_back s line v (settings_back ss line (setting_valued s line v) e)

pub decl_back : (d : DeclTree) (line : ℕ) (v : Valued) → (decl_valued d line v).found ≡ None → v.found ≡ None
decl_back (decl.parameter ss) line v e = settings_back ss line v e
decl_back (decl.implicit ps) line v e = e
decl_back (decl.integer es) line v e = e
decl_back (decl.logical es) line v e = e
decl_back (decl.dimension es) line v e = e
decl_back (decl.common cs) line v e = e
decl_back (decl.equivalence gs) line v e = e
decl_back (decl.save is) line v e = e
decl_back (decl.initial gs) line v e = e

pub values_back : (at : LineTable) (ds : List DeclTree) (n : ℕ) (v : Valued) → (decls_valued at ds n v).found ≡ None → v.found ≡ None
values_back at [] n v e = e
values_back at (d ∷ ds) n v e = decl_back d (line_or at (Decl n) 0) v (values_back at ds (n + 1) (decl_valued d (line_or at (Decl n) 0) v) e)

-- ---- dummies

module _ (n : ℕ) where
  typed_keeps : (k : Kind) (x : List ℕ) (c : Constant) (line : ℕ) (v : Valued) → has_dummy x v.table.entries ≡ false → Dummies n v.table.entries → Dummies n (given_typed k x c line v).table.entries
  typed_keeps Int x (constant.Int i) line v h d = changed_other n x (with_value (constant.Int i)) v.table.entries (λ e. refl) h d
  typed_keeps Int x (constant.Log b) line v h d = d
  typed_keeps Log x (constant.Int i) line v h d = d
  typed_keeps Log x (constant.Log b) line v h d = changed_other n x (with_value (constant.Log b)) v.table.entries (λ e. refl) h d
  typed_keeps Real x c line v h d = d

  const_value_keeps : (x : List ℕ) (w : ConstantValue) (line : ℕ) (v : Valued) → has_dummy x v.table.entries ≡ false → Dummies n v.table.entries → Dummies n (given_const_value x w line v).table.entries
  const_value_keeps x Varies line v h d = d
  const_value_keeps x Faults line v h d = d
  const_value_keeps x (Is c) line v h d = typed_keeps (kind_in v.table x) x c line v h d

  chosen_keeps : (b : Bool) (s : SettingTree) (line : ℕ) (v : Valued) → is_taken s v ≡ b → Dummies n v.table.entries → Dummies n (chosen b s line v).table.entries
  chosen_keeps true s line v h d = d
  chosen_keeps false s line v h d = const_value_keeps s.name (const_value (value_among v.table.entries) s.value) line (judged s line v) (or_parts (has_dummy s.name v.table.entries) (has_value s.name v.table.entries) h).0 d

  setting_keeps : (s : SettingTree) (line : ℕ) (v : Valued) → Dummies n v.table.entries → Dummies n (setting_valued s line v).table.entries
  setting_keeps s line v d = subst (λ (z : Valued). Dummies n z.table.entries) (sym (as_chosen s line v)) (chosen_keeps (is_taken s v) s line v refl d)

  settings_keep : (ss : List SettingTree) (line : ℕ) (v : Valued) → Dummies n v.table.entries → Dummies n (settings_valued ss line v).table.entries
  settings_keep [] line v d = d
  settings_keep (s ∷ ss) line v d = settings_keep ss line (setting_valued s line v) (setting_keeps s line v d)

  decl_keeps : (x : DeclTree) (line : ℕ) (v : Valued) → Dummies n v.table.entries → Dummies n (decl_valued x line v).table.entries
  decl_keeps (decl.parameter ss) line v d = settings_keep ss line v d
  decl_keeps (decl.implicit ps) line v d = d
  decl_keeps (decl.integer es) line v d = d
  decl_keeps (decl.logical es) line v d = d
  decl_keeps (decl.dimension es) line v d = d
  decl_keeps (decl.common cs) line v d = d
  decl_keeps (decl.equivalence gs) line v d = d
  decl_keeps (decl.save is) line v d = d
  decl_keeps (decl.initial gs) line v d = d

  pub values_keep : (at : LineTable) (xs : List DeclTree) (k : ℕ) (v : Valued) → Dummies n v.table.entries → Dummies n (decls_valued at xs k v).table.entries
  values_keep at [] k v d = d
  values_keep at (x ∷ xs) k v d = values_keep at xs (k + 1) (decl_valued x (line_or at (Decl k) 0) v) (decl_keeps x (line_or at (Decl k) 0) v d)
