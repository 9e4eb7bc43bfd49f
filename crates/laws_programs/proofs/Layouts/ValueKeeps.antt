-- What holds of names and stays where one gets a value stays whatever PARAMETER says.
use Rattle.std.proofs.Common.{ℕ, ◌+◌, Bool, true, false, List, [], ◌∷◌, sym, subst}
use Rattle.f77_ast.specs.DeclTrees.{SettingTree, DeclTree}
use Rattle.f77_ast.specs.DeclTrees as decl
use Rattle.f77_ast.specs.declared.constant.Constant.{Constant}
use Rattle.f77_ast.specs.declared.constant.Constant.TheVariants as constant
use Rattle.f77_ast.specs.declared.constant.ConstantValue.{ConstantValue}
use Rattle.f77_ast.specs.declared.constant.ConstantValue.TheVariants.{Is, Faults, Varies}
use Rattle.f77_ast.specs.Constants.{const_value}
use Rattle.f77_names.specs.declared.kinds.Kind.{Kind}
use Rattle.f77_names.specs.declared.kinds.Kind.TheVariants.{Int, Log, Real}
use Rattle.f77_names.specs.declared.lines.Sited.TheVariants.{Decl}
use Rattle.f77_names.specs.Lines.{LineTable, line_or}
use Rattle.f77_names.specs.Entries.{EntryTree, changed, with_value, value_among}
use Rattle.f77_names.specs.Tables.{kind_in}
use Rattle.f77_checks.specs.Parameters.{Valued, given_typed, given_const_value, setting_valued, settings_valued, decl_valued, decls_valued}
use Rattle.laws_programs.proofs.SymbolTables.Values.{chosen, as_chosen, is_taken, judged}

module _ (P : List EntryTree → Type 0) (more : (x : List ℕ) (c : Constant) (es : List EntryTree) → P es → P (changed x (with_value c) es)) where
  typed_keeps : (k : Kind) (x : List ℕ) (c : Constant) (line : ℕ) (v : Valued) → P v.table.entries → P (given_typed k x c line v).table.entries
  typed_keeps Int x (constant.Int i) line v d = more x (constant.Int i) v.table.entries d
  typed_keeps Int x (constant.Log b) line v d = d
  typed_keeps Log x (constant.Int i) line v d = d
  typed_keeps Log x (constant.Log b) line v d = more x (constant.Log b) v.table.entries d
  typed_keeps Real x c line v d = d

  const_value_keeps : (x : List ℕ) (w : ConstantValue) (line : ℕ) (v : Valued) → P v.table.entries → P (given_const_value x w line v).table.entries
  const_value_keeps x Varies line v d = d
  const_value_keeps x Faults line v d = d
  const_value_keeps x (Is c) line v d = typed_keeps (kind_in v.table x) x c line v d

  chosen_keeps : (b : Bool) (s : SettingTree) (line : ℕ) (v : Valued) → P v.table.entries → P (chosen b s line v).table.entries
  chosen_keeps true s line v d = d
  chosen_keeps false s line v d = const_value_keeps s.name (const_value (value_among v.table.entries) s.value) line (judged s line v) d

  setting_keeps : (s : SettingTree) (line : ℕ) (v : Valued) → P v.table.entries → P (setting_valued s line v).table.entries
  setting_keeps s line v d = subst (λ (z : Valued). P z.table.entries) (sym (as_chosen s line v)) (chosen_keeps (is_taken s v) s line v d)

  settings_keep : (ss : List SettingTree) (line : ℕ) (v : Valued) → P v.table.entries → P (settings_valued ss line v).table.entries
  settings_keep [] line v d = d
  settings_keep (s ∷ ss) line v d = settings_keep ss line (setting_valued s line v) (setting_keeps s line v d)

  decl_keeps : (x : DeclTree) (line : ℕ) (v : Valued) → P v.table.entries → P (decl_valued x line v).table.entries
  decl_keeps (decl.parameter ss) line v d = settings_keep ss line v d
  decl_keeps (decl.implicit ps) line v d = d
  decl_keeps (decl.integer es) line v d = d
  decl_keeps (decl.logical es) line v d = d
  decl_keeps (decl.dimension es) line v d = d
  decl_keeps (decl.common cs) line v d = d
  decl_keeps (decl.equivalence gs) line v d = d
  decl_keeps (decl.save is) line v d = d
  decl_keeps (decl.initial gs) line v d = d

  pub values_keep : (at : LineTable) (xs : List DeclTree) (k : ℕ) (v : Valued) → P v.table.entries → P (decls_valued at xs k v).table.entries
  values_keep at [] k v d = d
  values_keep at (x ∷ xs) k v d = values_keep at xs (k + 1) (decl_valued x (line_or at (Decl k) 0) v) (decl_keeps x (line_or at (Decl k) 0) v d)
