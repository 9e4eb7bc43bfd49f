-- The names of symbols are those of the table of names.
use Rattle.std.proofs.Common.{◌≡◌, ℕ, ◌+◌, Bool, true, false, List, [], ◌∷◌, map, Option, Some, None, Ok, refl, subst}
use Rattle.std.specs.Prelude.{if◌then◌else◌, ◌||◌}
use Rattle.f77_ast.specs.DeclTrees.{SettingTree, DeclTree, ModuleTree, ParsedTree}
use Rattle.f77_ast.specs.DeclTrees as decl
use Rattle.f77_ast.specs.declared.constant.Constant.{Constant}
use Rattle.f77_ast.specs.declared.constant.Constant.TheVariants as constant
use Rattle.f77_ast.specs.declared.constant.ConstantValue.{ConstantValue}
use Rattle.f77_ast.specs.declared.constant.ConstantValue.TheVariants.{Is, Faults, Varies}
use Rattle.f77_ast.specs.Constants.{const_value}
use Rattle.f77_ast.specs.Symbols.{SymbolTree}
use Rattle.fx_lists.specs.declared.refusal.Refusal.{Refusal}
use Rattle.f77_names.specs.declared.kinds.Kind.{Kind}
use Rattle.f77_names.specs.declared.kinds.Kind.TheVariants.{Int, Log, Real}
use Rattle.f77_names.specs.declared.lines.Sited.TheVariants.{Decl}
use Rattle.f77_names.specs.Lines.{LineTable, lines_of, line_or}
use Rattle.f77_names.specs.Entries.{EntryTree, has_dummy, has_value, value_among, with_value}
use Rattle.f77_names.specs.Tables.{table_of, check_names, kind_in}
use Rattle.f77_checks.specs.Parameters.{Valued, given_value, given_typed, given_const_value, setting_valued, settings_valued, decl_valued, decls_valued}
use Rattle.storage_layout.specs.Table.{Layout, symbols_from, symbols_in}
use Rattle.storage_layout.specs.Symbols.{answer, symbols_or_refusal, after_shared, lay_shared_and_data, lay_out, valued, check_and_lay_out, symbols_at, symbols_of}
use Rattle.roundtrip_programs.specs.Lines.{IsShown, AreShown}
use Rattle.roundtrip_programs.proofs.Named.{AreNamed, changed_named}
use Rattle.roundtrip_programs.specs.Statements.Formed.{IsName}
use Rattle.roundtrip_programs.proofs.Names.{name_shown}

module _ (P : List ℕ → Type 0) (named : (x : List ℕ) → IsName x → P x) where
  -- ---- values say nothing of names

  abbrev Keeps : Valued → Type 0
  Keeps v = AreNamed P v.table.entries

  value_named : (x : List ℕ) (c : Constant) (v : Valued) → Keeps v → Keeps (given_value x c v)
  value_named x c v h = changed_named P named x (with_value c) v.table.entries (λ e. refl) h

  typed_named : (k : Kind) (x : List ℕ) (c : Constant) (line : ℕ) (v : Valued) → Keeps v → Keeps (given_typed k x c line v)
  typed_named Int x (constant.Int n) line v h = value_named x (constant.Int n) v h
  typed_named Int x (constant.Log b) line v h = h
  typed_named Log x (constant.Int n) line v h = h
  typed_named Log x (constant.Log b) line v h = value_named x (constant.Log b) v h
  typed_named Real x c line v h = h

  const_value_named : (x : List ℕ) (w : ConstantValue) (line : ℕ) (v : Valued) → Keeps v → Keeps (given_const_value x w line v)
  const_value_named x Varies line v h = h
  const_value_named x Faults line v h = h
  const_value_named x (Is c) line v h = typed_named (kind_in v.table x) x c line v h

  either_named : (b : Bool) (v w : Valued) → Keeps v → Keeps w → Keeps (if b then v else w)
  either_named true v w h k = h
  either_named false v w h k = k

  setting_named : (s : SettingTree) (line : ℕ) (v : Valued) → Keeps v → Keeps (setting_valued s line v)
  setting_named s line v h =
      either_named (has_dummy s.name v.table.entries || has_value s.name v.table.entries) _ _ h (const_value_named s.name (const_value (value_among v.table.entries) s.value) line _ h)

  settings_named : (ss : List SettingTree) (line : ℕ) (v : Valued) → Keeps v → Keeps (settings_valued ss line v)
  settings_named [] line v h = h
  settings_named (s ∷ ss) line v h = settings_named ss line (setting_valued s line v) (setting_named s line v h)

  decl_named : (d : DeclTree) (line : ℕ) (v : Valued) → Keeps v → Keeps (decl_valued d line v)
  decl_named (decl.parameter ss) line v h = settings_named ss line v h
  decl_named (decl.implicit ps) line v h = h
  decl_named (decl.integer es) line v h = h
  decl_named (decl.logical es) line v h = h
  decl_named (decl.dimension es) line v h = h
  decl_named (decl.common cs) line v h = h
  decl_named (decl.equivalence gs) line v h = h
  decl_named (decl.save is) line v h = h
  decl_named (decl.initial gs) line v h = h

  decls_named : (at : LineTable) (ds : List DeclTree) (n : ℕ) (v : Valued) → Keeps v → Keeps (decls_valued at ds n v)
  decls_named at [] n v h = h
  decls_named at (d ∷ ds) n v h = decls_named at ds (n + 1) (decl_valued d (line_or at (Decl n) 0) v) (decl_named d (line_or at (Decl n) 0) v h)

  pub valued_named : (at : LineTable) (m : ModuleTree) → AreNamed P (table_of at m).entries → Keeps (valued at m)
  unfolding valued
  valued_named at m h = decls_named at m.decls 0 (record { table = table_of at m; found = check_names at m }) h

-- ---- symbols

abbrev pub AreSymbolsShown : List SymbolTree → Type 0
AreSymbolsShown ss = AreShown (map (λ (s : SymbolTree). s.name) ss)

symbols_shown : (l : Layout) (n : ℕ) (es : List EntryTree) → AreNamed IsShown es → AreSymbolsShown (symbols_from l n es)
symbols_shown l n [] h = tt
symbols_shown l n (e ∷ es) h = record { first = h.first; others = symbols_shown l (n + 1) es h.others }

answer_shown : (found late : Option Refusal) (l : Layout) (ss : List SymbolTree) → AreNamed IsShown l.table.entries → answer found late l ≡ Ok ss → AreSymbolsShown ss
answer_shown (Some r) late l ss h e = cc
answer_shown None (Some r) l ss h e = cc
answer_shown None None l ss h e = let same : symbols_in l ≡ ss = cc in subst AreSymbolsShown same (symbols_shown l 0 l.table.entries h)

pub table_shown : (p : ParsedTree) (ss : List SymbolTree) → AreNamed IsShown (table_of (lines_of p.places.spots) p.module_read).entries → symbols_of p ≡ Ok ss → AreSymbolsShown ss
unfolding symbols_or_refusal after_shared lay_shared_and_data lay_out check_and_lay_out symbols_at symbols_of
table_shown p ss h e = answer_shown _ _ _ ss (valued_named IsShown name_shown (lines_of p.places.spots) p.module_read h) e
