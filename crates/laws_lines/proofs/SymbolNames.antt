-- The names of the symbols of a module are those of the names that its statements tell of, in their order.
use Rattle.std.proofs.Common.{◌≡◌, ℕ, ◌+◌, Bool, true, false, List, [], ◌∷◌, Ok, refl, ap, ◌∙◌}
use Rattle.f77_ast.specs.DeclTrees.{SettingTree, DeclTree, ParsedTree}
use Rattle.f77_ast.specs.DeclTrees as decl
use Rattle.f77_ast.specs.declared.constant.Constant.{Constant}
use Rattle.f77_ast.specs.declared.constant.Constant.TheVariants as constant
use Rattle.f77_ast.specs.declared.constant.ConstantValue.{ConstantValue}
use Rattle.f77_ast.specs.declared.constant.ConstantValue.TheVariants.{Is, Faults, Varies}
use Rattle.f77_ast.specs.Constants.{const_value}
use Rattle.f77_ast.specs.Symbols.{SymbolTree}
use Rattle.f77_names.specs.declared.kinds.Kind.{Kind}
use Rattle.f77_names.specs.declared.kinds.Kind.TheVariants.{Int, Log, Real}
use Rattle.f77_names.specs.declared.lines.Sited.TheVariants.{Decl}
use Rattle.f77_names.specs.Lines.{LineTable, line_or}
use Rattle.f77_names.specs.Entries.{EntryTree, entry_names, changed, with_value, value_among}
use Rattle.f77_names.specs.Tables.{table_of, kind_in, check_names}
use Rattle.f77_checks.specs.Parameters.{Valued, given_typed, given_const_value, setting_valued, settings_valued, decl_valued, decls_valued}
use Rattle.f77_meaning.specs.Modules.{symbol_names}
use Rattle.storage_layout.specs.Symbols.{valued, symbols_of}
use Rattle.storage_layout.specs.Table.{Layout, symbols_from}
use Rattle.laws_programs.proofs.SymbolTables.KeptNames.{Said, with_said}
use Rattle.laws_programs.proofs.SymbolTables.Values.{chosen, as_chosen, is_taken, judged}
use Rattle.laws_programs.proofs.SymbolTables.Answers.{answered_by, lines_in, names_in, layout_in}
use Rattle.laws_programs.proofs.Storage.ParameterLaws.{same_name}
use Rattle.laws_programs.proofs.Layouts.DifferLaws.{names_changed}

-- ---- entries

pub said_stay : (x : List ℕ) (w : Said) (es : List EntryTree) → entry_names (changed x (with_said w) es) ≡ entry_names es
said_stay x w es = names_changed x (with_said w) (same_name w) es

-- ---- the values that PARAMETER gives

abbrev names_of : Valued → List (List ℕ)
names_of v = entry_names v.table.entries

value_stay : (x : List ℕ) (c : Constant) (es : List EntryTree) → entry_names (changed x (with_value c) es) ≡ entry_names es
value_stay x c es = names_changed x (with_value c) (λ e. refl) es

typed_stay : (k : Kind) (x : List ℕ) (c : Constant) (line : ℕ) (v : Valued) → names_of (given_typed k x c line v) ≡ names_of v
typed_stay Int x (constant.Int i) line v = value_stay x (constant.Int i) v.table.entries
typed_stay Int x (constant.Log b) line v = refl
typed_stay Log x (constant.Int i) line v = refl
typed_stay Log x (constant.Log b) line v = value_stay x (constant.Log b) v.table.entries
typed_stay Real x c line v = refl

const_value_stay : (x : List ℕ) (w : ConstantValue) (line : ℕ) (v : Valued) → names_of (given_const_value x w line v) ≡ names_of v
const_value_stay x Varies line v = refl
const_value_stay x Faults line v = refl
const_value_stay x (Is c) line v = typed_stay (kind_in v.table x) x c line v

chosen_stay : (b : Bool) (s : SettingTree) (line : ℕ) (v : Valued) → names_of (chosen b s line v) ≡ names_of v
chosen_stay true s line v = refl
chosen_stay false s line v = const_value_stay s.name (const_value (value_among v.table.entries) s.value) line (judged s line v)

settings_stay : (ss : List SettingTree) (line : ℕ) (v : Valued) → names_of (settings_valued ss line v) ≡ names_of v
settings_stay [] line v = refl
settings_stay (s ∷ ss) line v = settings_stay ss line (setting_valued s line v) ∙ ap names_of (as_chosen s line v) ∙ chosen_stay (is_taken s v) s line v

decl_stay : (x : DeclTree) (line : ℕ) (v : Valued) → names_of (decl_valued x line v) ≡ names_of v
decl_stay (decl.parameter ss) line v = settings_stay ss line v
decl_stay (decl.implicit ps) line v = refl
decl_stay (decl.integer es) line v = refl
decl_stay (decl.logical es) line v = refl
decl_stay (decl.dimension es) line v = refl
decl_stay (decl.common cs) line v = refl
decl_stay (decl.equivalence gs) line v = refl
decl_stay (decl.save is) line v = refl
decl_stay (decl.initial gs) line v = refl

values_stay : (at : LineTable) (xs : List DeclTree) (k : ℕ) (v : Valued) → names_of (decls_valued at xs k v) ≡ names_of v
values_stay at [] k v = refl
values_stay at (x ∷ xs) k v = values_stay at xs (k + 1) (decl_valued x (line_or at (Decl k) 0) v) ∙ decl_stay x (line_or at (Decl k) 0) v

module_names : (p : ParsedTree) → entry_names (names_in p).entries ≡ entry_names (table_of (lines_in p) p.module_read).entries
unfolding valued
module_names p = values_stay (lines_in p) p.module_read.decls 0 (record { table = table_of (lines_in p) p.module_read; found = check_names (lines_in p) p.module_read })

-- ---- symbols

symbols_named : (l : Layout) (n : ℕ) (es : List EntryTree) → symbol_names (symbols_from l n es) ≡ entry_names es
symbols_named l n [] = refl
symbols_named l n (e ∷ es) = ap (λ (ns : List (List ℕ)). e.name ∷ ns) (symbols_named l (n + 1) es)

pub names_of_symbols : (p : ParsedTree) (ss : List SymbolTree) → symbols_of p ≡ Ok ss → symbol_names ss ≡ entry_names (table_of (lines_in p) p.module_read).entries
names_of_symbols p ss e = ap symbol_names (answered_by p ss e).table ∙ symbols_named (layout_in p) 0 (names_in p).entries ∙ module_names p
