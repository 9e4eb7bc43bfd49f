-- INTEGER constants of modules that are read have 32 bits.
use Rattle.std.proofs.Common.{◌≡◌, ◌⊎◌, inl, inr, ℕ, zero, suc, ◌+◌, Bool, true, false, ℤ, List, [], ◌∷◌, ◌++◌, Option, Some, None, Ok, refl, sym, ap, ◌∙◌, subst}
use Rattle.std.specs.Prelude.{slice_get}
use Rattle.fixed_form.specs.declared.line.Lines.{Lines}
use Rattle.f77_ast.specs.DeclTrees.{SettingTree, DeclTree, ModuleTree, ParsedTree}
use Rattle.f77_ast.specs.DeclTrees as decl
use Rattle.f77_ast.specs.declared.decl.Scalar.TheVariants as scalar
use Rattle.f77_ast.specs.declared.places.Part.TheVariants as parts
use Rattle.f77_ast.specs.Numbers.{in_range}
use Rattle.f77_ast.specs.declared.constant.Constant.{Constant}
use Rattle.f77_ast.specs.declared.constant.Constant.TheVariants as constant
use Rattle.f77_ast.specs.declared.constant.ConstantValue.{ConstantValue}
use Rattle.f77_ast.specs.declared.constant.ConstantValue.TheVariants.{Is, Faults, Varies}
use Rattle.f77_ast.specs.Constants.{number_of, const_value}
use Rattle.f77_statements.specs.Phrases.{specification, end_module}
use Rattle.f77_parser.specs.Modules.{parse_of}
use Rattle.f77_ast.specs.declared.symbol.Place.TheVariants as place
use Rattle.f77_ast.specs.Symbols.{SymbolTree}
use Rattle.f77_names.specs.declared.kinds.Kind.{Kind}
use Rattle.f77_names.specs.declared.kinds.Kind.TheVariants as kind
use Rattle.f77_names.specs.declared.lines.Sited.TheVariants.{Decl}
use Rattle.f77_names.specs.Lines.{LineTable, line_or}
use Rattle.f77_names.specs.Entries.{EntryTree, find, of_entry, changed, with_value, value_among}
use Rattle.f77_names.specs.Tables.{kind_in, entry_kind, table_of, check_names}
use Rattle.f77_checks.specs.Parameters.{Valued, given_typed, given_const_value, setting_valued, settings_valued, decl_valued, decls_valued}
use Rattle.laws_programs.specs.roundtrip_programs.Statements.Formed.{Each}
use Rattle.laws_programs.specs.roundtrip_programs.Statements.Declared.{IsSetting}
use Rattle.laws_programs.specs.roundtrip_programs.Statements.Phrased.{IsPhrase}
use Rattle.f77_parser.specs.Elaborated.{meant_in}
use Rattle.laws_programs.specs.roundtrip_programs.ModuleTexts.Folded.{folded}
use Rattle.laws_programs.specs.roundtrip_programs.ModuleTexts.Cards.{card, title_cards, decl_cards, cards_in, statements_of}
use Rattle.storage_layout.specs.Symbols.{symbols_of, valued}
use Rattle.storage_layout.specs.Table.{scalar_of}
use Rattle.laws_programs.specs.SymbolTables.Shapes.{symbol_named}
use Rattle.laws_programs.proofs.SymbolTables.KeptNames.{Said, with_said, Typed, Shaped, Shared, Parameter, Saved, Initial, Nothing}
use Rattle.laws_programs.proofs.SymbolTables.Values.{chosen, as_chosen, is_taken, judged}
use Rattle.laws_programs.proofs.SymbolTables.Answers.{Answered, lines_in, names_in, layout_in, answered_by}
use Rattle.laws_programs.proofs.SymbolTables.FoundNames.{AllFound, Changed, find_changed, table_found}
use Rattle.laws_programs.specs.Storage.Programs.{IsModule}
use Rattle.laws_programs.specs.Storage.DataLaws.{ConstantsFit, AllConstantsFit}
use Rattle.laws_programs.proofs.Storage.ParameterLaws.{OfKind, Right, names_right, none_said}
use Rattle.laws_programs.specs.Programs.{AreTables}
use Rattle.laws_programs.proofs.Sources.{IsBuilt, all_built}
use Rattle.laws_programs.proofs.Ordered.{AllFormed, split}
use Rattle.laws_analyses.specs.ScalarLaws.{IntegersFit}
use Rattle.laws_analyses.proofs.EntryNames.{EntryNamed, entry_named}
use Rattle.laws_analyses.proofs.EntryNames as names
use Rattle.laws_analyses.proofs.LogicalLaws.{kind_of_value}
use Rattle.laws_analyses.proofs.LiteralLaws.{Small, formed_small, Fits32, MaybeFits, ConstantValueFits, const_value_fits}

-- ---- what is given to names

abbrev ValueFits : EntryTree → Type 0
ValueFits e = MaybeFits e.value

none_fits : (v : Option Constant) → v ≡ None → MaybeFits v
none_fits None h = tt
none_fits (Some c) h = cc

found_fits : (es : List EntryTree) → AllFound ValueFits es → (x : List ℕ) → MaybeFits (value_among es x)
found_fits es h x = go (find x es) refl
  where
    go : (o : Option EntryTree) → find x es ≡ o → MaybeFits (of_entry None (λ e. e.value) o)
    go None q = tt
    go (Some e) q = h x e q

value_fits : (x : List ℕ) (c : Constant) (es : List EntryTree) → Fits32 c → AllFound ValueFits es → AllFound ValueFits (changed x (with_value c) es)
value_fits x c es f h y d k =
    let r = find_changed x (with_value c) (λ e. refl) es y d k in
    elim r.is [ inl a ↦ subst ValueFits a (h y r.entry r.found) | inr b ↦ subst ValueFits b.0 f ]

typed_fits : (k : Kind) (x : List ℕ) (c : Constant) (line : ℕ) (v : Valued) → Fits32 c → AllFound ValueFits v.table.entries → AllFound ValueFits (given_typed k x c line v).table.entries
typed_fits kind.Int x (constant.Int i) line v f h = value_fits x (constant.Int i) v.table.entries f h
typed_fits kind.Int x (constant.Log b) line v f h = h
typed_fits kind.Log x (constant.Int i) line v f h = h
typed_fits kind.Log x (constant.Log b) line v f h = value_fits x (constant.Log b) v.table.entries tt h
typed_fits kind.Real x c line v f h = h

given_fits : (x : List ℕ) (w : ConstantValue) (line : ℕ) (v : Valued) → ConstantValueFits w → AllFound ValueFits v.table.entries → AllFound ValueFits (given_const_value x w line v).table.entries
given_fits x Varies line v f h = h
given_fits x Faults line v f h = h
given_fits x (Is c) line v f h = typed_fits (kind_in v.table x) x c line v f h

chosen_fits : (b : Bool) (s : SettingTree) (line : ℕ) (v : Valued) → Small s.value → AllFound ValueFits v.table.entries → AllFound ValueFits (chosen b s line v).table.entries
chosen_fits true s line v f h = h
chosen_fits false s line v f h =
    given_fits s.name (const_value (value_among v.table.entries) s.value) line (judged s line v) (const_value_fits (value_among v.table.entries) (found_fits v.table.entries h) s.value f) h

setting_fits : (s : SettingTree) (line : ℕ) (v : Valued) → Small s.value → AllFound ValueFits v.table.entries → AllFound ValueFits (setting_valued s line v).table.entries
setting_fits s line v f h = subst (λ (z : Valued). AllFound ValueFits z.table.entries) (sym (as_chosen s line v)) (chosen_fits (is_taken s v) s line v f h)

settings_fit : (ss : List SettingTree) (line : ℕ) (v : Valued) → Each IsSetting ss → AllFound ValueFits v.table.entries → AllFound ValueFits (settings_valued ss line v).table.entries
settings_fit [] line v f h = h
settings_fit (s ∷ ss) line v f h = settings_fit ss line (setting_valued s line v) f.others (setting_fits s line v (formed_small f.first.value) h)

parameter_fits : (ss : List SettingTree) (line : ℕ) (v : Valued) → IsPhrase (specification (decl.parameter ss)) → AllFound ValueFits v.table.entries → AllFound ValueFits (settings_valued ss line v).table.entries
parameter_fits [] line v f h = h
parameter_fits (s ∷ ss) line v f h = settings_fit (s ∷ ss) line v (record { first = f.first; others = f.others }) h

-- ---- specification statements

decl_fits : (d : DeclTree) (line : ℕ) (v : Valued) → IsPhrase (specification d) → AllFound ValueFits v.table.entries → AllFound ValueFits (decl_valued d line v).table.entries
decl_fits (decl.parameter ss) line v f h = parameter_fits ss line v f h
decl_fits (decl.implicit ps) line v f h = h
decl_fits (decl.integer es) line v f h = h
decl_fits (decl.logical es) line v f h = h
decl_fits (decl.dimension es) line v f h = h
decl_fits (decl.common cs) line v f h = h
decl_fits (decl.equivalence gs) line v f h = h
decl_fits (decl.save is) line v f h = h
decl_fits (decl.initial gs) line v f h = h

decls_fit : (at : LineTable) (ds : List DeclTree) (n : ℕ) (v : Valued) → AllFormed (decl_cards n ds) → AllFound ValueFits v.table.entries → AllFound ValueFits (decls_valued at ds n v).table.entries
decls_fit at [] n v f h = h
decls_fit at (d ∷ ds) n v f h = decls_fit at ds (n + 1) (decl_valued d (line_or at (Decl n) 0) v) f.others (decl_fits d (line_or at (Decl n) 0) v f.first.1 h)

-- ---- modules

decls_formed : (m : ModuleTree) → AllFormed (statements_of m) → AllFormed (decl_cards 0 m.decls)
unfolding statements_of
decls_formed m h =
    let body = cards_in (meant_in m).is_while (folded m).body in
    let all = (split (title_cards m ++ decl_cards 0 m.decls ++ body) (card parts.End None end_module ∷ []) h).0 in
    let front = (split (title_cards m ++ decl_cards 0 m.decls) body all).0 in
    (split (title_cards m) (decl_cards 0 m.decls) front).1

values_fit : (p : ParsedTree) → IsBuilt p → AllFound ValueFits (names_in p).entries
unfolding valued
values_fit p b =
    let at = lines_in p in
    let m = p.module_read in
    let begin = table_found (λ e. e.value ≡ None) (λ x line. refl) (λ n e h. h) none_said at m in
    decls_fit at m.decls 0 (record { table = table_of at m; found = check_names at m }) (decls_formed m b.formed) (λ y e h. none_fits e.value (begin y e h))

integer_number : (k : Kind) (c : Constant) → OfKind k c → MaybeFits (Some c) → scalar_of k ≡ scalar.Int → in_range (number_of c) ≡ true
integer_number kind.Int (constant.Int n) o f e = f
integer_number kind.Int (constant.Log b) o f e = absurd o
integer_number kind.Log c o f e = cc
integer_number kind.Real c o f e = absurd o

constants_fit : (p : ParsedTree) (ss : List SymbolTree) → IsBuilt p → symbols_of p ≡ Ok ss → ConstantsFit ss
constants_fit p ss b t x s k h q i =
    let a = answered_by p ss t in
    let r = entry_named p ss a x s h in
    let v = names.valued (layout_in p) r.place r.entry k (ap (λ z. z.place) (sym r.symbol) ∙ q) in
    let o = kind_of_value (names_in p).kinds r.entry v.constant ((names_right p).right x r.entry r.found) v.value in
    let f = subst MaybeFits v.value (values_fit p b x r.entry r.found) in
    subst (λ n. in_range n ≡ true) v.number (integer_number (entry_kind (names_in p).kinds r.entry) v.constant o f (ap (λ z. z.scalar) (sym r.symbol) ∙ i))

all_fit : (ps : List ParsedTree) (sss : List (List SymbolTree)) → Each IsBuilt ps → AreTables ps sss → (i : ℕ) (p : ParsedTree) (ss : List SymbolTree) → slice_get ps i ≡ Some p → slice_get sss i ≡ Some ss → ConstantsFit ss
all_fit [] sss b t i p ss e f = cc
all_fit (q ∷ ps) [] b t i p ss e f = absurd t
all_fit (q ∷ ps) (rs ∷ sss) b t zero p ss e f = let table : rs ≡ ss = cc in subst ConstantsFit table (constants_fit q rs b.first t.0)
all_fit (q ∷ ps) (rs ∷ sss) b t (suc i) p ss e f = all_fit ps sss b.others t.1 i p ss e f

pub integers_fit : IntegersFit
integers_fit lines ps sss h t i p ss m = all_fit ps sss (all_built lines ps h) t i p ss m.parsed m.table
