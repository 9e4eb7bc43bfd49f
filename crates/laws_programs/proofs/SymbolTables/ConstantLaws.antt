-- The constants of a table are scalars.
use Rattle.std.proofs.Common.{◌≡◌, ◌⊎◌, inl, inr, ℕ, suc, ◌+◌, Bool, true, false, List, [], ◌∷◌, Option, Some, None, refl, sym, ap, ◌∙◌, subst}
use Rattle.std.specs.Prelude.{is_some, slice_get, bytes_eq, if◌then◌else◌}
use Rattle.std.proofs.lemmas.Slice.Eq.{bytes_eq-Decides}
use Rattle.f77_ast.specs.DeclTrees.{SettingTree, DeclTree, ParsedTree}
use Rattle.f77_ast.specs.DeclTrees as decl
use Rattle.f77_ast.specs.declared.constant.Constant.{Constant}
use Rattle.f77_ast.specs.declared.constant.Constant.TheVariants as constant
use Rattle.f77_ast.specs.declared.constant.ConstantValue.{ConstantValue}
use Rattle.f77_ast.specs.declared.constant.ConstantValue.TheVariants.{Is, Faults, Varies}
use Rattle.f77_ast.specs.Constants.{const_value}
use Rattle.f77_ast.specs.declared.symbol.Place.TheVariants as place
use Rattle.f77_ast.specs.Symbols.{SymbolTree}
use Rattle.fx_lists.specs.declared.code.Code.TheVariants.{NotAnArray, BadParameter}
use Rattle.f77_names.specs.declared.kinds.Kind.{Kind}
use Rattle.f77_names.specs.declared.kinds.Kind.TheVariants.{Int, Log, Real}
use Rattle.f77_names.specs.declared.lines.Sited.TheVariants.{Decl}
use Rattle.f77_names.specs.Lines.{LineTable, line_or}
use Rattle.f77_names.specs.Entries.{ShapeTree, EntryTree, find, of_entry, changed, with_value, has_shape, value_among}
use Rattle.f77_names.specs.Tables.{kind_in, table_of, check_names}
use Rattle.f77_checks.specs.Parameters.{Valued, given_typed, given_const_value, setting_valued, settings_valued, decl_valued, decls_valued}
use Rattle.storage_data.specs.declared.offset_node.Home.{Home}
use Rattle.storage_data.specs.declared.offset_node.Home.TheVariants.{Block, Own}
use Rattle.storage_data.specs.declared.offset_node.OffsetNode.{OffsetNode}
use Rattle.storage_layout.specs.Symbols.{valued}
use Rattle.storage_layout.specs.Table.{Layout, home_place, place_in, unless_dummy, unless_value, entry_place, bounds_in, symbol_of, symbols_from}
use Rattle.laws_programs.specs.SymbolTables.Laws.{ConstantsAreScalars}
use Rattle.laws_programs.specs.SymbolTables.Shapes.{symbol_named}
use Rattle.laws_programs.proofs.SymbolTables.StatementRefusals.{noted_back, expr_back}
use Rattle.laws_programs.proofs.SymbolTables.KeptNames.{Said, with_said, Typed, Shaped, Shared, Parameter, Saved, Initial, Nothing}
use Rattle.laws_programs.proofs.SymbolTables.Values.{chosen, as_chosen, is_taken, judged, shape_noted, chosen_back, const_value_back, values_back, decl_back, settings_back, setting_back}
use Rattle.laws_programs.proofs.SymbolTables.Answers.{Answered, lines_in, names_in, layout_in, answered_by, found_none, values_none}
use Rattle.laws_programs.proofs.SymbolTables.FoundNames.{AllFound, Changed, find_changed, table_found}
use Rattle.fx_lists.proofs.Refused.{none_refused}

-- a name has no value, or no bounds
abbrev Flat : EntryTree → Type 0
Flat e = (e.value ≡ None) ⊎ (e.shape ≡ None)

abbrev NoValue : EntryTree → Type 0
NoValue e = e.value ≡ None

said_none : (w : Said) (e : EntryTree) → NoValue e → NoValue (with_said w e)
said_none (Typed s) e h = h
said_none (Shaped line b bs) e h = h
said_none (Shared line) e h = h
said_none Parameter e h = h
said_none Saved e h = h
said_none Initial e h = h
said_none Nothing e h = h

no_shape : (o : Option EntryTree) (e : EntryTree) → o ≡ Some e → of_entry false (λ z. is_some z.shape) o ≡ false → e.shape ≡ None
no_shape o e q h = go e.shape refl (sym (ap (of_entry false (λ z. is_some z.shape)) q) ∙ h)
  where
    go : (s : Option ShapeTree) → e.shape ≡ s → is_some s ≡ false → e.shape ≡ None
    go None k i = k
    go (Some s) k i = cc

value_flat : (x : List ℕ) (c : Constant) (es : List EntryTree) → has_shape x es ≡ false → AllFound Flat es → AllFound Flat (changed x (with_value c) es)
value_flat x c es h all y d k =
    let r = find_changed x (with_value c) (λ e. refl) es y d k in
    elim r.is [ inl a ↦ subst Flat a (all y r.entry r.found) | inr b ↦ subst Flat b.0 (inr (no_shape (find x es) r.entry b.1 h)) ]

typed_flat : (k : Kind) (x : List ℕ) (c : Constant) (line : ℕ) (v : Valued) → has_shape x v.table.entries ≡ false → AllFound Flat v.table.entries → AllFound Flat (given_typed k x c line v).table.entries
typed_flat Int x (constant.Int i) line v h d = value_flat x (constant.Int i) v.table.entries h d
typed_flat Int x (constant.Log b) line v h d = d
typed_flat Log x (constant.Int i) line v h d = d
typed_flat Log x (constant.Log b) line v h d = value_flat x (constant.Log b) v.table.entries h d
typed_flat Real x c line v h d = d

const_value_flat : (x : List ℕ) (w : ConstantValue) (line : ℕ) (v : Valued) → has_shape x v.table.entries ≡ false → AllFound Flat v.table.entries → AllFound Flat (given_const_value x w line v).table.entries
const_value_flat x Varies line v h d = d
const_value_flat x Faults line v h d = d
const_value_flat x (Is c) line v h d = typed_flat (kind_in v.table x) x c line v h d

chosen_flat : (b : Bool) (s : SettingTree) (line : ℕ) (v : Valued) → (chosen b s line v).found ≡ None → AllFound Flat v.table.entries → AllFound Flat (chosen b s line v).table.entries
chosen_flat true s line v e d = d
chosen_flat false s line v e d =
    let quiet = expr_back v.table s.value line (shape_noted s line v).found (const_value_back s.name (const_value (value_among v.table.entries) s.value) line (judged s line v) e) in
    const_value_flat s.name (const_value (value_among v.table.entries) s.value) line (judged s line v) (none_refused (has_shape s.name v.table.entries) line NotAnArray v.found quiet).0 d

setting_flat : (s : SettingTree) (line : ℕ) (v : Valued) → (setting_valued s line v).found ≡ None → AllFound Flat v.table.entries → AllFound Flat (setting_valued s line v).table.entries
setting_flat s line v e d = subst (λ (z : Valued). AllFound Flat z.table.entries) (sym (as_chosen s line v)) (chosen_flat (is_taken s v) s line v (ap (λ z. z.found) (sym (as_chosen s line v)) ∙ e) d)

settings_flat : (ss : List SettingTree) (line : ℕ) (v : Valued) → (settings_valued ss line v).found ≡ None → AllFound Flat v.table.entries → AllFound Flat (settings_valued ss line v).table.entries
settings_flat [] line v e d = d
settings_flat (s ∷ ss) line v e d = settings_flat ss line (setting_valued s line v) e (setting_flat s line v (settings_back ss line (setting_valued s line v) e) d)

decl_flat : (x : DeclTree) (line : ℕ) (v : Valued) → (decl_valued x line v).found ≡ None → AllFound Flat v.table.entries → AllFound Flat (decl_valued x line v).table.entries
decl_flat (decl.parameter ss) line v e d = settings_flat ss line v e d
decl_flat (decl.implicit ps) line v e d = d
decl_flat (decl.integer es) line v e d = d
decl_flat (decl.logical es) line v e d = d
decl_flat (decl.dimension es) line v e d = d
decl_flat (decl.common cs) line v e d = d
decl_flat (decl.equivalence gs) line v e d = d
decl_flat (decl.save is) line v e d = d
decl_flat (decl.initial gs) line v e d = d

values_flat : (at : LineTable) (xs : List DeclTree) (k : ℕ) (v : Valued) → (decls_valued at xs k v).found ≡ None → AllFound Flat v.table.entries → AllFound Flat (decls_valued at xs k v).table.entries
values_flat at [] k v e d = d
values_flat at (x ∷ xs) k v e d =
    let next = decl_valued x (line_or at (Decl k) 0) v in
    values_flat at xs (k + 1) next e (decl_flat x (line_or at (Decl k) 0) v (values_back at xs (k + 1) next e) d)

names_flat : (p : ParsedTree) → (valued (lines_in p) p.module_read).found ≡ None → AllFound Flat (names_in p).entries
unfolding valued
names_flat p e =
    let at = lines_in p in
    let m = p.module_read in
    let begin = table_found NoValue (λ x line. refl) (λ n d h. h) said_none at m in
    values_flat at m.decls 0 (record { table = table_of at m; found = check_names at m }) e (λ y d h. inl (begin y d h))

-- ---- symbols

no_constant_home : (l : Layout) (o : _) (h : Home) (k : _) → home_place l o h ≡ place.Constant k → ⊥
no_constant_home l o (Block b) k e = cc
no_constant_home l o (Own n) k e = cc

no_constant_offset_node : (l : Layout) (s : Option OffsetNode) (k : _) → place_in l s ≡ place.Constant k → ⊥
no_constant_offset_node l None k e = cc
no_constant_offset_node l (Some s) k e = no_constant_home l s.offset s.home k e

-- a constant has a value
has_value : (l : Layout) (v : Option Constant) (d : Option ℕ) (s : Option OffsetNode) (k : _) → unless_value v (unless_dummy d (place_in l s)) ≡ place.Constant k → v ≡ None → ⊥
has_value l (Some c) d s k e h = cc
has_value l None (Some n) s k e h = cc
has_value l None None s k e h = no_constant_offset_node l s k e

flat_symbol : (l : Layout) (n : ℕ) (e : EntryTree) (k : _) → Flat e → (symbol_of l n e).place ≡ place.Constant k → (symbol_of l n e).bounds ≡ []
flat_symbol l n e k (inl v) h = absurd (has_value l e.value e.dummy (slice_get l.offset_nodes n) k h v)
flat_symbol l n e k (inr s) h = ap bounds_in s

flat_named : (l : Layout) (n : ℕ) (es : List EntryTree) (x : List ℕ) (s : SymbolTree) (k : _) → ((e : EntryTree) → find x es ≡ Some e → Flat e) → symbol_named (symbols_from l n es) x ≡ Some s → s.place ≡ place.Constant k → s.bounds ≡ []
unfolding find
flat_named l n [] x s k all h q = cc
flat_named l n (e ∷ es) x s k all h q = go (bytes_eq x e.name) refl h (λ a b. flat_named l (n + 1) es x s k a b q)
  where
    go : (b : Bool) → bytes_eq x e.name ≡ b → (if b then Some (symbol_of l n e) else symbol_named (symbols_from l (n + 1) es) x) ≡ Some s → (((d : EntryTree) → find x es ≡ Some d → Flat d) → symbol_named (symbols_from l (n + 1) es) x ≡ Some s → s.bounds ≡ []) → s.bounds ≡ []
    go true o i ih =
        let same : symbol_of l n e ≡ s = cc in
        let flat = all e (ap (λ b. if b then Some e else find x es) o) in
        ap (λ z. z.bounds) (sym same) ∙ flat_symbol l n e k flat (ap (λ z. z.place) same ∙ q)
    go false o i ih = ih (λ d z. all d (ap (λ b. if b then Some e else find x es) o ∙ z)) i

pub constants_are_scalars : ConstantsAreScalars
constants_are_scalars p ss e x s k h q =
    let a = answered_by p ss e in
    let flat = names_flat p (values_none p (found_none p ss a)) in
    flat_named (layout_in p) 0 (names_in p).entries x s k (λ d z. flat x d z) (ap (λ z. symbol_named z x) (sym a.table) ∙ h) q
