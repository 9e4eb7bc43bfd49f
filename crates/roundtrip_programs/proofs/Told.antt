-- What specification statements say of names is the same, whatever the lines.
use Rattle.std.proofs.Common.{◌≡◌, ℕ, suc, List, [], ◌∷◌, map, Option, Some, None, refl, ap, subst}
use Rattle.f77_ast.specs.declared.decl.Scalar.{Scalar}
use Rattle.f77_ast.specs.declared.decl.Scalar.TheVariants.{Int, Log}
use Rattle.f77_ast.specs.declared.decl.SaveItem.{SaveItem}
use Rattle.f77_ast.specs.declared.decl.SaveItem.TheVariants as item
use Rattle.f77_ast.specs.declared.module.FunctionForm.{FunctionForm}
use Rattle.f77_ast.specs.declared.module.FunctionForm.TheVariants.{Plain, Integer, Logical}
use Rattle.f77_ast.specs.Trees.{ExprTree}
use Rattle.f77_ast.specs.Trees as tree
use Rattle.f77_ast.specs.DeclTrees.{ExtentTree, EntityTree, SettingTree, CommonTree, DataTree, DeclTree, ModuleTree}
use Rattle.f77_ast.specs.DeclTrees as decl
use Rattle.f77_ast.specs.Symbols.{BoundTree}
use Rattle.fx_lists.specs.declared.refusal.Refusal.{Refusal}
use Rattle.f77_names.specs.declared.functions.Function.{Function}
use Rattle.f77_names.specs.declared.kinds.Kind.{Kind}
use Rattle.f77_names.specs.declared.lines.Sited.TheVariants.{Title, Decl}
use Rattle.f77_names.specs.Lines.{LineTable, line_or}
use Rattle.f77_names.specs.Kinds.{kinds_of}
use Rattle.f77_names.specs.Functions.{arrays_named}
use Rattle.f77_names.specs.Entries.{ShapeTree, EntryTree, seen, or_this, with_dummy, with_type, with_shape, with_common, as_parameter, as_saved, as_initial, has_dummy, has_type, has_shape, has_common}
use Rattle.f77_names.specs.Declaring.{Told, typed, shaped, bound_of, in_common, dummy_told, dummies_told, form_told, extents_seen, entity_seen, typed_entities, shaped_entities, members_told, blocks_told, setting_told, settings_told, mention_told, item_told, items_told, groups_told, targets_told, save_told, saves_told, decl_told, decls_told}
use Rattle.f77_names.specs.Tables.{entry_kind, no_names, told_of, in_common_too, check_entry, check_entries, table_of, check_names}
use Rattle.roundtrip_programs.proofs.Found.{SameFound, noted_same}
use Rattle.roundtrip_programs.proofs.Bare.{no_lines, bare, bares, bare_shape, bare_line, bare_table, Bare, of_bare, dummy_bare, type_bare, shape_bare, common_bare, seen_same, changed_same}
use Rattle.roundtrip_programs.proofs.Seen.{expr_same, exprs_same, maybe_same, stmts_same}

pub record SameTold (t u : Told) : Type 0 where
  pub entries : Bare t.entries u.entries
  pub found : SameFound t.found u.found

-- ---- one name

typed_same : (x : List ℕ) (s : Scalar) (line : ℕ) {t u : Told} → SameTold t u → SameTold (typed x s line t) (typed x s 0 u)
typed_same x s line {t} {u} h = record {
  entries = changed_same x (with_type s) (with_type s) (λ e. refl) h.entries;
  found = noted_same _ _ _ _ _ _ (of_bare (has_type x) (type_bare x t.entries) h.entries) h.found;
}

or_shape : (o : Option ShapeTree) (line : ℕ) (bs : List BoundTree) → bare_shape (or_this o (record { line = line; bounds = bs })) ≡ or_this (bare_shape o) (record { line = 0; bounds = bs })
or_shape None line bs = refl
or_shape (Some s) line bs = refl

with_shape_bare : (line : ℕ) (bs : List BoundTree) (e : EntryTree) → bare (with_shape (record { line = line; bounds = bs }) e) ≡ with_shape (record { line = 0; bounds = bs }) (bare e)
with_shape_bare line bs e = ap (λ (s : Option ShapeTree). record (bare e) { shape = s }) (or_shape e.shape line bs)

shaped_same : (x : List ℕ) (bs : List ExtentTree) (line : ℕ) {t u : Told} → SameTold t u → SameTold (shaped x bs line t) (shaped x bs 0 u)
shaped_same x [] line h = h
shaped_same x (b ∷ bs) line {t} {u} h = record {
  entries = changed_same x (with_shape (record { line = line; bounds = map bound_of (b ∷ bs) })) (with_shape (record { line = 0; bounds = map bound_of (b ∷ bs) }))
      (with_shape_bare line (map bound_of (b ∷ bs))) h.entries;
  found = noted_same _ _ _ _ _ _ (of_bare (has_shape x) (shape_bare x t.entries) h.entries) h.found;
}

or_line : (o : Option ℕ) (line : ℕ) → bare_line (or_this o line) ≡ or_this (bare_line o) 0
or_line None line = refl
or_line (Some l) line = refl

with_common_bare : (line : ℕ) (e : EntryTree) → bare (with_common line e) ≡ with_common 0 (bare e)
with_common_bare line e = ap (λ (l : Option ℕ). record (bare e) { common = l }) (or_line e.common line)

in_common_same : (x : List ℕ) (line : ℕ) {t u : Told} → SameTold t u → SameTold (in_common x line t) (in_common x 0 u)
in_common_same x line {t} {u} h = record {
  entries = changed_same x (with_common line) (with_common 0) (with_common_bare line) h.entries;
  found = noted_same _ _ _ _ _ _ (of_bare (has_common x) (common_bare x t.entries) h.entries) h.found;
}

dummy_same : (x : List ℕ) (n line : ℕ) {t u : Told} → SameTold t u → SameTold (dummy_told x n line t) (dummy_told x n 0 u)
dummy_same x n line {t} {u} h =
    let es = seen_same x line h.entries in
    record {
      entries = changed_same x (with_dummy n) (with_dummy n) (λ e. refl) es;
      found = noted_same _ _ _ _ _ _ (of_bare (has_dummy x) (dummy_bare x (seen x line t.entries)) es) h.found;
    }

dummies_same : (xs : List (List ℕ)) (n line : ℕ) {t u : Told} → SameTold t u → SameTold (dummies_told xs n line t) (dummies_told xs n 0 u)
dummies_same [] n line h = h
dummies_same (x ∷ xs) n line h = dummies_same xs (suc n) line (dummy_same x n line h)

form_same : (o : Option FunctionForm) (x : List ℕ) (line : ℕ) {t u : Told} → SameTold t u → SameTold (form_told o x line t) (form_told o x 0 u)
form_same None x line h = h
form_same (Some Plain) x line h = h
form_same (Some Integer) x line h = typed_same x Int line h
form_same (Some Logical) x line h = typed_same x Log line h

-- ---- entities

extents_same : (fs : List Function) (xs : List ExtentTree) (line : ℕ) {es ds : List EntryTree} → Bare es ds → Bare (extents_seen fs xs line es) (extents_seen fs xs 0 ds)
extents_same fs [] line h = h
extents_same fs (x ∷ xs) line h = extents_same fs xs line (maybe_same fs x.high line (maybe_same fs x.low line h))

entity_same : (fs : List Function) (e : EntityTree) (line : ℕ) {t u : Told} → SameTold t u → SameTold (entity_seen fs e line t) (entity_seen fs e 0 u)
entity_same fs e line h = record { entries = extents_same fs e.bounds line (seen_same e.name line h.entries); found = h.found }

typed_entities_same : (fs : List Function) (s : Scalar) (es : List EntityTree) (line : ℕ) {t u : Told} → SameTold t u → SameTold (typed_entities fs s es line t) (typed_entities fs s es 0 u)
typed_entities_same fs s [] line h = h
typed_entities_same fs s (e ∷ es) line h = typed_entities_same fs s es line (shaped_same e.name e.bounds line (typed_same e.name s line (entity_same fs e line h)))

shaped_entities_same : (fs : List Function) (es : List EntityTree) (line : ℕ) {t u : Told} → SameTold t u → SameTold (shaped_entities fs es line t) (shaped_entities fs es 0 u)
shaped_entities_same fs [] line h = h
shaped_entities_same fs (e ∷ es) line h = shaped_entities_same fs es line (shaped_same e.name e.bounds line (entity_same fs e line h))

members_same : (fs : List Function) (es : List EntityTree) (line : ℕ) {t u : Told} → SameTold t u → SameTold (members_told fs es line t) (members_told fs es 0 u)
members_same fs [] line h = h
members_same fs (e ∷ es) line h = members_same fs es line (in_common_same e.name line (shaped_same e.name e.bounds line (entity_same fs e line h)))

blocks_same : (fs : List Function) (cs : List CommonTree) (line : ℕ) {t u : Told} → SameTold t u → SameTold (blocks_told fs cs line t) (blocks_told fs cs 0 u)
blocks_same fs [] line h = h
blocks_same fs (c ∷ cs) line h = blocks_same fs cs line (members_same fs c.members line h)

-- ---- other statements

setting_same : (fs : List Function) (s : SettingTree) (line : ℕ) {t u : Told} → SameTold t u → SameTold (setting_told fs s line t) (setting_told fs s 0 u)
setting_same fs s line h = record {
  entries = expr_same fs s.value line (changed_same s.name as_parameter as_parameter (λ e. refl) (seen_same s.name line h.entries));
  found = h.found;
}

settings_same : (fs : List Function) (ss : List SettingTree) (line : ℕ) {t u : Told} → SameTold t u → SameTold (settings_told fs ss line t) (settings_told fs ss 0 u)
settings_same fs [] line h = h
settings_same fs (s ∷ ss) line h = settings_same fs ss line (setting_same fs s line h)

-- what an item says of its name has no line
abbrev HasNoLine : (EntryTree → EntryTree) → Type 0
HasNoLine f = (e : EntryTree) → bare (f e) ≡ f (bare e)

mention_same : (f : EntryTree → EntryTree) → HasNoLine f → (x : List ℕ) (line : ℕ) {t u : Told} → SameTold t u → SameTold (mention_told f x line t) (mention_told f x 0 u)
mention_same f k x line h = record { entries = changed_same x f f k (seen_same x line h.entries); found = h.found }

item_same : (fs : List Function) (f : EntryTree → EntryTree) → HasNoLine f → (i : ExprTree) (line : ℕ) {t u : Told} → SameTold t u → SameTold (item_told fs f i line t) (item_told fs f i 0 u)
item_same fs f k (tree.name x) line h = mention_same f k x line h
item_same fs f k (tree.element x rest) line h = record { entries = exprs_same fs rest line (mention_same f k x line h).entries; found = h.found }
item_same fs f k (tree.int n) line h = h
item_same fs f k (tree.log b) line h = h
item_same fs f k (tree.paren e) line h = h
item_same fs f k (tree.unary o e) line h = h
item_same fs f k (tree.binary o a b) line h = h
item_same fs f k (tree.chars x) line h = h

items_same : (fs : List Function) (f : EntryTree → EntryTree) → HasNoLine f → (is : List ExprTree) (line : ℕ) {t u : Told} → SameTold t u → SameTold (items_told fs f is line t) (items_told fs f is 0 u)
items_same fs f k [] line h = h
items_same fs f k (i ∷ is) line h = items_same fs f k is line (item_same fs f k i line h)

groups_same : (fs : List Function) (gs : List (List ExprTree)) (line : ℕ) {t u : Told} → SameTold t u → SameTold (groups_told fs gs line t) (groups_told fs gs 0 u)
groups_same fs [] line h = h
groups_same fs (g ∷ gs) line h = groups_same fs gs line (items_same fs (λ e. e) (λ e. refl) g line h)

targets_same : (fs : List Function) (gs : List DataTree) (line : ℕ) {t u : Told} → SameTold t u → SameTold (targets_told fs gs line t) (targets_told fs gs 0 u)
targets_same fs [] line h = h
targets_same fs (g ∷ gs) line h = targets_same fs gs line (items_same fs as_initial (λ e. refl) g.targets line h)

save_same : (i : SaveItem) (line : ℕ) {t u : Told} → SameTold t u → SameTold (save_told i line t) (save_told i 0 u)
save_same (item.Name x) line h = record { entries = changed_same x as_saved as_saved (λ e. refl) (seen_same x line h.entries); found = h.found }
save_same (item.Block b) line h = h

saves_same : (is : List SaveItem) (line : ℕ) {t u : Told} → SameTold t u → SameTold (saves_told is line t) (saves_told is 0 u)
saves_same [] line h = h
saves_same (i ∷ is) line h = saves_same is line (save_same i line h)

decl_same : (fs : List Function) (d : DeclTree) (line : ℕ) {t u : Told} → SameTold t u → SameTold (decl_told fs d line t) (decl_told fs d 0 u)
decl_same fs (decl.implicit ps) line h = h
decl_same fs (decl.integer es) line h = typed_entities_same fs Int es line h
decl_same fs (decl.logical es) line h = typed_entities_same fs Log es line h
decl_same fs (decl.dimension es) line h = shaped_entities_same fs es line h
decl_same fs (decl.parameter ss) line h = settings_same fs ss line h
decl_same fs (decl.common cs) line h = blocks_same fs cs line h
decl_same fs (decl.equivalence gs) line h = groups_same fs gs line h
decl_same fs (decl.save is) line h = saves_same is line h
decl_same fs (decl.initial gs) line h = targets_same fs gs line h

decls_same : (fs : List Function) (at : LineTable) (ds : List DeclTree) (n : ℕ) {t u : Told} → SameTold t u → SameTold (decls_told fs at ds n t) (decls_told fs no_lines ds n u)
decls_same fs at [] n h = h
decls_same fs at (d ∷ ds) n h = decls_same fs at ds (suc n) (decl_same fs d (line_or at (Decl n) 0) h)

-- ---- the table

told_same : (fs : List Function) (at : LineTable) (m : ModuleTree) → SameTold (told_of fs at m) (told_of fs no_lines m)
told_same fs at m =
    let none : SameTold no_names no_names = record { entries = record { is = refl }; found = record { same = refl } } in
    let t = decls_same fs at m.decls 0 (form_same m.function m.name (line_or at Title 0) (dummies_same m.dummies 1 (line_or at Title 0) none)) in
    record { entries = stmts_same fs at m.body 0 t.entries; found = t.found }

pub names_same : (at : LineTable) (m : ModuleTree) → bare_table (table_of at m) ≡ table_of no_lines m
names_same at m = ap (λ (es : List EntryTree). record { entries = es; kinds = kinds_of m.decls; arrays = arrays_named m.decls }) (told_same (arrays_named m.decls) at m).entries.is

common_same : (e : EntryTree) (l : Option ℕ) {f g : Option Refusal} → SameFound f g → SameFound (in_common_too e l f) (in_common_too (bare e) (bare_line l) g)
common_same e None h = h
common_same e (Some line) h = noted_same _ _ _ _ _ _ refl h

entry_same : (ks : List Kind) (e : EntryTree) {f g : Option Refusal} → SameFound f g → SameFound (check_entry ks e f) (check_entry ks (bare e) g)
unfolding entry_kind
entry_same ks e h = common_same e e.common (noted_same _ _ _ _ _ _ refl h)

entries_same : (ks : List Kind) (es : List EntryTree) {f g : Option Refusal} → SameFound f g → SameFound (check_entries ks es f) (check_entries ks (bares es) g)
entries_same ks [] h = h
entries_same ks (e ∷ es) h = entries_same ks es (entry_same ks e h)

pub judged_same : (at : LineTable) (m : ModuleTree) → SameFound (check_names at m) (check_names no_lines m)
judged_same at m =
    let t = told_same (arrays_named m.decls) at m in
    subst (λ es. SameFound (check_names at m) (check_entries (kinds_of m.decls) es (told_of (arrays_named m.decls) no_lines m).found)) t.entries.is
    (entries_same (kinds_of m.decls) (told_of (arrays_named m.decls) at m).entries t.found)
