-- A refusal of names stays: where none is left, none was before.
use Rattle.std.proofs.Common.{◌≡◌, ℕ, suc, Bool, true, false, List, [], ◌∷◌, Option, Some, None, refl}
use Rattle.std.specs.Prelude.{is_some, ◌||◌}
use Rattle.f77_ast.specs.declared.module.FunctionForm.{FunctionForm}
use Rattle.f77_ast.specs.declared.module.FunctionForm.TheVariants.{Plain, Integer, Logical}
use Rattle.f77_ast.specs.declared.decl.Scalar.{Scalar}
use Rattle.f77_ast.specs.declared.decl.Scalar.TheVariants.{Int, Log}
use Rattle.f77_ast.specs.declared.decl.SaveItem.{SaveItem}
use Rattle.f77_ast.specs.declared.decl.SaveItem.TheVariants as item
use Rattle.f77_ast.specs.Trees.{ExprTree}
use Rattle.f77_ast.specs.Trees as tree
use Rattle.f77_ast.specs.DeclTrees.{ExtentTree, EntityTree, SettingTree, CommonTree, DataTree, DeclTree}
use Rattle.f77_ast.specs.DeclTrees as decl
use Rattle.f77_ast.specs.Symbols.{BoundTree}
use Rattle.fx_lists.specs.declared.code.Code.TheVariants.{RealName, DeclaredTwice, CommonTwice, BadDimension}
use Rattle.fx_lists.specs.declared.refusal.Refusal.{Refusal}
use Rattle.f77_names.specs.declared.functions.Function.{Function}
use Rattle.f77_names.specs.declared.kinds.Kind.{Kind}
use Rattle.f77_names.specs.declared.lines.Sited.TheVariants.{Decl}
use Rattle.fx_lists.specs.Refusals.{refuse_if}
use Rattle.f77_names.specs.Lines.{LineTable, line_or}
use Rattle.f77_names.specs.Entries.{ShapeTree, EntryTree, seen, has_dummy, has_type, has_shape, has_common, as_initial}
use Rattle.f77_names.specs.Declaring.{Told, typed, shaped, in_common, dummy_told, dummies_told, form_told, entity_seen, typed_entity, typed_entities, shaped_entities, members_told, blocks_told, setting_told, settings_told, item_told, items_told, groups_told, targets_told, save_told, saves_told, decl_told, decls_told}
use Rattle.f77_names.specs.Tables.{NameTable, entry_kind, is_real, in_common_too, check_entry, check_entries}
use Rattle.f77_checks.specs.Expressions.{check_expr}
use Rattle.f77_checks.specs.Dimensions.{is_bad_shape, check_maybe, check_bounds, check_shape, check_shapes}
use Rattle.laws_programs.proofs.SymbolTables.StatementRefusals.{noted_back, expr_back}

-- ---- what is said of names

shaped_back : (x : List ℕ) (bs : List ExtentTree) (line : ℕ) (t : Told) → (shaped x bs line t).found ≡ None → t.found ≡ None
shaped_back x [] line t e = e
shaped_back x (b ∷ bs) line t e = noted_back (has_shape x t.entries) line DeclaredTwice t.found e

typed_entity_back : (fs : List Function) (s : Scalar) (x : EntityTree) (line : ℕ) (t : Told) → (typed_entity fs s x line t).found ≡ None → t.found ≡ None
typed_entity_back fs s x line t e =
    let seen = entity_seen fs x line t in
    noted_back (has_type x.name seen.entries) line DeclaredTwice t.found (shaped_back x.name x.bounds line (typed x.name s line seen) e)

typed_entities_back : (fs : List Function) (s : Scalar) (xs : List EntityTree) (line : ℕ) (t : Told) → (typed_entities fs s xs line t).found ≡ None → t.found ≡ None
typed_entities_back fs s [] line t e = e
typed_entities_back fs s (x ∷ xs) line t e = typed_entity_back fs s x line t (typed_entities_back fs s xs line (typed_entity fs s x line t) e)

shaped_entities_back : (fs : List Function) (xs : List EntityTree) (line : ℕ) (t : Told) → (shaped_entities fs xs line t).found ≡ None → t.found ≡ None
shaped_entities_back fs [] line t e = e
shaped_entities_back fs (x ∷ xs) line t e = shaped_back x.name x.bounds line (entity_seen fs x line t) (shaped_entities_back fs xs line (shaped x.name x.bounds line (entity_seen fs x line t)) e)

members_back : (fs : List Function) (xs : List EntityTree) (line : ℕ) (t : Told) → (members_told fs xs line t).found ≡ None → t.found ≡ None
members_back fs [] line t e = e
members_back fs (x ∷ xs) line t e =
    let u = shaped x.name x.bounds line (entity_seen fs x line t) in
    shaped_back x.name x.bounds line (entity_seen fs x line t) (noted_back (has_common x.name u.entries) line CommonTwice u.found (members_back fs xs line (in_common x.name line u) e))

blocks_back : (fs : List Function) (cs : List CommonTree) (line : ℕ) (t : Told) → (blocks_told fs cs line t).found ≡ None → t.found ≡ None
blocks_back fs [] line t e = e
blocks_back fs (c ∷ cs) line t e = members_back fs c.members line t (blocks_back fs cs line (members_told fs c.members line t) e)

settings_back : (fs : List Function) (ss : List SettingTree) (line : ℕ) (t : Told) → (settings_told fs ss line t).found ≡ None → t.found ≡ None
settings_back fs [] line t e = e
settings_back fs (s ∷ ss) line t e = settings_back fs ss line (setting_told fs s line t) e

item_back : (fs : List Function) (f : EntryTree → EntryTree) (x : ExprTree) (line : ℕ) (t : Told) → (item_told fs f x line t).found ≡ None → t.found ≡ None
item_back fs f (tree.name x) line t e = e
item_back fs f (tree.element x rest) line t e = e
item_back fs f (tree.int n) line t e = e
item_back fs f (tree.log b) line t e = e
item_back fs f (tree.paren x) line t e = e
item_back fs f (tree.unary o x) line t e = e
item_back fs f (tree.binary o a b) line t e = e
item_back fs f (tree.chars x) line t e = e

items_back : (fs : List Function) (f : EntryTree → EntryTree) (xs : List ExprTree) (line : ℕ) (t : Told) → (items_told fs f xs line t).found ≡ None → t.found ≡ None
items_back fs f [] line t e = e
items_back fs f (x ∷ xs) line t e = item_back fs f x line t (items_back fs f xs line (item_told fs f x line t) e)

groups_back : (fs : List Function) (gs : List (List ExprTree)) (line : ℕ) (t : Told) → (groups_told fs gs line t).found ≡ None → t.found ≡ None
groups_back fs [] line t e = e
groups_back fs (g ∷ gs) line t e = items_back fs (λ x. x) g line t (groups_back fs gs line (items_told fs (λ x. x) g line t) e)

targets_back : (fs : List Function) (gs : List DataTree) (line : ℕ) (t : Told) → (targets_told fs gs line t).found ≡ None → t.found ≡ None
targets_back fs [] line t e = e
targets_back fs (g ∷ gs) line t e = items_back fs as_initial g.targets line t (targets_back fs gs line (items_told fs as_initial g.targets line t) e)

save_back : (i : SaveItem) (line : ℕ) (t : Told) → (save_told i line t).found ≡ None → t.found ≡ None
save_back (item.Name x) line t e = e
save_back (item.Block b) line t e = e

saves_back : (is : List SaveItem) (line : ℕ) (t : Told) → (saves_told is line t).found ≡ None → t.found ≡ None
saves_back [] line t e = e
saves_back (i ∷ is) line t e = save_back i line t (saves_back is line (save_told i line t) e)

decl_back : (fs : List Function) (d : DeclTree) (line : ℕ) (t : Told) → (decl_told fs d line t).found ≡ None → t.found ≡ None
decl_back fs (decl.implicit ps) line t e = e
decl_back fs (decl.integer es) line t e = typed_entities_back fs Int es line t e
decl_back fs (decl.logical es) line t e = typed_entities_back fs Log es line t e
decl_back fs (decl.dimension es) line t e = shaped_entities_back fs es line t e
decl_back fs (decl.parameter ss) line t e = settings_back fs ss line t e
decl_back fs (decl.common cs) line t e = blocks_back fs cs line t e
decl_back fs (decl.equivalence gs) line t e = groups_back fs gs line t e
decl_back fs (decl.save is) line t e = saves_back is line t e
decl_back fs (decl.initial gs) line t e = targets_back fs gs line t e

pub decls_back : (fs : List Function) (at : LineTable) (ds : List DeclTree) (n : ℕ) (t : Told) → (decls_told fs at ds n t).found ≡ None → t.found ≡ None
decls_back fs at [] n t e = e
decls_back fs at (d ∷ ds) n t e = decl_back fs d (line_or at (Decl n) 0) t (decls_back fs at ds (suc n) (decl_told fs d (line_or at (Decl n) 0) t) e)

pub dummies_back : (xs : List (List ℕ)) (n line : ℕ) (t : Told) → (dummies_told xs n line t).found ≡ None → t.found ≡ None
dummies_back [] n line t e = e
dummies_back (x ∷ xs) n line t e = noted_back (has_dummy x (seen x line t.entries)) line DeclaredTwice t.found (dummies_back xs (suc n) line (dummy_told x n line t) e)

pub form_back : (o : Option FunctionForm) (x : List ℕ) (line : ℕ) (t : Told) → (form_told o x line t).found ≡ None → t.found ≡ None
form_back None x line t e = e
form_back (Some Plain) x line t e = e
form_back (Some Integer) x line t e = noted_back (has_type x t.entries) line DeclaredTwice t.found e
form_back (Some Logical) x line t e = noted_back (has_type x t.entries) line DeclaredTwice t.found e

-- ---- what names are

common_back : (x : EntryTree) (c : Option ℕ) (o : Option Refusal) → in_common_too x c o ≡ None → o ≡ None
common_back x None o e = e
common_back x (Some line) o e = noted_back (is_some x.dummy || x.parameter) line CommonTwice o e

pub entries_back : (ks : List Kind) (es : List EntryTree) (o : Option Refusal) → check_entries ks es o ≡ None → o ≡ None
entries_back ks [] o e = e
entries_back ks (x ∷ es) o e =
    noted_back (is_real (entry_kind ks x)) x.line RealName o
    (common_back x x.common (refuse_if (is_real (entry_kind ks x)) x.line RealName o) (entries_back ks es (check_entry ks x o) e))

-- ---- bounds

maybe_back : (t : NameTable) (x : Option ExprTree) (line : ℕ) (o : Option Refusal) → check_maybe t x line o ≡ None → o ≡ None
maybe_back t None line o e = e
maybe_back t (Some x) line o e = expr_back t x line o e

bounds_back : (t : NameTable) (bs : List BoundTree) (line : ℕ) (o : Option Refusal) → check_bounds t bs line o ≡ None → o ≡ None
bounds_back t [] line o e = e
bounds_back t (b ∷ bs) line o e = expr_back t b.low line o (maybe_back t b.high line (check_expr t b.low line o) (bounds_back t bs line (check_maybe t b.high line (check_expr t b.low line o)) e))

shape_back : (t : NameTable) (dummy : Bool) (s : Option ShapeTree) (o : Option Refusal) → check_shape t dummy s o ≡ None → o ≡ None
shape_back t dummy None o e = e
shape_back t dummy (Some s) o e = bounds_back t s.bounds s.line o (noted_back (is_bad_shape t dummy s.bounds) s.line BadDimension (check_bounds t s.bounds s.line o) e)

pub shapes_back : (t : NameTable) (es : List EntryTree) (o : Option Refusal) → check_shapes t es o ≡ None → o ≡ None
shapes_back t [] o e = e
shapes_back t (x ∷ es) o e = shape_back t (is_some x.dummy) x.shape o (shapes_back t es (check_shape t (is_some x.dummy) x.shape o) e)
