-- What the specification statements of a module say of its names, one after another (ANSI X3.9-1978 §8, §9).
use Rattle.std.specs.Prelude.{ℕ, suc, List, [], ◌∷◌, map, Option, Some, None}
use Rattle.f77_ast.specs.declared.decl.Scalar.{Scalar}
use Rattle.f77_ast.specs.declared.decl.Scalar.TheVariants.{Int, Log}
use Rattle.f77_ast.specs.declared.module.FunctionForm.{FunctionForm}
use Rattle.f77_ast.specs.declared.module.FunctionForm.TheVariants.{Plain, Integer, Logical}
use Rattle.f77_ast.specs.declared.decl.SaveItem.{SaveItem}
use Rattle.f77_ast.specs.declared.decl.SaveItem.TheVariants as item
use Rattle.f77_ast.specs.Trees.{ExprTree}
use Rattle.f77_ast.specs.Trees as tree
use Rattle.f77_ast.specs.DeclTrees.{ExtentTree, EntityTree, SettingTree, CommonTree, DataTree, DeclTree}
use Rattle.f77_ast.specs.DeclTrees as decl
use Rattle.std.specs.Prelude.{pos}
use Rattle.f77_ast.specs.Symbols.{BoundTree}
use Rattle.fx_lists.specs.declared.code.Code.TheVariants.{DeclaredTwice, CommonTwice}
use Rattle.fx_lists.specs.declared.refusal.Refusal.{Refusal}
use Rattle.f77_names.specs.declared.functions.Function.{Function}
use Rattle.f77_names.specs.declared.lines.Sited.TheVariants.{Decl}
use Rattle.fx_lists.specs.Refusals.{refuse_if}
use Rattle.f77_names.specs.Lines.{LineTable, line_or}
use Rattle.f77_names.specs.Entries.{EntryTree, seen, changed, with_dummy, with_type, with_shape, with_common, as_parameter, as_saved, as_initial, has_dummy, has_type, has_shape, has_common}
use Rattle.f77_names.specs.Appearing.{expr_seen, exprs_seen, maybe_seen}

-- the names so far, and the first refusal
pub record Told : Type 0 where
  pub entries : List EntryTree
  pub found : Option Refusal

-- more is said of a name that is there
abbrev pub said : List ℕ → (EntryTree → EntryTree) → Told → Told
said x f t = record t { entries = changed x f t.entries }

abbrev pub seen_told : List ℕ → ℕ → Told → Told
seen_told x line t = record t { entries = seen x line t.entries }

-- ---- one name

-- a second type is refused
abbrev pub typed : List ℕ → Scalar → ℕ → Told → Told
typed x s line t = record { entries = changed x (with_type s) t.entries; found = refuse_if (has_type x t.entries) line DeclaredTwice t.found }

-- without a lower bound it is 1 (§5.1.1.1)
abbrev pub low_of : Option ExprTree → ExprTree
low_of None = tree.int (pos 1)
low_of (Some e) = e

abbrev pub bound_of : ExtentTree → BoundTree
bound_of x = record { low = low_of x.low; high = x.high }

-- second bounds are refused
abbrev pub shaped : List ℕ → List ExtentTree → ℕ → Told → Told
shaped x [] line t = t
shaped x (b ∷ bs) line t = record {
  entries = changed x (with_shape (record { line = line; bounds = map bound_of (b ∷ bs) })) t.entries;
  found = refuse_if (has_shape x t.entries) line DeclaredTwice t.found;
}

-- a second COMMON is refused
abbrev pub in_common : List ℕ → ℕ → Told → Told
in_common x line t = record { entries = changed x (with_common line) t.entries; found = refuse_if (has_common x t.entries) line CommonTwice t.found }

-- a dummy that is listed twice is refused
abbrev pub dummy_told : List ℕ → ℕ → ℕ → Told → Told
dummy_told x n line t =
    let es = seen x line t.entries in
    record { entries = changed x (with_dummy n) es; found = refuse_if (has_dummy x es) line DeclaredTwice t.found }

-- the dummies, the first of these with this number
abbrev pub dummies_told : List (List ℕ) → ℕ → ℕ → Told → Told
dummies_told [] n line t = t
dummies_told (x ∷ xs) n line t = dummies_told xs (suc n) line (dummy_told x n line t)

-- the type that a FUNCTION statement gives the function (§15.5.1)
abbrev pub form_told : Option FunctionForm → List ℕ → ℕ → Told → Told
form_told None x line t = t
form_told (Some Plain) x line t = t
form_told (Some Integer) x line t = typed x Int line t
form_told (Some Logical) x line t = typed x Log line t

-- ---- entities

abbrev pub extent_seen : List Function → ExtentTree → ℕ → List EntryTree → List EntryTree
extent_seen fs x line es = maybe_seen fs x.high line (maybe_seen fs x.low line es)

abbrev pub extents_seen : List Function → List ExtentTree → ℕ → List EntryTree → List EntryTree
extents_seen fs [] line es = es
extents_seen fs (x ∷ xs) line es = extents_seen fs xs line (extent_seen fs x line es)

abbrev pub entity_seen : List Function → EntityTree → ℕ → Told → Told
entity_seen fs e line t = record t { entries = extents_seen fs e.bounds line (seen e.name line t.entries) }

abbrev pub typed_entity : List Function → Scalar → EntityTree → ℕ → Told → Told
typed_entity fs s e line t = shaped e.name e.bounds line (typed e.name s line (entity_seen fs e line t))

abbrev pub typed_entities : List Function → Scalar → List EntityTree → ℕ → Told → Told
typed_entities fs s [] line t = t
typed_entities fs s (e ∷ es) line t = typed_entities fs s es line (typed_entity fs s e line t)

abbrev pub shaped_entities : List Function → List EntityTree → ℕ → Told → Told
shaped_entities fs [] line t = t
shaped_entities fs (e ∷ es) line t = shaped_entities fs es line (shaped e.name e.bounds line (entity_seen fs e line t))

abbrev pub members_told : List Function → List EntityTree → ℕ → Told → Told
members_told fs [] line t = t
members_told fs (e ∷ es) line t = members_told fs es line (in_common e.name line (shaped e.name e.bounds line (entity_seen fs e line t)))

abbrev pub blocks_told : List Function → List CommonTree → ℕ → Told → Told
blocks_told fs [] line t = t
blocks_told fs (c ∷ cs) line t = blocks_told fs cs line (members_told fs c.members line t)

-- ---- other statements

abbrev pub setting_told : List Function → SettingTree → ℕ → Told → Told
setting_told fs s line t = record t { entries = expr_seen fs s.value line (changed s.name as_parameter (seen s.name line t.entries)) }

abbrev pub settings_told : List Function → List SettingTree → ℕ → Told → Told
settings_told fs [] line t = t
settings_told fs (s ∷ ss) line t = settings_told fs ss line (setting_told fs s line t)

-- a name is seen, and more is said of it
abbrev pub mention_told : (EntryTree → EntryTree) → List ℕ → ℕ → Told → Told
mention_told f x line t = record t { entries = changed x f (seen x line t.entries) }

-- an item of EQUIVALENCE or DATA is a name, with subscripts or without
abbrev pub item_told : List Function → (EntryTree → EntryTree) → ExprTree → ℕ → Told → Told
item_told fs f (tree.name x) line t = mention_told f x line t
item_told fs f (tree.element x rest) line t = record t { entries = exprs_seen fs rest line (mention_told f x line t).entries }
item_told fs f (tree.int n) line t = t
item_told fs f (tree.log b) line t = t
item_told fs f (tree.paren e) line t = t
item_told fs f (tree.unary o e) line t = t
item_told fs f (tree.binary o a b) line t = t
item_told fs f (tree.chars x) line t = t

abbrev pub items_told : List Function → (EntryTree → EntryTree) → List ExprTree → ℕ → Told → Told
items_told fs f [] line t = t
items_told fs f (i ∷ is) line t = items_told fs f is line (item_told fs f i line t)

abbrev pub groups_told : List Function → List (List ExprTree) → ℕ → Told → Told
groups_told fs [] line t = t
groups_told fs (g ∷ gs) line t = groups_told fs gs line (items_told fs (λ e. e) g line t)

abbrev pub targets_told : List Function → List DataTree → ℕ → Told → Told
targets_told fs [] line t = t
targets_told fs (g ∷ gs) line t = targets_told fs gs line (items_told fs as_initial g.targets line t)

abbrev pub save_told : SaveItem → ℕ → Told → Told
save_told (item.Name x) line t = record t { entries = changed x as_saved (seen x line t.entries) }
save_told (item.Block b) line t = t

abbrev pub saves_told : List SaveItem → ℕ → Told → Told
saves_told [] line t = t
saves_told (i ∷ is) line t = saves_told is line (save_told i line t)

abbrev pub decl_told : List Function → DeclTree → ℕ → Told → Told
decl_told fs (decl.implicit ps) line t = t
decl_told fs (decl.integer es) line t = typed_entities fs Int es line t
decl_told fs (decl.logical es) line t = typed_entities fs Log es line t
decl_told fs (decl.dimension es) line t = shaped_entities fs es line t
decl_told fs (decl.parameter ss) line t = settings_told fs ss line t
decl_told fs (decl.common cs) line t = blocks_told fs cs line t
decl_told fs (decl.equivalence gs) line t = groups_told fs gs line t
decl_told fs (decl.save is) line t = saves_told is line t
decl_told fs (decl.initial gs) line t = targets_told fs gs line t

-- the statements of which the first has this number, from 0
abbrev pub decls_told : List Function → LineTable → List DeclTree → ℕ → Told → Told
decls_told fs at [] n t = t
decls_told fs at (d ∷ ds) n t = decls_told fs at ds (suc n) (decl_told fs d (line_or at (Decl n) 0) t)
