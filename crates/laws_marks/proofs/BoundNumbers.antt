-- INTEGER literals in the bounds of the symbols of modules that are read are numbers of 32 bits.
use Rattle.std.proofs.Common.{◌⊎◌, ⊎_elim, ℕ, suc, ◌+◌, Bool, true, false, List, [], ◌∷◌, ◌++◌, map, Option, Some, None, refl, sym, subst}
use Rattle.std.specs.Prelude.{if◌then◌else◌, bytes_eq, is_some}
use Rattle.f77_ast.specs.declared.constant.Constant.{Constant}
use Rattle.f77_ast.specs.declared.constant.Constant.TheVariants as constant
use Rattle.f77_ast.specs.declared.constant.ConstantValue.{ConstantValue}
use Rattle.f77_ast.specs.declared.constant.ConstantValue.TheVariants.{Is, Faults, Varies}
use Rattle.f77_ast.specs.declared.symbol.Place.{Place}
use Rattle.f77_ast.specs.declared.symbol.Place.TheVariants as place
use Rattle.f77_ast.specs.Constants.{const_value}
use Rattle.f77_ast.specs.DeclTrees.{ExtentTree, EntityTree, CommonTree, SettingTree, DeclTree, ModuleTree, ParsedTree}
use Rattle.f77_ast.specs.DeclTrees as decl
use Rattle.f77_ast.specs.Trees.{ExprTree}
use Rattle.f77_ast.specs.Symbols.{BoundTree, SymbolTree}
use Rattle.f77_names.specs.declared.kinds.Kind.{Kind}
use Rattle.f77_names.specs.declared.kinds.Kind.TheVariants as kind
use Rattle.f77_names.specs.declared.lines.Sited.TheVariants.{Decl, Title}
use Rattle.f77_names.specs.Lines.{LineTable, line_or}
use Rattle.f77_names.specs.Functions.{arrays_named}
use Rattle.f77_names.specs.Entries.{ShapeTree, EntryTree, fresh, find, seen, changed, with_dummy, with_value, as_parameter, value_among, or_this}
use Rattle.f77_names.specs.Declaring.{Told, bound_of, low_of, dummy_told, dummies_told, decls_told}
use Rattle.f77_names.specs.Tables.{no_names, title_told, kind_in, table_of, check_names}
use Rattle.f77_checks.specs.Parameters.{Valued, given_typed, given_const_value, setting_valued, settings_valued, decl_valued, decls_valued}
use Rattle.f77_meaning.specs.Modules.{as_dummy, dummies_from}
use Rattle.f77_meaning.specs.Modules as meaning
use Rattle.storage_layout.specs.Symbols.{valued}
use Rattle.storage_layout.specs.Table.{Layout, bounds_in, symbols_from}
use Rattle.laws_programs.specs.roundtrip_programs.Statements.Formed.{Each, Filled}
use Rattle.laws_programs.specs.roundtrip_programs.Statements.Declared.{IsExtent, IsEntity, IsArray, IsCommon, IsDecl}
use Rattle.laws_programs.specs.roundtrip_programs.ModuleTexts.Cards.{decl_cards}
use Rattle.laws_programs.proofs.Sources.{IsBuilt}
use Rattle.laws_programs.proofs.Ordered.{AllFormed}
use Rattle.laws_programs.proofs.SymbolTables.Answers.{Answered, lines_in, names_in, layout_in}
use Rattle.laws_programs.proofs.SymbolTables.KeptNames.{Said, with_said, Typed, Shaped, Shared, Parameter, Saved, Initial, Nothing}
use Rattle.laws_programs.proofs.SymbolTables.Values.{chosen, as_chosen, is_taken, judged}
use Rattle.laws_interleavings.specs.Plans.Touched.{InRange, AnyName, Leaves, OptionLeaves, BoundsLeaves, DummiesLeaves}
use Rattle.laws_marks.proofs.InMarks.{IsMild, HasShape, HasMember, Shapes, SomeShapes, form_keeps, decls_keep, stmts_keep}
use Rattle.laws_marks.proofs.Literals.{maybe_leaves, decls_formed}

-- ---- bounds as they are written

abbrev ExtentsRange : List ExtentTree → Type 0
ExtentsRange [] = Unit {0}
ExtentsRange (x ∷ xs) = OptionLeaves AnyName InRange x.low × OptionLeaves AnyName InRange x.high × ExtentsRange xs

extents_range : (xs : List ExtentTree) → Each IsExtent xs → ExtentsRange xs
extents_range [] h = tt
extents_range (x ∷ xs) h = (maybe_leaves x.low h.first.low, maybe_leaves x.high h.first.high, extents_range xs h.others)

entities_range : (es : List EntityTree) → Each IsEntity es → (bs : List ExtentTree) → HasShape es bs → ExtentsRange bs
entities_range [] h bs i = absurd i
entities_range (e ∷ es) h bs i = ⊎_elim (λ q. subst ExtentsRange q (extents_range e.bounds h.first.bounds)) (entities_range es h.others bs) i

filled_range : (xs : List ExtentTree) → Filled IsExtent xs → ExtentsRange xs
filled_range [] h = absurd h
filled_range (x ∷ xs) h = extents_range (x ∷ xs) (record { first = h.first; others = h.others })

arrays_range : (es : List EntityTree) → Each IsArray es → (bs : List ExtentTree) → HasShape es bs → ExtentsRange bs
arrays_range [] h bs i = absurd i
arrays_range (e ∷ es) h bs i = ⊎_elim (λ q. subst ExtentsRange q (filled_range e.bounds h.first.bounds)) (arrays_range es h.others bs) i

filled_entities : (es : List EntityTree) → Filled IsEntity es → (bs : List ExtentTree) → HasShape es bs → ExtentsRange bs
filled_entities [] h = absurd h
filled_entities (e ∷ es) h = entities_range (e ∷ es) (record { first = h.first; others = h.others })

members_range : (cs : List CommonTree) → Each IsCommon cs → (bs : List ExtentTree) → HasMember cs bs → ExtentsRange bs
members_range [] h bs i = absurd i
members_range (c ∷ cs) h bs i = ⊎_elim (filled_entities c.members h.first.members bs) (members_range cs h.others bs) i

decl_range : (d : DeclTree) → IsDecl d → (bs : List ExtentTree) → Shapes d bs → ExtentsRange bs
decl_range (decl.implicit ps) h bs i = absurd i
decl_range (decl.integer []) h bs i = absurd i
decl_range (decl.integer (e ∷ es)) h bs i = entities_range (e ∷ es) (record { first = h.first; others = h.others }) bs i
decl_range (decl.logical []) h bs i = absurd i
decl_range (decl.logical (e ∷ es)) h bs i = entities_range (e ∷ es) (record { first = h.first; others = h.others }) bs i
decl_range (decl.dimension []) h bs i = absurd i
decl_range (decl.dimension (e ∷ es)) h bs i = arrays_range (e ∷ es) (record { first = h.first; others = h.others }) bs i
decl_range (decl.parameter ss) h bs i = absurd i
decl_range (decl.common []) h bs i = absurd i
decl_range (decl.common (c ∷ cs)) h bs i = members_range (c ∷ cs) (record { first = h.first; others = h.others }) bs i
decl_range (decl.equivalence gs) h bs i = absurd i
decl_range (decl.save is) h bs i = absurd i
decl_range (decl.initial gs) h bs i = absurd i

decls_range : (n : ℕ) (ds : List DeclTree) → AllFormed (decl_cards n ds) → (bs : List ExtentTree) → SomeShapes ds bs → ExtentsRange bs
decls_range n [] h bs i = absurd i
decls_range n (d ∷ ds) h bs i = ⊎_elim (decl_range d h.first.1 bs) (decls_range (n + 1) ds h.others bs) i

-- ---- bounds in tables

abbrev TableRange : List BoundTree → Type 0
TableRange [] = Unit {0}
TableRange (b ∷ bs) = Leaves AnyName InRange b.low × OptionLeaves AnyName InRange b.high × TableRange bs

low_range : (o : Option ExprTree) → OptionLeaves AnyName InRange o → Leaves AnyName InRange (low_of o)
low_range None h = refl
low_range (Some e) h = h

bounds_range : (xs : List ExtentTree) → ExtentsRange xs → TableRange (map bound_of xs)
bounds_range [] h = tt
bounds_range (x ∷ xs) h = (low_range x.low h.0, h.1, bounds_range xs h.2)

abbrev ShapeRange : Option ShapeTree → Type 0
ShapeRange None = Unit {0}
ShapeRange (Some s) = TableRange s.bounds

abbrev AllShapes : List EntryTree → Type 0
AllShapes [] = Unit {0}
AllShapes (e ∷ es) = ShapeRange e.shape × AllShapes es

seen_shapes : (x : List ℕ) (line : ℕ) (es : List EntryTree) → AllShapes es → AllShapes (seen x line es)
seen_shapes x line es h = go (is_some (find x es))
  where
    joined : (es : List EntryTree) → AllShapes es → AllShapes (es ++ fresh x line ∷ [])
    joined [] h = (tt, tt)
    joined (e ∷ es) h = (h.0, joined es h.1)

    go : (b : Bool) → AllShapes (if b then es else es ++ fresh x line ∷ [])
    go true = h
    go false = joined es h

changed_shapes : (x : List ℕ) (f : EntryTree → EntryTree) → ((e : EntryTree) → ShapeRange e.shape → ShapeRange (f e).shape) → (es : List EntryTree) → AllShapes es → AllShapes (changed x f es)
changed_shapes x f k [] h = tt
changed_shapes x f k (e ∷ es) h = go (bytes_eq x e.name) (changed_shapes x f k es h.1)
  where
    go : (b : Bool) → AllShapes (changed x f es) → AllShapes (if b then f e ∷ es else e ∷ changed x f es)
    go true ih = (k e h.0, h.1)
    go false ih = (h.0, ih)

said_shapes : (x : List ℕ) (w : Said) → IsMild w → (es : List EntryTree) → AllShapes es → AllShapes (changed x (with_said w) es)
said_shapes x w q es h = changed_shapes x (with_said w) (λ e. kept w q e) es h
  where
    kept : (w : Said) → IsMild w → (e : EntryTree) → ShapeRange e.shape → ShapeRange (with_said w e).shape
    kept (Typed s) q e i = i
    kept (Shaped line b bs) q e i = absurd q
    kept (Shared line) q e i = i
    kept Parameter q e i = absurd q
    kept Saved q e i = i
    kept Initial q e i = i
    kept Nothing q e i = i

shaped_shapes : (x : List ℕ) (line : ℕ) (b : ExtentTree) (bs : List ExtentTree) → ExtentsRange (b ∷ bs) → (es : List EntryTree) → AllShapes es → AllShapes (changed x (with_said (Shaped line (bound_of b) (map bound_of bs))) es)
shaped_shapes x line b bs q es h = changed_shapes x (with_said (Shaped line (bound_of b) (map bound_of bs))) (λ e. kept e.shape) es h
  where
    kept : (o : Option ShapeTree) → ShapeRange o → ShapeRange (or_this o (record { line = line; bounds = bound_of b ∷ map bound_of bs }))
    kept None i = bounds_range (b ∷ bs) q
    kept (Some s) i = i

dummies_shapes : (xs : List (List ℕ)) (n line : ℕ) (t : Told) → AllShapes t.entries → AllShapes (dummies_told xs n line t).entries
dummies_shapes [] n line t h = h
dummies_shapes (x ∷ xs) n line t h = dummies_shapes xs (suc n) line (dummy_told x n line t) (changed_shapes x (with_dummy n) (λ e i. i) (seen x line t.entries) (seen_shapes x line t.entries h))

table_shapes : (at : LineTable) (m : ModuleTree) → ((bs : List ExtentTree) → SomeShapes m.decls bs → ExtentsRange bs) → AllShapes (table_of at m).entries
table_shapes at m f =
    let fs = arrays_named m.decls in
    let t = dummies_told m.dummies 1 (line_or at Title 0) no_names in
    let u = title_told at m in
    stmts_keep AllShapes seen_shapes said_shapes (λ x. Unit {0}) set ExtentsRange shaped_shapes fs at m.body 0 (decls_told fs at m.decls 0 u).entries
    (decls_keep AllShapes seen_shapes said_shapes (λ x. Unit {0}) set ExtentsRange shaped_shapes fs at m.decls (λ x i. tt) f 0 u
    (form_keeps AllShapes seen_shapes said_shapes (λ x. Unit {0}) set ExtentsRange shaped_shapes fs m.function m.name (line_or at Title 0) t (dummies_shapes m.dummies 1 (line_or at Title 0) no_names tt)))
  where
    set : (x : List ℕ) → Unit {0} → (es : List EntryTree) → AllShapes es → AllShapes (changed x as_parameter es)
    set x q es h = changed_shapes x as_parameter (λ e i. i) es h

-- ---- the values of PARAMETERs leave them

given_shapes : (x : List ℕ) (c : Constant) (es : List EntryTree) → AllShapes es → AllShapes (changed x (with_value c) es)
given_shapes x c es h = changed_shapes x (with_value c) (λ e i. i) es h

typed_shapes : (k : Kind) (x : List ℕ) (c : Constant) (line : ℕ) (v : Valued) → AllShapes v.table.entries → AllShapes (given_typed k x c line v).table.entries
typed_shapes kind.Int x (constant.Int i) line v h = given_shapes x (constant.Int i) v.table.entries h
typed_shapes kind.Int x (constant.Log b) line v h = h
typed_shapes kind.Log x (constant.Int i) line v h = h
typed_shapes kind.Log x (constant.Log b) line v h = given_shapes x (constant.Log b) v.table.entries h
typed_shapes kind.Real x c line v h = h

value_shapes : (x : List ℕ) (w : ConstantValue) (line : ℕ) (v : Valued) → AllShapes v.table.entries → AllShapes (given_const_value x w line v).table.entries
value_shapes x Varies line v h = h
value_shapes x Faults line v h = h
value_shapes x (Is c) line v h = typed_shapes (kind_in v.table x) x c line v h

chosen_shapes : (b : Bool) (s : SettingTree) (line : ℕ) (v : Valued) → AllShapes v.table.entries → AllShapes (chosen b s line v).table.entries
chosen_shapes true s line v h = h
chosen_shapes false s line v h = value_shapes s.name (const_value (value_among v.table.entries) s.value) line (judged s line v) h

settings_shapes : (ss : List SettingTree) (line : ℕ) (v : Valued) → AllShapes v.table.entries → AllShapes (settings_valued ss line v).table.entries
settings_shapes [] line v h = h
settings_shapes (s ∷ ss) line v h =
    settings_shapes ss line (setting_valued s line v) (subst (λ (z : Valued). AllShapes z.table.entries) (sym (as_chosen s line v)) (chosen_shapes (is_taken s v) s line v h))

decl_shapes : (d : DeclTree) (line : ℕ) (v : Valued) → AllShapes v.table.entries → AllShapes (decl_valued d line v).table.entries
decl_shapes (decl.parameter ss) line v h = settings_shapes ss line v h
decl_shapes (decl.implicit ps) line v h = h
decl_shapes (decl.integer es) line v h = h
decl_shapes (decl.logical es) line v h = h
decl_shapes (decl.dimension es) line v h = h
decl_shapes (decl.common cs) line v h = h
decl_shapes (decl.equivalence gs) line v h = h
decl_shapes (decl.save is) line v h = h
decl_shapes (decl.initial gs) line v h = h

decls_shapes : (at : LineTable) (ds : List DeclTree) (n : ℕ) (v : Valued) → AllShapes v.table.entries → AllShapes (decls_valued at ds n v).table.entries
decls_shapes at [] n v h = h
decls_shapes at (d ∷ ds) n v h = decls_shapes at ds (n + 1) (decl_valued d (line_or at (Decl n) 0) v) (decl_shapes d (line_or at (Decl n) 0) v h)

-- ---- modules that are read

names_shapes : (p : ParsedTree) → IsBuilt p → AllShapes (names_in p).entries
unfolding valued
names_shapes p b =
    let at = lines_in p in
    let m = p.module_read in
    decls_shapes at m.decls 0 (record { table = table_of at m; found = check_names at m }) (table_shapes at m (decls_range 0 m.decls (decls_formed m b.formed)))

abbrev SymbolsRange : List SymbolTree → Type 0
SymbolsRange [] = Unit {0}
SymbolsRange (s ∷ ss) = TableRange s.bounds × SymbolsRange ss

symbols_range : (l : Layout) (n : ℕ) (es : List EntryTree) → AllShapes es → SymbolsRange (symbols_from l n es)
symbols_range l n [] h = tt
symbols_range l n (e ∷ es) h = (one e.shape h.0, symbols_range l (n + 1) es h.1)
  where
    one : (o : Option ShapeTree) → ShapeRange o → TableRange (bounds_in o)
    one None i = tt
    one (Some s) i = i

leaves_range : (bs : List BoundTree) → TableRange bs → BoundsLeaves AnyName InRange (map meaning.bound_of bs)
leaves_range [] h = tt
leaves_range (b ∷ bs) h = (h.0, h.1, leaves_range bs h.2)

dummies_range : (n : ℕ) (ss : List SymbolTree) → SymbolsRange ss → DummiesLeaves AnyName InRange (dummies_from n ss)
dummies_range n [] h = tt
dummies_range n (s ∷ ss) h = go s.place (dummies_range (suc n) ss h.1)
  where
    go : (q : Place) → DummiesLeaves AnyName InRange (dummies_from (suc n) ss) → DummiesLeaves AnyName InRange (as_dummy n s q ++ dummies_from (suc n) ss)
    go (place.Local g o) ih = ih
    go (place.Dummy d) ih = (leaves_range s.bounds h.0, ih)
    go (place.Block b o) ih = ih
    go (place.Constant c) ih = ih

pub built_bounds : (p : ParsedTree) (ss : List SymbolTree) → IsBuilt p → Answered p ss → DummiesLeaves AnyName InRange (dummies_from 1 ss)
built_bounds p ss b a = dummies_range 1 ss (subst SymbolsRange (sym a.table) (symbols_range (layout_in p) 0 (names_in p).entries (names_shapes p b)))
