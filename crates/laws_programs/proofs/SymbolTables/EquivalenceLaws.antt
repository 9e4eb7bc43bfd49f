-- What stands in an EQUIVALENCE is no dummy.
use Rattle.std.proofs.Common.{◌≡◌, ℕ, zero, suc, ◌+◌, Bool, true, false, List, [], ◌∷◌, ◌++◌, length, Option, Some, None, ◌⊎◌, inl, inr, refl, sym, ap, ◌∙◌, subst}
use Rattle.std.specs.Prelude.{if◌then◌else◌, bytes_eq, is_some, not, ◌||◌, slice_get}
use Rattle.std.specs.List.{list_any}
use Rattle.std.proofs.lemmas.Bool.{or_parts, or_left, or_right}
use Rattle.std.proofs.lemmas.Slice.Eq.{bytes_eq-Decides}
use Rattle.f77_ast.specs.Trees.{ExprTree}
use Rattle.f77_ast.specs.Trees as tree
use Rattle.f77_ast.specs.DeclTrees.{DeclTree, ParsedTree}
use Rattle.f77_ast.specs.DeclTrees as decl
use Rattle.f77_ast.specs.declared.symbol.Place.TheVariants as place
use Rattle.f77_ast.specs.Symbols.{SymbolTree, number_from}
use Rattle.fx_lists.specs.declared.code.Code.TheVariants.{EquivalenceClash, EquivalenceExtendsBack}
use Rattle.f77_names.specs.declared.lines.Sited.TheVariants.{Decl}
use Rattle.fx_lists.specs.Refusals.{refuse_if}
use Rattle.f77_names.specs.Lines.{LineTable, line_or}
use Rattle.f77_names.specs.Entries.{EntryTree, find, of_entry, has_dummy}
use Rattle.f77_names.specs.Tables.{NameTable}
use Rattle.tracked_cells.specs.Equivalences.{equivalenced_names}
use Rattle.tracked_cells.specs.Equivalences as names
use Rattle.storage_data.specs.Units.{place_of}
use Rattle.storage_data.specs.Items.{item_name, item_position}
use Rattle.storage_layout.specs.declared.equivalences.Grouping.{Grouping}
use Rattle.storage_layout.specs.declared.equivalences.Shared.{Shared}
use Rattle.storage_layout.specs.Equivalences.{may_join, clashes, after_join, at_place, named_joined, items_joined, items_extend, begun, group_shared, groups_shared, decl_shared, decls_shared}
use Rattle.storage_layout.specs.Symbols.{shared, unshared}
use Rattle.storage_layout.specs.Table.{Layout, place_in, symbols_from, unless_dummy, unless_value}
use Rattle.laws_programs.specs.SymbolTables.Laws.{DummiesStandAlone}
use Rattle.laws_programs.proofs.SymbolTables.Marks.{Dummies, marked, mark, marks, nones, dummy_marks}
use Rattle.laws_programs.proofs.SymbolTables.Answers.{Answered, lines_in, names_in, found_in, laid_in, shared_in, layout_in, answered_by, names_have_dummies}
use Rattle.laws_programs.proofs.SymbolTables.DummyLaws.{no_dummy_offset_node}
use Rattle.laws_programs.proofs.SymbolTables.EntryLaws.{EntryOf, entry_of}
use Rattle.storage_layout.proofs.GroupKeeps.{items_back, group_quiet, groups_quiet, decl_quiet, decls_quiet, Quiet, unit_back}

in_either : (f : List ℕ → Bool) (xs ys : List (List ℕ)) → list_any f (xs ++ ys) ≡ true → (list_any f xs ≡ true) ⊎ (list_any f ys ≡ true)
in_either f [] ys h = inr h
in_either f (x ∷ xs) ys h = go (f x) refl h (in_either f xs ys)
  where
    go : (c : Bool) → f x ≡ c → (c || list_any f (xs ++ ys)) ≡ true → (list_any f (xs ++ ys) ≡ true → (list_any f xs ≡ true) ⊎ (list_any f ys ≡ true)) → ((f x || list_any f xs) ≡ true) ⊎ (list_any f ys ≡ true)
    go true e k ih = inl (or_left (f x) (list_any f xs) e)
    go false e k ih = elim (ih k) [ inl a ↦ inl (or_right (f x) (list_any f xs) a) | inr b ↦ inr b ]

-- ---- what clashes stays so

at_back : (o u : Option ℕ) (g : Grouping) → (at_place o u g).clash ≡ false → g.clash ≡ false
at_back None u g e = cc
at_back (Some p) None g e = cc
at_back (Some p) (Some u) g e = unit_back g.anchor p u g e

-- a name that joins without a clash
joins : (t : NameTable) (x : List ℕ) (u : Option ℕ) (g : Grouping) → (named_joined t (Some x) u g).clash ≡ false → (may_join (find x t.entries) ≡ true) × (g.clash ≡ false)
joins t x u g e = go (may_join (find x t.entries)) refl e
  where
    go : (b : Bool) → may_join (find x t.entries) ≡ b → (let r : Grouping = if b then at_place (place_of t x) u g else clashes g in r.clash) ≡ false → (may_join (find x t.entries) ≡ true) × (g.clash ≡ false)
    go true h k = (h, at_back (place_of t x) u g k)
    go false h k = cc

named_back : (t : NameTable) (o : Option (List ℕ)) (u : Option ℕ) (g : Grouping) → (named_joined t o u g).clash ≡ false → g.clash ≡ false
named_back t None u g e = cc
named_back t (Some x) u g e = (joins t x u g e).1

-- ---- the names of items

one_name : (x y : List ℕ) → (bytes_eq x y || false) ≡ true → x ≡ y
one_name x y h = go (bytes_eq x y) refl h
  where
    go : (b : Bool) → bytes_eq x y ≡ b → (b || false) ≡ true → x ≡ y
    go true e k = (bytes_eq-Decides x y).0 e
    go false e k = cc

item_joins : (t : NameTable) (i : ExprTree) (u : Option ℕ) (g : Grouping) → (named_joined t (item_name i) u g).clash ≡ false → (x : List ℕ) → list_any (bytes_eq x) (names.item_name i) ≡ true → may_join (find x t.entries) ≡ true
item_joins t (tree.int n) u g e x h = cc
item_joins t (tree.log b) u g e x h = cc
item_joins t (tree.name y) u g e x h = ap (λ z. may_join (find z t.entries)) (one_name x y h) ∙ (joins t y u g e).0
item_joins t (tree.element y es) u g e x h = ap (λ z. may_join (find z t.entries)) (one_name x y h) ∙ (joins t y u g e).0
item_joins t (tree.paren y) u g e x h = cc
item_joins t (tree.unary o y) u g e x h = cc
item_joins t (tree.binary o a b) u g e x h = cc
item_joins t (tree.chars y) u g e x h = cc

items_join : (t : NameTable) (is : List ExprTree) (g : Grouping) → (items_joined t is g).clash ≡ false → (x : List ℕ) → list_any (bytes_eq x) (names.item_names is) ≡ true → may_join (find x t.entries) ≡ true
items_join t [] g e x h = cc
items_join t (i ∷ is) g e x h =
    let next = named_joined t (item_name i) (item_position t i) g in
    elim (in_either (bytes_eq x) (names.item_name i) (names.item_names is) h) [
      | inl a ↦ item_joins t i (item_position t i) g (items_back t is next e) x a
      | inr b ↦ items_join t is next e x b
    ]

groups_join : (t : NameTable) (gs : List (List ExprTree)) (line : ℕ) (s : Shared) → (groups_shared t gs line s).late ≡ None → (x : List ℕ) → list_any (bytes_eq x) (names.group_names gs) ≡ true → may_join (find x t.entries) ≡ true
groups_join t [] line s e x h = cc
groups_join t (g ∷ gs) line s e x h =
    elim (in_either (bytes_eq x) (names.item_names g) (names.group_names gs) h) [
      | inl a ↦ items_join t g (begun s.group) (group_quiet t g line s (groups_quiet t gs line (group_shared t g line s) e)).calm x a
      | inr b ↦ groups_join t gs line (group_shared t g line s) e x b
    ]

decl_joins : (t : NameTable) (d : DeclTree) (line : ℕ) (s : Shared) → (decl_shared t d line s).late ≡ None → (x : List ℕ) → list_any (bytes_eq x) (names.decl_names d) ≡ true → may_join (find x t.entries) ≡ true
decl_joins t (decl.equivalence gs) line s e x h = groups_join t gs line s e x h
decl_joins t (decl.implicit ps) line s e x h = cc
decl_joins t (decl.integer es) line s e x h = cc
decl_joins t (decl.logical es) line s e x h = cc
decl_joins t (decl.dimension es) line s e x h = cc
decl_joins t (decl.parameter ss) line s e x h = cc
decl_joins t (decl.common cs) line s e x h = cc
decl_joins t (decl.save is) line s e x h = cc
decl_joins t (decl.initial gs) line s e x h = cc

decls_join : (t : NameTable) (at : LineTable) (ds : List DeclTree) (n : ℕ) (s : Shared) → (decls_shared t at ds n s).late ≡ None → (x : List ℕ) → list_any (bytes_eq x) (names.decls_names ds) ≡ true → may_join (find x t.entries) ≡ true
decls_join t at [] n s e x h = cc
decls_join t at (d ∷ ds) n s e x h =
    let next = decl_shared t d (line_or at (Decl n) 0) s in
    elim (in_either (bytes_eq x) (names.decl_names d) (names.decls_names ds) h) [
      | inl a ↦ decl_joins t d (line_or at (Decl n) 0) s (decls_quiet t at ds (n + 1) next e) x a
      | inr b ↦ decls_join t at ds (n + 1) next e x b
    ]

shared_join : (p : ParsedTree) → (shared_in p).late ≡ None → (x : List ℕ) → list_any (bytes_eq x) (equivalenced_names p.module_read) ≡ true → may_join (find x (names_in p).entries) ≡ true
unfolding shared
shared_join p e x h = decls_join (names_in p) (lines_in p) p.module_read.decls 0 (unshared (laid_in p).offset_nodes (found_in p)) e x h

-- ---- dummies

bars : (o : Option EntryTree) → of_entry false (λ z. is_some z.dummy) o ≡ true → may_join o ≡ true → ⊥
bars None h k = cc
bars (Some e) h k = let z : not (is_some e.dummy || e.parameter) ≡ false = ap (λ b. not (b || e.parameter)) h in cc

unmarked : (es : List EntryTree) (k i : ℕ) (e : EntryTree) → marks es ≡ nones k → slice_get es i ≡ Some e → is_some e.dummy ≡ true → ⊥
unmarked [] k i e m h d = cc
unmarked (x ∷ es) zero i e m h d = cc
unmarked (x ∷ es) (suc k) zero e m h d =
    let here : mark x ≡ None = cc in
    let same : x ≡ e = cc in
    go e.dummy refl d (ap mark (sym same) ∙ here)
  where
    go : (o : Option ℕ) → e.dummy ≡ o → is_some o ≡ true → mark e ≡ None → ⊥
    go None q b z = cc
    go (Some n) q b z = let w = sym (ap (λ y. marked y e.value) q) ∙ z in cc
unmarked (x ∷ es) (suc k) (suc i) e m h d = let rest : marks es ≡ nones k = cc in unmarked es k i e rest h d

is_marked : (x : EntryTree) (m : ℕ) → mark x ≡ Some (m, None) → is_some x.dummy ≡ true
is_marked x m h = go x.dummy refl h
  where
    go : (o : Option ℕ) → x.dummy ≡ o → marked o x.value ≡ Some (m, None) → is_some x.dummy ≡ true
    go None q z = cc
    go (Some n) q z = ap is_some q

-- the first entry with the name of a dummy is a dummy, since dummies come first
first_is_dummy : (m n k : ℕ) (es : List EntryTree) (i : ℕ) (e : EntryTree) → marks es ≡ dummy_marks m n ++ nones k → slice_get es i ≡ Some e → is_some e.dummy ≡ true → has_dummy e.name es ≡ true
unfolding find
first_is_dummy m zero k es i e are h d = absurd (unmarked es k i e are h d)
first_is_dummy m (suc n) k [] i e are h d = cc
first_is_dummy m (suc n) k (x ∷ es) i e are h d =
    let here : mark x ≡ Some (m, None) = cc in
    let rest : marks es ≡ dummy_marks (suc m) n ++ nones k = cc in
    go (bytes_eq e.name x.name) refl (is_marked x m here) i h (λ j z. first_is_dummy (suc m) n k es j e rest z d)
  where
    later : (j : ℕ) → bytes_eq e.name x.name ≡ false → slice_get (x ∷ es) j ≡ Some e → ((a : ℕ) → slice_get es a ≡ Some e → has_dummy e.name es ≡ true) → has_dummy e.name es ≡ true
    later zero b z ih = let same : x ≡ e = cc in let yes = (bytes_eq-Decides e.name x.name).1 (ap (λ y. y.name) (sym same)) in cc
    later (suc j) b z ih = ih j z

    go : (b : Bool) → bytes_eq e.name x.name ≡ b → is_some x.dummy ≡ true → (j : ℕ) → slice_get (x ∷ es) j ≡ Some e → ((a : ℕ) → slice_get es a ≡ Some e → has_dummy e.name es ≡ true) → of_entry false (λ z. is_some z.dummy) (if b then Some x else find e.name es) ≡ true
    go true b s j z ih = s
    go false b s j z ih = later j b z ih

dummy_entry : (l : Layout) (e : EntryTree) (s : _) (k : ℕ) → unless_value e.value (unless_dummy e.dummy (place_in l s)) ≡ place.Dummy k → is_some e.dummy ≡ true
dummy_entry l e s k h = go e.value e.dummy refl h
  where
    go : (v : Option _) (o : Option ℕ) → e.dummy ≡ o → unless_value v (unless_dummy o (place_in l s)) ≡ place.Dummy k → is_some e.dummy ≡ true
    go (Some c) o q z = cc
    go None (Some n) q z = ap is_some q
    go None None q z = absurd (no_dummy_offset_node l s k z)

not_named : (n : ℕ) (ys : List (List ℕ)) (x : List ℕ) → list_any (bytes_eq x) ys ≡ false → number_from n ys x ≡ None
not_named n [] x h = refl
not_named n (y ∷ ys) x h =
    let parts = or_parts (bytes_eq x y) (list_any (bytes_eq x) ys) h in
    ap (λ b. if b then Some n else number_from (suc n) ys x) parts.0 ∙ not_named (suc n) ys x parts.1

pub dummies_stand_alone : DummiesStandAlone
dummies_stand_alone p ss e i k s h d =
    let a = answered_by p ss e in
    let dummies = names_have_dummies p ss a in
    let r = entry_of (layout_in p) 0 (names_in p).entries i s (subst (λ z. slice_get z i ≡ Some s) a.table h) in
    let is = dummy_entry (layout_in p) r.entry (slice_get (layout_in p).offset_nodes r.place) k (ap (λ z. z.place) (sym r.symbol) ∙ d) in
    let first = first_is_dummy 1 (length p.module_read.dummies) dummies.others (names_in p).entries i r.entry dummies.are r.is_entry is in
    not_named 0 (equivalenced_names p.module_read) s.name (go p r.entry.name a first (ap (λ z. z.name) r.symbol))
  where
    go : (p : ParsedTree) (x : List ℕ) → Answered p ss → has_dummy x (names_in p).entries ≡ true → s.name ≡ x → list_any (bytes_eq s.name) (equivalenced_names p.module_read) ≡ false
    go p x a first q = inner (list_any (bytes_eq s.name) (equivalenced_names p.module_read)) refl
      where
        inner : (b : Bool) → list_any (bytes_eq s.name) (equivalenced_names p.module_read) ≡ b → b ≡ false
        inner true z = absurd (bars (find s.name (names_in p).entries) (ap (λ y. has_dummy y (names_in p).entries) q ∙ first) (shared_join p a.late s.name z))
        inner false z = refl
