-- EQUIVALENCE joins the same units, whatever the lines.
use Rattle.std.proofs.Common.{◌≡◌, ℕ, ◌+◌, false, List, [], ◌∷◌, Option, Some, None, refl, ap, ◌∙◌}
use Rattle.std.specs.Prelude.{if◌then◌else◌, not, ◌||◌, is_some}
use Rattle.std.specs.List.{list_any}
use Rattle.std.proofs.Math.Path.{fun_ext}
use Rattle.f77_ast.specs.Trees.{ExprTree}
use Rattle.f77_ast.specs.DeclTrees.{DeclTree}
use Rattle.f77_ast.specs.DeclTrees as decl
use Rattle.f77_names.specs.declared.lines.Sited.TheVariants.{Decl}
use Rattle.f77_names.specs.Lines.{LineTable, line_or}
use Rattle.f77_names.specs.Entries.{find}
use Rattle.f77_names.specs.Tables.{NameTable}
use Rattle.storage_data.specs.declared.offset_node.OffsetNode.{OffsetNode}
use Rattle.storage_layout.specs.declared.equivalences.Grouping.{Grouping}
use Rattle.storage_layout.specs.declared.equivalences.Shared.{Shared}
use Rattle.storage_data.specs.Units.{place_of}
use Rattle.storage_data.specs.Items.{item_name, item_position}
use Rattle.storage_layout.specs.Equivalences.{may_join, clashes, at_place, named_joined, items_joined, place_extends, name_extends, items_extend, begun, after_items, group_shared, groups_shared, decl_shared, decls_shared}
use Rattle.roundtrip_programs.proofs.Found.{SameFound, noted_same}
use Rattle.roundtrip_programs.proofs.Bare.{no_lines, bares, bare_table, asked}
use Rattle.roundtrip_programs.proofs.Items.{place_bare, position_bare, items_same}

-- ---- joining

join_bare : (t : NameTable) (x : List ℕ) → may_join (find x t.entries) ≡ may_join (find x (bares t.entries))
join_bare t x = asked false (λ e. not (is_some e.dummy || e.parameter)) (λ e. not (is_some e.dummy || e.parameter)) (λ e. refl) x t.entries

named_bare : (t : NameTable) (x : Option (List ℕ)) (unit : Option ℕ) (g : Grouping) → named_joined t x unit g ≡ named_joined (bare_table t) x unit g
named_bare t None unit g = refl
named_bare t (Some x) unit g =
    ap (λ b. if b then at_place (place_of t x) unit g else clashes g) (join_bare t x)
    ∙ ap (λ p. if may_join (find x (bares t.entries)) then at_place p unit g else clashes g) (place_bare t x)

item_bare : (t : NameTable) (i : ExprTree) (g : Grouping) → named_joined t (item_name i) (item_position t i) g ≡ named_joined (bare_table t) (item_name i) (item_position (bare_table t) i) g
item_bare t i g = named_bare t (item_name i) (item_position t i) g ∙ ap (λ p. named_joined (bare_table t) (item_name i) p g) (position_bare t i)

items_bare : (t : NameTable) (is : List ExprTree) (g : Grouping) → items_joined t is g ≡ items_joined (bare_table t) is g
items_bare t [] g = refl
items_bare t (i ∷ is) g = items_bare t is (named_joined t (item_name i) (item_position t i) g) ∙ ap (items_joined (bare_table t) is) (item_bare t i g)

-- ---- refusals

name_extends_bare : (t : NameTable) (ss : List OffsetNode) (x : Option (List ℕ)) → name_extends t ss x ≡ name_extends (bare_table t) ss x
name_extends_bare t ss None = refl
name_extends_bare t ss (Some x) = ap (place_extends ss) (place_bare t x)

extend_bare : (t : NameTable) (ss : List OffsetNode) (is : List ExprTree) → items_extend t ss is ≡ items_extend (bare_table t) ss is
extend_bare t ss is = ap (λ f. list_any f is) (fun_ext (λ i. name_extends_bare t ss (item_name i)))

-- the same groups
pub record SameShared (s r : Shared) : Type 0 where
  pub group : s.group ≡ r.group
  pub found : SameFound s.found r.found
  pub late : SameFound s.late r.late

late_same : (t : NameTable) (is : List ExprTree) (l : ℕ) (g k : Grouping) → g ≡ k → {s r : Shared} → SameShared s r → SameShared (after_items t is l g s) (after_items (bare_table t) is 0 k r)
late_same t is l g k e h =
    let ends = extend_bare t g.offset_nodes is ∙ ap (λ (z : Grouping). items_extend (bare_table t) z.offset_nodes is) e in
    record {
      group = e;
      found = items_same t is l 0 h.found;
      late = noted_same _ _ _ _ _ _ ends (noted_same _ _ _ _ _ _ (ap (λ (z : Grouping). z.clash) e) h.late);
    }

group_same : (t : NameTable) (is : List ExprTree) (l : ℕ) {s r : Shared} → SameShared s r → SameShared (group_shared t is l s) (group_shared (bare_table t) is 0 r)
group_same t is l {s} {r} h =
    late_same t is l (items_joined t is (begun s.group)) (items_joined (bare_table t) is (begun r.group))
    (items_bare t is (begun s.group) ∙ ap (λ (g : Grouping). items_joined (bare_table t) is (begun g)) h.group) h

groups_same : (t : NameTable) (gs : List (List ExprTree)) (l : ℕ) {s r : Shared} → SameShared s r → SameShared (groups_shared t gs l s) (groups_shared (bare_table t) gs 0 r)
groups_same t [] l h = h
groups_same t (g ∷ gs) l h = groups_same t gs l (group_same t g l h)

decl_same : (t : NameTable) (d : DeclTree) (l : ℕ) {s r : Shared} → SameShared s r → SameShared (decl_shared t d l s) (decl_shared (bare_table t) d 0 r)
decl_same t (decl.equivalence gs) l h = groups_same t gs l h
decl_same t (decl.implicit ps) l h = h
decl_same t (decl.integer es) l h = h
decl_same t (decl.logical es) l h = h
decl_same t (decl.dimension es) l h = h
decl_same t (decl.parameter ss) l h = h
decl_same t (decl.common cs) l h = h
decl_same t (decl.save is) l h = h
decl_same t (decl.initial gs) l h = h

pub decls_same : (t : NameTable) (at : LineTable) (ds : List DeclTree) (n : ℕ) {s r : Shared} → SameShared s r → SameShared (decls_shared t at ds n s) (decls_shared (bare_table t) no_lines ds n r)
decls_same t at [] n h = h
decls_same t at (d ∷ ds) n h = decls_same t at ds (n + 1) (decl_same t d (line_or at (Decl n) 0) h)
