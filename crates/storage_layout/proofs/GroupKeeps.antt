-- What holds of offset nodes and stays where two units are joined stays whatever EQUIVALENCE joins; and a group that does not clash has not clashed before.
use Rattle.std.proofs.Common.{◌≡◌, ℕ, ◌+◌, Bool, true, false, ℤ, pos, List, [], ◌∷◌, Option, Some, None, refl, ap}
use Rattle.std.specs.Prelude.{if◌then◌else◌}
use Rattle.std.proofs.lemmas.Bool.{or_parts}
use Rattle.f77_ast.specs.Trees.{ExprTree}
use Rattle.f77_ast.specs.DeclTrees.{DeclTree}
use Rattle.f77_ast.specs.DeclTrees as decl
use Rattle.fx_lists.specs.declared.code.Code.TheVariants.{EquivalenceClash, EquivalenceExtendsBack}
use Rattle.f77_names.specs.declared.lines.Sited.TheVariants.{Decl}
use Rattle.fx_lists.specs.Refusals.{refuse_if}
use Rattle.f77_names.specs.Lines.{LineTable, line_or}
use Rattle.f77_names.specs.Entries.{find}
use Rattle.f77_names.specs.Tables.{NameTable}
use Rattle.storage_data.specs.declared.offset_node.OffsetNode.{OffsetNode}
use Rattle.storage_data.specs.OffsetNodes.{joined}
use Rattle.storage_data.specs.Units.{place_of}
use Rattle.storage_data.specs.Items.{item_name, item_position}
use Rattle.storage_layout.specs.declared.equivalences.Anchor.{Anchor}
use Rattle.storage_layout.specs.declared.equivalences.Grouping.{Grouping}
use Rattle.storage_layout.specs.declared.equivalences.Shared.{Shared}
use Rattle.storage_layout.specs.Equivalences.{may_join, clashes, unit_joined, at_place, named_joined, items_joined, items_extend, begun, group_shared, groups_shared, decl_shared, decls_shared}
use Rattle.fx_lists.proofs.Refused.{none_refused}

module _ (P : List OffsetNode → Type 0) (step : (ss : List OffsetNode) (m : ℕ) (p : ℤ) (n : ℕ) (q : ℤ) → P ss → P (joined ss m p n q).offset_nodes) (t : NameTable) where
  unit_keeps : (a : Option Anchor) (k u : ℕ) (g : Grouping) → P g.offset_nodes → P (unit_joined a k u g).offset_nodes
  unit_keeps None k u g h = h
  unit_keeps (Some a) k u g h = step g.offset_nodes a.place (pos a.unit) k (pos u) h

  at_keeps : (o u : Option ℕ) (g : Grouping) → P g.offset_nodes → P (at_place o u g).offset_nodes
  at_keeps None u g h = h
  at_keeps (Some k) None g h = h
  at_keeps (Some k) (Some u) g h = unit_keeps g.anchor k u g h

  pub named_keeps : (o : Option (List ℕ)) (u : Option ℕ) (g : Grouping) → P g.offset_nodes → P (named_joined t o u g).offset_nodes
  named_keeps None u g h = h
  named_keeps (Some x) u g h = go (may_join (find x t.entries))
    where
      go : (c : Bool) → P (let r : Grouping = if c then at_place (place_of t x) u g else clashes g in r.offset_nodes)
      go true = at_keeps (place_of t x) u g h
      go false = h

  pub items_keep : (is : List ExprTree) (g : Grouping) → P g.offset_nodes → P (items_joined t is g).offset_nodes
  items_keep [] g h = h
  items_keep (i ∷ is) g h = items_keep is (named_joined t (item_name i) (item_position t i) g) (named_keeps (item_name i) (item_position t i) g h)

  pub groups_keep : (gs : List (List ExprTree)) (line : ℕ) (s : Shared) → P s.group.offset_nodes → P (groups_shared t gs line s).group.offset_nodes
  groups_keep [] line s h = h
  groups_keep (g ∷ gs) line s h = groups_keep gs line (group_shared t g line s) (items_keep g (begun s.group) h)

  decl_keeps : (d : DeclTree) (line : ℕ) (s : Shared) → P s.group.offset_nodes → P (decl_shared t d line s).group.offset_nodes
  decl_keeps (decl.equivalence gs) line s h = groups_keep gs line s h
  decl_keeps (decl.implicit ps) line s h = h
  decl_keeps (decl.integer es) line s h = h
  decl_keeps (decl.logical es) line s h = h
  decl_keeps (decl.dimension es) line s h = h
  decl_keeps (decl.parameter ss) line s h = h
  decl_keeps (decl.common cs) line s h = h
  decl_keeps (decl.save is) line s h = h
  decl_keeps (decl.initial gs) line s h = h

  pub decls_keep : (at : LineTable) (ds : List DeclTree) (n : ℕ) (s : Shared) → P s.group.offset_nodes → P (decls_shared t at ds n s).group.offset_nodes
  decls_keep at [] n s h = h
  decls_keep at (d ∷ ds) n s h =
      let line = line_or at (Decl n) 0 in
      decls_keep at ds (n + 1) (decl_shared t d line s) (decl_keeps d line s h)

-- ---- clashes

-- an item that joins without a clash: a name with a place, and a unit
pub record Joins (t : NameTable) (o : Option (List ℕ)) (u : Option ℕ) (g : Grouping) : Type 0 where
  pub name : List ℕ
  pub is_name : o ≡ Some name
  pub may : may_join (find name t.entries) ≡ true
  pub place : ℕ
  pub is_place : place_of t name ≡ Some place
  pub unit : ℕ
  pub is_unit : u ≡ Some unit
  pub becomes : named_joined t o u g ≡ unit_joined g.anchor place unit g
  pub quiet : (unit_joined g.anchor place unit g).clash ≡ false

pub joins : (t : NameTable) (o : Option (List ℕ)) (u : Option ℕ) (g : Grouping) → (named_joined t o u g).clash ≡ false → Joins t o u g
joins t None u g e = cc
joins t (Some x) u g e = go (may_join (find x t.entries)) refl e
  where
    unit_there : (k : ℕ) → may_join (find x t.entries) ≡ true → place_of t x ≡ Some k → (v : Option ℕ) → u ≡ v → named_joined t (Some x) u g ≡ at_place (Some k) v g → (at_place (Some k) v g).clash ≡ false → Joins t (Some x) u g
    unit_there k m p None q w c = cc
    unit_there k m p (Some v) q w c = record { name = x; is_name = refl; may = m; place = k; is_place = p; unit = v; is_unit = q; becomes = w; quiet = c }

    placed : may_join (find x t.entries) ≡ true → (o : Option ℕ) → place_of t x ≡ o → named_joined t (Some x) u g ≡ at_place o u g → (at_place o u g).clash ≡ false → Joins t (Some x) u g
    placed m None p w c = cc
    placed m (Some k) p w c = unit_there k m p u refl w c

    go : (b : Bool) → may_join (find x t.entries) ≡ b → (let r : Grouping = if b then at_place (place_of t x) u g else clashes g in r.clash) ≡ false → Joins t (Some x) u g
    go true m c = placed m (place_of t x) refl (ap (λ b. if b then at_place (place_of t x) u g else clashes g) m) c
    go false m c = cc

pub unit_back : (a : Option Anchor) (k u : ℕ) (g : Grouping) → (unit_joined a k u g).clash ≡ false → g.clash ≡ false
unit_back None k u g e = e
unit_back (Some a) k u g e = (or_parts g.clash (joined g.offset_nodes a.place (pos a.unit) k (pos u)).clash e).0

pub items_back : (t : NameTable) (is : List ExprTree) (g : Grouping) → (items_joined t is g).clash ≡ false → g.clash ≡ false
items_back t [] g e = e
items_back t (i ∷ is) g e =
    let r = joins t (item_name i) (item_position t i) g (items_back t is (named_joined t (item_name i) (item_position t i) g) e) in
    unit_back g.anchor r.place r.unit g r.quiet

-- a group of which nothing is refused at last
pub record Quiet (t : NameTable) (is : List ExprTree) (s : Shared) : Type 0 where
  pub calm : (items_joined t is (begun s.group)).clash ≡ false
  pub before : s.late ≡ None

pub group_quiet : (t : NameTable) (is : List ExprTree) (line : ℕ) (s : Shared) → (group_shared t is line s).late ≡ None → Quiet t is s
group_quiet t is line s e =
    let g = items_joined t is (begun s.group) in
    let last = none_refused (items_extend t g.offset_nodes is) line EquivalenceExtendsBack (refuse_if g.clash line EquivalenceClash s.late) e in
    let first = none_refused g.clash line EquivalenceClash s.late last.1 in
    record { calm = first.0; before = first.1 }

pub groups_quiet : (t : NameTable) (gs : List (List ExprTree)) (line : ℕ) (s : Shared) → (groups_shared t gs line s).late ≡ None → s.late ≡ None
groups_quiet t [] line s e = e
groups_quiet t (g ∷ gs) line s e = (group_quiet t g line s (groups_quiet t gs line (group_shared t g line s) e)).before

pub decl_quiet : (t : NameTable) (d : DeclTree) (line : ℕ) (s : Shared) → (decl_shared t d line s).late ≡ None → s.late ≡ None
decl_quiet t (decl.equivalence gs) line s e = groups_quiet t gs line s e
decl_quiet t (decl.implicit ps) line s e = e
decl_quiet t (decl.integer es) line s e = e
decl_quiet t (decl.logical es) line s e = e
decl_quiet t (decl.dimension es) line s e = e
decl_quiet t (decl.parameter ss) line s e = e
decl_quiet t (decl.common cs) line s e = e
decl_quiet t (decl.save is) line s e = e
decl_quiet t (decl.initial gs) line s e = e

pub decls_quiet : (t : NameTable) (at : LineTable) (ds : List DeclTree) (n : ℕ) (s : Shared) → (decls_shared t at ds n s).late ≡ None → s.late ≡ None
decls_quiet t at [] n s e = e
decls_quiet t at (d ∷ ds) n s e = decl_quiet t d (line_or at (Decl n) 0) s (decls_quiet t at ds (n + 1) (decl_shared t d (line_or at (Decl n) 0) s) e)
