-- EQUIVALENCE as it is laid out: the items of each group have one unit.
use Rattle.std.proofs.Common.{◌≡◌, ℕ, ◌+◌, false, ℤ, pos, List, [], ◌∷◌, ◌++◌, Option, Some, None, refl, sym, ap, ◌∙◌, subst}
use Rattle.std.specs.Prelude.{slice_get}
use Rattle.std.specs.List.{AllByRecursion}
use Rattle.std.proofs.lemmas.Bool.{or_parts}
use Rattle.f77_ast.specs.Trees.{ExprTree}
use Rattle.f77_ast.specs.DeclTrees.{DeclTree}
use Rattle.f77_ast.specs.DeclTrees as decl
use Rattle.fx_lists.specs.declared.refusal.Refusal.{Refusal}
use Rattle.f77_names.specs.declared.lines.Sited.TheVariants.{Decl}
use Rattle.f77_names.specs.Lines.{LineTable, line_or}
use Rattle.f77_names.specs.Tables.{NameTable}
use Rattle.storage_data.specs.declared.offset_node.OffsetNode.{OffsetNode}
use Rattle.storage_data.specs.OffsetNodes.{joined}
use Rattle.storage_data.specs.Units.{place_of}
use Rattle.storage_data.specs.Items.{item_name, item_position}
use Rattle.storage_layout.specs.declared.equivalences.Anchor.{Anchor}
use Rattle.storage_layout.specs.declared.equivalences.Grouping.{Grouping}
use Rattle.storage_layout.specs.declared.equivalences.Shared.{Shared}
use Rattle.storage_layout.specs.Equivalences.{unit_joined, named_joined, items_joined, begun, group_shared, groups_shared, decl_shared, decls_shared}
use Rattle.storage_layout.specs.Symbols.{unshared, shared}
use Rattle.storage_layout.specs.Laws.{ItemUnit, AllAt, GroupCoincides}
use Rattle.storage_layout.specs.Statements.{equivalences_in, equivalences}
use Rattle.storage_data.specs.GroupLaws.{Coincide}
use Rattle.storage_data.proofs.JoinLaws.{still_one, becomes_one, offset_nodes_stay}
use Rattle.storage_layout.proofs.GroupKeeps.{named_keeps, items_keep, groups_keep, decls_keep, Joins, joins, items_back, group_quiet, groups_quiet, decls_quiet}

module _ (t : NameTable) where
  -- each name with a place has an offset node
  abbrev pub IsAssociated : List OffsetNode → Type 0
  IsAssociated ss = (x : List ℕ) (k : ℕ) → place_of t x ≡ Some k → (s : OffsetNode) × (slice_get ss k ≡ Some s)

  associated_still : (ss : List OffsetNode) (m : ℕ) (p : ℤ) (n : ℕ) (q : ℤ) → IsAssociated ss → IsAssociated (joined ss m p n q).offset_nodes
  associated_still ss m p n q h x k e = let s = h x k e in offset_nodes_stay ss m p n q k s.0 s.1

  all_still : (ss : List OffsetNode) (a : Anchor) (is : List ExprTree) (m : ℕ) (p : ℤ) (n : ℕ) (q : ℤ) → AllAt t ss a is → AllAt t (joined ss m p n q).offset_nodes a is
  all_still ss a [] m p n q h = tt
  all_still ss a (i ∷ is) m p n q h = (h.0, still_one ss m p n q a.place (pos a.unit) h.0.place (pos h.0.unit) h.1, all_still ss a is m p n q h.2)

  group_still : (is : List ExprTree) (ss : List OffsetNode) (m : ℕ) (p : ℤ) (n : ℕ) (q : ℤ) → GroupCoincides t ss is → GroupCoincides t (joined ss m p n q).offset_nodes is
  group_still is ss m p n q h = (h.0, all_still ss h.0 is m p n q h.1)

  groups_still : (gs : List (List ExprTree)) (ss : List OffsetNode) (m : ℕ) (p : ℤ) (n : ℕ) (q : ℤ) → AllByRecursion (GroupCoincides t ss) gs → AllByRecursion (GroupCoincides t (joined ss m p n q).offset_nodes) gs
  groups_still [] ss m p n q h = tt
  groups_still (g ∷ gs) ss m p n q h = (group_still g ss m p n q h.0, groups_still gs ss m p n q h.1)

  -- ---- the items of a group

  abbrev item_of : (i : ExprTree) (g : Grouping) → Joins t (item_name i) (item_position t i) g → ItemUnit t i
  item_of i g r = record { name = r.name; is_name = r.is_name; may = r.may; place = r.place; is_place = r.is_place; unit = r.unit; is_unit = r.is_unit }

  -- one more item has the unit of the anchor
  item_one : (a : Anchor) (k u : ℕ) (x : List ℕ) (g : Grouping) → IsAssociated g.offset_nodes → (y : List ℕ) → place_of t y ≡ Some a.place → place_of t x ≡ Some k → (unit_joined (Some a) k u g).clash ≡ false → Coincide (unit_joined (Some a) k u g).offset_nodes a.place (pos a.unit) k (pos u)
  item_one a k u x g seated y p q c =
      let first = seated y a.place p in
      let second = seated x k q in
      becomes_one g.offset_nodes a.place (pos a.unit) k (pos u) first.0 second.0 first.1 second.1 (or_parts g.clash (joined g.offset_nodes a.place (pos a.unit) k (pos u)).clash c).1

  items_one : (is : List ExprTree) (g : Grouping) (a : Anchor) (y : List ℕ) → place_of t y ≡ Some a.place → g.anchor ≡ Some a → IsAssociated g.offset_nodes → (items_joined t is g).clash ≡ false → AllAt t (items_joined t is g).offset_nodes a is
  items_one [] g a y p e seated c = tt
  items_one (i ∷ is) g a y p e seated c =
      let next = named_joined t (item_name i) (item_position t i) g in
      let r = joins t (item_name i) (item_position t i) g (items_back t is next c) in
      let at : next ≡ unit_joined (Some a) r.place r.unit g = r.becomes ∙ ap (λ o. unit_joined o r.place r.unit g) e in
      let quiet : (unit_joined (Some a) r.place r.unit g).clash ≡ false = ap (λ o. (unit_joined o r.place r.unit g).clash) (sym e) ∙ r.quiet in
      let here = subst (λ (z : Grouping). Coincide z.offset_nodes a.place (pos a.unit) r.place (pos r.unit)) (sym at) (item_one a r.place r.unit r.name g seated y p r.is_place quiet) in
      let still = items_keep (λ ss. Coincide ss a.place (pos a.unit) r.place (pos r.unit)) (λ ss m p' n q h. still_one ss m p' n q a.place (pos a.unit) r.place (pos r.unit) h) t is next here in
      let anchor : next.anchor ≡ Some a = ap (λ (z : Grouping). z.anchor) at ∙ e in
      (item_of i g r, still, items_one is next a y p anchor (named_keeps IsAssociated associated_still t (item_name i) (item_position t i) g seated) c)

  group_one : (is : List ExprTree) (g : Grouping) → IsAssociated g.offset_nodes → (items_joined t is (begun g)).clash ≡ false → GroupCoincides t (items_joined t is (begun g)).offset_nodes is
  group_one [] g seated c = (record { place = 0; unit = 0 }, tt)
  group_one (i ∷ is) g seated c =
      let next = named_joined t (item_name i) (item_position t i) (begun g) in
      let r = joins t (item_name i) (item_position t i) (begun g) (items_back t is next c) in
      let a : Anchor = record { place = r.place; unit = r.unit } in
      let s = seated r.name r.place r.is_place in
      let here : Coincide (begun g).offset_nodes r.place (pos r.unit) r.place (pos r.unit) = record { first = s.0; second = s.0; is_first = s.1; is_second = s.1; home = refl; unit = refl } in
      let there = named_keeps (λ ss. Coincide ss r.place (pos r.unit) r.place (pos r.unit)) (λ ss m p n q h. still_one ss m p n q r.place (pos r.unit) r.place (pos r.unit) h) t (item_name i) (item_position t i) (begun g) here in
      let still = items_keep (λ ss. Coincide ss r.place (pos r.unit) r.place (pos r.unit)) (λ ss m p n q h. still_one ss m p n q r.place (pos r.unit) r.place (pos r.unit) h) t is next there in
      (a, (item_of i (begun g) r, still, items_one is next a r.name r.is_place (ap (λ (z : Grouping). z.anchor) r.becomes) (named_keeps IsAssociated associated_still t (item_name i) (item_position t i) (begun g) seated) c))

  -- ---- statements

  groups_one : (gs : List (List ExprTree)) (line : ℕ) (s : Shared) → IsAssociated s.group.offset_nodes → (groups_shared t gs line s).late ≡ None → AllByRecursion (GroupCoincides t (groups_shared t gs line s).group.offset_nodes) gs
  groups_one [] line s seated e = tt
  groups_one (g ∷ gs) line s seated e =
      let next = group_shared t g line s in
      let calm = (group_quiet t g line s (groups_quiet t gs line next e)).calm in
      (groups_keep (λ ss. GroupCoincides t ss g) (λ ss m p n q h. group_still g ss m p n q h) t gs line next (group_one g s.group seated calm), groups_one gs line next (items_keep IsAssociated associated_still t g (begun s.group) seated) e)

  all_joined : {A : Type 0} (P : A → Type 0) (xs ys : List A) → AllByRecursion P xs → AllByRecursion P ys → AllByRecursion P (xs ++ ys)
  all_joined P [] ys h k = k
  all_joined P (x ∷ xs) ys h k = (h.0, all_joined P xs ys h.1 k)

  decl_one : (d : DeclTree) (line : ℕ) (s : Shared) → IsAssociated s.group.offset_nodes → (decl_shared t d line s).late ≡ None → AllByRecursion (GroupCoincides t (decl_shared t d line s).group.offset_nodes) (equivalences_in d)
  decl_one (decl.equivalence gs) line s seated e = groups_one gs line s seated e
  decl_one (decl.implicit ps) line s seated e = tt
  decl_one (decl.integer es) line s seated e = tt
  decl_one (decl.logical es) line s seated e = tt
  decl_one (decl.dimension es) line s seated e = tt
  decl_one (decl.parameter ss) line s seated e = tt
  decl_one (decl.common cs) line s seated e = tt
  decl_one (decl.save is) line s seated e = tt
  decl_one (decl.initial gs) line s seated e = tt

  decls_one : (at : LineTable) (ds : List DeclTree) (n : ℕ) (s : Shared) → IsAssociated s.group.offset_nodes → (decls_shared t at ds n s).late ≡ None → AllByRecursion (GroupCoincides t (decls_shared t at ds n s).group.offset_nodes) (equivalences ds)
  decls_one at [] n s seated e = tt
  decls_one at (d ∷ ds) n s seated e =
      let line = line_or at (Decl n) 0 in
      let next = decl_shared t d line s in
      let first = decl_one d line s seated (decls_quiet t at ds (n + 1) next e) in
      let kept = decls_keep (λ ss. AllByRecursion (GroupCoincides t ss) (equivalences_in d)) (λ ss m p k q h. groups_still (equivalences_in d) ss m p k q h) t at ds (n + 1) next first in
      all_joined (GroupCoincides t (decls_shared t at ds (n + 1) next).group.offset_nodes) (equivalences_in d) (equivalences ds) kept (decls_one at ds (n + 1) next (associated_next d line) e)
    where
      associated_next : (x : DeclTree) (line : ℕ) → IsAssociated (decl_shared t x line s).group.offset_nodes
      associated_next (decl.equivalence gs) line = groups_keep IsAssociated associated_still t gs line s seated
      associated_next (decl.implicit ps) line = seated
      associated_next (decl.integer es) line = seated
      associated_next (decl.logical es) line = seated
      associated_next (decl.dimension es) line = seated
      associated_next (decl.parameter ss) line = seated
      associated_next (decl.common cs) line = seated
      associated_next (decl.save is) line = seated
      associated_next (decl.initial gs) line = seated

  pub shared_one : (at : LineTable) (ds : List DeclTree) (ss : List OffsetNode) (found : Option Refusal) → IsAssociated ss → (shared t at ds ss found).late ≡ None → AllByRecursion (GroupCoincides t (shared t at ds ss found).group.offset_nodes) (equivalences ds)
  unfolding shared
  shared_one at ds ss found seated e = decls_one at ds 0 (unshared ss found) seated e

  pub shared_associated : (at : LineTable) (ds : List DeclTree) (ss : List OffsetNode) (found : Option Refusal) → IsAssociated ss → IsAssociated (shared t at ds ss found).group.offset_nodes
  unfolding shared
  shared_associated at ds ss found seated = decls_keep IsAssociated associated_still t at ds 0 (unshared ss found) seated
