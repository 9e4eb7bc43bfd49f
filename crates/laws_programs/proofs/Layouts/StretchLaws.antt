-- Where nothing of DATA is refused no unit is given two values, and each value is a constant.
use Rattle.std.proofs.Common.{◌≡◌, ℕ, ◌+◌, Bool, true, false, not, List, [], ◌∷◌, ◌++◌, Option, Some, None, inl, inr, refl, sym, ap, ◌∙◌}
use Rattle.std.specs.Prelude.{if◌then◌else◌, nat_eq, is_some, is_none, ◌||◌, slice_get}
use Rattle.std.specs.List.{list_any}
use Rattle.std.proofs.lemmas.Bool.{or_parts}
use Rattle.f77_ast.specs.Trees.{ExprTree, ExprTrees}
use Rattle.f77_ast.specs.Trees as tree
use Rattle.f77_ast.specs.DeclTrees.{DataTree, DeclTree}
use Rattle.f77_ast.specs.DeclTrees as decl
use Rattle.f77_ast.specs.declared.constant.Constant.{Constant}
use Rattle.fx_lists.specs.declared.code.Code.TheVariants.{InitialMismatch}
use Rattle.f77_names.specs.declared.lines.Sited.TheVariants.{Decl}
use Rattle.f77_names.specs.Lines.{LineTable, line_or}
use Rattle.f77_names.specs.Entries.{EntryTree, find}
use Rattle.f77_names.specs.Tables.{NameTable}
use Rattle.f77_checks.specs.Dimensions.{dims_in}
use Rattle.storage_data.specs.declared.offset_node.OffsetNode.{OffsetNode}
use Rattle.storage_data.specs.declared.targets.Target.{Target}
use Rattle.storage_data.specs.declared.targets.Target.TheVariants.{Excluded, Open}
use Rattle.storage_data.specs.declared.values.Run.{Run}
use Rattle.storage_data.specs.declared.deals.Piece.{Piece}
use Rattle.storage_data.specs.declared.initials.Filled.{Filled}
use Rattle.storage_data.specs.Units.{place_of}
use Rattle.storage_data.specs.Items.{item_name, item_fault, item_position}
use Rattle.storage_data.specs.Initials.{is_excluded, is_open, covers_element, covers, is_barred, entry_target, named_target, target_of, targets_of, units_in, values_in, runs_of, dealt, stretches_of, has_other_type, kind_at, is_mistyped, meet_twice, mismatch, given, targets_filled, faulted, group_filled, groups_filled, decl_filled, decls_filled}
use Rattle.laws_programs.proofs.SymbolTables.Answers.{filled_back}
use Rattle.laws_programs.proofs.Layouts.DealLaws.{Slot, SomeFits}
use Rattle.laws_programs.proofs.Layouts.DealBack.{fits_either}
use Rattle.storage_layout.proofs.GroupLaws.{IsAssociated}
use Rattle.laws_programs.proofs.Layouts.OnceLaws.{Alone, HasOffsetNode, HaveOffsetNodes, dealt_alone}
use Rattle.fx_lists.proofs.Refused.{none_refused}

-- each value is a constant
abbrev pub Typed : List Piece → Type 0
Typed ps = (s : Slot) (v : Option Constant) → SomeFits ps s v → (c : Constant) × (v ≡ Some c)

typed_new : (t : NameTable) (ps : List Piece) → list_any (is_mistyped t) ps ≡ false → Typed ps
typed_new t [] e s v h = absurd h
typed_new t (p ∷ ps) e s v (inl h) = go p.value refl
  where
    go : (o : Option Constant) → p.value ≡ o → (c : Constant) × (v ≡ Some c)
    go None q = let yes : is_mistyped t p ≡ true = ap (has_other_type (kind_at t (slice_get t.entries p.place))) q in let z : true ≡ false = sym yes ∙ (or_parts (is_mistyped t p) (list_any (is_mistyped t) ps) e).0 in cc
    go (Some c) q = (c, sym h.1 ∙ q)
typed_new t (p ∷ ps) e s v (inr h) = typed_new t ps (or_parts (is_mistyped t p) (list_any (is_mistyped t) ps) e).1 s v h

typed_joined : (ps qs : List Piece) → Typed ps → Typed qs → Typed (ps ++ qs)
typed_joined ps qs h k s v f = elim (fits_either ps qs s v f) [ inl a ↦ h s v a | inr b ↦ k s v b ]

module _ (t : NameTable) (ss : List OffsetNode) (seated : IsAssociated t ss) where
  covers_offset_node : (place : ℕ) (i : ExprTree) → (q : OffsetNode) × (slice_get ss place ≡ Some q) → HasOffsetNode ss (covers t place i)
  covers_offset_node place (tree.name x) h = h
  covers_offset_node place (tree.element x es) h = go (item_position t (tree.element x es))
    where
      go : (o : Option ℕ) → HasOffsetNode ss (covers_element place o)
      go None = tt
      go (Some k) = h
  covers_offset_node place (tree.int n) h = tt
  covers_offset_node place (tree.log b) h = tt
  covers_offset_node place (tree.paren e) h = tt
  covers_offset_node place (tree.unary o e) h = tt
  covers_offset_node place (tree.binary o a b) h = tt
  covers_offset_node place (tree.chars x) h = tt

  target_offset_node : (i : ExprTree) → HasOffsetNode ss (target_of t ss i)
  target_offset_node i = by_name (item_name i)
    where
      open_or : (place : ℕ) → (q : OffsetNode) × (slice_get ss place ≡ Some q) → (a b : Bool) → HasOffsetNode ss (if a then Excluded else if b then Open else covers t place i)
      open_or place h true b = tt
      open_or place h false true = tt
      open_or place h false false = covers_offset_node place i h

      entry : (x : List ℕ) (o : Option ℕ) → place_of t x ≡ o → (r : Option EntryTree) → HasOffsetNode ss (entry_target t ss i o r)
      entry x None p r = tt
      entry x (Some place) p None = tt
      entry x (Some place) p (Some e) = open_or place (seated x place p) (is_barred e (slice_get ss place)) (is_none (dims_in t e) || is_some (item_fault t i 0))

      by_name : (o : Option (List ℕ)) → HasOffsetNode ss (named_target t ss i o)
      by_name None = tt
      by_name (Some x) = entry x (place_of t x) refl (find x t.entries)

  targets_offset_nodes : (is : List ExprTree) → HaveOffsetNodes ss (targets_of t ss is)
  targets_offset_nodes [] = tt
  targets_offset_nodes (i ∷ is) = (target_offset_node i, targets_offset_nodes is)

  -- ---- statements

  pub record Good (f : Filled) : Type 0 where
    pub alone : Alone ss f.pieces f.stretches
    pub typed : Typed f.pieces

  targets_good : (cs : List Target) (rs : List Run) (line : ℕ) (f : Filled) → HaveOffsetNodes ss cs → (targets_filled t ss cs rs line f).found ≡ None → Good f → Good (targets_filled t ss cs rs line f)
  targets_good cs rs line f offset_nodes e h = go (list_any is_excluded cs) (list_any is_open cs) (not (nat_eq (units_in cs) (values_in rs))) e
    where
      go : (a b c : Bool) → (let r : Filled = if a then mismatch true line f else if b then f else if c then mismatch true line f else given t ss cs rs line f in r.found) ≡ None → Good (if a then mismatch true line f else if b then f else if c then mismatch true line f else given t ss cs rs line f)
      go true b c e = record { alone = h.alone; typed = h.typed }
      go false true c e = h
      go false false true e = record { alone = h.alone; typed = h.typed }
      go false false false e =
          let parts = or_parts (list_any (is_mistyped t) (dealt cs rs)) (meet_twice f.stretches (stretches_of ss cs)) (none_refused (list_any (is_mistyped t) (dealt cs rs) || meet_twice f.stretches (stretches_of ss cs)) line InitialMismatch f.found e).0 in
          record { alone = dealt_alone ss cs rs f.pieces f.stretches offset_nodes parts.1 h.alone; typed = typed_joined f.pieces (dealt cs rs) h.typed (typed_new t (dealt cs rs) parts.0) }

  groups_good : (gs : List DataTree) (line : ℕ) (f : Filled) → (groups_filled t ss gs line f).found ≡ None → Good f → Good (groups_filled t ss gs line f)
  groups_good [] line f e h = h
  groups_good (g ∷ gs) line f e h =
      let next = group_filled t ss g line f in
      let quiet = filled_back t ss (λ s. Some line) (decl.initial gs ∷ []) 0 next e in
      groups_good gs line next e (targets_good (targets_of t ss g.targets) (runs_of g.values) line (faulted t g.targets line f) (targets_offset_nodes g.targets) quiet (record { alone = h.alone; typed = h.typed }))

  decl_good : (d : DeclTree) (line : ℕ) (f : Filled) → (decl_filled t ss d line f).found ≡ None → Good f → Good (decl_filled t ss d line f)
  decl_good (decl.initial gs) line f e h = groups_good gs line f e h
  decl_good (decl.implicit ps) line f e h = h
  decl_good (decl.integer es) line f e h = h
  decl_good (decl.logical es) line f e h = h
  decl_good (decl.dimension es) line f e h = h
  decl_good (decl.parameter xs) line f e h = h
  decl_good (decl.common cs) line f e h = h
  decl_good (decl.equivalence gs) line f e h = h
  decl_good (decl.save is) line f e h = h

  pub decls_good : (at : LineTable) (ds : List DeclTree) (n : ℕ) (f : Filled) → (decls_filled t ss at ds n f).found ≡ None → Good f → Good (decls_filled t ss at ds n f)
  decls_good at [] n f e h = h
  decls_good at (d ∷ ds) n f e h =
      let line = line_or at (Decl n) 0 in
      let next = decl_filled t ss d line f in
      decls_good at ds (n + 1) next e (decl_good d line f (filled_back t ss at ds (n + 1) next e) h)
