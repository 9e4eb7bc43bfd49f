-- A module is refused for its layout just where its statements admit none.
use Rattle.std.proofs.Common.{◌≡◌, ℕ, ◌+◌, Bool, true, false, pos, ◌+ℤ◌, ◌≤ℤ◌, List, [], ◌∷◌, length, Option, Some, None, Err, inl, inr, refl, sym, ap, ◌∙◌, subst}
use Rattle.std.specs.Prelude.{slice_get, unwrap_or, if◌then◌else◌}
use Rattle.std.specs.List.{AllByRecursion}
use Rattle.f77_ast.specs.Trees.{ExprTree}
use Rattle.f77_ast.specs.DeclTrees.{DeclTree, ParsedTree}
use Rattle.f77_ast.specs.DeclTrees as decl
use Rattle.fx_lists.specs.declared.code.Code.{Code}
use Rattle.fx_lists.specs.declared.code.Code.TheVariants.{EquivalenceClash, EquivalenceExtendsBack}
use Rattle.fx_lists.specs.declared.refusal.Refusal.{Refusal}
use Rattle.fx_lists.specs.Refusals.{is_before, refuse_if}
use Rattle.f77_names.specs.declared.lines.Sited.TheVariants.{Decl}
use Rattle.f77_names.specs.Lines.{LineTable, line_or}
use Rattle.f77_names.specs.Tables.{NameTable}
use Rattle.storage_data.specs.declared.offset_node.Home.{Home}
use Rattle.storage_data.specs.declared.offset_node.Home.TheVariants.{Block, Own}
use Rattle.storage_data.specs.declared.offset_node.OffsetNode.{OffsetNode}
use Rattle.storage_data.specs.OffsetNodes.{is_block}
use Rattle.storage_data.specs.Units.{place_of, units_of}
use Rattle.storage_data.specs.Items.{item_fault, both, check_items}
use Rattle.storage_data.specs.Initials.{unfilled}
use Rattle.storage_layout.specs.declared.equivalences.Anchor.{Anchor}
use Rattle.storage_layout.specs.declared.equivalences.Shared.{Shared}
use Rattle.storage_layout.specs.Statements.{members, equivalences}
use Rattle.storage_layout.specs.Equivalences.{items_joined, items_extend, begun, group_shared, groups_shared, decl_shared, decls_shared}
use Rattle.storage_layout.specs.Table.{Layout}
use Rattle.storage_layout.specs.Symbols.{alone, laid, unshared, shared, filled, answer, symbols_or_refusal, after_shared, lay_shared_and_data, lay_out, check_and_lay_out, symbols_at, symbols_of}
use Rattle.storage_layout.specs.Laws.{InARow, HasRow, no_block, a_row, AllAt, GroupCoincides}
use Rattle.storage_layout.proofs.EarlyLaws.{NoneBefore, alone_none_at, decls_none, decls_sound}
use Rattle.storage_layout.proofs.StayLaws.{shared_stays}
use Rattle.storage_layout.proofs.RowLaws.{row_remains, members_lie_in_a_row}
use Rattle.storage_layout.proofs.EquivalenceLaws.{equivalences_coincide}
use Rattle.laws_programs.proofs.SymbolTables.StatementRefusals.{noted_back}
use Rattle.laws_programs.proofs.SymbolTables.Answers.{Answered, lines_in, names_in, found_in, laid_in, shared_in, filled_in, layout_in, answered_by, filled_back, found_none, values_none, names_none}
use Rattle.laws_programs.specs.Layout.Fits.{Area, block, local, Spot, behind, RunsFrom, MeetAt, GroupMeets, Satisfies}
use Rattle.laws_programs.specs.Layout.Laws.{IsOfLayout, LayoutsAreRefusedWhereNoneFits, AcceptedLayoutsFit}
use Rattle.laws_programs.proofs.Layouts.CommonLaws.{block_named, distinct_members}
use Rattle.laws_programs.proofs.Layouts.DifferLaws.{names_differ}
use Rattle.laws_programs.proofs.Layouts.FitLaws.{spot_is, shared_quiet}
use Rattle.laws_programs.proofs.Layouts.LaidFits.{base_of, blocks_begin, laid_fits}

-- ---- nothing was refused before EQUIVALENCE

both_back : (a b : Option Refusal) → both a b ≡ None → b ≡ None
both_back None b e = e
both_back (Some r) b e = noted_back true r.line r.code b e

items_back : (t : NameTable) (is : List ExprTree) (line : ℕ) (o : Option Refusal) → check_items t is line o ≡ None → o ≡ None
items_back t [] line o e = e
items_back t (i ∷ is) line o e = both_back (item_fault t i line) o (items_back t is line (both (item_fault t i line) o) e)

groups_back : (t : NameTable) (gs : List (List ExprTree)) (line : ℕ) (s : Shared) → (groups_shared t gs line s).found ≡ None → s.found ≡ None
groups_back t [] line s e = e
groups_back t (g ∷ gs) line s e = items_back t g line s.found (groups_back t gs line (group_shared t g line s) e)

decl_back : (t : NameTable) (d : DeclTree) (line : ℕ) (s : Shared) → (decl_shared t d line s).found ≡ None → s.found ≡ None
decl_back t (decl.equivalence gs) line s e = groups_back t gs line s e
decl_back t (decl.implicit ps) line s e = e
decl_back t (decl.integer es) line s e = e
decl_back t (decl.logical es) line s e = e
decl_back t (decl.dimension es) line s e = e
decl_back t (decl.parameter ss) line s e = e
decl_back t (decl.common cs) line s e = e
decl_back t (decl.save is) line s e = e
decl_back t (decl.initial gs) line s e = e

decls_back : (t : NameTable) (at : LineTable) (ds : List DeclTree) (n : ℕ) (s : Shared) → (decls_shared t at ds n s).found ≡ None → s.found ≡ None
decls_back t at [] n s e = e
decls_back t at (d ∷ ds) n s e = decl_back t d (line_or at (Decl n) 0) s (decls_back t at ds (n + 1) (decl_shared t d (line_or at (Decl n) 0) s) e)

checks_none : (p : ParsedTree) → (filled_in p).found ≡ None → found_in p ≡ None
unfolding shared filled
checks_none p e = decls_back (names_in p) (lines_in p) p.module_read.decls 0 (unshared (laid_in p).offset_nodes (found_in p)) (filled_back (names_in p) (shared_in p).group.offset_nodes (lines_in p) p.module_read.decls 0 (unfilled (shared_in p).found) e)

-- ---- a layout that fits

late_given : (found late : Option Refusal) (l : Layout) (r : Refusal) → found ≡ None → answer found late l ≡ Err r → late ≡ Some r
late_given (Some q) late l r n e = cc
late_given None (Some q) l r n e = let same : q ≡ r = cc in ap Some same
late_given None None l r n e = cc

refused_late : (p : ParsedTree) (r : Refusal) → (filled_in p).found ≡ None → symbols_of p ≡ Err r → (shared_in p).late ≡ Some r
unfolding symbols_or_refusal after_shared lay_shared_and_data lay_out check_and_lay_out symbols_at symbols_of
refused_late p r n e = late_given (filled_in p).found (shared_in p).late (layout_in p) r n e

none_fits : (p : ParsedTree) (r : Refusal) → (filled_in p).found ≡ None → symbols_of p ≡ Err r → (f : List ℕ → Spot) → Satisfies (names_in p) p.module_read.decls f → ⊥
none_fits p r passed refused f fits =
    let t = names_in p in
    let ds = p.module_read.decls in
    let distinct = distinct_members p (names_none p (values_none p (checks_none p passed))) in
    let laid_fit = laid_fits t ds f distinct (names_differ p) fits in
    let quiet = shared_quiet t f (laid t ds).names (base_of t ds f) (blocks_begin t ds f) fits.begins (lines_in p) ds (laid t ds).offset_nodes (found_in p) fits.equivalence laid_fit in
    let z : Some r ≡ None = sym (refused_late p r passed refused) ∙ quiet in
    cc

-- ---- the codes

abbrev AllOfLayout : Option Refusal → Type 0
AllOfLayout None = Unit {0}
AllOfLayout (Some r) = IsOfLayout r

refused_of : (b : Bool) (line : ℕ) (c : Code) (o : Option Refusal) → IsOfLayout (record { line = line; code = c }) → AllOfLayout o → AllOfLayout (refuse_if b line c o)
unfolding refuse_if
refused_of true line c None new old = new
refused_of true line c (Some r) new old = go (is_before (record { line = line; code = c }) r)
  where
    go : (k : Bool) → IsOfLayout (if k then record { line = line; code = c } else r)
    go true = new
    go false = old
refused_of false line c o new old = old

group_of : (t : NameTable) (is : List ExprTree) (line : ℕ) (s : Shared) → AllOfLayout s.late → AllOfLayout (group_shared t is line s).late
group_of t is line s h =
    let g = items_joined t is (begun s.group) in
    refused_of (items_extend t g.offset_nodes is) line EquivalenceExtendsBack (refuse_if g.clash line EquivalenceClash s.late) (inr refl) (refused_of g.clash line EquivalenceClash s.late (inl refl) h)

groups_of : (t : NameTable) (gs : List (List ExprTree)) (line : ℕ) (s : Shared) → AllOfLayout s.late → AllOfLayout (groups_shared t gs line s).late
groups_of t [] line s h = h
groups_of t (g ∷ gs) line s h = groups_of t gs line (group_shared t g line s) (group_of t g line s h)

decl_of : (t : NameTable) (d : DeclTree) (line : ℕ) (s : Shared) → AllOfLayout s.late → AllOfLayout (decl_shared t d line s).late
decl_of t (decl.equivalence gs) line s h = groups_of t gs line s h
decl_of t (decl.implicit ps) line s h = h
decl_of t (decl.integer es) line s h = h
decl_of t (decl.logical es) line s h = h
decl_of t (decl.dimension es) line s h = h
decl_of t (decl.parameter ss) line s h = h
decl_of t (decl.common cs) line s h = h
decl_of t (decl.save is) line s h = h
decl_of t (decl.initial gs) line s h = h

decls_of : (t : NameTable) (at : LineTable) (ds : List DeclTree) (n : ℕ) (s : Shared) → AllOfLayout s.late → AllOfLayout (decls_shared t at ds n s).late
decls_of t at [] n s h = h
decls_of t at (d ∷ ds) n s h = decls_of t at ds (n + 1) (decl_shared t d (line_or at (Decl n) 0) s) (decl_of t d (line_or at (Decl n) 0) s h)

late_of : (p : ParsedTree) → AllOfLayout (shared_in p).late
unfolding shared
late_of p = decls_of (names_in p) (lines_in p) p.module_read.decls 0 (unshared (laid_in p).offset_nodes (found_in p)) tt

pub layouts_are_refused_where_none_fits : LayoutsAreRefusedWhereNoneFits
layouts_are_refused_where_none_fits p r passed refused = (subst AllOfLayout (refused_late p r passed refused) (late_of p), none_fits p r passed refused)

-- ---- the layout of a table

abbrev area_of : List (List ℕ) → Home → Area
area_of names (Block n) = block (unwrap_or (slice_get names n) [])
area_of names (Own n) = local n

abbrev spot_at : List (List ℕ) → Option OffsetNode → Spot
spot_at names None = record { area = local 0; offset = pos 0 }
spot_at names (Some s) = record { area = area_of names s.home; offset = s.offset }

abbrev spot_maybe : List (List ℕ) → List OffsetNode → Option ℕ → Spot
spot_maybe names ss None = record { area = local 0; offset = pos 0 }
spot_maybe names ss (Some k) = spot_at names (slice_get ss k)

module _ (t : NameTable) (names : List (List ℕ)) (ss : List OffsetNode) where
  abbrev spots : List ℕ → Spot
  spots x = spot_maybe names ss (place_of t x)

  spot_of : (x : List ℕ) (k : ℕ) (s : OffsetNode) → place_of t x ≡ Some k → slice_get ss k ≡ Some s → spots x ≡ record { area = area_of names s.home; offset = s.offset }
  spot_of x k s p e = ap (spot_maybe names ss) p ∙ ap (spot_at names) e

  row_runs : (b : List ℕ) (n : ℕ) → slice_get names n ≡ Some b → (from : ℕ) (xs : List (List ℕ)) (to : ℕ) → InARow t ss n from xs to → RunsFrom t spots b from xs
  row_runs b n name from [] to h = tt
  row_runs b n name from (x ∷ xs) to h =
      (spot_of x h.0 (record { home = Block n; offset = pos from }) h.1 h.2 ∙ ap (λ o. record { area = block (unwrap_or o []); offset = pos from }) name, row_runs b n name (from + units_of t x) xs to h.3)

  items_meet : (a : Anchor) (is : List ExprTree) → AllAt t ss a is → MeetAt t spots (behind (spot_at names (slice_get ss a.place)) (pos a.unit)) is
  items_meet a [] h = tt
  items_meet a (i ∷ is) h =
      let r = h.0 in
      let c = h.1 in
      let here : behind (spots r.name) (pos r.unit) ≡ record { area = area_of names c.second.home; offset = c.second.offset +ℤ pos r.unit } = ap (λ z. behind z (pos r.unit)) (spot_of r.name r.place c.second r.is_place c.is_second) in
      let there : behind (spot_at names (slice_get ss a.place)) (pos a.unit) ≡ record { area = area_of names c.first.home; offset = c.first.offset +ℤ pos a.unit } = ap (λ o. behind (spot_at names o) (pos a.unit)) c.is_first in
      let same = spot_is (record { area = area_of names c.second.home; offset = c.second.offset +ℤ pos r.unit }) (record { area = area_of names c.first.home; offset = c.first.offset +ℤ pos a.unit }) (ap (area_of names) (sym c.home)) (sym c.unit) in
      (r, here ∙ same ∙ sym there, items_meet a is h.2)

  groups_meet : (gs : List (List ExprTree)) → AllByRecursion (GroupCoincides t ss) gs → AllByRecursion (GroupMeets t spots) gs
  groups_meet [] h = tt
  groups_meet (g ∷ gs) h = ((behind (spot_at names (slice_get ss h.0.0.place)) (pos h.0.0.unit), items_meet h.0.0 g h.0.1), groups_meet gs h.1)

  spots_begin : NoneBefore ss → (x : List ℕ) (k : ℕ) (b : List ℕ) → place_of t x ≡ Some k → (spots x).area ≡ block b → pos 0 ≤ℤ (spots x).offset
  spots_begin none x k b p e = subst (λ (z : Spot). pos 0 ≤ℤ z.offset) (sym (ap (spot_maybe names ss) p)) (offset_node_begins (slice_get ss k) refl (ap (λ (z : Spot). z.area) (sym (ap (spot_maybe names ss) p)) ∙ e))
    where
      home_begins : (s : OffsetNode) → slice_get ss k ≡ Some s → (h : Home) → s.home ≡ h → area_of names h ≡ block b → pos 0 ≤ℤ s.offset
      home_begins s q (Block n) w z = none k s q (ap is_block w)
      home_begins s q (Own n) w z = cc

      offset_node_begins : (o : Option OffsetNode) → slice_get ss k ≡ o → (spot_at names o).area ≡ block b → pos 0 ≤ℤ (spot_at names o).offset
      offset_node_begins None q z = cc
      offset_node_begins (Some s) q z = home_begins s q s.home refl z

none_before : (p : ParsedTree) → (shared_in p).late ≡ None → NoneBefore (shared_in p).group.offset_nodes
unfolding laid shared
none_before p late = decls_sound (names_in p) (lines_in p) p.module_read.decls 0 (unshared (laid_in p).offset_nodes (found_in p)) (λ e. decls_none (names_in p) p.module_read.decls (alone (names_in p)) (alone_none_at (length (names_in p).entries))) late

pub accepted_layouts_fit : AcceptedLayoutsFit
accepted_layouts_fit p ss e = (spots t names offset_nodes, record { common = common; equivalence = groups_meet t names offset_nodes (equivalences ds) (equivalences_coincide t (lines_in p) ds (found_in p) a.late); begins = spots_begin t names offset_nodes (none_before p a.late) })
  where
    a : Answered p ss
    a = answered_by p ss e

    t : NameTable
    t = names_in p

    ds : List DeclTree
    ds = p.module_read.decls

    names : List (List ℕ)
    names = (laid t ds).names

    offset_nodes : List OffsetNode
    offset_nodes = (shared_in p).group.offset_nodes

    common : (b : List ℕ) → RunsFrom t (spots t names offset_nodes) b 0 (members b ds)
    common b = go (members_lie_in_a_row t ds (distinct_members p (names_none p (values_none p (found_none p ss a)))) b)
      where
        go : HasRow t b (laid t ds) (members b ds) → RunsFrom t (spots t names offset_nodes) b 0 (members b ds)
        go (no_block none q) = subst (RunsFrom t (spots t names offset_nodes) b 0) (sym q) tt
        go (a_row n size is has row) = row_runs t names offset_nodes b n (block_named names b n is) 0 (members b ds) size (row_remains t (laid t ds).offset_nodes offset_nodes n 0 (members b ds) size (shared_stays t (lines_in p) ds (laid t ds).offset_nodes (found_in p)) row)
