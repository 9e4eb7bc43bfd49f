-- What CALLs hand down has systems that calls take.
use Rattle.std.proofs.Common.{ℕ, suc, Bool, true, false, ◌&&◌, List, [], ◌∷◌, map, Option, Some, None}
use Rattle.std.specs.Prelude.{option_to_list, bytes_eq, length}
use Rattle.affine_systems.specs.declared.row.Var.TheVariants.{Aux, Cell, Phi}
use Rattle.affine_systems.specs.declared.row.Row.{Row}
use Rattle.affine_systems.specs.declared.row.System.{System}
use Rattle.affine_systems.specs.Given.{Fits}
use Rattle.affine_systems.specs.Normal.{Normal, Kept, Always, Never, TooBig, normal}
use Rattle.affine_systems.proofs.Basics.{if_cases}
use Rattle.affine_systems.proofs.AscendLaws.{ascends-renamed}
use Rattle.hull_projection.specs.Minus.{AllFit}
use Rattle.hull_projection.specs.Variables.{row_vars}
use Rattle.hull_projection.proofs.ProjectLaws.{project_fits}
use Rattle.preconditions.specs.transformer_algebra.Renaming.{renamed_by, push_rows}
use Rattle.f77_ast.specs.declared.symbol.Place.{Place}
use Rattle.f77_ast.specs.declared.symbol.Place.TheVariants.{Local, Dummy, Block as Lies, Constant}
use Rattle.f77_ast.specs.declared.variable.Variable.{Variable}
use Rattle.f77_ast.specs.declared.variable.Variable.TheVariants.{Own, Block, Saved}
use Rattle.f77_ast.specs.Symbols.{SymbolTree}
use Rattle.f77_ast.specs.Shared.{symbol_at}
use Rattle.tracked_cells.specs.Standing.{is_int_scalar}
use Rattle.call_graph.specs.declared.graph.Graph.{Graph}
use Rattle.f77_meaning.specs.Modules.{Known}
use Rattle.affine_forms.specs.declared.affine.Affine.{Affine}
use Rattle.affine_forms.specs.Comparisons.{var_form}
use Rattle.affine_forms.specs.Conditions.{no_rows}
use Rattle.preconditions.specs.call_translation.Scopes.{ScopeTree}
use Rattle.preconditions.specs.call_translation.Sites.{SiteTree}
use Rattle.preconditions.specs.call_translation.Actuals.{actual_of, form_in}
use Rattle.in_out_regions.specs.region_sets.declared.region.Region.{Region}
use Rattle.in_out_regions.specs.call_equations.declared.link.Link.{Link}
use Rattle.in_out_regions.specs.call_equations.Sides.{SidesTree, entry_cells}
use Rattle.in_out_regions.specs.array_regions.Calls.{scope_with}
use Rattle.in_out_regions.specs.call_equations.Forms.{equation}
use Rattle.in_out_regions.specs.call_equations.Cells.{named_form}
use Rattle.in_out_regions.specs.call_equations.Links.{link_of}
use Rattle.in_out_regions.specs.region_translation.Pieces.{are_own, names_of}
use Rattle.in_out_regions.specs.region_translation.declared.links.CalleeLink.{CalleeLink}
use Rattle.in_out_regions.specs.region_translation.declared.units.Units.{Units}
use Rattle.in_out_regions.specs.region_translation.Names.{turned_names, turned_normal, turned_rows}
use Rattle.in_out_regions.specs.region_translation.Units.{unit_place, meet, units_of, are_covered, size_in}
use Rattle.in_out_regions.specs.region_translation.Values.{with_cells, place_row, symbol_row, value_rows_from, value_rows, going_away}
use Rattle.in_out_regions.specs.region_translation.CalleePieces.{with_names, joined, without_caller, piece_in_callee}
use Rattle.in_out_regions.specs.region_translation.Links.{link, same_link, by_row, if_actual, dummy_link, dummy_links, is_like, common_link, in_block, common_links, all_units, block_rest, block_links, own_common, own_links, subscripts_of, callee_links}
use Rattle.in_out_regions.specs.region_translation.Callee.{by_link, to_callee}
use Rattle.loop_marker.specs.out_regions.Used.{all_out}
use Rattle.loop_marker.specs.module_phases.declared.out_site.OutSite.{OutSite}
use Rattle.loop_marker.specs.module_phases.OutPhases.{sides_at, handed_each, handed_by, handed_down, used_at, used_after}
use Rattle.base_values.specs.Naming.{Each}
use Rattle.laws_stored.proofs.Tidied.{AreAscending, ascending-append, push_fit, rename_fit}
use Rattle.laws_stored.proofs.RulesFit.{none_fit}
use Rattle.laws_stored.proofs.RegionRules.{MaybeAscends, united_such, both_such}
use Rattle.laws_stored.proofs.Links.{equation_ascends}
use Rattle.laws_stored.proofs.Outs.{AnyVariable, AnyKind, T, all_out_such}
use Rattle.f77_ast.specs.Variables.{same_variable}
use Rattle.laws_stored.proofs.Lists.{each-append}

-- ---- rows

turned_ascend : (r q : ℕ) (n : Normal) → AreAscending (turned_normal r q n)
turned_ascend r q (Kept e) = (ascends-renamed (renamed_by (turned_names r q e.terms)) e.terms, tt)
turned_ascend r q Always = tt
turned_ascend r q Never = (tt, tt)
turned_ascend r q TooBig = tt

all_turned_ascend : (r q : ℕ) (es : List Row) → AreAscending (turned_rows r q es)
all_turned_ascend r q [] = tt
all_turned_ascend r q (e ∷ es) = ascending-append (turned_normal r q (normal false e)) (turned_rows r q es) (turned_ascend r q (normal false e)) (all_turned_ascend r q es)

maybe_ascend : (o : Option Row) → MaybeAscends o → AreAscending (option_to_list o)
maybe_ascend None h = tt
maybe_ascend (Some r) h = (h, tt)

-- ---- links

abbrev IsLink : CalleeLink → Type 0
IsLink l = AreAscending l.rows

abbrev AreLinks : List CalleeLink → Type 0
AreLinks ls = Each IsLink ls

module _ (c : SidesTree) (v : Variable) where
  actual_links : (q n : ℕ) (o : Option Link) → AreLinks (if_actual v q n o)
  actual_links q n None = tt
  actual_links q n (Some l) = if_cases AreLinks (same_variable v l.variable) (link (Own n) true (turned_rows l.rank q l.rows) ∷ []) [] (λ e. (all_turned_ascend l.rank q l.rows, tt)) (λ e. tt)

  dummy_is : (q n : ℕ) (p : Place) → AreLinks (dummy_link c v q n p)
  dummy_is q n (Local g o) = tt
  dummy_is q n (Dummy d) = actual_links q n (link_of c (Own n))
  dummy_is q n (Lies b o) = tt
  dummy_is q n (Constant k) = tt

  dummies_are : (q n : ℕ) (ss : List SymbolTree) → AreLinks (dummy_links c v q n ss)
  dummies_are q n [] = tt
  dummies_are q n (s ∷ ss) = each-append IsLink (dummy_link c v q (suc n) s.place) (dummy_links c v q (suc n) ss) (dummy_is q (suc n) s.place) (dummies_are q (suc n) ss)

  row_is : (w : Variable) (o : Option Row) → MaybeAscends o → IsLink (by_row w o)
  row_is w o h = maybe_ascend o h

  common_is : (f : Option Affine) (n : ℕ) (b : List ℕ) (o : ℕ) (s : SymbolTree) → IsLink (common_link c v f n b o s)
  common_is f n b o s =
      let g = unit_place c.callee.scalars.value false o s.bounds in
      if_cases IsLink (is_like c v b o s) (same_link (Own n)) (by_row (Own n) (equation f g)) (λ e. tt) (λ e. row_is (Own n) (equation f g) (equation_ascends f g))

  block_is : (b : List ℕ) (u : Units) (f : Option Affine) (n : ℕ) (s : SymbolTree) (p : Place) → AreLinks (in_block c v b u f n s p)
  block_is b u f n s (Local g o) = tt
  block_is b u f n s (Dummy d) = tt
  block_is b u f n s (Lies x o) = if_cases AreLinks (bytes_eq x b && meet (units_of c.callee.symbols o s) u) (common_link c v f n b o s ∷ []) [] (λ e. (common_is f n b o s, tt)) (λ e. tt)
  block_is b u f n s (Constant k) = tt

  commons_are : (b : List ℕ) (u : Units) (f : Option Affine) (n : ℕ) (ss : List SymbolTree) → AreLinks (common_links c v b u f n ss)
  commons_are b u f n [] = tt
  commons_are b u f n (s ∷ ss) = each-append IsLink (in_block c v b u f (suc n) s s.place) (common_links c v b u f (suc n) ss) (block_is b u f (suc n) s s.place) (commons_are b u f (suc n) ss)

  blocks_are : (b : List ℕ) (u : Units) (f : Option Affine) (whole : CalleeLink) → IsLink whole → AreLinks (block_links c v b u f whole)
  blocks_are b u f whole h =
      each-append IsLink (common_links c v b u f 0 c.callee.symbols) (block_rest c b u whole) (commons_are b u f 0 c.callee.symbols)
      (if_cases AreLinks (are_covered u (all_units c.callee.symbols b c.callee.symbols)) [] (whole ∷ []) (λ e. tt) (λ e. (h, tt)))

  own_is : (s : SymbolTree) (p : Place) → AreLinks (own_common c v s p)
  own_is s (Local g o) = tt
  own_is s (Dummy d) = tt
  own_is s (Lies b o) =
      let f = unit_place c.caller.scalars.value true o s.bounds in
      let e = equation (Some (var_form (Phi 1))) f in
      blocks_are b (units_of c.caller.symbols o s) f (by_row (Block b) e) (row_is (Block b) e (equation_ascends (Some (var_form (Phi 1))) f))
  own_is s (Constant k) = tt

owns_are : (c : SidesTree) (m : ℕ) (o : Option SymbolTree) → AreLinks (own_links c m o)
owns_are c m None = tt
owns_are c m (Some s) = each-append IsLink (dummy_links c (Own m) (length s.bounds) 0 c.callee.symbols) (own_common c (Own m) s s.place) (dummies_are c (Own m) (length s.bounds) 0 c.callee.symbols) (own_is c (Own m) s s.place)

links_are : (size : List ℕ → ℕ) (c : SidesTree) (v : Variable) → AreLinks (callee_links size c v)
links_are size c (Own m) = owns_are c m (symbol_at c.caller.symbols m)
links_are size c (Block b) = blocks_are c (Block b) b (record { first = 0; count = size b }) (Some (var_form (Aux 1))) (same_link (Block b)) tt
links_are size c (Saved x y) = (tt, tt)

-- ---- systems

dummy_ascends : (c : SidesTree) (q n : ℕ) (p : Place) → MaybeAscends (place_row c q n p)
dummy_ascends c q n (Local g o) = tt
dummy_ascends c q n (Dummy d) = equation_ascends (Some (var_form (Cell n))) (named_form q (with_cells (form_in c.caller (actual_of c.actuals d))))
dummy_ascends c q n (Lies b o) = tt
dummy_ascends c q n (Constant v) = tt

symbol_ascends : (c : SidesTree) (q n : ℕ) (s : SymbolTree) → MaybeAscends (symbol_row c q n s)
symbol_ascends c q n s = if_cases MaybeAscends (is_int_scalar s) (place_row c q n s.place) None (λ e. dummy_ascends c q n s.place) (λ e. tt)

values_ascend : (c : SidesTree) (q n : ℕ) (ss : List SymbolTree) → AreAscending (value_rows_from c q n ss)
values_ascend c q n [] = tt
values_ascend c q n (s ∷ ss) = ascending-append (option_to_list (symbol_row c q (suc n) s)) (value_rows_from c q (suc n) ss) (maybe_ascend (symbol_row c q (suc n) s) (symbol_ascends c q (suc n) s)) (values_ascend c q (suc n) ss)

piece_fits : (c : SidesTree) (moved : Bool) (q : ℕ) (rs : List Row) → AreAscending rs → (s : System) → Fits (piece_in_callee c moved q rs s)
piece_fits c moved q rs h s =
    let named = with_names moved q s in
    let all = joined c q rs named in
    if_cases Fits (are_own moved q (row_vars s.rows)) (without_caller c all) no_rows
    (λ e. project_fits all (going_away c (row_vars all.rows)) (push_fit (push_rows named rs) (value_rows c q) (push_fit named rs (rename_fit (names_of moved q (row_vars s.rows)) s) h) (values_ascend c q 0 c.callee.symbols)))
    (λ e. none_fit)

all_pieces_fit : (c : SidesTree) (moved : Bool) (q : ℕ) (rs : List Row) → AreAscending rs → (ss : List System) → AllFit (map (piece_in_callee c moved q rs) ss)
all_pieces_fit c moved q rs h [] = tt
all_pieces_fit c moved q rs h (s ∷ ss) = (piece_fits c moved q rs h s, all_pieces_fit c moved q rs h ss)

-- ---- regions

linked_such : (c : SidesTree) (r : Region) (ls : List CalleeLink) → AreLinks ls → T (map (by_link c r) ls)
linked_such c r [] h = tt
linked_such c r (l ∷ ls) h = ((tt, tt, all_pieces_fit c l.moved (subscripts_of c r.variable) l.rows h.0 r.pieces), linked_such c r ls h.1)

to_callee_such : (size : List ℕ → ℕ) (c : SidesTree) (r : Region) → T (to_callee size c r)
to_callee_such size c r =
    let ls = callee_links size c r.variable in
    united_such AnyVariable AnyKind (map (by_link c r) ls) (linked_such c r ls (links_are size c r.variable))

each_such : (size : List ℕ → ℕ) (c : SidesTree) (rs : List Region) → T (handed_each size c rs)
each_such size c [] = tt
each_such size c (r ∷ rs) = both_such AnyVariable AnyKind (all_out (to_callee size c r)) (handed_each size c rs) (all_out_such (to_callee size c r) (to_callee_such size c r)) (each_such size c rs)

down_such : (size : List ℕ → ℕ) (callee : ScopeTree) (x : List ℕ) (cs : List (SiteTree OutSite)) → T (handed_down size callee x cs)
down_such size callee x [] = tt
down_such size callee x (s ∷ cs) = both_such AnyVariable AnyKind (handed_by size callee x s) (handed_down size callee x cs) (each_such size (sides_at callee x s) s.value.out) (down_such size callee x cs)

pub used_after_such : (g : Graph) (k : Known) (cs : List (SiteTree OutSite)) → T (used_after g k cs)
used_after_such g k cs = if_cases T k.read.main [] (used_at g k.read.name k.symbols cs) (λ e. tt) (λ e. down_such (size_in g.blocks) (scope_with k.symbols (entry_cells g.untracked k.symbols)) k.read.name cs)
