-- DATA: the units of a list by places are its units by names; and so each list gives its values in order.
use Rattle.std.proofs.Common.{◌≡◌, ℕ, zero, suc, Bool, true, false, List, [], ◌∷◌, ◌++◌, Option, Some, None, refl, sym, ap, ◌∙◌, subst}
use Rattle.std.specs.Prelude.{if◌then◌else◌, is_some, is_none, ◌||◌, slice_get}
use Rattle.std.specs.List.{list_any, AllByRecursion}
use Rattle.std.proofs.lemmas.Bool.{or_parts}
use Rattle.f77_ast.specs.Trees.{ExprTree, ExprTrees}
use Rattle.f77_ast.specs.Trees as tree
use Rattle.f77_ast.specs.DeclTrees.{DataTree, ParsedTree}
use Rattle.f77_ast.specs.Places.{Dim}
use Rattle.f77_ast.specs.Symbols.{SymbolTree}
use Rattle.f77_ast.specs.Units.{units_in}
use Rattle.f77_names.specs.Functions.{arrays_named}
use Rattle.f77_names.specs.Entries.{EntryTree, find, with_value}
use Rattle.f77_names.specs.Tables.{title_told, table_of, check_names}
use Rattle.f77_checks.specs.Dimensions.{dims_in}
use Rattle.storage_data.specs.declared.targets.Target.TheVariants.{Excluded, Open}
use Rattle.storage_data.specs.Units.{place_of, units_by, units_of_entry, units_of}
use Rattle.storage_data.specs.Items.{item_name, item_fault, item_position, element_position, position_at, numbers_of}
use Rattle.storage_data.specs.Initials.{is_excluded, is_open, covers_element, covers, is_barred, is_associated, entry_target, named_target, target_of, targets_of, unfilled}
use Rattle.storage_layout.specs.Table.{symbol_of}
use Rattle.storage_layout.specs.Symbols.{valued, filled}
use Rattle.laws_programs.specs.SymbolTables.Shapes.{symbol_named}
use Rattle.laws_programs.proofs.SymbolTables.KeptNames.{stmts_keep}
use Rattle.laws_programs.proofs.SymbolTables.Answers.{Answered, lines_in, names_in, found_in, laid_in, shared_in, filled_in, layout_in, answered_by, found_none}
use Rattle.laws_programs.specs.Storage.DataLaws.{ConstantsFit}
use Rattle.laws_programs.proofs.Storage.UnitLaws.{units_are, values_same}
use Rattle.laws_programs.specs.Layout.Layout.{Target, targets_from, whole, one_target, one_element, targets_in, targets, written_out, GivesItsValues, data_lists}
use Rattle.laws_programs.specs.Layout.Laws.{DataFillsInOrder}
use Rattle.laws_programs.proofs.Layouts.CommonLaws.{placed_symbol, shaped_names, told_in}
use Rattle.laws_programs.proofs.Layouts.SizeLaws.{entry_known}
use Rattle.laws_programs.proofs.Layouts.ItemLaws.{position_same}
use Rattle.laws_programs.proofs.Layouts.ValueKeeps.{values_keep}
use Rattle.storage_layout.proofs.GroupLaws.{shared_associated}
use Rattle.storage_layout.proofs.IsAssociatedLaws.{laid_associated}
use Rattle.laws_programs.proofs.Layouts.DealLaws.{Slot, slots_from, slots_of, slots, AllFit}
use Rattle.laws_programs.proofs.Layouts.DataNames.{InData, seen_data, changed_data, said_data, AllInData, ListsInData, lists_later, decls_marked}
use Rattle.laws_programs.proofs.Layouts.FillLaws.{GivesAll, Shut, decls_fit, decls_shut}
use Rattle.laws_programs.proofs.Layouts.StretchLaws.{Good, decls_good}
use Rattle.laws_programs.proofs.Layouts.WrittenLaws.{values_written}
use Rattle.laws_programs.proofs.Layouts.DataOrder.{Match, fill}
use Rattle.fx_lists.proofs.Options.{not_found as no_some}

kept_data : (p : ParsedTree) (y : List ℕ) → InData y (told_in p).entries → InData y (names_in p).entries
unfolding valued
kept_data p y h =
    let at = lines_in p in
    let m = p.module_read in
    values_keep (InData y) (λ x c es k. changed_data y x (with_value c) (λ e. refl) (λ e i. i) es k) at m.decls 0 (record { table = table_of at m; found = check_names at m })
    (stmts_keep (InData y) (seen_data y) (said_data y) (arrays_named m.decls) at m.body 0 (told_in p).entries h)

module _ (p : ParsedTree) (ss : List SymbolTree) (a : Answered p ss) (fit : ConstantsFit ss) where
  match_joined : (rs qs : List Slot) (ts us : List Target) → Match p ss a fit rs ts → Match p ss a fit qs us → Match p ss a fit (rs ++ qs) (ts ++ us)
  match_joined [] qs [] us h k = k
  match_joined [] qs (t ∷ ts) us h k = absurd h
  match_joined (s ∷ rs) qs [] us h k = absurd h
  match_joined (s ∷ rs) qs (t ∷ ts) us h k = (h.0, h.1, h.2, match_joined rs qs ts us h.3 k)

  match_from : (x : List ℕ) (n k m : ℕ) → place_of (names_in p) x ≡ Some n → InData x (names_in p).entries → Match p ss a fit (slots_from n k m) (targets_from x k m)
  match_from x n k zero e d = tt
  match_from x n k (suc m) e d = (e, refl, d, match_from x n (suc k) m e d)

  covers_match : (i : ExprTree) (x : List ℕ) (place : ℕ) (e : EntryTree) (ds : List Dim) → item_name i ≡ Some x → place_of (names_in p) x ≡ Some place → find x (names_in p).entries ≡ Some e → dims_in (names_in p) e ≡ Some ds → InData x (names_in p).entries → is_excluded (covers (names_in p) place i) ≡ false → Match p ss a fit (slots_of (covers (names_in p) place i)) (targets_in ss i)
  covers_match (tree.name y) x place e ds q at f known marked h =
      let t = names_in p in
      let l = layout_in p in
      let same : y ≡ x = cc in
      let named : symbol_named ss y ≡ Some (symbol_of l place e) = ap (symbol_named ss) same ∙ ap (λ z. symbol_named z x) a.table ∙ placed_symbol l x e place f at in
      let units : units_of t y ≡ units_in ss (symbol_of l place e) = ap (units_of t) same ∙ ap (units_of_entry t) f ∙ ap units_by known ∙ sym (units_are p ss a fit place e ds known) in
      subst (λ z. Match p ss a fit (slots_from place 0 (units_of t y)) (whole ss y z)) (sym named)
      (subst (λ z. Match p ss a fit (slots_from place 0 z) (targets_from y 0 (units_in ss (symbol_of l place e)))) (sym units)
      (match_from y place 0 (units_in ss (symbol_of l place e)) (ap (place_of t) same ∙ at) (subst (λ z. InData z t.entries) (sym same) marked)))
  covers_match (tree.element y es) x place e ds q at f known marked h = go (item_position (names_in p) (tree.element y es)) refl h
    where
      go : (o : Option ℕ) → item_position (names_in p) (tree.element y es) ≡ o → is_excluded (covers_element place o) ≡ false → Match p ss a fit (slots_of (covers_element place o)) (targets_in ss (tree.element y es))
      go None k h = cc
      go (Some v) k h =
          let t = names_in p in
          let l = layout_in p in
          let same : y ≡ x = cc in
          let by_name : position_at (dims_in t e) (numbers_of t es) ≡ Some v = ap (λ o. element_position t o es) (sym f) ∙ ap (λ z. element_position t (find z t.entries) es) (sym same) ∙ k in
          let by_table = position_same t ss (values_same p ss a fit) e es v by_name in
          let named : symbol_named ss y ≡ Some (symbol_of l place e) = ap (symbol_named ss) same ∙ ap (λ z. symbol_named z x) a.table ∙ placed_symbol l x e place f at in
          let is : one_element ss y (symbol_named ss y) es ≡ record { name = y; unit = v } ∷ [] = ap (λ o. one_element ss y o es) named ∙ ap (one_target y) by_table in
          subst (Match p ss a fit (slots_from place v 1)) (sym is) (ap (place_of t) same ∙ at, refl, subst (λ z. InData z t.entries) (sym same) marked, tt)
  covers_match (tree.int m) x place e ds q at f known marked h = cc
  covers_match (tree.log b) x place e ds q at f known marked h = cc
  covers_match (tree.paren y) x place e ds q at f known marked h = cc
  covers_match (tree.unary o y) x place e ds q at f known marked h = cc
  covers_match (tree.binary o y z) x place e ds q at f known marked h = cc
  covers_match (tree.chars y) x place e ds q at f known marked h = cc

  item_match : (i : ExprTree) → ((x : List ℕ) → item_name i ≡ Some x → InData x (names_in p).entries) → is_excluded (target_of (names_in p) (shared_in p).group.offset_nodes i) ≡ false → is_open (target_of (names_in p) (shared_in p).group.offset_nodes i) ≡ false → Match p ss a fit (slots_of (target_of (names_in p) (shared_in p).group.offset_nodes i)) (targets_in ss i)
  item_match i marked = by_name (item_name i) refl
    where
      known : (x : List ℕ) (place : ℕ) (e : EntryTree) → item_name i ≡ Some x → place_of (names_in p) x ≡ Some place → find x (names_in p).entries ≡ Some e → (o : Option (List Dim)) → dims_in (names_in p) e ≡ o → (b : Bool) → is_excluded (if is_none o || b then Open else covers (names_in p) place i) ≡ false → is_open (if is_none o || b then Open else covers (names_in p) place i) ≡ false → Match p ss a fit (slots_of (if is_none o || b then Open else covers (names_in p) place i)) (targets_in ss i)
      known x place e q z f None d b h k = cc
      known x place e q z f (Some ds) d true h k = cc
      known x place e q z f (Some ds) d false h k = covers_match i x place e ds q z f d (marked x q) h

      barred : (x : List ℕ) (place : ℕ) (e : EntryTree) → item_name i ≡ Some x → place_of (names_in p) x ≡ Some place → find x (names_in p).entries ≡ Some e → (b : Bool) → is_excluded (if b then Excluded else if is_none (dims_in (names_in p) e) || is_some (item_fault (names_in p) i 0) then Open else covers (names_in p) place i) ≡ false → is_open (if b then Excluded else if is_none (dims_in (names_in p) e) || is_some (item_fault (names_in p) i 0) then Open else covers (names_in p) place i) ≡ false → Match p ss a fit (slots_of (if b then Excluded else if is_none (dims_in (names_in p) e) || is_some (item_fault (names_in p) i 0) then Open else covers (names_in p) place i)) (targets_in ss i)
      barred x place e q z f true h k = cc
      barred x place e q z f false h k = known x place e q z f (dims_in (names_in p) e) refl (is_some (item_fault (names_in p) i 0)) h k

      entry : (x : List ℕ) → item_name i ≡ Some x → (o : Option ℕ) → place_of (names_in p) x ≡ o → (r : Option EntryTree) → find x (names_in p).entries ≡ r → is_excluded (entry_target (names_in p) (shared_in p).group.offset_nodes i o r) ≡ false → is_open (entry_target (names_in p) (shared_in p).group.offset_nodes i o r) ≡ false → Match p ss a fit (slots_of (entry_target (names_in p) (shared_in p).group.offset_nodes i o r)) (targets_in ss i)
      entry x q None z r f h k = cc
      entry x q (Some place) z None f h k = cc
      entry x q (Some place) z (Some e) f h k = barred x place e q z f (is_barred e (slice_get (shared_in p).group.offset_nodes place)) h k

      by_name : (o : Option (List ℕ)) → item_name i ≡ o → is_excluded (named_target (names_in p) (shared_in p).group.offset_nodes i o) ≡ false → is_open (named_target (names_in p) (shared_in p).group.offset_nodes i o) ≡ false → Match p ss a fit (slots_of (named_target (names_in p) (shared_in p).group.offset_nodes i o)) (targets_in ss i)
      by_name None q h k = cc
      by_name (Some x) q h k = entry x q (place_of (names_in p) x) refl (find x (names_in p).entries) refl h k

  targets_match : (is : List ExprTree) → AllInData is (names_in p).entries → list_any is_excluded (targets_of (names_in p) (shared_in p).group.offset_nodes is) ≡ false → list_any is_open (targets_of (names_in p) (shared_in p).group.offset_nodes is) ≡ false → Match p ss a fit (slots (targets_of (names_in p) (shared_in p).group.offset_nodes is)) (targets ss is)
  targets_match [] marked h k = tt
  targets_match (i ∷ is) marked h k =
      let t = names_in p in
      let qs = (shared_in p).group.offset_nodes in
      let x = or_parts (is_excluded (target_of t qs i)) (list_any is_excluded (targets_of t qs is)) h in
      let y = or_parts (is_open (target_of t qs i)) (list_any is_open (targets_of t qs is)) k in
      match_joined (slots_of (target_of t qs i)) (slots (targets_of t qs is)) (targets_in ss i) (targets ss is) (item_match i marked.0 x.0 y.0) (targets_match is marked.1 x.1 y.1)

  known_dims : (x : List ℕ) (e : EntryTree) (k : ℕ) → find x (names_in p).entries ≡ Some e → is_barred e (slice_get (shared_in p).group.offset_nodes k) ≡ false → (ds : List Dim) × (dims_in (names_in p) e ≡ Some ds)
  known_dims x e k f b = entry_known (names_in p) e (no_some e.dummy (or_parts (is_some e.dummy) (is_some e.common || (e.parameter || is_associated (slice_get (shared_in p).group.offset_nodes k))) b).0) (shaped_names p (found_none p ss a) x e f)

  good : Good (names_in p) (shared_in p).group.offset_nodes (shared_associated (names_in p) (lines_in p) p.module_read.decls (laid_in p).offset_nodes (found_in p) (laid_associated (names_in p) p.module_read.decls)) (filled_in p)
  unfolding filled
  good = decls_good (names_in p) (shared_in p).group.offset_nodes (shared_associated (names_in p) (lines_in p) p.module_read.decls (laid_in p).offset_nodes (found_in p) (laid_associated (names_in p) p.module_read.decls)) (lines_in p) p.module_read.decls 0 (unfilled (shared_in p).found) a.found
      (record { alone = record { once = λ s v w h k. absurd h; kept = λ s v h. absurd h }; typed = λ s v h. absurd h })

  all_given : AllByRecursion (GivesAll (names_in p) (shared_in p).group.offset_nodes known_dims (filled_in p).pieces) (data_lists p.module_read.decls)
  unfolding filled
  all_given = decls_fit (names_in p) (shared_in p).group.offset_nodes known_dims (lines_in p) p.module_read.decls 0 (unfilled (shared_in p).found) a.found

  all_shut : AllByRecursion (Shut (names_in p) (shared_in p).group.offset_nodes known_dims) (data_lists p.module_read.decls)
  unfolding filled
  all_shut = decls_shut (names_in p) (shared_in p).group.offset_nodes known_dims (lines_in p) p.module_read.decls 0 (unfilled (shared_in p).found) a.found

  all_marked : ListsInData (data_lists p.module_read.decls) (names_in p).entries
  all_marked =
      let m = p.module_read in
      lists_later (told_in p).entries (names_in p).entries (λ x h. kept_data p x h) (data_lists m.decls) (decls_marked (arrays_named m.decls) (lines_in p) m.decls 0 (title_told (lines_in p) m))

  lists_fill : (gs : List DataTree) → AllByRecursion (GivesAll (names_in p) (shared_in p).group.offset_nodes known_dims (filled_in p).pieces) gs → AllByRecursion (Shut (names_in p) (shared_in p).group.offset_nodes known_dims) gs → ListsInData gs (names_in p).entries → AllByRecursion (GivesItsValues ss) gs
  lists_fill [] h k d = tt
  lists_fill (g ∷ gs) h k d =
      let cs = targets_of (names_in p) (shared_in p).group.offset_nodes g.targets in
      (fill p ss a fit (filled_in p).pieces refl good.alone.once good.typed (slots cs) (targets ss g.targets) (written_out g.values) (targets_match g.targets d.0 k.0.0 k.0.1) (subst (AllFit (filled_in p).pieces (slots cs)) (values_written g.values) h.0), lists_fill gs h.1 k.1 d.1)

  all_fill : AllByRecursion (GivesItsValues ss) (data_lists p.module_read.decls)
  all_fill = lists_fill (data_lists p.module_read.decls) all_given all_shut all_marked

pub data_fills_in_order : DataFillsInOrder
data_fills_in_order p ss e fit = all_fill p ss (answered_by p ss e) fit
