-- DATA: in the table of a module that is not refused only targets of DATA have values at the start.
use Rattle.std.proofs.Common.{◌≡◌, ℕ, zero, suc, ◌+◌, ◌<◌, ◌≤◌, Bool, true, false, not, ℤ, List, [], ◌∷◌, ◌++◌, map, Option, Some, None, ◌⊎◌, inl, inr, refl, sym, ap, ◌∙◌, subst, arith}
use Rattle.std.specs.Prelude.{if◌then◌else◌, bytes_eq, nat_eq, is_some, is_none, ◌||◌, slice_get}
use Rattle.std.specs.List.{list_any}
use Rattle.std.proofs.lemmas.Bool.{cases_lt, eqb-true, eqb-false}
use Rattle.f77_ast.specs.Trees.{ExprTree, ExprTrees}
use Rattle.f77_ast.specs.Trees as tree
use Rattle.f77_ast.specs.DeclTrees.{DataTree, DeclTree, ParsedTree}
use Rattle.f77_ast.specs.DeclTrees as decl
use Rattle.f77_ast.specs.Places.{Dim}
use Rattle.f77_ast.specs.declared.constant.Constant.{Constant}
use Rattle.f77_ast.specs.Symbols.{SymbolTree, number_from}
use Rattle.f77_ast.specs.Units.{units_in}
use Rattle.f77_names.specs.declared.lines.Sited.TheVariants.{Decl}
use Rattle.f77_names.specs.Lines.{LineTable, line_or}
use Rattle.f77_names.specs.Entries.{EntryTree, find, place_in}
use Rattle.f77_names.specs.Tables.{NameTable}
use Rattle.f77_checks.specs.Dimensions.{dims_in}
use Rattle.storage_data.specs.declared.offset_node.OffsetNode.{OffsetNode}
use Rattle.storage_data.specs.declared.targets.Target.{Target as Asked}
use Rattle.storage_data.specs.declared.targets.Target.TheVariants.{Excluded, Open}
use Rattle.storage_data.specs.declared.values.Run.{Run}
use Rattle.storage_data.specs.declared.deals.Piece.{Piece}
use Rattle.storage_data.specs.declared.initials.Filled.{Filled}
use Rattle.storage_data.specs.Units.{place_of, units_by, units_of_entry, units_of}
use Rattle.storage_data.specs.Items.{item_name, item_fault, numbers_of, position_at, element_position, item_position}
use Rattle.storage_data.specs.Initials.{is_excluded, is_open, covers_element, covers, is_barred, entry_target, named_target, target_of, targets_of, units_in as asked_in, values_in, runs_of, dealt, unfilled, mismatch, given, targets_filled, faulted, group_filled, groups_filled, decl_filled, decls_filled}
use Rattle.storage_layout.specs.Table.{Layout, symbol_of, symbols_from}
use Rattle.storage_layout.specs.Symbols.{filled}
use Rattle.laws_programs.specs.SymbolTables.Shapes.{symbol_named}
use Rattle.laws_programs.proofs.SymbolTables.Answers.{Answered, lines_in, names_in, shared_in, filled_in, layout_in, answered_by}
use Rattle.laws_programs.specs.Storage.DataLaws.{ConstantsFit}
use Rattle.laws_programs.proofs.Storage.UnitLaws.{units_are, values_same}
use Rattle.storage_layout.specs.Statements.{Has}
use Rattle.laws_programs.specs.Layout.Layout.{data_in, data_lists, Target, targets_from, whole, one_target, one_element, targets_in, targets, value_at}
use Rattle.laws_programs.specs.Layout.Laws.{OthersBeginUndefined}
use Rattle.laws_programs.proofs.Layouts.CommonLaws.{placed_symbol}
use Rattle.laws_programs.proofs.Layouts.ItemLaws.{position_same}
use Rattle.laws_programs.proofs.Layouts.ChainLaws.{has_left, has_right}
use Rattle.laws_programs.proofs.Layouts.RunValues.{Gives, PiecesGive, initial_back, value_given}
use Rattle.laws_programs.proofs.Layouts.DealLaws.{Slot, slots_from, slots_of, slots, SomeFits}
use Rattle.laws_programs.proofs.Layouts.DealBack.{IsSlot, dealt_slots}
use Rattle.f77_ast.proofs.NumberedNames.{one_number}

-- ---- from pieces to the lists of DATA

pieces_either : (k : ℕ) (v : ℤ) (n : ℕ) (ps qs : List Piece) → PiecesGive k v n (ps ++ qs) → PiecesGive k v n ps ⊎ PiecesGive k v n qs
pieces_either k v n [] qs h = inr h
pieces_either k v n (p ∷ ps) qs (inl h) = inl (inl h)
pieces_either k v n (p ∷ ps) qs (inr h) = elim (pieces_either k v n ps qs h) [ inl a ↦ inl (inr a) | inr b ↦ inr b ]

some_fits : (k : ℕ) (v : ℤ) (n : ℕ) (ps : List Piece) → PiecesGive k v n ps → (c : Constant) × SomeFits ps (record { place = n; unit = k }) (Some c)
some_fits k v n [] h = absurd h
some_fits k v n (p ∷ ps) (inl h) = (h.0, inl (h.1, h.2, h.3, h.4))
some_fits k v n (p ∷ ps) (inr h) = let r = some_fits k v n ps h in (r.0, inr r.1)

module _ (t : NameTable) (ss : List OffsetNode) (k : ℕ) (v : ℤ) (n : ℕ) where
  -- the unit is asked for by one of these lists
  abbrev Asks : List DataTree → Type 0
  Asks gs = (g : DataTree) × Has gs g × IsSlot (slots (targets_of t ss g.targets)) n k

  asks_left : (gs hs : List DataTree) → Asks gs → Asks (gs ++ hs)
  asks_left gs hs (g, h, s) = (g, has_left gs hs g h, s)

  asks_right : (gs hs : List DataTree) → Asks hs → Asks (gs ++ hs)
  asks_right gs hs (g, h, s) = (g, has_right gs hs g h, s)

  dealt_asks : (cs : List Asked) (rs : List Run) → PiecesGive k v n (dealt cs rs) → IsSlot (slots cs) n k
  dealt_asks cs rs h = let r = some_fits k v n (dealt cs rs) h in dealt_slots cs rs (record { place = n; unit = k }) (Some r.0) r.1

  targets_ask : (cs : List Asked) (rs : List Run) (line : ℕ) (f : Filled) → PiecesGive k v n (targets_filled t ss cs rs line f).pieces → PiecesGive k v n f.pieces ⊎ IsSlot (slots cs) n k
  targets_ask cs rs line f h = go (list_any is_excluded cs) (list_any is_open cs) (not (nat_eq (asked_in cs) (values_in rs))) h
    where
      go : (a b c : Bool) → PiecesGive k v n (let r : Filled = if a then mismatch true line f else if b then f else if c then mismatch true line f else given t ss cs rs line f in r.pieces) → PiecesGive k v n f.pieces ⊎ IsSlot (slots cs) n k
      go true b c q = inl q
      go false true c q = inl q
      go false false true q = inl q
      go false false false q = elim (pieces_either k v n f.pieces (dealt cs rs) q) [ inl a ↦ inl a | inr d ↦ inr (dealt_asks cs rs d) ]

  groups_ask : (gs : List DataTree) (line : ℕ) (f : Filled) → PiecesGive k v n (groups_filled t ss gs line f).pieces → PiecesGive k v n f.pieces ⊎ Asks gs
  groups_ask [] line f h = inl h
  groups_ask (g ∷ gs) line f h = go (groups_ask gs line (group_filled t ss g line f) h)
    where
      go : PiecesGive k v n (group_filled t ss g line f).pieces ⊎ Asks gs → PiecesGive k v n f.pieces ⊎ Asks (g ∷ gs)
      go (inl a) = elim (targets_ask (targets_of t ss g.targets) (runs_of g.values) line (faulted t g.targets line f) a) [ inl b ↦ inl b | inr c ↦ inr (g, (zero, refl), c) ]
      go (inr b) = inr (asks_right (g ∷ []) gs b)

  decl_asks : (d : DeclTree) (line : ℕ) (f : Filled) → PiecesGive k v n (decl_filled t ss d line f).pieces → PiecesGive k v n f.pieces ⊎ Asks (data_in d)
  decl_asks (decl.initial gs) line f h = groups_ask gs line f h
  decl_asks (decl.implicit ps) line f h = inl h
  decl_asks (decl.integer es) line f h = inl h
  decl_asks (decl.logical es) line f h = inl h
  decl_asks (decl.dimension es) line f h = inl h
  decl_asks (decl.parameter xs) line f h = inl h
  decl_asks (decl.common cs) line f h = inl h
  decl_asks (decl.equivalence gs) line f h = inl h
  decl_asks (decl.save is) line f h = inl h

  decls_ask : (at : LineTable) (ds : List DeclTree) (m : ℕ) (f : Filled) → PiecesGive k v n (decls_filled t ss at ds m f).pieces → PiecesGive k v n f.pieces ⊎ Asks (data_lists ds)
  decls_ask at [] m f h = inl h
  decls_ask at (d ∷ ds) m f h = go (decls_ask at ds (m + 1) (decl_filled t ss d (line_or at (Decl m) 0) f) h)
    where
      go : PiecesGive k v n (decl_filled t ss d (line_or at (Decl m) 0) f).pieces ⊎ Asks (data_lists ds) → PiecesGive k v n f.pieces ⊎ Asks (data_lists (d ∷ ds))
      go (inl a) = elim (decl_asks d (line_or at (Decl m) 0) f a) [ inl b ↦ inl b | inr c ↦ inr (asks_left (data_in d) (data_lists ds) c) ]
      go (inr b) = inr (asks_right (data_in d) (data_lists ds) b)

filled_asks : (p : ParsedTree) (k : ℕ) (v : ℤ) (n : ℕ) → PiecesGive k v n (filled_in p).pieces → Asks (names_in p) (shared_in p).group.offset_nodes k v n (data_lists p.module_read.decls)
unfolding filled
filled_asks p k v n h = go (decls_ask (names_in p) (shared_in p).group.offset_nodes k v n (lines_in p) p.module_read.decls 0 (unfilled (shared_in p).found) h)
  where
    go : PiecesGive k v n [] ⊎ Asks (names_in p) (shared_in p).group.offset_nodes k v n (data_lists p.module_read.decls) → Asks (names_in p) (shared_in p).group.offset_nodes k v n (data_lists p.module_read.decls)
    go (inl a) = absurd a
    go (inr b) = b

-- ---- from places to names

-- a symbol of a name
record Found (l : Layout) (n : ℕ) (es : List EntryTree) (x : List ℕ) (s : SymbolTree) : Type 0 where
  entry : EntryTree
  place : ℕ
  number : number_from n (map (λ z. z.name) es) x ≡ Some place
  symbol : symbol_of l place entry ≡ s

symbol_back : (l : Layout) (n m : ℕ) (es : List EntryTree) (x : List ℕ) (s : SymbolTree) → m ≡ n → symbol_named (symbols_from l n es) x ≡ Some s → Found l m es x s
symbol_back l n m [] x s q h = cc
symbol_back l n m (z ∷ es) x s q h = go (bytes_eq x z.name) refl h (λ a. symbol_back l (n + 1) (suc m) es x s (omega (arith, q)) a)
  where
    go : (b : Bool) → bytes_eq x z.name ≡ b → (if b then Some (symbol_of l n z) else symbol_named (symbols_from l (n + 1) es) x) ≡ Some s → (symbol_named (symbols_from l (n + 1) es) x ≡ Some s → Found l (suc m) es x s) → Found l m (z ∷ es) x s
    go true e k ih = let same : symbol_of l n z ≡ s = cc in record { entry = z; place = m; number = ap (λ b. if b then Some m else number_from (suc m) (map (λ y. y.name) es) x) e; symbol = ap (λ i. symbol_of l i z) q ∙ same }
    go false e k ih = let r = ih k in record { entry = r.entry; place = r.place; number = ap (λ b. if b then Some m else number_from (suc m) (map (λ y. y.name) es) x) e ∙ r.number; symbol = r.symbol }

placed_back : (l : Layout) (x : List ℕ) (s : SymbolTree) → symbol_named (symbols_from l 0 l.table.entries) x ≡ Some s → (e : EntryTree) × (k : ℕ) × (place_of l.table x ≡ Some k) × (symbol_of l k e ≡ s)
unfolding place_in
placed_back l x s h = let r = symbol_back l 0 0 l.table.entries x s refl h in (r.entry, r.place, r.number, r.symbol)

has_target : (x : List ℕ) (k n u : ℕ) → k ≤ u → u < k + n → Has (targets_from x k n) (record { name = x; unit = u })
has_target x k zero u low high = absurd (omega (arith, low, high))
has_target x k (suc n) u low high = go (nat_eq k u) refl (cases_lt k u) (λ q. has_target x (suc k) n u q (omega (arith, high)))
  where
    go : (b : Bool) → nat_eq k u ≡ b → (k < u) ⊎ (u ≤ k) → (suc k ≤ u → Has (targets_from x (suc k) n) (record { name = x; unit = u })) → Has (targets_from x k (suc n)) (record { name = x; unit = u })
    go true e c ih = (zero, ap (λ z. Some (record { name = x; unit = z })) (eqb-true k u e))
    go false e (inl l) ih = let r = ih (omega (arith, l)) in (suc r.0, r.1)
    go false e (inr l) ih = let same : k ≡ u = omega (arith, l, low) in absurd (eqb-false k u e same)

within_slots : (place k n p u : ℕ) → IsSlot (slots_from place k n) p u → (place ≡ p) × (k ≤ u) × (u < k + n)
within_slots place k zero p u h = absurd h
within_slots place k (suc n) p u (inl h) = let same = h.1 in (h.0, omega (arith, same), omega (arith, same))
within_slots place k (suc n) p u (inr h) = let r = within_slots place (suc k) n p u h in let low = r.1 in let high = r.2 in (r.0, omega (arith, low), omega (arith, high))

module _ (p : ParsedTree) (ss : List SymbolTree) (a : Answered p ss) (fit : ConstantsFit ss) where
  same_place : (x y : List ℕ) (k : ℕ) → place_of (names_in p) x ≡ Some k → place_of (names_in p) y ≡ Some k → x ≡ y
  unfolding place_in
  same_place x y k e f = one_number 0 k (map (λ e. e.name) (names_in p).entries) x y e f

  -- the units of an item that may have DATA
  covers_are : (i : ExprTree) (x : List ℕ) (place n u : ℕ) (e : EntryTree) (ds : List Dim) → item_name i ≡ Some x → place_of (names_in p) x ≡ Some place → find x (names_in p).entries ≡ Some e → dims_in (names_in p) e ≡ Some ds → IsSlot (slots_of (covers (names_in p) place i)) n u → (place ≡ n) × Has (targets_in ss i) (record { name = x; unit = u })
  covers_are (tree.name y) x place n u e ds q at f known h =
      let t = names_in p in
      let l = layout_in p in
      let same : y ≡ x = cc in
      let w = within_slots place 0 (units_of t y) n u h in
      let named : symbol_named ss y ≡ Some (symbol_of l place e) = ap (symbol_named ss) same ∙ ap (λ z. symbol_named z x) a.table ∙ placed_symbol l x e place f at in
      let units : units_of t y ≡ units_in ss (symbol_of l place e) = ap (units_of t) same ∙ ap (units_of_entry t) f ∙ ap units_by known ∙ sym (units_are p ss a fit place e ds known) in
      let high : u < 0 + units_in ss (symbol_of l place e) = subst (λ z. u < 0 + z) units w.2 in
      (w.0, subst (λ z. Has (whole ss y z) (record { name = x; unit = u })) (sym named) (subst (λ z. Has (targets_from z 0 (units_in ss (symbol_of l place e))) (record { name = x; unit = u })) (sym same) (has_target x 0 (units_in ss (symbol_of l place e)) u w.1 high)))
  covers_are (tree.element y es) x place n u e ds q at f known h = go (item_position (names_in p) (tree.element y es)) refl h
    where
      go : (o : Option ℕ) → item_position (names_in p) (tree.element y es) ≡ o → IsSlot (slots_of (covers_element place o)) n u → (place ≡ n) × Has (targets_in ss (tree.element y es)) (record { name = x; unit = u })
      go None k h = absurd h
      go (Some v) k h =
          let t = names_in p in
          let l = layout_in p in
          let same : y ≡ x = cc in
          let w = within_slots place v 1 n u h in
          let low = w.1 in
          let high = w.2 in
          let unit : v ≡ u = omega (arith, low, high) in
          let by_name : position_at (dims_in t e) (numbers_of t es) ≡ Some v = ap (λ o. element_position t o es) (sym f) ∙ ap (λ z. element_position t (find z t.entries) es) (sym same) ∙ k in
          let by_table = position_same t ss (values_same p ss a fit) e es v by_name in
          let named : symbol_named ss y ≡ Some (symbol_of l place e) = ap (symbol_named ss) same ∙ ap (λ z. symbol_named z x) a.table ∙ placed_symbol l x e place f at in
          let is : one_element ss y (symbol_named ss y) es ≡ record { name = x; unit = u } ∷ [] = ap (λ o. one_element ss y o es) named ∙ ap (one_target y) by_table ∙ ap (λ z. record { name = z; unit = v } ∷ []) same ∙ ap (λ z. record { name = x; unit = z } ∷ []) unit in
          (w.0, subst (λ z. Has z (record { name = x; unit = u })) (sym is) (zero, refl))
  covers_are (tree.int m) x place n u e ds q at f known h = cc
  covers_are (tree.log b) x place n u e ds q at f known h = cc
  covers_are (tree.paren y) x place n u e ds q at f known h = cc
  covers_are (tree.unary o y) x place n u e ds q at f known h = cc
  covers_are (tree.binary o y z) x place n u e ds q at f known h = cc
  covers_are (tree.chars y) x place n u e ds q at f known h = cc

  target_is : (i : ExprTree) (n u : ℕ) (y : List ℕ) → place_of (names_in p) y ≡ Some n → IsSlot (slots_of (target_of (names_in p) (shared_in p).group.offset_nodes i)) n u → Has (targets_in ss i) (record { name = y; unit = u })
  target_is i n u y at h = by_name (item_name i) refl h
    where
      known : (x : List ℕ) (place : ℕ) (e : EntryTree) → item_name i ≡ Some x → place_of (names_in p) x ≡ Some place → find x (names_in p).entries ≡ Some e → (o : Option (List Dim)) → dims_in (names_in p) e ≡ o → (b : Bool) → IsSlot (slots_of (if is_none o || b then Open else covers (names_in p) place i)) n u → Has (targets_in ss i) (record { name = y; unit = u })
      known x place e q z f None d b h = absurd h
      known x place e q z f (Some ds) d true h = absurd h
      known x place e q z f (Some ds) d false h =
          let r = covers_are i x place n u e ds q z f d h in
          let same : x ≡ y = same_place x y n (z ∙ ap Some r.0) at in
          subst (λ w. Has (targets_in ss i) (record { name = w; unit = u })) same r.1

      barred : (x : List ℕ) (place : ℕ) (e : EntryTree) → item_name i ≡ Some x → place_of (names_in p) x ≡ Some place → find x (names_in p).entries ≡ Some e → (b : Bool) → IsSlot (slots_of (if b then Excluded else if is_none (dims_in (names_in p) e) || is_some (item_fault (names_in p) i 0) then Open else covers (names_in p) place i)) n u → Has (targets_in ss i) (record { name = y; unit = u })
      barred x place e q z f true h = absurd h
      barred x place e q z f false h = known x place e q z f (dims_in (names_in p) e) refl (is_some (item_fault (names_in p) i 0)) h

      entry : (x : List ℕ) → item_name i ≡ Some x → (o : Option ℕ) → place_of (names_in p) x ≡ o → (r : Option EntryTree) → find x (names_in p).entries ≡ r → IsSlot (slots_of (entry_target (names_in p) (shared_in p).group.offset_nodes i o r)) n u → Has (targets_in ss i) (record { name = y; unit = u })
      entry x q None z r f h = absurd h
      entry x q (Some place) z None f h = absurd h
      entry x q (Some place) z (Some e) f h = barred x place e q z f (is_barred e (slice_get (shared_in p).group.offset_nodes place)) h

      by_name : (o : Option (List ℕ)) → item_name i ≡ o → IsSlot (slots_of (named_target (names_in p) (shared_in p).group.offset_nodes i o)) n u → Has (targets_in ss i) (record { name = y; unit = u })
      by_name None q h = absurd h
      by_name (Some x) q h = entry x q (place_of (names_in p) x) refl (find x (names_in p).entries) refl h

  slot_either : (xs ys : List Slot) (n u : ℕ) → IsSlot (xs ++ ys) n u → IsSlot xs n u ⊎ IsSlot ys n u
  slot_either [] ys n u h = inr h
  slot_either (x ∷ xs) ys n u (inl h) = inl (inl h)
  slot_either (x ∷ xs) ys n u (inr h) = elim (slot_either xs ys n u h) [ inl a ↦ inl (inr a) | inr b ↦ inr b ]

  targets_are : (is : List ExprTree) (n u : ℕ) (y : List ℕ) → place_of (names_in p) y ≡ Some n → IsSlot (slots (targets_of (names_in p) (shared_in p).group.offset_nodes is)) n u → Has (targets ss is) (record { name = y; unit = u })
  targets_are [] n u y at h = absurd h
  targets_are (i ∷ is) n u y at h = go (slot_either (slots_of (target_of (names_in p) (shared_in p).group.offset_nodes i)) (slots (targets_of (names_in p) (shared_in p).group.offset_nodes is)) n u h) (λ q. targets_are is n u y at q)
    where
      go : IsSlot (slots_of (target_of (names_in p) (shared_in p).group.offset_nodes i)) n u ⊎ IsSlot (slots (targets_of (names_in p) (shared_in p).group.offset_nodes is)) n u → (IsSlot (slots (targets_of (names_in p) (shared_in p).group.offset_nodes is)) n u → Has (targets ss is) (record { name = y; unit = u })) → Has (targets ss (i ∷ is)) (record { name = y; unit = u })
      go (inl b) ih = has_left (targets_in ss i) (targets ss is) (record { name = y; unit = u }) (target_is i n u y at b)
      go (inr c) ih = has_right (targets_in ss i) (targets ss is) (record { name = y; unit = u }) (ih c)

  others_undefined : (t : Target) (v : ℤ) → value_at (symbol_named ss t.name) t.unit ≡ Some v → (g : DataTree) × Has (data_lists p.module_read.decls) g × Has (targets ss g.targets) t
  others_undefined t v h = go (symbol_named ss t.name) refl h
    where
      go : (o : Option SymbolTree) → symbol_named ss t.name ≡ o → value_at o t.unit ≡ Some v → (g : DataTree) × Has (data_lists p.module_read.decls) g × Has (targets ss g.targets) t
      go None q k = cc
      go (Some s) q k =
          let l = layout_in p in
          let r = placed_back l t.name s (ap (λ z. symbol_named z t.name) (sym a.table) ∙ q) in
          let gives = value_given s.initial t.unit v k in
          let pieces = initial_back t.unit v r.0.initial r.1 (filled_in p).pieces (subst (λ (z : SymbolTree). Gives z.initial t.unit v) (sym r.3) gives) in
          let asks = filled_asks p t.unit v r.1 pieces in
          (asks.0, asks.1, targets_are asks.0.targets r.1 t.unit t.name r.2 asks.2)

pub others_begin_undefined : OthersBeginUndefined
others_begin_undefined p ss e fit t v h = others_undefined p ss (answered_by p ss e) fit t v h
