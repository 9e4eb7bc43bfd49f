-- The pieces of DATA: each lies in a variable that may have DATA, and ends within it.
use Rattle.std.proofs.Common.{◌≡◌, ℕ, zero, suc, ◌+◌, ◌-◌, ◌<◌, ◌≤◌, Bool, true, false, not, ℤ, List, [], ◌∷◌, ◌++◌, map, Option, Some, None, refl, sym, ap, ◌∙◌, subst, arith}
use Rattle.std.specs.Prelude.{if◌then◌else◌, bytes_eq, nat_eq, nat_le, ◌||◌, is_none, is_some, slice_get}
use Rattle.std.specs.List.{list_any}
use Rattle.std.proofs.lemmas.Bool.{eqb-false, leb-true, leb-false, or_parts}
use Rattle.f77_ast.specs.Trees.{ExprTree, ExprTrees}
use Rattle.f77_ast.specs.Trees as tree
use Rattle.f77_ast.specs.DeclTrees.{DataValueTree, DataTree, DeclTree, ParsedTree}
use Rattle.f77_ast.specs.DeclTrees as decl
use Rattle.f77_ast.specs.Places.{Dim, total_size, position}
use Rattle.f77_ast.specs.declared.constant.Constant.TheVariants.{Int, Log}
use Rattle.f77_ast.specs.declared.constant.ConstantValue.{ConstantValue}
use Rattle.f77_ast.specs.declared.constant.ConstantValue.TheVariants.{Is, Faults, Varies}
use Rattle.f77_ast.specs.Symbols.{BoundTree, number_from}
use Rattle.f77_ast.proofs.NumbersLaws.{number_from-append}
use Rattle.f77_names.specs.declared.lines.Sited.TheVariants.{Decl}
use Rattle.f77_names.specs.Lines.{LineTable, line_or}
use Rattle.f77_names.specs.Entries.{ShapeTree, EntryTree, find, place_in}
use Rattle.f77_names.specs.Tables.{NameTable}
use Rattle.f77_checks.specs.Dimensions.{const_value_in, dim_to, dim_from, dim_up_to, dim_of, with_dim, dims_of, is_bad_shape, entry_dims, dims_in}
use Rattle.storage_data.specs.declared.offset_node.OffsetNode.{OffsetNode}
use Rattle.storage_data.specs.declared.targets.Target.{Target}
use Rattle.storage_data.specs.declared.targets.Target.TheVariants.{Excluded, Open, Covers}
use Rattle.storage_data.specs.declared.values.Run.{Run}
use Rattle.storage_data.specs.declared.deals.Piece.{Piece}
use Rattle.storage_data.specs.declared.initials.Filled.{Filled}
use Rattle.storage_data.specs.Units.{place_of, units_by, units_of_entry, units_of}
use Rattle.storage_data.specs.Items.{item_name, item_fault, numbers_of, position_at, element_position, item_position}
use Rattle.storage_data.specs.Initials.{is_excluded, is_open, covers_element, covers, is_barred, entry_target, named_target, target_of, targets_of, units_in, values_in, run_of, with_run, runs_of, Dealt, with_piece, piece_of, taken, taken_for, dealt, stretches_of, unfilled, mismatch, given, targets_filled, faulted, group_filled, groups_filled, decl_filled, decls_filled}
use Rattle.storage_layout.specs.Symbols.{filled}
use Rattle.laws_programs.proofs.SymbolTables.Answers.{lines_in, names_in, shared_in, filled_in}
use Rattle.laws_programs.proofs.Storage.RunLaws.{Within}
use Rattle.laws_programs.proofs.Storage.PositionLaws.{Closed, position_below}
use Rattle.f77_ast.proofs.NumberedNames.{number_from-least}
use Rattle.fx_lists.proofs.Every.{Every, every_joined}

-- ---- entries

entry_at : (n k : ℕ) (es : List EntryTree) (x : List ℕ) (e : EntryTree) → number_from n (map (λ z. z.name) es) x ≡ Some k → find x es ≡ Some e → slice_get es (k - n) ≡ Some e
unfolding find
entry_at n k [] x e h f = cc
entry_at n k (z ∷ es) x e h f = go (bytes_eq x z.name) h f (entry_at (suc n) k es x e)
  where
    go : (b : Bool) → (if b then Some n else number_from (suc n) (map (λ y. y.name) es) x) ≡ Some k → (if b then Some z else find x es) ≡ Some e → (number_from (suc n) (map (λ y. y.name) es) x ≡ Some k → find x es ≡ Some e → slice_get es (k - suc n) ≡ Some e) → slice_get (z ∷ es) (k - n) ≡ Some e
    go true h f ih = let same : n ≡ k = cc in let none : k - n ≡ zero = omega (arith, same) in ap (slice_get (z ∷ es)) none ∙ f
    go false h f ih = let low = number_from-least (suc n) k (map (λ y. y.name) es) x h in let less : k - n ≡ suc (k - suc n) = omega (arith, low) in ap (slice_get (z ∷ es)) less ∙ ih h f

pub entry_placed : (es : List EntryTree) (x : List ℕ) (k : ℕ) (e : EntryTree) → place_in es x ≡ Some k → find x es ≡ Some e → slice_get es k ≡ Some e
unfolding place_in
entry_placed es x k e h f = let none : k - 0 ≡ k = omega arith in ap (slice_get es) (sym none) ∙ entry_at 0 k es x e h f

-- ---- dimensions

closed_to : (low : ℤ) (w : ConstantValue) (d : Dim) → dim_to low w ≡ Some d → (h : ℤ) × (d.high ≡ Some h)
closed_to low (Is (Int high)) d e = let same : record { low = low; high = Some high } ≡ d = cc in (high, ap (λ z. z.high) (sym same))
closed_to low (Is (Log b)) d e = cc
closed_to low Faults d e = cc
closed_to low Varies d e = cc

closed_from : (w v : ConstantValue) (d : Dim) → dim_from w v ≡ Some d → (h : ℤ) × (d.high ≡ Some h)
closed_from (Is (Int low)) v d e = closed_to low v d e
closed_from (Is (Log b)) v d e = cc
closed_from Faults v d e = cc
closed_from Varies v d e = cc

closed_dim : (t : NameTable) (w : ConstantValue) (o : Option ExprTree) (d : Dim) → dim_up_to t w o ≡ Some d → (h : ℤ) × (d.high ≡ Some h)
closed_dim t w None d e = cc
closed_dim t w (Some high) d e = closed_from w (const_value_in t high) d e

closed_with : (o : Option Dim) (p : Option (List Dim)) (ds : List Dim) → ((d : Dim) → o ≡ Some d → (h : ℤ) × (d.high ≡ Some h)) → ((es : List Dim) → p ≡ Some es → Closed es) → with_dim o p ≡ Some ds → Closed ds
closed_with None p ds f g e = cc
closed_with (Some d) None ds f g e = cc
closed_with (Some d) (Some es) ds f g e = let same : d ∷ es ≡ ds = cc in subst Closed same (f d refl, g es refl)

closed_all : (t : NameTable) (bs : List BoundTree) (ds : List Dim) → dims_of t bs ≡ Some ds → Closed ds
closed_all t [] ds e = let same : [] ≡ ds = cc in subst Closed same tt
closed_all t (b ∷ bs) ds e = closed_with (dim_of t b) (dims_of t bs) ds (λ d h. closed_dim t (const_value_in t b.low) b.high d h) (λ es h. closed_all t bs es h) e

pub closed_entry : (t : NameTable) (dummy : Bool) (s : Option ShapeTree) (ds : List Dim) → entry_dims t dummy s ≡ Some ds → Closed ds
closed_entry t dummy None ds e = let same : [] ≡ ds = cc in subst Closed same tt
closed_entry t dummy (Some s) ds e = go (is_bad_shape t dummy s.bounds) e
  where
    go : (b : Bool) → (if b then None else dims_of t s.bounds) ≡ Some ds → Closed ds
    go true h = cc
    go false h = closed_all t s.bounds ds h

-- ---- targets

-- units of a name that may have DATA
pub record Covered (t : NameTable) (ss : List OffsetNode) (place offset count : ℕ) : Type 0 where
  pub name : List ℕ
  pub entry : EntryTree
  pub is_named : find name t.entries ≡ Some entry
  pub is_entry : slice_get t.entries place ≡ Some entry
  pub free : is_barred entry (slice_get ss place) ≡ false
  pub dims : List Dim
  pub known : dims_in t entry ≡ Some dims
  pub within : offset + count ≤ total_size dims

abbrev TargetFits : NameTable → List OffsetNode → Target → Type 0
TargetFits t ss Excluded = Unit {0}
TargetFits t ss Open = Unit {0}
TargetFits t ss (Covers place offset count) = Covered t ss place offset count

module _ (t : NameTable) (ss : List OffsetNode) where
  element_fits : (place : ℕ) (x : List ℕ) (e : EntryTree) (ds : List Dim) (ns : Option (List ℤ)) (o : Option ℕ) → find x t.entries ≡ Some e → slice_get t.entries place ≡ Some e → is_barred e (slice_get ss place) ≡ false → dims_in t e ≡ Some ds → position_at (Some ds) ns ≡ o → TargetFits t ss (covers_element place o)
  element_fits place x e ds ns None w i f k q = tt
  element_fits place x e ds None (Some n) w i f k q = cc
  element_fits place x e ds (Some ns) (Some n) w i f k q =
      let below = position_below ds ns n (closed_entry t (is_some e.dummy) e.shape ds k) q in
      record { name = x; entry = e; is_named = w; is_entry = i; free = f; dims = ds; known = k; within = omega (arith, below) }

  covers_fit : (place : ℕ) (x : List ℕ) (e : EntryTree) (ds : List Dim) (i : ExprTree) → item_name i ≡ Some x → find x t.entries ≡ Some e → slice_get t.entries place ≡ Some e → is_barred e (slice_get ss place) ≡ false → dims_in t e ≡ Some ds → TargetFits t ss (covers t place i)
  covers_fit place x e ds (tree.name y) n q s f k =
      let same : y ≡ x = cc in
      let units : units_of t y ≡ total_size ds = ap (units_of t) same ∙ ap (units_of_entry t) q ∙ ap units_by k in
      subst (λ u. TargetFits t ss (Covers place 0 u)) (sym units) (record { name = x; entry = e; is_named = q; is_entry = s; free = f; dims = ds; known = k; within = omega arith })
  covers_fit place x e ds (tree.element y es) n q s f k =
      let same : y ≡ x = cc in
      let at : item_position t (tree.element y es) ≡ position_at (Some ds) (numbers_of t es) = ap (λ z. element_position t (find z t.entries) es) same ∙ ap (λ o. element_position t o es) q ∙ ap (λ o. position_at o (numbers_of t es)) k in
      element_fits place x e ds (numbers_of t es) (item_position t (tree.element y es)) q s f k (sym at)
  covers_fit place x e ds (tree.int m) n q s f k = tt
  covers_fit place x e ds (tree.log b) n q s f k = tt
  covers_fit place x e ds (tree.paren y) n q s f k = tt
  covers_fit place x e ds (tree.unary o y) n q s f k = tt
  covers_fit place x e ds (tree.binary o a b) n q s f k = tt
  covers_fit place x e ds (tree.chars y) n q s f k = tt

  entry_fits : (i : ExprTree) (x : List ℕ) (o : Option ℕ) (r : Option EntryTree) → item_name i ≡ Some x → place_of t x ≡ o → find x t.entries ≡ r → TargetFits t ss (entry_target t ss i o r)
  entry_fits i x None r n p q = tt
  entry_fits i x (Some place) None n p q = tt
  entry_fits i x (Some place) (Some e) n p q = barred (is_barred e (slice_get ss place)) refl
    where
      known : is_barred e (slice_get ss place) ≡ false → (o : Option (List Dim)) → dims_in t e ≡ o → (b : Bool) → TargetFits t ss (if is_none o || b then Open else covers t place i)
      known f None k b = tt
      known f (Some ds) k true = tt
      known f (Some ds) k false = covers_fit place x e ds i n q (entry_placed t.entries x place e p q) f k

      barred : (b : Bool) → is_barred e (slice_get ss place) ≡ b → TargetFits t ss (if b then Excluded else if is_none (dims_in t e) || is_some (item_fault t i 0) then Open else covers t place i)
      barred true f = tt
      barred false f = known f (dims_in t e) refl (is_some (item_fault t i 0))

  target_fits : (i : ExprTree) → TargetFits t ss (target_of t ss i)
  target_fits i = go (item_name i) refl
    where
      go : (o : Option (List ℕ)) → item_name i ≡ o → TargetFits t ss (named_target t ss i o)
      go None n = tt
      go (Some x) n = entry_fits i x (place_of t x) (find x t.entries) n refl refl

  targets_fit : (is : List ExprTree) → Every (TargetFits t ss) (targets_of t ss is)
  targets_fit [] = tt
  targets_fit (i ∷ is) = (target_fits i, targets_fit is)

-- ---- values

abbrev Some_of : Run → Type 0
Some_of r = 0 < r.count

runs_some : (vs : List DataValueTree) → Every Some_of (runs_of vs)
runs_some [] = tt
runs_some (v ∷ vs) = go (nat_eq (run_of v).count 0) refl (runs_some vs)
  where
    go : (b : Bool) → nat_eq (run_of v).count 0 ≡ b → Every Some_of (runs_of vs) → Every Some_of (if b then runs_of vs else run_of v ∷ runs_of vs)
    go true e h = h
    go false e h = (above (run_of v).count e, h)
      where
        above : (n : ℕ) → nat_eq n 0 ≡ false → 0 < n
        above zero q = cc
        above (suc n) q = omega arith

-- a piece of these units of a name
pub record InUnits (place from end : ℕ) (p : Piece) : Type 0 where
  pub there : p.place ≡ place
  pub from_there : from ≤ p.offset
  pub fits : Within end p.offset p.count

record Taking (place from end : ℕ) (d : Dealt) : Type 0 where
  pieces : Every (InUnits place from end) d.pieces
  rest : Every Some_of d.rest

lower : (place from more end : ℕ) (ps : List Piece) → from ≤ more → Every (InUnits place more end) ps → Every (InUnits place from end) ps
lower place from more end [] l h = tt
lower place from more end (p ∷ ps) l h = let low = h.0.from_there in (record { there = h.0.there; from_there = omega (arith, l, low); fits = h.0.fits }, lower place from more end ps l h.1)

taken_fits : (rs : List Run) (place offset n end : ℕ) → offset + n ≤ end → Every Some_of rs → Taking place offset end (taken place offset n rs)
taken_fits [] place offset n end l h = record { pieces = tt; rest = tt }
taken_fits (r ∷ rs) place offset n end l h = one (nat_eq n 0) refl (nat_le r.count n) refl (λ k. taken_fits rs place (offset + r.count) (n - r.count) end k h.1)
  where
    above : (m : ℕ) → nat_eq m 0 ≡ false → 0 < m
    above zero q = cc
    above (suc m) q = omega arith

    some : 0 < r.count
    some = h.0

    one : (b : Bool) → nat_eq n 0 ≡ b → (c : Bool) → nat_le r.count n ≡ c → ((offset + r.count) + (n - r.count) ≤ end → Taking place (offset + r.count) end (taken place (offset + r.count) (n - r.count) rs)) →
        Taking place offset end (if b then record { pieces = []; rest = r ∷ rs } else if c then with_piece (piece_of place offset r.count r) (taken place (offset + r.count) (n - r.count) rs) else record { pieces = piece_of place offset n r ∷ []; rest = record { count = r.count - n; value = r.value } ∷ rs })
    one true e c q ih = record { pieces = tt; rest = h }
    one false e true q ih =
        let less = leb-true r.count n q in
        let rest = ih (omega (arith, less, l)) in
        record { pieces = (record { there = refl; from_there = omega arith; fits = record { some = h.0; within = omega (arith, less, l) } }, lower place offset (offset + r.count) end (taken place (offset + r.count) (n - r.count) rs).pieces (omega arith) rest.pieces); rest = rest.rest }
    one false e false q ih =
        let more = leb-false r.count n q in
        record { pieces = (record { there = refl; from_there = omega arith; fits = record { some = above n e; within = l } }, tt); rest = (omega (arith, more), h.1) }

-- a piece of a name that may have DATA
pub record PieceOf (t : NameTable) (ss : List OffsetNode) (p : Piece) : Type 0 where
  pub name : List ℕ
  pub entry : EntryTree
  pub is_named : find name t.entries ≡ Some entry
  pub is_entry : slice_get t.entries p.place ≡ Some entry
  pub free : is_barred entry (slice_get ss p.place) ≡ false
  pub dims : List Dim
  pub known : dims_in t entry ≡ Some dims
  pub fits : Within (total_size dims) p.offset p.count

module _ (t : NameTable) (ss : List OffsetNode) where
  covered : (place offset count : ℕ) (c : Covered t ss place offset count) (ps : List Piece) → Every (InUnits place offset (total_size c.dims)) ps → Every (PieceOf t ss) ps
  covered place offset count c [] h = tt
  covered place offset count c (p ∷ ps) h =
      let at = sym h.0.there in
      (record { name = c.name; entry = c.entry; is_named = c.is_named; is_entry = ap (slice_get t.entries) h.0.there ∙ c.is_entry; free = ap (λ z. is_barred c.entry (slice_get ss z)) h.0.there ∙ c.free; dims = c.dims; known = c.known; fits = h.0.fits }, covered place offset count c ps h.1)

  record Given (d : Dealt) : Type 0 where
    pieces : Every (PieceOf t ss) d.pieces
    rest : Every Some_of d.rest

  for_target : (c : Target) (rs : List Run) → TargetFits t ss c → Every Some_of rs → Given (taken_for c rs)
  for_target Excluded rs f h = record { pieces = tt; rest = h }
  for_target Open rs f h = record { pieces = tt; rest = h }
  for_target (Covers place offset n) rs f h =
      let r = taken_fits rs place offset n (total_size f.dims) f.within h in
      record { pieces = covered place offset n f (taken place offset n rs).pieces r.pieces; rest = r.rest }

  dealt_fits : (cs : List Target) (rs : List Run) → Every (TargetFits t ss) cs → Every Some_of rs → Every (PieceOf t ss) (dealt cs rs)
  dealt_fits [] rs f h = tt
  dealt_fits (c ∷ cs) rs f h =
      let r = for_target c rs f.0 h in
      every_joined (PieceOf t ss) (taken_for c rs).pieces (dealt cs (taken_for c rs).rest) r.pieces (dealt_fits cs (taken_for c rs).rest f.1 r.rest)

  -- ---- statements

  targets_filled_fit : (cs : List Target) (rs : List Run) (line : ℕ) (f : Filled) → Every (TargetFits t ss) cs → Every Some_of rs → Every (PieceOf t ss) f.pieces → Every (PieceOf t ss) (targets_filled t ss cs rs line f).pieces
  targets_filled_fit cs rs line f c h p = one (list_any is_excluded cs) (list_any is_open cs) (not (nat_eq (units_in cs) (values_in rs)))
    where
      one : (a b d : Bool) → Every (PieceOf t ss) (let r : Filled = if a then mismatch true line f else if b then f else if d then mismatch true line f else given t ss cs rs line f in r.pieces)
      one true b d = p
      one false true d = p
      one false false true = p
      one false false false = every_joined (PieceOf t ss) f.pieces (dealt cs rs) p (dealt_fits cs rs c h)

  groups_fit : (gs : List DataTree) (line : ℕ) (f : Filled) → Every (PieceOf t ss) f.pieces → Every (PieceOf t ss) (groups_filled t ss gs line f).pieces
  groups_fit [] line f p = p
  groups_fit (g ∷ gs) line f p = groups_fit gs line (group_filled t ss g line f) (targets_filled_fit (targets_of t ss g.targets) (runs_of g.values) line (faulted t g.targets line f) (targets_fit t ss g.targets) (runs_some g.values) p)

  decl_fits : (d : DeclTree) (line : ℕ) (f : Filled) → Every (PieceOf t ss) f.pieces → Every (PieceOf t ss) (decl_filled t ss d line f).pieces
  decl_fits (decl.initial gs) line f p = groups_fit gs line f p
  decl_fits (decl.implicit ps) line f p = p
  decl_fits (decl.integer es) line f p = p
  decl_fits (decl.logical es) line f p = p
  decl_fits (decl.dimension es) line f p = p
  decl_fits (decl.parameter xs) line f p = p
  decl_fits (decl.common cs) line f p = p
  decl_fits (decl.equivalence gs) line f p = p
  decl_fits (decl.save is) line f p = p

  decls_fit : (at : LineTable) (ds : List DeclTree) (n : ℕ) (f : Filled) → Every (PieceOf t ss) f.pieces → Every (PieceOf t ss) (decls_filled t ss at ds n f).pieces
  decls_fit at [] n f p = p
  decls_fit at (d ∷ ds) n f p = decls_fit at ds (n + 1) (decl_filled t ss d (line_or at (Decl n) 0) f) (decl_fits d (line_or at (Decl n) 0) f p)

pub pieces_fit : (p : ParsedTree) → Every (PieceOf (names_in p) (shared_in p).group.offset_nodes) (filled_in p).pieces
unfolding filled
pieces_fit p = decls_fit (names_in p) (shared_in p).group.offset_nodes (lines_in p) p.module_read.decls 0 (unfilled (shared_in p).found) tt
