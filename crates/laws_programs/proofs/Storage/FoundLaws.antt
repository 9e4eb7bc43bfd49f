-- The tracked cells that are found at units of blocks.
use Rattle.std.proofs.Common.{◌≡◌, ℕ, zero, suc, ◌-◌, ◌<◌, ◌≤◌, Bool, true, false, List, [], ◌∷◌, map, Option, Some, None, ◌⊎◌, inl, inr, refl, sym, ap, ◌∙◌, subst, arith}
use Rattle.std.specs.Prelude.{if◌then◌else◌, bytes_eq, nat_eq, ◌&&◌, slice_get}
use Rattle.std.specs.List.{list_any}
use Rattle.std.proofs.lemmas.Bool.{and_parts, and_from, eqb-true, eq-eqb, le-leb, lt-ltb, cases_eq}
use Rattle.std.proofs.lemmas.Slice.Eq.{bytes_eq-Decides}
use Rattle.f77_ast.specs.DeclTrees.{ParsedTree}
use Rattle.f77_ast.specs.Store as tag
use Rattle.f77_ast.specs.Store.{content}
use Rattle.f77_ast.specs.Places.{scalar_place}
use Rattle.f77_ast.specs.Calls.{in_place}
use Rattle.f77_ast.specs.declared.symbol.Place.{Place}
use Rattle.f77_ast.specs.declared.symbol.Place.TheVariants as place
use Rattle.f77_ast.specs.declared.symbol.InitialRun.{InitialRun}
use Rattle.f77_ast.specs.Symbols.{SymbolTree}
use Rattle.f77_ast.specs.Units.{units_in}
use Rattle.f77_ast.specs.Shared.{symbol_at}
use Rattle.tracked_cells.specs.Equivalences.{equivalenced_names}
use Rattle.tracked_cells.specs.Standing.{place_has, stands_at}
use Rattle.tracked_cells.specs.Untracked.{untracked_of}
use Rattle.tracked_cells.specs.Tracked.{is_tracked}
use Rattle.call_graph.specs.declared.graph.Graph.{Graph}
use Rattle.f77_meaning.specs.Areas.{block, group, unit_at}
use Rattle.f77_meaning.specs.Modules.{known_of, fixed}
use Rattle.f77_meaning.specs.Linked.{offset_in, initial}
use Rattle.f77_meaning.specs.Laws.{area_of}
use Rattle.f77_meaning.proofs.LinkLaws.{any_found}
use Rattle.f77_meaning.proofs.CommonCellLaws.{common_cells_are_cells, stands_there}
use Rattle.affine_forms.specs.Scalars.{is_cell}
use Rattle.call_translation.specs.Scopes.{ScopeTree}
use Rattle.call_translation.specs.Common.{is_unit, tracked_from, tracked_at, declares}
use Rattle.laws_programs.specs.Storage.Programs.{IsLinked, IsModule, IsCell, known}
use Rattle.laws_programs.specs.Storage.CellLaws.{units}
use Rattle.laws_programs.specs.Storage.Initial.{DataLies}
use Rattle.laws_programs.proofs.Storage.ModuleLaws.{untracked_are}
use Rattle.laws_programs.proofs.Storage.CellLaws.{cells_are_scalars, cells_have_places, cells_stand_alone}
use Rattle.laws_programs.proofs.Storage.BeginLaws.{cells_begin_with_data, own_unit}
use Rattle.laws_programs.specs.Storage.ScopeLaws.{IsScopeOf, FoundIsCell, CellsAreFound, CommonScalarsAreTrackedTogether, DataInitialisesScalars}
use Rattle.laws_programs.proofs.Storage.FlagLaws.{flag, flags_tell_cells}
use Rattle.f77_ast.proofs.StorageLaws.{from_number as numbered_place, to_number as next_symbol}

-- ---- units of blocks

is_there : (b : List ℕ) (o : ℕ) (q : Place) → is_unit b o q ≡ true → q ≡ place.Block b o
is_there b o (place.Local h k) e = cc
is_there b o (place.Dummy d) e = cc
is_there b o (place.Block c k) e =
    let r = and_parts (bytes_eq b c) (nat_eq o k) e in
    ap (λ x. place.Block x k) (sym ((bytes_eq-Decides b c).0 r.0)) ∙ ap (place.Block b) (sym (eqb-true o k r.1))
is_there b o (place.Constant v) e = cc

there_is : (b : List ℕ) (o : ℕ) (q : Place) → q ≡ place.Block b o → is_unit b o q ≡ true
there_is b o q e = ap (is_unit b o) e ∙ and_from (bytes_eq b b) (nat_eq o o) ((bytes_eq-Decides b b).1 refl) (eq-eqb o o refl)

-- ---- the first that is found

record Found (f : SymbolTree → Bool) (n : ℕ) (ss : List SymbolTree) (b : List ℕ) (o k : ℕ) : Type 0 where
  symbol : SymbolTree
  least : n ≤ k
  is_symbol : slice_get ss (k - n) ≡ Some symbol
  tracked : f symbol ≡ true
  there : is_unit b o symbol.place ≡ true

found : (f : SymbolTree → Bool) (n : ℕ) (ss : List SymbolTree) (b : List ℕ) (o k : ℕ) → tracked_from n ss (map f ss) b o ≡ Some k → Found f n ss b o k
found f n [] b o k e = cc
found f n (s ∷ ss) b o k e = go (f s && is_unit b o s.place) refl e (found f (suc n) ss b o k)
  where
    go : (c : Bool) → (f s && is_unit b o s.place) ≡ c → (if c then Some n else tracked_from (suc n) ss (map f ss) b o) ≡ Some k → (tracked_from (suc n) ss (map f ss) b o ≡ Some k → Found f (suc n) ss b o k) → Found f n (s ∷ ss) b o k
    go true t h ih =
        let same : n ≡ k = cc in
        let none : k - n ≡ zero = omega (arith, same) in
        let r = and_parts (f s) (is_unit b o s.place) t in
        record { symbol = s; least = omega (arith, same); is_symbol = ap (slice_get (s ∷ ss)) none; tracked = r.0; there = r.1 }
    go false t h ih =
        let r = ih h in
        let low = r.least in
        let less : k - n ≡ suc (k - suc n) = omega (arith, low) in
        record { symbol = r.symbol; least = omega (arith, low); is_symbol = ap (slice_get (s ∷ ss)) less ∙ r.is_symbol; tracked = r.tracked; there = r.there }

some_found : (f : SymbolTree → Bool) (n : ℕ) (ss : List SymbolTree) (b : List ℕ) (o i : ℕ) (s : SymbolTree) → slice_get ss i ≡ Some s → f s ≡ true → is_unit b o s.place ≡ true → (k : ℕ) × (tracked_from n ss (map f ss) b o ≡ Some k)
some_found f n [] b o i s e t h = cc
some_found f n (x ∷ ss) b o zero s e t h =
    let same : s ≡ x = cc in
    (n, ap (λ c. if c then Some n else tracked_from (suc n) ss (map f ss) b o) (and_from (f x) (is_unit b o x.place) (ap f (sym same) ∙ t) (ap (λ z. is_unit b o z.place) (sym same) ∙ h)))
some_found f n (x ∷ ss) b o (suc i) s e t h = go (f x && is_unit b o x.place) (some_found f (suc n) ss b o i s e t h)
  where
    go : (c : Bool) → (k : ℕ) × (tracked_from (suc n) ss (map f ss) b o ≡ Some k) → (k : ℕ) × ((if c then Some n else tracked_from (suc n) ss (map f ss) b o) ≡ Some k)
    go true r = (n, refl)
    go false r = r

-- in a scope
looked_up : (g : Graph) (p : ParsedTree) (ss : List SymbolTree) (m : ScopeTree) → IsScopeOf g p ss m → (b : List ℕ) (o : ℕ) → tracked_at m b o ≡ tracked_from 1 ss (map (flag g p ss) ss) b o
looked_up g p ss m is b o = ap (λ z. tracked_from 1 z m.tracked b o) is.symbols ∙ ap (λ fs. tracked_from 1 ss fs b o) is.tracked

pub found_is_cell : FoundIsCell
found_is_cell g p ss m is b o n e =
    let r = found (flag g p ss) 1 ss b o n (sym (looked_up g p ss m is b o) ∙ e) in
    let low = r.least in
    let next : suc (n - 1) ≡ n = omega (arith, low) in
    (r.symbol, record { is_symbol = ap (symbol_at ss) (sym next) ∙ next_symbol ss (n - 1) r.symbol r.is_symbol; tracked = r.tracked }, is_there b o r.symbol.place r.there)

-- ---- tracked cells

in_block : (ps : List ParsedTree) (sss : List (List SymbolTree)) (g : Graph) (p : ParsedTree) (ss : List SymbolTree) (n : ℕ) (s : SymbolTree) (b : List ℕ) (o : ℕ) → IsCell g p ss n s → s.place ≡ place.Block b o → in_place (fixed (units ps sss g) (known p ss) n) (unit_at (units ps sss g) (block b) o) ≡ true
in_block ps sss g p ss n s b o c at =
    let lies = cells_have_places ps sss g p ss n s (block b) c (ap (area_of p.module_read.name) at) in
    let offset = ap (λ q. offset_in q) at in
    ap (λ q. in_place q (unit_at (units ps sss g) (block b) o)) (lies ∙ ap (λ k. scalar_place (unit_at (units ps sss g) (block b) k) tag.Int) offset) ∙ own_unit (unit_at (units ps sss g) (block b) o)

pub cells_are_found : CellsAreFound
cells_are_found ps sss g l i p ss m scope is n s b o c at =
    let some = some_found (flag g p ss) 1 ss b o (n - 1) s (numbered_place ss n s c.is_symbol) c.tracked (there_is b o s.place at) in
    let e = looked_up g p ss scope is b o ∙ some.1 in
    let other = found_is_cell g p ss scope is b o some.0 e in
    let same = one some.0 other.0 other.1 other.2 (cases_eq some.0 n) in
    e ∙ ap Some same
  where
    one : (k : ℕ) (t : SymbolTree) → IsCell g p ss k t → t.place ≡ place.Block b o → (k ≡ n) ⊎ (k ≡ n → ⊥) → k ≡ n
    one k t d h (inl q) = q
    one k t d h (inr q) =
        let no = cells_stand_alone ps sss g l i p ss m n s (block b) c (ap (area_of p.module_read.name) at) k (unit_at (units ps sss g) (block b) o) q (in_block ps sss g p ss n s b o c at) in
        let z : true ≡ false = sym (in_block ps sss g p ss k t b o d h) ∙ no in
        cc

pub common_scalars_are_tracked_together : CommonScalarsAreTrackedTogether
common_scalars_are_tracked_together ps sss g l i j p q ss tt' m mq scope is n s b o c at d =
    let untracked = untracked_are ps sss g l.links in
    let any = any_found (stands_at tt' (place.Block b o)) tt' (ap (λ z. list_any (stands_at z (place.Block b o)) z) (sym is.symbols) ∙ d) in
    let mine = subst (λ us. is_tracked (equivalenced_names p.module_read) ss us s ≡ true) untracked c.tracked in
    let other = common_cells_are_cells ps sss i (n - 1) (equivalenced_names p.module_read) ss s b o m.table (numbered_place ss n s c.is_symbol) at mine j q tt' mq.parsed mq.table any.place any.item any.is_item any.holds in
    let theirs = subst (λ us. is_tracked (equivalenced_names q.module_read) tt' us any.item ≡ true) (sym untracked) other in
    let one = (cells_are_scalars g q tt' (suc any.place) any.item (record { is_symbol = next_symbol tt' any.place any.item any.is_item; tracked = theirs })).2 in
    let there = stands_there b o any.item.place (ap (λ z. place_has any.item.place z (place.Block b o)) (sym one) ∙ any.holds) in
    let some = some_found (flag g q tt') 1 tt' b o any.place any.item any.is_item theirs (there_is b o any.item.place there) in
    (some.0, looked_up g q tt' scope is b o ∙ some.1)

-- ---- the store at the start

pub data_initialises_scalars : DataInitialisesScalars
data_initialises_scalars ps sss g l lies i p ss m scope is n s r rs t e f =
    let c = flags_tell_cells g p ss scope is n t in
    let mine : symbol_at ss n ≡ Some s = ap (λ z. symbol_at z n) (sym is.symbols) ∙ e in
    let same : c.0 ≡ s = (let z : Some c.0 ≡ Some s = sym c.1.is_symbol ∙ mine in cc) in
    let cell = subst (IsCell g p ss n) same c.1 in
    let x = lies i p ss m n s mine 0 r (ap (λ z. slice_get z 0) f) in
    let at = cells_have_places ps sss g p ss n s (group p.module_read.name x.storage) cell x.is_local in
    ap (λ q. initial (known_of ps sss) g q.first) at ∙ cells_begin_with_data ps sss g l lies i p ss m n s (group p.module_read.name x.storage) r rs cell x.is_local f
