-- What the tables of a program and its layout give of the units of the variables of each module.
use Rattle.std.proofs.Common.{◌≡◌, ◌⊎◌, inl, inr, ⊎_elim, ℕ, zero, suc, ◌+◌, ◌-◌, ◌<◌, ◌≤◌, Bool, true, false, ◌&&◌, List, [], ◌∷◌, ◌++◌, length, map, Option, Some, None, refl, sym, ap, ◌∙◌, subst, arith, true≢false, ap₂, ◌*◌}
use Rattle.std.specs.Prelude.{if◌then◌else◌, not, slice_get, bytes_eq, nat_eq, nat_le, nat_lt}
use Rattle.std.specs.List.{list_any}
use Rattle.std.proofs.lemmas.Bool.{and_parts, and_from, or_left, or_right, not-true, eq-eqb, eqb-true, le-leb, lt-ltb}
use Rattle.std.proofs.lemmas.Bool.Decides.{nat_tests}
use Rattle.std.proofs.lemmas.Slice.Eq.{bytes_eq-Decides}
use Rattle.affine_systems.specs.declared.row.System.{System}
use Rattle.f77_ast.specs.DeclTrees.{ParsedTree}
use Rattle.f77_ast.specs.Calls.{Dummy, in_place}
use Rattle.f77_ast.specs.Places.{Place as RunPlace}
use Rattle.f77_ast.specs.declared.symbol.Place.{Place}
use Rattle.f77_ast.specs.declared.symbol.Place.TheVariants as place
use Rattle.f77_ast.specs.declared.variable.Variable.{Variable as Named}
use Rattle.f77_ast.specs.declared.variable.Variable.TheVariants.{Own, Block, Saved}
use Rattle.f77_ast.specs.Symbols.{SymbolTree, number_from, value_in}
use Rattle.f77_ast.specs.Units.{units_in}
use Rattle.f77_ast.specs.Shared.{symbol_at, share, share_maybe, is_in, is_symbol_in, lies_in, overlap}
use Rattle.laws_programs.specs.SymbolTables.Laws.{DummiesFirst}
use Rattle.laws_programs.proofs.SymbolTables.DummyLaws.{dummies_come_first}
use Rattle.call_graph.specs.declared.graph.Graph.{Graph}
use Rattle.call_graph.specs.declared.graph.Block.{Block as GraphBlock}
use Rattle.f77_meaning.specs.Areas.{Area, Numbering, block, group, unit_at, is_own_unit, place_in, or_zero, area_number}
use Rattle.f77_meaning.specs.Claims.{size_in, block_place, saved_place, fixed_by}
use Rattle.f77_meaning.specs.Laws.{IsKnown, is_own, area_of, IsDeclaredBelow}
use Rattle.f77_meaning.specs.Linked.{numbering, room_for, declares, reaches, is_common}
use Rattle.f77_meaning.specs.Modules.{Known, known_of, fixed, fixed_place, dummies_from, symbol_names, fixed_maybe, lost_units, all_lost}
use Rattle.f77_meaning.proofs.LinkLaws.{any_found, common_is_of_blocks}
use Rattle.f77_meaning.proofs.LinkedLaws.{linked_have_blocks}
use Rattle.f77_meaning.proofs.ModuleLaws.{offsets_fit, variables_occupy_their_storage, shared_by_table}
use Rattle.f77_meaning.proofs.UnitLaws.{units_differ, temporaries_are_recognisable}
use Rattle.preconditions.specs.transformers.Given.{Callees}
use Rattle.in_out_regions.specs.array_regions.References.{is_constant}
use Rattle.laws_programs.specs.Storage.Activations.{is_dummy}
use Rattle.laws_programs.specs.Storage.Below.{HasCall}
use Rattle.laws_programs.specs.Storage.Calls.{AreLaidOut}
use Rattle.laws_programs.specs.Storage.DataLaws.{AllConstantsFit}
use Rattle.laws_programs.specs.Storage.Owners.{belongs_to}
use Rattle.laws_programs.specs.Storage.Programs.{IsLinked, IsModule, known}
use Rattle.laws_programs.proofs.Storage.AreaLaws.{group_owner}
use Rattle.laws_programs.proofs.Storage.BelowLaws.{at_once, never_back, lead_on}
use Rattle.laws_programs.proofs.Storage.LocalLaws.{in_either as some_any}
use Rattle.laws_programs.proofs.Storage.LyingLaws.{Lying, lying_local, lying_common}
use Rattle.laws_programs.proofs.Storage.ModuleLaws.{known_module, declared, area_known}
use Rattle.laws_programs.proofs.Storage.OwnerLaws.{variable_lies, variable_hidden}
use Rattle.preconditions.specs.transformer_algebra.Laws.{In, here, there}
use Rattle.laws_analyses.specs.Calls.Parts.{Part, NoDummy}
use Rattle.laws_analyses.specs.Analysed.{module_named}
use Rattle.laws_analyses.specs.Parts.{part_of}
use Rattle.laws_analyses.proofs.Modules.{module_named_is}
use Rattle.laws_analyses.proofs.DummyLaws.{listed_dummy}
use Rattle.laws_analyses.proofs.UnitLaws.{module_at}
use Rattle.laws_analyses.specs.Regions.Entries.{IsLost}
use Rattle.laws_analyses.specs.Regions.Settings.{has_colon, is_told}
use Rattle.laws_programs.specs.Effects.Tables.{is_plain}
use Rattle.laws_analyses.proofs.Regions.Entered.{module_fits, module_enters}
use Rattle.laws_analyses.proofs.Regions.NamesOnce.{numbered_once}
use Rattle.laws_marks.specs.InDims.{OpenLast}
use Rattle.laws_marks.specs.InLaid.{IsFixed, fixed_place as lies_at, HasUnit, Laid, NamesGo}
use Rattle.laws_marks.specs.InTogether.{LocalsAreSavedTogether}
use Rattle.laws_marks.proofs.InApart.{open_constants}
use Rattle.laws_marks.proofs.InRooms.{blocks_fit}
use Rattle.laws_marks.proofs.Apart.{lost_here, lost_among, LostAt}
use Rattle.f77_ast.proofs.StorageLaws.{from_number as numbered_place, to_number as next_symbol}
use Rattle.call_graph.specs.Visible.{is_local}
use Rattle.fx_lists.proofs.Lookups.{any_at}

-- ---- lists

-- where one stands
pub in_at : (xs : List Known) (k : Known) → In k xs → (i : ℕ) × (slice_get xs i ≡ Some k)
in_at [] k i = elim i [ ]
in_at (x ∷ xs) k here = (zero, refl)
in_at (x ∷ xs) k (there i) = (let r = in_at xs k i in (suc r.0, r.1))

-- a block with units is one of the blocks
record InBlocks (bs : List GraphBlock) (x : List ℕ) : Type 0 where
  at : ℕ
  the_block : GraphBlock
  is_block : slice_get bs at ≡ Some the_block
  is_named : the_block.name ≡ x

in_blocks : (bs : List GraphBlock) (x : List ℕ) → 0 < size_in bs x → InBlocks bs x
in_blocks [] x h = absurd (omega (arith, h))
in_blocks (b ∷ bs) x h = go (bytes_eq b.name x) refl h (λ i. in_blocks bs x i)
  where
    go : (c : Bool) → bytes_eq b.name x ≡ c → 0 < (if c then b.size else size_in bs x) → (0 < size_in bs x → InBlocks bs x) → InBlocks (b ∷ bs) x
    go true e i ih = record { at = zero; the_block = b; is_block = refl; is_named = (bytes_eq-Decides b.name x).0 e }
    go false e i ih = (let r = ih i in record { at = suc r.at; the_block = r.the_block; is_block = r.is_block; is_named = r.is_named })

numbered_block : (n : ℕ) (bs : List GraphBlock) (x : List ℕ) (i : ℕ) (b : GraphBlock) → slice_get bs i ≡ Some b → b.name ≡ x → 0 < n → 0 < or_zero (number_from n (map (λ c. c.name) bs) x)
numbered_block n [] x i b e q h = cc
numbered_block n (c ∷ bs) x zero b e q h =
    let same : c ≡ b = cc in
    let named : x ≡ c.name = sym q ∙ ap (λ (z : GraphBlock). z.name) (sym same) in
    subst (λ w. 0 < or_zero (if w then Some n else number_from (suc n) (map (λ z. z.name) bs) x)) (sym ((bytes_eq-Decides x c.name).1 named)) h
numbered_block n (c ∷ bs) x (suc i) b e q h = go (bytes_eq x c.name) (numbered_block (suc n) bs x i b e q (omega (arith, h)))
  where
    go : (w : Bool) → 0 < or_zero (number_from (suc n) (map (λ z. z.name) bs) x) → 0 < or_zero (if w then Some n else number_from (suc n) (map (λ z. z.name) bs) x)
    go true ih = h
    go false ih = ih

-- ---- units

unit_in : (p : RunPlace) (u : ℕ) → HasUnit p u → in_place p u ≡ true
unit_in p u h =
    let there' = h.is_there in
    let less = h.less in
    let low : p.first ≤ u = omega (arith, there') in
    let high : u < p.first + p.extent = omega (arith, there', less) in
    and_from (nat_le p.first u) (nat_lt u (p.first + p.extent)) (grind (arith, nat_tests, low)) (grind (arith, nat_tests, high))

-- ---- names

-- the symbol is a local that is saved
abbrev pub is_kept_local : Option SymbolTree → Bool
is_kept_local None = false
is_kept_local (Some s) = is_local s.place && s.saved

abbrev pub kept_named : List SymbolTree → Option ℕ → Bool
kept_named ss None = false
kept_named ss (Some n) = is_kept_local (symbol_at ss n)

record KeptAt (ss : List SymbolTree) (o : Option ℕ) : Type 0 where
  number : ℕ
  is_number : o ≡ Some number
  symbol : SymbolTree
  is_symbol : symbol_at ss number ≡ Some symbol
  storage : ℕ
  offset : ℕ
  lies : symbol.place ≡ place.Local storage offset
  saved : symbol.saved ≡ true

kept_at : (ss : List SymbolTree) (o : Option ℕ) → kept_named ss o ≡ true → KeptAt ss o
kept_at ss None h = cc
kept_at ss (Some n) h = go (symbol_at ss n) refl h
  where
    local : (s : SymbolTree) (q : Place) → s.place ≡ q → is_local q ≡ true → symbol_at ss n ≡ Some s → s.saved ≡ true → KeptAt ss (Some n)
    local s (place.Local h' o) e i f k = record { number = n; is_number = refl; symbol = s; is_symbol = f; storage = h'; offset = o; lies = e; saved = k }
    local s (place.Dummy d) e i f k = cc
    local s (place.Block b o) e i f k = cc
    local s (place.Constant v) e i f k = cc

    go : (w : Option SymbolTree) → symbol_at ss n ≡ w → is_kept_local w ≡ true → KeptAt ss (Some n)
    go None e k = cc
    go (Some s) e k = (let q = and_parts (is_local s.place) s.saved k in local s s.place refl q.0 e q.1)

module _ (ps : List ParsedTree) (sss : List (List SymbolTree)) (g : Graph) where
  abbrev ks : List Known
  ks = known_of ps sss

  abbrev N : Numbering
  N = numbering (known_of ps sss) g

  -- a module is another, or reaches it by calls
  abbrev pub leads : List ℕ → List ℕ → Bool
  leads x y = reaches (length (known_of ps sss)) g.edges x y

  -- the regions of the module x may name its own variables, blocks that it or a module that it reaches declares, and saved locals of the others that it reaches
  abbrev pub such : List ℕ → Named → Bool
  such x (Own n) = true
  such x (Block b) = is_told (Block b) && list_any (λ k. leads x k.read.name && declares b k) (known_of ps sss)
  such x (Saved m y) = is_told (Saved m y) && list_any (λ k. (leads x k.read.name && not (bytes_eq x k.read.name)) && (bytes_eq k.read.name m && kept_named k.symbols (number_from 1 (symbol_names k.symbols) y))) (known_of ps sss)

  abbrev pub may_name : Part → Named → Bool
  may_name k v = such k.routine.name v

  module _ (l : IsLinked ps sss g) where
    -- a unit of an area, within its room
    pub record UnitOf (a : Area) (u : ℕ) : Type 0 where
      distance : ℕ
      unit : u ≡ unit_at N a distance
      room : distance < room_for ks
      is_known : IsKnown N a

    same_area : (a b : Area) (u : ℕ) → UnitOf a u → UnitOf b u → a ≡ b
    same_area a b u x y = (units_differ N a b x.distance y.distance x.is_known y.is_known x.room y.room (sym x.unit ∙ y.unit)).0

    pub no_own : (a : Area) (u : ℕ) → UnitOf a u → is_own a ≡ false → is_own_unit N u ≡ false
    no_own a u x e = ap (is_own_unit N) x.unit ∙ (temporaries_are_recognisable N a x.distance x.room ∙ e)

    occupied : (j : ℕ) (q : ParsedTree) (tt' : List SymbolTree) (mq : IsModule ps sss j q tt') (n : ℕ) (s : SymbolTree) (a : Area) (u : ℕ) → symbol_at tt' n ≡ Some s → area_of q.module_read.name s.place ≡ Some a → in_place (fixed N (known q tt') n) u ≡ true → UnitOf a u
    occupied j q tt' mq n s a u e area has =
        let d = declared ps sss j q tt' mq n s e in
        let x = variables_occupy_their_storage ks g (known q tt') n s a u d area has in
        let ends = offsets_fit ks (known q tt') n s d in
        let below = x.below in
        record { distance = x.distance; unit = x.unit; room = omega (arith, ends, below); is_known = area_known ps sss g l j q tt' mq n s a e area }

    block_unit : (b : List ℕ) (u : ℕ) → HasUnit (block_place ks g b) u → UnitOf (block b) u
    block_unit b u h =
        let less = h.less in
        let size = blocks_fit ks g (linked_have_blocks ps sss g l.many l.links) b in
        let one = in_blocks g.blocks b (omega (arith, less)) in
        record {
          distance = h.offset;
          unit = sym h.is_there ∙ from_first (area_number N (block b) * N.room) h.offset;
          room = omega (arith, less, size);
          is_known = numbered_block 1 g.blocks b one.at one.the_block one.is_block one.is_named (omega arith);
        }
      where
        from_first : (u o : ℕ) → (u + 0) + o ≡ u + o
        from_first u o = omega arith

    mine : (m : List ℕ) (h u : ℕ) → UnitOf (group m h) u → belongs_to N m u ≡ true
    mine m h u x = ap (belongs_to N m) x.unit ∙ (group_owner N m m h x.distance x.room ∙ eq-eqb (place_in N.modules m) (place_in N.modules m) refl)

    -- ---- modules by their names

    pub one_named : (j : ℕ) (q : ParsedTree) (tt' : List SymbolTree) → IsModule ps sss j q tt' → (i : ℕ) (z : Known) → slice_get (known_of ps sss) i ≡ Some z → z.read.name ≡ q.module_read.name → z ≡ known q tt'
    one_named j q tt' mq i z e n = sym (module_named_is ps sss g l i z e) ∙ (ap (module_named (known_of ps sss)) n ∙ module_named_is ps sss g l j (known q tt') (known_module ps sss j q tt' mq))

    place_found : (q : Known) (y : List ℕ) (zs : List Known) → ((i : ℕ) (z : Known) → slice_get zs i ≡ Some z → z.read.name ≡ q.read.name → z ≡ q) → (i : ℕ) → slice_get zs i ≡ Some q → saved_place ks g zs q.read.name y ≡ fixed_by ks g q (number_from 1 (symbol_names q.symbols) y)
    place_found q y [] one i e = cc
    place_found q y (z ∷ zs) one i e = go (bytes_eq z.read.name q.read.name) refl (λ j f. place_found q y zs (λ j' z' r n. one (suc j') z' r n) j f)
      where
        later : (j : ℕ) → slice_get (z ∷ zs) j ≡ Some q → bytes_eq z.read.name q.read.name ≡ false → ((j : ℕ) → slice_get zs j ≡ Some q → saved_place ks g zs q.read.name y ≡ fixed_by ks g q (number_from 1 (symbol_names q.symbols) y)) → saved_place ks g zs q.read.name y ≡ fixed_by ks g q (number_from 1 (symbol_names q.symbols) y)
        later zero f w ih =
            let same : z ≡ q = cc in
            absurd (true≢false (sym ((bytes_eq-Decides z.read.name q.read.name).1 (ap (λ (k : Known). k.read.name) same)) ∙ w))
        later (suc j) f w ih = ih j f

        go : (w : Bool) → bytes_eq z.read.name q.read.name ≡ w → ((j : ℕ) → slice_get zs j ≡ Some q → saved_place ks g zs q.read.name y ≡ fixed_by ks g q (number_from 1 (symbol_names q.symbols) y)) →
            (if w then fixed_by ks g z (number_from 1 (symbol_names z.symbols) y) else saved_place ks g zs q.read.name y) ≡ fixed_by ks g q (number_from 1 (symbol_names q.symbols) y)
        go true w ih = ap (λ (k : Known). fixed_by ks g k (number_from 1 (symbol_names k.symbols) y)) (one 0 z refl ((bytes_eq-Decides z.read.name q.read.name).0 w))
        go false w ih = later i e w ih

    -- a saved local that the module x may name
    record SavedAt (x m y : List ℕ) : Type 0 where
      at : ℕ
      parsed : ParsedTree
      table : List SymbolTree
      is_module : IsModule ps sss at parsed table
      is_named : parsed.module_read.name ≡ m
      reached : leads x m ≡ true
      other : bytes_eq x m ≡ false
      number : ℕ
      symbol : SymbolTree
      is_symbol : symbol_at table number ≡ Some symbol
      storage : ℕ
      offset : ℕ
      lies : symbol.place ≡ place.Local storage offset
      saved : symbol.saved ≡ true
      is_place : saved_place ks g ks m y ≡ fixed N (known parsed table) number

    saved_at : (x m y : List ℕ) → such x (Saved m y) ≡ true → SavedAt x m y
    saved_at x m y h =
        let found = any_found (λ k. (leads x k.read.name && not (bytes_eq x k.read.name)) && (bytes_eq k.read.name m && kept_named k.symbols (number_from 1 (symbol_names k.symbols) y))) ks (and_parts (is_told (Saved m y)) (list_any (λ k. (leads x k.read.name && not (bytes_eq x k.read.name)) && (bytes_eq k.read.name m && kept_named k.symbols (number_from 1 (symbol_names k.symbols) y))) ks) h).1 in
        let w = module_at ps sss found.place found.item found.is_item in
        of_module found.place w.parsed w.table w.is_module
        (subst (λ (k : Known). ((leads x k.read.name && not (bytes_eq x k.read.name)) && (bytes_eq k.read.name m && kept_named k.symbols (number_from 1 (symbol_names k.symbols) y))) ≡ true) (sym w.same) found.holds)
      where
        of_module : (j : ℕ) (q : ParsedTree) (tt' : List SymbolTree) → IsModule ps sss j q tt' → ((leads x q.module_read.name && not (bytes_eq x q.module_read.name)) && (bytes_eq q.module_read.name m && kept_named tt' (number_from 1 (symbol_names tt') y))) ≡ true → SavedAt x m y
        of_module j q tt' mq f =
            let a = and_parts (leads x q.module_read.name && not (bytes_eq x q.module_read.name)) (bytes_eq q.module_read.name m && kept_named tt' (number_from 1 (symbol_names tt') y)) f in
            let b = and_parts (leads x q.module_read.name) (not (bytes_eq x q.module_read.name)) a.0 in
            let c = and_parts (bytes_eq q.module_read.name m) (kept_named tt' (number_from 1 (symbol_names tt') y)) a.1 in
            let named : q.module_read.name ≡ m = (bytes_eq-Decides q.module_read.name m).0 c.0 in
            let k = kept_at tt' (number_from 1 (symbol_names tt') y) c.1 in
            record {
              at = j;
              parsed = q;
              table = tt';
              is_module = mq;
              is_named = named;
              reached = subst (λ z. leads x z ≡ true) named b.0;
              other = subst (λ z. bytes_eq x z ≡ false) named (not-true (bytes_eq x q.module_read.name) b.1);
              number = k.number;
              symbol = k.symbol;
              is_symbol = k.is_symbol;
              storage = k.storage;
              offset = k.offset;
              lies = k.lies;
              saved = k.saved;
              is_place =
                  subst (λ z. saved_place ks g ks z y ≡ fixed N (known q tt') k.number) named
                  (place_found (known q tt') y ks (one_named j q tt' mq) j (known_module ps sss j q tt' mq) ∙ ap (fixed_by ks g (known q tt')) k.is_number);
            }

    saved_unit : (x m y : List ℕ) (u : ℕ) (r : SavedAt x m y) → HasUnit (saved_place ks g ks m y) u → UnitOf (group m r.storage) u
    saved_unit x m y u r h =
        subst (λ z. UnitOf (group z r.storage) u) r.is_named
        (occupied r.at r.parsed r.table r.is_module r.number r.symbol (group r.parsed.module_read.name r.storage) u r.is_symbol (ap (area_of r.parsed.module_read.name) r.lies)
        (subst (λ (p : RunPlace). in_place p u ≡ true) r.is_place (unit_in (saved_place ks g ks m y) u h)))

    -- a unit that is lost at the end of a module
    pub record LostOf (m : List ℕ) (u : ℕ) : Type 0 where
      pub at : ℕ
      pub parsed : ParsedTree
      pub table : List SymbolTree
      pub is_module : IsModule ps sss at parsed table
      pub is_named : parsed.module_read.name ≡ m
      pub number : ℕ
      pub symbol : SymbolTree
      pub is_symbol : symbol_at table number ≡ Some symbol
      pub storage : ℕ
      pub offset : ℕ
      pub lies : symbol.place ≡ place.Local storage offset
      pub kept : symbol.saved ≡ false
      pub unit : UnitOf (group m storage) u

    pub lost_of : (m : List ℕ) (u : ℕ) → IsLost (known_of ps sss) g m u → LostOf m u
    lost_of m u i =
        let w = in_at (known_of ps sss) i.known i.is_one in
        let q = module_at ps sss w.0 i.known w.1 in
        of_module w.0 q.parsed q.table q.is_module (ap (λ (k : Known). k.read.name) q.same ∙ i.named)
        (subst (λ (k : Known). list_any (λ v. nat_eq v u) (all_lost N k.read.name k.symbols k.symbols) ≡ true) (sym q.same) i.lost)
      where
        of_module : (j : ℕ) (q : ParsedTree) (tt' : List SymbolTree) → IsModule ps sss j q tt' → q.module_read.name ≡ m → list_any (λ v. nat_eq v u) (all_lost N q.module_read.name tt' tt') ≡ true → LostOf m u
        of_module j q tt' mq named h =
            let z = lost_among N q.module_read.name tt' tt' u h in
            let is = next_symbol tt' z.at z.symbol z.is_symbol in
            let there' : in_place (fixed N (known q tt') (suc z.at)) u ≡ true =
            ap (λ o. in_place (fixed_maybe N q.module_read.name tt' o) u) is ∙ (ap (λ p. in_place (fixed_place N q.module_read.name tt' z.symbol p) u) z.lies
            ∙ and_from (nat_le (unit_at N (group q.module_read.name z.storage) z.offset) u) (nat_lt u (unit_at N (group q.module_read.name z.storage) z.offset + units_in tt' z.symbol)) (le-leb (unit_at N (group q.module_read.name z.storage) z.offset) u z.from) (lt-ltb u (unit_at N (group q.module_read.name z.storage) z.offset + units_in tt' z.symbol) z.below)) in
            record {
              at = j;
              parsed = q;
              table = tt';
              is_module = mq;
              is_named = named;
              number = suc z.at;
              symbol = z.symbol;
              is_symbol = is;
              storage = z.storage;
              offset = z.offset;
              lies = z.lies;
              kept = z.kept;
              unit = subst (λ x. UnitOf (group x z.storage) u) named (occupied j q tt' mq (suc z.at) z.symbol (group q.module_read.name z.storage) u is (ap (area_of q.module_read.name) z.lies) there');
            }

    -- ---- one module

    module _ (laid : AreLaidOut ps sss) (fit : AllConstantsFit ps sss) (together : LocalsAreSavedTogether) (i : ℕ) (p : ParsedTree) (ss : List SymbolTree) (m : IsModule ps sss i p ss) (cs : Callees) (entry : System) where
      abbrev X : List ℕ
      X = p.module_read.name

      abbrev k : Part
      k = part_of (known_of ps sss) g cs entry (known p ss)

      itself : leads X X ≡ true
      itself = at_once g.edges (length ks) X X ((bytes_eq-Decides X X).1 refl)

      first : DummiesFirst 1 (length p.module_read.dummies) ss
      first = dummies_come_first p ss (laid i p ss m)

      no_dummy : (v : ℕ) (s : SymbolTree) → symbol_at ss v ≡ Some s → NoDummy (dummies_from 1 ss) v → (n : ℕ) → s.place ≡ place.Dummy n → ⊥
      no_dummy v s e none n q = let r = listed_dummy ss (length p.module_read.dummies) first v n s e q in none (record { at = n - 1; dummy = r.0; is_dummy = r.1; symbol = r.2 })

      not_listed : (v : ℕ) → NoDummy (dummies_from 1 ss) v → is_dummy (dummies_from 1 ss) v ≡ false
      not_listed v none = go (is_dummy (dummies_from 1 ss) v) refl
        where
          go : (b : Bool) → is_dummy (dummies_from 1 ss) v ≡ b → b ≡ false
          go true e = (let f = any_found (λ (d : Dummy). nat_eq d.symbol v) (dummies_from 1 ss) e in absurd (none (record { at = f.place; dummy = f.item; is_dummy = f.is_item; symbol = eqb-true f.item.symbol v f.holds })))
          go false e = refl

      -- a variable of the module that is no dummy
      data OwnLies (v : ℕ) : Type 0 where
        of_group : (s : SymbolTree) (h o : ℕ) → symbol_at ss v ≡ Some s → s.place ≡ place.Local h o → OwnLies v
        of_block : (s : SymbolTree) (b : List ℕ) (o : ℕ) → symbol_at ss v ≡ Some s → s.place ≡ place.Block b o → OwnLies v

      own_lies : (v : ℕ) → IsFixed k (Own v) → OwnLies v
      own_lies v f = go f.0.0.place refl f.0.2
        where
          go : (q : Place) → f.0.0.place ≡ q → is_constant q ≡ false → OwnLies v
          go (place.Local h o) e c = of_group f.0.0 h o f.0.1 e
          go (place.Dummy n) e c = absurd (no_dummy v f.0.0 f.0.1 f.1 n e)
          go (place.Block b o) e c = of_block f.0.0 b o f.0.1 e
          go (place.Constant n) e c = cc

      lying : (v : ℕ) → IsFixed k (Own v) → Lying ss v
      lying v f = go (own_lies v f)
        where
          go : OwnLies v → Lying ss v
          go (of_group s h o e q) = lying_local s h o e q (not_listed v f.1)
          go (of_block s b o e q) = lying_common s b o e q (not_listed v f.1)

      lies_there : (v u : ℕ) → IsFixed k (Own v) → HasUnit (k.routine.fixed v) u → (k.routine.common u ≡ true) ⊎ (k.owns u ≡ true)
      lies_there v u f h = variable_lies ps sss g l i p ss m v u (lying v f) (not_listed v f.1) (unit_in (k.routine.fixed v) u h)

      lies_above : (v u : ℕ) → IsFixed k (Own v) → HasUnit (k.routine.fixed v) u → k.below u ≡ false
      lies_above v u f h = variable_hidden ps sss g l i p ss m v u (lying v f) (not_listed v f.1) (unit_in (k.routine.fixed v) u h)

      group_unit : (v u : ℕ) (s : SymbolTree) (h o : ℕ) → symbol_at ss v ≡ Some s → s.place ≡ place.Local h o → HasUnit (k.routine.fixed v) u → UnitOf (group X h) u
      group_unit v u s h o e q w = occupied i p ss m v s (group X h) u e (ap (area_of X) q) (unit_in (k.routine.fixed v) u w)

      common_unit : (v u : ℕ) (s : SymbolTree) (b : List ℕ) (o : ℕ) → symbol_at ss v ≡ Some s → s.place ≡ place.Block b o → HasUnit (k.routine.fixed v) u → UnitOf (block b) u
      common_unit v u s b o e q w = occupied i p ss m v s (block b) u e (ap (area_of X) q) (unit_in (k.routine.fixed v) u w)

      -- a block that may be named
      block_common : (b : List ℕ) (u : ℕ) → such X (Block b) ≡ true → HasUnit (block_place ks g b) u → k.routine.common u ≡ true
      block_common b u h w =
          let found = any_found (λ z. leads X z.read.name && declares b z) ks (and_parts (is_told (Block b)) (list_any (λ z. leads X z.read.name && declares b z) ks) h).1 in
          let q = and_parts (leads X found.item.read.name) (declares b found.item) found.holds in
          let x = block_unit b u w in
          let less = w.less in
          let one = in_blocks g.blocks b (omega (arith, less)) in
          let below : IsDeclaredBelow ks g X b = record { module_at = found.place; by = found.item; is_module = found.is_item; reached = q.0; block_at = one.at; the_block = one.the_block; is_block = one.is_block; is_named = one.is_named; declared = subst (λ z. declares z found.item ≡ true) (sym one.is_named) q.1 } in
          ap (is_common ks g X) x.unit ∙ (common_is_of_blocks ks g X (block b) x.distance x.is_known x.room).1 (b, refl, below)

      -- a saved local of a module below
      saved_below : (n y : List ℕ) (u : ℕ) → such X (Saved n y) ≡ true → HasUnit (saved_place ks g ks n y) u → k.below u ≡ true
      saved_below n y u h w =
          let r = saved_at X n y h in
          let x = saved_unit X n y u r w in
          let q = r.parsed.module_read.name in
          or_left (list_any (λ z. (reaches (length ks) g.edges X z.read.name && not (bytes_eq X z.read.name)) && belongs_to N z.read.name u) ks) (is_own_unit N u && belongs_to N X u)
          (any_at (λ z. (reaches (length ks) g.edges X z.read.name && not (bytes_eq X z.read.name)) && belongs_to N z.read.name u) ks r.at (known r.parsed r.table) (known_module ps sss r.at r.parsed r.table r.is_module)
          (and_from (leads X q && not (bytes_eq X q)) (belongs_to N q u)
          (and_from (leads X q) (not (bytes_eq X q)) (subst (λ z. leads X z ≡ true) (sym r.is_named) r.reached) (ap not (subst (λ z. bytes_eq X z ≡ false) (sym r.is_named) r.other)))
          (subst (λ z. belongs_to N z u ≡ true) (sym r.is_named) (mine n r.storage u x))))

      saved_open : (n y : List ℕ) → such X (Saved n y) ≡ true → OpenLast (saved_place ks g ks n y).dims
      saved_open n y h =
          let r = saved_at X n y h in
          let local = ap is_local r.lies in
          let none = (module_enters ps sss g r.at r.parsed r.table r.is_module (laid r.at r.parsed r.table r.is_module) (fit r.at r.parsed r.table r.is_module) cs entry).local r.number r.symbol r.is_symbol local in
          let fits = module_fits ps sss g r.at r.parsed r.table r.is_module (laid r.at r.parsed r.table r.is_module) (fit r.at r.parsed r.table r.is_module) cs entry r.number r.symbol r.is_symbol (ap is_constant r.lies) none in
          subst (λ (q : RunPlace). OpenLast q.dims) (sym r.is_place) (open_constants (value_in r.table) r.symbol.bounds (fixed N (known r.parsed r.table) r.number).dims fits.constants)

      groups_same : (a b : List ℕ) (h o : ℕ) → group a h ≡ group b o → (a ≡ b) × (h ≡ o)
      groups_same a b h o e = (cc, cc)

      saved_kept : (n y : List ℕ) (u : ℕ) → such X (Saved n y) ≡ true → HasUnit (saved_place ks g ks n y) u → (z : List ℕ) → IsLost ks g z u → ⊥
      saved_kept n y u h w z i' =
          let r = saved_at X n y h in
          let x = saved_unit X n y u r w in
          let t = lost_of z u i' in
          let same = groups_same n z r.storage t.storage (same_area (group n r.storage) (group z t.storage) u x t.unit) in
          let named : r.parsed.module_read.name ≡ t.parsed.module_read.name = r.is_named ∙ (same.0 ∙ sym t.is_named) in
          let one : known r.parsed r.table ≡ known t.parsed t.table = one_named t.at t.parsed t.table t.is_module r.at (known r.parsed r.table) (known_module ps sss r.at r.parsed r.table r.is_module) named in
          let table : r.table ≡ t.table = ap (λ (q : Known). q.symbols) one in
          true≢false (sym r.saved ∙ (together t.parsed t.table (laid t.at t.parsed t.table t.is_module) r.number t.number r.storage r.offset t.offset r.symbol t.symbol (subst (λ qs. symbol_at qs r.number ≡ Some r.symbol) table r.is_symbol) t.is_symbol r.lies (t.lies ∙ ap (λ q. place.Local q t.offset) (sym same.1)) ∙ t.kept))

      lost_owned : (u : ℕ) → IsLost ks g X u → k.owns u ≡ true
      lost_owned u i' =
          let t = lost_of X u i' in
          any_at (λ z. reaches (length ks) g.edges X z.read.name && belongs_to N z.read.name u) ks i (known p ss) (known_module ps sss i p ss m) (and_from (leads X X) (belongs_to N X u) itself (mine X t.storage u t.unit))

      no_expression : (v : Named) → such X v ≡ true → IsFixed k v → (u : ℕ) → HasUnit (lies_at ks g k v) u → is_own_unit N u ≡ false
      no_expression (Own v) h f u w = go (own_lies v f)
        where
          go : OwnLies v → is_own_unit N u ≡ false
          go (of_group s h' o e q) = no_own (group X h') u (group_unit v u s h' o e q w) refl
          go (of_block s b o e q) = no_own (block b) u (common_unit v u s b o e q w) refl
      no_expression (Block b) h f u w = no_own (block b) u (block_unit b u w) refl
      no_expression (Saved n y) h f u w = (let r = saved_at X n y h in no_own (group n r.storage) u (saved_unit X n y u r w) refl)

      -- ---- units in common

      blocks_same : (a b : List ℕ) → block a ≡ block b → a ≡ b
      blocks_same a b e = cc

      no_group : (a b : List ℕ) (h : ℕ) → block a ≡ group b h → ⊥
      no_group a b h e = cc

      own_own : (v w : ℕ) (s t : SymbolTree) (a b : Area) (u : ℕ) → symbol_at ss v ≡ Some s → symbol_at ss w ≡ Some t → area_of X s.place ≡ Some a → area_of X t.place ≡ Some b → HasUnit (k.routine.fixed v) u → HasUnit (k.routine.fixed w) u → (Own v ≡ Own w) ⊎ (overlap ss (Own w) (Own v) ≡ true)
      own_own v w s t a b u e f x y h h' = go (nat_eq w v) refl
        where
          shared : share ss t s ≡ true
          shared = shared_by_table ks g (known p ss) w v t s b a u (declared ps sss i p ss m w t f) (declared ps sss i p ss m v s e) y x (area_known ps sss g l i p ss m w t b f y) (area_known ps sss g l i p ss m v s a e x) (unit_in (k.routine.fixed w) u h') (unit_in (k.routine.fixed v) u h)

          go : (c : Bool) → nat_eq w v ≡ c → (Own v ≡ Own w) ⊎ ((not c && share_maybe ss (symbol_at ss w) (symbol_at ss v)) ≡ true)
          go true q = inl (ap Own (sym (eqb-true w v q)))
          go false q = inr (ap (λ (o : Option SymbolTree). share_maybe ss o (symbol_at ss v)) f ∙ (ap (share_maybe ss (Some t)) e ∙ shared))

      own_area : (v : ℕ) (u : ℕ) → IsFixed k (Own v) → HasUnit (k.routine.fixed v) u → (s : SymbolTree) × (a : Area) × (symbol_at ss v ≡ Some s) × (area_of X s.place ≡ Some a)
      own_area v u f w = go (own_lies v f)
        where
          go : OwnLies v → (s : SymbolTree) × (a : Area) × (symbol_at ss v ≡ Some s) × (area_of X s.place ≡ Some a)
          go (of_group s h o e q) = (s, group X h, e, ap (area_of X) q)
          go (of_block s b o e q) = (s, block b, e, ap (area_of X) q)

      in_block : (v u : ℕ) (c : List ℕ) → IsFixed k (Own v) → HasUnit (k.routine.fixed v) u → HasUnit (block_place ks g c) u → lies_in ss v c ≡ true
      in_block v u c f w x = go (own_lies v f)
        where
          go : OwnLies v → lies_in ss v c ≡ true
          go (of_group s h o e q) = absurd (no_group c X h (same_area (block c) (group X h) u (block_unit c u x) (group_unit v u s h o e q w)))
          go (of_block s b o e q) =
              let same = blocks_same b c (same_area (block b) (block c) u (common_unit v u s b o e q w) (block_unit c u x)) in
              ap (is_symbol_in c) e ∙ (ap (is_in c) q ∙ (bytes_eq-Decides b c).1 same)

      saved_two : (n y z x : List ℕ) (u : ℕ) → such X (Saved n y) ≡ true → such X (Saved z x) ≡ true → HasUnit (saved_place ks g ks n y) u → HasUnit (saved_place ks g ks z x) u → (Saved n y ≡ Saved z x) ⊎ ((bytes_eq z n && not (bytes_eq x y)) ≡ true)
      saved_two n y z x u h h' w w' = go (bytes_eq x y) refl
        where
          r : SavedAt X n y
          r = saved_at X n y h

          t : SavedAt X z x
          t = saved_at X z x h'

          same : n ≡ z
          same = (groups_same n z r.storage t.storage (same_area (group n r.storage) (group z t.storage) u (saved_unit X n y u r w) (saved_unit X z x u t w'))).0

          go : (c : Bool) → bytes_eq x y ≡ c → (Saved n y ≡ Saved z x) ⊎ ((bytes_eq z n && not c) ≡ true)
          go true e = inl (ap₂ Saved same (sym ((bytes_eq-Decides x y).0 e)))
          go false e = inr (and_from (bytes_eq z n) true ((bytes_eq-Decides z n).1 (sym same)) refl)

      shared_units : (v w : Named) → such X v ≡ true → such X w ≡ true → IsFixed k v → IsFixed k w → (u : ℕ) → HasUnit (lies_at ks g k v) u → HasUnit (lies_at ks g k w) u → (v ≡ w) ⊎ (overlap ss w v ≡ true)
      shared_units (Own v) (Own w) h h' f f' u x y =
          let a = own_area v u f x in
          let b = own_area w u f' y in
          own_own v w a.0 b.0 a.1 b.1 u a.2 b.2 a.3 b.3 x y
      shared_units (Own v) (Block c) h h' f f' u x y = inr (in_block v u c f x y)
      shared_units (Own v) (Saved n z) h h' f f' u x y = absurd (true≢false (sym (saved_below n z u h' y) ∙ lies_above v u f x))
      shared_units (Block c) (Own v) h h' f f' u x y = inr (in_block v u c f' y x)
      shared_units (Block b) (Block c) h h' f f' u x y = inl (ap Block (blocks_same b c (same_area (block b) (block c) u (block_unit b u x) (block_unit c u y))))
      shared_units (Block c) (Saved n z) h h' f f' u x y = (let r = saved_at X n z h' in absurd (no_group c n r.storage (same_area (block c) (group n r.storage) u (block_unit c u x) (saved_unit X n z u r y))))
      shared_units (Saved n z) (Own v) h h' f f' u x y = absurd (true≢false (sym (saved_below n z u h x) ∙ lies_above v u f' y))
      shared_units (Saved n z) (Block c) h h' f f' u x y = (let r = saved_at X n z h in absurd (no_group c n r.storage (same_area (block c) (group n r.storage) u (block_unit c u y) (saved_unit X n z u r x))))
      shared_units (Saved n y) (Saved z x) h h' f f' u w w' = saved_two n y z x u h h' w w'

      told_so : (v : Named) → such X v ≡ true → is_told v ≡ true
      told_so (Own n) h = refl
      told_so (Block b) h = (and_parts (is_told (Block b)) (list_any (λ z. leads X z.read.name && declares b z) ks) h).0
      told_so (Saved n y) h = (and_parts (is_told (Saved n y)) (list_any (λ z. (leads X z.read.name && not (bytes_eq X z.read.name)) && (bytes_eq z.read.name n && kept_named z.symbols (number_from 1 (symbol_names z.symbols) y))) ks) h).0

      pub module_laid : Laid (known_of ps sss) g (part_of (known_of ps sss) g cs entry (known p ss)) (such p.module_read.name)
      module_laid = record {
        own = λ n. refl;
        told = told_so;
        lies = lies_there;
        above = lies_above;
        block = block_common;
        saved = saved_below;
        open_saved = saved_open;
        not_lost = saved_kept;
        lost = lost_owned;
        no_actual = no_expression;
        share = shared_units;
      }

    -- ---- a CALL

    module _ (laid : AreLaidOut ps sss) (plain : (i : ℕ) (p : ParsedTree) (ss : List SymbolTree) → IsModule ps sss i p ss → is_plain p.module_read.name ≡ true) (told : (i : ℕ) (p : ParsedTree) (ss : List SymbolTree) → IsModule ps sss i p ss → (n : ℕ) (s : SymbolTree) → symbol_at ss n ≡ Some s → has_colon s.name ≡ false) (blocks : (i : ℕ) (p : ParsedTree) (ss : List SymbolTree) → IsModule ps sss i p ss → (n : ℕ) (s : SymbolTree) (y : List ℕ) (o : ℕ) → symbol_at ss n ≡ Some s → s.place ≡ place.Block y o → has_colon y ≡ false)
        (i : ℕ) (p : ParsedTree) (ss : List SymbolTree) (m : IsModule ps sss i p ss) (j : ℕ) (q : ParsedTree) (tt' : List SymbolTree) (mq : IsModule ps sss j q tt') (has : HasCall p ss q.module_read.name) (cs : Callees) (entry : System) where
      abbrev caller : List ℕ
      caller = p.module_read.name

      abbrev called : List ℕ
      called = q.module_read.name

      reached : leads called called ≡ true
      reached = at_once g.edges (length ks) called called ((bytes_eq-Decides called called).1 refl)

      -- what the callee reaches the caller reaches, and it is not the caller
      on : (z : List ℕ) → leads called z ≡ true → leads caller z ≡ true
      on z h = lead_on ps sss g l i p ss m called z has h

      apart : (z : List ℕ) → leads called z ≡ true → bytes_eq caller z ≡ false
      apart z h = go (bytes_eq caller z) refl
        where
          go : (c : Bool) → bytes_eq caller z ≡ c → c ≡ false
          go true e = absurd (never_back ps sss g l i p ss m called has (subst (λ w. leads called w ≡ true) (sym ((bytes_eq-Decides caller z).0 e)) h))
          go false e = refl

      others_named : (n y : List ℕ) → such called (Saved n y) ≡ true → such caller (Saved n y) ≡ true
      others_named n y h =
          let a = and_parts (is_told (Saved n y)) (list_any (λ z. (leads called z.read.name && not (bytes_eq called z.read.name)) && (bytes_eq z.read.name n && kept_named z.symbols (number_from 1 (symbol_names z.symbols) y))) ks) h in
          let f = any_found (λ z. (leads called z.read.name && not (bytes_eq called z.read.name)) && (bytes_eq z.read.name n && kept_named z.symbols (number_from 1 (symbol_names z.symbols) y))) ks a.1 in
          let w = f.item.read.name in
          let b = and_parts (leads called w && not (bytes_eq called w)) (bytes_eq w n && kept_named f.item.symbols (number_from 1 (symbol_names f.item.symbols) y)) f.holds in
          let c = and_parts (leads called w) (not (bytes_eq called w)) b.0 in
          and_from (is_told (Saved n y)) (list_any (λ z. (leads caller z.read.name && not (bytes_eq caller z.read.name)) && (bytes_eq z.read.name n && kept_named z.symbols (number_from 1 (symbol_names z.symbols) y))) ks) a.0
          (any_at (λ z. (leads caller z.read.name && not (bytes_eq caller z.read.name)) && (bytes_eq z.read.name n && kept_named z.symbols (number_from 1 (symbol_names z.symbols) y))) ks f.place f.item f.is_item
          (and_from (leads caller w && not (bytes_eq caller w)) (bytes_eq w n && kept_named f.item.symbols (number_from 1 (symbol_names f.item.symbols) y)) (and_from (leads caller w) (not (bytes_eq caller w)) (on w c.0) (ap not (apart w c.0))) b.1))

      blocks_named : (y : List ℕ) → such called (Block y) ≡ true → such caller (Block y) ≡ true
      blocks_named y h =
          let a = and_parts (is_told (Block y)) (list_any (λ z. leads called z.read.name && declares y z) ks) h in
          let f = any_found (λ z. leads called z.read.name && declares y z) ks a.1 in
          let b = and_parts (leads called f.item.read.name) (declares y f.item) f.holds in
          and_from (is_told (Block y)) (list_any (λ z. leads caller z.read.name && declares y z) ks) a.0
          (any_at (λ z. leads caller z.read.name && declares y z) ks f.place f.item f.is_item (and_from (leads caller f.item.read.name) (declares y f.item) (on f.item.read.name b.0) b.1))

      block_named : (n : ℕ) (s : SymbolTree) (y : List ℕ) (o : ℕ) → symbol_at tt' n ≡ Some s → s.place ≡ place.Block y o → such caller (Block y) ≡ true
      block_named n s y o e lies =
          and_from (is_told (Block y)) (list_any (λ z. leads caller z.read.name && declares y z) ks) (ap not (blocks j q tt' mq n s y o e lies))
          (any_at (λ z. leads caller z.read.name && declares y z) ks j (known q tt') (known_module ps sss j q tt' mq)
          (and_from (leads caller called) (declares y (known q tt')) (on called reached) (any_at (λ (z : SymbolTree). is_in y z.place) tt' (n - 1) s (numbered_place tt' n s e) (ap (is_in y) lies ∙ (bytes_eq-Decides y y).1 refl))))

      saved_named : (n : ℕ) (s : SymbolTree) → symbol_at tt' n ≡ Some s → is_local s.place ≡ true → s.saved ≡ true → such caller (Saved called s.name) ≡ true
      saved_named n s e local kept =
          let number = numbered_once q tt' (laid j q tt' mq) n s e in
          let there' : kept_named tt' (number_from 1 (symbol_names tt') s.name) ≡ true = ap (kept_named tt') number ∙ (ap is_kept_local e ∙ and_from (is_local s.place) s.saved local kept) in
          and_from (is_told (Saved called s.name)) (list_any (λ z. (leads caller z.read.name && not (bytes_eq caller z.read.name)) && (bytes_eq z.read.name called && kept_named z.symbols (number_from 1 (symbol_names z.symbols) s.name))) ks)
          (and_from (is_plain called) (not (has_colon s.name)) (plain j q tt' mq) (ap not (told j q tt' mq n s e)))
          (any_at (λ z. (leads caller z.read.name && not (bytes_eq caller z.read.name)) && (bytes_eq z.read.name called && kept_named z.symbols (number_from 1 (symbol_names z.symbols) s.name))) ks j (known q tt') (known_module ps sss j q tt' mq)
          (and_from (leads caller called && not (bytes_eq caller called)) (bytes_eq called called && kept_named tt' (number_from 1 (symbol_names tt') s.name)) (and_from (leads caller called) (not (bytes_eq caller called)) (on called reached) (ap not (apart called reached)))
          (and_from (bytes_eq called called) (kept_named tt' (number_from 1 (symbol_names tt') s.name)) ((bytes_eq-Decides called called).1 refl) there')))

      pub call_names : NamesGo (part_of (known_of ps sss) g cs entry (known q tt')) (such p.module_read.name) (such q.module_read.name) q.module_read.name
      call_names = record { saved = saved_named; block = block_named; blocks = blocks_named; others = others_named }
