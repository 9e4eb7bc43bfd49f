-- Where variables lie: as dummies, as locals, or in COMMON.
use Rattle.std.proofs.Common.{◌≡◌, ℕ, zero, suc, ◌+◌, ◌-◌, ◌<◌, Bool, true, false, List, [], ◌∷◌, ◌++◌, length, map, Option, Some, None, ◌⊎◌, inl, inr, refl, sym, ap, ◌∙◌, subst, arith}
use Rattle.std.specs.Prelude.{if◌then◌else◌, bytes_eq, nat_eq, ◌||◌, slice_get}
use Rattle.std.proofs.lemmas.Bool.{and_parts, or_left, or_right, eqb-true, eq-eqb, cases_Bool}
use Rattle.std.proofs.lemmas.Slice.Eq.{bytes_eq-Decides}
use Rattle.f77_ast.specs.DeclTrees.{ParsedTree}
use Rattle.f77_ast.specs.Places.{Constant, Variable, Function}
use Rattle.f77_ast.specs.Calls.{Dummy}
use Rattle.f77_ast.specs.declared.symbol.Place.{Place}
use Rattle.f77_ast.specs.declared.symbol.Place.TheVariants as place
use Rattle.f77_ast.specs.Symbols.{SymbolTree, number_from}
use Rattle.f77_ast.specs.Shared.{is_in, symbol_at}
use Rattle.tracked_cells.specs.Equivalences.{equivalenced_names}
use Rattle.tracked_cells.specs.Standing.{is_plain}
use Rattle.tracked_cells.specs.Tracked.{is_alone}
use Rattle.call_graph.specs.declared.graph.Graph.{Graph}
use Rattle.call_graph.specs.declared.graph.Block.{Block}
use Rattle.f77_meaning.specs.Areas.{block, or_zero}
use Rattle.f77_meaning.specs.Modules.{known_of, is_function, meant_by, meant_at, meant_in, symbol_names, names, as_dummy, dummies_from}
use Rattle.f77_meaning.specs.Linked.{is_common}
use Rattle.f77_meaning.specs.Laws.{area_of, IsDeclaredBelow}
use Rattle.f77_meaning.proofs.ModuleLaws.{variables_occupy_their_storage, offsets_fit}
use Rattle.f77_meaning.proofs.LinkLaws.{common_is_of_blocks}
use Rattle.laws_programs.specs.Storage.Programs.{IsCell, known}
use Rattle.laws_programs.specs.Storage.CellLaws.{units}
use Rattle.laws_programs.specs.Storage.Activations.{is_dummy, CommonNamesAreCommon}
use Rattle.laws_programs.proofs.Storage.ModuleLaws.{declared, known_module, area_known}
use Rattle.laws_programs.proofs.Storage.BelowLaws.{at_once}
use Rattle.f77_ast.proofs.StorageLaws.{from_number as numbered_place}
use Rattle.fx_lists.proofs.Lookups.{any_at}

-- ---- COMMON

-- a block that is numbered stands in the graph
record Standing (bs : List Block) (x : List ℕ) : Type 0 where
  place : ℕ
  the_block : Block
  is_block : slice_get bs place ≡ Some the_block
  is_named : the_block.name ≡ x

standing : (n : ℕ) (bs : List Block) (x : List ℕ) → 0 < or_zero (number_from n (map (λ b. b.name) bs) x) → Standing bs x
standing n [] x h = absurd (omega (arith, h))
standing n (b ∷ bs) x h = go (bytes_eq x b.name) refl h (standing (suc n) bs x)
  where
    go : (c : Bool) → bytes_eq x b.name ≡ c → 0 < or_zero (if c then Some n else number_from (suc n) (map (λ d. d.name) bs) x) → (0 < or_zero (number_from (suc n) (map (λ d. d.name) bs) x) → Standing bs x) → Standing (b ∷ bs) x
    go true e k ih = record { place = zero; the_block = b; is_block = refl; is_named = sym ((bytes_eq-Decides x b.name).0 e) }
    go false e k ih = let r = ih k in record { place = suc r.place; the_block = r.the_block; is_block = r.is_block; is_named = r.is_named }

pub common_names_are_common : CommonNamesAreCommon
common_names_are_common ps sss g l i p ss m n u s b o e at h =
    let ks = known_of ps sss in
    let N = units ps sss g in
    let area = ap (area_of p.module_read.name) at in
    let is_known = area_known ps sss g l i p ss m n s (block b) e area in
    let x = variables_occupy_their_storage ks g (known p ss) n s (block b) u (declared ps sss i p ss m n s e) area h in
    let fits = offsets_fit ks (known p ss) n s (declared ps sss i p ss m n s e) in
    let stand = standing 1 g.blocks b is_known in
    let here = at_once g.edges (length ks) p.module_read.name p.module_read.name ((bytes_eq-Decides p.module_read.name p.module_read.name).1 refl) in
    let has = any_at (λ z. is_in stand.the_block.name z.place) ss (n - 1) s (numbered_place ss n s e) (ap (is_in stand.the_block.name) at ∙ (bytes_eq-Decides b stand.the_block.name).1 (sym stand.is_named)) in
    let below : IsDeclaredBelow ks g p.module_read.name b = record { module_at = i; by = known p ss; is_module = known_module ps sss i p ss m; reached = here; block_at = stand.place; the_block = stand.the_block; is_block = stand.is_block; is_named = stand.is_named; declared = has } in
    ap (is_common ks g p.module_read.name) x.unit ∙ (common_is_of_blocks ks g p.module_read.name (block b) x.distance is_known (omega (arith, fits, x.below))).1 (b, refl, below)

-- ---- variables

-- a variable is a dummy, a local, or lies in COMMON
pub data Lying (ss : List SymbolTree) (v : ℕ) : Type 0 where
  lying_dummy : is_dummy (dummies_from 1 ss) v ≡ true → Lying ss v
  lying_local : (s : SymbolTree) (h o : ℕ) → symbol_at ss v ≡ Some s → s.place ≡ place.Local h o → is_dummy (dummies_from 1 ss) v ≡ false → Lying ss v
  lying_common : (s : SymbolTree) (b : List ℕ) (o : ℕ) → symbol_at ss v ≡ Some s → s.place ≡ place.Block b o → is_dummy (dummies_from 1 ss) v ≡ false → Lying ss v

-- the symbols that are dummies are those of the list
in_front : (d : Dummy) (ds es : List Dummy) (v : ℕ) → is_dummy es v ≡ true → is_dummy (ds ++ es) v ≡ true
in_front d [] es v h = h
in_front d (x ∷ ds) es v h = or_right (nat_eq x.symbol v) (is_dummy (ds ++ es) v) (in_front d ds es v h)

pub dummy_listed : (n : ℕ) (ss : List SymbolTree) (i : ℕ) (s : SymbolTree) (k : ℕ) → slice_get ss i ≡ Some s → s.place ≡ place.Dummy k → is_dummy (dummies_from n ss) (n + i) ≡ true
dummy_listed n [] i s k e h = cc
dummy_listed n (t ∷ ss) zero s k e h =
    let same : s ≡ t = cc in
    let at : t.place ≡ place.Dummy k = ap (λ z. z.place) (sym same) ∙ h in
    let zero_more : n ≡ n + zero = omega arith in
    ap (λ q. is_dummy (as_dummy n t q ++ dummies_from (suc n) ss) (n + zero)) at ∙ or_left (nat_eq n (n + zero)) (is_dummy (dummies_from (suc n) ss) (n + zero)) (eq-eqb n (n + zero) zero_more)
dummy_listed n (t ∷ ss) (suc i) s k e h =
    let next : suc n + i ≡ n + suc i = omega arith in
    let rest = subst (λ j. is_dummy (dummies_from (suc n) ss) j ≡ true) next (dummy_listed (suc n) ss i s k e h) in
    go t.place rest
  where
    go : (q : Place) → is_dummy (dummies_from (suc n) ss) (n + suc i) ≡ true → is_dummy (as_dummy n t q ++ dummies_from (suc n) ss) (n + suc i) ≡ true
    go (place.Local g o) r = r
    go (place.Dummy m) r = or_right (nat_eq n (n + suc i)) (is_dummy (dummies_from (suc n) ss) (n + suc i)) r
    go (place.Block b o) r = r
    go (place.Constant v) r = r

-- only they are
pub listed_dummy : (n : ℕ) (ss : List SymbolTree) (v : ℕ) → is_dummy (dummies_from n ss) v ≡ true → (i : ℕ) × (s : SymbolTree) × (k : ℕ) × (slice_get ss i ≡ Some s) × (s.place ≡ place.Dummy k) × (v ≡ n + i)
listed_dummy n [] v h = cc
listed_dummy n (t ∷ ss) v h = go t.place refl h (listed_dummy (suc n) ss v)
  where
    later : (i : ℕ) × (s : SymbolTree) × (k : ℕ) × (slice_get ss i ≡ Some s) × (s.place ≡ place.Dummy k) × (v ≡ suc n + i) → (i : ℕ) × (s : SymbolTree) × (k : ℕ) × (slice_get (t ∷ ss) i ≡ Some s) × (s.place ≡ place.Dummy k) × (v ≡ n + i)
    later r = (suc r.0, r.1, r.2, r.3, r.4, omega (arith, r.5))

    go : (q : Place) → t.place ≡ q → is_dummy (as_dummy n t q ++ dummies_from (suc n) ss) v ≡ true → (is_dummy (dummies_from (suc n) ss) v ≡ true → (i : ℕ) × (s : SymbolTree) × (k : ℕ) × (slice_get ss i ≡ Some s) × (s.place ≡ place.Dummy k) × (v ≡ suc n + i)) → (i : ℕ) × (s : SymbolTree) × (k : ℕ) × (slice_get (t ∷ ss) i ≡ Some s) × (s.place ≡ place.Dummy k) × (v ≡ n + i)
    go (place.Local g o) e i ih = later (ih i)
    go (place.Dummy k) e i ih = here (nat_eq n v) refl i
      where
        here : (b : Bool) → nat_eq n v ≡ b → (b || is_dummy (dummies_from (suc n) ss) v) ≡ true → (i : ℕ) × (s : SymbolTree) × (k : ℕ) × (slice_get (t ∷ ss) i ≡ Some s) × (s.place ≡ place.Dummy k) × (v ≡ n + i)
        here true q j = let same = eqb-true n v q in (zero, t, k, refl, e, omega (arith, same))
        here false q j = later (ih j)
    go (place.Block b o) e i ih = later (ih i)
    go (place.Constant c) e i ih = later (ih i)

pub at_least_one : (ss : List SymbolTree) (v : ℕ) (s : SymbolTree) → symbol_at ss v ≡ Some s → 1 + (v - 1) ≡ v
at_least_one ss v s e = go (cases_Bool (nat_eq v 0))
  where
    go : (nat_eq v 0 ≡ true) ⊎ (nat_eq v 0 ≡ false) → 1 + (v - 1) ≡ v
    go (inl t) = let z : None ≡ Some s = sym (ap (λ b. if b then None else slice_get ss (v - 1)) t) ∙ e in cc
    go (inr f) = more v f
      where
        more : (n : ℕ) → nat_eq n 0 ≡ false → 1 + (n - 1) ≡ n
        more zero q = cc
        more (suc n) q = omega arith

pub dummy_number : (ss : List SymbolTree) (v : ℕ) (s : SymbolTree) (k : ℕ) → symbol_at ss v ≡ Some s → s.place ≡ place.Dummy k → is_dummy (dummies_from 1 ss) v ≡ true
dummy_number ss v s k e h = subst (λ n. is_dummy (dummies_from 1 ss) n ≡ true) (at_least_one ss v s e) (dummy_listed 1 ss (v - 1) s k (numbered_place ss v s e) h)

-- the symbol of a name that stands for a variable
pub record VariableOf (ss : List SymbolTree) (v : ℕ) : Type 0 where
  pub symbol : SymbolTree
  pub is_symbol : symbol_at ss v ≡ Some symbol
  pub not_constant : (c : _) → symbol.place ≡ place.Constant c → ⊥

pub variable_of : (ss : List SymbolTree) (x : List ℕ) (v : ℕ) → names ss x ≡ Variable v → VariableOf ss v
variable_of ss x v e = by_number (number_from 1 (symbol_names ss) x) e
  where
    by_place : (n : ℕ) (s : SymbolTree) (q : Place) → symbol_at ss n ≡ Some s → s.place ≡ q → meant_by s.scalar n q ≡ Variable v → VariableOf ss v
    by_place n s (place.Local g o) h k f = let same : n ≡ v = cc in record { symbol = s; is_symbol = ap (symbol_at ss) (sym same) ∙ h; not_constant = λ c z. (let w = sym k ∙ z in cc) }
    by_place n s (place.Dummy d) h k f = let same : n ≡ v = cc in record { symbol = s; is_symbol = ap (symbol_at ss) (sym same) ∙ h; not_constant = λ c z. (let w = sym k ∙ z in cc) }
    by_place n s (place.Block b o) h k f = let same : n ≡ v = cc in record { symbol = s; is_symbol = ap (symbol_at ss) (sym same) ∙ h; not_constant = λ c z. (let w = sym k ∙ z in cc) }
    by_place n s (place.Constant d) h k f = cc

    by_function : (n : ℕ) (s : SymbolTree) (b : Bool) → symbol_at ss n ≡ Some s → (if b then Function else meant_by s.scalar n s.place) ≡ Variable v → VariableOf ss v
    by_function n s true h f = cc
    by_function n s false h f = by_place n s s.place h refl f

    by_symbol : (n : ℕ) (o : Option SymbolTree) → symbol_at ss n ≡ o → meant_at n o ≡ Variable v → VariableOf ss v
    by_symbol n None h f = cc
    by_symbol n (Some s) h f = by_function n s (is_function s) h f

    by_number : (o : Option ℕ) → meant_in ss o ≡ Variable v → VariableOf ss v
    by_number None f = cc
    by_number (Some n) f = by_symbol n (symbol_at ss n) refl f

pub lying : (ss : List SymbolTree) (v : ℕ) → VariableOf ss v → Lying ss v
lying ss v r = go (cases_Bool (is_dummy (dummies_from 1 ss) v))
  where
    by_place : (q : Place) → r.symbol.place ≡ q → is_dummy (dummies_from 1 ss) v ≡ false → Lying ss v
    by_place (place.Local g o) h f = lying_local r.symbol g o r.is_symbol h f
    by_place (place.Dummy k) h f = let t = dummy_number ss v r.symbol k r.is_symbol h in let z : true ≡ false = sym t ∙ f in cc
    by_place (place.Block b o) h f = lying_common r.symbol b o r.is_symbol h f
    by_place (place.Constant c) h f = absurd (r.not_constant c h)

    go : (is_dummy (dummies_from 1 ss) v ≡ true) ⊎ (is_dummy (dummies_from 1 ss) v ≡ false) → Lying ss v
    go (inl t) = lying_dummy t
    go (inr f) = by_place r.symbol.place refl f

-- a tracked cell is a variable
pub cell_variable : (g : Graph) (p : ParsedTree) (ss : List SymbolTree) (c : ℕ) (s : SymbolTree) → IsCell g p ss c s → VariableOf ss c
cell_variable g p ss c s cell = record { symbol = s; is_symbol = cell.is_symbol; not_constant = λ v e. no v e }
  where
    no : (v : _) → s.place ≡ place.Constant v → ⊥
    no v e =
        let alone = (and_parts (is_plain (equivalenced_names p.module_read) s) (is_alone (equivalenced_names p.module_read) ss g.untracked s.place) cell.tracked).1 in
        let z : true ≡ false = sym alone ∙ ap (is_alone (equivalenced_names p.module_read) ss g.untracked) e in
        cc
