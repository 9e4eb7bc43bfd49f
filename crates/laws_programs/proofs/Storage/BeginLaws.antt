-- The store at the start, at the units of tracked cells.
use Rattle.std.proofs.Common.{◌≡◌, ℕ, zero, suc, ◌+◌, ◌-◌, ◌<◌, ◌≤◌, Bool, true, false, ℤ, List, [], ◌∷◌, length, Option, Some, None, ◌⊎◌, inl, inr, refl, sym, ap, ◌∙◌, subst, arith}
use Rattle.std.specs.Prelude.{if◌then◌else◌, nat_le, nat_lt, ◌&&◌, slice_get}
use Rattle.std.proofs.lemmas.Bool.{and_parts, and_from, leb-true, ltb-true, le-leb, lt-ltb, cases_eq}
use Rattle.f77_ast.specs.DeclTrees.{ParsedTree}
use Rattle.f77_ast.specs.declared.decl.Scalar.{Scalar}
use Rattle.f77_ast.specs.Store as tag
use Rattle.f77_ast.specs.Store.{Content, content}
use Rattle.f77_ast.specs.Places.{scalar_place}
use Rattle.f77_ast.specs.Calls.{in_place}
use Rattle.f77_ast.specs.declared.symbol.Place.{Place}
use Rattle.f77_ast.specs.declared.symbol.Place.TheVariants as place
use Rattle.f77_ast.specs.declared.symbol.InitialRun.{InitialRun}
use Rattle.f77_ast.specs.Symbols.{SymbolTree}
use Rattle.f77_ast.specs.Units.{units_in}
use Rattle.f77_ast.specs.Shared.{symbol_at}
use Rattle.call_graph.specs.declared.graph.Graph.{Graph}
use Rattle.f77_meaning.specs.Areas.{Area, group, block, Numbering, unit_at}
use Rattle.f77_meaning.specs.Modules.{Known, known_of, tag_of, fixed, fixed_place, fixed_maybe, value_from}
use Rattle.f77_meaning.specs.Linked.{offset_in, numbering, or_else, or_empty, content_of, initial_by, initial_in, initial_of, initial}
use Rattle.f77_meaning.specs.Laws.{Declared, area_of, DataFits}
use Rattle.f77_meaning.proofs.ModuleLaws.{names_meet}
use Rattle.laws_programs.specs.Storage.Programs.{IsLinked, IsModule, IsCell, known}
use Rattle.laws_programs.specs.Storage.CellLaws.{units}
use Rattle.laws_programs.specs.Storage.Initial.{LiesInside, DataLies, DataLiesInVariables, CellsBeginWithData}
use Rattle.laws_programs.proofs.Storage.ModuleLaws.{known_module, declared, area_known, names_tell_modules}
use Rattle.laws_programs.proofs.Storage.CellLaws.{cells_are_scalars, cells_have_places, cells_stand_alone}
use Rattle.laws_programs.proofs.Storage.LocalLaws.{group_at}
use Rattle.f77_meaning.proofs.InitialLaws.{run_from, Run}
use Rattle.f77_ast.proofs.StorageLaws.{from_number as numbered_place, to_number as next_symbol}

-- ---- the modules that are known

pub record ModuleOf (ps : List ParsedTree) (sss : List (List SymbolTree)) (i : ℕ) (k : Known) : Type 0 where
  pub parsed : ParsedTree
  pub table : List SymbolTree
  pub is_module : IsModule ps sss i parsed table
  pub is_known : k ≡ known parsed table

pub module_of : (ps : List ParsedTree) (sss : List (List SymbolTree)) (i : ℕ) (k : Known) → slice_get (known_of ps sss) i ≡ Some k → ModuleOf ps sss i k
module_of [] sss i k e = cc
module_of (p ∷ ps) [] i k e = cc
module_of (p ∷ ps) (ss ∷ sss) zero k e = let same : known p ss ≡ k = cc in record { parsed = p; table = ss; is_module = record { parsed = refl; table = refl }; is_known = sym same }
module_of (p ∷ ps) (ss ∷ sss) (suc i) k e =
    let r = module_of ps sss i k e in
    record { parsed = r.parsed; table = r.table; is_module = record { parsed = r.is_module.parsed; table = r.is_module.table }; is_known = r.is_known }

pub data_lies_in_variables : DataLiesInVariables
data_lies_in_variables ps sss lies k n s d j r e =
    let m = module_of ps sss d.at k d.is_module in
    let is : symbol_at m.table n ≡ Some s = ap (λ z. symbol_at z.symbols n) (sym m.is_known) ∙ d.is_symbol in
    let x = lies d.at m.parsed m.table m.is_module n s is j r e in
    let within = subst (λ (z : Known). r.offset + r.count ≤ units_in z.symbols s) (sym m.is_known) x.within in
    ((group m.parsed.module_read.name x.storage, ap (λ z. area_of z.read.name s.place) m.is_known ∙ x.is_local), within)

-- ---- runs of values

some_value : (t : Scalar) (o : Option ℤ) (c : Content) → content_of t o ≡ Some c → (v : ℤ) × (o ≡ Some v)
some_value t None c e = cc
some_value t (Some v) c e = (v, refl)

-- ---- who gives a value

-- the first unit of a symbol
abbrev begin_at : Numbering → Known → SymbolTree → ℕ
begin_at n k s = (fixed_place n k.read.name k.symbols s s.place).first

record GivenIn (n : Numbering) (k : Known) (ss : List SymbolTree) (u : ℕ) (c : Content) : Type 0 where
  place : ℕ
  symbol : SymbolTree
  is_symbol : slice_get ss place ≡ Some symbol
  gives : initial_by symbol (begin_at n k symbol) u ≡ Some c

given_in : (n : Numbering) (k : Known) (ss : List SymbolTree) (u : ℕ) (c : Content) → initial_in n k ss u ≡ Some c → GivenIn n k ss u c
given_in n k [] u c e = cc
given_in n k (s ∷ ss) u c e = go (initial_by s (begin_at n k s) u) refl e (given_in n k ss u c)
  where
    go : (o : Option Content) → initial_by s (begin_at n k s) u ≡ o → or_else o (initial_in n k ss u) ≡ Some c → (initial_in n k ss u ≡ Some c → GivenIn n k ss u c) → GivenIn n k (s ∷ ss) u c
    go None q h ih = let r = ih h in record { place = suc r.place; symbol = r.symbol; is_symbol = r.is_symbol; gives = r.gives }
    go (Some d) q h ih = record { place = zero; symbol = s; is_symbol = refl; gives = q ∙ h }

record GivenOf (n : Numbering) (ks : List Known) (u : ℕ) (c : Content) : Type 0 where
  at : ℕ
  by : Known
  is_module : slice_get ks at ≡ Some by
  given : GivenIn n by by.symbols u c

given_of : (n : Numbering) (ks : List Known) (u : ℕ) (c : Content) → initial_of n ks u ≡ Some c → GivenOf n ks u c
given_of n [] u c e = cc
given_of n (k ∷ ks) u c e = go (initial_in n k k.symbols u) refl e (given_of n ks u c)
  where
    go : (o : Option Content) → initial_in n k k.symbols u ≡ o → or_else o (initial_of n ks u) ≡ Some c → (initial_of n ks u ≡ Some c → GivenOf n ks u c) → GivenOf n (k ∷ ks) u c
    go None q h ih = let r = ih h in record { at = suc r.at; by = r.by; is_module = r.is_module; given = r.given }
    go (Some d) q h ih = record { at = zero; by = k; is_module = refl; given = given_in n k k.symbols u c (q ∙ h) }

some_in : (n : Numbering) (k : Known) (ss : List SymbolTree) (i : ℕ) (s : SymbolTree) (u : ℕ) (c : Content) → slice_get ss i ≡ Some s → initial_by s (begin_at n k s) u ≡ Some c → (d : Content) × (initial_in n k ss u ≡ Some d)
some_in n k [] i s u c e h = cc
some_in n k (t ∷ ss) zero s u c e h =
    let same : s ≡ t = cc in
    (c, ap (λ o. or_else o (initial_in n k ss u)) (ap (λ z. initial_by z (begin_at n k z) u) (sym same) ∙ h))
some_in n k (t ∷ ss) (suc i) s u c e h = go (initial_by t (begin_at n k t) u) (some_in n k ss i s u c e h)
  where
    go : (o : Option Content) → (d : Content) × (initial_in n k ss u ≡ Some d) → (d : Content) × (or_else o (initial_in n k ss u) ≡ Some d)
    go None r = r
    go (Some d) r = (d, refl)

some_of : (n : Numbering) (ks : List Known) (i : ℕ) (k : Known) (u : ℕ) (c : Content) → slice_get ks i ≡ Some k → initial_in n k k.symbols u ≡ Some c → (d : Content) × (initial_of n ks u ≡ Some d)
some_of n [] i k u c e h = cc
some_of n (l ∷ ks) zero k u c e h =
    let same : k ≡ l = cc in
    (c, ap (λ o. or_else o (initial_of n ks u)) (ap (λ z. initial_in n z z.symbols u) (sym same) ∙ h))
some_of n (l ∷ ks) (suc i) k u c e h = go (initial_in n l l.symbols u) (some_of n ks i k u c e h)
  where
    go : (o : Option Content) → (d : Content) × (initial_of n ks u ≡ Some d) → (d : Content) × (or_else o (initial_of n ks u) ≡ Some d)
    go None r = r
    go (Some d) r = (d, refl)

-- ---- units of locals

in_group : (n : Numbering) (m : List ℕ) (ss : List SymbolTree) (s : SymbolTree) (p : Place) (h offset count u : ℕ) → area_of m p ≡ Some (group m h) → offset + count ≤ units_in ss s →
    (fixed_place n m ss s p).first + offset ≤ u → u < (fixed_place n m ss s p).first + offset + count → in_place (fixed_place n m ss s p) u ≡ true
in_group n m ss s (place.Local i o) h offset count u e f x y = and_from (nat_le (unit_at n (group m i) o) u) (nat_lt u (unit_at n (group m i) o + units_in ss s)) (le-leb (unit_at n (group m i) o) u (omega (arith, x))) (lt-ltb u (unit_at n (group m i) o + units_in ss s) (omega (arith, f, y)))
in_group n m ss s (place.Dummy i) h offset count u e f x y = cc
in_group n m ss s (place.Block b o) h offset count u e f x y = cc
in_group n m ss s (place.Constant v) h offset count u e f x y = cc

pub own_unit : (u : ℕ) → in_place (scalar_place u tag.Int) u ≡ true
own_unit u = and_from (nat_le u u) (nat_lt u (u + 1)) (le-leb u u (omega arith)) (lt-ltb u (u + 1) (omega arith))

-- ---- tracked cells

module _ (ps : List ParsedTree) (sss : List (List SymbolTree)) (g : Graph) (l : IsLinked ps sss g) (lies : DataLies ps sss) (i : ℕ) (p : ParsedTree) (ss : List SymbolTree) (m : IsModule ps sss i p ss) (n : ℕ) (s : SymbolTree) (a : Area) (c : IsCell g p ss n s) (at : area_of p.module_read.name s.place ≡ Some a) where
  abbrev N : Numbering
  N = units ps sss g

  abbrev U : ℕ
  U = unit_at (units ps sss g) a (offset_in s.place)

  begins : begin_at N (known p ss) s ≡ U
  begins = ap (λ q. q.first) (ap (fixed_maybe N p.module_read.name ss) (sym c.is_symbol) ∙ cells_have_places ps sss g p ss n s a c at)

  has_it : in_place (fixed N (known p ss) n) U ≡ true
  has_it = ap (λ q. in_place q U) (cells_have_places ps sss g p ss n s a c at) ∙ own_unit U

  -- what gives a value there is the cell itself
  same_giver : (d : Content) (j : ℕ) (q : ParsedTree) (tt' : List SymbolTree) → IsModule ps sss j q tt' → (k : ℕ) (t : SymbolTree) → slice_get tt' k ≡ Some t → initial_by t (begin_at N (known q tt') t) U ≡ Some d → initial_by s (begin_at N (known p ss) s) U ≡ Some d
  same_giver d j q tt' mq k t e gives =
      let value = some_value t.scalar (value_from (begin_at N (known q tt') t) t.initial U) d gives in
      let run = run_from (begin_at N (known q tt') t) t.initial U value.0 value.1 in
      let is = next_symbol tt' k t e in
      let x = lies j q tt' mq (suc k) t is run.at run.run run.is_run in
      let has : in_place (fixed N (known q tt') (suc k)) U ≡ true = ap (λ o. in_place (fixed_maybe N q.module_read.name tt' o) U) is ∙ in_group N q.module_read.name tt' t t.place x.storage run.run.offset run.run.count U x.is_local x.within run.from run.below in
      let area = names_meet (known_of ps sss) g (known p ss) (known q tt') n (suc k) s t a (group q.module_read.name x.storage) U (declared ps sss i p ss m n s c.is_symbol) (declared ps sss j q tt' mq (suc k) t is) at x.is_local
      (area_known ps sss g l i p ss m n s a c.is_symbol at) (area_known ps sss g l j q tt' mq (suc k) t (group q.module_read.name x.storage) is x.is_local) has_it has in
      let names = group_at p.module_read.name q.module_read.name x.storage s.place (at ∙ ap Some area) in
      let index = names_tell_modules ps sss g l i j p q ss tt' m mq names in
      let parsed : p ≡ q = (let z : Some p ≡ Some q = sym m.parsed ∙ ap (slice_get ps) index ∙ mq.parsed in cc) in
      let table : ss ≡ tt' = (let z : Some ss ≡ Some tt' = sym m.table ∙ ap (slice_get sss) index ∙ mq.table in cc) in
      let there : in_place (fixed N (known p ss) (suc k)) U ≡ true = ap (λ z. in_place (fixed N (known z ss) (suc k)) U) parsed ∙ ap (λ z. in_place (fixed N (known q z) (suc k)) U) table ∙ has in
      let same = one_cell k there in
      let symbol : s ≡ t = (let z : Some s ≡ Some t = sym c.is_symbol ∙ ap (symbol_at ss) (sym same) ∙ ap (λ y. symbol_at y (suc k)) table ∙ is in cc) in
      ap (λ z. initial_by s (begin_at N (known z ss) s) U) parsed ∙ ap (λ z. initial_by s (begin_at N (known q z) s) U) table ∙ ap (λ z. initial_by z (begin_at N (known q tt') z) U) symbol ∙ gives
    where
      one_cell : (k : ℕ) → in_place (fixed N (known p ss) (suc k)) U ≡ true → suc k ≡ n
      one_cell k there = go (cases_eq (suc k) n)
        where
          go : (suc k ≡ n) ⊎ (suc k ≡ n → ⊥) → suc k ≡ n
          go (inl e) = e
          go (inr ne) = let no = cells_stand_alone ps sss g l i p ss m n s a c at (suc k) U ne has_it in let z : true ≡ false = sym there ∙ no in cc

  -- the value that DATA gives the cell
  own_value : (r : InitialRun) (rs : List InitialRun) → s.initial ≡ r ∷ rs → initial_by s (begin_at N (known p ss) s) U ≡ Some (content tag.Int r.value)
  own_value r rs e =
      let x = lies i p ss m n s c.is_symbol 0 r (ap (λ z. slice_get z 0) e) in
      let is = cells_are_scalars g p ss n s c in
      let one = is.2 in
      let low : U + r.offset ≤ U = omega (arith, x.within, x.some, one) in
      let high : U < U + r.offset + r.count = omega (arith, x.some) in
      let test : (nat_le (U + r.offset) U && nat_lt U (U + r.offset + r.count)) ≡ true = and_from (nat_le (U + r.offset) U) (nat_lt U (U + r.offset + r.count)) (le-leb (U + r.offset) U low) (lt-ltb U (U + r.offset + r.count) high) in
      ap (λ f. content_of s.scalar (value_from f s.initial U)) begins ∙ ap (λ z. content_of s.scalar (value_from U z U)) e ∙ ap (λ b. content_of s.scalar (if b then Some r.value else value_from U rs U)) test ∙ ap (λ t. Some (content (tag_of t) r.value)) is.0

  pub begin_with : (r : InitialRun) (rs : List InitialRun) → s.initial ≡ r ∷ rs → initial (known_of ps sss) g U ≡ content tag.Int r.value
  begin_with r rs e =
      let mine = own_value r rs e in
      let inside = some_in N (known p ss) ss (n - 1) s U (content tag.Int r.value) (numbered_place ss n s c.is_symbol) mine in
      let all = some_of N (known_of ps sss) i (known p ss) U inside.0 (known_module ps sss i p ss m) inside.1 in
      let given = given_of N (known_of ps sss) U all.0 all.1 in
      let giver = module_of ps sss given.at given.by given.is_module in
      let by = subst (λ (z : Known). GivenIn N z z.symbols U all.0) giver.is_known given.given in
      let again = same_giver all.0 given.at giver.parsed giver.table giver.is_module by.place by.symbol by.is_symbol by.gives in
      let same : all.0 ≡ content tag.Int r.value = (let z : Some all.0 ≡ Some (content tag.Int r.value) = sym again ∙ mine in cc) in
      ap (or_empty U) all.1 ∙ same

pub cells_begin_with_data : CellsBeginWithData
cells_begin_with_data ps sss g l lies i p ss m n s a r rs c at e = begin_with ps sss g l lies i p ss m n s a c at r rs e
