-- Units of locals that are not saved, and of expressions that are actuals, are units of no variables of other modules.
use Rattle.std.proofs.Common.{◌≡◌, ◌⊎◌, inl, inr, ⊎_elim, ℕ, zero, suc, ◌+◌, ◌<◌, ◌≤◌, Bool, true, false, ◌||◌, List, [], ◌∷◌, ◌++◌, map, Some, refl, sym, ap, ap₂, ◌∙◌, subst, arith, nat_eq, true≢false}
use Rattle.std.specs.Prelude.{if◌then◌else◌, slice_get, nat_le, nat_lt, bytes_eq}
use Rattle.std.proofs.lemmas.Slice.Eq.{bytes_eq-Decides}
use Rattle.std.specs.List.{list_any}
use Rattle.std.proofs.lemmas.Bool.{and_from, or_left, or_right, le-leb, lt-ltb}
use Rattle.std.proofs.lemmas.Bool.Decides.{nat_tests}
use Rattle.f77_ast.specs.DeclTrees.{ParsedTree}
use Rattle.f77_ast.specs.Calls.{Dummy, in_place}
use Rattle.f77_ast.specs.Places.{Variable}
use Rattle.f77_ast.specs.Places as places
use Rattle.f77_ast.specs.Programs.{Routine}
use Rattle.f77_ast.specs.declared.symbol.Place.{Place}
use Rattle.f77_ast.specs.declared.symbol.Place.TheVariants as place
use Rattle.f77_ast.specs.Symbols.{SymbolTree}
use Rattle.f77_ast.specs.Units.{units_in}
use Rattle.f77_ast.specs.Shared.{symbol_at}
use Rattle.call_graph.specs.declared.graph.Graph.{Graph}
use Rattle.f77_meaning.specs.Areas.{Area, group, block, own, Numbering, unit_at}
use Rattle.f77_meaning.specs.Modules.{Known, known_of, names, fixed, fixed_place, fixed_maybe, dummies_from, units_from, lost_units, all_lost}
use Rattle.f77_meaning.specs.Linked.{routine, subroutines, main_of}
use Rattle.f77_meaning.specs.Laws.{area_of}
use Rattle.f77_meaning.proofs.ModuleLaws.{names_meet, has_room}
use Rattle.laws_programs.specs.Programs.{IsProgram}
use Rattle.laws_programs.proofs.Tables.{programs_are_linked}
use Rattle.laws_programs.specs.Storage.Activations.{is_dummy}
use Rattle.laws_programs.specs.Storage.Calls.{AreLaidOut}
use Rattle.laws_programs.specs.Storage.CellLaws.{units}
use Rattle.laws_programs.specs.Storage.DataLaws.{AllConstantsFit}
use Rattle.laws_programs.specs.Storage.Programs.{IsLinked, IsModule, known}
use Rattle.laws_programs.proofs.Storage.LocalLaws.{group_at, in_either, within_units}
use Rattle.laws_programs.proofs.Storage.LyingLaws.{Lying, lying_dummy, lying_local, lying_common, lying, variable_of}
use Rattle.laws_programs.proofs.Storage.ModuleLaws.{declared, area_known, own_known, names_tell_modules}
use Rattle.laws_programs.proofs.Storage.OwnUnitLaws.{own_units_are_no_names}
use Rattle.laws_programs.proofs.Storage.PlaceLaws.{unit_positive, unit_of_name}
use Rattle.call_graph.specs.CallsIn.{Each}
use Rattle.laws_analyses.proofs.IntegerLaws.{integers_fit}
use Rattle.laws_analyses.proofs.MainLaws.{MainOf, main_from}
use Rattle.laws_analyses.proofs.Modules.{IsIn, subs, subs_in, subs_are}
use Rattle.laws_analyses.proofs.UnitLaws.{in_own, module_at}
use Rattle.laws_interleavings.specs.Typed.{IsNoDummy}
use Rattle.laws_interleavings.specs.Plans.Cleared.{IsApartFrom, AllApart}
use Rattle.laws_marks.specs.Inactive.{IsOfExpression, IsOfModule, IsOfSome}
use Rattle.laws_marks.proofs.Sizes.{units_positive}
use Rattle.f77_ast.proofs.StorageLaws.{to_number as next_symbol}
use Rattle.laws_programs.proofs.Effects.Once.{main_of_linked as some_main}
use Rattle.laws_marks.specs.OwnLaws.{UnitsAreApart}

-- ---- units of locals that are not saved

-- a local that is not saved, with the unit
pub record LostAt (n : Numbering) (m : List ℕ) (ss rest : List SymbolTree) (u : ℕ) : Type 0 where
  pub at : ℕ
  pub symbol : SymbolTree
  pub is_symbol : slice_get rest at ≡ Some symbol
  pub storage : ℕ
  pub offset : ℕ
  pub lies : symbol.place ≡ place.Local storage offset
  pub kept : symbol.saved ≡ false
  pub from : unit_at n (group m storage) offset ≤ u
  pub below : u < unit_at n (group m storage) offset + units_in ss symbol

pub lost_here : (n : Numbering) (m : List ℕ) (ss rest : List SymbolTree) (s : SymbolTree) (u : ℕ) → list_any (λ v. nat_eq v u) (lost_units n m ss s s.place) ≡ true → LostAt n m ss (s ∷ rest) u
lost_here n m ss rest s u h = go s.place refl h
  where
    go : (q : Place) → s.place ≡ q → list_any (λ v. nat_eq v u) (lost_units n m ss s q) ≡ true → LostAt n m ss (s ∷ rest) u
    go (place.Local h' o) e k = inner s.saved refl k
      where
        inner : (b : Bool) → s.saved ≡ b → list_any (λ v. nat_eq v u) (if b then [] else units_from (unit_at n (group m h') o) (units_in ss s)) ≡ true → LostAt n m ss (s ∷ rest) u
        inner true w y = cc
        inner false w y = let z = within_units (unit_at n (group m h') o) (units_in ss s) u y in record { at = zero; symbol = s; is_symbol = refl; storage = h'; offset = o; lies = e; kept = w; from = z.0; below = z.1 }
    go (place.Dummy d) e k = cc
    go (place.Block b o) e k = cc
    go (place.Constant v) e k = cc

pub lost_among : (n : Numbering) (m : List ℕ) (ss rest : List SymbolTree) (u : ℕ) → list_any (λ v. nat_eq v u) (all_lost n m ss rest) ≡ true → LostAt n m ss rest u
lost_among n m ss [] u h = cc
lost_among n m ss (s ∷ rest) u h =
    ⊎_elim (λ a. lost_here n m ss rest s u a)
    (λ b. (let z = lost_among n m ss rest u b in record { at = suc z.at; symbol = z.symbol; is_symbol = z.is_symbol; storage = z.storage; offset = z.offset; lies = z.lies; kept = z.kept; from = z.from; below = z.below }))
    (in_either (λ v. nat_eq v u) (lost_units n m ss s s.place) (all_lost n m ss rest) h)

-- ---- dummies

not_listed : (ds : List Dummy) (v : ℕ) → IsNoDummy ds v → is_dummy ds v ≡ true → ⊥
not_listed [] v n h = true≢false (sym h)
not_listed (d ∷ ds) v n h = go (nat_eq d.symbol v) refl h (not_listed ds v n.1)
  where
    flip : nat_eq d.symbol v ≡ true → nat_eq v d.symbol ≡ true
    flip e = grind (arith, nat_tests)

    go : (b : Bool) → nat_eq d.symbol v ≡ b → (b || is_dummy ds v) ≡ true → (is_dummy ds v ≡ true → ⊥) → ⊥
    go true e k ih = true≢false (sym (flip e) ∙ n.0)
    go false e k ih = ih k

-- ---- no variable of a module is there

abbrev pub FixedOff : ℕ → Routine → Type 0
FixedOff u r = (x : List ℕ) (v : ℕ) → r.names x ≡ Variable v → IsNoDummy r.dummies v → (in_place (r.fixed v) u ≡ false) × (nat_eq (r.fixed v).first u ≡ false)

place_off : (p : places.Place) (u : ℕ) → 0 < p.extent → (in_place p u ≡ true → ⊥) → (in_place p u ≡ false) × (nat_eq p.first u ≡ false)
place_off p u h free = (go (in_place p u) refl, first (nat_eq p.first u) refl)
  where
    go : (b : Bool) → in_place p u ≡ b → b ≡ false
    go true e = absurd (free e)
    go false e = refl

    there : nat_eq p.first u ≡ true → p.first + 0 ≡ u
    there e = grind (arith, nat_tests)

    first : (b : Bool) → nat_eq p.first u ≡ b → b ≡ false
    first true e = absurd (free (subst (λ w. in_place p w ≡ true) (there e) (in_own p 0 h)))
    first false e = refl

module _ (ps : List ParsedTree) (sss : List (List SymbolTree)) (g : Graph) (x : IsProgram ps sss g) where
  abbrev ks : List Known
  ks = known_of ps sss

  abbrev N : Numbering
  N = units ps sss g

  pub linked : IsLinked ps sss g
  linked = (programs_are_linked ps sss g x).0

  pub laid : AreLaidOut ps sss
  laid = (programs_are_linked ps sss g x).1

  fit : AllConstantsFit ps sss
  fit = integers_fit x.lines ps sss x.parsed x.tables

  -- a variable of a module that is no dummy, and lies in an area
  pub off_one : (i : ℕ) (p : ParsedTree) (ss : List SymbolTree) → IsModule ps sss i p ss → (u : ℕ) (y : List ℕ) (v : ℕ) → names ss y ≡ Variable v → IsNoDummy (dummies_from 1 ss) v →
      ((s : SymbolTree) (a : Area) → symbol_at ss v ≡ Some s → area_of p.module_read.name s.place ≡ Some a → in_place (fixed (units ps sss g) (known p ss) v) u ≡ true → ⊥) →
      (in_place (fixed (units ps sss g) (known p ss) v) u ≡ false) × (nat_eq (fixed (units ps sss g) (known p ss) v).first u ≡ false)
  off_one i p ss m u word v e n free = go (lying ss v (variable_of ss word v e))
    where
      solid : (s : SymbolTree) (q : Place) → symbol_at ss v ≡ Some s → s.place ≡ q → ((c : _) → q ≡ place.Constant c → ⊥) → ((k : ℕ) → q ≡ place.Dummy k → ⊥) → 0 < units_in ss s
      solid s q f h a b = units_positive p ss (laid i p ss m) (fit i p ss m) v s f (λ c z. a c (sym h ∙ z)) (λ k z. b k (sym h ∙ z))

      extent : (s : SymbolTree) (q : Place) → symbol_at ss v ≡ Some s → s.place ≡ q → fixed (units ps sss g) (known p ss) v ≡ fixed_place (units ps sss g) p.module_read.name ss s q
      extent s q f h = ap (fixed_maybe (units ps sss g) p.module_read.name ss) f ∙ ap (fixed_place (units ps sss g) p.module_read.name ss s) h

      go : Lying ss v → (in_place (fixed (units ps sss g) (known p ss) v) u ≡ false) × (nat_eq (fixed (units ps sss g) (known p ss) v).first u ≡ false)
      go (lying_dummy d) = absurd (not_listed (dummies_from 1 ss) v n d)
      go (lying_local s h o f q d) =
          let z = ap (λ (r : places.Place). r.extent) (extent s (place.Local h o) f q) in
          let y = solid s (place.Local h o) f q (λ c w. cc) (λ k w. cc) in
          place_off (fixed (units ps sss g) (known p ss) v) u (omega (arith, z, y)) (free s (group p.module_read.name h) f (ap (area_of p.module_read.name) q))
      go (lying_common s b o f q d) =
          let z = ap (λ (r : places.Place). r.extent) (extent s (place.Block b o) f q) in
          let y = solid s (place.Block b o) f q (λ c w. cc) (λ k w. cc) in
          place_off (fixed (units ps sss g) (known p ss) v) u (omega (arith, z, y)) (free s (block b) f (ap (area_of p.module_read.name) q))

  pub off_from : (i : ℕ) (p : ParsedTree) (ss : List SymbolTree) → IsModule ps sss i p ss → (u : ℕ) →
      ((y : List ℕ) (v : ℕ) (s : SymbolTree) (a : Area) → names ss y ≡ Variable v → symbol_at ss v ≡ Some s → area_of p.module_read.name s.place ≡ Some a → in_place (fixed (units ps sss g) (known p ss) v) u ≡ true → ⊥) → FixedOff u (routine (known_of ps sss) g (known p ss))
  off_from i p ss m u free word v e n = off_one i p ss m u word v e n (λ s a. free word v s a e)

  -- ---- the unit of an expression

  pub record OwnOf (u : ℕ) : Type 0 where
    pub at : ℕ
    pub parsed : ParsedTree
    pub table : List SymbolTree
    pub is_module : IsModule ps sss at parsed table
    pub call : ℕ
    pub spot : ℕ
    pub is_unit : unit_at (units ps sss g) (own parsed.module_read.name call spot) 0 ≡ u

  pub own_off : (u : ℕ) → OwnOf u → (i : ℕ) (p : ParsedTree) (ss : List SymbolTree) → IsModule ps sss i p ss → FixedOff u (routine (known_of ps sss) g (known p ss))
  own_off u o i p ss m =
      off_from i p ss m u (λ y v s a w e f h. true≢false (sym (subst (λ w. in_place (fixed (units ps sss g) (known p ss) v) w ≡ true) (sym o.is_unit) h) ∙ own_units_are_no_names ps sss g linked i o.at p o.parsed ss o.table m o.is_module v o.call o.spot))

  own_some : (u : ℕ) → OwnOf u → 0 < u
  own_some u o = subst (λ w. 0 < w) o.is_unit (unit_positive (units ps sss g) (own o.parsed.module_read.name o.call o.spot) 0 (own_known ps sss g o.at o.parsed o.table o.is_module o.call o.spot) (has_room (known_of ps sss)))

  -- ---- a unit of a local that is not saved

  pub record LostOf (u : ℕ) : Type 0 where
    pub at : ℕ
    pub parsed : ParsedTree
    pub table : List SymbolTree
    pub is_module : IsModule ps sss at parsed table
    pub number : ℕ
    pub symbol : SymbolTree
    pub is_symbol : symbol_at table number ≡ Some symbol
    pub storage : ℕ
    pub offset : ℕ
    pub lies : symbol.place ≡ place.Local storage offset
    pub kept : symbol.saved ≡ false
    pub has_unit : in_place (fixed (units ps sss g) (known parsed table) number) u ≡ true

  pub lost_of : (i : ℕ) (p : ParsedTree) (ss : List SymbolTree) → IsModule ps sss i p ss → (u : ℕ) → list_any (λ v. nat_eq v u) (all_lost (units ps sss g) p.module_read.name ss ss) ≡ true → LostOf u
  lost_of i p ss m u h =
      let z = lost_among (units ps sss g) p.module_read.name ss ss u h in
      let is = next_symbol ss z.at z.symbol z.is_symbol in
      let first = unit_at (units ps sss g) (group p.module_read.name z.storage) z.offset in
      record {
        at = i;
        parsed = p;
        table = ss;
        is_module = m;
        number = suc z.at;
        symbol = z.symbol;
        is_symbol = is;
        storage = z.storage;
        offset = z.offset;
        lies = z.lies;
        kept = z.kept;
        has_unit = ap (λ o. in_place (fixed_maybe (units ps sss g) p.module_read.name ss o) u) is ∙ (ap (λ q. in_place (fixed_place (units ps sss g) p.module_read.name ss z.symbol q) u) z.lies
            ∙ and_from (nat_le first u) (nat_lt u (first + units_in ss z.symbol)) (le-leb first u z.from) (lt-ltb u (first + units_in ss z.symbol) z.below));
      }

  pub lost_in : (i : ℕ) (p : ParsedTree) (ss : List SymbolTree) (m : IsModule ps sss i p ss) (u : ℕ) (h : list_any (λ v. nat_eq v u) (all_lost (units ps sss g) p.module_read.name ss ss) ≡ true) → (lost_of i p ss m u h).parsed ≡ p
  unfolding lost_of
  lost_in i p ss m u h = refl

  pub lost_some : (u : ℕ) → LostOf u → 0 < u
  lost_some u o = unit_of_name ps sss g linked o.at o.parsed o.table o.is_module o.number u o.symbol (group o.parsed.module_read.name o.storage) o.is_symbol (ap (area_of o.parsed.module_read.name) o.lies) o.has_unit

  -- where a variable has it, it is one of the same module and group
  pub same_group : (u : ℕ) (o : LostOf u) (i : ℕ) (p : ParsedTree) (ss : List SymbolTree) → IsModule ps sss i p ss → (v : ℕ) (s : SymbolTree) (a : Area) → symbol_at ss v ≡ Some s → area_of p.module_read.name s.place ≡ Some a → in_place (fixed (units ps sss g) (known p ss) v) u ≡ true → group o.parsed.module_read.name o.storage ≡ a
  same_group u o i p ss m v s a e f h =
      let lies = ap (area_of o.parsed.module_read.name) o.lies in
      names_meet (known_of ps sss) g (known o.parsed o.table) (known p ss) o.number v o.symbol s (group o.parsed.module_read.name o.storage) a u
      (declared ps sss o.at o.parsed o.table o.is_module o.number o.symbol o.is_symbol) (declared ps sss i p ss m v s e) lies f
      (area_known ps sss g linked o.at o.parsed o.table o.is_module o.number o.symbol (group o.parsed.module_read.name o.storage) o.is_symbol lies) (area_known ps sss g linked i p ss m v s a e f) o.has_unit h

  -- of another module it is none
  pub lost_off : (u : ℕ) (o : LostOf u) (i : ℕ) (p : ParsedTree) (ss : List SymbolTree) → IsModule ps sss i p ss → (p.module_read.name ≡ o.parsed.module_read.name → ⊥) → FixedOff u (routine (known_of ps sss) g (known p ss))
  lost_off u o i p ss m other = off_from i p ss m u (λ y v s a w e f h. other (group_at p.module_read.name o.parsed.module_read.name o.storage s.place (f ∙ ap Some (sym (same_group u o i p ss m v s a e f h)))))

  -- ---- whose it is

  pub data Owned (k : Known) (u : ℕ) : Type 0 where
    of_local : list_any (λ v. nat_eq v u) (routine (known_of ps sss) g k).locals ≡ true → Owned k u
    of_expression : IsOfExpression (routine (known_of ps sss) g k) u → Owned k u

  pub owned : (k : Known) (u : ℕ) → IsOfModule (routine (known_of ps sss) g k) u → Owned k u
  owned k u h = ⊎_elim of_local of_expression h

  -- a module that has it
  pub record OwnerOf (u : ℕ) : Type 0 where
    pub at : ℕ
    pub parsed : ParsedTree
    pub table : List SymbolTree
    pub is_module : IsModule ps sss at parsed table
    pub is_owned : Owned (known parsed table) u

  pub owner_in : (k : Known) → IsIn (known_of ps sss) k → (u : ℕ) → Owned k u → OwnerOf u
  owner_in k h u w =
      let m = module_at ps sss h.at k h.is_module in
      record { at = h.at; parsed = m.parsed; table = m.table; is_module = m.is_module; is_owned = subst (λ (z : Known). Owned z u) (sym m.same) w }

  pub owner_of : (xs : List Known) → Each (IsIn (known_of ps sss)) xs → (u : ℕ) → IsOfSome (map (routine (known_of ps sss) g) xs) u → OwnerOf u
  owner_of [] h u w = absurd w
  owner_of (k ∷ xs) h u w = ⊎_elim (λ a. owner_in k h.0 u (owned k u a)) (λ b. owner_of xs h.1 u b) w

  -- then it is not the unit of what has none
  pub owner_some : (u : ℕ) → OwnerOf u → 0 < u
  owner_some u o = go o.is_owned
    where
      go : Owned (known o.parsed o.table) u → 0 < u
      go (of_local h) = lost_some u (lost_of o.at o.parsed o.table o.is_module u h)
      go (of_expression e) = own_some u (record { at = o.at; parsed = o.parsed; table = o.table; is_module = o.is_module; call = e.call; spot = e.place; is_unit = e.is_unit })

  -- two modules of one name are one
  pub one_module : (i j : ℕ) (p q : ParsedTree) (ss tt' : List SymbolTree) → IsModule ps sss i p ss → IsModule ps sss j q tt' → p.module_read.name ≡ q.module_read.name → known p ss ≡ known q tt'
  one_module i j p q ss tt' m n e =
      let at : i ≡ j = names_tell_modules ps sss g linked i j p q ss tt' m n e in
      let parsed : p ≡ q = (let z : Some p ≡ Some q = sym m.parsed ∙ ap (slice_get ps) at ∙ n.parsed in cc) in
      let table : ss ≡ tt' = (let z : Some ss ≡ Some tt' = sym m.table ∙ ap (slice_get sss) at ∙ n.table in cc) in
      ap₂ known parsed table

  apart_at : (u : ℕ) → OwnerOf u → (i : ℕ) (p : ParsedTree) (ss : List SymbolTree) → IsModule ps sss i p ss → IsApartFrom u (routine (known_of ps sss) g (known p ss))
  unfolding lost_of
  apart_at u o i p ss m = go o.is_owned
    where
      go : Owned (known o.parsed o.table) u → IsApartFrom u (routine (known_of ps sss) g (known p ss))
      go (of_expression e) = inr (own_off u (record { at = o.at; parsed = o.parsed; table = o.table; is_module = o.is_module; call = e.call; spot = e.place; is_unit = e.is_unit }) i p ss m)
      go (of_local h) = by (bytes_eq o.parsed.module_read.name p.module_read.name) refl
        where
          by : (b : Bool) → bytes_eq o.parsed.module_read.name p.module_read.name ≡ b → IsApartFrom u (routine (known_of ps sss) g (known p ss))
          by true e = inl (subst (λ (k : Known). list_any (λ v. nat_eq v u) (routine (known_of ps sss) g k).locals ≡ true) (one_module o.at i o.parsed p o.table ss o.is_module m ((bytes_eq-Decides o.parsed.module_read.name p.module_read.name).0 e)) h)
          by false e = inr (lost_off u (lost_of o.at o.parsed o.table o.is_module u h) i p ss m (λ q. true≢false (sym ((bytes_eq-Decides o.parsed.module_read.name p.module_read.name).1 (sym q)) ∙ e)))

  all_apart : (u : ℕ) → OwnerOf u → (xs : List Known) → Each (IsIn (known_of ps sss)) xs → AllApart u (map (routine (known_of ps sss) g) xs)
  all_apart u o [] h = tt
  all_apart u o (k ∷ xs) h =
      let m = module_at ps sss h.0.at k h.0.is_module in
      (subst (λ (z : Known). IsApartFrom u (routine (known_of ps sss) g z)) m.same (apart_at u o h.0.at m.parsed m.table m.is_module), all_apart u o xs h.1)

  main_is : MainOf ps sss
  main_is = main_from ps sss x.tables (some_main ps sss g x.links)

  pub owner : (u : ℕ) → IsOfExpression (routine (known_of ps sss) g (main_of (known_of ps sss))) u ⊎ IsOfSome (subroutines (known_of ps sss) g g.order) u → OwnerOf u
  owner u w = ⊎_elim by_main by_others w
    where
      by_main : IsOfExpression (routine (known_of ps sss) g (main_of (known_of ps sss))) u → OwnerOf u
      by_main e = record { at = main_is.at; parsed = main_is.parsed; table = main_is.table; is_module = main_is.is_module; is_owned = of_expression (subst (λ (k : Known). IsOfExpression (routine (known_of ps sss) g k) u) main_is.is_main e) }

      by_others : IsOfSome (subroutines (known_of ps sss) g g.order) u → OwnerOf u
      by_others h = owner_of (subs (known_of ps sss) g.order) (subs_in (known_of ps sss) g.order) u (subst (λ rs. IsOfSome rs u) (sym (subs_are (known_of ps sss) g g.order)) h)

pub units_are_apart : UnitsAreApart
units_are_apart ps sss g x u w =
    let o = owner ps sss g x u w in
    (subst (AllApart u) (subs_are (known_of ps sss) g g.order) (all_apart ps sss g x u o (subs (known_of ps sss) g.order) (subs_in (known_of ps sss) g.order)), zero_off u (owner_some ps sss g x u o))
  where
    zero_off : (u : ℕ) → 0 < u → nat_eq 0 u ≡ false
    zero_off u h = grind (arith, nat_tests)
