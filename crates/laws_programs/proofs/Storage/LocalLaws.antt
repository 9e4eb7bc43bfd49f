-- Locals of modules, and their units.
use Rattle.std.proofs.Common.{◌≡◌, ℕ, zero, suc, ◌+◌, ◌-◌, ◌<◌, ◌≤◌, Bool, true, false, List, [], ◌∷◌, ◌++◌, Option, Some, None, ◌⊎◌, inl, inr, refl, sym, ap, ◌∙◌, subst, arith}
use Rattle.std.specs.Prelude.{if◌then◌else◌, nat_eq, nat_le, nat_lt, ◌||◌, slice_get}
use Rattle.std.specs.List.{list_any}
use Rattle.std.proofs.lemmas.Bool.{and_from, or_left, or_right, eqb-true, le-leb, lt-ltb, ne_eqb}
use Rattle.f77_ast.specs.DeclTrees.{ParsedTree}
use Rattle.f77_ast.specs.Calls.{in_place}
use Rattle.f77_ast.specs.declared.symbol.Place.{Place}
use Rattle.f77_ast.specs.declared.symbol.Place.TheVariants as place
use Rattle.f77_ast.specs.Symbols.{SymbolTree}
use Rattle.f77_ast.specs.Units.{units_in}
use Rattle.f77_ast.specs.Shared.{symbol_at}
use Rattle.call_graph.specs.declared.graph.Graph.{Graph}
use Rattle.f77_meaning.specs.Areas.{Area, group, Numbering, unit_at}
use Rattle.f77_meaning.specs.Modules.{known_of, fixed, fixed_place, fixed_maybe, units_from, lost_units, all_lost}
use Rattle.f77_meaning.specs.Laws.{area_of}
use Rattle.f77_meaning.proofs.ModuleLaws.{names_meet}
use Rattle.laws_programs.specs.Storage.Programs.{IsLinked, IsModule, known}
use Rattle.laws_programs.specs.Storage.CellLaws.{units, LocalsStayInside, IsOfLocal, LostUnitsAreLocal}
use Rattle.laws_programs.proofs.Storage.ModuleLaws.{declared, area_known, names_tell_modules}
use Rattle.laws_programs.proofs.Storage.PlaceLaws.{Lies, somewhere, missing, lies, missing_has_none, unit_of_name}
use Rattle.f77_ast.proofs.StorageLaws.{to_number as next_symbol}

-- ---- other modules

-- a storage group is an area of the module that has it alone
pub group_at : (m x : List ℕ) (h : ℕ) (q : Place) → area_of m q ≡ Some (group x h) → m ≡ x
group_at m x h (place.Local n o) e = cc
group_at m x h (place.Dummy k) e = cc
group_at m x h (place.Block b o) e = cc
group_at m x h (place.Constant v) e = cc

pub locals_stay_inside : LocalsStayInside
locals_stay_inside ps sss g l i j p q ss tt' m n apart v w h u s e f has = go (lies (units ps sss g) (known q tt') w)
  where
    go : Lies (units ps sss g) (known q tt') w → in_place (fixed (units ps sss g) (known q tt') w) u ≡ false
    go (somewhere t b k z) = inner (in_place (fixed (units ps sss g) (known q tt') w) u) refl
      where
        inner : (c : Bool) → in_place (fixed (units ps sss g) (known q tt') w) u ≡ c → c ≡ false
        inner true y =
            let same = names_meet (known_of ps sss) g (known p ss) (known q tt') v w s t (group p.module_read.name h) b u (declared ps sss i p ss m v s e) (declared ps sss j q tt' n w t k) f z
            (area_known ps sss g l i p ss m v s (group p.module_read.name h) e f) (area_known ps sss g l j q tt' n w t b k z) has y in
            let name = group_at q.module_read.name p.module_read.name h t.place (z ∙ ap Some (sym same)) in
            absurd (apart (names_tell_modules ps sss g l i j p q ss tt' m n (sym name)))
        inner false y = refl
    go (missing k) = missing_has_none (units ps sss g) (known q tt') w u k (unit_of_name ps sss g l i p ss m v u s (group p.module_read.name h) e f has)

-- ---- units that become undefined

-- what is in one of two lists
pub in_either : (f : ℕ → Bool) (xs ys : List ℕ) → list_any f (xs ++ ys) ≡ true → (list_any f xs ≡ true) ⊎ (list_any f ys ≡ true)
in_either f [] ys h = inr h
in_either f (x ∷ xs) ys h = go (f x) refl h (in_either f xs ys)
  where
    go : (c : Bool) → f x ≡ c → (c || list_any f (xs ++ ys)) ≡ true → (list_any f (xs ++ ys) ≡ true → (list_any f xs ≡ true) ⊎ (list_any f ys ≡ true)) → ((f x || list_any f xs) ≡ true) ⊎ (list_any f ys ≡ true)
    go true e k ih = inl (or_left (f x) (list_any f xs) e)
    go false e k ih = elim (ih k) [ inl a ↦ inl (or_right (f x) (list_any f xs) a) | inr b ↦ inr b ]

pub within_units : (first n u : ℕ) → list_any (λ v. nat_eq v u) (units_from first n) ≡ true → (first ≤ u) × (u < first + n)
within_units first zero u h = cc
within_units first (suc n) u h = go (nat_eq first u) refl h (within_units (suc first) n u)
  where
    go : (c : Bool) → nat_eq first u ≡ c → (c || list_any (λ v. nat_eq v u) (units_from (suc first) n)) ≡ true → (list_any (λ v. nat_eq v u) (units_from (suc first) n) ≡ true → (suc first ≤ u) × (u < suc first + n)) → (first ≤ u) × (u < first + suc n)
    go true e k ih = let same = eqb-true first u e in (omega (arith, same), omega (arith, same))
    go false e k ih = let z = ih k in (omega (arith, z.0), omega (arith, z.1))

-- a local among these symbols with the unit
record Lost (g : Numbering) (m : List ℕ) (ss rest : List SymbolTree) (u : ℕ) : Type 0 where
  at : ℕ
  symbol : SymbolTree
  is_symbol : slice_get rest at ≡ Some symbol
  storage : ℕ
  offset : ℕ
  lies_at : symbol.place ≡ place.Local storage offset
  from : unit_at g (group m storage) offset ≤ u
  below : u < unit_at g (group m storage) offset + units_in ss symbol

lost_here : (g : Numbering) (m : List ℕ) (ss rest : List SymbolTree) (s : SymbolTree) (u : ℕ) → list_any (λ v. nat_eq v u) (lost_units g m ss s s.place) ≡ true → Lost g m ss (s ∷ rest) u
lost_here g m ss rest s u h = go s.place refl h
  where
    go : (q : Place) → s.place ≡ q → list_any (λ v. nat_eq v u) (lost_units g m ss s q) ≡ true → Lost g m ss (s ∷ rest) u
    go (place.Local n o) e k = inner s.saved k
      where
        inner : (b : Bool) → list_any (λ v. nat_eq v u) (if b then [] else units_from (unit_at g (group m n) o) (units_in ss s)) ≡ true → Lost g m ss (s ∷ rest) u
        inner true y = cc
        inner false y = let z = within_units (unit_at g (group m n) o) (units_in ss s) u y in record { at = zero; symbol = s; is_symbol = refl; storage = n; offset = o; lies_at = e; from = z.0; below = z.1 }
    go (place.Dummy d) e k = cc
    go (place.Block b o) e k = cc
    go (place.Constant v) e k = cc

lost_among : (g : Numbering) (m : List ℕ) (ss rest : List SymbolTree) (u : ℕ) → list_any (λ v. nat_eq v u) (all_lost g m ss rest) ≡ true → Lost g m ss rest u
lost_among g m ss [] u h = cc
lost_among g m ss (s ∷ rest) u h =
    elim (in_either (λ v. nat_eq v u) (lost_units g m ss s s.place) (all_lost g m ss rest) h) [
      | inl a ↦ lost_here g m ss rest s u a
      | inr b ↦ (let z = lost_among g m ss rest u b in record { at = suc z.at; symbol = z.symbol; is_symbol = z.is_symbol; storage = z.storage; offset = z.offset; lies_at = z.lies_at; from = z.from; below = z.below })
    ]

in_local : (g : Numbering) (m : List ℕ) (ss : List SymbolTree) (s : SymbolTree) (n o u : ℕ) → s.place ≡ place.Local n o → unit_at g (group m n) o ≤ u → u < unit_at g (group m n) o + units_in ss s → in_place (fixed_place g m ss s s.place) u ≡ true
in_local g m ss s n o u e f b =
    ap (λ q. in_place (fixed_place g m ss s q) u) e
    ∙ and_from (nat_le (unit_at g (group m n) o) u) (nat_lt u (unit_at g (group m n) o + units_in ss s)) (le-leb (unit_at g (group m n) o) u f) (lt-ltb u (unit_at g (group m n) o + units_in ss s) b)

pub lost_units_are_local : LostUnitsAreLocal
lost_units_are_local ps sss g p ss u h =
    let m = p.module_read.name in
    let z = lost_among (units ps sss g) m ss ss u h in
    let is = next_symbol ss z.at z.symbol z.is_symbol in
    record {
      number = suc z.at;
      symbol = z.symbol;
      is_symbol = is;
      storage = z.storage;
      lies = ap (area_of m) z.lies_at;
      has_unit = ap (λ o. in_place (fixed_maybe (units ps sss g) m ss o) u) is ∙ in_local (units ps sss g) m ss z.symbol z.storage z.offset u z.lies_at z.from z.below;
    }
