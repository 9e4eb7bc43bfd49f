-- The store at the start has values where DATA gives them alone.
use Rattle.std.proofs.Common.{◌≡◌, ℕ, zero, suc, ◌+◌, ◌-◌, ◌<◌, ◌≤◌, Bool, true, false, ℤ, List, [], ◌∷◌, Option, Some, None, refl, sym, ap, ◌∙◌, arith}
use Rattle.std.specs.Prelude.{if◌then◌else◌, nat_le, nat_lt, ◌&&◌, slice_get}
use Rattle.std.proofs.lemmas.Bool.{and_parts, and_from, leb-true, ltb-true, le-leb, lt-ltb, ne_eqb}
use Rattle.f77_ast.specs.Calls.{in_place}
use Rattle.f77_ast.specs.declared.symbol.Place.{Place}
use Rattle.f77_ast.specs.declared.symbol.Place.TheVariants as place
use Rattle.f77_ast.specs.declared.symbol.InitialRun.{InitialRun}
use Rattle.f77_ast.specs.Symbols.{SymbolTree}
use Rattle.f77_ast.specs.Units.{units_in}
use Rattle.f77_ast.specs.Shared.{symbol_at}
use Rattle.call_graph.specs.declared.graph.Graph.{Graph}
use Rattle.f77_meaning.specs.Areas.{Area, group, block, own, Numbering, unit_at}
use Rattle.f77_meaning.specs.Modules.{Known, fixed_place, fixed_maybe, value_from}
use Rattle.f77_meaning.specs.Linked.{numbering, or_else, or_empty, content_of, initial_in, initial_of, initial}
use Rattle.f77_meaning.specs.Laws.{Declared, area_of, DataFits, IsOfVariable, OthersBeginUnset, OwnUnitsBeginUnset}
use Rattle.f77_meaning.proofs.ModuleLaws.{own_units_apart}
use Rattle.f77_meaning.proofs.BlockLaws.{areas_are_known}
use Rattle.f77_ast.proofs.StorageLaws.{to_number as next_symbol}

-- ---- runs of values

pub record Run (first : ℕ) (rs : List InitialRun) (u : ℕ) : Type 0 where
  pub at : ℕ
  pub run : InitialRun
  pub is_run : slice_get rs at ≡ Some run
  pub from : first + run.offset ≤ u
  pub below : u < first + run.offset + run.count

pub run_from : (first : ℕ) (rs : List InitialRun) (u : ℕ) (v : ℤ) → value_from first rs u ≡ Some v → Run first rs u
run_from first [] u v e = cc
run_from first (r ∷ rs) u v e = go (nat_le (first + r.offset) u && nat_lt u (first + r.offset + r.count)) refl e (run_from first rs u v)
  where
    go : (b : Bool) → (nat_le (first + r.offset) u && nat_lt u (first + r.offset + r.count)) ≡ b → (if b then Some r.value else value_from first rs u) ≡ Some v → (value_from first rs u ≡ Some v → Run first rs u) → Run first (r ∷ rs) u
    go true h i ih =
        let p = and_parts (nat_le (first + r.offset) u) (nat_lt u (first + r.offset + r.count)) h in
        record { at = zero; run = r; is_run = refl; from = leb-true (first + r.offset) u p.0; below = ltb-true u (first + r.offset + r.count) p.1 }
    go false h i ih = let q = ih i in record { at = suc q.at; run = q.run; is_run = q.is_run; from = q.from; below = q.below }

-- ---- modules

record Begun (n : Numbering) (k : Known) (ss : List SymbolTree) (u : ℕ) : Type 0 where
  place : ℕ
  symbol : SymbolTree
  is_symbol : slice_get ss place ≡ Some symbol
  by : Run (fixed_place n k.read.name k.symbols symbol symbol.place).first symbol.initial u

pub data Either (A B : Type 0) : Type 0 where
  one : A → Either A B
  other : B → Either A B

begun_in : (n : Numbering) (k : Known) (ss : List SymbolTree) (u : ℕ) → Either (initial_in n k ss u ≡ None) (Begun n k ss u)
begun_in n k [] u = one refl
begun_in n k (s ∷ ss) u = go (value_from (fixed_place n k.read.name k.symbols s s.place).first s.initial u) refl (begun_in n k ss u)
  where
    go : (o : Option ℤ) → value_from (fixed_place n k.read.name k.symbols s s.place).first s.initial u ≡ o → Either (initial_in n k ss u ≡ None) (Begun n k ss u) → Either (or_else (content_of s.scalar o) (initial_in n k ss u) ≡ None) (Begun n k (s ∷ ss) u)
    go None e (one h) = one h
    go None e (other b) = other (record { place = suc b.place; symbol = b.symbol; is_symbol = b.is_symbol; by = b.by })
    go (Some v) e ih = other (record { place = zero; symbol = s; is_symbol = refl; by = run_from (fixed_place n k.read.name k.symbols s s.place).first s.initial u v e })

record BegunOf (n : Numbering) (ks : List Known) (u : ℕ) : Type 0 where
  at : ℕ
  known : Known
  is_module : slice_get ks at ≡ Some known
  begun : Begun n known known.symbols u

begun_of : (n : Numbering) (ks : List Known) (u : ℕ) → Either (initial_of n ks u ≡ None) (BegunOf n ks u)
begun_of n [] u = one refl
begun_of n (k ∷ ks) u = go (begun_in n k k.symbols u) (begun_of n ks u)
  where
    go : Either (initial_in n k k.symbols u ≡ None) (Begun n k k.symbols u) → Either (initial_of n ks u ≡ None) (BegunOf n ks u) → Either (or_else (initial_in n k k.symbols u) (initial_of n ks u) ≡ None) (BegunOf n (k ∷ ks) u)
    go (one e) (one h) = one (ap (λ o. or_else o (initial_of n ks u)) e ∙ h)
    go (one e) (other b) = other (record { at = suc b.at; known = b.known; is_module = b.is_module; begun = b.begun })
    go (other b) h = other (record { at = zero; known = k; is_module = refl; begun = b })

-- ---- variables

-- a unit that a run within a variable covers is one of the variable
within_variable : (n : Numbering) (m : List ℕ) (ss : List SymbolTree) (s : SymbolTree) (p : Place) (a : Area) (offset count u : ℕ) → area_of m p ≡ Some a → offset + count ≤ units_in ss s →
    (fixed_place n m ss s p).first + offset ≤ u → u < (fixed_place n m ss s p).first + offset + count → in_place (fixed_place n m ss s p) u ≡ true
within_variable n m ss s (place.Local i o) a offset count u e f g h = and_from (nat_le (unit_at n (group m i) o) u) (nat_lt u (unit_at n (group m i) o + units_in ss s)) (le-leb (unit_at n (group m i) o) u (omega (arith, g))) (lt-ltb u (unit_at n (group m i) o + units_in ss s) (omega (arith, f, h)))
within_variable n m ss s (place.Dummy i) a offset count u e f g h = cc
within_variable n m ss s (place.Block x o) a offset count u e f g h = and_from (nat_le (unit_at n (block x) o) u) (nat_lt u (unit_at n (block x) o + units_in ss s)) (le-leb (unit_at n (block x) o) u (omega (arith, g))) (lt-ltb u (unit_at n (block x) o + units_in ss s) (omega (arith, f, h)))
within_variable n m ss s (place.Constant v) a offset count u e f g h = cc

of_variable : (ks : List Known) (g : Graph) (u : ℕ) → DataFits ks → BegunOf (numbering ks g) ks u → IsOfVariable ks g u
of_variable ks g u fits b =
    let n = numbering ks g in
    let k = b.known in
    let s = b.begun.symbol in
    let d : Declared ks k (suc b.begun.place) s = record { at = b.at; is_module = b.is_module; is_symbol = next_symbol k.symbols b.begun.place s b.begun.is_symbol } in
    let r = b.begun.by in
    let fit = fits k (suc b.begun.place) s d r.at r.run r.is_run in
    record {
      by = k;
      number = suc b.begun.place;
      symbol = s;
      area = fit.0.0;
      declared = d;
      lies = fit.0.1;
      has_unit = ap (λ o. in_place (fixed_maybe n k.read.name k.symbols o) u) d.is_symbol ∙ within_variable n k.read.name k.symbols s s.place fit.0.0 r.run.offset r.run.count u fit.0.1 fit.1 r.from r.below;
    }

pub others_begin_unset : OthersBeginUnset
others_begin_unset ks g u fits none = go (begun_of (numbering ks g) ks u)
  where
    go : Either (initial_of (numbering ks g) ks u ≡ None) (BegunOf (numbering ks g) ks u) → initial ks g u ≡ or_empty u None
    go (one e) = ap (or_empty u) e
    go (other b) = absurd (none (of_variable ks g u fits b))

pub own_units_begin_unset : OwnUnitsBeginUnset
own_units_begin_unset ks g x call spot blocks fits known =
    others_begin_unset ks g (unit_at (numbering ks g) (own x call spot) 0) fits (λ v.
    let no = own_units_apart ks g v.by v.number v.symbol v.area x call spot v.declared v.lies (areas_are_known ks g v.by v.number v.symbol v.area blocks v.declared v.lies) known in
    let yes = v.has_unit in
    let z : true ≡ false = sym yes ∙ no in cc)
