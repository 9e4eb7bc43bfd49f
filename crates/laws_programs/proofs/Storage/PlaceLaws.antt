-- Where the symbols of a module lie, whatever their numbers.
use Rattle.std.proofs.Common.{◌≡◌, ℕ, ◌+◌, ◌*◌, ◌<◌, Bool, true, false, List, Option, Some, None, refl, sym, ap, ◌∙◌, subst, arith}
use Rattle.std.specs.Prelude.{nat_le, nat_lt}
use Rattle.std.proofs.lemmas.Bool.{and_parts, ltb-true}
use Rattle.std.proofs.Math.Nat.{mul-pos}
use Rattle.f77_ast.specs.DeclTrees.{ParsedTree}
use Rattle.f77_ast.specs.Calls.{in_place, nowhere}
use Rattle.f77_ast.specs.declared.symbol.Place.{Place}
use Rattle.f77_ast.specs.declared.symbol.Place.TheVariants as place
use Rattle.f77_ast.specs.Symbols.{SymbolTree}
use Rattle.f77_ast.specs.Shared.{symbol_at}
use Rattle.call_graph.specs.declared.graph.Graph.{Graph}
use Rattle.f77_meaning.specs.Areas.{Area, block, group, own, Numbering, area_number, unit_at}
use Rattle.f77_meaning.specs.Modules.{Known, known_of, fixed, fixed_place, fixed_maybe}
use Rattle.f77_meaning.specs.Linked.{offset_in, numbering}
use Rattle.f77_meaning.specs.Laws.{IsKnown, area_of, IsUnit}
use Rattle.f77_meaning.proofs.ModuleLaws.{variables_occupy_their_storage, has_room}
use Rattle.laws_programs.specs.Storage.Programs.{IsLinked, IsModule, known}
use Rattle.laws_programs.specs.Storage.CellLaws.{units}
use Rattle.laws_programs.proofs.Storage.ModuleLaws.{declared, area_known}

-- ---- the units of areas are not 0

number_positive : (g : Numbering) (a : Area) → IsKnown g a → 0 < area_number g a
number_positive g (block x) h = omega (arith, h)
number_positive g (group m n) h = omega arith
number_positive g (own m s k) h = omega arith

pub unit_positive : (g : Numbering) (a : Area) (o : ℕ) → IsKnown g a → 0 < g.room → 0 < unit_at g a o
unit_positive g a o h r = let p : 0 < area_number g a * g.room = mul-pos (number_positive g a h) r in omega (arith, p)

pub outside_nowhere : (u : ℕ) → 0 < u → in_place nowhere u ≡ false
outside_nowhere u h = go (in_place nowhere u) refl
  where
    go : (b : Bool) → in_place nowhere u ≡ b → b ≡ false
    go true e = let p = and_parts (nat_le 0 u) (nat_lt u (0 + 1)) e in let less = ltb-true u (0 + 1) p.1 in absurd (omega (arith, less, h))
    go false e = refl

-- ---- symbols with an area, and the others

-- a number is that of a symbol with an area, or has no place of its own
pub data Lies (g : Numbering) (k : Known) (v : ℕ) : Type 0 where
  somewhere : (s : SymbolTree) (a : Area) → symbol_at k.symbols v ≡ Some s → area_of k.read.name s.place ≡ Some a → Lies g k v
  missing : fixed g k v ≡ nowhere → Lies g k v

no_area : (g : Numbering) (m : List ℕ) (ss : List SymbolTree) (s : SymbolTree) (p : Place) → area_of m p ≡ None → fixed_place g m ss s p ≡ nowhere
no_area g m ss s (place.Local n o) e = cc
no_area g m ss s (place.Dummy k) e = refl
no_area g m ss s (place.Block b o) e = cc
no_area g m ss s (place.Constant v) e = refl

pub lies : (g : Numbering) (k : Known) (v : ℕ) → Lies g k v
lies g k v = go (symbol_at k.symbols v) refl
  where
    by_area : (s : SymbolTree) → symbol_at k.symbols v ≡ Some s → (o : Option Area) → area_of k.read.name s.place ≡ o → Lies g k v
    by_area s e None f = missing (ap (fixed_maybe g k.read.name k.symbols) e ∙ no_area g k.read.name k.symbols s s.place f)
    by_area s e (Some a) f = somewhere s a e f

    go : (o : Option SymbolTree) → symbol_at k.symbols v ≡ o → Lies g k v
    go None e = missing (ap (fixed_maybe g k.read.name k.symbols) e)
    go (Some s) e = by_area s e (area_of k.read.name s.place) refl

-- what has no place of its own has no unit of an area
pub missing_has_none : (g : Numbering) (k : Known) (v u : ℕ) → fixed g k v ≡ nowhere → 0 < u → in_place (fixed g k v) u ≡ false
missing_has_none g k v u e h = ap (λ p. in_place p u) e ∙ outside_nowhere u h

-- a unit of a symbol with an area is not 0
pub unit_of_name : (ps : List ParsedTree) (sss : List (List SymbolTree)) (g : Graph) → IsLinked ps sss g → (i : ℕ) (p : ParsedTree) (ss : List SymbolTree) → IsModule ps sss i p ss → (v u : ℕ) (s : SymbolTree) (a : Area) →
    symbol_at ss v ≡ Some s → area_of p.module_read.name s.place ≡ Some a → in_place (fixed (units ps sss g) (known p ss) v) u ≡ true → 0 < u
unit_of_name ps sss g l i p ss m v u s a e f h =
    let x = variables_occupy_their_storage (known_of ps sss) g (known p ss) v s a u (declared ps sss i p ss m v s e) f h in
    let positive = unit_positive (units ps sss g) a x.distance (area_known ps sss g l i p ss m v s a e f) (has_room (known_of ps sss)) in
    subst (λ n. 0 < n) (sym x.unit) positive
