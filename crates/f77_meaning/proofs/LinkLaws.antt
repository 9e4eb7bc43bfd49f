-- Modules that are numbered, and the units of COMMON.
use Rattle.std.proofs.Common.{◌≡◌, ℕ, zero, suc, ◌/◌, ◌<◌, Bool, true, false, List, [], ◌∷◌, length, map, Some, refl, sym, ap, ◌∙◌, subst, arith}
use Rattle.std.specs.Prelude.{if◌then◌else◌, bytes_eq, ◌&&◌, ◌||◌, slice_get}
use Rattle.std.specs.List.{list_any}
use Rattle.std.proofs.lemmas.Bool.{and_parts, and_from, eqb-true, eq-eqb}
use Rattle.std.proofs.lemmas.Nat.{div-mul-add}
use Rattle.std.proofs.lemmas.Slice.Eq.{bytes_eq-Decides}
use Rattle.f77_ast.specs.Symbols.{number_from}
use Rattle.f77_meaning.specs.Areas.{Area, block, group, own, Numbering, or_zero, area_number, unit_at, is_unit_of}
use Rattle.f77_meaning.specs.Modules.{Known}
use Rattle.f77_meaning.specs.Linked.{room_for, numbering, declares, reaches, is_common}
use Rattle.f77_meaning.specs.Laws.{IsKnown, ModulesAreKnown, IsDeclaredBelow, CommonIsOfBlocks}
use Rattle.f77_meaning.proofs.UnitLaws.{same_place}
use Rattle.fx_lists.proofs.Lookups.{any_at}

-- ---- elements of lists

pub record Found {A : Type 0} (p : A → Bool) (xs : List A) : Type 0 where
  pub place : ℕ
  pub item : A
  pub is_item : slice_get xs place ≡ Some item
  pub holds : p item ≡ true

pub any_found : {A : Type 0} (p : A → Bool) (xs : List A) → list_any p xs ≡ true → Found p xs
any_found p [] h = cc
any_found {A = A} p (x ∷ xs) h = go (p x) refl h (any_found p xs)
  where
    go : (b : Bool) → p x ≡ b → (b || list_any p xs) ≡ true → (list_any p xs ≡ true → Found p xs) → Found p (x ∷ xs)
    go true e h ih = record { place = zero; item = x; is_item = refl; holds = e }
    go false e h ih = let f = ih h in record { place = suc f.place; item = f.item; is_item = f.is_item; holds = f.holds }

-- ---- modules

known_from : (ks : List Known) (i n : ℕ) (k : Known) → slice_get ks i ≡ Some k → n < or_zero (number_from (suc n) (map (λ l. l.read.name) ks) k.read.name)
known_from [] i n k e = cc
known_from (l ∷ ks) zero n k e =
    let same : l ≡ k = cc in
    let t : bytes_eq k.read.name l.read.name ≡ true = (bytes_eq-Decides k.read.name l.read.name).1 (ap (λ x. x.read.name) (sym same)) in
    subst (λ b. n < or_zero (if b then Some (suc n) else number_from (suc (suc n)) (map (λ x. x.read.name) ks) k.read.name)) (sym t) (omega arith)
known_from (l ∷ ks) (suc i) n k e = go (bytes_eq k.read.name l.read.name) (known_from ks i (suc n) k e)
  where
    go : (b : Bool) → suc n < or_zero (number_from (suc (suc n)) (map (λ x. x.read.name) ks) k.read.name) → n < or_zero (if b then Some (suc n) else number_from (suc (suc n)) (map (λ x. x.read.name) ks) k.read.name)
    go true h = omega arith
    go false h = omega (arith, h)

pub modules_are_known : ModulesAreKnown
modules_are_known ks g i n k e = known_from ks i 0 k e

-- ---- COMMON

of_area : (n : Numbering) (a : Area) (o : ℕ) (b : List ℕ) → o < n.room → is_unit_of n (block b) (unit_at n a o) ≡ true → area_number n a ≡ area_number n (block b)
of_area n a o b h e = sym (div-mul-add (area_number n a) n.room o h) ∙ eqb-true (unit_at n a o / n.room) (area_number n (block b)) e

is_that_block : (n : Numbering) (a : Area) (b : List ℕ) → IsKnown n a → area_number n a ≡ area_number n (block b) → a ≡ block b
is_that_block n (block x) b h e = ap block (same_place n.blocks x b h (omega (arith, e)))
is_that_block n (group m i) b h e = absurd (omega (arith, e))
is_that_block n (own m s k) b h e = absurd (omega (arith, e))

pub common_is_of_blocks : CommonIsOfBlocks
common_is_of_blocks ks g x a o known room = (there, back)
  where
    there : is_common ks g x (unit_at (numbering ks g) a o) ≡ true → (b : List ℕ) × (a ≡ block b) × IsDeclaredBelow ks g x b
    there h =
        let f = any_found (λ k. reaches (length ks) g.edges x k.read.name && list_any (λ b. declares b.name k && is_unit_of (numbering ks g) (block b.name) (unit_at (numbering ks g) a o)) g.blocks) ks h in
        let both = and_parts (reaches (length ks) g.edges x f.item.read.name) (list_any (λ b. declares b.name f.item && is_unit_of (numbering ks g) (block b.name) (unit_at (numbering ks g) a o)) g.blocks) f.holds in
        let q = any_found (λ b. declares b.name f.item && is_unit_of (numbering ks g) (block b.name) (unit_at (numbering ks g) a o)) g.blocks both.1 in
        let pair = and_parts (declares q.item.name f.item) (is_unit_of (numbering ks g) (block q.item.name) (unit_at (numbering ks g) a o)) q.holds in (
          q.item.name,
          is_that_block (numbering ks g) a q.item.name known (of_area (numbering ks g) a o q.item.name room pair.1),
          record { module_at = f.place; by = f.item; is_module = f.is_item; reached = both.0; block_at = q.place; the_block = q.item; is_block = q.is_item; is_named = refl; declared = pair.0 },
        )

    back : (b : List ℕ) × (a ≡ block b) × IsDeclaredBelow ks g x b → is_common ks g x (unit_at (numbering ks g) a o) ≡ true
    back (b, e, d) =
        let number : area_number (numbering ks g) a ≡ area_number (numbering ks g) (block d.the_block.name) = ap (area_number (numbering ks g)) (e ∙ ap block (sym d.is_named)) in
        let is : is_unit_of (numbering ks g) (block d.the_block.name) (unit_at (numbering ks g) a o) ≡ true = eq-eqb (unit_at (numbering ks g) a o / room_for ks) (area_number (numbering ks g) (block d.the_block.name)) (div-mul-add (area_number (numbering ks g) a) (room_for ks) o room ∙ number) in
        any_at (λ k. reaches (length ks) g.edges x k.read.name && list_any (λ c. declares c.name k && is_unit_of (numbering ks g) (block c.name) (unit_at (numbering ks g) a o)) g.blocks) ks d.module_at d.by d.is_module
        (and_from _ _ d.reached (any_at (λ c. declares c.name d.by && is_unit_of (numbering ks g) (block c.name) (unit_at (numbering ks g) a o)) g.blocks d.block_at d.the_block d.is_block (and_from _ _ d.declared is)))
