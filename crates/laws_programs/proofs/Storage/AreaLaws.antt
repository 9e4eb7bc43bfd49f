-- Which module has an area, by the number of the area.
use Rattle.std.proofs.Common.{◌≡◌, ℕ, zero, suc, ◌+◌, ◌*◌, ◌^◌, ◌/◌, ◌%◌, ◌<◌, ◌≤◌, Bool, true, false, not, List, [], ◌∷◌, length, Some, refl, ap, ◌∙◌, arith}
use Rattle.std.specs.Prelude.{if◌then◌else◌, bytes_eq, nat_eq, ◌&&◌}
use Rattle.std.proofs.lemmas.Nat.{div-mul-add}
use Rattle.std.proofs.Math.Nat.{pow-suc, mul-add-mod_self_left}
use Rattle.f77_ast.specs.declared.symbol.Place.TheVariants as place
use Rattle.f77_ast.specs.Symbols.{number_from}
use Rattle.f77_meaning.specs.Areas.{block, group, own, Numbering, or_zero, place_in, paired, area_number, unit_at}
use Rattle.laws_programs.specs.Storage.Owners.{twos, belongs_to}

-- ---- the number of a module in the number of an area

paired_suc : (m n : ℕ) → paired (suc m) n ≡ paired m n * 2 + 0
paired_suc m n = let e : 2 ^ suc m ≡ 2 ^ m * 2 = pow-suc 2 m in rw e (omega arith)

odd_rest : (n : ℕ) → paired 0 n % 2 ≡ 1
odd_rest n = let e : paired 0 n ≡ 2 * n + 1 = omega arith in ap (λ x. x % 2) e ∙ mul-add-mod_self_left 2 n 1

even_rest : (m n : ℕ) → paired (suc m) n % 2 ≡ 0
even_rest m n = let e : paired (suc m) n ≡ 2 * paired m n + 0 = (let f = paired_suc m n in omega (arith, f)) in ap (λ x. x % 2) e ∙ mul-add-mod_self_left 2 (paired m n) 0

even_half : (m n : ℕ) → paired (suc m) n / 2 ≡ paired m n
even_half m n = ap (λ x. x / 2) (paired_suc m n) ∙ div-mul-add (paired m n) 2 0 (omega arith)

twos_paired : (t m n : ℕ) → m ≤ t → twos t (paired m n) ≡ m
twos_paired zero m n h = omega (arith, h)
twos_paired (suc t) zero n h = ap (λ x. if nat_eq x 0 then suc (twos t (paired 0 n / 2)) else 0) (odd_rest n)
twos_paired (suc t) (suc m) n h = ap (λ x. if nat_eq x 0 then suc (twos t (paired (suc m) n / 2)) else 0) (even_rest m n) ∙ ap (λ x. suc (twos t x)) (even_half m n) ∙ ap suc (twos_paired t m n (omega (arith, h)))

number_within : (n : ℕ) (names : List (List ℕ)) (x : List ℕ) → or_zero (number_from (suc n) names x) ≤ n + length names
number_within n [] x = omega arith
number_within n (y ∷ ys) x = go (bytes_eq x y) (number_within (suc n) ys x)
  where
    go : (b : Bool) → or_zero (number_from (suc (suc n)) ys x) ≤ suc n + length ys → or_zero (if b then Some (suc n) else number_from (suc (suc n)) ys x) ≤ n + suc (length ys)
    go true h = omega arith
    go false h = omega (arith, h)

place_within : (names : List (List ℕ)) (x : List ℕ) → place_in names x ≤ length names
place_within names x = let h = number_within 0 names x in omega (arith, h)

-- ---- areas

three_rest : (q r : ℕ) → r < 3 → (3 * q + r) % 3 ≡ r % 3
three_rest q r h = mul-add-mod_self_left 3 q r

three_part : (q r : ℕ) → r < 3 → (3 * q + r) / 3 ≡ q
three_part q r h = let e : 3 * q + r ≡ q * 3 + r = omega arith in ap (λ x. x / 3) e ∙ div-mul-add q 3 r h

-- a unit of an area with such a number belongs to the module whose place is in it
owned_area : (g : Numbering) (x : List ℕ) (m n r u : ℕ) → u / g.room ≡ 3 * paired m n + r → m ≤ length g.modules → r < 3 → nat_eq (r % 3) 0 ≡ false → belongs_to g x u ≡ nat_eq m (place_in g.modules x)
owned_area g x m n r u e l h z =
    ap (λ a. not (nat_eq (a % 3) 0) && nat_eq (twos (length g.modules) (a / 3)) (place_in g.modules x)) e
    ∙ ap (λ a. not (nat_eq a 0) && nat_eq (twos (length g.modules) ((3 * paired m n + r) / 3)) (place_in g.modules x)) (three_rest (paired m n) r h)
    ∙ ap (λ b. not b && nat_eq (twos (length g.modules) ((3 * paired m n + r) / 3)) (place_in g.modules x)) z
    ∙ ap (λ a. nat_eq (twos (length g.modules) a) (place_in g.modules x)) (three_part (paired m n) r h)
    ∙ ap (λ a. nat_eq a (place_in g.modules x)) (twos_paired (length g.modules) m n l)

pub group_owner : (g : Numbering) (x m : List ℕ) (n o : ℕ) → o < g.room → belongs_to g x (unit_at g (group m n) o) ≡ nat_eq (place_in g.modules m) (place_in g.modules x)
group_owner g x m n o h = owned_area g x (place_in g.modules m) n 1 (unit_at g (group m n) o) (div-mul-add (area_number g (group m n)) g.room o h) (place_within g.modules m) (omega arith) refl

pub own_owner : (g : Numbering) (x m : List ℕ) (s k o : ℕ) → o < g.room → belongs_to g x (unit_at g (own m s k) o) ≡ nat_eq (place_in g.modules m) (place_in g.modules x)
own_owner g x m s k o h = owned_area g x (place_in g.modules m) (paired s k) 2 (unit_at g (own m s k) o) (div-mul-add (area_number g (own m s k)) g.room o h) (place_within g.modules m) (omega arith) refl

-- a unit of a block belongs to none
pub no_owner : (g : Numbering) (x : List ℕ) (u : ℕ) → (u / g.room) % 3 ≡ 0 → belongs_to g x u ≡ false
no_owner g x u e = ap (λ a. not (nat_eq a 0) && nat_eq (twos (length g.modules) ((u / g.room) / 3)) (place_in g.modules x)) e

pub block_rest : (g : Numbering) (b : List ℕ) (u : ℕ) → u / g.room ≡ area_number g (block b) → (u / g.room) % 3 ≡ 0
block_rest g b u e = let f : area_number g (block b) ≡ 3 * place_in g.blocks b + 0 = omega arith in ap (λ a. a % 3) (e ∙ f) ∙ mul-add-mod_self_left 3 (place_in g.blocks b) 0
