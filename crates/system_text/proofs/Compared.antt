-- Moving the parts of the sides keeps what the row says.
use Rattle.std.proofs.Common.{◌≡◌, ◌↔◌, Bool, true, false, List, [], ◌∷◌, ◌∙◌, arith, ℤ, pos, negsuc, ◌+ℤ◌, ◌*ℤ◌}
use Rattle.std.specs.Prelude.{◌-ℤ◌}
use Rattle.std.proofs.lemmas.Int.{ints}
use Rattle.affine_systems.specs.declared.row.Term.{Term}
use Rattle.affine_systems.specs.Points.{Point, value, Meets}
use Rattle.affine_systems.proofs.Basics.{distributes, mul_assoc}
use Rattle.affine_systems.proofs.TermLaws.{value-add_term}
use Rattle.system_text.specs.Reading.{Part, Number, Times, add_side, constant}
use Rattle.system_text.specs.Meaning.{side_value, RowsCompareSides}

-- the sum of the variables alone
abbrev terms_value : Point → List Part → ℤ
terms_value p [] = pos 0
terms_value p (Number n ∷ ps) = terms_value p ps
terms_value p (Times n v ∷ ps) = (pos n *ℤ p v) +ℤ terms_value p ps

value-side : (p : Point) (c : ℤ) (ps : List Part) (ts : List Term) → value p (add_side c ps ts) ≡ (c *ℤ terms_value p ps) +ℤ value p ts
value-side p c [] ts = omega (arith, ints)
value-side p c (Number n ∷ ps) ts = value-side p c ps ts
value-side p c (Times n v ∷ ps) ts =
    value-add_term p v (c *ℤ pos n) (add_side c ps ts)
    ∙ (let ih = value-side p c ps ts in
    let d = distributes c (pos n *ℤ p v) (terms_value p ps) in
    let a = mul_assoc c (pos n) (p v) in
    omega (arith, ints, ih, d, a))

value-parts : (p : Point) (ps : List Part) → side_value p ps ≡ terms_value p ps +ℤ constant ps
value-parts p [] = omega (arith, ints)
value-parts p (Number n ∷ ps) = let ih = value-parts p ps in omega (arith, ints, ih)
value-parts p (Times n v ∷ ps) = let ih = value-parts p ps in omega (arith, ints, ih)

-- the variables of the left side less those of the right side
value-row : (p : Point) (left right : List Part) → value p (add_side (pos 1) left (add_side (negsuc 0) right [])) ≡ terms_value p left -ℤ terms_value p right
value-row p left right =
    let a = value-side p (pos 1) left (add_side (negsuc 0) right []) in
    let b = value-side p (negsuc 0) right [] in
    omega (arith, ints, a, b)

-- numbers and variables moved back to their sides
moved_back : (e : Bool) (v l r x y a b : ℤ) → v ≡ l -ℤ r → x ≡ l +ℤ a → y ≡ r +ℤ b → Meets e v (b -ℤ a) ↔ Meets e x y
moved_back true v l r x y a b f g h = ((λ k. omega (arith, ints, f, g, h, k)), (λ k. omega (arith, ints, f, g, h, k)))
moved_back false v l r x y a b f g h = ((λ k. omega (arith, ints, f, g, h, k)), (λ k. omega (arith, ints, f, g, h, k)))

pub rows_compare_sides : RowsCompareSides
rows_compare_sides p e left right =
    moved_back e (value p (add_side (pos 1) left (add_side (negsuc 0) right []))) (terms_value p left) (terms_value p right) (side_value p left) (side_value p right) (constant left) (constant right)
    (value-row p left right) (value-parts p left) (value-parts p right)
