-- A label that a line has is one from 1 to 99999.
use Rattle.std.proofs.Common.{◌≡◌, ℕ, ◌+◌, ◌*◌, ◌≤◌, List, length, refl, arith, Bool, true, false}
use Rattle.std.specs.Prelude.{◌&&◌, nat_lt, if◌then◌else◌}
use Rattle.std.specs.List.{list_all}
use Rattle.std.proofs.lemmas.Bool.Decides.{nat_tests}
use Rattle.std.proofs.lemmas.List.{length-take}
use Rattle.fixed_form.specs.declared.label.LabelField.TheVariants.{Blank, Label, Bad}
use Rattle.fixed_form.specs.Characters.{is_space, digit_number}
use Rattle.fixed_form.specs.Cards.{field, is_label_mark, label_number, label_field}
use Rattle.fixed_form.specs.Reading.{label_of}
use Rattle.roundtrip_programs.specs.ModuleTexts.ModuleLaws.{MaybeLabel}
use Rattle.fixed_form.proofs.LawLemmas.{most-small, number_from-le as number-le}

digit-le : (v b : ℕ) → is_label_mark b ≡ true → (if is_space b then v else 10 * v + digit_number b) ≤ 10 * v + 9
digit-le v b h = grind (arith, nat_tests)

above : (n : ℕ) → nat_lt 0 n ≡ true → 1 ≤ n
above n h = grind (arith, nat_tests)

label-by : (a b c : Bool) (n : ℕ) → (b ≡ true → n ≤ 99999) → (c ≡ true → 1 ≤ n)
    → MaybeLabel (label_of (if a then Blank else if b && c then Label n else Bad))
label-by true b c n h k = tt
label-by false true true n h k = record { least = k refl; most = h refl }
label-by false true false n h k = tt
label-by false false c n h k = tt

pub field-label : (card : List ℕ) → MaybeLabel (label_of (label_field card))
field-label card =
    label-by (list_all is_space (field card)) (list_all is_label_mark (field card)) (nat_lt 0 (label_number card)) (label_number card)
    (λ h. omega (arith, number-le 0 (field card) h, most-small (length (field card)) (omega (arith, length-take {A = ℕ} 5 card))))
    (above (label_number card))
