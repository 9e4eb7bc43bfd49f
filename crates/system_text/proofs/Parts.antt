-- Variables and terms are read as they were written.
use Rattle.std.proofs.Common.{◌≡◌, ℕ, ◌^◌, ◌<◌, Bool, true, false, List, [], ◌++◌, refl, sym, ap, ◌∙◌, append-nil, Some, None, decimal, unsigned_abs}
use Rattle.std.specs.Prelude.{nat_eq, codes, option_map, option_and_then, if◌then◌else◌}
use Rattle.std.specs.Option.{option_or}
use Rattle.std.proofs.lemmas.Bool.Decides.{Decides-eqb}
use Rattle.affine_systems.specs.declared.row.Var.{Var}
use Rattle.affine_systems.specs.declared.row.Var.TheVariants.{Cell, Exit, Phi, Aux}
use Rattle.affine_systems.specs.declared.row.Term.{Term}
use Rattle.system_text.specs.SystemText.{name_at, var_text, term_text}
use Rattle.system_text.specs.Reading.{Bytes, var_of, read_var, read_number, Number, Times, part_of, read_part}
use Rattle.system_text.specs.Printed.{in_name, AreNames, IsNumber, IsNamed}
use Rattle.system_text.proofs.Texts.{IsFree, free-append, pieces-one, pieces-two}
use Rattle.system_text.proofs.Names.{made_free, name_made, name_is_no_number, decimal_made, number-back, name_of_number, name-back}

-- a mark that stands in no variable
pub record IsMark (m : ℕ) : Type 0 where
  pub name : in_name m ≡ false
  pub apostrophe : nat_eq 39 m ≡ false

-- nor in a term
pub record IsOuter (m : ℕ) : Type 0 where
  pub mark : IsMark m
  pub star : nat_eq 42 m ≡ false

free_name : (names : List Bytes) (n m : ℕ) → in_name m ≡ false → AreNames names → IsNumber names n → IsFree m (name_at names n)
free_name names n m e h k = made_free m (name_at names n) e (name_made (name_at names n) (name_of_number names n h k))

pub free_decimal : (n m : ℕ) → in_name m ≡ false → n < 10 ^ 64 → IsFree m (decimal n)
free_decimal n m e l = made_free m (decimal n) e (decimal_made n l)

pub free_var : (names : List Bytes) (v : Var) (m : ℕ) → IsMark m → AreNames names → IsNamed names v → IsFree m (var_text names v)
free_var names (Cell n) m e h k = free_name names n m e.name h k
free_var names (Exit n) m e h k = free-append m (name_at names n) (codes "'") (free_name names n m e.name h k) (e.apostrophe, tt)
free_var names (Phi n) m e h k = absurd k
free_var names (Aux n) m e h k = absurd k

-- ---- variables

pub var-back : (names : List Bytes) (v : Var) → AreNames names → IsNamed names v → read_var names (var_text names v) ≡ Some v
var-back names (Cell n) h k =
    ap (var_of names) (pieces-one 39 (name_at names n) (free_name names n 39 refl h k))
    ∙ ap (option_map Cell) (name-back names n h k)
var-back names (Exit n) h k =
    ap (var_of names) (pieces-two 39 (name_at names n) [] (free_name names n 39 refl h k) tt)
    ∙ ap (option_map Exit) (name-back names n h k)
var-back names (Phi n) h k = absurd k
var-back names (Aux n) h k = absurd k

var_is_no_number : (names : List Bytes) (v : Var) → AreNames names → IsNamed names v → read_number (var_text names v) ≡ None
var_is_no_number names (Cell n) h k = ap read_number (sym (append-nil (name_at names n))) ∙ name_is_no_number (name_at names n) [] (name_of_number names n h k)
var_is_no_number names (Exit n) h k = name_is_no_number (name_at names n) (codes "'") (name_of_number names n h k)
var_is_no_number names (Phi n) h k = absurd k
var_is_no_number names (Aux n) h k = absurd k

star_is_mark : IsMark 42
star_is_mark = record { name = refl; apostrophe = refl }

-- ---- terms

plain-back : (names : List Bytes) (v : Var) → AreNames names → IsNamed names v → read_part names (var_text names v) ≡ Some (Times 1 v)
plain-back names v h k =
    ap (part_of names) (pieces-one 42 (var_text names v) (free_var names v 42 star_is_mark h k))
    ∙ (let n : read_number (var_text names v) ≡ None = var_is_no_number names v h k in
    let r : read_var names (var_text names v) ≡ Some v = var-back names v h k in
    ap (λ o. option_or (option_map Number o) (option_map (Times 1) (read_var names (var_text names v)))) n
    ∙ ap (option_map (Times 1)) r)

factor-back : (names : List Bytes) (n : ℕ) (v : Var) → n < 10 ^ 64 → AreNames names → IsNamed names v → read_part names (decimal n ++ (codes "*" ++ var_text names v)) ≡ Some (Times n v)
factor-back names n v l h k =
    ap (part_of names) (pieces-two 42 (decimal n) (var_text names v) (free_decimal n 42 refl l) (free_var names v 42 star_is_mark h k))
    ∙ (ap (λ o. option_and_then (λ f. option_and_then (λ w. Some (Times f w)) (read_var names (var_text names v))) o) (number-back n l)
    ∙ ap (λ o. option_and_then (λ w. Some (Times n w)) o) (var-back names v h k))

term_at : (names : List Bytes) (n : ℕ) (v : Var) (b : Bool) → nat_eq n 1 ≡ b → n < 10 ^ 64 → AreNames names → IsNamed names v
    → read_part names (if b then var_text names v else decimal n ++ (codes "*" ++ var_text names v)) ≡ Some (Times n v)
term_at names n v true e l h k = plain-back names v h k ∙ ap (λ m. Some (Times m v)) (sym ((Decides-eqb n 1).0 e))
term_at names n v false e l h k = factor-back names n v l h k

pub term-back : (names : List Bytes) (t : Term) → unsigned_abs t.factor < 10 ^ 64 → AreNames names → IsNamed names t.var → read_part names (term_text names t) ≡ Some (Times (unsigned_abs t.factor) t.var)
term-back names t l h k = term_at names (unsigned_abs t.factor) t.var (nat_eq (unsigned_abs t.factor) 1) refl l h k

free_term_at : (names : List Bytes) (n : ℕ) (v : Var) (m : ℕ) (b : Bool) → n < 10 ^ 64 → IsOuter m → AreNames names → IsNamed names v
    → IsFree m (if b then var_text names v else decimal n ++ (codes "*" ++ var_text names v))
free_term_at names n v m true l e h k = free_var names v m e.mark h k
free_term_at names n v m false l e h k =
    free-append m (decimal n) (codes "*" ++ var_text names v) (free_decimal n m e.mark.name l) (e.star, free_var names v m e.mark h k)

pub free_term : (names : List Bytes) (t : Term) (m : ℕ) → unsigned_abs t.factor < 10 ^ 64 → IsOuter m → AreNames names → IsNamed names t.var → IsFree m (term_text names t)
free_term names t m l e h k = free_term_at names (unsigned_abs t.factor) t.var m (nat_eq (unsigned_abs t.factor) 1) l e h k

-- a number alone
pub number_part : (names : List Bytes) (n : ℕ) → n < 10 ^ 64 → read_part names (decimal n) ≡ Some (Number n)
number_part names n l =
    ap (part_of names) (pieces-one 42 (decimal n) (free_decimal n 42 refl l))
    ∙ ap (λ o. option_or (option_map Number o) (option_map (Times 1) (read_var names (decimal n)))) (number-back n l)
