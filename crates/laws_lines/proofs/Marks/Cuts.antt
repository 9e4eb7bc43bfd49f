-- A text over the lines of a directive is read as that text.
use Rattle.std.proofs.Common.{◌≡◌, ℕ, ◌+◌, ◌-◌, ◌≤◌, Bool, true, false, List, [], ◌∷◌, ◌++◌, length, drop, replicate, map, refl, sym, ap, ◌∙◌, arith, append_assoc, append-nil, length-append, Some, None, if◌then◌else◌, not}
use Rattle.std.specs.Prelude.{nat_eq, bytes_eq, codes, option_map, ◌&&◌}
use Rattle.std.proofs.lemmas.Bool.{eqb-true, eqb-false}
use Rattle.std.proofs.lemmas.List.{take_all}
use Rattle.fixed_form.specs.Characters.{upper_case}
use Rattle.fixed_form.specs.Cards.{front, filled, card, field, columns, is_initial}
use Rattle.fixed_form.specs.Body.{stripped}
use Rattle.result_lines.specs.MarkText.{cut, directive_lines}
use Rattle.system_text.specs.Reading.{Bytes}
use Rattle.laws_lines.specs.Marks.Directives.{is_openmp, more_columns, text_of}

-- a row, filled with blanks
abbrev pub padded : Bytes → Bytes
padded r = r ++ replicate (66 - length r) 32

-- a line of six columns and a row, as a card
card-is : (f r : Bytes) → length f ≡ 6 → length r ≤ 66 → card (f ++ r) ≡ f ++ padded r
unfolding front filled
card-is f r e h =
    let l : length (f ++ r) ≤ 72 = omega (arith, length-append f r) in
    let n : 72 - length (f ++ r) ≡ 66 - length r = omega (arith, length-append f r) in
    ap filled (take_all 72 (f ++ r) l)
    ∙ ap (λ (k : ℕ). (f ++ r) ++ replicate k 32) n
    ∙ append_assoc f r (replicate (66 - length r) 32)

-- C$OMP in columns 1 to 5 of a card
abbrev openmp_card : Bytes → Bool
openmp_card c = bytes_eq (map upper_case (drop 1 (field c))) (codes "$OMP")

first_opens : (r : Bytes) → length r ≤ 66 → (is_openmp (codes "C$OMP " ++ r) && is_initial (card (codes "C$OMP " ++ r))) ≡ true
first_opens r h = ap (λ (c : Bytes). openmp_card c && is_initial c) (card-is (codes "C$OMP ") r refl h)

next_opens : (r : Bytes) → length r ≤ 66 → (is_openmp (codes "C$OMP&" ++ r) && not (is_initial (card (codes "C$OMP&" ++ r)))) ≡ true
next_opens r h = ap (λ (c : Bytes). openmp_card c && not (is_initial c)) (card-is (codes "C$OMP&") r refl h)

first_columns : (r : Bytes) → length r ≤ 66 → columns (card (codes "C$OMP " ++ r)) ≡ padded r
first_columns r h = ap columns (card-is (codes "C$OMP ") r refl h)

next_columns : (r : Bytes) → length r ≤ 66 → columns (card (codes "C$OMP&" ++ r)) ≡ padded r
next_columns r h = ap columns (card-is (codes "C$OMP&") r refl h)

-- ---- continuation lines

next_line : (r : Bytes) (ls : List Bytes) (t : Bytes) → length r ≤ 66 → more_columns ls ≡ Some t → more_columns ((codes "C$OMP&" ++ r) ∷ ls) ≡ Some (padded r ++ t)
next_line r ls t h e =
    ap (λ (b : Bool). if b then option_map (λ (x : Bytes). columns (card (codes "C$OMP&" ++ r)) ++ x) (more_columns ls) else None) (next_opens r h)
    ∙ ap (option_map (λ (x : Bytes). columns (card (codes "C$OMP&" ++ r)) ++ x)) e
    ∙ ap (λ (x : Bytes). Some (x ++ t)) (next_columns r h)

-- these lines have the text, and blanks behind it
abbrev NextHave : List Bytes → Bytes → Type 0
NextHave ls t = (k : ℕ) × (more_columns ls ≡ Some (t ++ replicate k 32))

full : (r : Bytes) → length r ≡ 66 → padded r ≡ r
full r e =
    let n : 66 - length r ≡ 0 = omega arith in
    ap (λ (k : ℕ). r ++ replicate k 32) n ∙ append-nil r

next_step : (b : Bool) (used c : ℕ) (done cs : Bytes) → nat_eq used 66 ≡ b → length done ≡ used → used ≤ 66
    → NextHave (cut (codes "C$OMP&" ++ (c ∷ [])) 1 cs) (c ∷ cs)
    → (used + 1 ≤ 66 → NextHave (cut (codes "C$OMP&" ++ (done ++ (c ∷ []))) (used + 1) cs) ((done ++ (c ∷ [])) ++ cs))
    → NextHave (if b then (codes "C$OMP&" ++ done) ∷ cut (codes "C$OMP&" ++ c ∷ []) 1 cs else cut ((codes "C$OMP&" ++ done) ++ c ∷ []) (used + 1) cs) (done ++ (c ∷ cs))
next_step true used c done cs e l h f g =
    let u = eqb-true used 66 e in
    let m : length done ≡ 66 = omega (arith, u) in (
      f.0,
      next_line done (cut (codes "C$OMP&" ++ c ∷ []) 1 cs) ((c ∷ cs) ++ replicate f.0 32) (omega arith) f.1
          ∙ ap (λ (x : Bytes). Some (x ++ ((c ∷ cs) ++ replicate f.0 32))) (full done m)
          ∙ ap Some (sym (append_assoc done (c ∷ cs) (replicate f.0 32))),
    )
next_step false used c done cs e l h f g =
    let u = eqb-false used 66 e in
    let x = g (omega (arith, u)) in (
      x.0,
      ap (λ (y : Bytes). more_columns (cut y (used + 1) cs)) (append_assoc (codes "C$OMP&") done (c ∷ []))
          ∙ x.1
          ∙ ap (λ (y : Bytes). Some (y ++ replicate x.0 32)) (append_assoc done (c ∷ []) cs),
    )

next_have : (t done : Bytes) (used : ℕ) → length done ≡ used → used ≤ 66 → NextHave (cut (codes "C$OMP&" ++ done) used t) (done ++ t)
next_have [] done used l h = (
  66 - length done,
  next_line done [] [] (omega arith) refl
      ∙ ap Some (append-nil (padded done))
      ∙ ap (λ (x : Bytes). Some (x ++ replicate (66 - length done) 32)) (sym (append-nil done)),
)
next_have (c ∷ cs) done used l h =
    next_step (nat_eq used 66) used c done cs refl l h (next_have cs (c ∷ []) 1 refl (omega arith))
    (λ m. next_have cs (done ++ c ∷ []) (used + 1) (omega (arith, l, length-append done (c ∷ []))) m)

-- ---- all lines

first_line : (r : Bytes) (ls : List Bytes) (t : Bytes) → length r ≤ 66 → more_columns ls ≡ Some t → text_of ((codes "C$OMP " ++ r) ∷ ls) ≡ Some (stripped false (padded r ++ t))
first_line r ls t h e =
    ap (λ (b : Bool). if b then option_map (λ (x : Bytes). stripped false (columns (card (codes "C$OMP " ++ r)) ++ x)) (more_columns ls) else None) (first_opens r h)
    ∙ ap (option_map (λ (x : Bytes). stripped false (columns (card (codes "C$OMP " ++ r)) ++ x))) e
    ∙ ap (λ (x : Bytes). Some (stripped false (x ++ t))) (first_columns r h)

abbrev pub Have : List Bytes → Bytes → Type 0
Have ls t = (k : ℕ) × (text_of ls ≡ Some (stripped false (t ++ replicate k 32)))

first_step : (b : Bool) (used c : ℕ) (done cs : Bytes) → nat_eq used 66 ≡ b → length done ≡ used → used ≤ 66
    → NextHave (cut (codes "C$OMP&" ++ (c ∷ [])) 1 cs) (c ∷ cs)
    → (used + 1 ≤ 66 → Have (cut (codes "C$OMP " ++ (done ++ (c ∷ []))) (used + 1) cs) ((done ++ (c ∷ [])) ++ cs))
    → Have (if b then (codes "C$OMP " ++ done) ∷ cut (codes "C$OMP&" ++ c ∷ []) 1 cs else cut ((codes "C$OMP " ++ done) ++ c ∷ []) (used + 1) cs) (done ++ (c ∷ cs))
first_step true used c done cs e l h f g =
    let u = eqb-true used 66 e in
    let m : length done ≡ 66 = omega (arith, u) in (
      f.0,
      first_line done (cut (codes "C$OMP&" ++ c ∷ []) 1 cs) ((c ∷ cs) ++ replicate f.0 32) (omega arith) f.1
          ∙ ap (λ (x : Bytes). Some (stripped false (x ++ ((c ∷ cs) ++ replicate f.0 32)))) (full done m)
          ∙ ap (λ (x : Bytes). Some (stripped false x)) (sym (append_assoc done (c ∷ cs) (replicate f.0 32))),
    )
first_step false used c done cs e l h f g =
    let u = eqb-false used 66 e in
    let x = g (omega (arith, u)) in (
      x.0,
      ap (λ (y : Bytes). text_of (cut y (used + 1) cs)) (append_assoc (codes "C$OMP ") done (c ∷ []))
          ∙ x.1
          ∙ ap (λ (y : Bytes). Some (stripped false (y ++ replicate x.0 32))) (append_assoc done (c ∷ []) cs),
    )

first_have : (t done : Bytes) (used : ℕ) → length done ≡ used → used ≤ 66 → Have (cut (codes "C$OMP " ++ done) used t) (done ++ t)
first_have [] done used l h = (
  66 - length done,
  first_line done [] [] (omega arith) refl
      ∙ ap (λ (x : Bytes). Some (stripped false x)) (append-nil (padded done))
      ∙ ap (λ (x : Bytes). Some (stripped false (x ++ replicate (66 - length done) 32))) (sym (append-nil done)),
)
first_have (c ∷ cs) done used l h =
    first_step (nat_eq used 66) used c done cs refl l h (next_have cs (c ∷ []) 1 refl (omega arith))
    (λ m. first_have cs (done ++ c ∷ []) (used + 1) (omega (arith, l, length-append done (c ∷ []))) m)

-- the lines of a directive have its text
pub lines_have : (t : Bytes) → Have (directive_lines t) t
lines_have t = first_have t [] 0 refl (omega arith)
