-- What is kept of a base within a limit.
use Rattle.std.proofs.Common.{◌≡◌, ℕ, ◌<◌, ◌≤◌, Bool, true, false, List, [], length, Some, None, Ok, refl, sym, subst, ap, ◌∙◌, arith}
use Rattle.std.specs.Prelude.{nat_le}
use Rattle.base_json.specs.Shapes.{when}
use Rattle.base_values.proofs.Options.{Decides-leb}
use Rattle.base_values.proofs.RowsBack.{when_true}
use Rattle.base_text.specs.declared.base.Base.{Base}
use Rattle.base_text.specs.declared.base.StoredResult.{StoredResult}
use Rattle.base_text.specs.Read.{base, base_of}
use Rattle.base_text.specs.Written.{base_text, without_results, kept_base, kept}
use Rattle.base_text.specs.Grammar.{IsBase}
use Rattle.session_texts.proofs.ScriptLemmas.{too_few as above}
use Rattle.fx_lists.proofs.Booleans.{chosen, not_chosen}

at_most : (n m : ℕ) → n ≤ m → nat_le n m ≡ true
at_most n m h = (Decides-leb n m).1 h

pub whole_kept : (b : Base) (limit : ℕ) → length (base_text b) ≤ limit → kept_base b limit ≡ b
whole_kept b limit h = chosen (nat_le (length (base_text b)) limit) b (without_results b) (at_most (length (base_text b)) limit h)

pub bare_kept : (b : Base) (limit : ℕ) → limit < length (base_text b) → kept_base b limit ≡ without_results b
bare_kept b limit h = not_chosen (nat_le (length (base_text b)) limit) b (without_results b) (above (length (base_text b)) limit h)

-- the text of what is kept, where that is some base
kept_some : (b c : Base) (limit : ℕ) → kept_base b limit ≡ c → length (base_text c) ≤ limit → kept b limit ≡ Some (base_text c)
kept_some b c limit e h =
    ap (λ x. when (nat_le (length (base_text x)) limit) (base_text x)) e ∙ when_true (nat_le (length (base_text c)) limit) (base_text c) (at_most (length (base_text c)) limit h)

when_false : (t : Bool) (x : List ℕ) → t ≡ false → when t x ≡ None
when_false true x e = cc
when_false false x e = refl

kept_nothing : (b c : Base) (limit : ℕ) → kept_base b limit ≡ c → limit < length (base_text c) → kept b limit ≡ None
kept_nothing b c limit e h =
    ap (λ x. when (nat_le (length (base_text x)) limit) (base_text x)) e ∙ when_false (nat_le (length (base_text c)) limit) (base_text c) (above (length (base_text c)) limit h)

-- ---- for what the function returns

pub whole_text : (b : Base) (limit : ℕ) (t : List ℕ) → t ≡ base_text b → length t ≤ limit → Some t ≡ kept b limit
whole_text b limit t e h =
    let l : length (base_text b) ≤ limit = omega (arith, ap length e) in
    ap Some e ∙ sym (kept_some b b limit (whole_kept b limit l) l)

pub bare_text : (b : Base) (limit : ℕ) (none : List StoredResult) (t u : List ℕ) → none ≡ [] → t ≡ base_text b → limit < length t → u ≡ base_text (base b.modules none) → length u ≤ limit → Some u ≡ kept b limit
bare_text b limit none t u n e h f k =
    let g : u ≡ base_text (without_results b) = f ∙ ap (λ rs. base_text (base b.modules rs)) n in
    let l : limit < length (base_text b) = omega (arith, ap length e) in
    let m : length (base_text (without_results b)) ≤ limit = omega (arith, ap length g) in
    ap Some g ∙ sym (kept_some b (without_results b) limit (bare_kept b limit l) m)

pub no_text : (b : Base) (limit : ℕ) (none : List StoredResult) (t u : List ℕ) → none ≡ [] → t ≡ base_text b → limit < length t → u ≡ base_text (base b.modules none) → limit < length u → None ≡ kept b limit
no_text b limit none t u n e h f k =
    let g : u ≡ base_text (without_results b) = f ∙ ap (λ rs. base_text (base b.modules rs)) n in
    let l : limit < length (base_text b) = omega (arith, ap length e) in
    let m : limit < length (base_text (without_results b)) = omega (arith, ap length g) in
    sym (kept_nothing b (without_results b) limit (bare_kept b limit l) m)

-- modules alone are a base
bare_is_base : (b : Base) → IsBase b → IsBase (without_results b)
bare_is_base b h = record { bytes = h.bytes; found = h.found; are_modules = h.are_modules; once = h.once; fit = tt; ordered = refl }

pub whole_back : (b : Base) (limit : ℕ) (t : List ℕ) → t ≡ base_text b → length t ≤ limit → base_of t ≡ Ok b → base_of t ≡ Ok (kept_base b limit)
whole_back b limit t e h r = r ∙ ap Ok (sym (whole_kept b limit (let l : length (base_text b) ≤ limit = omega (arith, ap length e) in l)))

pub bare_back : (b : Base) (limit : ℕ) (none : List StoredResult) (t u : List ℕ) → none ≡ [] → t ≡ base_text b → limit < length t
    → (IsBase (base b.modules none) → base_of u ≡ Ok (base b.modules none)) → IsBase b → base_of u ≡ Ok (kept_base b limit)
bare_back b limit none t u n e h r i =
    let l : limit < length (base_text b) = omega (arith, ap length e) in
    r (subst (λ (rs : List StoredResult). IsBase (base b.modules rs)) (sym n) (bare_is_base b i))
    ∙ ap (λ rs. Ok (base b.modules rs)) n
    ∙ ap Ok (sym (bare_kept b limit l))
