-- Rows that a system was asked for, and the order in which it is compared.
use Rattle.std.proofs.Common.{◌≡◌, false, ◌||◌, List, [], ◌∷◌, ◌++◌, ◌<◌, ◌≤◌, ◌-◌, length, take, drop, get_or, take_all, reverse, refl, sym, ap, ap₂, subst, ◌∙◌, arith}
use Rattle.std.proofs.lemmas.List.{reverse-append}
use Rattle.affine_systems.specs.declared.row.Row.{Row}
use Rattle.affine_systems.specs.declared.row.System.{System}
use Rattle.fx_lists.proofs.Booleans.{or_assoc, or_swap, or_false}
use Rattle.region_sets.specs.declared.within.Asked.{Asked}
use Rattle.region_sets.specs.Within.{gives_row, gives_rows, within_one}
use Rattle.region_sets.specs.Joining.{AreAnswers}

-- ---- answers that are kept

-- the first, and those behind it
pub answers_rest : (rs : List Row) (as' : List Asked) (a : Asked) → 0 < length as' → a ≡ get_or as' 0 a → AreAnswers rs as' → (a.given ≡ gives_row rs a.row) × AreAnswers rs (take (length as' - 1) (drop 1 as'))
answers_rest rs [] a l e h = absurd (omega (arith, l))
answers_rest rs (b ∷ as') a l e h =
    let n : length as' ≤ length (b ∷ as') - 1 = omega arith in
    (subst (λ (c : Asked). c.given ≡ gives_row rs c.row) (sym e) h.0, subst (AreAnswers rs) (sym (take_all (length (b ∷ as') - 1) as' n)) h.1)

pub answers_push : (rs : List Row) (as' : List Asked) (a : Asked) → AreAnswers rs as' → a.given ≡ gives_row rs a.row → AreAnswers rs (as' ++ a ∷ [])
answers_push rs [] a h e = (e, tt)
answers_push rs (b ∷ as') a h e = (h.0, answers_push rs as' a h.1 e)

pub ruleset answers = (answers_push)

-- ---- within one of those that are turned

pub within_both : (s : System) (ps qs : List System) → within_one (ps ++ qs) s ≡ (within_one ps s || within_one qs s)
within_both s [] qs = refl
within_both s (p ∷ ps) qs = ap (λ b. gives_rows s.rows p.rows || b) (within_both s ps qs) ∙ or_assoc (gives_rows s.rows p.rows) (within_one ps s) (within_one qs s)

pub within_reversed : (s : System) (ps : List System) → within_one (reverse ps) s ≡ within_one ps s
within_reversed s [] = refl
within_reversed s (p ∷ ps) =
    ap (λ (qs : List System). within_one qs s) (reverse-append (p ∷ []) ps)
    ∙ (within_both s (reverse ps) (p ∷ [])
    ∙ (ap (λ b. b || (gives_rows s.rows p.rows || false)) (within_reversed s ps)
    ∙ (or_swap (within_one ps s) (gives_rows s.rows p.rows) false ∙ ap (λ b. gives_rows s.rows p.rows || b) (or_false (within_one ps s)))))

pub within_either : (s : System) (ps qs : List System) → within_one (reverse ps ++ reverse qs) s ≡ (within_one ps s || within_one qs s)
within_either s ps qs = within_both s (reverse ps) (reverse qs) ∙ ap₂ (λ a b. a || b) (within_reversed s ps) (within_reversed s qs)

pub ruleset either = (within_either)
