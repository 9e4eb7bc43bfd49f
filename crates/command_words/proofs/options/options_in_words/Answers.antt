use Rattle.std.proofs.Common.{◌≡◌, ◌∙◌, map, List, ℕ, subst, sym, ap, Bor}
use Rattle.command_words.specs.Texts.{AreTexts}
use Rattle.command_words.proofs.TextsLemmas.{words_give, not_accepted}
use Rattle.command_words.proofs.options.options_in_words.Goals as goal

pub returns-in-Some : goal.returns-in-Some
returns-in-Some c =
    let text = rw c.in-Some.is at c.in-Ok.ensures.text in
    let all = rw c.in-Some.is at c.in-Ok.ensures.utf8 in
    let same : map (λ (t : Bor (List ℕ)). t.now) c.as_slice-in-Some.result.now ≡ c.args.words.now =
    ap (λ (ts : List (Bor (List ℕ))). map (λ (t : Bor (List ℕ)). t.now) ts) c.as_slice-in-Some.ensures.value ∙ (text ∙ c.as_slice.ensures) in
    words_give _ c.args.words.now c.options_in_texts.result same (subst AreTexts c.as_slice.ensures all) c.options_in_texts.ensures.got

pub returns-in-None : goal.returns-in-None
returns-in-None c =
    let refused = rw c.in-None.is at c.in-Ok.ensures.not_utf8 in
    not_accepted c.args.words.now (λ all. refused (subst AreTexts (sym c.as_slice.ensures) all))
