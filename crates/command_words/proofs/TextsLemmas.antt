-- Words that are text, one by one.
use Rattle.std.proofs.Common.{◌≡◌, ℕ, ◌+◌, ◌<◌, List, [], ◌∷◌, length, get_or, drop, subst, sym, ◌∙◌, ap, add-one, suc}
use Rattle.std.proofs.Math.Seq.{drop-cons}
use Rattle.std.specs.Str.{IsUtf8}
use Rattle.command_words.specs.Texts.{AreTexts}
use Rattle.command_words.specs.Options.{Accepts, options_of, WordsGive, TextsGive}
use Rattle.command_words.specs.declared.options.Read.{Read}
use Rattle.command_words.specs.declared.options.Read.TheVariants.{Options as Gives, Refused, Memory}

split : (words : List (List ℕ)) (i : ℕ) (word d : List ℕ) → i < length words → word ≡ get_or words i d → drop i words ≡ word ∷ drop (i + 1) words
split words i word d h e = rw add-one (drop-cons words i d h ∙ ap (λ (w : List ℕ). w ∷ drop (suc i) words) (sym e))

pub texts-first : (words : List (List ℕ)) (i : ℕ) (word d : List ℕ) → i < length words → word ≡ get_or words i d → AreTexts (drop i words) → IsUtf8 word × AreTexts (drop (i + 1) words)
texts-first words i word d h e all = subst AreTexts (split words i word d h e) all

pub texts-more : (words : List (List ℕ)) (i : ℕ) (word d : List ℕ) → i < length words → word ≡ get_or words i d → IsUtf8 word → AreTexts (drop (i + 1) words) → AreTexts (drop i words)
texts-more words i word d h e one more = subst AreTexts (sym (split words i word d h e)) (one, more)

pub words_give : (texts words : List (List ℕ)) (read : Read) → texts ≡ words → AreTexts words → TextsGive texts read → WordsGive words read
unfolding Accepts options_of
words_give texts words (Gives options) e all a =
    let there : TextsGive words (Gives options) = subst (λ (w : List (List ℕ)). TextsGive w (Gives options)) e a in
    ((all, there.0), there.1)
words_give texts words Refused e all a = λ accepted. subst (λ (w : List (List ℕ)). TextsGive w Refused) e a accepted.1
words_give texts words Memory e all a = tt

pub not_accepted : (words : List (List ℕ)) → (AreTexts words → ⊥) → Accepts words → ⊥
unfolding Accepts
not_accepted words refused accepted = refused accepted.0
