-- The pieces of a text one after another are the text.
use Rattle.std.proofs.Common.{◌≡◌, ℕ, ◌+◌, ◌-◌, List, [], ◌∷◌, ◌++◌, refl, ap, sym, subst, ◌∙◌, Bool, true, false, if◌then◌else◌, nat_eq}
use Rattle.std.proofs.lemmas.List.{append-nil}
use Rattle.fixed_form.specs.declared.source.Piece.{Piece}
use Rattle.fixed_form.specs.Cuts.{first_lines, after_lines, lines_after}
use Rattle.fixed_form.specs.declared.line.Line.{Line}
use Rattle.fixed_form.specs.Pieces.{cut_from, end_lines, pieces_of, joined, HasAll}

both-by : (none : Bool) (b : ℕ) (bs front after : List ℕ) → front ++ after ≡ bs
    → (if none then [] else b ∷ front) ++ (if none then b ∷ bs else after) ≡ b ∷ bs
both-by true b bs front after h = refl
both-by false b bs front after h = ap (λ xs. b ∷ xs) h

-- the first lines and those after them
pub first_lines-after : (count : ℕ) (text : List ℕ) → first_lines count text ++ after_lines count text ≡ text
first_lines-after count [] = refl
first_lines-after count (b ∷ bs) = both-by (nat_eq count 0) b bs _ _ (first_lines-after (lines_after b count) bs)

pub joined_cut : (first end : ℕ) (ends text : List ℕ) → joined (cut_from first (end ∷ ends) text) ≡ text
joined_cut first end [] text = append-nil text
joined_cut first end (next ∷ ends) text =
    ap (λ xs. first_lines (end + 1 - first) text ++ xs) (joined_cut (end + 1) next ends (after_lines (end + 1 - first) text))
    ∙ first_lines-after (end + 1 - first) text

has_all_cut : (first : ℕ) (ends text : List ℕ) → HasAll (cut_from first ends text) text
has_all_cut first [] text = tt
has_all_cut first (end ∷ ends) text = joined_cut first end ends text

pub has_all : (text : List ℕ) (ss : List Line) → HasAll (pieces_of text ss) text
unfolding pieces_of
has_all text ss = has_all_cut 1 (end_lines ss) text

pub has_all_of : (text : List ℕ) (ss : List Line) (ps : List Piece) → ps ≡ pieces_of text ss → HasAll ps text
has_all_of text ss ps h = let P : List Piece → Type 0 = λ qs. HasAll qs text in subst P (sym h) (has_all text ss)
