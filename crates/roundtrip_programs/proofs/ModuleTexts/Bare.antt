-- What statements make of a module, their lines and comments aside.
use Rattle.std.proofs.Common.{◌≡◌, ℕ, Bool, true, false, List, [], ◌∷◌, ◌++◌, map, refl, sym, ap, ◌∙◌, append_assoc, append-nil}
use Rattle.std.specs.Prelude.{Option, Some, None, if◌then◌else◌}
use Rattle.f77_ast.specs.Trees.{ExprTree, continue}
use Rattle.f77_statements.specs.Phrases.{PhraseTree, program, subroutine, function, specification, simple, logical_if, block_if, else_if, else_part, end_if, do_head, while_head, end_do, end_module}
use Rattle.f77_parser.specs.Statements.{StatementTree}
use Rattle.f77_parser.specs.SoFar.{SoFar, AroundTree, add_spot, add_executable, add_logical_if, open_block, add_while, is_loop_to, leave_block, leave_loops, end_loops, close_innermost, close_block}
use Rattle.f77_parser.specs.Building.{divide_innermost, add_continue, add_phrase, add_statement, add_all}
use Rattle.f77_ast.specs.declared.places.Part.TheVariants as parts
use Rattle.roundtrip_programs.specs.ModuleTexts.Cards.{Card, card, while_number, while_numbers}
use Rattle.roundtrip_programs.specs.ModuleTexts.ModuleLaws.{Labelled, of_statement, of_card}

-- without the spots
abbrev pub bare : SoFar → SoFar
bare p = record p { spots = [] }

abbrev pub plainly : Labelled → StatementTree
plainly l = record { first = 0; label = l.label; deep = false; comments = []; phrase = l.phrase }

-- one statement more, and no spot
abbrev pub turned : Labelled → SoFar → SoFar
turned l p = bare (add_statement (plainly l) p)

abbrev pub all_turned : List Labelled → SoFar → SoFar
all_turned [] p = p
all_turned (l ∷ ls) p = all_turned ls (turned l p)

-- the same of what is written
abbrev pub all_made : List Card → SoFar → SoFar
all_made [] p = p
all_made (c ∷ cs) p = all_made cs (turned (of_card c) p)

-- ---- each change of what is so far

bare-if : (b : Bool) (p q x y : SoFar) → bare p ≡ x → bare q ≡ y → bare (if b then p else q) ≡ (if b then x else y)
bare-if true p q x y h e = h
bare-if false p q x y h e = e

ended_by-bare : (l : ℕ) (os : List AroundTree) (p : SoFar) → bare (leave_loops l os p) ≡ leave_loops l os (bare p)
ended_by-bare l [] p = refl
ended_by-bare l (a ∷ os) p =
    bare-if (is_loop_to l a.opening) (leave_loops l os (leave_block a os p)) p (leave_loops l os (leave_block a os (bare p))) (bare p)
    (ended_by-bare l os (leave_block a os p)) refl

ending-same : (l : ℕ) (p q : SoFar) → bare p ≡ bare q → bare (end_loops l p) ≡ bare (end_loops l q)
ending-same l p q h = ended_by-bare l p.around p ∙ ap (end_loops l) h ∙ sym (ended_by-bare l q.around q)

closed_from-bare : (os : List AroundTree) (f g : ℕ) (cs ds : List (List ℕ)) (p : SoFar) → bare (close_innermost os f cs p) ≡ bare (close_innermost os g ds (bare p))
unfolding add_spot
closed_from-bare [] f g cs ds p = refl
closed_from-bare (a ∷ os) f g cs ds p = refl

closed-same : (f g : ℕ) (cs ds : List (List ℕ)) (p q : SoFar) → bare p ≡ bare q → bare (close_block f cs p) ≡ bare (close_block g ds q)
closed-same f g cs ds p q h =
    closed_from-bare p.around f g cs ds p ∙ ap (λ x. bare (close_block g ds x)) h ∙ sym (closed_from-bare q.around g g ds ds q)

divided_from-bare : (os : List AroundTree) (f g : ℕ) (cs ds : List (List ℕ)) (t : Option ExprTree) (p : SoFar)
    → bare (divide_innermost os f cs t p) ≡ bare (divide_innermost os g ds t (bare p))
unfolding add_spot
divided_from-bare [] f g cs ds t p = refl
divided_from-bare (a ∷ os) f g cs ds t p = refl

-- ---- each statement

continued-same : (f g l : ℕ) (cs ds : List (List ℕ)) (p q : SoFar) → bare p ≡ bare q → bare (add_continue f l cs p) ≡ bare (add_continue g l ds q)
unfolding add_spot add_executable
continued-same f g l cs ds p q h =
    ending-same l (add_executable f (Some l) cs continue p) (add_executable g (Some l) ds continue q) (ap (λ x. bare (add_executable 0 (Some l) [] continue x)) h)

pub with_phrase-bare : (f : ℕ) (label : Option ℕ) (cs : List (List ℕ)) (phrase : PhraseTree) (p : SoFar)
    → bare (add_phrase f label cs phrase p) ≡ bare (add_phrase 0 label [] phrase (bare p))
unfolding add_spot add_executable add_logical_if open_block add_while
with_phrase-bare f label cs (program n) p = refl
with_phrase-bare f label cs (subroutine n ds) p = refl
with_phrase-bare f label cs (function form n ds) p = refl
with_phrase-bare f label cs (specification d) p = refl
with_phrase-bare f None cs (simple w) p = refl
with_phrase-bare f (Some l) cs (simple w) p = ending-same l (add_executable f (Some l) cs w p) (add_executable 0 (Some l) [] w (bare p)) refl
with_phrase-bare f None cs (logical_if e w) p = refl
with_phrase-bare f (Some l) cs (logical_if e w) p = ending-same l (add_logical_if f (Some l) cs e w p) (add_logical_if 0 (Some l) [] e w (bare p)) refl
with_phrase-bare f label cs (block_if e) p = refl
with_phrase-bare f label cs (else_if e) p = divided_from-bare p.around f 0 cs [] (Some e) p
with_phrase-bare f label cs else_part p = divided_from-bare p.around f 0 cs [] None p
with_phrase-bare f None cs end_if p = closed-same f 0 cs [] p (bare p) refl
with_phrase-bare f (Some l) cs end_if p =
    continued-same f 0 l [] [] (close_block f cs p) (close_block 0 [] (bare p)) (closed-same f 0 cs [] p (bare p) refl)
with_phrase-bare f label cs (do_head d) p = refl
with_phrase-bare f label cs (while_head l e) p = refl
with_phrase-bare f None cs end_do p = closed-same f 0 cs [] p (bare p) refl
with_phrase-bare f (Some l) cs end_do p =
    closed-same f 0 [] [] (add_continue f l cs p) (add_continue 0 l [] (bare p)) (continued-same f 0 l cs [] p (bare p) refl)
with_phrase-bare f None cs end_module p = refl
with_phrase-bare f (Some l) cs end_module p = continued-same f 0 l cs [] p (bare p) refl

-- ---- all of them

pub all_stated-bare : (ss : List StatementTree) (p : SoFar) → bare (add_all ss p) ≡ all_turned (map of_statement ss) (bare p)
all_stated-bare [] p = refl
all_stated-bare (s ∷ ss) p =
    all_stated-bare ss (add_statement s p) ∙ ap (all_turned (map of_statement ss)) (with_phrase-bare s.first s.label s.comments s.phrase p)

pub all_made-turned : (cs : List Card) (p : SoFar) → all_made cs p ≡ all_turned (map of_card cs) p
all_made-turned [] p = refl
all_made-turned (c ∷ cs) p = all_made-turned cs (turned (of_card c) p)

pub all_made-append : (xs ys : List Card) (p : SoFar) → all_made (xs ++ ys) p ≡ all_made ys (all_made xs p)
all_made-append [] ys p = refl
all_made-append (x ∷ xs) ys p = all_made-append xs ys (turned (of_card x) p)

-- ---- the numbers of DO WHILEs

pub numbers-append : (xs ys : List Card) → while_numbers (xs ++ ys) ≡ while_numbers xs ++ while_numbers ys
numbers-append [] ys = refl
numbers-append (c ∷ xs) ys =
    ap (λ l. while_number c.part c.phrase ++ l) (numbers-append xs ys) ∙ sym (append_assoc (while_number c.part c.phrase) (while_numbers xs) (while_numbers ys))

pub numbers-behind : (ws : List ℕ) (xs ys : List Card) → ws ++ while_numbers xs ++ while_numbers ys ≡ ws ++ while_numbers (xs ++ ys)
numbers-behind ws xs ys = append_assoc ws (while_numbers xs) (while_numbers ys) ∙ ap (λ l. ws ++ l) (sym (numbers-append xs ys))

-- the last line of a block has none
pub numbers-closed : (ws : List ℕ) (xs : List Card) (id : ℕ) (phrase : PhraseTree) → ws ++ while_numbers xs ≡ ws ++ while_numbers (xs ++ card (parts.Close id) None phrase ∷ [])
numbers-closed ws xs id phrase = sym (append-nil (ws ++ while_numbers xs)) ∙ numbers-behind ws xs (card (parts.Close id) None phrase ∷ [])
