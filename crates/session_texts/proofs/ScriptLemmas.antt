-- Lemmas on the commands of lines.
use Rattle.std.proofs.Common.{◌≡◌, ℕ, zero, suc, ◌<◌, ◌≤◌, ◌+◌, ◌-◌, Bool, true, false, List, [], ◌∷◌, ◌++◌, length, take, drop, map, Option, Some, None, refl, sym, ap, ◌∙◌, subst, arith, length-append, eqb-true, le-leb, leb-true, nat_eq, nat_le, if◌then◌else◌}
use Rattle.std.proofs.lemmas.List.Elements.{All-nil, All-cons}
use Rattle.std.specs.Prelude.{MatchOption, bytes_eq, codes}
use Rattle.fixed_form.specs.Characters.{line_feed, carriage_return}
use Rattle.fixed_form.specs.TextLines.{lines_of, onto_first, unless_return, without_returns, text_lines}
use Rattle.session_texts.specs.declared.command.Command.{Command}
use Rattle.session_texts.specs.declared.command.Command.TheVariants.{Source, Drop, Make, Show, Print, Bad, Short}
use Rattle.session_texts.specs.declared.command.Line.{Line}
use Rattle.session_texts.specs.declared.command.Line.TheVariants.{Blank, Heading, Whole}
use Rattle.session_texts.specs.Words.{words_of, count_of}
use Rattle.session_texts.specs.Commands.{heading, line_of, source_text, from_line, commands_after, commands_of, IsWithin, AreWithin}
use Rattle.fx_lists.proofs.Numbers.{one_less}

-- ---- the lines of a source

source_text-take : (n : ℕ) (line : List ℕ) (lines : List (List ℕ)) → 0 < n → source_text (take n (line ∷ lines)) ≡ (line ++ 10 ∷ []) ++ source_text (take (n - 1) lines)
source_text-take zero line lines h = absurd (omega arith)
source_text-take (suc n) line lines h = ap (λ k. (line ++ 10 ∷ []) ++ source_text (take k lines)) (sym (one_less n))

drop-line : (n : ℕ) (line : List ℕ) (lines : List (List ℕ)) → 0 < n → drop n (line ∷ lines) ≡ drop (n - 1) lines
drop-line zero line lines h = absurd (omega arith)
drop-line (suc n) line lines h = ap (λ k. drop k lines) (sym (one_less n))

-- one line of a source is taken
pub source_more : (n : ℕ) (line : List ℕ) (old new : List (List ℕ)) → 0 < n → old ≡ line ∷ new → source_text (take n old) ≡ (line ++ 10 ∷ []) ++ source_text (take (n - 1) new)
source_more n line old new h e = ap (λ ls. source_text (take n ls)) e ∙ source_text-take n line new h

pub source_left : (n : ℕ) (line : List ℕ) (old new : List (List ℕ)) → 0 < n → old ≡ line ∷ new → drop n old ≡ drop (n - 1) new
source_left n line old new h e = ap (drop n) e ∙ drop-line n line new h

-- ---- the commands from a line on

pub commands_skip : (n : ℕ) (lines : List (List ℕ)) → commands_after n lines ≡ commands_after 0 (drop n lines)
commands_skip zero lines = refl
commands_skip (suc n) [] = refl
commands_skip (suc n) (line ∷ lines) = go (nat_eq (suc n) 0) refl (commands_skip n lines)
  where
    go : (b : Bool) → nat_eq (suc n) 0 ≡ b → commands_after n lines ≡ commands_after 0 (drop n lines)
        → (if b then from_line (line_of (words_of line)) lines (λ k. commands_after k lines) else commands_after (suc n - 1) lines) ≡ commands_after 0 (drop n lines)
    go true e ih = absurd (omega (arith, eqb-true (suc n) 0 e))
    go false e ih = ap (λ k. commands_after k lines) (one_less n) ∙ ih

abbrev at_line : List (List ℕ) → Line → List Command
at_line lines said = from_line said lines (λ k. commands_after k lines)

pub found_blank : (line : List ℕ) (lines : List (List ℕ)) → line_of (words_of line) ≡ Blank → commands_after 0 (line ∷ lines) ≡ commands_after 0 lines
found_blank line lines e = ap (at_line lines) e

pub found_whole : (line : List ℕ) (lines : List (List ℕ)) (command : Command) → line_of (words_of line) ≡ Whole command → commands_after 0 (line ∷ lines) ≡ command ∷ commands_after 0 lines
found_whole line lines command e = ap (at_line lines) e

pub found_source : (line : List ℕ) (lines rest : List (List ℕ)) (n : ℕ) (text : List ℕ) → line_of (words_of line) ≡ Heading n → n ≤ length lines → text ≡ source_text (take n lines) → rest ≡ drop n lines
    → commands_after 0 (line ∷ lines) ≡ Source text ∷ commands_after 0 rest
found_source line lines rest n text e h t r =
    ap (at_line lines) e
    ∙ (ap (λ b. if b then Source (source_text (take n lines)) ∷ commands_after n lines else Short ∷ []) (le-leb n (length lines) h)
    ∙ ((λ i. Source (sym t i) ∷ commands_skip n lines i) ∙ ap (λ ls. Source text ∷ commands_after 0 ls) (sym r)))

some_is : (t text : List ℕ) → Some t ≡ Some text → t ≡ text
some_is t text e = cc

-- the lines of a source were there
pub found_taken : (line : List ℕ) (lines rest : List (List ℕ)) (n : ℕ) (o : Option (List ℕ)) (text : List ℕ) → line_of (words_of line) ≡ Heading n → o ≡ Some text
    → MatchOption o (rest ≡ []) (λ t. (t ≡ source_text (take n lines)) × (rest ≡ drop n lines)) → MatchOption o (length lines < n) (λ t. n ≤ length lines)
    → commands_after 0 (line ∷ lines) ≡ Source text ∷ commands_after 0 rest
found_taken line lines rest n None text e s m k = cc
found_taken line lines rest n (Some t) text e s m k = found_source line lines rest n t e k m.0 m.1 ∙ ap (λ z. Source z ∷ commands_after 0 rest) (some_is t text s)

pub too_few : (n m : ℕ) → m < n → nat_le n m ≡ false
too_few n m h = go (nat_le n m) refl
  where
    go : (b : Bool) → nat_le n m ≡ b → b ≡ false
    go true e = absurd (omega (arith, leb-true n m e))
    go false e = refl

pub found_short : (line : List ℕ) (lines rest : List (List ℕ)) (n : ℕ) → line_of (words_of line) ≡ Heading n → length lines < n → rest ≡ [] → commands_after 0 (line ∷ lines) ≡ Short ∷ commands_after 0 rest
found_short line lines rest n e h r =
    ap (at_line lines) e
    ∙ (ap (λ b. if b then Source (source_text (take n lines)) ∷ commands_after n lines else Short ∷ []) (too_few n (length lines) h) ∙ ap (λ ls. Short ∷ commands_after 0 ls) (sym r))

-- ---- how long the text of a source may be

-- the bytes of lines, with an end for each
extent : List (List ℕ) → ℕ
extent [] = 0
extent (line ∷ lines) = length line + 1 + extent lines

length-source_text : (lines : List (List ℕ)) → length (source_text lines) ≡ extent lines
unfolding extent
length-source_text [] = refl
length-source_text (line ∷ lines) =
    let all : length ((line ++ 10 ∷ []) ++ source_text lines) ≡ length (line ++ 10 ∷ []) + length (source_text lines) = length-append (line ++ 10 ∷ []) (source_text lines) in
    let one : length (line ++ 10 ∷ []) ≡ length line + 1 = length-append line (10 ∷ []) in
    let rest = length-source_text lines in
    omega arith

extent-take : (n : ℕ) (lines : List (List ℕ)) → extent (take n lines) ≤ extent lines
unfolding extent
extent-take zero lines = omega arith
extent-take (suc n) [] = omega arith
extent-take (suc n) (line ∷ lines) = let rest = extent-take n lines in omega arith

source_fits : (n : ℕ) (lines : List (List ℕ)) (most : ℕ) → extent lines ≤ most → length (source_text (take n lines)) ≤ most
source_fits n lines most h = let a = length-source_text (take n lines) in let b = extent-take n lines in omega arith

-- a line that is a command in itself has no source
abbrev LineIsWithin : ℕ → Line → Type 0
LineIsWithin most Blank = Unit {0}
LineIsWithin most (Heading n) = Unit {0}
LineIsWithin most (Whole c) = IsWithin most c

heading_within : (most : ℕ) (o : Option ℕ) → LineIsWithin most (heading o)
heading_within most None = tt
heading_within most (Some n) = tt

of_one_within : (most : ℕ) (b : Bool) → LineIsWithin most (if b then Whole Print else Whole Bad)
of_one_within most true = tt
of_one_within most false = tt

of_two_within : (most : ℕ) (o : Option ℕ) (name : List ℕ) (b c : Bool) → LineIsWithin most (if b then heading o else if c then Whole (Drop name) else Whole Bad)
of_two_within most o name true c = heading_within most o
of_two_within most o name false true = tt
of_two_within most o name false false = tt

of_three_within : (most : ℕ) (kind name : List ℕ) (b c : Bool) → LineIsWithin most (if b then Whole (Make kind name) else if c then Whole (Show kind name) else Whole Bad)
of_three_within most kind name true c = tt
of_three_within most kind name false true = tt
of_three_within most kind name false false = tt

line_within : (most : ℕ) (words : List (List ℕ)) → LineIsWithin most (line_of words)
line_within most [] = tt
line_within most (a ∷ []) = of_one_within most (bytes_eq a (codes "PRINT"))
line_within most (a ∷ b ∷ []) = of_two_within most (count_of b) b (bytes_eq a (codes "SOURCE")) (bytes_eq a (codes "DROP"))
line_within most (a ∷ b ∷ c ∷ []) = of_three_within most b c (bytes_eq a (codes "MAKE")) (bytes_eq a (codes "SHOW"))
line_within most (a ∷ b ∷ c ∷ d ∷ more) = tt

within_from : (most : ℕ) (said : Line) (lines : List (List ℕ)) (after : ℕ → List Command) → LineIsWithin most said → extent lines ≤ most → ((k : ℕ) → AreWithin most (after k)) → AreWithin most (from_line said lines after)
within_from most Blank lines after w h rest = rest 0
within_from most (Heading n) lines after w h rest = go (nat_le n (length lines))
  where
    go : (b : Bool) → AreWithin most (if b then Source (source_text (take n lines)) ∷ after n else Short ∷ [])
    go true = All-cons (IsWithin most) (Source (source_text (take n lines))) (after n) (source_fits n lines most h) (rest n)
    go false = All-cons (IsWithin most) Short [] tt (All-nil (IsWithin most))
within_from most (Whole c) lines after w h rest = All-cons (IsWithin most) c (after 0) w (rest 0)

either_within : (most : ℕ) (b : Bool) (cs ds : List Command) → AreWithin most cs → AreWithin most ds → AreWithin most (if b then cs else ds)
either_within most true cs ds h k = h
either_within most false cs ds h k = k

within_after : (most : ℕ) (lines : List (List ℕ)) (skip : ℕ) → extent lines ≤ most + 1 → AreWithin most (commands_after skip lines)
unfolding extent
within_after most [] skip h = All-nil (IsWithin most)
within_after most (line ∷ lines) skip h =
    let less : extent lines ≤ most = omega arith in
    let more : (k : ℕ) → AreWithin most (commands_after k lines) = λ k. within_after most lines k (omega arith) in
    either_within most (nat_eq skip 0) (from_line (line_of (words_of line)) lines (λ k. commands_after k lines)) (commands_after (skip - 1) lines)
    (within_from most (line_of (words_of line)) lines (λ k. commands_after k lines) (line_within most (words_of line)) less more) (more (skip - 1))

-- ---- the lines of a script are no longer than it

unless_return-shorter : (b : ℕ) (line : List ℕ) → length (unless_return b line) ≤ length line + 1
unless_return-shorter b [] = go (nat_eq b carriage_return)
  where
    go : (t : Bool) → length (if t then [] else b ∷ []) ≤ 0 + 1
    go true = omega arith
    go false = omega arith
unless_return-shorter b (c ∷ cs) = omega arith

without_returns-shorter : (line : List ℕ) → length (without_returns line) ≤ length line
without_returns-shorter [] = omega arith
without_returns-shorter (b ∷ bs) = let one = unless_return-shorter b (without_returns bs) in let rest = without_returns-shorter bs in omega arith

extent-returns : (lines : List (List ℕ)) → extent (map without_returns lines) ≤ extent lines
unfolding extent
extent-returns [] = omega arith
extent-returns (line ∷ lines) = let one = without_returns-shorter line in let rest = extent-returns lines in omega arith

extent-onto : (b : ℕ) (lines : List (List ℕ)) (n : ℕ) → extent lines ≤ n + 1 → extent (onto_first b lines) ≤ n + 2
unfolding extent
extent-onto b [] n h = omega arith
extent-onto b (line ∷ lines) n h = omega arith

extent-lines : (text : List ℕ) → extent (lines_of text) ≤ length text + 1
unfolding extent
extent-lines [] = omega arith
extent-lines (b ∷ bs) = go (nat_eq b line_feed) (extent-lines bs)
  where
    go : (t : Bool) → extent (lines_of bs) ≤ length bs + 1 → extent (if t then [] ∷ lines_of bs else onto_first b (lines_of bs)) ≤ length (b ∷ bs) + 1
    go true h = omega arith
    go false h = let k = extent-onto b (lines_of bs) (length bs) h in omega arith

pub within_script : (script : List ℕ) → AreWithin (length script) (commands_of script)
unfolding commands_of
within_script script =
    let a = extent-returns (lines_of script) in
    let b = extent-lines script in
    within_after (length script) (text_lines script) 0 (omega arith)

-- the text of a source among the commands of a script
pub are_within : (script : List ℕ) (cs : List Command) → cs ≡ commands_of script → AreWithin (length script) cs
are_within script cs e = subst (AreWithin (length script)) (sym e) (within_script script)
