-- How many executable statements a statement adds, and which of them are a DO WHILE; and that their numbers tell them.
use Rattle.std.proofs.Common.{◌≡◌, ℕ, ◌+◌, ◌≤◌, ◌<◌, Bool, true, false, List, [], ◌∷◌, ◌++◌, refl, sym, ap, ◌∙◌, subst, append_assoc, append-nil, arith}
use Rattle.std.specs.Prelude.{Option, Some, None, nat_eq, if◌then◌else◌}
use Rattle.std.specs.List.{list_any}
use Rattle.f77_ast.specs.Trees.{ExprTree, WhatTree, continue}
use Rattle.f77_statements.specs.Phrases.{PhraseTree, program, subroutine, function, specification, simple, logical_if, block_if, else_if, else_part, end_if, do_head, while_head, end_do, end_module}
use Rattle.f77_structure.specs.declared.blocks.Blocks.{Blocks}
use Rattle.f77_structure.specs.Marks.{statements_by}
use Rattle.f77_structure.specs.Steps.{parse_statement, all_stepped}
use Rattle.f77_parser.specs.Roles.{role_of}
use Rattle.f77_parser.specs.Statements.{StatementTree, mark_of, marks_of}
use Rattle.f77_parser.specs.SoFar.{AroundTree, SoFar, add_spot, add_executable, add_logical_if, open_block, add_while, leave_block, is_loop_to, leave_loops, end_loops_at, close_innermost, close_block}
use Rattle.f77_parser.specs.Building.{divide_innermost, add_continue, add_phrase, add_statement, add_all}
use Rattle.roundtrip_programs.specs.Statements.Formed.{Each}
use Rattle.roundtrip_programs.specs.ModuleTexts.ModuleLaws.{IsStatement}
use Rattle.roundtrip_programs.proofs.ModuleTexts.Each.{Each-append}
use Rattle.roundtrip_programs.proofs.ModuleTexts.Steady.{step-calm, all-found}
use Rattle.roundtrip_programs.proofs.ModuleTexts.Counted.{Allowed}
use Rattle.roundtrip_programs.proofs.ModuleTexts.Matched.{phrase-matched}
use Rattle.roundtrip_programs.proofs.ModuleTexts.Well.{Goes, one-goes}
use Rattle.fx_lists.proofs.Booleans.{neither, or_here}
use Rattle.fx_lists.proofs.Lists.{any_right}
use Rattle.fx_lists.proofs.Numbers.{nat_eq_same, plus-none, unequal_numbers}

-- so many executable statements, and these DO WHILEs
pub record Has (n : ℕ) (ws : List ℕ) (p : SoFar) : Type 0 where
  pub count : p.count ≡ n
  pub whiles : p.whiles ≡ ws

either-has : (n : ℕ) (ws : List ℕ) (v : Bool) (p q : SoFar) → Has n ws p → Has n ws q → Has n ws (if v then p else q)
either-has n ws true p q h e = h
either-has n ws false p q h e = e

ended_by-has : (l : ℕ) (os : List AroundTree) (p : SoFar) → Has p.count p.whiles (leave_loops l os p)
ended_by-has l [] p = record { count = refl; whiles = refl }
ended_by-has l (a ∷ os) p =
    either-has p.count p.whiles (is_loop_to l a.opening) (leave_loops l os (leave_block a os p)) p (ended_by-has l os (leave_block a os p)) (record { count = refl; whiles = refl })

ended_at-has : (label : Option ℕ) (n : ℕ) (ws : List ℕ) (p : SoFar) → Has n ws p → Has n ws (end_loops_at label p)
ended_at-has None n ws p h = h
ended_at-has (Some l) n ws p h = let e = ended_by-has l p.around p in record { count = e.count ∙ h.count; whiles = e.whiles ∙ h.whiles }

closed_from-has : (os : List AroundTree) (f : ℕ) (cs : List (List ℕ)) (p : SoFar) → Has p.count p.whiles (close_innermost os f cs p)
unfolding add_spot
closed_from-has [] f cs p = record { count = refl; whiles = refl }
closed_from-has (a ∷ os) f cs p = record { count = refl; whiles = refl }

closed-has : (f : ℕ) (cs : List (List ℕ)) (n : ℕ) (ws : List ℕ) (p : SoFar) → Has n ws p → Has n ws (close_block f cs p)
closed-has f cs n ws p h = let e = closed_from-has p.around f cs p in record { count = e.count ∙ h.count; whiles = e.whiles ∙ h.whiles }

divided-has : (os : List AroundTree) (f : ℕ) (cs : List (List ℕ)) (test : Option ExprTree) (p : SoFar) → Has p.count p.whiles (divide_innermost os f cs test p)
unfolding add_spot
divided-has [] f cs test p = record { count = refl; whiles = refl }
divided-has (a ∷ os) f cs test p = record { count = refl; whiles = refl }

stated-has : (f : ℕ) (label : Option ℕ) (cs : List (List ℕ)) (w : WhatTree) (p : SoFar) → Has (p.count + 1) p.whiles (end_loops_at label (add_executable f label cs w p))
unfolding add_executable add_spot
stated-has f label cs w p = ended_at-has label (p.count + 1) p.whiles (add_executable f label cs w p) (record { count = refl; whiles = refl })

twice : (n : ℕ) → n + 1 + 1 ≡ n + 2
twice n = omega arith

conditioned-has : (f : ℕ) (label : Option ℕ) (cs : List (List ℕ)) (e : ExprTree) (w : WhatTree) (p : SoFar) → Has (p.count + 2) p.whiles (end_loops_at label (add_logical_if f label cs e w p))
unfolding add_logical_if add_spot
conditioned-has f label cs e w p = ended_at-has label (p.count + 2) p.whiles (add_logical_if f label cs e w p) (record { count = twice p.count; whiles = refl })

continued-has : (f l : ℕ) (cs : List (List ℕ)) (n : ℕ) (ws : List ℕ) (p : SoFar) → Has n ws p → Has (n + 1) ws (add_continue f l cs p)
continued-has f l cs n ws p h = let e = stated-has f (Some l) cs continue p in record { count = e.count ∙ ap (λ k. k + 1) h.count; whiles = e.whiles ∙ h.whiles }

-- the DO WHILE that a statement begins with this number
abbrev pub new_whiles : PhraseTree → ℕ → List ℕ
new_whiles (while_head l e) n = n ∷ []
new_whiles phrase n = []

same-has : (p q : SoFar) → Has p.count p.whiles q → Has (p.count + 0) (p.whiles ++ []) q
same-has p q h = record { count = h.count ∙ sym (plus-none p.count); whiles = h.whiles ∙ sym (append-nil p.whiles) }

more-has : (n : ℕ) (p q : SoFar) → Has n p.whiles q → Has n (p.whiles ++ []) q
more-has n p q h = record { count = h.count; whiles = h.whiles ∙ sym (append-nil p.whiles) }

own : (p : SoFar) → Has p.count p.whiles p
own p = record { count = refl; whiles = refl }

pub phrase-has : (f : ℕ) (label : Option ℕ) (cs : List (List ℕ)) (phrase : PhraseTree) (p : SoFar)
    → Has (p.count + statements_by (role_of phrase) label) (p.whiles ++ new_whiles phrase (p.count + 1)) (add_phrase f label cs phrase p)
unfolding add_spot open_block add_while
phrase-has f label cs (program n) p = same-has p (add_phrase f label cs (program n) p) (record { count = refl; whiles = refl })
phrase-has f label cs (subroutine n ds) p = same-has p (add_phrase f label cs (subroutine n ds) p) (record { count = refl; whiles = refl })
phrase-has f label cs (function form n ds) p = same-has p (add_phrase f label cs (function form n ds) p) (record { count = refl; whiles = refl })
phrase-has f label cs (specification d) p = same-has p (add_phrase f label cs (specification d) p) (record { count = refl; whiles = refl })
phrase-has f label cs (simple w) p = more-has (p.count + 1) p (end_loops_at label (add_executable f label cs w p)) (stated-has f label cs w p)
phrase-has f label cs (logical_if e w) p = more-has (p.count + 2) p (end_loops_at label (add_logical_if f label cs e w p)) (conditioned-has f label cs e w p)
phrase-has f label cs (block_if e) p = record { count = refl; whiles = sym (append-nil p.whiles) }
phrase-has f label cs (else_if e) p = same-has p (divide_innermost p.around f cs (Some e) p) (divided-has p.around f cs (Some e) p)
phrase-has f label cs else_part p = same-has p (divide_innermost p.around f cs None p) (divided-has p.around f cs None p)
phrase-has f None cs end_if p = same-has p (close_block f cs p) (closed-has f cs p.count p.whiles p (own p))
phrase-has f (Some l) cs end_if p =
    more-has (p.count + 1) p (add_continue f l [] (close_block f cs p)) (continued-has f l [] p.count p.whiles (close_block f cs p) (closed-has f cs p.count p.whiles p (own p)))
phrase-has f label cs (do_head d) p = record { count = refl; whiles = sym (append-nil p.whiles) }
phrase-has f label cs (while_head l e) p = record { count = refl; whiles = refl }
phrase-has f None cs end_do p = same-has p (close_block f cs p) (closed-has f cs p.count p.whiles p (own p))
phrase-has f (Some l) cs end_do p =
    more-has (p.count + 1) p (close_block f [] (add_continue f l cs p)) (closed-has f [] (p.count + 1) p.whiles (add_continue f l cs p) (continued-has f l cs p.count p.whiles p (own p)))
phrase-has f None cs end_module p = same-has p (add_phrase f None cs end_module p) (record { count = refl; whiles = refl })
phrase-has f (Some l) cs end_module p =
    let e = continued-has f l cs p.count p.whiles p (own p) in
    more-has (p.count + 1) p (add_phrase f (Some l) cs end_module p) (record { count = e.count; whiles = e.whiles })

-- ---- later DO WHILEs have later numbers

abbrev Above : ℕ → List ℕ → Type 0
Above n ws = Each (λ w. n < w) ws

abbrev pub Below : ℕ → List ℕ → Type 0
Below n ws = Each (λ w. w ≤ n) ws

above-less : (n m : ℕ) (ws : List ℕ) → n ≤ m → Above m ws → Above n ws
above-less n m [] l h = tt
above-less n m (w ∷ ws) l h = record { first = omega (arith, l, h.first); others = above-less n m ws l h.others }

below-more : (n m : ℕ) (ws : List ℕ) → n ≤ m → Below n ws → Below m ws
below-more n m [] l h = tt
below-more n m (w ∷ ws) l h = record { first = omega (arith, l, h.first); others = below-more n m ws l h.others }

new-above : (phrase : PhraseTree) (n : ℕ) → Above n (new_whiles phrase (n + 1))
new-above (while_head l e) n = record { first = omega arith; others = tt }
new-above phrase n = tt

new-below : (phrase : PhraseTree) (label : Option ℕ) (n : ℕ) → Below (n + statements_by (role_of phrase) label) (new_whiles phrase (n + 1))
new-below (while_head l e) label n = record { first = omega arith; others = tt }
new-below phrase label n = tt

pub record Grown (p q : SoFar) : Type 0 where
  pub more : List ℕ
  pub whiles : q.whiles ≡ p.whiles ++ more
  pub above : Above p.count more

all-grown : (ss : List StatementTree) (p : SoFar) → Grown p (add_all ss p)
all-grown [] p = record { more = []; whiles = sym (append-nil p.whiles); above = tt }
all-grown (s ∷ ss) p =
    let q = add_statement s p in
    let h = phrase-has s.first s.label s.comments s.phrase p in
    let g = all-grown ss q in
    let new = new_whiles s.phrase (p.count + 1) in
    let up : p.count ≤ q.count = let e = h.count in omega (arith, e) in
    record {
      more = new ++ g.more;
      whiles = g.whiles ∙ ap (λ ws. ws ++ g.more) h.whiles ∙ append_assoc p.whiles new g.more;
      above = Each-append (λ w. p.count < w) new g.more (new-above s.phrase p.count) (above-less p.count q.count g.more up g.above);
    }

one-below : (s : StatementTree) (p : SoFar) → Below p.count p.whiles → Below (add_statement s p).count (add_statement s p).whiles
one-below s p b =
    let q = add_statement s p in
    let h = phrase-has s.first s.label s.comments s.phrase p in
    let new = new_whiles s.phrase (p.count + 1) in
    let n = p.count + statements_by (role_of s.phrase) s.label in
    let At : ℕ → Type 0 = λ k. Below k (p.whiles ++ new) in
    let In : List ℕ → Type 0 = λ ws. Below q.count ws in
    subst In (sym h.whiles) (subst At (sym h.count) (Each-append (λ w. w ≤ n) p.whiles new (below-more p.count n p.whiles (omega arith) b) (new-below s.phrase s.label p.count)))

-- ---- which statements are DO WHILEs

-- by their numbers
abbrev pub told_by : List ℕ → ℕ → Bool
told_by ws n = list_any (nat_eq n) ws

above-not : (n m : ℕ) (ws : List ℕ) → n ≤ m → Above m ws → list_any (nat_eq n) ws ≡ false
above-not n m [] l h = refl
above-not n m (w ∷ ws) l h =
    let x = h.first in let e : nat_eq n w ≡ false = unequal_numbers n w (λ s. absurd (omega (arith, s, l, x))) in neither (nat_eq n w) (list_any (nat_eq n) ws) e (above-not n m ws l h.others)

both-not : (n m : ℕ) (xs ys : List ℕ) → m < n → Below m xs → list_any (nat_eq n) ys ≡ false → list_any (nat_eq n) (xs ++ ys) ≡ false
both-not n m [] ys l b h = h
both-not n m (w ∷ xs) ys l b h =
    let x = b.first in
    let e : nat_eq n w ≡ false = unequal_numbers n w (λ s. absurd (omega (arith, s, l, x))) in neither (nat_eq n w) (list_any (nat_eq n) (xs ++ ys)) e (both-not n m xs ys l b.others h)

-- the number of a block IF is none of them, that of a DO WHILE is
abbrev pub IsTold : (ℕ → Bool) → PhraseTree → ℕ → Type 0
IsTold f (block_if e) n = f n ≡ false
IsTold f (while_head l e) n = f n ≡ true
IsTold f phrase n = Unit {0}

told-if : (n : ℕ) (xs more : List ℕ) → Below n xs → Above (n + 1) more → told_by (xs ++ [] ++ more) (n + 1) ≡ false
told-if n xs more b a = ap (λ ws. told_by (ws ++ more) (n + 1)) (append-nil xs) ∙ both-not (n + 1) n xs more (omega arith) b (above-not (n + 1) (n + 1) more (omega arith) a)

told-while : (n : ℕ) (xs more : List ℕ) → told_by (xs ++ n ∷ [] ++ more) n ≡ true
told-while n xs more =
    ap (λ ws. told_by ws n) (append_assoc xs (n ∷ []) more) ∙ any_right (nat_eq n) xs (n ∷ more) (or_here (nat_eq n n) (list_any (nat_eq n) more) (nat_eq_same n))

told : (phrase : PhraseTree) (label : Option ℕ) (n : ℕ) (xs more : List ℕ) → Below n xs → Above (n + statements_by (role_of phrase) label) more
    → IsTold (told_by (xs ++ new_whiles phrase (n + 1) ++ more)) phrase (n + 1)
told (block_if e) label n xs more b a = told-if n xs more b a
told (while_head l e) label n xs more b a = told-while (n + 1) xs more
told phrase label n xs more b a = tt

-- each statement may stand where it stands, and is told by its number
abbrev pub AllMay : (ℕ → Bool) → List StatementTree → SoFar → Type 0
AllMay f [] p = Unit {0}
AllMay f (s ∷ ss) p = record { may : Allowed s.phrase p.around; told : IsTold f s.phrase (p.count + 1); others : AllMay f ss (add_statement s p) }

one-told : (s : StatementTree) (ss : List StatementTree) (p : SoFar) → Below p.count p.whiles → IsTold (told_by (add_all (s ∷ ss) p).whiles) s.phrase (p.count + 1)
one-told s ss p b =
    let q = add_statement s p in
    let h = phrase-has s.first s.label s.comments s.phrase p in
    let g = all-grown ss q in
    let new = new_whiles s.phrase (p.count + 1) in
    let At : ℕ → Type 0 = λ k. Above k g.more in
    let By : List ℕ → Type 0 = λ ws. IsTold (told_by ws) s.phrase (p.count + 1) in
    subst By (sym (g.whiles ∙ ap (λ ws. ws ++ g.more) h.whiles)) (told s.phrase s.label p.count p.whiles g.more b (subst At h.count g.above))

pub all-may : (ss : List StatementTree) (place : ℕ) (p : SoFar) (b : Blocks) → Each IsStatement ss → Goes p b → (all_stepped place (marks_of ss) b).found ≡ None → Below p.count p.whiles
    → AllMay (told_by (add_all ss p).whiles) ss p
all-may [] place p b i g h below = tt
all-may (s ∷ ss) place p b i g h below =
    let next = parse_statement place (mark_of s) b in
    let e = all-found (place + 1) (marks_of ss) next h in
    let c = step-calm place (mark_of s) b e in
    let t = phrase-matched s.first s.label s.comments s.phrase s.first p (record b { place = place }) g.matched (sym (ap (λ x. x.found) c.same) ∙ e) in
    record {
      may = t.may;
      told = one-told s ss p below;
      others = all-may ss (place + 1) (add_statement s p) next i.others (one-goes s place p b i.first g e) h (one-below s p below);
    }
