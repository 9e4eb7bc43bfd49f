-- Statements add places behind those that are there.
use Rattle.std.proofs.Common.{◌≡◌, ℕ, ◌+◌, List, [], ◌∷◌, ◌++◌, refl, ap, ◌∙◌, append_assoc, if◌then◌else◌}
use Rattle.std.specs.Prelude.{Option, Some, None}
use Rattle.f77_ast.specs.declared.places.Part.{Part}
use Rattle.f77_ast.specs.declared.places.Part.TheVariants as parts
use Rattle.f77_ast.specs.declared.places.Spot.{Spot}
use Rattle.f77_ast.specs.Trees.{ExprTree, WhatTree, continue}
use Rattle.f77_statements.specs.Phrases.{PhraseTree, program, subroutine, function, specification, simple, logical_if, block_if, else_if, else_part, end_if, do_head, while_head, end_do, end_module}
use Rattle.f77_parser.specs.Statements.{StatementTree}
use Rattle.f77_parser.specs.SoFar.{OpeningTree, opening_loop, opening_while, branches, AroundTree, SoFar, spot, add_spot, add_executable, add_logical_if, is_loop_to, leave_block, leave_loops, end_loops, end_loops_at, open_block, add_while, close_innermost, close_block}
use Rattle.f77_parser.specs.Building.{divide_innermost, add_continue, close_if, close_do, close_module, add_phrase, add_statement, add_all}
use Rattle.roundtrip_programs.proofs.Pieces.Structure.{choice-through}

abbrev pub behind : List Spot → SoFar → SoFar
behind qs p = record p { spots = qs ++ p.spots }

spot-behind : (qs : List Spot) (part : Part) (first : ℕ) (comments : List (List ℕ)) (p : SoFar) → add_spot part first comments (behind qs p) ≡ behind qs (add_spot part first comments p)
unfolding add_spot
spot-behind qs part first comments p = ap (λ xs. record p { spots = xs }) (append_assoc qs p.spots (spot part first comments ∷ []))

executable-behind : (qs : List Spot) (first : ℕ) (label : Option ℕ) (comments : List (List ℕ)) (w : WhatTree) (p : SoFar)
    → add_executable first label comments w (behind qs p) ≡ behind qs (add_executable first label comments w p)
unfolding add_executable
executable-behind qs first label comments w p = spot-behind qs _ first comments _

logical-behind : (qs : List Spot) (first : ℕ) (label : Option ℕ) (comments : List (List ℕ)) (e : ExprTree) (w : WhatTree) (p : SoFar)
    → add_logical_if first label comments e w (behind qs p) ≡ behind qs (add_logical_if first label comments e w p)
unfolding add_logical_if
logical-behind qs first label comments e w p = ap (add_spot (parts.Stmt (p.count + 1 + 1)) first []) (spot-behind qs _ first comments _) ∙ spot-behind qs _ first [] _

open-behind : (qs : List Spot) (first : ℕ) (label : Option ℕ) (comments : List (List ℕ)) (o : OpeningTree) (p : SoFar)
    → open_block first label comments o (behind qs p) ≡ behind qs (open_block first label comments o p)
unfolding open_block
open-behind qs first label comments o p = spot-behind qs _ first comments _

loops-behind : (qs : List Spot) (l : ℕ) (os : List AroundTree) (p : SoFar) → leave_loops l os (behind qs p) ≡ behind qs (leave_loops l os p)
loops-behind qs l [] p = refl
loops-behind qs l (o ∷ os) p =
    ap (λ x. if is_loop_to l o.opening then x else behind qs p) (loops-behind qs l os (leave_block o os p))
    ∙ choice-through (behind qs) (is_loop_to l o.opening) (leave_loops l os (leave_block o os p)) p

end-loops-behind : (qs : List Spot) (label : Option ℕ) (p : SoFar) → end_loops_at label (behind qs p) ≡ behind qs (end_loops_at label p)
end-loops-behind qs None p = refl
end-loops-behind qs (Some l) p = loops-behind qs l p.around p

innermost-behind : (qs : List Spot) (os : List AroundTree) (first : ℕ) (comments : List (List ℕ)) (p : SoFar) → close_innermost os first comments (behind qs p) ≡ behind qs (close_innermost os first comments p)
innermost-behind qs [] first comments p = refl
innermost-behind qs (o ∷ os) first comments p = spot-behind qs _ first comments _

close-behind : (qs : List Spot) (first : ℕ) (comments : List (List ℕ)) (p : SoFar) → close_block first comments (behind qs p) ≡ behind qs (close_block first comments p)
close-behind qs first comments p = innermost-behind qs p.around first comments p

divided-behind : (qs : List Spot) (os : List AroundTree) (first : ℕ) (comments : List (List ℕ)) (test : Option ExprTree) (p : SoFar)
    → divide_innermost os first comments test (behind qs p) ≡ behind qs (divide_innermost os first comments test p)
divided-behind qs [] first comments test p = refl
divided-behind qs (o ∷ os) first comments test p = spot-behind qs _ first comments _

continue-behind : (qs : List Spot) (first l : ℕ) (comments : List (List ℕ)) (p : SoFar) → add_continue first l comments (behind qs p) ≡ behind qs (add_continue first l comments p)
continue-behind qs first l comments p =
    ap (end_loops l) (executable-behind qs first (Some l) comments continue p) ∙ end-loops-behind qs (Some l) (add_executable first (Some l) comments continue p)

close-if-behind : (qs : List Spot) (first : ℕ) (label : Option ℕ) (comments : List (List ℕ)) (p : SoFar) → close_if first label comments (behind qs p) ≡ behind qs (close_if first label comments p)
close-if-behind qs first None comments p = close-behind qs first comments p
close-if-behind qs first (Some l) comments p = ap (add_continue first l []) (close-behind qs first comments p) ∙ continue-behind qs first l [] (close_block first comments p)

close-do-behind : (qs : List Spot) (first : ℕ) (label : Option ℕ) (comments : List (List ℕ)) (p : SoFar) → close_do first label comments (behind qs p) ≡ behind qs (close_do first label comments p)
close-do-behind qs first None comments p = close-behind qs first comments p
close-do-behind qs first (Some l) comments p = ap (close_block first []) (continue-behind qs first l comments p) ∙ close-behind qs first [] (add_continue first l comments p)

close-module-behind : (qs : List Spot) (first : ℕ) (label : Option ℕ) (comments : List (List ℕ)) (p : SoFar) → close_module first label comments (behind qs p) ≡ behind qs (close_module first label comments p)
close-module-behind qs first None comments p = spot-behind qs _ first comments _
close-module-behind qs first (Some l) comments p = ap (add_spot parts.End first []) (continue-behind qs first l comments p) ∙ spot-behind qs _ first [] _

while-behind : (qs : List Spot) (first : ℕ) (label : Option ℕ) (comments : List (List ℕ)) (l : Option ℕ) (e : ExprTree) (p : SoFar)
    → open_block first label comments (opening_while l e) (add_while (behind qs p)) ≡ behind qs (open_block first label comments (opening_while l e) (add_while p))
unfolding add_while
while-behind qs first label comments l e p = open-behind qs first label comments (opening_while l e) (add_while p)

phrase-behind : (qs : List Spot) (first : ℕ) (label : Option ℕ) (comments : List (List ℕ)) (phrase : PhraseTree) (p : SoFar)
    → add_phrase first label comments phrase (behind qs p) ≡ behind qs (add_phrase first label comments phrase p)
phrase-behind qs first label comments (program n) p = spot-behind qs _ first comments _
phrase-behind qs first label comments (subroutine n ds) p = spot-behind qs _ first comments _
phrase-behind qs first label comments (function form n ds) p = spot-behind qs _ first comments _
phrase-behind qs first label comments (specification d) p = spot-behind qs _ first comments _
phrase-behind qs first label comments (simple w) p =
    ap (end_loops_at label) (executable-behind qs first label comments w p) ∙ end-loops-behind qs label (add_executable first label comments w p)
phrase-behind qs first label comments (logical_if e w) p =
    ap (end_loops_at label) (logical-behind qs first label comments e w p) ∙ end-loops-behind qs label (add_logical_if first label comments e w p)
phrase-behind qs first label comments (block_if e) p = open-behind qs first label comments (branches [] (Some e)) p
phrase-behind qs first label comments (else_if e) p = divided-behind qs p.around first comments (Some e) p
phrase-behind qs first label comments else_part p = divided-behind qs p.around first comments None p
phrase-behind qs first label comments end_if p = close-if-behind qs first label comments p
phrase-behind qs first label comments (do_head d) p = open-behind qs first label comments (opening_loop d) p
phrase-behind qs first label comments (while_head l e) p = while-behind qs first label comments l e p
phrase-behind qs first label comments end_do p = close-do-behind qs first label comments p
phrase-behind qs first label comments end_module p = close-module-behind qs first label comments p

pub all-behind : (qs : List Spot) (ss : List StatementTree) (p : SoFar) → add_all ss (behind qs p) ≡ behind qs (add_all ss p)
all-behind qs [] p = refl
all-behind qs (s ∷ ss) p = ap (add_all ss) (phrase-behind qs s.first s.label s.comments s.phrase p) ∙ all-behind qs ss (add_statement s p)
