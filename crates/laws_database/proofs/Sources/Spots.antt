-- Each executable statement of a module that is built has its line.
use Rattle.std.proofs.Common.{◌≡◌, ℕ, ◌+◌, ◌≤◌, Bool, true, false, ◌||◌, List, [], ◌∷◌, ◌++◌, map, refl, ap, arith, if◌then◌else◌}
use Rattle.std.proofs.lemmas.Bool.Decides.{nat_tests}
use Rattle.std.specs.Prelude.{Option, Some, None, nat_eq, length}
use Rattle.std.proofs.lemmas.Bool.{or_left, or_right}
use Rattle.f77_ast.specs.declared.places.Part.TheVariants as parts
use Rattle.f77_ast.specs.declared.places.Spot.{Spot}
use Rattle.f77_ast.specs.Trees.{ExprTree, WhatTree, continue}
use Rattle.f77_statements.specs.Phrases.{PhraseTree, program, subroutine, function, specification, simple, logical_if, block_if, else_if, else_part, end_if, do_head, while_head, end_do, end_module}
use Rattle.f77_parser.specs.Statements.{StatementTree}
use Rattle.f77_parser.specs.SoFar.{OpeningTree, opening_loop, opening_while, branches, AroundTree, SoFar, spot, add_spot, add_executable, add_logical_if, open_block, add_while, leave_block, is_loop_to, leave_loops, end_loops_at, close_innermost, close_block}
use Rattle.f77_parser.specs.Building.{next_part, divide_innermost, add_continue, add_phrase, add_statement, add_all, no_statements}
use Rattle.call_graph.specs.Modules.{is_statement, statement_line, has_spot}
use Rattle.laws_programs.specs.roundtrip_programs.Pieces.Moved.{moved_spot}

-- ---- a statement that has a line

pub line_moved : (by n : ℕ) (qs : List Spot) → has_spot n qs ≡ true → statement_line n (map (moved_spot by) qs) ≡ statement_line n qs + by
line_moved by n [] h = cc
line_moved by n (q ∷ qs) h = go (is_statement n q.part) h (line_moved by n qs)
  where
    go : (b : Bool) → (b || has_spot n qs) ≡ true → (has_spot n qs ≡ true → statement_line n (map (moved_spot by) qs) ≡ statement_line n qs + by)
        → (if b then q.first + by else statement_line n (map (moved_spot by) qs)) ≡ (if b then q.first else statement_line n qs) + by
    go true e ih = refl
    go false e ih = ih e

pub has_moved : (by n : ℕ) (qs : List Spot) → has_spot n (map (moved_spot by) qs) ≡ has_spot n qs
has_moved by n [] = refl
has_moved by n (q ∷ qs) = ap (λ b. is_statement n q.part || b) (has_moved by n qs)

-- ---- the statements so far

has-more : (n : ℕ) (qs rs : List Spot) → has_spot n qs ≡ true → has_spot n (qs ++ rs) ≡ true
has-more n [] rs h = cc
has-more n (q ∷ qs) rs h = go (is_statement n q.part) h (has-more n qs rs)
  where
    go : (b : Bool) → (b || has_spot n qs) ≡ true → (has_spot n qs ≡ true → has_spot n (qs ++ rs) ≡ true) → (b || has_spot n (qs ++ rs)) ≡ true
    go true e ih = refl
    go false e ih = ih e

own : (n : ℕ) (q : Spot) → is_statement n q.part ≡ true → (qs : List Spot) → has_spot n (qs ++ q ∷ []) ≡ true
own n q h [] = or_left (is_statement n q.part) false h
own n q h (r ∷ qs) = or_right (is_statement n r.part) (has_spot n (qs ++ q ∷ [])) (own n q h qs)

-- those up to this number
abbrev pub AreSpotted : ℕ → List Spot → Type 0
AreSpotted count qs = (n : ℕ) → 1 ≤ n → n ≤ count → has_spot n qs ≡ true

abbrev pub Spotted : SoFar → Type 0
Spotted p = AreSpotted p.count p.spots

more : (count : ℕ) (qs rs : List Spot) → AreSpotted count qs → AreSpotted count (qs ++ rs)
more count qs rs h n a b = has-more n qs rs (h n a b)

next : (count f : ℕ) (cs : List (List ℕ)) (qs : List Spot) → AreSpotted count qs → AreSpotted (count + 1) (qs ++ spot (parts.Stmt (count + 1)) f cs ∷ [])
next count f cs qs h n a b = go (nat_eq (count + 1) n) refl
  where
    q : Spot
    q = spot (parts.Stmt (count + 1)) f cs

    go : (t : Bool) → nat_eq (count + 1) n ≡ t → has_spot n (qs ++ q ∷ []) ≡ true
    go true e = own n q e qs
    go false e = has-more n qs (q ∷ []) (h n a (let less : n ≤ count = grind (arith, nat_tests) in less))

either-spotted : (v : Bool) (x y : SoFar) → Spotted x → Spotted y → Spotted (if v then x else y)
either-spotted true x y h e = h
either-spotted false x y h e = e

left-spotted : (l : ℕ) (os : List AroundTree) (p : SoFar) → Spotted p → Spotted (leave_loops l os p)
left-spotted l [] p h = h
left-spotted l (a ∷ others) p h =
    either-spotted (is_loop_to l a.opening) (leave_loops l others (leave_block a others p)) p (left-spotted l others (leave_block a others p) h) h

ended-spotted : (label : Option ℕ) (p : SoFar) → Spotted p → Spotted (end_loops_at label p)
ended-spotted None p h = h
ended-spotted (Some l) p h = left-spotted l p.around p h

closed-spotted : (os : List AroundTree) (f : ℕ) (cs : List (List ℕ)) (p : SoFar) → Spotted p → Spotted (close_innermost os f cs p)
unfolding add_spot
closed-spotted [] f cs p h = h
closed-spotted (a ∷ others) f cs p h = more p.count p.spots (spot (parts.Close a.id) f cs ∷ []) h

stated-spotted : (f : ℕ) (label : Option ℕ) (cs : List (List ℕ)) (w : WhatTree) (p : SoFar) → Spotted p → Spotted (add_executable f label cs w p)
unfolding add_executable add_spot
stated-spotted f label cs w p h = next p.count f cs p.spots h

conditioned-spotted : (f : ℕ) (label : Option ℕ) (cs : List (List ℕ)) (e : ExprTree) (w : WhatTree) (p : SoFar) → Spotted p → Spotted (add_logical_if f label cs e w p)
unfolding add_logical_if add_spot
conditioned-spotted f label cs e w p h = next (p.count + 1) f [] (p.spots ++ spot (parts.Stmt (p.count + 1)) f cs ∷ []) (next p.count f cs p.spots h)

entered-spotted : (f : ℕ) (label : Option ℕ) (cs : List (List ℕ)) (o : OpeningTree) (p : SoFar) → Spotted p → Spotted (open_block f label cs o p)
unfolding open_block add_spot
entered-spotted f label cs o p h = next p.count f cs p.spots h

while-spotted : (p : SoFar) → Spotted p → Spotted (add_while p)
unfolding add_while
while-spotted p h = h

divided-spotted : (os : List AroundTree) (f : ℕ) (cs : List (List ℕ)) (test : Option ExprTree) (p : SoFar) → Spotted p → Spotted (divide_innermost os f cs test p)
unfolding add_spot
divided-spotted [] f cs test p h = h
divided-spotted (a ∷ others) f cs test p h = more p.count p.spots (spot (next_part a p.list test) f cs ∷ []) h

continued-spotted : (f l : ℕ) (cs : List (List ℕ)) (p : SoFar) → Spotted p → Spotted (add_continue f l cs p)
continued-spotted f l cs p h = ended-spotted (Some l) (add_executable f (Some l) cs continue p) (stated-spotted f (Some l) cs continue p h)

phrase-spotted : (f : ℕ) (label : Option ℕ) (cs : List (List ℕ)) (phrase : PhraseTree) (p : SoFar) → Spotted p → Spotted (add_phrase f label cs phrase p)
unfolding add_spot
phrase-spotted f label cs (program n) p h = more p.count p.spots (spot parts.Title f cs ∷ []) h
phrase-spotted f label cs (subroutine n ds) p h = more p.count p.spots (spot parts.Title f cs ∷ []) h
phrase-spotted f label cs (function form n ds) p h = more p.count p.spots (spot parts.Title f cs ∷ []) h
phrase-spotted f label cs (specification x) p h = more p.count p.spots (spot (parts.Decl (length p.decls)) f cs ∷ []) h
phrase-spotted f label cs (simple w) p h = ended-spotted label (add_executable f label cs w p) (stated-spotted f label cs w p h)
phrase-spotted f label cs (logical_if e w) p h = ended-spotted label (add_logical_if f label cs e w p) (conditioned-spotted f label cs e w p h)
phrase-spotted f label cs (block_if e) p h = entered-spotted f label cs (branches [] (Some e)) p h
phrase-spotted f label cs (else_if e) p h = divided-spotted p.around f cs (Some e) p h
phrase-spotted f label cs else_part p h = divided-spotted p.around f cs None p h
phrase-spotted f None cs end_if p h = closed-spotted p.around f cs p h
phrase-spotted f (Some l) cs end_if p h = continued-spotted f l [] (close_block f cs p) (closed-spotted p.around f cs p h)
phrase-spotted f label cs (do_head x) p h = entered-spotted f label cs (opening_loop x) p h
phrase-spotted f label cs (while_head l e) p h = entered-spotted f label cs (opening_while l e) (add_while p) (while-spotted p h)
phrase-spotted f None cs end_do p h = closed-spotted p.around f cs p h
phrase-spotted f (Some l) cs end_do p h =
    let q = add_continue f l cs p in closed-spotted q.around f [] q (continued-spotted f l cs p h)
phrase-spotted f None cs end_module p h = more p.count p.spots (spot parts.End f cs ∷ []) h
phrase-spotted f (Some l) cs end_module p h =
    let q = add_continue f l cs p in more q.count q.spots (spot parts.End f [] ∷ []) (continued-spotted f l cs p h)

all-spotted : (ss : List StatementTree) (p : SoFar) → Spotted p → Spotted (add_all ss p)
all-spotted [] p h = h
all-spotted (s ∷ ss) p h = all-spotted ss (add_statement s p) (phrase-spotted s.first s.label s.comments s.phrase p h)

pub built-spotted : (ss : List StatementTree) → Spotted (add_all ss no_statements)
built-spotted ss = all-spotted ss no_statements (λ n a b. absurd (omega (arith, a, b)))
