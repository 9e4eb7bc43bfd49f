-- The comments of a module are those of its statements.
use Rattle.std.proofs.Common.{ℕ, ◌+◌, Bool, true, false, List, [], ◌∷◌, ◌++◌}
use Rattle.std.specs.Prelude.{Option, Some, None, if◌then◌else◌}
use Rattle.f77_ast.specs.declared.places.Part.{Part}
use Rattle.f77_ast.specs.declared.places.Part.TheVariants as parts
use Rattle.f77_ast.specs.declared.places.Spot.{Spot}
use Rattle.f77_ast.specs.Trees.{ExprTree, WhatTree, continue}
use Rattle.f77_printer.specs.PageText.{is_part}
use Rattle.f77_statements.specs.Phrases.{PhraseTree, program, subroutine, function, specification, simple, logical_if, block_if, else_if, else_part, end_if, do_head, while_head, end_do, end_module}
use Rattle.f77_parser.specs.Statements.{StatementTree}
use Rattle.f77_parser.specs.SoFar.{OpeningTree, opening_loop, opening_while, branches, AroundTree, SoFar, spot, add_spot, add_executable, add_logical_if, open_block, add_while, leave_block, is_loop_to, leave_loops, end_loops_at, close_innermost, close_block}
use Rattle.f77_parser.specs.Building.{divide_innermost, add_continue, add_phrase, add_statement, add_all, no_statements, written_module, build_module}
use Rattle.roundtrip_programs.specs.Statements.Formed.{Each}
use Rattle.roundtrip_programs.specs.ModuleTexts.Page.{comments_at, spots_behind, inner_comments, inner_behind}
use Rattle.roundtrip_programs.proofs.ModuleTexts.Each.{Each-append}
use Rattle.roundtrip_programs.proofs.Texts.Sources.{AreKept}

abbrev pub SpotKept : Spot → Type 0
SpotKept s = AreKept s.comments

abbrev pub SpotsKept : List Spot → Type 0
SpotsKept ss = Each SpotKept ss

spot-kept : (part : Part) (f : ℕ) (cs : List (List ℕ)) (p : SoFar) → AreKept cs → SpotsKept p.spots → SpotsKept (add_spot part f cs p).spots
unfolding add_spot
spot-kept part f cs p k h = Each-append SpotKept p.spots (spot part f cs ∷ []) h (record { first = k; others = tt })

either : (v : Bool) (x y : SoFar) → SpotsKept x.spots → SpotsKept y.spots → SpotsKept (if v then x else y).spots
either true x y h e = h
either false x y h e = e

ended-kept : (l : ℕ) (os : List AroundTree) (p : SoFar) → SpotsKept p.spots → SpotsKept (leave_loops l os p).spots
ended-kept l [] p h = h
ended-kept l (a ∷ os) p h = either (is_loop_to l a.opening) (leave_loops l os (leave_block a os p)) p (ended-kept l os (leave_block a os p) h) h

at-kept : (label : Option ℕ) (p : SoFar) → SpotsKept p.spots → SpotsKept (end_loops_at label p).spots
at-kept None p h = h
at-kept (Some l) p h = ended-kept l p.around p h

closed-kept : (os : List AroundTree) (f : ℕ) (cs : List (List ℕ)) (p : SoFar) → AreKept cs → SpotsKept p.spots → SpotsKept (close_innermost os f cs p).spots
closed-kept [] f cs p k h = h
closed-kept (a ∷ os) f cs p k h = spot-kept (parts.Close a.id) f cs (leave_block a os p) k h

divided-kept : (os : List AroundTree) (f : ℕ) (cs : List (List ℕ)) (test : Option ExprTree) (p : SoFar) → AreKept cs → SpotsKept p.spots → SpotsKept (divide_innermost os f cs test p).spots
unfolding add_spot
divided-kept [] f cs test p k h = h
divided-kept (a ∷ os) f cs test p k h = Each-append SpotKept p.spots (spot _ f cs ∷ []) h (record { first = k; others = tt })

stated-kept : (f : ℕ) (label : Option ℕ) (cs : List (List ℕ)) (w : WhatTree) (p : SoFar) → AreKept cs → SpotsKept p.spots → SpotsKept (add_executable f label cs w p).spots
unfolding add_executable add_spot
stated-kept f label cs w p k h = Each-append SpotKept p.spots (spot _ f cs ∷ []) h (record { first = k; others = tt })

conditioned-kept : (f : ℕ) (label : Option ℕ) (cs : List (List ℕ)) (e : ExprTree) (w : WhatTree) (p : SoFar) → AreKept cs → SpotsKept p.spots → SpotsKept (add_logical_if f label cs e w p).spots
unfolding add_logical_if add_spot
conditioned-kept f label cs e w p k h =
    let one = Each-append SpotKept p.spots (spot (parts.Stmt (p.count + 1)) f cs ∷ []) h (record { first = k; others = tt }) in
    Each-append SpotKept (p.spots ++ spot (parts.Stmt (p.count + 1)) f cs ∷ []) (spot _ f [] ∷ []) one (record { first = tt; others = tt })

entered-kept : (f : ℕ) (label : Option ℕ) (cs : List (List ℕ)) (o : OpeningTree) (p : SoFar) → AreKept cs → SpotsKept p.spots → SpotsKept (open_block f label cs o p).spots
unfolding open_block add_spot
entered-kept f label cs o p k h = Each-append SpotKept p.spots (spot _ f cs ∷ []) h (record { first = k; others = tt })

continued-kept : (f l : ℕ) (cs : List (List ℕ)) (p : SoFar) → AreKept cs → SpotsKept p.spots → SpotsKept (add_continue f l cs p).spots
continued-kept f l cs p k h = at-kept (Some l) (add_executable f (Some l) cs continue p) (stated-kept f (Some l) cs continue p k h)

phrase-kept : (f : ℕ) (label : Option ℕ) (cs : List (List ℕ)) (phrase : PhraseTree) (p : SoFar) → AreKept cs → SpotsKept p.spots → SpotsKept (add_phrase f label cs phrase p).spots
unfolding add_spot add_while
phrase-kept f label cs (program n) p k h = Each-append SpotKept p.spots (spot _ f cs ∷ []) h (record { first = k; others = tt })
phrase-kept f label cs (subroutine n ds) p k h = Each-append SpotKept p.spots (spot _ f cs ∷ []) h (record { first = k; others = tt })
phrase-kept f label cs (function form n ds) p k h = Each-append SpotKept p.spots (spot _ f cs ∷ []) h (record { first = k; others = tt })
phrase-kept f label cs (specification d) p k h = Each-append SpotKept p.spots (spot _ f cs ∷ []) h (record { first = k; others = tt })
phrase-kept f label cs (simple w) p k h = at-kept label (add_executable f label cs w p) (stated-kept f label cs w p k h)
phrase-kept f label cs (logical_if e w) p k h = at-kept label (add_logical_if f label cs e w p) (conditioned-kept f label cs e w p k h)
phrase-kept f label cs (block_if e) p k h = entered-kept f label cs (branches [] (Some e)) p k h
phrase-kept f label cs (else_if e) p k h = divided-kept p.around f cs (Some e) p k h
phrase-kept f label cs else_part p k h = divided-kept p.around f cs None p k h
phrase-kept f None cs end_if p k h = closed-kept p.around f cs p k h
phrase-kept f (Some l) cs end_if p k h = continued-kept f l [] (close_block f cs p) tt (closed-kept p.around f cs p k h)
phrase-kept f label cs (do_head d) p k h = entered-kept f label cs (opening_loop d) p k h
phrase-kept f label cs (while_head l e) p k h = entered-kept f label cs (opening_while l e) (add_while p) k h
phrase-kept f None cs end_do p k h = closed-kept p.around f cs p k h
phrase-kept f (Some l) cs end_do p k h =
    let q = add_continue f l cs p in closed-kept q.around f [] q tt (continued-kept f l cs p k h)
phrase-kept f None cs end_module p k h = Each-append SpotKept p.spots (spot _ f cs ∷ []) h (record { first = k; others = tt })
phrase-kept f (Some l) cs end_module p k h =
    let q = add_continue f l cs p in Each-append SpotKept q.spots (spot _ f [] ∷ []) (continued-kept f l cs p k h) (record { first = tt; others = tt })

abbrev pub CommentsKept : StatementTree → Type 0
CommentsKept s = AreKept s.comments

all-kept : (ss : List StatementTree) (p : SoFar) → Each CommentsKept ss → SpotsKept p.spots → SpotsKept (add_all ss p).spots
all-kept [] p k h = h
all-kept (s ∷ ss) p k h = all-kept ss (add_statement s p) k.others (phrase-kept s.first s.label s.comments s.phrase p k.first h)

pub built-kept : (closing : List (List ℕ)) (ss : List StatementTree) → Each CommentsKept ss → SpotsKept (build_module closing ss).places.spots
unfolding build_module written_module
built-kept closing ss k = all-kept ss no_statements k tt

-- ---- taken one after another

chosen-kept : (b : Bool) (cs : List (List ℕ)) → AreKept cs → AreKept (if b then cs else [])
chosen-kept true cs h = h
chosen-kept false cs h = tt

pub comments-kept : (part : Part) (ss : List Spot) → SpotsKept ss → AreKept (comments_at part ss)
comments-kept part [] h = tt
comments-kept part (s ∷ ss) h = chosen-kept (is_part part s.part) s.comments h.first

left-kept : (b : Bool) (s : Spot) (ss : List Spot) → SpotsKept (s ∷ ss) → SpotsKept (if b then ss else s ∷ ss)
left-kept true s ss h = h.others
left-kept false s ss h = h

pub behind-kept : (part : Part) (ss : List Spot) → SpotsKept ss → SpotsKept (spots_behind part ss)
behind-kept part [] h = tt
behind-kept part (s ∷ ss) h = left-kept (is_part part s.part) s ss h

pub inner-kept : (part : Option Part) (ss : List Spot) → SpotsKept ss → AreKept (inner_comments part ss)
inner-kept None ss h = tt
inner-kept (Some part) ss h = comments-kept part ss h

pub inner-behind : (part : Option Part) (ss : List Spot) → SpotsKept ss → SpotsKept (inner_behind part ss)
inner-behind None ss h = h
inner-behind (Some part) ss h = behind-kept part ss h
