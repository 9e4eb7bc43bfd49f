-- Statements and modules are read the same at other lines.
use Rattle.std.proofs.Common.{◌≡◌, ℕ, ◌+◌, Bool, true, false, List, [], ◌∷◌, ◌++◌, map, refl, ap, sym, ◌∙◌, append_assoc, append-nil, if◌then◌else◌}
use Rattle.std.specs.Prelude.{Option, Some, None, option_map, Result, Ok, Err}
use Rattle.std.proofs.lemmas.List.{map-append}
use Rattle.fixed_form.specs.declared.line.Line.{Line}
use Rattle.f77_ast.specs.declared.places.Part.{Part}
use Rattle.f77_ast.specs.declared.places.Part.TheVariants as parts
use Rattle.f77_ast.specs.Trees.{ExprTree, WhatTree, continue}
use Rattle.f77_ast.specs.DeclTrees.{ParsedTree}
use Rattle.fx_lists.specs.declared.code.Code.TheVariants.{StrayPart}
use Rattle.fx_lists.specs.declared.refusal.Refusal.{Refusal}
use Rattle.f77_parser.specs.Functions.{bounded_names}
use Rattle.f77_parser.specs.Ends.{decls_to_end}
use Rattle.f77_parser.specs.Standing.{standing}
use Rattle.f77_parser.specs.References.{assigned_by, empty_call_fault, is_bad_reference, bad_reference_from, bad_reference_in, reference_fault}
use Rattle.f77_statements.specs.declared.refusal.Cause.{Cause}
use Rattle.f77_statements.specs.Phrases.{PhraseTree, program, subroutine, function, specification, simple, logical_if, block_if, else_if, else_part, end_if, do_head, while_head, end_do, end_module}
use Rattle.f77_statements.specs.Statements.{phrase_of}
use Rattle.f77_structure.specs.Lists.{is_none_of}
use Rattle.f77_structure.specs.Checks.{fault_of}
use Rattle.f77_structure.specs.Depth.{is_deep}
use Rattle.f77_parser.specs.Gives.{Refused, and_then}
use Rattle.f77_parser.specs.Statements.{StatementTree, read_as, statement_of, all_read, mark_of, marks_of}
use Rattle.f77_parser.specs.SoFar.{OpeningTree, opening_loop, opening_while, branches, AroundTree, SoFar, spot, add_spot, add_executable, add_logical_if, is_loop_to, leave_block, leave_loops, end_loops, end_loops_at, open_block, add_while, close_innermost, close_block}
use Rattle.f77_parser.specs.Building.{divide_innermost, add_continue, close_if, close_do, close_module, add_phrase, add_statement, add_all, no_statements, whole, elaborated_parsed, written_module, build_module}
use Rattle.f77_parser.specs.Ends.{ends_module}
use Rattle.f77_parser.specs.Modules.{module_fault, with_reference, closing_at, unless_faulty, module_read, modules_from}
use Rattle.roundtrip_programs.specs.Pieces.Moved.{moved_line, moved_spot, moved}
use Rattle.roundtrip_programs.proofs.Pieces.Structure.{moved_mark, moved_refusal, choice-through, refuse-moved, fault-moved}
use Rattle.roundtrip_programs.proofs.Assigned.{phrases, same-decls, same-standing, same-uncalled}

abbrev pub moved_statement : ℕ → StatementTree → StatementTree
moved_statement by s = record s { first = s.first + by }

-- ---- what statements make

abbrev moved_so_far : ℕ → SoFar → SoFar
moved_so_far by p = record p { spots = map (moved_spot by) p.spots }

spot-moved : (by : ℕ) (part : Part) (first : ℕ) (comments : List (List ℕ)) (p : SoFar) → add_spot part (first + by) comments (moved_so_far by p) ≡ moved_so_far by (add_spot part first comments p)
unfolding add_spot
spot-moved by part first comments p = ap (λ qs. record p { spots = qs }) (sym (map-append (moved_spot by) p.spots (spot part first comments ∷ [])))

executable-moved : (by first : ℕ) (label : Option ℕ) (comments : List (List ℕ)) (w : WhatTree) (p : SoFar)
    → add_executable (first + by) label comments w (moved_so_far by p) ≡ moved_so_far by (add_executable first label comments w p)
unfolding add_executable
executable-moved by first label comments w p = spot-moved by _ first comments _

logical-moved : (by first : ℕ) (label : Option ℕ) (comments : List (List ℕ)) (e : ExprTree) (w : WhatTree) (p : SoFar)
    → add_logical_if (first + by) label comments e w (moved_so_far by p) ≡ moved_so_far by (add_logical_if first label comments e w p)
unfolding add_logical_if
logical-moved by first label comments e w p = ap (add_spot (parts.Stmt (p.count + 1 + 1)) (first + by) []) (spot-moved by _ first comments _) ∙ spot-moved by _ first [] _

open-moved : (by first : ℕ) (label : Option ℕ) (comments : List (List ℕ)) (o : OpeningTree) (p : SoFar)
    → open_block (first + by) label comments o (moved_so_far by p) ≡ moved_so_far by (open_block first label comments o p)
unfolding open_block
open-moved by first label comments o p = spot-moved by _ first comments _

loops-moved : (by l : ℕ) (os : List AroundTree) (p : SoFar) → leave_loops l os (moved_so_far by p) ≡ moved_so_far by (leave_loops l os p)
loops-moved by l [] p = refl
loops-moved by l (o ∷ os) p =
    ap (λ x. if is_loop_to l o.opening then x else moved_so_far by p) (loops-moved by l os (leave_block o os p))
    ∙ choice-through (moved_so_far by) (is_loop_to l o.opening) (leave_loops l os (leave_block o os p)) p

end-loops-moved : (by : ℕ) (label : Option ℕ) (p : SoFar) → end_loops_at label (moved_so_far by p) ≡ moved_so_far by (end_loops_at label p)
end-loops-moved by None p = refl
end-loops-moved by (Some l) p = loops-moved by l p.around p

innermost-closed : (by : ℕ) (os : List AroundTree) (first : ℕ) (comments : List (List ℕ)) (p : SoFar) → close_innermost os (first + by) comments (moved_so_far by p) ≡ moved_so_far by (close_innermost os first comments p)
innermost-closed by [] first comments p = refl
innermost-closed by (o ∷ os) first comments p = spot-moved by _ first comments _

close-moved : (by first : ℕ) (comments : List (List ℕ)) (p : SoFar) → close_block (first + by) comments (moved_so_far by p) ≡ moved_so_far by (close_block first comments p)
close-moved by first comments p = innermost-closed by p.around first comments p

divided : (by : ℕ) (os : List AroundTree) (first : ℕ) (comments : List (List ℕ)) (test : Option ExprTree) (p : SoFar)
    → divide_innermost os (first + by) comments test (moved_so_far by p) ≡ moved_so_far by (divide_innermost os first comments test p)
divided by [] first comments test p = refl
divided by (o ∷ os) first comments test p = spot-moved by _ first comments _

continue-moved : (by first l : ℕ) (comments : List (List ℕ)) (p : SoFar) → add_continue (first + by) l comments (moved_so_far by p) ≡ moved_so_far by (add_continue first l comments p)
continue-moved by first l comments p =
    ap (end_loops l) (executable-moved by first (Some l) comments continue p) ∙ end-loops-moved by (Some l) (add_executable first (Some l) comments continue p)

close-if-moved : (by first : ℕ) (label : Option ℕ) (comments : List (List ℕ)) (p : SoFar) → close_if (first + by) label comments (moved_so_far by p) ≡ moved_so_far by (close_if first label comments p)
close-if-moved by first None comments p = close-moved by first comments p
close-if-moved by first (Some l) comments p = ap (add_continue (first + by) l []) (close-moved by first comments p) ∙ continue-moved by first l [] (close_block first comments p)

close-do-moved : (by first : ℕ) (label : Option ℕ) (comments : List (List ℕ)) (p : SoFar) → close_do (first + by) label comments (moved_so_far by p) ≡ moved_so_far by (close_do first label comments p)
close-do-moved by first None comments p = close-moved by first comments p
close-do-moved by first (Some l) comments p = ap (close_block (first + by) []) (continue-moved by first l comments p) ∙ close-moved by first [] (add_continue first l comments p)

close-module-moved : (by first : ℕ) (label : Option ℕ) (comments : List (List ℕ)) (p : SoFar) → close_module (first + by) label comments (moved_so_far by p) ≡ moved_so_far by (close_module first label comments p)
close-module-moved by first None comments p = spot-moved by _ first comments _
close-module-moved by first (Some l) comments p = ap (add_spot parts.End (first + by) []) (continue-moved by first l comments p) ∙ spot-moved by _ first [] _

while-moved : (by first : ℕ) (label : Option ℕ) (comments : List (List ℕ)) (l : Option ℕ) (e : ExprTree) (p : SoFar)
    → open_block (first + by) label comments (opening_while l e) (add_while (moved_so_far by p)) ≡ moved_so_far by (open_block first label comments (opening_while l e) (add_while p))
unfolding add_while
while-moved by first label comments l e p = open-moved by first label comments (opening_while l e) (add_while p)

phrase-moved : (by first : ℕ) (label : Option ℕ) (comments : List (List ℕ)) (phrase : PhraseTree) (p : SoFar)
    → add_phrase (first + by) label comments phrase (moved_so_far by p) ≡ moved_so_far by (add_phrase first label comments phrase p)
phrase-moved by first label comments (program n) p = spot-moved by _ first comments _
phrase-moved by first label comments (subroutine n ds) p = spot-moved by _ first comments _
phrase-moved by first label comments (function form n ds) p = spot-moved by _ first comments _
phrase-moved by first label comments (specification d) p = spot-moved by _ first comments _
phrase-moved by first label comments (simple w) p =
    ap (end_loops_at label) (executable-moved by first label comments w p) ∙ end-loops-moved by label (add_executable first label comments w p)
phrase-moved by first label comments (logical_if e w) p =
    ap (end_loops_at label) (logical-moved by first label comments e w p) ∙ end-loops-moved by label (add_logical_if first label comments e w p)
phrase-moved by first label comments (block_if e) p = open-moved by first label comments (branches [] (Some e)) p
phrase-moved by first label comments (else_if e) p = divided by p.around first comments (Some e) p
phrase-moved by first label comments else_part p = divided by p.around first comments None p
phrase-moved by first label comments end_if p = close-if-moved by first label comments p
phrase-moved by first label comments (do_head d) p = open-moved by first label comments (opening_loop d) p
phrase-moved by first label comments (while_head l e) p = while-moved by first label comments l e p
phrase-moved by first label comments end_do p = close-do-moved by first label comments p
phrase-moved by first label comments end_module p = close-module-moved by first label comments p

all-moved : (by : ℕ) (ss : List StatementTree) (p : SoFar) → add_all (map (moved_statement by) ss) (moved_so_far by p) ≡ moved_so_far by (add_all ss p)
all-moved by [] p = refl
all-moved by (s ∷ ss) p =
    ap (add_all (map (moved_statement by) ss)) (phrase-moved by s.first s.label s.comments s.phrase p) ∙ all-moved by ss (add_statement s p)

built-moved : (by : ℕ) (closing : List (List ℕ)) (ss : List StatementTree) → build_module closing (map (moved_statement by) ss) ≡ moved by (build_module closing ss)
unfolding build_module written_module
built-moved by closing ss = ap (λ p. elaborated_parsed (whole closing p)) (all-moved by ss no_statements)

-- ---- modules

marks-moved : (by : ℕ) (ss : List StatementTree) → marks_of (map (moved_statement by) ss) ≡ map (moved_mark by) (marks_of ss)
marks-moved by [] = refl
marks-moved by (s ∷ ss) = ap (λ ms. moved_mark by (mark_of s) ∷ ms) (marks-moved by ss)

abbrev pub moved_refused : ℕ → Refused → Refused
moved_refused by r = record r { line = r.line + by }

abbrev pub result_map : {A B : Type 0} → (A → B) → (Refused → Refused) → Result A Refused → Result B Refused
result_map f g (Ok a) = Ok (f a)
result_map f g (Err r) = Err (g r)

unless-moved : (by : ℕ) (found : Option Refusal) (p : ParsedTree) → unless_faulty (option_map (moved_refusal by) found) (moved by p) ≡ result_map (moved by) (moved_refused by) (unless_faulty found p)
unless-moved by None p = refl
unless-moved by (Some f) p = refl

pub phrases-moved : (by : ℕ) (ss : List StatementTree) → phrases (map (moved_statement by) ss) ≡ phrases ss
phrases-moved by [] = refl
phrases-moved by (s ∷ ss) = ap (λ ps. s.phrase ∷ ps) (phrases-moved by ss)

moved-by : (by : ℕ) (c : Bool) (s : ℕ) (o p : Option ℕ) → p ≡ option_map (λ k. k + by) o → (if c then Some (s + by) else p) ≡ option_map (λ k. k + by) (if c then Some s else o)
moved-by by true s o p h = refl
moved-by by false s o p h = h

bad-moved : (by : ℕ) (bounded names : List (List ℕ)) (ss : List StatementTree) → bad_reference_from bounded names (map (moved_statement by) ss) ≡ option_map (λ k. k + by) (bad_reference_from bounded names ss)
bad-moved by bounded names [] = refl
bad-moved by bounded names (s ∷ ss) =
    moved-by by (is_bad_reference bounded names (assigned_by s.phrase)) s.first (bad_reference_from bounded names ss) (bad_reference_from bounded names (map (moved_statement by) ss)) (bad-moved by bounded names ss)

reference-moved : (by : ℕ) (ss : List StatementTree) → reference_fault (map (moved_statement by) ss) ≡ option_map (λ k. k + by) (reference_fault ss)
unfolding reference_fault
reference-moved by ss =
    let m = map (moved_statement by) ss in
    ap (λ ds. bad_reference_in (bounded_names ds) m) (same-decls m ss (phrases-moved by ss))
    ∙ ap (λ names. bad_reference_from (bounded_names (decls_to_end ss)) names m) (same-standing (bounded_names (decls_to_end ss)) m ss (phrases-moved by ss))
    ∙ bad-moved by (bounded_names (decls_to_end ss)) (standing (bounded_names (decls_to_end ss)) ss) ss

with-moved : (by : ℕ) (o : Option ℕ) (f : Option Refusal) → with_reference (option_map (λ k. k + by) o) (option_map (moved_refusal by) f) ≡ option_map (moved_refusal by) (with_reference o f)
with-moved by None f = refl
with-moved by (Some line) f = refuse-moved by true line StrayPart f

module-fault-moved : (by : ℕ) (ss : List StatementTree) → module_fault (map (moved_statement by) ss) ≡ option_map (moved_refusal by) (module_fault ss)
module-fault-moved by ss =
    ap (λ o. with_reference o (fault_of (marks_of (map (moved_statement by) ss)))) (reference-moved by ss)
    ∙ ap (λ ms. with_reference (option_map (λ k. k + by) (reference_fault ss)) (fault_of ms)) (marks-moved by ss)
    ∙ ap (with_reference (option_map (λ k. k + by) (reference_fault ss))) (fault-moved by (marks_of ss))
    ∙ with-moved by (reference_fault ss) (fault_of (marks_of ss))

-- no such F() at other lines
pub uncalled-moved : (by : ℕ) (ss : List StatementTree) → empty_call_fault (map (moved_statement by) ss) ≡ None → empty_call_fault ss ≡ None
uncalled-moved by ss h = same-uncalled (map (moved_statement by) ss) ss (phrases-moved by ss) h

pub moved-uncalled : (by : ℕ) (ss : List StatementTree) → empty_call_fault ss ≡ None → empty_call_fault (map (moved_statement by) ss) ≡ None
moved-uncalled by ss h = same-uncalled ss (map (moved_statement by) ss) (sym (phrases-moved by ss)) h

pub module-moved : (by : ℕ) (closing : List (List ℕ)) (ss : List StatementTree)
    → module_read closing (map (moved_statement by) ss) ≡ result_map (moved by) (moved_refused by) (module_read closing ss)
module-moved by closing ss =
    ap (λ f. unless_faulty f (build_module closing (map (moved_statement by) ss))) (module-fault-moved by ss)
    ∙ ap (unless_faulty (option_map (moved_refusal by) (module_fault ss))) (built-moved by closing ss)
    ∙ unless-moved by (module_fault ss) (build_module closing ss)

none-of-moved : (by : ℕ) (ss : List StatementTree) → is_none_of (map (moved_statement by) ss) ≡ is_none_of ss
none-of-moved by [] = refl
none-of-moved by (s ∷ ss) = refl

then-moved : (by : ℕ) (r : Result ParsedTree Refused) (f g : ParsedTree → Result (List ParsedTree) Refused)
    → ((p : ParsedTree) → f (moved by p) ≡ result_map (map (moved by)) (moved_refused by) (g p))
    → and_then (result_map (moved by) (moved_refused by) r) f ≡ result_map (map (moved by)) (moved_refused by) (and_then r g)
then-moved by (Ok p) f g h = h p
then-moved by (Err e) f g h = refl

pub modules-moved : (by : ℕ) (closing : List (List ℕ)) (done : List ParsedTree) (begun ss : List StatementTree)
    → modules_from closing (map (moved by) done) (map (moved_statement by) begun) (map (moved_statement by) ss) ≡ result_map (map (moved by)) (moved_refused by) (modules_from closing done begun ss)
modules-moved by closing done begun [] = refl
modules-moved by closing done begun (s ∷ ss) =
    let m = map (moved_statement by) in
    let q = map (moved by) in
    let R = result_map (map (moved by)) (moved_refused by) in
    let whole : m begun ++ moved_statement by s ∷ [] ≡ m (begun ++ s ∷ []) = sym (map-append (moved_statement by) begun (s ∷ [])) in
    let own : List (List ℕ) = closing_at (is_none_of ss) closing in
    let next : ParsedTree → Result (List ParsedTree) Refused = λ p. modules_from closing (done ++ p ∷ []) [] ss in
    let next' : ParsedTree → Result (List ParsedTree) Refused = λ p. modules_from closing (q done ++ p ∷ []) [] (m ss) in
    let over : and_then (module_read (closing_at (is_none_of (m ss)) closing) (m begun ++ moved_statement by s ∷ [])) next' ≡ R (and_then (module_read own (begun ++ s ∷ [])) next) =
    ap (λ b. and_then (module_read (closing_at b closing) (m begun ++ moved_statement by s ∷ [])) next') (none-of-moved by ss)
    ∙ ap (λ xs. and_then (module_read own xs) next') whole
    ∙ ap (λ r. and_then r next') (module-moved by own (begun ++ s ∷ []))
    ∙ then-moved by (module_read own (begun ++ s ∷ [])) next' next
    (λ p. ap (λ d. modules_from closing d [] (m ss)) (sym (map-append (moved by) done (p ∷ []))) ∙ modules-moved by closing (done ++ p ∷ []) [] ss) in
    let on : modules_from closing (q done) (m begun ++ moved_statement by s ∷ []) (m ss) ≡ R (modules_from closing done (begun ++ s ∷ []) ss) =
    ap (λ xs. modules_from closing (q done) xs (m ss)) whole ∙ modules-moved by closing done (begun ++ s ∷ []) ss in
    ap (λ x. if ends_module s.phrase then x else modules_from closing (q done) (m begun ++ moved_statement by s ∷ []) (m ss)) over
    ∙ ap (λ y. if ends_module s.phrase then R (and_then (module_read own (begun ++ s ∷ [])) next) else y) on
    ∙ choice-through R (ends_module s.phrase) (and_then (module_read own (begun ++ s ∷ [])) next) (modules_from closing done (begun ++ s ∷ []) ss)

-- ---- statements by themselves

-- each line is read as this statement
abbrev pub AreRead : List Line → List StatementTree → Type 0
AreRead [] [] = Unit {0}
AreRead [] (s ∷ ss) = ⊥
AreRead (l ∷ ls) [] = ⊥
AreRead (l ∷ ls) (s ∷ ss) = record { first : statement_of l ≡ Ok s; others : AreRead ls ss }

pub all-read : (ls : List Line) (ss done : List StatementTree) → AreRead ls ss → all_read done ls ≡ Ok (done ++ ss)
all-read [] [] done h = ap Ok (sym (append-nil done))
all-read [] (s ∷ ss) done h = absurd h
all-read (l ∷ ls) [] done h = absurd h
all-read (l ∷ ls) (s ∷ ss) done h =
    ap (λ r. and_then r (λ x. all_read (done ++ x ∷ []) ls)) h.first ∙ all-read ls ss (done ++ s ∷ []) h.others ∙ ap Ok (append_assoc done (s ∷ []) ss)

pub record ReadAfter (done : List StatementTree) (ls : List Line) (all : List StatementTree) : Type 0 where
  pub own : List StatementTree
  pub is : all ≡ done ++ own
  pub read : AreRead ls own

read-step : (l : Line) (ls : List Line) (done all : List StatementTree) (r : Result StatementTree Refused) → statement_of l ≡ r
    → and_then r (λ s. all_read (done ++ s ∷ []) ls) ≡ Ok all → ((s : StatementTree) → all_read (done ++ s ∷ []) ls ≡ Ok all → ReadAfter (done ++ s ∷ []) ls all) → ReadAfter done (l ∷ ls) all
read-step l ls done all (Ok s) e h g =
    let a = g s h in record { own = s ∷ a.own; is = a.is ∙ append_assoc done (s ∷ []) a.own; read = record { first = e; others = a.read } }
read-step l ls done all (Err r) e h g = cc

pub read-after : (ls : List Line) (done all : List StatementTree) → all_read done ls ≡ Ok all → ReadAfter done ls all
read-after [] done all h = record { own = []; is = let same : done ≡ all = cc in sym same ∙ sym (append-nil done); read = tt }
read-after (l ∷ ls) done all h = read-step l ls done all (statement_of l) refl h (λ s g. read-after ls (done ++ s ∷ []) all g)

read-moved-by : (by : ℕ) (l : Line) (r : Result PhraseTree Cause) (s : StatementTree) → read_as l r ≡ Ok s → read_as (moved_line by l) r ≡ Ok (moved_statement by s)
read-moved-by by l (Ok p) s h = ap (result_map (moved_statement by) (λ e. e)) h
read-moved-by by l (Err c) s h = cc

pub read-moved : (by : ℕ) (ls : List Line) (ss : List StatementTree) → AreRead ls ss → AreRead (map (moved_line by) ls) (map (moved_statement by) ss)
read-moved by [] [] h = tt
read-moved by [] (s ∷ ss) h = absurd h
read-moved by (l ∷ ls) [] h = absurd h
read-moved by (l ∷ ls) (s ∷ ss) h = record { first = read-moved-by by l (phrase_of l.body) s h.first; others = read-moved by ls ss h.others }

pub record Unmoved (by : ℕ) (ls : List Line) (ss : List StatementTree) : Type 0 where
  pub own : List StatementTree
  pub is : ss ≡ map (moved_statement by) own
  pub read : AreRead ls own

unmoved-by : (by : ℕ) (l : Line) (ls : List Line) (r : Result PhraseTree Cause) (s : StatementTree) (ss : List StatementTree) → phrase_of l.body ≡ r → read_as (moved_line by l) r ≡ Ok s
    → Unmoved by ls ss → Unmoved by (l ∷ ls) (s ∷ ss)
unmoved-by by l ls (Ok p) s ss e h u = record {
  own = record { first = l.first; label = l.label; deep = is_deep l.body; comments = l.comments; phrase = p } ∷ u.own;
  is = let same : record { first = l.first + by; label = l.label; deep = is_deep l.body; comments = l.comments; phrase = p } ≡ s = cc in
      ap (λ x. x ∷ ss) (sym same) ∙ ap (λ xs. record { first = l.first + by; label = l.label; deep = is_deep l.body; comments = l.comments; phrase = p } ∷ xs) u.is;
  read = record { first = ap (read_as l) e; others = u.read };
}
unmoved-by by l ls (Err c) s ss e h u = cc

pub unmoved : (by : ℕ) (ls : List Line) (ss : List StatementTree) → AreRead (map (moved_line by) ls) ss → Unmoved by ls ss
unmoved by [] [] h = record { own = []; is = refl; read = tt }
unmoved by [] (s ∷ ss) h = absurd h
unmoved by (l ∷ ls) [] h = absurd h
unmoved by (l ∷ ls) (s ∷ ss) h = unmoved-by by l ls (phrase_of l.body) s ss refl h.first (unmoved by ls ss h.others)
