-- A page does not depend on the lines of spots.
use Rattle.std.proofs.Common.{◌≡◌, ℕ, ◌+◌, Bool, true, false, List, [], ◌∷◌, map, nat_eq, refl, ap, ◌∙◌, if◌then◌else◌}
use Rattle.std.specs.Prelude.{Option, None, codes}
use Rattle.f77_ast.specs.declared.places.Part.{Part}
use Rattle.f77_ast.specs.declared.places.Part.TheVariants.{Title, Decl, Stmt, ElseIf, Else, Close, End}
use Rattle.f77_ast.specs.declared.places.Spot.{Spot}
use Rattle.f77_ast.specs.Trees.{ExprTree, StmtTree, stmt, WhatTree, assign, block_if, logical_if, do_loop, call, goto, continue, return, stop, print, read, ArmTrees, no_arms, more_arms, arm, ElseTree, no_else, otherwise, loop, StmtTrees, no_stmts, more_stmts}
use Rattle.f77_ast.specs.Hidden.{is_hidden, IfForm, block, reference, do_while, form_of_if}
use Rattle.f77_ast.specs.DeclTrees.{DeclTree, ModuleTree}
use Rattle.f77_printer.specs.DeclText.{decl_text}
use Rattle.f77_printer.specs.StatementText.{what_text}
use Rattle.f77_printer.specs.PageText.{PageTree, is_part, with_text, with_spot, with_next, with_comments, with_line, lines_text}
use Rattle.f77_printer.specs.AddedText.{added_text}
use Rattle.f77_printer.specs.ModuleText.{with_start, with_inner, else_if_text, with_test, with_end_if, with_last, with_own, with_statement, with_below, with_arms, with_else, with_statements, has_title, title_text, with_title, with_decl, with_decls, with_end, with_module, first_part}
use Rattle.roundtrip_programs.specs.Pieces.Moved.{moved_spot}
use Rattle.roundtrip_programs.specs.Written.Laws.{MovedAreWrittenAlike}

-- the same page, the spots still to come being at other lines
abbrev moved_page : ℕ → PageTree → PageTree
moved_page by p = record p { spots = map (moved_spot by) p.spots }

chosen-moved : (by : ℕ) (b : Bool) (x y : PageTree) → (if b then moved_page by x else moved_page by y) ≡ moved_page by (if b then x else y)
chosen-moved by true x y = refl
chosen-moved by false x y = refl

text-moved : (by : ℕ) (more : List ℕ) (p : PageTree) → with_text more (moved_page by p) ≡ moved_page by (with_text more p)
unfolding with_text
text-moved by more p = refl

next-moved : (by : ℕ) (part : Part) (ss : List Spot) (p : PageTree) → with_next part (map (moved_spot by) ss) (moved_page by p) ≡ moved_page by (with_next part ss p)
next-moved by part [] p = refl
next-moved by part (s ∷ ss) p = chosen-moved by (is_part part s.part) (with_spot s ss p) p

comments-moved : (by : ℕ) (part : Part) (p : PageTree) → with_comments part (moved_page by p) ≡ moved_page by (with_comments part p)
unfolding with_comments
comments-moved by part p = next-moved by part p.spots p

line-moved : (by : ℕ) (label : Option ℕ) (text : List ℕ) (p : PageTree) → with_line label text (moved_page by p) ≡ moved_page by (with_line label text p)
line-moved by label text p = text-moved by _ p

start-moved : (by : ℕ) (added : Part → List ℕ) (part : Part) (p : PageTree) → with_start added part (moved_page by p) ≡ moved_page by (with_start added part p)
start-moved by added part p = ap (with_text (added part)) (comments-moved by part p) ∙ text-moved by (added part) (with_comments part p)

-- a line of its own after the comments of its part
commented-moved : (by : ℕ) (part : Part) (text : List ℕ) (p : PageTree) → with_line None text (with_comments part (moved_page by p)) ≡ moved_page by (with_line None text (with_comments part p))
commented-moved by part text p = ap (with_line None text) (comments-moved by part p) ∙ line-moved by None text (with_comments part p)

-- and after what is added, too
started-moved : (by : ℕ) (added : Part → List ℕ) (part : Part) (text : List ℕ) (p : PageTree)
    → with_line None text (with_start added part (moved_page by p)) ≡ moved_page by (with_line None text (with_start added part p))
started-moved by added part text p = ap (with_line None text) (start-moved by added part p) ∙ line-moved by None text (with_start added part p)

-- ---- executable statements

inner-moved : (by : ℕ) (w : WhatTree) (p : PageTree) → with_inner w (moved_page by p) ≡ moved_page by (with_inner w p)
inner-moved by (assign v e) p = refl
inner-moved by (block_if arms other) p = refl
inner-moved by (logical_if e (stmt id label w)) p = comments-moved by (Stmt id) p
inner-moved by (do_loop l) p = refl
inner-moved by (call n es) p = refl
inner-moved by (goto l) p = refl
inner-moved by continue p = refl
inner-moved by return p = refl
inner-moved by (stop text) p = refl
inner-moved by (print es) p = refl
inner-moved by (read es) p = refl

test-moved : (by id place : ℕ) (test : ExprTree) (p : PageTree) → with_test id place test (moved_page by p) ≡ moved_page by (with_test id place test p)
test-moved by id place test p =
    ap (λ x. if nat_eq place 0 then moved_page by p else x) (commented-moved by (ElseIf id place) (else_if_text test) p)
    ∙ chosen-moved by (nat_eq place 0) p (with_line None (else_if_text test) (with_comments (ElseIf id place) p))

closed-moved : (by id : ℕ) (form : IfForm) (p : PageTree) → with_end_if id form (moved_page by p) ≡ moved_page by (with_end_if id form p)
closed-moved by id block p = commented-moved by (Close id) (codes "END IF") p
closed-moved by id (reference v f es) p = refl
closed-moved by id (do_while l test body) p = commented-moved by (Close id) (codes "END DO") p

last-moved : (by id : ℕ) (w : WhatTree) (p : PageTree) → with_last id w (moved_page by p) ≡ moved_page by (with_last id w p)
last-moved by id (assign v e) p = refl
last-moved by id (block_if arms other) p = closed-moved by id (form_of_if arms other) p
last-moved by id (logical_if e s) p = refl
last-moved by id (do_loop l) p = commented-moved by (Close id) (codes "END DO") p
last-moved by id (call n es) p = refl
last-moved by id (goto l) p = refl
last-moved by id continue p = refl
last-moved by id return p = refl
last-moved by id (stop text) p = refl
last-moved by id (print es) p = refl
last-moved by id (read es) p = refl

own-moved : (by : ℕ) (added : Part → List ℕ) (id : ℕ) (label : Option ℕ) (w : WhatTree) (p : PageTree) → with_own added id label w (moved_page by p) ≡ moved_page by (with_own added id label w p)
own-moved by added id label w p =
    let q = with_start added (Stmt id) p in
    ap (λ x. with_line label (what_text w) (with_inner w x)) (start-moved by added (Stmt id) p)
    ∙ ap (λ x. with_line label (what_text w) x) (inner-moved by w q)
    ∙ line-moved by label (what_text w) (with_inner w q)

mutual
  statement-moved : (by : ℕ) (added : Part → List ℕ) (s : StmtTree) (p : PageTree) → with_statement added s (moved_page by p) ≡ moved_page by (with_statement added s p)
  statement-moved by added (stmt id label w) p =
      ap (λ x. if is_hidden id then x else with_last id w (with_below added id w (with_own added id label w (moved_page by p)))) (below-moved by added id w p)
      ∙ ap (λ x. if is_hidden id then moved_page by (with_below added id w p) else x)
      (ap (λ x. with_last id w (with_below added id w x)) (own-moved by added id label w p)
      ∙ ap (with_last id w) (below-moved by added id w (with_own added id label w p))
      ∙ last-moved by id w (with_below added id w (with_own added id label w p)))
      ∙ chosen-moved by (is_hidden id) (with_below added id w p) (with_last id w (with_below added id w (with_own added id label w p)))

  below-moved : (by : ℕ) (added : Part → List ℕ) (id : ℕ) (w : WhatTree) (p : PageTree) → with_below added id w (moved_page by p) ≡ moved_page by (with_below added id w p)
  below-moved by added id (assign v e) p = refl
  below-moved by added id (block_if arms other) p =
      ap (with_else added id other) (arms-moved by added id 0 arms p) ∙ else-moved by added id other (with_arms added id 0 arms p)
  below-moved by added id (logical_if e s) p = refl
  below-moved by added id (do_loop (loop index first last step body)) p = list-moved by added body p
  below-moved by added id (call n es) p = refl
  below-moved by added id (goto l) p = refl
  below-moved by added id continue p = refl
  below-moved by added id return p = refl
  below-moved by added id (stop text) p = refl
  below-moved by added id (print es) p = refl
  below-moved by added id (read es) p = refl

  arms-moved : (by : ℕ) (added : Part → List ℕ) (id place : ℕ) (arms : ArmTrees) (p : PageTree) → with_arms added id place arms (moved_page by p) ≡ moved_page by (with_arms added id place arms p)
  arms-moved by added id place no_arms p = refl
  arms-moved by added id place (more_arms (arm test body) others) p =
      let q = with_test id place test p in
      ap (λ x. with_arms added id (place + 1) others (with_statements added body x)) (test-moved by id place test p)
      ∙ ap (with_arms added id (place + 1) others) (list-moved by added body q)
      ∙ arms-moved by added id (place + 1) others (with_statements added body q)

  else-moved : (by : ℕ) (added : Part → List ℕ) (id : ℕ) (other : ElseTree) (p : PageTree) → with_else added id other (moved_page by p) ≡ moved_page by (with_else added id other p)
  else-moved by added id no_else p = refl
  else-moved by added id (otherwise body) p =
      ap (with_statements added body) (commented-moved by (Else id) (codes "ELSE") p) ∙ list-moved by added body (with_line None (codes "ELSE") (with_comments (Else id) p))

  list-moved : (by : ℕ) (added : Part → List ℕ) (body : StmtTrees) (p : PageTree) → with_statements added body (moved_page by p) ≡ moved_page by (with_statements added body p)
  list-moved by added no_stmts p = refl
  list-moved by added (more_stmts s others) p =
      ap (with_statements added others) (statement-moved by added s p) ∙ list-moved by added others (with_statement added s p)

-- ---- modules

title-moved : (by : ℕ) (added : Part → List ℕ) (m : ModuleTree) (p : PageTree) → with_title added m (moved_page by p) ≡ moved_page by (with_title added m p)
title-moved by added m p =
    ap (λ x. if has_title m then x else moved_page by p) (started-moved by added Title (title_text m) p)
    ∙ chosen-moved by (has_title m) (with_line None (title_text m) (with_start added Title p)) p

decls-moved : (by : ℕ) (added : Part → List ℕ) (place : ℕ) (ds : List DeclTree) (p : PageTree) → with_decls added place ds (moved_page by p) ≡ moved_page by (with_decls added place ds p)
decls-moved by added place [] p = refl
decls-moved by added place (d ∷ ds) p =
    ap (with_decls added (place + 1) ds) (started-moved by added (Decl place) (decl_text d) p) ∙ decls-moved by added (place + 1) ds (with_decl added place d p)

module-moved : (by : ℕ) (added : Part → List ℕ) (m : ModuleTree) (p : PageTree) → with_module added m (moved_page by p) ≡ moved_page by (with_module added m p)
module-moved by added m p =
    let q = with_title added m p in
    let r = with_decls added 0 m.decls q in
    ap (λ x. with_end added (with_statements added m.body (with_decls added 0 m.decls x))) (title-moved by added m p)
    ∙ ap (λ x. with_end added (with_statements added m.body x)) (decls-moved by added 0 m.decls q)
    ∙ ap (with_end added) (list-moved by added m.body r)
    ∙ started-moved by added End (codes "END") (with_statements added m.body r)

pub moved_are_written_alike : MovedAreWrittenAlike
unfolding with_text
moved_are_written_alike by m added =
    ap (λ x. (with_text (lines_text m.places.closing) x).text)
    (module-moved by (added_text (first_part m.module_read) added) m.module_read (record { text = []; spots = m.places.spots }))
