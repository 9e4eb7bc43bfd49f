-- The written text of a program is read with the marked loops that it was written with.
use Rattle.std.proofs.Common.{inl, inr, ◌≡◌, ℕ, ◌+◌, Bool, true, false, List, [], ◌∷◌, ◌++◌, map, refl, sym, ap, ◌∙◌, subst, append_assoc, append-nil, Option, Some, None, if◌then◌else◌, not, eq-eqb}
use Rattle.std.specs.Prelude.{nat_eq, drop, ◌&&◌, ◌||◌, codes}
use Rattle.std.specs.List.{list_all, list_any, starts_with}
use Rattle.std.proofs.lemmas.List.Folds.{list_any-append}
use Rattle.std.proofs.lemmas.Bool.{and_from, and_right, or_left, or_right, or_parts}
use Rattle.f77_ast.specs.declared.places.Part.{Part}
use Rattle.f77_ast.specs.declared.places.Part.TheVariants as parts
use Rattle.f77_ast.specs.declared.places.Spot.{Spot}
use Rattle.f77_ast.specs.DeclTrees.{DeclTree, ModuleTree, ParsedTree}
use Rattle.f77_printer.specs.declared.added.Added.{Added}
use Rattle.f77_printer.specs.PageText.{is_part}
use Rattle.f77_printer.specs.AddedText.{part_of}
use Rattle.f77_printer.specs.ModuleText.{first_part}
use Rattle.f77_ast.specs.declared.results.At.{At}
use Rattle.fixed_form.specs.Cards.{has_comment_mark}
use Rattle.result_lines.specs.MarkText.{obstacle_line, directive_lines}
use Rattle.result_lines.specs.ReductionText.{reduction_text}
use Rattle.result_lines.specs.ReductionLines.{LoopSaid, Directed, Obstructed, said_lines}
use Rattle.result_lines.specs.declared.reduction.Part.{Part as Accumulated}
use Rattle.laws_programs.specs.roundtrip_programs.Cards.Cards.{kept}
use Rattle.laws_programs.specs.roundtrip_programs.Statements.Formed.{Each}
use Rattle.f77_statements.specs.Phrases.{end_module}
use Rattle.f77_parser.specs.Elaborated.{meant_in}
use Rattle.laws_programs.specs.roundtrip_programs.ModuleTexts.Folded.{folded}
use Rattle.laws_programs.specs.roundtrip_programs.ModuleTexts.Cards.{Card, card, title_of, title_cards, decl_cards, cards_in, statements_of}
use Rattle.laws_programs.specs.roundtrip_programs.ModuleTexts.Numbered.{IsWell}
use Rattle.laws_programs.proofs.RoundtripPrograms.ModuleTexts.Again.{built_again}
use Rattle.laws_programs.specs.roundtrip_programs.ModuleTexts.Page.{comments_at, spots_behind, inner_comments, behind}
use Rattle.system_text.specs.Reading.{Bytes}
use Rattle.system_text.specs.Printed.{AreNames}
use Rattle.laws_programs.specs.roundtrip_programs.Lines.{AreShown}
use Rattle.laws_programs.specs.roundtrip_programs.Texts.Texts.{modules_text}
use Rattle.laws_programs.specs.roundtrip_programs.Texts.Laws.{AllPassedOver}
use Rattle.laws_programs.proofs.RoundtripPrograms.Texts.Sources.{AreKept}
use Rattle.laws_programs.proofs.RoundtripPrograms.Texts.SpotsKept.{SpotsKept, comments-kept, behind-kept, inner-kept, inner-behind}
use Rattle.laws_programs.proofs.RoundtripPrograms.Texts.Read.{AreParsed, all-parsed}
use Rattle.laws_programs.proofs.RoundtripPrograms.Texts.Rows.{added_lines, lines_at, rows_of, module_rows, all_rows, last_closing}
use Rattle.laws_programs.proofs.RoundtripPrograms.Texts.RowsBack.{read_rows, lines_behind}
use Rattle.laws_programs.proofs.RoundtripPrograms.Texts.Standing.{spots_of, built-spots}
use Rattle.laws_programs.proofs.RoundtripPrograms.Texts.Whole.{IsSound, plain, all-sound, all-rows, closing-kept, all-text, again_of, all_again, again-written, parsed-back}
use Rattle.laws_lines.specs.Marks.Directives.{Clauses, is_sentinel, Directive, directives_in, directives_from}
use Rattle.laws_lines.specs.Marks.Marked.{Attached, attached, all_attached, loops_in, with_functions, all_with_functions, AreOfLoops}
use Rattle.laws_lines.specs.Marks.Lines.{AreNumberedSaid}
use Rattle.laws_lines.specs.Marks.MarkedLoops.{as_parallel, parallel_in}
use Rattle.laws_lines.specs.Marks.WholeLaws.{IsMarked, with_marks, MarkedBack, MarksReadBack}
use Rattle.laws_lines.proofs.Marks.Found.{ArePlain, AreSentinels, LinesAre, AreRows, found, lines_are, rows_found, rows_join, found_append}
use Rattle.laws_lines.proofs.Marks.Attach.{IsFrom, IsMarkable, AreMarkable, found_from, attach_rows}
use Rattle.laws_lines.proofs.Marks.Loops.{HaveLoops, Ascend, body_have_loops, body_rises_on}
use Rattle.laws_lines.proofs.Marks.MarkNumbers.{loops_written}
use Rattle.laws_lines.proofs.Marks.Cases.{look, mark_at, mark_for, lines_for, added_append, AreOfStatements, marks_at_statement, marks_nowhere, numbers, StatementCase, CardCases, Result, above, above_zero, along}
use Rattle.laws_lines.proofs.Marks.DirectiveBack.{reductions_read_back}
use Rattle.laws_lines.proofs.Marks.Passed.{AreOfDirective, directive_is}

-- ---- lines that are no lines for compilers

kept_plain : (ls : List Bytes) → AreKept ls → ArePlain ls
kept_plain [] h = tt
kept_plain (l ∷ ls) h =
    let p = or_parts (starts_with nat_eq l (codes "C>")) (starts_with nat_eq (drop 1 l) (codes "$")) h.first.not_dropped in
    (and_right (has_comment_mark l) (starts_with nat_eq (drop 1 l) (codes "$")) p.1, kept_plain ls h.others)

plain_append : (xs ys : List Bytes) → ArePlain xs → ArePlain ys → ArePlain (xs ++ ys)
plain_append [] ys h k = k
plain_append (x ∷ xs) ys h k = (h.0, plain_append xs ys h.1 k)

abbrev PlainAdded : List Added → Type 0
PlainAdded as' = Each (λ (a : Added). is_sentinel a.line ≡ false) as'

plain_choice : (b : Bool) (l : Bytes) (ls : List Bytes) → is_sentinel l ≡ false → ArePlain ls → ArePlain (if b then l ∷ ls else ls)
plain_choice true l ls h k = (h, k)
plain_choice false l ls h k = k

plain_added : (first : Part) (as' : List Added) (part : Part) → PlainAdded as' → ArePlain (added_lines first as' part)
plain_added first [] part h = tt
plain_added first (a ∷ as') part h = plain_choice (is_part part (part_of first a)) a.line (added_lines first as' part) h.first (plain_added first as' part h.others)

each_sentinel : (ls : List Bytes) → AreOfDirective ls → AreSentinels ls
each_sentinel [] h = tt
each_sentinel (l ∷ ls) h = (h.0.sentinel, each_sentinel ls h.1)

sentinels_of : (names : List Bytes) (ns : List ℕ) (ps : List Accumulated) → AreShown names → AreSentinels (directive_lines (reduction_text names ns ps))
sentinels_of names ns ps h = each_sentinel (directive_lines (reduction_text names ns ps)) (directive_is names ns ps h)

-- a part before which no directive stands
other_part : (part : Part) (inner : Option Part) (spots : List Spot) → SpotsKept spots → (own : List Bytes) → ArePlain own
    → ArePlain ((comments_at part spots ++ own) ++ inner_comments inner (spots_behind part spots))
other_part part inner spots k own h =
    plain_append (comments_at part spots ++ own) (inner_comments inner (spots_behind part spots)) (plain_append (comments_at part spots) own (kept_plain _ (comments-kept part spots k)) h)
    (kept_plain _ (inner-kept inner _ (behind-kept part spots k)))

-- ---- one statement

-- what is asked of a module, and what is added to it
module _ (names : List Bytes) (why : Bool) (ms : List (At LoopSaid)) (others : List Added) (first : Part)
    (are : AreNames names) (shown : AreShown names) (numbered : AreNumberedSaid names ms) (of_statements : AreOfStatements ms) (plain_others : PlainAdded others) where
  abbrev whole_lines : Part → List Bytes
  whole_lines part = added_lines first (others ++ said_lines names why ms) part

  split_lines : (part : Part) → whole_lines part ≡ added_lines first others part ++ added_lines first (said_lines names why ms) part
  split_lines part = added_append first others (said_lines names why ms) part

  other_plain : (part : Part) → ((n : ℕ) → is_part part (parts.Stmt n) ≡ false) → ArePlain (whole_lines part)
  other_plain part f =
      subst ArePlain (sym (split_lines part ∙ ap (λ (x : List Bytes). added_lines first others part ++ x) (marks_nowhere names why first part ms f of_statements) ∙ append-nil (added_lines first others part)))
      (plain_added first others part plain_others)

  statement_lines_are : (i : ℕ) → whole_lines (parts.Stmt i) ≡ added_lines first others (parts.Stmt i) ++ lines_for names why ms i
  statement_lines_are i =
      split_lines (parts.Stmt i) ∙ ap (λ (x : List Bytes). added_lines first others (parts.Stmt i) ++ x) (marks_at_statement names why first ms i of_statements)

  serial_plain : (b : Bool) (l : Bytes) → is_sentinel l ≡ false → ArePlain (if b then l ∷ [] else [])
  serial_plain true l h = (h, tt)
  serial_plain false l h = tt

  all_plain : (i : ℕ) (a b own : List Bytes) → ArePlain a → ArePlain b → lines_for names why ms i ≡ own → ArePlain own → ArePlain ((a ++ whole_lines (parts.Stmt i)) ++ b)
  all_plain i a b own p q e o =
      let mine = subst ArePlain (sym (statement_lines_are i ∙ ap (λ (x : List Bytes). added_lines first others (parts.Stmt i) ++ x) e))
      (plain_append (added_lines first others (parts.Stmt i)) own (plain_added first others (parts.Stmt i) plain_others) o) in
      plain_append (a ++ whole_lines (parts.Stmt i)) b (plain_append a (whole_lines (parts.Stmt i)) p mine) q

  by_case : (i : ℕ) (inner : Option Part) (a b : List Bytes) → ArePlain a → ArePlain b → (inner ≡ None → b ≡ []) → StatementCase names why ms inner i
      → LinesAre ((a ++ whole_lines (parts.Stmt i)) ++ b) (look names ms i)
  by_case i inner a b p q f (inl (e, n)) = subst (LinesAre ((a ++ whole_lines (parts.Stmt i)) ++ b)) (sym n) (all_plain i a b [] p q e tt)
  by_case i inner a b p q f (inr (Obstructed r, num, e, n, g)) =
      subst (LinesAre ((a ++ whole_lines (parts.Stmt i)) ++ b)) (sym n) (all_plain i a b (if why then obstacle_line names r ∷ [] else []) p q e (serial_plain why (obstacle_line names r) refl))
  by_case i inner a b p q f (inr (Directed ns ps, num, e, n, g)) =
      let o = added_lines first others (parts.Stmt i) in
      let d = directive_lines (reduction_text names ns ps) in
      let is : (a ++ whole_lines (parts.Stmt i)) ++ b ≡ (a ++ o) ++ d =
      ap (λ (x : List Bytes). (a ++ whole_lines (parts.Stmt i)) ++ x) (f g)
      ∙ append-nil (a ++ whole_lines (parts.Stmt i))
      ∙ ap (λ (x : List Bytes). a ++ x) (statement_lines_are i ∙ ap (λ (x : List Bytes). o ++ x) e)
      ∙ sym (append_assoc a o d) in
      subst (LinesAre ((a ++ whole_lines (parts.Stmt i)) ++ b)) (sym n) (record {
        before = a ++ o;
        own = d;
        parts = is;
        plain = plain_append a o p (plain_added first others (parts.Stmt i) plain_others);
        sentinels = sentinels_of names ns ps shown;
        read = reductions_read_back names ns ps are num.0 num.1;
      })

  no_inner : (inner : Option Part) (spots : List Spot) → inner ≡ None → inner_comments inner spots ≡ []
  no_inner inner spots e = ap (λ (p : Option Part). inner_comments p spots) e

  at_part : (part : Part) (inner : Option Part) (spots : List Spot) → SpotsKept spots → ((i : ℕ) → part ≡ parts.Stmt i → StatementCase names why ms inner i)
      → LinesAre ((comments_at part spots ++ lines_at whole_lines part) ++ inner_comments inner (spots_behind part spots)) (mark_at names ms part)
  at_part (parts.Stmt i) inner spots k h =
      let part = parts.Stmt i in
      by_case i inner (comments_at part spots) (inner_comments inner (spots_behind part spots)) (kept_plain _ (comments-kept part spots k))
      (kept_plain _ (inner-kept inner _ (behind-kept part spots k))) (no_inner inner (spots_behind part spots)) (h i refl)
  at_part parts.Title inner spots k h = other_part parts.Title inner spots k (whole_lines parts.Title) (other_plain parts.Title (λ n. refl))
  at_part (parts.Decl i) inner spots k h = other_part (parts.Decl i) inner spots k (whole_lines (parts.Decl i)) (other_plain (parts.Decl i) (λ n. refl))
  at_part (parts.ElseIf i j) inner spots k h = other_part (parts.ElseIf i j) inner spots k [] tt
  at_part (parts.Else i) inner spots k h = other_part (parts.Else i) inner spots k [] tt
  at_part (parts.Close i) inner spots k h = other_part (parts.Close i) inner spots k [] tt
  at_part parts.End inner spots k h = other_part parts.End inner spots k (whole_lines parts.End) (other_plain parts.End (λ n. refl))

  rows_are : (cs : List Card) (spots : List Spot) → SpotsKept spots → CardCases names why ms cs → AreRows (rows_of whole_lines spots cs) (map (mark_for names ms) cs)
  rows_are [] spots k h = tt
  rows_are (c ∷ cs) spots k h =
      (at_part c.part c.inner spots k h.0, rows_are cs (behind c spots) (inner-behind c.inner _ (behind-kept c.part spots k)) h.1)

markable_by : (m : Option Clauses) (c : Card) (i : ℕ) → c.part ≡ parts.Stmt i → IsMarkable c m
markable_by None c i e = tt
markable_by (Some says) c i e = (i, e)

markable_at : (names : List Bytes) (ms : List (At LoopSaid)) (c : Card) (part : Part) → c.part ≡ part → IsMarkable c (mark_at names ms part)
markable_at names ms c (parts.Stmt i) e = markable_by (look names ms i) c i e
markable_at names ms c parts.Title e = tt
markable_at names ms c (parts.Decl i) e = tt
markable_at names ms c (parts.ElseIf i j) e = tt
markable_at names ms c (parts.Else i) e = tt
markable_at names ms c (parts.Close i) e = tt
markable_at names ms c parts.End e = tt

all_markable : (names : List Bytes) (ms : List (At LoopSaid)) (cs : List Card) → AreMarkable cs (map (mark_for names ms) cs)
all_markable names ms [] = tt
all_markable names ms (c ∷ cs) = (markable_at names ms c c.part refl, all_markable names ms cs)

-- ---- a module

title_loops : (b : Bool) (c : Card) (rest : List Card) (ls : List ℕ) → HaveLoops rest ls → HaveLoops ((if b then c ∷ [] else []) ++ rest) ls
title_loops true c rest ls h = inl h
title_loops false c rest ls h = h

decls_loops : (place : ℕ) (ds : List DeclTree) (rest : List Card) (ls : List ℕ) → HaveLoops rest ls → HaveLoops (decl_cards place ds ++ rest) ls
decls_loops place [] rest ls h = h
decls_loops place (d ∷ ds) rest ls h = inl (decls_loops (place + 1) ds rest ls h)

title_rises : (b : Bool) (m : ModuleTree) (rest : List Card) → Ascend 0 rest → Ascend 0 ((if b then card parts.Title None (title_of m) ∷ [] else []) ++ rest)
title_rises true m rest h = (tt, h)
title_rises false m rest h = h

decls_rise : (place : ℕ) (ds : List DeclTree) (rest : List Card) → Ascend 0 rest → Ascend 0 (decl_cards place ds ++ rest)
decls_rise place [] rest h = h
decls_rise place (d ∷ ds) rest h = (tt, decls_rise (place + 1) ds rest h)

-- the executable ones as they are written
abbrev body_of : ModuleTree → List Card
body_of m = cards_in (meant_in m).is_while (folded m).body

parts_of : (m : ModuleTree) → statements_of m ≡ title_cards m ++ (decl_cards 0 m.decls ++ (body_of m ++ card parts.End None end_module ∷ []))
unfolding statements_of
parts_of m =
    append_assoc (title_cards m ++ decl_cards 0 m.decls) (body_of m) (card parts.End None end_module ∷ [])
    ∙ append_assoc (title_cards m) (decl_cards 0 m.decls) (body_of m ++ card parts.End None end_module ∷ [])

module_loops : (m : ModuleTree) → IsWell m → HaveLoops (statements_of m) (loops_in m.body)
module_loops m w =
    subst (λ (cs : List Card). HaveLoops cs (loops_in m.body)) (sym (parts_of m))
    (title_loops (m.titled || not m.main) (card parts.Title None (title_of m)) _ (loops_in m.body)
    (decls_loops 0 m.decls _ (loops_in m.body)
    (subst (HaveLoops (body_of m ++ card parts.End None end_module ∷ [])) (sym (loops_written m w))
    (body_have_loops (meant_in m).is_while (folded m).body (card parts.End None end_module ∷ []) w.body (inl refl)))))

module_rises : (m : ModuleTree) → IsWell m → Ascend 0 (statements_of m)
module_rises m w =
    subst (Ascend 0) (sym (parts_of m))
    (title_rises (m.titled || not m.main) m _ (decls_rise 0 m.decls _ (body_rises_on (meant_in m).is_while (folded m).body (card parts.End None end_module ∷ []) w.body (tt, tt))))

-- ---- all modules

member : (i : ℕ) (xs ys : List ℕ) → list_any (nat_eq i) (xs ++ i ∷ ys) ≡ true
member i xs ys =
    list_any-append (nat_eq i) xs (i ∷ ys)
    ∙ or_right (list_any (nat_eq i) xs) (list_any (nat_eq i) (i ∷ ys)) (or_left (nat_eq i i) (list_any (nat_eq i) ys) (eq-eqb i i refl))

abbrev AreAmong : List ℕ → List (At Clauses) → Type 0
AreAmong ls xs = list_all (λ (x : At Clauses). list_any (nat_eq x.id) ls) xs ≡ true

with_one : (ls : List ℕ) (names : List Bytes) (n : ℕ) (v : LoopSaid) (xs : List (At Clauses)) → list_any (nat_eq n) ls ≡ true → AreAmong ls xs → AreAmong ls (as_parallel names n v ++ xs)
with_one ls names n (Directed ns ps) xs h k = and_from (list_any (nat_eq n) ls) (list_all (λ (x : At Clauses). list_any (nat_eq x.id) ls) xs) h k
with_one ls names n (Obstructed r) xs h k = k

among : (names : List Bytes) (before : List ℕ) (ms : List (At LoopSaid)) → AreAmong (before ++ numbers ms) (parallel_in names ms)
among names before [] = refl
among names before (m ∷ ms) =
    with_one (before ++ m.id ∷ numbers ms) names m.id m.value (parallel_in names ms) (member m.id before (numbers ms))
    (subst (λ (ls : List ℕ). AreAmong ls (parallel_in names ms)) (append_assoc before (m.id ∷ []) (numbers ms)) (among names (before ++ m.id ∷ []) ms))

-- also with the names that the text does not say
named_among : (ls : List ℕ) (t : ModuleTree) (xs : List (At Clauses))
    → list_all (λ (x : At Clauses). list_any (nat_eq x.id) ls) (with_functions t xs) ≡ list_all (λ (x : At Clauses). list_any (nat_eq x.id) ls) xs
named_among ls t [] = refl
named_among ls t (x ∷ xs) = ap (λ (b : Bool). list_any (nat_eq x.id) ls && b) (named_among ls t xs)

module _ (names : ParsedTree → List Bytes) (why : Bool) (marks : ParsedTree → List (At LoopSaid)) (others : ParsedTree → List Added) where
  abbrev added : ParsedTree → List Added
  added p = with_marks names why marks others p

  abbrev Marked : ParsedTree → Type 0
  Marked p = IsMarked names marks others p

  abbrev options_of : ParsedTree → List (Option Clauses)
  options_of p = map (mark_for (names p) (marks p)) (statements_of p.module_read)

  abbrev all_options : List ParsedTree → List (Option Clauses)
  all_options [] = []
  all_options (p ∷ ps) = options_of p ++ all_options ps

  abbrev parallel_of : ParsedTree → List (At Clauses)
  parallel_of p = parallel_in (names p) (marks p)

  abbrev marked_of : ParsedTree → List (At Clauses)
  marked_of p = with_functions p.module_read (parallel_of p)

  loops_of : (p : ParsedTree) → IsSound p → Marked p → HaveLoops (statements_of p.module_read) (numbers (marks p))
  loops_of p s m = subst (HaveLoops (statements_of p.module_read)) (sym m.marking.each) (module_loops p.module_read s.well)

  result : (p : ParsedTree) → IsSound p → Marked p → Result (names p) why (marks p) (statements_of p.module_read) (marks p)
  result p s m = along (names p) why (statements_of p.module_read) 0 [] (marks p) (module_rises p.module_read s.well) (loops_of p s m) tt m.marking.numbered

  own_rows_are : (p : ParsedTree) → IsSound p → Marked p → AreRows (module_rows added p) (options_of p)
  own_rows_are p s m =
      rows_are (names p) why (marks p) (others p) (first_part p.module_read) m.named m.shown m.marking.numbered
      (above_zero (marks p) (above (statements_of p.module_read) 0 (marks p) (module_rises p.module_read s.well) (loops_of p s m)))
      m.plain (statements_of p.module_read) p.places.spots s.spots (result p s m).cases

  all_rows_are : (ps : List ParsedTree) → Each IsSound ps → Each Marked ps → AreRows (all_rows added ps) (all_options ps)
  all_rows_are [] s m = tt
  all_rows_are (p ∷ ps) s m = rows_join (module_rows added p) (all_rows added ps) (options_of p) (all_options ps) (own_rows_are p s.first m.first) (all_rows_are ps s.others m.others)

  attach_all : (closing : List Bytes) (ps : List ParsedTree) (n : ℕ) → Each IsSound ps → Each Marked ps
      → all_attached (all_again added closing n ps) (found n (all_rows added ps) (all_options ps)) ≡ (map parallel_of ps, [])
  attach_all closing [] n s m = refl
  attach_all closing (p ∷ ps) n s m =
      let rows = module_rows added p in
      let k = lines_behind n rows in
      let cards = statements_of p.module_read in
      let own = options_of p in
      let later = found k (all_rows added ps) (all_options ps) in
      let again = again_of added closing n p ps in
      let spots : again.places.spots ≡ spots_of cards (read_rows n rows) = built-spots p.module_read _ (read_rows n rows) s.first.well (again-written added n p) in
      let from : IsFrom k later = subst (IsFrom k) (append-nil later) (found_from (all_rows added ps) (all_options ps) k [] tt) in
      let mine : attached again.places.spots (found n rows own ++ later) ≡ (parallel_of p, later) =
      ap (λ (ss : List Spot). attached ss (found n rows own ++ later)) spots
      ∙ attach_rows (added_lines (first_part p.module_read) (added p)) p.places.spots cards own n later (all_markable (names p) (marks p) cards) from
      ∙ ap (λ (x : List (At Clauses)). (x, later)) (result p s.first m.first).marks in
      ap (all_attached (again ∷ all_again added closing k ps)) (found_append rows (all_rows added ps) own (all_options ps) n (own_rows_are p s.first m.first))
      ∙ ap (λ (x : Attached). (x.0 ∷ (all_attached (all_again added closing k ps) x.1).0, (all_attached (all_again added closing k ps) x.1).1)) mine
      ∙ ap (λ (x : List (List (At Clauses)) × List Directive). (parallel_of p ∷ x.0, x.1)) (attach_all closing ps k s.others m.others)

  all_named : (closing : List Bytes) (ps : List ParsedTree) (n : ℕ) → Each IsSound ps → all_with_functions (all_again added closing n ps) (map parallel_of ps) ≡ map marked_of ps
  all_named closing [] n s = refl
  all_named closing (p ∷ ps) n s =
      let rows = module_rows added p in
      let k = lines_behind n rows in
      let again = built_again p.module_read _ (read_rows n rows) s.first.well (again-written added n p) in
      ap (λ (t : ModuleTree). with_functions t (parallel_of p) ∷ all_with_functions (all_again added closing k ps) (map parallel_of ps)) again
      ∙ ap (λ (x : List (List (At Clauses))). marked_of p ∷ x) (all_named closing ps k s.others)

  all_loops : (closing : List Bytes) (ps : List ParsedTree) (n : ℕ) → Each IsSound ps → Each Marked ps → AreOfLoops (all_again added closing n ps) (map marked_of ps)
  all_loops closing [] n s m = tt
  all_loops closing (p ∷ ps) n s m =
      let rows = module_rows added p in
      let again = built_again p.module_read _ (read_rows n rows) s.first.well (again-written added n p) in (
        subst (λ (t : ModuleTree). AreAmong (loops_in t.body) (marked_of p)) (sym again)
            (named_among (loops_in p.module_read.body) p.module_read (parallel_of p) ∙ subst (λ (ls : List ℕ). AreAmong ls (parallel_of p)) m.first.marking.each (among (names p) [] (marks p))),
        all_loops closing ps (lines_behind n rows) s.others m.others,
      )

  read_back : (ps : List ParsedTree) → AreParsed ps → AllPassedOver added ps → Each Marked ps → MarkedBack (modules_text added ps) ps (map marked_of ps)
  unfolding parsed-back
  read_back ps h a m =
      let s = all-sound ps h in
      let rows = all_rows added ps in
      let closing = last_closing ps in
      let good = all-rows added ps a s in
      let ends = closing-kept ps s in
      let back = parsed-back ps added h a in
      record {
        again = back.again;
        read = record {
          read = back.read;
          directives = found 1 rows (all_options ps);
          found =
              ap directives_in (all-text added ps h s)
              ∙ ap (directives_from 1 []) (lines_are rows closing good (plain closing ends))
              ∙ rows_found rows (all_options ps) closing 1 good (all_rows_are ps s m) (kept_plain closing ends);
          named = map parallel_of ps;
          attached = attach_all (kept closing) ps 1 s m;
          marked = all_named (kept closing) ps 1 s;
          loops = all_loops (kept closing) ps 1 s m;
        };
        same = back.same;
        written = back.written;
      }

pub marks_read_back : MarksReadBack
marks_read_back text ps names why marks others r a m = read_back names why marks others ps (all-parsed text ps r) a m
