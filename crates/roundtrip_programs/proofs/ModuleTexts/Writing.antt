-- In the statements that are written of a module no fault of order is found, where there is none in what was read.
use Rattle.std.proofs.Common.{◌≡◌, ℕ, ◌+◌, ◌≤◌, Bool, true, false, List, [], ◌∷◌, ◌++◌, map, refl, sym, ap, ◌∙◌, subst, append_assoc, append-nil, arith}
use Rattle.std.specs.Prelude.{Option, Some, None, ◌&&◌, ◌||◌, not, nat_le, nat_lt, if◌then◌else◌}
use Rattle.std.proofs.lemmas.Bool.Decides.{nat_tests}
use Rattle.f77_ast.specs.declared.places.Part.TheVariants as parts
use Rattle.f77_ast.specs.DeclTrees.{DeclTree}
use Rattle.f77_ast.specs.PlainStmt.{stmts_of}
use Rattle.f77_statements.specs.Phrases.{program, specification, end_module}
use Rattle.f77_ast.specs.declared.module.FunctionForm.{FunctionForm}
use Rattle.fx_lists.specs.declared.code.Code.{Code}
use Rattle.fx_lists.specs.declared.code.Code.TheVariants.{StrayPart, LabelTwice, TooManyStatements, TooDeep}
use Rattle.fx_lists.specs.declared.refusal.Refusal.{Refusal}
use Rattle.f77_structure.specs.declared.mark.Role.{Role}
use Rattle.f77_structure.specs.declared.mark.Role.TheVariants.{Program, Subroutine, Specification, Plain, LogicalIf, BlockIf, ElseIf, Else, EndIf, Do, EndDo, End}
use Rattle.f77_structure.specs.declared.mark.Mark.{Mark}
use Rattle.f77_structure.specs.declared.order.Order.{Order}
use Rattle.fx_lists.specs.Refusals.{refuse_if}
use Rattle.f77_structure.specs.Marks.{statements_in, returns_in}
use Rattle.f77_structure.specs.Order.{is_main_after, is_out_of_order, has_label, keep_label, passes_most, counted, check_next, all_ordered, nothing_ordered}
use Rattle.f77_structure.specs.Steps.{nothing_open}
use Rattle.f77_structure.specs.Checks.{fault_of}
use Rattle.f77_parser.specs.Roles.{role_of}
use Rattle.f77_parser.specs.Statements.{StatementTree, marks_of}
use Rattle.f77_parser.specs.SoFar.{SoFar}
use Rattle.f77_parser.specs.Building.{add_all, no_statements, written_module, build_module}
use Rattle.f77_parser.specs.Elaborated.{meant_in}
use Rattle.roundtrip_programs.specs.Statements.Formed.{Each}
use Rattle.roundtrip_programs.specs.ModuleTexts.Cards.{Card, card, cards_in, head_phrase, title_cards, decl_cards, written_cards}
use Rattle.roundtrip_programs.specs.ModuleTexts.ModuleLaws.{Labelled, of_statement, of_card, IsStatement}
use Rattle.roundtrip_programs.proofs.ModuleTexts.Steady.{no-fault}
use Rattle.roundtrip_programs.proofs.ModuleTexts.Each.{Each-append}
use Rattle.roundtrip_programs.proofs.ModuleTexts.Well.{nothing-goes, all-closed}
use Rattle.roundtrip_programs.proofs.ModuleTexts.FoldedLaws.{cards_back}
use Rattle.roundtrip_programs.proofs.ModuleTexts.Built.{told_of, all-told, written_well}
use Rattle.roundtrip_programs.specs.ModuleTexts.OrderLaws.{IsFlat, OrderAgain}
use Rattle.roundtrip_programs.proofs.ModuleTexts.Tally.{listed, label_at, labels_of, count_of, IsQuiet, StandsBehind, IsBehind, labels-append, count-append, AreNew}
use Rattle.roundtrip_programs.proofs.ModuleTexts.Standing.{around_cards}
use Rattle.roundtrip_programs.proofs.ModuleTexts.Reading.{Orders, all-ordered, nothing-ordered}
use Rattle.fx_lists.proofs.Booleans.{never_both}

-- ---- statements at these lines

abbrev mark_at : ℕ → Labelled → Mark
mark_at line l = record { line = line; label = l.label; role = role_of l.phrase; deep = false }

abbrev marks_at : List ℕ → List Labelled → List Mark
marks_at [] ls = []
marks_at (n ∷ ns) [] = []
marks_at (n ∷ ns) (l ∷ ls) = mark_at n l ∷ marks_at ns ls

abbrev lines_in : List StatementTree → List ℕ
lines_in [] = []
lines_in (s ∷ ss) = s.first ∷ lines_in ss

marks-same : (ss : List StatementTree) → Each IsFlat ss → marks_of ss ≡ marks_at (lines_in ss) (map of_statement ss)
marks-same [] h = refl
marks-same (s ∷ ss) h =
    ap (λ d. record { line = s.first; label = s.label; role = role_of s.phrase; deep = d } ∷ marks_of ss) h.first
    ∙ ap (λ ms. mark_at s.first (of_statement s) ∷ ms) (marks-same ss h.others)

-- no fault is found in these at any lines
abbrev Clear : List Card → Order → Type 0
Clear cs o = (ns : List ℕ) → (all_ordered (marks_at ns (map of_card cs)) o).found ≡ None

-- ---- nothing is noted

unnoted : (w : Bool) (line : ℕ) (f : Code) (found : Option Refusal) → w ≡ false → found ≡ None → refuse_if w line f found ≡ None
unfolding refuse_if
unnoted w line f found e h = ap (λ v. refuse_if v line f found) e ∙ h

and-false : (v w : Bool) → w ≡ false → (v && w) ≡ false
and-false true w e = e
and-false false w e = refl

not-past : (n : ℕ) → n ≤ 4096 → nat_lt 4096 n ≡ false
not-past n h = grind (arith, nat_tests)

-- ---- executable statements

record InOrder (role : Role) (begun main : Bool) (count : ℕ) : Type 0 where
  order : is_out_of_order begun main count role ≡ false
  same : is_main_after begun main role ≡ main

in-order : (role : Role) (begun main : Bool) (count : ℕ) → StandsBehind role → (main ≡ true → returns_in role ≡ false) → InOrder role begun main count
in-order Program begun main count b h = absurd b
in-order Subroutine begun main count b h = absurd b
in-order Specification begun main count b h = absurd b
in-order (Plain a) begun main count b h = record { order = never_both main (returns_in (Plain a)) h; same = refl }
in-order (LogicalIf a) begun main count b h = record { order = never_both main (returns_in (LogicalIf a)) h; same = refl }
in-order BlockIf begun main count b h = record { order = never_both main false h; same = refl }
in-order ElseIf begun main count b h = record { order = never_both main false h; same = refl }
in-order Else begun main count b h = record { order = never_both main false h; same = refl }
in-order EndIf begun main count b h = record { order = never_both main false h; same = refl }
in-order (Do t) begun main count b h = record { order = never_both main false h; same = refl }
in-order EndDo begun main count b h = record { order = never_both main false h; same = refl }
in-order End begun main count b h = record { order = never_both main false h; same = refl }

-- behind a statement, where these labels and so many statements come
record Onward (m : Mark) (o next : Order) (rest : List ℕ) (k : ℕ) : Type 0 where
  new : AreNew next.labels rest
  few : next.count + k ≤ 4096
  main : next.main ≡ is_main_after o.begun o.main m.role
  found : next.found ≡ None

counts-found : (m : Mark) (o : Order) → m.deep ≡ false → o.count + statements_in m ≤ 4096 → is_out_of_order o.begun o.main o.count m.role ≡ false → o.found ≡ None
    → (counted m o).found ≡ None
counts-found m o d f r h =
    let n = o.count + statements_in m in
    unnoted (passes_most o.count n) m.line TooManyStatements _ (and-false (nat_le o.count 4096) (nat_lt 4096 n) (not-past n f))
    (unnoted (is_out_of_order o.begun o.main o.count m.role) m.line StrayPart _ r
    (unnoted m.deep m.line TooDeep o.found d h))

onward-by : (label : Option ℕ) (m : Mark) (o : Order) (rest : List ℕ) (k : ℕ) → AreNew o.labels (listed label ++ rest) → o.count + (statements_in m + k) ≤ 4096
    → m.deep ≡ false → is_out_of_order o.begun o.main o.count m.role ≡ false → o.found ≡ None → Onward m o (counted m (keep_label m.line label o)) rest k
onward-by None m o rest k a f d r h = record { new = a; few = omega arith; main = refl; found = counts-found m o d (omega arith) r h }
onward-by (Some l) m o rest k a f d r h =
    let e = unnoted (has_label l o.labels) m.line LabelTwice o.found a.new h in
    record { new = a.others; few = omega arith; main = refl; found = counts-found m (keep_label m.line (Some l) o) d (omega arith) r e }

-- what stands behind the heading and the specifications
record Ready (cs : List Card) (o : Order) : Type 0 where
  new : AreNew o.labels (labels_of cs)
  few : o.count + count_of cs ≤ 4096
  quiet : o.main ≡ true → Each IsQuiet cs
  behind : Each IsBehind cs
  found : o.found ≡ None

ready-next : (n : ℕ) (c : Card) (cs : List Card) (o : Order) → Ready (c ∷ cs) o → Ready cs (check_next (mark_at n (of_card c)) o)
unfolding check_next
ready-next n c cs o r =
    let m = mark_at n (of_card c) in
    let i = in-order (role_of c.phrase) o.begun o.main o.count r.behind.first (λ e. (r.quiet e).first) in
    let x = onward-by (label_at c) m o (labels_of cs) (count_of cs) r.new r.few refl i.order r.found in
    record { new = x.new; few = x.few; quiet = λ e. (r.quiet (sym (x.main ∙ i.same) ∙ e)).others; behind = r.behind.others; found = x.found }

ready-clear : (cs : List Card) (o : Order) → Ready cs o → Clear cs o
ready-clear [] o r [] = r.found
ready-clear [] o r (n ∷ ns) = r.found
ready-clear (c ∷ cs) o r [] = r.found
ready-clear (c ∷ cs) o r (n ∷ ns) = ready-clear cs (check_next (mark_at n (of_card c)) o) (ready-next n c cs o r) ns

-- ---- the heading and the specifications

-- before executable statements
record Blank (main : Bool) (o : Order) : Type 0 where
  same : o.main ≡ main
  count : o.count ≡ 0
  labels : o.labels ≡ []
  found : o.found ≡ None

abbrev Follows : Bool → List Card → Type 0
Follows main rest = (o : Order) → Blank main o → Clear rest o

specified : (n : ℕ) (place : ℕ) (d : DeclTree) (main : Bool) (o : Order) → Blank main o → Blank main (check_next (mark_at n (of_card (card (parts.Decl place) None (specification d)))) o)
unfolding check_next
specified n place d main o b =
    let none : o.count + 0 ≡ 0 = omega arith in
    let few : o.count + 0 ≤ 4096 = omega arith in
    record {
      same = b.same;
      count = none;
      labels = b.labels;
      found = counts-found (mark_at n (of_card (card (parts.Decl place) None (specification d)))) o refl few (ap (nat_lt 0) b.count) b.found;
    }

decls-clear : (place : ℕ) (ds : List DeclTree) (rest : List Card) (main : Bool) → Follows main rest → Follows main (decl_cards place ds ++ rest)
decls-clear place [] rest main f o b ns = f o b ns
decls-clear place (d ∷ ds) rest main f o b [] = b.found
decls-clear place (d ∷ ds) rest main f o b (n ∷ ns) = decls-clear (place + 1) ds rest main f _ (specified n place d main o b) ns

title-clear : (main titled : Bool) (function : Option FunctionForm) (name : List ℕ) (dummies : List (List ℕ)) (rest : List Card) → Follows main rest
    → Clear ((if titled || not main then card parts.Title None (if main then program name else head_phrase function name dummies) ∷ [] else []) ++ rest) nothing_ordered
unfolding check_next refuse_if
title-clear true true function name dummies rest f [] = refl
title-clear true true function name dummies rest f (n ∷ ns) = f _ (record { same = refl; count = refl; labels = refl; found = refl }) ns
title-clear true false function name dummies rest f ns = f nothing_ordered (record { same = refl; count = refl; labels = refl; found = refl }) ns
title-clear false true None name dummies rest f [] = refl
title-clear false true None name dummies rest f (n ∷ ns) = f _ (record { same = refl; count = refl; labels = refl; found = refl }) ns
title-clear false false None name dummies rest f [] = refl
title-clear false false None name dummies rest f (n ∷ ns) = f _ (record { same = refl; count = refl; labels = refl; found = refl }) ns
title-clear false true (Some form) name dummies rest f [] = refl
title-clear false true (Some form) name dummies rest f (n ∷ ns) = f _ (record { same = refl; count = refl; labels = refl; found = refl }) ns
title-clear false false (Some form) name dummies rest f [] = refl
title-clear false false (Some form) name dummies rest f (n ∷ ns) = f _ (record { same = refl; count = refl; labels = refl; found = refl }) ns

-- ---- whole modules

-- the executable statements, and END behind them
body-follows : (tells : ℕ → Bool) (p : SoFar) (o : Order) → p.around ≡ [] → Orders tells p o → Follows p.heading.main (cards_in tells (stmts_of p.list) ++ card parts.End None end_module ∷ [])
body-follows tells p o e r at b =
    let body = cards_in tells (stmts_of p.list) in let end = card parts.End None end_module ∷ [] in
    let here = ap (λ xs. around_cards tells xs ++ body) e in
    let labels : labels_of (body ++ end) ≡ o.labels = labels-append body end ∙ append-nil (labels_of body) ∙ sym (ap labels_of here) ∙ r.labels in
    let count : count_of (body ++ end) ≡ o.count = count-append body end ∙ (let z : count_of body + 0 ≡ count_of body = omega arith in z) ∙ sym (ap count_of here) ∙ r.count in
    let few : o.count ≤ 4096 = r.few in
    let empty : at.count ≡ 0 = b.count in
    let New : List ℕ → Type 0 = λ x. AreNew x (labels_of (body ++ end)) in
    let Fresh : List ℕ → Type 0 = λ x. AreNew [] x in
    let Quiet : List Card → Type 0 = λ x. Each IsQuiet x in
    let Behind : List Card → Type 0 = λ x. Each IsBehind x in
    ready-clear (body ++ end) at (record {
      new = subst New (sym b.labels) (subst Fresh (sym labels) r.new);
      few = omega arith;
      quiet = λ x. Each-append IsQuiet body end (subst Quiet here (r.quiet (sym b.same ∙ x))) (record { first = refl; others = tt });
      behind = Each-append IsBehind body end (subst Behind here r.behind) (record { first = tt; others = tt });
      found = b.found;
    })

-- a module as it is written has at most 4,096 statements
pub few_stand : (closing : List (List ℕ)) (begun : List StatementTree) (s : StatementTree) → s.phrase ≡ end_module → Each IsStatement (begun ++ s ∷ []) → fault_of (marks_of (begun ++ s ∷ [])) ≡ None
    → (let w = (written_module closing (begun ++ s ∷ [])).module_read in count_of (cards_in (meant_in w).is_while w.body) ≤ 4096)
unfolding written_module
few_stand closing begun s e i h =
    let read = begun ++ s ∷ [] in
    let tells = told_of read in
    let p = add_all read no_statements in
    let none = no-fault (marks_of read) h in
    let r = all-ordered tells read no_statements nothing_ordered i (all-told begun s i h) (nothing-ordered tells) none.0 in
    let closed = all-closed begun s 0 no_statements nothing_open e i nothing-goes none.2 in
    let body = cards_in tells (stmts_of p.list) in
    let here = ap (λ xs. around_cards tells xs ++ body) closed in
    let Few : ℕ → Type 0 = λ n. n ≤ 4096 in
    subst Few (sym (sym (ap count_of here) ∙ r.count)) r.few

-- of the module as it is written
written-clear : (closing : List (List ℕ)) (begun : List StatementTree) (s : StatementTree) → s.phrase ≡ end_module → Each IsStatement (begun ++ s ∷ []) → fault_of (marks_of (begun ++ s ∷ [])) ≡ None
    → Clear (written_cards (written_module closing (begun ++ s ∷ [])).module_read) nothing_ordered
unfolding written_module written_cards
written-clear closing begun s e i h ns =
    let read = begun ++ s ∷ [] in
    let tells = told_of read in
    let p = add_all read no_statements in
    let o = all_ordered (marks_of read) nothing_ordered in
    let none = no-fault (marks_of read) h in
    let r = all-ordered tells read no_statements nothing_ordered i (all-told begun s i h) (nothing-ordered tells) none.0 in
    let closed = all-closed begun s 0 no_statements nothing_open e i nothing-goes none.2 in
    let m = (written_module closing read).module_read in
    let title = title_cards m in let decls = decl_cards 0 p.decls in let body = cards_in tells (stmts_of p.list) in let end = card parts.End None end_module ∷ [] in
    let rest = decls ++ (body ++ end) in
    let all : title ++ decls ++ body ++ end ≡ title ++ rest = simp append_assoc in
    ap (λ cs. (all_ordered (marks_at ns (map of_card cs)) nothing_ordered).found) all
    ∙ title-clear p.heading.main p.heading.titled p.heading.function p.heading.name p.heading.dummies rest (decls-clear 0 p.decls (body ++ end) p.heading.main (body-follows tells p o closed r)) ns

pub order_again : OrderAgain
unfolding build_module
order_again closing begun s ss e i h written flat =
    let read = begun ++ s ∷ [] in
    let w = (written_module closing read).module_read in
    ap (λ ms. (all_ordered ms nothing_ordered).found)
    (marks-same ss flat ∙ ap (marks_at (lines_in ss)) (written ∙ ap (map of_card) (cards_back w (written_well closing begun s e i h))))
    ∙ written-clear closing begun s e i h (lines_in ss)
