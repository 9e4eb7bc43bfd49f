-- The names of the table of a module that was read have what names have.
use Rattle.std.proofs.Common.{ℕ, suc, ◌+◌, ◌≤◌, Bool, true, false, List, [], ◌∷◌, ◌++◌, Option, Some, None, sym, subst, arith}
use Rattle.std.specs.Prelude.{if◌then◌else◌, ◌||◌, not}
use Rattle.f77_ast.specs.declared.module.FunctionForm.{FunctionForm}
use Rattle.f77_ast.specs.declared.places.Part.TheVariants as parts
use Rattle.f77_ast.specs.Trees.{ExprTree, ExprTrees, StmtTree, WhatTree, ArmTree, ArmTrees, ElseTree, LoopTree, StmtTrees}
use Rattle.f77_ast.specs.Trees as tree
use Rattle.f77_ast.specs.Hidden.{form_of_if}
use Rattle.f77_ast.specs.DeclTrees.{DeclTree, ModuleTree}
use Rattle.f77_printer.specs.ModuleText.{titled_dummies}
use Rattle.f77_statements.specs.Phrases.{program, end_do, end_module}
use Rattle.f77_names.specs.declared.functions.Function.{Function}
use Rattle.f77_names.specs.declared.lines.Sited.TheVariants.{Title, Decl, Statement, ElseIf}
use Rattle.f77_names.specs.Lines.{LineTable, line_or}
use Rattle.f77_names.specs.Functions.{arrays_named}
use Rattle.f77_names.specs.Entries.{EntryTree}
use Rattle.f77_names.specs.Appearing.{name_seen, expr_seen, exprs_seen, maybe_seen, head_of, head_seen, stmt_seen, what_seen, arms_seen, else_seen, stmts_seen}
use Rattle.f77_names.specs.Declaring.{Told, dummies_told, decl_told, decls_told}
use Rattle.f77_names.specs.Tables.{no_names, title_told, table_of}
use Rattle.f77_parser.specs.Elaborated.{meant_in}
use Rattle.roundtrip_programs.specs.Statements.Formed.{IsName, Each, IsExpression}
use Rattle.roundtrip_programs.specs.Statements.Phrased.{AllVariables, IsRight, value, empty_call, IsWhat, IsPhrase}
use Rattle.roundtrip_programs.specs.ModuleTexts.Cards.{Card, card, if_head, if_end, cards_of, cards_by, part_cards, else_cards, cards_in, head_phrase, title_cards, decl_cards, statements_of}
use Rattle.roundtrip_programs.specs.ModuleTexts.Folded.{folded}
use Rattle.roundtrip_programs.specs.ModuleTexts.Numbered.{last_of, last_by, last_in, last_arms, last_else, IsNumbered, NumberedBelow, NumberedArms, NumberedElse, AreNumbered, TitleFits, FunctionFits, IsWell}
use Rattle.roundtrip_programs.proofs.ModuleTexts.FoldedLaws.{later-arms, later-else, later-in, arms-block, arms-shown}
use Rattle.roundtrip_programs.proofs.Bare.{no_lines}
use Rattle.roundtrip_programs.proofs.ElaboratedNames.{no-head, named-at, tables-written}
use Rattle.roundtrip_programs.proofs.Named.{AreNamed, name_named, all_named, expr_named, maybe_named, variable_named, dummies_named, form_named, decl_named}

abbrev pub AreCards : List Card → Type 0
AreCards cs = Each (λ (c : Card). IsPhrase c.phrase) cs

pub left_of : (xs ys : List Card) → AreCards (xs ++ ys) → AreCards xs
left_of [] ys h = tt
left_of (x ∷ xs) ys h = record { first = h.first; others = left_of xs ys h.others }

pub right_of : (xs ys : List Card) → AreCards (xs ++ ys) → AreCards ys
right_of [] ys h = h
right_of (x ∷ xs) ys h = right_of xs ys h.others

-- what ends a block IF
pub part_end : (f : ℕ → Bool) (id place : ℕ) (arms : ArmTrees) (end : List Card) → AreCards (part_cards f id place arms end) → AreCards end
part_end f id place tree.no_arms end k = k
part_end f id place (tree.more_arms (tree.arm test body) others) end k = part_end f id (place + 1) others end (right_of (cards_in f body) (part_cards f id (place + 1) others end) k.others)

-- the test of a block IF, or of the DO WHILE that it stands for
pub head_test : (c : Bool) (e : ExprTree) → IsPhrase (if_head c e) → IsExpression e
head_test true e k = k
head_test false e k = k

module _ (P : List ℕ → Type 0) (named : (x : List ℕ) → IsName x → P x) where
  -- ---- statements that are one line

  variables_named : (fs : List Function) (rest : ExprTrees) (line : ℕ) (es : List EntryTree) → AllVariables rest → AreNamed P es → AreNamed P (exprs_seen fs rest line es)
  variables_named fs tree.no_exprs line es k h = h
  variables_named fs (tree.more_exprs e rest) line es k h = variables_named fs rest line (expr_seen fs e line es) k.others (variable_named P named fs e line es k.first h)

  right_named : (fs : List Function) {e : ExprTree} (line : ℕ) (es : List EntryTree) → IsRight e → AreNamed P es → AreNamed P (expr_seen fs e line es)
  right_named fs line es (value e f) h = expr_named P named fs e line es f h
  right_named fs line es (empty_call x n) h = name_named P named fs x line es n h

  simple_named : (fs : List Function) (at : LineTable) (w : WhatTree) (id line : ℕ) (es : List EntryTree) → IsWhat w → AreNamed P es → AreNamed P (what_seen fs at w id line es)
  simple_named fs at (tree.assign left right) id line es k h = right_named fs line (expr_seen fs left line es) k.right (variable_named P named fs left line es k.left h)
  simple_named fs at (tree.block_if arms other) id line es k h = absurd k
  simple_named fs at (tree.logical_if e s) id line es k h = absurd k
  simple_named fs at (tree.do_loop l) id line es k h = absurd k
  simple_named fs at (tree.call x rest) id line es k h = all_named P named fs line k.actuals es h
  simple_named fs at (tree.goto l) id line es k h = h
  simple_named fs at tree.continue id line es k h = h
  simple_named fs at tree.return id line es k h = h
  simple_named fs at (tree.stop text) id line es k h = h
  simple_named fs at (tree.print rest) id line es k h = all_named P named fs line k es h
  simple_named fs at (tree.read rest) id line es k h = variables_named fs rest line es k h

  mutual
    stmt_named : (fs : List Function) (at : LineTable) (f : ℕ → Bool) (n : ℕ) (s : StmtTree) (line : ℕ) (es : List EntryTree) → IsNumbered n s → last_of n s ≤ 4096 → AreCards (cards_of f s) → AreNamed P es → AreNamed P (stmt_seen fs at s line es)
    stmt_named fs at f n (tree.stmt id label w) line es b few k h = what_named fs at f (n + 1) w id label (line_or at (Statement id) line) es b.below few k h

    what_named : (fs : List Function) (at : LineTable) (f : ℕ → Bool) (n : ℕ) (w : WhatTree) (id : ℕ) (label : Option ℕ) (line : ℕ) (es : List EntryTree) → NumberedBelow n w → last_by n w ≤ 4096 → AreCards (cards_by f id label w)
        → AreNamed P es → AreNamed P (what_seen fs at w id line es)
    what_named fs at f n (tree.assign left right) id label line es b few k h = simple_named fs at (tree.assign left right) id line es k.first h
    what_named fs at f n (tree.block_if tree.no_arms other) id label line es b few k h = absurd b.parts
    what_named fs at f n (tree.block_if (tree.more_arms (tree.arm test body) others) other) id label line es b few k h =
        let end = else_cards f id other ++ card (parts.Close id) None (if_end (f id)) ∷ [] in
        let parts_behind = part_cards f id 1 others end in
        let inner = line_or at (ElseIf id 0) line in
        let all = tree.more_arms (tree.arm test body) others in
        let x = later-else (last_arms n all) other in
        let y = later-arms (last_in n body) others in
        let start = head_seen fs (head_of (form_of_if all other)) line es in
        let begun = subst (AreNamed P) (sym (no-head fs all other line es (arms-block all other (arms-shown n all b.parts (omega (arith, x, few)))))) h in
        let ds = expr_seen fs test inner start in
        let tested = expr_named P named fs test inner start (head_test (f id) test k.first) begun in
        let first = stmts_named fs at f n body inner ds b.parts.below (omega (arith, x, y, few)) (left_of (cards_in f body) parts_behind k.others) tested in
        let behind = right_of (cards_in f body) parts_behind k.others in
        let after = arms_named fs at f (last_in n body) others id 1 1 line (stmts_seen fs at body inner ds) end b.parts.parts (omega (arith, x, few)) behind first in
        else_named fs at f (last_arms (last_in n body) others) other id line (arms_seen fs at others id 1 line (stmts_seen fs at body inner ds)) b.last few
        (left_of (else_cards f id other) (card (parts.Close id) None (if_end (f id)) ∷ []) (part_end f id 1 others end behind)) after
    what_named fs at f n (tree.logical_if e (tree.stmt inner own w)) id label line es b few k h =
        simple_named fs at w inner (line_or at (Statement inner) line) (expr_seen fs e line es) k.first.inner (expr_named P named fs e line es k.first.test h)
    what_named fs at f n (tree.do_loop (tree.loop index first last step body)) id label line es b few k h =
        let head = k.first in
        let e1 = name_seen fs index line es in
        let e2 = expr_seen fs first line e1 in
        let e3 = expr_seen fs last line e2 in
        stmts_named fs at f n body line (maybe_seen fs step line e3) b few (left_of (cards_in f body) (card (parts.Close id) None end_do ∷ []) k.others)
        (maybe_named P named fs step line e3 head.step (expr_named P named fs last line e2 head.last (expr_named P named fs first line e1 head.first (name_named P named fs index line es head.index h))))
    what_named fs at f n (tree.call x rest) id label line es b few k h = simple_named fs at (tree.call x rest) id line es k.first h
    what_named fs at f n (tree.goto l) id label line es b few k h = h
    what_named fs at f n tree.continue id label line es b few k h = h
    what_named fs at f n tree.return id label line es b few k h = h
    what_named fs at f n (tree.stop text) id label line es b few k h = h
    what_named fs at f n (tree.print rest) id label line es b few k h = simple_named fs at (tree.print rest) id line es k.first h
    what_named fs at f n (tree.read rest) id label line es b few k h = simple_named fs at (tree.read rest) id line es k.first h

    -- the other parts of a block IF
    arms_named : (fs : List Function) (at : LineTable) (f : ℕ → Bool) (n : ℕ) (arms : ArmTrees) (id place m line : ℕ) (es : List EntryTree) (end : List Card) → NumberedArms n arms → last_arms n arms ≤ 4096
        → AreCards (part_cards f id place arms end) → AreNamed P es → AreNamed P (arms_seen fs at arms id m line es)
    arms_named fs at f n tree.no_arms id place m line es end b few k h = h
    arms_named fs at f n (tree.more_arms (tree.arm test body) others) id place m line es end b few k h =
        let inner = line_or at (ElseIf id m) line in
        let behind = part_cards f id (place + 1) others end in
        let y = later-arms (last_in n body) others in
        arms_named fs at f (last_in n body) others id (place + 1) (suc m) line (stmts_seen fs at body inner (expr_seen fs test inner es)) end b.parts few (right_of (cards_in f body) behind k.others)
        (stmts_named fs at f n body inner (expr_seen fs test inner es) b.below (omega (arith, y, few)) (left_of (cards_in f body) behind k.others) (expr_named P named fs test inner es k.first h))

    else_named : (fs : List Function) (at : LineTable) (f : ℕ → Bool) (n : ℕ) (other : ElseTree) (id line : ℕ) (es : List EntryTree) → NumberedElse n other → last_else n other ≤ 4096 → AreCards (else_cards f id other) → AreNamed P es
        → AreNamed P (else_seen fs at other line es)
    else_named fs at f n tree.no_else id line es b few k h = h
    else_named fs at f n (tree.otherwise body) id line es b few k h = stmts_named fs at f n body line es b few k.others h

    stmts_named : (fs : List Function) (at : LineTable) (f : ℕ → Bool) (n : ℕ) (ss : StmtTrees) (line : ℕ) (es : List EntryTree) → AreNumbered n ss → last_in n ss ≤ 4096 → AreCards (cards_in f ss) → AreNamed P es
        → AreNamed P (stmts_seen fs at ss line es)
    stmts_named fs at f n tree.no_stmts line es b few k h = h
    stmts_named fs at f n (tree.more_stmts s others) line es b few k h =
        let y = later-in (last_of n s) others in
        stmts_named fs at f (last_of n s) others line (stmt_seen fs at s line es) b.behind few (right_of (cards_of f s) (cards_in f others) k)
        (stmt_named fs at f n s line es b.first (omega (arith, y, few)) (left_of (cards_of f s) (cards_in f others) k) h)

  -- ---- modules

  head_names : (function : Option FunctionForm) (name : List ℕ) (dummies : List (List ℕ)) → FunctionFits function false name dummies → IsPhrase (head_phrase function name dummies) → Each IsName dummies
  head_names None name dummies g k = k.dummies
  head_names (Some form) name dummies g k = subst (Each IsName) g.last (each_more (titled_dummies dummies) k.dummies)
    where
      each_more : (ds : List (List ℕ)) → Each IsName ds → Each IsName (ds ++ name ∷ [])
      each_more [] h = record { first = k.name; others = tt }
      each_more (d ∷ ds) h = record { first = h.first; others = each_more ds h.others }

  dummies_are_names : (main titled : Bool) (function : Option FunctionForm) (name : List ℕ) (dummies : List (List ℕ)) → TitleFits main titled name dummies → FunctionFits function main name dummies
      → AreCards (if titled || not main then card parts.Title None (if main then program name else head_phrase function name dummies) ∷ [] else []) → Each IsName dummies
  dummies_are_names true true function name dummies t g k = subst (Each IsName) (sym t) tt
  dummies_are_names true false function name dummies t g k = subst (Each IsName) (sym t.alone) tt
  dummies_are_names false true function name dummies t g k = cc
  dummies_are_names false false function name dummies t g k = head_names function name dummies g k.first

  decls_named : (fs : List Function) (at : LineTable) (ds : List DeclTree) (n place : ℕ) (t : Told) → AreCards (decl_cards place ds) → AreNamed P t.entries → AreNamed P (decls_told fs at ds n t).entries
  decls_named fs at [] n place t k h = h
  decls_named fs at (d ∷ ds) n place t k h =
      let line = line_or at (Decl n) 0 in
      decls_named fs at ds (suc n) (place + 1) (decl_told fs d line t) k.others (decl_named P named fs d line t k.first h)

  -- of the module as it is written, whose names are those of the module
  pub table_named : (at : LineTable) (m : ModuleTree) → IsWell m → AreCards (statements_of m) → AreNamed P (table_of at m).entries
  unfolding statements_of folded
  table_named at m w k =
      let fs = arrays_named m.decls in
      let f = (meant_in m).is_while in
      let body = (folded m).body in
      let all = left_of (title_cards m ++ decl_cards 0 m.decls ++ cards_in f body) (card parts.End None end_module ∷ []) k in
      let heads = left_of (title_cards m ++ decl_cards 0 m.decls) (cards_in f body) all in
      let dummies = dummies_are_names m.main m.titled m.function m.name m.dummies w.title w.function (left_of (title_cards m) (decl_cards 0 m.decls) heads) in
      let line = line_or no_lines Title 0 in
      let first = form_named P named m.function m.name line (dummies_told m.dummies 1 line no_names) (dummies_named P named m.dummies 1 line no_names dummies tt) in
      let told = decls_named fs no_lines m.decls 0 0 (title_told no_lines m) (right_of (title_cards m) (decl_cards 0 m.decls) heads) first in
      let written = stmts_named fs no_lines f 0 body 0 (decls_told fs no_lines m.decls 0 (title_told no_lines m)).entries w.body w.few (right_of (title_cards m ++ decl_cards 0 m.decls) (cards_in f body) all) told in
      named-at P at m (subst (λ t. AreNamed P t.entries) (sym (tables-written m w)) written)
