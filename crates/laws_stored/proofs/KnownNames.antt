-- The names of the table of a module are among those of its statements.
use Rattle.std.proofs.Common.{◌≡◌, ℕ, suc, ◌+◌, ◌≤◌, Bool, true, false, List, [], ◌∷◌, ◌++◌, Ok, refl, sym, subst, arith}
use Rattle.std.specs.Prelude.{Option, Some, None, if◌then◌else◌, not, ◌||◌, is_some, map}
use Rattle.f77_ast.specs.declared.decl.Scalar.{Scalar}
use Rattle.f77_ast.specs.declared.decl.Scalar.TheVariants.{Int, Log}
use Rattle.f77_ast.specs.declared.decl.SaveItem.{SaveItem}
use Rattle.f77_ast.specs.declared.decl.SaveItem.TheVariants as item
use Rattle.f77_ast.specs.declared.places.Part.TheVariants as parts
use Rattle.f77_ast.specs.declared.module.FunctionForm.{FunctionForm}
use Rattle.f77_ast.specs.declared.module.FunctionForm.TheVariants.{Plain, Integer, Logical}
use Rattle.f77_ast.specs.Trees.{ExprTree, ExprTrees, StmtTree, WhatTree, ArmTrees, ElseTree, LoopTree, StmtTrees}
use Rattle.f77_ast.specs.Trees as tree
use Rattle.f77_ast.specs.Hidden.{form_of_if}
use Rattle.f77_ast.specs.DeclTrees.{ExtentTree, EntityTree, SettingTree, CommonTree, DataTree, DeclTree, ModuleTree, ParsedTree}
use Rattle.f77_ast.specs.DeclTrees as decl
use Rattle.f77_statements.specs.Phrases.{PhraseTree, program, end_do, end_module}
use Rattle.f77_ast.specs.Symbols.{SymbolTree}
use Rattle.f77_names.specs.declared.functions.Function.{Function}
use Rattle.f77_names.specs.declared.lines.Sited.TheVariants.{Decl, Statement, ElseIf, Title}
use Rattle.f77_names.specs.Lines.{LineTable, lines_of, line_or}
use Rattle.f77_names.specs.Functions.{function_of, arrays_named}
use Rattle.f77_names.specs.Entries.{EntryTree, fresh, find, entry_names, seen, changed, with_dummy, as_parameter}
use Rattle.f77_names.specs.Appearing.{unless_function, name_seen, expr_seen, exprs_seen, maybe_seen, head_of, head_seen, stmt_seen, what_seen, arm_seen, arms_seen, else_seen, loop_seen, stmts_seen}
use Rattle.f77_names.specs.Declaring.{Told, bound_of, dummy_told, dummies_told, form_told, typed, shaped, in_common, extent_seen, extents_seen, entity_seen, typed_entity, typed_entities, shaped_entities, members_told, blocks_told, setting_told, settings_told, mention_told, item_told, items_told, groups_told, targets_told, save_told, saves_told, decl_told, decls_told}
use Rattle.f77_names.specs.Tables.{NameTable, no_names, title_told, table_of}
use Rattle.f77_meaning.specs.Modules.{symbol_names}
use Rattle.storage_layout.specs.Symbols.{symbols_of}
use Rattle.f77_parser.specs.Elaborated.{meant_in}
use Rattle.laws_programs.specs.roundtrip_programs.Statements.Formed.{Each}
use Rattle.laws_programs.specs.roundtrip_programs.Statements.Phrased.{IsWhat, IsPhrase}
use Rattle.laws_programs.specs.roundtrip_programs.ModuleTexts.Cards.{Card, card, if_head, if_end, cards_of, cards_by, block_cards, part_cards, else_cards, cards_in, head_phrase, title_cards, decl_cards, statements_of}
use Rattle.laws_programs.specs.roundtrip_programs.ModuleTexts.Folded.{folded}
use Rattle.laws_programs.specs.roundtrip_programs.ModuleTexts.Numbered.{TitleFits, FunctionFits, IsWell, last_of, last_by, last_arms, last_else, last_in, IsNumbered, NumberedBelow, NumberedBody, NumberedBlock, NumberedArms, NumberedElse, AreNumbered}
use Rattle.laws_programs.proofs.RoundtripPrograms.ModuleTexts.Counting.{block-arms}
use Rattle.laws_programs.proofs.RoundtripPrograms.ModuleTexts.FoldedLaws.{later-arms, later-else, later-in, arms-block, arms-shown}
use Rattle.laws_programs.proofs.RoundtripPrograms.ElaboratedNames.{no-head, named-at, tables-written}
use Rattle.laws_programs.proofs.RoundtripPrograms.Named.{AreNamed}
use Rattle.laws_programs.proofs.RoundtripPrograms.ModuleTexts.Kept.{Held, Each-append}
use Rattle.laws_programs.proofs.SymbolTables.KeptNames.{Said, with_said, Typed, Shaped, Shared, Parameter, Saved, Initial, Nothing}
use Rattle.laws_programs.proofs.SymbolTables.Answers.{lines_in}
use Rattle.laws_programs.proofs.Sources.{IsBuilt}
use Rattle.laws_lines.proofs.SymbolNames.{said_stay, names_of_symbols}
use Rattle.laws_stored.proofs.NamesIn.{expr_names, exprs_names, maybe_names, all_names, what_names, extent_names, entity_names, setting_names, common_names, group_names, data_names, save_names, decl_names, phrase_names}
use Rattle.laws_programs.proofs.RoundtripPrograms.ModuleTexts.Cards.{Any as AnyLabel}
use Rattle.laws_programs.proofs.Layouts.DifferLaws.{names_more, names_changed}

-- no line is known
abbrev no_lines : LineTable
no_lines = lines_of []

module _ (Name : List ℕ → Type 0) where
  abbrev Names : List (List ℕ) → Type 0
  Names xs = Each Name xs

  apart : (xs ys : List (List ℕ)) → Names (xs ++ ys) → Names xs × Names ys
  apart [] ys h = (tt, h)
  apart (x ∷ xs) ys h = let r = apart xs ys h.others in (record { first = h.first; others = r.0 }, r.1)

  -- a statement that is formed as the grammar says, with such names
  abbrev pub IsNaming : PhraseTree → Type 0
  IsNaming p = IsPhrase p × Names (phrase_names p)

  abbrev pub AreNaming : List Card → Type 0
  AreNaming cs = Each (Held AnyLabel IsNaming) cs

  split : (xs ys : List Card) → AreNaming (xs ++ ys) → AreNaming xs × AreNaming ys
  split [] ys h = (tt, h)
  split (x ∷ xs) ys h = let r = split xs ys h.others in (record { first = h.first; others = r.0 }, r.1)

  -- ---- entries

  abbrev AreTold : List EntryTree → Type 0
  AreTold es = Names (entry_names es)

  seen_told : (x : List ℕ) (line : ℕ) (es : List EntryTree) → Name x → AreTold es → AreTold (seen x line es)
  seen_told x line es n d = go (is_some (find x es))
    where
      go : (b : Bool) → AreTold (if b then es else es ++ fresh x line ∷ [])
      go true = d
      go false = subst Names (sym (names_more es (fresh x line))) (Each-append Name (entry_names es) (x ∷ []) d (record { first = n; others = tt }))

  said_told : (x : List ℕ) (w : Said) (es : List EntryTree) → AreTold es → AreTold (changed x (with_said w) es)
  said_told x w es d = subst Names (sym (said_stay x w es)) d

  dummies_in : (xs : List (List ℕ)) (n line : ℕ) (t : Told) → Names xs → AreTold t.entries → AreTold (dummies_told xs n line t).entries
  dummies_in [] n line t h d = d
  dummies_in (x ∷ xs) n line t h d =
      let es = seen x line t.entries in
      dummies_in xs (suc n) line (dummy_told x n line t) h.others (subst Names (sym (names_changed x (with_dummy n) (λ e. refl) es)) (seen_told x line t.entries h.first d))

  form_in : (o : Option FunctionForm) (x : List ℕ) (line : ℕ) (t : Told) → AreTold t.entries → AreTold (form_told o x line t).entries
  form_in None x line t d = d
  form_in (Some Plain) x line t d = d
  form_in (Some Integer) x line t d = said_told x (Typed Int) t.entries d
  form_in (Some Logical) x line t d = said_told x (Typed Log) t.entries d

  module _ (fs : List Function) where
    -- ---- expressions

    name_in : (x : List ℕ) (line : ℕ) (es : List EntryTree) → Name x → AreTold es → AreTold (name_seen fs x line es)
    name_in x line es n d = go (function_of fs x)
      where
        go : (f : Option Function) → AreTold (unless_function f x line es)
        go None = seen_told x line es n d
        go (Some f) = d

    mutual
      expr_in : (e : ExprTree) → Names (expr_names e) → (line : ℕ) (es : List EntryTree) → AreTold es → AreTold (expr_seen fs e line es)
      expr_in (tree.int n) h line es d = d
      expr_in (tree.log b) h line es d = d
      expr_in (tree.name x) h line es d = name_in x line es h.first d
      expr_in (tree.element x rest) h line es d = exprs_in rest h.others line (name_seen fs x line es) (name_in x line es h.first d)
      expr_in (tree.paren e) h line es d = expr_in e h line es d
      expr_in (tree.unary o e) h line es d = expr_in e h line es d
      expr_in (tree.binary o a b) h line es d = let r = apart (expr_names a) (expr_names b) h in expr_in b r.1 line (expr_seen fs a line es) (expr_in a r.0 line es d)
      expr_in (tree.chars x) h line es d = d

      exprs_in : (xs : ExprTrees) → Names (exprs_names xs) → (line : ℕ) (es : List EntryTree) → AreTold es → AreTold (exprs_seen fs xs line es)
      exprs_in tree.no_exprs h line es d = d
      exprs_in (tree.more_exprs e rest) h line es d = let r = apart (expr_names e) (exprs_names rest) h in exprs_in rest r.1 line (expr_seen fs e line es) (expr_in e r.0 line es d)

    maybe_in : (e : Option ExprTree) → Names (maybe_names e) → (line : ℕ) (es : List EntryTree) → AreTold es → AreTold (maybe_seen fs e line es)
    maybe_in None h line es d = d
    maybe_in (Some e) h line es d = expr_in e h line es d

    -- ---- executable statements

    module _ (at : LineTable) where
      plain_in : (w : WhatTree) (id line : ℕ) (es : List EntryTree) → IsWhat w → Names (what_names w) → AreTold es → AreTold (what_seen fs at w id line es)
      plain_in (tree.assign a b) id line es f h d = let r = apart (expr_names a) (expr_names b) h in expr_in b r.1 line (expr_seen fs a line es) (expr_in a r.0 line es d)
      plain_in (tree.block_if arms other) id line es f h d = absurd f
      plain_in (tree.logical_if e s) id line es f h d = absurd f
      plain_in (tree.do_loop l) id line es f h d = absurd f
      plain_in (tree.call x rest) id line es f h d = exprs_in rest h line es d
      plain_in (tree.goto l) id line es f h d = d
      plain_in tree.continue id line es f h d = d
      plain_in tree.return id line es f h d = d
      plain_in (tree.stop text) id line es f h d = d
      plain_in (tree.print rest) id line es f h d = exprs_in rest h line es d
      plain_in (tree.read rest) id line es f h d = exprs_in rest h line es d

      -- the test of a block IF, or of the DO WHILE that it stands for
      test_names : (c : Bool) (e : ExprTree) → IsNaming (if_head c e) → Names (expr_names e)
      test_names true e h = h.1
      test_names false e h = h.1

      module _ (f : ℕ → Bool) where
        mutual
          list_in : (n : ℕ) (t : StmtTrees) → AreNumbered n t → last_in n t ≤ 4096 → AreNaming (cards_in f t) → (line : ℕ) (es : List EntryTree) → AreTold es → AreTold (stmts_seen fs at t line es)
          list_in n tree.no_stmts a few h line es d = d
          list_in n (tree.more_stmts s rest) a few h line es d =
              let r = split (cards_of f s) (cards_in f rest) h in
              let y = later-in (last_of n s) rest in
              list_in (last_of n s) rest a.behind few r.1 line (stmt_seen fs at s line es) (stmt_in n s a.first (omega (arith, y, few)) r.0 line es d)

          stmt_in : (n : ℕ) (s : StmtTree) → IsNumbered n s → last_of n s ≤ 4096 → AreNaming (cards_of f s) → (line : ℕ) (es : List EntryTree) → AreTold es → AreTold (stmt_seen fs at s line es)
          stmt_in n (tree.stmt id label w) a few h line es d = what_in (n + 1) w id label a.below few h (line_or at (Statement id) line) es d

          what_in : (n : ℕ) (w : WhatTree) (id : ℕ) (label : Option ℕ) → NumberedBelow n w → last_by n w ≤ 4096 → AreNaming (cards_by f id label w) → (line : ℕ) (es : List EntryTree) → AreTold es
              → AreTold (what_seen fs at w id line es)
          what_in n (tree.assign u b) id label a few h line es d = plain_in (tree.assign u b) id line es h.first.1.0 h.first.1.1 d
          what_in n (tree.block_if arms other) id label a few h line es d =
              let x = later-else (last_arms n arms) other in
              let heads = head_seen fs (head_of (form_of_if arms other)) line es in
              let begun = subst AreTold (sym (no-head fs arms other line es (arms-block arms other (arms-shown n arms (block-arms n arms a.parts) (omega (arith, x, few)))))) d in
              let r = block_in n arms id label (else_cards f id other ++ card (parts.Close id) None (if_end (f id)) ∷ []) a.parts (omega (arith, x, few)) h line heads begun in
              else_in (last_arms n arms) other id a.last few (split (else_cards f id other) (card (parts.Close id) None (if_end (f id)) ∷ []) r.1).0 line (arms_seen fs at arms id 0 line heads) r.0
          what_in n (tree.logical_if e (tree.stmt inner own w)) id label a few h line es d =
              let r = apart (expr_names e) (what_names w) h.first.1.1 in
              plain_in w inner (line_or at (Statement inner) line) (expr_seen fs e line es) h.first.1.0.inner r.1 (expr_in e r.0 line es d)
          what_in n (tree.do_loop l) id label a few h line es d = loop_in n l id label a few h line es d
          what_in n (tree.call x rest) id label a few h line es d = plain_in (tree.call x rest) id line es h.first.1.0 h.first.1.1 d
          what_in n (tree.goto l) id label a few h line es d = d
          what_in n tree.continue id label a few h line es d = d
          what_in n tree.return id label a few h line es d = d
          what_in n (tree.stop text) id label a few h line es d = d
          what_in n (tree.print rest) id label a few h line es d = plain_in (tree.print rest) id line es h.first.1.0 h.first.1.1 d
          what_in n (tree.read rest) id label a few h line es d = plain_in (tree.read rest) id line es h.first.1.0 h.first.1.1 d

          loop_in : (n : ℕ) (l : LoopTree) (id : ℕ) (label : Option ℕ) → NumberedBody n l → last_by n (tree.do_loop l) ≤ 4096 → AreNaming (cards_by f id label (tree.do_loop l)) → (line : ℕ) (es : List EntryTree) → AreTold es
              → AreTold (loop_seen fs at l line es)
          loop_in n (tree.loop index first last step body) id label a few h line es d =
              let names = h.first.1.1 in
              let r = apart (expr_names first) (expr_names last ++ maybe_names step) names.others in
              let q = apart (expr_names last) (maybe_names step) r.1 in
              let b = name_seen fs index line es in
              let c = expr_seen fs first line b in
              let e = expr_seen fs last line c in
              list_in n body a few (split (cards_in f body) (card (parts.Close id) None end_do ∷ []) h.others).0 line (maybe_seen fs step line e)
              (maybe_in step q.1 line e (expr_in last q.0 line c (expr_in first r.0 line b (name_in index line es names.first d))))

          block_in : (n : ℕ) (arms : ArmTrees) (id : ℕ) (label : Option ℕ) (end : List Card) → NumberedBlock n arms → last_arms n arms ≤ 4096 → AreNaming (block_cards f id label arms end) → (line : ℕ) (es : List EntryTree)
              → AreTold es → AreTold (arms_seen fs at arms id 0 line es) × AreNaming end
          block_in n tree.no_arms id label end a few h line es d = absurd a
          block_in n (tree.more_arms (tree.arm test body) others) id label end a few h line es d =
              let r = split (cards_in f body) (part_cards f id 1 others end) h.others in
              let here = line_or at (ElseIf id 0) line in
              let y = later-arms (last_in n body) others in
              arms_in (last_in n body) others id 1 1 end a.parts few r.1 line (arm_seen fs at (tree.arm test body) here es)
              (list_in n body a.below (omega (arith, y, few)) r.0 here (expr_seen fs test here es) (expr_in test (test_names (f id) test h.first.1) here es d))

          arms_in : (n : ℕ) (arms : ArmTrees) (id place k : ℕ) (end : List Card) → NumberedArms n arms → last_arms n arms ≤ 4096 → AreNaming (part_cards f id place arms end) → (line : ℕ) (es : List EntryTree) → AreTold es
              → AreTold (arms_seen fs at arms id k line es) × AreNaming end
          arms_in n tree.no_arms id place k end a few h line es d = (d, h)
          arms_in n (tree.more_arms (tree.arm test body) others) id place k end a few h line es d =
              let r = split (cards_in f body) (part_cards f id (place + 1) others end) h.others in
              let here = line_or at (ElseIf id k) line in
              let y = later-arms (last_in n body) others in
              arms_in (last_in n body) others id (place + 1) (suc k) end a.parts few r.1 line (arm_seen fs at (tree.arm test body) here es)
              (list_in n body a.below (omega (arith, y, few)) r.0 here (expr_seen fs test here es) (expr_in test h.first.1.1 here es d))

          else_in : (n : ℕ) (other : ElseTree) (id : ℕ) → NumberedElse n other → last_else n other ≤ 4096 → AreNaming (else_cards f id other) → (line : ℕ) (es : List EntryTree) → AreTold es → AreTold (else_seen fs at other line es)
          else_in n tree.no_else id a few h line es d = d
          else_in n (tree.otherwise body) id a few h line es d = list_in n body a few h.others line es d

    -- ---- specification statements

    extents_in : (xs : List ExtentTree) (line : ℕ) (es : List EntryTree) → Names (all_names extent_names xs) → AreTold es → AreTold (extents_seen fs xs line es)
    extents_in [] line es h d = d
    extents_in (x ∷ xs) line es h d =
        let r = apart (extent_names x) (all_names extent_names xs) h in
        let q = apart (maybe_names x.low) (maybe_names x.high) r.0 in
        extents_in xs line (extent_seen fs x line es) r.1 (maybe_in x.high q.1 line (maybe_seen fs x.low line es) (maybe_in x.low q.0 line es d))

    entity_in : (e : EntityTree) (line : ℕ) (t : Told) → Names (entity_names e) → AreTold t.entries → AreTold (entity_seen fs e line t).entries
    entity_in e line t h d = extents_in e.bounds line (seen e.name line t.entries) h.others (seen_told e.name line t.entries h.first d)

    shaped_in : (x : List ℕ) (bs : List ExtentTree) (line : ℕ) (t : Told) → AreTold t.entries → AreTold (shaped x bs line t).entries
    shaped_in x [] line t d = d
    shaped_in x (b ∷ bs) line t d = said_told x (Shaped line (bound_of b) (map bound_of bs)) t.entries d

    typed_in : (s : Scalar) (es : List EntityTree) (line : ℕ) (t : Told) → Names (all_names entity_names es) → AreTold t.entries → AreTold (typed_entities fs s es line t).entries
    typed_in s [] line t h d = d
    typed_in s (e ∷ es) line t h d =
        let r = apart (entity_names e) (all_names entity_names es) h in
        let u = entity_seen fs e line t in
        typed_in s es line (typed_entity fs s e line t) r.1 (shaped_in e.name e.bounds line (typed e.name s line u) (said_told e.name (Typed s) u.entries (entity_in e line t r.0 d)))

    arrays_in : (es : List EntityTree) (line : ℕ) (t : Told) → Names (all_names entity_names es) → AreTold t.entries → AreTold (shaped_entities fs es line t).entries
    arrays_in [] line t h d = d
    arrays_in (e ∷ es) line t h d =
        let r = apart (entity_names e) (all_names entity_names es) h in
        let u = entity_seen fs e line t in
        arrays_in es line (shaped e.name e.bounds line u) r.1 (shaped_in e.name e.bounds line u (entity_in e line t r.0 d))

    members_in : (es : List EntityTree) (line : ℕ) (t : Told) → Names (all_names entity_names es) → AreTold t.entries → AreTold (members_told fs es line t).entries
    members_in [] line t h d = d
    members_in (e ∷ es) line t h d =
        let r = apart (entity_names e) (all_names entity_names es) h in
        let u = entity_seen fs e line t in
        let v = shaped e.name e.bounds line u in
        members_in es line (in_common e.name line v) r.1 (said_told e.name (Shared line) v.entries (shaped_in e.name e.bounds line u (entity_in e line t r.0 d)))

    blocks_in : (cs : List CommonTree) (line : ℕ) (t : Told) → Names (all_names common_names cs) → AreTold t.entries → AreTold (blocks_told fs cs line t).entries
    blocks_in [] line t h d = d
    blocks_in (c ∷ cs) line t h d = let r = apart (common_names c) (all_names common_names cs) h in blocks_in cs line (members_told fs c.members line t) r.1 (members_in c.members line t r.0 d)

    settings_in : (ss : List SettingTree) (line : ℕ) (t : Told) → Names (all_names setting_names ss) → AreTold t.entries → AreTold (settings_told fs ss line t).entries
    settings_in [] line t h d = d
    settings_in (s ∷ ss) line t h d =
        let r = apart (setting_names s) (all_names setting_names ss) h in
        let es = seen s.name line t.entries in
        settings_in ss line (setting_told fs s line t) r.1 (expr_in s.value r.0.others line (changed s.name as_parameter es) (said_told s.name Parameter es (seen_told s.name line t.entries r.0.first d)))

    mention_in : (w : Said) (x : List ℕ) (line : ℕ) (t : Told) → Name x → AreTold t.entries → AreTold (mention_told (with_said w) x line t).entries
    mention_in w x line t n d = said_told x w (seen x line t.entries) (seen_told x line t.entries n d)

    item_in : (w : Said) (e : ExprTree) (line : ℕ) (t : Told) → Names (expr_names e) → AreTold t.entries → AreTold (item_told fs (with_said w) e line t).entries
    item_in w (tree.name x) line t h d = mention_in w x line t h.first d
    item_in w (tree.element x rest) line t h d = exprs_in rest h.others line (mention_told (with_said w) x line t).entries (mention_in w x line t h.first d)
    item_in w (tree.int n) line t h d = d
    item_in w (tree.log b) line t h d = d
    item_in w (tree.paren e) line t h d = d
    item_in w (tree.unary o e) line t h d = d
    item_in w (tree.binary o a b) line t h d = d
    item_in w (tree.chars x) line t h d = d

    items_in : (w : Said) (is : List ExprTree) (line : ℕ) (t : Told) → Names (all_names expr_names is) → AreTold t.entries → AreTold (items_told fs (with_said w) is line t).entries
    items_in w [] line t h d = d
    items_in w (i ∷ is) line t h d = let r = apart (expr_names i) (all_names expr_names is) h in items_in w is line (item_told fs (with_said w) i line t) r.1 (item_in w i line t r.0 d)

    groups_in : (gs : List (List ExprTree)) (line : ℕ) (t : Told) → Names (all_names group_names gs) → AreTold t.entries → AreTold (groups_told fs gs line t).entries
    groups_in [] line t h d = d
    groups_in (g ∷ gs) line t h d = let r = apart (group_names g) (all_names group_names gs) h in groups_in gs line (items_told fs (with_said Nothing) g line t) r.1 (items_in Nothing g line t r.0 d)

    targets_in : (gs : List DataTree) (line : ℕ) (t : Told) → Names (all_names data_names gs) → AreTold t.entries → AreTold (targets_told fs gs line t).entries
    targets_in [] line t h d = d
    targets_in (g ∷ gs) line t h d = let r = apart (data_names g) (all_names data_names gs) h in targets_in gs line (items_told fs (with_said Initial) g.targets line t) r.1 (items_in Initial g.targets line t r.0 d)

    save_in : (i : SaveItem) (line : ℕ) (t : Told) → Names (save_names i) → AreTold t.entries → AreTold (save_told i line t).entries
    save_in (item.Name x) line t h d = mention_in Saved x line t h.first d
    save_in (item.Block b) line t h d = d

    saves_in : (is : List SaveItem) (line : ℕ) (t : Told) → Names (all_names save_names is) → AreTold t.entries → AreTold (saves_told is line t).entries
    saves_in [] line t h d = d
    saves_in (i ∷ is) line t h d = let r = apart (save_names i) (all_names save_names is) h in saves_in is line (save_told i line t) r.1 (save_in i line t r.0 d)

    decl_in : (x : DeclTree) (line : ℕ) (t : Told) → Names (decl_names x) → AreTold t.entries → AreTold (decl_told fs x line t).entries
    decl_in (decl.implicit ps) line t h d = d
    decl_in (decl.integer es) line t h d = typed_in Int es line t h d
    decl_in (decl.logical es) line t h d = typed_in Log es line t h d
    decl_in (decl.dimension es) line t h d = arrays_in es line t h d
    decl_in (decl.parameter ss) line t h d = settings_in ss line t h d
    decl_in (decl.common cs) line t h d = blocks_in cs line t h d
    decl_in (decl.equivalence gs) line t h d = groups_in gs line t h d
    decl_in (decl.save is) line t h d = saves_in is line t h d
    decl_in (decl.initial gs) line t h d = targets_in gs line t h d

    decls_in : (at : LineTable) (ds : List DeclTree) (place n : ℕ) (t : Told) → AreNaming (decl_cards place ds) → AreTold t.entries → AreTold (decls_told fs at ds n t).entries
    decls_in at [] place n t h d = d
    decls_in at (x ∷ ds) place n t h d = decls_in at ds (place + 1) (suc n) (decl_told fs x (line_or at (Decl n) 0) t) h.others (decl_in x (line_or at (Decl n) 0) t h.first.1.1 d)

  -- ---- modules

  head_known : (function : Option FunctionForm) (name : List ℕ) (dummies : List (List ℕ)) → FunctionFits function false name dummies → IsNaming (head_phrase function name dummies) → Names dummies
  head_known None name dummies g h = h.1
  head_known (Some form) name dummies g h = subst Names g.last h.1

  dummies_known : (main titled : Bool) (function : Option FunctionForm) (name : List ℕ) (dummies : List (List ℕ)) → TitleFits main titled name dummies → FunctionFits function main name dummies
      → AreNaming (if titled || not main then card parts.Title None (if main then program name else head_phrase function name dummies) ∷ [] else []) → Names dummies
  dummies_known true true function name dummies t g h = subst Names (sym t) tt
  dummies_known true false function name dummies t g h = subst Names (sym t.alone) tt
  dummies_known false true function name dummies t g h = head_known function name dummies g h.first.1
  dummies_known false false function name dummies t g h = head_known function name dummies g h.first.1

  told_named : (es : List EntryTree) → AreTold es → AreNamed Name es
  told_named [] h = tt
  told_named (e ∷ es) h = record { first = h.first; others = told_named es h.others }

  named_told : (es : List EntryTree) → AreNamed Name es → AreTold es
  named_told [] h = tt
  named_told (e ∷ es) h = record { first = h.first; others = named_told es h.others }

  -- of the module as it is written, whose names are those of the module
  written_in : (m : ModuleTree) → IsWell m → AreNaming (statements_of m) → AreTold (table_of no_lines (folded m)).entries
  unfolding statements_of folded
  written_in m w c =
      let fs = arrays_named m.decls in
      let f = (meant_in m).is_while in
      let body = (folded m).body in
      let line = line_or no_lines Title 0 in
      let t = dummies_told m.dummies 1 line no_names in
      let u = title_told no_lines m in
      let all = (split (title_cards m ++ decl_cards 0 m.decls ++ cards_in f body) (card parts.End None end_module ∷ []) c).0 in
      let r = split (title_cards m ++ decl_cards 0 m.decls) (cards_in f body) all in
      let q = split (title_cards m) (decl_cards 0 m.decls) r.0 in
      list_in fs no_lines f 0 body w.body w.few r.1 0 (decls_told fs no_lines m.decls 0 u).entries
      (decls_in fs no_lines m.decls 0 0 u q.1 (form_in m.function m.name line t (dummies_in m.dummies 1 line no_names (dummies_known m.main m.titled m.function m.name m.dummies w.title w.function q.0) tt)))

  table_in : (p : ParsedTree) → IsBuilt p → AreNaming (statements_of p.module_read) → AreTold (table_of (lines_in p) p.module_read).entries
  table_in p b c =
      let m = p.module_read in
      let written = subst (λ (t : NameTable). AreTold t.entries) (sym (tables-written m b.well)) (written_in m b.well c) in
      named_told (table_of (lines_in p) m).entries (named-at Name (lines_in p) m (told_named (table_of no_lines m).entries written))

  pub symbols_in : (p : ParsedTree) (ss : List SymbolTree) → IsBuilt p → AreNaming (statements_of p.module_read) → symbols_of p ≡ Ok ss → Each Name (symbol_names ss)
  symbols_in p ss b c e = subst Names (sym (names_of_symbols p ss e)) (table_in p b c)
