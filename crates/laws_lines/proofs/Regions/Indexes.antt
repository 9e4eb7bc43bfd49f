-- The index of a DO is a symbol: it is no function, since it is written, and each other name that appears is put into the table of names.
use Rattle.std.proofs.Common.{◌≡◌, ℕ, suc, ◌+◌, Bool, true, false, List, [], ◌∷◌, ◌++◌, Option, Some, None, refl, sym, ap, ◌∙◌, subst}
use Rattle.std.specs.Prelude.{if◌then◌else◌, bytes_eq, is_some, is_none, ◌||◌}
use Rattle.std.proofs.lemmas.Bool.{or_from}
use Rattle.std.proofs.lemmas.Slice.Eq.{bytes_eq-Decides}
use Rattle.f77_ast.specs.Trees.{ExprTree, StmtTree, WhatTree, ArmTree, ArmTrees, ElseTree, LoopTree, StmtTrees}
use Rattle.f77_ast.specs.Trees as tree
use Rattle.f77_ast.specs.Hidden.{form_of_if}
use Rattle.f77_ast.specs.DeclTrees.{SettingTree, DeclTree, ParsedTree}
use Rattle.f77_ast.specs.DeclTrees as decl
use Rattle.f77_ast.specs.declared.constant.Constant.{Constant}
use Rattle.f77_ast.specs.declared.constant.Constant.TheVariants as constant
use Rattle.f77_ast.specs.declared.constant.ConstantValue.{ConstantValue}
use Rattle.f77_ast.specs.declared.constant.ConstantValue.TheVariants.{Is, Faults, Varies}
use Rattle.f77_ast.specs.Constants.{const_value}
use Rattle.f77_ast.specs.Symbols.{SymbolTree, number_from}
use Rattle.f77_names.specs.declared.functions.Function.{Function}
use Rattle.f77_names.specs.declared.kinds.Kind.{Kind}
use Rattle.f77_names.specs.declared.kinds.Kind.TheVariants.{Int, Log, Real}
use Rattle.f77_names.specs.declared.lines.Sited.TheVariants.{Decl, Statement, ElseIf}
use Rattle.f77_names.specs.Lines.{LineTable, line_or}
use Rattle.f77_names.specs.Functions.{arrays_named, function_of}
use Rattle.f77_names.specs.Entries.{EntryTree, fresh, find, entry_names, seen, changed, value_among}
use Rattle.f77_names.specs.Appearing.{unless_function, name_seen, expr_seen, maybe_seen, head_of, head_seen, stmt_seen, what_seen, arm_seen, arms_seen, else_seen, loop_seen, stmts_seen}
use Rattle.f77_names.specs.Declaring.{decls_told}
use Rattle.f77_names.specs.Tables.{NameTable, title_told, kind_in, table_of, check_names}
use Rattle.f77_checks.specs.Dimensions.{check_shapes}
use Rattle.f77_checks.specs.Expressions.{wants_int, check_int, check_log}
use Rattle.f77_checks.specs.Parameters.{Valued, given_typed, given_const_value, setting_valued, settings_valued, decl_valued, decls_valued}
use Rattle.f77_checks.specs.Statements.{target_sort, name_written, check_target, check_step, check_stmt, check_what, check_arm, check_arms, check_else, check_loop, check_stmts}
use Rattle.fx_lists.specs.declared.code.Code.TheVariants.{AssignToConstant}
use Rattle.fx_lists.specs.declared.refusal.Refusal.{Refusal}
use Rattle.storage_layout.specs.Symbols.{valued, checked}
use Rattle.preconditions.specs.transformers.Jumps.{stmt_has, parts_have, list_has, arms_have, arm_has, else_has, loop_has}
use Rattle.laws_programs.proofs.SymbolTables.Answers.{Answered, answered_by, lines_in, names_in, found_none}
use Rattle.laws_programs.proofs.SymbolTables.KeptNames.{Said, with_said, expr_keeps, stmts_keep}
use Rattle.laws_programs.proofs.SymbolTables.StatementRefusals.{int_back, int_expr_back, step_back, arms_back, else_back, stmts_back}
use Rattle.laws_programs.proofs.SymbolTables.Values.{chosen, as_chosen, is_taken, judged}
use Rattle.laws_lines.proofs.SymbolNames.{said_stay, names_of_symbols}
use Rattle.laws_lines.specs.Regions.Indexes.{has_other_index, counts_other, IndexesAreSymbols}
use Rattle.fx_lists.proofs.Refused.{none_refused}
use Rattle.laws_programs.proofs.Layouts.DifferLaws.{names_more}

-- ---- names that are put into the table

-- a name is one of the entries
abbrev IsTold : List ℕ → List EntryTree → Type 0
IsTold x es = is_none (number_from 1 (entry_names es) x) ≡ false

before : (n : ℕ) (x : List ℕ) (ys zs : List (List ℕ)) → is_none (number_from n ys x) ≡ false → is_none (number_from n (ys ++ zs) x) ≡ false
before n x [] zs h = cc
before n x (y ∷ ys) zs h = go (bytes_eq x y) h (before (suc n) x ys zs)
  where
    go : (b : Bool) → is_none (if b then Some n else number_from (suc n) ys x) ≡ false → (is_none (number_from (suc n) ys x) ≡ false → is_none (number_from (suc n) (ys ++ zs) x) ≡ false)
        → is_none (if b then Some n else number_from (suc n) (ys ++ zs) x) ≡ false
    go true k ih = refl
    go false k ih = ih k

last_one : (n : ℕ) (x : List ℕ) (ys : List (List ℕ)) → is_none (number_from n (ys ++ x ∷ []) x) ≡ false
last_one n x [] = ap (λ (b : Bool). is_none (if b then Some n else None)) ((bytes_eq-Decides x x).1 refl)
last_one n x (y ∷ ys) = go (bytes_eq x y) (last_one (suc n) x ys)
  where
    go : (b : Bool) → is_none (number_from (suc n) (ys ++ x ∷ []) x) ≡ false → is_none (if b then Some n else number_from (suc n) (ys ++ x ∷ []) x) ≡ false
    go true ih = refl
    go false ih = ih

found_there : (n : ℕ) (x : List ℕ) (es : List EntryTree) → is_some (find x es) ≡ true → is_none (number_from n (entry_names es) x) ≡ false
unfolding find
found_there n x [] h = cc
found_there n x (e ∷ es) h = go (bytes_eq x e.name) h (found_there (suc n) x es)
  where
    go : (b : Bool) → is_some (if b then Some e else find x es) ≡ true → (is_some (find x es) ≡ true → is_none (number_from (suc n) (entry_names es) x) ≡ false)
        → is_none (if b then Some n else number_from (suc n) (entry_names es) x) ≡ false
    go true k ih = refl
    go false k ih = ih k

seen_there : (x : List ℕ) (line : ℕ) (es : List EntryTree) → IsTold x (seen x line es)
seen_there x line es = go (is_some (find x es)) refl
  where
    go : (b : Bool) → is_some (find x es) ≡ b → IsTold x (if b then es else es ++ fresh x line ∷ [])
    go true q = found_there 1 x es q
    go false q = subst (λ (ns : List (List ℕ)). is_none (number_from 1 ns x) ≡ false) (sym (names_more es (fresh x line))) (last_one 1 x (entry_names es))

seen_keeps : (y x : List ℕ) (line : ℕ) (es : List EntryTree) → IsTold y es → IsTold y (seen x line es)
seen_keeps y x line es h = go (is_some (find x es))
  where
    go : (b : Bool) → IsTold y (if b then es else es ++ fresh x line ∷ [])
    go true = h
    go false = subst (λ (ns : List (List ℕ)). is_none (number_from 1 ns y) ≡ false) (sym (names_more es (fresh x line))) (before 1 y (entry_names es) (x ∷ []) h)

said_keeps : (y x : List ℕ) (w : Said) (es : List EntryTree) → IsTold y es → IsTold y (changed x (with_said w) es)
said_keeps y x w es h = subst (λ (ns : List (List ℕ)). is_none (number_from 1 ns y) ≡ false) (sym (said_stay x w es)) h

-- what is written is no function
no_function : (f : Option Function) (t : NameTable) (x : List ℕ) (line : ℕ) (o : Option Refusal) → name_written f t x line o ≡ None → f ≡ None
no_function (Some f) t x line o e = let wrong : true ≡ false = (none_refused true line AssignToConstant o e).0 in cc
no_function None t x line o e = refl

-- ---- statements that are not refused, of which the table tells

-- `fs` are the functions whose names are those of arrays, and `all` the entries in the end. A statement is judged within one at a line, and told within one at another
module _ (t : NameTable) (fs : List Function) (same : t.arrays ≡ fs) (at : LineTable) (all : List EntryTree) where
  abbrev such : WhatTree → Bool
  such = counts_other (entry_names all)

  -- the names of these are among them
  abbrev Among : List EntryTree → Type 0
  Among es = (x : List ℕ) → IsTold x es → IsTold x all

  expr_told : (x : List ℕ) (e : ExprTree) (line : ℕ) (es : List EntryTree) → IsTold x es → IsTold x (expr_seen fs e line es)
  expr_told x e line es h = expr_keeps (IsTold x) (seen_keeps x) (said_keeps x) fs e line es h

  maybe_told : (x : List ℕ) (o : Option ExprTree) (line : ℕ) (es : List EntryTree) → IsTold x es → IsTold x (maybe_seen fs o line es)
  maybe_told x None line es h = h
  maybe_told x (Some e) line es h = expr_told x e line es h

  stmts_told : (x : List ℕ) (ss : StmtTrees) (line : ℕ) (es : List EntryTree) → IsTold x es → IsTold x (stmts_seen fs at ss line es)
  stmts_told x ss line es h = stmts_keep (IsTold x) (seen_keeps x) (said_keeps x) fs at ss line es h

  arms_told : (x : List ℕ) (arms : ArmTrees) (id n line : ℕ) (es : List EntryTree) → IsTold x es → IsTold x (arms_seen fs at arms id n line es)
  arms_told x tree.no_arms id n line es h = h
  arms_told x (tree.more_arms (tree.arm test body) rest) id n line es h =
      let l = line_or at (ElseIf id n) line in
      let ds = expr_seen fs test l es in
      arms_told x rest id (suc n) line (stmts_seen fs at body l ds) (stmts_told x body l ds (expr_told x test l es h))

  else_told : (x : List ℕ) (other : ElseTree) (line : ℕ) (es : List EntryTree) → IsTold x es → IsTold x (else_seen fs at other line es)
  else_told x tree.no_else line es h = h
  else_told x (tree.otherwise ss) line es h = stmts_told x ss line es h

  -- of a name that is no function
  name_told : (x : List ℕ) (line : ℕ) (es : List EntryTree) → function_of t.arrays x ≡ None → IsTold x (name_seen fs x line es)
  name_told x line es h =
      let none = subst (λ (gs : List Function). function_of gs x ≡ None) same h in
      subst (λ (f : Option Function). IsTold x (unless_function f x line es)) (sym none) (seen_there x line es)

  mutual
    stmt_counts : (s : StmtTree) (line r : ℕ) (o : Option Refusal) → check_stmt t at s line o ≡ None → (es : List EntryTree) → Among (stmt_seen fs at s r es) → stmt_has such s ≡ false
    stmt_counts (tree.stmt id label w) line r o e es k = what_counts w id (line_or at (Statement id) line) (line_or at (Statement id) r) o e es k

    what_counts : (w : WhatTree) (id line r : ℕ) (o : Option Refusal) → check_what t at w id line o ≡ None → (es : List EntryTree) → Among (what_seen fs at w id r es) → (such w || parts_have such w) ≡ false
    what_counts (tree.assign a b) id line r o e es k = refl
    what_counts (tree.block_if arms other) id line r o e es k =
        let heads = head_seen fs (head_of (form_of_if arms other)) r es in
        let ds = arms_seen fs at arms id 0 r heads in
        or_from (arms_have such arms) (else_has such other)
        (arms_count arms id 0 0 line r o (else_back t at other line (check_arms t at arms id 0 line o) e) heads (λ x h. k x (else_told x other r ds h)))
        (else_counts other line r (check_arms t at arms id 0 line o) e ds k)
    what_counts (tree.logical_if test s) id line r o e es k = stmt_counts s line r (check_log t test line o) e (expr_seen fs test r es) k
    what_counts (tree.do_loop l) id line r o e es k = loop_counts l line r o e es k
    what_counts (tree.call x xs) id line r o e es k = refl
    what_counts (tree.goto l) id line r o e es k = refl
    what_counts tree.continue id line r o e es k = refl
    what_counts tree.return id line r o e es k = refl
    what_counts (tree.stop text) id line r o e es k = refl
    what_counts (tree.print xs) id line r o e es k = refl
    what_counts (tree.read xs) id line r o e es k = refl

    arms_count : (arms : ArmTrees) (id n m line r : ℕ) (o : Option Refusal) → check_arms t at arms id n line o ≡ None → (es : List EntryTree) → Among (arms_seen fs at arms id m r es) → arms_have such arms ≡ false
    arms_count tree.no_arms id n m line r o e es k = refl
    arms_count (tree.more_arms a rest) id n m line r o e es k =
        let v = check_arm t at a (line_or at (ElseIf id n) line) o in
        let ds = arm_seen fs at a (line_or at (ElseIf id m) r) es in
        or_from (arm_has such a) (arms_have such rest)
        (arm_counts a (line_or at (ElseIf id n) line) (line_or at (ElseIf id m) r) o (arms_back t at rest id (n + 1) line v e) es (λ x h. k x (arms_told x rest id (suc m) r ds h)))
        (arms_count rest id (n + 1) (suc m) line r v e ds k)

    arm_counts : (a : ArmTree) (line r : ℕ) (o : Option Refusal) → check_arm t at a line o ≡ None → (es : List EntryTree) → Among (arm_seen fs at a r es) → arm_has such a ≡ false
    arm_counts (tree.arm test body) line r o e es k = stmts_count body line r (check_log t test line o) e (expr_seen fs test r es) k

    else_counts : (other : ElseTree) (line r : ℕ) (o : Option Refusal) → check_else t at other line o ≡ None → (es : List EntryTree) → Among (else_seen fs at other r es) → else_has such other ≡ false
    else_counts tree.no_else line r o e es k = refl
    else_counts (tree.otherwise ss) line r o e es k = stmts_count ss line r o e es k

    loop_counts : (l : LoopTree) (line r : ℕ) (o : Option Refusal) → check_loop t at l line o ≡ None → (es : List EntryTree) → Among (loop_seen fs at l r es) → (has_other_index (entry_names all) l || loop_has such l) ≡ false
    loop_counts (tree.loop index first last step body) line r o e es k =
        let target = check_target t (tree.name index) line o in
        let v = wants_int (target_sort t (tree.name index)) line target in
        let low = check_int t first line v in
        let high = check_int t last line low in
        let judged_step = check_step t step line high in
        let body_back = stmts_back t at body line judged_step e in
        let first_back = int_expr_back t first line v (int_expr_back t last line low (step_back t step line high body_back)) in
        let written = int_back (target_sort t (tree.name index)) line target first_back in
        let as' = name_seen fs index r es in
        let bs = expr_seen fs first r as' in
        let cs = expr_seen fs last r bs in
        let ds = maybe_seen fs step r cs in
        let there = name_told index r es (no_function (function_of t.arrays index) t index line o written) in
        or_from (has_other_index (entry_names all) (tree.loop index first last step body)) (list_has such body)
        (k index (stmts_told index body r ds (maybe_told index step r cs (expr_told index last r bs (expr_told index first r as' there)))))
        (stmts_count body line r judged_step e ds k)

    pub stmts_count : (ss : StmtTrees) (line r : ℕ) (o : Option Refusal) → check_stmts t at ss line o ≡ None → (es : List EntryTree) → Among (stmts_seen fs at ss r es) → list_has such ss ≡ false
    stmts_count tree.no_stmts line r o e es k = refl
    stmts_count (tree.more_stmts s ss) line r o e es k =
        let v = check_stmt t at s line o in
        let ds = stmt_seen fs at s r es in
        or_from (stmt_has such s) (list_has such ss)
        (stmt_counts s line r o (stmts_back t at ss line v e) es (λ x h. k x (stmts_told x ss r ds h)))
        (stmts_count ss line r v e ds k)

-- ---- the values that PARAMETER gives leave the functions

abbrev arrays_of : Valued → List Function
arrays_of v = v.table.arrays

typed_leaves : (k : Kind) (x : List ℕ) (c : Constant) (line : ℕ) (v : Valued) → arrays_of (given_typed k x c line v) ≡ arrays_of v
typed_leaves Int x (constant.Int i) line v = refl
typed_leaves Int x (constant.Log b) line v = refl
typed_leaves Log x (constant.Int i) line v = refl
typed_leaves Log x (constant.Log b) line v = refl
typed_leaves Real x c line v = refl

const_value_leaves : (x : List ℕ) (w : ConstantValue) (line : ℕ) (v : Valued) → arrays_of (given_const_value x w line v) ≡ arrays_of v
const_value_leaves x Varies line v = refl
const_value_leaves x Faults line v = refl
const_value_leaves x (Is c) line v = typed_leaves (kind_in v.table x) x c line v

chosen_leaves : (b : Bool) (s : SettingTree) (line : ℕ) (v : Valued) → arrays_of (chosen b s line v) ≡ arrays_of v
chosen_leaves true s line v = refl
chosen_leaves false s line v = const_value_leaves s.name (const_value (value_among v.table.entries) s.value) line (judged s line v)

settings_leave : (ss : List SettingTree) (line : ℕ) (v : Valued) → arrays_of (settings_valued ss line v) ≡ arrays_of v
settings_leave [] line v = refl
settings_leave (s ∷ ss) line v = settings_leave ss line (setting_valued s line v) ∙ ap arrays_of (as_chosen s line v) ∙ chosen_leaves (is_taken s v) s line v

decl_leaves : (x : DeclTree) (line : ℕ) (v : Valued) → arrays_of (decl_valued x line v) ≡ arrays_of v
decl_leaves (decl.parameter ss) line v = settings_leave ss line v
decl_leaves (decl.implicit ps) line v = refl
decl_leaves (decl.integer es) line v = refl
decl_leaves (decl.logical es) line v = refl
decl_leaves (decl.dimension es) line v = refl
decl_leaves (decl.common cs) line v = refl
decl_leaves (decl.equivalence gs) line v = refl
decl_leaves (decl.save is) line v = refl
decl_leaves (decl.initial gs) line v = refl

values_leave : (at : LineTable) (xs : List DeclTree) (k : ℕ) (v : Valued) → arrays_of (decls_valued at xs k v) ≡ arrays_of v
values_leave at [] k v = refl
values_leave at (x ∷ xs) k v = values_leave at xs (k + 1) (decl_valued x (line_or at (Decl k) 0) v) ∙ decl_leaves x (line_or at (Decl k) 0) v

module_arrays : (p : ParsedTree) → (names_in p).arrays ≡ arrays_named p.module_read.decls
unfolding valued
module_arrays p = values_leave (lines_in p) p.module_read.decls 0 (record { table = table_of (lines_in p) p.module_read; found = check_names (lines_in p) p.module_read })

-- ---- modules

body_counts : (p : ParsedTree) (ss : List SymbolTree) → Answered p ss → list_has (counts_other (entry_names (table_of (lines_in p) p.module_read).entries)) p.module_read.body ≡ false
unfolding checked
body_counts p ss a =
    let at = lines_in p in
    let m = p.module_read in
    let v = valued at m in
    let fs = arrays_named m.decls in
    let told = decls_told fs at m.decls 0 (title_told at m) in
    stmts_count v.table fs (module_arrays p) at (table_of at m).entries m.body 0 0 (check_shapes v.table v.table.entries v.found) (found_none p ss a) told.entries (λ x h. h)

pub indexes_are_symbols : IndexesAreSymbols
indexes_are_symbols p ss e =
    subst (λ (ns : List (List ℕ)). list_has (counts_other ns) p.module_read.body ≡ false) (sym (names_of_symbols p ss e)) (body_counts p ss (answered_by p ss e))
