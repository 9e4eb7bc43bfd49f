-- The names in a statement by itself: all together they have no more characters, blanks aside, than what was read.
use Rattle.std.proofs.Common.{◌≡◌, ℕ, ◌+◌, ◌≤◌, arith, Bool, true, false, List, [], ◌∷◌, ◌++◌, length, nat_eq, Option, Some, None, Ok, refl, ap}
use Rattle.std.specs.Prelude.{codes, not, if◌then◌else◌}
use Rattle.f77_ast.specs.declared.decl.SaveItem.{SaveItem}
use Rattle.f77_ast.specs.declared.decl.SaveItem.TheVariants as item
use Rattle.f77_ast.specs.Operators.{unary_word, binary_word}
use Rattle.f77_ast.specs.Trees.{ExprTree, ExprTrees, WhatTree}
use Rattle.f77_ast.specs.Trees as tree
use Rattle.f77_ast.specs.DeclTrees.{ExtentTree, EntityTree, SettingTree, CommonTree, DataTree, DeclTree}
use Rattle.f77_ast.specs.DeclTrees as decl
use Rattle.f77_statements.specs.Phrases.{PhraseTree, DoTree}
use Rattle.f77_statements.specs.Phrases as phrases
use Rattle.f77_statements.specs.Statements.{phrase_of}
use Rattle.f77_printer.specs.ExprText.{expr_text, exprs_text, items_text}
use Rattle.f77_printer.specs.Layout.{stripped}
use Rattle.f77_printer.specs.StatementText.{actuals_text, step_text, what_text}
use Rattle.f77_printer.specs.DeclText.{others_by, joined_by, low_text, high_text, extent_text, bounds_text, entity_text, setting_text, settings_text, block_text, common_text, other_commons_text, commons_text, group_text, save_item_text, save_text, data_value_text, data_group_text, other_groups_text, data_text, decl_text}
use Rattle.f77_printer.specs.ModuleText.{dummies_text, function_word}
use Rattle.laws_programs.specs.roundtrip_programs.Statements.Written.{phrase_text}
use Rattle.laws_programs.proofs.RoundtripPrograms.Statements.Fits.{statements_fit}

-- ---- names

abbrev mutual
  pub expr_names : ExprTree → List (List ℕ)
  expr_names (tree.int n) = []
  expr_names (tree.log b) = []
  expr_names (tree.name x) = x ∷ []
  expr_names (tree.element x rest) = x ∷ exprs_names rest
  expr_names (tree.paren e) = expr_names e
  expr_names (tree.unary o e) = expr_names e
  expr_names (tree.binary o a b) = expr_names a ++ expr_names b
  expr_names (tree.chars x) = []

  pub exprs_names : ExprTrees → List (List ℕ)
  exprs_names tree.no_exprs = []
  exprs_names (tree.more_exprs e rest) = expr_names e ++ exprs_names rest

abbrev pub maybe_names : Option ExprTree → List (List ℕ)
maybe_names None = []
maybe_names (Some e) = expr_names e

-- of each of some things
abbrev pub all_names : {A : Type 0} → (A → List (List ℕ)) → List A → List (List ℕ)
all_names f [] = []
all_names f (x ∷ xs) = f x ++ all_names f xs

abbrev pub what_names : WhatTree → List (List ℕ)
what_names (tree.assign a b) = expr_names a ++ expr_names b
what_names (tree.block_if arms other) = []
what_names (tree.logical_if e s) = []
what_names (tree.do_loop l) = []
what_names (tree.call x rest) = exprs_names rest
what_names (tree.goto l) = []
what_names tree.continue = []
what_names tree.return = []
what_names (tree.stop text) = []
what_names (tree.print rest) = exprs_names rest
what_names (tree.read rest) = exprs_names rest

abbrev pub extent_names : ExtentTree → List (List ℕ)
extent_names x = maybe_names x.low ++ maybe_names x.high

abbrev pub entity_names : EntityTree → List (List ℕ)
entity_names e = e.name ∷ all_names extent_names e.bounds

abbrev pub setting_names : SettingTree → List (List ℕ)
setting_names s = s.name ∷ expr_names s.value

abbrev pub common_names : CommonTree → List (List ℕ)
common_names c = all_names entity_names c.members

abbrev pub group_names : List ExprTree → List (List ℕ)
group_names g = all_names expr_names g

abbrev pub data_names : DataTree → List (List ℕ)
data_names g = all_names expr_names g.targets

abbrev pub save_names : SaveItem → List (List ℕ)
save_names (item.Name x) = x ∷ []
save_names (item.Block b) = []

abbrev pub decl_names : DeclTree → List (List ℕ)
decl_names (decl.implicit ps) = []
decl_names (decl.integer es) = all_names entity_names es
decl_names (decl.logical es) = all_names entity_names es
decl_names (decl.dimension es) = all_names entity_names es
decl_names (decl.parameter ss) = all_names setting_names ss
decl_names (decl.common cs) = all_names common_names cs
decl_names (decl.equivalence gs) = all_names group_names gs
decl_names (decl.save is) = all_names save_names is
decl_names (decl.initial gs) = all_names data_names gs

-- of a module's name and those of other modules there is no symbol, but for the name of a function: it is the result
abbrev pub phrase_names : PhraseTree → List (List ℕ)
phrase_names (phrases.program n) = []
phrase_names (phrases.subroutine n ds) = ds
phrase_names (phrases.function form n ds) = ds ++ n ∷ []
phrase_names (phrases.specification d) = decl_names d
phrase_names (phrases.simple w) = what_names w
phrase_names (phrases.logical_if e w) = expr_names e ++ what_names w
phrase_names (phrases.block_if e) = expr_names e
phrase_names (phrases.else_if e) = expr_names e
phrase_names phrases.else_part = []
phrase_names phrases.end_if = []
phrase_names (phrases.do_head d) = d.index ∷ (expr_names d.first ++ (expr_names d.last ++ maybe_names d.step))
phrase_names (phrases.while_head l e) = expr_names e
phrase_names phrases.end_do = []
phrase_names phrases.end_module = []

-- ---- their characters

abbrev one : ℕ → ℕ
one c = if nat_eq c 32 then 0 else 1

-- how many are no blanks
abbrev pub dark : List ℕ → ℕ
dark [] = 0
dark (c ∷ cs) = one c + dark cs

dark-append : (xs ys : List ℕ) → dark (xs ++ ys) ≡ dark xs + dark ys
dark-append [] ys = omega arith
dark-append (x ∷ xs) ys = let h = dark-append xs ys in omega (arith, h)

abbrev pub size : List (List ℕ) → ℕ
size [] = 0
size (x ∷ xs) = dark x + size xs

pub size-append : (xs ys : List (List ℕ)) → size (xs ++ ys) ≡ size xs + size ys
size-append [] ys = omega arith
size-append (x ∷ xs) ys = let h = size-append xs ys in omega (arith, h)

-- a text in parts
two : (a b : List ℕ) → dark (a ++ b) ≡ dark a + dark b
two a b = dark-append a b

three : (a b c : List ℕ) → dark ((a ++ b) ++ c) ≡ dark a + (dark b + dark c)
three a b c = let p = dark-append (a ++ b) c in let q = dark-append a b in omega (arith, p, q)

four : (a b c d : List ℕ) → dark (((a ++ b) ++ c) ++ d) ≡ dark a + (dark b + (dark c + dark d))
four a b c d = let p = dark-append ((a ++ b) ++ c) d in let q = three a b c in omega (arith, p, q)

mutual
  expr_short : (e : ExprTree) → size (expr_names e) ≤ dark (expr_text e)
  expr_short (tree.int n) = omega arith
  expr_short (tree.log b) = omega arith
  expr_short (tree.name x) = omega arith
  expr_short (tree.element x rest) = let h = exprs_short rest in let t = four x (codes "(") (exprs_text rest) (codes ")") in omega (arith, h, t)
  expr_short (tree.paren e) = let h = expr_short e in let t = three (codes "(") (expr_text e) (codes ")") in omega (arith, h, t)
  expr_short (tree.unary o e) = let h = expr_short e in let t = two (unary_word o) (expr_text e) in omega (arith, h, t)
  expr_short (tree.binary o a b) =
      let h = expr_short a in
      let i = expr_short b in
      let s = size-append (expr_names a) (expr_names b) in
      let t = three (expr_text a) (binary_word o) (expr_text b) in
      omega (arith, h, i, s, t)
  expr_short (tree.chars x) = omega arith

  exprs_short : (es : ExprTrees) → size (exprs_names es) ≤ dark (exprs_text es)
  exprs_short tree.no_exprs = omega arith
  exprs_short (tree.more_exprs e rest) =
      let h = expr_short e in
      let i = items_short rest in
      let s = size-append (expr_names e) (exprs_names rest) in
      let t = two (expr_text e) (items_text rest) in
      omega (arith, h, i, s, t)

  items_short : (es : ExprTrees) → size (exprs_names es) ≤ dark (items_text es)
  items_short tree.no_exprs = omega arith
  items_short (tree.more_exprs e rest) =
      let h = expr_short e in
      let i = items_short rest in
      let s = size-append (expr_names e) (exprs_names rest) in
      let t = three (codes ",") (expr_text e) (items_text rest) in
      omega (arith, h, i, s, t)

module _ {A : Type 0} (f : A → List (List ℕ)) (text : A → List ℕ) (short : (x : A) → size (f x) ≤ dark (text x)) where
  others_short : (xs : List A) → size (all_names f xs) ≤ dark (others_by text xs)
  others_short [] = omega arith
  others_short (x ∷ xs) =
      let h = short x in
      let i = others_short xs in
      let s = size-append (f x) (all_names f xs) in
      let t = three (codes ",") (text x) (others_by text xs) in
      omega (arith, h, i, s, t)

  joined_short : (xs : List A) → size (all_names f xs) ≤ dark (joined_by text xs)
  joined_short [] = omega arith
  joined_short (x ∷ xs) =
      let h = short x in
      let i = others_short xs in
      let s = size-append (f x) (all_names f xs) in
      let t = two (text x) (others_by text xs) in
      omega (arith, h, i, s, t)

actuals_short : (es : ExprTrees) → size (exprs_names es) ≤ dark (actuals_text es)
actuals_short tree.no_exprs = omega arith
actuals_short (tree.more_exprs e rest) =
    let h = exprs_short (tree.more_exprs e rest) in let t = three (codes "(") (exprs_text (tree.more_exprs e rest)) (codes ")") in omega (arith, h, t)

step_short : (e : Option ExprTree) → size (maybe_names e) ≤ dark (step_text e)
step_short None = omega arith
step_short (Some e) = let h = expr_short e in let t = two (codes ",") (expr_text e) in omega (arith, h, t)

what_short : (w : WhatTree) → size (what_names w) ≤ dark (what_text w)
what_short (tree.assign a b) =
    let h = expr_short a in
    let i = expr_short b in
    let s = size-append (expr_names a) (expr_names b) in
    let t = three (expr_text a) (codes " = ") (expr_text b) in
    omega (arith, h, i, s, t)
what_short (tree.block_if arms other) = omega arith
what_short (tree.logical_if e s) = omega arith
what_short (tree.do_loop l) = omega arith
what_short (tree.call x rest) = let h = actuals_short rest in let t = three (codes "CALL ") x (actuals_text rest) in omega (arith, h, t)
what_short (tree.goto l) = omega arith
what_short tree.continue = omega arith
what_short tree.return = omega arith
what_short (tree.stop text) = omega arith
what_short (tree.print rest) = let h = items_short rest in let t = two (codes "PRINT *") (items_text rest) in omega (arith, h, t)
what_short (tree.read rest) = let h = items_short rest in let t = two (codes "READ *") (items_text rest) in omega (arith, h, t)

low_short : (e : Option ExprTree) → size (maybe_names e) ≤ dark (low_text e)
low_short None = omega arith
low_short (Some e) = let h = expr_short e in let t = two (expr_text e) (codes ":") in omega (arith, h, t)

high_short : (e : Option ExprTree) → size (maybe_names e) ≤ dark (high_text e)
high_short None = omega arith
high_short (Some e) = expr_short e

extent_short : (x : ExtentTree) → size (extent_names x) ≤ dark (extent_text x)
extent_short x =
    let h = low_short x.low in
    let i = high_short x.high in
    let s = size-append (maybe_names x.low) (maybe_names x.high) in
    let t = two (low_text x.low) (high_text x.high) in
    omega (arith, h, i, s, t)

bounds_short : (xs : List ExtentTree) → size (all_names extent_names xs) ≤ dark (bounds_text xs)
bounds_short [] = omega arith
bounds_short (x ∷ xs) = let h = joined_short extent_names extent_text extent_short (x ∷ xs) in let t = three (codes "(") (joined_by extent_text (x ∷ xs)) (codes ")") in omega (arith, h, t)

entity_short : (e : EntityTree) → size (entity_names e) ≤ dark (entity_text e)
entity_short e = let h = bounds_short e.bounds in let t = two e.name (bounds_text e.bounds) in omega (arith, h, t)

entities_short : (es : List EntityTree) → size (all_names entity_names es) ≤ dark (joined_by entity_text es)
entities_short es = joined_short entity_names entity_text entity_short es

setting_short : (s : SettingTree) → size (setting_names s) ≤ dark (setting_text s)
setting_short s = let h = expr_short s.value in let t = three s.name (codes "=") (expr_text s.value) in omega (arith, h, t)

group_short : (g : List ExprTree) → size (group_names g) ≤ dark (group_text g)
group_short g = let h = joined_short expr_names expr_text expr_short g in let t = three (codes "(") (joined_by expr_text g) (codes ")") in omega (arith, h, t)

item_short : (i : SaveItem) → size (save_names i) ≤ dark (save_item_text i)
item_short (item.Name x) = omega arith
item_short (item.Block b) = omega arith

save_short : (is : List SaveItem) → size (all_names save_names is) ≤ dark (save_text is)
save_short [] = omega arith
save_short (i ∷ is) = let h = joined_short save_names save_item_text item_short (i ∷ is) in let t = two (codes "SAVE ") (joined_by save_item_text (i ∷ is)) in omega (arith, h, t)

common_short : (b : Bool) (c : CommonTree) → size (common_names c) ≤ dark (common_text b c)
common_short b c = let h = entities_short c.members in let t = two (block_text b c.block) (joined_by entity_text c.members) in omega (arith, h, t)

rest_short : (cs : List CommonTree) → size (all_names common_names cs) ≤ dark (other_commons_text cs)
rest_short [] = omega arith
rest_short (c ∷ cs) =
    let h = common_short false c in
    let i = rest_short cs in
    let s = size-append (common_names c) (all_names common_names cs) in
    let t = three (codes " ") (common_text false c) (other_commons_text cs) in
    omega (arith, h, i, s, t)

commons_short : (cs : List CommonTree) → size (all_names common_names cs) ≤ dark (commons_text cs)
commons_short [] = omega arith
commons_short (c ∷ cs) =
    let h = common_short true c in
    let i = rest_short cs in
    let s = size-append (common_names c) (all_names common_names cs) in
    let t = two (common_text true c) (other_commons_text cs) in
    omega (arith, h, i, s, t)

data_short : (g : DataTree) → size (data_names g) ≤ dark (data_group_text g)
data_short g =
    let h = joined_short expr_names expr_text expr_short g.targets in
    let t = four (joined_by expr_text g.targets) (codes " /") (joined_by data_value_text g.values) (codes "/") in
    omega (arith, h, t)

groups_short : (gs : List DataTree) → size (all_names data_names gs) ≤ dark (other_groups_text gs)
groups_short [] = omega arith
groups_short (g ∷ gs) =
    let h = data_short g in
    let i = groups_short gs in
    let s = size-append (data_names g) (all_names data_names gs) in
    let t = three (codes " ") (data_group_text g) (other_groups_text gs) in
    omega (arith, h, i, s, t)

all_data_short : (gs : List DataTree) → size (all_names data_names gs) ≤ dark (data_text gs)
all_data_short [] = omega arith
all_data_short (g ∷ gs) =
    let h = data_short g in
    let i = groups_short gs in
    let s = size-append (data_names g) (all_names data_names gs) in
    let t = two (data_group_text g) (other_groups_text gs) in
    omega (arith, h, i, s, t)

behind : (word text : List ℕ) (n : ℕ) → n ≤ dark text → n ≤ dark (word ++ text)
behind word text n h = let t = two word text in omega (arith, h, t)

decl_short : (d : DeclTree) → size (decl_names d) ≤ dark (decl_text d)
decl_short (decl.implicit ps) = omega arith
decl_short (decl.integer es) = behind (codes "INTEGER ") (joined_by entity_text es) (size (all_names entity_names es)) (entities_short es)
decl_short (decl.logical es) = behind (codes "LOGICAL ") (joined_by entity_text es) (size (all_names entity_names es)) (entities_short es)
decl_short (decl.dimension es) = behind (codes "DIMENSION ") (joined_by entity_text es) (size (all_names entity_names es)) (entities_short es)
decl_short (decl.parameter ss) =
    let h = joined_short setting_names setting_text setting_short ss in
    let t = three (codes "(") (joined_by setting_text ss) (codes ")") in
    behind (codes "PARAMETER ") (settings_text ss) (size (all_names setting_names ss)) (omega (arith, h, t))
decl_short (decl.common cs) = behind (codes "COMMON ") (commons_text cs) (size (all_names common_names cs)) (commons_short cs)
decl_short (decl.equivalence gs) = behind (codes "EQUIVALENCE ") (joined_by group_text gs) (size (all_names group_names gs)) (joined_short group_names group_text group_short gs)
decl_short (decl.save is) = save_short is
decl_short (decl.initial gs) = behind (codes "DATA ") (data_text gs) (size (all_names data_names gs)) (all_data_short gs)

own_names : (ds : List (List ℕ)) → size ds ≤ dark (others_by (λ n. n) ds)
own_names [] = omega arith
own_names (d ∷ ds) = let h = own_names ds in let t = three (codes ",") d (others_by (λ n. n) ds) in omega (arith, h, t)

dummies_short : (ds : List (List ℕ)) → size ds ≤ dark (dummies_text ds)
dummies_short [] = omega arith
dummies_short (d ∷ ds) =
    let h = own_names ds in
    let t = two d (others_by (λ n. n) ds) in
    let u = three (codes "(") (joined_by (λ n. n) (d ∷ ds)) (codes ")") in
    omega (arith, h, t, u)

enclosed_short : (ds : List (List ℕ)) → size ds ≤ dark (codes "(" ++ joined_by (λ d. d) ds ++ codes ")")
enclosed_short [] = omega arith
enclosed_short (d ∷ ds) = dummies_short (d ∷ ds)

phrase_short : (p : PhraseTree) → size (phrase_names p) ≤ dark (phrase_text p)
phrase_short (phrases.program n) = omega arith
phrase_short (phrases.subroutine n ds) = let h = dummies_short ds in let t = three (codes "SUBROUTINE ") n (dummies_text ds) in omega (arith, h, t)
phrase_short (phrases.function form n ds) =
    let h = enclosed_short ds in
    let s = size-append ds (n ∷ []) in
    let t = three (function_word form) n (codes "(" ++ joined_by (λ d. d) ds ++ codes ")") in
    omega (arith, h, s, t)
phrase_short (phrases.specification d) = decl_short d
phrase_short (phrases.simple w) = what_short w
phrase_short (phrases.logical_if e w) =
    let h = expr_short e in
    let i = what_short w in
    let s = size-append (expr_names e) (what_names w) in
    let t = four (codes "IF (") (expr_text e) (codes ") ") (what_text w) in
    omega (arith, h, i, s, t)
phrase_short (phrases.block_if e) = let h = expr_short e in let t = three (codes "IF (") (expr_text e) (codes ") THEN") in omega (arith, h, t)
phrase_short (phrases.else_if e) = let h = expr_short e in let t = three (codes "ELSE IF (") (expr_text e) (codes ") THEN") in omega (arith, h, t)
phrase_short phrases.else_part = omega arith
phrase_short phrases.end_if = omega arith
phrase_short (phrases.do_head d) =
    let h = expr_short d.first in
    let i = expr_short d.last in
    let j = step_short d.step in
    let s = size-append (expr_names d.first) (expr_names d.last ++ maybe_names d.step) in
    let r = size-append (expr_names d.last) (maybe_names d.step) in
    let t = four (codes "DO ") d.index (codes " = ") (expr_text d.first) in
    let u = four (codes "DO " ++ d.index ++ codes " = " ++ expr_text d.first) (codes ",") (expr_text d.last) (step_text d.step) in
    omega (arith, h, i, j, s, r, t, u)
phrase_short (phrases.while_head l e) = let h = expr_short e in let t = three (codes "DO WHILE (") (expr_text e) (codes ")") in omega (arith, h, t)
phrase_short phrases.end_do = omega arith
phrase_short phrases.end_module = omega arith

-- ---- what was read

stripped_keeps : (inside : Bool) (text : List ℕ) → dark text ≤ length (stripped inside text)
stripped_keeps inside [] = omega arith
stripped_keeps inside (c ∷ cs) = go (nat_eq c 39) (nat_eq c 32) refl inside (stripped_keeps (not inside) cs) (stripped_keeps inside cs)
  where
    most : one c ≤ 1
    most = at_most (nat_eq c 32)
      where
        at_most : (b : Bool) → (if b then 0 else 1) ≤ 1
        at_most true = omega arith
        at_most false = omega arith

    go : (q b : Bool) → nat_eq c 32 ≡ b → (i : Bool) → dark cs ≤ length (stripped (not inside) cs) → dark cs ≤ length (stripped inside cs)
        → one c + dark cs ≤ length (if q then c ∷ stripped (not inside) cs else (if b then (if i then c ∷ stripped inside cs else stripped inside cs) else c ∷ stripped inside cs))
    go true b e i h k = let m = most in omega (arith, h, m)
    go false true e true h k = let m = most in omega (arith, k, m)
    go false true e false h k = let m : one c ≡ 0 = ap (λ t. if t then 0 else 1) e in omega (arith, k, m)
    go false false e i h k = let m = most in omega (arith, k, m)

-- of a statement that is read
pub names_short : (body : List ℕ) (p : PhraseTree) → phrase_of body ≡ Ok p → size (phrase_names p) ≤ length body
names_short body p e = let a = phrase_short p in let b = statements_fit.shorter body p e in let c = stripped_keeps false (phrase_text p) in omega (arith, a, b, c)
