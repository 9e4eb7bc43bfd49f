-- The names of the tables of modules that are read are names of at most 31 characters, since those of their statements are, as the grammar gives them.
use Rattle.std.proofs.Common.{◌≡◌, ℕ, Bool, true, false, List, [], ◌∷◌, ◌++◌, Ok, refl, sym, ◌∙◌}
use Rattle.std.specs.Prelude.{Option, Some, None, if◌then◌else◌, ◌||◌, nat_eq, nat_le, length}
use Rattle.std.specs.List.{list_all}
use Rattle.std.proofs.lemmas.Bool.{and_from, and_parts, le-leb}
use Rattle.std.specs.Char.{is_ascii_digit, is_ascii_uppercase}
use Rattle.f77_ast.specs.declared.decl.SaveItem.{SaveItem}
use Rattle.f77_ast.specs.declared.decl.SaveItem.TheVariants as item
use Rattle.f77_ast.specs.Trees.{ExprTree, ExprTrees, WhatTree}
use Rattle.f77_ast.specs.Trees as tree
use Rattle.f77_ast.specs.DeclTrees.{ExtentTree, EntityTree, CommonTree, DataTree, DeclTree, ParsedTree}
use Rattle.f77_ast.specs.DeclTrees as decl
use Rattle.f77_exprs.specs.Lexical.{skip_name}
use Rattle.f77_exprs.specs.Lexical as lexical
use Rattle.f77_statements.specs.Phrases.{PhraseTree}
use Rattle.f77_statements.specs.Phrases as phrases
use Rattle.f77_ast.specs.Symbols.{SymbolTree}
use Rattle.f77_meaning.specs.Modules.{symbol_names}
use Rattle.storage_layout.specs.Symbols.{symbols_of}
use Rattle.laws_programs.specs.roundtrip_programs.Statements.Formed.{IsName, Each, Filled, IsVariable, Rank, Formed, number, logical, constant, scalar, indexed, enclosed, operand, raised, factor, multiplied, term, signed, added, arithmetic, compared, asserted, denied, conjunct, both, disjunct, either, side, equated, none, more}
use Rattle.laws_programs.specs.roundtrip_programs.Statements.Formed as formed
use Rattle.laws_programs.specs.roundtrip_programs.Statements.Declared.{MaybeExpression, IsExtent, IsEntity, IsArray, IsSetting, IsCommon, IsGroup, IsSaved, IsInitial, AreTyped, IsDecl}
use Rattle.laws_programs.specs.roundtrip_programs.Statements.Phrased.{AllVariables, IsRight, IsWhat, IsPhrase}
use Rattle.laws_programs.specs.roundtrip_programs.Statements.Phrased as phrased
use Rattle.laws_programs.specs.roundtrip_programs.ModuleTexts.Cards.{statements_of}
use Rattle.laws_programs.proofs.RoundtripPrograms.ModuleTexts.Kept.{Held, Each-append, each-map}
use Rattle.base_json.specs.Scopes.{in_name, is_name, is_short_name}
use Rattle.laws_programs.proofs.Sources.{IsBuilt}
use Rattle.laws_stored.proofs.NamesIn.{expr_names, exprs_names, maybe_names, all_names, what_names, extent_names, entity_names, setting_names, common_names, group_names, data_names, save_names, decl_names, phrase_names}
use Rattle.laws_stored.proofs.KnownNames.{IsNaming, symbols_in}
use Rattle.laws_programs.proofs.RoundtripPrograms.Statements.DeclBack.{each_of as each_filled, typed as typed_each}
use Rattle.laws_programs.proofs.RoundtripPrograms.Named.{group_each}
use Rattle.laws_lines.proofs.NameWords.{arrays_each}
use Rattle.fx_lists.proofs.Booleans.{or_turned}
use Rattle.laws_programs.proofs.RoundtripPrograms.ModuleTexts.Cards.{Any as AnyLabel}

-- ---- words

abbrev pub IsWord : List ℕ → Type 0
IsWord x = is_short_name x ≡ true

all_in : (x : List ℕ) → skip_name x ≡ [] → list_all in_name x ≡ true
all_in [] e = refl
all_in (c ∷ cs) e = go (lexical.in_name c) refl e (all_in cs)
  where
    go : (b : Bool) → lexical.in_name c ≡ b → (if b then skip_name cs else c ∷ cs) ≡ [] → (skip_name cs ≡ [] → list_all in_name cs ≡ true) → list_all in_name (c ∷ cs) ≡ true
    go true i g ih = and_from (in_name c) (list_all in_name cs) (sym (or_turned (is_ascii_uppercase c) (is_ascii_digit c) (nat_eq c 95)) ∙ i) (ih g)
    go false i g ih = cc

full_word : (x : List ℕ) → IsName x → is_name x ≡ true
full_word [] n = n.letter
full_word (c ∷ cs) n = and_from (is_ascii_uppercase c) (list_all in_name cs) n.letter (and_parts (in_name c) (list_all in_name cs) (all_in (c ∷ cs) n.whole)).1

-- a name as the grammar gives it
pub word : (x : List ℕ) → IsName x → IsWord x
word x n = and_from (is_name x) (nat_le (length x) 31) (full_word x n) (le-leb (length x) 31 n.short)

-- ---- what the grammar gives

-- ---- expressions

abbrev Words : List (List ℕ) → Type 0
Words xs = Each IsWord xs

join : (xs ys : List (List ℕ)) → Words xs → Words ys → Words (xs ++ ys)
join xs ys h k = Each-append IsWord xs ys h k

mutual
  expr_words : {r : Rank} {e : ExprTree} → Formed r e → Words (expr_names e)
  expr_words (number n h) = tt
  expr_words (logical b) = tt
  expr_words (constant c) = tt
  expr_words (scalar n h) = record { first = word n h; others = tt }
  expr_words (indexed n e rest h f g) = record { first = word n h; others = join (expr_names e) (exprs_names rest) (expr_words f) (exprs_words g) }
  expr_words (enclosed e f) = expr_words f
  expr_words (operand e f) = expr_words f
  expr_words (raised a b f g) = join (expr_names a) (expr_names b) (expr_words f) (expr_words g)
  expr_words (factor e f) = expr_words f
  expr_words (multiplied op a b h f g) = join (expr_names a) (expr_names b) (expr_words f) (expr_words g)
  expr_words (term e f) = expr_words f
  expr_words (signed op e h f) = expr_words f
  expr_words (added op a b h f g) = join (expr_names a) (expr_names b) (expr_words f) (expr_words g)
  expr_words (arithmetic e f) = expr_words f
  expr_words (compared op a b h f g) = join (expr_names a) (expr_names b) (expr_words f) (expr_words g)
  expr_words (asserted e f) = expr_words f
  expr_words (denied e f) = expr_words f
  expr_words (conjunct e f) = expr_words f
  expr_words (both a b f g) = join (expr_names a) (expr_names b) (expr_words f) (expr_words g)
  expr_words (disjunct e f) = expr_words f
  expr_words (either a b f g) = join (expr_names a) (expr_names b) (expr_words f) (expr_words g)
  expr_words (side e f) = expr_words f
  expr_words (equated op a b h f g) = join (expr_names a) (expr_names b) (expr_words f) (expr_words g)

  exprs_words : {xs : ExprTrees} → formed.AllFormed xs → Words (exprs_names xs)
  exprs_words none = tt
  exprs_words (more e rest f g) = join (expr_names e) (exprs_names rest) (expr_words f) (exprs_words g)

maybe_words : (e : Option ExprTree) → MaybeExpression e → Words (maybe_names e)
maybe_words None h = tt
maybe_words (Some e) h = expr_words h

variable_words : (v : ExprTree) → IsVariable v → Words (expr_names v)
variable_words (tree.name x) h = record { first = word x h; others = tt }
variable_words (tree.element x (tree.more_exprs e rest)) h = record { first = word x h.name; others = join (expr_names e) (exprs_names rest) (expr_words h.first) (exprs_words h.others) }
variable_words (tree.element x tree.no_exprs) h = absurd h
variable_words (tree.int n) h = absurd h
variable_words (tree.log b) h = absurd h
variable_words (tree.paren e) h = absurd h
variable_words (tree.unary o e) h = absurd h
variable_words (tree.binary o a b) h = absurd h
variable_words (tree.chars x) h = absurd h

variables_words : (xs : ExprTrees) → AllVariables xs → Words (exprs_names xs)
variables_words tree.no_exprs h = tt
variables_words (tree.more_exprs v rest) h = join (expr_names v) (exprs_names rest) (variable_words v h.first) (variables_words rest h.others)

-- ---- statements

right_words : {e : ExprTree} → IsRight e → Words (expr_names e)
right_words (phrased.value e f) = expr_words f
right_words (phrased.empty_call x h) = record { first = word x h; others = tt }

what_words : (w : WhatTree) → IsWhat w → Words (what_names w)
what_words (tree.assign a b) h = join (expr_names a) (expr_names b) (variable_words a h.left) (right_words h.right)
what_words (tree.block_if arms other) h = absurd h
what_words (tree.logical_if e s) h = absurd h
what_words (tree.do_loop l) h = absurd h
what_words (tree.call x rest) h = exprs_words h.actuals
what_words (tree.goto l) h = tt
what_words tree.continue h = tt
what_words tree.return h = tt
what_words (tree.stop text) h = tt
what_words (tree.print rest) h = exprs_words h
what_words (tree.read rest) h = variables_words rest h

module _ {A : Type 0} (P : A → Type 0) (f : A → List (List ℕ)) (words : (x : A) → P x → Words (f x)) where
  all_words : (xs : List A) → Each P xs → Words (all_names f xs)
  all_words [] h = tt
  all_words (x ∷ xs) h = join (f x) (all_names f xs) (words x h.first) (all_words xs h.others)

extent_words : (x : ExtentTree) → IsExtent x → Words (extent_names x)
extent_words x h = join (maybe_names x.low) (maybe_names x.high) (maybe_words x.low h.low) (maybe_words x.high h.high)

entity_words : (e : EntityTree) → IsEntity e → Words (entity_names e)
entity_words e h = record { first = word e.name h.name; others = all_words IsExtent extent_names extent_words e.bounds h.bounds }

entities_words : (es : List EntityTree) → Each IsEntity es → Words (all_names entity_names es)
entities_words es h = all_words IsEntity entity_names entity_words es h

common_words : (c : CommonTree) → IsCommon c → Words (common_names c)
common_words c h = entities_words c.members (each_filled IsEntity c.members h.members)

variables_of : (vs : List ExprTree) → Each IsVariable vs → Words (all_names expr_names vs)
variables_of vs h = all_words IsVariable expr_names variable_words vs h

save_words : (i : SaveItem) → IsSaved i → Words (save_names i)
save_words (item.Name x) h = record { first = word x h; others = tt }
save_words (item.Block b) h = tt

decl_words : (d : DeclTree) → IsDecl d → Words (decl_names d)
decl_words (decl.implicit ps) h = tt
decl_words (decl.integer es) h = entities_words es (typed_each es h)
decl_words (decl.logical es) h = entities_words es (typed_each es h)
decl_words (decl.dimension es) h = entities_words es (arrays_each es h)
decl_words (decl.parameter ss) h = all_words IsSetting setting_names (λ s i. record { first = word s.name i.name; others = expr_words i.value }) ss (each_filled IsSetting ss h)
decl_words (decl.common cs) h = all_words IsCommon common_names common_words cs (each_filled IsCommon cs h)
decl_words (decl.equivalence gs) h = all_words IsGroup group_names (λ g i. variables_of g (group_each g i)) gs (each_filled IsGroup gs h)
decl_words (decl.save is) h = all_words IsSaved save_names save_words is h
decl_words (decl.initial gs) h = all_words IsInitial data_names (λ g i. variables_of g.targets (each_filled IsVariable g.targets i.targets)) gs (each_filled IsInitial gs h)

phrase_words : (p : PhraseTree) → IsPhrase p → Words (phrase_names p)
phrase_words (phrases.program n) h = tt
phrase_words (phrases.subroutine n ds) h = each-map IsName IsWord ds word h.dummies
phrase_words (phrases.function form n ds) h = join ds (n ∷ []) (each-map IsName IsWord ds word h.dummies) (record { first = word n h.name; others = tt })
phrase_words (phrases.specification d) h = decl_words d h
phrase_words (phrases.simple w) h = what_words w h
phrase_words (phrases.logical_if e w) h = join (expr_names e) (what_names w) (expr_words h.test) (what_words w h.inner)
phrase_words (phrases.block_if e) h = expr_words h
phrase_words (phrases.else_if e) h = expr_words h
phrase_words phrases.else_part h = tt
phrase_words phrases.end_if h = tt
phrase_words (phrases.do_head d) h = record {
  first = word d.index h.index;
  others = join (expr_names d.first) (expr_names d.last ++ maybe_names d.step) (expr_words h.first) (join (expr_names d.last) (maybe_names d.step) (expr_words h.last) (maybe_words d.step h.step));
}
phrase_words (phrases.while_head l e) h = expr_words h
phrase_words phrases.end_do h = tt
phrase_words phrases.end_module h = tt

-- ---- their tables

pub symbols_words : (p : ParsedTree) (ss : List SymbolTree) → IsBuilt p → symbols_of p ≡ Ok ss → Each IsWord (symbol_names ss)
symbols_words p ss b e = symbols_in IsWord p ss b (each-map (Held AnyLabel IsPhrase) (Held AnyLabel (IsNaming IsWord)) (statements_of p.module_read) (λ c h. (h.0, (h.1, phrase_words c.phrase h.1))) b.formed) e
