-- The names of modules, of their symbols and of their blocks are words, and of printable ASCII.
use Rattle.std.proofs.Common.{◌≡◌, ℕ, zero, suc, ◌+◌, Bool, true, false, List, [], ◌∷◌, ◌++◌, map, Option, None, Ok, Some, arith, refl, sym, ◌∙◌, subst, nat_eq}
use Rattle.std.specs.Prelude.{All as Every, if◌then◌else◌, ◌||◌, not, bytes_eq, slice_get, flat_map, codes}
use Rattle.std.specs.Char.{is_ascii_digit, is_ascii_uppercase}
use Rattle.std.specs.List.{AllByRecursion, list_all}
use Rattle.std.proofs.lemmas.Bool.{and_from, and_parts, or_left}
use Rattle.std.proofs.lemmas.Slice.Eq.{bytes_eq-Decides}
use Rattle.f77_ast.specs.declared.module.FunctionForm.{FunctionForm}
use Rattle.f77_ast.specs.declared.places.Part.TheVariants as parts
use Rattle.f77_ast.specs.DeclTrees.{CommonTree, ParsedTree}
use Rattle.f77_exprs.specs.Lexical.{skip_name}
use Rattle.f77_exprs.specs.Lexical as lexical
use Rattle.f77_statements.specs.Phrases.{program}
use Rattle.f77_ast.specs.declared.symbol.Place.{Place}
use Rattle.f77_ast.specs.declared.symbol.Place.TheVariants.{Local, Dummy, Block, Constant}
use Rattle.f77_ast.specs.Symbols.{SymbolTree}
use Rattle.f77_meaning.specs.Modules.{known_of, symbol_names}
use Rattle.storage_layout.specs.Statements.{Has, commons, members_in}
use Rattle.storage_layout.specs.Symbols.{symbols_of}
use Rattle.laws_programs.specs.roundtrip_programs.Statements.Formed.{IsName, Each}
use Rattle.laws_programs.specs.roundtrip_programs.Statements.Phrased.{IsPhrase}
use Rattle.laws_programs.specs.roundtrip_programs.Statements.Declared.{IsBlock, IsCommon}
use Rattle.laws_programs.specs.roundtrip_programs.ModuleTexts.Cards.{Card, card, head_phrase, title_cards, decl_cards, statements_of}
use Rattle.laws_programs.specs.roundtrip_programs.ModuleTexts.Numbered.{TitleFits, IsWell}
use Rattle.laws_programs.proofs.RoundtripPrograms.ModuleTexts.Each.{each-map}
use Rattle.laws_programs.proofs.RoundtripPrograms.ModuleTexts.Kept.{Held}
use Rattle.laws_programs.specs.roundtrip_programs.Lines.{IsShown, AreShown}
use Rattle.laws_programs.specs.roundtrip_programs.Programs.{IsFormed, NamesAreShown}
use Rattle.laws_programs.proofs.RoundtripPrograms.Names.{name_shown}
use Rattle.laws_programs.proofs.RoundtripPrograms.Body.{AreCards, left_of, right_of}
use Rattle.system_text.specs.Printed.{in_name, is_name}
use Rattle.laws_lines.specs.RegionTexts.Printed.{IsPlain}
use Rattle.laws_programs.specs.Layout.Laws.{BlocksHaveAChain}
use Rattle.laws_lines.specs.NameLaws.{AreWords}
use Rattle.laws_programs.specs.Programs.{AreTables}
use Rattle.laws_programs.proofs.Sources.{IsBuilt}
use Rattle.laws_lines.specs.Regions.Names.{PlaceNamed, SymbolNamed, AreNamed}
use Rattle.pipsmake_base.proofs.LawsStored.TableNames.{heads, commons_formed}
use Rattle.fx_lists.proofs.Booleans.{or_turned}
use Rattle.laws_programs.proofs.RoundtripPrograms.ModuleTexts.Cards.{Any as AnyLabel}

pub formed : (m : ParsedTree) → IsBuilt m → IsFormed m
formed m b = each-map (Held AnyLabel IsPhrase) (λ (c : Card). IsPhrase c.phrase) (statements_of m.module_read) (λ c h. h.1) b.formed

-- ---- of each name that the grammar gives

module _ (Name : List ℕ → Type 0) (named : (x : List ℕ) → IsName x → Name x) (blank : Name []) (unnamed : Name (codes "MAIN")) where
  head_named : (function : Option FunctionForm) (name : List ℕ) (dummies : List (List ℕ)) → IsPhrase (head_phrase function name dummies) → Name name
  head_named None name dummies k = named name k.name
  head_named (Some form) name dummies k = named name k.name

  titled_named : (main titled : Bool) (function : Option FunctionForm) (name : List ℕ) (dummies : List (List ℕ)) → TitleFits main titled name dummies
      → AreCards (if titled || not main then card parts.Title None (if main then program name else head_phrase function name dummies) ∷ [] else []) → Name name
  titled_named true true function name dummies f k = named name k.first
  titled_named true false function name dummies f k = subst Name (sym f.unnamed) unnamed
  titled_named false true function name dummies f k = cc
  titled_named false false function name dummies f k = head_named function name dummies k.first

  title_named : (p : ParsedTree) → IsWell p.module_read → IsFormed p → Name p.module_read.name
  title_named p w f =
      let m = p.module_read in
      titled_named m.main m.titled m.function m.name m.dummies w.title (left_of (title_cards m) (decl_cards 0 m.decls) (heads m f))

  -- ---- blocks

  block_named : (b : List ℕ) → IsBlock b → Name b
  block_named [] h = blank
  block_named (c ∷ cs) h = named (c ∷ cs) h

  -- a block with a member is named by a COMMON
  with_member : (b : List ℕ) (cs : List CommonTree) (x : List ℕ) → Each IsCommon cs → Has (flat_map (members_in b) cs) x → Name b
  with_member b [] x h e = let none = e.1 in cc
  with_member b (c ∷ cs) x h e = go (bytes_eq b c.block) refl e (with_member b cs x h.others)
    where
      go : (t : Bool) → bytes_eq b c.block ≡ t → Has ((if t then map (λ e. e.name) c.members else []) ++ flat_map (members_in b) cs) x → (Has (flat_map (members_in b) cs) x → Name b) → Name b
      go true q g ih = subst Name (sym ((bytes_eq-Decides b c.block).0 q)) (block_named c.block h.first.block)
      go false q g ih = ih g

  symbols_named : (ss : List SymbolTree) → Each Name (symbol_names ss) → ((i : ℕ) (s : SymbolTree) → slice_get ss i ≡ Some s → PlaceNamed Name s.place) → AllByRecursion (SymbolNamed Name) ss
  symbols_named [] n h = tt
  symbols_named (s ∷ ss) n h = ((n.first, h zero s refl), symbols_named ss n.others (λ i t e. h (suc i) t e))

  table_named : BlocksHaveAChain → (p : ParsedTree) (ss : List SymbolTree) → IsFormed p → symbols_of p ≡ Ok ss → Each Name (symbol_names ss) → AllByRecursion (SymbolNamed Name) ss
  table_named law p ss f is n = symbols_named ss n (λ i s e. at i s e s.place refl)
    where
      all : Each IsCommon (commons p.module_read.decls)
      all = commons_formed 0 p.module_read.decls (right_of (title_cards p.module_read) (decl_cards 0 p.module_read.decls) (heads p.module_read f))

      at : (i : ℕ) (s : SymbolTree) → slice_get ss i ≡ Some s → (q : Place) → s.place ≡ q → PlaceNamed Name q
      at i s e (Local g o) h = tt
      at i s e (Dummy n) h = tt
      at i s e (Block b o) h = let c = law p ss is i o s b e h in with_member b (commons p.module_read.decls) c.0 all c.1
      at i s e (Constant v) h = tt

  -- of the modules of a program, whose symbols have such names
  modules_named : BlocksHaveAChain → (ms : List ParsedTree) (ts : List (List SymbolTree)) → Each IsBuilt ms → AreTables ms ts → AllByRecursion (λ (ss : List SymbolTree). Each Name (symbol_names ss)) ts → AreNamed Name (known_of ms ts)
  modules_named law [] ts b h n = tt
  modules_named law (m ∷ ms) [] b h n = tt
  modules_named law (m ∷ ms) (t ∷ ts) b h n =
      let f = formed m b.first in
      ((title_named m b.first.well f, table_named law m t f h.0 n.0), modules_named law ms ts b.others h.1 n.1)

-- ---- words, and printable ASCII

each_shown : (xs : List (List ℕ)) → AreShown xs → Each IsShown xs
each_shown [] h = tt
each_shown (x ∷ xs) h = record { first = h.first; others = each_shown xs h.others }

tables_shown : NamesAreShown → (ms : List ParsedTree) (ts : List (List SymbolTree)) → Each IsBuilt ms → AreTables ms ts → AllByRecursion (λ (ss : List SymbolTree). Each IsShown (symbol_names ss)) ts
tables_shown law [] [] b h = tt
tables_shown law [] (t ∷ ts) b h = absurd h
tables_shown law (m ∷ ms) [] b h = tt
tables_shown law (m ∷ ms) (t ∷ ts) b h = (each_shown (symbol_names t) (law m t b.first.well (formed m b.first) h.0), tables_shown law ms ts b.others h.1)

pub modules_shown : NamesAreShown → BlocksHaveAChain → (ms : List ParsedTree) (ts : List (List SymbolTree)) → Each IsBuilt ms → AreTables ms ts → AreNamed IsShown (known_of ms ts)
modules_shown names law ms ts b h = modules_named IsShown name_shown refl refl law ms ts b h (tables_shown names ms ts b h)

all_in : (x : List ℕ) → skip_name x ≡ [] → IsPlain x
all_in [] e = refl
all_in (c ∷ cs) e = go (lexical.in_name c) refl e (all_in cs)
  where
    go : (b : Bool) → lexical.in_name c ≡ b → (if b then skip_name cs else c ∷ cs) ≡ [] → (skip_name cs ≡ [] → IsPlain cs) → IsPlain (c ∷ cs)
    go true i g ih = and_from (in_name c) (list_all in_name cs) (sym (or_turned (is_ascii_uppercase c) (is_ascii_digit c) (nat_eq c 95)) ∙ i) (ih g)
    go false i g ih = cc

letter_in : (c : ℕ) → is_ascii_uppercase c ≡ true → in_name c ≡ true
letter_in c h = or_left (is_ascii_uppercase c) (is_ascii_digit c || nat_eq c 95) h

word_plain : (x : List ℕ) → is_name x ≡ true → IsPlain x
word_plain [] h = refl
word_plain (c ∷ cs) h = let p = and_parts (is_ascii_uppercase c) (list_all in_name cs) h in and_from (in_name c) (list_all in_name cs) (letter_in c p.0) p.1

words_plain : (xs : List (List ℕ)) → list_all is_name xs ≡ true → Each IsPlain xs
words_plain [] h = tt
words_plain (x ∷ xs) h = let p = and_parts (is_name x) (list_all is_name xs) h in record { first = word_plain x p.0; others = words_plain xs p.1 }

tables_plain : (ts : List (List SymbolTree)) → Every AreWords ts → AllByRecursion (λ (ss : List SymbolTree). Each IsPlain (symbol_names ss)) ts
tables_plain [] h = tt
tables_plain (t ∷ ts) h = (words_plain (symbol_names t) (h zero t (omega arith)), tables_plain ts (λ k d l. h (suc k) d (omega (arith, l))))

pub modules_plain : BlocksHaveAChain → (ms : List ParsedTree) (ts : List (List SymbolTree)) → Each IsBuilt ms → AreTables ms ts → Every AreWords ts → AreNamed IsPlain (known_of ms ts)
modules_plain law ms ts b h words = modules_named IsPlain (λ x n. all_in x n.whole) refl refl law ms ts b h (tables_plain ts words)
