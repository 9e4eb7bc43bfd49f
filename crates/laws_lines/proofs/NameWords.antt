-- The names of the tables of modules that are read are words, since those of their statements are, as the grammar gives them.
use Rattle.std.proofs.Common.{◌≡◌, ℕ, Bool, true, false, List, [], ◌∷◌, Ok, refl, sym, ◌∙◌, subst}
use Rattle.std.specs.Prelude.{if◌then◌else◌, nat_eq}
use Rattle.std.specs.List.{list_all}
use Rattle.std.proofs.lemmas.Bool.{and_from, and_parts}
use Rattle.std.specs.Char.{is_ascii_digit, is_ascii_uppercase}
use Rattle.f77_ast.specs.DeclTrees.{EntityTree, ParsedTree}
use Rattle.f77_exprs.specs.Lexical.{skip_name}
use Rattle.f77_exprs.specs.Lexical as lexical
use Rattle.f77_ast.specs.Symbols.{SymbolTree}
use Rattle.f77_names.specs.Entries.{EntryTree, entry_names}
use Rattle.f77_names.specs.Tables.{table_of}
use Rattle.f77_meaning.specs.Modules.{symbol_names}
use Rattle.storage_layout.specs.Symbols.{symbols_of}
use Rattle.laws_programs.specs.roundtrip_programs.Statements.Formed.{IsName, Each, Filled}
use Rattle.laws_programs.specs.roundtrip_programs.Statements.Declared.{IsExtent, IsEntity, IsArray}
use Rattle.laws_programs.specs.roundtrip_programs.Statements.Phrased.{IsPhrase}
use Rattle.laws_programs.specs.roundtrip_programs.ModuleTexts.Cards.{Card, statements_of}
use Rattle.laws_programs.proofs.RoundtripPrograms.ModuleTexts.Each.{each-map}
use Rattle.laws_programs.proofs.RoundtripPrograms.ModuleTexts.Kept.{Held}
use Rattle.laws_programs.proofs.RoundtripPrograms.ModuleTexts.Cards.{Any as AnyLabel}
use Rattle.laws_programs.proofs.RoundtripPrograms.Body.{AreCards, table_named}
use Rattle.laws_programs.proofs.RoundtripPrograms.Named.{AreNamed}
use Rattle.laws_programs.proofs.RoundtripPrograms.Statements.DeclBack.{each_of as each_filled}
use Rattle.system_text.specs.Printed.{in_name, is_name}
use Rattle.laws_programs.proofs.SymbolTables.Answers.{lines_in}
use Rattle.laws_programs.specs.Programs.{AreTables}
use Rattle.laws_programs.proofs.Sources.{IsBuilt, all_built}
use Rattle.laws_lines.specs.NameLaws.{AreWords, NamesAreWords}
use Rattle.laws_lines.proofs.SymbolNames.{names_of_symbols}
use Rattle.laws_lines.proofs.PhaseVars.{each_all}
use Rattle.fx_lists.proofs.Booleans.{or_turned}
use Rattle.fx_lists.proofs.Every.{Every}

-- ---- words

abbrev IsWord : List ℕ → Type 0
IsWord x = is_name x ≡ true

all_in : (x : List ℕ) → skip_name x ≡ [] → list_all in_name x ≡ true
all_in [] e = refl
all_in (c ∷ cs) e = go (lexical.in_name c) refl e (all_in cs)
  where
    go : (b : Bool) → lexical.in_name c ≡ b → (if b then skip_name cs else c ∷ cs) ≡ [] → (skip_name cs ≡ [] → list_all in_name cs ≡ true) → list_all in_name (c ∷ cs) ≡ true
    go true i g ih = and_from (in_name c) (list_all in_name cs) (sym (or_turned (is_ascii_uppercase c) (is_ascii_digit c) (nat_eq c 95)) ∙ i) (ih g)
    go false i g ih = cc

-- a name as the grammar gives it
word : (x : List ℕ) → IsName x → IsWord x
word [] n = n.letter
word (c ∷ cs) n = and_from (is_ascii_uppercase c) (list_all in_name cs) n.letter (and_parts (in_name c) (list_all in_name cs) (all_in (c ∷ cs) n.whole)).1

are_words : (xs : List (List ℕ)) → Each IsWord xs → list_all is_name xs ≡ true
are_words [] h = refl
are_words (x ∷ xs) h = and_from (is_name x) (list_all is_name xs) h.first (are_words xs h.others)

-- ---- what the grammar gives

pub arrays_each : (es : List EntityTree) → Filled IsArray es → Each IsEntity es
arrays_each es h = each-map IsArray IsEntity es (λ e a. record { name = a.name; bounds = each_filled IsExtent e.bounds a.bounds }) (each_filled IsArray es h)

-- ---- tables

entries_words : (es : List EntryTree) → AreNamed IsWord es → Each IsWord (entry_names es)
entries_words [] h = tt
entries_words (e ∷ es) h = record { first = h.first; others = entries_words es h.others }

phrases_formed : (cs : List Card) → Each (Held AnyLabel IsPhrase) cs → AreCards cs
phrases_formed cs h = each-map (Held AnyLabel IsPhrase) (λ (c : Card). IsPhrase c.phrase) cs (λ c k. k.1) h

table_words : (p : ParsedTree) → IsBuilt p → Each IsWord (entry_names (table_of (lines_in p) p.module_read).entries)
table_words p b =
    entries_words (table_of (lines_in p) p.module_read).entries
    (table_named IsWord word (lines_in p) p.module_read b.well (phrases_formed (statements_of p.module_read) b.formed))

symbols_words : (p : ParsedTree) (ss : List SymbolTree) → IsBuilt p → symbols_of p ≡ Ok ss → AreWords ss
symbols_words p ss b e = are_words (symbol_names ss) (subst (Each IsWord) (sym (names_of_symbols p ss e)) (table_words p b))

tables_words : (ps : List ParsedTree) (sss : List (List SymbolTree)) → Each IsBuilt ps → AreTables ps sss → Every AreWords sss
tables_words [] [] b t = tt
tables_words [] (ss ∷ sss) b t = absurd t
tables_words (p ∷ ps) [] b t = absurd t
tables_words (p ∷ ps) (ss ∷ sss) b t = (symbols_words p ss b.first t.0, tables_words ps sss b.others t.1)

pub names_are_words : NamesAreWords
names_are_words lines ps sss h t = each_all AreWords AreWords (λ ss a. a) sss (tables_words ps sss (all_built lines ps h) t)
