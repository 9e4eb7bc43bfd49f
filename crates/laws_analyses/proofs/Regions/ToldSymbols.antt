-- The names of symbols are those of the table of names, and have no `:`.
use Rattle.std.proofs.Common.{◌≡◌, ℕ, zero, suc, ◌+◌, ◌-◌, false, List, [], ◌∷◌, Some, Ok, subst}
use Rattle.std.specs.Prelude.{slice_get}
use Rattle.f77_ast.specs.DeclTrees.{ParsedTree}
use Rattle.f77_ast.specs.Symbols.{SymbolTree}
use Rattle.f77_ast.specs.Shared.{symbol_at}
use Rattle.f77_names.specs.Entries.{EntryTree}
use Rattle.storage_layout.specs.Table.{Layout, symbol_of, symbols_from}
use Rattle.storage_layout.specs.Symbols.{symbols_of}
use Rattle.laws_programs.specs.roundtrip_programs.ModuleTexts.Cards.{statements_of}
use Rattle.laws_programs.specs.roundtrip_programs.ModuleTexts.Numbered.{IsWell}
use Rattle.laws_programs.proofs.SymbolTables.Answers.{answered_by, lines_in, names_in, layout_in}
use Rattle.laws_analyses.proofs.Calls.TableLaws.{numbered_at}
use Rattle.laws_analyses.specs.Regions.Settings.{has_colon}
use Rattle.laws_analyses.proofs.Regions.ToldNames.{IsTold, name_told}
use Rattle.laws_programs.proofs.RoundtripPrograms.Named.{AreNamed}
use Rattle.laws_programs.proofs.RoundtripPrograms.Listed.{valued_named}
use Rattle.laws_programs.proofs.RoundtripPrograms.Body.{AreCards, table_named}

-- ---- symbols

abbrev AreSymbolsTold : List SymbolTree → Type 0
AreSymbolsTold ss = (i : ℕ) (s : SymbolTree) → slice_get ss i ≡ Some s → IsTold s.name

symbols_told : (l : Layout) (n : ℕ) (es : List EntryTree) → AreNamed IsTold es → AreSymbolsTold (symbols_from l n es)
symbols_told l n [] h i s e = cc
symbols_told l n (d ∷ es) h zero s e = (let same : symbol_of l n d ≡ s = cc in subst (λ (z : SymbolTree). IsTold z.name) same h.first)
symbols_told l n (d ∷ es) h (suc i) s e = symbols_told l (n + 1) es h.others i s e

-- so have those of its symbols
pub names_told : (p : ParsedTree) (ss : List SymbolTree) → IsWell p.module_read → AreCards (statements_of p.module_read) → symbols_of p ≡ Ok ss → (n : ℕ) (s : SymbolTree) → symbol_at ss n ≡ Some s → has_colon s.name ≡ false
names_told p ss w f laid n s e =
    let a = answered_by p ss laid in
    let all = valued_named IsTold name_told (lines_in p) p.module_read (table_named IsTold name_told (lines_in p) p.module_read w f) in
    symbols_told (layout_in p) 0 (names_in p).entries all (n - 1) s (subst (λ (z : List SymbolTree). slice_get z (n - 1) ≡ Some s) a.table (numbered_at ss n s e).0)
