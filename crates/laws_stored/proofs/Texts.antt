-- Texts that are modules are read as modules that are built, and that have tables.
use Rattle.std.proofs.Common.{◌≡◌, ℕ, List, [], ◌∷◌, ◌++◌, map, refl, sym, ap, subst}
use Rattle.std.specs.Prelude.{Some, option_to_list, Result, Ok, Err}
use Rattle.fixed_form.specs.declared.line.Lines.{Lines}
use Rattle.fixed_form.specs.Reading.{reading}
use Rattle.f77_ast.specs.DeclTrees.{ParsedTree}
use Rattle.f77_parser.specs.Gives.{Refused, and_then}
use Rattle.f77_parser.specs.Modules.{parse_of}
use Rattle.f77_ast.specs.Symbols.{SymbolTree}
use Rattle.fx_lists.specs.declared.refusal.Refusal.{Refusal}
use Rattle.storage_layout.specs.Symbols.{symbols_of}
use Rattle.laws_programs.specs.roundtrip_programs.Statements.Formed.{Each as All}
use Rattle.laws_programs.specs.Programs.{AreTables}
use Rattle.laws_programs.proofs.Sources.{IsBuilt, all_built}
use Rattle.session_texts.specs.pipsmake_meaning.Texts.{ModuleText, ReadModule, module_read, lines_or, with_table, one_module, AreModules, modules_in, trees_in, tables_in}

-- ---- one text

pub record IsReadAs (text : List ℕ) (m : ReadModule) : Type 0 where
  pub lines : Lines
  pub lined : reading text ≡ Ok lines
  pub parsed : parse_of lines ≡ Ok (m.module_is ∷ [])
  pub built : IsBuilt m.module_is
  pub tabled : symbols_of m.module_is ≡ Ok m.table

module _ (text : List ℕ) where
  abbrev read_module : ParsedTree → List SymbolTree → ReadModule
  read_module p t = record { module_is = p; table = t }

  table_by : (lines : Lines) (p : ParsedTree) (r : Result (List SymbolTree) Refusal) (m : ReadModule) → reading text ≡ Ok lines → parse_of lines ≡ Ok (p ∷ []) → symbols_of p ≡ r → with_table p r ≡ Some m → IsReadAs text m
  table_by lines p (Ok t) m l e f h =
      let same : read_module p t ≡ m = cc in
      let b = all_built lines (p ∷ []) e in
      subst (IsReadAs text) same (record { lines = lines; lined = l; parsed = e; built = b.first; tabled = f })
  table_by lines p (Err r) m l e f h = cc

  module_by : (lines : Lines) (r : Result (List ParsedTree) Refused) (m : ReadModule) → reading text ≡ Ok lines → parse_of lines ≡ r → one_module r ≡ Some m → IsReadAs text m
  module_by lines (Ok []) m l e h = cc
  module_by lines (Ok (p ∷ [])) m l e h = table_by lines p (symbols_of p) m l e refl h
  module_by lines (Ok (p ∷ q ∷ ps)) m l e h = cc
  module_by lines (Err x) m l e h = cc

  lines_by : (r : Result Lines (ℕ × ℕ)) (m : ReadModule) → reading text ≡ r → one_module (and_then (lines_or r) parse_of) ≡ Some m → IsReadAs text m
  lines_by (Ok lines) m l h = module_by lines (parse_of lines) m l refl h
  lines_by (Err x) m l h = cc

pub read_as : (text : List ℕ) (m : ReadModule) → module_read text ≡ Some m → IsReadAs text m
read_as text m h = lines_by text (reading text) m refl h

-- ---- all of them

pub record AreRead (ts : List ModuleText) : Type 0 where
  pub built : All IsBuilt (trees_in ts)
  pub tabled : AreTables (trees_in ts) (tables_in ts)

pub all_read : (ts : List ModuleText) → AreModules ts → AreRead ts
all_read [] h = record { built = tt; tabled = tt }
all_read (t ∷ ts) h =
    let m = h.0.found in
    let r = read_as t.text m h.0.is_read in
    let rest = all_read ts h.1 in
    let e : modules_in (t ∷ ts) ≡ m ∷ modules_in ts = ap (λ x. option_to_list x ++ modules_in ts) h.0.is_read in
    let P : List ReadModule → Type 0 = λ xs. All IsBuilt (map (λ x. x.module_is) xs) in
    let Q : List ReadModule → Type 0 = λ xs. AreTables (map (λ x. x.module_is) xs) (map (λ x. x.table) xs) in
    record { built = subst P (sym e) (record { first = r.built; others = rest.built }); tabled = subst Q (sym e) (r.tabled, rest.tabled) }
