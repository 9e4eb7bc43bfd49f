-- Texts that are modules are each read as one module, which has a table.
use Rattle.std.proofs.Common.{◌≡◌, ℕ, List, [], ◌∷◌, ◌++◌, map, refl, sym, ap, ◌∙◌, subst}
use Rattle.std.specs.Prelude.{Some, option_to_list, Result, Ok, Err}
use Rattle.fixed_form.specs.declared.line.Lines.{Lines}
use Rattle.fixed_form.specs.Reading.{reading}
use Rattle.f77_ast.specs.DeclTrees.{ParsedTree}
use Rattle.f77_parser.specs.Gives.{Refused, and_then}
use Rattle.f77_parser.specs.Modules.{parse_of}
use Rattle.f77_ast.specs.Symbols.{SymbolTree}
use Rattle.fx_lists.specs.declared.refusal.Refusal.{Refusal}
use Rattle.storage_layout.specs.Symbols.{symbols_of}
use Rattle.laws_programs.specs.roundtrip_programs.Texts.Texts.{IsReadAs}
use Rattle.laws_programs.specs.roundtrip_programs.Programs.{AreTables}
use Rattle.laws_programs.specs.roundtrip_programs.Pieces.Joined.{AreReadAlone}
use Rattle.laws_programs.specs.roundtrip_programs.Pieces.Programs.{JoinedMakeTheProgram}
use Rattle.session_texts.specs.pipsmake_meaning.Texts.{ModuleText, ReadModule, lines_or, with_table, one_module, AreModules, modules_in, trees_in, tables_in}
use Rattle.laws_database.specs.ProgramTexts.{texts_of}
use Rattle.laws_database.specs.ProgramTextLaws.{TextsMakeTheProgram}
use Rattle.laws_database.proofs.Linked.{with_these as read_module}

-- ---- one text

record IsReadWith (text : List ℕ) (m : ReadModule) : Type 0 where
  read : IsReadAs text (m.module_is ∷ [])
  tabled : symbols_of m.module_is ≡ Ok m.table

table-by : (p : ParsedTree) (r : Result (List SymbolTree) Refusal) (m : ReadModule) → symbols_of p ≡ r → with_table p r ≡ Some m → (p ≡ m.module_is) × (symbols_of p ≡ Ok m.table)
table-by p (Ok t) m e h =
    let same : read_module p t ≡ m = cc in
    (ap (λ x. x.module_is) same, e ∙ ap (λ x. Ok x.table) same)
table-by p (Err r) m e h = cc

module-by : (text : List ℕ) (lines : Lines) (r : Result (List ParsedTree) Refused) (m : ReadModule) → reading text ≡ Ok lines → parse_of lines ≡ r → one_module r ≡ Some m → IsReadWith text m
module-by text lines (Ok []) m l e h = cc
module-by text lines (Ok (p ∷ [])) m l e h =
    let t = table-by p (symbols_of p) m refl h in
    record { read = record { lines = lines; lined = l; parsed = e ∙ ap (λ x. Ok (x ∷ [])) t.0 }; tabled = ap symbols_of (sym t.0) ∙ t.1 }
module-by text lines (Ok (p ∷ q ∷ ps)) m l e h = cc
module-by text lines (Err x) m l e h = cc

lines-by : (text : List ℕ) (r : Result Lines (ℕ × ℕ)) (m : ReadModule) → reading text ≡ r → one_module (and_then (lines_or r) parse_of) ≡ Some m → IsReadWith text m
lines-by text (Ok lines) m e h = module-by text lines (parse_of lines) m e refl h
lines-by text (Err x) m e h = cc

-- ---- all of them

pub record AllRead (ts : List ModuleText) : Type 0 where
  pub alone : AreReadAlone (texts_of ts) (trees_in ts)
  pub tabled : AreTables (trees_in ts) (tables_in ts)

pub all-read : (ts : List ModuleText) → AreModules ts → AllRead ts
all-read [] h = record { alone = tt; tabled = tt }
all-read (t ∷ ts) h =
    let m = h.0.found in
    let r = lines-by t.text (reading t.text) m refl h.0.is_read in
    let rest = all-read ts h.1 in
    let e : modules_in (t ∷ ts) ≡ m ∷ modules_in ts = ap (λ x. option_to_list x ++ modules_in ts) h.0.is_read in
    let P : List ReadModule → Type 0 = λ xs. AreReadAlone (t.text ∷ texts_of ts) (map (λ x. x.module_is) xs) in
    let Q : List ReadModule → Type 0 = λ xs. AreTables (map (λ x. x.module_is) xs) (map (λ x. x.table) xs) in
    record { alone = subst P (sym e) (r.read, rest.alone); tabled = subst Q (sym e) (r.tabled, rest.tabled) }

pub texts_make_the_program : JoinedMakeTheProgram → TextsMakeTheProgram
texts_make_the_program law ts g h l =
    let r = all-read ts h in law (texts_of ts) (trees_in ts) (tables_in ts) g (record { read = r.alone; tabled = r.tabled; linked = l })
