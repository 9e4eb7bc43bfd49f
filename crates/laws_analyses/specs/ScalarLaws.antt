-- Preconditions and transformers of main programs that call no module, of programs that are read.
use Rattle.std.specs.Prelude.{◌≡◌, ℕ, zero, suc, ℤ, List, [], Ok, Some}
use Rattle.affine_systems.specs.declared.row.System.{System}
use Rattle.fixed_form.specs.declared.line.Lines.{Lines}
use Rattle.f77_ast.specs.DeclTrees.{ParsedTree}
use Rattle.f77_ast.specs.declared.decl.Scalar.TheVariants.{Log}
use Rattle.f77_ast.specs.Numbers.{is_true}
use Rattle.f77_ast.specs.Store.{truth}
use Rattle.f77_parser.specs.Modules.{parse_of}
use Rattle.f77_ast.specs.declared.symbol.Place.TheVariants.{Constant}
use Rattle.f77_ast.specs.declared.variable.Unit.{Unit as BlockUnit}
use Rattle.f77_ast.specs.Symbols.{SymbolTree}
use Rattle.storage_layout.specs.Symbols.{symbols_of}
use Rattle.laws_programs.specs.SymbolTables.Shapes.{symbol_named}
use Rattle.tracked_cells.specs.Tracked.{tracked_of}
use Rattle.call_graph.specs.declared.graph.Graph.{Graph}
use Rattle.f77_ast.specs.declared.results.Results.{Results}
use Rattle.f77_meaning.specs.Modules.{known_of, names}
use Rattle.f77_meaning.specs.Linked.{main_of}
use Rattle.f77_meaning.specs.Occurrences.{Occurrence}
use Rattle.f77_meaning.specs.Claims.{PreconditionHolds, TransformerHolds}
use Rattle.f77_meaning.specs.Claimed.{InEveryRun}
use Rattle.laws_programs.specs.Storage.Initial.{DataLies}
use Rattle.laws_programs.specs.Storage.DataLaws.{AllConstantsFit}
use Rattle.laws_programs.specs.Programs.{AreTables, IsProgram}
use Rattle.affine_forms.specs.Scalars.{is_cell}
use Rattle.affine_forms.specs.Claims.{Agrees}
use Rattle.preconditions.specs.transformer_algebra.declared.transformer.Transformer.{Transformer}
use Rattle.preconditions.specs.transformer_algebra.Cells.{has}
use Rattle.preconditions.specs.call_translation.Scopes.{ScopeTree}
use Rattle.preconditions.specs.transformers.Given.{Callees}
use Rattle.preconditions.specs.transformers.Lists.{value_at, transformer_at}
use Rattle.preconditions.specs.transformers.Modules.{transformers_of}
use Rattle.preconditions.specs.Entry.{main_entry}
use Rattle.preconditions.specs.Modules.{preconditions_of}
use Rattle.call_graph.specs.CallsIn.{list_calls}
use Rattle.laws_analyses.specs.Statements.Results.{SystemHolds, Relates, or_no_rows}
use Rattle.laws_analyses.specs.Statements.Laws.{scope_of, IsMainAlone}

-- ---- constants (ANSI X3.9-1978 §8.6)

-- the number of a LOGICAL constant is 0 or 1
abbrev pub LogicalsAreTruths : Type 0
LogicalsAreTruths = (p : ParsedTree) (ss : List SymbolTree) → symbols_of p ≡ Ok ss → (x : List ℕ) (s : SymbolTree) (k : ℤ) → symbol_named ss x ≡ Some s → s.place ≡ Constant k → s.scalar ≡ Log → truth (is_true k) ≡ k

-- that of an INTEGER one has 32 bits, in modules that are read
abbrev pub IntegersFit : Type 0
IntegersFit = (lines : Lines) (ps : List ParsedTree) (sss : List (List SymbolTree)) → parse_of lines ≡ Ok ps → AreTables ps sss → AllConstantsFit ps sss

-- then DATA gives values to units of locals alone, and to none past their ends
abbrev pub AcceptedDataStaysInLocals : Type 0
AcceptedDataStaysInLocals = (lines : Lines) (ps : List ParsedTree) (sss : List (List SymbolTree)) → parse_of lines ≡ Ok ps → AreTables ps sss → DataLies ps sss

-- ---- names

-- what names are taken for in forms is what they stand for in runs, but for scalars that have the name of a function
abbrev pub NamesAgree : Type 0
NamesAgree = (p : ParsedTree) (ss : List SymbolTree) (untracked : List BlockUnit) → symbols_of p ≡ Ok ss →
    (let flags = tracked_of p.module_read ss untracked in Agrees (names ss) (scope_of ss flags).scalars (is_cell flags))

-- ---- main programs

-- a main program that calls no module is such as the law on its runs asks
abbrev pub MainsAreAlone : Type 0
MainsAreAlone = (ps : List ParsedTree) (sss : List (List SymbolTree)) (g : Graph) → IsProgram ps sss g →
    (let k = main_of (known_of ps sss) in list_calls k.read.body ≡ [] → IsMainAlone (known_of ps sss) g k (tracked_of k.read k.symbols g.untracked))

-- what the results of a module with this scope say of an execution, by the number of its statement: at each arrival its precondition holds, and its transformer
-- holds of the arrival and the normal end; at the entry, which has the number 0, what holds where the module is entered
abbrev pub ResultsHold : ScopeTree → Results Transformer → Results System → ℕ → Occurrence → Type 0
ResultsHold m ts ps zero x = PreconditionHolds (is_cell m.tracked) (SystemHolds ps.summary) x
ResultsHold m ts ps (suc n) x =
    PreconditionHolds (is_cell m.tracked) (SystemHolds (or_no_rows (value_at ps.at (suc n)))) x
    × (let t = transformer_at ts.at (suc n) in TransformerHolds m.symbols (is_cell m.tracked) (has t.cells) (Relates t.system) x)

-- so its results hold in every run, up to its first fault, whatever is known of other modules
abbrev pub ReadMainsHold : Type 0
ReadMainsHold = (ps : List ParsedTree) (sss : List (List SymbolTree)) (g : Graph) (cs : Callees) → IsProgram ps sss g →
    (let k = main_of (known_of ps sss) in
    let m = scope_of k.symbols (tracked_of k.read k.symbols g.untracked) in
    let ts = transformers_of k.read.body m cs in
    let holds = preconditions_of k.read.body m (transformer_at ts.at) (main_entry m) in
    list_calls k.read.body ≡ [] → InEveryRun (known_of ps sss) g (λ x. ResultsHold m ts holds x.spot.statement x))
