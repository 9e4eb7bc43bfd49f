-- What is claimed of the runs of a program.
use Rattle.std.specs.Prelude.{◌≡◌, ℕ, zero, suc, false, List, [], ◌∷◌, map}
use Rattle.f77_ast.specs.Store.{Store}
use Rattle.f77_ast.specs.Programs.{Routine}
use Rattle.call_graph.specs.declared.graph.Graph.{Graph}
use Rattle.f77_meaning.specs.Modules.{Known}
use Rattle.f77_meaning.specs.Linked.{program_of}
use Rattle.f77_meaning.specs.Occurrences.{Occurrence}
use Rattle.f77_meaning.specs.Claims.{PreconditionHolds, TransformerHolds}
use Rattle.f77_meaning.specs.Claimed.{InEveryRun}
use Rattle.affine_forms.specs.Scalars.{is_cell}
use Rattle.affine_forms.specs.Claims.{numbers_of}
use Rattle.preconditions.specs.transformer_algebra.declared.transformer.Transformer.{Transformer}
use Rattle.preconditions.specs.transformer_algebra.Cells.{has}
use Rattle.preconditions.specs.call_translation.Sites.{HoldingSite}
use Rattle.preconditions.specs.transformers.Given.{Callees}
use Rattle.preconditions.specs.Entry.{main_entry}
use Rattle.preconditions.specs.transformers.Jumps.{list_has}
use Rattle.laws_analyses.specs.Statements.Targets.{lacks_targets}
use Rattle.call_graph.specs.CallsIn.{CallAt, Each, list_calls}
use Rattle.f77_ast.specs.StatementNumbers.{HasNumbers}
use Rattle.laws_analyses.specs.Statements.Results.{SystemHolds, Relates, found_in, pre_in}
use Rattle.laws_analyses.specs.Calls.Entries.{BeginsWithData}
use Rattle.laws_analyses.specs.Calls.Parts.{Blocks, Part, summary, scene_in, Sane}
use Rattle.laws_analyses.specs.Calls.Sites.{Covers}

-- ---- claims

abbrev pub TransformerSays : Part → Transformer → Occurrence → Type 0
TransformerSays k t x = TransformerHolds k.scope.symbols (is_cell k.scope.tracked) (has t.cells) (Relates t.system) x

-- of an execution of a module: at its entry, number 0, with its summary, and at each statement
abbrev pub ScalarsHold : Callees → Part → ℕ → Occurrence → Type 0
ScalarsHold cs k zero x = PreconditionHolds (is_cell k.scope.tracked) (SystemHolds k.entry) x × TransformerSays k (summary cs k) x
ScalarsHold cs k (suc n) x = PreconditionHolds (is_cell k.scope.tracked) (SystemHolds (k.found.pre (suc n))) x × TransformerSays k (k.found.transformer (suc n)) x

-- of each execution, by the name of its module
abbrev pub EachHolds : Callees → (List ℕ → Part) → Occurrence → Type 0
EachHolds cs of x = ScalarsHold cs (of x.spot.module_name) x.spot.statement x

-- ---- programs

abbrev pub routines : List Part → List Routine
routines ks = map (λ k. k.routine) ks

-- a module with its results: those of the definitions, looked up by the numbers of statements; and each of its CALLs of the modules below has what
-- it owes, where what holds there by these results holds
pub record Analysed (b : Blocks) (cs : Callees) (sites : List ℕ → List HoldingSite) (below : List Part) (k : Part) : Type 0 where
  pub found : k.found ≡ record { pre = pre_in k.routine.body k.scope cs k.entry; transformer = found_in k.routine.body k.scope cs }
  -- its statements have numbers of their own, which are not 0
  pub numbered : HasNumbers k.routine.body
  -- left sides, items of READ and indices of DO are scalars or elements with subscripts, as reading makes them
  pub targets : list_has (lacks_targets k.scalar) k.routine.body ≡ false
  pub calls : Each (λ (c : CallAt). Covers b cs sites below k c.callee c.actuals (pre_in k.routine.body k.scope cs k.entry c.number)) (list_calls k.routine.body)

-- modules, each before those that it calls, with what their layout gives; each is the one of its name
abbrev pub AnalysedParts : Blocks → Callees → (List ℕ → List HoldingSite) → (List ℕ → Part) → List Part → Type 0
AnalysedParts b cs sites of [] = Unit {0}
AnalysedParts b cs sites of (k ∷ ks) = Sane b k × Analysed b cs sites ks k × (of k.routine.name ≡ k) × AnalysedParts b cs sites of ks

-- a main program and the modules that it calls, begun with a store
pub record AnalysedProgram (b : Blocks) (cs : Callees) (sites : List ℕ → List HoldingSite) (of : List ℕ → Part) (main : Part) (parts : List Part) (z : Store) : Type 0 where
  pub sane : Sane b main
  pub no_dummies : main.routine.dummies ≡ []
  pub analysed : Analysed b cs sites parts main
  pub named : of main.routine.name ≡ main
  -- its entry is that of DATA, with whose values its tracked cells begin
  pub entry : main.entry ≡ main_entry main.scope
  pub begins : BeginsWithData main.scope (scene_in b main [] main.routine.fixed) (numbers_of z)
  pub parts_analysed : AnalysedParts b cs sites of parts

-- then in every run, up to its first fault, each precondition and each transformer holds
abbrev pub ProgramHolds : Type 0
ProgramHolds = (b : Blocks) (cs : Callees) (sites : List ℕ → List HoldingSite) (of : List ℕ → Part) (main : Part) (parts : List Part) (z : Store) → AnalysedProgram b cs sites of main parts z →
    (ks : List Known) (g : Graph) → program_of ks g ≡ record { main = main.routine; others = routines parts; initial = z } → InEveryRun ks g (EachHolds cs of)
