-- What is claimed of the runs of a program: the OUT regions of its modules.
use Rattle.std.specs.Prelude.{◌≡◌, ℕ, Bool, true, false, nat_eq, List, map, Some}
use Rattle.std.specs.List.{list_any}
use Rattle.f77_ast.specs.declared.symbol.Place.TheVariants.{Block as InBlock}
use Rattle.f77_ast.specs.declared.variable.Variable.{Variable}
use Rattle.f77_ast.specs.declared.variable.Variable.TheVariants.{Saved}
use Rattle.f77_ast.specs.Symbols.{SymbolTree, number_from}
use Rattle.f77_ast.specs.Shared.{symbol_at}
use Rattle.f77_ast.specs.Units.{units_in}
use Rattle.f77_ast.specs.declared.results.Results.{Results}
use Rattle.call_graph.specs.declared.graph.Graph.{Graph}
use Rattle.f77_meaning.specs.Modules.{Known, all_lost}
use Rattle.f77_meaning.specs.Linked.{numbering}
use Rattle.f77_meaning.specs.Occurrences.{Occurrence}
use Rattle.affine_forms.specs.Scalars.{is_cell}
use Rattle.preconditions.specs.transformers.Given.{Callees}
use Rattle.preconditions.specs.transformer_algebra.Laws.{In}
use Rattle.in_out_regions.specs.region_sets.declared.region.Region.{Region}
use Rattle.in_out_regions.specs.array_regions.Calls.{Callees as Summaries}
use Rattle.in_out_regions.specs.region_translation.Values.{is_scalar_dummy}
use Rattle.loop_marker.specs.out_regions.Known.{KnownTree}
use Rattle.loop_marker.specs.out_regions.Modules.{outs_of}
use Rattle.laws_analyses.specs.Calls.Parts.{Part}
use Rattle.laws_analyses.specs.Regions.Entries.{IsLost}
use Rattle.laws_analyses.specs.Regions.Programs.{regions_in_part}
use Rattle.laws_marks.specs.InPrograms.{ins_in_part}
use Rattle.laws_marks.specs.OutClaims.{OutRegionsHold}
use Rattle.laws_interleavings.specs.Typed.{IsTagged}
use Rattle.laws_marks.specs.OutLabels.{IsOutward, StmtsOutward}

-- what OUT of a module is made from: rs has the summaries of READ and WRITE of what it calls, is those of IN
abbrev pub known_in_part : Graph → Callees → Summaries → Summaries → Part → KnownTree
known_in_part g cs rs is k = record { scope = k.scope; does = k.found.transformer; accesses = (regions_in_part g cs rs k).at; ins = (ins_in_part g cs rs is k).at }

-- and us what may be read behind it
abbrev pub outs_in_part : Graph → Callees → Summaries → Summaries → List Region → Part → Results (List Region)
outs_in_part g cs rs is us k = outs_of k.routine.body (known_in_part g cs rs is k) us

-- of an execution of a statement, or of the entry, by the name of its module
abbrev pub EachOutHolds : List Known → Graph → Callees → (List ℕ → Summaries) → (List ℕ → Summaries) → (List ℕ → List Region) → (List ℕ → Part) → Occurrence → Type 0
EachOutHolds ks g cs rs is us of x = let k = of x.spot.module_name in OutRegionsHold ks g k.scope (outs_in_part g cs (rs k.routine.name) (is k.routine.name) (us k.routine.name) k) x

-- ---- what tables give

-- a unit of a local, not saved, of some module (ANSI X3.9-1978 §15.8.4)
abbrev pub is_some_lost : List Known → Graph → ℕ → Bool
is_some_lost ks g u = list_any (λ k. list_any (λ v. nat_eq v u) (all_lost (numbering ks g) k.read.name k.symbols k.symbols)) ks

pub record OutPart (ks : List Known) (g : Graph) (k : Part) : Type 0 where
  pub tagged : IsTagged k.routine
  -- expressions that are actuals have units of their own
  pub kept : (n i : ℕ) → is_some_lost ks g (k.routine.own_unit n i) ≡ false
  -- what it loses becomes undefined at its end
  pub forgets : (u : ℕ) → IsLost ks g k.routine.name u → In u k.routine.locals
  pub outward : IsOutward true k.routine.body
  pub parts_outward : StmtsOutward k.routine.body

-- of a module that is called
pub record DownPart (may_name : Variable → Bool) (k : Part) : Type 0 where
  -- a name is that of one symbol
  pub once : (n : ℕ) (s : SymbolTree) → symbol_at k.scope.symbols n ≡ Some s → number_from 1 (map (λ t. t.name) k.scope.symbols) s.name ≡ Some n
  -- its regions name its own locals as such
  pub other : (x : List ℕ) → may_name (Saved k.routine.name x) ≡ true → ⊥
  -- INTEGER scalars among its dummies are tracked
  pub tracked : (n : ℕ) → is_scalar_dummy (symbol_at k.scope.symbols n) ≡ true → is_cell k.scope.tracked n ≡ true
  -- a variable of a block has as many units as its bounds say
  pub extent : (n : ℕ) (s : SymbolTree) (y : List ℕ) (o : ℕ) → symbol_at k.scope.symbols n ≡ Some s → s.place ≡ InBlock y o → (k.routine.fixed n).extent ≡ units_in k.scope.symbols s
