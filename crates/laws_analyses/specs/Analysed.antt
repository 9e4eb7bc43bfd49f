-- What is asked of summaries and of what holds at entries, whoever made them; and the modules of a program with them, by their names.
use Rattle.std.specs.Prelude.{◌≡◌, ℕ, true, false, List, [], ◌∷◌, Some, slice_get, if◌then◌else◌, bytes_eq}
use Rattle.affine_systems.specs.declared.row.System.{System}
use Rattle.call_graph.specs.declared.graph.Graph.{Graph}
use Rattle.f77_meaning.specs.Modules.{Known}
use Rattle.f77_meaning.specs.Linked.{no_module}
use Rattle.preconditions.specs.transformer_algebra.Laws.{In}
use Rattle.preconditions.specs.call_translation.Sites.{HoldingSite}
use Rattle.preconditions.specs.transformers.Given.{Callees}
use Rattle.preconditions.specs.Entry.{main_entry, sites_entry}
use Rattle.call_graph.specs.CallsIn.{CallAt, Each, list_calls}
use Rattle.laws_analyses.specs.Statements.Results.{pre_in}
use Rattle.laws_analyses.specs.Calls.Parts.{Part, summary}
use Rattle.laws_analyses.specs.Parts.{scope_in, part_of}

-- the module of a name
abbrev pub module_named : List Known → List ℕ → Known
module_named [] x = no_module
module_named (k ∷ ks) x = if bytes_eq k.read.name x then k else module_named ks x

abbrev pub part_named : List Known → Graph → Callees → (Known → System) → List ℕ → Part
part_named ks g cs entry x = part_of ks g cs (entry (module_named ks x)) (module_named ks x)

pub record AreAnalysed (ks : List Known) (g : Graph) (cs : Callees) (sites : List ℕ → List HoldingSite) (entry : Known → System) : Type 0 where
  -- the summary of a module is that of its body, with the summaries of all modules
  pub summaries : (i : ℕ) (k : Known) → slice_get ks i ≡ Some k → cs k.read.name ≡ Some (record { symbols = k.symbols; value = summary cs (part_of ks g cs (entry k) k) })
  -- a main program is entered with what DATA says, a subroutine with what holds at its CALLs
  pub main : (i : ℕ) (k : Known) → slice_get ks i ≡ Some k → k.read.main ≡ true → entry k ≡ main_entry (scope_in g k)
  pub others : (i : ℕ) (k : Known) → slice_get ks i ≡ Some k → k.read.main ≡ false → entry k ≡ sites_entry (scope_in g k) (sites k.read.name)
  -- each CALL is among the CALLs of its name, with what holds before it
  pub calls : (i : ℕ) (k : Known) → slice_get ks i ≡ Some k →
      Each (λ (c : CallAt). In (record { caller = scope_in g k; actuals = c.actuals; value = pre_in k.read.body (scope_in g k) cs (entry k) c.number }) (sites c.callee)) (list_calls k.read.body)
