-- What the rules for CALLs and entries keep of the numbers.
use Rattle.std.specs.Prelude.{◌≡◌, ℕ, true, List, Option, Some, ℤ}
use Rattle.affine_systems.specs.declared.row.System.{System}
use Rattle.f77_ast.specs.Trees.{ExprTrees}
use Rattle.f77_ast.specs.Symbols.{SymbolTree}
use Rattle.affine_forms.specs.Scalars.{is_cell}
use Rattle.f77_ast.specs.Summaries.{SummaryTree}
use Rattle.preconditions.specs.transformer_algebra.declared.transformer.Transformer.{Transformer}
use Rattle.preconditions.specs.transformer_algebra.Claims.{Scene, HoldsAt, Kept, Does, Tracks}
use Rattle.preconditions.specs.transformer_algebra.Laws.{In}
use Rattle.preconditions.specs.call_translation.Scopes.{ScopeTree}
use Rattle.preconditions.specs.call_translation.Call.{CallTree}
use Rattle.preconditions.specs.call_translation.Summary.{summary_in_caller, call_transformer}
use Rattle.preconditions.specs.call_translation.Sites.{HoldingSite}
use Rattle.preconditions.specs.call_translation.SiteEntry.{site_entry}
use Rattle.preconditions.specs.transformers.Modules.{summary_of}
use Rattle.preconditions.specs.Entry.{main_entry, sites_entry}
use Rattle.laws_analyses.specs.Calls.Scenes.{outside}
use Rattle.laws_analyses.specs.Calls.Bindings.{Runs}
use Rattle.laws_analyses.specs.Calls.Entries.{Enters, BeginsWithData}

pub record CallRulesHold : Type 0 where
  -- where a body's transformer describes a way, its summary does, for those that see the module from outside
  pub summary_does : (m : Scene) (ss : List SymbolTree) (t : Transformer) (x y : ℕ → ℤ) → Does m t x y → Does (outside ss m) (summary_of ss t) x y
  -- where a summary describes the way through what is called, the transformer of the CALL describes that of the CALL
  pub call_does : (s : ScopeTree) (es : ExprTrees) (t : SummaryTree Transformer) (h k : Scene) (x y z w : ℕ → ℤ) →
      Runs (record { caller = s; actuals = es; symbols = t.symbols }) h k x y z w → Does (outside t.symbols k) t.value y z → Does h (call_transformer s (Some t) es) x w
  -- and the same cells and units keep their numbers, wherever what is called ends
  pub call_keeps : (c : CallTree) (t : Transformer) (h k : Scene) (x y z w : ℕ → ℤ) →
      Runs c h k x y z w → Kept (outside c.symbols k) t.cells t.foreign y z → Kept h (summary_in_caller c t).cells (summary_in_caller c t).foreign x w
  -- the cells that it lists are tracked, as those of the table, and those that names are taken for, are
  pub call_tracks : (s : ScopeTree) (o : Option (SummaryTree Transformer)) (es : ExprTrees) (m : Scene) →
      ((c : ℕ) → is_cell s.tracked c ≡ true → m.tracked c ≡ true) → ((x : List ℕ) (c : ℕ) → s.scalars.cell x ≡ Some c → m.tracked c ≡ true) → Tracks m (call_transformer s o es).cells

pub record EntryRulesHold : Type 0 where
  -- what holds at a CALL holds as its site says where the module is entered from there
  pub site_holds : (s : ScopeTree) (c : HoldingSite) (h k : Scene) (x y : ℕ → ℤ) → Enters s c h k x y → HoldsAt h c.value x → HoldsAt (outside s.symbols k) (site_entry s c) y
  -- so does the entry that is made of all sites
  pub sites_hold : (s : ScopeTree) (c : HoldingSite) (cs : List HoldingSite) (m : Scene) (y : ℕ → ℤ) → In c cs → HoldsAt m (site_entry s c) y → HoldsAt m (sites_entry s cs) y
  -- the main program's holds of the numbers that DATA gives
  pub main_holds : (s : ScopeTree) (m : Scene) (x : ℕ → ℤ) → BeginsWithData s m x → HoldsAt m (main_entry s) x
  -- what holds for those that see a module from outside holds inside
  pub inside_holds : (ss : List SymbolTree) (m : Scene) (p : System) (x : ℕ → ℤ) → HoldsAt (outside ss m) p x → HoldsAt m p x
