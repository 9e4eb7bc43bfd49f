-- What is lent of a module, and its text from that.
use Rattle.std.proofs.Common.{◌≡◌, ℕ, List, [], ◌∷◌, ◌++◌, Option, Some, None, refl, sym, ap, ◌∙◌, append_assoc, append-nil}
use Rattle.std.specs.Prelude.{option_map, option_and_then}
use Rattle.f77_printer.specs.ModuleText as printer
use Rattle.pipsmake_base.specs.pipsmake_meaning.Definitions.{module_named}
use Rattle.pipsmake_base.specs.pipsmake_meaning.Rules.{known as known_read, results_from, kept_results}
use Rattle.pipsmake_base.specs.pipsmake_meaning.Texts.{graph_or_none, graph_of}
use Rattle.pipsmake_base.specs.laws_database.ProgramTexts.{before_text}
use Rattle.pipsmake_base.specs.pipsmake_db.KeptModules.{IsKept}
use Rattle.pipsmake_base.specs.pipsmake_db.State.{texts_of, memo_cells_in}
use Rattle.pipsmake_base.specs.pipsmake_db.declared.db.Db.{Db}
use Rattle.pipsmake_base.specs.pipsmake_db.declared.kept.KeptModule.{KeptModule}
use Rattle.pips_top.specs.Kept.{lines_known, text_wanted, module_kept, modules_kept, lent_results, lent_module, kept_lines, kept_text}
use Rattle.pips_top.specs.declared.wanted.Wanted.{Wanted}

-- ---- one module

module _ (w : Wanted) (d : Db) (x : List ℕ) (k : KeptModule) (lent : IsKept d x k) where
  same_module : known_read lent.found ≡ lent_module k
  same_module = λ i. record { read = sym lent.statements i; symbols = sym lent.symbols i }

  same_graph : graph_of (texts_of d) ≡ k.graph.now
  same_graph = ap graph_or_none lent.graph

  same_results : kept_results (memo_cells_in d) x ≡ Some (lent_results k)
  same_results = λ i. results_from (lent.transformers i) (lent.preconditions i) (lent.regions i) (lent.ins i) (lent.outs i) (lent.marks i)

  same_lines : lines_known w (graph_of (texts_of d)) (known_read lent.found) (lent_results k) ≡ kept_lines w k
  same_lines = λ i. lines_known w (same_graph i) (same_module i) (lent_results k)

  same_text : text_wanted w (graph_of (texts_of d)) lent.found (lent_results k) ≡ kept_text w k
  same_text = λ i. printer.module_text (sym lent.places i) (sym lent.statements i) (same_lines i)

  pub lent_text : module_kept w d x ≡ Some (kept_text w k)
  lent_text =
      ap (λ o. option_and_then (λ m. option_map (text_wanted w (graph_of (texts_of d)) m) o) (module_named (texts_of d) x)) same_results
      ∙ ap (option_and_then (λ m. option_map (text_wanted w (graph_of (texts_of d)) m) (Some (lent_results k)))) lent.named
      ∙ ap Some same_text

-- ---- the texts of modules, one after another

joined : (out first : List ℕ) (o : Option (List ℕ)) → option_map (λ t. (out ++ first) ++ t) o ≡ option_map (λ t. out ++ t) (option_map (λ t. first ++ t) o)
joined out first None = refl
joined out first (Some t) = ap Some (append_assoc out first t)

-- one module more
pub more_kept : (w : Wanted) (d : Db) (x : List ℕ) (k : KeptModule) (xs rest : List (List ℕ)) (out text new : List ℕ) (whole : Option (List ℕ)) → rest ≡ x ∷ xs → IsKept d x k → text ≡ kept_text w k → new ≡ out ++ text
    → option_map (λ t. out ++ t) (modules_kept w d rest) ≡ whole → option_map (λ t. new ++ t) (modules_kept w d xs) ≡ whole
more_kept w d x k xs rest out text new whole e lent is appended h =
    let o : Option (List ℕ) = modules_kept w d xs in
    let own : module_kept w d x ≡ Some text = lent_text w d x k lent ∙ ap Some (sym is) in
    let first : modules_kept w d rest ≡ option_map (λ t. text ++ t) o = ap (modules_kept w d) e ∙ ap (λ m. before_text m o) own in
    ap (λ (n : List ℕ). option_map (λ t. n ++ t) o) appended ∙ joined out text o ∙ ap (option_map (λ t. out ++ t)) (sym first) ∙ h

pub none_kept : (w : Wanted) (d : Db) (rest : List (List ℕ)) (out : List ℕ) (whole : Option (List ℕ)) → rest ≡ [] → option_map (λ t. out ++ t) (modules_kept w d rest) ≡ whole → whole ≡ Some out
none_kept w d rest out whole e h = sym (ap (λ (xs : List (List ℕ)). option_map (λ t. out ++ t) (modules_kept w d xs)) (sym e) ∙ h) ∙ ap Some (append-nil out)
