-- What is claimed of the parts of a program is what its analyses say.
use Rattle.std.proofs.Common.{◌≡◌, ℕ, zero, suc, List, [], ◌∷◌, Option, Some, None, refl, sym, ap, ◌∙◌, subst}
use Rattle.std.specs.Prelude.{All, IfSome}
use Rattle.std.proofs.lemmas.List.Elements.{All-nil, All-cons}
use Rattle.affine_systems.specs.declared.row.System.{System}
use Rattle.f77_ast.specs.DeclTrees.{ParsedTree}
use Rattle.f77_ast.specs.Symbols.{SymbolTree}
use Rattle.f77_ast.specs.declared.results.Results.{Results}
use Rattle.call_graph.specs.declared.graph.Graph.{Graph}
use Rattle.f77_meaning.specs.Modules.{Known, known_of}
use Rattle.f77_meaning.specs.Occurrences.{Occurrence}
use Rattle.f77_meaning.specs.Claims.{PreconditionHolds, TransformerHolds}
use Rattle.affine_forms.specs.Scalars.{is_cell}
use Rattle.preconditions.specs.transformer_algebra.declared.transformer.Transformer.{Transformer}
use Rattle.preconditions.specs.transformer_algebra.Cells.{has}
use Rattle.preconditions.specs.transformers.Given.{Callees}
use Rattle.preconditions.specs.transformers.Lists.{value_at, or_unchanging}
use Rattle.preconditions.specs.transformers.Modules.{transformers_of}
use Rattle.preconditions.specs.Modules.{preconditions_of}
use Rattle.laws_programs.specs.Storage.Programs.{IsLinked, IsModule, known}
use Rattle.call_graph.specs.CallsIn.{Each}
use Rattle.f77_ast.specs.StatementNumbers.{HasNumbers}
use Rattle.laws_analyses.specs.Statements.Results.{SystemHolds, Relates, or_no_rows, pre_in, found_in}
use Rattle.laws_analyses.specs.Calls.Parts.{Part}
use Rattle.laws_analyses.specs.Calls.ProgramLaws.{ScalarsHold, EachHolds}
use Rattle.module_phases.specs.ScalarPhases.{scope_of, Analysis, analyses}
use Rattle.laws_analyses.specs.Parts.{part_of}
use Rattle.laws_analyses.specs.Analysed.{part_named}
use Rattle.laws_analyses.proofs.UnitLaws.{ModuleAt, module_at}
use Rattle.laws_analyses.proofs.Modules.{module_named_is}
use Rattle.laws_analyses.specs.Results.{callees_of_all, analysed_entry}
use Rattle.laws_analyses.specs.Claims.{precondition_in, transformer_in, AnalysisHolds, AnalysesHold}
use Rattle.laws_analyses.proofs.Analyses.{Located, all_located, holds_are}
use Rattle.call_graph.proofs.EachLaws.{each_more}

pub all_of_each : {T : Type 0} (P : T → Type 0) (xs : List T) → Each P xs → All P xs
all_of_each P [] h = All-nil P
all_of_each P (x ∷ xs) h = All-cons P x xs h.0 (all_of_each P xs h.1)

module _ (ps : List ParsedTree) (sss : List (List SymbolTree)) (g : Graph) (l : IsLinked ps sss g) (numbered : (i : ℕ) (p : ParsedTree) (ss : List SymbolTree) → IsModule ps sss i p ss → HasNumbers p.module_read.body) (x : Occurrence) where
  abbrev all : Callees
  all = callees_of_all (known_of ps sss) g

  abbrev part : Known → Part
  part k = part_of (known_of ps sss) g (callees_of_all (known_of ps sss) g) (analysed_entry (known_of ps sss) g k) k

  -- of a module, what a system and a transformer say of the execution
  abbrev Before : Known → System → Type 0
  Before k s = PreconditionHolds (is_cell (scope_of g.untracked k).tracked) (SystemHolds s) x

  abbrev Says : Known → Transformer → Type 0
  Says k t = TransformerHolds k.symbols (is_cell (scope_of g.untracked k).tracked) (has t.cells) (Relates t.system) x

  module _ (a : Analysis) (r : Located ps sss g l (analyses (known_of ps sss) g) a) where
    m : ModuleAt ps sss r.good.at a.found.known
    m = module_at ps sss r.good.at a.found.known r.good.is_module

    abbrev k : Known
    k = known m.parsed m.table

    results : a.holds ≡ preconditions_of m.parsed.module_read.body (scope_of g.untracked (known m.parsed m.table)) (found_in m.parsed.module_read.body (scope_of g.untracked (known m.parsed m.table)) (callees_of_all (known_of ps sss) g)) (analysed_entry (known_of ps sss) g (known m.parsed m.table))
    results = holds_are ps sss g l r.good.at m.parsed m.table m.is_module (numbered r.good.at m.parsed m.table m.is_module) a r (sym m.same)

    abbrev own_results : Results Transformer
    own_results = transformers_of m.parsed.module_read.body (scope_of g.untracked (known m.parsed m.table)) (callees_of_all (known_of ps sss) g)

    own : a.found.own ≡ transformers_of m.parsed.module_read.body (scope_of g.untracked (known m.parsed m.table)) (callees_of_all (known_of ps sss) g)
    own = r.good.own ∙ ap (λ (z : Known). transformers_of z.read.body (scope_of g.untracked z) (callees_of_all (known_of ps sss) g)) (sym m.same)

    -- what is found at a statement is what is said of it
    before_at : (n : ℕ) → Before (known m.parsed m.table) (pre_in m.parsed.module_read.body (scope_of g.untracked (known m.parsed m.table)) (callees_of_all (known_of ps sss) g) (analysed_entry (known_of ps sss) g (known m.parsed m.table)) n) → (o : Option System) → value_at a.holds.at n ≡ o → IfSome o (λ s. Before a.found.known s)
    before_at n h None e = tt
    before_at n h (Some s) e =
        subst (λ (z : Known). Before z s) m.same
        (subst (Before (known m.parsed m.table)) (ap or_no_rows (sym (ap (λ (z : Results System). value_at z.at n) results) ∙ e)) h)

    says_at : (n : ℕ) → Says (known m.parsed m.table) (found_in m.parsed.module_read.body (scope_of g.untracked (known m.parsed m.table)) (callees_of_all (known_of ps sss) g) n) → (o : Option Transformer) → value_at a.found.own.at n ≡ o → IfSome o (λ t. Says a.found.known t)
    says_at n h None e = tt
    says_at n h (Some t) e =
        subst (λ (z : Known). Says z t) m.same
        (subst (Says (known m.parsed m.table)) (ap or_unchanging (sym (ap (λ (z : Results Transformer). value_at z.at n) own) ∙ e)) h)

    said : (n : ℕ) → ScalarsHold (callees_of_all (known_of ps sss) g) (part (known m.parsed m.table)) n x → IfSome (precondition_in a n) (λ s. Before a.found.known s) × IfSome (transformer_in a n) (λ t. Says a.found.known t)
    said zero h = (
      subst (λ (z : Known). Before z a.holds.summary) m.same (subst (Before (known m.parsed m.table)) (sym (ap (λ (z : Results System). z.summary) results)) h.0),
      subst (λ (z : Known). Says z a.found.own.summary) m.same (subst (Says (known m.parsed m.table)) (sym (ap (λ (z : Results Transformer). z.summary) own)) h.1),
    )
    said (suc n) h = (before_at (suc n) h.0 (value_at a.holds.at (suc n)) refl, says_at (suc n) h.1 (value_at a.found.own.at (suc n)) refl)

    -- the part of its name is that of the module
    named : part_named (known_of ps sss) g (callees_of_all (known_of ps sss) g) (analysed_entry (known_of ps sss) g) a.found.known.read.name ≡ part (known m.parsed m.table)
    named = ap part (module_named_is ps sss g l r.good.at a.found.known r.good.is_module ∙ sym m.same)

    holds_of : EachHolds (callees_of_all (known_of ps sss) g) (part_named (known_of ps sss) g (callees_of_all (known_of ps sss) g) (analysed_entry (known_of ps sss) g)) x → a.found.known.read.name ≡ x.spot.module_name → AnalysisHolds g a x
    holds_of h n =
        let there = ap (part_named (known_of ps sss) g (callees_of_all (known_of ps sss) g) (analysed_entry (known_of ps sss) g)) (sym n) ∙ named in
        let s = said x.spot.statement (subst (λ (q : Part). ScalarsHold (callees_of_all (known_of ps sss) g) q x.spot.statement x) there h) in
        record { precondition = s.0; transformer = s.1 }

  pub follows : EachHolds (callees_of_all (known_of ps sss) g) (part_named (known_of ps sss) g (callees_of_all (known_of ps sss) g) (analysed_entry (known_of ps sss) g)) x → AnalysesHold g (analyses (known_of ps sss) g) x
  follows h =
      let P : Analysis → Type 0 = λ a. a.found.known.read.name ≡ x.spot.module_name → AnalysisHolds g a x in
      all_of_each P (analyses (known_of ps sss) g) (each_more (Located ps sss g l (analyses (known_of ps sss) g)) P (analyses (known_of ps sss) g) (λ a r n. holds_of a r h n) (all_located ps sss g l))
