use Rattle.std.proofs.Common.{◌≡◌, List, map, sym, ap, ◌∙◌, subst}
use Rattle.std.specs.Prelude.{bytes_eq}
use Rattle.std.specs.List.{IsDistinct}
use Rattle.base_text.specs.Grammar.{IsBase}
use Rattle.pipsmake_db.specs.base_values.Naming.{Each}
use Rattle.pipsmake_db.specs.pipsmake_meaning.Texts.{ModuleText, AreModules, names_in}
use Rattle.pipsmake_db.specs.State.{texts_of}
use Rattle.pipsmake_base.specs.Fitting.{ModuleFits}
use Rattle.pipsmake_base.specs.Saved.{keys_in, IsSaved}
use Rattle.pipsmake_base.specs.Saving.{module_of, results_saved, AreShort, HaveBytes}
use Rattle.pipsmake_base.proofs.ModuleLaws.{modules_mapped}
use Rattle.pipsmake_base.proofs.SavingLaws.{saved_is_saved, saved_keys, saved_is_base}
use Rattle.pipsmake_base.proofs.saving.save.Goals as goal

pub returns-clause-base : goal.returns-clause-base
returns-clause-base c =
    let d = c.args.db.now in
    let modules : c.in_ok-modules.modules ≡ map module_of (texts_of d) = c.in_ok-modules.ensures.are ∙ modules_mapped c.texts.result.now ∙ ap (map module_of) (c.texts.ensures.texts ∙ c.sources-sources.ensures) in
    let results : c.in_ok-results.results ≡ results_saved d (names_in (texts_of d)) = c.in_ok-results.ensures.results ∙ ap (results_saved d) (c.names-names.ensures.names ∙ ap names_in c.sources-sources.ensures) in
    λ i. record { modules = modules i; results = results i }

pub returns-clause-saved : goal.returns-clause-saved
returns-clause-saved c =
    λ s i f. subst IsSaved (sym (returns-clause-base c)) (saved_is_saved c.tables_ignore_places.ensures c.graphs_ignore_places.ensures c.args.db.now s i f)

pub returns-clause-keys : goal.returns-clause-keys
returns-clause-keys c =
    let d = c.args.db.now in
    let fits : Each (ModuleFits d) (names_in (texts_of d)) = subst (Each (ModuleFits d)) (c.names-names.ensures.names ∙ ap names_in c.sources-sources.ensures) c.in_ok-results.ensures.fits in
    ap keys_in (returns-clause-base c) ∙ saved_keys d (names_in (texts_of d)) fits

pub returns-clause-grammar : goal.returns-clause-grammar
returns-clause-grammar c =
    let d = c.args.db.now in
    let modules : c.in_ok-modules.modules ≡ map module_of (texts_of d) = c.in_ok-modules.ensures.are ∙ modules_mapped c.texts.result.now ∙ ap (map module_of) (c.texts.ensures.texts ∙ c.sources-sources.ensures) in
    let distinct : IsDistinct bytes_eq (names_in (texts_of d)) = subst (λ (ts : List ModuleText). IsDistinct bytes_eq (names_in ts)) c.sources-sources.ensures c.names-names.ensures.differ in
    let own : AreModules (texts_of d) = subst AreModules c.sources-sources.ensures c.texts.ensures.modules in
    let fits : Each (ModuleFits d) (names_in (texts_of d)) = subst (Each (ModuleFits d)) (c.names-names.ensures.names ∙ ap names_in c.sources-sources.ensures) c.in_ok-results.ensures.fits in
    subst IsBase (sym (returns-clause-base c)) (saved_is_base c.short_texts_are_counted.ensures d distinct own (subst AreShort modules c.in_ok-modules.ensures.short) (subst HaveBytes modules c.in_ok-modules.ensures.bytes) fits)
