use Rattle.std.proofs.Common.{◌≡◌, List, [], map, refl, sym, ap, ◌∙◌, subst}
use Rattle.base_json.specs.Distinct.{are_new}
use Rattle.base_text.specs.declared.base.BaseModule.{BaseModule}
use Rattle.base_text.specs.Modules.{module_names_in, known}
use Rattle.pipsmake_db.specs.pipsmake_meaning.Session.{none_made}
use Rattle.pipsmake_db.specs.laws_database.Stands.{StandsFor}
use Rattle.pipsmake_db.specs.declared.db.Db.{Db}
use Rattle.pipsmake_db.specs.Links.{AreLinks}
use Rattle.pipsmake_db.specs.State.{texts_of, memo_cells_in}
use Rattle.pipsmake_db.specs.result_store.Rows.{memo_cells_of}
use Rattle.pipsmake_base.specs.Saved.{text_at, texts_in}
use Rattle.pipsmake_base.specs.Taken.{KeepsAll}
use Rattle.pipsmake_base.proofs.LoadLaws.{values_fit, is_loaded}
use Rattle.pipsmake_base.proofs.WholeLaws.{rests_loaded}
use Rattle.pipsmake_base.proofs.loading.load.Goals as goal

pub over_texts-requires : goal.over_texts-requires
over_texts-requires c = ap (λ (ms : List BaseModule). are_new [] (module_names_in ms)) c.as_slice-2.ensures ∙ c.requires.once

pub see_results-requires : goal.see_results-requires
see_results-requires c = values_fit c.fits_is_taken.ensures (known c.args.base.modules c.requires.found) c.args.base.results c.requires.fit

pub keep_all-requires-clause-links : goal.keep_all-requires-clause-links
keep_all-requires-clause-links c = subst (AreLinks c.in-Ok.links) (sym c.links.ensures.same) c.in-Ok.ensures.links

pub keep_all-requires-clause-in_some : goal.keep_all-requires-clause-in_some
keep_all-requires-clause-in_some c = record { once = ap (λ (ms : List BaseModule). are_new [] (module_names_in ms)) c.as_slice.ensures ∙ c.requires.once; over = tt }

pub keep_all-requires-clause-texts : goal.keep_all-requires-clause-texts
keep_all-requires-clause-texts c =
    ap (map text_at) (c.as_slice.ensures ∙ sym c.as_slice-2.ensures) ∙ sym c.in_ok-db.ensures.texts ∙ sym c.links.ensures.same

pub give_back-requires : goal.give_back-requires
give_back-requires c = subst (AreLinks c.in-Ok.links) (sym (c.keep_all.ensures.same ∙ c.links.ensures.same)) c.in-Ok.ensures.links

pub returns-clause-texts : goal.returns-clause-texts
returns-clause-texts c = c.give_back.ensures ∙ c.keep_all.ensures.same ∙ c.links.ensures.same ∙ c.in_ok-db.ensures.texts ∙ ap (map text_at) c.as_slice-2.ensures

pub returns-clause-fresh : goal.returns-clause-fresh
returns-clause-fresh c = c.in_ok-fresh.ensures.adds

pub returns-clause-stands : goal.returns-clause-stands
returns-clause-stands c =
    let base = c.args.base in
    let d : Db = record { linked = c.give_back.new.self; store = c.keep_all.new.db.store; fresh = c.in_ok-fresh.fresh } in
    let old = memo_cells_in c.in_ok-db.db in
    let mid = memo_cells_of c.see_results.new.store in
    let texts : texts_of c.in_ok-db.db ≡ texts_in base = c.in_ok-db.ensures.texts ∙ ap (map text_at) c.as_slice-2.ensures in
    let stands : StandsFor old (texts_in base) none_made = subst (λ ts. StandsFor old ts none_made) (ap (map text_at) c.as_slice-2.ensures) c.in_ok-db.ensures.stands in
    let kept : KeepsAll (texts_in base) mid c.in_ok-fresh.fresh (memo_cells_in d) = subst (λ ts. KeepsAll ts mid c.in_ok-fresh.fresh (memo_cells_in d)) (c.links.ensures.same ∙ texts) c.in_ok-keep_all.ensures.ok in
    λ saved. is_loaded base old mid d c.in_ok-fresh.fresh stands c.in_ok-fresh.ensures kept (c.give_back.ensures ∙ c.keep_all.ensures.same ∙ c.links.ensures.same ∙ texts) refl saved

pub returns-clause-rests : goal.returns-clause-rests
returns-clause-rests c =
    let base = c.args.base in
    let d : Db = record { linked = c.give_back.new.self; store = c.keep_all.new.db.store; fresh = c.in_ok-fresh.fresh } in
    let old = memo_cells_in c.in_ok-db.db in
    let mid = memo_cells_of c.see_results.new.store in
    let texts : texts_of c.in_ok-db.db ≡ texts_in base = c.in_ok-db.ensures.texts ∙ ap (map text_at) c.as_slice-2.ensures in
    let stands : StandsFor old (texts_in base) none_made = subst (λ ts. StandsFor old ts none_made) (ap (map text_at) c.as_slice-2.ensures) c.in_ok-db.ensures.stands in
    let kept : KeepsAll (texts_in base) mid c.in_ok-fresh.fresh (memo_cells_in d) = subst (λ ts. KeepsAll ts mid c.in_ok-fresh.fresh (memo_cells_in d)) (c.links.ensures.same ∙ texts) c.in_ok-keep_all.ensures.ok in
    rests_loaded base (module_names_in base.modules) old mid d c.in_ok-fresh.fresh c.requires.ordered stands c.in_ok-fresh.ensures kept (c.give_back.ensures ∙ c.keep_all.ensures.same ∙ c.links.ensures.same ∙ texts)
