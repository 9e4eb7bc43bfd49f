use Rattle.std.proofs.Common.{map, refl, subst, ap, ◌∙◌}
use Rattle.session_texts.specs.pipsmake_meaning.Texts.{names_in}
use Rattle.result_store.specs.Rows.{memo_cells_of}
use Rattle.session_texts.specs.Modules.{source_text}
use Rattle.pipsmake_db.specs.Texts.{ArePlaced, KeepsTexts}
use Rattle.pipsmake_db.proofs.ListLaws.{on_any}
use Rattle.pipsmake_db.proofs.PutLaws.{loses_seen, are_put}
use Rattle.pipsmake_db.proofs.db.Db.put.Goals as goal

pub returns-in_err-seen-clause-err : goal.returns-in_err-seen-clause-err
returns-in_err-seen-clause-err c =
    let old = c.args.self.now in
    on_any _ (loses_seen old (record { linked = old.linked; store = c.see_all.new.store; fresh = old.fresh }) refl refl c.see_all.ensures.stands)

pub returns-in_err-put-clause-err : goal.returns-in_err-put-clause-err
returns-in_err-put-clause-err c =
    let old = c.args.self.now in
    on_any _ (loses_seen old (record { linked = c.put.new.self; store = c.see_all.new.store; fresh = old.fresh }) c.in_err-put.ensures.err refl c.see_all.ensures.stands)

pub returns-clause-ok : goal.returns-clause-ok
returns-clause-ok c =
    let new = memo_cells_of c.keep_all.new.store in
    are_put c.texts_may_change.ensures c.texts_after_changes.ensures.put c.changes_keep_modules.ensures.put c.args.self.now (record { linked = c.put.new.self; store = c.keep_all.new.store; fresh = c.new.result }) c.args.found c.requires.modules
    c.in_ok-seen.seen c.see_all.new.store c.in_ok-names.names (c.in_ok-names.ensures ∙ ap (λ fs. names_in (map source_text fs)) c.as_slice.ensures) c.see_all.ensures.stands c.see_all.ensures.rests
    (subst (λ fs. ArePlaced (memo_cells_of c.see_all.new.store) (map source_text fs) c.in_ok-seen.seen) c.as_slice-2.ensures c.in_ok-seen.ensures.placed) c.new.ensures c.texts_after_changes.ensures.replaced c.requires.differ c.in_ok-put.ensures.ok
    (subst (λ ss. KeepsTexts (memo_cells_of c.see_all.new.store) ss new) c.as_slice-3.ensures c.keep_all.ensures)
