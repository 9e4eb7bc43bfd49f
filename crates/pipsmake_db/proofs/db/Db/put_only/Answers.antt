use Rattle.std.proofs.Common.{map, refl, subst, ap, ◌∙◌}
use Rattle.session_texts.specs.pipsmake_meaning.Texts.{names_in}
use Rattle.result_store.specs.Rows.{memo_cells_of}
use Rattle.session_texts.specs.Modules.{source_text}
use Rattle.pipsmake_db.specs.State.{gone_of}
use Rattle.pipsmake_db.specs.Texts.{ArePlaced, KeepsTexts, StaysWithout, StandsWithout}
use Rattle.pipsmake_db.proofs.ListLaws.{on_any}
use Rattle.pipsmake_db.proofs.PutLaws.{loses_seen, are_put_only}
use Rattle.pipsmake_db.proofs.db.Db.put_only.Goals as goal

pub returns-in_err-seen-clause-err : goal.returns-in_err-seen-clause-err
returns-in_err-seen-clause-err c =
    let old = c.args.self.now in
    on_any _ (loses_seen old (record { linked = old.linked; store = c.see_all.new.store; fresh = old.fresh }) refl refl c.see_all.ensures.stands)

pub returns-in_err-put_only-clause-err : goal.returns-in_err-put_only-clause-err
returns-in_err-put_only-clause-err c =
    let old = c.args.self.now in
    on_any _ (loses_seen old (record { linked = c.put_only.new.self; store = c.see_all.new.store; fresh = old.fresh }) c.in_err-put_only.ensures.err refl c.see_all.ensures.stands)

pub returns-clause-ok : goal.returns-clause-ok
returns-clause-ok c =
    let mid = memo_cells_of c.see_all.new.store in
    let left = memo_cells_of c.forget_all.new.store in
    let found = map source_text c.args.found in
    are_put_only c.texts_may_change.ensures c.texts_after_changes.ensures.put c.changes_keep_modules.ensures.put c.args.self.now (record { linked = c.put_only.new.self; store = c.keep_all.new.store; fresh = c.new.result }) c.args.found c.requires.modules
    c.in_ok-seen.seen c.see_all.new.store c.in_ok-names.names (c.in_ok-names.ensures ∙ ap (λ fs. names_in (map source_text fs)) c.as_slice.ensures) c.see_all.ensures.stands c.see_all.ensures.rests
    (subst (λ fs. ArePlaced mid (map source_text fs) c.in_ok-seen.seen) c.as_slice-2.ensures c.in_ok-seen.ensures.placed) c.new.ensures c.texts_after_changes.ensures.replaced c.requires.differ
    c.texts_may_go.ensures c.in_ok-before.before c.forget_all.new.store (c.in_ok-before.ensures ∙ c.names.ensures.names ∙ ap names_in c.sources.ensures) c.in_ok-put_only.ensures.ok
    c.forget_all.ensures.texts
    (subst (λ xs. StandsWithout mid (gone_of found xs) left) c.as_slice-3.ensures (subst (λ ts. StandsWithout mid (gone_of ts c.as_slice-3.result.now) left) (c.sources-2.ensures ∙ c.in_ok-put_only.ensures.ok) c.forget_all.ensures.stands))
    (subst (λ xs. StaysWithout mid (gone_of found xs) left) c.as_slice-3.ensures (subst (λ ts. StaysWithout mid (gone_of ts c.as_slice-3.result.now) left) (c.sources-2.ensures ∙ c.in_ok-put_only.ensures.ok) c.forget_all.ensures.stays))
    (subst (λ ss. KeepsTexts left ss (memo_cells_of c.keep_all.new.store)) c.as_slice-4.ensures c.keep_all.ensures)
