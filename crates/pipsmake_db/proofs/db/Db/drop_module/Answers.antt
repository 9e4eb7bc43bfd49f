use Rattle.std.proofs.Common.{sym, ◌∙◌, refl}
use Rattle.pipsmake_db.proofs.MakeLaws.{stays}
use Rattle.pipsmake_db.proofs.PutLaws.{drops}
use Rattle.pipsmake_db.proofs.TextLaws.{none_gone}
use Rattle.pipsmake_db.proofs.db.Db.drop_module.Goals as goal

pub returns-then-not-branch-clause-left : goal.returns-then-not-branch-clause-left
returns-then-not-branch-clause-left c =
    let now = c.args.self.now in
    stays now (record { linked = c.remove.new.self; store = now.store; fresh = now.fresh })
    (c.in_ok-remove.ensures.ok ∙ none_gone c.args.name.now now.linked (sym c.in_ok-remove.ensures.there ∙ c.if-not-branch.true)) refl refl

pub returns-clause-ok : goal.returns-clause-ok
returns-clause-ok c =
    let now = c.args.self.now in
    drops c.results_may_go.ensures c.texts_may_go.ensures c.texts_after_changes.ensures.without c.changes_keep_modules.ensures.without now (record { linked = c.remove.new.self; store = c.forget.new.self; fresh = c.new.result }) c.args.name.now
    (sym c.in_ok-remove.ensures.there ∙ c.if-not-branch.false) c.in_ok-remove.ensures.ok c.forget.ensures c.new.ensures
