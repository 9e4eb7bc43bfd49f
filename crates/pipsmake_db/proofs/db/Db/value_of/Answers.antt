use Rattle.std.proofs.Common.{refl, ◌∙◌}
use Rattle.pipsmake_db.proofs.MakeLaws.{loses_linked}
use Rattle.pipsmake_db.proofs.ShowLaws.{shows_linked}
use Rattle.pipsmake_db.proofs.db.Db.value_of.Goals as goal

pub returns-in-Ok-clause-ok : goal.returns-in-Ok-clause-ok
returns-in-Ok-clause-ok c =
    let old = c.args.self.now in
    shows_linked c.making_may_stop.ensures c.resting_stays.ensures c.texts_are_shown.ensures old (record { linked = c.links.new.self; store = old.store; fresh = old.fresh }) c.ready-done.new.self
    (record { linked = c.give_back.new.self; store = c.ready-done.new.self.store; fresh = c.in-Ok.ready.brought.fresh })
    c.args.kind c.args.name.now c.requires.owned c.in_ok-links.ensures.linked c.in_ok-links.ensures.same refl refl (c.give_back.ensures ∙ c.ready-done.ensures.texts) refl c.args.show c.in-Ok.ready c.in-Ok.ensures.ok refl

pub returns-in-Err-clause-left : goal.returns-in-Err-clause-left
returns-in-Err-clause-left c =
    let old = c.args.self.now in
    loses_linked c.making_may_stop.ensures old (record { linked = c.links.new.self; store = old.store; fresh = old.fresh }) c.ready-done.new.self (record { linked = c.give_back.new.self; store = c.ready-done.new.self.store; fresh = c.ready-done.new.self.fresh })
    c.args.kind c.args.name.now c.requires.owned c.in_ok-links.ensures.linked c.in_ok-links.ensures.same refl refl (c.give_back.ensures ∙ c.ready-done.ensures.texts) refl c.ready-done.ensures.fresh c.in-Err.ensures.err
