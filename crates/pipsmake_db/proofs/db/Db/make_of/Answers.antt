use Rattle.std.proofs.Common.{refl, ◌∙◌}
use Rattle.pipsmake_db.proofs.MakeLaws.{makes_linked, loses_linked}
use Rattle.pipsmake_db.proofs.db.Db.make_of.Goals as goal

pub returns-in-Ok-clause-ok : goal.returns-in-Ok-clause-ok
returns-in-Ok-clause-ok c =
    let old = c.args.self.now in
    makes_linked c.making_may_stop.ensures old (record { linked = c.links.new.self; store = old.store; fresh = old.fresh }) c.brought-done.new.self (record { linked = c.give_back.new.self; store = c.brought-done.new.self.store; fresh = c.in-Ok.brought.fresh })
    c.args.kind c.args.name.now c.requires c.in_ok-links.ensures.linked c.in_ok-links.ensures.same refl refl (c.give_back.ensures ∙ c.brought-done.ensures.texts) refl c.resting_stays.ensures c.in-Ok.brought c.in-Ok.ensures.ok refl

pub returns-in-Err-clause-left : goal.returns-in-Err-clause-left
returns-in-Err-clause-left c =
    let old = c.args.self.now in
    loses_linked c.making_may_stop.ensures old (record { linked = c.links.new.self; store = old.store; fresh = old.fresh }) c.brought-done.new.self (record { linked = c.give_back.new.self; store = c.brought-done.new.self.store; fresh = c.brought-done.new.self.fresh })
    c.args.kind c.args.name.now c.requires c.in_ok-links.ensures.linked c.in_ok-links.ensures.same refl refl (c.give_back.ensures ∙ c.brought-done.ensures.texts) refl c.brought-done.ensures.fresh c.in-Err.ensures.err
