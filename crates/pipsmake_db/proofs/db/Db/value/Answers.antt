use Rattle.pipsmake_db.specs.Refusals.{value_refusal}
use Rattle.pipsmake_db.specs.State.{texts_of}
use Rattle.pipsmake_db.proofs.AskedLaws.{value_asked, shows_named}
use Rattle.pipsmake_db.proofs.LinkLaws.{is_refused}
use Rattle.pipsmake_db.proofs.db.Db.value.Goals as goal
use Rattle.fx_lists.proofs.Options.{if_ok}

pub returns-in-Ok-clause-ok : goal.returns-in-Ok-clause-ok
returns-in-Ok-clause-ok c = if_ok c.shown_of.result (λ s m. shows_named c.args.self.now c.shown_of.new.self c.args.kind.now c.args.name.now c.in-Ok.kind c.args.show s c.in-Ok.ensures.ok m) c.shown_of.ensures.ok

pub returns-in-Err-clause-refused : goal.returns-in-Err-clause-refused
returns-in-Err-clause-refused c =
    is_refused (value_refusal (texts_of c.args.self.now) c.args.kind.now c.args.name.now) c.in-Err.refusal (value_asked (texts_of c.args.self.now) c.args.kind.now c.args.name.now c.in-Err.refusal c.in-Err.ensures.refused)
