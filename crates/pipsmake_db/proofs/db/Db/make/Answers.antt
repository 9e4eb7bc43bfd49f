use Rattle.pipsmake_db.specs.Refusals.{make_refusal}
use Rattle.pipsmake_db.specs.State.{texts_of}
use Rattle.pipsmake_db.proofs.AskedLaws.{make_asked, makes_named}
use Rattle.pipsmake_db.proofs.LinkLaws.{is_refused}
use Rattle.pipsmake_db.proofs.db.Db.make.Goals as goal
use Rattle.fx_lists.proofs.Options.{if_ok}

pub returns-in-Ok-clause-ok : goal.returns-in-Ok-clause-ok
returns-in-Ok-clause-ok c = if_ok c.make_of.result (λ now m. makes_named c.args.self.now c.make_of.new.self c.args.kind.now c.args.name.now c.in-Ok.kind now c.in-Ok.ensures.ok m) c.make_of.ensures.ok

pub returns-in-Err-clause-refused : goal.returns-in-Err-clause-refused
returns-in-Err-clause-refused c =
    is_refused (make_refusal (texts_of c.args.self.now) c.args.kind.now c.args.name.now) c.in-Err.refusal (make_asked (texts_of c.args.self.now) c.args.kind.now c.args.name.now c.in-Err.refusal c.in-Err.ensures.refused)
