use Rattle.std.proofs.Common.{refl}
use Rattle.pipsmake_db.specs.State.{texts_of}
use Rattle.pipsmake_db.proofs.PrintLemmas.{only_memory, prints_linked}
use Rattle.pipsmake_db.proofs.print.print_all.Goals as goal
use Rattle.fx_lists.proofs.Options.{if_ok}

pub returns-in-Ok : goal.returns-in-Ok
returns-in-Ok c =
    let old = c.args.db.now in
    if_ok c.print_rest-done.result
    (λ p h. prints_linked c.args.show old (record { linked = c.links.new.self; store = old.store; fresh = old.fresh }) c.print_rest-done.new.db
    (record { linked = c.give_back.new.self; store = c.print_rest-done.new.db.store; fresh = c.print_rest-done.new.db.fresh }) p c.in-Ok.ensures.same refl refl c.give_back.ensures refl refl h)
    c.print_rest-done.ensures.prints

pub memory_of-requires : goal.memory_of-requires
memory_of-requires c = only_memory (texts_of c.args.db.now) c.in-Err.refusal c.requires c.in-Err.ensures.refused
