use Rattle.pipsmake_db.proofs.CommandLemmas.{on_ok_both, module_dropped, refused_drop}
use Rattle.pipsmake_db.proofs.command.answer_drop.Goals as goal
use Rattle.fx_lists.proofs.Options.{on_ok}

pub returns-in-Ok : goal.returns-in-Ok
returns-in-Ok c = on_ok c.write_dropped.result (module_dropped c.args.name.now c.args.db.now c.drop_module.new.self c.args.out.now c.write_dropped.new.out c.in-Ok.ensures.ok) c.write_dropped.ensures

pub returns-in-Err : goal.returns-in-Err
returns-in-Err c =
    on_ok_both c.write_refusal.result (refused_drop c.args.name.now c.args.db.now c.drop_module.new.self c.args.out.now c.write_refusal.new.out c.in-Err.refusal c.in-Err.ensures.refused c.in-Err.ensures.left)
    c.write_refusal.ensures.line c.write_refusal.ensures.said
