use Rattle.pipsmake_base.proofs.MadeLaws.{on_ok_from, refused_made, refused_texts, refused_in}
use Rattle.pipsmake_base.proofs.StaleLaws.{made_named}
use Rattle.pipsmake_base.proofs.made.made.Goals as goal
use Rattle.fx_lists.proofs.Options.{if_ok as if_ok_to}

pub returns-in-Ok-clause-is : goal.returns-in-Ok-clause-is
returns-in-Ok-clause-is c = (made_named c.tables_ignore_places.ensures c.graphs_ignore_places.ensures c.args.db.now c.make.new.self c.args.kind c.in_ok-word.word c.args.name.now _ c.in_ok-word.ensures c.in-Ok.ensures.ok c.requires).0

pub returns-in-Ok-clause-texts : goal.returns-in-Ok-clause-texts
returns-in-Ok-clause-texts c = (made_named c.tables_ignore_places.ensures c.graphs_ignore_places.ensures c.args.db.now c.make.new.self c.args.kind c.in_ok-word.word c.args.name.now _ c.in_ok-word.ensures c.in-Ok.ensures.ok c.requires).1

pub returns-in-Ok-clause-in_some : goal.returns-in-Ok-clause-in_some
returns-in-Ok-clause-in_some c = (made_named c.tables_ignore_places.ensures c.graphs_ignore_places.ensures c.args.db.now c.make.new.self c.args.kind c.in_ok-word.word c.args.name.now _ c.in_ok-word.ensures c.in-Ok.ensures.ok c.requires).2

pub returns-clause-is : goal.returns-clause-is
returns-clause-is c =
    if_ok_to c.no_result.result (λ b t. refused_made c.args.db.now c.make.new.self c.args.kind c.in_ok-word.word c.args.name.now c.in-Err.refusal b c.in_ok-word.ensures c.in-Err.ensures.refused t) c.no_result.ensures

pub returns-clause-texts : goal.returns-clause-texts
returns-clause-texts c = on_ok_from c.no_result.result (λ b t. refused_texts c.args.db.now c.make.new.self c.in-Err.refusal b c.in-Err.ensures.left t) c.no_result.ensures

pub returns-clause-in_some : goal.returns-clause-in_some
returns-clause-in_some c = on_ok_from c.no_result.result (λ b t. refused_in c.args.db.now c.make.new.self c.in-Err.refusal b c.requires c.in-Err.ensures.left t) c.no_result.ensures
