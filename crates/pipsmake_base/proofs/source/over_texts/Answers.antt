use Rattle.pipsmake_base.proofs.Sources.{differ, over}
use Rattle.pipsmake_base.proofs.source.over_texts.Goals as goal

pub put-requires-clause-modules : goal.put-requires-clause-modules
put-requires-clause-modules c = c.in_ok-found.ensures.are

pub put-requires-clause-differ : goal.put-requires-clause-differ
put-requires-clause-differ c = differ c.args.modules.now c.in_ok-found.found c.requires c.in_ok-found.ensures

pub returns : goal.returns
returns c = over c.args.modules.now c.in_ok-found.found c.new-db.result c.put.new.self _ c.requires c.in_ok-found.ensures c.new-db.ensures c.in_ok-put.ensures.ok
