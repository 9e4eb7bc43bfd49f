use Rattle.std.proofs.Common.{◌∙◌, ap}
use Rattle.session_texts.specs.pipsmake_rules.Kinds.{kind_with}
use Rattle.pipsmake_db.proofs.command.kind_with.Goals as goal
use Rattle.pipsmake_db.proofs.AskedLaws.{kind_is as found_kind}

pub returns : goal.returns
returns c = found_kind c.as_slice.result.now c.with_name.result c.with_name.ensures.found c.with_name.ensures.none ∙ ap kind_with c.as_slice.ensures
