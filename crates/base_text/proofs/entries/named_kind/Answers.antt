use Rattle.std.proofs.Common.{ap, ◌∙◌}
use Rattle.std.specs.Prelude.{option_and_then}
use Rattle.session_texts.specs.pipsmake_rules.Kinds.{kind_with}
use Rattle.base_text.proofs.NamedKinds.{with_name}
use Rattle.base_text.proofs.entries.named_kind.Goals as goal

pub returns-in-Some : goal.returns-in-Some
returns-in-Some c =
    with_name c.with_name.result c.as_bytes.result.now c.with_name.ensures.found c.with_name.ensures.none
    ∙ (ap kind_with c.as_bytes.ensures.value ∙ ap (option_and_then kind_with) c.in-Some.ensures)
