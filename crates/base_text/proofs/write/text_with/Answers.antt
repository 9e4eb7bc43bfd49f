use Rattle.std.proofs.Common.{◌≡◌, ◌++◌, subst, ap, ◌∙◌}
use Rattle.serde_json.specs.Written.{compact_text}
use Rattle.base_values.specs.Naming.{Each}
use Rattle.base_values.specs.Ranges.{NumbersFit}
use Rattle.base_text.specs.declared.base.StoredResult.{StoredResult}
use Rattle.base_text.specs.Modules.{known_names}
use Rattle.base_text.specs.Written.{data_for, data_with, base_text}
use Rattle.base_text.proofs.TextsBack.{text_read}
use Rattle.base_text.proofs.write.text_with.Goals as goal

pub returns : goal.returns
unfolding base_text
returns c =
    let ms = c.args.modules.now in
    let rs = c.args.results.now in
    let text : c.put_base.new.out ≡ compact_text (data_with ms rs) =
    c.in_ok-put_base.ensures ∙ ap (λ old. old ++ compact_text (data_for (known_names c.args.known.now) ms rs)) c.new-out.ensures ∙ ap (λ k. compact_text (data_for k ms rs)) c.requires in
    let fit : Each (λ (r : StoredResult). NumbersFit r.value) rs = subst (Each (λ (r : StoredResult). NumbersFit r.value)) c.as_slice.ensures c.all_numbers_fit.ensures in
    record { text = text; reads_back = text_read ms rs c.put_base.new.out text fit }
