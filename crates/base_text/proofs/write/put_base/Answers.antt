use Rattle.std.proofs.Common.{[], ◌∷◌, ◌++◌, append_assoc, map, ap, ◌∙◌, true}
use Rattle.std.specs.Prelude.{codes}
use Rattle.std.proofs.lemmas.Result.{on_ok_weaker}
use Rattle.serde_json.specs.Data.{member, no_members}
use Rattle.serde_json.specs.Written.{compact_text, members_text}
use Rattle.serde_json.proofs.OnLiterals.{serde_json_on_literals}
use Rattle.base_json.specs.Written.{list_data, number_data}
use Rattle.base_text.specs.Modules.{known_names}
use Rattle.base_text.specs.Written.{module_data, result_data}
use Rattle.base_text.proofs.write.put_base.Goals as goal

pub returns : goal.returns
unfolding serde_json_on_literals
returns c =
    let modules = 123 ∷ 34 ∷ 109 ∷ 111 ∷ 100 ∷ 117 ∷ 108 ∷ 101 ∷ 115 ∷ 34 ∷ 58 ∷ [] in
    let k = known_names c.args.known.now in
    let texts = compact_text (list_data (map module_data c.args.modules.now)) in
    let rest = members_text true (member (codes "pips") (number_data 2) (member (codes "results") (list_data (map (result_data k) c.args.results.now)) no_members)) in
    let before = c.in_ok-put_list.ensures ∙ (ap (λ ms. c.append.new.self ++ compact_text (list_data (map module_data ms))) c.as_slice.ensures ∙ ap (λ o. o ++ texts) c.in_ok-append.ensures.ok) in
    on_ok_weaker c.put_version_and_results.result
    (λ e. e ∙ (ap (λ o. o ++ rest) before ∙ (append_assoc (c.args.out.now ++ modules) texts rest ∙ append_assoc c.args.out.now modules (texts ++ rest))))
    c.put_version_and_results.ensures
