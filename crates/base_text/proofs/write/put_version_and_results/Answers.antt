use Rattle.std.proofs.Common.{[], ◌∷◌, ◌++◌, map, decimal, ap, ◌∙◌}
use Rattle.std.proofs.lemmas.Result.{on_ok_weaker}
use Rattle.serde_json.specs.Written.{compact_text}
use Rattle.serde_json.proofs.OnLiterals.{serde_json_on_literals}
use Rattle.base_json.specs.Written.{list_data}
use Rattle.base_values.proofs.Joins.{joined}
use Rattle.base_text.specs.Modules.{known_names}
use Rattle.base_text.specs.Written.{result_data}
use Rattle.base_text.proofs.write.put_version_and_results.Goals as goal

pub returns : goal.returns
unfolding serde_json_on_literals
returns c =
    let version = 44 ∷ 34 ∷ 112 ∷ 105 ∷ 112 ∷ 115 ∷ 34 ∷ 58 ∷ [] in
    let results = 44 ∷ 34 ∷ 114 ∷ 101 ∷ 115 ∷ 117 ∷ 108 ∷ 116 ∷ 115 ∷ 34 ∷ 58 ∷ [] in
    let k = known_names c.args.known.now in
    on_ok_weaker c.push.result
    (joined c.args.out.now c.append.new.self c.put_number.new.out c.append-2.new.self c.put_list.new.out c.push.new.self version (decimal 2) results
    (compact_text (list_data (map (result_data k) c.args.results.now))) (125 ∷ []) c.in_ok-append.ensures.ok c.in_ok-put_number.ensures c.in_ok-append-2.ensures.ok
    (c.in_ok-put_list.ensures ∙ ap (λ rs. c.append-2.new.self ++ compact_text (list_data (map (result_data k) rs))) c.as_slice.ensures))
    c.push.ensures.ok
