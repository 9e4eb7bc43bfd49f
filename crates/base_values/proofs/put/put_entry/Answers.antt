use Rattle.std.proofs.Common.{[], ◌∷◌, ◌++◌, map, ap, ◌∙◌}
use Rattle.std.proofs.lemmas.Result.{on_ok_weaker}
use Rattle.serde_json.specs.Written.{compact_text}
use Rattle.serde_json.proofs.OnLiterals.{serde_json_on_literals}
use Rattle.base_json.specs.Written.{list_data}
use Rattle.base_json.specs.RowsWritten.{system_data}
use Rattle.base_values.specs.Written.{at_data}
use Rattle.base_values.proofs.Joins.{joined}
use Rattle.base_values.proofs.put.put_entry.Goals as goal

pub returns : goal.returns
unfolding serde_json_on_literals
returns c =
    let at = 123 ∷ 34 ∷ 97 ∷ 116 ∷ 34 ∷ 58 ∷ [] in
    let entry = 44 ∷ 34 ∷ 101 ∷ 110 ∷ 116 ∷ 114 ∷ 121 ∷ 34 ∷ 58 ∷ [] in
    let results = c.args.results.now in
    on_ok_weaker c.push.result
    (joined c.args.out.now c.append.new.self c.put_list.new.out c.append-2.new.self c.put_system.new.out c.push.new.self at (compact_text (list_data (map (at_data system_data) results.at))) entry
    (compact_text (system_data results.summary)) (125 ∷ []) c.in_ok-append.ensures.ok
    (c.in_ok-put_list.ensures ∙ ap (λ xs. c.append.new.self ++ compact_text (list_data (map (at_data system_data) xs))) c.as_slice.ensures) c.in_ok-append-2.ensures.ok c.in_ok-put_system.ensures)
    c.push.ensures.ok
