use Rattle.std.proofs.Common.{[], ◌∷◌, ◌++◌, map, ap, ◌∙◌}
use Rattle.std.proofs.lemmas.Result.{on_ok_weaker}
use Rattle.serde_json.specs.Written.{compact_text}
use Rattle.serde_json.proofs.OnLiterals.{serde_json_on_literals}
use Rattle.base_json.specs.Written.{list_data, number_data}
use Rattle.base_json.specs.RowsWritten.{system_data}
use Rattle.base_values.specs.Written.{unit_data}
use Rattle.base_values.proofs.SevenJoins.{joined_seven}
use Rattle.base_values.proofs.put.TransformerPutSymbolNames.put.Goals as goal

pub returns : goal.returns
unfolding serde_json_on_literals
returns c =
    let cells = 123 ∷ 34 ∷ 99 ∷ 101 ∷ 108 ∷ 108 ∷ 115 ∷ 34 ∷ 58 ∷ [] in
    let foreign = 44 ∷ 34 ∷ 102 ∷ 111 ∷ 114 ∷ 101 ∷ 105 ∷ 103 ∷ 110 ∷ 34 ∷ 58 ∷ [] in
    let system = 44 ∷ 34 ∷ 115 ∷ 121 ∷ 115 ∷ 116 ∷ 101 ∷ 109 ∷ 34 ∷ 58 ∷ [] in
    let it = c.args.self.now in
    on_ok_weaker c.push.result
    (joined_seven c.args.out.now c.append.new.self c.put_list.new.out c.append-2.new.self c.put_list-2.new.out c.append-3.new.self c.put_system.new.out c.push.new.self
    cells (compact_text (list_data (map number_data it.cells))) foreign (compact_text (list_data (map unit_data it.foreign))) system (compact_text (system_data it.system)) (125 ∷ [])
    c.in_ok-append.ensures.ok (c.in_ok-put_list.ensures ∙ ap (λ xs. c.append.new.self ++ compact_text (list_data (map number_data xs))) c.as_slice.ensures)
    c.in_ok-append-2.ensures.ok (c.in_ok-put_list-2.ensures ∙ ap (λ xs. c.append-2.new.self ++ compact_text (list_data (map unit_data xs))) c.as_slice-2.ensures)
    c.in_ok-append-3.ensures.ok c.in_ok-put_system.ensures)
    c.push.ensures.ok
