use Rattle.std.proofs.Common.{[], ◌∷◌}
use Rattle.std.proofs.lemmas.Result.{on_ok_weaker}
use Rattle.serde_json.specs.Written.{compact_text}
use Rattle.serde_json.proofs.OnLiterals.{serde_json_on_literals}
use Rattle.base_json.specs.Written.{text_data}
use Rattle.base_values.proofs.Joins.{joined}
use Rattle.base_text.proofs.write.BaseModulePutKnown.put.Goals as goal

pub returns : goal.returns
unfolding serde_json_on_literals
returns c =
    let name = 123 ∷ 34 ∷ 110 ∷ 97 ∷ 109 ∷ 101 ∷ 34 ∷ 58 ∷ [] in
    let text = 44 ∷ 34 ∷ 116 ∷ 101 ∷ 120 ∷ 116 ∷ 34 ∷ 58 ∷ [] in
    let m = c.args.self.now in
    on_ok_weaker c.push.result
    (joined c.args.out.now c.append.new.self c.put_text.new.out c.append-2.new.self c.put_text-2.new.out c.push.new.self name (compact_text (text_data m.name)) text (compact_text (text_data m.text)) (125 ∷ [])
    c.in_ok-append.ensures.ok c.in_ok-put_text.ensures c.in_ok-append-2.ensures.ok c.in_ok-put_text-2.ensures)
    c.push.ensures.ok
