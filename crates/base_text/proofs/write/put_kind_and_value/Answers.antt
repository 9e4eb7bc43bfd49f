use Rattle.std.proofs.Common.{[], ◌∷◌, ◌++◌, ap, ◌∙◌}
use Rattle.std.proofs.lemmas.Result.{on_ok_weaker}
use Rattle.serde_json.specs.Data.{string}
use Rattle.serde_json.specs.Written.{compact_text}
use Rattle.serde_json.proofs.OnLiterals.{serde_json_on_literals}
use Rattle.session_texts.specs.pipsmake_rules.Kinds.{name_of}
use Rattle.base_json.specs.Written.{text_data}
use Rattle.base_values.specs.Sizes.{kind_of}
use Rattle.base_values.specs.Written.{stored_data}
use Rattle.base_values.proofs.SevenJoins.{joined_seven}
use Rattle.base_text.specs.Modules.{known_names}
use Rattle.base_text.specs.Written.{names_for}
use Rattle.base_text.proofs.write.put_kind_and_value.Goals as goal

pub returns : goal.returns
unfolding serde_json_on_literals
returns c =
    let kind = 44 ∷ 34 ∷ 107 ∷ 105 ∷ 110 ∷ 100 ∷ 34 ∷ 58 ∷ [] in
    let name = 44 ∷ 34 ∷ 110 ∷ 97 ∷ 109 ∷ 101 ∷ 34 ∷ 58 ∷ [] in
    let value = 44 ∷ 34 ∷ 118 ∷ 97 ∷ 108 ∷ 117 ∷ 101 ∷ 34 ∷ 58 ∷ [] in
    let r = c.args.stored.now in
    let names = (names_for (known_names c.args.known.now) r.name).names in
    on_ok_weaker c.push.result
    (joined_seven c.args.out.now c.append.new.self c.put_kind.new.out c.append-2.new.self c.put_text.new.out c.append-3.new.self c.put_found.new.out c.push.new.self
    kind (compact_text (string (name_of (kind_of r.value)))) name (compact_text (text_data r.name)) value (compact_text (stored_data names r.value)) (125 ∷ [])
    c.in_ok-append.ensures.ok (c.in_ok-put_kind.ensures ∙ ap (λ k. c.append.new.self ++ compact_text (string (name_of k))) c.kind_of.ensures)
    c.in_ok-append-2.ensures.ok c.in_ok-put_text.ensures c.in_ok-append-3.ensures.ok c.in_ok-put_found.ensures)
    c.push.ensures.ok
