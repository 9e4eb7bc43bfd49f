use Rattle.std.proofs.Common.{[], ◌∷◌, ◌++◌, ap, ◌∙◌}
use Rattle.std.proofs.lemmas.Result.{on_ok_weaker}
use Rattle.serde_json.specs.Written.{compact_text}
use Rattle.serde_json.proofs.OnLiterals.{serde_json_on_literals}
use Rattle.f77_ast.specs.Index.{names_of}
use Rattle.base_values.specs.Written.{pieces_data, variable_data}
use Rattle.base_values.proofs.Joins.{joined}
use Rattle.base_values.proofs.put.put_of_and_pieces.Goals as goal

pub returns : goal.returns
unfolding serde_json_on_literals
returns c =
    let of = 44 ∷ 34 ∷ 111 ∷ 102 ∷ 34 ∷ 58 ∷ [] in
    let pieces = 44 ∷ 34 ∷ 112 ∷ 105 ∷ 101 ∷ 99 ∷ 101 ∷ 115 ∷ 34 ∷ 58 ∷ [] in
    let region = c.args.region.now in
    on_ok_weaker c.push.result
    (joined c.args.out.now c.append.new.self c.put.new.out c.append-2.new.self c.put_list.new.out c.push.new.self of (compact_text (variable_data (names_of c.args.scope.now.symbols.now) region.variable)) pieces
    (compact_text (pieces_data region.pieces)) (125 ∷ []) c.in_ok-append.ensures.ok c.in_ok-put.ensures c.in_ok-append-2.ensures.ok
    (c.in_ok-put_list.ensures ∙ ap (λ ps. c.append-2.new.self ++ compact_text (pieces_data ps)) c.as_slice.ensures))
    c.push.ensures.ok
