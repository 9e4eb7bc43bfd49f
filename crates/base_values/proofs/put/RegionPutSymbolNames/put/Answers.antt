use Rattle.std.proofs.Common.{[], ◌∷◌, true}
use Rattle.std.specs.Prelude.{codes}
use Rattle.std.proofs.lemmas.Result.{on_ok_weaker}
use Rattle.serde_json.specs.Data.{boolean, string, member, no_members}
use Rattle.serde_json.specs.Written.{compact_text, members_text}
use Rattle.serde_json.proofs.OnLiterals.{serde_json_on_literals}
use Rattle.f77_ast.specs.Index.{names_of}
use Rattle.base_values.specs.Words.{access_word}
use Rattle.base_values.specs.Written.{pieces_data, variable_data}
use Rattle.base_values.proofs.Joins.{joined}
use Rattle.base_values.proofs.put.RegionPutSymbolNames.put.Goals as goal

pub returns : goal.returns
unfolding serde_json_on_literals
returns c =
    let exact = 123 ∷ 34 ∷ 101 ∷ 120 ∷ 97 ∷ 99 ∷ 116 ∷ 34 ∷ 58 ∷ [] in
    let kind = 44 ∷ 34 ∷ 107 ∷ 105 ∷ 110 ∷ 100 ∷ 34 ∷ 58 ∷ [] in
    let region = c.args.self.now in
    let rest = member (codes "of") (variable_data (names_of c.args.scope.now.symbols.now) region.variable) (member (codes "pieces") (pieces_data region.pieces) no_members) in
    on_ok_weaker c.put_of_and_pieces.result
    (joined c.args.out.now c.append.new.self c.put_flag.new.out c.append-2.new.self c.put_access.new.out c.put_of_and_pieces.new.out exact (compact_text (boolean region.exact)) kind
    (compact_text (string (access_word region.kind))) (members_text true rest) c.in_ok-append.ensures.ok c.in_ok-put_flag.ensures c.in_ok-append-2.ensures.ok c.in_ok-put_access.ensures)
    c.put_of_and_pieces.ensures
