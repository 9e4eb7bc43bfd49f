use Rattle.std.proofs.Common.{◌<◌, ◌∙◌, length, rules}
use Rattle.session_texts.proofs.WordLemmas.{word_more}
use Rattle.session_texts.proofs.words.words_of.Goals as goal

pub loop-rest-preserved-in_ok-push : goal.loop-rest-preserved-in_ok-push
loop-rest-preserved-in_ok-push c =
    let more : 0 < length c.loop-rest.rest.now = search rules in
    let some : 0 < length c.first_piece.result.0.now = search rules in
    word_more c.loop-rest.words c.push.new.self c.loop-rest.rest.now c.first_piece.result.0.now c.first_piece.result.1.now c.in_ok-in_capitals.field-0 more some c.first_piece.ensures.piece c.first_piece.ensures.rest
    c.in_ok-in_capitals.ensures c.in_ok-push.ensures.ok
    ∙ c.loop-rest.invariant
