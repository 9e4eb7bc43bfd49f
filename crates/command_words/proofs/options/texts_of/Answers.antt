use Rattle.std.proofs.Common.{arith, rules, subst, sym}
use Rattle.std.proofs.lemmas.Grind.{common_steps}
use Rattle.std.specs.Str.{IsUtf8}
use Rattle.command_words.proofs.TextsLemmas.{texts-first, texts-more}
use Rattle.command_words.proofs.options.texts_of.Goals as goal

pub returns-in-Err-clause-not_utf8 : goal.returns-in-Err-clause-not_utf8
returns-in-Err-clause-not_utf8 c = λ all.
    let first = texts-first c.args.words.now c.loop-word.word-index c.word-item.result c.word-item.result c.loop-word-test.true c.word-item.is (c.loop-word.invariant.rest all) in
    c.in-Err.ensures.cases.0 (subst IsUtf8 (sym c.as_slice.ensures) first.0)

pub loop-word-preserved : goal.loop-word-preserved
loop-word-preserved c = record {
  text = grind (arith, common_steps);
  all = λ more. c.loop-word.invariant.all (texts-more c.args.words.now c.loop-word.word-index c.word-item.result c.word-item.result c.loop-word-test.true c.word-item.is (subst IsUtf8 c.as_slice.ensures c.in-Ok.ensures.cases.1) more);
  rest = λ all. (texts-first c.args.words.now c.loop-word.word-index c.word-item.result c.word-item.result c.loop-word-test.true c.word-item.is (c.loop-word.invariant.rest all)).1;
}
