-- All laws of the rules.
use Rattle.transformer_algebra.specs.Laws.{RulesHold, LoopRulesHold}
use Rattle.transformer_algebra.proofs.RuleLaws.{does_then, holds_apply, holds_without, does_test, does_one}
use Rattle.transformer_algebra.proofs.TurnLaws.{does_closed}
use Rattle.transformer_algebra.proofs.LoopLaws.{does_turn, does_zero, does_some, holds_turn, holds_zero, holds_some}

pub rules_hold : RulesHold
rules_hold = record {
  then_does = λ m. does_then m;
  apply_holds = λ m. holds_apply m;
  without_holds = λ m. holds_without m;
  test_does = λ m. does_test m;
  one_does = λ m. does_one m;
  closed_does = λ m. does_closed m;
}

pub loop_rules_hold : LoopRulesHold
loop_rules_hold = record {
  turn_does = λ m l t s a b x x1 k. does_turn m l t s a b x x1 k.step k.index k.tracks k.changes k.first k.last k.wrote;
  zero_does = λ m l t s a b x x1 k. does_zero m l t s a b x x1 k.step k.index k.tracks k.changes k.first k.last k.wrote;
  some_does = λ m l t s a b x x1 k. does_some m l t s a b x x1 k.step k.index k.tracks k.changes k.first k.last k.wrote;
  turn_holds = λ m l t s a b x x1 k. holds_turn m l t s a b x x1 k.step k.index k.tracks k.changes k.first k.last k.wrote;
  zero_holds = λ m l t s a b x x1 k. holds_zero m l t s a b x x1 k.step k.index k.tracks k.changes k.first k.last k.wrote;
  some_holds = λ m l t s a b x x1 k. holds_some m l t s a b x x1 k.step k.index k.tracks k.changes k.first k.last k.wrote;
}
