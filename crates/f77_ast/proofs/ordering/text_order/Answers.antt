use Rattle.std.proofs.Common.{◌≡◌, ◌≤◌, length, Some, None, arith}
use Rattle.std.specs.Prelude.{slice_get}
use Rattle.f77_ast.specs.Variables.{variable_text}
use Rattle.f77_ast.proofs.OrderLaws.{is_less, is_greater, goes_on, first_alone, second_alone, none_at, past_equal, past_less}
use Rattle.f77_ast.proofs.ordering.text_order.Goals as goal

pub returns-then-x-y : goal.returns-then-x-y
returns-then-x-y c =
    let v = variable_text c.args.v.now in
    let w = variable_text c.args.w.now in
    let a : slice_get v c.loop-at.at ≡ Some c.in-Some-Some.x = cc in
    let b : slice_get w c.loop-at.at ≡ Some c.in-Some-Some.y = cc in
    is_less v w c.loop-at.at c.in-Some-Some.x c.in-Some-Some.y a b c.if-x-y.true c.loop-at.invariant

pub returns-then-y-x : goal.returns-then-y-x
returns-then-y-x c =
    let v = variable_text c.args.v.now in
    let w = variable_text c.args.w.now in
    let a : slice_get v c.loop-at.at ≡ Some c.in-Some-Some.x = cc in
    let b : slice_get w c.loop-at.at ≡ Some c.in-Some-Some.y = cc in
    is_greater v w c.loop-at.at c.in-Some-Some.x c.in-Some-Some.y a b c.if-y-x.true c.loop-at.invariant

pub returns-in-Some-None : goal.returns-in-Some-None
returns-in-Some-None c =
    let v = variable_text c.args.v.now in
    let w = variable_text c.args.w.now in
    let a : slice_get v c.loop-at.at ≡ Some c.in-Some-None.field-0-0 = cc in
    let b : slice_get w c.loop-at.at ≡ None = cc in
    let d = first_alone v w c.loop-at.at c.in-Some-None.field-0-0 a b in
    cc (d, c.loop-at.invariant)

pub returns-in-None-Some : goal.returns-in-None-Some
returns-in-None-Some c =
    let v = variable_text c.args.v.now in
    let w = variable_text c.args.w.now in
    let a : slice_get v c.loop-at.at ≡ None = cc in
    let b : slice_get w c.loop-at.at ≡ Some c.in-None-Some.field-0-1 = cc in
    let d = second_alone v w c.loop-at.at c.in-None-Some.field-0-1 a b in
    cc (d, c.loop-at.invariant)

pub returns-in-None-None : goal.returns-in-None-None
returns-in-None-None c =
    let v = variable_text c.args.v.now in
    let w = variable_text c.args.w.now in
    let a : slice_get v c.loop-at.at ≡ None = cc in
    let b : slice_get w c.loop-at.at ≡ None = cc in
    let d = none_at v w c.loop-at.at a b in
    cc (d, c.loop-at.invariant)

pub loop-at-preserved : goal.loop-at-preserved
loop-at-preserved c =
    let v = variable_text c.args.v.now in
    let w = variable_text c.args.w.now in
    let a : slice_get v c.loop-at.at ≡ Some c.in-Some-Some.x = cc in
    let b : slice_get w c.loop-at.at ≡ Some c.in-Some-Some.y = cc in
    goes_on v w c.loop-at.at c.in-Some-Some.x c.in-Some-Some.y a b c.if-y-x.false c.if-x-y.false c.loop-at.invariant

pub returns-in-None : goal.returns-in-None
returns-in-None c =
    let v = variable_text c.args.v.now in
    let w = variable_text c.args.w.now in
    let e : c.loop-at.at ≡ c.written_len-count.result = omega arith in
    let past : length v ≤ c.written_len-count.result = omega arith in
    let b : slice_get w c.written_len-count.result ≡ None = cc in
    past_equal v w c.loop-at.at c.written_len-count.result e past b c.loop-at.invariant

pub returns-in-Some : goal.returns-in-Some
returns-in-Some c =
    let v = variable_text c.args.v.now in
    let w = variable_text c.args.w.now in
    let e : c.loop-at.at ≡ c.written_len-count.result = omega arith in
    let past : length v ≤ c.written_len-count.result = omega arith in
    let b : slice_get w c.written_len-count.result ≡ Some c.in-Some.field-0 = cc in
    past_less v w c.loop-at.at c.written_len-count.result c.in-Some.field-0 e past b c.loop-at.invariant
