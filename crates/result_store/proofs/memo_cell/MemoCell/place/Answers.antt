use Rattle.std.proofs.Common.{◌≡◌, ◌+◌, ◌-◌, ◌<◌, true, false, length, map, drop, sym, subst, ◌∙◌, arith}
use Rattle.pipsmake_meaning.specs.MemoCells.{IsNew}
use Rattle.result_store.specs.Values.{value_tree}
use Rattle.result_store.proofs.MemoCellLaws.{is_new_before}
use Rattle.result_store.proofs.memo_cell.MemoCell.place.Goals as goal

pub loop-at-preserved : goal.loop-at-preserved
loop-at-preserved c =
    let seen = c.as_slice-seen.result.now in
    let v = value_tree c.args.value.now in
    let next : c.loop-at.at - 1 + 1 ≡ c.loop-at.at = omega (arith, c.loop-at-test.true) in
    let within : c.loop-at.at - 1 < length c.as_slice-seen.result.now = omega (arith, c.loop-at.invariant.0, c.loop-at-test.true) in
    let differs : value_tree c.index-seen-at.result ≡ value_tree c.args.value.now → ⊥ = λ e. let t : false ≡ true = sym c.if-same_value.false ∙ c.same_value.ensures.1 e in cc in (
      omega (arith, within),
      is_new_before v seen (c.loop-at.at - 1) c.index-seen-at.result within c.index-seen-at.is differs
          (subst (λ k. IsNew (value_tree c.args.value.now) (drop k (map value_tree c.as_slice-seen.result.now))) (sym next) c.loop-at.invariant.1),
    )
