use Rattle.std.proofs.Common.{◌++◌, List, ap, ap₂, ◌∙◌}
use Rattle.in_out_regions.specs.transformer_algebra.declared.transformer.Transformer.{Transformer}
use Rattle.in_out_regions.specs.region_sets.declared.region.Region.{Region}
use Rattle.in_out_regions.specs.region_sets.Lists.{all_composed}
use Rattle.out_regions.specs.Beside.{beside}
use Rattle.out_regions.specs.Contexts.{known_in}
use Rattle.out_regions.specs.Lists.{left_over}
use Rattle.out_regions.specs.Used.{all_out, used}
use Rattle.out_regions.proofs.BesideLaws.{first-beside}
use Rattle.out_regions.proofs.lists.first_out.Goals as goal
use Rattle.fx_lists.proofs.Options.{if_ok}

pub returns-clause-defined : goal.returns-clause-defined
returns-clause-defined c =
    let k = known_in c.args.known.now in
    let ss = k.scope.symbols in
    let r = c.args.rest.now in
    let does = k.does c.args.id in
    let full = λ (t : Transformer) (is ws os : List Region). all_out (all_composed t is) ++ all_out (left_over c.args.leaving (all_composed t ws) os) in
    let later =
    c.in_ok-later.ensures.defined
    ∙ (ap (λ (t : Transformer). full t c.as_slice-4.result.now c.as_slice-writes.result.now c.as_slice-5.result.now) c.in_ok-t.ensures.defined
    ∙ (ap (λ (is : List Region). full does is c.as_slice-writes.result.now c.as_slice-5.result.now) c.as_slice-4.ensures
    ∙ (ap (λ (ws : List Region). full does c.in_ok-ins.ins ws c.as_slice-5.result.now) c.as_slice-writes.ensures
    ∙ ap (λ (os : List Region). full does c.in_ok-ins.ins r.writes os) c.as_slice-5.ensures))) in
    if_ok c.used.result
    (λ rs e. first-beside k c.args.leaving c.args.id r c.args.out.now c.in_ok-own.own c.in_ok-ins.ins c.in_ok-out.out c.in_ok-later.later rs c.in_ok-own.ensures.defined
    (c.in_ok-ins.ensures.defined ∙ ap₂ (beside ss) c.as_slice.ensures c.as_slice-2.ensures)
    (c.in_ok-out.ensures.defined ∙ ap (λ (ws : List Region). beside ss ws c.args.out.now) c.as_slice-3.ensures) later (e ∙ ap₂ (used ss) c.as_slice-6.ensures c.as_slice-7.ensures))
    c.used.ensures.defined
