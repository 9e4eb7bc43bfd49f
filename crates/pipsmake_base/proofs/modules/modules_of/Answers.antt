use Rattle.std.proofs.Common.{sym, subst}
use Rattle.pipsmake_base.proofs.ModuleLaws.{ModulesRest, modules_none, modules_more, modules_all}
use Rattle.pipsmake_base.proofs.modules.modules_of.Goals as goal
use Rattle.pipsmake_db.proofs.CallEquations.PositionSteps.{first-rest}
use Rattle.fx_lists.proofs.Lists.{none_left as no-more}

pub loop-rest-init : goal.loop-rest-init
loop-rest-init c = subst (λ ms. ModulesRest c.args.texts.now ms c.args.texts.now) (sym c.new-modules.ensures) (modules_none c.args.texts.now)

pub loop-rest-preserved : goal.loop-rest-preserved
loop-rest-preserved c =
    let parts = first-rest c.loop-rest.rest.now c.held-item.result _ c.in-len1-up.len_at_least c.held-item.is in
    modules_more c.args.texts.now c.loop-rest.modules c.push.new.self c.in_ok-module.module c.held-item.result _
    (subst (ModulesRest c.args.texts.now c.loop-rest.modules) parts c.loop-rest.invariant) c.in_ok-module.ensures.is c.in_ok-module.ensures.short c.in_ok-module.ensures.bytes c.in_ok-push.ensures.ok

pub returns-clause-are : goal.returns-clause-are
returns-clause-are c = modules_all c.args.texts.now c.loop-rest.modules (subst (ModulesRest c.args.texts.now c.loop-rest.modules) (no-more c.loop-rest.rest.now c.in_default.len_below) c.loop-rest.invariant)

pub returns-clause-short : goal.returns-clause-short
returns-clause-short c = c.loop-rest.invariant.short

pub returns-clause-bytes : goal.returns-clause-bytes
returns-clause-bytes c = c.loop-rest.invariant.bytes
