use Rattle.std.proofs.Common.{◌≡◌, ◌∙◌, true, List, ap, sym, subst}
use Rattle.std.proofs.lemmas.Result.{IfOk-weaker}
use Rattle.affine_systems.specs.declared.row.Var.{Var}
use Rattle.hull_projection.specs.declared.projection.Shadow.{Shadow}
use Rattle.affine_systems.specs.Given.{Fits}
use Rattle.affine_systems.proofs.RenameSteps.{fits_small}
use Rattle.hull_projection.specs.Variables.{in_order}
use Rattle.hull_projection.specs.Project.{shadow, eliminate_each, cleaned_shadow, project}
use Rattle.hull_projection.specs.Laws.{ProjectsPoints, ExtendsPoints, LacksAll}
use Rattle.hull_projection.proofs.ProjectLaws.{project_fits, project_gone, project_keeps, project_extends}
use Rattle.hull_projection.proofs.projection.project_owned.Goals as goal

pub cleaned_system-requires : goal.cleaned_system-requires
cleaned_system-requires c = fits_small c.in_ok-left.left.system.rows c.in_ok-left.ensures.fits

pub returns-clause-defined : goal.returns-clause-defined
returns-clause-defined c =
    let r : c.in_ok-left.left ≡ eliminate_each (shadow c.args.sys true) (in_order c.args.vars.now)
    = c.in_ok-left.ensures.defined ∙ ap (λ (vs : List Var). eliminate_each (shadow c.args.sys true) vs) (c.as_slice-2.ensures.value ∙ (c.in_ok-order.ensures ∙ ap in_order c.as_slice.ensures)) in
    IfOk-weaker c.cleaned_system.result (λ (t : Shadow). t ≡ cleaned_shadow c.in_ok-left.left) (λ (t : Shadow). t ≡ project c.args.sys c.args.vars.now)
    (λ t e. e ∙ ap cleaned_shadow r) c.cleaned_system.ensures

pub returns-clause-fits : goal.returns-clause-fits
returns-clause-fits c =
    let r : c.in_ok-left.left ≡ eliminate_each (shadow c.args.sys true) (in_order c.args.vars.now)
    = c.in_ok-left.ensures.defined ∙ ap (λ (vs : List Var). eliminate_each (shadow c.args.sys true) vs) (c.as_slice-2.ensures.value ∙ (c.in_ok-order.ensures ∙ ap in_order c.as_slice.ensures)) in
    IfOk-weaker c.cleaned_system.result (λ (t : Shadow). t ≡ cleaned_shadow c.in_ok-left.left) (λ (t : Shadow). Fits t.system)
    (λ t e. subst (λ (x : Shadow). Fits x.system) (sym (e ∙ ap cleaned_shadow r)) (project_fits c.args.sys c.args.vars.now c.requires.fits)) c.cleaned_system.ensures

pub returns-clause-gone : goal.returns-clause-gone
returns-clause-gone c =
    let r : c.in_ok-left.left ≡ eliminate_each (shadow c.args.sys true) (in_order c.args.vars.now)
    = c.in_ok-left.ensures.defined ∙ ap (λ (vs : List Var). eliminate_each (shadow c.args.sys true) vs) (c.as_slice-2.ensures.value ∙ (c.in_ok-order.ensures ∙ ap in_order c.as_slice.ensures)) in
    IfOk-weaker c.cleaned_system.result (λ (t : Shadow). t ≡ cleaned_shadow c.in_ok-left.left) (λ (t : Shadow). LacksAll c.args.vars.now t.system.rows)
    (λ t e. subst (λ (x : Shadow). LacksAll c.args.vars.now x.system.rows) (sym (e ∙ ap cleaned_shadow r)) (project_gone c.args.sys c.args.vars.now)) c.cleaned_system.ensures

pub returns-clause-sound : goal.returns-clause-sound
returns-clause-sound c =
    let r : c.in_ok-left.left ≡ eliminate_each (shadow c.args.sys true) (in_order c.args.vars.now)
    = c.in_ok-left.ensures.defined ∙ ap (λ (vs : List Var). eliminate_each (shadow c.args.sys true) vs) (c.as_slice-2.ensures.value ∙ (c.in_ok-order.ensures ∙ ap in_order c.as_slice.ensures)) in
    IfOk-weaker c.cleaned_system.result (λ (t : Shadow). t ≡ cleaned_shadow c.in_ok-left.left) (ProjectsPoints c.args.sys c.args.vars.now)
    (λ t e. subst (ProjectsPoints c.args.sys c.args.vars.now) (sym (e ∙ ap cleaned_shadow r)) (project_keeps c.args.sys c.args.vars.now)) c.cleaned_system.ensures

pub returns-clause-exact : goal.returns-clause-exact
returns-clause-exact c =
    let r : c.in_ok-left.left ≡ eliminate_each (shadow c.args.sys true) (in_order c.args.vars.now)
    = c.in_ok-left.ensures.defined ∙ ap (λ (vs : List Var). eliminate_each (shadow c.args.sys true) vs) (c.as_slice-2.ensures.value ∙ (c.in_ok-order.ensures ∙ ap in_order c.as_slice.ensures)) in
    IfOk-weaker c.cleaned_system.result (λ (t : Shadow). t ≡ cleaned_shadow c.in_ok-left.left) (ExtendsPoints c.args.sys c.args.vars.now)
    (λ t e. subst (ExtendsPoints c.args.sys c.args.vars.now) (sym (e ∙ ap cleaned_shadow r)) (project_extends c.args.sys c.args.vars.now)) c.cleaned_system.ensures
