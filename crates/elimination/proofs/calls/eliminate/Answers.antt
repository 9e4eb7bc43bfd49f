use Rattle.std.proofs.Common.{◌≡◌, ◌∙◌, List, false, ap, sym, subst}
use Rattle.affine_systems.specs.declared.items.Item.{Item}
use Rattle.affine_systems.specs.declared.items.Eliminated.{Eliminated}
use Rattle.affine_systems.specs.Given.{ItemsFit}
use Rattle.affine_systems.specs.Points.{HoldsAll, moved}
use Rattle.affine_systems.specs.Items.{items_from, rows_of}
use Rattle.affine_systems.specs.Eliminate.{eliminate_item, eliminate}
use Rattle.affine_systems.specs.Laws.{Lacks}
use Rattle.affine_systems.proofs.FitLaws.{items_fit}
use Rattle.affine_systems.proofs.ExactLaws.{eliminate_extends}
use Rattle.affine_systems.proofs.LackLaws.{eliminate_moves, eliminate_gone}
use Rattle.elimination.proofs.calls.eliminate.Goals as goal

pub eliminate_item-requires : goal.eliminate_item-requires
eliminate_item-requires c =
    let i : c.in_ok-items.items ≡ items_from 0 c.args.sys.rows = c.in_ok-items.ensures ∙ ap (items_from 0) c.into_vec.ensures in
    record { fits = subst (λ (is : List Item). ItemsFit false is) (sym i) (items_fit 0 c.args.sys.rows c.requires.fits) }

pub returns-clause-gone : goal.returns-clause-gone
returns-clause-gone c =
    let i : c.in_ok-items.items ≡ items_from 0 c.args.sys.rows = c.in_ok-items.ensures ∙ ap (items_from 0) c.into_vec.ensures in
    let d : c.in_ok-e.e ≡ eliminate_item false c.args.var (items_from 0 c.args.sys.rows) = c.in_ok-e.ensures.defined ∙ ap (eliminate_item false c.args.var) i in
    let r : c.in_ok-rows_of.field-0 ≡ (eliminate c.args.sys c.args.var).system.rows = c.in_ok-rows_of.ensures ∙ ap (λ (e : Eliminated). rows_of e.items) d in
    subst (Lacks c.args.var) (sym r) (eliminate_gone c.args.sys c.args.var)

pub returns-clause-sound : goal.returns-clause-sound
returns-clause-sound c p x h =
    let i : c.in_ok-items.items ≡ items_from 0 c.args.sys.rows = c.in_ok-items.ensures ∙ ap (items_from 0) c.into_vec.ensures in
    let d : c.in_ok-e.e ≡ eliminate_item false c.args.var (items_from 0 c.args.sys.rows) = c.in_ok-e.ensures.defined ∙ ap (eliminate_item false c.args.var) i in
    let r : c.in_ok-rows_of.field-0 ≡ (eliminate c.args.sys c.args.var).system.rows = c.in_ok-rows_of.ensures ∙ ap (λ (e : Eliminated). rows_of e.items) d in
    subst (HoldsAll (moved p c.args.var x)) (sym r) (eliminate_moves p c.args.sys c.args.var x h)

pub returns-clause-exact : goal.returns-clause-exact
returns-clause-exact c t p h =
    let i : c.in_ok-items.items ≡ items_from 0 c.args.sys.rows = c.in_ok-items.ensures ∙ ap (items_from 0) c.into_vec.ensures in
    let d : c.in_ok-e.e ≡ eliminate_item false c.args.var (items_from 0 c.args.sys.rows) = c.in_ok-e.ensures.defined ∙ ap (eliminate_item false c.args.var) i in
    let r : c.in_ok-rows_of.field-0 ≡ (eliminate c.args.sys c.args.var).system.rows = c.in_ok-rows_of.ensures ∙ ap (λ (e : Eliminated). rows_of e.items) d in
    eliminate_extends p c.args.sys c.args.var (ap (λ (e : Eliminated). e.exact) (sym d) ∙ t) (subst (HoldsAll p) r h)
