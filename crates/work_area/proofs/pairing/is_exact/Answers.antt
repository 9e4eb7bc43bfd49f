use Rattle.std.proofs.Common.{◌∙◌, List, sym, ap, subst}
use Rattle.affine_systems.specs.declared.items.Item.{Item}
use Rattle.affine_systems.specs.Given.{ItemsSmall}
use Rattle.affine_systems.specs.Eliminate.{every_pair_unit, is_lower, is_upper, keep}
use Rattle.work_area.proofs.TableSteps.{front_is}
use Rattle.work_area.proofs.pairing.is_exact.Goals as goal

pub every_pair_unit-requires : goal.every_pair_unit-requires
every_pair_unit-requires c = subst ItemsSmall (sym (front_is c.args.tables.now c.as_slice-rows.result.now c.as_slice-rows.ensures.value)) c.requires.small

pub returns : goal.returns
returns c = c.every_pair_unit.ensures ∙ ap (λ (is : List Item). every_pair_unit c.args.v (keep (is_lower c.args.v) is) (keep (is_upper c.args.v) is)) (front_is c.args.tables.now c.as_slice-rows.result.now c.as_slice-rows.ensures.value)
