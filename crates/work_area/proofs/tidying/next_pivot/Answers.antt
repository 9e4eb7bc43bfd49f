use Rattle.std.proofs.Common.{List, sym, subst}
use Rattle.affine_systems.specs.declared.items.Item.{Item}
use Rattle.affine_systems.specs.Given.{ItemsSmall}
use Rattle.affine_systems.specs.Items.{FindsCut}
use Rattle.affine_systems.specs.Tidy.{is_to_take}
use Rattle.work_area.proofs.TableSteps.{front_is}
use Rattle.work_area.proofs.tidying.next_pivot.Goals as goal

pub find_pivot-requires : goal.find_pivot-requires
find_pivot-requires c = subst ItemsSmall (sym (front_is c.args.tables.now c.as_slice-rows.result.now c.as_slice-rows.ensures.value)) c.requires.small

pub returns : goal.returns
returns c = subst (λ (is : List Item). FindsCut (is_to_take is) is c.find_pivot.result) (front_is c.args.tables.now c.as_slice-rows.result.now c.as_slice-rows.ensures.value) c.find_pivot.ensures
