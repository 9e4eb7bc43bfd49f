use Rattle.laws_analyses.proofs.MainLaws.{mains_are_alone}
use Rattle.laws_analyses.proofs.scalar_laws.mains_are_alone.Goals as goal

pub returns : goal.returns
returns c =
    mains_are_alone c.names_agree.ensures c.accepted_data_stays_in_locals.ensures c.modules_are_read.ensures c.programs_are_linked.ensures c.bodies_are_shaped.ensures c.flags_tell_cells.ensures
    c.cells_are_scalars.ensures c.data_initialises_scalars.ensures c.common_cells_are_alone.ensures c.linked_have_blocks.ensures
