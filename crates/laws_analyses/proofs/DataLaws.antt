-- DATA in modules that are read.
use Rattle.laws_programs.specs.Storage.DataLaws.{DataStaysInLocals}
use Rattle.laws_programs.proofs.Tables.{laid_out}
use Rattle.laws_analyses.specs.ScalarLaws.{IntegersFit, AcceptedDataStaysInLocals}

pub accepted_data_stays_in_locals : IntegersFit → DataStaysInLocals → AcceptedDataStaysInLocals
accepted_data_stays_in_locals fit lies lines ps sss h t = lies ps sss (λ i p ss m. laid_out ps sss t i p ss m.parsed m.table) (fit lines ps sss h t)
