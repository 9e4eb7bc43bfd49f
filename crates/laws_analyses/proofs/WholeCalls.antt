-- The laws of whole programs that are read.
use Rattle.laws_programs.specs.Storage.Programs.{known}
use Rattle.laws_programs.proofs.Storage.ModuleLaws.{known_module}
use Rattle.laws_programs.proofs.Sources.{all_built}
use Rattle.laws_programs.proofs.Whole.{modules_are_read}
use Rattle.laws_programs.proofs.Tables.{programs_are_linked}
use Rattle.laws_analyses.proofs.MainLaws.{main_from, built_at}
use Rattle.laws_analyses.specs.Calls.ProgramLaws.{ProgramHolds}
use Rattle.laws_analyses.specs.CallLaws.{AnalysedProgramsHold}
use Rattle.laws_analyses.proofs.Subscripts.{built_have}
use Rattle.laws_analyses.proofs.Programs.{all_hold}
use Rattle.laws_programs.proofs.Effects.Once.{main_of_linked as some_main}

pub analysed_programs_hold : ProgramHolds → AnalysedProgramsHold
analysed_programs_hold holds ps sss g x lies settled cs sites entry analysed =
    let linked = programs_are_linked ps sss g x in
    let r = main_from ps sss x.tables (some_main ps sss g x.links) in
    let k = known_module ps sss r.at r.parsed r.table r.is_module in
    let alone = (modules_are_read x.lines ps sss x.parsed x.tables r.at (known r.parsed r.table) k).main r.main in
    all_hold ps sss g linked.0 linked.1
    (λ i p ss m. record { settled = settled i p ss m; subscripts = built_have p (built_at ps (all_built x.lines ps x.parsed) i p m.parsed) })
    cs sites entry analysed lies r.at r.parsed r.table r.is_module r.is_main r.main alone holds
