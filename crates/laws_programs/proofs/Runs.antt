-- The effects of programs that are read hold in every run, by the laws of effects.
use Rattle.f77_meaning.specs.Modules.{known_of}
use Rattle.laws_programs.specs.Effects.Laws.{EffectsAreOfRuns, AllEffectsHold}
use Rattle.laws_programs.specs.Effects.Summaries.{bottom_up, SummariesAreMade}
use Rattle.laws_programs.specs.Laws.{EffectsAreOfPrograms, AllAreOfPrograms}
use Rattle.laws_programs.proofs.Tables.{as_many}
use Rattle.laws_programs.proofs.Whole.{modules_are_read, numbers_stand_once}

pub effects_are_of_programs : EffectsAreOfRuns → SummariesAreMade → EffectsAreOfPrograms
effects_are_of_programs effects made ps sss g x =
    let same = as_many ps sss x.tables in
    effects ps sss g (bottom_up (known_of ps sss) g) same x.links (modules_are_read x.lines ps sss x.parsed x.tables) (made ps sss g same x.links)

pub all_are_of_programs : AllEffectsHold → SummariesAreMade → AllAreOfPrograms
all_are_of_programs effects made ps sss g x =
    let same = as_many ps sss x.tables in
    effects ps sss g (bottom_up (known_of ps sss) g) same x.links (modules_are_read x.lines ps sss x.parsed x.tables) (made ps sss g same x.links) (numbers_stand_once x.lines ps sss x.parsed)
