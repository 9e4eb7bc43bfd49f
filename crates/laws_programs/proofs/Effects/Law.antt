-- The laws: the effects of modules hold in every run.
use Rattle.std.proofs.Common.{List, [], length, subst}
use Rattle.f77_meaning.specs.Modules.{Known, known_of}
use Rattle.f77_meaning.specs.Linked.{main_of}
use Rattle.f77_meaning.proofs.LinkedLaws.{linked_have_blocks}
use Rattle.laws_programs.specs.Effects.Tables.{DummiesLead}
use Rattle.f77_ast.specs.Programs.{program_plan}
use Rattle.f77_meaning.specs.Linked.{program_of}
use Rattle.laws_programs.specs.Effects.Claims.{IsOfModule}
use Rattle.laws_programs.specs.Effects.Laws.{EffectsAreOfRuns, AllHold, AllEffectsHold}
use Rattle.laws_programs.proofs.Effects.Numbers.{all_hold, throughout_more}
use Rattle.laws_programs.proofs.Effects.Members.{index_of}
use Rattle.laws_programs.proofs.Effects.Once.{names_once, saved_found, linked_main}
use Rattle.laws_programs.proofs.Effects.Sizes.{blocks_reach}
use Rattle.laws_programs.proofs.Effects.Sound.{sound}
use Rattle.laws_programs.proofs.Effects.Programs.{main_in, in_every_run}

pub effects_are_of_runs : EffectsAreOfRuns
effects_are_of_runs ps sss g tables same e read summarised =
    let ks : List Known = known_of ps sss in
    let has = linked_main ps sss g same e in
    let m = main_in ks has in
    let at = index_of (main_of ks) ks m.0 in
    let r = read at.0 (main_of ks) at.1 in
    let none : DummiesLead 0 1 (main_of ks).symbols = subst (λ ds. DummiesLead (length ds) 1 (main_of ks).symbols) (r.main m.1) r.dummies in
    in_every_run ks g tables (blocks_reach ks g (linked_have_blocks ps sss g same e)) (saved_found ks g (names_once ps sss g e)) (sound ps sss g tables same e read summarised) has none

pub all_effects_hold : AllEffectsHold
all_effects_hold ps sss g tables same e read summarised numbers turns input =
    let ks : List Known = known_of ps sss in
    throughout_more (λ x. IsOfModule ks g tables x) (λ x. AllHold ks g tables x) (all_hold ks g tables (names_once ps sss g e) numbers) (program_plan (program_of ks g) turns) (program_of ks g).initial input (λ f s i. [])
    (effects_are_of_runs ps sss g tables same e read summarised turns input)
