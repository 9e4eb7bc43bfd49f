-- Programs that are read: their variables have types, and no CALL ends by a GO TO.
use Rattle.std.proofs.Common.{◌≡◌, ℕ, List, [], ◌∷◌, map, ap, ◌∙◌, subst}
use Rattle.std.specs.Prelude.{length}
use Rattle.f77_ast.specs.DeclTrees.{ParsedTree}
use Rattle.f77_ast.specs.Calls.{Dummy}
use Rattle.f77_ast.specs.Programs.{Routine}
use Rattle.f77_ast.specs.Symbols.{SymbolTree}
use Rattle.call_graph.specs.declared.graph.Graph.{Graph}
use Rattle.f77_meaning.specs.Modules.{Known, known_of, dummies_from}
use Rattle.f77_meaning.specs.Linked.{routine, subroutines, main_of}
use Rattle.laws_programs.specs.SymbolTables.Laws.{DummiesFirst}
use Rattle.laws_programs.proofs.SymbolTables.DummyLaws.{dummies_come_first}
use Rattle.laws_programs.specs.Programs.{IsProgram}
use Rattle.laws_programs.proofs.Tables.{programs_are_linked}
use Rattle.laws_programs.proofs.Whole.{modules_are_read}
use Rattle.laws_programs.specs.Storage.Programs.{known}
use Rattle.laws_programs.proofs.Storage.ModuleLaws.{known_module}
use Rattle.call_graph.specs.CallsIn.{Each}
use Rattle.laws_analyses.specs.Statements.Leads.{StaysIn}
use Rattle.laws_analyses.specs.JumpLaws.{JumpsStayInside}
use Rattle.laws_analyses.proofs.DummyLaws.{none_listed}
use Rattle.laws_analyses.proofs.MainLaws.{MainOf, main_from}
use Rattle.laws_analyses.proofs.Modules.{IsIn, subs, subs_in, subs_are}
use Rattle.laws_analyses.proofs.UnitLaws.{module_at}
use Rattle.laws_marks.proofs.OutRoutines.{routine_tagged}
use Rattle.laws_interleavings.specs.Typed.{AllTagged}
use Rattle.laws_marks.specs.OwnLaws.{VariablesHaveTypes, CallsEnd}
use Rattle.laws_marks.proofs.Ends.{AllStay, all_end}
use Rattle.laws_programs.proofs.Effects.Once.{main_of_linked as some_main}

-- ---- types

all_tagged : (ks : List Known) (g : Graph) (xs : List Known) → AllTagged (map (routine ks g) xs)
all_tagged ks g [] = tt
all_tagged ks g (k ∷ xs) = (routine_tagged ks g k, all_tagged ks g xs)

pub variables_have_types : VariablesHaveTypes
variables_have_types ps sss g x = record {
  no_dummies = ap (λ (k : Known). dummies_from 1 k.symbols) r.is_main ∙ none;
  main = routine_tagged (known_of ps sss) g (main_of (known_of ps sss));
  others = subst AllTagged (subs_are (known_of ps sss) g g.order) (all_tagged (known_of ps sss) g (subs (known_of ps sss) g.order));
}
  where
    r : MainOf ps sss
    r = main_from ps sss x.tables (some_main ps sss g x.links)

    alone : r.parsed.module_read.dummies ≡ []
    alone = (modules_are_read x.lines ps sss x.parsed x.tables r.at (known r.parsed r.table) (known_module ps sss r.at r.parsed r.table r.is_module)).main r.main

    none : dummies_from 1 r.table ≡ []
    none = none_listed 1 r.table (subst (λ ds. DummiesFirst 1 (length ds) r.table) alone (dummies_come_first r.parsed r.table ((programs_are_linked ps sss g x).1 r.at r.parsed r.table r.is_module)))

-- ---- ends

all_stay : (stays : JumpsStayInside) (ps : List ParsedTree) (sss : List (List SymbolTree)) (g : Graph) → IsProgram ps sss g → (xs : List Known) → Each (IsIn (known_of ps sss)) xs → AllStay (map (routine (known_of ps sss) g) xs)
all_stay stays ps sss g x [] h = tt
all_stay stays ps sss g x (k ∷ xs) h =
    let m = module_at ps sss h.0.at k h.0.is_module in
    (subst (λ (z : Known). StaysIn z.read.body) m.same (stays x.lines x.labelled ps x.parsed h.0.at m.parsed m.is_module.parsed), all_stay stays ps sss g x xs h.1)

pub stay_inside : JumpsStayInside → (ps : List ParsedTree) (sss : List (List SymbolTree)) (g : Graph) → IsProgram ps sss g → AllStay (subroutines (known_of ps sss) g g.order)
stay_inside stays ps sss g x = subst AllStay (subs_are (known_of ps sss) g g.order) (all_stay stays ps sss g x (subs (known_of ps sss) g.order) (subs_in (known_of ps sss) g.order))

pub calls_end : JumpsStayInside → CallsEnd
calls_end stays ps sss g x turns = all_end turns (subroutines (known_of ps sss) g g.order) (stay_inside stays ps sss g x)
