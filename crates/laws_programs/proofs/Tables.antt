-- Programs that are read are linked, and each table is that of its module.
use Rattle.std.proofs.Common.{◌≡◌, ℕ, zero, suc, List, [], ◌∷◌, length, Some, Ok, refl, sym, ap, ◌∙◌}
use Rattle.std.specs.Prelude.{slice_get}
use Rattle.f77_ast.specs.DeclTrees.{ParsedTree}
use Rattle.f77_ast.specs.Symbols.{SymbolTree}
use Rattle.storage_layout.specs.Symbols.{symbols_of}
use Rattle.laws_programs.specs.Programs.{AreTables}
use Rattle.laws_programs.specs.Laws.{ProgramsAreLinked}

pub as_many : (ps : List ParsedTree) (sss : List (List SymbolTree)) → AreTables ps sss → length ps ≡ length sss
as_many [] [] t = refl
as_many [] (ss ∷ sss) t = absurd t
as_many (p ∷ ps) [] t = absurd t
as_many (p ∷ ps) (ss ∷ sss) t = ap suc (as_many ps sss t.1)

pub laid_out : (ps : List ParsedTree) (sss : List (List SymbolTree)) → AreTables ps sss → (i : ℕ) (p : ParsedTree) (ss : List SymbolTree) → slice_get ps i ≡ Some p → slice_get sss i ≡ Some ss → symbols_of p ≡ Ok ss
laid_out [] sss t i p ss e f = cc
laid_out (q ∷ ps) [] t i p ss e f = absurd t
laid_out (q ∷ ps) (rs ∷ sss) t zero p ss e f =
    let same : q ≡ p = cc in
    let table : rs ≡ ss = cc in
    ap symbols_of (sym same) ∙ t.0 ∙ ap Ok table
laid_out (q ∷ ps) (rs ∷ sss) t (suc i) p ss e f = laid_out ps sss t.1 i p ss e f

pub programs_are_linked : ProgramsAreLinked
programs_are_linked ps sss g x =
    (record { many = as_many ps sss x.tables; links = x.links }, λ i p ss m. laid_out ps sss x.tables i p ss m.parsed m.table)
