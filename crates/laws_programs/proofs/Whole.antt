-- Modules that are read are such as laws on runs ask.
use Rattle.std.proofs.Common.{◌≡◌, ℕ, zero, suc, List, [], ◌∷◌, length, Some, Ok, subst}
use Rattle.std.specs.Prelude.{slice_get}
use Rattle.f77_ast.specs.DeclTrees.{ParsedTree}
use Rattle.f77_ast.specs.Symbols.{SymbolTree}
use Rattle.roundtrip_programs.specs.Statements.Formed.{Each}
use Rattle.storage_layout.specs.Symbols.{symbols_of}
use Rattle.laws_programs.proofs.SymbolTables.Answers.{answered_by}
use Rattle.laws_programs.proofs.SymbolTables.DummyLaws.{dummies_come_first}
use Rattle.laws_programs.proofs.SymbolTables.ShapeLaws.{bodies_are_shaped}
use Rattle.f77_meaning.specs.Modules.{Known, known_of}
use Rattle.fixed_form.specs.declared.line.Lines.{Lines}
use Rattle.f77_parser.specs.Modules.{parse_of}
use Rattle.f77_ast.specs.StatementNumbers.{list_numbers, StandOnce, HasNumbers}
use Rattle.laws_programs.specs.Effects.Tables.{IsRead}
use Rattle.laws_programs.specs.Effects.Laws.{AreRead, AreNumberedOnce}
use Rattle.laws_programs.specs.Programs.{AreTables}
use Rattle.laws_programs.specs.Laws.{ModulesAreRead, AreInOrder, NumbersGoUp, NumbersStandOnce}
use Rattle.laws_programs.proofs.Sources.{IsBuilt, all_built}
use Rattle.laws_programs.proofs.Ordered.{title_formed}
use Rattle.laws_programs.proofs.Numbers.{text_numbers_go, hidden_numbers_go, well_numbered}
use Rattle.laws_programs.proofs.Dummies.{they_lead}
use Rattle.laws_programs.proofs.Names.{title_plain, no_dummies}
use Rattle.laws_programs.proofs.Bounds.{bounds_are_scalars}
use Rattle.laws_programs.proofs.Fitting.{all_above, list_fits}

-- ---- one module

is_read : (p : ParsedTree) (ss : List SymbolTree) → IsBuilt p → symbols_of p ≡ Ok ss → IsRead (record { read = p.module_read; symbols = ss })
is_read p ss b e =
    let m = p.module_read in record {
      name = title_plain m b.well (title_formed m b.formed);
      dummies = they_lead 1 (length m.dummies) ss (dummies_come_first p ss e);
      main = no_dummies m.main m.titled m.name m.dummies b.well.title;
      bounds = bounds_are_scalars p ss (answered_by p ss e);
      body = list_fits ss m.body (all_above (list_numbers m.body) (well_numbered m b.well).above) (bodies_are_shaped p ss e);
    }

go_up : (p : ParsedTree) → IsBuilt p → AreInOrder (list_numbers p.module_read.body)
go_up p b = (text_numbers_go p.module_read b.well, hidden_numbers_go p.module_read b.well)

-- ---- all of them

all_read : (ps : List ParsedTree) (sss : List (List SymbolTree)) → Each IsBuilt ps → AreTables ps sss → AreRead (known_of ps sss)
all_read [] sss b t n k e = cc
all_read (p ∷ ps) [] b t n k e = absurd t
all_read (p ∷ ps) (ss ∷ sss) b t zero k e =
    let mine : Known = record { read = p.module_read; symbols = ss } in
    let same : mine ≡ k = cc in
    subst IsRead same (is_read p ss b.first t.0)
all_read (p ∷ ps) (ss ∷ sss) b t (suc n) k e = all_read ps sss b.others t.1 n k e

pub modules_are_read : ModulesAreRead
modules_are_read lines ps sss h t = all_read ps sss (all_built lines ps h) t

module _ (P : ParsedTree → Type 0) where
  each_at : (ps : List ParsedTree) → Each P ps → (i : ℕ) (p : ParsedTree) → slice_get ps i ≡ Some p → P p
  each_at [] b i p e = cc
  each_at (q ∷ ps) b zero p e = let same : q ≡ p = cc in subst P same b.first
  each_at (q ∷ ps) b (suc i) p e = each_at ps b.others i p e

pub numbers_go_up : NumbersGoUp
numbers_go_up lines ps h i p e = go_up p (each_at IsBuilt ps (all_built lines ps h) i p e)

-- each statement has a number of its own, above 0
pub bodies_numbered : (lines : Lines) (ps : List ParsedTree) → parse_of lines ≡ Ok ps → (i : ℕ) (p : ParsedTree) → slice_get ps i ≡ Some p → HasNumbers p.module_read.body
bodies_numbered lines ps h i p e = well_numbered p.module_read (each_at IsBuilt ps (all_built lines ps h) i p e).well

all_once : (ps : List ParsedTree) (sss : List (List SymbolTree)) → Each IsBuilt ps → AreNumberedOnce (known_of ps sss)
all_once [] sss b n k e = cc
all_once (p ∷ ps) [] b n k e = cc
all_once (p ∷ ps) (ss ∷ sss) b zero k e =
    let mine : Known = record { read = p.module_read; symbols = ss } in
    let same : mine ≡ k = cc in
    subst (λ (x : Known). StandOnce (list_numbers x.read.body)) same (well_numbered p.module_read b.first.well).once
all_once (p ∷ ps) (ss ∷ sss) b (suc n) k e = all_once ps sss b.others n k e

pub numbers_stand_once : NumbersStandOnce
numbers_stand_once lines ps sss h = all_once ps sss (all_built lines ps h)
