-- Texts that are seen, and then kept: cited by private functions alone.
use Rattle.std.specs.Prelude.{◌≡◌, ◌⊎◌, ℕ, true, false, List, [], ◌∷◌, map, slice_get, Some, Ok}
use Rattle.session_texts.specs.pipsmake_rules.Neighbours.{has_name}
use Rattle.session_texts.specs.pipsmake_meaning.Texts.{ModuleText, names_in}
use Rattle.session_texts.specs.pipsmake_meaning.Session.{Makings}
use Rattle.session_texts.specs.pipsmake_meaning.MemoCells.{MemoCells, KeepsIn, SeenIn, Forgets}
use Rattle.session_texts.specs.pipsmake_meaning.Values.{source, text}
use Rattle.session_texts.specs.pipsmake_meaning.Making.{AllStay}
use Rattle.laws_database.specs.Stands.{StandsFor, Valuation}
use Rattle.laws_database.specs.Unverified.{RestsOn}
use Rattle.session_texts.specs.declared.source.Source.{Source}
use Rattle.session_texts.specs.Modules.{source_text, AreSources, NamesDiffer}
use Rattle.session_texts.specs.Sources.{source_modules}
use Rattle.pipsmake_db.specs.declared.texts.Seen.{Seen}
use Rattle.pipsmake_db.specs.State.{made_without_all}

-- the modules of a source text
pub record AreRead (of : List ℕ) (found : List Source) : Type 0 where
  pub are : source_modules of ≡ Ok (map source_text found)
  pub sources : AreSources found
  pub differ : NamesDiffer (map source_text found)

-- what is kept stands for each session that it stood for
abbrev pub StandsStill : MemoCells → MemoCells → Type 0
StandsStill old new = (ts : List ModuleText) (made : Makings) → StandsFor old ts made → StandsFor new ts made

-- what is kept rests on what it rested on
abbrev pub RestsOnSame : MemoCells → MemoCells → Type 0
RestsOnSame old new = (ts : List ModuleText) (d : Valuation) → RestsOn old ts d → RestsOn new ts d

-- ---- texts that are seen

-- the text of a module is seen
pub record SeesText (old : MemoCells) (u : ModuleText) (seen : Seen) (new : MemoCells) : Type 0 where
  pub name : seen.name ≡ u.name
  pub sees : SeenIn old new text u.name (source u.text) seen.stamp

-- it is among those that were seen
pub record IsPlaced (sh : MemoCells) (u : ModuleText) (seen : Seen) : Type 0 where
  pub name : seen.name ≡ u.name
  pub at : slice_get (sh text u.name).values seen.stamp ≡ Some (source u.text)

abbrev pub ArePlaced : MemoCells → List ModuleText → List Seen → Type 0
ArePlaced sh [] [] = Unit {0}
ArePlaced sh [] (n ∷ ns) = ⊥
ArePlaced sh (u ∷ us) [] = ⊥
ArePlaced sh (u ∷ us) (n ∷ ns) = IsPlaced sh u n × ArePlaced sh us ns

-- ---- texts that are kept

-- texts are kept one after another
abbrev pub KeepsInTurn : MemoCells → List ModuleText → MemoCells → Type 0
KeepsInTurn old [] new = AllStay old new
KeepsInTurn old (u ∷ us) new = (mid : MemoCells) × KeepsIn old mid text u.name (source u.text) [] × KeepsInTurn mid us new

-- so are texts that were seen
abbrev pub KeepsTexts : MemoCells → List Seen → MemoCells → Type 0
KeepsTexts old seen new = (us : List ModuleText) → ArePlaced old us seen → KeepsInTurn old us new

-- ---- names that go

abbrev pub TextsStay : MemoCells → MemoCells → Type 0
TextsStay old new = (y : List ℕ) → new text y ≡ old text y

-- the results of a name are forgotten where no text has it
abbrev pub ForgetsGone : MemoCells → List ModuleText → List ℕ → MemoCells → Type 0
ForgetsGone old ts x new = ((has_name (names_in ts) x ≡ true) × AllStay old new) ⊎ ((has_name (names_in ts) x ≡ false) × Forgets old new x)

-- where no name goes, all stays
abbrev pub StaysWithout : MemoCells → List (List ℕ) → MemoCells → Type 0
StaysWithout old names new = names ≡ [] → AllStay old new

-- what is kept stands for each session that it stood for, without what was made of these names
abbrev pub StandsWithout : MemoCells → List (List ℕ) → MemoCells → Type 0
StandsWithout old names new = (ts : List ModuleText) (made : Makings) → StandsFor old ts made → StandsFor new ts (made_without_all made names)
