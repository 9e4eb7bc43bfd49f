-- The statements that are written of a module stand no deeper than those that it was built of.
use Rattle.std.proofs.Common.{ℕ, List, [], ◌∷◌, ◌++◌, refl}
use Rattle.std.specs.Prelude.{Option}
use Rattle.f77_statements.specs.Phrases.{PhraseTree}
use Rattle.f77_parser.specs.Statements.{StatementTree}
use Rattle.f77_parser.specs.Building.{build_module}
use Rattle.roundtrip_programs.specs.Statements.Formed.{Each}
use Rattle.roundtrip_programs.specs.Statements.Phrased.{IsPhrase}
use Rattle.roundtrip_programs.specs.ModuleTexts.Cards.{statements_of}
use Rattle.roundtrip_programs.specs.ModuleTexts.ModuleLaws.{IsStatement}
use Rattle.roundtrip_programs.proofs.ModuleTexts.Kept.{Kind, Stated, Held, all_held, each-map}
use Rattle.roundtrip_programs.specs.ModuleTexts.Flat.{IsFlat}
use Rattle.roundtrip_programs.specs.ModuleTexts.DepthLaws.{FlatStatement, FlatCard, CardsFlat}
use Rattle.roundtrip_programs.proofs.ModuleTexts.Phrases.{kept_flat}

-- any label
abbrev pub Any : Option ℕ → Type 0
Any l = Unit {0}

abbrev IsFlatPhrase : PhraseTree → Type 0
IsFlatPhrase p = IsPhrase p × IsFlat p

kind : Kind Any IsFlatPhrase IsFlat
kind = record {
  bare = tt;
  formed = λ p h. h.0;
  written = λ p h. kept_flat p h.1;
  first = λ e h. h;
  otherwise = refl;
  end_branches = refl;
  end_loop = refl;
  end_all = refl;
  labelled = refl;
}

both : (ss : List StatementTree) → Each IsStatement ss → Each FlatStatement ss → Each (Stated Any IsFlatPhrase) ss
both [] h f = tt
both (s ∷ ss) h f = record { first = (tt, (h.first, f.first)); others = both ss h.others f.others }

pub cards_flat : CardsFlat
cards_flat closing begun s e h f none =
    let ss = begun ++ s ∷ [] in
    each-map (Held Any IsFlat) FlatCard (statements_of (build_module closing ss).module_read) (λ c x. x.1) (all_held Any IsFlatPhrase IsFlat kind closing begun s e (both ss h f) none)
