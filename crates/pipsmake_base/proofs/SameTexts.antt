-- The texts that are saved are the same, at their own first lines.
use Rattle.std.proofs.Common.{List, [], ◌∷◌, map, refl}
use Rattle.pipsmake_db.specs.pipsmake_meaning.Texts.{ModuleText, SameTexts}
use Rattle.pipsmake_base.specs.Saved.{text_at}
use Rattle.pipsmake_base.specs.Saving.{module_of}

pub as_saved : (ts : List ModuleText) → SameTexts ts (map text_at (map module_of ts))
as_saved [] = tt
as_saved (t ∷ ts) = (refl, refl, as_saved ts)
