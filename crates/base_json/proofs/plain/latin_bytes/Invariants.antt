use Rattle.std.proofs.Common.{◌≡◌, take, drop}
use Rattle.base_json.specs.Shapes.{is_latin}
use Rattle.base_json.proofs.plain.latin_bytes.Given as goal

abbrev pub invariant-loop-character : goal.invariant-loop-character
invariant-loop-character l = (l.bytes ≡ take l.character-index l.characters) × (is_latin (drop l.character-index l.characters) ≡ is_latin l.fn.characters)
