-- The JSON value of a text.
use Rattle.std.proofs.Common.{◌≡◌, ℕ, Bool, true, false, List, Some, None, refl, ◌∙◌, if◌then◌else◌}
use Rattle.std.specs.Str.{is_utf8, IsUtf8}
use Rattle.std.proofs.lemmas.Str.{is_utf8-from_IsUtf8, IsUtf8-from_is_utf8}
use Rattle.serde_json.specs.Data.{Data}
use Rattle.serde_json.specs.Read.{read}
use Rattle.base_text.specs.Read.{data_of}
use Rattle.fx_lists.proofs.Booleans.{chosen}

-- a text of UTF-8 that is read
pub data_some : (text : List ℕ) (d : Data) → IsUtf8 text → read text ≡ Some d → data_of text ≡ Some d
data_some text d u e = chosen (is_utf8 text) (read text) None (is_utf8-from_IsUtf8 text u) ∙ e

-- a text that is not read where it is UTF-8
pub data_none : (text : List ℕ) → (IsUtf8 text → read text ≡ None) → data_of text ≡ None
data_none text h = go (is_utf8 text) refl
  where
    go : (b : Bool) → is_utf8 text ≡ b → (if b then read text else None) ≡ None
    go true e = h (IsUtf8-from_is_utf8 text e)
    go false e = refl
