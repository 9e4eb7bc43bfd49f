-- What a form that is chosen by its keyword says: no longer keyword was passed over.
use Rattle.std.specs.Prelude.{◌≡◌, ℕ, ◌<◌, ◌≤◌, List, length, None, false, IsTrue, All, Contains}
use Rattle.f77_forms.specs.declared.form.FormId.{FormId}
use Rattle.f77_forms.specs.declared.outline.Marks.TheVariants.{NoEqual}
use Rattle.f77_forms.specs.Outline.{front, marks_of}
use Rattle.f77_forms.specs.Refused.{refused_word, refused_stands, refused_keywords}
use Rattle.f77_forms.specs.Choice.{Entry, entry_stands, if_choice, begins_while}

-- neither IF nor = nor DO WHILE decides
abbrev pub IsByKeyword : List ℕ → Type 0
IsByKeyword body = (if_choice body ≡ None) × (marks_of front body ≡ NoEqual) × (begins_while body ≡ false)

-- the statement begins with a word of the table that stands for the form
pub record BeginsAs (table : List Entry) (body : List ℕ) (id : FormId) : Type 0 where
  pub word : List ℕ
  pub there : Contains table (record { word = word; id = id })
  pub stands : IsTrue (entry_stands body (record { word = word; id = id }))
  -- no word of the table that it begins with is longer
  pub longest : All (λ e. IsTrue (entry_stands body e) → length e.word ≤ length word) table
  -- each keyword for which it would be refused is shorter
  pub accepted : All (λ r. IsTrue (refused_stands body r) → length (refused_word r) < length word) refused_keywords
