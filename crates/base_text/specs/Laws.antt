-- What is written of a base is read again, and what is read is in the grammar.
use Rattle.std.specs.Prelude.{◌≡◌, ℕ, List, Some, Ok}
use Rattle.base_text.specs.declared.base.Base.{Base}
use Rattle.base_text.specs.Read.{base_in, base_of}
use Rattle.base_text.specs.Written.{base_data}
use Rattle.base_text.specs.Grammar.{IsBase}

-- the data of a base in the grammar is read as this base
abbrev pub WrittenIsRead : Type 0
WrittenIsRead = (b : Base) → IsBase b → base_in (Some (base_data b)) ≡ Ok b

-- a base that is read is in the grammar
abbrev pub ReadIsInGrammar : Type 0
ReadIsInGrammar = (text : List ℕ) (b : Base) → base_of text ≡ Ok b → IsBase b
