-- What is written of the modules of a text is read as the same modules.
use Rattle.std.specs.Prelude.{◌≡◌, ℕ, List, [], ◌∷◌, map, ◌++◌}
use Rattle.f77_ast.specs.DeclTrees.{ParsedTree}
use Rattle.f77_printer.specs.declared.added.Added.{Added}
use Rattle.f77_printer.specs.ModuleText.{module_text}
use Rattle.roundtrip_programs.specs.Statements.Formed.{Each}
use Rattle.roundtrip_programs.specs.Texts.Texts.{IsReadAs, IsPassedOver, modules_text, plain_text, module_of}

-- modules that a text is read as: the same as those, and each written as the same text, so its comments stand where they stood
pub record ReadBack (text : List ℕ) (ps : List ParsedTree) : Type 0 where
  pub again : List ParsedTree
  pub read : IsReadAs text again
  pub same : map module_of again ≡ map module_of ps
  pub written : map plain_text again ≡ map plain_text ps

-- what is added to each of these modules is such lines
abbrev pub AllPassedOver : (ParsedTree → List Added) → List ParsedTree → Type 0
AllPassedOver added ps = Each (λ p. Each IsPassedOver (added p)) ps

-- the text of all modules of a text, one after another
abbrev pub TextsReadBack : Type 0
TextsReadBack = (text : List ℕ) (ps : List ParsedTree) (added : ParsedTree → List Added) → IsReadAs text ps → AllPassedOver added ps → ReadBack (modules_text added ps) ps

-- the same of one module
pub record ReadAlone (text : List ℕ) (p : ParsedTree) : Type 0 where
  pub again : ParsedTree
  pub read : IsReadAs text (again ∷ [])
  pub same : again.module_read ≡ p.module_read
  pub written : plain_text again ≡ plain_text p

-- the text of one of the modules
abbrev pub ModulesReadBack : Type 0
ModulesReadBack = (text : List ℕ) (before behind : List ParsedTree) (p : ParsedTree) (added : List Added) → IsReadAs text (before ++ p ∷ behind) → Each IsPassedOver added
    → ReadAlone (module_text p.places p.module_read added) p
