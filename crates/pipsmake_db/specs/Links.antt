-- The links of texts, as they are handed on: cited by private functions alone.
use Rattle.std.specs.Prelude.{◌≡◌, ℕ, List, Option, is_ok}
use Rattle.fx_lists.specs.declared.code.Code.{Code}
use Rattle.fx_lists.specs.Refusals.{number_of}
use Rattle.session_texts.specs.pipsmake_meaning.Texts.{ModuleText, links_in, graph_of}
use Rattle.pipsmake_db.specs.declared.linked.Links.{Links}
use Rattle.pipsmake_db.specs.declared.refusal.DbRefusal.{DbRefusal}
use Rattle.pipsmake_db.specs.Refusals.{fault_in}

-- the graph of texts, which has no modules where they do not link
pub record AreLinks (l : Links) (ts : List ModuleText) : Type 0 where
  pub graph : l.graph ≡ graph_of ts
  pub linked : l.linked ≡ is_ok (links_in ts)

-- the refusal for a line of a text, by whichever code has the number
abbrev pub IsAt : Option ModuleText → ℕ → ℕ → DbRefusal → Type 0
IsAt t line number r = (c : Code) → number_of c ≡ number → r ≡ fault_in t line c
