-- A database over the texts of a base that is made when it is first asked for: cited by private functions alone.
use Rattle.std.specs.Prelude.{◌≡◌, true, List, [], map, Option, Some, None}
use Rattle.base_json.specs.Distinct.{are_new}
use Rattle.base_text.specs.Modules.{module_names_in}
use Rattle.pipsmake_db.specs.pipsmake_meaning.Texts.{ModuleText}
use Rattle.pipsmake_db.specs.declared.db.Db.{Db}
use Rattle.pipsmake_db.specs.State.{texts_of}
use Rattle.pipsmake_base.specs.declared.plain.Plain.{Plain}
use Rattle.pipsmake_base.specs.Saved.{text_at}
use Rattle.pipsmake_base.specs.Taken.{IsInSome}

abbrev pub texts_behind : Plain → List ModuleText
texts_behind p = map text_at p.modules.now

-- in some state over these texts
pub record IsOver (ts : List ModuleText) (d : Db) : Type 0 where
  pub in_some : IsInSome d
  pub texts : texts_of d ≡ ts

abbrev pub IsOverSome : List ModuleText → Option Db → Type 0
IsOverSome ts None = Unit {0}
IsOverSome ts (Some d) = IsOver ts d

pub record IsPlain (p : Plain) : Type 0 where
  pub once : are_new [] (module_names_in p.modules.now) ≡ true
  pub over : IsOverSome (texts_behind p) p.db
