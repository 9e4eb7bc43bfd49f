-- The modules of a base, read from their texts: cited by private functions alone.
use Rattle.std.specs.Prelude.{◌≡◌, List, [], map}
use Rattle.base_text.specs.declared.base.BaseModule.{BaseModule}
use Rattle.pipsmake_db.specs.pipsmake_meaning.Texts.{ModuleText}
use Rattle.pipsmake_db.specs.pipsmake_meaning.Session.{none_made}
use Rattle.pipsmake_db.specs.session_texts.declared.source.Source.{Source}
use Rattle.pipsmake_db.specs.session_texts.Modules.{IsSource, AreSources, source_text}
use Rattle.pipsmake_db.specs.State.{State}
use Rattle.pipsmake_base.specs.Saved.{text_at}

-- a module by itself
pub record IsSourceOf (held : BaseModule) (s : Source) : Type 0 where
  pub is : IsSource s
  pub text : source_text s ≡ text_at held

pub record AreSourcesOf (held : List BaseModule) (ss : List Source) : Type 0 where
  pub are : AreSources ss
  pub texts : map source_text ss ≡ map text_at held

-- the state of a session with these texts, in which nothing was made
abbrev pub plain_state : List ModuleText → State
plain_state ts = record { texts = ts; made = none_made; fresh = [] }
