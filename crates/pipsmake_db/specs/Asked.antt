-- What is asked for: cited by private functions alone.
use Rattle.std.specs.Prelude.{◌≡◌, ℕ, Bool, List, Option, Some, None, if◌then◌else◌}
use Rattle.session_texts.specs.pipsmake_rules.declared.kind.Kind.{Kind}
use Rattle.session_texts.specs.pipsmake_rules.Kinds.{kind_with}
use Rattle.session_texts.specs.pipsmake_meaning.Texts.{ModuleText}
use Rattle.pipsmake_db.specs.declared.refusal.DbRefusal.{DbRefusal}
use Rattle.pipsmake_db.specs.Refusals.{owner_refusal}

abbrev pub refused_unless : Bool → DbRefusal → Option DbRefusal
refused_unless b r = if b then None else Some r

-- a kind of this name that has results of this other name
pub record IsAsked (ts : List ModuleText) (kind x : List ℕ) (k : Kind) : Type 0 where
  pub is_named : kind_with kind ≡ Some k
  pub is_owned : owner_refusal ts k x ≡ None
