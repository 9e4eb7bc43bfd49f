-- Walks one after another, and what they bring up to date: cited by private functions alone.
use Rattle.std.specs.Prelude.{◌≡◌, ℕ, List, ◌++◌, length, drop, Some}
use Rattle.session_texts.specs.pipsmake_rules.declared.kind.Kind.TheVariants.{Printed}
use Rattle.session_texts.specs.pipsmake_rules.declared.key.Key.{Key}
use Rattle.session_texts.specs.pipsmake_rules.Walk.{walk_from, depth_of}
use Rattle.session_texts.specs.Answers.{made_lines}
use Rattle.result_lines.specs.declared.show.Show.{Show}
use Rattle.session_texts.specs.pipsmake_meaning.Texts.{ModuleText, names_in, graph_of}
use Rattle.session_texts.specs.pipsmake_meaning.Making.{BringsAll}
use Rattle.pipsmake_db.specs.declared.db.Db.{Db}
use Rattle.pipsmake_db.specs.declared.print.Prints.{Prints}
use Rattle.pipsmake_db.specs.declared.walked.Walked.{Walked}
use Rattle.pipsmake_db.specs.Calls.{key}
use Rattle.pipsmake_db.specs.Fresh.{keys_put}
use Rattle.pipsmake_db.specs.Kept.{text_kept}
use Rattle.pipsmake_db.specs.State.{texts_of, memo_cells_in}

-- just these results were walked
pub record AreWalked (ks : List Key) (w : Walked) : Type 0 where
  pub listed : w.listed ≡ ks
  pub keys : w.keys ≡ ks

-- what was walked, and then the written text of a module behind its needs
abbrev pub walked_on : List ModuleText → List Key → List ℕ → List Key
walked_on ts ks x = walk_from (depth_of (graph_of ts)) (names_in ts) (graph_of ts) ks (key Printed x)

-- what the walk of a written text adds
abbrev pub added : List ModuleText → List Key → List ℕ → List Key
added ts ks x = drop (length ks) (walked_on ts ks x)

-- of these results what was walked before is left out, and the others are brought up to date
pub record PrintsNext (show : Show) (x : List ℕ) (d e : Db) (before : List Key) (after : Walked) (old new : Prints) : Type 0 where
  pub texts : texts_of e ≡ texts_of d
  pub walked : AreWalked (walked_on (texts_of d) before x) after
  pub now : List Key
  pub brings : BringsAll (memo_cells_in d) (texts_of d) (added (texts_of d) before x) now (memo_cells_in e)
  pub fresh : e.fresh ≡ keys_put d.fresh (added (texts_of d) before x)
  pub text : List ℕ
  pub is : text_kept (memo_cells_in e) (texts_of d) show Printed x ≡ Some text
  pub made : new.made ≡ old.made ++ made_lines now
  pub written : new.text ≡ old.text ++ text
