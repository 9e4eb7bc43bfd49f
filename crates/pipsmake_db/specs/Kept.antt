-- The text that shows what is kept: cited by private functions alone.
use Rattle.std.specs.Prelude.{◌≡◌, ℕ, List, Option, Some, None}
use Rattle.session_texts.specs.pipsmake_rules.declared.kind.Kind.{Kind}
use Rattle.session_texts.specs.pipsmake_rules.declared.kind.Kind.TheVariants as kind
use Rattle.result_lines.specs.declared.show.Show.{Show}
use Rattle.session_texts.specs.pipsmake_meaning.Texts.{ModuleText}
use Rattle.session_texts.specs.pipsmake_meaning.Definitions.{module_named}
use Rattle.session_texts.specs.pipsmake_meaning.MemoCells.{MemoCells, kept_of}
use Rattle.result_making.specs.Making.{text_made}
use Rattle.pipsmake_db.specs.declared.db.Db.{Db}
use Rattle.pipsmake_db.specs.declared.show.Ready.{Ready}
use Rattle.pipsmake_db.specs.Bring.{Brought}
use Rattle.pipsmake_db.specs.Calls.{key}
use Rattle.pipsmake_db.specs.Shown.{json_with}
use Rattle.pipsmake_db.specs.State.{texts_of, memo_cells_in}

abbrev pub json_kept : MemoCells → List ModuleText → Kind → List ℕ → Option (List ℕ)
json_kept sh ts k x = json_with (module_named ts x) (kept_of sh k x)

abbrev pub text_kept : MemoCells → List ModuleText → Show → Kind → List ℕ → Option (List ℕ)
text_kept sh ts show kind.Printed x = text_made sh ts x show
text_kept sh ts show kind.Parsed x = None
text_kept sh ts show kind.Lines x = None
text_kept sh ts show kind.Symbols x = None
text_kept sh ts show kind.CallGraph x = None
text_kept sh ts show kind.Effects x = json_kept sh ts kind.Effects x
text_kept sh ts show kind.Transformers x = json_kept sh ts kind.Transformers x
text_kept sh ts show kind.Preconditions x = json_kept sh ts kind.Preconditions x
text_kept sh ts show kind.Regions x = json_kept sh ts kind.Regions x
text_kept sh ts show kind.InRegions x = json_kept sh ts kind.InRegions x
text_kept sh ts show kind.OutRegions x = json_kept sh ts kind.OutRegions x
text_kept sh ts show kind.Marks x = json_kept sh ts kind.Marks x

-- a result was brought up to date, and the text shows what is kept
pub record IsShown (old : Db) (k : Kind) (x : List ℕ) (show : Show) (new : Db) (r : Ready) : Type 0 where
  pub brought : Brought old (key k x) new r.brought
  pub text : text_kept (memo_cells_in new) (texts_of old) show k x ≡ Some r.text
