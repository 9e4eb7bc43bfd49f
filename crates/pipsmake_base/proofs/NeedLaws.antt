-- What is defined of statements, lines, symbols and graph.
use Rattle.std.proofs.Common.{◌≡◌, ℕ, List, Option, Some, None, refl}
use Rattle.std.specs.Prelude.{option_map}
use Rattle.pipsmake_db.specs.pipsmake_rules.declared.kind.Kind.{Kind}
use Rattle.pipsmake_db.specs.pipsmake_rules.declared.kind.Kind.TheVariants as kind
use Rattle.pipsmake_db.specs.pipsmake_rules.declared.key.Key.{Key}
use Rattle.pipsmake_db.specs.pipsmake_meaning.Definitions.{module_named, definition}
use Rattle.pipsmake_db.specs.pipsmake_meaning.Rules.{rule_with, rule_for, rule_value}
use Rattle.pipsmake_db.specs.pipsmake_meaning.MemoCells.{MemoCells}
use Rattle.pipsmake_db.specs.pipsmake_meaning.Texts.{ModuleText, ReadModule}
use Rattle.pipsmake_db.specs.pipsmake_meaning.Values.{parsed, lines, symbols}
use Rattle.pipsmake_base.specs.Taken.{IsPlainKind}

parsed_with : (sh : MemoCells) (ts : List ModuleText) (x : List ℕ) (o : Option ReadModule) → rule_with sh ts kind.Parsed x o ≡ option_map (λ (m : ReadModule). parsed m.module_is.module_read) o
parsed_with sh ts x None = refl
parsed_with sh ts x (Some m) = refl

lines_with : (sh : MemoCells) (ts : List ModuleText) (x : List ℕ) (o : Option ReadModule) → rule_with sh ts kind.Lines x o ≡ option_map (λ (m : ReadModule). lines m.module_is.places) o
lines_with sh ts x None = refl
lines_with sh ts x (Some m) = refl

symbols_with : (sh : MemoCells) (ts : List ModuleText) (x : List ℕ) (o : Option ReadModule) → rule_with sh ts kind.Symbols x o ≡ option_map (λ (m : ReadModule). symbols m.table) o
symbols_with sh ts x None = refl
symbols_with sh ts x (Some m) = refl

plain_for : (sh : MemoCells) (ts : List ModuleText) (k : Kind) (x : List ℕ) → IsPlainKind k → rule_for sh ts k x ≡ definition ts k x
plain_for sh ts kind.Parsed x p = parsed_with sh ts x (module_named ts x)
plain_for sh ts kind.Lines x p = lines_with sh ts x (module_named ts x)
plain_for sh ts kind.Symbols x p = symbols_with sh ts x (module_named ts x)
plain_for sh ts kind.CallGraph x p = refl
plain_for sh ts kind.Effects x p = absurd p
plain_for sh ts kind.Transformers x p = absurd p
plain_for sh ts kind.Preconditions x p = absurd p
plain_for sh ts kind.Regions x p = absurd p
plain_for sh ts kind.InRegions x p = absurd p
plain_for sh ts kind.OutRegions x p = absurd p
plain_for sh ts kind.Marks x p = absurd p
plain_for sh ts kind.Printed x p = absurd p

pub plain_rule : (sh : MemoCells) (ts : List ModuleText) (k : Key) → IsPlainKind k.kind → rule_value sh ts k ≡ definition ts k.kind k.name
plain_rule sh ts k p = plain_for sh ts k.kind k.name p
