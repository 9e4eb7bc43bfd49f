-- What holds of each base in the grammar.
use Rattle.std.proofs.Common.{◌≡◌, Bool, true, false, ◌&&◌, List, [], ◌∷◌, length, map, Option, Some, None, refl}
use Rattle.std.specs.Prelude.{bytes_eq, nat_le, nat_lt, option_map, option_and_then, if◌then◌else◌}
use Rattle.std.specs.Cmp.Lexicographic.{bytes_decides}
use Rattle.std.proofs.lemmas.Bool.{and_parts}
use Rattle.base_json.specs.Shapes.{when}
use Rattle.pipsmake_db.specs.base_values.Modules.{ModuleNames}
use Rattle.base_text.specs.declared.base.BaseModule.{BaseModule}
use Rattle.base_text.specs.Modules.{names_read, names_if, names_of, names_each}
use Rattle.pipsmake_db.specs.pipsmake_meaning.Texts.{ReadModule, module_read, IsModule, AreModules}
use Rattle.pipsmake_base.specs.Bases.{BasesAreModules, EmptyIsBase}
use Rattle.pipsmake_base.specs.Saved.{text_at}

when_some : (b : Bool) (m n : ModuleNames) → when b m ≡ Some n → b ≡ true
when_some true m n e = refl
when_some false m n e = cc

by_names : (m : BaseModule) (n : ModuleNames) (o : Option ReadModule) → module_read m.text ≡ o → option_and_then (names_if m.name) o ≡ Some n → IsModule (text_at m)
by_names m n None q e = cc
by_names m n (Some r) q e =
    let tests : (bytes_eq r.module_is.module_read.name m.name && nat_lt (length r.table) 4294967296) ≡ true = when_some (bytes_eq r.module_is.module_read.name m.name && nat_lt (length r.table) 4294967296) (names_read r) n e in
    let same : bytes_eq r.module_is.module_read.name m.name ≡ true = (and_parts (bytes_eq r.module_is.module_read.name m.name) (nat_lt (length r.table) 4294967296) tests).0 in
    record { found = r; is_read = q; is_named = (bytes_decides r.module_is.module_read.name m.name).0 same }

by_length : (m : BaseModule) (n : ModuleNames) (b : Bool) → (if b then option_and_then (names_if m.name) (module_read m.text) else None) ≡ Some n → IsModule (text_at m)
by_length m n true e = by_names m n (module_read m.text) refl e
by_length m n false e = cc

module_is : (m : BaseModule) (n : ModuleNames) → names_of m ≡ Some n → IsModule (text_at m)
module_is m n e = by_length m n (nat_le (length m.text) 16777216) e

modules_are : (ms : List BaseModule) (found : List ModuleNames) → names_each ms ≡ Some found → AreModules (map text_at ms)
modules_are [] found e = tt
modules_are (m ∷ ms) found e = with_first (names_of m) refl e (λ ns q. modules_are ms ns q)
  where
    with_rest : (n : ModuleNames) → names_of m ≡ Some n → (o : Option (List ModuleNames)) → names_each ms ≡ o → option_map (λ (ns : List ModuleNames). n ∷ ns) o ≡ Some found → ((ns : List ModuleNames) → names_each ms ≡ Some ns → AreModules (map text_at ms)) → AreModules (map text_at (m ∷ ms))
    with_rest n p None q f later = cc
    with_rest n p (Some ns) q f later = (module_is m n p, later ns q)

    with_first : (o : Option ModuleNames) → names_of m ≡ o → option_and_then (λ (n : ModuleNames). option_map (λ (ns : List ModuleNames). n ∷ ns) (names_each ms)) o ≡ Some found → ((ns : List ModuleNames) → names_each ms ≡ Some ns → AreModules (map text_at ms)) → AreModules (map text_at (m ∷ ms))
    with_first None p f later = cc
    with_first (Some n) p f later = with_rest n p (names_each ms) refl f later

pub bases_are_modules : BasesAreModules
bases_are_modules b is = modules_are b.modules is.found is.are_modules

pub empty_is_base : EmptyIsBase
empty_is_base = record { bytes = tt; found = []; are_modules = refl; once = refl; fit = tt; ordered = refl }
