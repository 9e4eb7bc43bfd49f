-- One thing more that is said of a name.
use Rattle.std.specs.Prelude.{ℕ, List, Bool, false, is_some}
use Rattle.f77_names.specs.declared.entry.Word.{Word}
use Rattle.f77_names.specs.declared.entry.Word.TheVariants as word
use Rattle.f77_names.specs.declared.declare.Mention.{Mention}
use Rattle.f77_names.specs.declared.declare.Mention.TheVariants.{Equivalent, Initial}
use Rattle.fx_lists.specs.declared.code.Code.{Code}
use Rattle.fx_lists.specs.Refusals.{refuse_if}
use Rattle.f77_names.specs.Entries.{EntryTree, shape_tree, find, changed, of_entry, with_dummy, with_type, with_shape, with_common, as_parameter, with_value, as_saved, as_initial}
use Rattle.f77_names.specs.Declaring.{Told}

abbrev pub with_word : Word → EntryTree → EntryTree
with_word (word.Dummy n) e = with_dummy n e
with_word (word.Type s) e = with_type s e
with_word (word.Bounds s) e = with_shape (shape_tree s) e
with_word (word.Common line) e = with_common line e
with_word word.Parameter e = as_parameter e
with_word (word.Value c) e = with_value c e
with_word word.Saved e = as_saved e
with_word word.Initial e = as_initial e

-- such a thing was said before
abbrev pub was_said : Word → EntryTree → Bool
was_said (word.Dummy n) e = is_some e.dummy
was_said (word.Type s) e = is_some e.scalar
was_said (word.Bounds s) e = is_some e.shape
was_said (word.Common line) e = is_some e.common
was_said word.Parameter e = e.parameter
was_said (word.Value c) e = is_some e.value
was_said word.Saved e = e.saved
was_said word.Initial e = e.initial

abbrev pub was_said_of : Word → List ℕ → List EntryTree → Bool
was_said_of w x es = of_entry false (was_said w) (find x es)

-- what is said twice of a name is refused
abbrev pub said_once : List ℕ → Word → ℕ → Code → Told → Told
said_once x w line code t = record { entries = changed x (with_word w) t.entries; found = refuse_if (was_said_of w x t.entries) line code t.found }

-- what an item of EQUIVALENCE or DATA says of its name
abbrev pub mentioned : Mention → EntryTree → EntryTree
mentioned Equivalent e = e
mentioned Initial e = as_initial e
