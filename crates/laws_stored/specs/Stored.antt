-- Which values of a program are stored, and what the results of a module may name.
use Rattle.std.specs.Prelude.{Bool, true, false, Option, Some, None}
use Rattle.f77_meaning.specs.Modules.{symbol_names}
use Rattle.session_texts.specs.pipsmake_rules.declared.kind.Kind.{Kind}
use Rattle.session_texts.specs.pipsmake_rules.declared.kind.Kind.TheVariants.{Parsed, Lines, Symbols, CallGraph, Effects, Transformers, Preconditions, Regions, InRegions, OutRegions, Marks, Printed}
use Rattle.base_values.specs.declared.stored.StoredValue.{StoredValue}
use Rattle.base_values.specs.declared.stored.StoredValue.TheVariants as stored
use Rattle.base_values.specs.Modules.{ModuleNames, module_names}
use Rattle.session_texts.specs.pipsmake_meaning.Texts.{ReadModule}
use Rattle.session_texts.specs.pipsmake_meaning.Values.{Value, source, parsed, lines, symbols, graph, effects, transformers, preconditions, regions, ins, outs, marks, printed}

-- the kinds whose results are stored
abbrev pub is_stored : Kind → Bool
is_stored Parsed = false
is_stored Lines = false
is_stored Symbols = false
is_stored CallGraph = false
is_stored Effects = true
is_stored Transformers = true
is_stored Preconditions = true
is_stored Regions = true
is_stored InRegions = true
is_stored OutRegions = true
is_stored Marks = true
is_stored Printed = false

-- a value as it is stored
abbrev pub as_stored : Value → Option StoredValue
as_stored (source t) = None
as_stored (parsed m) = None
as_stored (lines p) = None
as_stored (symbols t) = None
as_stored (graph g) = None
as_stored (effects r) = Some (stored.Effects r)
as_stored (transformers r) = Some (stored.Transformers r)
as_stored (preconditions r) = Some (stored.Preconditions r)
as_stored (regions r) = Some (stored.Regions r)
as_stored (ins r) = Some (stored.InRegions r)
as_stored (outs r) = Some (stored.OutRegions r)
as_stored (marks ms) = Some (stored.Marks ms)
as_stored (printed t) = None

-- what the results of a module that was read may name
abbrev pub names_in : ReadModule → ModuleNames
names_in m = module_names (symbol_names m.table) m.module_is.module_read.body
