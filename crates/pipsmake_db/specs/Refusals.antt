-- Why a call is refused.
use Rattle.std.specs.Prelude.{◌≡◌, ℕ, List, [], slice_get, Option, Some, None, Result, Ok, Err, codes, bytes_eq, if◌then◌else◌}
use Rattle.fx_lists.specs.declared.code.Code.{Code}
use Rattle.fx_lists.specs.Refusals.{number_of}
use Rattle.f77_parser.specs.Gives.{Refused as TextRefused}
use Rattle.call_graph.specs.declared.graph.Graph.{Graph}
use Rattle.call_graph.specs.declared.refusal.Fault.{Fault}
use Rattle.call_graph.specs.declared.refusal.Fault.TheVariants as fault
use Rattle.session_texts.specs.pipsmake_rules.declared.kind.Kind.{Kind}
use Rattle.session_texts.specs.pipsmake_rules.declared.kind.Kind.TheVariants.{Parsed, Lines, Symbols, CallGraph, Effects, Transformers, Preconditions, Regions, InRegions, OutRegions, Marks, Printed}
use Rattle.session_texts.specs.pipsmake_rules.Kinds.{kind_with}
use Rattle.session_texts.specs.pipsmake_rules.Neighbours.{has_name}
use Rattle.session_texts.specs.pipsmake_meaning.Texts.{ModuleText, names_in, links_in}
use Rattle.session_texts.specs.Sources.{source_modules}
use Rattle.pipsmake_db.specs.declared.refusal.DbRefusal.{DbRefusal}
use Rattle.pipsmake_db.specs.declared.refusal.DbRefusal.TheVariants.{NoSuchKind, NoSuchName, NotShown, Source, Link, Memory}

-- a call is refused as it has to be, or for want of memory
abbrev pub IsRefused : Option DbRefusal → DbRefusal → Type 0
IsRefused why NoSuchKind = why ≡ Some NoSuchKind
IsRefused why NoSuchName = why ≡ Some NoSuchName
IsRefused why NotShown = why ≡ Some NotShown
IsRefused why (Source line code keyword) = why ≡ Some (Source line code keyword)
IsRefused why (Link x line first code) = why ≡ Some (Link x line first code)
IsRefused why Memory = Unit {0}

-- the first of two
abbrev pub or_else : Option DbRefusal → Option DbRefusal → Option DbRefusal
or_else None later = later
or_else (Some r) later = Some r

-- ---- texts

abbrev pub refused_text : Result (List ModuleText) TextRefused → Option DbRefusal
refused_text (Ok ts) = None
refused_text (Err r) = Some (Source r.line r.code r.keyword)

-- a source text is not accepted: the line in it, the code, and of what the language leaves out the keyword
abbrev pub text_refusal : List ℕ → Option DbRefusal
text_refusal text = refused_text (source_modules text)

-- there is no module of a name
abbrev pub name_refusal : List ModuleText → List ℕ → Option DbRefusal
name_refusal ts x = if has_name (names_in ts) x then None else Some NoSuchName

-- ---- links

-- at a line of this text
abbrev pub fault_in : Option ModuleText → ℕ → Code → DbRefusal
fault_in None line code = Link [] line 1 (number_of code)
fault_in (Some t) line code = Link t.name line t.first (number_of code)

-- a fault of links; that there is no main program is said of no module
abbrev pub fault_refusal : List ModuleText → Fault → DbRefusal
fault_refusal ts fault.NoMain = Link [] 1 1 50
fault_refusal ts (fault.At place line code) = fault_in (slice_get ts place) line code

abbrev pub refused_links : List ModuleText → Result Graph Fault → Option DbRefusal
refused_links ts (Ok g) = None
refused_links ts (Err f) = Some (fault_refusal ts f)

-- the texts do not link: the module, the line in its text, the line of its source where that text begins, and the code
abbrev pub link_refusal : List ModuleText → Option DbRefusal
link_refusal ts = refused_links ts (links_in ts)

-- ---- results

-- statements, lines and symbols of a module need no links
abbrev pub links_refusal : List ModuleText → Kind → Option DbRefusal
links_refusal ts Parsed = None
links_refusal ts Lines = None
links_refusal ts Symbols = None
links_refusal ts CallGraph = link_refusal ts
links_refusal ts Effects = link_refusal ts
links_refusal ts Transformers = link_refusal ts
links_refusal ts Preconditions = link_refusal ts
links_refusal ts Regions = link_refusal ts
links_refusal ts InRegions = link_refusal ts
links_refusal ts OutRegions = link_refusal ts
links_refusal ts Marks = link_refusal ts
links_refusal ts Printed = link_refusal ts

abbrev pub graph_refusal : List ℕ → Option DbRefusal
graph_refusal x = if bytes_eq x (codes "*") then None else Some NoSuchName

-- the graph has the name `*`, and every other result that of its module
abbrev pub owner_refusal : List ModuleText → Kind → List ℕ → Option DbRefusal
owner_refusal ts Parsed x = name_refusal ts x
owner_refusal ts Lines x = name_refusal ts x
owner_refusal ts Symbols x = name_refusal ts x
owner_refusal ts CallGraph x = graph_refusal x
owner_refusal ts Effects x = name_refusal ts x
owner_refusal ts Transformers x = name_refusal ts x
owner_refusal ts Preconditions x = name_refusal ts x
owner_refusal ts Regions x = name_refusal ts x
owner_refusal ts InRegions x = name_refusal ts x
owner_refusal ts OutRegions x = name_refusal ts x
owner_refusal ts Marks x = name_refusal ts x
owner_refusal ts Printed x = name_refusal ts x

-- statements, lines, symbols and the graph are not shown
abbrev pub show_refusal : Kind → Option DbRefusal
show_refusal Parsed = Some NotShown
show_refusal Lines = Some NotShown
show_refusal Symbols = Some NotShown
show_refusal CallGraph = Some NotShown
show_refusal Effects = None
show_refusal Transformers = None
show_refusal Preconditions = None
show_refusal Regions = None
show_refusal InRegions = None
show_refusal OutRegions = None
show_refusal Marks = None
show_refusal Printed = None

abbrev pub of_kind : (Kind → Option DbRefusal) → Option Kind → Option DbRefusal
of_kind why None = Some NoSuchKind
of_kind why (Some k) = why k

-- a result of this kind and name cannot be made: no kind has the name, no module has it, or the texts do not link
abbrev pub make_refusal : List ModuleText → List ℕ → List ℕ → Option DbRefusal
make_refusal ts kind x = of_kind (λ k. or_else (owner_refusal ts k x) (links_refusal ts k)) (kind_with kind)

-- or it is not shown, which is said before the texts are linked
abbrev pub value_refusal : List ModuleText → List ℕ → List ℕ → Option DbRefusal
value_refusal ts kind x = of_kind (λ k. or_else (owner_refusal ts k x) (or_else (show_refusal k) (links_refusal ts k))) (kind_with kind)
