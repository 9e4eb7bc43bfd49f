-- Whether CALLs fit what they call, and which modules call which.
use Rattle.std.specs.Prelude.{ℕ, suc, Bool, true, false, not, nat_eq, List, [], ◌∷◌, ◌++◌, length, slice_get, Option, Some, None, if◌then◌else◌}
use Rattle.std.specs.List.{list_any}
use Rattle.f77_ast.specs.declared.module.FunctionForm.{FunctionForm}
use Rattle.f77_ast.specs.DeclTrees.{ModuleTree, ParsedTree}
use Rattle.f77_ast.specs.Hidden.{is_hidden}
use Rattle.f77_ast.specs.Symbols.{SymbolTree, number_from}
use Rattle.call_graph.specs.declared.calls.Called.{Called}
use Rattle.call_graph.specs.declared.graph.Edge.{Edge}
use Rattle.fx_lists.specs.declared.code.Code.{Code}
use Rattle.fx_lists.specs.declared.code.Code.TheVariants.{NoSuchModule, ArgumentCount, ArgumentType}
use Rattle.call_graph.specs.declared.refusal.Fault.{Fault}
use Rattle.call_graph.specs.declared.refusal.Fault.TheVariants as fault
use Rattle.call_graph.specs.Modules.{call_line}
use Rattle.call_graph.specs.Actuals.{all_fit}

-- ---- what is wrong with a CALL

-- a hidden CALL calls a function, any other a subroutine
abbrev pub takes_call : ℕ → Option FunctionForm → Bool
takes_call n None = not (is_hidden n)
takes_call n (Some form) = is_hidden n

-- the callee is a main program, or a function that is called as a subroutine or the other way round; or it has another number of
-- dummies, or a dummy does not take its actual
abbrev pub against : Called → ModuleTree → List SymbolTree → Option Code
against c m ss =
    if m.main then Some NoSuchModule
    else if not (takes_call c.at m.function) then Some NoSuchModule
    else if not (nat_eq (length c.actuals) (length m.dummies)) then Some ArgumentCount
    else if all_fit c.actuals ss then None
    else Some ArgumentType

abbrev pub against_found : Called → Option ParsedTree → Option (List SymbolTree) → Option Code
against_found c None ss = Some NoSuchModule
against_found c (Some p) None = Some NoSuchModule
against_found c (Some p) (Some ss) = against c p.module_read ss

abbrev pub against_at : Called → Option ℕ → List ParsedTree → List (List SymbolTree) → Option Code
against_at c None ps sss = Some NoSuchModule
against_at c (Some k) ps sss = against_found c (slice_get ps k) (slice_get sss k)

-- no module has the name, or the one that has it is not called so
abbrev pub call_cause : Called → List (List ℕ) → List ParsedTree → List (List SymbolTree) → Option Code
call_cause c names ps sss = against_at c (number_from 0 names c.callee) ps sss

abbrev pub or_later : ℕ → Option Code → Option (ℕ × Code) → Option (ℕ × Code)
or_later n None later = later
or_later n (Some cause) later = Some (n, cause)

-- the number of the first CALL that does not fit, and why
abbrev pub first_in : List Called → List (List ℕ) → List ParsedTree → List (List SymbolTree) → Option (ℕ × Code)
first_in [] names ps sss = None
first_in (c ∷ cs) names ps sss = or_later c.at (call_cause c names ps sss) (first_in cs names ps sss)

abbrev pub unfit_at : ℕ → ParsedTree → Option (ℕ × Code) → Option Fault → Option Fault
unfit_at k p None later = later
unfit_at k p (Some (n, cause)) later = Some (fault.At k (call_line n p) cause)

-- the first CALL of these modules that does not fit; the first module has the place k
abbrev pub unfit_from : ℕ → List ParsedTree → List (List Called) → List (List ℕ) → List ParsedTree → List (List SymbolTree) → Option Fault
unfit_from k [] css names all sss = None
unfit_from k (p ∷ ps) [] names all sss = None
unfit_from k (p ∷ ps) (cs ∷ css) names all sss =
    unfit_at k p (first_in cs names all sss) (unfit_from (suc k) ps css names all sss)

-- ---- which modules call which

abbrev pub place_put : ℕ → List ℕ → List ℕ
place_put k ks = if list_any (λ m. nat_eq m k) ks then ks else ks ++ k ∷ []

abbrev pub found_put : Option ℕ → List ℕ → List ℕ
found_put None ks = ks
found_put (Some k) ks = place_put k ks

-- the places of the modules that are called, each once
abbrev pub places_of : List Called → List (List ℕ) → List ℕ → List ℕ
places_of [] names ks = ks
places_of (c ∷ cs) names ks = places_of cs names (found_put (number_from 0 names c.callee) ks)

abbrev pub all_places : List (List ℕ) → List (List Called) → List (List ℕ)
all_places names [] = []
all_places names (cs ∷ css) = places_of cs names [] ∷ all_places names css

-- ---- edges

abbrev pub edge_of : List ℕ → Called → Edge
edge_of caller c = record { caller = caller; at = c.at; callee = c.callee }

-- the CALLs of one module
abbrev pub edges_of : List ℕ → List Called → List Edge
edges_of caller [] = []
edges_of caller (c ∷ cs) = edge_of caller c ∷ edges_of caller cs

-- by caller, then in the order of the text
abbrev pub all_edges : List (List ℕ) → List (List Called) → List Edge
all_edges [] css = []
all_edges (x ∷ xs) [] = []
all_edges (x ∷ xs) (cs ∷ css) = edges_of x cs ++ all_edges xs css
