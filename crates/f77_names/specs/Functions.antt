-- Names of intrinsic functions: they are functions where no array of the name is declared (ANSI X3.9-1978 §15.10).
use Rattle.std.specs.Prelude.{ℕ, Bool, nat_eq, nat_le, List, [], ◌∷◌, ◌++◌, Option, Some, None, if◌then◌else◌, codes, bytes_eq}
use Rattle.std.specs.List.{list_any}
use Rattle.f77_ast.specs.DeclTrees.{ExtentTree, EntityTree, CommonTree, DeclTree}
use Rattle.f77_ast.specs.DeclTrees as decl
use Rattle.f77_names.specs.declared.functions.Function.{Function}
use Rattle.f77_names.specs.declared.functions.Function.TheVariants.{Abs, Iabs, Mod, Max, Max0, Min, Min0}

abbrev pub function_named : List ℕ → Option Function
function_named x =
    if bytes_eq x (codes "ABS") then Some Abs
    else if bytes_eq x (codes "IABS") then Some Iabs
    else if bytes_eq x (codes "MOD") then Some Mod
    else if bytes_eq x (codes "MAX") then Some Max
    else if bytes_eq x (codes "MAX0") then Some Max0
    else if bytes_eq x (codes "MIN") then Some Min
    else if bytes_eq x (codes "MIN0") then Some Min0
    else None

abbrev pub function_number : Function → ℕ
function_number Abs = 0
function_number Iabs = 1
function_number Mod = 2
function_number Max = 3
function_number Max0 = 4
function_number Min = 5
function_number Min0 = 6

abbrev pub same_function : Function → Function → Bool
same_function f g = nat_eq (function_number f) (function_number g)

-- how many arguments a function takes: of MAX and MIN two or more
abbrev pub takes : Function → ℕ → Bool
takes Abs n = nat_eq n 1
takes Iabs n = nat_eq n 1
takes Mod n = nat_eq n 2
takes Max n = nat_le 2 n
takes Max0 n = nat_le 2 n
takes Min n = nat_le 2 n
takes Min0 n = nat_le 2 n

-- ---- arrays with such names

abbrev pub with_function : Option Function → List Function → List Function
with_function None fs = fs
with_function (Some f) fs = if list_any (same_function f) fs then fs else fs ++ f ∷ []

abbrev pub with_entity : List ℕ → List ExtentTree → List Function → List Function
with_entity x [] fs = fs
with_entity x (b ∷ bs) fs = with_function (function_named x) fs

abbrev pub with_entities : List EntityTree → List Function → List Function
with_entities [] fs = fs
with_entities (e ∷ es) fs = with_entities es (with_entity e.name e.bounds fs)

abbrev pub with_blocks : List CommonTree → List Function → List Function
with_blocks [] fs = fs
with_blocks (c ∷ cs) fs = with_blocks cs (with_entities c.members fs)

abbrev pub with_decl : DeclTree → List Function → List Function
with_decl (decl.implicit ps) fs = fs
with_decl (decl.integer es) fs = with_entities es fs
with_decl (decl.logical es) fs = with_entities es fs
with_decl (decl.dimension es) fs = with_entities es fs
with_decl (decl.parameter ss) fs = fs
with_decl (decl.common cs) fs = with_blocks cs fs
with_decl (decl.equivalence gs) fs = fs
with_decl (decl.save is) fs = fs
with_decl (decl.initial gs) fs = fs

abbrev pub with_decls : List DeclTree → List Function → List Function
with_decls [] fs = fs
with_decls (d ∷ ds) fs = with_decls ds (with_decl d fs)

-- the functions whose names are those of arrays
abbrev pub arrays_named : List DeclTree → List Function
arrays_named ds = with_decls ds []

abbrev pub unless_array : List Function → Option Function → Option Function
unless_array arrays None = None
unless_array arrays (Some f) = if list_any (same_function f) arrays then None else Some f

-- the function that a name stands for
unfoldable pub function_of : List Function → List ℕ → Option Function
function_of arrays x = unless_array arrays (function_named x)
