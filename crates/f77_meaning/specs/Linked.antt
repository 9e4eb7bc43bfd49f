-- The program of modules that are linked: what its runs do.
use Rattle.std.specs.Prelude.{ℕ, zero, suc, ◌+◌, max, Bool, true, false, ◌&&◌, ◌||◌, List, [], ◌∷◌, ◌++◌, map, length, Option, Some, None, ℤ, if◌then◌else◌, bytes_eq}
use Rattle.std.specs.List.{list_any}
use Rattle.f77_ast.specs.declared.decl.Scalar.{Scalar}
use Rattle.f77_ast.specs.Trees.{no_stmts}
use Rattle.f77_ast.specs.Store.{Content, content, Store, empty_store}
use Rattle.f77_ast.specs.Programs.{Routine, Program}
use Rattle.f77_ast.specs.declared.symbol.Place.{Place}
use Rattle.f77_ast.specs.declared.symbol.Place.TheVariants as place
use Rattle.f77_ast.specs.Symbols.{SymbolTree}
use Rattle.f77_ast.specs.Units.{units_in}
use Rattle.f77_ast.specs.Shared.{is_in}
use Rattle.call_graph.specs.declared.graph.Graph.{Graph}
use Rattle.call_graph.specs.declared.graph.Edge.{Edge}
use Rattle.f77_meaning.specs.Areas.{block, own, Numbering, unit_at, is_unit_of}
use Rattle.f77_meaning.specs.Modules.{Known, tag_of, names, fixed, fixed_place, dummies_from, all_lost, value_from}

-- ---- the numbers of units

abbrev pub offset_in : Place → ℕ
offset_in (place.Local g o) = o
offset_in (place.Dummy k) = 0
offset_in (place.Block b o) = o
offset_in (place.Constant v) = 0

-- past the last unit of each variable
abbrev pub room_of : List SymbolTree → List SymbolTree → ℕ
room_of ss [] = 1
room_of ss (s ∷ others) = max (offset_in s.place + units_in ss s) (room_of ss others)

abbrev pub room_for : List Known → ℕ
room_for [] = 1
room_for (k ∷ ks) = max (room_of k.symbols k.symbols) (room_for ks)

abbrev pub numbering : List Known → Graph → Numbering
numbering ks g = record { blocks = map (λ b. b.name) g.blocks; modules = map (λ k. k.read.name) ks; room = room_for ks }

-- ---- COMMON

-- a module declares a block
abbrev pub declares : List ℕ → Known → Bool
declares b k = list_any (λ s. is_in b s.place) k.symbols

-- the modules that a module calls
abbrev pub callees : List Edge → List ℕ → List (List ℕ)
callees [] x = []
callees (e ∷ es) x = if bytes_eq e.caller x then e.callee ∷ callees es x else callees es x

-- a module is another, or reaches it by at most so many calls one in the other
abbrev pub reaches : ℕ → List Edge → List ℕ → List ℕ → Bool
reaches zero es x y = bytes_eq x y
reaches (suc n) es x y = bytes_eq x y || list_any (λ z. reaches n es z y) (callees es x)

-- a unit of a block that the module, or one that it reaches, declares
abbrev pub is_common : List Known → Graph → List ℕ → ℕ → Bool
is_common ks g x u =
    list_any (λ k. reaches (length ks) g.edges x k.read.name && list_any (λ b. declares b.name k && is_unit_of (numbering ks g) (block b.name) u) g.blocks) ks

-- ---- modules

abbrev pub routine : List Known → Graph → Known → Routine
routine ks g k =
    let n = numbering ks g in
    record {
      name = k.read.name;
      names = names k.symbols;
      dummies = dummies_from 1 k.symbols;
      fixed = fixed n k;
      locals = all_lost n k.read.name k.symbols k.symbols;
      common = is_common ks g k.read.name;
      own_unit = λ call place. unit_at n (own k.read.name call place) 0;
      body = k.read.body;
    }

-- the modules with this name: one, where they are linked
abbrev pub named : List Known → List ℕ → List Known
named [] x = []
named (k ∷ ks) x = if bytes_eq k.read.name x then k ∷ named ks x else named ks x

abbrev pub subroutines_among : List Known → List Known
subroutines_among [] = []
subroutines_among (k ∷ ks) = if k.read.main then subroutines_among ks else k ∷ subroutines_among ks

-- the subroutines, each before those that it calls: the last of the order first
abbrev pub subroutines : List Known → Graph → List (List ℕ) → List Routine
subroutines ks g [] = []
subroutines ks g (x ∷ xs) = subroutines ks g xs ++ map (routine ks g) (subroutines_among (named ks x))

-- no module: reading has refused what has no main program
abbrev pub no_module : Known
no_module = record { read = record { name = []; main = true; titled = false; dummies = []; decls = []; body = no_stmts; function = None; references = []; whiles = [] }; symbols = [] }

abbrev pub main_of : List Known → Known
main_of [] = no_module
main_of (k ∷ ks) = if k.read.main then k else main_of ks

-- ---- the store at the start: what DATA says, and nothing else (§17.2)

abbrev pub or_else : Option Content → Option Content → Option Content
or_else None c = c
or_else (Some c) d = Some c

abbrev pub content_of : Scalar → Option ℤ → Option Content
content_of t None = None
content_of t (Some n) = Some (content (tag_of t) n)

abbrev pub initial_by : SymbolTree → ℕ → ℕ → Option Content
initial_by s first u = content_of s.scalar (value_from first s.initial u)

abbrev pub initial_in : Numbering → Known → List SymbolTree → ℕ → Option Content
initial_in n k [] u = None
initial_in n k (s ∷ ss) u = or_else (initial_by s (fixed_place n k.read.name k.symbols s s.place).first u) (initial_in n k ss u)

abbrev pub initial_of : Numbering → List Known → ℕ → Option Content
initial_of n [] u = None
initial_of n (k ∷ ks) u = or_else (initial_in n k k.symbols u) (initial_of n ks u)

abbrev pub or_empty : ℕ → Option Content → Content
or_empty u None = empty_store u
or_empty u (Some c) = c

abbrev pub initial : List Known → Graph → Store
initial ks g u = or_empty u (initial_of (numbering ks g) ks u)

abbrev pub program_of : List Known → Graph → Program
program_of ks g = record { main = routine ks g (main_of ks); others = subroutines ks g g.order; initial = initial ks g }
