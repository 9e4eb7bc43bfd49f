-- Which module a unit belongs to: those of its locals and of its expressions that are actuals; units of COMMON belong to none.
use Rattle.std.specs.Prelude.{ℕ, zero, suc, ◌/◌, ◌%◌, Bool, not, ◌&&◌, ◌||◌, nat_eq, List, length, bytes_eq, if◌then◌else◌}
use Rattle.std.specs.List.{list_any}
use Rattle.call_graph.specs.declared.graph.Graph.{Graph}
use Rattle.f77_meaning.specs.Areas.{Numbering, place_in, is_own_unit}
use Rattle.f77_meaning.specs.Modules.{Known}
use Rattle.f77_meaning.specs.Linked.{numbering, reaches}

-- how often 2 divides a number, at most so often as the first number says
abbrev pub twos : ℕ → ℕ → ℕ
twos zero n = 0
twos (suc t) n = if nat_eq (n % 2) 0 then suc (twos t (n / 2)) else 0

-- whether a unit belongs to the module with this name
abbrev pub belongs_to : Numbering → List ℕ → ℕ → Bool
belongs_to g x u = not (nat_eq ((u / g.room) % 3) 0) && nat_eq (twos (length g.modules) ((u / g.room) / 3)) (place_in g.modules x)

-- it belongs to the module with this name, or to one that it reaches by calls
abbrev pub owns : List Known → Graph → List ℕ → ℕ → Bool
owns ks g x u = list_any (λ k. reaches (length ks) g.edges x k.read.name && belongs_to (numbering ks g) k.read.name u) ks

-- the same without its own locals
abbrev pub owns_below : List Known → Graph → List ℕ → ℕ → Bool
owns_below ks g x u =
    list_any (λ k. (reaches (length ks) g.edges x k.read.name && not (bytes_eq x k.read.name)) && belongs_to (numbering ks g) k.read.name u) ks
    || (is_own_unit (numbering ks g) u && belongs_to (numbering ks g) x u)
