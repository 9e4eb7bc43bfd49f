-- Which units a run reads and writes, and which of them the module at hand can see.
use Rattle.std.specs.Prelude.{ℕ, Bool, false, not, ◌&&◌, ◌||◌, nat_eq, List, [], ◌∷◌, bytes_eq}
use Rattle.std.specs.List.{list_any}
use Rattle.f77_ast.specs.Steps.{Spot}
use Rattle.f77_ast.specs.Runs.{Event, Arrived, Read, Wrote, Printed, Took}
use Rattle.call_graph.specs.declared.graph.Graph.{Graph}
use Rattle.f77_meaning.specs.Areas.{is_own_unit}
use Rattle.f77_meaning.specs.Modules.{Known, all_lost}
use Rattle.f77_meaning.specs.Linked.{numbering}
use Rattle.f77_meaning.specs.Occurrences.{Occurrence}

abbrev pub is_read : ℕ → List Event → Bool
is_read u [] = false
is_read u (Arrived p ∷ es) = is_read u es
is_read u (Read v c ∷ es) = nat_eq v u || is_read u es
is_read u (Wrote v c ∷ es) = is_read u es
is_read u (Printed xs ∷ es) = is_read u es
is_read u (Took o ∷ es) = is_read u es

abbrev pub is_written : ℕ → List Event → Bool
is_written u [] = false
is_written u (Arrived p ∷ es) = is_written u es
is_written u (Read v c ∷ es) = is_written u es
is_written u (Wrote v c ∷ es) = nat_eq v u || is_written u es
is_written u (Printed xs ∷ es) = is_written u es
is_written u (Took o ∷ es) = is_written u es

-- the first access is a read
abbrev pub is_read_first : ℕ → List Event → Bool
is_read_first u [] = false
is_read_first u (Arrived p ∷ es) = is_read_first u es
is_read_first u (Read v c ∷ es) = nat_eq v u || is_read_first u es
is_read_first u (Wrote v c ∷ es) = not (nat_eq v u) && is_read_first u es
is_read_first u (Printed xs ∷ es) = is_read_first u es
is_read_first u (Took o ∷ es) = is_read_first u es

abbrev pub is_entry_of : List ℕ → Spot → Bool
is_entry_of m p = bytes_eq p.module_name m && nat_eq p.statement 0

-- the entry of a module is reached
abbrev pub is_entered : List ℕ → List Event → Bool
is_entered m [] = false
is_entered m (Arrived p ∷ es) = is_entry_of m p || is_entered m es
is_entered m (Read u c ∷ es) = is_entered m es
is_entered m (Wrote u c ∷ es) = is_entered m es
is_entered m (Printed xs ∷ es) = is_entered m es
is_entered m (Took o ∷ es) = is_entered m es

-- a unit of a local, not saved, of a module that is called in the execution; at an entry also of that module
abbrev pub is_passing : List Known → Graph → Occurrence → ℕ → Bool
is_passing ks g x u =
    list_any (λ k. (is_entry_of k.read.name x.spot || is_entered k.read.name x.ran.trace) && list_any (λ v. nat_eq v u) (all_lost (numbering ks g) k.read.name k.symbols k.symbols)) ks

-- all units but those, and but those of expressions that are actuals
abbrev pub is_visible : List Known → Graph → Occurrence → ℕ → Bool
is_visible ks g x u = not (is_own_unit (numbering ks g) u) && not (is_passing ks g x u)
