-- What is left of sets, and sets that are handed on from statement to statement: they are trimmed.
use Rattle.std.proofs.Common.{◌≡◌, ◌++◌, ◌∷◌, [], List, Option, Some, None, ap, sym, subst, ◌∙◌}
use Rattle.std.specs.Prelude.{option_to_list, MatchOption}
use Rattle.f77_ast.specs.Symbols.{SymbolTree}
use Rattle.array_regions.specs.region_sets.declared.region.Region.{Region}
use Rattle.array_regions.specs.region_sets.Sets.{unite_all}
use Rattle.array_regions.specs.region_sets.Subtract.{subtract}
use Rattle.array_regions.specs.region_sets.Settled.{IsSettled, AllSettled, IsFixed, AllFixed}
use Rattle.array_regions.proofs.RegionSets.SettledLaws.{settled_append, settled_subtract, fixed_one, composed_settled, fixed_set}
use Rattle.in_out_regions.specs.Writes.{write_of}
use Rattle.in_out_regions.specs.Lists.{less_write, all_unwritten, all_unless_overlapped}

settled_maybe : (o : Option Region) → MatchOption o (Unit {0}) IsSettled → AllSettled (option_to_list o)
settled_maybe None h = tt
settled_maybe (Some r) h = (h, tt)

settled_left : (o : Option Region) (r : Region) → IsFixed r → MatchOption (less_write o r) (Unit {0}) IsSettled
settled_left None r h = fixed_one r h
settled_left (Some w) r h = settled_subtract r w (fixed_one r h)

settled_unwritten : (ws rs : List Region) → AllFixed rs → AllSettled (all_unwritten ws rs)
settled_unwritten ws [] h = tt
settled_unwritten ws (r ∷ rs) h =
    settled_append (option_to_list (less_write (write_of r.variable ws) r)) (all_unwritten ws rs) (settled_maybe (less_write (write_of r.variable ws) r) (settled_left (write_of r.variable ws) r h.0)) (settled_unwritten ws rs h.1)

pub unwritten_settled : (ws rs none new : List Region) → none ≡ [] → new ≡ none ++ all_unwritten ws rs → AllFixed rs → AllSettled new
unwritten_settled ws rs none new e n h = subst AllSettled (sym (n ∙ ap (λ (us : List Region). us ++ all_unwritten ws rs) e)) (settled_unwritten ws rs h)

-- only what is said of them changes
fixed_overlapped : (ss : List SymbolTree) (ws rs : List Region) → AllFixed rs → AllFixed (all_unless_overlapped ss ws rs)
fixed_overlapped ss ws [] h = tt
fixed_overlapped ss ws (r ∷ rs) h = (h.0, fixed_overlapped ss ws rs h.1)

pub fixed_over : (ss : List SymbolTree) (ws us set new : List Region) → set ≡ unite_all us → new ≡ all_unless_overlapped ss ws set → AllFixed new
fixed_over ss ws us set new e n = subst AllFixed (sym n) (fixed_overlapped ss ws set (fixed_set us set e))

pub ruleset before = (composed_settled, fixed_set, unwritten_settled, fixed_over)
