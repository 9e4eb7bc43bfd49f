-- OUT of the statements of a list, from OUT of the list.
use Rattle.std.specs.Prelude.{ℕ, Bool, ◌||◌, if◌then◌else◌, List, [], ◌∷◌, ◌++◌, map}
use Rattle.f77_ast.specs.Trees.{StmtTree, StmtTrees}
use Rattle.f77_ast.specs.Trees as tree
use Rattle.in_out_regions.specs.transformer_algebra.declared.transformer.Transformer.{Transformer}
use Rattle.in_out_regions.specs.transformer_algebra.Transformers.{apply}
use Rattle.in_out_regions.specs.transformers.Lists.{list_at}
use Rattle.in_out_regions.specs.region_sets.declared.region.Region.{Region}
use Rattle.in_out_regions.specs.region_sets.Regions.{remade}
use Rattle.in_out_regions.specs.region_sets.Sets.{all_trimmed, unite_all}
use Rattle.in_out_regions.specs.region_sets.Lists.{numbers, in_order, all_composed, all_accesses, all_forgetting, set_at}
use Rattle.in_out_regions.specs.Kinds.{is_write}
use Rattle.in_out_regions.specs.Lists.{all_unwritten, before_rest, ins_in_order}
use Rattle.out_regions.specs.Known.{KnownTree}
use Rattle.out_regions.specs.Used.{all_out, used}
use Rattle.out_regions.specs.declared.rest.Rest.{Rest}
use Rattle.out_regions.specs.Leaving.{leaves, stmt_leaves}

-- the WRITE regions of a set
abbrev pub writes : List Region → List Region
writes [] = []
writes (r ∷ rs) = if is_write r.kind then r ∷ writes rs else writes rs

-- of the statement of a number
abbrev pub writes_at : KnownTree → ℕ → List Region
writes_at k n = writes (set_at k.accesses n)

-- ---- the rest of a list, which is executed in its order

abbrev pub rest_in : KnownTree → StmtTrees → List Region
rest_in k rest = ins_in_order k.scope.symbols k.does (set_at k.accesses) (set_at k.ins) (numbers rest)

abbrev pub rest_writes : KnownTree → StmtTrees → List Region
rest_writes k rest = in_order k.does (writes_at k) (numbers rest)

-- regions that speak of the cells before a statement, as ones that speak of those after it
abbrev pub applied : Transformer → Region → Region
applied t r = remade r r.exact (map (apply t) r.pieces)

abbrev pub all_applied : Transformer → List Region → List Region
all_applied t rs = map (applied t) rs

-- what comes after a statement in its list
abbrev pub rest_of : KnownTree → Bool → StmtTrees → Rest
rest_of k whole rest = record { ins = rest_in k rest; writes = rest_writes k rest; leaves = leaves whole rest }

-- the same of this list, which begins with the statement of a number, from what comes after that
abbrev pub rest_before : KnownTree → Bool → StmtTrees → ℕ → Rest → Rest
rest_before k whole list n after = record {
  ins = before_rest k.scope.symbols (set_at k.ins n) (set_at k.accesses n) (k.does n) after.ins;
  writes = unite_all (writes_at k n ++ all_composed (k.does n) after.writes);
  leaves = leaves whole list;
}

-- what comes after each statement of a list
abbrev pub rests_behind : KnownTree → Bool → StmtTrees → List Rest
rests_behind k whole tree.no_stmts = []
rests_behind k whole (tree.more_stmts s rest) = rest_of k whole rest ∷ rests_behind k whole rest

-- ---- a statement and the rest

-- OUT of the list that the rest does not certainly write; where the statement or the rest may leave the list, all of it
abbrev pub left_over : Bool → List Region → List Region → List Region
left_over leaving ws out = if leaving then out else all_unwritten (all_trimmed ws) out

-- what may be read behind a statement with this number: by the rest, or behind the list
abbrev pub used_behind : KnownTree → Bool → ℕ → Rest → List Region → List Region
used_behind k leaving n r out = all_out (all_composed (k.does n) r.ins) ++ all_out (left_over leaving (all_composed (k.does n) r.writes) out)

abbrev pub first_out : KnownTree → Bool → ℕ → Rest → List Region → List Region
first_out k leaving n r out = used k.scope.symbols (used_behind k leaving n r out) (writes_at k n)

-- OUT of the rest
abbrev pub rest_out : KnownTree → ℕ → Rest → List Region → List Region
rest_out k n r out = used k.scope.symbols (all_out (all_applied (k.does n) out)) r.writes

-- the statement, or the rest, may leave the list
abbrev pub may_leave : Bool → StmtTree → Rest → Bool
may_leave whole s r = stmt_leaves whole s || r.leaves

-- ---- a list that is executed in any order

-- what may be read behind a statement: by any other, or behind the list, for any numbers of the cells that the list changes
abbrev pub used_around : KnownTree → Bool → StmtTrees → List Region → List Region
used_around k whole body out =
    let cs = (list_at k.does whole body).cells in
    all_out (all_forgetting cs (all_accesses (set_at k.ins) (numbers body))) ++ all_out (all_forgetting cs out)

abbrev pub any_out : KnownTree → List Region → ℕ → List Region
any_out k us n = used k.scope.symbols us (writes_at k n)
