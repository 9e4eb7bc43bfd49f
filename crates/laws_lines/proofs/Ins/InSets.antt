-- The variables of IN regions of lists of statements.
use Rattle.std.proofs.Common.{◌≡◌, ℕ, Bool, List, [], ◌∷◌, ◌++◌, Option, Some, None, refl}
use Rattle.std.specs.Prelude.{option_to_list}
use Rattle.affine_systems.proofs.Basics.{if_cases}
use Rattle.f77_ast.specs.Trees.{StmtTrees}
use Rattle.f77_ast.specs.declared.variable.Variable.{Variable}
use Rattle.f77_ast.specs.Symbols.{SymbolTree}
use Rattle.f77_ast.specs.declared.results.At.{At}
use Rattle.preconditions.specs.transformer_algebra.declared.transformer.Transformer.{Transformer}
use Rattle.preconditions.specs.transformers.Jumps.{unstructured}
use Rattle.preconditions.specs.transformers.Lists.{value_at, list_at}
use Rattle.in_out_regions.specs.region_sets.declared.region.Region.{Region}
use Rattle.in_out_regions.specs.region_sets.Compose.{compose}
use Rattle.in_out_regions.specs.region_sets.Sets.{unite_all}
use Rattle.in_out_regions.specs.region_sets.Lists.{or_none, all_composed, in_any_order, numbers, set_at}
use Rattle.in_out_regions.specs.Kinds.{as_in, all_in, is_read, first_reads}
use Rattle.in_out_regions.specs.Writes.{is_write_of, write_of}
use Rattle.in_out_regions.specs.Lists.{less_write, all_unwritten, unless_overlapped, all_unless_overlapped, before_rest, ins_in_order, list_in}
use Rattle.laws_lines.proofs.RuleVars.{IsDone}
use Rattle.laws_lines.proofs.Regions.RegionVars.{map_all, IsFine, AreFine, composed_fine, united_fine, any_fine}
use Rattle.laws_lines.proofs.Ins.Differences.{MaybeFine, listed_fine, subtract_fine}
use Rattle.fx_lists.proofs.Lists.{each_append as both_all}

module _ (N : Variable → Type 0) (ok : ℕ → Type 0) where
  abbrev F : List Region → Type 0
  F rs = AreFine N ok rs

  -- ---- kinds

  pub all_in_fine : (rs : List Region) → F rs → F (all_in rs)
  all_in_fine rs h = map_all (IsFine N ok) as_in (λ r i. i) rs h

  pub first_fine : (rs : List Region) → F rs → F (first_reads rs)
  first_fine [] h = tt
  first_fine (r ∷ rs) h = let others = first_fine rs h.1 in if_cases F (is_read r.kind) (as_in r ∷ first_reads rs) (first_reads rs) (λ e. (h.0, others)) (λ e. others)

  pub write_fine : (v : Variable) (ws : List Region) → F ws → MaybeFine N ok (write_of v ws)
  write_fine v [] h = tt
  write_fine v (w ∷ ws) h = let others = write_fine v ws h.1 in if_cases (MaybeFine N ok) (is_write_of v w) (Some w) (write_of v ws) (λ e. h.0) (λ e. others)

  pub set_fine : (as' : List (At (List Region))) → ((n : ℕ) (rs : List Region) → value_at as' n ≡ Some rs → F rs) → (n : ℕ) → F (set_at as' n)
  set_fine as' h n = go (value_at as' n) refl
    where
      go : (o : Option (List Region)) → value_at as' n ≡ o → F (or_none o)
      go None e = tt
      go (Some rs) e = h n rs e

  -- ---- one statement, and what follows it

  less_fine : (o : Option Region) (r : Region) → MaybeFine N ok o → IsFine N ok r → MaybeFine N ok (less_write o r)
  less_fine None r h k = k
  less_fine (Some w) r h k = subtract_fine N ok r w k h

  pub unwritten_fine : (ws rs : List Region) → F ws → F rs → F (all_unwritten ws rs)
  unwritten_fine ws [] h k = tt
  unwritten_fine ws (r ∷ rs) h k =
      let left = less_write (write_of r.variable ws) r in
      both_all (IsFine N ok) (option_to_list left) (all_unwritten ws rs) (listed_fine N ok left (less_fine (write_of r.variable ws) r (write_fine r.variable ws h) k.0)) (unwritten_fine ws rs h k.1)

  pub overlapped_fine : (ss : List SymbolTree) (ws rs : List Region) → F rs → F (all_unless_overlapped ss ws rs)
  overlapped_fine ss ws rs h = map_all (IsFine N ok) (unless_overlapped ss ws) (λ r i. i) rs h

  pub before_fine : (ss : List SymbolTree) (is ws : List Region) (t : Transformer) (rest : List Region) → F is → F ws → IsDone ok t → F rest → F (before_rest ss is ws t rest)
  before_fine ss is ws t rest i w d h =
      let after = unite_all (all_composed t rest) in
      let left = all_unwritten ws after in
      overlapped_fine ss ws (unite_all (is ++ left))
      (united_fine N ok (is ++ left)
      (both_all (IsFine N ok) is left i (unwritten_fine ws after w (united_fine N ok (all_composed t rest) (map_all (IsFine N ok) (λ r. compose r t) (composed_fine N ok t d) rest h)))))

  -- ---- lists

  module _ (ss : List SymbolTree) (t : ℕ → Transformer) (f g : ℕ → List Region) (done : (n : ℕ) → IsDone ok (t n)) (accessed : (n : ℕ) → F (f n)) (ins : (n : ℕ) → F (g n)) where
    pub order_fine : (ns : List ℕ) → F (ins_in_order ss t f g ns)
    order_fine [] = tt
    order_fine (n ∷ ns) = before_fine ss (g n) (f n) (t n) (ins_in_order ss t f g ns) (ins n) (accessed n) (done n) (order_fine ns)

    pub list_in_fine : (whole : Bool) (body : StmtTrees) → F (list_in ss t f g whole body)
    list_in_fine whole body =
        if_cases F (unstructured whole body) (in_any_order (list_at t whole body).cells g (numbers body)) (ins_in_order ss t f g (numbers body))
        (λ e. any_fine N ok t g done ins (list_at t whole body).cells (numbers body)) (λ e. order_fine (numbers body))
