-- The variables of regions and of sets of regions.
use Rattle.std.proofs.Common.{◌≡◌, ℕ, ◌≤◌, Bool, false, ◌&&◌, List, [], ◌∷◌, ◌++◌, length, Option, Some, None, arith, refl}
use Rattle.std.specs.Prelude.{if◌then◌else◌, map}
use Rattle.std.specs.List.{AllByRecursion}
use Rattle.std.specs.declared.cmp.Ordering.{Ordering}
use Rattle.std.specs.declared.cmp.Ordering.TheVariants.{Less, Equal, Greater}
use Rattle.std.specs.Ordering.{match_ordering}
use Rattle.affine_systems.specs.declared.row.Var.{Var}
use Rattle.affine_systems.specs.declared.row.System.{System}
use Rattle.affine_systems.proofs.Basics.{if_cases}
use Rattle.hull_projection.specs.declared.projection.Shadow.{Shadow}
use Rattle.f77_ast.specs.Trees.{StmtTrees}
use Rattle.f77_ast.specs.declared.variable.Variable.{Variable}
use Rattle.f77_ast.specs.declared.results.At.{At}
use Rattle.preconditions.specs.transformer_algebra.declared.transformer.Transformer.{Transformer}
use Rattle.preconditions.specs.transformer_algebra.Transformers.{without}
use Rattle.preconditions.specs.transformers.Jumps.{unstructured}
use Rattle.preconditions.specs.transformers.Lists.{value_at, list_at}
use Rattle.in_out_regions.specs.region_sets.declared.range.Range.{Range}
use Rattle.in_out_regions.specs.region_sets.declared.region.Region.{Region}
use Rattle.in_out_regions.specs.region_sets.Regions.{remade, systems}
use Rattle.in_out_regions.specs.region_sets.Trim.{trim, or_infeasible, trimmed_to}
use Rattle.in_out_regions.specs.region_sets.Within.{all_within}
use Rattle.in_out_regions.specs.region_sets.Unite.{unite}
use Rattle.in_out_regions.specs.region_sets.Sets.{region_cmp, with_pieces, if_left, with_region, with_trimmed, with_regions, all_trimmed, unite_all}
use Rattle.in_out_regions.specs.region_sets.Compose.{compose_piece, compose}
use Rattle.in_out_regions.specs.region_sets.Loops.{loop_piece, over_loop}
use Rattle.in_out_regions.specs.region_sets.Lists.{is_access, accesses, or_none, accesses_at, all_composed, in_order, forgetting, all_forgetting, all_accesses, inexact, in_any_order, numbers, list_regions}
use Rattle.in_out_regions.proofs.RegionSets.LiveLaws.{few_left}
use Rattle.in_out_regions.proofs.RegionSets.TrimLaws.{trim_few}
use Rattle.in_out_regions.proofs.RegionSets.KeptLaws.{trim_are, trimmed_are}
use Rattle.laws_lines.proofs.SystemVars.{IsNeat}
use Rattle.laws_lines.proofs.FormVars.{infeasible_neat}
use Rattle.laws_lines.proofs.HullVars.{hull_neat}
use Rattle.laws_lines.proofs.RuleVars.{IsDone, without_neat}
use Rattle.laws_lines.specs.Regions.Places.{IsPlaceOf, AreFew}
use Rattle.laws_lines.proofs.Regions.PieceVars.{IsRangeOf, compose_neat, loop_neat}
use Rattle.fx_lists.proofs.Lists.{map_length, each_append as both_all}

-- ---- lists

pub map_all : {A : Type 0} (P : A → Type 0) (f : A → A) → ((x : A) → P x → P (f x)) → (xs : List A) → AllByRecursion P xs → AllByRecursion P (map f xs)
map_all P f g [] h = tt
map_all P f g (x ∷ xs) h = (g x h.0, map_all P f g xs h.1)

-- ---- one to four systems

pub one_few : (P : System → Type 0) (s : System) → P s → AreFew P (s ∷ [])
one_few P s h = ((omega arith, omega arith), (h, tt))

each_map : (P Q : System → Type 0) (f : System → System) → ((s : System) → P s → Q (f s)) → (ss : List System) → AllByRecursion P ss → AllByRecursion Q (map f ss)
each_map P Q f g [] h = tt
each_map P Q f g (s ∷ ss) h = (g s h.0, each_map P Q f g ss h.1)

pub few_map : (P Q : System → Type 0) (f : System → System) → ((s : System) → P s → Q (f s)) → (ss : List System) → AreFew P ss → AreFew Q (map f ss)
few_map P Q f g ss h =
    let n = map_length f ss in
    let some = h.0.0 in
    let four = h.0.1 in
    ((omega (arith, n, some), omega (arith, n, four)), each_map P Q f g ss h.1)

each_shadow : (P Q : System → Type 0) (f : System → Shadow) → ((s : System) → P s → Q (f s).system) → (ss : List System) → AllByRecursion P ss → AllByRecursion Q (systems (map f ss))
each_shadow P Q f g [] h = tt
each_shadow P Q f g (s ∷ ss) h = (g s h.0, each_shadow P Q f g ss h.1)

pub few_shadow : (P Q : System → Type 0) (f : System → Shadow) → ((s : System) → P s → Q (f s).system) → (ss : List System) → AreFew P ss → AreFew Q (systems (map f ss))
few_shadow P Q f g ss h =
    let n = map_length (λ (q : Shadow). q.system) (map f ss) in
    let m = map_length f ss in
    let some = h.0.0 in
    let four = h.0.1 in
    ((omega (arith, n, m, some), omega (arith, n, m, four)), each_shadow P Q f g ss h.1)

each_more : (P Q : System → Type 0) → ((s : System) → P s → Q s) → (ss : List System) → AllByRecursion P ss → AllByRecursion Q ss
each_more P Q f [] h = tt
each_more P Q f (s ∷ ss) h = (f s h.0, each_more P Q f ss h.1)

pub few_more : (P Q : System → Type 0) → ((s : System) → P s → Q s) → (ss : List System) → AreFew P ss → AreFew Q ss
few_more P Q f ss h = (h.0, each_more P Q f ss h.1)

-- ---- what trimming leaves

pub trim_neat : (such : Var → Type 0) (ss : List System) → AllByRecursion (IsNeat such) ss → AllByRecursion (IsNeat such) (trim ss).pieces
trim_neat such ss h = trim_are (IsNeat such) (hull_neat such) ss h

trimmed_few : (such : Var → Type 0) (ss : List System) → AllByRecursion (IsNeat such) ss → AreFew (IsNeat such) (or_infeasible (trim ss).pieces)
trimmed_few such ss h = (few_left (trim ss).pieces (trim_few ss), trimmed_are (IsNeat such) (hull_neat such) (infeasible_neat such) ss h)

-- ---- regions of such variables, each of one to four systems over such places

module _ (N : Variable → Type 0) (ok : ℕ → Type 0) where
  abbrev P : System → Type 0
  P = IsNeat (IsPlaceOf ok)

  abbrev pub IsFine : Region → Type 0
  IsFine r = N r.variable × AreFew (IsNeat (IsPlaceOf ok)) r.pieces

  abbrev pub AreFine : List Region → Type 0
  AreFine rs = AllByRecursion IsFine rs

  pub composed_fine : (t : Transformer) → IsDone ok t → (r : Region) → IsFine r → IsFine (compose r t)
  composed_fine t d r h = (h.0, trimmed_few (IsPlaceOf ok) (systems (map (compose_piece t) r.pieces)) (each_shadow P P (compose_piece t) (compose_neat ok t d) r.pieces h.1.1))

  pub looped_fine : (g : Range) → IsRangeOf ok g → (r : Region) → IsFine r → IsFine (over_loop r g)
  looped_fine g p r h = (h.0, trimmed_few (IsPlaceOf ok) (systems (map (loop_piece g) r.pieces)) (each_shadow P P (loop_piece g) (loop_neat ok g p) r.pieces h.1.1))

  -- another system for each
  pub mapped_fine : (f : System → System) → ((s : System) → IsNeat (IsPlaceOf ok) s → IsNeat (IsPlaceOf ok) (f s)) → (e : Bool) (r : Region) → IsFine r → IsFine (remade r e (map f r.pieces))
  mapped_fine f g e r h = (h.0, few_map P P f g r.pieces h.1)

  pub unite_fine : (a b : Region) → IsFine a → IsFine b → IsFine (unite a b)
  unite_fine a b h k =
      let both = trimmed_to a (a.exact && b.exact) (a.pieces ++ b.pieces) in
      if_cases IsFine (all_within a.pieces b.pieces) (remade a a.exact a.pieces) (if all_within b.pieces a.pieces then remade b b.exact b.pieces else both) (λ e. h)
      (λ e. if_cases IsFine (all_within b.pieces a.pieces) (remade b b.exact b.pieces) both (λ i. k)
      (λ i. (h.0, trimmed_few (IsPlaceOf ok) (a.pieces ++ b.pieces) (both_all P a.pieces b.pieces h.1.1 k.1.1))))

  -- ---- sets

  pieces_fine : (r : Region) → N r.variable → (e : Bool) (ss : List System) → length ss ≤ 4 → AllByRecursion P ss → (k : Region → List Region) (none : List Region) → ((q : Region) → IsFine q → AreFine (k q)) → AreFine none
      → AreFine (with_pieces r e ss k none)
  pieces_fine r n e [] l h k none f g = g
  pieces_fine r n e (s ∷ ss) l h k none f g = f (remade r e (s ∷ ss)) (n, ((omega arith, l), h))

  left_fine : (r : Region) → IsFine r → (k : Region → List Region) (none : List Region) → ((q : Region) → IsFine q → AreFine (k q)) → AreFine none → AreFine (if_left r k none)
  left_fine r h k none f g = pieces_fine r h.0 (r.exact && (trim r.pieces).exact) (trim r.pieces).pieces (trim_few r.pieces) (trim_neat (IsPlaceOf ok) r.pieces h.1.1) k none f g

  region_fine : (r : Region) (qs : List Region) → IsFine r → AreFine qs → AreFine (with_region r qs)
  region_fine r [] h k = (h, tt)
  region_fine r (q ∷ qs) h k = go (region_cmp r q) (region_fine r qs h k.1)
    where
      go : (o : Ordering) → AreFine (with_region r qs) → AreFine (match_ordering o (r ∷ (q ∷ qs)) (unite q r ∷ qs) (q ∷ with_region r qs))
      go Less ih = (h, k)
      go Equal ih = (unite_fine q r k.0 h, k.1)
      go Greater ih = (k.0, ih)

  trimmed_fine : (r : Region) (qs : List Region) → IsFine r → AreFine qs → AreFine (with_trimmed r qs)
  trimmed_fine r qs h k = left_fine r h (λ s. with_region s qs) qs (λ q i. region_fine q qs i k) k

  regions_fine : (qs rs : List Region) → AreFine qs → AreFine rs → AreFine (with_regions qs rs)
  regions_fine qs [] h k = h
  regions_fine qs (r ∷ rs) h k = regions_fine (with_trimmed r qs) rs (trimmed_fine r qs k.0 h) k.1

  pub all_trimmed_fine : (rs : List Region) → AreFine rs → AreFine (all_trimmed rs)
  all_trimmed_fine [] h = tt
  all_trimmed_fine (r ∷ rs) h = let others = all_trimmed_fine rs h.1 in left_fine r h.0 (λ s. s ∷ all_trimmed rs) (all_trimmed rs) (λ q i. (i, others)) others

  pub united_fine : (rs : List Region) → AreFine rs → AreFine (unite_all rs)
  united_fine rs h = all_trimmed_fine (with_regions [] rs) (regions_fine [] rs tt h)

  -- ---- lists of statements

  kept_fine : (rs : List Region) → AreFine rs → AreFine (accesses rs)
  kept_fine [] h = tt
  kept_fine (r ∷ rs) h = let others = kept_fine rs h.1 in if_cases AreFine (is_access r.kind) (r ∷ accesses rs) (accesses rs) (λ e. (h.0, others)) (λ e. others)

  pub at_fine : (as' : List (At (List Region))) → ((n : ℕ) (rs : List Region) → value_at as' n ≡ Some rs → AreFine rs) → (n : ℕ) → AreFine (accesses_at as' n)
  at_fine as' h n = kept_fine (or_none (value_at as' n)) (go (value_at as' n) refl)
    where
      go : (o : Option (List Region)) → value_at as' n ≡ o → AreFine (or_none o)
      go None e = tt
      go (Some rs) e = h n rs e

  module _ (t : ℕ → Transformer) (f : ℕ → List Region) (done : (n : ℕ) → IsDone ok (t n)) (fine : (n : ℕ) → AreFine (f n)) where
    pub order_fine : (ns : List ℕ) → AreFine (in_order t f ns)
    order_fine [] = tt
    order_fine (n ∷ ns) =
        united_fine (f n ++ all_composed (t n) (in_order t f ns))
        (both_all IsFine (f n) (all_composed (t n) (in_order t f ns)) (fine n) (map_all IsFine (λ r. compose r (t n)) (composed_fine (t n) (done n)) (in_order t f ns) (order_fine ns)))

    pub each_fine : (ns : List ℕ) → AreFine (all_accesses f ns)
    each_fine [] = tt
    each_fine (n ∷ ns) = both_all IsFine (f n) (all_accesses f ns) (fine n) (each_fine ns)

    pub any_fine : (cs ns : List ℕ) → AreFine (in_any_order cs f ns)
    any_fine cs ns =
        map_all IsFine inexact (λ r h. h) (unite_all (all_forgetting cs (all_accesses f ns)))
        (united_fine (all_forgetting cs (all_accesses f ns))
        (map_all IsFine (forgetting cs) (λ r h. mapped_fine (without cs) (without_neat (IsPlaceOf ok) cs) false r h) (all_accesses f ns) (each_fine ns)))

    pub list_fine : (whole : Bool) (body : StmtTrees) → AreFine (list_regions t f whole body)
    list_fine whole body =
        if_cases AreFine (unstructured whole body) (in_any_order (list_at t whole body).cells f (numbers body)) (in_order t f (numbers body)) (λ e. any_fine (list_at t whole body).cells (numbers body)) (λ e. order_fine (numbers body))
