-- The systems of the regions of a module name no subscripts but those that their variables have.
use Rattle.std.proofs.Common.{◌≡◌, ⊎_elim, ℕ, suc, ◌+◌, ◌<◌, ◌≤◌, Bool, true, false, List, [], ◌∷◌, ◌++◌, map, length, Option, Some, None, pos, arith, refl, sym, ap, subst}
use Rattle.std.specs.Prelude.{◌&&◌, if◌then◌else◌, ◌-ℤ◌}
use Rattle.std.specs.declared.cmp.Ordering.{Ordering}
use Rattle.std.specs.declared.cmp.Ordering.TheVariants.{Less, Equal, Greater}
use Rattle.std.specs.Ordering.{nat_cmp, ordering_then, match_ordering}
use Rattle.affine_systems.specs.declared.row.Var.TheVariants.{Phi}
use Rattle.affine_systems.specs.declared.row.System.{System}
use Rattle.affine_systems.specs.Calls.{meet}
use Rattle.affine_systems.proofs.Basics.{if_cases}
use Rattle.hull_projection.specs.declared.projection.Shadow.{Shadow}
use Rattle.preconditions.specs.transformer_algebra.Renaming.{of_rows}
use Rattle.f77_ast.specs.Trees.{ExprTree, ExprTrees, ArmTree, ArmTrees, StmtTrees}
use Rattle.f77_ast.specs.Trees as tree
use Rattle.f77_ast.specs.declared.constant.Constant.{Constant}
use Rattle.f77_ast.specs.declared.constant.Constant.TheVariants.{Int, Log}
use Rattle.f77_ast.specs.declared.constant.ConstantValue.{ConstantValue}
use Rattle.f77_ast.specs.declared.constant.ConstantValue.TheVariants.{Is, Faults, Varies}
use Rattle.f77_ast.specs.Constants.{const_value}
use Rattle.f77_ast.specs.declared.variable.Variable.{Variable}
use Rattle.f77_ast.specs.declared.variable.Variable.TheVariants.{Own}
use Rattle.f77_ast.specs.Symbols.{BoundTree, SymbolTree, number_from}
use Rattle.f77_ast.specs.Shared.{symbol_at}
use Rattle.f77_ast.specs.declared.results.At.{At}
use Rattle.f77_ast.specs.Variables.{variable_cmp}
use Rattle.tracked_cells.specs.Standing.{has_bounds}
use Rattle.call_graph.specs.declared.graph.Graph.{Graph}
use Rattle.f77_meaning.specs.Modules.{Known}
use Rattle.affine_forms.specs.declared.affine.Affine.{Affine}
use Rattle.affine_forms.specs.Forms.{affine_of}
use Rattle.affine_forms.specs.Comparisons.{var_form}
use Rattle.affine_forms.specs.Conditions.{condition_of}
use Rattle.preconditions.specs.transformer_algebra.declared.transformer.Transformer.{Transformer}
use Rattle.preconditions.specs.transformer_algebra.Transformers.{without}
use Rattle.preconditions.specs.transformer_algebra.Laws.{In, here, there}
use Rattle.preconditions.specs.call_translation.Scopes.{ScopeTree}
use Rattle.preconditions.specs.call_translation.Actuals.{named_cell, one_cell}
use Rattle.preconditions.specs.transformers.Jumps.{unstructured}
use Rattle.preconditions.specs.transformers.Lists.{value_at, list_at}
use Rattle.in_out_regions.specs.region_sets.declared.range.Range.{Range}
use Rattle.in_out_regions.specs.region_sets.declared.region.Access.{Access}
use Rattle.in_out_regions.specs.region_sets.declared.region.Access.TheVariants.{Read, Write}
use Rattle.in_out_regions.specs.region_sets.declared.region.Region.{Region}
use Rattle.in_out_regions.specs.region_sets.Regions.{remade, systems}
use Rattle.in_out_regions.specs.region_sets.Within.{all_within}
use Rattle.in_out_regions.specs.region_sets.Trim.{trim, or_infeasible, trimmed_to}
use Rattle.in_out_regions.specs.region_sets.Unite.{unite}
use Rattle.in_out_regions.specs.region_sets.Sets.{access_number, region_cmp, with_pieces, if_left, with_region, with_trimmed, with_regions, all_trimmed, unite_all}
use Rattle.in_out_regions.specs.region_sets.Compose.{compose_piece, compose}
use Rattle.in_out_regions.specs.region_sets.Loops.{loop_piece, over_loop}
use Rattle.in_out_regions.specs.region_sets.Lists.{is_access, accesses, or_none, accesses_at, all_composed, in_order, forgetting, all_forgetting, all_accesses, inexact, in_any_order, numbers, list_regions}
use Rattle.in_out_regions.proofs.RegionSets.StepLaws.{in_either, of_map}
use Rattle.in_out_regions.proofs.RegionSets.KeptLaws.{each_of, are_each, trim_are, trimmed_are}
use Rattle.in_out_regions.specs.array_regions.declared.arms.Reached.{Reached}
use Rattle.in_out_regions.specs.array_regions.Rows.{constant_form, low_rows, high_rows, high_form, dimension_rows, subscript_rows}
use Rattle.in_out_regions.specs.array_regions.References.{is_constant, scalar, scalar_at, array_at, element_at, whole_of, whole, element_of, element, named}
use Rattle.in_out_regions.specs.array_regions.Reads.{reads, all_reads, inner_reads, maybe_reads}
use Rattle.in_out_regions.specs.array_regions.Calls.{actual_reads, actuals_reads}
use Rattle.in_out_regions.specs.array_regions.Simple.{assignment, item_does, reading}
use Rattle.in_out_regions.specs.array_regions.Arms.{always, if_true, if_false, into_arm, past_arm, past_arms, under_tests, all_met, arm_reads, tests_reads}
use Rattle.in_out_regions.specs.array_regions.Loops.{all_over}
use Rattle.laws_lines.specs.Variables.{EachVar, IsCellOf}
use Rattle.laws_lines.proofs.RowVars.{each_more, Given}
use Rattle.laws_lines.proofs.SystemVars.{IsNeat, AreGiven, all-append, system_more, meet_neat, of_rows_neat}
use Rattle.laws_lines.proofs.HullVars.{hull_neat}
use Rattle.laws_lines.proofs.FormVars.{FormOf, NamesCells, affine_over, condition_over, compared_given, infeasible_neat, none_neat}
use Rattle.laws_lines.proofs.RuleVars.{IsDone, forgotten_done, without_neat}
use Rattle.laws_analyses.specs.Regions.Settings.{is_told}
use Rattle.laws_analyses.proofs.Regions.Told.{told_same}
use Rattle.laws_marks.specs.InFrames.{bounds_count, rank}
use Rattle.laws_marks.proofs.InNarrow.{Upto, IsUpto, cell_upto, compose_upto, IsRangeOver, loop_upto}
use Rattle.laws_programs.proofs.Effects.Named.{equal_key}
use Rattle.fx_lists.proofs.Every.{Anything}

-- ---- regions

-- variables that regions may name
pub record MayName : Type 0 where
  pub ks : List Known
  pub g : Graph
  pub such : Variable → Bool
  pub own : (n : ℕ) → such (Own n) ≡ true
  pub told : (v : Variable) → such v ≡ true → is_told v ≡ true

-- of such a variable, on the subscripts that it has
abbrev pub IsNarrowed : MayName → List SymbolTree → Region → Type 0
IsNarrowed may ss r = (may.such r.variable ≡ true) × ((s : System) → In s r.pieces → IsUpto (rank may.ks may.g ss r.variable) s)

abbrev pub AreNarrowed : MayName → List SymbolTree → List Region → Type 0
AreNarrowed may ss rs = (r : Region) → In r rs → IsNarrowed may ss r

rank_same : (may : MayName) (ss : List SymbolTree) (v w : Variable) → may.such v ≡ true → variable_cmp v w ≡ Equal → rank may.ks may.g ss v ≡ rank may.ks may.g ss w
rank_same may ss v w h e = ap (rank may.ks may.g ss) (told_same v w (may.told v h) (equal_key v w e))

then_equal : (o p : Ordering) → ordering_then o p ≡ Equal → p ≡ Equal
then_equal Less p e = absurd (cc)
then_equal Equal p e = e
then_equal Greater p e = absurd (cc)

-- what trimming makes of systems
abbrev AreUpto : ℕ → List System → Type 0
AreUpto n qs = (q : System) → In q qs → IsUpto n q

trim_upto : (n : ℕ) (qs : List System) → AreUpto n qs → AreUpto n (trim qs).pieces
trim_upto n qs h = each_of (IsUpto n) (trim qs).pieces (trim_are (IsUpto n) (λ a b. hull_neat (Upto n) a b) qs (are_each (IsUpto n) qs h))

trimmed_upto : (n : ℕ) (qs : List System) → AreUpto n qs → AreUpto n (or_infeasible (trim qs).pieces)
trimmed_upto n qs h = each_of (IsUpto n) (or_infeasible (trim qs).pieces) (trimmed_are (IsUpto n) (λ a b. hull_neat (Upto n) a b) (infeasible_neat (Upto n)) qs (are_each (IsUpto n) qs h))

module _ (may : MayName) (ss : List SymbolTree) where
  pub none_narrowed : AreNarrowed may ss []
  none_narrowed r i = elim i [ ]

  pub more_narrowed : (r : Region) (rs : List Region) → IsNarrowed may ss r → AreNarrowed may ss rs → AreNarrowed may ss (r ∷ rs)
  more_narrowed r rs h k q here = h
  more_narrowed r rs h k q (there i) = k q i

  pub both_narrowed : (rs qs : List Region) → AreNarrowed may ss rs → AreNarrowed may ss qs → AreNarrowed may ss (rs ++ qs)
  both_narrowed rs qs h k r i = ⊎_elim (λ j. h r j) (λ j. k r j) (in_either r rs qs i)

  -- other systems for those of each
  pub each_narrowed : (f : System → System) → ((n : ℕ) (s : System) → IsUpto n s → IsUpto n (f s)) → (e : Bool) (r : Region) → IsNarrowed may ss r → IsNarrowed may ss (remade r e (map f r.pieces))
  each_narrowed f g e r h = (h.0, λ s i. of_map f (IsUpto (rank may.ks may.g ss r.variable)) r.pieces (λ q j. g (rank may.ks may.g ss r.variable) q (h.1 q j)) s i)

  to_narrowed : (e : Bool) (r : Region) (qs : List System) → may.such r.variable ≡ true → AreUpto (rank may.ks may.g ss r.variable) qs → IsNarrowed may ss (trimmed_to r e qs)
  to_narrowed e r qs h k = (h, trimmed_upto (rank may.ks may.g ss r.variable) qs k)

  shadows_narrowed : (f : System → Shadow) → ((n : ℕ) (s : System) → IsUpto n s → IsUpto n (f s).system) → (e : Bool) (r : Region) → IsNarrowed may ss r → IsNarrowed may ss (trimmed_to r e (systems (map f r.pieces)))
  shadows_narrowed f g e r h =
      to_narrowed e r (systems (map f r.pieces)) h.0
      (of_map (λ (q : Shadow). q.system) (IsUpto (rank may.ks may.g ss r.variable)) (map f r.pieces) (of_map f (λ (w : Shadow). IsUpto (rank may.ks may.g ss r.variable) w.system) r.pieces (λ p l. g (rank may.ks may.g ss r.variable) p (h.1 p l))))

  pub composed_narrowed : (t : Transformer) → IsDone Anything t → (rs : List Region) → AreNarrowed may ss rs → AreNarrowed may ss (all_composed t rs)
  composed_narrowed t d rs h r i = of_map (λ (q : Region). compose q t) (IsNarrowed may ss) rs (λ q j. shadows_narrowed (compose_piece t) (λ n s k. compose_upto n t d s k) false q (h q j)) r i

  pub looped_narrowed : (g : Range) → IsRangeOver g → (rs : List Region) → AreNarrowed may ss rs → AreNarrowed may ss (all_over g rs)
  looped_narrowed g p rs h r i = of_map (λ (q : Region). over_loop q g) (IsNarrowed may ss) rs (λ q j. shadows_narrowed (loop_piece g) (λ n s k. loop_upto n g p s k) false q (h q j)) r i

  unite_narrowed : (a b : Region) → rank may.ks may.g ss a.variable ≡ rank may.ks may.g ss b.variable → IsNarrowed may ss a → IsNarrowed may ss b → IsNarrowed may ss (unite a b)
  unite_narrowed a b e h k = go (all_within a.pieces b.pieces) (all_within b.pieces a.pieces)
    where
      both : AreUpto (rank may.ks may.g ss a.variable) (a.pieces ++ b.pieces)
      both q i = ⊎_elim (λ j. h.1 q j) (λ j. subst (λ n. IsUpto n q) (sym e) (k.1 q j)) (in_either q a.pieces b.pieces i)

      go : (m n : Bool) → IsNarrowed may ss (if m then remade a a.exact a.pieces else if n then remade b b.exact b.pieces else trimmed_to a (a.exact && b.exact) (a.pieces ++ b.pieces))
      go true n = h
      go false true = k
      go false false = to_narrowed (a.exact && b.exact) a (a.pieces ++ b.pieces) h.0 both

  pieces_narrowed : (r : Region) (e : Bool) (qs : List System) (k : Region → List Region) (none : List Region) → IsNarrowed may ss (remade r e qs) → ((q : Region) → IsNarrowed may ss q → AreNarrowed may ss (k q)) → AreNarrowed may ss none → AreNarrowed may ss (with_pieces r e qs k none)
  pieces_narrowed r e [] k none h f g = g
  pieces_narrowed r e (s ∷ qs) k none h f g = f (remade r e (s ∷ qs)) h

  left_narrowed : (r : Region) (k : Region → List Region) (none : List Region) → IsNarrowed may ss r → ((q : Region) → IsNarrowed may ss q → AreNarrowed may ss (k q)) → AreNarrowed may ss none → AreNarrowed may ss (if_left r k none)
  left_narrowed r k none h f g = pieces_narrowed r (r.exact && (trim r.pieces).exact) (trim r.pieces).pieces k none (h.0, trim_upto (rank may.ks may.g ss r.variable) r.pieces h.1) f g

  region_narrowed : (r : Region) (qs : List Region) → IsNarrowed may ss r → AreNarrowed may ss qs → AreNarrowed may ss (with_region r qs)
  region_narrowed r [] h k = more_narrowed r [] h k
  region_narrowed r (q ∷ qs) h k = go (region_cmp r q) refl (region_narrowed r qs h (λ w i. k w (there i)))
    where
      go : (o : Ordering) → region_cmp r q ≡ o → AreNarrowed may ss (with_region r qs) → AreNarrowed may ss (match_ordering o (r ∷ (q ∷ qs)) (unite q r ∷ qs) (q ∷ with_region r qs))
      go Less e ih = more_narrowed r (q ∷ qs) h k
      go Equal e ih =
          more_narrowed (unite q r) qs
          (unite_narrowed q r (sym (rank_same may ss r.variable q.variable h.0 (then_equal (nat_cmp (access_number r.kind) (access_number q.kind)) (variable_cmp r.variable q.variable) e))) (k q here) h)
          (λ w i. k w (there i))
      go Greater e ih = more_narrowed q (with_region r qs) (k q here) ih

  all_narrowed : (rs qs : List Region) → AreNarrowed may ss qs → AreNarrowed may ss rs → AreNarrowed may ss (with_regions qs rs)
  all_narrowed [] qs h k = h
  all_narrowed (r ∷ rs) qs h k = all_narrowed rs (with_trimmed r qs) (left_narrowed r (λ s. with_region s qs) qs (k r here) (λ q i. region_narrowed q qs i h) h) (λ w i. k w (there i))

  trimmed_narrowed : (rs : List Region) → AreNarrowed may ss rs → AreNarrowed may ss (all_trimmed rs)
  trimmed_narrowed [] h = none_narrowed
  trimmed_narrowed (r ∷ rs) h =
      let ih = trimmed_narrowed rs (λ w i. h w (there i)) in
      left_narrowed r (λ s. s ∷ all_trimmed rs) (all_trimmed rs) (h r here) (λ q i. more_narrowed q (all_trimmed rs) i ih) ih

  pub united_narrowed : (rs : List Region) → AreNarrowed may ss rs → AreNarrowed may ss (unite_all rs)
  united_narrowed rs h = trimmed_narrowed (with_regions [] rs) (all_narrowed rs [] none_narrowed h)

  -- ---- lists of statements

  kept_narrowed : (rs : List Region) → AreNarrowed may ss rs → AreNarrowed may ss (accesses rs)
  kept_narrowed [] h = h
  kept_narrowed (r ∷ rs) h =
      let others = kept_narrowed rs (λ w i. h w (there i)) in
      if_cases (AreNarrowed may ss) (is_access r.kind) (r ∷ accesses rs) (accesses rs) (λ e. more_narrowed r (accesses rs) (h r here) others) (λ e. others)

  module _ (t : ℕ → Transformer) (done : (n : ℕ) → IsDone Anything (t n)) (as' : List (At (List Region))) (fine : (n : ℕ) (rs : List Region) → value_at as' n ≡ Some rs → AreNarrowed may ss rs) where
    at_narrowed : (n : ℕ) → AreNarrowed may ss (accesses_at as' n)
    at_narrowed n = kept_narrowed (or_none (value_at as' n)) (go (value_at as' n) refl)
      where
        go : (o : Option (List Region)) → value_at as' n ≡ o → AreNarrowed may ss (or_none o)
        go None e = none_narrowed
        go (Some rs) e = fine n rs e

    order_narrowed : (ns : List ℕ) → AreNarrowed may ss (in_order t (accesses_at as') ns)
    order_narrowed [] = none_narrowed
    order_narrowed (n ∷ ns) =
        united_narrowed (accesses_at as' n ++ all_composed (t n) (in_order t (accesses_at as') ns))
        (both_narrowed (accesses_at as' n) (all_composed (t n) (in_order t (accesses_at as') ns)) (at_narrowed n) (composed_narrowed (t n) (done n) (in_order t (accesses_at as') ns) (order_narrowed ns)))

    some_narrowed : (ns : List ℕ) → AreNarrowed may ss (all_accesses (accesses_at as') ns)
    some_narrowed [] = none_narrowed
    some_narrowed (n ∷ ns) = both_narrowed (accesses_at as' n) (all_accesses (accesses_at as') ns) (at_narrowed n) (some_narrowed ns)

    any_narrowed : (cs ns : List ℕ) → AreNarrowed may ss (in_any_order cs (accesses_at as') ns)
    any_narrowed cs ns r i =
        of_map inexact (IsNarrowed may ss) (unite_all (all_forgetting cs (all_accesses (accesses_at as') ns)))
        (united_narrowed (all_forgetting cs (all_accesses (accesses_at as') ns)) (λ q j. of_map (forgetting cs) (IsNarrowed may ss) (all_accesses (accesses_at as') ns) (λ w l. each_narrowed (without cs) (λ n s k. without_neat (Upto n) cs s k) false w (some_narrowed ns w l)) q j)) r i

    pub list_narrowed : (whole : Bool) (body : StmtTrees) → AreNarrowed may ss (list_regions t (accesses_at as') whole body)
    list_narrowed whole body =
        if_cases (AreNarrowed may ss) (unstructured whole body) (in_any_order (list_at t whole body).cells (accesses_at as') (numbers body)) (in_order t (accesses_at as') (numbers body)) (λ e. any_narrowed (list_at t whole body).cells (numbers body)) (λ e. order_narrowed (numbers body))

-- ---- names, elements and expressions

names_any : (m : ScopeTree) → NamesCells (IsCellOf Anything) m.scalars
names_any m x c e = tt

abbrev pub FormAt : ℕ → Option Affine → Type 0
FormAt n None = Unit {0}
FormAt n (Some f) = EachVar (Upto n) f.terms

pub form_at : (n : ℕ) (o : Option Affine) → FormOf (IsCellOf Anything) o → FormAt n o
form_at n None h = tt
form_at n (Some f) h = each_more (IsCellOf Anything) (Upto n) (cell_upto n) f.terms h.1

pub constant_at : (n : ℕ) (w : ConstantValue) → FormAt n (constant_form w)
constant_at n (Is (Int i)) = tt
constant_at n (Is (Log b)) = tt
constant_at n Faults = tt
constant_at n Varies = tt

pub high_at : (n : ℕ) (value : List ℕ → Option Constant) (o : Option ExprTree) → FormAt n (high_form value o)
high_at n value None = tt
high_at n value (Some e) = constant_at n (const_value value e)

pub low_given : (n : ℕ) (o : Option Affine) (k : ℕ) → Upto n (Phi k) → FormAt n o → AreGiven (Upto n) (low_rows o k)
low_given n None k p h = tt
low_given n (Some f) k p h = (compared_given (Upto n) false f (var_form (Phi k)) (pos 0 -ℤ f.constant) h (p, tt), tt)

pub high_given : (n : ℕ) (o : Option Affine) (k : ℕ) → Upto n (Phi k) → FormAt n o → AreGiven (Upto n) (high_rows o k)
high_given n None k p h = tt
high_given n (Some f) k p h = (compared_given (Upto n) false (var_form (Phi k)) f (f.constant -ℤ pos 0) (p, tt) h, tt)

dimension_given : (n : ℕ) (value : List ℕ → Option Constant) (o : Option Affine) (b : BoundTree) (k : ℕ) → Upto n (Phi k) → FormAt n o → AreGiven (Upto n) (dimension_rows value o b k)
dimension_given n value (Some f) b k p h = (compared_given (Upto n) true (var_form (Phi k)) f (f.constant -ℤ pos 0) (p, tt) h, tt)
dimension_given n value None b k p h =
    all-append (Given (Upto n)) (low_rows (constant_form (const_value value b.low)) k) (high_rows (high_form value b.high) k)
    (low_given n (constant_form (const_value value b.low)) k p (constant_at n (const_value value b.low))) (high_given n (high_form value b.high) k p (high_at n value b.high))

module _ (may : MayName) (m : ScopeTree) where
  abbrev join : (rs qs : List Region) → AreNarrowed may m.symbols rs → AreNarrowed may m.symbols qs → AreNarrowed may m.symbols (rs ++ qs)
  join rs qs h k = both_narrowed may m.symbols rs qs h k

  pub subscripts_given : (n k : ℕ) (es : ExprTrees) (bs : List BoundTree) → 0 < k → k + length bs ≤ suc n → AreGiven (Upto n) (subscript_rows m k es bs)
  subscripts_given n k tree.no_exprs bs l h = tt
  subscripts_given n k (tree.more_exprs e es) [] l h = tt
  subscripts_given n k (tree.more_exprs e es) (b ∷ bs) l h =
      all-append (Given (Upto n)) (dimension_rows m.scalars.value (affine_of m.scalars e) b k) (subscript_rows m (suc k) es bs)
      (dimension_given n m.scalars.value (affine_of m.scalars e) b k (l, omega (arith, h)) (form_at n (affine_of m.scalars e) (affine_over (IsCellOf Anything) m.scalars (names_any m) e)))
      (subscripts_given n (suc k) es bs (omega arith) (omega (arith, h)))

  pub scalar_one : (x : Access) (n : ℕ) → AreNarrowed may m.symbols (scalar x n ∷ [])
  scalar_one x n = more_narrowed may m.symbols (scalar x n) [] one (none_narrowed may m.symbols)
    where
      each : (s : System) → In s (scalar x n).pieces → IsUpto (rank may.ks may.g m.symbols (Own n)) s
      each s here = none_neat (Upto (bounds_count (symbol_at m.symbols n)))
      each s (there i) = elim i [ ]

      one : IsNarrowed may m.symbols (scalar x n)
      one = (may.own n, each)

  whole_narrowed : (x : Access) (y : List ℕ) → AreNarrowed may m.symbols (whole m x y)
  whole_narrowed x y = go (number_from 1 m.names y)
    where
      place : (n : ℕ) (o : Option SymbolTree) → AreNarrowed may m.symbols (scalar_at x n o)
      place n None = none_narrowed may m.symbols
      place n (Some s) = if_cases (AreNarrowed may m.symbols) (is_constant s.place) [] (scalar x n ∷ []) (λ e. none_narrowed may m.symbols) (λ e. scalar_one x n)

      go : (o : Option ℕ) → AreNarrowed may m.symbols (whole_of m x o)
      go None = none_narrowed may m.symbols
      go (Some n) = place n (symbol_at m.symbols n)

  array_one : (x : Access) (n : ℕ) (es : ExprTrees) (s : SymbolTree) → symbol_at m.symbols n ≡ Some s → AreNarrowed may m.symbols (array_at m x n es s.bounds ∷ [])
  array_one x n es s q = more_narrowed may m.symbols (array_at m x n es s.bounds) [] one (none_narrowed may m.symbols)
    where
      count : length s.bounds ≡ bounds_count (symbol_at m.symbols n)
      count = sym (ap bounds_count q)

      neat : IsUpto (length s.bounds) (of_rows (subscript_rows m 1 es s.bounds))
      neat = of_rows_neat (Upto (length s.bounds)) (subscript_rows m 1 es s.bounds) (subscripts_given (length s.bounds) 1 es s.bounds (omega arith) (omega arith))

      each : (p : System) → In p (array_at m x n es s.bounds).pieces → IsUpto (rank may.ks may.g m.symbols (Own n)) p
      each p here = subst (λ c. IsUpto c (of_rows (subscript_rows m 1 es s.bounds))) count neat
      each p (there i) = elim i [ ]

      one : IsNarrowed may m.symbols (array_at m x n es s.bounds)
      one = (may.own n, each)

  element_narrowed : (x : Access) (y : List ℕ) (es : ExprTrees) → AreNarrowed may m.symbols (element m x y es)
  element_narrowed x y es = go (number_from 1 m.names y)
    where
      place : (n : ℕ) (o : Option SymbolTree) → symbol_at m.symbols n ≡ o → AreNarrowed may m.symbols (element_at m x n es o)
      place n None q = none_narrowed may m.symbols
      place n (Some s) q = if_cases (AreNarrowed may m.symbols) (has_bounds s.bounds) (array_at m x n es s.bounds ∷ []) [] (λ e. array_one x n es s q) (λ e. none_narrowed may m.symbols)

      go : (o : Option ℕ) → AreNarrowed may m.symbols (element_of m x es o)
      go None = none_narrowed may m.symbols
      go (Some n) = place n (symbol_at m.symbols n) refl

  pub named_narrowed : (e : ExprTree) (x : Access) → AreNarrowed may m.symbols (named e m x)
  named_narrowed (tree.int n) x = none_narrowed may m.symbols
  named_narrowed (tree.log b) x = none_narrowed may m.symbols
  named_narrowed (tree.name y) x = whole_narrowed x y
  named_narrowed (tree.element y es) x = element_narrowed x y es
  named_narrowed (tree.paren e) x = none_narrowed may m.symbols
  named_narrowed (tree.unary o e) x = none_narrowed may m.symbols
  named_narrowed (tree.binary o e f) x = none_narrowed may m.symbols
  named_narrowed (tree.chars y) x = none_narrowed may m.symbols

  mutual
    pub reads_narrowed : (e : ExprTree) → AreNarrowed may m.symbols (reads e m)
    reads_narrowed (tree.int n) = none_narrowed may m.symbols
    reads_narrowed (tree.log b) = none_narrowed may m.symbols
    reads_narrowed (tree.name x) = whole_narrowed Read x
    reads_narrowed (tree.element x es) = join (all_reads es m) (element m Read x es) (all_reads_narrowed es) (element_narrowed Read x es)
    reads_narrowed (tree.paren e) = reads_narrowed e
    reads_narrowed (tree.unary o e) = reads_narrowed e
    reads_narrowed (tree.binary o e f) = join (reads e m) (reads f m) (reads_narrowed e) (reads_narrowed f)
    reads_narrowed (tree.chars x) = none_narrowed may m.symbols

    pub all_reads_narrowed : (es : ExprTrees) → AreNarrowed may m.symbols (all_reads es m)
    all_reads_narrowed tree.no_exprs = none_narrowed may m.symbols
    all_reads_narrowed (tree.more_exprs e es) = join (reads e m) (all_reads es m) (reads_narrowed e) (all_reads_narrowed es)

  pub inner_narrowed : (e : ExprTree) → AreNarrowed may m.symbols (inner_reads e m)
  inner_narrowed (tree.int n) = none_narrowed may m.symbols
  inner_narrowed (tree.log b) = none_narrowed may m.symbols
  inner_narrowed (tree.name x) = none_narrowed may m.symbols
  inner_narrowed (tree.element x es) = all_reads_narrowed es
  inner_narrowed (tree.paren e) = none_narrowed may m.symbols
  inner_narrowed (tree.unary o e) = none_narrowed may m.symbols
  inner_narrowed (tree.binary o e f) = none_narrowed may m.symbols
  inner_narrowed (tree.chars x) = none_narrowed may m.symbols

  pub maybe_narrowed : (o : Option ExprTree) → AreNarrowed may m.symbols (maybe_reads o m)
  maybe_narrowed None = none_narrowed may m.symbols
  maybe_narrowed (Some e) = reads_narrowed e

  -- ---- actuals

  actual_narrowed : (e : ExprTree) → AreNarrowed may m.symbols (actual_reads e m)
  actual_narrowed (tree.int n) = reads_narrowed (tree.int n)
  actual_narrowed (tree.log b) = reads_narrowed (tree.log b)
  actual_narrowed (tree.name x) = inner_narrowed (tree.name x)
  actual_narrowed (tree.element x es) = inner_narrowed (tree.element x es)
  actual_narrowed (tree.paren e) = reads_narrowed (tree.paren e)
  actual_narrowed (tree.unary o e) = reads_narrowed (tree.unary o e)
  actual_narrowed (tree.binary o e f) = reads_narrowed (tree.binary o e f)
  actual_narrowed (tree.chars x) = reads_narrowed (tree.chars x)

  pub actuals_narrowed : (es : ExprTrees) → AreNarrowed may m.symbols (actuals_reads es m)
  actuals_narrowed tree.no_exprs = none_narrowed may m.symbols
  actuals_narrowed (tree.more_exprs e es) = join (actual_reads e m) (actuals_reads es m) (actual_narrowed e) (actuals_narrowed es)

  -- ---- simple statements

  pub assignment_narrowed : (x y : ExprTree) → AreNarrowed may m.symbols (assignment m x y)
  assignment_narrowed x y =
      united_narrowed may m.symbols (reads y m ++ (inner_reads x m ++ named x m Write))
      (join (reads y m) (inner_reads x m ++ named x m Write) (reads_narrowed y) (join (inner_reads x m) (named x m Write) (inner_narrowed x) (named_narrowed x Write)))

  pub reading_narrowed : (es : ExprTrees) → AreNarrowed may m.symbols (reading es m)
  reading_narrowed tree.no_exprs = none_narrowed may m.symbols
  reading_narrowed (tree.more_exprs e es) =
      let others = all_composed (item_does m e) (reading es m) in
      united_narrowed may m.symbols (inner_reads e m ++ (named e m Write ++ others))
      (join (inner_reads e m) (named e m Write ++ others) (inner_narrowed e)
      (join (named e m Write) others (named_narrowed e Write) (composed_narrowed may m.symbols (item_does m e) (forgotten_done Anything (one_cell (named_cell m.scalars e)) (λ c h. tt)) (reading es m) (reading_narrowed es))))

  -- ---- parts of an IF

  abbrev pub ReachedOk : Reached → Type 0
  ReachedOk w = IsNeat (IsCellOf Anything) w.system

  pub true_ok : (e : ExprTree) (w : Reached) → ReachedOk w → ReachedOk (if_true m e w)
  true_ok e w h = meet_neat (IsCellOf Anything) w.system (condition_of m.scalars e).yes h (condition_over (IsCellOf Anything) m.scalars (names_any m) e).0

  false_ok : (e : ExprTree) (w : Reached) → ReachedOk w → ReachedOk (if_false m e w)
  false_ok e w h = meet_neat (IsCellOf Anything) w.system (condition_of m.scalars e).no h (condition_over (IsCellOf Anything) m.scalars (names_any m) e).1

  pub into_ok : (x : ArmTree) (w : Reached) → ReachedOk w → ReachedOk (into_arm x m w)
  into_ok (tree.arm e body) w h = true_ok e w h

  pub past_ok : (x : ArmTree) (w : Reached) → ReachedOk w → ReachedOk (past_arm x m w)
  past_ok (tree.arm e body) w h = false_ok e w h

  pub all_past_ok : (xs : ArmTrees) (w : Reached) → ReachedOk w → ReachedOk (past_arms xs m w)
  all_past_ok tree.no_arms w h = h
  all_past_ok (tree.more_arms x rest) w h = all_past_ok rest (past_arm x m w) (past_ok x w h)

  pub always_ok : ReachedOk always
  always_ok = none_neat (IsCellOf Anything)

  pub met_narrowed : (w : Reached) → ReachedOk w → (rs : List Region) → AreNarrowed may m.symbols rs → AreNarrowed may m.symbols (all_met w rs)
  met_narrowed w h rs k r i =
      of_map (under_tests w) (IsNarrowed may m.symbols) rs
      (λ q j. each_narrowed may m.symbols (λ p. meet p w.system) (λ n s l. meet_neat (Upto n) s w.system l (system_more (IsCellOf Anything) (Upto n) (cell_upto n) w.system h)) false q (k q j)) r i

  arm_reads_narrowed : (x : ArmTree) (w : Reached) → ReachedOk w → AreNarrowed may m.symbols (arm_reads x m w)
  arm_reads_narrowed (tree.arm e body) w h = met_narrowed w h (reads e m) (reads_narrowed e)

  pub tests_narrowed : (xs : ArmTrees) (w : Reached) → ReachedOk w → AreNarrowed may m.symbols (tests_reads xs m w)
  tests_narrowed tree.no_arms w h = none_narrowed may m.symbols
  tests_narrowed (tree.more_arms x rest) w h = join (arm_reads x m w) (tests_reads rest m (past_arm x m w)) (arm_reads_narrowed x w h) (tests_narrowed rest (past_arm x m w) (past_ok x w h))
