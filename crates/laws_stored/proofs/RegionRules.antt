-- What rules on regions keep: that each region is of a variable with a name and of a kind, and that its systems are such as calls take.
use Rattle.std.proofs.Common.{◌≡◌, ℕ, Bool, true, false, ◌&&◌, List, [], ◌∷◌, ◌++◌, map, Option, Some, None, ℤ, pos, neg_ℤ, ◌*ℤ◌, refl}
use Rattle.std.specs.Prelude.{if◌then◌else◌, nat_lt, unsigned_abs}
use Rattle.std.specs.declared.cmp.Ordering.{Ordering}
use Rattle.std.specs.declared.cmp.Ordering.TheVariants.{Less, Equal, Greater}
use Rattle.std.specs.Ordering.{match_ordering}
use Rattle.affine_systems.specs.declared.row.Var.{Var}
use Rattle.affine_systems.specs.declared.row.Var.TheVariants.{Cell, Exit, Aux}
use Rattle.affine_systems.specs.declared.row.Row.{Row}
use Rattle.affine_systems.specs.declared.row.System.{System}
use Rattle.affine_systems.specs.Given.{Fits}
use Rattle.affine_systems.specs.Calls.{meet, unless_too_big, substitute}
use Rattle.affine_systems.specs.Normal.{Normal, Kept, Always, Never, TooBig, normal}
use Rattle.affine_systems.specs.Tidy.{by_row}
use Rattle.affine_systems.specs.Points.{factor_of}
use Rattle.affine_systems.proofs.Basics.{if_cases}
use Rattle.affine_systems.proofs.AscendLaws.{ascends-combined}
use Rattle.affine_systems.proofs.FitLaws.{kept-ascends}
use Rattle.hull_projection.specs.declared.projection.Shadow.{Shadow}
use Rattle.hull_projection.specs.Hull.{at_least_0}
use Rattle.hull_projection.specs.Minus.{AllFit}
use Rattle.hull_projection.specs.Project.{shadow, project}
use Rattle.hull_projection.specs.Refute.{refuted}
use Rattle.hull_projection.proofs.GivenLaws.{at_least_0_given}
use Rattle.hull_projection.proofs.ProjectLaws.{project_fits}
use Rattle.preconditions.specs.transformer_algebra.Renaming.{naming, rename_all, push_rows}
use Rattle.f77_ast.specs.Trees.{StmtTrees}
use Rattle.f77_ast.specs.declared.variable.Variable.{Variable}
use Rattle.affine_forms.specs.declared.affine.Affine.{Affine}
use Rattle.affine_forms.specs.Comparisons.{same_row, at_most_row}
use Rattle.preconditions.specs.transformer_algebra.declared.transformer.Transformer.{Transformer}
use Rattle.preconditions.specs.transformer_algebra.Cells.{others}
use Rattle.preconditions.specs.transformer_algebra.Transformers.{without}
use Rattle.preconditions.specs.transformer_algebra.Loops.{goes_up, within_row}
use Rattle.preconditions.specs.transformers.Jumps.{unstructured}
use Rattle.preconditions.specs.transformers.Lists.{list_at}
use Rattle.in_out_regions.specs.region_sets.declared.range.Range.{Range}
use Rattle.in_out_regions.specs.region_sets.declared.region.Access.{Access}
use Rattle.in_out_regions.specs.region_sets.declared.region.Region.{Region}
use Rattle.in_out_regions.specs.region_sets.Regions.{remade, all_exact, systems, each_piece}
use Rattle.in_out_regions.specs.region_sets.Naming.{in_terms, has_none, named_cells, to_exits, exit_vars}
use Rattle.in_out_regions.specs.region_sets.Compose.{exit_row, on_row, put_exits, composed_with, put_or_led, compose_piece, compose}
use Rattle.in_out_regions.specs.region_sets.Within.{all_within}
use Rattle.in_out_regions.specs.region_sets.Trim.{trim, trimmed_to, each_trimmed}
use Rattle.in_out_regions.specs.region_sets.Unite.{unite}
use Rattle.in_out_regions.specs.region_sets.Sets.{region_cmp, with_pieces, with_region, with_trimmed, with_regions, all_trimmed, unite_all}
use Rattle.in_out_regions.specs.region_sets.Loops.{index_form, step_rows, first_rows, last_rows, counted_rows, range_rows, iterations, iterations_at, at_index, loop_vars, through_loop, loop_piece, over_loop}
use Rattle.in_out_regions.specs.region_sets.Loops as loops
use Rattle.in_out_regions.specs.region_sets.Lists.{all_composed, in_order, forgetting, all_forgetting, all_accesses, inexact, all_inexact, in_any_order, numbers, list_regions}
use Rattle.base_values.specs.Naming.{Each}
use Rattle.laws_stored.proofs.Tidied.{IsAscending, AreAscending, ascending-append, tidy_fit, fit_ascending, meet_fit, push_fit, rename_fit}
use Rattle.laws_stored.proofs.RulesFit.{at_most_ascending, same_ascending, without_fits}
use Rattle.laws_stored.proofs.TrimsFit.{trim_fit, trimmed_fit}
use Rattle.in_out_regions.specs.region_sets.Putting.{settled_by, normal_form, put_in, before_rows, put_in_all, put_row}
use Rattle.laws_stored.proofs.Lists.{each-append}

-- ---- rows that are put in

abbrev NormalAscends : Normal → Type 0
NormalAscends (Kept s) = IsAscending s
NormalAscends Always = Unit {0}
NormalAscends Never = Unit {0}
NormalAscends TooBig = Unit {0}

abbrev pub MaybeAscends : Option Row → Type 0
MaybeAscends None = Unit {0}
MaybeAscends (Some r) = IsAscending r

normal_ascends : (r : Row) → IsAscending r → NormalAscends (normal false r)
normal_ascends r h = go (normal false r) refl
  where
    go : (n : Normal) → normal false r ≡ n → NormalAscends n
    go (Kept s) e = kept-ascends false r s h e
    go Always e = tt
    go Never e = tt
    go TooBig e = tt

settled_ascends : (r : Row) (n : Normal) → IsAscending r → NormalAscends n → IsAscending (settled_by n r)
settled_ascends r (Kept s) h k = k
settled_ascends r Always h k = h
settled_ascends r Never h k = tt
settled_ascends r TooBig h k = h

unless_ascends : (r : Row) (n : Normal) → IsAscending r → NormalAscends n → MaybeAscends (unless_too_big n r)
unless_ascends r (Kept s) h k = k
unless_ascends r Always h k = h
unless_ascends r Never h k = h
unless_ascends r TooBig h k = tt

form_ascends : (o : Option Row) → MaybeAscends o → MaybeAscends (normal_form o)
form_ascends None h = tt
form_ascends (Some r) h = settled_ascends r (normal false r) h (normal_ascends r h)

-- a row with a variable replaced, in normal form
pub replaced_ascends : (r : Row) (v : Var) (e : Row) → MaybeAscends (normal_form (substitute r v e))
replaced_ascends r v e =
    let q = by_row r v e in
    let h : IsAscending (by_row r v e) = ascends-combined (pos 1) r.terms (neg_ℤ (factor_of v r.terms *ℤ factor_of v e.terms)) e.terms in
    form_ascends (substitute r v e) (unless_ascends q (normal false q) h (normal_ascends q h))

pub before_ascends : (o : Option Row) (rs : List Row) → MaybeAscends o → AreAscending rs → AreAscending (before_rows o rs)
before_ascends None rs h k = k
before_ascends (Some r) rs h k = (h, k)

put_ascends : (v : Var) (e r : Row) → IsAscending r → MaybeAscends (put_in v e r)
put_ascends v e r h = if_cases MaybeAscends (in_terms v r.terms) (normal_form (substitute r v e)) (Some r) (λ q. replaced_ascends r v e) (λ q. h)

pub all_put_ascend : (v : Var) (e : Row) (rs : List Row) → AreAscending rs → AreAscending (put_in_all v e rs)
all_put_ascend v e [] h = tt
all_put_ascend v e (r ∷ rs) h = before_ascends (put_in v e r) (put_in_all v e rs) (put_ascends v e r h.0) (all_put_ascend v e rs h.1)

abbrev SystemAscends : Option System → Type 0
SystemAscends None = Unit {0}
SystemAscends (Some s) = AreAscending s.rows

exits_ascend : (cs : List ℕ) (es : List Row) (s : System) → AreAscending s.rows → SystemAscends (put_exits cs es s)
exits_ascend [] es s h = h
exits_ascend (c ∷ cs) es s h = go (exit_row c es) (λ e. exits_ascend cs es (put_row (Exit c) e s) (all_put_ascend (Exit c) e s.rows h))
  where
    go : (o : Option Row) → ((e : Row) → SystemAscends (put_exits cs es (put_row (Exit c) e s))) → SystemAscends (on_row o (λ e. put_exits cs es (put_row (Exit c) e s)))
    go None f = tt
    go (Some e) f = f e

-- ---- from after a statement to before it

led_fits : (cs : List ℕ) (t : Transformer) (s : System) → Fits t.system → Fits (composed_with cs t s)
led_fits cs t s h = project_fits (meet (rename_all (to_exits cs) s) t.system) (exit_vars t.cells) (meet_fit (rename_all (to_exits cs) s) t.system (rename_fit (to_exits cs) s) h)

put_or_fits : (o : Option System) (cs : List ℕ) (t : Transformer) (s : System) → SystemAscends o → Fits t.system → Fits (put_or_led o cs t s).system
put_or_fits None cs t s h k = led_fits cs t s k
put_or_fits (Some p) cs t s h k = tidy_fit p h

compose_fits : (t : Transformer) → Fits t.system → (s : System) → Fits s → Fits (compose_piece t s).system
compose_fits t k s h =
    let cs = named_cells t.cells s in
    let q = rename_all (to_exits cs) s in
    if_cases (λ (x : Shadow). Fits x.system) (has_none cs) (shadow s true) (put_or_led (put_exits cs t.system.rows q) cs t s) (λ e. h)
    (λ e. put_or_fits (put_exits cs t.system.rows q) cs t s (exits_ascend cs t.system.rows q (fit_ascending q (rename_fit (to_exits cs) s))) k)

-- ---- from an iteration to a DO

within_one_ascends : (s : ℤ) (f g : Affine) → IsAscending (within_row s f g)
within_one_ascends s f g = if_cases IsAscending (goes_up s) (at_most_row f g) (at_most_row g f) (λ e. at_most_ascending f g) (λ e. at_most_ascending g f)

step_ascend : (s : ℤ) (f : Affine) → AreAscending (step_rows s f)
step_ascend s f =
    if_cases AreAscending (nat_lt 1 (unsigned_abs s)) (same_row (loops.start_of s) f ∷ (at_least_0 (Aux 1) ∷ [])) [] (λ e. (same_ascending (loops.start_of s) f, ((at_least_0_given (Aux 1)).0, tt))) (λ e. tt)

first_ascend : (s : ℤ) (f : Option Affine) → AreAscending (first_rows s f)
first_ascend s None = tt
first_ascend s (Some f) = (within_one_ascends s f index_form, step_ascend s f)

last_ascend : (s : ℤ) (l : Option Affine) → AreAscending (last_rows s l)
last_ascend s None = tt
last_ascend s (Some l) = (within_one_ascends s index_form l, tt)

range_ascend : (s : Option ℤ) (f l : Option Affine) → AreAscending (counted_rows s f l)
range_ascend None f l = tt
range_ascend (Some s) f l = ascending-append (first_rows s f) (last_rows s l) (first_ascend s f) (last_ascend s l)

loop_piece_fits : (g : Range) (s : System) → Fits (loop_piece g s).system
loop_piece_fits g s =
    let cs = named_cells (others g.turn.cells (g.index ∷ [])) s in
    let rows = range_ascend g.step g.first g.last in
    let here = at_index g.index s in
    let away = rename_all (to_exits cs) here in
    let way = push_fit away (range_rows g) (rename_fit (to_exits cs) here) rows in
    let led = project_fits (meet (push_rows away (range_rows g)) (iterations_at g)) (exit_vars (iterations g).cells) (meet_fit (push_rows away (range_rows g)) (iterations_at g) way (rename_fit (naming (Exit g.index) (Aux 0) ∷ []) (iterations g).system)) in
    if_cases (λ (x : Shadow). Fits x.system) (has_none cs) (loops.counted g (project (push_rows here (range_rows g)) loop_vars)) (shadow (project (loops.composed_with cs g s) loop_vars).system false)
    (λ e. project_fits (push_rows here (range_rows g)) loop_vars (push_fit here (range_rows g) (rename_fit (naming (Cell g.index) (Aux 0) ∷ []) s) rows))
    (λ e. project_fits (loops.composed_with cs g s) loop_vars led)

-- ---- regions

pub fit-append : (ss ts : List System) → AllFit ss → AllFit ts → AllFit (ss ++ ts)
fit-append [] ts h k = k
fit-append (s ∷ ss) ts h k = (h.0, fit-append ss ts h.1 k)

pub mapped_fit : (f : System → System) → ((s : System) → Fits s → Fits (f s)) → (ss : List System) → AllFit ss → AllFit (map f ss)
mapped_fit f g [] h = tt
mapped_fit f g (s ∷ ss) h = (g s h.0, mapped_fit f g ss h.1)

pieces_fit : (f : System → Shadow) → ((s : System) → Fits s → Fits (f s).system) → (ss : List System) → AllFit ss → AllFit (systems (map f ss))
pieces_fit f g [] h = tt
pieces_fit f g (s ∷ ss) h = (g s h.0, pieces_fit f g ss h.1)

module _ (V : Variable → Type 0) (K : Access → Type 0) where
  -- of such a variable and such a kind
  abbrev pub IsSuch : Region → Type 0
  IsSuch r = V r.variable × K r.kind × AllFit r.pieces

  abbrev pub AreSuch : List Region → Type 0
  AreSuch rs = Each IsSuch rs

  pub both_such : (rs qs : List Region) → AreSuch rs → AreSuch qs → AreSuch (rs ++ qs)
  both_such rs qs h k = each-append IsSuch rs qs h k

  pub all_such : (f : Region → Region) → ((r : Region) → IsSuch r → IsSuch (f r)) → (rs : List Region) → AreSuch rs → AreSuch (map f rs)
  all_such f g [] h = tt
  all_such f g (r ∷ rs) h = (g r h.0, all_such f g rs h.1)

  pub piece_such : (f : System → Shadow) → ((s : System) → Fits s → Fits (f s).system) → (r : Region) → IsSuch r → IsSuch (each_piece f r)
  piece_such f g r h = (h.0, h.1, pieces_fit f g r.pieces h.2)

  made_such : (r : Region) (e : Bool) (ss : List System) → IsSuch r → AllFit ss → IsSuch (trimmed_to r e ss)
  made_such r e ss h k = (h.0, h.1, trimmed_fit ss k)

  trimmed_such : (f : System → Shadow) → ((s : System) → Fits s → Fits (f s).system) → (r : Region) → IsSuch r → IsSuch (each_trimmed f r)
  trimmed_such f g r h = made_such r (r.exact && all_exact (map f r.pieces)) (systems (map f r.pieces)) h (pieces_fit f g r.pieces h.2)

  pub composed_such : (t : Transformer) → Fits t.system → (r : Region) → IsSuch r → IsSuch (compose r t)
  composed_such t k r h = trimmed_such (compose_piece t) (compose_fits t k) r h

  pub all_composed_such : (t : Transformer) → Fits t.system → (rs : List Region) → AreSuch rs → AreSuch (all_composed t rs)
  all_composed_such t k rs h = all_such (λ r. compose r t) (composed_such t k) rs h

  pub looped_such : (g : Range) (r : Region) → IsSuch r → IsSuch (over_loop r g)
  looped_such g r h = trimmed_such (loop_piece g) (λ s k. loop_piece_fits g s) r h

  pub forgetting_such : (cs : List ℕ) (rs : List Region) → AreSuch rs → AreSuch (all_forgetting cs rs)
  forgetting_such cs rs h = all_such (forgetting cs) (λ r k. (k.0, k.1, mapped_fit (without cs) (without_fits cs) r.pieces k.2)) rs h

  inexact_such : (rs : List Region) → AreSuch rs → AreSuch (all_inexact rs)
  inexact_such rs h = all_such inexact (λ r k. k) rs h

  -- ---- sets

  pub unite_such : (a b : Region) → IsSuch a → IsSuch b → IsSuch (unite a b)
  unite_such a b h k =
      let e = a.exact && b.exact in
      let ss = a.pieces ++ b.pieces in
      if_cases IsSuch (all_within a.pieces b.pieces) (remade a a.exact a.pieces) (if all_within b.pieces a.pieces then remade b b.exact b.pieces else trimmed_to a e ss) (λ q. h)
      (λ q. if_cases IsSuch (all_within b.pieces a.pieces) (remade b b.exact b.pieces) (trimmed_to a e ss) (λ i. k) (λ i. made_such a e ss h (fit-append a.pieces b.pieces h.2 k.2)))

  ordered_such : (o : Ordering) (xs ys zs : List Region) → AreSuch xs → AreSuch ys → AreSuch zs → AreSuch (match_ordering o xs ys zs)
  ordered_such Less xs ys zs h i k = h
  ordered_such Equal xs ys zs h i k = i
  ordered_such Greater xs ys zs h i k = k

  with_one_such : (r : Region) (qs : List Region) → IsSuch r → AreSuch qs → AreSuch (with_region r qs)
  with_one_such r [] h k = (h, tt)
  with_one_such r (q ∷ qs) h k =
      ordered_such (region_cmp r q) (r ∷ (q ∷ qs)) (unite q r ∷ qs) (q ∷ with_region r qs) (h, k) (unite_such q r k.0 h, k.1) (k.0, with_one_such r qs h k.1)

  pieces_such : (r : Region) (e : Bool) (ss : List System) (k : Region → List Region) (none : List Region) → IsSuch r → AllFit ss → ((q : Region) → IsSuch q → AreSuch (k q)) → AreSuch none
      → AreSuch (with_pieces r e ss k none)
  pieces_such r e [] k none h i f n = n
  pieces_such r e (s ∷ ss) k none h i f n = f (remade r e (s ∷ ss)) (h.0, h.1, i)

  with_trimmed_such : (r : Region) (qs : List Region) → IsSuch r → AreSuch qs → AreSuch (with_trimmed r qs)
  with_trimmed_such r qs h k = pieces_such r (r.exact && (trim r.pieces).exact) (trim r.pieces).pieces (λ s. with_region s qs) qs h (trim_fit r.pieces h.2) (λ q i. with_one_such q qs i k) k

  with_all_such : (qs rs : List Region) → AreSuch qs → AreSuch rs → AreSuch (with_regions qs rs)
  with_all_such qs [] h k = h
  with_all_such qs (r ∷ rs) h k = with_all_such (with_trimmed r qs) rs (with_trimmed_such r qs k.0 h) k.1

  pub all_trimmed_such : (rs : List Region) → AreSuch rs → AreSuch (all_trimmed rs)
  all_trimmed_such [] h = tt
  all_trimmed_such (r ∷ rs) h =
      let ih = all_trimmed_such rs h.1 in
      pieces_such r (r.exact && (trim r.pieces).exact) (trim r.pieces).pieces (λ s. s ∷ all_trimmed rs) (all_trimmed rs) h.0 (trim_fit r.pieces h.0.2) (λ q i. (i, ih)) ih

  pub united_such : (rs : List Region) → AreSuch rs → AreSuch (unite_all rs)
  united_such rs h = all_trimmed_such (with_regions [] rs) (with_all_such [] rs tt h)

  -- ---- lists

  module _ (t : ℕ → Transformer) (fit : (n : ℕ) → Fits (t n).system) (f : ℕ → List Region) (such : (n : ℕ) → AreSuch (f n)) where
    pub order_such : (ns : List ℕ) → AreSuch (in_order t f ns)
    order_such [] = tt
    order_such (n ∷ ns) =
        united_such (f n ++ all_composed (t n) (in_order t f ns)) (both_such (f n) (all_composed (t n) (in_order t f ns)) (such n) (all_composed_such (t n) (fit n) (in_order t f ns) (order_such ns)))

    pub accesses_such : (ns : List ℕ) → AreSuch (all_accesses f ns)
    accesses_such [] = tt
    accesses_such (n ∷ ns) = both_such (f n) (all_accesses f ns) (such n) (accesses_such ns)

    pub any_such : (cs ns : List ℕ) → AreSuch (in_any_order cs f ns)
    any_such cs ns = inexact_such (unite_all (all_forgetting cs (all_accesses f ns))) (united_such (all_forgetting cs (all_accesses f ns)) (forgetting_such cs (all_accesses f ns) (accesses_such ns)))

    pub list_such : (whole : Bool) (body : StmtTrees) → AreSuch (list_regions t f whole body)
    list_such whole body =
        if_cases AreSuch (unstructured whole body) (in_any_order (list_at t whole body).cells f (numbers body)) (in_order t f (numbers body)) (λ e. any_such (list_at t whole body).cells (numbers body)) (λ e. order_such (numbers body))
