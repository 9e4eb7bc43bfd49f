-- A set has one region of a variable and kind at most.
use Rattle.std.proofs.Common.{◌≡◌, ℕ, List, [], ◌∷◌, ◌++◌, ◌&&◌, Some, Bool, true, false, refl, sym, ap, ap₂, ◌∙◌, subst, Ordering}
use Rattle.std.specs.Prelude.{if◌then◌else◌}
use Rattle.std.specs.declared.cmp.Ordering.TheVariants.{Less, Equal, Greater}
use Rattle.std.specs.Ordering.{nat_cmp, ordering_then, ordering_reverse, match_ordering, is_eq}
use Rattle.std.specs.Cmp.{IsTotalOrder}
use Rattle.std.specs.Cmp.Lexicographic.{slice_cmp}
use Rattle.std.proofs.lemmas.Cmp.{nat_cmp_total, nat_list_cmp_total, on_total, then_total, tied_itself, tied_back}
use Rattle.std.proofs.lemmas.Bool.{and_parts}
use Rattle.affine_systems.specs.declared.row.System.{System}
use Rattle.f77_ast.specs.declared.variable.Variable.{Variable}
use Rattle.f77_ast.specs.declared.variable.Variable.TheVariants.{Own, Block, Saved}
use Rattle.f77_ast.specs.Variables.{variable_text, variable_cmp, same_variable}
use Rattle.preconditions.specs.transformer_algebra.Laws.{In, here, there}
use Rattle.in_out_regions.specs.region_sets.declared.region.Access.TheVariants.{Write}
use Rattle.in_out_regions.specs.region_sets.declared.region.Region.{Region}
use Rattle.in_out_regions.specs.region_sets.Regions.{remade}
use Rattle.in_out_regions.specs.region_sets.Within.{all_within}
use Rattle.in_out_regions.specs.region_sets.Trim.{trim, or_infeasible, trimmed_to}
use Rattle.in_out_regions.specs.region_sets.Unite.{unite}
use Rattle.in_out_regions.specs.region_sets.Sets.{access_number, region_cmp, if_left, with_region, with_trimmed, with_regions, all_trimmed, unite_all}
use Rattle.in_out_regions.specs.region_sets.Lists.{inexact, all_inexact}
use Rattle.in_out_regions.specs.Kinds.{is_write}
use Rattle.in_out_regions.specs.Writes.{is_write_of, write_of}
use Rattle.in_out_regions.proofs.RegionSets.SetLaws.{alive, with_any}
use Rattle.fx_lists.proofs.Orders.{then_nothing, no_equal_less}
use Rattle.f77_ast.proofs.SameLaws.{cmp_if as same_order}
use Rattle.in_out_regions.proofs.WriteLaws.{write_if}

-- ---- the order of regions

abbrev key : Variable → List ℕ
key (Own n) = 0 ∷ (n ∷ [])
key (Block b) = 1 ∷ variable_text (Block b)
key (Saved s x) = 1 ∷ variable_text (Saved s x)

by_key : (v w : Variable) → slice_cmp nat_cmp (key v) (key w) ≡ variable_cmp v w
by_key (Own m) (Own n) = then_nothing (nat_cmp m n)
by_key (Own m) (Block c) = refl
by_key (Own m) (Saved t y) = refl
by_key (Block b) (Own n) = refl
by_key (Block b) (Block c) = refl
by_key (Block b) (Saved t y) = refl
by_key (Saved s x) (Own n) = refl
by_key (Saved s x) (Block c) = refl
by_key (Saved s x) (Saved t y) = refl

pub variable_total : IsTotalOrder variable_cmp
variable_total = subst (λ (R : Variable → Variable → Ordering). IsTotalOrder R) (λ i v w. by_key v w i) (on_total key nat_list_cmp_total)

region_total : IsTotalOrder region_cmp
region_total = then_total (on_total (λ (r : Region). access_number r.kind) nat_cmp_total) (on_total (λ (r : Region). r.variable) variable_total)

pub itself : (v : Variable) → variable_cmp v v ≡ Equal
itself v = tied_itself variable_total v

pub reversed : (o : Ordering) → Greater ≡ ordering_reverse o → o ≡ Less
reversed Less e = refl
reversed Equal e = cc
reversed Greater e = cc

-- ---- sets in order

abbrev pub Ahead : Region → List Region → Type 0
Ahead r qs = (q : Region) → In q qs → region_cmp r q ≡ Less

abbrev pub Ordered : List Region → Type 0
Ordered [] = Unit {0}
Ordered (q ∷ qs) = Ahead q qs × Ordered qs

-- what is united stands where one of both stands
united_of : (P : Region → Type 0) → ((r : Region) (e : Bool) (ss : List System) → P r → P (remade r e ss)) → (a b : Region) → P a → P b → P (unite a b)
united_of P f a b h k = go (all_within a.pieces b.pieces) (all_within b.pieces a.pieces)
  where
    go : (m n : Bool) → P (if m then remade a a.exact a.pieces else if n then remade b b.exact b.pieces else trimmed_to a (a.exact && b.exact) (a.pieces ++ b.pieces))
    go true n = f a a.exact a.pieces h
    go false true = f b b.exact b.pieces k
    go false false = f a ((a.exact && b.exact) && (trim (a.pieces ++ b.pieces)).exact) (or_infeasible (trim (a.pieces ++ b.pieces)).pieces) h

ahead_more : (x r : Region) (qs : List Region) → region_cmp x r ≡ Less → Ahead x qs → Ahead x (r ∷ qs)
ahead_more x r qs h t q here = h
ahead_more x r qs h t q (there i) = t q i

put_ahead : (x r : Region) (qs : List Region) → Ahead x qs → region_cmp x r ≡ Less → Ahead x (with_region r qs)
put_ahead x r [] h l = ahead_more x r [] l h
put_ahead x r (q ∷ qs) h l = go (region_cmp r q) (put_ahead x r qs (λ w i. h w (there i)) l)
  where
    go : (o : Ordering) → Ahead x (with_region r qs) → Ahead x (match_ordering o (r ∷ (q ∷ qs)) (unite q r ∷ qs) (q ∷ with_region r qs))
    go Less ih = ahead_more x r (q ∷ qs) l h
    go Equal ih = ahead_more x (unite q r) qs (united_of (λ w. region_cmp x w ≡ Less) (λ w e ss k. k) q r (h q here) l) (λ w i. h w (there i))
    go Greater ih = ahead_more x q (with_region r qs) (h q here) ih

put_ordered : (r : Region) (qs : List Region) → Ordered qs → Ordered (with_region r qs)
put_ordered r [] h = ((λ q i. elim i [ ]), tt)
put_ordered r (q ∷ qs) h = go (region_cmp r q) refl (put_ordered r qs h.1)
  where
    go : (o : Ordering) → region_cmp r q ≡ o → Ordered (with_region r qs) → Ordered (match_ordering o (r ∷ (q ∷ qs)) (unite q r ∷ qs) (q ∷ with_region r qs))
    go Less e ih = (ahead_more r q qs e (λ w i. region_total.trans r q w e (h.0 w i)), h)
    go Equal e ih = (united_of (λ w. Ahead w qs) (λ w x ss k. k) q r h.0 (λ w i. region_total.congr r q w e ∙ h.0 w i), h.1)
    go Greater e ih = (put_ahead q r qs h.0 (reversed (region_cmp q r) (sym e ∙ region_total.antisymm r q)), ih)

maybe_of : (P : List Region → Type 0) (r : Region) (k : Region → List Region) (none : List Region) → P (k (alive r)) → P none → P (if_left r k none)
maybe_of P r k none h n = with_any P r (r.exact && (trim r.pieces).exact) (trim r.pieces).pieces k none h n

all_ordered : (rs qs : List Region) → Ordered qs → Ordered (with_regions qs rs)
all_ordered [] qs h = h
all_ordered (r ∷ rs) qs h = all_ordered rs (with_trimmed r qs) (maybe_of Ordered r (λ s. with_region s qs) qs (put_ordered (alive r) qs h) h)

trimmed_ahead : (x : Region) (rs : List Region) → Ahead x rs → Ahead x (all_trimmed rs)
trimmed_ahead x [] h = h
trimmed_ahead x (r ∷ rs) h =
    let ih = trimmed_ahead x rs (λ w i. h w (there i)) in
    maybe_of (Ahead x) r (λ s. s ∷ all_trimmed rs) (all_trimmed rs) (ahead_more x (alive r) (all_trimmed rs) (h r here) ih) ih

trimmed_ordered : (rs : List Region) → Ordered rs → Ordered (all_trimmed rs)
trimmed_ordered [] h = tt
trimmed_ordered (r ∷ rs) h =
    let ih = trimmed_ordered rs h.1 in
    maybe_of Ordered r (λ s. s ∷ all_trimmed rs) (all_trimmed rs) (trimmed_ahead r rs h.0, ih) ih

pub gathered_ordered : (rs : List Region) → Ordered (unite_all rs)
gathered_ordered rs = trimmed_ordered (with_regions [] rs) (all_ordered rs [] tt)

pub inexact_ordered : (rs : List Region) → Ordered rs → Ordered (all_inexact rs)
inexact_ordered [] h = tt
inexact_ordered (r ∷ rs) h = (ahead r rs h.0, inexact_ordered rs h.1)
  where
    ahead : (x : Region) (qs : List Region) → Ahead x qs → Ahead (inexact x) (all_inexact qs)
    ahead x [] k q i = elim i [ ]
    ahead x (y ∷ qs) k q here = k y here
    ahead x (y ∷ qs) k q (there i) = ahead x qs (λ w j. k w (there j)) q i

-- ---- so it is found by its variable

pub one_write_of : (ws : List Region) → Ordered ws → (w : Region) → In w ws → w.kind ≡ Write → write_of w.variable ws ≡ Some w
one_write_of [] h w i k = elim i [ ]
one_write_of (u ∷ ws) h w here k = ap (λ b. if b then Some u else write_of u.variable ws) (ap₂ (λ a b. a && b) (ap is_write k) (ap is_eq (itself u.variable)))
one_write_of (u ∷ ws) h w (there i) k = go (is_write_of w.variable u) refl (one_write_of ws h.1 w i k)
  where
    go : (b : Bool) → is_write_of w.variable u ≡ b → write_of w.variable ws ≡ Some w → (if b then Some u else write_of w.variable ws) ≡ Some w
    go false q ih = ih
    go true q ih =
        let a = and_parts (is_write u.kind) (same_variable w.variable u.variable) q in
        let kinds : u.kind ≡ w.kind = write_if u.kind a.0 ∙ sym k in
        let first : nat_cmp (access_number u.kind) (access_number w.kind) ≡ Equal = ap (λ z. nat_cmp (access_number z) (access_number w.kind)) kinds ∙ tied_itself nat_cmp_total (access_number w.kind) in
        let second : variable_cmp u.variable w.variable ≡ Equal = tied_back variable_total w.variable u.variable (same_order w.variable u.variable a.1) in
        let tie : region_cmp u w ≡ Equal = ap₂ (λ x y. ordering_then x y) first second in
        no_equal_less (sym tie ∙ h.0 w i)
