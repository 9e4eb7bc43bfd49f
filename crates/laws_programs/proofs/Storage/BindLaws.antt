-- Where dummies lie.
use Rattle.std.proofs.Common.{◌≡◌, ℕ, zero, suc, ◌+◌, ◌<◌, ◌≤◌, Bool, true, false, List, [], ◌∷◌, ◌++◌, map, Option, Some, None, ℤ, refl, sym, ap, ◌∙◌, subst, arith}
use Rattle.std.specs.Prelude.{if◌then◌else◌, nat_eq, nat_le, ◌||◌}
use Rattle.std.specs.List.{list_any}
use Rattle.std.proofs.lemmas.Bool.{or_parts, leb-true, ne_eqb, eq-eqb, eqb-true}
use Rattle.f77_ast.specs.Trees.{ExprTree}
use Rattle.f77_ast.specs.Faults.{Bounds}
use Rattle.f77_ast.specs.Store.{Tag, Content, Store, put}
use Rattle.f77_ast.specs.Steps.{Steps, Done, ◌>>=◌}
use Rattle.f77_ast.specs.Runs.{Whole, run}
use Rattle.f77_ast.specs.Places.{Names, Dim, Place, Places, scalar_place, total_size}
use Rattle.f77_ast.specs.Values.{fault, value}
use Rattle.f77_ast.specs.Calls.{BoundTree, Dummy, first_place, other_places, scalars_bound, high_value, dims_read, is_open, open_extent, array_at, array_place, dummy_bound, arrays_bound}
use Rattle.f77_ast.specs.Executions.{AtEndOf}
use Rattle.f77_ast.specs.declared.symbol.Place.{Place as SymbolPlace}
use Rattle.f77_ast.specs.declared.symbol.Place.TheVariants as place
use Rattle.f77_ast.specs.Symbols.{SymbolTree}
use Rattle.f77_meaning.specs.Modules.{tag_of, bound_of, as_dummy, dummies_from}
use Rattle.laws_programs.specs.Storage.Activations.{Binds, binds_scalar, binds_array, AllBind, is_dummy, Entered, PlacesAreBound}
use Rattle.laws_programs.proofs.Storage.AskLaws.{Asks, asks_then, asks_weaker, asks_run, value_asks}
use Rattle.fx_lists.proofs.Every.{Anything}
use Rattle.fx_lists.proofs.Numbers.{swapped}

-- ---- the numbers of dummies rise

abbrev pub Rising : ℕ → List Dummy → Type 0
Rising n [] = Unit {0}
Rising n (d ∷ ds) = (n ≤ d.symbol) × Rising (suc d.symbol) ds

rising_from : (m n : ℕ) (ds : List Dummy) → m ≤ n → Rising n ds → Rising m ds
rising_from m n [] l r = tt
rising_from m n (d ∷ ds) l r = let low = r.0 in (omega (arith, l, low), r.1)

pub dummies_rise : (n : ℕ) (ss : List SymbolTree) → Rising n (dummies_from n ss)
dummies_rise n [] = tt
dummies_rise n (s ∷ ss) = go s.place (dummies_rise (suc n) ss)
  where
    go : (p : SymbolPlace) → Rising (suc n) (dummies_from (suc n) ss) → Rising n (as_dummy n s p ++ dummies_from (suc n) ss)
    go (place.Local g o) r = rising_from n (suc n) (dummies_from (suc n) ss) (omega arith) r
    go (place.Dummy k) r = (omega arith, r)
    go (place.Block b o) r = rising_from n (suc n) (dummies_from (suc n) ss) (omega arith) r
    go (place.Constant v) r = rising_from n (suc n) (dummies_from (suc n) ss) (omega arith) r

not_lower : (n v : ℕ) (ds : List Dummy) → Rising n ds → v < n → is_dummy ds v ≡ false
not_lower n v [] r l = refl
not_lower n v (d ∷ ds) r l =
    let low = r.0 in
    let other : nat_eq d.symbol v ≡ false = ne_eqb d.symbol v (λ e. absurd (omega (arith, l, low, e))) in
    ap (λ b. b || is_dummy ds v) other ∙ not_lower (suc d.symbol) v ds r.1 (omega (arith, l, low))

-- ---- scalars

put_there : (at : Places) (k : ℕ) (p : Place) → put at k p k ≡ p
put_there at k p = ap (λ b. if b then p else at k) (eq-eqb k k refl)

put_elsewhere : (at : Places) (k v : ℕ) (p : Place) → nat_eq v k ≡ false → put at k p v ≡ at v
put_elsewhere at k v p e = ap (λ b. if b then p else at v) e

-- each lies as a scalar
abbrev AsScalars : List Dummy → List Place → Places → Type 0
AsScalars [] ps at = Unit {0}
AsScalars (d ∷ ds) ps at = (at d.symbol ≡ scalar_place (first_place ps).first d.tag) × AsScalars ds (other_places ps) at

scalars_put : (n : ℕ) (ds : List Dummy) (ps : List Place) (at : Places) (k : ℕ) (p : Place) → Rising n ds → k < n → AsScalars ds ps at → AsScalars ds ps (put at k p)
scalars_put n [] ps at k p r l h = tt
scalars_put n (d ∷ ds) ps at k p r l h =
    let low = r.0 in
    (put_elsewhere at k d.symbol p (ne_eqb d.symbol k (λ e. absurd (omega (arith, l, low, e)))) ∙ h.0, scalars_put (suc d.symbol) ds (other_places ps) at k p r.1 (omega (arith, l, low)) h.1)

scalars_are : (n : ℕ) (ds : List Dummy) (ps : List Place) (at : Places) → Rising n ds → AsScalars ds ps (scalars_bound ds ps at)
scalars_are n [] ps at r = tt
scalars_are n (d ∷ ds) ps at r =
    let rest = scalars_bound ds (other_places ps) at in
    (put_there rest d.symbol (scalar_place (first_place ps).first d.tag), scalars_put (suc d.symbol) ds (other_places ps) rest d.symbol (scalar_place (first_place ps).first d.tag) r.1 (omega arith) (scalars_are (suc d.symbol) ds (other_places ps) at r.1))

scalars_leave : (ds : List Dummy) (ps : List Place) (at : Places) (v : ℕ) → is_dummy ds v ≡ false → scalars_bound ds ps at v ≡ at v
scalars_leave [] ps at v h = refl
scalars_leave (d ∷ ds) ps at v h =
    let parts = or_parts (nat_eq d.symbol v) (is_dummy ds v) h in
    put_elsewhere (scalars_bound ds (other_places ps) at) d.symbol v (scalar_place (first_place ps).first d.tag) (swapped d.symbol v parts.0) ∙ scalars_leave ds (other_places ps) at v parts.1

-- ---- arrays

-- as many bounds, as far as there are any
abbrev Matches : List BoundTree → List Dim → Type 0
Matches [] [] = Unit {0}
Matches [] (m ∷ ms) = ⊥
Matches (b ∷ bs) [] = ⊥
Matches (b ∷ bs) (m ∷ ms) = Unit {0}

high_asks : (e : Option ExprTree) (w : Names) (at : Places) → Asks Anything (high_value e w at)
high_asks None w at = tt
high_asks (Some e) w at = asks_then Anything Anything (value e w at) (λ c. Done (Some c.number)) (value_asks w at e) (λ c h. tt)

dims_ask : (bs : List BoundTree) (w : Names) (at : Places) → Asks (Matches bs) (dims_read bs w at)
dims_ask [] w at = tt
dims_ask (b ∷ bs) w at =
    asks_then Anything (Matches (b ∷ bs)) (value b.low w at) (λ m. high_value b.high w at >>= λ n. dims_read bs w at >>= λ ds. Done (record { low = m.number; high = n } ∷ ds)) (value_asks w at b.low)
    (λ m h. asks_then Anything (Matches (b ∷ bs)) (high_value b.high w at) (λ n. dims_read bs w at >>= λ ds. Done (record { low = m.number; high = n } ∷ ds)) (high_asks b.high w at)
    (λ n k. asks_then (Matches bs) (Matches (b ∷ bs)) (dims_read bs w at) (λ ds. Done (record { low = m.number; high = n } ∷ ds)) (dims_ask bs w at) (λ ds q. tt)))

-- an array at its actual
record Within (d : Dummy) (p q : Place) : Type 0 where
  first : q.first ≡ p.first
  extent : q.extent ≤ p.extent
  tag : q.tag ≡ d.tag

array_asks : (d : Dummy) (p : Place) (ms : List Dim) → Asks (Within d p) (array_place p d.tag ms)
array_asks d p ms = go (is_open ms) (nat_le (total_size ms) p.extent) refl
  where
    reached : (b : Bool) → (if b then 0 else p.extent) ≤ p.extent
    reached true = omega arith
    reached false = omega arith

    go : (b c : Bool) → nat_le (total_size ms) p.extent ≡ c → Asks (Within d p) (if b then Done (array_at p d.tag ms (open_extent p ms)) else if c then Done (array_at p d.tag ms (total_size ms)) else fault Bounds)
    go true c h = record { first = refl; extent = reached (nat_eq (total_size ms) 0); tag = refl }
    go false true h = record { first = refl; extent = leb-true (total_size ms) p.extent h; tag = refl }
    go false false h = tt

-- the first of these dummies is bound, and no other name
record Bound (d : Dummy) (p : Place) (at at' : Places) : Type 0 where
  binds : Binds d p (at' d.symbol)
  others : (v : ℕ) → nat_eq v d.symbol ≡ false → at' v ≡ at v

dummy_asks : (d : Dummy) (p : Place) (ms : List Dim) (at : Places) → Matches d.bounds ms → at d.symbol ≡ scalar_place p.first d.tag → Asks (Bound d p at) (dummy_bound d p ms at)
dummy_asks d p ms at h e = go d.bounds ms refl h
  where
    go : (bs : List BoundTree) (ns : List Dim) → d.bounds ≡ bs → Matches bs ns → Asks (Bound d p at) (dummy_bound d p ns at)
    go [] [] q m = record { binds = binds_scalar q e; others = λ v k. refl }
    go [] (n ∷ ns) q m = absurd m
    go (b ∷ bs) [] q m = absurd m
    go (b ∷ bs) (n ∷ ns) q m =
        let some : d.bounds ≡ [] → ⊥ = λ z. (let w = sym q ∙ z in cc) in
        asks_then (Within d p) (Bound d p at) (array_place p d.tag (n ∷ ns)) (λ r. Done (put at d.symbol r)) (array_asks d p (n ∷ ns))
        (λ r x. record { binds = subst (Binds d p) (sym (put_there at d.symbol r)) (binds_array some x.first x.extent x.tag); others = λ v k. put_elsewhere at d.symbol v r k })

-- all of them
record AllBound (ds : List Dummy) (ps : List Place) (at at' : Places) : Type 0 where
  binds : AllBind ds ps at'
  others : (v : ℕ) → is_dummy ds v ≡ false → at' v ≡ at v

scalars_stay : (n : ℕ) (ds : List Dummy) (ps : List Place) (at at' : Places) → Rising n ds → ((v : ℕ) → n ≤ v → at' v ≡ at v) → AsScalars ds ps at → AsScalars ds ps at'
scalars_stay n [] ps at at' r same h = tt
scalars_stay n (d ∷ ds) ps at at' r same h = let low = r.0 in (same d.symbol low ∙ h.0, scalars_stay (suc d.symbol) ds (other_places ps) at at' r.1 (λ v l. same v (omega (arith, low, l))) h.1)

arrays_ask : (n : ℕ) (ds : List Dummy) (ps : List Place) (w : Names) (at : Places) → Rising n ds → AsScalars ds ps at → Asks (AllBound ds ps at) (arrays_bound ds ps w at)
arrays_ask n [] ps w at r h = record { binds = tt; others = λ v k. refl }
arrays_ask n (d ∷ ds) ps w at r h =
    let p = first_place ps in
    asks_then (Matches d.bounds) (AllBound (d ∷ ds) ps at) (dims_read d.bounds w at) (λ ms. dummy_bound d p ms at >>= arrays_bound ds (other_places ps) w) (dims_ask d.bounds w at)
    (λ ms m. asks_then (Bound d p at) (AllBound (d ∷ ds) ps at) (dummy_bound d p ms at) (arrays_bound ds (other_places ps) w) (dummy_asks d p ms at m h.0)
    (λ at1 b. (let rest = scalars_stay (suc d.symbol) ds (other_places ps) at at1 r.1 (λ v l. b.others v (ne_eqb v d.symbol (λ e. absurd (omega (arith, l, e))))) h.1 in
    asks_weaker (AllBound ds (other_places ps) at1) (AllBound (d ∷ ds) ps at) (arrays_bound ds (other_places ps) w at1) (arrays_ask (suc d.symbol) ds (other_places ps) w at1 r.1 rest) (λ at2 all. joined at1 at2 b all))))
  where
    joined : (at1 at2 : Places) → Bound d (first_place ps) at at1 → AllBound ds (other_places ps) at1 at2 → AllBound (d ∷ ds) ps at at2
    joined at1 at2 b all =
        let kept = all.others d.symbol (not_lower (suc d.symbol) d.symbol ds r.1 (omega arith)) in
        record {
          binds = (subst (Binds d (first_place ps)) (sym kept) b.binds, all.binds);
          others = λ v k. (let parts = or_parts (nat_eq d.symbol v) (is_dummy ds v) k in all.others v parts.1 ∙ b.others v (swapped d.symbol v parts.0));
        }

pub places_are_bound : PlacesAreBound
places_are_bound ss ps w fixed s i =
    let ds = dummies_from 1 ss in
    let at = scalars_bound ds ps fixed in
    let asks = arrays_ask 1 ds ps w at (dummies_rise 1 ss) (scalars_are 1 ds ps fixed (dummies_rise 1 ss)) in
    asks_run (Entered ds ps fixed) (arrays_bound ds ps w at) s i
    (asks_weaker (AllBound ds ps at) (Entered ds ps fixed) (arrays_bound ds ps w at) asks (λ at' all. record { dummies = all.binds; others = λ v k. all.others v k ∙ scalars_leave ds ps fixed v k }))
