-- Scalars lie as scalars while a module runs, and what it lends keeps off the own units of what it calls.
use Rattle.std.proofs.Common.{◌≡◌, ℕ, zero, suc, ◌+◌, ◌<◌, ◌≤◌, Bool, true, false, List, [], ◌∷◌, ◌++◌, map, Some, refl, sym, ap, ◌∙◌, subst, arith}
use Rattle.std.specs.Prelude.{nat_eq, nat_le, nat_lt, ◌||◌, slice_get}
use Rattle.std.proofs.lemmas.Bool.{and_parts, and_from, eqb-true, ltb-true, leb-true, le-leb, lt-ltb}
use Rattle.f77_ast.specs.Trees.{ExprTree, ExprTrees}
use Rattle.f77_ast.specs.Trees as tree
use Rattle.f77_ast.specs.Store.{Tag}
use Rattle.f77_ast.specs.Steps.{Done, ◌>>=◌}
use Rattle.f77_ast.specs.Places.{Place as RunPlace, Places, Variable, scalar_place}
use Rattle.f77_ast.specs.Values.{value, name_value}
use Rattle.f77_ast.specs.Calls.{Actual, Dummy, passed_by_reference, stored, actual, name_actual, places_of, in_place, first_place, other_places}
use Rattle.f77_ast.specs.declared.symbol.Place.{Place}
use Rattle.f77_ast.specs.declared.symbol.Place.TheVariants as place
use Rattle.f77_ast.specs.Symbols.{BoundTree, SymbolTree, value_in}
use Rattle.f77_ast.specs.Units.{bounds_units}
use Rattle.f77_ast.specs.Shared.{symbol_at}
use Rattle.tracked_cells.specs.Standing.{has_bounds}
use Rattle.laws_programs.specs.SymbolTables.Laws.{NoDummies}
use Rattle.f77_meaning.specs.Areas.{block, group, own, Numbering, unit_at}
use Rattle.f77_meaning.specs.Modules.{tag_of, bound_of, dim_of, laid_at, names, fixed_place, fixed_maybe, as_dummy, dummies_from}
use Rattle.laws_programs.specs.Storage.CellLaws.{units}
use Rattle.laws_programs.specs.Storage.Calls.{IsMisread, Takes, takes_scalar, takes_array, takes_element, takes_value, misread, Args, AllRead}
use Rattle.laws_programs.specs.Storage.Activations.{Binds, binds_scalar, binds_array, AllBind, is_dummy, ScalarsLie}
use Rattle.laws_programs.specs.Storage.Lending.{Lends, lends_variable, lends_element, lends_value, AllLend, CalleeDummiesAvoidCalleeStorage}
use Rattle.laws_programs.specs.Storage.Owned.{IsOwnBelow}
use Rattle.laws_programs.proofs.Storage.LyingLaws.{variable_of, Lying, lying_dummy, lying_local, lying_common, lying, listed_dummy}
use Rattle.laws_programs.proofs.Storage.OwnedLaws.{variables_keep_off, expressions_keep_off}
use Rattle.f77_meaning.proofs.ModuleLaws.{in_laid as bounds_of}
use Rattle.laws_programs.proofs.Effects.Units.{within_bounds as inside}
use Rattle.f77_ast.proofs.StorageLaws.{to_number as next_symbol}

-- ---- dummies with their numbers

abbrev pub the_dummy : ℕ → SymbolTree → Dummy
the_dummy n s = record { symbol = n; tag = tag_of s.scalar; bounds = map bound_of s.bounds }

-- the dummy of a symbol lies at some actual
abbrev BoundAt : Places → ℕ → SymbolTree → Type 0
BoundAt at n s = (q : RunPlace) × Binds (the_dummy n s) q (at n)

bound_at : (n : ℕ) (ss : List SymbolTree) (i : ℕ) (s : SymbolTree) (k : ℕ) (qs : List RunPlace) (at : Places) → slice_get ss i ≡ Some s → s.place ≡ place.Dummy k → AllBind (dummies_from n ss) qs at → BoundAt at (n + i) s
bound_at n [] i s k qs at e h b = cc
bound_at n (t ∷ ss) zero s k qs at e h b =
    let same : t ≡ s = cc in
    let here : t.place ≡ place.Dummy k = ap (λ z. z.place) same ∙ h in
    let first = subst (λ q. AllBind (as_dummy n t q ++ dummies_from (suc n) ss) qs at) here b in
    let none : n ≡ n + zero = omega arith in
    subst (λ m. BoundAt at m s) none (subst (BoundAt at n) same (first_place qs, first.0))
bound_at n (t ∷ ss) (suc i) s k qs at e h b = go t.place b (λ rs r. bound_at (suc n) ss i s k rs at e h r)
  where
    next : BoundAt at (suc n + i) s → BoundAt at (n + suc i) s
    next r = let more : suc n + i ≡ n + suc i = omega arith in subst (λ m. BoundAt at m s) more r

    go : (q : Place) → AllBind (as_dummy n t q ++ dummies_from (suc n) ss) qs at → ((rs : List RunPlace) → AllBind (dummies_from (suc n) ss) rs at → BoundAt at (suc n + i) s) → BoundAt at (n + suc i) s
    go (place.Local g o) r ih = next (ih qs r)
    go (place.Dummy m) r ih = next (ih (other_places qs) r.1)
    go (place.Block x o) r ih = next (ih qs r)
    go (place.Constant v) r ih = next (ih qs r)

-- ---- scalars

-- what lies as a scalar somewhere lies as one at its first unit
at_first : (p : RunPlace) (u : ℕ) (t : Tag) → p ≡ scalar_place u t → p ≡ scalar_place p.first t
at_first p u t e = e ∙ ap (λ z. scalar_place z t) (sym (ap (λ q. q.first) e))

abbrev laid_by : ℕ → List SymbolTree → Tag → List BoundTree → RunPlace
laid_by first ss t bs = record { first = first; extent = bounds_units (value_in ss) bs; tag = t; dims = map (dim_of ss) bs }

scalar_laid : (g : Numbering) (m : List ℕ) (ss : List SymbolTree) (s : SymbolTree) (q : Place) → s.bounds ≡ [] → (h : (u : ℕ) × (fixed_place g m ss s q ≡ laid_at u ss s)) → fixed_place g m ss s q ≡ scalar_place (fixed_place g m ss s q).first (tag_of s.scalar)
scalar_laid g m ss s q b h = at_first (fixed_place g m ss s q) h.0 (tag_of s.scalar) (h.1 ∙ ap (laid_by h.0 ss (tag_of s.scalar)) b)

one_more : (ss : List SymbolTree) (i : ℕ) (t : SymbolTree) → slice_get ss i ≡ Some t → symbol_at ss (1 + i) ≡ Some t
one_more ss i t f = let more : suc i ≡ 1 + i = omega arith in subst (λ m. symbol_at ss m ≡ Some t) more (next_symbol ss i t f)

pub scalars_lie : ScalarsLie
scalars_lie ps sss g p ss qs at en x v s named e b = go (lying ss v (variable_of ss x v named))
  where
    same : (t : SymbolTree) → symbol_at ss v ≡ Some t → s ≡ t
    same t f = let z : Some s ≡ Some t = sym e ∙ f in cc

    of_bound : BoundAt at v s → at v ≡ scalar_place (at v).first (tag_of s.scalar)
    of_bound (q, binds_scalar h f) = at_first (at v) q.first (tag_of s.scalar) f
    of_bound (q, binds_array some f k l) = absurd (some (ap (map bound_of) b))

    of_fixed : (q : Place) → s.place ≡ q → is_dummy (dummies_from 1 ss) v ≡ false → ((u : ℕ) × (fixed_place (units ps sss g) p.module_read.name ss s q ≡ laid_at u ss s)) → at v ≡ scalar_place (at v).first (tag_of s.scalar)
    of_fixed q f n h =
        let lies : at v ≡ fixed_place (units ps sss g) p.module_read.name ss s q = en.others v n ∙ ap (fixed_maybe (units ps sss g) p.module_read.name ss) e ∙ ap (fixed_place (units ps sss g) p.module_read.name ss s) f in
        at_first (at v) (fixed_place (units ps sss g) p.module_read.name ss s q).first (tag_of s.scalar) (lies ∙ scalar_laid (units ps sss g) p.module_read.name ss s q b h)

    go : Lying ss v → at v ≡ scalar_place (at v).first (tag_of s.scalar)
    go (lying_dummy d) =
        let r = listed_dummy 1 ss v d in
        of_bound (dummy r.0 r.1 r.2 r.3 r.4 r.5)
      where
        dummy : (i : ℕ) (t : SymbolTree) (k : ℕ) → slice_get ss i ≡ Some t → t.place ≡ place.Dummy k → v ≡ 1 + i → BoundAt at v s
        dummy i t k f h q =
            let found : symbol_at ss v ≡ Some t = ap (symbol_at ss) q ∙ one_more ss i t f in
            subst (BoundAt at v) (sym (same t found)) (subst (λ m. BoundAt at m t) (sym q) (bound_at 1 ss i t k qs at f h en.dummies))
    go (lying_local t h o f k n) = of_fixed (place.Local h o) (ap (λ z. z.place) (same t f) ∙ k) n (unit_at (units ps sss g) (group p.module_read.name h) o, refl)
    go (lying_common t y o f k n) = of_fixed (place.Block y o) (ap (λ z. z.place) (same t f) ∙ k) n (unit_at (units ps sss g) (block y) o, refl)

-- ---- units of what is passed

only_unit : (f u : ℕ) (t : Tag) → in_place (scalar_place f t) u ≡ true → u ≡ f
only_unit f u t h =
    let p = and_parts (nat_le f u) (nat_lt u (f + 1)) h in
    let low = leb-true f u p.0 in
    let high = ltb-true u (f + 1) p.1 in
    omega (arith, low, high)

-- a unit of a variable of the caller, or of one of its expressions
data Lent (ss : List SymbolTree) (at : Places) (own_units : ℕ → ℕ) (u : ℕ) : Type 0 where
  of_variable : (y : List ℕ) (v : ℕ) → names ss y ≡ Variable v → in_place (at v) u ≡ true → Lent ss at own_units u
  of_expression : (k : ℕ) → u ≡ own_units k → Lent ss at own_units u

no_bounds : (d : SymbolTree) → map bound_of d.bounds ≡ [] → has_bounds d.bounds ≡ true → ⊥
no_bounds d e h = go d.bounds e h
  where
    go : (bs : List BoundTree) → map bound_of bs ≡ [] → has_bounds bs ≡ true → ⊥
    go [] f k = cc
    go (b ∷ bs) f k = cc

module _ (ss : List SymbolTree) (at : Places) (own_units : ℕ → ℕ) (solid : (y : List ℕ) (v : ℕ) (s : SymbolTree) → names ss y ≡ Variable v → symbol_at ss v ≡ Some s → s.bounds ≡ [] → at v ≡ scalar_place (at v).first (tag_of s.scalar)) where
  -- a variable that goes to a scalar has a unit
  has_unit : (e : ExprTree) (d : SymbolTree) (y : List ℕ) (v : ℕ) → Takes ss e d → (IsMisread ss e → ⊥) → map bound_of d.bounds ≡ [] → e ≡ tree.name y → names ss y ≡ Variable v → (at v).extent ≡ 1
  has_unit e d y v (takes_scalar x w s f named sb db t) read b g n =
      let names_same : x ≡ y = (let z : tree.name x ≡ tree.name y = sym f ∙ g in cc) in
      let same : w ≡ v = (let z : Variable w ≡ Variable v = sym named.meant ∙ ap (names ss) names_same ∙ n in cc) in
      ap (λ q. q.extent) (solid y v s n (ap (symbol_at ss) (sym same) ∙ named.is_symbol) sb)
  has_unit e d y v (takes_array x w s f named sb db t) read b g n = absurd (no_bounds d b db)
  has_unit e d y v (takes_element x es w s f named sb t) read b g n = let z : tree.element x es ≡ tree.name y = sym f ∙ g in cc
  has_unit e d y v (takes_value db same) read b g n =
      let one : name_actual (names ss y) at 0 ≡ (name_value (names ss y) at >>= stored 0) = subst (λ z. actual z (names ss) at 0 ≡ (value z (names ss) at >>= stored 0)) g (same at 0) in
      let two : Done (passed_by_reference (at v)) ≡ (name_value (Variable v) at >>= stored 0) = sym (ap (λ m. name_actual m at 0) n) ∙ one ∙ ap (λ m. name_value m at >>= stored 0) n in
      cc
  has_unit e d y v (misread m) read b g n = absurd (read m)

  one_passed : (e : ExprTree) (d : SymbolTree) (n k : ℕ) (q r : RunPlace) (u : ℕ) → Takes ss e d → (IsMisread ss e → ⊥) → Lends ss at e (own_units k) q → Binds (the_dummy n d) q r → in_place r u ≡ true → Lent ss at own_units u
  one_passed e d n k q r u takes read (lends_value t f) (binds_scalar b s) h = of_expression k (only_unit q.first u (tag_of d.scalar) (ap (λ z. in_place z u) (sym s) ∙ h) ∙ ap (λ z. z.first) f)
  one_passed e d n k q r u takes read (lends_element x es v j f named less first extent) (binds_scalar b s) h =
      let same = only_unit q.first u (tag_of d.scalar) (ap (λ z. in_place z u) (sym s) ∙ h) in
      of_variable x v named (inside (at v) u (omega (arith, same, first)) (omega (arith, same, first, less)))
  one_passed e d n k q r u takes read (lends_variable x v f named p) (binds_scalar b s) h =
      let same = only_unit q.first u (tag_of d.scalar) (ap (λ z. in_place z u) (sym s) ∙ h) in
      let one = has_unit e d x v takes read b f named in
      let first : q.first ≡ (at v).first = ap (λ z. z.first) p in
      of_variable x v named (inside (at v) u (omega (arith, same, first)) (omega (arith, same, first, one)))
  one_passed e d n k q r u takes read (lends_value t f) (binds_array some first extent tag) h =
      let b = bounds_of r u h in
      let from : q.first ≡ own_units k = ap (λ z. z.first) f in
      let size : q.extent ≡ 1 = ap (λ z. z.extent) f in
      let low = b.0 in
      let high = b.1 in
      of_expression k (omega (arith, low, high, first, extent, from, size))
  one_passed e d n k q r u takes read (lends_element x es v j f named less from size) (binds_array some first extent tag) h =
      let b = bounds_of r u h in
      let low = b.0 in
      let high = b.1 in
      of_variable x v named (inside (at v) u (omega (arith, low, first, from)) (omega (arith, high, first, extent, from, size, less)))
  one_passed e d n k q r u takes read (lends_variable x v f named p) (binds_array some first extent tag) h =
      let b = bounds_of r u h in
      let from : q.first ≡ (at v).first = ap (λ z. z.first) p in
      let size : q.extent ≡ (at v).extent = ap (λ z. z.extent) p in
      let low = b.0 in
      let high = b.1 in
      of_variable x v named (inside (at v) u (omega (arith, low, first, from)) (omega (arith, high, first, extent, from, size)))

  none_listed : (n : ℕ) (ds : List SymbolTree) → NoDummies ds → dummies_from n ds ≡ []
  none_listed n [] h = refl
  none_listed n (d ∷ ds) h = go d.place refl (none_listed (suc n) ds h.1)
    where
      go : (q : Place) → d.place ≡ q → dummies_from (suc n) ds ≡ [] → as_dummy n d q ++ dummies_from (suc n) ds ≡ []
      go (place.Local g o) e r = r
      go (place.Dummy m) e r = absurd (h.0 m e)
      go (place.Block b o) e r = r
      go (place.Constant v) e r = r

  all_passed : (es : ExprTrees) (k n m : ℕ) (xs : List Actual) (ds : List SymbolTree) (at' : Places) → Args ss es m ds → AllRead ss es → AllLend ss at own_units es k xs → AllBind (dummies_from n ds) (places_of xs) at' → (v u : ℕ) → is_dummy (dummies_from n ds) v ≡ true → in_place (at' v) u ≡ true → Lent ss at own_units u
  all_passed tree.no_exprs k n m xs ds at' args read lend bind v u d h = let z : false ≡ true = sym (ap (λ zs. is_dummy zs v) (none_listed n ds args)) ∙ d in cc
  all_passed (tree.more_exprs e es) k n m xs [] at' args read lend bind v u d h = absurd args
  all_passed (tree.more_exprs e es) k n m [] (x ∷ ds) at' args read lend bind v u d h = absurd lend
  all_passed (tree.more_exprs e es) k n m (y ∷ xs) (x ∷ ds) at' args read lend bind v u d h =
      let here = ap (λ q. as_dummy n x q ++ dummies_from (suc n) ds) args.0 in
      let binds = subst (λ zs. AllBind zs (places_of (y ∷ xs)) at') here bind in
      go (nat_eq n v) refl binds (ap (λ zs. is_dummy zs v) (sym here) ∙ d) (λ b i. all_passed es (suc k) (suc n) (suc m) xs ds at' args.2 read.1 lend.1 b v u i h)
    where
      go : (b : Bool) → nat_eq n v ≡ b → AllBind (the_dummy n x ∷ dummies_from (suc n) ds) (places_of (y ∷ xs)) at' → (b || is_dummy (dummies_from (suc n) ds) v) ≡ true → (AllBind (dummies_from (suc n) ds) (places_of xs) at' → is_dummy (dummies_from (suc n) ds) v ≡ true → Lent ss at own_units u) → Lent ss at own_units u
      go true q b i ih = one_passed e x n k y.place (at' n) u args.1 read.0 lend.0 b.0 (ap (λ z. in_place (at' z) u) (eqb-true n v q) ∙ h)
      go false q b i ih = ih b.1 i

pub callee_dummies_avoid_callee_storage : CalleeDummiesAvoidCalleeStorage
callee_dummies_avoid_callee_storage ps sss g l i j p q ss tt' m mq c qs at en off call es args read xs lend at' en' v u d h o =
    go (all_passed ss at (λ place. unit_at (units ps sss g) (own p.module_read.name call place) 0) (λ y w s n e b. scalars_lie ps sss g p ss qs at en y w s n e b) es 0 1 1 xs tt' at' args read lend en'.dummies v u d h)
  where
    go : Lent ss at (λ place. unit_at (units ps sss g) (own p.module_read.name call place) 0) u → ⊥
    go (of_variable y w n k) = variables_keep_off ps sss g l i p ss m qs at en off q.module_read.name c y w u n k o
    go (of_expression k e) = expressions_keep_off ps sss g l i p ss m q.module_read.name c call k (subst (IsOwnBelow ps sss g q.module_read.name) e o)
