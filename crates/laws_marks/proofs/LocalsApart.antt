-- A unit of a local that is not saved: where its module runs, no other variable of the module reaches it. A CALL is never given it before its module runs, and modules that run behind it are others.
use Rattle.std.proofs.Common.{◌≡◌, ℕ, suc, ◌+◌, List, [], ◌∷◌, Option, Some, None, Bool, true, false, refl, sym, ap, ◌∙◌, subst, arith, nat_eq, bytes_eq, true≢false}
use Rattle.std.specs.Prelude.{if◌then◌else◌, nat_le, nat_lt, ◌&&◌}
use Rattle.std.proofs.lemmas.Bool.{or_from}
use Rattle.std.proofs.lemmas.Bool.Decides.{nat_tests}
use Rattle.std.proofs.lemmas.Slice.Eq.{bytes_eq-Decides}
use Rattle.f77_ast.specs.Trees.{ExprTree, ExprTrees}
use Rattle.f77_ast.specs.Trees as tree
use Rattle.f77_ast.specs.Store.{Tag, Content, put}
use Rattle.f77_ast.specs.Faults.{Bounds}
use Rattle.f77_ast.specs.Steps.{Spot, Steps, ◌>>=◌}
use Rattle.f77_ast.specs.Steps as steps
use Rattle.f77_ast.specs.Places.{Meant, Constant, Variable, Function, Names, Dim, Place, Places, scalar_place, total_size, element_in}
use Rattle.f77_ast.specs.Values.{fault, value, values}
use Rattle.f77_ast.specs.Writes.{Locks, no_locks}
use Rattle.f77_ast.specs.Plans.{Plan, Ends, Within}
use Rattle.f77_ast.specs.Calls.{Actual, stored, rest_after, name_actual, element_actual, actual, actuals, places_of, own_units, Dummy, nowhere, first_place, other_places, scalars_bound, dims_read, is_open, array_at, open_extent, array_place, dummy_bound, arrays_bound, lock_doubly, in_place}
use Rattle.f77_ast.specs.Statements.{spot, body_plan}
use Rattle.f77_ast.specs.Programs.{Routine, Program, scope, body_of, called, meanings, program_plan}
use Rattle.laws_interleavings.specs.Typed.{IsNoDummy}
use Rattle.laws_interleavings.specs.Plans.Cleared.{OffPlaces, Off}
use Rattle.laws_interleavings.proofs.Plans.Fine.{Yields, yields_then, yields_any}
use Rattle.laws_interleavings.proofs.Plans.Cleared.{ActualsOff, held, actuals_off, places_off, scalars_off, arrays_off, yields_both}
use Rattle.laws_marks.proofs.Apart.{FixedOff}
use Rattle.laws_marks.proofs.Order.{Named, Distinct, all_named}
use Rattle.laws_marks.proofs.Spots.{SpotsIn, InModules, spots_with, spots_forget, spots_after, body_in, spots_more, meanings_in}
use Rattle.fx_lists.proofs.Every.{Anything}

yields_more : {A : Type 0} (P Q : A → Type 0) (t : Steps A) → ((a : A) → P a → Q a) → Yields P t → Yields Q t
yields_more P Q (steps.Done a) m y = m a y
yields_more P Q (steps.Breaks b) m y = tt
yields_more P Q (steps.Look u k) m y = λ c. yields_more P Q (k c) m (y c)
yields_more P Q (steps.Set u c t) m y = yields_more P Q t m y
yields_more P Q (steps.Hold u c t) m y = yields_more P Q t m y
yields_more P Q (steps.Forget u t) m y = yields_more P Q t m y
yields_more P Q (steps.Show xs t) m y = yields_more P Q t m y
yields_more P Q (steps.Take k) m y = λ o. yields_more P Q (k o) m (y o)
yields_more P Q (steps.Arrive p t) m y = yields_more P Q t m y

module _ (u : ℕ) where
  abbrev pub IsFreeOf : Place → Type 0
  IsFreeOf p = (in_place p u ≡ false) × (nat_eq p.first u ≡ false)

  abbrev AreFreeOf : List Place → Type 0
  AreFreeOf ps = OffPlaces u no_locks ps

  -- ---- actuals: the unit of an expression is another

  abbrev OwnOther : Actual → Type 0
  OwnOther x = x.own ≡ true → nat_eq x.place.first u ≡ false

  stored_other : (y : ℕ) (c : Content) → nat_eq y u ≡ false → Yields OwnOther (stored y c)
  stored_other y c n = λ e. n

  value_other : (e : ExprTree) (w : Names) (at : Places) (y : ℕ) → nat_eq y u ≡ false → Yields OwnOther (value e w at >>= stored y)
  value_other e w at y n = yields_then Anything OwnOther (value e w at) (stored y) (yields_any (value e w at)) (λ c i. stored_other y c n)

  rest_other : (p : Place) (o : Option ℕ) → Yields OwnOther (rest_after p o)
  rest_other p None = tt
  rest_other p (Some k) = λ e. absurd (true≢false (sym e))

  name_other : (m : Meant) (at : Places) (y : ℕ) → nat_eq y u ≡ false → Yields OwnOther (name_actual m at y)
  name_other (Constant c) at y n = stored_other y c n
  name_other (Variable v) at y n = λ e. absurd (true≢false (sym e))
  name_other Function at y n = tt

  element_other : (m : Meant) (e : ExprTree) (es : ExprTrees) (w : Names) (at : Places) (y : ℕ) → nat_eq y u ≡ false → Yields OwnOther (element_actual m e es w at y)
  element_other (Constant c) e es w at y n = tt
  element_other (Variable v) e es w at y n = yields_then Anything OwnOther (values es w at) (λ ns. rest_after (at v) (element_in (at v) ns)) (yields_any (values es w at)) (λ ns i. rest_other (at v) (element_in (at v) ns))
  element_other Function e es w at y n = value_other e w at y n

  actual_other : (e : ExprTree) (w : Names) (at : Places) (y : ℕ) → nat_eq y u ≡ false → Yields OwnOther (actual e w at y)
  actual_other (tree.name x) w at y n = name_other (w x) at y n
  actual_other (tree.element x es) w at y n = element_other (w x) (tree.element x es) es w at y n
  actual_other (tree.int m) w at y n = value_other (tree.int m) w at y n
  actual_other (tree.log b) w at y n = value_other (tree.log b) w at y n
  actual_other (tree.paren e) w at y n = value_other (tree.paren e) w at y n
  actual_other (tree.unary o e) w at y n = value_other (tree.unary o e) w at y n
  actual_other (tree.binary o a b) w at y n = value_other (tree.binary o a b) w at y n
  actual_other (tree.chars t) w at y n = tt

  abbrev OwnOthers : List Actual → Type 0
  OwnOthers xs = held u (own_units xs) ≡ false

  more_other : (x : Actual) (xs : List Actual) → OwnOther x → OwnOthers xs → OwnOthers (x ∷ xs)
  more_other x xs h hs = go x.own refl
    where
      go : (b : Bool) → x.own ≡ b → held u (if b then x.place.first ∷ own_units xs else own_units xs) ≡ false
      go true e = or_from (nat_eq x.place.first u) (held u (own_units xs)) (h e) hs
      go false e = hs

  actuals_other : (es : ExprTrees) (k : ℕ) (w : Names) (at : Places) (own : ℕ → ℕ) → ((j : ℕ) → nat_eq (own j) u ≡ false) → Yields OwnOthers (actuals es k w at own)
  actuals_other tree.no_exprs k w at own n = refl
  actuals_other (tree.more_exprs e es) k w at own n =
      yields_then OwnOther OwnOthers (actual e w at (own k)) (λ x. actuals es (suc k) w at own >>= λ xs. steps.Done (x ∷ xs)) (actual_other e w at (own k) (n k))
      (λ x h. yields_then OwnOthers OwnOthers (actuals es (suc k) w at own) (λ xs. steps.Done (x ∷ xs)) (actuals_other es (suc k) w at own n) (λ xs hs. more_other x xs h hs))

  -- so a CALL of a module of whose variables none reaches it is not given it
  passed_other : (es : ExprTrees) (w : Names) (at : Places) (own : ℕ → ℕ) → ((j : ℕ) → nat_eq (own j) u ≡ false) → Off u no_locks w at → Yields (λ xs. OffPlaces u no_locks (places_of xs)) (actuals es 0 w at own)
  passed_other es w at own n off =
      yields_more (λ xs. ActualsOff u no_locks xs × OwnOthers xs) (λ xs. OffPlaces u no_locks (places_of xs)) (actuals es 0 w at own)
      (λ xs h. places_off u no_locks no_locks (λ e. e) xs (λ e i. true≢false (sym e ∙ h.1)) h.0)
      (yields_both u (ActualsOff u no_locks) OwnOthers (actuals es 0 w at own) (actuals_off u no_locks es 0 w at own off) (actuals_other es 0 w at own n))

  -- ---- dummies

  module _ (V : ℕ → Type 0) where
    abbrev pub AllFree : Places → Type 0
    AllFree at = (v : ℕ) → V v → IsFreeOf (at v)

    first_free : (ps : List Place) → nat_eq 0 u ≡ false → OffPlaces u no_locks ps → IsFreeOf (first_place ps)
    first_free [] z o = (go (in_place nowhere u) refl, z)
      where
        there : in_place nowhere u ≡ true → nat_eq 0 u ≡ true
        there e = grind (arith, nat_tests, e)

        go : (b : Bool) → in_place nowhere u ≡ b → b ≡ false
        go true e = absurd (true≢false (sym (there e) ∙ z))
        go false e = refl
    first_free (p ∷ ps) z o = o.0 refl

    others_free : (ps : List Place) → OffPlaces u no_locks ps → OffPlaces u no_locks (other_places ps)
    others_free [] o = o
    others_free (p ∷ ps) o = o.1

    within_part : (p : Place) (n : ℕ) → nat_le n p.extent ≡ true → nat_le p.first u && nat_lt u (p.first + n) ≡ true → in_place p u ≡ true
    within_part p n h e = grind (arith, nat_tests)

    part_free : (p : Place) (t : Tag) (ds : List Dim) (n : ℕ) → nat_le n p.extent ≡ true → IsFreeOf p → IsFreeOf (array_at p t ds n)
    part_free p t ds n h f = (go (nat_le p.first u && nat_lt u (p.first + n)) refl, f.1)
      where
        go : (b : Bool) → (nat_le p.first u && nat_lt u (p.first + n)) ≡ b → b ≡ false
        go true q = absurd (true≢false (sym (within_part p n h q) ∙ f.0))
        go false q = refl

    open_within : (p : Place) (ds : List Dim) → nat_le (open_extent p ds) p.extent ≡ true
    open_within p ds = go (nat_eq (total_size ds) 0)
      where
        none : nat_le 0 p.extent ≡ true
        none = grind (arith, nat_tests)

        all : nat_le p.extent p.extent ≡ true
        all = grind (arith, nat_tests)

        go : (b : Bool) → nat_le (if b then 0 else p.extent) p.extent ≡ true
        go true = none
        go false = all

    array_free : (p : Place) (t : Tag) (ds : List Dim) → IsFreeOf p → Yields IsFreeOf (array_place p t ds)
    array_free p t ds f = go (is_open ds) (nat_le (total_size ds) p.extent) refl
      where
        go : (a b : Bool) → nat_le (total_size ds) p.extent ≡ b → Yields IsFreeOf (if a then steps.Done (array_at p t ds (open_extent p ds)) else if b then steps.Done (array_at p t ds (total_size ds)) else fault Bounds)
        go true b e = part_free p t ds (open_extent p ds) (open_within p ds) f
        go false true e = part_free p t ds (total_size ds) e f
        go false false e = tt

    put_free : (at : Places) (n : ℕ) (q : Place) → AllFree at → IsFreeOf q → AllFree (put at n q)
    put_free at n q h f v i = go (nat_eq v n)
      where
        go : (b : Bool) → IsFreeOf (if b then q else at v)
        go true = f
        go false = h v i

    dummy_free : (d : Dummy) (p : Place) (ds : List Dim) (at : Places) → IsFreeOf p → AllFree at → Yields AllFree (dummy_bound d p ds at)
    dummy_free d p [] at f h = h
    dummy_free d p (m ∷ ms) at f h = yields_then IsFreeOf AllFree (array_place p d.tag (m ∷ ms)) (λ q. steps.Done (put at d.symbol q)) (array_free p d.tag (m ∷ ms) f) (λ q i. put_free at d.symbol q h i)

    pub arrays_free : (ds : List Dummy) (ps : List Place) (w : Names) (at : Places) → nat_eq 0 u ≡ false → OffPlaces u no_locks ps → AllFree at → Yields AllFree (arrays_bound ds ps w at)
    arrays_free [] ps w at z o h = h
    arrays_free (d ∷ ds) ps w at z o h =
        yields_then Anything AllFree (dims_read d.bounds w at) (λ ms. dummy_bound d (first_place ps) ms at >>= arrays_bound ds (other_places ps) w) (yields_any (dims_read d.bounds w at))
        (λ ms i. yields_then AllFree AllFree (dummy_bound d (first_place ps) ms at) (arrays_bound ds (other_places ps) w) (dummy_free d (first_place ps) ms at (first_free ps z o) h) (λ at' h'. arrays_free ds (other_places ps) w at' z (others_free ps o) h'))

  pub scalars_free : (ds : List Dummy) (ps : List Place) (at : Places) (v : ℕ) → nat_eq 0 u ≡ false → OffPlaces u no_locks ps → (IsNoDummy ds v → IsFreeOf (at v)) → IsFreeOf (scalars_bound ds ps at v)
  scalars_free ds ps at v z o f = scalars_off u no_locks (λ x. Variable v) ds ps at z o (λ x c e n i. subst (λ (c : ℕ). IsFreeOf (at c)) (same c e) (f (subst (IsNoDummy ds) (sym (same c e)) n))) [] v refl refl
    where
      same : (c : ℕ) → Variable v ≡ Variable c → v ≡ c
      same c e = cc

-- a variable that is no dummy stays where it is
pub scalars_stay : (ds : List Dummy) (ps : List Place) (at : Places) (v : ℕ) → IsNoDummy ds v → scalars_bound ds ps at v ≡ at v
scalars_stay [] ps at v n = refl
scalars_stay (d ∷ ds) ps at v n = ap (λ b. if b then scalar_place (first_place ps).first d.tag else scalars_bound ds (other_places ps) at v) n.0 ∙ scalars_stay ds (other_places ps) at v n.1

pub arrays_stay : (ds : List Dummy) (ps : List Place) (w : Names) (at : Places) (v : ℕ) (q : Place) → IsNoDummy ds v → at v ≡ q → Yields (λ (at' : Places). at' v ≡ q) (arrays_bound ds ps w at)
arrays_stay [] ps w at v q n e = e
arrays_stay (d ∷ ds) ps w at v q n e =
    yields_then Anything (λ (at' : Places). at' v ≡ q) (dims_read d.bounds w at) (λ ms. dummy_bound d (first_place ps) ms at >>= arrays_bound ds (other_places ps) w) (yields_any (dims_read d.bounds w at))
    (λ ms i. yields_then (λ (at' : Places). at' v ≡ q) (λ (at' : Places). at' v ≡ q) (dummy_bound d (first_place ps) ms at) (arrays_bound ds (other_places ps) w) (one ms) (λ at' e'. arrays_stay ds (other_places ps) w at' v q n.1 e'))
  where
    one : (ms : List Dim) → Yields (λ (at' : Places). at' v ≡ q) (dummy_bound d (first_place ps) ms at)
    one [] = e
    one (m ∷ ms) = yields_then Anything (λ (at' : Places). at' v ≡ q) (array_place (first_place ps) d.tag (m ∷ ms)) (λ p. steps.Done (put at d.symbol p)) (yields_any (array_place (first_place ps) d.tag (m ∷ ms))) (λ p i. ap (λ b. if b then p else at v) n.0 ∙ e)

-- ---- a program

-- G: of places of the module of this name
module _ (u : ℕ) (z : nat_eq 0 u ≡ false) (name : List ℕ) (G : Places → Type 0) (turns : ℕ) where
  abbrev pub Here : Spot → Places → Type 0
  Here p at = bytes_eq p.module_name name ≡ true → G at

  -- of another module: none of its variables but dummies, and none of the units of expressions in it, is the unit; and of the module of the name: where it is called with other units, its places are such
  pub record Stays (r : Routine) : Type 0 where
    pub off : bytes_eq r.name name ≡ false → FixedOff u r
    pub own : (n k : ℕ) → nat_eq (r.own_unit n k) u ≡ false
    pub begin : bytes_eq r.name name ≡ true → (ps : List Place) → OffPlaces u no_locks ps → G (scalars_bound r.dummies ps r.fixed)
    pub bound : bytes_eq r.name name ≡ true → (ps : List Place) → OffPlaces u no_locks ps → Yields G (arrays_bound r.dummies ps r.names (scalars_bound r.dummies ps r.fixed))

  abbrev pub AllStay : List Routine → Type 0
  AllStay [] = Unit {0}
  AllStay (r ∷ rs) = Stays r × AllStay rs

  abbrev Calls : List Routine → Type 0
  Calls rs = (x : List ℕ) (ps : List Place) (locked : Locks) → OffPlaces u no_locks ps → SpotsIn Here (meanings rs turns x ps locked)

  -- behind its module
  other_modules : (r : Routine) (rs : List Routine) → bytes_eq r.name name ≡ true → ((y : List ℕ) → Named rs y → bytes_eq y r.name ≡ false) → (x : List ℕ) (ps : List Place) (locked : Locks) → SpotsIn Here (meanings rs turns x ps locked)
  other_modules r rs e d x ps locked =
      spots_more (InModules (λ y. bytes_eq y name ≡ false)) Here (λ p at f h. absurd (true≢false (sym h ∙ f))) (meanings rs turns x ps locked)
      (meanings_in (λ y. bytes_eq y name ≡ false) turns rs (all_named (λ y. bytes_eq y name ≡ false) rs (λ y n. subst (λ (w : List ℕ). bytes_eq y w ≡ false) ((bytes_eq-Decides r.name name).0 e) (d y n))) x ps locked)

  body_spots : (r : Routine) (rs : List Routine) → Stays r → Calls rs → ((y : List ℕ) → Named rs y → bytes_eq y r.name ≡ false) → (ps : List Place) (locked : Locks) → OffPlaces u no_locks ps → SpotsIn Here (body_of r turns (meanings rs turns) ps (scalars_bound r.dummies ps r.fixed) locked)
  body_spots r rs st calls d ps locked o = go (bytes_eq r.name name) refl
    where
      statements : Places → Plan
      statements at' = body_plan r.body (scope r turns (meanings rs turns)) at' (lock_doubly locked r.dummies at' r.common)

      go : (b : Bool) → bytes_eq r.name name ≡ b → SpotsIn Here (body_of r turns (meanings rs turns) ps (scalars_bound r.dummies ps r.fixed) locked)
      go true e =
          spots_with Here G (arrays_bound r.dummies ps r.names (scalars_bound r.dummies ps r.fixed)) statements (st.bound e ps o)
          (λ at' h. body_in Here Anything (scope r turns (meanings rs turns)) at' (λ n i. h) (λ x qs l i. other_modules r rs e d x qs l) (λ n es. yields_any (actuals es 0 r.names at' (r.own_unit n))) r.body (lock_doubly locked r.dummies at' r.common))
      go false e =
          let at = scalars_bound r.dummies ps r.fixed in
          let off = scalars_off u no_locks r.names r.dummies ps r.fixed z o (λ x v m n i. st.off e x v m n) in
          spots_with Here (Off u no_locks r.names) (arrays_bound r.dummies ps r.names at) statements (arrays_off u no_locks r.dummies ps r.names at z o off)
          (λ at' h. body_in Here (λ qs. OffPlaces u no_locks qs) (scope r turns (meanings rs turns)) at' (λ n i. absurd (true≢false (sym i ∙ e))) calls (λ n es. passed_other u es r.names at' (r.own_unit n) (st.own n) h) r.body (lock_doubly locked r.dummies at' r.common))

  begins : (r : Routine) → Stays r → (ps : List Place) → OffPlaces u no_locks ps → Here (spot r.name 0) (scalars_bound r.dummies ps r.fixed)
  begins r st ps o e = st.begin e ps o

  calls_stay : (rs : List Routine) → AllStay rs → Distinct rs → Calls rs
  calls_stay [] st d x ps locked o = tt
  calls_stay (r ∷ rs) st d x ps locked o = go (bytes_eq x r.name) (calls_stay rs st.1 d.1)
    where
      go : (b : Bool) → Calls rs → SpotsIn Here ((if b then called r turns (meanings rs turns) else meanings rs turns x) ps locked)
      go true ih = (
        begins r st.0 ps o,
        spots_forget Here r.locals (body_of r turns (meanings rs turns) ps (scalars_bound r.dummies ps r.fixed) locked) (body_spots r rs st.0 ih d.0 ps locked o),
        spots_after Here r.locals,
      )
      go false ih = ih x ps locked o

  pub program_stays : (p : Program) → p.main.dummies ≡ [] → AllStay (p.main ∷ p.others) → Distinct (p.main ∷ p.others) → SpotsIn Here (program_plan p turns)
  program_stays p none st d =
      subst (λ at. SpotsIn Here (Within (spot p.main.name 0) at (body_of p.main turns (meanings p.others turns) [] at no_locks) (λ f. Ends f))) (ap (λ ds. scalars_bound ds [] p.main.fixed) none)
      (begins p.main st.0 [] tt, body_spots p.main p.others st.0 (calls_stay p.others st.1 d.1) d.0 [] no_locks tt, λ f. tt)
