-- What is read where the bounds of arrays are evaluated, at the entry of a module.
use Rattle.std.proofs.Common.{◌≡◌, ℕ, zero, suc, ◌<◌, ℤ, List, [], ◌∷◌, ◌++◌, Option, Some, None, Bool, true, false, ◌&&◌, ◌||◌, refl, sym, ap, ◌∙◌, subst, arith, ⊎_elim, nat_eq, nat_le, true≢false}
use Rattle.std.specs.Prelude.{if◌then◌else◌, slice_get}
use Rattle.std.proofs.lemmas.Bool.{and_parts, or_left}
use Rattle.f77_ast.specs.Trees.{ExprTree}
use Rattle.f77_ast.specs.Trees as tree
use Rattle.f77_ast.specs.Store.{Tag, Int, Log, Content, content, Store, same_tag, truth, put}
use Rattle.f77_ast.specs.Faults.{Unset, Bounds, Arithmetic}
use Rattle.f77_ast.specs.Steps.{Break, Faulty, Steps, Done, ◌>>=◌}
use Rattle.f77_ast.specs.Numbers.{unary_number, unary_tag, binary_number, binary_tag}
use Rattle.f77_ast.specs.Runs.{Event, Read as Reads, Answer, Gave, Broke}
use Rattle.f77_ast.specs.Places.{Meant, Constant, Variable, Function, Dim, Place, Places, total_size}
use Rattle.f77_ast.specs.Values.{fault, given, read_unit, name_value, value}
use Rattle.f77_ast.specs.Calls.{BoundTree, Dummy, Meaning, first_place, other_places, high_value, dims_read, is_open, open_extent, array_at, array_place, dummy_bound, arrays_bound}
use Rattle.f77_ast.specs.Programs.{scope}
use Rattle.f77_ast.specs.declared.variable.Variable.TheVariants.{Own}
use Rattle.f77_ast.specs.Symbols.{BoundTree as Bound}
use Rattle.tracked_cells.specs.Standing.{has_bounds}
use Rattle.call_graph.specs.declared.graph.Graph.{Graph}
use Rattle.f77_meaning.specs.Modules.{Known}
use Rattle.affine_forms.specs.Claims.{numbers_of}
use Rattle.preconditions.specs.transformers.Given.{Callees}
use Rattle.in_out_regions.specs.region_sets.declared.region.Access.TheVariants.{Read, Write, In, Out}
use Rattle.in_out_regions.specs.region_sets.declared.region.Region.{Region}
use Rattle.in_out_regions.specs.region_sets.Claims.{LiesIn, LiesInSet}
use Rattle.in_out_regions.specs.array_regions.References.{scalar, whole}
use Rattle.in_out_regions.specs.array_regions.Calls.{Called}
use Rattle.in_out_regions.specs.array_regions.Reads.{reads, maybe_reads}
use Rattle.laws_analyses.proofs.Calls.Bound.{scalars_fixed, scalars_dummy}
use Rattle.laws_analyses.proofs.Calls.Enter.{find_dummy}
use Rattle.laws_analyses.specs.Calls.Parts.{Blocks, Part, DummyOf, NoDummy, places_in, far_in, Sane}
use Rattle.laws_analyses.specs.Regions.Settings.{Setting, scene, elements_at, DimsFit, HasSymbol}
use Rattle.laws_analyses.specs.Regions.Shown.{accessed, Holds, Sharp}
use Rattle.laws_analyses.specs.Regions.Entries.{is_bare, maybe_bare, are_bare, all_bare, bounds_reads, dummies_reads}
use Rattle.laws_analyses.specs.Regions.Programs.{IsVariable, Regular}
use Rattle.laws_analyses.proofs.Regions.Traces.{trace_assoc, trace_nil}
use Rattle.laws_analyses.proofs.Regions.Looks.{Looked, IfGave, looked_more, looked_then}
use Rattle.laws_analyses.proofs.Regions.Holding.{set_one, sharp_none, sharp_one, holds_none, holds_left, holds_both, sharp_both}
use Rattle.laws_analyses.proofs.Regions.Elements.{stored_by, scalar_lies, scalar_sharp}
use Rattle.laws_analyses.proofs.Regions.Expressions.{named_region, not_is}
use Rattle.laws_programs.proofs.Storage.ActualLaws.{no_bounds as bounds_none}
use Rattle.fx_lists.proofs.Numbers.{same_is as nat_same, nat_eq_same}
use Rattle.laws_programs.proofs.Effects.Binding.{put_other as put_off}

-- a unit is read
one_look : (k : Setting) (rs : List Region) (s : Store) (u : ℕ) (c : Content) → LiesInSet (scene k) (elements_at k) Read rs (numbers_of s) u → Holds k rs s (Reads u c ∷ [])
one_look k rs s u c l Read x h = subst (λ z. LiesInSet (scene k) (elements_at k) Read rs (numbers_of s) z) (same (nat_eq u x) refl h.is_so) l
  where
    same : (b : Bool) → nat_eq u x ≡ b → (b || false) ≡ true → u ≡ x
    same true q i = nat_same u x q
    same false q i = absurd (true≢false (sym i))
one_look k rs s u c l Write x h = absurd (true≢false (sym h.is_so))
one_look k rs s u c l In x h = absurd (true≢false (sym h.is_so))
one_look k rs s u c l Out x h = absurd (true≢false (sym h.is_so))

fits_none : (value : List ℕ → Option _) (ds : List Dim) → DimsFit value [] ds → ds ≡ []
fits_none value [] h = refl
fits_none value (d ∷ ds) h = absurd h

module _ (ks : List Known) (g : Graph) (called : Called) (b : Blocks) (cs : Callees) (k : Part) (sane : Sane b k) (regular : Regular k) (turns : ℕ) (callee : List ℕ → Meaning) (ps : List Place) where
  -- the module with these places of its variables
  abbrev pub setting : Places → Setting
  setting at = record { ks = ks; g = g; sc = scope k.routine turns callee; m = k.scope; cs = cs; does = k.found.transformer; calls = called; scalar = k.scalar; at = at; far = far_in b k ps; place = b.place }

  abbrev pub at0 : Places
  at0 = places_in k ps

  -- the scalars lie where they lie before the bounds are read
  abbrev pub KeepsScalars : Places → Type 0
  KeepsScalars at = (x : List ℕ) (v : ℕ) → k.routine.names x ≡ Variable v → k.scalar x ≡ true → at v ≡ places_in k ps v

  record FlatAt (v : ℕ) : Type 0 where
    flat : (places_in k ps v).dims ≡ []
    solid : 0 < (places_in k ps v).extent

  bare_bounds : (x : List ℕ) (v : ℕ) (y : IsVariable k x v) → k.scalar x ≡ true → y.symbol.bounds ≡ []
  bare_bounds x v y h = bounds_none y.symbol.bounds (not_is (k.scalar x) (has_bounds y.symbol.bounds) y.shape h)

  flat_at : (x : List ℕ) (v : ℕ) → k.routine.names x ≡ Variable v → k.scalar x ≡ true → FlatAt v
  flat_at x v e h = ⊎_elim dummy fixed_one (find_dummy k.routine.dummies v)
    where
      dummy : DummyOf k.routine.dummies v → FlatAt v
      dummy o =
          let p = ap (λ n. places_in k ps n) (sym o.symbol) ∙ scalars_dummy k.routine.dummies ps k.routine.fixed o.at o.dummy sane.distinct o.is_dummy in
          let one : (places_in k ps v).extent ≡ 1 = ap (λ (q : Place). q.extent) p in
          record { flat = ap (λ (q : Place). q.dims) p; solid = omega (arith, one) }

      fixed_one : NoDummy k.routine.dummies v → FlatAt v
      fixed_one n =
          let y = regular.variables x v e in
          let p = scalars_fixed k.routine.dummies ps k.routine.fixed v n in
          let fit : DimsFit k.scope.scalars.value [] (k.routine.fixed v).dims = subst (λ bs. DimsFit k.scope.scalars.value bs (k.routine.fixed v).dims) (bare_bounds x v y h) (y.fixed n) in
          record {
            flat = ap (λ (q : Place). q.dims) p ∙ fits_none k.scope.scalars.value (k.routine.fixed v).dims fit;
            solid = subst (λ (q : Place). 0 < q.extent) (sym p) (sane.fixed_solid x v e h n);
          }

  has_symbol : (at : Places) → KeepsScalars at → (x : List ℕ) (v : ℕ) → k.routine.names x ≡ Variable v → k.scalar x ≡ true → HasSymbol (setting at) x v
  has_symbol at same x v e h = (let y = regular.variables x v e in record {
    symbol = y.symbol;
    is_symbol = y.is_symbol;
    stored = y.stored;
    shape = y.shape;
    no_function = y.no_function;
    dims = subst (λ bs. DimsFit k.scope.scalars.value bs (at v).dims) (sym (bare_bounds x v y h)) (subst (λ ds. DimsFit k.scope.scalars.value [] ds) (sym (ap (λ (q : Place). q.dims) (same x v e h) ∙ (flat_at x v e h).flat)) tt);
  })

  -- all that was read lies in the regions, wherever the arrays lie; where an answer was given, what they certainly say was read
  pub record Got {A : Type 0} (rs : List Region) (s : Store) (a : Answer A) (es : List Event) : Type 0 where
    pub holds : (at : Places) → KeepsScalars at → Holds (setting at) rs s es
    pub sharp : IfGave a (λ x. (at : Places) → KeepsScalars at → Sharp (setting at) rs s es)

  module _ (s : Store) where
    got_nothing : {A : Type 0} (x : A) → Got [] s (Gave x) []
    got_nothing x = record {
      holds = λ at h. holds_none (setting at) [] s;
      sharp = λ at h. sharp_none (scene (setting at)) (elements_at (setting at)) (numbers_of s) (λ a. accessed a []);
    }

    got_broke : {A : Type 0} (rs : List Region) (z : Break) (es : List Event) → ((at : Places) → KeepsScalars at → Holds (setting at) rs s es) → Got {A = A} rs s (Broke z) es
    got_broke rs z es h = record { holds = h; sharp = tt }

    got_again : {A B : Type 0} (rs : List Region) (x : A) (es : List Event) → Got rs s (Gave x) es → (y : B) → Got rs s (Gave y) (es ++ [])
    got_again rs x es h y = subst (λ t. Got rs s (Gave y) t) (sym (trace_nil es)) (record { holds = h.holds; sharp = h.sharp })

    got_stopped : {A B : Type 0} (rs : List Region) (x : A) (es : List Event) → Got rs s (Gave x) es → (z : Break) → Got {A = B} rs s (Broke z) (es ++ [])
    got_stopped {B = B} rs x es h z = subst (λ t. Got {A = B} rs s (Broke z) t) (sym (trace_nil es)) (got_broke rs z es h.holds)

    given_got : {A : Type 0} (rs : List Region) (x : A) (es : List Event) → Got rs s (Gave x) es → (t : Tag) (o : Option ℤ) → Looked (given t o) s (λ y fs. Got rs s y (es ++ fs))
    given_got rs x es h t None = got_stopped rs x es h (Faulty Arithmetic)
    given_got rs x es h t (Some n) = got_again rs x es h (content t n)

    got_left : {A B : Type 0} (rs qs : List Region) (z : Break) (es : List Event) → Got {A = A} rs s (Broke z) es → Got {A = B} (rs ++ qs) s (Broke z) es
    got_left rs qs z es h = got_broke (rs ++ qs) z es (λ at f. holds_left (setting at) rs qs s es (h.holds at f))

    both_got : {A B : Type 0} (t : Steps A) (rs qs : List Region) (es : List Event) (x : B) → Got rs s (Gave x) es → Looked t s (Got qs s) → Looked t s (λ a fs. Got (rs ++ qs) s a (es ++ fs))
    both_got t rs qs es x h l =
        looked_more t s (Got qs s) (λ a fs. Got (rs ++ qs) s a (es ++ fs))
        (λ a fs g. record { holds = λ at f. holds_both (setting at) rs qs s es fs (h.holds at f) (g.holds at f); sharp = go a fs g.sharp }) l
      where
        go : {A : Type 0} (a : Answer A) (fs : List Event) → IfGave a (λ y. (at : Places) → KeepsScalars at → Sharp (setting at) qs s fs) → IfGave a (λ y. (at : Places) → KeepsScalars at → Sharp (setting at) (rs ++ qs) s (es ++ fs))
        go (Gave y) fs g = λ at f. sharp_both (setting at) rs qs s es fs (h.sharp at f) (g at f)
        go (Broke z) fs g = tt

    -- ---- a scalar

    scalar_got : (x : List ℕ) (v : ℕ) → k.routine.names x ≡ Variable v → k.scalar x ≡ true → (a : Answer Content) → Got (whole k.scope Read x) s a (Reads (places_in k ps v).first (s (places_in k ps v).first) ∷ [])
    scalar_got x v e h a = record { holds = λ at f. one at f; sharp = go a }
      where
        u : ℕ
        u = (places_in k ps v).first

        region : (at : Places) (f : KeepsScalars at) → whole k.scope Read x ≡ scalar Read v ∷ []
        region at f = named_region (setting at) x v (has_symbol at f x v e h) (sane.names_fit.numbers x v e) Read

        flat : (at : Places) (f : KeepsScalars at) → (at v).dims ≡ []
        flat at f = ap (λ (q : Place). q.dims) (f x v e h) ∙ (flat_at x v e h).flat

        solid : (at : Places) (f : KeepsScalars at) → 0 < (at v).extent
        solid at f = subst (λ (q : Place). 0 < q.extent) (sym (f x v e h)) (flat_at x v e h).solid

        there : (at : Places) (f : KeepsScalars at) → (at v).first ≡ (places_in k ps v).first
        there at f = ap (λ (q : Place). q.first) (f x v e h)

        one : (at : Places) (f : KeepsScalars at) → Holds (setting at) (whole k.scope Read x) s (Reads (places_in k ps v).first (s (places_in k ps v).first) ∷ [])
        one at f =
            subst (λ rs. Holds (setting at) rs s (Reads (places_in k ps v).first (s (places_in k ps v).first) ∷ [])) (sym (region at f))
            (one_look (setting at) (scalar Read v ∷ []) s (places_in k ps v).first (s (places_in k ps v).first)
            (set_one (scene (setting at)) (elements_at (setting at)) Read (numbers_of s) (places_in k ps v).first (scalar Read v) refl
            (subst (λ z. LiesIn (scene (setting at)) (elements_at (setting at) (Own v)) (scalar Read v) (numbers_of s) z) (there at f) (scalar_lies (setting at) v (stored_by (setting at) x v (has_symbol at f x v e h)) (flat at f) (solid at f) Read (numbers_of s)))))

        was : (at : Places) (f : KeepsScalars at) → accessed Read (Reads (places_in k ps v).first (s (places_in k ps v).first) ∷ []) (at v).first ≡ true
        was at f = or_left (nat_eq (places_in k ps v).first (at v).first) false (ap (λ z. nat_eq (places_in k ps v).first z) (there at f) ∙ nat_eq_same (places_in k ps v).first)

        certain : (at : Places) (f : KeepsScalars at) → Sharp (setting at) (whole k.scope Read x) s (Reads (places_in k ps v).first (s (places_in k ps v).first) ∷ [])
        certain at f =
            subst (λ rs. Sharp (setting at) rs s (Reads (places_in k ps v).first (s (places_in k ps v).first) ∷ [])) (sym (region at f))
            (sharp_one (scene (setting at)) (elements_at (setting at)) (numbers_of s) (scalar Read v) (λ a. accessed a (Reads (places_in k ps v).first (s (places_in k ps v).first) ∷ []))
            (scalar_sharp (setting at) v (stored_by (setting at) x v (has_symbol at f x v e h)) (flat at f) (solid at f) Read (numbers_of s) (accessed Read (Reads (places_in k ps v).first (s (places_in k ps v).first) ∷ [])) (was at f)))

        go : (a : Answer Content) → IfGave a (λ y. (at : Places) → KeepsScalars at → Sharp (setting at) (whole k.scope Read x) s (Reads (places_in k ps v).first (s (places_in k ps v).first) ∷ []))
        go (Gave y) = certain
        go (Broke z) = tt

    -- ---- expressions

    module _ (at1 : Places) (keeps : KeepsScalars at1) where
      name_looks : (x : List ℕ) → k.scalar x ≡ true → (w : Meant) → k.routine.names x ≡ w → Looked (name_value w at1) s (Got (whole k.scope Read x) s)
      name_looks x h (Constant c) e = subst (λ rs. Got rs s (Gave c) []) (sym (regular.constants x c e Read)) (got_nothing c)
      name_looks x h Function e = got_broke (whole k.scope Read x) (Faulty Unset) [] (λ at f. holds_none (setting at) (whole k.scope Read x) s)
      name_looks x h (Variable v) e =
          subst (λ (q : Place). Looked (read_unit q.tag q.first) s (Got (whole k.scope Read x) s)) (sym (keeps x v e h))
          (pick (same_tag (places_in k ps v).tag (s (places_in k ps v).first).tag))
        where
          pick : (c : Bool) → Looked (if c then Done (s (places_in k ps v).first) else fault Unset) s (λ a fs. Got (whole k.scope Read x) s a (Reads (places_in k ps v).first (s (places_in k ps v).first) ∷ fs))
          pick true = scalar_got x v e h (Gave (s (places_in k ps v).first))
          pick false = scalar_got x v e h (Broke (Faulty Unset))

      bare_looks : (e : ExprTree) → is_bare k.scalar e ≡ true → Looked (value e k.routine.names at1) s (Got (reads e k.scope) s)
      bare_looks (tree.int n) h = got_nothing (content Int n)
      bare_looks (tree.log c) h = got_nothing (content Log (truth c))
      bare_looks (tree.name x) h = name_looks x h (k.routine.names x) refl
      bare_looks (tree.element x es) h = absurd (true≢false (sym h))
      bare_looks (tree.paren e) h = bare_looks e h
      bare_looks (tree.unary o e) h =
          looked_then (value e k.routine.names at1) (λ c. given (unary_tag o) (unary_number o c.number)) s (Got (reads e k.scope) s) (Got (reads e k.scope) s) (bare_looks e h)
          (λ c es g. given_got (reads e k.scope) c es g (unary_tag o) (unary_number o c.number))
          (λ z es g. got_broke (reads e k.scope) z es g.holds)
      bare_looks (tree.binary o a c) h =
          let q = and_parts (is_bare k.scalar a) (is_bare k.scalar c) h in
          looked_then (value a k.routine.names at1) (λ m. value c k.routine.names at1 >>= λ n. given (binary_tag o) (binary_number o m.number n.number)) s (Got (reads a k.scope) s) (Got (reads a k.scope ++ reads c k.scope) s) (bare_looks a q.0)
          (λ m es g. looked_then (value c k.routine.names at1) (λ n. given (binary_tag o) (binary_number o m.number n.number)) s (λ y fs. Got (reads a k.scope ++ reads c k.scope) s y (es ++ fs)) (λ y fs. Got (reads a k.scope ++ reads c k.scope) s y (es ++ fs))
          (both_got (value c k.routine.names at1) (reads a k.scope) (reads c k.scope) es m g (bare_looks c q.1))
          (λ n fs j. looked_more (given (binary_tag o) (binary_number o m.number n.number)) s (λ y gs. Got (reads a k.scope ++ reads c k.scope) s y ((es ++ fs) ++ gs)) (λ y gs. Got (reads a k.scope ++ reads c k.scope) s y (es ++ (fs ++ gs))) (λ y gs t. subst (λ l. Got (reads a k.scope ++ reads c k.scope) s y l) (trace_assoc es fs gs) t)
          (given_got (reads a k.scope ++ reads c k.scope) n (es ++ fs) j (binary_tag o) (binary_number o m.number n.number)))
          (λ z fs j. got_broke (reads a k.scope ++ reads c k.scope) z (es ++ fs) j.holds))
          (λ z es g. got_left (reads a k.scope) (reads c k.scope) z es g)
      bare_looks (tree.chars x) h = got_broke [] (Faulty Unset) [] (λ at f. holds_none (setting at) [] s)

      -- ---- bounds

      high_looks : (o : Option ExprTree) → maybe_bare k.scalar o ≡ true → Looked (high_value o k.routine.names at1) s (Got (maybe_reads o k.scope) s)
      high_looks None h = got_nothing None
      high_looks (Some e) h =
          looked_then (value e k.routine.names at1) (λ c. Done (Some c.number)) s (Got (reads e k.scope) s) (Got (reads e k.scope) s) (bare_looks e h)
          (λ c es g. got_again (reads e k.scope) c es g (Some c.number))
          (λ z es g. got_broke (reads e k.scope) z es g.holds)

      dims_look : (bs : List BoundTree) → are_bare k.scalar bs ≡ true → Looked (dims_read bs k.routine.names at1) s (Got (bounds_reads bs k.scope) s)
      dims_look [] h = got_nothing []
      dims_look (d ∷ bs) h =
          let q = and_parts (is_bare k.scalar d.low) (maybe_bare k.scalar d.high && are_bare k.scalar bs) h in
          let r = and_parts (maybe_bare k.scalar d.high) (are_bare k.scalar bs) q.1 in
          let A = reads d.low k.scope in
          let B = maybe_reads d.high k.scope in
          let C = bounds_reads bs k.scope in
          looked_then (value d.low k.routine.names at1) (λ m. high_value d.high k.routine.names at1 >>= λ n. dims_read bs k.routine.names at1 >>= λ ds. Done (record { low = m.number; high = n } ∷ ds)) s (Got (reads d.low k.scope) s) (Got (reads d.low k.scope ++ (maybe_reads d.high k.scope ++ bounds_reads bs k.scope)) s) (bare_looks d.low q.0)
          (λ m es g. both_got (high_value d.high k.routine.names at1 >>= λ n. dims_read bs k.routine.names at1 >>= λ ds. Done (record { low = m.number; high = n } ∷ ds)) (reads d.low k.scope) (maybe_reads d.high k.scope ++ bounds_reads bs k.scope) es m g
          (looked_then (high_value d.high k.routine.names at1) (λ n. dims_read bs k.routine.names at1 >>= λ ds. Done (record { low = m.number; high = n } ∷ ds)) s (Got (maybe_reads d.high k.scope) s) (Got (maybe_reads d.high k.scope ++ bounds_reads bs k.scope) s) (high_looks d.high r.0)
          (λ n fs j. both_got (dims_read bs k.routine.names at1 >>= λ ds. Done (record { low = m.number; high = n } ∷ ds)) (maybe_reads d.high k.scope) (bounds_reads bs k.scope) fs n j
          (looked_then (dims_read bs k.routine.names at1) (λ ds. Done (record { low = m.number; high = n } ∷ ds)) s (Got (bounds_reads bs k.scope) s) (Got (bounds_reads bs k.scope) s) (dims_look bs r.1)
          (λ ds gs i. got_again (bounds_reads bs k.scope) ds gs i (record { low = m.number; high = n } ∷ ds))
          (λ z gs i. got_broke (bounds_reads bs k.scope) z gs i.holds)))
          (λ z fs j. got_left (maybe_reads d.high k.scope) (bounds_reads bs k.scope) z fs j)))
          (λ z es g. got_left (reads d.low k.scope) (maybe_reads d.high k.scope ++ bounds_reads bs k.scope) z es g)

    -- ---- dummies

    -- one that is a scalar has no bounds
    abbrev Flat : List Dummy → Type 0
    Flat ds = (i : ℕ) (d : Dummy) (x : List ℕ) → slice_get ds i ≡ Some d → k.routine.names x ≡ Variable d.symbol → k.scalar x ≡ true → d.bounds ≡ []

    keeps_put : (at1 : Places) → KeepsScalars at1 → (d : Dummy) (q : Place) → ((x : List ℕ) → k.routine.names x ≡ Variable d.symbol → k.scalar x ≡ true → ⊥) → KeepsScalars (put at1 d.symbol q)
    keeps_put at1 keeps d q none x v e h = put_off at1 d.symbol q v (λ r. none x (e ∙ ap Variable r) h) ∙ keeps x v e h

    module _ (d : Dummy) (ds : List Dummy) (qs : List Place) (at1 : Places) (keeps : KeepsScalars at1) (later : (at2 : Places) → KeepsScalars at2 → Looked (arrays_bound ds (other_places qs) k.routine.names at2) s (Got (dummies_reads ds k.scope) s)) where
      abbrev Rest : List Region → List Event → Steps Places → Type 0
      Rest rs es t = Looked (t >>= arrays_bound ds (other_places qs) k.routine.names) s (λ a fs. Got (rs ++ dummies_reads ds k.scope) s a (es ++ fs))

      module _ (rs : List Region) (ms : List Dim) (es : List Event) (got : Got rs s (Gave ms) es) where
        bound : (at2 : Places) → KeepsScalars at2 → Rest rs es (Done at2)
        bound at2 f = both_got (arrays_bound ds (other_places qs) k.routine.names at2) rs (dummies_reads ds k.scope) es ms got (later at2 f)

        refused : Rest rs es (fault Bounds)
        refused = got_broke (rs ++ dummies_reads ds k.scope) (Faulty Bounds) (es ++ []) (λ at f. subst (λ l. Holds (setting at) (rs ++ dummies_reads ds k.scope) s l) (sym (trace_nil es)) (holds_left (setting at) rs (dummies_reads ds k.scope) s es (got.holds at f)))

        array : (n : Dim) (ns : List Dim) → ((q : Place) → KeepsScalars (put at1 d.symbol q)) → Rest rs es (array_place (first_place qs) d.tag (n ∷ ns) >>= λ q. Done (put at1 d.symbol q))
        array n ns f = open_or (is_open (n ∷ ns))
          where
            sized : (c : Bool) → Rest rs es ((if c then Done (array_at (first_place qs) d.tag (n ∷ ns) (total_size (n ∷ ns))) else fault Bounds) >>= λ q. Done (put at1 d.symbol q))
            sized true = bound (put at1 d.symbol (array_at (first_place qs) d.tag (n ∷ ns) (total_size (n ∷ ns)))) (f (array_at (first_place qs) d.tag (n ∷ ns) (total_size (n ∷ ns))))
            sized false = refused

            open_or : (c : Bool) → Rest rs es ((if c then Done (array_at (first_place qs) d.tag (n ∷ ns) (open_extent (first_place qs) (n ∷ ns))) else if nat_le (total_size (n ∷ ns)) (first_place qs).extent then Done (array_at (first_place qs) d.tag (n ∷ ns) (total_size (n ∷ ns))) else fault Bounds) >>= λ q. Done (put at1 d.symbol q))
            open_or true = bound (put at1 d.symbol (array_at (first_place qs) d.tag (n ∷ ns) (open_extent (first_place qs) (n ∷ ns)))) (f (array_at (first_place qs) d.tag (n ∷ ns) (open_extent (first_place qs) (n ∷ ns))))
            open_or false = sized (nat_le (total_size (n ∷ ns)) (first_place qs).extent)

        rest : (ns : List Dim) → ((q : Place) → KeepsScalars (put at1 d.symbol q)) → Rest rs es (dummy_bound d (first_place qs) ns at1)
        rest [] f = bound at1 keeps
        rest (n ∷ ns) f = array n ns f

      one_array : (bs : List BoundTree) → are_bare k.scalar bs ≡ true → ((x : List ℕ) → k.routine.names x ≡ Variable d.symbol → k.scalar x ≡ true → bs ≡ []) → Looked (dims_read bs k.routine.names at1 >>= λ ms. dummy_bound d (first_place qs) ms at1 >>= arrays_bound ds (other_places qs) k.routine.names) s (Got (bounds_reads bs k.scope ++ dummies_reads ds k.scope) s)
      one_array [] h flat = later at1 keeps
      one_array (c ∷ bs) h flat =
          looked_then (dims_read (c ∷ bs) k.routine.names at1) (λ ms. dummy_bound d (first_place qs) ms at1 >>= arrays_bound ds (other_places qs) k.routine.names) s (Got (bounds_reads (c ∷ bs) k.scope) s) (Got (bounds_reads (c ∷ bs) k.scope ++ dummies_reads ds k.scope) s)
          (dims_look at1 keeps (c ∷ bs) h)
          (λ ms es g. rest (bounds_reads (c ∷ bs) k.scope) ms es g ms (λ q. keeps_put at1 keeps d q (λ x n b. some (flat x n b))))
          (λ z es g. got_left (bounds_reads (c ∷ bs) k.scope) (dummies_reads ds k.scope) z es g)
        where
          some : (c ∷ bs) ≡ [] → ⊥
          some q = cc

    pub arrays_look : (ds : List Dummy) (qs : List Place) (at1 : Places) → KeepsScalars at1 → all_bare k.scalar ds ≡ true → Flat ds → Looked (arrays_bound ds qs k.routine.names at1) s (Got (dummies_reads ds k.scope) s)
    arrays_look [] qs at1 keeps h flat = got_nothing at1
    arrays_look (d ∷ ds) qs at1 keeps h flat =
        let r = and_parts (are_bare k.scalar d.bounds) (all_bare k.scalar ds) h in
        one_array d ds qs at1 keeps (λ at2 f. arrays_look ds (other_places qs) at2 f r.1 (λ i f x. flat (suc i) f x)) d.bounds r.0 (λ x. flat zero d x refl)
