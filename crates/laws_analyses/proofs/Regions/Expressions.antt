-- What is read where expressions are evaluated.
use Rattle.std.proofs.Common.{◌≡◌, ℕ, ◌+◌, ◌<◌, ℤ, List, [], ◌∷◌, ◌++◌, Option, Some, None, Bool, true, false, ◌||◌, refl, sym, ap, ◌∙◌, subst, nat_eq, true≢false}
use Rattle.std.specs.Prelude.{if◌then◌else◌, not, is_some}
use Rattle.std.proofs.lemmas.Bool.{and_parts, or_left}
use Rattle.f77_ast.specs.Trees.{ExprTree, ExprTrees}
use Rattle.f77_ast.specs.Trees as tree
use Rattle.f77_ast.specs.Store.{Tag, Int, Log, Content, content, Store, same_tag, truth}
use Rattle.f77_ast.specs.Faults.{Unset, Bounds, Arithmetic}
use Rattle.f77_ast.specs.Steps.{Break, Faulty, Value, Text, Steps, Done, ◌>>=◌}
use Rattle.f77_ast.specs.Numbers.{unary_number, unary_tag, binary_number, binary_tag, Intrinsic, intrinsic_named, intrinsic_number}
use Rattle.f77_ast.specs.Runs.{Event, Read as Reads, Answer, Gave, Broke}
use Rattle.f77_ast.specs.Places.{Meant, Constant, Variable, Function, Place, Dim, position, within, element_in}
use Rattle.f77_ast.specs.Values.{fault, given, of_type, read_unit, unit_after, name_value, intrinsic_value, element_value, value, values, shown, all_shown}
use Rattle.f77_ast.specs.Symbols.{BoundTree, number_from}
use Rattle.tracked_cells.specs.Standing.{has_bounds}
use Rattle.affine_forms.specs.Scalars.{is_cell}
use Rattle.affine_forms.specs.Forms.{affine_of}
use Rattle.affine_forms.specs.Claims.{numbers_of}
use Rattle.affine_forms.proofs.ValueLaws.{value_leads}
use Rattle.preconditions.specs.transformer_algebra.Claims.{Means}
use Rattle.in_out_regions.specs.region_sets.declared.region.Access.{Access}
use Rattle.in_out_regions.specs.region_sets.declared.region.Access.TheVariants.{Read, Write, In, Out}
use Rattle.in_out_regions.specs.region_sets.declared.region.Region.{Region}
use Rattle.in_out_regions.specs.region_sets.Claims.{LiesIn, LiesInSet}
use Rattle.in_out_regions.specs.array_regions.References.{scalar, scalar_at, array_at, element_at, whole_of, whole, element_of, element}
use Rattle.in_out_regions.specs.array_regions.Reads.{reads, all_reads}
use Rattle.laws_analyses.specs.Regions.Settings.{Setting, scene, elements_at, DimsFit, HasSymbol, Sound, is_indexed, is_plain, are_plain}
use Rattle.laws_analyses.specs.Regions.Shown.{accessed, Holds, Sharp}
use Rattle.laws_analyses.proofs.Regions.Traces.{trace_assoc, trace_nil}
use Rattle.laws_analyses.proofs.Regions.Looks.{Looked, IfGave, looked_more, looked_then, looked_with}
use Rattle.laws_analyses.proofs.Regions.Holding.{set_one, sharp_none, sharp_one, holds_none, holds_left, holds_both, sharp_both}
use Rattle.laws_analyses.proofs.Regions.Elements.{stored_by, scalar_lies, scalar_sharp, MeanEach, element_lies, element_sharp}
use Rattle.fx_lists.proofs.Numbers.{same_is as nat_same, nat_eq_same}

-- ---- the regions of names

pub named_region : (k : Setting) (x : List ℕ) (v : ℕ) (h : HasSymbol k x v) → number_from 1 k.m.names x ≡ Some v → (a : Access) → whole k.m a x ≡ scalar a v ∷ []
named_region k x v h n a = ap (whole_of k.m a) n ∙ (ap (scalar_at a v) h.is_symbol ∙ ap (λ b. if b then [] else scalar a v ∷ []) h.stored)

pub element_region : (k : Setting) (x : List ℕ) (es : ExprTrees) (v : ℕ) (h : HasSymbol k x v) → number_from 1 k.m.names x ≡ Some v → has_bounds h.symbol.bounds ≡ true → (a : Access) → element k.m a x es ≡ array_at k.m a v es h.symbol.bounds ∷ []
element_region k x es v h n b a = ap (element_of k.m a es) n ∙ (ap (element_at k.m a v es) h.is_symbol ∙ ap (λ t. if t then array_at k.m a v es h.symbol.bounds ∷ [] else []) b)

-- a variable without bounds has no dimensions
pub no_dims : (value : List ℕ → Option _) (bs : List BoundTree) (ds : List Dim) → has_bounds bs ≡ false → DimsFit value bs ds → ds ≡ []
no_dims value [] [] e h = refl
no_dims value [] (d ∷ ds) e h = absurd h
no_dims value (b ∷ bs) ds e h = absurd (true≢false e)

pub not_is : (a b : Bool) → a ≡ not b → a ≡ true → b ≡ false
not_is a true e h = absurd (true≢false (sym h ∙ e))
not_is a false e h = refl

pub flat_scalar : (k : Setting) (x : List ℕ) (v : ℕ) → HasSymbol k x v → k.scalar x ≡ true → (k.at v).dims ≡ []
flat_scalar k x v h s = no_dims k.m.scalars.value h.symbol.bounds (k.at v).dims (not_is (k.scalar x) (has_bounds h.symbol.bounds) h.shape s) h.dims

-- an element of it has bounds
pub no_position : (p : Place) (ds : List Dim) (n : ℤ) (ns : List ℤ) (o : ℕ) → ds ≡ [] → within p (position ds (n ∷ ns)) ≡ Some o → ⊥
no_position p [] n ns o e h = cc
no_position p (d ∷ ds) n ns o e h = cc

-- so where it is found, it has bounds
pub bounded : (k : Setting) (s : Store) (x : List ℕ) (v : ℕ) (y : HasSymbol k x v) (fs : ExprTrees) (ns : List ℤ) (o : ℕ) → is_indexed k.scalar x fs ≡ true → MeanEach k s fs ns → element_in (k.at v) ns ≡ Some o → has_bounds y.symbol.bounds ≡ false → ⊥
bounded k s x v y tree.no_exprs ns o ix m f b = go (is_some (intrinsic_named x)) refl ix
  where
    go : (c : Bool) → is_some (intrinsic_named x) ≡ c → (c || not (k.scalar x)) ≡ true → ⊥
    go true e h = true≢false (sym (y.no_function e) ∙ b)
    go false e h = true≢false (sym h ∙ ap not (y.shape ∙ ap not b))
bounded k s x v y (tree.more_exprs e es) [] o ix m f b = m
bounded k s x v y (tree.more_exprs e es) (n ∷ ns) o ix m f b = no_position (k.at v) (k.at v).dims n ns o (no_dims k.m.scalars.value y.symbol.bounds (k.at v).dims b y.dims) f

module _ (k : Setting) (sound : Sound k) (s : Store) where
  -- all that was read lies in the regions; where an answer was given, what they certainly say was read
  pub record Seen {A : Type 0} (rs : List Region) (a : Answer A) (es : List Event) : Type 0 where
    pub holds : Holds k rs s es
    pub sharp : IfGave a (λ x. Sharp k rs s es)

  pub seen_nothing : {A : Type 0} (a : Answer A) → Seen [] a []
  seen_nothing a = record { holds = holds_none k [] s; sharp = go a }
    where
      go : {A : Type 0} (a : Answer A) → IfGave a (λ x. Sharp k [] s [])
      go (Gave x) = sharp_none (scene k) (elements_at k) (numbers_of s) (λ a. accessed a [])
      go (Broke b) = tt

  pub seen_broke : {A : Type 0} (rs : List Region) (b : Break) (es : List Event) → Holds k rs s es → Seen {A = A} rs (Broke b) es
  seen_broke rs b es h = record { holds = h; sharp = tt }

  pub seen_gave : {A : Type 0} (rs : List Region) (x : A) (es : List Event) → Holds k rs s es → Sharp k rs s es → Seen rs (Gave x) es
  seen_gave rs x es h g = record { holds = h; sharp = g }

  -- a unit is read
  one_read : (u : ℕ) (c : Content) (r : Region) → r.kind ≡ Read → LiesIn (scene k) (elements_at k r.variable) r (numbers_of s) u → Holds k (r ∷ []) s (Reads u c ∷ [])
  one_read u c r e l Read x h = subst (λ z. LiesInSet (scene k) (elements_at k) Read (r ∷ []) (numbers_of s) z) (same (nat_eq u x) refl h.is_so) (set_one (scene k) (elements_at k) Read (numbers_of s) u r e l)
    where
      same : (b : Bool) → nat_eq u x ≡ b → (b || false) ≡ true → u ≡ x
      same true q i = nat_same u x q
      same false q i = absurd (true≢false (sym i))
  one_read u c r e l Write x h = absurd (true≢false (sym h.is_so))
  one_read u c r e l In x h = absurd (true≢false (sym h.is_so))
  one_read u c r e l Out x h = absurd (true≢false (sym h.is_so))

  was_read : (u : ℕ) (c : Content) → accessed Read (Reads u c ∷ []) u ≡ true
  was_read u c = or_left (nat_eq u u) false (nat_eq_same u)

  -- after what was read before
  pub seen_later : {A B : Type 0} (rs : List Region) (x : A) (es : List Event) → Seen rs (Gave x) es → (b : Answer B) → Seen rs b (es ++ [])
  seen_later rs x es h b = subst (λ t. Seen rs b t) (sym (trace_nil es)) (record { holds = h.holds; sharp = go b })
    where
      go : {B : Type 0} (b : Answer B) → IfGave b (λ y. Sharp k rs s es)
      go (Gave y) = h.sharp
      go (Broke c) = tt

  given_looks : {A : Type 0} (rs : List Region) (x : A) (es : List Event) → Seen rs (Gave x) es → (t : Tag) (o : Option ℤ) → Looked (given t o) s (λ b fs. Seen rs b (es ++ fs))
  given_looks rs x es h t None = seen_later rs x es h (Broke (Faulty Arithmetic))
  given_looks rs x es h t (Some n) = seen_later rs x es h (Gave (content t n))

  typed_looks : (rs : List Region) (es : List Event) → Holds k rs s es → Sharp k rs s es → (t : Tag) (c : Content) (Q : Answer Content → List Event → Type 0) → ((a : Answer Content) → Seen rs a es → Q a []) → Looked (of_type t c) s Q
  typed_looks rs es h g t c Q go = pick (same_tag t c.tag)
    where
      pick : (b : Bool) → Looked (if b then Done c else fault Unset) s Q
      pick true = go (Gave c) (seen_gave rs c es h g)
      pick false = go (Broke (Faulty Unset)) (seen_broke rs (Faulty Unset) es h)

  module _ (solid_at : (x : List ℕ) (v : ℕ) → k.sc.names x ≡ Variable v → k.scalar x ≡ true → 0 < (k.at v).extent) where
    name_looks : (x : List ℕ) → k.scalar x ≡ true → (w : Meant) → k.sc.names x ≡ w → Looked (name_value w k.at) s (Seen (whole k.m Read x))
    name_looks x b (Constant c) e = subst (λ rs. Seen rs (Gave c) []) (sym (sound.constants x c e Read)) (seen_nothing (Gave c))
    name_looks x b Function e = seen_broke (whole k.m Read x) (Faulty Unset) [] (holds_none k (whole k.m Read x) s)
    name_looks x b (Variable v) e =
        let y = sound.variables x v e in
        let flat = flat_scalar k x v y b in
        let solid = solid_at x v e b in
        let u = (k.at v).first in
        subst (λ rs. Looked (read_unit (k.at v).tag (k.at v).first) s (Seen rs)) (sym (named_region k x v y (sound.names_fit.numbers x v e) Read))
        (typed_looks (scalar Read v ∷ []) (Reads u (s u) ∷ [])
        (one_read u (s u) (scalar Read v) refl (scalar_lies k v (stored_by k x v y) flat solid Read (numbers_of s)))
        (sharp_one (scene k) (elements_at k) (numbers_of s) (scalar Read v) (λ a. accessed a (Reads u (s u) ∷ [])) (scalar_sharp k v (stored_by k x v y) flat solid Read (numbers_of s) (accessed Read (Reads u (s u) ∷ [])) (was_read u (s u))))
        (k.at v).tag (s u) (λ a es. Seen (scalar Read v ∷ []) a (Reads u (s u) ∷ es)) (λ a h. h))

    -- the values of subscripts, of which there are some
    abbrev Subs : ExprTrees → Answer (List ℤ) → Type 0
    Subs es a = IfGave a (λ ns. MeanEach k s es ns)

    intrinsic_looks : (rs qs : List Region) (ns : List ℤ) (es : List Event) → qs ≡ [] → Seen rs (Gave ns) es → (f : Option Intrinsic) → Looked (intrinsic_value f ns) s (λ b fs. Seen (rs ++ qs) b (es ++ fs))
    intrinsic_looks rs qs ns es e h f =
        subst (λ q. Looked (intrinsic_value f ns) s (λ b fs. Seen (rs ++ q) b (es ++ fs))) (sym e) (subst (λ q. Looked (intrinsic_value f ns) s (λ b fs. Seen q b (es ++ fs))) (sym (all_nil rs)) (go f))
      where
        all_nil : {A : Type 0} (as' : List A) → as' ++ [] ≡ as'
        all_nil [] = refl
        all_nil (a ∷ as') = ap (λ z. a ∷ z) (all_nil as')

        go : (f : Option Intrinsic) → Looked (intrinsic_value f ns) s (λ b fs. Seen rs b (es ++ fs))
        go None = seen_later rs ns es h (Broke (Faulty Unset))
        go (Some g) = given_looks rs ns es h Int (intrinsic_number g ns)

    element_looks : (x : List ℕ) (fs : ExprTrees) (rs : List Region) (ns : List ℤ) (es : List Event) → is_indexed k.scalar x fs ≡ true → Seen rs (Gave ns) es → MeanEach k s fs ns → (w : Meant) → k.sc.names x ≡ w → Looked (element_value w x k.at ns) s (λ b gs. Seen (rs ++ element k.m Read x fs) b (es ++ gs))
    element_looks x fs rs ns es ix h m (Constant c) q = subst (λ t. Seen {A = Content} (rs ++ element k.m Read x fs) (Broke (Faulty Unset)) t) (sym (trace_nil es)) (seen_broke (rs ++ element k.m Read x fs) (Faulty Unset) es (holds_left k rs (element k.m Read x fs) s es h.holds))
    element_looks x fs rs ns es ix h m Function q = intrinsic_looks rs (element k.m Read x fs) ns es (sound.functions x q Read fs) h (intrinsic_named x)
    element_looks x fs rs ns es ix h m (Variable v) q = found (element_in (k.at v) ns) refl
      where
        y : HasSymbol k x v
        y = sound.variables x v q

        there : (o : ℕ) → element_in (k.at v) ns ≡ Some o → (b : Bool) → has_bounds y.symbol.bounds ≡ b → Looked (read_unit (k.at v).tag ((k.at v).first + o)) s (λ c gs. Seen (rs ++ element k.m Read x fs) c (es ++ gs))
        there o f false b = absurd (bounded k s x v y fs ns o ix m f b)
        there o f true b =
            let u = (k.at v).first + o in
            let r = array_at k.m Read v fs y.symbol.bounds in
            subst (λ qs. Looked (read_unit (k.at v).tag ((k.at v).first + o)) s (λ c gs. Seen (rs ++ qs) c (es ++ gs))) (sym (element_region k x fs v y (sound.names_fit.numbers x v q) b Read))
            (typed_looks (rs ++ r ∷ []) (es ++ Reads u (s u) ∷ [])
            (holds_both k rs (r ∷ []) s es (Reads u (s u) ∷ []) h.holds (one_read u (s u) r refl (element_lies k s v fs y.symbol.bounds ns o y.dims m f (stored_by k x v y) Read)))
            (sharp_both k rs (r ∷ []) s es (Reads u (s u) ∷ []) h.sharp
            (sharp_one (scene k) (elements_at k) (numbers_of s) r (λ a. accessed a (Reads u (s u) ∷ [])) (element_sharp k s v fs y.symbol.bounds ns o y.dims m f (stored_by k x v y) Read (accessed Read (Reads u (s u) ∷ [])) (was_read u (s u)))))
            (k.at v).tag (s u) (λ c gs. Seen (rs ++ r ∷ []) c (es ++ Reads u (s u) ∷ gs)) (λ c g. g))

        found : (o : Option ℕ) → element_in (k.at v) ns ≡ o → Looked (unit_after (k.at v).first o >>= read_unit (k.at v).tag) s (λ b gs. Seen (rs ++ element k.m Read x fs) b (es ++ gs))
        found None f = subst (λ t. Seen {A = Content} (rs ++ element k.m Read x fs) (Broke (Faulty Bounds)) t) (sym (trace_nil es)) (seen_broke (rs ++ element k.m Read x fs) (Faulty Bounds) es (holds_left k rs (element k.m Read x fs) s es h.holds))
        found (Some o) f = there o f (has_bounds y.symbol.bounds) refl

    -- of one and then another
    pub both_looks : {A B : Type 0} (t : Steps A) (rs qs : List Region) (es : List Event) (x : B) → Seen rs (Gave x) es → Looked t s (Seen qs) → Looked t s (λ a fs. Seen (rs ++ qs) a (es ++ fs))
    both_looks t rs qs es x h l = looked_more t s (Seen qs) (λ a fs. Seen (rs ++ qs) a (es ++ fs)) (λ a fs g. record { holds = holds_both k rs qs s es fs h.holds g.holds; sharp = go a fs g.sharp }) l
      where
        go : {A : Type 0} (a : Answer A) (fs : List Event) → IfGave a (λ y. Sharp k qs s fs) → IfGave a (λ y. Sharp k (rs ++ qs) s (es ++ fs))
        go (Gave y) fs g = sharp_both k rs qs s es fs h.sharp g
        go (Broke b) fs g = tt

    pub broken : {A B : Type 0} (rs qs : List Region) (b : Break) (es : List Event) → Seen {A = A} rs (Broke b) es → Seen {A = B} (rs ++ qs) (Broke b) es
    broken rs qs b es h = seen_broke (rs ++ qs) b es (holds_left k rs qs s es h.holds)

    -- with what the value is known to be
    means_of : (e : ExprTree) → Looked (value e k.sc.names k.at) s (Seen (reads e k.m)) → Looked (value e k.sc.names k.at) s (λ a es. Seen (reads e k.m) a es × IfGave a (λ c. Means (scene k) (affine_of k.m.scalars e) (numbers_of s) c.number))
    means_of e l =
        looked_with (value e k.sc.names k.at) s [] (Seen (reads e k.m)) (λ c z j. Means (scene k) (affine_of k.m.scalars e) (numbers_of s) c.number) l
        (value_leads k.sc.names k.m.scalars (is_cell k.m.tracked) k.at s [] sound.names_fit.agrees e (λ c z j. Means (scene k) (affine_of k.m.scalars e) (numbers_of s) c.number) (λ c h. h.1))

    mutual
      pub value_looks : (e : ExprTree) → is_plain k.scalar e ≡ true → Looked (value e k.sc.names k.at) s (Seen (reads e k.m))
      value_looks (tree.int n) p = seen_nothing (Gave (content Int n))
      value_looks (tree.log b) p = seen_nothing (Gave (content Log (truth b)))
      value_looks (tree.name x) p = name_looks x p (k.sc.names x) refl
      value_looks (tree.element x es) p =
          let q = and_parts (is_indexed k.scalar x es) (are_plain k.scalar es) p in
          looked_then (values es k.sc.names k.at) (element_value (k.sc.names x) x k.at) s (λ a fs. Seen (all_reads es k.m) a fs × Subs es a) (Seen (all_reads es k.m ++ element k.m Read x es))
          (values_look es q.1)
          (λ ns fs h. element_looks x es (all_reads es k.m) ns fs q.0 h.0 h.1 (k.sc.names x) refl)
          (λ b fs h. broken (all_reads es k.m) (element k.m Read x es) b fs h.0)
      value_looks (tree.paren e) p = value_looks e p
      value_looks (tree.unary o e) p =
          looked_then (value e k.sc.names k.at) (λ c. given (unary_tag o) (unary_number o c.number)) s (Seen (reads e k.m)) (Seen (reads e k.m)) (value_looks e p)
          (λ c es h. given_looks (reads e k.m) c es h (unary_tag o) (unary_number o c.number))
          (λ b es h. seen_broke (reads e k.m) b es h.holds)
      value_looks (tree.binary o a b) p =
          let q = and_parts (is_plain k.scalar a) (is_plain k.scalar b) p in
          looked_then (value a k.sc.names k.at) (λ c. value b k.sc.names k.at >>= λ d. given (binary_tag o) (binary_number o c.number d.number)) s (Seen (reads a k.m)) (Seen (reads a k.m ++ reads b k.m)) (value_looks a q.0)
          (λ c es h. looked_then (value b k.sc.names k.at) (λ d. given (binary_tag o) (binary_number o c.number d.number)) s (λ x fs. Seen (reads a k.m ++ reads b k.m) x (es ++ fs)) (λ x fs. Seen (reads a k.m ++ reads b k.m) x (es ++ fs))
          (both_looks (value b k.sc.names k.at) (reads a k.m) (reads b k.m) es c h (value_looks b q.1))
          (λ d fs g. looked_more (given (binary_tag o) (binary_number o c.number d.number)) s (λ x gs. Seen (reads a k.m ++ reads b k.m) x ((es ++ fs) ++ gs)) (λ x gs. Seen (reads a k.m ++ reads b k.m) x (es ++ (fs ++ gs))) (λ x gs y. subst (λ t. Seen (reads a k.m ++ reads b k.m) x t) (trace_assoc es fs gs) y)
          (given_looks (reads a k.m ++ reads b k.m) d (es ++ fs) g (binary_tag o) (binary_number o c.number d.number)))
          (λ z fs g. seen_broke (reads a k.m ++ reads b k.m) z (es ++ fs) g.holds))
          (λ z es h. broken (reads a k.m) (reads b k.m) z es h)
      value_looks (tree.chars x) p = seen_broke [] (Faulty Unset) [] (holds_none k [] s)

      pub values_look : (es : ExprTrees) → are_plain k.scalar es ≡ true → Looked (values es k.sc.names k.at) s (λ a fs. Seen (all_reads es k.m) a fs × Subs es a)
      values_look tree.no_exprs p = (seen_nothing (Gave []), tt)
      values_look (tree.more_exprs e es) p =
          let q = and_parts (is_plain k.scalar e) (are_plain k.scalar es) p in
          let rs = reads e k.m in
          let qs = all_reads es k.m in
          looked_then (value e k.sc.names k.at) (λ c. values es k.sc.names k.at >>= λ ns. Done (c.number ∷ ns)) s (λ a fs. Seen (reads e k.m) a fs × IfGave a (λ c. Means (scene k) (affine_of k.m.scalars e) (numbers_of s) c.number)) (λ a fs. Seen (reads e k.m ++ all_reads es k.m) a fs × Subs (tree.more_exprs e es) a)
          (means_of e (value_looks e q.0))
          (λ c fs h. looked_then (values es k.sc.names k.at) (λ ns. Done (c.number ∷ ns)) s (λ a gs. Seen (all_reads es k.m) a gs × Subs es a) (λ a gs. Seen (reads e k.m ++ all_reads es k.m) a (fs ++ gs) × Subs (tree.more_exprs e es) a)
          (values_look es q.1)
          (λ ns gs g. (subst (λ t. Seen (reads e k.m ++ all_reads es k.m) (Gave (c.number ∷ ns)) (fs ++ t)) (sym (trace_nil gs)) (seen_gave (reads e k.m ++ all_reads es k.m) (c.number ∷ ns) (fs ++ gs) (holds_both k (reads e k.m) (all_reads es k.m) s fs gs h.0.holds g.0.holds) (sharp_both k (reads e k.m) (all_reads es k.m) s fs gs h.0.sharp g.0.sharp)), (h.1, g.1)))
          (λ b gs g. (seen_broke (reads e k.m ++ all_reads es k.m) b (fs ++ gs) (holds_both k (reads e k.m) (all_reads es k.m) s fs gs h.0.holds g.0.holds), tt)))
          (λ b fs h. (broken (reads e k.m) (all_reads es k.m) b fs h.0, tt))

    pub value_means : (e : ExprTree) → is_plain k.scalar e ≡ true → Looked (value e k.sc.names k.at) s (λ a es. Seen (reads e k.m) a es × IfGave a (λ c. Means (scene k) (affine_of k.m.scalars e) (numbers_of s) c.number))
    value_means e p = means_of e (value_looks e p)

    shown_looks : (e : ExprTree) → is_plain k.scalar e ≡ true → Looked (shown e k.sc.names k.at) s (Seen (reads e k.m))
    shown_looks (tree.chars x) p = seen_nothing (Gave (Text x))
    shown_looks (tree.int n) p = seen_nothing (Gave (Value (content Int n)))
    shown_looks (tree.log b) p = seen_nothing (Gave (Value (content Log (truth b))))
    shown_looks (tree.name x) p = shown_value (tree.name x) p
      where
        shown_value : (e : ExprTree) → is_plain k.scalar e ≡ true → Looked (value e k.sc.names k.at >>= λ c. Done (Value c)) s (Seen (reads e k.m))
        shown_value e p = looked_then (value e k.sc.names k.at) (λ c. Done (Value c)) s (Seen (reads e k.m)) (Seen (reads e k.m)) (value_looks e p) (λ c es h. seen_later (reads e k.m) c es h (Gave (Value c))) (λ b es h. seen_broke (reads e k.m) b es h.holds)
    shown_looks (tree.element x es) p = looked_then (value (tree.element x es) k.sc.names k.at) (λ c. Done (Value c)) s (Seen (reads (tree.element x es) k.m)) (Seen (reads (tree.element x es) k.m)) (value_looks (tree.element x es) p) (λ c fs h. seen_later (reads (tree.element x es) k.m) c fs h (Gave (Value c))) (λ b fs h. seen_broke (reads (tree.element x es) k.m) b fs h.holds)
    shown_looks (tree.paren e) p = looked_then (value e k.sc.names k.at) (λ c. Done (Value c)) s (Seen (reads e k.m)) (Seen (reads e k.m)) (value_looks e p) (λ c fs h. seen_later (reads e k.m) c fs h (Gave (Value c))) (λ b fs h. seen_broke (reads e k.m) b fs h.holds)
    shown_looks (tree.unary o e) p = looked_then (value (tree.unary o e) k.sc.names k.at) (λ c. Done (Value c)) s (Seen (reads e k.m)) (Seen (reads e k.m)) (value_looks (tree.unary o e) p) (λ c fs h. seen_later (reads e k.m) c fs h (Gave (Value c))) (λ b fs h. seen_broke (reads e k.m) b fs h.holds)
    shown_looks (tree.binary o a b) p = looked_then (value (tree.binary o a b) k.sc.names k.at) (λ c. Done (Value c)) s (Seen (reads (tree.binary o a b) k.m)) (Seen (reads (tree.binary o a b) k.m)) (value_looks (tree.binary o a b) p) (λ c fs h. seen_later (reads (tree.binary o a b) k.m) c fs h (Gave (Value c))) (λ z fs h. seen_broke (reads (tree.binary o a b) k.m) z fs h.holds)

    pub all_shown_look : (es : ExprTrees) → are_plain k.scalar es ≡ true → Looked (all_shown es k.sc.names k.at) s (Seen (all_reads es k.m))
    all_shown_look tree.no_exprs p = seen_nothing (Gave [])
    all_shown_look (tree.more_exprs e es) p =
        let q = and_parts (is_plain k.scalar e) (are_plain k.scalar es) p in
        looked_then (shown e k.sc.names k.at) (λ x. all_shown es k.sc.names k.at >>= λ xs. Done (x ∷ xs)) s (Seen (reads e k.m)) (Seen (reads e k.m ++ all_reads es k.m)) (shown_looks e q.0)
        (λ x fs h. looked_then (all_shown es k.sc.names k.at) (λ xs. Done (x ∷ xs)) s (Seen (all_reads es k.m)) (λ a gs. Seen (reads e k.m ++ all_reads es k.m) a (fs ++ gs)) (all_shown_look es q.1)
        (λ xs gs g. subst (λ t. Seen (reads e k.m ++ all_reads es k.m) (Gave (x ∷ xs)) (fs ++ t)) (sym (trace_nil gs)) (seen_gave (reads e k.m ++ all_reads es k.m) (x ∷ xs) (fs ++ gs) (holds_both k (reads e k.m) (all_reads es k.m) s fs gs h.holds g.holds) (sharp_both k (reads e k.m) (all_reads es k.m) s fs gs h.sharp g.sharp)))
        (λ b gs g. seen_broke (reads e k.m ++ all_reads es k.m) b (fs ++ gs) (holds_both k (reads e k.m) (all_reads es k.m) s fs gs h.holds g.holds)))
        (λ b fs h. broken (reads e k.m) (all_reads es k.m) b fs h)
