-- What the IN regions of a list keep of those of its statements.
use Rattle.std.proofs.Common.{◌≡◌, ℕ, suc, zero, ℤ, List, [], ◌∷◌, ◌++◌, Bool, true, false, Option, Some, None, refl, sym, ap, subst, ◌∙◌, ⊎_elim}
use Rattle.std.specs.Prelude.{◌&&◌, not, if◌then◌else◌, option_map, option_to_list, MatchOption}
use Rattle.std.specs.declared.cmp.Ordering.TheVariants.{Equal}
use Rattle.std.specs.Ordering.{is_eq}
use Rattle.std.proofs.lemmas.Bool.{and_parts}
use Rattle.affine_systems.specs.declared.row.Var.TheVariants.{Phi}
use Rattle.affine_systems.specs.declared.row.System.{System}
use Rattle.affine_systems.specs.Points.{Point}
use Rattle.f77_ast.specs.Trees.{StmtTrees}
use Rattle.f77_ast.specs.declared.variable.Variable.{Variable}
use Rattle.f77_ast.specs.Symbols.{SymbolTree}
use Rattle.f77_ast.specs.Variables.{variable_cmp, same_variable}
use Rattle.array_regions.specs.transformer_algebra.declared.transformer.Transformer.{Transformer}
use Rattle.array_regions.specs.transformer_algebra.Laws.{In, here, there}
use Rattle.array_regions.specs.transformer_algebra.Claims.{Scene, AtStart}
use Rattle.array_regions.specs.transformers.Jumps.{unstructured}
use Rattle.array_regions.specs.transformers.Lists.{list_at}
use Rattle.array_regions.specs.region_sets.declared.region.Access.{Access}
use Rattle.array_regions.specs.region_sets.declared.region.Region.{Region}
use Rattle.array_regions.specs.region_sets.Regions.{any_weak, remade}
use Rattle.array_regions.specs.region_sets.Trim.{trim}
use Rattle.array_regions.specs.region_sets.Compose.{compose}
use Rattle.array_regions.specs.region_sets.Subtract.{are_places, less_all, unless_empty, all_left, all_apart, subtract}
use Rattle.array_regions.specs.region_sets.Sets.{unite_all}
use Rattle.array_regions.specs.region_sets.Lists.{all_composed, in_any_order, numbers}
use Rattle.hull_projection.specs.Unions.{HoldsSome}
use Rattle.array_regions.specs.region_sets.Claims.{Elements, LiesIn, Accessed, IsSharp, Places, AreByOrder, LiesInSet, IsSharpSet}
use Rattle.array_regions.specs.region_sets.Laws.{HasAnyStep, NoneExact}
use Rattle.array_regions.proofs.RegionSets.SubtractLaws.{subtract_keeps, subtract_exact}
use Rattle.array_regions.proofs.RegionSets.PieceLaws.{compose_moves, compose_sharp}
use Rattle.array_regions.proofs.RegionSets.SetLaws.{gathered_units, gathered_sharp}
use Rattle.array_regions.proofs.RegionSets.StepLaws.{in_either, in_map, of_map, any_units, any_inexact, at_true as if_true, at_false as if_false}
use Rattle.in_out_regions.specs.Writes.{write_of, is_overlapped}
use Rattle.in_out_regions.specs.Lists.{less_write, all_unwritten, unless_overlapped, all_unless_overlapped, before_rest, ins_in_order, list_in}
use Rattle.in_out_regions.specs.ListClaims.{AreWritten, arrived, past, HasFirstSteps, IsDescribed, IsFirstOf, Executed, no_more, before_more, HasFirstStepsAlone, HasListIn, HasListInAlone}
use Rattle.in_out_regions.proofs.WriteLaws.{write_found, write_same}
use Rattle.fx_lists.proofs.Booleans.{not_true, clash as clashes}
use Rattle.f77_ast.proofs.SameLaws.{cmp_to_same, same_itself, cmp_if}
use Rattle.array_regions.proofs.TransformerAlgebra.Members.{in_left, in_right}

-- ---- what is left of a region

-- of the variable and the kind of another
record IsAlike (r q : Region) : Type 0 where
  variable : q.variable ≡ r.variable
  kind : q.kind ≡ r.kind

abbrev AreAlike : Region → Option Region → Type 0
AreAlike r o = (q : Region) → o ≡ Some q → IsAlike r q

subtract_alike : (r w : Region) → AreAlike r (subtract r w)
subtract_alike r w = go (w.exact && are_places w.pieces)
  where
    some : (e : Bool) (ss : List System) → AreAlike r (Some (remade r e ss))
    some e ss q h = let same : remade r e ss ≡ q = cc in subst (IsAlike r) same (record { variable = refl; kind = refl })

    left : (e : Bool) (ss : List System) → AreAlike r (unless_empty r e ss)
    left e [] q h = cc
    left e (s ∷ ss) q h = some e (s ∷ ss) q h

    go : (b : Bool) → AreAlike r (if b then all_left r (less_all r.pieces w.pieces) else Some (remade r (r.exact && all_apart r.pieces w.pieces) r.pieces))
    go true = let ss = less_all r.pieces w.pieces in left (r.exact && (trim ss).exact) (trim ss).pieces
    go false = some (r.exact && all_apart r.pieces w.pieces) r.pieces

-- the one of an option is one of its list
pub in_option : (o : Option Region) (q : Region) → o ≡ Some q → In q (option_to_list o)
in_option None q e = cc
in_option (Some r) q e = let same : r ≡ q = cc in subst (λ (z : Region). In z (r ∷ [])) same here

-- each of the list is the one of the option
pub option_in : (o : Option Region) (q : Region) → In q (option_to_list o) → o ≡ Some q
option_in None q i = elim i [ ]
option_in (Some r) q here = refl
option_in (Some r) q (there i) = elim i [ ]

-- a unit stays in what is left, where it is not written
record Stays (m : Scene) (at : Elements) (r : Region) (o : Option Region) (x : ℕ → ℤ) (u : ℕ) : Type 0 where
  region : Region
  is_it : o ≡ Some region
  alike : IsAlike r region
  lies : LiesIn m at region x u

module _ (m : Scene) (at : Places) (by_order : AreByOrder at) (x : ℕ → ℤ) where
  stays : (r : Region) (o : Option Region) (u : ℕ) → AreAlike r o → MatchOption o ⊥ (λ q. LiesIn m (at r.variable) q x u) → Stays m (at r.variable) r o x u
  stays r None u a h = absurd h
  stays r (Some q) u a h = record { region = q; is_it = refl; alike = a q refl; lies = h }

  less_stays : (ws : List Region) (written : ℕ → Bool) (u : ℕ) → AreWritten m at ws x written → written u ≡ false → (r : Region) → LiesIn m (at r.variable) r x u → Stays m (at r.variable) r (less_write (write_of r.variable ws) r) x u
  less_stays ws written u sharp off r l = go (write_of r.variable ws) refl
    where
      go : (o : Option Region) → write_of r.variable ws ≡ o → Stays m (at r.variable) r (less_write o r) x u
      go None e = record { region = r; is_it = refl; alike = record { variable = refl; kind = refl }; lies = l }
      go (Some w) e =
          let f = write_found r.variable ws w e in
          let s : IsSharp m (at r.variable) w x written = subst (λ (a : Elements). IsSharp m a w x written) (sym (by_order r.variable w.variable f.order)) (sharp w f.is_one f.kind) in
          stays r (subtract r w) u (subtract_alike r w) (subtract_keeps r w m (at r.variable) x written s u off l)

  unwritten_units : (ws : List Region) (written : ℕ → Bool) (k : Access) (u : ℕ) → AreWritten m at ws x written → written u ≡ false → (rs : List Region) → LiesInSet m at k rs x u → LiesInSet m at k (all_unwritten ws rs) x u
  unwritten_units ws written k u sharp off rs l = go rs l.region l.is_one l.kind l.lies
    where
      go : (rs : List Region) (r : Region) → In r rs → r.kind ≡ k → LiesIn m (at r.variable) r x u → LiesInSet m at k (all_unwritten ws rs) x u
      go [] r i e h = elim i [ ]
      go (q ∷ qs) r here e h =
          let s = less_stays ws written u sharp off r h in
          let one = option_to_list (less_write (write_of r.variable ws) r) in
          record {
            region = s.region;
            is_one = in_left s.region one (all_unwritten ws qs) (in_option (less_write (write_of r.variable ws) r) s.region s.is_it);
            kind = s.alike.kind ∙ e;
            lies = subst (λ (v : Variable). LiesIn m (at v) s.region x u) (sym s.alike.variable) s.lies;
          }
      go (q ∷ qs) r (there i) e h =
          let s = go qs r i e h in
          record { region = s.region; is_one = in_right s.region (option_to_list (less_write (write_of q.variable ws) q)) (all_unwritten ws qs) s.is_one; kind = s.kind; lies = s.lies }

  overlap_units : (ss : List SymbolTree) (ws : List Region) (k : Access) (u : ℕ) (rs : List Region) → LiesInSet m at k rs x u → LiesInSet m at k (all_unless_overlapped ss ws rs) x u
  overlap_units ss ws k u rs l =
      let z = l.lies in
      record {
        region = unless_overlapped ss ws l.region;
        is_one = in_map (unless_overlapped ss ws) l.region rs l.is_one;
        kind = l.kind;
        lies = record { phi = z.phi; there = z.there; described = z.described };
      }

  set_first : (ss : List SymbolTree) (is ws : List Region) (t : Transformer) (rest : List Region) (k : Access) (u : ℕ) → LiesInSet m at k (is ++ all_unwritten ws (unite_all (all_composed t rest))) x u → LiesInSet m at k (before_rest ss is ws t rest) x u
  set_first ss is ws t rest k u l =
      let all = is ++ all_unwritten ws (unite_all (all_composed t rest)) in
      overlap_units ss ws k u (unite_all all) (gathered_units all m at by_order k x u l)

-- ---- in order

pub order_units : (ss : List SymbolTree) (t : ℕ → Transformer) (f g : ℕ → List Region) (ns : List ℕ) → HasFirstSteps t f g ns (ins_in_order ss t f g ns)
order_units ss t f g [] m at o k u n x z r l = elim r [ ]
order_units ss t f g (j ∷ ns) m at o k u n x z arrived l =
    let later = all_unwritten (f j) (unite_all (all_composed (t j) (ins_in_order ss t f g ns))) in
    set_first m at o x ss (g j) (f j) (t j) (ins_in_order ss t f g ns) k u (record { region = l.region; is_one = in_left l.region (g j) later l.is_one; kind = l.kind; lies = l.lies })
order_units ss t f g (j ∷ ns) m at o k u n x z (past {y = y} p r) l =
    let rest = ins_in_order ss t f g ns in
    let w = order_units ss t f g ns m at o k u n y z r l in
    let moved : LiesInSet m at k (all_composed (t j) rest) x u = record {
      region = compose w.region (t j);
      is_one = in_map (λ (q : Region). compose q (t j)) w.region rest w.is_one;
      kind = w.kind;
      lies = compose_moves w.region (t j) m (at w.region.variable) x y p.does u w.lies;
    } in
    let set = unite_all (all_composed (t j) rest) in
    let left = unwritten_units m at o x (f j) p.written k u p.writes p.spares set (gathered_units (all_composed (t j) rest) m at o k x u moved) in
    set_first m at o x ss (g j) (f j) (t j) rest k u (record { region = left.region; is_one = in_right left.region (g j) (all_unwritten (f j) set) left.is_one; kind = left.kind; lies = left.lies })

-- ---- exact ones

-- where is what is left of a region of a list
record From (ws rs : List Region) (q : Region) : Type 0 where
  region : Region
  is_one : In region rs
  left : less_write (write_of region.variable ws) region ≡ Some q

from_one : (ws rs : List Region) (q : Region) → In q (all_unwritten ws rs) → From ws rs q
from_one ws [] q i = elim i [ ]
from_one ws (r ∷ rs) q i =
    ⊎_elim
    (λ j. record { region = r; is_one = here; left = option_in (less_write (write_of r.variable ws) r) q j })
    (λ j. let f = from_one ws rs q j in record { region = f.region; is_one = there f.is_one; left = f.left })
    (in_either q (option_to_list (less_write (write_of r.variable ws) r)) (all_unwritten ws rs) i)

-- a point of it is one of the region, which is exact, and none of what is written
record PointOf (ws : List Region) (r : Region) (p : Point) : Type 0 where
  exact : r.exact ≡ true
  point : HoldsSome p r.pieces
  off : IsDescribed r.variable ws p → ⊥

point_of : (ws : List Region) (r q : Region) (p : Point) → less_write (write_of r.variable ws) r ≡ Some q → q.exact ≡ true → HoldsSome p q.pieces → PointOf ws r p
point_of ws r q p e x h = go (write_of r.variable ws) refl e
  where
    rest : (w : Region) (o : Option Region) → o ≡ Some q → MatchOption o (Unit {0}) (λ z. z.exact ≡ true → (r.exact ≡ true) × ((y : Point) → HoldsSome y z.pieces → HoldsSome y r.pieces × (HoldsSome y w.pieces → ⊥))) →
        (r.exact ≡ true) × HoldsSome p r.pieces × (HoldsSome p w.pieces → ⊥)
    rest w None f k = cc
    rest w (Some z) f k =
        let same : q ≡ z = cc in
        let a = k (subst (λ (y : Region). y.exact ≡ true) same x) in
        let b = a.1 p (subst (λ (y : Region). HoldsSome p y.pieces) same h) in
        (a.0, b.0, b.1)

    go : (o : Option Region) → write_of r.variable ws ≡ o → less_write o r ≡ Some q → PointOf ws r p
    go None f k =
        let same : q ≡ r = cc in
        record {
          exact = subst (λ (y : Region). y.exact ≡ true) same x;
          point = subst (λ (y : Region). HoldsSome p y.pieces) same h;
          off = λ d. subst (λ (o : Option Region). MatchOption o ⊥ (λ w. HoldsSome p w.pieces)) f d;
        }
    go (Some w) f k =
        let a = rest w (subtract r w) k (subtract_exact r w) in
        record { exact = a.0; point = a.1; off = λ d. a.2 (subst (λ (o : Option Region). MatchOption o ⊥ (λ w. HoldsSome p w.pieces)) f d) }

-- elements of a variable as they are, those of others all at one unit, which counts as accessed
abbrev pub tagged : Bool → Option ℕ → Option ℕ
tagged false o = Some 0
tagged true o = option_map suc o

abbrev pub tagged_test : (ℕ → Bool) → ℕ → Bool
tagged_test all zero = true
tagged_test all (suc u) = all u

module _ (at : Places) (by_order : AreByOrder at) (v : Variable) (all : ℕ → Bool) where
  abbrev beside : Places
  beside w phi = tagged (same_variable v w) (at w phi)

  beside_order : AreByOrder beside
  beside_order w z e =
      let tags : is_eq (variable_cmp v w) ≡ is_eq (variable_cmp v z) = ap is_eq (cmp_to_same v w z e) in
      let places = by_order w z e in
      λ i phi. tagged (tags i) (places i phi)

  into : (w : Variable) (phi : ℕ → ℤ) → (same_variable v w ≡ true → Accessed (at w) all phi) → Accessed (beside w) (tagged_test all) phi
  into w phi h = go (same_variable v w) refl
    where
      go : (b : Bool) → same_variable v w ≡ b → Accessed (λ f. tagged b (at w f)) (tagged_test all) phi
      go false e = record { unit = 0; there = refl; is_so = refl }
      go true e = let a = h e in record { unit = suc a.unit; there = ap (option_map suc) a.there; is_so = a.is_so }

  back : (phi : ℕ → ℤ) → Accessed (beside v) (tagged_test all) phi → Accessed (at v) all phi
  back phi a = go (at v phi) refl (subst (λ b. tagged b (at v phi) ≡ Some a.unit) (same_itself v) a.there)
    where
      go : (o : Option ℕ) → at v phi ≡ o → option_map suc o ≡ Some a.unit → Accessed (at v) all phi
      go None e q = cc
      go (Some u) e q = let same : suc u ≡ a.unit = cc in record { unit = u; there = e; is_so = subst (λ n. tagged_test all n ≡ true) (sym same) a.is_so }

less_alike : (o : Option Region) (r : Region) → AreAlike r (less_write o r)
less_alike None r q h = let same : r ≡ q = cc in subst (IsAlike r) same (record { variable = refl; kind = refl })
less_alike (Some w) r q h = subtract_alike r w q h

module _ (ss : List SymbolTree) (m : Scene) (at : Places) (by_order : AreByOrder at) (x y : ℕ → ℤ) (first written later all : ℕ → Bool) (is ws : List Region) (t : Transformer) (rest : List Region)
    (both : IsFirstOf first written later all) (done : Executed ss m at t ws is x y first written) (rest_sharp : IsSharpSet m at rest y (λ k. later)) where
  abbrev composed : List Region
  composed = unite_all (all_composed t rest)

  abbrev parts : List Region
  parts = is ++ all_unwritten ws composed

  composed_sharp : IsSharpSet m at composed x (λ k. later)
  composed_sharp =
      gathered_sharp (all_composed t rest) m at by_order x (λ k. later)
      (of_map (λ (q : Region). compose q t) (λ (r : Region). IsSharp m (at r.variable) r x later) rest (λ q i. compose_sharp q t m (at q.variable) x y done.does later (rest_sharp q i)))

  module _ (v : Variable) (alone : is_overlapped ss ws v ≡ false) where
    -- an element that the rest first reads, of the variable
    late : (r : Region) (p : Point) → AtStart m x p → variable_cmp v r.variable ≡ Equal → PointOf ws r p → Accessed (at r.variable) later (λ k. p (Phi k)) → Accessed (at r.variable) all (λ k. p (Phi k))
    late r p st c po a = go (written a.unit) refl
      where
        go : (b : Bool) → written a.unit ≡ b → Accessed (at r.variable) all (λ k. p (Phi k))
        go false e = record { unit = a.unit; there = a.there; is_so = both.after a.unit e a.is_so }
        go true e =
            let place : Elements → Type 0 = λ z. Accessed z written (λ k. p (Phi k)) in
            let here_too : Accessed (at v) written (λ k. p (Phi k)) = subst place (sym (by_order v r.variable c)) (record { unit = a.unit; there = a.there; is_so = e }) in
            let d = done.writes v alone p st here_too in
            absurd (po.off (subst (λ (o : Option Region). MatchOption o ⊥ (λ w. HoldsSome p w.pieces)) (write_same v r.variable ws c) d))

    of_rest : (q : Region) → In q (all_unwritten ws composed) → q.exact ≡ true → (p : Point) → AtStart m x p → HoldsSome p q.pieces → same_variable v q.variable ≡ true → Accessed (at q.variable) all (λ k. p (Phi k))
    of_rest q i e p st h s =
        let f = from_one ws composed q i in
        let alike = less_alike (write_of f.region.variable ws) f.region q f.left in
        let c = subst (λ (z : Variable). variable_cmp v z ≡ Equal) alike.variable (cmp_if v q.variable s) in
        let po = point_of ws f.region q p f.left e h in
        subst (λ (z : Variable). Accessed (at z) all (λ k. p (Phi k))) (sym alike.variable) (late f.region p st c po (composed_sharp f.region f.is_one po.exact p st po.point))

    of_first : (q : Region) → In q is → q.exact ≡ true → (p : Point) → AtStart m x p → HoldsSome p q.pieces → Accessed (at q.variable) all (λ k. p (Phi k))
    of_first q i e p st h = let a = done.firsts q i e p st h in record { unit = a.unit; there = a.there; is_so = both.at_once a.unit a.is_so }

    parts_sharp : IsSharpSet m (beside at by_order v all) parts x (λ k. tagged_test all)
    parts_sharp q i =
        ⊎_elim
        (λ j e p st h. into at by_order v all q.variable (λ k. p (Phi k)) (λ s. of_first q j e p st h))
        (λ j e p st h. into at by_order v all q.variable (λ k. p (Phi k)) (λ s. of_rest q j e p st h s))
        (in_either q is (all_unwritten ws composed) i)

  one_sharp : (r : Region) → In r (unite_all parts) → IsSharp m (at r.variable) (unless_overlapped ss ws r) x all
  one_sharp r i e p st h =
      let outer = and_parts (r.exact && not (is_overlapped ss ws r.variable)) (not (any_weak r.pieces)) e in
      let inner = and_parts r.exact (not (is_overlapped ss ws r.variable)) outer.0 in
      let alone = not_true (is_overlapped ss ws r.variable) inner.1 in
      back at by_order r.variable all (λ k. p (Phi k))
      (gathered_sharp parts m (beside at by_order r.variable all) (beside_order at by_order r.variable all) x (λ k. tagged_test all) (parts_sharp r.variable alone) r i inner.0 p st h)

  step_sharp : IsSharpSet m at (before_rest ss is ws t rest) x (λ k. all)
  step_sharp = of_map (unless_overlapped ss ws) (λ (r : Region). IsSharp m (at r.variable) r x all) (unite_all parts) one_sharp

pub order_sharp : (ss : List SymbolTree) (t : ℕ → Transformer) (f g : ℕ → List Region) (ns : List ℕ) → HasFirstStepsAlone ss t f g ns (ins_in_order ss t f g ns)
order_sharp ss t f g [] m at o x all no_more = λ r i. elim i [ ]
order_sharp ss t f g (n ∷ ns) m at o x all (before_more {y = y} {first = first} {written = written} {later = later} e j a) =
    step_sharp ss m at o x y first written later all (g n) (f n) (t n) (ins_in_order ss t f g ns) j e (order_sharp ss t f g ns m at o y later a)

-- ---- a list

pub list_sound : (ss : List SymbolTree) (t : ℕ → Transformer) (f g : ℕ → List Region) (whole : Bool) (body : StmtTrees) → HasListIn t f g whole body (list_in ss t f g whole body)
list_sound ss t f g whole body =
    let ns = numbers body in
    let cs = (list_at t whole body).cells in
    record {
      in_order = λ e. subst (HasFirstSteps t f g ns) (sym (if_false (unstructured whole body) (in_any_order cs g ns) (ins_in_order ss t f g ns) e)) (order_units ss t f g ns);
      in_any_order = λ e. subst (HasAnyStep cs g ns) (sym (if_true (unstructured whole body) (in_any_order cs g ns) (ins_in_order ss t f g ns) e)) (any_units cs g ns);
    }

pub list_sharp : (ss : List SymbolTree) (t : ℕ → Transformer) (f g : ℕ → List Region) (whole : Bool) (body : StmtTrees) → HasListInAlone ss t f g whole body (list_in ss t f g whole body)
list_sharp ss t f g whole body =
    let ns = numbers body in
    let cs = (list_at t whole body).cells in
    record {
      in_order = λ e. subst (HasFirstStepsAlone ss t f g ns) (sym (if_false (unstructured whole body) (in_any_order cs g ns) (ins_in_order ss t f g ns) e)) (order_sharp ss t f g ns);
      in_any_order = λ e. subst NoneExact (sym (if_true (unstructured whole body) (in_any_order cs g ns) (ins_in_order ss t f g ns) e)) (any_inexact cs g ns);
    }
