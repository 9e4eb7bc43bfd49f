-- The actuals of a CALL: what evaluating them reads, and what they offer.
use Rattle.std.proofs.Common.{◌≡◌, ℕ, suc, ◌+◌, ◌-◌, ◌<◌, ℤ, List, [], ◌∷◌, ◌++◌, Option, Some, None, Bool, true, false, refl, sym, ap, ◌∙◌, subst, nat_eq}
use Rattle.std.specs.Prelude.{if◌then◌else◌}
use Rattle.std.proofs.lemmas.Bool.{and_parts}
use Rattle.f77_ast.specs.Trees.{ExprTree, ExprTrees}
use Rattle.f77_ast.specs.Trees as tree
use Rattle.f77_ast.specs.Store.{Content, Store, put}
use Rattle.f77_ast.specs.Faults.{Unset, Bounds}
use Rattle.f77_ast.specs.Steps.{Break, Faulty, ◌>>=◌, Done}
use Rattle.f77_ast.specs.Runs.{Event, Answer, Gave, Broke}
use Rattle.f77_ast.specs.Places.{Meant, Constant, Variable, Function, scalar_place, element_in}
use Rattle.f77_ast.specs.Values.{value, values}
use Rattle.f77_ast.specs.Calls.{Actual, passed_by_reference, stored, rest_after, name_actual, element_actual, actual, actuals}
use Rattle.affine_forms.specs.Scalars.{is_cell}
use Rattle.affine_forms.specs.Forms.{affine_of}
use Rattle.affine_forms.specs.Claims.{unit_in, numbers_of}
use Rattle.in_out_regions.specs.region_sets.declared.region.Access.TheVariants.{Read}
use Rattle.in_out_regions.specs.region_sets.declared.region.Region.{Region}
use Rattle.in_out_regions.specs.array_regions.References.{element}
use Rattle.in_out_regions.specs.array_regions.Reads.{reads, all_reads}
use Rattle.in_out_regions.specs.array_regions.Calls.{actual_reads, actuals_reads}
use Rattle.laws_analyses.specs.Regions.Settings.{Setting, scene, Sound, is_indexed, is_plain, are_plain, actual_plain, actuals_plain}
use Rattle.laws_analyses.specs.Regions.Shown.{Holds, Sharp}
use Rattle.laws_analyses.proofs.Regions.Traces.{trace_nil}
use Rattle.laws_analyses.proofs.Regions.Looks.{IfGave}
use Rattle.laws_analyses.proofs.Regions.Holding.{holds_none, holds_left, holds_both, sharp_both}
use Rattle.laws_analyses.proofs.Regions.Elements.{MeanEach}
use Rattle.laws_analyses.proofs.Regions.Expressions.{Seen, seen_nothing, seen_broke, value_looks, values_look}
use Rattle.laws_analyses.proofs.Regions.Agreeing.{means_alike, holds_alike, alike_sharp}
use Rattle.laws_analyses.proofs.Regions.Rules.{Post}
use Rattle.laws_analyses.proofs.Regions.Storing.{Holding, holding_then, looked_holding}
use Rattle.fx_lists.proofs.Numbers.{same_is as nat_same}

-- own: the units of expressions, none of which is that of a cell; z: the store where the CALL begins
module _ (k : Setting) (sound : Sound k) (solid : (x : List ℕ) (v : ℕ) → k.sc.names x ≡ Variable v → k.scalar x ≡ true → 0 < (k.at v).extent) (own : ℕ → ℕ) (apart : (i c : ℕ) → is_cell k.m.tracked c ≡ true → own i ≡ unit_in k.at c → ⊥) (z : Store) where
  -- the tracked cells have the numbers that they had there
  abbrev pub Same : Store → Type 0
  Same s = (c : ℕ) → is_cell k.m.tracked c ≡ true → numbers_of z (unit_in k.at c) ≡ numbers_of s (unit_in k.at c)

  -- it is neither a variable nor an element of one
  abbrev pub IsValue : ExprTree → Type 0
  IsValue (tree.int n) = Unit {0}
  IsValue (tree.log b) = Unit {0}
  IsValue (tree.name x) = (c : Content) × (k.sc.names x ≡ Constant c)
  IsValue (tree.element x es) = k.sc.names x ≡ Function
  IsValue (tree.paren e) = Unit {0}
  IsValue (tree.unary o e) = Unit {0}
  IsValue (tree.binary o a b) = Unit {0}
  IsValue (tree.chars x) = Unit {0}

  -- what the actual at a place offers
  pub data ActualIs (e : ExprTree) (n : ℕ) (x : Actual) : Type 0 where
    as_variable : (y : List ℕ) (v : ℕ) → e ≡ tree.name y → k.sc.names y ≡ Variable v → x ≡ passed_by_reference (k.at v) → ActualIs e n x
    -- an element, and the rest of its array
    as_element : (y : List ℕ) (v : ℕ) (fs : ExprTrees) (ns : List ℤ) (o : ℕ) → e ≡ tree.element y fs → is_indexed k.scalar y fs ≡ true → k.sc.names y ≡ Variable v → MeanEach k z fs ns → element_in (k.at v) ns ≡ Some o →
        x ≡ passed_by_reference (record { first = (k.at v).first + o; extent = (k.at v).extent - o; tag = (k.at v).tag; dims = [] }) → ActualIs e n x
    as_value : IsValue e → x.place.first ≡ own n → x.place.extent ≡ 1 → x.own ≡ true → ActualIs e n x

  -- each of them, from the n-th place on
  abbrev pub AllAre : ExprTrees → ℕ → List Actual → Type 0
  AllAre tree.no_exprs n [] = Unit {0}
  AllAre tree.no_exprs n (x ∷ xs) = ⊥
  AllAre (tree.more_exprs e es) n [] = ⊥
  AllAre (tree.more_exprs e es) n (x ∷ xs) = ActualIs e n x × AllAre es (suc n) xs

  -- ---- stores

  put_same : (s : Store) (n : ℕ) (c : Content) → Same s → Same (put s (own n) c)
  put_same s n c h d t = h d t ∙ ap (λ (q : Content). q.number) (sym (off (nat_eq (unit_in k.at d) (own n)) refl))
    where
      off : (b : Bool) → nat_eq (unit_in k.at d) (own n) ≡ b → (if b then c else s (unit_in k.at d)) ≡ s (unit_in k.at d)
      off true e = absurd (apart n d t (sym (nat_same (unit_in k.at d) (own n) e)))
      off false e = refl

  -- what is seen at another store
  seen_same : {A : Type 0} (s : Store) → Same s → (rs : List Region) (a : Answer A) (es : List Event) → Seen k sound s rs a es → Seen k sound z rs a es
  seen_same {A = A} s h rs a es r = record { holds = holds_alike k s z h rs es r.holds; sharp = go a r.sharp }
    where
      go : (a : Answer A) → IfGave a (λ x. Sharp k rs s es) → IfGave a (λ x. Sharp k rs z es)
      go (Gave x) g = alike_sharp k s z h rs es g
      go (Broke b) g = tt

  each_same : (s : Store) → Same s → (fs : ExprTrees) (ns : List ℤ) → MeanEach k s fs ns → MeanEach k z fs ns
  each_same s h tree.no_exprs [] m = tt
  each_same s h tree.no_exprs (n ∷ ns) m = absurd m
  each_same s h (tree.more_exprs e es) [] m = absurd m
  each_same s h (tree.more_exprs e es) (n ∷ ns) m = (means_alike (scene k) (numbers_of s) (numbers_of z) h (affine_of k.m.scalars e) n m.0, each_same s h es ns m.1)

  -- ---- one actual

  abbrev pub Offers : List Region → ExprTree → ℕ → Post Actual
  Offers rs e n a w fs = Same w × Seen k sound z rs a fs × IfGave a (λ x. ActualIs e n x)

  -- a value is put into a unit of its own
  stored_holds : (rs : List Region) (e : ExprTree) (n : ℕ) (s : Store) (es : List Event) → Same s → IsValue e → Holds k rs z es → Sharp k rs z es → (c : Content) → Holding (stored (own n) c) s (λ a w fs. Offers rs e n a w (es ++ fs))
  stored_holds rs e n s es h v g w c =
      subst (λ ts. Offers rs e n (Gave (record { place = scalar_place (own n) c.tag; own = true })) (put s (own n) c) ts) (sym (trace_nil es))
      (put_same s n c h, record { holds = g; sharp = w }, as_value v refl refl refl)

  value_holds : (e : ExprTree) (n : ℕ) (s : Store) → Same s → is_plain k.scalar e ≡ true → IsValue e → Holding (value e k.sc.names k.at >>= stored (own n)) s (Offers (reads e k.m) e n)
  value_holds e n s h p v =
      holding_then (value e k.sc.names k.at) (stored (own n)) s (λ a w fs. Same w × Seen k sound z (reads e k.m) a fs) (Offers (reads e k.m) e n)
      (looked_holding (value e k.sc.names k.at) s (Seen k sound s (reads e k.m)) (λ a w fs. Same w × Seen k sound z (reads e k.m) a fs) (λ a fs g. (h, seen_same s h (reads e k.m) a fs g)) (value_looks k sound s solid e p))
      (λ c w fs g. stored_holds (reads e k.m) e n w fs g.0 v g.1.holds g.1.sharp c)
      (λ b w fs g. (g.0, record { holds = g.1.holds; sharp = tt }, tt))

  broken_off : (rs : List Region) (e : ExprTree) (n : ℕ) (s : Store) → Same s → (b : Break) (es : List Event) → Holds k rs z es → Offers rs e n (Broke b) s (es ++ [])
  broken_off rs e n s h b es g = subst (λ ts. Offers rs e n (Broke b) s ts) (sym (trace_nil es)) (h, record { holds = g; sharp = tt }, tt)

  name_holds : (x : List ℕ) (n : ℕ) (s : Store) → Same s → (w : Meant) → k.sc.names x ≡ w → Holding (name_actual w k.at (own n)) s (Offers [] (tree.name x) n)
  name_holds x n s h (Constant c) e = stored_holds [] (tree.name x) n s [] h (c, e) (holds_none k [] z) (λ r i. elim i [ ]) c
  name_holds x n s h (Variable v) e = (h, seen_nothing k sound z (Gave (passed_by_reference (k.at v))), as_variable x v refl e refl)
  name_holds x n s h Function e = (h, seen_broke k sound z [] (Faulty Unset) [] (holds_none k [] z), tt)

  rest_holds : (x : List ℕ) (fs : ExprTrees) (v n : ℕ) (s : Store) (es : List Event) → Same s → is_indexed k.scalar x fs ≡ true → k.sc.names x ≡ Variable v → Holds k (all_reads fs k.m) z es → Sharp k (all_reads fs k.m) z es → (ns : List ℤ) → MeanEach k z fs ns → (o : Option ℕ) → element_in (k.at v) ns ≡ o → Holding (rest_after (k.at v) o) s (λ a w gs. Offers (all_reads fs k.m) (tree.element x fs) n a w (es ++ gs))
  rest_holds x fs v n s es h ix e g sh ns m None q = broken_off (all_reads fs k.m) (tree.element x fs) n s h (Faulty Bounds) es g
  rest_holds x fs v n s es h ix e g sh ns m (Some o) q =
      subst (λ ts. Offers (all_reads fs k.m) (tree.element x fs) n (Gave (passed_by_reference (record { first = (k.at v).first + o; extent = (k.at v).extent - o; tag = (k.at v).tag; dims = [] }))) s ts) (sym (trace_nil es))
      (h, record { holds = g; sharp = sh }, as_element x v fs ns o refl ix e m q refl)

  nil_right : {T : Type 0} (xs : List T) → xs ++ [] ≡ xs
  nil_right [] = refl
  nil_right (x ∷ xs) = ap (λ y. x ∷ y) (nil_right xs)

  element_holds : (x : List ℕ) (fs : ExprTrees) (n : ℕ) (s : Store) → Same s → is_plain k.scalar (tree.element x fs) ≡ true → (w : Meant) → k.sc.names x ≡ w → Holding (element_actual w (tree.element x fs) fs k.sc.names k.at (own n)) s (Offers (all_reads fs k.m) (tree.element x fs) n)
  element_holds x fs n s h p (Constant c) e = (h, seen_broke k sound z (all_reads fs k.m) (Faulty Unset) [] (holds_none k (all_reads fs k.m) z), tt)
  element_holds x fs n s h p (Variable v) e =
      let q = and_parts (is_indexed k.scalar x fs) (are_plain k.scalar fs) p in
      holding_then (values fs k.sc.names k.at) (λ ns. rest_after (k.at v) (element_in (k.at v) ns)) s (λ a w es. Same w × Seen k sound z (all_reads fs k.m) a es × IfGave a (λ ns. MeanEach k z fs ns)) (Offers (all_reads fs k.m) (tree.element x fs) n)
      (looked_holding (values fs k.sc.names k.at) s (λ a es. Seen k sound s (all_reads fs k.m) a es × IfGave a (λ ns. MeanEach k s fs ns)) (λ a w es. Same w × Seen k sound z (all_reads fs k.m) a es × IfGave a (λ ns. MeanEach k z fs ns))
      (λ a es g. (h, seen_same s h (all_reads fs k.m) a es g.0, means a g.1)) (values_look k sound s solid fs q.1))
      (λ ns w es g. rest_holds x fs v n w es g.0 q.0 e g.1.holds g.1.sharp ns g.2 (element_in (k.at v) ns) refl)
      (λ b w es g. (g.0, record { holds = g.1.holds; sharp = tt }, tt))
    where
      means : (a : Answer (List ℤ)) → IfGave a (λ ns. MeanEach k s fs ns) → IfGave a (λ ns. MeanEach k z fs ns)
      means (Gave ns) m = each_same s h fs ns m
      means (Broke b) m = tt
  element_holds x fs n s h p Function e =
      subst (λ rs. Holding (value (tree.element x fs) k.sc.names k.at >>= stored (own n)) s (Offers rs (tree.element x fs) n)) (ap (λ qs. all_reads fs k.m ++ qs) (sound.functions x e Read fs) ∙ nil_right (all_reads fs k.m))
      (value_holds (tree.element x fs) n s h p e)

  actual_holds : (e : ExprTree) (n : ℕ) (s : Store) → Same s → actual_plain k.scalar e ≡ true → Holding (actual e k.sc.names k.at (own n)) s (Offers (actual_reads e k.m) e n)
  actual_holds (tree.int m) n s h p = value_holds (tree.int m) n s h p tt
  actual_holds (tree.log b) n s h p = value_holds (tree.log b) n s h p tt
  actual_holds (tree.name x) n s h p = name_holds x n s h (k.sc.names x) refl
  actual_holds (tree.element x fs) n s h p = element_holds x fs n s h p (k.sc.names x) refl
  actual_holds (tree.paren e) n s h p = value_holds (tree.paren e) n s h p tt
  actual_holds (tree.unary o e) n s h p = value_holds (tree.unary o e) n s h p tt
  actual_holds (tree.binary o a b) n s h p = value_holds (tree.binary o a b) n s h p tt
  actual_holds (tree.chars x) n s h p = (h, seen_broke k sound z [] (Faulty Unset) [] (holds_none k [] z), tt)

  -- ---- all of them

  abbrev pub AllOffer : ExprTrees → ℕ → Post (List Actual)
  AllOffer es n a w fs = Same w × Seen k sound z (actuals_reads es k.m) a fs × IfGave a (λ xs. AllAre es n xs)

  pub actuals_hold : (es : ExprTrees) (n : ℕ) (s : Store) → Same s → actuals_plain k.scalar es ≡ true → Holding (actuals es n k.sc.names k.at own) s (AllOffer es n)
  actuals_hold tree.no_exprs n s h p = (h, seen_nothing k sound z (Gave []), tt)
  actuals_hold (tree.more_exprs e es) n s h p =
      let q = and_parts (actual_plain k.scalar e) (actuals_plain k.scalar es) p in
      holding_then (actual e k.sc.names k.at (own n)) (λ x. actuals es (suc n) k.sc.names k.at own >>= λ xs. Done (x ∷ xs)) s (Offers (actual_reads e k.m) e n) (AllOffer (tree.more_exprs e es) n) (actual_holds e n s h q.0)
      (λ x w fs g. holding_then (actuals es (suc n) k.sc.names k.at own) (λ xs. Done (x ∷ xs)) w (AllOffer es (suc n)) (λ a y gs. AllOffer (tree.more_exprs e es) n a y (fs ++ gs)) (actuals_hold es (suc n) w g.0 q.1)
      (λ xs y gs i. subst (λ ts. AllOffer (tree.more_exprs e es) n (Gave (x ∷ xs)) y (fs ++ ts)) (sym (trace_nil gs)) (
        i.0,
        record {
          holds = holds_both k (actual_reads e k.m) (actuals_reads es k.m) z fs gs g.1.holds i.1.holds;
          sharp = sharp_both k (actual_reads e k.m) (actuals_reads es k.m) z fs gs g.1.sharp i.1.sharp;
        },
        (g.2, i.2),
      ))
      (λ b y gs i. (i.0, record { holds = holds_both k (actual_reads e k.m) (actuals_reads es k.m) z fs gs g.1.holds i.1.holds; sharp = tt }, tt)))
      (λ b w fs g. (g.0, record { holds = holds_left k (actual_reads e k.m) (actuals_reads es k.m) z fs g.1.holds; sharp = tt }, tt))
