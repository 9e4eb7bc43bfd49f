-- What evaluating actuals leads to.
use Rattle.std.proofs.Common.{◌≡◌, ℕ, zero, suc, ◌+◌, ◌-◌, ◌≤◌, ◌<◌, List, [], ◌∷◌, Option, Some, None, Bool, true, false, refl, sym, ap, ◌∙◌, subst, arith, ℤ, nat_eq}
use Rattle.std.specs.Prelude.{if◌then◌else◌, slice_get, nat_le, nat_lt, ◌&&◌}
use Rattle.std.proofs.lemmas.Bool.{and_parts, and_from}
use Rattle.std.proofs.lemmas.Bool.Decides.{nat_tests}
use Rattle.std.proofs.lemmas.Int.{ints}
use Rattle.f77_ast.specs.Trees.{ExprTree, ExprTrees}
use Rattle.f77_ast.specs.Trees as tree
use Rattle.f77_ast.specs.Store.{Content, Store, put}
use Rattle.f77_ast.specs.Places.{Meant, Constant, Variable, Function, scalar_place, element_in}
use Rattle.f77_ast.specs.Steps.{◌>>=◌}
use Rattle.f77_ast.specs.Values.{value, values, name_value}
use Rattle.f77_ast.specs.Calls.{Actual, passed_by_reference, stored, rest_after, name_actual, element_actual, actual, actuals}
use Rattle.f77_ast.proofs.StepLaws.{Leads, leads_then}
use Rattle.f77_ast.specs.declared.constant.Constant.{Constant as Known}
use Rattle.affine_forms.specs.declared.affine.Affine.{Affine}
use Rattle.affine_forms.specs.Forms.{affine_of, cell_form}
use Rattle.affine_forms.specs.Claims.{unit_in, numbers_of, content_of}
use Rattle.affine_forms.proofs.ValueLaws.{value_leads}
use Rattle.preconditions.specs.transformer_algebra.Claims.{Means}
use Rattle.preconditions.specs.call_translation.Actuals.{named_cell, actual_at}
use Rattle.laws_analyses.proofs.Calls.TableLaws.{nothing_some}
use Rattle.laws_analyses.specs.Calls.Actuals.{Activation, scene, Fits, Offers, value_of, cell_of, part_of, AreOffered}
use Rattle.fx_lists.proofs.Numbers.{same_is as nat_same, nat_eq_same}
use Rattle.fx_lists.proofs.Options.{some_is as some_same}

put_same : (s : Store) (u : ℕ) (c : Content) → put s u c u ≡ c
put_same s u c = rw (nat_eq_same u) refl

put_other : (s : Store) (u : ℕ) (c : Content) (v : ℕ) → (u ≡ v → ⊥) → put s u c v ≡ s v
put_other s u c v f = go (nat_eq v u) refl
  where
    go : (b : Bool) → nat_eq v u ≡ b → (if b then c else s v) ≡ s v
    go true e = absurd (f (sym (nat_same v u e)))
    go false e = refl

-- what is left of a place from an element on lies within it
rest_within : (f n k u : ℕ) → (nat_le (f + k) u && nat_lt u ((f + k) + (n - k))) ≡ true → (nat_le f u && nat_lt u (f + n)) ≡ true
rest_within f n k u h =
    let q = and_parts (nat_le (f + k) u) (nat_lt u ((f + k) + (n - k))) h in
    let a : f + k ≤ u = grind (arith, nat_tests, q.0) in
    let b : u < (f + k) + (n - k) = grind (arith, nat_tests, q.1) in
    let c : f ≤ u = omega (arith, a) in
    let d : u < f + n = omega (arith, a, b) in
    and_from (nat_le f u) (nat_lt u (f + n)) (grind (arith, nat_tests, c)) (grind (arith, nat_tests, d))

module _ (a : Activation) (fits : Fits a) where
  -- ---- numbers of tracked cells alone count

  pub means_same : (f : Option Affine) (x y : ℕ → ℤ) (n : ℤ) → ((c : ℕ) → a.tracked c ≡ true → y (unit_in a.at c) ≡ x (unit_in a.at c)) → Means (scene a) f x n → Means (scene a) f y n
  means_same None x y n e m = tt
  means_same (Some f) x y n e m = λ p st. m p (λ c t. st c t ∙ e c t)

  -- ---- one actual

  module _ (n : ℕ) (s : Store) (i : List Content) (Q : Actual → Store → List Content → Type 0) where
    abbrev Goes : ExprTree → Type 0
    Goes e = (x : Actual) (z : Store) → ((u : ℕ) → (a.own n ≡ u → ⊥) → z u ≡ s u) → Offers a e n s z x → Q x z i

    stored_leads : (e : ExprTree) (c : Content) → Means (scene a) (affine_of a.table.scalars e) (numbers_of s) c.number → named_cell a.table.scalars e ≡ None → Goes e → Leads (stored (a.own n) c) s i Q
    stored_leads e c m f go = go (record { place = scalar_place (a.own n) c.tag; own = true }) (put s (a.own n) c) (λ u g. put_other s (a.own n) c u g) (value_of c refl (put_same s (a.own n) c) m f)

    by_value : (e : ExprTree) → named_cell a.table.scalars e ≡ None → Goes e → Leads (value e a.names a.at >>= stored (a.own n)) s i Q
    by_value e f go =
        leads_then (value e a.names a.at) (stored (a.own n)) s i Q
        (value_leads a.names a.table.scalars a.tracked a.at s i fits.agrees e _ (λ c h. stored_leads e c h.1 f go))

    values_lead : (es : ExprTrees) (R : List ℤ → Store → List Content → Type 0) → ((ns : List ℤ) → R ns s i) → Leads (values es a.names a.at) s i R
    values_lead tree.no_exprs R go = go []
    values_lead (tree.more_exprs e es) R go =
        leads_then (value e a.names a.at) _ s i R
        (value_leads a.names a.table.scalars a.tracked a.at s i fits.agrees e _ (λ c h. leads_then (values es a.names a.at) _ s i R (values_lead es _ (λ ns. go (c.number ∷ ns)))))

    no_function : (x : List ℕ) (v : ℕ) → a.names x ≡ Variable v → a.names x ≡ Function → ⊥
    no_function x v e f = let k : Variable v ≡ Function = sym e ∙ f in cc

    -- a name that stands for a variable is taken for no constant
    no_constant : (x : List ℕ) (v : ℕ) → a.names x ≡ Variable v → a.table.scalars.value x ≡ None
    no_constant x v e = go (a.table.scalars.value x) refl
      where
        go : (o : Option Known) → a.table.scalars.value x ≡ o → o ≡ None
        go None q = refl
        go (Some d) q = let r : Constant (content_of d) ≡ Variable v = sym (fits.agrees.constants x d q (no_function x v e)) ∙ e in let k : ⊥ = cc in absurd k

    name_form_is : (x : List ℕ) (v : ℕ) (o : Option ℕ) → a.names x ≡ Variable v → a.table.scalars.cell x ≡ o → affine_of a.table.scalars (tree.name x) ≡ cell_form o
    name_form_is x v o e q = let r = no_constant x v e in rw (r, q) refl

    constant_leads : (x : List ℕ) (c : Content) → a.names x ≡ Constant c → Goes (tree.name x) → Leads (stored (a.own n) c) s i Q
    constant_leads x c e go =
        stored_leads (tree.name x) c
        (subst (λ (m : Meant). Leads (name_value m a.at) s i (λ d z j. Means (scene a) (affine_of a.table.scalars (tree.name x)) (numbers_of s) d.number)) e
        (value_leads a.names a.table.scalars a.tracked a.at s i fits.agrees (tree.name x) (λ d z j. Means (scene a) (affine_of a.table.scalars (tree.name x)) (numbers_of s) d.number) (λ d h. h.1)))
        (no_cell (a.table.scalars.cell x) refl) go
      where
        no_cell : (o : Option ℕ) → a.table.scalars.cell x ≡ o → o ≡ None
        no_cell None q = refl
        no_cell (Some v) q = let r : Variable v ≡ Constant c = sym ((fits.agrees.cells x v q).0 (λ f. let k : Constant c ≡ Function = sym e ∙ f in cc)) ∙ e in let k : ⊥ = cc in absurd k

    cell_means : (v : ℕ) → a.tracked v ≡ true → Means (scene a) (cell_form (Some v)) (numbers_of s) (numbers_of s (a.at v).first)
    cell_means v t p st = let e = st v t in omega (arith, ints, e)

    variable_leads : (x : List ℕ) (v : ℕ) → a.names x ≡ Variable v → Goes (tree.name x) → Q (passed_by_reference (a.at v)) s i
    variable_leads x v e go = pick (a.table.scalars.cell x) refl
      where
        pick : (o : Option ℕ) → a.table.scalars.cell x ≡ o → Q (passed_by_reference (a.at v)) s i
        pick None q = go (passed_by_reference (a.at v)) s (λ u g. refl) (part_of x v e refl (λ u h. h) (name_form_is x v None e q) q)
        pick (Some c) q =
            let r = fits.agrees.cells x c q in
            let named = r.0 (no_function x v e) in
            let same : Variable c ≡ Variable v = sym named ∙ e in
            let k : c ≡ v = cc in
            go (passed_by_reference (a.at v)) s (λ u g. refl)
            (cell_of x c named q r.1 (ap (λ j. passed_by_reference (a.at j)) (sym k)) (subst (λ (f : Option Affine). Means (scene a) f (numbers_of s) (numbers_of s (a.at c).first)) (sym (name_form_is x v (Some c) e q)) (cell_means c r.1)))

    name_leads : (x : List ℕ) (m : Meant) → a.names x ≡ m → Goes (tree.name x) → Leads (name_actual m a.at (a.own n)) s i Q
    name_leads x (Constant c) e go = constant_leads x c e go
    name_leads x (Variable v) e go = variable_leads x v e go
    name_leads x Function e go = tt

    rest_leads : (x : List ℕ) (es : ExprTrees) (v : ℕ) (o : Option ℕ) → a.names x ≡ Variable v → Goes (tree.element x es) → Leads (rest_after (a.at v) o) s i Q
    rest_leads x es v None e go = tt
    rest_leads x es v (Some k) e go =
        go (passed_by_reference (record { first = (a.at v).first + k; extent = (a.at v).extent - k; tag = (a.at v).tag; dims = [] })) s (λ u g. refl)
        (part_of x v e refl (λ u h. rest_within (a.at v).first (a.at v).extent k u h) refl refl)

    element_leads : (x : List ℕ) (es : ExprTrees) (m : Meant) → a.names x ≡ m → Goes (tree.element x es) → Leads (element_actual m (tree.element x es) es a.names a.at (a.own n)) s i Q
    element_leads x es (Constant c) e go = tt
    element_leads x es (Variable v) e go =
        leads_then (values es a.names a.at) _ s i Q (values_lead es _ (λ ns. rest_leads x es v (element_in (a.at v) ns) e go))
    element_leads x es Function e go = by_value (tree.element x es) refl go

    actual_leads : (e : ExprTree) → Goes e → Leads (actual e a.names a.at (a.own n)) s i Q
    actual_leads (tree.name x) go = name_leads x (a.names x) refl go
    actual_leads (tree.element x es) go = element_leads x es (a.names x) refl go
    actual_leads (tree.int m) go = by_value (tree.int m) refl go
    actual_leads (tree.log b) go = by_value (tree.log b) refl go
    actual_leads (tree.paren e) go = by_value (tree.paren e) refl go
    actual_leads (tree.unary o e) go = by_value (tree.unary o e) refl go
    actual_leads (tree.binary o e f) go = by_value (tree.binary o e f) refl go
    actual_leads (tree.chars x) go = tt

  -- ---- one after the other

  -- what an actual offers stays when further ones are evaluated
  offers_on : (e : ExprTree) (n : ℕ) (s z w : Store) (x : Actual) → w (a.own n) ≡ z (a.own n) → Offers a e n s z x → Offers a e n s w x
  offers_on e n s z w x q (value_of c f g m h) = value_of c f (q ∙ g) m h
  offers_on e n s z w x q (cell_of y v f g t h m) = cell_of y v f g t h m
  offers_on e n s z w x q (part_of y v f g h k l) = part_of y v f g h k l

  -- and what comes later offers as much from the store before
  offers_before : (e : ExprTree) (n : ℕ) (s y z : Store) (x : Actual) → ((c : ℕ) → a.tracked c ≡ true → y (unit_in a.at c) ≡ s (unit_in a.at c)) → Offers a e n y z x → Offers a e n s z x
  offers_before e n s y z x q (value_of c f g m h) = value_of c f g (means_same (affine_of a.table.scalars e) (numbers_of y) (numbers_of s) c.number (λ v t. ap (λ (b : Content). b.number) (sym (q v t))) m) h
  offers_before e n s y z x q (cell_of w v f g t h m) =
      cell_of w v f g t h
      (means_same (affine_of a.table.scalars e) (numbers_of y) (numbers_of s) (numbers_of s (a.at v).first) (λ c u. ap (λ (b : Content). b.number) (sym (q c u)))
      (subst (λ (b : Content). Means (scene a) (affine_of a.table.scalars e) (numbers_of y) b.number) (q v t) m))
  offers_before e n s y z x q (part_of w v f g h k l) = part_of w v f g h k l

  none_offered : (n : ℕ) (s : Store) → AreOffered a tree.no_exprs n s s []
  none_offered n s = record { others = λ u f. refl; each = λ i e h. nothing_some e h }

  more_offered : (e : ExprTree) (es : ExprTrees) (n : ℕ) (s y z : Store) (x : Actual) (xs : List Actual) → ((u : ℕ) → (a.own n ≡ u → ⊥) → y u ≡ s u) → Offers a e n s y x → AreOffered a es (suc n) y z xs → AreOffered a (tree.more_exprs e es) n s z (x ∷ xs)
  more_offered e es n s y z x xs f o r = record { others = λ u g. r.others u (λ i l q. g i (omega (arith, l)) q) ∙ f u (λ q. g n (omega arith) q); each = each }
    where
      own_stays : z (a.own n) ≡ y (a.own n)
      own_stays = r.others (a.own n) (λ i l q. let k = fits.apart i n q in absurd (omega (arith, l, k)))

      each : (i : ℕ) (d : ExprTree) → actual_at (tree.more_exprs e es) i ≡ Some d → (b : Actual) × (slice_get (x ∷ xs) i ≡ Some b) × Offers a d (n + i) s z b
      each zero d h =
          let k : n ≡ n + 0 = omega arith in
          (x, refl, subst (λ j. Offers a d j s z x) k (subst (λ (c : ExprTree). Offers a c n s z x) (some_same e d h) (offers_on e n s y z x own_stays o)))
      each (suc i) d h =
          let q = r.each i d h in
          let k : suc n + i ≡ n + suc i = omega arith in
          (q.0, q.1, subst (λ j. Offers a d j s z q.0) k (offers_before d (suc n + i) s y z q.0 (λ c t. f (unit_in a.at c) (λ g. fits.cells n c t g)) q.2))

  actuals_lead : (es : ExprTrees) (n : ℕ) (s : Store) (i : List Content) (Q : List Actual → Store → List Content → Type 0) → ((xs : List Actual) (z : Store) → AreOffered a es n s z xs → Q xs z i) → Leads (actuals es n a.names a.at a.own) s i Q
  actuals_lead tree.no_exprs n s i Q go = go [] s (none_offered n s)
  actuals_lead (tree.more_exprs e es) n s i Q go =
      leads_then (actual e a.names a.at (a.own n)) _ s i Q
      (actual_leads n s i _ e (λ x y f o. leads_then (actuals es (suc n) a.names a.at a.own) _ y i Q (actuals_lead es (suc n) y i _ (λ xs z r. go (x ∷ xs) z (more_offered e es n s y z x xs f o r)))))

  pub offer_actuals : (es : ExprTrees) (s : Store) (i : List Content) → Leads (actuals es 0 a.names a.at a.own) s i (λ xs z j. (j ≡ i) × AreOffered a es 0 s z xs)
  offer_actuals es s i = actuals_lead es 0 s i (λ xs z j. (j ≡ i) × AreOffered a es 0 s z xs) (λ xs z r. (refl, r))
