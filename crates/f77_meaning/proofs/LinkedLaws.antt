-- What linking says of CALLs and of blocks.
use Rattle.std.proofs.Common.{◌≡◌, ℕ, zero, suc, ◌+◌, Bool, true, false, not, List, [], ◌∷◌, length, map, Option, Some, None, Result, Ok, refl, sym, ap, ◌∙◌, subst, arith}
use Rattle.std.specs.Prelude.{if◌then◌else◌, nat_eq, bytes_eq, slice_get}
use Rattle.std.proofs.lemmas.Bool.{eqb-true, not-true, and_parts}
use Rattle.std.proofs.lemmas.Slice.Eq.{bytes_eq-Decides}
use Rattle.f77_ast.specs.DeclTrees.{ParsedTree}
use Rattle.f77_ast.specs.Symbols.{SymbolTree, number_from}
use Rattle.call_graph.specs.declared.graph.Graph.{Graph}
use Rattle.call_graph.specs.declared.calls.Called.{Called}
use Rattle.fx_lists.specs.declared.code.Code.{Code}
use Rattle.fx_lists.specs.declared.code.Code.TheVariants.{NoSuchModule, ArgumentCount, ArgumentType}
use Rattle.call_graph.specs.declared.refusal.Fault.{Fault}
use Rattle.call_graph.specs.Faults.{unless}
use Rattle.tracked_cells.specs.Standing.{has_bounds}
use Rattle.call_graph.specs.declared.actuals.Offer.{Offer}
use Rattle.call_graph.specs.declared.actuals.Offer.TheVariants.{Array, Element, Variable, Value}
use Rattle.call_graph.specs.Actuals.{all_fit, fits, is_scalar_of, suits}
use Rattle.call_graph.specs.Calls.{calls_of, all_calls}
use Rattle.call_graph.specs.Callees.{takes_call, against, against_found, against_at, call_cause, or_later, first_in, unfit_at, unfit_from}
use Rattle.call_graph.specs.Modules.{too_many, names_of}
use Rattle.call_graph.specs.Blocks.{blocks_of}
use Rattle.call_graph.specs.Links.{unfit, cyclic, graph_of, module_fault, acyclic_of, joined_of, named_of, link_of}
use Rattle.f77_meaning.specs.Modules.{known_of}
use Rattle.f77_meaning.specs.Laws.{FitsCall, LinkedCallsFit, LinkedHaveBlocks, ActualsSuit}
use Rattle.f77_ast.proofs.NumberedNames.{number_from-least}

-- ---- links

pub passed : {A : Type 0} (o : Option Fault) (r : Result A Fault) (g : A) → unless o r ≡ Ok g → (o ≡ None) × (r ≡ Ok g)
passed None r g e = (refl, e)
passed (Some f) r g e = cc

joined : (ps : List ParsedTree) (sss : List (List SymbolTree)) (g : Graph) → link_of ps sss ≡ Ok g → joined_of ps sss ≡ Ok g
joined ps sss g e = (passed (module_fault ps) (joined_of ps sss) g (passed (too_many ps) (named_of ps sss) g e).1).1

all_unfit : (ps : List ParsedTree) (sss : List (List SymbolTree)) (g : Graph) → link_of ps sss ≡ Ok g → unfit ps sss ≡ None
all_unfit ps sss g e = (passed (unfit ps sss) (acyclic_of ps sss) g (joined ps sss g e)).0

pub is_graph : (ps : List ParsedTree) (sss : List (List SymbolTree)) (g : Graph) → link_of ps sss ≡ Ok g → graph_of ps sss ≡ g
is_graph ps sss g e =
    let h = (passed (cyclic ps sss) (Ok (graph_of ps sss)) g (passed (unfit ps sss) (acyclic_of ps sss) g (joined ps sss g e)).1).1 in
    cc

-- ---- one CALL

none_at : (k : ℕ) (p : ParsedTree) (o : Option (ℕ × Code)) (later : Option Fault) → unfit_at k p o later ≡ None → (o ≡ None) × (later ≡ None)
none_at k p None later e = (refl, e)
none_at k p (Some (n, cause)) later e = cc

none_later : (n : ℕ) (o : Option Code) (later : Option (ℕ × Code)) → or_later n o later ≡ None → (o ≡ None) × (later ≡ None)
none_later n None later e = (refl, e)
none_later n (Some cause) later e = cc

first_none : (cs : List Called) (names : List (List ℕ)) (ps : List ParsedTree) (sss : List (List SymbolTree)) (i : ℕ) (c : Called) → first_in cs names ps sss ≡ None → slice_get cs i ≡ Some c → call_cause c names ps sss ≡ None
first_none [] names ps sss i c e h = cc
first_none (d ∷ cs) names ps sss zero c e h =
    let same : d ≡ c = cc in
    subst (λ x. call_cause x names ps sss ≡ None) same (none_later d.at (call_cause d names ps sss) (first_in cs names ps sss) e).0
first_none (d ∷ cs) names ps sss (suc i) c e h = first_none cs names ps sss i c (none_later d.at (call_cause d names ps sss) (first_in cs names ps sss) e).1 h

module_none : (n : ℕ) (qs : List ParsedTree) (tts : List (List SymbolTree)) (names : List (List ℕ)) (ps : List ParsedTree) (sss : List (List SymbolTree)) (k : ℕ) (p : ParsedTree) (ss : List SymbolTree) →
    unfit_from n qs (all_calls qs tts) names ps sss ≡ None → slice_get qs k ≡ Some p → slice_get tts k ≡ Some ss → first_in (calls_of p ss) names ps sss ≡ None
module_none n [] tts names ps sss k p ss e f h = cc
module_none n (q ∷ qs) [] names ps sss k p ss e f h = cc
module_none n (q ∷ qs) (t ∷ tts) names ps sss zero p ss e f h =
    let one : q ≡ p = cc in
    let two : t ≡ ss = cc in
    let r = (none_at n q (first_in (calls_of q t) names ps sss) (unfit_from (suc n) qs (all_calls qs tts) names ps sss) e).0 in
    subst (λ x. first_in (calls_of x ss) names ps sss ≡ None) one (subst (λ y. first_in (calls_of q y) names ps sss ≡ None) two r)
module_none n (q ∷ qs) (t ∷ tts) names ps sss (suc k) p ss e f h =
    module_none (suc n) qs tts names ps sss k p ss (none_at n q (first_in (calls_of q t) names ps sss) (unfit_from (suc n) qs (all_calls qs tts) names ps sss) e).1 f h

-- the module at the place of a name has the name
place_named : (n k : ℕ) (ps : List ParsedTree) (x : List ℕ) (p : ParsedTree) → number_from n (names_of ps) x ≡ Some (n + k) → slice_get ps k ≡ Some p → p.module_read.name ≡ x
place_named n k [] x p e h = cc
place_named n zero (q ∷ ps) x p e h = go (bytes_eq x q.module_read.name) refl e
  where
    go : (b : Bool) → bytes_eq x q.module_read.name ≡ b → (if b then Some n else number_from (suc n) (names_of ps) x) ≡ Some (n + zero) → p.module_read.name ≡ x
    go true t i = let same : q ≡ p = cc in ap (λ z. z.module_read.name) (sym same) ∙ sym ((bytes_eq-Decides x q.module_read.name).0 t)
    go false t i = let low = number_from-least (suc n) (n + zero) (names_of ps) x i in absurd (omega (arith, low))
place_named n (suc k) (q ∷ ps) x p e h = go (bytes_eq x q.module_read.name) e (place_named (suc n) k ps x p)
  where
    go : (b : Bool) → (if b then Some n else number_from (suc n) (names_of ps) x) ≡ Some (n + suc k) → (number_from (suc n) (names_of ps) x ≡ Some (suc n + k) → slice_get ps k ≡ Some p → p.module_read.name ≡ x) → p.module_read.name ≡ x
    go true i ih = let z : n ≡ n + suc k = cc in absurd (omega (arith, z))
    go false i ih = let next : n + suc k ≡ suc n + k = omega arith in ih (i ∙ ap Some next) h

module _ (ps : List ParsedTree) (sss : List (List SymbolTree)) (c : Called) where
  of_against : (j : ℕ) (q : ParsedTree) (t : List SymbolTree) → slice_get ps j ≡ Some q → slice_get sss j ≡ Some t → q.module_read.name ≡ c.callee → against c q.module_read t ≡ None → FitsCall ps sss c
  of_against j q t is has named e = main q.module_read.main refl e
    where
      types : (b : Bool) → all_fit c.actuals t ≡ b → q.module_read.main ≡ false → length c.actuals ≡ length q.module_read.dummies → (if b then None else Some ArgumentType) ≡ None → FitsCall ps sss c
      types true f m n i = record { at = j; callee = q; table = t; is_module = is; has_table = has; is_named = named; is_subroutine = m; count = n; types = f }
      types false f m n i = cc

      counts : (b : Bool) → nat_eq (length c.actuals) (length q.module_read.dummies) ≡ b → q.module_read.main ≡ false → (if not b then Some ArgumentCount else if all_fit c.actuals t then None else Some ArgumentType) ≡ None → FitsCall ps sss c
      counts true n m i = types (all_fit c.actuals t) refl m (eqb-true (length c.actuals) (length q.module_read.dummies) n) i
      counts false n m i = cc

      form : (b : Bool) → q.module_read.main ≡ false → (if not b then Some NoSuchModule else if not (nat_eq (length c.actuals) (length q.module_read.dummies)) then Some ArgumentCount else if all_fit c.actuals t then None else Some ArgumentType) ≡ None → FitsCall ps sss c
      form true m i = counts (nat_eq (length c.actuals) (length q.module_read.dummies)) refl m i
      form false m i = cc

      main : (b : Bool) → q.module_read.main ≡ b
          → (if b then Some NoSuchModule else if not (takes_call c.at q.module_read.function) then Some NoSuchModule else if not (nat_eq (length c.actuals) (length q.module_read.dummies)) then Some ArgumentCount else if all_fit c.actuals t then None else Some ArgumentType) ≡ None → FitsCall ps sss c
      main true m i = cc
      main false m i = form (takes_call c.at q.module_read.function) m i

  of_found : (j : ℕ) (o : Option ParsedTree) (r : Option (List SymbolTree)) → slice_get ps j ≡ o → slice_get sss j ≡ r → ((q : ParsedTree) → slice_get ps j ≡ Some q → q.module_read.name ≡ c.callee) → against_found c o r ≡ None → FitsCall ps sss c
  of_found j None r a b n e = cc
  of_found j (Some q) None a b n e = cc
  of_found j (Some q) (Some t) a b n e = of_against j q t a b (n q a) e

  of_place : (o : Option ℕ) → number_from 0 (names_of ps) c.callee ≡ o → against_at c o ps sss ≡ None → FitsCall ps sss c
  of_place None n e = cc
  of_place (Some j) n e = of_found j (slice_get ps j) (slice_get sss j) refl refl (λ q h. place_named 0 j ps c.callee q (n ∙ (let z : j ≡ 0 + j = omega arith in ap Some z)) h) e

pub linked_calls_fit : LinkedCallsFit
linked_calls_fit ps sss g e k p ss is has i c at =
    let none = module_none 0 ps sss (names_of ps) ps sss k p ss (all_unfit ps sss g e) is has in
    of_place ps sss c (number_from 0 (names_of ps) c.callee) refl (first_none (calls_of p ss) (names_of ps) ps sss i c none at)

tables_of : (ps : List ParsedTree) (sss : List (List SymbolTree)) → length ps ≡ length sss → map (λ k. k.symbols) (known_of ps sss) ≡ sss
tables_of [] [] e = refl
tables_of [] (ss ∷ sss) e = absurd (omega (arith, e))
tables_of (p ∷ ps) [] e = absurd (omega (arith, e))
tables_of (p ∷ ps) (ss ∷ sss) e = ap (λ t. ss ∷ t) (tables_of ps sss (omega (arith, e)))

pub linked_have_blocks : LinkedHaveBlocks
linked_have_blocks ps sss g n e = ap (λ x. x.blocks) (sym (is_graph ps sss g e)) ∙ ap blocks_of (sym (tables_of ps sss n))

-- ---- actuals

no_array : (o : Offer) (b : Bool) → suits o b ≡ true → (o ≡ Variable → b ≡ false) × (o ≡ Value → b ≡ false)
no_array Array b h = (λ e. cc, λ e. cc)
no_array Element b h = (λ e. cc, λ e. cc)
no_array Variable b h = (λ e. not-true b h, λ e. not-true b h)
no_array Value b h = (λ e. not-true b h, λ e. not-true b h)

pub actuals_suit : ActualsSuit
actuals_suit [] ss f i a d e h = cc
actuals_suit (b ∷ as') [] f i a d e h = cc
actuals_suit (b ∷ as') (s ∷ ss) f zero a d e h =
    let p = and_parts (fits b s) (all_fit as' ss) f in
    let q = and_parts (is_scalar_of b.scalar s.scalar) (suits b.offer (has_bounds s.bounds)) p.0 in
    let one : b ≡ a = cc in
    let two : s ≡ d = cc in
    let n = no_array b.offer (has_bounds s.bounds) q.1 in
    subst (λ x. (is_scalar_of x.scalar d.scalar ≡ true) × (suits x.offer (has_bounds d.bounds) ≡ true) × (x.offer ≡ Variable → has_bounds d.bounds ≡ false) × (x.offer ≡ Value → has_bounds d.bounds ≡ false)) one
    (subst (λ y. (is_scalar_of b.scalar y.scalar ≡ true) × (suits b.offer (has_bounds y.bounds) ≡ true) × (b.offer ≡ Variable → has_bounds y.bounds ≡ false) × (b.offer ≡ Value → has_bounds y.bounds ≡ false)) two (q.0, q.1, n.0, n.1))
actuals_suit (b ∷ as') (s ∷ ss) f (suc i) a d e h = actuals_suit as' ss (and_parts (fits b s) (all_fit as' ss) f).1 i a d e h
