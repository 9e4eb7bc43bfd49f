-- Claims on the executions of a small program, and that they hold: the program of bench/runs/passed_block.f.
use Rattle.std.proofs.Common.{◌≡◌, ℕ, zero, suc, Bool, true, false, List, [], ◌∷◌, None, Some, refl, sym, subst, ℤ, pos, inl, inr}
use Rattle.std.specs.Prelude.{◌⊎◌, codes, bytes_eq, nat_eq, ◌||◌, ◌&&◌, not}
use Rattle.std.proofs.lemmas.Bool.{eqb-true, and_parts}
use Rattle.f77_ast.specs.declared.decl.Scalar.TheVariants as scalar
use Rattle.f77_ast.specs.Plain.{exprs_of}
use Rattle.f77_ast.specs.Trees.{int, name, element, stmt, assign, call, print}
use Rattle.f77_ast.specs.declared.symbol.Place.TheVariants as place
use Rattle.f77_ast.specs.declared.variable.Variable.TheVariants as variable
use Rattle.call_graph.specs.declared.graph.Graph.{Graph}
use Rattle.f77_meaning.specs.Modules.{Known}
use Rattle.f77_meaning.specs.Occurrences.{Occurrence}
use Rattle.f77_meaning.specs.Claims.{PreconditionHolds, TransformerHolds, Regions, no_regions, more_regions, ReadHolds, WriteHolds, InHolds, OutHolds}
use Rattle.f77_meaning.specs.Claimed.{InConformingRuns}
use Rattle.f77_meaning.proofs.CaseWords.{bound, symbol, main_module, subroutine, edge, block_of, graph, stmts_of}

abbrev pub module_p : Known
module_p = main_module (codes "P")
    (stmts_of (stmt 1 None (assign (element (codes "M") (exprs_of ((int (pos 1)) ∷ []))) (int (pos 5))) ∷ stmt 2 None (call (codes "S") (exprs_of ((element (codes "M") (exprs_of ((int (pos 2)) ∷ []))) ∷ []))) ∷ stmt 3 None (print (exprs_of ((element (codes "M") (exprs_of ((int (pos 2)) ∷ []))) ∷ (element (codes "M") (exprs_of ((int (pos 3)) ∷ []))) ∷ []))) ∷ []))
    (symbol (codes "M") scalar.Int (bound (int (pos 1)) (Some (int (pos 3))) ∷ []) (place.Block (codes "B") 0) false [] ∷
    [])

abbrev pub module_s : Known
module_s = subroutine (codes "S") ((codes "V") ∷ [])
    (stmts_of (stmt 1 None (assign (name (codes "K")) (int (pos 7))) ∷ stmt 2 None (assign (element (codes "V") (exprs_of ((int (pos 1)) ∷ []))) (name (codes "K"))) ∷ stmt 3 None (assign (element (codes "V") (exprs_of ((int (pos 2)) ∷ []))) (element (codes "V") (exprs_of ((int (pos 1)) ∷ [])))) ∷ []))
    (symbol (codes "V") scalar.Int (bound (int (pos 1)) (Some (int (pos 2))) ∷ []) (place.Dummy 1) false [] ∷
    symbol (codes "K") scalar.Int [] (place.Local 1 0) false [] ∷
    [])

abbrev modules : List Known
modules = module_p ∷ module_s ∷ []

abbrev links : Graph
links = graph ((codes "S") ∷ (codes "P") ∷ []) (edge (codes "P") 2 (codes "S") ∷ []) (block_of (codes "B") 3 ∷ [])

-- ---- claims

abbrev elements : List ℤ → ℤ → ℤ → Type 0
elements subscripts i j = (subscripts ≡ i ∷ []) ⊎ (subscripts ≡ j ∷ [])

-- elements i and j of symbol 1
abbrev two : ℤ → ℤ → Regions
two i j = more_regions (record { of = variable.Own 1; is_exact = true; describes = λ n subscripts. elements subscripts i j }) no_regions

-- a scalar by its symbol
abbrev scalar_of : ℕ → Regions
scalar_of v = more_regions (record { of = variable.Own v; is_exact = true; describes = λ n subscripts. subscripts ≡ [] }) no_regions

-- in S symbol 2, its local K, is tracked
abbrev tracked : ℕ → Bool
tracked c = nat_eq c 2

abbrev none : ℕ → Bool
none c = false

abbrev main_claim : ℕ → Occurrence → Type 0
main_claim zero x = Unit {0}
main_claim (suc zero) x = Unit {0}
-- CALL S(M(2)) writes M(2) and M(3), which are read afterwards, reads M(2), but not before it has written it
main_claim (suc (suc zero)) x =
    WriteHolds modules links none (two (pos 2) (pos 3)) x × OutHolds modules links none (two (pos 2) (pos 3)) x × ReadHolds modules links none (two (pos 2) (pos 2)) x × InHolds modules links none no_regions x
main_claim (suc (suc (suc n))) x = ReadHolds modules links none (two (pos 2) (pos 3)) x

abbrev claim_in_s : ℕ → Occurrence → Type 0
claim_in_s zero x = WriteHolds modules links tracked (two (pos 1) (pos 2)) x
claim_in_s (suc zero) x = WriteHolds modules links tracked (scalar_of 2) x × TransformerHolds module_s.symbols tracked tracked (λ m n. n 2 ≡ pos 7) x
claim_in_s (suc (suc n)) x = PreconditionHolds tracked (λ n. n 2 ≡ pos 7) x

abbrev claim_for : Bool → Occurrence → Type 0
claim_for true x = claim_in_s x.spot.statement x
claim_for false x = main_claim x.spot.statement x

abbrev claim : Occurrence → Type 0
claim x = claim_for (bytes_eq x.spot.module_name (codes "S")) x

-- ---- they hold

three : (k a b : ℕ) (V : ℕ → Bool) (L : ℕ → Type 0) → (V k ≡ true → L k) → (V a ≡ true → L a) → (V b ≡ true → L b) → (u : ℕ) → (nat_eq k u || (nat_eq a u || (nat_eq b u || false))) ≡ true → V u ≡ true → L u
three k a b V L p q r u h v = go (nat_eq k u) (nat_eq a u) (nat_eq b u) refl refl refl h
  where
    go : (x y z : Bool) → nat_eq k u ≡ x → nat_eq a u ≡ y → nat_eq b u ≡ z → (x || (y || (z || false))) ≡ true → L u
    go true y z e f g t = subst (λ w. V w ≡ true → L w) (eqb-true k u e) p v
    go false true z e f g t = subst (λ w. V w ≡ true → L w) (eqb-true a u f) q v
    go false false true e f g t = subst (λ w. V w ≡ true → L w) (eqb-true b u g) r v
    go false false false e f g t = cc

again : (a b : Bool) → (a || (b || false)) ≡ true → (a || (b || (b || false))) ≡ true
again true b h = refl
again false true h = refl
again false false h = cc

two_units : (a b : ℕ) (V : ℕ → Bool) (L : ℕ → Type 0) → (V a ≡ true → L a) → (V b ≡ true → L b) → (u : ℕ) → (nat_eq a u || (nat_eq b u || false)) ≡ true → V u ≡ true → L u
two_units a b V L p q u h v = three a b b V L p q q u (again (nat_eq a u) (nat_eq b u) h) v

one_unit : (a : ℕ) (V : ℕ → Bool) (L : ℕ → Type 0) → (V a ≡ true → L a) → (u : ℕ) → (nat_eq a u || false) ≡ true → V u ≡ true → L u
one_unit a V L p u h v = two_units a a V L p p u (go (nat_eq a u) h) v
  where
    go : (b : Bool) → (b || false) ≡ true → (b || (b || false)) ≡ true
    go true t = refl
    go false t = cc

-- written and read afterwards
later_two : (k a b : ℕ) (V : ℕ → Bool) (L : ℕ → Type 0) → (V a ≡ true → L a) → (V b ≡ true → L b) → (u : ℕ) → ((nat_eq k u || (nat_eq a u || (nat_eq b u || false))) && (nat_eq a u || (nat_eq b u || false))) ≡ true → V u ≡ true → L u
later_two k a b V L p q u h v = two_units a b V L p q u (and_parts (nat_eq k u || (nat_eq a u || (nat_eq b u || false))) (nat_eq a u || (nat_eq b u || false)) h).1 v

never : (a b c : Bool) → (not a && (a || (not b && (b || (not c && false))))) ≡ true → ⊥
never true b c h = cc
never false true c h = cc
never false false true h = cc
never false false false h = cc

no_way : {A : Type 0} → false ≡ true → A
no_way e = cc

each : (i j : ℤ) (P : List ℤ → Type 0) → P (i ∷ []) → P (j ∷ []) → (subscripts : List ℤ) → elements subscripts i j → P subscripts
each i j P p q subscripts (inl e) = subst P (sym e) p
each i j P p q subscripts (inr e) = subst P (sym e) q

alone : (P : List ℤ → Type 0) → P [] → (subscripts : List ℤ) → subscripts ≡ [] → P subscripts
alone P p subscripts e = subst P (sym e) p

holds : InConformingRuns modules links claim
holds zero input c =
    (tt, (tt, tt, (((three 111 10 11 _ _ (λ e. no_way e) (λ e. inl (pos 2 ∷ [], refl, λ m a. inl refl)) (λ e. inl (pos 3 ∷ [], refl, λ m a. inr refl)), λ e. (λ x m a. each (pos 2) (pos 3) _ refl refl, tt)), later_two 111 10 11 _ _ (λ e. inl (pos 2 ∷ [], refl, λ m a. inl refl)) (λ e. inl (pos 3 ∷ [], refl, λ m a. inr refl)), (two_units 111 10 _ _ (λ e. no_way e) (λ e. inl (pos 2 ∷ [], refl, λ m a. inl refl)), λ e. (λ x m a. each (pos 2) (pos 2) _ refl refl, tt)), (λ u h v. never (nat_eq 111 u) (nat_eq 10 u) (nat_eq 11 u) h, λ e. tt)), ((three 111 10 11 _ _ (λ e. no_way e) (λ e. inl (pos 1 ∷ [], refl, λ m a. inl refl)) (λ e. inl (pos 2 ∷ [], refl, λ m a. inr refl)), λ e. (λ x m a. each (pos 1) (pos 2) _ refl refl, tt)), (((one_unit 111 _ _ (λ e. inl ([], refl, λ m a. refl)), λ e. (λ x m a. alone _ refl, tt)), λ e. (λ m n a b. b 2 refl, λ c i j. cc)), tt, (λ m a. a 2 refl, tt, (λ m a. a 2 refl, tt, tt))), tt), ((two_units 10 11 _ _ (λ e. inl (pos 2 ∷ [], refl, λ m a. inl refl)) (λ e. inl (pos 3 ∷ [], refl, λ m a. inr refl)), λ e. (λ x m a. each (pos 2) (pos 3) _ refl refl, tt)), tt, tt))), tt)
holds (suc n) input c =
    (tt, (tt, tt, (((three 111 10 11 _ _ (λ e. no_way e) (λ e. inl (pos 2 ∷ [], refl, λ m a. inl refl)) (λ e. inl (pos 3 ∷ [], refl, λ m a. inr refl)), λ e. (λ x m a. each (pos 2) (pos 3) _ refl refl, tt)), later_two 111 10 11 _ _ (λ e. inl (pos 2 ∷ [], refl, λ m a. inl refl)) (λ e. inl (pos 3 ∷ [], refl, λ m a. inr refl)), (two_units 111 10 _ _ (λ e. no_way e) (λ e. inl (pos 2 ∷ [], refl, λ m a. inl refl)), λ e. (λ x m a. each (pos 2) (pos 2) _ refl refl, tt)), (λ u h v. never (nat_eq 111 u) (nat_eq 10 u) (nat_eq 11 u) h, λ e. tt)), ((three 111 10 11 _ _ (λ e. no_way e) (λ e. inl (pos 1 ∷ [], refl, λ m a. inl refl)) (λ e. inl (pos 2 ∷ [], refl, λ m a. inr refl)), λ e. (λ x m a. each (pos 1) (pos 2) _ refl refl, tt)), (((one_unit 111 _ _ (λ e. inl ([], refl, λ m a. refl)), λ e. (λ x m a. alone _ refl, tt)), λ e. (λ m n a b. b 2 refl, λ c i j. cc)), tt, (λ m a. a 2 refl, tt, (λ m a. a 2 refl, tt, tt))), tt), ((two_units 10 11 _ _ (λ e. inl (pos 2 ∷ [], refl, λ m a. inl refl)) (λ e. inl (pos 3 ∷ [], refl, λ m a. inr refl)), λ e. (λ x m a. each (pos 2) (pos 3) _ refl refl, tt)), tt, tt))), tt)
