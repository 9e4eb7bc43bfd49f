-- What is found in tables: the symbol of each number, and the tracked cell at a unit of a block.
use Rattle.std.proofs.Common.{◌≡◌, ℕ, zero, suc, ◌+◌, ◌-◌, List, [], ◌∷◌, Option, Some, None, Bool, true, false, refl, sym, ap, ap₂, ◌∙◌, subst, arith, ⊎_elim}
use Rattle.std.specs.Prelude.{if◌then◌else◌, nat_eq, bytes_eq, slice_get, ◌&&◌}
use Rattle.std.proofs.lemmas.Bool.{and_from, cases_Bool, and_parts}
use Rattle.std.proofs.lemmas.Slice.Eq.{bytes_eq-Decides}
use Rattle.f77_ast.specs.declared.symbol.Place.{Place}
use Rattle.f77_ast.specs.declared.symbol.Place.TheVariants.{Local, Dummy, Block, Constant}
use Rattle.f77_ast.specs.Symbols.{SymbolTree}
use Rattle.f77_ast.specs.Shared.{numbered, symbol_at, place_of}
use Rattle.affine_forms.specs.Scalars.{flag_of, is_cell}
use Rattle.preconditions.specs.transformer_algebra.Claims.{Scene}
use Rattle.preconditions.specs.call_translation.Scopes.{ScopeTree}
use Rattle.preconditions.specs.call_translation.Common.{is_unit, tracked_from, tracked_at}
use Rattle.laws_analyses.specs.Calls.Scenes.{IsInBlock, IsSceneOf}
use Rattle.fx_lists.proofs.Options.{some_is as some_same}
use Rattle.fx_lists.proofs.Booleans.{clash as clashes}
use Rattle.fx_lists.proofs.Numbers.{same_is as nat_same, nat_eq_same}

pub nothing_some : {A B : Type 0} (x : A) → None ≡ Some x → B
nothing_some x e = let k : ⊥ = cc in absurd k

-- ---- the rest of a list from a number on

abbrev pub IsRest : {A : Type 0} → ℕ → List A → List A → Type 0
IsRest n xs whole = (k : ℕ) → slice_get xs k ≡ numbered whole (n + k)

not_zero : (k : ℕ) → nat_eq (1 + k) 0 ≡ false
not_zero k = ⊎_elim (λ e. let q = nat_same (1 + k) 0 e in absurd (omega (arith, q))) (λ e. e) (cases_Bool (nat_eq (1 + k) 0))

pub whole_rest : {A : Type 0} (xs : List A) → IsRest 1 xs xs
whole_rest xs k = let e : (1 + k) - 1 ≡ k = omega arith in rw (not_zero k, e) refl

pub next_rest : {A : Type 0} (n : ℕ) (x : A) (xs whole : List A) → IsRest n (x ∷ xs) whole → IsRest (suc n) xs whole
next_rest n x xs whole r k = let e : n + suc k ≡ suc n + k = omega arith in r (suc k) ∙ ap (λ j. numbered whole j) e

pub first_rest : {A : Type 0} (n : ℕ) (x : A) (xs whole : List A) → IsRest n (x ∷ xs) whole → numbered whole n ≡ Some x
first_rest n x xs whole r = let e : n ≡ n + 0 = omega arith in ap (λ j. numbered whole j) e ∙ sym (r 0)

-- what has a number stands there
pub numbered_at : {A : Type 0} (xs : List A) (n : ℕ) (x : A) → numbered xs n ≡ Some x → (slice_get xs (n - 1) ≡ Some x) × (suc (n - 1) ≡ n)
numbered_at xs n x e = go (nat_eq n 0) refl e
  where
    go : (b : Bool) → nat_eq n 0 ≡ b → (if b then None else slice_get xs (n - 1)) ≡ Some x → (slice_get xs (n - 1) ≡ Some x) × (suc (n - 1) ≡ n)
    go true q k = nothing_some x k
    go false q k = (k, positive n q)
      where
        positive : (m : ℕ) → nat_eq m 0 ≡ false → suc (m - 1) ≡ m
        positive zero r = clashes (nat_eq 0 0) (nat_eq_same 0) r
        positive (suc m) r = omega arith

-- ---- the cell at a unit

pub unit_is : (b : List ℕ) (o : ℕ) (p : Place) → is_unit b o p ≡ true → p ≡ Block b o
unit_is b o (Local g k) e = clashes false e refl
unit_is b o (Dummy m) e = clashes false e refl
unit_is b o (Block c k) e =
    let q = and_parts (bytes_eq b c) (nat_eq o k) e in
    ap₂ (λ x y. Block x y) (sym ((bytes_eq-Decides b c).0 q.0)) (sym (nat_same o k q.1))
unit_is b o (Constant m) e = clashes false e refl

is_unit_of : (b : List ℕ) (o : ℕ) (p : Place) → p ≡ Block b o → is_unit b o p ≡ true
is_unit_of b o p e = subst (λ (q : Place). is_unit b o q ≡ true) (sym e) (and_from (bytes_eq b b) (nat_eq o o) ((bytes_eq-Decides b b).1 refl) (nat_eq_same o))

tracked_found : (ss : List SymbolTree) (fs : List Bool) (whole : List SymbolTree) (flags : List Bool) (n : ℕ) (b : List ℕ) (o v : ℕ) →
    IsRest n ss whole → IsRest n fs flags → tracked_from n ss fs b o ≡ Some v → (is_cell flags v ≡ true) × IsInBlock whole v b o
tracked_found [] fs whole flags n b o v r i e = nothing_some v e
tracked_found (s ∷ ss) [] whole flags n b o v r i e = nothing_some v e
tracked_found (s ∷ ss) (f ∷ fs) whole flags n b o v r i e =
    go (f && is_unit b o s.place) refl e (λ k. tracked_found ss fs whole flags (suc n) b o v (next_rest n s ss whole r) (next_rest n f fs flags i) k)
  where
    here : f ≡ true → s.place ≡ Block b o → (is_cell flags n ≡ true) × IsInBlock whole n b o
    here q u = (ap flag_of (first_rest n f fs flags i) ∙ q, ap place_of (first_rest n s ss whole r) ∙ ap (λ p. Some p) u)

    go : (g : Bool) → (f && is_unit b o s.place) ≡ g → (if g then Some n else tracked_from (suc n) ss fs b o) ≡ Some v →
        (tracked_from (suc n) ss fs b o ≡ Some v → (is_cell flags v ≡ true) × IsInBlock whole v b o) → (is_cell flags v ≡ true) × IsInBlock whole v b o
    go true t k ih =
        let q = and_parts f (is_unit b o s.place) t in
        subst (λ (j : ℕ). (is_cell flags j ≡ true) × IsInBlock whole j b o) (some_same n v k) (here q.0 (unit_is b o s.place q.1))
    go false t k ih = ih k

-- what is found at a unit is a tracked cell that lies there
pub tracked_at_cell : (m : ScopeTree) (b : List ℕ) (o v : ℕ) → tracked_at m b o ≡ Some v → (is_cell m.tracked v ≡ true) × IsInBlock m.symbols v b o
tracked_at_cell m b o v e = tracked_found m.symbols m.tracked m.symbols m.tracked 1 b o v (whole_rest m.symbols) (whole_rest m.tracked) e

some_found : (ss : List SymbolTree) (fs : List Bool) (n : ℕ) (b : List ℕ) (o k : ℕ) (s : SymbolTree) →
    slice_get fs k ≡ Some true → slice_get ss k ≡ Some s → s.place ≡ Block b o → (w : ℕ) × (tracked_from n ss fs b o ≡ Some w)
some_found [] fs n b o k s f i q = nothing_some s i
some_found (t ∷ ss) [] n b o k s f i q = nothing_some true f
some_found (t ∷ ss) (g ∷ fs) n b o zero s f i q =
    let u : is_unit b o t.place ≡ true = is_unit_of b o t.place (ap (λ (j : SymbolTree). j.place) (some_same t s i) ∙ q) in
    (n, rw (and_from g (is_unit b o t.place) (some_same g true f) u) refl)
some_found (t ∷ ss) (g ∷ fs) n b o (suc k) s f i q = go (g && is_unit b o t.place) (some_found ss fs (suc n) b o k s f i q)
  where
    go : (h : Bool) → (w : ℕ) × (tracked_from (suc n) ss fs b o ≡ Some w) → (w : ℕ) × ((if h then Some n else tracked_from (suc n) ss fs b o) ≡ Some w)
    go true ih = (n, refl)
    go false ih = ih

pub flag_is : (o : Option Bool) → flag_of o ≡ true → o ≡ Some true
flag_is None e = clashes false e refl
flag_is (Some b) e = ap (λ x. Some x) e

pub symbol_in : (o : Option SymbolTree) (b : List ℕ) (k : ℕ) → place_of o ≡ Some (Block b k) → (s : SymbolTree) × (o ≡ Some s) × (s.place ≡ Block b k)
symbol_in None b k e = nothing_some (Block b k) e
symbol_in (Some s) b k e = (s, refl, some_same s.place (Block b k) e)

-- a tracked cell is found at the unit where it lies
pub tracked_at_finds : (s : ScopeTree) (m : Scene) → IsSceneOf s m → (v : ℕ) (b : List ℕ) (o : ℕ) → m.tracked v ≡ true → IsInBlock s.symbols v b o → tracked_at s b o ≡ Some v
tracked_at_finds s m h v b o t i =
    let f = numbered_at s.tracked v true (flag_is (numbered s.tracked v) (sym (h.tracked v) ∙ t)) in
    let q = symbol_in (symbol_at s.symbols v) b o i in
    let g = numbered_at s.symbols v q.0 q.1 in
    let w = some_found s.symbols s.tracked 1 b o (v - 1) q.0 f.0 g.0 q.2 in
    let k = tracked_at_cell s b o w.0 w.1 in
    w.1 ∙ ap (λ j. Some j) (h.apart w.0 v b o (h.tracked w.0 ∙ k.0) t k.1 i)
