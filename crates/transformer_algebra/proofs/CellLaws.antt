-- Which cells and which units are in lists that are put together.
use Rattle.std.proofs.Common.{◌≡◌, ℕ, List, [], ◌∷◌, ◌||◌, Bool, true, false, refl, sym, ap, ap₂, ◌∙◌, subst, arith, nat_eq, nat_lt, true≢false, ◌⊎◌, inl, inr, ⊎_elim, Ordering}
use Rattle.std.specs.Prelude.{if◌then◌else◌, filter}
use Rattle.std.specs.declared.cmp.Ordering.TheVariants.{Less, Equal, Greater}
use Rattle.std.specs.Ordering.{match_ordering, nat_cmp}
use Rattle.std.specs.Cmp.Lexicographic.{slice_cmp}
use Rattle.std.proofs.lemmas.Bool.Decides.{nat_tests}
use Rattle.std.proofs.lemmas.Map.Lookups.{exact_unsigned, exact_bytes}
use Rattle.std.proofs.lemmas.Bool.{or_left as or_in_left, or_right as or_in_right, or_cases}
use Rattle.affine_systems.specs.declared.row.Var.TheVariants.{Cell, Exit}
use Rattle.affine_systems.specs.Terms.{var_eq, number}
use Rattle.affine_systems.proofs.Basics.{if_cases}
use Rattle.affine_systems.proofs.TermLaws.{var_eq-true}
use Rattle.f77_ast.specs.declared.variable.Unit.{Unit as BlockUnit}
use Rattle.transformer_algebra.specs.Cells.{has, with_cell, with_cells, joined_cells}
use Rattle.transformer_algebra.specs.Units.{unit_cmp, with_unit, with_units, joined_units}
use Rattle.transformer_algebra.specs.Claims.{IsIn}
use Rattle.fx_lists.proofs.Booleans.{clash as clashes, or_turned as or_assoc, or_swap, with_false}
use Rattle.fx_lists.proofs.Numbers.{nat_eq_same, same_is as nat_same}
use Rattle.fx_lists.proofs.Orders.{then_equal}

-- ---- numbers

-- ---- cells

or_same : (a b : Bool) → (a || b) ≡ (a || (a || b))
or_same true b = refl
or_same false b = refl

has-with_cell : (c d : ℕ) (ds : List ℕ) → has (with_cell d ds) c ≡ (nat_eq d c || has ds c)
has-with_cell c d [] = refl
has-with_cell c d (e ∷ ds) =
    if_cases (λ cs. has cs c ≡ (nat_eq d c || (nat_eq e c || has ds c))) (nat_eq d e) (e ∷ ds) (if nat_lt d e then d ∷ e ∷ ds else e ∷ with_cell d ds)
    (λ q. let s : d ≡ e = nat_same d e q in subst (λ k. (nat_eq e c || has ds c) ≡ (nat_eq k c || (nat_eq e c || has ds c))) (sym s) (or_same (nat_eq e c) (has ds c)))
    (λ q. if_cases (λ cs. has cs c ≡ (nat_eq d c || (nat_eq e c || has ds c))) (nat_lt d e) (d ∷ e ∷ ds) (e ∷ with_cell d ds)
    (λ r. refl)
    (λ r. ap (λ b. nat_eq e c || b) (has-with_cell c d ds) ∙ or_swap (nat_eq e c) (nat_eq d c) (has ds c)))

has-with_cells : (c : ℕ) (ds cs : List ℕ) → has (with_cells ds cs) c ≡ (has cs c || has ds c)
has-with_cells c ds [] = refl
has-with_cells c ds (d ∷ cs) =
    has-with_cells c (with_cell d ds) cs ∙ (ap (λ b. has cs c || b) (has-with_cell c d ds) ∙ (or_swap (has cs c) (nat_eq d c) (has ds c) ∙ sym (or_assoc (nat_eq d c) (has cs c) (has ds c))))

pub has-joined : (cs ds : List ℕ) (c : ℕ) → has (joined_cells cs ds) c ≡ (has cs c || has ds c)
has-joined cs ds c = has-with_cells c (with_cells [] cs) ds ∙ (ap (λ b. has ds c || b) (has-with_cells c [] cs ∙ sym (with_false (has cs c))) ∙ comm (has ds c) (has cs c))
  where
    comm : (a b : Bool) → (a || b) ≡ (b || a)
    comm true true = refl
    comm true false = refl
    comm false true = refl
    comm false false = refl

or_left : (m n : Bool) → (m || n) ≡ false → m ≡ false
or_left true n h = h
or_left false n h = refl

pub or_right : (m n : Bool) → (m || n) ≡ false → n ≡ false
or_right true n h = clashes true refl h
or_right false n h = h

pub left_out : (as' bs : List ℕ) (c : ℕ) → has (joined_cells as' bs) c ≡ false → has as' c ≡ false
left_out as' bs c e = or_left (has as' c) (has bs c) (sym (has-joined as' bs c) ∙ e)

pub right_out : (as' bs : List ℕ) (c : ℕ) → has (joined_cells as' bs) c ≡ false → has bs c ≡ false
right_out as' bs c e = or_right (has as' c) (has bs c) (sym (has-joined as' bs c) ∙ e)

pub left_in : (as' bs : List ℕ) (c : ℕ) → has as' c ≡ true → has (joined_cells as' bs) c ≡ true
left_in as' bs c e = has-joined as' bs c ∙ or_in_left (has as' c) (has bs c) e

pub right_in : (as' bs : List ℕ) (c : ℕ) → has bs c ≡ true → has (joined_cells as' bs) c ≡ true
right_in as' bs c e = has-joined as' bs c ∙ or_in_right (has as' c) (has bs c) e

pub joined_in : (as' bs : List ℕ) (c : ℕ) → has (joined_cells as' bs) c ≡ true → (has as' c ≡ true) ⊎ (has bs c ≡ true)
joined_in as' bs c e = or_cases (has as' c) (has bs c) (sym (has-joined as' bs c) ∙ e)

-- ---- units

same_unit : (u v : BlockUnit) → unit_cmp u v ≡ Equal → u ≡ v
same_unit u v e =
    let q = then_equal (slice_cmp nat_cmp u.block v.block) (nat_cmp u.offset v.offset) e in
    let unit : List ℕ → ℕ → BlockUnit = λ b o. record { block = b; offset = o } in
    ap₂ unit (exact_bytes u.block v.block q.0) (exact_unsigned u.offset v.offset q.1)

in-with_unit : (w u : BlockUnit) (vs : List BlockUnit) → IsIn w (u ∷ vs) → IsIn w (with_unit u vs)
in-with_unit w u [] h = h
in-with_unit w u (v ∷ vs) h = go (unit_cmp u v) refl h (λ k. in-with_unit w u vs k)
  where
    go : (o : Ordering) → unit_cmp u v ≡ o → IsIn w (u ∷ v ∷ vs) → (IsIn w (u ∷ vs) → IsIn w (with_unit u vs)) → IsIn w (match_ordering o (u ∷ v ∷ vs) (v ∷ vs) (v ∷ with_unit u vs))
    go Less e k f = k
    go Equal e k f = ⊎_elim (λ q. inl (q ∙ same_unit u v e)) (λ r. r) k
    go Greater e k f = ⊎_elim (λ q. inr (f (inl q))) (λ r. ⊎_elim (λ q. inl q) (λ s. inr (f (inr s))) r) k

in-with_units : (w : BlockUnit) (vs us : List BlockUnit) → IsIn w vs ⊎ IsIn w us → IsIn w (with_units vs us)
in-with_units w vs [] h = ⊎_elim (λ k. k) (λ k. absurd k) h
in-with_units w vs (u ∷ us) h =
    in-with_units w (with_unit u vs) us (⊎_elim (λ k. inl (in-with_unit w u vs (inr k))) (λ k. ⊎_elim (λ q. inl (in-with_unit w u vs (inl q))) (λ r. inr r) k) h)

pub unit_left : (us vs : List BlockUnit) (w : BlockUnit) → IsIn w us → IsIn w (joined_units us vs)
unit_left us vs w h = in-with_units w (with_units [] us) vs (inl (in-with_units w [] us (inr h)))

pub unit_right : (us vs : List BlockUnit) (w : BlockUnit) → IsIn w vs → IsIn w (joined_units us vs)
unit_right us vs w h = in-with_units w (with_units [] us) vs (inr h)

-- ---- variables of different kinds, and of different numbers
pub cell_exit : (c d : ℕ) → var_eq (Cell c) (Exit d) ≡ false
cell_exit c d = go (var_eq (Cell c) (Exit d)) refl
  where
    go : (b : Bool) → var_eq (Cell c) (Exit d) ≡ b → b ≡ false
    go true e = let q = var_eq-true (Cell c) (Exit d) e in absurd (cc)
    go false e = refl

pub exit_cell : (c d : ℕ) → var_eq (Exit c) (Cell d) ≡ false
exit_cell c d = go (var_eq (Exit c) (Cell d)) refl
  where
    go : (b : Bool) → var_eq (Exit c) (Cell d) ≡ b → b ≡ false
    go true e = let q = var_eq-true (Exit c) (Cell d) e in absurd (cc)
    go false e = refl

pub exit_same : (c d : ℕ) → var_eq (Exit c) (Exit d) ≡ true → c ≡ d
exit_same c d e = ap number (var_eq-true (Exit c) (Exit d) e)

pub cell_same : (c d : ℕ) → var_eq (Cell c) (Cell d) ≡ true → c ≡ d
cell_same c d e = ap number (var_eq-true (Cell c) (Cell d) e)

-- d is c, or c is among the rest
pub tail_has : (d c : ℕ) (ds : List ℕ) → (nat_eq d c || has ds c) ≡ true → (d ≡ c → ⊥) → has ds c ≡ true
tail_has d c ds h f = ⊎_elim (λ e. absurd (f (nat_same d c e))) (λ r. r) (or_cases (nat_eq d c) (has ds c) h)

pub has-filter : (f : ℕ → Bool) (cs : List ℕ) (c : ℕ) → has cs c ≡ true → f c ≡ true → has (filter f cs) c ≡ true
has-filter f [] c h e = h
has-filter f (d ∷ cs) c h e = go (nat_eq d c) refl h (λ k. has-filter f cs c k e)
  where
    skip : (b : Bool) → has (filter f cs) c ≡ true → has (if b then d ∷ filter f cs else filter f cs) c ≡ true
    skip true k = or_in_right (nat_eq d c) (has (filter f cs) c) k
    skip false k = k

    go : (b : Bool) → nat_eq d c ≡ b → (b || has cs c) ≡ true → (has cs c ≡ true → has (filter f cs) c ≡ true) → has (if f d then d ∷ filter f cs else filter f cs) c ≡ true
    go true q k ih = let t : f d ≡ true = ap f (nat_same d c q) ∙ e in rw t (ap (λ b. b || has (filter f cs) c) q)
    go false q k ih = skip (f d) (ih k)
