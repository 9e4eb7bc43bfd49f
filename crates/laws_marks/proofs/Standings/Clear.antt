-- Names of a module that are none of its reduction variables reach none of their units.
use Rattle.std.proofs.Common.{◌≡◌, ◌⊎◌, inl, inr, ⊎_elim, ℕ, zero, suc, ◌-◌, Bool, true, false, List, [], ◌∷◌, map, Some, None, refl, sym, ap, ◌∙◌, subst, arith, nat_eq, bytes_eq, true≢false}
use Rattle.std.specs.Prelude.{if◌then◌else◌, ◌&&◌, slice_get, slice_index_or}
use Rattle.std.specs.List.{IsDistinct}
use Rattle.std.proofs.lemmas.Bool.{or_from, or_left, or_right}
use Rattle.std.proofs.lemmas.Bool.Decides.{nat_tests}
use Rattle.std.proofs.lemmas.Slice.Eq.{bytes_eq-Decides}
use Rattle.system_text.specs.SystemText.{name_at}
use Rattle.f77_ast.specs.Places.{Meant, Constant, Variable, Function, Places}
use Rattle.f77_ast.specs.Symbols.{SymbolTree, number_from}
use Rattle.f77_ast.specs.Shared.{symbol_at}
use Rattle.f77_ast.proofs.StorageLaws.{from_number, to_number}
use Rattle.f77_meaning.specs.Modules.{names, symbol_names}
use Rattle.preconditions.specs.transformer_algebra.Laws.{In, here, there}
use Rattle.result_lines.specs.declared.reduction.Part.{Part}
use Rattle.laws_analyses.proofs.NameLaws.{name_number}
use Rattle.laws_analyses.proofs.Regions.Names.{Found, missing, at_place, found}
use Rattle.laws_interleavings.specs.Reductions.{ReduceOp, Accumulator, operator_at}
use Rattle.laws_interleavings.specs.Accumulating.{Reduction, with_meaning, accumulators_of, is_sum, is_summed}
use Rattle.laws_interleavings.specs.Accumulated.{IsFree, IsClearName}
use Rattle.laws_interleavings.specs.Plans.Touched.{AnyNumber, IsOther, Reaches, Suits}
use Rattle.laws_marks.specs.Names.{op_meant, reduction_named}
use Rattle.laws_marks.specs.Standings.{OthersAreApart}
use Rattle.laws_marks.specs.Units.{IsPassing}
use Rattle.laws_marks.proofs.Written.{name_back}
use Rattle.fx_lists.proofs.Options.{some_is, some_same}

-- ---- symbols and their names

-- the name at a number is that of the symbol
there_named : (ss : List SymbolTree) (k : ℕ) (s : SymbolTree) → slice_get ss k ≡ Some s → slice_index_or (symbol_names ss) k [] ≡ s.name
there_named [] k s e = cc
there_named (t ∷ ss) zero s e = ap (λ (z : SymbolTree). z.name) (some_is t s e)
there_named (t ∷ ss) (suc k) s e = there_named ss k s e

pub symbol_named : (ss : List SymbolTree) (n : ℕ) (s : SymbolTree) → symbol_at ss n ≡ Some s → name_at (symbol_names ss) n ≡ s.name
symbol_named ss zero s e = cc
symbol_named ss (suc k) s e = there_named ss k s (ap (slice_get ss) (one_less k) ∙ from_number ss (suc k) s e)
  where
    one_less : (k : ℕ) → k ≡ suc k - 1
    one_less k = omega arith

-- a name that has a number is the name of its symbol
pub numbered_name : (ss : List SymbolTree) (y : List ℕ) (n : ℕ) (s : SymbolTree) → number_from 1 (symbol_names ss) y ≡ Some n → symbol_at ss n ≡ Some s → y ≡ s.name
numbered_name ss y n s e is = go (found 1 ss y)
  where
    go : Found 1 ss y → y ≡ s.name
    go (missing q) = (let z : None ≡ Some n = sym q ∙ e in cc)
    go (at_place i k t same q f m named) =
        let number : k ≡ n = some_same k n (sym q ∙ e) in
        let at : k ≡ suc i = omega (arith, same) in
        let one : t ≡ s = some_is t s (sym (to_number ss i t f) ∙ (ap (symbol_at ss) (sym at ∙ number) ∙ is)) in
        named ∙ ap (λ (z : SymbolTree). z.name) one

-- ---- reduction variables

abbrev pub name_in : List SymbolTree → Part → List ℕ
name_in ss p = name_at (symbol_names ss) p.cell

abbrev pub reductions_in : List SymbolTree → List Part → List Reduction
reductions_in ss ps = map (reduction_named ss) ps

abbrev pub units_in : List SymbolTree → Places → List Part → List Accumulator
units_in ss at ps = accumulators_of (reductions_in ss ps) (names ss) at

-- one of them
pub record One (ps : List Part) : Type 0 where
  pub part : Part
  pub is_one : In part ps

-- the name differs from that of the variable, or no name stands for that
abbrev pub NotNamed : List SymbolTree → Part → List ℕ → Type 0
NotNamed ss p y = (bytes_eq (name_in ss p) y ≡ false) ⊎ (names ss (name_in ss p) ≡ Function)

module _ (ss : List SymbolTree) (at : Places) where
  -- what it stands for
  unit_after : (p : Part) (as' : List Accumulator) (m : Meant) (u : ℕ) → ((v : ℕ) → m ≡ Variable v → nat_eq u (at v).first ≡ false) → operator_at (with_meaning (op_meant p.op) m at as') u ≡ operator_at as' u
  unit_after p as' (Constant c) u h = refl
  unit_after p as' (Variable v) u h = ap (λ b. if b then Some (op_meant p.op) else operator_at as' u) (h v refl)
  unit_after p as' Function u h = refl

  -- a unit that is the first of none
  pub none_there : (ps : List Part) (u : ℕ) → ((p : Part) → In p ps → (v : ℕ) → names ss (name_in ss p) ≡ Variable v → nat_eq u (at v).first ≡ false) → operator_at (units_in ss at ps) u ≡ None
  none_there [] u h = refl
  none_there (p ∷ ps) u h = unit_after p (units_in ss at ps) (names ss (name_in ss p)) u (h p here) ∙ none_there ps u (λ q i. h q (there i))

  -- the first unit of one, where each that has the unit has its operator
  pub one_there : (ps : List Part) (u : ℕ) (o : ReduceOp) (p : Part) (v : ℕ) → In p ps → names ss (name_in ss p) ≡ Variable v → u ≡ (at v).first →
      ((q : Part) → In q ps → (w : ℕ) → names ss (name_in ss q) ≡ Variable w → (nat_eq u (at w).first ≡ false) ⊎ (op_meant q.op ≡ o)) → op_meant p.op ≡ o → operator_at (units_in ss at ps) u ≡ Some o
  one_there [] u o p v i e same h is = elim i [ ]
  one_there (q ∷ ps) u o p v here e same h is =
      ap (λ m. operator_at (with_meaning (op_meant q.op) m at (units_in ss at ps)) u) e ∙ (ap (λ b. if b then Some (op_meant q.op) else operator_at (units_in ss at ps) u) (itself u (at v).first same) ∙ ap Some is)
    where
      itself : (a b : ℕ) → a ≡ b → nat_eq a b ≡ true
      itself a b e = grind (arith, nat_tests, e)
  one_there (q ∷ ps) u o p v (there i) e same h is = go (names ss (name_in ss q)) (λ w f. h q here w f) (one_there ps u o p v i e same (λ r j. h r (there j)) is)
    where
      go : (m : Meant) → ((w : ℕ) → m ≡ Variable w → (nat_eq u (at w).first ≡ false) ⊎ (op_meant q.op ≡ o)) → operator_at (units_in ss at ps) u ≡ Some o → operator_at (with_meaning (op_meant q.op) m at (units_in ss at ps)) u ≡ Some o
      go (Constant c) k ih = ih
      go Function k ih = ih
      go (Variable w) k ih = ⊎_elim (λ z. ap (λ b. if b then Some (op_meant q.op) else operator_at (units_in ss at ps) u) z ∙ ih) (λ z. by (nat_eq u (at w).first) z) (k w refl)
        where
          by : (b : Bool) → op_meant q.op ≡ o → (if b then Some (op_meant q.op) else operator_at (units_in ss at ps) u) ≡ Some o
          by true z = ap Some z
          by false z = ih

  -- ---- whether a name is that of a sum

  pub none_summed : (ps : List Part) (x : List ℕ) → ((p : Part) → In p ps → bytes_eq x (name_in ss p) ≡ false) → is_summed (reductions_in ss ps) x ≡ false
  none_summed [] x h = refl
  none_summed (p ∷ ps) x h = or_from (is_sum (op_meant p.op) && bytes_eq x (name_in ss p)) (is_summed (reductions_in ss ps) x) (off (is_sum (op_meant p.op)) (bytes_eq x (name_in ss p)) (h p here)) (none_summed ps x (λ q i. h q (there i)))
    where
      off : (a b : Bool) → b ≡ false → (a && b) ≡ false
      off true b e = e
      off false b e = refl

  pub one_summed : (ps : List Part) (x : List ℕ) (o : ReduceOp) (p : Part) → In p ps → bytes_eq x (name_in ss p) ≡ true → op_meant p.op ≡ o → ((q : Part) → In q ps → (bytes_eq x (name_in ss q) ≡ false) ⊎ (op_meant q.op ≡ o)) → is_summed (reductions_in ss ps) x ≡ is_sum o
  one_summed ps x o p i e same h = go (is_sum o) refl
    where
      summed : (b : Bool) → is_sum o ≡ true → op_meant p.op ≡ o → bytes_eq x (name_in ss p) ≡ true → (is_sum (op_meant p.op) && bytes_eq x (name_in ss p)) ≡ true
      summed b z s e = ap (λ r. is_sum r && bytes_eq x (name_in ss p)) s ∙ (ap (λ b. b && bytes_eq x (name_in ss p)) z ∙ e)

      some : (qs : List Part) → In p qs → is_sum o ≡ true → is_summed (reductions_in ss qs) x ≡ true
      some [] j z = elim j [ ]
      some (q ∷ qs) here z = or_left (is_sum (op_meant q.op) && bytes_eq x (name_in ss q)) (is_summed (reductions_in ss qs) x) (summed true z same e)
      some (q ∷ qs) (there j) z = or_right (is_sum (op_meant q.op) && bytes_eq x (name_in ss q)) (is_summed (reductions_in ss qs) x) (some qs j z)

      off : (a b : Bool) → (b ≡ false) ⊎ (a ≡ false) → (a && b) ≡ false
      off true b (inl e) = e
      off true b (inr e) = absurd (true≢false e)
      off false b e = refl

      none : (qs : List Part) → ((q : Part) → In q qs → (bytes_eq x (name_in ss q) ≡ false) ⊎ (op_meant q.op ≡ o)) → is_sum o ≡ false → is_summed (reductions_in ss qs) x ≡ false
      none [] k z = refl
      none (q ∷ qs) k z =
          or_from (is_sum (op_meant q.op) && bytes_eq x (name_in ss q)) (is_summed (reductions_in ss qs) x)
          (off (is_sum (op_meant q.op)) (bytes_eq x (name_in ss q)) (⊎_elim inl (λ s. inr (ap is_sum s ∙ z)) (k q here))) (none qs (λ r j. k r (there j)) z)

      go : (b : Bool) → is_sum o ≡ b → is_summed (reductions_in ss ps) x ≡ is_sum o
      go true z = some ps i z ∙ sym z
      go false z = none ps h z ∙ sym z

  -- ---- a name

  module _ (ps : List Part) (d : IsDistinct bytes_eq (symbol_names ss)) (locals : (p : Part) → In p ps → IsPassing ss p.cell) (apart : (p : Part) → In p ps → OthersAreApart ss at p.cell) where
    abbrev as' : List Accumulator
    as' = units_in ss at ps

    -- what the name of one stands for is that variable
    pub own_cell : (p : Part) → In p ps → (v : ℕ) → names ss (name_in ss p) ≡ Variable v → v ≡ p.cell
    own_cell p i v e = (let s = locals p i in some_same v p.cell (sym (name_number ss (name_in ss p) v e) ∙ name_back ss p.cell s.symbol d s.is_symbol))

    other_cell : (p : Part) (i : In p ps) (y : List ℕ) (v : ℕ) → names ss y ≡ Variable v → bytes_eq (name_in ss p) y ≡ false → v ≡ p.cell → ⊥
    other_cell p i y v e h same =
        let s = locals p i in
        let named : y ≡ s.symbol.name = numbered_name ss y v s.symbol (name_number ss y v e) (ap (symbol_at ss) same ∙ s.is_symbol) in
        true≢false (sym ((bytes_eq-Decides (name_in ss p) y).1 (symbol_named ss p.cell s.symbol s.is_symbol ∙ sym named)) ∙ h)

    no_function : (p : Part) (v : ℕ) → names ss (name_in ss p) ≡ Function → names ss (name_in ss p) ≡ Variable v → ⊥
    no_function p v f e = (let z : Function ≡ Variable v = sym f ∙ e in cc)

    pub clear_name : (y : List ℕ) → ((q : One ps) → NotNamed ss q.part y) → IsClearName (units_in ss at ps) (names ss) at y
    clear_name y h = go (names ss y) refl
      where
        reaches : (v : ℕ) → names ss y ≡ Variable v → (p : Part) → In p ps → (w : ℕ) → names ss (name_in ss p) ≡ Variable w → Reaches (IsOther (at w).first) (at v)
        reaches v e p i w f =
            let same = own_cell p i w f in
            subst (λ n. Reaches (IsOther (at n).first) (at v)) (sym same)
            (⊎_elim (λ b. apart p i y v e (other_cell p i y v e b)) (λ z. absurd (no_function p w z f)) (h (record { part = p; is_one = i })))

        go : (m : Meant) → names ss y ≡ m → Suits (IsFree (units_in ss at ps)) AnyNumber at m
        go (Constant c) e = tt
        go (Variable v) e = (none_there ps (at v).first (λ p i w f. (reaches v e p i w f).0), λ u k. none_there ps u (λ p i w f. (reaches v e p i w f).1 u k))
        go Function e = tt
