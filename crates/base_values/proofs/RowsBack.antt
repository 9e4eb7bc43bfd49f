-- Rows and systems that are written are read again, and those that are read fit.
use Rattle.std.proofs.Common.{◌≡◌, ℕ, zero, suc, ◌<◌, ◌≤◌, ◌^◌, Bool, true, false, not, ◌&&◌, ◌||◌, ◌⊎◌, List, [], ◌∷◌, length, map, ℤ, pos, negsuc, Option, Some, None, option_map, option_and_then, inl, inr, refl, ap, ap₂, ◌∙◌, sym, subst, arith, unsigned_abs, int_lt, if◌then◌else◌}
use Rattle.std.specs.Prelude.{codes, nat_lt, nat_le, nat_eq, bytes_eq, int_le}
use Rattle.std.specs.List.{list_all}
use Rattle.std.specs.Ordering.{int_eq}
use Rattle.std.proofs.lemmas.Int.{ints}
use Rattle.std.proofs.lemmas.Bool.{false_from_ne_true}
use Rattle.std.proofs.lemmas.Bool.Decides.{Decides-ltb, Decides-eqb}
use Rattle.serde_json.specs.Data.{Data, number, unsigned, negative}
use Rattle.serde_json.specs.Find.{get, as_bool, as_number, as_u64, as_integer, of_integer, as_str}
use Rattle.affine_systems.specs.declared.row.Var.{Var}
use Rattle.affine_systems.specs.declared.row.Var.TheVariants.{Cell, Exit, Phi, Aux}
use Rattle.affine_systems.specs.declared.row.Term.{Term}
use Rattle.affine_systems.specs.declared.row.Row.{Row}
use Rattle.affine_systems.specs.declared.row.System.{System}
use Rattle.affine_systems.specs.Terms.{term, number as the_number, var_lt, IsBefore, Ascends, has_no_terms}
use Rattle.affine_systems.specs.Rows.{row, system, false_row, AllRows}
use Rattle.affine_systems.specs.Normal.{divisor, last_is_negative, is_small, are_small, normal, Kept}
use Rattle.affine_systems.specs.Tidy.{row_limit}
use Rattle.affine_systems.specs.Given.{IsNormal, AreNormal, Fits}
use Rattle.affine_systems.proofs.FitLaws.{small_is}
use Rattle.affine_systems.proofs.AscendLaws.{before_later}
use Rattle.affine_systems.proofs.ReducedLaws.{IsReduced, normal-reduced, normal_reduced}
use Rattle.base_json.specs.Shapes.{list_of, each_as, list_as, member_as, has_members, triple_of, when, whole_of, number_below, flag_of, offset_of}
use Rattle.base_json.specs.Written.{list_data, number_data, whole_data}
use Rattle.base_json.specs.Scopes.{ScopeTree, number_of, is_symbol, cell_of, exit_of}
use Rattle.base_json.specs.Read.{phi_of, var_of, term_in, term_of, terms_ascend, terms_of, row_in, row_of, is_reduced, is_false_row, is_false_alone, rows_fit, rows_of, system_of, is_small_row, is_small_system}
use Rattle.base_json.specs.RowsWritten.{letter, term_data, flag_data, row_data, system_data}
use Rattle.base_values.specs.Naming.{Each, VarFits, RowNames, SystemFits}
use Rattle.base_values.proofs.Options.{Decides-leb, and_then_some, map_some, when_some, if_some, each_map, each_both, each_all, all_each, each_read, list_read, each_back, list_back}
use Rattle.affine_systems.proofs.TidyLaws.{has_no_terms-true as no_terms}
use Rattle.system_text.proofs.Ordered.{reduced as reduced_parts}
use Rattle.fx_lists.proofs.Booleans.{not_true, or_cases, or_there as or_right, and_parts, and_from, chosen, not_chosen}
use Rattle.fx_lists.proofs.Numbers.{is_number, below_is}

-- ---- numbers

pub when_true : {A : Type 0} (t : Bool) (x : A) → t ≡ true → when t x ≡ Some x
when_true t x e = rw e refl

pub number_back : (n : ℕ) → n < 2 ^ 32 → number_of (number_data n) ≡ Some n
number_back n h = when_true (nat_lt n 4294967296) n (below_is n 4294967296 h)

pub symbol_below : (names : List (List ℕ)) (n : ℕ) → length names < 2 ^ 32 → is_symbol names n ≡ true → n < 2 ^ 32
symbol_below names n few e =
    let h = and_parts (nat_lt 0 n) (nat_le n (length names)) e in
    let k : n ≤ length names = (Decides-leb n (length names)).0 h.1 in
    omega arith

pub cell_back : (s : ScopeTree) (n : ℕ) → length s.names < 2 ^ 32 → is_symbol s.names n ≡ true → cell_of s (number_data n) ≡ Some n
cell_back s n few e =
    ap (option_and_then (λ k. when (is_symbol s.names k) k)) (number_back n (symbol_below s.names n few e)) ∙ when_true (is_symbol s.names n) n e

exit_back : (s : ScopeTree) (n : ℕ) → s.may_exit n ≡ true → n < 2 ^ 32 → exit_of s (number_data n) ≡ Some n
exit_back s n e h = ap (option_and_then (λ k. when (s.may_exit k) k)) (number_back n h) ∙ when_true (s.may_exit n) n e

phi_back : (s : ScopeTree) (n : ℕ) → s.phi ≡ true → n < 256 → phi_of s (number_data n) ≡ Some n
phi_back s n e h = ap (option_and_then (λ k. when s.phi k)) (when_true (nat_lt n 256) n (below_is n 256 h)) ∙ when_true s.phi n e

pub whole_back : (z : ℤ) → unsigned_abs z < 2 ^ 62 → whole_of (whole_data z) ≡ Some z
whole_back (pos n) h =
    let a : int_lt (pos n) (pos 0) ≡ false = false_from_ne_true (int_lt (pos n) (pos 0)) (λ l. omega (arith, ints, l)) in
    let b : int_lt (pos n) (pos 18446744073709551616) ≡ true = below_is n 18446744073709551616 (omega arith) in
    ap whole_of (not_chosen (int_lt (pos n) (pos 0)) _ _ a ∙ chosen (int_lt (pos n) (pos 18446744073709551616)) _ _ b)
whole_back (negsuc n) h =
    let b : int_le (negsuc 9223372036854775807) (negsuc n) ≡ true = (Decides-leb n 9223372036854775807).1 (omega arith) in
    ap whole_of (chosen (int_le (negsuc 9223372036854775807) (negsuc n)) _ _ b)

-- ---- variables and terms

var_back : (s : ScopeTree) (v : Var) → length s.names < 2 ^ 32 → VarFits s v → var_of s (letter v) (number_data (the_number v)) ≡ Some v
var_back s (Cell n) few h = ap (option_map (λ k. Cell k)) (cell_back s n few h)
var_back s (Exit n) few h = ap (option_map (λ k. Exit k)) (exit_back s n h.0 h.1)
var_back s (Phi n) few h = ap (option_map (λ k. Phi k)) (phi_back s n h.0 h.1)
var_back s (Aux n) few h = absurd h

term_back : (s : ScopeTree) (t : Term) → length s.names < 2 ^ 32 → VarFits s t.var → unsigned_abs t.factor < 2 ^ 62 → term_of s (term_data t) ≡ Some t
term_back s t few h k =
    ap (option_and_then (λ v. option_map (λ z. term v z) (whole_of (whole_data t.factor)))) (var_back s t.var few h)
    ∙ ap (option_map (λ z. term t.var z)) (whole_back t.factor k)

ascend_test : (ts : List Term) → Ascends ts → terms_ascend ts ≡ true
ascend_test [] h = refl
ascend_test (t ∷ []) h = ap not h.0
ascend_test (t ∷ u ∷ us) h = and_from (not (int_eq t.factor (pos 0))) (var_lt t.var u.var && terms_ascend (u ∷ us)) (ap not h.0) (and_from (var_lt t.var u.var) (terms_ascend (u ∷ us)) h.1.0 (ascend_test (u ∷ us) h.2))

terms_back : (s : ScopeTree) (ts : List Term) → length s.names < 2 ^ 32 → Each (λ (t : Term). VarFits s t.var) ts → are_small ts ≡ true → Ascends ts → terms_of s (list_data (map term_data ts)) ≡ Some ts
terms_back s ts few h k a =
    ap (option_and_then (λ us. when (terms_ascend us) us))
    (list_back (term_of s) term_data ts (each_both (λ (t : Term). VarFits s t.var) (λ (t : Term). is_small t.factor ≡ true) (λ (t : Term). term_of s (term_data t) ≡ Some t) (λ t v w. term_back s t few v (small_is t.factor w)) ts h (each_all (λ (t : Term). is_small t.factor) ts k)))
    ∙ when_true (terms_ascend ts) ts (ascend_test ts a)

-- ---- rows

flag_back : (b : Bool) → flag_of (flag_data b) ≡ Some b
flag_back true = refl
flag_back false = refl

row_back : (s : ScopeTree) (r : Row) → length s.names < 2 ^ 32 → RowNames s r → is_small_row r ≡ true → Ascends r.terms → row_of s (row_data r) ≡ Some r
row_back s r few h k a =
    let b = and_parts (is_small r.bound) (are_small r.terms) k in
    ap (option_and_then (λ e. option_and_then (λ z. option_map (λ ts. row e ts z) (terms_of s (list_data (map term_data r.terms)))) (whole_of (whole_data r.bound)))) (flag_back r.equal)
    ∙ (ap (option_and_then (λ z. option_map (λ ts. row r.equal ts z) (terms_of s (list_data (map term_data r.terms))))) (whole_back r.bound (small_is r.bound b.0))
    ∙ ap (option_map (λ ts. row r.equal ts r.bound)) (terms_back s r.terms few h b.1 a))

equal_last : (e l : Bool) → (e ≡ true → l ≡ false) → not (e && l) ≡ true
equal_last true l h = ap not (h refl)
equal_last false l h = refl

last_equal : (e l : Bool) → not (e && l) ≡ true → e ≡ true → l ≡ false
last_equal true true h e = cc
last_equal true false h e = refl
last_equal false l h e = cc

pub normal_test : (r : Row) → IsNormal r → is_reduced r ≡ true
normal_test r h =
    let k = reduced_parts r h in
    and_from (not (has_no_terms r.terms)) (nat_eq (divisor r.terms 0) 1 && not (r.equal && last_is_negative r.terms)) (ap not k.some)
    (and_from (nat_eq (divisor r.terms 0) 1) (not (r.equal && last_is_negative r.terms)) ((Decides-eqb (divisor r.terms 0) 1).1 k.divisor_one) (equal_last r.equal (last_is_negative r.terms) k.last))

pub test_normal : (r : Row) → Ascends r.terms → is_reduced r ≡ true → is_small_row r ≡ true → IsNormal r
test_normal r a e k =
    let p = and_parts (not (has_no_terms r.terms)) (nat_eq (divisor r.terms 0) 1 && not (r.equal && last_is_negative r.terms)) e in
    let q = and_parts (nat_eq (divisor r.terms 0) 1) (not (r.equal && last_is_negative r.terms)) p.1 in
    (a, normal-reduced false r (record { some = not_true (has_no_terms r.terms) p.0; divisor_one = (Decides-eqb (divisor r.terms 0) 1).0 q.0; small = k; last = last_equal r.equal (last_is_negative r.terms) q.1 }))

-- ---- systems

pub all_rows : (P : Row → Type 0) (rs : List Row) → AllRows P rs → Each P rs
all_rows P [] h = tt
all_rows P (r ∷ rs) h = (h.0, all_rows P rs h.1)

pub rows_all : (P : Row → Type 0) (rs : List Row) → Each P rs → AllRows P rs
rows_all P [] h = tt
rows_all P (r ∷ rs) h = (h.0, rows_all P rs h.1)

-- what the rows of a system that calls take are
pub record AreSound (rs : List Row) : Type 0 where
  pub small : Each (λ r. is_small_row r ≡ true) rs
  pub ascend : Each (λ (r : Row). Ascends r.terms) rs
  pub fit : rows_fit rs ≡ true

false_small : is_small_row false_row ≡ true
unfolding is_small
false_small = refl

pub sound_rows : (rs : List Row) → length rs ≤ row_limit → AreNormal false rs → AreSound rs
sound_rows rs l (inl e) =
    subst AreSound (sym e) (record { small = (false_small, tt); ascend = (tt, tt); fit = refl })
sound_rows rs l (inr h) =
    let n = all_rows IsNormal rs h in
    record {
      small = each_map IsNormal (λ r. is_small_row r ≡ true) (λ r k. (reduced_parts r k).small) rs n;
      ascend = each_map IsNormal (λ (r : Row). Ascends r.terms) (λ r k. k.0) rs n;
      fit = and_from (nat_le (length rs) row_limit) (is_false_alone rs || list_all is_reduced rs) ((Decides-leb (length rs) row_limit).1 l)
          (or_right (is_false_alone rs) (list_all is_reduced rs) (all_each is_reduced rs (each_map IsNormal (λ r. is_reduced r ≡ true) normal_test rs n)));
    }

rows_back : (s : ScopeTree) (rs : List Row) → length s.names < 2 ^ 32 → Each (RowNames s) rs → AreSound rs → rows_of s (list_data (map row_data rs)) ≡ Some rs
rows_back s rs few h a =
    let each = each_both (λ r. RowNames s r × (is_small_row r ≡ true)) (λ (r : Row). Ascends r.terms) (λ r. row_of s (row_data r) ≡ Some r) (λ r p q. row_back s r few p.0 p.1 q) rs
    (each_both (RowNames s) (λ r. is_small_row r ≡ true) (λ r. RowNames s r × (is_small_row r ≡ true)) (λ r p q. (p, q)) rs h a.small) a.ascend in
    ap (option_and_then (λ qs. when (rows_fit qs) qs)) (list_back (row_of s) row_data rs each) ∙ when_true (rows_fit rs) rs a.fit

-- a system that fits is read again
pub system_back : (s : ScopeTree) (y : System) → length s.names < 2 ^ 32 → SystemFits s y → system_of s (system_data y) ≡ Some y
system_back s y few h = ap (option_and_then (λ rs. option_map (system rs) (Some y.weak))) (rows_back s y.rows few h.1 (sound_rows y.rows h.0.0 h.0.1))

-- and its numbers are small
pub system_small : (s : ScopeTree) (y : System) → SystemFits s y → is_small_system y ≡ true
system_small s y h = all_each is_small_row y.rows (sound_rows y.rows h.0.0 h.0.1).small

-- ---- what is read fits

below_read : (m : ℕ) (d : Data) (n : ℕ) → number_below m d ≡ Some n → n < m
below_read m d n e =
    let a = and_then_some (λ j. when (nat_lt j m) j) (option_and_then as_u64 (as_number d)) n e in
    let b = when_some (nat_lt a.0 m) a.0 n a.2 in
    subst (λ j. j < m) b.1 ((Decides-ltb a.0 m).0 b.0)

pub cell_read : (s : ScopeTree) (d : Data) (n : ℕ) → cell_of s d ≡ Some n → is_symbol s.names n ≡ true
cell_read s d n e =
    let a = and_then_some (λ k. when (is_symbol s.names k) k) (number_of d) n e in
    let b = when_some (is_symbol s.names a.0) a.0 n a.2 in
    subst (λ k. is_symbol s.names k ≡ true) b.1 b.0

exit_read : (s : ScopeTree) (d : Data) (n : ℕ) → exit_of s d ≡ Some n → (s.may_exit n ≡ true) × (n < 2 ^ 32)
exit_read s d n e =
    let a = and_then_some (λ k. when (s.may_exit k) k) (number_of d) n e in
    let b = when_some (s.may_exit a.0) a.0 n a.2 in
    subst (λ k. (s.may_exit k ≡ true) × (k < 2 ^ 32)) b.1 (b.0, below_read 4294967296 d a.0 a.1)

phi_read : (s : ScopeTree) (d : Data) (n : ℕ) → phi_of s d ≡ Some n → (s.phi ≡ true) × (n < 256)
phi_read s d n e =
    let a = and_then_some (λ k. when s.phi k) (number_below 256 d) n e in
    let b = when_some s.phi a.0 n a.2 in
    subst (λ k. (s.phi ≡ true) × (k < 256)) b.1 (b.0, below_read 256 d a.0 a.1)

pub either_some : {A : Type 0} (P : Type 0) (t : Bool) (o p : Option A) (y : A) → (o ≡ Some y → P) → (p ≡ Some y → P) → (if t then o else p) ≡ Some y → P
either_some P true o p y f g e = f e
either_some P false o p y f g e = g e

var_read : (s : ScopeTree) (x : List ℕ) (d : Data) (v : Var) → var_of s x d ≡ Some v → VarFits s v
var_read s x d v e =
    either_some (VarFits s v) (bytes_eq x (codes "c")) (option_map (λ n. Cell n) (cell_of s d)) _ v cell
    (either_some (VarFits s v) (bytes_eq x (codes "x")) (option_map (λ n. Exit n) (exit_of s d)) _ v exit
    (either_some (VarFits s v) (bytes_eq x (codes "p")) (option_map (λ n. Phi n) (phi_of s d)) None v phi (λ f. cc))) e
  where
    cell : option_map (λ n. Cell n) (cell_of s d) ≡ Some v → VarFits s v
    cell f = let m = map_some (λ n. Cell n) (cell_of s d) v f in subst (VarFits s) m.2 (cell_read s d m.0 m.1)

    exit : option_map (λ n. Exit n) (exit_of s d) ≡ Some v → VarFits s v
    exit f = let m = map_some (λ n. Exit n) (exit_of s d) v f in subst (VarFits s) m.2 (exit_read s d m.0 m.1)

    phi : option_map (λ n. Phi n) (phi_of s d) ≡ Some v → VarFits s v
    phi f = let m = map_some (λ n. Phi n) (phi_of s d) v f in subst (VarFits s) m.2 (phi_read s d m.0 m.1)

term_read : (s : ScopeTree) (d : Data) (t : Term) → term_of s d ≡ Some t → VarFits s t.var
term_read s d t e =
    let a = and_then_some (λ p. option_and_then (term_in s p.1.0 p.1.1) (as_str p.0)) (triple_of d) t e in
    let b = and_then_some (term_in s a.0.1.0 a.0.1.1) (as_str a.0.0) t a.2 in
    let c = and_then_some (λ v. option_map (λ z. term v z) (whole_of a.0.1.1)) (var_of s b.0 a.0.1.0) t b.2 in
    let m = map_some (λ z. term c.0 z) (whole_of a.0.1.1) t c.2 in
    subst (λ (u : Term). VarFits s u.var) m.2 (var_read s b.0 a.0.1.0 c.0 c.1)

pub test_ascend : (ts : List Term) → terms_ascend ts ≡ true → Ascends ts
test_ascend [] e = tt
test_ascend (t ∷ []) e = (not_true (int_eq t.factor (pos 0)) e, tt, tt)
test_ascend (t ∷ u ∷ us) e =
    let a = and_parts (not (int_eq t.factor (pos 0))) (var_lt t.var u.var && terms_ascend (u ∷ us)) e in
    let b = and_parts (var_lt t.var u.var) (terms_ascend (u ∷ us)) a.1 in
    let h = test_ascend (u ∷ us) b.1 in
    (not_true (int_eq t.factor (pos 0)) a.0, (b.0, before_later t.var u.var us b.0 h.1), h)

-- the variables of a row may be named, and its terms ascend
abbrev pub RowRead : ScopeTree → Row → Type 0
RowRead s r = RowNames s r × Ascends r.terms

terms_read : (s : ScopeTree) (d : Data) (ts : List Term) → terms_of s d ≡ Some ts → Each (λ (t : Term). VarFits s t.var) ts × Ascends ts
terms_read s d ts e =
    let a = and_then_some (λ us. when (terms_ascend us) us) (list_as (term_of s) d) ts e in
    let b = when_some (terms_ascend a.0) a.0 ts a.2 in
    let P : List Term → Type 0 = λ us. Each (λ (t : Term). VarFits s t.var) us × Ascends us in
    subst P b.1 (list_read (term_of s) (λ (t : Term). VarFits s t.var) (term_read s) d a.0 a.1, test_ascend a.0 b.0)

row_read : (s : ScopeTree) (d : Data) (r : Row) → row_of s d ≡ Some r → RowRead s r
row_read s d r e =
    let a = and_then_some (λ p. row_in s p.0 p.1.0 p.1.1) (triple_of d) r e in
    let b = and_then_some (λ f. option_and_then (λ z. option_map (λ ts. row f ts z) (terms_of s a.0.1.1)) (whole_of a.0.1.0)) (flag_of a.0.0) r a.2 in
    let c = and_then_some (λ z. option_map (λ ts. row b.0 ts z) (terms_of s a.0.1.1)) (whole_of a.0.1.0) r b.2 in
    let m = map_some (λ ts. row b.0 ts c.0) (terms_of s a.0.1.1) r c.2 in
    subst (RowRead s) m.2 (terms_read s a.0.1.1 m.0 m.1)

false_is : (r : Row) → is_false_row r ≡ true → r ≡ false_row
false_is r e =
    let a = and_parts (has_no_terms r.terms) (not r.equal && int_eq r.bound (negsuc 0)) e in
    let b = and_parts (not r.equal) (int_eq r.bound (negsuc 0)) a.1 in
    ap (λ q. row q r.terms r.bound) (not_true r.equal b.0) ∙ (ap (λ ts. row false ts r.bound) (no_terms r.terms a.0) ∙ ap (row false []) (is_number r.bound (negsuc 0) b.1))

false_alone : (rs : List Row) → is_false_alone rs ≡ true → rs ≡ false_row ∷ []
false_alone [] e = cc
false_alone (r ∷ []) e = ap (λ q. q ∷ []) (false_is r e)
false_alone (r ∷ q ∷ qs) e = cc

pub rows_normal : (s : ScopeTree) (rs : List Row) → Each (RowRead s) rs → list_all is_small_row rs ≡ true → rows_fit rs ≡ true → (length rs ≤ row_limit) × AreNormal false rs
rows_normal s rs h k e =
    let a = and_parts (nat_le (length rs) row_limit) (is_false_alone rs || list_all is_reduced rs) e in
    ((Decides-leb (length rs) row_limit).0 a.0, go (or_cases (is_false_alone rs) (list_all is_reduced rs) a.1))
  where
    normal_rows : list_all is_reduced rs ≡ true → Each IsNormal rs
    normal_rows f =
        each_both (RowRead s) (λ r. (is_reduced r ≡ true) × (is_small_row r ≡ true)) IsNormal (λ r p q. test_normal r p.1 q.0 q.1) rs h
        (each_both (λ r. is_reduced r ≡ true) (λ r. is_small_row r ≡ true) (λ r. (is_reduced r ≡ true) × (is_small_row r ≡ true)) (λ r p q. (p, q)) rs (each_all is_reduced rs f) (each_all is_small_row rs k))

    go : (is_false_alone rs ≡ true) ⊎ (list_all is_reduced rs ≡ true) → AreNormal false rs
    go (inl f) = inl (false_alone rs f)
    go (inr f) = inr (rows_all IsNormal rs (normal_rows f))

rows_read : (s : ScopeTree) (d : Data) (rs : List Row) → rows_of s d ≡ Some rs → Each (RowRead s) rs × (rows_fit rs ≡ true)
rows_read s d rs e =
    let a = and_then_some (λ qs. when (rows_fit qs) qs) (list_as (row_of s) d) rs e in
    let b = when_some (rows_fit a.0) a.0 rs a.2 in
    let P : List Row → Type 0 = λ qs. Each (RowRead s) qs × (rows_fit qs ≡ true) in
    subst P b.1 (list_read (row_of s) (RowRead s) (row_read s) d a.0 a.1, b.0)

-- a system that is read and small fits
pub system_read : (s : ScopeTree) (d : Data) (y : System) → system_of s d ≡ Some y → is_small_system y ≡ true → SystemFits s y
system_read s d y e k =
    let a = if_some (has_members 2 d) (option_and_then (λ rs. option_map (system rs) (member_as as_bool (codes "weak") d)) (member_as (rows_of s) (codes "rows") d)) y e in
    let b = and_then_some (λ rs. option_map (system rs) (member_as as_bool (codes "weak") d)) (member_as (rows_of s) (codes "rows") d) y a.1 in
    let m = map_some (system b.0) (member_as as_bool (codes "weak") d) y b.2 in
    let g = and_then_some (rows_of s) (get (codes "rows") d) b.0 b.1 in
    let r = rows_read s g.0 b.0 g.2 in
    let small : list_all is_small_row b.0 ≡ true = subst (λ (z : System). is_small_system z ≡ true) (sym m.2) k in
    subst (SystemFits s) m.2 (rows_normal s b.0 r.0 small r.1, each_map (RowRead s) (RowNames s) (λ q p. p.0) b.0 r.0)
