-- Sets in order have at most one region of a variable and kind, as what is written of these tells.
use Rattle.std.proofs.Common.{◌≡◌, ℕ, suc, arith, true, false, List, [], ◌∷◌, ◌++◌, get_or, drop, map, Some, None, refl, sym, ap, ap₂, ◌∙◌}
use Rattle.std.specs.Prelude.{if◌then◌else◌, is_none, bytes_eq}
use Rattle.std.specs.declared.cmp.Ordering.TheVariants.{Less, Equal}
use Rattle.std.specs.Ordering.{nat_cmp, ordering_then}
use Rattle.std.proofs.lemmas.Bool.{and_from, false_from_ne_true}
use Rattle.std.proofs.lemmas.Slice.Eq.{bytes_eq-Decides}
use Rattle.std.proofs.lemmas.Cmp.{nat_cmp_total, tied_itself}
use Rattle.f77_ast.specs.declared.variable.Variable.{Variable}
use Rattle.f77_ast.specs.declared.variable.Variable.TheVariants.{Own, Block, Saved}
use Rattle.f77_ast.specs.Symbols.{number_from}
use Rattle.f77_ast.specs.Variables.{variable_cmp}
use Rattle.preconditions.specs.transformer_algebra.Laws.{In, here, there}
use Rattle.in_out_regions.specs.region_sets.declared.region.Access.{Access}
use Rattle.in_out_regions.specs.region_sets.declared.region.Access.TheVariants as access
use Rattle.in_out_regions.specs.region_sets.declared.region.Region.{Region}
use Rattle.in_out_regions.specs.region_sets.Sets.{access_number, region_cmp}
use Rattle.in_out_regions.specs.region_sets.Written.{access_text, name_text}
use Rattle.base_json.specs.Written.{text_data}
use Rattle.base_json.specs.Distinct.{are_new}
use Rattle.base_json.specs.Scopes.{cells_alone, variable_of}
use Rattle.base_values.specs.Naming.{Each, AreNames, VariableFits}
use Rattle.base_values.specs.Read.{region_key, are_apart}
use Rattle.base_values.proofs.NamesBack.{own_read_back, block_read_back, saved_read_back}
use Rattle.laws_marks.proofs.InUnique.{Ordered, itself}
use Rattle.base_values.proofs.Options.{each_map as each_more}
use Rattle.laws_stored.proofs.Lists.{each-append}
use Rattle.fx_lists.proofs.Orders.{no_equal_less}

-- ---- what is written of a variable

read_back : (names : List (List ℕ)) (v : Variable) → AreNames names → VariableFits names v → variable_of (cells_alone names) (text_data (name_text names v)) ≡ Some v
read_back names (Own n) are h = own_read_back (cells_alone names) n are h
read_back names (Block b) are h = block_read_back (cells_alone names) b are h
read_back names (Saved m x) are h = saved_read_back (cells_alone names) m x are h

some_is : (v w : Variable) → Some v ≡ Some w → v ≡ w
some_is v w e = cc

same_variable : (names : List (List ℕ)) → AreNames names → (v w : Variable) → VariableFits names v → VariableFits names w → name_text names v ≡ name_text names w → v ≡ w
same_variable names are v w h k e = some_is v w (sym (read_back names v are h) ∙ (ap (λ x. variable_of (cells_alone names) (text_data x)) e ∙ read_back names w are k))

-- ---- keys

pub record SameKey (a b : Access) (x y : List ℕ) : Type 0 where
  kinds : a ≡ b
  texts : x ≡ y

abbrev first_letter : List ℕ → ℕ
first_letter l = get_or l 0 0

same_key : (a b : Access) (x y : List ℕ) → access_text a ++ x ≡ access_text b ++ y → SameKey a b x y
same_key access.Read access.Read x y e = record { kinds = refl; texts = ap (drop 5) e }
same_key access.Read access.Write x y e = let q : 82 ≡ 87 = ap first_letter e in absurd (omega (arith, q))
same_key access.Read access.In x y e = let q : 82 ≡ 73 = ap first_letter e in absurd (omega (arith, q))
same_key access.Read access.Out x y e = let q : 82 ≡ 79 = ap first_letter e in absurd (omega (arith, q))
same_key access.Write access.Read x y e = let q : 87 ≡ 82 = ap first_letter e in absurd (omega (arith, q))
same_key access.Write access.Write x y e = record { kinds = refl; texts = ap (drop 6) e }
same_key access.Write access.In x y e = let q : 87 ≡ 73 = ap first_letter e in absurd (omega (arith, q))
same_key access.Write access.Out x y e = let q : 87 ≡ 79 = ap first_letter e in absurd (omega (arith, q))
same_key access.In access.Read x y e = let q : 73 ≡ 82 = ap first_letter e in absurd (omega (arith, q))
same_key access.In access.Write x y e = let q : 73 ≡ 87 = ap first_letter e in absurd (omega (arith, q))
same_key access.In access.In x y e = record { kinds = refl; texts = ap (drop 3) e }
same_key access.In access.Out x y e = let q : 73 ≡ 79 = ap first_letter e in absurd (omega (arith, q))
same_key access.Out access.Read x y e = let q : 79 ≡ 82 = ap first_letter e in absurd (omega (arith, q))
same_key access.Out access.Write x y e = let q : 79 ≡ 87 = ap first_letter e in absurd (omega (arith, q))
same_key access.Out access.In x y e = let q : 79 ≡ 73 = ap first_letter e in absurd (omega (arith, q))
same_key access.Out access.Out x y e = record { kinds = refl; texts = ap (drop 4) e }

module _ (names : List (List ℕ)) (are : AreNames names) where
  abbrev Named : Region → Type 0
  Named r = VariableFits names r.variable

  tie : (r q : Region) → Named r → Named q → region_key names q ≡ region_key names r → region_cmp r q ≡ Equal
  tie r q h k e =
      let s = same_key q.kind r.kind (name_text names q.variable) (name_text names r.variable) e in
      let v = same_variable names are q.variable r.variable k h s.texts in
      let first : nat_cmp (access_number r.kind) (access_number q.kind) ≡ Equal = ap (λ (a : Access). nat_cmp (access_number r.kind) (access_number a)) s.kinds ∙ tied_itself nat_cmp_total (access_number r.kind) in
      let second : variable_cmp r.variable q.variable ≡ Equal = ap (variable_cmp r.variable) v ∙ itself r.variable in
      ap₂ (λ x y. ordering_then x y) first second

  -- a key is of none of these regions
  abbrev OfNone : List Region → List ℕ → Type 0
  OfNone rs b = Each (λ r. bytes_eq (region_key names r) b ≡ false) rs

  of_others : (r : Region) (rs : List Region) → Named r → Each Named rs → ((q : Region) → In q rs → region_cmp r q ≡ Less) → OfNone rs (region_key names r)
  of_others r [] h k f = tt
  of_others r (q ∷ qs) h k f = (
    false_from_ne_true (bytes_eq (region_key names q) (region_key names r)) (λ e. no_equal_less (sym (tie r q h k.0 ((bytes_eq-Decides (region_key names q) (region_key names r)).0 e)) ∙ f q here)),
    of_others r qs h k.1 (λ w i. f w (there i)),
  )

  none_among : (n : ℕ) (before : List (List ℕ)) (k : List ℕ) → Each (λ b. bytes_eq k b ≡ false) before → number_from n before k ≡ None
  none_among n [] k h = refl
  none_among n (b ∷ bs) k h = ap (λ t. if t then Some n else number_from (suc n) bs k) h.0 ∙ none_among (suc n) bs k h.1

  all_new : (before : List (List ℕ)) (rs : List Region) → Each (OfNone rs) before → Each Named rs → Ordered rs → are_new before (map (region_key names) rs) ≡ true
  all_new before [] h k o = refl
  all_new before (r ∷ rs) h k o =
      let key = region_key names r in
      let here_new = none_among 1 before key (each_more (OfNone (r ∷ rs)) (λ b. bytes_eq key b ≡ false) (λ b i. i.0) before h) in
      let later = each-append (OfNone rs) before (key ∷ []) (each_more (OfNone (r ∷ rs)) (OfNone rs) (λ b i. i.1) before h) (of_others r rs k.0 k.1 o.0, tt) in
      and_from (is_none (number_from 1 before key)) (are_new (before ++ key ∷ []) (map (region_key names) rs)) (ap is_none here_new) (all_new (before ++ key ∷ []) rs later k.1 o.1)

  pub ordered_apart : (rs : List Region) → Each Named rs → Ordered rs → are_apart names rs ≡ true
  ordered_apart rs h o = all_new [] rs tt h o
