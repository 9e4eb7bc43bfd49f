-- Kinds and their names.
use Rattle.std.proofs.Common.{◌≡◌, ℕ, Bool, true, false, ◌||◌, List, [], ◌∷◌, get_or, Option, Some, None, refl, sym, ap, ◌∙◌, subst}
use Rattle.std.specs.Prelude.{◌≢◌, bytes_eq, find, IfSome, IfNone, if◌then◌else◌}
use Rattle.std.specs.List.{list_any}
use Rattle.std.specs.Cmp.Lexicographic.{bytes_decides}
use Rattle.std.proofs.lemmas.Bool.{eqb-true, eq-eqb}
use Rattle.pipsmake_rules.specs.declared.kind.Kind.{Kind}
use Rattle.pipsmake_rules.specs.declared.kind.Kind.TheVariants.{Parsed, Lines, Symbols, CallGraph, Effects, Transformers, Preconditions, Regions, InRegions, OutRegions, Marks, Printed}
use Rattle.pipsmake_rules.specs.Kinds.{number_of, name_of, kinds, same_kind, kind_with}
use Rattle.fx_lists.proofs.Booleans.{no_both as both}

abbrev kind_at : ℕ → Kind
kind_at n = get_or kinds n Parsed

kind_at-number : (k : Kind) → kind_at (number_of k) ≡ k
kind_at-number Parsed = refl
kind_at-number Lines = refl
kind_at-number Symbols = refl
kind_at-number CallGraph = refl
kind_at-number Effects = refl
kind_at-number Transformers = refl
kind_at-number Preconditions = refl
kind_at-number Regions = refl
kind_at-number InRegions = refl
kind_at-number OutRegions = refl
kind_at-number Marks = refl
kind_at-number Printed = refl

pub same_kind-true : (a b : Kind) → same_kind a b ≡ true → a ≡ b
same_kind-true a b e = sym (kind_at-number a) ∙ ap kind_at (eqb-true (number_of a) (number_of b) e) ∙ kind_at-number b

pub same_kind_self : (k : Kind) → same_kind k k ≡ true
same_kind_self k = eq-eqb (number_of k) (number_of k) refl

-- ---- the kind of a name

is_there : (k : Kind) → list_any (λ j. same_kind j k) kinds ≡ true
is_there Parsed = refl
is_there Lines = refl
is_there Symbols = refl
is_there CallGraph = refl
is_there Effects = refl
is_there Transformers = refl
is_there Preconditions = refl
is_there Regions = refl
is_there InRegions = refl
is_there OutRegions = refl
is_there Marks = refl
is_there Printed = refl

find-Some : (p : Kind → Bool) (ks : List Kind) (k : Kind) → find p ks ≡ Some k → p k ≡ true
find-Some p [] k e = cc
find-Some p (j ∷ js) k e = go (p j) refl e (find-Some p js k)
  where
    go : (b : Bool) → p j ≡ b → (if b then Some j else find p js) ≡ Some k → (find p js ≡ Some k → p k ≡ true) → p k ≡ true
    go true q r ih = let same : j ≡ k = cc in subst (λ i. p i ≡ true) same q
    go false q r ih = ih r

find-None : (p : Kind → Bool) (ks : List Kind) (k : Kind) → find p ks ≡ None → list_any (λ j. same_kind j k) ks ≡ true → p k ≡ false
find-None p [] k e there = cc
find-None p (j ∷ js) k e there = go (p j) refl e (same_kind j k) refl there (find-None p js k)
  where
    go : (b : Bool) → p j ≡ b → (if b then Some j else find p js) ≡ None → (c : Bool) → same_kind j k ≡ c → (c || list_any (λ i. same_kind i k) js) ≡ true → (find p js ≡ None → list_any (λ i. same_kind i k) js ≡ true → p k ≡ false) → p k ≡ false
    go true q r c s t ih = cc
    go false q r true s t ih = subst (λ i. p i ≡ false) (same_kind-true j k s) q
    go false q r false s t ih = ih r t

pub named : (x : List ℕ) → IfSome (kind_with x) (λ k. name_of k ≡ x)
named x = go (kind_with x) refl
  where
    go : (o : Option Kind) → kind_with x ≡ o → IfSome o (λ k. name_of k ≡ x)
    go None e = tt
    go (Some k) e = (bytes_decides (name_of k) x).0 (find-Some (λ j. bytes_eq (name_of j) x) kinds k e)

pub unnamed : (x : List ℕ) → IfNone (kind_with x) ((k : Kind) → name_of k ≢ x)
unnamed x = go (kind_with x) refl
  where
    go : (o : Option Kind) → kind_with x ≡ o → IfNone o ((k : Kind) → name_of k ≢ x)
    go None e = λ k same. both (bytes_eq (name_of k) x) ((bytes_decides (name_of k) x).1 same) (find-None (λ j. bytes_eq (name_of j) x) kinds k e (is_there k))
    go (Some k) e = tt
