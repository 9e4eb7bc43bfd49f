-- Results in lists: what the tests decide, and the numbers by which they are found.
use Rattle.std.proofs.Common.{◌≡◌, ℕ, zero, suc, ◌+◌, Bool, true, false, ◌&&◌, ◌||◌, ◌⊎◌, inl, inr, List, [], ◌∷◌, ◌++◌, length, get_or, map, Option, Some, None, refl, sym, ap, ◌∙◌, subst, arith}
use Rattle.std.specs.Prelude.{nat_eq, bytes_eq, is_some, if◌then◌else◌}
use Rattle.std.specs.List.{list_any, list_all}
use Rattle.std.specs.Cmp.Lexicographic.{bytes_decides, nat_list_eq_equiv}
use Rattle.std.proofs.lemmas.Bool.{eqb-true, eq-eqb, and_parts, and_from, or_left, or_right, or_cases}
use Rattle.std.proofs.lemmas.List.Folds.{list_any-append}
use Rattle.f77_ast.specs.Symbols.{number_from}
use Rattle.pipsmake_rules.specs.declared.kind.Kind.{Kind}
use Rattle.pipsmake_rules.specs.declared.key.Key.{Key}
use Rattle.pipsmake_rules.specs.Kinds.{same_kind}
use Rattle.pipsmake_rules.proofs.KindLaws.{same_kind-true, same_kind_self}
use Rattle.pipsmake_rules.specs.Keys.{same_key, holds, code_of}
use Rattle.fx_lists.proofs.Texts.{same_name}

-- ---- results

pub same_key-true : (a b : Key) → same_key a b ≡ true → a ≡ b
same_key-true a b e =
    let parts = and_parts (same_kind a.kind b.kind) (bytes_eq a.name b.name) e in
    let kind : a.kind ≡ b.kind = same_kind-true a.kind b.kind parts.0 in
    let name : a.name ≡ b.name = (bytes_decides a.name b.name).0 parts.1 in
    let at : Kind → List ℕ → Key = λ k x. record { kind = k; name = x } in
    ap (λ k. at k a.name) kind ∙ ap (λ x. at b.kind x) name

pub same_key_self : (k : Key) → same_key k k ≡ true
same_key_self k = and_from (same_kind k.kind k.kind) (bytes_eq k.name k.name) (same_kind_self k.kind) (same_name k.name)

pub holds-last : (ks : List Key) (k : Key) → holds (ks ++ k ∷ []) k ≡ true
holds-last ks k =
    list_any-append (λ j. same_key j k) ks (k ∷ []) ∙ or_right (holds ks k) (same_key k k || false) (or_left (same_key k k) false (same_key_self k))

pub holds-more : (ks : List Key) (k j : Key) → holds ks j ≡ true → holds (ks ++ k ∷ []) j ≡ true
holds-more ks k j e = list_any-append (λ i. same_key i j) ks (k ∷ []) ∙ or_left (holds ks j) (same_key k j || false) e

pub holds-cases : (ks : List Key) (k j : Key) → holds (ks ++ k ∷ []) j ≡ true → (holds ks j ≡ true) ⊎ (k ≡ j)
holds-cases ks k j e =
    elim (or_cases (holds ks j) (same_key k j || false) (sym (list_any-append (λ i. same_key i j) ks (k ∷ [])) ∙ e)) [
      | inl h ↦ inl h
      | inr h ↦ inr (elim (or_cases (same_key k j) false h) [ inl s ↦ same_key-true k j s | inr f ↦ cc ])
    ]

-- ---- where a result stands, by its code

pub found-holds : (n : ℕ) (ks : List Key) (k : Key) → is_some (number_from n (map code_of ks) (code_of k)) ≡ holds ks k
found-holds n [] k = refl
found-holds n (j ∷ js) k =
    go (bytes_eq (code_of k) (code_of j)) (same_key j k) (nat_list_eq_equiv.symm (code_of k) (code_of j)) (found-holds (suc n) js k)
  where
    go : (a b : Bool) → a ≡ b → is_some (number_from (suc n) (map code_of js) (code_of k)) ≡ holds js k → is_some (if a then Some n else number_from (suc n) (map code_of js) (code_of k)) ≡ (b || holds js k)
    go true true e ih = refl
    go true false e ih = cc
    go false true e ih = cc
    go false false e ih = ih

pub ruleset key_steps = (found-holds)
