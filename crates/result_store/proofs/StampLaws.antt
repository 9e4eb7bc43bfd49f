-- What values were made from, compared.
use Rattle.std.proofs.Common.{◌≡◌, ℕ, Bool, true, false, List, map, Option, Some, None, refl, sym, ap, ◌∙◌, subst, eqb-true}
use Rattle.std.specs.Prelude.{◌↔◌, IsTrue, ◌&&◌, nat_eq, bytes_eq, option_map}
use Rattle.std.specs.Bool.{Decides}
use Rattle.std.specs.Cmp.Lexicographic.{pointwise, pointwise_decides, bytes_decides}
use Rattle.std.specs.Borrow.{Bor}
use Rattle.std.proofs.Common.{eq-eqb}
use Rattle.pipsmake_rules.specs.Kinds.{same_kind}
use Rattle.pipsmake_rules.proofs.KindLaws.{same_kind-true, same_kind_self}
use Rattle.pipsmake_meaning.specs.MemoCells.{Stamped}
use Rattle.pipsmake_meaning.specs.Values.{Item, text, result}
use Rattle.result_store.specs.declared.item.Stamped as code
use Rattle.result_store.specs.Stamps.{same_item, same_stamped}
use Rattle.result_store.specs.Values.{stamped_tree}
use Rattle.fx_lists.proofs.Booleans.{and_from, and_parts}

item_same : (a b : Item) → same_item a b ≡ true → a ≡ b
item_same text text e = refl
item_same text (result k) e = cc
item_same (result k) text e = cc
item_same (result j) (result k) e = ap result (same_kind-true j k e)

item_self : (a : Item) → same_item a a ≡ true
item_self text = refl
item_self (result k) = same_kind_self k

stamped_is : (a b : Stamped) → same_stamped a b ≡ true → a ≡ b
stamped_is a b e =
    let p = and_parts (same_item a.item b.item) (bytes_eq a.name b.name && nat_eq a.stamp b.stamp) e in
    let q = and_parts (bytes_eq a.name b.name) (nat_eq a.stamp b.stamp) p.1 in
    let mk : Item → List ℕ → ℕ → Stamped = λ i x n. record { item = i; name = x; stamp = n } in
    ap (λ i. mk i a.name a.stamp) (item_same a.item b.item p.0)
    ∙ ap (λ x. mk b.item x a.stamp) ((bytes_decides a.name b.name).0 q.0)
    ∙ ap (λ n. mk b.item b.name n) (eqb-true a.stamp b.stamp q.1)

stamped_self : (a : Stamped) → same_stamped a a ≡ true
stamped_self a = and_from (same_item a.item a.item) (bytes_eq a.name a.name && nat_eq a.stamp a.stamp) (item_self a.item) (and_from (bytes_eq a.name a.name) (nat_eq a.stamp a.stamp) ((bytes_decides a.name a.name).1 refl) (eq-eqb a.stamp a.stamp refl))

stamped_decides : (a b : Stamped) → Decides (same_stamped a b) (a ≡ b)
stamped_decides a b = (stamped_is a b, λ e. subst (λ c. same_stamped a c ≡ true) e (stamped_self a))

pub stamps_decide : (xs ys : List Stamped) → Decides (pointwise same_stamped xs ys) (xs ≡ ys)
stamps_decide xs ys = pointwise_decides {E = same_stamped} stamped_decides xs ys

-- what is kept was made from these exactly where the test says so
pub made_from : (needs : Option (List Stamped)) (ns : List Stamped) (us : List Stamped) (b : Bool) → Some ns ≡ needs → b ≡ pointwise same_stamped ns us → IsTrue b ↔ (needs ≡ Some us)
made_from needs ns us b e t =
    let d = stamps_decide ns us in
    (λ h. sym e ∙ ap Some (d.0 (sym t ∙ h)), λ h. t ∙ d.1 (let z : Some ns ≡ Some us = e ∙ h in cc))

pub made_from_none : (needs : Option (List Stamped)) (us : List Stamped) → None ≡ needs → IsTrue false ↔ (needs ≡ Some us)
made_from_none needs us e = (λ h. cc, λ h. (let z : None ≡ Some us = e ∙ h in cc))
