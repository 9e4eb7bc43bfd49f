-- What a map has at a name after one name more.
use Rattle.std.proofs.Common.{◌≡◌, ℕ, Bool, true, false, List, Option, Some, sym, ap, ◌∙◌, subst, refl, Vec, Global}
use Rattle.std.specs.Prelude.{if◌then◌else◌, bytes_eq, option_map}
use Rattle.std.specs.Cmp.Lexicographic.{bytes_decides, nat_list_eq_equiv}
use Rattle.std.specs.HashMap.{HashMap, get_by, Updates}
use Rattle.std.specs.Map.{KeepsOthers}
use Rattle.std.specs.declared.hash.FoldHasher.{FoldHasher}
use Rattle.std.specs.declared.hash.BuildHasherDefault.{BuildHasherDefault}
use Rattle.f77_ast.specs.declared.summaries.Summary.{Summary}
use Rattle.f77_ast.specs.Summaries.{SummaryTree, summary_tree}

abbrev pub same_key : Vec ℕ Global → Vec ℕ Global → Bool
same_key k l = bytes_eq k.items l.items

module _ {X : Type 0} (m n : HashMap (Vec ℕ Global) X (BuildHasherDefault FoldHasher)) (k : Vec ℕ Global) (w : Option X) where
  others_stay : KeepsOthers same_key (same_key k) m.entries n.entries → (q : List ℕ) → bytes_eq k.items q ≡ false → get_by (λ l. bytes_eq q l.items) n ≡ get_by (λ l. bytes_eq q l.items) m
  unfolding KeepsOthers
  others_stay h q e =
      h (λ l. bytes_eq q l.items) (λ a b. nat_list_eq_equiv.congr q a.items b.items)
      (λ l t. nat_list_eq_equiv.symm q l.items ∙ sym (nat_list_eq_equiv.congr k.items l.items q t) ∙ e)

  pub inserted : Updates same_key m n k w → (q : List ℕ) → get_by (λ l. bytes_eq q l.items) n ≡ (if bytes_eq k.items q then w else get_by (λ l. bytes_eq q l.items) m)
  inserted h q = go (bytes_eq k.items q) refl
    where
      go : (b : Bool) → bytes_eq k.items q ≡ b → get_by (λ l. bytes_eq q l.items) n ≡ (if b then w else get_by (λ l. bytes_eq q l.items) m)
      go true e = subst (λ r. get_by (λ l. bytes_eq r l.items) n ≡ w) ((bytes_decides k.items q).0 e) h.1
      go false e = others_stay h.3 q e

mapped : {X Y : Type 0} (f : X → Y) (b : Bool) (x : X) (y : Y) (o : Option X) → f x ≡ y → option_map f (if b then Some x else o) ≡ (if b then Some y else option_map f o)
mapped f true x y o e = ap Some e
mapped f false x y o e = refl

-- summaries after one more
pub added : {T : Type 0} (m n : HashMap (Vec ℕ Global) (Summary T) (BuildHasherDefault FoldHasher)) (k : Vec ℕ Global) (s : Summary T) (name : List ℕ) (t : SummaryTree T) → Updates same_key m n k (Some s) → k.items ≡ name → summary_tree s ≡ t → (x : List ℕ) → option_map summary_tree (get_by (λ l. bytes_eq x l.items) n) ≡ (if bytes_eq name x then Some t else option_map summary_tree (get_by (λ l. bytes_eq x l.items) m))
added m n k s name t h same e x =
    ap (option_map summary_tree) (inserted m n k (Some s) h x) ∙ mapped summary_tree (bytes_eq k.items x) s t (get_by (λ l. bytes_eq x l.items) m) e
    ∙ ap (λ y. if bytes_eq y x then Some t else option_map summary_tree (get_by (λ l. bytes_eq x l.items) m)) same
