-- Items one after another.
use Rattle.std.proofs.Common.{◌≡◌, ℕ, ◌+◌, ◌<◌, ◌≤◌, Bool, true, List, [], ◌∷◌, ◌++◌, length, map, drop, get_or, drop_of_length-le, append_assoc, sym, ap, ◌∙◌}
use Rattle.serde_json.specs.Data.{Data}
use Rattle.serde_json.specs.View.{items_of}
use Rattle.serde_json.specs.Written.{compact_text, comma_if, items_text}
use Rattle.base_json.proofs.Lists.{drop_step}

-- one item more
pub one_item : {A : Type 0} (g : A → Data) (out mid new : List ℕ) (later : Bool) (xs : List A) (i : ℕ) (x : A) (all : List ℕ) → i < length xs → x ≡ get_or xs i x → mid ≡ out ++ comma_if later → new ≡ mid ++ compact_text (g x) →
    out ++ items_text later (items_of (map g (drop i xs))) ≡ all → new ++ items_text true (items_of (map g (drop (i + 1) xs))) ≡ all
one_item g out mid new later xs i x all l e m n k =
    let rest = items_text true (items_of (map g (drop (i + 1) xs))) in
    ap (λ zs. zs ++ rest) (n ∙ ap (λ zs. zs ++ compact_text (g x)) m)
    ∙ (append_assoc (out ++ comma_if later) (compact_text (g x)) rest
    ∙ (append_assoc out (comma_if later) (compact_text (g x) ++ rest)
    ∙ (ap (λ y. out ++ (comma_if later ++ (compact_text (g y) ++ rest))) e
    ∙ (ap (λ ys. out ++ items_text later (items_of (map g ys))) (sym (drop_step xs i x l)) ∙ k))))

-- the bracket behind the last
pub last_item : {A : Type 0} (g : A → Data) (out : List ℕ) (later : Bool) (xs : List A) (i : ℕ) (all : List ℕ) → length xs ≤ i → out ++ items_text later (items_of (map g (drop i xs))) ≡ all → out ++ 93 ∷ [] ≡ all
last_item g out later xs i all l k = ap (λ ys. out ++ items_text later (items_of (map g ys))) (sym (drop_of_length-le xs l)) ∙ k
