-- The kinds of results and their names.
use Rattle.std.proofs.Common.{◌≡◌, ℕ, false, List, [], ◌∷◌, Option, Some, None, refl, sym, ap, ◌∙◌, cond}
use Rattle.std.specs.Prelude.{◌≢◌, bytes_eq, find, IfSome, IfNone}
use Rattle.std.proofs.lemmas.Bool.{false_from_ne_true}
use Rattle.std.proofs.lemmas.Slice.Eq.{bytes_eq-Decides}
use Rattle.session_texts.specs.pipsmake_rules.declared.kind.Kind.{Kind}
use Rattle.session_texts.specs.pipsmake_rules.Kinds.{name_of, kinds, kind_with}
use Rattle.session_texts.proofs.PipsmakeRules.Shared.{named_back}

none_found : (x : List ℕ) → ((k : Kind) → name_of k ≢ x) → (ks : List Kind) → find (λ k. bytes_eq (name_of k) x) ks ≡ None
none_found x h [] = refl
none_found x h (k ∷ ks) =
    let other : bytes_eq (name_of k) x ≡ false = false_from_ne_true (bytes_eq (name_of k) x) (λ e. h k ((bytes_eq-Decides (name_of k) x).0 e)) in
    ap (λ b. cond b (Some k) (find (λ j. bytes_eq (name_of j) x) ks)) other ∙ none_found x h ks

kind_found : (k : Kind) (x : List ℕ) → name_of k ≡ x → Some k ≡ kind_with x
kind_found k x e = sym (named_back k) ∙ ap kind_with e

kind_missing : (x : List ℕ) → ((k : Kind) → name_of k ≢ x) → None ≡ kind_with x
kind_missing x h = sym (none_found x h kinds)

pub with_name : (r : Option Kind) (x : List ℕ) → IfSome r (λ k. name_of k ≡ x) → IfNone r ((k : Kind) → name_of k ≢ x) → r ≡ kind_with x
with_name None x some none = kind_missing x none
with_name (Some k) x some none = kind_found k x some
