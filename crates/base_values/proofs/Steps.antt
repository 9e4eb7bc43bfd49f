-- Lists that are made one element after another.
use Rattle.std.proofs.Common.{◌≡◌, ℕ, List, [], ◌∷◌, ◌++◌, ◌<◌, ◌≤◌, arith, length, map, append-nil, append_assoc, Option, Some, None, option_map, option_and_then, refl, ap, ◌∙◌, sym}
use Rattle.serde_json.specs.Data.{Data}
use Rattle.serde_json.specs.View.{view}
use Rattle.serde_json.specs.declared.value.Value.{Value}
use Rattle.f77_ast.specs.declared.variable.Variable.{Variable}
use Rattle.f77_ast.specs.declared.variable.Variable.TheVariants.{Own}
use Rattle.f77_ast.specs.declared.results.At.{At}
use Rattle.base_json.proofs.Lists.{after, array_made, after_one}
use Rattle.base_json.specs.Scopes.{ScopeTree}
use Rattle.base_values.specs.Read.{reason_in, with_number, numbers_of, at_one, at_each}

pub own_more : (ns : List ℕ) (n : ℕ) (vs : List Variable) → after (ns ++ n ∷ []) (numbers_of vs) ≡ after ns (numbers_of (Own n ∷ vs))
own_more ns n vs = after_one ns n (numbers_of vs)

pub at_more : {T : Type 0} (f : Data → Option T) (xs : List (At T)) (n : ℕ) (ns : List ℕ) (d : Data) (ds : List Data) (x : At T) → at_one f n d ≡ Some x →
    after (xs ++ x ∷ []) (at_each f ns ds) ≡ after xs (at_each f (n ∷ ns) (d ∷ ds))
at_more f xs n ns d ds x e =
    after_one xs x (at_each f ns ds) ∙ ap (λ o. after xs (option_and_then (λ a. option_map (λ as'. a ∷ as') (at_each f ns ds)) o)) (sym e)

pub at_none : {T : Type 0} (f : Data → Option T) (xs : List (At T)) (n : ℕ) (ns : List ℕ) (d : Data) (ds : List Data) → at_one f n d ≡ None → after xs (at_each f (n ∷ ns) (d ∷ ds)) ≡ None
at_none f xs n ns d ds e = ap (λ o. after xs (option_and_then (λ a. option_map (λ as'. a ∷ as') (at_each f ns ds)) o)) e

-- two items
pub reason_two : (s : ScopeTree) (vs : List Value) → length vs ≡ 2 → reason_in s (map view vs) ≡ None
reason_two s [] h = refl
reason_two s (v ∷ []) h = absurd (omega arith)
reason_two s (v ∷ w ∷ []) h = refl
reason_two s (v ∷ w ∷ x ∷ xs) h = absurd (omega arith)

-- more than three
pub reason_many : (s : ScopeTree) (vs : List Value) → 4 ≤ length vs → reason_in s (map view vs) ≡ None
reason_many s [] h = refl
reason_many s (v ∷ []) h = absurd (omega arith)
reason_many s (v ∷ w ∷ []) h = refl
reason_many s (v ∷ w ∷ x ∷ []) h = absurd (omega arith)
reason_many s (v ∷ w ∷ x ∷ y ∷ ys) h = refl

pub ruleset keys = (append-nil, append_assoc)

pub ruleset marks = (array_made, append-nil, append_assoc)

-- no item
pub reason_none : (s : ScopeTree) (vs : List Value) → length vs < 1 → reason_in s (map view vs) ≡ None
reason_none s [] h = refl
reason_none s (v ∷ vs) h = absurd (omega arith)

pub ruleset reasons = (reason_none, reason_two, reason_many)

pub ruleset numbers = (own_more, append-nil)

pub ruleset reads = (at_more, at_none, append-nil)
