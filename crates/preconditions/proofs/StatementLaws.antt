-- What is known of statements, their parts, and the results at them.
use Rattle.std.proofs.Common.{◌≡◌, ℕ, zero, suc, ◌-◌, Bool, true, false, List, [], ◌∷◌, Option, Some, None, append_assoc, append-nil, subst, sym, ap}
use Rattle.std.specs.Prelude.{if◌then◌else◌, nat_eq, slice_get, IfSome}
use Rattle.std.proofs.lemmas.List.Elements.{All-push}
use Rattle.affine_systems.specs.declared.row.System.{System}
use Rattle.affine_systems.specs.Given.{Fits}
use Rattle.f77_ast.specs.Trees.{StmtTrees}
use Rattle.f77_ast.proofs.PlainlyStmt.{what_calls, list_calls, loop_calls as do_calls, arm_calls as if_calls}
use Rattle.f77_ast.specs.Shared.{numbered}
use Rattle.f77_ast.specs.declared.results.At.{At}
use Rattle.transformers.specs.transformer_algebra.declared.transformer.Transformer.{Transformer}
use Rattle.transformers.specs.transformer_algebra.Transformers.{identity_transformer}
use Rattle.transformers.specs.call_translation.Scopes.{ScopeTree}
use Rattle.transformers.specs.Given.{ResultsFit}
use Rattle.transformers.specs.Jumps.{unstructured}
use Rattle.transformers.specs.Lists.{first_at, or_first, value_at, or_unchanging, transformer_at}
use Rattle.preconditions.specs.Statement.{PreconditionList, after_each, before_last, after_list, throughout, at_each, at_all, at_list}
use Rattle.preconditions.specs.WhileParts.{last_begins}

pub ruleset part_calls = (what_calls, append_assoc, append-nil, All-push)

pub ruleset statement_calls = (list_calls, append_assoc, append-nil)

-- a list that does not run from the first statement to the last, and one that does
pub after_any : (whole : Bool) (body : StmtTrees) (m : ScopeTree) (t : PreconditionList) (p : System) → unstructured whole body ≡ true → after_list whole body m t p ≡ throughout whole body t p
after_any whole body m t p e = ap (λ b. if b then throughout whole body t p else after_each body m t p) e

pub after_order : (whole : Bool) (body : StmtTrees) (m : ScopeTree) (t : PreconditionList) (p : System) → unstructured whole body ≡ false → after_list whole body m t p ≡ after_each body m t p
after_order whole body m t p e = ap (λ b. if b then throughout whole body t p else after_each body m t p) e

pub at_any : (whole : Bool) (body : StmtTrees) (m : ScopeTree) (t : PreconditionList) (p : System) → unstructured whole body ≡ true → at_list whole body m t p ≡ at_all body m t (throughout whole body t p)
at_any whole body m t p e = ap (λ b. if b then at_all body m t (throughout whole body t p) else at_each body m t p) e

pub at_order : (whole : Bool) (body : StmtTrees) (m : ScopeTree) (t : PreconditionList) (p : System) → unstructured whole body ≡ false → at_list whole body m t p ≡ at_each body m t p
at_order whole body m t p e = ap (λ b. if b then at_all body m t (throughout whole body t p) else at_each body m t p) e

-- where the last statement of a list begins
pub last_any : (body : StmtTrees) (m : ScopeTree) (t : PreconditionList) (p : System) → unstructured false body ≡ true → last_begins body m t p ≡ throughout false body t p
last_any body m t p e = ap (λ b. if b then throughout false body t p else before_last body m t p) e

pub last_order : (body : StmtTrees) (m : ScopeTree) (t : PreconditionList) (p : System) → unstructured false body ≡ false → last_begins body m t p ≡ before_last body m t p
last_order body m t p e = ap (λ b. if b then throughout false body t p else before_last body m t p) e

pub ruleset last_cases = (list_calls, last_any, last_order, at_any, at_order)

pub ruleset list_cases = (list_calls, after_any, after_order, at_any, at_order)

pub ruleset body_calls = (do_calls, append_assoc, append-nil)

pub ruleset arm_calls = (if_calls, append_assoc, append-nil, All-push)

-- ---- the transformer of a statement is one that calls take

abbrev pub SystemFits : Transformer → Type 0
SystemFits t = Fits t.system

abbrev pub ResultFits : At Transformer → Type 0
ResultFits a = Fits a.value.system

first_fits : (n : ℕ) (as' : List (At Transformer)) → ResultsFit as' → IfSome (first_at n as') SystemFits
first_fits n [] h = tt
first_fits n (a ∷ as') h = go (nat_eq a.id n) (first_fits n as' h.1)
  where
    go : (b : Bool) → IfSome (first_at n as') SystemFits → IfSome (if b then Some a.value else first_at n as') SystemFits
    go true k = h.0
    go false k = k

get_fits : (as' : List (At Transformer)) (k : ℕ) → ResultsFit as' → IfSome (slice_get as' k) ResultFits
get_fits [] k h = tt
get_fits (a ∷ as') zero h = h.0
get_fits (a ∷ as') (suc k) h = get_fits as' k h.1

numbered_fits : (as' : List (At Transformer)) (n : ℕ) → ResultsFit as' → IfSome (numbered as' n) ResultFits
numbered_fits as' n h = go (nat_eq n 0)
  where
    go : (b : Bool) → IfSome (if b then None else slice_get as' (n - 1)) ResultFits
    go true = tt
    go false = get_fits as' (n - 1) h

or_first_fits : (o : Option (At Transformer)) (n : ℕ) (as' : List (At Transformer)) → IfSome o ResultFits → ResultsFit as' → IfSome (or_first o n as') SystemFits
or_first_fits None n as' k h = first_fits n as' h
or_first_fits (Some a) n as' k h = go (nat_eq a.id n)
  where
    go : (b : Bool) → IfSome (if b then Some a.value else first_at n as') SystemFits
    go true = k
    go false = first_fits n as' h

pub value_fits : (as' : List (At Transformer)) (n : ℕ) → ResultsFit as' → IfSome (value_at as' n) SystemFits
value_fits as' n h = or_first_fits (numbered as' n) n as' (numbered_fits as' n h) h

pub found_fits : (as' : List (At Transformer)) (n : ℕ) (t : Transformer) → Some t ≡ value_at as' n → ResultsFit as' → Fits t.system
found_fits as' n t e h = subst (λ o. IfSome o SystemFits) (sym e) (value_fits as' n h)

pub found_is : (as' : List (At Transformer)) (n : ℕ) (t : Transformer) → Some t ≡ value_at as' n → t ≡ transformer_at as' n
found_is as' n t e = ap or_unchanging e

pub none_is : (as' : List (At Transformer)) (n : ℕ) → None ≡ value_at as' n → identity_transformer ≡ transformer_at as' n
none_is as' n e = ap or_unchanging e

pub ruleset results_found = (found_fits, found_is, none_is)
