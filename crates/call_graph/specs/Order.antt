-- The order of modules, each behind those that it calls.
use Rattle.std.specs.Prelude.{ℕ, zero, suc, Bool, true, false, not, ◌&&◌, nat_eq, List, [], ◌∷◌, ◌++◌, length, slice_get, option_to_list, Option, Some, None, if◌then◌else◌}
use Rattle.std.specs.List.{list_any, list_all}

abbrev pub holds : List ℕ → ℕ → Bool
holds ks k = list_any (λ m. nat_eq m k) ks

-- a module that is not in the order yet, and all that it calls are
abbrev pub ready : List ℕ → ℕ → List ℕ → Bool
ready done k cs = not (holds done k) && list_all (λ c. holds done c) cs

-- the first such module, where the first of these has the place k
abbrev pub first_ready : ℕ → List (List ℕ) → List ℕ → Option ℕ
first_ready k [] done = None
first_ready k (cs ∷ css) done = if ready done k cs then Some k else first_ready (suc k) css done

abbrev pub with_next : Option ℕ → List ℕ → List ℕ
with_next None done = done
with_next (Some k) done = done ++ k ∷ []

-- so many times the first module that comes next
abbrev pub order_from : ℕ → List (List ℕ) → List ℕ → List ℕ
order_from zero css done = done
order_from (suc t) css done = order_from t css (with_next (first_ready 0 css done) done)

-- the places of the modules, bottom-up
abbrev pub order_of : List (List ℕ) → List ℕ
order_of css = order_from (length css) css []

-- the names at these places
abbrev pub names_at : List ℕ → List (List ℕ) → List (List ℕ)
names_at [] names = []
names_at (k ∷ ks) names = option_to_list (slice_get names k) ++ names_at ks names
