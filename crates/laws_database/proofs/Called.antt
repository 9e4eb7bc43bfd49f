-- What a rule finds of the modules that a module calls, and of those that call it, is what the analysis of all modules has of them.
use Rattle.std.proofs.Common.{◌≡◌, ℕ, Bool, true, false, ◌&&◌, ◌||◌, List, [], ◌∷◌, ◌++◌, Option, Some, None, refl, sym, ap, ◌∙◌, append-nil}
use Rattle.std.specs.Prelude.{bytes_eq, option_to_list, filter, reverse, cond, if◌then◌else◌}
use Rattle.std.specs.List.{list_any}
use mathlib.Core.List.{reverse-cons}
use Rattle.std.proofs.lemmas.Bool.{or_left, or_right}
use Rattle.std.proofs.lemmas.List.Folds.{list_any-append}
use Rattle.std.proofs.lemmas.Slice.Eq.{bytes_eq-Decides}
use Rattle.f77_ast.specs.Summaries.{SummaryTree}
use Rattle.f77_ast.specs.declared.results.Results.{Results}
use Rattle.call_graph.specs.declared.graph.Edge.{Edge}
use Rattle.call_graph.specs.declared.graph.Graph.{Graph}
use Rattle.f77_meaning.specs.Linked.{callees}
use Rattle.call_graph.specs.CallsIn.{Each}
use Rattle.laws_database.specs.ResultCallees.{Summaries}
use Rattle.laws_database.specs.ResultCallers.{calls_by, caller_names}
use Rattle.laws_database.specs.ResultNeeds.{SameAt}
use Rattle.loop_marker.specs.module_phases.Callees.{Callee, summary_of, callee_at, callees_of}
use Rattle.session_texts.specs.pipsmake_rules.declared.kind.Kind.{Kind}
use Rattle.session_texts.specs.pipsmake_rules.declared.key.Key.{Key}
use Rattle.session_texts.specs.pipsmake_rules.Keys.{key_of}
use Rattle.session_texts.specs.pipsmake_rules.Needs.{by_module}
use Rattle.session_texts.specs.pipsmake_rules.Neighbours.{has_name, name_put, callees_from, calls, callers_of}
use Rattle.session_texts.specs.pipsmake_rules.Neighbours as names
use Rattle.session_texts.proofs.PipsmakeRules.NeighbourLaws.{filter_alike}
use Rattle.session_texts.specs.pipsmake_meaning.Texts.{ModuleText, ReadModule}
use Rattle.session_texts.specs.pipsmake_meaning.Definitions.{module_named}
use Rattle.session_texts.specs.pipsmake_meaning.Rules.{callee_with, callees_with}

-- ---- names

put_has : (z : List ℕ) (xs : List (List ℕ)) → has_name (name_put z xs) z ≡ true
put_has z xs = go (has_name xs z) refl
  where
    go : (b : Bool) → has_name xs z ≡ b → has_name (if b then xs else xs ++ z ∷ []) z ≡ true
    go true e = e
    go false e = list_any-append (λ y. bytes_eq y z) xs (z ∷ []) ∙ or_right (has_name xs z) (bytes_eq z z || false) (or_left (bytes_eq z z) false ((bytes_eq-Decides z z).1 refl))

put_keeps : (z y : List ℕ) (xs : List (List ℕ)) → has_name xs y ≡ true → has_name (name_put z xs) y ≡ true
put_keeps z y xs h = go (has_name xs z)
  where
    go : (b : Bool) → has_name (if b then xs else xs ++ z ∷ []) y ≡ true
    go true = h
    go false = list_any-append (λ x. bytes_eq x y) xs (z ∷ []) ∙ or_left (has_name xs y) (bytes_eq z y || false) h

still : (x y : List ℕ) (es : List Edge) (found : List (List ℕ)) → has_name found y ≡ true → has_name (callees_from x es found) y ≡ true
still x y [] found h = h
still x y (e ∷ es) found h = go (bytes_eq e.caller x) (still x y es)
  where
    go : (b : Bool) → ((more : List (List ℕ)) → has_name more y ≡ true → has_name (callees_from x es more) y ≡ true) → has_name (callees_from x es (if b then name_put e.callee found else found)) y ≡ true
    go true ih = ih (name_put e.callee found) (put_keeps e.callee y found h)
    go false ih = ih found h

-- each CALL's name is among those that a module calls
pub all_listed : (x : List ℕ) (es : List Edge) (found : List (List ℕ)) → Each (λ y. has_name (callees_from x es found) y ≡ true) (callees es x)
all_listed x [] found = tt
all_listed x (e ∷ es) found = go (bytes_eq e.caller x) (all_listed x es)
  where
    go : (b : Bool) → ((more : List (List ℕ)) → Each (λ y. has_name (callees_from x es more) y ≡ true) (callees es x)) →
        Each (λ y. has_name (callees_from x es (if b then name_put e.callee found else found)) y ≡ true) (if b then e.callee ∷ callees es x else callees es x)
    go true ih = (still x e.callee es (name_put e.callee found) (put_has e.callee found), ih (name_put e.callee found))
    go false ih = ih found

-- ---- callees

pub record IsSeen {T : Type 0} (ts : List ModuleText) (found : List ℕ → Option (Results T)) (want : Summaries T) (y : List ℕ) : Type 0 where
  pub read : ReadModule
  pub result : Results T
  pub is_read : module_named ts y ≡ Some read
  pub is_found : found y ≡ Some result
  pub wanted : want y ≡ Some (record { symbols = read.table; value = result.summary })

module _ {T : Type 0} (ts : List ModuleText) (found : List ℕ → Option (Results T)) (want : Summaries T) where
  abbrev one : (z : List ℕ) → IsSeen ts found want z → Callee T
  one z s = record { name = z; symbols = s.read.table; summary = s.result.summary }

  first : (z : List ℕ) (zs : List (List ℕ)) (s : IsSeen ts found want z) → callees_with found ts (z ∷ zs) ≡ one z s ∷ callees_with found ts zs
  first z zs s = λ i. option_to_list (callee_with z (s.is_read i) (s.is_found i)) ++ callees_with found ts zs

  seen_last : (ys : List (List ℕ)) → Each (IsSeen ts found want) ys → (y : List ℕ) (o : Option (SummaryTree T)) → o ≡ want y → callee_at o (callees_with found ts ys) y ≡ want y
  seen_last [] h y o e = e
  seen_last (z ∷ zs) h y o e = ap (λ cs. callee_at o cs y) (first z zs h.0) ∙ go (bytes_eq z y) refl (seen_last zs h.1 y)
    where
      go : (b : Bool) → bytes_eq z y ≡ b → ((p : Option (SummaryTree T)) → p ≡ want y → callee_at p (callees_with found ts zs) y ≡ want y) → callee_at (if b then Some (summary_of (one z h.0)) else o) (callees_with found ts zs) y ≡ want y
      go true f ih = ih (Some (summary_of (one z h.0))) (sym h.0.wanted ∙ ap want ((bytes_eq-Decides z y).0 f))
      go false f ih = ih o e

  seen_first : (ys : List (List ℕ)) → Each (IsSeen ts found want) ys → (y : List ℕ) → has_name ys y ≡ true → (o : Option (SummaryTree T)) → callee_at o (callees_with found ts ys) y ≡ want y
  seen_first [] h y n o = cc
  seen_first (z ∷ zs) h y n o = ap (λ cs. callee_at o cs y) (first z zs h.0) ∙ go (bytes_eq z y) refl n (λ m. seen_first zs h.1 y m o)
    where
      go : (b : Bool) → bytes_eq z y ≡ b → (b || has_name zs y) ≡ true → (has_name zs y ≡ true → callee_at o (callees_with found ts zs) y ≡ want y) → callee_at (if b then Some (summary_of (one z h.0)) else o) (callees_with found ts zs) y ≡ want y
      go true f m ih = seen_last zs h.1 y (Some (summary_of (one z h.0))) (sym h.0.wanted ∙ ap want ((bytes_eq-Decides z y).0 f))
      go false f m ih = ih m

  each_seen : (ys : List (List ℕ)) → Each (IsSeen ts found want) ys → (zs : List (List ℕ)) → Each (λ y. has_name ys y ≡ true) zs → SameAt zs (callees_of (callees_with found ts ys)) want
  each_seen ys h [] m = tt
  each_seen ys h (z ∷ zs) m = (seen_first ys h z m.0 None, each_seen ys h zs m.1)

  -- by each CALL of a module the rule finds what is wanted
  pub called_are : (g : Graph) (x : List ℕ) → Each (IsSeen ts found want) (names.callees_of g x) → SameAt (callees g.edges x) (callees_of (callees_with found ts (names.callees_of g x))) want
  called_are g x h = each_seen (names.callees_of g x) h (callees g.edges x) (all_listed x g.edges [])

-- ---- needs of callees and callers

pub second_of : (P : Key → Type 0) (a b : Kind) (ys : List (List ℕ)) (rest : List Key) → Each P (by_module (a ∷ b ∷ []) ys ++ rest) → Each (λ y. P (key_of a y) × P (key_of b y)) ys
second_of P a b [] rest h = tt
second_of P a b (y ∷ ys) rest h = ((h.0, h.1.0), second_of P a b ys rest h.1.1)

pub skip_none : (P : Key → Type 0) (ys : List (List ℕ)) (rest : List Key) → Each P (by_module [] ys ++ rest) → Each P rest
skip_none P [] rest h = h
skip_none P (y ∷ ys) rest h = skip_none P ys rest h

pub third_of : (P : Key → Type 0) (a b c : Kind) (ys : List (List ℕ)) → Each P (by_module (a ∷ b ∷ c ∷ []) ys) → Each (λ y. P (key_of a y) × P (key_of b y) × P (key_of c y)) ys
third_of P a b c [] h = tt
third_of P a b c (y ∷ ys) h = ((h.0, h.1.0, h.1.1.0), third_of P a b c ys h.1.1.1)

pub fourth_of : (P : Key → Type 0) (a b c d : Kind) (ys : List (List ℕ)) → Each P (by_module (a ∷ b ∷ c ∷ d ∷ []) ys) → Each (λ y. P (key_of a y) × P (key_of b y) × P (key_of c y) × P (key_of d y)) ys
fourth_of P a b c d [] h = tt
fourth_of P a b c d (y ∷ ys) h = ((h.0, h.1.0, h.1.1.0, h.1.1.1.0), fourth_of P a b c d ys h.1.1.1.1)

-- ---- callers

filter_last : (p : List ℕ → Bool) (xs : List (List ℕ)) (y : List ℕ) → filter p (xs ++ y ∷ []) ≡ filter p xs ++ filter p (y ∷ [])
filter_last p [] y = refl
filter_last p (x ∷ xs) y = go (p x) (filter_last p xs y)
  where
    go : (b : Bool) → filter p (xs ++ y ∷ []) ≡ filter p xs ++ filter p (y ∷ []) → cond b (x ∷ filter p (xs ++ y ∷ [])) (filter p (xs ++ y ∷ [])) ≡ cond b (x ∷ filter p xs) (filter p xs) ++ filter p (y ∷ [])
    go true ih = ap (λ z. x ∷ z) ih
    go false ih = ih

filter_reverse : (p : List ℕ → Bool) (xs : List (List ℕ)) → filter p (reverse xs) ≡ reverse (filter p xs)
filter_reverse p [] = refl
filter_reverse p (x ∷ xs) = ap (filter p) (reverse-cons x xs) ∙ (filter_last p (reverse xs) x ∙ (ap (λ z. z ++ filter p (x ∷ [])) (filter_reverse p xs) ∙ go (p x)))
  where
    go : (b : Bool) → reverse (filter p xs) ++ cond b (x ∷ []) [] ≡ reverse (cond b (x ∷ filter p xs) (filter p xs))
    go true = sym (reverse-cons x (filter p xs))
    go false = append-nil (reverse (filter p xs))

calls_same : (x y : List ℕ) (es : List Edge) → list_any (λ z. bytes_eq z x) (callees es y) ≡ list_any (calls y x) es
calls_same x y [] = refl
calls_same x y (e ∷ es) = go (bytes_eq e.caller y) (calls_same x y es)
  where
    go : (b : Bool) → list_any (λ z. bytes_eq z x) (callees es y) ≡ list_any (calls y x) es → list_any (λ z. bytes_eq z x) (if b then e.callee ∷ callees es y else callees es y) ≡ ((b && bytes_eq e.callee x) || list_any (calls y x) es)
    go true ih = ap (λ b. bytes_eq e.callee x || b) ih
    go false ih = ih

pub callers_same : (g : Graph) (x : List ℕ) → caller_names g x ≡ callers_of g x
callers_same g x = filter_reverse (calls_by g x) g.order ∙ ap reverse (filter_alike (calls_by g x) (λ y. list_any (calls y x) g.edges) (λ y. calls_same x y g.edges) g.order)
