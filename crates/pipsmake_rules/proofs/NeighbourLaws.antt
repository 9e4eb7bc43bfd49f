-- Callees and callers: the two steps to callers, and the places of both where callees come first.
use Rattle.std.proofs.Common.{◌≡◌, ℕ, suc, ◌<◌, ◌≤◌, length, Bool, true, false, ◌&&◌, ◌||◌, List, [], ◌∷◌, ◌++◌, refl, sym, ap, ◌∙◌, subst, arith}
use Rattle.std.specs.Prelude.{nat_lt, bytes_eq, filter, reverse, if◌then◌else◌}
use Rattle.std.specs.List.{list_any, list_all}
use Rattle.std.specs.Cmp.Lexicographic.{bytes_decides}
use Rattle.std.proofs.lemmas.Bool.{and_parts, and_from}
use Rattle.std.proofs.lemmas.List.Folds.{list_all-append}
use Rattle.std.proofs.lemmas.List.{reverse-append}
use Rattle.call_graph.specs.declared.graph.Edge.{Edge}
use Rattle.call_graph.specs.declared.graph.Graph.{Graph}
use Rattle.pipsmake_rules.specs.Neighbours.{has_name, name_put, callees_from, callees_of, calls, callers_of, calling}
use Rattle.pipsmake_rules.specs.Laws.{place_in, is_bottom_up}

-- ---- callers in two steps

pub calling-calls : (x y : List ℕ) (es : List Edge) → has_name (calling x es) y ≡ list_any (calls y x) es
calling-calls x y [] = refl
calling-calls x y (e ∷ es) = go (bytes_eq e.callee x) (calling-calls x y es)
  where
    into : (p q c : Bool) → p ≡ q → (c || p) ≡ ((c && true) || q)
    into p q true ih = refl
    into p q false ih = ih

    past : (p q c : Bool) → p ≡ q → p ≡ ((c && false) || q)
    past p q true ih = ih
    past p q false ih = ih

    go : (b : Bool) → has_name (calling x es) y ≡ list_any (calls y x) es → has_name ((if b then e.caller ∷ [] else []) ++ calling x es) y ≡ ((bytes_eq e.caller y && b) || list_any (calls y x) es)
    go true ih = into (has_name (calling x es) y) (list_any (calls y x) es) (bytes_eq e.caller y) ih
    go false ih = past (has_name (calling x es) y) (list_any (calls y x) es) (bytes_eq e.caller y) ih

pub filter_alike : (p q : List ℕ → Bool) → ((y : List ℕ) → p y ≡ q y) → (ys : List (List ℕ)) → filter p ys ≡ filter q ys
filter_alike p q h [] = refl
filter_alike p q h (y ∷ ys) = ap (λ b. if b then y ∷ filter p ys else filter p ys) (h y) ∙ ap (λ zs. if q y then y ∷ zs else zs) (filter_alike p q h ys)

pub two_steps : (g : Graph) (x : List ℕ) → reverse (filter (has_name (calling x g.edges)) g.order) ≡ callers_of g x
two_steps g x = ap reverse (filter_alike (has_name (calling x g.edges)) (λ y. list_any (calls y x) g.edges) (λ y. calling-calls x y g.edges) g.order)

-- one name more that is looked at
pub filter_step : (p : List ℕ → Bool) (y : List ℕ) (ys : List (List ℕ)) → filter p (y ∷ ys) ≡ filter p (y ∷ []) ++ filter p ys
filter_step p y ys = go (p y)
  where
    go : (b : Bool) → (if b then y ∷ filter p ys else filter p ys) ≡ (if b then y ∷ [] else []) ++ filter p ys
    go true = refl
    go false = refl

pub ruleset filter_steps = (filter_step)

-- ---- places

abbrev pub comes_first : Graph → List ℕ → List ℕ → Bool
comes_first g x y = nat_lt (place_in g.order x) (place_in g.order y)

put_first : (g : Graph) (x y : List ℕ) (found : List (List ℕ)) → comes_first g y x ≡ true → list_all (λ z. comes_first g z x) found ≡ true → list_all (λ z. comes_first g z x) (name_put y found) ≡ true
put_first g x y found e all = go (has_name found y)
  where
    go : (b : Bool) → list_all (λ z. comes_first g z x) (if b then found else found ++ y ∷ []) ≡ true
    go true = all
    go false = list_all-append (λ z. comes_first g z x) found (y ∷ []) ∙ and_from (list_all (λ z. comes_first g z x) found) (comes_first g y x && true) all (and_from (comes_first g y x) true e refl)

callees_first-from : (g : Graph) (x : List ℕ) (es : List Edge) (found : List (List ℕ)) → list_all (λ e. comes_first g e.callee e.caller) es ≡ true → list_all (λ z. comes_first g z x) found ≡ true → list_all (λ z. comes_first g z x) (callees_from x es found) ≡ true
callees_first-from g x [] found up all = all
callees_first-from g x (e ∷ es) found up all =
    let parts = and_parts (comes_first g e.callee e.caller) (list_all (λ d. comes_first g d.callee d.caller) es) up in
    go parts.0 (bytes_eq e.caller x) refl (λ f h. callees_first-from g x es f parts.1 h)
  where
    go : comes_first g e.callee e.caller ≡ true → (b : Bool) → bytes_eq e.caller x ≡ b → ((f : List (List ℕ)) → list_all (λ z. comes_first g z x) f ≡ true → list_all (λ z. comes_first g z x) (callees_from x es f) ≡ true) → list_all (λ z. comes_first g z x) (callees_from x es (if b then name_put e.callee found else found)) ≡ true
    go here true q ih =
        let is : e.caller ≡ x = (bytes_decides e.caller x).0 q in
        ih (name_put e.callee found) (put_first g x e.callee found (subst (λ z. comes_first g e.callee z ≡ true) is here) all)
    go here false q ih = ih found all

-- what a module calls comes before it
pub callees_first : (g : Graph) (x : List ℕ) → is_bottom_up g ≡ true → list_all (λ y. comes_first g y x) (callees_of g x) ≡ true
callees_first g x up = callees_first-from g x g.edges [] up refl

caller_after : (g : Graph) (x y : List ℕ) (es : List Edge) → list_all (λ e. comes_first g e.callee e.caller) es ≡ true → list_any (calls y x) es ≡ true → comes_first g x y ≡ true
caller_after g x y [] up e = cc
caller_after g x y (d ∷ ds) up e =
    let parts = and_parts (comes_first g d.callee d.caller) (list_all (λ c. comes_first g c.callee c.caller) ds) up in
    go parts.0 (calls y x d) refl e (caller_after g x y ds parts.1)
  where
    go : comes_first g d.callee d.caller ≡ true → (b : Bool) → calls y x d ≡ b → (b || list_any (calls y x) ds) ≡ true → (list_any (calls y x) ds ≡ true → comes_first g x y ≡ true) → comes_first g x y ≡ true
    go here true q r ih =
        let both = and_parts (bytes_eq d.caller y) (bytes_eq d.callee x) q in
        let caller : d.caller ≡ y = (bytes_decides d.caller y).0 both.0 in
        let callee : d.callee ≡ x = (bytes_decides d.callee x).0 both.1 in
        subst (λ z. comes_first g z y ≡ true) callee (subst (λ z. comes_first g d.callee z ≡ true) caller here)
    go here false q r ih = ih r

filter_all : (p q : List ℕ → Bool) → ((y : List ℕ) → p y ≡ true → q y ≡ true) → (ys : List (List ℕ)) → list_all q (filter p ys) ≡ true
filter_all p q h [] = refl
filter_all p q h (y ∷ ys) = go (p y) refl (filter_all p q h ys)
  where
    go : (b : Bool) → p y ≡ b → list_all q (filter p ys) ≡ true → list_all q (if b then y ∷ filter p ys else filter p ys) ≡ true
    go true e ih = and_from (q y) (list_all q (filter p ys)) (h y e) ih
    go false e ih = ih

all_reverse : (q : List ℕ → Bool) (ys : List (List ℕ)) → list_all q ys ≡ true → list_all q (reverse ys) ≡ true
all_reverse q [] e = refl
all_reverse q (y ∷ ys) e =
    let parts = and_parts (q y) (list_all q ys) e in
    ap (list_all q) (reverse-append (y ∷ []) ys) ∙ list_all-append q (reverse ys) (y ∷ []) ∙ and_from (list_all q (reverse ys)) (q y && true) (all_reverse q ys parts.1) (and_from (q y) true parts.0 refl)

-- what calls a module comes after it
pub callers_after : (g : Graph) (x : List ℕ) → is_bottom_up g ≡ true → list_all (λ y. comes_first g x y) (callers_of g x) ≡ true
callers_after g x up =
    all_reverse (λ y. comes_first g x y) (filter (λ y. list_any (calls y x) g.edges) g.order)
    (filter_all (λ y. list_any (calls y x) g.edges) (λ y. comes_first g x y) (λ y e. caller_after g x y g.edges up e) g.order)

pub place_in-length : (xs : List (List ℕ)) (x : List ℕ) → place_in xs x ≤ length xs
place_in-length [] x = omega arith
place_in-length (y ∷ ys) x = go (bytes_eq y x) (place_in-length ys x)
  where
    go : (b : Bool) → place_in ys x ≤ length ys → (if b then 0 else suc (place_in ys x)) ≤ suc (length ys)
    go true ih = omega arith
    go false ih = omega (arith, ih)
