-- Steps of the loops over rows, symbols, variables and namings.
use Rattle.std.proofs.Common.{◌≡◌, ℕ, ◌+◌, ◌<◌, ◌≤◌, List, [], ◌∷◌, ◌++◌, length, drop, get_or, drop-cons, drop_of_length-le, add-one, append_assoc, append-nil, map, ap, ap₂, sym, ◌∙◌}
use Rattle.affine_systems.specs.declared.row.Var.{Var}
use Rattle.affine_systems.specs.declared.row.Row.{Row}
use Rattle.affine_systems.specs.Rows.{AllRows}
use Rattle.affine_systems.specs.Given.{IsGiven}
use Rattle.transformer_algebra.specs.declared.naming.Naming.{Naming}
use Rattle.transformer_algebra.specs.Renaming.{naming}
use Rattle.f77_ast.specs.declared.symbol.Symbol.{Symbol}
use Rattle.f77_ast.specs.Symbols.{symbol_tree}
use Rattle.call_translation.specs.Scopes.{ScopeTree}
use Rattle.call_translation.specs.Variables.{auxiliary_of, auxiliaries_in}
use Rattle.call_translation.specs.Sites.{HoldingSite}
use Rattle.call_translation.specs.SiteEntry.{row_of, rows_from, in_callee, names_from}
use Rattle.fx_lists.proofs.Lists.{at_place}

pub ruleset lists = (append_assoc, append-nil)

-- ---- rows

pub given-push : (rs : List Row) (r : Row) → AllRows IsGiven rs → IsGiven r → AllRows IsGiven (rs ++ r ∷ [])
given-push [] r h f = (f, tt)
given-push (s ∷ rs) r h f = (h.0, given-push rs r h.1 f)

pub ruleset giving = (given-push, append_assoc, append-nil)

-- ---- symbols

pub rows-more : (c : HoldingSite) (n : ℕ) (out new : List Row) (ss : List Symbol) (i : ℕ) (s : Symbol) → i < length ss → s ≡ get_or ss i s → new ≡ out ++ row_of c n (symbol_tree s) → new ++ rows_from c (n + 1) (map symbol_tree (drop (i + 1) ss)) ≡ out ++ rows_from c n (map symbol_tree (drop i ss))
rows-more c n out new ss i s l g e =
    let here = row_of c n (symbol_tree s) in
    let rest : ℕ → List Row = λ m. rows_from c m (map symbol_tree (drop (i + 1) ss)) in
    ap (λ (rs : List Row). rs ++ rest (n + 1)) e
    ∙ (append_assoc out here (rest (n + 1))
    ∙ ap (λ (rs : List Row). out ++ rs) (ap (λ m. here ++ rest m) (add-one n) ∙ sym (ap (λ (ts : List Symbol). rows_from c n (map symbol_tree ts)) (at_place ss i s l g))))

pub rows-end : (c : HoldingSite) (n : ℕ) (out : List Row) (ss : List Symbol) (i : ℕ) → length ss ≤ i → out ++ rows_from c n (map symbol_tree (drop i ss)) ≡ out
rows-end c n out ss i l = ap (λ (ts : List Symbol). out ++ rows_from c n (map symbol_tree ts)) (drop_of_length-le ss l) ∙ append-nil out

pub ruleset rows_loop = (rows-more, rows-end)

-- ---- variables

pub names-more : (m : ScopeTree) (c : HoldingSite) (n : ℕ) (out new : List Naming) (vs : List Var) (i : ℕ) (d : Var) → i < length vs → new ≡ out ++ naming (get_or vs i d) (in_callee m c n (get_or vs i d)) ∷ [] → new ++ names_from m c (n + 1) (drop (i + 1) vs) ≡ out ++ names_from m c n (drop i vs)
names-more m c n out new vs i d l e =
    let here = naming (get_or vs i d) (in_callee m c n (get_or vs i d)) in
    ap (λ (ns : List Naming). ns ++ names_from m c (n + 1) (drop (i + 1) vs)) e
    ∙ (append_assoc out (here ∷ []) (names_from m c (n + 1) (drop (i + 1) vs))
    ∙ ap (λ (ns : List Naming). out ++ ns) (ap₂ (λ k j. here ∷ names_from m c k (drop j vs)) (add-one n) (add-one i) ∙ sym (ap (names_from m c n) (drop-cons vs i d l))))

pub names-end : (m : ScopeTree) (c : HoldingSite) (n : ℕ) (out : List Naming) (vs : List Var) (i : ℕ) → length vs ≤ i → out ++ names_from m c n (drop i vs) ≡ out
names-end m c n out vs i l = ap (λ (ws : List Var). out ++ names_from m c n ws) (drop_of_length-le vs l) ∙ append-nil out

pub ruleset names_loop = (names-more, names-end)

pub auxiliaries-more : (out new : List Var) (ns : List Naming) (i : ℕ) (d : Naming) → i < length ns → new ≡ out ++ auxiliary_of (get_or ns i d).to → new ++ auxiliaries_in (drop (i + 1) ns) ≡ out ++ auxiliaries_in (drop i ns)
auxiliaries-more out new ns i d l e =
    let here = auxiliary_of (get_or ns i d).to in
    ap (λ (vs : List Var). vs ++ auxiliaries_in (drop (i + 1) ns)) e
    ∙ (append_assoc out here (auxiliaries_in (drop (i + 1) ns))
    ∙ ap (λ (vs : List Var). out ++ vs) (ap (λ j. here ++ auxiliaries_in (drop j ns)) (add-one i) ∙ sym (ap auxiliaries_in (drop-cons ns i d l))))

pub auxiliaries-end : (out : List Var) (ns : List Naming) (i : ℕ) → length ns ≤ i → out ++ auxiliaries_in (drop i ns) ≡ out
auxiliaries-end out ns i l = ap (λ (ms : List Naming). out ++ auxiliaries_in ms) (drop_of_length-le ns l) ∙ append-nil out

pub ruleset auxiliary_loop = (auxiliaries-more, auxiliaries-end)
