-- Names with bounds are balanced texts and are read back.
use Rattle.std.proofs.Common.{◌≡◌, ℕ, List, [], ◌∷◌, ◌++◌, refl, ap, ◌∙◌, append_assoc, append-nil, Option, Some, None}
use Rattle.std.specs.Prelude.{codes}
use Rattle.f77_ast.specs.Trees.{ExprTree}
use Rattle.f77_ast.specs.DeclTrees.{ExtentTree, EntityTree}
use Rattle.f77_exprs.specs.declared.at.Notes.{Notes}
use Rattle.f77_exprs.specs.Words.{after}
use Rattle.f77_exprs.specs.State.{State, parse_word, or_done, ◌>>=◌}
use Rattle.f77_exprs.specs.Grammar.{comma, items}
use Rattle.f77_statements.specs.Parts.{upper, extent, bounds, entity, array}
use Rattle.f77_printer.specs.ExprText.{expr_text}
use Rattle.f77_printer.specs.DeclText.{others_by, joined_by, high_text, low_text, extent_text, bounds_text, entity_text}
use Rattle.roundtrip_programs.specs.Statements.Formed.{IsName, Each, Filled, IsExpression}
use Rattle.roundtrip_programs.specs.Statements.Declared.{MaybeExpression, IsExtent, IsEntity, IsArray}
use Rattle.roundtrip_programs.specs.Statements.Follows.{standing}
use Rattle.roundtrip_programs.proofs.Statements.Names.{name-back}
use Rattle.roundtrip_programs.proofs.Statements.Behind.{Calm, BehindEquivalence, at_close, at_comma, at_colon, calm_comma}
use Rattle.roundtrip_programs.proofs.Statements.Fronts.{fronted}
use Rattle.roundtrip_programs.proofs.Statements.Turns.{joined}
use Rattle.roundtrip_programs.proofs.Statements.Items.{Listed, items_back}
use Rattle.roundtrip_programs.proofs.Statements.Expressions.{expression-back}
use Rattle.roundtrip_programs.proofs.Statements.Balanced.{Kind, deep, Balanced, empty, inner_comma, pair, nested, word, expr_balanced}
use Rattle.roundtrip_programs.proofs.Statements.Compact.{name_balanced}
use Rattle.roundtrip_programs.proofs.Statements.ListsBack.{ending_back}
use Rattle.roundtrip_programs.proofs.Statements.TitleBack.{others_balanced}
use Rattle.fx_lists.proofs.Every.{Anything}

-- ---- balanced

extent_balanced : (x : ExtentTree) → IsExtent x → (d : Kind) → Balanced d (extent_text x)
extent_balanced x h d = pair d (low_text x.low) (high_text x.high) (low x.low h.low) (high x.high h.high)
  where
    low : (o : Option ExprTree) → MaybeExpression o → Balanced d (low_text o)
    low None g = empty d
    low (Some e) g = pair d (expr_text e) (codes ":") (expr_balanced g d) (word d (codes ":") refl)

    high : (o : Option ExprTree) → MaybeExpression o → Balanced d (high_text o)
    high None g = word d (codes "*") refl
    high (Some e) g = expr_balanced g d

bounds_balanced : (xs : List ExtentTree) → Each IsExtent xs → (d : Kind) → Balanced d (bounds_text xs)
bounds_balanced [] h d = empty d
bounds_balanced (x ∷ xs) h d =
    nested d (joined_by extent_text (x ∷ xs))
    (pair deep (extent_text x) (others_by extent_text xs) (extent_balanced x h.first deep)
    (others_balanced deep extent_text IsExtent inner_comma (λ y i. extent_balanced y i deep) xs h.others))

pub entity_balanced : (e : EntityTree) → IsEntity e → (d : Kind) → Balanced d (entity_text e)
entity_balanced e h d = pair d e.name (bounds_text e.bounds) (name_balanced e.name h.name d) (bounds_balanced e.bounds h.bounds d)

-- ---- bounds

pub record EndsExtent (t : List ℕ) : Type 0 where
  pub behind : BehindEquivalence t
  pub colon : after (codes ":") t ≡ None

extent_comma : (u : List ℕ) → EndsExtent (44 ∷ u)
extent_comma u = record { behind = at_comma u; colon = refl }

extent_close : (u : List ℕ) → EndsExtent (41 ∷ u)
extent_close u = record { behind = at_close u; colon = refl }

upper_back : (a b : ExprTree) → IsExpression b → (t : List ℕ) (k : Notes) → EndsExtent t → upper a (standing (expr_text b ++ t) k) ≡ Some (record { low = Some a; high = Some b }, standing t k)
unfolding upper
upper_back a b f t k h =
    let n : after (codes "*") (expr_text b ++ t) ≡ None = (fronted f).star t in
    rw n (ap (λ (o : Option (ExprTree × State)). o >>= λ e. Some (record { low = Some a; high = Some e.0 }, e.1)) (expression-back b f t k h.behind))

extent_at : (low high : Option ExprTree) → MaybeExpression low → MaybeExpression high → (t : List ℕ) (k : Notes) → EndsExtent t
    → extent (standing ((low_text low ++ high_text high) ++ t) k) ≡ Some (record { low = low; high = high }, standing t k)
unfolding extent upper
extent_at None None f g t k h = refl
extent_at None (Some e) f g t k h =
    let n : after (codes "*") (expr_text e ++ t) ≡ None = (fronted g).star t in
    let c : after (codes ":") t ≡ None = h.colon in
    rw n (ap (λ (o : Option (ExprTree × State)). o >>= λ e. or_done (record { low = None; high = Some e.0 }) e.1 (parse_word (codes ":") e.1) (upper e.0)) (expression-back e g t k h.behind) ∙ done c)
  where
    done : after (codes ":") t ≡ None → or_done (record { low = None; high = Some e }) (standing t k) (parse_word (codes ":") (standing t k)) (upper e) ≡ Some (record { low = None; high = Some e }, standing t k)
    done c = rw c
extent_at (Some e) None f g t k h =
    let n : after (codes "*") (expr_text e ++ (58 ∷ 42 ∷ t)) ≡ None = (fronted f).star (58 ∷ 42 ∷ t) in
    ap (λ (x : List ℕ). extent (standing x k)) (joined (expr_text e) (codes ":") (codes "*") t)
    ∙ starred n
  where
    starred : after (codes "*") (expr_text e ++ (58 ∷ 42 ∷ t)) ≡ None → extent (standing (expr_text e ++ (58 ∷ 42 ∷ t)) k) ≡ Some (record { low = Some e; high = None }, standing t k)
    starred n = rw n (ap (λ (o : Option (ExprTree × State)). o >>= λ e. or_done (record { low = None; high = Some e.0 }) e.1 (parse_word (codes ":") e.1) (upper e.0)) (expression-back e f (58 ∷ 42 ∷ t) k (at_colon (42 ∷ t))))
extent_at (Some e) (Some b) f g t k h =
    let u : List ℕ = expr_text b ++ t in
    ap (λ (x : List ℕ). extent (standing x k)) (joined (expr_text e) (codes ":") (expr_text b) t)
    ∙ both ((fronted f).star (58 ∷ u))
  where
    both : after (codes "*") (expr_text e ++ (58 ∷ (expr_text b ++ t))) ≡ None → extent (standing (expr_text e ++ (58 ∷ (expr_text b ++ t))) k) ≡ Some (record { low = Some e; high = Some b }, standing t k)
    both n = rw n (ap (λ (o : Option (ExprTree × State)). o >>= λ e. or_done (record { low = None; high = Some e.0 }) e.1 (parse_word (codes ":") e.1) (upper e.0))
        (expression-back e f (58 ∷ (expr_text b ++ t)) k (at_colon (expr_text b ++ t))) ∙ upper_back e b g t k h)

extents_listed : Listed comma extent extent_text EndsExtent IsExtent
extents_listed = record { back = λ x h t k s. extent_at x.low x.high h.low h.high t k s; at_comma = extent_comma; goes_on = λ x u k h. refl }

bounds_back : (n : List ℕ) (x : ExtentTree) (xs : List ExtentTree) (t : List ℕ) (k : Notes) → IsExtent x → Each IsExtent xs
    → bounds n (standing (joined_by extent_text (x ∷ xs) ++ (41 ∷ t)) k) ≡ Some (record { name = n; bounds = x ∷ xs }, standing t k)
unfolding bounds
bounds_back n x xs t k h e =
    ap (λ (o : Option (List ExtentTree × State)). o >>= λ b. Some (record { name = n; bounds = b.0 }, b.1))
    (ending_back (items extent) (x ∷ xs) (standing (joined_by extent_text (x ∷ xs) ++ (41 ∷ t)) k) t k
    (items_back comma extent extent_text EndsExtent IsExtent extents_listed x xs (41 ∷ t) k h e (extent_close t) refl))

-- ---- names with bounds

bounded_shape : (n : List ℕ) (x : ExtentTree) (xs : List ExtentTree) (t : List ℕ)
    → (n ++ bounds_text (x ∷ xs)) ++ t ≡ n ++ (40 ∷ (joined_by extent_text (x ∷ xs) ++ (41 ∷ t)))
bounded_shape n x xs t =
    append_assoc n (bounds_text (x ∷ xs)) t ∙ ap (λ (y : List ℕ). n ++ (40 ∷ y)) (append_assoc (joined_by extent_text (x ∷ xs)) (codes ")") t)

array_at : (n : List ℕ) (x : ExtentTree) (xs : List ExtentTree) → IsName n → IsExtent x → Each IsExtent xs → (t : List ℕ) (k : Notes)
    → array (standing ((n ++ bounds_text (x ∷ xs)) ++ t) k) ≡ Some (record { name = n; bounds = x ∷ xs }, standing t k)
unfolding array
array_at n x xs w h e t k =
    ap (λ (y : List ℕ). array (standing y k)) (bounded_shape n x xs t)
    ∙ ap (λ (o : Option (List ℕ × State)). o >>= λ n. parse_word (codes "(") n.1 >>= λ t. bounds n.0 t) (name-back n (40 ∷ (joined_by extent_text (x ∷ xs) ++ (41 ∷ t))) k w refl)
    ∙ bounds_back n x xs t k h e

array_back : (n : List ℕ) (xs : List ExtentTree) → IsName n → Filled IsExtent xs → (t : List ℕ) (k : Notes) → array (standing ((n ++ bounds_text xs) ++ t) k) ≡ Some (record { name = n; bounds = xs }, standing t k)
array_back n [] w h t k = absurd h
array_back n (x ∷ xs) w h t k = array_at n x xs w h.first h.others t k

entity_back : (n : List ℕ) (xs : List ExtentTree) → IsName n → Each IsExtent xs → (t : List ℕ) (k : Notes) → Calm t
    → entity (standing ((n ++ bounds_text xs) ++ t) k) ≡ Some (record { name = n; bounds = xs }, standing t k)
unfolding entity
entity_back n [] w h t k c =
    ap (λ (y : List ℕ). entity (standing (y ++ t) k)) (append-nil n)
    ∙ ap (λ (o : Option (List ℕ × State)). o >>= λ n. or_done (record { name = n.0; bounds = [] }) n.1 (parse_word (codes "(") n.1) (bounds n.0)) (name-back n t k w c.name)
    ∙ alone c.opening
  where
    alone : after (codes "(") t ≡ None → or_done (record { name = n; bounds = [] }) (standing t k) (parse_word (codes "(") (standing t k)) (bounds n) ≡ Some (record { name = n; bounds = [] }, standing t k)
    alone o = rw o
entity_back n (x ∷ xs) w h t k c =
    ap (λ (y : List ℕ). entity (standing y k)) (bounded_shape n x xs t)
    ∙ ap (λ (o : Option (List ℕ × State)). o >>= λ n. or_done (record { name = n.0; bounds = [] }) n.1 (parse_word (codes "(") n.1) (bounds n.0))
    (name-back n (40 ∷ (joined_by extent_text (x ∷ xs) ++ (41 ∷ t))) k w refl)
    ∙ bounds_back n x xs t k h.first h.others

pub entities_listed : Listed comma entity entity_text Calm IsEntity
entities_listed = record { back = λ e h t k c. entity_back e.name e.bounds h.name h.bounds t k c; at_comma = calm_comma; goes_on = λ x u k h. refl }

pub arrays_listed : Listed comma array entity_text Anything IsArray
arrays_listed = record { back = λ e h t k c. array_back e.name e.bounds h.name h.bounds t k; at_comma = λ u. tt; goes_on = λ x u k h. refl }
