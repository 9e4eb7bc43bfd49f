-- The parts of IMPLICIT, PARAMETER, EQUIVALENCE and SAVE are balanced texts and are read back.
use Rattle.std.proofs.Common.{◌≡◌, arith, ℕ, ◌≤◌, List, [], ◌∷◌, ◌++◌, length, refl, ap, ◌∙◌, append_assoc, Option, Some, None, Bool, true, false, if◌then◌else◌}
use Rattle.std.specs.Prelude.{codes, nat_eq, nat_le}
use Rattle.std.specs.Char.{is_ascii_uppercase}
use Rattle.std.proofs.lemmas.Bool.{eqb-true, le-leb}
use Rattle.f77_ast.specs.Trees.{ExprTree}
use Rattle.f77_ast.specs.declared.decl.Scalar.{Scalar}
use Rattle.f77_ast.specs.declared.decl.Scalar.TheVariants.{Int, Log}
use Rattle.f77_ast.specs.declared.decl.Letters.{Letters}
use Rattle.f77_ast.specs.declared.decl.ImplicitPart.{ImplicitPart}
use Rattle.f77_ast.specs.declared.decl.SaveItem.{SaveItem}
use Rattle.f77_ast.specs.declared.decl.SaveItem.TheVariants.{Name, Block}
use Rattle.f77_ast.specs.DeclTrees.{SettingTree}
use Rattle.f77_exprs.specs.declared.at.Notes.{Notes}
use Rattle.f77_exprs.specs.Words.{after}
use Rattle.f77_exprs.specs.State.{State, parse_word, or_done, ◌>>=◌}
use Rattle.f77_exprs.specs.Grammar.{comma, items, more_by, expression, variable}
use Rattle.f77_statements.specs.Lists.{ending}
use Rattle.f77_statements.specs.Parts.{letter, range, letters, ranges, implicit_part, setting, group, block_name, save_item}
use Rattle.f77_printer.specs.ExprText.{expr_text}
use Rattle.f77_printer.specs.DeclText.{others_by, joined_by, letters_text, scalar_text, part_text, setting_text, group_text, save_item_text}
use Rattle.roundtrip_programs.specs.Statements.Formed.{IsName, Filled, IsVariable}
use Rattle.roundtrip_programs.specs.Statements.Declared.{IsRange, IsPart, IsSetting, IsGroup, IsSaved}
use Rattle.roundtrip_programs.specs.Statements.Follows.{standing}
use Rattle.roundtrip_programs.proofs.Statements.Names.{name-back, letter-append}
use Rattle.roundtrip_programs.proofs.Statements.Behind.{Calm, BehindEquivalence, at_comma, calm_comma, calm_close}
use Rattle.roundtrip_programs.proofs.Statements.Fronts.{letter_no_word}
use Rattle.roundtrip_programs.proofs.Statements.Turns.{Back, joined}
use Rattle.roundtrip_programs.proofs.Statements.Items.{Listed, items_back, more_back, others_long}
use Rattle.roundtrip_programs.proofs.Statements.Expressions.{expression-back, variable-back}
use Rattle.roundtrip_programs.proofs.Statements.Balanced.{Kind, deep, Balanced, letter_quiet, char, equal, inner_comma, pair, nested, word, in_parentheses, expr_balanced}
use Rattle.roundtrip_programs.proofs.Statements.Compact.{name_balanced, variable_balanced}
use Rattle.roundtrip_programs.proofs.Statements.TitleBack.{others_balanced, EndsName}
use Rattle.roundtrip_programs.proofs.Statements.ListsBack.{variables_listed, ending_back}
use Rattle.fx_lists.proofs.Every.{Anything}

-- ---- IMPLICIT

range_at : (b : Bool) (d : Kind) (f l : ℕ) → is_ascii_uppercase f ≡ true → is_ascii_uppercase l ≡ true → Balanced d (if b then f ∷ [] else f ∷ 45 ∷ l ∷ [])
range_at true d f l g h = char d f (letter_quiet f g)
range_at false d f l g h = pair d (f ∷ []) (45 ∷ l ∷ []) (char d f (letter_quiet f g)) (pair d (45 ∷ []) (l ∷ []) (word d (codes "-") refl) (char d l (letter_quiet l h)))

range_balanced : (l : Letters) → IsRange l → (d : Kind) → Balanced d (letters_text l)
range_balanced l h d = range_at (nat_eq l.first l.last) d l.first l.last h.first h.last

scalar_balanced : (s : Scalar) (d : Kind) → Balanced d (scalar_text s)
scalar_balanced Int d = word d (codes "INTEGER") refl
scalar_balanced Log d = word d (codes "LOGICAL") refl

ranges_balanced : (ls : List Letters) → Filled IsRange ls → Balanced deep (joined_by letters_text ls)
ranges_balanced [] h = absurd h
ranges_balanced (x ∷ xs) h =
    pair deep (letters_text x) (others_by letters_text xs) (range_balanced x h.first deep) (others_balanced deep letters_text IsRange inner_comma (λ y i. range_balanced y i deep) xs h.others)

pub part_balanced : (p : ImplicitPart) → IsPart p → (d : Kind) → Balanced d (part_text p)
part_balanced p h d = in_parentheses d (scalar_text p.scalar) (joined_by letters_text p.ranges) (scalar_balanced p.scalar d) (ranges_balanced p.ranges h)

abbrev EndsRange : List ℕ → Type 0
EndsRange t = after (codes "-") t ≡ None

letter_back : (c : ℕ) (t : List ℕ) (k : Notes) → is_ascii_uppercase c ≡ true → letter (standing (c ∷ t) k) ≡ Some (c, standing t k)
unfolding letter
letter_back c t k h = rw h

range_back : (b : Bool) (f l : ℕ) (t : List ℕ) (k : Notes) → nat_eq f l ≡ b → is_ascii_uppercase f ≡ true → is_ascii_uppercase l ≡ true → f ≤ l → EndsRange t
    → letters (standing ((if b then f ∷ [] else f ∷ 45 ∷ l ∷ []) ++ t) k) ≡ Some (record { first = f; last = l }, standing t k)
unfolding letters
range_back true f l t k e g h o n =
    ap (λ (x : Option (ℕ × State)). x >>= λ a. or_done (record { first = a.0; last = a.0 }) a.1 (parse_word (codes "-") a.1) (λ t. letter t >>= range a.0)) (letter_back f t k g)
    ∙ alone n ∙ ap (λ (m : ℕ). Some (record { first = f; last = m }, standing t k)) (eqb-true f l e)
  where
    alone : after (codes "-") t ≡ None → or_done (record { first = f; last = f }) (standing t k) (parse_word (codes "-") (standing t k)) (λ t. letter t >>= range f) ≡ Some (record { first = f; last = f }, standing t k)
    alone z = rw z
range_back false f l t k e g h o n =
    ap (λ (x : Option (ℕ × State)). x >>= λ a. or_done (record { first = a.0; last = a.0 }) a.1 (parse_word (codes "-") a.1) (λ t. letter t >>= range a.0)) (letter_back f (45 ∷ l ∷ t) k g)
    ∙ ap (λ (x : Option (ℕ × State)). x >>= range f) (letter_back l t k h)
    ∙ ordered (le-leb f l o)
  where
    ordered : nat_le f l ≡ true → range f (l, standing t k) ≡ Some (record { first = f; last = l }, standing t k)
    ordered z = rw z

ranges_listed : Listed comma letters letters_text EndsRange IsRange
ranges_listed = record { back = λ l h t k s. range_back (nat_eq l.first l.last) l.first l.last t k refl h.first h.last h.ordered s; at_comma = λ u. refl; goes_on = λ x u k h. refl }

of_scalar : (s : Scalar) (ls : List Letters) (t : List ℕ) (k : Notes) → Filled IsRange ls
    → ranges s (standing (40 ∷ (joined_by letters_text ls ++ (41 ∷ t))) k) ≡ Some (record { scalar = s; ranges = ls }, standing t k)
unfolding ranges
of_scalar s [] t k h = absurd h
of_scalar s (x ∷ xs) t k h =
    ap (λ (o : Option (List Letters × State)). o >>= λ ls. Some (record { scalar = s; ranges = ls.0 }, ls.1))
    (ending_back (items letters) (x ∷ xs) (standing (joined_by letters_text (x ∷ xs) ++ (41 ∷ t)) k) t k
    (items_back comma letters letters_text EndsRange IsRange ranges_listed x xs (41 ∷ t) k h.first h.others refl refl))

part_at : (s : Scalar) (u : List ℕ) (k : Notes) → implicit_part (standing (scalar_text s ++ u) k) ≡ ranges s (standing u k)
unfolding implicit_part
part_at Int u k = refl
part_at Log u k = refl

pub parts_listed : Listed comma implicit_part part_text Anything IsPart
parts_listed = record {
  back = λ p h t k s.
      ap (λ (x : List ℕ). implicit_part (standing x k))
      (append_assoc (scalar_text p.scalar ++ codes "(" ++ joined_by letters_text p.ranges) (codes ")") t ∙ joined (scalar_text p.scalar) (codes "(") (joined_by letters_text p.ranges) (41 ∷ t))
      ∙ part_at p.scalar (40 ∷ (joined_by letters_text p.ranges ++ (41 ∷ t))) k ∙ of_scalar p.scalar p.ranges t k h;
  at_comma = λ u. tt;
  goes_on = λ x u k h. refl;
}

-- ---- PARAMETER

pub setting_balanced : (s : SettingTree) → IsSetting s → Balanced deep (setting_text s)
setting_balanced s h =
    pair deep (s.name ++ codes "=") (expr_text s.value) (pair deep s.name (codes "=") (name_balanced s.name h.name deep) equal) (expr_balanced h.value deep)

setting_back : (s : SettingTree) → IsSetting s → Back setting (setting_text s) s BehindEquivalence
unfolding setting
setting_back s h t k b =
    ap (λ (x : List ℕ). setting (standing x k)) (joined s.name (codes "=") (expr_text s.value) t)
    ∙ ap (λ (o : Option (List ℕ × State)). o >>= λ n. parse_word (codes "=") n.1 >>= λ t. expression t >>= λ e. Some (record { name = n.0; value = e.0 }, e.1)) (name-back s.name (61 ∷ (expr_text s.value ++ t)) k h.name refl)
    ∙ ap (λ (o : Option (ExprTree × State)). o >>= λ e. Some (record { name = s.name; value = e.0 }, e.1)) (expression-back s.value h.value t k b)

pub settings_listed : Listed comma setting setting_text BehindEquivalence IsSetting
settings_listed = record { back = setting_back; at_comma = at_comma; goes_on = λ x u k h. refl }

-- ---- SAVE

pub saved_balanced : (i : SaveItem) → IsSaved i → (d : Kind) → Balanced d (save_item_text i)
saved_balanced (Name n) h d = name_balanced n h d
saved_balanced (Block b) h d = pair d (codes "/" ++ b) (codes "/") (pair d (codes "/") b (word d (codes "/") refl) (name_balanced b h d)) (word d (codes "/") refl)

pub block_back : (b t : List ℕ) (k : Notes) → IsName b → block_name (standing (b ++ (47 ∷ t)) k) ≡ Some (b, standing t k)
unfolding block_name ending
block_back b t k h = ap (λ (o : Option (List ℕ × State)). o >>= λ r. parse_word (codes "/") r.1 >>= λ t. Some (r.0, t)) (name-back b (47 ∷ t) k h refl)

saved_back : (i : SaveItem) → IsSaved i → Back save_item (save_item_text i) i EndsName
unfolding save_item
saved_back (Name n) h t k s = named (letter_no_word (n ++ t) 47 [] (letter-append n t h.letter) (omega arith))
  where
    named : after (codes "/") (n ++ t) ≡ None → save_item (standing (n ++ t) k) ≡ Some (Name n, standing t k)
    named z = rw z (ap (λ (o : Option (List ℕ × State)). o >>= λ n. Some (Name n.0, n.1)) (name-back n t k h s))
saved_back (Block b) h t k s =
    ap (λ (x : List ℕ). block_name (standing x k) >>= λ b. Some (Block b.0, b.1)) (append_assoc b (codes "/") t)
    ∙ ap (λ (o : Option (List ℕ × State)). o >>= λ b. Some (Block b.0, b.1)) (block_back b t k h)

pub saved_listed : Listed comma save_item save_item_text EndsName IsSaved
saved_listed = record { back = saved_back; at_comma = λ u. refl; goes_on = λ x u k h. refl }

-- ---- EQUIVALENCE

pub group_balanced : (vs : List ExprTree) → IsGroup vs → (d : Kind) → Balanced d (group_text vs)
group_balanced [] h d = absurd h
group_balanced (v ∷ []) h d = absurd h.others
group_balanced (v ∷ w ∷ vs) h d =
    nested d (joined_by expr_text (v ∷ w ∷ vs))
    (pair deep (expr_text v) (others_by expr_text (w ∷ vs)) (variable_balanced v h.first deep)
    (others_balanced deep expr_text IsVariable inner_comma (λ y i. variable_balanced y i deep) (w ∷ vs) h.others))

group_shape : (v w : ExprTree) (o t : List ℕ) → (codes "(" ++ (expr_text v ++ (codes "," ++ expr_text w ++ o)) ++ codes ")") ++ t ≡ 40 ∷ (expr_text v ++ (44 ∷ (expr_text w ++ (o ++ (41 ∷ t)))))
group_shape v w o t =
    ap (λ (x : List ℕ). 40 ∷ x)
    (append_assoc (expr_text v ++ (codes "," ++ expr_text w ++ o)) (codes ")") t
    ∙ append_assoc (expr_text v) (codes "," ++ expr_text w ++ o) (41 ∷ t)
    ∙ ap (λ (x : List ℕ). expr_text v ++ (44 ∷ x)) (append_assoc (expr_text w) o (41 ∷ t)))

calm_others : (vs : List ExprTree) (t : List ℕ) → Calm (others_by expr_text vs ++ (41 ∷ t))
calm_others [] t = calm_close t
calm_others (v ∷ vs) t = calm_comma ((expr_text v ++ others_by expr_text vs) ++ (41 ∷ t))

group_back : (vs : List ExprTree) → IsGroup vs → Back group (group_text vs) vs Anything
unfolding group
group_back [] h t k s = absurd h
group_back (v ∷ []) h t k s = absurd h.others
group_back (v ∷ w ∷ vs) h t k s =
    let o : List ℕ = others_by expr_text vs ++ (41 ∷ t) in
    ap (λ (x : List ℕ). group (standing x k)) (group_shape v w (others_by expr_text vs) t)
    ∙ ap (λ (x : Option (ExprTree × State)). x >>= λ v. parse_word (codes ",") v.1 >>= λ u. variable u >>= λ w. more_by comma variable (length w.1.rest) (v.0 ∷ w.0 ∷ []) w.1 >>= λ vs. parse_word (codes ")") vs.1 >>= λ x. Some (vs.0, x))
    (variable-back v h.first (44 ∷ (expr_text w ++ o)) k (calm_comma (expr_text w ++ o)))
    ∙ ap (λ (x : Option (ExprTree × State)). x >>= λ w. more_by comma variable (length w.1.rest) (v ∷ w.0 ∷ []) w.1 >>= λ vs. parse_word (codes ")") vs.1 >>= λ x. Some (vs.0, x))
    (variable-back w h.others.first o k (calm_others vs t))
    ∙ ap (λ (x : Option (List ExprTree × State)). x >>= λ vs. parse_word (codes ")") vs.1 >>= λ x. Some (vs.0, x))
    (more_back comma variable expr_text Calm IsVariable variables_listed vs (length o) (v ∷ w ∷ []) (41 ∷ t) k h.others.others (others_long expr_text vs (41 ∷ t)) (calm_close t) refl)

pub groups_listed : Listed comma group group_text Anything IsGroup
groups_listed = record { back = group_back; at_comma = λ u. tt; goes_on = λ x u k h. refl }
