-- The specification statements other than COMMON and DATA: their text without blanks, their form, and that they are read back.
use Rattle.std.proofs.Common.{◌≡◌, ℕ, List, [], ◌∷◌, ◌++◌, refl, ap, ◌∙◌, append_assoc, Option, Some, None, Bool, true, false, if◌then◌else◌}
use Rattle.std.specs.Prelude.{codes, nat_eq, ◌&&◌, Ok}
use Rattle.std.specs.Char.{is_ascii_uppercase}
use Rattle.std.proofs.lemmas.Bool.{eqb-true, both_ways, and_parts}
use Rattle.f77_ast.specs.Trees.{ExprTree}
use Rattle.f77_ast.specs.declared.decl.Scalar.{Scalar}
use Rattle.f77_ast.specs.declared.decl.Scalar.TheVariants.{Int, Log}
use Rattle.f77_ast.specs.declared.decl.ImplicitPart.{ImplicitPart}
use Rattle.f77_ast.specs.declared.decl.SaveItem.{SaveItem}
use Rattle.f77_ast.specs.declared.decl.SaveItem.TheVariants.{Name, Block}
use Rattle.f77_ast.specs.DeclTrees.{ExtentTree, EntityTree, SettingTree, implicit, integer, logical, dimension, parameter, equivalence, save}
use Rattle.f77_exprs.specs.declared.at.Notes.{Notes}
use Rattle.f77_exprs.specs.Words.{after}
use Rattle.f77_exprs.specs.State.{State, ◌>>=◌}
use Rattle.f77_exprs.specs.Lexical.{letter_first}
use Rattle.f77_exprs.specs.Grammar.{comma, items}
use Rattle.f77_forms.specs.Words.{rest_after}
use Rattle.f77_forms.specs.declared.form.FormId.TheVariants as forms
use Rattle.f77_forms.specs.declared.choice.Choice.TheVariants.{Chosen}
use Rattle.f77_forms.specs.Choice.{keyword_choice}
use Rattle.f77_forms.specs.Profile.{profile}
use Rattle.f77_statements.specs.Lists.{or_end, items_left}
use Rattle.f77_statements.specs.Parts.{implicit_part, entity, array, setting, group, save_item}
use Rattle.f77_statements.specs.Specifications.{implicit_parts, implicit_statement, integer_statement, logical_statement, dimension_statement, parameter_statement, equivalence_statement, save_statement}
use Rattle.f77_statements.specs.Statements.{form_at}
use Rattle.f77_printer.specs.Layout.{stripped}
use Rattle.f77_printer.specs.DeclText.{others_by, joined_by, bounds_text, entity_text, letters_text, scalar_text, part_text, setting_text, settings_text, group_text, save_item_text, decl_text}
use Rattle.roundtrip_programs.specs.Statements.Formed.{Each, Filled}
use Rattle.roundtrip_programs.specs.Statements.Declared.{IsEntity, IsArray, IsPart, MaybeParts, IsSetting, IsGroup, IsSaved, AreTyped}
use Rattle.roundtrip_programs.specs.Statements.Follows.{standing}
use Rattle.roundtrip_programs.proofs.Statements.Behind.{Calm, BehindEquivalence, at_close}
use Rattle.roundtrip_programs.proofs.Statements.Names.{letter-append}
use Rattle.roundtrip_programs.proofs.Statements.Fronts.{Never, never-append}
use Rattle.roundtrip_programs.proofs.Statements.Items.{items_back}
use Rattle.roundtrip_programs.proofs.Statements.Balanced.{Kind, tight, listed, deep, Balanced, empty, inner_comma, pair, nested, word}
use Rattle.roundtrip_programs.proofs.Statements.Balanced as balanced
use Rattle.roundtrip_programs.proofs.Statements.Compact.{solid_end}
use Rattle.roundtrip_programs.proofs.Statements.Forms.{by_keyword}
use Rattle.roundtrip_programs.proofs.Statements.ListsBack.{items_end, ending_back, calm_end}
use Rattle.roundtrip_programs.proofs.Statements.TitleBack.{others_balanced, EndsName}
use Rattle.roundtrip_programs.proofs.Statements.EntityBack.{entity_balanced, entities_listed, arrays_listed}
use Rattle.roundtrip_programs.proofs.Statements.SmallParts.{part_balanced, parts_listed, setting_balanced, settings_listed, saved_balanced, saved_listed, group_balanced, groups_listed}
use Rattle.fx_lists.proofs.Lists.{lacks_at}
use Rattle.fx_lists.proofs.Every.{Anything}

-- a list behind a keyword
pub list_balanced : {A : Type 0} (text : A → List ℕ) (P : A → Type 0) → ((x : A) → P x → (d : Kind) → Balanced d (text x)) → (xs : List A) → Each P xs → Balanced listed (joined_by text xs)
list_balanced text P b [] h = empty listed
list_balanced text P b (x ∷ xs) h =
    pair listed (text x) (others_by text xs) (b x h.first listed) (others_balanced listed text P balanced.comma (λ y i. b y i listed) xs h.others)

pub each_of : {A : Type 0} (P : A → Type 0) (xs : List A) → Filled P xs → Each P xs
each_of P [] h = tt
each_of P (x ∷ xs) h = h

pub array_entity : (e : EntityTree) → IsArray e → IsEntity e
array_entity e h = record { name = h.name; bounds = each_of _ e.bounds h.bounds }

-- ---- INTEGER and LOGICAL

pub typed : (es : List EntityTree) → AreTyped es → Each IsEntity es
typed [] h = tt
typed (e ∷ es) h = record { first = h.first; others = h.others }

abbrev all_letters : List ℕ → Bool
all_letters [] = true
all_letters (c ∷ cs) = is_ascii_uppercase c && all_letters cs

apart : (b : Bool) (c x : ℕ) (o : Option (List ℕ)) → nat_eq c x ≡ b → is_ascii_uppercase c ≡ false → is_ascii_uppercase x ≡ true → (if b then o else None) ≡ None
apart true c x o e f g = let h : c ≡ x = eqb-true c x e in let i : is_ascii_uppercase c ≡ true = rw h g in absurd (both_ways (is_ascii_uppercase c) f i)
apart false c x o e f g = refl

-- a word that does not stand in the front of a name does not stand before what follows the name
lacks : (w n u : List ℕ) → after w n ≡ None → all_letters w ≡ true → letter_first u ≡ false → rest_after w (n ++ u) ≡ None
lacks [] n u h a f = cc
lacks (x ∷ xs) [] [] h a f = refl
lacks (x ∷ xs) [] (c ∷ cs) h a f = apart (nat_eq c x) c x (rest_after xs cs) refl f (and_parts (is_ascii_uppercase x) (all_letters xs) a).0
lacks (x ∷ xs) (c ∷ cs) u h a f = lacks_at (nat_eq c x) (after xs cs) (rest_after xs (cs ++ u)) h (λ g. lacks xs cs u g (and_parts (is_ascii_uppercase x) (all_letters xs) a).1 f)

no_letter : (bs : List ExtentTree) (es : List EntityTree) → letter_first (bounds_text bs ++ others_by entity_text es) ≡ false
no_letter [] [] = refl
no_letter [] (e ∷ es) = refl
no_letter (b ∷ bs) es = refl

-- no FUNCTION stands behind the keyword
no_function : (es : List EntityTree) → AreTyped es → rest_after (codes "FUNCTION") (joined_by entity_text es) ≡ None
no_function [] h = refl
no_function (e ∷ es) h =
    ap (rest_after (codes "FUNCTION")) (append_assoc e.name (bounds_text e.bounds) (others_by entity_text es))
    ∙ lacks (codes "FUNCTION") e.name (bounds_text e.bounds ++ others_by entity_text es) h.function refl (no_letter e.bounds es)

pub typed_balanced : (es : List EntityTree) → AreTyped es → Balanced listed (joined_by entity_text es)
typed_balanced es h = list_balanced entity_text IsEntity entity_balanced es (typed es h)

pub stripped_integer : (es : List EntityTree) → AreTyped es → stripped false (decl_text (integer es)) ≡ codes "INTEGER" ++ joined_by entity_text es
stripped_integer es h = ap (λ (x : List ℕ). codes "INTEGER" ++ x) (solid_end (list_balanced entity_text IsEntity entity_balanced es (typed es h)))

pub integer_back : (es : List EntityTree) (k : Notes) → AreTyped es → integer_statement (standing (codes "INTEGER" ++ joined_by entity_text es) k) ≡ Some (integer es, standing [] k)
unfolding integer_statement
integer_back [] k h = absurd h
integer_back (e ∷ es) k h =
    ap (λ (o : Option (List EntityTree × State)). o >>= λ es. Some (integer es.0, es.1)) (items_end comma entity entity_text Calm IsEntity entities_listed e es k h.first h.others calm_end refl)

pub stripped_logical : (es : List EntityTree) → AreTyped es → stripped false (decl_text (logical es)) ≡ codes "LOGICAL" ++ joined_by entity_text es
stripped_logical es h = ap (λ (x : List ℕ). codes "LOGICAL" ++ x) (solid_end (list_balanced entity_text IsEntity entity_balanced es (typed es h)))

pub logical_back : (es : List EntityTree) (k : Notes) → AreTyped es → logical_statement (standing (codes "LOGICAL" ++ joined_by entity_text es) k) ≡ Some (logical es, standing [] k)
unfolding logical_statement
logical_back [] k h = absurd h
logical_back (e ∷ es) k h =
    ap (λ (o : Option (List EntityTree × State)). o >>= λ es. Some (logical es.0, es.1)) (items_end comma entity entity_text Calm IsEntity entities_listed e es k h.first h.others calm_end refl)

integer_chosen : (x : List ℕ) → rest_after (codes "FUNCTION") x ≡ None → keyword_choice profile (codes "INTEGER" ++ x) ≡ Chosen forms.Integer
integer_chosen x h = rw h

logical_chosen : (x : List ℕ) → rest_after (codes "FUNCTION") x ≡ None → keyword_choice profile (codes "LOGICAL" ++ x) ≡ Chosen forms.Logical
logical_chosen x h = rw h

pub integer_form : (es : List EntityTree) → AreTyped es → form_at (codes "INTEGER" ++ joined_by entity_text es) ≡ Ok forms.Integer
integer_form es h =
    by_keyword (codes "INTEGER" ++ joined_by entity_text es) forms.Integer refl
    (pair listed (codes "INTEGER") (joined_by entity_text es) (word listed (codes "INTEGER") refl) (typed_balanced es h)) (integer_chosen (joined_by entity_text es) (no_function es h))

pub logical_form : (es : List EntityTree) → AreTyped es → form_at (codes "LOGICAL" ++ joined_by entity_text es) ≡ Ok forms.Logical
logical_form es h =
    by_keyword (codes "LOGICAL" ++ joined_by entity_text es) forms.Logical refl
    (pair listed (codes "LOGICAL") (joined_by entity_text es) (word listed (codes "LOGICAL") refl) (typed_balanced es h)) (logical_chosen (joined_by entity_text es) (no_function es h))

-- ---- the others

pub stripped_dimension : (es : List EntityTree) → Filled IsArray es → stripped false (decl_text (dimension es)) ≡ codes "DIMENSION" ++ joined_by entity_text es
stripped_dimension es h =
    ap (λ (x : List ℕ). codes "DIMENSION" ++ x) (solid_end (list_balanced entity_text IsArray (λ e i. entity_balanced e (array_entity e i)) es (each_of IsArray es h)))

pub dimension_form : (es : List EntityTree) → Filled IsArray es → form_at (codes "DIMENSION" ++ joined_by entity_text es) ≡ Ok forms.Dimension
dimension_form es h =
    by_keyword (codes "DIMENSION" ++ joined_by entity_text es) forms.Dimension refl
    (pair listed (codes "DIMENSION") (joined_by entity_text es) (word listed (codes "DIMENSION") refl) (list_balanced entity_text IsArray (λ e i. entity_balanced e (array_entity e i)) es (each_of IsArray es h))) refl

pub dimension_back : (es : List EntityTree) (k : Notes) → Filled IsArray es → dimension_statement (standing (codes "DIMENSION" ++ joined_by entity_text es) k) ≡ Some (dimension es, standing [] k)
unfolding dimension_statement
dimension_back [] k h = absurd h
dimension_back (e ∷ es) k h =
    ap (λ (o : Option (List EntityTree × State)). o >>= λ es. Some (dimension es.0, es.1)) (items_end comma array entity_text Anything IsArray arrays_listed e es k h.first h.others tt refl)

pub settings_balanced : (ss : List SettingTree) → Filled IsSetting ss → (d : Kind) → Balanced d (settings_text ss)
settings_balanced [] h d = absurd h
settings_balanced (s ∷ ss) h d =
    nested d (joined_by setting_text (s ∷ ss))
    (pair deep (setting_text s) (others_by setting_text ss) (setting_balanced s h.first) (others_balanced deep setting_text IsSetting inner_comma setting_balanced ss h.others))

pub stripped_parameter : (ss : List SettingTree) → Filled IsSetting ss → stripped false (decl_text (parameter ss)) ≡ codes "PARAMETER" ++ settings_text ss
stripped_parameter ss h = ap (λ (x : List ℕ). codes "PARAMETER" ++ x) (solid_end (settings_balanced ss h tight))

pub parameter_form : (ss : List SettingTree) → Filled IsSetting ss → form_at (codes "PARAMETER" ++ settings_text ss) ≡ Ok forms.Parameter
parameter_form ss h =
    by_keyword (codes "PARAMETER" ++ settings_text ss) forms.Parameter refl
    (pair listed (codes "PARAMETER") (settings_text ss) (word listed (codes "PARAMETER") refl) (settings_balanced ss h listed)) refl

pub parameter_back : (ss : List SettingTree) (k : Notes) → Filled IsSetting ss → parameter_statement (standing (codes "PARAMETER" ++ settings_text ss) k) ≡ Some (parameter ss, standing [] k)
unfolding parameter_statement
parameter_back [] k h = absurd h
parameter_back (s ∷ ss) k h =
    ap (λ (o : Option (List SettingTree × State)). o >>= λ ss. Some (parameter ss.0, ss.1))
    (ending_back (items setting) (s ∷ ss) (standing (joined_by setting_text (s ∷ ss) ++ (41 ∷ [])) k) [] k
    (items_back comma setting setting_text BehindEquivalence IsSetting settings_listed s ss (41 ∷ []) k h.first h.others (at_close []) refl))

pub stripped_equivalence : (gs : List (List ExprTree)) → Filled IsGroup gs → stripped false (decl_text (equivalence gs)) ≡ codes "EQUIVALENCE" ++ joined_by group_text gs
stripped_equivalence gs h = ap (λ (x : List ℕ). codes "EQUIVALENCE" ++ x) (solid_end (list_balanced group_text IsGroup group_balanced gs (each_of IsGroup gs h)))

pub equivalence_form : (gs : List (List ExprTree)) → Filled IsGroup gs → form_at (codes "EQUIVALENCE" ++ joined_by group_text gs) ≡ Ok forms.Equivalence
equivalence_form gs h =
    by_keyword (codes "EQUIVALENCE" ++ joined_by group_text gs) forms.Equivalence refl
    (pair listed (codes "EQUIVALENCE") (joined_by group_text gs) (word listed (codes "EQUIVALENCE") refl) (list_balanced group_text IsGroup group_balanced gs (each_of IsGroup gs h))) refl

pub equivalence_back : (gs : List (List ExprTree)) (k : Notes) → Filled IsGroup gs → equivalence_statement (standing (codes "EQUIVALENCE" ++ joined_by group_text gs) k) ≡ Some (equivalence gs, standing [] k)
unfolding equivalence_statement
equivalence_back [] k h = absurd h
equivalence_back (g ∷ gs) k h =
    ap (λ (o : Option (List (List ExprTree) × State)). o >>= λ gs. Some (equivalence gs.0, gs.1)) (items_end comma group group_text Anything IsGroup groups_listed g gs k h.first h.others tt refl)

pub stripped_save : (is : List SaveItem) → Each IsSaved is → stripped false (decl_text (save is)) ≡ codes "SAVE" ++ joined_by save_item_text is
stripped_save [] h = refl
stripped_save (i ∷ is) h = ap (λ (x : List ℕ). codes "SAVE" ++ x) (solid_end (list_balanced save_item_text IsSaved saved_balanced (i ∷ is) h))

pub save_form : (is : List SaveItem) → Each IsSaved is → form_at (codes "SAVE" ++ joined_by save_item_text is) ≡ Ok forms.Save
save_form is h =
    by_keyword (codes "SAVE" ++ joined_by save_item_text is) forms.Save refl
    (pair listed (codes "SAVE") (joined_by save_item_text is) (word listed (codes "SAVE") refl) (list_balanced save_item_text IsSaved saved_balanced is h)) refl

letter_left : {A : Type 0} (t : List ℕ) (s : State) (a : A) (other : Option (A × State)) → letter_first t ≡ true → or_end t s a other ≡ other
letter_left [] s a other h = cc
letter_left (c ∷ cs) s a other h = refl

not_ended : (i : SaveItem) → IsSaved i → (u : List ℕ) (s : State) (other : Option (List SaveItem × State)) → or_end (save_item_text i ++ u) s [] other ≡ other
not_ended (Name n) h u s other = letter_left (n ++ u) s [] other (letter-append n u h.letter)
not_ended (Block b) h u s other = refl

pub save_back : (is : List SaveItem) (k : Notes) → Each IsSaved is → save_statement (standing (codes "SAVE" ++ joined_by save_item_text is) k) ≡ Some (save is, standing [] k)
unfolding save_statement items_left
save_back [] k h = refl
save_back (i ∷ is) k h =
    ap (λ (o : Option (List SaveItem × State)). o >>= λ is. Some (save is.0, is.1))
    (not_ended i h.first (others_by save_item_text is) (standing (joined_by save_item_text (i ∷ is)) k) (items save_item (standing (joined_by save_item_text (i ∷ is)) k))
    ∙ items_end comma save_item save_item_text EndsName IsSaved saved_listed i is k h.first h.others refl refl)

-- ---- IMPLICIT

abbrev pub compact_implicit : Option (List ImplicitPart) → List ℕ
compact_implicit None = codes "NONE"
compact_implicit (Some parts) = joined_by part_text parts

pub implicit_balanced : (o : Option (List ImplicitPart)) → MaybeParts o → Balanced listed (compact_implicit o)
implicit_balanced None h = word listed (codes "NONE") refl
implicit_balanced (Some parts) h = list_balanced part_text IsPart part_balanced parts (each_of IsPart parts h)

pub stripped_implicit : (o : Option (List ImplicitPart)) → MaybeParts o → stripped false (decl_text (implicit o)) ≡ codes "IMPLICIT" ++ compact_implicit o
stripped_implicit None h = refl
stripped_implicit (Some parts) h = ap (λ (x : List ℕ). codes "IMPLICIT" ++ x) (solid_end (implicit_balanced (Some parts) h))

pub implicit_form : (o : Option (List ImplicitPart)) → MaybeParts o → form_at (codes "IMPLICIT" ++ compact_implicit o) ≡ Ok forms.Implicit
implicit_form o h =
    by_keyword (codes "IMPLICIT" ++ compact_implicit o) forms.Implicit refl
    (pair listed (codes "IMPLICIT") (compact_implicit o) (word listed (codes "IMPLICIT") refl) (implicit_balanced o h)) refl

not_none : (s : Scalar) → Never (codes "NONE") (scalar_text s)
not_none Int = λ r. refl
not_none Log = λ r. refl

not_none_part : (p : ImplicitPart) → Never (codes "NONE") (part_text p)
not_none_part p =
    never-append (codes "NONE") (scalar_text p.scalar ++ codes "(" ++ joined_by letters_text p.ranges) (codes ")")
    (never-append (codes "NONE") (scalar_text p.scalar ++ codes "(") (joined_by letters_text p.ranges) (never-append (codes "NONE") (scalar_text p.scalar) (codes "(") (not_none p.scalar)))

pub implicit_back : (o : Option (List ImplicitPart)) (k : Notes) → MaybeParts o → implicit_statement (standing (codes "IMPLICIT" ++ compact_implicit o) k) ≡ Some (implicit o, standing [] k)
unfolding implicit_statement implicit_parts
implicit_back None k h = refl
implicit_back (Some []) k h = absurd h
implicit_back (Some (p ∷ ps)) k h =
    let n : after (codes "NONE") (joined_by part_text (p ∷ ps)) ≡ None = not_none_part p (others_by part_text ps) in
    rw n (ap (λ (o : Option (List ImplicitPart × State)). o >>= λ ps. Some (implicit (Some ps.0), ps.1)) (items_end comma implicit_part part_text Anything IsPart parts_listed p ps k h.first h.others tt refl))
