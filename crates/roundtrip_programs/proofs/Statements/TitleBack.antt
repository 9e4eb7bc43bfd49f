-- PROGRAM, SUBROUTINE and FUNCTION: their text without blanks, their form, and that they are read back.
use Rattle.std.proofs.Common.{◌≡◌, ℕ, List, [], ◌∷◌, ◌++◌, refl, ap, ◌∙◌, sym, append_assoc, append-nil, Option, Some, None, false}
use Rattle.std.specs.Prelude.{codes, Ok}
use Rattle.f77_exprs.specs.declared.at.Notes.{Notes}
use Rattle.f77_exprs.specs.Words.{after}
use Rattle.f77_exprs.specs.State.{State, parse_word, ◌>>=◌}
use Rattle.f77_exprs.specs.Lexical.{skip_name, name_at}
use Rattle.f77_exprs.specs.Grammar.{comma}
use Rattle.f77_forms.specs.declared.form.FormId.{FormId}
use Rattle.f77_forms.specs.declared.form.FormId.TheVariants as forms
use Rattle.f77_ast.specs.declared.module.FunctionForm.{FunctionForm}
use Rattle.f77_ast.specs.declared.module.FunctionForm.TheVariants.{Plain, Integer, Logical}
use Rattle.f77_statements.specs.Lists.{in_parentheses, maybe_in_parentheses}
use Rattle.f77_statements.specs.Phrases.{PhraseTree, program, subroutine, function}
use Rattle.f77_statements.specs.Statements.{form_at, program_statement, subroutine_statement, function_statement}
use Rattle.f77_printer.specs.Layout.{stripped}
use Rattle.f77_printer.specs.DeclText.{others_by, joined_by}
use Rattle.roundtrip_programs.specs.Statements.Formed.{IsName, Each}
use Rattle.f77_printer.specs.ModuleText.{dummies_text, function_word}
use Rattle.roundtrip_programs.specs.Statements.Follows.{standing}
use Rattle.roundtrip_programs.proofs.Statements.Names.{name-back}
use Rattle.roundtrip_programs.proofs.Statements.Fronts.{name_front}
use Rattle.roundtrip_programs.proofs.Statements.Items.{Listed}
use Rattle.roundtrip_programs.proofs.Statements.Balanced.{Kind, tight, listed, deep, Balanced, empty, inner_comma, pair, nested, word}
use Rattle.roundtrip_programs.proofs.Statements.Compact.{name_balanced, solid_end}
use Rattle.roundtrip_programs.proofs.Statements.Forms.{by_keyword}
use Rattle.roundtrip_programs.proofs.Statements.ListsBack.{enclosed_back}

-- each behind a comma
pub others_balanced : {A : Type 0} (d : Kind) (text : A → List ℕ) (P : A → Type 0) → Balanced d (codes ",") → ((x : A) → P x → Balanced d (text x)) → (xs : List A) → Each P xs
    → Balanced d (others_by text xs)
others_balanced d text P c b [] h = empty d
others_balanced d text P c b (x ∷ xs) h =
    pair d (codes "," ++ text x) (others_by text xs) (pair d (codes ",") (text x) c (b x h.first)) (others_balanced d text P c b xs h.others)

abbrev pub EndsName : List ℕ → Type 0
EndsName t = skip_name t ≡ t

pub names_listed : Listed comma name_at (λ n. n) EndsName IsName
names_listed = record { back = λ n h t k s. name-back n t k h s; at_comma = λ u. refl; goes_on = λ x u k h. refl }

-- ---- PROGRAM

pub stripped_program : (n : List ℕ) → IsName n → stripped false (codes "PROGRAM " ++ n) ≡ codes "PROGRAM" ++ n
stripped_program n h = ap (λ (x : List ℕ). codes "PROGRAM" ++ x) (solid_end (name_balanced n h tight))

pub program_form : (n : List ℕ) → IsName n → form_at (codes "PROGRAM" ++ n) ≡ Ok forms.Program
program_form n h = by_keyword (codes "PROGRAM" ++ n) forms.Program refl (pair listed (codes "PROGRAM") n (word listed (codes "PROGRAM") refl) (name_balanced n h listed)) refl

pub name_end : (n : List ℕ) (k : Notes) → IsName n → name_at (standing n k) ≡ Some (n, standing [] k)
name_end n k h = ap (λ (x : List ℕ). name_at (standing x k)) (sym (append-nil n)) ∙ name-back n [] k h refl

pub program_back : (n : List ℕ) (k : Notes) → IsName n → program_statement (standing (codes "PROGRAM" ++ n) k) ≡ Some (program n, standing [] k)
unfolding program_statement
program_back n k h = ap (λ (o : Option (List ℕ × State)). o >>= λ n. Some (program n.0, n.1)) (name_end n k h)

-- ---- SUBROUTINE

pub dummies_balanced : (ds : List (List ℕ)) → Each IsName ds → (d : Kind) → Balanced d (dummies_text ds)
dummies_balanced [] h d = empty d
dummies_balanced (x ∷ xs) h d =
    nested d (x ++ others_by (λ n. n) xs)
    (pair deep x (others_by (λ n. n) xs) (name_balanced x h.first deep) (others_balanced deep (λ n. n) IsName inner_comma (λ y i. name_balanced y i deep) xs h.others))

pub stripped_subroutine : (n : List ℕ) (ds : List (List ℕ)) → IsName n → Each IsName ds → stripped false (codes "SUBROUTINE " ++ n ++ dummies_text ds) ≡ codes "SUBROUTINE" ++ (n ++ dummies_text ds)
stripped_subroutine n ds h e = ap (λ (x : List ℕ). codes "SUBROUTINE" ++ x) (solid_end (pair tight n (dummies_text ds) (name_balanced n h tight) (dummies_balanced ds e tight)))

pub subroutine_form : (n : List ℕ) (ds : List (List ℕ)) → IsName n → Each IsName ds → form_at (codes "SUBROUTINE" ++ (n ++ dummies_text ds)) ≡ Ok forms.Subroutine
subroutine_form n ds h e =
    by_keyword (codes "SUBROUTINE" ++ (n ++ dummies_text ds)) forms.Subroutine refl
    (pair listed (codes "SUBROUTINE") (n ++ dummies_text ds) (word listed (codes "SUBROUTINE") refl)
    (pair listed n (dummies_text ds) (name_balanced n h listed) (dummies_balanced ds e listed)))
    refl

-- behind the opening parenthesis
inside_back : (ds : List (List ℕ)) (k : Notes) → Each IsName ds → in_parentheses name_at (standing (joined_by (λ d. d) ds ++ codes ")") k) ≡ Some (ds, standing [] k)
unfolding in_parentheses
inside_back [] k h = refl
inside_back (x ∷ xs) k h =
    let n : after (codes ")") (joined_by (λ n. n) (x ∷ xs) ++ (41 ∷ [])) ≡ None =
    ap (after (codes ")")) (append_assoc x (others_by (λ n. n) xs) (41 ∷ [])) ∙ (name_front x h.first).plain.bare.close (others_by (λ n. n) xs ++ (41 ∷ [])) in
    enclosed_back name_at (λ n. n) EndsName IsName names_listed x xs [] k h.first h.others refl n

dummies_back : (ds : List (List ℕ)) (k : Notes) → Each IsName ds → maybe_in_parentheses name_at (standing (dummies_text ds) k) ≡ Some (ds, standing [] k)
unfolding maybe_in_parentheses
dummies_back [] k h = refl
dummies_back (x ∷ xs) k h = inside_back (x ∷ xs) k h

before_dummies : (n : List ℕ) (ds : List (List ℕ)) (k : Notes) → IsName n → name_at (standing (n ++ dummies_text ds) k) ≡ Some (n, standing (dummies_text ds) k)
before_dummies n [] k h = name-back n [] k h refl
before_dummies n (d ∷ ds) k h = name-back n (dummies_text (d ∷ ds)) k h refl

pub subroutine_back : (n : List ℕ) (ds : List (List ℕ)) (k : Notes) → IsName n → Each IsName ds
    → subroutine_statement (standing (codes "SUBROUTINE" ++ (n ++ dummies_text ds)) k) ≡ Some (subroutine n ds, standing [] k)
unfolding subroutine_statement
subroutine_back n ds k h e =
    ap (λ (o : Option (List ℕ × State)). o >>= λ n. maybe_in_parentheses name_at n.1 >>= λ ds. Some (subroutine n.0 ds.0, ds.1)) (before_dummies n ds k h)
    ∙ ap (λ (o : Option (List (List ℕ) × State)). o >>= λ ds. Some (subroutine n ds.0, ds.1)) (dummies_back ds k e)

-- ---- FUNCTION

-- the word without its blanks, and the form that it begins
abbrev pub compact_word : FunctionForm → List ℕ
compact_word Plain = codes "FUNCTION"
compact_word Integer = codes "INTEGERFUNCTION"
compact_word Logical = codes "LOGICALFUNCTION"

abbrev pub form_of_function : FunctionForm → FormId
form_of_function Plain = forms.Function
form_of_function Integer = forms.IntegerFunction
form_of_function Logical = forms.LogicalFunction

-- dummies in their parentheses, which are written without any too
abbrev pub enclosed : List (List ℕ) → List ℕ
enclosed ds = 40 ∷ (joined_by (λ d. d) ds ++ (41 ∷ []))

pub enclosed_balanced : (ds : List (List ℕ)) → Each IsName ds → (d : Kind) → Balanced d (enclosed ds)
enclosed_balanced [] h d = nested d [] (empty deep)
enclosed_balanced (x ∷ xs) h d = dummies_balanced (x ∷ xs) h d

pub function-text : (form : FunctionForm) (n : List ℕ) (ds : List (List ℕ)) → function_word form ++ n ++ enclosed ds ≡ function_word form ++ (n ++ enclosed ds)
function-text form n ds = append_assoc (function_word form) n (enclosed ds)

word_stripped : (form : FunctionForm) (x : List ℕ) → stripped false (function_word form ++ x) ≡ compact_word form ++ stripped false x
word_stripped Plain x = refl
word_stripped Integer x = refl
word_stripped Logical x = refl

pub stripped_function : (form : FunctionForm) (n : List ℕ) (ds : List (List ℕ)) → IsName n → Each IsName ds
    → stripped false (function_word form ++ n ++ enclosed ds) ≡ compact_word form ++ (n ++ enclosed ds)
stripped_function form n ds h e =
    ap (stripped false) (function-text form n ds) ∙ word_stripped form (n ++ enclosed ds)
    ∙ ap (λ (x : List ℕ). compact_word form ++ x) (solid_end (pair tight n (enclosed ds) (name_balanced n h tight) (enclosed_balanced ds e tight)))

dummies_listed : (n : List ℕ) (ds : List (List ℕ)) → IsName n → Each IsName ds → Balanced listed (n ++ enclosed ds)
dummies_listed n ds h e = pair listed n (enclosed ds) (name_balanced n h listed) (enclosed_balanced ds e listed)

pub function_form : (form : FunctionForm) (n : List ℕ) (ds : List (List ℕ)) → IsName n → Each IsName ds → form_at (compact_word form ++ (n ++ enclosed ds)) ≡ Ok (form_of_function form)
function_form Plain n ds h e =
    by_keyword (codes "FUNCTION" ++ (n ++ enclosed ds)) forms.Function refl (pair listed (codes "FUNCTION") (n ++ enclosed ds) (word listed (codes "FUNCTION") refl) (dummies_listed n ds h e)) refl
function_form Integer n ds h e =
    by_keyword (codes "INTEGERFUNCTION" ++ (n ++ enclosed ds)) forms.IntegerFunction refl
    (pair listed (codes "INTEGERFUNCTION") (n ++ enclosed ds) (word listed (codes "INTEGERFUNCTION") refl) (dummies_listed n ds h e)) refl
function_form Logical n ds h e =
    by_keyword (codes "LOGICALFUNCTION" ++ (n ++ enclosed ds)) forms.LogicalFunction refl
    (pair listed (codes "LOGICALFUNCTION") (n ++ enclosed ds) (word listed (codes "LOGICALFUNCTION") refl) (dummies_listed n ds h e)) refl

-- the dummies behind the name
abbrev with_dummies : FunctionForm → List ℕ × State → Option (PhraseTree × State)
with_dummies form n = parse_word (codes "(") n.1 >>= λ u. in_parentheses name_at u >>= λ ds. Some (function form n.0 ds.0, ds.1)

behind_word : (form : FunctionForm) (n : List ℕ) (ds : List (List ℕ)) (k : Notes) → IsName n → Each IsName ds
    → (name_at (standing (n ++ enclosed ds) k) >>= with_dummies form) ≡ Some (function form n ds, standing [] k)
behind_word form n ds k h e =
    ap (λ (o : Option (List ℕ × State)). o >>= with_dummies form) (name-back n (enclosed ds) k h refl)
    ∙ ap (λ (o : Option (List (List ℕ) × State)). o >>= λ ds. Some (function form n ds.0, ds.1)) (inside_back ds k e)

pub function_back : (form : FunctionForm) (n : List ℕ) (ds : List (List ℕ)) (k : Notes) → IsName n → Each IsName ds
    → function_statement (compact_word form) form (standing (compact_word form ++ (n ++ enclosed ds)) k) ≡ Some (function form n ds, standing [] k)
unfolding function_statement
function_back Plain n ds k h e = behind_word Plain n ds k h e
function_back Integer n ds k h e = behind_word Integer n ds k h e
function_back Logical n ds k h e = behind_word Logical n ds k h e
