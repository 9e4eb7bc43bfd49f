-- How the form of a statement is chosen: a stripped statement, by the keywords of a table.
use Rattle.std.specs.Prelude.{ℕ, List, [], ◌∷◌, length, map, Option, Some, None, Bool, true, false, not, ◌&&◌, ◌||◌, if◌then◌else◌, nat_lt, nat_eq, unwrap_or, option_and_then, bytes_eq, codes}
use Rattle.std.specs.List.{list_any}
use Rattle.f77_forms.specs.declared.choice.Choice.{Choice}
use Rattle.f77_forms.specs.declared.choice.Choice.TheVariants.{Chosen, OutOfProfile, Syntax}
use Rattle.f77_forms.specs.declared.form.Form.{Form}
use Rattle.f77_forms.specs.declared.form.FormId.{FormId}
use Rattle.f77_forms.specs.declared.form.FormId.TheVariants.{Assignment, LogicalIf, BlockIf, Do, DoWhile}
use Rattle.f77_forms.specs.declared.outline.Marks.{Marks}
use Rattle.f77_forms.specs.declared.outline.Marks.TheVariants.{NoEqual, Equal, EqualAndComma}
use Rattle.f77_forms.specs.declared.refused.Refused.{Refused}
use Rattle.f77_forms.specs.declared.refused.Refused.TheVariants.{ArithmeticIf}
use Rattle.f77_forms.specs.Words.{rest_after, begins, is_letter, is_digit, is_empty}
use Rattle.f77_forms.specs.Outline.{front, marks_of, rest_after_close}
use Rattle.f77_forms.specs.Longest.{longest}
use Rattle.f77_forms.specs.Refused.{refused_word, refused_keywords, refused_stands}

-- a keyword and the form that it begins
pub record Entry : Type 0 where
  pub word : List ℕ
  pub id : FormId

abbrev pub entry : Form → Entry
entry form = record { word = form.keyword.now; id = form.id }

abbrev pub entries : List Form → List Entry
entries table = map entry table

-- 1. IF( and behind its parenthesis a letter: a block IF where that is THEN, else a logical IF. Behind it a digit: an arithmetic IF
abbrev pub if_behind : List ℕ → Option Choice
if_behind [] = None
if_behind (c ∷ cs) =
    if is_letter c then Some (Chosen (if bytes_eq (c ∷ cs) (codes "THEN") then BlockIf else LogicalIf))
    else if is_digit c then Some (OutOfProfile ArithmeticIf)
    else None

abbrev pub if_body : List ℕ → Option Choice
if_body [] = None
if_body (c ∷ cs) = if nat_eq c 40 then option_and_then if_behind (rest_after_close front (c ∷ cs)) else None

abbrev pub if_choice : List ℕ → Option Choice
if_choice body = option_and_then if_body (rest_after (codes "IF") body)

-- 4. DO, a label and a comma, neither of which need be there, and WHILE(
abbrev pub skip_digits : List ℕ → List ℕ
skip_digits [] = []
skip_digits (c ∷ cs) = if is_digit c then skip_digits cs else c ∷ cs

abbrev pub skip_comma : List ℕ → List ℕ
skip_comma [] = []
skip_comma (c ∷ cs) = if nat_eq c 44 then cs else c ∷ cs

abbrev pub while_behind : Option (List ℕ) → Bool
while_behind None = false
while_behind (Some rest) = begins (codes "WHILE(") (skip_comma (skip_digits rest))

abbrev pub begins_while : List ℕ → Bool
begins_while body = while_behind (rest_after (codes "DO") body)

-- 5. the longest keyword that the statement begins with, of the table and of those that are refused; where they are the same, it is refused
abbrev pub entry_stands : List ℕ → Entry → Bool
entry_stands body e = not (is_empty e.word) && begins e.word body

abbrev pub longer_of : Option Entry → Option Refused → Choice
longer_of None None = Syntax
longer_of (Some e) None = Chosen e.id
longer_of None (Some r) = OutOfProfile r
longer_of (Some e) (Some r) = if nat_lt (length (refused_word r)) (length e.word) then Chosen e.id else OutOfProfile r

abbrev pub keyword_choice : List Entry → List ℕ → Choice
keyword_choice table body =
    longer_of (longest (λ e. e.word) (entry_stands body) table) (longest refused_word (refused_stands body) refused_keywords)

-- 2. and 3. an = outside parentheses and constants: an assignment, or with a comma after it a DO where it begins with DO
abbrev pub marked_choice : Marks → List Entry → List ℕ → Choice
marked_choice Equal table body = Chosen Assignment
marked_choice EqualAndComma table body = if begins (codes "DO") body then Chosen Do else Syntax
marked_choice NoEqual table body = if begins_while body then Chosen DoWhile else keyword_choice table body

-- the first rule that fits
abbrev pub choice_of : List Entry → List ℕ → Choice
choice_of table body = unwrap_or (if_choice body) (marked_choice (marks_of front body) table body)

abbrev pub chosen : Choice → Option FormId
chosen (Chosen id) = Some id
chosen (OutOfProfile r) = None
chosen Syntax = None

abbrev pub refused_of : Choice → Option Refused
refused_of (Chosen id) = None
refused_of (OutOfProfile r) = Some r
refused_of Syntax = None

-- the form that a table gives
abbrev pub form_of : List Entry → List ℕ → Option FormId
form_of table body = chosen (choice_of table body)

-- no keyword but the empty one stands twice
abbrev pub no_word_twice : List Entry → Bool
no_word_twice [] = true
no_word_twice (e ∷ es) = (is_empty e.word || not (list_any (λ f. bytes_eq e.word f.word) es)) && no_word_twice es
