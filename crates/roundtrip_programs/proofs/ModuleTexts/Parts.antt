-- What is written of a part of a specification statement stands no deeper than what was read.
use Rattle.std.proofs.Common.{◌≡◌, ℕ, ◌+◌, List, [], ◌∷◌, length, refl, sym, ◌∙◌, Some, None, Bool, true, false, if◌then◌else◌}
use Rattle.std.specs.Prelude.{codes, nat_eq, nat_le}
use Rattle.std.specs.Char.{is_ascii_uppercase}
use Rattle.f77_ast.specs.declared.decl.Scalar.{Scalar}
use Rattle.f77_ast.specs.declared.decl.Scalar.TheVariants.{Int, Log}
use Rattle.f77_ast.specs.declared.decl.SaveItem.TheVariants.{Name, Block}
use Rattle.f77_ast.specs.Trees.{ExprTree}
use Rattle.f77_ast.specs.DeclTrees.{ExtentTree}
use Rattle.f77_exprs.specs.State.{State, parse_word, or_done, ◌>>=◌}
use Rattle.f77_exprs.specs.Lexical.{name_at}
use Rattle.f77_exprs.specs.Grammar.{comma, items, more_by, expression, variable}
use Rattle.f77_statements.specs.Lists.{ending}
use Rattle.f77_statements.specs.Parts.{letter_of, letter, letters, ranges, implicit_part, upper, extent, bounds, entity, array, setting, group, block_name, save_item}
use Rattle.f77_statements.specs.Parts as parts
use Rattle.f77_printer.specs.ExprText.{expr_text}
use Rattle.f77_printer.specs.DeclText.{extent_text, bounds_text, entity_text, letters_text, scalar_text, part_text, setting_text, group_text, save_item_text}
use Rattle.roundtrip_programs.specs.Statements.Formed.{Each}
use Rattle.roundtrip_programs.proofs.ModuleTexts.Levels.{IsShallow, Leads, join, is_plain, plain_at, plain, plain_by, opens, opened, closes, closed}
use Rattle.roundtrip_programs.proofs.ModuleTexts.Readers.{Within, Even, Level, seq, then_read, then_word, else_word, done_word}
use Rattle.roundtrip_programs.proofs.ModuleTexts.Names.{name-even}
use Rattle.roundtrip_programs.proofs.ModuleTexts.Lists.{joined-leads, comma_passes, more_by-even, items-even, ending_closed, ending_slash}
use Rattle.roundtrip_programs.proofs.ModuleTexts.Exprs.{expression_even, variable_even}

-- ---- IMPLICIT

abbrev IsPlain : ℕ → ℕ → Type 0
IsPlain n c = is_plain c ≡ true

letter_by : (b : Bool) (c : ℕ) (cs : List ℕ) (n : ℕ) (s : State) → is_ascii_uppercase c ≡ b → IsShallow n (c ∷ cs) → Within (if b then Some (c, record s { rest = cs }) else None) n (IsPlain n)
letter_by true c cs n s e h = let p = plain_by is_ascii_uppercase c refl refl refl e in (p, sym (plain_at n c cs p) ∙ h)
letter_by false c cs n s e h = tt

letter_in : (t : List ℕ) (n : ℕ) (s : State) → IsShallow n t → Within (letter_of s t) n (IsPlain n)
letter_in [] n s h = tt
letter_in (c ∷ cs) n s h = letter_by (is_ascii_uppercase c) c cs n s refl h

letter-even : Even letter IsPlain
unfolding letter
letter-even n s h = letter_in s.rest n s h

one_leads : (n a : ℕ) → is_plain a ≡ true → Leads n n (a ∷ [])
one_leads n a p = record { over = λ u. plain_at n a u p }

letters_by : (b : Bool) (n a z : ℕ) → is_plain a ≡ true → is_plain z ≡ true → Leads n n (if b then a ∷ [] else a ∷ 45 ∷ z ∷ [])
letters_by true n a z p q = one_leads n a p
letters_by false n a z p q = join (join (one_leads n a p) (plain n (codes "-") refl)) (one_leads n z q)

letters_level : (n a z : ℕ) → is_plain a ≡ true → is_plain z ≡ true → Level letters_text n (record { first = a; last = z })
letters_level n a z p q = letters_by (nat_eq a z) n a z p q

range_by : (b : Bool) (n a : ℕ) (l : ℕ × State) → is_plain a ≡ true → is_plain l.0 ≡ true → IsShallow n l.1.rest → Within (if b then Some (record { first = a; last = l.0 }, l.1) else None) n (Level letters_text n)
range_by true n a l p q h = (letters_level n a l.0 p q, h)
range_by false n a l p q h = tt

letters-even : Even letters (Level letters_text)
unfolding letters
letters-even n s h =
    then_read letter IsPlain _ s n n (Level letters_text n) letter-even h
    (λ a p i. done_word (codes "-") (record { first = a.0; last = a.0 }) a.1 (λ t. letter t >>= parts.range a.0) n (Level letters_text n) i (letters_level n a.0 a.0 p p)
    (λ r j. then_read letter IsPlain (parts.range a.0) (record a.1 { rest = r }) n n (Level letters_text n) letter-even j (λ l q k. range_by (nat_le a.0 l.0) n a.0 l p q k)))

scalar-leads : (n : ℕ) (sc : Scalar) → Leads n n (scalar_text sc)
scalar-leads n Int = plain n (codes "INTEGER") refl
scalar-leads n Log = plain n (codes "LOGICAL") refl

ranges-even : (sc : Scalar) → Even (ranges sc) (Level part_text)
unfolding ranges
ranges-even sc n s h =
    then_word (codes "(") s _ n n (Level part_text n) h
    (λ r i. seq (ending (codes ")") (items letters) (record s { rest = r })) _ n n (Each (Level letters_text (n + 1))) (Level part_text n)
    (ending_closed (items letters) (λ m. Each (Level letters_text m)) n (record s { rest = r }) (items-even letters (Level letters_text) letters-even) (opened n r i))
    (λ ls x j. (join (join (join (scalar-leads n sc) (opens n r i)) (joined-leads letters_text (n + 1) ls.0 x)) (closes n), j)))

pub part-even : Even implicit_part (Level part_text)
unfolding implicit_part
part-even n s h =
    else_word (codes "INTEGER") s (ranges Int) _ n n (Level part_text n) h (λ r i. ranges-even Int n (record s { rest = r }) i)
    (else_word (codes "LOGICAL") s (ranges Log) None n n (Level part_text n) h (λ r i. ranges-even Log n (record s { rest = r }) i) tt)

-- ---- names with bounds

upper-even : (low : ExprTree) (n : ℕ) (s : State) → Level expr_text n low → IsShallow n s.rest → Within (upper low s) n (Level extent_text n)
unfolding upper
upper-even low n s x h =
    else_word (codes "*") s (λ t. Some (record { low = Some low; high = None }, t)) _ n n (Level extent_text n) h (λ r i. (join (join x (plain n (codes ":") refl)) (plain n (codes "*") refl), i))
    (then_read expression (Level expr_text) (λ e. Some (record { low = Some low; high = Some e.0 }, e.1)) s n n (Level extent_text n) expression_even h
    (λ e y i. (join (join x (plain n (codes ":") refl)) y, i)))

extent-even : Even extent (Level extent_text)
unfolding extent
extent-even n s h =
    else_word (codes "*") s (λ t. Some (record { low = None; high = None }, t)) _ n n (Level extent_text n) h (λ r i. (plain n (codes "*") refl, i))
    (then_read expression (Level expr_text) (λ e. or_done (record { low = None; high = Some e.0 }) e.1 (parse_word (codes ":") e.1) (upper e.0)) s n n (Level extent_text n) expression_even h
    (λ e y i. done_word (codes ":") (record { low = None; high = Some e.0 }) e.1 (upper e.0) n (Level extent_text n) i (join (plain n [] refl) y)
    (λ r j. upper-even e.0 n (record e.1 { rest = r }) y j)))

bounds_leads : (n : ℕ) (xs : List ExtentTree) → Leads n (n + 1) (codes "(") → Each (Level extent_text (n + 1)) xs → Leads n n (bounds_text xs)
bounds_leads n [] o h = plain n [] refl
bounds_leads n (x ∷ xs) o h = join (join o (joined-leads extent_text (n + 1) (x ∷ xs) h)) (closes n)

bounds-even : (f : List ℕ) (n : ℕ) (s : State) → Leads n n f → Leads n (n + 1) (codes "(") → IsShallow (n + 1) s.rest → Within (bounds f s) n (Level entity_text n)
unfolding bounds
bounds-even f n s x o h =
    seq (ending (codes ")") (items extent) s) _ n n (Each (Level extent_text (n + 1))) (Level entity_text n)
    (ending_closed (items extent) (λ m. Each (Level extent_text m)) n s (items-even extent (Level extent_text) extent-even) h) (λ b y i. (join x (bounds_leads n b.0 o y), i))

pub entity-even : Even entity (Level entity_text)
unfolding entity
entity-even n s h =
    then_read name_at (Level (λ x. x)) (λ f. or_done (record { name = f.0; bounds = [] }) f.1 (parse_word (codes "(") f.1) (bounds f.0)) s n n (Level entity_text n) name-even h
    (λ f x i. done_word (codes "(") (record { name = f.0; bounds = [] }) f.1 (bounds f.0) n (Level entity_text n) i (join x (plain n [] refl))
    (λ r j. bounds-even f.0 n (record f.1 { rest = r }) x (opens n r j) (opened n r j)))

pub array-even : Even array (Level entity_text)
unfolding array
array-even n s h =
    then_read name_at (Level (λ x. x)) _ s n n (Level entity_text n) name-even h
    (λ f x i. then_word (codes "(") f.1 (λ t. bounds f.0 t) n n (Level entity_text n) i (λ r j. bounds-even f.0 n (record f.1 { rest = r }) x (opens n r j) (opened n r j)))

-- ---- PARAMETER, EQUIVALENCE, SAVE

pub setting-even : Even setting (Level setting_text)
unfolding setting
setting-even n s h =
    then_read name_at (Level (λ x. x)) _ s n n (Level setting_text n) name-even h
    (λ f x i. then_word (codes "=") f.1 _ n n (Level setting_text n) i
    (λ r j. then_read expression (Level expr_text) _ (record f.1 { rest = r }) n n (Level setting_text n) expression_even j (λ e y k. (join (join x (plain n (codes "=") refl)) y, k))))

group_end : (a b : ExprTree) (n : ℕ) (t : State) → Leads n (n + 1) (codes "(") → Level expr_text (n + 1) a → Level expr_text (n + 1) b → IsShallow (n + 1) t.rest
    → Within (more_by comma variable (length t.rest) (a ∷ b ∷ []) t >>= λ vs. parse_word (codes ")") vs.1 >>= λ y. Some (vs.0, y)) n (Level group_text n)
group_end a b n t o x y h =
    seq (more_by comma variable (length t.rest) (a ∷ b ∷ []) t) (λ vs. parse_word (codes ")") vs.1 >>= λ y. Some (vs.0, y)) (n + 1) n (Each (Level expr_text (n + 1))) (Level group_text n)
    (more_by-even comma variable (Level expr_text) comma_passes variable_even (length t.rest) (a ∷ b ∷ []) (n + 1) t (record { first = x; others = record { first = y; others = tt } }) h)
    (λ vs z i. then_word (codes ")") vs.1 (λ y. Some (vs.0, y)) (n + 1) n (Level group_text n) i (λ r j. (join (join o (joined-leads expr_text (n + 1) vs.0 z)) (closes n), closed n r j)))

pub group-even : Even group (Level group_text)
unfolding group
group-even n s h =
    then_word (codes "(") s _ n n (Level group_text n) h
    (λ r i. then_read variable (Level expr_text) _ (record s { rest = r }) (n + 1) n (Level group_text n) variable_even (opened n r i)
    (λ v x j. then_word (codes ",") v.1 _ (n + 1) n (Level group_text n) j
    (λ q k. then_read variable (Level expr_text) _ (record v.1 { rest = q }) (n + 1) n (Level group_text n) variable_even k (λ u y l. group_end v.0 u.0 n u.1 (opens n r i) x y l))))

pub block_name-even : Even block_name (Level (λ x. x))
unfolding block_name
block_name-even = ending_slash name_at (Level (λ x. x)) name-even

pub save-even : Even save_item (Level save_item_text)
unfolding save_item
save-even n s h =
    else_word (codes "/") s (λ t. block_name t >>= λ b. Some (Block b.0, b.1)) _ n n (Level save_item_text n) h
    (λ r i. then_read block_name (Level (λ x. x)) _ (record s { rest = r }) n n (Level save_item_text n) block_name-even i (λ b x j. (join (join (plain n (codes "/") refl) x) (plain n (codes "/") refl), j)))
    (then_read name_at (Level (λ x. x)) (λ f. Some (Name f.0, f.1)) s n n (Level save_item_text n) name-even h (λ f x i. (x, i)))
