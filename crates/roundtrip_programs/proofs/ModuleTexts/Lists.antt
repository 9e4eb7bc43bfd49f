-- Lists: their items and what stands between them close each parenthesis that they open.
use Rattle.std.proofs.Common.{◌≡◌, ℕ, zero, suc, ◌+◌, List, [], ◌∷◌, ◌++◌, length, refl, Option, Some, None}
use Rattle.std.specs.Prelude.{codes, option_map}
use Rattle.f77_exprs.specs.Words.{after}
use Rattle.f77_ast.specs.Trees.{ExprTree}
use Rattle.f77_ast.specs.Plain.{exprs_of}
use Rattle.f77_exprs.specs.State.{State, Reader, parse_word, or_done, ◌>>=◌}
use Rattle.f77_exprs.specs.Grammar.{Between, comma, more_by, items_by, items}
use Rattle.f77_statements.specs.Lists.{ending, or_end, items_left, in_parentheses, maybe_in_parentheses, maybe_after_comma}
use Rattle.f77_printer.specs.ExprText.{expr_text, exprs_text, items_text}
use Rattle.f77_printer.specs.DeclText.{others_by, joined_by}
use Rattle.roundtrip_programs.specs.Statements.Formed.{Each}
use Rattle.roundtrip_programs.proofs.Statements.Lists.{each-push}
use Rattle.roundtrip_programs.proofs.ModuleTexts.Levels.{IsShallow, Leads, join, plain, opens, opened, closed}
use Rattle.roundtrip_programs.proofs.ModuleTexts.Readers.{Within, Even, Level, split_shallow, lower, then_read, then_word, else_word, done_word}

-- ---- their texts

pub others-leads : {A : Type 0} (text : A → List ℕ) (n : ℕ) (xs : List A) → Each (Level text n) xs → Leads n n (others_by text xs)
others-leads text n [] h = plain n [] refl
others-leads text n (x ∷ xs) h = join (join (plain n (codes ",") refl) h.first) (others-leads text n xs h.others)

pub joined-leads : {A : Type 0} (text : A → List ℕ) (n : ℕ) (xs : List A) → Each (Level text n) xs → Leads n n (joined_by text xs)
joined-leads text n [] h = plain n [] refl
joined-leads text n (x ∷ xs) h = join h.first (others-leads text n xs h.others)

pub items-leads : (n : ℕ) (xs : List ExprTree) → Each (Level expr_text n) xs → Leads n n (items_text (exprs_of xs))
items-leads n [] h = plain n [] refl
items-leads n (x ∷ xs) h = join (join (plain n (codes ",") refl) h.first) (items-leads n xs h.others)

pub exprs-leads : (n : ℕ) (xs : List ExprTree) → Each (Level expr_text n) xs → Leads n n (exprs_text (exprs_of xs))
exprs-leads n [] h = plain n [] refl
exprs-leads n (x ∷ xs) h = join h.first (items-leads n xs h.others)

-- ---- what stands between two items

abbrev pub Rest : ℕ → Option State → Type 0
Rest n None = Unit {0}
Rest n (Some t) = IsShallow n t.rest

abbrev pub Passes : Between → Type 0
Passes between = (n : ℕ) (s : State) → IsShallow n s.rest → Rest n (between s)

done_between : {B : Type 0} (o : Option State) (b : B) (s : State) (go : State → Option (B × State)) (n : ℕ) (V : B → Type 0) → IsShallow n s.rest → Rest n o → V b
    → ((t : State) → IsShallow n t.rest → Within (go t) n V) → Within (or_done b s o go) n V
done_between None b s go n V h c v f = (v, h)
done_between (Some t) b s go n V h c v f = f t c

-- ---- lists

pub more_by-even : {A : Type 0} (between : Between) (one : Reader A) (V : ℕ → A → Type 0) → Passes between → Even one V
    → (k : ℕ) (found : List A) (n : ℕ) (s : State) → Each (V n) found → IsShallow n s.rest → Within (more_by between one k found s) n (Each (V n))
unfolding more_by
more_by-even between one V c e zero found n s f h = (f, h)
more_by-even between one V c e (suc k) found n s f h =
    done_between (between s) found s (λ t. one t >>= λ r. more_by between one k (found ++ r.0 ∷ []) r.1) n (Each (V n)) h (c n s h) f
    (λ t i. then_read one V (λ r. more_by between one k (found ++ r.0 ∷ []) r.1) t n n (Each (V n)) e i
    (λ r v j. more_by-even between one V c e k (found ++ r.0 ∷ []) n r.1 (each-push (V n) found r.0 f v) j))

pub items_by-even : {A : Type 0} (between : Between) (one : Reader A) (V : ℕ → A → Type 0) → Passes between → Even one V → Even (items_by between one) (λ n. Each (V n))
unfolding items_by
items_by-even between one V c e n s h =
    then_read one V (λ x. more_by between one (length x.1.rest) (x.0 ∷ []) x.1) s n n (Each (V n)) e h
    (λ x v i. more_by-even between one V c e (length x.1.rest) (x.0 ∷ []) n x.1 (record { first = v; others = tt }) i)

word_rest : (o : Option (List ℕ)) (word : List ℕ) (n : ℕ) (s : State) → after word s.rest ≡ o → ((r : List ℕ) → IsShallow n (word ++ r) → IsShallow n r) → IsShallow n s.rest
    → Rest n (option_map (λ r. record s { rest = r }) o)
word_rest None word n s e f h = tt
word_rest (Some r) word n s e f h = f r (split_shallow word r s n e h)

pub word_passes : (word : List ℕ) (n : ℕ) (s : State) → ((r : List ℕ) → IsShallow n (word ++ r) → IsShallow n r) → IsShallow n s.rest → Rest n (parse_word word s)
word_passes word n s f h = word_rest (after word s.rest) word n s refl f h

pub comma_passes : Passes comma
comma_passes n s h = word_passes (codes ",") n s (λ r i. i) h

pub items-even : {A : Type 0} (one : Reader A) (V : ℕ → A → Type 0) → Even one V → Even (items one) (λ n. Each (V n))
items-even one V e = items_by-even comma one V comma_passes e

-- what is read inside a parenthesis that is open, up to where it is closed
pub ending_closed : {A : Type 0} (one : Reader A) (V : ℕ → A → Type 0) (n : ℕ) (s : State) → Even one V → IsShallow (n + 1) s.rest → Within (ending (codes ")") one s) n (V (n + 1))
unfolding ending
ending_closed one V n s e h =
    then_read one V (λ r. parse_word (codes ")") r.1 >>= λ t. Some (r.0, t)) s (n + 1) n (V (n + 1)) e h
    (λ r v i. then_word (codes ")") r.1 (λ t. Some (r.0, t)) (n + 1) n (V (n + 1)) i (λ t j. (v, closed n t j)))

-- what is read up to a slash
pub ending_slash : {A : Type 0} (one : Reader A) (V : ℕ → A → Type 0) → Even one V → Even (ending (codes "/") one) V
unfolding ending
ending_slash one V e n s h =
    then_read one V (λ r. parse_word (codes "/") r.1 >>= λ t. Some (r.0, t)) s n n (V n) e h
    (λ r v i. then_word (codes "/") r.1 (λ t. Some (r.0, t)) n n (V n) i (λ t j. (v, j)))

end_at : {A : Type 0} (t : List ℕ) (s : State) (a : A) (other : Option (A × State)) (n : ℕ) (V : A → Type 0) → IsShallow n s.rest → V a → Within other n V → Within (or_end t s a other) n V
end_at [] s a other n V h v x = (v, h)
end_at (c ∷ cs) s a other n V h v x = x

pub end_even : {A : Type 0} (s : State) (a : A) (other : Option (A × State)) (n : ℕ) (V : A → Type 0) → IsShallow n s.rest → V a → Within other n V → Within (or_end s.rest s a other) n V
end_even s a other n V h v x = end_at s.rest s a other n V h v x

pub items_left-even : {A : Type 0} (one : Reader A) (V : ℕ → A → Type 0) → Even one V → Even (items_left one) (λ n. Each (V n))
unfolding items_left
items_left-even one V e n s h = end_even s [] (items one s) n (Each (V n)) h tt (items-even one V e n s h)

-- none, or items in parentheses
abbrev pub Wrapped : {A : Type 0} → (ℕ → A → Type 0) → ℕ → List A → Type 0
Wrapped V n [] = Unit {0}
Wrapped V n (x ∷ xs) = Leads n (n + 1) (codes "(") × Each (V (n + 1)) (x ∷ xs)

wrap : {A : Type 0} (V : ℕ → A → Type 0) (n : ℕ) (xs : List A) → Leads n (n + 1) (codes "(") → Each (V (n + 1)) xs → Wrapped V n xs
wrap V n [] o h = tt
wrap V n (x ∷ xs) o h = (o, h)

pub enclosed-even : {A : Type 0} (one : Reader A) (V : ℕ → A → Type 0) (n : ℕ) (s : State) → Even one V → Leads n (n + 1) (codes "(") → IsShallow (n + 1) s.rest → Within (in_parentheses one s) n (Wrapped V n)
unfolding in_parentheses
enclosed-even one V n s e o h =
    else_word (codes ")") s (λ t. Some ([], t)) (ending (codes ")") (items one) s) (n + 1) n (Wrapped V n) h (λ r i. (tt, closed n r i))
    (lower (ending (codes ")") (items one) s) n (Each (V (n + 1))) (Wrapped V n) (ending_closed (items one) (λ m. Each (V m)) n s (items-even one V e) h) (λ xs. wrap V n xs o))

pub maybe_enclosed-even : {A : Type 0} (one : Reader A) (V : ℕ → A → Type 0) → Even one V → Even (maybe_in_parentheses one) (Wrapped V)
unfolding maybe_in_parentheses
maybe_enclosed-even one V e n s h =
    done_word (codes "(") [] s (in_parentheses one) n (Wrapped V n) h tt (λ r i. enclosed-even one V n (record s { rest = r }) e (opens n r i) (opened n r i))

pub maybe_listed-even : {A : Type 0} (one : Reader A) (V : ℕ → A → Type 0) → Even one V → Even (maybe_after_comma one) (λ n. Each (V n))
unfolding maybe_after_comma
maybe_listed-even one V e n s h = done_word (codes ",") [] s (items one) n (Each (V n)) h tt (λ r i. items-even one V e n (record s { rest = r }) i)
