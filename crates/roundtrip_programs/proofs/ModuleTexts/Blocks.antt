-- What is written of the blocks of COMMON and the groups of DATA stands no deeper than what was read.
use Rattle.std.proofs.Common.{ℕ, List, [], ◌∷◌, length, refl, Option, Some, None, Bool, true, false, if◌then◌else◌, decimal, pos}
use Rattle.std.specs.Prelude.{codes}
use Rattle.f77_ast.specs.declared.expr.UnaryOp.{UnaryOp}
use Rattle.f77_ast.specs.declared.expr.UnaryOp.TheVariants.{Plus, Minus}
use Rattle.f77_ast.specs.Trees.{int, log, unary}
use Rattle.f77_ast.specs.DeclTrees.{CommonTree, DataTree}
use Rattle.f77_exprs.specs.State.{State, parse_word, ◌>>=◌}
use Rattle.f77_exprs.specs.Lexical.{number, number_first}
use Rattle.f77_exprs.specs.Grammar.{items, items_by, more_by, variable, literal}
use Rattle.f77_statements.specs.Lists.{ending, past, skip_comma}
use Rattle.f77_statements.specs.Parts.{entity, block_name, unless, member_comma, members, block, first_block, or_this, next_block, integer, signed_integer, data_constant, repeat_value, value_or_count, data_value, data_group, next_of, next_group}
use Rattle.f77_printer.specs.ExprText.{expr_text}
use Rattle.f77_printer.specs.DeclText.{entity_text, block_text, common_text, other_commons_text, commons_text, data_value_text, data_group_text, other_groups_text, data_text}
use Rattle.roundtrip_programs.specs.Statements.Formed.{Each}
use Rattle.roundtrip_programs.proofs.ModuleTexts.Levels.{IsShallow, Leads, join, plain}
use Rattle.roundtrip_programs.proofs.ModuleTexts.Readers.{Within, Even, Level, then_read, else_word, done_word}
use Rattle.roundtrip_programs.proofs.ModuleTexts.Names.{number_even}
use Rattle.roundtrip_programs.proofs.ModuleTexts.Lists.{joined-leads, Rest, Passes, word_passes, comma_passes, more_by-even, items_by-even, items-even, ending_slash}
use Rattle.roundtrip_programs.proofs.ModuleTexts.Exprs.{unary_leads, variable_even}
use Rattle.roundtrip_programs.proofs.ModuleTexts.Parts.{entity-even, block_name-even}

-- ---- COMMON

unless_rest : (o p : Option State) (n : ℕ) → Rest n p → Rest n (unless o p)
unless_rest None p n h = h
unless_rest (Some t) p n h = tt

member_passes : Passes member_comma
member_passes n s h = unless_rest (parse_word (codes ",/") s) (parse_word (codes ",") s) n (comma_passes n s h)

this_rest : (o p : Option State) (n : ℕ) → Rest n o → Rest n p → Rest n (or_this o p)
this_rest None p n h g = g
this_rest (Some t) p n h g = h

next_passes : Passes next_block
next_passes n s h = this_rest (parse_word (codes ",/") s) (parse_word (codes "/") s) n (word_passes (codes ",/") n s (λ r i. i) h) (word_passes (codes "/") n s (λ r i. i) h)

-- the name of a block and its members
abbrev pub Blocked : ℕ → CommonTree → Type 0
Blocked n c = record { block : Leads n n c.block; members : Each (Level entity_text n) c.members }

members-even : (b : List ℕ) (n : ℕ) (s : State) → Leads n n b → IsShallow n s.rest → Within (members b s) n (Blocked n)
unfolding members
members-even b n s x h =
    then_read (items_by member_comma entity) (λ m. Each (Level entity_text m)) (λ ms. Some (record { block = b; members = ms.0 }, ms.1)) s n n (Blocked n)
    (items_by-even member_comma entity (Level entity_text) member_passes entity-even) h (λ ms y i. (record { block = x; members = y }, i))

block-even : Even block Blocked
unfolding block
block-even n s h =
    else_word (codes "/") s (members []) _ n n (Blocked n) h (λ r i. members-even [] n (record s { rest = r }) (plain n [] refl) i)
    (then_read block_name (Level (λ x. x)) (λ b. members b.0 b.1) s n n (Blocked n) block_name-even h (λ b x i. members-even b.0 n b.1 x i))

first-even : Even first_block Blocked
unfolding first_block
first-even n s h = else_word (codes "/") s block (members [] s) n n (Blocked n) h (λ r i. block-even n (record s { rest = r }) i) (members-even [] n s (plain n [] refl) h)

pub blocks_even : (n : ℕ) (s : State) → IsShallow n s.rest → Within (first_block s >>= λ b. more_by next_block block (length b.1.rest) (b.0 ∷ []) b.1) n (Each (Blocked n))
blocks_even n s h =
    then_read first_block Blocked (λ b. more_by next_block block (length b.1.rest) (b.0 ∷ []) b.1) s n n (Each (Blocked n)) first-even h
    (λ b x i. more_by-even next_block block Blocked next_passes block-even (length b.1.rest) (b.0 ∷ []) n b.1 (record { first = x; others = tt }) i)

bare_leads : (b : Bool) (n : ℕ) → Leads n n (if b then [] else codes "// ")
bare_leads true n = plain n [] refl
bare_leads false n = plain n (codes "// ") refl

block_leads : (b : Bool) (n : ℕ) (c : List ℕ) → Leads n n c → Leads n n (block_text b c)
block_leads b n [] h = bare_leads b n
block_leads b n (c ∷ cs) h = join (join (plain n (codes "/") refl) h) (plain n (codes "/ ") refl)

common_leads : (b : Bool) (n : ℕ) (c : CommonTree) → Blocked n c → Leads n n (common_text b c)
common_leads b n c h = join (block_leads b n c.block h.block) (joined-leads entity_text n c.members h.members)

others_leads : (n : ℕ) (cs : List CommonTree) → Each (Blocked n) cs → Leads n n (other_commons_text cs)
others_leads n [] h = plain n [] refl
others_leads n (c ∷ cs) h = join (join (plain n (codes " ") refl) (common_leads false n c h.first)) (others_leads n cs h.others)

pub commons-leads : (n : ℕ) (cs : List CommonTree) → Each (Blocked n) cs → Leads n n (commons_text cs)
commons-leads n [] h = plain n [] refl
commons-leads n (c ∷ cs) h = join (common_leads true n c h.first) (others_leads n cs h.others)

-- ---- DATA

number_or : (b : Bool) (n : ℕ) (s : State) → IsShallow n s.rest → Within (if b then Some (literal s) else None) n (Level expr_text n)
number_or true n s h = number_even n s h
number_or false n s h = tt

integer-even : Even integer (Level expr_text)
unfolding integer
integer-even n s h = number_or (number_first s.rest) n s h

signed-even : (op : UnaryOp) → Even (signed_integer op) (Level expr_text)
unfolding signed_integer
signed-even op n s h =
    then_read integer (Level expr_text) (λ x. Some (unary op x.0, x.1)) s n n (Level expr_text n) integer-even h (λ x v i. (join (unary_leads n op) v, i))

constant-even : Even data_constant (Level expr_text)
unfolding data_constant
constant-even n s h =
    else_word (codes ".TRUE.") s (λ t. Some (log true, t)) _ n n (Level expr_text n) h (λ r i. (plain n (codes ".TRUE.") refl, i))
    (else_word (codes ".FALSE.") s (λ t. Some (log false, t)) _ n n (Level expr_text n) h (λ r i. (plain n (codes ".FALSE.") refl, i))
    (else_word (codes "+") s (signed_integer Plus) _ n n (Level expr_text n) h (λ r i. signed-even Plus n (record s { rest = r }) i)
    (else_word (codes "-") s (signed_integer Minus) _ n n (Level expr_text n) h (λ r i. signed-even Minus n (record s { rest = r }) i) (integer-even n s h))))

counted-even : (k n : ℕ) (s : State) → Leads n n (decimal k) → IsShallow n s.rest → Within (value_or_count k s) n (Level data_value_text n)
unfolding value_or_count repeat_value
counted-even k n s x h =
    done_word (codes "*") (record { repeat = None; value = int (pos k) }) s (repeat_value k) n (Level data_value_text n) h (join (plain n [] refl) x)
    (λ r i. then_read data_constant (Level expr_text) (λ c. Some (record { repeat = Some k; value = c.0 }, c.1)) (record s { rest = r }) n n (Level data_value_text n) constant-even i
    (λ c y j. (join (join x (plain n (codes "*") refl)) y, j)))

value_by : (b : Bool) (n : ℕ) (s : State) → IsShallow n s.rest
    → Within (if b then value_or_count (number s).0 (number s).1 else (data_constant s >>= λ c. Some (record { repeat = None; value = c.0 }, c.1))) n (Level data_value_text n)
value_by true n s h = let k = number_even n s h in counted-even (number s).0 n (number s).1 k.0 k.1
value_by false n s h =
    then_read data_constant (Level expr_text) (λ c. Some (record { repeat = None; value = c.0 }, c.1)) s n n (Level data_value_text n) constant-even h (λ c x i. (join (plain n [] refl) x, i))

value-even : Even data_value (Level data_value_text)
unfolding data_value
value-even n s h = value_by (number_first s.rest) n s h

group-even : Even data_group (Level data_group_text)
unfolding data_group
group-even n s h =
    then_read (ending (codes "/") (items variable)) (λ m. Each (Level expr_text m)) _ s n n (Level data_group_text n)
    (ending_slash (items variable) (λ m. Each (Level expr_text m)) (items-even variable (Level expr_text) variable_even)) h
    (λ ts x i. then_read (ending (codes "/") (items data_value)) (λ m. Each (Level data_value_text m)) _ ts.1 n n (Level data_group_text n)
    (ending_slash (items data_value) (λ m. Each (Level data_value_text m)) (items-even data_value (Level data_value_text) value-even)) i
    (λ vs y j. (join (join (join (joined-leads expr_text n ts.0 x) (plain n (codes " /") refl)) (joined-leads data_value_text n vs.0 y)) (plain n (codes "/") refl), j)))

past_shallow : (o : Option State) (n : ℕ) (s : State) → IsShallow n s.rest → Rest n o → IsShallow n (past s o).rest
past_shallow None n s h x = h
past_shallow (Some t) n s h x = x

pub past_comma-shallow : (n : ℕ) (s : State) → IsShallow n s.rest → IsShallow n (skip_comma s).rest
past_comma-shallow n s h = past_shallow (parse_word (codes ",") s) n s h (comma_passes n s h)

group_rest : (t : List ℕ) (n : ℕ) (s : State) → IsShallow n s.rest → Rest n (next_of t s)
group_rest [] n s h = tt
group_rest (c ∷ cs) n s h = past_comma-shallow n s h

group_passes : Passes next_group
group_passes n s h = group_rest s.rest n s h

pub groups_even : Even (items_by next_group data_group) (λ n. Each (Level data_group_text n))
groups_even = items_by-even next_group data_group (Level data_group_text) group_passes group-even

groups_leads : (n : ℕ) (gs : List DataTree) → Each (Level data_group_text n) gs → Leads n n (other_groups_text gs)
groups_leads n [] h = plain n [] refl
groups_leads n (g ∷ gs) h = join (join (plain n (codes " ") refl) h.first) (groups_leads n gs h.others)

pub data-leads : (n : ℕ) (gs : List DataTree) → Each (Level data_group_text n) gs → Leads n n (data_text gs)
data-leads n [] h = plain n [] refl
data-leads n (g ∷ gs) h = join h.first (groups_leads n gs h.others)
