-- What the grammar gives as a part of a specification statement, without a cause to refuse it, is formed as it says.
use Rattle.std.proofs.Common.{◌≡◌, arith, ℕ, ◌<◌, List, [], ◌∷◌, ◌++◌, length, refl, Option, Some, None, Bool, true, false, if◌then◌else◌, pos}
use Rattle.std.specs.Prelude.{codes, option_map, nat_le}
use Rattle.std.specs.Char.{is_ascii_uppercase}
use Rattle.std.proofs.lemmas.Bool.{leb-true}
use Rattle.f77_ast.specs.declared.expr.UnaryOp.TheVariants.{Plus, Minus}
use Rattle.f77_ast.specs.declared.decl.Scalar.{Scalar}
use Rattle.f77_ast.specs.declared.decl.Scalar.TheVariants.{Int, Log}
use Rattle.f77_ast.specs.declared.decl.Letters.{Letters}
use Rattle.f77_ast.specs.declared.decl.SaveItem.TheVariants.{Name, Block}
use Rattle.f77_ast.specs.Trees.{ExprTree, int, log, unary}
use Rattle.f77_ast.specs.DeclTrees.{EntityTree}
use Rattle.f77_exprs.specs.declared.at.Notes.{Notes}
use Rattle.f77_exprs.specs.Words.{after}
use Rattle.f77_exprs.specs.State.{State, parse_word, or_done, ◌>>=◌}
use Rattle.f77_exprs.specs.Lexical.{name_at, number, number_first}
use Rattle.f77_exprs.specs.Grammar.{comma, items, items_by, more_by, expression, variable, literal}
use Rattle.f77_statements.specs.Lists.{ending, past}
use Rattle.f77_statements.specs.Parts.{letter, letter_of, letters, ranges, implicit_part, upper, extent, bounds, entity, array, setting, group, block_name, save_item, unless, member_comma, members, block, first_block, or_this, next_block, integer, signed_integer, data_constant, repeat_value, value_or_count, data_value, data_group, next_of, next_group}
use Rattle.f77_statements.specs.Parts as parts
use Rattle.roundtrip_programs.specs.Statements.Formed.{IsName, Filled, IsExpression, IsVariable}
use Rattle.roundtrip_programs.specs.Statements.Declared.{IsExtent, IsEntity, IsArray, IsRange, IsPart, IsSetting, IsBlock, IsCommon, IsGroup, IsSaved, IsConstant, truth, whole, raised, lowered, IsValue, IsInitial}
use Rattle.roundtrip_programs.proofs.Statements.Readings.{After, Sound, seq, then_word, else_word, done_word, weaken}
use Rattle.roundtrip_programs.proofs.Statements.Names.{name-formed}
use Rattle.roundtrip_programs.proofs.Statements.Numbers.{number-formed}
use Rattle.roundtrip_programs.proofs.Statements.Lists.{Kept, Keeps, more_by-sound, items_by-sound, comma_keeps, each-push}
use Rattle.roundtrip_programs.proofs.Statements.Formation.{expression-formed, variable-formed}
use Rattle.roundtrip_programs.proofs.Statements.WhatFormed.{ending-sound}
use Rattle.roundtrip_programs.proofs.Statements.DeclBack.{each_of, array_entity}

-- ---- IMPLICIT

abbrev IsUpper : ℕ → Type 0
IsUpper c = is_ascii_uppercase c ≡ true

letter_at : (b : Bool) (c : ℕ) (cs : List ℕ) (k : Notes) → is_ascii_uppercase c ≡ b → After (if b then Some (c, record { rest = cs; notes = k }) else None) k IsUpper
letter_at true c cs k e = λ d. (d, e)
letter_at false c cs k e = tt

letter_in : (t : List ℕ) (s : State) → After (letter_of s t) s.notes IsUpper
letter_in [] s = tt
letter_in (c ∷ cs) s = letter_at (is_ascii_uppercase c) c cs s.notes refl

letter-sound : Sound letter IsUpper
unfolding letter
letter-sound s = letter_in s.rest s

ordered_at : (b : Bool) (f l : ℕ) (t : State) → nat_le f l ≡ b → After (if b then Some (record { first = f; last = l }, t) else None) t.notes (λ (r : Letters). IsUpper l → (IsUpper f → IsRange r))
ordered_at true f l t e = λ c. (c, λ h g. record { first = g; last = h; ordered = leb-true f l e })
ordered_at false f l t e = tt

letters-sound : Sound letters IsRange
unfolding letters
letters-sound s =
    seq (letter s) (λ a. or_done (record { first = a.0; last = a.0 }) a.1 (parse_word (codes "-") a.1) (λ t. letter t >>= parts.range a.0)) s.notes IsUpper IsRange (letter-sound s)
    (λ a. done_word (codes "-") (record { first = a.0; last = a.0 }) a.1 (λ t. letter t >>= parts.range a.0) (λ r. IsUpper a.0 → IsRange r)
    (λ h. record { first = h; last = h; ordered = omega arith })
    (λ r. let t : State = record a.1 { rest = r } in
    seq (letter t) (parts.range a.0) a.1.notes IsUpper (λ r. IsUpper a.0 → IsRange r) (letter-sound t) (λ l. ordered_at (nat_le a.0 l.0) a.0 l.0 l.1 refl)))

ranges-sound : (sc : Scalar) → Sound (ranges sc) IsPart
unfolding ranges
ranges-sound sc s =
    then_word (codes "(") s (λ t. ending (codes ")") (items letters) t >>= λ ls. Some (record { scalar = sc; ranges = ls.0 }, ls.1)) IsPart
    (λ r. let t : State = record s { rest = r } in
    seq (ending (codes ")") (items letters) t) (λ ls. Some (record { scalar = sc; ranges = ls.0 }, ls.1)) s.notes (Filled IsRange) IsPart
    (ending-sound (codes ")") (items letters) (Filled IsRange) (items_by-sound comma letters IsRange comma_keeps letters-sound) t) (λ ls c. (c, λ h. h)))

pub part-sound : Sound implicit_part IsPart
unfolding implicit_part
part-sound s =
    else_word (codes "INTEGER") s (ranges Int) _ IsPart (λ r. ranges-sound Int (record s { rest = r }))
    (else_word (codes "LOGICAL") s (ranges Log) None IsPart (λ r. ranges-sound Log (record s { rest = r })) tt)

-- ---- names with bounds

upper-sound : (low : ExprTree) → Sound (upper low) (λ x. IsExpression low → IsExtent x)
unfolding upper
upper-sound low s =
    else_word (codes "*") s (λ t. Some (record { low = Some low; high = None }, t)) _ (λ x. IsExpression low → IsExtent x) (λ r c. (c, λ h. record { low = h; high = tt }))
    (seq (expression s) (λ e. Some (record { low = Some low; high = Some e.0 }, e.1)) s.notes IsExpression (λ x. IsExpression low → IsExtent x) (expression-formed s)
    (λ e c. (c, λ h g. record { low = g; high = h })))

extent-sound : Sound extent IsExtent
unfolding extent
extent-sound s =
    else_word (codes "*") s (λ t. Some (record { low = None; high = None }, t)) _ IsExtent (λ r c. (c, record { low = tt; high = tt }))
    (seq (expression s) (λ e. or_done (record { low = None; high = Some e.0 }) e.1 (parse_word (codes ":") e.1) (upper e.0)) s.notes IsExpression IsExtent (expression-formed s)
    (λ e. done_word (codes ":") (record { low = None; high = Some e.0 }) e.1 (upper e.0) (λ x. IsExpression e.0 → IsExtent x) (λ h. record { low = tt; high = h })
    (λ r. upper-sound e.0 (record e.1 { rest = r }))))

bounds-sound : (n : List ℕ) → Sound (bounds n) (λ e. IsName n → IsArray e)
unfolding bounds
bounds-sound n s =
    seq (ending (codes ")") (items extent) s) (λ b. Some (record { name = n; bounds = b.0 }, b.1)) s.notes (Filled IsExtent) (λ e. IsName n → IsArray e)
    (ending-sound (codes ")") (items extent) (Filled IsExtent) (items_by-sound comma extent IsExtent comma_keeps extent-sound) s)
    (λ b c. (c, λ h g. record { name = g; bounds = h }))

-- an entity, and one thing more that holds of its name
pub record Besides (Q : List ℕ → Type 0) (e : EntityTree) : Type 0 where
  pub entity : IsEntity e
  pub more : Q e.name

record Named (Q : List ℕ → Type 0) (n : List ℕ) : Type 0 where
  pub name : IsName n
  pub more : Q n

named_after : (Q : List ℕ → Type 0) (o : Option (List ℕ × State)) (k : Notes) → After o k IsName → After o k Q → After o k (Named Q)
named_after Q None k p q = tt
named_after Q (Some r) k p q = λ c. ((p c).0, record { name = (p c).1; more = (q c).1 })

bounds-besides : (Q : List ℕ → Type 0) (n : List ℕ) → Sound (bounds n) (λ e. Named Q n → Besides Q e)
unfolding bounds
bounds-besides Q n s =
    seq (ending (codes ")") (items extent) s) (λ b. Some (record { name = n; bounds = b.0 }, b.1)) s.notes (Filled IsExtent) (λ e. Named Q n → Besides Q e)
    (ending-sound (codes ")") (items extent) (Filled IsExtent) (items_by-sound comma extent IsExtent comma_keeps extent-sound) s)
    (λ b c. (c, λ h g. record { entity = record { name = g.name; bounds = each_of IsExtent b.0 h }; more = g.more }))

pub entity-besides : (Q : List ℕ → Type 0) (s : State) → After (name_at s) s.notes Q → After (entity s) s.notes (Besides Q)
unfolding entity
entity-besides Q s q =
    seq (name_at s) (λ n. or_done (record { name = n.0; bounds = [] }) n.1 (parse_word (codes "(") n.1) (bounds n.0)) s.notes (Named Q) (Besides Q)
    (named_after Q (name_at s) s.notes (name-formed s) q)
    (λ n. done_word (codes "(") (record { name = n.0; bounds = [] }) n.1 (bounds n.0) (λ e. Named Q n.0 → Besides Q e)
    (λ h. record { entity = record { name = h.name; bounds = tt }; more = h.more }) (λ r. bounds-besides Q n.0 (record n.1 { rest = r })))

pub entity-sound : Sound entity IsEntity
unfolding entity
entity-sound s =
    seq (name_at s) (λ n. or_done (record { name = n.0; bounds = [] }) n.1 (parse_word (codes "(") n.1) (bounds n.0)) s.notes IsName IsEntity (name-formed s)
    (λ n. done_word (codes "(") (record { name = n.0; bounds = [] }) n.1 (bounds n.0) (λ e. IsName n.0 → IsEntity e) (λ h. record { name = h; bounds = tt })
    (λ r. let t : State = record n.1 { rest = r } in
    weaken (bounds n.0 t) n.1.notes (λ e. IsName n.0 → IsArray e) (λ e. IsName n.0 → IsEntity e) (bounds-sound n.0 t) (λ e f h. array_entity e (f h))))

pub array-sound : Sound array IsArray
unfolding array
array-sound s =
    seq (name_at s) (λ n. parse_word (codes "(") n.1 >>= λ t. bounds n.0 t) s.notes IsName IsArray (name-formed s)
    (λ n. then_word (codes "(") n.1 (λ t. bounds n.0 t) (λ e. IsName n.0 → IsArray e) (λ r. bounds-sound n.0 (record n.1 { rest = r })))

-- ---- PARAMETER, EQUIVALENCE, SAVE

pub setting-sound : Sound setting IsSetting
unfolding setting
setting-sound s =
    seq (name_at s) (λ n. parse_word (codes "=") n.1 >>= λ t. expression t >>= λ e. Some (record { name = n.0; value = e.0 }, e.1)) s.notes IsName IsSetting (name-formed s)
    (λ n. then_word (codes "=") n.1 (λ t. expression t >>= λ e. Some (record { name = n.0; value = e.0 }, e.1)) (λ x. IsName n.0 → IsSetting x)
    (λ r. let t : State = record n.1 { rest = r } in
    seq (expression t) (λ e. Some (record { name = n.0; value = e.0 }, e.1)) n.1.notes IsExpression (λ x. IsName n.0 → IsSetting x) (expression-formed t)
    (λ e c. (c, λ h g. record { name = g; value = h }))))

group-push : (xs : List ExprTree) (x : ExprTree) → IsGroup xs → IsVariable x → IsGroup (xs ++ x ∷ [])
group-push [] x h p = absurd h
group-push (v ∷ []) x h p = absurd h.others
group-push (v ∷ w ∷ vs) x h p = record { first = h.first; others = record { first = h.others.first; others = each-push IsVariable vs x h.others.others p } }

pub group-sound : Sound group IsGroup
unfolding group
group-sound s =
    then_word (codes "(") s (λ t. variable t >>= λ v. parse_word (codes ",") v.1 >>= λ u. variable u >>= λ w. more_by comma variable (length w.1.rest) (v.0 ∷ w.0 ∷ []) w.1 >>= λ vs. parse_word (codes ")") vs.1 >>= λ x. Some (vs.0, x)) IsGroup
    (λ r. let t : State = record s { rest = r } in
    seq (variable t) (λ v. parse_word (codes ",") v.1 >>= λ u. variable u >>= λ w. more_by comma variable (length w.1.rest) (v.0 ∷ w.0 ∷ []) w.1 >>= λ vs. parse_word (codes ")") vs.1 >>= λ x. Some (vs.0, x)) s.notes IsVariable IsGroup (variable-formed t)
    (λ v. then_word (codes ",") v.1 (λ u. variable u >>= λ w. more_by comma variable (length w.1.rest) (v.0 ∷ w.0 ∷ []) w.1 >>= λ vs. parse_word (codes ")") vs.1 >>= λ x. Some (vs.0, x)) (λ x. IsVariable v.0 → IsGroup x)
    (λ q. let u : State = record v.1 { rest = q } in
    seq (variable u) (λ w. more_by comma variable (length w.1.rest) (v.0 ∷ w.0 ∷ []) w.1 >>= λ vs. parse_word (codes ")") vs.1 >>= λ x. Some (vs.0, x)) v.1.notes IsVariable (λ x. IsVariable v.0 → IsGroup x) (variable-formed u)
    (λ w. seq (more_by comma variable (length w.1.rest) (v.0 ∷ w.0 ∷ []) w.1) (λ vs. parse_word (codes ")") vs.1 >>= λ x. Some (vs.0, x)) w.1.notes (λ vs. IsGroup (v.0 ∷ w.0 ∷ []) → IsGroup vs) (λ x. IsVariable w.0 → (IsVariable v.0 → IsGroup x))
    (more_by-sound comma variable IsVariable IsGroup comma_keeps variable-formed group-push (length w.1.rest) (v.0 ∷ w.0 ∷ []) w.1)
    (λ vs. then_word (codes ")") vs.1 (λ x. Some (vs.0, x)) (λ x. (IsGroup (v.0 ∷ w.0 ∷ []) → IsGroup vs.0) → (IsVariable w.0 → (IsVariable v.0 → IsGroup x)))
    (λ z c. (c, λ f h g. f (record { first = g; others = record { first = h; others = tt } }))))))))

block-name-sound : Sound block_name IsName
unfolding block_name
block-name-sound = ending-sound (codes "/") name_at IsName name-formed

pub save-sound : Sound save_item IsSaved
unfolding save_item
save-sound s =
    else_word (codes "/") s (λ t. block_name t >>= λ b. Some (Block b.0, b.1)) _ IsSaved
    (λ r. let t : State = record s { rest = r } in seq (block_name t) (λ b. Some (Block b.0, b.1)) s.notes IsName IsSaved (block-name-sound t) (λ b c. (c, λ h. h)))
    (seq (name_at s) (λ n. Some (Name n.0, n.1)) s.notes IsName IsSaved (name-formed s) (λ n c. (c, λ h. h)))

-- ---- COMMON

unless_kept : (o p : Option (List ℕ)) (s : State) → Kept (unless (option_map (λ r. record s { rest = r }) o) (option_map (λ r. record s { rest = r }) p)) s.notes
unless_kept None None s = tt
unless_kept None (Some r) s = refl
unless_kept (Some q) p s = tt

member_keeps : Keeps member_comma
member_keeps s = unless_kept (after (codes ",/") s.rest) (after (codes ",") s.rest) s

members-sound : (b : List ℕ) → Sound (members b) (λ c. IsBlock b → IsCommon c)
unfolding members
members-sound b s =
    seq (items_by member_comma entity s) (λ ms. Some (record { block = b; members = ms.0 }, ms.1)) s.notes (Filled IsEntity) (λ c. IsBlock b → IsCommon c)
    (items_by-sound member_comma entity IsEntity member_keeps entity-sound s) (λ ms c. (c, λ h g. record { block = g; members = h }))

name_block : (b : List ℕ) → IsName b → IsBlock b
name_block [] h = tt
name_block (c ∷ cs) h = h

pub block-sound : Sound block IsCommon
unfolding block
block-sound s =
    else_word (codes "/") s (members []) _ IsCommon
    (λ r. let t : State = record s { rest = r } in weaken (members [] t) s.notes (λ c. Unit {0} → IsCommon c) IsCommon (members-sound [] t) (λ c f. f tt))
    (seq (block_name s) (λ b. members b.0 b.1) s.notes IsName IsCommon (block-name-sound s)
    (λ b. weaken (members b.0 b.1) b.1.notes (λ c. IsBlock b.0 → IsCommon c) (λ c. IsName b.0 → IsCommon c) (members-sound b.0 b.1) (λ c f h. f (name_block b.0 h))))

pub first-sound : Sound first_block IsCommon
unfolding first_block
first-sound s =
    else_word (codes "/") s block (members [] s) IsCommon (λ r. block-sound (record s { rest = r }))
    (weaken (members [] s) s.notes (λ c. Unit {0} → IsCommon c) IsCommon (members-sound [] s) (λ c f. f tt))

this_kept : (o p : Option (List ℕ)) (s : State) → Kept (or_this (option_map (λ r. record s { rest = r }) o) (option_map (λ r. record s { rest = r }) p)) s.notes
this_kept None None s = tt
this_kept None (Some r) s = refl
this_kept (Some q) p s = refl

pub next_keeps : Keeps next_block
next_keeps s = this_kept (after (codes ",/") s.rest) (after (codes "/") s.rest) s

-- ---- DATA

pub past_kept : (o : Option (List ℕ)) (s : State) → (past s (option_map (λ r. record s { rest = r }) o)).notes ≡ s.notes
past_kept None s = refl
past_kept (Some r) s = refl

group_kept : (t : List ℕ) (s : State) → Kept (next_of t s) s.notes
group_kept [] s = tt
group_kept (c ∷ cs) s = past_kept (after (codes ",") s.rest) s

pub group_keeps : Keeps next_group
group_keeps s = group_kept s.rest s

-- what an unsigned integer makes of it
number_at : (b : Bool) (s : State) → After (if b then Some (literal s) else None) s.notes (λ e. (n : ℕ) × (n < 2147483648) × (e ≡ int (pos n)))
number_at true s = λ c. let p = number-formed s c in (p.0, ((number s).0, p.1, refl))
number_at false s = tt

integer-sound : Sound integer (λ e. (n : ℕ) × (n < 2147483648) × (e ≡ int (pos n)))
unfolding integer
integer-sound s = number_at (number_first s.rest) s

sign_constant : (e : ExprTree) → ((n : ℕ) × (n < 2147483648) × (e ≡ int (pos n))) → IsConstant (unary Plus e)
sign_constant e h = let q : e ≡ int (pos h.0) = h.2 in rw q (raised h.0 h.1)

minus_constant : (e : ExprTree) → ((n : ℕ) × (n < 2147483648) × (e ≡ int (pos n))) → IsConstant (unary Minus e)
minus_constant e h = let q : e ≡ int (pos h.0) = h.2 in rw q (lowered h.0 h.1)

plain_constant : (e : ExprTree) → ((n : ℕ) × (n < 2147483648) × (e ≡ int (pos n))) → IsConstant e
plain_constant e h = let q : e ≡ int (pos h.0) = h.2 in rw q (whole h.0 h.1)

constant-sound : Sound data_constant IsConstant
unfolding data_constant signed_integer
constant-sound s =
    else_word (codes ".TRUE.") s (λ t. Some (log true, t)) _ IsConstant (λ r c. (c, truth true))
    (else_word (codes ".FALSE.") s (λ t. Some (log false, t)) _ IsConstant (λ r c. (c, truth false))
    (else_word (codes "+") s (signed_integer Plus) _ IsConstant
    (λ r. let t : State = record s { rest = r } in
    seq (integer t) (λ n. Some (unary Plus n.0, n.1)) s.notes (λ e. (n : ℕ) × (n < 2147483648) × (e ≡ int (pos n))) IsConstant (integer-sound t) (λ n c. (c, λ h. sign_constant n.0 h)))
    (else_word (codes "-") s (signed_integer Minus) _ IsConstant
    (λ r. let t : State = record s { rest = r } in
    seq (integer t) (λ n. Some (unary Minus n.0, n.1)) s.notes (λ e. (n : ℕ) × (n < 2147483648) × (e ≡ int (pos n))) IsConstant (integer-sound t) (λ n c. (c, λ h. minus_constant n.0 h)))
    (weaken (integer s) s.notes (λ e. (n : ℕ) × (n < 2147483648) × (e ≡ int (pos n))) IsConstant (integer-sound s) plain_constant))))

counted-sound : (n : ℕ) → Sound (value_or_count n) (λ v. n < 2147483648 → IsValue v)
unfolding value_or_count repeat_value
counted-sound n s =
    done_word (codes "*") (record { repeat = None; value = int (pos n) }) s (repeat_value n) (λ v. n < 2147483648 → IsValue v) (λ h. record { repeat = tt; value = whole n h })
    (λ r. let t : State = record s { rest = r } in
    seq (data_constant t) (λ c. Some (record { repeat = Some n; value = c.0 }, c.1)) s.notes IsConstant (λ v. n < 2147483648 → IsValue v) (constant-sound t)
    (λ c d. (d, λ h g. record { repeat = g; value = h })))

value_in : (b : Bool) (s : State) → After (if b then value_or_count (number s).0 (number s).1 else (data_constant s >>= λ c. Some (record { repeat = None; value = c.0 }, c.1))) s.notes IsValue
value_in true s = seq (Some (number s)) (λ n. value_or_count n.0 n.1) s.notes (λ n. n < 2147483648) IsValue (number-formed s) (λ n. counted-sound n.0 n.1)
value_in false s = seq (data_constant s) (λ c. Some (record { repeat = None; value = c.0 }, c.1)) s.notes IsConstant IsValue (constant-sound s) (λ c d. (d, λ h. record { repeat = tt; value = h }))

value-sound : Sound data_value IsValue
unfolding data_value
value-sound s = value_in (number_first s.rest) s

pub data-group-sound : Sound data_group IsInitial
unfolding data_group
data-group-sound s =
    seq (ending (codes "/") (items variable) s) (λ ts. ending (codes "/") (items data_value) ts.1 >>= λ vs. Some (record { targets = ts.0; values = vs.0 }, vs.1)) s.notes (Filled IsVariable) IsInitial
    (ending-sound (codes "/") (items variable) (Filled IsVariable) (items_by-sound comma variable IsVariable comma_keeps variable-formed) s)
    (λ ts. seq (ending (codes "/") (items data_value) ts.1) (λ vs. Some (record { targets = ts.0; values = vs.0 }, vs.1)) ts.1.notes (Filled IsValue) (λ g. Filled IsVariable ts.0 → IsInitial g)
    (ending-sound (codes "/") (items data_value) (Filled IsValue) (items_by-sound comma data_value IsValue comma_keeps value-sound) ts.1)
    (λ vs c. (c, λ h g. record { targets = g; values = h })))
