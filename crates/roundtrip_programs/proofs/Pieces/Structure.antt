-- Faults of the structure of a module are the same at other lines.
use Rattle.std.proofs.Common.{◌≡◌, ℕ, ◌+◌, ◌-◌, List, [], ◌∷◌, ◌++◌, length, map, take, refl, ap, sym, ◌∙◌, arith, Bool, true, false, if◌then◌else◌}
use Rattle.std.specs.Prelude.{Option, Some, None, option_map, not, ◌&&◌, ◌||◌, nat_eq, nat_lt, nat_le}
use Rattle.std.proofs.lemmas.Bool.{ltb-true, ltb-false, eqb-true, eqb-false}
use Rattle.std.proofs.lemmas.List.{map-append, length-map}
use Rattle.fx_lists.specs.declared.code.Code.{Code}
use Rattle.fx_lists.specs.declared.code.Code.TheVariants.{UnclosedDo, UnclosedIf, StrayPart, BadTerminal, LabelMissing, LabelTwice, JumpIntoBlock, TooDeep, TooManyStatements}
use Rattle.fx_lists.specs.declared.refusal.Refusal.{Refusal}
use Rattle.fx_lists.specs.Refusals.{number_of, is_before, earliest, refuse_if}
use Rattle.f77_structure.specs.declared.mark.Action.{Action}
use Rattle.f77_structure.specs.declared.mark.Action.TheVariants.{Goto, Return, Stop, Other}
use Rattle.f77_structure.specs.declared.mark.Role.{Role}
use Rattle.f77_structure.specs.declared.mark.Role.TheVariants.{Program, Subroutine, Specification, Plain, LogicalIf, BlockIf, ElseIf, Else, EndIf, Do, EndDo, End}
use Rattle.f77_structure.specs.declared.mark.Mark.{Mark}
use Rattle.f77_structure.specs.declared.order.Order.{Order}
use Rattle.f77_structure.specs.declared.open.Kind.{Kind}
use Rattle.f77_structure.specs.declared.open.Kind.TheVariants as kinds
use Rattle.f77_structure.specs.declared.open.Sought.{Sought}
use Rattle.f77_structure.specs.declared.open.Sought.TheVariants as sought
use Rattle.f77_structure.specs.declared.blocks.Landing.{Landing}
use Rattle.f77_structure.specs.Kinds.{ends_at, is_if, is_else, fits}
use Rattle.f77_structure.specs.Marks.{label_by, label_in, statements_in}
use Rattle.f77_structure.specs.LastStatements.{is_forbidden, is_part}
use Rattle.f77_structure.specs.Order.{has_label, keep_label, passes_most, is_out_of_order, is_main_after, counted, check_next, all_ordered, nothing_ordered, order_of}
use Rattle.f77_structure.specs.Nesting.{Block, Going, Nesting, nothing, lists_of, list_of, is_within, innermost, inside, outside, first_divisible, is_divisible, around_part, around, awaits, first_awaits, is_bad_end, over_at, over_around, over_by, past, past_label, without, next_list, divide, begins, at_label, blocks_after, label_in_list, going, goings, after_role, after}
use Rattle.f77_structure.specs.Checks.{fault_if, unclosed_all, unclosed_in, too_deep, part_faults, end_faults, faults_by, faults_at, stands, is_reached, jump_faults, all_jump_faults, nest_faults, first_among, fault_of}
use Rattle.roundtrip_programs.proofs.Pieces.Texts.{map-take}

abbrev pub moved_mark : ℕ → Mark → Mark
moved_mark by m = record m { line = m.line + by }

abbrev pub moved_refusal : ℕ → Refusal → Refusal
moved_refusal by r = record r { line = r.line + by }

abbrev moved_block : ℕ → Block → Block
moved_block by o = record o { line = o.line + by }

abbrev moved_blocks : ℕ → List Block → List Block
moved_blocks by os = map (moved_block by) os

abbrev moved_going : ℕ → Going → Going
moved_going by j = record j { line = j.line + by }

abbrev moved_nesting : ℕ → Nesting → Nesting
moved_nesting by n = record { blocks = moved_blocks by n.blocks; lists = n.lists; labels = n.labels; jumps = map (moved_going by) n.jumps }

pub choice-through : {A B : Type 0} (f : A → B) (b : Bool) (x y : A) → (if b then f x else f y) ≡ f (if b then x else y)
choice-through f true x y = refl
choice-through f false x y = refl

-- ---- which of two refusals comes first

less-by : (t u : Bool) (a b by : ℕ) → nat_lt a b ≡ t → nat_lt (a + by) (b + by) ≡ u → u ≡ t
less-by true true a b by p q = refl
less-by false false a b by p q = refl
less-by true false a b by p q = absurd (omega (arith, ltb-true a b p, ltb-false (a + by) (b + by) q))
less-by false true a b by p q = absurd (omega (arith, ltb-false a b p, ltb-true (a + by) (b + by) q))

same-by : (t u : Bool) (a b by : ℕ) → nat_eq a b ≡ t → nat_eq (a + by) (b + by) ≡ u → u ≡ t
same-by true true a b by p q = refl
same-by false false a b by p q = refl
same-by true false a b by p q = let e = eqb-true a b p in absurd (eqb-false (a + by) (b + by) q (ap (λ k. k + by) e))
same-by false true a b by p q = let e : a + by ≡ b + by = eqb-true (a + by) (b + by) q in absurd (eqb-false a b p (omega (arith, e)))

before-moved : (by : ℕ) (a b : Refusal) → is_before (moved_refusal by a) (moved_refusal by b) ≡ is_before a b
unfolding is_before
before-moved by a b =
    let less : nat_lt (a.line + by) (b.line + by) ≡ nat_lt a.line b.line = less-by _ _ a.line b.line by refl refl in
    let same : nat_eq (a.line + by) (b.line + by) ≡ nat_eq a.line b.line = same-by _ _ a.line b.line by refl refl in
    ap (λ x. x || (nat_eq (a.line + by) (b.line + by) && nat_lt (number_of a.code) (number_of b.code))) less
    ∙ ap (λ x. nat_lt a.line b.line || (x && nat_lt (number_of a.code) (number_of b.code))) same

abbrev moved_found : ℕ → Option Refusal → Option Refusal
moved_found by found = option_map (moved_refusal by) found

earliest-moved : (by : ℕ) (r : Refusal) (found : Option Refusal) → earliest (moved_refusal by r) (moved_found by found) ≡ moved_refusal by (earliest r found)
earliest-moved by r None = refl
earliest-moved by r (Some old) =
    ap (λ b. if b then moved_refusal by r else moved_refusal by old) (before-moved by r old) ∙ choice-through (moved_refusal by) (is_before r old) r old

refuse-by : (by : ℕ) (wrong : Bool) (r : Refusal) (found : Option Refusal)
    → (if wrong then Some (earliest (moved_refusal by r) (moved_found by found)) else moved_found by found) ≡ moved_found by (if wrong then Some (earliest r found) else found)
refuse-by by true r found = ap Some (earliest-moved by r found)
refuse-by by false r found = refl

pub refuse-moved : (by : ℕ) (wrong : Bool) (line : ℕ) (code : Code) (found : Option Refusal) → refuse_if wrong (line + by) code (moved_found by found) ≡ moved_found by (refuse_if wrong line code found)
unfolding refuse_if
refuse-moved by wrong line code found = refuse-by by wrong (record { line = line; code = code }) found

-- ---- order

abbrev moved_order : ℕ → Order → Order
moved_order by o = record o { found = moved_found by o.found }

keep-moved : (by line : ℕ) (label : Option ℕ) (o : Order) → keep_label (line + by) label (moved_order by o) ≡ moved_order by (keep_label line label o)
keep-moved by line None o = refl
keep-moved by line (Some l) o = ap (λ f. record o { labels = o.labels ++ l ∷ []; found = f }) (refuse-moved by (has_label l o.labels) line LabelTwice o.found)

counted-moved : (by : ℕ) (m : Mark) (o : Order) → counted (moved_mark by m) (moved_order by o) ≡ moved_order by (counted m o)
counted-moved by m o =
    let made : Option Refusal → Order = λ f. record { begun = true; main = is_main_after o.begun o.main m.role; count = o.count + statements_in m; labels = o.labels; found = f } in
    let most : Bool = passes_most o.count (o.count + statements_in m) in
    let stray : Bool = is_out_of_order o.begun o.main o.count m.role in
    ap (λ f. made (refuse_if most (m.line + by) TooManyStatements (refuse_if stray (m.line + by) StrayPart f))) (refuse-moved by m.deep m.line TooDeep o.found)
    ∙ ap (λ f. made (refuse_if most (m.line + by) TooManyStatements f)) (refuse-moved by stray m.line StrayPart (refuse_if m.deep m.line TooDeep o.found))
    ∙ ap made (refuse-moved by most m.line TooManyStatements (refuse_if stray m.line StrayPart (refuse_if m.deep m.line TooDeep o.found)))

next-moved : (by : ℕ) (m : Mark) (o : Order) → check_next (moved_mark by m) (moved_order by o) ≡ moved_order by (check_next m o)
unfolding check_next
next-moved by m o = ap (counted (moved_mark by m)) (keep-moved by m.line (label_in m) o) ∙ counted-moved by m (keep_label m.line (label_in m) o)

ordered-moved : (by : ℕ) (ms : List Mark) (o : Order) → all_ordered (map (moved_mark by) ms) (moved_order by o) ≡ moved_order by (all_ordered ms o)
ordered-moved by [] o = refl
ordered-moved by (m ∷ ms) o = ap (all_ordered (map (moved_mark by) ms)) (next-moved by m o) ∙ ordered-moved by ms (check_next m o)

order-moved : (by : ℕ) (ms : List Mark) → order_of (map (moved_mark by) ms) ≡ moved_found by (order_of ms)
order-moved by ms = ap (λ o. o.found) (ordered-moved by ms nothing_ordered)

-- ---- open blocks

within-moved : (by : ℕ) (what : Sought) (os : List Block) → is_within what (moved_blocks by os) ≡ is_within what os
within-moved by what [] = refl
within-moved by what (o ∷ os) = ap (λ b. fits what o.kind || b) (within-moved by what os)

innermost-moved : (by : ℕ) (what : Sought) (os : List Block) → innermost what (moved_blocks by os) ≡ moved_blocks by (innermost what os)
innermost-moved by what [] = refl
innermost-moved by what (o ∷ os) =
    ap (λ x. if fits what o.kind then moved_blocks by (o ∷ os) else x) (innermost-moved by what os)
    ∙ choice-through (moved_blocks by) (fits what o.kind) (o ∷ os) (innermost what os)

inside-moved : (by : ℕ) (what : Sought) (os : List Block) → inside what (moved_blocks by os) ≡ moved_blocks by (inside what os)
inside-moved by what [] = refl
inside-moved by what (o ∷ os) =
    ap (λ x. if fits what o.kind then [] else moved_block by o ∷ x) (inside-moved by what os)
    ∙ choice-through (moved_blocks by) (fits what o.kind) [] (o ∷ inside what os)

outside-moved : (by : ℕ) (os : List Block) → outside (moved_blocks by os) ≡ moved_blocks by (outside os)
outside-moved by [] = refl
outside-moved by (o ∷ os) = refl

first-divisible-moved : (by : ℕ) (os : List Block) → first_divisible (moved_blocks by os) ≡ first_divisible os
first-divisible-moved by [] = refl
first-divisible-moved by (o ∷ os) = refl

divisible-moved : (by : ℕ) (os : List Block) → is_divisible (moved_blocks by os) ≡ is_divisible os
divisible-moved by os = ap first_divisible (innermost-moved by sought.BlockIf os) ∙ first-divisible-moved by (innermost sought.BlockIf os)

around-part-moved : (by : ℕ) (os : List Block) → around_part (moved_blocks by os) ≡ moved_blocks by (around_part os)
around-part-moved by [] = refl
around-part-moved by (o ∷ os) =
    ap (λ b. if is_if o.kind then moved_blocks by os else if b then [] else moved_blocks by (o ∷ os)) (within-moved by sought.BlockIf os)
    ∙ ap (λ x. if is_if o.kind then moved_blocks by os else x) (choice-through (moved_blocks by) (is_within sought.BlockIf os) [] (o ∷ os))
    ∙ choice-through (moved_blocks by) (is_if o.kind) os (if is_within sought.BlockIf os then [] else o ∷ os)

around-moved : (by : ℕ) (role : Role) (os : List Block) → around role (moved_blocks by os) ≡ moved_blocks by (around role os)
around-moved by role os =
    ap (λ x. if is_part role then x else moved_blocks by os) (around-part-moved by os) ∙ choice-through (moved_blocks by) (is_part role) (around_part os) os

first-awaits-moved : (by l : ℕ) (os : List Block) → first_awaits l (moved_blocks by os) ≡ first_awaits l os
first-awaits-moved by l [] = refl
first-awaits-moved by l (o ∷ os) = refl

bad-end-moved : (by : ℕ) (role : Role) (label : Option ℕ) (os : List Block) → is_bad_end role label (moved_blocks by os) ≡ is_bad_end role label os
bad-end-moved by role None os = refl
bad-end-moved by role (Some l) os =
    ap (λ b. (is_forbidden role || is_part role) && b) (ap (first_awaits l) (around-moved by role os) ∙ first-awaits-moved by l (around role os))

over-at-moved : (by l : ℕ) (os : List Block) → over_at l (moved_blocks by os) ≡ moved_blocks by (over_at l os)
over-at-moved by l [] = refl
over-at-moved by l (o ∷ os) =
    ap (λ x. if awaits l o then record (moved_block by o) { over = true } ∷ x else moved_blocks by (o ∷ os)) (over-at-moved by l os)
    ∙ choice-through (moved_blocks by) (awaits l o) (record o { over = true } ∷ over_at l os) (o ∷ os)

over-around-moved : (by l : ℕ) (outer os : List Block) → over_around l (moved_blocks by outer) (moved_blocks by os) ≡ moved_blocks by (over_around l outer os)
over-around-moved by l outer os =
    let f : Block → Block = moved_block by in
    ap (λ k. take (k - length (map f outer)) (map f os) ++ over_at l (map f outer)) (length-map os f)
    ∙ ap (λ k. take (length os - k) (map f os) ++ over_at l (map f outer)) (length-map outer f)
    ∙ ap (λ xs. xs ++ over_at l (map f outer)) (sym (map-take f (length os - length outer) os))
    ∙ ap (λ xs. map f (take (length os - length outer) os) ++ xs) (over-at-moved by l outer)
    ∙ sym (map-append f (take (length os - length outer) os) (over_at l outer))

over-by-moved : (by : ℕ) (role : Role) (label : Option ℕ) (os : List Block) → over_by role label (moved_blocks by os) ≡ moved_blocks by (over_by role label os)
over-by-moved by role None os = refl
over-by-moved by role (Some l) os =
    ap (λ xs. if is_forbidden role || is_part role then over_around l xs (moved_blocks by os) else moved_blocks by os) (around-moved by role os)
    ∙ ap (λ xs. if is_forbidden role || is_part role then xs else moved_blocks by os) (over-around-moved by l (around role os) os)
    ∙ choice-through (moved_blocks by) (is_forbidden role || is_part role) (over_around l (around role os) os) os

past-moved : (by l : ℕ) (os : List Block) → past l (moved_blocks by os) ≡ moved_blocks by (past l os)
past-moved by l [] = refl
past-moved by l (o ∷ os) =
    ap (λ x. if ends_at l o.kind then x else moved_blocks by (o ∷ os)) (past-moved by l os) ∙ choice-through (moved_blocks by) (ends_at l o.kind) (past l os) (o ∷ os)

past-label-moved : (by : ℕ) (label : Option ℕ) (os : List Block) → past_label label (moved_blocks by os) ≡ moved_blocks by (past_label label os)
past-label-moved by None os = refl
past-label-moved by (Some l) os = past-moved by l os

without-moved : (by : ℕ) (what : Sought) (os : List Block) → without what (moved_blocks by os) ≡ moved_blocks by (without what os)
without-moved by what os =
    ap (λ b. if b then outside (innermost what (moved_blocks by os)) else moved_blocks by os) (within-moved by what os)
    ∙ ap (λ xs. if is_within what os then xs else moved_blocks by os) (ap outside (innermost-moved by what os) ∙ outside-moved by (innermost what os))
    ∙ choice-through (moved_blocks by) (is_within what os) (outside (innermost what os)) os

next-list-moved : (by : ℕ) (kind : Kind) (list : ℕ) (os : List Block) → next_list kind list (moved_blocks by os) ≡ moved_blocks by (next_list kind list os)
next-list-moved by kind list [] = refl
next-list-moved by kind list (o ∷ os) = choice-through (moved_blocks by) (is_else o.kind) (o ∷ os) (record { kind = kind; line = o.line; list = list; over = false } ∷ os)

divide-moved : (by : ℕ) (kind : Kind) (list : ℕ) (os : List Block) → divide kind list (moved_blocks by os) ≡ moved_blocks by (divide kind list os)
divide-moved by kind list os =
    ap (λ b. if b then next_list kind list (innermost sought.BlockIf (moved_blocks by os)) else moved_blocks by os) (within-moved by sought.BlockIf os)
    ∙ ap (λ xs. if is_within sought.BlockIf os then xs else moved_blocks by os)
    (ap (next_list kind list) (innermost-moved by sought.BlockIf os) ∙ next-list-moved by kind list (innermost sought.BlockIf os))
    ∙ choice-through (moved_blocks by) (is_within sought.BlockIf os) (next_list kind list (innermost sought.BlockIf os)) os

begins-moved : (by : ℕ) (role : Role) (os : List Block) → begins role (moved_blocks by os) ≡ begins role os
begins-moved by BlockIf os = refl
begins-moved by (Do t) os = refl
begins-moved by ElseIf os = divisible-moved by os
begins-moved by Else os = divisible-moved by os
begins-moved by Program os = refl
begins-moved by Subroutine os = refl
begins-moved by Specification os = refl
begins-moved by (Plain a) os = refl
begins-moved by (LogicalIf a) os = refl
begins-moved by EndIf os = refl
begins-moved by EndDo os = refl
begins-moved by End os = refl

at-label-moved : (by : ℕ) (role : Role) (os : List Block) → at_label role (moved_blocks by os) ≡ moved_blocks by (at_label role os)
at-label-moved by EndIf os = without-moved by sought.BlockIf os
at-label-moved by BlockIf os = refl
at-label-moved by (Do t) os = refl
at-label-moved by ElseIf os = refl
at-label-moved by Else os = refl
at-label-moved by Program os = refl
at-label-moved by Subroutine os = refl
at-label-moved by Specification os = refl
at-label-moved by (Plain a) os = refl
at-label-moved by (LogicalIf a) os = refl
at-label-moved by EndDo os = refl
at-label-moved by End os = refl

lists-moved : (by : ℕ) (os : List Block) → lists_of (moved_blocks by os) ≡ lists_of os
lists-moved by [] = refl
lists-moved by (o ∷ os) = ap (λ xs. o.list ∷ xs) (lists-moved by os)

list-moved : (by : ℕ) (os : List Block) → list_of (moved_blocks by os) ≡ list_of os
list-moved by [] = refl
list-moved by (o ∷ os) = refl

blocks-after-moved : (by : ℕ) (role : Role) (label : Option ℕ) (line list : ℕ) (os : List Block)
    → blocks_after role label (line + by) list (moved_blocks by os) ≡ moved_blocks by (blocks_after role label line list os)
blocks-after-moved by (Plain a) label line list os = past-label-moved by label os
blocks-after-moved by (LogicalIf a) label line list os = past-label-moved by label os
blocks-after-moved by BlockIf label line list os = refl
blocks-after-moved by ElseIf label line list os = divide-moved by kinds.If list os
blocks-after-moved by Else label line list os = divide-moved by kinds.Else list os
blocks-after-moved by EndIf label line list os = ap (past_label label) (without-moved by sought.BlockIf os) ∙ past-label-moved by label (without sought.BlockIf os)
blocks-after-moved by (Do t) label line list os = refl
blocks-after-moved by EndDo label line list os = ap (without sought.PlainDo) (past-label-moved by label os) ∙ without-moved by sought.PlainDo (past_label label os)
blocks-after-moved by End label line list os = refl
blocks-after-moved by Program label line list os = refl
blocks-after-moved by Subroutine label line list os = refl
blocks-after-moved by Specification label line list os = refl

going-moved : (by : ℕ) (a : Action) (line : ℕ) (lists : List ℕ) → going a (line + by) lists ≡ map (moved_going by) (going a line lists)
going-moved by (Goto l) line lists = refl
going-moved by Return line lists = refl
going-moved by Stop line lists = refl
going-moved by Other line lists = refl

goings-moved : (by : ℕ) (role : Role) (line : ℕ) (lists : List ℕ) → goings role (line + by) lists ≡ map (moved_going by) (goings role line lists)
goings-moved by (Plain a) line lists = going-moved by a line lists
goings-moved by (LogicalIf a) line lists = going-moved by a line lists
goings-moved by BlockIf line lists = refl
goings-moved by (Do t) line lists = refl
goings-moved by ElseIf line lists = refl
goings-moved by Else line lists = refl
goings-moved by Program line lists = refl
goings-moved by Subroutine line lists = refl
goings-moved by Specification line lists = refl
goings-moved by EndIf line lists = refl
goings-moved by EndDo line lists = refl
goings-moved by End line lists = refl

after-role-moved : (by : ℕ) (role : Role) (label : Option ℕ) (line : ℕ) (os : List Block) (n : Nesting)
    → after_role role label (line + by) (moved_blocks by os) (moved_nesting by n) ≡ moved_nesting by (after_role role label line os n)
after-role-moved by role label line os n =
    let made : List Block → Bool → ℕ → List Going → Nesting =
    λ bs new list js. record { blocks = bs; lists = if new then n.lists + 1 else n.lists; labels = n.labels ++ label_in_list (label_by role label) list; jumps = js } in
    let jumps : map (moved_going by) n.jumps ++ goings role (line + by) (lists_of (moved_blocks by os)) ≡ map (moved_going by) (n.jumps ++ goings role line (lists_of os)) =
    ap (λ ls. map (moved_going by) n.jumps ++ goings role (line + by) ls) (lists-moved by os)
    ∙ ap (λ xs. map (moved_going by) n.jumps ++ xs) (goings-moved by role line (lists_of os))
    ∙ sym (map-append (moved_going by) n.jumps (goings role line (lists_of os))) in
    ap (λ bs. made bs (begins role (moved_blocks by os)) (list_of (at_label role (moved_blocks by os))) (map (moved_going by) n.jumps ++ goings role (line + by) (lists_of (moved_blocks by os))))
    (blocks-after-moved by role label line n.lists os)
    ∙ ap (λ b. made (moved_blocks by (blocks_after role label line n.lists os)) b (list_of (at_label role (moved_blocks by os))) (map (moved_going by) n.jumps ++ goings role (line + by) (lists_of (moved_blocks by os))))
    (begins-moved by role os)
    ∙ ap (λ k. made (moved_blocks by (blocks_after role label line n.lists os)) (begins role os) k (map (moved_going by) n.jumps ++ goings role (line + by) (lists_of (moved_blocks by os))))
    (ap list_of (at-label-moved by role os) ∙ list-moved by (at_label role os))
    ∙ ap (made (moved_blocks by (blocks_after role label line n.lists os)) (begins role os) (list_of (at_label role os))) jumps

after-moved : (by : ℕ) (m : Mark) (n : Nesting) → after (moved_mark by m) (moved_nesting by n) ≡ moved_nesting by (after m n)
after-moved by m n =
    ap (λ os. after_role m.role m.label (m.line + by) os (moved_nesting by n)) (over-by-moved by m.role m.label n.blocks)
    ∙ after-role-moved by m.role m.label m.line (over_by m.role m.label n.blocks) n

-- ---- faults

abbrev moved_faults : ℕ → List Refusal → List Refusal
moved_faults by fs = map (moved_refusal by) fs

fault-if-moved : (by : ℕ) (wrong : Bool) (line : ℕ) (code : Code) → fault_if wrong (line + by) code ≡ moved_faults by (fault_if wrong line code)
fault-if-moved by true line code = refl
fault-if-moved by false line code = refl

both-moved : (by : ℕ) (xs ys fs gs : List Refusal) → xs ≡ moved_faults by fs → ys ≡ moved_faults by gs → xs ++ ys ≡ moved_faults by (fs ++ gs)
both-moved by xs ys fs gs p q = ap (λ x. x ++ ys) p ∙ ap (λ y. moved_faults by fs ++ y) q ∙ sym (map-append (moved_refusal by) fs gs)

unclosed-all-moved : (by : ℕ) (os : List Block) → unclosed_all (moved_blocks by os) ≡ moved_faults by (unclosed_all os)
unclosed-all-moved by [] = refl
unclosed-all-moved by (o ∷ os) =
    both-moved by _ _ (fault_if (not o.over) o.line (if is_if o.kind then UnclosedIf else UnclosedDo)) (unclosed_all os)
    (fault-if-moved by (not o.over) o.line (if is_if o.kind then UnclosedIf else UnclosedDo)) (unclosed-all-moved by os)

unclosed-in-moved : (by : ℕ) (what : Sought) (os : List Block) → unclosed_in what (moved_blocks by os) ≡ moved_faults by (unclosed_in what os)
unclosed-in-moved by what os =
    ap (λ b. if b then unclosed_all (inside what (moved_blocks by os)) else []) (within-moved by what os)
    ∙ ap (λ x. if is_within what os then x else []) (ap unclosed_all (inside-moved by what os) ∙ unclosed-all-moved by (inside what os))
    ∙ choice-through (moved_faults by) (is_within what os) (unclosed_all (inside what os)) []

too-deep-moved : (by line : ℕ) (os : List Block) → too_deep (line + by) (moved_blocks by os) ≡ moved_faults by (too_deep line os)
too-deep-moved by line os =
    ap (λ k. fault_if (nat_le 64 k) (line + by) TooDeep) (length-map os (moved_block by)) ∙ fault-if-moved by (nat_le 64 (length os)) line TooDeep

part-faults-moved : (by line : ℕ) (os : List Block) → part_faults (line + by) (moved_blocks by os) ≡ moved_faults by (part_faults line os)
part-faults-moved by line os =
    both-moved by _ _ (unclosed_in sought.BlockIf os) (fault_if (not (is_divisible os)) line StrayPart) (unclosed-in-moved by sought.BlockIf os)
    (ap (λ b. fault_if (not b) (line + by) StrayPart) (divisible-moved by os) ∙ fault-if-moved by (not (is_divisible os)) line StrayPart)

end-faults-moved : (by : ℕ) (what : Sought) (line : ℕ) (os : List Block) → end_faults what (line + by) (moved_blocks by os) ≡ moved_faults by (end_faults what line os)
end-faults-moved by what line os =
    both-moved by _ _ (unclosed_in what os) (fault_if (not (is_within what os)) line StrayPart) (unclosed-in-moved by what os)
    (ap (λ b. fault_if (not b) (line + by) StrayPart) (within-moved by what os) ∙ fault-if-moved by (not (is_within what os)) line StrayPart)

faults-by-moved : (by : ℕ) (role : Role) (label : Option ℕ) (line : ℕ) (os : List Block) → faults_by role label (line + by) (moved_blocks by os) ≡ moved_faults by (faults_by role label line os)
faults-by-moved by BlockIf label line os = too-deep-moved by line os
faults-by-moved by (Do t) label line os = too-deep-moved by line os
faults-by-moved by ElseIf label line os = part-faults-moved by line os
faults-by-moved by Else label line os = part-faults-moved by line os
faults-by-moved by EndIf label line os = end-faults-moved by sought.BlockIf line os
faults-by-moved by EndDo label line os = ap (end_faults sought.PlainDo (line + by)) (past-label-moved by label os) ∙ end-faults-moved by sought.PlainDo line (past_label label os)
faults-by-moved by End label line os = ap unclosed_all (past-label-moved by label os) ∙ unclosed-all-moved by (past_label label os)
faults-by-moved by Program label line os = refl
faults-by-moved by Subroutine label line os = refl
faults-by-moved by Specification label line os = refl
faults-by-moved by (Plain a) label line os = refl
faults-by-moved by (LogicalIf a) label line os = refl

faults-at-moved : (by : ℕ) (m : Mark) (os : List Block) → faults_at (moved_mark by m) (moved_blocks by os) ≡ moved_faults by (faults_at m os)
faults-at-moved by m os =
    both-moved by _ _ (fault_if (is_bad_end m.role m.label os) m.line BadTerminal) (faults_by m.role m.label m.line (over_by m.role m.label os))
    (ap (λ b. fault_if b (m.line + by) BadTerminal) (bad-end-moved by m.role m.label os) ∙ fault-if-moved by (is_bad_end m.role m.label os) m.line BadTerminal)
    (ap (faults_by m.role m.label (m.line + by)) (over-by-moved by m.role m.label os) ∙ faults-by-moved by m.role m.label m.line (over_by m.role m.label os))

jump-faults-moved : (by : ℕ) (labels : List Landing) (j : Going) → jump_faults labels (moved_going by j) ≡ moved_faults by (jump_faults labels j)
jump-faults-moved by labels j =
    ap (λ x. if stands labels j.label then x else fault_if true (j.line + by) LabelMissing) (fault-if-moved by (not (is_reached labels j)) j.line JumpIntoBlock)
    ∙ choice-through (moved_faults by) (stands labels j.label) (fault_if (not (is_reached labels j)) j.line JumpIntoBlock) (fault_if true j.line LabelMissing)

all-jump-faults-moved : (by : ℕ) (labels : List Landing) (js : List Going) → all_jump_faults labels (map (moved_going by) js) ≡ moved_faults by (all_jump_faults labels js)
all-jump-faults-moved by labels [] = refl
all-jump-faults-moved by labels (j ∷ js) =
    both-moved by _ _ (jump_faults labels j) (all_jump_faults labels js) (jump-faults-moved by labels j) (all-jump-faults-moved by labels js)

nest-faults-moved : (by : ℕ) (ms : List Mark) (n : Nesting) → nest_faults (moved_nesting by n) (map (moved_mark by) ms) ≡ moved_faults by (nest_faults n ms)
nest-faults-moved by [] n = all-jump-faults-moved by n.labels n.jumps
nest-faults-moved by (m ∷ ms) n =
    both-moved by _ _ (faults_at m n.blocks) (nest_faults (after m n) ms) (faults-at-moved by m n.blocks)
    (ap (λ x. nest_faults x (map (moved_mark by) ms)) (after-moved by m n) ∙ nest-faults-moved by ms (after m n))

among-moved : (by : ℕ) (fs : List Refusal) (found : Option Refusal) → first_among (moved_faults by fs) (moved_found by found) ≡ moved_found by (first_among fs found)
among-moved by [] found = refl
among-moved by (f ∷ fs) found = ap (first_among (moved_faults by fs)) (refuse-moved by true f.line f.code found) ∙ among-moved by fs (refuse_if true f.line f.code found)

-- the first fault of a module is the same at other lines, at that of its own
pub fault-moved : (by : ℕ) (ms : List Mark) → fault_of (map (moved_mark by) ms) ≡ option_map (moved_refusal by) (fault_of ms)
unfolding fault_of
fault-moved by ms =
    ap (λ fs. first_among fs (order_of (map (moved_mark by) ms))) (nest-faults-moved by ms nothing)
    ∙ ap (first_among (moved_faults by (nest_faults nothing ms))) (order-moved by ms)
    ∙ among-moved by (nest_faults nothing ms) (order_of ms)
