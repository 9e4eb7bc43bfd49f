-- The lines of two texts one after another.
use Rattle.std.proofs.Common.{◌≡◌, ℕ, suc, ◌+◌, List, [], ◌∷◌, ◌++◌, length, map, refl, ap, sym, ◌∙◌, arith, Bool, true, false, not, if◌then◌else◌}
use Rattle.std.specs.Prelude.{Option, Some, None, take, ◌||◌, nat_eq}
use Rattle.std.specs.List.{list_all, list_any}
use Rattle.std.proofs.lemmas.List.{map-append}
use Rattle.fx_lists.specs.declared.code.Code.TheVariants.{NonAscii, Tab, BadLabelField, ContinuationFirst}
use Rattle.fixed_form.specs.declared.fault.Begun.{Begun}
use Rattle.fixed_form.specs.declared.line.Line.{Line}
use Rattle.fixed_form.specs.Characters.{is_allowed, is_tab}
use Rattle.fixed_form.specs.Body.{has_tab}
use Rattle.fixed_form.specs.TextLines.{lines_of, onto_first, text_lines, without_returns}
use Rattle.fixed_form.specs.Cards.{is_comment, is_dropped, card, columns, is_initial}
use Rattle.fixed_form.specs.Faults.{fault_of, has_bad_field, starts_quoted, begun_behind, first_fault}
use Rattle.fixed_form.specs.Reading.{Rest, with_line, rest_from, ends_well}
use Rattle.roundtrip_programs.specs.Pieces.Joined.{ended}
use Rattle.roundtrip_programs.proofs.Pieces.Cutting.{line_by, given}
use Rattle.roundtrip_programs.proofs.Pieces.LineFaults.{none-at, all-none, faultless-anew}

-- ---- texts

record HasLine (t : Bool) (b : ℕ) (ls : List (List ℕ)) : Type 0 where
  pub first : List ℕ
  pub others : List (List ℕ)
  pub is : (if t then [] ∷ ls else onto_first b ls) ≡ first ∷ others

some-lines-by : (t : Bool) (b : ℕ) (ls : List (List ℕ)) → HasLine t b ls
some-lines-by true b ls = record { first = []; others = ls; is = refl }
some-lines-by false b [] = record { first = b ∷ []; others = []; is = refl }
some-lines-by false b (l ∷ ls) = record { first = b ∷ l; others = ls; is = refl }

onto-append : (b c : ℕ) (cs : List ℕ) (more : List (List ℕ)) → onto_first b (lines_of (c ∷ cs) ++ more) ≡ onto_first b (lines_of (c ∷ cs)) ++ more
onto-append b c cs more =
    let s = some-lines-by (nat_eq c 10) c (lines_of cs) in
    ap (λ ls. onto_first b (ls ++ more)) s.is ∙ ap (λ ls. onto_first b ls ++ more) (sym s.is)

feed-by : (t : Bool) (b c : ℕ) (cs : List ℕ) (more rest : List (List ℕ)) → rest ≡ lines_of (c ∷ cs) ++ more
    → (if t then [] ∷ rest else onto_first b rest) ≡ (if t then [] ∷ lines_of (c ∷ cs) else onto_first b (lines_of (c ∷ cs))) ++ more
feed-by true b c cs more rest e = ap (λ ls. [] ∷ ls) e
feed-by false b c cs more rest e = ap (onto_first b) e ∙ onto-append b c cs more

last-by : (t : Bool) (b : ℕ) (more : List ℕ) → nat_eq b 10 ≡ t → lines_of ((if t then b ∷ [] else b ∷ 10 ∷ []) ++ more) ≡ (if t then [] ∷ [] else (b ∷ []) ∷ []) ++ lines_of more
last-by true b more e = ap (λ x. if x then [] ∷ lines_of more else onto_first b (lines_of more)) e
last-by false b more e = ap (λ x. if x then [] ∷ ([] ∷ lines_of more) else onto_first b ([] ∷ lines_of more)) e

ended-lines : (text more : List ℕ) → lines_of (ended text ++ more) ≡ lines_of text ++ lines_of more
ended-lines [] more = refl
ended-lines (b ∷ []) more = last-by (nat_eq b 10) b more refl
ended-lines (b ∷ c ∷ cs) more = feed-by (nat_eq b 10) b c cs (lines_of more) (lines_of (ended (c ∷ cs) ++ more)) (ended-lines (c ∷ cs) more)

pub joined-lines : (text more : List ℕ) → text_lines (ended text ++ more) ≡ text_lines text ++ text_lines more
joined-lines text more = ap (map without_returns) (ended-lines text more) ∙ map-append without_returns (lines_of text) (lines_of more)

-- ---- without a fault

start-by : (i a b c : Bool) → i ≡ false
    → (if a then Some NonAscii else if b then Some Tab else if c then Some BadLabelField else if i then None else Some ContinuationFirst) ≡ None → ⊥
start-by true a b c e h = cc
start-by false true b c e h = cc
start-by false false true c e h = cc
start-by false false false true e h = cc
start-by false false false false e h = cc

fault-first : (c : List ℕ) → is_initial c ≡ false → fault_of None c ≡ None → ⊥
unfolding fault_of
fault-first c e h =
    start-by (is_initial c) (not (list_all is_allowed c)) (list_any is_tab (take 6 c) || has_tab (starts_quoted None c) (columns c)) (has_bad_field c) e h

initial-by : (b d i : Bool) (n : ℕ) (l c more : List ℕ) (last : Option ℕ) (inside : List (List ℕ)) (ss : List Line) (cs : List (List ℕ))
    → (b ≡ true → last ≡ None) → (b ≡ false → i ≡ false → ⊥) → (line_by b d i n l c (given more last inside ss cs)).last ≡ None
initial-by true true i n l c more last inside ss cs h g = h refl
initial-by true false i n l c more (Some k) inside ss cs h g = let e : Some k ≡ None = h refl in cc
initial-by true false i n l c more None inside [] cs h g = refl
initial-by true false i n l c more None inside (s ∷ ss) cs h g = refl
initial-by false d true n l c more last inside ss cs h g = refl
initial-by false d false n l c more last inside ss cs h g = absurd (g refl refl)

-- a text without a fault begins with an initial line, past its comments
pub initial-first : (ls : List (List ℕ)) (n k : ℕ) → first_fault None n ls ≡ None → (rest_from k ls).last ≡ None
unfolding first_fault rest_from
initial-first [] n k h = refl
initial-first (l ∷ ls) n k h =
    let r = rest_from (k + 1) ls in
    let p = none-at (is_comment l) (fault_of None (card l)) n _ _ h in
    initial-by (is_comment l) (is_dropped l) (is_initial (card l)) k l (card l) r.more r.last r.inside r.statements r.closing
    (λ e. initial-first ls (n + 1) (k + 1) (p.0 e)) (λ e g. fault-first (card l) g (p.1 e))

pub faultless-join : (ls more : List (List ℕ)) (begun a : Option Begun) (n m k : ℕ) → first_fault begun n ls ≡ None → first_fault a m more ≡ None → (rest_from k more).last ≡ None
    → first_fault begun n (ls ++ more) ≡ None
unfolding first_fault
faultless-join [] more begun a n m k h g e = faultless-anew more k a begun m n e g
faultless-join (l ∷ ls) more begun a n m k h g e =
    let p = none-at (is_comment l) (fault_of begun (card l)) n _ _ h in
    all-none (is_comment l) (fault_of begun (card l)) n _ _
    (λ x. faultless-join ls more begun a (n + 1) m k (p.0 x) g e) p.1 (λ x. faultless-join ls more (Some (begun_behind begun (card l))) a (n + 1) m k (p.2 x) g e)

-- ---- statements

abbrev pub after_line : List (List ℕ) → Line → Line
after_line comments s = record s { comments = comments ++ s.comments }

-- what both give, where a statement begins in the second
abbrev pub both : Rest → Line → List Line → List (List ℕ) → Rest
both r s ss cs = given r.more r.last r.inside (r.statements ++ after_line r.closing s ∷ ss) cs

both-by : (b d i : Bool) (n : ℕ) (l c more : List ℕ) (last : Option ℕ) (inside : List (List ℕ)) (xs : List Line) (closing : List (List ℕ)) (s : Line) (ss : List Line) (cs : List (List ℕ))
    → line_by b d i n l c (both (given more last inside xs closing) s ss cs) ≡ both (line_by b d i n l c (given more last inside xs closing)) s ss cs
both-by true true i n l c more last inside xs closing s ss cs = refl
both-by true false i n l c more (Some k) inside xs closing s ss cs = refl
both-by true false i n l c more None inside [] closing s ss cs = refl
both-by true false i n l c more None inside (x ∷ xs) closing s ss cs = refl
both-by false d true n l c more last inside xs closing s ss cs = refl
both-by false d false n l c more last inside xs closing s ss cs = refl

pub both-rest : (ls more : List (List ℕ)) (n : ℕ) (s : Line) (ss : List Line) (cs : List (List ℕ)) → rest_from (n + length ls) more ≡ given [] None [] (s ∷ ss) cs
    → rest_from n (ls ++ more) ≡ both (rest_from n ls) s ss cs
unfolding rest_from
both-rest [] more n s ss cs h = let e : n ≡ n + 0 = omega arith in ap (λ k. rest_from k more) e ∙ h
both-rest (l ∷ ls) more n s ss cs h =
    let r = rest_from (n + 1) ls in
    let e : (n + 1) + length ls ≡ n + suc (length ls) = omega arith in
    ap (with_line n l) (both-rest ls more (n + 1) s ss cs (ap (λ k. rest_from k more) e ∙ h))
    ∙ both-by (is_comment l) (is_dropped l) (is_initial (card l)) n l (card l) r.more r.last r.inside r.statements r.closing s ss cs

pub ends-join : (xs : List Line) (y : Line) (ys : List Line) → ends_well (y ∷ ys) ≡ true → ends_well (xs ++ y ∷ ys) ≡ true
ends-join [] y ys h = h
ends-join (x ∷ []) y ys h = h
ends-join (x ∷ t ∷ xs) y ys h = ends-join (t ∷ xs) y ys h
