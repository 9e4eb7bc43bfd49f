-- The comments and labels that reading gives.
use Rattle.std.proofs.Common.{◌≡◌, ℕ, ◌+◌, List, [], ◌∷◌, map, refl, sym, ap, subst, Option, Some, None, Bool, true, false}
use Rattle.std.specs.Prelude.{nat_eq, is_some, if◌then◌else◌, Ok, Err}
use Rattle.std.specs.List.{list_any}
use Rattle.std.proofs.lemmas.Bool.{eqb-false, ne_eqb, or_parts, or_from}
use Rattle.fx_lists.specs.declared.code.Code.{Code}
use Rattle.fixed_form.specs.declared.line.Line.{Line}
use Rattle.fixed_form.specs.declared.line.Lines.{Lines}
use Rattle.fixed_form.specs.Cards.{is_comment, is_dropped, card, is_initial}
use Rattle.fixed_form.specs.Faults.{first_fault}
use Rattle.fixed_form.specs.Reading.{Rest, before_statements, with_comment, with_initial, with_continuation, rest_from, ends_well, outcome, reading}
use Rattle.fixed_form.specs.TextLines.{lines_of, onto_first, unless_return, without_returns, text_lines}
use Rattle.roundtrip_programs.specs.Cards.Good.{IsComment}
use Rattle.roundtrip_programs.specs.Statements.Formed.{Each}
use Rattle.roundtrip_programs.specs.ModuleTexts.ModuleLaws.{MaybeLabel}
use Rattle.roundtrip_programs.proofs.Texts.Labels.{field-label}

-- ---- lines of a text

-- no line feed stands in it, and no carriage return at its end
record IsOne (l : List ℕ) : Type 0 where
  pub one_line : list_any (nat_eq 10) l ≡ false
  pub no_return : without_returns l ≡ l

abbrev HasNoFeed : List ℕ → Type 0
HasNoFeed l = list_any (nat_eq 10) l ≡ false

onto-feedless : (b : ℕ) (ls : List (List ℕ)) → nat_eq 10 b ≡ false → Each HasNoFeed ls → Each HasNoFeed (onto_first b ls)
onto-feedless b [] e h = record { first = or_from (nat_eq 10 b) false e refl; others = tt }
onto-feedless b (l ∷ ls) e h = record { first = or_from (nat_eq 10 b) (list_any (nat_eq 10) l) e h.first; others = h.others }

lines-by : (t : Bool) (b : ℕ) (ls : List (List ℕ)) → nat_eq b 10 ≡ t → Each HasNoFeed ls → Each HasNoFeed (if t then [] ∷ ls else onto_first b ls)
lines-by true b ls e h = record { first = refl; others = h }
lines-by false b ls e h = let n = eqb-false b 10 e in onto-feedless b ls (ne_eqb 10 b (λ q. n (sym q))) h

lines-feedless : (text : List ℕ) → Each HasNoFeed (lines_of text)
lines-feedless [] = tt
lines-feedless (b ∷ bs) = lines-by (nat_eq b 10) b (lines_of bs) refl (lines-feedless bs)

choice-feedless : (t : Bool) (b : ℕ) → nat_eq 10 b ≡ false → HasNoFeed (if t then [] else b ∷ [])
choice-feedless true b e = refl
choice-feedless false b e = or_from (nat_eq 10 b) false e refl

unless-feedless : (b : ℕ) (w : List ℕ) → nat_eq 10 b ≡ false → HasNoFeed w → HasNoFeed (unless_return b w)
unless-feedless b [] e h = choice-feedless (nat_eq b 13) b e
unless-feedless b (c ∷ cs) e h = or_from (nat_eq 10 b) (list_any (nat_eq 10) (c ∷ cs)) e h

returns-feedless : (l : List ℕ) → HasNoFeed l → HasNoFeed (without_returns l)
returns-feedless [] h = h
returns-feedless (b ∷ bs) h =
    let p = or_parts (nat_eq 10 b) (list_any (nat_eq 10) bs) h in
    unless-feedless b (without_returns bs) p.0 (returns-feedless bs p.1)

choice-again : (t : Bool) (b : ℕ) → nat_eq b 13 ≡ t → without_returns (if t then [] else b ∷ []) ≡ (if t then [] else b ∷ [])
choice-again true b e = refl
choice-again false b e = ap (λ (x : Bool). if x then [] else b ∷ []) e

unless-again : (b : ℕ) (w : List ℕ) → without_returns w ≡ w → without_returns (unless_return b w) ≡ unless_return b w
unless-again b [] h = choice-again (nat_eq b 13) b refl
unless-again b (c ∷ cs) h = ap (unless_return b) h

returns-again : (l : List ℕ) → without_returns (without_returns l) ≡ without_returns l
returns-again [] = refl
returns-again (b ∷ bs) = unless-again b (without_returns bs) (returns-again bs)

all-one : (ls : List (List ℕ)) → Each HasNoFeed ls → Each IsOne (map without_returns ls)
all-one [] h = tt
all-one (l ∷ ls) h = record { first = record { one_line = returns-feedless l h.first; no_return = returns-again l }; others = all-one ls h.others }

text-lines : (text : List ℕ) → Each IsOne (text_lines text)
text-lines text = all-one (lines_of text) (lines-feedless text)

-- ---- what they give

-- a comment that reading keeps
pub record IsKept (line : List ℕ) : Type 0 where
  pub comment : IsComment line
  pub not_dropped : is_dropped line ≡ false

abbrev pub AreKept : List (List ℕ) → Type 0
AreKept ls = Each IsKept ls

pub record IsSource (s : Line) : Type 0 where
  pub label : MaybeLabel s.label
  pub comments : AreKept s.comments

record Gives (rest : Rest) : Type 0 where
  pub inside : AreKept rest.inside
  pub statements : Each IsSource rest.statements
  pub closing : AreKept rest.closing

comment-gives : (t : Bool) (l : List ℕ) (ss : List Line) (closing : List (List ℕ)) (rest : Rest) → IsKept l → Each IsSource ss → AreKept closing → Gives rest
    → Gives (if t then record rest { inside = l ∷ rest.inside } else before_statements l ss closing rest)
comment-gives true l ss closing rest k s c h = record { inside = record { first = k; others = h.inside }; statements = h.statements; closing = h.closing }
comment-gives false l [] closing rest k s c h = record { inside = h.inside; statements = h.statements; closing = record { first = k; others = c } }
comment-gives false l (x ∷ ss) closing rest k s c h =
    let first : IsSource (record x { comments = l ∷ x.comments }) = record { label = s.first.label; comments = record { first = k; others = s.first.comments } } in
    record { inside = h.inside; statements = record { first = first; others = s.others }; closing = h.closing }

line-gives : (b d i : Bool) (n : ℕ) (line c : List ℕ) (rest : Rest) → is_comment line ≡ b → is_dropped line ≡ d → IsOne line → Gives rest
    → Gives (if b then (if d then rest else with_comment line rest) else if i then with_initial n c rest else with_continuation n c rest)
line-gives true true i n line c rest e f o h = h
line-gives true false i n line c rest e f o h =
    let comment : IsComment line = record { comment = e; one_line = o.one_line; no_return = o.no_return } in
    comment-gives (is_some rest.last) line rest.statements rest.closing rest (record { comment = comment; not_dropped = f }) h.statements h.closing h
line-gives false d true n line c rest e f o h =
    record { inside = tt; statements = record { first = record { label = field-label c; comments = h.inside }; others = h.statements }; closing = h.closing }
line-gives false d false n line c rest e f o h = record { inside = h.inside; statements = h.statements; closing = h.closing }

rest-gives : (ls : List (List ℕ)) (n : ℕ) → Each IsOne ls → Gives (rest_from n ls)
unfolding rest_from
rest-gives [] n h = record { inside = tt; statements = tt; closing = tt }
rest-gives (l ∷ ls) n h = line-gives (is_comment l) (is_dropped l) (is_initial (card l)) n l (card l) (rest_from (n + 1) ls) refl refl h.first (rest-gives ls (n + 1) h.others)

-- ---- the whole

pub record Given (read : Lines) : Type 0 where
  pub statements : Each IsSource read.lines
  pub closing : AreKept read.closing

ok-given : (b : Bool) (rest : Rest) (e : ℕ × ℕ) (read : Lines) → (if b then Ok (record { lines = rest.statements; closing = rest.closing }) else Err e) ≡ Ok read → Gives rest → Given read
ok-given true rest e read h g =
    let same : record { lines = rest.statements; closing = rest.closing } ≡ read = cc in
    subst Given same (record { statements = g.statements; closing = g.closing })
ok-given false rest e read h g = cc

outcome-given : (o : Option (ℕ × Code)) (last : ℕ) (rest : Rest) (read : Lines) → outcome o last rest ≡ Ok read → Gives rest → Given read
outcome-given (Some f) last rest read h g = cc
outcome-given None last rest read h g = ok-given (ends_well rest.statements) rest _ read h g

-- what reading gives of a text
pub given : (text : List ℕ) (read : Lines) → reading text ≡ Ok read → Given read
unfolding reading
given text read h = outcome-given (first_fault None 1 (text_lines text)) _ (rest_from 1 (text_lines text)) read h (rest-gives (text_lines text) 1 (text-lines text))
