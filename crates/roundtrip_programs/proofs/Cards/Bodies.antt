-- Each statement that reading gives is short.
use Rattle.std.proofs.Common.{◌≡◌, ℕ, zero, suc, ◌+◌, ◌-◌, ◌*◌, ◌≤◌, List, [], ◌∷◌, ◌++◌, length, drop, refl, ap, subst, ◌∙◌, arith, length-append, Option, Some, None, Bool, true, false, not, if◌then◌else◌}
use Rattle.std.specs.Prelude.{nat_le, ◌&&◌, Ok, Err, is_some}
use Rattle.std.specs.List.{list_all}
use Rattle.std.proofs.lemmas.Bool.{and_parts, and_from, le-leb, leb-true, leb-false, or_left}
use Rattle.std.proofs.lemmas.List.Folds.{list_all-append}
use Rattle.fx_lists.specs.declared.code.Code.{Code}
use Rattle.fx_lists.specs.declared.code.Code.TheVariants.{NonAscii, Tab, BadLabelField, TooManyContinuations}
use Rattle.fixed_form.specs.declared.fault.Begun.{Begun}
use Rattle.fixed_form.specs.declared.line.Line.{Line}
use Rattle.fixed_form.specs.declared.line.Lines.{Lines}
use Rattle.fixed_form.specs.Characters.{is_allowed, is_space, is_tab, upper_case}
use Rattle.fixed_form.specs.Body.{stripped, quoted_after_byte}
use Rattle.fixed_form.specs.Cards.{is_comment, is_dropped, card, columns, is_initial}
use Rattle.fixed_form.specs.Faults.{fault_of, continuation_fault, begun_behind, continuations_of, first_fault, or_later}
use Rattle.fixed_form.specs.Reading.{Rest, before_statements, with_comment, with_initial, with_continuation, rest_from, ends_well, outcome, reading}
use Rattle.fixed_form.specs.TextLines.{text_lines}
use Rattle.roundtrip_programs.specs.Cards.Good.{AreBodies}
use Rattle.roundtrip_programs.specs.Cards.Laws.{BodiesAreShort}
use Rattle.f77_parser.proofs.SizeLemmas.{columns-66}

-- ---- stripping

strip_length : (q s : Bool) (b : ℕ) (bs : List ℕ) → ((r : Bool) → length (stripped r bs) ≤ length bs)
    → length (if q then b ∷ stripped (quoted_after_byte q b) bs else if s then stripped q bs else upper_case b ∷ stripped (quoted_after_byte q b) bs) ≤ length (b ∷ bs)
strip_length true s b bs h = let l = h (quoted_after_byte true b) in omega arith
strip_length false true b bs h = let l = h false in omega arith
strip_length false false b bs h = let l = h (quoted_after_byte false b) in omega arith

stripped_length : (t : List ℕ) (q : Bool) → length (stripped q t) ≤ length t
stripped_length [] q = omega arith
stripped_length (b ∷ bs) q = strip_length q (is_space b) b bs (λ r. stripped_length bs r)

low_allowed : (b : ℕ) → 97 ≤ b → b ≤ 122 → is_allowed (b - 32) ≡ true
low_allowed b l u = or_left (nat_le 32 (b - 32) && nat_le (b - 32) 126) (is_tab (b - 32)) (and_from _ _ (le-leb 32 (b - 32) (omega arith)) (le-leb (b - 32) 126 (omega arith)))

folded_by : (t : Bool) (b : ℕ) → (nat_le 97 b && nat_le b 122) ≡ t → is_allowed b ≡ true → is_allowed (if t then b - 32 else b) ≡ true
folded_by true b e h = let p = and_parts (nat_le 97 b) (nat_le b 122) e in low_allowed b (leb-true 97 b p.0) (leb-true b 122 p.1)
folded_by false b e h = h

folded_allowed : (b : ℕ) → is_allowed b ≡ true → is_allowed (upper_case b) ≡ true
folded_allowed b h = folded_by (nat_le 97 b && nat_le b 122) b refl h

strip_allowed : (q s : Bool) (b : ℕ) (bs : List ℕ) → is_allowed b ≡ true → ((r : Bool) → list_all is_allowed (stripped r bs) ≡ true)
    → list_all is_allowed (if q then b ∷ stripped (quoted_after_byte q b) bs else if s then stripped q bs else upper_case b ∷ stripped (quoted_after_byte q b) bs) ≡ true
strip_allowed true s b bs p h = and_from (is_allowed b) (list_all is_allowed (stripped (quoted_after_byte true b) bs)) p (h (quoted_after_byte true b))
strip_allowed false true b bs p h = h false
strip_allowed false false b bs p h = and_from (is_allowed (upper_case b)) (list_all is_allowed (stripped (quoted_after_byte false b) bs)) (folded_allowed b p) (h (quoted_after_byte false b))

stripped_allowed : (t : List ℕ) (q : Bool) → list_all is_allowed t ≡ true → list_all is_allowed (stripped q t) ≡ true
stripped_allowed [] q h = refl
stripped_allowed (b ∷ bs) q h =
    let p = and_parts (is_allowed b) (list_all is_allowed bs) h in
    strip_allowed q (is_space b) b bs p.0 (λ r. stripped_allowed bs r p.1)

-- ---- columns

drop_allowed : (n : ℕ) (t : List ℕ) → list_all is_allowed t ≡ true → list_all is_allowed (drop n t) ≡ true
drop_allowed zero t h = h
drop_allowed (suc n) [] h = refl
drop_allowed (suc n) (c ∷ cs) h = drop_allowed n cs (and_parts (is_allowed c) (list_all is_allowed cs) h).1

-- ---- what a line without a fault has

fault_parts : (a b d i : Bool) (o : Option Code) → (if not a then Some NonAscii else if b then Some Tab else if d then Some BadLabelField else if i then None else o) ≡ None
    → record { allowed : a ≡ true; next : i ≡ false → o ≡ None }
fault_parts true false false true o h = record { allowed = refl; next = λ e. cc }
fault_parts true false false false o h = record { allowed = refl; next = λ e. h }
fault_parts false b d i o h = cc
fault_parts true true d i o h = cc
fault_parts true false true i o h = cc

faultless_card : (begun : Option Begun) (c : List ℕ) → fault_of begun c ≡ None → record { allowed : list_all is_allowed c ≡ true; next : is_initial c ≡ false → continuation_fault begun ≡ None }
unfolding fault_of
faultless_card begun c h = fault_parts (list_all is_allowed c) _ _ (is_initial c) (continuation_fault begun) h

-- how much the continuation lines of a statement may still hold
abbrev room : Option Begun → ℕ
room None = 0
room (Some b) = 66 * (19 - b.continuations)

few_at : (t : Bool) (k : ℕ) → nat_le 19 k ≡ t → (if t then Some TooManyContinuations else None) ≡ None → k ≤ 18
few_at true k e h = cc
few_at false k e h = let l = leb-false 19 k e in omega arith

-- a continuation line takes 66 of it
room_next : (begun : Option Begun) (m : ℕ) → continuation_fault begun ≡ None → m ≤ 66 * (19 - (continuations_of begun + 1)) → 66 + m ≤ room begun
room_next None m h l = cc
room_next (Some b) m h l = let k = few_at (nat_le 19 b.continuations) b.continuations refl h in omega arith

record Fine (begun : Option Begun) (rest : Rest) : Type 0 where
  pub short : length rest.more ≤ room begun
  pub allowed : list_all is_allowed rest.more ≡ true
  pub bodies : AreBodies rest.statements

none_short : (begun : Option Begun) → 0 ≤ room begun
none_short begun = omega arith

comment_fine : (t : Bool) (l : List ℕ) (ss : List Line) (closing : List (List ℕ)) (begun : Option Begun) (rest : Rest) → AreBodies ss → Fine begun rest
    → Fine begun (if t then record rest { inside = l ∷ rest.inside } else before_statements l ss closing rest)
comment_fine true l ss closing begun rest b h = record { short = h.short; allowed = h.allowed; bodies = h.bodies }
comment_fine false l [] closing begun rest b h = record { short = h.short; allowed = h.allowed; bodies = h.bodies }
comment_fine false l (s ∷ ss) closing begun rest b h = record { short = h.short; allowed = h.allowed; bodies = record { first = record { allowed = b.first.allowed; short = b.first.short }; others = b.others } }

initial_fine : (i : Bool) (begun : Option Begun) (n : ℕ) (c : List ℕ) (rest : Rest) → i ≡ true → length (columns c) ≡ 66 → list_all is_allowed c ≡ true
    → length rest.more ≤ 66 * (19 - (if i then 0 else continuations_of begun + 1)) → list_all is_allowed rest.more ≡ true → AreBodies rest.statements → Fine begun (with_initial n c rest)
initial_fine false begun n c rest e k a l m b = cc
initial_fine true begun n c rest e k a l m b = record {
  short = none_short begun;
  allowed = refl;
  bodies = record {
    first = record {
      allowed = stripped_allowed (columns c ++ rest.more) false (list_all-append is_allowed (columns c) rest.more ∙ and_from _ _ (drop_allowed 6 c a) m);
      short = omega (arith, stripped_length (columns c ++ rest.more) false, length-append (columns c) rest.more);
    };
    others = b;
  };
}

continuation_fine : (i : Bool) (begun : Option Begun) (n : ℕ) (c : List ℕ) (rest : Rest) → i ≡ false → length (columns c) ≡ 66 → list_all is_allowed c ≡ true → continuation_fault begun ≡ None
    → length rest.more ≤ 66 * (19 - (if i then 0 else continuations_of begun + 1)) → list_all is_allowed rest.more ≡ true → AreBodies rest.statements → Fine begun (with_continuation n c rest)
continuation_fine true begun n c rest e k a f l m b = cc
continuation_fine false begun n c rest e k a f l m b = record {
  short = omega (arith, length-append (columns c) rest.more, room_next begun (length rest.more) f l);
  allowed = list_all-append is_allowed (columns c) rest.more ∙ and_from _ _ (drop_allowed 6 c a) m;
  bodies = b;
}

-- a line that is no comment
card_fine : (i : Bool) (begun : Option Begun) (n : ℕ) (line : List ℕ) (rest : Rest) → is_initial (card line) ≡ i → fault_of begun (card line) ≡ None → Fine (Some (begun_behind begun (card line))) rest
    → Fine begun (if i then with_initial n (card line) rest else with_continuation n (card line) rest)
card_fine true begun n line rest e f h =
    let p = faultless_card begun (card line) f in
    initial_fine (is_initial (card line)) begun n (card line) rest e (columns-66 line) p.allowed h.short h.allowed h.bodies
card_fine false begun n line rest e f h =
    let p = faultless_card begun (card line) f in
    continuation_fine (is_initial (card line)) begun n (card line) rest e (columns-66 line) p.allowed (p.next e) h.short h.allowed h.bodies

later_none : (n : ℕ) (o : Option Code) (x : Option (ℕ × Code)) → or_later n o x ≡ None → (o ≡ None) × (x ≡ None)
later_none n None x h = (refl, h)
later_none n (Some f) x h = cc

line_fine : (b d : Bool) (begun : Option Begun) (n : ℕ) (line : List ℕ) (ls : List (List ℕ)) (rest : Rest)
    → (if b then first_fault begun (n + 1) ls else or_later n (fault_of begun (card line)) (first_fault (Some (begun_behind begun (card line))) (n + 1) ls)) ≡ None
    → ((x : Option Begun) → first_fault x (n + 1) ls ≡ None → Fine x rest)
    → Fine begun (if b then (if d then rest else with_comment line rest) else if is_initial (card line) then with_initial n (card line) rest else with_continuation n (card line) rest)
line_fine true true begun n line ls rest h f = f begun h
line_fine true false begun n line ls rest h f = let x = f begun h in comment_fine (is_some rest.last) line rest.statements rest.closing begun rest x.bodies x
line_fine false d begun n line ls rest h f =
    let p = later_none n (fault_of begun (card line)) (first_fault (Some (begun_behind begun (card line))) (n + 1) ls) h in
    card_fine (is_initial (card line)) begun n line rest refl p.0 (f (Some (begun_behind begun (card line))) p.1)

lines_fine : (ls : List (List ℕ)) (begun : Option Begun) (n : ℕ) → first_fault begun n ls ≡ None → Fine begun (rest_from n ls)
unfolding first_fault rest_from
lines_fine [] begun n h = record { short = none_short begun; allowed = refl; bodies = tt }
lines_fine (l ∷ ls) begun n h = line_fine (is_comment l) (is_dropped l) begun n l ls (rest_from (n + 1) ls) h (λ x e. lines_fine ls x (n + 1) e)

ok_lines : (b : Bool) (ss : List Line) (closing : List (List ℕ)) (e : ℕ × ℕ) (read : Lines) → (if b then Ok (record { lines = ss; closing = closing }) else Err e) ≡ Ok read → ss ≡ read.lines
ok_lines true ss closing e read h =
    let same : record { lines = ss; closing = closing } ≡ read = cc in
    ap (λ x. x.lines) same
ok_lines false ss closing e read h = cc

outcome_fine : (o : Option (ℕ × Code)) (last : ℕ) (rest : Rest) (read : Lines) → outcome o last rest ≡ Ok read → (o ≡ None → AreBodies rest.statements) → AreBodies read.lines
outcome_fine (Some f) last rest read h g = cc
outcome_fine None last rest read h g = subst AreBodies (ok_lines (ends_well rest.statements) rest.statements rest.closing _ read h) (g refl)

pub bodies_are_short : BodiesAreShort
unfolding reading
bodies_are_short text read h =
    outcome_fine (first_fault None 1 (text_lines text)) (length (text_lines text)) (rest_from 1 (text_lines text)) read h (λ e. (lines_fine (text_lines text) None 1 e).bodies)
