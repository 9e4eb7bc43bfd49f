-- The first module of a text, and the modules after it.
use Rattle.std.proofs.Common.{◌≡◌, ℕ, List, [], ◌∷◌, ◌++◌, length, refl, ap, sym, ◌∙◌, append_assoc, append-nil, Bool, true, false, if◌then◌else◌}
use Rattle.std.specs.Prelude.{Option, Some, None, Result, Ok, Err, codes, bytes_eq}
use Rattle.fixed_form.specs.declared.line.Line.{Line}
use Rattle.fixed_form.specs.declared.line.Lines.{Lines}
use Rattle.fixed_form.specs.TextLines.{text_lines}
use Rattle.fixed_form.specs.Faults.{first_fault}
use Rattle.fixed_form.specs.Reading.{Rest, rest_from, is_end, ends_well, outcome, reading}
use Rattle.fx_lists.specs.declared.code.Code.{Code}
use Rattle.f77_ast.specs.DeclTrees.{ParsedTree}
use Rattle.f77_statements.specs.declared.refusal.Cause.{Cause}
use Rattle.f77_statements.specs.Phrases.{PhraseTree}
use Rattle.f77_statements.specs.Statements.{phrase_of}
use Rattle.f77_structure.specs.Lists.{is_none_of}
use Rattle.f77_parser.specs.Gives.{Refused, and_then}
use Rattle.f77_parser.specs.Statements.{StatementTree, read_as, statement_of}
use Rattle.f77_parser.specs.Ends.{ends_module}
use Rattle.f77_parser.specs.References.{empty_call_fault}
use Rattle.roundtrip_programs.proofs.Assigned.{NoEnd as AreInner, read-well, well-read}
use Rattle.f77_parser.specs.Modules.{statements_in, closing_at, module_read, modules_from, parse_of}
use Rattle.fixed_form.specs.Pieces.{end_lines}
use Rattle.roundtrip_programs.proofs.Pieces.Ends.{end-is, ends-read}
use Rattle.roundtrip_programs.proofs.Pieces.Parsing.{AreRead, all-read, read-after}
use Rattle.fx_lists.proofs.Booleans.{chosen as chosen-true, not_chosen}

-- ---- statements that are not END, and the first that is

abbrev pub NoEnd : List Line → Type 0
NoEnd [] = Unit {0}
NoEnd (s ∷ ss) = record { first : is_end s ≡ false; others : NoEnd ss }

pub record FirstEnd (ss : List Line) (e : ℕ) (es : List ℕ) : Type 0 where
  pub before : List Line
  pub end : Line
  pub behind : List Line
  pub is : ss ≡ before ++ end ∷ behind
  pub last : end.last ≡ e
  pub others : end_lines behind ≡ es
  pub inner : NoEnd before
  pub ends : is_end end ≡ true

first-by : (b : Bool) (s : Line) (ss : List Line) (e : ℕ) (es : List ℕ) → is_end s ≡ b → (if b then s.last ∷ end_lines ss else end_lines ss) ≡ e ∷ es
    → (end_lines ss ≡ e ∷ es → FirstEnd ss e es) → FirstEnd (s ∷ ss) e es
first-by true s ss e es p h g =
    let last : s.last ≡ e = cc in
    let others : end_lines ss ≡ es = cc in
    record { before = []; end = s; behind = ss; is = refl; last = last; others = others; inner = tt; ends = p }
first-by false s ss e es p h g =
    let f = g h in record {
      before = s ∷ f.before;
      end = f.end;
      behind = f.behind;
      is = ap (λ xs. s ∷ xs) f.is;
      last = f.last;
      others = f.others;
      inner = record { first = p; others = f.inner };
      ends = f.ends;
    }

pub first-end : (ss : List Line) (e : ℕ) (es : List ℕ) → end_lines ss ≡ e ∷ es → FirstEnd ss e es
first-end [] e es h = cc
first-end (s ∷ ss) e es h = first-by (is_end s) s ss e es refl h (first-end ss e es)

none-by : (b : Bool) (s : Line) (ss : List Line) → is_end s ≡ b → (if b then s.last ∷ end_lines ss else end_lines ss) ≡ [] → (end_lines ss ≡ [] → NoEnd ss) → NoEnd (s ∷ ss)
none-by true s ss p h g = cc
none-by false s ss p h g = record { first = p; others = g h }

pub no-end : (ss : List Line) → end_lines ss ≡ [] → NoEnd ss
no-end [] h = tt
no-end (s ∷ ss) h = none-by (is_end s) s ss refl h (no-end ss)

pub none-left : (ss : List Line) → NoEnd ss → ends_well ss ≡ true → ss ≡ []
none-left [] n h = refl
none-left (s ∷ []) n h = let f = n.first in cc
none-left (s ∷ t ∷ ss) n h = let e : t ∷ ss ≡ [] = none-left (t ∷ ss) n.others h in cc

pub ends-behind : (xs ys : List Line) → ends_well (xs ++ ys) ≡ true → ends_well ys ≡ true
ends-behind [] ys h = h
ends-behind (x ∷ []) [] h = refl
ends-behind (x ∷ []) (y ∷ ys) h = h
ends-behind (x ∷ t ∷ xs) ys h = ends-behind (t ∷ xs) ys h

-- ---- what reading the lines of a text gives

pub record Lined (text : List ℕ) (lines : Lines) : Type 0 where
  pub faultless : first_fault None 1 (text_lines text) ≡ None
  pub ended : ends_well lines.lines ≡ true
  pub statements : (rest_from 1 (text_lines text)).statements ≡ lines.lines
  pub closing : (rest_from 1 (text_lines text)).closing ≡ lines.closing

ended-by : (b : Bool) (text : List ℕ) (last : ℕ × ℕ) (lines : Lines) → first_fault None 1 (text_lines text) ≡ None → ends_well (rest_from 1 (text_lines text)).statements ≡ b
    → (if b then Ok (record { lines = (rest_from 1 (text_lines text)).statements; closing = (rest_from 1 (text_lines text)).closing }) else Err last) ≡ Ok lines → Lined text lines
ended-by true text last lines f p h =
    let r = rest_from 1 (text_lines text) in
    let whole : record { lines = r.statements; closing = r.closing } ≡ lines = cc in
    record { faultless = f; ended = sym (ap (λ x. ends_well x.lines) whole) ∙ p; statements = ap (λ x. x.lines) whole; closing = ap (λ x. x.closing) whole }
ended-by false text last lines f p h = cc

faultless-by : (o : Option (ℕ × Code)) (text : List ℕ) (last : ℕ) (lines : Lines) → first_fault None 1 (text_lines text) ≡ o
    → outcome o last (rest_from 1 (text_lines text)) ≡ Ok lines → Lined text lines
faultless-by None text last lines p h = ended-by (ends_well (rest_from 1 (text_lines text)).statements) text _ lines p refl h
faultless-by (Some f) text last lines p h = cc

pub lined : (text : List ℕ) (lines : Lines) → reading text ≡ Ok lines → Lined text lines
unfolding reading
lined text lines h = faultless-by (first_fault None 1 (text_lines text)) text _ lines refl h

-- and back
abbrev pub lines_in : Rest → Lines
lines_in r = record { lines = r.statements; closing = r.closing }

ok-by : (b : Bool) (r : Rest) (last : ℕ × ℕ) → b ≡ true → (if b then Ok (lines_in r) else Err last) ≡ Ok (lines_in r)
ok-by true r last e = refl
ok-by false r last e = cc

pub read-lines : (text : List ℕ) (ls : List (List ℕ)) → text_lines text ≡ ls → first_fault None 1 ls ≡ None → ends_well (rest_from 1 ls).statements ≡ true
    → reading text ≡ Ok (lines_in (rest_from 1 ls))
unfolding reading
read-lines text ls e f g =
    ap (λ xs. outcome (first_fault None 1 xs) (length xs) (rest_from 1 xs)) e
    ∙ ap (λ o. outcome o (length ls) (rest_from 1 ls)) f
    ∙ ok-by (ends_well (rest_from 1 ls).statements) (rest_from 1 ls) _ g

-- ---- what parsing statements gives

pub record Parsed (closing : List (List ℕ)) (ls : List Line) (ms : List ParsedTree) : Type 0 where
  pub own : List StatementTree
  pub read : AreRead ls own
  pub calls : empty_call_fault own ≡ None
  pub made : modules_from closing [] [] own ≡ Ok ms

parsed-by : (r : Result (List StatementTree) Refused) (closing : List (List ℕ)) (ls : List Line) (ms : List ParsedTree) → statements_in ls ≡ r
    → and_then r (λ ss. modules_from closing [] [] ss) ≡ Ok ms → Parsed closing ls ms
parsed-by (Ok ss) closing ls ms e h =
    let w = read-well ls ss e in
    let a = read-after ls [] ss w.all in
    record { own = a.own; read = a.read; calls = ap empty_call_fault (sym a.is) ∙ w.calls; made = ap (modules_from closing [] []) (sym a.is) ∙ h }
parsed-by (Err r) closing ls ms e h = cc

pub parsed : (lines : Lines) (ms : List ParsedTree) → parse_of lines ≡ Ok ms → Parsed lines.closing lines.lines ms
unfolding parse_of
parsed lines ms h = parsed-by (statements_in lines.lines) lines.closing lines.lines ms refl h

pub parse-again : (lines : Lines) (ms : List ParsedTree) → Parsed lines.closing lines.lines ms → parse_of lines ≡ Ok ms
unfolding parse_of
parse-again lines ms p = ap (λ r. and_then r (λ ss. modules_from lines.closing [] [] ss)) (well-read lines.lines p.own (all-read lines.lines p.own [] p.read) p.calls) ∙ p.made

-- ---- statements in two parts

pub record Parts (xs ys : List Line) (ss : List StatementTree) : Type 0 where
  pub fore : List StatementTree
  pub aft : List StatementTree
  pub is : ss ≡ fore ++ aft
  pub read_fore : AreRead xs fore
  pub read_aft : AreRead ys aft

pub in-parts : (xs ys : List Line) (ss : List StatementTree) → AreRead (xs ++ ys) ss → Parts xs ys ss
in-parts [] ys ss h = record { fore = []; aft = ss; is = refl; read_fore = tt; read_aft = h }
in-parts (x ∷ xs) ys [] h = absurd h
in-parts (x ∷ xs) ys (s ∷ ss) h =
    let p = in-parts xs ys ss h.others in
    record { fore = s ∷ p.fore; aft = p.aft; is = ap (λ z. s ∷ z) p.is; read_fore = record { first = h.first; others = p.read_fore }; read_aft = p.read_aft }

pub join-parts : (xs ys : List Line) (fore aft : List StatementTree) → AreRead xs fore → AreRead ys aft → AreRead (xs ++ ys) (fore ++ aft)
join-parts [] ys [] aft h g = g
join-parts [] ys (s ∷ fore) aft h g = absurd h
join-parts (x ∷ xs) ys [] aft h g = absurd h
join-parts (x ∷ xs) ys (s ∷ fore) aft h g = record { first = h.first; others = join-parts xs ys fore aft h.others g }

-- ---- END by its statement

abbrev pub AllInner : List StatementTree → Type 0
AllInner [] = Unit {0}
AllInner (s ∷ ss) = record { first : ends_module s.phrase ≡ false; others : AllInner ss }

-- the same
pub all-inner : (ss : List StatementTree) → AllInner ss → AreInner ss
all-inner [] h = tt
all-inner (s ∷ ss) h = record { first = h.first; others = all-inner ss h.others }

phrase-read : (l : Line) (r : Result PhraseTree Cause) (s : StatementTree) → read_as l r ≡ Ok s → r ≡ Ok s.phrase
phrase-read l (Ok p) s h = let q : p ≡ s.phrase = cc in ap Ok q
phrase-read l (Err c) s h = cc

inner-by : (b : Bool) (l : Line) (s : StatementTree) → ends_module s.phrase ≡ b → is_end l ≡ false → phrase_of l.body ≡ Ok s.phrase → ends_module s.phrase ≡ false
inner-by false l s p e h = p
inner-by true l s p e h = let x : is_end l ≡ true = ap (λ t. bytes_eq t (codes "END")) (end-is l.body s.phrase h p) in cc

pub inner : (ls : List Line) (ss : List StatementTree) → NoEnd ls → AreRead ls ss → AllInner ss
inner [] [] n h = tt
inner [] (s ∷ ss) n h = absurd h
inner (l ∷ ls) [] n h = absurd h
inner (l ∷ ls) (s ∷ ss) n h = record {
  first = inner-by (ends_module s.phrase) l s refl n.first (phrase-read l (phrase_of l.body) s h.first);
  others = inner ls ss n.others h.others;
}

pub ends : (l : Line) (s : StatementTree) → is_end l ≡ true → statement_of l ≡ Ok s → ends_module s.phrase ≡ true
ends l s e h = ends-read l.body s.phrase e (phrase-read l (phrase_of l.body) s h)

-- ---- modules

-- what comes after modules that are done
abbrev pub prefixed : List ParsedTree → Result (List ParsedTree) Refused → Result (List ParsedTree) Refused
prefixed done (Ok ps) = Ok (done ++ ps)
prefixed done (Err r) = Err r

prefixed-twice : (xs ys : List ParsedTree) (r : Result (List ParsedTree) Refused) → prefixed (xs ++ ys) r ≡ prefixed xs (prefixed ys r)
prefixed-twice xs ys (Ok ps) = ap Ok (append_assoc xs ys ps)
prefixed-twice xs ys (Err r) = refl

prefixed-through : (done : List ParsedTree) (b : Bool) (x y : Result (List ParsedTree) Refused) → (if b then prefixed done x else prefixed done y) ≡ prefixed done (if b then x else y)
prefixed-through done true x y = refl
prefixed-through done false x y = refl

prefixed-then : (done : List ParsedTree) (r : Result ParsedTree Refused) (f g : ParsedTree → Result (List ParsedTree) Refused) → ((p : ParsedTree) → f p ≡ prefixed done (g p))
    → and_then r f ≡ prefixed done (and_then r g)
prefixed-then done (Ok p) f g h = h p
prefixed-then done (Err e) f g h = refl

pub modules-prefixed : (closing : List (List ℕ)) (done : List ParsedTree) (begun ss : List StatementTree) → modules_from closing done begun ss ≡ prefixed done (modules_from closing [] begun ss)
modules-prefixed closing done begun [] = ap Ok (sym (append-nil done))
modules-prefixed closing done begun (s ∷ ss) =
    let r : Result ParsedTree Refused = module_read (closing_at (is_none_of ss) closing) (begun ++ s ∷ []) in
    let f : ParsedTree → Result (List ParsedTree) Refused = λ p. modules_from closing (done ++ p ∷ []) [] ss in
    let g : ParsedTree → Result (List ParsedTree) Refused = λ p. modules_from closing (p ∷ []) [] ss in
    ap (λ x. if ends_module s.phrase then x else modules_from closing done (begun ++ s ∷ []) ss)
    (prefixed-then done r f g (λ p. modules-prefixed closing (done ++ p ∷ []) [] ss ∙ prefixed-twice done (p ∷ []) (modules_from closing [] [] ss)
    ∙ ap (prefixed done) (sym (modules-prefixed closing (p ∷ []) [] ss))))
    ∙ ap (λ y. if ends_module s.phrase then prefixed done (and_then r g) else y) (modules-prefixed closing done (begun ++ s ∷ []) ss)
    ∙ prefixed-through done (ends_module s.phrase) (and_then r g) (modules_from closing [] (begun ++ s ∷ []) ss)

-- a module goes up to its END
pub up-to-end : (closing : List (List ℕ)) (begun pre : List StatementTree) (e : StatementTree) (post : List StatementTree) → AllInner pre → ends_module e.phrase ≡ true
    → modules_from closing [] begun (pre ++ e ∷ post) ≡ and_then (module_read (closing_at (is_none_of post) closing) (begun ++ (pre ++ e ∷ []))) (λ p. modules_from closing (p ∷ []) [] post)
up-to-end closing begun [] e post i h = chosen-true (ends_module e.phrase) _ _ h
up-to-end closing begun (s ∷ pre) e post i h =
    not_chosen (ends_module s.phrase) _ _ i.first
    ∙ up-to-end closing (begun ++ s ∷ []) pre e post i.others h
    ∙ ap (λ xs. and_then (module_read (closing_at (is_none_of post) closing) xs) (λ p. modules_from closing (p ∷ []) [] post)) (append_assoc begun (s ∷ []) (pre ++ e ∷ []))

pub record FirstOf (closing : List (List ℕ)) (pre : List StatementTree) (e : StatementTree) (post : List StatementTree) (ms : List ParsedTree) : Type 0 where
  pub first : ParsedTree
  pub others : List ParsedTree
  pub is : ms ≡ first ∷ others
  pub own : module_read (closing_at (is_none_of post) closing) (pre ++ e ∷ []) ≡ Ok first
  pub made : modules_from closing [] [] post ≡ Ok others

others-by : (r : Result (List ParsedTree) Refused) (closing : List (List ℕ)) (pre : List StatementTree) (e : StatementTree) (post : List StatementTree) (m : ParsedTree) (ms : List ParsedTree)
    → module_read (closing_at (is_none_of post) closing) (pre ++ e ∷ []) ≡ Ok m → modules_from closing [] [] post ≡ r → prefixed (m ∷ []) r ≡ Ok ms → FirstOf closing pre e post ms
others-by (Ok xs) closing pre e post m ms p q h = record { first = m; others = xs; is = let same : m ∷ xs ≡ ms = cc in sym same; own = p; made = q }
others-by (Err r) closing pre e post m ms p q h = cc

first-by-module : (r : Result ParsedTree Refused) (closing : List (List ℕ)) (pre : List StatementTree) (e : StatementTree) (post : List StatementTree) (ms : List ParsedTree)
    → module_read (closing_at (is_none_of post) closing) (pre ++ e ∷ []) ≡ r → and_then r (λ p. modules_from closing (p ∷ []) [] post) ≡ Ok ms → FirstOf closing pre e post ms
first-by-module (Ok m) closing pre e post ms p h =
    others-by (modules_from closing [] [] post) closing pre e post m ms p refl (sym (modules-prefixed closing (m ∷ []) [] post) ∙ h)
first-by-module (Err r) closing pre e post ms p h = cc

-- the first module of these statements, and the others
pub first-module : (closing : List (List ℕ)) (pre : List StatementTree) (e : StatementTree) (post : List StatementTree) (ms : List ParsedTree) → AllInner pre → ends_module e.phrase ≡ true
    → modules_from closing [] [] (pre ++ e ∷ post) ≡ Ok ms → FirstOf closing pre e post ms
first-module closing pre e post ms i h g =
    first-by-module (module_read (closing_at (is_none_of post) closing) (pre ++ e ∷ [])) closing pre e post ms refl (sym (up-to-end closing [] pre e post i h) ∙ g)
