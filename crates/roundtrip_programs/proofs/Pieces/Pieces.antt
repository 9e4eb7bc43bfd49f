-- The pieces of a text are read as its modules.
use Rattle.std.proofs.Common.{◌≡◌, ℕ, zero, suc, ◌+◌, ◌-◌, List, [], ◌∷◌, ◌++◌, length, map, refl, ap, sym, ◌∙◌, subst, arith, Bool, true, false, if◌then◌else◌}
use Rattle.std.specs.Prelude.{Option, Some, None, option_map, Result, Ok, Err}
use Rattle.std.proofs.lemmas.List.{length-map}
use Rattle.fixed_form.proofs.Ends.{ends_well-append}
use Rattle.fixed_form.specs.declared.line.Line.{Line}
use Rattle.fixed_form.specs.declared.line.Lines.{Lines}
use Rattle.fixed_form.specs.TextLines.{text_lines}
use Rattle.fixed_form.specs.Faults.{first_fault}
use Rattle.fixed_form.specs.Reading.{Rest, rest_from, is_end, ends_well, reading}
use Rattle.f77_ast.specs.declared.places.Spot.{Spot}
use Rattle.f77_ast.specs.DeclTrees.{ParsedTree}
use Rattle.f77_structure.specs.Lists.{is_none_of}
use Rattle.f77_parser.specs.Gives.{Refused, and_then}
use Rattle.f77_parser.specs.Statements.{StatementTree, statement_of}
use Rattle.f77_parser.specs.Ends.{ends_module}
use Rattle.f77_parser.specs.References.{empty_call_fault}
use Rattle.roundtrip_programs.proofs.Assigned.{Uncalled, first-uncalled, alone-uncalled}
use Rattle.f77_parser.specs.Modules.{closing_at, module_read, modules_from, parse_of}
use Rattle.fixed_form.specs.declared.source.Piece.{Piece}
use Rattle.fixed_form.specs.Cuts.{first_lines, after_lines}
use Rattle.fixed_form.specs.Pieces.{end_lines, piece, module_text, cut_from, pieces_of}
use Rattle.roundtrip_programs.specs.Texts.Texts.{IsReadAs}
use Rattle.roundtrip_programs.specs.Pieces.Moved.{moved_line, moved_spot, moved}
use Rattle.roundtrip_programs.specs.Pieces.Laws.{ArePiecesOf, PiecesAreModules}
use Rattle.roundtrip_programs.proofs.Pieces.Texts.{front-lines, back-lines}
use Rattle.roundtrip_programs.proofs.Pieces.Cutting.{given, cut_statement}
use Rattle.roundtrip_programs.proofs.Pieces.Counting.{moved_rest, rest-moved}
use Rattle.roundtrip_programs.proofs.Pieces.LineFaults.{faultless-front, faultless-back, faultless-anew}
use Rattle.roundtrip_programs.proofs.Pieces.Parsing.{uncalled-moved, moved_statement, moved_refused, result_map, modules-moved, AreRead, unmoved}
use Rattle.roundtrip_programs.proofs.Pieces.First.{all-inner, FirstEnd, first-end, no-end, none-left, ends-behind, lined, lines_in, read-lines, Parsed, parsed, parse-again, in-parts, join-parts, AllInner, inner, ends, FirstOf, first-module, up-to-end}

-- ---- at other lines

end-lines-moved : (by : ℕ) (ss : List Line) → end_lines (map (moved_line by) ss) ≡ map (λ e. e + by) (end_lines ss)
end-lines-moved by [] = refl
end-lines-moved by (s ∷ ss) =
    ap (λ es. if is_end s then (s.last + by) ∷ es else es) (end-lines-moved by ss) ∙ through (is_end s)
  where
    through : (b : Bool) → (if b then (s.last + by) ∷ map (λ e. e + by) (end_lines ss) else map (λ e. e + by) (end_lines ss)) ≡ map (λ e. e + by) (if b then s.last ∷ end_lines ss else end_lines ss)
    through true = refl
    through false = refl

pub ends-well-moved : (by : ℕ) (ss : List Line) → ends_well (map (moved_line by) ss) ≡ ends_well ss
ends-well-moved by [] = refl
ends-well-moved by (s ∷ []) = refl
ends-well-moved by (s ∷ t ∷ ss) = ends-well-moved by (t ∷ ss)

abbrev moved_piece : ℕ → Piece → Piece
moved_piece by p = record p { first = p.first + by }

count-same : (by first end : ℕ) → (end + by) + 1 - (first + by) ≡ end + 1 - first
count-same by first end = omega arith

module-text-moved : (by : ℕ) (ends : List ℕ) (count : ℕ) (text : List ℕ) → module_text (map (λ e. e + by) ends) count text ≡ module_text ends count text
module-text-moved by [] count text = refl
module-text-moved by (e ∷ es) count text = refl

cut-moved : (by first : ℕ) (ends text : List ℕ) → cut_from (first + by) (map (λ e. e + by) ends) text ≡ map (moved_piece by) (cut_from first ends text)
cut-moved by first [] text = refl
cut-moved by first (end ∷ ends) text =
    let n : (end + by) + 1 - (first + by) ≡ end + 1 - first = count-same by first end in
    let next : (end + by) + 1 ≡ end + 1 + by = omega arith in
    let es : List ℕ = map (λ e. e + by) ends in
    ap (λ k. piece (first + by) (module_text es k text) ∷ cut_from (end + by + 1) es (after_lines k text)) n
    ∙ ap (λ x. piece (first + by) x ∷ cut_from (end + by + 1) es (after_lines (end + 1 - first) text)) (module-text-moved by ends (end + 1 - first) text)
    ∙ ap (λ k. piece (first + by) (module_text ends (end + 1 - first) text) ∷ cut_from k es (after_lines (end + 1 - first) text)) next
    ∙ ap (λ ps. piece (first + by) (module_text ends (end + 1 - first) text) ∷ ps) (cut-moved by (end + 1) ends (after_lines (end + 1 - first) text))

spots-still : (qs : List Spot) → map (moved_spot 0) qs ≡ qs
spots-still [] = refl
spots-still (q ∷ qs) =
    let e : q.first + 0 ≡ q.first = omega arith in
    ap (λ k. record q { first = k } ∷ map (moved_spot 0) qs) e ∙ ap (λ xs. q ∷ xs) (spots-still qs)

pub still : (m : ParsedTree) → moved 0 m ≡ m
still m = ap (λ qs. record m { places = record m.places { spots = qs } }) (spots-still m.places.spots)

spots-twice : (a b : ℕ) (qs : List Spot) → map (moved_spot b) (map (moved_spot a) qs) ≡ map (moved_spot (a + b)) qs
spots-twice a b [] = refl
spots-twice a b (q ∷ qs) =
    let e : q.first + a + b ≡ q.first + (a + b) = omega arith in
    ap (λ k. record q { first = k } ∷ map (moved_spot b) (map (moved_spot a) qs)) e ∙ ap (λ xs. moved_spot (a + b) q ∷ xs) (spots-twice a b qs)

pub twice : (a b : ℕ) (m : ParsedTree) → moved b (moved a m) ≡ moved (a + b) m
twice a b m = ap (λ qs. record m { places = record m.places { spots = qs } }) (spots-twice a b m.places.spots)

-- ---- the pieces, with how many lines stand before each

record Own (p : Piece) (m : ParsedTree) : Type 0 where
  pub before : ℕ
  pub first : p.first ≡ before + 1
  pub alone : ParsedTree
  pub read : IsReadAs p.text (alone ∷ [])
  pub same : moved before alone ≡ m

abbrev AreOwn : List Piece → List ParsedTree → Type 0
AreOwn [] [] = Unit {0}
AreOwn [] (m ∷ ms) = ⊥
AreOwn (p ∷ ps) [] = ⊥
AreOwn (p ∷ ps) (m ∷ ms) = record { first : Own p m; others : AreOwn ps ms }

own-moved : (by : ℕ) (ps : List Piece) (ms : List ParsedTree) → AreOwn ps ms → AreOwn (map (moved_piece by) ps) (map (moved by) ms)
own-moved by [] [] h = tt
own-moved by [] (m ∷ ms) h = absurd h
own-moved by (p ∷ ps) [] h = absurd h
own-moved by (p ∷ ps) (m ∷ ms) h =
    let o = h.first in record {
      first = record {
        before = o.before + by;
        first = let e = o.first in omega arith;
        alone = o.alone;
        read = o.read;
        same = sym (twice o.before by o.alone) ∙ ap (moved by) o.same;
      };
      others = own-moved by ps ms h.others;
    }

as-said : (ps : List Piece) (ms : List ParsedTree) → AreOwn ps ms → ArePiecesOf ps ms
as-said [] [] h = tt
as-said [] (m ∷ ms) h = absurd h
as-said (p ∷ ps) [] h = absurd h
as-said (p ∷ ps) (m ∷ ms) h =
    let o = h.first in
    let e : p.first - 1 ≡ o.before = let f = o.first in omega arith in
    (record { alone = o.alone; read = o.read; same = ap (λ k. moved k o.alone) e ∙ o.same }, as-said ps ms h.others)

-- ---- the first module and the rest of the text

abbrev pub made : List Line → List (List ℕ) → Lines
made ss cs = record { lines = ss; closing = cs }

pub read-as : (text : List ℕ) (ls : List (List ℕ)) (ss : List Line) (cs : List (List ℕ)) (ms : List ParsedTree) → text_lines text ≡ ls → first_fault None 1 ls ≡ None
    → (rest_from 1 ls).statements ≡ ss → (rest_from 1 ls).closing ≡ cs → ends_well ss ≡ true → Parsed cs ss ms → IsReadAs text ms
read-as text ls ss cs ms e f p q g h = record {
  lines = record { lines = ss; closing = cs };
  lined = read-lines text ls e f (ap ends_well p ∙ g) ∙ ap Ok (ap (λ x. made x (rest_from 1 ls).closing) p ∙ ap (made ss) q);
  parsed = parse-again (record { lines = ss; closing = cs }) ms h;
}

pub record Moved (by : ℕ) (closing : List (List ℕ)) (ss : List StatementTree) (ms : List ParsedTree) : Type 0 where
  pub own : List ParsedTree
  pub made : modules_from closing [] [] ss ≡ Ok own
  pub same : map (moved by) own ≡ ms

pub moved-by : (r : Result (List ParsedTree) Refused) (by : ℕ) (closing : List (List ℕ)) (ss : List StatementTree) (ms : List ParsedTree) → modules_from closing [] [] ss ≡ r
    → result_map (map (moved by)) (moved_refused by) r ≡ Ok ms → Moved by closing ss ms
moved-by (Ok own) by closing ss ms e h = record { own = own; made = e; same = let same : map (moved by) own ≡ ms = cc in same }
moved-by (Err x) by closing ss ms e h = cc

pub unmoved-modules : (by : ℕ) (closing : List (List ℕ)) (ss : List StatementTree) (ms : List ParsedTree) → modules_from closing [] [] (map (moved_statement by) ss) ≡ Ok ms → Moved by closing ss ms
unmoved-modules by closing ss ms h = moved-by (modules_from closing [] [] ss) by closing ss ms refl (sym (modules-moved by closing [] [] ss) ∙ h)

-- of a text in which a module ends after line e, and others after it
record Split (text : List ℕ) (e next : ℕ) (es : List ℕ) (ms : List ParsedTree) : Type 0 where
  pub first : ParsedTree
  pub others : List ParsedTree
  pub is : ms ≡ first ∷ map (moved e) others
  pub read_first : IsReadAs (first_lines (e + 1 - 1) text) (first ∷ [])
  pub rest : Lines
  pub lined : reading (after_lines (e + 1 - 1) text) ≡ Ok rest
  pub parsed : parse_of rest ≡ Ok others
  pub ends_after : map (λ k. k + e) (end_lines rest.lines) ≡ next ∷ es

record Headed (l : Line) (ls : List Line) (ss : List StatementTree) : Type 0 where
  pub head : StatementTree
  pub tail : List StatementTree
  pub is : ss ≡ head ∷ tail
  pub read : statement_of l ≡ Ok head
  pub others : AreRead ls tail

headed : (l : Line) (ls : List Line) (ss : List StatementTree) → AreRead (l ∷ ls) ss → Headed l ls ss
headed l ls [] h = absurd h
headed l ls (s ∷ ss) h = record { head = s; tail = ss; is = refl; read = h.first; others = h.others }

some-read : (ls : List Line) (ss : List StatementTree) (e : ℕ) (es : List ℕ) → AreRead ls ss → end_lines ls ≡ e ∷ es → is_none_of ss ≡ false
some-read [] ss e es h g = cc
some-read (l ∷ ls) [] e es h g = absurd h
some-read (l ∷ ls) (s ∷ ss) e es h g = refl

pub none-read : (ss : List StatementTree) → AreRead [] ss → ss ≡ []
none-read [] h = refl
none-read (s ∷ ss) h = absurd h

unmoved-none : (by : ℕ) (o : Option ℕ) → option_map (λ k. k + by) o ≡ None → o ≡ None
unmoved-none by None h = refl
unmoved-none by (Some k) h = cc

-- the statements of a text up to the first END, that END, and those after it
pub record Opening (lines : Lines) (ms : List ParsedTree) (e : ℕ) (es : List ℕ) : Type 0 where
  pub at : FirstEnd lines.lines e es
  pub fore : List StatementTree
  pub end : StatementTree
  pub post : List StatementTree
  pub read_fore : AreRead at.before fore
  pub read_end : statement_of at.end ≡ Ok end
  pub read_post : AreRead at.behind post
  pub inner : AllInner fore
  pub ends : ends_module end.phrase ≡ true
  pub of : FirstOf lines.closing fore end post ms
  pub calls : Uncalled fore end post

pub opening : (lines : Lines) (ms : List ParsedTree) (e : ℕ) (es : List ℕ) → parse_of lines ≡ Ok ms → end_lines lines.lines ≡ e ∷ es → Opening lines ms e es
opening lines ms e es h g =
    let f = first-end lines.lines e es g in
    let p = parsed lines ms h in
    let Q : List Line → Type 0 = λ xs. AreRead xs p.own in
    let q = in-parts f.before (f.end ∷ f.behind) p.own (subst Q f.is p.read) in
    let t = headed f.end f.behind q.aft q.read_aft in
    let whole : p.own ≡ q.fore ++ t.head ∷ t.tail = q.is ∙ ap (λ xs. q.fore ++ xs) t.is in
    let i = inner f.before q.fore f.inner q.read_fore in
    let en = ends f.end t.head f.ends t.read in
    record {
      at = f;
      fore = q.fore;
      end = t.head;
      post = t.tail;
      read_fore = q.read_fore;
      read_end = t.read;
      read_post = t.others;
      inner = i;
      ends = en;
      of = first-module lines.closing q.fore t.head t.tail ms i en (ap (modules_from lines.closing [] []) (sym whole) ∙ p.made);
      calls = first-uncalled q.fore t.head t.tail (all-inner q.fore i) en (ap empty_call_fault (sym whole) ∙ p.calls);
    }

closed : (b : Bool) (closing : List (List ℕ)) → b ≡ false → closing_at b closing ≡ []
closed true closing e = cc
closed false closing e = refl

split : (text : List ℕ) (lines : Lines) (ms : List ParsedTree) (e next : ℕ) (es : List ℕ) → reading text ≡ Ok lines → parse_of lines ≡ Ok ms → end_lines lines.lines ≡ e ∷ next ∷ es
    → Split text e next es ms
split text lines ms e next es h g z =
    let ls : List (List ℕ) = text_lines text in
    let d = lined text lines h in
    let o = opening lines ms e (next ∷ es) g z in
    let f = o.at in
    let c = cut_statement ls 1 f.before f.end f.behind (d.statements ∙ f.is) in
    let count = c.count in
    let last = f.last in
    let k : length c.front ≡ e + 1 - 1 = omega arith in
    let front : text_lines (first_lines (e + 1 - 1) text) ≡ c.front = ap (λ n. text_lines (first_lines n text)) (sym k) ∙ front-lines text c.front c.back c.whole in
    let back : text_lines (after_lines (e + 1 - 1) text) ≡ c.back = ap (λ n. text_lines (after_lines n text)) (sym k) ∙ back-lines text c.front c.back c.whole in
    let faultless : first_fault None 1 (c.front ++ c.back) ≡ None = ap (first_fault None 1) (sym c.whole) ∙ d.faultless in
    let own : module_read [] (o.fore ++ o.end ∷ []) ≡ Ok o.of.first =
    ap (λ x. module_read x (o.fore ++ o.end ∷ [])) (sym (closed (is_none_of o.post) lines.closing (some-read f.behind o.post next es o.read_post f.others))) ∙ o.of.own in
    let alone : Parsed [] (f.before ++ f.end ∷ []) (o.of.first ∷ []) = record {
      own = o.fore ++ o.end ∷ [];
      read = join-parts f.before (f.end ∷ []) o.fore (o.end ∷ []) o.read_fore (record { first = o.read_end; others = tt });
      calls = alone-uncalled o.fore o.end (all-inner o.fore o.inner) o.ends o.calls.own;
      made = up-to-end [] [] o.fore o.end [] o.inner o.ends ∙ ap (λ x. and_then x (λ p. modules_from [] (p ∷ []) [] [])) own;
    } in
    let r : Rest = rest_from 1 c.back in
    let n : 1 + e ≡ f.end.last + 1 = omega arith in
    let m : moved_rest e r ≡ given [] None [] f.behind (rest_from 1 ls).closing = sym (rest-moved e c.back 1) ∙ ap (λ x. rest_from x c.back) n ∙ c.back_gives in
    let statements : map (moved_line e) r.statements ≡ f.behind = ap (λ x. x.statements) m in
    let closing : r.closing ≡ lines.closing = ap (λ x. x.closing) m ∙ d.closing in
    let calm : r.last ≡ None = unmoved-none e r.last (ap (λ x. x.last) m) in
    let b = faultless-back c.front c.back None 1 faultless in
    let ended : ends_well f.behind ≡ true = ends-behind (f.end ∷ []) f.behind (ends-behind f.before (f.end ∷ f.behind) (ap ends_well (sym f.is) ∙ d.ended)) in
    let Q : List Line → Type 0 = λ xs. AreRead xs o.post in
    let u = unmoved e r.statements o.post (subst Q (sym statements) o.read_post) in
    let v = unmoved-modules e lines.closing u.own o.of.others (ap (modules_from lines.closing [] []) (sym u.is) ∙ o.of.made) in
    record {
      first = o.of.first;
      others = v.own;
      is = o.of.is ∙ ap (λ xs. o.of.first ∷ xs) (sym v.same);
      read_first = read-as (first_lines (e + 1 - 1) text) c.front (f.before ++ f.end ∷ []) [] (o.of.first ∷ []) front (faultless-front c.front c.back None 1 faultless)
          (ap (λ x. x.statements) c.front_gives) (ap (λ x. x.closing) c.front_gives) (ends_well-append f.before f.end ∙ f.ends) alone;
      rest = lines_in r;
      lined = read-lines (after_lines (e + 1 - 1) text) c.back back (faultless-anew c.back 1 b.0 None b.1 1 calm b.2)
          (sym (ends-well-moved e r.statements) ∙ ap ends_well statements ∙ ended);
      parsed = parse-again (lines_in r) v.own (record { own = u.own; read = u.read; calls = uncalled-moved e u.own (ap empty_call_fault (sym u.is) ∙ o.calls.behind); made = ap (λ x. modules_from x [] [] u.own) closing ∙ v.made });
      ends_after = sym (end-lines-moved e r.statements) ∙ ap end_lines statements ∙ f.others;
    }

-- ---- a text with one END, and one without

only : (ms : List ParsedTree) (m : ParsedTree) (others : List ParsedTree) (closing : List (List ℕ)) (post : List StatementTree) → ms ≡ m ∷ others → post ≡ []
    → modules_from closing [] [] post ≡ Ok others → ms ≡ m ∷ []
only ms m others closing post e n h =
    let none : Ok [] ≡ Ok others = sym (ap (modules_from closing [] []) n) ∙ h in
    let same : others ≡ [] = cc in
    e ∙ ap (λ xs. m ∷ xs) same

last-one : (text : List ℕ) (lines : Lines) (ms : List ParsedTree) (e : ℕ) → reading text ≡ Ok lines → parse_of lines ≡ Ok ms → end_lines lines.lines ≡ e ∷ []
    → AreOwn (piece 1 text ∷ []) ms
last-one text lines ms e h g z =
    let d = lined text lines h in
    let o = opening lines ms e [] g z in
    let f = o.at in
    let ended : ends_well f.behind ≡ true = ends-behind (f.end ∷ []) f.behind (ends-behind f.before (f.end ∷ f.behind) (ap ends_well (sym f.is) ∙ d.ended)) in
    let none : f.behind ≡ [] = none-left f.behind (no-end f.behind f.others) ended in
    let Q : List Line → Type 0 = λ xs. AreRead xs o.post in
    let post : o.post ≡ [] = none-read o.post (subst Q none o.read_post) in
    let is : ms ≡ o.of.first ∷ [] = only ms o.of.first o.of.others lines.closing o.post o.of.is post o.of.made in
    let P : List ParsedTree → Type 0 = λ xs. AreOwn (piece 1 text ∷ []) xs in
    subst P (sym is) (record {
      first = record { before = 0; first = refl; alone = o.of.first; read = record { lines = lines; lined = h; parsed = g ∙ ap Ok is }; same = still o.of.first };
      others = tt;
    })

without-end : (text : List ℕ) (lines : Lines) (ms : List ParsedTree) → reading text ≡ Ok lines → parse_of lines ≡ Ok ms → end_lines lines.lines ≡ [] → AreOwn [] ms
without-end text lines ms h g z =
    let d = lined text lines h in
    let p = parsed lines ms g in
    let none : lines.lines ≡ [] = none-left lines.lines (no-end lines.lines z) d.ended in
    let Q : List Line → Type 0 = λ xs. AreRead xs p.own in
    let own : p.own ≡ [] = none-read p.own (subst Q none p.read) in
    let same : Ok [] ≡ Ok ms = sym (ap (modules_from lines.closing [] []) own) ∙ p.made in
    let is : [] ≡ ms = cc in
    let P : List ParsedTree → Type 0 = λ xs. AreOwn [] xs in
    subst P is tt

-- ---- all of them

all-own : (n : ℕ) (es : List ℕ) (text : List ℕ) (lines : Lines) (ms : List ParsedTree) → length es ≡ n → reading text ≡ Ok lines → parse_of lines ≡ Ok ms → end_lines lines.lines ≡ es
    → AreOwn (cut_from 1 es text) ms
all-own n [] text lines ms k h g z = without-end text lines ms h g z
all-own n (e ∷ []) text lines ms k h g z = last-one text lines ms e h g z
all-own zero (e ∷ next ∷ es) text lines ms k h g z = absurd (omega arith)
all-own (suc n) (e ∷ next ∷ es) text lines ms k h g z =
    let s = split text lines ms e next es h g z in
    let rest : List ℕ = after_lines (e + 1 - 1) text in
    let after : List ℕ = end_lines s.rest.lines in
    let count : length after ≡ n = let x = length-map after (λ k. k + e) in let y = ap length s.ends_after in omega arith in
    let own = all-own n after rest s.rest s.others count s.lined s.parsed refl in
    let from : 1 + e ≡ e + 1 = omega arith in
    let cut : map (moved_piece e) (cut_from 1 after rest) ≡ cut_from (e + 1) (next ∷ es) rest =
    sym (cut-moved e 1 after rest) ∙ ap (λ k. cut_from k (map (λ k. k + e) after) rest) from ∙ ap (λ xs. cut_from (e + 1) xs rest) s.ends_after in
    let Q : List Piece → Type 0 = λ ps. AreOwn ps (map (moved e) s.others) in
    let P : List ParsedTree → Type 0 = λ xs. AreOwn (cut_from 1 (e ∷ next ∷ es) text) xs in
    subst P (sym s.is) (record {
      first = record { before = 0; first = refl; alone = s.first; read = s.read_first; same = still s.first };
      others = subst Q cut (own-moved e (cut_from 1 after rest) s.others own);
    })

pub pieces_are_modules : PiecesAreModules
unfolding pieces_of
pieces_are_modules text lines ms h g = as-said (cut_from 1 (end_lines lines.lines) text) ms (all-own (length (end_lines lines.lines)) (end_lines lines.lines) text lines ms refl h g refl)
