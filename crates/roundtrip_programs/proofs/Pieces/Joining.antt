-- Texts that are each read as one module are read as these modules when they are joined.
use Rattle.std.proofs.Common.{◌≡◌, ℕ, ◌+◌, List, [], ◌∷◌, ◌++◌, length, map, refl, ap, sym, ◌∙◌, subst, arith, append-nil, append_assoc, true}
use Rattle.std.specs.Prelude.{None, Ok}
use Rattle.fixed_form.specs.declared.line.Line.{Line}
use Rattle.fixed_form.specs.declared.line.Lines.{Lines}
use Rattle.fixed_form.specs.TextLines.{text_lines}
use Rattle.fixed_form.specs.Faults.{first_fault}
use Rattle.fixed_form.specs.Reading.{rest_from, ends_well, outcome, reading}
use Rattle.f77_ast.specs.declared.places.Spot.{Spot}
use Rattle.f77_ast.specs.DeclTrees.{ParsedTree}
use Rattle.f77_structure.specs.Lists.{is_none_of}
use Rattle.f77_parser.specs.Gives.{and_then}
use Rattle.f77_parser.specs.Statements.{StatementTree}
use Rattle.f77_parser.specs.Functions.{bounded_names}
use Rattle.f77_parser.specs.Ends.{ends_module, decls_to_end}
use Rattle.f77_parser.specs.References.{empty_call_fault}
use Rattle.roundtrip_programs.proofs.Assigned.{NoCalls, well-read, same-uncalled, both-uncalled, none-uncalled}
use Rattle.f77_parser.specs.Modules.{closing_at, module_read, modules_from, parse_of}
use Rattle.fixed_form.specs.Pieces.{end_lines, cut_from, pieces_of}
use Rattle.roundtrip_programs.specs.Texts.Texts.{IsReadAs}
use Rattle.roundtrip_programs.specs.Pieces.Moved.{moved_line, moved_spot, moved}
use Rattle.roundtrip_programs.specs.Pieces.Laws.{ArePiecesOf}
use Rattle.roundtrip_programs.specs.Pieces.Joined.{ended, joined_texts, before_spots, after_comments, unclosed, joined_from, JoinedAreRead}
use Rattle.roundtrip_programs.proofs.Pieces.Cutting.{given, calm-outer}
use Rattle.roundtrip_programs.proofs.Pieces.Counting.{moved_rest, rest-moved}
use Rattle.roundtrip_programs.proofs.Pieces.Parsing.{moved_statement, phrases-moved, moved_refused, result_map, modules-moved, AreRead, read-moved}
use Rattle.roundtrip_programs.proofs.Pieces.First.{no-end, none-left, ends-behind, lined, Parsed, parsed, join-parts, AllInner, all-inner, up-to-end, prefixed, modules-prefixed}
use Rattle.roundtrip_programs.proofs.Pieces.Pieces.{pieces_are_modules, ends-well-moved, still, twice, read-as, none-read, opening}
use Rattle.roundtrip_programs.proofs.Pieces.JoinedLines.{joined-lines, initial-first, faultless-join, after_line, both, both-rest, ends-join}
use Rattle.roundtrip_programs.proofs.Pieces.Fronted.{after_statement, read-after-comments, modules-after, closed-module}

-- ---- a text that is read as one module

-- its statements, of which END is the last
record Single (lines : Lines) (m : ParsedTree) : Type 0 where
  pub fore : List StatementTree
  pub end : StatementTree
  pub read : AreRead lines.lines (fore ++ end ∷ [])
  pub inner : AllInner fore
  pub ends : ends_module end.phrase ≡ true
  pub own : module_read lines.closing (fore ++ end ∷ []) ≡ Ok m
  pub calls : NoCalls (bounded_names (decls_to_end (fore ++ end ∷ []))) (fore ++ end ∷ [])

one-end : (es text : List ℕ) (m : ParsedTree) → ArePiecesOf (cut_from 1 es text) (m ∷ []) → (e : ℕ) × (es ≡ e ∷ [])
one-end [] text m h = absurd h
one-end (e ∷ []) text m h = (e, refl)
one-end (e ∷ next ∷ es) text m h = absurd h.1

own-of : (post : List StatementTree) (closing : List (List ℕ)) (ss : List StatementTree) (m : ParsedTree) → post ≡ [] → module_read (closing_at (is_none_of post) closing) ss ≡ Ok m → module_read closing ss ≡ Ok m
own-of [] closing ss m e h = h
own-of (s ∷ post) closing ss m e h = cc

single : (text : List ℕ) (lines : Lines) (m : ParsedTree) → reading text ≡ Ok lines → parse_of lines ≡ Ok (m ∷ []) → Single lines m
unfolding pieces_of
single text lines m h g =
    let pieces : ArePiecesOf (cut_from 1 (end_lines lines.lines) text) (m ∷ []) = pieces_are_modules text lines (m ∷ []) h g in
    let one = one-end (end_lines lines.lines) text m pieces in
    let d = lined text lines h in
    let o = opening lines (m ∷ []) one.0 [] g one.1 in
    let f = o.at in
    let ended_so : ends_well f.behind ≡ true = ends-behind (f.end ∷ []) f.behind (ends-behind f.before (f.end ∷ f.behind) (ap ends_well (sym f.is) ∙ d.ended)) in
    let none : f.behind ≡ [] = none-left f.behind (no-end f.behind f.others) ended_so in
    let Q : List Line → Type 0 = λ xs. AreRead xs o.post in
    let post : o.post ≡ [] = none-read o.post (subst Q none o.read_post) in
    let is : m ∷ [] ≡ o.of.first ∷ o.of.others = o.of.is in
    let first : o.of.first ≡ m = cc in
    let whole : f.before ++ f.end ∷ [] ≡ lines.lines = ap (λ xs. f.before ++ f.end ∷ xs) (sym none) ∙ sym f.is in
    let P : List Line → Type 0 = λ xs. AreRead xs (o.fore ++ o.end ∷ []) in
    record {
      fore = o.fore;
      end = o.end;
      read = subst P whole (join-parts f.before (f.end ∷ []) o.fore (o.end ∷ []) o.read_fore (record { first = o.read_end; others = tt }));
      inner = o.inner;
      ends = o.ends;
      own = own-of o.post lines.closing (o.fore ++ o.end ∷ []) m post (o.of.own ∙ ap Ok first);
      calls = o.calls.own;
    }

-- ---- two texts

-- modules behind so many lines and these comments
abbrev pub fronted : List (List ℕ) → ℕ → List ParsedTree → List ParsedTree
fronted comments by [] = []
fronted comments by (m ∷ ms) = after_comments comments (moved by m) ∷ map (moved by) ms

ends-after : (comments : List (List ℕ)) (s : Line) (ss : List Line) → ends_well (after_line comments s ∷ ss) ≡ ends_well (s ∷ ss)
ends-after comments s [] = refl
ends-after comments s (t ∷ ss) = refl

-- the statements of the second text
record Second (by : ℕ) (comments closing : List (List ℕ)) (l : Line) (ls : List Line) (ms : List ParsedTree) : Type 0 where
  pub first : StatementTree
  pub others : List StatementTree
  pub read : AreRead (after_line comments (moved_line by l) ∷ map (moved_line by) ls) (first ∷ others)
  pub calls : empty_call_fault (first ∷ others) ≡ None
  pub made : modules_from closing [] [] (first ∷ others) ≡ Ok (fronted comments by ms)

no-modules : {P : Type 0} (closing : List (List ℕ)) (m : ParsedTree) (ms : List ParsedTree) → modules_from closing [] [] [] ≡ Ok (m ∷ ms) → P
no-modules closing m ms h = cc

second-by : (by : ℕ) (comments closing : List (List ℕ)) (l : Line) (ls : List Line) (m : ParsedTree) (ms : List ParsedTree) (ss : List StatementTree) → AreRead (l ∷ ls) ss → empty_call_fault ss ≡ None
    → modules_from closing [] [] ss ≡ Ok (m ∷ ms) → Second by comments closing l ls (m ∷ ms)
second-by by comments closing l ls m ms [] h c g = absurd h
second-by by comments closing l ls m ms (s ∷ ss) h c g =
    let r = read-moved by (l ∷ ls) (s ∷ ss) h in record {
      first = after_statement comments (moved_statement by s);
      others = map (moved_statement by) ss;
      read = record { first = read-after-comments comments (moved_line by l) (moved_statement by s) r.first; others = r.others };
      calls = same-uncalled (s ∷ ss) (after_statement comments (moved_statement by s) ∷ map (moved_statement by) ss) (ap (λ ps. s.phrase ∷ ps) (sym (phrases-moved by ss))) c;
      made = modules-after comments closing (moved_statement by s) (map (moved_statement by) ss) (moved by m) (map (moved by) ms)
          (modules-moved by closing [] [] (s ∷ ss) ∙ ap (result_map (map (moved by)) (moved_refused by)) g);
    }

-- the first text's statements, then those of the second
joined-parsed : (closing own : List (List ℕ)) (one : List Line) (fore : List StatementTree) (end : StatementTree) (m : ParsedTree) (two : List Line) (s : StatementTree) (ss : List StatementTree) (ms : List ParsedTree)
    → AreRead one (fore ++ end ∷ []) → AllInner fore → ends_module end.phrase ≡ true → NoCalls (bounded_names (decls_to_end (fore ++ end ∷ []))) (fore ++ end ∷ []) → module_read own (fore ++ end ∷ []) ≡ Ok m → AreRead two (s ∷ ss) → empty_call_fault (s ∷ ss) ≡ None → modules_from closing [] [] (s ∷ ss) ≡ Ok ms
    → Parsed closing (one ++ two) (unclosed m ∷ ms)
joined-parsed closing own one fore end m two s ss ms r i e k h q d g =
    let c = closed-module own (fore ++ end ∷ []) m h in
    record {
      own = (fore ++ end ∷ []) ++ s ∷ ss;
      read = join-parts one two (fore ++ end ∷ []) (s ∷ ss) r q;
      calls = ap empty_call_fault (append_assoc fore (end ∷ []) (s ∷ ss)) ∙ both-uncalled fore end (s ∷ ss) (all-inner fore i) e k d;
      made = ap (modules_from closing [] []) (append_assoc fore (end ∷ []) (s ∷ ss))
          ∙ up-to-end closing [] fore end (s ∷ ss) i e
          ∙ ap (λ x. and_then x (λ p. modules_from closing (p ∷ []) [] (s ∷ ss))) c.unclosed_read
          ∙ modules-prefixed closing (unclosed m ∷ []) [] (s ∷ ss)
          ∙ ap (prefixed (unclosed m ∷ [])) g;
    }

closing-of : (text : List ℕ) (lines : Lines) (m : ParsedTree) → reading text ≡ Ok lines → parse_of lines ≡ Ok (m ∷ []) → lines.closing ≡ m.places.closing
closing-of text lines m h g =
    let s = single text lines m h g in
    let c = closed-module lines.closing (s.fore ++ s.end ∷ []) m s.own in
    sym c.closing_is

two-by : (text more : List ℕ) (m n : ParsedTree) (ns : List ParsedTree) (one two : Lines) (l : Line) (ls : List Line) → reading text ≡ Ok one → parse_of one ≡ Ok (m ∷ [])
    → reading more ≡ Ok two → parse_of two ≡ Ok (n ∷ ns) → two.lines ≡ l ∷ ls
    → IsReadAs (ended text ++ more) (unclosed m ∷ fronted one.closing (length (text_lines text)) (n ∷ ns))
two-by text more m n ns one two l ls h g x y z =
    let xs : List (List ℕ) = text_lines text in
    let ys : List (List ℕ) = text_lines more in
    let by : ℕ = length xs in
    let d = lined text one h in
    let e = lined more two x in
    let calm : (rest_from 1 ys).last ≡ None = initial-first ys 1 1 e.faultless in
    let plain : rest_from 1 ys ≡ given [] None [] (l ∷ ls) two.closing =
    calm-outer 1 ys calm ∙ ap (λ ss. given [] None [] ss (rest_from 1 ys).closing) (e.statements ∙ z) ∙ ap (given [] None [] (l ∷ ls)) e.closing in
    let on : rest_from (1 + by) ys ≡ given [] None [] (moved_line by l ∷ map (moved_line by) ls) two.closing = rest-moved by ys 1 ∙ ap (moved_rest by) plain in
    let whole : rest_from 1 (xs ++ ys) ≡ both (rest_from 1 xs) (moved_line by l) (map (moved_line by) ls) two.closing =
    both-rest xs ys 1 (moved_line by l) (map (moved_line by) ls) two.closing on in
    let ss : List Line = one.lines ++ after_line one.closing (moved_line by l) ∷ map (moved_line by) ls in
    let statements : (rest_from 1 (xs ++ ys)).statements ≡ ss =
    ap (λ r. r.statements) whole ∙ ap (λ k. k ++ after_line (rest_from 1 xs).closing (moved_line by l) ∷ map (moved_line by) ls) d.statements
    ∙ ap (λ k. one.lines ++ after_line k (moved_line by l) ∷ map (moved_line by) ls) d.closing in
    let ends_so : ends_well (l ∷ ls) ≡ true = ap ends_well (sym z) ∙ e.ended in
    let s = single text one m h g in
    let p = parsed two (n ∷ ns) y in
    let Q : List Line → Type 0 = λ k. AreRead k p.own in
    let q = second-by by one.closing two.closing l ls n ns p.own (subst Q z p.read) p.calls p.made in
    read-as (ended text ++ more) (xs ++ ys) ss two.closing (unclosed m ∷ fronted one.closing by (n ∷ ns)) (joined-lines text more)
    (faultless-join xs ys None None 1 1 1 d.faultless e.faultless calm) statements (ap (λ r. r.closing) whole)
    (ends-join one.lines (after_line one.closing (moved_line by l)) (map (moved_line by) ls) (ends-after one.closing (moved_line by l) (map (moved_line by) ls) ∙ ends-well-moved by (l ∷ ls) ∙ ends_so))
    (joined-parsed two.closing one.closing one.lines s.fore s.end m (after_line one.closing (moved_line by l) ∷ map (moved_line by) ls) q.first q.others (fronted one.closing by (n ∷ ns))
    s.read s.inner s.ends s.calls s.own q.read q.calls q.made)

some-lines : (ls : List Line) (two : Lines) (n : ParsedTree) (ns : List ParsedTree) (P : Type 0) → two.lines ≡ ls → parse_of two ≡ Ok (n ∷ ns) → ((l : Line) (rest : List Line) → two.lines ≡ l ∷ rest → P) → P
some-lines [] two n ns P e h f =
    let p = parsed two (n ∷ ns) h in
    let Q : List Line → Type 0 = λ k. AreRead k p.own in
    no-modules two.closing n ns (ap (modules_from two.closing [] []) (sym (none-read p.own (subst Q e p.read))) ∙ p.made)
some-lines (l ∷ ls) two n ns P e h f = f l ls e

pub two-texts : (text more : List ℕ) (m n : ParsedTree) (ns : List ParsedTree) → IsReadAs text (m ∷ []) → IsReadAs more (n ∷ ns)
    → IsReadAs (ended text ++ more) (unclosed m ∷ fronted m.places.closing (length (text_lines text)) (n ∷ ns))
two-texts text more m n ns a b =
    let to : List ParsedTree = unclosed m ∷ fronted m.places.closing (length (text_lines text)) (n ∷ ns) in
    let R : List (List ℕ) → Type 0 = λ c. IsReadAs (ended text ++ more) (unclosed m ∷ fronted c (length (text_lines text)) (n ∷ ns)) in
    some-lines b.lines.lines b.lines n ns (IsReadAs (ended text ++ more) to) refl b.parsed
    (λ l ls e. subst R (closing-of text a.lines m a.lined a.parsed) (two-by text more m n ns a.lines b.lines l ls a.lined a.parsed b.lined b.parsed e))

-- ---- the modules of joined texts

spots-plain : (qs : List Spot) → before_spots [] qs ≡ qs
spots-plain [] = refl
spots-plain (q ∷ qs) = refl

plain : (m : ParsedTree) → after_comments [] m ≡ m
plain m = ap (λ qs. record m { places = record m.places { spots = qs } }) (spots-plain m.places.spots)

spots-moved-after : (comments : List (List ℕ)) (by : ℕ) (qs : List Spot) → map (moved_spot by) (before_spots comments qs) ≡ before_spots comments (map (moved_spot by) qs)
spots-moved-after comments by [] = refl
spots-moved-after comments by (q ∷ qs) = refl

moved-after : (comments : List (List ℕ)) (by : ℕ) (m : ParsedTree) → moved by (after_comments comments m) ≡ after_comments comments (moved by m)
moved-after comments by m = ap (λ qs. record m { places = record m.places { spots = qs } }) (spots-moved-after comments by m.places.spots)

on-after : (comments : List (List ℕ)) (a b : ℕ) (m : ParsedTree) → moved b (after_comments comments (moved a m)) ≡ after_comments comments (moved (a + b) m)
on-after comments a b m = moved-after comments b (moved a m) ∙ ap (after_comments comments) (twice a b m)

joined-moved : (comments : List (List ℕ)) (a b : ℕ) (ts : List (List ℕ)) (ms : List ParsedTree) → map (moved b) (joined_from comments a ts ms) ≡ joined_from comments (a + b) ts ms
joined-moved comments a b [] ms = refl
joined-moved comments a b (t ∷ ts) [] = refl
joined-moved comments a b (t ∷ []) (m ∷ ms) = ap (λ x. x ∷ []) (on-after comments a b m)
joined-moved comments a b (t ∷ u ∷ ts) (m ∷ ms) =
    let e : a + length (text_lines t) + b ≡ a + b + length (text_lines t) = omega arith in
    ap (λ x. unclosed x ∷ map (moved b) (joined_from m.places.closing (a + length (text_lines t)) (u ∷ ts) ms)) (on-after comments a b m)
    ∙ ap (λ xs. unclosed (after_comments comments (moved (a + b) m)) ∷ xs)
    (joined-moved m.places.closing (a + length (text_lines t)) b (u ∷ ts) ms ∙ ap (λ k. joined_from m.places.closing k (u ∷ ts) ms) e)

front-again : (comments : List (List ℕ)) (a b : ℕ) (m : ParsedTree) → after_comments comments (moved b (after_comments [] (moved a m))) ≡ after_comments comments (moved (a + b) m)
front-again comments a b m = ap (after_comments comments) (on-after [] a b m ∙ plain (moved (a + b) m))

joined-fronted : (comments : List (List ℕ)) (a b : ℕ) (ts : List (List ℕ)) (ms : List ParsedTree) → fronted comments b (joined_from [] a ts ms) ≡ joined_from comments (a + b) ts ms
joined-fronted comments a b [] ms = refl
joined-fronted comments a b (t ∷ ts) [] = refl
joined-fronted comments a b (t ∷ []) (m ∷ ms) = ap (λ x. x ∷ []) (front-again comments a b m)
joined-fronted comments a b (t ∷ u ∷ ts) (m ∷ ms) =
    let e : a + length (text_lines t) + b ≡ a + b + length (text_lines t) = omega arith in
    ap (λ x. unclosed x ∷ map (moved b) (joined_from m.places.closing (a + length (text_lines t)) (u ∷ ts) ms)) (front-again comments a b m)
    ∙ ap (λ xs. unclosed (after_comments comments (moved (a + b) m)) ∷ xs)
    (joined-moved m.places.closing (a + length (text_lines t)) b (u ∷ ts) ms ∙ ap (λ k. joined_from m.places.closing k (u ∷ ts) ms) e)

-- ---- all of them

-- texts with the same lines are read as the same
same-lines : (text more : List ℕ) (ms : List ParsedTree) → text_lines more ≡ text_lines text → IsReadAs text ms → IsReadAs more ms
unfolding reading
same-lines text more ms e r = record {
  lines = r.lines;
  lined = ap (λ ls. outcome (first_fault None 1 ls) (length ls) (rest_from 1 ls)) e ∙ r.lined;
  parsed = r.parsed;
}

nothing : IsReadAs [] []
unfolding reading first_fault rest_from parse_of
nothing = record { lines = record { lines = []; closing = [] }; lined = refl; parsed = ap (λ r. and_then r (λ ss. modules_from [] [] [] ss)) (well-read [] [] refl none-uncalled) }

heads : (comments : List (List ℕ)) (by : ℕ) (t : List ℕ) (ts : List (List ℕ)) (m : ParsedTree) (ms : List ParsedTree) → (n : ParsedTree) × (ns : List ParsedTree) × (joined_from comments by (t ∷ ts) (m ∷ ms) ≡ n ∷ ns)
heads comments by t [] m ms = (after_comments comments (moved by m), [], refl)
heads comments by t (u ∷ ts) m ms = (unclosed (after_comments comments (moved by m)), joined_from m.places.closing (by + length (text_lines t)) (u ∷ ts) ms, refl)

pub joined_are_read : JoinedAreRead
joined_are_read [] [] h = nothing
joined_are_read [] (m ∷ ms) h = absurd h
joined_are_read (t ∷ ts) [] h = absurd h
joined_are_read (t ∷ []) (m ∷ []) h =
    let one : after_comments [] (moved 0 m) ≡ m = plain (moved 0 m) ∙ still m in
    let P : ParsedTree → Type 0 = λ x. IsReadAs (ended t ++ []) (x ∷ []) in
    subst P (sym one) (same-lines t (ended t ++ []) (m ∷ []) (joined-lines t [] ∙ append-nil (text_lines t)) h.0)
joined_are_read (t ∷ []) (m ∷ n ∷ ms) h = absurd h.1
joined_are_read (t ∷ u ∷ ts) (m ∷ []) h = absurd h.1
joined_are_read (t ∷ u ∷ ts) (m ∷ n ∷ ms) h =
    let rest = joined_are_read (u ∷ ts) (n ∷ ms) h.1 in
    let k = heads [] 0 u ts n ms in
    let by : ℕ = length (text_lines t) in
    let P : List ParsedTree → Type 0 = λ xs. IsReadAs (joined_texts (u ∷ ts)) xs in
    let R : List ParsedTree → Type 0 = λ xs. IsReadAs (joined_texts (t ∷ u ∷ ts)) xs in
    let zero-on : 0 + by ≡ by = omega arith in
    let is : unclosed m ∷ fronted m.places.closing by (k.0 ∷ k.1) ≡ joined_from [] 0 (t ∷ u ∷ ts) (m ∷ n ∷ ms) =
    ap (λ xs. unclosed m ∷ fronted m.places.closing by xs) (sym k.2)
    ∙ ap (λ xs. unclosed m ∷ xs) (joined-fronted m.places.closing 0 by (u ∷ ts) (n ∷ ms))
    ∙ ap (λ x. unclosed x ∷ joined_from m.places.closing (0 + by) (u ∷ ts) (n ∷ ms)) (sym (plain (moved 0 m) ∙ still m)) in
    subst R is (two-texts t (joined_texts (u ∷ ts)) m k.0 k.1 h.0 (subst P k.2 rest))
