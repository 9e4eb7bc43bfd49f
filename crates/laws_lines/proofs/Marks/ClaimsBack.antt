-- The claims of a written text stand before the parts before which they were written.
use Rattle.std.proofs.Common.{◌≡◌, ℕ, ◌+◌, ◌<◌, ◌≤◌, Bool, true, false, List, [], ◌∷◌, ◌++◌, length, map, refl, sym, ap, ◌∙◌, subst, append_assoc, append-nil, arith, Option, Some, None, if◌then◌else◌}
use Rattle.std.specs.Prelude.{nat_eq, nat_lt, codes, drop}
use Rattle.std.specs.List.{AllByRecursion, flat_map, starts_with}
use Rattle.std.proofs.lemmas.Bool.{or_parts}
use Rattle.std.proofs.lemmas.Bool.Decides.{Decides-ltb}
use Rattle.f77_ast.specs.declared.places.Part.{Part}
use Rattle.f77_ast.specs.declared.places.Part.TheVariants as parts
use Rattle.f77_ast.specs.declared.places.Spot.{Spot}
use Rattle.f77_ast.specs.Trees.{StmtTrees, stmt, no_stmts, more_stmts}
use Rattle.f77_ast.specs.DeclTrees.{DeclTree, ModuleTree, ParsedTree}
use Rattle.f77_parser.specs.SoFar.{spot}
use Rattle.f77_printer.specs.declared.added.Added.{Added}
use Rattle.f77_printer.specs.AddedText.{part_of}
use Rattle.f77_printer.specs.ModuleText.{has_title, first_in, first_below, first_part}
use Rattle.f77_printer.specs.PageText.{is_part}
use Rattle.laws_programs.specs.roundtrip_programs.Cards.Cards.{kept}
use Rattle.laws_programs.specs.roundtrip_programs.Statements.Formed.{Each}
use Rattle.laws_programs.specs.roundtrip_programs.Statements.Written.{phrase_text}
use Rattle.laws_programs.specs.roundtrip_programs.ModuleTexts.Cards.{Card, statements_of}
use Rattle.laws_programs.specs.roundtrip_programs.ModuleTexts.Page.{comments_at, spots_behind, inner_comments, behind}
use Rattle.laws_programs.specs.roundtrip_programs.Texts.Texts.{modules_text}
use Rattle.laws_programs.specs.roundtrip_programs.Texts.Laws.{AllPassedOver}
use Rattle.laws_programs.proofs.RoundtripPrograms.Texts.Read.{AreParsed, all-parsed}
use Rattle.laws_programs.proofs.RoundtripPrograms.Texts.Rows.{Row, added_lines, lines_at, row_of, rows_of, module_rows, all_rows, last_closing}
use Rattle.laws_programs.proofs.RoundtripPrograms.Texts.RowsBack.{IsRow, line_behind, lines_behind, read_rows}
use Rattle.laws_programs.proofs.RoundtripPrograms.Texts.Sources.{AreKept}
use Rattle.laws_programs.proofs.RoundtripPrograms.Texts.SpotsKept.{SpotsKept, comments-kept, behind-kept, inner-kept, inner-behind}
use Rattle.laws_programs.proofs.RoundtripPrograms.Texts.Standing.{spots_of, inner_spots, built-spots}
use Rattle.laws_programs.proofs.RoundtripPrograms.Texts.Whole.{IsSound, plain, all-sound, all-rows, closing-kept, all-text, again_of, all_again, again-written, parsed-back}
use Rattle.system_text.specs.Reading.{Bytes}
use Rattle.laws_lines.specs.Marks.ClaimsRead.{is_claim, Claim, claims_from, claims_in, Standing, taken_by, standing, all_standing, claims_at, claims_added, ClaimsBack}
use Rattle.laws_lines.specs.Marks.ClaimLaws.{ClaimsReadBack}
use Rattle.laws_lines.proofs.Marks.Rows.{AreOthers, rows_count}
use Rattle.laws_lines.proofs.Marks.Found.{own_rows, lines_of_rows, own_others, lines_are, row_count}
use Rattle.fx_lists.proofs.Numbers.{below_is}

-- ---- claims among lines

abbrev NoClaims : List Bytes → Type 0
NoClaims ls = AllByRecursion (λ (l : Bytes). is_claim l ≡ false) ls

others_none : (ls : List Bytes) → AreOthers ls → NoClaims ls
others_none [] h = tt
others_none (l ∷ ls) h = (h.0.no_claim, others_none ls h.1)

kept_none : (ls : List Bytes) → AreKept ls → NoClaims ls
kept_none [] h = tt
kept_none (l ∷ ls) h = ((or_parts (starts_with nat_eq l (codes "C>")) (starts_with nat_eq (drop 1 l) (codes "$")) h.first.not_dropped).0, kept_none ls h.others)

append_by : (b : Bool) (c : Claim) (xs ys zs : List Claim) → zs ≡ xs ++ ys → (if b then c ∷ zs else zs) ≡ (if b then c ∷ xs else xs) ++ ys
append_by true c xs ys zs e = ap (λ (x : List Claim). c ∷ x) e
append_by false c xs ys zs e = e

claims_append : (xs ys : List Bytes) (n : ℕ) → claims_from n (xs ++ ys) ≡ claims_from n xs ++ claims_from (n + length xs) ys
claims_append [] ys n = let e : n ≡ n + 0 = omega arith in ap (λ (k : ℕ). claims_from k ys) e
claims_append (x ∷ xs) ys n =
    let e : (n + 1) + length xs ≡ n + length (x ∷ xs) = omega arith in
    append_by (is_claim x) (record { line = n; text = x }) (claims_from (n + 1) xs) (claims_from (n + length (x ∷ xs)) ys) (claims_from (n + 1) (xs ++ ys))
    (claims_append xs ys (n + 1) ∙ ap (λ (k : ℕ). claims_from (n + 1) xs ++ claims_from k ys) e)

none_there : (ls : List Bytes) (n : ℕ) → NoClaims ls → claims_from n ls ≡ []
none_there [] n h = refl
none_there (l ∷ ls) n h = ap (λ (b : Bool). if b then record { line = n; text = l } ∷ claims_from (n + 1) ls else claims_from (n + 1) ls) h.0 ∙ none_there ls (n + 1) h.1

-- ---- the claims of statements, each with the lines before it

abbrev row_claims : ℕ → List Row → List Claim
row_claims n [] = []
row_claims n (r ∷ rs) = claims_from n r.comments ++ row_claims (line_behind n r) rs

row_claims_append : (xs ys : List Row) (n : ℕ) → row_claims n (xs ++ ys) ≡ row_claims n xs ++ row_claims (lines_behind n xs) ys
row_claims_append [] ys n = refl
row_claims_append (x ∷ xs) ys n =
    ap (λ (cs : List Claim). claims_from n x.comments ++ cs) (row_claims_append xs ys (line_behind n x))
    ∙ sym (append_assoc (claims_from n x.comments) (row_claims (line_behind n x) xs) (row_claims (lines_behind (line_behind n x) xs) ys))

rows_claims : (rs : List Row) (closing : List Bytes) (n : ℕ) → Each IsRow rs → NoClaims closing → claims_from n (lines_of_rows rs closing) ≡ row_claims n rs
rows_claims [] closing n g h = none_there closing n h
rows_claims (r ∷ rs) closing n g h =
    let own = own_rows r in
    let more = lines_of_rows rs closing in
    let k = n + length r.comments in
    let count : k + length own ≡ line_behind n r = ap (λ (j : ℕ). k + j) (rows_count r.label (phrase_text r.phrase)) ∙ row_count n r in
    claims_append r.comments (own ++ more) n
    ∙ ap (λ (cs : List Claim). claims_from n r.comments ++ cs)
    (claims_append own more k
    ∙ ap (λ (cs : List Claim). cs ++ claims_from (k + length own) more) (none_there own k (others_none own (own_others r g.first)))
    ∙ ap (λ (j : ℕ). claims_from j more) count
    ∙ rows_claims rs closing (line_behind n r) g.others h)

-- ---- where they stand

-- the first of these claims is in this line or behind it
abbrev IsFrom : ℕ → List Claim → Type 0
IsFrom k [] = Unit {0}
IsFrom k (c ∷ cs) = k ≤ c.line

from_less : (cs : List Claim) (k n : ℕ) → n ≤ k → IsFrom k cs → IsFrom n cs
from_less [] k n l h = tt
from_less (c ∷ cs) k n l h = omega (arith, l, h)

from_by : (b : Bool) (n : ℕ) (l : Bytes) (cs more : List Claim) → IsFrom n (cs ++ more) → IsFrom n ((if b then record { line = n; text = l } ∷ cs else cs) ++ more)
from_by true n l cs more h = omega arith
from_by false n l cs more h = h

claims_behind : (ls : List Bytes) (n : ℕ) (more : List Claim) → IsFrom (n + length ls) more → IsFrom n (claims_from n ls ++ more)
claims_behind [] n more h = from_less more (n + 0) n (omega arith) h
claims_behind (l ∷ ls) n more h =
    let e : n + length (l ∷ ls) ≡ (n + 1) + length ls = omega arith in
    from_by (is_claim l) n l (claims_from (n + 1) ls) more
    (from_less (claims_from (n + 1) ls ++ more) (n + 1) n (omega arith) (claims_behind ls (n + 1) more (subst (λ (k : ℕ). IsFrom k more) e h)))

line_less : (n : ℕ) (r : Row) → n + length r.comments < line_behind n r
line_less n r = omega arith

rows_behind : (rs : List Row) (n : ℕ) (rest : List Claim) → IsFrom (lines_behind n rs) rest → IsFrom n (row_claims n rs ++ rest)
rows_behind [] n rest h = h
rows_behind (r ∷ rs) n rest h =
    let k = line_behind n r in
    let l = line_less n r in
    let later : IsFrom k (row_claims k rs ++ rest) = rows_behind rs k rest h in
    subst (IsFrom n) (sym (append_assoc (claims_from n r.comments) (row_claims k rs) rest))
    (claims_behind r.comments n (row_claims k rs ++ rest) (from_less (row_claims k rs ++ rest) k (n + length r.comments) (omega (arith, l)) later))

-- the claims among lines, before a part
abbrev claims_of : Part → List Bytes → List Standing
claims_of part [] = []
claims_of part (l ∷ ls) = if is_claim l then record { part = part; text = l } ∷ claims_of part ls else claims_of part ls

standing_by : (b : Bool) (s : Standing) (xs ys zs : List Standing) → zs ≡ xs ++ ys → (if b then s ∷ zs else zs) ≡ (if b then s ∷ xs else xs) ++ ys
standing_by true s xs ys zs e = ap (λ (x : List Standing). s ∷ x) e
standing_by false s xs ys zs e = e

of_both : (part : Part) (xs ys : List Bytes) → claims_of part (xs ++ ys) ≡ claims_of part xs ++ claims_of part ys
of_both part [] ys = refl
of_both part (x ∷ xs) ys = standing_by (is_claim x) (record { part = part; text = x }) (claims_of part xs) (claims_of part ys) (claims_of part (xs ++ ys)) (of_both part xs ys)

of_none : (part : Part) (ls : List Bytes) → NoClaims ls → claims_of part ls ≡ []
of_none part [] h = refl
of_none part (l ∷ ls) h = ap (λ (b : Bool). if b then record { part = part; text = l } ∷ claims_of part ls else claims_of part ls) h.0 ∙ of_none part ls h.1

of_middle : (part : Part) (a b c : List Bytes) → NoClaims a → NoClaims c → claims_of part ((a ++ b) ++ c) ≡ claims_of part b
of_middle part a b c p q =
    of_both part (a ++ b) c
    ∙ ap (λ (x : List Standing). x ++ claims_of part c) (of_both part a b ∙ ap (λ (x : List Standing). x ++ claims_of part b) (of_none part a p))
    ∙ ap (λ (x : List Standing). claims_of part b ++ x) (of_none part c q)
    ∙ append-nil (claims_of part b)

not_below : (b : Bool) (x y : ℕ) → nat_lt x y ≡ b → y ≤ x → b ≡ false
not_below true x y e l = let m = (Decides-ltb x y).0 e in absurd (omega (arith, l, m))
not_below false x y e l = refl

none_taken : (part : Part) (f : ℕ) (cs : List Claim) → IsFrom f cs → taken_by part f cs ≡ ([], cs)
none_taken part f [] h = refl
none_taken part f (c ∷ cs) h =
    ap (λ (b : Bool). if b then (record { part = part; text = c.text } ∷ (taken_by part f cs).0, (taken_by part f cs).1) else ([], c ∷ cs)) (not_below (nat_lt c.line f) c.line f refl h)

abbrev with_one : Bool → Part → Bytes → List Standing → List Claim → List Standing × List Claim
with_one b part l own later = ((if b then record { part = part; text = l } ∷ own else own), later)

taken_one : (b : Bool) (part : Part) (f n : ℕ) (l : Bytes) (cs later : List Claim) (own : List Standing) → n < f → taken_by part f (cs ++ later) ≡ (own, later)
    → taken_by part f ((if b then record { line = n; text = l } ∷ cs else cs) ++ later) ≡ with_one b part l own later
taken_one true part f n l cs later own h e =
    ap (λ (b : Bool). if b then (record { part = part; text = l } ∷ (taken_by part f (cs ++ later)).0, (taken_by part f (cs ++ later)).1) else ([], record { line = n; text = l } ∷ (cs ++ later))) (below_is n f h)
    ∙ ap (λ (x : List Standing × List Claim). (record { part = part; text = l } ∷ x.0, x.1)) e
taken_one false part f n l cs later own h e = e

all_taken : (part : Part) (f : ℕ) (ls : List Bytes) (n : ℕ) (later : List Claim) → n + length ls ≤ f → IsFrom f later → taken_by part f (claims_from n ls ++ later) ≡ (claims_of part ls, later)
all_taken part f [] n later l h = none_taken part f later h
all_taken part f (x ∷ xs) n later l h =
    let less : n < f = omega (arith, l) in
    let more : (n + 1) + length xs ≤ f = omega (arith, l) in
    taken_one (is_claim x) part f n x (claims_from (n + 1) xs) later (claims_of part xs) less (all_taken part f xs (n + 1) later more h)

-- ---- statements

-- the claims that are added before these statements
abbrev cards_claims : (Part → List Bytes) → List Card → List Standing
cards_claims added cs = flat_map (λ (c : Card). claims_of c.part (lines_at added c.part)) cs

inner_none : (f : ℕ) (part : Option Part) (ss : List Spot) (cs : List Claim) → IsFrom f cs → standing (inner_spots f part ++ ss) cs ≡ standing ss cs
unfolding standing
inner_none f None ss cs h = refl
inner_none f (Some part) ss cs h =
    ap (λ (x : List Standing × List Claim). (x.0 ++ (standing ss x.1).0, (standing ss x.1).1)) (none_taken part f cs h)

stand_first : (part : Part) (f : ℕ) (kept_lines : List Bytes) (inner : Option Part) (ss : List Spot) (cs later : List Claim) (own : List Standing) → taken_by part f cs ≡ (own, later) → IsFrom f later
    → standing ((spot part f kept_lines ∷ inner_spots f inner) ++ ss) cs ≡ (own ++ (standing ss later).0, (standing ss later).1)
unfolding standing
stand_first part f kept_lines inner ss cs later own e h =
    ap (λ (x : List Standing × List Claim). (x.0 ++ (standing (inner_spots f inner ++ ss) x.1).0, (standing (inner_spots f inner ++ ss) x.1).1)) e
    ∙ ap (λ (x : List Standing × List Claim). (own ++ x.0, x.1)) (inner_none f inner ss later h)

stand_rows : (added : Part → List Bytes) (spots : List Spot) (cs : List Card) (n : ℕ) (rest : List Claim) → SpotsKept spots → IsFrom (lines_behind n (rows_of added spots cs)) rest
    → standing (spots_of cs (read_rows n (rows_of added spots cs))) (row_claims n (rows_of added spots cs) ++ rest) ≡ (cards_claims added cs, rest)
unfolding standing
stand_rows added spots [] n rest k h = refl
stand_rows added spots (c ∷ cs) n rest k h =
    let r = row_of added spots c in
    let f : ℕ = n + length r.comments in
    let j = line_behind n r in
    let later = rows_of added (behind c spots) cs in
    let tail = row_claims j later ++ rest in
    let ss = spots_of cs (read_rows j later) in
    let l = line_less n r in
    let left = behind-kept c.part spots k in
    let ahead : IsFrom f tail = from_less tail j f (omega (arith, l)) (rows_behind later j rest h) in
    let own : claims_of c.part r.comments ≡ claims_of c.part (lines_at added c.part) =
    of_middle c.part (comments_at c.part spots) (lines_at added c.part) (inner_comments c.inner (spots_behind c.part spots)) (kept_none _ (comments-kept c.part spots k)) (kept_none _ (inner-kept c.inner _ left)) in
    let all : n + length r.comments ≤ f = omega arith in
    let taken : taken_by c.part f (claims_from n r.comments ++ tail) ≡ (claims_of c.part (lines_at added c.part), tail) =
    all_taken c.part f r.comments n tail all ahead ∙ ap (λ (x : List Standing). (x, tail)) own in
    ap (standing (spots_of (c ∷ cs) (read_rows n (rows_of added spots (c ∷ cs))))) (append_assoc (claims_from n r.comments) (row_claims j later) rest)
    ∙ stand_first c.part f (kept r.comments) c.inner ss (claims_from n r.comments ++ tail) tail (claims_of c.part (lines_at added c.part)) taken ahead
    ∙ ap (λ (x : List Standing × List Claim). (claims_of c.part (lines_at added c.part) ++ x.0, x.1)) (stand_rows added (behind c spots) cs j rest (inner-behind c.inner _ left) h)

-- ---- what is added before a part

-- before ELSE IF, ELSE, END IF and END DO nothing is
record IsOpen (first : Part) : Type 0 where
  else_if : (i n : ℕ) → is_part (parts.ElseIf i n) first ≡ false
  else_part : (i : ℕ) → is_part (parts.Else i) first ≡ false
  close : (i : ℕ) → is_part (parts.Close i) first ≡ false

title_open : IsOpen parts.Title
title_open = record { else_if = λ i n. refl; else_part = λ i. refl; close = λ i. refl }

first_in_open : (body : StmtTrees) → IsOpen (first_in body)
first_in_open no_stmts = record { else_if = λ i n. refl; else_part = λ i. refl; close = λ i. refl }
first_in_open (more_stmts (stmt id label w) others) = record { else_if = λ i n. refl; else_part = λ i. refl; close = λ i. refl }

first_below_open : (ds : List DeclTree) (body : StmtTrees) → IsOpen (first_below ds body)
first_below_open [] body = first_in_open body
first_below_open (d ∷ ds) body = record { else_if = λ i n. refl; else_part = λ i. refl; close = λ i. refl }

first_by : (b : Bool) (m : ModuleTree) → IsOpen (if b then parts.Title else first_below m.decls m.body)
first_by true m = title_open
first_by false m = first_below_open m.decls m.body

first_open : (m : ModuleTree) → IsOpen (first_part m)
first_open m = first_by (has_title m) m

part_apart : (part first : Part) (b : Bool) (n : ℕ) → is_part part first ≡ false → is_part part (parts.Stmt n) ≡ false → is_part part (if b then first else parts.Stmt n) ≡ false
part_apart part first true n e f = e
part_apart part first false n e f = f

nothing_added : (first part : Part) (as' : List Added) → is_part part first ≡ false → ((n : ℕ) → is_part part (parts.Stmt n) ≡ false) → added_lines first as' part ≡ []
nothing_added first part [] e f = refl
nothing_added first part (a ∷ as') e f =
    ap (λ (b : Bool). if b then a.line ∷ added_lines first as' part else added_lines first as' part) (part_apart part first (nat_eq a.before 0) a.before e (f a.before)) ∙ nothing_added first part as' e f

lines_there : (first : Part) (as' : List Added) (part : Part) → IsOpen first → lines_at (added_lines first as') part ≡ added_lines first as' part
lines_there first as' parts.Title h = refl
lines_there first as' (parts.Decl n) h = refl
lines_there first as' (parts.Stmt i) h = refl
lines_there first as' (parts.ElseIf i n) h = sym (nothing_added first (parts.ElseIf i n) as' (h.else_if i n) (λ k. refl))
lines_there first as' (parts.Else i) h = sym (nothing_added first (parts.Else i) as' (h.else_part i) (λ k. refl))
lines_there first as' (parts.Close i) h = sym (nothing_added first (parts.Close i) as' (h.close i) (λ k. refl))
lines_there first as' parts.End h = refl

claims_by : (b c : Bool) (part : Part) (l : Bytes) (ls : List Bytes) (own : List Standing) → claims_of part ls ≡ own → is_claim l ≡ c
    → claims_of part (if b then l ∷ ls else ls) ≡ (if b then (if c then record { part = part; text = l } ∷ own else own) else own)
claims_by true c part l ls own e f =
    ap (λ (x : Bool). if x then record { part = part; text = l } ∷ claims_of part ls else claims_of part ls) f ∙ ap (λ (x : List Standing). if c then record { part = part; text = l } ∷ x else x) e
claims_by false c part l ls own e f = e

claims_are : (first : Part) (as' : List Added) (part : Part) → claims_of part (added_lines first as' part) ≡ claims_at first as' part
claims_are first [] part = refl
claims_are first (a ∷ as') part = claims_by (is_part part (part_of first a)) (is_claim a.line) part a.line (added_lines first as' part) (claims_at first as' part) (claims_are first as' part) refl

cards_are : (first : Part) (as' : List Added) (cs : List Card) → IsOpen first → cards_claims (added_lines first as') cs ≡ flat_map (λ (c : Card). claims_at first as' c.part) cs
cards_are first as' [] h = refl
cards_are first as' (c ∷ cs) h =
    ap (λ (x : List Standing). x ++ cards_claims (added_lines first as') cs) (ap (claims_of c.part) (lines_there first as' c.part h) ∙ claims_are first as' c.part)
    ∙ ap (λ (x : List Standing). claims_at first as' c.part ++ x) (cards_are first as' cs h)

-- ---- modules

module _ (added : ParsedTree → List Added) where
  abbrev own_claims : ParsedTree → List Standing
  own_claims p = claims_added p.module_read (added p)

  stand_all : (closing : List Bytes) (ps : List ParsedTree) (n : ℕ) → Each IsSound ps → all_standing (all_again added closing n ps) (row_claims n (all_rows added ps)) ≡ (map own_claims ps, [])
  stand_all closing [] n s = refl
  stand_all closing (p ∷ ps) n s =
      let rows = module_rows added p in
      let k = lines_behind n rows in
      let cards = statements_of p.module_read in
      let later = row_claims k (all_rows added ps) in
      let again = again_of added closing n p ps in
      let spots : again.places.spots ≡ spots_of cards (read_rows n rows) = built-spots p.module_read _ (read_rows n rows) s.first.well (again-written added n p) in
      let from : IsFrom k later = subst (IsFrom k) (append-nil later) (rows_behind (all_rows added ps) k [] tt) in
      let mine : standing again.places.spots (row_claims n rows ++ later) ≡ (own_claims p, later) =
      ap (λ (ss : List Spot). standing ss (row_claims n rows ++ later)) spots
      ∙ stand_rows (added_lines (first_part p.module_read) (added p)) p.places.spots cards n later s.first.spots from
      ∙ ap (λ (x : List Standing). (x, later)) (cards_are (first_part p.module_read) (added p) cards (first_open p.module_read)) in
      ap (all_standing (again ∷ all_again added closing k ps)) (row_claims_append rows (all_rows added ps) n)
      ∙ ap (λ (x : List Standing × List Claim). (x.0 ∷ (all_standing (all_again added closing k ps) x.1).0, (all_standing (all_again added closing k ps) x.1).1)) mine
      ∙ ap (λ (x : List (List Standing) × List Claim). (own_claims p ∷ x.0, x.1)) (stand_all closing ps k s.others)

  claims_back : (ps : List ParsedTree) → AreParsed ps → AllPassedOver added ps → ClaimsBack (modules_text added ps) ps added
  unfolding parsed-back
  claims_back ps h a =
      let s = all-sound ps h in
      let rows = all_rows added ps in
      let closing = last_closing ps in
      let good = all-rows added ps a s in
      let ends = closing-kept ps s in
      let back = parsed-back ps added h a in
      record {
        again = back.again;
        read = record {
          read = back.read;
          stand =
              ap (λ (t : Bytes). all_standing back.again (claims_in t)) (all-text added ps h s)
              ∙ ap (λ (ls : List Bytes). all_standing back.again (claims_from 1 ls)) (lines_are rows closing good (plain closing ends))
              ∙ ap (all_standing back.again) (rows_claims rows closing 1 good (kept_none closing ends))
              ∙ stand_all (kept closing) ps 1 s;
        };
        same = back.same;
      }

pub claims_read_back : ClaimsReadBack
claims_read_back text ps added r a = claims_back added ps (all-parsed text ps r) a
