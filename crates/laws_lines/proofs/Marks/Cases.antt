-- What is said of the loops of a module adds lines before each of its statements.
use Rattle.std.proofs.Common.{inl, inr, ◌⊎◌, ◌≡◌, ℕ, ◌<◌, ◌≤◌, Bool, true, false, List, [], ◌∷◌, ◌++◌, map, refl, sym, ap, ◌∙◌, subst, arith, append_assoc, append-nil, Option, Some, None, if◌then◌else◌, eq-eqb, ne_eqb}
use Rattle.std.specs.Prelude.{nat_eq}
use Rattle.std.specs.List.{AllByRecursion}
use Rattle.f77_ast.specs.declared.places.Part.{Part}
use Rattle.f77_ast.specs.declared.places.Part.TheVariants as parts
use Rattle.f77_printer.specs.declared.added.Added.{Added}
use Rattle.f77_printer.specs.PageText.{is_part}
use Rattle.f77_printer.specs.AddedText.{part_of}
use Rattle.f77_ast.specs.declared.results.At.{At}
use Rattle.result_lines.specs.ScalarLines.{before}
use Rattle.result_lines.specs.MarkText.{obstacle_line, directive_lines}
use Rattle.result_lines.specs.ReductionText.{reduction_text}
use Rattle.result_lines.specs.ReductionLines.{LoopSaid, Directed, Obstructed, said_lines_at, said_lines}
use Rattle.laws_programs.specs.roundtrip_programs.ModuleTexts.Cards.{Card}
use Rattle.laws_programs.proofs.RoundtripPrograms.ModuleTexts.Alone.{some-first, first-same}
use Rattle.system_text.specs.Reading.{Bytes}
use Rattle.laws_programs.proofs.RoundtripPrograms.Texts.Rows.{added_lines}
use Rattle.laws_lines.specs.Marks.Directives.{Clauses}
use Rattle.laws_lines.specs.Marks.Lines.{clauses_of, IsNumberedSaid, AreNumberedSaid}
use Rattle.laws_lines.specs.Marks.MarkedLoops.{as_parallel, parallel_in}
use Rattle.laws_lines.proofs.Marks.Attach.{entry, marks_at}
use Rattle.laws_lines.proofs.Marks.Loops.{HaveLoops, IsNext, number_behind, Ascend}

-- ---- by the numbers of the loops

-- what the directive of a parallel loop says
abbrev pub says_of : List Bytes → LoopSaid → Option Clauses
says_of names (Directed ns ps) = Some (clauses_of names ns ps)
says_of names (Obstructed r) = None

abbrev pub look : List Bytes → List (At LoopSaid) → ℕ → Option Clauses
look names [] i = None
look names (m ∷ ms) i = if nat_eq i m.id then says_of names m.value else look names ms i

abbrev pub mark_at : List Bytes → List (At LoopSaid) → Part → Option Clauses
mark_at names ms (parts.Stmt i) = look names ms i
mark_at names ms parts.Title = None
mark_at names ms (parts.Decl i) = None
mark_at names ms (parts.ElseIf i j) = None
mark_at names ms (parts.Else i) = None
mark_at names ms (parts.Close i) = None
mark_at names ms parts.End = None

abbrev pub mark_for : List Bytes → List (At LoopSaid) → Card → Option Clauses
mark_for names ms c = mark_at names ms c.part

-- their lines
abbrev pub mark_text : List Bytes → Bool → LoopSaid → List Bytes
mark_text names why (Directed ns ps) = directive_lines (reduction_text names ns ps)
mark_text names why (Obstructed r) = if why then obstacle_line names r ∷ [] else []

abbrev pub lines_for : List Bytes → Bool → List (At LoopSaid) → ℕ → List Bytes
lines_for names why [] i = []
lines_for names why (m ∷ ms) i = (if nat_eq i m.id then mark_text names why m.value else []) ++ lines_for names why ms i

-- ---- they are what is added before a statement

append_by : (b : Bool) (l : Bytes) (xs ys zs : List Bytes) → zs ≡ xs ++ ys → (if b then l ∷ zs else zs) ≡ (if b then l ∷ xs else xs) ++ ys
append_by true l xs ys zs e = ap (λ (x : List Bytes). l ∷ x) e
append_by false l xs ys zs e = e

abbrev no_lines : List Bytes
no_lines = []

empty_by : (b : Bool) → no_lines ≡ (if b then no_lines else no_lines)
empty_by true = refl
empty_by false = refl

block_by : (b : Bool) (l : Bytes) (ls rest : List Bytes) → rest ≡ (if b then ls else []) → (if b then l ∷ rest else rest) ≡ (if b then l ∷ ls else [])
block_by true l ls rest e = ap (λ (x : List Bytes). l ∷ x) e
block_by false l ls rest e = e

pub added_append : (first : Part) (xs ys : List Added) (part : Part) → added_lines first (xs ++ ys) part ≡ added_lines first xs part ++ added_lines first ys part
added_append first [] ys part = refl
added_append first (x ∷ xs) ys part = append_by (is_part part (part_of first x)) x.line (added_lines first xs part) (added_lines first ys part) (added_lines first (xs ++ ys) part) (added_append first xs ys part)

-- marks are of numbers above 0
abbrev pub AreOfStatements : List (At LoopSaid) → Type 0
AreOfStatements ms = AllByRecursion (λ (m : At LoopSaid). nat_eq m.id 0 ≡ false) ms

block_at : (first : Part) (n i : ℕ) (ls : List Bytes) → nat_eq n 0 ≡ false → added_lines first (map (before n) ls) (parts.Stmt i) ≡ (if nat_eq i n then ls else [])
block_at first n i [] e = empty_by (nat_eq i n)
block_at first n i (l ∷ ls) e =
    ap (λ (b : Bool). if is_part (parts.Stmt i) (if b then first else parts.Stmt n) then l ∷ added_lines first (map (before n) ls) (parts.Stmt i) else added_lines first (map (before n) ls) (parts.Stmt i)) e
    ∙ block_by (nat_eq i n) l ls (added_lines first (map (before n) ls) (parts.Stmt i)) (block_at first n i ls e)

block_nowhere : (first part : Part) (n : ℕ) (ls : List Bytes) → ((k : ℕ) → is_part part (parts.Stmt k) ≡ false) → nat_eq n 0 ≡ false → added_lines first (map (before n) ls) part ≡ []
block_nowhere first part n [] f e = refl
block_nowhere first part n (l ∷ ls) f e =
    ap (λ (b : Bool). if is_part part (if b then first else parts.Stmt n) then l ∷ added_lines first (map (before n) ls) part else added_lines first (map (before n) ls) part) e
    ∙ ap (λ (b : Bool). if b then l ∷ added_lines first (map (before n) ls) part else added_lines first (map (before n) ls) part) (f n)
    ∙ block_nowhere first part n ls f e

mark_block : (names : List Bytes) (why : Bool) (n : ℕ) (m : LoopSaid) → said_lines_at names why n m ≡ map (before n) (mark_text names why m)
mark_block names why n (Directed ns ps) = refl
mark_block names true n (Obstructed r) = refl
mark_block names false n (Obstructed r) = refl

pub marks_at_statement : (names : List Bytes) (why : Bool) (first : Part) (ms : List (At LoopSaid)) (i : ℕ) → AreOfStatements ms → added_lines first (said_lines names why ms) (parts.Stmt i) ≡ lines_for names why ms i
marks_at_statement names why first [] i h = refl
marks_at_statement names why first (m ∷ ms) i h =
    added_append first (said_lines_at names why m.id m.value) (said_lines names why ms) (parts.Stmt i)
    ∙ ap (λ (x : List Added). added_lines first x (parts.Stmt i) ++ added_lines first (said_lines names why ms) (parts.Stmt i)) (mark_block names why m.id m.value)
    ∙ ap (λ (x : List Bytes). x ++ added_lines first (said_lines names why ms) (parts.Stmt i)) (block_at first m.id i (mark_text names why m.value) h.0)
    ∙ ap (λ (x : List Bytes). (if nat_eq i m.id then mark_text names why m.value else []) ++ x) (marks_at_statement names why first ms i h.1)

-- ---- one mark at most is of a statement

-- none is of the number
abbrev IsAbsent : List (At LoopSaid) → ℕ → Type 0
IsAbsent ms i = AllByRecursion (λ (m : At LoopSaid). nat_eq i m.id ≡ false) ms

absent_lines : (names : List Bytes) (why : Bool) (ms : List (At LoopSaid)) (i : ℕ) → IsAbsent ms i → lines_for names why ms i ≡ []
absent_lines names why [] i h = refl
absent_lines names why (m ∷ ms) i h = ap (λ (b : Bool). (if b then mark_text names why m.value else []) ++ lines_for names why ms i) h.0 ∙ absent_lines names why ms i h.1

absent_look : (names : List Bytes) (ms : List (At LoopSaid)) (i : ℕ) → IsAbsent ms i → look names ms i ≡ None
absent_look names [] i h = refl
absent_look names (m ∷ ms) i h = ap (λ (b : Bool). if b then says_of names m.value else look names ms i) h.0 ∙ absent_look names ms i h.1

there_lines : (names : List Bytes) (why : Bool) (m : At LoopSaid) (xs ys : List (At LoopSaid)) → IsAbsent xs m.id → IsAbsent ys m.id → lines_for names why (xs ++ m ∷ ys) m.id ≡ mark_text names why m.value
there_lines names why m [] ys h k =
    ap (λ (b : Bool). (if b then mark_text names why m.value else []) ++ lines_for names why ys m.id) (eq-eqb m.id m.id refl)
    ∙ ap (λ (x : List Bytes). mark_text names why m.value ++ x) (absent_lines names why ys m.id k)
    ∙ append-nil (mark_text names why m.value)
there_lines names why m (x ∷ xs) ys h k =
    ap (λ (b : Bool). (if b then mark_text names why x.value else []) ++ lines_for names why (xs ++ m ∷ ys) m.id) h.0 ∙ there_lines names why m xs ys h.1 k

there_look : (names : List Bytes) (m : At LoopSaid) (xs ys : List (At LoopSaid)) → IsAbsent xs m.id → look names (xs ++ m ∷ ys) m.id ≡ says_of names m.value
there_look names m [] ys h = ap (λ (b : Bool). if b then says_of names m.value else look names ys m.id) (eq-eqb m.id m.id refl)
there_look names m (x ∷ xs) ys h = ap (λ (b : Bool). if b then says_of names x.value else look names (xs ++ m ∷ ys) m.id) h.0 ∙ there_look names m xs ys h.1

absent_append : (xs ys : List (At LoopSaid)) (i : ℕ) → IsAbsent xs i → IsAbsent ys i → IsAbsent (xs ++ ys) i
absent_append [] ys i h k = k
absent_append (x ∷ xs) ys i h k = (h.0, absent_append xs ys i h.1 k)

-- ---- each statement with its mark

abbrev pub numbers : {A : Type 0} → List (At A) → List ℕ
numbers {A = A} ms = map (λ (m : At A). m.id) ms

-- nothing is added before the statement, or the lines of its mark, and then it has no statement in it
abbrev pub StatementCase : List Bytes → Bool → List (At LoopSaid) → Option Part → ℕ → Type 0
StatementCase names why ms inner i =
    ((lines_for names why ms i ≡ []) × (look names ms i ≡ None))
    ⊎ ((m : LoopSaid) × IsNumberedSaid names m × (lines_for names why ms i ≡ mark_text names why m) × (look names ms i ≡ says_of names m) × (inner ≡ None))

abbrev pub CardCase : List Bytes → Bool → List (At LoopSaid) → Card → Type 0
CardCase names why ms c = (i : ℕ) → c.part ≡ parts.Stmt i → StatementCase names why ms c.inner i

abbrev pub CardCases : List Bytes → Bool → List (At LoopSaid) → List Card → Type 0
CardCases names why ms cs = AllByRecursion (CardCase names why ms) cs

-- numbers up to this one
abbrev AreUpTo : ℕ → List (At LoopSaid) → Type 0
AreUpTo k ms = AllByRecursion (λ (m : At LoopSaid). m.id ≤ k) ms

abbrev pub AreAbove : ℕ → List (At LoopSaid) → Type 0
AreAbove k ms = AllByRecursion (λ (m : At LoopSaid). k < m.id) ms

up_to_more : (ms : List (At LoopSaid)) (j k : ℕ) → j ≤ k → AreUpTo j ms → AreUpTo k ms
up_to_more [] j k l h = tt
up_to_more (m ∷ ms) j k l h = let n = h.0 in (omega (arith, l, n), up_to_more ms j k l h.1)

up_to_append : (xs : List (At LoopSaid)) (y : At LoopSaid) (k : ℕ) → AreUpTo k xs → y.id ≤ k → AreUpTo k (xs ++ y ∷ [])
up_to_append [] y k h l = (l, tt)
up_to_append (x ∷ xs) y k h l = (h.0, up_to_append xs y k h.1 l)

up_to_absent : (ms : List (At LoopSaid)) (k i : ℕ) → k < i → AreUpTo k ms → IsAbsent ms i
up_to_absent [] k i l h = tt
up_to_absent (m ∷ ms) k i l h = let n = h.0 in (ne_eqb i m.id (λ e. absurd (omega (arith, l, n, e))), up_to_absent ms k i l h.1)

above_absent : (ms : List (At LoopSaid)) (i : ℕ) → AreAbove i ms → IsAbsent ms i
above_absent [] i h = tt
above_absent (m ∷ ms) i h = let n = h.0 in (ne_eqb i m.id (λ e. absurd (omega (arith, n, e))), above_absent ms i h.1)

above_less : (ms : List (At LoopSaid)) (j k : ℕ) → j ≤ k → AreAbove k ms → AreAbove j ms
above_less [] j k l h = tt
above_less (m ∷ ms) j k l h = let n = h.0 in (omega (arith, l, n), above_less ms j k l h.1)

-- ---- along the statements

nothing_left : (ms : List (At LoopSaid)) → numbers ms ≡ [] → ms ≡ []
nothing_left [] e = refl
nothing_left (m ∷ ms) e = absurd (some-first _ _ (sym e))

number_less : (part : Part) (k : ℕ) → IsNext k part → k ≤ number_behind k part
number_less (parts.Stmt i) k h = omega (arith, h)
number_less parts.Title k h = omega arith
number_less (parts.Decl i) k h = omega arith
number_less (parts.ElseIf i j) k h = omega arith
number_less (parts.Else i) k h = omega arith
number_less (parts.Close i) k h = omega arith
number_less parts.End k h = omega arith

-- the marks that are left are of later numbers
pub above : (cs : List Card) (k : ℕ) (ms : List (At LoopSaid)) → Ascend k cs → HaveLoops cs (numbers ms) → AreAbove k ms
above [] k ms a h = subst (AreAbove k) (sym (nothing_left ms h)) tt
above (c ∷ cs) k ms a (inl h) = above_less ms k (number_behind k c.part) (number_less c.part k a.0) (above cs (number_behind k c.part) ms a.1 h)
above (c ∷ cs) k [] a (inr h) = tt
above (c ∷ cs) k (m ∷ ms) a (inr (i, more, e, n, l, h)) =
    let first = first-same m.id i (numbers ms) more l in
    let same : m.id ≡ i = first.0 in
    let left : numbers ms ≡ more = first.1 in
    let low : k < i = subst (IsNext k) e a.0 in
    let next : Ascend i cs = subst (λ (p : Part). Ascend (number_behind k p) cs) e a.1 in
    let more_above = above cs i ms next (subst (HaveLoops cs) (sym left) h) in
    (omega (arith, low, same), above_less ms k i (omega (arith, low)) more_above)

pub record Result (names : List Bytes) (why : Bool) (whole : List (At LoopSaid)) (cs : List Card) (ms : List (At LoopSaid)) : Type 0 where
  pub cases : CardCases names why whole cs
  pub marks : marks_at cs (map (mark_for names whole) cs) ≡ parallel_in names ms

entry_none : (names : List Bytes) (ms : List (At LoopSaid)) (part : Part) → ((i : ℕ) → part ≡ parts.Stmt i → look names ms i ≡ None) → entry part (mark_at names ms part) ≡ []
entry_none names ms (parts.Stmt i) h = ap (entry (parts.Stmt i)) (h i refl)
entry_none names ms parts.Title h = refl
entry_none names ms (parts.Decl i) h = refl
entry_none names ms (parts.ElseIf i j) h = refl
entry_none names ms (parts.Else i) h = refl
entry_none names ms (parts.Close i) h = refl
entry_none names ms parts.End h = refl

entry_some : (names : List Bytes) (n : ℕ) (v : LoopSaid) → entry (parts.Stmt n) (says_of names v) ≡ as_parallel names n v
entry_some names n (Directed ns ps) = refl
entry_some names n (Obstructed r) = refl

-- a statement that is no DO, or a part that is no statement of its own
not_marked : (k i : ℕ) (c : Card) (xs ms : List (At LoopSaid)) → c.part ≡ parts.Stmt i → IsNext k c.part → AreUpTo k xs → AreAbove (number_behind k c.part) ms → IsAbsent (xs ++ ms) i
not_marked k i c xs ms e n u a =
    let low : k < i = subst (IsNext k) e n in
    let high : AreAbove i ms = subst (λ (p : Part). AreAbove (number_behind k p) ms) e a in
    absent_append xs ms i (up_to_absent xs k i low u) (above_absent ms i high)

same_number : (i j : ℕ) → parts.Stmt i ≡ parts.Stmt j → i ≡ j
same_number i j e = cc

pub along : (names : List Bytes) (why : Bool) (cs : List Card) (k : ℕ) (xs ms : List (At LoopSaid)) → Ascend k cs → HaveLoops cs (numbers ms) → AreUpTo k xs → AreNumberedSaid names ms → Result names why (xs ++ ms) cs ms
along names why [] k xs ms a h u r = record { cases = tt; marks = ap (parallel_in names) (sym (nothing_left ms h)) }
along names why (c ∷ cs) k xs ms a (inl h) u r =
    let next = number_behind k c.part in
    let later = above cs next ms a.1 h in
    let less = number_less c.part k a.0 in
    let rest = along names why cs next xs ms a.1 h (up_to_more xs k next less u) r in
    let absent : (i : ℕ) → c.part ≡ parts.Stmt i → IsAbsent (xs ++ ms) i = λ i e. not_marked k i c xs ms e a.0 u later in
    record {
      cases = ((λ i e. inl (absent_lines names why (xs ++ ms) i (absent i e), absent_look names (xs ++ ms) i (absent i e))), rest.cases);
      marks =
          ap (λ (x : List (At Clauses)). x ++ marks_at cs (map (mark_for names (xs ++ ms)) cs)) (entry_none names (xs ++ ms) c.part (λ i e. absent_look names (xs ++ ms) i (absent i e)))
          ∙ rest.marks;
    }
along names why (c ∷ cs) k xs [] a (inr (i, more, e, n, l, h)) u r = absurd (some-first _ _ l)
along names why (c ∷ cs) k xs (m ∷ ms) a (inr (i, more, e, n, l, h)) u r =
    let first = first-same m.id i (numbers ms) more l in
    let same : m.id ≡ i = first.0 in
    let left : numbers ms ≡ more = first.1 in
    let low : k < i = subst (IsNext k) e a.0 in
    let next : Ascend i cs = subst (λ (p : Part). Ascend (number_behind k p) cs) e a.1 in
    let loops : HaveLoops cs (numbers ms) = subst (HaveLoops cs) (sym left) h in
    let later : AreAbove m.id ms = subst (λ (j : ℕ). AreAbove j ms) (sym same) (above cs i ms next loops) in
    let before_it : IsAbsent xs m.id = up_to_absent xs k m.id (omega (arith, low, same)) u in
    let after_it : IsAbsent ms m.id = above_absent ms m.id later in
    let up : AreUpTo i (xs ++ m ∷ []) = up_to_append xs m i (up_to_more xs k i (omega (arith, low)) u) (omega (arith, same)) in
    let rest = subst (λ (w : List (At LoopSaid)). Result names why w cs ms) (append_assoc xs (m ∷ []) ms) (along names why cs i (xs ++ m ∷ []) ms next loops up r.1) in
    let whole = xs ++ m ∷ ms in
    record {
      cases = (
        (λ j f. inr (
          m.value,
          r.0,
          subst (λ (q : ℕ). lines_for names why whole q ≡ mark_text names why m.value) (same ∙ same_number i j (sym e ∙ f)) (there_lines names why m xs ms before_it after_it),
          subst (λ (q : ℕ). look names whole q ≡ says_of names m.value) (same ∙ same_number i j (sym e ∙ f)) (there_look names m xs ms before_it),
          n,
        )),
        rest.cases,
      );
      marks =
          ap (λ (p : Part). entry p (mark_at names whole p) ++ marks_at cs (map (mark_for names whole) cs)) (e ∙ ap parts.Stmt (sym same))
          ∙ ap (λ (o : Option Clauses). entry (parts.Stmt m.id) o ++ marks_at cs (map (mark_for names whole) cs)) (there_look names m xs ms before_it)
          ∙ ap (λ (x : List (At Clauses)). x ++ marks_at cs (map (mark_for names whole) cs)) (entry_some names m.id m.value)
          ∙ ap (λ (x : List (At Clauses)). as_parallel names m.id m.value ++ x) rest.marks;
    }

pub above_zero : (ms : List (At LoopSaid)) → AreAbove 0 ms → AreOfStatements ms
above_zero [] h = tt
above_zero (m ∷ ms) h = let n = h.0 in (ne_eqb m.id 0 (λ e. absurd (omega (arith, n, e))), above_zero ms h.1)

-- before no other part are marks
pub marks_nowhere : (names : List Bytes) (why : Bool) (first part : Part) (ms : List (At LoopSaid)) → ((n : ℕ) → is_part part (parts.Stmt n) ≡ false) → AreOfStatements ms
    → added_lines first (said_lines names why ms) part ≡ []
marks_nowhere names why first part [] f h = refl
marks_nowhere names why first part (m ∷ ms) f h =
    added_append first (said_lines_at names why m.id m.value) (said_lines names why ms) part
    ∙ ap (λ (x : List Added). added_lines first x part ++ added_lines first (said_lines names why ms) part) (mark_block names why m.id m.value)
    ∙ ap (λ (x : List Bytes). x ++ added_lines first (said_lines names why ms) part) (block_nowhere first part m.id (mark_text names why m.value) f h.0)
    ∙ marks_nowhere names why first part ms f h.1
