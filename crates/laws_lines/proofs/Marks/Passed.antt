-- The lines on loops are comment lines that reading drops.
use Rattle.std.proofs.Common.{◌≡◌, ℕ, zero, suc, ◌+◌, Bool, true, false, List, [], ◌∷◌, ◌++◌, map, refl, sym, ap, ◌∙◌, arith, append_assoc, append-nil, if◌then◌else◌}
use Rattle.std.specs.Prelude.{nat_eq, nat_le, codes, slice_index_or}
use Rattle.std.specs.List.{list_all, list_any, AllByRecursion}
use Rattle.std.proofs.lemmas.List.Folds.{list_all-append}
use Rattle.std.proofs.lemmas.Bool.{and_from, and_parts, or_from, leb-true, ne_eqb}
use Rattle.fixed_form.specs.Cards.{is_comment, is_dropped}
use Rattle.fixed_form.specs.TextLines.{unless_return, without_returns}
use Rattle.f77_printer.specs.declared.added.Added.{Added}
use Rattle.f77_ast.specs.declared.variable.Variable.{Variable}
use Rattle.f77_ast.specs.declared.variable.Variable.TheVariants.{Own, Block, Saved}
use Rattle.system_text.specs.SystemText.{name_at, each_after, joined}
use Rattle.result_lines.specs.ScalarLines.{before}
use Rattle.in_out_regions.specs.region_sets.Written.{name_text}
use Rattle.f77_ast.specs.declared.marks.Kinds.{Kinds}
use Rattle.f77_ast.specs.declared.marks.Kinds.TheVariants.{WriteRead, ReadWrite, WriteWrite}
use Rattle.f77_ast.specs.declared.marks.Private.{Private}
use Rattle.f77_ast.specs.declared.marks.Private.TheVariants.{Yes, Name, Carried, Live}
use Rattle.f77_ast.specs.declared.marks.Reason.{Reason}
use Rattle.f77_ast.specs.declared.marks.Reason.TheVariants.{Jump, InputOutput, Step, Index, Carries}
use Rattle.result_lines.specs.MarkText.{all_kinds_text, private_text, reason_text, obstacle_line, private_clause, directive_text, cut, directive_lines}
use Rattle.result_lines.specs.ReductionText.{op_word, reduction_clause, reduction_clauses, reduction_text}
use Rattle.result_lines.specs.ReductionLines.{LoopSaid, Directed, Obstructed, said_lines_at, said_lines}
use Rattle.result_lines.specs.declared.reduction.ReduceOp.{ReduceOp}
use Rattle.result_lines.specs.declared.reduction.ReduceOp.TheVariants.{Sum, Max, Min, And, Or}
use Rattle.result_lines.specs.declared.reduction.Part.{Part}
use Rattle.laws_programs.specs.roundtrip_programs.Cards.Good.{is_printable}
use Rattle.system_text.specs.Reading.{Bytes}
use Rattle.laws_programs.specs.roundtrip_programs.Texts.Texts.{IsPassedOver}
use Rattle.laws_programs.specs.roundtrip_programs.Lines.{IsShown, AreShown}
use Rattle.laws_lines.specs.RegionTexts.Laws.{IsShownVariable}
use Rattle.laws_lines.specs.Marks.Directives.{is_sentinel}
use Rattle.laws_lines.specs.Marks.Lines.{IsShownReason, IsShownSaid}
use Rattle.laws_lines.specs.Marks.Laws.{ObstaclesAreNoDirectives, LoopLinesArePassedOver}

-- ---- lines of printable ASCII have no line feed, and no carriage return

record IsWhole (l : Bytes) : Type 0 where
  one_line : list_any (nat_eq 10) l ≡ false
  no_return : without_returns l ≡ l

pub unless_other : (c : ℕ) (cs : Bytes) → nat_eq c 13 ≡ false → unless_return c cs ≡ c ∷ cs
unless_other c [] h = rw h
unless_other c (d ∷ ds) h = refl

shown_whole : (l : Bytes) → IsShown l → IsWhole l
shown_whole [] h = record { one_line = refl; no_return = refl }
shown_whole (c ∷ cs) h =
    let p = and_parts (is_printable c) (list_all is_printable cs) h in
    let low = leb-true 32 c (and_parts (nat_le 32 c) (nat_le c 126) p.0).0 in
    let w = shown_whole cs p.1 in
    record {
      one_line = or_from (nat_eq 10 c) (list_any (nat_eq 10) cs) (ne_eqb 10 c (λ e. absurd (omega (arith, low, e)))) w.one_line;
      no_return = ap (unless_return c) w.no_return ∙ unless_other c cs (ne_eqb c 13 (λ e. absurd (omega (arith, low, e))));
    }

-- a comment of printable ASCII that reading drops
pub record IsPassed (l : Bytes) : Type 0 where
  pub shown : IsShown l
  pub comment : is_comment l ≡ true
  pub dropped : is_dropped l ≡ true

passed : (a : Added) → IsPassed a.line → IsPassedOver a
passed a h =
    let w = shown_whole a.line h.shown in
    record { comment = record { comment = h.comment; one_line = w.one_line; no_return = w.no_return }; dropped = h.dropped }

join : (x y : Bytes) → IsShown x → IsShown y → IsShown (x ++ y)
join x y h k = list_all-append is_printable x y ∙ and_from (list_all is_printable x) (list_all is_printable y) h k

-- ---- names

name_shown : (names : List Bytes) (k : ℕ) → AreShown names → IsShown (slice_index_or names k [])
name_shown [] k h = refl
name_shown (x ∷ xs) zero h = h.first
name_shown (x ∷ xs) (suc k) h = name_shown xs k h.others

number_shown : (names : List Bytes) (n : ℕ) → AreShown names → IsShown (name_at names n)
number_shown names zero h = refl
number_shown names (suc k) h = name_shown names k h

variable_shown : (names : List Bytes) (v : Variable) → AreShown names → IsShownVariable v → IsShown (name_text names v)
variable_shown names (Own n) h k = number_shown names n h
variable_shown names (Block b) h k = join (codes "/") (b ++ codes "/") refl (join b (codes "/") k refl)
variable_shown names (Saved s x) h k = join s (codes ":" ++ x) k.0 (join (codes ":") x refl k.1)

-- ---- obstacles

kinds_shown : (ks : List Kinds) → IsShown (all_kinds_text ks)
kinds_shown [] = refl
kinds_shown (WriteRead ∷ ks) = join (codes " W-R") (all_kinds_text ks) refl (kinds_shown ks)
kinds_shown (ReadWrite ∷ ks) = join (codes " R-W") (all_kinds_text ks) refl (kinds_shown ks)
kinds_shown (WriteWrite ∷ ks) = join (codes " W-W") (all_kinds_text ks) refl (kinds_shown ks)

private_shown : (p : Private) → IsShown (private_text p)
private_shown Yes = refl
private_shown Name = refl
private_shown Carried = refl
private_shown Live = refl

reason_shown : (names : List Bytes) (r : Reason) → AreShown names → IsShownReason r → IsShown (reason_text names r)
reason_shown names Jump h k = refl
reason_shown names InputOutput h k = refl
reason_shown names Step h k = refl
reason_shown names Index h k = refl
reason_shown names (Carries v ks p) h k =
    join (name_text names v) (all_kinds_text ks ++ private_text p) (variable_shown names v h k)
    (join (all_kinds_text ks) (private_text p) (kinds_shown ks) (private_shown p))

obstacle_passed : (names : List Bytes) (r : Reason) → AreShown names → IsShownReason r → IsPassed (obstacle_line names r)
obstacle_passed names r h k = record { shown = join (codes "C> SERIAL ") (reason_text names r) refl (reason_shown names r h k); comment = refl; dropped = refl }

pub obstacles_are_no_directives : ObstaclesAreNoDirectives
obstacles_are_no_directives names r = refl

-- ---- directives

others_shown : (names : List Bytes) (ns : List ℕ) → AreShown names → IsShown (each_after (codes ",") (map (name_at names) ns))
others_shown names [] h = refl
others_shown names (n ∷ ns) h =
    join (codes ",") (name_at names n ++ each_after (codes ",") (map (name_at names) ns)) refl
    (join (name_at names n) (each_after (codes ",") (map (name_at names) ns)) (number_shown names n h) (others_shown names ns h))

clause_shown : (names : List Bytes) (ns : List ℕ) → AreShown names → IsShown (private_clause names ns)
clause_shown names [] h = refl
clause_shown names (n ∷ ns) h =
    join (codes " PRIVATE(") (joined (codes ",") (map (name_at names) (n ∷ ns)) ++ codes ")") refl
    (join (joined (codes ",") (map (name_at names) (n ∷ ns))) (codes ")")
    (join (name_at names n) (each_after (codes ",") (map (name_at names) ns)) (number_shown names n h) (others_shown names ns h)) refl)

word_shown : (op : ReduceOp) → IsShown (op_word op)
word_shown Sum = refl
word_shown Max = refl
word_shown Min = refl
word_shown And = refl
word_shown Or = refl

reduction_shown : (names : List Bytes) (p : Part) → AreShown names → IsShown (reduction_clause names p)
reduction_shown names p h =
    join (codes " REDUCTION(") (op_word p.op ++ (codes ":" ++ (name_at names p.cell ++ codes ")"))) refl
    (join (op_word p.op) (codes ":" ++ (name_at names p.cell ++ codes ")")) (word_shown p.op)
    (join (codes ":") (name_at names p.cell ++ codes ")") refl (join (name_at names p.cell) (codes ")") (number_shown names p.cell h) refl)))

reductions_shown : (names : List Bytes) (ps : List Part) → AreShown names → IsShown (reduction_clauses names ps)
reductions_shown names [] h = refl
reductions_shown names (p ∷ ps) h = join (reduction_clause names p) (reduction_clauses names ps) (reduction_shown names p h) (reductions_shown names ps h)

text_shown : (names : List Bytes) (ns : List ℕ) (ps : List Part) → AreShown names → IsShown (reduction_text names ns ps)
text_shown names ns ps h =
    join (directive_text names ns) (reduction_clauses names ps) (join (codes "PARALLEL DO") (private_clause names ns) refl (clause_shown names ns h)) (reductions_shown names ps h)

-- a line begins so: it is a line for compilers, and one that reading passes over, whatever stands behind it
record Begins (l : Bytes) : Type 0 where
  shown : IsShown l
  comment : (x : Bytes) → is_comment (l ++ x) ≡ true
  dropped : (x : Bytes) → is_dropped (l ++ x) ≡ true
  sentinel : (x : Bytes) → is_sentinel (l ++ x) ≡ true

longer : (l : Bytes) (c : ℕ) → is_printable c ≡ true → Begins l → Begins (l ++ c ∷ [])
longer l c e h = record {
  shown = join l (c ∷ []) h.shown (and_from (is_printable c) true e refl);
  comment = λ x. ap is_comment (append_assoc l (c ∷ []) x) ∙ h.comment (c ∷ x);
  dropped = λ x. ap is_dropped (append_assoc l (c ∷ []) x) ∙ h.dropped (c ∷ x);
  sentinel = λ x. ap is_sentinel (append_assoc l (c ∷ []) x) ∙ h.sentinel (c ∷ x);
}

next_begins : (c : ℕ) → is_printable c ≡ true → Begins (codes "C$OMP&" ++ c ∷ [])
next_begins c e = longer (codes "C$OMP&") c e (record { shown = refl; comment = λ x. refl; dropped = λ x. refl; sentinel = λ x. refl })

-- a line of a directive
pub record IsOfDirective (l : Bytes) : Type 0 where
  pub passed : IsPassed l
  pub sentinel : is_sentinel l ≡ true

abbrev pub AreOfDirective : List Bytes → Type 0
AreOfDirective ls = AllByRecursion IsOfDirective ls

whole_line : (l : Bytes) → Begins l → IsOfDirective l
whole_line l h = record {
  passed = record {
    shown = h.shown;
    comment = ap is_comment (sym (append-nil l)) ∙ h.comment [];
    dropped = ap is_dropped (sym (append-nil l)) ∙ h.dropped [];
  };
  sentinel = ap is_sentinel (sym (append-nil l)) ∙ h.sentinel [];
}

cut_choice : (b : Bool) (l : Bytes) (x y : List Bytes) → Begins l → AreOfDirective x → AreOfDirective y → AreOfDirective (if b then l ∷ x else y)
cut_choice true l x y h a b = (whole_line l h, a)
cut_choice false l x y h a b = b

cut_lines : (t l : Bytes) (used : ℕ) → IsShown t → Begins l → AreOfDirective (cut l used t)
cut_lines [] l used h b = (whole_line l b, tt)
cut_lines (c ∷ cs) l used h b =
    let p = and_parts (is_printable c) (list_all is_printable cs) h in
    cut_choice (nat_eq used 66) l (cut (codes "C$OMP&" ++ c ∷ []) 1 cs) (cut (l ++ c ∷ []) (used + 1) cs) b
    (cut_lines cs (codes "C$OMP&" ++ c ∷ []) 1 p.1 (next_begins c p.0)) (cut_lines cs (l ++ c ∷ []) (used + 1) p.1 (longer l c p.0 b))

pub directive_is : (names : List Bytes) (ns : List ℕ) (ps : List Part) → AreShown names → AreOfDirective (directive_lines (reduction_text names ns ps))
directive_is names ns ps h =
    cut_lines (reduction_text names ns ps) (codes "C$OMP ") 0 (text_shown names ns ps h)
    (record { shown = refl; comment = λ x. refl; dropped = λ x. refl; sentinel = λ x. refl })

-- ---- the lines on loops

each_passed : (n : ℕ) (ls : List Bytes) → AreOfDirective ls → AllByRecursion IsPassedOver (map (before n) ls)
each_passed n [] h = tt
each_passed n (l ∷ ls) h = (passed (before n l) h.0.passed, each_passed n ls h.1)

both : (xs ys : List Added) → AllByRecursion IsPassedOver xs → AllByRecursion IsPassedOver ys → AllByRecursion IsPassedOver (xs ++ ys)
both [] ys h k = k
both (x ∷ xs) ys h k = (h.0, both xs ys h.1 k)

obstacle_by : (why : Bool) (a : Added) → IsPassedOver a → AllByRecursion IsPassedOver (if why then a ∷ [] else [])
obstacle_by true a h = (h, tt)
obstacle_by false a h = tt

said_passed : (names : List Bytes) (why : Bool) (n : ℕ) (s : LoopSaid) → AreShown names → IsShownSaid s → AllByRecursion IsPassedOver (said_lines_at names why n s)
said_passed names why n (Directed ns ps) h k = each_passed n (directive_lines (reduction_text names ns ps)) (directive_is names ns ps h)
said_passed names why n (Obstructed r) h k = obstacle_by why (before n (obstacle_line names r)) (passed (before n (obstacle_line names r)) (obstacle_passed names r h k))

pub loop_lines_are_passed_over : LoopLinesArePassedOver
loop_lines_are_passed_over names why [] h k = tt
loop_lines_are_passed_over names why (s ∷ ss) h k =
    both (said_lines_at names why s.id s.value) (said_lines names why ss) (said_passed names why s.id s.value h k.0) (loop_lines_are_passed_over names why ss h k.1)
