-- Lines of directives that are read, and some that are not; and the names that the text does not say.
use Rattle.std.proofs.Common.{◌≡◌, ℕ, Bool, true, false, List, [], ◌∷◌, ◌++◌, replicate, refl, ap, ◌∙◌, Option, Some, None, if◌then◌else◌}
use Rattle.std.specs.Prelude.{pos, codes, option_map, ◌&&◌}
use Rattle.std.specs.List.{AllByRecursion}
use Rattle.f77_ast.specs.Trees.{StmtTree}
use Rattle.f77_ast.specs.Trees as tree
use Rattle.f77_ast.specs.DeclTrees.{DeclTree, ModuleTree}
use Rattle.f77_ast.specs.DeclTrees as decl
use Rattle.f77_ast.specs.declared.results.At.{At}
use Rattle.fixed_form.specs.TextLines.{text_lines}
use Rattle.fixed_form.specs.Cards.{front, filled, card, columns, is_initial}
use Rattle.fixed_form.specs.Body.{stripped}
use Rattle.system_text.specs.Reading.{Bytes, ◌>>=◌}
use Rattle.result_lines.specs.ReductionText.{reduction_text}
use Rattle.result_lines.specs.declared.reduction.ReduceOp.{ReduceOp}
use Rattle.result_lines.specs.declared.reduction.ReduceOp.TheVariants.{Sum, Max, And}
use Rattle.laws_lines.specs.Marks.Directives.{is_openmp, more_columns, Clause, Clauses, private_alone, read_directive, read_lines, directives_from, directives_in}
use Rattle.laws_lines.specs.Marks.Marked.{with_functions}

plain : read_lines (codes "C$OMP PARALLEL DO" ∷ []) ≡ Some (private_alone [])
unfolding front filled
plain = refl

-- ---- REDUCTION clauses

-- what is written of two loops
abbrev symbols : List Bytes
symbols = codes "A" ∷ (codes "J" ∷ (codes "K" ∷ (codes "M" ∷ [])))

sum_text : reduction_text symbols [] (record { cell = 3; op = Sum } ∷ []) ≡ codes "PARALLEL DO REDUCTION(+:K)"
sum_text = refl

largest_text : reduction_text symbols (2 ∷ []) (record { cell = 4; op = Max } ∷ []) ≡ codes "PARALLEL DO PRIVATE(J) REDUCTION(MAX:M)"
largest_text = refl

-- and what it is read as
abbrev clause : ReduceOp → Bytes → Clause
clause o x = record { op = o; name = x }

abbrev of_clauses : List Bytes → List Clause → Option Clauses
of_clauses names cs = Some (record { private = names; reductions = cs })

sum_read : read_directive (codes "PARALLELDOREDUCTION(+:K)") ≡ of_clauses [] (clause Sum (codes "K") ∷ [])
sum_read = refl

several_read : read_directive (codes "PARALLELDOPRIVATE(I,J)REDUCTION(.AND.:OK)REDUCTION(MAX:M)") ≡ of_clauses (codes "I" ∷ (codes "J" ∷ [])) (clause And (codes "OK") ∷ (clause Max (codes "M") ∷ []))
several_read = refl

-- an operator that is not known here, none, one clause for two variables, clauses in another order, and more behind them are not read
unknown : read_directive (codes "PARALLELDOREDUCTION(*:K)") ≡ None
unknown = refl

without : read_directive (codes "PARALLELDOREDUCTION(K)") ≡ None
without = refl

for_two : read_directive (codes "PARALLELDOREDUCTION(+:K,L)") ≡ None
for_two = refl

turned : read_directive (codes "PARALLELDOREDUCTION(+:K)PRIVATE(J)") ≡ None
turned = refl

more : read_directive (codes "PARALLELDOREDUCTION(+:K)NOWAIT") ≡ None
more = refl

-- ---- a directive of two lines, which are cut inside a clause

abbrev first_line : Bytes
first_line = codes "C$OMP PARALLEL DO PRIVATE(I) REDUCTION(+"

abbrev second_line : Bytes
second_line = codes "C$OMP&:K1)"

-- pieces of a text, each with what is left of it without blanks
abbrev Stripped : List (Bytes × Bytes) → Type 0
Stripped ps = AllByRecursion (λ (p : Bytes × Bytes). (y : Bytes) → stripped false (p.0 ++ y) ≡ p.1 ++ stripped false y) ps

abbrev before : List (Bytes × Bytes) → Bytes
before [] = []
before (p ∷ ps) = p.0 ++ before ps

abbrev after : List (Bytes × Bytes) → Bytes
after [] = []
after (p ∷ ps) = p.1 ++ after ps

all_stripped : (ps : List (Bytes × Bytes)) → Stripped ps → stripped false (before ps) ≡ after ps
all_stripped [] h = refl
all_stripped (p ∷ ps) h = h.0 (before ps) ∙ ap (λ (z : Bytes). p.1 ++ z) (all_stripped ps h.1)

two_lines : (l : Bytes) (ls : List Bytes) (t u : Bytes) (ps : List (Bytes × Bytes)) (c : Clauses) → (is_openmp l && is_initial (card l)) ≡ true → columns (card l) ≡ t → more_columns ls ≡ Some u
    → t ++ u ≡ before ps → Stripped ps → read_directive (after ps) ≡ Some c → read_lines (l ∷ ls) ≡ Some c
two_lines l ls t u ps c o e f g h r =
    ap (λ (b : Bool). (if b then option_map (λ (x : Bytes). stripped false (columns (card l) ++ x)) (more_columns ls) else None) >>= read_directive) o
    ∙ ap (λ (m : Option Bytes). option_map (λ (x : Bytes). stripped false (columns (card l) ++ x)) m >>= read_directive) f
    ∙ ap (λ (x : Bytes). read_directive (stripped false (x ++ u))) e
    ∙ ap (λ (x : Bytes). read_directive (stripped false x)) g
    ∙ ap read_directive (all_stripped ps h)
    ∙ r

abbrev spaces : ℕ → Bytes
spaces n = replicate n 32

abbrev the_pieces : List (Bytes × Bytes)
the_pieces =
    (codes "PARALLEL ", codes "PARALLEL")
    ∷ ((codes "DO ", codes "DO")
    ∷ ((codes "PRIVATE(", codes "PRIVATE(")
    ∷ ((codes "I) ", codes "I)")
    ∷ ((codes "REDUCTION(", codes "REDUCTION(")
    ∷ ((codes "+" ++ spaces 32, codes "+")
    ∷ ((codes ":K1)" ++ spaces 62, codes ":K1)")
    ∷ []))))))

first_opens : (is_openmp first_line && is_initial (card first_line)) ≡ true
unfolding front filled
first_opens = refl

first_columns : columns (card first_line) ≡ codes "PARALLEL DO PRIVATE(I) REDUCTION(+" ++ spaces 32
unfolding front filled
first_columns = refl

second_columns : more_columns (second_line ∷ []) ≡ Some (codes ":K1)" ++ spaces 62)
unfolding front filled
second_columns = refl

cut_inside : read_lines (first_line ∷ (second_line ∷ [])) ≡ of_clauses (codes "I" ∷ []) (clause Sum (codes "K1") ∷ [])
cut_inside =
    two_lines first_line (second_line ∷ []) (codes "PARALLEL DO PRIVATE(I) REDUCTION(+" ++ spaces 32) (codes ":K1)" ++ spaces 62) the_pieces
    (record { private = codes "I" ∷ []; reductions = clause Sum (codes "K1") ∷ [] }) first_opens first_columns second_columns refl
    ((λ y. refl), ((λ y. refl), ((λ y. refl), ((λ y. refl), ((λ y. refl), ((λ y. refl), ((λ y. refl), tt))))))) refl

-- a text with it: the directive is of the line behind its two lines
abbrev a_text : Bytes
a_text = codes "      PROGRAM P\nC$OMP PARALLEL DO PRIVATE(I) REDUCTION(+\nC$OMP&:K1)\n      DO 10 J=1,3\n"

abbrev sum_of : Clauses
sum_of = record { private = codes "I" ∷ []; reductions = clause Sum (codes "K1") ∷ [] }

lines_in : text_lines a_text ≡ codes "      PROGRAM P" ∷ (first_line ∷ (second_line ∷ (codes "      DO 10 J=1,3" ∷ [])))
lines_in = refl

found_in : directives_in a_text ≡ Some (record { line = 4; says = sum_of } ∷ [])
unfolding directives_from
found_in = ap (directives_from 1 []) lines_in ∙ ap (λ (o : Option Clauses). o >>= (λ (c : Clauses). Some (record { line = 4; says = c } ∷ []))) cut_inside

-- ---- other directives

-- other directives are not read, and so is no text that has them
other : read_lines (codes "C$OMP BARRIER" ∷ []) ≡ None
unfolding front filled
other = refl

two : read_lines (codes "C$OMP PARALLEL DO" ∷ (codes "C$OMP PARALLEL DO" ∷ [])) ≡ None
unfolding front filled
two = refl

-- the body of DO 1 takes the value of F
abbrev hidden_call : StmtTree
hidden_call = tree.stmt 4098 None (tree.call (codes "F") tree.no_exprs)

abbrev a_loop : StmtTree
a_loop = tree.stmt 1 None (tree.do_loop (tree.loop (codes "I") (tree.int (pos 1)) (tree.int (pos 2)) None (tree.more_stmts hidden_call tree.no_stmts)))

abbrev a_module : List DeclTree → ModuleTree
a_module ds = record {
  name = codes "P";
  main = true;
  titled = true;
  dummies = [];
  decls = ds;
  body = tree.more_stmts a_loop tree.no_stmts;
  function = None;
  references = 2 ∷ [];
  whiles = [];
}

abbrev marked_names : List Bytes → List (At Clauses)
marked_names xs = record { id = 1; value = private_alone xs } ∷ []

function_too : with_functions (a_module []) (marked_names (codes "X" ∷ [])) ≡ marked_names (codes "X" ∷ (codes "F" ∷ []))
function_too = refl

-- where all is saved, so is its result
saved : with_functions (a_module (decl.save [] ∷ [])) (marked_names (codes "X" ∷ [])) ≡ marked_names (codes "X" ∷ [])
saved = refl
