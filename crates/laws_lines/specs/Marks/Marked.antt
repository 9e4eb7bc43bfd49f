-- What it means to read a text with its directives: the modules of the text, and which of their loops are marked.
use Rattle.std.specs.Prelude.{◌≡◌, ℕ, true, List, [], ◌∷◌, ◌++◌, map, nat_eq, Option, Some, None, option_map, if◌then◌else◌}
use Rattle.std.specs.List.{list_all, list_any}
use Rattle.f77_ast.specs.declared.places.Part.{Part}
use Rattle.f77_ast.specs.declared.places.Part.TheVariants.{Title, Decl, Stmt, ElseIf, Else, Close, End}
use Rattle.f77_ast.specs.declared.places.Spot.{Spot}
use Rattle.f77_ast.specs.Trees.{LoopTree, StmtTrees, loop}
use Rattle.f77_ast.specs.DeclTrees.{ModuleTree, ParsedTree}
use Rattle.f77_ast.specs.Shapes.{Walk, walk_list}
use Rattle.f77_ast.specs.declared.results.At.{At}
use Rattle.loop_marker.specs.dependence_test.Finding.{loop_in}
use Rattle.loop_marker.specs.privatizer.Functions.{own_functions}
use Rattle.system_text.specs.Reading.{Bytes}
use Rattle.laws_programs.specs.roundtrip_programs.Texts.Texts.{IsReadAs}
use Rattle.laws_lines.specs.Marks.Directives.{Clauses, Directive, directives_in}

-- ---- the loops of a module

abbrev pub the_loops : Walk (List ℕ)
the_loops = record {
  of_leaf = λ n label w. [];
  of_inner = λ n label test s. [];
  of_body = λ n label l body. n ∷ body;
  of_arms = λ n label arms other. arms ++ other;
  of_arm = λ test body rest. body ++ rest;
  of_no_arms = [];
  of_else = λ body. body;
  of_no_else = [];
  of_more = λ s rest. s ++ rest;
  of_end = [];
}

-- the numbers of the DO statements, in the order of the text; the statement in a logical IF is none (ANSI X3.9-1978 §11.5)
abbrev pub loops_in : StmtTrees → List ℕ
loops_in body = walk_list the_loops body

-- ---- which statement a directive stands before

-- the number of an executable statement
abbrev pub number_in : Part → Option ℕ
number_in (Stmt n) = Some n
number_in Title = None
number_in (Decl n) = None
number_in (ElseIf n place) = None
number_in (Else n) = None
number_in (Close n) = None
number_in End = None

-- the line behind the directive is the first one of the statement
abbrev pub taken : Spot → Directive → Option (At Clauses)
taken s d = if nat_eq s.first d.line then option_map (λ (n : ℕ). record { id = n; value = d.says }) (number_in s.part) else None

abbrev pub Attached : Type 0
Attached = List (At Clauses) × List Directive

abbrev pub attached_by : Option (At Clauses) → Attached → Attached → Attached
attached_by None with_it without_it = without_it
attached_by (Some m) with_it without_it = (m ∷ with_it.0, with_it.1)

-- of the statements at these spots, in the order of the text, those before which the directives stand, each with what its own says; and the directives that are left
unfoldable pub attached : List Spot → List Directive → Attached
attached [] ds = ([], ds)
attached (s ∷ ss) [] = ([], [])
attached (s ∷ ss) (d ∷ ds) = attached_by (taken s d) (attached ss ds) (attached ss (d ∷ ds))

abbrev pub all_attached : List ParsedTree → List Directive → List (List (At Clauses)) × List Directive
all_attached [] ds = ([], ds)
all_attached (p ∷ ps) ds =
    let own = attached p.places.spots ds in
    let more = all_attached ps own.1 in
    (own.0 ∷ more.0, more.1)

-- ---- the names that the text does not say

abbrev pub functions_in_loop : ModuleTree → Option LoopTree → List Bytes
functions_in_loop m None = []
functions_in_loop m (Some (loop i first last step body)) = own_functions m body

-- the functions of which the body of the DO with this number takes values; none in a module that saves all its variables (ANSI X3.9-1978 §8.9), the results of its functions too
abbrev pub functions_of : ModuleTree → ℕ → List Bytes
functions_of m n = functions_in_loop m (loop_in n m.body)

abbrev pub with_private : Clauses → List Bytes → Clauses
with_private c names = record { private = c.private ++ names; reductions = c.reductions }

-- their results are private in the DO, too: each iteration has its own
abbrev pub with_functions : ModuleTree → List (At Clauses) → List (At Clauses)
with_functions m ms = map (λ (x : At Clauses). record { id = x.id; value = with_private x.value (functions_of m x.id) }) ms

-- of modules, with the marked loops of each
abbrev pub all_with_functions : List ParsedTree → List (List (At Clauses)) → List (List (At Clauses))
all_with_functions [] mss = []
all_with_functions (p ∷ ps) [] = []
all_with_functions (p ∷ ps) (ms ∷ mss) = with_functions p.module_read ms ∷ all_with_functions ps mss

-- ---- texts

-- each marked statement is a DO
abbrev pub AreOfLoops : List ParsedTree → List (List (At Clauses)) → Type 0
AreOfLoops [] [] = Unit {0}
AreOfLoops [] (ms ∷ mss) = ⊥
AreOfLoops (p ∷ ps) [] = ⊥
AreOfLoops (p ∷ ps) (ms ∷ mss) = (list_all (λ (m : At Clauses). list_any (nat_eq m.id) (loops_in p.module_read.body)) ms ≡ true) × AreOfLoops ps mss

-- the text is read as these modules, and in each the DO statements with these numbers are marked, with these clauses: a directive stands directly before
-- each of them, in the lines above its first one, and no line for compilers stands anywhere else. The clauses are those of the directive, but that the private names
-- are also those of the functions of which the body takes values
pub record ReadMarked (text : Bytes) (ps : List ParsedTree) (marks : List (List (At Clauses))) : Type 0 where
  pub read : IsReadAs text ps
  pub directives : List Directive
  pub found : directives_in text ≡ Some directives
  pub named : List (List (At Clauses))
  pub attached : all_attached ps directives ≡ (named, [])
  pub marked : all_with_functions ps named ≡ marks
  pub loops : AreOfLoops ps marks
