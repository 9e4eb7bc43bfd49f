-- The loops that are marked in a program that was read are, by the names of modules and the numbers of DO statements, just those that were found.
use Rattle.std.proofs.Common.{◌≡◌, ◌⊎◌, inl, inr, ℕ, zero, suc, Bool, true, false, List, [], ◌∷◌, map, Option, Some, None, refl, sym, ap, ◌∙◌}
use Rattle.std.specs.Prelude.{if◌then◌else◌, slice_get, bytes_eq}
use Rattle.std.proofs.Math.Path.{fun_ext}
use Rattle.std.proofs.lemmas.Slice.Eq.{bytes_eq-Decides}
use Rattle.f77_ast.specs.DeclTrees.{ModuleTree, ParsedTree}
use Rattle.f77_ast.specs.Symbols.{SymbolTree}
use Rattle.call_graph.specs.declared.graph.Graph.{Graph}
use Rattle.f77_meaning.specs.Modules.{Known, known_of}
use Rattle.f77_ast.specs.declared.results.At.{At}
use Rattle.pipsmake_base.specs.module_phases.ScalarPhases.{analyses}
use Rattle.pipsmake_base.specs.loop_marker.Results.{ModuleResults}
use Rattle.pipsmake_base.specs.result_lines.declared.reduction.Reduction.{Reduction}
use Rattle.laws_programs.specs.roundtrip_programs.Texts.Texts.{module_of}
use Rattle.laws_lines.specs.Marks.MarkedLoops.{clauses_at, directives_of, parallel_loops, directives_found}
use Rattle.laws_bounds.specs.laws_analyses.Coverage.{AreWhole}
use Rattle.laws_lines.specs.Marks.Directives.{Clauses}
use Rattle.laws_bounds.specs.laws_marks.Said.{reductions_of}
use Rattle.pips_top.specs.MarkedText.{loops_of, loops_found}
use Rattle.pips_top.specs.Program.{ProgramTree}
use Rattle.pipsmake_base.specs.pipsmake_meaning.ResultEntries.{results_for}
use Rattle.pips_top.specs.Shown.{results_of_program}
use Rattle.pips_top.specs.declared.wanted.Wanted.{Wanted}
use Rattle.pips_top.proofs.Said.{name_of}
use Rattle.pips_top.proofs.ModulesSaid.{known_back}

abbrev Loops : Type 0
Loops = List (At Clauses)

-- ---- wherever their statements stand

same_directives : (qs ps : List ParsedTree) (mss : List Loops) (x : List ℕ) (n : ℕ) → map module_of qs ≡ map module_of ps → directives_of qs mss x n ≡ directives_of ps mss x n
same_directives [] [] mss x n e = refl
same_directives [] (p ∷ ps) mss x n e = cc
same_directives (q ∷ qs) [] mss x n e = cc
same_directives (q ∷ qs) (p ∷ ps) [] x n e = refl
same_directives (q ∷ qs) (p ∷ ps) (ms ∷ mss) x n e =
    let first : q.module_read ≡ p.module_read = cc in
    let others : map module_of qs ≡ map module_of ps = cc in
    ap (λ (m : ModuleTree). if bytes_eq m.name x then clauses_at ms n else directives_of qs mss x n) first
    ∙ ap (λ (y : Option Clauses). if bytes_eq p.module_read.name x then clauses_at ms n else y) (same_directives qs ps mss x n others)

-- ---- those of the module of a name

module _ (show : Wanted) (g : Graph) where
  abbrev pub reduced : ModuleResults → List (At Reduction)
  reduced f = reductions_of show.reductions g f

  found_by_name : (fs : List ModuleResults) (x : List ℕ) (n : ℕ) → directives_found reduced fs x n ≡ clauses_at (loops_of show g (results_for fs x)) n
  found_by_name [] x n = refl
  found_by_name (f ∷ fs) x n = go (bytes_eq (name_of f) x) (found_by_name fs x n)
    where
      go : (b : Bool) → directives_found reduced fs x n ≡ clauses_at (loops_of show g (results_for fs x)) n
          → (if b then clauses_at (parallel_loops (reduced f) f) n else directives_found reduced fs x n) ≡ clauses_at (loops_of show g (if b then Some f else results_for fs x)) n
      go true ih = refl
      go false ih = ih

-- a module of this name
abbrev Named : List ParsedTree → List ℕ → Type 0
Named ms x = (i : ℕ) × (m : ParsedTree) × (slice_get ms i ≡ Some m) × (m.module_read.name ≡ x)

module _ (show : Wanted) (g : Graph) (all : List ModuleResults) (x : List ℕ) (n : ℕ) where
  abbrev own : ParsedTree → Loops
  own m = loops_of show g (results_for all m.module_read.name)

  abbrev Answer : Option Clauses
  Answer = clauses_at (loops_of show g (results_for all x)) n

  next : (m : ParsedTree) (ms : List ParsedTree) → bytes_eq m.module_read.name x ≡ false → (Answer ≡ None) ⊎ Named (m ∷ ms) x → (Answer ≡ None) ⊎ Named ms x
  next m ms q (inl e) = inl e
  next m ms q (inr (zero, y, e, name)) =
      let same : m ≡ y = cc in
      let is : bytes_eq m.module_read.name x ≡ true = (bytes_eq-Decides m.module_read.name x).1 (ap (λ (z : ParsedTree). z.module_read.name) same ∙ name) in
      let no : false ≡ true = sym q ∙ is in
      cc
  next m ms q (inr (suc i, y, e, name)) = inr (i, y, e, name)

  by_name : (ms : List ParsedTree) → (Answer ≡ None) ⊎ Named ms x → directives_of ms (map own ms) x n ≡ Answer
  by_name [] (inl e) = sym e
  by_name [] (inr (i, m, e, name)) = cc
  by_name (m ∷ ms) h = go (bytes_eq m.module_read.name x) refl (by_name ms)
    where
      go : (b : Bool) → bytes_eq m.module_read.name x ≡ b → ((Answer ≡ None) ⊎ Named ms x → directives_of ms (map own ms) x n ≡ Answer)
          → (if b then clauses_at (own m) n else directives_of ms (map own ms) x n) ≡ Answer
      go true q ih = ap (λ y. clauses_at (loops_of show g (results_for all y)) n) ((bytes_eq-Decides m.module_read.name x).0 q)
      go false q ih = ih (next m ms q h)

-- ---- each module that is looked up is one of the program

said_there : (all : List ModuleResults) (x : List ℕ) (f : ModuleResults) → results_for all x ≡ Some f → (j : ℕ) × (slice_get all j ≡ Some f) × (name_of f ≡ x)
said_there [] x f e = cc
said_there (y ∷ all) x f e = go (bytes_eq (name_of y) x) refl e (said_there all x f)
  where
    go : (b : Bool) → bytes_eq (name_of y) x ≡ b → (if b then Some y else results_for all x) ≡ Some f → (results_for all x ≡ Some f → (j : ℕ) × (slice_get all j ≡ Some f) × (name_of f ≡ x))
        → (j : ℕ) × (slice_get (y ∷ all) j ≡ Some f) × (name_of f ≡ x)
    go true q k ih =
        let same : y ≡ f = cc in
        (zero, k, ap name_of (sym same) ∙ (bytes_eq-Decides (name_of y) x).0 q)
    go false q k ih = let r = ih k in (suc r.0, r.1, r.2)

pub module_there : (ms : List ParsedTree) (ts : List (List SymbolTree)) (i : ℕ) (k : Known) → slice_get (known_of ms ts) i ≡ Some k → (m : ParsedTree) × (slice_get ms i ≡ Some m) × (m.module_read ≡ k.read)
module_there [] ts i k e = cc
module_there (m ∷ ms) [] i k e = cc
module_there (m ∷ ms) (t ∷ ts) zero k e = let same : record { read = m.module_read; symbols = t } ≡ k = cc in (m, refl, ap (λ (y : Known). y.read) same)
module_there (m ∷ ms) (t ∷ ts) (suc i) k e = module_there ms ts i k e

named_or_none : (show : Wanted) (p : ProgramTree) → AreWhole (known_of p.modules p.tables) (analyses (known_of p.modules p.tables) p.graph) → (x : List ℕ) (n : ℕ) (o : Option ModuleResults) → results_for (results_of_program p) x ≡ o
    → (clauses_at (loops_of show p.graph (results_for (results_of_program p) x)) n ≡ None) ⊎ Named p.modules x
named_or_none show p whole x n None e = inl (ap (λ o. clauses_at (loops_of show p.graph o) n) e)
named_or_none show p whole x n (Some f) e =
    let s = said_there (results_of_program p) x f e in
    let k = known_back p whole s.0 f s.1 in
    let m = module_there p.modules p.tables k.0 f.known k.1 in
    inr (k.0, m.0, m.1, ap (λ (t : ModuleTree). t.name) m.2 ∙ s.2)

pub directives_are : (show : Wanted) (p q : ProgramTree) → AreWhole (known_of p.modules p.tables) (analyses (known_of p.modules p.tables) p.graph) → map module_of q.modules ≡ map module_of p.modules
    → directives_of q.modules (loops_found show p) ≡ directives_found (reductions_of show.reductions p.graph) (results_of_program p)
directives_are show p q whole same =
    fun_ext (λ x. fun_ext (λ n.
    same_directives q.modules p.modules (loops_found show p) x n same
    ∙ by_name show p.graph (results_of_program p) x n p.modules (named_or_none show p whole x n (results_for (results_of_program p) x) refl)
    ∙ sym (found_by_name show p.graph (results_of_program p) x n)))
