-- The lines of an analysis are read as what it found.
use Rattle.std.proofs.Common.{◌≡◌, inl, inr, ℕ, ◌-◌, ◌<◌, ◌≤◌, Bool, true, false, not, ◌&&◌, List, [], ◌∷◌, ◌++◌, length, Option, Some, None, arith, refl, sym, ap, ◌∙◌, subst, nat_eq, int_lt, pos}
use Rattle.std.specs.Prelude.{if◌then◌else◌, slice_get}
use Rattle.std.proofs.lemmas.Bool.{or_right, and_parts}
use Rattle.std.proofs.lemmas.Bool.Decides.{nat_tests}
use Rattle.affine_systems.specs.declared.row.Var.{Var}
use Rattle.affine_systems.specs.declared.row.Var.TheVariants.{Cell, Exit, Phi, Aux}
use Rattle.affine_systems.specs.declared.row.Term.{Term}
use Rattle.affine_systems.specs.declared.row.Row.{Row}
use Rattle.affine_systems.specs.declared.row.System.{System}
use Rattle.affine_systems.specs.Terms.{has_no_terms}
use Rattle.affine_systems.specs.Rows.{false_row, AllRows}
use Rattle.affine_systems.specs.Given.{IsGiven}
use Rattle.affine_systems.proofs.FitLaws.{IsTidy, tidy_small, small_given}
use Rattle.system_text.specs.SystemText.{is_never, are_never}
use Rattle.f77_ast.specs.Trees.{StmtTree, WhatTree, ArmTree, ArmTrees, ElseTree, LoopTree, StmtTrees}
use Rattle.f77_ast.specs.Trees as tree
use Rattle.f77_ast.specs.Hidden.{is_hidden}
use Rattle.f77_ast.specs.declared.variable.Unit.{Unit as BlockUnit}
use Rattle.f77_printer.specs.declared.added.Added.{Added}
use Rattle.f77_meaning.specs.Modules.{Known, symbol_names}
use Rattle.affine_forms.specs.Scalars.{flag_of, is_cell}
use Rattle.preconditions.specs.transformer_algebra.declared.transformer.Transformer.{Transformer}
use Rattle.preconditions.specs.transformer_algebra.Cells.{has}
use Rattle.preconditions.specs.transformers.Lists.{value_at}
use Rattle.system_text.specs.Printed.{AreNames, IsNumber, AreNumbers, IsNamed, AreNamed, IsOfNames, IsOrdered}
use Rattle.system_text.proofs.LinesBack.{precondition_lines_read_back, transformer_lines_read_back}
use Rattle.result_lines.specs.ScalarLines.{Said, holds_lines, changes_lines, does_lines, says_changes, visible_lines, own_lines, stmt_lines, part_lines, list_lines, arms_lines, arm_lines, else_lines, loop_lines, entry_lines, said, scalar_lines_of}
use Rattle.loop_marker.specs.module_phases.ScalarPhases.{Analysis, scope_of}
use Rattle.laws_lines.specs.Variables.{EachVar, IsCellOf}
use Rattle.laws_lines.specs.Halves.{IsHalfOf}
use Rattle.laws_lines.specs.Laws.{IsTracked}
use Rattle.laws_lines.specs.Lines.{HoldsThere, DoesThere, MeansResult}
use Rattle.laws_lines.specs.LineLaws.{LinesMeanResults}
use Rattle.laws_lines.proofs.RowVars.{Neat}
use Rattle.laws_lines.proofs.SystemVars.{IsNeat}
use Rattle.laws_lines.proofs.RuleVars.{IsDone, head_has}
use Rattle.laws_lines.proofs.PhaseVars.{each_all, value_is, AnalysisOk}
use Rattle.fx_lists.proofs.Lists.{map_length, got_below}
use Rattle.fx_lists.proofs.Booleans.{clash}
use Rattle.elimination.proofs.ClosedLaws.{rows_weaker as all_more}
use Rattle.fx_lists.proofs.Every.{Every, every_joined}

-- ---- systems of tidied rows are ordered

tidy_never : (r : Row) → IsTidy false r → is_never r ≡ true → r ≡ false_row
tidy_never r (inl h) e =
    let a = and_parts (not r.equal) (has_no_terms r.terms && int_lt r.bound (pos 0)) e in
    let b = and_parts (has_no_terms r.terms) (int_lt r.bound (pos 0)) a.1 in
    clash (has_no_terms r.terms) b.0 h.1.some
tidy_never r (inr f) e = f

never_rows : (such : Var → Type 0) (rs : List Row) → AllRows (Neat false such) rs → are_never rs ≡ true → rs ≡ false_row ∷ []
never_rows such [] h e = cc
never_rows such (r ∷ []) h e = ap (λ (x : Row). x ∷ []) (tidy_never r h.0.0 e)
never_rows such (r ∷ (s ∷ rs)) h e = cc

pub neat_ordered : (such : Var → Type 0) (s : System) → IsNeat such s → IsOrdered s
neat_ordered such s h = record {
  rows = all_more (Neat false such) IsGiven (λ r k. small_given r (tidy_small false r k.0)) s.rows h;
  never = never_rows such s.rows h;
}

-- ---- cells have names

pub cell_number : (flags : List Bool) (n : ℕ) → is_cell flags n ≡ true → (0 < n) × (n ≤ length flags)
cell_number flags n h = go (nat_eq n 0) refl h
  where
    above : nat_eq n 0 ≡ false → 0 < n
    above e = grind (arith, nat_tests)

    there : 0 < n → (o : Option Bool) → slice_get flags (n - 1) ≡ o → flag_of o ≡ true → (0 < n) × (n ≤ length flags)
    there l None q k = cc
    there l (Some b) q k = let i = got_below flags (n - 1) b q in (l, omega (arith, l, i))

    go : (b : Bool) → nat_eq n 0 ≡ b → flag_of (if b then None else slice_get flags (n - 1)) ≡ true → (0 < n) × (n ≤ length flags)
    go true e k = cc
    go false e k = there (above e) (slice_get flags (n - 1)) refl k

tracked_number : (untracked : List BlockUnit) (k : Known) (n : ℕ) → IsTracked untracked k n → IsNumber (symbol_names k.symbols) n
tracked_number untracked k n h =
    let r = cell_number (scope_of untracked k).tracked n h in
    let a : length (scope_of untracked k).tracked ≡ length k.symbols = map_length _ k.symbols in
    let b : length (symbol_names k.symbols) ≡ length k.symbols = map_length _ k.symbols in
    let l = r.1 in
    (r.0, omega (arith, l, a, b))

module _ (names : List (List ℕ)) (ok : ℕ → Type 0) (numbered : (n : ℕ) → ok n → IsNumber names n) where
  named_terms : (such : Var → Type 0) → ((v : Var) → such v → IsNamed names v) → (ts : List Term) → EachVar such ts → AreNamed names ts
  named_terms such f [] h = tt
  named_terms such f (t ∷ ts) h = (f t.var h.0, named_terms such f ts h.1)

  named_system : (such : Var → Type 0) → ((v : Var) → such v → IsNamed names v) → (s : System) → IsNeat such s → IsOfNames names s
  named_system such f s h = all_more (Neat false such) (λ r. AreNamed names r.terms) (λ r k. named_terms such f r.terms k.1) s.rows h

  cell_named : (v : Var) → IsCellOf ok v → IsNamed names v
  cell_named (Cell n) h = numbered n h
  cell_named (Exit n) h = absurd h
  cell_named (Phi n) h = h
  cell_named (Aux n) h = h

  half_named : (cs : List ℕ) → ((c : ℕ) → has cs c ≡ true → ok c) → (v : Var) → IsHalfOf ok cs v → IsNamed names v
  half_named cs f (Cell n) h = numbered n h
  half_named cs f (Exit n) h = numbered n (f n h)
  half_named cs f (Phi n) h = h
  half_named cs f (Aux n) h = h

  cells_numbered : (cs : List ℕ) → ((c : ℕ) → has cs c ≡ true → ok c) → AreNumbers names cs
  cells_numbered [] f = tt
  cells_numbered (c ∷ cs) f = (numbered c (f c (head_has c cs)), cells_numbered cs (λ d e. f d (or_right (nat_eq c d) (has cs d) e)))

  -- ---- the lines of one analysis

  module _ (a : Analysis) (are : AreNames names) (at : (n : ℕ) (s : System) → value_at a.holds.at n ≡ Some s → IsNeat (IsCellOf ok) s) (entry : IsNeat (IsCellOf ok) a.holds.summary) (own : (n : ℕ) (t : Transformer) → value_at a.found.own.at n ≡ Some t → IsDone ok t) (summary : IsDone ok a.found.own.summary) where
    abbrev Means : List Added → Type 0
    Means xs = Every (MeansResult a names) xs

    means-append : (xs ys : List Added) → Means xs → Means ys → Means (xs ++ ys)
    means-append xs ys h k = every_joined (MeansResult a names) xs ys h k

    abbrev k : Said
    k = said names a.found.own.at a.holds.at

    precondition_means : (n : ℕ) (s : System) → IsNeat (IsCellOf ok) s → HoldsThere a n s → Means (holds_lines names n (Some s))
    precondition_means n s h there =
        (inl (s, precondition_lines_read_back names s are (neat_ordered (IsCellOf ok) s h) (named_system (IsCellOf ok) cell_named s h), there), tt)

    changes_mean : (n : ℕ) (t : Transformer) → IsDone ok t → DoesThere a n t → (cs : List ℕ) → t.cells ≡ cs → Means (changes_lines names n cs t.system)
    changes_mean n t d there [] e = tt
    changes_mean n t d there (c ∷ cs) e =
        let H = IsHalfOf ok t.cells in
        let numbers = subst (λ (ds : List ℕ). AreNumbers names ds) e (cells_numbered t.cells d.cells) in
        let read = transformer_lines_read_back names (c ∷ cs) t.system are numbers (neat_ordered H t.system d.system) (named_system H (half_named t.cells d.cells) t.system d.system) in
        (inr (t, read ∙ ap (λ (ds : List ℕ). Some (ds, t.system)) (sym e), there), tt)

    holds_mean : (n : ℕ) → Means (holds_lines names n (value_at a.holds.at n))
    holds_mean n = go (value_at a.holds.at n) refl
      where
        go : (o : Option System) → value_at a.holds.at n ≡ o → Means (holds_lines names n o)
        go None e = tt
        go (Some s) e = precondition_means n s (at n s e) (inl e)

    does_mean : (n : ℕ) → Means (does_lines names n (value_at a.found.own.at n))
    does_mean n = go (value_at a.found.own.at n) refl
      where
        go : (o : Option Transformer) → value_at a.found.own.at n ≡ o → Means (does_lines names n o)
        go None e = tt
        go (Some t) e = changes_mean n t (own n t e) (inl e) t.cells refl

    visible_mean : (n : ℕ) (w : WhatTree) → Means (visible_lines n w k)
    visible_mean n w = means-append (holds_lines names n (value_at a.holds.at n)) (if says_changes w then does_lines names n (value_at a.found.own.at n) else []) (holds_mean n) (go (says_changes w))
      where
        go : (b : Bool) → Means (if b then does_lines names n (value_at a.found.own.at n) else [])
        go true = does_mean n
        go false = tt

    own_mean : (n : ℕ) (w : WhatTree) → Means (own_lines n w k)
    own_mean n w = go (not (is_hidden n))
      where
        go : (b : Bool) → Means (if b then visible_lines n w k else [])
        go true = visible_mean n w
        go false = tt

    mutual
      stmt_mean : (s : StmtTree) → Means (stmt_lines s k)
      stmt_mean (tree.stmt n label w) = means-append (own_lines n w k) (part_lines w k) (own_mean n w) (part_mean w)

      part_mean : (w : WhatTree) → Means (part_lines w k)
      part_mean (tree.assign x e) = tt
      part_mean (tree.block_if arms other) = means-append (arms_lines arms k) (else_lines other k) (arms_mean arms) (else_mean other)
      part_mean (tree.logical_if e s) = tt
      part_mean (tree.do_loop l) = loop_mean l
      part_mean (tree.call x es) = tt
      part_mean (tree.goto l) = tt
      part_mean tree.continue = tt
      part_mean tree.return = tt
      part_mean (tree.stop text) = tt
      part_mean (tree.print es) = tt
      part_mean (tree.read es) = tt

      list_mean : (ss : StmtTrees) → Means (list_lines ss k)
      list_mean tree.no_stmts = tt
      list_mean (tree.more_stmts s rest) = means-append (stmt_lines s k) (list_lines rest k) (stmt_mean s) (list_mean rest)

      arms_mean : (xs : ArmTrees) → Means (arms_lines xs k)
      arms_mean tree.no_arms = tt
      arms_mean (tree.more_arms x rest) = means-append (arm_lines x k) (arms_lines rest k) (arm_mean x) (arms_mean rest)

      arm_mean : (x : ArmTree) → Means (arm_lines x k)
      arm_mean (tree.arm test body) = list_mean body

      else_mean : (x : ElseTree) → Means (else_lines x k)
      else_mean tree.no_else = tt
      else_mean (tree.otherwise body) = list_mean body

      loop_mean : (l : LoopTree) → Means (loop_lines l k)
      loop_mean (tree.loop index first last step body) = list_mean body

    entry_mean : (main : Bool) → Means (entry_lines main names a.holds.summary a.found.own.summary)
    entry_mean true = tt
    entry_mean false =
        let p = precondition_means 0 a.holds.summary entry (inr (refl, refl)) in
        (p.0, changes_mean 0 a.found.own.summary summary (inr (refl, refl)) a.found.own.summary.cells refl)

    pub lines_mean : (main : Bool) (body : StmtTrees) → Means (scalar_lines_of main body names a.found.own a.holds)
    lines_mean main body = means-append (entry_lines main names a.holds.summary a.found.own.summary) (list_lines body k) (entry_mean main) (list_mean body)

-- of an analysis whose systems are such, where the names of its module are names, and distinct
pub analysis_read_back : (untracked : List BlockUnit) (a : Analysis) → AnalysisOk untracked a → AreNames (symbol_names a.found.known.symbols) → LinesMeanResults a
analysis_read_back untracked a h are =
    let ok = IsTracked untracked a.found.known in
    let names = symbol_names a.found.known.symbols in
    let means = lines_mean names ok (tracked_number untracked a.found.known) a are
    (λ n s e. value_is (IsNeat (IsCellOf ok)) a.holds.at n s h.at e) h.entry
    (λ n t e. value_is (IsDone ok) a.found.own.at n t h.found.at e) h.found.summary a.found.known.read.main a.found.known.read.body in
    each_all (MeansResult a names) (MeansResult a names) (λ x m. m)
    (scalar_lines_of a.found.known.read.main a.found.known.read.body names a.found.own a.holds) means
