-- A DO is read as a marked one just where it has a reduction, or where its mark says that it is parallel, with the clauses that are written of it.
use Rattle.std.proofs.Common.{inl, inr, ◌⊎◌, ◌≡◌, ℕ, zero, suc, Bool, true, false, List, [], ◌∷◌, ◌++◌, map, Option, Some, None, refl, ap, ◌∙◌, subst, nat_eq, if◌then◌else◌}
use Rattle.std.specs.Prelude.{slice_get, bytes_eq}
use Rattle.std.proofs.lemmas.Bool.{eqb-true}
use Rattle.std.proofs.lemmas.Slice.Eq.{bytes_eq-Decides}
use Rattle.f77_ast.specs.DeclTrees.{ModuleTree}
use Rattle.f77_ast.specs.declared.results.At.{At}
use Rattle.f77_meaning.specs.Modules.{symbol_names}
use Rattle.f77_ast.specs.declared.marks.Mark.{Mark}
use Rattle.f77_ast.specs.declared.marks.Mark.TheVariants.{Parallel, Serial}
use Rattle.f77_ast.specs.ResultLists.{value_at}
use Rattle.loop_marker.specs.privatizer.Functions.{module_functions}
use Rattle.loop_marker.specs.Results.{ModuleResults}
use Rattle.result_lines.specs.ShownMarks.{shown_numbers}
use Rattle.result_lines.specs.ReductionLines.{LoopSaid, loop_said, loop_said_at}
use Rattle.result_lines.specs.declared.reduction.Reduction.{Reduction}
use Rattle.system_text.specs.Reading.{Bytes}
use Rattle.laws_lines.specs.Marks.Directives.{Clauses}
use Rattle.laws_lines.specs.Marks.Lines.{clauses_of}
use Rattle.laws_lines.specs.Marks.Marked.{functions_of, with_private, with_functions}
use Rattle.laws_lines.specs.Marks.MarkedLoops.{as_parallel, parallel_in, clauses_at, name_in, parallel_loops, directives_found}

-- the clauses of the DO with this number: those that are written, which name no function, and the functions of which its body takes values
abbrev pub marked_clauses : ModuleTree → List Bytes → ℕ → Reduction → Clauses
marked_clauses t names n r = with_private (clauses_of names (shown_numbers t names r.private) r.parts) (functions_of t n)

-- a DO with this mark has this reduction; or it has none, and is parallel
abbrev pub IsSaid : Mark → Option Reduction → Reduction → Type 0
IsSaid v o r = (o ≡ Some r) ⊎ ((o ≡ None) × (v ≡ Parallel r.private) × (r.parts ≡ []))

-- one of the marks is that of the DO with this number; and these are its clauses
pub record IsParallelAmong (t : ModuleTree) (names : List Bytes) (rs : List (At Reduction)) (ms : List (At Mark)) (n : ℕ) (c : Clauses) : Type 0 where
  pub place : ℕ
  pub mark : Mark
  pub there : slice_get ms place ≡ Some (record { id = n; value = mark })
  pub reduction : Reduction
  pub said : IsSaid mark (value_at rs n) reduction
  pub clauses : c ≡ marked_clauses t names n reduction

abbrev at_number : Mark → ℕ → At Mark
at_number v n = record { id = n; value = v }

module _ (t : ModuleTree) (names : List Bytes) (rs : List (At Reduction)) where
  abbrev said_in : List (At Mark) → List (At LoopSaid)
  said_in ms = map (loop_said_at (module_functions t) names rs) ms

  abbrev named_marks : List (At Mark) → List (At Clauses)
  named_marks ms = with_functions t (parallel_in names (said_in ms))

  later : (m : At Mark) (ms : List (At Mark)) (n : ℕ) (c : Clauses) → IsParallelAmong t names rs ms n c → IsParallelAmong t names rs (m ∷ ms) n c
  later m ms n c h = record { place = suc h.place; mark = h.mark; there = h.there; reduction = h.reduction; said = h.said; clauses = h.clauses }

  -- of the marks behind the first
  abbrev Later : List (At Mark) → ℕ → Clauses → Type 0
  Later ms n c = clauses_at (named_marks ms) n ≡ Some c → IsParallelAmong t names rs ms n c

  pub marked_with : (ms : List (At Mark)) (n : ℕ) (c : Clauses) → clauses_at (named_marks ms) n ≡ Some c → IsParallelAmong t names rs ms n c
  marked_with [] n c e = cc
  marked_with (m ∷ ms) n c e = here m.value (value_at rs m.id) refl refl e (marked_with ms n c)
    where
      one : (b : Bool) (r : Reduction) → nat_eq m.id n ≡ b → IsSaid m.value (value_at rs m.id) r → (if b then Some (marked_clauses t names m.id r) else clauses_at (named_marks ms) n) ≡ Some c → Later ms n c
          → IsParallelAmong t names rs (m ∷ ms) n c
      one true r q s k ih =
          let same : m.id ≡ n = eqb-true m.id n q in
          let is : c ≡ marked_clauses t names m.id r = cc in
          record {
            place = zero;
            mark = m.value;
            there = ap (λ (i : ℕ). Some (at_number m.value i)) same;
            reduction = r;
            said = subst (λ (i : ℕ). IsSaid m.value (value_at rs i) r) same s;
            clauses = is ∙ ap (λ (i : ℕ). marked_clauses t names i r) same;
          }
      one false r q s k ih = later m ms n c (ih k)

      here : (v : Mark) (o : Option Reduction) → m.value ≡ v → value_at rs m.id ≡ o
          → clauses_at (with_functions t (as_parallel names m.id (loop_said (module_functions t) names v o) ++ parallel_in names (said_in ms))) n ≡ Some c → Later ms n c → IsParallelAmong t names rs (m ∷ ms) n c
      here v (Some r) u w k ih = one (nat_eq m.id n) r refl (inl w) k ih
      here (Parallel ns) None u w k ih = one (nat_eq m.id n) (record { private = ns; parts = [] }) refl (inr (w, u, refl)) k ih
      here (Serial r) None u w k ih = later m ms n c (ih k)

-- of the modules of which marks are found
pub record IsDirective (reduced : ModuleResults → List (At Reduction)) (fs : List ModuleResults) (x : Bytes) (n : ℕ) (c : Clauses) : Type 0 where
  pub place : ℕ
  pub found : ModuleResults
  pub there : slice_get fs place ≡ Some found
  pub name : name_in found ≡ x
  pub among : IsParallelAmong found.known.read (symbol_names found.known.symbols) (reduced found) found.marks n c

pub directive_is_found : (reduced : ModuleResults → List (At Reduction)) (fs : List ModuleResults) (x : Bytes) (n : ℕ) (c : Clauses) → directives_found reduced fs x n ≡ Some c → IsDirective reduced fs x n c
directive_is_found reduced [] x n c e = cc
directive_is_found reduced (f ∷ fs) x n c e = go (bytes_eq (name_in f) x) refl e (directive_is_found reduced fs x n c)
  where
    go : (b : Bool) → bytes_eq (name_in f) x ≡ b → (if b then clauses_at (parallel_loops (reduced f) f) n else directives_found reduced fs x n) ≡ Some c
        → (directives_found reduced fs x n ≡ Some c → IsDirective reduced fs x n c) → IsDirective reduced (f ∷ fs) x n c
    go true q k ih = record {
      place = zero;
      found = f;
      there = refl;
      name = (bytes_eq-Decides (name_in f) x).0 q;
      among = marked_with f.known.read (symbol_names f.known.symbols) (reduced f) f.marks n c k;
    }
    go false q k ih =
        let d = ih k in
        record { place = suc d.place; found = d.found; there = d.there; name = d.name; among = d.among }
