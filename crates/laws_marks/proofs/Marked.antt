-- What is said of a DO of a module, found by its number.
use Rattle.std.proofs.Common.{◌≡◌, ℕ, Bool, true, false, List, [], ◌∷◌, Option, Some, None, refl, sym, ap, ◌∙◌, subst}
use Rattle.std.specs.Prelude.{if◌then◌else◌}
use Rattle.f77_ast.specs.Trees.{LoopTree, WhatTree}
use Rattle.f77_ast.specs.Trees as tree
use Rattle.f77_ast.specs.StatementNumbers.{HasNumbers}
use Rattle.f77_ast.specs.declared.results.At.{At}
use Rattle.f77_ast.specs.declared.marks.Mark.{Mark}
use Rattle.f77_ast.specs.declared.marks.Mark.TheVariants.{Parallel, Serial}
use Rattle.f77_ast.specs.declared.marks.Reason.{Reason}
use Rattle.call_graph.specs.declared.graph.Graph.{Graph}
use Rattle.call_graph.specs.CallsIn.{Each}
use Rattle.call_graph.proofs.EachLaws.{each_joined}
use Rattle.preconditions.specs.transformers.Lists.{value_at}
use Rattle.loop_marker.specs.Results.{ModuleResults}
use Rattle.loop_marker.specs.Phases.{phases_of, marks_found}
use Rattle.loop_marker.specs.module_phases.ScalarPhases.{scope_of}
use Rattle.loop_marker.specs.dependence_test.Finding.{loop_in}
use Rattle.loop_marker.specs.Marks.{mark_of}
use Rattle.result_lines.specs.declared.reduction.Reduction.{Reduction}
use Rattle.reductions.specs.Reduced.{is_carried_by, is_carried, at_number, reduction_in, reduction_of, found_at as reduced_at, reduced_of}
use Rattle.laws_analyses.proofs.Regions.Programs.{distinct_numbers}
use Rattle.laws_marks.specs.Said.{knowledge, reductions_of, without_parts, said_of, said_at}
use Rattle.laws_marks.specs.Units.{index_in}
use Rattle.laws_marks.specs.Verdicts.{Says}
use Rattle.laws_marks.proofs.ConflictWhats.{as_loop, each_found, list_whats}
use Rattle.laws_marks.proofs.DoEffects.{DoIs, list_dos}
use Rattle.laws_marks.proofs.Marks.{FoundAt, list_marks, found_at}
use Rattle.laws_marks.proofs.Modules.{each_two}
use Rattle.laws_marks.proofs.Said.{says_parallel, reductions_say}

module _ (g : Graph) (f : ModuleResults) (numbered : HasNumbers f.known.read.body) (is : f.marks ≡ marks_found g.untracked (phases_of f) f.effects) where
  pub index_same : (l : LoopTree) → ((knowledge g f).body l).index ≡ index_in (scope_of g.untracked f.known) l
  index_same (tree.loop index first last step body) = refl

  -- Q: of each DO of the module
  module _ (Q : ℕ → LoopTree → Type 0) (all : Each (DoIs Q) (list_whats f.known.read.body)) where
    -- the mark of a DO that is found by its number
    record MarkOf (a : At Mark) : Type 0 where
      label : Option ℕ
      loop : LoopTree
      found : loop_in a.id f.known.read.body ≡ Some loop
      value : a.value ≡ mark_of (knowledge g f) a.id label loop
      so : Q a.id loop

    abbrev Told : At WhatTree → Type 0
    Told a = (loop_in a.id f.known.read.body ≡ as_loop a.value) × DoIs Q a

    each_told : Each Told (list_whats f.known.read.body)
    each_told =
        let body = f.known.read.body in
        each_two (λ a. loop_in a.id body ≡ as_loop a.value) (DoIs Q) Told (λ a p q. (p, q)) (list_whats body) (each_found body (distinct_numbers body numbered)) all

    each_mark : Each MarkOf f.marks
    each_mark = subst (Each MarkOf) (sym is) (list_marks (mark_of (knowledge g f)) Told MarkOf (λ n label l p. record { label = label; loop = l; found = p.0; value = refl; so = p.1 }) f.known.read.body each_told)

    -- the reduction variables of a DO that is found by its number
    record ReducedAs (a : At Reduction) : Type 0 where
      label : Option ℕ
      loop : LoopTree
      found : loop_in a.id f.known.read.body ≡ Some loop
      reason : Reason
      mark : mark_of (knowledge g f) a.id label loop ≡ Serial reason
      carried : is_carried_by reason ≡ true
      value : reduction_of (knowledge g f) g.order a.id loop ≡ Some a.value
      so : Q a.id loop

    at_loop : (m : At Mark) (o : MarkOf m) (s : Reason) → m.value ≡ Serial s → is_carried_by s ≡ true → (q : Option Reduction) → reduction_of (knowledge g f) g.order m.id o.loop ≡ q → Each ReducedAs (at_number m.id q)
    at_loop m o s e c None h = tt
    at_loop m o s e c (Some r) h = (record { label = o.label; loop = o.loop; found = o.found; reason = s; mark = sym o.value ∙ e; carried = c; value = h; so = o.so }, tt)

    one_reduced : (m : At Mark) → MarkOf m → Each ReducedAs (reduced_at (knowledge g f) g.order m)
    one_reduced m o = go m.value refl
      where
        carried : (s : Reason) (c : Bool) → is_carried_by s ≡ c → m.value ≡ Serial s → Each ReducedAs (if c then at_number m.id (reduction_in (knowledge g f) g.order m.id (loop_in m.id f.known.read.body)) else [])
        carried s false c e = tt
        carried s true c e =
            subst (λ q. Each ReducedAs (at_number m.id (reduction_in (knowledge g f) g.order m.id q))) (sym o.found) (at_loop m o s e c (reduction_of (knowledge g f) g.order m.id o.loop) refl)

        go : (w : Mark) → m.value ≡ w → Each ReducedAs (if is_carried w then at_number m.id (reduction_in (knowledge g f) g.order m.id (loop_in m.id f.known.read.body)) else [])
        go (Parallel ns) e = tt
        go (Serial s) e = carried s (is_carried_by s) refl e

    each_reduced : (ms : List (At Mark)) → Each MarkOf ms → Each ReducedAs (reduced_of (knowledge g f) g.order ms)
    each_reduced [] h = tt
    each_reduced (m ∷ ms) h = each_joined ReducedAs (reduced_at (knowledge g f) g.order m) (reduced_of (knowledge g f) g.order ms) (one_reduced m h.0) (each_reduced ms h.1)

    each_asked : (reductions : Bool) → Each ReducedAs (reductions_of reductions g f)
    each_asked false = tt
    each_asked true = each_reduced f.marks each_mark

    -- of that DO
    module _ (n : ℕ) (l : LoopTree) (is_do : loop_in n f.known.read.body ≡ Some l) where
      abbrev SaidOf : ℕ → LoopTree → Reduction → Type 0
      SaidOf i z r = Says (knowledge g f) i z r × Q i z

      here : (i : ℕ) (z : LoopTree) (r : Reduction) → i ≡ n → loop_in i f.known.read.body ≡ Some z → SaidOf i z r → SaidOf n l r
      here i z r number found h =
          let same : Some z ≡ Some l = sym found ∙ (ap (λ j. loop_in j f.known.read.body) number ∙ is_do) in
          let one : z ≡ l = cc in
          subst (λ y. SaidOf n y r) one (subst (λ j. SaidOf j z r) number h)

      by_mark : (ns : List ℕ) → FoundAt MarkOf n (Parallel ns) → SaidOf n l (without_parts ns)
      by_mark ns q = (let o = q.is_so in here q.item.id o.loop (without_parts ns) q.number o.found (says_parallel (knowledge g f) q.item.id o.label o.loop ns (sym o.value ∙ q.value), o.so))

      by_reduction : (r : Reduction) → FoundAt ReducedAs n r → SaidOf n l r
      by_reduction r q = (let o = q.is_so in here q.item.id o.loop r q.number o.found (reductions_say g f q.item.id o.label o.loop o.reason r o.mark o.carried (o.value ∙ ap Some q.value), o.so))

      pub said_with : (reductions : Bool) (r : Reduction) → said_at g reductions f n ≡ Some r → Says (knowledge g f) n l r × Q n l
      said_with reductions r e = go (value_at f.marks n) refl e
        where
          reduced : value_at (reductions_of reductions g f) n ≡ Some r → SaidOf n l r
          reduced h = by_reduction r (found_at ReducedAs n r (reductions_of reductions g f) (each_asked reductions) h)

          go : (m : Option Mark) → value_at f.marks n ≡ m → said_of (value_at (reductions_of reductions g f) n) m ≡ Some r → SaidOf n l r
          go None v h = cc
          go (Some (Serial s)) v h = reduced h
          go (Some (Parallel ns)) v h = (let same : without_parts ns ≡ r = cc in subst (SaidOf n l) same (by_mark ns (found_at MarkOf n (Parallel ns) f.marks each_mark v)))

  -- of each DO nothing else
  each_do : Each (DoIs (λ n l. Unit {0})) (list_whats f.known.read.body)
  each_do =
      let body = f.known.read.body in
      list_dos (λ a. loop_in a.id body ≡ as_loop a.value) (λ n l. Unit {0}) (λ n l p h. tt) body (each_found body (distinct_numbers body numbered))

  pub says : (n : ℕ) (l : LoopTree) → loop_in n f.known.read.body ≡ Some l → (reductions : Bool) (r : Reduction) → said_at g reductions f n ≡ Some r → Says (knowledge g f) n l r
  says n l is_do reductions r e = (said_with (λ i z. Unit {0}) each_do n l is_do reductions r e).0
