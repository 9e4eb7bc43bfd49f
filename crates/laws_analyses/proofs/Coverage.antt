-- The analyses of a program leave no module and no statement out.
use Rattle.std.proofs.Common.{◌≡◌, ℕ, zero, suc, true, false, List, [], ◌∷◌, ◌++◌, length, Option, Some, None, refl, sym, ap, ◌∙◌, subst}
use Rattle.std.specs.Prelude.{slice_get, bytes_eq, is_some, IsSome, reverse}
use Rattle.std.proofs.lemmas.Slice.Eq.{bytes_eq-Decides}
use Rattle.affine_systems.specs.declared.row.System.{System}
use Rattle.f77_ast.specs.DeclTrees.{ParsedTree}
use Rattle.f77_ast.specs.declared.variable.Unit.{Unit as BlockUnit}
use Rattle.f77_ast.specs.Symbols.{SymbolTree}
use Rattle.f77_ast.specs.declared.results.At.{At}
use Rattle.f77_ast.specs.declared.results.Results.{Results}
use Rattle.call_graph.specs.declared.graph.Graph.{Graph}
use Rattle.f77_meaning.specs.Modules.{Known, known_of}
use Rattle.preconditions.specs.transformer_algebra.declared.transformer.Transformer.{Transformer}
use Rattle.preconditions.specs.transformers.Given.{Callees}
use Rattle.preconditions.specs.transformers.Lists.{value_at}
use Rattle.preconditions.specs.transformers.Modules.{transformers_of}
use Rattle.preconditions.specs.Modules.{preconditions_of}
use Rattle.laws_programs.specs.Storage.Programs.{IsLinked, IsModule, known}
use Rattle.laws_programs.specs.Programs.{IsProgram}
use Rattle.laws_programs.proofs.Sources.{all_built}
use Rattle.laws_programs.proofs.Tables.{programs_are_linked}
use Rattle.laws_programs.proofs.Whole.{bodies_numbered}
use Rattle.laws_analyses.specs.Statements.Laws.{HaveOwnNumbers}
use Rattle.f77_ast.specs.StatementNumbers.{HasNumbers, list_numbers}
use Rattle.laws_analyses.specs.Statements.Results.{found_in}
use Rattle.laws_analyses.proofs.Statements.MainResults.{found_at}
use Rattle.laws_analyses.proofs.Statements.NumberLaws.{ids, own_numbers, t_list, p_list}
use Rattle.module_phases.specs.ScalarPhases.{scope_of, Found, Analysis, analyses}
use Rattle.laws_analyses.specs.Claims.{precondition_in, transformer_in}
use Rattle.laws_analyses.specs.Coverage.{IsWhole, AreWhole}
use Rattle.laws_analyses.specs.Laws.{AnalysesAreWhole}
use Rattle.laws_analyses.specs.Results.{callees_of_all, analysed_entry}
use Rattle.laws_analyses.proofs.Analyses.{Fronted, fronted, in_order_found, analyses_are, analysis_of_module, Located, all_located, holds_are}
use Rattle.laws_analyses.proofs.Founds.{found_in_order}
use Rattle.laws_analyses.proofs.Orders.{NotIn, order_sorted}
use Rattle.laws_analyses.proofs.Passes.{run}
use Rattle.laws_analyses.proofs.UnitLaws.{ModuleAt, module_at}
use Rattle.call_graph.proofs.EachLaws.{each_place}

-- ---- places in lists

middle : {T : Type 0} (front : List T) (x : T) (rest : List T) → slice_get (front ++ x ∷ rest) (length front) ≡ Some x
middle [] x rest = refl
middle (y ∷ front) x rest = middle front x rest

-- ---- results at statements

at_number : {T : Type 0} (as' : List (At T)) (ns : List ℕ) (j n : ℕ) → ids as' ≡ ns → slice_get ns j ≡ Some n → (b : At T) × (slice_get as' j ≡ Some b) × (b.id ≡ n)
at_number [] ns j n e h = let z : None ≡ Some n = ap (λ xs. slice_get xs j) e ∙ h in cc
at_number (b ∷ as') ns zero n e h = let z : Some b.id ≡ Some n = ap (λ xs. slice_get xs 0) e ∙ h in let one : b.id ≡ n = cc in (b, refl, one)
at_number (b ∷ as') ns (suc j) n e h =
    let r' = at_number as' (ids as') j n refl (ap (λ xs. slice_get xs (suc j)) e ∙ h) in
    (r'.0, r'.1, r'.2)

value_there : {T : Type 0} (as' : List (At T)) (ns : List ℕ) (j n : ℕ) → ids as' ≡ ns → HaveOwnNumbers as' → slice_get ns j ≡ Some n → IsSome (value_at as' n)
value_there as' ns j n e own h =
    let b = at_number as' ns j n e h in
    let f = found_at as' j b.0 own b.1 in
    ap is_some (ap (value_at as') (sym b.2) ∙ f.1)

precondition_there : (a : Analysis) (n : ℕ) → IsSome (value_at a.holds.at n) → IsSome (precondition_in a n)
precondition_there a zero h = refl
precondition_there a (suc n) h = h

transformer_there : (a : Analysis) (n : ℕ) → IsSome (value_at a.found.own.at n) → IsSome (transformer_in a n)
transformer_there a zero h = refl
transformer_there a (suc n) h = h

-- ---- one analysis a name

run_at : (u : List BlockUnit) (done : List Analysis) (fs : List Found) (j : ℕ) (a : Analysis) → slice_get (run u done fs) j ≡ Some a → slice_get fs j ≡ Some a.found
run_at u done [] j a e = cc
run_at u done (f ∷ fs) zero a e = ap (λ (o : Option Analysis). found_or o) e
  where
    found_or : Option Analysis → Option Found
    found_or None = None
    found_or (Some b) = Some b.found
run_at u done (f ∷ fs) (suc j) a e = run_at u (done ++ Rattle.laws_analyses.proofs.Passes.next u done f ∷ []) fs j a e

module _ (ps : List ParsedTree) (sss : List (List SymbolTree)) (g : Graph) (l : IsLinked ps sss g) where
  not_before : (ns : List (List ℕ)) (fs : List Found) (j : ℕ) (h : Found) → Fronted ps sss g l ns fs → slice_get fs j ≡ Some h → NotIn h.known.read.name ns
  not_before ns [] j h r e = cc
  not_before ns (f ∷ fs) zero h r e = let same : f ≡ h = cc in subst (λ (z : Found). NotIn z.known.read.name ns) same r.0
  not_before ns (f ∷ fs) (suc j) h r e = (not_before (f.known.read.name ∷ ns) fs j h r.2 e).1

  differs : (ns : List (List ℕ)) (f : Found) (fs : List Found) (j : ℕ) (h : Found) → Fronted ps sss g l ns (f ∷ fs) → slice_get fs j ≡ Some h → f.known.read.name ≡ h.known.read.name → ⊥
  differs ns f fs j h r e same =
      let z : true ≡ false = sym ((bytes_eq-Decides f.known.read.name h.known.read.name).1 same) ∙ (not_before (f.known.read.name ∷ ns) fs j h r.2 e).0 in
      cc

  front_once : (ns : List (List ℕ)) (fs : List Found) (i j : ℕ) (f h : Found) → Fronted ps sss g l ns fs → slice_get fs i ≡ Some f → slice_get fs j ≡ Some h → f.known.read.name ≡ h.known.read.name → i ≡ j
  front_once ns [] i j f h r e q same = cc
  front_once ns (x ∷ fs) zero zero f h r e q same = refl
  front_once ns (x ∷ fs) zero (suc j) f h r e q same = let one : x ≡ f = cc in absurd (differs ns x fs j h r q (ap (λ (z : Found). z.known.read.name) one ∙ same))
  front_once ns (x ∷ fs) (suc i) zero f h r e q same = let one : x ≡ h = cc in absurd (differs ns x fs i f r e (ap (λ (z : Found). z.known.read.name) one ∙ sym same))
  front_once ns (x ∷ fs) (suc i) (suc j) f h r e q same = ap suc (front_once (x.known.read.name ∷ ns) fs i j f h r.2 e q same)

  all_fronted : Fronted ps sss g l [] (reverse (in_order_found ps sss g l))
  all_fronted = fronted ps sss g l (in_order_found ps sss g l) (found_in_order ps sss g l g.order Rattle.module_phases.specs.ScalarPhases.no_callees (order_sorted ps sss g l))

  stands_found : (j : ℕ) (a : Analysis) → slice_get (analyses (known_of ps sss) g) j ≡ Some a → slice_get (reverse (in_order_found ps sss g l)) j ≡ Some a.found
  stands_found j a e = run_at g.untracked [] (reverse (in_order_found ps sss g l)) j a (sym (ap (λ as'. slice_get as' j) (analyses_are ps sss g l)) ∙ e)

  once : (i j : ℕ) (a b : Analysis) → slice_get (analyses (known_of ps sss) g) i ≡ Some a → slice_get (analyses (known_of ps sss) g) j ≡ Some b → a.found.known.read.name ≡ b.found.known.read.name → i ≡ j
  once i j a b e q same = front_once [] (reverse (in_order_found ps sss g l)) i j a.found b.found all_fronted (stands_found i a e) (stands_found j b q) same

  -- ---- each module, each statement

  each : (i : ℕ) (k : Known) → slice_get (known_of ps sss) i ≡ Some k → (j : ℕ) × (a : Analysis) × (slice_get (analyses (known_of ps sss) g) j ≡ Some a) × (a.found.known ≡ k)
  each i k e =
      let m = module_at ps sss i k e in
      let f = analysis_of_module ps sss g l i m.parsed m.table m.is_module in
      let r = f.1 in
      (length r.front, f.0, ap (λ as'. slice_get as' (length r.front)) r.parts ∙ middle r.front f.0 r.rest, f.2 ∙ m.same)

  module _ (numbered : (i : ℕ) (p : ParsedTree) (ss : List SymbolTree) → IsModule ps sss i p ss → HasNumbers p.module_read.body) (a : Analysis) (r : Located ps sss g l (analyses (known_of ps sss) g) a) where
    m : ModuleAt ps sss r.good.at a.found.known
    m = module_at ps sss r.good.at a.found.known r.good.is_module

    number : HasNumbers a.found.known.read.body
    number = subst (λ (k : Known). HasNumbers k.read.body) m.same (numbered r.good.at m.parsed m.table m.is_module)

    holds : a.holds ≡ preconditions_of m.parsed.module_read.body (scope_of g.untracked (known m.parsed m.table)) (found_in m.parsed.module_read.body (scope_of g.untracked (known m.parsed m.table)) (callees_of_all (known_of ps sss) g)) (analysed_entry (known_of ps sss) g (known m.parsed m.table))
    holds = holds_are ps sss g l r.good.at m.parsed m.table m.is_module (numbered r.good.at m.parsed m.table m.is_module) a r (sym m.same)

    holds_ids : ids a.holds.at ≡ list_numbers a.found.known.read.body
    holds_ids =
        ap (λ (z : Results System). ids z.at) holds
        ∙ p_list (scope_of g.untracked (known m.parsed m.table)) (found_in m.parsed.module_read.body (scope_of g.untracked (known m.parsed m.table)) (callees_of_all (known_of ps sss) g)) true m.parsed.module_read.body (analysed_entry (known_of ps sss) g (known m.parsed m.table))
        ∙ ap (λ (k : Known). list_numbers k.read.body) m.same

    own_ids : ids a.found.own.at ≡ list_numbers a.found.known.read.body
    own_ids =
        ap (λ (z : Results Transformer). ids z.at) r.good.own
        ∙ t_list (scope_of g.untracked a.found.known) (callees_of_all (known_of ps sss) g) a.found.known.read.body true

    whole_at : IsWhole a
    whole_at = record {
      preconditions = λ j n e. precondition_there a n (value_there a.holds.at (list_numbers a.found.known.read.body) j n holds_ids (own_numbers a.holds.at a.found.known.read.body holds_ids number) e);
      transformers = λ j n e. transformer_there a n (value_there a.found.own.at (list_numbers a.found.known.read.body) j n own_ids (own_numbers a.found.own.at a.found.known.read.body own_ids number) e);
    }

  are_whole : ((i : ℕ) (p : ParsedTree) (ss : List SymbolTree) → IsModule ps sss i p ss → HasNumbers p.module_read.body) → AreWhole (known_of ps sss) (analyses (known_of ps sss) g)
  are_whole numbered =
      let located : (j : ℕ) (a : Analysis) → slice_get (analyses (known_of ps sss) g) j ≡ Some a → Located ps sss g l (analyses (known_of ps sss) g) a =
      λ j a e. each_place (Located ps sss g l (analyses (known_of ps sss) g)) (analyses (known_of ps sss) g) j a (all_located ps sss g l) e in
      record {
        each = each;
        once = once;
        modules = λ j a e. ((located j a e).good.at, (located j a e).good.is_module);
        whole = λ j a e. whole_at numbered a (located j a e);
      }

pub analyses_are_whole : AnalysesAreWhole
analyses_are_whole ps sss g x =
    are_whole ps sss g (programs_are_linked ps sss g x).0
    (λ i p ss m. bodies_numbered x.lines ps x.parsed i p m.parsed)
