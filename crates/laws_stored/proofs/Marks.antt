-- Marks: one for each DO, private variables are symbols, and obstacles are variables with names.
use Rattle.std.proofs.Common.{◌≡◌, ℕ, Bool, true, false, List, [], ◌∷◌, Option, Some, None, refl, ap, subst}
use Rattle.std.specs.Prelude.{if◌then◌else◌}
use Rattle.affine_systems.proofs.Basics.{if_cases}
use Rattle.f77_ast.specs.Trees.{ExprTree, StmtTree, WhatTree, ArmTree, ArmTrees, ElseTree, LoopTree, StmtTrees}
use Rattle.f77_ast.specs.Trees as tree
use Rattle.f77_ast.specs.DeclTrees.{ModuleTree}
use Rattle.f77_ast.specs.Shapes.{Walk, walk_stmt, walk_what, walk_body, walk_arms, walk_arm, walk_else, walk_list}
use Rattle.f77_ast.specs.Symbols.{number_from}
use Rattle.f77_ast.specs.declared.variable.Unit.{Unit as BlockUnit}
use Rattle.f77_ast.specs.declared.variable.Variable.{Variable}
use Rattle.f77_ast.specs.declared.variable.Variable.TheVariants.{Own, Block, Saved}
use Rattle.f77_meaning.specs.Modules.{Known, symbol_names}
use Rattle.f77_ast.specs.Variables.{union}
use Rattle.f77_ast.specs.declared.effect_set.EffectSet.{EffectSet}
use Rattle.f77_ast.specs.declared.results.At.{At}
use Rattle.f77_ast.specs.declared.results.Results.{Results}
use Rattle.preconditions.specs.transformer_algebra.declared.transformer.Transformer.{Transformer}
use Rattle.preconditions.specs.transformers.Lists.{value_at, transformer_at}
use Rattle.loop_marker.specs.module_phases.ScalarPhases.{scope_of}
use Rattle.in_out_regions.specs.region_sets.declared.region.Access.{Access}
use Rattle.in_out_regions.specs.region_sets.declared.region.Region.{Region}
use Rattle.f77_ast.specs.declared.marks.Mark.{Mark}
use Rattle.f77_ast.specs.declared.marks.Mark.TheVariants.{Serial}
use Rattle.f77_ast.specs.declared.marks.Reason.TheVariants.{Jump, InputOutput, Step, Index}
use Rattle.in_out_regions.specs.region_sets.Lists.{is_access, accesses, or_none, accesses_at, list_regions}
use Rattle.loop_marker.specs.privatizer.Functions.{own_functions}
use Rattle.loop_marker.specs.privatizer.Uses.{Uses}
use Rattle.loop_marker.specs.declared.verdict.Verdict.{Verdict}
use Rattle.loop_marker.specs.declared.verdict.Verdict.TheVariants.{Free, Copied, Bad}
use Rattle.loop_marker.specs.Jumps.{may_jump, may_have_io, body_of}
use Rattle.loop_marker.specs.Variables.{own_variable, index_of, the_indexes, in_order_with, indexes_in, with_names, inner_in, is_write, written_in}
use Rattle.loop_marker.specs.Marks.{Knowledge, index_is_bad, with_own, verdict_of, by_verdict, marked, by_variables, has_step, by_index, by_step, by_io, mark_of, the_marks, marks_of}
use Rattle.loop_marker.specs.Known.{knowledge_of}
use Rattle.loop_marker.specs.module_phases.OutPhases.{ModuleOuts}
use Rattle.loop_marker.specs.Phases.{analysis_in, known_in, marks_found}
use Rattle.laws_analyses.proofs.Statements.NumberLaws.{ids}
use Rattle.laws_analyses.proofs.Regions.Numbering.{ids_parts}
use Rattle.laws_lines.proofs.Regions.AccessVars.{named_number}
use Rattle.base_json.specs.Scopes.{is_symbol}
use Rattle.base_values.specs.Modules.{the_loops, loops_in}
use Rattle.base_values.specs.Naming.{Each, VariableFits}
use Rattle.base_values.specs.Fits.{MarkFits}
use Rattle.laws_stored.proofs.Lists.{set_found, each-append}
use Rattle.laws_stored.proofs.Symbols.{between}
use Rattle.laws_stored.proofs.EffectNames.{union_each}
use Rattle.laws_stored.proofs.RegionRules.{AreSuch, list_such}
use Rattle.laws_stored.proofs.Access.{IsAccess, own_fits, OwnFits as AllFit}

-- ---- what holds of each part that a walk puts together

record Keeps {A : Type 0} (P : A → Type 0) (f : Walk (List A)) : Type 0 where
  leaf : (n : ℕ) (label : Option ℕ) (w : WhatTree) → Each P (f.of_leaf n label w)
  inner : (n : ℕ) (label : Option ℕ) (test : ExprTree) (xs : List A) → Each P xs → Each P (f.of_inner n label test xs)
  body : (n : ℕ) (label : Option ℕ) (l : LoopTree) (xs : List A) → Each P xs → Each P (f.of_body n label l xs)
  arms : (n : ℕ) (label : Option ℕ) (xs ys : List A) → Each P xs → Each P ys → Each P (f.of_arms n label xs ys)
  arm : (test : ExprTree) (xs ys : List A) → Each P xs → Each P ys → Each P (f.of_arm test xs ys)
  no_arms : Each P f.of_no_arms
  other : (xs : List A) → Each P xs → Each P (f.of_else xs)
  no_else : Each P f.of_no_else
  more : (xs ys : List A) → Each P xs → Each P ys → Each P (f.of_more xs ys)
  end : Each P f.of_end

module _ {A : Type 0} (P : A → Type 0) (f : Walk (List A)) (k : Keeps P f) where
  mutual
    kept_stmt : (s : StmtTree) → Each P (walk_stmt f s)
    kept_stmt (tree.stmt n label w) = kept_what n label w

    kept_what : (n : ℕ) (label : Option ℕ) (w : WhatTree) → Each P (walk_what f n label w)
    kept_what n label (tree.assign a b) = k.leaf n label (tree.assign a b)
    kept_what n label (tree.block_if arms other) = k.arms n label (walk_arms f arms) (walk_else f other) (kept_arms arms) (kept_else other)
    kept_what n label (tree.logical_if test s) = k.inner n label test (walk_stmt f s) (kept_stmt s)
    kept_what n label (tree.do_loop l) = k.body n label l (walk_body f l) (kept_body l)
    kept_what n label (tree.call x es) = k.leaf n label (tree.call x es)
    kept_what n label (tree.goto l) = k.leaf n label (tree.goto l)
    kept_what n label tree.continue = k.leaf n label tree.continue
    kept_what n label tree.return = k.leaf n label tree.return
    kept_what n label (tree.stop text) = k.leaf n label (tree.stop text)
    kept_what n label (tree.print es) = k.leaf n label (tree.print es)
    kept_what n label (tree.read es) = k.leaf n label (tree.read es)

    kept_body : (l : LoopTree) → Each P (walk_body f l)
    kept_body (tree.loop index first last step body) = kept_list body

    kept_arms : (arms : ArmTrees) → Each P (walk_arms f arms)
    kept_arms tree.no_arms = k.no_arms
    kept_arms (tree.more_arms a rest) = kept_arm a (walk_arms f rest) (kept_arms rest)

    kept_arm : (a : ArmTree) (rest : List A) → Each P rest → Each P (walk_arm f a rest)
    kept_arm (tree.arm test body) rest h = k.arm test (walk_list f body) rest (kept_list body) h

    kept_else : (other : ElseTree) → Each P (walk_else f other)
    kept_else tree.no_else = k.no_else
    kept_else (tree.otherwise body) = k.other (walk_list f body) (kept_list body)

    kept_list : (list : StmtTrees) → Each P (walk_list f list)
    kept_list tree.no_stmts = k.end
    kept_list (tree.more_stmts s rest) = k.more (walk_stmt f s) (walk_list f rest) (kept_stmt s) (kept_list rest)

-- ---- what marks name

module _ (names : List (List ℕ)) where
  abbrev N : Variable → Type 0
  N = VariableFits names

  abbrev AreN : List Variable → Type 0
  AreN vs = Each N vs

  abbrev IsSymbol : ℕ → Type 0
  IsSymbol n = is_symbol names n ≡ true

  in_order_named : (so_far vs : List Variable) → AreN so_far → AreN vs → AreN (in_order_with so_far vs)
  in_order_named so_far [] h k = h
  in_order_named so_far (v ∷ vs) h k = in_order_named (union so_far (v ∷ [])) vs (union_each N so_far (v ∷ []) h (k.0, tt)) k.1

  own_named : (o : Option ℕ) → ((n : ℕ) → o ≡ Some n → IsSymbol n) → AreN (own_variable o)
  own_named None f = tt
  own_named (Some n) f = (f n refl, tt)

  index_named : (l : LoopTree) → AreN (index_of names l)
  index_named (tree.loop index first last step body) = own_named (number_from 1 names index) (λ n e. let r = named_number names index n e in between names n r.0 r.1)

  -- the variables of DO statements are symbols
  indexes_named : (list : StmtTrees) → AreN (indexes_in names list)
  indexes_named list =
      in_order_named [] (walk_list (the_indexes names) list) tt
      (kept_list N (the_indexes names) (record {
        leaf = λ n label w. tt;
        inner = λ n label test xs h. h;
        body = λ n label l xs h. each-append N (index_of names l) xs (index_named l) h;
        arms = λ n label xs ys h i. each-append N xs ys h i;
        arm = λ test xs ys h i. each-append N xs ys h i;
        no_arms = tt;
        other = λ xs h. h;
        no_else = tt;
        more = λ xs ys h i. each-append N xs ys h i;
        end = tt;
      }) list)

  with_names_named : (so_far : List Variable) (xs : List (List ℕ)) → AreN so_far → AreN (with_names names so_far xs)
  with_names_named so_far [] h = h
  with_names_named so_far (x ∷ xs) h =
      let own = own_variable (number_from 1 names x) in
      with_names_named (union so_far own) xs (union_each N so_far own h (own_named (number_from 1 names x) (λ n e. let r = named_number names x n e in between names n r.0 r.1)))

  -- nor are the results of functions other than symbols
  inner_all_named : (m : ModuleTree) (l : LoopTree) → AreN (inner_in names m l)
  inner_all_named m l = with_names_named (indexes_in names (body_of l)) (own_functions m (body_of l)) (indexes_named (body_of l))

  abbrev RegionsNamed : List Region → Type 0
  RegionsNamed rs = Each (λ (r : Region). N r.variable) rs

  written_named : (rs : List Region) → RegionsNamed rs → AreN (written_in rs)
  written_named [] h = tt
  written_named (r ∷ rs) h = go (is_write r.kind) (written_named rs h.1)
    where
      go : (b : Bool) → AreN (written_in rs) → AreN (if b then r.variable ∷ written_in rs else written_in rs)
      go true k = (h.0, k)
      go false k = k

  -- ---- marks

  with_named : (ns : List ℕ) (v : Variable) → Each IsSymbol ns → N v → Each IsSymbol (with_own ns v)
  with_named ns (Own n) h k = each-append IsSymbol ns (n ∷ []) h (k, tt)
  with_named ns (Block b) h k = h
  with_named ns (Saved s x) h k = h

  verdict_named : (v : Variable) (next copied : Mark) (t : Verdict) → N v → MarkFits names next → MarkFits names copied → MarkFits names (by_verdict v next copied t)
  verdict_named v next copied Free h i k = i
  verdict_named v next copied Copied h i k = k
  verdict_named v next copied (Bad ks p) h i k = h

  marked_named : (f : Variable → Verdict) (ns : List ℕ) (vs : List Variable) → Each IsSymbol ns → AreN vs → MarkFits names (marked f ns vs)
  marked_named f ns [] h k = h
  marked_named f ns (v ∷ vs) h k =
      verdict_named v (marked f ns vs) (marked f (with_own ns v) vs) (f v) k.0 (marked_named f ns vs h k.1) (marked_named f (with_own ns v) vs (with_named ns v h k.0) k.1)

  choice_named : (b : Bool) (x y : Mark) → MarkFits names x → MarkFits names y → MarkFits names (if b then x else y)
  choice_named true x y h k = h
  choice_named false x y h k = k

  module _ (k : Knowledge) (own : names ≡ k.names) (told : (l : LoopTree) → RegionsNamed (k.body l).regions) where
    by_step_named : (l : LoopTree) (u : Uses) (inner : List Variable) → AreN inner → MarkFits names (by_step k (k.body l) u l inner)
    by_step_named l u inner h =
        let b = k.body l in
        choice_named (has_step b) (by_index k b u l inner) (Serial Step)
        (choice_named (index_is_bad k b u l) (Serial Index) (by_variables k b u l inner) tt
        (marked_named (verdict_of k b u l inner) [] (union inner (written_in b.regions)) tt (union_each N inner (written_in b.regions) h (written_named b.regions (told l))))) tt

    inner_named : (l : LoopTree) → AreN (inner_in k.names k.tree l)
    inner_named l = subst (λ (ns : List (List ℕ)). AreN (inner_in ns k.tree l)) own (inner_all_named k.tree l)

    mark_named : (n : ℕ) (label : Option ℕ) (l : LoopTree) → MarkFits names (mark_of k n label l)
    mark_named n label l =
        let step = by_step k (k.body l) (k.uses n l) l (inner_in k.names k.tree l) in
        choice_named (may_jump k.tree.body k.effects label l) (Serial Jump) (by_io k n l) tt
        (choice_named (may_have_io k.effects (body_of l)) (Serial InputOutput) step tt (by_step_named l (k.uses n l) (inner_in k.names k.tree l) (inner_named l)))

    pub marks_named : Each (λ (m : At Mark). MarkFits names m.value) (marks_of k)
    marks_named =
        let P : At Mark → Type 0 = λ m. MarkFits names m.value in
        kept_list P (the_marks (mark_of k)) (record {
          leaf = λ n label w. tt;
          inner = λ n label test xs h. h;
          body = λ n label l xs h. (mark_named n label l, h);
          arms = λ n label xs ys h i. each-append P xs ys h i;
          arm = λ test xs ys h i. each-append P xs ys h i;
          no_arms = tt;
          other = λ xs h. h;
          no_else = tt;
          more = λ xs ys h i. each-append P xs ys h i;
          end = tt;
        }) k.tree.body

-- ---- each DO has one

module _ (f : ℕ → Option ℕ → LoopTree → Mark) where
  mutual
    n_stmt : (s : StmtTree) → ids (walk_stmt (the_marks f) s) ≡ walk_stmt the_loops s
    n_stmt (tree.stmt n label w) = n_what n label w

    n_what : (n : ℕ) (label : Option ℕ) (w : WhatTree) → ids (walk_what (the_marks f) n label w) ≡ walk_what the_loops n label w
    n_what n label (tree.assign a b) = refl
    n_what n label (tree.block_if arms other) = ids_parts (walk_arms (the_marks f) arms) (walk_else (the_marks f) other) (walk_arms the_loops arms) (walk_else the_loops other) (n_arms arms) (n_else other)
    n_what n label (tree.logical_if test s) = n_stmt s
    n_what n label (tree.do_loop l) = ap (λ ns. n ∷ ns) (n_body l)
    n_what n label (tree.call x es) = refl
    n_what n label (tree.goto l) = refl
    n_what n label tree.continue = refl
    n_what n label tree.return = refl
    n_what n label (tree.stop text) = refl
    n_what n label (tree.print es) = refl
    n_what n label (tree.read es) = refl

    n_body : (l : LoopTree) → ids (walk_body (the_marks f) l) ≡ walk_body the_loops l
    n_body (tree.loop index first last step body) = n_list body

    n_arms : (arms : ArmTrees) → ids (walk_arms (the_marks f) arms) ≡ walk_arms the_loops arms
    n_arms tree.no_arms = refl
    n_arms (tree.more_arms (tree.arm test body) rest) = ids_parts (walk_list (the_marks f) body) (walk_arms (the_marks f) rest) (walk_list the_loops body) (walk_arms the_loops rest) (n_list body) (n_arms rest)

    n_else : (other : ElseTree) → ids (walk_else (the_marks f) other) ≡ walk_else the_loops other
    n_else tree.no_else = refl
    n_else (tree.otherwise body) = n_list body

    n_list : (list : StmtTrees) → ids (walk_list (the_marks f) list) ≡ walk_list the_loops list
    n_list tree.no_stmts = refl
    n_list (tree.more_stmts s rest) = ids_parts (walk_stmt (the_marks f) s) (walk_list (the_marks f) rest) (walk_stmt the_loops s) (walk_list the_loops rest) (n_stmt s) (n_list rest)

-- ---- a module

named_regions : (V : Variable → Type 0) (K : Access → Type 0) (rs : List Region) → AreSuch V K rs → Each (λ (r : Region). V r.variable) rs
named_regions V K [] h = tt
named_regions V K (r ∷ rs) h = (h.0.0, named_regions V K rs h.1)

module _ (untracked : List BlockUnit) (f : ModuleOuts) (e : Results EffectSet) where
  abbrev known : Known
  known = known_in f

  abbrev table : List (List ℕ)
  table = symbol_names (known_in f).symbols

  abbrev knowledge : Knowledge
  knowledge =
      let a = analysis_in f in
      knowledge_of (known_in f).read (known_in f).symbols table (scope_of untracked (known_in f)) e.at a.found.own.at a.holds.at f.known.known.regions.at f.known.ins.at f.outs.at

  pub marks_fit : AllFit (analysis_in f).found.own.at → Each (λ (a : At (List Region)). AreSuch (VariableFits (symbol_names (known_in f).symbols)) IsAccess a.value) f.known.known.regions.at →
      Each (λ (m : At Mark). MarkFits (symbol_names (known_in f).symbols) m.value) (marks_found untracked f e)
  marks_fit fit sets = marks_named table knowledge refl body_named
    where
      V : Variable → Type 0
      V = VariableFits (symbol_names (known_in f).symbols)

      t : ℕ → Transformer
      t = transformer_at (analysis_in f).found.own.at

      kept : (rs : List Region) → AreSuch V IsAccess rs → AreSuch V IsAccess (accesses rs)
      kept [] h = tt
      kept (r ∷ rs) h = let ih = kept rs h.1 in if_cases (AreSuch V IsAccess) (is_access r.kind) (r ∷ accesses rs) (accesses rs) (λ q. (h.0, ih)) (λ q. ih)

      found : (n : ℕ) → AreSuch V IsAccess (accesses_at f.known.known.regions.at n)
      found n = kept (or_none (value_at f.known.known.regions.at n)) (set_found (AreSuch V IsAccess) tt f.known.known.regions.at sets n)

      body_named : (l : LoopTree) → Each (λ (r : Region). V r.variable) (knowledge.body l).regions
      body_named (tree.loop index first last step body) =
          named_regions V IsAccess (list_regions t (accesses_at f.known.known.regions.at) false body) (list_such V IsAccess t (own_fits (analysis_in f).found.own.at fit) (accesses_at f.known.known.regions.at) found false body)

  pub marks_numbers : ids (marks_found untracked f e) ≡ loops_in (known_in f).read.body
  marks_numbers = n_list (mark_of knowledge) (known_in f).read.body
