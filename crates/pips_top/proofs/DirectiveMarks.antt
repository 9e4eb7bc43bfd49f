-- Each directive that is found says what is found of the DO with its number: by its mark, or its reduction variables.
use Rattle.std.proofs.Common.{◌≡◌, inl, inr, ℕ, zero, suc, ◌-◌, ◌<◌, Bool, true, false, List, [], ◌∷◌, map, Option, Some, None, arith, refl, sym, ap, ap₂, ◌∙◌, subst, nat_eq, eq-eqb}
use Rattle.std.specs.Prelude.{if◌then◌else◌, slice_get}
use Rattle.std.proofs.lemmas.Bool.{eqb-true, ne_eqb}
use Rattle.f77_meaning.specs.Modules.{known_of, symbol_names}
use Rattle.f77_ast.specs.declared.results.At.{At}
use Rattle.in_out_regions.specs.transformers.Lists.{first_at, or_first, value_at}
use Rattle.pipsmake_base.specs.module_phases.ScalarPhases.{analyses}
use Rattle.pipsmake_base.specs.module_phases.RegionPhases.{all_regions}
use Rattle.pipsmake_base.specs.module_phases.InPhases.{all_ins}
use Rattle.pipsmake_base.specs.module_phases.OutPhases.{all_outs}
use Rattle.f77_ast.specs.declared.marks.Mark.{Mark}
use Rattle.f77_ast.specs.declared.marks.Mark.TheVariants.{Parallel, Serial}
use Rattle.f77_ast.specs.Symbols.{SymbolTree}
use Rattle.call_graph.specs.declared.graph.Graph.{Graph}
use Rattle.call_graph.specs.CallsIn.{Each as EachOf}
use Rattle.call_graph.proofs.EachLaws.{each_joined}
use Rattle.pipsmake_base.specs.loop_marker.Results.{ModuleResults}
use Rattle.pipsmake_base.specs.loop_marker.Phases.{phases_of}
use Rattle.pipsmake_base.specs.loop_marker.dependence_test.Finding.{loop_in}
use Rattle.pipsmake_base.specs.loop_marker.Marks.{Knowledge}
use Rattle.pipsmake_base.specs.result_lines.declared.reduction.Part.{Part}
use Rattle.pipsmake_base.specs.result_lines.declared.reduction.Reduction.{Reduction}
use Rattle.reductions.specs.Reduced.{is_carried, reduction_in, at_number, found_at as reduced_at, reduced_of}
use Rattle.laws_interleavings.specs.Accumulating.{Reduction as Clause}
use Rattle.laws_bounds.specs.laws_marks.Directives.{IsFound}
use Rattle.laws_bounds.specs.laws_marks.Names.{reduction_named}
use Rattle.laws_bounds.specs.laws_marks.Said.{knowledge, reductions_of, said_by, said_of, said_at}
use Rattle.laws_bounds.proofs.LawsMarks.Marks.{found_at as found_by}
use Rattle.laws_programs.specs.roundtrip_programs.Statements.Formed.{Each}
use Rattle.laws_programs.specs.roundtrip_programs.ModuleTexts.Folded.{folded}
use Rattle.laws_programs.specs.roundtrip_programs.ModuleTexts.Numbered.{last_in, IsWell}
use Rattle.laws_lines.specs.Marks.Directives.{Clauses}
use Rattle.laws_lines.specs.Marks.Lines.{clause_of}
use Rattle.laws_lines.specs.Marks.Marked.{loops_in}
use Rattle.laws_lines.specs.Marks.MarkedLoops.{directives_found}
use Rattle.laws_lines.proofs.Marks.MarkNumbers.{Rise, loops_rise}
use Rattle.laws_lines.proofs.Marks.ByNumber.{IsSaid, directive_is_found}
use Rattle.laws_programs.proofs.Sources.{IsBuilt}
use Rattle.laws_bounds.specs.laws_analyses.Coverage.{AreWhole}
use Rattle.pips_top.specs.MarkedText.{clause_meant, directive_meant}
use Rattle.pips_top.specs.Program.{ProgramTree}
use Rattle.pips_top.specs.Shown.{results_of_program}
use Rattle.pips_top.specs.declared.wanted.Wanted.{Wanted}
use Rattle.pips_top.proofs.Said.{marks_are}
use Rattle.pips_top.proofs.ModulesSaid.{known_back}
use Rattle.pips_top.proofs.Marking.{found_numbers, got}
use Rattle.pips_top.proofs.DirectivesFound.{module_there}
use Rattle.in_out_regions.proofs.TransformerAlgebra.Members.{in_at}
use Rattle.laws_lines.proofs.Marks.Cases.{numbers}

-- ---- marks by their numbers, which go up

above : (ms : List (At Mark)) (k a b : ℕ) (m : At Mark) → Rise a b (numbers ms) → slice_get ms k ≡ Some m → a < m.id
above [] k a b m h e = cc
above (x ∷ ms) zero a b m h e = let same : x ≡ m = cc in subst (λ (y : At Mark). a < y.id) same h.0
above (x ∷ ms) (suc k) a b m h e = let l = above ms k x.id b m h.1 e in let o = h.0 in omega (arith, l, o)

first_there : (ms : List (At Mark)) (k a b : ℕ) (m : At Mark) → Rise a b (numbers ms) → slice_get ms k ≡ Some m → first_at m.id ms ≡ Some m.value
first_there [] k a b m h e = cc
first_there (x ∷ ms) zero a b m h e =
    let same : x ≡ m = cc in
    let it : nat_eq x.id m.id ≡ true = eq-eqb x.id m.id (ap (λ (y : At Mark). y.id) same) in
    ap (λ t. if t then Some x.value else first_at m.id ms) it ∙ ap (λ (y : At Mark). Some y.value) same
first_there (x ∷ ms) (suc k) a b m h e =
    let l = above ms k x.id b m h.1 e in
    let it : nat_eq x.id m.id ≡ false = ne_eqb x.id m.id (λ q. omega (arith, l, q)) in
    ap (λ t. if t then Some x.value else first_at m.id ms) it ∙ first_there ms k x.id b m h.1 e

pub value_there : (ms : List (At Mark)) (k a b : ℕ) (m : At Mark) → Rise a b (numbers ms) → slice_get ms k ≡ Some m → value_at ms m.id ≡ Some m.value
value_there ms k a b m h e = at (nat_eq m.id 0) refl
  where
    first : first_at m.id ms ≡ Some m.value
    first = first_there ms k a b m h e

    one : (x : At Mark) (j : ℕ) → slice_get ms j ≡ Some x → (t : Bool) → nat_eq x.id m.id ≡ t → (if t then Some x.value else first_at m.id ms) ≡ Some m.value
    one x j q true s = sym (first_there ms j a b x h q) ∙ ap (λ i. first_at i ms) (eqb-true x.id m.id s) ∙ first
    one x j q false s = first

    at_place : (o : Option (At Mark)) → slice_get ms (m.id - 1) ≡ o → or_first o m.id ms ≡ Some m.value
    at_place None q = first
    at_place (Some x) q = one x (m.id - 1) q (nat_eq x.id m.id) refl

    at : (t : Bool) → nat_eq m.id 0 ≡ t → or_first (if t then None else slice_get ms (m.id - 1)) m.id ms ≡ Some m.value
    at true q = first
    at false q = at_place (slice_get ms (m.id - 1)) refl

-- ---- modules

-- its marks are those of its DO statements
record AreLoops (f : ModuleResults) : Type 0 where
  count : numbers f.marks ≡ loops_in f.known.read.body
  rise : Rise 0 (last_in 0 (folded f.known.read).body) (numbers f.marks)

marks_loops : (p : ProgramTree) → AreWhole (known_of p.modules p.tables) (analyses (known_of p.modules p.tables) p.graph) → Each IsBuilt p.modules → (j : ℕ) (f : ModuleResults) → slice_get (results_of_program p) j ≡ Some f → AreLoops f
marks_loops p whole built j f e =
    let k = known_back p whole j f e in
    let m = module_there p.modules p.tables k.0 f.known k.1 in
    let b = got IsBuilt p.modules k.0 m.0 built m.1 in
    let well = subst IsWell m.2 b.well in
    let outs = all_outs p.graph (all_ins p.graph (all_regions p.graph (analyses (known_of p.modules p.tables) p.graph))) in
    let count = ap numbers (marks_are p.graph outs j f e) ∙ found_numbers p.graph.untracked (phases_of f) f.effects well in
    record { count = count; rise = subst (Rise 0 (last_in 0 (folded f.known.read).body)) (sym count) (loops_rise f.known.read well) }

pub marks_count : (p : ProgramTree) → AreWhole (known_of p.modules p.tables) (analyses (known_of p.modules p.tables) p.graph) → Each IsBuilt p.modules → (j : ℕ) (f : ModuleResults) → slice_get (results_of_program p) j ≡ Some f
    → numbers f.marks ≡ loops_in f.known.read.body
marks_count p whole built j f e = (marks_loops p whole built j f e).count

pub marks_rise : (p : ProgramTree) → AreWhole (known_of p.modules p.tables) (analyses (known_of p.modules p.tables) p.graph) → Each IsBuilt p.modules → (j : ℕ) (f : ModuleResults) → slice_get (results_of_program p) j ≡ Some f
    → Rise 0 (last_in 0 (folded f.known.read).body) (numbers f.marks)
marks_rise p whole built j f e = (marks_loops p whole built j f e).rise

-- ---- reductions are of DO statements that are not parallel by their marks

abbrev Carries : List (At Mark) → At Reduction → Type 0
Carries ms q = (m : At Mark) × (j : ℕ) × (slice_get ms j ≡ Some m) × (m.id ≡ q.id) × (is_carried m.value ≡ true)

carried_more : (x : At Mark) (ms : List (At Mark)) (qs : List (At Reduction)) → EachOf (Carries ms) qs → EachOf (Carries (x ∷ ms)) qs
carried_more x ms [] h = tt
carried_more x ms (q ∷ qs) h = ((h.0.0, suc h.0.1, h.0.2, h.0.3, h.0.4), carried_more x ms qs h.1)

carried_at : (x : At Mark) (ms : List (At Mark)) (o : Option Reduction) → is_carried x.value ≡ true → EachOf (Carries (x ∷ ms)) (at_number x.id o)
carried_at x ms None e = tt
carried_at x ms (Some r) e = ((x, zero, refl, refl, e), tt)

carried_if : (x : At Mark) (ms : List (At Mark)) (b : Bool) (o : Option Reduction) → is_carried x.value ≡ b → EachOf (Carries (x ∷ ms)) (if b then at_number x.id o else [])
carried_if x ms true o e = carried_at x ms o e
carried_if x ms false o e = tt

each_carried : (k : Knowledge) (modules : List (List ℕ)) (ms : List (At Mark)) → EachOf (Carries ms) (reduced_of k modules ms)
each_carried k modules [] = tt
each_carried k modules (x ∷ ms) =
    each_joined (Carries (x ∷ ms)) (reduced_at k modules x) (reduced_of k modules ms)
    (carried_if x ms (is_carried x.value) (reduction_in k modules x.id (loop_in x.id k.tree.body)) refl) (carried_more x ms (reduced_of k modules ms) (each_carried k modules ms))

asked_carried : (reductions : Bool) (g : Graph) (f : ModuleResults) → EachOf (Carries f.marks) (reductions_of reductions g f)
asked_carried false g f = tt
asked_carried true g f = each_carried (knowledge g f) g.order f.marks

is_so : (reductions : Bool) (g : Graph) (f : ModuleResults) (b n : ℕ) (r : Reduction) (v : Mark) → Rise 0 b (numbers f.marks) → value_at (reductions_of reductions g f) n ≡ Some r → value_at f.marks n ≡ Some v → is_carried v ≡ true
is_so reductions g f b n r v rise e here =
    let q = found_by (Carries f.marks) n r (reductions_of reductions g f) (asked_carried reductions g f) e in
    let c = q.is_so in
    let number : c.0.id ≡ n = c.3 ∙ q.number in
    let its : value_at f.marks n ≡ Some c.0.value = subst (λ i. value_at f.marks i ≡ Some c.0.value) number (value_there f.marks c.1 0 b c.0 rise c.2) in
    let same : c.0.value ≡ v = cc in
    subst (λ (m : Mark). is_carried m ≡ true) same c.4

-- ---- what is said of a DO

of_serial : (v : Mark) (r : Reduction) → is_carried v ≡ true → said_by (Some r) v ≡ Some r
of_serial (Parallel ns) r e = cc
of_serial (Serial s) r e = refl

said_so : (reductions : Bool) (g : Graph) (f : ModuleResults) (b n : ℕ) (r : Reduction) (v : Mark) → Rise 0 b (numbers f.marks) → value_at f.marks n ≡ Some v → IsSaid v (value_at (reductions_of reductions g f) n) r
    → said_at g reductions f n ≡ Some r
said_so reductions g f b n r v rise here (inl e) = ap₂ said_of e here ∙ of_serial v r (is_so reductions g f b n r v rise e here)
said_so reductions g f b n r v rise here (inr (e, is, none)) = ap₂ said_of e (here ∙ ap Some is) ∙ ap (λ (ps : List Part). Some (record { private = r.private; parts = ps })) (sym none)

clauses_so : (ss : List SymbolTree) (ps : List Part) → map clause_meant (map (clause_of (symbol_names ss)) ps) ≡ map (reduction_named ss) ps
clauses_so ss [] = refl
clauses_so ss (p ∷ ps) = ap (λ (rs : List Clause). reduction_named ss p ∷ rs) (clauses_so ss ps)

-- of the directives of a program that was read
pub directive_marks : (show : Wanted) (p : ProgramTree) → AreWhole (known_of p.modules p.tables) (analyses (known_of p.modules p.tables) p.graph) → Each IsBuilt p.modules → (x : List ℕ) (n : ℕ) (c : Clauses)
    → directives_found (reductions_of show.reductions p.graph) (results_of_program p) x n ≡ Some c → IsFound p.graph show.reductions (results_of_program p) x n (directive_meant c)
directive_marks show p whole built x n c e =
    let d = directive_is_found (reductions_of show.reductions p.graph) (results_of_program p) x n c e in
    let f = d.found in
    let a = d.among in
    let b = last_in 0 (folded f.known.read).body in
    let rise = marks_rise p whole built d.place f d.there in
    let here = value_there f.marks a.place 0 b (record { id = n; value = a.mark }) rise a.there in
    record {
      found = f;
      is_one = in_at (results_of_program p) d.place f d.there;
      named = d.name;
      said = a.reduction;
      is_said = said_so show.reductions p.graph f b n a.reduction a.mark rise here a.said;
      private = ap (λ (q : Clauses). q.private) a.clauses;
      clauses = ap (λ (q : Clauses). map clause_meant q.reductions) a.clauses ∙ clauses_so f.known.symbols a.reduction.parts;
    }
